use Rattle.std.proofs.Common.{◌≡◌, ◌-◌, ◌∙◌, length, refl, arith}
use Rattle.std.proofs.lemmas.List.{length-take-le}
use Rattle.vh_wav.proofs.Windows.{seen_chunk}
use Rattle.vh_wav.proofs.head.read_chunk.Goals as goal

pub returns-clause-value : goal.returns-clause-value
returns-clause-value g c = λ bytes e.
    let length_is = c.requires.size bytes e in
    let fills = c.in_ok-got.ensures.bytes bytes e in
    let size : length c.fill.new.buf ≡ c.min-room.result = c.fill.auto.buf ∙ length-take-le c.min-room.result _ (omega arith) in
    seen_chunk bytes c.fill.new.buf _ c.args.at _ (c.args.size - c.args.at) c.min-room.result _ fills size (omega arith) (omega arith) (omega arith) refl refl (omega arith)
