use Rattle.std.proofs.Common.{◌≡◌, ◌∙◌, ℕ, List, [], length, replicate, pos, sym, ap, arith}
use Rattle.std.proofs.lemmas.List.{nil_from_length}
use Rattle.vh_num.specs.Laws.{mixed}
use Rattle.vh_session.specs.declared.wire.End.{End}
use Rattle.vh_engine.specs.Buses.{rows_of, samples_of, sources_of}
use Rattle.vh_engine.proofs.Rows.{source_long}
use Rattle.vh_engine.proofs.Mixing.{mixed_none, mixed_alone}
use Rattle.vh_engine.proofs.bus.mix.Goals as goal

pub returns-in-empty-clause-mix : goal.returns-in-empty-clause-mix
returns-in-empty-clause-mix c =
    let ins = c.args.ins.now in
    let n = length ins in
    let none : c.args.ends.now ≡ [] = nil_from_length c.args.ends.now (omega arith) in
    let silent : c.fill.new.self ≡ replicate n (pos 0) = c.fill.ensures.after (λ y h. h) ∙ ap (λ (m : ℕ). replicate m (pos 0)) c.requires.room in
    silent ∙ sym (mixed_none n) ∙ ap (λ (ends : List End). mixed n (sources_of ins (rows_of c.args.rows.now) n ends)) (sym none)

pub returns-in-len1-clause-mix : goal.returns-in-len1-clause-mix
returns-in-len1-clause-mix c =
    let ins = c.args.ins.now in
    let ends = c.args.ends.now in
    let is = c.samples-source.ensures in
    mixed_alone (samples_of ins (rows_of c.args.rows.now) (length ins)) ends _ (length ins) c.samples-source.result.now (omega arith) is
    (ap length is ∙ source_long ins c.args.rows.now _ (c.requires.sources 0 _ (omega arith)) c.requires.rows) c.are_samples.ensures
