use Rattle.std.proofs.Common.{◌≡◌, ◌∙◌, ℕ, ◌≤◌, ◌+◌, ◌*◌, List, length, ℤ, Vec, sym, ap, subst, arith}
use Rattle.std.specs.declared.alloc.Global.{Global}
use Rattle.std.specs.Prelude.{All}
use Rattle.std.specs.Vec.{with_items}
use Rattle.std.proofs.Math.Nat.{mul-le-mul_left}
use Rattle.std.proofs.lemmas.List.{length-map}
use Rattle.vh_num.specs.Frames.{frame_at}
use Rattle.vh_num.specs.Laws.{mixed}
use Rattle.vh_session.specs.declared.wire.End.{End}
use Rattle.vh_meaning.specs.World.{input_at}
use Rattle.vh_engine.specs.Buses.{rows_of, sources_of, HaveRoom}
use Rattle.vh_engine.specs.Parts.{scene_by}
use Rattle.vh_engine.proofs.Output.{out_mixed}
use Rattle.vh_engine.proofs.Remade.{sampled_anew}
use Rattle.vh_engine.proofs.block.put_out.Goals as goal

pub returns-clause-ready : goal.returns-clause-ready
returns-clause-ready g c =
    λ room ready.
    let space = c.args.work.now.space in
    let sums : Vec ℤ Global = with_items space.sums c.mix_out.new.sums in
    let main : Vec ℤ Global = with_items space.main c.mix_out.new.room in
    sampled_anew g.P.Processor.class_of g.P.Processor.code g.P.Processor.values g.P.Life.phase g.P.Life.last_setup c.args.parts.now c.args.work.now room ready sums main (sym sums.ok.0 ∙ space.sums.ok.0) (sym main.ok.0 ∙ space.main.ok.0)

pub returns-clause-out : goal.returns-clause-out
returns-clause-out g c =
    λ at input are place lt.
    let ready = c.requires.ready in
    let most = c.requires.most in
    let work = c.args.work.now in
    let parts = c.args.parts.now in
    let scene = scene_by g.P.Processor.class_of g.P.Processor.code parts in
    let channels = parts.session.channels in
    let n = c.args.n in
    let ins = c.args.ins.now in
    let rows = rows_of work.rows.items in
    let room : HaveRoom (channels * n) rows = λ node inside. let le = mul-le-mul_left channels most in let has = ready.rows.1 node inside in omega (arith, le, has) in
    ap (λ (l : List ℤ). frame_at channels n l place)
    (c.mix_out.ensures
    ∙ ap (λ (l : List (Vec ℤ Global)). mixed (length ins) (sources_of ins (rows_of l) (length ins) c.deref.result.now)) c.deref-2.ensures.value
    ∙ ap (λ (l : List End). mixed (length ins) (sources_of ins rows (length ins) l)) c.deref.ensures.value)
    ∙ out_mixed scene n place ins rows (length parts.processors.items) work.ends.items (input_at scene input (at + place)) lt c.requires.ins
    (sym ready.rows.0 ∙ sym (length-map work.rows.items (λ (r : Vec ℤ Global). r.items))) room ready.sources ready.ends (are place lt)
