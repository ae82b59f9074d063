use Rattle.std.proofs.Common.{◌≡◌, [], ◌-◌, ◌++◌, take, drop, ap, ◌∙◌, inl, inr, arith}
use Rattle.vh_plugin.specs.Blocks.{block_of}
use Rattle.vh_plugin.specs.Stretch.{stretch_state, IsStretch}
use Rattle.vh_plugin.proofs.Frames.{AreHalves, written, stereo_run}
use Rattle.vh_plugin.proofs.kernel.run_stereo.Given as given
use Rattle.vh_plugin.proofs.kernel.run_stereo.Goals as goal

stretch : (g : given.Over) (c : goal.After-out-2-1 g)
    → IsStretch g.K.Kernel.class (g.K.Kernel.state c.args.kernel.now) c.args.values.now (block_of 2 c.args.n [] [] c.args.main.now c.args.aux.now) c.args.from c.args.to c.args.out.now
    (written c.split_at_mut-out_left.result.0.now c.args.from (c.args.to - c.args.from) c.stereo.new.out_left ++ written c.split_at_mut-out_left.result.1.now c.args.from (c.args.to - c.args.from) c.stereo.new.out_right)
    × (g.K.Kernel.state c.stereo.new.self ≡ stretch_state g.K.Kernel.class (g.K.Kernel.state c.args.kernel.now) c.args.values.now (block_of 2 c.args.n [] [] c.args.main.now c.args.aux.now) c.args.from (c.args.to - c.args.from))
stretch g c =
    let are : AreHalves c.args.n c.args.aux.now = elim c.requires.aux [ inl none ↦ inl none | inr both ↦ inr (omega (arith, both.0)) ] in
    stereo_run g.K.Kernel.class (g.K.Kernel.state c.args.kernel.now) (g.K.Kernel.state c.stereo.new.self) c.args.values.now c.args.n c.args.from c.args.to c.args.main.now c.args.aux.now
    c.split_at.result.0.now c.split_at.result.1.now c.split_at-2.result.0.now c.split_at-2.result.1.now c.part_of-aux_left.result.now c.part_of-aux_right.result.now
    c.args.out.now c.split_at_mut-out_left.result.0.now c.split_at_mut-out_left.result.1.now c.stereo.new.out_left c.stereo.new.out_right
    c.requires.from c.requires.to (omega (arith, c.requires.main)) (omega (arith, c.requires.out)) are
    c.split_at.ensures.front c.split_at.ensures.back
    (c.split_at-2.ensures.front ∙ ap (λ k. take k c.args.aux.now) c.min.ensures) (c.split_at-2.ensures.back ∙ ap (λ k. drop k c.args.aux.now) c.min.ensures)
    c.split_at_mut-out_left.ensures.front c.split_at_mut-out_left.ensures.back
    c.part_of-aux_left.ensures c.part_of-aux_right.ensures c.stereo.auto.out_left c.stereo.auto.out_right c.stereo.ensures.out c.stereo.ensures.state

pub returns-clause-out : goal.returns-clause-out
returns-clause-out g c = (stretch g c).0

pub returns-clause-state : goal.returns-clause-state
returns-clause-state g c = (stretch g c).1
