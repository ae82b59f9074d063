use Rattle.std.proofs.Common.{rules, ◌∙◌}
use Rattle.vh_wav.proofs.InMemory.{weave_more}
use Rattle.vh_wav.proofs.list_frames.weave.Goals as goal

pub loop-k-preserved : goal.loop-k-preserved
loop-k-preserved c = record {
  items = c.add_pair.ensures.added ∙ weave_more c.loop-k.outs.items c.args.outs.now.items c.args.left.now c.args.right.now c.loop-k.k _ _ c.requires.both (search rules) c.loop-k.invariant.items (search rules) (search rules);
  len = search rules;
  capacity = search rules;
}
