use Rattle.std.proofs.Common.{◌≡◌, map, option_map, vec_capacity}
use Rattle.vh_answers.specs.Each.{AllGive}
use Rattle.vh_answers.specs.Outside.{store, OnlyReads}
use Rattle.vh_preset.specs.Seen.{contents_of}
use Rattle.vh_session.specs.Names.{content_of}
use Rattle.vh_reading.specs.Reading.{node_step}
use Rattle.vh_reading.proofs.presets.read_presets.Given as goal

abbrev pub invariant-loop-node : goal.invariant-loop-node
invariant-loop-node g l = record {
  given : AllGive (store g.F.Files l.initial.files) (node_step (content_of l.session)) l.node (map (option_map contents_of) l.presets.items);
  places : vec_capacity l.presets ≡ l.count;
  only_read : OnlyReads (store g.F.Files l.initial.files) (store g.F.Files l.files);
}
