use Rattle.std.proofs.Common.{◌≡◌, length, map, replicate, None, option_map, vec_capacity}
use Rattle.vh_preset.specs.Seen.{contents_of}
use Rattle.vh_instance.proofs.presets.no_presets.Given as goal

abbrev pub invariant-loop : goal.invariant-loop
invariant-loop l = record {
  size : length l.presets.items ≡ l.counter;
  none : map (option_map contents_of) l.presets.items ≡ replicate l.counter None;
  room : vec_capacity l.presets ≡ l.nodes;
}
