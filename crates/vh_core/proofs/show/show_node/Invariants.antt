use Rattle.std.proofs.Common.{◌≡◌, ◌≤◌, ◌+◌, ◌-◌, ◌++◌, length, drop}
use Rattle.std.specs.Prelude.{vec_len, vec_capacity}
use Rattle.vh_meaning.specs.Rendering.{seen_of}
use Rattle.vh_core.proofs.show.show_node.Given as goal

abbrev pub invariant-loop-place : goal.invariant-loop-place
invariant-loop-place g l =
    let class = g.P.Processor.class_of (g.P.Processor.code l.processor) in
    let state = g.P.Processor.state l.processor in
    record {
      room : vec_len l.shown + (length l.params - l.place) ≤ vec_capacity l.shown;
      long : vec_len l.shown ≡ vec_len l.fn.shown + l.place;
      same : vec_capacity l.shown ≡ vec_capacity l.fn.shown;
      shown : l.shown.items ++ seen_of class state (drop l.place class.params) (drop l.place l.given) ≡ l.fn.shown.items ++ seen_of class state class.params l.given;
    }
