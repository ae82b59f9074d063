use Rattle.std.proofs.Common.{◌≡◌, ◌≤◌, ◌+◌, length, take}
use Rattle.vh_core.specs.Run.{through}
use Rattle.vh_core.proofs.machine.Machine.run.Given as goal

-- the events before this one were done
abbrev pub invariant-loop-event : goal.invariant-loop-event
invariant-loop-event g l = record {
  run : l.self ≡ through g.P.Processor.class_of (take l.event-index l.events) l.fn.self;
  few : length l.self.state.puts ≤ length l.fn.self.state.puts + l.event-index;
}
