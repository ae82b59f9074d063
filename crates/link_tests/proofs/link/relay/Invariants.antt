use Rattle.std.proofs.Common.{◌-◌, ◌≡◌, ◌≤◌, ◌*◌, [], length}
use Rattle.link_tests.proofs.link.relay.Given as goal

abbrev pub invariant-loop-done : goal.invariant-loop-done
invariant-loop-done g l = record {
  channels : g.L.Frames.channels l.link ≡ l.channels;
  most : l.block ≤ g.L.Frames.max l.link;
  room : g.L.Frames.room l.link ≡ l.frames;
  pushed : g.L.Frames.pushed l.link ≡ l.done;
  whole : g.L.Frames.cut l.link ≡ [];
  rest : g.L.Frames.rest l.link ≡ g.L.Frames.rest l.fn.link;
  long : length l.samples ≡ l.channels * l.block;
  within : l.done ≤ l.frames;
}

abbrev pub decreases-loop-done : goal.decreases-loop-done
decreases-loop-done g l = l.frames - l.done
