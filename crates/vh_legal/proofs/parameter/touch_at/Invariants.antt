use Rattle.std.proofs.Common.{◌≡◌, ◌≤◌, ◌^◌, take}
use Rattle.std.specs.Option.{option_copied}
use Rattle.vh_meaning.specs.Edits.{edits_of, up_to}
use Rattle.vh_meaning.specs.Stands.{touch_after}
use Rattle.vh_legal.specs.Touches.{touch_of}
use Rattle.vh_legal.specs.Values.{line_in}
use Rattle.vh_legal.proofs.parameter.touch_at.Given as goal

abbrev pub invariant-loop-entry : goal.invariant-loop-entry
invariant-loop-entry l = record {
  touch_is : touch_of l.touch ≡ touch_after (line_in (option_copied l.lane)) l.param.steps l.first (edits_of (up_to l.sample (take l.entry-index l.entries)) l.node l.param.id);
  value : l.touch.value ≤ 2 ^ 24;
  begun : l.touch.begun ≤ l.entry-index;
  ended : l.touch.ended ≤ l.entry-index;
}
