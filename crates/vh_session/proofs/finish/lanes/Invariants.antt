use Rattle.std.proofs.Common.{◌≡◌, All, map, take}
use Rattle.vh_session.specs.Parts.{HasSteps, laned}
use Rattle.vh_session.specs.View.{lane_text}
use Rattle.vh_session.proofs.finish.lanes.Given as goal

abbrev pub invariant-loop-draft : goal.invariant-loop-draft
invariant-loop-draft l = (map laned l.lanes.items ≡ map lane_text (take l.draft-index l.drafts)) × All (HasSteps l.nodes) l.lanes.items
