use Rattle.std.proofs.Common.{◌≡◌, ◌≤◌, ◌^◌, take}
use Rattle.std.specs.Prelude.{All}
use Rattle.vh_engine.specs.Told.{values_now_of}
use Rattle.vh_engine.proofs.told.put_values.Given as goal

abbrev pub invariant-loop-place : goal.invariant-loop-place
invariant-loop-place l = (take l.place l.given ≡ values_now_of l.lanes (take l.place l.controls) l.sample) × All (λ value. value ≤ 2 ^ 24) (take l.place l.given)
