use Rattle.std.proofs.Common.{ℕ, Bool, ◌∙◌, arith}
use Rattle.vh_files.specs.Causes.{OnlyRead}

-- one reading after another
pub OnlyRead-then : {S : Type 0} (s s' s'' : S) (t t' t'' : Bool) (w w' w'' r r' r'' : ℕ) → OnlyRead s s' t t' w w' r r' → OnlyRead s' s'' t' t'' w' w'' r' r'' → OnlyRead s s'' t t'' w w'' r r''
OnlyRead-then s s' s'' t t' t'' w w' w'' r r' r'' first second =
    let early = first.later in
    let late = second.later in
    record {
      held = second.held ∙ first.held;
      complete = second.complete ∙ first.complete;
      writes = second.writes ∙ first.writes;
      later = omega arith;
    }
