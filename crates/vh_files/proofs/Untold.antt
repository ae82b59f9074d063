use Rattle.std.proofs.Common.{◌≡◌, ℕ, List, None}
use Rattle.std.specs.Ordering.{nat_cmp}
use Rattle.std.specs.Cmp.Lexicographic.{slice_cmp}
use Rattle.std.specs.FinMap.{empty, get-empty}
use Rattle.vh_files.specs.Store.{told}

-- a store that tells no file tells none of this name
pub told_empty : (name : List ℕ) → told empty name ≡ None
told_empty name = get-empty (slice_cmp nat_cmp) name
