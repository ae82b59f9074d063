-- Counts that stay at their last value, raised several times.
use Rattle.std.specs.Prelude.{◌≡◌, ◌≤◌, ◌<◌, ◌^◌, ◌+◌, ◌-◌, ℕ, zero, suc, List, [], ◌∷◌, sum, replicate}
use Rattle.vh_plugin.specs.Counts.{raised, raised_by}

-- raised by one, so many times
abbrev pub raised_times : ℕ → ℕ → ℕ
raised_times zero count = count
raised_times (suc n) count = raised (raised_times n count)

-- raised by each of these numbers
abbrev pub raised_by_each : List ℕ → ℕ → ℕ
raised_by_each [] count = count
raised_by_each (n ∷ ns) count = raised_by n (raised_by_each ns count)

-- A number of 64 bits that is raised so many times, or by each of these numbers, is raised by their sum.
abbrev pub RaisedBySum : Type 0
RaisedBySum = (ns : List ℕ) (n count : ℕ) → count ≤ 2 ^ 64 - 1 → (raised_by_each ns count ≡ raised_by (sum ns) count) × (raised_times n count ≡ raised_by n count)

-- What a set counts where all that was made was ended again, without having been called.
pub record IsUndone (old_made old_ended old_work new_made new_ended new_work : ℕ) : Type 0 where
  pub objects : ℕ
  pub made : new_made ≡ raised_times objects old_made
  pub ended : new_ended ≡ raised_times objects old_ended
  pub components : ℕ
  pub work : new_work ≡ raised_by_each (replicate components 0) old_work

-- Of numbers of 64 bits the count of calls is then as it was, and while no count stands at its limit, as many more were
-- made as ended.
abbrev pub UndoneIsEven : Type 0
UndoneIsEven = (old_made old_ended old_work new_made new_ended new_work : ℕ) → IsUndone old_made old_ended old_work new_made new_ended new_work
    → old_made ≤ 2 ^ 64 - 1 → old_ended ≤ 2 ^ 64 - 1 → old_work ≤ 2 ^ 64 - 1 → new_made < 2 ^ 64 - 1 → new_ended < 2 ^ 64 - 1
    → (new_made + old_ended ≡ new_ended + old_made) × (new_work ≡ old_work)
