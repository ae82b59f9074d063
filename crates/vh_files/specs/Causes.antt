-- Why a call on the outside failed.
use Rattle.std.specs.Prelude.{◌≡◌, ℕ, ◌+◌, ◌-◌, ◌^◌, ◌≤◌, min, Bool, Result, OnOk, OnErr, ◌⊎◌}

-- A count of faults that stood at `before` has risen: it is higher, or stands at its type's end.
abbrev pub Rose : ℕ → ℕ → Type 0
Rose before now = min (before + 1) (2 ^ 64 - 1) ≤ now

-- The count never falls, and rose where the call failed.
pub record HasCause {T E : Type 0} (before now : ℕ) (result : Result T E) : Type 0 where
  pub later : before ≤ now
  pub failed : OnErr result (Rose before now)

-- The same of a call on a name that a complete store may lack: there it fails and raises no count.
pub record HasCauseOrLacks {T E : Type 0} (lacks : Type 0) (before now : ℕ) (result : Result T E) : Type 0 where
  pub later : before ≤ now
  pub failed : OnErr result (lacks ⊎ Rose before now)
  pub lacking : lacks → now ≡ before

-- a store was only read: its files, whether it is complete and its count of faults of writing are as
-- before, and its count of faults of reading hasn't fallen
pub record OnlyRead {Files : Type 0} (files files_now : Files) (told told_now : Bool) (writing writing_now reading reading_now : ℕ) : Type 0 where
  pub held : files_now ≡ files
  pub complete : told_now ≡ told
  pub writes : writing_now ≡ writing
  pub later : reading ≤ reading_now

-- A call that succeeds leaves the count, and one that fails leaves it or raises it by one.
pub record CountsOnce {T E : Type 0} (before now : ℕ) (result : Result T E) : Type 0 where
  pub succeeded : OnOk result (now ≡ before)
  pub failed : OnErr result ((now ≡ before) ⊎ (now ≡ min (before + 1) (2 ^ 64 - 1)))
