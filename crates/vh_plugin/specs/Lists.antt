-- The classes of two sets, one list behind the other.
use Rattle.std.specs.Prelude.{◌≡◌, ◌≢◌, ℕ, ◌+◌, ◌-◌, ◌*◌, ◌<◌, nat_lt, List, length, slice_index_or, if◌then◌else◌}
use Rattle.vh_params.specs.declared.class.ClassInfo.{ClassInfo}
use Rattle.vh_params.specs.Short.{label_text}
use Rattle.vh_params.specs.Tables.{params_of, units_of}

-- the same is said of both classes
pub record IsSame (one other : ClassInfo) : Type 0 where
  pub name : one.name ≡ other.name
  pub component : one.component ≡ other.component
  pub controller : one.controller ≡ other.controller
  pub aux : one.aux ≡ other.aux
  pub params : params_of one.params ≡ params_of other.params
  pub units : units_of one.params ≡ units_of other.params

-- behind the first list stands the same of so many classes of the second
pub record AreCopied (old from now : List ClassInfo) (n : ℕ) : Type 0 where
  pub long : length now ≡ length old + n
  pub kept : (i : ℕ) (d : ClassInfo) → i < length old → slice_index_or now i d ≡ slice_index_or old i d
  pub same : (i : ℕ) (d : ClassInfo) → i < n → IsSame (slice_index_or now (length old + i) d) (slice_index_or from i d)

-- the classes of the first set, and those of the second behind them
pub record AreBoth (first second both : List ClassInfo) : Type 0 where
  pub long : length both ≡ length first + length second
  pub firsts : (i : ℕ) (d : ClassInfo) → i < length first → IsSame (slice_index_or both i d) (slice_index_or first i d)
  pub seconds : (i : ℕ) (d : ClassInfo) → i < length second → IsSame (slice_index_or both (length first + i) d) (slice_index_or second i d)

-- no name of a class of one set is that of a class of the other
abbrev pub NamesApart : List ClassInfo → List ClassInfo → Type 0
NamesApart first second = (i j : ℕ) (d : ClassInfo) → i < length first → j < length second → label_text (slice_index_or first i d).name ≢ label_text (slice_index_or second j d).name

-- the code of each class of both
abbrev pub code_in_both : ℕ → (ℕ → ℕ) → (ℕ → ℕ) → ℕ → ℕ
code_in_both firsts first second class = if nat_lt class firsts then 2 * first class else 2 * second (class - firsts) + 1
