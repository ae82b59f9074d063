-- Values that bytes hold, in the place of others.
use Rattle.std.specs.Prelude.{◌≡◌, ℕ, Bool, true, false, List, length, ◌++◌, drop}
use Rattle.vh_builtin.specs.Bytes.{is_form, pair_values}

-- the first values are those that the bytes hold, or these aren't of the form
abbrev pub TakesHeld : List ℕ → List ℕ → List ℕ → List ℕ → Bool → Type 0
TakesHeld ids bytes old new true = (is_form ids bytes ≡ true) × (new ≡ pair_values ids bytes 4 ++ drop (length ids) old)
TakesHeld ids bytes old new false = (is_form ids bytes ≡ false) × (new ≡ old)
