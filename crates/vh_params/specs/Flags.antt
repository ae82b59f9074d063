-- What a parameter's flags say of it.
use Rattle.std.specs.Prelude.{ℕ, Bool, not, ◌==◌, bit_and}

-- it can be set
abbrev pub is_writable : ℕ → Bool
is_writable flags = bit_and flags 2 == 0

-- it is shown and can't be set
abbrev pub is_read_only : ℕ → Bool
is_read_only flags = not (is_writable flags)

-- the host may change it over time
abbrev pub is_automatable : ℕ → Bool
is_automatable flags = not (bit_and flags 1 == 0)
