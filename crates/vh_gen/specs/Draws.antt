-- The numbers that are drawn from a first one.
use Rattle.std.specs.Prelude.{ℕ, zero, suc, ◌+◌, ◌*◌, ◌/◌, ◌%◌, ◌^◌, ℤ, pos, ◌-ℤ◌, ◌*ℤ◌}

-- the state that a draw leaves of the one before it
unfoldable pub next_state : ℕ → ℕ
next_state state = (state * 1664525 + 1013904223) % 2 ^ 32

-- the state behind so many draws
abbrev pub behind : ℕ → ℕ → ℕ
behind zero state = state
behind (suc draws) state = next_state (behind draws state)

-- draw number `place`, from 0, behind a state: one of the numbers below `most`, by the state's upper bits
abbrev pub draw : ℕ → ℕ → ℕ → ℕ
draw state place most = behind (suc place) state / 2 ^ 16 % most

-- a normalised value below 1.0
abbrev pub drawn_value : ℕ → ℕ → ℕ
drawn_value state place = draw state place 65536 * 256

-- a sample of 24 bits whose lowest eight are 0
abbrev pub drawn_sample : ℕ → ℕ → ℤ
drawn_sample state place = (pos (draw state place 65536) -ℤ pos 32768) *ℤ pos 256
