-- tap: what comes in goes out; it counts its frames and keeps the last one.
use Rattle.std.specs.Prelude.{ℕ, zero, suc, ◌+◌, ◌-◌, ◌^◌, min, List, [], ◌∷◌, false, ℤ, pos, negsuc, codes}
use Rattle.vh_num.specs.Frames.{Frame}
use Rattle.vh_plugin.specs.Class.{Param, Class, State}
use Rattle.vh_builtin.specs.Frames.{value}
use Rattle.vh_builtin.specs.Silent.{same_state, nothing_shown}
use Rattle.vh_builtin.specs.Rows.{Row, row, params_in}
use Rattle.vh_builtin.specs.Bytes.{held_by, text_by}
use Rattle.vh_builtin.specs.Partners.{partner_of}

abbrev pub tap_rows : List Row
tap_rows = row 0 (codes "Marker") [] 0 0 0 1 ∷ []

abbrev pub tap_params : List Param
tap_params = params_in tap_rows

-- the last frame; the right sample of one channel stays
abbrev pub last_of : State → Frame → State
last_of [] main = []
last_of (last ∷ state) [] = last ∷ state
last_of (last ∷ state) (x ∷ main) = x ∷ last_of state main

-- the number of frames, which stays at its last value, and the last frame
abbrev pub tap_next : State → Frame → State
tap_next [] main = []
tap_next (negsuc n ∷ state) main = pos 0 ∷ last_of state main
tap_next (pos n ∷ state) main = pos (min (n + 1) (2 ^ 32 - 1)) ∷ last_of state main

-- a number with sign as one of 32 bits without, in two's complement
abbrev pub word_of : ℤ → ℕ
word_of (pos n) = n
word_of (negsuc n) = 2 ^ 32 - 1 - n

-- message 0 is answered by the number of frames, 1 by the last one, 2 by the marker's value
abbrev pub tap_reply : State → List ℕ → List ℕ → List ℕ
tap_reply (seen ∷ left ∷ right ∷ []) values (zero ∷ []) = word_of seen ∷ []
tap_reply (seen ∷ left ∷ right ∷ []) values (suc zero ∷ []) = word_of left ∷ word_of right ∷ []
tap_reply (seen ∷ left ∷ right ∷ []) values (suc (suc zero) ∷ []) = value values 0 ∷ []
tap_reply state values words = []

abbrev pub tap : Class
tap = record {
  params = tap_params;
  aux = false;
  start = pos 0 ∷ pos 0 ∷ pos 0 ∷ [];
  next = λ channels state values main aux. tap_next state main;
  output = λ channels state values main aux. main;
  told = same_state;
  reply = tap_reply;
  shown = nothing_shown;
  state_of = held_by tap_params;
  state_text = text_by tap_params;
  partner = partner_of 8;
}
