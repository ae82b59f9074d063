-- crusher: a sample is held for some samples, and its low bits are cut off.
use Rattle.std.specs.Prelude.{ℕ, zero, suc, ◌+◌, ◌-◌, ◌^◌, nat_lt, List, [], ◌∷◌, false, ℤ, pos, negsuc, ◌*ℤ◌, if◌then◌else◌, codes}
use Rattle.vh_num.specs.Frames.{Frame}
use Rattle.vh_num.specs.Samples.{floor_div}
use Rattle.vh_plugin.specs.Class.{Param, Class, State}
use Rattle.vh_builtin.specs.Frames.{step}
use Rattle.vh_builtin.specs.Silent.{same_state, no_reply, nothing_shown}
use Rattle.vh_builtin.specs.Rows.{Row, row, params_in}
use Rattle.vh_builtin.specs.Bytes.{held_by, text_by}
use Rattle.vh_builtin.specs.Partners.{partner_of}

abbrev pub crusher_rows : List Row
crusher_rows =
    row 0 (codes "Depth") [] 15 16777216 0 1
    ∷ row 1 (codes "Hold") [] 63 0 1 1
    ∷ []

abbrev pub crusher_params : List Param
crusher_params = params_in crusher_rows

-- what is held: the sample where the counter is 0, else what was held
abbrev pub held_of : ℤ → ℤ → ℤ → ℤ
held_of (pos zero) held x = x
held_of (pos (suc n)) held x = held
held_of (negsuc n) held x = held

abbrev pub holds_of : ℤ → State → Frame → State
holds_of counter [] main = []
holds_of counter (held ∷ state) [] = held ∷ state
holds_of counter (held ∷ state) (x ∷ main) = held_of counter held x ∷ holds_of counter state main

-- the counter goes from 0 to `hold`, and then anew
abbrev pub counter_of : ℕ → ℤ → ℤ
counter_of hold (pos n) = pos (if nat_lt hold (n + 1) then 0 else n + 1)
counter_of hold (negsuc n) = pos 0

abbrev pub crushed_of : ℕ → ℤ → ℤ
crushed_of bits x = floor_div x (2 ^ bits) *ℤ pos (2 ^ bits)

-- the states: the counter of all channels, and what each holds
abbrev pub crusher_next : ℕ → State → Frame → State
crusher_next hold [] main = []
crusher_next hold (counter ∷ state) main = counter_of hold counter ∷ holds_of counter state main

abbrev pub crushed_frame : ℕ → ℤ → State → Frame → Frame
crushed_frame bits counter [] main = []
crushed_frame bits counter (held ∷ state) [] = []
crushed_frame bits counter (held ∷ state) (x ∷ main) = crushed_of bits (held_of counter held x) ∷ crushed_frame bits counter state main

abbrev pub crusher_frame : ℕ → State → Frame → Frame
crusher_frame bits [] main = []
crusher_frame bits (counter ∷ state) main = crushed_frame bits counter state main

abbrev pub crusher : Class
crusher = record {
  params = crusher_params;
  aux = false;
  start = pos 0 ∷ pos 0 ∷ pos 0 ∷ [];
  next = λ channels state values main aux. crusher_next (step values 1 63) state main;
  output = λ channels state values main aux. crusher_frame (15 - step values 0 15) state main;
  told = same_state;
  reply = no_reply;
  shown = nothing_shown;
  state_of = held_by crusher_params;
  state_text = text_by crusher_params;
  partner = partner_of 5;
}
