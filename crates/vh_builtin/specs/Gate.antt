-- gate: what comes in passes while the key is loud, and for some samples after.
use Rattle.std.specs.Prelude.{ℕ, ◌-◌, ◌/◌, Bool, ◌||◌, ◌==◌, nat_lt, nat_le, List, [], ◌∷◌, map, Option, Some, None, true, false, pos, negsuc, if◌then◌else◌, codes}
use Rattle.vh_num.specs.Frames.{Frame}
use Rattle.vh_plugin.specs.Class.{Param, Class, State}
use Rattle.vh_builtin.specs.Frames.{value, step, loudest}
use Rattle.vh_builtin.specs.Silent.{same_state, no_reply, nothing_shown}
use Rattle.vh_builtin.specs.Rows.{Row, row, params_in}
use Rattle.vh_builtin.specs.Bytes.{held_by, text_by}
use Rattle.vh_builtin.specs.Partners.{partner_of}

abbrev pub gate_rows : List Row
gate_rows =
    row 0 (codes "Threshold") [] 0 0 0 1
    ∷ row 1 (codes "Hold") (codes "smp") 4095 0 0 1
    ∷ row 2 (codes "Bypass") [] 1 0 0 65537
    ∷ []

abbrev pub gate_params : List Param
gate_params = params_in gate_rows

-- the aux frame where there is one, else the main frame
abbrev pub key_of : Frame → Option Frame → Frame
key_of main None = main
key_of main (Some aux) = aux

-- the key is loud at this threshold
abbrev pub is_loud : ℕ → Frame → Bool
is_loud threshold key = nat_le (threshold / 2) (loudest key)

-- how many samples more the gate stands open
abbrev pub gate_next : ℕ → ℕ → State → Frame → State
gate_next threshold hold [] key = []
gate_next threshold hold (negsuc n ∷ state) key = pos 0 ∷ []
gate_next threshold hold (pos left ∷ state) key = pos (if is_loud threshold key then hold else left - 1) ∷ []

abbrev pub is_open : State → Bool
is_open [] = false
is_open (negsuc n ∷ state) = false
is_open (pos left ∷ state) = nat_lt 0 left

abbrev pub gate_frame : ℕ → ℕ → State → Frame → Frame → Frame
gate_frame threshold bypass state key main = if is_loud threshold key || is_open state || (bypass == 1) then main else map (λ x. pos 0) main

abbrev pub gate : Class
gate = record {
  params = gate_params;
  aux = true;
  start = pos 0 ∷ [];
  next = λ channels state values main aux. gate_next (value values 0) (step values 1 4095) state (key_of main aux);
  output = λ channels state values main aux. gate_frame (value values 0) (step values 2 1) state (key_of main aux) main;
  told = same_state;
  reply = no_reply;
  shown = nothing_shown;
  state_of = held_by gate_params;
  state_text = text_by gate_params;
  partner = partner_of 6;
}
