-- onepole: each channel's state goes a part of the way to the sample, and is what is given out.
use Rattle.std.specs.Prelude.{ℕ, ◌^◌, List, [], ◌∷◌, false, ℤ, pos, ◌+ℤ◌, ◌*ℤ◌, neg_ℤ, codes}
use Rattle.vh_num.specs.Frames.{Frame}
use Rattle.vh_num.specs.Samples.{floor_div}
use Rattle.vh_plugin.specs.Class.{Param, Class, State}
use Rattle.vh_builtin.specs.Frames.{value}
use Rattle.vh_builtin.specs.Silent.{same_state, no_reply, nothing_shown}
use Rattle.vh_builtin.specs.Rows.{Row, row, params_in}
use Rattle.vh_builtin.specs.Bytes.{held_by, text_by}
use Rattle.vh_builtin.specs.Partners.{partner_of}

abbrev pub onepole_rows : List Row
onepole_rows = row 0 (codes "Cutoff") [] 0 16777216 0 1 ∷ []

abbrev pub onepole_params : List Param
onepole_params = params_in onepole_rows

abbrev pub pole_of : ℕ → ℤ → ℤ → ℤ
pole_of cutoff z x = z +ℤ floor_div ((x +ℤ neg_ℤ z) *ℤ pos cutoff) (2 ^ 24)

-- the states of the channels after a frame; those of no channel stay
abbrev pub poles_of : ℕ → State → Frame → State
poles_of cutoff [] main = []
poles_of cutoff (z ∷ state) [] = z ∷ state
poles_of cutoff (z ∷ state) (x ∷ main) = pole_of cutoff z x ∷ poles_of cutoff state main

-- and the frame
abbrev pub pole_frame : ℕ → State → Frame → Frame
pole_frame cutoff [] main = []
pole_frame cutoff (z ∷ state) [] = []
pole_frame cutoff (z ∷ state) (x ∷ main) = pole_of cutoff z x ∷ pole_frame cutoff state main

abbrev pub onepole : Class
onepole = record {
  params = onepole_params;
  aux = false;
  start = pos 0 ∷ pos 0 ∷ [];
  next = λ channels state values main aux. poles_of (value values 0) state main;
  output = λ channels state values main aux. pole_frame (value values 0) state main;
  told = same_state;
  reply = no_reply;
  shown = nothing_shown;
  state_of = held_by onepole_params;
  state_text = text_by onepole_params;
  partner = partner_of 4;
}
