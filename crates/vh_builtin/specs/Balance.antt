-- balance: of two channels one is lowered.
use Rattle.std.specs.Prelude.{ℕ, ◌-◌, ◌^◌, min, List, [], ◌∷◌, false, ℤ, pos, ◌*ℤ◌, codes}
use Rattle.vh_num.specs.Frames.{Frame}
use Rattle.vh_num.specs.Samples.{floor_div}
use Rattle.vh_plugin.specs.Class.{Param, Class}
use Rattle.vh_builtin.specs.Frames.{value}
use Rattle.vh_builtin.specs.Silent.{same_state, no_reply, nothing_shown}
use Rattle.vh_builtin.specs.Rows.{Row, row, params_in}
use Rattle.vh_builtin.specs.Bytes.{held_by, text_by}
use Rattle.vh_builtin.specs.Partners.{partner_of}

abbrev pub balance_rows : List Row
balance_rows = row 0 (codes "Position") [] 0 8388608 0 1 ∷ []

abbrev pub balance_params : List Param
balance_params = params_in balance_rows

-- a sample times a share, at most 2^23, of it
abbrev pub share_of : ℕ → ℤ → ℤ
share_of share x = floor_div (x *ℤ pos share) 8388608

abbrev pub left_share : ℕ → ℕ
left_share position = min 8388608 (2 ^ 24 - position)

abbrev pub right_share : ℕ → ℕ
right_share position = min 8388608 position

abbrev pub balance_frame : ℕ → Frame → Frame
balance_frame position [] = []
balance_frame position (x ∷ []) = x ∷ []
balance_frame position (left ∷ right ∷ main) = share_of (left_share position) left ∷ share_of (right_share position) right ∷ []

abbrev pub balance : Class
balance = record {
  params = balance_params;
  aux = false;
  start = [];
  next = λ channels state values main aux. state;
  output = λ channels state values main aux. balance_frame (value values 0) main;
  told = same_state;
  reply = no_reply;
  shown = nothing_shown;
  state_of = held_by balance_params;
  state_text = text_by balance_params;
  partner = partner_of 2;
}
