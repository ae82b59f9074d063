-- gain: each sample times the level, where the bypass is off.
use Rattle.std.specs.Prelude.{ℕ, ◌==◌, List, [], ◌∷◌, map, false, ℤ, pos, ◌*ℤ◌, if◌then◌else◌, codes}
use Rattle.vh_num.specs.Frames.{Frame}
use Rattle.vh_num.specs.Samples.{clamp_of, floor_div}
use Rattle.vh_plugin.specs.Class.{Param, Class}
use Rattle.vh_builtin.specs.Frames.{value, step}
use Rattle.vh_builtin.specs.Silent.{same_state, no_reply, nothing_shown}
use Rattle.vh_builtin.specs.Rows.{Row, row, params_in}
use Rattle.vh_builtin.specs.Bytes.{held_by, text_by}
use Rattle.vh_builtin.specs.Partners.{partner_of}

abbrev pub gain_rows : List Row
gain_rows =
    row 0 (codes "Level") [] 0 8388608 0 1
    ∷ row 1 (codes "Bypass") [] 1 0 0 65537
    ∷ []

abbrev pub gain_params : List Param
gain_params = params_in gain_rows

abbrev pub gain_of : ℕ → ℤ → ℤ
gain_of level x = clamp_of (floor_div (x *ℤ pos level) 8388608)

abbrev pub gain_frame : List ℕ → Frame → Frame
gain_frame values main = if step values 1 1 == 1 then main else map (gain_of (value values 0)) main

abbrev pub gain : Class
gain = record {
  params = gain_params;
  aux = false;
  start = [];
  next = λ channels state values main aux. state;
  output = λ channels state values main aux. gain_frame values main;
  told = same_state;
  reply = no_reply;
  shown = nothing_shown;
  state_of = held_by gain_params;
  state_text = text_by gain_params;
  partner = partner_of 1;
}
