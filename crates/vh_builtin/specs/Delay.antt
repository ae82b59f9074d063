-- delay: each channel keeps the last 4,095 numbers u, and mixes the one of `time` samples ago to the sample.
use Rattle.std.specs.Prelude.{ℕ, zero, suc, ◌-◌, ◌^◌, List, [], ◌∷◌, ◌++◌, take, drop, replicate, slice_index_or, false, ℤ, pos, ◌+ℤ◌, ◌*ℤ◌, codes}
use Rattle.vh_num.specs.Frames.{Frame}
use Rattle.vh_num.specs.Samples.{clamp_of, floor_div}
use Rattle.vh_plugin.specs.Class.{Param, Class, State}
use Rattle.vh_builtin.specs.Frames.{value, step}
use Rattle.vh_builtin.specs.Silent.{nothing_shown}
use Rattle.vh_builtin.specs.Rows.{Row, row, params_in}
use Rattle.vh_builtin.specs.Bytes.{held_by, text_by}
use Rattle.vh_builtin.specs.Partners.{partner_of}

abbrev pub delay_rows : List Row
delay_rows =
    row 0 (codes "Time") (codes "smp") 4095 0 0 1
    ∷ row 1 (codes "Mix") [] 0 8388608 0 1
    ∷ row 2 (codes "Feedback") [] 0 0 0 1
    ∷ []

abbrev pub delay_params : List Param
delay_params = params_in delay_rows

-- the number u of so many samples ago, the newest standing first, or the sample itself
abbrev pub ago : ℕ → List ℤ → ℤ → ℤ
ago zero us x = x
ago (suc time) us x = slice_index_or us time (pos 0)

abbrev pub delayed_of : ℕ → ℤ → ℤ → ℤ
delayed_of mix x w = clamp_of (floor_div ((x *ℤ pos (2 ^ 24 - mix)) +ℤ (w *ℤ pos mix)) (2 ^ 24))

abbrev pub fed_of : ℕ → ℤ → ℤ → ℤ
fed_of feedback x w = clamp_of (x +ℤ floor_div (w *ℤ pos feedback) 33554432)

-- a channel's numbers after a sample
abbrev pub kept_of : ℕ → ℕ → List ℤ → ℤ → List ℤ
kept_of time feedback us x = fed_of feedback x (ago time us x) ∷ take 4094 us

-- the numbers of the left channel, and behind them those of the right one, which stay where there is none
abbrev pub delay_next : ℕ → ℕ → State → Frame → State
delay_next time feedback state [] = state
delay_next time feedback state (x ∷ []) = kept_of time feedback (take 4095 state) x ++ drop 4095 state
delay_next time feedback state (x ∷ y ∷ main) = kept_of time feedback (take 4095 state) x ++ kept_of time feedback (drop 4095 state) y

abbrev pub delay_frame : ℕ → ℕ → State → Frame → Frame
delay_frame time mix state [] = []
delay_frame time mix state (x ∷ []) = delayed_of mix x (ago time (take 4095 state) x) ∷ []
delay_frame time mix state (x ∷ y ∷ main) = delayed_of mix x (ago time (take 4095 state) x) ∷ delayed_of mix y (ago time (drop 4095 state) y) ∷ []

unfoldable pub all_silent : State
all_silent = replicate 4095 (pos 0) ++ replicate 4095 (pos 0)

-- the message 1 is answered by 1, and silences all
abbrev pub delay_told : State → List ℕ → List ℕ → State
delay_told state values (suc zero ∷ []) = all_silent
delay_told state values words = state

abbrev pub delay_reply : State → List ℕ → List ℕ → List ℕ
delay_reply state values (suc zero ∷ []) = 1 ∷ []
delay_reply state values words = []

abbrev pub delay : Class
delay = record {
  params = delay_params;
  aux = false;
  start = all_silent;
  next = λ channels state values main aux. delay_next (step values 0 4095) (value values 2) state main;
  output = λ channels state values main aux. delay_frame (step values 0 4095) (value values 1) state main;
  told = delay_told;
  reply = delay_reply;
  shown = nothing_shown;
  state_of = held_by delay_params;
  state_text = text_by delay_params;
  partner = partner_of 3;
}
