-- meter: what comes in goes out, and each channel's peak is shown.
use Rattle.std.specs.Prelude.{ℕ, zero, suc, ◌*◌, min, max, List, [], ◌∷◌, false, ℤ, pos, negsuc, codes}
use Rattle.vh_num.specs.Frames.{Frame}
use Rattle.vh_plugin.specs.Class.{Param, Class, State}
use Rattle.vh_builtin.specs.Frames.{magnitude}
use Rattle.vh_builtin.specs.Rows.{Row, row, params_in}
use Rattle.vh_builtin.specs.Bytes.{held_by, text_by}
use Rattle.vh_builtin.specs.Partners.{partner_of}

abbrev pub meter_rows : List Row
meter_rows =
    row 0 (codes "Peak left") [] 0 0 0 2
    ∷ row 1 (codes "Peak right") [] 0 0 0 2
    ∷ []

abbrev pub meter_params : List Param
meter_params = params_in meter_rows

-- the peak, at most full scale
abbrev pub peak_of : ℤ → ℤ → ℤ
peak_of (negsuc n) x = pos 0
peak_of (pos peak) x = pos (max peak (min (magnitude x) 8388608))

abbrev pub peaks_of : State → Frame → State
peaks_of [] main = []
peaks_of (peak ∷ state) [] = peak ∷ state
peaks_of (peak ∷ state) (x ∷ main) = peak_of peak x ∷ peaks_of state main

-- the message 1 is answered by both peaks, which then are 0
abbrev pub meter_told : State → List ℕ → List ℕ → State
meter_told state values (suc zero ∷ []) = pos 0 ∷ pos 0 ∷ []
meter_told state values words = state

abbrev pub peak_word : ℤ → ℕ
peak_word (pos peak) = peak
peak_word (negsuc n) = 0

abbrev pub meter_reply : State → List ℕ → List ℕ → List ℕ
meter_reply (left ∷ right ∷ []) values (suc zero ∷ []) = peak_word left ∷ peak_word right ∷ []
meter_reply state values words = []

-- twice the peak of the left channel, or of the right one
abbrev pub meter_shown : State → ℕ → ℕ
meter_shown (left ∷ right ∷ []) zero = 2 * peak_word left
meter_shown (left ∷ right ∷ []) (suc zero) = 2 * peak_word right
meter_shown state id = 0

abbrev pub meter : Class
meter = record {
  params = meter_params;
  aux = false;
  start = pos 0 ∷ pos 0 ∷ [];
  next = λ channels state values main aux. peaks_of state main;
  output = λ channels state values main aux. main;
  told = meter_told;
  reply = meter_reply;
  shown = meter_shown;
  state_of = held_by meter_params;
  state_text = text_by meter_params;
  partner = partner_of 7;
}
