-- Laws about the sound of the built-in classes.
use Rattle.std.specs.Prelude.{◌≡◌, ℕ, ◌-◌, ◌^◌, ◌<◌, ◌≤◌, nat_lt, List, [], ◌∷◌, length, slice_index_or, All, Option, ℤ, pos, if◌then◌else◌}
use Rattle.vh_num.specs.Frames.{Frame}
use Rattle.vh_plugin.specs.Class.{State}
use Rattle.vh_plugin.specs.Runs.{mono, run_output}
use Rattle.vh_builtin.specs.Frames.{value, step}
use Rattle.vh_builtin.specs.Ranges.{IsSample, IsBetween}
use Rattle.vh_builtin.specs.Gain.{gain}
use Rattle.vh_builtin.specs.Balance.{balance}
use Rattle.vh_builtin.specs.Delay.{delay}
use Rattle.vh_builtin.specs.OnePole.{pole_of}
use Rattle.vh_builtin.specs.Gate.{gate}
use Rattle.vh_builtin.specs.Meter.{peaks_of, peak_word}

-- a one-pole's output lies between its state and its input
abbrev pub PoleLiesBetween : Type 0
PoleLiesBetween = (cutoff : ℕ) (z x : ℤ) → cutoff ≤ 2 ^ 24 → IsBetween z (pole_of cutoff z x) x

-- a gain of 0.5 changes nothing
abbrev pub UnityChangesNothing : Type 0
UnityChangesNothing = (channels : ℕ) (state : State) (values : List ℕ) (main : Frame) (aux : Option Frame) → value values 0 ≡ 8388608 → All IsSample main → gain.output channels state values main aux ≡ main

-- nor does a balance at its centre
abbrev pub CentreChangesNothing : Type 0
CentreChangesNothing = (state : State) (values : List ℕ) (left right : ℤ) (aux : Option Frame) → value values 0 ≡ 8388608 → balance.output 2 state values (left ∷ right ∷ []) aux ≡ left ∷ right ∷ []

-- a delay of some time, all mix and no feedback, gives what came in that long ago, and silence before
abbrev pub DelayIsInputAgo : Type 0
DelayIsInputAgo = (values : List ℕ) (samples : List ℤ) (aux : ℕ → Option Frame) (time place : ℕ) → step values 0 4095 ≡ time → 1 ≤ time → value values 1 ≡ 2 ^ 24 → value values 2 ≡ 0 → All IsSample samples → place < length samples
    → run_output delay 1 delay.start values (mono samples) aux place ≡ (if nat_lt place time then pos 0 else slice_index_or samples (place - time) (pos 0)) ∷ []

-- a meter's peak never falls but by its message
abbrev pub PeaksNeverFall : Type 0
PeaksNeverFall = (left right : ℕ) (x y : ℤ) → (p q : ℤ) → peaks_of (pos left ∷ pos right ∷ []) (x ∷ y ∷ []) ≡ p ∷ q ∷ [] → (left ≤ peak_word p) × (right ≤ peak_word q)

-- a gate passes all where its bypass is on
abbrev pub BypassPassesAll : Type 0
BypassPassesAll = (channels : ℕ) (state : State) (values : List ℕ) (main : Frame) (aux : Option Frame) → step values 2 1 ≡ 1 → gate.output channels state values main aux ≡ main
