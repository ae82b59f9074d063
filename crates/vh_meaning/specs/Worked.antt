-- Worked examples of the definitions.
use Rattle.std.specs.Prelude.{◌≡◌, ◌≤◌, ℕ, true, false, List, [], ◌∷◌, Some, None, ℤ, pos, negsuc}
use Rattle.vh_params.specs.declared.command.Command.{Command}
use Rattle.vh_params.specs.declared.command.Command.TheVariants.{Begin, Perform, End, Tell}
use Rattle.vh_params.specs.declared.label.Words.{Words}
use Rattle.vh_params.specs.Short.{words_in}
use Rattle.vh_num.specs.Frames.{Frame}
use Rattle.vh_plugin.specs.Class.{Param, State}
use Rattle.vh_session.specs.Entry.{LaneText}
use Rattle.vh_session.specs.declared.wire.End.TheVariants.{In, Node as AtNode}
use Rattle.vh_session.specs.declared.wire.Wire.{Wire}
use Rattle.vh_journal.specs.declared.entry.Entry.{Entry}
use Rattle.vh_meaning.specs.Scene.{Scene, class_at, params_at, firsts_at}
use Rattle.vh_meaning.specs.Values.{value_of}
use Rattle.vh_meaning.specs.Mix.{mix, main_mix, aux_mix}
use Rattle.vh_meaning.specs.World.{silence, input_at, told}
use Rattle.vh_meaning.specs.Rendering.{stops}

abbrev pub entry_of : ℕ → ℕ → ℕ → Command → Entry
entry_of sample editor seq command = record { sample = sample; editor = editor; seq = seq; command = command }

-- a lane of parameter 0 of node 0
abbrev pub lane_with : ℕ → List (ℕ × ℕ) → List LaneText
lane_with grain breaks = record { node = 0; id = 0; grain = grain; breaks = breaks } ∷ []

-- a scene with these lanes, in which node 0 has this one parameter, continuous and of id 0
pub record HasOneParameter (scene : Scene) (param : Param) (first : ℕ) (lanes : List LaneText) : Type 0 where
  pub params : params_at scene 0 ≡ param ∷ []
  pub firsts : firsts_at scene 0 ≡ first ∷ []
  pub id : param.id ≡ 0
  pub steps : param.steps ≡ 0
  pub lane : scene.lanes ≡ lanes

-- two editors whose gestures overlap
abbrev pub two_editors : List Entry
two_editors =
    entry_of 10 0 0 (Begin 0 0) ∷ entry_of 20 1 0 (Begin 0 0) ∷ entry_of 30 0 1 (Perform 0 0 8388608)
    ∷ entry_of 64 0 2 (End 0 0) ∷ entry_of 128 1 1 (End 0 0) ∷ []

-- Over a lane that stands at a quarter: it rests from the first begin to the last end, and the value that was
-- performed stands until both have ended.
pub record TwoEditors (scene : Scene) (param : Param) (first : ℕ) : Type 0 where
  pub lane : (s : ℕ) → s ≤ 29 → value_of scene two_editors 0 param first s ≡ 4194304
  pub performed : (s : ℕ) → 30 ≤ s → s ≤ 127 → value_of scene two_editors 0 param first s ≡ 8388608
  pub lane_again : (s : ℕ) → 128 ≤ s → value_of scene two_editors 0 param first s ≡ 4194304

-- a gesture without a perform
abbrev pub held_still : List Entry
held_still = entry_of 25 0 0 (Begin 0 0) ∷ entry_of 50 0 1 (End 0 0) ∷ []

-- Over a lane of grain 16 that rises to 1.0 in 100 samples: it stands still where the gesture began, and goes on where
-- it would be by then.
pub record HeldStill (scene : Scene) (param : Param) (first : ℕ) : Type 0 where
  pub before : value_of scene held_still 0 param first 24 ≡ 3997696
  pub still : (s : ℕ) → 25 ≤ s → s ≤ 49 → value_of scene held_still 0 param first s ≡ 4194304
  pub goes_on : value_of scene held_still 0 param first 50 ≡ 8388608

-- a message between two performs at one sample
abbrev pub message_between : ℕ → ℕ → ℕ → Words → List Entry
message_between s one other words = entry_of s 0 0 (Perform 0 0 one) ∷ entry_of s 0 1 (Tell 0 words) ∷ entry_of s 0 2 (Perform 0 0 other) ∷ []

-- It meets the value after the perform before it, and it alone stops a piece.
pub record MessageBetween (scene : Scene) (s one other : ℕ) (words : Words) (states : ℕ → State) : Type 0 where
  pub meets : told scene (message_between s one other words) s states 0 ≡ (class_at scene 0).told (states 0) (one ∷ []) (words_in words)
  pub stop : stops (message_between s one other words) ≡ s ∷ []

-- twice the highest sample and once the lowest: clamped once, at the end
abbrev pub loud : List Frame
loud = (pos 2147483647 ∷ []) ∷ (pos 2147483647 ∷ []) ∷ (negsuc 2147483647 ∷ []) ∷ []

-- node 1 has the input on its main bus and node 0 on its aux bus
abbrev pub side_chain : List Wire
side_chain = record { from = In; to = AtNode 1; aux = false } ∷ record { from = AtNode 0; to = AtNode 1; aux = true } ∷ []

-- Each bus has what its own wires bring, and a node without an aux wire has no aux frame.
pub record SideChain (input frame : ℤ) : Type 0 where
  pub main : main_mix 1 side_chain (input ∷ []) (λ node. frame ∷ []) (AtNode 1) ≡ mix 1 ((input ∷ []) ∷ [])
  pub aux : aux_mix 1 side_chain (input ∷ []) (λ node. frame ∷ []) (AtNode 1) ≡ Some (mix 1 ((frame ∷ []) ∷ []))
  pub none : aux_mix 1 side_chain (input ∷ []) (λ node. frame ∷ []) (AtNode 0) ≡ None

pub record Worked : Type 0 where
  pub two_editors : (scene : Scene) (param : Param) (first : ℕ) → HasOneParameter scene param first (lane_with 0 ((0, 4194304) ∷ [])) → TwoEditors scene param first
  pub held_still : (scene : Scene) (param : Param) (first : ℕ) → HasOneParameter scene param first (lane_with 16 ((0, 0) ∷ (100, 16777216) ∷ [])) → HeldStill scene param first
  pub message : (scene : Scene) (param : Param) (first s one other : ℕ) (words : Words) (states : ℕ → State) → HasOneParameter scene param first [] → MessageBetween scene s one other words states
  pub loud : mix 1 loud ≡ pos 2147483646 ∷ []
  pub side_chain : (input frame : ℤ) → SideChain input frame
  -- two frames of input, and then silence
  pub past_end : (scene : Scene) → input_at scene ((pos 7 ∷ []) ∷ (pos 8 ∷ []) ∷ []) 2 ≡ silence scene.channels
