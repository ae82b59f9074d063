-- A class over streams that are the same over a block.
use Rattle.std.proofs.Common.{◌≡◌, ◌∙◌, ℕ, zero, suc, ◌<◌, ◌≤◌, List, Option, refl, arith, ℤ}
use Rattle.vh_num.specs.Frames.{Frame, frame_at}
use Rattle.vh_plugin.specs.Class.{Class, State}
use Rattle.vh_plugin.specs.Streams.{state_over, output_over}
use Rattle.vh_meaning.proofs.Reaching.{by_parts}
use Rattle.vh_engine.specs.Nodes.{stream_of, IsRun}

-- what reaches a node over a block, in two spellings
module _ (class : Class) (start : State) (channels n : ℕ) (values : ℕ → List ℕ) (main mains : ℕ → Frame) (aux auxes : ℕ → Option Frame)
    (same_main : (place : ℕ) → place < n → main place ≡ mains place) (same_aux : (place : ℕ) → place < n → aux place ≡ auxes place) where
  state_alike : (place : ℕ) → place ≤ n → state_over class start (stream_of channels values main aux) place ≡ state_over class start (stream_of channels values mains auxes) place
  state_alike zero within = refl
  state_alike (suc place) within =
      by_parts (class.next channels) _ _ (values place) (values place) (main place) (mains place) (aux place) (auxes place) (state_alike place (omega (arith, within))) refl (same_main place (omega (arith, within))) (same_aux place (omega (arith, within)))

  output_alike : (place : ℕ) → place < n → output_over class start (stream_of channels values main aux) place ≡ output_over class start (stream_of channels values mains auxes) place
  output_alike place within =
      by_parts (class.output channels) _ _ (values place) (values place) (main place) (mains place) (aux place) (auxes place) (state_alike place (omega (arith, within))) refl (same_main place within) (same_aux place within)

  -- a node runs the same over both, and its frames may stand in other samples
  pub run_alike : (new : State) (samples others : List ℤ) → ((place : ℕ) → place < n → frame_at channels n others place ≡ frame_at channels n samples place)
      → IsRun class (stream_of channels values main aux) n start new samples → IsRun class (stream_of channels values mains auxes) n start new others
  run_alike new samples others same run = record {
    frames = λ place within. same place within ∙ run.frames place within ∙ output_alike place within;
    state = run.state ∙ state_alike n (omega arith);
  }
