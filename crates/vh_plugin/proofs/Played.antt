-- A block that is played stretch by stretch.
use Rattle.std.proofs.Common.{◌≡◌, ℕ, zero, suc, ◌+◌, ◌-◌, ◌*◌, ◌<◌, ◌≤◌, inl, true, false, nat_lt, ℤ, List, [], length, refl, sym, ap, subst, ◌∙◌, arith}
use Rattle.std.proofs.lemmas.Bool.{ltb-true, ltb-false}
use Rattle.vh_num.specs.Frames.{frame_at}
use Rattle.vh_points.specs.Queues.{Queue}
use Rattle.vh_plugin.specs.Class.{Class, State}
use Rattle.vh_plugin.specs.Blocks.{block_of, main_at, aux_at, values_at, state_in, output_in}
use Rattle.vh_plugin.specs.Stretch.{stretch_state, IsStretch}

-- the samples before `from` were played
pub record IsPlayed (class : Class) (start : State) (channels n : ℕ) (queues : List Queue) (values : List ℕ) (main aux : List ℤ) (from : ℕ) (state : State) (out : List ℤ) : Type 0 where
  pub within : from ≤ n
  pub long : length out ≡ channels * n
  pub frames : (place : ℕ) → place < from → frame_at channels n out place ≡ output_in class start (block_of channels n queues values main aux) place
  pub state_is : state ≡ state_in class start (block_of channels n queues values main aux) from

same_states : (class : Class) (start : State) (channels n : ℕ) (queues : List Queue) (values : List ℕ) (main aux : List ℤ) (from to : ℕ) (state : State) (now : List ℕ)
    → state ≡ state_in class start (block_of channels n queues values main aux) from → ((place : ℕ) → from ≤ place → place < to → values_at class.params queues values place ≡ now)
    → (k : ℕ) → from + k ≤ to → stretch_state class state now (block_of channels n [] [] main aux) from k ≡ state_in class start (block_of channels n queues values main aux) (from + k)
same_states class start channels n queues values main aux from to state now is valued zero le =
    is ∙ ap (λ place. state_in class start (block_of channels n queues values main aux) place) (let e : from ≡ from + 0 = omega arith in e)
same_states class start channels n queues values main aux from to state now is valued (suc k) le =
    let block = block_of channels n queues values main aux in
    let rest = same_states class start channels n queues values main aux from to state now is valued k (omega (arith, le)) in
    let here = valued (from + k) (omega arith) (omega (arith, le)) in
    ap (λ (s : State). class.next channels s now (main_at block (from + k)) (aux_at block (from + k))) rest
    ∙ ap (λ (vs : List ℕ). class.next channels (state_in class start block (from + k)) vs (main_at block (from + k)) (aux_at block (from + k))) (sym here)
    ∙ ap (λ place. state_in class start block place) (let e : suc (from + k) ≡ from + suc k = omega arith in e)

same_outputs : (class : Class) (start : State) (channels n : ℕ) (queues : List Queue) (values : List ℕ) (main aux : List ℤ) (from to : ℕ) (state : State) (now : List ℕ)
    → state ≡ state_in class start (block_of channels n queues values main aux) from → ((place : ℕ) → from ≤ place → place < to → values_at class.params queues values place ≡ now)
    → (k : ℕ) → from + k < to
    → class.output channels (stretch_state class state now (block_of channels n [] [] main aux) from k) now (main_at (block_of channels n [] [] main aux) (from + k)) (aux_at (block_of channels n [] [] main aux) (from + k))
    ≡ output_in class start (block_of channels n queues values main aux) (from + k)
same_outputs class start channels n queues values main aux from to state now is valued k lt =
    let block = block_of channels n queues values main aux in
    let rest = same_states class start channels n queues values main aux from to state now is valued k (omega (arith, lt)) in
    let here = valued (from + k) (omega arith) lt in
    ap (λ (s : State). class.output channels s now (main_at block (from + k)) (aux_at block (from + k))) rest
    ∙ ap (λ (vs : List ℕ). class.output channels (state_in class start block (from + k)) vs (main_at block (from + k)) (aux_at block (from + k))) (sym here)

pub played_more : (class : Class) (start : State) (channels n : ℕ) (queues : List Queue) (values : List ℕ) (main aux : List ℤ) (from to : ℕ) (state next : State) (out new : List ℤ) (now : List ℕ)
    → IsPlayed class start channels n queues values main aux from state out → from < to → to ≤ n → ((place : ℕ) → from ≤ place → place < to → values_at class.params queues values place ≡ now)
    → IsStretch class state now (block_of channels n [] [] main aux) from to out new → next ≡ stretch_state class state now (block_of channels n [] [] main aux) from (to - from)
    → IsPlayed class start channels n queues values main aux to next new
played_more class start channels n queues values main aux from to state next out new now are some within valued run is = record {
  within = within;
  long = run.long ∙ are.long;
  frames = λ place before. elim (nat_lt place from) as (λ t. nat_lt place from ≡ t → frame_at channels n new place ≡ output_in class start (block_of channels n queues values main aux) place) [
    | true ↦ λ test.
        let early = ltb-true place from test in
        run.others place (omega (arith, early, are.within)) (inl early) ∙ are.frames place early
    | false ↦ λ test.
        let late = ltb-false place from test in
        let back : from + (place - from) ≡ place = omega (arith, late) in
        subst (λ p. frame_at channels n new p ≡ output_in class start (block_of channels n queues values main aux) p) back
        (run.frames (place - from) (omega (arith, back, before)) ∙ same_outputs class start channels n queues values main aux from to state now are.state_is valued (place - from) (omega (arith, back, before)))
  ] refl;
  state_is =
      let end : from + (to - from) ≡ to = omega (arith, some) in
      is ∙ same_states class start channels n queues values main aux from to state now are.state_is valued (to - from) (omega arith) ∙ ap (λ place. state_in class start (block_of channels n queues values main aux) place) end;
}

pub played_first : (class : Class) (start : State) (channels n : ℕ) (queues : List Queue) (values : List ℕ) (main aux out : List ℤ) → length out ≡ channels * n
    → IsPlayed class start channels n queues values main aux 0 start out
played_first class start channels n queues values main aux out long = record {
  within = omega arith;
  long = long;
  frames = λ place before. absurd (omega (arith, before));
  state_is = refl;
}
