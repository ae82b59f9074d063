-- A stretch that is run sample by sample, for any class.
use Rattle.std.proofs.Common.{◌≡◌, ◌≢◌, ℕ, suc, ◌+◌, ◌<◌, true, false, nat_lt, ℤ, pos, List, [], ◌∷◌, length, set, refl, sym, ap, ap₂, subst, ◌∙◌, arith}
use Rattle.std.proofs.lemmas.Bool.{ltb-true, ltb-false}
use Rattle.std.proofs.lemmas.List.{get_or-set_same, get_or-set_other}
use Rattle.vh_plugin.specs.Class.{Class, State}
use Rattle.vh_plugin.specs.Runs.{mono, stereo, aux_mono, aux_stereo, run_state, run_output}

-- the first samples of one channel were run
pub record IsMono (class : Class) (start : State) (values : List ℕ) (main aux : List ℤ) (i : ℕ) (state : State) (out : List ℤ) : Type 0 where
  pub state_is : state ≡ run_state class 1 start values (mono main) (aux_mono aux) i
  pub frames : (place : ℕ) → place < i → mono out place ≡ run_output class 1 start values (mono main) (aux_mono aux) place

differ : (i k : ℕ) → k < i → k ≢ i
differ i k lt same = absurd (omega (arith, lt, same))

pub mono_more : (class : Class) (start : State) (values : List ℕ) (main aux : List ℤ) (i : ℕ) (state next : State) (out : List ℤ) (y : ℤ) → IsMono class start values main aux i state out → i < length out
    → next ≡ class.next 1 state values (mono main i) (aux_mono aux i) → (y ∷ []) ≡ class.output 1 state values (mono main i) (aux_mono aux i)
    → IsMono class start values main aux (i + 1) next (set out i y)
mono_more class start values main aux i state next out y are inside is_next is_out = record {
  state_is = is_next ∙ ap (λ (s : State). class.next 1 s values (mono main i) (aux_mono aux i)) are.state_is
      ∙ (let e : i + 1 ≡ suc i = omega arith in sym (ap (λ k. run_state class 1 start values (mono main) (aux_mono aux) k) e));
  frames = λ place lt. elim (nat_lt place i) as (λ t. nat_lt place i ≡ t → mono (set out i y) place ≡ run_output class 1 start values (mono main) (aux_mono aux) place) [
    | true ↦ λ test. ap (λ (x : ℤ). x ∷ []) (get_or-set_other out i place y (pos 0) (differ i place (ltb-true place i test))) ∙ are.frames place (ltb-true place i test)
    | false ↦ λ test.
        let here : i ≡ place = omega (arith, ltb-false place i test, lt) in
        subst (λ k. mono (set out i y) k ≡ run_output class 1 start values (mono main) (aux_mono aux) k) here
        (ap (λ (x : ℤ). x ∷ []) (get_or-set_same out i y (pos 0) inside) ∙ is_out ∙ ap (λ (s : State). class.output 1 s values (mono main i) (aux_mono aux i)) are.state_is)
  ] refl;
}

pub mono_first : (class : Class) (start : State) (values : List ℕ) (main aux out : List ℤ) → IsMono class start values main aux 0 start out
mono_first class start values main aux out = record { state_is = refl; frames = λ place lt. absurd (omega (arith, lt)) }

-- and of two
pub record IsStereo (class : Class) (start : State) (values : List ℕ) (left right aux_left aux_right : List ℤ) (i : ℕ) (state : State) (out_left out_right : List ℤ) : Type 0 where
  pub state_is : state ≡ run_state class 2 start values (stereo left right) (aux_stereo aux_left aux_right) i
  pub frames : (place : ℕ) → place < i → stereo out_left out_right place ≡ run_output class 2 start values (stereo left right) (aux_stereo aux_left aux_right) place

pub stereo_more : (class : Class) (start : State) (values : List ℕ) (left right aux_left aux_right : List ℤ) (i : ℕ) (state next : State) (out_left out_right : List ℤ) (y z : ℤ)
    → IsStereo class start values left right aux_left aux_right i state out_left out_right → i < length out_left → i < length out_right
    → next ≡ class.next 2 state values (stereo left right i) (aux_stereo aux_left aux_right i) → (y ∷ z ∷ []) ≡ class.output 2 state values (stereo left right i) (aux_stereo aux_left aux_right i)
    → IsStereo class start values left right aux_left aux_right (i + 1) next (set out_left i y) (set out_right i z)
stereo_more class start values left right aux_left aux_right i state next out_left out_right y z are inside_left inside_right is_next is_out = record {
  state_is = is_next ∙ ap (λ (s : State). class.next 2 s values (stereo left right i) (aux_stereo aux_left aux_right i)) are.state_is
      ∙ (let e : i + 1 ≡ suc i = omega arith in sym (ap (λ k. run_state class 2 start values (stereo left right) (aux_stereo aux_left aux_right) k) e));
  frames = λ place lt. elim (nat_lt place i) as (λ t. nat_lt place i ≡ t → stereo (set out_left i y) (set out_right i z) place ≡ run_output class 2 start values (stereo left right) (aux_stereo aux_left aux_right) place) [
    | true ↦ λ test.
        let other = differ i place (ltb-true place i test) in
        ap₂ (λ (a b : ℤ). a ∷ b ∷ []) (get_or-set_other out_left i place y (pos 0) other) (get_or-set_other out_right i place z (pos 0) other) ∙ are.frames place (ltb-true place i test)
    | false ↦ λ test.
        let here : i ≡ place = omega (arith, ltb-false place i test, lt) in
        subst (λ k. stereo (set out_left i y) (set out_right i z) k ≡ run_output class 2 start values (stereo left right) (aux_stereo aux_left aux_right) k) here
        (ap₂ (λ (a b : ℤ). a ∷ b ∷ []) (get_or-set_same out_left i y (pos 0) inside_left) (get_or-set_same out_right i z (pos 0) inside_right)
        ∙ is_out ∙ ap (λ (s : State). class.output 2 s values (stereo left right i) (aux_stereo aux_left aux_right i)) are.state_is)
  ] refl;
}

pub stereo_first : (class : Class) (start : State) (values : List ℕ) (left right aux_left aux_right out_left out_right : List ℤ) → IsStereo class start values left right aux_left aux_right 0 start out_left out_right
stereo_first class start values left right aux_left aux_right out_left out_right = record { state_is = refl; frames = λ place lt. absurd (omega (arith, lt)) }
