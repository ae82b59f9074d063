-- Worked examples.
use Rattle.std.proofs.Common.{◌≡◌, ◌∙◌, ℕ, Bool, true, false, cond, List, [], ◌∷◌, None, refl, ap, arith}
use Rattle.std.specs.Prelude.{nat_le}
use Rattle.std.proofs.lemmas.Bool.{eq-eqb, le-leb, lt-leb}
use Rattle.vh_params.specs.declared.command.Command.TheVariants.{Begin, Perform, End}
use Rattle.vh_params.specs.declared.label.Words.{Words}
use Rattle.vh_params.specs.Short.{words_in}
use Rattle.vh_plugin.specs.Class.{Param, State}
use Rattle.vh_session.specs.Entry.{LaneText}
use Rattle.vh_journal.specs.declared.entry.Entry.{Entry}
use Rattle.vh_meaning.specs.Scene.{Scene, class_at, firsts_at, lane_in, line_of}
use Rattle.vh_meaning.specs.Edits.{edits_of, up_to}
use Rattle.vh_meaning.specs.Values.{value_after, value_of, values_of, values_at}
use Rattle.vh_meaning.specs.World.{told_at}
use Rattle.vh_meaning.specs.Worked.{entry_of, lane_with, HasOneParameter, two_editors, TwoEditors, held_still, HeldStill, MessageBetween, Worked}

-- the value of such a scene's parameter
value_is : (scene : Scene) (param : Param) (first : ℕ) (lanes : List LaneText) (h : List Entry) (s : ℕ) → HasOneParameter scene param first lanes
    → value_of scene h 0 param first s ≡ value_after (line_of 0 (lane_in lanes 0 0)) 0 first (edits_of (up_to s h) 0 0) s
value_is scene param first lanes h s has =
    ap (λ (id : ℕ). value_after (line_of param.steps (lane_in scene.lanes 0 id)) param.steps first (edits_of (up_to s h) 0 id) s) has.id
    ∙ ap (λ (steps : ℕ). value_after (line_of steps (lane_in scene.lanes 0 0)) steps first (edits_of (up_to s h) 0 0) s) has.steps
    ∙ ap (λ (l : List LaneText). value_after (line_of 0 (lane_in l 0 0)) 0 first (edits_of (up_to s h) 0 0) s) has.lane

-- an entry stands among others where this holds
abbrev taken : Bool → Entry → List Entry → List Entry
taken is entry h = cond is (entry ∷ h) h

abbrev both_taken : Bool → Bool → Bool → Bool → Bool → List Entry
both_taken a b c d e =
    taken a (entry_of 10 0 0 (Begin 0 0)) (taken b (entry_of 20 1 0 (Begin 0 0)) (taken c (entry_of 30 0 1 (Perform 0 0 8388608))
    (taken d (entry_of 64 0 2 (End 0 0)) (taken e (entry_of 128 1 1 (End 0 0)) []))))

quarter_by : ℕ → Bool → Bool → Bool → Bool → Bool → ℕ → ℕ
quarter_by first a b c d e s = value_after (line_of 0 (lane_in (lane_with 0 ((0, 4194304) ∷ [])) 0 0)) 0 first (edits_of (both_taken a b c d e) 0 0) s

-- by the tests whether each entry stands up to the sample
by_tests : (first s : ℕ) → value_after (line_of 0 (lane_in (lane_with 0 ((0, 4194304) ∷ [])) 0 0)) 0 first (edits_of (up_to s two_editors) 0 0) s ≡ quarter_by first (nat_le 10 s) (nat_le 20 s) (nat_le 30 s) (nat_le 64 s) (nat_le 128 s) s
unfolding quarter_by
by_tests first s = refl

none_yet : (first s : ℕ) (a b : Bool) → quarter_by first a b false false false s ≡ 4194304
unfolding quarter_by
none_yet first s true true = refl
none_yet first s true false = refl
none_yet first s false true = refl
none_yet first s false false = refl

since_perform : (first s : ℕ) (d : Bool) → quarter_by first true true true d false s ≡ 8388608
unfolding quarter_by
since_perform first s true = refl
since_perform first s false = refl

all_ended : (first s : ℕ) → quarter_by first true true true true true s ≡ 4194304
unfolding quarter_by
all_ended first s = refl

two_editors_stand : (scene : Scene) (param : Param) (first : ℕ) → HasOneParameter scene param first (lane_with 0 ((0, 4194304) ∷ [])) → TwoEditors scene param first
two_editors_stand scene param first has =
    let value = λ (s : ℕ). value_is scene param first (lane_with 0 ((0, 4194304) ∷ [])) two_editors s has ∙ by_tests first s in
    record {
      lane = λ s le.
          let c = lt-leb 30 s (omega (arith, le)) in
          let d = lt-leb 64 s (omega (arith, le)) in
          let e = lt-leb 128 s (omega (arith, le)) in
          let v = value s in
          let end = none_yet first s (nat_le 10 s) (nat_le 20 s) in
          cc;
      performed = λ s ge le.
          let a = le-leb 10 s (omega (arith, ge)) in
          let b = le-leb 20 s (omega (arith, ge)) in
          let c = le-leb 30 s ge in
          let e = lt-leb 128 s (omega (arith, le)) in
          let v = value s in
          let end = since_perform first s (nat_le 64 s) in
          cc;
      lane_again = λ s ge.
          let a = le-leb 10 s (omega (arith, ge)) in
          let b = le-leb 20 s (omega (arith, ge)) in
          let c = le-leb 30 s (omega (arith, ge)) in
          let d = le-leb 64 s (omega (arith, ge)) in
          let e = le-leb 128 s ge in
          let v = value s in
          let end = all_ended first s in
          cc;
    }

rising_by : ℕ → Bool → Bool → ℕ → ℕ
rising_by first a b s = value_after (line_of 0 (lane_in (lane_with 16 ((0, 0) ∷ (100, 16777216) ∷ [])) 0 0)) 0 first (edits_of (taken a (entry_of 25 0 0 (Begin 0 0)) (taken b (entry_of 50 0 1 (End 0 0)) [])) 0 0) s

rising_tests : (first s : ℕ) → value_after (line_of 0 (lane_in (lane_with 16 ((0, 0) ∷ (100, 16777216) ∷ [])) 0 0)) 0 first (edits_of (up_to s held_still) 0 0) s ≡ rising_by first (nat_le 25 s) (nat_le 50 s) s
unfolding rising_by
rising_tests first s = refl

rising_held : (first s : ℕ) → rising_by first true false s ≡ 4194304
unfolding rising_by
rising_held first s = refl

held_still_stands : (scene : Scene) (param : Param) (first : ℕ) → HasOneParameter scene param first (lane_with 16 ((0, 0) ∷ (100, 16777216) ∷ [])) → HeldStill scene param first
held_still_stands scene param first has =
    let value = λ (s : ℕ). value_is scene param first (lane_with 16 ((0, 0) ∷ (100, 16777216) ∷ [])) held_still s has in
    record {
      before = value 24;
      still = λ s ge le.
          let a = le-leb 25 s ge in
          let b = lt-leb 50 s (omega (arith, le)) in
          let v = value s ∙ rising_tests first s in
          let end = rising_held first s in
          cc;
      goes_on = value 50;
    }

-- the message of a sample, where the entries stand at this one
message_by : Scene → ℕ → ℕ → Words → (ℕ → State) → Bool → State
message_by scene s one words states is =
    let before = cond is states states in
    let after = cond is (told_at scene (values_at scene (entry_of s 0 0 (Perform 0 0 one) ∷ []) s) 0 (words_in words) before) before in
    cond is after after 0

message_stands : (scene : Scene) (param : Param) (first s one other : ℕ) (words : Words) (states : ℕ → State) → HasOneParameter scene param first [] → MessageBetween scene s one other words states
unfolding message_by
message_stands scene param first s one other words states has =
    let perform = entry_of s 0 0 (Perform 0 0 one) in
    let here : up_to s (perform ∷ []) ≡ perform ∷ [] = ap (λ b. cond b (perform ∷ []) []) (le-leb s s (omega arith)) in
    let value : value_of scene (perform ∷ []) 0 param first s ≡ one =
    value_is scene param first [] (perform ∷ []) s has ∙ ap (λ (h : List Entry). value_after None 0 first (edits_of h 0 0) s) here in
    let values : values_at scene (perform ∷ []) s 0 ≡ one ∷ [] =
    ap (λ (params : List Param). values_of scene (perform ∷ []) 0 params (firsts_at scene 0) s) has.params
    ∙ ap (λ (firsts : List ℕ). values_of scene (perform ∷ []) 0 (param ∷ []) firsts s) has.firsts
    ∙ ap (λ (v : ℕ). v ∷ []) value in
    record {
      meets = ap (message_by scene s one words states) (eq-eqb s s refl) ∙ ap (λ (v : List ℕ). (class_at scene 0).told (states 0) v (words_in words)) values;
      stop = refl;
    }

pub law_worked : Worked
law_worked = record {
  two_editors = two_editors_stand;
  held_still = held_still_stands;
  message = message_stands;
  loud = refl;
  side_chain = λ input frame. record { main = refl; aux = refl; none = refl };
  past_end = λ scene. refl;
}
