-- What lies behind a sample has no part in it.
use mathlib.Core.Path.{fun_ext}
use Rattle.std.proofs.Common.{◌≡◌, ◌∙◌, ℕ, zero, suc, ◌<◌, ◌≤◌, true, false, cond, List, [], ◌∷◌, ◌++◌, refl, sym, ap, arith}
use Rattle.std.specs.Prelude.{All, nat_le, ◌==◌}
use Rattle.std.proofs.lemmas.Bool.{lt-leb, le-leb, leb-false, ne_eqb}
use Rattle.std.proofs.lemmas.List.{append-nil}
use Rattle.std.proofs.lemmas.List.Elements.{filter-append, All-head, All-tail}
use Rattle.vh_num.specs.Frames.{Frame}
use Rattle.vh_plugin.specs.Class.{Param, State}
use Rattle.vh_journal.specs.declared.entry.Entry.{Entry}
use Rattle.vh_meaning.specs.Scene.{Scene, params_at, firsts_at, lane_of}
use Rattle.vh_meaning.specs.Edits.{up_to, edits_of}
use Rattle.vh_meaning.specs.Values.{value_after, values_of, values_at}
use Rattle.vh_meaning.specs.Frames.{moved, frame_of}
use Rattle.vh_meaning.specs.World.{input_at, told_by, after_messages, told, world, after}
use Rattle.vh_meaning.specs.Laws.{NoLater}

-- the entries up to a sample, of those up to a later one
pub up_to_both : (t s : ℕ) (h : List Entry) → t ≤ s → up_to t (up_to s h) ≡ up_to t h
up_to_both t s [] le = refl
up_to_both t s (entry ∷ h) le = elim (nat_le entry.sample s) as (λ b. nat_le entry.sample s ≡ b → up_to t (cond b (entry ∷ up_to s h) (up_to s h)) ≡ up_to t (entry ∷ h)) [
  | true ↦ λ is. ap (λ (l : List Entry). cond (nat_le entry.sample t) (entry ∷ l) l) (up_to_both t s h le)
  | false ↦ λ is.
      let behind = leb-false entry.sample s is in
      let none : nat_le entry.sample t ≡ false = lt-leb entry.sample t (omega (arith, behind, le)) in
      up_to_both t s h le ∙ ap (λ b. cond b (entry ∷ up_to t h) (up_to t h)) (sym none)
] refl

-- where they are the same up to a sample, they are so up to each before it
pub up_to_before : (t s : ℕ) (h k : List Entry) → t ≤ s → up_to s h ≡ up_to s k → up_to t h ≡ up_to t k
up_to_before t s h k le same = sym (up_to_both t s h le) ∙ ap (up_to t) same ∙ up_to_both t s k le

pub up_to_none : (s : ℕ) (h : List Entry) → All (λ entry. s < entry.sample) h → up_to s h ≡ []
up_to_none s [] behind = refl
up_to_none s (entry ∷ h) behind =
    let here = All-head (λ (e : Entry). s < e.sample) entry h behind in
    ap (λ b. cond b (entry ∷ up_to s h) (up_to s h)) (lt-leb entry.sample s here) ∙ up_to_none s h (All-tail (λ (e : Entry). s < e.sample) entry h behind)

pub up_to_all : (s : ℕ) (h : List Entry) → All (λ entry. entry.sample ≤ s) h → up_to s h ≡ h
up_to_all s [] before = refl
up_to_all s (entry ∷ h) before =
    let here = All-head (λ (e : Entry). e.sample ≤ s) entry h before in
    ap (λ b. cond b (entry ∷ up_to s h) (up_to s h)) (le-leb entry.sample s here) ∙ ap (λ (l : List Entry). entry ∷ l) (up_to_all s h (All-tail (λ (e : Entry). e.sample ≤ s) entry h before))

-- entries behind a sample
pub up_to_ahead : (s : ℕ) (h k : List Entry) → All (λ entry. s < entry.sample) k → up_to s (h ++ k) ≡ up_to s h
up_to_ahead s h k behind = filter-append (λ (e : Entry). nat_le e.sample s) h k ∙ ap (λ (l : List Entry). up_to s h ++ l) (up_to_none s k behind) ∙ append-nil (up_to s h)

values_of_same : (scene : Scene) (h k : List Entry) (node : ℕ) (params : List Param) (firsts : List ℕ) (s : ℕ) → up_to s h ≡ up_to s k → values_of scene h node params firsts s ≡ values_of scene k node params firsts s
values_of_same scene h k node [] firsts s same = refl
values_of_same scene h k node (param ∷ params) [] s same = refl
values_of_same scene h k node (param ∷ params) (first ∷ firsts) s same =
    ap (λ (l : List Entry). value_after (lane_of scene node param) param.steps first (edits_of l node param.id) s ∷ values_of scene h node params firsts s) same
    ∙ ap (λ (l : List ℕ). value_after (lane_of scene node param) param.steps first (edits_of (up_to s k) node param.id) s ∷ l) (values_of_same scene h k node params firsts s same)

pub values_same : (scene : Scene) (h k : List Entry) (s : ℕ) → up_to s h ≡ up_to s k → values_at scene h s ≡ values_at scene k s
values_same scene h k s same = fun_ext (λ node. values_of_same scene h k node (params_at scene node) (firsts_at scene node) s same)

-- what an entry behind these does to states at a sample
abbrev pub told_once : Scene → ℕ → List Entry → Entry → (ℕ → State) → ℕ → State
told_once scene s before entry states = cond (entry.sample == s) (told_by scene (values_at scene before s) entry.command states) states

told_up_to : (scene : Scene) (s : ℕ) (before h : List Entry) (states : ℕ → State) → after_messages scene s before h states ≡ after_messages scene s (up_to s before) (up_to s h) states
told_up_to scene s before [] states = refl
told_up_to scene s before (entry ∷ h) states = elim (nat_le entry.sample s) as (λ b. nat_le entry.sample s ≡ b → after_messages scene s before (entry ∷ h) states ≡ after_messages scene s (up_to s before) (cond b (entry ∷ up_to s h) (up_to s h)) states) [
  | true ↦ λ is.
      let list : up_to s (before ++ entry ∷ []) ≡ up_to s before ++ entry ∷ [] =
      filter-append (λ (e : Entry). nat_le e.sample s) before (entry ∷ []) ∙ ap (λ b. up_to s before ++ cond b (entry ∷ []) []) is in
      let values = values_same scene before (up_to s before) s (sym (up_to_both s s before (omega arith))) in
      told_up_to scene s (before ++ entry ∷ []) h (told_once scene s before entry states)
      ∙ ap (λ (l : List Entry). after_messages scene s l (up_to s h) (told_once scene s before entry states)) list
      ∙ ap (λ (v : ℕ → List ℕ). after_messages scene s (up_to s before ++ entry ∷ []) (up_to s h) (cond (entry.sample == s) (told_by scene v entry.command states) states)) values
  | false ↦ λ is.
      let behind = leb-false entry.sample s is in
      let list : up_to s (before ++ entry ∷ []) ≡ up_to s before =
      filter-append (λ (e : Entry). nat_le e.sample s) before (entry ∷ []) ∙ ap (λ b. up_to s before ++ cond b (entry ∷ []) []) is ∙ append-nil (up_to s before) in
      let other : (entry.sample == s) ≡ false = ne_eqb entry.sample s (λ e. omega (arith, behind, e)) in
      told_up_to scene s (before ++ entry ∷ []) h (told_once scene s before entry states)
      ∙ ap (λ (l : List Entry). after_messages scene s l (up_to s h) (told_once scene s before entry states)) list
      ∙ ap (λ b. after_messages scene s (up_to s before) (up_to s h) (cond b (told_by scene (values_at scene before s) entry.command states) states)) other
] refl

pub told_same : (scene : Scene) (h k : List Entry) (s : ℕ) (states : ℕ → State) → up_to s h ≡ up_to s k → told scene h s states ≡ told scene k s states
told_same scene h k s states same =
    told_up_to scene s [] h states ∙ ap (λ (l : List Entry). after_messages scene s [] l states) same ∙ sym (told_up_to scene s [] k states)

-- the world before a sample hangs on the input and the entries before it alone
pub world_same : (scene : Scene) (input other : List Frame) (h k : List Entry) (s : ℕ) → ((t : ℕ) → t < s → input_at scene input t ≡ input_at scene other t) → ((t : ℕ) → t < s → up_to t h ≡ up_to t k)
    → world scene input h s ≡ world scene other k s
world_same scene input other h k zero inputs entries = refl
world_same scene input other h k (suc s) inputs entries =
    let here = entries s (omega arith) in
    let earlier = world_same scene input other h k s (λ t lt. inputs t (omega (arith, lt))) (λ t lt. entries t (omega (arith, lt))) in
    let states = told_same scene h k s (world scene input h s) here ∙ ap (told scene k s) earlier in
    ap (λ (x : ℕ → State). moved scene x (values_at scene h s) (input_at scene input s)) states
    ∙ ap (λ (v : ℕ → List ℕ). moved scene (after scene other k s) v (input_at scene input s)) (values_same scene h k s here)
    ∙ ap (λ (f : Frame). moved scene (after scene other k s) (values_at scene k s) f) (inputs s (omega arith))

pub law_no_later : NoLater
law_no_later scene input other h k s node inputs same =
    let earlier = world_same scene input other h k s (λ t lt. inputs t (omega (arith, lt))) (λ t lt. up_to_before t s h k (omega (arith, lt)) same) in
    let states = told_same scene h k s (world scene input h s) same ∙ ap (told scene k s) earlier in
    ap (λ (x : ℕ → State). frame_of scene x (values_at scene h s) (input_at scene input s) node) states
    ∙ ap (λ (v : ℕ → List ℕ). frame_of scene (after scene other k s) v (input_at scene input s) node) (values_same scene h k s same)
    ∙ ap (λ (f : Frame). frame_of scene (after scene other k s) (values_at scene k s) f node) (inputs s (omega arith))

-- further entries from a sample on have no part in the world before it
pub world_ahead : (scene : Scene) (input : List Frame) (h k : List Entry) (s : ℕ) → All (λ entry. s ≤ entry.sample) k → world scene input (h ++ k) s ≡ world scene input h s
world_ahead scene input h k s behind =
    world_same scene input input (h ++ k) h s (λ t lt. refl) (λ t lt. up_to_ahead t h k (λ i d within. let from = behind i d within in omega (arith, from, lt)))
