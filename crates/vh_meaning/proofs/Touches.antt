-- What is kept of a parameter is what the entries leave of it.
use Rattle.std.proofs.Common.{◌≡◌, ◌∙◌, ℕ, ◌+◌, ◌≤◌, List, [], ◌∷◌, ◌++◌, Option, Some, None, refl, sym, ap, arith}
use Rattle.std.specs.Prelude.{All, nat_le, reverse, count_by, if◌then◌else◌}
use Rattle.std.specs.List.{filter_map, cons_option}
use Rattle.std.proofs.lemmas.List.{append-nil, append_assoc, reverse-append}
use Rattle.std.proofs.lemmas.List.Elements.{filter-append, filter_map-append}
use Rattle.std.proofs.lemmas.List.Sums.{sum_by-cons}
use Rattle.vh_plugin.specs.Class.{Param}
use Rattle.vh_journal.specs.declared.entry.Entry.{Entry}
use Rattle.vh_meaning.specs.Scene.{Scene, params_at, firsts_at, lane_of}
use Rattle.vh_meaning.specs.Edits.{Edit, Began, Performed, Ended, is_begin, is_end, is_open, edit_in, edits_of, up_to}
use Rattle.vh_meaning.specs.Values.{held, value_after, values_of, values_at}
use Rattle.vh_meaning.specs.Stands.{Touch, touch_after, touches_of, touches_at}
use Rattle.vh_meaning.specs.Steps.{touched, touched_by, touches_with, touches_through, value_now, values_now}
use Rattle.vh_meaning.specs.Laws.{ValuesFromKept}
use Rattle.vh_meaning.proofs.Later.{up_to_all}

-- edits with one more, where there is one
abbrev pub with_edit : Option Edit → List Edit → List Edit
with_edit None edits = edits
with_edit (Some edit) edits = edit ∷ edits

latest_first : (edit : Option Edit) (edits : List Edit) → reverse (cons_option edit []) ++ edits ≡ with_edit edit edits
latest_first None edits = refl
latest_first (Some edit) edits = refl

pub edits_push : (h : List Entry) (entry : Entry) (node id : ℕ) → edits_of (h ++ entry ∷ []) node id ≡ with_edit (edit_in node id entry) (edits_of h node id)
edits_push h entry node id =
    ap (λ (l : List Edit). reverse l) (filter_map-append (edit_in node id) h (entry ∷ []))
    ∙ reverse-append (filter_map (edit_in node id) h) (cons_option (edit_in node id entry) [])
    ∙ latest_first (edit_in node id entry) (edits_of h node id)

abbrev made : ℕ → ℕ → ℕ → Touch
made value begun ended = record { value = value; begun = begun; ended = ended }

one_more : (a b : ℕ) → a ≡ 1 + b → b + 1 ≡ a
one_more a b is = omega (arith, is)

touched_after : (lane : Option (ℕ → ℕ)) (steps first : ℕ) (edit : Edit) (edits : List Edit) → touched lane steps edit (touch_after lane steps first edits) ≡ touch_after lane steps first (edit ∷ edits)
touched_after lane steps first (Performed value) edits = refl
touched_after lane steps first Ended edits = ap (made (held lane steps first edits) (count_by is_begin edits)) (one_more _ _ (sum_by-cons (λ edit. if is_end edit then 1 else 0) Ended edits))
touched_after None steps first (Began sample) edits =
    ap (λ n. made (held None steps first edits) n (count_by is_end edits)) (one_more _ _ (sum_by-cons (λ edit. if is_begin edit then 1 else 0) (Began sample) edits))
touched_after (Some lane) steps first (Began sample) edits =
    ap (λ n. made (if is_open edits then held (Some lane) steps first edits else lane sample) n (count_by is_end edits)) (one_more _ _ (sum_by-cons (λ edit. if is_begin edit then 1 else 0) (Began sample) edits))

touched_by_after : (lane : Option (ℕ → ℕ)) (steps first : ℕ) (edit : Option Edit) (edits : List Edit) → touched_by lane steps edit (touch_after lane steps first edits) ≡ touch_after lane steps first (with_edit edit edits)
touched_by_after lane steps first None edits = refl
touched_by_after lane steps first (Some edit) edits = touched_after lane steps first edit edits

-- a further entry makes of what is kept what the longer list leaves
pub touches_push : (scene : Scene) (h : List Entry) (entry : Entry) (node : ℕ) (params : List Param) (firsts : List ℕ) → touches_with scene entry node params (touches_of scene h node params firsts) ≡ touches_of scene (h ++ entry ∷ []) node params firsts
touches_push scene h entry node [] firsts = refl
touches_push scene h entry node (param ∷ params) [] = refl
touches_push scene h entry node (param ∷ params) (first ∷ firsts) =
    let lane = lane_of scene node param in
    let here = touched_by_after lane param.steps first (edit_in node param.id entry) (edits_of h node param.id) ∙ ap (touch_after lane param.steps first) (sym (edits_push h entry node param.id)) in
    ap (λ (touch : Touch). touch ∷ touches_with scene entry node params (touches_of scene h node params firsts)) here
    ∙ ap (λ (l : List Touch). touch_after lane param.steps first (edits_of (h ++ entry ∷ []) node param.id) ∷ l) (touches_push scene h entry node params firsts)

touches_append : (scene : Scene) (h entries : List Entry) (node : ℕ) (params : List Param) (firsts : List ℕ) → touches_through scene entries node params (touches_of scene h node params firsts) ≡ touches_of scene (h ++ entries) node params firsts
touches_append scene h [] node params firsts = ap (λ (l : List Entry). touches_of scene l node params firsts) (sym (append-nil h))
touches_append scene h (entry ∷ entries) node params firsts =
    ap (touches_through scene entries node params) (touches_push scene h entry node params firsts)
    ∙ touches_append scene (h ++ entry ∷ []) entries node params firsts
    ∙ ap (λ (l : List Entry). touches_of scene l node params firsts) (append_assoc h (entry ∷ []) entries)

value_kept : (lane : Option (ℕ → ℕ)) (steps first : ℕ) (edits : List Edit) (s : ℕ) → value_now lane (touch_after lane steps first edits) s ≡ value_after lane steps first edits s
value_kept None steps first edits s = refl
value_kept (Some lane) steps first edits s = refl

values_of_kept : (scene : Scene) (kept h : List Entry) (node : ℕ) (params : List Param) (firsts : List ℕ) (s : ℕ) → kept ≡ up_to s h → values_now scene node params (touches_of scene kept node params firsts) s ≡ values_of scene h node params firsts s
values_of_kept scene kept h node [] firsts s are = refl
values_of_kept scene kept h node (param ∷ params) [] s are = refl
values_of_kept scene kept h node (param ∷ params) (first ∷ firsts) s are =
    let lane = lane_of scene node param in
    let here = value_kept lane param.steps first (edits_of kept node param.id) s ∙ ap (λ (l : List Entry). value_after lane param.steps first (edits_of l node param.id) s) are in
    ap (λ (value : ℕ). value ∷ values_now scene node params (touches_of scene kept node params firsts) s) here
    ∙ ap (λ (l : List ℕ). value_after lane param.steps first (edits_of (up_to s h) node param.id) s ∷ l) (values_of_kept scene kept h node params firsts s are)

-- what is kept of the entries up to a sample gives the values there
pub values_kept : (scene : Scene) (h : List Entry) (node s : ℕ) → All (λ entry. entry.sample ≤ s) h → values_now scene node (params_at scene node) (touches_at scene h node) s ≡ values_at scene h s node
values_kept scene h node s before = values_of_kept scene h h node (params_at scene node) (firsts_at scene node) s (sym (up_to_all s h before))

pub law_values_from_kept : ValuesFromKept
law_values_from_kept scene h entries node s before =
    let kept : h ++ up_to s entries ≡ up_to s (h ++ entries) =
    sym (filter-append (λ (e : Entry). nat_le e.sample s) h entries ∙ ap (λ (l : List Entry). l ++ up_to s entries) (up_to_all s h before)) in
    sym (ap (λ (l : List Touch). values_now scene node (params_at scene node) l s) (touches_append scene h (up_to s entries) node (params_at scene node) (firsts_at scene node))
    ∙ values_of_kept scene (h ++ up_to s entries) (h ++ entries) node (params_at scene node) (firsts_at scene node) s kept)
