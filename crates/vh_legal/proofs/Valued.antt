-- What entries leave of a parameter gives its value.
use Rattle.std.proofs.Common.{◌≡◌, ◌∙◌, ℕ, ◌+◌, ◌<◌, true, false, cond, List, [], ◌∷◌, ◌++◌, length, get_or, take, slice_index, Option, Some, None, refl, sym, ap, subst, append-nil, arith}
use Rattle.std.specs.Prelude.{nat_le, count_by, if◌then◌else◌}
use Rattle.std.proofs.lemmas.List.Elements.{filter_more}
use Rattle.std.proofs.lemmas.List.Sums.{sum_by-cons}
use Rattle.vh_params.specs.declared.param.ParamInfo.{ParamInfo}
use Rattle.vh_params.specs.Nodes.{info_in}
use Rattle.vh_plugin.specs.Class.{Param}
use Rattle.vh_journal.specs.declared.entry.Entry.{Entry}
use Rattle.vh_session.specs.Content.{Content}
use Rattle.vh_session.specs.Parts.{steps_in}
use Rattle.vh_meaning.specs.Scene.{lane_in, line_of}
use Rattle.vh_meaning.specs.Edits.{Edit, Began, Performed, Ended, is_begin, is_end, is_open, edit_in, edits_of, up_to}
use Rattle.vh_meaning.specs.Values.{held, value_after}
use Rattle.vh_meaning.specs.Stands.{Touch, touch_after}
use Rattle.vh_meaning.specs.Steps.{touched, touched_by, value_now}
use Rattle.vh_meaning.proofs.Touches.{with_edit, edits_push}
use Rattle.vh_legal.specs.Values.{place_of, param_or_none, IsValue}
use Rattle.vh_legal.proofs.Found.{told}

-- counts of gestures, and the value beside them
abbrev counted : ℕ → ℕ → ℕ → Touch
counted value begun ended = record { value = value; begun = begun; ended = ended }

after_edit : (line : Option (ℕ → ℕ)) (steps first : ℕ) (edit : Edit) (edits : List Edit) → touched line steps edit (touch_after line steps first edits) ≡ touch_after line steps first (edit ∷ edits)
after_edit line steps first (Performed value) edits = refl
after_edit line steps first Ended edits =
    let more = sum_by-cons (λ e. if is_end e then 1 else 0) Ended edits in
    ap (counted (held line steps first edits) (count_by is_begin edits)) (omega (arith, more))
after_edit None steps first (Began sample) edits =
    let more = sum_by-cons (λ e. if is_begin e then 1 else 0) (Began sample) edits in
    ap (λ n. counted (held None steps first edits) n (count_by is_end edits)) (omega (arith, more))
after_edit (Some lane) steps first (Began sample) edits =
    let more = sum_by-cons (λ e. if is_begin e then 1 else 0) (Began sample) edits in
    ap (λ n. counted (if is_open edits then held (Some lane) steps first edits else lane sample) n (count_by is_end edits)) (omega (arith, more))

after_some : (line : Option (ℕ → ℕ)) (steps first : ℕ) (edit : Option Edit) (edits : List Edit) → touched_by line steps edit (touch_after line steps first edits) ≡ touch_after line steps first (with_edit edit edits)
after_some line steps first None edits = refl
after_some line steps first (Some edit) edits = after_edit line steps first edit edits

-- one entry more, of the samples up to s
pub entry_more : (line : Option (ℕ → ℕ)) (steps first node id : ℕ) (entries : List Entry) (i : ℕ) (d : Entry) (s : ℕ) (touch : Touch) → i < length entries → nat_le (get_or entries i d).sample s ≡ true
    → touch ≡ touch_after line steps first (edits_of (up_to s (take i entries)) node id)
    → touched_by line steps (edit_in node id (get_or entries i d)) touch ≡ touch_after line steps first (edits_of (up_to s (take (i + 1) entries)) node id)
entry_more line steps first node id entries i d s touch within up is =
    let entry = get_or entries i d in
    let kept = up_to s (take i entries) in
    let next : up_to s (take (i + 1) entries) ≡ kept ++ entry ∷ [] = filter_more (λ (e : Entry). nat_le e.sample s) entries i d within ∙ ap (λ t. kept ++ cond t (entry ∷ []) []) up in
    ap (touched_by line steps (edit_in node id entry)) is
    ∙ after_some line steps first (edit_in node id entry) (edits_of kept node id)
    ∙ ap (touch_after line steps first) (sym (edits_push kept entry node id))
    ∙ ap (λ (es : List Entry). touch_after line steps first (edits_of es node id)) (sym next)

-- and one of a later sample
pub entry_over : (line : Option (ℕ → ℕ)) (steps first node id : ℕ) (entries : List Entry) (i : ℕ) (d : Entry) (s : ℕ) (touch : Touch) → i < length entries → nat_le (get_or entries i d).sample s ≡ false
    → touch ≡ touch_after line steps first (edits_of (up_to s (take i entries)) node id)
    → touch ≡ touch_after line steps first (edits_of (up_to s (take (i + 1) entries)) node id)
entry_over line steps first node id entries i d s touch within over is =
    let kept = up_to s (take i entries) in
    let next : up_to s (take (i + 1) entries) ≡ kept = filter_more (λ (e : Entry). nat_le e.sample s) entries i d within ∙ ap (λ t. kept ++ cond t (get_or entries i d ∷ []) []) over ∙ append-nil kept in
    is ∙ ap (λ (es : List Entry). touch_after line steps first (edits_of es node id)) (sym next)

kept_value : (line : Option (ℕ → ℕ)) (steps first : ℕ) (edits : List Edit) (s : ℕ) → value_now line (touch_after line steps first edits) s ≡ value_after line steps first edits s
kept_value None steps first edits s = refl
kept_value (Some lane) steps first edits s = refl

-- a parameter's value is what its lane and the touches on it come to
pub is_value : (session : Content) (firsts : List ℕ) (h : List Entry) (node id s : ℕ) (info : ParamInfo) (line : Option (ℕ → ℕ)) (touch : Touch) (first value : ℕ)
    → Some info ≡ info_in session.nodes node id
    → line ≡ line_of (steps_in (info_in session.nodes node id)) (lane_in session.lanes node id)
    → first ≡ slice_index firsts (place_of session.nodes node id)
    → touch ≡ touch_after line info.steps first (edits_of (up_to s h) node info.id)
    → value ≡ value_now line touch s
    → IsValue session firsts h node id s value
is_value session firsts h node id s info line touch first value has lane_is first_is left is class_of codes =
    let steps : steps_in (info_in session.nodes node id) ≡ info.steps = ap steps_in (sym has) in
    let same_id : id ≡ info.id = sym (told session.nodes node id info has).id_is in
    let line_is : line ≡ line_of info.steps (lane_in session.lanes node info.id) = lane_is ∙ ap (λ n. line_of n (lane_in session.lanes node id)) steps ∙ ap (λ n. line_of info.steps (lane_in session.lanes node n)) same_id in
    let of : ℕ → Param → ℕ = λ n p. value_after (line_of p.steps (lane_in session.lanes node p.id)) p.steps n (edits_of (up_to s h) node p.id) s in
    let here : value ≡ value_after line info.steps first (edits_of (up_to s h) node info.id) s =
    is ∙ ap (λ (t : Touch). value_now line t s) left ∙ kept_value line info.steps first (edits_of (up_to s h) node info.id) s in
    here
    ∙ ap (λ (l : Option (ℕ → ℕ)). value_after l info.steps first (edits_of (up_to s h) node info.id) s) line_is
    ∙ ap (λ n. value_after (line_of info.steps (lane_in session.lanes node info.id)) info.steps n (edits_of (up_to s h) node info.id) s) first_is
    ∙ ap (λ (p : Param). of (slice_index firsts (place_of session.nodes node id)) p) (ap param_or_none has)
