-- What is saved of a node, and how its saving ends.
use Rattle.std.proofs.Common.{◌≡◌, ◌∙◌, ℕ, ◌+◌, ◌-◌, ◌^◌, ◌<◌, ◌≤◌, min, Bool, true, List, [], ◌∷◌, ◌++◌, length, map, get_or, sum, Option, Some, None, ◌⊎◌, inl, inr, refl, sym, ap, subst, arith}
use Rattle.std.specs.Prelude.{All}
use Rattle.std.proofs.lemmas.Bool.{true≢false}
use Rattle.std.proofs.lemmas.List.{get_or-map, length-map, append-nil}
use Rattle.std.proofs.lemmas.List.FromFn.{get_or-map-range_with_len, length-map-range_with_len}
use Rattle.std.proofs.lemmas.List.Elements.{All-nil, All-tail}
use Rattle.std.proofs.lemmas.List.Sums.{sum_by-cons}
use Rattle.vh_files.specs.Causes.{Rose}
use Rattle.vh_files.specs.Store.{HasNow, Grows, SaysMore}
use Rattle.vh_params.specs.declared.class.ClassInfo.{ClassInfo}
use Rattle.vh_params.specs.Nodes.{node_at}
use Rattle.vh_session.specs.Content.{Content}
use Rattle.vh_ids.specs.declared.tuid.Tuid.{Tuid}
use Rattle.vh_plugin.specs.Class.{Class}
use Rattle.vh_preset.specs.Text.{preset_text}
use Rattle.vh_instance.specs.Plan.{Plan, class_number, class_at, code_at, component_at}
use Rattle.vh_instance.specs.Presets.{mode_at}
use Rattle.vh_instance.specs.Firsts.{firsts_at}
use Rattle.vh_instance.specs.Band.{by_node}
use Rattle.vh_answers.specs.declared.status.Place.TheVariants.{Output as OutputPlace}
use Rattle.vh_answers.specs.declared.status.Status.TheVariants as status
use Rattle.vh_answers.specs.Outside.{Outside}
use Rattle.vh_host.specs.Commands.{states_of, saved_text}
use Rattle.vh_answers.specs.Steps.{Output, Last, IsWhole, IsBegun, EndsUnsaid, Done, Cut}

-- the class of a node, by its number
pub component_is : (plan : Plan) (node : ℕ) (infos : List ClassInfo) (content : Content) (class : ℕ) (info : ClassInfo) → plan.infos ≡ infos → plan.content ≡ content
    → class ≡ class_number infos (node_at content.nodes node).class_name → class < length infos → info ≡ get_or infos class info → info.component.0 ≡ component_at plan node
component_is plan node infos content class info infos_are content_are number lt is =
    let f : ClassInfo → List ℕ = λ i. i.component.0 in
    ap f is ∙ sym (get_or-map f infos class info [] lt)
    ∙ ap (λ (n : ℕ). get_or (map f infos) n []) number
    ∙ ap (λ (c : Content). get_or (map f infos) (class_number infos (node_at c.nodes node).class_name) []) (sym content_are)
    ∙ ap (λ (is : List ClassInfo). get_or (map f is) (class_number is (node_at plan.content.nodes node).class_name) []) (sym infos_are)

-- what grew from nothing
pub grown : (complete : Bool) (mid now : Option (List ℕ)) (bytes : List ℕ) → HasNow complete mid [] → Grows complete mid now bytes → HasNow complete now bytes
grown complete None now bytes (inl some) grows = let e : None ≡ Some [] = some in cc
grown complete None now bytes (inr gone) grows = inr (gone.0, grows)
grown complete (Some had) now bytes (inl some) grows = let e : had ≡ [] = cc in subst (λ (h : List ℕ). HasNow complete now (h ++ bytes)) e grows
grown complete (Some had) now bytes (inr gone) grows = let e : Some had ≡ None = gone.1 in cc

nothing_said : (text : Option (List ℕ)) → SaysMore text text []
nothing_said None = refl
nothing_said (Some had) = ap (λ t. Some t) (sym (append-nil had))

one : {A : Type 0} (P : A → Type 0) (x : A) → P x → All P (x ∷ [])
one P x holds = λ k d lt. let z : k ≡ 0 = omega (arith, lt) in subst (λ j. P (get_or (x ∷ []) j d)) (sym z) holds

-- a file that is all that is written is whole, or cut short
pub file_whole : (Counts : ℕ → Type 0) (o : Outside) (output : Output) → IsWhole o.old o.new output → o.said_now ≡ o.said → Counts 0 → EndsUnsaid Counts o (Last (output ∷ []) [] 0) status.Ok
file_whole Counts o output whole quiet counts =
    Done refl (one (IsWhole o.old o.new) output whole, subst (λ said. SaysMore o.said.text said.text []) (sym quiet) (nothing_said o.said.text), counts)

pub file_cut : (Counts : ℕ → Type 0) (o : Outside) (output : Output) → output.place ≡ OutputPlace → IsBegun o.old o.new output → Rose o.old.writes o.new.writes → o.said_now.text ≡ o.said.text
    → EndsUnsaid Counts o (Last (output ∷ []) [] 0) (status.WriteFault OutputPlace)
file_cut Counts o output place begun rose unsaid = Cut OutputPlace refl tt (inl (place, begun, All-nil _)) rose unsaid

-- no calls at all
pub none_called : (calls : List ℕ) → All (λ (n : ℕ). n ≡ 0) calls → sum calls ≡ 0
none_called [] all = refl
none_called (n ∷ calls) all =
    let here = all 0 n (omega arith) in
    let later = none_called calls (All-tail (λ (m : ℕ). m ≡ 0) n calls all) in
    let both = sum_by-cons (λ (m : ℕ). m) n calls in
    omega (arith, here, later, both)

-- what a list of so many has at a node
pub at_node : {A B : Type 0} (f : A → B) (xs : List A) (count : ℕ) (of : ℕ → B) (node : ℕ) (d : A) → map f xs ≡ by_node count of → node < count → node < length xs → f (get_or xs node d) ≡ of node
at_node f xs count of node d is lt inside = sym (get_or-map f xs node d (f d) inside) ∙ ap (λ ys. get_or ys node (f d)) is ∙ get_or-map-range_with_len of 0 count node node (f d) lt (omega arith)

pub as_many : {A B : Type 0} (f : A → B) (xs : List A) (count : ℕ) (of : ℕ → B) → map f xs ≡ by_node count of → length xs ≡ count
as_many f xs count of is = sym (length-map xs f) ∙ ap length is ∙ length-map-range_with_len of 0 count

-- the preset of a node's class with the states of its instances is the one that is saved
pub text_is : (plan : Plan) (node : ℕ) (class_of : ℕ → Class) (class : Tuid) (code : ℕ) (values : List ℕ) (mode : ℕ) → plan.class_of ≡ class_of → class.0 ≡ component_at plan node → code ≡ code_at plan node
    → values ≡ firsts_at plan node → mode ≡ mode_at plan node → preset_text class (states_of ((class_of code).state_text values) mode) ≡ saved_text plan node
text_is plan node class_of class code values mode same class_is code_is values_are mode_is =
    let saved : Tuid = record { 0 = component_at plan node } in
    ap (λ (id : List ℕ). preset_text (record { 0 = id }) (states_of ((class_of code).state_text values) mode)) class_is
    ∙ ap (λ (f : ℕ → Class). preset_text saved (states_of ((f code).state_text values) mode)) (sym same)
    ∙ ap (λ (n : ℕ). preset_text saved (states_of ((plan.class_of n).state_text values) mode)) code_is
    ∙ ap (λ (vs : List ℕ). preset_text saved (states_of ((class_at plan node).state_text vs) mode)) values_are
    ∙ ap (λ (m : ℕ). preset_text saved (states_of ((class_at plan node).state_text (firsts_at plan node)) m)) mode_is

-- a file that was created isn't lacking: what failed then raised a count
pub rose_there : (complete : Bool) (mid : Option (List ℕ)) (first before now : ℕ) → HasNow complete mid [] → first ≤ before → ((complete ≡ true) × (mid ≡ None)) ⊎ Rose before now → Rose first now
rose_there complete mid first before now (inl some) le (inl lacks) = let e : Some [] ≡ None = sym some ∙ lacks.1 in cc
rose_there complete mid first before now (inr gone) le (inl lacks) = absurd (true≢false (sym lacks.0 ∙ gone.0))
rose_there complete mid first before now has le (inr rose) = let e : min (before + 1) (2 ^ 64 - 1) ≤ now = rose in omega (arith, e, le)
