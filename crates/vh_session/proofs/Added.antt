-- What a line more keeps.
use Rattle.std.proofs.Common.{◌≡◌, ◌∙◌, inr, ℕ, zero, suc, ◌+◌, ◌-◌, ◌<◌, ◌≤◌, ◌^◌, true, List, [], ◌∷◌, ◌++◌, set, length, get_or, refl, sym, ap, subst, arith, Some}
use Rattle.std.specs.Prelude.{All, IfSome, nat_le}
use Rattle.std.proofs.lemmas.List.{length-append, length-set}
use Rattle.std.proofs.lemmas.List.Elements.{All-cons, All-tail, All-push}
use Rattle.std.proofs.lemmas.Bool.{leb-true, and_parts}
use Rattle.vh_params.specs.declared.class.ClassInfo.{ClassInfo}
use Rattle.vh_params.specs.Nodes.{Node}
use Rattle.vh_session.specs.declared.wire.Wire.{Wire}
use Rattle.vh_session.specs.Entry.{Draft, LengthLine, ChannelsLine, BitsLine, PatternLine, PresetLine, ParamLine, WireLine, LaneLine, PointLine, EditorLine, ScriptLine, ScriptWord, LaneText, with_entry, with_last, with_break, no_lane, last_lane, last_sample, break_count}
use Rattle.vh_text.specs.Numbers.{is_within}
use Rattle.vh_session.specs.Lines.{one, is_any, is_bits, has_aux}
use Rattle.vh_session.specs.Keeps.{EachBehind, AreSizes, IsFile, can_set, IsWireBehind, IsLaneBehind, IsScriptWord, word_count}
use Rattle.vh_session.proofs.Breaks.{breaks_more}
use Rattle.vh_session.proofs.Behind.{behind_more}
use Rattle.vh_session.proofs.Legal.{IsLegal, NodeFirsts}

pub length_added : (known : List ClassInfo) (draft : Draft) (line n : ℕ) → IsLegal known draft → is_within 0 16777216 n ≡ true → IsLegal known (with_entry line (LengthLine n) draft)
length_added known draft line n legal fits = (record { frames_fit = fits; channels_fit = legal.0.channels_fit; bits_fit = legal.0.bits_fit; sizes_fit = legal.0.sizes_fit }, legal.1, legal.2, legal.3, legal.4, legal.5, legal.6)

pub channels_added : (known : List ClassInfo) (draft : Draft) (line n : ℕ) → IsLegal known draft → is_within 1 2 n ≡ true → IsLegal known (with_entry line (ChannelsLine n) draft)
channels_added known draft line n legal fits = (record { frames_fit = legal.0.frames_fit; channels_fit = fits; bits_fit = legal.0.bits_fit; sizes_fit = legal.0.sizes_fit }, legal.1, legal.2, legal.3, legal.4, legal.5, legal.6)

pub bits_added : (known : List ClassInfo) (draft : Draft) (line n : ℕ) → IsLegal known draft → is_bits n ≡ true → IsLegal known (with_entry line (BitsLine n) draft)
bits_added known draft line n legal fits = (record { frames_fit = legal.0.frames_fit; channels_fit = legal.0.channels_fit; bits_fit = fits; sizes_fit = legal.0.sizes_fit }, legal.1, legal.2, legal.3, legal.4, legal.5, legal.6)

pub pattern_added : (known : List ClassInfo) (draft : Draft) (line : ℕ) (sizes : List ℕ) → IsLegal known draft → AreSizes sizes → IsLegal known (with_entry line (PatternLine sizes) draft)
pattern_added known draft line sizes legal fits = (record { frames_fit = legal.0.frames_fit; channels_fit = legal.0.channels_fit; bits_fit = legal.0.bits_fit; sizes_fit = inr fits }, legal.1, legal.2, legal.3, legal.4, legal.5, legal.6)

-- a file at a node's place
all_set : {A : Type 0} (P : A → Type 0) (xs : List A) (i : ℕ) (x : A) → P x → All P xs → All P (set xs i x)
all_set P [] i x is all = all
all_set P (y ∷ ys) zero x is all = All-cons P x ys is (All-tail P y ys all)
all_set P (y ∷ ys) (suc i) x is all = All-cons P y (set ys i x) (all 0 y (omega arith)) (all_set P ys i x is (All-tail P y ys all))

pub preset_added : (known : List ClassInfo) (draft : Draft) (line node : ℕ) (file : List ℕ) → IsLegal known draft → IsFile file → IsLegal known (with_entry line (PresetLine node file) draft)
preset_added known draft line node file legal fits = (legal.0, legal.1, record { as_many = length-set draft.presets node (Some file) ∙ legal.2.as_many; files = all_set (λ preset. IfSome preset IsFile) draft.presets node (Some file) fits legal.2.files }, legal.3, legal.4, legal.5, legal.6)

-- a further first value at a node's place
set_firsts : (nodes : List Node) (firsts : List (List (ℕ × ℕ))) (at start : ℕ) (new : List (ℕ × ℕ)) → NodeFirsts nodes (start + at) new → ((node : ℕ) → NodeFirsts nodes (start + node) (get_or firsts node [])) → (node : ℕ) → NodeFirsts nodes (start + node) (get_or (set firsts at new) node [])
set_firsts nodes [] at start new is fit node = fit node
set_firsts nodes (f ∷ fs) zero start new is fit zero = is
set_firsts nodes (f ∷ fs) zero start new is fit (suc node) = fit (suc node)
set_firsts nodes (f ∷ fs) (suc at) start new is fit zero = fit zero
set_firsts nodes (f ∷ fs) (suc at) start new is fit (suc node) =
    let e : (n : ℕ) → suc start + n ≡ start + suc n = λ n. omega arith in
    subst (λ n. NodeFirsts nodes n (get_or (set fs at new) node [])) (e node) (set_firsts nodes fs at (suc start) new (subst (λ n. NodeFirsts nodes n new) (sym (e at)) is) (λ n. subst (λ m. NodeFirsts nodes m (get_or fs n [])) (sym (e n)) (fit (suc n))) node)

pub param_added : (known : List ClassInfo) (draft : Draft) (line node id value : ℕ) → IsLegal known draft → can_set draft.nodes node id ≡ true → is_any id ≡ true → is_within 0 one value ≡ true → IsLegal known (with_entry line (ParamLine node id value) draft)
param_added known draft line node id value legal can small fits =
    let P : ℕ × ℕ → Type 0 = λ first. (can_set draft.nodes node first.0 ≡ true) × (is_any first.0 ≡ true) × (is_within 0 one first.1 ≡ true) in
    let old = get_or draft.firsts node [] in
    let z : (n : ℕ) → 0 + n ≡ n = λ n. omega arith in
    let new : NodeFirsts draft.nodes node (old ++ (id, value) ∷ []) = All-push P old (id, value) (legal.3.fit node) (can, small, fits) in
    let all = set_firsts draft.nodes draft.firsts node 0 (old ++ (id, value) ∷ []) (subst (λ n. NodeFirsts draft.nodes n (old ++ (id, value) ∷ [])) (sym (z node)) new) (λ n. subst (λ m. NodeFirsts draft.nodes m (get_or draft.firsts n [])) (sym (z n)) (legal.3.fit n)) in
    (legal.0, legal.1, legal.2, record { as_many = length-set draft.firsts node (old ++ (id, value) ∷ []) ∙ legal.3.as_many; fit = λ n. subst (λ m. NodeFirsts draft.nodes m (get_or (set draft.firsts node (old ++ (id, value) ∷ [])) n [])) (z n) (all n) }, legal.4, legal.5, legal.6)

pub wire_added : (known : List ClassInfo) (draft : Draft) (line : ℕ) (wire : Wire) → IsLegal known draft → length draft.wires < 256 → IsWireBehind (length draft.nodes) draft.wires wire → (wire.aux ≡ true → has_aux draft.aux wire.to ≡ true) → IsLegal known (with_entry line (WireLine wire) draft)
wire_added known draft line wire legal few stands into =
    let W : Wire → Type 0 = λ wire. wire.aux ≡ true → has_aux draft.aux wire.to ≡ true in
    let long = length-append draft.wires (wire ∷ []) in
    (legal.0, legal.1, legal.2, legal.3, record { few = omega (arith, few, long); stand = behind_more (IsWireBehind (length draft.nodes)) [] draft.wires wire legal.4.stand stands; into_buses = All-push W draft.wires wire legal.4.into_buses into }, legal.5, legal.6)

pub lane_added : (known : List ClassInfo) (draft : Draft) (line node id grain sample value : ℕ) → IsLegal known draft → length draft.lanes < 256 → IsLaneBehind draft.nodes draft.lanes (record { node = node; id = id; grain = grain; breaks = (sample, value) ∷ [] }) → IsLegal known (with_entry line (LaneLine node id grain sample value) draft)
lane_added known draft line node id grain sample value legal few stands =
    let lane : LaneText = record { node = node; id = id; grain = grain; breaks = (sample, value) ∷ [] } in
    let long = length-append draft.lanes (lane ∷ []) in
    (legal.0, legal.1, legal.2, legal.3, legal.4, record { few = omega (arith, few, long); stand = behind_more (IsLaneBehind draft.nodes) [] draft.lanes lane legal.5.stand stands }, legal.6)

-- the last lane of two or more is that of the rest
last_of_rest : (x y : LaneText) (ys : List LaneText) → last_lane (x ∷ (y ∷ ys)) ≡ last_lane (y ∷ ys)
last_of_rest x y ys =
    let e : suc (suc (length ys)) - 1 ≡ suc (length ys) = omega arith in
    let g : suc (length ys) - 1 ≡ length ys = omega arith in
    ap (λ n. get_or (x ∷ (y ∷ ys)) n no_lane) e ∙ sym (ap (λ n. get_or (y ∷ ys) n no_lane) g)

-- the last sample and the number of breakpoints of a lane
abbrev end_of : LaneText → ℕ
end_of lane = (get_or lane.breaks (length lane.breaks - 1) (0, 0)).0

pub is_one : (v : ℕ) → is_within 0 one v ≡ true → v ≤ 2 ^ 24
is_one v within = leb-true v (2 ^ 24) (and_parts (nat_le 0 v) (nat_le v one) within).1

behind_point : (nodes : List Node) (before lanes : List LaneText) (sample value : ℕ) → EachBehind (IsLaneBehind nodes) before lanes → end_of (last_lane lanes) < sample → length (last_lane lanes).breaks < 4096 → is_within 0 16777216 sample ≡ true → is_within 0 one value ≡ true → EachBehind (IsLaneBehind nodes) before (with_last (with_break (sample, value)) lanes)
behind_point nodes before [] sample value each rises few at within = tt
behind_point nodes before (x ∷ []) sample value each rises few at within =
    let stands = each.0 in (
      record {
        param = stands.param;
        id = stands.id;
        new = stands.new;
        grain = stands.grain;
        breaks = breaks_more x.breaks sample value stands.breaks few rises (is_one value within);
        samples = All-push (λ break. is_within 0 16777216 break.0 ≡ true) x.breaks (sample, value) stands.samples at;
      },
      tt,
    )
behind_point nodes before (x ∷ (y ∷ ys)) sample value each rises few at within =
    let same = last_of_rest x y ys in
    (each.0, behind_point nodes (before ++ x ∷ []) (y ∷ ys) sample value each.1 (subst (λ lane. end_of lane < sample) same rises) (subst (λ (lane : LaneText). length lane.breaks < 4096) same few) at within)

length_last : {A : Type 0} (f : A → A) (xs : List A) → length (with_last f xs) ≡ length xs
length_last f [] = refl
length_last f (x ∷ []) = refl
length_last f (x ∷ (y ∷ ys)) = ap suc (length_last f (y ∷ ys))

pub point_added : (known : List ClassInfo) (draft : Draft) (line sample value : ℕ) → IsLegal known draft → last_sample draft.lanes < sample → break_count draft.lanes < 4096 → is_within 0 16777216 sample ≡ true → is_within 0 one value ≡ true → IsLegal known (with_entry line (PointLine sample value) draft)
point_added known draft line sample value legal rises few at within =
    let f = with_break (sample, value) in
    (legal.0, legal.1, legal.2, legal.3, legal.4, record { few = subst (λ n. n ≤ 256) (sym (length_last f draft.lanes)) legal.5.few; stand = behind_point draft.nodes [] draft.lanes sample value legal.5.stand rises few at within }, legal.6)

count_editor : (scripts : List (List ScriptWord)) → word_count (scripts ++ [] ∷ []) ≡ word_count scripts
count_editor [] = refl
count_editor (script ∷ scripts) = ap (λ n. length script + n) (count_editor scripts)

pub editor_added : (known : List ClassInfo) (draft : Draft) (line : ℕ) → IsLegal known draft → length draft.scripts < 8 → IsLegal known (with_entry line EditorLine draft)
editor_added known draft line legal few =
    let stand = legal.6.stand in
    let W : List ScriptWord → Type 0 = λ script. All (IsScriptWord (length draft.nodes)) script in
    let long = length-append draft.scripts ([] ∷ []) in
    let same = count_editor draft.scripts in
    (legal.0, legal.1, legal.2, legal.3, legal.4, legal.5, record { counted = legal.6.counted ∙ sym same; stand = record { few = omega (arith, few, long); short = subst (λ n. n ≤ 4096) (sym same) stand.short; words = All-push W draft.scripts [] stand.words (λ k d lt. absurd (omega (arith, lt))) } })

count_word : (word : ScriptWord) (scripts : List (List ScriptWord)) → 0 < length scripts → word_count (with_last (λ script. script ++ word ∷ []) scripts) ≡ word_count scripts + 1
count_word word [] some = absurd (omega (arith, some))
count_word word (x ∷ []) some = let e = length-append x (word ∷ []) in omega (arith, e)
count_word word (x ∷ (y ∷ ys)) some = let e = count_word word (y ∷ ys) (omega arith) in omega (arith, e)

all_last : {A : Type 0} (P : A → Type 0) (f : A → A) (xs : List A) → ((x : A) → P x → P (f x)) → All P xs → All P (with_last f xs)
all_last P f [] is all = all
all_last P f (x ∷ []) is all = All-cons P (f x) [] (is x (all 0 x (omega arith))) (All-tail P x [] all)
all_last P f (x ∷ (y ∷ ys)) is all = All-cons P x (with_last f (y ∷ ys)) (all 0 x (omega arith)) (all_last P f (y ∷ ys) is (All-tail P x (y ∷ ys) all))

pub script_added : (known : List ClassInfo) (draft : Draft) (line : ℕ) (word : ScriptWord) → IsLegal known draft → 0 < length draft.scripts → draft.script_count < 4096 → IsScriptWord (length draft.nodes) word → IsLegal known (with_entry line (ScriptLine word) draft)
script_added known draft line word legal some few fits =
    let stand = legal.6.stand in
    let W : List ScriptWord → Type 0 = λ script. All (IsScriptWord (length draft.nodes)) script in
    let f : List ScriptWord → List ScriptWord = λ script. script ++ word ∷ [] in
    let count = count_word word draft.scripts some in
    let counted = legal.6.counted in (
      legal.0,
      legal.1,
      legal.2,
      legal.3,
      legal.4,
      legal.5,
      record {
        counted = omega (arith, count, counted);
        stand = record {
          few = subst (λ n. n ≤ 8) (sym (length_last f draft.scripts)) stand.few;
          short = omega (arith, count, counted, few);
          words = all_last W f draft.scripts (λ script all. All-push (IsScriptWord (length draft.nodes)) script word all fits) stand.words;
        };
      },
    )
