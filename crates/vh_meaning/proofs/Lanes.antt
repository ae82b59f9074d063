-- Lanes, gestures and the values between them.
use Rattle.std.proofs.Common.{◌≡◌, ◌≢◌, ◌∙◌, ℕ, true, false, cond, List, [], ◌∷◌, ◌++◌, Option, Some, None, refl, sym, ap}
use Rattle.std.specs.Prelude.{All, nat_le, reverse, ◌==◌, if◌then◌else◌}
use Rattle.std.specs.List.{filter_map, cons_option}
use Rattle.std.proofs.lemmas.Bool.{and_parts, eqb-true}
use Rattle.std.proofs.lemmas.List.Elements.{filter-append, filter_map-append, All-head, All-tail}
use Rattle.vh_num.specs.Values.{quant_of}
use Rattle.vh_params.specs.declared.command.Command.{Command}
use Rattle.vh_params.specs.declared.command.Command.TheVariants.{Begin, Perform, End, Tell}
use Rattle.vh_journal.specs.declared.entry.Entry.{Entry}
use Rattle.vh_meaning.specs.Scene.{lane_of}
use Rattle.vh_meaning.specs.Edits.{Edit, Began, Performed, Ended, is_open, is_parameter, edit_by, edit_in, edits_of, up_to}
use Rattle.vh_meaning.specs.Values.{held, value_after}
use Rattle.vh_meaning.specs.Laws.{LaneWhileNoneOpen, LastWithoutLane, last_performed, LaneWhileOpen, IsElsewhere, OnlyItsParameter}

pub law_while_none_open : LaneWhileNoneOpen
law_while_none_open scene h node param first s lane has closed =
    let edits = edits_of (up_to s h) node param.id in
    ap (λ (line : Option (ℕ → ℕ)). value_after line param.steps first edits s) has
    ∙ ap (λ b. cond b (held (Some lane) param.steps first edits) (lane s)) closed

-- edits behind a perform that give no value
last_given : (steps first value : ℕ) (later earlier : List Edit) → All (λ edit. (v : ℕ) → edit ≢ Performed v) later → held None steps first (later ++ Performed value ∷ earlier) ≡ quant_of value steps
last_given steps first value [] earlier none = refl
last_given steps first value (Began sample ∷ later) earlier none = last_given steps first value later earlier (All-tail (λ (edit : Edit). (v : ℕ) → edit ≢ Performed v) (Began sample) later none)
last_given steps first value (Ended ∷ later) earlier none = last_given steps first value later earlier (All-tail (λ (edit : Edit). (v : ℕ) → edit ≢ Performed v) Ended later none)
last_given steps first value (Performed v ∷ later) earlier none = absurd (All-head (λ (edit : Edit). (v : ℕ) → edit ≢ Performed v) (Performed v) later none v refl)

pub law_last_without_lane : LastWithoutLane
law_last_without_lane scene h node param first s value later earlier has are none =
    ap (λ (line : Option (ℕ → ℕ)). value_after line param.steps first (edits_of (up_to s h) node param.id) s) has
    ∙ ap (held None param.steps first) are
    ∙ last_given param.steps first value later earlier none

-- a gesture is open behind each of the edits since this begin
abbrev IsOn : ℕ → List Edit → List Edit → Type 0
IsOn begun earlier later = (behind before : List Edit) → later ≡ behind ++ before → is_open (before ++ Began begun ∷ earlier) ≡ true

on_before : (begun : ℕ) (earlier later : List Edit) (edit : Edit) → IsOn begun earlier (edit ∷ later) → IsOn begun earlier later
on_before begun earlier later edit on behind before are = on (edit ∷ behind) before (ap (λ (l : List Edit). edit ∷ l) are)

held_since : (lane : ℕ → ℕ) (steps first begun : ℕ) (later earlier : List Edit) → is_open earlier ≡ false → IsOn begun earlier later → held (Some lane) steps first (later ++ Began begun ∷ earlier) ≡ last_performed steps (lane begun) later
held_since lane steps first begun [] earlier closed on = ap (λ b. cond b (held (Some lane) steps first earlier) (lane begun)) closed
held_since lane steps first begun (Performed value ∷ later) earlier closed on = refl
held_since lane steps first begun (Ended ∷ later) earlier closed on = held_since lane steps first begun later earlier closed (on_before begun earlier later Ended on)
held_since lane steps first begun (Began sample ∷ later) earlier closed on =
    ap (λ b. cond b (held (Some lane) steps first (later ++ Began begun ∷ earlier)) (lane sample)) (on (Began sample ∷ []) later refl)
    ∙ held_since lane steps first begun later earlier closed (on_before begun earlier later (Began sample) on)

pub law_while_open : LaneWhileOpen
law_while_open scene h node param first s begun lane later earlier has since =
    let edits = later ++ Began begun ∷ earlier in
    ap (λ (line : Option (ℕ → ℕ)). value_after line param.steps first (edits_of (up_to s h) node param.id) s) has
    ∙ ap (λ (l : List Edit). value_after (Some lane) param.steps first l s) since.split
    ∙ ap (λ b. cond b (held (Some lane) param.steps first edits) (lane s)) (since.on [] later refl)
    ∙ held_since lane param.steps first begun later earlier since.first since.on

-- of entries up to a sample, the edits to a parameter; with an entry that is none
skipped : (node id s : ℕ) (entry : Entry) (later : List Entry) → edit_in node id entry ≡ None → filter_map (edit_in node id) (up_to s (entry ∷ later)) ≡ filter_map (edit_in node id) (up_to s later)
skipped node id s entry later none = elim (nat_le entry.sample s) as (λ b. filter_map (edit_in node id) (cond b (entry ∷ up_to s later) (up_to s later)) ≡ filter_map (edit_in node id) (up_to s later)) [
  | true ↦ ap (λ (edit : Option Edit). cons_option edit (filter_map (edit_in node id) (up_to s later))) none
  | false ↦ refl
]

cut : (before later : List Entry) (node id s : ℕ) → filter_map (edit_in node id) (up_to s (before ++ later)) ≡ filter_map (edit_in node id) (up_to s before) ++ filter_map (edit_in node id) (up_to s later)
cut before later node id s =
    ap (filter_map (edit_in node id)) (filter-append (λ (e : Entry). nat_le e.sample s) before later)
    ∙ filter_map-append (edit_in node id) (up_to s before) (up_to s later)

edits_without : (before later : List Entry) (entry : Entry) (node id s : ℕ) → edit_in node id entry ≡ None → edits_of (up_to s (before ++ entry ∷ later)) node id ≡ edits_of (up_to s (before ++ later)) node id
edits_without before later entry node id s none =
    ap (λ (l : List Edit). reverse l) (cut before (entry ∷ later) node id s ∙ ap (λ (l : List Edit). filter_map (edit_in node id) (up_to s before) ++ l) (skipped node id s entry later none) ∙ sym (cut before later node id s))

-- a command that names another parameter is no edit of this one
named : (node id n i : ℕ) (edit : Edit) → (n ≡ node → i ≡ id → ⊥) → (if is_parameter node id n i then Some edit else None) ≡ None
named node id n i edit other = elim (is_parameter node id n i) as (λ b. is_parameter node id n i ≡ b → cond b (Some edit) None ≡ None) [
  | true ↦ λ is. let both = and_parts (n == node) (i == id) is in absurd (other (eqb-true n node both.0) (eqb-true i id both.1))
  | false ↦ λ is. refl
] refl

no_edit : (node id sample : ℕ) (command : Command) → IsElsewhere node id command → edit_by node id sample command ≡ None
no_edit node id sample (Begin n i) is = named node id n i (Began sample) (λ e f. is.begins cc)
no_edit node id sample (Perform n i value) is = named node id n i (Performed value) (λ e f. is.performs value cc)
no_edit node id sample (End n i) is = named node id n i Ended (λ e f. is.ends cc)
no_edit node id sample (Tell n words) is = refl

pub law_only_its_parameter : OnlyItsParameter
law_only_its_parameter scene before later entry node param first s is =
    let none = no_edit node param.id entry.sample entry.command is in
    ap (λ (l : List Edit). value_after (lane_of scene node param) param.steps first l s) (edits_without before later entry node param.id s none)
