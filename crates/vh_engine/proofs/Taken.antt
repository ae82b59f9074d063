-- Entries that a parameter takes one by one.
use Rattle.std.proofs.Common.{◌≡◌, ℕ, zero, suc, ◌+◌, ◌-◌, ◌<◌, ◌≤◌, leb, List, [], ◌∷◌, ◌++◌, length, get_or, take, drop, inl, inr, refl, sym, ap, subst, ◌^◌, ◌∙◌, arith}
use Rattle.std.specs.Prelude.{Option, Some, None}
use Rattle.std.proofs.lemmas.Bool.{le-leb, lt-leb, cases_lt}
use Rattle.std.proofs.lemmas.List.{take_more, get_or-drop, length-drop, take-take, drop-take, take-append-drop, take_all, get_or_default}
use Rattle.std.proofs.lemmas.List.Elements.{All-filter}
use Rattle.vh_journal.specs.declared.entry.Entry.{Entry}
use Rattle.vh_params.specs.declared.command.Command.TheVariants.{Begin}
use Rattle.vh_meaning.specs.Edits.{Edit, Began, Performed, Ended, edit_in, up_to}
use Rattle.vh_meaning.specs.Stands.{Touch}
use Rattle.vh_meaning.specs.Steps.{touched_by, value_now}
use Rattle.vh_engine.specs.declared.control.Control.{Control}
use Rattle.vh_engine.specs.declared.span.Span.{Span}
use Rattle.vh_engine.specs.Between.{AreElsewhere, IsUpTo}
use Rattle.vh_engine.specs.Controls.{touch_of, line_at, line_of, IsPlaced, IsControl, IsSame, touch_through}
use Rattle.vh_engine.specs.Sent.{value_in}

-- those before a place are the ones up to a sample
pub taken_up_to : (entries : List Entry) (place s : ℕ) → IsUpTo entries place s → up_to s entries ≡ take place entries
taken_up_to [] zero s is = refl
taken_up_to [] (suc place) s is = refl
taken_up_to (entry ∷ entries) zero s is =
    rw (lt-leb entry.sample s (is.after 0 entry (omega arith) (omega arith))) (taken_up_to entries zero s (record {
      most = omega arith;
      before = λ i d lt. absurd (omega (arith, lt));
      after = λ i d le lt. is.after (suc i) d (omega arith) (omega (arith, lt));
    }))
taken_up_to (entry ∷ entries) (suc place) s is =
    rw (le-leb entry.sample s (is.before 0 entry (omega arith))) (ap (λ (es : List Entry). entry ∷ es) (taken_up_to entries place s (record {
      most = omega (arith, is.most);
      before = λ i d lt. is.before (suc i) d (omega (arith, lt));
      after = λ i d le lt. is.after (suc i) d (omega (arith, le)) (omega (arith, lt));
    })))

touch_both : (line : Option (ℕ → ℕ)) (steps node id : ℕ) (front back : List Entry) (touch : Touch)
    → touch_through line steps node id (front ++ back) touch ≡ touch_through line steps node id back (touch_through line steps node id front touch)
touch_both line steps node id [] back touch = refl
touch_both line steps node id (entry ∷ front) back touch = touch_both line steps node id front back (touched_by line steps (edit_in node id entry) touch)

-- entries on others leave it
pub touch_elsewhere : (line : Option (ℕ → ℕ)) (steps node id : ℕ) (entries : List Entry) (touch : Touch) → AreElsewhere node id entries → touch_through line steps node id entries touch ≡ touch
touch_elsewhere line steps node id [] touch are = refl
touch_elsewhere line steps node id (entry ∷ entries) touch are =
    ap (λ (edit : Option Edit). touch_through line steps node id entries (touched_by line steps edit touch)) (are 0 entry (omega arith))
    ∙ touch_elsewhere line steps node id entries touch (λ k d lt. are (suc k) d (omega (arith, lt)))

-- one more of those from a place on
pub touch_next : (line : Option (ℕ → ℕ)) (steps node id : ℕ) (entries : List Entry) (start place : ℕ) (d : Entry) (touch : Touch) → start ≤ place → place < length entries
    → touch_through line steps node id (take (place + 1 - start) (drop start entries)) touch
    ≡ touched_by line steps (edit_in node id (get_or entries place d)) (touch_through line steps node id (take (place - start) (drop start entries)) touch)
touch_next line steps node id entries start place d touch le lt =
    let inside : place - start < length (drop start entries) = omega (arith, length-drop start entries) in
    let next : place + 1 - start ≡ place - start + 1 = omega arith in
    let here : start + (place - start) ≡ place = omega arith in
    let entry : get_or (drop start entries) (place - start) d ≡ get_or entries place d = get_or-drop start entries (place - start) d ∙ ap (λ i. get_or entries i d) here in
    ap (λ i. touch_through line steps node id (take i (drop start entries)) touch) next
    ∙ ap (λ (es : List Entry). touch_through line steps node id es touch) (take_more (drop start entries) (place - start) d inside)
    ∙ touch_both line steps node id (take (place - start) (drop start entries)) (get_or (drop start entries) (place - start) d ∷ []) touch
    ∙ ap (λ (e : Entry). touched_by line steps (edit_in node id e) (touch_through line steps node id (take (place - start) (drop start entries)) touch)) entry

-- the parameter after the entries before a place
pub record HasTaken (span : Span) (node : ℕ) (old : Control) (place : ℕ) (now : Control) : Type 0 where
  pub touch : touch_of now ≡ touch_through (line_of span.lanes.now old) old.steps node old.id (take place span.entries.now) (touch_of old)
  pub same : IsSame old now

pub same_self : (control : Control) → IsSame control control
same_self control = record { id = refl; steps = refl; shown = refl; lane = refl }

pub same_both : {a b c : Control} → IsSame a b → IsSame b c → IsSame a c
same_both one two = record { id = two.id ∙ one.id; steps = two.steps ∙ one.steps; shown = two.shown ∙ one.shown; lane = two.lane ∙ one.lane }

same_line : (span : Span) {old now : Control} → IsSame old now → line_of span.lanes.now now ≡ line_of span.lanes.now old
same_line span same = ap (λ (lane : Option ℕ). line_at span.lanes.now lane) same.lane

pub taken_none : (span : Span) (node : ℕ) (old : Control) → HasTaken span node old 0 old
taken_none span node old = record { touch = refl; same = same_self old }

pub taken_more : (span : Span) (node : ℕ) (old : Control) (place : ℕ) (now : Control) (next : ℕ) (new : Control) → HasTaken span node old place now → place ≤ next
    → touch_of new ≡ touch_through (line_of span.lanes.now now) now.steps node now.id (take (next - place) (drop place span.entries.now)) (touch_of now)
    → IsSame now new → HasTaken span node old next new
taken_more span node old place now next new has le touch same =
    let entries = span.entries.now in
    let more = take (next - place) (drop place entries) in
    let line = line_of span.lanes.now old in
    let sum : place + (next - place) ≡ next = omega arith in
    let parts : take place entries ++ more ≡ take next entries =
    ap (λ (es : List Entry). es ++ more) (sym (take-take place (place + (next - place)) entries (omega arith)))
    ∙ ap (λ (es : List Entry). take place (take (place + (next - place)) entries) ++ es) (sym (drop-take place (next - place) entries))
    ∙ take-append-drop place (take (place + (next - place)) entries)
    ∙ ap (λ n. take n entries) sum in
    record {
      touch = touch
          ∙ ap (λ (l : Option (ℕ → ℕ)). touch_through l now.steps node now.id more (touch_of now)) (same_line span has.same)
          ∙ ap (λ n. touch_through line n node now.id more (touch_of now)) has.same.steps
          ∙ ap (λ n. touch_through line old.steps node n more (touch_of now)) has.same.id
          ∙ ap (λ (t : Touch). touch_through line old.steps node old.id more t) has.touch
          ∙ sym (touch_both line old.steps node old.id (take place entries) more (touch_of old))
          ∙ ap (λ (es : List Entry). touch_through line old.steps node old.id es (touch_of old)) parts;
      same = same_both has.same same;
    }

-- it has the value of a sample where these are the entries up to there
pub taken_value : (span : Span) (node : ℕ) (old : Control) (place : ℕ) (now : Control) (s : ℕ) → HasTaken span node old place now → IsUpTo span.entries.now place s
    → value_now (line_of span.lanes.now now) (touch_of now) s ≡ value_in span node old s
taken_value span node old place now s has up =
    let line = line_of span.lanes.now old in
    ap (λ (l : Option (ℕ → ℕ)). value_now l (touch_of now) s) (same_line span has.same)
    ∙ ap (λ (t : Touch). value_now line t s) has.touch
    ∙ ap (λ (es : List Entry). value_now line (touch_through line old.steps node old.id es (touch_of old)) s) (sym (taken_up_to span.entries.now place s up))

-- where no entry is on it, it stands as it stood
pub elsewhere_value : (span : Span) (node : ℕ) (control : Control) (s : ℕ) → AreElsewhere node control.id span.entries.now
    → value_in span node control s ≡ value_now (line_of span.lanes.now control) (touch_of control) s
elsewhere_value span node control s are =
    ap (λ (t : Touch). value_now (line_of span.lanes.now control) t s)
    (touch_elsewhere (line_of span.lanes.now control) control.steps node control.id (up_to s span.entries.now) (touch_of control) (All-filter (λ (entry : Entry). leb entry.sample s) (λ (entry : Entry). edit_in node control.id entry ≡ None) span.entries.now are))

-- what holds of a parameter holds with less room, and when it is sent another value
pub control_less : (lanes room less : ℕ) (control : Control) → less ≤ room → IsControl lanes room control → IsControl lanes less control
control_less lanes room less control le is = record {
  steps = is.steps;
  lane = is.lane;
  held = is.held;
  sent = is.sent;
  begun = omega (arith, is.begun);
  ended = omega (arith, is.ended);
}

pub control_sent : (lanes room : ℕ) (now new : Control) → IsControl lanes room now → IsSame now new → touch_of new ≡ touch_of now → new.sent ≤ 2 ^ 24 → IsControl lanes room new
control_sent lanes room now new is same touch sent = record {
  steps = subst (λ n. n ≤ 4095) (sym same.steps) is.steps;
  lane = subst (λ (lane : Option ℕ). IsPlaced lanes lane) (sym same.lane) is.lane;
  held = subst (λ (t : Touch). t.value ≤ 2 ^ 24) (sym touch) is.held;
  sent = sent;
  begun = subst (λ (t : Touch). t.begun + room < 2 ^ 128) (sym touch) is.begun;
  ended = subst (λ (t : Touch). t.ended + room < 2 ^ 128) (sym touch) is.ended;
}

-- an entry raises each count by one at most
pub touched_counts : (line : Option (ℕ → ℕ)) (steps : ℕ) (edit : Option Edit) (touch : Touch) → ((touched_by line steps edit touch).begun ≤ touch.begun + 1) × ((touched_by line steps edit touch).ended ≤ touch.ended + 1)
touched_counts line steps None touch = (omega arith, omega arith)
touched_counts None steps (Some (Began sample)) touch = (omega arith, omega arith)
touched_counts (Some lane) steps (Some (Began sample)) touch = (omega arith, omega arith)
touched_counts line steps (Some (Performed value)) touch = (omega arith, omega arith)
touched_counts line steps (Some Ended) touch = (omega arith, omega arith)

-- the entries from one place to another are being taken, all up to a sample
pub record IsTaking (span : Span) (node start s : ℕ) (old : Control) (place : ℕ) (now : Control) : Type 0 where
  pub from : start ≤ place
  pub most : place ≤ length span.entries.now
  pub before : (i : ℕ) (d : Entry) → i < place → (get_or span.entries.now i d).sample ≤ s
  pub touch : touch_of now ≡ touch_through (line_of span.lanes.now old) old.steps node old.id (take (place - start) (drop start span.entries.now)) (touch_of old)
  pub same : IsSame old now
  pub sent : now.sent ≡ old.sent
  pub control : IsControl (length span.lanes.now) (length span.entries.now - place) now

pub taking_none : (span : Span) (node start s : ℕ) (old : Control) → start ≤ length span.entries.now → ((i : ℕ) (d : Entry) → i < start → (get_or span.entries.now i d).sample ≤ s)
    → IsControl (length span.lanes.now) (length span.entries.now - start) old → IsTaking span node start s old start old
taking_none span node start s old most before control =
    let none : start - start ≡ 0 = omega arith in
    record {
      from = omega arith;
      most = most;
      before = before;
      touch = rw none refl;
      same = same_self old;
      sent = refl;
      control = control;
    }

pub taking_more : (span : Span) (node start s : ℕ) (old : Control) (place : ℕ) (now : Control) (entry : Entry) (new : Control) → IsTaking span node start s old place now → place < length span.entries.now
    → entry ≡ get_or span.entries.now place entry → entry.sample ≤ s
    → touch_of new ≡ touched_by (line_of span.lanes.now now) now.steps (edit_in node now.id entry) (touch_of now) → IsSame now new → new.sent ≡ now.sent → new.held ≤ 2 ^ 24
    → IsTaking span node start s old (place + 1) new
taking_more span node start s old place now entry new is inside read early touch same sent held =
    let entries = span.entries.now in
    let line = line_of span.lanes.now old in
    let edit = edit_in node old.id entry in
    let counts = touched_counts (line_of span.lanes.now now) now.steps (edit_in node now.id entry) (touch_of now) in
    let begun : new.begun ≤ now.begun + 1 = subst (λ (t : Touch). t.begun ≤ now.begun + 1) (sym touch) counts.0 in
    let ended : new.ended ≤ now.ended + 1 = subst (λ (t : Touch). t.ended ≤ now.ended + 1) (sym touch) counts.1 in
    record {
      from = omega (arith, is.from);
      most = omega arith;
      before = λ i d lt. elim (cases_lt i place) [
        | inl below ↦ is.before i d below
        | inr top ↦
            let here : place ≡ i = omega arith in
            subst (λ k. (get_or entries k d).sample ≤ s) here (subst (λ (e : Entry). e.sample ≤ s) (read ∙ get_or_default entries place entry d inside) early)
      ];
      touch = touch
          ∙ ap (λ (l : Option (ℕ → ℕ)). touched_by l now.steps (edit_in node now.id entry) (touch_of now)) (same_line span is.same)
          ∙ ap (λ n. touched_by line n (edit_in node now.id entry) (touch_of now)) is.same.steps
          ∙ ap (λ n. touched_by line old.steps (edit_in node n entry) (touch_of now)) is.same.id
          ∙ ap (λ (t : Touch). touched_by line old.steps edit t) is.touch
          ∙ ap (λ (e : Entry). touched_by line old.steps (edit_in node old.id e) (touch_through line old.steps node old.id (take (place - start) (drop start entries)) (touch_of old))) read
          ∙ sym (touch_next line old.steps node old.id entries start place entry (touch_of old) is.from inside);
      same = same_both is.same same;
      sent = sent ∙ is.sent;
      control = record {
        steps = subst (λ n. n ≤ 4095) (sym same.steps) is.control.steps;
        lane = subst (λ (lane : Option ℕ). IsPlaced (length span.lanes.now) lane) (sym same.lane) is.control.lane;
        held = held;
        sent = subst (λ n. n ≤ 2 ^ 24) (sym sent) is.control.sent;
        begun = omega (arith, begun, is.control.begun, inside);
        ended = omega (arith, ended, is.control.ended, inside);
      };
    }

-- where the next entry is of a later sample, so are all behind it
pub taken_end : (span : Span) (node start s : ℕ) (old : Control) (place : ℕ) (now : Control) → IsTaking span node start s old place now
    → ((d : Entry) → place < length span.entries.now → s < (get_or span.entries.now place d).sample) → IsUpTo span.entries.now place s
taken_end span node start s old place now is next = record {
  most = is.most;
  before = is.before;
  after = λ i d le lt. elim (cases_lt place i) [
    | inl below ↦ omega (arith, next d (omega arith), span.between.rising place i d below lt)
    | inr same ↦
        let here : place ≡ i = omega arith in
        subst (λ k. s < (get_or span.entries.now k d).sample) here (next d (omega arith))
  ];
}

-- those before an offset were taken
pub record AreTaken (span : Span) (node : ℕ) (old : Control) (offset place : ℕ) (now : Control) : Type 0 where
  pub most : place ≤ length span.entries.now
  pub before : (i : ℕ) (d : Entry) → i < place → (get_or span.entries.now i d).sample ≤ span.from + offset
  pub after : (i : ℕ) (d : Entry) → place ≤ i → i < length span.entries.now → span.from + offset ≤ (get_or span.entries.now i d).sample
  pub has : HasTaken span node old place now
  pub control : IsControl (length span.lanes.now) (length span.entries.now - place) now

pub are_taken_none : (span : Span) (node : ℕ) (old : Control) → IsControl (length span.lanes.now) (length span.entries.now) old → AreTaken span node old 0 0 old
are_taken_none span node old control = record {
  most = omega arith;
  before = λ i d lt. absurd (omega (arith, lt));
  after = λ i d le lt. omega (arith, span.between.from i d lt);
  has = taken_none span node old;
  control = control_less (length span.lanes.now) (length span.entries.now) (length span.entries.now - 0) old (omega arith) control;
}

pub are_taken_more : (span : Span) (node : ℕ) (old : Control) (offset place : ℕ) (now : Control) (next : ℕ) (new sent : Control) → AreTaken span node old offset place now → place ≤ next
    → IsUpTo span.entries.now next (span.from + offset)
    → touch_of new ≡ touch_through (line_of span.lanes.now now) now.steps node now.id (take (next - place) (drop place span.entries.now)) (touch_of now)
    → IsSame now new → IsControl (length span.lanes.now) (length span.entries.now - next) new
    → touch_of sent ≡ touch_of new → IsSame new sent → sent.sent ≤ 2 ^ 24 → AreTaken span node old (offset + 1) next sent
are_taken_more span node old offset place now next new sent are le up touch same control touch_same same_sent within =
    let has = taken_more span node old place now next new are.has le touch same in
    record {
      most = up.most;
      before = λ i d lt. omega (arith, up.before i d lt);
      after = λ i d le lt. omega (arith, up.after i d le lt);
      has = record { touch = touch_same ∙ has.touch; same = same_both has.same same_sent };
      control = control_sent (length span.lanes.now) (length span.entries.now - next) new sent control same_sent touch_same within;
    }

-- its value at an offset
pub are_taken_value : (span : Span) (node : ℕ) (old : Control) (offset place : ℕ) (now : Control) (next : ℕ) (new : Control) (v : ℕ) → AreTaken span node old offset place now → place ≤ next
    → IsUpTo span.entries.now next (span.from + offset)
    → touch_of new ≡ touch_through (line_of span.lanes.now now) now.steps node now.id (take (next - place) (drop place span.entries.now)) (touch_of now)
    → IsSame now new → v ≡ value_now (line_of span.lanes.now new) (touch_of new) (span.from + offset) → v ≡ value_in span node old (span.from + offset)
are_taken_value span node old offset place now next new v are le up touch same valued =
    valued ∙ taken_value span node old next new (span.from + offset) (taken_more span node old place now next new are.has le touch same) up

-- at the block's end all were
taken_whole : (span : Span) (node : ℕ) (old : Control) (place : ℕ) (now : Control) → AreTaken span node old span.frames place now → length span.entries.now ≤ place
taken_whole span node old place now are = elim (cases_lt place (length span.entries.now)) [
  | inl inside ↦
      let none : Entry = record { sample = 0; editor = 0; seq = 0; command = Begin 0 0 } in
      absurd (omega (arith, are.after place none (omega arith) inside, span.between.to place none inside))
  | inr all ↦ all
]

pub are_taken_all : (span : Span) (node : ℕ) (old : Control) (place : ℕ) (now : Control) → AreTaken span node old span.frames place now
    → (touch_of now ≡ touch_through (line_of span.lanes.now old) old.steps node old.id span.entries.now (touch_of old)) × IsControl (length span.lanes.now) 0 now
are_taken_all span node old place now are =
    let all = taken_whole span node old place now are in (
      are.has.touch ∙ ap (λ (es : List Entry). touch_through (line_of span.lanes.now old) old.steps node old.id es (touch_of old)) (take_all place span.entries.now all),
      control_less (length span.lanes.now) (length span.entries.now - place) 0 now (omega arith) are.control,
    )
