-- How a command with two outputs ends.
use Rattle.std.proofs.Common.{◌≡◌, ◌≢◌, ◌∙◌, ℕ, ◌+◌, ◌-◌, ◌^◌, ◌≤◌, min, Bool, List, [], ◌∷◌, Option, ◌⊎◌, inl, inr, ⊎_elim, refl, sym, ap, subst, arith}
use Rattle.std.specs.Prelude.{All}
use Rattle.std.proofs.lemmas.List.Elements.{All-nil, All-cons}
use Rattle.vh_files.specs.Causes.{Rose}
use Rattle.vh_files.specs.Store.{Held, told, HasNow, SameElsewhere, SaysMore, SaysInPart}
use Rattle.vh_render.specs.Playing.{HasPart}
use Rattle.vh_answers.specs.declared.status.Place.TheVariants.{Output as OutputPlace, Journal as JournalPlace, Report as ReportPlace}
use Rattle.vh_answers.specs.declared.status.Status.TheVariants as status
use Rattle.vh_answers.specs.Outside.{Outside, ChangesOnly}
use Rattle.vh_answers.specs.Steps.{Output, Steps, Last, IsWhole, IsBegun, IsAsBefore, IsApart, EndsUnsaid, Done, Cut, Unsaid}

-- the samples' file and the journal's, each apart from the other
abbrev pub samples_of : List ℕ → List ℕ → List ℕ → List ℕ → Output
samples_of input output journal text = record { place = OutputPlace; name = output; apart = input ∷ journal ∷ []; text = text }

abbrev pub journal_of : List ℕ → List ℕ → List ℕ → List ℕ → Output
journal_of input output journal text = record { place = JournalPlace; name = journal; apart = input ∷ output ∷ []; text = text }

module _ (Counts : ℕ → Type 0) (o : Outside) (input output journal samples text report : List ℕ) (calls : ℕ) where
  abbrev steps : Steps
  steps = Last (samples_of input output journal samples ∷ journal_of input output journal text ∷ []) report calls

  -- names are apart either way
  journal_apart : IsApart (samples_of input output journal samples) → journal ≢ output
  journal_apart apart = apart 1 [] (omega arith)

  output_apart : IsApart (journal_of input output journal text) → output ≢ journal
  output_apart apart = apart 1 [] (omega arith)

  -- the samples' file failed
  pub output_cut : (o.new.held ≡ o.old.held) ⊎ HasPart o.old.complete (told o.new.held output) samples → SameElsewhere output o.old.held o.new.held
      → Rose o.old.writes o.new.writes → o.said_now.text ≡ o.said.text → EndsUnsaid Counts o steps (status.WriteFault OutputPlace)
  output_cut part others rose unsaid =
      let begun : IsBegun o.old o.new (samples_of input output journal samples) = λ apart. ⊎_elim (λ (same : o.new.held ≡ o.old.held). inl (ap (λ held. told held output) same)) (λ (has : HasPart o.old.complete (told o.new.held output) samples). inr has) part in
      let before : IsAsBefore o.old o.new (journal_of input output journal text) = λ apart. others journal (λ e. output_apart apart (sym e)) in
      Cut OutputPlace refl tt (inl (refl, begun, All-cons (IsAsBefore o.old o.new) (journal_of input output journal text) [] before (All-nil _))) rose unsaid

  -- the samples' file is whole, and what follows is another
  module _ (mid : Held) (whole : HasNow o.old.complete (told mid output) samples) (first : SameElsewhere output o.old.held mid) (then_ : SameElsewhere journal mid o.new.held) where
    samples_whole : IsWhole o.old o.new (samples_of input output journal samples)
    samples_whole = λ apart. subst (λ now. HasNow o.old.complete now samples) (sym (then_ output (λ e. journal_apart apart (sym e)))) whole

    -- the journal's failed
    pub journal_cut : (o.new.held ≡ mid) ⊎ HasPart o.old.complete (told o.new.held journal) text → Rose o.old.writes o.new.writes → o.said_now.text ≡ o.said.text
        → EndsUnsaid Counts o steps (status.WriteFault JournalPlace)
    journal_cut part rose unsaid =
        let begun : IsBegun o.old o.new (journal_of input output journal text) = λ apart.
        ⊎_elim (λ (same : o.new.held ≡ mid). inl (ap (λ held. told held journal) same ∙ first journal (λ e. output_apart apart (sym e)))) (λ (has : HasPart o.old.complete (told o.new.held journal) text). inr has) part in
        Cut JournalPlace refl tt (inr (samples_whole, inl (refl, begun, All-nil _))) rose unsaid

    -- both are whole
    module _ (written : HasNow o.old.complete (told o.new.held journal) text) where
      both_whole : All (IsWhole o.old o.new) (samples_of input output journal samples ∷ journal_of input output journal text ∷ [])
      both_whole = All-cons (IsWhole o.old o.new) (samples_of input output journal samples) (journal_of input output journal text ∷ []) samples_whole
          (All-cons (IsWhole o.old o.new) (journal_of input output journal text) [] (λ apart. written) (All-nil _))

      pub report_cut : SaysInPart o.said.text o.said_now.text report → Rose o.said.faults o.said_now.faults → EndsUnsaid Counts o steps (status.WriteFault ReportPlace)
      report_cut part rose = Unsaid refl (both_whole, part) rose

      pub all_done : SaysMore o.said.text o.said_now.text report → Counts calls → EndsUnsaid Counts o steps status.Ok
      all_done more counts = Done refl (both_whole, more, counts)

-- other names are as before both
pub changes_two : (old mid new : Held) (output journal : List ℕ) → SameElsewhere output old mid → SameElsewhere journal mid new → ChangesOnly (output ∷ journal ∷ []) old new
changes_two old mid new output journal first then_ = λ other are. then_ other (are 1 [] (omega arith)) ∙ first other (are 0 [] (omega arith))

pub changes_first : (old mid : Held) (output journal : List ℕ) → SameElsewhere output old mid → ChangesOnly (output ∷ journal ∷ []) old mid
changes_first old mid output journal first = λ other are. first other (are 0 [] (omega arith))

-- what a part of a run did, from before an earlier part
pub part_then : (complete mid : Bool) (held new : Held) (now : Option (List ℕ)) (bytes text : List ℕ) → mid ≡ complete → bytes ≡ text → (new ≡ held) ⊎ HasPart mid now bytes → (new ≡ held) ⊎ HasPart complete now text
part_then complete mid held new now bytes text same are part =
    subst (λ (t : List ℕ). (new ≡ held) ⊎ HasPart complete now t) are (subst (λ (b : Bool). (new ≡ held) ⊎ HasPart b now bytes) same part)

pub has_then : (complete mid : Bool) (now : Option (List ℕ)) (bytes text : List ℕ) → mid ≡ complete → bytes ≡ text → HasNow mid now bytes → HasNow complete now text
has_then complete mid now bytes text same are has = subst (λ (t : List ℕ). HasNow complete now t) are (subst (λ (b : Bool). HasNow b now bytes) same has)

pub rose_then : (first before now : ℕ) → first ≤ before → Rose before now → Rose first now
rose_then first before now early rose = let e : min (before + 1) (2 ^ 64 - 1) ≤ now = rose in omega (arith, early, e)
