-- A parameter behind a block.
use Rattle.std.proofs.Common.{◌≡◌, ◌≢◌, ℕ, zero, suc, ◌+◌, ◌-◌, ◌<◌, ◌≤◌, List, [], ◌∷◌, ◌++◌, length, inr, refl, sym, ap, ◌∙◌, arith}
use Rattle.std.specs.Prelude.{Option, Some, None}
use Rattle.std.specs.List.{slice_get}
use Rattle.std.proofs.lemmas.Bool.{lt-ltb, le-ltb}
use Rattle.std.proofs.lemmas.List.{length-set, length_push}
use Rattle.vh_points.specs.Queues.{Queue, queue_at, with_point}
use Rattle.vh_lane.specs.declared.lane.Lane.{Lane}
use Rattle.vh_lane.specs.Kept.{value_of}
use Rattle.vh_lane.specs.Changes.{before, changes_of, with_points}
use Rattle.vh_meaning.specs.Steps.{value_now}
use Rattle.vh_engine.specs.declared.control.Control.{Control}
use Rattle.vh_engine.specs.declared.span.Span.{Span}
use Rattle.vh_engine.specs.Between.{AreElsewhere}
use Rattle.vh_engine.specs.Controls.{touch_of, line_at, line_of, IsControl, IsSame}
use Rattle.vh_engine.specs.Sent.{value_in, points_in, IsFilled, IsQueued, IsBehind}
use Rattle.vh_engine.proofs.Taken.{touch_elsewhere, elsewhere_value}
use Rattle.vh_engine.proofs.Sending.{before_still, changes_same, changes_none, changes_first, with_none, with_last}

-- no entry is on it, and its processor has the last sample's value
pub behind_elsewhere : (span : Span) (node : ℕ) (old new : Control) → AreElsewhere node old.id span.entries.now → touch_of new ≡ touch_of old → IsSame old new
    → new.sent ≡ before (value_in span node old) span.from old.sent span.frames → IsControl (length span.lanes.now) 0 new → IsBehind span node old new
behind_elsewhere span node old new are touch same sent control = record {
  touch = touch ∙ sym (touch_elsewhere (line_of span.lanes.now old) old.steps node old.id span.entries.now (touch_of old) are);
  sent = sent;
  same = same;
  control = control;
}

-- a parameter that stays where it is
module _ (span : Span) (node : ℕ) (control : Control) (are : AreElsewhere node control.id span.entries.now)
    (held : (s : ℕ) → value_now (line_of span.lanes.now control) (touch_of control) s ≡ control.held) (some : 1 ≤ span.frames) where
  still_value : (s : ℕ) → value_in span node control s ≡ control.held
  still_value s = elsewhere_value span node control s are ∙ held s

  pub still_before : before (value_in span node control) span.from control.sent span.frames ≡ control.held
  still_before = before_still (value_in span node control) span.from control.sent span.frames control.held some (λ i lt. still_value (span.from + i))

  pub still_none : control.sent ≡ control.held → points_in span node control ≡ []
  still_none same = changes_none (value_in span node control) span.from control.sent span.frames (λ i lt. still_value (span.from + i) ∙ sym same)

  pub still_filled : (q : ℕ) (old more : List Queue) → control.sent ≢ control.held → (queue_at old q).points ≡ [] → more ≡ with_point old q (0, control.held) → IsFilled span node control q old more
  still_filled q old more differs empty added =
      added
      ∙ ap (λ (points : List (ℕ × ℕ)). with_points old q (points ++ (0, control.held) ∷ [])) empty
      ∙ ap (λ (points : List (ℕ × ℕ)). with_points old q points) (sym (changes_first (value_in span node control) span.from control.sent span.frames control.held some (λ i lt. still_value (span.from + i)) (λ e. differs (sym e))))

  pub still_same : (q : ℕ) (old : List Queue) → control.sent ≡ control.held → (queue_at old q).points ≡ [] → IsFilled span node control q old old
  still_same q old same empty = sym (with_none old q empty) ∙ ap (λ (points : List (ℕ × ℕ)). with_points old q points) (sym (still_none same))

-- the value before an offset is that of the sample there
before_end : (f : ℕ → ℕ) (from last n : ℕ) → 1 ≤ n → before f from last n ≡ f (from + n - 1)
before_end f from last zero some = absurd (omega (arith, some))
before_end f from last (suc n) some = ap f (let e : from + n ≡ from + suc n - 1 = omega arith in e)

-- a parameter that follows a lane
module _ (span : Span) (node : ℕ) (control : Control) (lane : Lane) (are : AreElsewhere node control.id span.entries.now)
    (free : (s : ℕ) → value_now (line_of span.lanes.now control) (touch_of control) s ≡ value_of lane s) where
  free_value : (s : ℕ) → value_in span node control s ≡ value_of lane s
  free_value s = elsewhere_value span node control s are ∙ free s

  pub free_points : points_in span node control ≡ changes_of (value_of lane) span.from control.sent span.frames
  free_points = changes_same (value_in span node control) (value_of lane) span.from control.sent span.frames (λ i lt. free_value (span.from + i))

  pub free_before : 1 ≤ span.frames → before (value_in span node control) span.from control.sent span.frames ≡ value_of lane (span.from + span.frames - 1)
  free_before some = before_end (value_in span node control) span.from control.sent span.frames some ∙ free_value (span.from + span.frames - 1)

-- what a parameter's value is with no gesture open, and with one
pub value_free : (lanes : List (ℕ × ℕ × Lane)) (control : Control) (place : ℕ) (lane : ℕ × ℕ × Lane) (s : ℕ) → control.lane ≡ Some place → slice_get lanes place ≡ Some lane → control.begun ≤ control.ended
    → value_now (line_of lanes control) (touch_of control) s ≡ value_of lane.2 s
value_free lanes control place lane s is got le =
    ap (λ (l : Option ℕ). value_now (line_at lanes l) (touch_of control) s) is
    ∙ rw got (rw (le-ltb control.ended control.begun le) refl)

pub value_unplaced : (lanes : List (ℕ × ℕ × Lane)) (control : Control) (s : ℕ) → control.lane ≡ None → value_now (line_of lanes control) (touch_of control) s ≡ control.held
value_unplaced lanes control s is = ap (λ (l : Option ℕ). value_now (line_at lanes l) (touch_of control) s) is

pub value_touched : (lanes : List (ℕ × ℕ × Lane)) (control : Control) (s : ℕ) → control.ended < control.begun → value_now (line_of lanes control) (touch_of control) s ≡ control.held
value_touched lanes control s lt =
    elim (line_of lanes control) as (λ (l : Option (ℕ → ℕ)). value_now l (touch_of control) s ≡ control.held) [
      | None ↦ refl
      | Some line ↦ rw (lt-ltb control.ended control.begun lt) refl
    ]

-- a queue that was added for it and filled stands behind the others
pub filled_queued : (span : Span) (node : ℕ) (control : Control) (q : ℕ) (old added new : List Queue) → q ≡ length old → added ≡ old ++ record { id = control.id; points = [] } ∷ []
    → IsFilled span node control q added new → IsQueued control.id (points_in span node control) old new
filled_queued span node control q old added new number is filled =
    inr (filled ∙ ap (λ n. with_points added n (points_in span node control)) number ∙ with_last old added control.id (points_in span node control) is)

-- and is one more
pub filled_length : (span : Span) (node : ℕ) (control : Control) (q id : ℕ) (old added new : List Queue) → added ≡ old ++ record { id = id; points = [] } ∷ [] → IsFilled span node control q added new → length new ≡ length old + 1
filled_length span node control q id old added new is filled =
    ap (λ (queues : List Queue). length queues) filled
    ∙ length-set added q (record { id = (queue_at added q).id; points = points_in span node control })
    ∙ ap (λ (queues : List Queue). length queues) is
    ∙ length_push old (record { id = id; points = [] })
