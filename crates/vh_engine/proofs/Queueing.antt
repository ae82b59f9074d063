-- The queues of a node's parameters.
use Rattle.std.proofs.Common.{◌≡◌, ◌≢◌, ℕ, suc, ◌+◌, ◌-◌, ◌*◌, ◌<◌, ◌≤◌, true, false, cond, nat_eq, List, [], ◌∷◌, ◌++◌, length, get_or, set, All, inl, inr, refl, sym, ap, subst, ◌∙◌, arith}
use Rattle.std.proofs.lemmas.Bool.{ne_eqb, eq-eqb, cases_lt}
use Rattle.std.proofs.lemmas.List.{length-set, length_push, get_or-set_same, get_or-set_other, get_or_default}
use Rattle.std.proofs.lemmas.List.Elements.{All-push}
use Rattle.vh_points.specs.Queues.{Queue, LacksId}
use Rattle.vh_points.specs.Values.{points_of}
use Rattle.vh_lane.specs.Laws.{PointsMeanValues}
use Rattle.vh_engine.specs.declared.control.Control.{Control}
use Rattle.vh_engine.specs.declared.span.Span.{Span}
use Rattle.vh_engine.specs.Controls.{IsControl}
use Rattle.vh_engine.specs.Sent.{value_in, points_in, IsQueued, IsBehind}
use Rattle.vh_engine.specs.Queued.{IsStill, AreControls, AreSent}
use Rattle.vh_engine.specs.Nodes.{AreBehind}
use Rattle.vh_engine.proofs.Taken.{same_self, control_less}
use Rattle.vh_engine.proofs.Behind.{behind_elsewhere, still_before, still_none, value_unplaced}

lacks_points : (queues : List Queue) (id : ℕ) → LacksId queues id → points_of queues id ≡ []
lacks_points [] id lacks = refl
lacks_points (queue ∷ queues) id lacks = rw (ne_eqb queue.id id (lacks 0 queue (omega arith))) (lacks_points queues id (λ i d lt. lacks (suc i) d (omega (arith, lt))))

points_added : (queues : List Queue) (queue : Queue) → LacksId queues queue.id → points_of (queues ++ queue ∷ []) queue.id ≡ queue.points
points_added [] queue lacks = rw (eq-eqb queue.id queue.id refl) refl
points_added (first ∷ queues) queue lacks = rw (ne_eqb first.id queue.id (lacks 0 first (omega arith))) (points_added queues queue (λ i d lt. lacks (suc i) d (omega (arith, lt))))

points_others : (queues : List Queue) (queue : Queue) (id : ℕ) → queue.id ≢ id → points_of (queues ++ queue ∷ []) id ≡ points_of queues id
points_others [] queue id differs = rw (ne_eqb queue.id id differs) refl
points_others (first ∷ queues) queue id differs =
    elim (nat_eq first.id id) as (λ t. cond t first.points (points_of (queues ++ queue ∷ []) id) ≡ cond t first.points (points_of queues id)) [
      | true ↦ refl
      | false ↦ points_others queues queue id differs
    ]

-- what a parameter's queue changes
module _ (id : ℕ) (points : List (ℕ × ℕ)) (old new : List Queue) (is : IsQueued id points old new) where
  queued_own : LacksId old id → points_of new id ≡ points
  queued_own lacks = elim is [
    | inl none ↦ ap (λ (queues : List Queue). points_of queues id) none.0 ∙ lacks_points old id lacks ∙ sym none.1
    | inr added ↦ ap (λ (queues : List Queue). points_of queues id) added ∙ points_added old (record { id = id; points = points }) lacks
  ]

  queued_other : (other : ℕ) → id ≢ other → points_of new other ≡ points_of old other
  queued_other other differs = elim is [
    | inl none ↦ ap (λ (queues : List Queue). points_of queues other) none.0
    | inr added ↦ ap (λ (queues : List Queue). points_of queues other) added ∙ points_others old (record { id = id; points = points }) other differs
  ]

  pub queued_few : length new ≤ length old + 1
  queued_few = elim is [
    | inl none ↦ omega (arith, ap (λ (queues : List Queue). length queues) none.0)
    | inr added ↦ omega (arith, ap (λ (queues : List Queue). length queues) added, length_push old (record { id = id; points = points }))
  ]

  queued_all : (P : Queue → Type 0) → All P old → P (record { id = id; points = points }) → All P new
  queued_all P all own = elim is [
    | inl none ↦ subst (λ (queues : List Queue). All P queues) (sym none.0) all
    | inr added ↦ subst (λ (queues : List Queue). All P queues) (sym added) (All-push P old (record { id = id; points = points }) all own)
  ]

-- the parameters before a place were sent
pub record AreSending (span : Span) (node : ℕ) (old now : List Control) (place : ℕ) (queues : List Queue) : Type 0 where
  pub long : length now ≡ length old
  pub behind : (j : ℕ) (d : Control) → j < place → IsBehind span node (get_or old j d) (get_or now j d)
  pub rest : (j : ℕ) (d : Control) → place ≤ j → j < length old → get_or now j d ≡ get_or old j d
  pub points : (j : ℕ) (d : Control) → j < place → points_of queues (get_or old j d).id ≡ points_in span node (get_or old j d)
  pub writable : All (λ queue. (j : ℕ) × (j < place) × ((d : Control) → ((get_or old j d).id ≡ queue.id) × ((get_or old j d).shown ≡ false))) queues
  pub offsets : All (λ queue. All (λ point. point.0 < span.frames) queue.points) queues

pub sending_nothing : (span : Span) (node : ℕ) (old : List Control) → AreSending span node old old 0 []
sending_nothing span node old = record {
  long = refl;
  behind = λ j d lt. absurd (omega (arith, lt));
  rest = λ j d le lt. refl;
  points = λ j d lt. absurd (omega (arith, lt));
  writable = λ i d lt. absurd (omega (arith, lt));
  offsets = λ i d lt. absurd (omega (arith, lt));
}

-- a read-only parameter has no points, and is behind the block as it is
module _ (span : Span) (node : ℕ) (control : Control) (is : IsStill span node control) where
  shown_none : 1 ≤ span.frames → points_in span node control ≡ []
  shown_none some = still_none span node control is.elsewhere (λ s. value_unplaced span.lanes.now control s is.lane) some is.sent

  shown_behind : 1 ≤ span.frames → (room : ℕ) → IsControl (length span.lanes.now) room control → IsBehind span node control control
  shown_behind some room control_is =
      behind_elsewhere span node control control is.elsewhere refl (same_self control)
      (is.sent ∙ sym (still_before span node control is.elsewhere (λ s. value_unplaced span.lanes.now control s is.lane) some))
      (control_less (length span.lanes.now) room 0 control (omega arith) control_is)

module _ (span : Span) (node : ℕ) (old now : List Control) (place : ℕ) (queues : List Queue)
    (are : AreControls span node old) (is : AreSending span node old now place queues) (inside : place < length old) where
  pub sending_lacks : (d : Control) → LacksId queues (get_or old place d).id
  sending_lacks d i e lt same =
      let own = is.writable i e lt in
      let rises = are.rising own.0 place d own.1 inside in
      omega (arith, rises, (own.2 d).0, same)

  pub sending_next : (d new : Control) (more : List Queue) → PointsMeanValues → (get_or old place d).shown ≡ false → IsBehind span node (get_or old place d) new
      → IsQueued (get_or old place d).id (points_in span node (get_or old place d)) queues more → AreSending span node old (set now place new) (place + 1) more
  sending_next d new more law writable behind queued =
      let control = get_or old place d in
      let points = points_in span node control in
      let meant = law (value_in span node control) span.from control.sent span.frames in
      let there : place < length now = omega (arith, is.long, inside) in
      record {
        long = length-set now place new ∙ is.long;
        behind = λ j e lt. elim (cases_lt j place) [
          | inl below ↦ subst (λ (c : Control). IsBehind span node (get_or old j e) c) (sym (get_or-set_other now place j new e (λ same. omega (arith, same, below)))) (is.behind j e below)
          | inr top ↦
              let here : place ≡ j = omega (arith, lt, top) in
              subst (λ i. IsBehind span node (get_or old i e) (get_or (set now place new) i e)) here
              (subst (λ (c : Control). IsBehind span node (get_or old place e) c) (sym (get_or-set_same now place new e there))
              (subst (λ (c : Control). IsBehind span node c new) (get_or_default old place d e inside) behind))
        ];
        rest = λ j e le lt. get_or-set_other now place j new e (λ same. omega (arith, same, le)) ∙ is.rest j e (omega (arith, le)) lt;
        points = λ j e lt. elim (cases_lt j place) [
          | inl below ↦
              let rises = are.rising j place e below inside in
              let same : get_or old place d ≡ get_or old place e = get_or_default old place d e inside in
              queued_other control.id points queues more queued (get_or old j e).id (λ equal. omega (arith, rises, equal, ap (λ (c : Control). c.id) same)) ∙ is.points j e below
          | inr top ↦
              let here : place ≡ j = omega (arith, lt, top) in
              subst (λ i. points_of more (get_or old i e).id ≡ points_in span node (get_or old i e)) here
              (subst (λ (c : Control). points_of more c.id ≡ points_in span node c) (get_or_default old place d e inside)
              (queued_own control.id points queues more queued (sending_lacks d)))
        ];
        writable = queued_all control.id points queues more queued (λ queue. (j : ℕ) × (j < place + 1) × ((e : Control) → ((get_or old j e).id ≡ queue.id) × ((get_or old j e).shown ≡ false)))
            (λ i e lt. let own = is.writable i e lt in (own.0, omega (arith, own.1), own.2))
            (place, omega arith, λ e. let same : get_or old place e ≡ get_or old place d = get_or_default old place e d inside in (ap (λ (c : Control). c.id) same, ap (λ (c : Control). c.shown) same ∙ writable));
        offsets = queued_all control.id points queues more queued (λ queue. All (λ point. point.0 < span.frames) queue.points) is.offsets (λ j e lt. (meant.changes j e lt).0);
      }

  pub sending_shown : (d : Control) → 1 ≤ span.frames → (get_or old place d).shown ≡ true → AreSending span node old now (place + 1) queues
  sending_shown d some shown =
      let control = get_or old place d in
      let still = are.shown place d inside shown in
      record {
        long = is.long;
        behind = λ j e lt. elim (cases_lt j place) [
          | inl below ↦ is.behind j e below
          | inr top ↦
              let here : place ≡ j = omega (arith, lt, top) in
              subst (λ i. IsBehind span node (get_or old i e) (get_or now i e)) here
              (subst (λ (c : Control). IsBehind span node (get_or old place e) c) (sym (is.rest place e (omega arith) inside))
              (subst (λ (c : Control). IsBehind span node c c) (get_or_default old place d e inside)
              (shown_behind span node control still some (length span.entries.now) (are.each place d inside))))
        ];
        rest = λ j e le lt. is.rest j e (omega (arith, le)) lt;
        points = λ j e lt. elim (cases_lt j place) [
          | inl below ↦ is.points j e below
          | inr top ↦
              let here : place ≡ j = omega (arith, lt, top) in
              subst (λ i. points_of queues (get_or old i e).id ≡ points_in span node (get_or old i e)) here
              (subst (λ (c : Control). points_of queues c.id ≡ points_in span node c) (get_or_default old place d e inside)
              (lacks_points queues control.id (sending_lacks d) ∙ sym (shown_none span node control still some)))
        ];
        writable = λ i e lt. let own = is.writable i e lt in (own.0, omega (arith, own.1), own.2);
        offsets = is.offsets;
      }

-- all were
pub sending_all : (span : Span) (node : ℕ) (old now : List Control) (place : ℕ) (queues : List Queue) → AreSending span node old now place queues → place ≡ length old
    → AreSent span node old queues × AreBehind span node old now
sending_all span node old now place queues is all = (
  record {
    points = λ k d lt. is.points k d (omega (arith, lt, all));
    writable = λ i d lt. let own = is.writable i d lt in (own.0, omega (arith, own.1, all), own.2);
    offsets = is.offsets;
  },
  record { long = is.long; each = λ k d lt. is.behind k d (omega (arith, lt, all)) },
)

-- the room that is left for those from a place on
pub room_left : (count place frames room less : ℕ) → place < count → (count - place) * frames ≤ room → room ≤ less + frames → (count - (place + 1)) * frames ≤ less
room_left count place frames room less inside enough took =
    let one : count - place ≡ suc (count - (place + 1)) = omega arith in
    let product : (count - place) * frames ≡ (count - (place + 1)) * frames + frames = ap (λ n. n * frames) one ∙ grind arith in
    omega (arith, product, enough, took)
