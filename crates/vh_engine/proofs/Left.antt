-- What a block needs of a node, and leaves of it.
use Rattle.std.proofs.Common.{◌≡◌, ◌∙◌, ℕ, suc, ◌+◌, ◌*◌, ◌<◌, ◌≤◌, true, List, [], ◌∷◌, length, map, get_or, refl, sym, ap, subst, arith}
use Rattle.std.specs.Prelude.{All, Option}
use Rattle.std.proofs.Math.Nat.{mul-le-mul_left}
use Rattle.vh_component.specs.declared.setup.Phase.{Phase}
use Rattle.vh_component.specs.declared.setup.Setup.{Setup}
use Rattle.vh_journal.specs.declared.entry.Entry.{Entry}
use Rattle.vh_plugin.specs.Class.{Param, Class, IsLawful}
use Rattle.vh_meaning.specs.Edits.{edit_in}
use Rattle.vh_meaning.specs.Scene.{Scene, params_at}
use Rattle.vh_meaning.specs.Stands.{Touch}
use Rattle.vh_meaning.specs.Steps.{touched_by}
use Rattle.vh_engine.specs.declared.control.Control.{Control}
use Rattle.vh_engine.specs.declared.seat.Seat.{Seat}
use Rattle.vh_engine.specs.declared.space.Space.{Space}
use Rattle.vh_engine.specs.declared.span.Span.{Span}
use Rattle.vh_engine.specs.Controls.{touch_of, line_at, line_of, touch_through, IsControl}
use Rattle.vh_engine.specs.Engine.{IsStill as StaysStill, IsNode}
use Rattle.vh_engine.specs.Kept.{IsFor}
use Rattle.vh_engine.specs.Nodes.{AreOf, AreBehind, sent_of}
use Rattle.vh_engine.specs.Queued.{AreControls}
use Rattle.vh_engine.specs.Runs.{IsSpacious, IsNodeReady}
use Rattle.vh_engine.specs.Staged.{IsBoard}
use Rattle.vh_engine.proofs.Behind.{still_before, value_unplaced}
use Rattle.vh_engine.proofs.Elsewhere.{ids_rising, shown_elsewhere}
use Rattle.vh_engine.proofs.Taken.{touched_counts, touch_elsewhere}

-- what doesn't change of each parameter
pub map_same : {A : Type 0} (f : Control → A) (old new : List Control) → length new ≡ length old → ((k : ℕ) (d : Control) → k < length old → f (get_or new k d) ≡ f (get_or old k d)) → map f new ≡ map f old
map_same f [] [] long each = refl
map_same f [] (control ∷ new) long each = absurd (omega (arith, long))
map_same f (control ∷ old) [] long each = absurd (omega (arith, long))
map_same {A} f (control ∷ old) (other ∷ new) long each =
    ap (λ (x : A). x ∷ map f new) (each 0 control (omega arith))
    ∙ ap (λ (l : List A). f control ∷ l) (map_same f old new (omega (arith, long)) (λ k d lt. each (suc k) d (omega (arith, lt))))

-- the counts of gestures rise by one for each entry at most
counts_through : (line : Option (ℕ → ℕ)) (steps node id : ℕ) (entries : List Entry) (touch : Touch)
    → ((touch_through line steps node id entries touch).begun ≤ touch.begun + length entries) × ((touch_through line steps node id entries touch).ended ≤ touch.ended + length entries)
counts_through line steps node id [] touch = (omega arith, omega arith)
counts_through line steps node id (entry ∷ entries) touch =
    let one = touched_counts line steps (edit_in node id entry) touch in
    let rest = counts_through line steps node id entries (touched_by line steps (edit_in node id entry) touch) in (
      omega (arith, one.0, rest.0),
      omega (arith, one.1, rest.1),
    )

-- more room for samples and frames than a block needs
pub spacious_less : (space : Space) (channels params most frames : ℕ) → frames ≤ most → IsSpacious space (channels * most) params most → IsSpacious space (channels * frames) params frames
spacious_less space channels params most frames le is =
    let fewer = mul-le-mul_left channels le in
    let points = mul-le-mul_left params le in
    record {
      sums = let room = is.sums in omega (arith, fewer, room);
      main = let room = is.main in omega (arith, fewer, room);
      aux = let room = is.aux in omega (arith, fewer, room);
      out = let room = is.out in omega (arith, fewer, room);
      queues = is.queues;
      points = let room = is.points in omega (arith, points, room);
    }

-- a node between blocks
module _ (class : Class) (phase : Phase) (setup : Setup) (values : List ℕ) (channels max params : ℕ) (span : Span) (node room : ℕ) (seat : Seat) (old : List Control)
    (is : IsNode class phase setup values channels max params (length span.lanes.now) (length span.entries.now + room) seat old) (law : IsLawful class)
    (scene : Scene) (same : params_at scene node ≡ class.params) (for : All (λ entry. IsFor scene entry.command) span.entries.now) where
  pub node_controls : AreControls span node old
  node_controls = record {
    rising = ids_rising class old law is.of;
    each = λ k d lt.
        let control = is.each k d lt in
        record {
          steps = control.steps;
          lane = control.lane;
          held = control.held;
          sent = control.sent;
          begun = let count = control.begun in omega (arith, count);
          ended = let count = control.ended in omega (arith, count);
        };
    shown = λ k d lt shown.
        let still = is.still k d lt shown in
        record {
          lane = still.lane;
          sent = still.sent;
          elsewhere = shown_elsewhere scene node class old span.entries.now same law is.of for k d lt shown;
        };
  }

  pub node_ready : span.frames ≤ max → IsNodeReady class phase setup values channels params span node seat old
  node_ready most = record {
    phase_is = is.phase_is;
    channels_are = is.channels_are;
    most = let setup_most = is.most in omega (arith, most, setup_most);
    of = is.of;
    sent = is.sent;
    controls_are = node_controls;
    few = is.few;
    seat_is = is.seat_is;
  }

  module _ (new : List Control) (behind : AreBehind span node old new) where
    left_each : All (IsControl (length span.lanes.now) room) new
    left_each k d lt =
        let long = behind.long in
        let inside : k < length old = omega (arith, lt, long) in
        let one = behind.each k d inside in
        let before = is.each k d inside in
        let control = get_or old k d in
        let now = get_or new k d in
        let counts = counts_through (line_of span.lanes.now control) control.steps node control.id span.entries.now (touch_of control) in
        let begun : now.begun ≤ control.begun + length span.entries.now = subst (λ (t : Touch). t.begun ≤ control.begun + length span.entries.now) (sym one.touch) counts.0 in
        let ended : now.ended ≤ control.ended + length span.entries.now = subst (λ (t : Touch). t.ended ≤ control.ended + length span.entries.now) (sym one.touch) counts.1 in
        record {
          steps = one.control.steps;
          lane = one.control.lane;
          held = one.control.held;
          sent = one.control.sent;
          begun = let count = before.begun in omega (arith, begun, count);
          ended = let count = before.ended in omega (arith, ended, count);
        }

    -- a parameter that is only shown stays where it is
    left_still : All (λ control. control.shown ≡ true → StaysStill control) new
    left_still k d lt shown =
        let long = behind.long in
        let inside : k < length old = omega (arith, lt, long) in
        let one = behind.each k d inside in
        let control = get_or old k d in
        let now = get_or new k d in
        let still = node_controls.shown k d inside (sym one.same.shown ∙ shown) in
        let held : now.held ≡ control.held = ap (λ (t : Touch). t.value) (one.touch ∙ touch_elsewhere (line_of span.lanes.now control) control.steps node control.id span.entries.now (touch_of control) still.elsewhere) in
        record {
          lane = one.same.lane ∙ still.lane;
          sent = one.sent ∙ still_before span node control still.elsewhere (λ s. value_unplaced span.lanes.now control s still.lane) span.some ∙ sym held;
        }

    pub left_of : AreOf class.params new
    left_of = record {
      ids = map_same (λ (control : Control). control.id) old new behind.long (λ k d lt. (behind.each k d lt).same.id) ∙ is.of.ids;
      steps = map_same (λ (control : Control). control.steps) old new behind.long (λ k d lt. (behind.each k d lt).same.steps) ∙ is.of.steps;
      shown = map_same (λ (control : Control). control.shown) old new behind.long (λ k d lt. (behind.each k d lt).same.shown) ∙ is.of.shown;
    }

    -- Behind the block it is one again, with room for the entries that are left.
    pub node_left : (news : List ℕ) → news ≡ sent_of new → IsNode class phase setup news channels max params (length span.lanes.now) room seat new
    node_left news sent = record {
      phase_is = is.phase_is;
      channels_are = is.channels_are;
      most = is.most;
      of = left_of;
      sent = sent;
      few = let long = behind.long in let few = is.few in omega (arith, long, few);
      each = left_each;
      still = left_still;
      seat_is = is.seat_is;
    }

    pub board_left : IsBoard scene span.lanes.now node old → IsBoard scene span.lanes.now node new
    board_left board = record {
      of = subst (λ (l : List Param). AreOf l new) (sym same) left_of;
      lines = λ k d e lt.
          let long = behind.long in
          let inside : k < length old = omega (arith, lt, long) in
          ap (λ (lane : Option ℕ). line_at span.lanes.now lane) (behind.each k d inside).same.lane ∙ board.lines k d e inside;
    }
