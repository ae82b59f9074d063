-- How many entries may still come.
use Rattle.std.proofs.Common.{◌≡◌, ◌∙◌, ℕ, ◌+◌, ◌-◌, ◌*◌, ◌^◌, ◌≤◌, Bool, true, false, List, sym, ap, subst, arith}
use Rattle.vh_component.specs.declared.setup.Phase.{Phase}
use Rattle.vh_component.specs.declared.setup.Setup.{Setup}
use Rattle.vh_plugin.specs.Class.{Class}
use Rattle.vh_engine.specs.declared.control.Control.{Control}
use Rattle.vh_engine.specs.declared.parts.Parts.{Parts}
use Rattle.vh_engine.specs.declared.seat.Seat.{Seat}
use Rattle.vh_engine.specs.declared.work.Work.{Work}
use Rattle.vh_engine.specs.Controls.{IsControl}
use Rattle.vh_session.specs.Content.{Content}
use Rattle.vh_meaning.specs.Scene.{scene_of}
use Rattle.vh_engine.specs.Kept.{Kept, scene_in, IsSameEngine}
use Rattle.vh_engine.specs.Engine.{IsNode, IsReadyFor, IsEngine, entries_left}

pub control_with_less : (lanes more less : ℕ) (control : Control) → less ≤ more → IsControl lanes more control → IsControl lanes less control
control_with_less lanes more less control le is = record {
  steps = is.steps;
  lane = is.lane;
  held = is.held;
  sent = is.sent;
  begun = let room = is.begun in omega (arith, le, room);
  ended = let room = is.ended in omega (arith, le, room);
}

node_with_less : (class : Class) (phase : Phase) (setup : Setup) (values : List ℕ) (channels max params lanes more less : ℕ) (seat : Seat) (controls : List Control) → less ≤ more
    → IsNode class phase setup values channels max params lanes more seat controls → IsNode class phase setup values channels max params lanes less seat controls
node_with_less class phase setup values channels max params lanes more less seat controls le is = record {
  phase_is = is.phase_is;
  channels_are = is.channels_are;
  most = is.most;
  of = is.of;
  sent = is.sent;
  few = is.few;
  each = λ k d lt. control_with_less lanes more less _ le (is.each k d lt);
  still = is.still;
  seat_is = is.seat_is;
}

module _ {P : Type 0} (class_of : ℕ → Class) (code : P → ℕ) (values : P → List ℕ) (phase : P → Phase) (setup : P → Setup) where
  pub less_room : (parts : Parts P) (work : Work) (more less : ℕ) → less ≤ more → IsReadyFor class_of code values phase setup parts work more → IsReadyFor class_of code values phase setup parts work less
  less_room parts work more less le is = record {
    stage = is.stage;
    graph = is.graph;
    few = is.few;
    channels = is.channels;
    most = is.most;
    within = is.within;
    seats = is.seats;
    seat = is.seat;
    order = is.order;
    rows = is.rows;
    ends = is.ends;
    few_ends = is.few_ends;
    sources = is.sources;
    space = is.space;
    given = is.given;
    shown = is.shown;
    within_one = is.within_one;
    replies = is.replies;
    nodes = λ node c p s d lt. node_with_less _ _ _ _ _ _ _ _ more less _ _ le (is.nodes node c p s d lt);
  }

  -- at a later sample
  pub moved_to : (parts : Parts P) (work : Work) (room to : ℕ) → to ≤ parts.session.length → IsReadyFor class_of code values phase setup parts work room → IsReadyFor class_of code values phase setup parts (record work { pos = to }) room
  moved_to parts work room to le is = record {
    stage = is.stage;
    graph = is.graph;
    few = is.few;
    channels = is.channels;
    most = is.most;
    within = le;
    seats = is.seats;
    seat = is.seat;
    order = is.order;
    rows = is.rows;
    ends = is.ends;
    few_ends = is.few_ends;
    sources = is.sources;
    space = is.space;
    given = is.given;
    shown = is.shown;
    within_one = is.within_one;
    replies = is.replies;
    nodes = is.nodes;
  }

  -- at the end
  pub flushed_to : (parts : Parts P) (work : Work) → IsReadyFor class_of code values phase setup parts work 0 → IsEngine class_of code values phase setup parts (record work { flushed = true })
  flushed_to parts work is = record {
    stage = is.stage;
    graph = is.graph;
    few = is.few;
    channels = is.channels;
    most = is.most;
    within = is.within;
    seats = is.seats;
    seat = is.seat;
    order = is.order;
    rows = is.rows;
    ends = is.ends;
    few_ends = is.few_ends;
    sources = is.sources;
    space = is.space;
    given = is.given;
    shown = is.shown;
    within_one = is.within_one;
    replies = is.replies;
    nodes = is.nodes;
  }

  -- An engine that isn't flushed has room for the entries of a block, and for those of what comes behind it.
  pub room_for : (parts : Parts P) (work : Work) (room : ℕ) → work.flushed ≡ false → room ≤ (parts.session.length + 1 - work.pos) * 2 ^ 64 → IsEngine class_of code values phase setup parts work → IsReadyFor class_of code values phase setup parts work room
  room_for parts work room going le is =
      let left : entries_left parts.session.length work.pos work.flushed ≡ (parts.session.length + 1 - work.pos) * 2 ^ 64 = ap (λ (b : Bool). entries_left parts.session.length work.pos b) going in
      less_room parts work (entries_left parts.session.length work.pos work.flushed) room (subst (λ (n : ℕ). room ≤ n) (sym left) le) is

  -- Behind a block it is one again.
  pub engine_at : (parts : Parts P) (work : Work) (to : ℕ) → to ≤ parts.session.length → work.flushed ≡ false → IsReadyFor class_of code values phase setup parts work ((parts.session.length + 1 - to) * 2 ^ 64)
      → IsEngine class_of code values phase setup parts (record work { pos = to })
  engine_at parts work to le going is =
      let left : entries_left parts.session.length to work.flushed ≡ (parts.session.length + 1 - to) * 2 ^ 64 = ap (λ (b : Bool). entries_left parts.session.length to b) going in
      subst (λ (n : ℕ). IsReadyFor class_of code values phase setup parts (record work { pos = to }) n) (sym left) (moved_to parts work ((parts.session.length + 1 - to) * 2 ^ 64) to le is)

-- a scene hangs on what no call changes
pub same_scene : (class_of : ℕ → Class) (old new : Kept) → IsSameEngine old new → scene_in class_of new ≡ scene_in class_of old
same_scene class_of old new same =
    ap (λ (codes : List ℕ). scene_of class_of codes new.firsts new.session) same.codes
    ∙ ap (λ (firsts : List ℕ). scene_of class_of old.codes firsts new.session) same.firsts
    ∙ ap (λ (session : Content). scene_of class_of old.codes old.firsts session) same.session

pub same_twice : (one other third : Kept) → IsSameEngine one other → IsSameEngine other third → IsSameEngine one third
same_twice one other third same also = record {
  session = also.session ∙ same.session;
  codes = also.codes ∙ same.codes;
  firsts = also.firsts ∙ same.firsts;
  holders = also.holders ∙ same.holders;
  max = also.max ∙ same.max;
}
