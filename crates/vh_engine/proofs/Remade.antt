-- An engine with new values to be seen, or with other samples in its room.
use Rattle.std.proofs.Common.{◌≡◌, ◌∙◌, ℕ, ◌≤◌, ◌*◌, ◌^◌, List, length, ℤ, Vec, sym, subst}
use Rattle.std.specs.Prelude.{All}
use Rattle.std.specs.declared.alloc.Global.{Global}
use Rattle.vh_component.specs.declared.setup.Phase.{Phase}
use Rattle.vh_component.specs.declared.setup.Setup.{Setup}
use Rattle.vh_plugin.specs.Class.{Class}
use Rattle.vh_engine.specs.declared.parts.Parts.{Parts}
use Rattle.vh_engine.specs.declared.space.Space.{Space}
use Rattle.vh_engine.specs.declared.work.Work.{Work}
use Rattle.vh_engine.specs.Engine.{IsReadyFor}
use Rattle.vh_engine.specs.Runs.{IsSpacious}

module _ {P : Type 0} (class_of : ℕ → Class) (code : P → ℕ) (values : P → List ℕ) (phase : P → Phase) (setup : P → Setup) (parts : Parts P) (work : Work) (room : ℕ)
    (ready : IsReadyFor class_of code values phase setup parts work room) where
  -- it stays ready with as many values, none above 1.0
  pub seen_anew : (anew : Vec ℕ Global) → length anew.items ≡ length work.values.items → All (λ value. value ≤ 2 ^ 24) anew.items → IsReadyFor class_of code values phase setup parts (record work { values = anew }) room
  seen_anew anew long within = record {
    stage = ready.stage;
    graph = ready.graph;
    few = ready.few;
    channels = ready.channels;
    most = ready.most;
    within = ready.within;
    seats = ready.seats;
    seat = ready.seat;
    order = ready.order;
    rows = ready.rows;
    ends = ready.ends;
    few_ends = ready.few_ends;
    sources = ready.sources;
    space = ready.space;
    given = ready.given;
    shown = long ∙ ready.shown;
    within_one = within;
    replies = ready.replies;
    nodes = ready.nodes;
  }

  -- and with as much room
  pub spaced_anew : (space : Space) → IsSpacious space (parts.session.channels * work.max) 64 work.max → IsReadyFor class_of code values phase setup parts (record work { space = space }) room
  spaced_anew space spacious = record {
    stage = ready.stage;
    graph = ready.graph;
    few = ready.few;
    channels = ready.channels;
    most = ready.most;
    within = ready.within;
    seats = ready.seats;
    seat = ready.seat;
    order = ready.order;
    rows = ready.rows;
    ends = ready.ends;
    few_ends = ready.few_ends;
    sources = ready.sources;
    space = spacious;
    given = ready.given;
    shown = ready.shown;
    within_one = ready.within_one;
    replies = ready.replies;
    nodes = ready.nodes;
  }

  -- the room for samples has other ones
  pub sampled_anew : (sums main : Vec ℤ Global) → length sums.items ≡ length work.space.sums.items → length main.items ≡ length work.space.main.items
      → IsReadyFor class_of code values phase setup parts (record work { space = record work.space { sums = sums; main = main } }) room
  sampled_anew sums main sums_long main_long = spaced_anew (record work.space { sums = sums; main = main }) (record {
    sums = subst (λ (n : ℕ). parts.session.channels * work.max ≤ n) (sym sums_long) ready.space.sums;
    main = subst (λ (n : ℕ). parts.session.channels * work.max ≤ n) (sym main_long) ready.space.main;
    aux = ready.space.aux;
    out = ready.space.out;
    queues = ready.space.queues;
    points = ready.space.points;
  })
