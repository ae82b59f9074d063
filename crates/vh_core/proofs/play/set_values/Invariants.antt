use Rattle.std.proofs.Common.{◌≡◌, ◌≤◌, ◌<◌, ◌^◌, ℕ, List}
use Rattle.std.specs.Prelude.{All}
use Rattle.vh_plugin.specs.Class.{Class}
use Rattle.vh_session.specs.Names.{content_of}
use Rattle.vh_meaning.specs.Scene.{scene_of}
use Rattle.vh_meaning.specs.Values.{values_at}
use Rattle.vh_legal.specs.Laws.{AreClassesOf}
use Rattle.vh_core.specs.Stage.{IsRoom, values_in}
use Rattle.vh_core.proofs.play.set_values.Given as goal

-- the nodes before this one have their values
abbrev pub invariant-loop-node : goal.invariant-loop-node
invariant-loop-node l = record {
  room : IsRoom (content_of l.session) l.room;
  values : (class_of : ℕ → Class) (codes : List ℕ) → AreClassesOf class_of codes (content_of l.session)
      → (k : ℕ) → k < l.node → values_in l.room.values.items k ≡ values_at (scene_of class_of codes l.plan.firsts.items (content_of l.session)) l.journal l.sample k;
  within : (k : ℕ) → k < l.node → All (λ value. value ≤ 2 ^ 24) (values_in l.room.values.items k);
}
