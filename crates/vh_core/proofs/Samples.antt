-- A sample that was played is the world's.
use Rattle.std.proofs.Common.{◌≡◌, ◌∙◌, ℕ, zero, suc, ◌+◌, ◌<◌, List, [], length, refl, sym, subst, arith}
use Rattle.std.specs.Prelude.{All}
use Rattle.vh_graph.specs.Order.{IsOrder}
use Rattle.vh_num.specs.Frames.{Frame}
use Rattle.vh_params.specs.Nodes.{nodes_of}
use Rattle.vh_plugin.specs.Class.{State}
use Rattle.vh_journal.specs.declared.entry.Entry.{Entry}
use Rattle.vh_session.specs.declared.session.Session.{Session}
use Rattle.vh_session.specs.declared.wire.End.{End}
use Rattle.vh_session.specs.declared.wire.End.TheVariants.{Node as AtNode}
use Rattle.vh_session.specs.declared.wire.Wire.{Wire}
use Rattle.vh_session.specs.Content.{node_wires}
use Rattle.vh_session.specs.Keeps.{Begins, IsWireBehind}
use Rattle.vh_session.proofs.Behind.{behind_all}
use Rattle.vh_meaning.specs.Scene.{Scene, node_count}
use Rattle.vh_meaning.specs.Values.{values_at}
use Rattle.vh_meaning.specs.Frames.{stepped, out_of}
use Rattle.vh_meaning.specs.Trace.{IsConsistent}
use Rattle.vh_meaning.specs.World.{silence, input_at, world, after, frame_at}
use Rattle.vh_meaning.specs.Rendering.{out_at}
use Rattle.vh_meaning.specs.Laws.{HasOrder, IsNoMessageWithin, Interchange}
use Rattle.vh_meaning.specs.Block.{IsFromScene, OutFromFrames}
use Rattle.vh_meaning.proofs.Reaching.{given_alike, stepped_alike}

-- two states, one behind the other
two : (ℕ → State) → (ℕ → State) → ℕ → ℕ → State
two one other zero = one
two one other (suc o) = other

module _ (scene : Scene) (h : List Entry) (s : ℕ) (law : Interchange) (order : HasOrder scene) (values : ℕ → List ℕ) (frames : ℕ → Frame)
    (valued : (node : ℕ) → node < node_count scene → values node ≡ values_at scene h s node)
    (fits : IsConsistent scene (after scene [] h s) values (silence scene.channels) frames) where
  abbrev next : ℕ → State
  next = stepped scene (after scene [] h s) values (silence scene.channels) frames

  fits_now : (t : ℕ) → t ≡ s → IsConsistent scene (after scene [] h s) (values_at scene h t) (input_at scene [] t) frames
  fits_now t is = subst (λ (u : ℕ). IsConsistent scene (after scene [] h s) (values_at scene h u) (input_at scene [] u) frames) (sym is) (λ node lt.
      fits node lt ∙ given_alike scene node (after scene [] h s) (after scene [] h s) values (values_at scene h s) (silence scene.channels) frames frames
      (record { state = refl; value = valued node lt; sources = λ source has. refl }))

  moves_now : (t : ℕ) → t ≡ s → (node : ℕ) → node < node_count scene → next node ≡ stepped scene (after scene [] h s) (values_at scene h t) (input_at scene [] t) frames node
  moves_now t is node lt = subst (λ (u : ℕ). next node ≡ stepped scene (after scene [] h s) (values_at scene h u) (input_at scene [] u) frames node) (sym is)
      (stepped_alike scene node (after scene [] h s) (after scene [] h s) values (values_at scene h s) (silence scene.channels) frames frames
      (record { state = refl; value = valued node lt; sources = λ source has. refl }))

  fits_all : (o : ℕ) → o < 1 → IsConsistent scene (two (after scene [] h s) next o) (values_at scene h (s + o)) (input_at scene [] (s + o)) frames
  unfolding two
  fits_all zero lt = fits_now (s + 0) (omega arith)
  fits_all (suc o) lt = absurd (omega (arith, lt))

  moves_all : (o node : ℕ) → o < 1 → node < node_count scene → two (after scene [] h s) next (o + 1) node ≡ stepped scene (two (after scene [] h s) next o) (values_at scene h (s + o)) (input_at scene [] (s + o)) frames node
  unfolding two
  moves_all zero node lt within = moves_now (s + 0) (omega arith) node within
  moves_all (suc o) node lt within = absurd (omega (arith, lt))

  alone : All (IsNoMessageWithin s (s + 1)) h
  alone k d lt t is behind before = omega (arith, behind, before)

  sample : ((o node : ℕ) → o < 1 → node < node_count scene → frames node ≡ frame_at scene [] h (s + o) node) × ((node : ℕ) → 0 < 1 → node < node_count scene → two (after scene [] h s) next 1 node ≡ world scene [] h (s + 1) node)
  unfolding two
  sample = law scene [] h s 1 (two (after scene [] h s) next) (λ o. frames) order (λ node lt. refl) alone (record { consistent = fits_all; moves = moves_all })

  pub frames_are : (node : ℕ) → node < node_count scene → frames node ≡ frame_at scene [] h s node
  frames_are node lt = let none : s + 0 ≡ s = omega arith in subst (λ (t : ℕ). frames node ≡ frame_at scene [] h t node) none (sample.0 0 node (omega arith) lt)

  pub world_next : (node : ℕ) → node < node_count scene → next node ≡ world scene [] h (s + 1) node
  unfolding two
  world_next node lt = sample.1 node (omega arith) lt

  -- and so is what reaches the output
  pub out_is : OutFromFrames → All (IsFromScene scene) scene.wires → out_of scene (silence scene.channels) frames ≡ out_at scene [] h s
  out_is out from = out scene (silence scene.channels) frames (frame_at scene [] h s) from frames_are

begins_from : (count node : ℕ) (from : End) → Begins count from → from ≡ AtNode node → node < count
begins_from count node from begins is = subst (λ (end : End). Begins count end) is begins

-- the wires of a session begin at its nodes
pub wires_from : (session : Session) (count : ℕ) → count ≡ length (nodes_of session.nodes) → All (λ wire. (node : ℕ) → wire.from ≡ AtNode node → node < count) session.wires.items
wires_from session count same =
    behind_all (IsWireBehind (length (nodes_of session.nodes))) (λ (wire : Wire). (node : ℕ) → wire.from ≡ AtNode node → node < count) [] session.wires.items
    (λ before wire stands node is. let lt = begins_from (length (nodes_of session.nodes)) node wire.from stands.from is in omega (arith, lt, same)) session.keeps.wires

-- and their order is the scene's
pub order_here : (count : ℕ) (scene : Scene) (order : List ℕ) → node_count scene ≡ count → IsOrder count (node_wires scene.wires) order → HasOrder scene
order_here count scene order same is = (order, subst (λ (n : ℕ). IsOrder n (node_wires scene.wires) order) (sym same) is)
