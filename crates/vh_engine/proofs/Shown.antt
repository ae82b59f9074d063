-- What is seen of all parameters, from what an engine keeps.
use Rattle.std.proofs.Common.{◌≡◌, ◌∙◌, ℕ, ◌<◌, ◌≤◌, ◌^◌, Bool, true, false, List, [], length, map, refl, sym, ap, arith}
use Rattle.std.specs.Prelude.{All, slice_index_or, ◌==◌, ◌&&◌}
use Rattle.std.proofs.lemmas.Bool.{and_from, eq-eqb}
use Rattle.std.proofs.lemmas.List.{get_or-map, length-map}
use Rattle.std.proofs.lemmas.List.Folds.{list_any_at}
use Rattle.std.proofs.Math.ListN.{get_or-map as map_or-empty}
use mathlib.Core.Path.{fun_ext}
use Rattle.vh_component.specs.declared.setup.Phase.{Phase}
use Rattle.vh_component.specs.declared.setup.Phase.TheVariants.{Processing as AtProcessing}
use Rattle.vh_component.specs.declared.setup.Setup.{Setup}
use Rattle.vh_component.specs.States.{of_processing}
use Rattle.vh_counted.specs.Held.{value_of_opened}
use Rattle.vh_params.specs.Flags.{is_read_only}
use Rattle.vh_plugin.specs.Class.{Param, Class, State, has_shown}
use Rattle.vh_meaning.specs.Scene.{params_at}
use Rattle.vh_meaning.specs.Rendering.{seen_at, of_all as of_nodes}
use Rattle.vh_meaning.specs.Stands.{Touch}
use Rattle.vh_meaning.specs.Steps.{values_now, values_in}
use Rattle.vh_engine.specs.declared.control.Control.{Control}
use Rattle.vh_engine.specs.declared.parts.Parts.{Parts}
use Rattle.vh_engine.specs.declared.work.Work.{Work}
use Rattle.vh_engine.specs.Blocks.{AreCurrent}
use Rattle.vh_engine.specs.Controls.{touch_of}
use Rattle.vh_engine.specs.Engine.{kept_in, IsReadyFor}
use Rattle.vh_engine.specs.Kept.{standing_in}
use Rattle.vh_engine.specs.Nodes.{AreOf}
use Rattle.vh_engine.specs.Parts.{scene_by}
use Rattle.vh_engine.specs.Seen.{seen_of_all, AreShown}
use Rattle.vh_engine.specs.Staged.{of_all, boards_of, board_at}
use Rattle.vh_engine.proofs.Boards.{seen_of_boards}
use Rattle.vh_engine.proofs.Here.{node_here}

params_long : (params : List Param) (controls : List Control) → AreOf params controls → length controls ≡ length params
params_long params controls of = sym (length-map controls (λ (c : Control). c.id)) ∙ ap (λ (ids : List ℕ). length ids) of.ids ∙ length-map params (λ (p : Param). p.id)

-- each read-only parameter is one that its class shows
shown_of : (params : List Param) (controls : List Control) → AreOf params controls → All (λ control. control.shown ≡ true → has_shown params control.id ≡ true) controls
shown_of params controls of k d lt shown =
    let param : Param = record { id = 0; steps = 0; first = 0; flags = 0 } in
    let long = params_long params controls of in
    let inside : k < length params = omega (arith, long, lt) in
    let control = slice_index_or controls k d in
    let id : (slice_index_or params k param).id ≡ control.id =
    sym (get_or-map (λ (p : Param). p.id) params k param 0 inside) ∙ sym (ap (λ (ids : List ℕ). slice_index_or ids k 0) of.ids) ∙ get_or-map (λ (c : Control). c.id) controls k d 0 lt in
    let flags : is_read_only (slice_index_or params k param).flags ≡ true =
    sym (get_or-map (λ (p : Param). is_read_only p.flags) params k param false inside) ∙ sym (ap (λ (all : List Bool). slice_index_or all k false) of.shown) ∙ get_or-map (λ (c : Control). c.shown) controls k d false lt ∙ shown in
    list_any_at (λ (p : Param). (p.id == control.id) && is_read_only p.flags) params k param inside
    (and_from ((slice_index_or params k param).id == control.id) (is_read_only (slice_index_or params k param).flags) (eq-eqb (slice_index_or params k param).id control.id id) flags)

module _ {P : Type 0} (class_of : ℕ → Class) (code : P → ℕ) (values : P → List ℕ) (phase : P → Phase) (setup : P → Setup) (parts : Parts P) (work : Work) (room : ℕ)
    (ready : IsReadyFor class_of code values phase setup parts work room) where
  -- the nodes' parameters are those of their classes
  of_each : (node d : ℕ) → node < length (of_all code parts.processors.items) → AreOf (class_of (slice_index_or (of_all code parts.processors.items) node d)).params (board_at (boards_of work.boards.items) node)
  of_each node d lt =
      let within : node < length parts.processors.items = let long = length-map parts.processors.items (λ processor. code (value_of_opened (of_processing processor))) in omega (arith, lt, long) in
      (node_here class_of code values phase setup parts work room ready node d AtProcessing within).2.of

  pub are_shown : AreShown class_of (of_all code parts.processors.items) (boards_of work.boards.items)
  are_shown node d lt = shown_of (class_of (slice_index_or (of_all code parts.processors.items) node d)).params (board_at (boards_of work.boards.items) node) (of_each node d lt)

  -- processors have values of at most 1.0
  pub are_within : (node : ℕ) → node < length (boards_of work.boards.items) → All (λ control. control.sent ≤ 2 ^ 24) (board_at (boards_of work.boards.items) node)
  are_within node lt =
      let long = ready.stage.boards_are.long in
      let codes = length-map parts.processors.items (λ processor. code (value_of_opened (of_processing processor))) in
      let each = (node_here class_of code values phase setup parts work room ready node 0 AtProcessing (omega (arith, lt, long, codes))).2.each in
      λ k d within. (each k d within).sent

  -- What is seen, where processors have their values at a sample, is what is seen of what is kept.
  pub seen_of_kept : (state : P → State) (calls : P → ℕ) (s : ℕ) → AreCurrent parts.session.lanes.items s (boards_of work.boards.items)
      → seen_of_all class_of (of_all code parts.processors.items) (of_all state parts.processors.items) (boards_of work.boards.items)
      ≡ of_nodes (scene_by class_of code parts) (seen_at (scene_by class_of code parts) (standing_in (kept_in code state calls parts work)).states (values_in (scene_by class_of code parts) (standing_in (kept_in code state calls parts work)) s))
  seen_of_kept state calls s current =
      let scene = scene_by class_of code parts in
      let boards = boards_of work.boards.items in
      let states = of_all state parts.processors.items in
      let long = ready.stage.boards_are.long in
      seen_of_boards scene parts.session.lanes.items s states boards
      (length-map parts.processors.items (λ processor. state (value_of_opened (of_processing processor))) ∙ sym (length-map parts.processors.items (λ processor. code (value_of_opened (of_processing processor)))))
      ready.stage.boards_are (λ node lt. current node (omega (arith, lt, long)))
      ∙ ap (λ (values_of : ℕ → List ℕ). of_nodes scene (seen_at scene (λ node. slice_index_or states node []) values_of))
      (fun_ext (λ (node : ℕ). ap (λ (touches : List Touch). values_now scene node (params_at scene node) touches s) (sym (map_or-empty (map touch_of) boards node []))))
