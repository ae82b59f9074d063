-- One node of an engine between blocks.
use Rattle.std.proofs.Common.{◌≡◌, ◌∙◌, ℕ, ◌<◌, List, [], ◌∷◌, length, map, arith}
use Rattle.std.specs.Prelude.{All, slice_index_or}
use Rattle.std.proofs.lemmas.List.{length-map}
use Rattle.vh_component.specs.declared.setup.Phase.{Phase}
use Rattle.vh_component.specs.declared.setup.Phase.TheVariants.{Processing as AtProcessing}
use Rattle.vh_component.specs.declared.setup.Setup.{Setup}
use Rattle.vh_component.specs.States.{of_processing}
use Rattle.vh_counted.specs.Held.{value_of_opened}
use Rattle.vh_plugin.specs.Class.{Class}
use Rattle.vh_engine.specs.declared.parts.Parts.{Parts}
use Rattle.vh_engine.specs.declared.seat.Seat.{Seat}
use Rattle.vh_engine.specs.declared.work.Work.{Work}
use Rattle.vh_engine.specs.Engine.{IsNode, IsReadyFor}
use Rattle.vh_engine.specs.Staged.{of_all, boards_of, board_at}

-- an element of a list that has one
some_of : {A : Type 0} (xs : List A) (k : ℕ) → k < length xs → A
some_of [] k lt = absurd (omega (arith, lt))
some_of (x ∷ xs) k lt = x

module _ {P : Type 0} (class_of : ℕ → Class) (code : P → ℕ) (values : P → List ℕ) (phase : P → Phase) (setup : P → Setup) (parts : Parts P) (work : Work) (room : ℕ)
    (ready : IsReadyFor class_of code values phase setup parts work room) where
  pub node_here : (node c : ℕ) (p : Phase) → node < length parts.processors.items → (s : Setup) × (d : Seat)
      × IsNode (class_of (slice_index_or (of_all code parts.processors.items) node c)) (slice_index_or (of_all phase parts.processors.items) node p) (slice_index_or (of_all setup parts.processors.items) node s)
      (slice_index_or (of_all values parts.processors.items) node []) parts.session.channels work.max 64 (length parts.session.lanes.items) room (slice_index_or work.seats.items node d) (board_at (boards_of work.boards.items) node)
  node_here node c p lt =
      let s : Setup = setup (value_of_opened (of_processing (some_of parts.processors.items node lt))) in
      let d : Seat = let seats = ready.seats in some_of work.seats.items node (omega (arith, seats, lt)) in
      (s, d, ready.nodes node c p s d lt)

  -- all processors process
  pub all_processing : All (λ at. at ≡ AtProcessing) (of_all phase parts.processors.items)
  all_processing node p lt =
      let long = length-map parts.processors.items (λ processor. phase (value_of_opened (of_processing processor))) in
      (node_here node 0 p (omega (arith, lt, long))).2.phase_is
