-- A band in two.
use Rattle.std.specs.Prelude.{List, [], ◌∷◌, map}
use Rattle.vh_component.specs.declared.states.Processing.{Processing}
use Rattle.vh_instance.specs.Band.{objects_of}
use Rattle.vh_instance.specs.Seats.{processor_seat, opener_seat, row_seats, AreHeld}
use Rattle.engine_part.specs.declared.band.Rest.{Rest}

-- these processors and the rest hold all objects of a band, together whole
pub record IsWhole {P C : Type 0} (processors : List (Processing P)) (rest : Rest P C) : Type 0 where
  pub components : AreHeld (objects_of rest.components.items) (map processor_seat processors ∷ [])
  pub controllers : AreHeld (objects_of rest.controllers.items) (map opener_seat rest.edits.items ∷ map row_seats rest.holders.items)
