use Rattle.std.proofs.Common.{◌≡◌, drop}
use Rattle.vh_component.specs.Buses.{bus_place}
use Rattle.vh_component.proofs.layout.place_of.Given as goal

abbrev pub invariant-loop-place : goal.invariant-loop-place
invariant-loop-place l = bus_place l.place (drop l.place l.buses) l.media l.direction l.left ≡ bus_place 0 l.buses l.media l.direction l.index
