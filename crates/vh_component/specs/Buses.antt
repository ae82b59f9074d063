-- The buses of a component.
use Rattle.std.specs.Prelude.{◌≡◌, ℕ, zero, suc, ◌+◌, Bool, true, false, ◌&&◌, ◌==◌, List, [], ◌∷◌, map, slice_index_or, slice_set, Option, Some, None, Result, Ok, Err, ◌⊎◌, if◌then◌else◌}
use Rattle.vh_component.specs.declared.layout.BusInfo.{BusInfo}
use Rattle.vh_component.specs.declared.layout.NoBus.{NoBus}
use Rattle.vh_component.specs.declared.layout.Unsupported.{Unsupported}

-- a main audio bus of this direction, which is active, and an auxiliary audio input, which isn't
abbrev pub main_bus : ℕ → ℕ → BusInfo
main_bus direction channels = record { media = 0; direction = direction; kind = 0; channels = channels; active = true }

abbrev pub aux_bus : ℕ → BusInfo
aux_bus channels = record { media = 0; direction = 0; kind = 1; channels = channels; active = false }

-- a bus of this media type and direction
abbrev pub is_bus : ℕ → ℕ → BusInfo → Bool
is_bus media direction bus = (bus.media == media) && (bus.direction == direction)

-- the place of the bus of this number among those of a media type and a direction
abbrev pub bus_place : ℕ → List BusInfo → ℕ → ℕ → ℕ → Option ℕ
bus_place at [] media direction index = None
bus_place at (bus ∷ buses) media direction zero =
    if is_bus media direction bus then Some at else bus_place (at + 1) buses media direction zero
bus_place at (bus ∷ buses) media direction (suc index) =
    if is_bus media direction bus then bus_place (at + 1) buses media direction index else bus_place (at + 1) buses media direction (suc index)

-- the buses, of which this one is switched
abbrev pub switched : ℕ → Bool → List BusInfo → List BusInfo
switched place on buses = slice_set buses place (record (slice_index_or buses place (aux_bus 0)) { active = on })

-- a bus is switched, or there is none
abbrev pub IsActivated : ℕ → ℕ → ℕ → Bool → List BusInfo → List BusInfo → Result (Unit {0}) NoBus → Type 0
IsActivated media direction index on old new (Ok _) = (place : ℕ) × (bus_place 0 old media direction index ≡ Some place) × (new ≡ switched place on old)
IsActivated media direction index on old new (Err _) = (bus_place 0 old media direction index ≡ None) × (new ≡ old)

-- an arrangement that a component can have
abbrev pub CanArrange : ℕ → ℕ → Type 0
CanArrange ins outs = (ins ≡ outs) × ((ins ≡ 1) ⊎ (ins ≡ 2))

-- a bus, with so many channels where it is an audio bus
abbrev pub arranged : ℕ → BusInfo → BusInfo
arranged channels bus = if bus.media == 0 then record bus { channels = channels } else bus

abbrev pub IsArranged : ℕ → ℕ → List BusInfo → List BusInfo → Result (Unit {0}) Unsupported → Type 0
IsArranged ins outs old new (Ok _) = CanArrange ins outs × (new ≡ map (arranged ins) old)
IsArranged ins outs old new (Err _) = ¬ (CanArrange ins outs) × (new ≡ old)
