-- The numbers of refusals.
use Rattle.std.specs.Prelude.{ℕ}
use Rattle.vh_preset.specs.declared.fault.PresetFault.{PresetFault}
use Rattle.vh_preset.specs.declared.fault.PresetFault.TheVariants.{Short, BadMagic, BadVersion, BadClassId, BadListOffset, BadListId, BadCount, BadRange}
use Rattle.vh_preset.specs.declared.fault.PresetRefusal.{PresetRefusal}
use Rattle.vh_preset.specs.declared.fault.PresetRefusal.TheVariants.{Fault, OtherClass, NoComp, BadState, TooLong, NoSuchNode}

abbrev pub fault_number : PresetFault → ℕ
fault_number Short = 1
fault_number BadMagic = 2
fault_number BadVersion = 3
fault_number (BadClassId place) = 4
fault_number BadListOffset = 5
fault_number BadListId = 6
fault_number (BadCount count) = 7
fault_number (BadRange entry) = 8

abbrev pub refusal_number : PresetRefusal → ℕ
refusal_number (Fault fault) = fault_number fault
refusal_number OtherClass = 9
refusal_number NoComp = 10
refusal_number BadState = 11
refusal_number TooLong = 12
refusal_number NoSuchNode = 13
