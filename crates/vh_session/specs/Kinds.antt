-- The numbers of the kinds of faults.
use Rattle.std.specs.Prelude.{ℕ}
use Rattle.vh_session.specs.declared.fault.SessionKind.{SessionKind}
use Rattle.vh_session.specs.declared.fault.SessionKind.TheVariants.{BadHeader, BadByte, UnknownWord, BadNumber, BadName, Missing, Extra, Repeated, DuplicateNode, UnknownNode, UnknownClass, UnknownParam, ReadOnlyParam, BadWire, BadLane, BadEditor, TooMany, NoLine, Cycle, TooLong}

abbrev pub kind_number : SessionKind → ℕ
kind_number BadHeader = 1
kind_number BadByte = 2
kind_number UnknownWord = 3
kind_number BadNumber = 4
kind_number BadName = 5
kind_number Missing = 6
kind_number Extra = 7
kind_number Repeated = 8
kind_number DuplicateNode = 9
kind_number UnknownNode = 10
kind_number UnknownClass = 11
kind_number UnknownParam = 12
kind_number ReadOnlyParam = 13
kind_number BadWire = 14
kind_number BadLane = 15
kind_number BadEditor = 16
kind_number TooMany = 17
kind_number NoLine = 18
kind_number (Cycle node) = 19
kind_number TooLong = 20
