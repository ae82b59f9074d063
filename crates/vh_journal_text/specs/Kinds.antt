-- The numbers of the kinds of faults.
use Rattle.std.specs.Prelude.{ℕ}
use Rattle.vh_journal_text.specs.declared.fault.JournalKind.{JournalKind}
use Rattle.vh_journal_text.specs.declared.fault.JournalKind.TheVariants.{BadHeader, BadLine, TooMany, SampleOver, SampleFalls, UnknownNode, UnknownParam, ReadOnlyParam, SeqWrong, NotOpen, AlreadyOpen, NoClose, TooLong}

abbrev pub kind_number : JournalKind → ℕ
kind_number BadHeader = 1
kind_number BadLine = 2
kind_number TooMany = 3
kind_number SampleOver = 4
kind_number SampleFalls = 5
kind_number UnknownNode = 6
kind_number UnknownParam = 7
kind_number ReadOnlyParam = 8
kind_number (SeqWrong expected) = 9
kind_number NotOpen = 10
kind_number AlreadyOpen = 11
kind_number NoClose = 12
kind_number TooLong = 13
