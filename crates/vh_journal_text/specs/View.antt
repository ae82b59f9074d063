-- What the reader's own types stand for.
use Rattle.std.specs.Prelude.{⊤, ◌<◌, List, Result, Ok, Err}
use Rattle.vh_journal.specs.declared.entry.Entry.{Entry}
use Rattle.vh_params.specs.Short.{words_in}
use Rattle.vh_journal_text.specs.declared.fault.JournalKind.{JournalKind}
use Rattle.vh_journal_text.specs.declared.line.Act.{Act as Deed}
use Rattle.vh_journal_text.specs.declared.line.Act.TheVariants as deed
use Rattle.vh_journal_text.specs.declared.line.Line.{Line as Read}
use Rattle.vh_journal_text.specs.declared.line.Said.{Said as Told}
use Rattle.vh_journal_text.specs.declared.line.Said.TheVariants as told
use Rattle.vh_journal_text.specs.declared.standing.Standing.{Standing}
use Rattle.vh_journal_text.specs.Items.{Act, Begins, Performs, Ends, Tells, Line, Item, Said, Close, Entered, item_of, items_of}

abbrev pub act_told : Deed → Act
act_told (deed.Begin id) = Begins id
act_told (deed.Perform id value) = Performs id value
act_told (deed.End id) = Ends id
act_told (deed.Tell words) = Tells (words_in words)

abbrev pub line_told : Read → Line
line_told line = record { sample = line.sample; editor = line.editor; seq = line.seq; name = line.name.now; act = act_told line.act }

abbrev pub said_told : Told → Said
said_told told.Close = Close
said_told (told.Entered line) = Entered (line_told line)

-- an entry is one of the 8 editors'
abbrev pub HasEditor : Told → Type 0
HasEditor told.Close = ⊤
HasEditor (told.Entered line) = line.editor < 8

-- what was read, or the fault

abbrev pub act_answer : Result Deed JournalKind → Result Act JournalKind
act_answer (Ok act) = Ok (act_told act)
act_answer (Err kind) = Err kind

abbrev pub line_answer : Result Read JournalKind → Result Line JournalKind
line_answer (Ok line) = Ok (line_told line)
line_answer (Err kind) = Err kind

abbrev pub said_answer : Result Told JournalKind → Result Said JournalKind
said_answer (Ok said) = Ok (said_told said)
said_answer (Err kind) = Err kind

abbrev pub item_answer : Result Entry JournalKind → Result Item JournalKind
item_answer (Ok entry) = Ok (item_of entry)
item_answer (Err kind) = Err kind

-- the entries so far
abbrev pub so_far : Standing → List Item
so_far standing = items_of standing.entries.items
