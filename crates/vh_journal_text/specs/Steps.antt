-- What the reader's steps come to.
use Rattle.std.specs.Prelude.{◌≡◌, ⊤, ℕ, Bool, true, false, List, [], ◌∷◌, ◌++◌, Result, Ok, Err}
use Rattle.vh_journal.specs.declared.entry.Journal.{Journal}
use Rattle.vh_num.specs.declared.refusal.Refusal.{Refusal}
use Rattle.vh_num.specs.declared.refusal.Refusal.TheVariants.{Fault, Memory}
use Rattle.vh_params.specs.declared.label.Words.{Words}
use Rattle.vh_params.specs.Nodes.{Node}
use Rattle.vh_params.specs.Short.{words_in}
use Rattle.vh_journal_text.specs.declared.fault.JournalFault.{JournalFault}
use Rattle.vh_journal_text.specs.declared.fault.JournalKind.{JournalKind}
use Rattle.vh_journal_text.specs.Items.{Act, Begins, Performs, Ends, Tells, Item, items_in}
use Rattle.vh_journal_text.specs.Lines.{Checked}
use Rattle.vh_journal_text.specs.Reading.{Step, Closes, Adds, items_from, closed_by}
use Rattle.vh_journal_text.specs.Rules.{is_open}

-- a text is read as the entries that it says, or refused for its first fault
abbrev pub IsRead : Result (List Item) JournalFault → Result Journal (Refusal JournalFault) → Type 0
IsRead said (Ok journal) = said ≡ Ok (items_in journal)
IsRead said (Err (Fault fault)) = said ≡ Err fault
IsRead said (Err Memory) = ⊤

-- these numbers make a message, or the first of them that is none is refused
abbrev pub IsMessage : Checked (List ℕ) → Result Words JournalKind → Type 0
IsMessage said (Ok words) = said ≡ Ok (words_in words)
IsMessage said (Err kind) = said ≡ Err kind

-- a line closed the journal or added an entry, or was refused for its first fault
abbrev pub IsLineRead : Checked Step → List Item → List Item → Result Bool (Refusal JournalKind) → Type 0
IsLineRead said before after (Ok true) = (said ≡ Ok Closes) × (after ≡ before)
IsLineRead said before after (Ok false) = (item : Item) × (said ≡ Ok (Adds item)) × (after ≡ before ++ item ∷ [])
IsLineRead said before after (Err (Fault kind)) = said ≡ Err kind
IsLineRead said before after (Err Memory) = ⊤

-- lines were read up to the last, or one of them refused, the first that has a fault
abbrev pub AreLinesRead : Result (List Item) JournalFault → List Item → Result (Unit {0}) (Refusal JournalFault) → Type 0
AreLinesRead said after (Ok done) = said ≡ Ok after
AreLinesRead said after (Err (Fault fault)) = said ≡ Err fault
AreLinesRead said after (Err Memory) = ⊤

-- what is left where the journal is closed or not
abbrev pub left_of : List Node → ℕ → Bool → ℕ → List Item → List (List ℕ) → Result (List Item) JournalFault
left_of nodes most true line items texts = closed_by line items texts
left_of nodes most false line items texts = items_from nodes most line items texts

-- an act keeps the gestures of an editor in turn: none begins where one is open, and none ends where none is
abbrev pub KeepsTurns : List Item → ℕ → ℕ → Act → Type 0
KeepsTurns before editor node (Begins id) = is_open before editor node id ≡ false
KeepsTurns before editor node (Performs id value) = ⊤
KeepsTurns before editor node (Ends id) = is_open before editor node id ≡ true
KeepsTurns before editor node (Tells numbers) = ⊤
