-- Journals that are begun, and legal ones.
use Rattle.std.specs.Prelude.{ℕ, List, [], ◌++◌}
use Rattle.vh_params.specs.Nodes.{Node, nodes_of}
use Rattle.vh_params.specs.declared.command.Word.{Word}
use Rattle.vh_journal.specs.declared.entry.Entry.{Entry}
use Rattle.vh_session.specs.declared.session.Session.{Session}
use Rattle.vh_legal.specs.Legal.{IsLegal, IsLegalFor}
use Rattle.vh_stage.specs.Carried.{AreOn}
use Rattle.vh_editors.specs.Journals.{IsBegun}

-- what the editors can have made, they can have begun
abbrev pub LegalIsBegun : Type 0
LegalIsBegun = (nodes : List Node) (samples : ℕ) (pattern : List ℕ) (scripts : List (List Word)) (entries : List Entry) → IsLegal nodes samples pattern scripts entries → IsBegun nodes samples pattern scripts entries

-- an empty journal is begun
abbrev pub NothingIsBegun : Type 0
NothingIsBegun = (nodes : List Node) (samples : ℕ) (pattern : List ℕ) (scripts : List (List Word)) → IsBegun nodes samples pattern scripts []

-- and so is the front of one that is
abbrev pub FrontIsBegun : Type 0
FrontIsBegun = (nodes : List Node) (samples : ℕ) (pattern : List ℕ) (scripts : List (List Word)) (entries more : List Entry) → IsBegun nodes samples pattern scripts (entries ++ more) → IsBegun nodes samples pattern scripts entries

-- what the editors can have made is on nodes that are there, and on parameters that can be set
abbrev pub LegalIsOn : Type 0
LegalIsOn = (session : Session) (entries : List Entry) → IsLegalFor session entries → AreOn (nodes_of session.nodes) entries
