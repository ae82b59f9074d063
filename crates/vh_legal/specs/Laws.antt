-- What legal journals come to, and what a value is.
use Rattle.std.specs.Prelude.{◌≡◌, ℕ, List, [], map, slice_index, slice_index_or, All, IsSome}
use Rattle.vh_params.specs.Nodes.{nodes_of, info_in}
use Rattle.vh_plugin.specs.Class.{Class, param_of}
use Rattle.vh_cut.specs.Cut.{IsPattern, pieces_of}
use Rattle.vh_journal.specs.declared.entry.Entry.{Entry}
use Rattle.vh_session.specs.declared.session.Session.{Session}
use Rattle.vh_session.specs.Content.{Content}
use Rattle.vh_session.specs.Names.{content_of}
use Rattle.vh_meaning.specs.Scene.{scene_of}
use Rattle.vh_meaning.specs.Values.{values_at}
use Rattle.vh_meaning.specs.Rendering.{stops}
use Rattle.vh_legal.specs.Blocks.{IsAtBlock}
use Rattle.vh_legal.specs.Legal.{IsLegalFor}
use Rattle.vh_legal.specs.Journals.{IsJournal}
use Rattle.vh_legal.specs.Values.{AreFirsts, place_in, IsValue}

-- A legal journal keeps the rules that every journal keeps.
abbrev pub LegalIsJournal : Type 0
LegalIsJournal = (session : Session) (entries : List Entry) → IsLegalFor session entries → IsJournal (nodes_of session.nodes) session.length entries

-- Stops at samples where blocks begin without them, or at the length, cut nothing.
abbrev pub StopsCutNothing : Type 0
StopsCutNothing = (samples : ℕ) (pattern stops : List ℕ) → IsPattern pattern → All (IsAtBlock samples pattern) stops
    → pieces_of samples pattern stops ≡ pieces_of samples pattern []

-- So the messages of a legal journal stop no block that wouldn't end there.
abbrev pub LegalIsCutAsPlayed : Type 0
LegalIsCutAsPlayed = (session : Session) (entries : List Entry) → IsLegalFor session entries
    → pieces_of session.length (content_of session).pattern (stops entries) ≡ pieces_of session.length (content_of session).pattern []

-- the classes of these codes have the parameters of a session's nodes
abbrev pub AreClassesOf : (ℕ → Class) → List ℕ → Content → Type 0
AreClassesOf class_of codes session = map (λ code. (class_of code).params) codes ≡ map (λ node. map param_of node.params) session.nodes

-- The value of a parameter is the one that its node's processor has at its place.
abbrev pub ValueIsInPlace : Type 0
ValueIsInPlace = (session : Content) (class_of : ℕ → Class) (codes firsts : List ℕ) (h : List Entry) (node id s : ℕ)
    → AreClassesOf class_of codes session → AreFirsts session.nodes firsts → IsSome (info_in session.nodes node id)
    → IsValue session firsts h node id s (slice_index (values_at (scene_of class_of codes firsts session) h s node) (place_in session.nodes node id))
