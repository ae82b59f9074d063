-- When an editor's next word is refused.
use Rattle.std.specs.Prelude.{ℕ, ◌^◌, ◌<◌, Bool, false, not, ◌==◌, nat_lt, is_none, List, [], ◌∷◌, length, Option, Some, None, Result, Ok, Err, ⊤, if◌then◌else◌}
use Rattle.vh_params.specs.Nodes.{Node, info_in}
use Rattle.vh_params.specs.Params.{has_flag}
use Rattle.vh_params.specs.declared.param.ParamInfo.{ParamInfo}
use Rattle.vh_params.specs.declared.command.Command.TheVariants.{Begin, Perform, End, Tell}
use Rattle.vh_params.specs.declared.command.Word.{Word}
use Rattle.vh_params.specs.declared.command.Word.TheVariants.{Edit, Hold, Unhold, Wait}
use Rattle.vh_gesture.specs.declared.fault.GestureFault.{GestureFault}
use Rattle.vh_gesture.specs.declared.fault.GestureFault.TheVariants.{NoReference, TooManyHolds, UnknownParam, ReadOnly, OutOfRange, AlreadyOpen, NotOpen}

-- what an editor has: of each node the holds that were accepted and the references that it has, and of each
-- parameter of a node how many of its gestures are open
pub record Counts : Type 0 where
  pub holds : ℕ → ℕ
  pub held : ℕ → ℕ
  pub opened : ℕ → ℕ → ℕ

-- a refusal, and whether there is cause for it
abbrev pub Rule : Type 0
Rule = Bool × GestureFault

abbrev pub first_fault : List Rule → Option GestureFault
first_fault [] = None
first_fault (rule ∷ rules) = if rule.0 then Some rule.1 else first_fault rules

-- the answer to a word that may break these rules
abbrev pub judged : List Rule → Result ⊤ GestureFault
judged [] = Ok tt
judged (rule ∷ rules) = if rule.0 then Err rule.1 else judged rules

abbrev pub is_read_only : Option ParamInfo → Bool
is_read_only None = false
is_read_only (Some param) = has_flag 2 param

abbrev pub no_reference : Counts → ℕ → Rule
no_reference counts node = (counts.held node == 0, NoReference)

abbrev pub unknown : List Node → ℕ → ℕ → Rule
unknown nodes node id = (is_none (info_in nodes node id), UnknownParam)

abbrev pub read_only : List Node → ℕ → ℕ → Rule
read_only nodes node id = (is_read_only (info_in nodes node id), ReadOnly)

abbrev pub not_open : Counts → ℕ → ℕ → Rule
not_open counts node id = (not (counts.opened node id == 1), NotOpen)

abbrev pub too_many_holds : Counts → ℕ → Rule
too_many_holds counts node = (not (nat_lt (counts.holds node) 64), TooManyHolds)

-- the rules that a word may break, in the order in which they are judged
abbrev pub rules : List Node → Counts → Word → List Rule
rules nodes counts (Edit (Begin node id)) =
    no_reference counts node ∷ unknown nodes node id ∷ read_only nodes node id ∷ (not (counts.opened node id == 0), AlreadyOpen) ∷ []
rules nodes counts (Edit (Perform node id value)) =
    no_reference counts node ∷ unknown nodes node id ∷ read_only nodes node id ∷ (nat_lt (2 ^ 24) value, OutOfRange value) ∷ not_open counts node id ∷ []
rules nodes counts (Edit (End node id)) =
    no_reference counts node ∷ unknown nodes node id ∷ read_only nodes node id ∷ not_open counts node id ∷ []
rules nodes counts (Edit (Tell node words)) = no_reference counts node ∷ []
rules nodes counts (Hold node) = no_reference counts node ∷ too_many_holds counts node ∷ []
rules nodes counts (Unhold node) = no_reference counts node ∷ []
rules nodes counts (Wait block) = []

-- why a word is refused, where the editor has so much
abbrev pub fault : List Node → Counts → Word → Option GestureFault
fault nodes counts word = first_fault (rules nodes counts word)

-- the node of a word is there
abbrev pub NamesNode : List Node → Word → Type 0
NamesNode nodes (Edit (Begin node id)) = node < length nodes
NamesNode nodes (Edit (Perform node id value)) = node < length nodes
NamesNode nodes (Edit (End node id)) = node < length nodes
NamesNode nodes (Edit (Tell node words)) = node < length nodes
NamesNode nodes (Hold node) = node < length nodes
NamesNode nodes (Unhold node) = node < length nodes
NamesNode nodes (Wait block) = Unit {0}
