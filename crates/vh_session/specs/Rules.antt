-- The rules on the words of a line, from the left.
use Rattle.std.specs.Prelude.{ℕ, ◌+◌, Bool, nat_lt, List, [], ◌∷◌, slice_index_or, Option, Some, None, Result, Ok, Err, if◌then◌else◌, codes}
use Rattle.std.specs.List.{find}
use Rattle.std.specs.Option.{ok_or}
use Rattle.std.specs.Str.{bytes_eq}
use Rattle.vh_text.specs.Chains.{given, fault_if}
use Rattle.vh_text.specs.Numbers.{number_or, passing_number, passing_numbers, is_within}
use Rattle.vh_params.specs.declared.class.ClassInfo.{ClassInfo}
use Rattle.vh_params.specs.declared.param.ParamInfo.{ParamInfo}
use Rattle.vh_params.specs.Nodes.{Node, info_in}
use Rattle.vh_params.specs.Flags as flags
use Rattle.vh_params.specs.Short.{label_text}
use Rattle.vh_session.specs.declared.fault.SessionKind.{SessionKind}
use Rattle.vh_session.specs.declared.fault.SessionKind.TheVariants.{BadNumber, Missing, Extra, UnknownNode, UnknownClass, UnknownParam, ReadOnlyParam}
use Rattle.vh_session.specs.declared.wire.End.{End}
use Rattle.vh_session.specs.declared.wire.End.TheVariants.{In, Out, Node as AtNode}

-- what a rule makes of words, or the first kind of fault
abbrev pub Checked : Type 0 → Type 0
Checked A = Result A SessionKind

abbrev pub word : List (List ℕ) → ℕ → List ℕ
word words i = slice_index_or words i []

-- Missing for too few words, Extra for too many
abbrev pub arity : ℕ → ℕ → ℕ → Checked (Unit {0})
arity least most count = fault_if (nat_lt count least) Missing (fault_if (nat_lt most count) Extra (Ok tt))

-- any number below 2^32
abbrev pub any_number : List ℕ → Checked ℕ
any_number text = number_or BadNumber text

-- a number that passes
abbrev pub number_that : (ℕ → Bool) → List ℕ → Checked ℕ
number_that passes text = passing_number BadNumber passes text

-- a number of a range
abbrev pub number_within : ℕ → ℕ → List ℕ → Checked ℕ
number_within least most text = number_that (is_within least most) text

-- such numbers, the first fault of them from the left
abbrev pub numbers_that : (ℕ → Bool) → List (List ℕ) → Checked (List ℕ)
numbers_that passes texts = passing_numbers BadNumber passes texts

-- the number of the node of a name, where the first of these has this number
abbrev pub node_from : ℕ → List Node → List ℕ → Option ℕ
node_from at [] name = None
node_from at (node ∷ nodes) name = if bytes_eq node.name name then Some at else node_from (1 + at) nodes name

abbrev pub node_named : List Node → List ℕ → Option ℕ
node_named nodes name = node_from 0 nodes name

abbrev pub the_node : List Node → List ℕ → Checked ℕ
the_node nodes name = ok_or (node_named nodes name) UnknownNode

abbrev pub class_named : List ClassInfo → List ℕ → Option ClassInfo
class_named classes name = find (λ class. bytes_eq (label_text class.name) name) classes

abbrev pub the_class : List ClassInfo → List ℕ → Checked ClassInfo
the_class classes name = ok_or (class_named classes name) UnknownClass

-- a parameter of a node
abbrev pub the_param : List Node → ℕ → List ℕ → Checked ParamInfo
the_param nodes node text = given (any_number text) (λ id. ok_or (info_in nodes node id) UnknownParam)

abbrev pub is_read_only : ParamInfo → Bool
is_read_only param = flags.is_read_only param.flags

abbrev pub can_automate : ParamInfo → Bool
can_automate param = flags.is_automatable param.flags

-- a parameter of a node that can be set
abbrev pub settable_param : List Node → ℕ → List ℕ → Checked ParamInfo
settable_param nodes node text = given (the_param nodes node text) (λ param. fault_if (is_read_only param) ReadOnlyParam (Ok param))

-- an end of a wire, of which this word stands for the session's own
abbrev pub the_end : List Node → List ℕ → End → List ℕ → Checked End
the_end nodes own end text = if bytes_eq text own then Ok end else given (the_node nodes text) (λ node. Ok (AtNode node))

abbrev pub first_end : List Node → List ℕ → Checked End
first_end nodes text = the_end nodes (codes "in") In text

abbrev pub last_end : List Node → List ℕ → Checked End
last_end nodes text = the_end nodes (codes "out") Out text
