-- What a session is, as lists, and what lines come to.
use Rattle.std.specs.Prelude.{ℕ, ◌+◌, ◌==◌, Bool, not, ◌&&◌, List, [], ◌∷◌, ◌++◌, map, filter, if◌then◌else◌, Option, Some, None}
use Rattle.std.specs.List.{filter_map}
use Rattle.std.specs.Option.{option_map}
use Rattle.vh_params.specs.declared.param.ParamInfo.{ParamInfo}
use Rattle.vh_params.specs.Nodes.{Node}
use Rattle.vh_session.specs.declared.wire.Wire.{Wire}
use Rattle.vh_session.specs.declared.wire.End.{End}
use Rattle.vh_session.specs.declared.wire.End.TheVariants.{In, Out, Node as AtNode}
use Rattle.vh_session.specs.Entry.{ScriptWord, LaneText, Draft}
use Rattle.vh_session.specs.Lines.{end_number}

pub record Content : Type 0 where
  pub length : ℕ
  pub channels : ℕ
  pub bits : ℕ
  pub pattern : List ℕ
  pub nodes : List Node
  pub presets : List (ℕ × List ℕ)
  pub firsts : List (ℕ × ℕ × ℕ)
  pub wires : List Wire
  pub lanes : List LaneText
  pub scripts : List (List ScriptWord)

abbrev pub or_zero : Option ℕ → ℕ
or_zero None = 0
or_zero (Some n) = n

-- the presets by node, where the first of these is this node's
abbrev pub presets_from : ℕ → List (Option (List ℕ)) → List (ℕ × List ℕ)
presets_from node [] = []
presets_from node (None ∷ presets) = presets_from (node + 1) presets
presets_from node (Some file ∷ presets) = (node, file) ∷ presets_from (node + 1) presets

-- the value of this parameter among first values (id, value)
abbrev pub value_in : List (ℕ × ℕ) → ℕ → Option ℕ
value_in [] id = None
value_in (first ∷ firsts) id = if first.0 == id then Some first.1 else value_in firsts id

-- a parameter's first value, where a line gives it one
abbrev pub first_of : ℕ → List (ℕ × ℕ) → ParamInfo → Option (ℕ × ℕ × ℕ)
first_of node firsts param = option_map (λ value. (node, param.id, value)) (value_in firsts param.id)

-- the first values by node and then by rising id, where the first of these nodes has this number
abbrev pub firsts_from : ℕ → List Node → List (List (ℕ × ℕ)) → List (ℕ × ℕ × ℕ)
firsts_from number [] firsts = []
firsts_from number (node ∷ nodes) [] = []
firsts_from number (node ∷ nodes) (given ∷ firsts) = filter_map (first_of number given) node.params ++ firsts_from (number + 1) nodes firsts

-- what lines come to, where those stand that each session has
abbrev pub content_in : Draft → Content
content_in draft = record {
  length = or_zero draft.length;
  channels = or_zero draft.channels;
  bits = or_zero draft.bits;
  pattern = draft.pattern;
  nodes = draft.nodes;
  presets = presets_from 0 draft.presets;
  firsts = firsts_from 0 draft.nodes draft.firsts;
  wires = draft.wires;
  lanes = draft.lanes;
  scripts = draft.scripts;
}

-- the nodes of a wire between two
abbrev pub ends : End → End → Option (ℕ × ℕ)
ends (AtNode from) (AtNode to) = Some (from, to)
ends In to = None
ends Out to = None
ends (AtNode from) In = None
ends (AtNode from) Out = None

-- the wires between nodes
abbrev pub between_nodes : Wire → Option (ℕ × ℕ)
between_nodes wire = ends wire.from wire.to

abbrev pub node_wires : List Wire → List (ℕ × ℕ)
node_wires wires = filter_map between_nodes wires

-- whether a wire reaches the main bus of this end, or its aux bus
abbrev pub reaches : End → Bool → Wire → Bool
reaches to aux wire = (end_number wire.to == end_number to) && (if aux then wire.aux else not wire.aux)

-- where the wires begin that reach a bus, in the wires' order
abbrev pub sources_into : List Wire → End → Bool → List End
sources_into wires to aux = map (λ wire. wire.from) (filter (reaches to aux) wires)
