-- The parameters of a session.
use Rattle.std.specs.Prelude.{ℕ, suc, List, [], ◌∷◌, ◌++◌, length, map, sum_by}
use Rattle.vh_params.specs.declared.param.ParamInfo.{ParamInfo}
use Rattle.vh_params.specs.Nodes.{Node}
use Rattle.vh_back.specs.declared.item.Parameter.{Parameter}
use Rattle.vh_back.specs.Items.{parameter}

-- those of a node, by rising id
abbrev pub infos_at : ℕ → List ParamInfo → List Parameter
infos_at node params = map (λ param. parameter node param.id) params

-- and those of nodes from this number on, one after the other
abbrev pub parameters_from : ℕ → List Node → List Parameter
parameters_from number [] = []
parameters_from number (node ∷ nodes) = infos_at number node.params ++ parameters_from (suc number) nodes

abbrev pub all_parameters : List Node → List Parameter
all_parameters nodes = parameters_from 0 nodes

-- how many there are
abbrev pub param_count : List Node → ℕ
param_count nodes = sum_by (λ node. length node.params) nodes
