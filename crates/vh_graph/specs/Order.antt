-- The order in which nodes run.
use Rattle.std.specs.Prelude.{◌≤◌, ◌<◌, ℕ, List, [], ◌∷◌, ◌++◌, Contains, Option, None, Some, Vec}
use Rattle.std.specs.declared.alloc.Global.{Global}
use Rattle.vh_graph.specs.Paths.{sources_of}

-- a node that doesn't stand yet, whose sources all stand
pub record IsReady (nodes : ℕ) (wires : List (ℕ × ℕ)) (placed : List ℕ) (node : ℕ) : Type 0 where
  pub within : node < nodes
  pub missing : ¬ Contains placed node
  pub sources : (source : ℕ) → Contains (sources_of wires node) source → Contains placed source

-- the least number of those that are ready
pub record IsNext (nodes : ℕ) (wires : List (ℕ × ℕ)) (placed : List ℕ) (node : ℕ) : Type 0 where
  pub ready : IsReady nodes wires placed node
  pub least : (other : ℕ) → IsReady nodes wires placed other → node ≤ other

-- what may stand after these nodes: each is next where it stands, and all stand in the end
abbrev pub IsOrderAfter : ℕ → List (ℕ × ℕ) → List ℕ → List ℕ → Type 0
IsOrderAfter nodes wires placed [] = (node : ℕ) → node < nodes → Contains placed node
IsOrderAfter nodes wires placed (node ∷ order) = IsNext nodes wires placed node × IsOrderAfter nodes wires (placed ++ node ∷ []) order

abbrev pub IsOrder : ℕ → List (ℕ × ℕ) → List ℕ → Type 0
IsOrder nodes wires order = IsOrderAfter nodes wires [] order

-- the order, or none where there is no order
abbrev pub FindsOrder : ℕ → List (ℕ × ℕ) → Option (Vec ℕ Global) → Type 0
FindsOrder nodes wires None = ¬ ((order : List ℕ) × IsOrder nodes wires order)
FindsOrder nodes wires (Some order) = IsOrder nodes wires order.items
