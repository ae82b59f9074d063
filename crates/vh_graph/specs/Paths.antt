-- What leads where. A wire goes from its first node to its second.
use Rattle.std.specs.Prelude.{◌≡◌, ◌≤◌, ◌<◌, ℕ, zero, suc, ◌==◌, List, [], map, filter, length, slice_index_or, Contains, All, Vec, Option, None, Some}
use Rattle.std.specs.declared.alloc.Global.{Global}

-- the nodes that have a wire to this one, in the wires' order
abbrev pub sources_of : List (ℕ × ℕ) → ℕ → List ℕ
sources_of wires node = map (λ wire. wire.0) (filter (λ wire. wire.1 == node) wires)

-- a path over so many wires
abbrev pub Leads : List (ℕ × ℕ) → ℕ → ℕ → ℕ → Type 0
Leads wires zero first last = first ≡ last
Leads wires (suc long) first last = (before : ℕ) × Leads wires long first before × Contains (sources_of wires last) before

abbrev pub IsOnCycle : List (ℕ × ℕ) → ℕ → Type 0
IsOnCycle wires node = (long : ℕ) × Leads wires (suc long) node node

-- the least of all nodes on cycles
pub record IsLeastOnCycle (wires : List (ℕ × ℕ)) (node : ℕ) : Type 0 where
  pub cycle : IsOnCycle wires node
  pub least : (other : ℕ) → IsOnCycle wires other → node ≤ other

-- the longest distance from a node without sources
pub record IsLayer (wires : List (ℕ × ℕ)) (node layer : ℕ) : Type 0 where
  pub reached : (first : ℕ) × (sources_of wires first ≡ []) × Leads wires layer first node
  pub longest : (first long : ℕ) → sources_of wires first ≡ [] → Leads wires long first node → long ≤ layer

-- each node's layer
abbrev pub AreLayers : List (ℕ × ℕ) → List ℕ → Type 0
AreLayers wires layers = (node d : ℕ) → node < length layers → IsLayer wires node (slice_index_or layers node d)

-- each node's list is its sources
abbrev pub AreSources : List (ℕ × ℕ) → List (Vec ℕ Global) → Type 0
AreSources wires lists = (node : ℕ) (d : Vec ℕ Global) → node < length lists → (slice_index_or lists node d).items ≡ sources_of wires node

-- wires between as many nodes, and each node's sources
pub record AreLinked (wires : List (ℕ × ℕ)) (lists : List (Vec ℕ Global)) : Type 0 where
  pub ends : All (λ wire. (wire.0 < length lists) × (wire.1 < length lists)) wires
  pub sources : AreSources wires lists

-- the least node on a cycle, or none where no node is on one
abbrev pub FindsLeast : List (ℕ × ℕ) → Option ℕ → Type 0
FindsLeast wires None = (node : ℕ) → ¬ IsOnCycle wires node
FindsLeast wires (Some node) = IsLeastOnCycle wires node
