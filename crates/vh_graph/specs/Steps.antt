-- What a search in depth does to its parts and nodes.
use Rattle.std.specs.Prelude.{◌≡◌, ◌≢◌, ◌≤◌, ◌<◌, ◌-◌, ◌+◌, ℕ, Bool, List, [], ◌∷◌, ◌++◌, take, length, All, Contains, replicate, set, cond, ◌==◌, ◌||◌, slice_index_or, true, false, ◌⊎◌, Vec, Option, Some, None}
use Rattle.std.specs.declared.alloc.Global.{Global}
use Rattle.std.specs.BTreeSet.{contains}
use Rattle.std.specs.Ordering.{nat_cmp}
use Rattle.vh_graph.specs.declared.order.Placing.{Placing}
use Rattle.vh_graph.specs.declared.search.Part.{Part}
use Rattle.vh_graph.specs.declared.search.Place.{Place}
use Rattle.vh_graph.specs.declared.search.Place.TheVariants.{Closed}

abbrev pub part_of : ℕ → ℕ → Part
part_of node unread = record { node = node; unread = unread }

-- the last parts, which begin behind the place, are no parts any more
pub record IsJoined (place : ℕ) (before after : List Part) : Type 0 where
  pub kept : (n : ℕ) × (n ≤ length before) × (after ≡ take n before) × ((k : ℕ) (d : Part) → n ≤ k → k < length before → place < (slice_index_or before k d).node)
  pub upto : (d : Part) → 0 < length after → (slice_index_or after (length after - 1) d).node ≤ place

-- these nodes are closed, and the others as before
pub record IsClosed (on_cycle : Bool) (nodes : List ℕ) (before after : List Place) : Type 0 where
  pub long : length after ≡ length before
  pub closed : (node : ℕ) (d : Place) → Contains nodes node → slice_index_or after node d ≡ Closed on_cycle
  pub others : (node : ℕ) (d : Place) → ¬ Contains nodes node → slice_index_or after node d ≡ slice_index_or before node d

-- whether there are two nodes, or one with a wire to itself
pub record IsLooped (lists : List (Vec ℕ Global)) (nodes : List ℕ) (looped : Bool) : Type 0 where
  pub yes : (d : ℕ) (e : Vec ℕ Global) → looped ≡ true → (1 < length nodes) ⊎ Contains (slice_index_or lists (slice_index_or nodes 0 d) e).items (slice_index_or nodes 0 d)
  pub no : (d : ℕ) (e : Vec ℕ Global) → looped ≡ false → (length nodes ≤ 1) × (¬ Contains (slice_index_or lists (slice_index_or nodes 0 d) e).items (slice_index_or nodes 0 d))

-- the first node that is closed as one on a cycle, or none
abbrev pub IsFirst : List Place → Option ℕ → Type 0
IsFirst places None = (node : ℕ) (d : Place) → node < length places → slice_index_or places node d ≢ Closed true
IsFirst places (Some first) = (first < length places) × ((d : Place) → slice_index_or places first d ≡ Closed true) × ((node : ℕ) (d : Place) → node < first → slice_index_or places node d ≢ Closed true)

-- the sources from one place up to another stand, and that at the other, where there is one, doesn't
pub record IsPassed (stands : List Bool) (sources : List ℕ) (before after : ℕ) : Type 0 where
  pub later : before ≤ after
  pub within : after ≤ length sources
  pub stand : (i d : ℕ) (e : Bool) → before ≤ i → i < after → slice_index_or stands (slice_index_or sources i d) e ≡ true
  pub misses : (d : ℕ) (e : Bool) → after < length sources → slice_index_or stands (slice_index_or sources after d) e ≡ false

pub record IsSent (node : ℕ) (sources : List ℕ) (to : ℕ) (before after : Placing) : Type 0 where
  pub ready : (x : ℕ) → contains nat_cmp after.ready x ≡ cond (to == length sources) (x == node || contains nat_cmp before.ready x) (contains nat_cmp before.ready x)
  pub long : length after.waiting.items ≡ length before.waiting.items
  pub waits : to < length sources → (d : ℕ) (e : Vec ℕ Global) → (slice_index_or after.waiting.items (slice_index_or sources to d) e).items ≡ (slice_index_or before.waiting.items (slice_index_or sources to d) e).items ++ node ∷ []
  pub others : (x : ℕ) (d : ℕ) (e : Vec ℕ Global) → (to < length sources → x ≢ slice_index_or sources to d) → slice_index_or after.waiting.items x e ≡ slice_index_or before.waiting.items x e

-- a node of whose sources one doesn't stand waits for it, and one whose sources all stand is ready
pub record IsLooked (node : ℕ) (sources : List ℕ) (before after : Placing) : Type 0 where
  pub order : after.order ≡ before.order
  pub stands : after.stands ≡ before.stands
  pub passed : (to : ℕ) × IsPassed before.stands.items sources (slice_index_or before.passed.items node 0) to × (after.passed.items ≡ set before.passed.items node to) × IsSent node sources to before after

-- no node stands, is ready or waits
pub record IsBegun (nodes : ℕ) (placing : Placing) : Type 0 where
  pub order : placing.order.items ≡ []
  pub stands : placing.stands.items ≡ replicate nodes false
  pub passed : placing.passed.items ≡ replicate nodes 0
  pub waiting : length placing.waiting.items ≡ nodes
  pub nothing : All (λ list. list.items ≡ []) placing.waiting.items
  pub ready : (x : ℕ) → contains nat_cmp placing.ready x ≡ false

-- one above the highest of the sources' layers, or 0
pub record IsAbove (layers sources : List ℕ) (layer : ℕ) : Type 0 where
  pub above : All (λ source. slice_index_or layers source 0 < layer) sources
  pub reason : (layer ≡ 0) ⊎ ((source : ℕ) × Contains sources source × (layer ≡ 1 + slice_index_or layers source 0))
