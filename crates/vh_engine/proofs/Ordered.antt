-- A session's nodes in the order of its graph: each stands behind the nodes that reach it.
use Rattle.std.proofs.Common.{◌≡◌, ℕ, suc, ◌+◌, ◌<◌, ◌==◌, Bool, true, false, cond, List, [], ◌∷◌, ◌++◌, length, map, Option, None, Some, refl, sym, subst, arith}
use Rattle.std.specs.Prelude.{All, Contains, filter, slice_index_or}
use Rattle.std.specs.List.{cons_option}
use Rattle.std.proofs.lemmas.Bool.{and_parts, eqb-true, eq-eqb}
use Rattle.std.proofs.lemmas.List.Elements.{All-cons, All-head, All-tail}
use Rattle.vh_graph.specs.Order.{IsOrder, IsOrderAfter}
use Rattle.vh_graph.specs.Paths.{sources_of}
use Rattle.vh_params.specs.Nodes.{nodes_of}
use Rattle.vh_session.specs.declared.session.Session.{Session}
use Rattle.vh_session.specs.declared.wire.End.{End}
use Rattle.vh_session.specs.declared.wire.End.TheVariants.{In, Out, Node as AtNode}
use Rattle.vh_session.specs.declared.wire.Wire.{Wire}
use Rattle.vh_session.specs.Content.{between_nodes, ends, node_wires, reaches, sources_into}
use Rattle.vh_session.specs.Keeps.{Begins, IsWireBehind}
use Rattle.vh_session.specs.Lines.{end_number}
use Rattle.vh_session.specs.Names.{content_of}
use Rattle.vh_session.proofs.Behind.{behind_all}
use Rattle.vh_engine.specs.declared.seat.Seat.{Seat}
use Rattle.vh_engine.specs.Plans.{AreSeats}
use Rattle.vh_engine.specs.Runs.{IsFrom, AreAfter}

later : (x : ℕ) (xs : List ℕ) (y : ℕ) → Contains xs y → Contains (x ∷ xs) y
later x xs y is = let lt = is.1 in (suc is.0, omega (arith, lt), is.2)

-- the sources among some wires are sources among one more
among_more : (wire : Wire) (wires : List (ℕ × ℕ)) (node source : ℕ) → Contains (sources_of wires node) source → Contains (sources_of (cons_option (between_nodes wire) wires) node) source
among_more wire wires node source is = elim (between_nodes wire) as (λ found. Contains (sources_of (cons_option found wires) node) source) [
  | None ↦ is
  | Some pair ↦ elim (pair.1 == node) as (λ t. Contains (map (λ (w : ℕ × ℕ). w.0) (cond t (pair ∷ filter (λ (w : ℕ × ℕ). w.1 == node) wires) (filter (λ (w : ℕ × ℕ). w.1 == node) wires))) source) [
    | true ↦ later pair.0 (sources_of wires node) source is
    | false ↦ is
  ]
]

-- a wire to a node begins at the input or at one of the node's sources
begins_placed : (count node : ℕ) (from to : End) (wires : List (ℕ × ℕ)) (placed : List ℕ) → Begins count from → (end_number to == end_number (AtNode node)) ≡ true
    → ((source : ℕ) → Contains (sources_of (cons_option (ends from to) wires) node) source → Contains placed source) → IsFrom placed from
begins_placed count node In to wires placed begins same has = tt
begins_placed count node Out to wires placed begins same has = absurd begins
begins_placed count node (AtNode source) In wires placed begins same has = let is = eqb-true 0 (2 + node) same in absurd (omega (arith, is))
begins_placed count node (AtNode source) Out wires placed begins same has = let is = eqb-true 1 (2 + node) same in absurd (omega (arith, is))
begins_placed count node (AtNode source) (AtNode other) wires placed begins same has =
    let is = eqb-true (2 + other) (2 + node) same in
    let test : (other == node) ≡ true = eq-eqb other node (omega (arith, is)) in
    has source (subst (λ (t : Bool). Contains (map (λ (w : ℕ × ℕ). w.0) (cond t ((source, other) ∷ filter (λ (w : ℕ × ℕ). w.1 == node) wires) (filter (λ (w : ℕ × ℕ). w.1 == node) wires))) source) (sym test)
    (0, omega arith, refl))

-- so all wires to one of its buses
from_placed : (count node : ℕ) (aux : Bool) (placed : List ℕ) (wires : List Wire) → All (λ wire. Begins count wire.from) wires
    → ((source : ℕ) → Contains (sources_of (node_wires wires) node) source → Contains placed source) → All (IsFrom placed) (sources_into wires (AtNode node) aux)
from_placed count node aux placed [] begins has = λ k d lt. absurd (omega (arith, lt))
from_placed count node aux placed (wire ∷ wires) begins has =
    let rest = from_placed count node aux placed wires (All-tail (λ (w : Wire). Begins count w.from) wire wires begins) (λ source is. has source (among_more wire (node_wires wires) node source is)) in
    let others = filter (reaches (AtNode node) aux) wires in
    elim (reaches (AtNode node) aux wire) as (λ t. reaches (AtNode node) aux wire ≡ t → All (IsFrom placed) (map (λ (w : Wire). w.from) (cond t (wire ∷ others) others))) [
      | true ↦ λ test. All-cons (IsFrom placed) wire.from (map (λ (w : Wire). w.from) others)
          (begins_placed count node wire.from wire.to (node_wires wires) placed (All-head (λ (w : Wire). Begins count w.from) wire wires begins) (and_parts _ _ test).0 has) rest
      | false ↦ λ test. rest
    ] refl

after_placed : (count : ℕ) (wires : List Wire) (seats : List Seat) → All (λ wire. Begins count wire.from) wires
    → ((node : ℕ) (d : Seat) → node < count → (slice_index_or seats node d).main.items ≡ sources_into wires (AtNode node) false)
    → ((node : ℕ) (d : Seat) → node < count → (slice_index_or seats node d).aux.items ≡ sources_into wires (AtNode node) true)
    → (placed order : List ℕ) → IsOrderAfter count (node_wires wires) placed order → AreAfter count seats placed order
after_placed count wires seats begins main aux placed [] is = is
after_placed count wires seats begins main aux placed (node ∷ order) is =
    let ready = is.0.ready in (
      ready.within,
      ready.missing,
      λ d. (
        subst (λ (l : List End). All (IsFrom placed) l) (sym (main node d ready.within)) (from_placed count node false placed wires begins ready.sources),
        subst (λ (l : List End). All (IsFrom placed) l) (sym (aux node d ready.within)) (from_placed count node true placed wires begins ready.sources),
      ),
      after_placed count wires seats begins main aux (placed ++ node ∷ []) order is.1,
    )

-- The order of a session's graph is one of its seats.
pub seats_in_order : (session : Session) (seats : List Seat) (order : List ℕ) → AreSeats (content_of session) seats → IsOrder (length (nodes_of session.nodes)) (node_wires (content_of session).wires) order
    → AreAfter (length (nodes_of session.nodes)) seats [] order
seats_in_order session seats order are is =
    let count = length (nodes_of session.nodes) in
    let long = are.long in
    after_placed count session.wires.items seats
    (behind_all (IsWireBehind count) (λ wire. Begins count wire.from) [] session.wires.items (λ before wire stands. stands.from) session.keeps.wires)
    (λ node d lt. are.main node d (omega (arith, lt, long))) (λ node d lt. are.aux node d (omega (arith, lt, long))) [] order is
