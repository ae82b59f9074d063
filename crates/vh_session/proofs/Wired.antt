-- A session's wires and block sizes, as the engine asks for them.
use Rattle.std.proofs.Common.{◌≡◌, ◌∙◌, ℕ, suc, ◌+◌, ◌<◌, ◌==◌, Bool, true, false, cond, List, [], ◌∷◌, ◌++◌, map, take, length, get_or, refl, sym, ap, subst, arith}
use Rattle.std.specs.Prelude.{All, filter}
use Rattle.std.proofs.lemmas.Bool.{and_parts, leb-true}
use Rattle.std.proofs.lemmas.List.{take_more, append-nil, map-append}
use Rattle.std.proofs.lemmas.List.Elements.{filter-append, All-cons}
use Rattle.vh_cut.specs.Cut.{IsPattern}
use Rattle.vh_params.specs.Nodes.{nodes_of}
use Rattle.vh_session.specs.declared.session.Session.{Session}
use Rattle.vh_session.specs.declared.wire.End.{End}
use Rattle.vh_session.specs.declared.wire.Wire.{Wire}
use Rattle.vh_session.specs.Content.{reaches, sources_into}
use Rattle.vh_session.specs.Keeps.{Begins, IsWireBehind, AreSizes}
use Rattle.vh_session.proofs.Behind.{behind_all}

sizes_pattern : (sizes : List ℕ) → AreSizes sizes → IsPattern sizes
sizes_pattern sizes are = record {
  some = are.0;
  most = are.1;
  sizes = λ k d lt. let within = and_parts _ _ (are.2 k d lt) in (leb-true 1 (get_or sizes k d) within.0, leb-true (get_or sizes k d) 8192 within.1);
}

pub is_pattern : (session : Session) → IsPattern session.pattern.items
is_pattern session = sizes_pattern session.pattern.items session.keeps.pattern

-- what a test gives of one wire more
wire_more : (wires : List Wire) (i : ℕ) (d : Wire) (to : End) (aux : Bool) → i < length wires → sources_into (take (i + 1) wires) to aux ≡ sources_into (take i wires) to aux ++ map (λ (wire : Wire). wire.from) (filter (reaches to aux) (get_or wires i d ∷ []))
wire_more wires i d to aux lt =
    ap (λ (ws : List Wire). sources_into ws to aux) (take_more wires i d lt)
    ∙ ap (λ (ws : List Wire). map (λ (wire : Wire). wire.from) ws) (filter-append (reaches to aux) (take i wires) (get_or wires i d ∷ []))
    ∙ map-append (λ (wire : Wire). wire.from) (filter (reaches to aux) (take i wires)) (filter (reaches to aux) (get_or wires i d ∷ []))

pub one_more : (wires : List Wire) (i : ℕ) (d : Wire) (to : End) (aux : Bool) → i < length wires → reaches to aux (get_or wires i d) ≡ true → sources_into (take (i + 1) wires) to aux ≡ sources_into (take i wires) to aux ++ (get_or wires i d).from ∷ []
one_more wires i d to aux lt is = wire_more wires i d to aux lt ∙ ap (λ t. sources_into (take i wires) to aux ++ map (λ (wire : Wire). wire.from) (cond t (get_or wires i d ∷ []) [])) is

pub none_more : (wires : List Wire) (i : ℕ) (d : Wire) (to : End) (aux : Bool) → i < length wires → reaches to aux (get_or wires i d) ≡ false → sources_into (take (i + 1) wires) to aux ≡ sources_into (take i wires) to aux
none_more wires i d to aux lt is = wire_more wires i d to aux lt ∙ ap (λ t. sources_into (take i wires) to aux ++ map (λ (wire : Wire). wire.from) (cond t (get_or wires i d ∷ []) [])) is ∙ append-nil (sources_into (take i wires) to aux)

begin_ : (count : ℕ) (wires : List Wire) (to : End) (aux : Bool) → All (λ wire. Begins count wire.from) wires → All (Begins count) (sources_into wires to aux)
begin_ count [] to aux all = λ k d lt. absurd (omega (arith, lt))
begin_ count (wire ∷ wires) to aux all =
    let rest = begin_ count wires to aux (λ k d lt. all (suc k) d (omega (arith, lt))) in
    elim (reaches to aux wire) as (λ t. All (Begins count) (map (λ (wire : Wire). wire.from) (cond t (wire ∷ filter (reaches to aux) wires) (filter (reaches to aux) wires)))) [
      | true ↦ All-cons (Begins count) wire.from (sources_into wires to aux) (all 0 wire (omega arith)) rest
      | false ↦ rest
    ]

pub all_begin : (session : Session) (to : End) (aux : Bool) → All (Begins (length (nodes_of session.nodes))) (sources_into session.wires.items to aux)
all_begin session to aux =
    let count = length (nodes_of session.nodes) in
    begin_ count session.wires.items to aux (behind_all (IsWireBehind count) (λ wire. Begins count wire.from) [] session.wires.items (λ before wire stands. stands.from) session.keeps.wires)
