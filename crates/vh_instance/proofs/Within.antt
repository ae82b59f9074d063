-- What `param` lines give is within 1.0.
use Rattle.std.proofs.Common.{◌≡◌, ◌≤◌, ◌^◌, ℕ, true, false, cond, eqb, ◌&&◌, List, [], ◌∷◌, ◌++◌, Option, sym, ap, subst, ◌∙◌}
use Rattle.std.specs.Prelude.{All, Some, unwrap_or}
use Rattle.std.specs.List.{find}
use Rattle.std.specs.Option.{option_map}
use Rattle.std.proofs.lemmas.Bool.{and_parts, leb-true}
use Rattle.std.proofs.lemmas.List.Elements.{All-nil, All-cons, All-head, All-tail}
use Rattle.vh_params.specs.Nodes.{Node, nodes_of}
use Rattle.vh_session.specs.declared.session.Session.{Session}
use Rattle.vh_session.specs.Keeps.{EachBehind, IsFirstBehind}
use Rattle.vh_instance.specs.Firsts.{given_in}

abbrev IsWithin : ℕ × ℕ × ℕ → Type 0
IsWithin first = first.2 ≤ 2 ^ 24

values_within : (nodes : List Node) (before firsts : List (ℕ × ℕ × ℕ)) → EachBehind (IsFirstBehind nodes) before firsts → All (λ first. first.2 ≤ 2 ^ 24) firsts
values_within nodes before [] each = All-nil (λ first. IsWithin first)
values_within nodes before (first ∷ firsts) each =
    let within : first.2 ≤ 2 ^ 24 = leb-true first.2 (2 ^ 24) (and_parts _ _ each.0.value).1 in
    All-cons (λ other. IsWithin other) first firsts within (values_within nodes (before ++ first ∷ []) firsts each.1)

given_within : (firsts : List (ℕ × ℕ × ℕ)) (node id default : ℕ) → All (λ first. first.2 ≤ 2 ^ 24) firsts → default ≤ 2 ^ 24 → unwrap_or (given_in firsts node id) default ≤ 2 ^ 24
given_within [] node id default all within = within
given_within (first ∷ firsts) node id default all within =
    let here = All-head (λ other. IsWithin other) first firsts all in
    let rest = given_within firsts node id default (All-tail (λ other. IsWithin other) first firsts all) within in
    elim (eqb first.0 node && eqb first.1 id) as (λ t. unwrap_or (option_map (λ (other : ℕ × ℕ × ℕ). other.2) (cond t (Some first) (find (λ (other : ℕ × ℕ × ℕ). eqb other.0 node && eqb other.1 id) firsts))) default ≤ 2 ^ 24) [ true ↦ here | false ↦ rest ]

-- the value of a `param` line, or another
pub line_within : (session : Session) (node id : ℕ) (line : Option ℕ) (value other : ℕ) → line ≡ given_in session.firsts.items node id → value ≡ unwrap_or line other → other ≤ 2 ^ 24 → value ≤ 2 ^ 24
line_within session node id line value other is made within =
    subst (λ (n : ℕ). n ≤ 2 ^ 24) (sym (made ∙ ap (λ (o : Option ℕ). unwrap_or o other) is)) (given_within session.firsts.items node id other (values_within (nodes_of session.nodes) [] session.firsts.items session.keeps.firsts) within)
