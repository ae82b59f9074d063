-- The nodes of a session have names that differ.
use Rattle.std.proofs.Common.{◌≡◌, ◌≢◌, ℕ, zero, suc, ◌+◌, ◌<◌, true, false, cond, List, [], ◌∷◌, ◌++◌, length, take, get_or, sym, ap, ◌∙◌, subst, arith}
use Rattle.std.specs.Prelude.{Some, None}
use Rattle.std.specs.Str.{bytes_eq}
use Rattle.std.proofs.lemmas.List.{append_assoc, append-nil, get_or-take, length-take}
use Rattle.std.proofs.lemmas.Slice.Eq.{bytes_eq-Decides}
use Rattle.vh_params.specs.Names.{is_name}
use Rattle.vh_params.specs.Nodes.{Node, node_at, no_node, nodes_of}
use Rattle.vh_journal_text.specs.Keeps.{AreNamed}
use Rattle.vh_session.specs.declared.session.Session.{Session}
use Rattle.vh_session.specs.Keeps.{EachBehind, IsNodeBehind}
use Rattle.vh_session.specs.Rules.{node_from}
use Rattle.vh_session.proofs.Behind.{behind_all}

-- the one at a place stands behind those before it
pub behind_at : {A : Type 0} (Stands : List A → A → Type 0) (before xs : List A) → EachBehind Stands before xs → (i : ℕ) (d : A) → i < length xs → Stands (before ++ take i xs) (get_or xs i d)
behind_at Stands before [] each i d lt = absurd (omega (arith, lt))
behind_at Stands before (x ∷ xs) each zero d lt = subst (λ bs. Stands bs x) (sym (append-nil before)) each.0
behind_at Stands before (x ∷ xs) each (suc i) d lt =
    subst (λ bs. Stands bs (get_or xs i d)) (append_assoc before (x ∷ []) (take i xs)) (behind_at Stands (before ++ x ∷ []) xs each.1 i d (omega (arith, lt)))

none_before : (nodes : List Node) (name : List ℕ) (at : ℕ) → node_from at nodes name ≡ None → (k : ℕ) → k < length nodes → (node_at nodes k).name ≢ name
none_before [] name at none k lt = absurd (omega (arith, lt))
none_before (node ∷ nodes) name at none zero lt = λ same.
    let found : bytes_eq node.name name ≡ true = (bytes_eq-Decides node.name name).1 same in
    let some : Some at ≡ None = sym (ap (λ t. cond t (Some at) (node_from (1 + at) nodes name)) found) ∙ none in
    cc
none_before (node ∷ nodes) name at none (suc k) lt = elim (bytes_eq node.name name) as (λ t. cond t (Some at) (node_from (1 + at) nodes name) ≡ None → (node_at nodes k).name ≢ name) [
  | true ↦ λ some. absurd (cc)
  | false ↦ λ further. none_before nodes name (1 + at) further k (omega (arith, lt))
] none

pub are_named : (session : Session) → AreNamed (nodes_of session.nodes)
are_named session =
    let nodes = nodes_of session.nodes in
    let each = session.keeps.nodes.1 in
    record {
      names = behind_all IsNodeBehind (λ node. is_name node.name ≡ true) [] nodes (λ before node stands. stands.named) each;
      apart = λ i j lt there.
          let long = length-take j nodes in
          let other : (node_at (take j nodes) i).name ≢ (node_at nodes j).name = none_before (take j nodes) (node_at nodes j).name 0 (behind_at IsNodeBehind [] nodes each j no_node there).new i (omega (arith, long, lt, there)) in
          λ same. other (ap (λ (node : Node). node.name) (get_or-take j nodes i no_node lt) ∙ same);
    }
