-- First values, node by node.
use Rattle.std.proofs.Common.{◌≡◌, ◌∙◌, ℕ, suc, ◌+◌, ◌<◌, List, [], ◌∷◌, ◌++◌, drop, length, get_or, sym, ap, arith}
use Rattle.std.specs.List.{filter_map}
use Rattle.std.proofs.Math.Seq.{drop-cons}
use Rattle.std.proofs.lemmas.List.{append_assoc}
use Rattle.vh_params.specs.Nodes.{Node, node_at, no_node}
use Rattle.vh_session.specs.Content.{first_of, firsts_from}

next : (nodes : List Node) (firsts : List (List (ℕ × ℕ))) (i : ℕ) → i < length nodes → i < length firsts
    → firsts_from i (drop i nodes) (drop i firsts) ≡ filter_map (first_of i (get_or firsts i [])) (node_at nodes i).params ++ firsts_from (i + 1) (drop (i + 1) nodes) (drop (i + 1) firsts)
next nodes firsts i lt fl =
    let e : suc i ≡ i + 1 = omega arith in
    ap (λ ns. firsts_from i ns (drop i firsts)) (drop-cons nodes i no_node lt)
    ∙ ap (λ fs. firsts_from i (get_or nodes i no_node ∷ drop (suc i) nodes) fs) (drop-cons firsts i [] fl)
    ∙ ap (λ m. filter_map (first_of i (get_or firsts i [])) (node_at nodes i).params ++ firsts_from (i + 1) (drop m nodes) (drop m firsts)) e

pub one_node : (nodes : List Node) (firsts : List (List (ℕ × ℕ))) (i : ℕ) (before after all : List (ℕ × ℕ × ℕ)) → i < length nodes → i < length firsts
    → before ++ firsts_from i (drop i nodes) (drop i firsts) ≡ all → after ≡ before ++ filter_map (first_of i (get_or firsts i [])) (node_at nodes i).params
    → after ++ firsts_from (i + 1) (drop (i + 1) nodes) (drop (i + 1) firsts) ≡ all
one_node nodes firsts i before after all lt fl is now =
    ap (λ xs. xs ++ firsts_from (i + 1) (drop (i + 1) nodes) (drop (i + 1) firsts)) now
    ∙ append_assoc before (filter_map (first_of i (get_or firsts i [])) (node_at nodes i).params) (firsts_from (i + 1) (drop (i + 1) nodes) (drop (i + 1) firsts))
    ∙ ap (λ xs. before ++ xs) (sym (next nodes firsts i lt fl)) ∙ is
