-- Names and parameters that are written are found.
use Rattle.std.proofs.Common.{◌≡◌, ◌∙◌, ℕ, zero, suc, ◌+◌, ◌<◌, ◌^◌, Bool, true, false, cond, List, [], ◌∷◌, ◌++◌, length, refl, sym, ap, subst, arith, Some, None, Option, Ok, true≢false}
use Rattle.std.specs.Prelude.{nat_le, not, ok_or}
use Rattle.std.specs.Fmt.{decimal}
use Rattle.std.specs.Str.{bytes_eq}
use Rattle.std.proofs.lemmas.Bool.{and_parts, leb-true, not-true}
use Rattle.std.proofs.lemmas.List.{append_assoc, length-append}
use Rattle.vh_params.specs.declared.param.ParamInfo.{ParamInfo}
use Rattle.vh_params.specs.Nodes.{Node, node_at, info_in}
use Rattle.vh_session.specs.declared.fault.SessionKind.TheVariants.{UnknownNode, UnknownParam, ReadOnlyParam}
use Rattle.vh_session.specs.Lines.{is_any}
use Rattle.vh_session.specs.Rules.{node_from, node_named, the_node, the_param, settable_param, is_read_only, can_automate}
use Rattle.vh_text.specs.Chains.{given, fault_if}
use Rattle.vh_session.specs.Text.{name_of}
use Rattle.vh_session.specs.Keeps.{EachBehind, IsNodeBehind, is_settable, can_set, is_automated, has_automation}
use Rattle.vh_session.proofs.Named.{same_text}
use Rattle.vh_session.proofs.Numerals.{any_reads}
use Rattle.vh_session.proofs.Params.{found_id}

-- none of these has the name, so it is looked for among the others
past : (before others : List Node) (name : List ℕ) (at : ℕ) → node_from at before name ≡ None → node_from at (before ++ others) name ≡ node_from (at + length before) others name
past [] others name at none = ap (λ n. node_from n others name) (let e : at ≡ at + 0 = omega arith in e)
past (node ∷ before) others name at none = elim (bytes_eq node.name name) as (λ t. cond t (Some at) (node_from (1 + at) before name) ≡ None → cond t (Some at) (node_from (1 + at) (before ++ others) name) ≡ node_from (at + suc (length before)) others name) [
  | true ↦ λ found. absurd (subst (λ o. elim o as (λ _. Type 0) [ None ↦ ⊥ | Some n ↦ Unit {0} ]) found tt)
  | false ↦ λ found. past before others name (1 + at) found ∙ ap (λ n. node_from n others name) (let e : (1 + at) + length before ≡ at + suc (length before) = omega arith in e)
] none

named_behind : (before nodes : List Node) (i : ℕ) → EachBehind IsNodeBehind before nodes → i < length nodes → node_named (before ++ nodes) (node_at nodes i).name ≡ Some (length before + i)
named_behind before [] i each lt = absurd (omega (arith, lt))
named_behind before (node ∷ nodes) zero each lt =
    past before (node ∷ nodes) node.name 0 each.0.new
    ∙ ap (λ t. cond t (Some (0 + length before)) (node_from (1 + (0 + length before)) nodes node.name)) (same_text node.name node.name refl)
    ∙ ap (λ n. Some n) (let e : 0 + length before ≡ length before + 0 = omega arith in e)
named_behind before (node ∷ nodes) (suc i) each lt =
    let long = length-append before (node ∷ []) in
    ap (λ ns. node_named ns (node_at nodes i).name) (sym (append_assoc before (node ∷ []) nodes))
    ∙ named_behind (before ++ node ∷ []) nodes i each.1 (omega (arith, lt))
    ∙ ap (λ n. Some n) (let e : length (before ++ node ∷ []) + i ≡ length before + suc i = omega (arith, long) in e)

pub node_found : (nodes : List Node) (node : ℕ) → EachBehind IsNodeBehind [] nodes → node < length nodes → the_node nodes (name_of nodes node) ≡ Ok node
node_found nodes node each lt = ap (λ o. ok_or o UnknownNode) (named_behind [] nodes node each lt ∙ ap (λ n. Some n) (let e : 0 + node ≡ node = omega arith in e))

pub is_small : (n : ℕ) → is_any n ≡ true → n < 2 ^ 32
is_small n any = let le = leb-true n 4294967295 (and_parts (nat_le 0 n) (nat_le n 4294967295) any).1 in omega (arith, le)

-- a parameter that has such a property is found by its number
pub param_found : (P : Option ParamInfo → Bool) (nodes : List Node) (node id : ℕ) → P None ≡ false → P (info_in nodes node id) ≡ true → is_any id ≡ true
    → (param : ParamInfo) × (the_param nodes node (decimal id) ≡ Ok param) × (param.id ≡ id) × (P (Some param) ≡ true)
param_found P nodes node id none is any =
    let reads : the_param nodes node (decimal id) ≡ ok_or (info_in nodes node id) UnknownParam = ap (λ r. given r (λ i. ok_or (info_in nodes node i) UnknownParam)) (any_reads id (is_small id any)) in
    elim (info_in nodes node id) as (λ found. info_in nodes node id ≡ found → P found ≡ true → (param : ParamInfo) × (the_param nodes node (decimal id) ≡ Ok param) × (param.id ≡ id) × (P (Some param) ≡ true)) [
      | None ↦ λ e p. absurd (true≢false (sym p ∙ none))
      | Some param ↦ λ e p. (param, reads ∙ ap (λ o. ok_or o UnknownParam) e, found_id nodes node id param e, p)
    ] refl is

pub settable_found : (nodes : List Node) (node id : ℕ) → can_set nodes node id ≡ true → is_any id ≡ true → (param : ParamInfo) × (settable_param nodes node (decimal id) ≡ Ok param) × (param.id ≡ id)
settable_found nodes node id can any =
    let found = param_found is_settable nodes node id refl can any in
    (found.0, ap (λ r. given r (λ param. fault_if (is_read_only param) ReadOnlyParam (Ok param))) found.1 ∙ ap (λ t. fault_if t ReadOnlyParam (Ok found.0)) (not-true (is_read_only found.0) found.3), found.2)

pub automated_found : (nodes : List Node) (node id : ℕ) → has_automation nodes node id ≡ true → is_any id ≡ true → (param : ParamInfo) × (settable_param nodes node (decimal id) ≡ Ok param) × (param.id ≡ id) × (can_automate param ≡ true)
automated_found nodes node id can any =
    let found = param_found is_automated nodes node id refl can any in
    let both = and_parts (not (is_read_only found.0)) (can_automate found.0) found.3 in
    (found.0, ap (λ r. given r (λ param. fault_if (is_read_only param) ReadOnlyParam (Ok param))) found.1 ∙ ap (λ t. fault_if t ReadOnlyParam (Ok found.0)) (not-true (is_read_only found.0) both.0), found.2, both.1)
