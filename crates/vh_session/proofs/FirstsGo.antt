-- First values that are written, one after the other.
use Rattle.std.proofs.Common.{◌≡◌, ◌∙◌, ℕ, ◌+◌, ◌<◌, ◌==◌, true, false, cond, List, [], ◌∷◌, ◌++◌, map, set, length, get_or, refl, sym, ap, arith, Some, None, Option, Ok, nat_lt, true≢false}
use Rattle.std.specs.Prelude.{codes}
use Rattle.std.specs.Fmt.{decimal}
use Rattle.std.specs.List.{list_any}
use Rattle.std.proofs.lemmas.Bool.{false_from_ne_true, or_from, eqb-true}
use Rattle.std.proofs.lemmas.List.{append_assoc, append-nil, length-set}
use Rattle.std.proofs.lemmas.List.Elements.{All-tail}
use Rattle.vh_params.specs.declared.class.ClassInfo.{ClassInfo}
use Rattle.vh_params.specs.declared.param.ParamInfo.{ParamInfo}
use Rattle.vh_params.specs.Nodes.{Node, node_at}
use Rattle.vh_params.specs.Params.{param_in, AreRising}
use Rattle.vh_session.specs.Content.{Content, firsts_from}
use Rattle.vh_session.specs.Entry.{Draft, ParamLine}
use Rattle.vh_session.specs.Lines.{one, line_of_words, param_line}
use Rattle.vh_session.specs.Text.{param_words, name_of}
use Rattle.vh_session.specs.Keeps.{EachBehind, IsNodeBehind, IsFirstBehind, is_settable, can_set, buses_of}
use Rattle.vh_session.proofs.Behind.{behind_all}
use Rattle.vh_session.proofs.FirstsBack.{Lower, Told, first_last, told_more, lower_told}
use Rattle.vh_session.proofs.Found.{node_found, settable_found, is_small}
use Rattle.vh_session.proofs.Goes.{Goes, with_lines, goes_none, goes_on_to, goes_line}
use Rattle.vh_session.proofs.NodesBack.{state}
use Rattle.vh_text.proofs.Numerals.{number_word}
use Rattle.vh_session.proofs.PartsNamed.{node_there}
use Rattle.vh_session.proofs.PresetsBack.{named_word}
use Rattle.vh_session.proofs.Says.{param_says, within_small}
use Rattle.vh_text.proofs.WordsOf.{code_word, no_words, one_more}

param_there : (nodes : List Node) (node id : ℕ) → can_set nodes node id ≡ true → (param : ParamInfo) × (param_in (node_at nodes node).params id ≡ Some param)
param_there nodes node id can = elim (nat_lt node (length nodes)) as (λ t. is_settable (cond t (param_in (node_at nodes node).params id) None) ≡ true → (param : ParamInfo) × (param_in (node_at nodes node).params id ≡ Some param)) [
  | true ↦ λ is. elim (param_in (node_at nodes node).params id) as (λ found. param_in (node_at nodes node).params id ≡ found → is_settable found ≡ true → (param : ParamInfo) × (param_in (node_at nodes node).params id ≡ Some param)) [
    | None ↦ λ e p. absurd (true≢false (sym p))
    | Some param ↦ λ e p. (param, e)
  ] refl is
  | false ↦ λ is. absurd (true≢false (sym is))
] can

none_any : (firsts : List (ℕ × ℕ)) (id : ℕ) → Lower id firsts → list_any (λ first. first.0 == id) firsts ≡ false
none_any [] id lower = refl
none_any (first ∷ firsts) id lower =
    let lt = lower 0 first (omega arith) in
    or_from (first.0 == id) (list_any (λ first. first.0 == id) firsts) (false_from_ne_true (first.0 == id) (λ test. let e = eqb-true first.0 id test in omega (arith, e, lt))) (none_any firsts id (All-tail (λ first. first.0 < id) first firsts lower))

abbrev pub firsts_state : List ClassInfo → Content → List (Option (List ℕ)) → List (List (ℕ × ℕ)) → Draft
firsts_state known content presets firsts = state content content.nodes (buses_of known content.nodes) presets firsts [] [] false [] 0

pub record AreSet (known : List ClassInfo) (content : Content) (presets : List (Option (List ℕ))) (before : List (List (ℕ × ℕ))) (firsts : List (ℕ × ℕ × ℕ)) : Type 0 where
  pub after : List (List (ℕ × ℕ))
  pub goes : Goes known (map (param_words content.nodes) firsts) (firsts_state known content presets before) (firsts_state known content presets after)
  pub lists : firsts_from 0 content.nodes after ≡ firsts_from 0 content.nodes before ++ firsts

pub firsts_go : (known : List ClassInfo) (content : Content) (presets : List (Option (List ℕ))) (before : List (List (ℕ × ℕ))) (done firsts : List (ℕ × ℕ × ℕ)) → EachBehind IsNodeBehind [] content.nodes → length before ≡ length content.nodes → Told before done → EachBehind (IsFirstBehind content.nodes) done firsts → AreSet known content presets before firsts
firsts_go known content presets before done [] named many told each = record { after = before; goes = goes_none known (firsts_state known content presets before); lists = sym (append-nil (firsts_from 0 content.nodes before)) }
firsts_go known content presets before done (first ∷ firsts) named many told each =
    let nodes = content.nodes in
    let node = first.0 in
    let id = first.1 in
    let value = first.2 in
    let stands = each.0 in
    let lt : node < length nodes = node_there is_settable nodes node id refl stands.settable in
    let small = is_small id stands.id in
    let after = set before node (get_or before node [] ++ (id, value) ∷ []) in
    let bounds = lower_told before done node id value told stands.rising in
    let param = settable_found nodes node id stands.settable stands.id in
    let there = param_there nodes node id stands.settable in
    let words = one_more (codes "param") (name_of nodes node ∷ decimal id ∷ decimal value ∷ []) (code_word (codes "param") refl) (one_more (name_of nodes node) (decimal id ∷ decimal value ∷ []) (named_word nodes node named lt) (one_more (decimal id) (decimal value ∷ []) (number_word id small) (one_more (decimal value) [] (number_word value (within_small 0 one value (omega arith) stands.value)) no_words))) in
    let says : (stand : List ℕ) → line_of_words known (with_lines stand (firsts_state known content presets before)) (param_words nodes first) ≡ Ok (ParamLine node id value) = λ stand.
    (param_says (with_lines stand (firsts_state known content presets before)) (name_of nodes node) node id value param.0 (node_found nodes node named lt) param.1 param.2 stands.value (none_any (get_or before node []) id bounds.0)) in
    let line = goes_line known (param_words nodes first) (firsts_state known content presets before) (ParamLine node id value) words refl says in
    let rest = firsts_go known content presets after (done ++ first ∷ []) firsts named (length-set before node (get_or before node [] ++ (id, value) ∷ []) ∙ many) (told_more before done node id value told) each.1 in
    let rising = behind_all IsNodeBehind (λ n. AreRising n.params) [] nodes (λ bs n s. s.rising) named in
    record {
      after = rest.after;
      goes = goes_on_to known (param_words nodes first ∷ []) (map (param_words nodes) firsts) (firsts_state known content presets before) (firsts_state known content presets after) (firsts_state known content presets rest.after) line rest.goes;
      lists = rest.lists ∙ ap (λ fs. fs ++ firsts) (first_last 0 nodes before node id value there.0 lt many rising bounds.0 bounds.1 there.1 ∙ ap (λ n. firsts_from 0 nodes before ++ (n, id, value) ∷ []) (let e : 0 + node ≡ node = omega arith in e)) ∙ append_assoc (firsts_from 0 nodes before) (first ∷ []) firsts;
    }
