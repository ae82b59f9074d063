-- What the rules on words leave.
use Rattle.std.proofs.Common.{◌≡◌, ◌∙◌, ℕ, suc, ◌+◌, ◌<◌, ◌≤◌, ◌^◌, Bool, true, false, cond, List, [], ◌∷◌, length, refl, ap, subst, arith, Ok, Some, None, Option, nat_lt, sym}
use Rattle.std.specs.Prelude.{All, nat_le, not, ◌&&◌, codes, ok_or}
use Rattle.std.specs.List.{find, list_all}
use Rattle.std.specs.Str.{bytes_eq}
use Rattle.std.proofs.lemmas.Bool.{ltb-true, le-leb, and_parts, and_from, not-false, ltb-false}
use Rattle.std.proofs.lemmas.List.Elements.{All-cons}
use Rattle.std.proofs.lemmas.Slice.Eq.{bytes_eq-Decides}
use Rattle.vh_text.specs.Numbers.{is_number, value_of, number_of, is_digit}
use Rattle.vh_params.specs.declared.class.ClassInfo.{ClassInfo}
use Rattle.vh_params.specs.declared.param.ParamInfo.{ParamInfo}
use Rattle.vh_params.specs.Nodes.{Node, info_in}
use Rattle.vh_params.specs.Short.{label_text}
use Rattle.vh_session.specs.declared.fault.SessionKind.TheVariants.{BadNumber, Missing, Extra, UnknownNode, UnknownClass, UnknownParam, ReadOnlyParam}
use Rattle.vh_session.specs.declared.wire.End.TheVariants.{In, Out, Node as AtNode}
use Rattle.vh_session.specs.Rules.{arity, any_number, number_that, numbers_that, node_from, the_node, class_named, the_class, the_param, settable_param, is_read_only, first_end, last_end}
use Rattle.vh_text.specs.Chains.{given, fault_if}
use Rattle.vh_session.specs.Lines.{is_any}
use Rattle.vh_session.specs.Keeps.{Begins, Ends}
use Rattle.vh_session.proofs.Params.{found_again, found_id}
use Rattle.vh_text.proofs.Gives.{Gives, gives_ok, gives_err, gives_given, gives_fault_if, gives_if}

-- the value that an option has
some_value : {A : Type 0} (a b : A) → Some a ≡ Some b → a ≡ b
some_value {A = A} a b is = ap (λ o. elim o as (λ _. A) [ None ↦ a | Some c ↦ c ]) is

pub gives_some : {A K : Type 0} (Holds : A → Type 0) (option : Option A) (kind : K) → ((a : A) → option ≡ Some a → Holds a) → Gives Holds (ok_or option kind)
gives_some Holds None kind holds = gives_err Holds kind
gives_some Holds (Some a) kind holds = gives_ok Holds a (holds a refl)

pub any_given : (text : List ℕ) → Gives (λ n. is_any n ≡ true) (any_number text)
any_given text = gives_some (λ n. is_any n ≡ true) (number_of text) BadNumber (λ n is. below n is)
  where
    below : (n : ℕ) → number_of text ≡ Some n → is_any n ≡ true
    below n is = elim (is_number text) as (λ t. is_number text ≡ t → cond t (Some (value_of text)) None ≡ Some n → is_any n ≡ true) [
      | true ↦ λ test found.
          let small = (and_parts (list_all is_digit text) (nat_lt (value_of text) (2 ^ 32)) (and_parts (nat_le 1 (length text) && nat_le (length text) 10) (list_all is_digit text && nat_lt (value_of text) (2 ^ 32)) test).1).1 in
          let lt = ltb-true (value_of text) (2 ^ 32) small in
          let same = some_value (value_of text) n found in
          and_from (nat_le 0 n) (nat_le n 4294967295) (le-leb 0 n (omega arith)) (le-leb n 4294967295 (omega (arith, lt, same)))
      | false ↦ λ test found. absurd (subst (λ o. elim o as (λ _. Type 0) [ None ↦ Unit {0} | Some m ↦ ⊥ ]) found tt)
    ] refl is

pub that_given : (passes : ℕ → Bool) (text : List ℕ) → Gives (λ n. passes n ≡ true) (number_that passes text)
that_given passes text =
    let P : ℕ → Type 0 = λ n. passes n ≡ true in
    gives_given P (any_number text) (λ n. fault_if (not (passes n)) BadNumber (Ok n)) (λ n is. gives_fault_if P (not (passes n)) BadNumber (Ok n) (λ test. gives_ok P n (not-false (passes n) test)))

pub numbers_given : (passes : ℕ → Bool) (texts : List (List ℕ)) → Gives (λ ns. (length ns ≡ length texts) × All (λ n. passes n ≡ true) ns) (numbers_that passes texts)
numbers_given passes [] = gives_ok (λ ns. (length ns ≡ 0) × All (λ n. passes n ≡ true) ns) [] (refl, λ k d lt. absurd (omega (arith, lt)))
numbers_given passes (text ∷ texts) =
    let P : ℕ → Type 0 = λ n. passes n ≡ true in
    let Q : List ℕ → Type 0 = λ ns. (length ns ≡ suc (length texts)) × All P ns in
    gives_given Q (number_that passes text) (λ n. given (numbers_that passes texts) (λ ns. Ok (n ∷ ns))) (λ n is. gives_given Q (numbers_that passes texts) (λ ns. Ok (n ∷ ns)) (λ ns are.
    let rest = numbers_given passes texts ns are in
    gives_ok Q (n ∷ ns) (ap suc rest.0, All-cons P n ns (that_given passes text n is) rest.1)))

node_below : (nodes : List Node) (name : List ℕ) (at n : ℕ) → node_from at nodes name ≡ Some n → n < at + length nodes
node_below [] name at n is = absurd (subst (λ o. elim o as (λ _. Type 0) [ None ↦ Unit {0} | Some m ↦ ⊥ ]) is tt)
node_below (node ∷ nodes) name at n is = elim (bytes_eq node.name name) as (λ t. cond t (Some at) (node_from (1 + at) nodes name) ≡ Some n → n < at + suc (length nodes)) [
  | true ↦ λ found. let same = some_value at n found in omega (arith, same)
  | false ↦ λ found. let rest = node_below nodes name (1 + at) n found in omega (arith, rest)
] is

pub node_given : (nodes : List Node) (name : List ℕ) → Gives (λ node. node < length nodes) (the_node nodes name)
node_given nodes name = gives_some (λ node. node < length nodes) (node_from 0 nodes name) UnknownNode (λ node is. let b = node_below nodes name 0 node is in omega (arith, b))

pub param_given : (nodes : List Node) (node : ℕ) (text : List ℕ) → Gives (λ param. (info_in nodes node param.id ≡ Some param) × (is_read_only param ≡ false) × (is_any param.id ≡ true)) (settable_param nodes node text)
param_given nodes node text =
    let P : ParamInfo → Type 0 = λ param. (info_in nodes node param.id ≡ Some param) × (is_any param.id ≡ true) in
    let Q : ParamInfo → Type 0 = λ param. (info_in nodes node param.id ≡ Some param) × (is_read_only param ≡ false) × (is_any param.id ≡ true) in
    let there : Gives P (the_param nodes node text) = gives_given P (any_number text) (λ id. ok_or (info_in nodes node id) UnknownParam) (λ id is. gives_some P (info_in nodes node id) UnknownParam (λ param found. (found_again nodes node id param found, subst (λ i. is_any i ≡ true) (sym (found_id nodes node id param found)) (any_given text id is)))) in
    gives_given Q (the_param nodes node text) (λ param. fault_if (is_read_only param) ReadOnlyParam (Ok param)) (λ param is. gives_fault_if Q (is_read_only param) ReadOnlyParam (Ok param) (λ test. gives_ok Q param ((there param is).0, test, (there param is).1)))

pub found_holds : {A : Type 0} (p : A → Bool) (xs : List A) (x : A) → find p xs ≡ Some x → p x ≡ true
found_holds p [] x is = absurd (subst (λ o. elim o as (λ _. Type 0) [ None ↦ Unit {0} | Some m ↦ ⊥ ]) is tt)
found_holds p (y ∷ ys) x is = elim (p y) as (λ t. p y ≡ t → cond t (Some y) (find p ys) ≡ Some x → p x ≡ true) [
  | true ↦ λ test found. subst (λ z. p z ≡ true) (some_value y x found) test
  | false ↦ λ test found. found_holds p ys x found
] refl is

pub class_given : (known : List ClassInfo) (name : List ℕ) → Gives (λ class. (class_named known (label_text class.name) ≡ Some class) × (label_text class.name ≡ name)) (the_class known name)
class_given known name = gives_some (λ class. (class_named known (label_text class.name) ≡ Some class) × (label_text class.name ≡ name)) (class_named known name) UnknownClass (λ class found.
    let same : label_text class.name ≡ name = (bytes_eq-Decides (label_text class.name) name).0 (found_holds (λ class. bytes_eq (label_text class.name) name) known class found) in
    (ap (λ n. class_named known n) same ∙ found, same))

pub count_given : (least most count : ℕ) → Gives (λ fits. (least ≤ count) × (count ≤ most)) (arity least most count)
count_given least most count =
    let P : Unit {0} → Type 0 = λ fits. (least ≤ count) × (count ≤ most) in
    gives_fault_if P (nat_lt count least) Missing (fault_if (nat_lt most count) Extra (Ok tt)) (λ low. gives_fault_if P (nat_lt most count) Extra (Ok tt) (λ high. gives_ok P tt (ltb-false count least low, ltb-false most count high)))

pub first_given : (nodes : List Node) (text : List ℕ) → Gives (Begins (length nodes)) (first_end nodes text)
first_given nodes text = let B = Begins (length nodes) in
    gives_if B (bytes_eq text (codes "in")) (Ok In) (given (the_node nodes text) (λ node. Ok (AtNode node))) (gives_ok B In tt)
    (gives_given B (the_node nodes text) (λ node. Ok (AtNode node)) (λ node is. gives_ok B (AtNode node) (node_given nodes text node is)))

-- where a wire ends, which is a node where it has an aux bus
pub last_given : (nodes : List Node) (text : List ℕ) → Gives (Ends (length nodes) false) (last_end nodes text)
last_given nodes text = let B = Ends (length nodes) false in
    gives_if B (bytes_eq text (codes "out")) (Ok Out) (given (the_node nodes text) (λ node. Ok (AtNode node))) (gives_ok B Out refl)
    (gives_given B (the_node nodes text) (λ node. Ok (AtNode node)) (λ node is. gives_ok B (AtNode node) (node_given nodes text node is)))
