-- Nodes and their classes.
use Rattle.std.proofs.Common.{◌≡◌, ◌≢◌, ℕ, suc, ◌+◌, ◌<◌, Bool, true, false, not, cond, List, [], ◌∷◌, length, map, get_or, Option, Some, None, refl, sym, ap, subst, ◌∙◌, inl, inr, arith}
use Rattle.std.specs.Prelude.{All, IsSome, IfSome, IfNone}
use Rattle.std.specs.List.{find, position_or_len}
use Rattle.std.specs.Str.{bytes_eq}
use Rattle.std.proofs.lemmas.Bool.{false≢true, and_parts, or_cases, eqb-true, not-false, not_from_true, not_from_false}
use Rattle.std.proofs.lemmas.List.{get_or-map}
use Rattle.std.proofs.lemmas.List.Elements.{All-head, All-tail}
use Rattle.std.proofs.lemmas.List.Sums.{prefix_len_is, prefix_len_stops}
use Rattle.std.proofs.lemmas.Slice.Eq.{bytes_eq-Decides}
use Rattle.vh_params.specs.declared.class.ClassInfo.{ClassInfo}
use Rattle.vh_params.specs.declared.param.ParamInfo.{ParamInfo}
use Rattle.vh_params.specs.Nodes.{Node, no_node, node_at}
use Rattle.vh_params.specs.Short.{label_text}
use Rattle.vh_plugin.specs.Class.{Class, param_of}
use Rattle.vh_plugin.specs.Sets.{IsClassOf}
use Rattle.vh_session.specs.declared.wire.End.{End}
use Rattle.vh_session.specs.declared.wire.End.TheVariants.{In, Out, Node as AtNode}
use Rattle.vh_session.specs.declared.wire.Wire.{Wire}
use Rattle.vh_session.specs.Content.{Content}
use Rattle.vh_session.specs.Keeps.{HasClass, has_bus, buses_of, StandsUnder}
use Rattle.vh_session.specs.Lines.{has_aux}
use Rattle.vh_session.specs.Rules.{class_named}
use Rattle.vh_session.proofs.Named.{same_text, other_text}
use Rattle.vh_instance.specs.Plan.{Plan, class_number, class_at, code_at, component_at}
use Rattle.vh_instance.specs.Band.{is_node, is_side, has_side, Suits}

some_none : {A : Type 0} (x : A) → None ≢ Some x
some_none x e = cc

some_same : {A : Type 0} (x y : A) → Some x ≡ Some y → x ≡ y
some_same x y e = cc

-- what is found stands at the first place that passes
found_place : (p : ClassInfo → Bool) (infos : List ClassInfo) (class d : ClassInfo) → find p infos ≡ Some class → (position_or_len p infos < length infos) × (get_or infos (position_or_len p infos) d ≡ class)
found_place p [] class d e = absurd (some_none class e)
found_place p (x ∷ xs) class d e =
    elim (p x) as (λ t. cond t (Some x) (find p xs) ≡ Some class → (cond (not t) (1 + position_or_len p xs) 0 < length (x ∷ xs)) × (get_or (x ∷ xs) (cond (not t) (1 + position_or_len p xs) 0) d ≡ class)) [
      | true ↦ λ here. (omega arith, some_same x class here)
      | false ↦ λ there.
          let rest = found_place p xs class d there in
          let next : suc (position_or_len p xs) ≡ 1 + position_or_len p xs = omega arith in
          (omega (arith, rest.0), subst (λ (n : ℕ). get_or (x ∷ xs) n d ≡ class) next rest.1)
    ] e

-- the class of a node is there
class_there : (infos : List ClassInfo) (node : Node) (class d : ClassInfo) → HasClass infos node class → (class_number infos node.class_name < length infos) × (get_or infos (class_number infos node.class_name) d ≡ class)
class_there infos node class d has = found_place (λ class. bytes_eq (label_text class.name) node.class_name) infos class d has.0

module _ (infos : List ClassInfo) (content : Content) (stands : StandsUnder infos content) (node : ℕ) (lt : node < length content.nodes) where
  class_of_it : ClassInfo
  class_of_it = (stands.classes node no_node lt).0

  has_class : HasClass infos (node_at content.nodes node) class_of_it
  unfolding class_of_it
  has_class = (stands.classes node no_node lt).1

  pub number_within : class_number infos (node_at content.nodes node).class_name < length infos
  number_within = (class_there infos (node_at content.nodes node) class_of_it class_of_it has_class).0

  info_is : (d : ClassInfo) → get_or infos (class_number infos (node_at content.nodes node).class_name) d ≡ class_of_it
  info_is d = (class_there infos (node_at content.nodes node) class_of_it d has_class).1

-- a name that is found has the number at which it was found
number_is : (infos : List ClassInfo) (name : List ℕ) (class : ℕ) → class < length infos → ((d : ClassInfo) → label_text (get_or infos class d).name ≡ name) → ((before : ℕ) (d : ClassInfo) → before < class → label_text (get_or infos before d).name ≢ name) → class ≡ class_number infos name
number_is [] name class lt here before = absurd (omega (arith, lt))
number_is (x ∷ xs) name class lt here before =
    sym (prefix_len_is (λ (info : ClassInfo). not (bytes_eq (label_text info.name) name)) (x ∷ xs) class x (omega (arith, lt))
    (λ k l. not_from_false (bytes_eq (label_text (get_or (x ∷ xs) k x).name) name) (other_text (label_text (get_or (x ∷ xs) k x).name) name (before k x l)))
    (λ l. not_from_true (bytes_eq (label_text (get_or (x ∷ xs) class x).name) name) (same_text (label_text (get_or (x ∷ xs) class x).name) name (here x))))

named_there : (infos : List ClassInfo) (name : List ℕ) (d : ClassInfo) → class_number infos name < length infos → label_text (get_or infos (class_number infos name) d).name ≡ name
named_there infos name d lt =
    let text = label_text (get_or infos (class_number infos name) d).name in
    (bytes_eq-Decides text name).0 (not-false (bytes_eq text name) (prefix_len_stops (λ (info : ClassInfo). not (bytes_eq (label_text info.name) name)) infos d lt))

-- a class whose number is within is found
pub is_there : (infos : List ClassInfo) (name : List ℕ) (found : Option ℕ) → class_number infos name < length infos → IfNone found ((class : ℕ) (d : ClassInfo) → class < length infos → label_text (get_or infos class d).name ≢ name) → IsSome found
is_there infos name (Some k) lt none = refl
is_there [] name None lt none = absurd (omega (arith, lt))
is_there (x ∷ xs) name None lt none = absurd (none (class_number (x ∷ xs) name) x lt (named_there (x ∷ xs) name x lt))

pub number_found : (infos : List ClassInfo) (name : List ℕ) (found : Option ℕ) (class : ℕ) → found ≡ Some class → IfSome found (λ class. (class < length infos) × ((d : ClassInfo) → label_text (get_or infos class d).name ≡ name))
    → IfSome found (λ class. (before : ℕ) (d : ClassInfo) → before < class → label_text (get_or infos before d).name ≢ name) → class ≡ class_number infos name
number_found infos name None class is some first = absurd (some_none class is)
number_found infos name (Some k) class is some first = sym (some_same k class is) ∙ number_is infos name k some.0 some.1 first

-- the end of a wire that is a node
node_is : (buses : List Bool) (node : ℕ) (end : End) → has_aux buses end ≡ true → is_node node end ≡ true → get_or buses node false ≡ true
node_is buses node In has is = absurd (false≢true is)
node_is buses node Out has is = absurd (false≢true is)
node_is buses node (AtNode number) has is = subst (λ (n : ℕ). get_or buses n false ≡ true) (eqb-true number node is) has

side_bus : (buses : List Bool) (wires : List Wire) (node : ℕ) → All (λ wire. wire.aux ≡ true → has_aux buses wire.to ≡ true) wires → has_side wires node ≡ true → get_or buses node false ≡ true
side_bus buses [] node all has = absurd (false≢true has)
side_bus buses (wire ∷ wires) node all has =
    elim (or_cases (is_side node wire) (has_side wires node) has) [
      | inl here ↦
          let parts = and_parts (is_node node wire.to) wire.aux here in
          node_is buses node wire.to (All-head (λ (wire : Wire). wire.aux ≡ true → has_aux buses wire.to ≡ true) wire wires all parts.1) parts.0
      | inr there ↦ side_bus buses wires node (All-tail (λ (wire : Wire). wire.aux ≡ true → has_aux buses wire.to ≡ true) wire wires all) there
    ]

-- of a plan whose session stands under its classes each class suits its node
module _ (plan : Plan) (stands : StandsUnder plan.infos plan.content) (node : ℕ) (lt : node < length plan.content.nodes) where
  pub suits : ((class : ℕ) (d : ClassInfo) → class < length plan.infos → IsClassOf (plan.class_of (plan.code class)) (get_or plan.infos class d)) → Suits plan node
  suits laws =
      let info = class_of_it plan.infos plan.content stands node lt in
      let has = has_class plan.infos plan.content stands node lt in
      let number = class_number plan.infos (node_at plan.content.nodes node).class_name in
      let is : IsClassOf (class_at plan node) info = subst (λ (i : ClassInfo). IsClassOf (class_at plan node) i) (info_is plan.infos plan.content stands node lt info) (laws number info (number_within plan.infos plan.content stands node lt)) in
      let bus : get_or (buses_of plan.infos plan.content.nodes) node false ≡ info.aux = get_or-map (λ (node : Node). has_bus (class_named plan.infos node.class_name)) plan.content.nodes node no_node false lt ∙ ap (λ (o : Option ClassInfo). has_bus o) has.0 in
      record {
        params = is.params ∙ ap (λ (ps : List ParamInfo). map param_of ps) has.1;
        side = λ reached. is.aux ∙ sym bus ∙ side_bus (buses_of plan.infos plan.content.nodes) plan.content.wires node stands.buses reached;
      }

  -- and so do the parameters of a controller's class
  pub suits_too : (class_of : ℕ → Class) → ((class : ℕ) (d : ClassInfo) → class < length plan.infos → IsClassOf (class_of (plan.code class)) (get_or plan.infos class d)) → (class_of (code_at plan node)).params ≡ map param_of (node_at plan.content.nodes node).params
  suits_too class_of laws =
      let info = class_of_it plan.infos plan.content stands node lt in
      let has = has_class plan.infos plan.content stands node lt in
      let number = class_number plan.infos (node_at plan.content.nodes node).class_name in
      let is : IsClassOf (class_of (code_at plan node)) info = subst (λ (i : ClassInfo). IsClassOf (class_of (code_at plan node)) i) (info_is plan.infos plan.content stands node lt info) (laws number info (number_within plan.infos plan.content stands node lt)) in
      is.params ∙ ap (λ (ps : List ParamInfo). map param_of ps) has.1

  -- the aux bus of the class
  aux_is : ((class : ℕ) (d : ClassInfo) → class < length plan.infos → IsClassOf (plan.class_of (plan.code class)) (get_or plan.infos class d)) → (d : ClassInfo) → (get_or plan.infos (class_number plan.infos (node_at plan.content.nodes node).class_name) d).aux ≡ (class_at plan node).aux
  aux_is laws d = sym (laws (class_number plan.infos (node_at plan.content.nodes node).class_name) d (number_within plan.infos plan.content stands node lt)).aux

-- the code of the class that was found for a node
pub code_chosen : (plan : Plan) (node : ℕ) (classes : List ClassInfo) (class : ℕ) → classes ≡ plan.infos → class ≡ class_number classes (node_at plan.content.nodes node).class_name → plan.code class ≡ code_at plan node
code_chosen plan node classes class is number = ap plan.code (number ∙ ap (λ (infos : List ClassInfo). class_number infos (node_at plan.content.nodes node).class_name) is)

-- and its aux bus
module _ (plan : Plan) (stands : StandsUnder plan.infos plan.content) (node : ℕ) (lt : node < length plan.content.nodes) where
  pub aux_chosen : ((class : ℕ) (d : ClassInfo) → class < length plan.infos → IsClassOf (plan.class_of (plan.code class)) (get_or plan.infos class d)) → (classes others : List ClassInfo) (class : ℕ) (info : ClassInfo) → classes ≡ plan.infos → others ≡ plan.infos → class ≡ class_number classes (node_at plan.content.nodes node).class_name
      → ((d : ClassInfo) → info ≡ get_or others class d) → info.aux ≡ (class_at plan node).aux
  aux_chosen laws classes others class info same others_same number is =
      ap (λ (i : ClassInfo). i.aux) (is info) ∙ ap (λ (infos : List ClassInfo). (get_or infos class info).aux) others_same
      ∙ ap (λ (k : ℕ). (get_or plan.infos k info).aux) (number ∙ ap (λ (infos : List ClassInfo). class_number infos (node_at plan.content.nodes node).class_name) same)
      ∙ aux_is plan stands node lt laws info

  -- and the identifier of its components
  pub component_chosen : (classes others : List ClassInfo) (class : ℕ) (info : ClassInfo) → classes ≡ plan.infos → others ≡ plan.infos → class ≡ class_number classes (node_at plan.content.nodes node).class_name
      → ((d : ClassInfo) → info ≡ get_or others class d) → info.component.0 ≡ component_at plan node
  component_chosen classes others class info same others_same number is =
      ap (λ (i : ClassInfo). i.component.0) (is info) ∙ ap (λ (infos : List ClassInfo). (get_or infos class info).component.0) others_same
      ∙ ap (λ (k : ℕ). (get_or plan.infos k info).component.0) (number ∙ ap (λ (infos : List ClassInfo). class_number infos (node_at plan.content.nodes node).class_name) same)
      ∙ sym (get_or-map (λ (i : ClassInfo). i.component.0) plan.infos (class_number plan.infos (node_at plan.content.nodes node).class_name) info [] (number_within plan.infos plan.content stands node lt))
