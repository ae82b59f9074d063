-- Processors, node by node.
use Rattle.std.proofs.Common.{◌≡◌, ◌∙◌, ℕ, ◌<◌, ◌≤◌, Bool, List, [], ◌∷◌, ◌++◌, length, map, take, drop, get_or, Option, Some, refl, sym, ap, subst, inl, inr, arith}
use Rattle.std.specs.Prelude.{◌≢◌, ◌&&◌, ◌||◌, IfSome}
use Rattle.std.proofs.Math.Nat.{eq-or-lt_of_le}
use Rattle.std.proofs.Math.ListN.{get_or-append}
use Rattle.std.proofs.lemmas.List.{length-map, length-append, get_or-map, get_or_push}
use Rattle.vh_component.specs.declared.setup.Phase.{Phase}
use Rattle.vh_component.specs.declared.setup.Setup.{Setup}
use Rattle.vh_params.specs.declared.class.ClassInfo.{ClassInfo}
use Rattle.vh_params.specs.Nodes.{Node, node_at}
use Rattle.vh_params.specs.Short.{label_text}
use Rattle.vh_plugin.specs.Class.{Class, State, param_of}
use Rattle.vh_session.specs.declared.wire.End.{End}
use Rattle.vh_session.specs.declared.wire.End.TheVariants.{In, Out, Node as AtNode}
use Rattle.vh_session.specs.declared.wire.Wire.{Wire}
use Rattle.vh_session.specs.Content.{Content}
use Rattle.vh_meaning.specs.Mix.{is_at}
use Rattle.vh_legal.specs.Values.{AreFirsts, param_count}
use Rattle.vh_instance.specs.Band.{is_node, has_side}
use Rattle.vh_instance.specs.Plan.{Plan, class_number, code_at}
use Rattle.vh_instance.proofs.Classes.{number_found, code_chosen}
use Rattle.vh_engine.proofs.Firsts.{HaveParams, firsts_of_node}
use Rattle.vh_core.specs.Machine.{AreReady}
use Rattle.vh_core.specs.Playing.{has_aux}
use Rattle.machine_tests.specs.Ready.{IsReadyAt}

-- the first values of a node, among those of all
abbrev pub firsts_in : List Node → List ℕ → ℕ → List ℕ
firsts_in nodes firsts node = take (length (node_at nodes node).params) (drop (param_count (take node nodes)) firsts)

-- each is ready to play its node
abbrev pub AreReadyTo : {P : Type 0} → (ℕ → Class) → (P → ℕ) → (P → State) → (P → List ℕ) → (P → Phase) → (P → Setup) → Content → List ℕ → List P → Type 0
AreReadyTo {P} class_of code state values phase setup session firsts processors = (node : ℕ) (d : P) → node < length processors
    → IsReadyAt class_of code state values phase setup session node (firsts_in session.nodes firsts node) (get_or processors node d)

module _ {P : Type 0} (class_of : ℕ → Class) (code : P → ℕ) (state : P → State) (values : P → List ℕ) (phase : P → Phase) (setup : P → Setup) (session : Content) (firsts : List ℕ) (processors : List P) where
  abbrev Ready : List P → Type 0
  Ready = AreReadyTo class_of code state values phase setup session firsts

  pub ready_more : (processor : P) → Ready processors → IsReadyAt class_of code state values phase setup session (length processors) (firsts_in session.nodes firsts (length processors)) processor → Ready (processors ++ processor ∷ [])
  ready_more processor ready is = λ node d lt.
      let long = length-append processors (processor ∷ []) in
      let most : node ≤ length processors = omega (arith, lt, long) in
      elim (eq-or-lt_of_le most) [
        | inr less ↦ subst (λ (p : P). IsReadyAt class_of code state values phase setup session node (firsts_in session.nodes firsts node) p) (sym (get_or-append processors (processor ∷ []) d node less)) (ready node d less)
        | inl is_last ↦
            let same : length processors ≡ node = sym is_last in
            subst (λ (p : P). IsReadyAt class_of code state values phase setup session node (firsts_in session.nodes firsts node) p) (sym (get_or_push processors processor d node same))
            (subst (λ (n : ℕ). IsReadyAt class_of code state values phase setup session n (firsts_in session.nodes firsts n) processor) same is)
      ]

  module _ (long : length processors ≡ length session.nodes) (flat : AreFirsts session.nodes firsts) (ready : Ready processors) where
    code_is : (node : ℕ) (d : P) → node < length processors → get_or (map code processors) node 0 ≡ code (get_or processors node d)
    code_is node d lt = get_or-map code processors node d 0 lt

    have_params : P → HaveParams class_of (map code processors) session.nodes
    have_params d node lt =
        let within : node < length processors = let same = length-map processors code in omega (arith, lt, same) in
        ap (λ (c : ℕ). length (class_of c).params) (code_is node d within) ∙ ap length (ready node d within).player.params_are ∙ length-map (node_at session.nodes node).params param_of

    pub are_ready : AreReady class_of code state values phase setup session firsts processors
    are_ready = record {
      players = record { long = long; each = λ node d lt. (ready node d lt).player };
      firsts_are = flat;
      starts = λ node d lt. (ready node d lt).starts ∙ ap (λ (c : ℕ). (class_of c).start) (sym (code_is node d lt));
      first = λ node d lt.
          let within : node < length (map code processors) = let same = length-map processors code in omega (arith, lt, same) in
          (ready node d lt).first ∙ sym (firsts_of_node class_of (map code processors) session.nodes firsts node (have_params d) (length-map processors code ∙ long) within);
    }

-- an aux wire that reaches a node
same_end : (to : End) (node : ℕ) → is_at to (AtNode node) ≡ is_node node to
same_end In node = refl
same_end Out node = refl
same_end (AtNode number) node = refl

pub same_side : (wires : List Wire) (node : ℕ) → has_aux wires node ≡ has_side wires node
same_side [] node = refl
same_side (wire ∷ wires) node =
    ap (λ (b : Bool). (b && wire.aux) || has_aux wires node) (same_end wire.to node)
    ∙ ap (λ (b : Bool). (is_node node wire.to && wire.aux) || b) (same_side wires node)

-- the code of the class that is found by the name of a node's class
pub found_code : (plan : Plan) (node : ℕ) (infos : List ClassInfo) (text : List ℕ) (found : Option ℕ) (class : ℕ) → infos ≡ plan.infos → text ≡ (node_at plan.content.nodes node).class_name → found ≡ Some class
    → IfSome found (λ class. (class < length infos) × ((d : ClassInfo) → label_text (get_or infos class d).name ≡ text))
    → IfSome found (λ class. (before : ℕ) (d : ClassInfo) → before < class → label_text (get_or infos before d).name ≢ text) → plan.code class ≡ code_at plan node
found_code plan node infos text found class same named is some first =
    code_chosen plan node infos class same (number_found infos text found class is some first ∙ ap (λ (t : List ℕ). class_number infos t) named)
