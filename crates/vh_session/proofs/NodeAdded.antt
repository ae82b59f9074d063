-- What a node more keeps.
use Rattle.std.proofs.Common.{◌≡◌, ◌∙◌, ℕ, zero, suc, ◌+◌, ◌<◌, Bool, true, false, List, [], ◌∷◌, ◌++◌, length, get_or, refl, sym, ap, subst, arith, Some, None, Option, true≢false}
use Rattle.std.specs.Prelude.{IfSome}
use Rattle.std.proofs.lemmas.List.{length-append, map-append}
use Rattle.std.proofs.lemmas.List.Elements.{All-push}
use Rattle.vh_params.specs.declared.class.ClassInfo.{ClassInfo}
use Rattle.vh_params.specs.Names.{is_name}
use Rattle.vh_params.specs.Nodes.{Node, info_in}
use Rattle.vh_params.specs.Short.{label_text}
use Rattle.vh_session.specs.declared.wire.Wire.{Wire}
use Rattle.vh_session.specs.declared.wire.End.{End}
use Rattle.vh_session.specs.declared.wire.End.TheVariants.{In, Out, Node as AtNode}
use Rattle.vh_session.specs.Entry.{Draft, NodeLine, ScriptWord, BeginWord, PerformWord, EndWord, TellWord, HoldWord, DropWord, WaitWord, LaneText, with_entry, node_of_line}
use Rattle.vh_session.specs.Rules.{class_named, node_named}
use Rattle.vh_session.specs.Lines.{has_aux}
use Rattle.vh_session.specs.Keeps.{IsNodeBehind, IsFile, is_settable, can_set, is_automated, has_automation, Begins, Ends, IsWireBehind, IsLaneBehind, IsScriptWord, HasClass, buses_of, has_bus}
use Rattle.vh_text.specs.Tokens.{IsWord}
use Rattle.vh_session.proofs.Behind.{behind_more, behind_weaker}
use Rattle.vh_session.proofs.Legal.{IsLegal, NodeFirsts}
use Rattle.vh_session.proofs.Params.{info_more}

set_more : (nodes : List Node) (new : Node) (node id : ℕ) → can_set nodes node id ≡ true → can_set (nodes ++ new ∷ []) node id ≡ true
set_more nodes new node id can = elim (info_in nodes node id) as (λ found. info_in nodes node id ≡ found → is_settable found ≡ true → can_set (nodes ++ new ∷ []) node id ≡ true) [
  | None ↦ λ is can. absurd (true≢false (sym can))
  | Some param ↦ λ is can. ap is_settable (info_more nodes new node id param is) ∙ can
] refl can

automate_more : (nodes : List Node) (new : Node) (node id : ℕ) → has_automation nodes node id ≡ true → has_automation (nodes ++ new ∷ []) node id ≡ true
automate_more nodes new node id can = elim (info_in nodes node id) as (λ found. info_in nodes node id ≡ found → is_automated found ≡ true → has_automation (nodes ++ new ∷ []) node id ≡ true) [
  | None ↦ λ is can. absurd (true≢false (sym can))
  | Some param ↦ λ is can. ap is_automated (info_more nodes new node id param is) ∙ can
] refl can

begins_more : (count more : ℕ) (end : End) → count < more → Begins count end → Begins more end
begins_more count more In lt fit = fit
begins_more count more Out lt fit = fit
begins_more count more (AtNode node) lt fit = omega (arith, lt, fit)

ends_more : (count more : ℕ) (aux : Bool) (end : End) → count < more → Ends count aux end → Ends more aux end
ends_more count more aux In lt fit = fit
ends_more count more aux Out lt fit = fit
ends_more count more aux (AtNode node) lt fit = omega (arith, lt, fit)

wire_more : (count more : ℕ) → count < more → (before : List Wire) (wire : Wire) → IsWireBehind count before wire → IsWireBehind more before wire
wire_more count more lt before wire stands = record { from = begins_more count more wire.from lt stands.from; to = ends_more count more wire.aux wire.to lt stands.to; new = stands.new }

lane_more : (nodes : List Node) (new : Node) (before : List LaneText) (lane : LaneText) → IsLaneBehind nodes before lane → IsLaneBehind (nodes ++ new ∷ []) before lane
lane_more nodes new before lane stands = record { param = automate_more nodes new lane.node lane.id stands.param; id = stands.id; new = stands.new; grain = stands.grain; breaks = stands.breaks; samples = stands.samples }

word_more : (count more : ℕ) (word : ScriptWord) → count < more → IsScriptWord count word → IsScriptWord more word
word_more count more (BeginWord node id) lt fit = (let f = fit.0 in omega (arith, lt, f), fit.1)
word_more count more (PerformWord node id value) lt fit = (let f = fit.0 in omega (arith, lt, f), fit.1, fit.2)
word_more count more (EndWord node id) lt fit = (let f = fit.0 in omega (arith, lt, f), fit.1)
word_more count more (TellWord node numbers) lt fit = (let f = fit.0 in omega (arith, lt, f), fit.1)
word_more count more (HoldWord node) lt fit = omega (arith, lt, fit)
word_more count more (DropWord node) lt fit = omega (arith, lt, fit)
word_more count more (WaitWord block) lt fit = fit

bus_more : (aux : List Bool) (new : Bool) (node : ℕ) → get_or aux node false ≡ true → get_or (aux ++ new ∷ []) node false ≡ true
bus_more [] new node is = absurd (true≢false (sym is))
bus_more (b ∷ bs) new zero is = is
bus_more (b ∷ bs) new (suc node) is = bus_more bs new node is

aux_more : (aux : List Bool) (new : Bool) (end : End) → has_aux aux end ≡ true → has_aux (aux ++ new ∷ []) end ≡ true
aux_more aux new In is = is
aux_more aux new Out is = is
aux_more aux new (AtNode node) is = bus_more aux new node is

firsts_more : (firsts : List (List (ℕ × ℕ))) (node : ℕ) → get_or (firsts ++ [] ∷ []) node [] ≡ get_or firsts node []
firsts_more [] zero = refl
firsts_more [] (suc node) = refl
firsts_more (f ∷ fs) zero = refl
firsts_more (f ∷ fs) (suc node) = firsts_more fs node

pub node_added : (known : List ClassInfo) (draft : Draft) (line : ℕ) (name : List ℕ) (class : ClassInfo) → IsLegal known draft → length draft.nodes < 64 → is_name name ≡ true → node_named draft.nodes name ≡ None → IsWord (label_text class.name) → class_named known (label_text class.name) ≡ Some class → IsLegal known (with_entry line (NodeLine name class) draft)
node_added known draft line name class legal few named new word found =
    let node = node_of_line name class in
    let nodes = draft.nodes ++ node ∷ [] in
    let count = length draft.nodes in
    let long = length-append draft.nodes (node ∷ []) in
    let more : count < length nodes = omega (arith, long) in
    let stands : IsNodeBehind draft.nodes node = record { named = named; new = new; class = word; rising = class.params.rising } in
    let C : Node → Type 0 = λ node. (class : ClassInfo) × HasClass known node class in
    let P : Option (List ℕ) → Type 0 = λ preset. IfSome preset IsFile in
    let grows : IsLegal known (with_entry line (NodeLine name class) draft) = (
      legal.0,
      record {
        stand = (omega (arith, few, long), behind_more IsNodeBehind [] draft.nodes node legal.1.stand.1 stands);
        classed = All-push C draft.nodes node legal.1.classed (class, (found, refl, refl));
        buses = ap (λ aux. aux ++ class.aux ∷ []) legal.1.buses ∙ ap (λ o. buses_of known draft.nodes ++ has_bus o ∷ []) (sym found) ∙ sym (map-append (λ (n : Node). has_bus (class_named known n.class_name)) draft.nodes (node ∷ []));
      },
      record { as_many = many_of draft.presets None count nodes legal.2.as_many long; files = All-push P draft.presets None legal.2.files tt },
      record {
        as_many = many_of draft.firsts [] count nodes legal.3.as_many long;
        fit = λ n. subst (λ fs. NodeFirsts nodes n fs) (sym (firsts_more draft.firsts n)) (λ k d lt. (set_more draft.nodes node n (get_or (get_or draft.firsts n []) k d).0 (legal.3.fit n k d lt).0, (legal.3.fit n k d lt).1, (legal.3.fit n k d lt).2));
      },
      record {
        few = legal.4.few;
        stand = behind_weaker (IsWireBehind count) (IsWireBehind (length nodes)) [] draft.wires (wire_more count (length nodes) more) legal.4.stand;
        into_buses = λ k d lt is. aux_more draft.aux class.aux (get_or draft.wires k d).to (legal.4.into_buses k d lt is);
      },
      record { few = legal.5.few; stand = behind_weaker (IsLaneBehind draft.nodes) (IsLaneBehind nodes) [] draft.lanes (lane_more draft.nodes node) legal.5.stand },
      record {
        counted = legal.6.counted;
        stand = record {
          few = legal.6.stand.few;
          short = legal.6.stand.short;
          words = λ k d lt i e il. word_more count (length nodes) (get_or (get_or draft.scripts k d) i e) more (legal.6.stand.words k d lt i e il);
        };
      },
    ) in grows
  where
    many_of : {A : Type 0} (xs : List A) (x : A) (count : ℕ) (nodes : List Node) → length xs ≡ count → length nodes ≡ count + 1 → length (xs ++ x ∷ []) ≡ length nodes
    many_of xs x count nodes is long = let e = length-append xs (x ∷ []) in omega (arith, e, is, long)
