-- Processors, of which one went on.
use Rattle.std.proofs.Common.{◌≡◌, ◌≢◌, ◌∙◌, ℕ, ◌<◌, ◌≤◌, ◌==◌, true, false, List, [], length, map, get_or, set, refl, sym, ap, subst, arith}
use Rattle.std.proofs.Math.Seq.{map-set_same}
use Rattle.std.proofs.lemmas.Bool.{eqb-true, eq-eqb, true≢false}
use Rattle.std.proofs.lemmas.List.{length-map, length-set, get_or-map, get_or-set_same, get_or-set_other, ext_get_or}
use Rattle.vh_component.specs.declared.setup.Phase.{Phase}
use Rattle.vh_component.specs.declared.setup.Setup.{Setup}
use Rattle.vh_params.specs.Nodes.{Node, no_node}
use Rattle.vh_plugin.specs.Class.{Class, Param, State, param_of}
use Rattle.vh_session.specs.Content.{Content}
use Rattle.vh_meaning.specs.Scene.{class_at}
use Rattle.vh_legal.specs.Laws.{AreClassesOf}
use Rattle.vh_core.specs.State.{scene_in}
use Rattle.vh_core.specs.Run.{setting_of}
use Rattle.vh_core.specs.Playing.{ArePlayers, AreAlike, HaveStates, setting_by}
use Rattle.vh_core.proofs.Lists.{some_of}

-- alike

pub alike_same : {P : Type 0} (code : P → ℕ) (phase : P → Phase) (setup : P → Setup) (processors : List P) → AreAlike code phase setup processors processors
alike_same code phase setup processors = record { codes = refl; phases = refl; setups = refl }

pub alike_more : {P : Type 0} (code : P → ℕ) (phase : P → Phase) (setup : P → Setup) (old mid new : List P) → AreAlike code phase setup old mid → AreAlike code phase setup mid new → AreAlike code phase setup old new
alike_more code phase setup old mid new one other = record { codes = other.codes ∙ one.codes; phases = other.phases ∙ one.phases; setups = other.setups ∙ one.setups }

-- one went on
pub alike_set : {P : Type 0} (code : P → ℕ) (phase : P → Phase) (setup : P → Setup) (processors : List P) (node : ℕ) (old new : P) → old ≡ get_or processors node old
    → code new ≡ code old → phase new ≡ phase old → setup new ≡ setup old → AreAlike code phase setup processors (set processors node new)
alike_set code phase setup processors node old new is codes phases setups = record {
  codes = map-set_same code processors node new old (codes ∙ ap code is);
  phases = map-set_same phase processors node new old (phases ∙ ap phase is);
  setups = map-set_same setup processors node new old (setups ∙ ap setup is);
}

pub alike_long : {P : Type 0} (code : P → ℕ) (phase : P → Phase) (setup : P → Setup) (old new : List P) → AreAlike code phase setup old new → length new ≡ length old
alike_long code phase setup old new alike = sym (length-map new code) ∙ ap length alike.codes ∙ length-map old code

pub same_at : {P A : Type 0} (f : P → A) (old new : List P) (node : ℕ) (d : P) → map f new ≡ map f old → length new ≡ length old → node < length new → f (get_or new node d) ≡ f (get_or old node d)
same_at f old new node d same long lt = sym (get_or-map f new node d (f d) lt) ∙ ap (λ l. get_or l node (f d)) same ∙ get_or-map f old node d (f d) (omega (arith, long, lt))

-- the players of a session stay so
pub players_on : {P : Type 0} (class_of : ℕ → Class) (code : P → ℕ) (phase : P → Phase) (setup : P → Setup) (session : Content) (old new : List P)
    → ArePlayers class_of code phase setup session old → AreAlike code phase setup old new → ArePlayers class_of code phase setup session new
players_on class_of code phase setup session old new players alike =
    let long = alike_long code phase setup old new alike in
    record {
      long = long ∙ players.long;
      each = λ node d lt.
          let before = players.each node d (omega (arith, long, lt)) in
          let codes = same_at code old new node d alike.codes long lt in
          let phases = same_at phase old new node d alike.phases long lt in
          let setups = same_at setup old new node d alike.setups long lt in
          record {
            params_are = ap (λ c. (class_of c).params) codes ∙ before.params_are;
            plays = phases ∙ before.plays;
            channels_are = ap (λ (s : Setup). s.channels) setups ∙ before.channels_are;
            some = subst (λ (s : Setup). 1 ≤ s.max) (sym setups) before.some;
            bus = λ is. ap (λ c. (class_of c).aux) codes ∙ before.bus is;
          };
    }

-- and mean the same
pub setting_on : {P : Type 0} (class_of : ℕ → Class) (code : P → ℕ) (phase : P → Phase) (setup : P → Setup) (session : Content) (firsts : List ℕ) (old new : List P)
    → AreAlike code phase setup old new → setting_by class_of code session firsts new ≡ setting_by class_of code session firsts old
setting_on class_of code phase setup session firsts old new alike = ap (λ codes. setting_of class_of session codes firsts) alike.codes

-- the class of a node is its processor's
pub class_is : {P : Type 0} (class_of : ℕ → Class) (code : P → ℕ) (session : Content) (firsts : List ℕ) (processors : List P) (node : ℕ) (d : P) → node < length processors
    → class_at (scene_in (setting_by class_of code session firsts processors)) node ≡ class_of (code (get_or processors node d))
class_is class_of code session firsts processors node d lt = ap class_of (get_or-map code processors node d 0 lt)

-- players are of the classes of a session's nodes
pub classes_are : {P : Type 0} (class_of : ℕ → Class) (code : P → ℕ) (phase : P → Phase) (setup : P → Setup) (session : Content) (processors : List P)
    → ArePlayers class_of code phase setup session processors → AreClassesOf class_of (map code processors) session
classes_are class_of code phase setup session processors players =
    let params_by : ℕ → List Param = λ c. (class_of c).params in
    let params_in : Node → List Param = λ node. map param_of node.params in
    let codes = map code processors in
    let one = length-map processors code in
    let two = length-map codes params_by in
    let three = length-map session.nodes params_in in
    let long = players.long in
    ext_get_or [] (map params_by codes) (map params_in session.nodes) (omega (arith, one, two, three, long)) (λ i lt.
    let within : i < length processors = omega (arith, one, two, lt) in
    let d = some_of processors i within in
    get_or-map params_by codes i 0 [] (omega (arith, one, within))
    ∙ ap params_by (get_or-map code processors i d 0 within)
    ∙ (players.each i d within).params_are
    ∙ sym (get_or-map params_in session.nodes i no_node [] (omega (arith, within, long))))

-- states

-- one node went on to another state
pub states_set : {P : Type 0} (state : P → State) (processors : List P) (node : ℕ) (new : P) (states after : ℕ → State) → HaveStates state processors states
    → state new ≡ after node → ((other : ℕ) → other ≢ node → after other ≡ states other) → HaveStates state (set processors node new) after
states_set state processors node new states after have is others = λ k d lt.
    let long = length-set processors node new in
    let within : k < length processors = omega (arith, long, lt) in
    elim (k == node) as (λ t. (k == node) ≡ t → state (get_or (set processors node new) k d) ≡ after k) [
      | true ↦ λ same.
          let at : k ≡ node = eqb-true k node same in
          ap (λ n. state (get_or (set processors node new) n d)) at ∙ ap state (get_or-set_same processors node new d (subst (λ n. n < length processors) at within)) ∙ is ∙ ap after (sym at)
      | false ↦ λ other.
          let apart : k ≢ node = λ same. true≢false (sym (eq-eqb k node same) ∙ other) in
          ap state (get_or-set_other processors node k new d apart) ∙ have k d within ∙ sym (others k apart)
    ] refl

-- they are in these states, which are the same at each node
pub states_same : {P : Type 0} (state : P → State) (processors : List P) (one other : ℕ → State) → ((node : ℕ) → node < length processors → one node ≡ other node) → HaveStates state processors one → HaveStates state processors other
states_same state processors one other same have = λ k d lt. have k d lt ∙ same k lt
