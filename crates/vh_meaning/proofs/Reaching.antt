-- What reaches a node hangs on the frames of its sources alone.
use Rattle.std.proofs.Common.{◌≡◌, ◌∙◌, ℕ, suc, ◌<◌, Bool, true, false, cond, List, [], ◌∷◌, length, map, Option, Some, None, refl, sym, ap, subst, arith, true≢false}
use Rattle.std.specs.Prelude.{Contains, filter, ◌==◌}
use Rattle.std.specs.List.{cons_option}
use Rattle.std.proofs.lemmas.Bool.{eqb-true, eq-eqb, and_parts}
use Rattle.vh_graph.specs.Paths.{sources_of}
use Rattle.vh_num.specs.Frames.{Frame}
use Rattle.vh_plugin.specs.Class.{State}
use Rattle.vh_session.specs.Content.{ends, node_wires}
use Rattle.vh_session.specs.declared.wire.End.{End}
use Rattle.vh_session.specs.declared.wire.End.TheVariants.{In, Out, Node as AtNode}
use Rattle.vh_session.specs.declared.wire.Wire.{Wire}
use Rattle.vh_meaning.specs.Scene.{Scene, class_at}
use Rattle.vh_meaning.specs.Mix.{is_at, reaches, brought, arriving, mix, mix_of_some}
use Rattle.vh_meaning.specs.Frames.{given, stepped}

-- a node's sources give the same frames
abbrev pub AreAlike : List Wire → ℕ → (ℕ → Frame) → (ℕ → Frame) → Type 0
AreAlike wires node frames others = (source : ℕ) → Contains (sources_of (node_wires wires) node) source → frames source ≡ others source

at_node : (to : End) (node : ℕ) → is_at to (AtNode node) ≡ true → to ≡ AtNode node
at_node In node is = absurd (true≢false (sym is))
at_node Out node is = absurd (true≢false (sym is))
at_node (AtNode other) node is = ap (λ (n : ℕ). AtNode n) (eqb-true other node is)

pub brought_alike : (input : Frame) (frames others : ℕ → Frame) (from : End) → ((source : ℕ) → from ≡ AtNode source → frames source ≡ others source) → brought input frames from ≡ brought input others from
brought_alike input frames others In alike = refl
brought_alike input frames others Out alike = refl
brought_alike input frames others (AtNode node) alike = alike node refl

-- the first of these wires leads from the source to the node
first_source : (from to : End) (wires : List (ℕ × ℕ)) (node source : ℕ) → from ≡ AtNode source → to ≡ AtNode node → Contains (sources_of (cons_option (ends from to) wires) node) source
first_source from to wires node source is_from is_to =
    subst (λ (f : End). Contains (sources_of (cons_option (ends f to) wires) node) source) (sym is_from)
    (subst (λ (t : End). Contains (sources_of (cons_option (ends (AtNode source) t) wires) node) source) (sym is_to)
    (subst (λ (b : Bool). Contains (map (λ (wire : ℕ × ℕ). wire.0) (cond b ((source, node) ∷ filter (λ (wire : ℕ × ℕ). wire.1 == node) wires) (filter (λ (wire : ℕ × ℕ). wire.1 == node) wires))) source)
    (sym (eq-eqb node node refl)) (0, omega arith, refl)))

further : (x : ℕ) (xs : List ℕ) (source : ℕ) → Contains xs source → Contains (x ∷ xs) source
further x xs source is = (suc is.0, (let lt = is.1 in let more : suc is.0 < suc (length xs) = omega (arith, lt) in more), is.2)

-- and one of the others
later_source : (wire : Option (ℕ × ℕ)) (wires : List (ℕ × ℕ)) (node source : ℕ) → Contains (sources_of wires node) source → Contains (sources_of (cons_option wire wires) node) source
later_source None wires node source is = is
later_source (Some wire) wires node source is = elim (wire.1 == node) as (λ b. Contains (map (λ (w : ℕ × ℕ). w.0) (cond b (wire ∷ filter (λ (w : ℕ × ℕ). w.1 == node) wires) (filter (λ (w : ℕ × ℕ). w.1 == node) wires))) source) [
  | true ↦ further wire.0 (sources_of wires node) source is
  | false ↦ is
]

arriving_alike : (wires : List Wire) (input : Frame) (frames others : ℕ → Frame) (node : ℕ) (aux : Bool) → AreAlike wires node frames others → arriving wires input frames (AtNode node) aux ≡ arriving wires input others (AtNode node) aux
arriving_alike [] input frames others node aux alike = refl
arriving_alike (wire ∷ wires) input frames others node aux alike =
    let rest = arriving_alike wires input frames others node aux (λ source is. alike source (later_source (ends wire.from wire.to) (node_wires wires) node source is)) in
    let reached = filter (reaches (AtNode node) aux) wires in
    elim (reaches (AtNode node) aux wire) as (λ b. reaches (AtNode node) aux wire ≡ b → map (λ (w : Wire). brought input frames w.from) (cond b (wire ∷ reached) reached) ≡ map (λ (w : Wire). brought input others w.from) (cond b (wire ∷ reached) reached)) [
      | true ↦ λ is.
          let to = at_node wire.to node (and_parts (is_at wire.to (AtNode node)) _ is).0 in
          let one = brought_alike input frames others wire.from (λ source from. alike source (first_source wire.from wire.to (node_wires wires) node source from to)) in
          ap (λ (frame : Frame). frame ∷ arriving wires input frames (AtNode node) aux) one ∙ ap (λ (l : List Frame). brought input others wire.from ∷ l) rest
      | false ↦ λ is. rest
    ] refl

pub by_parts : {A : Type 0} (f : State → List ℕ → Frame → Option Frame → A) (s s' : State) (v v' : List ℕ) (m m' : Frame) (a a' : Option Frame) → s ≡ s' → v ≡ v' → m ≡ m' → a ≡ a' → f s v m a ≡ f s' v' m' a'
by_parts f s s' v v' m m' a a' p q r t = ap (λ x. f x v m a) p ∙ ap (λ x. f s' x m a) q ∙ ap (λ x. f s' v' x a) r ∙ ap (λ x. f s' v' m' x) t

-- states and values that are a node's own, and frames that are its sources'
pub record IsAlike (scene : Scene) (node : ℕ) (states other_states : ℕ → State) (values other_values : ℕ → List ℕ) (frames other_frames : ℕ → Frame) : Type 0 where
  pub state : states node ≡ other_states node
  pub value : values node ≡ other_values node
  pub sources : AreAlike scene.wires node frames other_frames

-- what a node gives hangs on these alone
pub given_alike : (scene : Scene) (node : ℕ) (states other_states : ℕ → State) (values other_values : ℕ → List ℕ) (input : Frame) (frames other_frames : ℕ → Frame) → IsAlike scene node states other_states values other_values frames other_frames
    → given scene states values input frames node ≡ given scene other_states other_values input other_frames node
given_alike scene node states other_states values other_values input frames others is =
    by_parts ((class_at scene node).output scene.channels) (states node) (other_states node) (values node) (other_values node) _ _ _ _ is.state is.value
    (ap (mix scene.channels) (arriving_alike scene.wires input frames others node false is.sources))
    (ap (mix_of_some scene.channels) (arriving_alike scene.wires input frames others node true is.sources))

-- and so does the state in which it is left
pub stepped_alike : (scene : Scene) (node : ℕ) (states other_states : ℕ → State) (values other_values : ℕ → List ℕ) (input : Frame) (frames other_frames : ℕ → Frame) → IsAlike scene node states other_states values other_values frames other_frames
    → stepped scene states values input frames node ≡ stepped scene other_states other_values input other_frames node
stepped_alike scene node states other_states values other_values input frames others is =
    by_parts ((class_at scene node).next scene.channels) (states node) (other_states node) (values node) (other_values node) _ _ _ _ is.state is.value
    (ap (mix scene.channels) (arriving_alike scene.wires input frames others node false is.sources))
    (ap (mix_of_some scene.channels) (arriving_alike scene.wires input frames others node true is.sources))
