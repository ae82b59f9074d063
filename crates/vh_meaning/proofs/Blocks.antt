-- What is kept is carried over a block.
use Rattle.std.proofs.Common.{◌≡◌, ◌∙◌, ℕ, zero, suc, ◌+◌, ◌<◌, ◌≤◌, Bool, true, false, cond, List, [], ◌∷◌, ◌++◌, map, refl, sym, ap, arith}
use Rattle.std.specs.Prelude.{All, filter}
use Rattle.std.specs.List.{range_with_len, flat_map}
use Rattle.std.proofs.lemmas.List.Elements.{All-append, All-weaker, All-head, All-tail}
use Rattle.vh_num.specs.Frames.{Frame}
use Rattle.vh_plugin.specs.Class.{Param, State}
use Rattle.vh_session.specs.declared.wire.End.{End as WireEnd}
use Rattle.vh_session.specs.declared.wire.End.TheVariants.{Out}
use Rattle.vh_session.specs.declared.wire.Wire.{Wire}
use Rattle.vh_journal.specs.declared.entry.Entry.{Entry}
use Rattle.vh_meaning.specs.Scene.{Scene, node_count, class_at, params_at, firsts_at}
use Rattle.vh_meaning.specs.Edits.{up_to}
use Rattle.vh_meaning.specs.Values.{values_at}
use Rattle.vh_meaning.specs.Mix.{reaches, brought, arriving, mix}
use Rattle.vh_meaning.specs.World.{input_at, world, after}
use Rattle.vh_meaning.specs.Rendering.{seen_of, seen_at, of_all, seen_before}
use Rattle.vh_meaning.specs.Stands.{Touch, touches_of}
use Rattle.vh_meaning.specs.Steps.{touches_through, values_now, values_in}
use Rattle.vh_meaning.specs.Trace.{IsTrace}
use Rattle.vh_meaning.specs.Laws.{IsNoMessageWithin}
use Rattle.vh_meaning.specs.Block.{untouched, StandsAtFirst, values_within, OneBlock, IsFromScene, OutFromFrames, SeenFromKept, LastFromKept}
use Rattle.vh_meaning.proofs.Reaching.{brought_alike, given_alike, stepped_alike}
use Rattle.vh_meaning.proofs.Traces.{law_interchange}
use Rattle.vh_meaning.proofs.Touches.{law_values_from_kept}
use Rattle.vh_meaning.proofs.Applying.{only_sample, values_stand, law_applied}

untouched_are : (scene : Scene) (node : ℕ) (params : List Param) (firsts : List ℕ) → untouched params firsts ≡ touches_of scene [] node params firsts
untouched_are scene node [] firsts = refl
untouched_are scene node (param ∷ params) [] = refl
untouched_are scene node (param ∷ params) (first ∷ firsts) = ap (λ (l : List Touch). record { value = first; begun = 0; ended = 0 } ∷ l) (untouched_are scene node params firsts)

pub law_at_first : StandsAtFirst
law_at_first scene input = record {
  states = λ node within. refl;
  touches = λ node within. untouched_are scene node (params_at scene node) (firsts_at scene node);
  answers = refl;
  before = λ k d lt. absurd (omega (arith, lt));
}

-- a trace with other values that are the same at the scene's nodes
with_values : (scene : Scene) (n : ℕ) (values others : ℕ → ℕ → List ℕ) (input : ℕ → Frame) (states : ℕ → ℕ → State) (frames : ℕ → ℕ → Frame)
    → ((o node : ℕ) → o < n → node < node_count scene → values o node ≡ others o node) → IsTrace scene n values input states frames → IsTrace scene n others input states frames
with_values scene n values others input states frames same trace = record {
  consistent = λ o lt node within.
      trace.consistent o lt node within
      ∙ given_alike scene node (states o) (states o) (values o) (others o) (input o) (frames o) (frames o) (record { state = refl; value = same o node lt within; sources = λ source is. refl });
  moves = λ o node lt within.
      trace.moves o node lt within
      ∙ stepped_alike scene node (states o) (states o) (values o) (others o) (input o) (frames o) (frames o) (record { state = refl; value = same o node lt within; sources = λ source is. refl });
}

pub law_one_block : OneBlock
law_one_block scene standing at n input h entries states frames has some stands next upto start trace =
    let whole = h ++ entries in
    let kept = law_applied scene standing at input h entries stands next in
    let early = λ (o : ℕ). All-weaker (λ (x : Entry). x.sample < at) (λ (x : Entry). x.sample ≤ at + o) (λ x lt. omega (arith, lt)) h stands.before in
    let same = λ (o node : ℕ) (lt : o < n) (within : node < node_count scene).
    ap (λ (l : List Touch). values_now scene node (params_at scene node) (touches_through scene (up_to (at + o) entries) node (params_at scene node) l) (at + o)) (stands.touches node within)
    ∙ sym (law_values_from_kept scene h entries node (at + o) (early o)) in
    let none = All-append (IsNoMessageWithin at (at + n)) h entries
    (λ k d lt s is behind ahead. let before = stands.before k d lt in let here = only_sample _ s s _ is in omega (arith, before, here, behind))
    (λ k d lt s is behind ahead. let here = next.messages k d lt s is in omega (arith, here, behind)) in
    let given = law_interchange scene input whole at n states frames has (λ node within. start node within ∙ kept.states node within) none
    (with_values scene n (λ o. values_within scene standing entries (at + o)) (λ o. values_at scene whole (at + o)) (λ o. input_at scene input (at + o)) states frames same trace) in (
      record {
        states = λ node within. given.1 node some within;
        touches = kept.touches;
        answers = kept.answers;
        before = All-append (λ (x : Entry). x.sample < at + n) h entries (All-weaker (λ (x : Entry). x.sample < at) (λ (x : Entry). x.sample < at + n) (λ x lt. omega (arith, lt)) h stands.before) upto;
      },
      given.0,
    )

arriving_same : (scene : Scene) (wires : List Wire) (input : Frame) (frames others : ℕ → Frame) (to : WireEnd) (aux : Bool) → All (IsFromScene scene) wires → ((node : ℕ) → node < node_count scene → frames node ≡ others node)
    → arriving wires input frames to aux ≡ arriving wires input others to aux
arriving_same scene [] input frames others to aux from same = refl
arriving_same scene (wire ∷ wires) input frames others to aux from same =
    let rest = arriving_same scene wires input frames others to aux (All-tail (IsFromScene scene) wire wires from) same in
    let one = brought_alike input frames others wire.from (λ source is. same source (All-head (IsFromScene scene) wire wires from source is)) in
    let reached = filter (reaches to aux) wires in
    elim (reaches to aux wire) as (λ b. map (λ (w : Wire). brought input frames w.from) (cond b (wire ∷ reached) reached) ≡ map (λ (w : Wire). brought input others w.from) (cond b (wire ∷ reached) reached)) [
      | true ↦ ap (λ (frame : Frame). frame ∷ arriving wires input frames to aux) one ∙ ap (λ (l : List Frame). brought input others wire.from ∷ l) rest
      | false ↦ rest
    ]

pub law_out_from_frames : OutFromFrames
law_out_from_frames scene input frames others from same = ap (mix scene.channels) (arriving_same scene scene.wires input frames others Out false from same)

-- what is seen of the scene's nodes hangs on what is seen of each
all_same : (one other : ℕ → List ℕ) (from n below : ℕ) → from + n ≤ below → ((node : ℕ) → node < below → one node ≡ other node) → flat_map one (range_with_len from n) ≡ flat_map other (range_with_len from n)
all_same one other from zero below within same = refl
all_same one other from (suc n) below within same =
    ap (λ (l : List ℕ). l ++ flat_map one (range_with_len (from + 1) n)) (same from (omega (arith, within)))
    ∙ ap (λ (l : List ℕ). other from ++ l) (all_same one other (from + 1) n below (omega (arith, within)) same)

seen_same : (scene : Scene) (states others : ℕ → State) (values other_values : ℕ → List ℕ) → ((node : ℕ) → node < node_count scene → states node ≡ others node) → ((node : ℕ) → node < node_count scene → values node ≡ other_values node)
    → of_all scene (seen_at scene states values) ≡ of_all scene (seen_at scene others other_values)
seen_same scene states others values other_values same alike = all_same (seen_at scene states values) (seen_at scene others other_values) 0 (node_count scene) (node_count scene) (omega arith) (λ node within.
    ap (λ (x : State). seen_of (class_at scene node) x (params_at scene node) (values node)) (same node within)
    ∙ ap (seen_of (class_at scene node) (others node) (params_at scene node)) (alike node within))

pub law_seen_from_kept : SeenFromKept
law_seen_from_kept scene standing s input h stands =
    let later : s + 1 ≡ suc s = omega arith in
    seen_same scene standing.states (world scene input h (suc s)) (values_in scene standing s) (values_at scene h s)
    (λ node within. stands.states node within ∙ ap (λ (t : ℕ). world scene input h t node) later)
    (values_stand scene standing s h stands.touches (All-weaker (λ (x : Entry). x.sample < s + 1) (λ (x : Entry). x.sample ≤ s) (λ x lt. omega (arith, lt)) h stands.before))
    ∙ ap (seen_before scene input h) (sym later)

pub law_last_from_kept : LastFromKept
law_last_from_kept scene standing input h stands upto =
    seen_same scene standing.states (after scene input h scene.length) (values_in scene standing scene.length) (values_at scene h scene.length) stands.states
    (values_stand scene standing scene.length h stands.touches upto)
