-- What is kept is carried over a block whose first entries were applied and whose other entries were taken on the way.
use Rattle.std.proofs.Common.{◌≡◌, ◌∙◌, ℕ, suc, ◌+◌, ◌<◌, ◌≤◌, List, [], ◌∷◌, ◌++◌, ℤ, refl, sym, ap, subst, arith}
use Rattle.std.specs.Prelude.{All}
use Rattle.std.proofs.lemmas.List.Elements.{All-weaker}
use Rattle.vh_num.specs.Frames.{Frame, frame_at as frame_of_samples}
use Rattle.vh_plugin.specs.Class.{Param, State}
use Rattle.vh_journal.specs.declared.entry.Entry.{Entry}
use Rattle.vh_meaning.specs.Scene.{Scene, node_count, params_at}
use Rattle.vh_meaning.specs.Edits.{up_to}
use Rattle.vh_meaning.specs.World.{input_at, frame_at}
use Rattle.vh_meaning.specs.Rendering.{Answer, out_at}
use Rattle.vh_meaning.specs.Frames.{out_of}
use Rattle.vh_meaning.specs.Stands.{Touch, Standing, AllBefore, StandsFor}
use Rattle.vh_meaning.specs.Steps.{touches_through, values_now, applied}
use Rattle.vh_meaning.specs.Trace.{IsTrace}
use Rattle.vh_meaning.specs.Laws.{HasOrder, AreNext, StandsAfter}
use Rattle.vh_meaning.specs.Block.{values_within, with_states, IsFromScene}
use Rattle.vh_meaning.proofs.Reaching.{given_alike, stepped_alike}
use Rattle.vh_meaning.proofs.Applying.{law_applied}
use Rattle.vh_meaning.proofs.Blocks.{law_one_block, law_out_from_frames}
use Rattle.vh_engine.specs.Staged.{AreSame}
use Rattle.vh_engine.specs.Blocks.{IsBlockOver, HasGoneOver}
use Rattle.vh_engine.specs.Buses.{frames_at}
use Rattle.vh_engine.specs.Engine.{IsGraph}
use Rattle.vh_engine.specs.Kept.{AreInput}
use Rattle.vh_engine.proofs.Heads.{IsEdit, touches_through_append, applied_append, touches_applied, states_of_edits, answers_of_edits, edits_behind, values_behind_head}

-- a trace with other values that are the same at the scene's nodes
pub with_values : (scene : Scene) (n : ℕ) (values others : ℕ → ℕ → List ℕ) (input : ℕ → Frame) (states : ℕ → ℕ → State) (frames : ℕ → ℕ → Frame)
    → ((o node : ℕ) → o < n → node < node_count scene → values o node ≡ others o node) → IsTrace scene n values input states frames → IsTrace scene n others input states frames
with_values scene n values others input states frames same trace = record {
  consistent = λ o lt node within.
      trace.consistent o lt node within
      ∙ given_alike scene node (states o) (states o) (values o) (others o) (input o) (frames o) (frames o) (record { state = refl; value = same o node lt within; sources = λ source is. refl });
  moves = λ o node lt within.
      trace.moves o node lt within
      ∙ stepped_alike scene node (states o) (states o) (values o) (others o) (input o) (frames o) (frames o) (record { state = refl; value = same o node lt within; sources = λ source is. refl });
}

-- the same is kept, before a sample
pub stands_alike : (scene : Scene) (one other : Standing) (s : ℕ) (input : List Frame) (h : List Entry) → AreSame scene one other → StandsFor scene one s input h → StandsFor scene other s input h
stands_alike scene one other s input h same stands = record {
  states = λ node within. sym (same.states node within) ∙ stands.states node within;
  touches = λ node within. sym (same.touches node within) ∙ stands.touches node within;
  answers = sym same.answers ∙ stands.answers;
  before = stands.before;
}

-- and at one whose messages were given
pub stands_alike_after : (scene : Scene) (one other : Standing) (s : ℕ) (input : List Frame) (h : List Entry) → AreSame scene one other → StandsAfter scene one s input h → StandsAfter scene other s input h
stands_alike_after scene one other s input h same stands = record {
  states = λ node within. sym (same.states node within) ∙ stands.states node within;
  touches = λ node within. sym (same.touches node within) ∙ stands.touches node within;
  answers = sym same.answers ∙ stands.answers;
}

module _ (scene : Scene) (kept one other : Standing) (at n : ℕ) (input : List Frame) (h head rest : List Entry) (states : ℕ → ℕ → State) (frames : ℕ → ℕ → Frame)
    (has : HasOrder scene) (some : 0 < n) (stands : StandsFor scene kept at input h) (next : AreNext scene at (head ++ rest)) (upto : AllBefore (at + n) (head ++ rest))
    (first : All (λ entry. entry.sample ≤ at) head) (edits : All IsEdit rest) (same : AreSame scene (applied scene at head kept) one) (over : IsBlockOver scene one other at n input rest states frames) where
  abbrev whole : Standing
  whole = applied scene at (head ++ rest) kept

  states_begin : (node : ℕ) → node < node_count scene → states 0 node ≡ whole.states node
  states_begin node within =
      over.start node within
      ∙ sym (same.states node within)
      ∙ ap (λ (x : ℕ → State). x node) (sym (states_of_edits scene at rest (applied scene at head kept) edits))
      ∙ ap (λ (x : Standing). x.states node) (sym (applied_append scene at head rest kept))

  values_are : (o node : ℕ) → o < n → node < node_count scene → values_within scene one rest (at + o) node ≡ values_within scene kept (head ++ rest) (at + o) node
  values_are o node lt within =
      ap (λ (l : List Touch). values_now scene node (params_at scene node) (touches_through scene (up_to (at + o) rest) node (params_at scene node) l) (at + o)) (sym (same.touches node within))
      ∙ sym (values_behind_head scene kept at (at + o) head rest node (All-weaker (λ (x : Entry). x.sample ≤ at) (λ (x : Entry). x.sample ≤ at + o) (λ x le. omega (arith, le)) head first))

  kept_behind : AreSame scene (with_states (states n) whole) other
  kept_behind = record {
    states = λ node within. over.states_are node within;
    touches = λ node within.
        touches_applied scene at (head ++ rest) kept node
        ∙ touches_through_append scene head rest node (params_at scene node) (kept.touches node)
        ∙ ap (touches_through scene rest node (params_at scene node)) (sym (touches_applied scene at head kept node) ∙ same.touches node within)
        ∙ over.touches_are node within;
    answers =
        ap (λ (x : Standing). x.answers) (applied_append scene at head rest kept)
        ∙ answers_of_edits scene at rest (applied scene at head kept) edits
        ∙ same.answers
        ∙ over.answers_are;
  }

  -- What is kept then stands for the longer list.
  pub block_stands : StandsFor scene other (at + n) input (h ++ (head ++ rest))
  block_stands =
      let given = law_one_block scene kept at n input h (head ++ rest) states frames has some stands next upto states_begin
      (with_values scene n (λ o. values_within scene one rest (at + o)) (λ o. values_within scene kept (head ++ rest) (at + o)) (λ o. input_at scene input (at + o)) states frames values_are over.trace) in
      stands_alike scene (with_states (states n) whole) other (at + n) input (h ++ (head ++ rest)) kept_behind given.0

  -- And what reaches the output is the rendering's frame.
  pub block_out : All (IsFromScene scene) scene.wires → (o : ℕ) → o < n → out_of scene (input_at scene input (at + o)) (frames o) ≡ out_at scene input (h ++ (head ++ rest)) (at + o)
  block_out from o lt =
      let given = law_one_block scene kept at n input h (head ++ rest) states frames has some stands next upto states_begin
      (with_values scene n (λ o. values_within scene one rest (at + o)) (λ o. values_within scene kept (head ++ rest) (at + o)) (λ o. input_at scene input (at + o)) states frames values_are over.trace) in
      law_out_from_frames scene (input_at scene input (at + o)) (frames o) (frame_at scene input (h ++ (head ++ rest)) (at + o)) from (λ node within. given.1 o node lt within)

-- The end: all entries were applied at the length.
pub flush_stands : (scene : Scene) (kept other : Standing) (at : ℕ) (input : List Frame) (h entries : List Entry) → StandsFor scene kept at input h → AreNext scene at entries → AreSame scene (applied scene at entries kept) other
    → StandsAfter scene other at input (h ++ entries)
flush_stands scene kept other at input h entries stands next same = stands_alike_after scene (applied scene at entries kept) other at input (h ++ entries) same (law_applied scene kept at input h entries stands next)

-- entries of a block in two, of which the first were applied
pub record IsBegun (scene : Scene) (kept one : Standing) (at n : ℕ) (entries head rest : List Entry) : Type 0 where
  pub whole : head ++ rest ≡ entries
  pub next : AreNext scene at entries
  pub upto : AllBefore (at + n) entries
  pub first : All (λ entry. entry.sample ≤ at) head
  pub edits : All IsEdit rest
  pub same : AreSame scene (applied scene at head kept) one

module _ (scene : Scene) (kept one other : Standing) (at n : ℕ) (ins : List ℤ) (entries head rest : List Entry) (rows : List (List ℤ))
    (graph : IsGraph scene) (some : 0 < n) (begun : IsBegun scene kept one at n entries head rest) (gone : HasGoneOver scene one other at n ins rest rows) where
  -- What is kept stands for the longer list of entries.
  pub rendered_stands : (input : List Frame) (h : List Entry) → StandsFor scene kept at input h → AreInput scene input at n ins → StandsFor scene other (at + n) input (h ++ entries)
  rendered_stands input h stands are =
      let over = gone input are in
      subst (λ (l : List Entry). StandsFor scene other (at + n) input (h ++ l)) begun.whole
      (block_stands scene kept one other at n input h head rest over.0 (frames_at scene.channels n rows) graph.order some stands
      (subst (λ (l : List Entry). AreNext scene at l) (sym begun.whole) begun.next) (subst (λ (l : List Entry). AllBefore (at + n) l) (sym begun.whole) begun.upto)
      begun.first begun.edits begun.same over.1)

  -- And what reaches the output is the rendering's.
  pub rendered_out : (input : List Frame) (h : List Entry) → StandsFor scene kept at input h → AreInput scene input at n ins → (place : ℕ) → place < n
      → out_of scene (input_at scene input (at + place)) (frames_at scene.channels n rows place) ≡ out_at scene input (h ++ entries) (at + place)
  rendered_out input h stands are place lt =
      let over = gone input are in
      subst (λ (l : List Entry). out_of scene (input_at scene input (at + place)) (frames_at scene.channels n rows place) ≡ out_at scene input (h ++ l) (at + place)) begun.whole
      (block_out scene kept one other at n input h head rest over.0 (frames_at scene.channels n rows) graph.order some stands
      (subst (λ (l : List Entry). AreNext scene at l) (sym begun.whole) begun.next) (subst (λ (l : List Entry). AllBefore (at + n) l) (sym begun.whole) begun.upto)
      begun.first begun.edits begun.same over.1 graph.from place lt)

-- the same over an equal scene and from an equal sample
pub gone_over : (scene other : Scene) (one two : Standing) (from at n : ℕ) (ins : List ℤ) (rest : List Entry) (rows : List (List ℤ)) → scene ≡ other → from ≡ at → HasGoneOver scene one two from n ins rest rows → HasGoneOver other one two at n ins rest rows
gone_over scene other one two from at n ins rest rows same here gone =
    subst (λ (s : Scene). HasGoneOver s one two at n ins rest rows) same (subst (λ (t : ℕ). HasGoneOver scene one two t n ins rest rows) here gone)

-- samples are those that reach the output, for each input whose samples came in
abbrev pub IsPutOut : Scene → ℕ → ℕ → List ℤ → List ℤ → List (List ℤ) → Type 0
IsPutOut scene at n ins outs rows = (input : List Frame) → AreInput scene input at n ins
    → (place : ℕ) → place < n → frame_of_samples scene.channels n outs place ≡ out_of scene (input_at scene input (at + place)) (frames_at scene.channels n rows place)

pub out_over : (scene other : Scene) (at n : ℕ) (ins outs : List ℤ) (rows : List (List ℤ)) → scene ≡ other → IsPutOut scene at n ins outs rows → IsPutOut other at n ins outs rows
out_over scene other at n ins outs rows same put = subst (λ (s : Scene). IsPutOut s at n ins outs rows) same put

-- what stands for an input and entries does so over an equal scene, at an equal sample and as an equal standing
pub stands_over : (scene other : Scene) (one two : Standing) (s at : ℕ) (input : List Frame) (h : List Entry) → scene ≡ other → one ≡ two → s ≡ at → StandsFor scene one s input h → StandsFor other two at input h
stands_over scene other one two s at input h same alike here stands =
    subst (λ (x : Scene). StandsFor x two at input h) same (subst (λ (x : Standing). StandsFor scene x at input h) alike (subst (λ (t : ℕ). StandsFor scene one t input h) here stands))
