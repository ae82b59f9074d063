-- A node's parameters through a block's entries.
use Rattle.std.proofs.Common.{◌≡◌, ◌∙◌, ℕ, zero, suc, ◌+◌, ◌<◌, ◌≤◌, List, [], ◌∷◌, length, map, Option, refl, sym, ap, arith}
use Rattle.std.specs.Prelude.{All, slice_index_or}
use Rattle.vh_lane.specs.declared.lane.Lane.{Lane}
use Rattle.vh_lane.specs.Changes.{before}
use Rattle.vh_plugin.specs.Class.{Param}
use Rattle.vh_journal.specs.declared.entry.Entry.{Entry}
use Rattle.vh_meaning.specs.Scene.{Scene, lane_of}
use Rattle.vh_meaning.specs.Edits.{edit_in, up_to}
use Rattle.vh_meaning.specs.Stands.{Touch}
use Rattle.vh_meaning.specs.Steps.{touched_by, touches_with, touches_through, value_now, values_now}
use Rattle.vh_meaning.proofs.Later.{up_to_all}
use Rattle.vh_engine.specs.declared.control.Control.{Control}
use Rattle.vh_engine.specs.declared.span.Span.{Span}
use Rattle.vh_engine.specs.Controls.{touch_of, line_at, line_of, touch_through, value_through}
use Rattle.vh_engine.specs.Sent.{value_in, IsBehind}
use Rattle.vh_engine.specs.Nodes.{AreOf, AreBehind}
use Rattle.vh_engine.specs.Blocks.{IsCurrent}
use Rattle.vh_engine.proofs.Boards.{first_same, of_rest, HaveLines}

touches_through_none : (scene : Scene) (entries : List Entry) (node : ℕ) (touches : List Touch) → touches_through scene entries node [] [] ≡ []
touches_through_none scene [] node touches = refl
touches_through_none scene (entry ∷ entries) node touches = touches_through_none scene entries node touches

-- the first parameter and the others each take the entries
pub touches_through_cons : (scene : Scene) (entries : List Entry) (node : ℕ) (param : Param) (params : List Param) (touch : Touch) (touches : List Touch)
    → touches_through scene entries node (param ∷ params) (touch ∷ touches)
    ≡ touch_through (lane_of scene node param) param.steps node param.id entries touch ∷ touches_through scene entries node params touches
touches_through_cons scene [] node param params touch touches = refl
touches_through_cons scene (entry ∷ entries) node param params touch touches =
    touches_through_cons scene entries node param params (touched_by (lane_of scene node param) param.steps (edit_in node param.id entry) touch) (touches_with scene entry node params touches)

-- a parameter after entries
abbrev pub taken : List (ℕ × ℕ × Lane) → ℕ → List Entry → Control → Touch
taken lanes node entries control = touch_through (line_of lanes control) control.steps node control.id entries (touch_of control)

one_taken : (scene : Scene) (lanes : List (ℕ × ℕ × Lane)) (node : ℕ) (entries : List Entry) (param : Param) (control : Control) → control.id ≡ param.id → control.steps ≡ param.steps → line_of lanes control ≡ lane_of scene node param
    → touch_through (lane_of scene node param) param.steps node param.id entries (touch_of control) ≡ taken lanes node entries control
one_taken scene lanes node entries param control id steps line =
    ap (λ (l : Option (ℕ → ℕ)). touch_through l param.steps node param.id entries (touch_of control)) (sym line)
    ∙ ap (λ (n : ℕ). touch_through (line_of lanes control) n node param.id entries (touch_of control)) (sym steps)
    ∙ ap (λ (n : ℕ). touch_through (line_of lanes control) control.steps node n entries (touch_of control)) (sym id)

-- so each of a node's
pub touches_of_board : (scene : Scene) (lanes : List (ℕ × ℕ × Lane)) (node : ℕ) (entries : List Entry) (params : List Param) (controls : List Control) → AreOf params controls → HaveLines scene lanes node params controls
    → touches_through scene entries node params (map touch_of controls) ≡ map (taken lanes node entries) controls
touches_of_board scene lanes node entries [] [] of lines = touches_through_none scene entries node []
touches_of_board scene lanes node entries [] (control ∷ controls) of lines = let ids = of.ids in absurd cc
touches_of_board scene lanes node entries (param ∷ params) [] of lines = let ids = of.ids in absurd cc
touches_of_board scene lanes node entries (param ∷ params) (control ∷ controls) of lines =
    touches_through_cons scene entries node param params (touch_of control) (map touch_of controls)
    ∙ ap (λ (touch : Touch). touch ∷ touches_through scene entries node params (map touch_of controls)) (one_taken scene lanes node entries param control (first_same _ _ _ _ of.ids) (first_same _ _ _ _ of.steps) (lines 0 control param (omega arith)))
    ∙ ap (λ (l : List Touch). taken lanes node entries control ∷ l)
    (touches_of_board scene lanes node entries params controls (of_rest param params control controls of) (λ k d e lt. lines (suc k) d e (omega (arith, lt))))

-- The values of a node's parameters in a block, from what they were and from the entries up to the sample.
pub values_through_board : (scene : Scene) (lanes : List (ℕ × ℕ × Lane)) (node : ℕ) (entries : List Entry) (s : ℕ) (params : List Param) (controls : List Control) → AreOf params controls → HaveLines scene lanes node params controls
    → values_now scene node params (touches_through scene (up_to s entries) node params (map touch_of controls)) s ≡ map (λ control. value_through lanes node entries control s) controls
values_through_board scene lanes node entries s [] [] of lines = refl
values_through_board scene lanes node entries s [] (control ∷ controls) of lines = let ids = of.ids in absurd cc
values_through_board scene lanes node entries s (param ∷ params) [] of lines = let ids = of.ids in absurd cc
values_through_board scene lanes node entries s (param ∷ params) (control ∷ controls) of lines =
    let early = up_to s entries in
    let line = lines 0 control param (omega arith) in
    ap (λ (l : List Touch). values_now scene node (param ∷ params) l s) (touches_through_cons scene early node param params (touch_of control) (map touch_of controls))
    ∙ ap (λ (touch : Touch). value_now (lane_of scene node param) touch s ∷ values_now scene node params (touches_through scene early node params (map touch_of controls)) s)
    (one_taken scene lanes node early param control (first_same _ _ _ _ of.ids) (first_same _ _ _ _ of.steps) line)
    ∙ ap (λ (l : Option (ℕ → ℕ)). value_now l (taken lanes node early control) s ∷ values_now scene node params (touches_through scene early node params (map touch_of controls)) s) (sym line)
    ∙ ap (λ (l : List ℕ). value_through lanes node entries control s ∷ l)
    (values_through_board scene lanes node entries s params controls (of_rest param params control controls of) (λ k d e lt. lines (suc k) d e (omega (arith, lt))))

-- each parameter is as these entries leave it
abbrev pub AreTaken : List (ℕ × ℕ × Lane) → ℕ → List Entry → List Control → List Control → Type 0
AreTaken lanes node entries old new = (k : ℕ) (d : Control) → k < length old → touch_of (slice_index_or new k d) ≡ taken lanes node entries (slice_index_or old k d)

pub touches_taken : (lanes : List (ℕ × ℕ × Lane)) (node : ℕ) (entries : List Entry) (old new : List Control) → length new ≡ length old → AreTaken lanes node entries old new → map touch_of new ≡ map (taken lanes node entries) old
touches_taken lanes node entries [] [] long each = refl
touches_taken lanes node entries [] (control ∷ controls) long each = absurd (omega (arith, long))
touches_taken lanes node entries (control ∷ controls) [] long each = absurd (omega (arith, long))
touches_taken lanes node entries (control ∷ old) (other ∷ new) long each =
    ap (λ (touch : Touch). touch ∷ map touch_of new) (each 0 control (omega arith))
    ∙ ap (λ (l : List Touch). taken lanes node entries control ∷ l) (touches_taken lanes node entries old new (omega (arith, long)) (λ k d lt. each (suc k) d (omega (arith, lt))))

-- What is kept of a node's parameters behind a block is what its entries leave of them.
pub touches_behind : (scene : Scene) (span : Span) (node : ℕ) (params : List Param) (old new : List Control) → AreOf params old → HaveLines scene span.lanes.now node params old → AreBehind span node old new
    → map touch_of new ≡ touches_through scene span.entries.now node params (map touch_of old)
touches_behind scene span node params old new of lines behind =
    touches_taken span.lanes.now node span.entries.now old new behind.long (λ k d lt. (behind.each k d lt).touch)
    ∙ sym (touches_of_board scene span.lanes.now node span.entries.now params old of lines)

-- its value at the last sample, which is what its processor has
last_value : (value : ℕ → ℕ) (from last n s : ℕ) → 1 ≤ n → s + 1 ≡ from + n → before value from last n ≡ value s
last_value value from last zero s some is = absurd (omega (arith, some))
last_value value from last (suc n) s some is = let same : from + n ≡ s = omega (arith, is) in ap value same

current_behind : (span : Span) (node s : ℕ) (old new : Control) → 1 ≤ span.frames → s + 1 ≡ span.from + span.frames → All (λ entry. entry.sample ≤ s) span.entries.now → IsBehind span node old new → IsCurrent span.lanes.now s new
current_behind span node s old new some is upto behind =
    behind.sent
    ∙ last_value (value_in span node old) span.from old.sent span.frames s some is
    ∙ ap (λ (l : List Entry). value_now (line_of span.lanes.now old) (taken span.lanes.now node l old) s) (up_to_all s span.entries.now upto)
    ∙ ap (λ (touch : Touch). value_now (line_of span.lanes.now old) touch s) (sym behind.touch)
    ∙ ap (λ (lane : Option ℕ). value_now (line_at span.lanes.now lane) (touch_of new) s) (sym behind.same.lane)

pub all_current : (span : Span) (node s : ℕ) (old new : List Control) → 1 ≤ span.frames → s + 1 ≡ span.from + span.frames → All (λ entry. entry.sample ≤ s) span.entries.now → AreBehind span node old new → All (IsCurrent span.lanes.now s) new
all_current span node s old new some is upto behind k d lt =
    let long = behind.long in
    current_behind span node s (slice_index_or old k d) (slice_index_or new k d) some is upto (behind.each k d (omega (arith, long, lt)))
