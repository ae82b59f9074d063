-- A rendering hears of its input the frames before its length, and silence past its end.
use Rattle.std.proofs.Common.{◌≡◌, ◌∙◌, ℕ, zero, suc, ◌+◌, ◌<◌, ◌≤◌, List, [], ◌∷◌, ◌++◌, map, refl, ap, arith}
use Rattle.std.specs.Prelude.{All}
use Rattle.std.specs.List.{range_with_len}
use Rattle.std.proofs.lemmas.List.Elements.{All-head, All-tail}
use Rattle.vh_num.specs.Frames.{Frame}
use Rattle.vh_plugin.specs.Class.{State}
use Rattle.vh_journal.specs.declared.entry.Entry.{Entry}
use Rattle.vh_meaning.specs.Scene.{Scene}
use Rattle.vh_meaning.specs.Values.{values_at}
use Rattle.vh_meaning.specs.Frames.{moved, frame_of, out_of}
use Rattle.vh_meaning.specs.World.{input_at, told, world, after_messages}
use Rattle.vh_meaning.specs.Rendering.{Answer, out_at, rendering, seen_at, of_all, last_values, answers_by, answer_to, answers_from, answers}

-- two inputs are the same to a scene
abbrev pub AreSame : Scene → List Frame → List Frame → Type 0
AreSame scene one other = (s : ℕ) → s < scene.length → input_at scene one s ≡ input_at scene other s

module _ (scene : Scene) (one other : List Frame) (h : List Entry) (same : AreSame scene one other) where
  same_world : (s : ℕ) → s ≤ scene.length → world scene one h s ≡ world scene other h s
  same_world zero le = refl
  same_world (suc s) le =
      ap (λ (states : ℕ → State). moved scene (told scene h s states) (values_at scene h s) (input_at scene one s)) (same_world s (omega (arith, le)))
      ∙ ap (λ (frame : Frame). moved scene (told scene h s (world scene other h s)) (values_at scene h s) frame) (same s (omega (arith, le)))

  same_out : (s : ℕ) → s < scene.length → out_at scene one h s ≡ out_at scene other h s
  same_out s lt =
      ap (λ (states : ℕ → State). out_of scene (input_at scene one s) (frame_of scene (told scene h s states) (values_at scene h s) (input_at scene one s))) (same_world s (omega (arith, lt)))
      ∙ ap (λ (frame : Frame). out_of scene frame (frame_of scene (told scene h s (world scene other h s)) (values_at scene h s) frame)) (same s lt)

  same_from : (from count : ℕ) → from + count ≤ scene.length → map (out_at scene one h) (range_with_len from count) ≡ map (out_at scene other h) (range_with_len from count)
  same_from from zero le = refl
  same_from from (suc count) le =
      ap (λ (frame : Frame). frame ∷ map (out_at scene one h) (range_with_len (from + 1) count)) (same_out from (omega (arith, le)))
      ∙ ap (λ (frames : List Frame). out_at scene other h from ∷ frames) (same_from (from + 1) count (omega (arith, le)))

  pub same_rendering : rendering scene one h ≡ rendering scene other h
  same_rendering = same_from 0 scene.length (omega arith)

  pub same_last : last_values scene one h ≡ last_values scene other h
  same_last = ap (λ (states : ℕ → State). of_all scene (seen_at scene (told scene h scene.length states) (values_at scene h scene.length))) (same_world scene.length (omega arith))

  same_answer : (before : List Entry) (entry : Entry) → entry.sample ≤ scene.length → answer_to scene one h before entry ≡ answer_to scene other h before entry
  same_answer before entry le =
      ap (λ (states : ℕ → State). answers_by scene (after_messages scene entry.sample [] before states) (values_at scene before entry.sample) entry.sample entry.command) (same_world entry.sample le)

  same_answers_from : (before later : List Entry) → All (λ entry. entry.sample ≤ scene.length) later → answers_from scene one h before later ≡ answers_from scene other h before later
  same_answers_from before [] within = refl
  same_answers_from before (entry ∷ later) within =
      ap (λ (here : List Answer). here ++ answers_from scene one h (before ++ entry ∷ []) later) (same_answer before entry (All-head (λ (e : Entry). e.sample ≤ scene.length) entry later within))
      ∙ ap (λ (rest : List Answer). answer_to scene other h before entry ++ rest) (same_answers_from (before ++ entry ∷ []) later (All-tail (λ (e : Entry). e.sample ≤ scene.length) entry later within))

  pub same_answers : All (λ entry. entry.sample ≤ scene.length) h → answers scene one h ≡ answers scene other h
  same_answers within = same_answers_from [] h within
