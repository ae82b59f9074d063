-- What was rendered stays the front of the rendering.
use mathlib.Core.Path.{fun_ext}
use Rattle.std.proofs.Common.{◌≡◌, ◌∙◌, ℕ, zero, suc, ◌+◌, ◌-◌, ◌<◌, ◌≤◌, min, List, [], ◌∷◌, ◌++◌, map, take, refl, sym, ap, arith}
use Rattle.std.specs.Prelude.{All}
use Rattle.std.specs.List.{range_with_len}
use Rattle.std.proofs.lemmas.List.{map-append}
use Rattle.std.proofs.lemmas.List.FromFn.{take-map-range_with_len}
use Rattle.vh_num.specs.Frames.{Frame}
use Rattle.vh_journal.specs.declared.entry.Entry.{Entry}
use Rattle.vh_meaning.specs.Scene.{Scene}
use Rattle.vh_meaning.specs.Frames.{out_of}
use Rattle.vh_meaning.specs.World.{input_at}
use Rattle.vh_meaning.specs.Rendering.{out_at, rendering}
use Rattle.vh_meaning.proofs.Later.{up_to_ahead, law_no_later}
use Rattle.vh_core.specs.declared.sent.Sent.{Sent}
use Rattle.vh_core.specs.Steps.{entry_at}
use Rattle.vh_core.proofs.Lists.{range_plus}

-- a frame of the output depends on no entry behind it
pub out_same : (scene : Scene) (input : List Frame) (h k : List Entry) (s : ℕ) → All (λ entry. s < entry.sample) k → out_at scene input (h ++ k) s ≡ out_at scene input h s
out_same scene input h k s behind =
    ap (out_of scene (input_at scene input s)) (fun_ext (λ node. law_no_later scene input input (h ++ k) h s node (λ t le. refl) (up_to_ahead s h k behind)))

-- the frames before a sample depend on no entry from it on
outs_same : (scene : Scene) (input : List Frame) (h k : List Entry) (from count past : ℕ) → All (λ entry. past ≤ entry.sample) k → from + count ≤ past
    → map (out_at scene input (h ++ k)) (range_with_len from count) ≡ map (out_at scene input h) (range_with_len from count)
outs_same scene input h k from zero past behind within = refl
outs_same scene input h k from (suc count) past behind within =
    let here = out_same scene input h k from (λ i d lt. let far = behind i d lt in omega (arith, far, within)) in
    ap (λ (f : Frame). f ∷ map (out_at scene input (h ++ k)) (range_with_len (from + 1) count)) here
    ∙ ap (λ (l : List Frame). out_at scene input h from ∷ l) (outs_same scene input h k (from + 1) count past behind (omega (arith, within)))

-- the front of a rendering, frame by frame
pub front : (scene : Scene) (input : List Frame) (h : List Entry) (count : ℕ) → count ≤ scene.length → take count (rendering scene input h) ≡ map (out_at scene input h) (range_with_len 0 count)
front scene input h count within = take-map-range_with_len (out_at scene input h) 0 scene.length count within

pub front_same : (scene : Scene) (input : List Frame) (h k : List Entry) (pos : ℕ) → pos ≤ scene.length → All (λ entry. pos ≤ entry.sample) k
    → take pos (rendering scene input (h ++ k)) ≡ take pos (rendering scene input h)
front_same scene input h k pos within behind =
    front scene input (h ++ k) pos within ∙ outs_same scene input h k 0 pos pos behind (omega arith) ∙ sym (front scene input h pos within)

-- some frames more
pub front_more : (scene : Scene) (input : List Frame) (h : List Entry) (pos more : ℕ) → pos + more ≤ scene.length
    → take (pos + more) (rendering scene input h) ≡ take pos (rendering scene input h) ++ map (out_at scene input h) (range_with_len pos more)
front_more scene input h pos more within =
    let none : 0 + pos ≡ pos = omega arith in
    front scene input h (pos + more) within
    ∙ ap (map (out_at scene input h)) (range_plus 0 pos more ∙ ap (λ n. range_with_len 0 pos ++ range_with_len n more) none)
    ∙ map-append (out_at scene input h) (range_with_len 0 pos) (range_with_len pos more)
    ∙ ap (λ (l : List Frame). l ++ map (out_at scene input h) (range_with_len pos more)) (sym (front scene input h pos (omega (arith, within))))

-- what is taken stands at the sample at which it is
pub taken_at : (sample : ℕ) (sent : List Sent) → All (λ entry. sample ≤ entry.sample) (map (entry_at sample) sent)
taken_at sample [] i d lt = absurd (omega (arith, lt))
taken_at sample (one ∷ sent) zero d lt = omega arith
taken_at sample (one ∷ sent) (suc i) d lt = taken_at sample sent i d (omega (arith, lt))

-- what a step makes of what was rendered
pub render_keeps : (scene : Scene) (input frames : List Frame) (journal : List Entry) (taken : List Sent) (pos count : ℕ) → pos ≤ scene.length
    → frames ≡ take pos (rendering scene input journal)
    → frames ++ map (out_at scene input (journal ++ map (entry_at pos) taken)) (range_with_len pos (min count (scene.length - pos)))
    ≡ take (pos + min count (scene.length - pos)) (rendering scene input (journal ++ map (entry_at pos) taken))
render_keeps scene input frames journal taken pos count within kept =
    let h = journal ++ map (entry_at pos) taken in
    let more = min count (scene.length - pos) in
    ap (λ (l : List Frame). l ++ map (out_at scene input h) (range_with_len pos more)) (kept ∙ sym (front_same scene input journal (map (entry_at pos) taken) pos within (taken_at pos taken)))
    ∙ sym (front_more scene input h pos more (omega arith))
