-- The frames of a piece.
use Rattle.std.proofs.Common.{◌≡◌, ◌∙◌, ℕ, ◌+◌, ◌*◌, ◌<◌, ◌≤◌, List, [], length, map, take, drop, ◌⊎◌, inl, inr, ⊎_elim, ℤ, refl, sym, ap, arith}
use Rattle.std.specs.Prelude.{All}
use Rattle.std.specs.List.{range_with_len}
use Rattle.std.proofs.lemmas.Bool.{cases_eq}
use Rattle.std.proofs.lemmas.List.{get_or-drop, length-drop, same_lists, get_or_default, take-append-drop}
use Rattle.std.proofs.lemmas.List.FromFn.{length-map-range_with_len, get_or-map-range_with_len}
use Rattle.vh_num.specs.Frames.{Frame, frame_at, frames_of}
use Rattle.vh_num.specs.Laws.{FramesAreInPlace}
use Rattle.vh_plugin.specs.Class.{State}
use Rattle.vh_journal.specs.declared.entry.Entry.{Entry}
use Rattle.vh_meaning.specs.Scene.{Scene}
use Rattle.vh_meaning.specs.Edits.{up_to}
use Rattle.vh_meaning.specs.Values.{values_at}
use Rattle.vh_meaning.specs.Frames.{out_of, frame_of}
use Rattle.vh_meaning.specs.World.{input_at, told, world, after}
use Rattle.vh_meaning.specs.Rendering.{out_at}
use Rattle.vh_meaning.proofs.Later.{up_to_before, up_to_ahead, values_same, told_same, world_same}
use Rattle.vh_plugin.specs.Class.{Class}
use Rattle.vh_engine.specs.Kept.{Kept, scene_in, AreInput, AreOut}
use Rattle.vh_render.specs.declared.score.Score.{Score}
use Rattle.vh_render.specs.declared.sound.Sound.{Sound}
use Rattle.vh_render.specs.Playing.{IsScoreOf, IsInput, IsUpTo}

-- a sound has one channel or two
pub one_or_two : (sound : Sound) → (sound.channels ≡ 1) ⊎ (sound.channels ≡ 2)
one_or_two sound =
    let some = sound.one in
    let most = sound.two in
    ⊎_elim (λ (is : sound.channels ≡ 1). inl is) (λ (other : sound.channels ≡ 1 → ⊥). inr (omega (arith, some, most, other))) (cases_eq sound.channels 1)

-- the output's frame hangs on the entries up to its sample alone
pub out_same : (scene : Scene) (input : List Frame) (h k : List Entry) (s : ℕ) → up_to s h ≡ up_to s k → out_at scene input h s ≡ out_at scene input k s
out_same scene input h k s same =
    let earlier = world_same scene input input h k s (λ t lt. refl) (λ t lt. up_to_before t s h k (omega (arith, lt)) same) in
    let states = told_same scene h k s (world scene input h s) same ∙ ap (told scene k s) earlier in
    ap (λ (x : ℕ → State). out_of scene (input_at scene input s) (frame_of scene x (values_at scene h s) (input_at scene input s))) states
    ∙ ap (λ (v : ℕ → List ℕ). out_of scene (input_at scene input s) (frame_of scene (after scene input k s) v (input_at scene input s))) (values_same scene h k s same)

-- entries that are taken up to a sample, and all entries
pub up_to_taken : (entries : List Entry) (next past s : ℕ) → IsUpTo entries next past → s < past → up_to s (take next entries) ≡ up_to s entries
up_to_taken entries next past s behind below =
    let left = length-drop next entries in
    let most = behind.most in
    let ahead : All (λ entry. s < entry.sample) (drop next entries) = λ i d within.
    let here = ap (λ entry. entry.sample) (get_or-drop next entries i d) in
    let later = behind.after (next + i) d (omega arith) (omega (arith, within, left, most)) in
    omega (arith, here, later, below) in
    sym (up_to_ahead s (take next entries) (drop next entries) ahead) ∙ ap (up_to s) (take-append-drop next entries)

-- samples that hold a piece of the output are its frames
pub piece_frames : (frames_are : FramesAreInPlace) (scene : Scene) (input : List Frame) (entries taken : List Entry) (next past at n channels : ℕ) (samples : List ℤ)
    → (channels ≡ 1) ⊎ (channels ≡ 2) → scene.channels ≡ channels → length samples ≡ channels * n
    → taken ≡ take next entries → IsUpTo entries next past → at + n ≡ past
    → AreOut scene input taken at n samples
    → frames_of channels samples ≡ map (out_at scene input entries) (range_with_len at n)
piece_frames frames_are scene input entries taken next past at n channels samples one_or_two same long are behind end out =
    let place = frames_are channels n samples one_or_two long in
    same_lists (frames_of channels samples) (map (out_at scene input entries) (range_with_len at n))
    (place.0 ∙ sym (length-map-range_with_len (out_at scene input entries) at n))
    (λ i d below.
    let size = place.0 in
    let within : i < n = omega (arith, below, size) in
    get_or_default (frames_of channels samples) i d [] below
    ∙ place.1 i within
    ∙ ap (λ c. frame_at c n samples i) (sym same)
    ∙ out i within
    ∙ out_same scene input taken entries (at + i) (ap (up_to (at + i)) are ∙ up_to_taken entries next past (at + i) behind (omega (arith, within, end)))
    ∙ sym (get_or-map-range_with_len (out_at scene input entries) at n i (at + i) d within refl))

-- a piece of the sound is a piece of the input
pub piece_input : (class_of : ℕ → Class) (kept : Kept) (score : Score) (input : List Frame) (at n : ℕ) (ins : List ℤ)
    → IsScoreOf kept score → kept.at ≡ at → at + n ≤ score.length → IsInput (scene_in class_of kept) input score.sound.now
    → ((place : ℕ) → place < n → frame_at score.sound.now.channels n ins place ≡ frame_at score.sound.now.channels score.sound.now.frames score.sound.now.samples.items (at + place))
    → AreInput (scene_in class_of kept) input kept.at n ins
piece_input class_of kept score input at n ins of here within sound cut place below =
    let scene = scene_in class_of kept in
    let samples = score.sound.now.samples.items in
    let long : score.sound.now.frames ≡ kept.session.length = of.frames ∙ of.samples in
    let size = of.samples in
    ap (λ c. frame_at c n ins place) (sym of.channels)
    ∙ cut place below
    ∙ ap (λ c. frame_at c score.sound.now.frames samples (at + place)) of.channels
    ∙ ap (λ m. frame_at kept.session.channels m samples (at + place)) long
    ∙ sound (at + place) (omega (arith, below, within, size))
    ∙ ap (input_at scene input) (let e : 0 + (at + place) ≡ kept.at + place = omega (arith, here) in e)
