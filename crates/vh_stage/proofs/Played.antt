-- A block of a rendering, and what was written of it.
use Rattle.std.proofs.Common.{◌≡◌, ◌∙◌, ℕ, zero, suc, ◌+◌, ◌*◌, ◌<◌, ◌≤◌, List, [], ◌∷◌, ◌++◌, length, map, drop, get_or, ◌⊎◌, ℤ, refl, sym, ap, subst, append_assoc, append-nil, arith}
use Rattle.std.specs.Prelude.{All}
use Rattle.std.specs.List.{range_with_len}
use Rattle.std.proofs.lemmas.List.{get_or-drop, drop-drop, map-append, same_lists, get_or_default}
use Rattle.std.proofs.lemmas.List.FromFn.{length-map-range_with_len, get_or-map-range_with_len}
use Rattle.vh_num.specs.Frames.{Frame, frame_at, frames_of}
use Rattle.vh_num.specs.Laws.{FramesAreInPlace}
use Rattle.vh_wav.specs.Frames.{silence}
use Rattle.vh_wav.specs.Streams.{ArePulled}
use Rattle.vh_plugin.specs.Class.{Class, State}
use Rattle.vh_journal.specs.declared.entry.Entry.{Entry}
use Rattle.vh_meaning.specs.Scene.{Scene}
use Rattle.vh_meaning.specs.Edits.{up_to}
use Rattle.vh_meaning.specs.Values.{values_at}
use Rattle.vh_meaning.specs.Frames.{out_of, frame_of}
use Rattle.vh_meaning.specs.World.{input_at, told, world, after}
use Rattle.vh_meaning.specs.Rendering.{out_at}
use Rattle.vh_meaning.proofs.Later.{up_to_before, up_to_ahead, values_same, told_same, world_same}
use Rattle.vh_engine.specs.Kept.{Kept, scene_in, Stands, AreInput, AreOut, IsSameEngine}
use Rattle.vh_engine.proofs.Rooms.{same_scene}
use Rattle.vh_stage.specs.Playing.{AreAt, IsRead, IsHeard, IsFront, frames_from}

ranges : (a m n : ℕ) → range_with_len a (m + n) ≡ range_with_len a m ++ range_with_len (a + m) n
ranges a zero n = let e : zero + n ≡ n = omega arith in let f : a ≡ a + zero = omega arith in ap (range_with_len a) e ∙ ap (λ b. range_with_len b n) f
ranges a (suc m) n =
    let e : suc m + n ≡ suc (m + n) = omega arith in
    let f : a + 1 + m ≡ a + suc m = omega arith in
    ap (range_with_len a) e ∙ ap (λ (l : List ℕ). a ∷ l) (ranges (a + 1) m n ∙ ap (λ b. range_with_len (a + 1) m ++ range_with_len b n) f)

-- the output's frame hangs on the entries up to its sample alone
out_same : (scene : Scene) (input : List Frame) (h k : List Entry) (s : ℕ) → up_to s h ≡ up_to s k → out_at scene input h s ≡ out_at scene input k s
out_same scene input h k s same =
    let earlier = world_same scene input input h k s (λ t lt. refl) (λ t lt. up_to_before t s h k (omega (arith, lt)) same) in
    let states = told_same scene h k s (world scene input h s) same ∙ ap (told scene k s) earlier in
    ap (λ (x : ℕ → State). out_of scene (input_at scene input s) (frame_of scene x (values_at scene h s) (input_at scene input s))) states
    ∙ ap (λ (v : ℕ → List ℕ). out_of scene (input_at scene input s) (frame_of scene (after scene input k s) v (input_at scene input s))) (values_same scene h k s same)

-- the frames up to a sample, and those behind it
pub frames_more : (scene : Scene) (input : List Frame) (h : List Entry) (at n : ℕ) → frames_from scene input h 0 at ++ frames_from scene input h at n ≡ frames_from scene input h 0 (at + n)
frames_more scene input h at n =
    let e : at ≡ 0 + at = omega arith in
    sym (map-append (out_at scene input h) (range_with_len 0 at) (range_with_len at n))
    ∙ ap (map (out_at scene input h)) (ap (λ b. range_with_len 0 at ++ range_with_len b n) e ∙ sym (ranges 0 at n))

-- entries from a sample on change no frame before it
pub frames_before : (scene : Scene) (input : List Frame) (h more : List Entry) (at : ℕ) → All (λ entry. at ≤ entry.sample) more → frames_from scene input h 0 at ≡ frames_from scene input (h ++ more) 0 at
frames_before scene input h more at ahead =
    same_lists (frames_from scene input h 0 at) (frames_from scene input (h ++ more) 0 at)
    (length-map-range_with_len (out_at scene input h) 0 at ∙ sym (length-map-range_with_len (out_at scene input (h ++ more)) 0 at))
    (λ i d below.
    let size = length-map-range_with_len (out_at scene input h) 0 at in
    let within : i < at = omega (arith, below, size) in
    let past : All (λ entry. i < entry.sample) more = λ k e lt. let from = ahead k e lt in omega (arith, from, within) in
    get_or-map-range_with_len (out_at scene input h) 0 at i i d within (omega arith)
    ∙ sym (out_same scene input (h ++ more) h i (up_to_ahead i h more past))
    ∙ sym (get_or-map-range_with_len (out_at scene input (h ++ more)) 0 at i i d within (omega arith)))

pub at_is_from : (at : ℕ) (entries : List Entry) → AreAt at entries → All (λ entry. at ≤ entry.sample) entries
at_is_from at entries are = λ k d below. let is = are k d below in omega (arith, is)

-- what was pulled is the input
pub pulled_input : (class_of : ℕ → Class) (kept : Kept) (input : List Frame) (n channels : ℕ) (ins : List ℤ) → channels ≡ kept.session.channels → ArePulled channels (drop kept.at input) n ins → AreInput (scene_in class_of kept) input kept.at n ins
pulled_input class_of kept input n channels ins same pulled = subst (λ c. (place : ℕ) → place < n → frame_at c n ins place ≡ get_or input (kept.at + place) (silence c)) same (λ place below. pulled place below ∙ get_or-drop kept.at input place (silence channels))

-- samples that came out are the frames of the block
pub out_frames : FramesAreInPlace → (scene : Scene) (input : List Frame) (h : List Entry) (at n channels : ℕ) (outs : List ℤ) → (channels ≡ 1) ⊎ (channels ≡ 2) → scene.channels ≡ channels → length outs ≡ channels * n
    → AreOut scene input h at n outs → frames_of channels outs ≡ frames_from scene input h at n
out_frames frames_are scene input h at n channels outs one_or_two same long out =
    let place = frames_are channels n outs one_or_two long in
    same_lists (frames_of channels outs) (frames_from scene input h at n)
    (place.0 ∙ sym (length-map-range_with_len (out_at scene input h) at n))
    (λ i d below.
    let size = place.0 in
    let within : i < n = omega (arith, below, size) in
    get_or_default (frames_of channels outs) i d [] below ∙ place.1 i within ∙ ap (λ c. frame_at c n outs i) (sym same) ∙ out i within
    ∙ sym (get_or-map-range_with_len (out_at scene input h) at n i (at + i) d within refl))

-- what was written, and a block more
pub written_more : (scene : Scene) (input before : List Frame) (h more : List Entry) (at n : ℕ) (frames : List Frame) → AreAt at more → frames ≡ frames_from scene input (h ++ more) at n
    → (before ++ frames_from scene input h 0 at) ++ frames ≡ before ++ frames_from scene input (h ++ more) 0 (at + n)
written_more scene input before h more at n frames are is =
    append_assoc before (frames_from scene input h 0 at) frames
    ∙ ap (λ (fs : List Frame). before ++ fs) (ap (λ (fs : List Frame). fs ++ frames) (frames_before scene input h more at (at_is_from at more are)) ∙ ap (λ (fs : List Frame). frames_from scene input (h ++ more) 0 at ++ fs) is ∙ frames_more scene input (h ++ more) at n)

-- A block that was played carries a rendering on. The input had f, then g behind its frames, then k behind what was added.
module _ {F : Type 0} (frames_are : FramesAreInPlace) (reads wrote : F → List Frame → Type 0) (class_of : ℕ → Class) (old new : Kept) (f g k : F) (more : List Entry) (n channels : ℕ) (ins outs : List ℤ)
    (same : IsSameEngine old new) (moved : new.at ≡ old.at + n) (are : AreAt old.at more)
    (channels_are : channels ≡ old.session.channels) (one_or_two : (channels ≡ 1) ⊎ (channels ≡ 2)) (long : length outs ≡ channels * n)
    (pulled : (input : List Frame) → reads f input → ArePulled channels input n ins) (left : (input : List Frame) → reads f input → reads g (drop n input))
    (stands : (input : List Frame) (h : List Entry) → Stands class_of old input h → AreInput (scene_in class_of old) input old.at n ins → Stands class_of new input (h ++ more))
    (out : (input : List Frame) (h : List Entry) → Stands class_of old input h → AreInput (scene_in class_of old) input old.at n ins → AreOut (scene_in class_of old) input (h ++ more) old.at n outs)
    (wrote_on : (frames : List Frame) → wrote f frames → wrote g frames) where
  comes : (input before : List Frame) (h : List Entry) → IsHeard reads wrote class_of old f input before h → AreInput (scene_in class_of old) input old.at n ins
  comes input before h heard = pulled_input class_of old input n channels ins channels_are (pulled (drop old.at input) heard.reads_on)

  pub block_frames : (input before : List Frame) (h : List Entry) → IsHeard reads wrote class_of old f input before h → frames_of channels outs ≡ frames_from (scene_in class_of old) input (h ++ more) old.at n
  block_frames input before h heard = out_frames frames_are (scene_in class_of old) input (h ++ more) old.at n channels outs one_or_two (sym channels_are) long (out input h heard.stands (comes input before h heard))

  pub read_more : (reads_on : (input : List Frame) → reads g input → reads k input) → (input : List Frame) (h : List Entry) → IsRead reads class_of old f input h → IsRead reads class_of new k input (h ++ more)
  read_more reads_on input h read =
      let R : List Frame → Type 0 = λ fs. reads k fs in
      let given : AreInput (scene_in class_of old) input old.at n ins = pulled_input class_of old input n channels ins channels_are (pulled (drop old.at input) read.reads_on) in
      record {
        stands = stands input h read.stands given;
        reads_on = subst R (drop-drop n old.at input ∙ ap (λ a. drop a input) (sym moved)) (reads_on (drop n (drop old.at input)) (left (drop old.at input) read.reads_on));
      }

  pub heard_more : (added : (frames : List Frame) → wrote g frames → wrote k (frames ++ frames_of channels outs)) (reads_on : (input : List Frame) → reads g input → reads k input)
      → (input before : List Frame) (h : List Entry) → IsHeard reads wrote class_of old f input before h → IsHeard reads wrote class_of new k input before (h ++ more)
  heard_more added reads_on input before h heard =
      let R : List Frame → Type 0 = λ fs. reads k fs in
      let W : List Frame → Type 0 = λ fs. wrote k fs in
      record {
        stands = stands input h heard.stands (comes input before h heard);
        reads_on = subst R (drop-drop n old.at input ∙ ap (λ a. drop a input) (sym moved)) (reads_on (drop n (drop old.at input)) (left (drop old.at input) heard.reads_on));
        written = subst W
            (written_more (scene_in class_of old) input before h more old.at n (frames_of channels outs) are (block_frames input before h heard)
            ∙ ap (λ a. before ++ frames_from (scene_in class_of old) input (h ++ more) 0 a) (sym moved)
            ∙ ap (λ (scene : Scene). before ++ frames_from scene input (h ++ more) 0 new.at) (sym (same_scene class_of old new same)))
            (added (before ++ frames_from (scene_in class_of old) input h 0 old.at) (wrote_on (before ++ frames_from (scene_in class_of old) input h 0 old.at) heard.written));
      }

  -- what couldn't be added is the block
  pub cut_more : (cut : List Frame) → cut ≡ frames_of channels outs → (still : (frames : List Frame) → wrote g frames → wrote k frames)
      → (input before : List Frame) (h : List Entry) → IsHeard reads wrote class_of old f input before h → IsFront wrote (scene_in class_of old) k cut input before (h ++ more) (old.at + n)
  cut_more cut is still input before h heard =
      let scene = scene_in class_of old in
      record {
        pushed = frames_from scene input h 0 old.at;
        count = old.at + n;
        within = omega arith;
        written = still (before ++ frames_from scene input h 0 old.at) (wrote_on (before ++ frames_from scene input h 0 old.at) heard.written);
        front = ap (λ (fs : List Frame). fs ++ cut) (frames_before scene input h more old.at (at_is_from old.at more are))
            ∙ ap (λ (fs : List Frame). frames_from scene input (h ++ more) 0 old.at ++ fs) (is ∙ block_frames input before h heard)
            ∙ frames_more scene input (h ++ more) old.at n;
      }

-- where nothing was played, what was written is as it was
pub front_still : {F : Type 0} (reads wrote : F → List Frame → Type 0) (class_of : ℕ → Class) (old : Kept) (f k : F) (more : List Entry) (n : ℕ) (cut : List Frame) → AreAt old.at more → cut ≡ []
    → (still : (frames : List Frame) → wrote f frames → wrote k frames)
    → (input before : List Frame) (h : List Entry) → IsHeard reads wrote class_of old f input before h → IsFront wrote (scene_in class_of old) k cut input before (h ++ more) (old.at + n)
front_still reads wrote class_of old f k more n cut are none still input before h heard =
    let scene = scene_in class_of old in
    record {
      pushed = frames_from scene input h 0 old.at;
      count = old.at;
      within = omega arith;
      written = still (before ++ frames_from scene input h 0 old.at) heard.written;
      front = ap (λ (fs : List Frame). frames_from scene input h 0 old.at ++ fs) none ∙ append-nil (frames_from scene input h 0 old.at) ∙ frames_before scene input h more old.at (at_is_from old.at more are);
    }

-- a block that couldn't be added has a frame
pub cut_some : FramesAreInPlace → (channels n : ℕ) (outs : List ℤ) (cut : List Frame) → (channels ≡ 1) ⊎ (channels ≡ 2) → length outs ≡ channels * n → 1 ≤ n → cut ≡ frames_of channels outs → cut ≡ [] → ⊥
cut_some frames_are channels n outs cut one_or_two long some is none =
    let size = (frames_are channels n outs one_or_two long).0 in
    let empty : length (frames_of channels outs) ≡ 0 = ap length (sym is ∙ none) in
    omega (arith, size, empty, some)

-- a rendering under way has written a front part
pub heard_front : {F : Type 0} (reads wrote : F → List Frame → Type 0) (class_of : ℕ → Class) (old new : Kept) (k : F) (cut : List Frame) (most : ℕ) → IsSameEngine old new → cut ≡ [] → new.at ≤ most
    → (input before : List Frame) (journal : List Entry) → IsHeard reads wrote class_of new k input before journal → IsFront wrote (scene_in class_of old) k cut input before journal most
heard_front reads wrote class_of old new k cut most same none within input before journal heard =
    let pushed = frames_from (scene_in class_of new) input journal 0 new.at in
    record {
      pushed = pushed;
      count = new.at;
      within = within;
      written = heard.written;
      front = ap (λ (fs : List Frame). pushed ++ fs) none ∙ append-nil pushed ∙ ap (λ (scene : Scene). frames_from scene input journal 0 new.at) (same_scene class_of old new same);
    }

-- a front part up to a sample is one up to a later sample, and of a journal with the same entries
pub front_later : {F : Type 0} (wrote : F → List Frame → Type 0) (scene other : Scene) (k : F) (cut input before : List Frame) (journal whole : List Entry) (most more : ℕ) → scene ≡ other → journal ≡ whole → most ≤ more
    → IsFront wrote scene k cut input before journal most → IsFront wrote other k cut input before whole more
front_later wrote scene other k cut input before journal whole most more same is within front =
    let less = front.within in
    record {
      pushed = front.pushed;
      count = front.count;
      within = omega (arith, less, within);
      written = front.written;
      front = front.front ∙ ap (λ (s : Scene). frames_from s input journal 0 front.count) same ∙ ap (λ (h : List Entry). frames_from other input h 0 front.count) is;
    }
