-- An engine under way.
use Rattle.std.proofs.Common.{◌≡◌, ◌∙◌, ℕ, ◌+◌, ◌≤◌, false, List, length, take, sym, ap, subst, arith}
use Rattle.std.specs.Prelude.{All}
use Rattle.vh_num.specs.Frames.{Frame}
use Rattle.vh_plugin.specs.Class.{Class}
use Rattle.vh_meaning.specs.Scene.{Scene}
use Rattle.vh_meaning.specs.Rendering.{stops}
use Rattle.vh_engine.specs.Kept.{Kept, scene_in, IsSameEngine}
use Rattle.vh_engine.proofs.Rooms.{same_scene}
use Rattle.vh_render.specs.declared.room.Room.{Room}
use Rattle.vh_render.specs.declared.score.Score.{Score}
use Rattle.vh_render.specs.declared.sound.Sound.{Sound}
use Rattle.vh_render.specs.Playing.{MayFollow, IsScoreOf, IsPlayable, IsInput, IsUpTo, IsUnderWay}
use Rattle.vh_render.proofs.Between.{between, few_stops}

-- a score stays one of the engine's session
pub score_kept : (old new : Kept) (score : Score) → IsSameEngine old new → IsScoreOf old score → IsScoreOf new score
score_kept old new score same of =
    let P : ℕ → Type 0 = λ max. All (λ size. size ≤ max) score.pattern.now in
    record {
      samples = of.samples ∙ ap (λ s. s.length) (sym same.session);
      channels = of.channels ∙ ap (λ s. s.channels) (sym same.session);
      frames = of.frames;
      bits = of.bits;
      rate = of.rate;
      pattern = of.pattern;
      sizes = subst P (sym same.max) of.sizes;
      stops_are = of.stops_are;
    }

-- an engine before its first sample has taken nothing
pub way_begins : (class_of : ℕ → Class) (kept : Kept) (score : Score) (room : Room) → IsPlayable class_of kept score room → IsUnderWay class_of kept score 0 0
way_begins class_of kept score room playable =
    let P : ℕ → Type 0 = λ n. MayFollow (scene_in class_of kept) score.length n score.entries.now in
    let none : kept.room ≡ kept.room + length (stops (take 0 score.entries.now)) = omega arith in
    record {
      at_is = playable.begins;
      going = playable.going;
      score_of = playable.score_of;
      entries = subst P none playable.entries;
      up_to = record { most = omega arith; before = λ i d below. absurd (omega (arith, below)); after = λ i d from below. omega arith };
    }

-- and goes on by a block
pub way_goes_on : (class_of : ℕ → Class) (old new : Kept) (score : Score) (at n taken next : ℕ)
    → IsUnderWay class_of old score at taken → IsSameEngine old new
    → new.at ≡ old.at + n → new.flushed ≡ false → new.room + length (stops (between taken next score.entries.now)) ≡ old.room
    → IsUpTo score.entries.now next (at + n) → taken ≤ next
    → IsUnderWay class_of new score (at + n) next
way_goes_on class_of old new score at n taken next way same moved going left up_to later =
    let P : Scene → ℕ → Type 0 = λ scene m. MayFollow scene score.length m score.entries.now in
    let split = few_stops taken next score.entries.now later in
    let rest : old.room + length (stops (take taken score.entries.now)) ≡ new.room + length (stops (take next score.entries.now)) = omega (arith, split, left) in
    record {
      at_is = moved ∙ ap (λ a. a + n) way.at_is;
      going = going;
      score_of = score_kept old new score same way.score_of;
      entries = subst (P (scene_in class_of new)) rest (subst (λ scene. P scene (old.room + length (stops (take taken score.entries.now)))) (sym (same_scene class_of old new same)) way.entries);
      up_to = up_to;
    }

-- the sound stays the input's
pub input_kept : (class_of : ℕ → Class) (old new : Kept) (input : List Frame) (sound : Sound) → IsSameEngine old new → IsInput (scene_in class_of old) input sound → IsInput (scene_in class_of new) input sound
input_kept class_of old new input sound same is = let P : Scene → Type 0 = λ scene. IsInput scene input sound in subst P (sym (same_scene class_of old new same)) is
