-- What was written of a rendering, when its last entries are known.
use Rattle.std.proofs.Common.{◌≡◌, ◌∙◌, ℕ, ◌+◌, ◌-◌, ◌≤◌, List, [], ◌++◌, drop, refl, sym, ap, subst, append-nil, arith}
use Rattle.std.specs.Prelude.{All}
use Rattle.vh_num.specs.Frames.{Frame}
use Rattle.vh_plugin.specs.Class.{Class}
use Rattle.vh_journal.specs.declared.entry.Entry.{Entry}
use Rattle.vh_meaning.specs.Scene.{Scene}
use Rattle.vh_meaning.specs.Rendering.{rendering}
use Rattle.vh_engine.specs.Kept.{Kept, scene_in, Stands, IsSameEngine}
use Rattle.vh_engine.proofs.Rooms.{same_scene}
use Rattle.vh_stage.specs.Playing.{AreAt, IsRead, IsHeard, IsFront, frames_from}
use Rattle.vh_stage.proofs.Played.{frames_before, frames_more, at_is_from}
use Rattle.vh_live.specs.Heard.{IsFrontOf}

-- before the first sample nothing was written
pub heard_at_first : {F : Type 0} (reads wrote : F → List Frame → Type 0) (class_of : ℕ → Class) (kept : Kept) (frames : F) → kept.at ≡ 0 → ((input : List Frame) → Stands class_of kept input [])
    → (input before : List Frame) → reads frames input → wrote frames before → IsHeard reads wrote class_of kept frames input before []
heard_at_first reads wrote class_of kept frames begins stands input before has written = record {
  stands = stands input;
  reads_on = subst (λ (fs : List Frame). reads frames fs) (sym (ap (λ n. drop n input) begins)) has;
  written = subst (λ (fs : List Frame). wrote frames fs) (sym (ap (λ n. before ++ frames_from (scene_in class_of kept) input [] 0 n) begins ∙ append-nil before)) written;
}

pub read_at_first : {F : Type 0} (reads : F → List Frame → Type 0) (class_of : ℕ → Class) (kept : Kept) (frames : F) → kept.at ≡ 0 → ((input : List Frame) → Stands class_of kept input [])
    → (input : List Frame) → reads frames input → IsRead reads class_of kept frames input []
read_at_first reads class_of kept frames begins stands input has = record {
  stands = stands input;
  reads_on = subst (λ (fs : List Frame). reads frames fs) (sym (ap (λ n. drop n input) begins)) has;
}

-- entries at the length change no frame
whole : (scene : Scene) (input : List Frame) (journal more : List Entry) (samples : ℕ) → scene.length ≡ samples → AreAt samples more → frames_from scene input journal 0 samples ≡ rendering scene input (journal ++ more)
whole scene input journal more samples same are = frames_before scene input journal more samples (at_is_from samples more are) ∙ ap (frames_from scene input (journal ++ more) 0) (sym same)

-- what was written up to the length is the rendering
pub all_written : {F : Type 0} (reads wrote : F → List Frame → Type 0) (class_of : ℕ → Class) (old new : Kept) (frames : F) (input before : List Frame) (journal more : List Entry)
    → IsSameEngine old new → new.at ≡ old.session.length → AreAt old.session.length more → IsHeard reads wrote class_of new frames input before journal
    → wrote frames (before ++ rendering (scene_in class_of old) input (journal ++ more))
all_written reads wrote class_of old new frames input before journal more same ends are heard =
    subst (λ (fs : List Frame). wrote frames (before ++ fs))
    (ap (λ (scene : Scene). frames_from scene input journal 0 new.at) (same_scene class_of old new same) ∙ ap (frames_from (scene_in class_of old) input journal 0) ends
    ∙ whole (scene_in class_of old) input journal more old.session.length refl are) heard.written

-- and that is a front part of it
pub front_whole : {F : Type 0} (wrote : F → List Frame → Type 0) (frames : F) (cut before rendered : List Frame) → cut ≡ [] → wrote frames (before ++ rendered) → IsFrontOf wrote frames cut before rendered
front_whole wrote frames cut before rendered none written = record {
  pushed = rendered;
  written = written;
  front = ([], append-nil (rendered ++ cut) ∙ ap (λ (fs : List Frame). rendered ++ fs) none ∙ append-nil rendered);
}

-- a front part of a rendering is one under further entries at the length
pub front_on : {F : Type 0} (wrote : F → List Frame → Type 0) (scene : Scene) (frames : F) (cut input before : List Frame) (journal more : List Entry) (samples : ℕ)
    → scene.length ≡ samples → AreAt samples more → IsFront wrote scene frames cut input before journal samples → IsFrontOf wrote frames cut before (rendering scene input (journal ++ more))
front_on wrote scene frames cut input before journal more samples same are front =
    let within = front.within in
    let past : All (λ (entry : Entry). front.count ≤ entry.sample) more = λ k d below. let is = are k d below in omega (arith, is, within) in
    let left : ℕ = samples - front.count in
    let all : front.count + left ≡ scene.length = omega (arith, within, same) in
    record {
      pushed = front.pushed;
      written = front.written;
      front = (
        frames_from scene input (journal ++ more) front.count left,
        ap (λ (fs : List Frame). fs ++ frames_from scene input (journal ++ more) front.count left) (front.front ∙ frames_before scene input journal more front.count past)
            ∙ frames_more scene input (journal ++ more) front.count left
            ∙ ap (frames_from scene input (journal ++ more) 0) all,
      );
    }

-- nothing of it was written
pub front_none : {F : Type 0} (wrote : F → List Frame → Type 0) (frames : F) (cut before rendered : List Frame) → cut ≡ [] → wrote frames before → IsFrontOf wrote frames cut before rendered
front_none wrote frames cut before rendered none written = record {
  pushed = [];
  written = subst (λ (fs : List Frame). wrote frames fs) (sym (append-nil before)) written;
  front = (rendered, ap (λ (fs : List Frame). fs ++ rendered) none);
}
