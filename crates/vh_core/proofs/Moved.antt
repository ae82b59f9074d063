-- What events make of what a machine keeps.
use Rattle.std.proofs.Common.{◌≡◌, ◌∙◌, ℕ, zero, suc, ◌+◌, ◌-◌, ◌≤◌, Bool, true, false, not, ◌&&◌, ◌==◌, cond, min, List, ◌++◌, length, map, take, drop, replicate, refl, sym, ap, arith}
use Rattle.std.specs.Prelude.{All, if◌then◌else◌}
use Rattle.std.specs.List.{range_with_len, flat_map}
use Rattle.std.proofs.lemmas.Bool.{eq-eqb}
use Rattle.std.proofs.lemmas.List.{take_min, drop_min}
use Rattle.std.proofs.lemmas.List.Elements.{All-append, All-map, All-take}
use Rattle.vh_num.specs.Frames.{Frame}
use Rattle.vh_plugin.specs.Class.{State as Held}
use Rattle.vh_journal.specs.declared.entry.Entry.{Entry}
use Rattle.vh_meaning.specs.Scene.{Scene}
use Rattle.vh_meaning.specs.World.{world, frame_at, input_at}
use Rattle.vh_meaning.specs.Values.{values_at}
use Rattle.vh_meaning.specs.Rendering.{out_at, seen_at, of_all, seen_before, last_values}
use Rattle.vh_meaning.specs.Mix.{arriving}
use Rattle.vh_session.specs.declared.wire.End.TheVariants.{Out}
use Rattle.vh_meaning.proofs.Later.{up_to_ahead, values_same, world_ahead}
use Rattle.vh_core.specs.declared.event.Event.TheVariants.{Audio, Flush}
use Rattle.vh_core.specs.declared.kept.Kept.{Kept}
use Rattle.vh_core.specs.declared.sent.Sent.{Sent}
use Rattle.vh_core.specs.State.{Setting, scene_in, State, seen}
use Rattle.vh_core.specs.Steps.{entry_at, take_in, replies_at, render, settle, tell, always, is_at_end, next}
use Rattle.vh_core.specs.Playing.{IsPlayable, ArePlayable}
use Rattle.vh_core.specs.Kept.{return_of, interleaved, samples_of, state_in, IsSameKept}
use Rattle.vh_core.proofs.Alone.{mix_long}
use Rattle.vh_core.proofs.Always.{same_state, echoes, tell_always}
use Rattle.vh_core.proofs.Interleaved.{IsFew, frames_more, still_whole}

-- what is seen hangs on no entry from here on
pub seen_ahead : (scene : Scene) (input : List Frame) (h k : List Entry) (pos : ℕ) → All (λ entry. pos ≤ entry.sample) k → seen_before scene input (h ++ k) pos ≡ seen_before scene input h pos
seen_ahead scene input h k zero behind = refl
seen_ahead scene input h k (suc s) behind =
    let values = values_same scene (h ++ k) h s (up_to_ahead s h k (λ i d lt. let far = behind i d lt in omega (arith, far))) in
    ap (λ (states : ℕ → Held). of_all scene (seen_at scene states (values_at scene (h ++ k) s))) (world_ahead scene input h k (suc s) behind)
    ∙ ap (λ (v : ℕ → List ℕ). of_all scene (seen_at scene (world scene input h (suc s)) v)) values

-- what is seen, by what it hangs on
abbrev seen_by : Setting → Bool → List Entry → ℕ → List ℕ
seen_by setting flushed journal pos = if flushed then last_values (scene_in setting) setting.input journal else seen_before (scene_in setting) setting.input journal pos

pub seen_alike : (setting : Setting) (a b : State) → a.flushed ≡ b.flushed → a.journal ≡ b.journal → a.pos ≡ b.pos → seen setting a ≡ seen setting b
seen_alike setting a b flushed journal pos =
    ap (λ (t : Bool). seen_by setting t a.journal a.pos) flushed ∙ ap (λ (l : List Entry). seen_by setting b.flushed l a.pos) journal ∙ ap (λ (n : ℕ). seen_by setting b.flushed b.journal n) pos

-- what is taken can be played
pub taken_playable : (count nodes sample : ℕ) (journal : List Entry) (inbox : List Sent) → ArePlayable nodes journal → All (λ sent. IsPlayable nodes sent.command) inbox
    → ArePlayable nodes (journal ++ map (entry_at sample) (take count inbox))
taken_playable count nodes sample journal inbox taken waits =
    All-append (λ (entry : Entry). IsPlayable nodes entry.command) journal (map (entry_at sample) (take count inbox)) taken
    (All-map (λ (entry : Entry). IsPlayable nodes entry.command) (entry_at sample) (take count inbox) (All-take (λ (sent : Sent). IsPlayable nodes sent.command) count inbox waits))

out_long : (setting : Setting) (h : List Entry) (s : ℕ) → length (out_at (scene_in setting) setting.input h s) ≡ setting.session.channels
out_long setting h s =
    let scene = scene_in setting in
    mix_long scene.channels (arriving scene.wires (input_at scene setting.input s) (frame_at scene setting.input h s) Out false)

-- what stays of what is kept
pub record IsStill (old new : Kept) : Type 0 where
  pub puts : new.puts.items ≡ old.puts.items
  pub controllers : new.controllers.items ≡ old.controllers.items

-- so many are taken, and so many samples are rendered
pub record HasGoneOn (setting : Setting) (count more : ℕ) (old new : Kept) : Type 0 where
  pub still : IsStill old new
  pub inbox : new.inbox.items ≡ drop count old.inbox.items
  pub journal : new.journal.items ≡ old.journal.items ++ map (entry_at old.pos) (take count old.inbox.items)
  pub pos : new.pos ≡ old.pos + more
  pub frames : new.frames.items ≡ old.frames.items ++ flat_map (out_at (scene_in setting) setting.input new.journal.items) (range_with_len old.pos more)
  pub flushed : new.flushed ≡ old.flushed
  pub returns : map return_of new.returns.items ≡ (map return_of old.returns.items ++ flat_map (replies_at setting new.journal.items) (range_with_len old.pos more)) ++ echoes old.values.items new.values.items
  pub values : new.values.items ≡ seen setting (state_in setting.session.channels new)

-- all are taken behind the last sample
pub record HasEnded (setting : Setting) (old new : Kept) : Type 0 where
  pub still : IsStill old new
  pub inbox : new.inbox.items ≡ drop (length old.inbox.items) old.inbox.items
  pub journal : new.journal.items ≡ old.journal.items ++ map (entry_at old.pos) (take (length old.inbox.items) old.inbox.items)
  pub pos : new.pos ≡ old.pos
  pub frames : new.frames.items ≡ old.frames.items
  pub flushed : new.flushed ≡ true
  pub returns : map return_of new.returns.items ≡ (map return_of old.returns.items ++ replies_at setting new.journal.items old.pos) ++ echoes old.values.items new.values.items
  pub values : new.values.items ≡ seen setting (state_in setting.session.channels new)

module _ (setting : Setting) (old new : Kept) (few : IsFew setting.session.channels) (was : old.values.items ≡ seen setting (state_in setting.session.channels old)) where
  abbrev channels : ℕ
  channels = setting.session.channels

  abbrev before : State
  before = state_in channels old

  module _ (count most more frames : ℕ) (going : old.flushed ≡ false) (all : count ≡ min most (length old.inbox.items)) (rest : more ≡ min frames ((scene_in setting).length - old.pos))
      (whole : samples_of (interleaved channels old.frames.items) ≡ old.frames.items) (played : HasGoneOn setting count more old new) where
    abbrev rendered : State
    rendered = render setting frames (take_in most before)

    inbox_is : new.inbox.items ≡ drop most old.inbox.items
    inbox_is = played.inbox ∙ ap (λ (n : ℕ). drop n old.inbox.items) all ∙ drop_min most old.inbox.items

    journal_is : new.journal.items ≡ rendered.journal
    journal_is =
        played.journal ∙ ap (λ (n : ℕ). old.journal.items ++ map (entry_at old.pos) (take n old.inbox.items)) all
        ∙ ap (λ (l : List Sent). old.journal.items ++ map (entry_at old.pos) l) (take_min most old.inbox.items)

    pos_is : new.pos ≡ rendered.pos
    pos_is = played.pos ∙ ap (λ (n : ℕ). old.pos + n) rest

    frames_are : interleaved channels new.frames.items ≡ rendered.frames
    frames_are =
        frames_more channels few (out_at (scene_in setting) setting.input new.journal.items) (out_long setting new.journal.items) old.frames.items new.frames.items (range_with_len old.pos more) whole played.frames
        ∙ ap (λ (h : List Entry). interleaved channels old.frames.items ++ map (out_at (scene_in setting) setting.input h) (range_with_len old.pos more)) journal_is
        ∙ ap (λ (n : ℕ). interleaved channels old.frames.items ++ map (out_at (scene_in setting) setting.input rendered.journal) (range_with_len old.pos n)) rest

    values_are : new.values.items ≡ seen setting rendered
    values_are = played.values ∙ seen_alike setting (state_in channels new) rendered played.flushed journal_is pos_is

    returns_are : map return_of new.returns.items ≡ rendered.returns ++ echoes (seen setting before) (seen setting rendered)
    returns_are =
        played.returns
        ∙ ap (λ (h : List Entry). (map return_of old.returns.items ++ flat_map (replies_at setting h) (range_with_len old.pos more)) ++ echoes old.values.items new.values.items) journal_is
        ∙ ap (λ (n : ℕ). (map return_of old.returns.items ++ flat_map (replies_at setting rendered.journal) (range_with_len old.pos n)) ++ echoes old.values.items new.values.items) rest
        ∙ ap (λ (l : List ℕ). rendered.returns ++ echoes l new.values.items) was
        ∙ ap (λ (l : List ℕ). rendered.returns ++ echoes (seen setting before) l) values_are

    pub audio_is : state_in channels new ≡ next setting always (Audio most frames) before
    audio_is =
        same_state (state_in channels new)
        (record rendered { returns = rendered.returns ++ echoes (seen setting before) (seen setting rendered); flags = replicate (length (seen setting rendered)) false })
        played.still.puts inbox_is journal_is pos_is frames_are played.flushed returns_are
        (ap (λ (l : List ℕ). replicate (length l) false) values_are) played.still.controllers
        ∙ sym (ap (λ (t : Bool). cond t before (tell setting always (seen setting before) rendered)) going ∙ tell_always setting (seen setting before) rendered (length old.values.items) refl)

    pub audio_whole : samples_of (interleaved channels new.frames.items) ≡ new.frames.items
    audio_whole =
        still_whole channels few (out_at (scene_in setting) setting.input new.journal.items) (out_long setting new.journal.items) old.frames.items new.frames.items (range_with_len old.pos more) whole played.frames

  module _ (going : old.flushed ≡ false) (end : old.pos ≡ (scene_in setting).length) (ended : HasEnded setting old new) where
    abbrev settled : State
    settled = settle setting (take_in (length old.inbox.items) before)

    last_are : new.values.items ≡ seen setting settled
    last_are = ended.values ∙ seen_alike setting (state_in channels new) settled ended.flushed ended.journal ended.pos

    last_returns : map return_of new.returns.items ≡ settled.returns ++ echoes (seen setting before) (seen setting settled)
    last_returns =
        ended.returns
        ∙ ap (λ (h : List Entry). (map return_of old.returns.items ++ replies_at setting h old.pos) ++ echoes old.values.items new.values.items) ended.journal
        ∙ ap (λ (l : List ℕ). settled.returns ++ echoes l new.values.items) was
        ∙ ap (λ (l : List ℕ). settled.returns ++ echoes (seen setting before) l) last_are

    at_end : is_at_end setting before ≡ true
    at_end = ap (λ (t : Bool). not t && (old.pos == (scene_in setting).length)) going ∙ eq-eqb old.pos (scene_in setting).length end

    pub flush_is : state_in channels new ≡ next setting always Flush before
    flush_is =
        same_state (state_in channels new)
        (record settled { returns = settled.returns ++ echoes (seen setting before) (seen setting settled); flags = replicate (length (seen setting settled)) false })
        ended.still.puts ended.inbox ended.journal ended.pos (ap (interleaved channels) ended.frames) ended.flushed last_returns
        (ap (λ (l : List ℕ). replicate (length l) false) last_are) ended.still.controllers
        ∙ sym (ap (λ (t : Bool). cond t (tell setting always (seen setting before) settled) before) at_end ∙ tell_always setting (seen setting before) settled (length old.values.items) refl)

-- nothing changed
pub same_kept : (channels : ℕ) (old new : Kept) → IsSameKept old new → state_in channels new ≡ state_in channels old
same_kept channels old new same =
    same_state (state_in channels new) (state_in channels old) same.puts same.inbox same.journal same.pos (ap (interleaved channels) same.frames) same.flushed
    (ap (map return_of) same.returns) (ap (λ (l : List ℕ). replicate (length l) false) same.values) same.controllers
