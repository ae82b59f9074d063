-- What waits is taken, and no sample is rendered.
use Rattle.std.proofs.Common.{◌≡◌, ◌∙◌, ℕ, suc, ◌+◌, Bool, true, false, cond, List, [], ◌++◌, length, map, take, drop, sym, ap, subst, arith}
use Rattle.std.specs.List.{range_with_len, flat_map}
use Rattle.std.proofs.lemmas.List.{append-nil}
use Rattle.vh_plugin.specs.Class.{State as Held}
use Rattle.vh_journal.specs.declared.entry.Entry.{Entry}
use Rattle.vh_meaning.specs.World.{world, after}
use Rattle.vh_num.specs.Frames.{Frame}
use Rattle.vh_meaning.specs.Values.{values_at}
use Rattle.vh_meaning.specs.Rendering.{out_at, seen_at, of_all, seen_before, last_values}
use Rattle.vh_meaning.proofs.Later.{world_ahead}
use Rattle.vh_core.specs.declared.kept.Kept.{Kept}
use Rattle.vh_core.specs.declared.sent.Sent.{Sent}
use Rattle.vh_core.specs.State.{Setting, scene_in, Return, seen}
use Rattle.vh_core.specs.Steps.{entry_at, replies_at}
use Rattle.vh_core.specs.Playing.{HaveStates}
use Rattle.vh_core.specs.Kept.{return_of, state_in, states_at, IsSameKept}
use Rattle.vh_core.proofs.Always.{echoes, no_echoes}
use Rattle.vh_core.proofs.Frames.{taken_at}
use Rattle.vh_core.proofs.Gone.{seen_going, seen_last, seen_at_pos}
use Rattle.vh_core.proofs.Moved.{HasGoneOn, HasEnded, seen_ahead}

-- the nodes' states hang on nothing that is taken now
pub ready_states : {P : Type 0} (state : P → Held) (setting : Setting) (processors : List P) (old : Kept) (journal : List Entry) (pos count : ℕ) → old.flushed ≡ false
    → journal ≡ old.journal.items ++ map (entry_at old.pos) (take count old.inbox.items) → pos ≡ old.pos
    → HaveStates state processors (states_at setting (state_in setting.session.channels old)) → HaveStates state processors (world (scene_in setting) setting.input journal pos)
ready_states state setting processors old journal pos count going taken at have =
    let scene = scene_in setting in
    let now : HaveStates state processors (world scene setting.input old.journal.items old.pos) =
    subst (λ (t : Bool). HaveStates state processors (cond t (after scene setting.input old.journal.items scene.length) (world scene setting.input old.journal.items old.pos))) going have in
    subst (HaveStates state processors)
    (sym (ap (λ (h : List Entry). world scene setting.input h pos) taken
    ∙ ap (λ (n : ℕ). world scene setting.input (old.journal.items ++ map (entry_at old.pos) (take count old.inbox.items)) n) at
    ∙ world_ahead scene setting.input old.journal.items (map (entry_at old.pos) (take count old.inbox.items)) old.pos (taken_at old.pos (take count old.inbox.items)))) now

-- what stays, and what is taken
pub record HasTaken (count : ℕ) (old new : Kept) : Type 0 where
  pub puts : new.puts.items ≡ old.puts.items
  pub controllers : new.controllers.items ≡ old.controllers.items
  pub inbox : new.inbox.items ≡ drop count old.inbox.items
  pub journal : new.journal.items ≡ old.journal.items ++ map (entry_at old.pos) (take count old.inbox.items)
  pub pos : new.pos ≡ old.pos
  pub frames : new.frames.items ≡ old.frames.items
  pub flushed : new.flushed ≡ old.flushed
  pub returns : new.returns.items ≡ old.returns.items
  pub values : new.values.items ≡ old.values.items

-- in a room that was made larger before
pub taken_in : (count : ℕ) (old mid new : Kept) → IsSameKept old mid → HasTaken count mid new → HasTaken count old new
taken_in count old mid new same taken = record {
  puts = taken.puts ∙ same.puts;
  controllers = taken.controllers ∙ same.controllers;
  inbox = taken.inbox ∙ ap (drop count) same.inbox;
  journal =
      taken.journal
      ∙ ap (λ (h : List Entry). h ++ map (entry_at mid.pos) (take count mid.inbox.items)) same.journal
      ∙ ap (λ (n : ℕ). old.journal.items ++ map (entry_at n) (take count mid.inbox.items)) same.pos
      ∙ ap (λ (l : List Sent). old.journal.items ++ map (entry_at old.pos) (take count l)) same.inbox;
  pos = taken.pos ∙ same.pos;
  frames = taken.frames ∙ same.frames;
  flushed = taken.flushed ∙ same.flushed;
  returns = taken.returns ∙ same.returns;
  values = taken.values ∙ same.values;
}

-- nothing else changed
pub gone_none : (setting : Setting) (count : ℕ) (old new : Kept) → HasTaken count old new → old.flushed ≡ false → old.values.items ≡ seen setting (state_in setting.session.channels old) → HasGoneOn setting count 0 old new
gone_none setting count old new taken going was =
    let channels = setting.session.channels in
    let scene = scene_in setting in
    let none : old.pos ≡ old.pos + 0 = omega arith in
    let returns = map return_of old.returns.items in
    record {
      still = record { puts = taken.puts; controllers = taken.controllers };
      inbox = taken.inbox;
      journal = taken.journal;
      pos = taken.pos ∙ none;
      frames = taken.frames ∙ sym (append-nil old.frames.items);
      flushed = taken.flushed;
      returns =
          ap (map return_of) taken.returns
          ∙ sym (ap (λ (l : List Return). (returns ++ []) ++ l) (no_echoes old.values.items new.values.items taken.values) ∙ append-nil (returns ++ []) ∙ append-nil returns);
      values =
          taken.values ∙ was ∙ seen_going setting (state_in channels old) going
          ∙ sym (seen_going setting (state_in channels new) (taken.flushed ∙ going)
          ∙ ap (λ (h : List Entry). seen_before scene setting.input h new.pos) taken.journal
          ∙ ap (λ (n : ℕ). seen_before scene setting.input (old.journal.items ++ map (entry_at old.pos) (take count old.inbox.items)) n) taken.pos
          ∙ seen_ahead scene setting.input old.journal.items (map (entry_at old.pos) (take count old.inbox.items)) old.pos (taken_at old.pos (take count old.inbox.items)));
    }

-- what a rendering makes of it
pub record HasRendered (setting : Setting) (more last : ℕ) (mid new : Kept) (between : List Return) : Type 0 where
  pub puts : new.puts.items ≡ mid.puts.items
  pub controllers : new.controllers.items ≡ mid.controllers.items
  pub inbox : new.inbox.items ≡ mid.inbox.items
  pub journal : new.journal.items ≡ mid.journal.items
  pub flushed : new.flushed ≡ mid.flushed
  pub pos : new.pos ≡ mid.pos + more
  pub last_is : new.pos ≡ suc last
  pub frames : new.frames.items ≡ mid.frames.items ++ flat_map (out_at (scene_in setting) [] mid.journal.items) (range_with_len mid.pos more)
  pub played : between ≡ map return_of mid.returns.items ++ flat_map (replies_at setting mid.journal.items) (range_with_len mid.pos more)
  pub returns : map return_of new.returns.items ≡ between ++ echoes mid.values.items new.values.items
  pub values : new.values.items ≡ of_all (scene_in setting) (seen_at (scene_in setting) (world (scene_in setting) [] mid.journal.items new.pos) (values_at (scene_in setting) mid.journal.items last))

pub gone_some : (setting : Setting) (count more last : ℕ) (old mid new : Kept) (between : List Return) → setting.input ≡ [] → old.flushed ≡ false → HasTaken count old mid → HasRendered setting more last mid new between → HasGoneOn setting count more old new
gone_some setting count more last old mid new between quiet going taken rendered =
    let channels = setting.session.channels in
    let scene = scene_in setting in
    let samples : ℕ → List ℕ = λ from. range_with_len from more in
    record {
      still = record { puts = rendered.puts ∙ taken.puts; controllers = rendered.controllers ∙ taken.controllers };
      inbox = rendered.inbox ∙ taken.inbox;
      journal = rendered.journal ∙ taken.journal;
      pos = rendered.pos ∙ ap (λ (n : ℕ). n + more) taken.pos;
      frames =
          rendered.frames
          ∙ ap (λ l. l ++ flat_map (out_at scene [] mid.journal.items) (samples mid.pos)) taken.frames
          ∙ ap (λ (n : ℕ). old.frames.items ++ flat_map (out_at scene [] mid.journal.items) (samples n)) taken.pos
          ∙ ap (λ (h : List Entry). old.frames.items ++ flat_map (out_at scene [] h) (samples old.pos)) (sym rendered.journal)
          ∙ ap (λ (i : List Frame). old.frames.items ++ flat_map (out_at scene i new.journal.items) (samples old.pos)) (sym quiet);
      flushed = rendered.flushed ∙ taken.flushed;
      returns =
          rendered.returns
          ∙ ap (λ (l : List Return). l ++ echoes mid.values.items new.values.items) rendered.played
          ∙ ap (λ (l : List ℕ). (map return_of mid.returns.items ++ flat_map (replies_at setting mid.journal.items) (samples mid.pos)) ++ echoes l new.values.items) taken.values
          ∙ ap (λ l. (map return_of l ++ flat_map (replies_at setting mid.journal.items) (samples mid.pos)) ++ echoes old.values.items new.values.items) taken.returns
          ∙ ap (λ (n : ℕ). (map return_of old.returns.items ++ flat_map (replies_at setting mid.journal.items) (samples n)) ++ echoes old.values.items new.values.items) taken.pos
          ∙ ap (λ (h : List Entry). (map return_of old.returns.items ++ flat_map (replies_at setting h) (samples old.pos)) ++ echoes old.values.items new.values.items) (sym rendered.journal);
      values =
          rendered.values ∙ seen_at_pos scene mid.journal.items new.pos last rendered.last_is
          ∙ ap (λ (h : List Entry). seen_before scene [] h new.pos) (sym rendered.journal)
          ∙ ap (λ (i : List Frame). seen_before scene i new.journal.items new.pos) (sym quiet)
          ∙ sym (seen_going setting (state_in channels new) (rendered.flushed ∙ taken.flushed ∙ going));
    }

-- and what the flush does
pub record HasClosed (setting : Setting) (mid new : Kept) (between : List Return) : Type 0 where
  pub puts : new.puts.items ≡ mid.puts.items
  pub controllers : new.controllers.items ≡ mid.controllers.items
  pub inbox : new.inbox.items ≡ mid.inbox.items
  pub journal : new.journal.items ≡ mid.journal.items
  pub frames : new.frames.items ≡ mid.frames.items
  pub flushed : new.flushed ≡ true
  pub pos : new.pos ≡ mid.pos
  pub answered : between ≡ map return_of mid.returns.items ++ replies_at setting mid.journal.items mid.pos
  pub returns : map return_of new.returns.items ≡ between ++ echoes mid.values.items new.values.items
  pub values : new.values.items ≡ of_all (scene_in setting) (seen_at (scene_in setting) (after (scene_in setting) [] mid.journal.items mid.pos) (values_at (scene_in setting) mid.journal.items mid.pos))

pub ended_all : (setting : Setting) (count : ℕ) (old mid new : Kept) (between : List Return) → setting.input ≡ [] → count ≡ length old.inbox.items → old.pos ≡ (scene_in setting).length → HasTaken count old mid → HasClosed setting mid new between
    → HasEnded setting old new
ended_all setting count old mid new between quiet all end taken closed =
    let channels = setting.session.channels in
    let scene = scene_in setting in
    let shown : ℕ → List Entry → List ℕ = λ pos h. of_all scene (seen_at scene (after scene [] h pos) (values_at scene h pos)) in
    record {
      still = record { puts = closed.puts ∙ taken.puts; controllers = closed.controllers ∙ taken.controllers };
      inbox = closed.inbox ∙ taken.inbox ∙ ap (λ (n : ℕ). drop n old.inbox.items) all;
      journal = closed.journal ∙ taken.journal ∙ ap (λ (n : ℕ). old.journal.items ++ map (entry_at old.pos) (take n old.inbox.items)) all;
      pos = closed.pos ∙ taken.pos;
      frames = closed.frames ∙ taken.frames;
      flushed = closed.flushed;
      returns =
          closed.returns
          ∙ ap (λ (l : List Return). l ++ echoes mid.values.items new.values.items) closed.answered
          ∙ ap (λ (l : List ℕ). (map return_of mid.returns.items ++ replies_at setting mid.journal.items mid.pos) ++ echoes l new.values.items) taken.values
          ∙ ap (λ l. (map return_of l ++ replies_at setting mid.journal.items mid.pos) ++ echoes old.values.items new.values.items) taken.returns
          ∙ ap (λ (n : ℕ). (map return_of old.returns.items ++ replies_at setting mid.journal.items n) ++ echoes old.values.items new.values.items) taken.pos
          ∙ ap (λ (h : List Entry). (map return_of old.returns.items ++ replies_at setting h old.pos) ++ echoes old.values.items new.values.items) (sym closed.journal);
      values =
          closed.values
          ∙ ap (λ (n : ℕ). shown n mid.journal.items) (taken.pos ∙ end)
          ∙ ap (shown scene.length) (sym closed.journal)
          ∙ ap (λ (i : List Frame). last_values scene i new.journal.items) (sym quiet)
          ∙ sym (seen_last setting (state_in channels new) closed.flushed);
    }
