-- What events keep.
use Rattle.std.proofs.Common.{◌≡◌, ◌∙◌, ◌⊎◌, inl, inr, ℕ, zero, suc, ◌-◌, ◌<◌, Bool, true, false, ◌==◌, cond, min, List, [], ◌∷◌, ◌++◌, length, map, filter, take, refl, sym, ap, subst, arith}
use Rattle.std.specs.Prelude.{All, slice_index, slice_index_or}
use Rattle.std.specs.List.{range_with_len, flat_map}
use Rattle.std.proofs.lemmas.Bool.{true≢false}
use Rattle.std.proofs.lemmas.List.{append-nil, ext_get_or}
use Rattle.std.proofs.lemmas.List.Elements.{All-tail}
use Rattle.vh_journal.specs.declared.entry.Entry.{Entry}
use Rattle.vh_meaning.specs.Rendering.{Answer, answers}
use Rattle.vh_core.specs.declared.event.Event.{Event}
use Rattle.vh_core.specs.declared.event.Event.TheVariants.{Put, Audio, Back, Flush}
use Rattle.vh_core.specs.declared.sent.Sent.{Sent}
use Rattle.vh_core.specs.State.{Setting, scene_in, Return, State, seen, at_first, begun}
use Rattle.vh_core.specs.Steps.{entry_at, take_in, replies_at, render, settle, tell, given, always, is_at_end, next}
use Rattle.vh_core.specs.Runs.{MayFollow, MayRun}
use Rattle.vh_core.specs.Sound.{entered_by, sent_of, KeepsEdits, KeepsFrames, KeepsValues, IsSound}
use Rattle.vh_core.specs.Laws.{KeptByEvents, SoundAfterEvents, EqualWhereSettled}
use Rattle.vh_core.proofs.Edits.{put_keeps, take_keeps}
use Rattle.vh_core.proofs.Frames.{front_same, taken_at, render_keeps}
use Rattle.vh_core.proofs.Shown.{seen_each}
use Rattle.vh_core.proofs.Told as told

-- an editor's edits

edits_next : (setting : Setting) (tells : ℕ → Bool) (event : Event) (state : State) → KeepsEdits setting state → KeepsEdits setting (next setting tells event state)
edits_next setting tells (Put editor word) state kept = λ other. put_keeps setting.session.nodes state.puts state.journal state.inbox editor other word (kept other)
edits_next setting tells (Audio count frames) state kept =
    elim state.flushed as (λ t. KeepsEdits setting (cond t state (tell setting tells (seen setting state) (render setting frames (take_in count state))))) [
      | true ↦ kept
      | false ↦ λ other. take_keeps other count state.pos state.journal state.inbox ∙ kept other
    ]
edits_next setting tells (Back count) state kept = kept
edits_next setting tells Flush state kept =
    elim (is_at_end setting state) as (λ t. KeepsEdits setting (cond t (tell setting always (seen setting state) (settle setting (take_in (length state.inbox) state))) state)) [
      | true ↦ λ other. take_keeps other (length state.inbox) state.pos state.journal state.inbox ∙ kept other
      | false ↦ kept
    ]

-- frames

frames_next : (setting : Setting) (tells : ℕ → Bool) (event : Event) (state : State) → KeepsFrames setting state → KeepsFrames setting (next setting tells event state)
frames_next setting tells (Put editor word) state kept = record { within = kept.within; frames = kept.frames }
frames_next setting tells (Audio count frames) state kept =
    elim state.flushed as (λ t. KeepsFrames setting (cond t state (tell setting tells (seen setting state) (render setting frames (take_in count state))))) [
      | true ↦ kept
      | false ↦
          let within = kept.within in
          record {
            within = omega (arith, within);
            frames = render_keeps (scene_in setting) setting.input state.frames state.journal (take count state.inbox) state.pos frames kept.within kept.frames;
          }
    ]
frames_next setting tells (Back count) state kept = record { within = kept.within; frames = kept.frames }
frames_next setting tells Flush state kept =
    elim (is_at_end setting state) as (λ t. KeepsFrames setting (cond t (tell setting always (seen setting state) (settle setting (take_in (length state.inbox) state))) state)) [
      | true ↦
          let all = take (length state.inbox) state.inbox in
          record {
            within = kept.within;
            frames = kept.frames ∙ sym (front_same (scene_in setting) setting.input state.journal (map (entry_at state.pos) all) state.pos kept.within (taken_at state.pos all));
          }
      | false ↦ kept
    ]

-- values

-- as long as what was given back to each place is what was seen before, or waits
abbrev IsBack : Setting → List ℕ → State → Type 0
IsBack setting old state =
    (place : ℕ) → place < length (at_first setting) → (slice_index (given state.returns state.controllers) place ≡ slice_index old place) ⊎ (slice_index_or state.flags place false ≡ true)

told_keeps : (setting : Setting) (tells : ℕ → Bool) (old : List ℕ) (state : State) → length state.controllers ≡ length (at_first setting) → IsBack setting old state → KeepsValues setting (tell setting tells old state)
told_keeps setting tells old state each back = record {
  each = each;
  back = λ place lt.
      let long = seen_each setting state in
      told.told_or_waits tells old (seen setting state) state.flags state.returns state.controllers place (omega (arith, long, lt)) (each ∙ sym long) (back place lt);
}

-- replies on their way give no controller a value
with_replies : (setting : Setting) (old : List ℕ) (state : State) (samples : List ℕ) (journal : List Entry)
    → IsBack setting old state → IsBack setting old (record state { returns = state.returns ++ flat_map (replies_at setting journal) samples })
with_replies setting old state samples journal back = λ place lt.
    let of_sample : ℕ → List Answer = λ s. filter (λ answer. answer.sample == s) (answers (scene_in setting) setting.input journal) in
    let same : given (state.returns ++ flat_map (replies_at setting journal) samples) state.controllers ≡ given state.returns state.controllers =
    told.given_append state.returns (flat_map (replies_at setting journal) samples) state.controllers
    ∙ told.given_all_replies of_sample samples (given state.returns state.controllers) in
    elim (back place lt) [
      | inl is ↦ inl (ap (λ l. slice_index l place) same ∙ is)
      | inr waits ↦ inr waits
    ]

values_next : (setting : Setting) (tells : ℕ → Bool) (event : Event) (state : State) → KeepsValues setting state → KeepsValues setting (next setting tells event state)
values_next setting tells (Put editor word) state kept = record { each = kept.each; back = kept.back }
values_next setting tells (Audio count frames) state kept =
    elim state.flushed as (λ t. KeepsValues setting (cond t state (tell setting tells (seen setting state) (render setting frames (take_in count state))))) [
      | true ↦ kept
      | false ↦
          let journal = state.journal ++ map (entry_at state.pos) (take count state.inbox) in
          let more = min frames ((scene_in setting).length - state.pos) in
          told_keeps setting tells (seen setting state) (render setting frames (take_in count state)) kept.each
          (with_replies setting (seen setting state) state (range_with_len state.pos more) journal kept.back)
    ]
values_next setting tells (Back count) state kept = record {
  each = told.given_long (take count state.returns) state.controllers ∙ kept.each;
  back = λ place lt. elim (kept.back place lt) [
    | inl is ↦ inl (ap (λ l. slice_index l place) (told.given_back count state.returns state.controllers) ∙ is)
    | inr waits ↦ inr waits
  ];
}
values_next setting tells Flush state kept =
    elim (is_at_end setting state) as (λ t. KeepsValues setting (cond t (tell setting always (seen setting state) (settle setting (take_in (length state.inbox) state))) state)) [
      | true ↦
          let journal = state.journal ++ map (entry_at state.pos) (take (length state.inbox) state.inbox) in
          let one : flat_map (replies_at setting journal) (state.pos ∷ []) ≡ replies_at setting journal state.pos = append-nil (replies_at setting journal state.pos) in
          told_keeps setting always (seen setting state) (settle setting (take_in (length state.inbox) state)) kept.each
          (subst (λ rs. IsBack setting (seen setting state) (record state { returns = state.returns ++ rs })) one (with_replies setting (seen setting state) state (state.pos ∷ []) journal kept.back))
      | false ↦ kept
    ]

pub law_kept_by_events : KeptByEvents
law_kept_by_events = record {
  edits = λ setting event before after follows kept. subst (KeepsEdits setting) (sym follows.1) (edits_next setting follows.0 event before kept);
  frames = λ setting event before after follows kept. subst (KeepsFrames setting) (sym follows.1) (frames_next setting follows.0 event before kept);
  values = λ setting event before after follows kept. subst (KeepsValues setting) (sym follows.1) (values_next setting follows.0 event before kept);
}

pub sound_next : (setting : Setting) (event : Event) (before after : State) → MayFollow setting event before after → IsSound setting before → IsSound setting after
sound_next setting event before after follows sound = record {
  edits = law_kept_by_events.edits setting event before after follows sound.edits;
  frames = law_kept_by_events.frames setting event before after follows sound.frames;
  values = law_kept_by_events.values setting event before after follows sound.values;
}

pub sound_run : (setting : Setting) (events : List Event) (before after : State) → MayRun setting events before after → IsSound setting before → IsSound setting after
sound_run setting [] before after run sound = subst (IsSound setting) (sym run) sound
sound_run setting (event ∷ events) before after run sound = sound_run setting events run.0 after run.2 (sound_next setting event before run.0 run.1 sound)

pub sound_begun : (setting : Setting) → IsSound setting (begun setting)
sound_begun setting = record {
  edits = λ editor. refl;
  frames = record { within = omega arith; frames = refl };
  values = record { each = refl; back = λ place lt. inl refl };
}

pub law_sound_after_events : SoundAfterEvents
law_sound_after_events setting events after run = sound_run setting events (begun setting) after run (sound_begun setting)

unset : (flags : List Bool) (place : ℕ) → All (λ flag. flag ≡ false) flags → slice_index_or flags place false ≡ false
unset [] zero none = refl
unset [] (suc place) none = refl
unset (flag ∷ flags) zero none = none 0 flag (omega arith)
unset (flag ∷ flags) (suc place) none = unset flags place (All-tail (λ (f : Bool). f ≡ false) flag flags none)

-- with nothing on its way back and no flag, controllers are what is seen
pub all_back : (setting : Setting) (state : State) → KeepsValues setting state → state.returns ≡ [] → All (λ flag. flag ≡ false) state.flags → state.controllers ≡ seen setting state
all_back setting state kept returned none =
    let long = seen_each setting state in
    let each = kept.each in
    ext_get_or 0 state.controllers (seen setting state) (each ∙ sym long) (λ place lt. elim (kept.back place (omega (arith, each, lt))) [
      | inl is ↦ ap (λ (l : List Return). slice_index (given l state.controllers) place) (sym returned) ∙ is
      | inr waits ↦ absurd (true≢false (sym waits ∙ unset state.flags place none))
    ])

pub law_equal_where_settled : EqualWhereSettled
law_equal_where_settled setting state sound settled = record {
  values = all_back setting state sound.values settled.returns settled.flags;
  edits = λ editor.
      sym (append-nil (entered_by editor state.journal))
      ∙ ap (λ (l : List Sent). entered_by editor state.journal ++ sent_of editor l) (sym settled.inbox)
      ∙ sound.edits editor;
}
