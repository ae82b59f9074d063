-- What was read of an input and of a journal.
use Rattle.std.proofs.Common.{◌≡◌, ◌∙◌, ℕ, ◌+◌, ◌<◌, true, List, [], ◌∷◌, ◌++◌, length, take, map, get_or, Some, Ok, inl, inr, refl, sym, ap, subst, arith}
use Rattle.std.specs.Prelude.{IsSome, is_some, slice_index_or}
use Rattle.std.specs.List.{cons_option, range_with_len}
use Rattle.std.proofs.lemmas.Bool.{true≢false}
use Rattle.std.proofs.lemmas.List.{take_more}
use Rattle.std.proofs.lemmas.List.Elements.{filter_map-append}
use Rattle.std.proofs.lemmas.List.FromFn.{get_or-map-range_with_len}
use Rattle.vh_files.specs.Store.{told}
use Rattle.vh_num.specs.Frames.{Frame, frame_at}
use Rattle.vh_wav.specs.declared.head.Head.{Head}
use Rattle.vh_wav.specs.Heads.{IsHead}
use Rattle.vh_wav.specs.Frames.{HoldsFrames, frames_in, silence}
use Rattle.vh_params.specs.declared.command.Command.{Command}
use Rattle.vh_params.specs.declared.command.Command.TheVariants.{Begin, Perform, End, Tell}
use Rattle.vh_params.specs.declared.label.Words.{Words}
use Rattle.vh_journal.specs.declared.entry.Entry.{Entry}
use Rattle.vh_meaning.specs.Rendering.{message_sample, stops}
use Rattle.vh_render.specs.declared.sound.Sound.{Sound}
use Rattle.vh_answers.specs.Outside.{Store, ReadAs, OnlyReads}
use Rattle.vh_answers.specs.Steps.{Gives}
use Rattle.vh_host.specs.Commands.{input_step}
use Rattle.vh_host.specs.Input.{Heard, IsHeard, head_in}

-- one entry more
pub stops_more : (h : List Entry) (i : ℕ) (entry : Entry) → i < length h → entry ≡ get_or h i entry → stops (take (i + 1) h) ≡ stops (take i h) ++ stops (entry ∷ [])
stops_more h i entry lt is =
    ap stops (take_more h i entry lt)
    ∙ ap (λ (e : Entry). stops (take i h ++ e ∷ [])) (sym is)
    ∙ filter_map-append (λ (e : Entry). message_sample e.sample e.command) (take i h) (entry ∷ [])

pub told_stop : (entry : Entry) (node : ℕ) (words : Words) → entry.command ≡ Tell node words → stops (entry ∷ []) ≡ entry.sample ∷ []
told_stop entry node words is = ap (λ (c : Command). cons_option (message_sample entry.sample c) []) is

quiet_command : (sample : ℕ) (command : Command) → ((node : ℕ) (words : Words) → command ≡ Tell node words → ⊥) → cons_option (message_sample sample command) [] ≡ []
quiet_command sample (Begin node id) other = refl
quiet_command sample (Perform node id value) other = refl
quiet_command sample (End node id) other = refl
quiet_command sample (Tell node words) other = absurd (other node words refl)

pub quiet_stop : (entry : Entry) → ((node : ℕ) (words : Words) → entry.command ≡ Tell node words → ⊥) → stops (entry ∷ []) ≡ []
quiet_stop entry other = quiet_command entry.sample entry.command other

-- a file that was read is there, where the store tells all
pub there_if_read : (s b : Store) (name : List ℕ) (Holds : List ℕ → Type 0) → OnlyReads s b → ReadAs s name Holds → b.complete ≡ true → IsSome (told b.held name)
there_if_read s b name Holds only (inl there) all = ap is_some (ap (λ held. told held name) only.held ∙ there.1)
there_if_read s b name Holds only (inr gone) all = absurd (true≢false (sym all ∙ only.complete ∙ gone.0))

-- sound that was read is what is heard: the file's frames, or its own where the file isn't told
pub heard : (s b : Store) (name : List ℕ) (channels frames : ℕ) (head : Head) (sound : Sound) → OnlyReads s b → IsHead head → head.channels ≡ channels
    → ReadAs s name (λ bytes. head_in channels bytes ≡ Ok head)
    → ((bytes : List ℕ) → told b.held name ≡ Some bytes → HoldsFrames bytes head 0 frames sound.samples.items)
    → sound.channels ≡ head.channels → sound.frames ≡ frames
    → (given : Heard) × Gives s (input_step name channels) given × IsHeard channels frames given head.rate sound
heard s b name channels frames head sound only lawful same (inl (bytes, is, ok)) holds wide long = (
  record { rate = head.rate; frames = frames_in bytes head },
  inl (bytes, is, record { head = head; accepted = ok; rate_is = refl; frames_are = refl }),
  record {
    rate_is = refl;
    rate_most = lawful.rate;
    channels_are = wide ∙ same;
    frames_are = long;
    samples_are = λ place lt.
        let z : 0 + place ≡ place = omega arith in
        subst (λ n. frame_at n frames sound.samples.items place ≡ slice_index_or (frames_in bytes head) place (silence n)) same
        (holds bytes (ap (λ held. told held name) only.held ∙ is) place lt ∙ ap (λ k. slice_index_or (frames_in bytes head) k (silence head.channels)) z);
  },
)
heard s b name channels frames head sound only lawful same (inr gone) holds wide long =
    let its : List Frame = map (frame_at channels frames sound.samples.items) (range_with_len 0 frames) in (
      record { rate = head.rate; frames = its },
      inr gone,
      record {
        rate_is = refl;
        rate_most = lawful.rate;
        channels_are = wide ∙ same;
        frames_are = long;
        samples_are = λ place lt. sym (get_or-map-range_with_len (frame_at channels frames sound.samples.items) 0 frames place place (silence channels) lt (omega arith));
      },
    )
