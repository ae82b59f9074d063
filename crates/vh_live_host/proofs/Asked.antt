-- What is asked, and when it is refused.
use Rattle.std.proofs.Common.{◌≡◌, ◌∙◌, ℕ, Bool, true, false, cond, List, [], ◌∷◌, length, Option, Some, None, inl, inr, refl, sym, subst}
use Rattle.std.specs.Prelude.{codes}
use Rattle.std.specs.Option.{option_map}
use Rattle.std.specs.Str.{bytes_eq}
use Rattle.vh_preset.specs.Contents.{Contents}
use Rattle.vh_session.specs.Content.{Content}
use Rattle.vh_answers.specs.declared.status.Status.{Status}
use Rattle.vh_answers.specs.Outside.{Store, Outside}
use Rattle.vh_answers.specs.Steps.{Stopped, Answers, Done, Refused, Cut, Unsaid, NoMemory, IsUnhindered, IsDone}
use Rattle.vh_answers.proofs.Stages.{AllDecided, done}
use Rattle.vh_reading.specs.Reading.{node_step}
use Rattle.vh_host.specs.Words.{behind_files}
use Rattle.vh_host.specs.Known.{Known}
use Rattle.vh_host.specs.Named.{IsSize}
use Rattle.vh_host.specs.Commands.{accepted_steps}
use Rattle.vh_host.proofs.Decided.{opened_decided, heard_one, heard_never}
use Rattle.vh_host.proofs.Opened.{each_on}
use Rattle.vh_host.proofs.Sized.{Of, size_behind}
use Rattle.vh_live_host.specs.Words.{Live, files_in, live_in}
use Rattle.vh_live_host.specs.Commands.{input_steps, begun_steps, live_steps, steps_in, nothing_more, read_steps, asked_in}

-- ---- the size of blocks that words give
live_sized : (of : Option ℕ → Live) → ((block : Option ℕ) → (of block).block ≡ block) → (block : Option (Option ℕ)) → Of IsSize block → Of (λ live. IsSize live.block) (option_map of block)
live_sized of keeps None is = tt
live_sized of keeps (Some block) is = subst IsSize (sym (keeps block)) is

files_sized : (words : List (List ℕ)) → Of (λ live. IsSize live.block) (files_in words)
files_sized [] = tt
files_sized (session ∷ []) = tt
files_sized (session ∷ input ∷ []) = tt
files_sized (session ∷ input ∷ output ∷ []) = tt
files_sized (session ∷ input ∷ output ∷ journal ∷ words) =
    live_sized (λ block. record { session = session; input = input; output = output; journal = journal; block = block }) (λ block. refl) (behind_files words) (size_behind words)

either : (b : Bool) (one : Option Live) → Of (λ live. IsSize live.block) one → Of (λ live. IsSize live.block) (cond b one None)
either true one is = is
either false one is = tt

all_sized : (words : List (List ℕ)) → Of (λ live. IsSize live.block) (live_in words)
all_sized [] = tt
all_sized (word ∷ words) = either (bytes_eq word (codes "live")) (files_in words) (files_sized words)

pub is_sized : (words : List (List ℕ)) (live : Live) → Some live ≡ live_in words → IsSize live.block
is_sized words live is = subst (Of (λ live. IsSize live.block)) (sym is) (all_sized words)

-- ---- what is read is decided by the files
pub asked_decided : (known : Known) (words : List (List ℕ)) → AllDecided (asked_in known words)
asked_decided known words = (
  (λ live fault some none. let e : Some live ≡ None = sym some ∙ none in cc),
  inl (λ live other one two. let e : Some live ≡ Some other = sym one ∙ two in cc),
  (λ live. opened_decided known live.session (λ content presets. input_steps live content nothing_more)
      (λ content presets. (heard_never content.channels, inl (heard_one content.channels), (λ heard. tt)))),
)

-- ---- what stops it stops what is read
module _ (old new : Store) (known : Known) (answer : Status) where
  input_first : (live : Live) (content : Content) (presets : List (Option Contents)) → Stopped old new (begun_steps known live content presets) answer → Stopped old new (input_steps live content nothing_more) answer
  input_first live content presets (inl stops) = inl stops
  input_first live content presets (inr (heard, gives, inl faulty)) = absurd faulty.0
  input_first live content presets (inr (heard, gives, inr (played, legal, none))) = absurd none

  accepted_first : (live : Live) (content : Content) (presets : List (Option Contents))
      → Stopped old new (accepted_steps known content (begun_steps known live content) presets) answer
      → Stopped old new (accepted_steps known content (λ ps. input_steps live content nothing_more) presets) answer
  accepted_first live content presets (inl stops) = inl stops
  accepted_first live content presets (inr (are, gives, more)) = inr (are, gives, input_first live content presets more)

  session_first : (live : Live) → Stopped old new (live_steps known live) answer → Stopped old new (read_steps known live) answer
  session_first live (inl stops) = inl stops
  session_first live (inr (content, gives, more)) = inr (
    content,
    gives,
    each_on old new (node_step content) 0 (length content.nodes) [] (accepted_steps known content (begun_steps known live content)) (accepted_steps known content (λ ps. input_steps live content nothing_more)) answer
        (accepted_first live content) more,
  )

  words_first : (words : List (List ℕ)) → Stopped old new (steps_in known words) answer → Stopped old new (asked_in known words) answer
  words_first words (inl stops) = inl stops
  words_first words (inr (live, is, more)) = inr (live, is, session_first live more)

-- what is read from files that are told and accepted, while no count rises, is done
pub completed : (Counts : ℕ → Type 0) (o : Outside) (known : Known) (words : List (List ℕ)) (answer : Status) → IsUnhindered o (asked_in known words) → Answers Counts o (steps_in known words) answer → IsDone answer
completed Counts o known words answer free (Done e passed) = inl e
completed Counts o known words answer free (Refused refuses stopped same line) =
    done Counts o (asked_in known words) answer (asked_decided known words) free (Refused refuses (words_first o.old o.new known answer words stopped) same line)
completed Counts o known words answer free (Cut place e refuses passed rose line) = absurd (free.writes rose)
completed Counts o known words answer free (Unsaid e passed rose) = absurd (free.faults rose)
completed Counts o known words answer free (NoMemory e same unsaid) = inr e
