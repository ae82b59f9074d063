-- How a command goes on behind a session and its presets, and how it ends at one of them.
use Rattle.std.proofs.Common.{ℕ, zero, suc, ◌+◌, List, [], ◌∷◌, ◌++◌, length, get_or, Option, Some, inl, inr, refl}
use Rattle.vh_preset.specs.declared.fault.PresetRefusal.{PresetRefusal}
use Rattle.vh_preset.specs.Contents.{Contents}
use Rattle.vh_session.specs.Content.{Content}
use Rattle.vh_instance.specs.Presets.{IsFirstRefused}
use Rattle.vh_answers.specs.declared.status.Status.{Status}
use Rattle.vh_answers.specs.declared.status.Status.TheVariants as status
use Rattle.vh_answers.specs.Outside.{Store, Outside, OnlyReads}
use Rattle.vh_answers.specs.Each.{each_then, AllGive, OneHalts}
use Rattle.vh_answers.specs.Steps.{Step, Steps, Gives, Halts, Stopped, Halted, Ends}
use Rattle.vh_answers.proofs.Stages.{after, gives_since, first_halted, later_halted, halted_since}
use Rattle.vh_answers.proofs.Each.{each_after, each_halted, each_later}
use Rattle.vh_reading.specs.Reading.{node_step}
use Rattle.vh_host.specs.Known.{Known, plan_of}
use Rattle.vh_host.specs.Commands.{session_step, accepted_step, accepted_steps, presets_steps, session_steps, no_more}
use Rattle.vh_host.specs.Opened.{IsOpened}

-- an ending of what follows a session that was opened is one from the session on
pub opened_ends : (Line : Status → Type 0) (Counts : ℕ → Type 0) (o : Outside) (known : Known) (name : List ℕ) (content : Content) (presets : List (Option Contents)) (next : Content → List (Option Contents) → Steps) (answer : Status)
    → IsOpened o.old known name content presets → Ends Line Counts o (next content presets) answer → Ends Line Counts o (session_steps known name next) answer
opened_ends Line Counts o known name content presets next answer opened ends =
    after Line Counts o Content (session_step known.infos name) (λ (c : Content). presets_steps known c (next c)) content answer opened.session
    (each_after Line Counts o (node_step content) (length content.nodes) presets (accepted_steps known content (next content)) answer opened.given
    (after Line Counts o (Unit {0}) (accepted_step known content presets) (λ accepted. next content presets) tt answer opened.accepted ends))

-- a session halts the command
pub session_halted : (old new : Store) (known : Known) (name : List ℕ) (next : Content → List (Option Contents) → Steps) (answer : Status)
    → Halts old new (session_step known.infos name) answer → Halted old new (session_steps known name next) answer
session_halted old new known name next answer halts = first_halted old new Content (session_step known.infos name) (λ (c : Content). presets_steps known c (next c)) answer halts

-- one of its presets does
pub presets_halted : (old mid new : Store) (known : Known) (name : List ℕ) (content : Content) (next : Content → List (Option Contents) → Steps) (answer : Status)
    → OnlyReads old mid → Gives old (session_step known.infos name) content → OneHalts mid new (node_step content) (length content.nodes) answer → Halted old new (session_steps known name next) answer
presets_halted old mid new known name content next answer only given halts =
    later_halted old new Content (session_step known.infos name) (λ (c : Content). presets_steps known c (next c)) content answer given
    (halted_since old mid new (presets_steps known content (next content)) answer only
    (each_halted mid new (node_step content) (length content.nodes) (accepted_steps known content (next content)) answer halts))

-- or the first that isn't one of its node's class
pub refused_halted : (old mid new : Store) (known : Known) (name : List ℕ) (content : Content) (presets : List (Option Contents)) (next : Content → List (Option Contents) → Steps) (node : ℕ) (kind : PresetRefusal)
    → OnlyReads old mid → Gives old (session_step known.infos name) content → AllGive mid (node_step content) (length content.nodes) presets → IsFirstRefused (plan_of known content presets 0) node kind
    → Halted old new (session_steps known name next) (status.PresetRefused (Some node) kind)
refused_halted old mid new known name content presets next node kind only given all refused =
    let answer : Status = status.PresetRefused (Some node) kind in
    later_halted old new Content (session_step known.infos name) (λ (c : Content). presets_steps known c (next c)) content answer given
    (halted_since old mid new (presets_steps known content (next content)) answer only
    (each_later mid new (node_step content) (length content.nodes) presets (accepted_steps known content (next content)) answer all
    (first_halted mid new (Unit {0}) (accepted_step known content presets) (λ accepted. next content presets) answer (inl (tt, ((node, kind), refl, refused))))))

-- presets that were read behind the session
pub given_since : (old mid : Store) (content : Content) (presets : List (Option Contents)) → OnlyReads old mid → AllGive mid (node_step content) (length content.nodes) presets → AllGive old (node_step content) (length content.nodes) presets
given_since old mid content presets only all = record { each = all.each; gives = λ node d lt. gives_since old mid (Option Contents) (node_step content node) (get_or presets node d) only (all.gives node d lt) }

-- what halts at a session or at its presets halts whatever follows
pub each_on : {X : Type 0} (old new : Store) (step : ℕ → Step X) (from left : ℕ) (given : List X) (first second : List X → Steps) (answer : Status)
    → ((xs : List X) → Stopped old new (first xs) answer → Stopped old new (second xs) answer) → Stopped old new (each_then step from left given first) answer → Stopped old new (each_then step from left given second) answer
each_on old new step from zero given first second answer onto stopped = onto given stopped
each_on old new step from (suc left) given first second answer onto (inl stops) = inl stops
each_on old new step from (suc left) given first second answer onto (inr more) = inr (more.0, more.1, each_on old new step (from + 1) left (given ++ more.0 ∷ []) first second answer onto more.2)

accepted_on : (old new : Store) (known : Known) (content : Content) (next : List (Option Contents) → Steps) (answer : Status) (presets : List (Option Contents))
    → Stopped old new (accepted_steps known content (no_more content) presets) answer → Stopped old new (accepted_steps known content next presets) answer
accepted_on old new known content next answer presets (inl stops) = inl stops
accepted_on old new known content next answer presets (inr more) = absurd more.2

session_on : (old new : Store) (known : Known) (name : List ℕ) (next : Content → List (Option Contents) → Steps) (answer : Status)
    → Stopped old new (session_steps known name no_more) answer → Stopped old new (session_steps known name next) answer
session_on old new known name next answer (inl stops) = inl stops
session_on old new known name next answer (inr more) = inr (
  more.0,
  more.1,
  each_on old new (node_step more.0) 0 (length more.0.nodes) [] (accepted_steps known more.0 (no_more more.0)) (accepted_steps known more.0 (next more.0)) answer
      (accepted_on old new known more.0 (next more.0) answer) more.2,
)

pub opened_halted : (old new : Store) (known : Known) (name : List ℕ) (next : Content → List (Option Contents) → Steps) (answer : Status)
    → Halted old new (session_steps known name no_more) answer → Halted old new (session_steps known name next) answer
opened_halted old new known name next answer (inl stopped) = inl (stopped.0, session_on old new known name next answer stopped.1)
opened_halted old new known name next answer (inr none) = inr none
