-- Files that were read, and why a text of one is refused.
use Rattle.std.proofs.Common.{◌≡◌, ℕ, ◌<◌, Bool, true, false, nat_lt, List, length, Result, Err, inl, inr, refl, sym, subst}
use Rattle.std.proofs.lemmas.Bool.{lt-ltb, true≢false}
use Rattle.vh_text.specs.Chains.{fault_if}
use Rattle.vh_params.specs.declared.class.ClassInfo.{ClassInfo}
use Rattle.vh_params.specs.Nodes.{Node}
use Rattle.vh_session.specs.declared.fault.SessionKind.TheVariants.{TooLong}
use Rattle.vh_session.specs.Limits.{session_limit}
use Rattle.vh_session.specs.Ended.{IsFault}
use Rattle.vh_session.specs.Reading as reading
use Rattle.vh_journal_text.specs.Reading as journal
use Rattle.vh_journal_text.specs.declared.fault.JournalKind.TheVariants as kind
use Rattle.vh_answers.specs.declared.status.Place.TheVariants.{Session, Journal}
use Rattle.vh_answers.specs.declared.status.Status.{Status}
use Rattle.vh_answers.specs.declared.status.Status.TheVariants as status
use Rattle.vh_answers.specs.Outside.{Store, ReadAs}
use Rattle.vh_answers.specs.Refusals.{IsRefusal}
use Rattle.vh_answers.specs.Steps.{Halts}
use Rattle.vh_reading.specs.Reading.{text_step}
use Rattle.vh_reading.proofs.Readings.{read_more}
use Rattle.vh_host.specs.Commands.{session_step, journal_step, IsTextFault}

-- a test that is true gives its fault
faulted : {A K : Type 0} (b : Bool) (kind : K) (next : Result A K) → b ≡ true → fault_if b kind next ≡ Err kind
faulted true kind next is = refl
faulted false kind next other = absurd (true≢false (sym other))

-- ---- sessions
too_long : (infos : List ClassInfo) (bytes : List ℕ) → session_limit < length bytes → reading.draft_of infos bytes ≡ Err (reading.fault 0 TooLong)
too_long infos bytes long = faulted (nat_lt session_limit (length bytes)) (reading.fault 0 TooLong) _ (lt-ltb session_limit (length bytes) long)

pub text_halts : (infos : List ClassInfo) (old new : Store) (name : List ℕ) (answer : Status) → Halts old new (text_step Session name session_limit (status.SessionRefused (reading.fault 0 TooLong))) answer → Halts old new (session_step infos name) answer
text_halts infos old new name answer (inl (refuses, inl unread)) = inl (refuses, inl unread)
text_halts infos old new name answer (inl (refuses, inr (fault, is, long))) =
    inl (refuses, inr (reading.fault 0 TooLong, is, read_more old name _ _ (λ bytes le. inl (too_long infos bytes le)) long))
text_halts infos old new name answer (inr none) = inr none

pub fault_halts : (infos : List ClassInfo) (old new : Store) (name text : List ℕ) (answer : Status) → ReadAs old name (λ bytes. text ≡ bytes) → IsTextFault infos text answer → Halts old new (session_step infos name) answer
fault_halts infos old new name text answer read (inl (given, is, faulty)) =
    inl (subst IsRefusal (sym is) tt, inr (given, is, read_more old name _ _ (λ bytes same. subst (λ t. IsFault infos t given) same faulty) read))
fault_halts infos old new name text answer read (inr none) = inr none

-- ---- journals
journal_too_long : (nodes : List Node) (frames : ℕ) (bytes : List ℕ) → journal.journal_limit < length bytes → journal.journal_of nodes frames bytes ≡ Err (journal.fault 0 kind.TooLong)
journal_too_long nodes frames bytes long = faulted (nat_lt journal.journal_limit (length bytes)) (journal.fault 0 kind.TooLong) _ (lt-ltb journal.journal_limit (length bytes) long)

pub journal_halts : (nodes : List Node) (frames : ℕ) (old new : Store) (name : List ℕ) (answer : Status) → Halts old new (text_step Journal name journal.journal_limit (status.JournalRefused (journal.fault 0 kind.TooLong))) answer → Halts old new (journal_step nodes frames name) answer
journal_halts nodes frames old new name answer (inl (refuses, inl unread)) = inl (refuses, inl unread)
journal_halts nodes frames old new name answer (inl (refuses, inr (fault, is, long))) =
    inl (refuses, inr (journal.fault 0 kind.TooLong, is, read_more old name _ _ (λ bytes le. journal_too_long nodes frames bytes le) long))
journal_halts nodes frames old new name answer (inr none) = inr none
