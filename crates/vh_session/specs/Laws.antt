-- What printing and reading come to together.
use Rattle.std.specs.Prelude.{◌≡◌, ⊤, ℕ, List, Result, Ok, Err}
use Rattle.vh_num.specs.declared.refusal.Refusal.{Refusal}
use Rattle.vh_num.specs.declared.refusal.Refusal.TheVariants.{Fault, Memory}
use Rattle.vh_params.specs.declared.class.ClassInfo.{ClassInfo}
use Rattle.vh_session.specs.declared.fault.SessionFault.{SessionFault}
use Rattle.vh_session.specs.declared.session.Session.{Session}
use Rattle.vh_session.specs.Content.{Content}
use Rattle.vh_session.specs.Ended.{IsRead, SaysSession, IsFault}
use Rattle.vh_session.specs.Keeps.{StandsUnder}
use Rattle.vh_session.specs.Names.{content_of}
use Rattle.vh_session.specs.Text.{session_text}

-- an answer gives this session, or there was no memory
abbrev pub GivesBack : Content → Result Session (Refusal SessionFault) → Type 0
GivesBack content (Ok session) = content_of session ≡ content
GivesBack content (Err (Fault given)) = ⊥
GivesBack content (Err Memory) = ⊤

-- whatever reading answers to a session's printed text, it gives this session back
abbrev pub PrintedIsRead : Type 0
PrintedIsRead = (known : List ClassInfo) (session : Session) (answer : Result Session (Refusal SessionFault))
    → StandsUnder known (content_of session) → IsRead known (session_text (content_of session)) answer → GivesBack (content_of session) answer

-- a text says one session at most, and has one fault at most, and never both
pub record HasOneMeaning (known : List ClassInfo) (bytes : List ℕ) : Type 0 where
  pub one_session : (one other : Content) → SaysSession known bytes one → SaysSession known bytes other → one ≡ other
  pub one_fault : (one other : SessionFault) → IsFault known bytes one → IsFault known bytes other → one ≡ other
  pub never_both : (content : Content) (given : SessionFault) → SaysSession known bytes content → ¬ IsFault known bytes given

abbrev pub TextsHaveOneMeaning : Type 0
TextsHaveOneMeaning = (known : List ClassInfo) (bytes : List ℕ) → HasOneMeaning known bytes
