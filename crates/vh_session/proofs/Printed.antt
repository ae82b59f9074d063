-- A session's printed text says the session.
use Rattle.std.proofs.Common.{◌≡◌, ℕ, List, sym, subst}
use Rattle.vh_params.specs.declared.class.ClassInfo.{ClassInfo}
use Rattle.vh_session.specs.declared.session.Session.{Session}
use Rattle.vh_session.specs.Ended.{SaysSession}
use Rattle.vh_session.specs.Keeps.{StandsUnder}
use Rattle.vh_session.specs.Names.{content_of}
use Rattle.vh_session.specs.Text.{session_text}
use Rattle.vh_session.proofs.ReadsBack.{reads_back}

pub printed_says : (session : Session) (text : List ℕ) → text ≡ session_text (content_of session) → (known : List ClassInfo) → StandsUnder known (content_of session) → SaysSession known text (content_of session)
printed_says session text is known stands = subst (λ bytes. SaysSession known bytes (content_of session)) (sym is) (reads_back known (content_of session) session.keeps stands)
