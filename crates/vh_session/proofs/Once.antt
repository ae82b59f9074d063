-- A text says one session, and then it has no fault.
use Rattle.std.proofs.Common.{◌≡◌, ◌∙◌, ℕ, List, sym, ap, subst, inl, inr, Ok, Err}
use Rattle.std.specs.Prelude.{Result}
use Rattle.vh_graph.specs.Paths.{IsOnCycle}
use Rattle.vh_params.specs.declared.class.ClassInfo.{ClassInfo}
use Rattle.vh_num.specs.declared.refusal.Refusal.TheVariants.{Fault, Memory}
use Rattle.vh_session.specs.declared.fault.SessionFault.{SessionFault}
use Rattle.vh_session.specs.Content.{Content, content_in, node_wires}
use Rattle.vh_session.specs.Ended.{SaysSession, IsFault}
use Rattle.vh_session.specs.Entry.{Draft}
use Rattle.vh_session.specs.Laws.{PrintedIsRead}
use Rattle.vh_session.specs.Names.{content_of}
use Rattle.vh_session.specs.Reading.{draft_of}
use Rattle.vh_session.specs.Text.{session_text}
use Rattle.vh_session.proofs.ReadsBack.{reads_back}

abbrev draft_or : Draft → Result Draft SessionFault → Draft
draft_or other (Ok draft) = draft
draft_or other (Err given) = other

one_draft : (known : List ClassInfo) (bytes : List ℕ) (a b : Draft) → draft_of known bytes ≡ Ok a → draft_of known bytes ≡ Ok b → a ≡ b
one_draft known bytes a b is also = ap (draft_or a) (sym is ∙ also)

pub says_one : (known : List ClassInfo) (bytes : List ℕ) (a b : Content) → SaysSession known bytes a → SaysSession known bytes b → a ≡ b
says_one known bytes a b says also = sym says.3 ∙ ap content_in (one_draft known bytes says.0 also.0 says.1 also.1) ∙ also.3

abbrev Comes : Result Draft SessionFault → Type 0
Comes (Ok draft) = Unit {0}
Comes (Err given) = ⊥

pub says_no_fault : (known : List ClassInfo) (bytes : List ℕ) (content : Content) (given : SessionFault) → SaysSession known bytes content → IsFault known bytes given → ⊥
says_no_fault known bytes content given says (inl faulty) = subst Comes (sym says.1 ∙ faulty) tt
says_no_fault known bytes content given says (inr cycle) =
    says.2 cycle.2.0 (subst (λ (draft : Draft). IsOnCycle (node_wires draft.wires) cycle.2.0) (one_draft known bytes cycle.0 says.0 cycle.1 says.1) cycle.2.1.cycle)

pub law_printed_is_read : PrintedIsRead
law_printed_is_read known session (Ok again) stands read = says_one known (session_text (content_of session)) (content_of again) (content_of session) read.0 (reads_back known (content_of session) session.keeps stands)
law_printed_is_read known session (Err (Fault given)) stands read = says_no_fault known (session_text (content_of session)) (content_of session) given (reads_back known (content_of session) session.keeps stands) read
law_printed_is_read known session (Err Memory) stands read = tt
