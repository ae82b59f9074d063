-- What reading a session comes to.
use Rattle.std.specs.Prelude.{◌≡◌, ⊤, ◌⊎◌, ℕ, List, slice_index_or, Result, Ok, Err}
use Rattle.vh_num.specs.declared.refusal.Refusal.{Refusal}
use Rattle.vh_num.specs.declared.refusal.Refusal.TheVariants.{Fault, Memory}
use Rattle.vh_graph.specs.Paths.{IsLeastOnCycle, IsOnCycle}
use Rattle.vh_params.specs.declared.class.ClassInfo.{ClassInfo}
use Rattle.vh_session.specs.declared.fault.SessionKind.TheVariants.{Cycle}
use Rattle.vh_session.specs.declared.fault.SessionFault.{SessionFault}
use Rattle.vh_session.specs.declared.session.Session.{Session}
use Rattle.vh_session.specs.Entry.{Draft}
use Rattle.vh_session.specs.Reading.{fault, draft_of}
use Rattle.vh_session.specs.Content.{Content, content_in, node_wires}
use Rattle.vh_session.specs.Keeps.{StandsUnder}
use Rattle.vh_session.specs.Names.{content_of}

-- a fault is the least node that is on a cycle, at that node's line
abbrev pub IsCycleFault : Draft → SessionFault → Type 0
IsCycleFault draft given = (node : ℕ) × IsLeastOnCycle (node_wires draft.wires) node × (given ≡ fault (slice_index_or draft.lines node 0) (Cycle node))

abbrev pub NamesCycle : Draft → Refusal SessionFault → Type 0
NamesCycle draft (Fault given) = IsCycleFault draft given
NamesCycle draft Memory = ⊤

-- a text says this session
abbrev pub SaysSession : List ClassInfo → List ℕ → Content → Type 0
SaysSession classes bytes content = (draft : Draft) × (draft_of classes bytes ≡ Ok draft) × ((node : ℕ) → ¬ IsOnCycle (node_wires draft.wires) node) × (content_in draft ≡ content)

-- this is a text's first fault
abbrev pub IsFault : List ClassInfo → List ℕ → SessionFault → Type 0
IsFault classes bytes given = (draft_of classes bytes ≡ Err given) ⊎ ((draft : Draft) × (draft_of classes bytes ≡ Ok draft) × IsCycleFault draft given)

-- a text is read as the session that it says, or refused for its first fault
abbrev pub IsRead : List ClassInfo → List ℕ → Result Session (Refusal SessionFault) → Type 0
IsRead classes bytes (Ok session) = SaysSession classes bytes (content_of session) × StandsUnder classes (content_of session)
IsRead classes bytes (Err (Fault given)) = IsFault classes bytes given
IsRead classes bytes (Err Memory) = ⊤
