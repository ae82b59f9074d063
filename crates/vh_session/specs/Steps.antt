-- What the reader's steps come to.
use Rattle.std.specs.Prelude.{◌≡◌, ⊤, ℕ, Result, Ok, Err}
use Rattle.vh_num.specs.declared.refusal.Refusal.{Refusal}
use Rattle.vh_num.specs.declared.refusal.Refusal.TheVariants.{Fault, Memory}
use Rattle.vh_session.specs.declared.fault.SessionKind.{SessionKind}
use Rattle.vh_session.specs.declared.fault.SessionFault.{SessionFault}
use Rattle.vh_session.specs.Entry.{Entry, Draft, with_entry}
use Rattle.vh_session.specs.Rules.{Checked}
use Rattle.vh_session.specs.declared.draft.Draft.{Draft as Kept}
use Rattle.vh_session.specs.View.{draft_in}

-- a line was added, or refused for its first fault
abbrev pub IsLineRead : ℕ → Draft → Checked Entry → Draft → Result (Unit {0}) (Refusal SessionKind) → Type 0
IsLineRead line before said after (Ok done) = (entry : Entry) × (said ≡ Ok entry) × (after ≡ with_entry line entry before)
IsLineRead line before said after (Err (Fault kind)) = said ≡ Err kind
IsLineRead line before said after (Err Memory) = ⊤

-- lines were added, or one of them refused, the first that has a fault
abbrev pub AreLinesRead : Result Draft SessionFault → Draft → Result ℕ (Refusal SessionFault) → Type 0
AreLinesRead said after (Ok line) = said ≡ Ok after
AreLinesRead said after (Err (Fault fault)) = said ≡ Err fault
AreLinesRead said after (Err Memory) = ⊤

-- a text was read into a draft, or refused for its first fault but for a cycle
abbrev pub IsDraftRead : Result Draft SessionFault → Result Kept (Refusal SessionFault) → Type 0
IsDraftRead said (Ok draft) = said ≡ Ok (draft_in draft)
IsDraftRead said (Err (Fault fault)) = said ≡ Err fault
IsDraftRead said (Err Memory) = ⊤
