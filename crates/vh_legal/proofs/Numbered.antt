-- Entries that carry commands, numbered from 0.
use Rattle.std.proofs.Common.{◌≡◌, ◌∙◌, inl, inr, ℕ, ◌+◌, ◌<◌, List, length, map, get_or, sym, ap, subst, arith}
use Rattle.std.specs.List.{enumerate_from}
use Rattle.std.proofs.lemmas.List.{length-map, get_or-map, get_or_default, same_lists}
use Rattle.std.proofs.lemmas.Bool.{cases_lt}
use Rattle.std.proofs.lemmas.List.FromFn.{length-enumerate_from, get_or-enumerate_from}
use Rattle.vh_params.specs.declared.command.Command.{Command}
use Rattle.vh_journal.specs.declared.entry.Entry.{Entry}
use Rattle.vh_legal.specs.Legal.{numbered}

-- an entry has this number and carries this command
abbrev pub IsNumber : ℕ → Entry → Command → Type 0
IsNumber k entry command = (entry.seq ≡ k) × (entry.command ≡ command)

pub as_many : (entries : List Entry) (commands : List Command) → map numbered entries ≡ enumerate_from 0 commands → length entries ≡ length commands
as_many entries commands is = sym (length-map entries numbered) ∙ ap length is ∙ length-enumerate_from 0 commands

pub number_at : (entries : List Entry) (commands : List Command) (k : ℕ) (d : Entry) (e : Command) → map numbered entries ≡ enumerate_from 0 commands → k < length entries → IsNumber k (get_or entries k d) (get_or commands k e)
number_at entries commands k d e is within =
    let long = as_many entries commands is in
    let p : ℕ × Command = (0, e) in
    let same : numbered (get_or entries k d) ≡ (0 + k, get_or commands k e) =
    sym (get_or-map numbered entries k d p within) ∙ ap (λ (ps : List (ℕ × Command)). get_or ps k p) is ∙ get_or-enumerate_from 0 commands k p (omega (arith, within, long)) in
    let number : (get_or entries k d).seq ≡ 0 + k = ap (λ (q : ℕ × Command). q.0) same in
    (omega (arith, number), ap (λ (q : ℕ × Command). q.1) same)

pub all_numbered : (entries : List Entry) (commands : List Command) → length entries ≡ length commands → ((k : ℕ) (d : Entry) (e : Command) → k < length entries → IsNumber k (get_or entries k d) (get_or commands k e))
    → map numbered entries ≡ enumerate_from 0 commands
all_numbered entries commands long each =
    let a = length-map entries numbered in
    let b = length-enumerate_from 0 commands in
    same_lists (map numbered entries) (enumerate_from 0 commands) (omega (arith, a, b, long)) (λ k p lt.
    let within : k < length entries = omega (arith, lt, a) in
    let d : Entry = record { sample = 0; editor = 0; seq = 0; command = p.1 } in
    let is = each k d p.1 within in
    let first : get_or (map numbered entries) k p ≡ numbered (get_or entries k d) = get_or-map numbered entries k d p within in
    let second : get_or (enumerate_from 0 commands) k p ≡ (0 + k, get_or commands k p.1) = get_or-enumerate_from 0 commands k p (omega (arith, within, long)) in
    let number : (get_or entries k d).seq ≡ 0 + k = omega (arith, is.0) in
    first ∙ ap (λ n. (n, (get_or entries k d).command)) number ∙ ap (λ (c : Command). (0 + k, c)) is.1 ∙ sym second)

-- one more
pub numbers_more : (entries : List Entry) (commands : List Command) (i : ℕ) (a : Entry) (b : Command) → i < length entries → i < length commands → (get_or entries i a).seq ≡ i → (get_or entries i a).command ≡ get_or commands i b
    → ((k : ℕ) (d : Entry) (e : Command) → k < i → IsNumber k (get_or entries k d) (get_or commands k e)) → (k : ℕ) (d : Entry) (e : Command) → k < i + 1 → IsNumber k (get_or entries k d) (get_or commands k e)
numbers_more entries commands i a b within there number same before k d e lt = elim (cases_lt k i) [
  | inl earlier ↦ before k d e earlier
  | inr past ↦
      let is : i ≡ k = omega (arith, lt, past) in
      let here : IsNumber i (get_or entries i d) (get_or commands i e) =
      (ap (λ (x : Entry). x.seq) (get_or_default entries i d a within) ∙ number, ap (λ (x : Entry). x.command) (get_or_default entries i d a within) ∙ same ∙ get_or_default commands i b e there) in
      subst (λ n. IsNumber n (get_or entries n d) (get_or commands n e)) is here
]
