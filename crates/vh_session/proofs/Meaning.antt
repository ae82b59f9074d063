-- A text has one meaning.
use Rattle.std.proofs.Common.{◌≡◌, ◌∙◌, inl, inr, ◌≤◌, ℕ, List, sym, subst, ap, arith, Ok, Err, Result}
use Rattle.vh_params.specs.declared.class.ClassInfo.{ClassInfo}
use Rattle.vh_graph.specs.Paths.{IsOnCycle}
use Rattle.vh_session.specs.declared.fault.SessionFault.{SessionFault}
use Rattle.vh_session.specs.declared.fault.SessionKind.TheVariants.{Cycle}
use Rattle.vh_session.specs.Content.{Content, content_in, node_wires}
use Rattle.vh_session.specs.Ended.{SaysSession, IsFault, IsCycleFault}
use Rattle.vh_session.specs.Entry.{Draft}
use Rattle.vh_session.specs.Laws.{TextsHaveOneMeaning, HasOneMeaning}
use Rattle.vh_session.specs.Reading.{draft_of, fault}
use Rattle.vh_text.proofs.Gives.{same_value, no_value}
use Rattle.std.specs.Prelude.{slice_index_or}

-- two answers of one reading

drafts : (known : List ClassInfo) (bytes : List ℕ) (one other : Draft) → draft_of known bytes ≡ Ok one → draft_of known bytes ≡ Ok other → one ≡ other
drafts known bytes one other a b = cc

faults : (known : List ClassInfo) (bytes : List ℕ) (one other : SessionFault) → draft_of known bytes ≡ Err one → draft_of known bytes ≡ Err other → one ≡ other
faults known bytes one other a b = cc

apart : (known : List ClassInfo) (bytes : List ℕ) (draft : Draft) (given : SessionFault) → draft_of known bytes ≡ Ok draft → draft_of known bytes ≡ Err given → ⊥
apart known bytes draft given a b = cc

-- a cycle's least node is one alone
cycles : (draft : Draft) (one other : SessionFault) → IsCycleFault draft one → IsCycleFault draft other → one ≡ other
cycles draft one other a b =
    let low : a.0 ≤ b.0 = a.1.least b.0 b.1.cycle in
    let high : b.0 ≤ a.0 = b.1.least a.0 a.1.cycle in
    let same : a.0 ≡ b.0 = omega (arith, low, high) in
    a.2 ∙ ap (λ node. fault (slice_index_or draft.lines node 0) (Cycle node)) same ∙ sym b.2

one_fault : (known : List ClassInfo) (bytes : List ℕ) (one other : SessionFault) → IsFault known bytes one → IsFault known bytes other → one ≡ other
one_fault known bytes one other (inl a) (inl b) = faults known bytes one other a b
one_fault known bytes one other (inl a) (inr b) = absurd (apart known bytes b.0 one b.1 a)
one_fault known bytes one other (inr a) (inl b) = absurd (apart known bytes a.0 other a.1 b)
one_fault known bytes one other (inr a) (inr b) = cycles b.0 one other (subst (λ d. IsCycleFault d one) (drafts known bytes a.0 b.0 a.1 b.1) a.2) b.2

never_both : (known : List ClassInfo) (bytes : List ℕ) (content : Content) (given : SessionFault) → SaysSession known bytes content → ¬ IsFault known bytes given
never_both known bytes content given says (inl b) = apart known bytes says.0 given says.1 b
never_both known bytes content given says (inr b) =
    let free = subst (λ d. (node : ℕ) → ¬ IsOnCycle (node_wires d.wires) node) (drafts known bytes says.0 b.0 says.1 b.1) says.2 in
    free b.2.0 b.2.1.cycle

pub law_meaning : TextsHaveOneMeaning
law_meaning known bytes = record {
  one_session = λ one other a b. sym a.3 ∙ ap (λ d. content_in d) (drafts known bytes a.0 b.0 a.1 b.1) ∙ b.3;
  one_fault = one_fault known bytes;
  never_both = never_both known bytes;
}
