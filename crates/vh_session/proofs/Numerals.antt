-- Numbers that are written are read.
use Rattle.std.proofs.Common.{◌≡◌, ◌∙◌, ℕ, ◌^◌, ◌<◌, Bool, true, ap, Ok}
use Rattle.std.specs.Prelude.{not, ok_or}
use Rattle.std.specs.Fmt.{decimal}
use Rattle.std.proofs.lemmas.Bool.{not_from_true}
use Rattle.vh_text.specs.Chains.{given, fault_if}
use Rattle.vh_text.proofs.Numerals.{number_reads}
use Rattle.vh_session.specs.declared.fault.SessionKind.TheVariants.{BadNumber}
use Rattle.vh_session.specs.Rules.{any_number, number_that}

pub any_reads : (n : ℕ) → n < 2 ^ 32 → any_number (decimal n) ≡ Ok n
any_reads n small = ap (λ o. ok_or o BadNumber) (number_reads n small)

pub that_reads : (passes : ℕ → Bool) (n : ℕ) → n < 2 ^ 32 → passes n ≡ true → number_that passes (decimal n) ≡ Ok n
that_reads passes n small is = ap (λ r. given r (λ m. fault_if (not (passes m)) BadNumber (Ok m))) (any_reads n small) ∙ ap (λ t. fault_if t BadNumber (Ok n)) (not_from_true (passes n) is)
