use Rattle.std.proofs.Common.{◌≡◌, ◌≢◌, ◌++◌, ℕ, List, Bor}
use Rattle.std.proofs.lemmas.Bool.Decides.{Decides-eqb}
use Rattle.std.proofs.lemmas.Slice.Eq.{strip_suffix_is}
use Rattle.vh_params.proofs.TextValues.{match_some, match_none}
use Rattle.vh_params.proofs.value.without_end.Goals as goal

pub returns : goal.returns
returns c =
    let P : Type 0 = (front : List ℕ) → c.args.text.now ≢ front ++ c.args.end.now in
    let Q : Bor (List ℕ) → Type 0 = λ x. c.args.text.now ≡ x.now ++ c.args.end.now in
    let is = strip_suffix_is Decides-eqb c.args.text.now c.args.end.now c.strip_suffix.result c.strip_suffix.ensures.cases in
    record { some = match_some {X = Bor (List ℕ)} c.strip_suffix.result P Q is; none = match_none {X = Bor (List ℕ)} c.strip_suffix.result P Q is }
