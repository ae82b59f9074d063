-- Lines one after the other.
use Rattle.std.proofs.Common.{◌≡◌, ◌∙◌, ℕ, suc, ◌+◌, ◌<◌, ◌≤◌, ◌^◌, Bool, true, false, List, ◌∷◌, length, sym, ap, subst, arith, Ok}
use Rattle.std.specs.Prelude.{All}
use Rattle.vh_params.specs.Nodes.{Node}
use Rattle.vh_text.specs.Lines.{lines_of}
use Rattle.vh_text.proofs.Lengths.{few_lines, short_lines}
use Rattle.vh_journal_text.specs.Items.{Item}
use Rattle.vh_journal_text.specs.Reading.{step_after, behind, closed_by, items_from}
use Rattle.vh_journal_text.specs.Steps.{IsLineRead, left_of}

pub one_line : (nodes : List Node) (most line : ℕ) (before after : List Item) (all : List (List ℕ)) (text : List ℕ) (rest : List (List ℕ)) (closed : Bool) → all ≡ text ∷ rest → IsLineRead (step_after nodes most before text) before after (Ok closed)
    → left_of nodes most false line before all ≡ left_of nodes most closed (line + 1) after rest
one_line nodes most line before after all text rest true is read =
    ap (λ ls. items_from nodes most line before ls) is
    ∙ ap (λ s. behind s line before rest (λ items. items_from nodes most (line + 1) items rest)) read.0
    ∙ ap (λ items. closed_by (line + 1) items rest) (sym read.1)
one_line nodes most line before after all text rest false is read =
    ap (λ ls. items_from nodes most line before ls) is
    ∙ ap (λ s. behind s line before rest (λ items. items_from nodes most (line + 1) items rest)) read.1
    ∙ ap (λ items. items_from nodes most (line + 1) items rest) (sym read.2)

pub fewer : (all : List (List ℕ)) (text : List ℕ) (rest : List (List ℕ)) → all ≡ text ∷ rest → length all ≡ suc (length rest)
fewer all text rest is = ap (λ ls. length ls) is

pub rest_short : (all : List (List ℕ)) (text : List ℕ) (rest : List (List ℕ)) → all ≡ text ∷ rest → All (λ t. length t < 2 ^ 32) all → All (λ t. length t < 2 ^ 32) rest
rest_short all text rest is short k d lt = (subst (λ ls. All (λ t. length t < 2 ^ 32) ls) is short) (suc k) d (omega (arith, lt))

-- the lines of a text that isn't too long

pub first_short : (text first : List ℕ) (rest : List (List ℕ)) → length text ≤ 1048576 → lines_of text ≡ first ∷ rest → length first < 2 ^ 32
first_short text first rest most is =
    let le = (subst (λ ls. All (λ t. length t ≤ length text) ls) is (short_lines text)) 0 first (omega arith) in
    omega (arith, most, le)

pub rest_few : (text first : List ℕ) (rest : List (List ℕ)) → length text ≤ 1048576 → lines_of text ≡ first ∷ rest → length rest < 2 ^ 31
rest_few text first rest most is = let few = few_lines text in let long = fewer (lines_of text) first rest is in omega (arith, most, few, long)

pub rest_all_short : (text first : List ℕ) (rest : List (List ℕ)) → length text ≤ 1048576 → lines_of text ≡ first ∷ rest → All (λ t. length t < 2 ^ 32) rest
rest_all_short text first rest most is k d lt =
    let le = (subst (λ ls. All (λ t. length t ≤ length text) ls) is (short_lines text)) (suc k) d (omega (arith, lt)) in
    omega (arith, most, le)
