-- The lines of a text within the limit.
use Rattle.std.proofs.Common.{◌≡◌, ℕ, suc, ◌<◌, ◌≤◌, ◌^◌, List, ◌∷◌, length, ap, subst, arith}
use Rattle.std.specs.Prelude.{All}
use Rattle.vh_text.specs.Lines.{lines_of}
use Rattle.vh_text.proofs.Lengths.{few_lines, short_lines}

-- the first line and those behind it, of a text within the limit
pub first_short : (text : List ℕ) (line : List ℕ) (rest : List (List ℕ)) → length text ≤ 33554432 → lines_of text ≡ line ∷ rest → length line < 2 ^ 32
first_short text line rest le is =
    let g = (subst (λ ls. All (λ l. length l ≤ length text) ls) is (short_lines text)) 0 line (omega arith) in
    omega (arith, g, le)

pub rest_few : (text : List ℕ) (line : List ℕ) (rest : List (List ℕ)) → length text ≤ 33554432 → lines_of text ≡ line ∷ rest → length rest < 2 ^ 31
rest_few text line rest le is =
    let g = few_lines text in
    let e = ap (λ ls. length ls) is in
    omega (arith, g, e, le)

pub rest_all_short : (text : List ℕ) (line : List ℕ) (rest : List (List ℕ)) → length text ≤ 33554432 → lines_of text ≡ line ∷ rest → All (λ l. length l < 2 ^ 32) rest
rest_all_short text line rest le is k d lt =
    let g = (subst (λ ls. All (λ l. length l ≤ length text) ls) is (short_lines text)) (suc k) d (omega (arith, lt)) in
    omega (arith, g, le)
