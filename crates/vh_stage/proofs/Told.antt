-- What of a list was told, one element after another.
use Rattle.std.proofs.Common.{◌≡◌, ◌∙◌, ℕ, ◌+◌, ◌<◌, ◌≤◌, List, [], ◌∷◌, ◌++◌, length, drop, get_or, sym, append_assoc, append-nil}
use Rattle.std.proofs.lemmas.List.{at_drop_more, at_drop_all}

-- the next was told, and what was told and what is left are the same together
pub left_on : {A : Type 0} (before told xs : List A) (place : ℕ) (d : A) → place < length xs → told ++ drop place xs ≡ before → (told ++ get_or xs place d ∷ []) ++ drop (place + 1) xs ≡ before
left_on before told xs place d below is = append_assoc told (get_or xs place d ∷ []) (drop (place + 1) xs) ∙ sym (at_drop_more (λ rest. told ++ rest) xs place d below) ∙ is

-- nothing is left
pub left_none : {A : Type 0} (before told xs : List A) (place : ℕ) → length xs ≤ place → told ++ drop place xs ≡ before → told ≡ before
left_none before told xs place most is = sym (append-nil told) ∙ sym (at_drop_all (λ rest. told ++ rest) xs place most) ∙ is
