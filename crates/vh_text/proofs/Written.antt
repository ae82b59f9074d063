-- Lines that are written one after the other.
use Rattle.std.proofs.Common.{◌≡◌, ◌∙◌, ℕ, suc, ◌+◌, ◌<◌, List, [], ◌∷◌, ◌++◌, drop, map, length, get_or, refl, sym, ap, arith}
use Rattle.std.proofs.Math.Seq.{drop-cons}
use Rattle.std.proofs.lemmas.List.{append_assoc, append-nil}
use Rattle.vh_text.specs.Written.{line_text, lines_text}

pub next_line : {A : Type 0} → (f : A → List (List ℕ)) (xs : List A) (i : ℕ) (d : A) (before after all : List ℕ) → i < length xs
    → before ++ lines_text (map f (drop i xs)) ≡ all → after ≡ before ++ line_text (f (get_or xs i d)) → after ++ lines_text (map f (drop (i + 1) xs)) ≡ all
next_line f xs i d before after all lt is now =
    let e : suc i ≡ i + 1 = omega arith in
    ap (λ bs. bs ++ lines_text (map f (drop (i + 1) xs))) now
    ∙ append_assoc before (line_text (f (get_or xs i d))) (lines_text (map f (drop (i + 1) xs)))
    ∙ ap (λ n. before ++ (line_text (f (get_or xs i d)) ++ lines_text (map f (drop n xs)))) (sym e)
    ∙ ap (λ ys. before ++ lines_text (map f ys)) (sym (drop-cons xs i d lt)) ∙ is

pub one_line_more : (before after : List ℕ) (line : List (List ℕ)) (lines : List (List (List ℕ))) (all : List ℕ) → after ≡ before ++ line_text line → before ++ lines_text (line ∷ lines) ≡ all → after ++ lines_text lines ≡ all
one_line_more before after line lines all now is = ap (λ bs. bs ++ lines_text lines) now ∙ append_assoc before (line_text line) (lines_text lines) ∙ is

pub last_line : (before after : List ℕ) (line : List (List ℕ)) (all : List ℕ) → after ≡ before ++ line_text line → before ++ lines_text (line ∷ []) ≡ all → after ≡ all
last_line before after line all now is = now ∙ ap (λ bs. before ++ bs) (sym (append-nil (line_text line))) ∙ is

pub lines_append : (xs ys : List (List (List ℕ))) → lines_text (xs ++ ys) ≡ lines_text xs ++ lines_text ys
lines_append [] ys = refl
lines_append (x ∷ xs) ys = ap (λ bs. line_text x ++ bs) (lines_append xs ys) ∙ sym (append_assoc (line_text x) (lines_text xs) (lines_text ys))

pub part : (before after last : List ℕ) (lines rest : List (List (List ℕ))) → after ≡ before ++ lines_text lines → last ≡ after ++ lines_text rest → last ≡ before ++ lines_text (lines ++ rest)
part before after last lines rest now then_ = then_ ∙ ap (λ bs. bs ++ lines_text rest) now ∙ append_assoc before (lines_text lines) (lines_text rest) ∙ ap (λ bs. before ++ bs) (sym (lines_append lines rest))
