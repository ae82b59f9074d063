-- Lines one after the other.
use Rattle.std.proofs.Common.{◌≡◌, ◌∙◌, ℕ, suc, ◌+◌, ◌<◌, ◌^◌, true, false, List, ◌∷◌, length, ap, subst, arith, refl, Ok}
use Rattle.std.specs.Prelude.{All}
use Rattle.vh_params.specs.declared.class.ClassInfo.{ClassInfo}
use Rattle.vh_session.specs.Entry.{Entry, Draft, with_entry}
use Rattle.vh_session.specs.Lines.{line_of}
use Rattle.vh_text.specs.Chains.{given}
use Rattle.vh_session.specs.Reading.{lines_from, after_line, is_skipped, with_line}

pub one_line : (classes : List ClassInfo) (line : ℕ) (draft after : Draft) (all : List (List ℕ)) (text : List ℕ) (rest : List (List ℕ)) → all ≡ text ∷ rest → after_line classes line draft text ≡ Ok after
    → lines_from classes line draft all ≡ lines_from classes (line + 1) after rest
one_line classes line draft after all text rest is step = ap (λ ls. lines_from classes line draft ls) is ∙ ap (λ r. given r (λ more. lines_from classes (line + 1) more rest)) step

pub skips : (classes : List ClassInfo) (line : ℕ) (draft : Draft) (text : List ℕ) → is_skipped text ≡ true → after_line classes line draft text ≡ Ok draft
skips classes line draft text is = rw is refl

pub says : (classes : List ClassInfo) (line : ℕ) (draft : Draft) (text : List ℕ) (entry : Entry) → is_skipped text ≡ false → line_of classes draft text ≡ Ok entry → after_line classes line draft text ≡ Ok (with_entry line entry draft)
says classes line draft text entry is said = rw is (ap (λ r. with_line line draft r) said)

pub fewer : (all : List (List ℕ)) (text : List ℕ) (rest : List (List ℕ)) → all ≡ text ∷ rest → length all ≡ suc (length rest)
fewer all text rest is = ap (λ ls. length ls) is

pub rest_short : (all : List (List ℕ)) (text : List ℕ) (rest : List (List ℕ)) → all ≡ text ∷ rest → All (λ t. length t < 2 ^ 32) all → All (λ t. length t < 2 ^ 32) rest
rest_short all text rest is short k d lt = (subst (λ ls. All (λ t. length t < 2 ^ 32) ls) is short) (suc k) d (omega (arith, lt))
