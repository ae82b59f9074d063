-- The files of a session's presets.
use Rattle.std.proofs.Common.{◌≡◌, ◌∙◌, ℕ, zero, suc, ◌+◌, ◌<◌, ◌≤◌, Bool, true, false, cond, List, [], ◌∷◌, length, map, take, get_or, Some, None, sym, ap, subst, arith}
use Rattle.std.specs.Prelude.{Vec}
use Rattle.std.specs.declared.alloc.Global.{Global}
use Rattle.std.specs.List.{find}
use Rattle.std.specs.Str.{IsUtf8}
use Rattle.std.proofs.lemmas.List.{get_or-map, length-map, take_all}
use Rattle.std.proofs.lemmas.Str.{IsUtf8-from_ascii}
use Rattle.std.proofs.lemmas.Str.Ascii.{IsAscii-from_all}
use Rattle.vh_session.specs.Keeps.{IsFile, ArePresets}
use Rattle.vh_session.specs.Parts.{preset_text}

-- the name of a file is text
pub is_text : (file : List ℕ) → IsFile file → IsUtf8 file
is_text file is = IsUtf8-from_ascii file (IsAscii-from_all file (λ k d lt. let high = (is.0.1 k d lt).1 in omega (arith, high)))

-- each preset of a session names one
pub file_at : (count least : ℕ) (presets : List (ℕ × List ℕ)) (k : ℕ) (d : ℕ × List ℕ) → ArePresets count least presets → k < length presets → IsFile (get_or presets k d).1
file_at count least [] k d are lt = absurd (omega (arith, lt))
file_at count least (preset ∷ presets) zero d are lt = are.2
file_at count least (preset ∷ presets) (suc k) d are lt = file_at count (preset.0 + 1) presets k d are.3 (omega (arith, lt))

pub file_is : (count : ℕ) (presets : List (ℕ × Vec ℕ Global)) (k : ℕ) (preset : ℕ × Vec ℕ Global) → ArePresets count 0 (map preset_text presets) → k < length presets → preset ≡ get_or presets k preset → IsFile preset.1.items
file_is count presets k preset are lt is =
    let there : k < length (map preset_text presets) = omega (arith, lt, length-map presets preset_text) in
    let same : get_or (map preset_text presets) k (preset_text preset) ≡ preset_text preset = get_or-map preset_text presets k preset (preset_text preset) lt ∙ ap preset_text (sym is) in
    subst (λ (p : ℕ × List ℕ). IsFile p.1) same (file_at count 0 (map preset_text presets) k (preset_text preset) are there)

-- ---- the first that passes

some_none : {A : Type 0} (x : A) → Some x ≡ None → ⊥
some_none x e = cc

module _ {A B : Type 0} (f : A → B) (p : B → Bool) where
  -- it is the one at hand, where none before it passed
  pub found_here : (xs : List A) (i : ℕ) (x : A) → find p (map f (take i xs)) ≡ None → i < length xs → x ≡ get_or xs i x → p (f x) ≡ true → find p (map f xs) ≡ Some (f x)
  found_here [] i x none lt is passes = absurd (omega (arith, lt))
  found_here (y ∷ ys) zero x none lt is passes = ap (λ t. cond t (Some (f y)) (find p (map f ys))) (ap (λ z. p (f z)) (sym is) ∙ passes) ∙ ap (λ z. Some (f z)) (sym is)
  found_here (y ∷ ys) (suc i) x none lt is passes =
      elim (p (f y)) as (λ t. cond t (Some (f y)) (find p (map f (take i ys))) ≡ None → cond t (Some (f y)) (find p (map f ys)) ≡ Some (f x)) [
        | true ↦ λ here. absurd (some_none (f y) here)
        | false ↦ λ there. found_here ys i x there (omega (arith, lt)) is passes
      ] none

  -- or none up to it passes
  passes_not : (xs : List A) (i : ℕ) (x : A) → find p (map f (take i xs)) ≡ None → i < length xs → x ≡ get_or xs i x → p (f x) ≡ false → find p (map f (take (suc i) xs)) ≡ None
  passes_not [] i x none lt is fails = absurd (omega (arith, lt))
  passes_not (y ∷ ys) zero x none lt is fails = ap (λ t. cond t (Some (f y)) None) (ap (λ z. p (f z)) (sym is) ∙ fails)
  passes_not (y ∷ ys) (suc i) x none lt is fails =
      elim (p (f y)) as (λ t. cond t (Some (f y)) (find p (map f (take i ys))) ≡ None → cond t (Some (f y)) (find p (map f (take (suc i) ys))) ≡ None) [
        | true ↦ λ here. absurd (some_none (f y) here)
        | false ↦ λ there. passes_not ys i x there (omega (arith, lt)) is fails
      ] none

  pub one_more : (xs : List A) (i : ℕ) (x : A) → find p (map f (take i xs)) ≡ None → i < length xs → x ≡ get_or xs i x → p (f x) ≡ false → find p (map f (take (i + 1) xs)) ≡ None
  one_more xs i x none lt is fails =
      let next : suc i ≡ i + 1 = omega arith in
      subst (λ (n : ℕ). find p (map f (take n xs)) ≡ None) next (passes_not xs i x none lt is fails)

  pub nowhere : (xs : List A) (i : ℕ) → find p (map f (take i xs)) ≡ None → length xs ≤ i → find p (map f xs) ≡ None
  nowhere xs i none all = ap (λ ys. find p (map f ys)) (sym (take_all i xs all)) ∙ none
