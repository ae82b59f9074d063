-- A breakpoint more.
use Rattle.std.proofs.Common.{◌≡◌, ◌∙◌, inl, inr, ℕ, ◌+◌, ◌-◌, ◌<◌, ◌≤◌, ◌^◌, List, [], ◌∷◌, ◌++◌, length, get_or, refl, sym, ap, subst, arith, Bool, true, false}
use Rattle.std.specs.Prelude.{if◌then◌else◌}
use Rattle.std.proofs.lemmas.Bool.{cases_lt}
use Rattle.std.proofs.lemmas.List.{get_or_append_left, get_or-append_right, get_or_default, length-append}
use Rattle.vh_lane.specs.Values.{AreBreaks}

at_end : (xs : List (ℕ × ℕ)) (x d : ℕ × ℕ) → get_or (xs ++ x ∷ []) (length xs) d ≡ x
at_end xs x d = get_or-append_right xs (x ∷ []) (length xs) (length xs) d refl (omega arith) ∙ (let z : length xs - length xs ≡ 0 = omega arith in ap (λ n. get_or (x ∷ []) n d) z)

pub breaks_more : (breaks : List (ℕ × ℕ)) (sample value : ℕ) → AreBreaks breaks → length breaks < 4096 → (get_or breaks (length breaks - 1) (0, 0)).0 < sample → value ≤ 2 ^ 24 → AreBreaks (breaks ++ (sample, value) ∷ [])
breaks_more breaks sample value are few rises within =
    let n = length breaks in
    let some = are.some in
    let long : length (breaks ++ (sample, value) ∷ []) ≡ n + 1 = length-append breaks ((sample, value) ∷ []) in
    let old : (i : ℕ) (d : ℕ × ℕ) → i < n → get_or (breaks ++ (sample, value) ∷ []) i d ≡ get_or breaks i d = λ i d lt. get_or_append_left breaks ((sample, value) ∷ []) d i lt in
    record {
      some = omega (arith, long, some);
      most = omega (arith, long, few);
      rise = λ i j d lt jl. elim (cases_lt j n) [
        | inl before ↦
            let il : i < n = omega (arith, lt, before) in
            let r = are.rise i j d lt before in
            subst (λ (b : ℕ × ℕ). b.0 < (get_or (breaks ++ (sample, value) ∷ []) j d).0) (sym (old i d il)) (subst (λ (b : ℕ × ℕ). (get_or breaks i d).0 < b.0) (sym (old j d before)) r)
        | inr here ↦
            let same : n ≡ j = omega (arith, here, jl, long) in
            let il : i < n = omega (arith, lt, same) in
            let last : get_or (breaks ++ (sample, value) ∷ []) j d ≡ (sample, value) = ap (λ m. get_or (breaks ++ (sample, value) ∷ []) m d) (sym same) ∙ at_end breaks (sample, value) d in
            let below : (get_or breaks i d).0 < sample = elim (cases_lt i (n - 1)) [
              | inl earlier ↦
                  let r = are.rise i (n - 1) d earlier (omega (arith, some)) in
                  let e : get_or breaks (n - 1) d ≡ get_or breaks (n - 1) (0, 0) = get_or_default breaks (n - 1) d (0, 0) (omega (arith, some)) in
                  let r' : (get_or breaks i d).0 < (get_or breaks (n - 1) (0, 0)).0 = subst (λ (b : ℕ × ℕ). (get_or breaks i d).0 < b.0) e r in
                  omega (arith, r', rises)
              | inr there ↦
                  let is : n - 1 ≡ i = omega (arith, there, il) in
                  let e : get_or breaks (n - 1) (0, 0) ≡ get_or breaks i d = ap (λ m. get_or breaks m (0, 0)) is ∙ get_or_default breaks i (0, 0) d il in
                  subst (λ (b : ℕ × ℕ). b.0 < sample) e rises
            ] in
            subst (λ (b : ℕ × ℕ). b.0 < (get_or (breaks ++ (sample, value) ∷ []) j d).0) (sym (old i d il)) (subst (λ (b : ℕ × ℕ). (get_or breaks i d).0 < b.0) (sym last) below)
      ];
      within = λ i d lt. elim (cases_lt i n) [
        | inl before ↦ subst (λ (b : ℕ × ℕ). b.1 ≤ 2 ^ 24) (sym (old i d before)) (are.within i d before)
        | inr here ↦
            let same : n ≡ i = omega (arith, here, lt, long) in
            subst (λ (b : ℕ × ℕ). b.1 ≤ 2 ^ 24) (sym (ap (λ m. get_or (breaks ++ (sample, value) ∷ []) m d) (sym same) ∙ at_end breaks (sample, value) d)) within
      ];
    }

-- whether the breakpoint was added or not
pub breaks_tried : (added : Bool) (breaks more : List (ℕ × ℕ)) → AreBreaks breaks → AreBreaks more → AreBreaks (if added then more else breaks)
breaks_tried true breaks more are are_more = are_more
breaks_tried false breaks more are are_more = are
