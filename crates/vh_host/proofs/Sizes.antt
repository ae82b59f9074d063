-- The longest of some sizes.
use Rattle.std.proofs.Common.{◌≡◌, ℕ, suc, ◌+◌, ◌<◌, ◌≤◌, List, [], ◌∷◌, All, take, take-suc, get_or, length, sym, subst, arith}
use Rattle.std.proofs.lemmas.List.Elements.{All-push}
use Rattle.vh_cut.specs.Cut.{IsPattern}

-- none of one size more is longer than what is as long as that size and as all before
pub longer : (sizes : List ℕ) (place old new : ℕ) → place < length sizes → old ≤ new → get_or sizes place 0 ≤ new → All (λ size. size ≤ old) (take place sizes) → All (λ size. size ≤ new) (take (place + 1) sizes)
longer sizes place old new lt le here before =
    let next : place + 1 ≡ suc place = omega arith in
    subst (λ n. All (λ size. size ≤ new) (take n sizes)) (sym next)
    (subst (All (λ size. size ≤ new)) (sym (take-suc sizes place 0 lt))
    (All-push (λ size. size ≤ new) (take place sizes) (get_or sizes place 0) (λ k d there. let e = before k d there in omega (arith, e, le)) here))

-- one size is a pattern
pub one_size : (size : ℕ) → 1 ≤ size → size ≤ 8192 → IsPattern (size ∷ [])
one_size size some most = record {
  some = omega arith;
  most = omega arith;
  sizes = λ k d lt. let z : k ≡ 0 = omega (arith, lt) in subst (λ j. (1 ≤ get_or (size ∷ []) j d) × (get_or (size ∷ []) j d ≤ 8192)) (sym z) (some, most);
}
