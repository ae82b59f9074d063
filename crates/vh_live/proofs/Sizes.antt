-- The longest of some sizes.
use Rattle.std.proofs.Common.{◌≡◌, ℕ, suc, ◌+◌, ◌<◌, ◌≤◌, List, All, take, take-suc, get_or, length, sym, subst, arith}
use Rattle.std.proofs.lemmas.List.Elements.{All-push}

-- none of one size more is longer than what is as long as that size and as all before
pub longer : (sizes : List ℕ) (place old new : ℕ) → place < length sizes → old ≤ new → get_or sizes place 0 ≤ new → All (λ size. size ≤ old) (take place sizes) → All (λ size. size ≤ new) (take (place + 1) sizes)
longer sizes place old new lt le here before =
    let next : place + 1 ≡ suc place = omega arith in
    subst (λ n. All (λ size. size ≤ new) (take n sizes)) (sym next)
    (subst (All (λ size. size ≤ new)) (sym (take-suc sizes place 0 lt))
    (All-push (λ size. size ≤ new) (take place sizes) (get_or sizes place 0) (λ k d there. let e = before k d there in omega (arith, e, le)) here))
