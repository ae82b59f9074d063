-- What a search has still to do for the nodes that it hasn't seen.
use Rattle.std.proofs.Common.{◌≡◌, ℕ, zero, suc, ◌+◌, ◌<◌, ◌≤◌, true, false, cond, List, [], ◌∷◌, set, length, get_or, refl, ap, arith}
use Rattle.std.specs.Prelude.{Vec}
use Rattle.std.specs.declared.alloc.Global.{Global}
use Rattle.vh_graph.specs.declared.search.Place.{Place}
use Rattle.vh_graph.specs.declared.search.Place.TheVariants.{Unseen, Open}
use Rattle.vh_graph.proofs.Searching.{is_unseen, place}

-- one step to enter it, one to leave it, and one for each of its sources
abbrev work : Place → Vec ℕ Global → ℕ
work p list = cond (is_unseen p) (2 + length list.items) 0

abbrev pub unseen_work : List Place → List (Vec ℕ Global) → ℕ
unseen_work [] lists = 0
unseen_work (p ∷ ps) [] = 0
unseen_work (p ∷ ps) (list ∷ lists) = work p list + unseen_work ps lists

pub work_entered : (places : List Place) (lists : List (Vec ℕ Global)) (x i : ℕ) (d : Vec ℕ Global) → x < length places → length places ≡ length lists → place places x ≡ Unseen
    → unseen_work (set places x (Open i)) lists + 2 + length (get_or lists x d).items ≡ unseen_work places lists
work_entered [] lists x i d lt long unseen = absurd (omega (arith, lt))
work_entered (p ∷ ps) [] x i d lt long unseen = absurd (omega (arith, long))
work_entered (p ∷ ps) (list ∷ lists) zero i d lt long unseen =
    let e : work p list ≡ 2 + length list.items = ap (λ q. work q list) unseen in
    omega (arith, e)
work_entered (p ∷ ps) (list ∷ lists) (suc x) i d lt long unseen =
    let rest = work_entered ps lists x i d (omega (arith, lt)) (omega (arith, long)) unseen in
    omega (arith, rest)

-- no more work where no more nodes are unseen
pub work_less : (places after : List Place) (lists : List (Vec ℕ Global)) → length after ≡ length places → ((x : ℕ) → is_unseen (place places x) ≡ false → is_unseen (place after x) ≡ false) → unseen_work after lists ≤ unseen_work places lists
work_less [] [] lists long seen = omega arith
work_less [] (q ∷ qs) lists long seen = absurd (omega (arith, long))
work_less (p ∷ ps) [] lists long seen = absurd (omega (arith, long))
work_less (p ∷ ps) (q ∷ qs) [] long seen = omega arith
work_less (p ∷ ps) (q ∷ qs) (list ∷ lists) long seen =
    let rest = work_less ps qs lists (omega (arith, long)) (λ x was. seen (suc x) was) in
    let one : work q list ≤ work p list = elim (is_unseen p) as (λ t. is_unseen p ≡ t → work q list ≤ cond t (2 + length list.items) 0) [
      | true ↦ λ e. elim (is_unseen q) as (λ t. cond t (2 + length list.items) 0 ≤ 2 + length list.items) [
        | true ↦ omega arith
        | false ↦ omega arith
      ]
      | false ↦ λ e. let z : work q list ≡ 0 = ap (λ b. cond b (2 + length list.items) 0) (seen 0 e) in omega (arith, z)
    ] refl in
    omega (arith, one, rest)
