-- What a component keeps through its life.
use Rattle.std.specs.Prelude.{◌≡◌, ℕ, ℤ, List}
use Rattle.std.proofs.Common.{ap}

pub same_number : (x y : ℕ × List ℤ × List ℕ × ℕ) → x ≡ y → x.0 ≡ y.0
same_number x y same = ap (λ (rest : ℕ × List ℤ × List ℕ × ℕ). rest.0) same

pub same_state : (x y : ℕ × List ℤ × List ℕ × ℕ) → x ≡ y → x.1 ≡ y.1
same_state x y same = ap (λ (rest : ℕ × List ℤ × List ℕ × ℕ). rest.1) same

pub same_values : (x y : ℕ × List ℤ × List ℕ × ℕ) → x ≡ y → x.2 ≡ y.2
same_values x y same = ap (λ (rest : ℕ × List ℤ × List ℕ × ℕ). rest.2) same

pub same_calls : (x y : ℕ × List ℤ × List ℕ × ℕ) → x ≡ y → x.3 ≡ y.3
same_calls x y same = ap (λ (rest : ℕ × List ℤ × List ℕ × ℕ). rest.3) same
