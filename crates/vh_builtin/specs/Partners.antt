-- The identifiers of the built-in classes, by their number from 1.
use Rattle.std.specs.Prelude.{ℕ, List, [], ◌∷◌}

-- `VHST`, `COMP`, and the number
abbrev pub component_of : ℕ → List ℕ
component_of k = 86 ∷ 72 ∷ 83 ∷ 84 ∷ 67 ∷ 79 ∷ 77 ∷ 80 ∷ 0 ∷ 0 ∷ 0 ∷ 0 ∷ 0 ∷ 0 ∷ 0 ∷ k ∷ []

-- `VHST`, `EDIT`, and the number
abbrev pub partner_of : ℕ → List ℕ
partner_of k = 86 ∷ 72 ∷ 83 ∷ 84 ∷ 69 ∷ 68 ∷ 73 ∷ 84 ∷ 0 ∷ 0 ∷ 0 ∷ 0 ∷ 0 ∷ 0 ∷ 0 ∷ k ∷ []
