-- Which parameters changed.
use Rattle.std.specs.Prelude.{ℕ, Bool, ◌==◌, List, [], ◌∷◌, if◌then◌else◌}
use Rattle.vh_back.specs.declared.item.Parameter.{Parameter}
use Rattle.vh_back.specs.declared.item.Item.{Item}
use Rattle.vh_back.specs.declared.item.Item.TheVariants.{Echo}

-- the echoes of the parameters whose values aren't those before
abbrev pub changes : ℕ → Bool → List Parameter → List ℕ → List ℕ → List Item
changes after last [] befores values = []
changes after last (one ∷ parameters) [] values = []
changes after last (one ∷ parameters) (before ∷ befores) [] = []
changes after last (one ∷ parameters) (before ∷ befores) (value ∷ values) =
    if before == value then changes after last parameters befores values else Echo one.node one.id value after last ∷ changes after last parameters befores values
