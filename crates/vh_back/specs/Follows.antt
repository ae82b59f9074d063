-- How controllers follow.
use Rattle.std.specs.Prelude.{◌≡◌, ℕ, ◌<◌, List, [], ◌∷◌, length, map, slice_index, slice_index_or, Option, unwrap_or}
use Rattle.vh_counted.specs.declared.object.Opened.{Opened}
use Rattle.vh_counted.specs.Held.{object_of_opened, numbers_of_opened, value_of_opened}
use Rattle.vh_plugin.specs.Class.{Class, Param}
use Rattle.vh_back.specs.declared.item.Parameter.{Parameter}
use Rattle.vh_back.specs.Items.{parameter}

-- these parameters' values, of which each with a last echo is that echo's
abbrev pub followed : (Parameter → Option ℕ) → List Parameter → List ℕ → List ℕ
followed last [] values = []
followed last (one ∷ parameters) [] = []
followed last (one ∷ parameters) (value ∷ values) = unwrap_or (last one) value ∷ followed last parameters values

-- the parameters of a node
abbrev pub parameters_at : ℕ → List Param → List Parameter
parameters_at node params = map (λ param. parameter node param.id) params

-- what is meant of each opener's value
abbrev pub of_openers : {C A : Type 0} → (C → A) → List (Opened C) → List A
of_openers meant openers = map (λ opener. meant (value_of_opened opener)) openers

-- Each parameter of the controllers has the value of the last echo of it, or where there is none the value that it had:
-- under what the classes mean, the last echoes, the controllers' codes, and their values before and now.
pub record AreFollowed (class_of : ℕ → Class) (last : Parameter → Option ℕ) (codes : List ℕ) (old new : List (List ℕ)) : Type 0 where
  pub each : (node : ℕ) → node < length codes → slice_index_or new node [] ≡ followed last (parameters_at node (class_of (slice_index codes node)).params) (slice_index_or old node [])

-- what no item changes of the controllers: their classes, their modes, and who holds them
pub record AreAsBefore {C : Type 0} (code mode : C → ℕ) (old new : List (Opened C)) : Type 0 where
  pub codes : of_openers code new ≡ of_openers code old
  pub modes : of_openers mode new ≡ of_openers mode old
  pub objects : map object_of_opened new ≡ map object_of_opened old
  pub numbers : map numbers_of_opened new ≡ map numbers_of_opened old
