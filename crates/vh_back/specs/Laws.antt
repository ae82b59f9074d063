-- What following means.
use Rattle.std.specs.Prelude.{◌≡◌, ℕ, true, ◌==◌, List, [], ◌∷◌, ◌++◌, length, Option, if◌then◌else◌}
use Rattle.std.specs.List.{list_all}
use Rattle.vh_plugin.specs.Class.{Class, IsLawful, AreValues, Param}
use Rattle.vh_plugin.specs.Controls.{normalized_to}
use Rattle.vh_back.specs.declared.item.Parameter.{Parameter}
use Rattle.vh_back.specs.declared.item.Item.{Item}
use Rattle.vh_back.specs.declared.item.Item.TheVariants.{Echo, Reply}
use Rattle.vh_back.specs.Items.{is_within, last_value}
use Rattle.vh_back.specs.Follows.{followed, parameters_at}

-- the values of a node's controller after an item, and after these items one by one
abbrev pub told : ℕ → List Param → List ℕ → Item → List ℕ
told node params values (Echo node' id value after last) = if node' == node then normalized_to params values id value else values
told node params values (Reply reply) = values

abbrev pub told_all : ℕ → List Param → List ℕ → List Item → List ℕ
told_all node params values [] = values
told_all node params values (item ∷ items) = told_all node params (told node params values item) items

-- where each echo sets its parameter, one after the other, each parameter has the value of its last echo
abbrev pub TheLastStands : Type 0
TheLastStands = (class : Class) (node : ℕ) (values : List ℕ) (items : List Item) → IsLawful class → AreValues class.params values → list_all is_within items ≡ true
    → told_all node class.params values items ≡ followed (last_value items) (parameters_at node class.params) values

-- where nothing was echoed, all values stay
abbrev pub TheRestStays : Type 0
TheRestStays = (parameters : List Parameter) (values : List ℕ) → length values ≡ length parameters → followed (last_value []) parameters values ≡ values

-- the values of several nodes follow as those of each node do
abbrev pub ThePartsFollow : Type 0
ThePartsFollow = (last : Parameter → Option ℕ) (ones others : List Parameter) (values more : List ℕ) → length values ≡ length ones
    → followed last (ones ++ others) (values ++ more) ≡ followed last ones values ++ followed last others more
