-- What is seen of the parameters.
use Rattle.std.specs.Prelude.{◌≡◌, ◌<◌, ℕ, true, List, [], ◌∷◌, ◌++◌, map, length, slice_index_or, All, if◌then◌else◌}
use Rattle.vh_plugin.specs.Class.{Class, State, has_shown}
use Rattle.vh_engine.specs.declared.control.Control.{Control}
use Rattle.vh_engine.specs.Staged.{board_at}

-- what is seen of a node's parameters: a read-only one as the state shows it
abbrev pub seen_of_node : Class → State → List Control → List ℕ
seen_of_node class state controls = map (λ control. if control.shown then class.shown state control.id else control.sent) controls

abbrev pub seen_of_all : (ℕ → Class) → List ℕ → List State → List (List Control) → List ℕ
seen_of_all class_of [] states boards = []
seen_of_all class_of (code ∷ codes) [] boards = []
seen_of_all class_of (code ∷ codes) (state ∷ states) [] = []
seen_of_all class_of (code ∷ codes) (state ∷ states) (board ∷ boards) = seen_of_node (class_of code) state board ++ seen_of_all class_of codes states boards

-- each read-only parameter is one that its node's class shows
abbrev pub AreShown : (ℕ → Class) → List ℕ → List (List Control) → Type 0
AreShown class_of codes boards = (node d : ℕ) → node < length codes → All (λ control. control.shown ≡ true → has_shown (class_of (slice_index_or codes node d)).params control.id ≡ true) (board_at boards node)
