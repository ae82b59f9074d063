-- What most classes have in common: no message means anything to them, and no parameter is only shown.
use Rattle.std.specs.Prelude.{ℕ, List, []}
use Rattle.vh_plugin.specs.Class.{State}

abbrev pub same_state : State → List ℕ → List ℕ → State
same_state state values words = state

abbrev pub no_reply : State → List ℕ → List ℕ → List ℕ
no_reply state values words = []

abbrev pub nothing_shown : State → ℕ → ℕ
nothing_shown state id = 0
