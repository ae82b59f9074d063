-- What the tests offer.
use Rattle.std.specs.Prelude.{◌≡◌, ◌≤◌, true, List, [], ◌∷◌}
use Rattle.std.specs.List.{list_all}
use Rattle.vh_back.specs.declared.item.Parameter.{Parameter}
use Rattle.vh_back.specs.Items.{parameter, is_among}
use Rattle.vh_back.specs.Ends.{AtSender, offered}

-- the parameter Level of node 0
abbrev pub levels : List Parameter
levels = parameter 0 0 ∷ []

-- a sender that echoes Level alone
pub record IsOfLevel (sender : AtSender) : Type 0 where
  pub some : 1 ≤ sender.params
  pub among : list_all (is_among levels) (offered sender) ≡ true
