-- What callers see of a session's editors.
use Rattle.std.specs.Prelude.{◌≡◌, Bool, List, length, replicate}
use Rattle.vh_params.specs.Nodes.{Node}
use Rattle.vh_params.specs.declared.command.Word.{Word}
use Rattle.vh_inbox.specs.Values.{TableId}

-- the inbox of each editor's desk, the nodes that the editors' words name, the script of each, and whether the
-- scripts were worked through
pub record AtEditors : Type 0 where
  pub inboxes : List TableId
  pub nodes : List Node
  pub scripts : List (List Word)
  pub done : Bool

-- editors at the desks of one inbox
abbrev pub seated : TableId → List Node → List (List Word) → Bool → AtEditors
seated inbox nodes scripts done = record { inboxes = replicate (length scripts) inbox; nodes = nodes; scripts = scripts; done = done }

abbrev pub ShareInbox : TableId → AtEditors → Type 0
ShareInbox inbox editors = editors.inboxes ≡ replicate (length editors.scripts) inbox
