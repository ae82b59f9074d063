-- What was done to one parameter.
use Rattle.std.specs.Prelude.{ℕ, ◌==◌, ◌&&◌, nat_le, nat_lt, Bool, true, false, List, filter, reverse, count_by, Option, Some, None, if◌then◌else◌}
use Rattle.std.specs.List.{filter_map}
use Rattle.vh_journal.specs.declared.entry.Entry.{Entry}
use Rattle.vh_params.specs.declared.command.Command.{Command}
use Rattle.vh_params.specs.declared.command.Command.TheVariants.{Begin, Perform, End, Tell}

pub data Edit : Type 0 where
  -- a gesture began at this sample
  Began : ℕ → Edit
  -- the parameter was given this value
  Performed : ℕ → Edit
  Ended : Edit

abbrev pub is_begin : Edit → Bool
is_begin (Began sample) = true
is_begin (Performed value) = false
is_begin Ended = false

abbrev pub is_end : Edit → Bool
is_end (Began sample) = false
is_end (Performed value) = false
is_end Ended = true

-- a gesture is open, of whatever editor: more began than ended
abbrev pub is_open : List Edit → Bool
is_open edits = nat_lt (count_by is_end edits) (count_by is_begin edits)

abbrev pub is_parameter : ℕ → ℕ → ℕ → ℕ → Bool
is_parameter node id other_node other_id = (other_node == node) && (other_id == id)

-- what a command at this sample does to a parameter
abbrev pub edit_by : ℕ → ℕ → ℕ → Command → Option Edit
edit_by node id sample (Begin n i) = if is_parameter node id n i then Some (Began sample) else None
edit_by node id sample (Perform n i value) = if is_parameter node id n i then Some (Performed value) else None
edit_by node id sample (End n i) = if is_parameter node id n i then Some Ended else None
edit_by node id sample (Tell n words) = None

abbrev pub edit_in : ℕ → ℕ → Entry → Option Edit
edit_in node id entry = edit_by node id entry.sample entry.command

-- what entries do to a parameter, the latest first
abbrev pub edits_of : List Entry → ℕ → ℕ → List Edit
edits_of entries node id = reverse (filter_map (edit_in node id) entries)

-- the entries up to a sample
abbrev pub up_to : ℕ → List Entry → List Entry
up_to s entries = filter (λ entry. nat_le entry.sample s) entries
