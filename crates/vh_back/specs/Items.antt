-- What goes over a link.
use Rattle.std.specs.Prelude.{ℕ, ◌^◌, Bool, true, false, ◌&&◌, ◌==◌, nat_le, List, [], ◌∷◌, Option, Some, None, if◌then◌else◌}
use Rattle.std.specs.List.{filter_map, list_any}
use Rattle.std.specs.Option.{option_or}
use Rattle.vh_params.specs.declared.command.Reply.{Reply as Answer}
use Rattle.vh_back.specs.declared.item.Parameter.{Parameter}
use Rattle.vh_back.specs.declared.item.Item.{Item}
use Rattle.vh_back.specs.declared.item.Item.TheVariants.{Echo, Reply}

abbrev pub parameter : ℕ → ℕ → Parameter
parameter node id = record { node = node; id = id }

abbrev pub is_same : Parameter → Parameter → Bool
is_same one other = (one.node == other.node) && (one.id == other.id)

-- the parameter of an echo, and a reply
abbrev pub parameter_of : Item → Option Parameter
parameter_of (Echo node id value after last) = Some (parameter node id)
parameter_of (Reply reply) = None

abbrev pub reply_of : Item → Option Answer
reply_of (Echo node id value after last) = None
reply_of (Reply reply) = Some reply

-- the parameters of the echoes, and the replies
abbrev pub echoed : List Item → List Parameter
echoed items = filter_map parameter_of items

abbrev pub replies : List Item → List Answer
replies items = filter_map reply_of items

-- an echo's value is at most 1.0
abbrev pub is_within : Item → Bool
is_within (Echo node id value after last) = nat_le value (2 ^ 24)
is_within (Reply reply) = true

-- an echo is of one of these parameters
abbrev pub is_among : List Parameter → Item → Bool
is_among parameters (Echo node id value after last) = list_any (is_same (parameter node id)) parameters
is_among parameters (Reply reply) = true

-- the value that an item gives a parameter, and the last one that these items give it
abbrev pub value_for : Parameter → Item → Option ℕ
value_for other (Echo node id value after last) = if is_same other (parameter node id) then Some value else None
value_for other (Reply reply) = None

abbrev pub last_value : List Item → Parameter → Option ℕ
last_value [] other = None
last_value (item ∷ items) other = option_or (last_value items other) (value_for other item)

-- an echo comes in the place of an earlier one of its parameter
abbrev pub replaces : Item → Item → Bool
replaces (Echo node id value after last) (Echo node' id' value' after' last') = is_same (parameter node id) (parameter node' id')
replaces (Echo node id value after last) (Reply reply) = false
replaces (Reply reply) item = false

-- what is kept, and this item: in the place of the one that it replaces, else behind
abbrev pub put : Item → List Item → List Item
put item [] = item ∷ []
put item (kept ∷ rest) = if replaces item kept then item ∷ rest else kept ∷ put item rest
