-- The state bytes of the built-in classes: the number 1, then the id and the value of each writable parameter by rising
-- id, each number in 4 bytes, the least first.
use Rattle.std.specs.Prelude.{ℕ, ◌+◌, ◌/◌, ◌%◌, ◌^◌, Bool, ◌&&◌, ◌==◌, nat_le, List, [], ◌∷◌, ◌++◌, length, Option, Some, None, if◌then◌else◌}
use Rattle.vh_files.specs.Fields.{field_at}
use Rattle.vh_params.specs.Flags.{is_writable}
use Rattle.vh_plugin.specs.Class.{Param, writable_of}

abbrev pub word_bytes : ℕ → List ℕ
word_bytes n = n % 256 ∷ n / 256 % 256 ∷ n / 65536 % 256 ∷ n / 16777216 % 256 ∷ []

-- ids and values, one after the other
abbrev pub pair_bytes : List ℕ → List ℕ → List ℕ
pair_bytes [] values = []
pair_bytes (id ∷ ids) [] = []
pair_bytes (id ∷ ids) (value ∷ values) = word_bytes id ++ (word_bytes value ++ pair_bytes ids values)

-- the bytes of the values of writable parameters
abbrev pub text_of : List ℕ → List ℕ → List ℕ
text_of ids values = word_bytes 1 ++ pair_bytes ids values

-- an id stands at this place, with a value up to 1.0
abbrev pub is_pair : List ℕ → ℕ → ℕ → Bool
is_pair bytes at id = nat_le (at + 8) (length bytes) && ((field_at bytes at 4 == id) && nat_le (field_at bytes (at + 4) 4) (2 ^ 24))

-- from this place on stand these ids, and nothing more
abbrev pub are_pairs : List ℕ → List ℕ → ℕ → Bool
are_pairs [] bytes at = length bytes == at
are_pairs (id ∷ ids) bytes at = is_pair bytes at id && are_pairs ids bytes (at + 8)

-- their values
abbrev pub pair_values : List ℕ → List ℕ → ℕ → List ℕ
pair_values [] bytes at = []
pair_values (id ∷ ids) bytes at = field_at bytes (at + 4) 4 ∷ pair_values ids bytes (at + 8)

-- the bytes are of this form
abbrev pub is_form : List ℕ → List ℕ → Bool
is_form ids bytes = nat_le 4 (length bytes) && ((field_at bytes 0 4 == 1) && are_pairs ids bytes 4)

-- the values that bytes hold
abbrev pub held_in : List ℕ → List ℕ → Option (List ℕ)
held_in ids bytes = if is_form ids bytes then Some (pair_values ids bytes 4) else None

-- the ids of the parameters that can be set
abbrev pub writable_ids : List Param → List ℕ
writable_ids [] = []
writable_ids (param ∷ params) = if is_writable param.flags then param.id ∷ writable_ids params else writable_ids params

-- the bytes of the values, one for each of these parameters, and the values of the writable ones that bytes hold
abbrev pub text_by : List Param → List ℕ → List ℕ
text_by params values = text_of (writable_ids params) (writable_of params values)

abbrev pub held_by : List Param → List ℕ → Option (List ℕ)
held_by params = held_in (writable_ids params)
