-- Names of nodes.
use Rattle.std.specs.Prelude.{ℕ, Bool, not, ◌&&◌, ◌||◌, ◌==◌, nat_le, List, length, slice_index, codes}
use Rattle.std.specs.List.{list_all}
use Rattle.std.specs.Str.{bytes_eq}

abbrev pub is_digit : ℕ → Bool
is_digit b = nat_le 48 b && nat_le b 57

abbrev pub is_lower : ℕ → Bool
is_lower b = nat_le 97 b && nat_le b 122

abbrev pub is_name_byte : ℕ → Bool
is_name_byte b = (is_lower b || is_digit b) || (b == 95)

-- 1 to 32 bytes, a lower-case letter and then lower-case letters, digits and `_`; not `in`, not `out`
abbrev pub is_name : List ℕ → Bool
is_name text =
    ((nat_le 1 (length text) && nat_le (length text) 32) && (is_lower (slice_index text 0) && list_all is_name_byte text))
    && (not (bytes_eq text (codes "in")) && not (bytes_eq text (codes "out")))
