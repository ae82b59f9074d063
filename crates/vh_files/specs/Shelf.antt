-- Files in memory: names with keys, and the bytes under each key.
use Rattle.std.specs.Prelude.{◌≡◌, ℕ, List, [], ◌∷◌, map, Option, Some, None, if◌then◌else◌, Vec, Bool, not}
use Rattle.std.specs.Option.{option_map_or}
use Rattle.std.specs.String.{string_bytes}
use Rattle.std.specs.Str.{bytes_eq}
use Rattle.std.specs.FinMap.{from_entries}
use Rattle.std.specs.declared.alloc.Global.{Global}
use Rattle.slab.specs.Slab.{Slab, get, ContainsKey}
use Rattle.vh_files.specs.Store.{Held}
use Rattle.vh_files.specs.declared.shelf.Named.{Named}

abbrev pub Bytes : Type 0
Bytes = Vec ℕ Global

-- the key of the first of these names that is this one
abbrev pub key_in : List Named → List ℕ → Option ℕ
key_in [] name = None
key_in (n ∷ ns) name = if bytes_eq name (string_bytes n.name) then Some n.key else key_in ns name

-- an entry with another name than this
abbrev pub has_other_name : List ℕ → Named → Bool
has_other_name name n = not (bytes_eq (string_bytes n.name) name)

-- the bytes under a key, none where it has no value
abbrev pub bytes_at : Slab Bytes → ℕ → List ℕ
bytes_at slab key = option_map_or (λ v. v.items) (get slab key) []

-- the names, each with the bytes under its key
abbrev pub entries_in : Slab Bytes → List Named → List (List ℕ × List ℕ)
entries_in slab names = map (λ n. (string_bytes n.name, bytes_at slab n.key)) names

abbrev pub held_in : Slab Bytes → List Named → Held
held_in slab names = from_entries (entries_in slab names)

-- each name's key has bytes, and no two names have one key
pub record IsShelf (slab : Slab Bytes) (names : List Named) : Type 0 where
  pub found : (name : List ℕ) (key : ℕ) → key_in names name ≡ Some key → ContainsKey slab key
  pub apart : (one other : List ℕ) (key : ℕ) → key_in names one ≡ Some key → key_in names other ≡ Some key → one ≡ other
