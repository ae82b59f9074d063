-- The words of a live rendering.
use Rattle.std.specs.Prelude.{ℕ, List, [], ◌∷◌, Option, Some, None, if◌then◌else◌, codes}
use Rattle.std.specs.Option.{option_map}
use Rattle.std.specs.Str.{bytes_eq}
use Rattle.vh_host.specs.Words.{behind_files}

-- its files, and the size of its blocks where the words give one
pub record Live : Type 0 where
  pub session : List ℕ
  pub input : List ℕ
  pub output : List ℕ
  pub journal : List ℕ
  pub block : Option ℕ

-- `SESSION IN OUT JOURNAL`
abbrev pub files_in : List (List ℕ) → Option Live
files_in (session ∷ input ∷ output ∷ journal ∷ words) =
    option_map (λ block. record { session = session; input = input; output = output; journal = journal; block = block }) (behind_files words)
files_in _ = None

-- `live` with its words
abbrev pub live_in : List (List ℕ) → Option Live
live_in [] = None
live_in (word ∷ words) = if bytes_eq word (codes "live") then files_in words else None

-- the names of the files that it may change
abbrev pub outputs_of : Option Live → List (List ℕ)
outputs_of None = []
outputs_of (Some live) = live.output ∷ live.journal ∷ []
