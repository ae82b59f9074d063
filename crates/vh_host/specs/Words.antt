-- The words of a command.
use Rattle.std.specs.Prelude.{ℕ, List, [], ◌∷◌, take, drop, Option, Some, None, if◌then◌else◌, codes}
use Rattle.std.specs.Option.{option_map}
use Rattle.std.specs.Str.{bytes_eq}
use Rattle.vh_text.specs.Numbers.{number_of, is_within}

-- A rendering: its files, a journal where it is replayed, and the size of its blocks where the words give one.
pub record Render : Type 0 where
  pub session : List ℕ
  pub input : List ℕ
  pub output : List ℕ
  pub journal : Option (List ℕ)
  pub block : Option ℕ

-- What is saved: the preset of a session's node, and into which file.
pub record Save : Type 0 where
  pub session : List ℕ
  pub node : List ℕ
  pub output : List ℕ

pub data Command : Type 0 where
  Renders : Render → Command
  -- the session's file
  Checks : List ℕ → Command
  -- the preset's file
  Shows : List ℕ → Command
  Saves : Save → Command
  -- a number
  Generates : ℕ → Command

abbrev pub if_size : Option ℕ → Option ℕ
if_size None = None
if_size (Some n) = if is_within 1 8192 n then Some n else None

-- `block=N`, with N from 1 to 8192
abbrev pub block_in : List ℕ → Option ℕ
block_in word = if bytes_eq (take 6 word) (codes "block=") then if_size (number_of (drop 6 word)) else None

-- behind a rendering's files stands nothing, or the size of its blocks
abbrev pub behind_files : List (List ℕ) → Option (Option ℕ)
behind_files [] = Some None
behind_files (word ∷ []) = option_map Some (block_in word)
behind_files (word ∷ more ∷ words) = None

-- `SESSION IN OUT`
abbrev pub render_in : List (List ℕ) → Option Command
render_in (session ∷ input ∷ output ∷ words) =
    option_map (λ block. Renders (record { session = session; input = input; output = output; journal = None; block = block })) (behind_files words)
render_in _ = None

-- `SESSION IN OUT JOURNAL`
abbrev pub replay_in : List (List ℕ) → Option Command
replay_in (session ∷ input ∷ output ∷ journal ∷ words) =
    option_map (λ block. Renders (record { session = session; input = input; output = output; journal = Some journal; block = block })) (behind_files words)
replay_in _ = None

-- `SESSION`
abbrev pub check_in : List (List ℕ) → Option Command
check_in (session ∷ []) = Some (Checks session)
check_in _ = None

-- `FILE`
abbrev pub show_in : List (List ℕ) → Option Command
show_in (preset ∷ []) = Some (Shows preset)
show_in _ = None

-- `SESSION NODE OUT`
abbrev pub save_in : List (List ℕ) → Option Command
save_in (session ∷ node ∷ output ∷ []) = Some (Saves (record { session = session; node = node; output = output }))
save_in _ = None

-- `N`
abbrev pub gen_in : List (List ℕ) → Option Command
gen_in (number ∷ []) = option_map Generates (number_of number)
gen_in _ = None

-- `render`, `replay`, `check`, `preset-show`, `preset-save` and `gen`, each with its words; there is no other command yet
abbrev pub command_in : List (List ℕ) → Option Command
command_in [] = None
command_in (word ∷ words) =
    if bytes_eq word (codes "render") then render_in words
    else (if bytes_eq word (codes "replay") then replay_in words
    else (if bytes_eq word (codes "check") then check_in words
    else (if bytes_eq word (codes "preset-show") then show_in words
    else (if bytes_eq word (codes "preset-save") then save_in words
    else (if bytes_eq word (codes "gen") then gen_in words
    else None)))))
