-- The entries of a block.
use Rattle.std.specs.Prelude.{◌≡◌, ◌<◌, ◌≤◌, ◌^◌, ℕ, List, length, slice_index_or, All, None}
use Rattle.vh_params.specs.declared.command.Command.{Command}
use Rattle.vh_params.specs.declared.command.Command.TheVariants.{Perform}
use Rattle.vh_journal.specs.declared.entry.Entry.{Entry}
use Rattle.vh_meaning.specs.Edits.{edit_in}

-- entries of the samples from one up to another, by rising sample
pub record AreBetween (least past : ℕ) (entries : List Entry) : Type 0 where
  pub rising : (i j : ℕ) (d : Entry) → i < j → j < length entries → (slice_index_or entries i d).sample ≤ (slice_index_or entries j d).sample
  pub from : All (λ entry. least ≤ entry.sample) entries
  pub to : All (λ entry. entry.sample < past) entries

-- no perform is above 1.0
abbrev pub IsWithinOne : Command → Type 0
IsWithinOne command = (node id value : ℕ) → command ≡ Perform node id value → value ≤ 2 ^ 24

abbrev pub AreWithinOne : List Entry → Type 0
AreWithinOne entries = All (λ entry. IsWithinOne entry.command) entries

-- none of them is on this parameter
abbrev pub AreElsewhere : ℕ → ℕ → List Entry → Type 0
AreElsewhere node id entries = All (λ entry. edit_in node id entry ≡ None) entries

-- those before this place are of samples up to s, those from it on of later ones
pub record IsUpTo (entries : List Entry) (place s : ℕ) : Type 0 where
  pub most : place ≤ length entries
  pub before : (i : ℕ) (d : Entry) → i < place → (slice_index_or entries i d).sample ≤ s
  pub after : (i : ℕ) (d : Entry) → place ≤ i → i < length entries → s < (slice_index_or entries i d).sample
