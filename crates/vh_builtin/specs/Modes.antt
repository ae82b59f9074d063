-- The mode that a controller's state holds.
use Rattle.std.specs.Prelude.{◌≡◌, ◌≢◌, ℕ, ◌≤◌, List, Option, Some, None}
use Rattle.vh_plugin.specs.Controls.{mode_text}

abbrev pub IsModeIn : List ℕ → Option ℕ → Type 0
IsModeIn bytes None = (bytes ≢ mode_text 0) × (bytes ≢ mode_text 1)
IsModeIn bytes (Some mode) = (mode ≤ 1) × (bytes ≡ mode_text mode)
