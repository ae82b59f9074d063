-- A rendering that is drawn from a number.
use Rattle.std.specs.Prelude.{ℕ, ◌+◌, ◌*◌, List, [], length, replicate, Option, None}
use Rattle.vh_cut.specs.Cut.{pieces_of}
use Rattle.vh_preset.specs.Contents.{Contents}
use Rattle.vh_session.specs.Content.{Content}
use Rattle.vh_meaning.specs.Scene.{Scene}
use Rattle.vh_meaning.specs.Rendering.{stops}
use Rattle.vh_answers.specs.Steps.{Steps, Last}
use Rattle.vh_gen.specs.Generated.{session_of, journal_of, sizes}
use Rattle.vh_gen.specs.Summary.{gen_text}
use Rattle.vh_host.specs.Known.{Known, scene_under}

-- a preset for none of a session's nodes
abbrev pub no_presets : Content → List (Option Contents)
no_presets content = replicate (length content.nodes) None

-- what a number's session comes to under these classes
abbrev pub drawn_scene : Known → ℕ → Scene
drawn_scene known number = scene_under known (session_of known.infos number) (no_presets (session_of known.infos number))

-- the pieces that it is rendered in
abbrev pub drawn_pieces : Known → ℕ → ℕ
drawn_pieces known number = length (pieces_of (session_of known.infos number).length sizes (stops (journal_of known.infos number)))

-- each node's processor is called once for each piece and once at the end
abbrev pub drawn_calls : Known → ℕ → ℕ
drawn_calls known number = length (session_of known.infos number).nodes * (drawn_pieces known number + 1)

-- nothing is read and nothing written: a summary is said
abbrev pub gen_steps : Known → ℕ → Steps
gen_steps known number = Last [] (gen_text known.infos (drawn_scene known number) number) (drawn_calls known number)
