-- The limits of a session.
use Rattle.std.specs.Prelude.{ℕ}

-- frames of a session
abbrev pub most_frames : ℕ
most_frames = 16777216

-- sizes of a pattern
abbrev pub most_sizes : ℕ
most_sizes = 16

-- frames of a block
abbrev pub most_size : ℕ
most_size = 8192

-- nodes
abbrev pub most_nodes : ℕ
most_nodes = 64

-- bytes of a file's name
abbrev pub most_file : ℕ
most_file = 255

-- wires
abbrev pub most_wires : ℕ
most_wires = 256

-- lanes
abbrev pub most_lanes : ℕ
most_lanes = 256

-- bits that a lane's grain may take away
abbrev pub most_grain : ℕ
most_grain = 24

-- breakpoints of a lane
abbrev pub most_breaks : ℕ
most_breaks = 4096

-- editors
abbrev pub most_editors : ℕ
most_editors = 8

-- words of all scripts together
abbrev pub most_script_words : ℕ
most_script_words = 4096

-- numbers of a message
abbrev pub most_numbers : ℕ
most_numbers = 4

-- bytes of a text
abbrev pub session_limit : ℕ
session_limit = 33554432
