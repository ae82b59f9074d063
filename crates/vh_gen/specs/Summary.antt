-- What is said of a number.
use Rattle.std.specs.Prelude.{ℕ, ◌+◌, ◌-◌, List, [], ◌∷◌, length, sum_by, codes, ℤ, pos, negsuc}
use Rattle.std.specs.Fmt.{decimal}
use Rattle.vh_cut.specs.Cut.{pieces_of}
use Rattle.vh_num.specs.Frames.{Frame}
use Rattle.vh_params.specs.declared.class.ClassInfo.{ClassInfo}
use Rattle.vh_text.specs.Written.{lines_text}
use Rattle.vh_wav.specs.Text.{rounded}
use Rattle.vh_meaning.specs.Scene.{Scene}
use Rattle.vh_meaning.specs.Rendering.{rendering, stops}
use Rattle.vh_gen.specs.Nodes.{node_total}
use Rattle.vh_gen.specs.Generated.{journal_of, input_of, sizes}

-- a number of 16 bits with sign, counted from the lowest of them: 32768 more
abbrev pub from_lowest : ℤ → ℕ
from_lowest (pos n) = n + 32768
from_lowest (negsuc n) = 32767 - n

-- of a sample that is rounded to 16 bits
abbrev pub level : ℤ → ℕ
level sample = from_lowest (rounded 16 sample)

abbrev pub frame_level : Frame → ℕ
frame_level frame = sum_by level frame

abbrev pub level_sum : List Frame → ℕ
level_sum frames = sum_by frame_level frames

-- NAME N
abbrev pub count_words : List ℕ → ℕ → List (List ℕ)
count_words name count = name ∷ decimal count ∷ []

-- the lines on a number, of so many nodes, entries and pieces, and with this sum
abbrev pub summary_text : ℕ → ℕ → ℕ → ℕ → ℕ → List ℕ
summary_text number nodes entries pieces sum = lines_text (
    (codes "vsthost" ∷ count_words (codes "gen") number)
    ∷ count_words (codes "nodes") nodes
    ∷ count_words (codes "entries") entries
    ∷ count_words (codes "pieces") pieces
    ∷ count_words (codes "sum") sum
    ∷ (codes "close" ∷ [])
    ∷ [])

-- what is said of a number whose session comes to this scene, with the sum over its rendering
unfoldable pub gen_text : List ClassInfo → Scene → ℕ → List ℕ
gen_text known scene number = summary_text number (node_total number) (length (journal_of known number))
    (length (pieces_of scene.length sizes (stops (journal_of known number))))
    (level_sum (rendering scene (input_of known number) (journal_of known number)))
