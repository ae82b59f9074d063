-- What reaches a bus in a block: samples that stand channel after channel.
use Rattle.std.specs.Prelude.{◌≡◌, ◌<◌, ◌≤◌, ⊤, ℕ, List, [], ◌∷◌, map, take, length, slice_index_or, All, ℤ, Vec}
use Rattle.std.specs.declared.alloc.Global.{Global}
use Rattle.vh_num.specs.Frames.{Frame, frame_at}
use Rattle.vh_session.specs.declared.wire.End.{End}
use Rattle.vh_session.specs.declared.wire.End.TheVariants.{In, Out, Node as AtNode}
use Rattle.vh_meaning.specs.Mix.{brought}

-- the samples of each node
abbrev pub rows_of : List (Vec ℤ Global) → List (List ℤ)
rows_of rows = map (λ row. row.items) rows

abbrev pub row_at : List (List ℤ) → ℕ → List ℤ
row_at rows node = slice_index_or rows node []

-- a wire begins at the input, or at one of so many nodes
abbrev pub IsSource : ℕ → End → Type 0
IsSource count In = ⊤
IsSource count Out = ⊥
IsSource count (AtNode node) = node < count

-- the samples that a wire from this end brings
abbrev pub samples_of : List ℤ → List (List ℤ) → ℕ → End → List ℤ
samples_of ins rows size In = ins
samples_of ins rows size Out = []
samples_of ins rows size (AtNode node) = take size (row_at rows node)

-- the samples of a bus, wire by wire
abbrev pub sources_of : List ℤ → List (List ℤ) → ℕ → List End → List (List ℤ)
sources_of ins rows size ends = map (samples_of ins rows size) ends

-- each node has room for so many samples
abbrev pub HaveRoom : ℕ → List (List ℤ) → Type 0
HaveRoom size rows = (node : ℕ) → node < length rows → size ≤ length (row_at rows node)

-- the frames of nodes at a place of a block
abbrev pub frames_at : ℕ → ℕ → List (List ℤ) → ℕ → ℕ → Frame
frames_at channels n rows place node = frame_at channels n (row_at rows node) place

-- the frames that reach a bus at a place of a block
abbrev pub reaching : ℕ → ℕ → List ℤ → List (List ℤ) → List End → ℕ → List Frame
reaching channels n ins rows ends place = map (brought (frame_at channels n ins place) (frames_at channels n rows place)) ends
