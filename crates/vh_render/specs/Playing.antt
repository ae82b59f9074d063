-- What a rendering into a file is.
use Rattle.std.specs.Prelude.{◌≡◌, ◌≤◌, ◌<◌, ◌+◌, ◌*◌, ◌⊎◌, ℕ, zero, suc, Bool, false, List, length, map, take, slice_index_or, All, Option}
use Rattle.vh_cut.specs.declared.piece.Piece.{Piece}
use Rattle.vh_cut.specs.Cut.{IsPattern, pieces_of}
use Rattle.vh_cut.specs.Laws.{IsCrossed}
use Rattle.vh_files.specs.Store.{HasNow}
use Rattle.vh_num.specs.Frames.{Frame}
use Rattle.vh_plugin.specs.Class.{Class}
use Rattle.vh_plugin.specs.Counts.{raised}
use Rattle.vh_wav.specs.Text.{wav_text}
use Rattle.vh_journal.specs.declared.entry.Entry.{Entry}
use Rattle.vh_meaning.specs.Scene.{Scene}
use Rattle.vh_meaning.specs.Rendering.{rendering, stops}
use Rattle.vh_engine.specs.Kept.{Kept, scene_in, Stands, IsFor, AreInput}
use Rattle.vh_render.specs.declared.room.Room.{Room}
use Rattle.vh_render.specs.declared.score.Score.{Score}
use Rattle.vh_render.specs.declared.sound.Sound.{Sound}

-- room for pieces of at most so many frames
pub record HasRoom (channels max : ℕ) (room : Room) : Type 0 where
  pub ins : channels * max ≤ length room.ins.items
  pub outs : channels * max ≤ length room.outs.items
  pub bytes : 3 * (channels * max) ≤ length room.bytes.items

-- a score of an engine's session, of which no piece is longer than the engine's blocks
pub record IsScoreOf (kept : Kept) (score : Score) : Type 0 where
  pub samples : score.length ≡ kept.session.length
  pub channels : score.sound.now.channels ≡ kept.session.channels
  pub frames : score.sound.now.frames ≡ score.length
  pub bits : (score.bits ≡ 16) ⊎ (score.bits ≡ 24)
  pub rate : score.rate ≤ 768000
  pub pattern : IsPattern score.pattern.now
  pub sizes : All (λ size. size ≤ kept.max) score.pattern.now
  pub stops_are : score.stops.now ≡ stops score.entries.now

-- edits and messages that a rendering may carry: by rising sample up to the length, on parameters and nodes that are
-- there, and no more messages than there is room for
pub record MayFollow (scene : Scene) (samples room : ℕ) (entries : List Entry) : Type 0 where
  pub rising : (i j : ℕ) (d : Entry) → i < j → j < length entries → (slice_index_or entries i d).sample ≤ (slice_index_or entries j d).sample
  pub within : All (λ entry. entry.sample ≤ samples) entries
  pub commands : All (λ entry. IsFor scene entry.command) entries
  pub few : length (stops entries) ≤ room

-- an engine before its first sample, and what it is to play
pub record IsPlayable (class_of : ℕ → Class) (kept : Kept) (score : Score) (room : Room) : Type 0 where
  pub begins : kept.at ≡ 0
  pub going : kept.flushed ≡ false
  pub score_of : IsScoreOf kept score
  pub entries : MayFollow (scene_in class_of kept) score.length kept.room score.entries.now
  pub space : HasRoom kept.session.channels kept.max room

-- the sound is the input's, as far as a scene hears it
abbrev pub IsInput : Scene → List Frame → Sound → Type 0
IsInput scene input sound = AreInput scene input 0 scene.length sound.samples.items

-- an engine stands for an input, whose sound this is, and for these entries
pub record IsPlaying (class_of : ℕ → Class) (kept : Kept) (sound : Sound) (input : List Frame) (h : List Entry) : Type 0 where
  pub stands : Stands class_of kept input h
  pub sound_is : IsInput (scene_in class_of kept) input sound

abbrev pub piece_count : Score → ℕ
piece_count score = length (pieces_of score.length score.pattern.now score.stops.now)

-- the file of a rendering
abbrev pub file_text : Scene → List Frame → Score → List ℕ
file_text scene input score = wav_text scene.channels score.rate score.bits (rendering scene input score.entries.now)

-- a file has a front part of this text, and not all of it
abbrev pub HasPart : Bool → Option (List ℕ) → List ℕ → Type 0
HasPart complete now text = (n : ℕ) × (n < length text) × HasNow complete now (take n text)

-- a count of calls that was raised so many times
abbrev pub called : ℕ → ℕ → ℕ
called zero calls = calls
called (suc times) calls = raised (called times calls)

-- an engine stands for an input and the first of these entries
abbrev pub StandsWithin : (ℕ → Class) → Kept → List Frame → List Entry → Type 0
StandsWithin class_of kept input entries = (taken : ℕ) × Stands class_of kept input (take taken entries)

-- an engine was stopped before its end: its processors were called for some of so many pieces
pub record IsStopped (old new : Kept) (pieces : ℕ) : Type 0 where
  pub played : ℕ
  pub few : played ≤ pieces
  pub calls : new.calls ≡ map (called played) old.calls
  pub going : new.flushed ≡ false

-- a piece of a score: of some frames, no more than so many, within the length, with no stop behind its first sample
pub record IsPieceOf (score : Score) (max : ℕ) (piece : Piece) : Type 0 where
  pub some : 1 ≤ piece.length
  pub most : piece.length ≤ max
  pub within : piece.start + piece.length ≤ score.length
  pub uncrossed : All (λ stop. ¬ IsCrossed stop piece) score.stops.now

-- entries before this place are of samples below `at`, those from it on of others
pub record IsUpTo (entries : List Entry) (place at : ℕ) : Type 0 where
  pub most : place ≤ length entries
  pub before : (i : ℕ) (d : Entry) → i < place → (slice_index_or entries i d).sample < at
  pub after : (i : ℕ) (d : Entry) → place ≤ i → i < length entries → at ≤ (slice_index_or entries i d).sample

-- an engine at a sample, which has taken the entries before it
pub record IsUnderWay (class_of : ℕ → Class) (kept : Kept) (score : Score) (at taken : ℕ) : Type 0 where
  pub at_is : kept.at ≡ at
  pub going : kept.flushed ≡ false
  pub score_of : IsScoreOf kept score
  pub entries : MayFollow (scene_in class_of kept) score.length (kept.room + length (stops (take taken score.entries.now))) score.entries.now
  pub up_to : IsUpTo score.entries.now taken at
