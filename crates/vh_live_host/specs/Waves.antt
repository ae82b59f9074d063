-- The file of frames in memory.
use Rattle.std.specs.Prelude.{◌≡◌, ◌≤◌, ◌*◌, ◌^◌, ◌⊎◌, ℕ, List, length, take, drop, ℤ}
use Rattle.std.specs.List.{flat_map}
use Rattle.vh_cut.specs.declared.piece.Piece.{Piece}
use Rattle.vh_cut.specs.Cut.{IsPattern}
use Rattle.vh_wav.specs.InMemory.{interleaved}
use Rattle.vh_wav.specs.Text.{sample_bytes, wav_text}
use Rattle.vh_live_host.specs.declared.wave.Wave.{Wave}

-- frames that a file can have
pub record IsWave (wave : Wave) : Type 0 where
  pub channels : (wave.channels ≡ 1) ⊎ (wave.channels ≡ 2)
  pub bits : (wave.bits ≡ 16) ⊎ (wave.bits ≡ 24)
  pub rate : wave.rate ≤ 768000
  pub few : wave.frames ≤ 2 ^ 24
  pub long : length wave.samples.now ≡ wave.channels * wave.frames
  pub pattern : IsPattern wave.sizes.now

-- the bytes of samples, one after another
abbrev pub samples_text : ℕ → List ℤ → List ℕ
samples_text bits samples = flat_map (sample_bytes bits) samples

-- those of the samples of a piece
abbrev pub piece_text : Wave → Piece → List ℕ
piece_text wave piece = samples_text wave.bits (take (wave.channels * piece.length) (drop (wave.channels * piece.start) wave.samples.now))

-- the file
abbrev pub wave_text : Wave → List ℕ
wave_text wave = wav_text wave.channels wave.rate wave.bits (interleaved wave.channels wave.samples.now)
