-- Frames in memory as the bytes of a file.
use Rattle.std.proofs.Common.{◌≡◌, ◌∙◌, ℕ, zero, suc, ◌+◌, ◌*◌, ◌/◌, ◌%◌, Bool, true, false, eqb, List, [], ◌∷◌, ◌++◌, length, map, take, drop, ℤ, Option, ◌⊎◌, inl, inr, refl, sym, ap, subst, append_assoc, arith}
use Rattle.std.proofs.lemmas.List.{append-nil, length-map, take-append-drop}
use Rattle.std.proofs.lemmas.Grind.{flat_map-append}
use Rattle.std.proofs.Math.Nat.{mul-add}
use Rattle.std.proofs.Math.Seq.{take-add}
use Rattle.vh_wav.specs.InMemory.{pairs, interleaved}
use Rattle.vh_wav.specs.Text.{sample_bytes, frames_text, head_text}
use Rattle.vh_cut.specs.declared.piece.Piece.{Piece}
use Rattle.vh_files.specs.Store.{Grows, GrowsInPart}
use Rattle.vh_render.proofs.Texts.{text_is, pad_of, pad_odd, pad_even, grows_more, grows_in_part}
use Rattle.vh_live_host.specs.declared.wave.Wave.{Wave}
use Rattle.vh_live_host.specs.Waves.{IsWave, samples_text, piece_text, wave_text}

-- one channel
pub mono_text : (bits : ℕ) (samples : List ℤ) → frames_text bits (map (λ sample. sample ∷ []) samples) ≡ samples_text bits samples
mono_text bits [] = refl
mono_text bits (sample ∷ samples) =
    ap (λ (text : List ℕ). text ++ frames_text bits (map (λ s. s ∷ []) samples)) (append-nil (sample_bytes bits sample))
    ∙ ap (λ (text : List ℕ). sample_bytes bits sample ++ text) (mono_text bits samples)

-- two channels
pair_text : (bits n : ℕ) (samples : List ℤ) → length samples ≡ 2 * n → frames_text bits (pairs samples) ≡ samples_text bits samples
pair_text bits n [] long = refl
pair_text bits n (left ∷ []) long = absurd (omega (arith, long))
pair_text bits zero (left ∷ right ∷ samples) long = absurd (omega (arith, long))
pair_text bits (suc n) (left ∷ right ∷ samples) long =
    ap (λ (text : List ℕ). (sample_bytes bits left ++ text) ++ frames_text bits (pairs samples)) (append-nil (sample_bytes bits right))
    ∙ append_assoc (sample_bytes bits left) (sample_bytes bits right) (frames_text bits (pairs samples))
    ∙ ap (λ (text : List ℕ). sample_bytes bits left ++ (sample_bytes bits right ++ text)) (pair_text bits n samples (omega (arith, long)))

pairs_long : (n : ℕ) (samples : List ℤ) → length samples ≡ 2 * n → length (pairs samples) ≡ n
pairs_long n [] long = omega (arith, long)
pairs_long n (left ∷ []) long = absurd (omega (arith, long))
pairs_long zero (left ∷ right ∷ samples) long = absurd (omega (arith, long))
pairs_long (suc n) (left ∷ right ∷ samples) long = let rest = pairs_long n samples (omega (arith, long)) in omega (arith, rest)

-- the frames of interleaved samples, and their bytes
pub interleaved_text : (channels bits n : ℕ) (samples : List ℤ) → (channels ≡ 1) ⊎ (channels ≡ 2) → length samples ≡ channels * n → frames_text bits (interleaved channels samples) ≡ samples_text bits samples
interleaved_text channels bits n samples (inl is) long = ap (λ c. frames_text bits (interleaved c samples)) is ∙ mono_text bits samples
interleaved_text channels bits n samples (inr is) long =
    ap (λ c. frames_text bits (interleaved c samples)) is ∙ pair_text bits n samples (long ∙ ap (λ c. c * n) is)

pub interleaved_long : (channels n : ℕ) (samples : List ℤ) → (channels ≡ 1) ⊎ (channels ≡ 2) → length samples ≡ channels * n → length (interleaved channels samples) ≡ n
interleaved_long channels n samples (inl is) long =
    ap (λ c. length (interleaved c samples)) is ∙ length-map samples (λ (sample : ℤ). sample ∷ [])
    ∙ (let e : length samples ≡ 1 * n = long ∙ ap (λ c. c * n) is in let f : length samples ≡ n = omega (arith, e) in f)
interleaved_long channels n samples (inr is) long = ap (λ c. length (interleaved c samples)) is ∙ pairs_long n samples (long ∙ ap (λ c. c * n) is)

-- samples up to a frame, and those of the piece behind it
pub text_more : (bits channels at n past : ℕ) (samples : List ℤ) → past ≡ at + n
    → samples_text bits (take (channels * at) samples) ++ samples_text bits (take (channels * n) (drop (channels * at) samples)) ≡ samples_text bits (take (channels * past) samples)
text_more bits channels at n past samples is =
    sym (flat_map-append (sample_bytes bits) (take (channels * at) samples) (take (channels * n) (drop (channels * at) samples)))
    ∙ ap (λ (l : List ℤ). samples_text bits l) (sym (take-add (channels * at) (channels * n) samples))
    ∙ ap (λ m. samples_text bits (take m samples)) (sym (ap (λ m. channels * m) is ∙ mul-add channels at n))

-- a file of these frames, in its parts
pub wave_is : (wave : Wave) → IsWave wave
    → (head_text wave.channels wave.rate wave.bits wave.frames ++ samples_text wave.bits wave.samples.now) ++ pad_of wave.channels wave.bits wave.frames ≡ wave_text wave
wave_is wave is =
    let head = head_text wave.channels wave.rate wave.bits wave.frames in
    ap (λ (text : List ℕ). (head ++ text) ++ pad_of wave.channels wave.bits wave.frames) (sym (interleaved_text wave.channels wave.bits wave.frames wave.samples.now is.channels is.long))
    ∙ text_is wave.channels wave.rate wave.bits wave.frames (interleaved wave.channels wave.samples.now) (interleaved_long wave.channels wave.frames wave.samples.now is.channels is.long)

-- with its pad, and where it has none
pub wave_odd : (wave : Wave) → IsWave wave → eqb (wave.frames * (wave.channels * (wave.bits / 8)) % 2) 1 ≡ true
    → (head_text wave.channels wave.rate wave.bits wave.frames ++ samples_text wave.bits wave.samples.now) ++ 0 ∷ [] ≡ wave_text wave
wave_odd wave is odd =
    let before = head_text wave.channels wave.rate wave.bits wave.frames ++ samples_text wave.bits wave.samples.now in
    ap (λ (pad : List ℕ). before ++ pad) (sym (pad_odd wave.channels wave.bits wave.frames odd)) ∙ wave_is wave is

pub wave_even : (wave : Wave) → IsWave wave → eqb (wave.frames * (wave.channels * (wave.bits / 8)) % 2) 1 ≡ false
    → head_text wave.channels wave.rate wave.bits wave.frames ++ samples_text wave.bits wave.samples.now ≡ wave_text wave
wave_even wave is even =
    let before = head_text wave.channels wave.rate wave.bits wave.frames ++ samples_text wave.bits wave.samples.now in
    sym (append-nil before) ∙ ap (λ (pad : List ℕ). before ++ pad) (sym (pad_even wave.channels wave.bits wave.frames even)) ∙ wave_is wave is

-- the samples of a piece
pub piece_samples : (wave : Wave) (piece : Piece) (from count : ℕ) → from ≡ wave.channels * piece.start → count ≡ wave.channels * piece.length
    → samples_text wave.bits (take count (drop from wave.samples.now)) ≡ piece_text wave piece
piece_samples wave piece from count start long = ap (λ n. samples_text wave.bits (take n (drop from wave.samples.now))) long ∙ ap (λ n. samples_text wave.bits (take (wave.channels * piece.length) (drop n wave.samples.now))) start

-- a file that has the pieces before one, and then the piece, or a part of it
module _ (wave : Wave) (piece : Piece) (at past : ℕ) (complete still : Bool) (before mid after : Option (List ℕ)) (same : still ≡ complete) (start : piece.start ≡ at) (more : past ≡ piece.start + piece.length)
    (grown : Grows complete before mid (samples_text wave.bits (take (wave.channels * at) wave.samples.now))) where
  both : samples_text wave.bits (take (wave.channels * at) wave.samples.now) ++ piece_text wave piece ≡ samples_text wave.bits (take (wave.channels * past) wave.samples.now)
  both =
      ap (λ n. samples_text wave.bits (take (wave.channels * n) wave.samples.now) ++ piece_text wave piece) (sym start)
      ∙ text_more wave.bits wave.channels piece.start piece.length past wave.samples.now more

  pub piece_grows : Grows still mid after (piece_text wave piece) → Grows complete before after (samples_text wave.bits (take (wave.channels * past) wave.samples.now))
  piece_grows grows =
      let P : List ℕ → Type 0 = λ l. Grows complete before after l in
      subst P both (grows_more complete still before mid after (samples_text wave.bits (take (wave.channels * at) wave.samples.now)) (piece_text wave piece) same grown grows)

  pub piece_grows_in_part : GrowsInPart still mid after (piece_text wave piece) → GrowsInPart complete before after (samples_text wave.bits wave.samples.now)
  piece_grows_in_part part =
      let rest = samples_text wave.bits (drop (wave.channels * past) wave.samples.now) in
      let all : (samples_text wave.bits (take (wave.channels * at) wave.samples.now) ++ piece_text wave piece) ++ rest ≡ samples_text wave.bits wave.samples.now =
      ap (λ (text : List ℕ). text ++ rest) both
      ∙ sym (flat_map-append (sample_bytes wave.bits) (take (wave.channels * past) wave.samples.now) (drop (wave.channels * past) wave.samples.now))
      ∙ ap (λ l. samples_text wave.bits l) (take-append-drop (wave.channels * past) wave.samples.now) in
      grows_in_part complete still before mid after (samples_text wave.bits (take (wave.channels * at) wave.samples.now)) (piece_text wave piece) rest (samples_text wave.bits wave.samples.now) same all grown part
