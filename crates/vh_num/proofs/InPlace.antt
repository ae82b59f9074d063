use Rattle.std.proofs.Common.{◌≡◌, ℕ, zero, suc, ◌+◌, ◌*◌, ◌/◌, ◌<◌, inl, inr, List, [], ◌∷◌, length, get_or, map, take, drop, zip, ℤ, pos, refl, sym, ap, subst, ◌∙◌, arith}
use Rattle.std.proofs.lemmas.List.{length-map, get_or-map, length-take-le, length-drop, get_or-take, get_or-drop}
use Rattle.std.proofs.lemmas.Slice.Zip.{length-zip, get_or-zip}
use Rattle.vh_num.specs.Frames.{frame_at, frames_of}
use Rattle.vh_num.specs.Laws.{FrameHasSamples, FramesAreInPlace}

channels_of_frame : (channels n place : ℕ) (samples : List ℤ) → length (frame_at channels n samples place) ≡ channels
channels_of_frame zero n place samples = refl
channels_of_frame (suc channels) n place samples = ap (λ k. suc k) (channels_of_frame channels n place (drop n samples))

sample_of_frame : (channels n place : ℕ) (samples : List ℤ) (channel : ℕ) → channel < channels
    → get_or (frame_at channels n samples place) channel (pos 0) ≡ get_or samples (channel * n + place) (pos 0)
sample_of_frame zero n place samples channel lt = absurd (omega arith)
sample_of_frame (suc channels) n place samples zero lt = ap (λ k. get_or samples k (pos 0)) (omega arith)
sample_of_frame (suc channels) n place samples (suc channel) lt =
    sample_of_frame channels n place (drop n samples) channel (omega (arith, lt))
    ∙ get_or-drop n samples (channel * n + place) (pos 0)
    ∙ ap (λ k. get_or samples k (pos 0)) (omega arith)

pub law_frame_has_samples : FrameHasSamples
law_frame_has_samples channels n place samples = (channels_of_frame channels n place samples, sample_of_frame channels n place samples)

one_channel : (n : ℕ) (samples : List ℤ) → length samples ≡ 1 * n
    → (length (frames_of 1 samples) ≡ n) × ((place : ℕ) → place < n → get_or (frames_of 1 samples) place [] ≡ frame_at 1 n samples place)
one_channel n samples long = (
  length-map samples (λ (x : ℤ). x ∷ []) ∙ omega (arith, long),
  λ place within. get_or-map (λ (x : ℤ). x ∷ []) samples place (pos 0) [] (omega (arith, long, within)),
)

two_channels : (n : ℕ) (samples : List ℤ) → length samples ≡ 2 * n
    → (length (frames_of 2 samples) ≡ n) × ((place : ℕ) → place < n → get_or (frames_of 2 samples) place [] ≡ frame_at 2 n samples place)
two_channels n samples long =
    let half : length samples / 2 ≡ n = omega (arith, long) in
    let left : List ℤ = take n samples in
    let right : List ℤ = drop n samples in
    let frames : frames_of 2 samples ≡ map (λ (p : ℤ × ℤ). p.0 ∷ p.1 ∷ []) (zip left right) =
    ap (λ k. map (λ (p : ℤ × ℤ). p.0 ∷ p.1 ∷ []) (zip (take k samples) (drop k samples))) half in
    let left_long : length left ≡ n = length-take-le n samples (omega (arith, long)) in
    let right_long : length right ≡ n = length-drop n samples ∙ omega (arith, long) in
    let pairs : length (zip left right) ≡ n = length-zip left right ∙ omega (arith, left_long, right_long) in (
      ap (λ fs. length fs) frames ∙ length-map (zip left right) (λ (p : ℤ × ℤ). p.0 ∷ p.1 ∷ []) ∙ pairs,
      λ place within.
          ap (λ fs. get_or fs place []) frames
          ∙ get_or-map (λ (p : ℤ × ℤ). p.0 ∷ p.1 ∷ []) (zip left right) place (pos 0, pos 0) [] (omega (arith, pairs, within))
          ∙ ap (λ (p : ℤ × ℤ). p.0 ∷ p.1 ∷ []) (get_or-zip left right place (pos 0, pos 0) (omega (arith, left_long, within)) (omega (arith, right_long, within)))
          ∙ ap (λ x. x ∷ get_or right place (pos 0) ∷ []) (get_or-take n samples place (pos 0) within),
    )

pub law_frames_are_in_place : FramesAreInPlace
law_frames_are_in_place channels n samples (inl one) long =
    subst (λ c. (length (frames_of c samples) ≡ n) × ((place : ℕ) → place < n → get_or (frames_of c samples) place [] ≡ frame_at c n samples place))
    (sym one) (one_channel n samples (long ∙ ap (λ c. c * n) one))
law_frames_are_in_place channels n samples (inr two) long =
    subst (λ c. (length (frames_of c samples) ≡ n) × ((place : ℕ) → place < n → get_or (frames_of c samples) place [] ≡ frame_at c n samples place))
    (sym two) (two_channels n samples (long ∙ ap (λ c. c * n) two))
