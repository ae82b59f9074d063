-- Samples that stand frame by frame.
use Rattle.std.proofs.Common.{◌≡◌, ◌∙◌, ◌⊎◌, inl, inr, ℕ, List, [], ◌∷◌, ◌++◌, length, map, ℤ, refl, sym, ap, arith}
use Rattle.std.specs.List.{flat_map}
use Rattle.std.proofs.lemmas.Grind.{flat_map-append}
use Rattle.std.proofs.lemmas.List.{map-append}
use Rattle.std.proofs.lemmas.List.Folds.{flat_map-map}
use Rattle.vh_num.specs.Frames.{Frame}
use Rattle.vh_core.specs.Kept.{pairs, interleaved, samples_of}

-- as many channels as there may be
abbrev pub IsFew : ℕ → Type 0
IsFew channels = (channels ≡ 1) ⊎ (channels ≡ 2)

no_one : {A : Type 0} (x : ℤ) (xs : List ℤ) → ◌≡◌ {A = List ℤ} [] (x ∷ xs) → A
no_one x xs is = absurd cc

tail_same : (left right : ℤ) (xs ys : List ℤ) → left ∷ right ∷ xs ≡ left ∷ right ∷ ys → xs ≡ ys
tail_same left right xs ys is = cc

pairs_more : (xs ys : List ℤ) → samples_of (pairs xs) ≡ xs → pairs (xs ++ ys) ≡ pairs xs ++ pairs ys
pairs_more [] ys whole = refl
pairs_more (x ∷ []) ys whole = no_one x [] whole
pairs_more (left ∷ right ∷ xs) ys whole = ap (λ (l : List Frame). (left ∷ right ∷ []) ∷ l) (pairs_more xs ys (tail_same left right (samples_of (pairs xs)) xs whole))

-- whole frames, and what stands behind them
interleaved_more : (channels : ℕ) (xs ys : List ℤ) → IsFew channels → samples_of (interleaved channels xs) ≡ xs → interleaved channels (xs ++ ys) ≡ interleaved channels xs ++ interleaved channels ys
interleaved_more channels xs ys few whole = elim few [
  | inl one ↦
      ap (λ (n : ℕ). interleaved n (xs ++ ys)) one ∙ map-append (λ (x : ℤ). x ∷ []) xs ys ∙ sym (ap (λ (n : ℕ). interleaved n xs ++ interleaved n ys) one)
  | inr two ↦
      let same : samples_of (pairs xs) ≡ xs = sym (ap (λ (n : ℕ). samples_of (interleaved n xs)) two) ∙ whole in
      ap (λ (n : ℕ). interleaved n (xs ++ ys)) two ∙ pairs_more xs ys same ∙ sym (ap (λ (n : ℕ). interleaved n xs ++ interleaved n ys) two)
]

one_first : (frame : Frame) (ys : List ℤ) → length frame ≡ 1 → interleaved 1 (frame ++ ys) ≡ frame ∷ interleaved 1 ys
one_first [] ys long = absurd (omega (arith, long))
one_first (x ∷ []) ys long = refl
one_first (x ∷ y ∷ frame) ys long = absurd (omega (arith, long))

two_first : (frame : Frame) (ys : List ℤ) → length frame ≡ 2 → interleaved 2 (frame ++ ys) ≡ frame ∷ interleaved 2 ys
two_first [] ys long = absurd (omega (arith, long))
two_first (x ∷ []) ys long = absurd (omega (arith, long))
two_first (x ∷ y ∷ []) ys long = refl
two_first (x ∷ y ∷ z ∷ frame) ys long = absurd (omega (arith, long))

frame_first : (channels : ℕ) (frame : Frame) (ys : List ℤ) → IsFew channels → length frame ≡ channels → interleaved channels (frame ++ ys) ≡ frame ∷ interleaved channels ys
frame_first channels frame ys few long = elim few [
  | inl one ↦ ap (λ (n : ℕ). interleaved n (frame ++ ys)) one ∙ one_first frame ys (long ∙ one) ∙ sym (ap (λ (n : ℕ). frame ∷ interleaved n ys) one)
  | inr two ↦ ap (λ (n : ℕ). interleaved n (frame ++ ys)) two ∙ two_first frame ys (long ∙ two) ∙ sym (ap (λ (n : ℕ). frame ∷ interleaved n ys) two)
]

pub none_left : (channels : ℕ) → IsFew channels → interleaved channels [] ≡ []
none_left channels few = elim few [
  | inl one ↦ ap (λ (n : ℕ). interleaved n []) one
  | inr two ↦ ap (λ (n : ℕ). interleaved n []) two
]

frames_back : (channels : ℕ) (frame_at : ℕ → Frame) → IsFew channels → ((s : ℕ) → length (frame_at s) ≡ channels) → (samples : List ℕ) → interleaved channels (flat_map frame_at samples) ≡ map frame_at samples
frames_back channels frame_at few long [] = none_left channels few
frames_back channels frame_at few long (s ∷ samples) =
    frame_first channels (frame_at s) (flat_map frame_at samples) few (long s) ∙ ap (λ (l : List Frame). frame_at s ∷ l) (frames_back channels frame_at few long samples)

-- so many frames more
module _ (channels : ℕ) (few : IsFew channels) (frame_at : ℕ → Frame) (long : (s : ℕ) → length (frame_at s) ≡ channels) (old new : List ℤ) (samples : List ℕ)
    (whole : samples_of (interleaved channels old) ≡ old) (more : new ≡ old ++ flat_map frame_at samples) where
  pub frames_more : interleaved channels new ≡ interleaved channels old ++ map frame_at samples
  frames_more =
      ap (interleaved channels) more ∙ interleaved_more channels old (flat_map frame_at samples) few whole
      ∙ ap (λ (l : List Frame). interleaved channels old ++ l) (frames_back channels frame_at few long samples)

  pub still_whole : samples_of (interleaved channels new) ≡ new
  still_whole =
      ap samples_of frames_more
      ∙ flat_map-append (λ (frame : Frame). frame) (interleaved channels old) (map frame_at samples)
      ∙ ap (λ (l : List ℤ). l ++ samples_of (map frame_at samples)) whole
      ∙ ap (λ (l : List ℤ). old ++ l) (flat_map-map (λ (frame : Frame). frame) frame_at samples)
      ∙ sym more
