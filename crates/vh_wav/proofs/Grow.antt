use Rattle.std.proofs.Common.{◌≡◌, ℕ, ◌+◌, ◌*◌, ◌<◌, ◌≤◌, List, [], ◌∷◌, ◌++◌, length, get_or, take, drop, map, ◌/◌, ℤ, refl, sym, ap, ◌∙◌, arith}
use Rattle.std.specs.List.{flat_map, zip}
use Rattle.std.proofs.lemmas.List.{flat_map_more, take_more, append-nil}
use Rattle.std.proofs.lemmas.Slice.{take-put_mid}
use Rattle.std.proofs.Math.Nat.{mul-le-mul_left}
use borrow.Rule.Slice.PartMut.{put_mid}
use Rattle.vh_num.specs.Frames.{frames_of}
use Rattle.vh_wav.specs.Text.{sample_bytes, frames_text}

-- the bytes of one element more, behind those of the elements before
pub grown : {X : Type 0} (f : X → List ℕ) (xs : List X) (i w k : ℕ) (d : X) (out part : List ℕ) → i < length xs → take (w * i) out ≡ flat_map f (take i xs) → part ≡ f (get_or xs i d) → length part ≡ w → w * length xs ≤ length out → take (w * (i + 1)) (put_mid (w * i) k out part) ≡ flat_map f (take (i + 1) xs)
grown {X} f xs i w k d out part here so e size room =
    let least = mul-le-mul_left w (let le : i ≤ length xs = omega arith in le) in
    let fits : w * i ≤ length out = omega (arith, least) in
    let next : w * (i + 1) ≡ w * i + length part = omega arith in
    take-put_mid (w * i) k out part (w * (i + 1)) next fits
    ∙ ap (λ ys. ys ++ part) so
    ∙ ap (λ p. flat_map f (take i xs) ++ p) e
    ∙ flat_map_more f [] (take i xs) (get_or xs i d)
    ∙ ap (flat_map f) (sym (take_more xs i d here))

-- the bytes of frames of one sample
pub mono_text : (bits : ℕ) (xs : List ℤ) → frames_text bits (frames_of 1 xs) ≡ flat_map (sample_bytes bits) xs
mono_text bits [] = refl
mono_text bits (x ∷ xs) = ap (λ bs. bs ++ frames_text bits (frames_of 1 xs)) (append-nil (sample_bytes bits x)) ∙ ap (λ bs. sample_bytes bits x ++ bs) (mono_text bits xs)

pairs_text : (bits : ℕ) (ps : List (ℤ × ℤ)) → frames_text bits (map (λ (p : ℤ × ℤ). p.0 ∷ p.1 ∷ []) ps) ≡ flat_map (λ (p : ℤ × ℤ). sample_bytes bits p.0 ++ sample_bytes bits p.1) ps
pairs_text bits [] = refl
pairs_text bits (p ∷ ps) =
    ap (λ bs. (sample_bytes bits p.0 ++ bs) ++ frames_text bits (map (λ (p : ℤ × ℤ). p.0 ∷ p.1 ∷ []) ps)) (append-nil (sample_bytes bits p.1))
    ∙ ap (λ bs. (sample_bytes bits p.0 ++ sample_bytes bits p.1) ++ bs) (pairs_text bits ps)

-- the bytes of frames of two
pub stereo_text : (bits n : ℕ) (xs : List ℤ) → n ≡ length xs / 2 → frames_text bits (frames_of 2 xs) ≡ flat_map (λ (p : ℤ × ℤ). sample_bytes bits p.0 ++ sample_bytes bits p.1) (zip (take n xs) (drop n xs))
stereo_text bits n xs e = pairs_text bits (zip (take (length xs / 2) xs) (drop (length xs / 2) xs)) ∙ ap (λ k. flat_map (λ (p : ℤ × ℤ). sample_bytes bits p.0 ++ sample_bytes bits p.1) (zip (take k xs) (drop k xs))) (sym e)
