-- Samples channel after channel, and frame by frame.
use Rattle.std.proofs.Common.{◌≡◌, ◌∙◌, ℕ, zero, suc, ◌+◌, ◌*◌, ◌<◌, List, [], ◌∷◌, ◌++◌, length, take, drop, get_or, Result, Ok, Err, ℤ, pos, refl, sym, ap, subst, arith}
use Rattle.std.specs.Prelude.{IfOk}
use Rattle.std.proofs.lemmas.List.{get_or-map, get_or-take}
use Rattle.vh_num.specs.Frames.{Frame, frame_at}
use Rattle.vh_wav.specs.InMemory.{pairs, interleaved, woven}

-- a sample more of each channel
pub woven_more : (k : ℕ) (left right : List ℤ) → k < length left → k < length right
    → woven (take (k + 1) left) (take (k + 1) right) ≡ woven (take k left) (take k right) ++ get_or left k (pos 0) ∷ get_or right k (pos 0) ∷ []
woven_more k [] right lt also = absurd (omega (arith, lt))
woven_more k (l ∷ left) [] lt also = absurd (omega (arith, also))
woven_more zero (l ∷ left) (r ∷ right) lt also = refl
woven_more (suc k) (l ∷ left) (r ∷ right) lt also =
    let next : suc k + 1 ≡ suc (k + 1) = omega arith in
    ap (λ n. woven (take n (l ∷ left)) (take n (r ∷ right))) next ∙ ap (λ (rest : List ℤ). l ∷ r ∷ rest) (woven_more k left right (omega (arith, lt)) (omega (arith, also)))

pub woven_long : (left right : List ℤ) → length left ≡ length right → length (woven left right) ≡ 2 * length left
woven_long [] right long = refl
woven_long (l ∷ left) [] long = absurd (omega (arith, long))
woven_long (l ∷ left) (r ∷ right) long = let rest = woven_long left right (omega (arith, long)) in omega (arith, rest)

-- a frame of them
pub woven_at : (k : ℕ) (left right : List ℤ) (d : Frame) → length left ≡ length right → k < length left → get_or (pairs (woven left right)) k d ≡ get_or left k (pos 0) ∷ get_or right k (pos 0) ∷ []
woven_at k [] right d long lt = absurd (omega (arith, lt))
woven_at k (l ∷ left) [] d long lt = absurd (omega (arith, long))
woven_at zero (l ∷ left) (r ∷ right) d long lt = refl
woven_at (suc k) (l ∷ left) (r ∷ right) d long lt = woven_at k left right d (omega (arith, long)) (omega (arith, lt))

-- one channel stands as it is
pub mono_frames : (channels frames : ℕ) (samples : List ℤ) → channels ≡ 1 → length samples ≡ channels * frames → (place : ℕ) (d : Frame) → place < frames
    → get_or (interleaved channels samples) place d ≡ frame_at channels frames samples place
mono_frames channels frames samples one long place d lt =
    let there : place < length samples = let e : length samples ≡ 1 * frames = long ∙ ap (λ c. c * frames) one in omega (arith, e, lt) in
    subst (λ (c : ℕ). get_or (interleaved c samples) place d ≡ frame_at c frames samples place) (sym one) (get_or-map (λ (sample : ℤ). sample ∷ []) samples place (pos 0) d there)

-- two channels in turn
pub stereo_frames : (channels frames : ℕ) (samples left right : List ℤ) → channels ≡ 2 → length left ≡ frames → length left ≡ length right → left ≡ take frames samples → right ≡ drop frames samples → (place : ℕ) (d : Frame) → place < frames
    → get_or (interleaved channels (woven left right)) place d ≡ frame_at channels frames samples place
stereo_frames channels frames samples left right two long both front back place d lt =
    let first : get_or left place (pos 0) ≡ get_or samples place (pos 0) = ap (λ l. get_or l place (pos 0)) front ∙ get_or-take frames samples place (pos 0) lt in
    let second : get_or right place (pos 0) ≡ get_or (drop frames samples) place (pos 0) = ap (λ l. get_or l place (pos 0)) back in
    subst (λ (c : ℕ). get_or (interleaved c (woven left right)) place d ≡ frame_at c frames samples place) (sym two)
    (woven_at place left right d both (omega (arith, lt, long)) ∙ ap (λ x. x ∷ get_or right place (pos 0) ∷ []) first ∙ ap (λ y. get_or samples place (pos 0) ∷ y ∷ []) second)

-- what holds of a value, from what is known of it
pub if_ok_more : {X E : Type 0} (result : Result X E) (P Q : X → Type 0) → ((x : X) → P x → Q x) → IfOk result P → IfOk result Q
if_ok_more (Ok x) P Q onto holds = onto x holds
if_ok_more (Err e) P Q onto holds = holds

-- what is woven so far, and a sample more of each
pub woven_one : (k : ℕ) (left right samples : List ℤ) (l r : ℤ) → k < length left → k < length right → samples ≡ woven (take k left) (take k right) → l ≡ get_or left k (pos 0) → r ≡ get_or right k (pos 0)
    → samples ++ l ∷ r ∷ [] ≡ woven (take (k + 1) left) (take (k + 1) right)
woven_one k left right samples l r lt also so_far first second =
    ap (λ (xs : List ℤ). xs ++ l ∷ r ∷ []) so_far ∙ ap (λ x. woven (take k left) (take k right) ++ x ∷ r ∷ []) first
    ∙ ap (λ y. woven (take k left) (take k right) ++ get_or left k (pos 0) ∷ y ∷ []) second ∙ sym (woven_more k left right lt also)
