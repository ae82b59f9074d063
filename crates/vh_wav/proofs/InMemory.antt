-- Frames in memory.
use Rattle.std.proofs.Common.{◌≡◌, ◌∙◌, ℕ, zero, suc, ◌+◌, ◌*◌, ◌-◌, ◌/◌, ◌<◌, ◌≤◌, min, List, [], ◌∷◌, ◌++◌, length, map, take, drop, get_or, ◌⊎◌, ⊎_elim, ℤ, pos, refl, sym, ap, append_assoc, arith}
use Rattle.std.specs.List.{zip}
use Rattle.std.proofs.lemmas.Bool.{cases_lt}
use Rattle.std.proofs.lemmas.List.{get_or-drop, drop-drop, drop_all, length-drop, length-map, length-take-le, map-append, get_or_append_left, get_or-append-add}
use Rattle.std.proofs.Math.ListN.{get_or-map}
use Rattle.std.proofs.Math.Seq.{take-suc}
use Rattle.vh_num.specs.Frames.{Frame, frames_of}
use Rattle.vh_wav.specs.Frames.{silence}
use Rattle.vh_wav.specs.Streams.{ArePulled}
use Rattle.vh_wav.specs.InMemory.{pairs, interleaved, woven}

pub length-pairs : (samples : List ℤ) (n : ℕ) → length samples ≡ 2 * n → length (pairs samples) ≡ n
length-pairs [] n e = omega arith
length-pairs (x ∷ []) n e = absurd (omega arith)
length-pairs (x ∷ y ∷ samples) n e = let ih = length-pairs samples (n - 1) (omega (arith, e)) in omega (arith, ih, e)

pub length-interleaved : (channels n : ℕ) (samples : List ℤ) → (channels ≡ 1) ⊎ (channels ≡ 2) → length samples ≡ channels * n → length (interleaved channels samples) ≡ n
length-interleaved zero n samples one_or_two long = ⊎_elim (λ e. absurd (omega (arith, e))) (λ e. absurd (omega (arith, e))) one_or_two
length-interleaved (suc zero) n samples one_or_two long = let e : length (map (λ (sample : ℤ). sample ∷ []) samples) ≡ length samples = length-map samples (λ (sample : ℤ). sample ∷ []) in omega (arith, e, long)
length-interleaved (suc (suc zero)) n samples one_or_two long = length-pairs samples n long
length-interleaved (suc (suc (suc more))) n samples one_or_two long = ⊎_elim (λ e. absurd (omega (arith, e))) (λ e. absurd (omega (arith, e))) one_or_two

pub pairs-append : (samples more : List ℤ) (n : ℕ) → length samples ≡ 2 * n → pairs (samples ++ more) ≡ pairs samples ++ pairs more
pairs-append [] more n e = refl
pairs-append (x ∷ []) more n e = absurd (omega (arith, e))
pairs-append (x ∷ y ∷ samples) more n e = ap (λ (frames : List Frame). (x ∷ y ∷ []) ∷ frames) (pairs-append samples more (n - 1) (omega (arith, e)))

pub pairs-woven : (left right : List ℤ) → pairs (woven left right) ≡ map (λ p. p.0 ∷ p.1 ∷ []) (zip left right)
pairs-woven [] right = refl
pairs-woven (l ∷ left) [] = refl
pairs-woven (l ∷ left) (r ∷ right) = ap (λ (frames : List Frame). (l ∷ r ∷ []) ∷ frames) (pairs-woven left right)

-- one sample more of each
pub woven-snoc : (left right : List ℤ) (l r : ℤ) → length left ≡ length right → woven (left ++ l ∷ []) (right ++ r ∷ []) ≡ woven left right ++ l ∷ r ∷ []
woven-snoc [] [] l r same = refl
woven-snoc [] (y ∷ right) l r same = absurd (omega (arith, same))
woven-snoc (x ∷ left) [] l r same = absurd (omega (arith, same))
woven-snoc (x ∷ left) (y ∷ right) l r same = ap (λ (samples : List ℤ). x ∷ y ∷ samples) (woven-snoc left right l r (omega (arith, same)))

-- the frame of a place, and silence past the last
pub pairs-at : (samples : List ℤ) (n k : ℕ) → length samples ≡ 2 * n → get_or (pairs samples) k (silence 2) ≡ get_or samples (k * 2) (pos 0) ∷ get_or samples (k * 2 + 1) (pos 0) ∷ []
pairs-at [] n k e = refl
pairs-at (x ∷ []) n k e = absurd (omega (arith, e))
pairs-at (x ∷ y ∷ samples) n zero e = refl
pairs-at (x ∷ y ∷ samples) n (suc k) e =
    let one : suc k * 2 ≡ suc (suc (k * 2)) = omega arith in
    let two : suc k * 2 + 1 ≡ suc (suc (k * 2 + 1)) = omega arith in
    pairs-at samples (n - 1) k (omega (arith, e))
    ∙ ap (λ j. get_or (x ∷ y ∷ samples) j (pos 0) ∷ get_or samples (k * 2 + 1) (pos 0) ∷ []) (sym one)
    ∙ ap (λ j. get_or (x ∷ y ∷ samples) (suc k * 2) (pos 0) ∷ get_or (x ∷ y ∷ samples) j (pos 0) ∷ []) (sym two)

-- what was copied of one channel, and of two
pub pulled_one : (samples out : List ℤ) (at n : ℕ) → ((k : ℕ) → k < n → get_or out k (pos 0) ≡ get_or samples (at + k * 1) (pos 0))
    → ArePulled 1 (drop at (interleaved 1 samples)) n out
pulled_one samples out at n copied place below =
    let e : at + place * 1 ≡ at + place = omega arith in
    ap (λ (x : ℤ). x ∷ []) (copied place below ∙ ap (λ j. get_or samples j (pos 0)) e)
    ∙ sym (get_or-map (λ (sample : ℤ). sample ∷ []) samples (at + place) (pos 0))
    ∙ sym (get_or-drop at (map (λ (sample : ℤ). sample ∷ []) samples) place (silence 1))

pub pulled_two : (samples left right : List ℤ) (at n total : ℕ) → length samples ≡ 2 * total → length left ≡ n
    → ((k : ℕ) → k < n → get_or left k (pos 0) ≡ get_or samples (2 * at + k * 2) (pos 0))
    → ((k : ℕ) → k < n → get_or right k (pos 0) ≡ get_or samples (2 * at + 1 + k * 2) (pos 0))
    → ArePulled 2 (drop at (interleaved 2 samples)) n (left ++ right)
pulled_two samples left right at n total whole long lefts rights place below =
    let one : 2 * at + place * 2 ≡ (at + place) * 2 = omega arith in
    let two : 2 * at + 1 + place * 2 ≡ (at + place) * 2 + 1 = omega arith in
    let first : get_or (left ++ right) place (pos 0) ≡ get_or samples ((at + place) * 2) (pos 0) =
    get_or_append_left left right (pos 0) place (omega (arith, below, long)) ∙ lefts place below ∙ ap (λ j. get_or samples j (pos 0)) one in
    let second : get_or (drop n (left ++ right)) place (pos 0) ≡ get_or samples ((at + place) * 2 + 1) (pos 0) =
    get_or-drop n (left ++ right) place (pos 0) ∙ ap (λ j. get_or (left ++ right) (j + place) (pos 0)) (sym long) ∙ get_or-append-add left right place (pos 0)
    ∙ rights place below ∙ ap (λ j. get_or samples j (pos 0)) two in
    ap (λ (x : ℤ). x ∷ get_or (drop n (left ++ right)) place (pos 0) ∷ []) first
    ∙ ap (λ (y : ℤ). get_or samples ((at + place) * 2) (pos 0) ∷ y ∷ []) second
    ∙ sym (pairs-at samples total (at + place) whole)
    ∙ sym (get_or-drop at (pairs samples) place (silence 2))

-- what is left behind them
pub left_after : (frames : List Frame) (at n total : ℕ) → length frames ≡ total → at ≤ total → drop (at + min n (total - at)) frames ≡ drop n (drop at frames)
left_after frames at n total long within =
    ⊎_elim
    (λ (below : n < total - at). ap (λ k. drop k frames) (let e : at + min n (total - at) ≡ at + n = omega (arith, below) in e) ∙ sym (drop-drop n at frames))
    (λ (past : total - at ≤ n).
    let end : at + min n (total - at) ≡ total = omega (arith, past, within) in
    none (at + min n (total - at)) frames (omega (arith, end, long)) ∙ sym (none (at + n) frames (omega (arith, past, long, within))) ∙ sym (drop-drop n at frames))
    (cases_lt n (total - at))
  where
    none : (k : ℕ) (xs : List Frame) → length xs ≤ k → drop k xs ≡ []
    none k xs past = drop_all k xs past

-- what was added to one channel, and to two
pub added_two : (outs frames : List ℤ) (n count : ℕ) → length outs ≡ 2 * count → length frames ≡ 2 * n → interleaved 2 (outs ++ woven (take n frames) (drop n frames)) ≡ interleaved 2 outs ++ frames_of 2 frames
added_two outs frames n count whole long =
    let half : length frames / 2 ≡ n = omega (arith, long) in
    pairs-append outs (woven (take n frames) (drop n frames)) count whole
    ∙ ap (λ (more : List Frame). pairs outs ++ more) (pairs-woven (take n frames) (drop n frames) ∙ ap (λ k. map (λ p. p.0 ∷ p.1 ∷ []) (zip (take k frames) (drop k frames))) (sym half))

pub added_one : (outs frames : List ℤ) → interleaved 1 (outs ++ frames) ≡ interleaved 1 outs ++ frames_of 1 frames
added_one outs frames = map-append (λ (sample : ℤ). sample ∷ []) outs frames

more : (samples : List ℤ) (k : ℕ) (d : ℤ) → k < length samples → take (k + 1) samples ≡ take k samples ++ get_or samples k d ∷ []
more samples k d below = let e : k + 1 ≡ suc k = omega arith in ap (λ j. take j samples) e ∙ take-suc samples k d below

-- a turn of a loop that adds samples
pub add_more : (outs first samples : List ℤ) (k : ℕ) (d : ℤ) → k < length samples → outs ≡ first ++ take k samples → outs ++ get_or samples k d ∷ [] ≡ first ++ take (k + 1) samples
add_more outs first samples k d below so_far =
    ap (λ (xs : List ℤ). xs ++ get_or samples k d ∷ []) so_far ∙ append_assoc first (take k samples) (get_or samples k d ∷ []) ∙ ap (λ (xs : List ℤ). first ++ xs) (sym (more samples k d below))

pub weave_more : (outs first left right : List ℤ) (k : ℕ) (l r : ℤ) → length left ≡ length right → k < length left → outs ≡ first ++ woven (take k left) (take k right)
    → l ≡ get_or left k (pos 0) → r ≡ get_or right k (pos 0)
    → outs ++ l ∷ r ∷ [] ≡ first ++ woven (take (k + 1) left) (take (k + 1) right)
weave_more outs first left right k l r same below so_far left_is right_is =
    let sizes : length (take k left) ≡ length (take k right) = length-take-le k left (omega (arith, below)) ∙ sym (length-take-le k right (omega (arith, below, same))) in
    ap (λ (xs : List ℤ). xs ++ l ∷ r ∷ []) so_far
    ∙ append_assoc first (woven (take k left) (take k right)) (l ∷ r ∷ [])
    ∙ ap (λ (xs : List ℤ). first ++ xs) (sym (woven-snoc (take k left) (take k right) l r sizes))
    ∙ ap (λ (xs : List ℤ). first ++ woven xs (take k right ++ r ∷ [])) (ap (λ (x : ℤ). take k left ++ x ∷ []) left_is ∙ sym (more left k (pos 0) below))
    ∙ ap (λ (ys : List ℤ). first ++ woven (take (k + 1) left) ys) (ap (λ (x : ℤ). take k right ++ x ∷ []) right_is ∙ sym (more right k (pos 0) (omega (arith, below, same))))

pub length-woven : (frames : List ℤ) (n : ℕ) → length frames ≡ 2 * n → length (woven (take n frames) (drop n frames)) ≡ 2 * n
length-woven frames n long =
    let front = length-take-le n frames (omega (arith, long)) in
    let back = length-drop n frames in
    both (take n frames) (drop n frames) n front (omega (arith, back, long))
  where
    both : (left right : List ℤ) (k : ℕ) → length left ≡ k → length right ≡ k → length (woven left right) ≡ 2 * k
    both [] right k one two = omega (arith, one)
    both (l ∷ left) [] k one two = absurd (omega (arith, one, two))
    both (l ∷ left) (r ∷ right) k one two = let ih = both left right (k - 1) (omega (arith, one)) (omega (arith, two)) in omega (arith, ih, one)
