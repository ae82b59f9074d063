-- Sums that grow piece by piece.
use Rattle.std.proofs.Common.{◌≡◌, ◌∙◌, ℕ, ◌+◌, ◌*◌, ◌/◌, List, [], ◌∷◌, ◌++◌, length, map, take, drop, ℤ, refl, sym, ap, subst, zero-add, arith}
use Rattle.std.specs.Prelude.{sum_by}
use Rattle.std.specs.List.{range_with_len, zip}
use Rattle.std.proofs.lemmas.List.{map-append, take-append-drop, length-take-le, length-drop}
use Rattle.std.proofs.lemmas.List.Sums.{sum_by-append}
use Rattle.vh_cut.specs.declared.piece.Piece.{Piece}
use Rattle.vh_num.specs.Frames.{Frame, frames_of}
use Rattle.vh_plugin.specs.Class.{Class}
use Rattle.vh_meaning.specs.Scene.{Scene}
use Rattle.vh_meaning.specs.Rendering.{out_at}
use Rattle.vh_engine.specs.Kept.{Kept, scene_in, IsSameEngine}
use Rattle.vh_engine.proofs.Rooms.{same_scene}
use Rattle.vh_render.specs.declared.score.Score.{Score}
use Rattle.vh_render.specs.Playing.{MayFollow, IsUnderWay}
use Rattle.vh_render.proofs.Cuts.{IsPieceAt, start_in}
use Rattle.vh_render.proofs.Texts.{ranges}
use Rattle.vh_gen.specs.Playing.{IsSummable}
use Rattle.vh_gen.specs.Summary.{level, frame_level, level_sum}

first_and_rest : {A : Type 0} (f : A → ℕ) (x : A) (xs : List A) → sum_by f (x ∷ xs) ≡ f x + sum_by f xs
first_and_rest f x xs = sum_by-append f (x ∷ []) xs ∙ ap (λ n. n + sum_by f xs) (zero-add (f x))

add_up : (whole pair rest xs ys xxs yys x y : ℕ) → whole ≡ pair + rest → pair ≡ x + y → rest ≡ xs + ys → xxs ≡ x + xs → yys ≡ y + ys → whole ≡ xxs + yys
add_up whole pair rest xs ys xxs yys x y a b c d e = omega (arith, a, b, c, d, e)

-- frames of two channels, and the samples of each
paired : (xs ys : List ℤ) → length xs ≡ length ys → level_sum (map (λ (p : ℤ × ℤ). p.0 ∷ p.1 ∷ []) (zip xs ys)) ≡ sum_by level xs + sum_by level ys
paired [] ys same = let e = same in none ys e where
  none : (ys : List ℤ) → 0 ≡ length ys → level_sum (map (λ (p : ℤ × ℤ). p.0 ∷ p.1 ∷ []) (zip [] ys)) ≡ 0 + sum_by level ys
  none [] e = refl
  none (y ∷ ys) e = absurd (omega (arith, e))
paired (x ∷ xs) [] same = absurd (omega (arith, same))
paired (x ∷ xs) (y ∷ ys) same =
    let rest = paired xs ys (omega (arith, same)) in
    let frames : List Frame = map (λ (p : ℤ × ℤ). p.0 ∷ p.1 ∷ []) (zip xs ys) in
    let pair : frame_level (x ∷ y ∷ []) ≡ level x + level y = ap (λ n. n + level y) (zero-add (level x)) in
    add_up (level_sum ((x ∷ y ∷ []) ∷ frames)) (frame_level (x ∷ y ∷ [])) (level_sum frames) (sum_by level xs) (sum_by level ys) (sum_by level (x ∷ xs)) (sum_by level (y ∷ ys)) (level x) (level y)
    (first_and_rest frame_level (x ∷ y ∷ []) frames) pair rest (first_and_rest level x xs) (first_and_rest level y ys)

pub piece_level : (samples : List ℤ) (n : ℕ) → length samples ≡ 2 * n → level_sum (frames_of 2 samples) ≡ sum_by level samples
piece_level samples n long =
    let half : ℕ = length samples / 2 in
    let is : half ≡ n = omega (arith, long) in
    let front = length-take-le half samples (omega (arith, long, is)) in
    let back = length-drop half samples in
    paired (take half samples) (drop half samples) (omega (arith, front, back, long, is))
    ∙ sym (sum_by-append level (take half samples) (drop half samples))
    ∙ ap (sum_by level) (take-append-drop half samples)

-- the levels of a rendering's frames, so many, from a sample on
abbrev pub level_from : (ℕ → Class) → Kept → List Frame → Score → ℕ → ℕ → ℕ
level_from class_of kept input score at n = level_sum (map (out_at (scene_in class_of kept) input score.entries.now) (range_with_len at n))

level_more : (frame : ℕ → Frame) (at n past : ℕ) → at + n ≡ past → level_sum (map frame (range_with_len 0 at)) + level_sum (map frame (range_with_len at n)) ≡ level_sum (map frame (range_with_len 0 past))
level_more frame at n past end =
    sym (sum_by-append frame_level (map frame (range_with_len 0 at)) (map frame (range_with_len at n)))
    ∙ ap level_sum (sym (map-append frame (range_with_len 0 at) (range_with_len at n)))
    ∙ ap (λ (l : List ℕ). level_sum (map frame l)) (ap (λ b. range_with_len 0 at ++ range_with_len b n) (let e : at ≡ 0 + at = omega arith in e) ∙ sym (ranges 0 at n) ∙ ap (range_with_len 0) end)

-- by a piece more
pub level_grows : (class_of : ℕ → Class) (old now : Kept) (input : List Frame) (score : Score) (i : ℕ) (piece : Piece) (before sum : ℕ) → IsSameEngine old now → IsPieceAt score i piece
    → before ≡ level_from class_of old input score 0 (start_in score i) → sum ≡ level_from class_of now input score piece.start piece.length
    → before + sum ≡ level_from class_of old input score 0 (start_in score (i + 1))
level_grows class_of old now input score i piece before sum same here was is =
    let end : start_in score i + piece.length ≡ start_in score (i + 1) = ap (λ at. at + piece.length) (sym here.start) ∙ sym here.more in
    let own : sum ≡ level_from class_of old input score (start_in score i) piece.length =
    is ∙ ap (λ (scene : Scene). level_sum (map (out_at scene input score.entries.now) (range_with_len piece.start piece.length))) (same_scene class_of old now same)
    ∙ ap (λ at. level_from class_of old input score at piece.length) here.start in
    ap (λ n. n + sum) was ∙ ap (λ n. level_from class_of old input score 0 (start_in score i) + n) own
    ∙ level_more (out_at (scene_in class_of old) input score.entries.now) (start_in score i) piece.length (start_in score (i + 1)) end

-- an engine before its first sample has taken nothing
pub begins_way : (class_of : ℕ → Class) (kept : Kept) (score : Score) → IsSummable class_of kept score → IsUnderWay class_of kept score 0 0
begins_way class_of kept score summable =
    let P : ℕ → Type 0 = λ n. MayFollow (scene_in class_of kept) score.length n score.entries.now in
    let none : kept.room ≡ kept.room + 0 = omega arith in
    record {
      at_is = summable.begins;
      going = summable.going;
      score_of = summable.score_of;
      entries = subst P none summable.entries;
      up_to = record { most = omega arith; before = λ i d below. absurd (omega (arith, below)); after = λ i d from below. omega arith };
    }
