-- The input as a sound.
use Rattle.std.proofs.Common.{◌≡◌, ◌∙◌, ℕ, ◌+◌, ◌*◌, ◌<◌, List, [], ◌∷◌, ◌++◌, length, map, drop, get_or, ℤ, pos, sym, ap, arith}
use Rattle.std.specs.List.{range_with_len}
use Rattle.std.proofs.Math.Seq.{drop-append_seam}
use Rattle.std.proofs.lemmas.List.{length-append, get_or_append_left}
use Rattle.std.proofs.lemmas.List.FromFn.{length-map-range_with_len, get_or-map-range_with_len}
use Rattle.vh_num.specs.Frames.{frame_at}
use Rattle.vh_gen.specs.Draws.{drawn_sample}
use Rattle.vh_gen.specs.Generated.{frame_from}

abbrev pub left_at : ℕ → ℕ → ℤ
left_at state s = drawn_sample state (2 * s)

abbrev pub right_at : ℕ → ℕ → ℤ
right_at state s = drawn_sample state (2 * s + 1)

module _ (state n : ℕ) (left right samples : List ℤ) (lefts : left ≡ map (left_at state) (range_with_len 0 n)) (rights : right ≡ map (right_at state) (range_with_len 0 n)) (is : samples ≡ left ++ right) where
  left_long : length left ≡ n
  left_long = ap length lefts ∙ length-map-range_with_len (left_at state) 0 n

  right_long : length right ≡ n
  right_long = ap length rights ∙ length-map-range_with_len (right_at state) 0 n

  pub samples_long : length samples ≡ 2 * n
  samples_long =
      let a = left_long in
      let b = right_long in
      let c = ap length is ∙ length-append left right in
      omega (arith, a, b, c)

  pub frames_are : (s : ℕ) → s < n → frame_at 2 n samples s ≡ frame_from state s
  frames_are s lt =
      let long = left_long in
      let behind : drop n samples ≡ right = ap (drop n) is ∙ ap (λ k. drop k (left ++ right)) (sym long) ∙ drop-append_seam left right in
      let first : get_or samples s (pos 0) ≡ left_at state s =
      ap (λ l. get_or l s (pos 0)) is ∙ get_or_append_left left right (pos 0) s (omega (arith, lt, long))
      ∙ ap (λ l. get_or l s (pos 0)) lefts ∙ get_or-map-range_with_len (left_at state) 0 n s s (pos 0) lt (omega arith) in
      let second : get_or (drop n samples) s (pos 0) ≡ right_at state s =
      ap (λ l. get_or l s (pos 0)) (behind ∙ rights) ∙ get_or-map-range_with_len (right_at state) 0 n s s (pos 0) lt (omega arith) in
      ap (λ x. x ∷ get_or (drop n samples) s (pos 0) ∷ []) first ∙ ap (λ y. left_at state s ∷ y ∷ []) second
