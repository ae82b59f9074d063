-- Sums over wires.
use Rattle.std.proofs.Common.{◌≡◌, ◌∙◌, ℕ, ◌+◌, ◌<◌, Bool, List, [], ◌∷◌, ◌++◌, length, map, filter, take, get_or, ℤ, pos, ◌+ℤ◌, sym, ap, arith}
use Rattle.std.proofs.lemmas.Int.{ints}
use Rattle.std.proofs.lemmas.List.{map-append, take_more, get_or_default}
use Rattle.std.proofs.lemmas.List.Elements.{filter-append}
use Rattle.vh_num.specs.Frames.{Frame}
use Rattle.vh_num.specs.Laws.{sum_of, in_lane}
use Rattle.vh_session.specs.declared.wire.End.{End}
use Rattle.vh_session.specs.declared.wire.Wire.{Wire}
use Rattle.vh_meaning.specs.Mix.{reaches, brought, arriving}

sum_append : (xs ys : List ℤ) → sum_of (xs ++ ys) ≡ sum_of xs +ℤ sum_of ys
sum_append [] ys = omega (arith, ints)
sum_append (x ∷ xs) ys = let rest = sum_append xs ys in omega (arith, ints, rest)

arriving_append : (input : Frame) (frames : ℕ → Frame) (to : End) (aux : Bool) (one other : List Wire) → arriving (one ++ other) input frames to aux ≡ arriving one input frames to aux ++ arriving other input frames to aux
arriving_append input frames to aux one other =
    ap (map (λ (wire : Wire). brought input frames wire.from)) (filter-append (reaches to aux) one other)
    ∙ map-append (λ (wire : Wire). brought input frames wire.from) (filter (reaches to aux) one) (filter (reaches to aux) other)

-- a wire more
pub share_more : (input : Frame) (frames : ℕ → Frame) (to : End) (aux : Bool) (channel : ℕ) (wires : List Wire) (i : ℕ) (wire : Wire) → wire ≡ get_or wires i wire → i < length wires
    → sum_of (in_lane channel (arriving (take (i + 1) wires) input frames to aux)) ≡ sum_of (in_lane channel (arriving (take i wires) input frames to aux)) +ℤ sum_of (in_lane channel (arriving (wire ∷ []) input frames to aux))
share_more input frames to aux channel wires i wire is within =
    let sample : Frame → ℤ = λ frame. get_or frame channel (pos 0) in
    let one = arriving (take i wires) input frames to aux in
    let other = arriving (wire ∷ []) input frames to aux in
    ap (λ (ws : List Wire). sum_of (in_lane channel (arriving ws input frames to aux))) (take_more wires i wire within ∙ ap (λ (w : Wire). take i wires ++ w ∷ []) (sym is))
    ∙ ap (λ fs. sum_of (in_lane channel fs)) (arriving_append input frames to aux (take i wires) (wire ∷ []))
    ∙ ap sum_of (map-append sample one other)
    ∙ sum_append (in_lane channel one) (in_lane channel other)

pub share_next : (input : Frame) (frames : ℕ → Frame) (to : End) (aux : Bool) (channel : ℕ) (wires : List Wire) (i : ℕ) (d : Wire) (value : ℤ) → i < length wires
    → value ≡ sum_of (in_lane channel (arriving (get_or wires i d ∷ []) input frames to aux))
    → sum_of (in_lane channel (arriving (take (i + 1) wires) input frames to aux)) ≡ sum_of (in_lane channel (arriving (take i wires) input frames to aux)) +ℤ value
share_next input frames to aux channel wires i d value within is =
    share_more input frames to aux channel wires i (get_or wires i d) (get_or_default wires i d (get_or wires i d) within) within
    ∙ ap (λ (v : ℤ). sum_of (in_lane channel (arriving (take i wires) input frames to aux)) +ℤ v) (sym is)
