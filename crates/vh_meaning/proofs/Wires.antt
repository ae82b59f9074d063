-- The order of the wires doesn't matter, and what no wire reaches is silent.
use mathlib.Core.Path.{fun_ext}
use Rattle.std.proofs.Common.{◌≡◌, ◌∙◌, ℕ, zero, suc, ◌+◌, Bool, true, false, cond, List, [], ◌∷◌, ◌++◌, length, map, replicate, get_or, Option, Some, None, ℤ, pos, negsuc, ◌+ℤ◌, refl, sym, ap, arith}
use Rattle.std.specs.Prelude.{All, filter, count_by, ◌==◌, ◌-ℤ◌}
use Rattle.std.specs.List.{range_with_len, sum_by}
use Rattle.std.specs.List.Sorted.{IsPermutation}
use Rattle.std.proofs.lemmas.Int.{ints}
use Rattle.std.proofs.lemmas.Bool.{and_left}
use Rattle.std.proofs.lemmas.List.{length-map}
use Rattle.std.proofs.lemmas.List.Elements.{All-head, All-tail}
use Rattle.std.proofs.lemmas.List.Sorted.{sum_by-IsPermutation}
use Rattle.std.proofs.lemmas.List.Sums.{sum_by-cons, length-filter}
use Rattle.vh_num.specs.Samples.{clamp_of}
use Rattle.vh_num.specs.Laws.{sum_of, in_lane}
use Rattle.vh_params.specs.declared.command.Command.{Command}
use Rattle.vh_params.specs.declared.command.Command.TheVariants.{Begin, Perform, End, Tell}
use Rattle.vh_num.specs.Frames.{Frame}
use Rattle.vh_plugin.specs.Class.{Param, State}
use Rattle.vh_session.specs.declared.wire.End.{End as WireEnd}
use Rattle.vh_session.specs.declared.wire.End.TheVariants.{Out, Node as AtNode}
use Rattle.vh_session.specs.declared.wire.Wire.{Wire}
use Rattle.vh_journal.specs.declared.entry.Entry.{Entry}
use Rattle.vh_meaning.specs.Scene.{Scene, node_count, class_at, params_at, firsts_at}
use Rattle.vh_meaning.specs.Values.{value_of, values_of, values_at}
use Rattle.vh_meaning.specs.Mix.{is_at, reaches, brought, arriving, mix, mix_of_some, aux_mix}
use Rattle.vh_meaning.specs.Frames.{given, stepped, frame_within, frame_of, moved, out_of}
use Rattle.vh_meaning.specs.World.{input_at, told_by, after_messages, told, world, after, frame_at}
use Rattle.vh_meaning.specs.Laws.{with_wires, AnyOrderOfWires, SilenceWithoutOut}
use Rattle.vh_meaning.proofs.Reaching.{by_parts}

-- no wire brings a frame to an end that none reaches
none_arrive : (wires : List Wire) (input : Frame) (frames : ℕ → Frame) (to : WireEnd) (aux : Bool) → All (λ wire. is_at wire.to to ≡ false) wires → arriving wires input frames to aux ≡ []
none_arrive [] input frames to aux none = refl
none_arrive (wire ∷ wires) input frames to aux none =
    let misses : reaches to aux wire ≡ false = and_left (is_at wire.to to) _ (All-head (λ (w : Wire). is_at w.to to ≡ false) wire wires none) in
    let reached = filter (reaches to aux) wires in
    ap (λ b. map (λ (w : Wire). brought input frames w.from) (cond b (wire ∷ reached) reached)) misses
    ∙ none_arrive wires input frames to aux (All-tail (λ (w : Wire). is_at w.to to ≡ false) wire wires none)

mix_of_none : (n from : ℕ) → map (λ (channel : ℕ). clamp_of (sum_of (in_lane channel []))) (range_with_len from n) ≡ replicate n (pos 0)
mix_of_none zero from = refl
mix_of_none (suc n) from = ap (λ (l : List ℤ). pos 0 ∷ l) (mix_of_none n (from + 1))

pub law_silence : SilenceWithoutOut
law_silence scene input h s none =
    ap (mix scene.channels) (none_arrive scene.wires (input_at scene input s) (frame_at scene input h s) Out false none)
    ∙ mix_of_none scene.channels 0

-- a number is what lies above zero less what lies below
above : ℤ → ℕ
above (pos n) = n
above (negsuc n) = 0

below : ℤ → ℕ
below (pos n) = 0
below (negsuc n) = suc n

joined : (b : Bool) (x rest : ℤ) (p q : ℕ) → rest ≡ pos p -ℤ pos q → cond b (x +ℤ rest) rest ≡ pos (cond b (above x) 0 + p) -ℤ pos (cond b (below x) 0 + q)
unfolding above below
joined true (pos n) rest p q is = omega (arith, ints, is)
joined true (negsuc n) rest p q is = omega (arith, ints, is)
joined false x rest p q is = omega (arith, ints, is)

-- what a wire brings in a channel
in_channel : Frame → (ℕ → Frame) → ℕ → Wire → ℤ
in_channel input frames channel wire = get_or (brought input frames wire.from) channel (pos 0)

-- the sum in a channel, over the wires that reach an end
sum_arriving : (input : Frame) (frames : ℕ → Frame) (to : WireEnd) (aux : Bool) (channel : ℕ) (wires : List Wire)
    → sum_of (in_lane channel (arriving wires input frames to aux))
    ≡ pos (sum_by (λ wire. cond (reaches to aux wire) (above (in_channel input frames channel wire)) 0) wires) -ℤ pos (sum_by (λ wire. cond (reaches to aux wire) (below (in_channel input frames channel wire)) 0) wires)
unfolding in_channel
sum_arriving input frames to aux channel [] = refl
sum_arriving input frames to aux channel (wire ∷ wires) =
    let up = λ (w : Wire). cond (reaches to aux w) (above (in_channel input frames channel w)) 0 in
    let down = λ (w : Wire). cond (reaches to aux w) (below (in_channel input frames channel w)) 0 in
    let rest = sum_arriving input frames to aux channel wires in
    let reached = filter (reaches to aux) wires in
    let x = in_channel input frames channel wire in
    let first : sum_of (in_lane channel (arriving (wire ∷ wires) input frames to aux)) ≡ cond (reaches to aux wire) (x +ℤ sum_of (in_lane channel (arriving wires input frames to aux))) (sum_of (in_lane channel (arriving wires input frames to aux))) =
    elim (reaches to aux wire) as (λ b. sum_of (in_lane channel (map (λ (w : Wire). brought input frames w.from) (cond b (wire ∷ reached) reached))) ≡ cond b (x +ℤ sum_of (in_lane channel (arriving wires input frames to aux))) (sum_of (in_lane channel (arriving wires input frames to aux)))) [ true ↦ refl | false ↦ refl ] in
    first
    ∙ joined (reaches to aux wire) x (sum_of (in_lane channel (arriving wires input frames to aux))) (sum_by up wires) (sum_by down wires) rest
    ∙ ap (λ n. pos n -ℤ pos (down wire + sum_by down wires)) (sym (sum_by-cons up wire wires))
    ∙ ap (λ n. pos (sum_by up (wire ∷ wires)) -ℤ pos n) (sym (sum_by-cons down wire wires))

mix_same : (channels : ℕ) (wires others : List Wire) (input : Frame) (frames : ℕ → Frame) (to : WireEnd) (aux : Bool) → IsPermutation wires others → mix channels (arriving others input frames to aux) ≡ mix channels (arriving wires input frames to aux)
mix_same channels wires others input frames to aux order =
    let sums = λ (channel : ℕ).
    sum_arriving input frames to aux channel others
    ∙ ap (λ n. pos n -ℤ pos (sum_by (λ wire. cond (reaches to aux wire) (below (in_channel input frames channel wire)) 0) others)) (sum_by-IsPermutation (λ (wire : Wire). cond (reaches to aux wire) (above (in_channel input frames channel wire)) 0) wires others order)
    ∙ ap (λ n. pos (sum_by (λ wire. cond (reaches to aux wire) (above (in_channel input frames channel wire)) 0) wires) -ℤ pos n) (sum_by-IsPermutation (λ (wire : Wire). cond (reaches to aux wire) (below (in_channel input frames channel wire)) 0) wires others order)
    ∙ sym (sum_arriving input frames to aux channel wires) in
    ap (λ (f : ℕ → ℤ). map f (range_with_len 0 channels)) (fun_ext (λ channel. ap clamp_of (sums channel)))

-- a frame, where there is one
some_frame : ℕ → Frame → Option Frame
some_frame zero frame = None
some_frame (suc count) frame = Some frame

some_mix : (channels : ℕ) (frames : List Frame) → mix_of_some channels frames ≡ some_frame (length frames) (mix channels frames)
unfolding some_frame
some_mix channels [] = refl
some_mix channels (frame ∷ frames) = refl

count_arriving : (wires : List Wire) (input : Frame) (frames : ℕ → Frame) (to : WireEnd) (aux : Bool) → length (arriving wires input frames to aux) ≡ count_by (reaches to aux) wires
count_arriving wires input frames to aux = length-map (filter (reaches to aux) wires) (λ (w : Wire). brought input frames w.from) ∙ length-filter (reaches to aux) wires

aux_same : (channels : ℕ) (wires others : List Wire) (input : Frame) (frames : ℕ → Frame) (to : WireEnd) → IsPermutation wires others → aux_mix channels others input frames to ≡ aux_mix channels wires input frames to
aux_same channels wires others input frames to order =
    let count = count_arriving others input frames to true ∙ sum_by-IsPermutation (λ (wire : Wire). cond (reaches to true wire) 1 0) wires others order ∙ sym (count_arriving wires input frames to true) in
    some_mix channels (arriving others input frames to true)
    ∙ ap (λ (n : ℕ). some_frame n (mix channels (arriving others input frames to true))) count
    ∙ ap (some_frame (length (arriving wires input frames to true))) (mix_same channels wires others input frames to true order)
    ∙ sym (some_mix channels (arriving wires input frames to true))

-- the scene with its wires in another order
module _ (scene : Scene) (wires : List Wire) (order : IsPermutation scene.wires wires) where
  abbrev other : Scene
  other = with_wires scene wires

  given_any : (states : ℕ → State) (values : ℕ → List ℕ) (input : Frame) (frames : ℕ → Frame) → given other states values input frames ≡ given scene states values input frames
  given_any states values input frames = fun_ext (λ node.
      by_parts ((class_at scene node).output scene.channels) (states node) (states node) (values node) (values node) _ _ _ _ refl refl
      (mix_same scene.channels scene.wires wires input frames (AtNode node) false order) (aux_same scene.channels scene.wires wires input frames (AtNode node) order))

  stepped_any : (states : ℕ → State) (values : ℕ → List ℕ) (input : Frame) (frames : ℕ → Frame) → stepped other states values input frames ≡ stepped scene states values input frames
  stepped_any states values input frames = fun_ext (λ node.
      by_parts ((class_at scene node).next scene.channels) (states node) (states node) (values node) (values node) _ _ _ _ refl refl
      (mix_same scene.channels scene.wires wires input frames (AtNode node) false order) (aux_same scene.channels scene.wires wires input frames (AtNode node) order))

  within_any : (states : ℕ → State) (values : ℕ → List ℕ) (input : Frame) (n : ℕ) → frame_within other states values input n ≡ frame_within scene states values input n
  within_any states values input zero = refl
  within_any states values input (suc n) = given_any states values input (frame_within other states values input n) ∙ ap (given scene states values input) (within_any states values input n)

  frames_any : (states : ℕ → State) (values : ℕ → List ℕ) (input : Frame) → frame_of other states values input ≡ frame_of scene states values input
  frames_any states values input = within_any states values input (node_count scene)

  values_of_any : (h : List Entry) (node : ℕ) (params : List Param) (firsts : List ℕ) (s : ℕ) → values_of other h node params firsts s ≡ values_of scene h node params firsts s
  values_of_any h node [] firsts s = refl
  values_of_any h node (param ∷ params) [] s = refl
  values_of_any h node (param ∷ params) (first ∷ firsts) s = ap (λ (l : List ℕ). value_of scene h node param first s ∷ l) (values_of_any h node params firsts s)

  values_any : (h : List Entry) (s : ℕ) → values_at other h s ≡ values_at scene h s
  values_any h s = fun_ext (λ node. values_of_any h node (params_at scene node) (firsts_at scene node) s)

  told_by_any : (values : ℕ → List ℕ) (command : Command) (states : ℕ → State) → told_by other values command states ≡ told_by scene values command states
  told_by_any values (Begin node id) states = refl
  told_by_any values (Perform node id value) states = refl
  told_by_any values (End node id) states = refl
  told_by_any values (Tell node words) states = refl

  messages_any : (s : ℕ) (before h : List Entry) (states : ℕ → State) → after_messages other s before h states ≡ after_messages scene s before h states
  messages_any s before [] states = refl
  messages_any s before (entry ∷ h) states =
      messages_any s (before ++ entry ∷ []) h (cond (entry.sample == s) (told_by other (values_at other before s) entry.command states) states)
      ∙ ap (λ (x : ℕ → State). after_messages scene s (before ++ entry ∷ []) h (cond (entry.sample == s) x states))
      (told_by_any (values_at other before s) entry.command states ∙ ap (λ (v : ℕ → List ℕ). told_by scene v entry.command states) (values_any before s))

  moved_any : (states : ℕ → State) (values : ℕ → List ℕ) (input : Frame) → moved other states values input ≡ moved scene states values input
  moved_any states values input = stepped_any states values input (frame_of other states values input) ∙ ap (stepped scene states values input) (frames_any states values input)

  world_any : (input : List Frame) (h : List Entry) (s : ℕ) → world other input h s ≡ world scene input h s
  world_any input h zero = refl
  world_any input h (suc s) =
      moved_any (after other input h s) (values_at other h s) (input_at scene input s)
      ∙ ap (λ (x : ℕ → State). moved scene x (values_at other h s) (input_at scene input s)) (messages_any s [] h (world other input h s) ∙ ap (told scene h s) (world_any input h s))
      ∙ ap (λ (v : ℕ → List ℕ). moved scene (after scene input h s) v (input_at scene input s)) (values_any h s)

  frame_any : (input : List Frame) (h : List Entry) (s : ℕ) → frame_at other input h s ≡ frame_at scene input h s
  frame_any input h s =
      frames_any (after other input h s) (values_at other h s) (input_at scene input s)
      ∙ ap (λ (x : ℕ → State). frame_of scene x (values_at other h s) (input_at scene input s)) (messages_any s [] h (world other input h s) ∙ ap (told scene h s) (world_any input h s))
      ∙ ap (λ (v : ℕ → List ℕ). frame_of scene (after scene input h s) v (input_at scene input s)) (values_any h s)

pub law_any_order : AnyOrderOfWires
law_any_order scene wires input h s order =
    mix_same scene.channels scene.wires wires (input_at scene input s) (frame_at (with_wires scene wires) input h s) Out false order
    ∙ ap (out_of scene (input_at scene input s)) (frame_any scene wires order input h s)
