-- A block of one sample, at constant values.
use Rattle.std.proofs.Common.{◌≡◌, ◌∙◌, ℕ, zero, suc, ◌≤◌, Bool, true, false, ◌||◌, cond, List, [], ◌∷◌, length, map, ℤ, Vec, Option, Some, None, refl, sym, ap, subst, arith}
use Rattle.std.specs.Prelude.{filter, if◌then◌else◌}
use Rattle.std.specs.List.{list_any}
use Rattle.std.specs.declared.alloc.Global.{Global}
use Rattle.std.proofs.lemmas.Bool.{true≢false, ne_eqb}
use Rattle.std.proofs.lemmas.List.FromFn.{length-map-range_with_len}
use Rattle.vh_num.specs.Frames.{Frame, frame_at}
use Rattle.vh_num.specs.Laws.{sum_of, in_lane}
use Rattle.vh_num.specs.Samples.{clamp_of}
use Rattle.vh_points.specs.Queues.{Queue}
use Rattle.vh_plugin.specs.Class.{Param, Class, State}
use Rattle.vh_plugin.specs.Blocks.{block_of, values_at, aux_at, state_in, IsOutput}
use Rattle.vh_session.specs.declared.wire.End.{End}
use Rattle.vh_session.specs.declared.wire.Wire.{Wire}
use Rattle.vh_meaning.specs.Mix.{reaches, brought, arriving, mix, mix_of_some, main_mix, aux_mix}
use Rattle.vh_meaning.proofs.Reaching.{by_parts}
use Rattle.vh_core.specs.Stage.{frames_in}

-- the only frame
frame_same : (channels : ℕ) (samples : List ℤ) → length samples ≡ channels → frame_at channels 1 samples 0 ≡ samples
frame_same zero [] long = refl
frame_same zero (x ∷ samples) long = absurd (omega (arith, long))
frame_same (suc channels) [] long = absurd (omega (arith, long))
frame_same (suc channels) (x ∷ samples) long = ap (λ (l : List ℤ). x ∷ l) (frame_same channels samples (omega (arith, long)))

-- without points values stay
values_same : (params : List Param) (values : List ℕ) → length values ≤ length params → values_at params [] values 0 ≡ values
values_same [] [] few = refl
values_same [] (value ∷ values) few = absurd (omega (arith, few))
values_same (param ∷ params) [] few = refl
values_same (param ∷ params) (value ∷ values) few = ap (λ (l : List ℕ). value ∷ l) (values_same params values (omega (arith, few)))

-- a class's sample, from a block of one
module _ (class : Class) (state : State) (channels : ℕ) (queues : List Queue) (values : List ℕ) (main aux : List ℤ) (side : Option Frame)
    (none : queues ≡ []) (each : length values ≡ length class.params) (wide : length main ≡ channels) (comes : aux_at (block_of channels 1 queues values main aux) 0 ≡ side) where
  values_are : values_at class.params queues values 0 ≡ values
  values_are = ap (λ (qs : List Queue). values_at class.params qs values 0) none ∙ values_same class.params values (omega (arith, each))

  pub one_output : (out : List ℤ) → IsOutput class state (block_of channels 1 queues values main aux) out → out ≡ class.output channels state values main side
  one_output out is =
      let long = is.0 in
      sym (frame_same channels out (omega (arith, long))) ∙ is.1 0 (omega arith)
      ∙ by_parts (class.output channels) state state (values_at class.params queues values 0) values (frame_at channels 1 main 0) main (aux_at (block_of channels 1 queues values main aux) 0) side refl values_are (frame_same channels main wide) comes

  pub one_state : state_in class state (block_of channels 1 queues values main aux) 1 ≡ class.next channels state values main side
  one_state =
      by_parts (class.next channels) state state (values_at class.params queues values 0) values (frame_at channels 1 main 0) main (aux_at (block_of channels 1 queues values main aux) 0) side refl values_are (frame_same channels main wide) comes

-- what reaches an aux bus

none_arrives : (wires : List Wire) (input : Frame) (frames : ℕ → Frame) (to : End) → list_any (reaches to true) wires ≡ false → arriving wires input frames to true ≡ []
none_arrives [] input frames to none = refl
none_arrives (wire ∷ wires) input frames to none = elim (reaches to true wire) as (λ t. (t || list_any (reaches to true) wires) ≡ false → map (λ (w : Wire). brought input frames w.from) (cond t (wire ∷ filter (reaches to true) wires) (filter (reaches to true) wires)) ≡ []) [
  | true ↦ λ is. absurd (true≢false is)
  | false ↦ λ is. none_arrives wires input frames to is
] none

some_arrives : (channels : ℕ) (wires : List Wire) (input : Frame) (frames : ℕ → Frame) (to : End) → list_any (reaches to true) wires ≡ true
    → mix_of_some channels (arriving wires input frames to true) ≡ Some (mix channels (arriving wires input frames to true))
some_arrives channels [] input frames to some = absurd (true≢false (sym some))
some_arrives channels (wire ∷ wires) input frames to some =
    let rest = filter (reaches to true) wires in
    let frames_of : List Wire → List Frame = λ ws. map (λ (w : Wire). brought input frames w.from) ws in
    elim (reaches to true wire) as (λ t. (t || list_any (reaches to true) wires) ≡ true → mix_of_some channels (frames_of (cond t (wire ∷ rest) rest)) ≡ Some (mix channels (frames_of (cond t (wire ∷ rest) rest)))) [
      | true ↦ λ is. refl
      | false ↦ λ is. some_arrives channels wires input frames to is
    ] some

pub mix_long : (channels : ℕ) (frames : List Frame) → length (mix channels frames) ≡ channels
mix_long channels frames = length-map-range_with_len (λ channel. clamp_of (sum_of (in_lane channel frames))) 0 channels

-- no samples where no wire leads to the bus
abbrev pub aux_samples : ℕ → List Wire → Frame → (ℕ → Frame) → End → List ℤ
aux_samples channels wires input frames to = if list_any (reaches to true) wires then mix channels (arriving wires input frames to true) else []

pub aux_arrives : (channels : ℕ) (wires : List Wire) (input : Frame) (frames : ℕ → Frame) (to : End) (queues : List Queue) (values : List ℕ) (main samples : List ℤ) → 1 ≤ channels → samples ≡ aux_samples channels wires input frames to
    → aux_at (block_of channels 1 queues values main samples) 0 ≡ aux_mix channels wires input frames to
aux_arrives channels wires input frames to queues values main samples some is =
    let mixed = mix channels (arriving wires input frames to true) in
    let long = mix_long channels (arriving wires input frames to true) in
    ap (λ (l : List ℤ). aux_at (block_of channels 1 queues values main l) 0) is
    ∙ elim (list_any (reaches to true) wires) as (λ t. list_any (reaches to true) wires ≡ t → aux_at (block_of channels 1 queues values main (cond t mixed [])) 0 ≡ aux_mix channels wires input frames to) [
      | true ↦ λ any.
          ap (λ t. cond t None (Some (frame_at channels 1 mixed 0))) (ne_eqb (length mixed) 0 (λ e. omega (arith, e, long, some)))
          ∙ ap (λ (f : Frame). Some f) (frame_same channels mixed long) ∙ sym (some_arrives channels wires input frames to any)
      | false ↦ λ any. sym (ap (mix_of_some channels) (none_arrives wires input frames to any))
    ] refl

-- A node's sample in other words: of this class, from this state, at these values, from what reaches it.
module _ (class one : Class) (state first : State) (channels wide : ℕ) (queues : List Queue) (values given : List ℕ) (main aux : List ℤ) (wires : List Wire) (input : Frame) (frames : ℕ → Frame) (to : End)
    (same_class : class ≡ one) (same_state : state ≡ first) (same_channels : channels ≡ wide) (none : queues ≡ []) (same_values : values ≡ given) (each : length given ≡ length one.params) (some : 1 ≤ wide)
    (mixed : main ≡ main_mix wide wires input frames to) (bus : aux ≡ aux_samples wide wires input frames to) where
  abbrev side : Option Frame
  side = aux_mix wide wires input frames to

  as_wide : length main ≡ wide
  as_wide = ap length mixed ∙ mix_long wide (arriving wires input frames to false)

  comes : aux_at (block_of wide 1 queues given main aux) 0 ≡ side
  comes = aux_arrives wide wires input frames to queues given main aux some bus

  pub node_output : (out : List ℤ) → IsOutput class state (block_of channels 1 queues values main aux) out → out ≡ one.output wide first given (main_mix wide wires input frames to) side
  node_output out is =
      let here : IsOutput one first (block_of wide 1 queues given main aux) out =
      subst (λ (c : Class). IsOutput c first (block_of wide 1 queues given main aux) out) same_class
      (subst (λ (s : State). IsOutput class s (block_of wide 1 queues given main aux) out) same_state
      (subst (λ (n : ℕ). IsOutput class state (block_of n 1 queues given main aux) out) same_channels
      (subst (λ (v : List ℕ). IsOutput class state (block_of channels 1 queues v main aux) out) same_values is))) in
      one_output one first wide queues given main aux side none each as_wide comes out here ∙ ap (λ (f : Frame). one.output wide first given f side) mixed

  pub node_state : (after : State) → after ≡ state_in class state (block_of channels 1 queues values main aux) 1 → after ≡ one.next wide first given (main_mix wide wires input frames to) side
  node_state after is =
      is
      ∙ ap (λ (v : List ℕ). state_in class state (block_of channels 1 queues v main aux) 1) same_values
      ∙ ap (λ (n : ℕ). state_in class state (block_of n 1 queues given main aux) 1) same_channels
      ∙ ap (λ (s : State). state_in class s (block_of wide 1 queues given main aux) 1) same_state
      ∙ ap (λ (c : Class). state_in c first (block_of wide 1 queues given main aux) 1) same_class
      ∙ one_state one first wide queues given main aux side none each as_wide comes
      ∙ ap (λ (f : Frame). one.next wide first given f side) mixed

-- what was mixed, in other words
pub mixed_here : (wires all : List Wire) (input silent : Frame) (rows frames : List (Vec ℤ Global)) (to : End) (bus : Bool) (channels : ℕ) (old out : List ℤ) → all ≡ wires → silent ≡ input → rows ≡ frames → length old ≡ channels
    → out ≡ mix (length old) (arriving all silent (frames_in rows) to bus) → out ≡ mix channels (arriving wires input (frames_in frames) to bus)
mixed_here wires all input silent rows frames to bus channels old out same_wires same_input same_frames wide is =
    is
    ∙ ap (λ (n : ℕ). mix n (arriving all silent (frames_in rows) to bus)) wide
    ∙ ap (λ (ws : List Wire). mix channels (arriving ws silent (frames_in rows) to bus)) same_wires
    ∙ ap (λ (f : Frame). mix channels (arriving wires f (frames_in rows) to bus)) same_input
    ∙ ap (λ (fs : List (Vec ℤ Global)). mix channels (arriving wires input (frames_in fs) to bus)) same_frames

-- and of an aux bus
pub aux_here : (wires all : List Wire) (input : Frame) (frames : ℕ → Frame) (to : End) (channels : ℕ) (mixed kept samples : List ℤ) → all ≡ wires → kept ≡ mixed → mixed ≡ mix channels (arriving wires input frames to true)
    → samples ≡ (if list_any (reaches to true) all then kept else []) → samples ≡ aux_samples channels wires input frames to
aux_here wires all input frames to channels mixed kept samples same_wires same is which =
    which
    ∙ ap (λ (ws : List Wire). if list_any (reaches to true) ws then kept else []) same_wires
    ∙ ap (λ (l : List ℤ). if list_any (reaches to true) wires then l else []) (same ∙ is)
