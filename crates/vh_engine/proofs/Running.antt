-- A node that ran over a block.
use Rattle.std.proofs.Common.{◌≡◌, ℕ, suc, ◌+◌, ◌<◌, ◌==◌, Bool, false, ◌&&◌, List, [], ◌∷◌, length, map, get_or, inl, ℤ, refl, sym, ap, ◌∙◌, arith}
use Rattle.std.specs.Prelude.{None}
use Rattle.std.proofs.lemmas.Bool.{eq-eqb, not-false, and_from}
use Rattle.std.proofs.lemmas.List.{get_or-map, length-map}
use Rattle.std.proofs.lemmas.List.Folds.{list_any_at}
use Rattle.vh_num.specs.Frames.{frame_at}
use Rattle.vh_params.specs.Flags.{is_read_only, is_writable}
use Rattle.vh_points.specs.Queues.{Queue}
use Rattle.vh_points.specs.Values.{value_at, value_behind, points_of}
use Rattle.vh_lane.specs.Laws.{PointsMeanValues}
use Rattle.vh_plugin.specs.Class.{Param, Class, State}
use Rattle.vh_plugin.specs.Blocks.{Block, block_of, values_at, values_behind, state_in, IsOutput, AreFor}
use Rattle.vh_plugin.specs.Streams.{Stream, IsBlockOf, state_over, output_over}
use Rattle.vh_plugin.specs.Laws.{BlockGoesOn}
use Rattle.vh_engine.specs.declared.control.Control.{Control}
use Rattle.vh_engine.specs.declared.span.Span.{Span}
use Rattle.vh_engine.specs.Sent.{value_in, points_in, IsBehind}
use Rattle.vh_engine.specs.Queued.{AreSent}
use Rattle.vh_engine.specs.Nodes.{values_in, sent_of, AreOf, AreBehind, aux_frame, stream_of, IsRun}

params_long : (params : List Param) (controls : List Control) → AreOf params controls → length controls ≡ length params
params_long params controls are = sym (length-map controls (λ (control : Control). control.id)) ∙ ap (λ (ids : List ℕ). length ids) are.ids ∙ length-map params (λ (param : Param). param.id)

-- the queues are for the class
pub sent_for : (class : Class) (span : Span) (node : ℕ) (controls : List Control) (queues : List Queue) → AreOf class.params controls → AreSent span node controls queues → AreFor class span.frames queues
sent_for class span node controls queues are sent = record {
  writable = λ i d lt.
      let own = sent.writable i d lt in
      let k = own.0 in
      let within : k < length controls = own.1 in
      let inside : k < length class.params = omega (arith, own.1, params_long class.params controls are) in
      let control : Control = record { id = 0; steps = 0; shown = false; lane = None; held = 0; begun = 0; ended = 0; sent = 0 } in
      let param : Param = record { id = 0; steps = 0; first = 0; flags = 0 } in
      let id : (get_or class.params k param).id ≡ (get_or queues i d).id =
      sym (get_or-map (λ (p : Param). p.id) class.params k param 0 inside) ∙ sym (ap (λ (ids : List ℕ). get_or ids k 0) are.ids) ∙ get_or-map (λ (c : Control). c.id) controls k control 0 within ∙ (own.2 control).0 in
      let flags : is_read_only (get_or class.params k param).flags ≡ false =
      sym (get_or-map (λ (p : Param). is_read_only p.flags) class.params k param false inside) ∙ sym (ap (λ (all : List Bool). get_or all k false) are.shown) ∙ get_or-map (λ (c : Control). c.shown) controls k control false within ∙ (own.2 control).1 in
      list_any_at (λ (p : Param). (p.id == (get_or queues i d).id) && is_writable p.flags) class.params k param inside
      (and_from ((get_or class.params k param).id == (get_or queues i d).id) (is_writable (get_or class.params k param).flags) (eq-eqb (get_or class.params k param).id (get_or queues i d).id id) (not-false (is_writable (get_or class.params k param).flags) flags));
  offsets = λ i d lt j e inside. inl (sent.offsets i d lt j e inside);
}

first_same : (a b : ℕ) (rest others : List ℕ) → a ∷ rest ≡ b ∷ others → (a ≡ b) × (rest ≡ others)
first_same a b rest others e = (cc, cc)

both_same : (a b : ℕ) (rest others : List ℕ) → a ≡ b → rest ≡ others → a ∷ rest ≡ b ∷ others
both_same a b rest others e es = cc

-- the processor has each parameter's value at each place
values_meant : (span : Span) (node : ℕ) (params : List Param) (controls : List Control) (queues : List Queue) (place : ℕ) → PointsMeanValues → place < span.frames
    → map (λ (control : Control). control.id) controls ≡ map (λ (param : Param). param.id) params
    → ((k : ℕ) (d : Control) → k < length controls → points_of queues (get_or controls k d).id ≡ points_in span node (get_or controls k d))
    → values_at params queues (sent_of controls) place ≡ values_in span node controls place
values_meant span node [] [] queues place law inside ids sent = refl
values_meant span node [] (control ∷ controls) queues place law inside ids sent = absurd (omega (arith, ap (λ (is : List ℕ). length is) ids))
values_meant span node (param ∷ params) [] queues place law inside ids sent = absurd (omega (arith, ap (λ (is : List ℕ). length is) ids))
values_meant span node (param ∷ params) (control ∷ controls) queues place law inside ids sent =
    let same = first_same _ _ _ _ ids in
    both_same _ _ _ _
    (ap (λ id. value_at control.sent (points_of queues id) place) (sym same.0)
    ∙ ap (λ (points : List (ℕ × ℕ)). value_at control.sent points place) (sent 0 control (omega arith))
    ∙ (law (value_in span node control) span.from control.sent span.frames).at place inside)
    (values_meant span node params controls queues place law inside same.1 (λ k d lt. sent (suc k) d (omega (arith, lt))))

-- and behind the block the one of the last sample
values_left : (span : Span) (node : ℕ) (params : List Param) (old new : List Control) (queues : List Queue) → PointsMeanValues
    → map (λ (control : Control). control.id) old ≡ map (λ (param : Param). param.id) params
    → ((k : ℕ) (d : Control) → k < length old → points_of queues (get_or old k d).id ≡ points_in span node (get_or old k d))
    → length new ≡ length old → ((k : ℕ) (d : Control) → k < length old → IsBehind span node (get_or old k d) (get_or new k d))
    → values_behind params queues (sent_of old) ≡ sent_of new
values_left span node [] [] [] queues law ids sent long behind = refl
values_left span node [] [] (control ∷ new) queues law ids sent long behind = absurd (omega (arith, long))
values_left span node [] (control ∷ old) new queues law ids sent long behind = absurd (omega (arith, ap (λ (is : List ℕ). length is) ids))
values_left span node (param ∷ params) [] new queues law ids sent long behind = absurd (omega (arith, ap (λ (is : List ℕ). length is) ids))
values_left span node (param ∷ params) (control ∷ old) [] queues law ids sent long behind = absurd (omega (arith, long))
values_left span node (param ∷ params) (control ∷ old) (after ∷ new) queues law ids sent long behind =
    let same = first_same _ _ _ _ ids in
    both_same _ _ _ _
    (ap (λ id. value_behind control.sent (points_of queues id)) (sym same.0)
    ∙ ap (λ (points : List (ℕ × ℕ)). value_behind control.sent points) (sent 0 control (omega arith))
    ∙ (law (value_in span node control) span.from control.sent span.frames).behind
    ∙ sym (behind 0 control (omega arith)).sent)
    (values_left span node params old new queues law same.1 (λ k d lt. sent (suc k) d (omega (arith, lt))) (omega (arith, long)) (λ k d lt. behind (suc k) d (omega (arith, lt))))

pub values_sent : (span : Span) (node : ℕ) (params : List Param) (old new : List Control) (queues : List Queue) → PointsMeanValues → AreOf params old → AreSent span node old queues → AreBehind span node old new
    → values_behind params queues (sent_of old) ≡ sent_of new
values_sent span node params old new queues law are sent behind = values_left span node params old new queues law are.ids sent.points behind.long behind.each

-- its frames and its state are those of the stream that it was given
module _ (class : Class) (span : Span) (node channels : ℕ) (controls : List Control) (queues : List Queue) (main aux : List ℤ) (old : State) where
  block : Block
  block = block_of channels span.frames queues (sent_of controls) main aux

  stream : Stream
  stream = stream_of channels (values_in span node controls) (frame_at channels span.frames main) (aux_frame channels span.frames aux)

  is_block : PointsMeanValues → AreOf class.params controls → AreSent span node controls queues → IsBlockOf class.params stream 0 block
  unfolding block stream
  is_block law are sent = record {
    channels = refl;
    values = λ place lt. values_meant span node class.params controls queues place law lt are.ids sent.points ∙ ap (λ i. values_in span node controls i) (let e : place ≡ 0 + place = omega arith in e);
    main = λ place lt. ap (λ i. frame_at channels span.frames main i) (let e : place ≡ 0 + place = omega arith in e);
    aux = λ place lt. ap (λ i. aux_frame channels span.frames aux i) (let e : place ≡ 0 + place = omega arith in e);
  }

  pub is_run : (new : State) (out : List ℤ) → BlockGoesOn → PointsMeanValues → AreOf class.params controls → AreSent span node controls queues
      → IsOutput class old (block_of channels span.frames queues (sent_of controls) main aux) out
      → new ≡ state_in class old (block_of channels span.frames queues (sent_of controls) main aux) span.frames
      → IsRun class (stream_of channels (values_in span node controls) (frame_at channels span.frames main) (aux_frame channels span.frames aux)) span.frames old new out
  unfolding block stream
  is_run new out goes_on law are sent output state =
      let same = goes_on class old stream 0 block (is_block law are sent) in
      record {
        frames = λ place lt. output.1 place lt ∙ same.0 place lt ∙ ap (λ i. output_over class old stream i) (let e : 0 + place ≡ place = omega arith in e);
        state = state ∙ same.1 ∙ ap (λ i. state_over class old stream i) (let e : 0 + span.frames ≡ span.frames = omega arith in e);
      }
