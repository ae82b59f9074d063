-- What reaches a seat, as a processor is handed it.
use Rattle.std.proofs.Common.{◌≡◌, ◌∙◌, inl, inr, ℕ, ◌<◌, ◌≤◌, ◌*◌, Bool, true, false, cond, List, [], ◌∷◌, ◌++◌, length, None, Some, ℤ, refl, sym, ap, subst, arith}
use Rattle.std.specs.Prelude.{All, ◌==◌}
use Rattle.std.proofs.lemmas.Bool.{ne_eqb}
use Rattle.vh_num.specs.Frames.{Frame, frame_at}
use Rattle.vh_num.specs.Laws.{mixed}
use Rattle.vh_plugin.specs.Class.{Class, State}
use Rattle.vh_plugin.specs.Blocks.{AreAux}
use Rattle.vh_session.specs.declared.wire.End.{End}
use Rattle.vh_meaning.specs.Mix.{mix_of_some}
use Rattle.vh_engine.specs.declared.control.Control.{Control}
use Rattle.vh_engine.specs.declared.seat.Seat.{Seat}
use Rattle.vh_engine.specs.declared.span.Span.{Span}
use Rattle.vh_engine.specs.Buses.{IsSource, sources_of, HaveRoom, reaching}
use Rattle.vh_engine.specs.Nodes.{values_in, aux_frame, stream_of, IsRun, main_of, aux_of}
use Rattle.vh_engine.specs.Runs.{HasRun}
use Rattle.vh_engine.proofs.Mixing.{length_mixed}
use Rattle.vh_engine.proofs.Reached.{before_end, frame_of_start, frame_of_mix}
use Rattle.vh_engine.proofs.Alike.{run_alike}

-- a mix has the samples of its block
pub mixed_long : (size : ℕ) (sources : List (List ℤ)) (samples : List ℤ) → samples ≡ mixed size sources → length samples ≡ size
mixed_long size sources samples is = ap (λ (l : List ℤ). length l) is ∙ length_mixed size sources

-- the samples of an aux bus that these ends reach
pub record AreAuxOf (size : ℕ) (ends : List End) (sources : List (List ℤ)) (samples : List ℤ) : Type 0 where
  pub none : ends ≡ [] → samples ≡ []
  pub some : 0 < length ends → samples ≡ mixed size sources

pub are_aux : (class : Class) (channels n size : ℕ) (ends : List End) (sources : List (List ℤ)) (samples : List ℤ) → AreAuxOf size ends sources samples → size ≡ channels * n
    → (0 < length ends → class.aux ≡ true) → AreAux class channels n samples
are_aux class channels n size [] sources samples is long has = inl (ap length (is.none refl))
are_aux class channels n size (end ∷ ends) sources samples is long has =
    let more : 0 < length (end ∷ ends) = omega arith in
    inr (ap length (is.some more) ∙ length_mixed size sources ∙ long, has more)

-- a block of samples
module _ (channels n : ℕ) (ins : List ℤ) (rows : List (List ℤ)) (count : ℕ) (long : length ins ≡ channels * n) (counted : count ≡ length rows) (room : HaveRoom (channels * n) rows) where
  aux_is : (place : ℕ) → place < n → 1 ≤ channels → (ends : List End) → All (IsSource count) ends → (samples : List ℤ) → AreAuxOf (channels * n) ends (sources_of ins rows (channels * n) ends) samples
      → aux_frame channels n samples place ≡ mix_of_some channels (reaching channels n ins rows ends place)
  aux_is place lt some [] are samples is = subst (λ (xs : List ℤ). aux_frame channels n xs place ≡ None) (sym (is.none refl)) refl
  aux_is place lt some (end ∷ ends) are samples is =
      let same = is.some (omega arith) in
      let size : length samples ≡ channels * n = ap length same ∙ length_mixed (channels * n) (sources_of ins rows (channels * n) (end ∷ ends)) in
      let first = before_end channels n place 0 lt some in
      let full : (length samples == 0) ≡ false = ne_eqb (length samples) 0 (λ e. omega (arith, e, size, first)) in
      ap (λ (b : Bool). cond b None (Some (frame_at channels n samples place))) full
      ∙ ap (λ (xs : List ℤ). Some (frame_at channels n xs place)) same
      ∙ ap (λ (frame : Frame). Some frame) (frame_of_mix channels n place lt ins rows count long counted room (end ∷ ends) are)

  -- a node that runs over the samples of its buses runs over what reaches its seat
  pub run_seated : (class : Class) (values : ℕ → List ℕ) (old new : State) (seat : Seat) (main aux out : List ℤ) → 1 ≤ channels
      → All (IsSource count) seat.main.items → All (IsSource count) seat.aux.items
      → main ≡ mixed (length ins) (sources_of ins rows (length ins) seat.main.items)
      → AreAuxOf (length ins) seat.aux.items (sources_of ins rows (length ins) seat.aux.items) aux
      → IsRun class (stream_of channels values (frame_at channels n main) (aux_frame channels n aux)) n old new out
      → IsRun class (stream_of channels values (main_of channels n ins rows seat) (aux_of channels n ins rows seat)) n old new out
  run_seated class values old new seat main aux out some mains auxes is is_aux run =
      let main_is : main ≡ mixed (channels * n) (sources_of ins rows (channels * n) seat.main.items) = subst (λ (m : ℕ). main ≡ mixed m (sources_of ins rows m seat.main.items)) long is in
      let aux_are : AreAuxOf (channels * n) seat.aux.items (sources_of ins rows (channels * n) seat.aux.items) aux = subst (λ (m : ℕ). AreAuxOf m seat.aux.items (sources_of ins rows m seat.aux.items) aux) long is_aux in
      run_alike class old channels n values (frame_at channels n main) (main_of channels n ins rows seat) (aux_frame channels n aux) (aux_of channels n ins rows seat)
      (λ place lt. ap (λ (xs : List ℤ). frame_at channels n xs place) main_is ∙ frame_of_mix channels n place lt ins rows count long counted room seat.main.items mains)
      (λ place lt. aux_is place lt some seat.aux.items auxes aux aux_are)
      new out out (λ place lt. refl) run

-- what a node came to lies at the start of its row
pub has_run_start : (class : Class) (channels : ℕ) (span : Span) (ins : List ℤ) (rows : List (List ℤ)) (seat : Seat) (node : ℕ) (old new : List Control) (before after : State) (samples rest : List ℤ)
    → length samples ≡ channels * span.frames
    → HasRun class channels span ins rows seat node old new before after samples → HasRun class channels span ins rows seat node old new before after (samples ++ rest)
has_run_start class channels span ins rows seat node old new before after samples rest long is =
    let main = main_of channels span.frames ins rows seat in
    let aux = aux_of channels span.frames ins rows seat in
    record {
      run = run_alike class before channels span.frames (values_in span node old) main main aux aux (λ place lt. refl) (λ place lt. refl) after samples (samples ++ rest) (λ place lt. frame_of_start channels span.frames place samples rest lt long) is.run;
      behind = is.behind;
    }
