-- What the engine's seats bring is what the definitions let arrive.
use Rattle.std.proofs.Common.{◌≡◌, ◌∙◌, ℕ, ◌+◌, Bool, true, false, cond, nat_eq, List, [], ◌∷◌, map, refl, ap, arith}
use Rattle.std.specs.Prelude.{filter, ◌==◌, not, ◌&&◌, if◌then◌else◌}
use Rattle.std.proofs.lemmas.Bool.{eqb-true, eq-eqb, eqb-false, ne_eqb}
use Rattle.vh_num.specs.Frames.{Frame}
use Rattle.vh_session.specs.Content.{sources_into}
use Rattle.vh_session.specs.Content as session
use Rattle.vh_session.specs.Lines.{end_number}
use Rattle.vh_session.specs.declared.wire.End.{End}
use Rattle.vh_session.specs.declared.wire.End.TheVariants.{In, Out, Node as AtNode}
use Rattle.vh_session.specs.declared.wire.Wire.{Wire}
use Rattle.vh_meaning.specs.Mix.{is_at, reaches, brought, arriving}

same_numbers : (n m : ℕ) → ((2 + n) == (2 + m)) ≡ (n == m)
same_numbers n m = elim (nat_eq n m) as (λ b. nat_eq n m ≡ b → ((2 + n) == (2 + m)) ≡ b) [
  | true ↦ λ is. eq-eqb (2 + n) (2 + m) (ap (λ k. 2 + k) (eqb-true n m is))
  | false ↦ λ is. ne_eqb (2 + n) (2 + m) (λ same. eqb-false n m is (omega (arith, same)))
] refl

-- ends have the same number where they are the same
same_end : (a b : End) → (end_number a == end_number b) ≡ is_at a b
same_end In In = refl
same_end In Out = refl
same_end In (AtNode node) = ne_eqb 0 (2 + node) (λ same. omega (arith, same))
same_end Out In = refl
same_end Out Out = refl
same_end Out (AtNode node) = ne_eqb 1 (2 + node) (λ same. omega (arith, same))
same_end (AtNode node) In = ne_eqb (2 + node) 0 (λ same. omega (arith, same))
same_end (AtNode node) Out = ne_eqb (2 + node) 1 (λ same. omega (arith, same))
same_end (AtNode node) (AtNode other) = same_numbers node other

-- the frames that the ends of wires bring to a bus are those that arrive there
pub ends_bring : (wires : List Wire) (to : End) (aux : Bool) (input : Frame) (frames : ℕ → Frame) → map (brought input frames) (sources_into wires to aux) ≡ arriving wires input frames to aux
ends_bring [] to aux input frames = refl
ends_bring (wire ∷ wires) to aux input frames =
    let rest = ends_bring wires to aux input frames in
    let same : session.reaches to aux wire ≡ reaches to aux wire = ap (λ (b : Bool). b && (if aux then wire.aux else not wire.aux)) (same_end wire.to to) in
    let theirs = filter (session.reaches to aux) wires in
    let ours = filter (reaches to aux) wires in
    ap (λ (b : Bool). map (brought input frames) (map (λ (w : Wire). w.from) (cond b (wire ∷ theirs) theirs))) same
    ∙ (elim (reaches to aux wire) as (λ b. map (brought input frames) (map (λ (w : Wire). w.from) (cond b (wire ∷ theirs) theirs)) ≡ map (λ (w : Wire). brought input frames w.from) (cond b (wire ∷ ours) ours)) [
      | true ↦ ap (λ (l : List Frame). brought input frames wire.from ∷ l) rest
      | false ↦ rest
    ])
