-- A rendering while it is played.
use Rattle.std.proofs.Common.{◌≡◌, ◌∙◌, ℕ, ◌-◌, ◌<◌, ◌≤◌, List, [], ◌++◌, length, take, drop, get_or, ◌⊎◌, inl, inr, ⊎_elim, refl, sym, ap, subst, arith}
use Rattle.std.proofs.lemmas.Bool.{cases_lt}
use Rattle.std.proofs.lemmas.List.{length-append, get_or_append_left, get_or-append_right, take_at, drop_at}
use Rattle.vh_journal.specs.declared.entry.Entry.{Entry}
use Rattle.vh_legal.specs.Blocks.{IsAtBlock}
use Rattle.vh_stage.specs.Playing.{IsUpTo, AreAt}
use Rattle.vh_stage.specs.declared.stage.Stage.{Stage}
use Rattle.vh_stage.specs.Staged.{AreAtBlocks, IsSameStage}

pub up_to_none : (at : ℕ) → IsUpTo at []
up_to_none at = record { never_fall = λ i j d le below. absurd (omega (arith, below)); most = λ i d below. absurd (omega (arith, below)) }

-- entries that came at a sample stand behind those before
pub up_to_more : (at : ℕ) (entries more : List Entry) → IsUpTo at entries → AreAt at more → IsUpTo at (entries ++ more)
up_to_more at entries more up_to are =
    let size = length-append entries more in
    let sample : (i : ℕ) (d : Entry) → i < length (entries ++ more) → ((i < length entries) × ((get_or (entries ++ more) i d).sample ≡ (get_or entries i d).sample)) ⊎ ((length entries ≤ i) × ((get_or (entries ++ more) i d).sample ≡ at)) =
    λ i d below.
    ⊎_elim
    (λ (before : i < length entries). inl (before, ap (λ (e : Entry). e.sample) (get_or_append_left entries more d i before)))
    (λ (past : length entries ≤ i). inr (past, ap (λ (e : Entry). e.sample) (get_or-append_right entries more (length entries) i d refl past) ∙ are (i - length entries) d (omega (arith, below, size, past))))
    (cases_lt i (length entries)) in
    record {
      never_fall = λ i j d le below.
          ⊎_elim
          (λ one. ⊎_elim
          (λ other. let a = one.1 in let b = other.1 in let up = up_to.never_fall i j d le other.0 in omega (arith, a, b, up))
          (λ other. let a = one.1 in let b = other.1 in let most = up_to.most i d one.0 in omega (arith, a, b, most))
          (sample j d below))
          (λ one. ⊎_elim
          (λ other. absurd (let p = one.0 in let q = other.0 in omega (arith, p, q, le)))
          (λ other. let a = one.1 in let b = other.1 in omega (arith, a, b))
          (sample j d below))
          (sample i d (omega (arith, le, below)));
      most = λ i d below.
          ⊎_elim
          (λ one. let a = one.1 in let most = up_to.most i d one.0 in omega (arith, a, most))
          (λ one. let a = one.1 in omega (arith, a))
          (sample i d below);
    }

pub up_to_later : (at past : ℕ) (entries : List Entry) → at ≤ past → IsUpTo at entries → IsUpTo past entries
up_to_later at past entries later up_to = record { never_fall = up_to.never_fall; most = λ i d below. let most = up_to.most i d below in omega (arith, most, later) }

-- and each stands where a block begins
pub blocks_more : (samples : ℕ) (pattern : List ℕ) (at : ℕ) (entries more : List Entry) → IsAtBlock samples pattern at → AreAt at more → AreAtBlocks samples pattern entries → AreAtBlocks samples pattern (entries ++ more)
blocks_more samples pattern at entries more here are blocks i d below =
    let size = length-append entries more in
    ⊎_elim
    (λ (before : i < length entries). subst (λ (e : Entry). IsAtBlock samples pattern e.sample) (sym (get_or_append_left entries more d i before)) (blocks i d before))
    (λ (past : length entries ≤ i).
    subst (IsAtBlock samples pattern) (sym (ap (λ (e : Entry). e.sample) (get_or-append_right entries more (length entries) i d refl past) ∙ are (i - length entries) d (omega (arith, below, size, past)))) here)
    (cases_lt i (length entries))

-- the entries that came are those behind the ones before
pub fresh_is : (old new more : List Entry) (played : ℕ) → new ≡ old ++ more → played ≡ length old → drop played new ≡ more
fresh_is old new more played is long = ap (drop played) is ∙ drop_at old more played (sym long)

pub taken_is : (old new more : List Entry) (played : ℕ) → new ≡ old ++ more → played ≡ length old → take played new ≡ old
taken_is old new more played is long = ap (take played) is ∙ take_at old more played (sym long)

pub same_stage_twice : {P : Type 0} (one other third : Stage P) → IsSameStage one other → IsSameStage other third → IsSameStage one third
same_stage_twice one other third same also = record { ring = also.ring ∙ same.ring; parameters = also.parameters ∙ same.parameters; capacity = also.capacity ∙ same.capacity }
