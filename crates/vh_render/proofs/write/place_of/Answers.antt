use Rattle.std.proofs.Common.{◌≡◌, ◌≤◌, ◌<◌, slice_index_or, ap, subst, ⊎_elim, arith}
use Rattle.std.proofs.lemmas.Bool.{cases_lt}
use Rattle.std.proofs.lemmas.List.{get_or_default}
use Rattle.vh_render.proofs.write.place_of.Goals as goal

pub returns-else-entries-place-clause-up_to : goal.returns-else-entries-place-clause-up_to
returns-else-entries-place-clause-up_to c =
    let inv = c.loop-place.invariant in
    let place = c.loop-place.place in
    record {
      most = inv.1;
      before = inv.2;
      after = λ i d late below.
          let first : c.args.sample ≤ (slice_index_or c.args.entries.now place d).sample = let same = ap (λ entry. entry.sample) (get_or_default c.args.entries.now place d c.index-entries-place.result c.loop-place-test.true) in let here = c.if-entries-place.false in omega (arith, same, here) in
          ⊎_elim
          (λ (behind : place < i). let more = c.requires.rising place i d behind below in omega (arith, first, more))
          (λ (not : i ≤ place). let same : place ≡ i = omega (arith, late, not) in subst (λ k. c.args.sample ≤ (slice_index_or c.args.entries.now k d).sample) same first)
          (cases_lt place i);
    }
