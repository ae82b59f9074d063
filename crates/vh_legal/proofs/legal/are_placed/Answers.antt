use Rattle.std.proofs.Common.{◌≡◌, ◌∙◌, ℕ, ◌+◌, ◌-◌, ◌<◌, ◌≤◌, List, length, get_or, true, sym, ap, subst, arith}
use Rattle.std.proofs.lemmas.Bool.{false≢true, both_ways}
use Rattle.std.proofs.lemmas.List.{get_or_read}
use Rattle.vh_journal.specs.declared.entry.Entry.{Entry}
use Rattle.vh_session.specs.Names.{content_of}
use Rattle.vh_legal.specs.Blocks.{IsAtBlock}
use Rattle.vh_legal.proofs.Placed.{placed_more, falls, above_more}
use Rattle.vh_legal.proofs.legal.are_placed.Goals as goal
use Rattle.vh_legal.proofs.legal.are_placed.Goals.{then-entry-least-via-then-entry-least, then-entry-least-via-else-entry-least+then-entry-len, then-entry-least-via-else-entry-least+else-entry-len+then-not-is_at_block}

pub returns-then-entry-least : goal.returns-then-entry-least
returns-then-entry-least c =
    let session = c.args.session.now in
    let entries = c.args.entries.now in
    let i = c.loop-entry.entry-index in
    let entry = c.entry-item.result in
    let kept = c.loop-entry.invariant in
    let within : i < length entries = omega (arith, c.loop-entry-test.true) in
    let is : entry ≡ get_or entries i entry = c.entry-item.is in
    let sample : entry.sample ≡ (get_or entries i entry).sample = ap (λ (e : Entry). e.sample) is in
    let editor : entry.editor ≡ (get_or entries i entry).editor = ap (λ (e : Entry). e.editor) is in (
      λ no. absurd (false≢true no),
      λ placed. absurd (elim c.then-entry-least.branch [
        | then-entry-least-via-then-entry-least w ↦ falls entries i c.loop-entry.least entry within (kept.last entry) kept.first (omega (arith, sample, w.if-entry-least.true)) placed.rising
        | then-entry-least-via-else-entry-least+then-entry-len w ↦ let own = placed.editors_are i entry within in omega (arith, own, editor, w.if-entry-len.true, w.len.ensures, session.scripts.ok.0)
        | then-entry-least-via-else-entry-least+else-entry-len+then-not-is_at_block w ↦
            let block = placed.blocks i entry within in
            let at : IsAtBlock session.length c.block_sizes-sizes.result.now entry.sample =
            subst (λ (sizes : List ℕ). IsAtBlock session.length sizes entry.sample) (sym c.block_sizes-sizes.ensures.sizes) (subst (IsAtBlock session.length (content_of session).pattern) (sym sample) block) in
            both_ways w.is_at_block.result w.if-not-is_at_block.true (w.is_at_block.ensures.1 at)
      ]),
    )

pub loop-entry-preserved : goal.loop-entry-preserved
loop-entry-preserved c =
    let session = c.args.session.now in
    let entries = c.args.entries.now in
    let i = c.loop-entry.entry-index in
    let entry = c.entry-item.result in
    let kept = c.loop-entry.invariant in
    let within : i < length entries = omega (arith, c.loop-entry-test.true) in
    let is : entry ≡ get_or entries i entry = c.entry-item.is in
    let sample : entry.sample ≡ (get_or entries i entry).sample = ap (λ (e : Entry). e.sample) is in
    let editor : entry.editor ≡ (get_or entries i entry).editor = ap (λ (e : Entry). e.editor) is in
    let at : IsAtBlock session.length (content_of session).pattern entry.sample =
    subst (λ (sizes : List ℕ). IsAtBlock session.length sizes entry.sample) c.block_sizes-sizes.ensures.sizes (c.is_at_block.ensures.0 c.if-not-is_at_block.false) in
    let least : c.loop-entry.least ≤ (get_or entries i entry).sample = omega (arith, c.if-entry-least.false, sample) in
    let above = above_more entries i c.loop-entry.least entry within kept.above least in
    record {
      placed =
          placed_more session.length (content_of session).pattern (length session.scripts.items) entries i entry within (λ k e lt. above k e (omega (arith, lt))) (subst (IsAtBlock session.length (content_of session).pattern) sample at)
          (omega (arith, editor, c.if-entry-len.false, c.len.ensures, session.scripts.ok.0)) kept.placed;
      above = λ k d lt. let here = above k d lt in omega (arith, here, sample);
      last = λ d some.
          let same : i + 1 - 1 ≡ i = omega arith in
          ap (λ (e : Entry). e.sample) (get_or_read entries i entry within is d) ∙ ap (λ n. (get_or entries n d).sample) (sym same);
      first = λ none. absurd (omega (arith, none));
    }
