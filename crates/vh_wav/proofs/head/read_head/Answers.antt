use Rattle.std.proofs.Common.{◌≡◌, ℕ, ◌+◌, ◌-◌, ◌%◌, ◌<◌, ◌≤◌, drop, Option, Some, None, Result, Ok, Err, sym, ap, subst, ◌∙◌, refl, arith}
use Rattle.std.specs.Option.{IfSome}
use Rattle.vh_files.specs.Fields.{field_at}
use Rattle.vh_files.specs.Store.{told}
use Rattle.vh_files.proofs.Chains.{OnlyRead-then}
use Rattle.vh_wav.specs.declared.chunk.Chunk.{Chunk as Seen}
use Rattle.vh_wav.specs.declared.head.Judged.{Judged}
use Rattle.vh_wav.specs.declared.head.WavFault.{WavFault}
use Rattle.vh_wav.specs.Chunks.{chunks_after}
use Rattle.vh_wav.specs.Judged.{wav_head}
use Rattle.vh_wav.specs.Heads.{IsRead, IsLawful, continued}
use Rattle.vh_wav.proofs.Walk.{walk_begins, no_marks, walk_ends, walk_goes, walk_over, verdict_of}
use Rattle.vh_wav.proofs.head.read_head.Goals as goal

pub walk-init : goal.walk-init
walk-init g c = (
  c.in_ok-has_marks.ensures.long c.if-not-branch.false,
  tt,
  λ bytes e. walk_begins bytes (sym (c.in_ok-has_marks.ensures.value bytes e) ∙ c.if-not-branch.false),
  c.in_ok-has_marks.ensures.only_read,
)

pub returns-then-not-branch-clause-verdict : goal.returns-then-not-branch-clause-verdict
returns-then-not-branch-clause-verdict g c = λ bytes e. no_marks bytes (sym (c.in_ok-has_marks.ensures.value bytes e) ∙ c.if-not-branch.true)

pub returns-in-None-clause-verdict : goal.returns-in-None-clause-verdict
returns-in-None-clause-verdict g c = λ bytes e.
    let here : told (g.F.Files.held c.walk.files) c.args.name.now ≡ Some bytes = ap (λ h. told h c.args.name.now) c.walk.invariant.3.held ∙ e in
    let P : Option Seen → Type 0 = λ o. IsRead bytes c.walk.at (Ok o) in
    let read : IsRead bytes c.walk.at (Ok None) = subst P c.in-None.is (c.in_ok-chunk.ensures.value bytes here) in
    walk_ends bytes c.walk.at c.walk.format (c.walk.invariant.2 bytes e) read ∙ ap (λ f. Err f) (sym c.missing.ensures)

pub returns-in_err-head-clause-verdict : goal.returns-in_err-head-clause-verdict
returns-in_err-head-clause-verdict g c = λ bytes e.
    let here : told (g.F.Files.held c.walk.files) c.args.name.now ≡ Some bytes = ap (λ h. told h c.args.name.now) c.walk.invariant.3.held ∙ e in
    let P : Option Seen → Type 0 = λ o. IsRead bytes c.walk.at (Ok o) in
    let read : IsRead bytes c.walk.at (Ok (Some c.in-Some.chunk)) = subst P c.in-Some.is (c.in_ok-chunk.ensures.value bytes here) in
    let fault : Result Judged WavFault = Err c.in_err-head.field-0.0 in
    let next : ℕ = c.in-Some.chunk.at + (field_at c.in-Some.chunk.bytes 4 4 + field_at c.in-Some.chunk.bytes 4 4 % 2) in
    let goes : continued fault (chunks_after 0 next (drop next bytes)) ≡ wav_head bytes = walk_goes bytes c.walk.at c.walk.format (c.walk.invariant.2 bytes e) c.in-Some.chunk fault read c.in_err-head.ensures.value next refl in
    verdict_of c.from_residual-in_err-head.result c.in_err-head.field-0.0 (wav_head bytes) (sym goes) c.from_residual-in_err-head.ensures.1

pub returns-in-Found-clause-verdict : goal.returns-in-Found-clause-verdict
returns-in-Found-clause-verdict g c = λ bytes e.
    let here : told (g.F.Files.held c.walk.files) c.args.name.now ≡ Some bytes = ap (λ h. told h c.args.name.now) c.walk.invariant.3.held ∙ e in
    let P : Option Seen → Type 0 = λ o. IsRead bytes c.walk.at (Ok o) in
    let read : IsRead bytes c.walk.at (Ok (Some c.in-Some.chunk)) = subst P c.in-Some.is (c.in_ok-chunk.ensures.value bytes here) in
    let next : ℕ = c.in-Some.chunk.at + (field_at c.in-Some.chunk.bytes 4 4 + field_at c.in-Some.chunk.bytes 4 4 % 2) in
    let goes = walk_goes bytes c.walk.at c.walk.format (c.walk.invariant.2 bytes e) c.in-Some.chunk (Ok c.in_ok-head.field-0) read c.in_ok-head.ensures.value next refl in
    let Q : Judged → Type 0 = λ j. continued (Ok j) (chunks_after 0 next (drop next bytes)) ≡ wav_head bytes in
    sym (subst Q c.in-Found.is goes)

pub returns-then-length-size-clause-verdict : goal.returns-then-length-size-clause-verdict
returns-then-length-size-clause-verdict g c = λ bytes e.
    let here : told (g.F.Files.held c.walk.files) c.args.name.now ≡ Some bytes = ap (λ h. told h c.args.name.now) c.walk.invariant.3.held ∙ e in
    let P : Option Seen → Type 0 = λ o. IsRead bytes c.walk.at (Ok o) in
    let read : IsRead bytes c.walk.at (Ok (Some c.in-Some.chunk)) = subst P c.in-Some.is (c.in_ok-chunk.ensures.value bytes here) in
    let size : c.from-length.result ≡ field_at c.in-Some.chunk.bytes 4 4 = c.from-length.ensures ∙ c.size.ensures in
    let next : ℕ = c.in-Some.chunk.at + (field_at c.in-Some.chunk.bytes 4 4 + field_at c.in-Some.chunk.bytes 4 4 % 2) in
    let goes = walk_goes bytes c.walk.at c.walk.format (c.walk.invariant.2 bytes e) c.in-Some.chunk (Ok c.in_ok-head.field-0) read c.in_ok-head.ensures.value next refl in
    let Q : Judged → Type 0 = λ j. continued (Ok j) (chunks_after 0 next (drop next bytes)) ≡ wav_head bytes in
    let rest = subst Q c.in-Walk.is goes in
    let short : c.args.size - (c.in-Some.chunk.at + c.from-length.result) < c.from-length.result % 2 = c.if-length-size.true in
    let whole = c.requires.size bytes e in
    let R : ℕ → Type 0 = λ n. c.args.size - (c.in-Some.chunk.at + n) < n % 2 in
    let over = subst R size short in
    walk_over bytes c.in-Walk.next next (omega (arith, over)) rest ∙ ap (λ f. Err f) (sym c.missing-then-length-size.ensures)

pub walk-preserved : goal.walk-preserved
walk-preserved g c = (
  (let P : Option Seen → Type 0 = λ o. IfSome o (λ seen. (seen.at ≡ c.walk.at + 8) × (seen.at + field_at seen.bytes 4 4 ≤ c.args.size)) in
      let fits = subst P c.in-Some.is c.in_ok-chunk.ensures.fits in
      let size : c.from-length.result ≡ field_at c.in-Some.chunk.bytes 4 4 = c.from-length.ensures ∙ c.size.ensures in
      let Q : ℕ → Type 0 = λ n. c.in-Some.chunk.at + n ≤ c.args.size in
      let ends : c.in-Some.chunk.at + c.from-length.result ≤ c.args.size = subst Q (sym size) fits.1 in
      let pad : c.from-length.result % 2 ≤ c.args.size - (c.in-Some.chunk.at + c.from-length.result) = c.if-length-size.false in
      omega (arith, ends, pad)),
  (let Q : Judged → Type 0 = λ j. IsLawful (c.in-Some.chunk.at + field_at c.in-Some.chunk.bytes 4 4) j in subst Q c.in-Walk.is c.in_ok-head.ensures.lawful),
  λ bytes e.
      let here : told (g.F.Files.held c.walk.files) c.args.name.now ≡ Some bytes = ap (λ h. told h c.args.name.now) c.walk.invariant.3.held ∙ e in
      let P : Option Seen → Type 0 = λ o. IsRead bytes c.walk.at (Ok o) in
      let read : IsRead bytes c.walk.at (Ok (Some c.in-Some.chunk)) = subst P c.in-Some.is (c.in_ok-chunk.ensures.value bytes here) in
      let size : c.from-length.result ≡ field_at c.in-Some.chunk.bytes 4 4 = c.from-length.ensures ∙ c.size.ensures in
      let next : ℕ = c.in-Some.chunk.at + c.from-length.result + c.from-length.result % 2 in
      let same : next ≡ c.in-Some.chunk.at + (field_at c.in-Some.chunk.bytes 4 4 + field_at c.in-Some.chunk.bytes 4 4 % 2) = (let assoc : next ≡ c.in-Some.chunk.at + (c.from-length.result + c.from-length.result % 2) = omega arith in assoc ∙ ap (λ n. c.in-Some.chunk.at + (n + n % 2)) size) in
      let goes = walk_goes bytes c.walk.at c.walk.format (c.walk.invariant.2 bytes e) c.in-Some.chunk (Ok c.in_ok-head.field-0) read c.in_ok-head.ensures.value next same in
      let Q : Judged → Type 0 = λ j. continued (Ok j) (chunks_after 0 next (drop next bytes)) ≡ wav_head bytes in
      subst Q c.in-Walk.is goes,
  OnlyRead-then _ _ _ _ _ _ _ _ _ _ _ _ c.walk.invariant.3 c.in_ok-chunk.ensures.only_read,
)
