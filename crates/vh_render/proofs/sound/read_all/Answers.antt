use Rattle.std.proofs.Common.{◌≡◌, ◌≤◌, ◌<◌, ◌+◌, ◌-◌, ℕ, slice_index_or, sym, ap, ◌∙◌, ⊎_elim, arith}
use Rattle.std.proofs.lemmas.Bool.{cases_lt}
use Rattle.vh_files.specs.Store.{told}
use Rattle.vh_files.proofs.Chains.{OnlyRead-then}
use Rattle.vh_num.specs.Frames.{frame_at}
use Rattle.vh_wav.specs.Frames.{frames_in, silence}
use Rattle.vh_render.proofs.sound.read_all.Goals as goal

pub loop-done-preserved : goal.loop-done-preserved
loop-done-preserved g c =
    let inv = c.loop-done.invariant in
    let done = c.loop-done.done in
    let n = c.min-n.result in
    let head = c.args.head.now in
    let least = c.min-n.ensures in (
      omega (arith, c.loop-done-test.true, least),
      (λ bytes e place below. ⊎_elim
          (λ (early : place < done).
          let same : 0 + place ≡ place = omega arith in
          ap (λ k. frame_at head.channels c.args.frames c.place.new.samples k) (sym same)
          ∙ c.place.ensures.before place early
          ∙ ap (λ k. frame_at head.channels c.args.frames c.loop-done.samples k) same
          ∙ inv.1 bytes e place early)
          (λ (late : done ≤ place).
          let here : told (g.F.Files.held c.loop-done.files) c.args.name.now ≡ _ = ap (λ h. told h c.args.name.now) inv.2.held ∙ e in
          let j : ℕ = place - done in
          let spot : done + j ≡ place = omega (arith, late) in
          ap (λ k. frame_at head.channels c.args.frames c.place.new.samples k) (sym spot)
          ∙ c.place.ensures.placed j (omega (arith, spot, below))
          ∙ ap (λ k. frame_at head.channels n c.read_frames.new.out k) (let same : 0 + j ≡ j = omega arith in same)
          ∙ c.in_ok-read_frames.ensures.frames bytes here j (omega (arith, spot, below))
          ∙ ap (λ k. slice_index_or (frames_in bytes head) k (silence head.channels)) spot)
          (cases_lt place done)),
      OnlyRead-then _ _ _ _ _ _ _ _ _ _ _ _ inv.2 c.in_ok-read_frames.ensures.only_read,
    )
