use Rattle.std.proofs.Common.{◌∙◌, ◌*◌, ℤ, List, length, sym, ap}
use Rattle.vh_wav.specs.InMemory.{AtListFrames}
use Rattle.vh_wav.proofs.InMemory.{length-interleaved}
use Rattle.vh_wav.proofs.list_frames.ListFrames.pushed.Goals as goal

pub returns-clause-long : goal.returns-clause-long
returns-clause-long c =
    let inside = c.self.inside in
    let count = length-interleaved inside.channels inside.count inside.outs.items c.self.invariant.channels c.self.invariant.added in
    ap (λ (xs : List ℤ). length xs) c.deref.ensures.value ∙ c.self.invariant.added ∙ ap (λ n. inside.channels * n) (sym count)
    ∙ ap (λ (seen : AtListFrames). seen.channels * length seen.added) c.self.view_is
