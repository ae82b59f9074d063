use Rattle.std.proofs.Common.{rules, ◌≡◌, ◌∙◌, ◌+◌, ◌-◌, min, List, drop, ap}
use Rattle.vh_num.specs.Frames.{Frame}
use Rattle.vh_wav.specs.InMemory.{AtListFrames, interleaved}
use Rattle.vh_wav.proofs.InMemory.{length-interleaved, left_after}
use Rattle.vh_wav.proofs.list_frames.ListFramesFrames.pull.Goals as goal

pub returns-clause-left : goal.returns-clause-left
returns-clause-left c = λ input left.
    let inside = c.self.inside in
    let frames = interleaved inside.channels inside.ins.items in
    let step : c.min.result ≡ min c.args.n (inside.total - inside.at) = search rules in
    ap (λ n. drop (inside.at + n) frames) step
    ∙ left_after frames inside.at c.args.n inside.total (length-interleaved inside.channels inside.total inside.ins.items c.self.invariant.channels c.self.invariant.total) c.self.invariant.at
    ∙ ap (λ (xs : List Frame). drop c.args.n xs) (ap (λ (seen : AtListFrames). seen.left) c.self.view_is ∙ left)
