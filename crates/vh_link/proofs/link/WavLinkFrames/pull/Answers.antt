use Rattle.std.proofs.Common.{rules, ◌≡◌, ◌∙◌, ℕ, ◌+◌, ◌-◌, min, List, drop, sym, subst}
use Rattle.std.specs.String.{string_bytes}
use Rattle.vh_num.specs.Frames.{Frame}
use Rattle.vh_link.specs.Link.{Link, Reads, HasLeft}
use Rattle.vh_link.proofs.Links.{left_behind}
use Rattle.vh_link.proofs.link.WavLinkFrames.pull.Goals as goal

pub returns-clause-left : goal.returns-clause-left
returns-clause-left g c = λ input left.
    let inside = c.self.inside in
    let P : Link g.row.F.Denot → Type 0 = λ link. Reads g.F.Files.held link input in
    let step : c.min.result ≡ min c.args.n (inside.head.frames - inside.at) = search rules in
    let Q : ℕ → Type 0 = λ k. HasLeft (g.F.Files.held c.read_frames.new.files) (string_bytes inside.input) (string_bytes inside.output) inside.head (inside.at + k) (drop c.args.n input) in
    subst Q (sym step) (left_behind _ _ _ _ inside.head inside.at c.args.n input c.in_ok-read_frames.ensures.only_read.held c.self.invariant.0.within (subst P (sym c.self.view_is) left))
