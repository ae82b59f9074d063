use Rattle.std.proofs.Common.{◌∙◌, ◌≤◌, ℕ, List, length, sym, subst}
use Rattle.vh_gen.proofs.Named.{short_name}
use Rattle.vh_gen.proofs.nodes.name_of.Goals as goal

pub new-requires : goal.new-requires
new-requires c = subst (λ (l : List ℕ). length l ≤ 32) (sym (c.as_bytes.ensures.value ∙ c.in_ok-name.ensures.ok)) (short_name c.args.node c.requires)
