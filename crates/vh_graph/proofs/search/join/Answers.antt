use Rattle.std.proofs.Common.{rules, ◌≡◌, ◌<◌, ◌-◌, length, get_or, take}
use Rattle.vh_graph.specs.declared.search.Part.{Part}
use Rattle.vh_graph.proofs.Kept.{popped_parts}
use Rattle.vh_graph.proofs.search.join.Goals as goal

pub loop-part-preserved : goal.loop-part-preserved
loop-part-preserved c =
    let all = c.args.parts.now.items in
    let kept = c.loop-part.invariant in
    let now : c.pop.new.self.items ≡ take (length c.loop-part.parts.items - 1) c.loop-part.parts.items = search rules in
    let some : 0 < length c.loop-part.parts.items = search rules in
    let behind : (d : Part) → c.args.place < (get_or c.loop-part.parts.items (length c.loop-part.parts.items - 1) d).node = search rules in
    popped_parts c.args.place all c.loop-part.parts.items c.pop.new.self.items kept now some behind
