use Rattle.std.proofs.Common.{◌≢◌, ℕ, ◌<◌, get_or}
use Rattle.vh_params.specs.declared.class.ClassInfo.{ClassInfo}
use Rattle.vh_params.specs.Short.{label_text}
use Rattle.vh_params.proofs.class.Classes.find.Given as goal

abbrev pub invariant-loop-i : goal.invariant-loop-i
invariant-loop-i l = (class : ℕ) (d : ClassInfo) → class < l.i → label_text (get_or l.self.list.items class d).name ≢ l.name
