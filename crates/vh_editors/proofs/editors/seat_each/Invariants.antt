use Rattle.std.proofs.Common.{◌≡◌, ◌<◌, ◌++◌, ℕ, length, map, take, get_or, vec_capacity}
use Rattle.std.specs.Vec.Iter.{into_iter_items}
use Rattle.vh_editors.specs.declared.editor.Editor.{Editor}
use Rattle.vh_editors.specs.Gathered.{script_in}
use Rattle.vh_editors.proofs.editors.seat_each.Given as goal

abbrev pub invariant-loop-desk : goal.invariant-loop-desk
invariant-loop-desk l = record {
  next : (goal.iterator-loop-desk).can_next l.desk-iterator;
  ends : (goal.iterator-loop-desk).is_finite l.desk-iterator;
  desks : map (λ (editor : Editor). editor.desk) l.list.items ++ into_iter_items l.desk-iterator ≡ l.fn.desks.items;
  scripts : map script_in l.list.items ≡ map (λ script. script.items) (take (length l.list.items) l.scripts);
  numbers : (k : ℕ) (d : Editor) → k < length l.list.items → (get_or l.list.items k d).number ≡ k;
  capacity : vec_capacity l.list ≡ vec_capacity l.initial.list;
}
