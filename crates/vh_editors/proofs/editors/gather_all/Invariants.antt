use Rattle.std.proofs.Common.{◌≡◌, ◌≤◌, ◌+◌, ◌++◌, length, map, vec_capacity}
use Rattle.std.specs.Prelude.{All}
use Rattle.std.specs.Vec.Iter.{into_iter_items}
use Rattle.vh_editors.specs.Gathered.{listed, refused_at}
use Rattle.vh_editors.proofs.editors.gather_all.Given as goal

abbrev pub invariant-loop-editor : goal.invariant-loop-editor
invariant-loop-editor l = record {
  next : (goal.iterator-loop-editor).can_next l.editor-iterator;
  ends : (goal.iterator-loop-editor).is_finite l.editor-iterator;
  same : l.drain ≡ record l.fn.drain { lists = l.drain.lists };
  lists : l.drain.lists ++ listed (into_iter_items l.editor-iterator) ≡ l.fn.drain.lists ++ listed l.fn.editors.items;
  refused : l.refused.items ++ map refused_at (into_iter_items l.editor-iterator) ≡ l.fn.refused.items ++ map refused_at l.fn.editors.items;
  inbox : All (λ editor. editor.desk.inbox ≡ l.fn.drain.inbox) (into_iter_items l.editor-iterator);
  room : length l.refused.items + length (into_iter_items l.editor-iterator) ≤ vec_capacity l.refused;
}
