use Rattle.std.proofs.Common.{◌≡◌, ◌∙◌, ℕ, List, [], ◌∷◌, ◌++◌, length, map, sym, ap, subst, append_assoc, arith}
use Rattle.std.specs.Prelude.{All}
use Rattle.std.specs.Vec.Iter.{into_iter_items}
use Rattle.std.proofs.lemmas.List.{length-append}
use Rattle.std.proofs.lemmas.List.Elements.{All-tail}
use Rattle.vh_inbox.specs.declared.rule.DeskList.{DeskList}
use Rattle.vh_inbox.specs.Values.{AtDrain}
use Rattle.vh_editors.specs.declared.editor.Editor.{Editor}
use Rattle.vh_editors.specs.Gathered.{list_in, listed, refused_at}
use Rattle.vh_editors.proofs.editors.gather_all.Goals as goal

pub loop-editor-preserved : goal.loop-editor-preserved
loop-editor-preserved c =
    let inv = c.loop-editor.invariant in
    let editor : Editor = c.in-Some.editor in
    let rest = into_iter_items c.next.new.self in
    let step : into_iter_items c.loop-editor.editor-iterator ≡ editor ∷ rest = c.in-Some.ensures.steps.0 in
    let lists = c.loop-editor.drain.lists in
    let refused = c.loop-editor.refused.items in
    let more = ap (λ (d : AtDrain). d.lists) c.gather.ensures.lists in
    let pushed = c.push_reserved.ensures.items ∙ ap (λ (n : ℕ). refused ++ n ∷ []) c.gather.ensures.refused in
    let long = ap length pushed in
    let sum = length-append refused (refused_at editor ∷ []) in
    let left = ap length step in
    let room = inv.room in
    let capacity = c.push_reserved.ensures.capacity in
    record {
      next = tt;
      ends = tt;
      same = c.gather.ensures.lists ∙ ap (λ (d : AtDrain). record d { lists = lists ++ list_in editor ∷ [] }) inv.same ∙ ap (λ (ls : List DeskList). record c.args.drain.now { lists = ls }) (sym more);
      lists = ap (λ (ls : List DeskList). ls ++ listed rest) more ∙ append_assoc lists (list_in editor ∷ []) (listed rest) ∙ ap (λ (es : List Editor). lists ++ listed es) (sym step) ∙ inv.lists;
      refused = ap (λ (rs : List ℕ). rs ++ map refused_at rest) pushed ∙ append_assoc refused (refused_at editor ∷ []) (map refused_at rest) ∙ ap (λ (es : List Editor). refused ++ map refused_at es) (sym step) ∙ inv.refused;
      inbox = All-tail (λ (e : Editor). e.desk.inbox ≡ c.args.drain.now.inbox) editor rest (subst (λ (es : List Editor). All (λ (e : Editor). e.desk.inbox ≡ c.args.drain.now.inbox) es) step inv.inbox);
      room = omega (arith, long, sum, left, room, capacity);
    }
