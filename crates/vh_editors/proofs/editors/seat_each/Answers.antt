use Rattle.std.proofs.Common.{◌≡◌, ◌∙◌, ◌+◌, ◌<◌, ℕ, List, [], ◌∷◌, ◌++◌, length, map, take, get_or, sym, ap, append_assoc, arith, Vec, Global}
use Rattle.std.specs.Vec.Iter.{into_iter_items}
use Rattle.std.proofs.lemmas.List.{length-append, length-map, map-append, take_more, get_or_default}
use Rattle.vh_params.specs.declared.command.Word.{Word}
use Rattle.vh_inbox.specs.Values.{AtDesk}
use Rattle.vh_editors.specs.declared.editor.Editor.{Editor}
use Rattle.vh_editors.specs.Gathered.{script_in}
use Rattle.vh_editors.proofs.Made.{numbers_more}
use Rattle.vh_editors.proofs.editors.seat_each.Goals as goal

pub loop-desk-preserved : goal.loop-desk-preserved
loop-desk-preserved c =
    let inv = c.loop-desk.invariant in
    let old = c.loop-desk.list.items in
    let new = c.push_reserved.new.self.items in
    let desk : AtDesk = c.in-Some.desk in
    let rest = into_iter_items c.next.new.self in
    let step : into_iter_items c.loop-desk.desk-iterator ≡ desk ∷ rest = c.in-Some.ensures.steps.0 in
    let editor : Editor = record { number = c.len-number.result; desk = desk; script = c.in_ok-script.script } in
    let is : new ≡ old ++ editor ∷ [] = c.push_reserved.ensures.items in
    let of_desk : Editor → AtDesk = λ (e : Editor). e.desk in
    let text : Vec Word Global → List Word = λ (script : Vec Word Global). script.items in
    let scripts = c.args.scripts.now in
    let own = length-append (map of_desk old) (desk ∷ rest) in
    let all = ap length (sym (ap (λ (ds : List AtDesk). map of_desk old ++ ds) step) ∙ inv.desks) in
    let made = length-map old of_desk in
    let count = c.requires.count in
    let there : length old < length scripts = omega (arith, own, all, made, count) in
    let number : c.len-number.result ≡ length old = c.len-number.ensures ∙ c.loop-desk.list.ok.0 in
    let read : c.in_ok-script.script.items ≡ (get_or scripts (length old) c.in_ok-script.script).items = c.in_ok-script.ensures.items ∙ c.as_slice.ensures.value ∙ ap text c.index-scripts-number.is
    ∙ ap (λ (n : ℕ). text (get_or scripts n c.index-scripts-number.result)) number ∙ ap text (get_or_default scripts (length old) c.index-scripts-number.result c.in_ok-script.script there) in
    let long : length new ≡ length old + 1 = ap length is ∙ length-append old (editor ∷ []) in
    record {
      next = tt;
      ends = tt;
      desks = ap (λ (es : List Editor). map of_desk es ++ rest) is ∙ ap (λ (ds : List AtDesk). ds ++ rest) (map-append of_desk old (editor ∷ [])) ∙ append_assoc (map of_desk old) (desk ∷ []) rest
          ∙ ap (λ (ds : List AtDesk). map of_desk old ++ ds) (sym step) ∙ inv.desks;
      scripts = ap (λ (es : List Editor). map script_in es) is ∙ map-append script_in old (editor ∷ []) ∙ ap (λ (ss : List (List Word)). ss ++ script_in editor ∷ []) inv.scripts
          ∙ ap (λ (s : List Word). map text (take (length old) scripts) ++ s ∷ []) read
          ∙ sym (map-append text (take (length old) scripts) (get_or scripts (length old) c.in_ok-script.script ∷ [])) ∙ ap (map text) (sym (take_more scripts (length old) c.in_ok-script.script there))
          ∙ ap (λ (n : ℕ). map text (take n scripts)) (sym long);
      numbers = numbers_more old new editor is number inv.numbers;
      capacity = c.push_reserved.ensures.capacity ∙ inv.capacity;
    }
