-- The front of a journal that is begun.
use Rattle.std.proofs.Common.{◌≡◌, ◌∙◌, ℕ, ◌<◌, ◌≤◌, List, ◌++◌, length, map, take, get_or, sym, ap, subst, arith}
use Rattle.std.specs.Prelude.{All}
use Rattle.std.specs.List.{enumerate_from}
use Rattle.std.proofs.lemmas.List.{length-append, length-map, map-append, get_or_append_left, take-append-le, take-take, take_all}
use Rattle.std.proofs.lemmas.List.Elements.{filter-append}
use Rattle.vh_params.specs.Nodes.{Node}
use Rattle.vh_params.specs.declared.command.Word.{Word}
use Rattle.vh_gesture.specs.Scripts.{edits}
use Rattle.vh_journal.specs.declared.entry.Entry.{Entry}
use Rattle.vh_legal.specs.Blocks.{IsAtBlock}
use Rattle.vh_legal.specs.Legal.{is_by, by_editor, numbered, script_at}
use Rattle.vh_editors.specs.Journals.{HasBegun}
use Rattle.vh_editors.specs.Laws.{FrontIsBegun}

-- what holds of all holds of a front
all_front : (P : Entry → Type 0) (xs ys : List Entry) → All P (xs ++ ys) → All P xs
all_front P xs ys all k d lt = let long = length-append xs ys in subst P (get_or_append_left xs ys d k lt) (all k d (omega (arith, lt, long)))

taken_twice : {A : Type 0} (n m : ℕ) (xs : List A) → n ≤ m → take n (take m xs) ≡ take n xs
taken_twice n m xs le = take-take n m xs le

begun_front : (nodes : List Node) (script : List Word) (editor : ℕ) (xs ys : List Entry) → HasBegun nodes script editor (xs ++ ys) → HasBegun nodes script editor xs
begun_front nodes script editor xs ys has =
    let all = enumerate_from 0 (edits nodes script) in
    let own = by_editor editor xs in
    let rest = by_editor editor ys in
    let split : by_editor editor (xs ++ ys) ≡ own ++ rest = filter-append (is_by editor) xs ys in
    let whole : map numbered own ++ map numbered rest ≡ take (length (own ++ rest)) all =
    sym (map-append numbered own rest) ∙ ap (map numbered) (sym split) ∙ has ∙ ap (λ (es : List Entry). take (length es) all) split in
    let long = length-map own numbered in
    let more = length-append own rest in
    sym (take-append-le (length own) (map numbered own) (map numbered rest) (omega (arith, long)) ∙ take_all (length own) (map numbered own) (omega (arith, long)))
    ∙ ap (take (length own)) whole ∙ taken_twice (length own) (length (own ++ rest)) all (omega (arith, more))

pub law_front_is_begun : FrontIsBegun
law_front_is_begun nodes samples pattern scripts xs ys is =
    let long = length-append xs ys in
    record {
      rising = λ i j d lt within.
          let pair = is.rising i j d lt (omega (arith, within, long)) in
          let one : (get_or (xs ++ ys) i d).sample ≡ (get_or xs i d).sample = ap (λ (e : Entry). e.sample) (get_or_append_left xs ys d i (omega (arith, lt, within))) in
          let other : (get_or (xs ++ ys) j d).sample ≡ (get_or xs j d).sample = ap (λ (e : Entry). e.sample) (get_or_append_left xs ys d j within) in
          omega (arith, pair, one, other);
      within = all_front (λ (e : Entry). e.sample ≤ samples) xs ys is.within;
      blocks = all_front (λ (e : Entry). IsAtBlock samples pattern e.sample) xs ys is.blocks;
      editors = all_front (λ (e : Entry). e.editor < length scripts) xs ys is.editors;
      begun = λ editor lt. begun_front nodes (script_at scripts editor) editor xs ys (is.begun editor lt);
    }
