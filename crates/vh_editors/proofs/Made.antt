-- Editors as they are made, one after another.
use Rattle.std.proofs.Common.{◌≡◌, ◌∙◌, ℕ, zero, suc, ◌-◌, ◌<◌, ◌≤◌, ⊎_elim, false, List, [], ◌∷◌, ◌++◌, length, map, get_or, refl, sym, ap, subst, arith, Vec, Global}
use Rattle.std.specs.Prelude.{All, sum, replicate}
use Rattle.std.proofs.lemmas.Bool.{cases_lt}
use Rattle.std.proofs.lemmas.List.{length-append, length-map, length-replicate, get_or-map, get_or_append_left, get_or-append_right, get_or-replicate, same_lists}
use Rattle.std.proofs.lemmas.List.Sums.{sum_by-cons}
use Rattle.vh_params.specs.Nodes.{Node, nodes_of}
use Rattle.vh_params.specs.declared.command.Word.{Word}
use Rattle.vh_params.specs.declared.command.Word.TheVariants.{Edit, Hold, Unhold, Wait}
use Rattle.vh_gesture.specs.Rules.{NamesNode}
use Rattle.vh_gesture.specs.Scripts.{commands}
use Rattle.vh_session.specs.declared.session.Session.{Session}
use Rattle.vh_session.specs.Keeps.{word_count}
use Rattle.vh_session.specs.View.{script_text, script_word}
use Rattle.vh_legal.proofs.Scripts.{script_names}
use Rattle.vh_inbox.specs.Values.{TableId, AtDesk, new_desk}
use Rattle.vh_editors.specs.declared.editor.Editor.{Editor}
use Rattle.vh_editors.specs.Gathered.{script_in, ArePlaced}
use Rattle.vh_editors.specs.Scripts.{quotas_of}
use Rattle.vh_editors.specs.Seats.{inbox_in, AreSeated}

-- one more editor, whose number is its place
pub numbers_more : (old new : List Editor) (editor : Editor) → new ≡ old ++ editor ∷ [] → editor.number ≡ length old → ((k : ℕ) (d : Editor) → k < length old → (get_or old k d).number ≡ k)
    → (k : ℕ) (d : Editor) → k < length new → (get_or new k d).number ≡ k
numbers_more old new editor is number before k d within =
    let long = ap length is in
    let sum = length-append old (editor ∷ []) in
    ap (λ (l : List Editor). (get_or l k d).number) is
    ∙ ⊎_elim
    (λ (less : k < length old). ap (λ (e : Editor). e.number) (get_or_append_left old (editor ∷ []) d k less) ∙ before k d less)
    (λ (past : length old ≤ k).
    let here : k ≡ length old = omega (arith, within, long, sum, past) in
    let first : k - length old ≡ 0 = omega (arith, here) in
    ap (λ (e : Editor). e.number) (get_or-append_right old (editor ∷ []) (length old) k d refl past ∙ ap (λ (n : ℕ). get_or (editor ∷ []) n d) first) ∙ number ∙ sym here)
    (cases_lt k (length old))

-- a script has no more words than all scripts, and no more commands than words
few_words : (scripts : List (Vec Word Global)) (k : ℕ) (d : Vec Word Global) → k < length scripts → length (get_or scripts k d).items ≤ word_count (map script_text scripts)
few_words [] k d within = absurd (omega (arith, within))
few_words (script ∷ scripts) zero d within = let long = length-map script.items script_word in omega (arith, long)
few_words (script ∷ scripts) (suc k) d within = let rest = few_words scripts k d (omega (arith, within)) in omega (arith, rest)

fewer_commands : (words : List Word) → length (commands words) ≤ length words
fewer_commands [] = omega arith
fewer_commands (Edit command ∷ words) = let rest = fewer_commands words in omega (arith, rest)
fewer_commands (Hold node ∷ words) = let rest = fewer_commands words in omega (arith, rest)
fewer_commands (Unhold node ∷ words) = let rest = fewer_commands words in omega (arith, rest)
fewer_commands (Wait block ∷ words) = let rest = fewer_commands words in omega (arith, rest)

all_commands : (scripts : List (Vec Word Global)) → sum (quotas_of (map (λ (script : Vec Word Global). script.items) scripts)) ≤ word_count (map script_text scripts)
all_commands [] = omega arith
all_commands (script ∷ scripts) =
    let rest = all_commands scripts in
    let few = fewer_commands script.items in
    let long = length-map script.items script_word in
    let more = sum_by-cons (λ (n : ℕ). n) (length (commands script.items)) (quotas_of (map (λ (s : Vec Word Global). s.items) scripts)) in
    omega (arith, rest, few, long, more)

pub short_scripts : (session : Session) (k : ℕ) (d : Vec Word Global) → k < length session.scripts.items → length (get_or session.scripts.items k d).items ≤ 4096
short_scripts session k d within = let few = few_words session.scripts.items k d within in let most = session.keeps.scripts.short in omega (arith, few, most)

pub short_quotas : (session : Session) → sum (quotas_of (map (λ (script : Vec Word Global). script.items) session.scripts.items)) ≤ 4096
short_quotas session = let few = all_commands session.scripts.items in let most = session.keeps.scripts.short in omega (arith, few, most)

-- editors of these scripts at new desks
module _ (session : Session) (nodes : List Node) (inbox : TableId) (capacity : ℕ) (quotas : List ℕ) (desks : List AtDesk) (list : List Editor)
    (nodes_are : nodes ≡ nodes_of session.nodes) (quotas_are : quotas ≡ quotas_of (map (λ (script : Vec Word Global). script.items) session.scripts.items))
    (scripts : map script_in list ≡ map (λ (script : Vec Word Global). script.items) session.scripts.items) (room : sum quotas ≤ capacity)
    (desks_are : (k : ℕ) (d : AtDesk) → k < length quotas → get_or desks k d ≡ new_desk inbox capacity quotas nodes k) (placed : ArePlaced desks list) where
  own : quotas ≡ quotas_of (map script_in list)
  own = quotas_are ∙ ap quotas_of (sym scripts)

  count : length list ≡ length session.scripts.items
  count =
      let one = length-map list script_in in
      let other = length-map session.scripts.items (λ (script : Vec Word Global). script.items) in
      let same = ap length scripts in
      omega (arith, one, other, same)

  at_desk : (k : ℕ) (d : Editor) → k < length list → (get_or list k d).desk ≡ new_desk inbox capacity quotas nodes k
  at_desk k d within =
      let long = ap length own in
      let one = length-map list script_in in
      let each = length-map (map script_in list) (λ (script : List Word). length (commands script)) in
      (placed k d within).1 ∙ desks_are k d.desk (omega (arith, within, long, one, each))

  pub seats_made : AreSeated nodes (map script_in list) false list
  seats_made k d within =
      let editor = get_or list k d in
      let at = at_desk k d within in
      let counted = count in
      let there : k < length session.scripts.items = omega (arith, within, counted) in
      let v : Vec Word Global = get_or session.scripts.items k editor.script in
      let text : editor.script.items ≡ v.items =
      sym (get_or-map script_in list k d [] within) ∙ ap (λ (ss : List (List Word)). get_or ss k []) scripts ∙ get_or-map (λ (script : Vec Word Global). script.items) session.scripts.items k editor.script [] there in
      let same = ap (λ (desk : AtDesk). desk.capacity) at in
      let sums = ap sum own in
      let short = short_scripts session k editor.script there in
      let long = ap length text in
      record {
        number_is = (placed k d within).0;
        desk = at ∙ ap (λ (qs : List ℕ). new_desk inbox capacity qs nodes k) own ∙ ap (λ (desk : AtDesk). new_desk desk.inbox desk.capacity (quotas_of (map script_in list)) nodes k) (sym at);
        names = subst (λ (words : List Word). All (NamesNode nodes) words) (sym text) (subst (λ (ns : List Node). All (NamesNode ns) v.items) (sym nodes_are) (script_names session k editor.script there));
        short = omega (arith, short, long);
        capacity = omega (arith, sums, room, same);
      }

  pub inboxes_made : map inbox_in list ≡ replicate (length (map script_in list)) inbox
  inboxes_made =
      let one = length-map list inbox_in in
      let other = length-map list script_in in
      let size = length-replicate (length (map script_in list)) inbox in
      same_lists (map inbox_in list) (replicate (length (map script_in list)) inbox) (omega (arith, one, other, size)) (λ k d lt. here list k d (omega (arith, lt, one)) at_desk)
    where
      here : (l : List Editor) (k : ℕ) (d : TableId) → k < length l → ((j : ℕ) (e : Editor) → j < length l → (get_or l j e).desk ≡ new_desk inbox capacity quotas nodes j)
          → get_or (map inbox_in l) k d ≡ get_or (replicate (length (map script_in l)) inbox) k d
      here [] k d lt at = absurd (omega (arith, lt))
      here (first ∷ rest) k d lt at =
          let l = first ∷ rest in
          let long = length-map l script_in in
          get_or-map inbox_in l k first d lt ∙ ap (λ (desk : AtDesk). desk.inbox) (at k first lt) ∙ sym (get_or-replicate (length (map script_in l)) k inbox d (omega (arith, lt, long)))
