-- A legal journal keeps the rules that every journal keeps.
use Rattle.std.proofs.Common.{◌≡◌, ◌∙◌, ◌⊎◌, inl, inr, ℕ, suc, ◌+◌, ◌<◌, ◌≤◌, Bool, true, false, ◌==◌, nat_le, cond, List, [], ◌∷◌, ◌++◌, length, map, filter, get_or, refl, sym, ap, subst, arith}
use Rattle.std.specs.Prelude.{All, Vec}
use Rattle.std.specs.declared.alloc.Global.{Global}
use Rattle.std.specs.List.{AllByRecursion, enumerate_from}
use Rattle.std.proofs.lemmas.Bool.{eq-eqb, ne_eqb, le-leb, lt-leb, cases_order}
use Rattle.std.proofs.lemmas.List.{append_assoc, map-append, length-map, length-append, get_or_at, get_or_append_left}
use Rattle.std.proofs.lemmas.List.Elements.{filter-append, recursion_from_All}
use Rattle.std.proofs.lemmas.List.FromFn.{length-enumerate_from}
use Rattle.vh_params.specs.declared.command.Command.{Command}
use Rattle.vh_params.specs.declared.command.Word.{Word}
use Rattle.vh_params.specs.Nodes.{Node, nodes_of}
use Rattle.vh_gesture.specs.Rules.{NamesNode}
use Rattle.vh_gesture.specs.Scripts.{edits}
use Rattle.vh_journal.specs.declared.entry.Entry.{Entry}
use Rattle.vh_session.specs.declared.session.Session.{Session}
use Rattle.vh_session.specs.Keeps.{EachBehind, word_count}
use Rattle.vh_session.specs.Names.{content_of}
use Rattle.vh_session.specs.View.{script_text, script_word}
use Rattle.vh_session.proofs.PartsNamed.{names_nodes}
use Rattle.vh_legal.specs.Legal.{is_by, by_editor, numbered, HasPlayed, scripts_of, script_at, IsLegalFor}
use Rattle.vh_legal.specs.Journals.{commands_of, MayStandBehind}
use Rattle.vh_legal.specs.Laws.{LegalIsJournal}
use Rattle.vh_legal.proofs.Accepting.{same_head, same_tail, edit_fits, few_edits}
use Rattle.vh_legal.proofs.Scripts.{text_of, names_at, count_of_scripts}

-- what holds of each entry and those before it
behind_from : {A : Type 0} (Stands : List A → A → Type 0) (whole : List A) → ((before : List A) (x : A) (later : List A) → before ++ x ∷ later ≡ whole → Stands before x)
    → (before xs : List A) → before ++ xs ≡ whole → EachBehind Stands before xs
behind_from Stands whole each before [] is = tt
behind_from Stands whole each before (x ∷ xs) is = (each before x xs is, behind_from Stands whole each (before ++ x ∷ []) xs (append_assoc before (x ∷ []) xs ∙ is))

pair_parts : (a c : ℕ) (b d : Command) (xs ys : List (ℕ × Command)) → (a, b) ∷ xs ≡ (c, d) ∷ ys → (a ≡ c) × (b ≡ d) × (xs ≡ ys)
pair_parts a c b d xs ys is =
    let head : (a, b) ≡ (c, d) = same_head (a, b) (c, d) xs ys is in
    (ap (λ (p : ℕ × Command). p.0) head, ap (λ (p : ℕ × Command). p.1) head, same_tail (a, b) (c, d) xs ys is)

no_pair : (p : ℕ × Command) (xs : List (ℕ × Command)) → p ∷ xs ≡ [] → ⊥
no_pair p xs is = cc

-- an entry behind others of its editor carries the next of the edits, and its number
record IsNext (edits : List Command) (start : ℕ) (own : List Entry) (entry : Entry) : Type 0 where
  number : entry.seq ≡ start + length own
  rest : List Command
  edits_are : edits ≡ commands_of own ++ entry.command ∷ rest

next_is : (edits : List Command) (start : ℕ) (own : List Entry) (entry : Entry) (later : List Entry) → map numbered (own ++ entry ∷ later) ≡ enumerate_from start edits → IsNext edits start own entry
next_is [] start [] entry later is = absurd (no_pair (numbered entry) (map numbered later) is)
next_is [] start (first ∷ own) entry later is = absurd (no_pair (numbered first) (map numbered (own ++ entry ∷ later)) is)
next_is (edit ∷ edits) start [] entry later is =
    let parts = pair_parts entry.seq start entry.command edit (map numbered later) (enumerate_from (start + 1) edits) is in
    record { number = omega (arith, parts.0); rest = edits; edits_are = ap (λ (c : Command). c ∷ edits) (sym parts.1) }
next_is (edit ∷ edits) start (first ∷ own) entry later is =
    let parts = pair_parts first.seq start first.command edit (map numbered (own ++ entry ∷ later)) (enumerate_from (start + 1) edits) is in
    let next = next_is edits (start + 1) own entry later parts.2 in
    record {
      number = omega (arith, next.number);
      rest = next.rest;
      edits_are = ap (λ (c : Command). c ∷ edits) (sym parts.1) ∙ ap (λ (cs : List Command). first.command ∷ cs) next.edits_are;
    }

-- the entries of its editor, before an entry, it, and behind it
own_split : (before : List Entry) (entry : Entry) (later : List Entry) → by_editor entry.editor (before ++ entry ∷ later) ≡ by_editor entry.editor before ++ entry ∷ by_editor entry.editor later
own_split before entry later =
    filter-append (is_by entry.editor) before (entry ∷ later)
    ∙ ap (λ t. by_editor entry.editor before ++ cond t (entry ∷ by_editor entry.editor later) (by_editor entry.editor later)) (eq-eqb entry.editor entry.editor refl)

-- the entries of editors from this one on
abbrev from_editor : ℕ → List Entry → List Entry
from_editor start entries = filter (λ entry. nat_le start entry.editor) entries

abbrev is_from : ℕ → Entry → Bool
is_from start entry = nat_le start entry.editor

one_editor : (start : ℕ) (entries : List Entry) → length (from_editor start entries) ≡ length (by_editor start entries) + length (from_editor (start + 1) entries)
one_editor start [] = refl
one_editor start (entry ∷ entries) =
    let rest = one_editor start entries in
    let Goal : Bool → Bool → Bool → Type 0 = λ from by behind.
    length (cond from (entry ∷ from_editor start entries) (from_editor start entries))
    ≡ length (cond by (entry ∷ by_editor start entries) (by_editor start entries)) + length (cond behind (entry ∷ from_editor (start + 1) entries) (from_editor (start + 1) entries)) in
    let at : (from by behind : Bool) → is_from start entry ≡ from → is_by start entry ≡ by → is_from (start + 1) entry ≡ behind → Goal from by behind → Goal (is_from start entry) (is_by start entry) (is_from (start + 1) entry) =
    λ from by behind e f g goal. subst (λ (t : Bool). Goal t (is_by start entry) (is_from (start + 1) entry)) (sym e) (subst (λ (t : Bool). Goal from t (is_from (start + 1) entry)) (sym f) (subst (λ (t : Bool). Goal from by t) (sym g) goal)) in
    elim (cases_order entry.editor start) [
      | inl same ↦ at true true false (le-leb start entry.editor (omega (arith, same))) (eq-eqb entry.editor start same) (lt-leb (start + 1) entry.editor (omega (arith, same))) (omega (arith, rest))
      | inr apart ↦ elim apart [
        | inl below ↦ at false false false (lt-leb start entry.editor below) (ne_eqb entry.editor start (λ e. omega (arith, e, below))) (lt-leb (start + 1) entry.editor (omega (arith, below))) rest
        | inr above ↦ at true false true (le-leb start entry.editor (omega (arith, above))) (ne_eqb entry.editor start (λ e. omega (arith, e, above))) (le-leb (start + 1) entry.editor (omega (arith, above))) (omega (arith, rest))
      ]
    ]

none_from_here : (start : ℕ) (entries : List Entry) → AllByRecursion (λ entry. entry.editor < start) entries → length (from_editor start entries) ≡ 0
none_from_here start [] all = refl
none_from_here start (entry ∷ entries) all =
    ap (λ t. length (cond t (entry ∷ from_editor start entries) (from_editor start entries))) (lt-leb start entry.editor all.0) ∙ none_from_here start entries all.1

all_from_first : (entries : List Entry) → length (from_editor 0 entries) ≡ length entries
all_from_first [] = refl
all_from_first (entry ∷ entries) =
    ap (λ t. length (cond t (entry ∷ from_editor 0 entries) (from_editor 0 entries))) (le-leb 0 entry.editor (omega arith)) ∙ ap suc (all_from_first entries)

weaker : (P Q : Entry → Type 0) → ((entry : Entry) → P entry → Q entry) → (entries : List Entry) → AllByRecursion P entries → AllByRecursion Q entries
weaker P Q each [] all = tt
weaker P Q each (entry ∷ entries) all = (each entry all.0, weaker P Q each entries all.1)

-- scripts from this editor's on have as many words as there are entries of their editors, or more
few_from : (nodes : List Node) (scripts : List (Vec Word Global)) (start : ℕ) (entries : List Entry)
    → ((k : ℕ) → k < length scripts → HasPlayed nodes (script_at (map text_of scripts) k) (start + k) entries)
    → AllByRecursion (λ entry. entry.editor < start + length scripts) entries
    → length (from_editor start entries) ≤ word_count (map script_text scripts)
few_from nodes [] start entries played within =
    let none = none_from_here start entries (weaker (λ entry. entry.editor < start + 0) (λ entry. entry.editor < start) (λ entry lt. omega (arith, lt)) entries within) in
    omega (arith, none)
few_from nodes (script ∷ scripts) start entries played within =
    let count = length scripts in
    let here : HasPlayed nodes script.items (start + 0) entries = played 0 (omega arith) in
    let long : length (by_editor start entries) ≡ length (edits nodes script.items) =
    ap (λ n. length (by_editor n entries)) (let e : start ≡ start + 0 = omega arith in e)
    ∙ sym (length-map (by_editor (start + 0) entries) numbered) ∙ ap length here ∙ length-enumerate_from 0 (edits nodes script.items) in
    let few = few_edits nodes script.items in
    let same : length (map script_word script.items) ≡ length script.items = length-map script.items script_word in
    let rest = few_from nodes scripts (start + 1) entries
    (λ k lt. subst (λ n. HasPlayed nodes (script_at (map text_of scripts) k) n entries) (let e : start + suc k ≡ start + 1 + k = omega arith in e) (played (suc k) (omega (arith, lt))))
    (weaker (λ entry. entry.editor < start + suc count) (λ entry. entry.editor < start + 1 + count) (λ entry lt. omega (arith, lt)) entries within) in
    let split = one_editor start entries in
    omega (arith, long, few, same, rest, split)

few_entries : (session : Session) (entries : List Entry) → IsLegalFor session entries → length entries ≤ 4096
few_entries session entries legal =
    let scripts = session.scripts.items in
    let count = count_of_scripts session in
    let most = session.keeps.scripts.short in
    let whole = all_from_first entries in
    let each = few_from (nodes_of session.nodes) scripts 0 entries
    (λ k lt. subst (λ n. HasPlayed (nodes_of session.nodes) (script_at (scripts_of session) k) n entries) (let e : k ≡ 0 + k = omega arith in e) (legal.played k (omega (arith, lt, count))))
    (weaker (λ entry. entry.editor < length (scripts_of session)) (λ entry. entry.editor < 0 + length scripts) (λ entry lt. omega (arith, lt, count)) entries
    (recursion_from_All (λ (entry : Entry). entry.editor < length (scripts_of session)) entries legal.editors)) in
    omega (arith, whole, each, most)

-- what holds of all entries holds of one that stands there
at_split : (P : Entry → Type 0) (before : List Entry) (entry : Entry) (later entries : List Entry) → before ++ entry ∷ later ≡ entries → All P entries → P entry
at_split P before entry later entries is all =
    let whole : All P (before ++ entry ∷ later) = subst (All P) (sym is) all in
    subst P (get_or_at before entry later entry (length before) refl) (whole (length before) entry (let long = length-append before (entry ∷ later) in omega (arith, long)))

may_stand : (session : Session) (entries : List Entry) → IsLegalFor session entries → (before : List Entry) (entry : Entry) (later : List Entry) → before ++ entry ∷ later ≡ entries
    → MayStandBehind (nodes_of session.nodes) session.length before entry
may_stand session entries legal before entry later is =
    let nodes = nodes_of session.nodes in
    let scripts = scripts_of session in
    let count = count_of_scripts session in
    let long : length (before ++ entry ∷ later) ≡ length before + suc (length later) = length-append before (entry ∷ later) in
    let few = few_entries session entries legal in
    let size : length (before ++ entry ∷ later) ≡ length entries = ap length is in
    let editor : entry.editor < length scripts = at_split (λ e. e.editor < length scripts) before entry later entries is legal.editors in
    let there : entry.editor < length session.scripts.items = omega (arith, editor, count) in
    let eight = (names_nodes session).few in
    let own = by_editor entry.editor before in
    let played : map numbered (own ++ entry ∷ by_editor entry.editor later) ≡ enumerate_from 0 (edits nodes (script_at scripts entry.editor)) =
    ap (map numbered) (sym (own_split before entry later)) ∙ ap (λ (es : List Entry). map numbered (by_editor entry.editor es)) is ∙ legal.played entry.editor editor in
    let next = next_is (edits nodes (script_at scripts entry.editor)) 0 own entry (by_editor entry.editor later) played in
    let names : All (NamesNode nodes) (script_at scripts entry.editor) = names_at session entry.editor there in
    let fits = edit_fits nodes (script_at scripts entry.editor) (commands_of own) entry.command next.rest (recursion_from_All (NamesNode nodes) (script_at scripts entry.editor) names) next.edits_are in
    record {
      few = omega (arith, long, few, size);
      editor = omega (arith, there, eight);
      within = at_split (λ e. e.sample ≤ session.length) before entry later entries is legal.within;
      rising = λ k d lt.
          let pair = legal.rising k (length before) d lt (omega (arith, long, size)) in
          let one : (get_or entries k d).sample ≡ (get_or before k d).sample = ap (λ (es : List Entry). (get_or es k d).sample) (sym is) ∙ ap (λ (e : Entry). e.sample) (get_or_append_left before (entry ∷ later) d k lt) in
          let other : (get_or entries (length before) d).sample ≡ entry.sample = ap (λ (es : List Entry). (get_or es (length before) d).sample) (sym is) ∙ ap (λ (e : Entry). e.sample) (get_or_at before entry later d (length before) refl) in
          omega (arith, pair, one, other);
      param = fits.param;
      number = omega (arith, next.number);
      turn = fits.turn;
    }

pub law_legal_is_journal : LegalIsJournal
law_legal_is_journal session entries legal = behind_from (MayStandBehind (nodes_of session.nodes) session.length) entries (may_stand session entries legal) [] entries refl
