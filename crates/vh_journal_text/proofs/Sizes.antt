-- How long the canonical text may be.
use Rattle.std.proofs.Common.{◌≡◌, ℕ, suc, ◌+◌, ◌*◌, ◌<◌, ◌≤◌, ◌^◌, List, [], ◌∷◌, ◌++◌, map, length, get_or, refl, ap, arith}
use Rattle.std.specs.Prelude.{All, codes}
use Rattle.std.specs.Fmt.{decimal}
use Rattle.std.proofs.lemmas.Fmt.{length-decimal-le}
use Rattle.std.proofs.lemmas.List.{length-append, length-take}
use Rattle.std.proofs.lemmas.List.Elements.{All-tail}
use Rattle.vh_params.specs.Nodes.{Node}
use Rattle.vh_text.specs.Written.{further_text, line_text, lines_text}
use Rattle.vh_text.proofs.Written.{lines_append}
use Rattle.vh_journal_text.specs.Items.{Act, Begins, Performs, Ends, Tells, Item}
use Rattle.vh_journal_text.specs.Keeps.{AreNamed, MayStand, IsBehind, AreEntries}
use Rattle.vh_journal_text.specs.Rules.{no_item}
use Rattle.vh_journal_text.specs.Text.{name_of, act_words, item_words, header_words, close_words, journal_words}
use Rattle.vh_journal_text.proofs.Names.{name_rules}

-- the bytes of words, each with one more
abbrev size : List (List ℕ) → ℕ
size [] = 0
size (word ∷ words) = (length word + 1) + size words

further_size : (words : List (List ℕ)) → length (further_text words) ≡ 1 + size words
further_size [] = refl
further_size (word ∷ words) = let e = length-append word (further_text words) in let r = further_size words in omega (arith, e, r)

line_size : (word : List ℕ) (words : List (List ℕ)) → length (line_text (word ∷ words)) ≡ size (word ∷ words)
line_size word words = let e = length-append word (further_text words) in let r = further_size words in omega (arith, e, r)

-- lines that are made of a list, so many bytes each
mapped_size : {A : Type 0} (f : A → List (List ℕ)) (most : ℕ) (xs : List A) → ((k : ℕ) (d : A) → k < length xs → length (line_text (f (get_or xs k d))) ≤ most) → length (lines_text (map f xs)) ≤ length xs * most
mapped_size f most [] each = omega arith
mapped_size f most (x ∷ xs) each =
    let e = length-append (line_text (f x)) (lines_text (map f xs)) in
    let here = each 0 x (omega arith) in
    let rest = mapped_size f most xs (λ k d lt. each (suc k) d (omega (arith, lt))) in
    let product : suc (length xs) * most ≡ most + length xs * most = omega arith in
    omega (arith, e, here, rest, product)

number_size : (n : ℕ) → n < 2 ^ 32 → length (decimal n) ≤ 10
number_size n small = length-decimal-le 10 n (omega arith) (omega (arith, small)) (omega (arith, small))

numbers_size : (ns : List ℕ) → All (λ n. n < 2 ^ 32) ns → size (map decimal ns) ≤ length ns * 11
numbers_size [] all = omega arith
numbers_size (n ∷ ns) all =
    let here = number_size n (all 0 n (omega arith)) in
    let rest = numbers_size ns (All-tail (λ n. n < 2 ^ 32) n ns all) in
    let product : suc (length ns) * 11 ≡ 11 + length ns * 11 = omega arith in
    omega (arith, here, rest, product)

short_name : (nodes : List Node) (node : ℕ) → AreNamed nodes → node < length nodes → length (name_of nodes node) ≤ 32
short_name nodes node named lt = (name_rules (name_of nodes node) (named.names node _ lt)).few

-- the verb, the name and the numbers: at most 7 + 1 + 32 + 1 bytes and 4 numbers of 11
act_size : (nodes : List Node) (before : List Item) (editor node : ℕ) (act : Act) (name : List ℕ) → length name ≤ 32 → MayStand nodes before editor node act → size (act_words name act) ≤ 90
act_size nodes before editor node (Begins id) name short stands = let i = number_size id stands.0.number in omega (arith, short, i)
act_size nodes before editor node (Performs id value) name short stands =
    let i = number_size id stands.0.number in
    let within = stands.2 in
    let v = number_size value (omega (arith, within)) in
    omega (arith, short, i, v)
act_size nodes before editor node (Ends id) name short stands = let i = number_size id stands.0.number in omega (arith, short, i)
act_size nodes before editor node (Tells numbers) name short stands =
    let few = stands.0 in
    let ns = numbers_size numbers stands.1 in
    omega (arith, short, few, ns)

item_size : (nodes : List Node) (most : ℕ) (before : List Item) (item : Item) → AreNamed nodes → most < 2 ^ 32 → item.seq < 2 ^ 32 → IsBehind nodes most before item → length (line_text (item_words nodes item)) ≤ 130
item_size nodes most before item named small seq is =
    let words = act_words (name_of nodes item.node) item.act in
    let e = line_size (decimal item.sample) (decimal item.editor ∷ decimal item.seq ∷ words) in
    let within = is.within in
    let low = is.editor in
    let a = number_size item.sample (omega (arith, within, small)) in
    let b = number_size item.editor (omega (arith, low)) in
    let c = number_size item.seq seq in
    let d = act_size nodes before item.editor item.node item.act (name_of nodes item.node) (short_name nodes item.node named is.node) is.act in
    omega (arith, e, a, b, c, d)

pub few_entries : (nodes : List Node) (most : ℕ) (items : List Item) → AreEntries nodes most items → length items ≤ 4096
few_entries nodes most [] are = omega arith
few_entries nodes most (item ∷ items) are =
    let last = (are (length items) no_item (omega arith)).few in
    let long = length-take (length items) (item ∷ items) in
    omega (arith, last, long)

pub text_size : (nodes : List Node) (most : ℕ) (items : List Item) → AreNamed nodes → most < 2 ^ 32 → ((i : ℕ) (d : Item) → i < length items → (get_or items i d).seq < 2 ^ 32) → AreEntries nodes most items → length (lines_text (journal_words nodes items)) ≤ 1048576
text_size nodes most items named small seqs are =
    let few = few_entries nodes most items are in
    let lines = mapped_size (item_words nodes) 130 items (λ k d lt. item_size nodes most _ (get_or items k d) named small (seqs k d lt) (are k d lt)) in
    let header = line_size (codes "vsthost") (codes "journal" ∷ codes "1" ∷ []) in
    let a = length-append (line_text header_words) (lines_text (map (item_words nodes) items ++ close_words ∷ [])) in
    let b = ap length (lines_append (map (item_words nodes) items) (close_words ∷ [])) in
    let c = length-append (lines_text (map (item_words nodes) items)) (lines_text (close_words ∷ [])) in
    omega (arith, few, lines, header, a, b, c)
