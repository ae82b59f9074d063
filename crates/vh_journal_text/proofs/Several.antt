-- Numbers that are read one after the other.
use Rattle.std.proofs.Common.{◌≡◌, ◌∙◌, ℕ, suc, ◌+◌, ◌<◌, ◌^◌, List, [], ◌∷◌, ◌++◌, take, drop, set, length, get_or, map, refl, sym, ap, subst, arith, Ok, Err, cond, true, false}
use Rattle.std.specs.Prelude.{All, Some, None, ◌&&◌, nat_le, nat_lt}
use Rattle.std.specs.List.{list_all}
use Rattle.std.specs.Option.{ok_or}
use Rattle.std.specs.Borrow.{Bor}
use Rattle.std.specs.Fmt.{decimal}
use Rattle.std.proofs.lemmas.Bool.{and_parts, ltb-true}
use Rattle.std.proofs.lemmas.List.{take_more, take_more_set, take-append-drop, length-map}
use Rattle.std.proofs.lemmas.List.Elements.{All-cons, All-tail}
use Rattle.std.proofs.Math.ListN.{get_or-map}
use Rattle.vh_text.specs.Chains.{given}
use Rattle.vh_text.specs.Numbers.{is_number, value_of, is_digit}
use Rattle.vh_text.specs.Tokens.{texts}
use Rattle.vh_text.proofs.Gives.{no_value, same_value}
use Rattle.vh_text.proofs.Numerals.{number_reads}
use Rattle.vh_journal_text.specs.declared.fault.JournalKind.{JournalKind}
use Rattle.vh_journal_text.specs.declared.fault.JournalKind.TheVariants.{BadLine}
use Rattle.vh_journal_text.specs.Lines.{Checked, any_number, any_numbers}
use Rattle.vh_journal_text.proofs.Inverts.{gave}

push_given : (first : Checked ℕ) (rest last : Checked (List ℕ)) (n : Checked ℕ) → last ≡ given rest (λ ns. given n (λ m. Ok (ns ++ m ∷ [])))
    → given first (λ x. given last (λ xs. Ok (x ∷ xs))) ≡ given (given first (λ x. given rest (λ xs. Ok (x ∷ xs)))) (λ ns. given n (λ m. Ok (ns ++ m ∷ [])))
push_given (Err kind) rest last n is = refl
push_given (Ok x) (Err kind) last n is = ap (λ l. given l (λ xs. Ok (x ∷ xs))) is
push_given (Ok x) (Ok ns) last (Err kind) is = ap (λ l. given l (λ xs. Ok (x ∷ xs))) is
push_given (Ok x) (Ok ns) last (Ok m) is = ap (λ l. given l (λ xs. Ok (x ∷ xs))) is

push : (words : List (List ℕ)) (w : List ℕ) → any_numbers (words ++ w ∷ []) ≡ given (any_numbers words) (λ ns. given (any_number w) (λ n. Ok (ns ++ n ∷ [])))
push [] w = refl
push (x ∷ xs) w = push_given (any_number x) (any_numbers xs) (any_numbers (xs ++ w ∷ [])) (any_number w) (push xs w)

-- the numbers so far, and a further one
pub one_more : (words : List (List ℕ)) (i n : ℕ) (numbers : List ℕ) (d : List ℕ) → i < length words → i < length numbers → any_numbers (take i words) ≡ Ok (take i numbers)
    → any_number (get_or words i d) ≡ Ok n → any_numbers (take (i + 1) words) ≡ Ok (take (i + 1) (set numbers i n))
one_more words i n numbers d lt room before now =
    ap (λ ws. any_numbers ws) (take_more words i d lt)
    ∙ push (take i words) (get_or words i d)
    ∙ ap (λ r. given r (λ ns. given (any_number (get_or words i d)) (λ m. Ok (ns ++ m ∷ [])))) before
    ∙ ap (λ r. given r (λ m. Ok (take i numbers ++ m ∷ []))) now
    ∙ ap (λ ns. Ok ns) (sym (take_more_set numbers i n room))

stays_given : (first : Checked ℕ) (rest all : Checked (List ℕ)) (kind : JournalKind) → (rest ≡ Err kind → all ≡ Err kind) → given first (λ x. given rest (λ xs. Ok (x ∷ xs))) ≡ Err kind → given first (λ x. given all (λ xs. Ok (x ∷ xs))) ≡ Err kind
stays_given (Err k) rest all kind stays is = is
stays_given (Ok x) (Err k) all kind stays is = ap (λ l. given l (λ xs. Ok (x ∷ xs))) (stays is)
stays_given (Ok x) (Ok ns) all kind stays is = absurd (no_value (x ∷ ns) kind (sym is))

-- a fault stays the first, whatever follows
stays : (words more : List (List ℕ)) (kind : JournalKind) → any_numbers words ≡ Err kind → any_numbers (words ++ more) ≡ Err kind
stays [] more kind is = absurd (no_value [] kind (sym is))
stays (x ∷ xs) more kind is = stays_given (any_number x) (any_numbers xs) (any_numbers (xs ++ more)) kind (stays xs more kind) is

-- the first fault is that of the next word
pub first_fault : (words : List (List ℕ)) (i : ℕ) (numbers : List ℕ) (d : List ℕ) (kind : JournalKind) → i < length words → any_numbers (take i words) ≡ Ok (take i numbers)
    → any_number (get_or words i d) ≡ Err kind → any_numbers words ≡ Err kind
first_fault words i numbers d kind lt before now =
    let here : any_numbers (take (i + 1) words) ≡ Err kind =
    ap (λ ws. any_numbers ws) (take_more words i d lt)
    ∙ push (take i words) (get_or words i d)
    ∙ ap (λ r. given r (λ ns. given (any_number (get_or words i d)) (λ m. Ok (ns ++ m ∷ [])))) before
    ∙ ap (λ r. given r (λ m. Ok (take i numbers ++ m ∷ []))) now in
    subst (λ ws. any_numbers ws ≡ Err kind) (take-append-drop (i + 1) words) (stays (take (i + 1) words) (drop (i + 1) words) kind here)

-- a word by its place
pub text_at : (words : List (Bor (List ℕ))) (i : ℕ) → get_or (texts words) i [] ≡ (get_or words i (record { ref_ptr = (0, 0); now = [] })).now
text_at words i = get_or-map (λ (w : Bor (List ℕ)). w.now) words i (record { ref_ptr = (0, 0); now = [] })

pub texts_long : (words : List (Bor (List ℕ))) → length (texts words) ≡ length words
texts_long words = length-map words (λ (w : Bor (List ℕ)). w.now)

-- what is read is below 2^32

pub number_small : (text : List ℕ) (n : ℕ) → any_number text ≡ Ok n → n < 2 ^ 32
number_small text n is = elim (is_number text) as (λ t. is_number text ≡ t → ok_or (cond t (Some (value_of text)) None) BadLine ≡ Ok n → n < 2 ^ 32) [
  | true ↦ λ e found.
      let same : value_of text ≡ n = cc in
      let both = and_parts (nat_le 1 (length text) && nat_le (length text) 10) (list_all is_digit text && nat_lt (value_of text) (2 ^ 32)) e in
      let rest = and_parts (list_all is_digit text) (nat_lt (value_of text) (2 ^ 32)) both.1 in
      let lt = ltb-true (value_of text) (2 ^ 32) rest.1 in
      omega (arith, same, lt)
  | false ↦ λ e found. absurd (cc)
] refl is

pub numbers_small : (words : List (List ℕ)) (ns : List ℕ) → any_numbers words ≡ Ok ns → (length ns ≡ length words) × All (λ n. n < 2 ^ 32) ns
numbers_small [] ns is = let same = same_value [] ns is in subst (λ (xs : List ℕ). (length xs ≡ 0) × All (λ n. n < 2 ^ 32) xs) same (refl, λ k d lt. absurd (omega (arith, lt)))
numbers_small (word ∷ words) ns is =
    let first = gave (any_number word) (λ n. given (any_numbers words) (λ ns. Ok (n ∷ ns))) ns is in
    let rest = gave (any_numbers words) (λ ns. Ok (first.0 ∷ ns)) ns first.2 in
    let more = numbers_small words rest.0 rest.1 in
    let same = same_value (first.0 ∷ rest.0) ns rest.2 in
    subst (λ (xs : List ℕ). (length xs ≡ suc (length words)) × All (λ n. n < 2 ^ 32) xs) same
    (ap suc more.0, All-cons (λ n. n < 2 ^ 32) first.0 rest.0 (number_small word first.0 first.1) more.1)

-- what is written is read

pub any_reads : (n : ℕ) → n < 2 ^ 32 → any_number (decimal n) ≡ Ok n
any_reads n small = ap (λ o. ok_or o BadLine) (number_reads n small)

pub any_read_back : (ns : List ℕ) → All (λ n. n < 2 ^ 32) ns → any_numbers (map decimal ns) ≡ Ok ns
any_read_back [] all = refl
any_read_back (n ∷ ns) all =
    ap (λ r. given r (λ m. given (any_numbers (map decimal ns)) (λ ms. Ok (m ∷ ms)))) (any_reads n (all 0 n (omega arith)))
    ∙ ap (λ r. given r (λ ms. Ok (n ∷ ms))) (any_read_back ns (All-tail (λ n. n < 2 ^ 32) n ns all))
