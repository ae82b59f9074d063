-- The words of a line.
use Rattle.std.specs.Prelude.{◌≡◌, ⊤, ◌≤◌, ℕ, suc, ◌+◌, Bool, false, not, ◌&&◌, ◌==◌, nat_le, ◌-◌, List, [], ◌∷◌, length, map, take, drop, slice_index_or, All, Option, Some, None, Result, Ok, Err, Vec, if◌then◌else◌}
use Rattle.std.specs.Borrow.{Bor}
use Rattle.std.specs.declared.alloc.Global.{Global}
use Rattle.vh_num.specs.declared.refusal.Refusal.{Refusal}
use Rattle.vh_num.specs.declared.refusal.Refusal.TheVariants.{Fault, Memory}
use Rattle.vh_text.specs.declared.token.Token.{Token}
use Rattle.vh_text.specs.declared.token.BadByte.{BadByte}

-- a byte of printable ASCII
abbrev pub is_printable : ℕ → Bool
is_printable b = nat_le 32 b && nat_le b 126

-- the first byte that isn't, where the first of these bytes has this place
abbrev pub bad_from : ℕ → List ℕ → Option BadByte
bad_from at [] = None
bad_from at (b ∷ bs) = if is_printable b then bad_from (at + 1) bs else Some (record { place = at })

abbrev pub bad_byte : List ℕ → Option BadByte
bad_byte line = bad_from 0 line

-- a word goes on
abbrev pub goes_on : List ℕ → Bool
goes_on [] = false
goes_on (b ∷ bs) = not (b == 32)

-- the bytes of the word that begins here
abbrev pub word_length : List ℕ → ℕ
word_length [] = 0
word_length (b ∷ bs) = if b == 32 then 0 else suc (word_length bs)

-- the first token, from this place on
abbrev pub begin_at : ℕ → List Token → List Token
begin_at at [] = []
begin_at at (token ∷ tokens) = record { from = at; to = token.to } ∷ tokens

-- the longest runs of bytes other than space: such a byte belongs to the run of the next byte, or ends one
abbrev pub tokens_from : ℕ → List ℕ → List Token
tokens_from at [] = []
tokens_from at (b ∷ bs) =
    if b == 32 then tokens_from (at + 1) bs
    else if goes_on bs then begin_at at (tokens_from (at + 1) bs)
    else record { from = at; to = at + 1 } ∷ tokens_from (at + 1) bs

abbrev pub tokens_of : List ℕ → List Token
tokens_of line = tokens_from 0 line

-- the words of a line, as texts
abbrev pub words_of : List ℕ → List (List ℕ)
words_of line = map (λ token. take (token.to - token.from) (drop token.from line)) (tokens_of line)

-- the first of them, empty where there is none
abbrev pub first_word : List ℕ → List ℕ
first_word line = slice_index_or (words_of line) 0 []

-- at least one byte, all printable and none a space
abbrev pub IsWord : List ℕ → Type 0
IsWord text = (1 ≤ length text) × All (λ b. (33 ≤ b) × (b ≤ 126)) text

-- a line is told in tokens, or refused for its first bad byte
abbrev pub IsTokenized : {A : Type 0} → List ℕ → Result (Vec Token A) (Refusal BadByte) → Type 0
IsTokenized line (Ok tokens) = (bad_byte line ≡ None) × (tokens.items ≡ tokens_of line)
IsTokenized line (Err (Fault fault)) = bad_byte line ≡ Some fault
IsTokenized line (Err Memory) = bad_byte line ≡ None

-- texts by reference, as texts
abbrev pub texts : List (Bor (List ℕ)) → List (List ℕ)
texts words = map (λ word. word.now) words

-- a line is split into its words, or refused for its first bad byte
abbrev pub IsSplit : List ℕ → Result (Vec (Bor (List ℕ)) Global) (Refusal BadByte) → Type 0
IsSplit line (Ok words) = (bad_byte line ≡ None) × (texts words.items ≡ words_of line)
IsSplit line (Err (Fault fault)) = bad_byte line ≡ Some fault
IsSplit line (Err Memory) = bad_byte line ≡ None
