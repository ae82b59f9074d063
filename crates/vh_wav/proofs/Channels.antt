use Rattle.std.proofs.Common.{◌≡◌, ℕ, ◌+◌, ◌*◌, ◌-◌, ◌/◌, ◌<◌, ◌≤◌, Bool, true, false, cond, ltb, List, ◌++◌, zero, suc, length, take, drop, get_or, ℤ, pos, ◌*ℤ◌, ◌⊎◌, ⊎_elim, refl, sym, ap, subst, ◌∙◌, arith}
use Rattle.std.proofs.lemmas.List.{drop-take, take-take, drop-drop, take_at, get_or_append_left, get_or-append-add}
use Rattle.std.proofs.lemmas.Bool.Decides.{Decides-ltb}
use Rattle.std.proofs.Math.Nat.{mul-le-mul_left}
use Rattle.vh_files.specs.Fields.{number_of}
use Rattle.vh_wav.specs.declared.head.Head.{Head}
use Rattle.vh_wav.specs.Judged.{align_of}
use Rattle.vh_wav.specs.Heads.{IsHead}
use Rattle.vh_wav.specs.Samples.{signed, sample_at, sample_in, HasWhole, HasBytes}

-- the n samples of each channel from this frame on stand in the list, channel after channel
abbrev pub HoldsSamples : List ℕ → Head → ℕ → ℕ → List ℤ → Type 0
HoldsSamples bytes head from n out =
    (channel i : ℕ) → channel < head.channels → i < n → get_or out (channel * n + i) (pos 0) ≡ sample_in bytes head channel (from + i)

-- a window within the front of a list
window_in_front : (rest : List ℕ) (room k n : ℕ) → k + n ≤ room → take n (drop k (take room rest)) ≡ take n (drop k rest)
window_in_front rest room k n fits =
    let sum : k + (room - k) ≡ room = omega arith in
    ap (λ m. take n (drop k (take m rest))) (sym sum) ∙ ap (take n) (drop-take k (room - k) rest) ∙ take-take n (room - k) (drop k rest) (omega arith)

-- equal bytes are equal samples
pub same_sample : (bits : ℕ) (xs ys : List ℕ) (i j : ℕ) → (bits ≡ 16) ⊎ (bits ≡ 24) → take (bits / 8) (drop i xs) ≡ take (bits / 8) (drop j ys) → sample_at bits xs i ≡ sample_at bits ys j
same_sample bits xs ys i j width e =
    let P : ℕ → Type 0 = λ b. take (b / 8) (drop i xs) ≡ take (b / 8) (drop j ys) → sample_at b xs i ≡ sample_at b ys j in
    ⊎_elim
    (λ is. subst P (sym is) (λ h. ap (λ f. signed 16 (number_of f) *ℤ pos 256) h) e)
    (λ is. subst P (sym is) (λ h. ap (λ f. signed 24 (number_of f)) h) e)
    width

choose : (t u : Bool) (x y z : ℤ) → t ≡ u → (t ≡ true → x ≡ y) → cond t x z ≡ cond u y z
choose t true x y z e h = rw e (h e)
choose t false x y z e h = rw e refl

-- the frames that were decoded from the bytes of those that are there
pub frames_hold : (bytes : List ℕ) (head : Head) (from n whole align : ℕ) (buf part : List ℕ) (out : List ℤ) → IsHead head → align ≡ align_of head.channels head.bits → HasWhole bytes head from n whole → HasBytes bytes head from whole buf → part ≡ take (whole * align) buf
    → ((channel i : ℕ) → channel < head.channels → i < n → get_or out (channel * n + i) (pos 0) ≡ cond (ltb i whole) (sample_at head.bits part (i * align_of head.channels head.bits + channel * (head.bits / 8))) (pos 0)) → HoldsSamples bytes head from n out
frames_hold bytes head from n whole align buf part out lawful align_is counts holds part_is decoded = λ channel i on within.
    let width : ℕ = head.bits / 8 in
    let fits : width * (channel + 1) ≤ width * head.channels = mul-le-mul_left width (omega arith) in
    let size : ℕ = align_of head.channels head.bits in
    let size_is : size ≡ head.channels * width = refl in
    decoded channel i on within ∙ choose (ltb i whole) _ _ _ (pos 0) (counts i within) (λ there.
    let below : i < whole = (Decides-ltb i whole).0 there in
    let most : size * (i + 1) ≤ size * whole = mul-le-mul_left size (omega arith) in
    let base : ℕ = head.at + from * size in
    let k : ℕ = i * size + channel * width in
    let front : part ≡ take (whole * size) (drop base bytes) = part_is ∙ ap (λ a. take (whole * a) buf) align_is ∙ holds in
    let place : base + k ≡ head.at + ((from + i) * size + channel * width) = omega arith in
    let inside : k + width ≤ whole * size = omega (arith, most, fits, size_is) in
    same_sample head.bits part bytes k _ lawful.bits
    (ap (λ xs. take width (drop k xs)) front
    ∙ window_in_front (drop base bytes) (whole * size) k width inside
    ∙ ap (take width) (drop-drop k base bytes)
    ∙ ap (λ m. take width (drop m bytes)) place))

-- two channels, one behind the other
pub two_channels : (first second post rest : List ℤ) (n channels : ℕ) (value : ℕ → ℕ → ℤ) → length first ≡ n → length second ≡ n → ((k : ℕ) → k < n → get_or first k (pos 0) ≡ value 0 k) → ((k : ℕ) → k < n → get_or second k (pos 0) ≡ value 1 k) → channels ≡ 2
    → (channel i : ℕ) → channel < channels → i < n → get_or (take n (first ++ rest) ++ (second ++ post)) (channel * n + i) (pos 0) ≡ value channel i
two_channels first second post rest n channels value one two left right both zero i on within =
    let front : take n (first ++ rest) ≡ first = take_at first rest n one in
    let place : 0 * n + i ≡ i = omega arith in
    ap (λ k. get_or (take n (first ++ rest) ++ (second ++ post)) k (pos 0)) place
    ∙ ap (λ xs. get_or (xs ++ (second ++ post)) i (pos 0)) front ∙ get_or_append_left first (second ++ post) (pos 0) i (omega arith) ∙ left i within
two_channels first second post rest n channels value one two left right both (suc zero) i on within =
    let front : take n (first ++ rest) ≡ first = take_at first rest n one in
    let place : 1 * n + i ≡ length first + i = omega arith in
    ap (λ xs. get_or (xs ++ (second ++ post)) (1 * n + i) (pos 0)) front
    ∙ ap (λ k. get_or (first ++ (second ++ post)) k (pos 0)) place
    ∙ get_or-append-add first (second ++ post) i (pos 0)
    ∙ get_or_append_left second post (pos 0) i (omega arith) ∙ right i within
two_channels first second post rest n channels value one two left right both (suc (suc channel)) i on within = absurd (omega arith)
