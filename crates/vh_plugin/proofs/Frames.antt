-- Stretches of samples in a block, and of their frames.
use Rattle.std.proofs.Common.{◌≡◌, ℕ, zero, suc, ◌+◌, ◌-◌, ◌<◌, ◌≤◌, ◌⊎◌, inl, inr, ◌==◌, ℤ, pos, List, [], ◌∷◌, ◌++◌, length, take, drop, get_or, min, Option, Some, None, if◌then◌else◌, refl, sym, ap, ap₂, subst, ◌∙◌, arith}
use borrow.Rule.Slice.PartMut.{post_of}
use Rattle.std.proofs.lemmas.Bool.{ne_eqb}
use Rattle.std.proofs.lemmas.List.{get_or-append-add, get_or_append_left, get_or-take, get_or-drop, length-take-le, length-drop, length-append, drop_at}
use Rattle.vh_num.specs.Frames.{Frame, frame_at}
use Rattle.vh_plugin.specs.Class.{Class, State}
use Rattle.vh_plugin.specs.Blocks.{block_of, Block, main_at, aux_at}
use Rattle.vh_plugin.specs.Runs.{mono, stereo, aux_mono, aux_stereo, run_state, IsRun}
use Rattle.vh_plugin.specs.Stretch.{IsPart, stretch_state, IsStretch}

-- samples of which those from `from` on are others
abbrev pub written : List ℤ → ℕ → ℕ → List ℤ → List ℤ
written old from size new = take from old ++ (new ++ post_of from size old)

len_front : (old : List ℤ) (from : ℕ) → from ≤ length old → length (take from old) ≡ from
len_front old from le = length-take-le from old le

written_before : (old new : List ℤ) (from size k : ℕ) → from ≤ length old → k < from → get_or (written old from size new) k (pos 0) ≡ get_or old k (pos 0)
written_before old new from size k le lt =
    get_or_append_left (take from old) (new ++ post_of from size old) (pos 0) k (omega (arith, lt, len_front old from le)) ∙ get_or-take from old k (pos 0) lt

written_within : (old new : List ℤ) (from size k : ℕ) → from ≤ length old → k < length new → get_or (written old from size new) (from + k) (pos 0) ≡ get_or new k (pos 0)
written_within old new from size k le lt =
    ap (λ i. get_or (written old from size new) (i + k) (pos 0)) (sym (len_front old from le))
    ∙ get_or-append-add (take from old) (new ++ post_of from size old) k (pos 0)
    ∙ get_or_append_left new (post_of from size old) (pos 0) k lt

written_behind : (old new : List ℤ) (from size k : ℕ) → from ≤ length old → length new ≡ size → from + size ≤ k → get_or (written old from size new) k (pos 0) ≡ get_or old k (pos 0)
written_behind old new from size k le long late =
    let past = k - (from + size) in
    let here : k ≡ length (take from old) + (length new + past) = omega (arith, len_front old from le, long, late) in
    let there : from + (size + past) ≡ k = omega (arith, late) in
    ap (λ i. get_or (written old from size new) i (pos 0)) here
    ∙ get_or-append-add (take from old) (new ++ post_of from size old) (length new + past) (pos 0)
    ∙ get_or-append-add new (post_of from size old) past (pos 0)
    ∙ get_or-drop size (drop from old) past (pos 0) ∙ get_or-drop from old (size + past) (pos 0)
    ∙ ap (λ i. get_or old i (pos 0)) there

written_others : (old new : List ℤ) (from to place : ℕ) → from ≤ to → to ≤ length old → length new ≡ to - from → (place < from) ⊎ (to ≤ place) → get_or (written old from (to - from) new) place (pos 0) ≡ get_or old place (pos 0)
written_others old new from to place le within long other =
    elim other [
      | inl early ↦ written_before old new from (to - from) place (omega (arith, le, within)) early
      | inr late ↦ written_behind old new from (to - from) place (omega (arith, le, within)) long (omega (arith, le, late))
    ]

length_written : (old new : List ℤ) (from size : ℕ) → length new ≡ size → from + size ≤ length old → length (written old from size new) ≡ length old
length_written old new from size long le =
    length-append (take from old) (new ++ post_of from size old) ∙ ap₂ (λ a b. a + b) (len_front old from (omega (arith, le)))
    (length-append new (post_of from size old) ∙ ap₂ (λ a b. a + b) long (length-drop size (drop from old) ∙ ap (λ n. n - size) (length-drop from old)))
    ∙ (let e : from + (size + (length old - from - size)) ≡ length old = omega (arith, le) in e)

-- a part of samples
part : (samples : List ℤ) (from size k : ℕ) → k < size → get_or (take size (drop from samples)) k (pos 0) ≡ get_or samples (from + k) (pos 0)
part samples from size k lt = get_or-take size (drop from samples) k (pos 0) lt ∙ get_or-drop from samples k (pos 0)

pub length_part : (samples : List ℤ) (from to : ℕ) → from ≤ to → to ≤ length samples → length (take (to - from) (drop from samples)) ≡ to - from
length_part samples from to le within = length-take-le (to - from) (drop from samples) (let e = length-drop from samples in omega (arith, e, le, within))

-- equal frames give equal runs
run_same : (class : Class) (channels : ℕ) (state : State) (values : List ℕ) (f g : ℕ → Frame) (a b : ℕ → Option Frame) (size : ℕ) → ((i : ℕ) → i < size → f i ≡ g i) → ((i : ℕ) → i < size → a i ≡ b i)
    → (k : ℕ) → k ≤ size → run_state class channels state values f a k ≡ run_state class channels state values g b k
run_same class channels state values f g a b size main aux zero le = refl
run_same class channels state values f g a b size main aux (suc k) le =
    ap (λ (s : State). class.next channels s values (f k) (a k)) (run_same class channels state values f g a b size main aux k (omega (arith, le)))
    ∙ ap (λ (x : Frame). class.next channels (run_state class channels state values g b k) values x (a k)) (main k (omega (arith, le)))
    ∙ ap (λ (x : Option Frame). class.next channels (run_state class channels state values g b k) values (g k) x) (aux k (omega (arith, le)))

pub is_stretch : (class : Class) (state : State) (values : List ℕ) (block : Block) (from to : ℕ) (old new : List ℤ) (f : ℕ → Frame) (a : ℕ → Option Frame) (out : ℕ → Frame)
    → ((i : ℕ) → i < to - from → f i ≡ main_at block (from + i)) → ((i : ℕ) → i < to - from → a i ≡ aux_at block (from + i))
    → IsRun class block.channels state values f a (to - from) out → ((i : ℕ) → i < to - from → frame_at block.channels block.size new (from + i) ≡ out i)
    → length new ≡ length old → ((place : ℕ) → place < block.size → (place < from) ⊎ (to ≤ place) → frame_at block.channels block.size new place ≡ frame_at block.channels block.size old place)
    → IsStretch class state values block from to old new
is_stretch class state values block from to old new f a out main aux run gives long others = record {
  long = long;
  frames = λ place lt.
      let inside : place < to - from = omega (arith, lt) in
      gives place inside ∙ run place inside
      ∙ ap (λ (s : State). class.output block.channels s values (f place) (a place)) (run_same class block.channels state values f (λ i. main_at block (from + i)) a (λ i. aux_at block (from + i)) (to - from) main aux place (omega (arith, inside)))
      ∙ ap (λ (x : Frame). class.output block.channels (stretch_state class state values block from place) values x (a place)) (main place inside)
      ∙ ap (λ (x : Option Frame). class.output block.channels (stretch_state class state values block from place) values (main_at block (from + place)) x) (aux place inside);
  others = others;
}

pub is_stretch_state : (class : Class) (state : State) (values : List ℕ) (block : Block) (from to : ℕ) (f : ℕ → Frame) (a : ℕ → Option Frame)
    → ((i : ℕ) → i < to - from → f i ≡ main_at block (from + i)) → ((i : ℕ) → i < to - from → a i ≡ aux_at block (from + i))
    → run_state class block.channels state values f a (to - from) ≡ stretch_state class state values block from (to - from)
is_stretch_state class state values block from to f a main aux = run_same class block.channels state values f (λ i. main_at block (from + i)) a (λ i. aux_at block (from + i)) (to - from) main aux (to - from) (omega arith)

-- one channel
pub mono_main : (main aux : List ℤ) (from to i : ℕ) → i < to - from → mono (take (to - from) (drop from main)) i ≡ main_at (block_of 1 (length main) [] [] main aux) (from + i)
mono_main main aux from to i lt = ap (λ (x : ℤ). x ∷ []) (part main from (to - from) i lt)

some_or_none : (n : ℕ) (x : Frame) → 0 < n → (if n == 0 then None else Some x) ≡ Some x
some_or_none n x lt = ap (λ t. if t then None else Some x) (ne_eqb n 0 (λ none. absurd (omega (arith, lt, none))))

pub mono_aux : (main aux aux' : List ℤ) (from to i : ℕ) → from < to → IsPart from to aux aux' → i < to - from → aux_mono aux' i ≡ aux_at (block_of 1 (length main) [] [] main aux) (from + i)
mono_aux main aux aux' from to i some is lt =
    elim is [
      | inl none ↦ ap (λ n. if n == 0 then None else Some (mono aux' i)) none.1 ∙ sym (ap (λ n. if n == 0 then None else Some (frame_at 1 (length main) aux (from + i))) none.0)
      | inr there ↦
          let long : length aux' ≡ to - from = ap (λ (xs : List ℤ). length xs) there.1 ∙ length_part aux from to (omega (arith, some)) there.0 in
          some_or_none (length aux') (mono aux' i) (omega (arith, long, some))
          ∙ ap (λ (xs : List ℤ). Some (mono xs i)) there.1
          ∙ ap (λ (x : ℤ). Some (x ∷ [])) (part aux from (to - from) i lt)
          ∙ sym (some_or_none (length aux) (frame_at 1 (length main) aux (from + i)) (omega (arith, there.0, some)))
    ]

pub mono_written : (n : ℕ) (old new : List ℤ) (from to i : ℕ) → from ≤ to → to ≤ length old → length new ≡ to - from → i < to - from → frame_at 1 n (written old from (to - from) new) (from + i) ≡ mono new i
mono_written n old new from to i le within long lt = ap (λ (x : ℤ). x ∷ []) (written_within old new from (to - from) i (omega (arith, le, within)) (omega (arith, lt, long)))

pub mono_others : (n : ℕ) (old new : List ℤ) (from to place : ℕ) → from ≤ to → to ≤ length old → length new ≡ to - from → (place < from) ⊎ (to ≤ place) → frame_at 1 n (written old from (to - from) new) place ≡ frame_at 1 n old place
mono_others n old new from to place le within long other = ap (λ (x : ℤ). x ∷ []) (written_others old new from to place le within long other)

pub length_mono : (old new : List ℤ) (from to : ℕ) → from ≤ to → to ≤ length old → length new ≡ to - from → length (written old from (to - from) new) ≡ length old
length_mono old new from to le within long = length_written old new from (to - from) long (omega (arith, le, within))

pub mono_run : (class : Class) (state next : State) (values : List ℕ) (from to : ℕ) (main aux side old new : List ℤ) → from < to → to ≤ length main → length old ≡ length main → IsPart from to aux side
    → length new ≡ length (take (to - from) (drop from old))
    → IsRun class 1 state values (mono (take (to - from) (drop from main))) (aux_mono side) (length (take (to - from) (drop from main))) (mono new)
    → next ≡ run_state class 1 state values (mono (take (to - from) (drop from main))) (aux_mono side) (length (take (to - from) (drop from main)))
    → IsStretch class state values (block_of 1 (length main) [] [] main aux) from to old (written old from (to - from) new) × (next ≡ stretch_state class state values (block_of 1 (length main) [] [] main aux) from (to - from))
mono_run class state next values from to main aux side old new some within same is long run ends =
    let block = block_of 1 (length main) [] [] main aux in
    let le : from ≤ to = omega (arith, some) in
    let inside : to ≤ length old = omega (arith, within, same) in
    let size = length_part main from to le within in
    let length_new : length new ≡ to - from = long ∙ length_part old from to le inside in
    let mains = mono_main main aux from to in
    let auxes : (i : ℕ) → i < to - from → aux_mono side i ≡ aux_at block (from + i) = λ i lt. mono_aux main aux side from to i some is lt in
    let runs = subst (λ n. IsRun class 1 state values (mono (take (to - from) (drop from main))) (aux_mono side) n (mono new)) size run in (
      is_stretch class state values block from to old (written old from (to - from) new) (mono (take (to - from) (drop from main))) (aux_mono side) (mono new) mains auxes runs
          (λ i lt. mono_written (length main) old new from to i le inside length_new lt) (length_mono old new from to le inside length_new)
          (λ place early other. mono_others (length main) old new from to place le inside length_new other),
      ends ∙ ap (λ n. run_state class 1 state values (mono (take (to - from) (drop from main))) (aux_mono side) n) size
          ∙ is_stretch_state class state values block from to (mono (take (to - from) (drop from main))) (aux_mono side) mains auxes,
    )

-- two channels: a place of the first half, and of the second
first_half : (samples : List ℤ) (n from size i : ℕ) → i < size → from + size ≤ n → get_or (take size (drop from (take n samples))) i (pos 0) ≡ get_or samples (from + i) (pos 0)
first_half samples n from size i lt within = part (take n samples) from size i lt ∙ get_or-take n samples (from + i) (pos 0) (omega (arith, lt, within))

second_half : (samples : List ℤ) (n from size i : ℕ) → i < size → get_or (take size (drop from (drop n samples))) i (pos 0) ≡ get_or (drop n samples) (from + i) (pos 0)
second_half samples n from size i lt = part (drop n samples) from size i lt

stereo_main : (samples aux left right : List ℤ) (n from to i : ℕ) → from < to → to ≤ n → left ≡ take n samples → right ≡ drop n samples → i < to - from
    → stereo (take (to - from) (drop from left)) (take (to - from) (drop from right)) i ≡ main_at (block_of 2 n [] [] samples aux) (from + i)
stereo_main samples aux left right n from to i some within is_left is_right lt =
    ap₂ (λ (x y : ℤ). x ∷ y ∷ [])
    (ap (λ (xs : List ℤ). get_or (take (to - from) (drop from xs)) i (pos 0)) is_left ∙ first_half samples n from (to - from) i lt (omega (arith, some, within)))
    (ap (λ (xs : List ℤ). get_or (take (to - from) (drop from xs)) i (pos 0)) is_right ∙ second_half samples n from (to - from) i lt)

-- the samples of two channels, or none
abbrev pub AreHalves : ℕ → List ℤ → Type 0
AreHalves n samples = (length samples ≡ 0) ⊎ (length samples ≡ n + n)

length-take-most : (n : ℕ) (xs : List ℤ) → length (take n xs) ≤ length xs
length-take-most zero xs = omega arith
length-take-most (suc n) [] = omega arith
length-take-most (suc n) (x ∷ xs) = let rest = length-take-most n xs in omega (arith, rest)

stereo_aux : (main aux aux_left aux_right left right : List ℤ) (n from to i : ℕ) → from < to → to ≤ n → AreHalves n aux
    → aux_left ≡ take (min n (length aux)) aux → aux_right ≡ drop (min n (length aux)) aux → IsPart from to aux_left left → IsPart from to aux_right right → i < to - from
    → aux_stereo left right i ≡ aux_at (block_of 2 n [] [] main aux) (from + i)
stereo_aux main aux aux_left aux_right left right n from to i some within are is_aux_left is_aux_right is_left is_right lt =
    let most = length-take-most (min n (length aux)) aux in
    let same_left : length aux_left ≡ length (take (min n (length aux)) aux) = ap (λ (xs : List ℤ). length xs) is_aux_left in
    let same_right : length aux_right ≡ length (drop (min n (length aux)) aux) = ap (λ (xs : List ℤ). length xs) is_aux_right in
    elim are [
      | inl none ↦ elim is_left [
        | inl neither ↦ ap (λ k. if k == 0 then None else Some (stereo left right i)) neither.1 ∙ sym (ap (λ k. if k == 0 then None else Some (frame_at 2 n aux (from + i))) none)
        | inr there ↦ absurd (omega (arith, most, same_left, none, there.0, some))
      ]
      | inr both ↦
          let half : min n (length aux) ≡ n = omega (arith, both) in
          let front : aux_left ≡ take n aux = is_aux_left ∙ ap (λ k. take k aux) half in
          let back : aux_right ≡ drop n aux = is_aux_right ∙ ap (λ k. drop k aux) half in
          elim is_left [
            | inl neither ↦ absurd (let e = length-take-le n aux (omega (arith, both)) in let f : length aux_left ≡ length (take n aux) = ap (λ (xs : List ℤ). length xs) front in omega (arith, e, f, neither.0, some, within))
            | inr there ↦ elim is_right [
              | inl neither ↦ absurd (let e = length-drop n aux in let f : length aux_right ≡ length (drop n aux) = ap (λ (xs : List ℤ). length xs) back in omega (arith, e, f, both, neither.0, some, within))
              | inr too ↦
                  let long : length left ≡ to - from = ap (λ (xs : List ℤ). length xs) there.1 ∙ length_part aux_left from to (omega (arith, some)) there.0 in
                  some_or_none (length left) (stereo left right i) (omega (arith, long, some))
                  ∙ ap₂ (λ (xs ys : List ℤ). Some (stereo xs ys i)) there.1 too.1
                  ∙ ap (λ (x : Frame). Some x) (stereo_main aux aux aux_left aux_right n from to i some within front back lt)
                  ∙ sym (some_or_none (length aux) (frame_at 2 n aux (from + i)) (omega (arith, both, some, within)))
            ]
          ]
    ]

-- a frame of two halves
two_halves : (left right : List ℤ) (n place : ℕ) → length left ≡ n → place < n → frame_at 2 n (left ++ right) place ≡ get_or left place (pos 0) ∷ get_or right place (pos 0) ∷ []
two_halves left right n place long lt =
    ap₂ (λ (x y : ℤ). x ∷ y ∷ []) (get_or_append_left left right (pos 0) place (omega (arith, lt, long)))
    (ap (λ (xs : List ℤ). get_or xs place (pos 0)) (drop_at left right n long))

halves : (samples : List ℤ) (n place : ℕ) → place < n → get_or (take n samples) place (pos 0) ∷ get_or (drop n samples) place (pos 0) ∷ [] ≡ frame_at 2 n samples place
halves samples n place lt = ap (λ (x : ℤ). x ∷ get_or (drop n samples) place (pos 0) ∷ []) (get_or-take n samples place (pos 0) lt)

pub stereo_run : (class : Class) (state next : State) (values : List ℕ) (n from to : ℕ) (main aux left right aux_left aux_right side_left side_right old old_left old_right new_left new_right : List ℤ)
    → from < to → to ≤ n → length main ≡ n + n → length old ≡ n + n → AreHalves n aux
    → left ≡ take n main → right ≡ drop n main → aux_left ≡ take (min n (length aux)) aux → aux_right ≡ drop (min n (length aux)) aux → old_left ≡ take n old → old_right ≡ drop n old
    → IsPart from to aux_left side_left → IsPart from to aux_right side_right
    → length new_left ≡ length (take (to - from) (drop from old_left)) → length new_right ≡ length (take (to - from) (drop from old_right))
    → IsRun class 2 state values (stereo (take (to - from) (drop from left)) (take (to - from) (drop from right))) (aux_stereo side_left side_right) (length (take (to - from) (drop from left))) (stereo new_left new_right)
    → next ≡ run_state class 2 state values (stereo (take (to - from) (drop from left)) (take (to - from) (drop from right))) (aux_stereo side_left side_right) (length (take (to - from) (drop from left)))
    → IsStretch class state values (block_of 2 n [] [] main aux) from to old (written old_left from (to - from) new_left ++ written old_right from (to - from) new_right)
    × (next ≡ stretch_state class state values (block_of 2 n [] [] main aux) from (to - from))
stereo_run class state next values n from to main aux left right aux_left aux_right side_left side_right old old_left old_right new_left new_right
    some within long_main long_old are is_left is_right is_aux_left is_aux_right is_old_left is_old_right is_side_left is_side_right long_left long_right run ends =
    let block = block_of 2 n [] [] main aux in
    let le : from ≤ to = omega (arith, some) in
    let n_left : length left ≡ n = ap (λ (xs : List ℤ). length xs) is_left ∙ length-take-le n main (omega (arith, long_main)) in
    let n_old_left : length old_left ≡ n = ap (λ (xs : List ℤ). length xs) is_old_left ∙ length-take-le n old (omega (arith, long_old)) in
    let n_old_right : length old_right ≡ n = let e = length-drop n old in let f : length old_right ≡ length (drop n old) = ap (λ (xs : List ℤ). length xs) is_old_right in omega (arith, e, f, long_old) in
    let inside_left : to ≤ length old_left = omega (arith, within, n_old_left) in
    let inside_right : to ≤ length old_right = omega (arith, within, n_old_right) in
    let size = length_part left from to le (omega (arith, within, n_left)) in
    let length_left : length new_left ≡ to - from = long_left ∙ length_part old_left from to le inside_left in
    let length_right : length new_right ≡ to - from = long_right ∙ length_part old_right from to le inside_right in
    let new_all = written old_left from (to - from) new_left ++ written old_right from (to - from) new_right in
    let whole_left : length (written old_left from (to - from) new_left) ≡ n = length_mono old_left new_left from to le inside_left length_left ∙ n_old_left in
    let whole_right : length (written old_right from (to - from) new_right) ≡ n = length_mono old_right new_right from to le inside_right length_right ∙ n_old_right in
    let mains : (i : ℕ) → i < to - from → stereo (take (to - from) (drop from left)) (take (to - from) (drop from right)) i ≡ main_at block (from + i) =
    λ i lt. stereo_main main aux left right n from to i some within is_left is_right lt in
    let auxes : (i : ℕ) → i < to - from → aux_stereo side_left side_right i ≡ aux_at block (from + i) =
    λ i lt. stereo_aux main aux aux_left aux_right side_left side_right n from to i some within are is_aux_left is_aux_right is_side_left is_side_right lt in
    let runs = subst (λ k. IsRun class 2 state values (stereo (take (to - from) (drop from left)) (take (to - from) (drop from right))) (aux_stereo side_left side_right) k (stereo new_left new_right)) size run in (
      is_stretch class state values block from to old new_all (stereo (take (to - from) (drop from left)) (take (to - from) (drop from right))) (aux_stereo side_left side_right) (stereo new_left new_right) mains auxes runs
          (λ i lt. two_halves _ _ n (from + i) whole_left (omega (arith, lt, within))
          ∙ ap₂ (λ (x y : ℤ). x ∷ y ∷ []) (written_within old_left new_left from (to - from) i (omega (arith, le, inside_left)) (omega (arith, lt, length_left)))
          (written_within old_right new_right from (to - from) i (omega (arith, le, inside_right)) (omega (arith, lt, length_right))))
          (length-append (written old_left from (to - from) new_left) (written old_right from (to - from) new_right) ∙ (let e : length (written old_left from (to - from) new_left) + length (written old_right from (to - from) new_right) ≡ length old = omega (arith, whole_left, whole_right, long_old) in e))
          (λ place early other. two_halves _ _ n place whole_left early
          ∙ ap₂ (λ (x y : ℤ). x ∷ y ∷ []) (written_others old_left new_left from to place le inside_left length_left other) (written_others old_right new_right from to place le inside_right length_right other)
          ∙ ap₂ (λ (xs ys : List ℤ). get_or xs place (pos 0) ∷ get_or ys place (pos 0) ∷ []) is_old_left is_old_right
          ∙ halves old n place early),
      ends ∙ ap (λ k. run_state class 2 state values (stereo (take (to - from) (drop from left)) (take (to - from) (drop from right))) (aux_stereo side_left side_right) k) size
          ∙ is_stretch_state class state values block from to (stereo (take (to - from) (drop from left)) (take (to - from) (drop from right))) (aux_stereo side_left side_right) mains auxes,
    )
