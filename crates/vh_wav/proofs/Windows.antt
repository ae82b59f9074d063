use Rattle.std.proofs.Common.{◌≡◌, ℕ, ◌+◌, ◌-◌, ◌≤◌, min, true, leb, List, ◌++◌, length, take, drop, sym, ap, ◌∙◌, subst, arith}
use Rattle.std.proofs.lemmas.List.{length-drop, length-take-le, drop-take, take-take, take-append-le, drop-append-le, take_all}
use Rattle.std.proofs.lemmas.Bool.Decides.{nat_tests}
use Rattle.vh_files.specs.Fields.{number_of, field_at}
use Rattle.vh_files.specs.Store.{FillsFrom}
use Rattle.vh_wav.specs.declared.chunk.Chunk.{Chunk as Seen}
use Rattle.vh_wav.specs.Chunks.{chunk_at, front_size}
use Rattle.vh_wav.specs.Heads.{IsSeen}

le_true : (a b : ℕ) → a ≤ b → leb a b ≡ true
le_true a b h = grind (arith, nat_tests)

-- a window within the front of a list, whatever follows the front
pub window : (rest tail : List ℕ) (room k n : ℕ) → room ≤ length rest → k + n ≤ room → take n (drop k (take room rest ++ tail)) ≡ take n (drop k rest)
window rest tail room k n within fits =
    let size : length (take room rest) ≡ room = length-take-le room rest within in
    let left : length (drop k (take room rest)) ≡ room - k = length-drop k (take room rest) ∙ ap (λ m. m - k) size in
    let split : drop k (take room rest ++ tail) ≡ drop k (take room rest) ++ tail = drop-append-le k (take room rest) tail (omega arith) in
    let sum : k + (room - k) ≡ room = omega arith in
    let inner : drop k (take room rest) ≡ take (room - k) (drop k rest) = ap (λ m. drop k (take m rest)) (sym sum) ∙ drop-take k (room - k) rest in
    ap (take n) split ∙ take-append-le n (drop k (take room rest)) tail (omega arith) ∙ ap (take n) inner ∙ take-take n (room - k) (drop k rest) (omega arith)

-- a buffer that was filled to its end
pub filled : (bytes buf : List ℕ) (at got : ℕ) → FillsFrom bytes at got buf → length buf ≤ length (drop at bytes) → buf ≡ take (length buf) (drop at bytes)
filled bytes buf at got fills room =
    let all = fills.all in
    let same : got ≡ length buf = omega arith in
    let P : ℕ → Type 0 = λ n. take n buf ≡ take n (drop at bytes) in
    let whole : take (length buf) buf ≡ take (length buf) (drop at bytes) = subst P same fills.bytes_are in
    sym (take_all (length buf) buf (omega arith)) ∙ whole

-- a chunk whose front was read
pub seen_chunk : (bytes buf tail : List ℕ) (at got left room : ℕ) (seen : Seen) → FillsFrom bytes at got buf → length buf ≡ room → left ≡ length bytes - at → room ≡ min left 48 → 8 ≤ left → seen.bytes ≡ buf ++ tail → seen.at ≡ at + 8 → field_at seen.bytes 4 4 ≤ left - 8
    → (8 ≤ length (drop at bytes)) × IsSeen seen (chunk_at at (drop at bytes)) × ((chunk_at at (drop at bytes)).fits ≡ true)
seen_chunk bytes buf tail at got left room seen fills size rest_is room_is enough bytes_are at_is fits =
    let rest = drop at bytes in
    let long : length rest ≡ left = length-drop at bytes ∙ sym rest_is in
    let front : buf ≡ take room rest = filled bytes buf at got fills (omega arith) ∙ ap (λ n. take n rest) size in
    let whole : seen.bytes ≡ take room rest ++ tail = bytes_are ∙ ap (λ xs. xs ++ tail) front in
    let at_most : room ≤ length rest = omega arith in
    let number : field_at seen.bytes 4 4 ≡ field_at rest 4 4 = ap (λ xs. number_of (take 4 (drop 4 xs))) whole ∙ ap number_of (window rest tail room 4 4 at_most (omega arith)) in
    let P : ℕ → Type 0 = λ n. n ≤ left - 8 in
    let inside : field_at rest 4 4 ≤ left - 8 = subst P number fits in
    let within : field_at rest 4 4 ≤ length rest - 8 = omega arith in (
      omega arith,
      record {
        id = ap (λ xs. take 4 (drop 0 xs)) whole ∙ window rest tail room 0 4 at_most (omega arith);
        size = number;
        at = at_is;
        front = ap (λ n. take (min n front_size) (drop 8 seen.bytes)) number ∙ ap (λ xs. take (min (field_at rest 4 4) front_size) (drop 8 xs)) whole
            ∙ window rest tail room 8 (min (field_at rest 4 4) front_size) at_most (omega arith);
      },
      le_true _ _ within,
    )
