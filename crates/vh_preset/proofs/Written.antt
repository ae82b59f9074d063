-- The chunks that the writer goes over.
use Rattle.std.proofs.Common.{◌≡◌, ℕ, ◌+◌, ◌<◌, List, [], ◌∷◌, ◌++◌, ◌≤◌, ◌^◌, length, take, get_or, map, Option, Some, None, refl, sym, ap, ◌∙◌, arith, append_assoc}
use Rattle.std.specs.Prelude.{codes}
use Rattle.std.specs.List.{flat_map, sum_by}
use Rattle.std.proofs.lemmas.List.{take_more, append-nil, length-append, length-map}
use Rattle.std.proofs.lemmas.List.Sums.{sum_by-cons, sum_by-append, sum_by_more}
use Rattle.std.proofs.lemmas.List.Folds.{flat_map-map}
use Rattle.vh_preset.specs.declared.writer.Part.{Part as Given}
use Rattle.vh_ids.specs.declared.tuid.Tuid.{Tuid}
use Rattle.vh_preset.specs.Chunks.{Chunks, Part, parts_of, present, size_of, chunk_size, chunks_size}
use Rattle.vh_preset.specs.Parts.{part_of, given_size, given_bytes}
use Rattle.vh_preset.specs.Text.{head_text, entry_text, entries_text, list_text, file_text, preset_text}

-- one more entry
entries_push : (at : ℕ) (parts : List Given) (part : Given) → entries_text at (map part_of parts) ++ entry_text (at + given_size parts) (part_of part) ≡ entries_text at (map part_of (parts ++ part ∷ []))
entries_push at [] part = ap (λ n. entry_text n (part_of part)) (let none : at + given_size [] ≡ at = omega arith in none) ∙ sym (append-nil (entry_text at (part_of part)))
entries_push at (p ∷ ps) part =
    let behind : ℕ = at + length p.bytes.now in
    let size = sum_by-cons (λ (q : Given). length q.bytes.now) p ps in
    let place : at + given_size (p ∷ ps) ≡ behind + given_size ps = omega (arith, size) in
    append_assoc (entry_text at (part_of p)) (entries_text behind (map part_of ps)) (entry_text (at + given_size (p ∷ ps)) (part_of part))
    ∙ ap (λ x. entry_text at (part_of p) ++ x) (ap (λ n. entries_text behind (map part_of ps) ++ entry_text n (part_of part)) place ∙ entries_push behind ps part)

-- a step of the loop over the entries
pub entries_step : (start file longer : List ℕ) (parts : List Given) (i here : ℕ) (d : Given) → i < length parts → here ≡ 48 + given_size (take i parts)
    → file ≡ start ++ entries_text 48 (map part_of (take i parts)) → longer ≡ file ++ entry_text here (part_of (get_or parts i d)) → longer ≡ start ++ entries_text 48 (map part_of (take (i + 1) parts))
entries_step start file longer parts i here d within place so_far is =
    let front : List Given = take i parts in
    let part : Given = get_or parts i d in
    is
    ∙ ap (λ xs. xs ++ entry_text here (part_of part)) so_far
    ∙ append_assoc start (entries_text 48 (map part_of front)) (entry_text here (part_of part))
    ∙ ap (λ n. start ++ (entries_text 48 (map part_of front) ++ entry_text n (part_of part))) place
    ∙ ap (λ xs. start ++ xs) (entries_push 48 front part)
    ∙ ap (λ ps. start ++ entries_text 48 (map part_of ps)) (sym (take_more parts i d within))

pub place_step : (parts : List Given) (i here : ℕ) (d : Given) → i < length parts → here ≡ 48 + given_size (take i parts) → here + length (get_or parts i d).bytes.now ≡ 48 + given_size (take (i + 1) parts)
place_step parts i here d within place = let more = sum_by_more (λ (part : Given). length part.bytes.now) parts i d within in omega (arith, more)

pub same_size : (parts : List Given) → given_size parts ≡ size_of (map part_of parts)
same_size [] = refl
same_size (p ∷ ps) =
    sum_by-cons (λ (q : Given). length q.bytes.now) p ps ∙ ap (λ n. length p.bytes.now + n) (same_size ps) ∙ sym (sum_by-cons (λ (q : Part). length q.bytes) (part_of p) (map part_of ps))

pub same_bytes : (parts : List Given) → given_bytes parts ≡ flat_map (λ part. part.bytes) (map part_of parts)
same_bytes parts = sym (flat_map-map (λ part. part.bytes) part_of parts)

-- the file is the head, the chunks and their list
pub whole_file : (class : Tuid) (parts : List Given) (chunks : Chunks) (size : ℕ) (none head bytes file : List ℕ) → map part_of parts ≡ parts_of chunks → size ≡ given_size parts
    → none ≡ [] → head ≡ none ++ head_text class (48 + size) → bytes ≡ head ++ given_bytes parts → file ≡ bytes ++ list_text (map part_of parts) → file ≡ preset_text class chunks
unfolding preset_text
whole_file class parts chunks size none head bytes file are total empty with_head with_bytes with_list =
    let ps : List Part = map part_of parts in
    let sized : size ≡ size_of ps = total ∙ same_size parts in
    with_list
    ∙ ap (λ xs. xs ++ list_text ps) (with_bytes ∙ ap (λ xs. xs ++ given_bytes parts) (with_head ∙ ap (λ xs. xs ++ head_text class (48 + size)) empty))
    ∙ append_assoc (head_text class (48 + size)) (given_bytes parts) (list_text ps)
    ∙ ap (λ n. head_text class (48 + n) ++ (given_bytes parts ++ list_text ps)) sized
    ∙ ap (λ xs. head_text class (48 + size_of ps) ++ (xs ++ list_text ps)) (same_bytes parts)
    ∙ ap (file_text class) are

-- how many bytes the chunks have
one_size : (id : List ℕ) (chunk : Option (List ℕ)) → size_of (present id chunk) ≡ chunk_size chunk
one_size id None = refl
one_size id (Some bytes) = omega arith

pub all_size : (chunks : Chunks) → size_of (parts_of chunks) ≡ chunks_size chunks
all_size chunks =
    let size : Part → ℕ = λ part. length part.bytes in
    let a = present (codes "Comp") chunks.comp in
    let b = present (codes "Cont") chunks.cont in
    let c = present (codes "Prog") chunks.prog in
    let d = present (codes "Info") chunks.info in
    sum_by-append size (a ++ b ++ c) d
    ∙ omega (arith, sum_by-append size (a ++ b) c, sum_by-append size a b, one_size (codes "Comp") chunks.comp, one_size (codes "Cont") chunks.cont, one_size (codes "Prog") chunks.prog, one_size (codes "Info") chunks.info)

one_most : (id : List ℕ) (chunk : Option (List ℕ)) → length (present id chunk) ≤ 1
one_most id None = omega arith
one_most id (Some bytes) = omega arith

pub four_most : (chunks : Chunks) → length (parts_of chunks) ≤ 4
four_most chunks =
    let a = present (codes "Comp") chunks.comp in
    let b = present (codes "Cont") chunks.cont in
    let c = present (codes "Prog") chunks.prog in
    let d = present (codes "Info") chunks.info in
    omega (arith, length-append (a ++ b ++ c) d, length-append (a ++ b) c, length-append a b, one_most (codes "Comp") chunks.comp, one_most (codes "Cont") chunks.cont, one_most (codes "Prog") chunks.prog, one_most (codes "Info") chunks.info)

-- what the writer asks of the chunks that it goes over
pub given_small : (given parts : List Given) (chunks : Chunks) → given ≡ parts → map part_of parts ≡ parts_of chunks → chunks_size chunks ≤ 2 ^ 30 → given_size given ≤ 2 ^ 30
given_small given parts chunks is are small =
    let same : given_size given ≡ chunks_size chunks = ap given_size is ∙ same_size parts ∙ ap size_of are ∙ all_size chunks in
    omega (arith, same)

pub given_few : (parts : List Given) (chunks : Chunks) → map part_of parts ≡ parts_of chunks → length parts ≤ 4
given_few parts chunks are =
    let same : length parts ≡ length (parts_of chunks) = sym (length-map parts part_of) ∙ ap length are in
    omega (arith, same, four_most chunks)
