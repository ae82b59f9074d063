-- The chunk of an id among those that are present.
use Rattle.std.proofs.Common.{◌≡◌, ℕ, ◌<◌, ◌≤◌, Bool, true, false, cond, List, [], ◌∷◌, ◌++◌, length, get_or, Option, Some, None, refl, sym, ap, subst, ◌∙◌, arith}
use Rattle.std.specs.Prelude.{All, codes, option_map, if◌then◌else◌}
use Rattle.std.specs.List.{find}
use Rattle.std.specs.Str.{bytes_eq}
use Rattle.std.proofs.lemmas.List.{append_assoc, length-append}
use Rattle.std.proofs.lemmas.List.Elements.{All-append, All-cons}
use Rattle.std.proofs.lemmas.Slice.Eq.{bytes_eq-Decides}
use Rattle.vh_preset.specs.Chunks.{Chunks, Part, chunk_of, parts_of, present}
use Rattle.vh_preset.proofs.ReadBack.{HaveIds}

-- the chunk of an id
abbrev pub part_in : List Part → List ℕ → Option (List ℕ)
part_in parts id = option_map (λ part. part.bytes) (find (λ part. bytes_eq part.id id) parts)

-- the chunks one by one
abbrev rest_info : Chunks → List Part
rest_info chunks = present (codes "Info") chunks.info

abbrev rest_prog : Chunks → List Part
rest_prog chunks = present (codes "Prog") chunks.prog ++ rest_info chunks

abbrev rest_cont : Chunks → List Part
rest_cont chunks = present (codes "Cont") chunks.cont ++ rest_prog chunks

abbrev all_parts : Chunks → List Part
all_parts chunks = present (codes "Comp") chunks.comp ++ rest_cont chunks

in_order : (chunks : Chunks) → parts_of chunks ≡ all_parts chunks
in_order chunks =
    let a = present (codes "Comp") chunks.comp in
    let b = present (codes "Cont") chunks.cont in
    let c = present (codes "Prog") chunks.prog in
    let d = present (codes "Info") chunks.info in
    append_assoc (a ++ b) c d ∙ append_assoc a b (c ++ d)

-- a chunk of another id is passed over
skip : (first id : List ℕ) (chunk : Option (List ℕ)) (rest : List Part) → bytes_eq first id ≡ false → part_in (present first chunk ++ rest) id ≡ part_in rest id
skip first id None rest other = refl
skip first id (Some bytes) rest other = ap (λ t. option_map (λ (part : Part). part.bytes) (cond t (Some (record { id = first; bytes = bytes })) (find (λ (part : Part). bytes_eq part.id id) rest))) other

-- the chunk of this id, which no other has
here : (first id : List ℕ) (chunk : Option (List ℕ)) (rest : List Part) → bytes_eq first id ≡ true → part_in rest id ≡ None → part_in (present first chunk ++ rest) id ≡ chunk
here first id None rest same none = none
here first id (Some bytes) rest same none = ap (λ t. option_map (λ (part : Part). part.bytes) (cond t (Some (record { id = first; bytes = bytes })) (find (λ (part : Part). bytes_eq part.id id) rest))) same

equal : (first id : List ℕ) → bytes_eq first id ≡ true → first ≡ id
equal first id h = (bytes_eq-Decides first id).0 h

no_info : (chunks : Chunks) (id : List ℕ) → bytes_eq (codes "Info") id ≡ false → part_in (rest_info chunks) id ≡ None
no_info chunks id other = elim chunks.info as (λ o. part_in (present (codes "Info") o) id ≡ None) [ None ↦ refl | Some bytes ↦ ap (λ t. option_map (λ (part : Part). part.bytes) (cond t (Some (record { id = codes "Info"; bytes = bytes })) None)) other ]

no_prog : (chunks : Chunks) (id : List ℕ) → bytes_eq (codes "Prog") id ≡ false → bytes_eq (codes "Info") id ≡ false → part_in (rest_prog chunks) id ≡ None
no_prog chunks id prog info = skip (codes "Prog") id chunks.prog (rest_info chunks) prog ∙ no_info chunks id info

no_cont : (chunks : Chunks) (id : List ℕ) → bytes_eq (codes "Cont") id ≡ false → bytes_eq (codes "Prog") id ≡ false → bytes_eq (codes "Info") id ≡ false → part_in (rest_cont chunks) id ≡ None
no_cont chunks id cont prog info = skip (codes "Cont") id chunks.cont (rest_prog chunks) cont ∙ no_prog chunks id prog info

module _ (chunks : Chunks) (id : List ℕ) where
  at_info : (t : Bool) → bytes_eq (codes "Info") id ≡ t → part_in (rest_info chunks) id ≡ (if t then chunks.info else None)
  at_info true same = elim chunks.info as (λ o. part_in (present (codes "Info") o) id ≡ o) [ None ↦ refl | Some bytes ↦ ap (λ t. option_map (λ (part : Part). part.bytes) (cond t (Some (record { id = codes "Info"; bytes = bytes })) None)) same ]
  at_info false other = no_info chunks id other

  at_prog : (t u : Bool) → bytes_eq (codes "Prog") id ≡ t → bytes_eq (codes "Info") id ≡ u → part_in (rest_prog chunks) id ≡ (if t then chunks.prog else (if u then chunks.info else None))
  at_prog true u same info = here (codes "Prog") id chunks.prog (rest_info chunks) same (subst (λ (i : List ℕ). part_in (rest_info chunks) i ≡ None) (equal _ _ same) (no_info chunks (codes "Prog") refl))
  at_prog false u other info = skip (codes "Prog") id chunks.prog (rest_info chunks) other ∙ at_info u info

  at_cont : (t u v : Bool) → bytes_eq (codes "Cont") id ≡ t → bytes_eq (codes "Prog") id ≡ u → bytes_eq (codes "Info") id ≡ v
      → part_in (rest_cont chunks) id ≡ (if t then chunks.cont else (if u then chunks.prog else (if v then chunks.info else None)))
  at_cont true u v same prog info = here (codes "Cont") id chunks.cont (rest_prog chunks) same (subst (λ (i : List ℕ). part_in (rest_prog chunks) i ≡ None) (equal _ _ same) (no_prog chunks (codes "Cont") refl refl))
  at_cont false u v other prog info = skip (codes "Cont") id chunks.cont (rest_prog chunks) other ∙ at_prog u v prog info

  at_comp : (t u v w : Bool) → bytes_eq (codes "Comp") id ≡ t → bytes_eq (codes "Cont") id ≡ u → bytes_eq (codes "Prog") id ≡ v → bytes_eq (codes "Info") id ≡ w
      → part_in (all_parts chunks) id ≡ (if t then chunks.comp else (if u then chunks.cont else (if v then chunks.prog else (if w then chunks.info else None))))
  at_comp true u v w same cont prog info = here (codes "Comp") id chunks.comp (rest_cont chunks) same (subst (λ (i : List ℕ). part_in (rest_cont chunks) i ≡ None) (equal _ _ same) (no_cont chunks (codes "Comp") refl refl refl))
  at_comp false u v w other cont prog info = skip (codes "Comp") id chunks.comp (rest_cont chunks) other ∙ at_cont u v w cont prog info

  pub part_found : part_in (parts_of chunks) id ≡ chunk_of chunks id
  part_found = ap (λ parts. part_in parts id) (in_order chunks) ∙ at_comp _ _ _ _ refl refl refl refl

-- the ids have four bytes
one_id : (id : List ℕ) (chunk : Option (List ℕ)) → length id ≡ 4 → HaveIds (present id chunk)
one_id id None four = λ k d within. absurd (omega arith)
one_id id (Some bytes) four = All-cons (λ (part : Part). length part.id ≡ 4) (record { id = id; bytes = bytes }) [] four (λ k d within. absurd (omega arith))

pub four_ids : (chunks : Chunks) → HaveIds (parts_of chunks)
four_ids chunks =
    let a = present (codes "Comp") chunks.comp in
    let b = present (codes "Cont") chunks.cont in
    let c = present (codes "Prog") chunks.prog in
    let d = present (codes "Info") chunks.info in
    let has : Part → Type 0 = λ part. length part.id ≡ 4 in
    All-append has (a ++ b ++ c) d (All-append has (a ++ b) c (All-append has a b (one_id (codes "Comp") chunks.comp refl) (one_id (codes "Cont") chunks.cont refl)) (one_id (codes "Prog") chunks.prog refl)) (one_id (codes "Info") chunks.info refl)
