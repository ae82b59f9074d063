use Rattle.std.proofs.Common.{◌≡◌, ℕ, ◌+◌, ◌-◌, ◌<◌, ◌≤◌, Bool, true, false, List, ◌++◌, length, take, drop, Option, Some, None, inl, inr, ⊎_elim, sym, ap, ◌∙◌, subst, arith, rules}
use Rattle.std.proofs.lemmas.Bool.{false≢true}
use Rattle.std.proofs.lemmas.List.{take_rest, length-drop, length-take-le, append_assoc, drop-drop, take-append-le, places}
use Rattle.std.proofs.Math.Seq.{take-add, take-append-add}
use borrow.Rule.Slice.PartMut.{put_mid, post_of}
use Rattle.vh_files.specs.Store.{Held, told, Lacks, HasNow, TakesPart, ReadsAt, Grows, SaysMore}

-- the buffer's first `done` bytes are those of the file from this place on
pub record IsFront (bytes : List ℕ) (at done : ℕ) (buf : List ℕ) : Type 0 where
  pub bytes_are : take done buf ≡ take done (drop at bytes)
  pub within : done ≤ length (drop at bytes)

-- a buffer is being filled
pub record IsFilling (complete : Bool) (held : Held) (name : List ℕ) (at done : ℕ) (buf : List ℕ) (before now : ℕ) : Type 0 where
  pub within : done ≤ length buf
  pub bytes : (bytes : List ℕ) → told held name ≡ Some bytes → IsFront bytes at done buf
  pub later : before ≤ now
  pub lacking : Lacks complete held name → (now ≡ before) × (done ≡ 0)

-- a file has grown by the first `done` of these bytes
pub record IsGrowing (complete : Bool) (old new : Held) (name : List ℕ) (done : ℕ) (bytes : List ℕ) (before now : ℕ) : Type 0 where
  pub within : done ≤ length bytes
  pub grown : Grows complete (told old name) (told new name) (take done bytes)
  pub later : before ≤ now
  pub lacking : Lacks complete old name → (told new name ≡ told old name) × (now ≡ before)

-- the first `done` of these bytes are said
pub record IsSaying (old new : Option (List ℕ)) (done : ℕ) (bytes : List ℕ) (before now : ℕ) : Type 0 where
  pub within : done ≤ length bytes
  pub more : SaysMore old new (take done bytes)
  pub later : before ≤ now

-- what is said in two steps
pub SaysMore-append : (old mid new : Option (List ℕ)) (first second : List ℕ) → SaysMore old mid first → SaysMore mid new second → SaysMore old new (first ++ second)
SaysMore-append None mid new first second a b = let P : Option (List ℕ) → Type 0 = λ m. SaysMore m new second in subst P a b
SaysMore-append (Some had) mid new first second a b =
    let P : Option (List ℕ) → Type 0 = λ m. SaysMore m new second in
    let both : new ≡ Some ((had ++ first) ++ second) = subst P a b in
    both ∙ ap Some (append_assoc had first second)

-- a file that grows in two steps
pub Grows-append : (complete : Bool) (old mid new : Option (List ℕ)) (first second : List ℕ) → Grows complete old mid first → Grows complete mid new second → Grows complete old new (first ++ second)
Grows-append complete None mid new first second a b = let P : Option (List ℕ) → Type 0 = λ m. Grows complete m new second in subst P a b
Grows-append complete (Some had) mid new first second a b =
    let P : Option (List ℕ) → Type 0 = λ m. Grows complete m new second in
    ⊎_elim
    (λ told. let both : HasNow complete new ((had ++ first) ++ second) = subst P told b in
    ⊎_elim (λ e. inl (e ∙ ap Some (append_assoc had first second))) (λ gone. inr gone) both)
    (λ gone. inr (gone.0, subst P gone.1 b))
    a

-- one write more
pub IsSaying_more : (old mid new : Option (List ℕ)) (done n : ℕ) (bytes : List ℕ) (before was now : ℕ) → IsSaying old mid done bytes before was → TakesPart (take (length bytes - done) (drop done bytes)) n → SaysMore mid new (take n (take (length bytes - done) (drop done bytes))) → was ≤ now → IsSaying old new (done + n) bytes before now
IsSaying_more old mid new done n bytes before was now saying part more later =
    let rest : TakesPart (drop done bytes) n = rw take_rest at part in
    let said : SaysMore mid new (take n (drop done bytes)) = rw take_rest at more in
    let left : length (drop done bytes) ≡ length bytes - done = length-drop done bytes in
    let here = rest.within in
    let so = saying.within in
    let since = saying.later in
    record {
      within = omega arith;
      more = rw (take-add done n bytes) (SaysMore-append old mid new (take done bytes) (take n (drop done bytes)) saying.more said);
      later = omega arith;
    }

-- one append more, in a store that is as complete as before
pub IsGrowing_more : (complete still : Bool) (old mid new : Held) (name : List ℕ) (done n : ℕ) (bytes : List ℕ) (before was now : ℕ) → still ≡ complete → IsGrowing complete old mid name done bytes before was → TakesPart (take (length bytes - done) (drop done bytes)) n → Grows still (told mid name) (told new name) (take n (take (length bytes - done) (drop done bytes))) → was ≤ now → (Lacks still mid name → false ≡ true) → IsGrowing complete old new name (done + n) bytes before now
IsGrowing_more complete still old mid new name done n bytes before was now same growing part grew later lacking =
    let rest : TakesPart (drop done bytes) n = rw take_rest at part in
    let P : Bool → Type 0 = λ b. Grows b (told mid name) (told new name) (take n (drop done bytes)) in
    let grown : Grows complete (told mid name) (told new name) (take n (drop done bytes)) = subst P same (rw take_rest at grew) in
    let left : length (drop done bytes) ≡ length bytes - done = length-drop done bytes in
    let here = rest.within in
    let so = growing.within in
    let since = growing.later in
    record {
      within = omega arith;
      grown = rw (take-add done n bytes) (Grows-append complete (told old name) (told mid name) (told new name) (take done bytes) (take n (drop done bytes)) growing.grown grown);
      later = omega arith;
      lacking = λ lacks. absurd (false≢true (lacking (same ∙ lacks.0, (growing.lacking lacks).0 ∙ lacks.1)));
    }

-- one read more, into the rest of the buffer
pub IsFilling_more : (complete still : Bool) (held now_held : Held) (name : List ℕ) (at done n : ℕ) (buf part : List ℕ) (before was now : ℕ) → still ≡ complete → now_held ≡ held → IsFilling complete held name at done buf before was → done < length buf → length part ≡ length buf - done → n ≤ length part → ((bytes : List ℕ) → told now_held name ≡ Some bytes → ReadsAt bytes (at + done) n part) → was ≤ now → (Lacks still now_held name → false ≡ true) → IsFilling complete held name at (done + n) (put_mid done (length buf - done) buf part) before now
IsFilling_more complete still held now_held name at done n buf part before was now same kept filling room size fits reads later lacking =
    let since = filling.later in
    let front : length (take done buf) ≡ done = length-take-le done buf (omega arith) in
    let whole : length (put_mid done (length buf - done) buf part) ≡ length buf = search (rules, places) in
    record {
      within = rw whole (omega arith);
      bytes = λ bytes e.
          let read = reads bytes (ap (λ h. told h name) kept ∙ e) in
          let had = filling.bytes bytes e in
          let further : drop done (drop at bytes) ≡ drop (at + done) bytes = drop-drop done at bytes in
          let short : n ≤ length (drop (at + done) bytes) = read.within in
          let left : length (drop (at + done) bytes) ≡ length (drop at bytes) - done = ap length (sym further) ∙ length-drop done (drop at bytes) in
          let so = had.within in
          let cut : take n (part ++ post_of done (length buf - done) buf) ≡ take n part = take-append-le n part _ fits in
          let first : take (done + n) (put_mid done (length buf - done) buf part) ≡ take done buf ++ take n part = ap (λ m. take (m + n) (put_mid done (length buf - done) buf part)) (sym front) ∙ take-append-add (take done buf) (part ++ post_of done (length buf - done) buf) n ∙ ap (λ xs. take done buf ++ xs) cut in
          record {
            bytes_are = first ∙ ap (λ xs. xs ++ take n part) had.bytes_are ∙ ap (λ xs. take done (drop at bytes) ++ xs) (read.bytes_are ∙ ap (take n) (sym further)) ∙ sym (take-add done n (drop at bytes));
            within = omega arith;
          };
      later = omega arith;
      lacking = λ lacks. absurd (false≢true (lacking (same ∙ lacks.0, ap (λ h. told h name) kept ∙ lacks.1)));
    }
