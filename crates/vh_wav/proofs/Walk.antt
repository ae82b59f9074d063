use Rattle.std.proofs.Common.{◌≡◌, ℕ, zero, suc, ◌+◌, ◌%◌, ◌<◌, ◌≤◌, true, false, ltb, List, [], ◌∷◌, length, drop, Option, Some, None, Result, Ok, Err, refl, sym, ap, subst, ◌∙◌, arith}
use Rattle.std.specs.Result.{IsErrAnd}
use Rattle.std.proofs.lemmas.List.{drop-drop, drop_all}
use Rattle.std.proofs.lemmas.Bool.Decides.{Decides-ltb}
use Rattle.vh_files.specs.Fields.{field_at}
use Rattle.vh_wav.specs.declared.head.Head.{Head}
use Rattle.vh_wav.specs.declared.head.Format.{Format}
use Rattle.vh_wav.specs.declared.head.Judged.{Judged}
use Rattle.vh_wav.specs.declared.head.WavFault.{WavFault}
use Rattle.vh_wav.specs.declared.head.WavFault.TheVariants.{Truncated, NotRiff}
use Rattle.vh_wav.specs.declared.head.HeadRefused.{HeadRefused}
use Rattle.vh_wav.specs.declared.head.HeadRefused.TheVariants.{Wav, Failed}
use Rattle.vh_wav.specs.Chunks.{Chunk, chunk_at, chunks_after}
use Rattle.vh_wav.specs.Judged.{wav_head, is_riff, verdict, missing}
use Rattle.vh_wav.specs.Heads.{IsRead, IsSeen, IsVerdict, continued}
use Rattle.vh_wav.specs.declared.chunk.Chunk.{Chunk as Seen}

-- what is skipped may as well be dropped
chunks_after-skip : (skip at : ℕ) (bytes : List ℕ) → chunks_after skip at bytes ≡ chunks_after 0 (at + skip) (drop skip bytes)
chunks_after-skip zero at [] = refl
chunks_after-skip (suc skip) at [] = refl
chunks_after-skip zero at (b ∷ bs) = ap (λ n. chunks_after 0 n (b ∷ bs)) (omega arith)
chunks_after-skip (suc skip) at (b ∷ bs) = chunks_after-skip skip (at + 1) bs ∙ ap (λ n. chunks_after 0 n (drop skip bs)) (omega arith)

lt_true : (a b : ℕ) → a < b → ltb a b ≡ true
lt_true a b h = (Decides-ltb a b).1 h

lt_false : (a b : ℕ) → b ≤ a → ltb a b ≡ false
lt_false a b h = elim (ltb a b) as (λ t. (t ≡ true → a < b) → t ≡ false) [ true ↦ λ f. absurd (let lt : a < b = f refl in omega arith) | false ↦ λ f. refl ] (Decides-ltb a b).0

-- how far the next chunk is
abbrev pub step_of : List ℕ → ℕ
step_of bytes = 8 + (field_at bytes 4 4 + field_at bytes 4 4 % 2)

pub chunks_next : (at : ℕ) (bytes : List ℕ) → 8 ≤ length bytes → chunks_after 0 at bytes ≡ chunk_at at bytes ∷ chunks_after 0 (at + step_of bytes) (drop (step_of bytes) bytes)
chunks_next at [] h = absurd (omega arith)
chunks_next at (b ∷ bs) h =
    let size = field_at (b ∷ bs) 4 4 in
    let enough : ltb (length bs) 7 ≡ false = lt_false (length bs) 7 (omega arith) in
    let far : drop (step_of (b ∷ bs)) (b ∷ bs) ≡ drop (7 + (size + size % 2)) bs = ap (λ n. drop n (b ∷ bs)) (let e : 8 + (size + size % 2) ≡ suc (7 + (size + size % 2)) = omega arith in e) in
    rw enough (ap (λ cs. chunk_at at (b ∷ bs) ∷ cs) (chunks_after-skip (7 + (size + size % 2)) (at + 1) bs ∙ ap (λ n. chunks_after 0 n (drop (7 + (size + size % 2)) bs)) (omega arith) ∙ ap (chunks_after 0 (at + step_of (b ∷ bs))) (sym far)))

chunks_end : (at : ℕ) (bytes : List ℕ) → length bytes < 8 → chunks_after 0 at bytes ≡ []
chunks_end at [] h = refl
chunks_end at (b ∷ bs) h = let few : ltb (length bs) 7 ≡ true = lt_true (length bs) 7 (omega arith) in rw few refl

-- the walk begins behind the marks
pub walk_begins : (bytes : List ℕ) → is_riff bytes ≡ true → verdict None (chunks_after 0 12 (drop 12 bytes)) ≡ wav_head bytes
unfolding wav_head
walk_begins bytes marks = rw marks (ap (verdict None) (sym (chunks_after-skip 12 0 bytes)))

pub no_marks : (bytes : List ℕ) → is_riff bytes ≡ false → wav_head bytes ≡ Err NotRiff
unfolding wav_head
no_marks bytes none = rw none refl

verdict_truncated : (format : Option Format) (c : Chunk) (cs : List Chunk) → c.fits ≡ false → verdict format (c ∷ cs) ≡ Err Truncated
verdict_truncated None c cs short = rw short refl
verdict_truncated (Some format) c cs short = rw short refl

-- the walk at a place, where the rest decides the whole
module _ (bytes : List ℕ) (at : ℕ) (format : Option Format) (rest_decides : verdict format (chunks_after 0 at (drop at bytes)) ≡ wav_head bytes) where
  -- a chunk that passes the end
  pub walk_refused : (refused : HeadRefused) → IsRead bytes at (Err refused) → IsVerdict (wav_head bytes) (Err refused)
  walk_refused Failed h = tt
  walk_refused (Wav fault) h =
      let c = chunk_at at (drop at bytes) in
      let cs = chunks_after 0 (at + step_of (drop at bytes)) (drop (step_of (drop at bytes)) (drop at bytes)) in
      let next : chunks_after 0 at (drop at bytes) ≡ c ∷ cs = chunks_next at (drop at bytes) h.1 in
      let short : verdict format (c ∷ cs) ≡ Err Truncated = verdict_truncated format c cs h.2 in
      sym rest_decides ∙ (ap (verdict format) next ∙ (short ∙ ap (λ f. Err f) (sym h.0)))

  -- no further chunk
  pub walk_ends : IsRead bytes at (Ok None) → wav_head bytes ≡ Err (missing format)
  walk_ends h = sym rest_decides ∙ ap (verdict format) (chunks_end at (drop at bytes) h)

  -- a chunk decides, or the rest does
  pub walk_goes : (seen : Seen) (result : Result Judged WavFault) → IsRead bytes at (Ok (Some seen)) → ((is : Chunk) (rest : List Chunk) → IsSeen seen is → is.fits ≡ true → verdict format (is ∷ rest) ≡ continued result rest) → (next : ℕ) → next ≡ seen.at + (field_at seen.bytes 4 4 + field_at seen.bytes 4 4 % 2) → continued result (chunks_after 0 next (drop next bytes)) ≡ wav_head bytes
  walk_goes seen result h value next e =
      let c = chunk_at at (drop at bytes) in
      let is : IsSeen seen c = h.1 in
      let step = step_of (drop at bytes) in
      let size : field_at seen.bytes 4 4 ≡ field_at (drop at bytes) 4 4 = is.size in
      let place : seen.at ≡ at + 8 = is.at in
      let far : next ≡ at + step = e ∙ ap (λ n. seen.at + (n + n % 2)) size ∙ ap (λ n. n + (field_at (drop at bytes) 4 4 + field_at (drop at bytes) 4 4 % 2)) place ∙ omega arith in
      let cs = chunks_after 0 (at + step) (drop step (drop at bytes)) in
      let here : verdict format (c ∷ cs) ≡ continued result cs = value c cs is h.2 in
      let there : chunks_after 0 next (drop next bytes) ≡ cs = ap (λ n. chunks_after 0 n (drop n bytes)) far ∙ ap (chunks_after 0 (at + step)) (sym (drop-drop step at bytes)) in
      ap (continued result) there ∙ (sym here ∙ (ap (verdict format) (sym (chunks_next at (drop at bytes) h.0)) ∙ rest_decides))

-- where the next chunk would stand behind the end there is none
pub walk_over : (bytes : List ℕ) (format : Option Format) (next : ℕ) → length bytes < next → verdict format (chunks_after 0 next (drop next bytes)) ≡ wav_head bytes → wav_head bytes ≡ Err (missing format)
walk_over bytes format next past e = sym e ∙ ap (λ xs. verdict format (chunks_after 0 next xs)) (drop_all next bytes (omega arith))

pub verdict_of : (result : Result Head HeadRefused) (fault : WavFault) (verdict : Result Head WavFault) → verdict ≡ Err fault → IsErrAnd result (λ refused. refused ≡ Wav fault) → IsVerdict verdict result
verdict_of (Ok head) fault verdict e h = absurd h
verdict_of (Err refused) fault verdict e h = let P : HeadRefused → Type 0 = λ r. IsVerdict verdict (Err r) in subst P (sym h) e
