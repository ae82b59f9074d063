-- A file that is written part by part.
use Rattle.std.proofs.Common.{◌≡◌, ◌≢◌, ◌∙◌, ℕ, zero, suc, ◌+◌, ◌*◌, ◌/◌, ◌%◌, ◌<◌, Bool, true, false, eqb, List, [], ◌∷◌, ◌++◌, length, map, take, replicate, Option, Some, None, Result, Err, inl, inr, ⊎_elim, refl, sym, ap, subst, append_assoc, arith}
use Rattle.std.specs.List.{range_with_len}
use Rattle.std.specs.Result.{OnErr}
use Rattle.std.proofs.lemmas.Bool.{false≢true, eqb-true, eqb-false}
use Rattle.std.proofs.lemmas.Grind.{flat_map-append}
use Rattle.std.proofs.lemmas.List.{map-append, length-append, take-append-le, append-nil}
use Rattle.std.proofs.lemmas.List.FromFn.{length-map-range_with_len}
use Rattle.std.proofs.Math.Seq.{take-append-add}
use Rattle.vh_files.specs.Store.{Held, told, Lacks, HasNow, Grows, GrowsInPart}
use Rattle.vh_files.proofs.Loops.{Grows-append}
use Rattle.vh_num.specs.Frames.{Frame}
use Rattle.vh_wav.specs.Text.{frames_text, frame_text, head_text, wav_text, data_size}
use Rattle.vh_plugin.specs.Class.{Class}
use Rattle.vh_meaning.specs.Rendering.{rendering, out_at}
use Rattle.vh_engine.specs.Kept.{Kept, scene_in}
use Rattle.vh_render.specs.declared.score.Score.{Score}
use Rattle.vh_render.specs.Playing.{IsScoreOf, HasPart, file_text}

-- numbers in a row, in two parts
pub ranges : (a m n : ℕ) → range_with_len a (m + n) ≡ range_with_len a m ++ range_with_len (a + m) n
ranges a zero n = let e : zero + n ≡ n = omega arith in let f : a ≡ a + zero = omega arith in ap (range_with_len a) e ∙ ap (λ b. range_with_len b n) f
ranges a (suc m) n =
    let e : suc m + n ≡ suc (m + n) = omega arith in
    let f : a + 1 + m ≡ a + suc m = omega arith in
    ap (range_with_len a) e ∙ ap (λ (l : List ℕ). a ∷ l) (ranges (a + 1) m n ∙ ap (λ b. range_with_len (a + 1) m ++ range_with_len b n) f)

-- the bytes of frames up to a sample, and of those behind it
pub text_more : (bits : ℕ) (frame : ℕ → Frame) (at n past : ℕ) → at + n ≡ past
    → frames_text bits (map frame (range_with_len 0 at)) ++ frames_text bits (map frame (range_with_len at n)) ≡ frames_text bits (map frame (range_with_len 0 past))
text_more bits frame at n past end =
    sym (flat_map-append (frame_text bits) (map frame (range_with_len 0 at)) (map frame (range_with_len at n)))
    ∙ ap (λ (l : List Frame). frames_text bits l) (sym (map-append frame (range_with_len 0 at) (range_with_len at n)))
    ∙ ap (λ (l : List ℕ). frames_text bits (map frame l)) (ap (λ b. range_with_len 0 at ++ range_with_len b n) (let e : at ≡ 0 + at = omega arith in e) ∙ sym (ranges 0 at n) ∙ ap (range_with_len 0) end)

-- a part of what comes next, behind what was written
pub part_after : (first bytes rest whole : List ℕ) (n : ℕ) → (first ++ bytes) ++ rest ≡ whole → n < length bytes → (length first + n < length whole) × (first ++ take n bytes ≡ take (length first + n) whole)
part_after first bytes rest whole n all below =
    let sum = length-append (first ++ bytes) rest in
    let front = length-append first bytes in
    let total : length ((first ++ bytes) ++ rest) ≡ length whole = ap length all in
    let same : first ++ (bytes ++ rest) ≡ whole = sym (append_assoc first bytes rest) ∙ all in
    let cut : take n (bytes ++ rest) ≡ take n bytes = take-append-le n bytes rest (omega (arith, below)) in (
      omega (arith, sum, front, total, below),
      ap (λ (l : List ℕ). first ++ l) (sym cut) ∙ sym (take-append-add first (bytes ++ rest) n) ∙ ap (λ (l : List ℕ). take (length first + n) l) same,
    )

-- ---- a file that grows, in a store that is as complete as before
pub grows_more : (complete still : Bool) (old mid new : Option (List ℕ)) (first second : List ℕ) → still ≡ complete → Grows complete old mid first → Grows still mid new second → Grows complete old new (first ++ second)
grows_more complete still old mid new first second same grown more =
    let P : Bool → Type 0 = λ b. Grows b mid new second in
    Grows-append complete old mid new first second grown (subst P same more)

pub grows_in_part : (complete still : Bool) (old mid new : Option (List ℕ)) (first bytes rest whole : List ℕ) → still ≡ complete → (first ++ bytes) ++ rest ≡ whole
    → Grows complete old mid first → GrowsInPart still mid new bytes → GrowsInPart complete old new whole
grows_in_part complete still old mid new first bytes rest whole same all grown part =
    let n : ℕ = part.0 in
    let cut = part_after first bytes rest whole n all part.1 in
    let P : List ℕ → Type 0 = λ l. Grows complete old new l in
    (length first + n, cut.0, subst P cut.1 (grows_more complete still old mid new first (take n bytes) same grown part.2))

-- nothing was added as yet
pub grows_none : (complete : Bool) (now : Option (List ℕ)) → Grows complete now now []
grows_none complete None = refl
grows_none complete (Some had) = inl (ap Some (sym (append-nil had)))

-- ---- a file that was created
pub has_more : (complete still : Bool) (now after : Option (List ℕ)) (had bytes : List ℕ) → still ≡ complete → HasNow complete now had → Grows still now after bytes → HasNow complete after (had ++ bytes)
has_more complete still now after had bytes same has grown =
    let B : Bool → Type 0 = λ b. Grows b now after bytes in
    let here : Grows complete now after bytes = subst B same grown in
    let P : Option (List ℕ) → Type 0 = λ o. Grows complete o after bytes in
    ⊎_elim (λ is. subst P is here) (λ gone. inr (gone.0, subst P gone.1 here)) has

pub has_part : (complete still : Bool) (now after : Option (List ℕ)) (had bytes rest whole : List ℕ) → still ≡ complete → (had ++ bytes) ++ rest ≡ whole
    → HasNow complete now had → GrowsInPart still now after bytes → HasPart complete after whole
has_part complete still now after had bytes rest whole same all has part =
    let n : ℕ = part.0 in
    let cut = part_after had bytes rest whole n all part.1 in
    let P : List ℕ → Type 0 = λ l. HasNow complete after l in
    (length had + n, cut.0, subst P cut.1 (has_more complete still now after had (take n bytes) same has part.2))

-- its head
pub has_head : (complete still : Bool) (now after : Option (List ℕ)) (head text : List ℕ) → still ≡ complete → HasNow complete now [] → Grows still now after head → head ≡ text → HasNow complete after text
has_head complete still now after head text same has grown is =
    let P : List ℕ → Type 0 = λ l. HasNow complete after l in
    subst P is (has_more complete still now after [] head same has grown)

-- it is there
pub not_lacking : (complete : Bool) (held : Held) (name had : List ℕ) → HasNow complete (told held name) had → ¬ Lacks complete held name
not_lacking complete held name had has lacks =
    ⊎_elim (λ (is : told held name ≡ Some had). let e : None ≡ Some had = sym lacks.1 ∙ is in absurd cc) (λ gone. false≢true (sym gone.0 ∙ lacks.0)) has

-- ---- the text of a rendering
pub pad_of : ℕ → ℕ → ℕ → List ℕ
pad_of channels bits count = replicate (data_size channels bits count % 2) 0

pub text_is : (channels rate bits count : ℕ) (frames : List Frame) → length frames ≡ count
    → (head_text channels rate bits count ++ frames_text bits frames) ++ pad_of channels bits count ≡ wav_text channels rate bits frames
unfolding wav_text pad_of
text_is channels rate bits count frames long =
    append_assoc (head_text channels rate bits count) (frames_text bits frames) (replicate (data_size channels bits count % 2) 0)
    ∙ ap (λ n. head_text channels rate bits n ++ (frames_text bits frames ++ replicate (data_size channels bits n % 2) 0)) (sym long)

-- so for a score
pub file_is : (class_of : ℕ → Class) (kept : Kept) (input : List Frame) (score : Score) → IsScoreOf kept score
    → (head_text score.sound.now.channels score.rate score.bits score.length ++ frames_text score.bits (rendering (scene_in class_of kept) input score.entries.now)) ++ pad_of score.sound.now.channels score.bits score.length
    ≡ file_text (scene_in class_of kept) input score
file_is class_of kept input score of =
    let scene = scene_in class_of kept in
    let frames = rendering scene input score.entries.now in
    let long : length frames ≡ score.length = length-map-range_with_len (out_at scene input score.entries.now) 0 kept.session.length ∙ sym of.samples in
    text_is score.sound.now.channels score.rate score.bits score.length frames long ∙ ap (λ channels. wav_text channels score.rate score.bits frames) of.channels

pub pad_odd : (channels bits count : ℕ) → eqb (count * (channels * (bits / 8)) % 2) 1 ≡ true → pad_of channels bits count ≡ 0 ∷ []
unfolding pad_of
pad_odd channels bits count odd = ap (λ n. replicate n 0) (eqb-true (count * (channels * (bits / 8)) % 2) 1 odd)

pub pad_even : (channels bits count : ℕ) → eqb (count * (channels * (bits / 8)) % 2) 1 ≡ false → pad_of channels bits count ≡ []
unfolding pad_of
pad_even channels bits count even =
    let size : ℕ = count * (channels * (bits / 8)) in
    let other : size % 2 ≢ 1 = eqb-false (size % 2) 1 even in
    let none : size % 2 ≡ 0 = omega (arith, other) in
    ap (λ n. replicate n 0) none

-- with its pad, and where it has none
pub file_odd : (class_of : ℕ → Class) (kept : Kept) (input : List Frame) (score : Score) → IsScoreOf kept score → eqb (score.length * (score.sound.now.channels * (score.bits / 8)) % 2) 1 ≡ true
    → (head_text score.sound.now.channels score.rate score.bits score.length ++ frames_text score.bits (rendering (scene_in class_of kept) input score.entries.now)) ++ 0 ∷ [] ≡ file_text (scene_in class_of kept) input score
file_odd class_of kept input score of odd =
    let before = head_text score.sound.now.channels score.rate score.bits score.length ++ frames_text score.bits (rendering (scene_in class_of kept) input score.entries.now) in
    ap (λ (l : List ℕ). before ++ l) (sym (pad_odd score.sound.now.channels score.bits score.length odd)) ∙ file_is class_of kept input score of

pub file_even : (class_of : ℕ → Class) (kept : Kept) (input : List Frame) (score : Score) → IsScoreOf kept score → eqb (score.length * (score.sound.now.channels * (score.bits / 8)) % 2) 1 ≡ false
    → head_text score.sound.now.channels score.rate score.bits score.length ++ frames_text score.bits (rendering (scene_in class_of kept) input score.entries.now) ≡ file_text (scene_in class_of kept) input score
file_even class_of kept input score of even =
    let before = head_text score.sound.now.channels score.rate score.bits score.length ++ frames_text score.bits (rendering (scene_in class_of kept) input score.entries.now) in
    sym (append-nil before) ∙ ap (λ (l : List ℕ). before ++ l) (sym (pad_even score.sound.now.channels score.bits score.length even)) ∙ file_is class_of kept input score of

-- a file that is there and grows stays there
pub there_still : (complete still : Bool) (held now : Held) (name bytes : List ℕ) → still ≡ complete → ¬ Lacks complete held name → Grows complete (told held name) (told now name) bytes → ¬ Lacks still now name
there_still complete still held now name bytes same there grown lacks =
    let whole : complete ≡ true = sym same ∙ lacks.0 in
    elim (told held name) as (λ o. told held name ≡ o → Grows complete o (told now name) bytes → ⊥) [
      | None ↦ λ is _. there (whole, is)
      | Some had ↦ λ _ has. not_lacking complete now name (had ++ bytes) has (whole, lacks.1)
    ] refl grown

-- what holds where a call failed
pub on_err : {T E : Type 0} (result : Result T E) (error : E) (P : Type 0) → result ≡ Err error → P → OnErr result P
on_err result error P is holds = subst (λ r. OnErr r P) (sym is) holds
