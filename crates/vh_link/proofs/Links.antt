-- Reading and writing through a link.
use Rattle.std.proofs.Common.{◌≡◌, ◌≢◌, ◌∙◌, ℕ, zero, suc, ◌+◌, ◌*◌, ◌-◌, ◌<◌, ◌≤◌, min, Bool, true, false, cond, List, [], ◌∷◌, ◌++◌, length, take, drop, map, Option, Some, None, Result, Ok, Err, get_or, ℤ, refl, sym, ap, subst, append_assoc, arith, inl, inr, ⊎_elim, ◌⊎◌}
use Rattle.std.proofs.lemmas.Bool.{false≢true}
use Rattle.std.proofs.lemmas.Grind.{flat_map-append}
use Rattle.std.proofs.lemmas.List.{append-nil, get_or_default, length-append, nil_from_length}
use Rattle.std.proofs.lemmas.List.Elements.{All-append}
use Rattle.std.proofs.lemmas.List.FromFn.{length-map-range_with_len}
use Rattle.std.proofs.lemmas.Map.Text.{is_eq-slice_cmp}
use Rattle.std.proofs.lemmas.Slice.Eq.{bytes_eq-Decides}
use Rattle.std.proofs.Math.Seq.{take-nil, take-append-add}
use Rattle.std.specs.Cmp.Lexicographic.{nat_list_cmp_total, slice_cmp}
use Rattle.std.specs.FinMap.{get, remove, get-remove, same_map, nat_cmp-IsAntisymmetric, slice_cmp-IsAntisymmetric}
use Rattle.std.specs.Ordering.{nat_cmp, eq_by_cmp}
use Rattle.std.specs.Result.{OnOk, OnErr}
use Rattle.vh_files.specs.Store.{Held, told, HasNow, Grows, GrowsInPart, SameElsewhere}
use Rattle.vh_num.specs.Frames.{Frame, frame_at, frames_of}
use Rattle.vh_num.proofs.InPlace.{law_frame_has_samples, law_frames_are_in_place}
use Rattle.vh_wav.specs.declared.head.Head.{Head}
use Rattle.vh_wav.specs.Frames.{frame_in, frames_in}
use Rattle.vh_wav.specs.Laws.{HasChannels, read_back}
use Rattle.vh_wav.specs.Text.{head_text, frame_text, frames_text, wav_text}
use Rattle.vh_wav.proofs.InMemory.{left_after}
use Rattle.vh_wav.proofs.Held.{law_holds_its_frames}
use Rattle.vh_wav.proofs.ReadBack.{law_written_is_read as read_text}
use Rattle.vh_link.specs.Outputs.{HasCut, HasPart, pad_text}
use Rattle.vh_link.specs.Laws.{WrittenIsRead, written_head}
use Rattle.vh_link.specs.Link.{HasLeft, AreIn, AreWritten, Fixed}

-- ---- what is left to read
pub left_behind : (held now : Held) (input output : List ℕ) (head : Head) (at n : ℕ) (frames : List Frame) → now ≡ held → at ≤ head.frames
    → HasLeft held input output head at frames → HasLeft now input output head (at + min n (head.frames - at)) (drop n frames)
left_behind held now input output head at n frames same within has = record {
  apart = has.apart;
  bytes = has.bytes;
  has = ap (λ h. told h input) same ∙ has.has;
  left = left_after (frames_in has.bytes head) at n head.frames (length-map-range_with_len (frame_in has.bytes head) 0 head.frames) within
      ∙ ap (λ (xs : List Frame). drop n xs) has.left;
}

-- ---- the files but the output
same_name : (name : List ℕ) → eq_by_cmp (slice_cmp nat_cmp) name name ≡ true
same_name name = is_eq-slice_cmp name name ∙ (bytes_eq-Decides name name).1 refl

pub same_others : (output : List ℕ) (old new : Held) → SameElsewhere output old new → remove new output ≡ remove old output
same_others output old new same =
    same_map nat_list_cmp_total (slice_cmp-IsAntisymmetric nat_cmp-IsAntisymmetric) (remove new output) (remove old output)
    (λ name. get-remove nat_list_cmp_total new output name ∙ alike name ∙ sym (get-remove nat_list_cmp_total old output name))
  where
    alike : (name : List ℕ) → cond (eq_by_cmp (slice_cmp nat_cmp) name output) None (get new name) ≡ cond (eq_by_cmp (slice_cmp nat_cmp) name output) None (get old name)
    alike name =
        elim (eq_by_cmp (slice_cmp nat_cmp) name output) as (λ b. eq_by_cmp (slice_cmp nat_cmp) name output ≡ b → cond b None (get new name) ≡ cond b None (get old name)) [
          | true ↦ λ _. refl
          | false ↦ λ differs. same name (λ is. false≢true (sym differs ∙ ap (λ (o : List ℕ). eq_by_cmp (slice_cmp nat_cmp) name o) (sym is) ∙ same_name name))
        ] refl

pub fixed_is : (fixed : Fixed) (complete : Bool) (others : Held) → complete ≡ fixed.complete → others ≡ fixed.others → record fixed { complete = complete; others = others } ≡ fixed
fixed_is fixed complete others one other = ap (λ c. record fixed { complete = c; others = others }) one ∙ ap (λ (o : Held). record fixed { others = o }) other

-- ---- frames that were added
pub wide_frames : (channels n : ℕ) (samples : List ℤ) → (channels ≡ 1) ⊎ (channels ≡ 2) → length samples ≡ channels * n → HasChannels channels (frames_of channels samples)
wide_frames channels n samples one_or_two long place d within =
    let there = law_frames_are_in_place channels n samples one_or_two long in
    ap (λ (f : Frame). length f) (get_or_default (frames_of channels samples) place d [] within ∙ there.1 place (omega (arith, within, there.0)))
    ∙ (law_frame_has_samples channels n place samples).0

-- where nothing was cut the text is all
no_cut : (complete : Bool) (now : Option (List ℕ)) (bits : ℕ) (text : List ℕ) (cut : List Frame) → cut ≡ [] → HasCut complete now bits text cut → HasNow complete now text
no_cut complete now bits text cut none has =
    let P : List ℕ → Type 0 = λ l. HasNow complete now l in
    subst P (ap (λ (l : List ℕ). text ++ l) (ap (λ (frames : List Frame). take has.0 (frames_text bits frames)) none ∙ take-nil has.0) ∙ append-nil text) has.2

whole : (complete : Bool) (now : Option (List ℕ)) (bits : ℕ) (text : List ℕ) (cut : List Frame) → HasNow complete now text → HasCut complete now bits text cut
whole complete now bits text cut has =
    let P : List ℕ → Type 0 = λ l. HasNow complete now l in
    (0, omega arith, subst P (sym (append-nil text)) has)

has_more : (complete still : Bool) (now after : Option (List ℕ)) (had bytes : List ℕ) → still ≡ complete → HasNow complete now had → Grows complete now after bytes → HasNow still after (had ++ bytes)
has_more complete still now after had bytes same has grown =
    let P : Option (List ℕ) → Type 0 = λ o. Grows complete o after bytes in
    let S : Bool → Type 0 = λ b. HasNow b after (had ++ bytes) in
    subst S (sym same) (⊎_elim (λ is. subst P is grown) (λ gone. inr (gone.0, subst P gone.1 grown)) has)

text_more : (front : List ℕ) (bits : ℕ) (before more : List Frame) → (front ++ frames_text bits before) ++ frames_text bits more ≡ front ++ frames_text bits (before ++ more)
text_more front bits before more =
    append_assoc front (frames_text bits before) (frames_text bits more) ∙ ap (λ (l : List ℕ). front ++ l) (sym (flat_map-append (frame_text bits) before more))

module _ (complete still : Bool) (held now : Held) (output : List ℕ) (head : Head) (bits room pushed : ℕ) (cut before more : List Frame) where
  pub pushed_more : (n : ℕ) (started : Bool) → (started ≡ false → room ≡ 0) → 1 ≤ n → pushed + n ≤ room → cut ≡ [] → still ≡ complete → length more ≡ n → HasChannels head.channels more
      → Grows complete (told held output) (told now output) (frames_text bits more)
      → AreWritten started (AreIn complete held output head bits room pushed cut before) before
      → AreWritten started (AreIn still now output head bits room (pushed + n) cut (before ++ more)) (before ++ more)
  pushed_more n false none some fits uncut same long wide grown written = let e = none refl in absurd (omega (arith, e, some, fits))
  pushed_more n true none some fits uncut same long wide grown written =
      let front = head_text head.channels head.rate bits room in
      let has = has_more complete still (told held output) (told now output) (front ++ frames_text bits before) (frames_text bits more) same (no_cut complete (told held output) bits (front ++ frames_text bits before) cut uncut written.text) grown in
      let P : List ℕ → Type 0 = λ l. HasNow still (told now output) l in
      record {
        count = let e = length-append before more in let f = written.count in omega (arith, e, f, long);
        wide = All-append (λ frame. length frame ≡ head.channels) before more written.wide wide;
        text = whole still (told now output) bits (front ++ frames_text bits (before ++ more)) cut (subst P (text_more front bits before more) has);
      }

  -- a call that failed
  pub pushed_part : (started : Bool) (cut_now : List Frame) → cut ≡ [] → still ≡ complete → cut_now ≡ more → GrowsInPart complete (told held output) (told now output) (frames_text bits more)
      → AreWritten started (AreIn complete held output head bits room pushed cut before) before
      → AreWritten started (AreIn still now output head bits room pushed cut_now before) before
  pushed_part false cut_now uncut same is part written = written
  pushed_part true cut_now uncut same is part written =
      let front = head_text head.channels head.rate bits room ++ frames_text bits before in
      let has = has_more complete still (told held output) (told now output) front (take part.0 (frames_text bits more)) same (no_cut complete (told held output) bits front cut uncut written.text) part.2 in
      let P : List Frame → Type 0 = λ frames. HasCut still (told now output) bits front frames in
      let below : part.0 < length (frames_text bits more) = part.1 in
      record {
        count = written.count;
        wide = written.wide;
        text = subst P (sym is) (part.0, omega (arith, below), has);
      }

-- none are written where none were pushed
none_yet : (inside : Type 0) (started : Bool) (frames : List Frame) → (inside → length frames ≡ 0) → AreWritten started inside frames → frames ≡ []
none_yet inside false frames count written = written
none_yet inside true frames count written = nil_from_length frames (count written)

pub started_now : (complete still : Bool) (held now : Held) (output : List ℕ) (head : Head) (bits was room pushed : ℕ) (started : Bool) (cut frames : List Frame) → pushed ≡ 0 → still ≡ complete
    → HasNow complete (told now output) (head_text head.channels head.rate bits room)
    → AreWritten started (AreIn complete held output head bits was pushed cut frames) frames
    → AreIn still now output head bits room pushed cut frames
started_now complete still held now output head bits was room pushed started cut frames zero_pushed same has written =
    let none = none_yet (AreIn complete held output head bits was pushed cut frames) started frames (λ inside. inside.count ∙ zero_pushed) written in
    let front = head_text head.channels head.rate bits room in
    let S : Bool → Type 0 = λ b. HasNow b (told now output) front in
    let P : List ℕ → Type 0 = λ l. HasNow still (told now output) l in
    let Q : List Frame → Type 0 = λ frames. AreIn still now output head bits room pushed cut frames in
    subst Q (sym none) (record {
      count = sym zero_pushed;
      wide = λ place d within. absurd (omega (arith, within));
      text = whole still (told now output) bits (front ++ []) cut (subst P (sym (append-nil front)) (subst S (sym same) has));
    })

-- ---- a file that was ended
text_is : (channels rate bits room : ℕ) (frames : List Frame) → length frames ≡ room
    → (head_text channels rate bits room ++ frames_text bits frames) ++ pad_text channels bits room ≡ wav_text channels rate bits frames
unfolding wav_text
text_is channels rate bits room frames long =
    append_assoc (head_text channels rate bits room) (frames_text bits frames) (pad_text channels bits room)
    ∙ ap (λ n. head_text channels rate bits n ++ (frames_text bits frames ++ pad_text channels bits n)) (sym long)

module _ (complete still : Bool) (held now : Held) (output : List ℕ) (head : Head) (bits room pushed : ℕ) (cut frames : List Frame) (all : pushed ≡ room) (uncut : cut ≡ []) (same : still ≡ complete) where
  written : (started : Bool) → started ≡ true → AreWritten started (AreIn complete held output head bits room pushed cut frames) frames → AreIn complete held output head bits room pushed cut frames
  written false is inside = absurd (false≢true is)
  written true is inside = inside

  front : List ℕ
  front = head_text head.channels head.rate bits room ++ frames_text bits frames

  pub ended : (started : Bool) → started ≡ true → AreWritten started (AreIn complete held output head bits room pushed cut frames) frames
      → Grows complete (told held output) (told now output) (pad_text head.channels bits pushed)
      → HasNow complete (told now output) (wav_text head.channels head.rate bits frames)
  unfolding front
  ended started is inside grown =
      let are = written started is inside in
      let P : List ℕ → Type 0 = λ l. HasNow complete (told now output) l in
      let G : ℕ → Type 0 = λ k. Grows complete (told held output) (told now output) (pad_text head.channels bits k) in
      subst P (text_is head.channels head.rate bits room frames (are.count ∙ all))
      (has_more complete complete (told held output) (told now output) front (pad_text head.channels bits room) refl (no_cut complete (told held output) bits front cut uncut are.text) (subst G all grown))

  pub ended_in_part : (started : Bool) → started ≡ true → AreWritten started (AreIn complete held output head bits room pushed cut frames) frames
      → GrowsInPart complete (told held output) (told now output) (pad_text head.channels bits pushed)
      → HasPart complete (told now output) (wav_text head.channels head.rate bits frames)
  unfolding front
  ended_in_part started is inside part =
      let are = written started is inside in
      let n : ℕ = part.0 in
      let pad : List ℕ = pad_text head.channels bits room in
      let G : ℕ → Type 0 = λ k. (n < length (pad_text head.channels bits k)) × Grows complete (told held output) (told now output) (take n (pad_text head.channels bits k)) in
      let here = subst G all (part.1, part.2) in
      let below : n < length pad = here.0 in
      let P : List ℕ → Type 0 = λ l. HasPart complete (told now output) l in
      let Q : List ℕ → Type 0 = λ l. HasNow complete (told now output) l in
      let sum = length-append front pad in
      subst P (text_is head.channels head.rate bits room frames (are.count ∙ all)) (
        length front + n,
        omega (arith, sum, below),
        subst Q (sym (take-append-add front pad n))
            (has_more complete complete (told held output) (told now output) front (take n pad) refl (no_cut complete (told held output) bits front cut uncut are.text) here.1),
      )

-- what a call's answer tells leads to more
pub on_ok_along : {T E : Type 0} (result : Result T E) (P Q : Type 0) → (P → Q) → OnOk result P → OnOk result Q
on_ok_along (Ok x) P Q f p = f p
on_ok_along (Err e) P Q f p = tt

pub on_err_along : {T E : Type 0} (result : Result T E) (P Q : Type 0) → (P → Q) → OnErr result P → OnErr result Q
on_err_along (Ok x) P Q f p = tt
on_err_along (Err e) P Q f p = f p

-- ---- a file that was written, and is read
pub law_written_is_read : WrittenIsRead
law_written_is_read held name other channels rate bits frames is has apart =
    let head = written_head channels rate bits frames in
    let bytes = wav_text channels rate bits frames in
    let read = read_text channels rate bits frames is in (
      read.head_is,
      record {
        apart = apart;
        bytes = bytes;
        has = has;
        left = sym ((law_holds_its_frames bytes head read.head_is).1 (map (map (read_back bits)) frames) read);
      },
    )
