-- A written file is read back.
use Rattle.std.proofs.Common.{◌≡◌, ℕ, ◌+◌, ◌*◌, ◌/◌, ◌%◌, ◌^◌, ◌<◌, ◌≤◌, true, false, Bool, cond, ◌&&◌, leb, eqb, zero, suc, List, [], ◌∷◌, ◌++◌, length, take, drop, get_or, map, None, Ok, ℤ, pos, ◌*ℤ◌, ◌⊎◌, ⊎_elim, refl, sym, ap, subst, ◌∙◌, arith}
use Rattle.std.specs.Prelude.{All, codes, replicate}
use Rattle.std.specs.List.{flat_map}
use Rattle.std.specs.Str.{bytes_eq}
use Rattle.std.proofs.lemmas.Bool.{le-leb}
use Rattle.std.proofs.lemmas.List.{length-append, length-drop, length-map, append_assoc, drop-append-le, drop_all, drop_at, drop-drop, get_or-map}
use Rattle.std.proofs.lemmas.Bool.Decides.{nat_tests}
use Rattle.std.proofs.lemmas.List.Elements.{All-head, All-tail}
use Rattle.std.proofs.Math.Nat.{mul-le-mul, mul-le-mul_right, mul-div_cancel}
use Rattle.vh_files.specs.Fields.{field_at}
use Rattle.vh_wav.specs.declared.head.Format.{Format}
use Rattle.vh_wav.specs.Chunks.{Chunk, chunk_at, chunks_after}
use Rattle.vh_wav.specs.Judged.{wav_head, is_riff, verdict, format_of, head_of, align_of}
use Rattle.vh_wav.specs.Samples.{sample_at}
use Rattle.vh_num.specs.Frames.{Frame}
use Rattle.vh_wav.specs.Text.{sample_bytes, frame_text, frames_text, data_size, head_text, wav_text}
use Rattle.vh_wav.specs.Laws.{HasChannels, read_back, WrittenIsRead}
use Rattle.vh_wav.proofs.Channels.{same_sample}
use Rattle.vh_wav.proofs.Numbers.{number16, number32, back16, back24, lt_yes, lt_no}
use Rattle.vh_wav.proofs.Walk.{walk_begins, chunks_next, step_of}
use Rattle.vh_wav.proofs.Whole.{align_some, align_most}

drop_none : (n : ℕ) → drop n (let none : List ℕ = [] in none) ≡ []
drop_none n = drop_all n [] (omega arith)

-- pieces of one size, one after the other
module _ {X : Type 0} (f : X → List ℕ) (w : ℕ) where
  pub drop_pieces : (i : ℕ) (xs : List X) → All (λ x. length (f x) ≡ w) xs → drop (i * w) (flat_map f xs) ≡ flat_map f (drop i xs)
  drop_pieces zero xs sizes = ap (λ n. drop n (flat_map f xs)) (let none : 0 * w ≡ 0 = omega arith in none)
  drop_pieces (suc i) [] sizes = drop_none (suc i * w)
  drop_pieces (suc i) (x ∷ xs) sizes =
      let size : length (f x) ≡ w = All-head (λ y. length (f y) ≡ w) x xs sizes in
      let far : suc i * w ≡ w + i * w = omega arith in
      ap (λ n. drop n (f x ++ flat_map f xs)) far ∙ sym (drop-drop (i * w) w (f x ++ flat_map f xs)) ∙ ap (drop (i * w)) (drop_at (f x) (flat_map f xs) w size)
      ∙ drop_pieces i xs (All-tail (λ y. length (f y) ≡ w) x xs sizes)

  pub length_pieces : (xs : List X) → All (λ x. length (f x) ≡ w) xs → length (flat_map f xs) ≡ length xs * w
  length_pieces [] sizes = omega arith
  length_pieces (x ∷ xs) sizes =
      let size : length (f x) ≡ w = All-head (λ y. length (f y) ≡ w) x xs sizes in
      let rest = length_pieces xs (All-tail (λ y. length (f y) ≡ w) x xs sizes) in
      length-append (f x) (flat_map f xs) ∙ omega (arith, size, rest)

-- a sample's bytes
sample_size : (bits : ℕ) (x : ℤ) → (bits ≡ 16) ⊎ (bits ≡ 24) → length (sample_bytes bits x) ≡ bits / 8
sample_size bits x width =
    let P : ℕ → Type 0 = λ b. length (sample_bytes b x) ≡ b / 8 in
    ⊎_elim (λ is. subst P (sym is) refl) (λ is. subst P (sym is) refl) width

frame_size : (channels bits : ℕ) (frame : Frame) → (bits ≡ 16) ⊎ (bits ≡ 24) → length frame ≡ channels → length (frame_text bits frame) ≡ align_of channels bits
frame_size channels bits frame width size =
    length_pieces (sample_bytes bits) (bits / 8) frame (λ k d lt. sample_size bits _ width) ∙ ap (λ n. n * (bits / 8)) size

frame_sizes : (channels bits : ℕ) (frames : List Frame) → (bits ≡ 16) ⊎ (bits ≡ 24) → HasChannels channels frames → All (λ frame. length (frame_text bits frame) ≡ align_of channels bits) frames
frame_sizes channels bits frames width sizes = λ k d lt. frame_size channels bits _ width (sizes k d lt)

-- the sample that begins these bytes
read_sample : (bits : ℕ) (x : ℤ) (rest : List ℕ) → (bits ≡ 16) ⊎ (bits ≡ 24) → sample_at bits (sample_bytes bits x ++ rest) 0 ≡ read_back bits x
read_sample bits x rest width =
    let P : ℕ → Type 0 = λ b. sample_at b (sample_bytes b x ++ rest) 0 ≡ read_back b x in
    ⊎_elim (λ is. subst P (sym is) (ap (λ s. s *ℤ pos 256) (back16 x))) (λ is. subst P (sym is) (back24 x)) width

-- the rest of a list begins with its element there
drop_at_element : {X : Type 0} (i : ℕ) (xs : List X) (d : X) → i < length xs → drop i xs ≡ get_or xs i d ∷ drop (suc i) xs
drop_at_element i [] d h = absurd (omega arith)
drop_at_element zero (x ∷ xs) d h = refl
drop_at_element (suc i) (x ∷ xs) d h = drop_at_element i xs d (omega arith)

-- a channel's sample in a frame of the frames' bytes
text_sample : (channels bits : ℕ) (frames : List Frame) (pad : List ℕ) (frame channel : ℕ) → (bits ≡ 16) ⊎ (bits ≡ 24) → HasChannels channels frames → frame < length frames → channel < channels
    → sample_at bits (frames_text bits frames ++ pad) (frame * align_of channels bits + channel * (bits / 8)) ≡ read_back bits (get_or (get_or frames frame []) channel (pos 0))
text_sample channels bits frames pad frame channel width sizes within on =
    let align : ℕ = align_of channels bits in
    let w : ℕ = bits / 8 in
    let here : Frame = get_or frames frame [] in
    let x : ℤ = get_or here channel (pos 0) in
    let as_wide : length here ≡ channels = sizes frame [] within in
    let long = length_pieces (frame_text bits) align frames (frame_sizes channels bits frames width sizes) in
    let least : (frame + 1) * align ≤ length frames * align = mul-le-mul_right align (omega arith) in
    let later : List ℕ = frames_text bits (drop (suc frame) frames) ++ pad in
    let others : List ℕ = flat_map (sample_bytes bits) (drop (suc channel) here) in
    let to_frame : drop (frame * align) (frames_text bits frames ++ pad) ≡ frame_text bits here ++ later =
    drop-append-le (frame * align) (frames_text bits frames) pad (omega (arith, long, least))
    ∙ ap (λ xs. xs ++ pad) (drop_pieces (frame_text bits) align frame frames (frame_sizes channels bits frames width sizes) ∙ ap (frames_text bits) (drop_at_element frame frames [] within))
    ∙ append_assoc (frame_text bits here) (frames_text bits (drop (suc frame) frames)) pad in
    let wide = length_pieces (sample_bytes bits) w here (λ k d lt. sample_size bits _ width) in
    let below : channel * w ≤ channels * w = mul-le-mul_right w (omega arith) in
    let size : length here * w ≡ channels * w = ap (λ n. n * w) as_wide in
    let to_sample : drop (channel * w) (frame_text bits here ++ later) ≡ sample_bytes bits x ++ (others ++ later) =
    drop-append-le (channel * w) (frame_text bits here) later (omega (arith, wide, below, size))
    ∙ ap (λ xs. xs ++ later) (drop_pieces (sample_bytes bits) w channel here (λ k d lt. sample_size bits _ width) ∙ ap (flat_map (sample_bytes bits)) (drop_at_element channel here (pos 0) (omega (arith, as_wide, on))))
    ∙ append_assoc (sample_bytes bits x) others later in
    let place : drop (frame * align + channel * w) (frames_text bits frames ++ pad) ≡ sample_bytes bits x ++ (others ++ later) =
    sym (drop-drop (channel * w) (frame * align) (frames_text bits frames ++ pad)) ∙ ap (drop (channel * w)) to_frame ∙ to_sample in
    same_sample bits (frames_text bits frames ++ pad) (sample_bytes bits x ++ (others ++ later)) (frame * align + channel * w) 0 width (ap (take w) place)
    ∙ read_sample bits x (others ++ later) width

-- two chunks, a `fmt ` and a `data`
verdict_written : (first second : Chunk) (rest : List Chunk) (format : Format) → first.fits ≡ true → bytes_eq first.id (codes "fmt ") ≡ true → format_of first.size first.front ≡ Ok format → second.fits ≡ true → bytes_eq second.id (codes "data") ≡ true
    → verdict None (first ∷ second ∷ rest) ≡ Ok (head_of format second)
verdict_written first second rest format fits is_fmt format_is fits_too is_data = rw (fits, is_fmt, format_is, fits_too, is_data) refl

is_zero : (n : ℕ) → 1 ≤ n → eqb n 0 ≡ false
is_zero n h = grind (arith, nat_tests)

-- the `fmt ` body that is written
format_written : (channels rate bits : ℕ) (front : List ℕ) → field_at front 0 2 ≡ 1 → field_at front 2 2 ≡ channels → field_at front 4 4 ≡ rate → field_at front 12 2 ≡ align_of channels bits → field_at front 14 2 ≡ bits
    → (channels ≡ 1) ⊎ (channels ≡ 2) → (bits ≡ 16) ⊎ (bits ≡ 24) → 1 ≤ rate → rate ≤ 768000 → format_of 16 front ≡ Ok (record { channels = channels; rate = rate; bits = bits })
format_written channels rate bits front tag_is channels_is rate_is align_is bits_is on width some most =
    let some_rate = is_zero rate some in
    let most_rate = lt_no 768000 rate most in
    let P : ℕ → ℕ → Type 0 = λ c b. field_at front 2 2 ≡ c → field_at front 12 2 ≡ align_of c b → field_at front 14 2 ≡ b → format_of 16 front ≡ Ok (record { channels = c; rate = rate; bits = b }) in
    let at_bits : (c : ℕ) → P c 16 → P c 24 → P c bits = λ c narrow wide. ⊎_elim (λ is. subst (P c) (sym is) narrow) (λ is. subst (P c) (sym is) wide) width in
    let mono : P 1 bits = at_bits 1 (λ e f g. rw (tag_is, e, rate_is, f, g, some_rate, most_rate) refl) (λ e f g. rw (tag_is, e, rate_is, f, g, some_rate, most_rate) refl) in
    let stereo : P 2 bits = at_bits 2 (λ e f g. rw (tag_is, e, rate_is, f, g, some_rate, most_rate) refl) (λ e f g. rw (tag_is, e, rate_is, f, g, some_rate, most_rate) refl) in
    let all : P channels bits = ⊎_elim (λ is. subst (λ c. P c bits) (sym is) mono) (λ is. subst (λ c. P c bits) (sym is) stereo) on in
    all channels_is align_is bits_is

-- a written file, where these bytes follow the head
abbrev written : ℕ → ℕ → ℕ → ℕ → List ℕ → List ℕ
written channels rate bits count tail = head_text channels rate bits count ++ tail

long_written : (channels rate bits count : ℕ) (tail : List ℕ) → length (written channels rate bits count tail) ≡ 44 + length tail
unfolding head_text
long_written channels rate bits count tail = omega arith

written_is_riff : (channels rate bits count : ℕ) (tail : List ℕ) → is_riff (written channels rate bits count tail) ≡ true
unfolding head_text
written_is_riff channels rate bits count tail =
    let enough : leb 12 (length (written channels rate bits count tail)) ≡ true = le-leb 12 _ (omega (arith, long_written channels rate bits count tail)) in
    ap (λ b. b && true) enough

-- the sizes of a file that can be written are below 2^32
module _ (channels rate bits count : ℕ) (tail : List ℕ) (on : (channels ≡ 1) ⊎ (channels ≡ 2)) (width : (bits ≡ 16) ⊎ (bits ≡ 24)) (some : 1 ≤ rate) (most : rate ≤ 768000) (count_most : count ≤ 2 ^ 24) (room : data_size channels bits count ≤ length tail) where
  align_within : align_of channels bits ≤ 6
  align_within = align_most channels bits on width

  size_within : data_size channels bits count < 2 ^ 32
  size_within =
      let below : count * align_of channels bits ≤ 2 ^ 24 * 6 = mul-le-mul {n₁ = count} {m₁ = align_of channels bits} {n₂ = 2 ^ 24} {m₂ = 6} count_most align_within in
      omega (arith, below)

  first_chunk : Chunk
  first_chunk = chunk_at 12 (drop 12 (written channels rate bits count tail))

  second_chunk : Chunk
  second_chunk = chunk_at 36 (drop 36 (written channels rate bits count tail))

  later_chunks : List Chunk
  later_chunks = chunks_after 0 (36 + step_of (drop 36 (written channels rate bits count tail))) (drop (step_of (drop 36 (written channels rate bits count tail))) (drop 36 (written channels rate bits count tail)))

  chunks_written : chunks_after 0 12 (drop 12 (written channels rate bits count tail)) ≡ first_chunk ∷ second_chunk ∷ later_chunks
  unfolding head_text first_chunk second_chunk later_chunks
  chunks_written =
      let long = long_written channels rate bits count tail in
      chunks_next 12 (drop 12 (written channels rate bits count tail)) (omega (arith, long, length-drop 12 (written channels rate bits count tail)))
      ∙ ap (λ cs. first_chunk ∷ cs) (chunks_next 36 (drop 36 (written channels rate bits count tail)) (omega (arith, long, length-drop 36 (written channels rate bits count tail))))

  size_read : second_chunk.size ≡ data_size channels bits count
  unfolding head_text second_chunk
  size_read = number32 (data_size channels bits count) ∙ omega (arith, size_within)

  first_fits : first_chunk.fits ≡ true
  unfolding head_text first_chunk
  first_fits = le-leb 16 _ (omega (arith, long_written channels rate bits count tail, length-drop 12 (written channels rate bits count tail)))

  second_fits : second_chunk.fits ≡ true
  unfolding second_chunk
  second_fits = le-leb _ _ (omega (arith, size_read, room, long_written channels rate bits count tail, length-drop 36 (written channels rate bits count tail)))

  format_read : format_of first_chunk.size first_chunk.front ≡ Ok (record { channels = channels; rate = rate; bits = bits })
  unfolding head_text first_chunk
  format_read =
      let small : channels < 2 ^ 16 = ⊎_elim (λ (e : channels ≡ 1). omega arith) (λ (e : channels ≡ 2). omega arith) on in
      let narrow : bits < 2 ^ 16 = ⊎_elim (λ (e : bits ≡ 16). omega arith) (λ (e : bits ≡ 24). omega arith) width in
      format_written channels rate bits first_chunk.front refl
      (number16 channels ∙ omega arith) (number32 rate ∙ omega arith) (number16 (align_of channels bits) ∙ omega (arith, align_within)) (number16 bits ∙ omega arith) on width some most

  pub head_read : wav_head (written channels rate bits count tail) ≡ Ok (record { channels = channels; rate = rate; bits = bits; at = 44; frames = count })
  unfolding head_text first_chunk second_chunk
  head_read =
      let frames : second_chunk.size / align_of channels bits ≡ count = ap (λ n. n / align_of channels bits) size_read ∙ mul-div_cancel count (align_some channels bits on width) in
      sym (walk_begins (written channels rate bits count tail) (written_is_riff channels rate bits count tail))
      ∙ ap (verdict None) chunks_written
      ∙ verdict_written first_chunk second_chunk later_chunks (record { channels = channels; rate = rate; bits = bits }) first_fits refl format_read second_fits refl
      ∙ ap (λ n. Ok (record { channels = channels; rate = rate; bits = bits; at = 44; frames = n })) frames

chosen : (t : Bool) (x y z : ℤ) → t ≡ true → x ≡ y → cond t x z ≡ y
chosen t x y z e same = rw e same

and_both : (a b : Bool) → a ≡ true → b ≡ true → (a && b) ≡ true
and_both a b e f = rw (e, f) refl

pub law_written_is_read : WrittenIsRead
unfolding wav_text head_text
law_written_is_read channels rate bits frames is =
    let count : ℕ = length frames in
    let align : ℕ = align_of channels bits in
    let bytes : List ℕ = wav_text channels rate bits frames in
    let pad : List ℕ = replicate (data_size channels bits count % 2) 0 in
    let tail : List ℕ = frames_text bits frames ++ pad in
    let long : length (frames_text bits frames) ≡ count * align = length_pieces (frame_text bits) align frames (frame_sizes channels bits frames is.width is.frames_channels) in
    let room : data_size channels bits count ≤ length tail = omega (arith, long, length-append (frames_text bits frames) pad) in
    let whole = long_written channels rate bits count tail in
    record {
      head_is = head_read channels rate bits count tail is.some_channels is.width is.some_rate is.rate_most is.frames_most room;
      count = length-map frames (map (read_back bits));
      channels = λ k d lt.
          let within : k < count = omega (arith, length-map frames (map (read_back bits))) in
          ap length (get_or-map (map (read_back bits)) frames k [] d within) ∙ length-map (get_or frames k []) (read_back bits) ∙ is.frames_channels k [] within;
      samples = λ frame channel within on.
          let here : Frame = get_or frames frame [] in
          let wide : length here ≡ channels = is.frames_channels frame [] within in
          let x : ℤ = get_or here channel (pos 0) in
          let sample = text_sample channels bits frames pad frame channel is.width is.frames_channels within on in
          let inside : (frame + 1) * align ≤ count * align = mul-le-mul_right align (omega arith) in
          let there = and_both _ _ (lt_yes frame count within) (le-leb (44 + (frame + 1) * align) (length bytes) (omega (arith, whole, room, inside))) in
          ap (λ f. get_or f channel (pos 0)) (get_or-map (map (read_back bits)) frames frame [] [] within)
          ∙ get_or-map (read_back bits) here channel (pos 0) (pos 0) (omega (arith, wide, on))
          ∙ sym (chosen _ _ _ (pos 0) there
          (same_sample bits bytes tail (44 + (frame * align + channel * (bits / 8))) (frame * align + channel * (bits / 8)) is.width
          (ap (take (bits / 8)) (sym (drop-drop (frame * align + channel * (bits / 8)) 44 bytes)))
          ∙ sample));
    }
