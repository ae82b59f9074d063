-- Frames that were read, and the frames of a file.
use Rattle.std.proofs.Common.{◌≡◌, ℕ, ◌+◌, ◌*◌, ◌<◌, ◌≤◌, List, [], length, get_or, take, drop, ℤ, pos, Ok, refl, sym, ap, ◌∙◌, inl, inr, arith}
use Rattle.std.proofs.lemmas.Bool.{cases_lt}
use Rattle.std.proofs.lemmas.List.{ext_get_or, get_or_default, get_or_past, get_or-replicate, length-replicate, get_or-take, get_or-drop, length-take-le, length-drop}
use Rattle.std.proofs.lemmas.List.FromFn.{length-map-range_with_len, get_or-map-range_with_len}
use Rattle.vh_num.specs.Frames.{Frame, frame_at, frames_of}
use Rattle.vh_num.proofs.InPlace.{law_frame_has_samples, law_frames_are_in_place}
use Rattle.vh_wav.specs.declared.head.Head.{Head}
use Rattle.vh_wav.specs.Judged.{wav_head}
use Rattle.vh_wav.specs.Heads.{IsHead}
use Rattle.vh_wav.specs.Samples.{sample_in}
use Rattle.vh_wav.specs.Frames.{frame_in, frames_in, silence, HoldsFrames}
use Rattle.vh_wav.specs.Laws.{IsWav, HoldsItsFrames, BlockIsPart}
use Rattle.vh_wav.proofs.Numbers.{lt_no}
use Rattle.vh_wav.proofs.Channels.{HoldsSamples}

module _ (bytes : List ℕ) (head : Head) where
  count_of_frames : length (frames_in bytes head) ≡ head.frames
  count_of_frames = length-map-range_with_len (frame_in bytes head) 0 head.frames

  wide : (frame : ℕ) → length (frame_in bytes head frame) ≡ head.channels
  wide frame = length-map-range_with_len (λ channel. sample_in bytes head channel frame) 0 head.channels

  frame_there : (frame : ℕ) (d : Frame) → frame < head.frames → get_or (frames_in bytes head) frame d ≡ frame_in bytes head frame
  frame_there frame d within = get_or-map-range_with_len (frame_in bytes head) 0 head.frames frame frame d within (omega arith)

  sample_there : (frame channel : ℕ) → channel < head.channels → get_or (frame_in bytes head frame) channel (pos 0) ≡ sample_in bytes head channel frame
  sample_there frame channel on = get_or-map-range_with_len (λ ch. sample_in bytes head ch frame) 0 head.channels channel channel (pos 0) on (omega arith)

  no_sample : (frame channel : ℕ) → head.frames ≤ frame → sample_in bytes head channel frame ≡ pos 0
  no_sample frame channel past =
      let none = lt_no frame head.frames past in
      rw none refl

  -- a sample of a frame, or of silence past the last
  sample_or_silence : (frame channel : ℕ) → channel < head.channels → get_or (get_or (frames_in bytes head) frame (silence head.channels)) channel (pos 0) ≡ sample_in bytes head channel frame
  sample_or_silence frame channel on =
      elim (cases_lt frame head.frames) [
        | inl within ↦ ap (λ (f : Frame). get_or f channel (pos 0)) (frame_there frame (silence head.channels) within) ∙ sample_there frame channel on
        | inr past ↦
            ap (λ (f : Frame). get_or f channel (pos 0)) (get_or_past (frames_in bytes head) frame (silence head.channels) (omega (arith, count_of_frames, past)))
            ∙ get_or-replicate head.channels channel (pos 0) (pos 0) on
            ∙ sym (no_sample frame channel past)
      ]

  width_or_silence : (frame : ℕ) → length (get_or (frames_in bytes head) frame (silence head.channels)) ≡ head.channels
  width_or_silence frame =
      elim (cases_lt frame head.frames) [
        | inl within ↦ ap (λ (f : Frame). length f) (frame_there frame (silence head.channels) within) ∙ wide frame
        | inr past ↦
            ap (λ (f : Frame). length f) (get_or_past (frames_in bytes head) frame (silence head.channels) (omega (arith, count_of_frames, past)))
            ∙ length-replicate head.channels (pos 0)
      ]

  -- the samples are in place where the frames are
  pub frames_held : (from n : ℕ) (out : List ℤ) → HoldsSamples bytes head from n out → HoldsFrames bytes head from n out
  frames_held from n out held = λ place within.
      let has = law_frame_has_samples head.channels n place out in
      ext_get_or (pos 0) (frame_at head.channels n out place) (get_or (frames_in bytes head) (from + place) (silence head.channels)) (has.0 ∙ sym (width_or_silence (from + place)))
      (λ channel h.
      let on : channel < head.channels = omega (arith, has.0, h) in
      has.1 channel on ∙ held channel place on within ∙ sym (sample_or_silence (from + place) channel on))

  -- and the frames where the samples are
  pub samples_held : (from n : ℕ) (out : List ℤ) → HoldsFrames bytes head from n out → HoldsSamples bytes head from n out
  samples_held from n out held = λ channel place on within.
      sym ((law_frame_has_samples head.channels n place out).1 channel on)
      ∙ ap (λ (f : Frame). get_or f channel (pos 0)) (held place within)
      ∙ sample_or_silence (from + place) channel on

  is_wav : wav_head bytes ≡ Ok head → IsWav bytes head (frames_in bytes head)
  is_wav accepted = record {
    head_is = accepted;
    count = count_of_frames;
    channels = λ frame d lt. ap (λ (f : Frame). length f) (frame_there frame d (omega (arith, count_of_frames, lt))) ∙ wide frame;
    samples = λ frame channel within on. ap (λ (f : Frame). get_or f channel (pos 0)) (frame_there frame [] within) ∙ sample_there frame channel on;
  }

  same_frames : (frames : List Frame) → IsWav bytes head frames → frames ≡ frames_in bytes head
  same_frames frames is =
      ext_get_or [] frames (frames_in bytes head) (is.count ∙ sym count_of_frames) (λ frame h.
      let within : frame < head.frames = omega (arith, is.count, h) in
      let width : length (get_or frames frame []) ≡ head.channels = is.channels frame [] h in
      ext_get_or (pos 0) (get_or frames frame []) (frame_in bytes head frame) (width ∙ sym (wide frame)) (λ channel k.
      let on : channel < head.channels = omega (arith, width, k) in
      is.samples frame channel within on ∙ sym (sample_there frame channel on))
      ∙ sym (frame_there frame [] within))

  part : (from n : ℕ) (samples : List ℤ) → IsHead head → length samples ≡ head.channels * n → from + n ≤ head.frames
      → HoldsFrames bytes head from n samples → frames_of head.channels samples ≡ take n (drop from (frames_in bytes head))
  part from n samples is long within held =
      let placed = law_frames_are_in_place head.channels n samples is.channels long in
      let rest : List Frame = drop from (frames_in bytes head) in
      let left : n ≤ length rest = omega (arith, length-drop from (frames_in bytes head), count_of_frames, within) in
      ext_get_or [] (frames_of head.channels samples) (take n rest) (placed.0 ∙ sym (length-take-le n rest left)) (λ place h.
      let below : place < n = omega (arith, placed.0, h) in
      placed.1 place below
      ∙ held place below
      ∙ get_or_default (frames_in bytes head) (from + place) (silence head.channels) [] (omega (arith, count_of_frames, within, below))
      ∙ sym (get_or-drop from (frames_in bytes head) place [])
      ∙ sym (get_or-take n rest place [] below))

pub law_holds_its_frames : HoldsItsFrames
law_holds_its_frames bytes head accepted = (is_wav bytes head accepted, same_frames bytes head)

pub law_block_is_part : BlockIsPart
law_block_is_part bytes head = part bytes head
