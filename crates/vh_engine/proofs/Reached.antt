-- The frames of what reaches a bus.
use Rattle.std.proofs.Common.{◌≡◌, ◌∙◌, ℕ, ◌<◌, ◌+◌, ◌*◌, List, [], ◌∷◌, ◌++◌, length, get_or, ℤ, pos, refl, sym, ap, subst, arith}
use Rattle.std.specs.Prelude.{All}
use Rattle.std.proofs.Math.Nat.{mul_comm}
use Rattle.std.proofs.lemmas.Nat.{mul-add-lt}
use Rattle.std.proofs.lemmas.List.{length-take-le, get_or-take, get_or_append_left, ext_get_or}
use Rattle.std.proofs.lemmas.List.Elements.{All-map}
use Rattle.std.proofs.lemmas.List.FromFn.{length-map-range_with_len, get_or-map-range_with_len}
use Rattle.vh_num.proofs.InPlace.{law_frame_has_samples}
use Rattle.vh_num.proofs.Lawful.{law_mix_is_clamped_sum}
use Rattle.vh_num.specs.Frames.{Frame, frame_at}
use Rattle.vh_num.specs.Laws.{HasLanes, in_lane, sum_of, mixed}
use Rattle.vh_num.specs.Samples.{clamp_of}
use Rattle.vh_session.specs.declared.wire.End.{End}
use Rattle.vh_session.specs.declared.wire.End.TheVariants.{In, Out, Node as AtNode}
use Rattle.vh_meaning.specs.Mix.{brought, mix}
use Rattle.vh_engine.specs.Buses.{row_at, IsSource, samples_of, sources_of, HaveRoom, frames_at, reaching}

-- the place of a channel's sample
pub before_end : (channels n place channel : ℕ) → place < n → channel < channels → channel * n + place < channels * n
before_end channels n place channel lt within = subst (λ (m : ℕ). channel * n + place < m) (mul_comm n channels) (mul-add-lt channel n place channels within lt)

-- two frames of the same samples are the same
pub same_frames : (channels n place : ℕ) (samples : List ℤ) (frame : Frame) → length frame ≡ channels
    → ((channel : ℕ) → channel < channels → get_or samples (channel * n + place) (pos 0) ≡ get_or frame channel (pos 0))
    → frame_at channels n samples place ≡ frame
same_frames channels n place samples frame long same =
    let has = law_frame_has_samples channels n place samples in
    ext_get_or (pos 0) (frame_at channels n samples place) frame (has.0 ∙ sym long) (λ channel h.
    let within : channel < channels = omega (arith, has.0, h) in
    has.1 channel within ∙ same channel within)

-- a frame hangs on the samples of its block alone
pub frame_of_start : (channels n place : ℕ) (samples rest : List ℤ) → place < n → length samples ≡ channels * n → frame_at channels n (samples ++ rest) place ≡ frame_at channels n samples place
frame_of_start channels n place samples rest lt long =
    let has = law_frame_has_samples channels n place samples in
    same_frames channels n place (samples ++ rest) (frame_at channels n samples place) has.0 (λ channel within.
    let before : channel * n + place < channels * n = before_end channels n place channel lt within in
    get_or_append_left samples rest (pos 0) (channel * n + place) (omega (arith, before, long)) ∙ sym (has.1 channel within))

-- some samples of a block, channel after channel
module _ (channels n place : ℕ) (lt : place < n) (ins : List ℤ) (rows : List (List ℤ)) (count : ℕ) where
  -- an end brings the samples of its frame
  sample_brought : (end : End) (channel : ℕ) → channel < channels
      → get_or (samples_of ins rows (channels * n) end) (channel * n + place) (pos 0) ≡ get_or (brought (frame_at channels n ins place) (frames_at channels n rows place) end) channel (pos 0)
  sample_brought In channel within = sym ((law_frame_has_samples channels n place ins).1 channel within)
  sample_brought Out channel within = refl
  sample_brought (AtNode node) channel within =
      get_or-take (channels * n) (row_at rows node) (channel * n + place) (pos 0) (before_end channels n place channel lt within)
      ∙ sym ((law_frame_has_samples channels n place (row_at rows node)).1 channel within)

  lanes_brought : (ends : List End) (channel : ℕ) → channel < channels
      → in_lane (channel * n + place) (sources_of ins rows (channels * n) ends) ≡ in_lane channel (reaching channels n ins rows ends place)
  lanes_brought [] channel within = refl
  lanes_brought (end ∷ ends) channel within =
      ap (λ (x : ℤ). x ∷ in_lane (channel * n + place) (sources_of ins rows (channels * n) ends)) (sample_brought end channel within)
      ∙ ap (λ (xs : List ℤ). get_or (brought (frame_at channels n ins place) (frames_at channels n rows place) end) channel (pos 0) ∷ xs) (lanes_brought ends channel within)

  module _ (long : length ins ≡ channels * n) (counted : count ≡ length rows) (room : HaveRoom (channels * n) rows) where
    lanes_of : (end : End) → IsSource count end → length (samples_of ins rows (channels * n) end) ≡ channels * n
    lanes_of In is = long
    lanes_of Out is = absurd is
    lanes_of (AtNode node) is = length-take-le (channels * n) (row_at rows node) (room node (omega (arith, is, counted)))

    have_lanes : (ends : List End) → All (IsSource count) ends → HasLanes (channels * n) (sources_of ins rows (channels * n) ends)
    have_lanes ends are = All-map (λ (source : List ℤ). length source ≡ channels * n) (samples_of ins rows (channels * n)) ends (λ k d h. lanes_of _ (are k d h))

    -- the frame of a mix is the mix of frames
    pub frame_of_mix : (ends : List End) → All (IsSource count) ends
        → frame_at channels n (mixed (channels * n) (sources_of ins rows (channels * n) ends)) place ≡ mix channels (reaching channels n ins rows ends place)
    frame_of_mix ends are =
        let sources : List (List ℤ) = sources_of ins rows (channels * n) ends in
        let frames : List Frame = reaching channels n ins rows ends place in
        let sum = λ (channel : ℕ). clamp_of (sum_of (in_lane channel frames)) in
        same_frames channels n place (mixed (channels * n) sources) (mix channels frames) (length-map-range_with_len sum 0 channels) (λ channel within.
        law_mix_is_clamped_sum (channels * n) (channel * n + place) sources (have_lanes ends are) (before_end channels n place channel lt within)
        ∙ ap (λ (xs : List ℤ). clamp_of (sum_of xs)) (lanes_brought ends channel within)
        ∙ sym (get_or-map-range_with_len sum 0 channels channel channel (pos 0) within (omega arith)))
