use Rattle.std.proofs.Common.{◌≡◌, ℕ, ◌*◌, ◌/◌, ◌%◌, ◌++◌, ℤ, length, take, ap, sym, ◌∙◌, arith}
use Rattle.std.proofs.Math.Nat.{mul_comm}
use Rattle.std.proofs.lemmas.List.{take_rest, length-take-le}
use Rattle.std.specs.List.{flat_map, zip}
use Rattle.vh_num.specs.Frames.{frames_of}
use Rattle.vh_wav.specs.Text.{sample_bytes, frames_text}
use Rattle.vh_wav.proofs.Grow.{mono_text, stereo_text}
use Rattle.vh_wav.proofs.text.frame_bytes.Goals as goal

pub returns-in-1-eq16-clause-bytes : goal.returns-in-1-eq16-clause-bytes
returns-in-1-eq16-clause-bytes c =
    let bits : c.args.bits ≡ 16 = c.in-1-eq16.is-1 in
    let channels : c.args.channels ≡ 1 = c.in-1-eq16.is-0 in
    let used : length c.args.frames.now * c.from.result ≡ 2 * length c.args.frames.now = ap (λ n. length c.args.frames.now * n) (c.from.ensures ∙ ap (λ n. n / 8) bits) ∙ mul_comm _ 2 in
    ap (λ n. take n c.encode_mono16.new.out) used ∙ c.encode_mono16.ensures ∙ sym (mono_text 16 c.args.frames.now)
    ∙ ap (λ n. frames_text n (frames_of 1 c.args.frames.now)) (sym bits) ∙ ap (λ n. frames_text c.args.bits (frames_of n c.args.frames.now)) (sym channels)

pub returns-in-1-default-clause-bytes : goal.returns-in-1-default-clause-bytes
returns-in-1-default-clause-bytes c =
    let bits : c.args.bits ≡ 24 = omega arith in
    let channels : c.args.channels ≡ 1 = omega arith in
    let used : length c.args.frames.now * c.from.result ≡ 3 * length c.args.frames.now = ap (λ n. length c.args.frames.now * n) (c.from.ensures ∙ ap (λ n. n / 8) bits) ∙ mul_comm _ 3 in
    ap (λ n. take n c.encode_mono24.new.out) used ∙ c.encode_mono24.ensures ∙ sym (mono_text 24 c.args.frames.now)
    ∙ ap (λ n. frames_text n (frames_of 1 c.args.frames.now)) (sym bits) ∙ ap (λ n. frames_text c.args.bits (frames_of n c.args.frames.now)) (sym channels)

pub returns-in_default-eq16-clause-bytes : goal.returns-in_default-eq16-clause-bytes
returns-in_default-eq16-clause-bytes c =
    let bits : c.args.bits ≡ 16 = c.in_default-eq16.is-1 in
    let channels : c.args.channels ≡ 2 = omega arith in
    let frames = c.args.frames.now in
    let n : ℕ = length frames / c.args.channels in
    let half : n ≡ length frames / 2 = ap (λ k. length frames / k) channels in
    let even : length frames % 2 ≡ 0 = ap (λ k. length frames % k) (sym channels) ∙ c.requires.whole in
    let count : length (take n frames) ≡ n = length-take-le n frames (omega (arith, half)) in
    let width : c.from.result ≡ 2 = c.from.ensures ∙ ap (λ k. k / 8) bits in
    let size : length frames * 2 ≡ 4 * length (take n frames) = omega (arith, count, half, even) in
    ap (λ k. take k c.encode_stereo16.new.out) (ap (λ k. length frames * k) width ∙ size) ∙ c.encode_stereo16.ensures
    ∙ ap (λ r. flat_map (λ (p : ℤ × ℤ). sample_bytes 16 p.0 ++ sample_bytes 16 p.1) (zip (take n frames) r)) (take_rest frames n)
    ∙ sym (stereo_text 16 n frames half)
    ∙ ap (λ k. frames_text k (frames_of 2 frames)) (sym bits) ∙ ap (λ k. frames_text c.args.bits (frames_of k frames)) (sym channels)

pub returns-in_default-clause-bytes : goal.returns-in_default-clause-bytes
returns-in_default-clause-bytes c =
    let bits : c.args.bits ≡ 24 = omega arith in
    let channels : c.args.channels ≡ 2 = omega arith in
    let frames = c.args.frames.now in
    let n : ℕ = length frames / c.args.channels in
    let half : n ≡ length frames / 2 = ap (λ k. length frames / k) channels in
    let even : length frames % 2 ≡ 0 = ap (λ k. length frames % k) (sym channels) ∙ c.requires.whole in
    let count : length (take n frames) ≡ n = length-take-le n frames (omega (arith, half)) in
    let width : c.from.result ≡ 3 = c.from.ensures ∙ ap (λ k. k / 8) bits in
    let size : length frames * 3 ≡ 6 * length (take n frames) = omega (arith, count, half, even) in
    ap (λ k. take k c.encode_stereo24.new.out) (ap (λ k. length frames * k) width ∙ size) ∙ c.encode_stereo24.ensures
    ∙ ap (λ r. flat_map (λ (p : ℤ × ℤ). sample_bytes 24 p.0 ++ sample_bytes 24 p.1) (zip (take n frames) r)) (take_rest frames n)
    ∙ sym (stereo_text 24 n frames half)
    ∙ ap (λ k. frames_text k (frames_of 2 frames)) (sym bits) ∙ ap (λ k. frames_text c.args.bits (frames_of k frames)) (sym channels)
