use Rattle.std.proofs.Common.{rules, ◌≡◌, ◌∙◌, ℕ, suc, ◌+◌, ◌*◌, ◌<◌, List, [], ◌∷◌, ◌++◌, ℤ, refl, ap, subst, arith}
use Rattle.vh_num.specs.Frames.{frame_at}
use Rattle.vh_gen.specs.Draws.{next_state, behind, drawn_sample}
use Rattle.vh_gen.specs.Generated.{frame_from, frame_total}
use Rattle.vh_gen.proofs.Grown.{one_more}
use Rattle.vh_gen.proofs.Sounded.{left_at, right_at, samples_long, frames_are}
use Rattle.vh_gen.proofs.sound.draw_sound.Goals as goal

pub loop-preserved : goal.loop-preserved
loop-preserved c =
    let inv = c.loop.invariant in
    let n : ℕ = c.loop.counter in
    let state : ℕ = c.args.draws.now.state in
    let once : c.sample.new.self.state ≡ behind (2 * n + 1) state = c.sample.ensures.state ∙ ap next_state inv.state ∙ (let e : suc (2 * n) ≡ 2 * n + 1 = omega arith in ap (λ k. behind k state) e) in
    let put_left : c.push.new.self.items ≡ c.loop.samples.items ++ c.sample.result ∷ [] = search rules in
    let put_right : c.push-in-loop.new.self.items ≡ c.loop.right.items ++ c.sample-in-loop.result ∷ [] = search rules in
    record {
      left = one_more (left_at state) c.loop.samples.items c.push.new.self.items c.sample.result n inv.left put_left (c.sample.ensures.value ∙ ap (λ s. drawn_sample s 0) inv.state);
      right = one_more (right_at state) c.loop.right.items c.push-in-loop.new.self.items c.sample-in-loop.result n inv.right put_right (c.sample-in-loop.ensures.value ∙ ap (λ s. drawn_sample s 0) once);
      state = c.sample-in-loop.ensures.state ∙ ap next_state once ∙ (let e : suc (2 * n + 1) ≡ 2 * (n + 1) = omega arith in ap (λ k. behind k state) e);
    }

pub invariant_of-result : goal.invariant_of-result
invariant_of-result c =
    let inv = c.loop.invariant in
    let all : c.loop.counter ≡ 65536 = omega arith in
    let is : c.extend_from_slice.new.self.items ≡ c.loop.samples.items ++ c.loop.right.items = c.in_ok-extend_from_slice.ensures.items ∙ ap (λ l. c.loop.samples.items ++ l) c.deref.ensures.value in
    let long = samples_long c.args.draws.now.state c.loop.counter c.loop.samples.items c.loop.right.items c.extend_from_slice.new.self.items inv.left inv.right is in
    record { one = omega arith; two = omega arith; most = omega arith; long = long ∙ ap (λ n. 2 * n) all }

pub returns : goal.returns
unfolding frame_total
returns c =
    let inv = c.loop.invariant in
    let state : ℕ = c.args.draws.now.state in
    let samples : List ℤ = c.extend_from_slice.new.self.items in
    let all : c.loop.counter ≡ 65536 = omega arith in
    let is : c.extend_from_slice.new.self.items ≡ c.loop.samples.items ++ c.loop.right.items = c.in_ok-extend_from_slice.ensures.items ∙ ap (λ l. c.loop.samples.items ++ l) c.deref.ensures.value in
    record {
      stereo = refl;
      count = refl;
      frames_are = subst (λ n. (s : ℕ) → s < n → frame_at 2 n samples s ≡ frame_from state s) all (frames_are state c.loop.counter c.loop.samples.items c.loop.right.items samples inv.left inv.right is);
    }
