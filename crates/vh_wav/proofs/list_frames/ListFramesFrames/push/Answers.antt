use Rattle.std.proofs.Common.{rules, ◌≡◌, ◌∙◌, ◌≤◌, ◌+◌, ◌*◌, length, sym, ap, arith}
use Rattle.std.proofs.Math.Nat.{mul-le-mul_left}
use Rattle.vh_wav.specs.InMemory.{AtListFrames}
use Rattle.vh_wav.proofs.InMemory.{length-interleaved}
use Rattle.vh_wav.proofs.list_frames.ListFramesFrames.push.Goals as goal

pub add_frames-requires-clause-room : goal.add_frames-requires-clause-room
add_frames-requires-clause-room c =
    let inside = c.self.inside in
    let old = length-interleaved inside.channels inside.count inside.outs.items c.self.invariant.channels c.self.invariant.added in
    let count : length c.args.self.now.added ≡ inside.count = sym (ap (λ (seen : AtListFrames). length seen.added) c.self.view_is) ∙ old in
    let room : c.args.self.now.room ≡ inside.room = sym (ap (λ (seen : AtListFrames). seen.room) c.self.view_is) in
    let most : length c.args.self.now.added + c.args.n ≤ c.args.self.now.room = c.requires.room in
    let fits : inside.count + c.args.n ≤ inside.room = omega (arith, count, room, most) in
    let more : inside.channels * (inside.count + c.args.n) ≤ inside.channels * inside.room = mul-le-mul_left inside.channels fits in
    let channels : c.args.self.now.channels ≡ inside.channels = sym (ap (λ (seen : AtListFrames). seen.channels) c.self.view_is) in
    let frames : length c.args.frames.now ≡ inside.channels * c.args.n = c.requires.long ∙ ap (λ k. k * c.args.n) channels in
    let split : inside.channels * (inside.count + c.args.n) ≡ inside.channels * inside.count + inside.channels * c.args.n = omega arith in
    let had = c.self.invariant.added in
    let space = c.self.invariant.space in
    let len = inside.outs.ok in
    search rules

pub invariant_of-self : goal.invariant_of-self
invariant_of-self c =
    let inside = c.self.inside in
    let old = length-interleaved inside.channels inside.count inside.outs.items c.self.invariant.channels c.self.invariant.added in
    let count : length c.args.self.now.added ≡ inside.count = sym (ap (λ (seen : AtListFrames). length seen.added) c.self.view_is) ∙ old in
    let room : c.args.self.now.room ≡ inside.room = sym (ap (λ (seen : AtListFrames). seen.room) c.self.view_is) in
    let most : length c.args.self.now.added + c.args.n ≤ c.args.self.now.room = c.requires.room in
    record {
      channels = c.self.invariant.channels;
      total = c.self.invariant.total;
      at = c.self.invariant.at;
      added = c.add_frames.ensures.long;
      few = omega (arith, count, room, most);
      space = search rules;
    }

pub returns-clause-pushed : goal.returns-clause-pushed
returns-clause-pushed c =
    let inside = c.self.inside in
    let old = length-interleaved inside.channels inside.count inside.outs.items c.self.invariant.channels c.self.invariant.added in
    let count : length c.args.self.now.added ≡ inside.count = sym (ap (λ (seen : AtListFrames). length seen.added) c.self.view_is) ∙ old in
    length-interleaved inside.channels (inside.count + c.args.n) c.add_frames.new.outs.items c.self.invariant.channels c.add_frames.ensures.long ∙ ap (λ k. k + c.args.n) (sym count)
