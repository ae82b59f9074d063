use Rattle.std.proofs.Common.{refl}
use Rattle.vh_wav.proofs.Channels.{frames_hold}
use Rattle.vh_wav.proofs.Held.{frames_held}
use Rattle.vh_wav.proofs.frames.read_frames.Goals as goal

pub returns-clause-frames : goal.returns-clause-frames
returns-clause-frames g c = λ bytes e.
    frames_held bytes c.args.head.now c.args.from c.args.n c.decode_frames.new.out
    (frames_hold bytes c.args.head.now c.args.from c.args.n c.in_ok-whole.whole c.from-align.result c.fetch.new.scratch _ c.decode_frames.new.out c.requires.head c.from-align.ensures (c.in_ok-whole.ensures.count bytes e) (c.in_ok-whole.ensures.bytes bytes e) refl c.decode_frames.ensures)
