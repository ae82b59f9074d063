use Rattle.std.proofs.Common.{refl}
use Rattle.vh_wav.specs.Text.{head_text}
use Rattle.vh_wav.proofs.text.head_bytes.Goals as goal

pub returns : goal.returns
unfolding head_text
returns c = rw (c.to_le_bytes-riff.ensures, c.to_le_bytes-c.ensures, c.to_le_bytes-r.ensures, c.to_le_bytes-s.ensures, c.to_le_bytes-a.ensures, c.to_le_bytes-b.ensures, c.to_le_bytes-d.ensures, c.from.ensures, c.from-2.ensures) refl
