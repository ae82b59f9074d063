use Rattle.hex.proofs.HexLemmas.{decode_of-encode_upper}
use Rattle.vh_ids.proofs.laws.reads_back.Goals as goal

pub returns : goal.returns
returns c = decode_of-encode_upper
