use Rattle.vh_live.proofs.beside.sound.Goals as goal

pub returns-clause-sounded : goal.returns-clause-sounded
returns-clause-sounded g c = let played = c.play-result.ensures in record {
  heard = played.heard;
  read = played.stands;
  front = played.front;
  ready = played.ready;
  at = played.at;
  calls = played.calls;
  told = played.told;
  same = played.same;
  same_stage = played.same_stage;
  taken = played.gave;
  drain_is = played.rest_gave;
  blocks = played.blocks;
  up_to = played.up_to;
  fit = played.unfit;
}

pub returns-clause-left : goal.returns-clause-left
returns-clause-left g c = let played = c.play-result.ensures in record {
  uncut = played.uncut;
  cut = played.cut;
  read = played.read;
  write = played.write;
  reads_later = played.reads_later;
  writes_later = played.writes_later;
  channels = played.channels;
  space = played.space;
  max = played.max;
  rest = played.rest;
}
