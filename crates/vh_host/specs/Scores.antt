-- What an engine is to play.
use Rattle.std.specs.Prelude.{◌≡◌, ℕ, List}
use Rattle.vh_session.specs.Content.{Content}
use Rattle.vh_render.specs.declared.score.Score.{Score}
use Rattle.vh_host.specs.Words.{Render}
use Rattle.vh_host.specs.Input.{Heard, IsHeard}
use Rattle.vh_host.specs.Commands.{pattern_of}

-- a score of what is asked: its file, its blocks, and what is heard
pub record IsScore (asked : Render) (content : Content) (heard : Heard) (output : List ℕ) (score : Score) : Type 0 where
  pub output_is : output ≡ asked.output
  pub pattern : score.pattern.now ≡ pattern_of asked.block content
  pub bits : score.bits ≡ content.bits
  pub sound : IsHeard content.channels content.length heard score.rate score.sound.now
