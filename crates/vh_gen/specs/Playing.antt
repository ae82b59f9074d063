-- An engine whose rendering is summed.
use Rattle.std.specs.Prelude.{◌≡◌, ℕ, false}
use Rattle.vh_plugin.specs.Class.{Class}
use Rattle.vh_engine.specs.Kept.{Kept, scene_in}
use Rattle.vh_render.specs.declared.score.Score.{Score}
use Rattle.vh_render.specs.Playing.{IsScoreOf, MayFollow}

-- it stands before its first sample, and is to play this score of two channels
pub record IsSummable (class_of : ℕ → Class) (kept : Kept) (score : Score) : Type 0 where
  pub begins : kept.at ≡ 0
  pub going : kept.flushed ≡ false
  pub score_of : IsScoreOf kept score
  pub entries : MayFollow (scene_in class_of kept) score.length kept.room score.entries.now
  pub stereo : kept.session.channels ≡ 2
