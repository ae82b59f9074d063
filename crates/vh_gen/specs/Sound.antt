-- The input as a sound.
use Rattle.std.specs.Prelude.{◌≡◌, ◌<◌, ℕ}
use Rattle.vh_num.specs.Frames.{frame_at}
use Rattle.vh_meaning.specs.Scene.{Scene}
use Rattle.vh_render.specs.Playing.{IsInput}
use Rattle.vh_render.specs.declared.sound.Sound.{Sound}
use Rattle.vh_gen.specs.Generated.{frame_from, input_from, frame_total}

-- two channels, whose frames are drawn from this state
pub record HasDrawn (state : ℕ) (sound : Sound) : Type 0 where
  pub stereo : sound.channels ≡ 2
  pub count : sound.frames ≡ frame_total
  pub frames_are : (s : ℕ) → s < frame_total → frame_at 2 frame_total sound.samples.items s ≡ frame_from state s

-- A sound that is drawn from a state is, to a scene of two channels and as many frames, the input that is drawn from it.
abbrev pub SoundIsInput : Type 0
SoundIsInput = (state : ℕ) (scene : Scene) (sound : Sound) → HasDrawn state sound → scene.channels ≡ 2 → scene.length ≡ frame_total → IsInput scene (input_from state) sound
