-- What a sound is of, and what it keeps.
use Rattle.std.specs.Prelude.{ℕ, List, [], ◌∷◌, ℤ, pos}
use Rattle.vh_builtin.specs.declared.sound.Sound.{Sound}
use Rattle.vh_builtin.specs.declared.sound.Sound.TheVariants as sound
use Rattle.vh_builtin.specs.DelayState.{delay_state}

-- the number of its class
abbrev pub sound_number : Sound → ℕ
sound_number (sound.Gain it) = 0
sound_number (sound.Balance it) = 1
sound_number (sound.Delay it) = 2
sound_number (sound.OnePole it) = 3
sound_number (sound.Crusher it) = 4
sound_number (sound.Gate it) = 5
sound_number (sound.Meter it) = 6
sound_number (sound.Tap it) = 7

abbrev pub sound_state : Sound → List ℤ
sound_state (sound.Gain it) = []
sound_state (sound.Balance it) = []
sound_state (sound.Delay it) = delay_state it
sound_state (sound.OnePole it) = it.left ∷ it.right ∷ []
sound_state (sound.Crusher it) = pos it.count ∷ it.left ∷ it.right ∷ []
sound_state (sound.Gate it) = pos it.left ∷ []
sound_state (sound.Meter it) = pos it.left ∷ pos it.right ∷ []
sound_state (sound.Tap it) = pos it.seen ∷ it.left ∷ it.right ∷ []
