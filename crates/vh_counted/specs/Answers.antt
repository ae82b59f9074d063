-- What a step answers, where it finds a count.
use Rattle.std.specs.Prelude.{◌≡◌, ℕ, ◌+◌, ◌≤◌, ◌<◌, Result, Ok, Err, Bool, true, false}
use Rattle.vh_counted.specs.declared.numbers.Numbers.{Numbers}
use Rattle.vh_counted.specs.declared.object.Released.{Released}
use Rattle.vh_counted.specs.declared.object.Released.TheVariants.{Left, Ended}
use Rattle.vh_counted.specs.declared.object.TooMany.{TooMany}
use Rattle.vh_counted.specs.Steps.{added, released}
use Rattle.vh_counted.specs.Objects.{CountsFor}

-- an add: it finds a count and answers one more, which is at most 1 + cap, or no add is left to the holder
abbrev pub IsAdded : ℕ → ℕ → Numbers → Numbers → Result ℕ TooMany → Type 0
IsAdded cap iface old new (Ok seen) = (0 < old.room) × ((n : ℕ) × CountsFor cap old n × (seen ≡ n + 1) × (new ≡ added iface seen old))
IsAdded cap iface old new (Err _) = (old.room ≡ 0) × (new ≡ old)

-- a release that finds the count n: it leaves one less, or was the last
abbrev pub IsReleased : {T : Type 0} → ℕ → ℕ → Numbers → Numbers → Released T → Type 0
IsReleased iface n old new (Left seen) = (1 ≤ seen) × (seen + 1 ≡ n) × (new ≡ released iface seen old)
IsReleased iface n old new (Ended _) = (n ≡ 1) × (new ≡ released iface 0 old)

-- a release that isn't the last
abbrev pub IsLeft : ℕ → ℕ → Numbers → Numbers → ℕ → Type 0
IsLeft iface n old new seen = (1 ≤ seen) × (seen + 1 ≡ n) × (new ≡ released iface seen old)

-- the value stays with the holder until the last release
abbrev pub KeepsValue : {T : Type 0} → Released T → Bool → Type 0
KeepsValue (Left _) has = has ≡ true
KeepsValue (Ended _) has = has ≡ false
