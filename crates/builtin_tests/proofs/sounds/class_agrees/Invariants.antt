use Rattle.std.proofs.Common.{◌≡◌}
use Rattle.vh_plugin.specs.Class.{AreValues}
use Rattle.vh_builtin.specs.Builtins.{builtin}
use Rattle.vh_builtin.specs.Kinds.{kind_number}
use Rattle.vh_builtin.specs.Sounds.{sound_number}
use Rattle.builtin_tests.proofs.sounds.class_agrees.Given as goal

abbrev pub invariant-loop : goal.invariant-loop
invariant-loop l = AreValues (builtin (sound_number l.sound)).params l.values.items × (sound_number l.sound ≡ kind_number l.kind)
