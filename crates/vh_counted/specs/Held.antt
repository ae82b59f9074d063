-- What callers see of an object and of its holders.
use Rattle.std.specs.Prelude.{Bool}
use Rattle.vh_counted.specs.declared.numbers.Numbers.{Numbers}
use Rattle.vh_counted.specs.declared.object.Object.{Object}
use Rattle.vh_counted.specs.declared.object.Shell.{Shell}
use Rattle.vh_counted.specs.declared.object.Counted.{Counted}
use Rattle.vh_counted.specs.declared.object.Opened.{Opened}
use Rattle.vh_counted.specs.declared.object.Holder.{Holder}
use Rattle.vh_counted.specs.declared.object.Ended.{Ended}
use Rattle.std.specs.Option.{is_some}

abbrev pub object_of_shell : {T : Type 0} → Shell T → Object
object_of_shell shell = shell.object

abbrev pub object_of : {T : Type 0} → Counted T → Object
object_of counted = counted.object

abbrev pub object_of_opened : {T : Type 0} → Opened T → Object
object_of_opened opened = opened.object

abbrev pub numbers_of_opened : {T : Type 0} → Opened T → Numbers
numbers_of_opened opened = opened.numbers

abbrev pub value_of_opened : {T : Type 0} → Opened T → T
value_of_opened opened = opened.value

abbrev pub object_of_holder : {T : Type 0} → Holder T → Object
object_of_holder holder = holder.object

abbrev pub numbers_of : {T : Type 0} → Holder T → Numbers
numbers_of holder = holder.numbers

-- the value is with this holder
abbrev pub has_value : {T : Type 0} → Holder T → Bool
has_value holder = is_some holder.value

abbrev pub value_of_ended : {T : Type 0} → Ended T → T
value_of_ended ended = ended.value

-- the opener with this value
abbrev pub with_value : {T : Type 0} → T → Opened T → Opened T
with_value value opened = record opened { value = value }
