-- What callers see of the classes.
use Rattle.std.specs.Prelude.{List}
use Rattle.vh_params.specs.declared.class.ClassInfo.{ClassInfo}
use Rattle.vh_params.specs.declared.class.Classes.{Classes}

abbrev pub classes_of : Classes → List ClassInfo
classes_of classes = classes.list.items
