-- Lists of classes.
use Rattle.std.specs.Prelude.{◌≢◌, ℕ, ◌<◌, List, length, slice_index_or}
use Rattle.vh_params.specs.declared.class.ClassInfo.{ClassInfo}
use Rattle.vh_params.specs.Short.{label_text}

-- no two classes have one name
abbrev pub NamesDiffer : List ClassInfo → Type 0
NamesDiffer list = (i j : ℕ) (d : ClassInfo) → i < j → j < length list → label_text (slice_index_or list i d).name ≢ label_text (slice_index_or list j d).name
