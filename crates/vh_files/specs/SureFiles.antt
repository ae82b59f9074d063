-- What is seen of a store that never fails.
use Rattle.vh_files.specs.Store.{Held}
use Rattle.vh_files.specs.declared.sure.SureFiles.{SureFiles}

-- the files that were put and not written to since
abbrev pub files_put : SureFiles → Held
files_put store = store.shelf
