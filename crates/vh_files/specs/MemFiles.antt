-- What is seen of a store of files in memory.
use Rattle.std.specs.Prelude.{ℕ, List}
use Rattle.vh_files.specs.Store.{Held}
use Rattle.vh_files.specs.declared.due.Op.{Op}
use Rattle.vh_files.specs.declared.due.Calls.{Calls}
use Rattle.vh_files.specs.declared.mem.MemFiles.{MemFiles}
use Rattle.vh_files.specs.declared.mem.MemSay.{MemSay}

-- its files
abbrev pub files_in : MemFiles → Held
files_in store = store.shelf

-- the calls that fail
abbrev pub failing_in : MemFiles → List (Op × ℕ)
failing_in store = store.failing.items

-- the calls that were made
abbrev pub calls_in : MemFiles → Calls
calls_in store = store.calls

-- how many calls of `size` and `read` failed, and how many of `create` and `append`
abbrev pub read_faults_in : MemFiles → ℕ
read_faults_in store = store.read_faults

abbrev pub write_faults_in : MemFiles → ℕ
write_faults_in store = store.write_faults

-- what was said
abbrev pub said_in : MemSay → List ℕ
said_in say = say.said.items

-- the writes that fail, by number
abbrev pub failing_writes_in : MemSay → List ℕ
failing_writes_in say = say.failing.items

-- how many writes were made
abbrev pub writes_in : MemSay → ℕ
writes_in say = say.writes

-- how many of them failed
abbrev pub faults_in : MemSay → ℕ
faults_in say = say.faults
