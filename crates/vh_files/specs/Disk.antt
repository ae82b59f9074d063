-- What is seen of real files and of standard output.
use Rattle.std.specs.Prelude.{ℕ}
use Rattle.vh_files.specs.declared.disk.DiskFiles.{DiskFiles}
use Rattle.vh_files.specs.declared.disk.OutSay.{OutSay}

-- how many calls of `size` and `read` failed, and how many of `create` and `append`
abbrev pub disk_read_faults : {R S T : Type 0} → DiskFiles R S T → ℕ
disk_read_faults files = files.read_faults

abbrev pub disk_write_faults : {R S T : Type 0} → DiskFiles R S T → ℕ
disk_write_faults files = files.write_faults

-- how many writes failed
abbrev pub out_faults : {R : Type 0} → OutSay R → ℕ
out_faults say = say.faults
