use Rattle.std.proofs.Common.{◌≤◌, length, sym, arith}
use Rattle.std.proofs.lemmas.List.{take_all}
use Rattle.vh_files.proofs.ShelfLemmas.{from_ok}
use Rattle.vh_files.proofs.mem.MemFilesFiles.append.Goals as goal

pub returns-clause-added : goal.returns-clause-added
returns-clause-added c =
    let whole : length c.args.bytes.now ≤ length c.args.bytes.now = omega arith in
    rw take_all (from_ok c.extend.result _ (sym c.if-is_err.ensures.value) c.extend.ensures.ok)
