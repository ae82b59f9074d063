use Rattle.std.proofs.Common.{◌≡◌, ◌≤◌, ◌*◌, length, take}
use Rattle.vh_files.specs.Store.{told, Lacks, Grows, SameElsewhere}
use Rattle.vh_live_host.specs.Waves.{samples_text}
use Rattle.vh_live_host.proofs.Pieces.{start_at}
use Rattle.vh_live_host.proofs.wave.Wave.write_pieces.Given as goal

abbrev pub invariant-loop-piece : goal.invariant-loop-piece
invariant-loop-piece g l = record {
  count : l.count ≡ length l.yielded;
  grows : Grows (g.F.Files.complete l.fn.files) (told (g.F.Files.held l.fn.files) l.name) (told (g.F.Files.held l.files) l.name)
      (samples_text l.self.bits (take (l.self.channels * start_at l.self.frames l.self.sizes.now (length l.yielded)) l.self.samples.now));
  room : length l.room ≡ length l.fn.room;
  there : ¬ Lacks (g.F.Files.complete l.files) (g.F.Files.held l.files) l.name;
  others : SameElsewhere l.name (g.F.Files.held l.fn.files) (g.F.Files.held l.files);
  later : g.F.Files.write_faults l.fn.files ≤ g.F.Files.write_faults l.files;
  complete : g.F.Files.complete l.files ≡ g.F.Files.complete l.fn.files;
  reads : g.F.Files.read_faults l.files ≡ g.F.Files.read_faults l.fn.files;
}
