use Rattle.std.proofs.Common.{◌≡◌, ◌≤◌, List, [], length, map, take}
use Rattle.std.specs.List.{range_with_len}
use Rattle.vh_files.specs.Store.{told, Lacks, Grows, SameElsewhere}
use Rattle.vh_num.specs.Frames.{Frame}
use Rattle.vh_wav.specs.Text.{frames_text}
use Rattle.vh_meaning.specs.Rendering.{out_at}
use Rattle.vh_engine.specs.Kept.{scene_in, Stands, IsSameEngine}
use Rattle.vh_render.specs.Playing.{HasRoom, IsUnderWay, IsPlaying, called}
use Rattle.vh_render.proofs.Cuts.{start_in}
use Rattle.vh_render.proofs.write.write_pieces.Given as goal

abbrev pub invariant-loop-piece : goal.invariant-loop-piece
invariant-loop-piece g l = record {
  way : IsUnderWay g.P.Processor.class_of l.engine l.score (start_in l.score (length l.yielded)) l.progress.taken;
  count : l.progress.pieces ≡ length l.yielded;
  stands : (input : List Frame) → IsPlaying g.P.Processor.class_of l.fn.engine l.score.sound.now input [] → Stands g.P.Processor.class_of l.engine input (take l.progress.taken l.score.entries.now);
  frames : (input : List Frame) → IsPlaying g.P.Processor.class_of l.fn.engine l.score.sound.now input []
      → Grows (g.F.Files.complete l.fn.files) (told (g.F.Files.held l.fn.files) l.name) (told (g.F.Files.held l.files) l.name)
      (frames_text l.score.bits (map (out_at (scene_in g.P.Processor.class_of l.fn.engine) input l.score.entries.now) (range_with_len 0 (start_in l.score (length l.yielded)))));
  calls : l.engine.calls ≡ map (called (length l.yielded)) l.fn.engine.calls;
  same : IsSameEngine l.fn.engine l.engine;
  space : HasRoom l.fn.engine.session.channels l.fn.engine.max l.room;
  there : ¬ Lacks (g.F.Files.complete l.files) (g.F.Files.held l.files) l.name;
  others : SameElsewhere l.name (g.F.Files.held l.fn.files) (g.F.Files.held l.files);
  later : g.F.Files.write_faults l.fn.files ≤ g.F.Files.write_faults l.files;
  complete : g.F.Files.complete l.files ≡ g.F.Files.complete l.fn.files;
  reads : g.F.Files.read_faults l.files ≡ g.F.Files.read_faults l.fn.files;
}
