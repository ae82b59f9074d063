-- What reaches the output.
use Rattle.std.proofs.Common.{◌≡◌, ◌∙◌, ℕ, ◌<◌, ◌≤◌, ◌*◌, false, List, length, map, ℤ, ap}
use Rattle.std.specs.Prelude.{All}
use Rattle.vh_num.specs.Frames.{Frame, frame_at}
use Rattle.vh_num.specs.Laws.{mixed}
use Rattle.vh_session.specs.Content.{sources_into}
use Rattle.vh_session.specs.declared.wire.End.{End}
use Rattle.vh_session.specs.declared.wire.End.TheVariants.{Out}
use Rattle.vh_meaning.specs.Frames.{out_of}
use Rattle.vh_meaning.specs.Mix.{mix, brought, arriving}
use Rattle.vh_meaning.specs.Scene.{Scene}
use Rattle.vh_engine.specs.Buses.{IsSource, sources_of, HaveRoom, frames_at}
use Rattle.vh_engine.proofs.Reached.{frame_of_mix}
use Rattle.vh_engine.proofs.Wired.{ends_bring}

-- The mix of the samples that reach the output is, frame by frame, what reaches the scene's output.
pub out_mixed : (scene : Scene) (n place : ℕ) (ins : List ℤ) (rows : List (List ℤ)) (count : ℕ) (ends : List End) (input : Frame) → place < n → length ins ≡ scene.channels * n → count ≡ length rows → HaveRoom (scene.channels * n) rows
    → All (IsSource count) ends → ends ≡ sources_into scene.wires Out false → frame_at scene.channels n ins place ≡ input
    → frame_at scene.channels n (mixed (length ins) (sources_of ins rows (length ins) ends)) place ≡ out_of scene input (frames_at scene.channels n rows place)
out_mixed scene n place ins rows count ends input lt long counted room sources are same =
    let channels = scene.channels in
    let frames = frames_at channels n rows place in
    ap (λ (m : ℕ). frame_at channels n (mixed m (sources_of ins rows m ends)) place) long
    ∙ frame_of_mix channels n place lt ins rows count long counted room ends sources
    ∙ ap (λ (es : List End). mix channels (map (brought (frame_at channels n ins place) frames) es)) are
    ∙ ap (mix channels) (ends_bring scene.wires Out false (frame_at channels n ins place) frames)
    ∙ ap (λ (frame : Frame). mix channels (arriving scene.wires frame frames Out false)) same
