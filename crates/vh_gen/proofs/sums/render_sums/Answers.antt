use Rattle.std.proofs.Common.{◌∙◌, ◌+◌, ℕ, List, length, map, take, sym, ap, subst}
use Rattle.vh_journal.specs.declared.entry.Entry.{Entry}
use Rattle.vh_plugin.specs.Counts.{raised}
use Rattle.vh_meaning.specs.Scene.{Scene}
use Rattle.vh_meaning.specs.Rendering.{last_values, answers}
use Rattle.vh_engine.specs.Kept.{scene_in, MayCarry}
use Rattle.vh_engine.proofs.Rooms.{same_scene}
use Rattle.vh_render.specs.Playing.{piece_count}
use Rattle.vh_render.proofs.Between.{between, may_end, taken_all}
use Rattle.vh_render.proofs.Calls.{calls_all}
use Rattle.vh_gen.proofs.sums.render_sums.Goals as goal

pub flush-requires-clause-entries : goal.flush-requires-clause-entries
flush-requires-clause-entries g c =
    let way = c.sum_pieces-progress.ensures.way in
    let kept = c.sum_pieces-progress.new.engine in
    let entries = c.args.score.now.entries.now in
    let taken = c.sum_pieces-progress.result.taken in
    let P : ℕ → Type 0 = λ at. MayCarry (scene_in g.P.Processor.class_of kept) at (at + 1) kept.room (between taken (length entries) entries) in
    subst P (sym way.at_is) (may_end (scene_in g.P.Processor.class_of kept) c.args.score.now.length kept.room taken entries way.entries way.up_to)

pub returns-clause-values : goal.returns-clause-values
returns-clause-values g c = λ input playing.
    let entries = c.args.score.now.entries.now in
    let taken = c.sum_pieces-progress.result.taken in
    c.flush.ensures.values input (take taken entries) (c.sum_pieces-progress.ensures.stands input playing)
    ∙ ap (λ (l : List Entry). last_values (scene_in g.P.Processor.class_of c.sum_pieces-progress.new.engine) input l) (taken_all taken entries c.sum_pieces-progress.ensures.way.up_to.most)
    ∙ ap (λ (scene : Scene). last_values scene input entries) (same_scene g.P.Processor.class_of c.args.engine.now c.sum_pieces-progress.new.engine c.sum_pieces-progress.ensures.same)

pub returns-clause-answers : goal.returns-clause-answers
returns-clause-answers g c = λ input playing.
    let entries = c.args.score.now.entries.now in
    let taken = c.sum_pieces-progress.result.taken in
    c.flush.ensures.answers input (take taken entries) (c.sum_pieces-progress.ensures.stands input playing)
    ∙ ap (λ (l : List Entry). answers (scene_in g.P.Processor.class_of c.sum_pieces-progress.new.engine) input l) (taken_all taken entries c.sum_pieces-progress.ensures.way.up_to.most)
    ∙ ap (λ (scene : Scene). answers scene input entries) (same_scene g.P.Processor.class_of c.args.engine.now c.sum_pieces-progress.new.engine c.sum_pieces-progress.ensures.same)

pub returns-clause-calls : goal.returns-clause-calls
returns-clause-calls g c = c.flush.ensures.calls ∙ ap (λ (l : List ℕ). map raised l) c.sum_pieces-progress.ensures.calls ∙ calls_all (piece_count c.args.score.now) c.args.engine.now.calls
