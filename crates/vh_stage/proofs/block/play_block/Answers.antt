use Rattle.std.proofs.Common.{rules, sym, ap}
use Rattle.vh_params.specs.Nodes.{nodes_of}
use Rattle.vh_session.specs.Content.{Content}
use Rattle.vh_stage.proofs.Carrying.{may_carry}
use Rattle.vh_stage.proofs.Played.{front_still}
use Rattle.vh_stage.proofs.block.play_block.Goals as goal

pub sound-requires-clause-entries : goal.sound-requires-clause-entries
sound-requires-clause-entries g c =
    may_carry g.P.Processor.class_of c.args.engine.now (nodes_of c.session-session.result.now.nodes) c.args.n c.args.entries.now c.requires.some c.requires.classes
    (sym (ap (λ (content : Content). content.nodes) c.session-session.ensures)) (c.are_on.ensures.0 (search rules)) c.requires.at c.requires.few

pub returns-then-not-are_on-clause-front : goal.returns-then-not-are_on-clause-front
returns-then-not-are_on-clause-front g c =
    front_still g.I.Frames.reads g.I.Frames.wrote g.P.Processor.class_of c.args.engine.now c.args.frames.now c.args.frames.now c.args.entries.now c.args.n (g.I.Frames.cut c.args.frames.now) c.requires.at c.requires.whole (λ frames is. is)
