use Rattle.std.proofs.Common.{◌≡◌, sym, subst}
use Rattle.std.specs.Prelude.{All}
use Rattle.vh_component.specs.declared.setup.Phase.TheVariants.{Processing as AtProcessing}
use Rattle.vh_instance.specs.declared.band.Band.{Band}
use Rattle.vh_instance.specs.Band.{IsHeld, of_processors}
use Rattle.vh_live.proofs.Accounts as accounts
use Rattle.vh_live.proofs.Banded.{held}
use Rattle.vh_live.proofs.Between.{may_begin, over}
use Rattle.vh_live.proofs.Heard.{front_none}
use Rattle.vh_live.proofs.live.play.Goals as goal

-- ---- where memory was wanting
pub returns-in-Err-clause-processing : goal.returns-in-Err-clause-processing
returns-in-Err-clause-processing g c = subst (λ (band : Band g.row.P.Denot g.row.C.Denot). All (λ phase. phase ≡ AtProcessing) (of_processors g.P.Life.phase band.processors.items)) (sym c.in-Err.ensures.back.1) c.requires.band.band_is.components.phases

pub returns-in-Err-clause-held : goal.returns-in-Err-clause-held
returns-in-Err-clause-held g c = subst IsHeld (sym c.in-Err.ensures.back.1) (held _ _ _ _ c.args.session c.args.band c.requires.band)

pub returns-in-Err-clause-front : goal.returns-in-Err-clause-front
returns-in-Err-clause-front g c = λ input before reads wrote. front_none g.I.Frames.wrote c.args.frames.now (g.I.Frames.cut c.args.frames.now) before _ c.requires.whole wrote

-- ---- from one part to the next
pub perform-run-requires-clause-begin : goal.perform-run-requires-clause-begin
perform-run-requires-clause-begin g c κs within =
    may_begin g.I.Frames g.P.Processor.class_of g.C.Controller.class_of (record { code = g.P.Processor.code; values = g.P.Processor.values; state = g.P.Processor.state; calls = g.P.Processor.calls; phase = g.P.Life.phase; setup = g.P.Life.last_setup }) (record { code = g.C.Controller.code; values = g.C.Controller.values; mode = g.C.Controller.mode }) c.args.session c.args.band c.requires.band c.in-Ok.run' c.in-Ok.ensures.set_up
    c.args.frames.now c.requires.channels c.requires.max c.requires.none c.requires.whole c.requires.room

pub close-requires : goal.close-requires
close-requires g c =
    let performed = c.perform-run.ensures in (
      c.args.session,
      over g.I.Frames g.P.Processor.class_of g.C.Controller.class_of (record { code = g.P.Processor.code; values = g.P.Processor.values; state = g.P.Processor.state; calls = g.P.Processor.calls; phase = g.P.Life.phase; setup = g.P.Life.last_setup }) (record { code = g.C.Controller.code; values = g.C.Controller.values; mode = g.C.Controller.mode }) c.args.session c.args.band c.requires.band c.in-Ok.run' c.in-Ok.ensures.set_up
          c.perform-run.result.0 c.args.frames.now c.perform-run.new.frames c.perform-run.result.1 performed.sounded performed.worked performed.refused,
    )

-- ---- what it comes to
pub returns-clause-legal : goal.returns-clause-legal
returns-clause-legal g c =
    λ done. accounts.legal g.I.Frames g.P.Processor.class_of g.C.Controller.class_of (record { code = g.P.Processor.code; values = g.P.Processor.values; state = g.P.Processor.state; calls = g.P.Processor.calls; phase = g.P.Life.phase; setup = g.P.Life.last_setup }) (record { code = g.C.Controller.code; values = g.C.Controller.values; mode = g.C.Controller.mode }) c.args.session c.args.band c.args.frames.now c.perform-run.new.frames c.in-Ok.run' c.perform-run.result.0 c.perform-run.result.1 c.close.result
    (record { made = c.requires.band; set = c.in-Ok.ensures.set_up; sounded = c.perform-run.ensures.sounded; worked = c.perform-run.ensures.worked; components = c.perform-run.ensures.components; left = c.perform-run.ensures.left; closed = c.close.ensures })

pub returns-clause-sound : goal.returns-clause-sound
returns-clause-sound g c =
    λ input before reads wrote. accounts.sound_is g.I.Frames g.P.Processor.class_of g.C.Controller.class_of (record { code = g.P.Processor.code; values = g.P.Processor.values; state = g.P.Processor.state; calls = g.P.Processor.calls; phase = g.P.Life.phase; setup = g.P.Life.last_setup }) (record { code = g.C.Controller.code; values = g.C.Controller.values; mode = g.C.Controller.mode }) c.args.session c.args.band c.args.frames.now c.perform-run.new.frames c.in-Ok.run' c.perform-run.result.0 c.perform-run.result.1 c.close.result
    (record { made = c.requires.band; set = c.in-Ok.ensures.set_up; sounded = c.perform-run.ensures.sounded; worked = c.perform-run.ensures.worked; components = c.perform-run.ensures.components; left = c.perform-run.ensures.left; closed = c.close.ensures }) input before reads wrote

pub returns-clause-replies : goal.returns-clause-replies
returns-clause-replies g c =
    λ input reads. accounts.replies_are g.I.Frames g.P.Processor.class_of g.C.Controller.class_of (record { code = g.P.Processor.code; values = g.P.Processor.values; state = g.P.Processor.state; calls = g.P.Processor.calls; phase = g.P.Life.phase; setup = g.P.Life.last_setup }) (record { code = g.C.Controller.code; values = g.C.Controller.values; mode = g.C.Controller.mode }) c.args.session c.args.band c.args.frames.now c.perform-run.new.frames c.in-Ok.run' c.perform-run.result.0 c.perform-run.result.1 c.close.result
    (record { made = c.requires.band; set = c.in-Ok.ensures.set_up; sounded = c.perform-run.ensures.sounded; worked = c.perform-run.ensures.worked; components = c.perform-run.ensures.components; left = c.perform-run.ensures.left; closed = c.close.ensures }) input reads

pub returns-clause-values : goal.returns-clause-values
returns-clause-values g c =
    λ input reads. accounts.values_are g.I.Frames g.P.Processor.class_of g.C.Controller.class_of (record { code = g.P.Processor.code; values = g.P.Processor.values; state = g.P.Processor.state; calls = g.P.Processor.calls; phase = g.P.Life.phase; setup = g.P.Life.last_setup }) (record { code = g.C.Controller.code; values = g.C.Controller.values; mode = g.C.Controller.mode }) c.args.session c.args.band c.args.frames.now c.perform-run.new.frames c.in-Ok.run' c.perform-run.result.0 c.perform-run.result.1 c.close.result
    (record { made = c.requires.band; set = c.in-Ok.ensures.set_up; sounded = c.perform-run.ensures.sounded; worked = c.perform-run.ensures.worked; components = c.perform-run.ensures.components; left = c.perform-run.ensures.left; closed = c.close.ensures }) input reads

pub returns-clause-calls : goal.returns-clause-calls
returns-clause-calls g c =
    accounts.calls_are g.I.Frames g.P.Processor.class_of g.C.Controller.class_of (record { code = g.P.Processor.code; values = g.P.Processor.values; state = g.P.Processor.state; calls = g.P.Processor.calls; phase = g.P.Life.phase; setup = g.P.Life.last_setup }) (record { code = g.C.Controller.code; values = g.C.Controller.values; mode = g.C.Controller.mode }) c.args.session c.args.band c.args.frames.now c.perform-run.new.frames c.in-Ok.run' c.perform-run.result.0 c.perform-run.result.1 c.close.result
    (record { made = c.requires.band; set = c.in-Ok.ensures.set_up; sounded = c.perform-run.ensures.sounded; worked = c.perform-run.ensures.worked; components = c.perform-run.ensures.components; left = c.perform-run.ensures.left; closed = c.close.ensures })

pub returns-clause-begun : goal.returns-clause-begun
returns-clause-begun g c =
    c.legal_is_begun.ensures _ _ _ _ _ (accounts.legal g.I.Frames g.P.Processor.class_of g.C.Controller.class_of (record { code = g.P.Processor.code; values = g.P.Processor.values; state = g.P.Processor.state; calls = g.P.Processor.calls; phase = g.P.Life.phase; setup = g.P.Life.last_setup }) (record { code = g.C.Controller.code; values = g.C.Controller.values; mode = g.C.Controller.mode }) c.args.session c.args.band c.args.frames.now c.perform-run.new.frames c.in-Ok.run' c.perform-run.result.0 c.perform-run.result.1 c.close.result
    (record { made = c.requires.band; set = c.in-Ok.ensures.set_up; sounded = c.perform-run.ensures.sounded; worked = c.perform-run.ensures.worked; components = c.perform-run.ensures.components; left = c.perform-run.ensures.left; closed = c.close.ensures }))

pub returns-clause-held : goal.returns-clause-held
returns-clause-held g c =
    accounts.held_is g.I.Frames g.P.Processor.class_of g.C.Controller.class_of (record { code = g.P.Processor.code; values = g.P.Processor.values; state = g.P.Processor.state; calls = g.P.Processor.calls; phase = g.P.Life.phase; setup = g.P.Life.last_setup }) (record { code = g.C.Controller.code; values = g.C.Controller.values; mode = g.C.Controller.mode }) c.args.session c.args.band c.args.frames.now c.perform-run.new.frames c.in-Ok.run' c.perform-run.result.0 c.perform-run.result.1 c.close.result
    (record { made = c.requires.band; set = c.in-Ok.ensures.set_up; sounded = c.perform-run.ensures.sounded; worked = c.perform-run.ensures.worked; components = c.perform-run.ensures.components; left = c.perform-run.ensures.left; closed = c.close.ensures })

pub returns-clause-front : goal.returns-clause-front
returns-clause-front g c =
    λ input before reads wrote. accounts.front_is g.I.Frames g.P.Processor.class_of g.C.Controller.class_of (record { code = g.P.Processor.code; values = g.P.Processor.values; state = g.P.Processor.state; calls = g.P.Processor.calls; phase = g.P.Life.phase; setup = g.P.Life.last_setup }) (record { code = g.C.Controller.code; values = g.C.Controller.values; mode = g.C.Controller.mode }) c.args.session c.args.band c.args.frames.now c.perform-run.new.frames c.in-Ok.run' c.perform-run.result.0 c.perform-run.result.1 c.close.result
    (record { made = c.requires.band; set = c.in-Ok.ensures.set_up; sounded = c.perform-run.ensures.sounded; worked = c.perform-run.ensures.worked; components = c.perform-run.ensures.components; left = c.perform-run.ensures.left; closed = c.close.ensures }) input before reads wrote

pub returns-clause-cut : goal.returns-clause-cut
returns-clause-cut g c =
    accounts.cut_is g.I.Frames g.P.Processor.class_of g.C.Controller.class_of (record { code = g.P.Processor.code; values = g.P.Processor.values; state = g.P.Processor.state; calls = g.P.Processor.calls; phase = g.P.Life.phase; setup = g.P.Life.last_setup }) (record { code = g.C.Controller.code; values = g.C.Controller.values; mode = g.C.Controller.mode }) c.args.session c.args.band c.args.frames.now c.perform-run.new.frames c.in-Ok.run' c.perform-run.result.0 c.perform-run.result.1 c.close.result
    (record { made = c.requires.band; set = c.in-Ok.ensures.set_up; sounded = c.perform-run.ensures.sounded; worked = c.perform-run.ensures.worked; components = c.perform-run.ensures.components; left = c.perform-run.ensures.left; closed = c.close.ensures })
