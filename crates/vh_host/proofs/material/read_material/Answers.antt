use Rattle.vh_session.specs.Names.{content_of}
use Rattle.vh_answers.specs.Outside.{store}
use Rattle.vh_host.specs.Named.{render_of}
use Rattle.vh_host.proofs.Gathering.{input_halted, heard_halted}
use Rattle.vh_host.proofs.material.read_material.Goals as goal

pub returns-in-Err-clause-stop : goal.returns-in-Err-clause-stop
returns-in-Err-clause-stop g c = λ scene modes.
    input_halted (store g.F.Files c.args.files.now) (store g.F.Files c.read_input.new.files) scene modes (render_of c.args.render.now) (content_of c.args.session.now) c.in-Err.status c.in-Err.ensures.stop

pub returns-in-Err-read_entries-clause-stop : goal.returns-in-Err-read_entries-clause-stop
returns-in-Err-read_entries-clause-stop g c = λ scene modes.
    let hears = c.in-Ok.ensures.hears in
    let status = c.in-Err-read_entries.status in
    heard_halted (store g.F.Files c.args.files.now) (store g.F.Files c.read_input.new.files) (store g.F.Files c.read_entries.new.files) scene modes (render_of c.args.render.now) (content_of c.args.session.now) hears.0 status
    c.in-Ok.ensures.only_read hears.1 (c.in-Err-read_entries.ensures.stop scene modes hears.0)
