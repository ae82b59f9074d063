use Rattle.vh_answers.specs.Outside.{store}
use Rattle.vh_host.proofs.Hearing.{heard}
use Rattle.vh_host.proofs.input.read_input.Goals as goal

pub returns-in-Ok-clause-hears : goal.returns-in-Ok-clause-hears
returns-in-Ok-clause-hears g c =
    heard (store g.F.Files c.args.files.now) (store g.F.Files c.read_head_of.new.files) c.args.name.now c.args.channels c.args.frames c.in_ok-head.head c.in-Ok.sound
    c.in_ok-head.ensures.only_read c.in_ok-head.ensures.lawful c.in_ok-head.ensures.channels c.in_ok-head.ensures.head c.in-Ok.ensures.frames c.in-Ok.ensures.channels c.in-Ok.ensures.count
