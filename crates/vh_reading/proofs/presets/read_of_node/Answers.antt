use Rattle.std.proofs.Common.{◌≡◌, Some, None}
use Rattle.vh_preset.specs.Seen.{contents_of}
use Rattle.vh_answers.specs.Outside.{store}
use Rattle.vh_session.specs.Names.{content_of}
use Rattle.vh_reading.specs.Reading.{file_of}
use Rattle.vh_reading.proofs.Readings.{place_given, place_empty, place_halts}
use Rattle.vh_reading.proofs.presets.read_of_node.Goals as goal

pub returns-in_default-clause-gives : goal.returns-in_default-clause-gives
returns-in_default-clause-gives g c =
    let none : None ≡ file_of (content_of c.args.session.now) c.args.node = c.in_default.ensures in
    place_empty (store g.F.Files c.args.files.now) c.args.node (file_of (content_of c.args.session.now) c.args.node) none

pub returns-in-Ok-clause-gives : goal.returns-in-Ok-clause-gives
returns-in-Ok-clause-gives g c =
    let named : Some c.in-Some.name.now ≡ file_of (content_of c.args.session.now) c.args.node = c.in-Some.ensures in
    place_given (store g.F.Files c.args.files.now) c.args.node (file_of (content_of c.args.session.now) c.args.node) c.in-Some.name.now (contents_of c.in-Ok.preset) named c.in-Ok.ensures.gives

pub returns-in-Err-clause-stop : goal.returns-in-Err-clause-stop
returns-in-Err-clause-stop g c =
    let named : Some c.in-Some.name.now ≡ file_of (content_of c.args.session.now) c.args.node = c.in-Some.ensures in
    place_halts (store g.F.Files c.args.files.now) (store g.F.Files c.read_preset.new.files) c.args.node (file_of (content_of c.args.session.now) c.args.node) c.in-Some.name.now c.in-Err.status named c.in-Err.ensures.stop
