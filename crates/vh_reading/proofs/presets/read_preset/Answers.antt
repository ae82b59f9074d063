use Rattle.std.proofs.Common.{◌≡◌, Some}
use Rattle.vh_answers.specs.Outside.{store}
use Rattle.vh_preset.specs.Form.{preset_fault}
use Rattle.vh_reading.proofs.Readings.{fault_halts}
use Rattle.vh_reading.proofs.presets.read_preset.Goals as goal

pub returns-in-Err-Fault-clause-stop : goal.returns-in-Err-Fault-clause-stop
returns-in-Err-Fault-clause-stop g c =
    let text = c.in_ok-bytes.bytes.items in
    let fault = c.in-Err-Fault.fault in
    let is = c.in-Err-Fault.is in
    let refused = c.in-Err-Fault.field-0-is in
    let same = c.in-Err-Fault.fault-is in
    let faulty : preset_fault text ≡ Some fault = c.read.ensures.refused fault cc in
    fault_halts (store g.F.Files c.args.files.now) (store g.F.Files c.read_text.new.files) c.args.node c.args.name.now text fault c.in_ok-bytes.ensures.gives c.in_ok-bytes.ensures.within faulty
