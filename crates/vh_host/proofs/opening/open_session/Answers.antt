use Rattle.std.proofs.Common.{◌≡◌, List, length, map, Option, sym, subst}
use Rattle.std.specs.Option.{option_map}
use Rattle.vh_params.specs.declared.class.ClassInfo.{ClassInfo}
use Rattle.vh_preset.specs.Contents.{Contents}
use Rattle.vh_preset.specs.Seen.{contents_of}
use Rattle.vh_preset.specs.declared.preset.Preset.{Preset}
use Rattle.vh_session.specs.Names.{content_of}
use Rattle.vh_instance.specs.declared.refused.MakeRefused.{MakeRefused}
use Rattle.vh_instance.specs.declared.refused.MakeRefused.TheVariants.{Preset as OfPreset}
use Rattle.vh_instance.specs.Plan.{Plan}
use Rattle.vh_instance.specs.Presets.{IsCause, IsFirstRefused}
use Rattle.vh_answers.specs.Each.{AllGive}
use Rattle.vh_reading.specs.Reading.{node_step}
use Rattle.vh_answers.specs.Outside.{store}
use Rattle.vh_answers.specs.Steps.{Gives, Halts}
use Rattle.vh_host.specs.Known.{Known, plan_of}
use Rattle.vh_host.specs.Commands.{session_step, no_more}
use Rattle.vh_host.proofs.Opened.{session_halted, presets_halted, refused_halted, given_since}
use Rattle.vh_host.proofs.opening.open_session.Goals as goal

pub returns-in-Err-clause-stop : goal.returns-in-Err-clause-stop
returns-in-Err-clause-stop g c =
    let known : Known = record { infos = g.S.PluginSet.infos c.args.set.now; code = g.S.PluginSet.code c.args.set.now; class_of = g.S.P.Processor.class_of } in
    let old = store g.F.Files c.args.files.now in
    let new = store g.F.Files c.read_session.new.files in
    let name = c.args.name.now in
    let stop = subst (λ (infos : List ClassInfo). Halts old new (session_step infos name) c.in-Err.status) c.classes.ensures c.in-Err.ensures.stop in
    session_halted old new known name no_more c.in-Err.status stop

pub returns-in-Err-read_presets-clause-stop : goal.returns-in-Err-read_presets-clause-stop
returns-in-Err-read_presets-clause-stop g c =
    let known : Known = record { infos = g.S.PluginSet.infos c.args.set.now; code = g.S.PluginSet.code c.args.set.now; class_of = g.S.P.Processor.class_of } in
    let old = store g.F.Files c.args.files.now in
    let mid = store g.F.Files c.read_session.new.files in
    let new = store g.F.Files c.read_presets.new.files in
    let name = c.args.name.now in
    let content = content_of c.in-Ok.session in
    let given = subst (λ (infos : List ClassInfo). Gives old (session_step infos name) content) c.classes.ensures c.in-Ok.ensures.gives in
    presets_halted old mid new known name content no_more c.in-Err-read_presets.status c.in-Ok.ensures.only_read given c.in-Err-read_presets.ensures.stop

pub returns-in-Err-Preset-clause-stop : goal.returns-in-Err-Preset-clause-stop
returns-in-Err-Preset-clause-stop g c =
    let known : Known = record { infos = g.S.PluginSet.infos c.args.set.now; code = g.S.PluginSet.code c.args.set.now; class_of = g.S.P.Processor.class_of } in
    let old = store g.F.Files c.args.files.now in
    let mid = store g.F.Files c.read_session.new.files in
    let new = store g.F.Files c.read_presets.new.files in
    let name = c.args.name.now in
    let content = content_of c.in-Ok.session in
    let presets : List (Option Contents) = map (option_map contents_of) c.deref.result.now in
    let all : AllGive mid (node_step content) (length content.nodes) presets = subst (λ (ps : List (Option Preset)). AllGive mid (node_step content) (length content.nodes) (map (option_map contents_of) ps)) (sym c.deref.ensures.value) c.in-Ok-read_presets.ensures.gives in
    let given = subst (λ (infos : List ClassInfo). Gives old (session_step infos name) content) c.classes.ensures c.in-Ok.ensures.gives in
    let plan : Plan = plan_of known content presets c.in-Ok-new.blocks.longest in
    let refused = c.in-Err-Preset.field-0-is in
    let node = c.in-Err-Preset.node-is in
    let kind = c.in-Err-Preset.kind-is in
    let made : c.in-Err-Preset.field-0 ≡ OfPreset c.in-Err-Preset.node c.in-Err-Preset.kind = cc in
    let cause : IsFirstRefused plan c.in-Err-Preset.node c.in-Err-Preset.kind = subst (λ (refused : MakeRefused). IsCause plan refused) made c.in-Err-Preset.ensures.cause in
    refused_halted old mid new known name content presets no_more c.in-Err-Preset.node c.in-Err-Preset.kind c.in-Ok.ensures.only_read given all
    (record { within = cause.within; refused = cause.refused; first = cause.first })

pub returns-in-Ok-make-clause-opened : goal.returns-in-Ok-make-clause-opened
returns-in-Ok-make-clause-opened g c =
    let old = store g.F.Files c.args.files.now in
    let mid = store g.F.Files c.read_session.new.files in
    let name = c.args.name.now in
    let content = content_of c.in-Ok.session in
    let presets : List (Option Contents) = map (option_map contents_of) c.deref.result.now in
    let all : AllGive mid (node_step content) (length content.nodes) presets = subst (λ (ps : List (Option Preset)). AllGive mid (node_step content) (length content.nodes) (map (option_map contents_of) ps)) (sym c.deref.ensures.value) c.in-Ok-read_presets.ensures.gives in
    let given = subst (λ (infos : List ClassInfo). Gives old (session_step infos name) content) c.classes.ensures c.in-Ok.ensures.gives in
    (presets, record { session = given; given = given_since old mid content presets c.in-Ok.ensures.only_read all; accepted = c.in-Ok-make.ensures.accepted }, c.in-Ok-make.ensures.band)
