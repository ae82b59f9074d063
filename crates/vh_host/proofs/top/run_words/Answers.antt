use Rattle.std.proofs.Common.{◌≡◌, ◌∙◌, map, Option, sym, subst}
use Rattle.std.specs.String.{string_bytes}
use Rattle.vh_plugin.specs.Counts.{raised_by}
use Rattle.vh_answers.specs.Outside.{outside, ChangesOnly}
use Rattle.vh_answers.proofs.Stages.{after}
use Rattle.vh_host.specs.Words.{Command}
use Rattle.vh_host.specs.Known.{Known}
use Rattle.vh_host.specs.Commands.{words_step, command_steps, outputs_of}
use Rattle.vh_host.specs.Named.{command_of}
use Rattle.vh_host.proofs.Sized.{is_sized}
use Rattle.vh_host.proofs.top.run_words.Goals as goal

pub run_command-requires-clause-sized : goal.run_command-requires-clause-sized
run_command-requires-clause-sized g c κs within = is_sized (map string_bytes c.args.words.now) (command_of c.in-Some.command) c.in-Some.ensures

pub run_command-requires-clause-serves : goal.run_command-requires-clause-serves
run_command-requires-clause-serves g c κs within = λ number is. c.requires number (sym c.in-Some.ensures ∙ is)

pub returns-in-Err-clause-ends : goal.returns-in-Err-clause-ends
returns-in-Err-clause-ends g c =
    let known : Known = record { infos = g.S.PluginSet.infos c.args.set.now; code = g.S.PluginSet.code c.args.set.now; class_of = g.S.P.Processor.class_of } in
    after _ (λ calls. g.S.PluginSet.work c.run_command.new.set ≡ raised_by calls (g.S.PluginSet.work c.args.set.now)) (outside g.F.Files g.Y.Say c.args.files.now c.run_command.new.files c.args.say.now c.run_command.new.say)
    Command (words_step (map string_bytes c.args.words.now)) (command_steps known) (command_of c.in-Some.command) c.in-Err.status (sym c.in-Some.ensures) c.in-Err.ensures.ends

pub returns-in-Ok-clause-others : goal.returns-in-Ok-clause-others
returns-in-Ok-clause-others g c =
    subst (λ (command : Option Command). ChangesOnly (outputs_of command) (g.F.Files.held c.args.files.now) (g.F.Files.held c.run_command.new.files)) c.in-Some.ensures c.run_command.ensures.others

pub returns-in-Err-clause-others : goal.returns-in-Err-clause-others
returns-in-Err-clause-others g c =
    subst (λ (command : Option Command). ChangesOnly (outputs_of command) (g.F.Files.held c.args.files.now) (g.F.Files.held c.run_command.new.files)) c.in-Some.ensures c.run_command.ensures.others
