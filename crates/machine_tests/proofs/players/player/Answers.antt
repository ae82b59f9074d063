use Rattle.std.proofs.Common.{◌≤◌, ℕ, length, [], sym, ap, subst, ◌∙◌, arith}
use Rattle.std.proofs.lemmas.List.{length-map}
use Rattle.vh_component.specs.declared.setup.Setup.{Setup}
use Rattle.vh_params.specs.ClassList.{classes_of}
use Rattle.vh_params.specs.Nodes.{node_at}
use Rattle.vh_plugin.specs.Class.{param_of}
use Rattle.vh_session.specs.Names.{content_of}
use Rattle.vh_instance.specs.Plan.{Plan}
use Rattle.vh_instance.proofs.Classes.{suits}
use Rattle.machine_tests.proofs.Making.{found_code, same_side}
use Rattle.machine_tests.proofs.players.player.Goals as goal

pub start-requires-clause-values : goal.start-requires-clause-values
start-requires-clause-values g c =
    let content = content_of c.args.session.now in
    let plan : Plan = record { content = content; presets = []; infos = g.S.PluginSet.infos c.args.set.now; code = g.S.PluginSet.code c.args.set.now; class_of = g.S.P.Processor.class_of; max = 1 } in
    let code = c.in_ok-made-in-Some.ensures.code ∙ found_code plan c.args.node (classes_of c.classes.result.now) c.text-name.result.now c.find.result c.in-Some.class c.classes.ensures (c.text-name.ensures.value ∙ c.class_name.ensures) c.in-Some.is c.find.ensures.some c.find.ensures.first in
    let suited = suits plan c.requires.stands c.args.node c.requires.node (λ class d within. g.met.S.PluginSet.components c.args.set.now class d within) in
    record {
      each = c.requires.each ∙ sym (ap (λ (n : ℕ). length (g.S.P.Processor.class_of n).params) code ∙ ap length suited.params ∙ length-map (node_at content.nodes c.args.node).params param_of);
      within = c.requires.within;
    }

pub returns-in_ok-made-in-Some-clause-player : goal.returns-in_ok-made-in-Some-clause-player
returns-in_ok-made-in-Some-clause-player g c =
    let content = content_of c.args.session.now in
    let plan : Plan = record { content = content; presets = []; infos = g.S.PluginSet.infos c.args.set.now; code = g.S.PluginSet.code c.args.set.now; class_of = g.S.P.Processor.class_of; max = 1 } in
    let made = c.in_ok-made-in-Some.ensures in
    let started = c.start.ensures in
    let code = started.code ∙ made.code ∙ found_code plan c.args.node (classes_of c.classes.result.now) c.text-name.result.now c.find.result c.in-Some.class c.classes.ensures (c.text-name.ensures.value ∙ c.class_name.ensures) c.in-Some.is c.find.ensures.some c.find.ensures.first in
    let suited = suits plan c.requires.stands c.args.node c.requires.node (λ class d within. g.met.S.PluginSet.components c.args.set.now class d within) in
    record {
      player = record {
        params_are = ap (λ (n : ℕ). (g.S.P.Processor.class_of n).params) code ∙ suited.params;
        plays = started.phase;
        channels_are = ap (λ (s : Setup). s.channels) started.setup;
        some = subst (λ (s : Setup). 1 ≤ s.max) (sym started.setup) (omega arith);
        bus = λ reached. ap (λ (n : ℕ). (g.S.P.Processor.class_of n).aux) code ∙ suited.side (sym (same_side content.wires c.args.node) ∙ reached);
      };
      starts = started.state ∙ made.state ∙ ap (λ (n : ℕ). (g.S.P.Processor.class_of n).start) (sym (started.code ∙ made.code));
      first = started.values;
    }
