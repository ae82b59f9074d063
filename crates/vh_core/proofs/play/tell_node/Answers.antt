use Rattle.std.proofs.Common.{◌≡◌, ◌∙◌, ◌<◌, ◌≤◌, ◌^◌, ◌++◌, ◌∷◌, [], ℕ, length, map, get_or, Vec, refl, sym, ap, subst, arith}
use Rattle.std.specs.Prelude.{All}
use Rattle.std.specs.declared.alloc.Global.{Global}
use Rattle.std.proofs.lemmas.List.{map-append, length-map, get_or_default}
use Rattle.vh_params.specs.declared.command.Reply.{Reply as Answered}
use Rattle.vh_params.specs.Nodes.{nodes_of, node_at}
use Rattle.vh_params.specs.Short.{words_in}
use Rattle.vh_plugin.specs.Class.{param_of}
use Rattle.vh_session.specs.Names.{content_of}
use Rattle.vh_meaning.specs.Values.{values_at}
use Rattle.vh_core.specs.State.{scene_in, Return}
use Rattle.vh_core.specs.Kept.{return_of}
use Rattle.vh_core.specs.declared.returns.Return.TheVariants as stored
use Rattle.vh_core.specs.Playing.{setting_by}
use Rattle.vh_core.proofs.Players.{alike_set, classes_are}
use Rattle.vh_core.proofs.Rooms.{row_is}
use Rattle.vh_core.proofs.Seeing.{told_here, reply_here}
use Rattle.vh_core.proofs.play.tell_node.Goals as goal

pub notify-words-requires : goal.notify-words-requires
notify-words-requires g c =
    let content = content_of c.args.session.now in
    let nodes = nodes_of c.args.session.now.nodes in
    let node = c.args.node in
    let processors = c.args.processors.now in
    let there = c.requires.node in
    let long = c.requires.players.long in
    let within : node < length processors = omega (arith, there, long) in
    let params = (c.requires.players.each node c.index-processors-node.result within).params_are in
    let rows = c.value_node.ensures.room.values in
    let same = c.deref.ensures.value ∙ ap (λ (v : Vec ℕ Global). v.items) c.index.ensures ∙ row_is c.value_node.new.room.values.items node _ (omega (arith, rows, there)) in
    record {
      each = ap length same ∙ c.value_node.ensures.room.each node there ∙ sym (ap length params ∙ length-map (node_at nodes node).params param_of);
      within = subst (All (λ value. value ≤ 2 ^ 24)) (sym same) c.value_node.ensures.within;
    }

pub returns-clause-states : goal.returns-clause-states
returns-clause-states g c = λ states have.
    let content = content_of c.args.session.now in
    let node = c.args.node in
    let firsts = c.args.plan.now.firsts.items in
    let processors = c.args.processors.now in
    let there = c.requires.node in
    let long = c.requires.players.long in
    let within : node < length processors = omega (arith, there, long) in
    let before = get_or processors node c.index-processors-node.result in
    let is : before ≡ get_or processors node before = get_or_default processors node c.index-processors-node.result before within in
    let scene = scene_in (setting_by g.P.Processor.class_of g.P.Processor.code content firsts processors) in
    let values = values_at scene c.args.before.now c.args.sample in
    let given = c.deref.result.now in
    let rows = c.value_node.ensures.room.values in
    let valued : given ≡ values node =
    c.deref.ensures.value ∙ ap (λ (v : Vec ℕ Global). v.items) c.index.ensures ∙ row_is c.value_node.new.room.values.items node _ (omega (arith, rows, there))
    ∙ c.value_node.ensures.values g.P.Processor.class_of _ (classes_are g.P.Processor.class_of g.P.Processor.code g.P.Life.phase g.P.Life.last_setup content processors c.requires.players) in
    told_here g.P.Processor.class_of g.P.Processor.code g.P.Processor.state content firsts processors node before within is given values valued states have
    (words_in c.args.words.now) c.notify-words.new.self c.notify-words.ensures.state

pub returns-clause-reply : goal.returns-clause-reply
returns-clause-reply g c = λ states have.
    let content = content_of c.args.session.now in
    let node = c.args.node in
    let firsts = c.args.plan.now.firsts.items in
    let processors = c.args.processors.now in
    let there = c.requires.node in
    let long = c.requires.players.long in
    let within : node < length processors = omega (arith, there, long) in
    let before = get_or processors node c.index-processors-node.result in
    let is : before ≡ get_or processors node before = get_or_default processors node c.index-processors-node.result before within in
    let scene = scene_in (setting_by g.P.Processor.class_of g.P.Processor.code content firsts processors) in
    let values = values_at scene c.args.before.now c.args.sample in
    let given = c.deref.result.now in
    let rows = c.value_node.ensures.room.values in
    let valued : given ≡ values node =
    c.deref.ensures.value ∙ ap (λ (v : Vec ℕ Global). v.items) c.index.ensures ∙ row_is c.value_node.new.room.values.items node _ (omega (arith, rows, there))
    ∙ c.value_node.ensures.values g.P.Processor.class_of _ (classes_are g.P.Processor.class_of g.P.Processor.code g.P.Life.phase g.P.Life.last_setup content processors c.requires.players) in
    let reply : Answered = record { node = node; sample = c.args.sample; words = c.notify-words.result } in
    let old = map return_of c.args.returns.now.items in
    ap (map return_of) c.push_back_reserved.ensures.items
    ∙ map-append return_of c.args.returns.now.items (stored.Reply reply ∷ [])
    ∙ ap (λ (r : Return). old ++ r ∷ [])
    (reply_here g.P.Processor.class_of g.P.Processor.code g.P.Processor.state content firsts processors node before within is given values valued states have
    c.args.sample (words_in c.args.words.now) reply refl refl c.notify-words.ensures.reply)

pub returns-clause-alike : goal.returns-clause-alike
returns-clause-alike g c =
    let node = c.args.node in
    let processors = c.args.processors.now in
    let there = c.requires.node in
    let long = c.requires.players.long in
    let within : node < length processors = omega (arith, there, long) in
    let before = get_or processors node c.index-processors-node.result in
    alike_set g.P.Processor.code g.P.Life.phase g.P.Life.last_setup processors node before c.notify-words.new.self (get_or_default processors node c.index-processors-node.result before within)
    c.notify-words.ensures.code c.notify-words.ensures.phase c.notify-words.ensures.setup
