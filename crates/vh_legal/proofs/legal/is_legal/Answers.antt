use Rattle.std.proofs.Common.{◌≡◌, ◌∙◌, ℕ, ◌<◌, ◌≤◌, List, length, true, refl, sym, ap, subst, arith}
use Rattle.std.specs.Prelude.{All, Vec}
use Rattle.std.specs.declared.alloc.Global.{Global}
use Rattle.std.proofs.lemmas.List.Elements.{All-weaker}
use Rattle.vh_params.specs.declared.command.Word.{Word}
use Rattle.vh_params.specs.Nodes.{nodes_of}
use Rattle.vh_gesture.specs.Rules.{NamesNode}
use Rattle.vh_journal.specs.declared.entry.Entry.{Entry}
use Rattle.vh_session.specs.Names.{content_of}
use Rattle.vh_legal.specs.Blocks.{IsAtBlock}
use Rattle.vh_legal.specs.Legal.{scripts_of}
use Rattle.vh_legal.proofs.Turns.{at_most}
use Rattle.vh_legal.proofs.Scripts.{script_names, count_of_scripts}
use Rattle.vh_legal.proofs.legal.is_legal.Goals as goal

pub has_played-requires : goal.has_played-requires
has_played-requires c =
    let session = c.args.session.now in
    let within : c.loop-editor.editor < length session.scripts.items = omega (arith, c.loop-editor-test.true, c.len-editor-end.ensures, session.scripts.ok.0) in
    let script = c.as_slice-script.ensures.value ∙ ap (λ (v : Vec Word Global). v.items) c.index.ensures in
    subst (All (NamesNode (nodes_of session.nodes))) (sym script) (script_names session c.loop-editor.editor c.index.result.now within)

pub returns : goal.returns
returns c =
    let session = c.args.session.now in
    let entries = c.args.entries.now in
    let pattern = (content_of session).pattern in
    let placed = c.are_placed.ensures.0 c.if-not-are_placed.false in
    let count = count_of_scripts session in (
      λ yes. record {
        rising = placed.rising;
        within = All-weaker (λ (e : Entry). IsAtBlock session.length pattern e.sample) (λ (e : Entry). e.sample ≤ session.length) (λ e at. at_most session.length pattern e.sample at) entries placed.blocks;
        blocks = placed.blocks;
        editors = All-weaker (λ (e : Entry). e.editor < length session.scripts.items) (λ (e : Entry). e.editor < length (scripts_of session)) (λ e lt. omega (arith, lt, count)) entries placed.editors_are;
        played = λ editor lt. c.loop-editor.invariant editor (omega (arith, lt, count, c.loop-editor-test.false, c.len-editor-end.ensures, session.scripts.ok.0));
      },
      λ is. refl,
    )
