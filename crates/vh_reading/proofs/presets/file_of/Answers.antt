use Rattle.std.proofs.Common.{◌∙◌, ℕ, ◌<◌, ◌==◌, Bool, List, length, get_or, Some, sym, ap, subst}
use Rattle.std.specs.Prelude.{Vec}
use Rattle.std.specs.declared.alloc.Global.{Global}
use Rattle.std.specs.Option.{option_map}
use Rattle.std.proofs.lemmas.Bool.{eq-eqb, ne_eqb}
use Rattle.vh_params.specs.Nodes.{nodes_of}
use Rattle.vh_session.specs.Keeps.{IsFile}
use Rattle.vh_session.specs.Parts.{preset_text}
use Rattle.vh_reading.proofs.Files.{file_is, found_here, one_more}
use Rattle.vh_reading.proofs.presets.file_of.Goals as goal

pub name_of-requires : goal.name_of-requires
name_of-requires c =
    let session = c.args.session.now in
    let k = c.loop-preset.preset-index in
    let preset = c.preset-item.result in
    let same = c.deref-preset-items.ensures.value in
    let lt : k < length session.presets.items = subst (λ (list : List (ℕ × Vec ℕ Global)). k < length list) same c.loop-preset-test.true in
    let is = c.preset-item.is ∙ ap (λ (list : List (ℕ × Vec ℕ Global)). get_or list k preset) same in
    subst IsFile (sym c.deref.ensures.value) (file_is (length (nodes_of session.nodes)) session.presets.items k preset session.keeps.presets lt is)

pub returns-then-preset-node : goal.returns-then-preset-node
returns-then-preset-node c =
    let session = c.args.session.now in
    let k = c.loop-preset.preset-index in
    let preset = c.preset-item.result in
    let same = c.deref-preset-items.ensures.value in
    let lt : k < length session.presets.items = subst (λ (list : List (ℕ × Vec ℕ Global)). k < length list) same c.loop-preset-test.true in
    let is = c.preset-item.is ∙ ap (λ (list : List (ℕ × Vec ℕ Global)). get_or list k preset) same in
    let passes : ℕ × List ℕ → Bool = λ entry. entry.0 == c.args.node in
    let file : ℕ × List ℕ → List ℕ = λ entry. entry.1 in
    ap (λ (name : List ℕ). Some name) (c.name_of.ensures ∙ c.deref.ensures.value)
    ∙ sym (ap (option_map file) (found_here preset_text passes session.presets.items k preset c.loop-preset.invariant lt is (eq-eqb preset.0 c.args.node c.if-preset-node.true)))

pub loop-preset-preserved : goal.loop-preset-preserved
loop-preset-preserved c =
    let session = c.args.session.now in
    let k = c.loop-preset.preset-index in
    let preset = c.preset-item.result in
    let same = c.deref-preset-items.ensures.value in
    let lt : k < length session.presets.items = subst (λ (list : List (ℕ × Vec ℕ Global)). k < length list) same c.loop-preset-test.true in
    let is = c.preset-item.is ∙ ap (λ (list : List (ℕ × Vec ℕ Global)). get_or list k preset) same in
    let passes : ℕ × List ℕ → Bool = λ entry. entry.0 == c.args.node in
    one_more preset_text passes session.presets.items k preset c.loop-preset.invariant lt is (ne_eqb preset.0 c.args.node c.if-preset-node.false)
