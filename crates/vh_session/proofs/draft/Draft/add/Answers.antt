use Rattle.std.proofs.Common.{rules, ◌≡◌, ◌∙◌, ◌<◌, ◌-◌, ◌+◌, List, [], ◌∷◌, ◌++◌, map, length, get_or, sym, subst, ap, arith, Vec, Some}
use Rattle.std.specs.declared.alloc.Global.{Global}
use Rattle.std.proofs.Math.Seq.{map-set_same}
use Rattle.std.proofs.lemmas.List.{map-set, get_or-map, map-append}
use Rattle.vh_params.specs.declared.command.Word.{Word}
use Rattle.vh_session.specs.declared.draft.Mark.{Mark}
use Rattle.vh_session.specs.declared.draft.LaneDraft.{LaneDraft}
use Rattle.vh_session.specs.Entry.{with_break, ScriptWord}
use Rattle.vh_session.specs.View.{preset_of, lane_text, script_word}
use Rattle.std.specs.Prelude.{All, IsSome}
use Rattle.std.proofs.lemmas.List.{length-append}
use Rattle.vh_params.specs.Nodes.{nodes_of, node_of, info_in}
use Rattle.vh_session.proofs.Lists.{last_mapped}
use Rattle.vh_session.proofs.Grown.{wires_more, lanes_more}
use Rattle.vh_session.proofs.draft.Draft.add.Goals as goal

pub returns-in_ok-from_slice-in-Preset-clause-added : goal.returns-in_ok-from_slice-in-Preset-clause-added
returns-in_ok-from_slice-in-Preset-clause-added c =
    let marks = c.args.self.now.marks.items in
    let i = c.in-Preset.node in
    let old = c.index_mut.result.now in
    let new : Mark = record { line = old.line; aux = old.aux; preset = Some c.in_ok-from_slice-in-Preset.field-0; firsts = old.firsts } in
    let was : old ≡ get_or marks i old = search rules in
    let lines = map-set_same (λ (mark : Mark). mark.line) marks i new old (ap (λ (m : Mark). m.line) was) in
    let aux = map-set_same (λ (mark : Mark). mark.aux) marks i new old (ap (λ (m : Mark). m.aux) was) in
    let firsts = map-set_same (λ (mark : Mark). mark.firsts.items) marks i new old (ap (λ (m : Mark). m.firsts.items) was) in
    let presets = map-set preset_of marks i new in
    search rules

pub returns-in_ok-push-in-Param-clause-added : goal.returns-in_ok-push-in-Param-clause-added
returns-in_ok-push-in-Param-clause-added c =
    let marks = c.args.self.now.marks.items in
    let i = c.in-Param.node in
    let old = c.index_mut-in-Param.result.now in
    let new : Mark = record { line = old.line; aux = old.aux; preset = old.preset; firsts = c.push-in-Param.new.self } in
    let was : old ≡ get_or marks i old = search rules in
    let lines = map-set_same (λ (mark : Mark). mark.line) marks i new old (ap (λ (m : Mark). m.line) was) in
    let aux = map-set_same (λ (mark : Mark). mark.aux) marks i new old (ap (λ (m : Mark). m.aux) was) in
    let presets = map-set_same preset_of marks i new old (ap preset_of was) in
    let firsts = map-set (λ (mark : Mark). mark.firsts.items) marks i new in
    let lt : i < length marks = search rules in
    let before : get_or (map (λ (mark : Mark). mark.firsts.items) marks) i [] ≡ old.firsts.items = get_or-map (λ (mark : Mark). mark.firsts.items) marks i old [] lt ∙ ap (λ (m : Mark). m.firsts.items) (sym was) in
    let pushed : c.push-in-Param.new.self.items ≡ old.firsts.items ++ (c.in-Param.id, c.in-Param.value) ∷ [] = search rules in
    search rules

pub returns-in_ok-push-in-Point-clause-added : goal.returns-in_ok-push-in-Point-clause-added
returns-in_ok-push-in-Point-clause-added c =
    let lanes = c.args.self.now.lanes.items in
    let old = c.in-Some.lane.now in
    let new = c.push-in-Some.new.self in
    let some : 0 < length lanes = search rules in
    let was : old ≡ get_or lanes (length lanes - 1) old = search rules in
    let pushed : lane_text new ≡ with_break (c.in-Point.sample, c.in-Point.value) (lane_text old) = search rules in
    let same : lane_text new ≡ with_break (c.in-Point.sample, c.in-Point.value) (lane_text (get_or lanes (length lanes - 1) old)) = pushed ∙ ap (λ (l : LaneDraft). with_break (c.in-Point.sample, c.in-Point.value) (lane_text l)) was in
    let changed = last_mapped lane_text (with_break (c.in-Point.sample, c.in-Point.value)) lanes new old some same in
    search rules

pub returns-in_ok-push-in-Script-clause-added : goal.returns-in_ok-push-in-Script-clause-added
returns-in_ok-push-in-Script-clause-added c =
    let scripts = c.args.self.now.scripts.items in
    let old = c.in-Some-last_mut.script.now in
    let new = c.push-in-Some-last_mut.new.self in
    let items : Vec Word Global → List ScriptWord = λ script. map script_word script.items in
    let some : 0 < length scripts = search rules in
    let was : old ≡ get_or scripts (length scripts - 1) old = search rules in
    let pushed : new.items ≡ old.items ++ c.in-Script.word ∷ [] = search rules in
    let same : items new ≡ items (get_or scripts (length scripts - 1) old) ++ script_word c.in-Script.word ∷ [] =
    ap (λ ws. map script_word ws) pushed ∙ map-append script_word old.items (c.in-Script.word ∷ []) ∙ ap (λ (v : Vec Word Global). items v ++ script_word c.in-Script.word ∷ []) was in
    let changed = last_mapped items (λ script. script ++ script_word c.in-Script.word ∷ []) scripts new old some same in
    search rules

pub returns-in_ok-add-in-Node-clause-sound : goal.returns-in_ok-add-in-Node-clause-sound
returns-in_ok-add-in-Node-clause-sound c =
    let draft = c.args.self.now in
    let before = nodes_of draft.nodes in
    let node = node_of (c.new-in-Node.result) c.in-Node.class.now in
    let now : nodes_of c.add.new.self ≡ before ++ node ∷ [] = search rules in
    let long : length (nodes_of c.add.new.self) ≡ length before + 1 = ap (λ ns. length ns) now ∙ length-append before (node ∷ []) in
    record {
      channels = c.requires.sound.channels;
      bits = c.requires.sound.bits;
      aligned = search rules;
      wires = wires_more (length before) (length (nodes_of c.add.new.self)) draft.wires.items (omega (arith, long)) c.requires.sound.wires;
      lanes = subst (λ ns. All (λ lane. IsSome (info_in ns lane.node lane.id)) draft.lanes.items) (sym now) (lanes_more before node draft.lanes.items c.requires.sound.lanes);
    }
