-- What the reader's own types stand for.
use Rattle.std.specs.Prelude.{ℕ, List, take, map, Option, Some, None, Result, Ok, Err, Vec}
use Rattle.std.specs.Option.{option_map}
use Rattle.std.specs.declared.alloc.Global.{Global}
use Rattle.vh_params.specs.declared.command.Word.{Word}
use Rattle.vh_params.specs.declared.command.Word.TheVariants.{Edit, Hold, Unhold, Wait}
use Rattle.vh_params.specs.declared.command.Command.TheVariants.{Begin, Perform, End, Tell}
use Rattle.vh_params.specs.Nodes.{nodes_of}
use Rattle.vh_params.specs.Short.{words_in}
use Rattle.vh_session.specs.declared.entry.Entry.{Entry as Line}
use Rattle.vh_session.specs.declared.entry.Entry.TheVariants as line
use Rattle.vh_session.specs.declared.entry.Sizes.{Sizes}
use Rattle.vh_session.specs.declared.draft.Draft.{Draft as Kept}
use Rattle.vh_session.specs.declared.draft.Mark.{Mark}
use Rattle.vh_session.specs.declared.draft.LaneDraft.{LaneDraft}
use Rattle.vh_session.specs.declared.fault.SessionKind.{SessionKind}
use Rattle.vh_session.specs.Entry.{Entry, LengthLine, ChannelsLine, BitsLine, PatternLine, NodeLine, PresetLine, ParamLine, WireLine, LaneLine, PointLine, EditorLine, ScriptLine, ScriptWord, BeginWord, PerformWord, EndWord, TellWord, HoldWord, DropWord, WaitWord, LaneText, Draft}

abbrev pub sizes_in : Sizes → List ℕ
sizes_in sizes = take sizes.len sizes.list

abbrev pub script_word : Word → ScriptWord
script_word (Edit (Begin node id)) = BeginWord node id
script_word (Edit (Perform node id value)) = PerformWord node id value
script_word (Edit (End node id)) = EndWord node id
script_word (Edit (Tell node words)) = TellWord node (words_in words)
script_word (Hold node) = HoldWord node
script_word (Unhold node) = DropWord node
script_word (Wait block) = WaitWord block

abbrev pub script_text : Vec Word Global → List ScriptWord
script_text script = map script_word script.items

abbrev pub entry_of : Line → Entry
entry_of (line.Length n) = LengthLine n
entry_of (line.Channels n) = ChannelsLine n
entry_of (line.Bits n) = BitsLine n
entry_of (line.Pattern sizes) = PatternLine (sizes_in sizes)
entry_of (line.Node name class) = NodeLine name.now class.now
entry_of (line.Preset node file) = PresetLine node file.now
entry_of (line.Param node id value) = ParamLine node id value
entry_of (line.Wire wire) = WireLine wire
entry_of (line.Lane node id grain sample value) = LaneLine node id grain sample value
entry_of (line.Point sample value) = PointLine sample value
entry_of line.Editor = EditorLine
entry_of (line.Script word) = ScriptLine (script_word word)

-- what a line was read as
abbrev pub told : Result Line SessionKind → Result Entry SessionKind
told (Ok entry) = Ok (entry_of entry)
told (Err kind) = Err kind

abbrev pub lane_text : LaneDraft → LaneText
lane_text lane = record { node = lane.node; id = lane.id; grain = lane.grain; breaks = lane.breaks.items }

abbrev pub preset_of : Mark → Option (List ℕ)
preset_of mark = option_map (λ file. file.items) mark.preset

abbrev pub draft_in : Kept → Draft
draft_in draft = record {
  length = draft.frames;
  channels = draft.channels;
  bits = draft.bits;
  pattern = draft.pattern.items;
  nodes = nodes_of draft.nodes;
  lines = map (λ mark. mark.line) draft.marks.items;
  aux = map (λ mark. mark.aux) draft.marks.items;
  presets = map preset_of draft.marks.items;
  firsts = map (λ mark. mark.firsts.items) draft.marks.items;
  wires = draft.wires.items;
  lanes = map lane_text draft.lanes.items;
  in_lane = draft.in_lane;
  scripts = map (λ script. map script_word script.items) draft.scripts.items;
  script_count = draft.script_count;
}
