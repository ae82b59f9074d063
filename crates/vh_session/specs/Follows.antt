-- Which lines may follow those before them.
use Rattle.std.specs.Prelude.{◌≡◌, ◌<◌, ◌≤◌, ◌^◌, ⊤, true, [], length, IsSome}
use Rattle.vh_params.specs.Names.{is_name}
use Rattle.vh_params.specs.Nodes.{LacksName, info_in}
use Rattle.vh_session.specs.Entry.{Entry, LengthLine, ChannelsLine, BitsLine, PatternLine, NodeLine, PresetLine, ParamLine, WireLine, LaneLine, PointLine, EditorLine, ScriptLine, Draft, last_sample, break_count}
use Rattle.vh_session.specs.Sound.{WireFits}
use Rattle.vh_session.specs.Limits.{most_nodes, most_script_words, most_grain, most_breaks}

-- what a line's rules leave
abbrev pub MayFollow : Draft → Entry → Type 0
MayFollow draft (PatternLine sizes) = draft.pattern ≡ []
MayFollow draft (NodeLine name class) = (is_name name ≡ true) × LacksName draft.nodes name × (length draft.nodes < most_nodes)
MayFollow draft (PresetLine node file) = node < length draft.nodes
MayFollow draft (ParamLine node id value) = node < length draft.nodes
MayFollow draft (ScriptLine word) = draft.script_count < most_script_words
MayFollow draft (LengthLine n) = ⊤
MayFollow draft (ChannelsLine n) = n ≤ 2
MayFollow draft (BitsLine n) = n ≤ 24
MayFollow draft (WireLine wire) = WireFits (length draft.nodes) wire
MayFollow draft (LaneLine node id grain sample value) = (grain ≤ most_grain) × (value ≤ 2 ^ 24) × IsSome (info_in draft.nodes node id)
MayFollow draft (PointLine sample value) = (last_sample draft.lanes < sample) × (break_count draft.lanes < most_breaks) × (value ≤ 2 ^ 24)
MayFollow draft EditorLine = ⊤
