-- What a session keeps has one proof at most.
use Rattle.std.proofs.Common.{ℕ, Bool, List, [], ◌∷◌, ◌++◌, length, ◌+◌}
use Rattle.std.proofs.Props.{props}
use Rattle.vh_params.specs.Nodes.{Node}
use Rattle.vh_session.specs.declared.wire.End.{End}
use Rattle.vh_session.specs.declared.wire.End.TheVariants.{In, Out, Node as AtNode}
use Rattle.vh_session.specs.declared.wire.Wire.{Wire}
use Rattle.vh_session.specs.Content.{Content}
use Rattle.vh_session.specs.Entry.{ScriptWord, BeginWord, PerformWord, EndWord, TellWord, HoldWord, DropWord, WaitWord, LaneText}
use Rattle.vh_session.specs.Keeps.{EachBehind, ArePresets, Begins, Ends, IsScriptWord, IsNodeBehind, IsFirstBehind, IsWireBehind, IsLaneBehind, AreScripts, IsSession}

behind_prop : {A : Type 0} (Stands : List A → A → Type 0) → ((before : List A) (x : A) → IsProp (Stands before x)) → (before xs : List A) → IsProp (EachBehind Stands before xs)
behind_prop Stands each before [] = hlevel props
behind_prop Stands each before (x ∷ xs) = let here = each before x in let rest = behind_prop Stands each (before ++ x ∷ []) xs in hlevel (here, rest, props)

presets_prop : (count least : ℕ) (presets : List (ℕ × List ℕ)) → IsProp (ArePresets count least presets)
presets_prop count least [] = hlevel props
presets_prop count least (preset ∷ presets) = let rest = presets_prop count (preset.0 + 1) presets in hlevel (rest, props)

begins_prop : (count : ℕ) (end : End) → IsProp (Begins count end)
begins_prop count In = hlevel props
begins_prop count Out = hlevel props
begins_prop count (AtNode node) = hlevel props

ends_prop : (count : ℕ) (aux : Bool) (end : End) → IsProp (Ends count aux end)
ends_prop count aux In = hlevel props
ends_prop count aux Out = hlevel props
ends_prop count aux (AtNode node) = hlevel props

word_prop : (count : ℕ) (word : ScriptWord) → IsProp (IsScriptWord count word)
word_prop count (BeginWord node id) = hlevel props
word_prop count (PerformWord node id value) = hlevel props
word_prop count (EndWord node id) = hlevel props
word_prop count (TellWord node numbers) = hlevel props
word_prop count (HoldWord node) = hlevel props
word_prop count (DropWord node) = hlevel props
word_prop count (WaitWord block) = hlevel props

node_prop : (before : List Node) (node : Node) → IsProp (IsNodeBehind before node)
node_prop before node = hlevel props

first_prop : (nodes : List Node) (before : List (ℕ × ℕ × ℕ)) (first : ℕ × ℕ × ℕ) → IsProp (IsFirstBehind nodes before first)
first_prop nodes before first = hlevel props

wire_prop : (count : ℕ) (before : List Wire) (wire : Wire) → IsProp (IsWireBehind count before wire)
wire_prop count before wire = hlevel (begins_prop count wire.from, ends_prop count wire.aux wire.to, props)

lane_prop : (nodes : List Node) (before : List LaneText) (lane : LaneText) → IsProp (IsLaneBehind nodes before lane)
lane_prop nodes before lane = hlevel props

scripts_prop : (count : ℕ) (scripts : List (List ScriptWord)) → IsProp (AreScripts count scripts)
scripts_prop count scripts = hlevel (word_prop count, props)

pub session_prop : (content : Content) → IsProp (IsSession content)
session_prop content =
    let nodes = behind_prop IsNodeBehind node_prop [] content.nodes in
    let presets = presets_prop (length content.nodes) 0 content.presets in
    let firsts = behind_prop (IsFirstBehind content.nodes) (first_prop content.nodes) [] content.firsts in
    let wires = behind_prop (IsWireBehind (length content.nodes)) (wire_prop (length content.nodes)) [] content.wires in
    let lanes = behind_prop (IsLaneBehind content.nodes) (lane_prop content.nodes) [] content.lanes in
    let scripts = scripts_prop (length content.nodes) content.scripts in
    hlevel (nodes, presets, firsts, wires, lanes, scripts, props)
