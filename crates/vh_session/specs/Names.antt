-- What a session's parts name.
use Rattle.std.specs.Prelude.{◌<◌, ◌≤◌, ℕ, All, length}
use Rattle.vh_params.specs.Nodes.{nodes_of}
use Rattle.vh_session.specs.declared.session.Session.{Session}
use Rattle.vh_session.specs.Content.{Content}
use Rattle.vh_session.specs.Keeps.{IsScriptWord}
use Rattle.vh_session.specs.Parts.{content_from}
use Rattle.vh_session.specs.Sound.{WireFits}
use Rattle.vh_session.specs.View.{script_word}
use Rattle.vh_session.specs.Limits.{most_editors}

abbrev pub content_of : Session → Content
content_of session = content_from session.length session.channels session.bits session.pattern.items session.nodes session.presets.items session.firsts.items session.wires.items session.lanes.items session.scripts.items

abbrev pub node_number : Session → ℕ
node_number session = length (nodes_of session.nodes)

-- each part names nodes that are there, and there are no more scripts than editors
pub record NamesNodes (session : Session) : Type 0 where
  pub presets : All (λ preset. preset.0 < node_number session) session.presets.items
  pub firsts : All (λ first. first.0 < node_number session) session.firsts.items
  pub wires : All (λ wire. WireFits (node_number session) wire) session.wires.items
  pub lanes : All (λ lane. lane.0 < node_number session) session.lanes.items
  pub few : length session.scripts.items ≤ most_editors
  pub scripts : All (λ script. All (λ word. IsScriptWord (node_number session) (script_word word)) script.items) session.scripts.items
