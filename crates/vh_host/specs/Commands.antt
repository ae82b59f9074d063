-- The commands, each as the list of its steps.
use Rattle.std.specs.Prelude.{◌≡◌, ℕ, ◌+◌, ◌*◌, ◌<◌, List, [], ◌∷◌, length, Option, Some, None, ◌⊎◌, Ok, Err}
use Rattle.vh_cut.specs.Cut.{pieces_of}
use Rattle.vh_wav.specs.declared.head.WavFault.{WavFault}
use Rattle.vh_wav.specs.Text.{wav_text}
use Rattle.vh_session.specs.declared.fault.SessionFault.{SessionFault}
use Rattle.vh_session.specs.Content.{Content}
use Rattle.vh_session.specs.Ended.{SaysSession, IsFault}
use Rattle.vh_session.specs.Text.{session_text}
use Rattle.vh_params.specs.declared.class.ClassInfo.{ClassInfo}
use Rattle.vh_params.specs.Nodes.{Node, node_at, LacksName}
use Rattle.vh_plugin.specs.Controls.{mode_text}
use Rattle.vh_preset.specs.declared.fault.PresetRefusal.{PresetRefusal}
use Rattle.vh_preset.specs.declared.fault.PresetRefusal.TheVariants.{NoSuchNode}
use Rattle.vh_preset.specs.Contents.{Contents}
use Rattle.vh_preset.specs.Chunks.{Chunks}
use Rattle.vh_preset.specs.Text.{preset_text}
use Rattle.vh_instance.specs.Plan.{Plan, class_at, component_at}
use Rattle.vh_instance.specs.Presets.{mode_at, AreAccepted, IsFirstRefused}
use Rattle.vh_instance.specs.Firsts.{firsts_at}
use Rattle.vh_journal.specs.declared.entry.Entry.{Entry}
use Rattle.vh_journal_text.specs.declared.fault.JournalFault.{JournalFault}
use Rattle.vh_journal_text.specs.Items.{items_of}
use Rattle.vh_journal_text.specs.Reading.{journal_of}
use Rattle.vh_meaning.specs.Scene.{Scene}
use Rattle.vh_meaning.specs.Rendering.{rendering, last_values, answers, stops}
use Rattle.vh_answers.specs.declared.status.Place.TheVariants.{Session, Input, Journal, Output as OutputPlace}
use Rattle.vh_answers.specs.declared.status.Status.{Status}
use Rattle.vh_answers.specs.declared.status.Status.TheVariants as status
use Rattle.vh_answers.specs.Listing.{listing_text}
use Rattle.vh_answers.specs.Report.{report_text}
use Rattle.vh_answers.specs.Each.{each_then}
use Rattle.vh_answers.specs.Steps.{Step, Reads, Judges, Output, Steps, Then, Last}
use Rattle.vh_reading.specs.Reading.{preset_step, node_step}
use Rattle.vh_host.specs.Words.{Render, Save, Command, Renders, Checks, Shows, Saves, Generates, command_in}
use Rattle.vh_host.specs.Known.{Known, plan_of, scene_under, modes_under}
use Rattle.vh_host.specs.Input.{Heard, Hears, head_in}
use Rattle.vh_host.specs.Generated.{gen_steps}

-- the words are a command's
abbrev pub words_step : List (List ℕ) → Step Command
words_step words = Judges (Unit {0}) (λ command. command_in words ≡ Some command) (λ fault. status.Usage) (λ fault. command_in words ≡ None)

-- a text has this fault, or there was no memory
abbrev pub IsTextFault : List ClassInfo → List ℕ → Status → Type 0
IsTextFault infos bytes answer = ((given : SessionFault) × (answer ≡ status.SessionRefused given) × IsFault infos bytes given) ⊎ (answer ≡ status.Memory)

-- a session is read, or refused for its first fault
abbrev pub session_step : List ClassInfo → List ℕ → Step Content
session_step infos name = Reads SessionFault Session name (λ bytes content. SaysSession infos bytes content) (λ fault. status.SessionRefused fault) (λ bytes fault. IsFault infos bytes fault)

-- the presets of nodes are those of their classes, or the first that isn't is refused
abbrev pub accepted_step : Known → Content → List (Option Contents) → Step (Unit {0})
accepted_step known content presets =
    Judges (ℕ × PresetRefusal) (λ accepted. AreAccepted (plan_of known content presets 0) (length content.nodes)) (λ refused. status.PresetRefused (Some refused.0) refused.1)
    (λ refused. IsFirstRefused (plan_of known content presets 0) refused.0 refused.1)

-- what follows from the instances of a session: it is read, then its presets by node, and these are judged by node
abbrev pub accepted_steps : Known → Content → (List (Option Contents) → Steps) → List (Option Contents) → Steps
accepted_steps known content next presets = Then (Unit {0}) (accepted_step known content presets) (λ accepted. next presets)

abbrev pub presets_steps : Known → Content → (List (Option Contents) → Steps) → Steps
presets_steps known content next = each_then (node_step content) 0 (length content.nodes) [] (accepted_steps known content next)

abbrev pub session_steps : Known → List ℕ → (Content → List (Option Contents) → Steps) → Steps
session_steps known name next = Then Content (session_step known.infos name) (λ content. presets_steps known content (next content))

-- and nothing more
abbrev pub no_more : Content → List (Option Contents) → Steps
no_more content presets = Last [] [] 0

-- an input of a session's channels
abbrev pub input_step : List ℕ → ℕ → Step Heard
input_step name channels = Reads WavFault Input name (λ bytes heard. Hears channels bytes heard) (λ fault. status.WavRefused fault) (λ bytes fault. head_in channels bytes ≡ Err fault)

-- a journal under these nodes and this length
abbrev pub journal_step : List Node → ℕ → List ℕ → Step (List Entry)
journal_step nodes frames name =
    Reads JournalFault Journal name (λ bytes entries. journal_of nodes frames bytes ≡ Ok (items_of entries)) (λ fault. status.JournalRefused fault) (λ bytes fault. journal_of nodes frames bytes ≡ Err fault)

-- what follows under the entries of a rendering: those of its journal, or none
abbrev pub entries_then : Content → Option (List ℕ) → (List Entry → Steps) → Steps
entries_then content None next = next []
entries_then content (Some name) next = Then (List Entry) (journal_step content.nodes content.length name) next

-- the sizes of a rendering's blocks: the words' one size, or the session's
abbrev pub pattern_of : Option ℕ → Content → List ℕ
pattern_of None content = content.pattern
pattern_of (Some size) content = size ∷ []

abbrev pub piece_count : Option ℕ → Content → List Entry → ℕ
piece_count block content entries = length (pieces_of content.length (pattern_of block content) (stops entries))

-- what a rendering writes, and what it says, where controllers have these modes
abbrev pub rendered : Scene → Render → Content → Heard → List Entry → Output
rendered scene render content heard entries = record {
  place = OutputPlace;
  name = render.output;
  apart = render.input ∷ [];
  text = wav_text content.channels heard.rate content.bits (rendering scene heard.frames entries);
}

abbrev pub reported : Scene → List ℕ → Render → Content → Heard → List Entry → List ℕ
reported scene modes render content heard entries =
    report_text content (last_values scene heard.frames entries) modes (piece_count render.block content entries) (answers scene heard.frames entries) []

-- each node's processor is called once for each piece and once at the end
abbrev pub calls_of : Render → Content → List Entry → ℕ
calls_of render content entries = length content.nodes * (piece_count render.block content entries + 1)

abbrev pub played_steps : Scene → List ℕ → Render → Content → Heard → List Entry → Steps
played_steps scene modes render content heard entries = Last (rendered scene render content heard entries ∷ []) (reported scene modes render content heard entries) (calls_of render content entries)

abbrev pub heard_steps : Scene → List ℕ → Render → Content → Heard → Steps
heard_steps scene modes render content heard = entries_then content render.journal (played_steps scene modes render content heard)

abbrev pub made_steps : Scene → List ℕ → Render → Content → Steps
made_steps scene modes render content = Then Heard (input_step render.input content.channels) (heard_steps scene modes render content)

abbrev pub begun_steps : Known → Render → Content → List (Option Contents) → Steps
begun_steps known render content presets = made_steps (scene_under known content presets) (modes_under known content presets) render content

abbrev pub render_steps : Known → Render → Steps
render_steps known render = session_steps known render.session (begun_steps known render)

abbrev pub check_steps : List ClassInfo → List ℕ → Steps
check_steps infos name = Then Content (session_step infos name) (λ content. Last [] (session_text content) 0)

-- a preset, which is no node's
abbrev pub show_steps : List ℕ → Steps
show_steps name = Then Contents (preset_step None name) (λ preset. Last [] (listing_text preset) 0)

-- the node of this name
pub record IsNamed (nodes : List Node) (name : List ℕ) (node : ℕ) : Type 0 where
  pub within : node < length nodes
  pub named : (node_at nodes node).name ≡ name

abbrev pub named_step : List Node → List ℕ → Step ℕ
named_step nodes name = Judges (Unit {0}) (IsNamed nodes name) (λ fault. status.PresetRefused None NoSuchNode) (λ fault. LacksName nodes name)

-- the states of a component and of a controller of this mode
abbrev pub states_of : List ℕ → ℕ → Chunks
states_of state mode = record { comp = Some state; cont = Some (mode_text mode); prog = None; info = None }

-- the preset that is saved of a node: of its class, its first values as the component's state, and its controller's mode
abbrev pub saved_chunks : Plan → ℕ → Chunks
saved_chunks plan node = states_of ((class_at plan node).state_text (firsts_at plan node)) (mode_at plan node)

abbrev pub saved_text : Plan → ℕ → List ℕ
saved_text plan node = preset_text (record { 0 = component_at plan node }) (saved_chunks plan node)

abbrev pub saved : List ℕ → Plan → ℕ → Output
saved output plan node = record { place = OutputPlace; name = output; apart = []; text = saved_text plan node }

abbrev pub saved_steps : List ℕ → Plan → ℕ → Steps
saved_steps output plan node = Last (saved output plan node ∷ []) [] 0

abbrev pub named_steps : Known → Save → Content → List (Option Contents) → Steps
named_steps known save content presets = Then ℕ (named_step content.nodes save.node) (saved_steps save.output (plan_of known content presets 0))

abbrev pub save_steps : Known → Save → Steps
save_steps known save = session_steps known save.session (named_steps known save)

abbrev pub command_steps : Known → Command → Steps
command_steps known (Renders render) = render_steps known render
command_steps known (Checks name) = check_steps known.infos name
command_steps known (Shows name) = show_steps name
command_steps known (Saves save) = save_steps known save
command_steps known (Generates number) = gen_steps known number

-- the words first
abbrev pub steps_in : Known → List (List ℕ) → Steps
steps_in known words = Then Command (words_step words) (command_steps known)

-- the names of the files that a command may change
abbrev pub outputs_of : Option Command → List (List ℕ)
outputs_of None = []
outputs_of (Some (Renders render)) = render.output ∷ []
outputs_of (Some (Checks name)) = []
outputs_of (Some (Shows name)) = []
outputs_of (Some (Saves save)) = save.output ∷ []
outputs_of (Some (Generates number)) = []
