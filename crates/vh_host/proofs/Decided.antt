-- What a file says is decided by its bytes.
use Rattle.std.proofs.Common.{◌≡◌, ◌∙◌, ℕ, zero, suc, ◌+◌, List, [], ◌∷◌, ◌++◌, length, Option, Some, None, Ok, Err, inl, inr, refl, sym, ap, subst, arith}
use Rattle.std.specs.Prelude.{MatchOption}
use Rattle.vh_graph.specs.Paths.{IsOnCycle}
use Rattle.vh_num.specs.Frames.{Frame}
use Rattle.vh_params.specs.declared.class.ClassInfo.{ClassInfo}
use Rattle.vh_journal_text.specs.Items.{items_of}
use Rattle.vh_meaning.specs.Scene.{Scene}
use Rattle.vh_session.specs.declared.fault.SessionFault.{SessionFault}
use Rattle.vh_session.specs.Content.{Content, content_in, node_wires}
use Rattle.vh_session.specs.Entry.{Draft}
use Rattle.vh_session.specs.Ended.{SaysSession, IsFault}
use Rattle.vh_wav.specs.declared.head.Head.{Head}
use Rattle.vh_wav.specs.declared.head.WavFault.{WavFault}
use Rattle.vh_wav.specs.Frames.{frames_in}
use Rattle.vh_answers.specs.Each.{each_then}
use Rattle.vh_answers.specs.Steps.{Step, Steps}
use Rattle.vh_answers.proofs.Stages.{NeverBoth, GivesOne, AllDecided}
use Rattle.vh_preset.specs.declared.fault.PresetFault.{PresetFault}
use Rattle.vh_preset.specs.declared.fault.PresetRefusal.{PresetRefusal}
use Rattle.vh_preset.specs.Contents.{Contents, IsPreset}
use Rattle.vh_preset.proofs.Presets.{preset_or_fault}
use Rattle.vh_reading.specs.Reading.{IsRead, IsUnread, place_step, file_of, node_step}
use Rattle.vh_host.specs.Words.{Render, Save, Command, Renders, Checks, Shows, Saves, Generates}
use Rattle.vh_host.specs.Known.{Known, scene_under, modes_under}
use Rattle.vh_host.specs.Input.{Heard, Hears, head_in}
use Rattle.vh_host.specs.Commands.{accepted_step, accepted_steps, session_steps, entries_then, played_steps, made_steps, begun_steps, named_steps, command_steps, steps_in}

-- a session
session_one : (infos : List ClassInfo) (bytes : List ℕ) (x y : Content) → SaysSession infos bytes x → SaysSession infos bytes y → x ≡ y
session_one infos bytes x y one other =
    let same : one.0 ≡ other.0 = let e : Ok one.0 ≡ Ok other.0 = sym one.1 ∙ other.1 in cc in
    sym one.3 ∙ ap content_in same ∙ other.3

session_never : (infos : List ClassInfo) (bytes : List ℕ) (x : Content) (fault : SessionFault) → SaysSession infos bytes x → IsFault infos bytes fault → ⊥
session_never infos bytes x fault says (inl err) = let e : Ok says.0 ≡ Err fault = sym says.1 ∙ err in cc
session_never infos bytes x fault says (inr (draft, ok, cycle)) =
    let same : draft ≡ says.0 = let e : Ok draft ≡ Ok says.0 = sym ok ∙ says.1 in cc in
    says.2 cycle.0 (subst (λ (d : Draft). IsOnCycle (node_wires d.wires) cycle.0) same cycle.1.cycle)

-- a preset
preset_one : (bytes : List ℕ) (x y : Contents) → IsPreset bytes x → IsPreset bytes y → x ≡ y
preset_one bytes x y one other =
    let law = subst (λ (o : Option PresetFault). MatchOption o ((preset : Contents) × IsPreset bytes preset × ((also : Contents) → IsPreset bytes also → also ≡ preset)) (λ fault. (preset : Contents) → ¬ IsPreset bytes preset)) one.faultless (preset_or_fault bytes) in
    law.2 x one ∙ sym (law.2 y other)

preset_never : (bytes : List ℕ) (x : Contents) (kind : PresetRefusal) → IsRead bytes x → IsUnread bytes kind → ⊥
preset_never bytes x kind read (inl long) = let few = read.few in let more = long.1 in omega (arith, few, more)
preset_never bytes x kind read (inr faulty) = let e : None ≡ Some faulty.0 = sym read.is.faultless ∙ faulty.3 in cc

-- that of a node
place_never : (node : ℕ) (file : Option (List ℕ)) → NeverBoth (place_step node file)
place_never node None = λ given fault is none. none
place_never node (Some name) = λ bytes given kind says faulty. preset_never bytes says.0 kind says.2 faulty

place_one : (node : ℕ) (file : Option (List ℕ)) → GivesOne (place_step node file)
place_one node None = λ x y one other. one ∙ sym other
place_one node (Some name) = λ bytes x y one other. one.1 ∙ ap (λ (preset : Contents). Some preset) (preset_one bytes one.0 other.0 one.2.is other.2.is) ∙ sym other.1

each_decided : {X : Type 0} (step : ℕ → Step X) → ((node : ℕ) → NeverBoth (step node)) → ((node : ℕ) → GivesOne (step node)) → (from left : ℕ) (given : List X) (next : List X → Steps) → ((xs : List X) → AllDecided (next xs))
    → AllDecided (each_then step from left given next)
each_decided step never one from zero given next later = later given
each_decided step never one from (suc left) given next later = (never from, inl (one from), (λ x. each_decided step never one (from + 1) left (given ++ x ∷ []) next later))

-- whether all presets are those of their nodes' classes
accepted_never : (known : Known) (content : Content) (presets : List (Option Contents)) → NeverBoth (accepted_step known content presets)
accepted_never known content presets = λ accepted refused are is. let e : None ≡ Some refused.1 = sym (are refused.0 is.within) ∙ is.refused in cc

-- a session, and what follows from it and its presets
pub opened_decided : (known : Known) (name : List ℕ) (next : Content → List (Option Contents) → Steps) → ((content : Content) (presets : List (Option Contents)) → AllDecided (next content presets)) → AllDecided (session_steps known name next)
opened_decided known name next later = (
  session_never known.infos,
  inl (session_one known.infos),
  (λ content. each_decided (node_step content) (λ node. place_never node (file_of content node)) (λ node. place_one node (file_of content node)) 0 (length content.nodes) [] (accepted_steps known content (next content))
      (λ presets. (accepted_never known content presets, inl (λ x y one other. refl), (λ accepted. later content presets)))),
)

-- what is heard
pub heard_one : (channels : ℕ) (bytes : List ℕ) (x y : Heard) → Hears channels bytes x → Hears channels bytes y → x ≡ y
heard_one channels bytes x y one other =
    let same : one.head ≡ other.head = let e : Ok one.head ≡ Ok other.head = sym one.accepted ∙ other.accepted in cc in
    let rates : x.rate ≡ y.rate = one.rate_is ∙ ap (λ (h : Head). h.rate) same ∙ sym other.rate_is in
    let frames : x.frames ≡ y.frames = one.frames_are ∙ ap (λ h. frames_in bytes h) same ∙ sym other.frames_are in
    let of : ℕ → List Frame → Heard = λ rate heard. record { rate = rate; frames = heard } in
    ap (λ (rate : ℕ). of rate x.frames) rates ∙ ap (λ (heard : List Frame). of y.rate heard) frames

pub heard_never : (channels : ℕ) (bytes : List ℕ) (x : Heard) (fault : WavFault) → Hears channels bytes x → head_in channels bytes ≡ Err fault → ⊥
heard_never channels bytes x fault hears err = let e : Ok hears.head ≡ Err fault = sym hears.accepted ∙ err in cc

-- the commands
entries_decided : (scene : Scene) (modes : List ℕ) (render : Render) (content : Content) (heard : Heard) (journal : Option (List ℕ)) → AllDecided (entries_then content journal (played_steps scene modes render content heard))
entries_decided scene modes render content heard None = tt
entries_decided scene modes render content heard (Some name) =
    ((λ bytes entries fault ok err. let e : Ok (items_of entries) ≡ Err fault = sym ok ∙ err in cc), inr (λ entries. tt), (λ entries. tt))

made_decided : (scene : Scene) (modes : List ℕ) (render : Render) (content : Content) → AllDecided (made_steps scene modes render content)
made_decided scene modes render content = (heard_never content.channels, inl (heard_one content.channels), (λ heard. entries_decided scene modes render content heard render.journal))

named_decided : (known : Known) (save : Save) (content : Content) (presets : List (Option Contents)) → AllDecided (named_steps known save content presets)
named_decided known save content presets = ((λ node fault is lacks. lacks node is.within is.named), inr (λ node. tt), (λ node. tt))

command_decided : (known : Known) (command : Command) → AllDecided (command_steps known command)
command_decided known (Renders render) = opened_decided known render.session (begun_steps known render) (λ content presets. made_decided (scene_under known content presets) (modes_under known content presets) render content)
command_decided known (Checks name) = (session_never known.infos, inl (session_one known.infos), (λ content. tt))
command_decided known (Shows name) = ((λ bytes preset kind says faulty. preset_never bytes preset kind says faulty), inr (λ preset. tt), (λ preset. tt))
command_decided known (Saves save) = opened_decided known save.session (named_steps known save) (named_decided known save)
command_decided known (Generates number) = tt

-- each command, by its words and its files
pub all_decided : (known : Known) (words : List (List ℕ)) → AllDecided (steps_in known words)
all_decided known words = (
  (λ command fault some none. let e : Some command ≡ None = sym some ∙ none in cc),
  inl (λ command other one two. let e : Some command ≡ Some other = sym one ∙ two in cc),
  (λ command. command_decided known command),
)
