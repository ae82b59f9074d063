-- What was played, as the rendering of a scene.
use Rattle.std.specs.Prelude.{◌≡◌, ◌<◌, ℕ, List, map, slice_index_or}
use Rattle.std.specs.List.{concat}
use Rattle.vh_counted.specs.declared.object.Opened.{Opened}
use Rattle.vh_counted.specs.Held.{value_of_opened}
use Rattle.vh_params.specs.Nodes.{Node, nodes_of}
use Rattle.vh_plugin.specs.Class.{Class, param_of}
use Rattle.vh_num.specs.Frames.{Frame}
use Rattle.vh_session.specs.declared.session.Session.{Session}
use Rattle.vh_session.specs.Names.{content_of}
use Rattle.vh_legal.specs.Legal.{IsLegalFor, scripts_of}
use Rattle.vh_meaning.specs.Scene.{Scene}
use Rattle.vh_meaning.specs.Rendering.{rendering, last_values, answers}
use Rattle.vh_wav.specs.Frames.{silence}
use Rattle.vh_answers.specs.Report.{answer_of}
use Rattle.vh_instance.specs.Band.{of_openers}
use Rattle.vh_editors.specs.Scripts.{refused_by_each}
use Rattle.vh_live_host.specs.declared.done.Done.{Done}

-- these controllers have the parameters of these nodes
abbrev pub HaveParams : {C : Type 0} → (ℕ → Class) → (C → ℕ) → List (Opened C) → List Node → Type 0
HaveParams class_of code edits nodes = map (λ edit. (class_of (code (value_of_opened edit))).params) edits ≡ map (λ node. map param_of node.params) nodes

-- Of a session that was played the editors made this journal, and the frames, the controllers' values and the replies are
-- those of the rendering of a scene over an input and the journal.
pub record AreOf {C : Type 0} (values : C → List ℕ) (session : Session) (scene : Scene) (input : List Frame) (done : Done C) : Type 0 where
  pub session_is : content_of done.session.now ≡ content_of session
  pub legal : IsLegalFor session done.entries.now
  pub refused_are : done.refused.now ≡ refused_by_each (nodes_of session.nodes) (scripts_of session)
  pub samples : scene.length ≡ session.length
  pub channels : done.frames.now.channels ≡ session.channels
  pub frames_are : done.frames.now.added ≡ rendering scene input done.entries.now
  pub values_are : concat (of_openers values done.edits.now) ≡ last_values scene input done.entries.now
  pub replies_are : map answer_of done.replies.now ≡ answers scene input done.entries.now

-- so many frames of one list are those of another, and silence past its end
abbrev pub AreFirst : ℕ → ℕ → List Frame → List Frame → Type 0
AreFirst channels count frames heard = (place : ℕ) → place < count → slice_index_or frames place (silence channels) ≡ slice_index_or heard place (silence channels)
