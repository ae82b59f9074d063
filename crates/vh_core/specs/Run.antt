-- What callers see of a machine over processors.
use Rattle.std.specs.Prelude.{ℕ, List, [], ◌∷◌}
use Rattle.vh_plugin.specs.Class.{Class}
use Rattle.vh_session.specs.Content.{Content}
use Rattle.vh_core.specs.declared.event.Event.{Event}
use Rattle.vh_core.specs.State.{Setting, State, begun}
use Rattle.vh_core.specs.Steps.{always, next}

-- the session, the code of each node's class, the first values, and the machine's state
pub record Run : Type 0 where
  pub session : Content
  pub codes : List ℕ
  pub firsts : List ℕ
  pub state : State

-- it runs over the empty input
abbrev pub setting_of : (ℕ → Class) → Content → List ℕ → List ℕ → Setting
setting_of class_of session codes firsts = record { session = session; class_of = class_of; codes = codes; firsts = firsts; input = [] }

abbrev pub setting_in : (ℕ → Class) → Run → Setting
setting_in class_of run = setting_of class_of run.session run.codes run.firsts

-- before the first event
abbrev pub begins : (ℕ → Class) → Content → List ℕ → List ℕ → Run
begins class_of session codes firsts = record { session = session; codes = codes; firsts = firsts; state = begun (setting_of class_of session codes firsts) }

-- after an event, and after several: each change is told at once
abbrev pub stepped : (ℕ → Class) → Event → Run → Run
stepped class_of event run = record run { state = next (setting_in class_of run) always event run.state }

abbrev pub through : (ℕ → Class) → List Event → Run → Run
through class_of [] run = run
through class_of (event ∷ events) run = through class_of events (stepped class_of event run)
