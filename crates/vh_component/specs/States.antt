-- What callers see of a component's states.
use Rattle.std.specs.Prelude.{◌≡◌}
use Rattle.vh_counted.specs.declared.object.Opened.{Opened}
use Rattle.vh_counted.specs.Held.{object_of_opened, numbers_of_opened, value_of_opened, with_value}
use Rattle.vh_component.specs.declared.layout.Layout.{Layout}
use Rattle.vh_component.specs.declared.states.Created.{Created}
use Rattle.vh_component.specs.declared.states.Initialized.{Initialized}
use Rattle.vh_component.specs.declared.states.Ready.{Ready}
use Rattle.vh_component.specs.declared.states.Active.{Active}
use Rattle.vh_component.specs.declared.states.Processing.{Processing}

-- the opener that a state owns
abbrev pub of_created : {T : Type 0} → Created T → Opened T
of_created state = state.opened

abbrev pub of_initialized : {T : Type 0} → Initialized T → Opened T
of_initialized state = state.opened

abbrev pub of_ready : {T : Type 0} → Ready T → Opened T
of_ready state = state.opened

abbrev pub of_active : {T : Type 0} → Active T → Opened T
of_active state = state.opened

abbrev pub of_processing : {T : Type 0} → Processing T → Opened T
of_processing state = state.opened

-- the layout of a component that was initialized
abbrev pub layout_of : {T : Type 0} → Initialized T → Layout
layout_of state = state.layout

abbrev pub layout_of_ready : {T : Type 0} → Ready T → Layout
layout_of_ready state = state.layout

abbrev pub layout_of_active : {T : Type 0} → Active T → Layout
layout_of_active state = state.layout

abbrev pub layout_of_processing : {T : Type 0} → Processing T → Layout
layout_of_processing state = state.layout

-- a state with this value
abbrev pub with_created : {T : Type 0} → T → Created T → Created T
with_created value state = record state { opened = with_value value state.opened }

abbrev pub with_initialized : {T : Type 0} → T → Initialized T → Initialized T
with_initialized value state = record state { opened = with_value value state.opened }

abbrev pub with_ready : {T : Type 0} → T → Ready T → Ready T
with_ready value state = record state { opened = with_value value state.opened }

abbrev pub with_active : {T : Type 0} → T → Active T → Active T
with_active value state = record state { opened = with_value value state.opened }

abbrev pub with_processing : {T : Type 0} → T → Processing T → Processing T
with_processing value state = record state { opened = with_value value state.opened }

-- a step leaves the object, the opener's numbers, and what is meant by the value besides its phase and setup
pub record IsStep {T R : Type 0} (rest : T → R) (old new : Opened T) : Type 0 where
  pub object : object_of_opened new ≡ object_of_opened old
  pub numbers : numbers_of_opened new ≡ numbers_of_opened old
  pub kept : rest (value_of_opened new) ≡ rest (value_of_opened old)
