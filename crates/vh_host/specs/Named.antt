-- The command that was read.
use Rattle.std.specs.Option.{option_map}
use Rattle.std.specs.Prelude.{◌≤◌, ⊤, Option, Some, None, Result, Ok, Err, ℕ}
use Rattle.vh_answers.specs.declared.status.Status.{Status}
use Rattle.vh_answers.specs.declared.status.Status.TheVariants as status
use Rattle.vh_host.specs.declared.words.Command.{Command as Read}
use Rattle.vh_host.specs.declared.words.Command.TheVariants as read
use Rattle.vh_host.specs.declared.words.Render.{Render as Files}
use Rattle.vh_host.specs.declared.words.Save.{Save as Saving}
use Rattle.vh_host.specs.Words.{Render, Save, Command, Renders, Checks, Shows, Saves, Generates}

abbrev pub render_of : Files → Render
render_of files = record { session = files.session.now; input = files.input.now; output = files.output.now; journal = option_map (λ name. name.now) files.journal; block = files.block }

abbrev pub save_of : Saving → Save
save_of files = record { session = files.session.now; node = files.node.now; output = files.output.now }

abbrev pub command_of : Read → Command
command_of (read.Render files) = Renders (render_of files)
command_of (read.Check session) = Checks session.now
command_of (read.PresetShow preset) = Shows preset.now
command_of (read.PresetSave files) = Saves (save_of files)
command_of (read.Gen number) = Generates number

abbrev pub commanded : Option Read → Option Command
commanded None = None
commanded (Some read) = Some (command_of read)

-- what a command that stopped answers, or Ok
abbrev pub status_of : {T : Type 0} → Result T Status → Status
status_of (Ok _) = status.Ok
status_of (Err answer) = answer

-- the frames of a block that words give are 1 to 8192
abbrev pub IsSize : Option ℕ → Type 0
IsSize None = ⊤
IsSize (Some size) = (1 ≤ size) × (size ≤ 8192)

abbrev pub IsSized : Command → Type 0
IsSized (Renders render) = IsSize render.block
IsSized (Checks name) = ⊤
IsSized (Shows name) = ⊤
IsSized (Saves save) = ⊤
IsSized (Generates number) = ⊤
