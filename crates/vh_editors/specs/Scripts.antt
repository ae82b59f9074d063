-- What of a script is refused, and how many commands it has.
use Rattle.std.specs.Prelude.{ℕ, ◌-◌, List, length, map, filter, not}
use Rattle.vh_params.specs.Nodes.{Node}
use Rattle.vh_params.specs.declared.command.Word.{Word}
use Rattle.vh_gesture.specs.Scripts.{is_wait, accepted, commands}

-- how many of these words, the waits aside, aren't accepted
abbrev pub refused_in : List Node → List Word → ℕ
refused_in nodes script = length (filter (λ word. not (is_wait word)) script) - length (accepted nodes script)

-- and so of each editor
abbrev pub refused_by_each : List Node → List (List Word) → List ℕ
refused_by_each nodes scripts = map (refused_in nodes) scripts

-- how many edits and messages each script has, accepted or not
abbrev pub quotas_of : List (List Word) → List ℕ
quotas_of scripts = map (λ script. length (commands script)) scripts
