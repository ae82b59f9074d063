-- The value of a parameter at a sample.
use Rattle.std.specs.Prelude.{ℕ, List, [], ◌∷◌, Option, Some, None, if◌then◌else◌}
use Rattle.vh_num.specs.Values.{quant_of}
use Rattle.vh_plugin.specs.Class.{Param}
use Rattle.vh_journal.specs.declared.entry.Entry.{Entry}
use Rattle.vh_meaning.specs.Scene.{Scene, params_at, firsts_at, lane_of}
use Rattle.vh_meaning.specs.Edits.{Edit, Began, Performed, Ended, is_open, edits_of, up_to}

-- What a parameter was left at by edits, of which the latest stands first: the last value that it was given, or
-- its first value. Where it has a lane, the first of overlapping gestures takes the lane's value at its sample,
-- and what was there before is over.
abbrev pub held : Option (ℕ → ℕ) → ℕ → ℕ → List Edit → ℕ
held lane steps first [] = first
held lane steps first (Performed value ∷ earlier) = quant_of value steps
held lane steps first (Ended ∷ earlier) = held lane steps first earlier
held None steps first (Began sample ∷ earlier) = held None steps first earlier
held (Some lane) steps first (Began sample ∷ earlier) =
    if is_open earlier then held (Some lane) steps first earlier else lane sample

-- Its value at a sample after these edits: while no gesture is open, a parameter with a lane follows it.
abbrev pub value_after : Option (ℕ → ℕ) → ℕ → ℕ → List Edit → ℕ → ℕ
value_after None steps first edits s = held None steps first edits
value_after (Some lane) steps first edits s = if is_open edits then held (Some lane) steps first edits else lane s

-- the value of a node's parameter at a sample, under any list of entries
abbrev pub value_of : Scene → List Entry → ℕ → Param → ℕ → ℕ → ℕ
value_of scene h node param first s = value_after (lane_of scene node param) param.steps first (edits_of (up_to s h) node param.id) s

-- so of each of these parameters, with its first value
abbrev pub values_of : Scene → List Entry → ℕ → List Param → List ℕ → ℕ → List ℕ
values_of scene h node [] firsts s = []
values_of scene h node (param ∷ params) [] s = []
values_of scene h node (param ∷ params) (first ∷ firsts) s = value_of scene h node param first s ∷ values_of scene h node params firsts s

-- each node's values at a sample, by rising id
abbrev pub values_at : Scene → List Entry → ℕ → ℕ → List ℕ
values_at scene h s node = values_of scene h node (params_at scene node) (firsts_at scene node) s
