-- What lines that are read keep.
use Rattle.std.proofs.Common.{◌≡◌, ◌⊎◌, inl, ℕ, ◌≤◌, Bool, true, List, [], length, get_or, refl, arith, Option}
use Rattle.std.specs.Prelude.{All, IfSome}
use Rattle.vh_params.specs.declared.class.ClassInfo.{ClassInfo}
use Rattle.vh_params.specs.Nodes.{Node}
use Rattle.vh_session.specs.declared.wire.Wire.{Wire}
use Rattle.vh_session.specs.Entry.{Draft, LaneText, ScriptWord, no_draft}
use Rattle.vh_text.specs.Numbers.{is_within}
use Rattle.vh_session.specs.Lines.{one, is_bits, is_any, has_aux}
use Rattle.vh_session.specs.Keeps.{EachBehind, AreSizes, AreNodes, IsFile, can_set, IsWireBehind, IsLaneBehind, AreScripts, HasClass, buses_of, word_count}

pub record Settings (frames channels bits : Option ℕ) (pattern : List ℕ) : Type 0 where
  pub frames_fit : IfSome frames (λ n. is_within 0 16777216 n ≡ true)
  pub channels_fit : IfSome channels (λ n. is_within 1 2 n ≡ true)
  pub bits_fit : IfSome bits (λ n. is_bits n ≡ true)
  pub sizes_fit : (pattern ≡ []) ⊎ AreSizes pattern

pub record Nodes (known : List ClassInfo) (nodes : List Node) (aux : List Bool) : Type 0 where
  pub stand : AreNodes nodes
  pub classed : All (λ node. (class : ClassInfo) × HasClass known node class) nodes
  pub buses : aux ≡ buses_of known nodes

pub record Presets (count : ℕ) (presets : List (Option (List ℕ))) : Type 0 where
  pub as_many : length presets ≡ count
  pub files : All (λ preset. IfSome preset IsFile) presets

-- the first values (id, value) of a node
abbrev pub NodeFirsts : List Node → ℕ → List (ℕ × ℕ) → Type 0
NodeFirsts nodes node firsts = All (λ first. (can_set nodes node first.0 ≡ true) × (is_any first.0 ≡ true) × (is_within 0 one first.1 ≡ true)) firsts

pub record Firsts (nodes : List Node) (firsts : List (List (ℕ × ℕ))) : Type 0 where
  pub as_many : length firsts ≡ length nodes
  pub fit : (node : ℕ) → NodeFirsts nodes node (get_or firsts node [])

pub record Wires (count : ℕ) (aux : List Bool) (wires : List Wire) : Type 0 where
  pub few : length wires ≤ 256
  pub stand : EachBehind (IsWireBehind count) [] wires
  pub into_buses : All (λ wire. wire.aux ≡ true → has_aux aux wire.to ≡ true) wires

pub record Lanes (nodes : List Node) (lanes : List LaneText) : Type 0 where
  pub few : length lanes ≤ 256
  pub stand : EachBehind (IsLaneBehind nodes) [] lanes

pub record Scripts (count words : ℕ) (scripts : List (List ScriptWord)) : Type 0 where
  pub counted : words ≡ word_count scripts
  pub stand : AreScripts count scripts

abbrev pub IsLegal : List ClassInfo → Draft → Type 0
IsLegal known draft =
    Settings draft.length draft.channels draft.bits draft.pattern
    × Nodes known draft.nodes draft.aux
    × Presets (length draft.nodes) draft.presets
    × Firsts draft.nodes draft.firsts
    × Wires (length draft.nodes) draft.aux draft.wires
    × Lanes draft.nodes draft.lanes
    × Scripts (length draft.nodes) draft.script_count draft.scripts

pub none_legal : (known : List ClassInfo) → IsLegal known no_draft
none_legal known = (
  record { frames_fit = search; channels_fit = search; bits_fit = search; sizes_fit = inl refl },
  record { stand = (omega arith, tt); classed = λ k d lt. absurd (omega (arith, lt)); buses = refl },
  record { as_many = refl; files = λ k d lt. absurd (omega (arith, lt)) },
  record { as_many = refl; fit = λ node k d lt. absurd (omega (arith, lt)) },
  record { few = omega arith; stand = tt; into_buses = λ k d lt. absurd (omega (arith, lt)) },
  record { few = omega arith; stand = tt },
  record { counted = refl; stand = record { few = omega arith; short = omega arith; words = λ k d lt. absurd (omega (arith, lt)) } },
)
