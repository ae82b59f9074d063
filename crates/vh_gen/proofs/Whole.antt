-- What is drawn one after the other is what comes of the number.
use Rattle.std.proofs.Common.{◌≡◌, ◌∙◌, ℕ, ◌≤◌, List, length, refl, sym, ap, subst, arith}
use Rattle.std.proofs.lemmas.List.FromFn.{length-map-range_with_len}
use Rattle.vh_journal.specs.declared.entry.Entry.{Entry}
use Rattle.vh_journal_text.specs.Items.{items_of}
use Rattle.vh_journal_text.specs.Keeps.{AreEntries}
use Rattle.vh_params.specs.declared.class.ClassInfo.{ClassInfo}
use Rattle.vh_params.specs.Classes.{NamesDiffer}
use Rattle.vh_params.specs.Nodes.{Node}
use Rattle.vh_session.specs.Entry.{LaneText}
use Rattle.vh_session.specs.Keeps.{IsSession, StandsUnder}
use Rattle.vh_session.specs.declared.wire.Wire.{Wire}
use Rattle.vh_gen.specs.Draws.{behind}
use Rattle.vh_gen.specs.Generated.{frame_total, content_with, session_of, before_journal, journal_of, before_input}
use Rattle.vh_gen.specs.Gestures.{entries_of, gestures_end}
use Rattle.vh_gen.specs.Known.{BeginsBuiltIn}
use Rattle.vh_gen.specs.Lanes.{lanes_of, lanes_end}
use Rattle.vh_gen.specs.Nodes.{node_total, kind_at, node_state, kinds_from, kinds_of, wires_from, wires_of, nodes_of, nodes_end}
use Rattle.vh_gen.proofs.Journaled.{are_entries}
use Rattle.vh_gen.proofs.Standing.{few_nodes, kinds_long, few_kinds, is_session, stands_under}

frames : frame_total ≡ 65536
unfolding frame_total
frames = refl

module _ (known : List ClassInfo) (number count s1 s2 s3 : ℕ) (kinds : List ℕ) (wires : List Wire) (nodes : List Node) (lanes : List LaneText)
    (count_is : count ≡ node_total number) (s1_is : s1 ≡ behind 1 number)
    (kinds_are : kinds ≡ kinds_from s1 count) (wires_are : wires ≡ wires_from s1 count) (s2_is : s2 ≡ node_state s1 count)
    (nodes_are : nodes ≡ nodes_of known kinds) (lanes_are : lanes ≡ lanes_of nodes s2) (s3_is : s3 ≡ lanes_end nodes s2) where
  all_kinds : kinds ≡ kinds_of number
  all_kinds = kinds_are ∙ ap (kinds_from s1) count_is ∙ ap (λ s. kinds_from s (node_total number)) s1_is

  all_wires : wires ≡ wires_of number
  all_wires = wires_are ∙ ap (wires_from s1) count_is ∙ ap (λ s. wires_from s (node_total number)) s1_is

  all_nodes : nodes ≡ nodes_of known (kinds_of number)
  all_nodes = nodes_are ∙ ap (nodes_of known) all_kinds

  behind_nodes : s2 ≡ nodes_end number
  behind_nodes = s2_is ∙ ap (node_state s1) count_is ∙ ap (λ s. node_state s (node_total number)) s1_is

  all_lanes : lanes ≡ lanes_of (nodes_of known (kinds_of number)) (nodes_end number)
  all_lanes = lanes_are ∙ ap (λ ns. lanes_of ns s2) all_nodes ∙ ap (lanes_of (nodes_of known (kinds_of number))) behind_nodes

  behind_lanes : s3 ≡ before_journal known number
  behind_lanes = s3_is ∙ ap (λ ns. lanes_end ns s2) all_nodes ∙ ap (lanes_end (nodes_of known (kinds_of number))) behind_nodes

  -- the session
  pub whole_session : content_with 65536 nodes wires lanes ≡ session_of known number
  whole_session =
      ap (λ n. content_with n nodes wires lanes) (sym frames)
      ∙ ap (λ ns. content_with frame_total ns wires lanes) all_nodes
      ∙ ap (λ ws. content_with frame_total (nodes_of known (kinds_of number)) ws lanes) all_wires
      ∙ ap (λ ls. content_with frame_total (nodes_of known (kinds_of number)) (wires_of number) ls) all_lanes

  pub keeps : BeginsBuiltIn known → IsSession (content_with 65536 nodes wires lanes)
  keeps begins = subst IsSession (sym whole_session) (is_session known number begins)

  pub stands : BeginsBuiltIn known → NamesDiffer known → StandsUnder known (content_with 65536 nodes wires lanes)
  stands begins differ = subst (StandsUnder known) (sym whole_session) (stands_under known number begins differ)

  -- its journal, and the state behind it
  pub whole_journal : (entries : List Entry) → entries ≡ entries_of kinds s3 → entries ≡ journal_of known number
  whole_journal entries are = are ∙ ap (λ ks. entries_of ks s3) all_kinds ∙ ap (entries_of (kinds_of number)) behind_lanes

  pub whole_state : (s4 : ℕ) → s4 ≡ gestures_end kinds s3 → s4 ≡ before_input known number
  whole_state s4 is = is ∙ ap (λ ks. gestures_end ks s3) all_kinds ∙ ap (gestures_end (kinds_of number)) behind_lanes

  pub accepted : (entries : List Entry) → BeginsBuiltIn known → entries ≡ entries_of kinds s3 → AreEntries nodes 65536 (items_of entries)
  accepted entries begins are =
      let long = kinds_long number in
      let least = (few_nodes number).0 in
      let all : AreEntries (nodes_of known (kinds_of number)) 65536 (items_of (journal_of known number)) =
      are_entries known (kinds_of number) begins (few_kinds number) (omega (arith, long, least)) (before_journal known number) in
      subst (λ es. AreEntries nodes 65536 (items_of es)) (sym (whole_journal entries are)) (subst (λ ns. AreEntries ns 65536 (items_of (journal_of known number))) (sym all_nodes) all)

-- few classes, of the first eight
pub few_drawn : (number count s1 : ℕ) (kinds : List ℕ) → count ≡ node_total number → kinds ≡ kinds_from s1 count → (8 ≤ length kinds) × (length kinds ≤ 32)
few_drawn number count s1 kinds count_is kinds_are =
    let long = ap length kinds_are ∙ length-map-range_with_len (kind_at s1) 0 count in
    let least = (few_nodes number).0 in
    let most = (few_nodes number).1 in
    (omega (arith, long, count_is, least), omega (arith, long, count_is, most))
