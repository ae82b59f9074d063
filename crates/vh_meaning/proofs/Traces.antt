-- States and frames that form a trace are those of the world.
use Rattle.std.proofs.Common.{◌≡◌, ◌∙◌, ℕ, zero, suc, ◌+◌, ◌<◌, ◌≤◌, Bool, true, false, cond, List, [], ◌∷◌, ◌++◌, refl, sym, ap, arith, Some}
use Rattle.std.specs.Prelude.{All, ◌==◌}
use Rattle.std.proofs.lemmas.Bool.{eqb-true}
use Rattle.std.proofs.lemmas.List.Elements.{All-head, All-tail, All-weaker}
use Rattle.vh_params.specs.declared.command.Command.{Command}
use Rattle.vh_params.specs.declared.command.Command.TheVariants.{Begin, Perform, End, Tell}
use Rattle.vh_num.specs.Frames.{Frame}
use Rattle.vh_plugin.specs.Class.{State}
use Rattle.vh_journal.specs.declared.entry.Entry.{Entry}
use Rattle.vh_meaning.specs.Scene.{Scene, node_count}
use Rattle.vh_meaning.specs.Values.{values_at}
use Rattle.vh_meaning.specs.World.{input_at, told_by, after_messages, world, after, frame_at}
use Rattle.vh_meaning.specs.Rendering.{message_sample}
use Rattle.vh_meaning.specs.Trace.{IsTrace}
use Rattle.vh_meaning.specs.Laws.{HasOrder, IsNoMessageWithin, Interchange}
use Rattle.vh_meaning.proofs.Reaching.{given_alike, stepped_alike}
use Rattle.vh_meaning.proofs.Fitting.{source_within, law_frames_that_fit}

pub same_both : {A : Type 0} (b : Bool) (x : A) → cond b x x ≡ x
same_both true x = refl
same_both false x = refl

-- a command that is no message at a sample changes no state there
told_nothing : (scene : Scene) (values : ℕ → List ℕ) (command : Command) (sample s : ℕ) (states : ℕ → State) → (message_sample sample command ≡ Some s → ⊥) → cond (sample == s) (told_by scene values command states) states ≡ states
told_nothing scene values (Begin node id) sample s states none = same_both (sample == s) states
told_nothing scene values (Perform node id value) sample s states none = same_both (sample == s) states
told_nothing scene values (End node id) sample s states none = same_both (sample == s) states
told_nothing scene values (Tell node words) sample s states none = elim (sample == s) as (λ b. (sample == s) ≡ b → cond b (told_by scene values (Tell node words) states) states ≡ states) [
  | true ↦ λ is. absurd (none (ap (λ (t : ℕ). Some t) (eqb-true sample s is)))
  | false ↦ λ is. refl
] refl

-- no entry is a message at this sample
abbrev pub IsNoMessageAt : ℕ → Entry → Type 0
IsNoMessageAt s entry = message_sample entry.sample entry.command ≡ Some s → ⊥

pub told_none : (scene : Scene) (s : ℕ) (before h : List Entry) (states : ℕ → State) → All (IsNoMessageAt s) h → after_messages scene s before h states ≡ states
told_none scene s before [] states none = refl
told_none scene s before (entry ∷ h) states none =
    ap (after_messages scene s (before ++ entry ∷ []) h) (told_nothing scene (values_at scene before s) entry.command entry.sample s states (All-head (IsNoMessageAt s) entry h none))
    ∙ told_none scene s (before ++ entry ∷ []) h states (All-tail (IsNoMessageAt s) entry h none)

-- a trace over n samples, under these entries and this input
module _ (scene : Scene) (input : List Frame) (h : List Entry) (at n : ℕ) (states : ℕ → ℕ → State) (frames : ℕ → ℕ → Frame) (has : HasOrder scene)
    (trace : IsTrace scene n (λ o. values_at scene h (at + o)) (λ o. input_at scene input (at + o)) states frames) where
  -- its states at a sample are the world's after the messages there
  abbrev AreWorlds : ℕ → Type 0
  AreWorlds o = (node : ℕ) → node < node_count scene → states o node ≡ after scene input h (at + o) node

  frames_of_world : (o : ℕ) → o < n → AreWorlds o → (node : ℕ) → node < node_count scene → frames o node ≡ frame_at scene input h (at + o) node
  frames_of_world o lt same =
      law_frames_that_fit scene (after scene input h (at + o)) (values_at scene h (at + o)) (input_at scene input (at + o)) (frames o) has (λ node within.
      trace.consistent o lt node within
      ∙ given_alike scene node (states o) (after scene input h (at + o)) (values_at scene h (at + o)) (values_at scene h (at + o)) (input_at scene input (at + o)) (frames o) (frames o)
      (record { state = same node within; value = refl; sources = λ source is. refl }))

  state_of_world : (o : ℕ) → o < n → AreWorlds o → (node : ℕ) → node < node_count scene → states (suc o) node ≡ world scene input h (at + suc o) node
  state_of_world o lt same node within =
      let next : suc o ≡ o + 1 = omega arith in
      let later : suc (at + o) ≡ at + suc o = omega arith in
      ap (λ (m : ℕ). states m node) next
      ∙ trace.moves o node lt within
      ∙ stepped_alike scene node (states o) (after scene input h (at + o)) (values_at scene h (at + o)) (values_at scene h (at + o)) (input_at scene input (at + o)) (frames o) (frame_at scene input h (at + o))
      (record { state = same node within; value = refl; sources = λ source is. frames_of_world o lt same source (source_within scene has node source within is) })
      ∙ ap (λ (s : ℕ). world scene input h s node) later

  worlds : ((node : ℕ) → node < node_count scene → states 0 node ≡ after scene input h at node) → All (IsNoMessageWithin at (at + n)) h → (o : ℕ) → o < n → AreWorlds o
  worlds start none zero lt = λ node within.
      let here : at ≡ at + 0 = omega arith in
      start node within ∙ ap (λ (s : ℕ). after scene input h s node) here
  worlds start none (suc o) lt = λ node within.
      let before : o < n = omega (arith, lt) in
      let quiet : All (IsNoMessageAt (at + suc o)) h = All-weaker (IsNoMessageWithin at (at + n)) (IsNoMessageAt (at + suc o)) (λ entry no is. no (at + suc o) is (omega arith) (omega (arith, lt))) h none in
      state_of_world o before (worlds start none o before) node within
      ∙ ap (λ (x : ℕ → State). x node) (sym (told_none scene (at + suc o) [] h (world scene input h (at + suc o)) quiet))

  behind : ((o : ℕ) → o < n → AreWorlds o) → (m : ℕ) → m ≤ n → 0 < m → (node : ℕ) → node < node_count scene → states m node ≡ world scene input h (at + m) node
  behind all zero le some node within = absurd (omega (arith, some))
  behind all (suc o) le some node within = state_of_world o (omega (arith, le)) (all o (omega (arith, le))) node within

pub law_interchange : Interchange
law_interchange scene input h at n states frames has start none trace =
    let all = worlds scene input h at n states frames has trace start none in (
      λ o node lt within. frames_of_world scene input h at n states frames has trace o lt (all o lt) node within,
      λ node some within. behind scene input h at n states frames has trace all n (omega arith) some node within,
    )
