-- Entries are applied one by one, and then a sample passes.
use Rattle.std.proofs.Common.{◌≡◌, ◌∙◌, ℕ, suc, ◌+◌, ◌<◌, ◌≤◌, cond, List, [], ◌∷◌, ◌++◌, refl, sym, ap, subst, arith, Some}
use Rattle.std.specs.Prelude.{All, ◌==◌}
use Rattle.std.proofs.lemmas.Bool.{eq-eqb}
use Rattle.std.proofs.lemmas.List.{append-nil, append_assoc}
use Rattle.std.proofs.lemmas.List.Elements.{All-nil, All-head, All-tail, All-weaker, All-push, All-append}
use Rattle.vh_params.specs.declared.command.Command.{Command}
use Rattle.vh_params.specs.declared.command.Command.TheVariants.{Begin, Perform, End, Tell}
use Rattle.vh_params.specs.Short.{words_in}
use Rattle.vh_num.specs.Frames.{Frame}
use Rattle.vh_plugin.specs.Class.{State}
use Rattle.vh_journal.specs.declared.entry.Entry.{Entry}
use Rattle.vh_meaning.specs.Scene.{Scene, node_count, class_at, params_at, firsts_at}
use Rattle.vh_meaning.specs.Values.{values_at}
use Rattle.vh_meaning.specs.World.{input_at, told_by, after_messages, told, world, after, frame_at}
use Rattle.vh_meaning.specs.Rendering.{Answer, answers_by, answer_to, answers_from, message_sample}
use Rattle.vh_meaning.specs.Stands.{Touch, Standing, touches_at}
use Rattle.vh_meaning.specs.Steps.{touches_with, values_now, values_in, applied_one, applied, frames_now}
use Rattle.vh_meaning.specs.Laws.{IsToNode, AreNext, StandsAfter, Applied, OneSample}
use Rattle.vh_meaning.proofs.Reaching.{given_alike, stepped_alike}
use Rattle.vh_meaning.proofs.Fitting.{source_within, law_frames_that_fit, law_frames_fit}
use Rattle.vh_meaning.proofs.Later.{told_once, world_ahead}
use Rattle.vh_meaning.proofs.Traces.{same_both, told_none}
use Rattle.vh_meaning.proofs.Touches.{touches_push, values_kept}

-- one more entry: its message comes last
told_push : (scene : Scene) (s : ℕ) (before h : List Entry) (entry : Entry) (states : ℕ → State) → after_messages scene s before (h ++ entry ∷ []) states ≡ told_once scene s (before ++ h) entry (after_messages scene s before h states)
told_push scene s before [] entry states = ap (λ (l : List Entry). told_once scene s l entry states) (sym (append-nil before))
told_push scene s before (x ∷ h) entry states =
    told_push scene s (before ++ x ∷ []) h entry (told_once scene s before x states)
    ∙ ap (λ (l : List Entry). told_once scene s l entry (after_messages scene s (before ++ x ∷ []) h (told_once scene s before x states))) (append_assoc before (x ∷ []) h)

-- a message does the same to a node at the sample where it is applied
told_alike : (scene : Scene) (values others : ℕ → List ℕ) (command : Command) (sample s : ℕ) (states other_states : ℕ → State) (node : ℕ)
    → ((t : ℕ) → message_sample sample command ≡ Some t → t ≡ s) → (sample ≡ s → values node ≡ others node) → states node ≡ other_states node
    → told_by scene values command states node ≡ cond (sample == s) (told_by scene others command other_states) other_states node
told_alike scene values others (Begin n id) sample s states other_states node at alike same = same ∙ ap (λ (x : ℕ → State). x node) (sym (same_both (sample == s) other_states))
told_alike scene values others (Perform n id value) sample s states other_states node at alike same = same ∙ ap (λ (x : ℕ → State). x node) (sym (same_both (sample == s) other_states))
told_alike scene values others (End n id) sample s states other_states node at alike same = same ∙ ap (λ (x : ℕ → State). x node) (sym (same_both (sample == s) other_states))
told_alike scene values others (Tell n words) sample s states other_states node at alike same =
    let is : sample ≡ s = at sample refl in
    let text = words_in words in
    ap (λ (x : State). cond (node == n) ((class_at scene node).told x (values node) text) x) same
    ∙ ap (λ (v : List ℕ). cond (node == n) ((class_at scene node).told (other_states node) v text) (other_states node)) (alike is)
    ∙ ap (λ b. cond b (told_by scene others (Tell n words) other_states) other_states node) (sym (eq-eqb sample s is))

abbrev answered : Scene → ℕ → ℕ → List ℕ → State → List ℕ → List Answer
answered scene node s words state values = record { node = node; sample = s; words = (class_at scene node).reply state values words } ∷ []

-- and its node answers the same; `states` and `others` give the states and values by sample
answers_alike : (scene : Scene) (states : ℕ → State) (values : ℕ → List ℕ) (other_states : ℕ → ℕ → State) (others : ℕ → ℕ → List ℕ) (command : Command) (sample s : ℕ)
    → ((t : ℕ) → message_sample sample command ≡ Some t → t ≡ s) → IsToNode scene command
    → ((node : ℕ) → node < node_count scene → states node ≡ other_states s node) → (sample ≡ s → (node : ℕ) → node < node_count scene → values node ≡ others s node)
    → answers_by scene states values s command ≡ answers_by scene (other_states sample) (others sample) sample command
answers_alike scene states values other_states others (Begin n id) sample s at to same alike = refl
answers_alike scene states values other_states others (Perform n id value) sample s at to same alike = refl
answers_alike scene states values other_states others (End n id) sample s at to same alike = refl
answers_alike scene states values other_states others (Tell n words) sample s at to same alike =
    let is : sample ≡ s = at sample refl in
    let within = to n words refl in
    ap (λ (x : State). answered scene n s (words_in words) x (values n)) (same n within)
    ∙ ap (λ (v : List ℕ). answered scene n s (words_in words) (other_states s n) v) (alike is n within)
    ∙ ap (λ (t : ℕ). answered scene n t (words_in words) (other_states t n) (others t n)) (sym is)

-- the answers before a further entry
answers_ahead : (scene : Scene) (input : List Frame) (h : List Entry) (entry : Entry) (before later : List Entry) → All (λ x. x.sample ≤ entry.sample) later → answers_from scene input (h ++ entry ∷ []) before later ≡ answers_from scene input h before later
answers_ahead scene input h entry before [] ahead = refl
answers_ahead scene input h entry before (x ∷ later) ahead =
    let here : x.sample ≤ entry.sample = All-head (λ (y : Entry). y.sample ≤ entry.sample) x later ahead in
    let same = world_ahead scene input h (entry ∷ []) x.sample (All-push (λ (y : Entry). x.sample ≤ y.sample) [] entry (All-nil (λ (y : Entry). x.sample ≤ y.sample)) here) in
    let rest = answers_ahead scene input h entry (before ++ x ∷ []) later (All-tail (λ (y : Entry). y.sample ≤ entry.sample) x later ahead) in
    ap (λ (w : ℕ → State). answers_by scene (after_messages scene x.sample [] before w) (values_at scene before x.sample) x.sample x.command ++ answers_from scene input (h ++ entry ∷ []) (before ++ x ∷ []) later) same
    ∙ ap (λ (l : List Answer). answer_to scene input h before x ++ l) rest

answers_push : (scene : Scene) (input : List Frame) (h before later : List Entry) (entry : Entry) → answers_from scene input h before (later ++ entry ∷ []) ≡ answers_from scene input h before later ++ answer_to scene input h (before ++ later) entry
answers_push scene input h before [] entry =
    append-nil (answer_to scene input h before entry) ∙ ap (λ (l : List Entry). answer_to scene input h l entry) (sym (append-nil before))
answers_push scene input h before (x ∷ later) entry =
    let rest = answers_push scene input h (before ++ x ∷ []) later entry in
    ap (λ (l : List Answer). answer_to scene input h before x ++ l) rest
    ∙ ap (λ (l : List Entry). answer_to scene input h before x ++ (answers_from scene input h (before ++ x ∷ []) later ++ answer_to scene input h l entry)) (append_assoc before (x ∷ []) later)
    ∙ sym (append_assoc (answer_to scene input h before x) (answers_from scene input h (before ++ x ∷ []) later) (answer_to scene input h (before ++ x ∷ later) entry))

-- an entry that may be applied behind these
record IsNext (scene : Scene) (s : ℕ) (before : List Entry) (entry : Entry) : Type 0 where
  pub from : s ≤ entry.sample
  pub behind : All (λ x. x.sample ≤ entry.sample) before
  pub message : (t : ℕ) → message_sample entry.sample entry.command ≡ Some t → t ≡ s
  pub node : IsToNode scene entry.command

before_one : (scene : Scene) (input : List Frame) (before : List Entry) (entry : Entry) (s : ℕ) → s ≤ entry.sample → world scene input (before ++ entry ∷ []) s ≡ world scene input before s
before_one scene input before entry s le = world_ahead scene input before (entry ∷ []) s (All-push (λ (y : Entry). s ≤ y.sample) [] entry (All-nil (λ (y : Entry). s ≤ y.sample)) le)

-- what is kept of entries up to a sample gives the values there
pub values_stand : (scene : Scene) (standing : Standing) (s : ℕ) (before : List Entry) → ((node : ℕ) → node < node_count scene → standing.touches node ≡ touches_at scene before node) → All (λ x. x.sample ≤ s) before
    → (node : ℕ) → node < node_count scene → values_in scene standing s node ≡ values_at scene before s node
values_stand scene standing s before touches upto node within =
    ap (λ (l : List Touch). values_now scene node (params_at scene node) l s) (touches node within) ∙ values_kept scene before node s upto

one_applied : (scene : Scene) (standing : Standing) (s : ℕ) (input : List Frame) (before : List Entry) (entry : Entry) → StandsAfter scene standing s input before → IsNext scene s before entry
    → StandsAfter scene (applied_one scene s entry standing) s input (before ++ entry ∷ [])
one_applied scene standing s input before entry stands next =
    let values = λ (is : entry.sample ≡ s). values_stand scene standing s before stands.touches (All-weaker (λ (x : Entry). x.sample ≤ entry.sample) (λ (x : Entry). x.sample ≤ s) (λ x le. omega (arith, le, is)) before next.behind) in
    let same = before_one scene input before entry s next.from in
    record {
      states = λ node within.
          told_alike scene (values_in scene standing s) (values_at scene before s) entry.command entry.sample s standing.states (after scene input before s) node next.message (λ is. values is node within) (stands.states node within)
          ∙ ap (λ (x : ℕ → State). told_once scene s before entry (told scene before s x) node) (sym same)
          ∙ ap (λ (x : ℕ → State). x node) (sym (told_push scene s [] before entry (world scene input (before ++ entry ∷ []) s)));
      touches = λ node within. ap (touches_with scene entry node (params_at scene node)) (stands.touches node within) ∙ touches_push scene before entry node (params_at scene node) (firsts_at scene node);
      answers =
          let whole = before ++ entry ∷ [] in
          let given = answers_alike scene standing.states (values_in scene standing s) (λ t. after_messages scene t [] before (world scene input whole t)) (λ t. values_at scene before t) entry.command entry.sample s next.message next.node
          (λ node within. stands.states node within ∙ ap (λ (x : ℕ → State). told scene before s x node) (sym same)) values in
          ap (λ (l : List Answer). l ++ answers_by scene standing.states (values_in scene standing s) s entry.command) (stands.answers ∙ sym (answers_ahead scene input before entry [] before next.behind))
          ∙ ap (λ (l : List Answer). answers_from scene input whole [] before ++ l) given
          ∙ sym (answers_push scene input whole [] before entry);
    }

-- no entry behind stands before one of those
abbrev AreBehind : List Entry → List Entry → Type 0
AreBehind before entries = All (λ x. All (λ y. x.sample ≤ y.sample) entries) before

all_applied : (scene : Scene) (standing : Standing) (s : ℕ) (input : List Frame) (before entries : List Entry) → StandsAfter scene standing s input before → AreBehind before entries → AreNext scene s entries
    → StandsAfter scene (applied scene s entries standing) s input (before ++ entries)
all_applied scene standing s input before [] stands behind next = subst (λ (l : List Entry). StandsAfter scene standing s input l) (sym (append-nil before)) stands
all_applied scene standing s input before (entry ∷ entries) stands behind next =
    let one = one_applied scene standing s input before entry stands (record {
      from = All-head (λ (x : Entry). s ≤ x.sample) entry entries next.from;
      behind = All-weaker (λ (x : Entry). All (λ y. x.sample ≤ y.sample) (entry ∷ entries)) (λ (x : Entry). x.sample ≤ entry.sample) (λ x all. All-head (λ (y : Entry). x.sample ≤ y.sample) entry entries all) before behind;
      message = All-head (λ (x : Entry). (t : ℕ) → message_sample x.sample x.command ≡ Some t → t ≡ s) entry entries next.messages;
      node = All-head (λ (x : Entry). IsToNode scene x.command) entry entries next.nodes;
    }) in
    let rest = All-push (λ (x : Entry). All (λ y. x.sample ≤ y.sample) entries) before entry
    (All-weaker (λ (x : Entry). All (λ y. x.sample ≤ y.sample) (entry ∷ entries)) (λ (x : Entry). All (λ y. x.sample ≤ y.sample) entries) (λ x all. All-tail (λ (y : Entry). x.sample ≤ y.sample) entry entries all) before behind)
    (λ j d lt. next.rising 0 (suc j) d (omega arith) (omega (arith, lt))) in
    subst (λ (l : List Entry). StandsAfter scene (applied scene s (entry ∷ entries) standing) s input l) (append_assoc before (entry ∷ []) entries)
    (all_applied scene (applied_one scene s entry standing) s input (before ++ entry ∷ []) entries one rest (record {
      rising = λ i j d lt within. next.rising (suc i) (suc j) d (omega (arith, lt)) (omega (arith, within));
      from = All-tail (λ (x : Entry). s ≤ x.sample) entry entries next.from;
      messages = All-tail (λ (x : Entry). (t : ℕ) → message_sample x.sample x.command ≡ Some t → t ≡ s) entry entries next.messages;
      nodes = All-tail (λ (x : Entry). IsToNode scene x.command) entry entries next.nodes;
    }))

pub only_sample : (sample t s : ℕ) (command : Command) → message_sample sample command ≡ Some t → sample ≡ t
only_sample sample t s (Begin n id) is = absurd cc
only_sample sample t s (Perform n id value) is = absurd cc
only_sample sample t s (End n id) is = absurd cc
only_sample sample t s (Tell n words) is = cc

-- entries before a sample hold no message there
none_before : (scene : Scene) (s : ℕ) (h : List Entry) (states : ℕ → State) → All (λ x. x.sample < s) h → told scene h s states ≡ states
none_before scene s h states before = told_none scene s [] h states (λ k d lt is. let early = before k d lt in let same = only_sample _ s s _ is in omega (arith, early, same))

pub law_applied : Applied
law_applied scene standing s input h entries stands next =
    all_applied scene standing s input h entries
    (record {
      states = λ node within. stands.states node within ∙ ap (λ (x : ℕ → State). x node) (sym (none_before scene s h (world scene input h s) stands.before));
      touches = stands.touches;
      answers = stands.answers;
    })
    (λ k d lt j e within. let early = stands.before k d lt in let late = next.from j e within in omega (arith, early, late))
    next

pub law_one_sample : OneSample
law_one_sample scene standing s input h entries has stands at nodes =
    let whole = h ++ entries in
    let now = applied scene s entries standing in
    let kept = law_applied scene standing s input h entries stands (record {
      rising = λ i j d lt within. let one = at i d (omega (arith, lt, within)) in let other = at j d within in omega (arith, one, other);
      from = All-weaker (λ (x : Entry). x.sample ≡ s) (λ (x : Entry). s ≤ x.sample) (λ x is. omega (arith, is)) entries at;
      messages = λ k d lt t is. let here = at k d lt in let same = only_sample _ t s _ is in omega (arith, here, same);
      nodes = nodes;
    }) in
    let upto = All-append (λ (x : Entry). x.sample < s + 1) h entries
    (All-weaker (λ (x : Entry). x.sample < s) (λ (x : Entry). x.sample < s + 1) (λ x lt. omega (arith, lt)) h stands.before)
    (All-weaker (λ (x : Entry). x.sample ≡ s) (λ (x : Entry). x.sample < s + 1) (λ x is. omega (arith, is)) entries at) in
    let values = values_stand scene now s whole kept.touches (All-weaker (λ (x : Entry). x.sample < s + 1) (λ (x : Entry). x.sample ≤ s) (λ x lt. omega (arith, lt)) whole upto) in
    let frames = λ (node : ℕ) (within : node < node_count scene).
    law_frames_that_fit scene (after scene input whole s) (values_at scene whole s) (input_at scene input s) (frames_now scene s (input_at scene input s) now) has
    (λ m inside.
    law_frames_fit scene now.states (values_in scene now s) (input_at scene input s) has m inside
    ∙ given_alike scene m now.states (after scene input whole s) (values_in scene now s) (values_at scene whole s) (input_at scene input s) (frames_now scene s (input_at scene input s) now) (frames_now scene s (input_at scene input s) now)
    (record { state = kept.states m inside; value = values m inside; sources = λ source is. refl }))
    node within in
    let later : suc s ≡ s + 1 = omega arith in (
      record {
        states = λ node within.
            stepped_alike scene node now.states (after scene input whole s) (values_in scene now s) (values_at scene whole s) (input_at scene input s) (frames_now scene s (input_at scene input s) now) (frame_at scene input whole s)
            (record { state = kept.states node within; value = values node within; sources = λ source is. frames source (source_within scene has node source within is) })
            ∙ ap (λ (t : ℕ). world scene input whole t node) later;
        touches = kept.touches;
        answers = kept.answers;
        before = upto;
      },
      frames,
    )
