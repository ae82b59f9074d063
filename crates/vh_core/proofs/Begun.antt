-- A machine before its first event.
use Rattle.std.proofs.Common.{◌≡◌, ◌∙◌, inl, inr, ℕ, suc, ◌+◌, ◌≤◌, false, List, [], ◌∷◌, ◌++◌, length, map, take, drop, get_or, replicate, refl, sym, ap, subst, arith}
use Rattle.std.specs.Prelude.{All}
use Rattle.std.specs.List.{flat_map, range_with_len}
use Rattle.std.proofs.lemmas.Bool.{and_parts, leb-true, cases_order}
use Rattle.std.proofs.lemmas.List.{append_assoc, length-append, length-drop, take-append-drop}
use Rattle.vh_component.specs.declared.setup.Phase.{Phase}
use Rattle.vh_component.specs.declared.setup.Setup.{Setup}
use Rattle.vh_plugin.specs.Class.{Class, State as Held}
use Rattle.vh_journal.specs.declared.entry.Entry.{Entry}
use Rattle.vh_session.specs.declared.session.Session.{Session}
use Rattle.vh_session.specs.Content.{Content}
use Rattle.vh_session.specs.Names.{content_of}
use Rattle.vh_meaning.specs.Scene.{by_node}
use Rattle.vh_core.specs.declared.kept.Kept.{Kept}
use Rattle.vh_core.specs.declared.sent.Sent.{Sent}
use Rattle.vh_core.specs.declared.stage.Plan.{Plan}
use Rattle.vh_core.specs.declared.stage.Room.{Room}
use Rattle.vh_core.specs.State.{Setting, State, seen, at_first, begun}
use Rattle.vh_core.specs.Run.{begins}
use Rattle.vh_core.specs.Sound.{IsSound}
use Rattle.vh_core.specs.Playing.{ArePlayers, HaveStates, setting_by, IsPlayable}
use Rattle.vh_core.specs.Stage.{IsPlan, IsRoom}
use Rattle.vh_core.specs.Kept.{return_of, interleaved, samples_of, state_in, states_at, run_in, HasNothing}
use Rattle.vh_core.specs.Machine.{AreReady, IsMachine}
use Rattle.vh_core.proofs.Always.{same_state}
use Rattle.vh_core.proofs.Interleaved.{IsFew, none_left}
use Rattle.vh_core.proofs.Params.{total, total_is}
use Rattle.vh_core.proofs.Players.{classes_are}
use Rattle.vh_core.proofs.Shown.{seen_each}
use Rattle.vh_core.proofs.Sound.{sound_begun}
use Rattle.vh_legal.specs.Values.{param_count}

-- a session has one channel or two
pub few_channels : (session : Session) → IsFew (content_of session).channels
few_channels session =
    let within = and_parts _ _ session.keeps.channels in
    let low : 1 ≤ session.channels = leb-true 1 session.channels within.0 in
    let high : session.channels ≤ 2 = leb-true session.channels 2 within.1 in
    elim (cases_order session.channels 1) [
      | inl one ↦ inl one
      | inr other ↦ elim other [
        | inl below ↦ absurd (omega (arith, below, low))
        | inr above ↦ inr (omega (arith, above, high))
      ]
    ]

-- lists in a row, one behind the other
at_back : (before : List (List ℕ)) (x : List ℕ) (xs : List (List ℕ)) → get_or (before ++ x ∷ xs) (length before) [] ≡ x
at_back [] x xs = refl
at_back (y ∷ before) x xs = at_back before x xs

all_behind : (before xs : List (List ℕ)) → flat_map (λ k. get_or (before ++ xs) k []) (range_with_len (length before) (length xs)) ≡ flat_map (λ x. x) xs
all_behind before [] = refl
all_behind before (x ∷ xs) =
    let longer = length-append before (x ∷ []) in
    let at : length before + 1 ≡ length (before ++ x ∷ []) = omega (arith, longer) in
    ap (λ l. l ++ flat_map (λ k. get_or (before ++ x ∷ xs) k []) (range_with_len (length before + 1) (length xs))) (at_back before x xs)
    ∙ ap (λ l. x ++ l)
    (ap (λ n. flat_map (λ k. get_or (before ++ x ∷ xs) k []) (range_with_len n (length xs))) at
    ∙ ap (λ ys. flat_map (λ k. get_or ys k []) (range_with_len (length (before ++ x ∷ [])) (length xs))) (sym (append_assoc before (x ∷ []) xs))
    ∙ all_behind (before ++ x ∷ []) xs)

nodes_long : (class_of : ℕ → Class) (codes values : List ℕ) → length (by_node class_of codes values) ≡ length codes
nodes_long class_of [] values = refl
nodes_long class_of (code ∷ codes) values = ap suc (nodes_long class_of codes (drop (length (class_of code).params) values))

nodes_all : (class_of : ℕ → Class) (codes values : List ℕ) → total class_of codes ≡ length values → flat_map (λ l. l) (by_node class_of codes values) ≡ values
unfolding total
nodes_all class_of [] [] long = refl
nodes_all class_of [] (value ∷ values) long = absurd (omega (arith, long))
nodes_all class_of (code ∷ codes) values long =
    let count = length (class_of code).params in
    let left = length-drop count values in
    ap (λ l. take count values ++ l) (nodes_all class_of codes (drop count values) (omega (arith, long, left))) ∙ take-append-drop count values

-- the first values are those that are seen first
pub first_are : (setting : Setting) → total setting.class_of setting.codes ≡ length setting.firsts → at_first setting ≡ setting.firsts
first_are setting long =
    let lists = by_node setting.class_of setting.codes setting.firsts in
    ap (λ n. flat_map (λ k. get_or lists k []) (range_with_len 0 n)) (sym (nodes_long setting.class_of setting.codes setting.firsts))
    ∙ all_behind [] lists ∙ nodes_all setting.class_of setting.codes setting.firsts long

module _ {P : Type 0} (class_of : ℕ → Class) (code : P → ℕ) (state : P → Held) (values : P → List ℕ) (phase : P → Phase) (setup : P → Setup) (session : Content) (few : IsFew session.channels) (firsts : List ℕ) (processors : List P)
    (ready : AreReady class_of code state values phase setup session firsts processors) (plan : Plan) (room : Room) (kept : Kept) (plan_is : IsPlan session plan) (same : plan.firsts.items ≡ firsts) (room_is : IsRoom session room)
    (seen_is : kept.values.items ≡ firsts) (controlled : kept.controllers.items ≡ firsts) (nothing : HasNothing kept) where
  abbrev setting : Setting
  setting = setting_by class_of code session plan.firsts.items processors

  first_here : at_first setting ≡ firsts
  first_here =
      let all = total_is class_of (map code processors) session.nodes (classes_are class_of code phase setup session processors ready.players) in
      let each = ready.firsts_are.each in
      let long = ap (λ (l : List ℕ). length l) same in
      first_are setting (omega (arith, all, each, long)) ∙ same

  begun_is : state_in session.channels kept ≡ begun setting
  begun_is =
      same_state (state_in session.channels kept) (begun setting) nothing.puts nothing.inbox nothing.journal nothing.pos (ap (interleaved session.channels) nothing.frames ∙ none_left session.channels few) nothing.flushed
      (ap (map return_of) nothing.returns) (ap (λ (l : List ℕ). replicate (length l) false) (seen_is ∙ sym first_here)) (controlled ∙ sym first_here)

  states_begun : HaveStates state processors (states_at setting (begun setting))
  states_begun = λ node d lt.
      ready.starts node d lt

  pub machine_begun : IsMachine class_of code state phase setup session plan room processors kept
  machine_begun = record {
    players = ready.players;
    plan_is = plan_is;
    room_is = room_is;
    current = record {
      sound = subst (IsSound setting) (sym begun_is) (sound_begun setting);
      states = subst (λ (s : State). HaveStates state processors (states_at setting s)) (sym begun_is) states_begun;
      values = seen_is ∙ sym first_here ∙ ap (seen setting) (sym begun_is);
      whole = subst (λ l. samples_of (interleaved session.channels l) ≡ l) (sym nothing.frames) (ap samples_of (none_left session.channels few));
      waits = subst (λ (l : List Sent). All (λ sent. IsPlayable (length session.nodes) sent.command) l) (sym nothing.inbox) (λ k d lt. absurd (omega (arith, lt)));
      taken = subst (λ (l : List Entry). All (λ entry. IsPlayable (length session.nodes) entry.command) l) (sym nothing.journal) (λ k d lt. absurd (omega (arith, lt)));
    };
  }

  pub run_begun : run_in code session plan processors kept ≡ begins class_of session (map code processors) firsts
  run_begun =
      ap (λ (s : State). record { session = session; codes = map code processors; firsts = plan.firsts.items; state = s }) begun_is
      ∙ ap (λ (l : List ℕ). begins class_of session (map code processors) l) same

-- as many values are kept as there are parameters
pub values_each : {P : Type 0} (class_of : ℕ → Class) (code : P → ℕ) (state : P → Held) (phase : P → Phase) (setup : P → Setup) (session : Content) (plan : Plan) (room : Room) (processors : List P) (kept : Kept)
    → IsMachine class_of code state phase setup session plan room processors kept → length kept.values.items ≡ length (at_first (setting_by class_of code session plan.firsts.items processors))
values_each class_of code state phase setup session plan room processors kept machine =
    ap (λ (l : List ℕ). length l) machine.current.values ∙ seen_each (setting_by class_of code session plan.firsts.items processors) (state_in session.channels kept)

pub params_each : {P : Type 0} (class_of : ℕ → Class) (code : P → ℕ) (phase : P → Phase) (setup : P → Setup) (session : Content) (plan : Plan) (processors : List P)
    → ArePlayers class_of code phase setup session processors → IsPlan session plan → length (at_first (setting_by class_of code session plan.firsts.items processors)) ≡ param_count session.nodes
params_each class_of code phase setup session plan processors players plan_is =
    let all = total_is class_of (map code processors) session.nodes (classes_are class_of code phase setup session processors players) in
    let each = plan_is.firsts.each in
    ap (λ (l : List ℕ). length l) (first_are (setting_by class_of code session plan.firsts.items processors) (omega (arith, all, each))) ∙ each
