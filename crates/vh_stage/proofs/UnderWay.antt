-- An engine that had some input: how many values it has, and what it answered.
use Rattle.std.proofs.Common.{◌≡◌, ◌∙◌, ℕ, zero, suc, ◌+◌, ◌-◌, ◌*◌, ◌<◌, ◌≤◌, List, [], ◌∷◌, ◌++◌, length, map, drop, get_or, ◌⊎◌, ℤ, refl, sym, ap, subst, append_assoc, append-nil, arith}
use Rattle.std.specs.Prelude.{All, slice_index_or, sum_by}
use Rattle.std.specs.List.{range_with_len, flat_map}
use Rattle.std.proofs.lemmas.List.{length-append, length-map, length-take, length-drop, map-append, drop-map, drop_at, get_or_append_left, get_or-append_right, get_or_default}
use Rattle.std.proofs.lemmas.List.Elements.{All-head, All-tail}
use Rattle.std.proofs.lemmas.List.Sums.{sum_by-cons}
use Rattle.vh_num.specs.Frames.{Frame, frame_at, frames_of}
use Rattle.vh_num.specs.Laws.{FramesAreInPlace}
use Rattle.vh_params.specs.declared.command.Reply.{Reply}
use Rattle.vh_params.specs.declared.param.ParamInfo.{ParamInfo}
use Rattle.vh_params.specs.Nodes.{Node, node_at, no_node}
use Rattle.vh_plugin.specs.Class.{Class, Param, State, param_of}
use Rattle.vh_journal.specs.declared.entry.Entry.{Entry}
use Rattle.vh_meaning.specs.Scene.{Scene, node_count, class_at, params_at, firsts_at}
use Rattle.vh_meaning.specs.Values.{values_of, values_at}
use Rattle.vh_meaning.specs.World.{silence, after_messages, world, after}
use Rattle.vh_meaning.specs.Rendering.{Answer, seen_of, seen_at, of_all, seen_before, last_values, answers_by, answer_to, answers_from, answers, stops}
use Rattle.vh_meaning.specs.Laws.{EachIsAnswered}
use Rattle.vh_meaning.proofs.Later.{world_ahead}
use Rattle.vh_back.specs.Items.{parameter}
use Rattle.vh_engine.specs.Kept.{Kept, scene_in, Stands, AreInput, IsSameEngine}
use Rattle.vh_engine.specs.Staged.{answer_of}
use Rattle.vh_engine.proofs.Rooms.{same_scene}
use Rattle.vh_stage.specs.Parameters.{infos_at, parameters_from, all_parameters, param_count}
use Rattle.vh_stage.specs.Playing.{HasClasses, AreAt, IsUnderWay}
use Rattle.vh_stage.proofs.Carrying.{few_stops}
use Rattle.vh_stage.proofs.Played.{at_is_from}

-- ---- the input grows by a block's frames

-- samples are these frames behind some
behind : FramesAreInPlace → (scene : Scene) (input later : List Frame) (at n channels : ℕ) (ins : List ℤ) → length input ≡ at → channels ≡ scene.channels → (channels ≡ 1) ⊎ (channels ≡ 2) → length ins ≡ channels * n
    → AreInput scene (input ++ (frames_of channels ins ++ later)) at n ins
behind frames_are scene input later at n channels ins so_far same one_or_two long place below =
    let frames = frames_of channels ins in
    let in_place = frames_are channels n ins one_or_two long in
    let size = in_place.0 in
    let d = silence scene.channels in
    let here : (at + place) - length input ≡ place = omega (arith, so_far) in
    ap (λ c. frame_at c n ins place) (sym same)
    ∙ sym (in_place.1 place below)
    ∙ sym (get_or_default frames place d [] (omega (arith, below, size)))
    ∙ sym (get_or_append_left frames later d place (omega (arith, below, size)))
    ∙ ap (λ k. get_or (frames ++ later) k d) (sym here)
    ∙ sym (get_or-append_right input (frames ++ later) (length input) (at + place) d refl (omega (arith, so_far)))

pub under_way_more : FramesAreInPlace → (class_of : ℕ → Class) (old new : Kept) (entries : List Entry) (n channels : ℕ) (ins : List ℤ) → new.at ≡ old.at + n → channels ≡ old.session.channels → (channels ≡ 1) ⊎ (channels ≡ 2) → length ins ≡ channels * n
    → ((input : List Frame) (h : List Entry) → Stands class_of old input h → AreInput (scene_in class_of old) input old.at n ins → Stands class_of new input (h ++ entries))
    → (h : List Entry) → IsUnderWay class_of old h → IsUnderWay class_of new (h ++ entries)
under_way_more frames_are class_of old new entries n channels ins moved same one_or_two long stands h way =
    let frames = frames_of channels ins in
    let size = (frames_are channels n ins one_or_two long).0 in
    let so_far = way.so_far in
    let sum = length-append way.input frames in
    record {
      input = way.input ++ frames;
      so_far = omega (arith, size, so_far, sum, moved);
      stands = λ later.
          subst (λ (input : List Frame). Stands class_of new input (h ++ entries)) (sym (append_assoc way.input frames later))
          (stands (way.input ++ (frames ++ later)) h (way.stands (frames ++ later)) (behind frames_are (scene_in class_of old) way.input later old.at n channels ins so_far same one_or_two long));
    }

-- ---- how many values there are

-- lists one after the other, as long as f has it
flat_long : {A : Type 0} (f : A → ℕ) (xs : List A) (of : ℕ → List ℕ) (from : ℕ) → ((k : ℕ) (d : A) → k < length xs → length (of (from + k)) ≡ f (slice_index_or xs k d)) → length (flat_map of (range_with_len from (length xs))) ≡ sum_by f xs
flat_long f [] of from same = refl
flat_long f (x ∷ xs) of from same =
    let here : from + 0 ≡ from = omega arith in
    let one : length (of from) ≡ f x = ap (λ (n : ℕ). length (of n)) (sym here) ∙ same 0 x (omega arith) in
    let rest = flat_long f xs of (from + 1) (λ k d less. (let after : (from + 1) + k ≡ from + suc k = omega arith in ap (λ (n : ℕ). length (of n)) after) ∙ same (suc k) d (omega (arith, less))) in
    let both = length-append (of from) (flat_map of (range_with_len (from + 1) (length xs))) in
    let sums = sum_by-cons f x xs in
    omega (arith, one, rest, both, sums)

values_long : (scene : Scene) (h : List Entry) (node : ℕ) (params : List Param) (firsts : List ℕ) (s : ℕ) → length firsts ≡ length params → length (values_of scene h node params firsts s) ≡ length params
values_long scene h node [] firsts s same = refl
values_long scene h node (param ∷ params) [] s same = absurd (omega (arith, same))
values_long scene h node (param ∷ params) (first ∷ firsts) s same = let rest = values_long scene h node params firsts s (omega (arith, same)) in omega (arith, rest)

seen_long : (class : Class) (state : State) (params : List Param) (values : List ℕ) → length values ≡ length params → length (seen_of class state params values) ≡ length params
seen_long class state [] values same = refl
seen_long class state (param ∷ params) [] same = absurd (omega (arith, same))
seen_long class state (param ∷ params) (value ∷ values) same = let rest = seen_long class state params values (omega (arith, same)) in omega (arith, rest)

module _ (class_of : ℕ → Class) (kept : Kept) (has : HasClasses class_of kept) where
  -- what is seen of all nodes has a value for each parameter
  all_long : (states : ℕ → State) (h : List Entry) (s : ℕ) → length (of_all (scene_in class_of kept) (seen_at (scene_in class_of kept) states (values_at (scene_in class_of kept) h s))) ≡ param_count kept.session.nodes
  all_long states h s =
      let scene = scene_in class_of kept in
      let nodes = kept.session.nodes in
      let of : ℕ → List ℕ = seen_at scene states (values_at scene h s) in
      ap (λ n. length (flat_map of (range_with_len 0 n))) has.count
      ∙ flat_long (λ (node : Node). length node.params) nodes of 0
      (λ k d less.
      let here : 0 + k ≡ k = omega arith in
      let params = length-map (node_at nodes k).params param_of in
      let own = ap length (has.params k less) in
      let firsts = has.firsts k less in
      let values = values_long scene h k (params_at scene k) (firsts_at scene k) s (omega (arith, firsts, own, params)) in
      let seen = seen_long (class_at scene k) (states k) (params_at scene k) (values_at scene h s k) values in
      ap (λ j. length (of j)) here ∙ seen ∙ own ∙ params ∙ ap (λ (node : Node). length node.params) (get_or_default nodes k no_node d less))

  pub seen_count : (input : List Frame) (h : List Entry) (s : ℕ) → 1 ≤ s → length (seen_before (scene_in class_of kept) input h s) ≡ param_count kept.session.nodes
  seen_count input h zero some = absurd (omega (arith, some))
  seen_count input h (suc s) some = all_long (world (scene_in class_of kept) input h (suc s)) h s

  pub last_count : (input : List Frame) (h : List Entry) → length (last_values (scene_in class_of kept) input h) ≡ param_count kept.session.nodes
  last_count input h = all_long (after (scene_in class_of kept) input h kept.session.length) h kept.session.length

-- the parameters of a session, counted
parameters_long : (number : ℕ) (nodes : List Node) → length (parameters_from number nodes) ≡ param_count nodes
parameters_long number [] = refl
parameters_long number (node ∷ nodes) =
    let own : length (infos_at number node.params) ≡ length node.params = length-map node.params (λ (param : ParamInfo). parameter number param.id) in
    let both = length-append (infos_at number node.params) (parameters_from (suc number) nodes) in
    let rest = parameters_long (suc number) nodes in
    let sums = sum_by-cons (λ (n : Node). length n.params) node nodes in
    omega (arith, own, both, rest, sums)

pub parameters_count : (nodes : List Node) → length (all_parameters nodes) ≡ param_count nodes
parameters_count nodes = parameters_long 0 nodes

-- ---- answers

-- no more than entries
pub few_answers : EachIsAnswered → (scene : Scene) (input : List Frame) (h : List Entry) → length (answers scene input h) ≤ length h
few_answers answered scene input h =
    let all = ap length (answered scene input h) in
    let long = length-map (answers scene input h) (λ (answer : Answer). answer.sample) in
    let few = few_stops h in
    omega (arith, all, long, few)

answers_split : (scene : Scene) (input : List Frame) (h before first second : List Entry) → answers_from scene input h before (first ++ second) ≡ answers_from scene input h before first ++ answers_from scene input h (before ++ first) second
answers_split scene input h before [] second = ap (λ (es : List Entry). answers_from scene input h es second) (sym (append-nil before))
answers_split scene input h before (entry ∷ first) second =
    ap (λ (list : List Answer). answer_to scene input h before entry ++ list)
    (answers_split scene input h (before ++ entry ∷ []) first second ∙ ap (λ (es : List Entry). answers_from scene input h (before ++ entry ∷ []) first ++ answers_from scene input h es second) (append_assoc before (entry ∷ []) first))
    ∙ sym (append_assoc (answer_to scene input h before entry) (answers_from scene input h (before ++ entry ∷ []) first) (answers_from scene input h (before ++ entry ∷ first) second))

-- entries from a sample on change no answer before it
answers_before : (scene : Scene) (input : List Frame) (h more before later : List Entry) (at : ℕ) → All (λ entry. at ≤ entry.sample) more → All (λ entry. entry.sample < at) later
    → answers_from scene input (h ++ more) before later ≡ answers_from scene input h before later
answers_before scene input h more before [] at ahead earlier = refl
answers_before scene input h more before (entry ∷ later) at ahead earlier =
    let here = All-head (λ (e : Entry). e.sample < at) entry later earlier in
    let same : world scene input (h ++ more) entry.sample ≡ world scene input h entry.sample = world_ahead scene input h more entry.sample (λ k d below. let from = ahead k d below in omega (arith, from, here)) in
    ap (λ (w : ℕ → State). answers_by scene (after_messages scene entry.sample [] before w) (values_at scene before entry.sample) entry.sample entry.command ++ answers_from scene input (h ++ more) (before ++ entry ∷ []) later) same
    ∙ ap (λ (list : List Answer). answer_to scene input h before entry ++ list) (answers_before scene input h more (before ++ entry ∷ []) later at ahead (All-tail (λ (e : Entry). e.sample < at) entry later earlier))

-- the answers of an engine under further entries at its sample are those before and some more
pub answers_more : (class_of : ℕ → Class) (old : Kept) (h more : List Entry) → AreAt old.at more → IsUnderWay class_of old h → (input : List Frame) → Stands class_of old input h
    → (later : List Answer) × (answers (scene_in class_of old) input (h ++ more) ≡ old.answers ++ later)
answers_more class_of old h more are way input stands =
    let scene = scene_in class_of old in (
      answers_from scene input (h ++ more) h more,
      answers_split scene input (h ++ more) [] h more
          ∙ ap (λ (list : List Answer). list ++ answers_from scene input (h ++ more) h more) (answers_before scene input h more [] h old.at (at_is_from old.at more are) stands.before ∙ sym stands.answers),
    )

-- replies that were offered, and then those behind them
pub replied_more : (told replies : List Reply) (before after later : List Answer) → map answer_of told ≡ before → map answer_of replies ≡ after → after ≡ before ++ later → map answer_of (told ++ drop (length told) replies) ≡ after
replied_more told replies before after later old new more =
    let long : length before ≡ length told = ap length (sym old) ∙ length-map told answer_of in
    map-append answer_of told (drop (length told) replies)
    ∙ ap (λ (list : List Answer). list ++ map answer_of (drop (length told) replies)) old
    ∙ ap (λ (list : List Answer). before ++ list) (sym (drop-map answer_of (length told) replies) ∙ ap (drop (length told)) (new ∙ more) ∙ drop_at before later (length told) long)
    ∙ sym more

-- so many replies
pub replies_count : (replies : List Reply) (given : List Answer) → map answer_of replies ≡ given → length replies ≡ length given
replies_count replies given is = sym (length-map replies answer_of) ∙ ap length is

-- ---- a block over such an engine, whose samples came in

module _ (frames_are : FramesAreInPlace) (class_of : ℕ → Class) (old new : Kept) (entries : List Entry) (n channels : ℕ) (ins : List ℤ)
    (same : channels ≡ old.session.channels) (one_or_two : (channels ≡ 1) ⊎ (channels ≡ 2)) (long : length ins ≡ channels * n) where
  -- the input that came, with what the block brings
  abbrev with_block : (h : List Entry) → IsUnderWay class_of old h → List Frame
  with_block h way = way.input ++ (frames_of channels ins ++ [])

  stood : (h : List Entry) (way : IsUnderWay class_of old h) → Stands class_of old (with_block h way) h
  stood h way = way.stands (frames_of channels ins ++ [])

  given : (h : List Entry) (way : IsUnderWay class_of old h) → AreInput (scene_in class_of old) (with_block h way) old.at n ins
  given h way = behind frames_are (scene_in class_of old) way.input [] old.at n channels ins way.so_far same one_or_two long

  -- it has a value for each parameter
  pub values_count : 1 ≤ n → HasClasses class_of old
      → ((input : List Frame) (h : List Entry) → Stands class_of old input h → AreInput (scene_in class_of old) input old.at n ins → new.values ≡ seen_before (scene_in class_of old) input (h ++ entries) (old.at + n))
      → (h : List Entry) → IsUnderWay class_of old h → length new.values ≡ param_count old.session.nodes
  values_count some has values h way =
      ap length (values (with_block h way) h (stood h way) (given h way)) ∙ seen_count class_of old has (with_block h way) (h ++ entries) (old.at + n) (omega (arith, some))

  -- and answers that it gave stay
  pub answers_grow : AreAt old.at entries → IsSameEngine old new
      → ((input : List Frame) (h : List Entry) → Stands class_of old input h → AreInput (scene_in class_of old) input old.at n ins → Stands class_of new input (h ++ entries))
      → (h : List Entry) → IsUnderWay class_of old h → (later : List Answer) × (new.answers ≡ old.answers ++ later)
  answers_grow are engine stands h way =
      let input : List Frame = with_block h way in
      let more = answers_more class_of old h entries are way input (stood h way) in
      let now = stands input h (stood h way) (given h way) in
      (more.0, now.answers ∙ ap (λ (scene : Scene). answers scene input (h ++ entries)) (same_scene class_of old new engine) ∙ more.1)
