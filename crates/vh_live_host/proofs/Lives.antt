-- A band that was played, as what the command renders.
use Rattle.std.proofs.Common.{◌≡◌, ◌∙◌, ℕ, ◌+◌, ◌-◌, ◌*◌, ◌^◌, ◌<◌, ◌≤◌, List, [], ◌∷◌, length, map, replicate, sum, get_or, pos, Option, refl, sym, ap, subst, arith}
use Rattle.std.specs.Prelude.{All}
use Rattle.std.specs.List.{concat}
use Rattle.std.proofs.lemmas.List.{get_or-map, length-map, same_lists}
use Rattle.std.proofs.lemmas.List.Elements.{All-tail}
use Rattle.std.proofs.lemmas.List.FromFn.{get_or-map-range_with_len, length-map-range_with_len}
use Rattle.vh_counted.specs.declared.object.Counted.{Counted}
use Rattle.vh_counted.specs.declared.object.Opened.{Opened}
use Rattle.vh_counted.specs.Held.{value_of_opened, object_of}
use Rattle.vh_cut.specs.Cut.{pieces_of}
use Rattle.vh_num.specs.Frames.{Frame, frame_at}
use Rattle.vh_wav.specs.Frames.{silence}
use Rattle.vh_render.specs.declared.sound.Sound.{Sound}
use Rattle.vh_params.specs.declared.command.Reply.{Reply}
use Rattle.vh_params.specs.Nodes.{Node, no_node, node_at, nodes_of}
use Rattle.vh_plugin.specs.Class.{Class, Param, param_of}
use Rattle.vh_plugin.specs.Counts.{raised_by}
use Rattle.vh_preset.specs.Contents.{Contents}
use Rattle.vh_journal.specs.declared.entry.Entry.{Entry}
use Rattle.vh_session.specs.declared.session.Session.{Session}
use Rattle.vh_session.specs.Content.{Content}
use Rattle.vh_session.specs.Names.{content_of}
use Rattle.vh_legal.specs.Legal.{IsLegalFor, scripts_of}
use Rattle.vh_legal.proofs.Stops.{law_legal_is_cut_as_played}
use Rattle.vh_meaning.specs.Scene.{Scene, scene_of}
use Rattle.vh_meaning.specs.Rendering.{rendering, last_values, answers}
use Rattle.vh_instance.specs.declared.band.Band.{Band}
use Rattle.vh_instance.specs.Band.{ProcessorMeaning, ControllerMeaning, IsBand, by_node, code_at, objects_of, of_processors, of_openers}
use Rattle.vh_instance.specs.Presets.{mode_at}
use Rattle.vh_instance.specs.Firsts.{first_values}
use Rattle.vh_answers.specs.declared.status.Status.{Status}
use Rattle.vh_answers.specs.Outside.{Outside}
use Rattle.vh_answers.specs.Report.{answer_of}
use Rattle.vh_answers.specs.Steps.{EndsUnsaid}
use Rattle.vh_answers.proofs.Stages.{after, recounted}
use Rattle.vh_editors.specs.Scripts.{refused_by_each}
use Rattle.vh_live.specs.Bands.{scene_by}
use Rattle.vh_live.specs.Bands as bands
use Rattle.vh_host.specs.Known.{Known, plan_of, scene_under, modes_under}
use Rattle.vh_host.specs.Input.{Heard, IsHeard}
use Rattle.vh_host.specs.Commands.{piece_count}
use Rattle.vh_host.proofs.Calls.{few_pieces, called_each}
use Rattle.vh_live_host.specs.declared.done.Done.{Done}
use Rattle.vh_live_host.specs.Words.{Live}
use Rattle.vh_live_host.specs.Played.{Played, in_blocks}
use Rattle.vh_live_host.specs.Commands.{played_step, done_steps, heard_steps, calls_of}
use Rattle.vh_live_host.specs.Results.{AreOf, AreFirst, HaveParams}
use Rattle.vh_live_host.proofs.Finished.{few_frames, same_pieces}
use Rattle.vh_live_host.proofs.SameInput.{AreSame, same_rendering, same_last, same_answers}

-- ---- the controllers' parameters
mapped : {C : Type 0} (class_of : ℕ → Class) (code : C → ℕ) (edits : List (Opened C)) → map (λ edit. (class_of (code (value_of_opened edit))).params) edits ≡ map (λ (c : ℕ). (class_of c).params) (of_openers code edits)
mapped class_of code [] = refl
mapped class_of code (edit ∷ edits) = ap (λ (rest : List (List Param)). (class_of (code (value_of_opened edit))).params ∷ rest) (mapped class_of code edits)

pub have_params : {C : Type 0} (class_of : ℕ → Class) (code : C → ℕ) (edits : List (Opened C)) (nodes : List Node) (of : ℕ → ℕ) → of_openers code edits ≡ by_node (length nodes) of
    → ((node : ℕ) → node < length nodes → (class_of (of node)).params ≡ map param_of (node_at nodes node).params) → HaveParams class_of code edits nodes
have_params class_of code edits nodes of codes params =
    let f : ℕ → List Param = λ c. (class_of c).params in
    let g : Node → List Param = λ node. map param_of node.params in
    let codes_of : List ℕ = by_node (length nodes) of in
    let long : length codes_of ≡ length nodes = length-map-range_with_len of 0 (length nodes) in
    mapped class_of code edits ∙ ap (map f) codes
    ∙ same_lists (map f codes_of) (map g nodes) (length-map codes_of f ∙ long ∙ sym (length-map nodes g))
    (λ k d lt.
    let size = length-map codes_of f in
    let within : k < length codes_of = omega (arith, lt, size) in
    let there : k < length nodes = omega (arith, within, long) in
    get_or-map f codes_of k 0 d within ∙ ap f (get_or-map-range_with_len of 0 (length nodes) k k 0 there (omega arith)) ∙ params k there ∙ sym (get_or-map g nodes k no_node d there))

-- ---- the input
pub heard_of : {C : Type 0} (values : C → List ℕ) (session : Session) (scene other : Scene) (one input : List Frame) (done : Done C) → scene ≡ other → scene.channels ≡ session.channels
    → AreFirst session.channels session.length one input → AreOf values session scene one done → AreOf values session other input done
heard_of {C} values session scene other one input done is channels first are =
    let same : AreSame scene one input = λ s lt.
    let within : s < session.length = omega (arith, lt, are.samples) in
    subst (λ n. get_or one s (replicate n (pos 0)) ≡ get_or input s (replicate n (pos 0))) (sym channels) (first s within) in
    let here : AreOf values session scene input done = record {
      session_is = are.session_is;
      legal = are.legal;
      refused_are = are.refused_are;
      samples = are.samples;
      channels = are.channels;
      frames_are = are.frames_are ∙ same_rendering scene one input done.entries.now same;
      values_are = are.values_are ∙ same_last scene one input done.entries.now same;
      replies_are = are.replies_are ∙ same_answers scene one input done.entries.now same (λ k d lt. let e = are.legal.within k d lt in omega (arith, e, are.samples));
    } in
    subst (λ (s : Scene). AreOf values session s input done) is here

-- what playing left, as the rendering of a scene
pub are_of : {C : Type 0} (values : C → List ℕ) (session : Session) (scene : Scene) (input : List Frame) (done : Done C) (edits : List (Opened C)) (journal : List Entry) (refused : List ℕ) (replies : List Reply)
    → done.edits.now ≡ edits → done.entries.now ≡ journal → done.refused.now ≡ refused → done.replies.now ≡ replies
    → content_of done.session.now ≡ content_of session → scene.length ≡ session.length → done.frames.now.channels ≡ session.channels
    → IsLegalFor session journal → refused ≡ refused_by_each (nodes_of session.nodes) (scripts_of session)
    → done.frames.now.added ≡ rendering scene input journal → concat (of_openers values edits) ≡ last_values scene input journal → map answer_of replies ≡ answers scene input journal
    → AreOf values session scene input done
are_of {C} values session scene input done edits journal refused replies edits_are entries_are refusals replies_are session_is samples channels legal refused_are frames_are values_are answers_are = record {
  session_is = session_is;
  legal = subst (λ (es : List Entry). IsLegalFor session es) (sym entries_are) legal;
  refused_are = refusals ∙ refused_are;
  samples = samples;
  channels = channels;
  frames_are = frames_are ∙ ap (λ (es : List Entry). rendering scene input es) (sym entries_are);
  values_are = ap (λ (os : List (Opened C)). concat (of_openers values os)) edits_are ∙ values_are ∙ ap (λ (es : List Entry). last_values scene input es) (sym entries_are);
  replies_are = ap (map answer_of) replies_are ∙ answers_are ∙ ap (λ (es : List Entry). answers scene input es) (sym entries_are);
}

-- ---- the band
all_zero : (xs : List ℕ) → All (λ (n : ℕ). n ≡ 0) xs → xs ≡ replicate (length xs) 0
all_zero [] all = refl
all_zero (x ∷ xs) all = ap (λ (y : ℕ). y ∷ xs) (all 0 x (omega arith)) ∙ ap (λ (ys : List ℕ). 0 ∷ ys) (all_zero xs (All-tail (λ (n : ℕ). n ≡ 0) x xs all))

pub as_many : {T : Type 0} (objects others : List (Counted T)) → objects_of objects ≡ objects_of others → length objects ≡ length others
as_many objects others same = sym (length-map objects object_of) ∙ ap length same ∙ length-map others object_of

module _ {P C : Type 0} (processing : ProcessorMeaning P) (controlling : ControllerMeaning C) (known : Known) (presets : List (Option Contents)) (max : ℕ) (class_of : ℕ → Class) (same : known.class_of ≡ class_of)
    (block : Option ℕ) (content now : Content) (kept : now ≡ in_blocks block content) (band : Band P C) (is : IsBand processing controlling (plan_of known now presets max) band) where
  -- its scene is that of the session that was read, whose nodes show their values so
  pub scene_is : scene_by class_of processing.code now band ≡ scene_under known content presets
  scene_is =
      ap (λ (c : ℕ → Class). scene_of c (of_processors processing.code band.processors.items) band.first.items now) (sym same)
      ∙ ap (λ (codes : List ℕ). scene_of known.class_of codes band.first.items now) is.components.codes
      ∙ ap (λ (firsts : List ℕ). scene_of known.class_of (by_node (length now.nodes) (code_at (plan_of known now presets max))) firsts now) is.first
      ∙ ap (λ (c : Content). scene_of known.class_of (by_node (length c.nodes) (code_at (plan_of known c presets max))) (first_values (plan_of known c presets max)) c) kept

  pub modes_are : (modes : List ℕ) → modes ≡ of_openers controlling.mode band.edits.items → modes ≡ modes_under known content presets
  modes_are modes shown = shown ∙ is.controllers.modes ∙ ap (λ (c : Content). by_node (length c.nodes) (mode_at (plan_of known c presets max))) kept

  -- what its processors were called, once for each piece and once at the end
  pub called : (session : Session) → content_of session ≡ now → (journal : List Entry) → IsLegalFor session journal → (live : Live) → live.block ≡ block → (calls : List ℕ)
      → calls ≡ map (raised_by (length (pieces_of session.length (content_of session).pattern []) + 1)) (of_processors processing.calls band.processors.items) → sum calls ≡ calls_of live content journal
  called session read journal legal live asked calls raised =
      let before : List ℕ = of_processors processing.calls band.processors.items in
      let count : ℕ = length content.nodes in
      let times : ℕ = length (pieces_of session.length (content_of session).pattern []) + 1 in
      let many : length before ≡ count =
      length-map band.processors.items _ ∙ sym (length-map band.processors.items _) ∙ ap length is.components.codes ∙ length-map-range_with_len (code_at (plan_of known now presets max)) 0 (length now.nodes)
      ∙ ap (λ (c : Content). length c.nodes) kept in
      let zeros : before ≡ replicate count 0 = all_zero before is.components.calls ∙ ap (λ (n : ℕ). replicate n 0) many in
      let short : length (pieces_of session.length (content_of session).pattern []) ≤ session.length = few_pieces session.length (content_of session).pattern [] in
      let most : times ≤ 2 ^ 64 - 1 = let e : session.length ≤ 2 ^ 24 = few_frames session in omega (arith, short, e) in
      ap sum raised ∙ ap (λ (xs : List ℕ). sum (map (raised_by times) xs)) zeros ∙ called_each times count most
      ∙ ap (λ n. count * (n + 1)) (same_pieces session session block content refl (read ∙ kept) law_legal_is_cut_as_played journal legal (content_of session).pattern refl ∙ ap (λ b. piece_count b content journal) (sym asked))

-- what was written and said ends the rendering from its playing on
pub played_ends : (Counts : ℕ → Type 0) (o : Outside) (scene : Scene) (shown modes : List ℕ) (live : Live) (content : Content) (heard : Heard) (session : Session) (journal : List Entry) (answer : Status)
    → content_of session ≡ in_blocks live.block content → IsLegalFor session journal → shown ≡ modes → Counts (calls_of live content journal)
    → EndsUnsaid (λ calls. calls ≡ calls_of live content journal) o (done_steps scene shown live content heard (record { session = session; journal = journal })) answer
    → EndsUnsaid Counts o (heard_steps scene modes live content heard) answer
played_ends Counts o scene shown modes live content heard session journal answer read legal modes_are counts ends =
    let played : Played = record { session = session; journal = journal } in
    after _ Counts o Played (played_step live.block content) (done_steps scene modes live content heard) played answer (record { session = read; legal = legal })
    (subst (λ ms. EndsUnsaid Counts o (done_steps scene ms live content heard played) answer) modes_are
    (recounted _ (λ calls. calls ≡ calls_of live content journal) Counts o (done_steps scene shown live content heard played) answer (λ calls e. subst Counts (sym e) counts) ends))

-- ---- the session in other blocks
-- a band doesn't hang on how its session is cut
pub recut : {P C : Type 0} (processing : ProcessorMeaning P) (controlling : ControllerMeaning C) (known : Known) (presets : List (Option Contents)) (max : ℕ) (content : Content) (sizes : List ℕ) (band : Band P C)
    → IsBand processing controlling (plan_of known content presets max) band → IsBand processing controlling (plan_of known (record content { pattern = sizes }) presets max) band
recut processing controlling known presets max content sizes band is = record {
  suited = λ node lt. record { params = (is.suited node lt).params; side = (is.suited node lt).side };
  components = record {
    size = is.components.size;
    codes = is.components.codes;
    values = is.components.values;
    states = is.components.states;
    calls = is.components.calls;
    phases = is.components.phases;
    setups = λ k d lt. record { channels = (is.components.setups k d lt).channels; max = (is.components.setups k d lt).max };
    buses = is.components.buses;
    objects = is.components.objects;
    references = is.components.references;
    held = is.components.held;
  };
  controllers = record {
    size = is.controllers.size;
    codes = is.controllers.codes;
    values = is.controllers.values;
    modes = is.controllers.modes;
    objects = is.controllers.objects;
    references = is.controllers.references;
    editors = is.controllers.editors;
    holders = is.controllers.holders;
    held = is.controllers.held;
  };
  first = is.first;
}

module _ {P C : Type 0} (processing : ProcessorMeaning P) (controlling : ControllerMeaning C) (known : Known) (presets : List (Option Contents)) (max : ℕ) (content now : Content) (sizes : List ℕ)
    (kept : now ≡ record content { pattern = sizes }) (band : Band P C) (is : IsBand processing controlling (plan_of known content presets max) band) where
  pub recut_now : IsBand processing controlling (plan_of known now presets max) band
  recut_now = subst (λ (c : Content). IsBand processing controlling (plan_of known c presets max) band) (sym kept) (recut processing controlling known presets max content sizes band is)

  -- it is made for the session in these blocks
  pub made_for : (class_of controls : ℕ → Class) → known.class_of ≡ class_of → bands.HaveParams controls (plan_of known content presets max) → 1 ≤ max → max ≤ 8192 → All (λ size. size ≤ max) sizes
      → bands.IsMadeFor processing controlling class_of controls now band
  made_for class_of controls same params some most within =
      subst (λ (c : ℕ → Class). bands.IsMadeFor processing controlling c controls now band) same
      (subst (λ (c : Content). bands.IsMadeFor processing controlling known.class_of controls c band) (sym kept) (record {
        presets = presets;
        infos = known.infos;
        code = known.code;
        max = max;
        some = some;
        most = most;
        sizes = within;
        band_is = recut processing controlling known presets max content sizes band is;
        params = params;
      }))

-- frames that stand frame by frame are those that are heard
pub first_frames : (channels length : ℕ) (heard : Heard) (rate : ℕ) (sound : Sound) (left : List Frame) → IsHeard channels length heard rate sound
    → ((place : ℕ) (d : Frame) → place < sound.frames → get_or left place d ≡ frame_at sound.channels sound.frames sound.samples.items place) → AreFirst channels length left heard.frames
first_frames channels length heard rate sound left is stands = λ place lt.
    let within : place < sound.frames = let e = is.frames_are in omega (arith, lt, e) in
    stands place (silence channels) within ∙ ap (λ c. frame_at c sound.frames sound.samples.items place) is.channels_are
    ∙ ap (λ n. frame_at channels n sound.samples.items place) is.frames_are ∙ is.samples_are place lt
