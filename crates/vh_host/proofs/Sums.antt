-- A rendering that is drawn and summed.
use Rattle.std.proofs.Common.{◌≡◌, ◌∙◌, ℕ, ◌+◌, ◌*◌, ◌≤◌, List, [], length, map, sum, Option, Result, Ok, Err, ◌⊎◌, refl, sym, ap, subst, arith}
use Rattle.std.specs.Prelude.{All, IfOk, OnOk, nat_le}
use Rattle.std.proofs.lemmas.Bool.{and_parts, leb-true}
use Rattle.std.proofs.lemmas.List.Elements.{All-nil}
use Rattle.std.proofs.lemmas.List.FromFn.{length-map-range_with_len}
use Rattle.vh_cut.specs.Cut.{IsPattern, pieces_of}
use Rattle.vh_files.specs.Causes.{Rose}
use Rattle.vh_files.specs.Store.{SaysMore, SaysInPart}
use Rattle.vh_journal.specs.declared.entry.Entry.{Entry}
use Rattle.vh_journal_text.specs.Items.{items_of}
use Rattle.vh_journal_text.specs.Keeps.{AreEntries, AreThere}
use Rattle.vh_num.specs.Frames.{Frame}
use Rattle.vh_params.specs.declared.class.ClassInfo.{ClassInfo}
use Rattle.vh_params.specs.Nodes.{nodes_of}
use Rattle.vh_plugin.specs.Class.{Class}
use Rattle.vh_plugin.specs.Counts.{raised_by}
use Rattle.vh_preset.specs.Contents.{Contents}
use Rattle.vh_session.specs.Content.{Content}
use Rattle.vh_session.specs.Names.{content_of}
use Rattle.vh_meaning.specs.Scene.{Scene}
use Rattle.vh_meaning.specs.Rendering.{rendering, stops}
use Rattle.vh_engine.specs.Kept.{Kept, scene_in, Stands}
use Rattle.vh_engine.specs.Parts.{IsFresh}
use Rattle.vh_instance.specs.Band.{ProcessorMeaning, ControllerMeaning, IsBand}
use Rattle.vh_instance.specs.declared.band.Band.{Band}
use Rattle.vh_render.specs.declared.score.Score.{Score}
use Rattle.vh_render.specs.Playing.{IsInput, IsScoreOf, IsPlaying, piece_count}
use Rattle.vh_answers.specs.declared.status.Place.TheVariants.{Report}
use Rattle.vh_answers.specs.declared.status.Status.TheVariants as status
use Rattle.vh_answers.specs.Outside.{Outside}
use Rattle.vh_answers.specs.Steps.{EndsUnsaid, Done, Unsaid}
use Rattle.vh_gen.specs.declared.generator.Generated.{Generated}
use Rattle.vh_gen.specs.Draws.{behind}
use Rattle.vh_gen.specs.Generated.{frame_total, sizes, session_of, journal_of, before_input, input_of}
use Rattle.vh_gen.specs.Nodes as drawn_nodes
use Rattle.vh_gen.specs.Playing.{IsSummable}
use Rattle.vh_gen.specs.Sound.{HasDrawn, SoundIsInput}
use Rattle.vh_gen.specs.Summary.{gen_text, summary_text, level_sum}
use Rattle.vh_host.specs.Known.{Known, plan_of, scene_under}
use Rattle.vh_host.specs.Drawn.{IsDrawn}
use Rattle.vh_host.specs.Generated.{no_presets, drawn_scene, drawn_pieces, drawn_calls, gen_steps}
use Rattle.vh_host.proofs.Calls.{few_pieces, called_each}
use Rattle.vh_host.proofs.Entries.{may_follow}
use Rattle.vh_host.proofs.Ready.{bits_are, nodes_in, not_called, same_scene}

-- what follows where there is a value
pub if_ok : {A E : Type 0} (r : Result A E) (P Q : A → Type 0) → ((x : A) → P x → Q x) → IfOk r P → IfOk r Q
if_ok (Ok x) P Q onto holds = onto x holds
if_ok (Err e) P Q onto holds = tt

pub on_ok : {A E : Type 0} (r : Result A E) (P : Type 0) → P → OnOk r P
on_ok (Ok x) P holds = holds
on_ok (Err e) P holds = tt

-- and what holds of it
pub in_ok : {A E : Type 0} (r : Result A E) (x : A) (P : A → Type 0) → r ≡ Ok x → IfOk r P → P x
in_ok {A = A} {E = E} r x P is holds = subst (λ (q : Result A E). IfOk q P) is holds

pub on_it : {A E : Type 0} (r : Result A E) (x : A) (P : Type 0) → r ≡ Ok x → OnOk r P → P
on_it {A = A} {E = E} r x P is holds = subst (λ (q : Result A E). OnOk q P) is holds

-- what was drawn under the classes that a set tells
pub drawn_under : (told infos : List ClassInfo) (number : ℕ) (drawn : Generated) → told ≡ infos → content_of drawn.session ≡ session_of told number → drawn.entries.items ≡ journal_of told number
    → AreEntries (nodes_of drawn.session.nodes) drawn.session.length (items_of drawn.entries.items) → AreThere (nodes_of drawn.session.nodes) drawn.entries.items → HasDrawn (before_input told number) drawn.sound
    → IsDrawn infos number drawn
drawn_under told infos number drawn same session entries journal there sound =
    let from : IsDrawn told number drawn = record { session = session; entries = entries; journal = journal; there = there; sound = sound } in
    subst (λ (is : List ClassInfo). IsDrawn is number drawn) same from

-- instances that were made without a preset
pub made_plain : {P C : Type 0} (processing : ProcessorMeaning P) (controlling : ControllerMeaning C) (known : Known) (content : Content) (max : ℕ) (presets : List (Option Contents)) (band : Band P C)
    → presets ≡ no_presets content → IsBand processing controlling (plan_of known content presets max) band → IsBand processing controlling (plan_of known content (no_presets content) max) band
made_plain processing controlling known content max presets band none is = subst (λ (ps : List (Option Contents)). IsBand processing controlling (plan_of known content ps max) band) none is

-- the summary was said, or a part of it
pub all_said : (Counts : ℕ → Type 0) (o : Outside) (known : Known) (number : ℕ) (text : List ℕ) → text ≡ gen_text known.infos (drawn_scene known number) number
    → SaysMore o.said.text o.said_now.text text → Counts (drawn_calls known number) → EndsUnsaid Counts o (gen_steps known number) status.Ok
all_said Counts o known number text is says counts = Done refl (All-nil _, subst (λ (t : List ℕ). SaysMore o.said.text o.said_now.text t) is says, counts)

pub part_said : (Counts : ℕ → Type 0) (o : Outside) (known : Known) (number : ℕ) (text : List ℕ) → text ≡ gen_text known.infos (drawn_scene known number) number
    → SaysInPart o.said.text o.said_now.text text → Rose o.said.faults o.said_now.faults → EndsUnsaid Counts o (gen_steps known number) (status.WriteFault Report)
part_said Counts o known number text is part rose = Unsaid refl (All-nil _, subst (λ (t : List ℕ). SaysInPart o.said.text o.said_now.text t) is part) rose

-- what a drawn session is played by
pub record IsScoreFor (drawn : Generated) (score : Score) : Type 0 where
  pub length : score.length ≡ drawn.session.length
  pub sound : score.sound.now ≡ drawn.sound
  pub pattern : score.pattern.now ≡ sizes
  pub entries : score.entries.now ≡ drawn.entries.items
  pub stops_are : score.stops.now ≡ stops drawn.entries.items
  pub bits : score.bits ≡ drawn.session.bits
  pub rate : score.rate ≡ 48000

-- as many nodes as were drawn
nodes_long : (infos : List ClassInfo) (number : ℕ) → length (session_of infos number).nodes ≡ drawn_nodes.node_total number
nodes_long infos number =
    length-map-range_with_len (drawn_nodes.node_of infos (drawn_nodes.kinds_of number)) 0 (length (drawn_nodes.kinds_of number))
    ∙ length-map-range_with_len (drawn_nodes.kind_at (behind 1 number)) 0 (drawn_nodes.node_total number)

-- a drawn session's instances as they are made, of a set whose codes mean this, and an engine of it before its first sample
module _ {P C : Type 0} (processing : ProcessorMeaning P) (controlling : ControllerMeaning C) (known : Known) (class_of : ℕ → Class) (same : known.class_of ≡ class_of)
    (number : ℕ) (drawn : Generated) (from : IsDrawn known.infos number drawn) (max : ℕ) (band : Band P C)
    (is : IsBand processing controlling (plan_of known (content_of drawn.session) (no_presets (content_of drawn.session)) max) band)
    (answers : ℕ) (kept : Kept) (fresh : IsFresh class_of processing.code processing.calls (record { session = drawn.session; processors = band.processors; first = band.first }) max answers kept)
    (score : Score) (of_it : IsScoreFor drawn score) where
  abbrev content : Content
  content = content_of drawn.session

  abbrev presets : List (Option Contents)
  presets = no_presets content

  long : content.length ≡ frame_total
  long = ap (λ (c : Content). c.length) from.session

  stereo : content.channels ≡ 2
  stereo = ap (λ (c : Content). c.channels) from.session

  scene_is : scene_in class_of kept ≡ drawn_scene known number
  scene_is = same_scene processing controlling known presets class_of same drawn.session max band is answers kept fresh ∙ ap (λ (c : Content). scene_under known c (no_presets c)) from.session

  score_of : IsPattern score.pattern.now → All (λ (size : ℕ). size ≤ max) score.pattern.now → IsScoreOf kept score
  score_of pattern within = record {
    samples = of_it.length ∙ sym (ap (λ (c : Content). c.length) fresh.session);
    channels = ap (λ sound. sound.channels) of_it.sound ∙ from.sound.stereo ∙ sym stereo ∙ sym (ap (λ (c : Content). c.channels) fresh.session);
    frames = ap (λ sound. sound.frames) of_it.sound ∙ from.sound.count ∙ sym long ∙ sym of_it.length;
    bits = subst (λ (n : ℕ). (n ≡ 16) ⊎ (n ≡ 24)) (sym of_it.bits) (bits_are drawn.session);
    rate = let e = of_it.rate in omega (arith, e);
    pattern = pattern;
    sizes = subst (λ (m : ℕ). All (λ (size : ℕ). size ≤ m) score.pattern.now) (sym fresh.max_is) within;
    stops_are = of_it.stops_are ∙ sym (ap (λ (es : List Entry). stops es) of_it.entries);
  }

  -- it may be summed
  pub summable : IsPattern score.pattern.now → All (λ (size : ℕ). size ≤ max) score.pattern.now → answers ≡ length score.stops.now → IsSummable class_of kept score
  summable pattern within many = record {
    begins = fresh.at;
    going = fresh.flushed;
    score_of = score_of pattern within;
    entries =
        let few : length (stops score.entries.now) ≤ kept.room =
        let e = fresh.room in let s = ap length of_it.stops_are in let m = ap (λ (es : List Entry). length (stops es)) of_it.entries in omega (arith, e, s, m, many) in
        may_follow (scene_in class_of kept) content.nodes score.length kept.room score.entries.now
        (nodes_in processing controlling known presets class_of same drawn.session max band is answers kept fresh)
        (subst (λ (n : ℕ). AreEntries content.nodes n (items_of score.entries.now)) (sym of_it.length)
        (subst (λ (es : List Entry). AreEntries content.nodes drawn.session.length (items_of es)) (sym of_it.entries) from.journal)) few;
    stereo = ap (λ (c : Content). c.channels) fresh.session ∙ stereo;
  }

  -- it plays the input that was drawn
  plays : SoundIsInput → ((input : List Frame) → Stands class_of kept input []) → IsPlaying class_of kept score.sound.now (input_of known.infos number) []
  plays law stands = record {
    stands = stands (input_of known.infos number);
    sound_is = subst (λ sound. IsInput (scene_in class_of kept) (input_of known.infos number) sound) (sym of_it.sound)
        (law (before_input known.infos number) (scene_in class_of kept) drawn.sound from.sound
        (ap (λ (c : Content). c.channels) fresh.session ∙ stereo) (ap (λ (c : Content). c.length) fresh.session ∙ long));
  }

  pieces_are : piece_count score ≡ drawn_pieces known number
  pieces_are =
      ap (λ n. length (pieces_of n score.pattern.now score.stops.now)) (of_it.length ∙ long)
      ∙ ap (λ (pattern : List ℕ). length (pieces_of frame_total pattern score.stops.now)) of_it.pattern
      ∙ ap (λ (at : List ℕ). length (pieces_of frame_total sizes at)) (of_it.stops_are ∙ ap (λ (es : List Entry). stops es) from.entries)

  -- the summary is the number's
  pub text_is : (text : List ℕ) (nodes entries pieces total : ℕ) → SoundIsInput → ((input : List Frame) → Stands class_of kept input [])
      → text ≡ summary_text number nodes entries pieces total
      → nodes ≡ length content.nodes → entries ≡ length drawn.entries.items → pieces ≡ piece_count score
      → ((input : List Frame) → IsPlaying class_of kept score.sound.now input [] → total ≡ level_sum (rendering (scene_in class_of kept) input score.entries.now))
      → text ≡ gen_text known.infos (drawn_scene known number) number
  unfolding gen_text
  text_is text nodes entries pieces total law stands says nodes_are entries_are count sums =
      let scene : Scene = drawn_scene known number in
      let input : List Frame = input_of known.infos number in
      let journal : List Entry = journal_of known.infos number in
      let of_nodes : nodes ≡ drawn_nodes.node_total number = nodes_are ∙ ap (λ (c : Content). length c.nodes) from.session ∙ nodes_long known.infos number in
      let of_entries : entries ≡ length journal = entries_are ∙ ap length from.entries in
      let of_pieces : pieces ≡ length (pieces_of scene.length sizes (stops journal)) = count ∙ pieces_are in
      let of_total : total ≡ level_sum (rendering scene input journal) =
      sums input (plays law stands) ∙ ap (λ (s : Scene). level_sum (rendering s input score.entries.now)) scene_is ∙ ap (λ (es : List Entry). level_sum (rendering scene input es)) (of_it.entries ∙ from.entries) in
      says ∙ ap (λ n. summary_text number n entries pieces total) of_nodes
      ∙ ap (λ n. summary_text number (drawn_nodes.node_total number) n pieces total) of_entries
      ∙ ap (λ n. summary_text number (drawn_nodes.node_total number) (length journal) n total) of_pieces
      ∙ ap (λ n. summary_text number (drawn_nodes.node_total number) (length journal) (length (pieces_of scene.length sizes (stops journal))) n) of_total

  -- and its processors were called as often
  pub calls_are : (calls : List ℕ) → calls ≡ map (raised_by (piece_count score + 1)) kept.calls → sum calls ≡ drawn_calls known number
  calls_are calls raised_is =
      let few : piece_count score ≤ score.length = few_pieces score.length score.pattern.now score.stops.now in
      let short : drawn.session.length ≤ 16777216 = leb-true drawn.session.length 16777216 (and_parts (nat_le 0 drawn.session.length) (nat_le drawn.session.length 16777216) drawn.session.keeps.frames).1 in
      let samples = of_it.length in
      let nodes : length kept.session.nodes ≡ length (session_of known.infos number).nodes = ap (λ (c : Content). length c.nodes) (fresh.session ∙ from.session) in
      ap sum raised_is
      ∙ ap (λ (c : List ℕ). sum (map (raised_by (piece_count score + 1)) c)) (not_called processing controlling known presets class_of same drawn.session max band is answers kept fresh)
      ∙ called_each (piece_count score + 1) (length kept.session.nodes) (omega (arith, few, samples, short))
      ∙ ap (λ k. k * (piece_count score + 1)) nodes ∙ ap (λ k. length (session_of known.infos number).nodes * (k + 1)) pieces_are
