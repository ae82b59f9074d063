-- An engine of a band, and what it is to play.
use Rattle.std.proofs.Common.{◌≡◌, ◌∙◌, ℕ, ◌≤◌, true, false, eqb, Option, List, [], ◌∷◌, length, map, replicate, ◌⊎◌, inl, inr, refl, sym, ap, subst, arith}
use Rattle.std.specs.Prelude.{All, Vec, ◌||◌}
use Rattle.std.proofs.lemmas.Bool.{eqb-true}
use Rattle.std.proofs.lemmas.List.{length-map}
use Rattle.std.proofs.lemmas.List.Elements.{All-tail}
use Rattle.std.proofs.lemmas.List.FromFn.{length-map-range_with_len}
use Rattle.std.specs.declared.alloc.Global.{Global}
use Rattle.vh_component.specs.declared.states.Processing.{Processing}
use Rattle.vh_component.specs.States.{of_processing}
use Rattle.vh_counted.specs.Held.{value_of_opened}
use Rattle.vh_counted.specs.declared.numbers.Numbers.{Numbers}
use Rattle.vh_counted.specs.declared.object.Object.{Object}
use Rattle.vh_cut.specs.Cut.{IsPattern}
use Rattle.vh_journal.specs.declared.entry.Entry.{Entry}
use Rattle.vh_journal_text.specs.Items.{items_of}
use Rattle.vh_journal_text.specs.Keeps.{AreEntries}
use Rattle.vh_plugin.specs.Class.{Class}
use Rattle.vh_preset.specs.Contents.{Contents}
use Rattle.vh_session.specs.declared.session.Session.{Session}
use Rattle.vh_session.specs.Content.{Content}
use Rattle.vh_session.specs.Lines.{is_bits}
use Rattle.vh_session.specs.Names.{content_of}
use Rattle.vh_meaning.specs.Scene.{Scene, scene_of, node_count}
use Rattle.vh_meaning.specs.Rendering.{stops}
use Rattle.vh_engine.specs.declared.parts.Parts.{Parts}
use Rattle.vh_engine.specs.Kept.{Kept, scene_in}
use Rattle.vh_engine.specs.Parts.{AreParts, IsFresh}
use Rattle.vh_engine.specs.Staged.{holders_of}
use Rattle.vh_instance.specs.Band.{ProcessorMeaning, ControllerMeaning, IsBand, IsHeld, by_node, code_at, objects_of, of_processors, of_openers}
use Rattle.vh_instance.specs.Seats.{Seat, processor_seat, AreHeld}
use Rattle.vh_instance.specs.Presets.{mode_at}
use Rattle.vh_instance.specs.Firsts.{first_values}
use Rattle.vh_instance.specs.declared.band.Band.{Band}
use Rattle.vh_render.specs.declared.room.Room.{Room}
use Rattle.vh_render.specs.declared.score.Score.{Score}
use Rattle.vh_render.specs.declared.sound.Sound.{Sound}
use Rattle.vh_render.specs.Playing.{HasRoom, IsScoreOf, IsPlayable}
use Rattle.vh_answers.specs.Outside.{Store}
use Rattle.vh_host.specs.Words.{Render}
use Rattle.vh_host.specs.Known.{Known, plan_of, codes_of, scene_under, modes_under}
use Rattle.vh_host.specs.Input.{Heard, IsHeard}
use Rattle.vh_host.specs.Commands.{pattern_of}
use Rattle.vh_host.specs.Scores.{IsScore}
use Rattle.vh_host.specs.declared.material.Material.{Material}
use Rattle.vh_host.specs.Material.{IsGathered}
use Rattle.vh_host.proofs.Bands.{has_nodes, are_parts}
use Rattle.vh_host.proofs.Entries.{HasNodes, may_follow}

-- ---- sessions
two_bits : (n : ℕ) → is_bits n ≡ true → (n ≡ 16) ⊎ (n ≡ 24)
two_bits n is = elim (eqb n 16) as (λ b. eqb n 16 ≡ b → b || eqb n 24 ≡ true → (n ≡ 16) ⊎ (n ≡ 24)) [
  | true ↦ λ one other. inl (eqb-true n 16 one)
  | false ↦ λ one other. inr (eqb-true n 24 other)
] refl is

-- 16 bits or 24
pub bits_are : (session : Session) → (session.bits ≡ 16) ⊎ (session.bits ≡ 24)
bits_are session = two_bits session.bits session.keeps.bits

-- ---- lists of zeros
all_zero : (xs : List ℕ) → All (λ (n : ℕ). n ≡ 0) xs → xs ≡ replicate (length xs) 0
all_zero [] all = refl
all_zero (x ∷ xs) all = ap (λ (y : ℕ). y ∷ xs) (all 0 x (omega arith)) ∙ ap (λ (ys : List ℕ). 0 ∷ ys) (all_zero xs (All-tail (λ (n : ℕ). n ≡ 0) x xs all))

-- ---- who holds the objects of a band
abbrev seat_of : Object × Numbers → Seat
seat_of holder = record { object = holder.0; numbers = holder.1 }

seats_by : {P : Type 0} (processors : List (Processing P)) → map processor_seat processors ≡ map seat_of (holders_of processors)
seats_by [] = refl
seats_by (processor ∷ processors) = ap (λ (l : List Seat). processor_seat processor ∷ l) (seats_by processors)

-- where others have what its processors had, a band is held as it was
pub still_held : {P C : Type 0} (band : Band P C) (processors : Vec (Processing P) Global) (first : Vec ℕ Global) → IsHeld band → holders_of processors.items ≡ holders_of band.processors.items
    → IsHeld (record { components = band.components; controllers = band.controllers; processors = processors; edits = band.edits; holders = band.holders; first = first })
still_held band processors first held same = record {
  components = subst (λ (l : List Seat). AreHeld (objects_of band.components.items) (l ∷ [])) (seats_by band.processors.items ∙ ap (map seat_of) (sym same) ∙ sym (seats_by processors.items)) held.components;
  controllers = held.controllers;
}

-- ---- a score
-- what a session is played by: the sizes of its blocks, and what was read
pub record IsOf (session : Session) (sizes : List ℕ) (material : Material) (score : Score) : Type 0 where
  pub length : score.length ≡ session.length
  pub sound : score.sound.now ≡ material.input.sound
  pub pattern : score.pattern.now ≡ sizes
  pub entries : score.entries.now ≡ material.entries.items
  pub stops : score.stops.now ≡ material.stops.items
  pub bits : score.bits ≡ session.bits
  pub rate : score.rate ≡ material.input.rate

-- a band as it is made, of a set whose codes mean this
module _ {P C : Type 0} (processing : ProcessorMeaning P) (controlling : ControllerMeaning C) (known : Known) (presets : List (Option Contents)) (class_of : ℕ → Class) (same : known.class_of ≡ class_of)
    (session : Session) (max : ℕ) (band : Band P C) (is : IsBand processing controlling (plan_of known (content_of session) presets max) band) where
  abbrev content : Content
  content = content_of session

  abbrev parts : Parts P
  parts = record { session = session; processors = band.processors; first = band.first }

  pub parts_of : AreParts class_of processing.code processing.state processing.values processing.phase processing.setup parts max
  parts_of = subst (λ (c : ℕ → Class). AreParts c processing.code processing.state processing.values processing.phase processing.setup parts max) same (are_parts processing controlling known session presets max band is)

  pub held : IsHeld band
  held = record { components = is.components.held; controllers = is.controllers.held }

  -- its controllers show their values as its presets say
  pub modes_are : (modes : List ℕ) → modes ≡ of_openers controlling.mode band.edits.items → modes ≡ modes_under known content presets
  modes_are modes same = same ∙ is.controllers.modes

  as_many : {A : Type 0} (meant : P → A) (of : ℕ → A) → of_processors meant band.processors.items ≡ by_node (length content.nodes) of → length band.processors.items ≡ length content.nodes
  as_many meant of same = sym (length-map band.processors.items (λ (x : Processing P). meant (value_of_opened (of_processing x)))) ∙ ap length same ∙ length-map-range_with_len of 0 (length content.nodes)

  -- an engine of it, before its first sample
  module _ (answers : ℕ) (kept : Kept) (fresh : IsFresh class_of processing.code processing.calls parts max answers kept) where
    -- its scene is the session's
    pub same_scene : scene_in class_of kept ≡ scene_under known content presets
    same_scene =
        ap (λ (c : ℕ → Class). scene_of c kept.codes kept.firsts kept.session) (sym same)
        ∙ ap (λ (codes : List ℕ). scene_of known.class_of codes kept.firsts kept.session) (fresh.codes ∙ is.components.codes)
        ∙ ap (λ (firsts : List ℕ). scene_of known.class_of (codes_of known content) firsts kept.session) (fresh.firsts ∙ is.first)
        ∙ ap (λ (c : Content). scene_of known.class_of (codes_of known content) (first_values (plan_of known content presets max)) c) fresh.session

    -- its processors were not called yet
    pub not_called : kept.calls ≡ replicate (length kept.session.nodes) 0
    not_called =
        let calls : List ℕ = of_processors processing.calls band.processors.items in
        let long : length calls ≡ length kept.session.nodes =
        length-map band.processors.items (λ (x : Processing P). processing.calls (value_of_opened (of_processing x)))
        ∙ as_many processing.code (code_at (plan_of known content presets max)) is.components.codes ∙ sym (ap (λ (c : Content). length c.nodes) fresh.session) in
        fresh.calls_are ∙ all_zero calls is.components.calls ∙ ap (λ (n : ℕ). replicate n 0) long

    -- its classes have the session's parameters
    pub nodes_in : HasNodes (scene_in class_of kept) content.nodes
    nodes_in = subst (λ (scene : Scene). HasNodes scene content.nodes) (sym same_scene) (has_nodes (plan_of known content presets max) is.suited)

    pub nodes_there : node_count (scene_in class_of kept) ≡ length kept.session.nodes
    nodes_there = nodes_in.count ∙ sym (ap (λ (c : Content). length c.nodes) fresh.session)

    pub modes_there : (modes : List ℕ) → modes ≡ of_openers controlling.mode band.edits.items → length modes ≡ length kept.session.nodes
    modes_there modes same = ap length (modes_are modes same) ∙ length-map-range_with_len (mode_at (plan_of known content presets max)) 0 (length content.nodes) ∙ sym (ap (λ (c : Content). length c.nodes) fresh.session)

    -- what was read is what it is to play
    module _ (old : Store) (asked : Render) (heard : Heard) (sizes : List ℕ) (material : Material) (score : Score) (gathered : IsGathered old asked content heard material) (of_it : IsOf session sizes material score) where
      pub is_score : (output : List ℕ) → output ≡ asked.output → sizes ≡ pattern_of asked.block content → IsScore asked kept.session heard output score
      is_score output named sizes_are = subst (λ (c : Content). IsScore asked c heard output score) (sym fresh.session) (record {
        output_is = named;
        pattern = of_it.pattern ∙ sizes_are;
        bits = of_it.bits;
        sound = subst (λ (rate : ℕ). IsHeard content.channels content.length heard rate score.sound.now) (sym of_it.rate)
            (subst (λ (sound : Sound). IsHeard content.channels content.length heard material.input.rate sound) (sym of_it.sound) gathered.sound);
      })

      score_of : IsPattern sizes → All (λ (size : ℕ). size ≤ max) sizes → IsScoreOf kept score
      score_of pattern within = record {
        samples = of_it.length ∙ sym (ap (λ (c : Content). c.length) fresh.session);
        channels = ap (λ (sound : Sound). sound.channels) of_it.sound ∙ gathered.sound.channels_are ∙ sym (ap (λ (c : Content). c.channels) fresh.session);
        frames = ap (λ (sound : Sound). sound.frames) of_it.sound ∙ gathered.sound.frames_are ∙ sym of_it.length;
        bits = subst (λ (n : ℕ). (n ≡ 16) ⊎ (n ≡ 24)) (sym of_it.bits) (bits_are session);
        rate = let e = of_it.rate in let most = gathered.sound.rate_most in omega (arith, e, most);
        pattern = subst IsPattern (sym of_it.pattern) pattern;
        sizes = subst (λ (m : ℕ). All (λ (size : ℕ). size ≤ m) score.pattern.now) (sym fresh.max_is) (subst (λ (xs : List ℕ). All (λ (size : ℕ). size ≤ max) xs) (sym of_it.pattern) within);
        stops_are = of_it.stops ∙ gathered.stops_are ∙ sym (ap (λ (es : List Entry). stops es) of_it.entries);
      }

      pub playable : (room : Room) → IsPattern sizes → All (λ (size : ℕ). size ≤ max) sizes → AreEntries content.nodes session.length (items_of material.entries.items) → answers ≡ length material.stops.items
          → HasRoom session.channels max room → IsPlayable class_of kept score room
      playable room pattern within are many has = record {
        begins = fresh.at;
        going = fresh.flushed;
        score_of = score_of pattern within;
        entries =
            let few : length (stops score.entries.now) ≤ kept.room =
            let e = fresh.room in let s = ap length gathered.stops_are in let m = ap (λ (es : List Entry). length (stops es)) of_it.entries in omega (arith, e, s, m, many) in
            may_follow (scene_in class_of kept) content.nodes score.length kept.room score.entries.now nodes_in
            (subst (λ (n : ℕ). AreEntries content.nodes n (items_of score.entries.now)) (sym of_it.length) (subst (λ (es : List Entry). AreEntries content.nodes session.length (items_of es)) (sym of_it.entries) are)) few;
        space = subst (λ (m : ℕ). HasRoom kept.session.channels m room) (sym fresh.max_is) (subst (λ (c : Content). HasRoom c.channels max room) (sym fresh.session) has);
      }
