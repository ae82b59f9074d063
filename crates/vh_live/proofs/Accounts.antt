-- What playing a session comes to, from what its parts came to.
use Rattle.std.proofs.Common.{◌≡◌, ◌∙◌, ◌≢◌, ℕ, ◌+◌, List, [], ◌∷◌, ◌++◌, length, map, refl, sym, ap, subst}
use Rattle.std.specs.Prelude.{All, Result, Ok, Err, OnOk, OnErr}
use Rattle.vh_component.specs.declared.setup.Phase.TheVariants.{Processing as AtProcessing}
use Rattle.vh_cut.specs.Cut.{pieces_of}
use Rattle.vh_files.specs.Causes.{Rose}
use Rattle.vh_num.specs.Frames.{Frame}
use Rattle.vh_params.specs.Nodes.{Node, nodes_of}
use Rattle.vh_params.specs.declared.command.Word.{Word}
use Rattle.vh_plugin.specs.Class.{Class}
use Rattle.vh_plugin.specs.Counts.{raised, raised_by}
use Rattle.vh_journal.specs.declared.entry.Entry.{Entry}
use Rattle.vh_session.specs.declared.session.Session.{Session}
use Rattle.vh_session.specs.Content.{Content}
use Rattle.vh_session.specs.Names.{content_of}
use Rattle.vh_meaning.specs.Scene.{Scene, scene_of}
use Rattle.vh_meaning.specs.Rendering.{rendering, answers, last_values}
use Rattle.vh_legal.specs.Legal.{IsLegal, IsLegalFor, scripts_of}
use Rattle.vh_engine.specs.Kept.{scene_in}
use Rattle.vh_engine.specs.Staged.{answer_of}
use Rattle.vh_engine.proofs.Rooms.{same_scene}
use Rattle.vh_wav.specs.declared.stream.Frames as frames
use Rattle.vh_instance.specs.declared.band.Band.{Band}
use Rattle.vh_instance.specs.Band.{ProcessorMeaning, ControllerMeaning, IsHeld, of_processors, of_openers, objects_of}
use Rattle.vh_instance.specs.Seats.{row_seats, processor_seat, AreHeld}
use Rattle.vh_stage.specs.declared.stopped.Stopped.{Stopped}
use Rattle.vh_stage.specs.declared.stopped.Stopped.TheVariants.{ReadFailed, WriteFailed, Unfit}
use Rattle.vh_stage.specs.Parameters.{all_parameters}
use Rattle.vh_stage.specs.Playing.{AreAt, IsHeard, IsRead}
use Rattle.vh_stage.specs.Staged.{AreAtBlocks, IsTold, parameters_in}
use Rattle.vh_editors.specs.Scripts.{refused_by_each}
use Rattle.vh_hands.specs.Hands.{AreInHand}
use Rattle.vh_hands.specs.Following.{HaveParams, IsFollowing}
use Rattle.vh_live.specs.declared.outcome.Outcome.TheVariants.{Done, ReadFailed as NotRead, WriteFailed as NotAdded}
use Rattle.vh_live.specs.declared.outcome.Played.{Played}
use Rattle.vh_live.specs.declared.run.Run.{Run}
use Rattle.vh_live.specs.Bands.{IsMadeFor, AreSameComponents, AreSameControllers, scene_by, values_in}
use Rattle.vh_live.specs.Heard.{IsFrontOf}
use Rattle.vh_live.specs.Runs.{IsSetUp, AreLeft, IsSounded, IsWorked}
use Rattle.vh_live.specs.Closing.{IsClosed, outcome_of}
use Rattle.vh_live.proofs.Banded.{firsts_of_controllers, have_params, still_held}
use Rattle.vh_live.proofs.Calls.{called_at_end}
use Rattle.vh_live.proofs.Heard.{heard_at_first, read_at_first, all_written, front_whole, front_on}

-- ---- how it ended
done_is_ok : (result : Result Unit Stopped) → outcome_of result ≡ Done → result ≡ Ok tt
done_is_ok (Ok done) is = refl
done_is_ok (Err ReadFailed) is = absurd cc
done_is_ok (Err WriteFailed) is = absurd cc
done_is_ok (Err Unfit) is = absurd cc

not_read : (result : Result Unit Stopped) → outcome_of result ≡ NotRead → result ≡ Err ReadFailed
not_read (Ok done) is = absurd cc
not_read (Err ReadFailed) is = refl
not_read (Err WriteFailed) is = absurd cc
not_read (Err Unfit) is = absurd cc

not_added : (result : Result Unit Stopped) → outcome_of result ≡ NotAdded → result ≡ Err WriteFailed
not_added (Ok done) is = absurd cc
not_added (Err ReadFailed) is = absurd cc
not_added (Err WriteFailed) is = refl
not_added (Err Unfit) is = absurd cc

at_ok : (result : Result Unit Stopped) (P : Type 0) → result ≡ Ok tt → OnOk result P → P
at_ok (Ok done) P is holds = holds
at_ok (Err stopped) P is holds = absurd cc

-- what holds at either
either : (result : Result Unit Stopped) (P : Type 0) → (result ≡ Ok tt → P) → OnErr result P → P
either (Ok done) P ok err = ok refl
either (Err stopped) P ok err = err

-- what follows of what holds where it stopped
stopped_at : (result : Result Unit Stopped) (P : Type 0) {Q : Type 0} → (Q → P) → OnErr result Q → OnErr result P
stopped_at (Ok done) P from holds = holds
stopped_at (Err stopped) P from holds = from holds

-- ---- one session for another
pub legal_in : (nodes nodes' : List Node) (samples samples' : ℕ) (pattern pattern' : List ℕ) (scripts scripts' : List (List Word)) (journal : List Entry)
    → nodes ≡ nodes' → samples ≡ samples' → pattern ≡ pattern' → scripts ≡ scripts' → IsLegal nodes samples pattern scripts journal → IsLegal nodes' samples' pattern' scripts' journal
legal_in nodes nodes' samples samples' pattern pattern' scripts scripts' journal n s p c legal =
    subst (λ (x : List Node). IsLegal x samples' pattern' scripts' journal) n
    (subst (λ (x : ℕ). IsLegal nodes x pattern' scripts' journal) s
    (subst (λ (x : List ℕ). IsLegal nodes samples x scripts' journal) p
    (subst (λ (x : List (List Word)). IsLegal nodes samples pattern x journal) c legal)))

-- What a session that is played by a band comes to: a run is set up, its blocks are played beside what works, and it is
-- taken apart.
module _ {P C I : Type 0} (g : frames.Ghosts I) (processed_by controlled_by : ℕ → Class) (processing : ProcessorMeaning P) (controlling : ControllerMeaning C) (session : Session) (band : Band P C)
    (sound sound_now : I) (run now : Run P C) (result : Result Unit Stopped) (played : Played P C) where
  pub record IsAccount : Type 0 where
    pub made : IsMadeFor processing controlling processed_by controlled_by (content_of session) band
    pub set : IsSetUp processed_by controlled_by processing controlling session band run
    pub sounded : IsSounded processed_by g sound sound_now run.sizes.items run.stage now.stage run.drain now.drain result
    pub worked : IsWorked controlled_by controlling run.editors now.editors run.hands now.hands
    pub components : now.components ≡ run.components
    pub left : AreLeft g sound sound_now result
    pub closed : IsClosed processed_by controlled_by processing controlling now result played

  abbrev scene : Scene
  scene = scene_by processed_by processing.code (content_of session) band

  module _ (account : IsAccount) where
    journal : List Entry
    journal = played.journal.items

    -- the engine keeps the session's scene
    begun_scene : scene_in processed_by run.stage.engine ≡ scene
    begun_scene =
        let fresh = account.set.fresh in
        ap (λ (codes : List ℕ). scene_of processed_by codes run.stage.engine.firsts run.stage.engine.session) fresh.codes
        ∙ ap (λ (firsts : List ℕ). scene_of processed_by (of_processors processing.code band.processors.items) firsts run.stage.engine.session) fresh.firsts
        ∙ ap (λ (content : Content). scene_of processed_by (of_processors processing.code band.processors.items) band.first.items content) fresh.session

    ended_scene : scene_in processed_by now.stage.engine ≡ scene
    ended_scene = same_scene processed_by run.stage.engine now.stage.engine account.sounded.same ∙ begun_scene

    session_is : now.stage.engine.session ≡ content_of session
    session_is = account.sounded.same.session ∙ account.set.fresh.session

    length_is : now.stage.engine.session.length ≡ session.length
    length_is = ap (λ (content : Content). content.length) session_is

    begun_length : run.stage.engine.session.length ≡ session.length
    begun_length = ap (λ (content : Content). content.length) account.set.fresh.session

    nodes_are : now.editors.nodes ≡ nodes_of session.nodes
    nodes_are = ap (λ e. e.nodes) account.worked.editors_are ∙ ap (λ e. e.nodes) account.set.editors

    scripts_are : now.editors.scripts ≡ scripts_of session
    scripts_are = ap (λ e. e.scripts) account.worked.editors_are ∙ ap (λ e. e.scripts) account.set.editors

    blocks : AreAtBlocks now.stage.engine.session.length run.sizes.items now.stage.journal.items
    blocks = subst (λ (n : ℕ). AreAtBlocks n run.sizes.items now.stage.journal.items) (begun_length ∙ sym length_is) account.sounded.blocks

    more_at : AreAt run.stage.engine.session.length account.closed.gathered.more
    more_at = subst (λ (n : ℕ). AreAt n account.closed.gathered.more) (length_is ∙ sym begun_length) account.closed.gathered.at

    -- where it is done the blocks came to the length
    ok : played.outcome ≡ Done → result ≡ Ok tt
    ok done = done_is_ok result (sym account.closed.outcome ∙ done)

    -- The journal is legal.
    pub legal : IsLegalFor session played.journal.items
    legal = legal_in now.editors.nodes (nodes_of session.nodes) now.stage.engine.session.length session.length run.sizes.items (content_of session).pattern now.editors.scripts (scripts_of session) played.journal.items
        nodes_are length_is account.set.sizes scripts_are (account.closed.gathered.legal run.sizes.items blocks)

    pub refused : played.refused.items ≡ refused_by_each (nodes_of session.nodes) (scripts_of session)
    refused = account.closed.gathered.refused_are ∙ ap (λ (nodes : List Node). refused_by_each nodes now.editors.scripts) nodes_are ∙ ap (refused_by_each (nodes_of session.nodes)) scripts_are

    -- ---- what was written
    module _ (input before : List Frame) (reads : g.reads sound input) (wrote : g.wrote sound before) where
      at_first : IsHeard g.reads g.wrote processed_by run.stage.engine sound input before []
      at_first = heard_at_first g.reads g.wrote processed_by run.stage.engine sound account.set.fresh.at account.set.stands input before reads wrote

      all_rendered : result ≡ Ok tt → g.wrote sound_now (before ++ rendering scene input played.journal.items)
      all_rendered is =
          let heard = at_ok result _ is (account.sounded.heard input before at_first) in
          let ends = at_ok result _ is account.sounded.at in
          subst (λ (rendered : List Frame). g.wrote sound_now (before ++ rendered))
          (ap (λ (s : Scene). rendering s input (now.stage.journal.items ++ account.closed.gathered.more)) begun_scene ∙ ap (rendering scene input) (sym account.closed.gathered.added))
          (all_written g.reads g.wrote processed_by run.stage.engine now.stage.engine sound_now input before now.stage.journal.items account.closed.gathered.more account.sounded.same ends more_at heard)

      pub sound_is : played.outcome ≡ Done → g.wrote sound_now (before ++ rendering scene input played.journal.items)
      sound_is done = all_rendered (ok done)

      pub front_is : IsFrontOf g.wrote sound_now (g.cut sound_now) before (rendering scene input played.journal.items)
      front_is =
          let F : Type 0 = IsFrontOf g.wrote sound_now (g.cut sound_now) before (rendering scene input played.journal.items) in
          either result F
          (λ is. front_whole g.wrote sound_now (g.cut sound_now) before (rendering scene input played.journal.items) (at_ok result _ is account.left.uncut) (all_rendered is))
          (stopped_at result F (λ front.
          subst (λ (rendered : List Frame). IsFrontOf g.wrote sound_now (g.cut sound_now) before rendered)
          (ap (λ (s : Scene). rendering s input (now.stage.journal.items ++ account.closed.gathered.more)) begun_scene ∙ ap (rendering scene input) (sym account.closed.gathered.added))
          (front_on g.wrote (scene_in processed_by run.stage.engine) sound_now (g.cut sound_now) input before now.stage.journal.items account.closed.gathered.more run.stage.engine.session.length refl more_at front))
          (account.sounded.front input before at_first))

    -- ---- what was answered, and how the controllers stand
    module _ (input : List Frame) (reads : g.reads sound input) where
      params : HaveParams controlled_by (of_openers controlling.code now.hands.edits.items) now.editors.nodes
      params = subst (λ (codes : List ℕ). HaveParams controlled_by codes now.editors.nodes) (sym (account.worked.openers.codes ∙ ap (λ edits. of_openers controlling.code edits.items) account.set.openers))
          (subst (λ (nodes : List Node). HaveParams controlled_by (of_openers controlling.code band.edits.items) nodes) (sym nodes_are) (have_params processing controlling processed_by controlled_by session band account.made))

      parameters_are : parameters_in now.stage ≡ all_parameters now.editors.nodes
      parameters_are = account.sounded.same_stage.parameters ∙ account.set.parameters ∙ ap all_parameters (sym nodes_are)

      following : IsFollowing controlled_by controlling.code controlling.values (of_openers controlling.values band.edits.items) now.hands
      following = account.worked.following (of_openers controlling.values band.edits.items) account.set.following

      at_end : played.outcome ≡ Done → IsRead g.reads processed_by now.stage.engine sound_now input now.stage.journal.items
      at_end done = at_ok result _ (ok done) (account.sounded.read input (read_at_first g.reads processed_by run.stage.engine sound account.set.fresh.at account.set.stands input reads))

      pub replies_are : played.outcome ≡ Done → map answer_of played.replies.items ≡ answers scene input played.journal.items
      replies_are done = at_ok result _ (ok done) (account.closed.replies input) (at_end done).stands ∙ ap (λ (s : Scene). answers s input played.journal.items) ended_scene

      pub values_are : played.outcome ≡ Done → values_in controlling.values played.band ≡ last_values scene input played.journal.items
      values_are done =
          let firsts = of_openers controlling.values band.edits.items in
          let told = at_ok result _ (ok done) (account.sounded.told band.first.items account.set.told) in
          at_ok result _ (ok done) (account.closed.values input firsts params parameters_are following) (at_end done).stands (subst (IsTold now.stage) (sym (firsts_of_controllers processing controlling processed_by controlled_by session band account.made)) told)
          ∙ ap (λ (s : Scene). last_values s input played.journal.items) ended_scene

    -- ---- the objects
    pub calls_are : played.outcome ≡ Done → of_processors processing.calls played.band.processors.items
        ≡ map (raised_by (length (pieces_of session.length (content_of session).pattern []) + 1)) (of_processors processing.calls band.processors.items)
    calls_are done =
        let is = ok done in
        let times : ℕ → List ℕ → ℕ = λ samples sizes. length (pieces_of samples sizes []) in
        account.closed.given.calls_are ∙ at_ok result _ is account.closed.calls ∙ ap (map raised) (at_ok result _ is account.sounded.calls)
        ∙ called_at_end (times run.stage.engine.session.length run.sizes.items) run.stage.engine.calls
        ∙ ap (λ n. map (raised_by (times n run.sizes.items + 1)) run.stage.engine.calls) begun_length
        ∙ ap (λ (sizes : List ℕ). map (raised_by (times session.length sizes + 1)) run.stage.engine.calls) account.set.sizes
        ∙ ap (map (raised_by (times session.length (content_of session).pattern + 1))) account.set.fresh.calls_are

    pub hands_are : AreInHand (nodes_of session.nodes) (scripts_of session) (map row_seats played.band.holders.items)
    hands_are = subst (λ (nodes : List Node). AreInHand nodes (scripts_of session) (map row_seats played.band.holders.items)) nodes_are
        (subst (λ (scripts : List (List Word)). AreInHand now.editors.nodes scripts (map row_seats played.band.holders.items)) scripts_are account.closed.hands)

    pub same_session : content_of played.session ≡ content_of session
    same_session = account.closed.given.session ∙ account.closed.same.session ∙ session_is

    components_are : played.band.components ≡ band.components
    components_are = account.closed.components ∙ account.components ∙ account.set.components

    controllers_are : played.band.controllers ≡ band.controllers
    controllers_are = account.closed.controllers ∙ account.worked.controllers ∙ account.set.controllers

    pub same_components : AreSameComponents processing.code band played.band
    same_components = record {
      objects = ap (λ components. objects_of components.items) components_are;
      codes = account.closed.given.codes ∙ account.closed.same.codes ∙ account.sounded.same.codes ∙ account.set.fresh.codes;
    }

    pub same_controllers : AreSameControllers controlling.code controlling.mode band played.band
    same_controllers = record {
      objects = ap (λ controllers. objects_of controllers.items) controllers_are;
      codes = account.closed.codes ∙ account.worked.openers.codes ∙ ap (λ edits. of_openers controlling.code edits.items) account.set.openers;
      modes = account.closed.modes ∙ account.worked.openers.modes ∙ ap (λ edits. of_openers controlling.mode edits.items) account.set.openers;
    }

    pub processing_is : All (λ phase. phase ≡ AtProcessing) (of_processors processing.phase played.band.processors.items)
    processing_is = account.closed.given.processing

    pub held_is : IsHeld played.band
    held_is = record {
      components = subst (λ components. AreHeld (objects_of components.items) (map processor_seat played.band.processors.items ∷ [])) (sym components_are)
          (still_held band.components.items band.processors.items played.band.processors.items account.made.band_is.components.held
          (account.closed.given.holders ∙ account.closed.same.holders ∙ account.sounded.same.holders ∙ account.set.fresh.holders));
      controllers = account.closed.held;
    }

    -- ---- frames
    pub cut_is : played.outcome ≡ NotAdded → g.cut sound_now ≢ []
    cut_is is = account.left.cut (not_added result (sym account.closed.outcome ∙ is))

    pub read_is : played.outcome ≡ NotRead → Rose (g.pull_faults sound) (g.pull_faults sound_now)
    read_is is = account.left.read (not_read result (sym account.closed.outcome ∙ is))

    pub write_is : played.outcome ≡ NotAdded → Rose (g.push_faults sound) (g.push_faults sound_now)
    write_is is = account.left.write (not_added result (sym account.closed.outcome ∙ is))
