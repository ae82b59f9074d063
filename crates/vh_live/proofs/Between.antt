-- From one part of a run to the next.
use Rattle.std.proofs.Common.{◌≡◌, ◌∙◌, ℕ, ◌≤◌, false, List, [], ◌∷◌, length, map, sum, replicate, sym, ap, subst, arith}
use Rattle.std.specs.Prelude.{All, Result, Ok, Err, OnOk, Vec, vec_capacity}
use Rattle.std.specs.declared.alloc.Global.{Global}
use Rattle.std.proofs.lemmas.List.{length-map}
use Rattle.vh_counted.specs.declared.object.Holder.{Holder}
use Rattle.vh_counted.specs.declared.object.Object.{Object}
use Rattle.vh_params.specs.Nodes.{nodes_of}
use Rattle.vh_params.specs.declared.command.Word.{Word}
use Rattle.vh_plugin.specs.Class.{Class}
use Rattle.vh_session.specs.declared.session.Session.{Session}
use Rattle.vh_session.specs.Content.{Content}
use Rattle.vh_session.specs.Names.{content_of}
use Rattle.vh_session.specs.View.{script_text}
use Rattle.vh_session.proofs.PartsNamed.{names_nodes}
use Rattle.vh_legal.specs.Legal.{scripts_of}
use Rattle.vh_wav.specs.declared.stream.Frames as frames
use Rattle.vh_instance.specs.declared.band.Band.{Band}
use Rattle.vh_instance.specs.Band.{ProcessorMeaning, ControllerMeaning, controller_object, controller_table, kept_beside, kept_by_editor, objects_of}
use Rattle.vh_instance.specs.Seats.{Seat, opener_seat, row_seats, AreHeld, Has}
use Rattle.vh_stage.specs.declared.stopped.Stopped.{Stopped}
use Rattle.vh_stage.specs.Playing.{IsUpTo}
use Rattle.vh_stage.specs.Staged.{AreAtBlocks}
use Rattle.vh_editors.specs.Scripts.{quotas_of}
use Rattle.vh_hands.specs.Hands.{AreForEditors}
use Rattle.vh_live.specs.declared.run.Run.{Run}
use Rattle.vh_live.specs.Bands.{IsMadeFor}
use Rattle.vh_live.specs.Runs.{IsSetUp, MayBegin, IsSounded, IsWorked}
use Rattle.vh_live.specs.Closing.{IsOver}
use Rattle.vh_live.proofs.Closed.{seats_same}

ended_there : (result : Result Unit Stopped) (at samples other : ℕ) → samples ≡ other → OnOk result (at ≡ samples) → OnOk result (at ≡ other)
ended_there (Ok done) at samples other same is = is ∙ same
ended_there (Err stopped) at samples other same is = tt

module _ {P C I : Type 0} (g : frames.Ghosts I) (processed_by controlled_by : ℕ → Class) (processing : ProcessorMeaning P) (controlling : ControllerMeaning C) (session : Session) (band : Band P C)
    (made : IsMadeFor processing controlling processed_by controlled_by (content_of session) band) (run : Run P C) (set : IsSetUp processed_by controlled_by processing controlling session band run) where
  abbrev content : Content
  content = content_of session

  -- what was set up may begin, into frames for the session
  pub may_begin : (sound : I) → g.channels sound ≡ session.channels → All (λ size. size ≤ g.max sound) content.pattern → g.pushed sound ≡ 0 → g.cut sound ≡ [] → session.length ≤ g.room sound
      → MayBegin processed_by g sound run.sizes.items run.stage
  may_begin sound channels max none whole room =
      let fresh = set.fresh in
      let length_is = ap (λ (c : Content). c.length) fresh.session in
      record {
        ready = set.ready;
        begins = fresh.at;
        empty = set.empty;
        pattern = set.pattern;
        within = subst (λ (most : ℕ). All (λ (size : ℕ). size ≤ most) run.sizes.items) (sym fresh.max_is) set.within;
        channels = channels ∙ sym (ap (λ (c : Content). c.channels) fresh.session);
        max = subst (λ (sizes : List ℕ). All (λ (size : ℕ). size ≤ g.max sound) sizes) (sym set.sizes) max;
        whole = whole;
        space = omega (arith, none, room, length_is);
      }

  pub untaken : run.drain.taken ≡ []
  untaken = ap (λ drain. drain.taken) set.drain

  pub waiting : run.editors.done ≡ false
  waiting = ap (λ editors. editors.done) set.editors

  -- a band's controllers are made for the session's editors
  for_editors : AreForEditors (length (scripts_of session)) band.controllers.items band.edits.items band.holders.items
  for_editors =
      let controllers = made.band_is.controllers in
      let scripts = length-map session.scripts.items (λ (script : Vec Word Global). script.items) in
      let texts = length-map session.scripts.items script_text in
      let same : length content.scripts ≡ length (scripts_of session) = omega (arith, scripts, texts) in
      let few = (names_nodes session).few in
      record {
        few = omega (arith, scripts, few);
        objects = subst (λ (editors : ℕ). All (λ (object : Object). object ≡ controller_object editors) (objects_of band.controllers.items)) same controllers.objects;
        references = controllers.references;
        as_many = controllers.editors ∙ same;
        holders = controllers.holders;
        held = controllers.held;
      }

  -- what was played beside what worked is over
  module _ (now : Run P C) (sound sound_now : I) (result : Result Unit Stopped) (sounded : IsSounded processed_by g sound sound_now run.sizes.items run.stage now.stage run.drain now.drain result)
      (worked : IsWorked controlled_by controlling run.editors now.editors run.hands now.hands) (refused : now.refused ≡ run.refused) where
    session_is : now.stage.engine.session ≡ content
    session_is = sounded.same.session ∙ set.fresh.session

    length_is : run.stage.engine.session.length ≡ session.length
    length_is = ap (λ (c : Content). c.length) set.fresh.session

    later_length : run.stage.engine.session.length ≡ now.stage.engine.session.length
    later_length = ap (λ (c : Content). c.length) (sym sounded.same.session)

    scripts_are : now.editors.scripts ≡ scripts_of session
    scripts_are = ap (λ e. e.scripts) worked.editors_are ∙ ap (λ e. e.scripts) set.editors

    nodes_are : now.editors.nodes ≡ nodes_of session.nodes
    nodes_are = ap (λ e. e.nodes) worked.editors_are ∙ ap (λ e. e.nodes) set.editors

    inbox_is : now.drain.inbox ≡ run.drain.inbox
    inbox_is = ap (λ d. d.inbox) sounded.drain_is

    controllers_are : now.hands.controllers ≡ band.controllers
    controllers_are = worked.controllers ∙ set.controllers

    holders_are : now.hands.holders ≡ band.holders
    holders_are = worked.holders ∙ set.holders

    seats_are : map opener_seat now.hands.edits.items ≡ map opener_seat band.edits.items
    seats_are = seats_same now.hands.edits.items run.hands.edits.items worked.openers.objects worked.openers.numbers ∙ ap (λ edits. map opener_seat edits.items) set.openers

    still_for : AreForEditors (length now.editors.scripts) now.hands.controllers.items now.hands.edits.items now.hands.holders.items
    still_for =
        let are = for_editors in
        let count : length (scripts_of session) ≡ length now.editors.scripts = ap length (sym scripts_are) in
        let few = are.few in
        record {
          few = omega (arith, count, few);
          objects = subst (λ (editors : ℕ). All (λ (object : Object). object ≡ controller_object editors) (objects_of now.hands.controllers.items)) count
              (subst (λ controllers. All (λ (object : Object). object ≡ controller_object (length (scripts_of session))) (objects_of controllers.items)) (sym controllers_are) are.objects);
          references = subst (All (Has controller_table (kept_beside 0) 0)) (sym seats_are) are.references;
          as_many = ap (λ (rows : Vec (Vec (Holder C) Global) Global). length rows.items) holders_are ∙ are.as_many ∙ count;
          holders = subst (λ rows. All (λ row. All (Has controller_table kept_by_editor 64) row) (map row_seats rows.items)) (sym holders_are) are.holders;
          held = subst (λ controllers. AreHeld (objects_of controllers.items) (map opener_seat now.hands.edits.items ∷ map row_seats now.hands.holders.items)) (sym controllers_are)
              (subst (λ rows. AreHeld (objects_of band.controllers.items) (map opener_seat now.hands.edits.items ∷ map row_seats rows.items)) (sym holders_are)
              (subst (λ (seats : List Seat). AreHeld (objects_of band.controllers.items) (seats ∷ map row_seats band.holders.items)) (sym seats_are) are.held));
        }

    pub over : IsOver processed_by session now result
    over =
        let quotas : now.drain.quotas ≡ quotas_of now.editors.scripts = ap (λ d. d.quotas) sounded.drain_is ∙ ap (λ d. d.quotas) set.drain ∙ ap quotas_of (sym scripts_are) in
        let capacity = sounded.same_stage.capacity in
        let room = set.room in
        let sums : sum (quotas_of now.editors.scripts) ≡ sum (quotas_of (scripts_of session)) = ap (λ (scripts : List (List Word)). sum (quotas_of scripts)) scripts_are in
        let long : length now.editors.scripts ≡ length (scripts_of session) = ap length scripts_are in
        let places = set.places in
        let spare = ap vec_capacity refused in
        record {
          session_is = session_is;
          nodes = nodes_are;
          scripts = scripts_are;
          ready = sounded.ready;
          at = ended_there result now.stage.engine.at run.stage.engine.session.length now.stage.engine.session.length later_length sounded.at;
          up_to = subst (λ (n : ℕ). IsUpTo n now.stage.journal.items) later_length sounded.up_to;
          placed = subst (λ (n : ℕ). AreAtBlocks n content.pattern now.stage.journal.items) length_is
              (subst (λ (sizes : List ℕ). AreAtBlocks run.stage.engine.session.length sizes now.stage.journal.items) set.sizes sounded.blocks);
          fit = sounded.fit;
          done = ap (λ e. e.done) worked.editors_are;
          inbox = ap (λ e. e.inboxes) worked.editors_are ∙ ap (λ e. e.inboxes) set.editors ∙ ap (λ (n : ℕ). replicate n run.drain.inbox) (sym long) ∙ ap (replicate (length now.editors.scripts)) (sym inbox_is);
          quotas = quotas;
          lists = ap (λ d. d.lists) sounded.drain_is ∙ ap (λ d. d.lists) set.drain;
          taken = sounded.taken;
          room = omega (arith, capacity, room, sums);
          none_refused = ap (λ v. v.items) refused ∙ set.none_refused;
          places = omega (arith, long, places, spare);
          as_many = ap length nodes_are ∙ sym made.band_is.controllers.size ∙ ap (λ controllers. length controllers.items) (sym controllers_are);
          made = still_for;
          ring = worked.ring ∙ ap (λ follower. follower.ring) set.follower ∙ sym sounded.same_stage.ring;
        }
