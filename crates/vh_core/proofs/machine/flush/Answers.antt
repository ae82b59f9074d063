use Rattle.std.proofs.Common.{◌≡◌, ◌∙◌, ◌++◌, ◌==◌, ◌&&◌, [], ℕ, Bool, true, not, List, length, map, take, refl, sym, ap, subst, arith}
use Rattle.std.proofs.lemmas.Bool.{ne_eqb}
use Rattle.std.proofs.lemmas.List.{length-append, length-map, length-take}
use Rattle.std.proofs.lemmas.List.Sums.{count_by-le-length}
use Rattle.vh_journal.specs.declared.entry.Entry.{Entry}
use Rattle.vh_session.specs.Names.{content_of}
use Rattle.vh_meaning.specs.Values.{values_at}
use Rattle.vh_meaning.specs.World.{told, world, after}
use Rattle.vh_meaning.specs.Rendering.{seen_at, of_all}
use Rattle.vh_core.specs.declared.kept.Kept.{Kept}
use Rattle.vh_core.specs.State.{Setting, scene_in, at_first}
use Rattle.vh_core.specs.Steps.{entry_at, replies_at}
use Rattle.vh_core.specs.Playing.{HaveStates, setting_by, ArePlayable}
use Rattle.vh_core.specs.Kept.{return_of}
use Rattle.vh_core.proofs.Always.{echoes}
use Rattle.vh_core.proofs.Begun.{few_channels, values_each, params_each}
use Rattle.vh_core.proofs.Gone.{flush_run, flush_machine, flush_none}
use Rattle.vh_core.proofs.Moved.{taken_playable}
use Rattle.vh_core.proofs.Players.{players_on, setting_on}
use Rattle.vh_core.proofs.Shown.{all_shown}
use Rattle.vh_core.proofs.Standing.{on_err, run_same, machine_same}
use Rattle.vh_core.proofs.Taken.{HasTaken, HasClosed, ready_states, taken_in, ended_all}
use Rattle.vh_core.proofs.machine.flush.Goals as goal

pub returns-then-kept-clause-ok : goal.returns-then-kept-clause-ok
returns-then-kept-clause-ok g c =
    flush_none g.P.Processor.class_of g.P.Processor.code g.P.Processor.state g.P.Life.phase g.P.Life.last_setup (content_of c.args.session.now) c.args.plan.now c.args.processors.now c.args.kept.now
    (ap (λ (t : Bool). not t && (c.args.kept.now.pos == c.args.session.now.length)) c.if-kept.true)

pub returns-then-kept-session-clause-ok : goal.returns-then-kept-session-clause-ok
returns-then-kept-session-clause-ok g c =
    flush_none g.P.Processor.class_of g.P.Processor.code g.P.Processor.state g.P.Life.phase g.P.Life.last_setup (content_of c.args.session.now) c.args.plan.now c.args.processors.now c.args.kept.now
    (ap (λ (t : Bool). not t && (c.args.kept.now.pos == c.args.session.now.length)) c.if-kept.false ∙ ne_eqb c.args.kept.now.pos c.args.session.now.length c.if-kept-session.true)

pub returns-in_err-shown-clause-err : goal.returns-in_err-shown-clause-err
returns-in_err-shown-clause-err g c = on_err c.from_residual.result
    (run_same g.P.Processor.class_of g.P.Processor.code g.P.Processor.state g.P.Life.phase g.P.Life.last_setup (content_of c.args.session.now) c.args.plan.now c.args.processors.now c.args.kept.now c.reserve.new.self c.reserve.ensures.same)

pub returns-in_err-shown-clause-machine : goal.returns-in_err-shown-clause-machine
returns-in_err-shown-clause-machine g c =
    machine_same g.P.Processor.class_of g.P.Processor.code g.P.Processor.state g.P.Life.phase g.P.Life.last_setup (content_of c.args.session.now) c.args.plan.now c.args.processors.now c.args.kept.now c.reserve.new.self c.reserve.ensures.same
    c.args.room.now c.requires.machine

pub take_in-requires : goal.take_in-requires
take_in-requires g c = c.in_ok-shown.ensures.entries

pub give_messages-requires-clause-players : goal.give_messages-requires-clause-players
give_messages-requires-clause-players g c = c.requires.machine.players

pub give_messages-requires-clause-journal : goal.give_messages-requires-clause-journal
give_messages-requires-clause-journal g c =
    let session = content_of c.args.session.now in
    let plan = c.args.plan.now in
    let old = c.args.kept.now in
    let olds = c.args.processors.now in
    let larger = c.reserve.new.self in
    let count = c.len-count.result in
    let setting = setting_by g.P.Processor.class_of g.P.Processor.code session plan.firsts.items olds in
    let machine = c.requires.machine in
    let going = c.if-kept.false in
    let mid : Kept = record larger { inbox = c.take_in.new.inbox; journal = c.take_in.new.journal } in
    let taken : HasTaken count old mid = taken_in count old larger mid c.reserve.ensures.same (record { puts = refl; controllers = refl; inbox = c.take_in.ensures.inbox; journal = c.take_in.ensures.journal; pos = refl; frames = refl; flushed = refl; returns = refl; values = refl }) in
    let playable : ArePlayable (length session.nodes) c.take_in.new.journal.items =
    subst (ArePlayable (length session.nodes)) (sym taken.journal) (taken_playable count (length session.nodes) old.pos old.journal.items old.inbox.items machine.current.taken machine.current.waits) in
    subst (ArePlayable (length session.nodes)) (sym c.deref.ensures.value) playable

pub give_messages-requires-clause-returns : goal.give_messages-requires-clause-returns
give_messages-requires-clause-returns g c =
    let larger = c.reserve.new.self in
    let at = ap (λ (l : List Entry). length l) c.deref.ensures.value in
    let sent = map (entry_at larger.pos) (take c.len-count.result larger.inbox.items) in
    let long = ap (λ (l : List Entry). length l) c.take_in.ensures.journal ∙ length-append larger.journal.items sent in
    let mapped = length-map (take c.len-count.result larger.inbox.items) (entry_at larger.pos) in
    let few = length-take c.len-count.result larger.inbox.items in
    let held = larger.journal.ok.0 in
    let space = c.in_ok-shown.ensures.returns in
    let some = count_by-le-length (λ (entry : Entry). entry.sample == larger.pos) c.deref.result.now in
    omega (arith, at, long, mapped, few, held, space, some)

pub show-requires-clause-players : goal.show-requires-clause-players
show-requires-clause-players g c = players_on g.P.Processor.class_of g.P.Processor.code g.P.Life.phase g.P.Life.last_setup (content_of c.args.session.now) c.args.processors.now c.give_messages.new.processors c.requires.machine.players c.give_messages.ensures.alike

pub show-requires-clause-journal : goal.show-requires-clause-journal
show-requires-clause-journal g c =
    let session = content_of c.args.session.now in
    let plan = c.args.plan.now in
    let old = c.args.kept.now in
    let olds = c.args.processors.now in
    let larger = c.reserve.new.self in
    let count = c.len-count.result in
    let setting = setting_by g.P.Processor.class_of g.P.Processor.code session plan.firsts.items olds in
    let machine = c.requires.machine in
    let going = c.if-kept.false in
    let mid : Kept = record larger { inbox = c.take_in.new.inbox; journal = c.take_in.new.journal } in
    let taken : HasTaken count old mid = taken_in count old larger mid c.reserve.ensures.same (record { puts = refl; controllers = refl; inbox = c.take_in.ensures.inbox; journal = c.take_in.ensures.journal; pos = refl; frames = refl; flushed = refl; returns = refl; values = refl }) in
    let playable : ArePlayable (length session.nodes) c.take_in.new.journal.items =
    subst (ArePlayable (length session.nodes)) (sym taken.journal) (taken_playable count (length session.nodes) old.pos old.journal.items old.inbox.items machine.current.taken machine.current.waits) in
    subst (ArePlayable (length session.nodes)) (sym c.deref-2.ensures.value) playable

pub show-requires-clause-shown : goal.show-requires-clause-shown
show-requires-clause-shown g c =
    let session = content_of c.args.session.now in
    let larger = c.reserve.new.self in
    let machine = c.requires.machine in
    let none = ap (λ (l : List ℕ). length l) c.in_ok-shown.ensures.shown in
    let shown = c.in_ok-shown.shown.ok.0 in
    let held = larger.values.ok.0 in
    let space = c.in_ok-shown.ensures.room in
    let same = ap (λ (l : List ℕ). length l) c.reserve.ensures.same.values in
    let each = values_each g.P.Processor.class_of g.P.Processor.code g.P.Processor.state g.P.Life.phase g.P.Life.last_setup session c.args.plan.now c.args.room.now c.args.processors.now c.args.kept.now machine in
    let all = params_each g.P.Processor.class_of g.P.Processor.code g.P.Life.phase g.P.Life.last_setup session c.args.plan.now c.args.processors.now machine.players machine.plan_is in
    omega (arith, none, shown, held, space, same, each, all)

pub tell-requires-clause-each : goal.tell-requires-clause-each
tell-requires-clause-each g c =
    let session = content_of c.args.session.now in
    let olds = c.args.processors.now in
    let news = c.give_messages.new.processors in
    let larger = c.reserve.new.self in
    let machine = c.requires.machine in
    let setting = setting_by g.P.Processor.class_of g.P.Processor.code session c.args.plan.now.firsts.items olds in
    let setting_now = setting_by g.P.Processor.class_of g.P.Processor.code session c.args.plan.now.firsts.items news in
    let on = ap (λ (t : Setting). length (at_first t)) (setting_on g.P.Processor.class_of g.P.Processor.code g.P.Life.phase g.P.Life.last_setup session c.args.plan.now.firsts.items olds news c.give_messages.ensures.alike) in
    let end = larger.pos in
    let taken_now = subst (λ (l : List Entry). l ≡ c.args.kept.now.journal.items ++ map (entry_at c.args.kept.now.pos) (take c.len-count.result c.args.kept.now.inbox.items)) (sym c.deref.ensures.value) (taken_in c.len-count.result c.args.kept.now larger (record larger { inbox = c.take_in.new.inbox; journal = c.take_in.new.journal }) c.reserve.ensures.same (record { puts = refl; controllers = refl; inbox = c.take_in.ensures.inbox; journal = c.take_in.ensures.journal; pos = refl; frames = refl; flushed = refl; returns = refl; values = refl })).journal in
    let states = told (scene_in setting) c.deref.result.now end (world (scene_in setting) [] c.deref.result.now end) in
    let have = c.give_messages.ensures.states (world (scene_in setting) [] c.deref.result.now end) (ready_states g.P.Processor.state setting olds c.args.kept.now c.deref.result.now end c.len-count.result c.if-kept.false taken_now c.reserve.ensures.same.pos machine.current.states) in
    let last = end in
    let none = ap (λ (l : List ℕ). length l) c.in_ok-shown.ensures.shown in
    let seen_now = of_all (scene_in setting_now) (seen_at (scene_in setting_now) states (values_at (scene_in setting_now) c.deref-2.result.now last)) in
    let shown = ap (λ (l : List ℕ). length l) (c.show.ensures.shown states have) ∙ length-append c.in_ok-shown.shown.items seen_now in
    let each = all_shown setting_now c.deref-2.result.now states last in
    let new = ap (λ (l : List ℕ). length l) c.deref-4.ensures.value in
    let old = ap (λ (l : List ℕ). length l) c.deref-3.ensures.value in
    let same = ap (λ (l : List ℕ). length l) c.reserve.ensures.same.values in
    let kept = values_each g.P.Processor.class_of g.P.Processor.code g.P.Processor.state g.P.Life.phase g.P.Life.last_setup session c.args.plan.now c.args.room.now olds c.args.kept.now machine in
    omega (arith, on, none, shown, each, new, old, same, kept)

pub tell-requires-clause-room : goal.tell-requires-clause-room
tell-requires-clause-room g c =
    let session = content_of c.args.session.now in
    let olds = c.args.processors.now in
    let news = c.give_messages.new.processors in
    let larger = c.reserve.new.self in
    let machine = c.requires.machine in
    let setting = setting_by g.P.Processor.class_of g.P.Processor.code session c.args.plan.now.firsts.items olds in
    let setting_now = setting_by g.P.Processor.class_of g.P.Processor.code session c.args.plan.now.firsts.items news in
    let on = ap (λ (t : Setting). length (at_first t)) (setting_on g.P.Processor.class_of g.P.Processor.code g.P.Life.phase g.P.Life.last_setup session c.args.plan.now.firsts.items olds news c.give_messages.ensures.alike) in
    let end = larger.pos in
    let taken_now = subst (λ (l : List Entry). l ≡ c.args.kept.now.journal.items ++ map (entry_at c.args.kept.now.pos) (take c.len-count.result c.args.kept.now.inbox.items)) (sym c.deref.ensures.value) (taken_in c.len-count.result c.args.kept.now larger (record larger { inbox = c.take_in.new.inbox; journal = c.take_in.new.journal }) c.reserve.ensures.same (record { puts = refl; controllers = refl; inbox = c.take_in.ensures.inbox; journal = c.take_in.ensures.journal; pos = refl; frames = refl; flushed = refl; returns = refl; values = refl })).journal in
    let states = told (scene_in setting) c.deref.result.now end (world (scene_in setting) [] c.deref.result.now end) in
    let have = c.give_messages.ensures.states (world (scene_in setting) [] c.deref.result.now end) (ready_states g.P.Processor.state setting olds c.args.kept.now c.deref.result.now end c.len-count.result c.if-kept.false taken_now c.reserve.ensures.same.pos machine.current.states) in
    let last = end in
    let none = ap (λ (l : List ℕ). length l) c.in_ok-shown.ensures.shown in
    let seen_now = of_all (scene_in setting_now) (seen_at (scene_in setting_now) states (values_at (scene_in setting_now) c.deref-2.result.now last)) in
    let shown = ap (λ (l : List ℕ). length l) (c.show.ensures.shown states have) ∙ length-append c.in_ok-shown.shown.items seen_now in
    let each = all_shown setting_now c.deref-2.result.now states last in
    let new = ap (λ (l : List ℕ). length l) c.deref-4.ensures.value in
    let old = ap (λ (l : List ℕ). length l) c.deref-3.ensures.value in
    let same = ap (λ (l : List ℕ). length l) c.reserve.ensures.same.values in
    let kept = values_each g.P.Processor.class_of g.P.Processor.code g.P.Processor.state g.P.Life.phase g.P.Life.last_setup session c.args.plan.now c.args.room.now olds c.args.kept.now machine in
    let at = ap (λ (l : List Entry). length l) c.deref.ensures.value in
    let sent = map (entry_at larger.pos) (take c.len-count.result larger.inbox.items) in
    let long = ap (λ (l : List Entry). length l) c.take_in.ensures.journal ∙ length-append larger.journal.items sent in
    let mapped = length-map (take c.len-count.result larger.inbox.items) (entry_at larger.pos) in
    let few = length-take c.len-count.result larger.inbox.items in
    let held = larger.journal.ok.0 in
    let space = c.in_ok-shown.ensures.returns in
    let left = c.give_messages.ensures.left in
    let capacity = c.give_messages.ensures.capacity in
    let some = count_by-le-length (λ (entry : Entry). entry.sample == larger.pos) c.deref.result.now in
    omega (arith, on, none, shown, each, new, old, same, kept, at, long, mapped, few, held, space, left, capacity, some)

pub returns-clause-ok : goal.returns-clause-ok
returns-clause-ok g c =
    let session = content_of c.args.session.now in
    let plan = c.args.plan.now in
    let old = c.args.kept.now in
    let olds = c.args.processors.now in
    let larger = c.reserve.new.self in
    let count = c.len-count.result in
    let setting = setting_by g.P.Processor.class_of g.P.Processor.code session plan.firsts.items olds in
    let machine = c.requires.machine in
    let going = c.if-kept.false in
    let mid : Kept = record larger { inbox = c.take_in.new.inbox; journal = c.take_in.new.journal } in
    let taken : HasTaken count old mid = taken_in count old larger mid c.reserve.ensures.same (record { puts = refl; controllers = refl; inbox = c.take_in.ensures.inbox; journal = c.take_in.ensures.journal; pos = refl; frames = refl; flushed = refl; returns = refl; values = refl }) in
    let news = c.give_messages.new.processors in
    let h = c.take_in.new.journal.items in
    let new : Kept = record mid { returns = c.tell.new.returns; values = c.show.new.shown; flushed = true } in
    let scene = scene_in setting in
    let same = setting_on g.P.Processor.class_of g.P.Processor.code g.P.Life.phase g.P.Life.last_setup session plan.firsts.items olds news c.give_messages.ensures.alike in
    let at = c.deref.ensures.value in
    let start = ready_states g.P.Processor.state setting olds old h larger.pos count going taken.journal taken.pos machine.current.states in
    let told : HaveStates g.P.Processor.state news (after scene [] h larger.pos) =
    subst (λ (l : List Entry). HaveStates g.P.Processor.state news (told scene l larger.pos (world scene [] h larger.pos))) at (c.give_messages.ensures.states (world scene [] h larger.pos) start) in
    let answered : map return_of c.give_messages.new.returns.items ≡ map return_of larger.returns.items ++ replies_at setting h larger.pos =
    subst (λ (l : List Entry). HaveStates g.P.Processor.state olds (world scene [] l larger.pos) → map return_of c.give_messages.new.returns.items ≡ map return_of larger.returns.items ++ replies_at setting l larger.pos) at c.give_messages.ensures.replies start in
    let states = after scene [] h larger.pos in
    let values : c.show.new.shown.items ≡ of_all scene (seen_at scene states (values_at scene h larger.pos)) =
    c.show.ensures.shown states told
    ∙ ap (λ (l : List ℕ). l ++ of_all (scene_in (setting_by g.P.Processor.class_of g.P.Processor.code session plan.firsts.items news)) (seen_at (scene_in (setting_by g.P.Processor.class_of g.P.Processor.code session plan.firsts.items news)) states (values_at (scene_in (setting_by g.P.Processor.class_of g.P.Processor.code session plan.firsts.items news)) c.deref-2.result.now larger.pos))) c.in_ok-shown.ensures.shown
    ∙ ap (λ (t : Setting). of_all (scene_in t) (seen_at (scene_in t) states (values_at (scene_in t) c.deref-2.result.now larger.pos))) same
    ∙ ap (λ (l : List Entry). of_all scene (seen_at scene states (values_at scene l larger.pos))) c.deref-2.ensures.value in
    let closed : HasClosed setting mid new (map return_of c.give_messages.new.returns.items) = record {
      puts = refl;
      controllers = refl;
      inbox = refl;
      journal = refl;
      frames = refl;
      flushed = refl;
      pos = refl;
      answered = answered;
      returns =
          c.tell.ensures
          ∙ ap (λ (l : List ℕ). map return_of c.give_messages.new.returns.items ++ echoes l c.deref-4.result.now) c.deref-3.ensures.value
          ∙ ap (λ (l : List ℕ). map return_of c.give_messages.new.returns.items ++ echoes larger.values.items l) c.deref-4.ensures.value;
      values = values;
    } in
    let all : count ≡ length old.inbox.items = c.len-count.ensures ∙ old.inbox.ok.0 in
    let end : old.pos ≡ session.length = c.if-kept-session.false in
    let ended = ended_all setting count old mid new (map return_of c.give_messages.new.returns.items) refl all end taken closed in
    let last : HaveStates g.P.Processor.state news (after scene [] h session.length) = subst (λ (n : ℕ). HaveStates g.P.Processor.state news (after scene [] h n)) (taken.pos ∙ end) told in
    flush_run g.P.Processor.class_of g.P.Processor.code g.P.Processor.state g.P.Life.phase g.P.Life.last_setup session (few_channels c.args.session.now) plan c.args.room.now c.show.new.room olds news old new
    machine c.give_messages.ensures.alike c.show.ensures.room going end ended last

pub returns-clause-machine : goal.returns-clause-machine
returns-clause-machine g c =
    let session = content_of c.args.session.now in
    let plan = c.args.plan.now in
    let old = c.args.kept.now in
    let olds = c.args.processors.now in
    let larger = c.reserve.new.self in
    let count = c.len-count.result in
    let setting = setting_by g.P.Processor.class_of g.P.Processor.code session plan.firsts.items olds in
    let machine = c.requires.machine in
    let going = c.if-kept.false in
    let mid : Kept = record larger { inbox = c.take_in.new.inbox; journal = c.take_in.new.journal } in
    let taken : HasTaken count old mid = taken_in count old larger mid c.reserve.ensures.same (record { puts = refl; controllers = refl; inbox = c.take_in.ensures.inbox; journal = c.take_in.ensures.journal; pos = refl; frames = refl; flushed = refl; returns = refl; values = refl }) in
    let news = c.give_messages.new.processors in
    let h = c.take_in.new.journal.items in
    let new : Kept = record mid { returns = c.tell.new.returns; values = c.show.new.shown; flushed = true } in
    let scene = scene_in setting in
    let same = setting_on g.P.Processor.class_of g.P.Processor.code g.P.Life.phase g.P.Life.last_setup session plan.firsts.items olds news c.give_messages.ensures.alike in
    let at = c.deref.ensures.value in
    let start = ready_states g.P.Processor.state setting olds old h larger.pos count going taken.journal taken.pos machine.current.states in
    let told : HaveStates g.P.Processor.state news (after scene [] h larger.pos) =
    subst (λ (l : List Entry). HaveStates g.P.Processor.state news (told scene l larger.pos (world scene [] h larger.pos))) at (c.give_messages.ensures.states (world scene [] h larger.pos) start) in
    let answered : map return_of c.give_messages.new.returns.items ≡ map return_of larger.returns.items ++ replies_at setting h larger.pos =
    subst (λ (l : List Entry). HaveStates g.P.Processor.state olds (world scene [] l larger.pos) → map return_of c.give_messages.new.returns.items ≡ map return_of larger.returns.items ++ replies_at setting l larger.pos) at c.give_messages.ensures.replies start in
    let states = after scene [] h larger.pos in
    let values : c.show.new.shown.items ≡ of_all scene (seen_at scene states (values_at scene h larger.pos)) =
    c.show.ensures.shown states told
    ∙ ap (λ (l : List ℕ). l ++ of_all (scene_in (setting_by g.P.Processor.class_of g.P.Processor.code session plan.firsts.items news)) (seen_at (scene_in (setting_by g.P.Processor.class_of g.P.Processor.code session plan.firsts.items news)) states (values_at (scene_in (setting_by g.P.Processor.class_of g.P.Processor.code session plan.firsts.items news)) c.deref-2.result.now larger.pos))) c.in_ok-shown.ensures.shown
    ∙ ap (λ (t : Setting). of_all (scene_in t) (seen_at (scene_in t) states (values_at (scene_in t) c.deref-2.result.now larger.pos))) same
    ∙ ap (λ (l : List Entry). of_all scene (seen_at scene states (values_at scene l larger.pos))) c.deref-2.ensures.value in
    let closed : HasClosed setting mid new (map return_of c.give_messages.new.returns.items) = record {
      puts = refl;
      controllers = refl;
      inbox = refl;
      journal = refl;
      frames = refl;
      flushed = refl;
      pos = refl;
      answered = answered;
      returns =
          c.tell.ensures
          ∙ ap (λ (l : List ℕ). map return_of c.give_messages.new.returns.items ++ echoes l c.deref-4.result.now) c.deref-3.ensures.value
          ∙ ap (λ (l : List ℕ). map return_of c.give_messages.new.returns.items ++ echoes larger.values.items l) c.deref-4.ensures.value;
      values = values;
    } in
    let all : count ≡ length old.inbox.items = c.len-count.ensures ∙ old.inbox.ok.0 in
    let end : old.pos ≡ session.length = c.if-kept-session.false in
    let ended = ended_all setting count old mid new (map return_of c.give_messages.new.returns.items) refl all end taken closed in
    let last : HaveStates g.P.Processor.state news (after scene [] h session.length) = subst (λ (n : ℕ). HaveStates g.P.Processor.state news (after scene [] h n)) (taken.pos ∙ end) told in
    flush_machine g.P.Processor.class_of g.P.Processor.code g.P.Processor.state g.P.Life.phase g.P.Life.last_setup session (few_channels c.args.session.now) plan c.args.room.now c.show.new.room olds news old new
    machine c.give_messages.ensures.alike c.show.ensures.room going end ended last
