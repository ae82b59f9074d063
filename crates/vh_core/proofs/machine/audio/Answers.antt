use Rattle.std.proofs.Common.{◌≡◌, ◌∙◌, ◌≤◌, ◌+◌, ◌-◌, ◌*◌, ◌^◌, ◌++◌, [], ℕ, min, List, length, map, take, refl, sym, ap, subst, arith}
use Rattle.std.specs.Prelude.{nat_le}
use Rattle.std.specs.List.{range_with_len, flat_map}
use Rattle.std.proofs.Math.Nat.{mul-le-mul}
use Rattle.std.proofs.lemmas.List.{length-append, length-map, length-take}
use Rattle.std.proofs.lemmas.List.Sums.{count_by-le-length}
use Rattle.std.proofs.lemmas.Bool.{and_parts, leb-true}
use Rattle.vh_journal.specs.declared.entry.Entry.{Entry}
use Rattle.vh_session.specs.Names.{content_of}
use Rattle.vh_meaning.specs.Values.{values_at}
use Rattle.vh_meaning.specs.World.{world}
use Rattle.vh_meaning.specs.Rendering.{out_at, seen_at, of_all}
use Rattle.vh_core.specs.declared.kept.Kept.{Kept}
use Rattle.vh_core.specs.State.{Setting, scene_in, at_first}
use Rattle.vh_core.specs.Steps.{entry_at, replies_at}
use Rattle.vh_core.specs.Playing.{HaveStates, setting_by, ArePlayable}
use Rattle.vh_core.specs.Kept.{return_of}
use Rattle.vh_core.proofs.Always.{echoes}
use Rattle.vh_core.proofs.Begun.{few_channels, values_each, params_each}
use Rattle.vh_core.proofs.Gone.{audio_run, audio_machine, audio_none}
use Rattle.vh_core.proofs.Moved.{taken_playable}
use Rattle.vh_core.proofs.Players.{alike_same, players_on, setting_on}
use Rattle.vh_core.proofs.Shown.{all_shown}
use Rattle.vh_core.proofs.Standing.{on_err, run_same, machine_same}
use Rattle.vh_core.proofs.Taken.{HasTaken, HasRendered, ready_states, taken_in, gone_none, gone_some}
use Rattle.vh_core.proofs.machine.audio.Goals as goal

pub returns-then-kept-clause-ok : goal.returns-then-kept-clause-ok
returns-then-kept-clause-ok g c =
    audio_none g.P.Processor.class_of g.P.Processor.code g.P.Processor.state g.P.Life.phase g.P.Life.last_setup (content_of c.args.session.now) c.args.plan.now c.args.processors.now c.args.kept.now c.args.take c.args.frames c.if-kept.true

pub returns-in_err-shown-clause-err : goal.returns-in_err-shown-clause-err
returns-in_err-shown-clause-err g c = on_err c.from_residual.result
    (run_same g.P.Processor.class_of g.P.Processor.code g.P.Processor.state g.P.Life.phase g.P.Life.last_setup (content_of c.args.session.now) c.args.plan.now c.args.processors.now c.args.kept.now c.reserve.new.self c.reserve.ensures.same)

pub returns-in_err-shown-clause-machine : goal.returns-in_err-shown-clause-machine
returns-in_err-shown-clause-machine g c =
    machine_same g.P.Processor.class_of g.P.Processor.code g.P.Processor.state g.P.Life.phase g.P.Life.last_setup (content_of c.args.session.now) c.args.plan.now c.args.processors.now c.args.kept.now c.reserve.new.self c.reserve.ensures.same
    c.args.room.now c.requires.machine

pub returns-then-more-eq0-clause-ok : goal.returns-then-more-eq0-clause-ok
returns-then-more-eq0-clause-ok g c =
    let session = content_of c.args.session.now in
    let plan = c.args.plan.now in
    let old = c.args.kept.now in
    let olds = c.args.processors.now in
    let larger = c.reserve.new.self in
    let count = c.min-count.result in
    let setting = setting_by g.P.Processor.class_of g.P.Processor.code session plan.firsts.items olds in
    let machine = c.requires.machine in
    let going = c.if-kept.false in
    let mid : Kept = record larger { inbox = c.take_in.new.inbox; journal = c.take_in.new.journal } in
    let taken : HasTaken count old mid = taken_in count old larger mid c.reserve.ensures.same (record {
      puts = refl;
      controllers = refl;
      inbox = c.take_in.ensures.inbox;
      journal = c.take_in.ensures.journal;
      pos = refl;
      frames = refl;
      flushed = refl;
      returns = refl;
      values = refl;
    }) in
    let gone = gone_none setting count old mid taken going machine.current.values in
    let all : count ≡ min c.args.take (length old.inbox.items) = c.min-count.ensures ∙ ap (min c.args.take) (c.len.ensures ∙ old.inbox.ok.0) in
    let rest : 0 ≡ min c.args.frames (session.length - old.pos) = sym c.if-more-eq0.true ∙ c.min-more.ensures in
    let states = ready_states g.P.Processor.state setting olds old c.take_in.new.journal.items larger.pos count going taken.journal taken.pos machine.current.states in
    audio_run g.P.Processor.class_of g.P.Processor.code g.P.Processor.state g.P.Life.phase g.P.Life.last_setup session (few_channels c.args.session.now) plan c.args.room.now c.args.room.now olds olds old mid
    machine (alike_same g.P.Processor.code g.P.Life.phase g.P.Life.last_setup olds) machine.room_is count c.args.take 0 c.args.frames going all rest gone states

pub returns-then-more-eq0-clause-machine : goal.returns-then-more-eq0-clause-machine
returns-then-more-eq0-clause-machine g c =
    let session = content_of c.args.session.now in
    let plan = c.args.plan.now in
    let old = c.args.kept.now in
    let olds = c.args.processors.now in
    let larger = c.reserve.new.self in
    let count = c.min-count.result in
    let setting = setting_by g.P.Processor.class_of g.P.Processor.code session plan.firsts.items olds in
    let machine = c.requires.machine in
    let going = c.if-kept.false in
    let mid : Kept = record larger { inbox = c.take_in.new.inbox; journal = c.take_in.new.journal } in
    let taken : HasTaken count old mid = taken_in count old larger mid c.reserve.ensures.same (record {
      puts = refl;
      controllers = refl;
      inbox = c.take_in.ensures.inbox;
      journal = c.take_in.ensures.journal;
      pos = refl;
      frames = refl;
      flushed = refl;
      returns = refl;
      values = refl;
    }) in
    let gone = gone_none setting count old mid taken going machine.current.values in
    let all : count ≡ min c.args.take (length old.inbox.items) = c.min-count.ensures ∙ ap (min c.args.take) (c.len.ensures ∙ old.inbox.ok.0) in
    let rest : 0 ≡ min c.args.frames (session.length - old.pos) = sym c.if-more-eq0.true ∙ c.min-more.ensures in
    let states = ready_states g.P.Processor.state setting olds old c.take_in.new.journal.items larger.pos count going taken.journal taken.pos machine.current.states in
    audio_machine g.P.Processor.class_of g.P.Processor.code g.P.Processor.state g.P.Life.phase g.P.Life.last_setup session (few_channels c.args.session.now) plan c.args.room.now c.args.room.now olds olds old mid
    machine (alike_same g.P.Processor.code g.P.Life.phase g.P.Life.last_setup olds) machine.room_is count c.args.take 0 c.args.frames going all rest gone states

pub overflow_sub-session : goal.overflow_sub-session
overflow_sub-session g c = c.requires.machine.current.sound.frames.within

pub overflow_mul-samples : goal.overflow_mul-samples
overflow_mul-samples g c =
    let high = leb-true c.args.session.now.channels 2 (and_parts _ _ c.args.session.now.keeps.channels).1 in
    let few : c.from.result ≤ 2 = (let is = c.from.ensures in omega (arith, is, high)) in
    let some : c.min-more.result ≤ 2 ^ 32 = (let is = c.min-more.ensures in let fits = c.ranges.frames.fits in omega (arith, is, fits)) in
    let most = mul-le-mul few some in
    omega (arith, most)

pub take_in-requires : goal.take_in-requires
take_in-requires g c = c.in_ok-shown.ensures.entries

pub play-requires-clause-players : goal.play-requires-clause-players
play-requires-clause-players g c = c.requires.machine.players

pub play-requires-clause-journal : goal.play-requires-clause-journal
play-requires-clause-journal g c =
    let session = content_of c.args.session.now in
    let old = c.args.kept.now in
    let larger = c.reserve.new.self in
    let count = c.min-count.result in
    let machine = c.requires.machine in
    let mid : Kept = record larger { inbox = c.take_in.new.inbox; journal = c.take_in.new.journal } in
    let taken : HasTaken count old mid = taken_in count old larger mid c.reserve.ensures.same (record { puts = refl; controllers = refl; inbox = c.take_in.ensures.inbox; journal = c.take_in.ensures.journal; pos = refl; frames = refl; flushed = refl; returns = refl; values = refl }) in
    let playable : ArePlayable (length session.nodes) c.take_in.new.journal.items =
    subst (ArePlayable (length session.nodes)) (sym taken.journal) (taken_playable count (length session.nodes) old.pos old.journal.items old.inbox.items machine.current.taken machine.current.waits) in
    subst (ArePlayable (length session.nodes)) (sym c.deref.ensures.value) playable

pub play-requires-clause-states : goal.play-requires-clause-states
play-requires-clause-states g c =
    let session = content_of c.args.session.now in
    let plan = c.args.plan.now in
    let old = c.args.kept.now in
    let olds = c.args.processors.now in
    let larger = c.reserve.new.self in
    let count = c.min-count.result in
    let setting = setting_by g.P.Processor.class_of g.P.Processor.code session plan.firsts.items olds in
    let machine = c.requires.machine in
    let going = c.if-kept.false in
    let mid : Kept = record larger { inbox = c.take_in.new.inbox; journal = c.take_in.new.journal } in
    let taken : HasTaken count old mid = taken_in count old larger mid c.reserve.ensures.same (record {
      puts = refl;
      controllers = refl;
      inbox = c.take_in.ensures.inbox;
      journal = c.take_in.ensures.journal;
      pos = refl;
      frames = refl;
      flushed = refl;
      returns = refl;
      values = refl;
    }) in
    subst (λ (h : List Entry). HaveStates g.P.Processor.state olds (world (scene_in setting) [] h larger.pos)) (sym c.deref.ensures.value)
    (ready_states g.P.Processor.state setting olds old c.take_in.new.journal.items larger.pos count going taken.journal taken.pos machine.current.states)

pub play-requires-clause-within : goal.play-requires-clause-within
play-requires-clause-within g c =
    let same = c.reserve.ensures.same.pos in
    let within = c.requires.machine.current.sound.frames.within in
    let bound = leb-true c.args.session.now.length 16777216 (and_parts _ _ c.args.session.now.keeps.frames).1 in
    let some = c.min-more.ensures in
    omega (arith, same, within, bound, some)

pub play-requires-clause-frames : goal.play-requires-clause-frames
play-requires-clause-frames g c =
    let same = ap (λ n. n * c.min-more.result) c.from.ensures in
    let space = c.in_ok-shown.ensures.samples in
    omega (arith, same, space)

pub play-requires-clause-returns : goal.play-requires-clause-returns
play-requires-clause-returns g c =
    let larger = c.reserve.new.self in
    let at = ap (λ (l : List Entry). length l) c.deref.ensures.value in
    let sent = map (entry_at larger.pos) (take c.min-count.result larger.inbox.items) in
    let long = ap (λ (l : List Entry). length l) c.take_in.ensures.journal ∙ length-append larger.journal.items sent in
    let mapped = length-map (take c.min-count.result larger.inbox.items) (entry_at larger.pos) in
    let few = length-take c.min-count.result larger.inbox.items in
    let held = larger.journal.ok.0 in
    let space = c.in_ok-shown.ensures.returns in
    let some = count_by-le-length (λ (entry : Entry). nat_le larger.pos entry.sample) c.deref.result.now in
    omega (arith, at, long, mapped, few, held, space, some)

pub show-requires-clause-players : goal.show-requires-clause-players
show-requires-clause-players g c = players_on g.P.Processor.class_of g.P.Processor.code g.P.Life.phase g.P.Life.last_setup (content_of c.args.session.now) c.args.processors.now c.play.new.processors c.requires.machine.players c.play.ensures.alike

pub show-requires-clause-journal : goal.show-requires-clause-journal
show-requires-clause-journal g c =
    let session = content_of c.args.session.now in
    let old = c.args.kept.now in
    let larger = c.reserve.new.self in
    let count = c.min-count.result in
    let machine = c.requires.machine in
    let mid : Kept = record larger { inbox = c.take_in.new.inbox; journal = c.take_in.new.journal } in
    let taken : HasTaken count old mid = taken_in count old larger mid c.reserve.ensures.same (record { puts = refl; controllers = refl; inbox = c.take_in.ensures.inbox; journal = c.take_in.ensures.journal; pos = refl; frames = refl; flushed = refl; returns = refl; values = refl }) in
    let playable : ArePlayable (length session.nodes) c.take_in.new.journal.items =
    subst (ArePlayable (length session.nodes)) (sym taken.journal) (taken_playable count (length session.nodes) old.pos old.journal.items old.inbox.items machine.current.taken machine.current.waits) in
    subst (ArePlayable (length session.nodes)) (sym c.deref-2.ensures.value) playable

pub show-requires-clause-shown : goal.show-requires-clause-shown
show-requires-clause-shown g c =
    let session = content_of c.args.session.now in
    let larger = c.reserve.new.self in
    let machine = c.requires.machine in
    let none = ap (λ (l : List ℕ). length l) c.in_ok-shown.ensures.shown in
    let shown = c.in_ok-shown.shown.ok.0 in
    let held = larger.values.ok.0 in
    let space = c.in_ok-shown.ensures.room in
    let same = ap (λ (l : List ℕ). length l) c.reserve.ensures.same.values in
    let each = values_each g.P.Processor.class_of g.P.Processor.code g.P.Processor.state g.P.Life.phase g.P.Life.last_setup session c.args.plan.now c.args.room.now c.args.processors.now c.args.kept.now machine in
    let all = params_each g.P.Processor.class_of g.P.Processor.code g.P.Life.phase g.P.Life.last_setup session c.args.plan.now c.args.processors.now machine.players machine.plan_is in
    omega (arith, none, shown, held, space, same, each, all)

pub tell-requires-clause-each : goal.tell-requires-clause-each
tell-requires-clause-each g c =
    let session = content_of c.args.session.now in
    let olds = c.args.processors.now in
    let news = c.play.new.processors in
    let larger = c.reserve.new.self in
    let machine = c.requires.machine in
    let setting = setting_by g.P.Processor.class_of g.P.Processor.code session c.args.plan.now.firsts.items olds in
    let setting_now = setting_by g.P.Processor.class_of g.P.Processor.code session c.args.plan.now.firsts.items news in
    let on = ap (λ (t : Setting). length (at_first t)) (setting_on g.P.Processor.class_of g.P.Processor.code g.P.Life.phase g.P.Life.last_setup session c.args.plan.now.firsts.items olds news c.play.ensures.alike) in
    let states = world (scene_in setting) [] c.deref.result.now (larger.pos + c.min-more.result) in
    let have = c.play.ensures.states in
    let last = larger.pos + c.min-more.result - 1 in
    let none = ap (λ (l : List ℕ). length l) c.in_ok-shown.ensures.shown in
    let seen_now = of_all (scene_in setting_now) (seen_at (scene_in setting_now) states (values_at (scene_in setting_now) c.deref-2.result.now last)) in
    let shown = ap (λ (l : List ℕ). length l) (c.show.ensures.shown states have) ∙ length-append c.in_ok-shown.shown.items seen_now in
    let each = all_shown setting_now c.deref-2.result.now states last in
    let new = ap (λ (l : List ℕ). length l) c.deref-4.ensures.value in
    let old = ap (λ (l : List ℕ). length l) c.deref-3.ensures.value in
    let same = ap (λ (l : List ℕ). length l) c.reserve.ensures.same.values in
    let kept = values_each g.P.Processor.class_of g.P.Processor.code g.P.Processor.state g.P.Life.phase g.P.Life.last_setup session c.args.plan.now c.args.room.now olds c.args.kept.now machine in
    omega (arith, on, none, shown, each, new, old, same, kept)

pub tell-requires-clause-room : goal.tell-requires-clause-room
tell-requires-clause-room g c =
    let session = content_of c.args.session.now in
    let olds = c.args.processors.now in
    let news = c.play.new.processors in
    let larger = c.reserve.new.self in
    let machine = c.requires.machine in
    let setting = setting_by g.P.Processor.class_of g.P.Processor.code session c.args.plan.now.firsts.items olds in
    let setting_now = setting_by g.P.Processor.class_of g.P.Processor.code session c.args.plan.now.firsts.items news in
    let on = ap (λ (t : Setting). length (at_first t)) (setting_on g.P.Processor.class_of g.P.Processor.code g.P.Life.phase g.P.Life.last_setup session c.args.plan.now.firsts.items olds news c.play.ensures.alike) in
    let states = world (scene_in setting) [] c.deref.result.now (larger.pos + c.min-more.result) in
    let have = c.play.ensures.states in
    let last = larger.pos + c.min-more.result - 1 in
    let none = ap (λ (l : List ℕ). length l) c.in_ok-shown.ensures.shown in
    let seen_now = of_all (scene_in setting_now) (seen_at (scene_in setting_now) states (values_at (scene_in setting_now) c.deref-2.result.now last)) in
    let shown = ap (λ (l : List ℕ). length l) (c.show.ensures.shown states have) ∙ length-append c.in_ok-shown.shown.items seen_now in
    let each = all_shown setting_now c.deref-2.result.now states last in
    let new = ap (λ (l : List ℕ). length l) c.deref-4.ensures.value in
    let old = ap (λ (l : List ℕ). length l) c.deref-3.ensures.value in
    let same = ap (λ (l : List ℕ). length l) c.reserve.ensures.same.values in
    let kept = values_each g.P.Processor.class_of g.P.Processor.code g.P.Processor.state g.P.Life.phase g.P.Life.last_setup session c.args.plan.now c.args.room.now olds c.args.kept.now machine in
    let at = ap (λ (l : List Entry). length l) c.deref.ensures.value in
    let sent = map (entry_at larger.pos) (take c.min-count.result larger.inbox.items) in
    let long = ap (λ (l : List Entry). length l) c.take_in.ensures.journal ∙ length-append larger.journal.items sent in
    let mapped = length-map (take c.min-count.result larger.inbox.items) (entry_at larger.pos) in
    let few = length-take c.min-count.result larger.inbox.items in
    let held = larger.journal.ok.0 in
    let space = c.in_ok-shown.ensures.returns in
    let left = c.play.ensures.left in
    let capacity = c.play.ensures.capacity in
    omega (arith, on, none, shown, each, new, old, same, kept, at, long, mapped, few, held, space, left, capacity)

pub returns-clause-ok : goal.returns-clause-ok
returns-clause-ok g c =
    let session = content_of c.args.session.now in
    let plan = c.args.plan.now in
    let old = c.args.kept.now in
    let olds = c.args.processors.now in
    let larger = c.reserve.new.self in
    let count = c.min-count.result in
    let setting = setting_by g.P.Processor.class_of g.P.Processor.code session plan.firsts.items olds in
    let machine = c.requires.machine in
    let going = c.if-kept.false in
    let mid : Kept = record larger { inbox = c.take_in.new.inbox; journal = c.take_in.new.journal } in
    let taken : HasTaken count old mid = taken_in count old larger mid c.reserve.ensures.same (record {
      puts = refl;
      controllers = refl;
      inbox = c.take_in.ensures.inbox;
      journal = c.take_in.ensures.journal;
      pos = refl;
      frames = refl;
      flushed = refl;
      returns = refl;
      values = refl;
    }) in
    let more = c.min-more.result in
    let news = c.play.new.processors in
    let last = c.reserve.new.self.pos + more - 1 in
    let new : Kept = record mid { pos = larger.pos + more; frames = c.play.new.frames; returns = c.tell.new.returns; values = c.show.new.shown } in
    let scene = scene_in setting in
    let same = setting_on g.P.Processor.class_of g.P.Processor.code g.P.Life.phase g.P.Life.last_setup session plan.firsts.items olds news c.play.ensures.alike in
    let at = c.deref.ensures.value in
    let states : HaveStates g.P.Processor.state news (world scene [] c.take_in.new.journal.items (larger.pos + more)) =
    subst (λ (h : List Entry). HaveStates g.P.Processor.state news (world scene [] h (larger.pos + more))) at c.play.ensures.states in
    let values : c.show.new.shown.items ≡ of_all scene (seen_at scene (world scene [] c.take_in.new.journal.items (larger.pos + more)) (values_at scene c.take_in.new.journal.items last)) =
    c.show.ensures.shown (world scene [] c.take_in.new.journal.items (larger.pos + more)) states
    ∙ ap (λ (l : List ℕ). l ++ of_all (scene_in (setting_by g.P.Processor.class_of g.P.Processor.code session plan.firsts.items news)) (seen_at (scene_in (setting_by g.P.Processor.class_of g.P.Processor.code session plan.firsts.items news)) (world scene [] c.take_in.new.journal.items (larger.pos + more)) (values_at (scene_in (setting_by g.P.Processor.class_of g.P.Processor.code session plan.firsts.items news)) c.deref-2.result.now last))) c.in_ok-shown.ensures.shown
    ∙ ap (λ (t : Setting). of_all (scene_in t) (seen_at (scene_in t) (world scene [] c.take_in.new.journal.items (larger.pos + more)) (values_at (scene_in t) c.deref-2.result.now last))) same
    ∙ ap (λ (h : List Entry). of_all scene (seen_at scene (world scene [] c.take_in.new.journal.items (larger.pos + more)) (values_at scene h last))) c.deref-2.ensures.value in
    let some = c.if-more-eq0.false in
    let rendered : HasRendered setting more last mid new (map return_of c.play.new.returns.items) = record {
      puts = refl;
      controllers = refl;
      inbox = refl;
      journal = refl;
      flushed = refl;
      pos = refl;
      last_is = omega (arith, some);
      frames = c.play.ensures.frames ∙ ap (λ (h : List Entry). larger.frames.items ++ flat_map (out_at scene [] h) (range_with_len larger.pos more)) at;
      played = c.play.ensures.replies ∙ ap (λ (h : List Entry). map return_of larger.returns.items ++ flat_map (replies_at setting h) (range_with_len larger.pos more)) at;
      returns =
          c.tell.ensures
          ∙ ap (λ (l : List ℕ). map return_of c.play.new.returns.items ++ echoes l c.deref-4.result.now) c.deref-3.ensures.value
          ∙ ap (λ (l : List ℕ). map return_of c.play.new.returns.items ++ echoes larger.values.items l) c.deref-4.ensures.value;
      values = values;
    } in
    let gone = gone_some setting count more last old mid new (map return_of c.play.new.returns.items) refl going taken rendered in
    let all : count ≡ min c.args.take (length old.inbox.items) = c.min-count.ensures ∙ ap (min c.args.take) (c.len.ensures ∙ old.inbox.ok.0) in
    let rest : more ≡ min c.args.frames (session.length - old.pos) = c.min-more.ensures in
    audio_run g.P.Processor.class_of g.P.Processor.code g.P.Processor.state g.P.Life.phase g.P.Life.last_setup session (few_channels c.args.session.now) plan c.args.room.now c.show.new.room olds news old new
    machine c.play.ensures.alike c.show.ensures.room count c.args.take more c.args.frames going all rest gone states

pub returns-clause-machine : goal.returns-clause-machine
returns-clause-machine g c =
    let session = content_of c.args.session.now in
    let plan = c.args.plan.now in
    let old = c.args.kept.now in
    let olds = c.args.processors.now in
    let larger = c.reserve.new.self in
    let count = c.min-count.result in
    let setting = setting_by g.P.Processor.class_of g.P.Processor.code session plan.firsts.items olds in
    let machine = c.requires.machine in
    let going = c.if-kept.false in
    let mid : Kept = record larger { inbox = c.take_in.new.inbox; journal = c.take_in.new.journal } in
    let taken : HasTaken count old mid = taken_in count old larger mid c.reserve.ensures.same (record {
      puts = refl;
      controllers = refl;
      inbox = c.take_in.ensures.inbox;
      journal = c.take_in.ensures.journal;
      pos = refl;
      frames = refl;
      flushed = refl;
      returns = refl;
      values = refl;
    }) in
    let more = c.min-more.result in
    let news = c.play.new.processors in
    let last = c.reserve.new.self.pos + more - 1 in
    let new : Kept = record mid { pos = larger.pos + more; frames = c.play.new.frames; returns = c.tell.new.returns; values = c.show.new.shown } in
    let scene = scene_in setting in
    let same = setting_on g.P.Processor.class_of g.P.Processor.code g.P.Life.phase g.P.Life.last_setup session plan.firsts.items olds news c.play.ensures.alike in
    let at = c.deref.ensures.value in
    let states : HaveStates g.P.Processor.state news (world scene [] c.take_in.new.journal.items (larger.pos + more)) =
    subst (λ (h : List Entry). HaveStates g.P.Processor.state news (world scene [] h (larger.pos + more))) at c.play.ensures.states in
    let values : c.show.new.shown.items ≡ of_all scene (seen_at scene (world scene [] c.take_in.new.journal.items (larger.pos + more)) (values_at scene c.take_in.new.journal.items last)) =
    c.show.ensures.shown (world scene [] c.take_in.new.journal.items (larger.pos + more)) states
    ∙ ap (λ (l : List ℕ). l ++ of_all (scene_in (setting_by g.P.Processor.class_of g.P.Processor.code session plan.firsts.items news)) (seen_at (scene_in (setting_by g.P.Processor.class_of g.P.Processor.code session plan.firsts.items news)) (world scene [] c.take_in.new.journal.items (larger.pos + more)) (values_at (scene_in (setting_by g.P.Processor.class_of g.P.Processor.code session plan.firsts.items news)) c.deref-2.result.now last))) c.in_ok-shown.ensures.shown
    ∙ ap (λ (t : Setting). of_all (scene_in t) (seen_at (scene_in t) (world scene [] c.take_in.new.journal.items (larger.pos + more)) (values_at (scene_in t) c.deref-2.result.now last))) same
    ∙ ap (λ (h : List Entry). of_all scene (seen_at scene (world scene [] c.take_in.new.journal.items (larger.pos + more)) (values_at scene h last))) c.deref-2.ensures.value in
    let some = c.if-more-eq0.false in
    let rendered : HasRendered setting more last mid new (map return_of c.play.new.returns.items) = record {
      puts = refl;
      controllers = refl;
      inbox = refl;
      journal = refl;
      flushed = refl;
      pos = refl;
      last_is = omega (arith, some);
      frames = c.play.ensures.frames ∙ ap (λ (h : List Entry). larger.frames.items ++ flat_map (out_at scene [] h) (range_with_len larger.pos more)) at;
      played = c.play.ensures.replies ∙ ap (λ (h : List Entry). map return_of larger.returns.items ++ flat_map (replies_at setting h) (range_with_len larger.pos more)) at;
      returns =
          c.tell.ensures
          ∙ ap (λ (l : List ℕ). map return_of c.play.new.returns.items ++ echoes l c.deref-4.result.now) c.deref-3.ensures.value
          ∙ ap (λ (l : List ℕ). map return_of c.play.new.returns.items ++ echoes larger.values.items l) c.deref-4.ensures.value;
      values = values;
    } in
    let gone = gone_some setting count more last old mid new (map return_of c.play.new.returns.items) refl going taken rendered in
    let all : count ≡ min c.args.take (length old.inbox.items) = c.min-count.ensures ∙ ap (min c.args.take) (c.len.ensures ∙ old.inbox.ok.0) in
    let rest : more ≡ min c.args.frames (session.length - old.pos) = c.min-more.ensures in
    audio_machine g.P.Processor.class_of g.P.Processor.code g.P.Processor.state g.P.Life.phase g.P.Life.last_setup session (few_channels c.args.session.now) plan c.args.room.now c.show.new.room olds news old new
    machine c.play.ensures.alike c.show.ensures.room count c.args.take more c.args.frames going all rest gone states
