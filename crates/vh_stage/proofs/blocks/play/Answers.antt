use Rattle.std.proofs.Common.{rules, ◌≡◌, ◌∙◌, ◌+◌, ◌++◌, ◌∷◌, [], ℕ, List, length, map, sym, ap, subst, arith}
use Rattle.std.proofs.lemmas.List.{length_push}
use Rattle.vh_plugin.specs.Counts.{raised}
use Rattle.vh_cut.specs.Pieces.{left}
use Rattle.vh_session.specs.Content.{Content}
use Rattle.vh_legal.specs.Blocks.{IsAtBlock}
use Rattle.vh_engine.proofs.Rooms.{same_twice}
use Rattle.vh_render.specs.Playing.{called}
use Rattle.vh_stage.specs.Playing.{IsUpTo}
use Rattle.vh_stage.specs.Staged.{AreAtBlocks}
use Rattle.vh_stage.proofs.Calls.{calls_more}
use Rattle.vh_stage.proofs.Stages.{same_stage_twice}
use Rattle.vh_stage.proofs.Turns.{pieces_in, start_at, turn_at, turns_end, at_block}
use Rattle.vh_stage.proofs.blocks.play.Goals as goal

pub block-requires-clause-within : goal.block-requires-clause-within
block-requires-clause-within g c =
    let samples : ℕ = c.args.stage.now.engine.session.length in
    let pattern = c.args.pattern.now in
    let inv = c.loop-piece.invariant in
    let i : ℕ = length c.loop-piece.yielded in
    let first : c.into_iter-piece-iterator.result ≡ c.pieces-piece-items.result = search rules in
    let all : left c.pieces-piece-items.result ≡ pieces_in samples pattern = c.pieces-piece-items.ensures ∙ ap (λ (content : Content). pieces_in content.length pattern) c.session.ensures in
    let turn = turn_at c.pieces_lie_end_to_end.ensures samples pattern c.pieces-piece-items.result c.into_iter-piece-iterator.result c.loop-piece.piece-iterator c.next.new.self c.loop-piece.yielded c.next.result first all c.requires.pattern c.loop-piece.yielded_by c.next.ensures.steps c.in-Some.piece c.in-Some.is in
    let at = turn.1 in
    let within = at.within in
    let same = ap (λ (content : Content). content.length) inv.same.session in
    omega (arith, within, same)

pub block-requires-clause-space : goal.block-requires-clause-space
block-requires-clause-space g c =
    let samples : ℕ = c.args.stage.now.engine.session.length in
    let pattern = c.args.pattern.now in
    let inv = c.loop-piece.invariant in
    let i : ℕ = length c.loop-piece.yielded in
    let first : c.into_iter-piece-iterator.result ≡ c.pieces-piece-items.result = search rules in
    let all : left c.pieces-piece-items.result ≡ pieces_in samples pattern = c.pieces-piece-items.ensures ∙ ap (λ (content : Content). pieces_in content.length pattern) c.session.ensures in
    let turn = turn_at c.pieces_lie_end_to_end.ensures samples pattern c.pieces-piece-items.result c.into_iter-piece-iterator.result c.loop-piece.piece-iterator c.next.new.self c.loop-piece.yielded c.next.result first all c.requires.pattern c.loop-piece.yielded_by c.next.ensures.steps c.in-Some.piece c.in-Some.is in
    let at = turn.1 in
    let within = at.within in
    let start = at.start in
    let pushed = inv.pushed in
    let here = inv.at in
    let room = inv.space in
    let space = c.requires.space in
    omega (arith, within, start, pushed, here, room, space)

pub loop-piece-preserved : goal.loop-piece-preserved
loop-piece-preserved g c =
    let samples : ℕ = c.args.stage.now.engine.session.length in
    let pattern = c.args.pattern.now in
    let inv = c.loop-piece.invariant in
    let i : ℕ = length c.loop-piece.yielded in
    let first : c.into_iter-piece-iterator.result ≡ c.pieces-piece-items.result = search rules in
    let all : left c.pieces-piece-items.result ≡ pieces_in samples pattern = c.pieces-piece-items.ensures ∙ ap (λ (content : Content). pieces_in content.length pattern) c.session.ensures in
    let turn = turn_at c.pieces_lie_end_to_end.ensures samples pattern c.pieces-piece-items.result c.into_iter-piece-iterator.result c.loop-piece.piece-iterator c.next.new.self c.loop-piece.yielded c.next.result first all c.requires.pattern c.loop-piece.yielded_by c.next.ensures.steps c.in-Some.piece c.in-Some.is in
    let at = turn.1 in
    let piece = c.in-Some.piece in
    let next : i + 1 ≡ length (c.loop-piece.yielded ++ piece ∷ []) = sym (length_push c.loop-piece.yielded piece) in
    let same = ap (λ (content : Content). content.length) inv.same.session in
    let moved = c.in-Ok.ensures.at in
    let start = at.start in
    let here = inv.at in
    let pushed = inv.pushed in
    let more = c.in-Ok.ensures.pushed in
    let reads = inv.reads_later in
    let reads_on = c.in-Ok.ensures.reads_later in
    let writes = inv.writes_later in
    let writes_on = c.in-Ok.ensures.writes_later in
    let begins : IsAtBlock samples pattern piece.start = at_block c.pieces_lie_end_to_end.ensures samples pattern i piece c.requires.pattern turn.0 at in
    record {
      at = moved ∙ sym at.more ∙ ap (start_at samples pattern) next;
      heard = λ input before heard. c.in-Ok.ensures.heard input before (inv.heard input before heard);
      stands = λ input read. c.in-Ok.ensures.stands input (inv.stands input read);
      ready = c.in-Ok.ensures.ready;
      calls = c.in-Ok.ensures.calls ∙ ap (λ (l : List ℕ). map raised l) inv.calls ∙ calls_more i c.args.stage.now.engine.calls ∙ ap (λ n. map (called n) c.args.stage.now.engine.calls) next;
      told = λ firsts told. c.in-Ok.ensures.told firsts (inv.told firsts told);
      same = same_twice c.args.stage.now.engine c.loop-piece.stage.engine c.block.new.self.engine inv.same c.in-Ok.ensures.same;
      same_stage = same_stage_twice c.args.stage.now c.loop-piece.stage c.block.new.self inv.same_stage c.in-Ok.ensures.same_stage;
      gave = c.in-Ok.ensures.gave;
      rest_gave = c.in-Ok.ensures.rest_gave ∙ inv.rest_gave;
      blocks = subst (λ (n : ℕ). AreAtBlocks n pattern c.block.new.self.journal.items) same
          (c.in-Ok.ensures.blocks pattern (subst (λ (n : ℕ). IsAtBlock n pattern piece.start) (sym same) begins) (subst (λ (n : ℕ). AreAtBlocks n pattern c.loop-piece.stage.journal.items) (sym same) inv.blocks));
      up_to = subst (λ (n : ℕ). IsUpTo n c.block.new.self.journal.items) same c.in-Ok.ensures.up_to;
      pushed = omega (arith, more, pushed, moved, here, start);
      uncut = c.in-Ok.ensures.uncut;
      reads_later = omega (arith, reads, reads_on);
      writes_later = omega (arith, writes, writes_on);
      channels = c.in-Ok.ensures.channels ∙ inv.channels;
      space = c.in-Ok.ensures.space ∙ inv.space;
      max = c.in-Ok.ensures.max ∙ inv.max;
      rest = c.in-Ok.ensures.rest ∙ inv.rest;
    }

pub returns-in-Err-clause-blocks : goal.returns-in-Err-clause-blocks
returns-in-Err-clause-blocks g c =
    let samples : ℕ = c.args.stage.now.engine.session.length in
    let pattern = c.args.pattern.now in
    let inv = c.loop-piece.invariant in
    let i : ℕ = length c.loop-piece.yielded in
    let first : c.into_iter-piece-iterator.result ≡ c.pieces-piece-items.result = search rules in
    let all : left c.pieces-piece-items.result ≡ pieces_in samples pattern = c.pieces-piece-items.ensures ∙ ap (λ (content : Content). pieces_in content.length pattern) c.session.ensures in
    let turn = turn_at c.pieces_lie_end_to_end.ensures samples pattern c.pieces-piece-items.result c.into_iter-piece-iterator.result c.loop-piece.piece-iterator c.next.new.self c.loop-piece.yielded c.next.result first all c.requires.pattern c.loop-piece.yielded_by c.next.ensures.steps c.in-Some.piece c.in-Some.is in
    let at = turn.1 in
    let piece = c.in-Some.piece in
    let same = ap (λ (content : Content). content.length) inv.same.session in
    let begins : IsAtBlock samples pattern piece.start = at_block c.pieces_lie_end_to_end.ensures samples pattern i piece c.requires.pattern turn.0 at in
    subst (λ (n : ℕ). AreAtBlocks n pattern c.block.new.self.journal.items) same
    (c.in-Err.ensures.blocks pattern (subst (λ (n : ℕ). IsAtBlock n pattern piece.start) (sym same) begins) (subst (λ (n : ℕ). AreAtBlocks n pattern c.loop-piece.stage.journal.items) (sym same) inv.blocks))

pub returns-clause-at : goal.returns-clause-at
returns-clause-at g c =
    let samples : ℕ = c.args.stage.now.engine.session.length in
    let pattern = c.args.pattern.now in
    let inv = c.loop-piece.invariant in
    let i : ℕ = length c.loop-piece.yielded in
    let first : c.into_iter-piece-iterator.result ≡ c.pieces-piece-items.result = search rules in
    let all : left c.pieces-piece-items.result ≡ pieces_in samples pattern = c.pieces-piece-items.ensures ∙ ap (λ (content : Content). pieces_in content.length pattern) c.session.ensures in
    inv.at ∙ (turns_end c.pieces_lie_end_to_end.ensures samples pattern c.pieces-piece-items.result c.into_iter-piece-iterator.result c.loop-piece.piece-iterator c.next.new.self c.loop-piece.yielded c.next.result first all c.requires.pattern c.loop-piece.yielded_by c.next.ensures.steps c.in-None.is).1
