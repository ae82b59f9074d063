use Rattle.std.proofs.Common.{refl, ◌≡◌, ◌∙◌, ◌*◌, ◌++◌, ◌⊎◌, ℕ, length, sym, ap, subst, arith}
use Rattle.vh_num.specs.Frames.{frames_of}
use Rattle.vh_stage.proofs.Carrying.{few_stops}
use Rattle.vh_stage.proofs.Played.{read_more, heard_more, cut_more, front_still, cut_some}
use Rattle.vh_stage.proofs.UnderWay.{under_way_more, values_count, answers_grow}
use Rattle.vh_stage.proofs.block.sound.Goals as goal

pub returns-in-Err-clause-front : goal.returns-in-Err-clause-front
returns-in-Err-clause-front g c =
    front_still g.I.Frames.reads g.I.Frames.wrote g.P.Processor.class_of c.args.engine.now c.args.frames.now c.pull.new.self c.args.entries.now c.args.n (g.I.Frames.cut c.pull.new.self)
    c.requires.at (c.in-Err.ensures.cut ∙ c.requires.whole) c.in-Err.ensures.wrote

pub returns-in-Ok-push-clause-heard : goal.returns-in-Ok-push-clause-heard
returns-in-Ok-push-clause-heard g c =
    let channels : ℕ = g.I.Frames.channels c.args.frames.now in
    let outs = c.block.new.outs in
    let one_or_two : (channels ≡ 1) ⊎ (channels ≡ 2) = subst (λ ch. (ch ≡ 1) ⊎ (ch ≡ 2)) (sym c.requires.channels) c.requires.some_channels in
    let long : length outs ≡ channels * c.args.n = c.block.ensures.long ∙ c.requires.outs ∙ ap (λ ch. ch * c.args.n) (sym c.requires.channels) in
    heard_more c.frames_are_in_place.ensures g.I.Frames.reads g.I.Frames.wrote g.P.Processor.class_of c.args.engine.now c.block.new.self c.args.frames.now c.pull.new.self c.push.new.self c.args.entries.now c.args.n channels c.pull.new.out outs
    c.block.ensures.same c.block.ensures.at c.requires.at c.requires.channels one_or_two long c.in-Ok.ensures.frames c.in-Ok.ensures.left c.block.ensures.stands c.block.ensures.out c.in-Ok.ensures.wrote
    (λ frames is. subst (λ ch. g.I.Frames.wrote c.push.new.self (frames ++ frames_of ch outs)) c.in-Ok.ensures.channels (c.in-Ok-push.ensures.wrote frames is))
    c.in-Ok-push.ensures.reads

pub returns-in-Ok-push-clause-room : goal.returns-in-Ok-push-clause-room
returns-in-Ok-push-clause-room g c = let few = few_stops c.args.entries.now in let room = c.block.ensures.room in omega (arith, few, room)

pub returns-in-Err-push-clause-front : goal.returns-in-Err-push-clause-front
returns-in-Err-push-clause-front g c =
    let channels : ℕ = g.I.Frames.channels c.args.frames.now in
    let outs = c.block.new.outs in
    let one_or_two : (channels ≡ 1) ⊎ (channels ≡ 2) = subst (λ ch. (ch ≡ 1) ⊎ (ch ≡ 2)) (sym c.requires.channels) c.requires.some_channels in
    let long : length outs ≡ channels * c.args.n = c.block.ensures.long ∙ c.requires.outs ∙ ap (λ ch. ch * c.args.n) (sym c.requires.channels) in
    cut_more c.frames_are_in_place.ensures g.I.Frames.reads g.I.Frames.wrote g.P.Processor.class_of c.args.engine.now c.block.new.self c.args.frames.now c.pull.new.self c.push.new.self c.args.entries.now c.args.n channels c.pull.new.out outs
    c.block.ensures.same c.block.ensures.at c.requires.at c.requires.channels one_or_two long c.in-Ok.ensures.frames c.in-Ok.ensures.left c.block.ensures.stands c.block.ensures.out c.in-Ok.ensures.wrote
    (g.I.Frames.cut c.push.new.self) (c.in-Err-push.ensures.cut ∙ ap (λ ch. frames_of ch outs) c.in-Ok.ensures.channels) c.in-Err-push.ensures.kept

pub returns-in-Err-push-clause-cut : goal.returns-in-Err-push-clause-cut
returns-in-Err-push-clause-cut g c = λ is none.
    let channels : ℕ = g.I.Frames.channels c.args.frames.now in
    let outs = c.block.new.outs in
    let one_or_two : (channels ≡ 1) ⊎ (channels ≡ 2) = subst (λ ch. (ch ≡ 1) ⊎ (ch ≡ 2)) (sym c.requires.channels) c.requires.some_channels in
    let long : length outs ≡ channels * c.args.n = c.block.ensures.long ∙ c.requires.outs ∙ ap (λ ch. ch * c.args.n) (sym c.requires.channels) in
    cut_some c.frames_are_in_place.ensures channels c.args.n outs (g.I.Frames.cut c.push.new.self) one_or_two long c.requires.some (c.in-Err-push.ensures.cut ∙ ap (λ ch. frames_of ch outs) c.in-Ok.ensures.channels) none

pub returns-in-Ok-push-clause-stands : goal.returns-in-Ok-push-clause-stands
returns-in-Ok-push-clause-stands g c =
    let channels : ℕ = g.I.Frames.channels c.args.frames.now in
    let outs = c.block.new.outs in
    let one_or_two : (channels ≡ 1) ⊎ (channels ≡ 2) = subst (λ ch. (ch ≡ 1) ⊎ (ch ≡ 2)) (sym c.requires.channels) c.requires.some_channels in
    let long : length outs ≡ channels * c.args.n = c.block.ensures.long ∙ c.requires.outs ∙ ap (λ ch. ch * c.args.n) (sym c.requires.channels) in
    read_more c.frames_are_in_place.ensures g.I.Frames.reads g.I.Frames.wrote g.P.Processor.class_of c.args.engine.now c.block.new.self c.args.frames.now c.pull.new.self c.push.new.self c.args.entries.now c.args.n channels c.pull.new.out outs
    c.block.ensures.same c.block.ensures.at c.requires.at c.requires.channels one_or_two long c.in-Ok.ensures.frames c.in-Ok.ensures.left c.block.ensures.stands c.block.ensures.out c.in-Ok.ensures.wrote
    c.in-Ok-push.ensures.reads

pub returns-in-Ok-push-clause-under_way : goal.returns-in-Ok-push-clause-under_way
returns-in-Ok-push-clause-under_way g c =
    under_way_more c.frames_are_in_place.ensures g.P.Processor.class_of c.args.engine.now c.block.new.self c.args.entries.now c.args.n c.args.engine.now.session.channels c.pull.new.out
    c.block.ensures.at refl c.requires.some_channels (c.pull.ensures.long ∙ c.requires.ins) c.block.ensures.stands

pub returns-in-Ok-push-clause-values : goal.returns-in-Ok-push-clause-values
returns-in-Ok-push-clause-values g c =
    values_count c.frames_are_in_place.ensures g.P.Processor.class_of c.args.engine.now c.block.new.self c.args.entries.now c.args.n c.args.engine.now.session.channels c.pull.new.out
    refl c.requires.some_channels (c.pull.ensures.long ∙ c.requires.ins) c.requires.some c.requires.classes c.block.ensures.values

pub returns-in-Ok-push-clause-answers : goal.returns-in-Ok-push-clause-answers
returns-in-Ok-push-clause-answers g c =
    answers_grow c.frames_are_in_place.ensures g.P.Processor.class_of c.args.engine.now c.block.new.self c.args.entries.now c.args.n c.args.engine.now.session.channels c.pull.new.out
    refl c.requires.some_channels (c.pull.ensures.long ∙ c.requires.ins) c.requires.at c.block.ensures.same c.block.ensures.stands
