use Rattle.std.proofs.Common.{◌≡◌, ◌∙◌, ◌≤◌, ℕ, List, length, sum, Result, sym, ap, subst, arith}
use Rattle.std.specs.Prelude.{All, IfOk, OnOk, Vec}
use Rattle.std.specs.declared.alloc.AllocError.{AllocError}
use Rattle.std.specs.declared.alloc.Global.{Global}
use Rattle.vh_component.specs.declared.setup.Phase.TheVariants.{Processing as AtProcessing}
use Rattle.vh_component.specs.declared.states.Processing.{Processing}
use Rattle.vh_cut.specs.Cut.{IsPattern}
use Rattle.vh_engine.specs.declared.parts.Parts.{Parts}
use Rattle.vh_engine.specs.Staged.{holders_of}
use Rattle.vh_instance.specs.Band.{of_processors}
use Rattle.vh_meaning.specs.Rendering.{stops}
use Rattle.vh_gen.specs.Summary.{gen_text}
use Rattle.vh_host.specs.Generated.{drawn_scene, drawn_calls}
use Rattle.vh_host.proofs.Ready.{held, parts_of, still_held}
use Rattle.vh_host.proofs.Sums.{IsScoreFor, summable, text_is, calls_are, if_ok, on_ok}
use Rattle.vh_host.proofs.generated.sum_band.Goals as goal
use Rattle.vh_host.proofs.generated.sum_band.Goals.{in-Ok-new, in-Err}

pub new-requires-2-clause-parts : goal.new-requires-2-clause-parts
new-requires-2-clause-parts g c = parts_of _ _ c.requires.band.0 _ _ c.requires.band.1 c.args.drawn.session c.args.blocks.now.longest c.args.band c.requires.band.3

pub render_sums-sums-requires-clause-summable : goal.render_sums-sums-requires-clause-summable
render_sums-sums-requires-clause-summable g c =
    let score = c.score_of-score.ensures in
    let of_it : IsScoreFor c.args.drawn c.score_of-score.result = record { length = score.length; sound = score.sound; pattern = score.pattern ∙ c.requires.sizes; entries = score.entries ∙ c.deref-2.ensures.value; stops_are = score.stops ∙ c.deref-3.ensures.value ∙ c.in-Ok.ensures.stops ∙ ap stops c.deref.ensures.value; bits = score.bits; rate = score.rate } in
    let many = ap (λ (at : List ℕ). length at) (score.stops ∙ c.deref-3.ensures.value) in
    let counted = c.len.ensures in
    let most = c.in-Ok.supplies.stops.ok.0 in
    summable _ _ c.requires.band.0 _ c.requires.band.1 c.args.number c.args.drawn c.requires.band.2 c.args.blocks.now.longest c.args.band c.requires.band.3 c.len.result c.in-Ok-new.engine c.in-Ok-new.ensures.fresh c.score_of-score.result of_it
    (subst IsPattern (sym score.pattern) c.requires.pattern) (subst (λ (sizes : List ℕ). All (λ (size : ℕ). size ≤ c.args.blocks.now.longest) sizes) (sym score.pattern) c.args.blocks.now.each) (omega (arith, many, counted, most))

pub returns-clause-held : goal.returns-clause-held
returns-clause-held g c =
    let same : holders_of c.match-new-2.parts.0.processors.items ≡ holders_of c.args.band.processors.items = elim c.match-new-2.branch [
      | in-Ok-new w ↦ ap (λ p. holders_of p.0.processors.items) w.parts-is ∙ w.finish.ensures.holders ∙ w.render_sums-sums.ensures.same.holders ∙ w.in-Ok-new.ensures.fresh.holders
      | in-Err w ↦ ap (λ p. holders_of p.0.processors.items) w.parts-is ∙ ap (λ p. holders_of p.processors.items) w.in-Err.ensures.back
    ] in
    still_held c.args.band c.match-new-2.parts.0.processors c.match-new-2.parts.0.first
    (held _ _ c.requires.band.0 _ _ c.requires.band.1 c.args.drawn.session c.args.blocks.now.longest c.args.band c.requires.band.3) same

pub returns-clause-processing : goal.returns-clause-processing
returns-clause-processing g c = elim c.match-new-2.branch [
  | in-Ok-new w ↦ subst (λ (ps : List (Processing g.row.P.Denot)). All (λ phase. phase ≡ AtProcessing) (of_processors g.P.Life.phase ps)) (sym (ap (λ p. p.0.processors.items) w.parts-is)) w.finish.ensures.processing
  | in-Err w ↦ subst (λ (ps : List (Processing g.row.P.Denot)). All (λ phase. phase ≡ AtProcessing) (of_processors g.P.Life.phase ps))
      (sym (ap (λ p. p.0.processors.items) w.parts-is ∙ ap (λ p. p.processors.items) w.in-Err.ensures.back)) c.requires.band.3.components.phases
]

pub returns-clause-text : goal.returns-clause-text
returns-clause-text g c = λ known same from is.
    let says : List ℕ → Type 0 = λ text. text ≡ gen_text known.infos (drawn_scene known c.args.number) c.args.number in
    elim c.match-new-2.branch [
      | in-Ok-new w ↦
          let score = c.score_of-score.ensures in
          let of_it : IsScoreFor c.args.drawn c.score_of-score.result = record { length = score.length; sound = score.sound; pattern = score.pattern ∙ c.requires.sizes; entries = score.entries ∙ c.deref-2.ensures.value; stops_are = score.stops ∙ c.deref-3.ensures.value ∙ c.in-Ok.ensures.stops ∙ ap stops c.deref.ensures.value; bits = score.bits; rate = score.rate } in
          let counted = w.len-in-Ok-new.ensures in
          let most = c.args.drawn.entries.ok.0 in
          subst (λ (p : Parts g.row.P.Denot × Result (Vec ℕ Global) AllocError). IfOk p.1 (λ text. says text.items)) (sym w.parts-is)
          (if_ok w.summary-text.result _ (λ text. says text.items)
          (λ text is_text. text_is _ _ known _ same c.args.number c.args.drawn from c.args.blocks.now.longest c.args.band is c.len.result w.in-Ok-new.engine w.in-Ok-new.ensures.fresh c.score_of-score.result of_it
          text.items c.len-nodes.result w.len-in-Ok-new.result w.render_sums-sums.result.pieces w.render_sums-sums.result.sum c.sound_is_input.ensures w.in-Ok-new.ensures.stands is_text
          c.len-nodes.ensures.count (omega (arith, counted, most)) w.render_sums-sums.ensures.pieces w.render_sums-sums.ensures.sum)
          w.summary-text.ensures)
      | in-Err w ↦ subst (λ (p : Parts g.row.P.Denot × Result (Vec ℕ Global) AllocError). IfOk p.1 (λ text. says text.items)) (sym w.parts-is) tt
    ]

pub returns-clause-calls : goal.returns-clause-calls
returns-clause-calls g c = λ known same from is. elim c.match-new-2.branch [
  | in-Ok-new w ↦
      let score = c.score_of-score.ensures in
      let of_it : IsScoreFor c.args.drawn c.score_of-score.result = record { length = score.length; sound = score.sound; pattern = score.pattern ∙ c.requires.sizes; entries = score.entries ∙ c.deref-2.ensures.value; stops_are = score.stops ∙ c.deref-3.ensures.value ∙ c.in-Ok.ensures.stops ∙ ap stops c.deref.ensures.value; bits = score.bits; rate = score.rate } in
      subst (λ (p : Parts g.row.P.Denot × Result (Vec ℕ Global) AllocError). OnOk p.1 (sum (of_processors g.P.Processor.calls p.0.processors.items) ≡ drawn_calls known c.args.number)) (sym w.parts-is)
      (on_ok w.summary-text.result _
      (ap sum w.finish.ensures.calls_are
      ∙ calls_are _ _ known _ same c.args.number c.args.drawn from c.args.blocks.now.longest c.args.band is c.len.result w.in-Ok-new.engine w.in-Ok-new.ensures.fresh c.score_of-score.result of_it w.render_sums-sums.new.engine.calls w.render_sums-sums.ensures.calls))
  | in-Err w ↦ subst (λ (p : Parts g.row.P.Denot × Result (Vec ℕ Global) AllocError). OnOk p.1 (sum (of_processors g.P.Processor.calls p.0.processors.items) ≡ drawn_calls known c.args.number)) (sym w.parts-is) tt
]
