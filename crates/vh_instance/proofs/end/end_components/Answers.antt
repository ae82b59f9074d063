use Rattle.std.proofs.Common.{◌≡◌, ℕ, ◌+◌, List, length, sym, ap, ◌∙◌, arith}
use Rattle.vh_component.specs.declared.setup.Phase.{Phase}
use Rattle.vh_component.specs.declared.setup.Phase.TheVariants.{Processing as AtProcessing}
use Rattle.std.proofs.lemmas.List.{length_push, nil_from_length}
use Rattle.vh_component.specs.declared.states.Processing.{Processing}
use Rattle.vh_counted.specs.declared.object.Counted.{Counted}
use Rattle.vh_instance.specs.Raised.{raised_times, raised_by_each}
use Rattle.vh_instance.specs.Band.{of_processors}
use Rattle.vh_instance.proofs.Counting.{raised_less}
use Rattle.vh_instance.proofs.Ends.{processors_size, last_component, front_components, last_meant, front_meant, each_less}
use Rattle.vh_instance.proofs.end.end_components.Goals as goal

pub take_last-requires : goal.take_last-requires
take_last-requires g c =
    let size = processors_size c.loop.components.items c.loop.processors.items c.loop.invariant.held in
    omega (arith, size, c.take_last-component.ensures.len, c.loop.components.ok.0, c.loop.processors.ok.0)

pub end_component-requires-clause-held : goal.end_component-requires-clause-held
end_component-requires-clause-held g c κs within =
    last_component c.loop.components.items c.take_last-component.new.self.items c.take_last-component.result c.loop.processors.items c.take_last.new.self.items c.take_last.result c.take_last-component.ensures.items c.take_last.ensures.items c.loop.invariant.held

pub end_component-requires-clause-processing : goal.end_component-requires-clause-processing
end_component-requires-clause-processing g c κs within =
    last_meant (λ (phase : Phase). phase ≡ AtProcessing) g.S.P.Life.phase c.loop.processors.items c.take_last.new.self.items c.take_last.result c.take_last.ensures.items c.loop.invariant.processing

pub loop-preserved : goal.loop-preserved
loop-preserved g c =
    let invariant = c.loop.invariant in
    let ended = c.end_component.ensures in
    let rest = c.take_last-component.new.self.items in
    let less : length c.loop.components.items ≡ length rest + 1 = ap (λ (xs : List (Counted g.row.S-P.Denot)). length xs) c.take_last-component.ensures.items ∙ length_push rest c.take_last-component.result in
    record {
      left = omega (arith, less, invariant.left);
      held = front_components c.loop.components.items rest c.take_last-component.result c.loop.processors.items c.take_last.new.self.items c.take_last.result c.take_last-component.ensures.items c.take_last.ensures.items invariant.held;
      processing = front_meant (λ (phase : Phase). phase ≡ AtProcessing) g.S.P.Life.phase c.loop.processors.items c.take_last.new.self.items c.take_last.result c.take_last.ensures.items invariant.processing;
      ended = ap (λ (k : ℕ). raised_times (length rest) k) ended.ended ∙ raised_less (length rest) (length c.loop.components.items) (g.S.PluginSet.ended c.loop.set) less ∙ invariant.ended;
      work = ap (λ (k : ℕ). raised_by_each (of_processors g.S.P.Processor.calls c.take_last.new.self.items) k) ended.work
          ∙ each_less g.S.P.Processor.calls c.loop.processors.items c.take_last.new.self.items c.take_last.result (g.S.PluginSet.work c.loop.set) c.take_last.ensures.items
          ∙ invariant.work;
      made = ended.made ∙ invariant.made;
      infos = ended.infos ∙ invariant.infos;
      codes = λ class. ended.codes class ∙ invariant.codes class;
    }

pub destroy_empty-requires-2 : goal.destroy_empty-requires-2
destroy_empty-requires-2 g c =
    let size = processors_size c.loop.components.items c.loop.processors.items c.loop.invariant.held in
    omega (arith, size, c.loop.invariant.left, c.loop-test.false, c.len-end.ensures, c.args.components.ok.0, c.loop.components.ok.0, c.loop.processors.ok.0)

pub returns-clause-work : goal.returns-clause-work
returns-clause-work g c =
    let size = processors_size c.loop.components.items c.loop.processors.items c.loop.invariant.held in
    let none : length c.loop.processors.items ≡ 0 = omega (arith, size, c.loop.invariant.left, c.loop-test.false, c.len-end.ensures, c.args.components.ok.0) in
    ap (λ (xs : List (Processing g.row.S-P.Denot)). raised_by_each (of_processors g.S.P.Processor.calls xs) (g.S.PluginSet.work c.loop.set)) (sym (nil_from_length c.loop.processors.items none)) ∙ c.loop.invariant.work
