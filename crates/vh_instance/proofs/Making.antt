-- The instances of a node are as a band has them.
use Rattle.std.proofs.Common.{◌≡◌, ℕ, ◌+◌, ◌*◌, [], ◌∷◌, length, sym, ap, subst, ◌∙◌}
use Rattle.std.proofs.lemmas.List.Elements.{All-cons, All-nil}
use Rattle.vh_component.specs.declared.setup.Phase.TheVariants.{Processing as AtProcessing}
use Rattle.vh_component.specs.declared.states.Processing.{Processing}
use Rattle.vh_component.specs.Layouts.{buses_of}
use Rattle.vh_component.specs.States.{of_processing, layout_of_processing}
use Rattle.vh_counted.specs.declared.numbers.Numbers.{Numbers}
use Rattle.vh_counted.specs.declared.object.Object.{Object}
use Rattle.vh_counted.specs.declared.object.Counted.{Counted}
use Rattle.vh_counted.specs.declared.object.Opened.{Opened}
use Rattle.vh_counted.specs.Held.{object_of, object_of_opened, numbers_of_opened, value_of_opened}
use Rattle.vh_counted.specs.Objects.{IsWhole}
use Rattle.vh_instance.specs.Plan.{Plan, code_at, class_at}
use Rattle.vh_instance.specs.Presets.{mode_at}
use Rattle.vh_instance.specs.Firsts.{firsts_at}
use Rattle.vh_instance.specs.Seats.{Seat, opener_seat, processor_seat, AreTogether, Has}
use Rattle.vh_instance.specs.Band.{ProcessorMeaning, ControllerMeaning, buses_at, IsSetFor, IsComponent, IsController, component_table, component_object, controller_table, controller_object, kept_beside}

-- an object of these numbers
pub object_is : (object : Object) (interfaces cap : ℕ) → object.interfaces ≡ interfaces → object.cap ≡ cap → object ≡ record { interfaces = interfaces; cap = cap }
object_is object interfaces cap first second = ap (λ (n : ℕ). let o : Object = record { interfaces = n; cap = object.cap } in o) first ∙ ap (λ (n : ℕ). let o : Object = record { interfaces = interfaces; cap = n } in o) second

-- an opener of the same object with the same numbers
pub seat_is : {T U : Type 0} (new : Opened T) (old : Opened U) → object_of_opened new ≡ object_of_opened old → numbers_of_opened new ≡ numbers_of_opened old → opener_seat new ≡ opener_seat old
seat_is new old first second = ap (λ (o : Object). let s : Seat = record { object = o; numbers = numbers_of_opened new } in s) first ∙ ap (λ (n : Numbers). let s : Seat = record { object = object_of_opened old; numbers = n } in s) second

-- a whole opener is all there is of its object
pub alone : (object : Object) (seat : Seat) → seat.object ≡ object → IsWhole object.cap seat.numbers → AreTogether object (seat ∷ [])
alone object seat of whole = record { of = All-cons (λ (s : Seat). s.object ≡ object) seat [] of (All-nil (λ (s : Seat). s.object ≡ object)); whole = whole }

module _ {P : Type 0} (meant : ProcessorMeaning P) (plan : Plan) (node : ℕ) (component : Counted P) (opener : Opened P) (processor : Processing P) where
  pub component_made : meant.code (value_of_opened (of_processing processor)) ≡ code_at plan node → meant.values (value_of_opened (of_processing processor)) ≡ firsts_at plan node → meant.state (value_of_opened (of_processing processor)) ≡ (class_at plan node).start → meant.calls (value_of_opened (of_processing processor)) ≡ 0
      → meant.phase (value_of_opened (of_processing processor)) ≡ AtProcessing → IsSetFor plan (meant.setup (value_of_opened (of_processing processor))) → buses_of (layout_of_processing processor) ≡ buses_at plan node → processor_seat processor ≡ opener_seat opener
      → object_of component ≡ component_object → Has component_table (λ interface. 1) 0 (opener_seat opener) → object_of_opened opener ≡ object_of component → IsWhole 4 (numbers_of_opened opener)
      → IsComponent meant plan node component processor
  component_made code values state calls phase setup buses seat object references of whole =
      let all : IsWhole (object_of component).cap (numbers_of_opened opener) = subst (λ (o : Object). IsWhole o.cap (numbers_of_opened opener)) (sym object) whole in
      record {
        code = code;
        values = values;
        state = state;
        calls = calls;
        phase = phase;
        setup = setup;
        buses = buses;
        object = object;
        references = subst (λ (s : Seat). Has component_table (λ interface. 1) 0 s) (sym seat) references;
        held = subst (λ (s : Seat). AreTogether (object_of component) (s ∷ [])) (sym seat) (alone (object_of component) (opener_seat opener) of all);
      }

module _ {C : Type 0} (meant : ControllerMeaning C) (plan : Plan) (node : ℕ) (controller : Counted C) (edit : Opened C) where
  pub controller_made : meant.code (value_of_opened edit) ≡ code_at plan node → meant.values (value_of_opened edit) ≡ firsts_at plan node → meant.mode (value_of_opened edit) ≡ mode_at plan node
      → object_of controller ≡ controller_object (length plan.content.scripts) → Has controller_table (kept_beside (2 * length plan.content.scripts)) (64 * length plan.content.scripts) (opener_seat edit)
      → object_of_opened edit ≡ object_of controller → IsWhole (2 + 66 * length plan.content.scripts) (numbers_of_opened edit)
      → IsController meant plan node controller edit
  controller_made code values mode object references of whole = record {
    code = code;
    values = values;
    mode = mode;
    object = object;
    references = references;
    held = alone (object_of controller) (opener_seat edit) of (subst (λ (o : Object). IsWhole o.cap (numbers_of_opened edit)) (sym object) whole);
  }
