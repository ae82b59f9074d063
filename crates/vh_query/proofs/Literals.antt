-- The tables of components and of controllers.
use Rattle.std.proofs.Common.{◌≢◌, ℕ, zero, suc, ◌<◌, List, [], ◌∷◌, length, get_or, refl, arith}
use Rattle.std.specs.Prelude.{All}
use Rattle.std.proofs.lemmas.List.Elements.{All-cons, All-nil}
use Rattle.vh_ids.specs.declared.interface.Interface.{Interface}
use Rattle.vh_ids.specs.declared.interface.Interface.TheVariants.{Unknown, PluginBase, Component, AudioProcessor, EditController, ConnectionPoint}
use Rattle.vh_query.specs.Tables.{IsTable}

-- an interface that is none of these
record OtherThan (k : Interface) (ks : List Interface) : Type 0 where
  all : All (λ x. k ≢ x) ks

-- no two of these are the same
record Different (ks : List Interface) : Type 0 where
  apart : (i j : ℕ) (d : Interface) → i < j → j < length ks → get_or ks i d ≢ get_or ks j d

apart_more : (k : Interface) (ks : List Interface) → All (λ x. k ≢ x) ks → ((i j : ℕ) (d : Interface) → i < j → j < length ks → get_or ks i d ≢ get_or ks j d) → (i j : ℕ) (d : Interface) → i < j → j < length (k ∷ ks) → get_or (k ∷ ks) i d ≢ get_or (k ∷ ks) j d
apart_more k ks others rest zero zero d before lt = absurd (omega arith)
apart_more k ks others rest zero (suc j) d before lt = others j d (omega arith)
apart_more k ks others rest (suc i) zero d before lt = absurd (omega arith)
apart_more k ks others rest (suc i) (suc j) d before lt = rest i j d (omega arith) (omega arith)

nothing : Different []
nothing = record { apart = λ i j d before lt. absurd (omega arith) }

more : {k : Interface} {ks : List Interface} → OtherThan k ks → Different ks → Different (k ∷ ks)
more {k} {ks} others rest = record { apart = apart_more k ks others.all rest.apart }

none : {k : Interface} → OtherThan k []
none {k} = record { all = All-nil (λ y. k ≢ y) }

one : {k x : Interface} {xs : List Interface} → k ≢ x → OtherThan k xs → OtherThan k (x ∷ xs)
one {k} {x} {xs} here rest = record { all = All-cons (λ y. k ≢ y) x xs here rest.all }

unknown_base : Unknown ≢ PluginBase
unknown_base e = cc

unknown_component : Unknown ≢ Component
unknown_component e = cc

unknown_processor : Unknown ≢ AudioProcessor
unknown_processor e = cc

unknown_controller : Unknown ≢ EditController
unknown_controller e = cc

unknown_point : Unknown ≢ ConnectionPoint
unknown_point e = cc

base_component : PluginBase ≢ Component
base_component e = cc

base_processor : PluginBase ≢ AudioProcessor
base_processor e = cc

base_controller : PluginBase ≢ EditController
base_controller e = cc

base_point : PluginBase ≢ ConnectionPoint
base_point e = cc

component_processor : Component ≢ AudioProcessor
component_processor e = cc

component_point : Component ≢ ConnectionPoint
component_point e = cc

processor_point : AudioProcessor ≢ ConnectionPoint
processor_point e = cc

controller_point : EditController ≢ ConnectionPoint
controller_point e = cc

component_differs : Different (Unknown ∷ PluginBase ∷ Component ∷ AudioProcessor ∷ ConnectionPoint ∷ [])
component_differs =
    more (one unknown_base (one unknown_component (one unknown_processor (one unknown_point none))))
    (more (one base_component (one base_processor (one base_point none))) (more (one component_processor (one component_point none)) (more (one processor_point none) (more none nothing))))

controller_differs : Different (Unknown ∷ PluginBase ∷ EditController ∷ ConnectionPoint ∷ [])
controller_differs =
    more (one unknown_base (one unknown_controller (one unknown_point none))) (more (one base_controller (one base_point none)) (more (one controller_point none) (more none nothing)))

pub component_table : IsTable (Unknown ∷ PluginBase ∷ Component ∷ AudioProcessor ∷ ConnectionPoint ∷ [])
component_table = record { some = omega arith; first = λ d. refl; differ = component_differs.apart }

pub controller_table : IsTable (Unknown ∷ PluginBase ∷ EditController ∷ ConnectionPoint ∷ [])
controller_table = record { some = omega arith; first = λ d. refl; differ = controller_differs.apart }
