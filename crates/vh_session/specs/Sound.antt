-- What holds of a session's lines so far, beside what they say.
use Rattle.std.specs.Prelude.{◌≡◌, ◌<◌, ◌≤◌, ⊤, ℕ, All, IsSome, IfSome, length}
use Rattle.vh_params.specs.Nodes.{nodes_of, info_in}
use Rattle.vh_session.specs.declared.draft.Draft.{Draft as Kept}
use Rattle.vh_session.specs.declared.wire.End.{End}
use Rattle.vh_session.specs.declared.wire.End.TheVariants.{In, Out, Node as AtNode}
use Rattle.vh_session.specs.declared.wire.Wire.{Wire}

-- an end that is one of so many nodes, where it is a node
abbrev pub EndFits : ℕ → End → Type 0
EndFits count In = ⊤
EndFits count Out = ⊤
EndFits count (AtNode node) = node < count

abbrev pub WireFits : ℕ → Wire → Type 0
WireFits count wire = EndFits count wire.from × EndFits count wire.to

pub record IsSound (draft : Kept) : Type 0 where
  pub channels : IfSome draft.channels (λ n. n ≤ 2)
  pub bits : IfSome draft.bits (λ n. n ≤ 24)
  pub aligned : length draft.marks.items ≡ length (nodes_of draft.nodes)
  pub wires : All (λ wire. WireFits (length (nodes_of draft.nodes)) wire) draft.wires.items
  pub lanes : All (λ lane. IsSome (info_in (nodes_of draft.nodes) lane.node lane.id)) draft.lanes.items
