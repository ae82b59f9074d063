-- What stays sound as nodes are added.
use Rattle.std.proofs.Common.{◌≡◌, ℕ, ◌<◌, List, [], ◌∷◌, ◌++◌, get_or, refl, sym, ap, arith, true≢false}
use Rattle.std.specs.Prelude.{All, IsSome, Some, None}
use Rattle.std.specs.Option.{is_some}
use Rattle.vh_params.specs.Nodes.{Node, info_in}
use Rattle.vh_session.specs.declared.draft.LaneDraft.{LaneDraft}
use Rattle.vh_session.specs.declared.wire.End.{End}
use Rattle.vh_session.specs.declared.wire.End.TheVariants.{In, Out, Node as AtNode}
use Rattle.vh_session.specs.declared.wire.Wire.{Wire}
use Rattle.vh_session.specs.Sound.{EndFits, WireFits}
use Rattle.vh_session.proofs.Params.{info_more}

end_more : (count more : ℕ) (end : End) → count < more → EndFits count end → EndFits more end
end_more count more In lt fit = fit
end_more count more Out lt fit = fit
end_more count more (AtNode node) lt fit = omega (arith, lt, fit)

pub wires_more : (count more : ℕ) (wires : List Wire) → count < more → All (λ wire. WireFits count wire) wires → All (λ wire. WireFits more wire) wires
wires_more count more wires lt all k d kl = (end_more count more (get_or wires k d).from lt (all k d kl).0, end_more count more (get_or wires k d).to lt (all k d kl).1)

there_more : (nodes : List Node) (new : Node) (node id : ℕ) → IsSome (info_in nodes node id) → IsSome (info_in (nodes ++ new ∷ []) node id)
there_more nodes new node id is = elim (info_in nodes node id) as (λ found. info_in nodes node id ≡ found → IsSome found → IsSome (info_in (nodes ++ new ∷ []) node id)) [
  | None ↦ λ e is. absurd (true≢false (sym is))
  | Some param ↦ λ e is. ap is_some (info_more nodes new node id param e)
] refl is

pub lanes_more : (nodes : List Node) (new : Node) (lanes : List LaneDraft) → All (λ lane. IsSome (info_in nodes lane.node lane.id)) lanes → All (λ lane. IsSome (info_in (nodes ++ new ∷ []) lane.node lane.id)) lanes
lanes_more nodes new lanes all k d lt = there_more nodes new (get_or lanes k d).node (get_or lanes k d).id (all k d lt)
