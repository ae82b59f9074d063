use Rattle.std.proofs.Common.{[], ◌∷◌, refl}
use Rattle.std.specs.List.{IsDistinct}
use Rattle.vh_back.specs.Items.{parameter, is_same}
use Rattle.back_tests.proofs.told.what_did_not_change_is_not_echoed.Goals as goal

two_differ : IsDistinct is_same (parameter 0 0 ∷ parameter 0 1 ∷ [])
unfolding IsDistinct
two_differ = ((refl, tt), (tt, tt))

pub offer_changes-requires-clause-apart : goal.offer_changes-requires-clause-apart
offer_changes-requires-clause-apart g c = two_differ

pub offer_changes-requires-2-clause-apart : goal.offer_changes-requires-2-clause-apart
offer_changes-requires-2-clause-apart g c = two_differ

pub offer_changes-requires-3-clause-apart : goal.offer_changes-requires-3-clause-apart
offer_changes-requires-3-clause-apart g c = two_differ
