-- Buses that are switched and arranged in the array that holds them.
use Rattle.std.proofs.Common.{◌≡◌, ℕ, ◌<◌, ◌≤◌, ◌++◌, List, length, take, drop, map, set, get_or, Bool, ap, sym, ◌∙◌, arith}
use Rattle.std.proofs.lemmas.List.{take-map, take_all, drop_all, append-nil, get_or-take, get_or_default}
use Rattle.std.proofs.Math.Seq.{take-set-lt}
use Rattle.vh_component.specs.declared.layout.BusInfo.{BusInfo}
use Rattle.vh_component.specs.Buses.{arranged, switched, aux_bus}

pub all_arranged : (channels i n : ℕ) (buses old : List BusInfo) → buses ≡ map (arranged channels) (take i old) ++ drop i old → length old ≤ i → take n buses ≡ map (arranged channels) (take n old)
all_arranged channels i n buses old e all =
    ap (λ (xs : List BusInfo). take n xs) (e ∙ ap (λ (xs : List BusInfo). map (arranged channels) xs ++ drop i old) (take_all i old all) ∙ ap (λ (xs : List BusInfo). map (arranged channels) old ++ xs) (drop_all i old all) ∙ append-nil (map (arranged channels) old)) ∙ take-map (arranged channels) n old

pub switched_in : (n place : ℕ) (on : Bool) (buses : List BusInfo) (d : BusInfo) → place < n → n ≤ length buses → take n (set buses place (record (get_or buses place d) { active = on })) ≡ switched place on (take n buses)
switched_in n place on buses d lt le =
    let same = get_or-take n buses place (aux_bus 0) lt in
    let default = get_or_default buses place d (aux_bus 0) (omega arith) in
    take-set-lt n buses place (record (get_or buses place d) { active = on }) lt ∙ ap (λ (bus : BusInfo). set (take n buses) place (record bus { active = on })) (default ∙ sym same)
