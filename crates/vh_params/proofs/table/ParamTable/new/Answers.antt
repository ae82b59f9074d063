use Rattle.std.proofs.Common.{◌≡◌, List, None, sym, subst, ◌∙◌, arith}
use Rattle.std.specs.Prelude.{All}
use Rattle.vh_params.specs.declared.param.UnitInfo.{UnitInfo}
use Rattle.vh_params.specs.Params.{table_fault, IsLawful}
use Rattle.vh_params.proofs.SortedOnce.{sorted_once}
use Rattle.vh_params.proofs.Tables.{rising_list, lawful_list, length_list, finds_list}
use Rattle.vh_params.proofs.table.ParamTable.new.Goals as goal

pub invariant_of-result-clause-most : goal.invariant_of-result-clause-most
invariant_of-result-clause-most c =
    let none : table_fault c.args.params.now c.args.units.now ≡ None = sym c.table_fault.ensures ∙ c.in-None.is in
    omega (arith, length_list c.args.units.now c.args.params.now c.in_ok-params.params.items none c.in_ok-params.ensures.order c.in_ok-params.ensures.rising, c.requires.most)

pub invariant_of-result-clause-rising : goal.invariant_of-result-clause-rising
invariant_of-result-clause-rising c =
    let none : table_fault c.args.params.now c.args.units.now ≡ None = sym c.table_fault.ensures ∙ c.in-None.is in
    rising_list c.args.units.now c.args.params.now c.in_ok-params.params.items none c.in_ok-params.ensures.order c.in_ok-params.ensures.rising

pub invariant_of-result-clause-lawful : goal.invariant_of-result-clause-lawful
invariant_of-result-clause-lawful c =
    let none : table_fault c.args.params.now c.args.units.now ≡ None = sym c.table_fault.ensures ∙ c.in-None.is in
    let lawful = lawful_list c.args.units.now c.args.params.now c.in_ok-params.params.items none c.in_ok-params.ensures.order c.in_ok-params.ensures.rising in
    let P : List UnitInfo → Type 0 = λ units. All (IsLawful units) c.in_ok-params.params.items in
    subst P (sym c.in_ok-units.ensures.items) lawful

pub returns-clause-finds : goal.returns-clause-finds
returns-clause-finds c =
    let none : table_fault c.args.params.now c.args.units.now ≡ None = sym c.table_fault.ensures ∙ c.in-None.is in
    finds_list c.args.units.now c.args.params.now c.in_ok-params.params.items none c.in_ok-params.ensures.order

pub returns-clause-kept : goal.returns-clause-kept
returns-clause-kept c rises =
    let none : table_fault c.args.params.now c.args.units.now ≡ None = sym c.table_fault.ensures ∙ c.in-None.is in
    sorted_once c.in_ok-params.params.items c.args.params.now (rising_list c.args.units.now c.args.params.now c.in_ok-params.params.items none c.in_ok-params.ensures.order c.in_ok-params.ensures.rising) rises
    (finds_list c.args.units.now c.args.params.now c.in_ok-params.params.items none c.in_ok-params.ensures.order)
