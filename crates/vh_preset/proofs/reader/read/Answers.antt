use Rattle.std.proofs.Common.{◌≡◌, Some, None, Err, sym, ap, ◌∙◌}
use Rattle.vh_num.specs.declared.refusal.Refusal.TheVariants.{Fault}
use Rattle.vh_preset.specs.Form.{first_of, head_faults, list_faults, range_fault, preset_fault}
use Rattle.vh_preset.proofs.Faults.{fault_of_head, fault_of_list, fault_of_range}
use Rattle.vh_preset.proofs.reader.read.Goals as goal

pub returns-in-Some-clause-refused : goal.returns-in-Some-clause-refused
returns-in-Some-clause-refused c = λ fault is.
    let bytes = c.args.bytes.items in
    let head : first_of (head_faults bytes) ≡ Some c.in-Some.fault = ap (λ xs. first_of (head_faults xs)) (sym c.deref.ensures.value) ∙ sym c.in-Some.ensures.value in
    let first : preset_fault bytes ≡ Some c.in-Some.fault = fault_of_head bytes c.in-Some.fault head in
    cc

pub returns-in-Some-list_fault-clause-refused : goal.returns-in-Some-list_fault-clause-refused
returns-in-Some-list_fault-clause-refused c = λ fault is.
    let bytes = c.args.bytes.items in
    let head : first_of (head_faults bytes) ≡ None = ap (λ xs. first_of (head_faults xs)) (sym c.deref.ensures.value) ∙ sym c.in_default.ensures.value in
    let list : first_of (list_faults bytes) ≡ Some c.in-Some-list_fault.fault = ap (λ xs. first_of (list_faults xs)) (sym c.deref-2.ensures.value) ∙ sym c.in-Some-list_fault.ensures.value in
    let first : preset_fault bytes ≡ Some c.in-Some-list_fault.fault = fault_of_list bytes c.in-Some-list_fault.fault head list in
    cc

pub returns-in-Err-clause-refused : goal.returns-in-Err-clause-refused
returns-in-Err-clause-refused c = λ fault is.
    let bytes = c.args.bytes.items in
    let head : first_of (head_faults bytes) ≡ None = ap (λ xs. first_of (head_faults xs)) (sym c.deref.ensures.value) ∙ sym c.in_default.ensures.value in
    let list : first_of (list_faults bytes) ≡ None = ap (λ xs. first_of (list_faults xs)) (sym c.deref-2.ensures.value) ∙ sym c.in_default-list_fault.ensures.value in
    let same : c.in-Err.refusal ≡ Fault fault = cc in
    let range : range_fault bytes ≡ Some fault = ap range_fault (sym c.deref-3.ensures.value) ∙ c.in-Err.ensures.refused fault (ap Err same) in
    fault_of_range bytes fault head list range
