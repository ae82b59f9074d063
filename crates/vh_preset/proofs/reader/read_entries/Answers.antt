use Rattle.std.proofs.Common.{◌≡◌, ◌+◌, ◌<◌, true, false, Some, length, sym, ap, ◌∙◌, arith, below_more}
use Rattle.vh_files.specs.Fields.{field_at}
use Rattle.vh_preset.specs.declared.fault.PresetFault.TheVariants.{BadRange}
use Rattle.vh_preset.specs.Form.{entry_at, count_in, is_out, range_fault}
use Rattle.vh_preset.proofs.Faults.{entry_where, entries_next, all_within, range_at, range_nowhere}
use Rattle.vh_preset.proofs.reader.read_entries.Goals as goal

pub returns-then-is_out-clause-refused : goal.returns-then-is_out-clause-refused
returns-then-is_out-clause-refused c = λ fault h.
    let bytes = c.args.bytes.now in
    let i = c.loop-i.i in
    let is : c.read_entry-entry.result ≡ entry_at bytes i = c.read_entry-entry.ensures ∙ entry_where bytes c.field64-list.result i c.field64-list.ensures in
    let out : is_out (length bytes) (entry_at bytes i) ≡ true = sym (c.is_out.ensures ∙ ap (is_out (length bytes)) is) ∙ c.if-is_out.true in
    let count : c.field32-count.result ≡ count_in bytes = c.field32-count.ensures ∙ ap (λ n. field_at bytes (n + 4) 4) c.field64-list.ensures in
    let within : i < count_in bytes = omega (arith, count) in
    let first : range_fault bytes ≡ Some (BadRange i) = range_at bytes i within c.loop-i.invariant.within out in
    cc

pub loop-i-preserved : goal.loop-i-preserved
loop-i-preserved c =
    let bytes = c.args.bytes.now in
    let i = c.loop-i.i in
    let is : c.read_entry-entry.result ≡ entry_at bytes i = c.read_entry-entry.ensures ∙ entry_where bytes c.field64-list.result i c.field64-list.ensures in
    let within : is_out (length bytes) (entry_at bytes i) ≡ false = sym (c.is_out.ensures ∙ ap (is_out (length bytes)) is) ∙ c.if-is_out.false in
    record {
      entries = c.push_reserved.ensures.items ∙ entries_next bytes i c.loop-i.entries.items c.read_entry-entry.result c.loop-i.invariant.entries is;
      count = c.push_reserved.ensures.len ∙ ap (λ n. n + 1) c.loop-i.invariant.count;
      room = c.push_reserved.ensures.capacity ∙ c.loop-i.invariant.room;
      within = below_more (λ k. is_out (length bytes) (entry_at bytes k) ≡ false) i c.loop-i.invariant.within within;
    }

pub returns-clause-within : goal.returns-clause-within
returns-clause-within c = all_within c.args.bytes.now c.loop-i.i c.loop-i.entries.items c.loop-i.invariant.entries c.loop-i.invariant.within

pub returns-clause-faultless : goal.returns-clause-faultless
returns-clause-faultless c =
    let bytes = c.args.bytes.now in
    let count : c.field32-count.result ≡ count_in bytes = c.field32-count.ensures ∙ ap (λ n. field_at bytes (n + 4) 4) c.field64-list.ensures in
    range_nowhere bytes (λ k h. c.loop-i.invariant.within k (omega (arith, count)))
