use Rattle.std.proofs.Common.{◌≡◌, ℕ, ◌<◌, false, length, map}
use Rattle.std.specs.List.{range_with_len}
use Rattle.vh_preset.specs.Form.{entry_at, is_out}
use Rattle.vh_preset.proofs.reader.read_entries.Given as goal

abbrev pub invariant-loop-i : goal.invariant-loop-i
invariant-loop-i l = record {
  entries : l.entries.items ≡ map (entry_at l.bytes) (range_with_len 0 l.i);
  count : l.entries.len ≡ l.i;
  room : l.entries.cap ≡ l.count;
  within : (k : ℕ) → k < l.i → is_out (length l.bytes) (entry_at l.bytes k) ≡ false;
}
