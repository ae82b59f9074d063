use Rattle.std.proofs.Common.{◌≡◌, ◌≤◌, ◌<◌, ◌-◌, ℕ, take, get_or, length}
use Rattle.vh_journal.specs.declared.entry.Entry.{Entry}
use Rattle.vh_session.specs.Names.{content_of}
use Rattle.vh_legal.specs.Legal.{ArePlaced}
use Rattle.vh_legal.proofs.legal.are_placed.Given as goal

abbrev pub invariant-loop-entry : goal.invariant-loop-entry
invariant-loop-entry l = record {
  placed : ArePlaced l.session.length (content_of l.session).pattern (length l.session.scripts.items) (take l.entry-index l.entries);
  above : (k : ℕ) (d : Entry) → k < l.entry-index → (get_or l.entries k d).sample ≤ l.least;
  last : (d : Entry) → 0 < l.entry-index → l.least ≡ (get_or l.entries (l.entry-index - 1) d).sample;
  first : l.entry-index ≡ 0 → l.least ≡ 0;
}
