use Rattle.std.proofs.Common.{◌≡◌, [], ◌∷◌, ◌++◌, sym, subst, rules}
use Rattle.vh_journal.specs.declared.entry.Entry.{Entry}
use Rattle.vh_inbox.specs.Values.{entry_at, IsUpTo}
use Rattle.vh_inbox.proofs.Entries.{Adds, took, adds_push, up_to_push}
use Rattle.vh_inbox.proofs.drain.Drain.take_all.Goals as goal

pub loop-preserved : goal.loop-preserved
loop-preserved g c =
    let at = c.args.at in
    let x = c.in-Some.item in
    let before = c.loop.journal.items in
    let pushed : c.push_reserved.new.self.items ≡ before ++ entry_at at x ∷ [] =
    subst (λ (e : Entry). c.push_reserved.new.self.items ≡ before ++ e ∷ []) c.taken_at.ensures c.push_reserved.ensures.items in
    record {
      taken = took c.args.self.now c.loop.self c.next.new.self before c.push_reserved.new.self.items at x pushed c.loop.invariant.taken c.in-Some.ensures.taken;
      journal = subst (Adds at c.args.journal.now.items) (sym pushed) (adds_push at c.args.journal.now.items before x c.loop.invariant.journal);
      at = subst (IsUpTo at) (sym pushed) (up_to_push at before x c.loop.invariant.at);
      capacity = search rules;
      len = search rules;
    }
