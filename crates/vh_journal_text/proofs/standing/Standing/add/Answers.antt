use Rattle.std.proofs.Common.{rules, ◌≡◌, ◌∙◌, ◌+◌, ◌<◌, ◌∷◌, [], ◌++◌, ℕ, List, length, set, get_or, ap, sym, subst}
use Rattle.std.proofs.lemmas.List.{map-append}
use Rattle.vh_journal_text.specs.Items.{Item, item_of, items_of}
use Rattle.vh_journal_text.specs.Rules.{count_of}
use Rattle.vh_journal_text.specs.Standing.{has_gesture}
use Rattle.vh_journal_text.specs.View.{so_far}
use Rattle.vh_journal_text.proofs.Tracked.{AreKept, counted, tracked}
use Rattle.vh_journal_text.proofs.standing.Standing.add.Goals as goal

pub returns-clause-stands : goal.returns-clause-stands
returns-clause-stands c =
    let old = c.args.self.now in
    let entry = c.args.entry in
    let counts = old.counts in
    let long : length counts ≡ 8 = search rules in
    let more : items_of c.push.new.self.items ≡ so_far old ++ item_of entry ∷ [] = ap items_of c.in_ok-push.ensures.items ∙ map-append item_of old.entries.items (entry ∷ []) in
    record {
      counts =
          subst (λ (items : List Item). (e : ℕ) → e < 8 → get_or (set counts entry.editor (get_or counts entry.editor 0 + 1)) e 0 ≡ count_of items e) (sym more)
          (counted (so_far old) (item_of entry) counts long c.requires.editor c.requires.stands.counts);
      gestures =
          subst (λ (items : List Item). AreKept items (has_gesture c.keep_gestures.new.open)) (sym more)
          (tracked (so_far old) entry.sample entry.editor entry.seq entry.command old.open c.keep_gestures.new.open c.requires.turns c.in_ok-keep_gestures.ensures c.requires.stands.gestures);
    }
