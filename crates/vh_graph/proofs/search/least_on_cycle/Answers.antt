use Rattle.std.proofs.Common.{rules, ◌≡◌, ◌≢◌, ◌≤◌, ◌<◌, ◌++◌, ◌∙◌, inl, inr, [], ◌∷◌, take, drop, length, get_or, set, sym, ap, subst, arith, ◌-◌, ◌+◌}
use Rattle.std.proofs.lemmas.Bool.{cases_lt}
use Rattle.std.proofs.lemmas.List.{get_or_default, length-append, length-take-le}
use Rattle.vh_graph.specs.declared.search.Part.{Part}
use Rattle.vh_graph.specs.declared.search.Place.TheVariants.{Unseen, Open, Closed}
use Rattle.vh_graph.specs.Steps.{part_of, IsFirst}
use Rattle.vh_graph.proofs.Searching.{place}
use Rattle.vh_graph.proofs.Rejoined.{passed}
use Rattle.vh_graph.proofs.Rounds.{IsEntered, enters, begins, seen_entered, path_below, HasLast, leaves, reads, read_leads, reads_open, seen_closed, work_closed, last_below, found}
use Rattle.vh_graph.proofs.Work.{unseen_work, work_entered}
use Rattle.vh_graph.proofs.search.least_on_cycle.Goals as goal

pub loop-part-init : goal.loop-part-init
loop-part-init c =
    let old = c.loop-node.search in
    let new = c.enter.new.self in
    let inv = c.loop-node.invariant in
    let node = c.loop-node.node in
    let lt : node < length c.args.sources.now = search rules in
    let unseen : place old.places.items node ≡ Unseen = search rules in
    let are : IsEntered old.places.items new.places.items old.path.items new.path.items old.parts.items new.parts.items old.unread.items new.unread.items node (get_or c.args.sources.now node c.index-sources-node.result).items =
    record { now_places = search rules; now_path = search rules; now_parts = search rules; now_unread = search rules } in (
      search rules,
      (λ x le. seen_entered old.places.items new.places.items node (length old.path.items) (search rules) are.now_places x (elim (cases_lt x node) [
        | inl before ↦ inl (inv.2 x before)
        | inr here ↦ inr (omega (arith, le, here))
      ])),
      (λ wires linked.
          let begun = begins wires old.places.items old.path.items old.parts.items old.unread.items node inv.1 (inv.3 wires linked) in
          enters wires c.args.sources.now old.places.items new.places.items old.path.items new.path.items old.parts.items new.parts.items old.unread.items new.unread.items node c.index-sources-node.result linked inv.0 lt unseen are begun.0 begun.1),
    )

pub leave-requires-clause-part : goal.leave-requires-clause-part
leave-requires-clause-part c =
    let old = c.loop-part.search in
    let is = c.loop-part.invariant.2 c.requires.linked.0 c.requires.linked.1 in
    let has : HasLast old.parts.items c.in-Some.field-0.now = record { some = search rules; last = search rules } in
    let some = has.some in
    subst (λ (p : Part). p.node < length old.path.items) has.last (is.ends (length old.parts.items - 1) (omega (arith, some))).0

pub leave-requires-clause-path : goal.leave-requires-clause-path
leave-requires-clause-path c =
    let old = c.loop-part.search in
    let is = c.loop-part.invariant.2 c.requires.linked.0 c.requires.linked.1 in
    λ k d lt. let e : get_or old.path.items k d ≡ get_or old.path.items k 0 = get_or_default old.path.items k d 0 lt in
    subst (λ n. n < length old.places.items) (sym e) (path_below c.requires.linked.0 old.places.items old.path.items old.parts.items old.unread.items [] is k lt)

pub loop-part-preserved-then-len-part : goal.loop-part-preserved-then-len-part
loop-part-preserved-then-len-part c =
    let old = c.loop-part.search in
    let new = c.leave.new.self in
    let inv = c.loop-part.invariant in
    let part = c.in-Some.field-0.now in
    let has : HasLast old.parts.items part = record { some = search rules; last = search rules } in
    let done : part.unread ≡ length old.unread.items = search rules in
    let shut = c.leave.ensures.closed in
    let path : new.path.items ≡ take part.node old.path.items = search rules in
    let parts : new.parts.items ≡ take (length old.parts.items - 1) old.parts.items = search rules in
    let unread : new.unread.items ≡ old.unread.items = search rules in (
      shut.1.long ∙ inv.0,
      (λ x le. seen_closed shut.0 (drop part.node old.path.items) old.places.items new.places.items shut.1 x (inv.1 x le)),
      (λ wires linked. leaves wires c.args.sources.now old.places.items new.places.items old.path.items new.path.items old.parts.items new.parts.items old.unread.items new.unread.items part shut.0 c.index-sources-node.result linked inv.0 has done shut.1 shut.2 path parts unread (inv.2 wires linked)),
    )

pub loop-part-smaller-then-len-part : goal.loop-part-smaller-then-len-part
loop-part-smaller-then-len-part c =
    let old = c.loop-part.search in
    let new = c.leave.new.self in
    let shut = c.leave.ensures.closed in
    let some : 0 < length old.parts.items = search rules in
    let parts : new.parts.items ≡ take (length old.parts.items - 1) old.parts.items = search rules in
    let fewer : length new.parts.items ≡ length old.parts.items - 1 = ap (λ ps. length ps) parts ∙ length-take-le (length old.parts.items - 1) old.parts.items (omega arith) in
    let unread : length new.unread.items ≡ length old.unread.items = search rules in
    let work : unseen_work new.places.items c.args.sources.now ≤ unseen_work old.places.items c.args.sources.now = work_closed shut.0 (drop c.in-Some.field-0.now.node old.path.items) old.places.items new.places.items c.args.sources.now shut.1 in
    omega (arith, some, fewer, unread, work)

pub index-requires-in-Some-pop : goal.index-requires-in-Some-pop
index-requires-in-Some-pop c =
    let old = c.loop-part.search in
    let inv = c.loop-part.invariant in
    let is = inv.2 c.requires.linked.0 c.requires.linked.1 in
    let now : old.unread.items ≡ c.pop.new.self.items ++ c.in-Some-pop.source ∷ [] = search rules in
    let below = last_below c.requires.linked.0 c.args.sources.now old.places.items old.path.items old.parts.items old.unread.items c.pop.new.self.items c.in-Some-pop.source c.requires.linked.1 is now in
    let long = inv.0 in
    let lt : c.in-Some-pop.source < length old.places.items = omega (arith, below, long) in
    search rules

pub bounds-sources-source : goal.bounds-sources-source
bounds-sources-source c =
    let old = c.loop-part.search in
    let inv = c.loop-part.invariant in
    let is = inv.2 c.requires.linked.0 c.requires.linked.1 in
    let now : old.unread.items ≡ c.pop.new.self.items ++ c.in-Some-pop.source ∷ [] = search rules in
    last_below c.requires.linked.0 c.args.sources.now old.places.items old.path.items old.parts.items old.unread.items c.pop.new.self.items c.in-Some-pop.source c.requires.linked.1 is now

pub enter-requires-in-Unseen : goal.enter-requires-in-Unseen
enter-requires-in-Unseen c =
    let old = c.loop-part.search in
    let inv = c.loop-part.invariant in
    let is = inv.2 c.requires.linked.0 c.requires.linked.1 in
    let now : old.unread.items ≡ c.pop.new.self.items ++ c.in-Some-pop.source ∷ [] = search rules in
    let below = last_below c.requires.linked.0 c.args.sources.now old.places.items old.path.items old.parts.items old.unread.items c.pop.new.self.items c.in-Some-pop.source c.requires.linked.1 is now in
    let long = inv.0 in
    omega (arith, below, long)

pub loop-part-preserved-in_ok-enter-in-Unseen : goal.loop-part-preserved-in_ok-enter-in-Unseen
loop-part-preserved-in_ok-enter-in-Unseen c =
    let old = c.loop-part.search in
    let new = c.enter-in-Unseen.new.self in
    let inv = c.loop-part.invariant in
    let part = c.in-Some.field-0.now in
    let node = c.in-Some-pop.source in
    let left = c.pop.new.self.items in
    let has : HasLast old.parts.items part = record { some = search rules; last = search rules } in
    let more : part.unread ≢ length old.unread.items = search rules in
    let now : old.unread.items ≡ left ++ node ∷ [] = search rules in
    let lt : node < length c.args.sources.now = last_below c.requires.linked.0 c.args.sources.now old.places.items old.path.items old.parts.items old.unread.items c.pop.new.self.items c.in-Some-pop.source c.requires.linked.1 (c.loop-part.invariant.2 c.requires.linked.0 c.requires.linked.1) now in
    let here : c.index-in-Some-pop.result.now ≡ Unseen = search rules in
    let unseen : place old.places.items node ≡ Unseen = search rules in
    let are : IsEntered old.places.items new.places.items old.path.items new.path.items old.parts.items new.parts.items left new.unread.items node (get_or c.args.sources.now node c.index-sources-source.result).items =
    record { now_places = search rules; now_path = search rules; now_parts = search rules; now_unread = search rules } in (
      search rules,
      (λ x le. seen_entered old.places.items new.places.items node (length old.path.items) (search rules) are.now_places x (inl (inv.1 x le))),
      (λ wires linked.
          let next = reads wires old.places.items old.path.items old.parts.items old.unread.items left part node has more now (inv.2 wires linked) in
          enters wires c.args.sources.now old.places.items new.places.items old.path.items new.path.items old.parts.items new.parts.items left new.unread.items node c.index-sources-source.result linked inv.0 lt unseen are next.kept
          (read_leads wires old.places.items old.path.items old.parts.items left node next)),
    )

pub loop-part-smaller-in_ok-enter-in-Unseen : goal.loop-part-smaller-in_ok-enter-in-Unseen
loop-part-smaller-in_ok-enter-in-Unseen c =
    let old = c.loop-part.search in
    let new = c.enter-in-Unseen.new.self in
    let node = c.in-Some-pop.source in
    let left = c.pop.new.self.items in
    let now : old.unread.items ≡ left ++ node ∷ [] = search rules in
    let one : length old.unread.items ≡ length left + 1 = ap (λ xs. length xs) now ∙ length-append left (node ∷ []) in
    let below : node < length c.args.sources.now = last_below c.requires.linked.0 c.args.sources.now old.places.items old.path.items old.parts.items old.unread.items c.pop.new.self.items c.in-Some-pop.source c.requires.linked.1 (c.loop-part.invariant.2 c.requires.linked.0 c.requires.linked.1) now in
    let counts = c.loop-part.invariant.0 in
    let lt : node < length old.places.items = omega (arith, below, counts) in
    let here : c.index-in-Some-pop.result.now ≡ Unseen = search rules in
    let unseen : place old.places.items node ≡ Unseen = search rules in
    let d = c.index-sources-source.result in
    let work = work_entered old.places.items c.args.sources.now node (length old.path.items) d lt c.loop-part.invariant.0 unseen in
    let places : new.places.items ≡ set old.places.items node (Open (length old.path.items)) = search rules in
    let same : unseen_work new.places.items c.args.sources.now ≡ unseen_work (set old.places.items node (Open (length old.path.items))) c.args.sources.now = ap (λ ps. unseen_work ps c.args.sources.now) places in
    let new_parts : new.parts.items ≡ old.parts.items ++ part_of (length old.path.items) (length left) ∷ [] = search rules in
    let parts : length new.parts.items ≡ length old.parts.items + 1 = ap (λ ps. length ps) new_parts ∙ length-append old.parts.items (part_of (length old.path.items) (length left) ∷ []) in
    let new_unread : new.unread.items ≡ left ++ (get_or c.args.sources.now node d).items = search rules in
    let unread : length new.unread.items ≡ length left + length (get_or c.args.sources.now node d).items = ap (λ xs. length xs) new_unread ∙ length-append left (get_or c.args.sources.now node d).items in
    omega (arith, one, work, same, parts, unread)

pub loop-part-preserved-in-Open : goal.loop-part-preserved-in-Open
loop-part-preserved-in-Open c =
    let old = c.loop-part.search in
    let inv = c.loop-part.invariant in
    let part = c.in-Some.field-0.now in
    let node = c.in-Some-pop.source in
    let left = c.pop.new.self.items in
    let has : HasLast old.parts.items part = record { some = search rules; last = search rules } in
    let more : part.unread ≢ length old.unread.items = search rules in
    let now : old.unread.items ≡ left ++ node ∷ [] = search rules in
    let here : c.index-in-Some-pop.result.now ≡ Open c.in-Open.place = search rules in
    let below = last_below c.requires.linked.0 c.args.sources.now old.places.items old.path.items old.parts.items old.unread.items c.pop.new.self.items c.in-Some-pop.source c.requires.linked.1 (c.loop-part.invariant.2 c.requires.linked.0 c.requires.linked.1) now in
    let counts = inv.0 in
    let at_node : place old.places.items node ≡ c.index-in-Some-pop.result.now = get_or_default old.places.items node Unseen c.index-in-Some-pop.result.now (omega (arith, below, counts)) ∙ sym c.index-in-Some-pop.ensures in
    let opened : place old.places.items node ≡ Open c.in-Open.place = at_node ∙ here in (
      inv.0,
      inv.1,
      (λ wires linked.
          let next = reads wires old.places.items old.path.items old.parts.items old.unread.items left part node has more now (inv.2 wires linked) in
          reads_open wires old.places.items old.path.items old.parts.items c.join.new.parts.items left node c.in-Open.place next opened c.join.ensures),
    )

pub loop-part-preserved-in-Closed : goal.loop-part-preserved-in-Closed
loop-part-preserved-in-Closed c =
    let old = c.loop-part.search in
    let inv = c.loop-part.invariant in
    let part = c.in-Some.field-0.now in
    let node = c.in-Some-pop.source in
    let left = c.pop.new.self.items in
    let has : HasLast old.parts.items part = record { some = search rules; last = search rules } in
    let more : part.unread ≢ length old.unread.items = search rules in
    let now : old.unread.items ≡ left ++ node ∷ [] = search rules in
    let here : c.index-in-Some-pop.result.now ≡ Closed c.in-Closed.on_cycle = search rules in
    let below = last_below c.requires.linked.0 c.args.sources.now old.places.items old.path.items old.parts.items old.unread.items c.pop.new.self.items c.in-Some-pop.source c.requires.linked.1 (c.loop-part.invariant.2 c.requires.linked.0 c.requires.linked.1) now in
    let counts = inv.0 in
    let at_node : place old.places.items node ≡ c.index-in-Some-pop.result.now = get_or_default old.places.items node Unseen c.index-in-Some-pop.result.now (omega (arith, below, counts)) ∙ sym c.index-in-Some-pop.ensures in
    let closed : place old.places.items node ≡ Closed c.in-Closed.on_cycle = at_node ∙ here in (
      inv.0,
      inv.1,
      (λ wires linked.
          let next = reads wires old.places.items old.path.items old.parts.items old.unread.items left part node has more now (inv.2 wires linked) in
          passed wires old.places.items old.path.items old.parts.items left node c.in-Closed.on_cycle next.kept closed),
    )

pub loop-part-smaller : goal.loop-part-smaller
loop-part-smaller c =
    let old = c.loop-part.search in
    let is = c.loop-part.invariant.2 c.requires.linked.0 c.requires.linked.1 in
    let part = c.in-Some.field-0.now in
    let has : HasLast old.parts.items part = record { some = search rules; last = search rules } in
    let some = has.some in
    let within = (subst (λ (p : Part). p.unread ≤ length old.unread.items) has.last (is.ends (length old.parts.items - 1) (omega (arith, some))).1) in
    let more : part.unread ≢ length old.unread.items = search rules in
    let none : length old.unread.items ≡ 0 = search rules in
    absurd (omega (arith, within, more, none))

pub returns : goal.returns
returns c =
    let old = c.loop-node.search in
    let inv = c.loop-node.invariant in
    let first = c.first_on_cycle.ensures in
    let done : length c.args.sources.now ≤ c.loop-node.node = search rules in
    record {
      least = λ wires linked. found wires c.args.sources.now old.places.items old.path.items old.parts.items old.unread.items c.first_on_cycle.result linked inv.0 inv.1
          (λ x lt. inv.2 x (omega (arith, lt, done))) (inv.3 wires linked) (subst (λ ps. IsFirst ps c.first_on_cycle.result) c.deref-2.ensures.value first);
    }
