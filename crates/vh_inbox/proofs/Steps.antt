-- Each kind of step keeps the rule, and what the rule tells.
use Rattle.std.proofs.Common.{◌≡◌, ◌≢◌, ℕ, zero, suc, ◌+◌, ◌<◌, ◌≤◌, Bool, true, false, ◌==◌, List, [], ◌∷◌, ◌++◌, length, set, sum, refl, sym, ap, ◌∙◌, subst, ⊎_elim, append_assoc, arith}
use Rattle.std.specs.List.{AllByRecursion}
use Rattle.std.specs.Prelude.{slice_index}
use Rattle.std.proofs.lemmas.Bool.{true≢false}
use Rattle.std.proofs.lemmas.List.{length_push, length-append}
use mathlib.Core.Option.{some, some-ne-none}
use lib.ListN.{get_elem?}
use Rattle.crossbeam_queue.specs.Fifo.{Pushes, Pops, Forks, Merges, Learns}
use Rattle.crossbeam_queue.proofs.Lists.{at_set}
use Rattle.vh_params.specs.declared.command.Command.{Command}
use Rattle.vh_inbox.specs.declared.rule.Item.{Item}
use Rattle.vh_inbox.specs.declared.rule.DeskList.{DeskList}
use Rattle.vh_inbox.specs.declared.rule.View.{View}
use Rattle.vh_inbox.specs.Lists.{total, below, item, of, numbered, desk_list, empty_lists}
use Rattle.vh_inbox.specs.Rule.{pass_view, desk_view, drain_view, spent, Knows, Fits, Kept}
use Rattle.vh_inbox.specs.Facts.{IsWithin, IsWithinQuotas, AreOfDesks, HasLists, sent_in}
use Rattle.vh_inbox.proofs.Sums.{total_append, total_set, total_two, total_gap, total_all, total_ones, total_same, each_le, below_ones, one_at, one_here, below_one, sum_is_below, total_empty}
use Rattle.vh_inbox.proofs.Places.{each_map, each_left, each_append, each_both, places_set, places_snoc}
use Rattle.vh_inbox.proofs.Items.{of_here, of_elsewhere, numbered-push, length-numbered, length_log, lists_elsewhere}

-- what a view's lists weigh
abbrev weight : (ℕ → ℕ) → View → ℕ
weight h v = total (λ list. h list.number) v.lists

-- the rule over a log that is written another way
fits_along : (quotas : List ℕ) (taken : List Item) {log log' : List Item} (reader port : ℕ) (v : View) → log ≡ log' → Fits quotas taken log reader port v → Fits quotas taken log' reader port v
fits_along quotas taken reader port v same fits = subst (λ (log : List Item). Fits quotas taken log reader port v) same fits

-- an item of another desk leaves a list as it is
knows_more : (quotas : List ℕ) (log : List Item) (x : Item) (own : List ℕ) (list : DeskList) → Knows quotas log own list → (x.editor == list.number) ≡ false → Knows quotas (log ++ x ∷ []) own list
knows_more quotas log x own list k apart = record { same = k.same; number = k.number; quota = k.quota; items = of_elsewhere list.number log x apart ∙ k.items }

-- the desk's own item goes to the end of its list
knows_own : (quotas : List ℕ) (log : List Item) (own : List ℕ) (d : ℕ) (sent : List Command) (c : Command) → Knows quotas log own (desk_list d sent) → length sent < slice_index own d
    → Knows quotas (log ++ item d (length sent) c ∷ []) own (desk_list d (sent ++ c ∷ []))
knows_own quotas log own d sent c k room =
    let seq : 0 + length sent ≡ length sent = omega arith in
    let room' : length sent < slice_index quotas d = subst (λ (q : List ℕ). length sent < slice_index q d) k.same room in
    record {
      same = k.same;
      number = k.number;
      quota = omega (arith, length_push sent c);
      items = of_here d log (item d (length sent) c) refl ∙ ap (λ items. items ++ item d (length sent) c ∷ []) k.items
          ∙ ap (λ n. numbered d 0 sent ++ item d n c ∷ []) (sym seq) ∙ sym (numbered-push d 0 sent c);
    }

pub pushes : (n port : ℕ) (own : List ℕ) (d : ℕ) (sent : List Command) (c : Command) → length sent < slice_index own d
    → Pushes Kept n port (desk_view own d sent) (item d (length sent) c) (λ w. w ≡ desk_view own d (sent ++ c ∷ []))
pushes n port own d sent c room items views _ kept at = (w, now, refl)
  where
    x : Item
    x = item d (length sent) c

    w : View
    w = desk_view own d (sent ++ c ∷ [])

    log : List Item
    log = kept.taken ++ items

    mine : Fits kept.quotas kept.taken log kept.reader port (desk_view own d sent)
    mine = kept.fits port (desk_view own d sent) at

    longer : log ++ x ∷ [] ≡ kept.taken ++ (items ++ x ∷ [])
    longer = append_assoc kept.taken items (x ∷ [])

    -- no other view has a list of this desk
    alone : (j : ℕ) (u : View) → j ≢ port → get_elem? views j ≡ some u → AllByRecursion (λ list. (d == list.number) ≡ false) u.lists
    alone j u apart at' =
        let all : total (weight (one_at d)) views ≡ 1 = kept.once (one_at d) ∙ below_one d (length kept.quotas) mine.lists.0.number in
        let two = total_two (weight (one_at d)) views port j (desk_view own d sent) u apart at at' in
        lists_elsewhere d u.lists (omega (arith, one_here d))

    others : (j : ℕ) (u : View) → j ≢ port → get_elem? views j ≡ some u → Fits kept.quotas kept.taken (log ++ x ∷ []) kept.reader j u
    others j u apart at' = let old = kept.fits j u at' in record {
      reads = old.reads;
      took = old.took;
      shares = old.shares;
      lists = each_both (Knows kept.quotas log u.quotas) (λ list. (d == list.number) ≡ false) (Knows kept.quotas (log ++ x ∷ []) u.quotas)
          (λ list k other. knows_more kept.quotas log x u.quotas list k other) u.lists old.lists (alone j u apart at');
    }

    own_now : Fits kept.quotas kept.taken (log ++ x ∷ []) kept.reader port w
    own_now = record {
      reads = mine.reads;
      took = λ drains. absurd (true≢false (sym drains));
      shares = λ drains. absurd (true≢false (sym drains));
      lists = (knows_own kept.quotas log own d sent c mine.lists.0 room, tt);
    }

    now : Kept (items ++ x ∷ []) (set views port w)
    now = record {
      quotas = kept.quotas;
      reader = kept.reader;
      taken = kept.taken;
      editors = subst (AllByRecursion (λ (i : Item). i.editor < length kept.quotas)) longer (each_append (λ (i : Item). i.editor < length kept.quotas) log (x ∷ []) kept.editors (mine.lists.0.number, tt));
      once = λ h. omega (arith, kept.once h, total_set (weight h) views port (desk_view own d sent) w at);
      fits = λ j u at'. fits_along kept.quotas kept.taken kept.reader j u longer
          (places_set (Fits kept.quotas kept.taken (log ++ x ∷ []) kept.reader) views port w own_now others j u at');
    }

pub pops : (port : ℕ) (v : View) → v.drains ≡ true → Pops Kept port v (λ x w. w ≡ pass_view v.quotas v.drains (v.taken ++ x ∷ []) v.lists)
pops port v drains x items views kept at = (w, now, refl)
  where
    w : View
    w = pass_view v.quotas v.drains (v.taken ++ x ∷ []) v.lists

    mine : Fits kept.quotas kept.taken (kept.taken ++ x ∷ items) kept.reader port v
    mine = kept.fits port v at

    taken : List Item
    taken = kept.taken ++ x ∷ []

    same : kept.taken ++ x ∷ items ≡ taken ++ items
    same = sym (append_assoc kept.taken (x ∷ []) items)

    others : (j : ℕ) (u : View) → j ≢ port → get_elem? views j ≡ some u → Fits kept.quotas taken (kept.taken ++ x ∷ items) kept.reader j u
    others j u apart at' = let old = kept.fits j u at' in record {
      reads = old.reads;
      took = λ p. absurd (apart (old.reads p ∙ sym (mine.reads drains)));
      shares = old.shares;
      lists = old.lists;
    }

    own_now : Fits kept.quotas taken (kept.taken ++ x ∷ items) kept.reader port w
    own_now = record { reads = mine.reads; took = λ p. ap (λ items. items ++ x ∷ []) (mine.took p); shares = mine.shares; lists = mine.lists }

    now : Kept items (set views port w)
    now = record {
      quotas = kept.quotas;
      reader = kept.reader;
      taken = taken;
      editors = subst (AllByRecursion (λ (i : Item). i.editor < length kept.quotas)) same kept.editors;
      once = λ h. omega (arith, kept.once h, total_set (weight h) views port v w at);
      fits = λ j u at'. fits_along kept.quotas taken kept.reader j u same
          (places_set (Fits kept.quotas taken (kept.taken ++ x ∷ items) kept.reader) views port w own_now others j u at');
    }

pub forks : (port : ℕ) (own : List ℕ) (drains : Bool) (taken : List Item) (list : DeskList) (lists : List DeskList)
    → Forks Kept port (pass_view own drains taken (list ∷ lists)) (pass_view own drains taken lists) (pass_view own false [] (list ∷ []))
forks port own drains taken list lists items views kept at = record {
  quotas = kept.quotas;
  reader = kept.reader;
  taken = kept.taken;
  editors = kept.editors;
  once = λ h. omega (arith, kept.once h, total_set (weight h) views port v left at, total_append (weight h) (set views port left) (right ∷ []));
  fits = places_snoc F (set views port left) right (places_set F views port left left_now (λ j u _ at'. kept.fits j u at')) (λ j. right_now j);
}
  where
    v : View
    v = pass_view own drains taken (list ∷ lists)

    left : View
    left = pass_view own drains taken lists

    right : View
    right = pass_view own false [] (list ∷ [])

    log : List Item
    log = kept.taken ++ items

    F : ℕ → View → Type 0
    F = Fits kept.quotas kept.taken log kept.reader

    mine : F port v
    mine = kept.fits port v at

    left_now : F port left
    left_now = record { reads = mine.reads; took = mine.took; shares = mine.shares; lists = mine.lists.1 }

    right_now : (j : ℕ) → F j right
    right_now j = record {
      reads = λ p. absurd (true≢false (sym p));
      took = λ p. absurd (true≢false (sym p));
      shares = λ p. absurd (true≢false (sym p));
      lists = (mine.lists.0, tt);
    }

pub merges : (port : ℕ) (v : View) (other : ℕ) (w : View) → v.drains ≡ true → Merges Kept port v other w (pass_view v.quotas v.drains v.taken (v.lists ++ w.lists)) spent
merges port v other w drains items views kept at two at' = record {
  quotas = kept.quotas;
  reader = kept.reader;
  taken = kept.taken;
  editors = kept.editors;
  once = λ h. omega (arith, kept.once h, total_set (weight h) views port v both at, total_set (weight h) (set views port both) other w spent at', total_append (λ (list : DeskList). h list.number) v.lists w.lists);
  fits = places_set F (set views port both) other spent spent_now (λ j u _ there. places_set F views port both both_now (λ k y _ here. kept.fits k y here) j u there);
}
  where
    both : View
    both = pass_view v.quotas v.drains v.taken (v.lists ++ w.lists)

    log : List Item
    log = kept.taken ++ items

    F : ℕ → View → Type 0
    F = Fits kept.quotas kept.taken log kept.reader

    mine : F port v
    mine = kept.fits port v at

    was : get_elem? views other ≡ some w
    was = ⊎_elim (λ (here : (other ≡ port) × (both ≡ w)). absurd (two here.0)) (λ (there : (other ≢ port) × (get_elem? views other ≡ some w)). there.1) (at_set views port other both w at')

    theirs : F other w
    theirs = kept.fits other w was

    adopted : AllByRecursion (Knows kept.quotas log v.quotas) w.lists
    adopted = each_map (Knows kept.quotas log w.quotas) (Knows kept.quotas log v.quotas)
        (λ list k. record { same = mine.shares drains; number = k.number; quota = k.quota; items = k.items }) w.lists theirs.lists

    both_now : F port both
    both_now = record { reads = mine.reads; took = mine.took; shares = mine.shares; lists = each_append (Knows kept.quotas log v.quotas) v.lists w.lists mine.lists adopted }

    spent_now : F other spent
    spent_now = record {
      reads = λ p. absurd (true≢false (sym p));
      took = λ p. absurd (true≢false (sym p));
      shares = λ p. absurd (true≢false (sym p));
      lists = tt;
    }

knows_empty : (quotas : List ℕ) (log : List Item) → log ≡ [] → (k n : ℕ) → k + n ≤ length quotas → AllByRecursion (Knows quotas log quotas) (empty_lists k n)
knows_empty quotas log none k zero within = tt
knows_empty quotas log none k (suc n) within =
    (record { same = refl; number = omega arith; quota = omega arith; items = ap (of k) none }, knows_empty quotas log none (suc k) n (omega arith))

-- without desks there are no items
no_items : (n : ℕ) (log : List Item) → n ≡ 0 → AllByRecursion (λ i. i.editor < n) log → log ≡ []
no_items n [] none each = refl
no_items n (x ∷ xs) none each = absurd (omega (arith, each.0))

pub opens : (port : ℕ) (q : List ℕ) → Forks Kept port (drain_view [] [] []) (drain_view q [] (empty_lists 0 (length q))) spent
opens port q items views kept at = record {
  quotas = q;
  reader = kept.reader;
  taken = kept.taken;
  editors = each_map (λ (i : Item). i.editor < length kept.quotas) (λ (i : Item). i.editor < length q) (λ i lt. absurd (omega (arith, none))) log kept.editors;
  once = λ h.
      let total_was : total (weight h) views ≡ 0 = kept.once h ∙ ap (below h) none in
      let n : 0 + length q ≡ length q = omega arith in
      omega (arith, total_was, total_set (weight h) views port (drain_view [] [] []) left at, total_append (weight h) (set views port left) (spent ∷ []), total_empty h 0 (length q), ap (below h) n);
  fits = places_snoc F (set views port left) spent (places_set F views port left left_now others) (λ j. spent_now j);
}
  where
    left : View
    left = drain_view q [] (empty_lists 0 (length q))

    log : List Item
    log = kept.taken ++ items

    F : ℕ → View → Type 0
    F = Fits q kept.taken log kept.reader

    mine : Fits kept.quotas kept.taken log kept.reader port (drain_view [] [] [])
    mine = kept.fits port (drain_view [] [] []) at

    none : length kept.quotas ≡ 0
    none = ap length (sym (mine.shares refl))

    left_now : F port left
    left_now = record { reads = mine.reads; took = mine.took; shares = λ _. refl; lists = knows_empty q log (no_items (length kept.quotas) log none kept.editors) 0 (length q) (omega arith) }

    others : (j : ℕ) (u : View) → j ≢ port → get_elem? views j ≡ some u → F j u
    others j u apart at' = let old = kept.fits j u at' in record {
      reads = old.reads;
      took = old.took;
      shares = λ p. absurd (apart (old.reads p ∙ sym (mine.reads refl)));
      lists = each_map (Knows kept.quotas log u.quotas) (Knows q log u.quotas) (λ list k. absurd (omega (arith, none, k.number))) u.lists old.lists;
    }

    spent_now : (j : ℕ) → F j spent
    spent_now j = record {
      reads = λ p. absurd (true≢false (sym p));
      took = λ p. absurd (true≢false (sym p));
      shares = λ p. absurd (true≢false (sym p));
      lists = tt;
    }

pub begins : Kept [] (drain_view [] [] [] ∷ [])
begins = record {
  quotas = [];
  reader = 0;
  taken = [];
  editors = tt;
  once = λ h. refl;
  fits = λ port v at. places_set (Fits [] [] [] 0) (drain_view [] [] [] ∷ []) 0 (drain_view [] [] []) (record { reads = λ _. refl; took = λ _. refl; shares = λ _. refl; lists = tt })
      (λ j u apart here. absurd (nowhere j u apart here)) port v at;
}
  where
    nowhere : (j : ℕ) (u : View) → j ≢ 0 → get_elem? (drain_view [] [] [] ∷ []) j ≡ some u → ⊥
    nowhere zero u apart here = apart refl
    nowhere (suc j) u apart here = some-ne-none u (sym here)

-- the log is as long as the lists of all views
log_is : {items : List Item} {views : List View} (kept : Kept items views) → length (kept.taken ++ items) ≡ total (weight (λ d. length (of d (kept.taken ++ items)))) views
log_is {items} {views} kept = length_log (length kept.quotas) (kept.taken ++ items) kept.editors ∙ sym (kept.once (λ d. length (of d (kept.taken ++ items))))

pub learns_room : (port : ℕ) (own : List ℕ) (d : ℕ) (sent : List Command) → Learns Kept port (desk_view own d sent) (IsWithinQuotas (desk_view own d sent))
learns_room port own d sent items views kept at =
    let mine = (kept.fits port (desk_view own d sent) at).lists.0 in
    let gap = total_gap (weight (λ k. length (of k log))) (weight (slice_index kept.quotas)) views port (desk_view own d sent) small at in
    let all : total (weight (slice_index kept.quotas)) views ≡ sum kept.quotas = kept.once (slice_index kept.quotas) ∙ sym (sum_is_below kept.quotas) in
    let long : length log ≡ length kept.taken + length items = length-append kept.taken items in
    let mine_long : length (of d log) ≡ length sent = ap length mine.items ∙ length-numbered d 0 sent in
    let within : IsWithin kept.quotas d sent items = omega (arith, gap, all, long, mine_long, log_is kept) in
    subst (λ (q : List ℕ). IsWithin q d sent items) (sym mine.same) within
  where
    log : List Item
    log = kept.taken ++ items

    small : (j : ℕ) (u : View) → get_elem? views j ≡ some u → weight (λ k. length (of k log)) u ≤ weight (slice_index kept.quotas) u
    small j u there = each_le (λ (list : DeskList). length (of list.number log)) (λ (list : DeskList). slice_index kept.quotas list.number) u.lists
        (each_map (Knows kept.quotas log u.quotas) (λ list. length (of list.number log) ≤ slice_index kept.quotas list.number)
        (λ list k. let long = ap length k.items ∙ length-numbered list.number 0 list.sent in omega (arith, k.quota, long)) u.lists (kept.fits j u there).lists)

-- no lists weigh nothing
weightless : (h : ℕ → ℕ) (lists : List DeskList) → total (λ (_ : DeskList). 1) lists ≡ 0 → total (λ (list : DeskList). h list.number) lists ≡ 0
weightless h [] none = refl
weightless h (list ∷ lists) none = absurd (omega arith)

pub learns_lists : (port : ℕ) (v : View) → v.drains ≡ true → Learns Kept port v (HasLists v)
learns_lists port v drains items views kept at = record {
  each = each_map (Knows kept.quotas log v.quotas) (λ list. of list.number (v.taken ++ items) ≡ numbered list.number 0 list.sent)
      (λ list k. ap (λ taken. of list.number (taken ++ items)) (mine.took drains) ∙ k.items) v.lists mine.lists;
  all = λ has.
      let n : length v.lists ≡ length kept.quotas = has ∙ ap length (mine.shares drains) in
      let ones : total (weight (λ _. 1)) views ≡ length kept.quotas = kept.once (λ _. 1) ∙ below_ones (length kept.quotas) in
      let own : weight (λ _. 1) v ≡ length v.lists = total_ones v.lists in
      let here : total (weight (λ d. length (of d log))) views ≡ weight (λ d. length (of d log)) v =
      total_all (weight (λ _. 1)) (weight (λ d. length (of d log))) (λ u none. weightless (λ d. length (of d log)) u.lists none) views port v at (ones ∙ sym n ∙ sym own) in
      let sent : weight (λ d. length (of d log)) v ≡ sent_in v.lists = total_same (λ (list : DeskList). length (of list.number log)) (λ (list : DeskList). length list.sent) v.lists
      (each_map (Knows kept.quotas log v.quotas) (λ list. length (of list.number log) ≡ length list.sent) (λ list k. ap length k.items ∙ length-numbered list.number 0 list.sent) v.lists mine.lists) in
      let long : length log ≡ length kept.taken + length items = length-append kept.taken items in
      omega (arith, long, log_is kept, here, sent, ap length (mine.took drains));
  editors = subst (λ (v : List ℕ × List Item). AreOfDesks (length v.0) v.1) (λ i. (sym (mine.shares drains) i, sym (mine.took drains) i))
      (each_left (λ (i : Item). i.editor < length kept.quotas) kept.taken items kept.editors);
}
  where
    log : List Item
    log = kept.taken ++ items

    mine : Fits kept.quotas kept.taken log kept.reader port v
    mine = kept.fits port v at
