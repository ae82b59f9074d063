-- What putting nodes in order keeps.
use Rattle.std.proofs.Common.{◌≡◌, ◌≢◌, ◌⊎◌, inl, inr, ◌∙◌, ℕ, suc, ◌<◌, ◌≤◌, Bool, true, false, cond, List, [], ◌∷◌, ◌++◌, set, length, get_or, refl, sym, ap, subst, arith, true≢false, ◌==◌}
use Rattle.std.specs.Prelude.{Contains, All, Vec, ◌||◌}
use Rattle.std.specs.declared.alloc.Global.{Global}
use Rattle.std.proofs.lemmas.Bool.{eqb-true, eqb-false, eq-eqb, cases_lt}
use Rattle.std.proofs.lemmas.List.{get_or-set_same, get_or-set_other, get_or_default, length-append, append_assoc, append-nil}
use Rattle.std.proofs.lemmas.List.Elements.{Contains-push, Contains-append_left, Contains-push_cases, Contains-get_or}
use Rattle.vh_graph.specs.Paths.{sources_of}
use Rattle.vh_graph.specs.Order.{IsReady, IsNext, IsOrderAfter, IsOrder}
use Rattle.vh_graph.specs.Steps.{IsPassed}
use Rattle.vh_graph.proofs.Ready.{either, later, first, ends_below, some_ready, IsStanding, standing_more, standing_none, within_length, law_order}
use Rattle.vh_graph.proofs.Searching.{at}

-- each of these is next where it stands
abbrev pub AreNext : ℕ → List (ℕ × ℕ) → List ℕ → List ℕ → Type 0
AreNext nodes wires placed [] = placed ≡ placed
AreNext nodes wires placed (node ∷ order) = IsNext nodes wires placed node × AreNext nodes wires (placed ++ node ∷ []) order

next_more : (nodes : ℕ) (wires : List (ℕ × ℕ)) (placed order : List ℕ) (node : ℕ) → AreNext nodes wires placed order → IsNext nodes wires (placed ++ order) node → AreNext nodes wires placed (order ++ node ∷ [])
next_more nodes wires placed [] node are is = (subst (λ ns. IsNext nodes wires ns node) (append-nil placed) is, refl)
next_more nodes wires placed (x ∷ xs) node are is = (are.0, next_more nodes wires (placed ++ x ∷ []) xs node are.1 (subst (λ ns. IsNext nodes wires ns node) (sym (append_assoc placed (x ∷ []) xs)) is))

next_order : (nodes : ℕ) (wires : List (ℕ × ℕ)) (placed order : List ℕ) → AreNext nodes wires placed order → ((x : ℕ) → x < nodes → Contains (placed ++ order) x) → IsOrderAfter nodes wires placed order
next_order nodes wires placed [] are all = λ x lt. subst (λ ns. Contains ns x) (append-nil placed) (all x lt)
next_order nodes wires placed (y ∷ ys) are all = (are.0, next_order nodes wires (placed ++ y ∷ []) ys are.1 (λ x lt. subst (λ ns. Contains ns x) (sym (append_assoc placed (y ∷ []) ys)) (all x lt)))

abbrev pub waits_for : List (Vec ℕ Global) → ℕ → Vec ℕ Global → List ℕ
waits_for waiting s e = (get_or waiting s e).items

pub record IsPlacing (nodes : ℕ) (wires : List (ℕ × ℕ)) (order : List ℕ) (stands : List Bool) (passed : List ℕ) (waiting : List (Vec ℕ Global)) (ready : ℕ → Bool) (pending : List ℕ) : Type 0 where
  pub next : AreNext nodes wires [] order
  pub once : (once : List ℕ) × IsStanding nodes order once × (length once ≡ length order)
  pub stand : (x : ℕ) → get_or stands x false ≡ true → Contains order x
  pub stood : (x : ℕ) → Contains order x → get_or stands x false ≡ true
  pub closed : (x s : ℕ) → Contains order x → Contains (sources_of wires x) s → Contains order s
  pub fits : (x : ℕ) → get_or passed x 0 ≤ length (sources_of wires x)
  pub past : (x i : ℕ) → i < get_or passed x 0 → Contains order (at (sources_of wires x) i)
  pub is_ready : (x : ℕ) → ready x ≡ true → IsReady nodes wires order x
  pub waits : (x s : ℕ) (e : Vec ℕ Global) → s < nodes → Contains (waits_for waiting s e) x → (x < nodes) × Contains (sources_of wires x) s
  -- a node stands, or is ready, or waits for one that doesn't stand, or is to be looked at
  pub found : (x : ℕ) (e : Vec ℕ Global) → x < nodes → Contains order x ⊎ ((ready x ≡ true) ⊎ (((s : ℕ) × (s < nodes) × (¬ Contains order s) × Contains (sources_of wires x) s × Contains (waits_for waiting s e) x) ⊎ Contains pending x))
  pub open_ : (x : ℕ) → Contains pending x → (x < nodes) × (¬ Contains order x)

-- a node was looked at, as a step says it
pub record IsSeen (node : ℕ) (sources : List ℕ) (stands : List Bool) (passed passed' : List ℕ) (waiting waiting' : List (Vec ℕ Global)) (ready ready' : ℕ → Bool) (to : ℕ) : Type 0 where
  pub passes : IsPassed stands sources (get_or passed node 0) to
  pub now_passed : passed' ≡ set passed node to
  pub now_ready : (x : ℕ) → ready' x ≡ cond (to == length sources) (x == node || ready x) (ready x)
  pub now_waits : to < length sources → (d : ℕ) (e : Vec ℕ Global) → waits_for waiting' (get_or sources to d) e ≡ waits_for waiting (get_or sources to d) e ++ node ∷ []
  pub others : (x d : ℕ) (e : Vec ℕ Global) → (to < length sources → x ≢ get_or sources to d) → get_or waiting' x e ≡ get_or waiting x e

stays_true : (a b c : Bool) → c ≡ true → cond a (b || c) c ≡ true
stays_true true true c is = refl
stays_true true false c is = is
stays_true false b c is = is

or_true : (a b : Bool) → (a || b) ≡ true → (a ≡ true) ⊎ (b ≡ true)
or_true true b is = inl refl
or_true false b is = inr is

pub looked : (nodes : ℕ) (wires : List (ℕ × ℕ)) (order : List ℕ) (stands : List Bool) (passed passed' : List ℕ) (waiting waiting' : List (Vec ℕ Global)) (ready ready' : ℕ → Bool) (node to : ℕ) (pending : List ℕ)
    → ((x s : ℕ) → Contains (sources_of wires x) s → s < nodes) → node < length passed
    → IsSeen node (sources_of wires node) stands passed passed' waiting waiting' ready ready' to
    → IsPlacing nodes wires order stands passed waiting ready (node ∷ pending) → IsPlacing nodes wires order stands passed' waiting' ready' pending
looked nodes wires order stands passed passed' waiting waiting' ready ready' node to pending ends within are is =
    let sources = sources_of wires node in
    let long = length sources in
    let unplaced = is.open_ node (first node pending) in
    let to_fits : to ≤ long = are.passes.within in
    let past_all : (i : ℕ) → i < to → Contains order (at sources i) = λ i lt. elim (cases_lt i (get_or passed node 0)) [
      | inl before ↦ is.past node i before
      | inr new ↦ is.stand (at sources i) (are.passes.stand i 0 false new lt)
    ] in
    let target = at sources to in
    -- what it waits for, where there is such
    let waits_here : to < long → (target < nodes) × (¬ Contains order target) × Contains sources target = λ lt.
    let of = Contains-get_or sources to 0 lt in
    (ends node target of, (λ stands_it. true≢false (sym (is.stood target stands_it) ∙ are.passes.misses 0 false lt)), of) in
    let old_waits : (x s : ℕ) (e : Vec ℕ Global) → Contains (waits_for waiting s e) x → Contains (waits_for waiting' s e) x = λ x s e has. elim (cases_lt to long) [
      | inl lt ↦ elim (s == target) as (λ t. (s == target) ≡ t → Contains (waits_for waiting' s e) x) [
        | true ↦ λ test.
            let same : s ≡ target = eqb-true s target test in
            subst (λ m. Contains (waits_for waiting' m e) x) (sym same) (subst (λ ns. Contains ns x) (sym (are.now_waits lt 0 e)) (Contains-append_left (waits_for waiting target e) (node ∷ []) x (subst (λ m. Contains (waits_for waiting m e) x) same has)))
        | false ↦ λ test. subst (λ (v : Vec ℕ Global). Contains v.items x) (sym (are.others s 0 e (λ l. eqb-false s target test))) has
      ] refl
      | inr ge ↦ subst (λ (v : Vec ℕ Global). Contains v.items x) (sym (are.others s 0 e (λ l. absurd (omega (arith, l, ge))))) has
    ] in
    record {
      next = is.next;
      once = is.once;
      stand = is.stand;
      stood = is.stood;
      closed = is.closed;
      fits = λ x. elim (x == node) as (λ t. (x == node) ≡ t → get_or passed' x 0 ≤ length (sources_of wires x)) [
        | true ↦ λ test.
            let same : node ≡ x = sym (eqb-true x node test) in
            subst (λ m. get_or passed' m 0 ≤ length (sources_of wires m)) same (subst (λ ps. get_or ps node 0 ≤ long) (sym are.now_passed) (subst (λ m. m ≤ long) (sym (get_or-set_same passed node to 0 within)) to_fits))
        | false ↦ λ test. subst (λ ps. get_or ps x 0 ≤ length (sources_of wires x)) (sym are.now_passed) (subst (λ m. m ≤ length (sources_of wires x)) (sym (get_or-set_other passed node x to 0 (eqb-false x node test))) (is.fits x))
      ] refl;
      past = λ x i lt. elim (x == node) as (λ t. (x == node) ≡ t → Contains order (at (sources_of wires x) i)) [
        | true ↦ λ test.
            let same : x ≡ node = eqb-true x node test in
            let value : get_or passed' x 0 ≡ to = ap (λ m. get_or passed' m 0) same ∙ ap (λ ps. get_or ps node 0) are.now_passed ∙ get_or-set_same passed node to 0 within in
            subst (λ m. Contains order (at (sources_of wires m) i)) (sym same) (past_all i (omega (arith, lt, value)))
        | false ↦ λ test.
            let value : get_or passed' x 0 ≡ get_or passed x 0 = ap (λ ps. get_or ps x 0) are.now_passed ∙ get_or-set_other passed node x to 0 (eqb-false x node test) in
            is.past x i (omega (arith, lt, value))
      ] refl;
      is_ready = λ x now.
          let cases : cond (to == long) (x == node || ready x) (ready x) ≡ true = sym (are.now_ready x) ∙ now in
          elim (to == long) as (λ t. (to == long) ≡ t → cond t (x == node || ready x) (ready x) ≡ true → IsReady nodes wires order x) [
            | false ↦ λ test was. is.is_ready x was
            | true ↦ λ test either_one. elim (or_true (x == node) (ready x) either_one) [
              | inr was ↦ is.is_ready x was
              | inl here ↦
                  let same : node ≡ x = sym (eqb-true x node here) in
                  let end : to ≡ long = eqb-true to long test in
                  subst (λ m. IsReady nodes wires order m) same (record {
                    within = unplaced.0;
                    missing = unplaced.1;
                    sources = λ s has.
                        let il = has.1 in
                        subst (λ m. Contains order m) (get_or_default sources has.0 0 s il ∙ has.2) (past_all has.0 (omega (arith, il, end)));
                  })
            ]
          ] refl cases;
      waits = λ x s e lt has. elim (cases_lt to long) [
        | inr ge ↦ is.waits x s e lt (subst (λ (v : Vec ℕ Global). Contains v.items x) (are.others s 0 e (λ l. absurd (omega (arith, l, ge)))) has)
        | inl tl ↦ elim (s == target) as (λ t. (s == target) ≡ t → (x < nodes) × Contains (sources_of wires x) s) [
          | false ↦ λ test. is.waits x s e lt (subst (λ (v : Vec ℕ Global). Contains v.items x) (are.others s 0 e (λ l. eqb-false s target test)) has)
          | true ↦ λ test.
              let same : s ≡ target = eqb-true s target test in
              let here : Contains (waits_for waiting target e ++ node ∷ []) x = subst (λ ns. Contains ns x) (are.now_waits tl 0 e) (subst (λ m. Contains (waits_for waiting' m e) x) same has) in
              elim (Contains-push_cases (waits_for waiting target e) node x here) [
                | inl old ↦ is.waits x s e lt (subst (λ m. Contains (waits_for waiting m e) x) (sym same) old)
                | inr new ↦ (subst (λ m. m < nodes) new unplaced.0, subst (λ m. Contains (sources_of wires m) s) new (subst (λ m. Contains sources m) (sym same) (waits_here tl).2))
              ]
        ] refl
      ];
      found = λ x e lt. elim (is.found x e lt) [
        | inl stands_it ↦ inl stands_it
        | inr more ↦ elim more [
          | inl was ↦ inr (inl (are.now_ready x ∙ stays_true (to == long) (x == node) (ready x) was))
          | inr further ↦ elim further [
            | inl waits ↦ inr (inr (inl (waits.0, waits.1, waits.2, waits.3, old_waits x waits.0 e waits.4)))
            | inr pends ↦ elim (either node pending x pends) [
              | inr rest ↦ inr (inr (inr rest))
              | inl same ↦ elim (cases_lt to long) [
                | inl tl ↦
                    let w = waits_here tl in
                    inr (inr (inl (target, w.0, w.1, subst (λ m. Contains (sources_of wires m) target) same w.2, subst (λ ns. Contains ns x) (sym (are.now_waits tl 0 e)) (subst (λ m. Contains (waits_for waiting target e ++ node ∷ []) m) same (Contains-push (waits_for waiting target e) node)))))
                | inr ge ↦
                    let end : to ≡ long = omega (arith, ge, to_fits) in
                    inr (inl (are.now_ready x ∙ ap (λ t. cond t (x == node || ready x) (ready x)) (eq-eqb to long end) ∙ ap (λ t. t || ready x) (eq-eqb x node (sym same))))
              ]
            ]
          ]
        ]
      ];
      open_ = λ x has. is.open_ x (later node pending x has);
    }

-- the least of the ready nodes is taken
pub record IsTaken (stands stands' : List Bool) (waiting waiting' : List (Vec ℕ Global)) (ready ready' : ℕ → Bool) (node : ℕ) : Type 0 where
  pub was : ready node ≡ true
  pub lowest : (x : ℕ) → ready x ≡ true → node ≤ x
  pub now_stands : stands' ≡ set stands node true
  pub now_ready : (x : ℕ) → ready' x ≡ cond (node == x) false (ready x)
  pub now_none : (e : Vec ℕ Global) → waits_for waiting' node e ≡ []
  pub others : (x : ℕ) (e : Vec ℕ Global) → x ≢ node → get_or waiting' x e ≡ get_or waiting x e

pub taken : (nodes : ℕ) (wires : List (ℕ × ℕ)) (order : List ℕ) (stands stands' : List Bool) (passed : List ℕ) (waiting waiting' : List (Vec ℕ Global)) (ready ready' : ℕ → Bool) (node : ℕ) (empty : Vec ℕ Global)
    → nodes ≡ length stands → nodes ≡ length waiting → IsTaken stands stands' waiting waiting' ready ready' node
    → IsPlacing nodes wires order stands passed waiting ready [] → IsPlacing nodes wires (order ++ node ∷ []) stands' passed waiting' ready' (waits_for waiting node empty)
taken nodes wires order stands stands' passed waiting waiting' ready ready' node empty long many are is =
    let node_ready = is.is_ready node are.was in
    let within = node_ready.within in
    let more : (x : ℕ) → Contains order x → Contains (order ++ node ∷ []) x = λ x has. Contains-append_left order (node ∷ []) x has in
    let next : IsNext nodes wires order node = record {
      ready = node_ready;
      least = λ x other. elim (is.found x empty other.within) [
        | inl stands_it ↦ absurd (other.missing stands_it)
        | inr found ↦ elim found [
          | inl is_so ↦ are.lowest x is_so
          | inr further ↦ elim further [
            | inl waits ↦ absurd (waits.2 (other.sources waits.0 waits.3))
            | inr none ↦ absurd (let z = none.1 in omega (arith, z))
          ]
        ]
      ];
    } in
    let was_ready : (x : ℕ) → ready' x ≡ true → (x ≢ node) × (ready x ≡ true) = λ x now. elim (node == x) as (λ t. (node == x) ≡ t → cond t false (ready x) ≡ true → (x ≢ node) × (ready x ≡ true)) [
      | true ↦ λ test h. absurd (true≢false (sym h))
      | false ↦ λ test h. ((λ same. eqb-false node x test (sym same)), h)
    ] refl (sym (are.now_ready x) ∙ now) in
    record {
      next = next_more nodes wires [] order node is.next next;
      once = (node ∷ is.once.0, standing_more nodes order is.once.0 node is.once.1 within node_ready.missing, (let e = is.once.2 in let f = length-append order (node ∷ []) in let g : suc (length is.once.0) ≡ length (order ++ node ∷ []) = omega (arith, e, f) in g));
      stand = λ x now. elim (x == node) as (λ t. (x == node) ≡ t → Contains (order ++ node ∷ []) x) [
        | true ↦ λ test. subst (λ m. Contains (order ++ node ∷ []) m) (sym (eqb-true x node test)) (Contains-push order node)
        | false ↦ λ test. more x (is.stand x (sym (ap (λ b. get_or b x false) are.now_stands ∙ get_or-set_other stands node x true false (eqb-false x node test)) ∙ now))
      ] refl;
      stood = λ x has. ap (λ b. get_or b x false) are.now_stands ∙ elim (x == node) as (λ t. (x == node) ≡ t → get_or (set stands node true) x false ≡ true) [
        | true ↦ λ test. subst (λ m. get_or (set stands node true) m false ≡ true) (sym (eqb-true x node test)) (get_or-set_same stands node true false (omega (arith, within, long)))
        | false ↦ λ test. get_or-set_other stands node x true false (eqb-false x node test) ∙ (elim (Contains-push_cases order node x has) [
          | inl old ↦ is.stood x old
          | inr same ↦ absurd (eqb-false x node test (sym same))
        ])
      ] refl;
      closed = λ x s has wire. elim (Contains-push_cases order node x has) [
        | inl old ↦ more s (is.closed x s old wire)
        | inr same ↦ more s (node_ready.sources s (subst (λ m. Contains (sources_of wires m) s) (sym same) wire))
      ];
      fits = is.fits;
      past = λ x i lt. more (at (sources_of wires x) i) (is.past x i lt);
      is_ready = λ x now.
          let was = was_ready x now in
          let old = is.is_ready x was.1 in
          record {
            within = old.within;
            missing = λ has. elim (Contains-push_cases order node x has) [
              | inl stands_it ↦ old.missing stands_it
              | inr same ↦ was.0 (sym same)
            ];
            sources = λ s wire. more s (old.sources s wire);
          };
      waits = λ x s e lt has. elim (s == node) as (λ t. (s == node) ≡ t → (x < nodes) × Contains (sources_of wires x) s) [
        | false ↦ λ test. is.waits x s e lt (subst (λ (v : Vec ℕ Global). Contains v.items x) (are.others s e (eqb-false s node test)) has)
        | true ↦ λ test.
            let none : Contains [] x = subst (λ ns. Contains ns x) (are.now_none e) (subst (λ m. Contains (waits_for waiting' m e) x) (eqb-true s node test) has) in
            absurd (let z = none.1 in omega (arith, z))
      ] refl;
      found = λ x e lt. elim (is.found x e lt) [
        | inl stands_it ↦ inl (more x stands_it)
        | inr found ↦ elim found [
          | inl was ↦ elim (node == x) as (λ t. (node == x) ≡ t → Contains (order ++ node ∷ []) x ⊎ ((ready' x ≡ true) ⊎ (((s : ℕ) × (s < nodes) × (¬ Contains (order ++ node ∷ []) s) × Contains (sources_of wires x) s × Contains (waits_for waiting' s e) x) ⊎ Contains (waits_for waiting node empty) x))) [
            | true ↦ λ test. inl (subst (λ m. Contains (order ++ node ∷ []) m) (eqb-true node x test) (Contains-push order node))
            | false ↦ λ test. inr (inl (are.now_ready x ∙ ap (λ t. cond t false (ready x)) test ∙ was))
          ] refl
          | inr further ↦ elim further [
            | inr none ↦ absurd (let z = none.1 in omega (arith, z))
            | inl waits ↦
                let s = waits.0 in
                let sl = waits.1 in
                elim (s == node) as (λ t. (s == node) ≡ t → Contains (order ++ node ∷ []) x ⊎ ((ready' x ≡ true) ⊎ (((r : ℕ) × (r < nodes) × (¬ Contains (order ++ node ∷ []) r) × Contains (sources_of wires x) r × Contains (waits_for waiting' r e) x) ⊎ Contains (waits_for waiting node empty) x))) [
                  | true ↦ λ test.
                      let same : s ≡ node = eqb-true s node test in
                      let here : Contains (waits_for waiting node e) x = subst (λ m. Contains (waits_for waiting m e) x) same waits.4 in
                      inr (inr (inr (subst (λ (v : Vec ℕ Global). Contains v.items x) (get_or_default waiting node e empty (omega (arith, within, many))) here)))
                  | false ↦ λ test.
                      let differ = eqb-false s node test in
                      inr (inr (inl (
                        s,
                        sl,
                        (λ has. elim (Contains-push_cases order node s has) [
                          | inl old ↦ waits.2 old
                          | inr same ↦ differ (sym same)
                        ]),
                        waits.3,
                        subst (λ (v : Vec ℕ Global). Contains v.items x) (sym (are.others s e differ)) waits.4,
                      )))
                ] refl
          ]
        ]
      ];
      open_ = λ x has.
          let one = is.waits x node empty within has in (
            one.0,
            λ stands_it. elim (Contains-push_cases order node x stands_it) [
              | inl old ↦ node_ready.missing (is.closed x node old one.1)
              | inr same ↦ node_ready.missing (node_ready.sources node (subst (λ m. Contains (sources_of wires m) node) (sym same) one.1))
            ],
          );
    }

-- nothing stands, and all nodes from one on are to be looked at
pub placing_none : (nodes : ℕ) (wires : List (ℕ × ℕ)) (stands : List Bool) (passed : List ℕ) (waiting : List (Vec ℕ Global)) (ready : ℕ → Bool) (pending : List ℕ)
    → ((x : ℕ) → get_or stands x false ≡ false) → ((x : ℕ) → get_or passed x 0 ≡ 0) → ((x : ℕ) (e : Vec ℕ Global) → x < nodes → waits_for waiting x e ≡ []) → ((x : ℕ) → ready x ≡ false)
    → ((x : ℕ) → x < nodes → Contains pending x) → ((x : ℕ) → Contains pending x → x < nodes)
    → IsPlacing nodes wires [] stands passed waiting ready pending
placing_none nodes wires stands passed waiting ready pending none zero_passed no_waits no_ready all below = record {
  next = refl;
  once = ([], standing_none nodes, refl);
  stand = λ x now. absurd (true≢false (sym now ∙ none x));
  stood = λ x has. absurd (let z = has.1 in omega (arith, z));
  closed = λ x s has wire. absurd (let z = has.1 in omega (arith, z));
  fits = λ x. let e = zero_passed x in omega (arith, e);
  past = λ x i lt. absurd (let e = zero_passed x in omega (arith, lt, e));
  is_ready = λ x now. absurd (true≢false (sym now ∙ no_ready x));
  waits = λ x s e lt has. absurd (let n : Contains [] x = subst (λ ns. Contains ns x) (no_waits s e lt) has in let z = n.1 in omega (arith, z));
  found = λ x e lt. inr (inr (inr (all x lt)));
  open_ = λ x has. (below x has, λ stands_it. let z = stands_it.1 in omega (arith, z));
}

pub placed_less : (nodes : ℕ) (wires : List (ℕ × ℕ)) (order : List ℕ) (stands : List Bool) (passed : List ℕ) (waiting : List (Vec ℕ Global)) (ready : ℕ → Bool) (pending : List ℕ)
    → IsPlacing nodes wires order stands passed waiting ready pending → length order ≤ nodes
placed_less nodes wires order stands passed waiting ready pending is = let e = is.once.2 in let le = within_length nodes is.once.0 is.once.1.within in omega (arith, e, le)

-- all stand
pub is_order : (nodes : ℕ) (wires : List (ℕ × ℕ)) (order : List ℕ) (stands : List Bool) (passed : List ℕ) (waiting : List (Vec ℕ Global)) (ready : ℕ → Bool)
    → IsPlacing nodes wires order stands passed waiting ready [] → ((x : ℕ) → x < nodes → get_or stands x false ≡ true) → IsOrder nodes wires order
is_order nodes wires order stands passed waiting ready is all = next_order nodes wires [] order is.next (λ x lt. is.stand x (all x lt))

-- none is ready, and one doesn't stand
pub no_order : (nodes : ℕ) (wires : List (ℕ × ℕ)) (order : List ℕ) (stands : List Bool) (passed : List ℕ) (waiting : List (Vec ℕ Global)) (ready : ℕ → Bool) (x : ℕ) (empty : Vec ℕ Global)
    → All (λ wire. (wire.0 < nodes) × (wire.1 < nodes)) wires → IsPlacing nodes wires order stands passed waiting ready [] → ((y : ℕ) → ready y ≡ false) → x < nodes → get_or stands x false ≡ false
    → ¬ ((whole : List ℕ) × IsOrder nodes wires whole)
no_order nodes wires order stands passed waiting ready x empty ends is none lt gone whole =
    let free = (law_order nodes wires ends).0 whole in
    let missing : ¬ Contains order x = λ has. true≢false (sym (is.stood x has) ∙ gone) in
    let one = some_ready nodes wires order (λ y s wire. (ends_below nodes wires ends y s wire).0) free x lt missing in
    elim (is.found one.0 empty one.1.within) [
      | inl stands_it ↦ one.1.missing stands_it
      | inr found ↦ elim found [
        | inl was ↦ true≢false (sym was ∙ none one.0)
        | inr further ↦ elim further [
          | inl waits ↦ waits.2 (one.1.sources waits.0 waits.3)
          | inr never ↦ absurd (let z = never.1 in omega (arith, z))
        ]
      ]
    ]
