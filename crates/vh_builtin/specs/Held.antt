-- Values that bytes hold become a class's.
use Rattle.std.specs.Prelude.{◌≡◌, ℕ, Bool, true, false, ◌==◌, List, [], ◌∷◌, ◌++◌, length, drop, Option, Some, None, if◌then◌else◌}
use Rattle.std.proofs.Common.{zero, suc, ◌+◌, All, ◌≤◌, ◌^◌, refl, sym, ap, subst, ◌∙◌, arith}
use Rattle.std.proofs.lemmas.Bool.{eqb-true}
use Rattle.std.proofs.lemmas.List.{length-append, length-drop}
use Rattle.vh_params.specs.Flags.{is_writable}
use Rattle.vh_plugin.specs.Class.{Param, Class, AreValues, IsSet, with_writable, writable_of}
use Rattle.vh_builtin.specs.Bytes.{is_form, pair_values, pair_bytes, word_bytes, text_of, text_by, held_in, held_by, writable_ids}
use Rattle.vh_builtin.specs.ByteLaws.{form_within, length_held, all_rest, all_more}
use Rattle.vh_builtin.specs.Lawful.{fewer_ids}
use Rattle.vh_builtin.specs.Builtins.{builtin}
use Rattle.vh_builtin.specs.Takes.{TakesHeld}

-- the parameters that can be set stand before all others
abbrev pub lead : List Param → Bool
lead [] = true
lead (param ∷ params) = if is_writable param.flags then lead params else (length (writable_ids params) == 0)

none_left : (xs : List ℕ) → length xs ≡ 0 → xs ≡ []
none_left [] none = refl
none_left (x ∷ xs) none = absurd (omega (arith, none))

with_none : (params : List Param) (old : List ℕ) → length old ≡ length params → with_writable params old [] ≡ old
with_none [] [] long = refl
with_none [] (value ∷ old) long = absurd (omega (arith, long))
with_none (param ∷ params) [] long = refl
with_none (param ∷ params) (value ∷ old) long = refl

-- so the values that they are given take the place of the first ones
with_first : (params : List Param) (old held : List ℕ) → lead params ≡ true → length old ≡ length params → length held ≡ length (writable_ids params) → with_writable params old held ≡ held ++ drop (length held) old
with_first params old [] e long same = with_none params old long
with_first [] old (value ∷ held) e long same = absurd (omega (arith, same))
with_first (param ∷ params) [] (value ∷ held) e long same = absurd (omega (arith, long))
with_first (param ∷ params) (one ∷ old) (value ∷ held) e long same =
    elim (is_writable param.flags) as (λ t. is_writable param.flags ≡ t → with_writable (param ∷ params) (one ∷ old) (value ∷ held) ≡ value ∷ (held ++ drop (length held) old)) [
      | true ↦ λ test.
          let rest = subst (λ t. (if t then lead params else (length (writable_ids params) == 0)) ≡ true) test e in
          let fits : length held ≡ length (writable_ids params) = (let f = subst (λ t. suc (length held) ≡ length (if t then param.id ∷ writable_ids params else writable_ids params)) test same in omega (arith, f)) in
          rw test (ap (λ (vs : List ℕ). value ∷ vs) (with_first params old held rest (omega (arith, long)) fits))
      | false ↦ λ test.
          let none = eqb-true (length (writable_ids params)) 0 (subst (λ t. (if t then lead params else (length (writable_ids params) == 0)) ≡ true) test e) in
          let fits = subst (λ t. suc (length held) ≡ length (if t then param.id ∷ writable_ids params else writable_ids params)) test same in
          absurd (omega (arith, none, fits))
    ] refl

-- and bytes are made of the first values
pairs_first : (params : List Param) (values : List ℕ) → lead params ≡ true → pair_bytes (writable_ids params) (writable_of params values) ≡ pair_bytes (writable_ids params) values
pairs_first [] values e = refl
pairs_first (param ∷ params) [] e = refl
pairs_first (param ∷ params) (value ∷ values) e =
    elim (is_writable param.flags) as (λ t. is_writable param.flags ≡ t
    → pair_bytes (if t then param.id ∷ writable_ids params else writable_ids params) (if t then value ∷ writable_of params values else writable_of params values)
    ≡ pair_bytes (if t then param.id ∷ writable_ids params else writable_ids params) (value ∷ values)) [
      | true ↦ λ test.
          ap (λ (bytes : List ℕ). word_bytes param.id ++ (word_bytes value ++ bytes)) (pairs_first params values (subst (λ t. (if t then lead params else (length (writable_ids params) == 0)) ≡ true) test e))
      | false ↦ λ test.
          let none = none_left (writable_ids params) (eqb-true (length (writable_ids params)) 0 (subst (λ t. (if t then lead params else (length (writable_ids params) == 0)) ≡ true) test e)) in
          ap (λ (ids : List ℕ). pair_bytes ids (writable_of params values)) none ∙ sym (ap (λ (ids : List ℕ). pair_bytes ids (value ∷ values)) none)
    ] refl

held_some : (ids bytes : List ℕ) → is_form ids bytes ≡ true → held_in ids bytes ≡ Some (pair_values ids bytes 4)
held_some ids bytes form = ap (λ t. if t then Some (pair_values ids bytes 4) else None) form

held_none : (ids bytes : List ℕ) → is_form ids bytes ≡ false → held_in ids bytes ≡ None
held_none ids bytes form = ap (λ t. if t then Some (pair_values ids bytes 4) else None) form

-- a class whose state bytes go by its table
record GoesByTable (class : Class) : Type 0 where
  pub leads : lead class.params ≡ true
  pub held : class.state_of ≡ held_by class.params
  pub text : class.state_text ≡ text_by class.params

by_table : (k : ℕ) → GoesByTable (builtin k)
by_table zero = record { leads = refl; held = refl; text = refl }
by_table (suc zero) = record { leads = refl; held = refl; text = refl }
by_table (suc (suc zero)) = record { leads = refl; held = refl; text = refl }
by_table (suc (suc (suc zero))) = record { leads = refl; held = refl; text = refl }
by_table (suc (suc (suc (suc zero)))) = record { leads = refl; held = refl; text = refl }
by_table (suc (suc (suc (suc (suc zero))))) = record { leads = refl; held = refl; text = refl }
by_table (suc (suc (suc (suc (suc (suc zero)))))) = record { leads = refl; held = refl; text = refl }
by_table (suc (suc (suc (suc (suc (suc (suc zero))))))) = record { leads = refl; held = refl; text = refl }
by_table (suc (suc (suc (suc (suc (suc (suc (suc k)))))))) = record { leads = refl; held = refl; text = refl }

all_dropped : (n : ℕ) (old : List ℕ) (most : ℕ) → All (λ k. k ≤ most) old → All (λ k. k ≤ most) (drop n old)
all_dropped zero old most are = are
all_dropped (suc n) [] most are = are
all_dropped (suc n) (value ∷ old) most are = all_dropped n old most (all_rest value old most are)

all_joined : (one other : List ℕ) (most : ℕ) → All (λ k. k ≤ most) one → All (λ k. k ≤ most) other → All (λ k. k ≤ most) (one ++ other)
all_joined [] other most are too = too
all_joined (value ∷ one) other most are too = all_more value (one ++ other) most (are 0 0 (omega arith)) (all_joined one other most (all_rest value one most are) too)

record IsTaken (class : Class) (bytes old new : List ℕ) (taken : Bool) : Type 0 where
  pub set : IsSet class bytes old new taken
  pub valued : AreValues class.params new

taken_by : (class : Class) (bytes old new : List ℕ) (taken : Bool) → GoesByTable class → AreValues class.params old → length (writable_ids class.params) ≤ length old → TakesHeld (writable_ids class.params) bytes old new taken
    → IsTaken class bytes old new taken
taken_by class bytes old new false goes are few takes = record {
  set = (ap (λ (f : List ℕ → Option (List ℕ)). f bytes) goes.held ∙ held_none (writable_ids class.params) bytes takes.0, takes.1);
  valued = subst (λ (vs : List ℕ). AreValues class.params vs) (sym takes.1) are;
}
taken_by class bytes old new true goes are few takes =
    let ids = writable_ids class.params in
    let held = pair_values ids bytes 4 in
    let long : length held ≡ length ids = length_held ids bytes 4 in
    let is : new ≡ held ++ drop (length held) old = takes.1 ∙ ap (λ n. held ++ drop n old) (sym long) in
    record {
      set = (held, ap (λ (f : List ℕ → Option (List ℕ)). f bytes) goes.held ∙ held_some ids bytes takes.0, is ∙ sym (with_first class.params old held goes.leads are.each long));
      valued = subst (λ (vs : List ℕ). AreValues class.params vs) (sym is) (record {
        each = length-append held (drop (length held) old) ∙ (let e = length-drop (length held) old in let f = are.each in let g : length held + length (drop (length held) old) ≡ length class.params = omega (arith, e, f, long, few) in g);
        within = all_joined held (drop (length held) old) (2 ^ 24) (form_within ids bytes takes.0) (all_dropped (length held) old (2 ^ 24) are.within);
      });
    }

all_taken : (k : ℕ) (ids bytes old new : List ℕ) (taken : Bool) → ids ≡ writable_ids (builtin k).params → AreValues (builtin k).params old → TakesHeld ids bytes old new taken → IsTaken (builtin k) bytes old new taken
all_taken k ids bytes old new taken is are takes =
    let few = fewer_ids (builtin k).params in
    let each = are.each in
    taken_by (builtin k) bytes old new taken (by_table k) are (omega (arith, few, each)) (subst (λ (list : List ℕ). TakesHeld list bytes old new taken) is takes)

pub held_set : (k : ℕ) (ids bytes old new : List ℕ) (taken : Bool) → ids ≡ writable_ids (builtin k).params → AreValues (builtin k).params old → TakesHeld ids bytes old new taken → IsSet (builtin k) bytes old new taken
held_set k ids bytes old new taken is are takes = (all_taken k ids bytes old new taken is are takes).set

pub held_valued : (k : ℕ) (ids bytes old new : List ℕ) (taken : Bool) → ids ≡ writable_ids (builtin k).params → AreValues (builtin k).params old → TakesHeld ids bytes old new taken → AreValues (builtin k).params new
held_valued k ids bytes old new taken is are takes = (all_taken k ids bytes old new taken is are takes).valued

-- the bytes of a class's values are those of the first ones
pub text_is : (k : ℕ) (ids values bytes : List ℕ) → ids ≡ writable_ids (builtin k).params → bytes ≡ text_of ids values → bytes ≡ (builtin k).state_text values
text_is k ids values bytes is are =
    let goes = by_table k in
    are ∙ ap (λ (list : List ℕ). text_of list values) is ∙ sym (ap (λ (pairs : List ℕ). word_bytes 1 ++ pairs) (pairs_first (builtin k).params values goes.leads)) ∙ sym (ap (λ (f : List ℕ → List ℕ). f values) goes.text)
