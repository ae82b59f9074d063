-- The class of the tests: one parameter that is only shown, no state, and what comes in goes out.
use Rattle.std.specs.Prelude.{◌≡◌, ℕ, Bool, ◌≤◌, ◌<◌, slice_index_or, List, [], ◌∷◌, length, replicate, Some, None, All, if◌then◌else◌, ◌==◌}
use Rattle.std.proofs.Common.{◌^◌, true, false, cond, nat_eq, ◌&&◌, ◌||◌, zero, suc, refl, ap, sym, subst, ◌∙◌, arith}
use Rattle.std.proofs.lemmas.Bool.{true≢false}
use Rattle.vh_params.specs.declared.class.ClassInfo.{ClassInfo}
use Rattle.vh_params.specs.declared.param.ParamInfo.{ParamInfo}
use Rattle.vh_params.specs.Tables.{params_of}
use Rattle.vh_params.specs.Short.{label_text}
use Rattle.vh_params.specs.Flags.{is_read_only}
use Rattle.vh_plugin.specs.Class.{Param, Class, IsLawful, AreValues, writable_of, has_writable}
use Rattle.vh_plugin.specs.Blocks.{AreFor, values_behind}
use Rattle.vh_points.specs.Queues.{Queue}
use Rattle.vh_plugin.specs.Sets.{IsClassOf}

abbrev pub level : Param
level = record { id = 0; steps = 0; first = 0; flags = 2 }

abbrev pub wire : Class
wire = record {
  params = level ∷ [];
  aux = false;
  start = [];
  next = λ channels state values main aux. [];
  output = λ channels state values main aux. main;
  told = λ state values words. [];
  reply = λ state values words. words;
  shown = λ state id. 0;
  state_of = λ bytes. if length bytes == 0 then Some [] else None;
  state_text = λ values. [];
  partner = replicate 16 0;
}

only : (value : ℕ) → value ≤ 2 ^ 24 → (i d : ℕ) → i < 1 → slice_index_or (value ∷ []) i d ≤ 2 ^ 24
only value within zero d lt = within
only value within (suc i) d lt = absurd (omega (arith, lt))

one_shown : (i : ℕ) (d : Param) → i < 1 → is_read_only (slice_index_or (level ∷ []) i d).flags ≡ true → wire.shown wire.start (slice_index_or (level ∷ []) i d).id ≡ (slice_index_or (level ∷ []) i d).first
one_shown zero d lt shown = refl
one_shown (suc i) d lt shown = absurd (omega (arith, lt))

pub wire_valued : (value : ℕ) → value ≤ 2 ^ 24 → AreValues (level ∷ []) (value ∷ [])
wire_valued value within = record { each = refl; within = only value within }

some_injective : (a b : List ℕ) → Some a ≡ Some b → a ≡ b
some_injective a b e = cc

none_some : (a : List ℕ) → None ≡ Some a → ⊥
none_some a e = cc

none_held : (bytes values : List ℕ) → wire.state_of bytes ≡ Some values → [] ≡ values
none_held bytes values e =
    elim (nat_eq (length bytes) 0) as (λ t. cond t (Some []) None ≡ Some values → [] ≡ values) [
      | true ↦ λ h. some_injective [] values h
      | false ↦ λ h. absurd (none_some values h)
    ] e

no_writable : (values : List ℕ) → AreValues (level ∷ []) values → wire.state_of [] ≡ Some (writable_of (level ∷ []) values)
no_writable [] are = refl
no_writable (value ∷ values) are = refl

not_writable : (id : ℕ) → has_writable (level ∷ []) id ≡ false
not_writable id = elim (nat_eq 0 id) as (λ t. (t && false) || false ≡ false) [ true ↦ refl | false ↦ refl ]

-- no queue is of a parameter that can be set
pub no_queues : (n value : ℕ) (queues : List Queue) → AreFor wire n queues → values_behind (level ∷ []) queues (value ∷ []) ≡ value ∷ []
no_queues n value [] are = refl
no_queues n value (queue ∷ queues) are = absurd (true≢false (sym (are.writable 0 queue (omega arith)) ∙ not_writable queue.id))

pub wire_lawful : (code : ℕ) → IsLawful wire
wire_lawful code = record {
  rising = λ i j d lt within. absurd (omega (arith, lt, within));
  few = omega arith;
  starts = one_shown;
  held = λ bytes values e. subst (λ (held : List ℕ). (length held ≡ 0) × All (λ value. value ≤ 2 ^ 24) held) (none_held bytes values e) (refl, λ i d within. absurd (omega (arith, within)));
  reads_back = no_writable;
  short = λ values are. omega arith;
  replies = λ state values words few. few;
  partner = refl;
}

-- the code of each of its classes
abbrev pub wire_code : ℕ → ℕ
wire_code class = 0

-- each class that is told of is this one
abbrev pub IsOf : Class → List ClassInfo → Type 0
IsOf class infos = (k : ℕ) (d : ClassInfo) → k < length infos → IsClassOf class (slice_index_or infos k d)

-- one class is told of: its name, its parameters, whether it has an aux bus, its controllers' class
abbrev pub TellsOne : List ℕ → List ParamInfo → Bool → List ℕ → List ClassInfo → Type 0
TellsOne name params aux controller infos = (length infos ≡ 1) × ((d : ClassInfo) →
    (label_text (slice_index_or infos 0 d).name ≡ name) × (params_of (slice_index_or infos 0 d).params ≡ params)
    × ((slice_index_or infos 0 d).aux ≡ aux) × ((slice_index_or infos 0 d).controller.0 ≡ controller))

-- one class is told of, which has this name
abbrev pub HasName : List ClassInfo → List ℕ → Type 0
HasName infos name = (length infos ≡ 1) × ((d : ClassInfo) → label_text (slice_index_or infos 0 d).name ≡ name)

pub same_values : (a b c d : ℕ) → ◌≡◌ {A = ℕ × ℕ} (a, c) (b, d) → (a ∷ []) ≡ (b ∷ [])
same_values a b c d same = ap (λ (pair : ℕ × ℕ). pair.0 ∷ []) same

pub same_calls : (a b c d : ℕ) → ◌≡◌ {A = ℕ × ℕ} (a, c) (b, d) → c ≡ d
same_calls a b c d same = ap (λ (pair : ℕ × ℕ). pair.1) same
