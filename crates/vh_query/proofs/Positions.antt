-- Where an identifier is found in a table.
use Rattle.std.proofs.Common.{◌≡◌, ◌≢◌, ℕ, zero, suc, ◌+◌, ◌<◌, true, false, cond, eqb, List, [], ◌∷◌, length, get_or, Some, None, refl, sym, ap, ◌∙◌, arith}
use Rattle.std.specs.Str.{bytes_eq}
use Rattle.std.proofs.lemmas.Bool.{false_from_ne_true}
use Rattle.std.proofs.lemmas.Slice.Eq.{bytes_eq-Decides}
use Rattle.vh_ids.specs.declared.interface.Interface.{Interface}
use Rattle.vh_ids.specs.declared.interface.Interface.TheVariants.{Unknown, PluginBase, Component, AudioProcessor, EditController, ConnectionPoint, ComponentHandler, Message}
use Rattle.vh_ids.specs.Interfaces.{iid_of}
use Rattle.vh_query.specs.Found.{found_from}
use Rattle.vh_query.specs.Laws.{EachIsFound, FoundIsAsked}

-- the last byte of an identifier tells the interface
by_last : ℕ → Interface
by_last n =
    cond (eqb n 1) PluginBase (cond (eqb n 2) Component (cond (eqb n 3) AudioProcessor (cond (eqb n 4) EditController (cond (eqb n 5) ConnectionPoint (cond (eqb n 6) ComponentHandler (cond (eqb n 7) Message Unknown))))))

last_tells : (k : Interface) → by_last (get_or (iid_of k) 15 0) ≡ k
unfolding by_last
last_tells Unknown = refl
last_tells PluginBase = refl
last_tells Component = refl
last_tells AudioProcessor = refl
last_tells EditController = refl
last_tells ConnectionPoint = refl
last_tells ComponentHandler = refl
last_tells Message = refl

same_interface : (a b : Interface) → iid_of a ≡ iid_of b → a ≡ b
same_interface a b e = sym (last_tells a) ∙ ap (λ (bytes : List ℕ). by_last (get_or bytes 15 0)) e ∙ last_tells b

some_injective : (a b : ℕ) → Some a ≡ Some b → a ≡ b
some_injective a b e = cc

some_none : (a : ℕ) → None ≢ Some a
some_none a e = cc

-- an identifier is found at the place of its interface
at_place : (at : ℕ) (ks : List Interface) (id : List ℕ) (p : ℕ) (d : Interface) → p < length ks → id ≡ iid_of (get_or ks p d) → ((j : ℕ) (e : Interface) → j < p → get_or ks j e ≢ get_or ks p e) → found_from at ks id ≡ Some (at + p)
at_place at [] id p d lt is others = absurd (omega arith)
at_place at (k ∷ ks) id zero d lt is others =
    let same : bytes_eq (iid_of k) id ≡ true = (bytes_eq-Decides (iid_of k) id).1 (sym is) in
    rw same (ap Some (let e : at ≡ at + 0 = omega arith in e))
at_place at (k ∷ ks) id (suc p) d lt is others =
    let differs : bytes_eq (iid_of k) id ≡ false = false_from_ne_true _ (λ h. others 0 d (omega arith) (same_interface k (get_or ks p d) ((bytes_eq-Decides (iid_of k) id).0 h ∙ is))) in
    rw differs (at_place (at + 1) ks id p d (omega arith) is (λ j e before. others (suc j) e (omega arith)) ∙ ap Some (let e : at + 1 + p ≡ at + suc p = omega arith in e))

found_there : (at : ℕ) (ks : List Interface) (id : List ℕ) (q : ℕ) (d : Interface) → found_from at ks id ≡ Some q → (p : ℕ) × (q ≡ at + p) × (p < length ks) × (id ≡ iid_of (get_or ks p d))
found_there at [] id q d e = absurd (some_none q e)
found_there at (k ∷ ks) id q d e =
    elim (bytes_eq (iid_of k) id) as (λ b. bytes_eq (iid_of k) id ≡ b → cond b (Some at) (found_from (at + 1) ks id) ≡ Some q → (p : ℕ) × (q ≡ at + p) × (p < length (k ∷ ks)) × (id ≡ iid_of (get_or (k ∷ ks) p d))) [
      | true ↦ λ test h. (0, sym (some_injective at q h) ∙ omega arith, omega arith, sym ((bytes_eq-Decides (iid_of k) id).0 test))
      | false ↦ λ test h. let rest = found_there (at + 1) ks id q d h in (suc rest.0, omega (arith, rest.1), omega (arith, rest.2), rest.3)
    ] refl e

pub law_each_is_found : EachIsFound
law_each_is_found interfaces id position d table lt is = at_place 0 interfaces id.0 position d lt is (λ j e before. table.differ j position e before lt) ∙ ap Some (let e : 0 + position ≡ position = omega arith in e)

pub law_found_is_asked : FoundIsAsked
law_found_is_asked interfaces id position d e =
    let there = found_there 0 interfaces id.0 position d e in
    let place : there.0 ≡ position = omega (arith, there.1) in
    (omega (arith, there.1, there.2), there.3 ∙ ap (λ p. iid_of (get_or interfaces p d)) place)
