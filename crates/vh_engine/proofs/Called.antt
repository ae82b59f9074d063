-- Elements that are put back one by one, and processors that are called once each.
use Rattle.std.proofs.Common.{◌≡◌, ◌≢◌, ◌∙◌, ◌⊎◌, inl, inr, ℕ, ◌<◌, List, [], ◌∷◌, length, map, get_or, set, refl, sym, ap, subst, arith}
use Rattle.std.proofs.lemmas.Bool.{cases_eq}
use Rattle.std.proofs.lemmas.List.{get_or-map, length-map, length-set, map-set, get_or-set_same, get_or-set_other, set-get_or, ext_get_or}
use Rattle.vh_plugin.specs.Counts.{raised}

-- one of these, where there are some
pub one_of : {A : Type 0} (xs : List A) (k : ℕ) → k < length xs → A
one_of [] k lt = absurd (omega (arith, lt))
one_of (x ∷ xs) k lt = x

-- an element that was read is there again
pub read_again : {A : Type 0} (xs : List A) (i : ℕ) (x : A) → x ≡ get_or xs i x → get_or xs i x ≡ get_or xs i (get_or xs i x)
read_again {A} xs i x is = ap (λ (d : A). get_or xs i d) is

-- what is meant of an element
pub map_here : {A B : Type 0} (f : A → B) (xs : List A) (i : ℕ) (x : A) (d : B) → i < length xs → x ≡ get_or xs i x → get_or (map f xs) i d ≡ f x
map_here f xs i x d within is = get_or-map f xs i x d within ∙ sym (ap f is)

-- of one that was put there
pub map_put : {A B : Type 0} (f : A → B) (xs : List A) (i : ℕ) (new : A) (d : B) → i < length xs → get_or (map f (set xs i new)) i d ≡ f new
map_put f xs i new d within = get_or-map f (set xs i new) i new d (omega (arith, length-set xs i new, within)) ∙ ap f (get_or-set_same xs i new new within)

-- and of one elsewhere
pub map_apart : {A B : Type 0} (f : A → B) (xs : List A) (i other : ℕ) (new : A) (d : B) → other ≢ i → get_or (map f (set xs i new)) other d ≡ get_or (map f xs) other d
map_apart {A} {B} f xs i other new d apart = ap (λ (l : List B). get_or l other d) (map-set f xs i new) ∙ get_or-set_other (map f xs) i other (f new) d apart

-- where it means the same, so does the list
pub map_stays : {A B : Type 0} (f : A → B) (xs : List A) (i : ℕ) (old new : A) → i < length xs → old ≡ get_or xs i old → f new ≡ f old → map f (set xs i new) ≡ map f xs
map_stays {A} {B} f xs i old new within is same =
    map-set f xs i new
    ∙ ap (λ (y : B). set (map f xs) i y) (same ∙ sym (map_here f xs i old (f old) within is))
    ∙ set-get_or (map f xs) i (f old)

-- two lists mean the same where the elements put into them do
pub maps_both : {A B C : Type 0} (f : A → C) (g : B → C) (xs : List A) (ys : List B) (i : ℕ) (x : A) (y : B) → map f xs ≡ map g ys → f x ≡ g y → map f (set xs i x) ≡ map g (set ys i y)
maps_both {A} {B} {C} f g xs ys i x y same here =
    map-set f xs i x
    ∙ ap (λ (l : List C). set l i (f x)) same
    ∙ ap (λ (z : C). set (map g ys) i z) here
    ∙ sym (map-set g ys i y)

-- of processors those that are done were called once more, the others not
pub record AreCalled (done : ℕ → Type 0) (olds news : List ℕ) : Type 0 where
  pub long : length news ≡ length olds
  pub called : (node : ℕ) → node < length olds → done node → get_or news node 0 ≡ raised (get_or olds node 0)
  pub waits : (node : ℕ) → ¬ done node → get_or news node 0 ≡ get_or olds node 0

pub called_none : (done : ℕ → Type 0) (calls : List ℕ) → ((node : ℕ) → ¬ done node) → AreCalled done calls calls
called_none done calls none = record {
  long = refl;
  called = λ node within is. absurd (none node is);
  waits = λ node is. refl;
}

-- one more is done
pub record IsOneMore (done more : ℕ → Type 0) (node : ℕ) : Type 0 where
  pub missing : ¬ done node
  pub split : (other : ℕ) → more other → done other ⊎ (node ≡ other)
  pub kept : (other : ℕ) → done other → more other
  pub now : more node

pub called_more : (done more : ℕ → Type 0) (olds news : List ℕ) (node count : ℕ) → IsOneMore done more node → node < length olds → count ≡ raised (get_or news node 0) → AreCalled done olds news → AreCalled more olds (set news node count)
called_more done more olds news node count one within counted is = record {
  long = length-set news node count ∙ is.long;
  called = λ other inside out. elim (cases_eq other node) [
    | inl same ↦
        subst (λ (m : ℕ). get_or (set news node count) m 0 ≡ raised (get_or olds m 0)) (sym same)
        (get_or-set_same news node count 0 (omega (arith, is.long, within)) ∙ counted ∙ ap raised (is.waits node one.missing))
    | inr apart ↦
        get_or-set_other news node other count 0 apart ∙ (elim (one.split other out) [
          | inl old ↦ is.called other inside old
          | inr same ↦ absurd (apart (sym same))
        ])
  ];
  waits = λ other out.
      let apart : other ≢ node = λ same. out (subst (λ (m : ℕ). more m) (sym same) one.now) in
      get_or-set_other news node other count 0 apart ∙ is.waits other (λ old. out (one.kept other old));
}

pub called_all : (done : ℕ → Type 0) (olds news : List ℕ) → AreCalled done olds news → ((node : ℕ) → node < length olds → done node) → news ≡ map raised olds
called_all done olds news is all =
    ext_get_or 0 news (map raised olds) (is.long ∙ sym (length-map olds raised)) (λ node inside.
    let within : node < length olds = omega (arith, is.long, inside) in
    is.called node within (all node within) ∙ sym (get_or-map raised olds node 0 0 within))
