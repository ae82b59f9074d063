-- A controller's values are read and set one by one.
use Rattle.std.proofs.Common.{◌≡◌, ℕ, zero, suc, ◌+◌, ◌^◌, ◌<◌, ◌≤◌, ◌==◌, nat_le, true, cond, List, [], ◌∷◌, length, map, get_or, set, min, refl, sym, ap, ◌∙◌, arith, below_more, get_or-set_other, get_or-set_same}
use Rattle.std.specs.List.{zip}
use Rattle.std.proofs.lemmas.Bool.{eq-eqb, ne_eqb, le-leb, and_from}
use Rattle.std.proofs.lemmas.List.{get_or-map, get_or_default, length-map, same_lists}
use Rattle.std.proofs.lemmas.List.Folds.{list_any_at}
use Rattle.std.proofs.lemmas.Slice.Zip.{length-zip, get_or-zip}
use Rattle.vh_params.specs.declared.param.ParamInfo.{ParamInfo}
use Rattle.vh_plugin.specs.Class.{Param, param_of}
use Rattle.vh_plugin.specs.Controls.{has_id, value_in, with_value, normalized_to}
use Rattle.vh_instance.specs.Firsts.{first_value, lines_over}

-- the ids of parameters rise
abbrev pub Rising : List Param → Type 0
Rising params = (i j : ℕ) (d : Param) → i < j → j < length params → (get_or params i d).id < (get_or params j d).id

rising_tail : (param : Param) (params : List Param) → Rising (param ∷ params) → Rising params
rising_tail param params rising = λ i j d before within. rising (suc i) (suc j) d (omega (arith, before)) (omega (arith, within))

value_set : (params : List Param) (values : List ℕ) (k value : ℕ) (d : Param) → Rising params → k < length params → length values ≡ length params → with_value params values (get_or params k d).id value ≡ set values k value
value_set [] values k value d rising lt long = absurd (omega (arith, lt))
value_set (param ∷ params) [] k value d rising lt long = absurd (omega (arith, long))
value_set (param ∷ params) (old ∷ values) zero value d rising lt long = ap (λ t. cond t (value ∷ values) (old ∷ with_value params values param.id value)) (eq-eqb param.id param.id refl)
value_set (param ∷ params) (old ∷ values) (suc k) value d rising lt long =
    let id = (get_or params k d).id in
    let apart = rising 0 (suc k) d (omega arith) lt in
    ap (λ t. cond t (value ∷ values) (old ∷ with_value params values id value)) (ne_eqb param.id id (λ same. absurd (omega (arith, apart, same))))
    ∙ ap (λ (rest : List ℕ). old ∷ rest) (value_set params values k value d (rising_tail param params rising) (omega (arith, lt)) (omega (arith, long)))

value_read : (params : List Param) (values : List ℕ) (k : ℕ) (d : Param) → Rising params → k < length params → length values ≡ length params → value_in params values (get_or params k d).id ≡ get_or values k 0
value_read [] values k d rising lt long = absurd (omega (arith, lt))
value_read (param ∷ params) [] k d rising lt long = absurd (omega (arith, long))
value_read (param ∷ params) (value ∷ values) zero d rising lt long = ap (λ t. cond t value (value_in params values param.id)) (eq-eqb param.id param.id refl)
value_read (param ∷ params) (value ∷ values) (suc k) d rising lt long =
    let id = (get_or params k d).id in
    let apart = rising 0 (suc k) d (omega arith) lt in
    ap (λ t. cond t value (value_in params values id)) (ne_eqb param.id id (λ same. absurd (omega (arith, apart, same))))
    ∙ value_read params values k d (rising_tail param params rising) (omega (arith, lt)) (omega (arith, long))

-- the parameter at a place of a class that has these
module _ (params : List Param) (infos : List ParamInfo) (rising : Rising params) (same : params ≡ map param_of infos) (k : ℕ) (info : ParamInfo) (lt : k < length infos) (is : info ≡ get_or infos k info) where
  pub place : k < length params
  place = let size : length params ≡ length infos = ap (λ (ps : List Param). length ps) same ∙ length-map infos param_of in omega (arith, lt, size)

  pub param_is : get_or params k (param_of info) ≡ param_of info
  param_is = ap (λ (ps : List Param). get_or ps k (param_of info)) same ∙ get_or-map param_of infos k info (param_of info) lt ∙ ap param_of (sym is)

  id_is : (get_or params k (param_of info)).id ≡ info.id
  id_is = ap (λ (p : Param). p.id) param_is

  pub has_at : has_id params info.id ≡ true
  has_at = list_any_at (λ (p : Param). p.id == info.id) params k (param_of info) place (eq-eqb (get_or params k (param_of info)).id info.id id_is)

  pub read_at : (values : List ℕ) → length values ≡ length params → value_in params values info.id ≡ get_or values k 0
  read_at values long = ap (λ id. value_in params values id) (sym id_is) ∙ value_read params values k (param_of info) rising place long

  pub set_at : (old new : List ℕ) (value : ℕ) → length old ≡ length params → value ≤ 2 ^ 24 → new ≡ normalized_to params old info.id value → new ≡ set old k value
  set_at old new value long within changed =
      changed ∙ ap (λ t. cond t (with_value params old info.id value) old) (and_from (has_id params info.id) (nat_le value (2 ^ 24)) has_at (le-leb value (2 ^ 24) within))
      ∙ ap (λ id. with_value params old id value) (sym id_is) ∙ value_set params old k value (param_of info) rising place long

-- values of `param` lines over others, of which there is one for each parameter
pub lines_long : (firsts : List (ℕ × ℕ × ℕ)) (node : ℕ) (params : List Param) (others : List ℕ) → length others ≡ length params → length (lines_over firsts node params others) ≡ length params
lines_long firsts node params others long =
    let zipped = length-zip params others in
    length-map (zip params others) (λ (param : Param × ℕ). first_value firsts node param.0 param.1) ∙ zipped ∙ (let least : min (length params) (length others) ≡ length params = omega (arith, long) in least)

pub line_at : (firsts : List (ℕ × ℕ × ℕ)) (node : ℕ) (params : List Param) (others : List ℕ) (k : ℕ) (d : Param) → length others ≡ length params → k < length params
    → get_or (lines_over firsts node params others) k 0 ≡ first_value firsts node (get_or params k d) (get_or others k 0)
line_at firsts node params others k d long lt =
    let within : k < length (zip params others) = omega (arith, length-zip params others, long, lt) in
    get_or-map (λ (param : Param × ℕ). first_value firsts node param.0 param.1) (zip params others) k (d, 0) 0 within
    ∙ ap (λ (param : Param × ℕ). first_value firsts node param.0 param.1) (get_or-zip params others k (d, 0) lt (omega (arith, lt, long)))

-- the values that are set so far, and those that aren't yet
pub record AreSetTo (count : ℕ) (values others first : List ℕ) : Type 0 where
  pub below : (j : ℕ) → j < count → get_or values j 0 ≡ get_or first j 0
  pub above : (j : ℕ) → count ≤ j → get_or values j 0 ≡ get_or others j 0

pub one_more : (count value : ℕ) (values new others first : List ℕ) → AreSetTo count values others first → count < length values → new ≡ set values count value → value ≡ get_or first count 0 → AreSetTo (count + 1) new others first
one_more count value values new others first are lt changed here = record {
  below = below_more _ count
      (λ j before. let apart : j ≡ count → ⊥ = omega (arith, before) in ap (λ (xs : List ℕ). get_or xs j 0) changed ∙ get_or-set_other values count j value 0 apart ∙ are.below j before)
      (ap (λ (xs : List ℕ). get_or xs count 0) changed ∙ get_or-set_same values count value 0 lt ∙ here);
  above = λ j behind. let apart : j ≡ count → ⊥ = omega (arith, behind) in ap (λ (xs : List ℕ). get_or xs j 0) changed ∙ get_or-set_other values count j value 0 apart ∙ are.above j (omega (arith, behind));
}

pub all_set : (count : ℕ) (values others first : List ℕ) → AreSetTo count values others first → length values ≡ length first → length first ≤ count → values ≡ first
all_set count values others first are long all = same_lists values first long (λ j d lt. get_or_default values j d 0 lt ∙ are.below j (omega (arith, lt, long, all)) ∙ sym (get_or_default first j d 0 (omega (arith, lt, long))))
