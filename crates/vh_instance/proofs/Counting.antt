-- Counts that are raised several times.
use Rattle.std.proofs.Common.{◌≡◌, ◌≤◌, ◌^◌, ◌+◌, ◌-◌, ℕ, zero, suc, List, [], ◌∷◌, ◌++◌, length, replicate, refl, sym, ap, ◌∙◌, arith}
use Rattle.std.specs.Prelude.{sum, All, Result, Ok, Err, OnErr}
use Rattle.std.proofs.lemmas.List.Elements.{All-head, All-tail}
use Rattle.std.proofs.lemmas.List.Sums.{sum_by-cons}
use Rattle.vh_plugin.specs.Counts.{raised, raised_by}
use Rattle.vh_instance.specs.Raised.{raised_times, raised_by_each, RaisedBySum, IsUndone, UndoneIsEven}

-- first once, then the other times
raised_first : (n count : ℕ) → raised_times n (raised count) ≡ raised (raised_times n count)
raised_first zero count = refl
raised_first (suc n) count = ap (λ (m : ℕ). raised m) (raised_first n count)

pub raised_both : (n m count : ℕ) → raised_times n (raised_times m count) ≡ raised_times (n + m) count
raised_both zero m count = ap (λ (k : ℕ). raised_times k count) (let e : m ≡ 0 + m = omega arith in e)
raised_both (suc n) m count =
    ap (λ (k : ℕ). raised k) (raised_both n m count) ∙ ap (λ (k : ℕ). raised_times k count) (let e : suc (n + m) ≡ suc n + m = omega arith in e)

-- the last of these numbers is added first
pub each_last : (ns : List ℕ) (n count : ℕ) → raised_by_each (ns ++ n ∷ []) count ≡ raised_by_each ns (raised_by n count)
each_last [] n count = refl
each_last (m ∷ ns) n count = ap (λ (k : ℕ). raised_by m k) (each_last ns n count)

times_is : (n count : ℕ) → count ≤ 2 ^ 64 - 1 → raised_times n count ≡ raised_by n count
times_is zero count within = omega arith
times_is (suc n) count within = let rest = times_is n count within in omega arith

each_is : (ns : List ℕ) (count : ℕ) → count ≤ 2 ^ 64 - 1 → raised_by_each ns count ≡ raised_by (sum ns) count
each_is [] count within = omega arith
each_is (n ∷ ns) count within = let rest = each_is ns count within in omega (arith, sum_by-cons (λ (k : ℕ). k) n ns)

pub law_raised_by_sum : RaisedBySum
law_raised_by_sum ns n count within = (each_is ns count within, times_is n count within)

sum_zeros : (n : ℕ) → sum (replicate n 0) ≡ 0
sum_zeros zero = refl
sum_zeros (suc n) = let rest = sum_zeros n in omega (arith, rest, sum_by-cons (λ (k : ℕ). k) 0 (replicate n 0))

pub law_undone_is_even : UndoneIsEven
law_undone_is_even old_made old_ended old_work new_made new_ended new_work undone made_within ended_within work_within made_below ended_below =
    let made_is : new_made ≡ raised_by undone.objects old_made = undone.made ∙ times_is undone.objects old_made made_within in
    let ended_is : new_ended ≡ raised_by undone.objects old_ended = undone.ended ∙ times_is undone.objects old_ended ended_within in
    let work_is : new_work ≡ raised_by (sum (replicate undone.components 0)) old_work = undone.work ∙ each_is (replicate undone.components 0) old_work work_within in
    let none = sum_zeros undone.components in
    let work_same : new_work ≡ old_work = work_is ∙ ap (λ (n : ℕ). raised_by n old_work) none ∙ omega arith in
    (omega (arith, made_is, ended_is, made_below, ended_below), work_same)

-- nothing was made
pub undone_none : (made ended work : ℕ) → IsUndone made ended work made ended work
undone_none made ended work = record { objects = 0; made = refl; ended = refl; components = 0; work = refl }

zeros : (ns : List ℕ) → All (λ n. n ≡ 0) ns → ns ≡ replicate (length ns) 0
zeros [] all = refl
zeros (n ∷ ns) all = ap (λ (m : ℕ). m ∷ ns) (All-head (λ (m : ℕ). m ≡ 0) n ns all) ∙ ap (λ (ms : List ℕ). 0 ∷ ms) (zeros ns (All-tail (λ (m : ℕ). m ≡ 0) n ns all))

-- so many components were made and ended, none of which was called
pub undone_components : (n : ℕ) (calls : List ℕ) (made ended work new_made new_ended new_work : ℕ) → All (λ c. c ≡ 0) calls → new_made ≡ raised_times n made → new_ended ≡ raised_times n ended → new_work ≡ raised_by_each calls work → IsUndone made ended work new_made new_ended new_work
undone_components n calls made ended work new_made new_ended new_work none made_is ended_is work_is = record {
  objects = n;
  made = made_is;
  ended = ended_is;
  components = length calls;
  work = work_is ∙ ap (λ (ns : List ℕ). raised_by_each ns work) (zeros calls none);
}

-- so many controllers were made, then others were made and ended, and then the controllers were ended
pub undone_then : (n made ended work then_made then_ended then_work mid_made mid_ended mid_work new_made new_ended new_work : ℕ) → then_made ≡ raised_times n made → then_ended ≡ ended → then_work ≡ work → IsUndone then_made then_ended then_work mid_made mid_ended mid_work
    → new_made ≡ mid_made → new_ended ≡ raised_times n mid_ended → new_work ≡ mid_work → IsUndone made ended work new_made new_ended new_work
undone_then n made ended work then_made then_ended then_work mid_made mid_ended mid_work new_made new_ended new_work first kept same undone last_made last_ended last_work = record {
  objects = n + undone.objects;
  made = last_made ∙ undone.made ∙ ap (λ (k : ℕ). raised_times undone.objects k) first ∙ raised_both undone.objects n made ∙ ap (λ (k : ℕ). raised_times k made) (let e : undone.objects + n ≡ n + undone.objects = omega arith in e);
  ended = last_ended ∙ ap (λ (k : ℕ). raised_times n k) (undone.ended ∙ ap (λ (k : ℕ). raised_times undone.objects k) kept) ∙ raised_both n undone.objects ended;
  components = undone.components;
  work = last_work ∙ undone.work ∙ ap (λ (k : ℕ). raised_by_each (replicate undone.components 0) k) same;
}

-- one was made and ended
pub undone_one : (made ended work then_made then_ended new_made new_ended new_work : ℕ) → then_made ≡ raised made → then_ended ≡ ended → new_made ≡ then_made → new_ended ≡ raised then_ended → new_work ≡ work → IsUndone made ended work new_made new_ended new_work
undone_one made ended work then_made then_ended new_made new_ended new_work first kept same last work_is = record {
  objects = 1;
  made = same ∙ first;
  ended = last ∙ ap (λ (k : ℕ). raised k) kept;
  components = 0;
  work = work_is;
}

-- once more, and once less
pub raised_more : (n count : ℕ) → raised (raised_times n count) ≡ raised_times (n + 1) count
raised_more n count = ap (λ (k : ℕ). raised_times k count) (let e : suc n ≡ n + 1 = omega arith in e)

pub raised_less : (n more count : ℕ) → more ≡ n + 1 → raised_times n (raised count) ≡ raised_times more count
raised_less n more count is = raised_first n count ∙ raised_more n count ∙ ap (λ (k : ℕ). raised_times k count) (sym is)

-- what holds anyhow holds of a refusal
pub on_err : {T E : Type 0} (result : Result T E) (P : Type 0) → P → OnErr result P
on_err (Ok x) P p = tt
on_err (Err e) P p = p
