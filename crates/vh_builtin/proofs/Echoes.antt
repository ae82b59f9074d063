-- A delay's channel, sample by sample.
use Rattle.std.proofs.Common.{◌≡◌, ◌≢◌, ℕ, zero, suc, ◌+◌, ◌-◌, ◌%◌, ◌<◌, ◌≤◌, true, false, nat_lt, List, ◌∷◌, length, take, get_or, set, ℤ, pos, refl, sym, ap, subst, ◌∙◌, arith}
use Rattle.std.proofs.lemmas.Bool.{ltb-true, ltb-false}
use Rattle.std.proofs.lemmas.List.{get_or-set_same, get_or-set_other}
use Rattle.vh_builtin.specs.Delay.{kept_of, delayed_of, fed_of, ago}
use Rattle.vh_builtin.specs.Rings.{history, kept_after, IsEcho}
use Rattle.vh_builtin.proofs.Rings.{get_history, history_more}

differ : (i k : ℕ) → k < i → k ≢ i
differ i k lt same = absurd (omega (arith, lt, same))

pub echo_more : (time mix feedback : ℕ) (us main : List ℤ) (k : ℕ) (kept next out : List ℤ) (y : ℤ) → IsEcho time mix feedback us main k kept out → k < length out
    → y ≡ delayed_of mix (get_or main k (pos 0)) (ago time kept (get_or main k (pos 0))) → next ≡ kept_of time feedback kept (get_or main k (pos 0))
    → IsEcho time mix feedback us main (k + 1) next (set out k y)
echo_more time mix feedback us main k kept next out y is inside gives keeps = record {
  kept_are = keeps ∙ ap (λ (vs : List ℤ). kept_of time feedback vs (get_or main k (pos 0))) is.kept_are ∙ (let e : suc k ≡ k + 1 = omega arith in ap (λ n. kept_after time feedback us main n) e);
  given = λ place lt. elim (nat_lt place k) as (λ t. nat_lt place k ≡ t → get_or (set out k y) place (pos 0) ≡ delayed_of mix (get_or main place (pos 0)) (ago time (kept_after time feedback us main place) (get_or main place (pos 0)))) [
    | true ↦ λ test. get_or-set_other out k place y (pos 0) (differ k place (ltb-true place k test)) ∙ is.given place (ltb-true place k test)
    | false ↦ λ test.
        let here : k ≡ place = omega (arith, ltb-false place k test, lt) in
        subst (λ p. get_or (set out k y) p (pos 0) ≡ delayed_of mix (get_or main p (pos 0)) (ago time (kept_after time feedback us main p) (get_or main p (pos 0)))) here
        (get_or-set_same out k y (pos 0) inside ∙ gives ∙ ap (λ (vs : List ℤ). delayed_of mix (get_or main k (pos 0)) (ago time vs (get_or main k (pos 0)))) is.kept_are)
  ] refl;
}

-- what was kept some samples ago stands in the ring
ago_in_ring : (time : ℕ) (ring : List ℤ) (at read k : ℕ) (x : ℤ) → 1 ≤ time → time ≤ 4095 → read ≡ (at + 4096 - time) % 4096 → at + k ≤ 4096 → read + k < 4096 → ago time (history ring (at + k)) x ≡ get_or ring (read + k) (pos 0)
ago_in_ring zero ring at read k x some most is in_write in_read = absurd (omega (arith, some))
ago_in_ring (suc time) ring at read k x some most is in_write in_read =
    get_history ring (at + k) time (read + k) (omega (arith, most)) (let e : read + k ≡ (at + k + 4095 - time) % 4096 = omega (arith, is, in_write, in_read, most) in e)

pub ago_here : (time : ℕ) (ring : List ℤ) (at read k : ℕ) (x : ℤ) → 1 ≤ time → time ≤ 4095 → read ≡ (at + 4096 - time) % 4096 → at + k ≤ 4096 → read + k < 4096 → get_or ring (read + k) (pos 0) ≡ ago time (history ring (at + k)) x
ago_here time ring at read k x some most is in_write in_read = sym (ago_in_ring time ring at read k x some most is in_write in_read)

ring_more : (time feedback : ℕ) (ring : List ℤ) (place : ℕ) (x u w : ℤ) → place < 4096 → length ring ≡ 4096 → u ≡ fed_of feedback x w → w ≡ ago time (history ring place) x
    → history (set ring place u) (place + 1) ≡ kept_of time feedback (history ring place) x
ring_more time feedback ring place x u w within long fed is =
    history_more ring place u within long
    ∙ ap (λ (v : ℤ). v ∷ take 4094 (history ring place)) (fed ∙ ap (λ (v : ℤ). fed_of feedback x v) is)

-- a sample of a ring's channel
pub sample_more : (time mix feedback : ℕ) (us main ring : List ℤ) (place i : ℕ) (out : List ℤ) (w y u : ℤ) → IsEcho time mix feedback us main i (history ring place) out → i < length out → place < 4096 → length ring ≡ 4096
    → w ≡ ago time (history ring place) (get_or main i (pos 0)) → y ≡ delayed_of mix (get_or main i (pos 0)) w → u ≡ fed_of feedback (get_or main i (pos 0)) w
    → IsEcho time mix feedback us main (i + 1) (history (set ring place u) (place + 1)) (set out i y)
sample_more time mix feedback us main ring place i out w y u is inside within long is_w is_y is_u =
    echo_more time mix feedback us main i (history ring place) (history (set ring place u) (place + 1)) out y is inside
    (is_y ∙ ap (λ (v : ℤ). delayed_of mix (get_or main i (pos 0)) v) is_w)
    (ring_more time feedback ring place (get_or main i (pos 0)) u w within long is_u is_w)

-- the same where places are counted from a first one
pub sample_at : (time mix feedback : ℕ) (us main ring : List ℤ) (write from k : ℕ) (out : List ℤ) (w y u : ℤ) → IsEcho time mix feedback us main (from + k) (history ring (write + k)) out → from + k < length out → write + k < 4096 → length ring ≡ 4096
    → w ≡ ago time (history ring (write + k)) (get_or main (from + k) (pos 0)) → y ≡ delayed_of mix (get_or main (from + k) (pos 0)) w → u ≡ fed_of feedback (get_or main (from + k) (pos 0)) w
    → IsEcho time mix feedback us main (from + (k + 1)) (history (set ring (write + k) u) (write + (k + 1))) (set out (from + k) y)
sample_at time mix feedback us main ring write from k out w y u is inside within long is_w is_y is_u =
    let i : from + k + 1 ≡ from + (k + 1) = omega arith in
    let place : write + k + 1 ≡ write + (k + 1) = omega arith in
    subst (λ n. IsEcho time mix feedback us main n (history (set ring (write + k) u) (write + (k + 1))) (set out (from + k) y)) i
    (subst (λ n. IsEcho time mix feedback us main (from + k + 1) (history (set ring (write + k) u) n) (set out (from + k) y)) place
    (sample_more time mix feedback us main ring (write + k) (from + k) out w y u is inside within long is_w is_y is_u))
