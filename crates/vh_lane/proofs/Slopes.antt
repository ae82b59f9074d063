-- Lines in whole numbers with sign.
use Rattle.std.proofs.Common.{◌≡◌, ℕ, zero, suc, ◌+◌, ◌-◌, ◌*◌, ◌/◌, ◌<◌, ◌≤◌, List, length, get_or, refl, sym, ap, ◌∙◌, inl, inr, arith}
use Rattle.std.specs.Prelude.{ℤ, pos, negsuc, neg_ℤ, ◌+ℤ◌, ◌-ℤ◌, ◌*ℤ◌}
use Rattle.std.proofs.Math.Nat.{add-mul, mul-add, mul-add-div_right, mul-le-mul_right, div-mul-le_self, lt-div-mul-add, div-eq_of_lt-le}
use Rattle.std.proofs.lemmas.Bool.{lt-ltb, le-ltb, cases_lt}
use Rattle.std.proofs.lemmas.List.{get_or_default}
use Rattle.vh_num.specs.Samples.{floor_div}
use Rattle.vh_lane.specs.Values.{AreBreaks, on_line, line_at}
use Rattle.vh_lane.specs.Laws.{slope, break_at, IsFollowed, FollowsLines}
use Rattle.vh_lane.proofs.Segments.{line_first, line_last, line_between, no_fall}

-- differences of numbers without sign
minus : (x y : ℕ) → y ≤ x → pos x -ℤ pos y ≡ pos (x - y)
minus x zero le = ap pos (let e : x + 0 ≡ x - 0 = omega arith in e)
minus x (suc y) le = rw (le-ltb x (suc y) le) refl

minus_more : (x y : ℕ) → x < y → pos x -ℤ pos y ≡ negsuc (y - suc x)
minus_more x zero lt = absurd (omega arith)
minus_more x (suc y) lt = rw (lt-ltb x (suc y) lt) refl

-- a line that rises by k
rising : (a b k r m d : ℕ) → b ≡ a + k → d ≡ r + m → 0 < d → (a * r + b * m) / d ≡ a + k * m / d
rising a b k r m d up long some =
    let ends : b * m ≡ a * m + k * m = ap (λ x. x * m) up ∙ add-mul a k m in
    let whole : a * d ≡ a * r + a * m = ap (λ x. a * x) long ∙ mul-add a r m in
    let sum : a * r + b * m ≡ a * d + k * m = omega (arith, ends, whole) in
    ap (λ x. x / d) sum ∙ mul-add-div_right some a (k * m)

-- a line that falls by k, and at this sample by more than nothing
falling : (a b k r m d n : ℕ) → a ≡ b + k → d ≡ r + m → 0 < d → k * m ≡ suc n → (suc (n / d) ≤ a) × ((a * r + b * m) / d ≡ a - suc (n / d))
falling a b k r m d n down long some fallen =
    let t = n / d in
    let ends : a * m ≡ b * m + k * m = ap (λ x. x * m) down ∙ add-mul b k m in
    let whole : a * d ≡ a * r + a * m = ap (λ x. a * x) long ∙ mul-add a r m in
    let low : t * d ≤ n = div-mul-le_self n d in
    let high : n < t * d + d = lt-div-mul-add some in
    let within : t < a = elim (cases_lt t a) [
      | inl below ↦ below
      | inr above ↦ let more : a * d ≤ t * d = mul-le-mul_right d above in absurd (omega (arith, more, low, whole, ends, fallen))
    ] in
    let left = a - suc t in
    let parts : a * d ≡ left * d + suc t * d = ap (λ x. x * d) (let e : a ≡ left + suc t = omega (arith, within) in e) ∙ add-mul left (suc t) d in
    let one : suc t * d ≡ t * d + d = ap (λ x. x * d) (let e : suc t ≡ t + 1 = omega arith in e) ∙ add-mul t 1 d ∙ omega arith in
    let more : (left + 1) * d ≡ left * d + d = add-mul left 1 d ∙ omega arith in
    (omega (arith, within), div-eq_of_lt-le d (omega (arith, parts, one, low, high, whole, ends, fallen)) (omega (arith, more, parts, one, low, high, whole, ends, fallen)))

-- a number less what has fallen
less : (a b k r m d : ℕ) → a ≡ b + k → d ≡ r + m → 0 < d → (n : ℕ) → k * m ≡ n → pos ((a * r + b * m) / d) ≡ pos a +ℤ floor_div (neg_ℤ (pos n)) d
less a b k r m d down long some zero fallen =
    let ends : a * m ≡ b * m + k * m = ap (λ x. x * m) down ∙ add-mul b k m in
    let whole : a * d ≡ a * r + a * m = ap (λ x. a * x) long ∙ mul-add a r m in
    let sum : a * r + b * m ≡ a * d + 0 = omega (arith, ends, whole, fallen) in
    ap pos (ap (λ x. x / d) sum ∙ mul-add-div_right some a 0)
less a b k r m d down long some (suc n) fallen =
    let here = falling a b k r m d n down long some fallen in
    ap pos here.1 ∙ rw (le-ltb a (suc (n / d)) here.0) refl

pub on_slope : (from to : ℕ × ℕ) (s : ℕ) → from.0 ≤ s → s < to.0 → pos (on_line from to s) ≡ slope from to s
on_slope from to s after ahead =
    let a = from.1 in
    let b = to.1 in
    let r = to.0 - s in
    let m = s - from.0 in
    let d = to.0 - from.0 in
    let long : d ≡ r + m = omega (arith, after, ahead) in
    let some : 0 < d = omega (arith, after, ahead) in
    let time : pos s -ℤ pos from.0 ≡ pos m = minus s from.0 after in
    elim (cases_lt b a) [
      | inl falls ↦
          let k = suc (a - suc b) in
          let way : pos b -ℤ pos a ≡ negsuc (a - suc b) = minus_more b a falls in
          less a b k r m d (omega (arith, falls)) long some (k * m) refl
          ∙ sym (ap (λ (x : ℤ). pos a +ℤ floor_div (x *ℤ (pos s -ℤ pos from.0)) d) way ∙ ap (λ (x : ℤ). pos a +ℤ floor_div (negsuc (a - suc b) *ℤ x) d) time)
      | inr rises ↦
          let k = b - a in
          let way : pos b -ℤ pos a ≡ pos k = minus b a rises in
          ap pos (rising a b k r m d (omega (arith, rises)) long some)
          ∙ sym (ap (λ (x : ℤ). pos a +ℤ floor_div (x *ℤ (pos s -ℤ pos from.0)) d) way ∙ ap (λ (x : ℤ). pos a +ℤ floor_div (pos k *ℤ x) d) time)
    ]

-- all breakpoints up to one that isn't behind a sample aren't either
up_to : (breaks : List (ℕ × ℕ)) (s n : ℕ) → AreBreaks breaks → n < length breaks → (break_at breaks n).0 ≤ s → (i : ℕ) (d : ℕ × ℕ) → i ≤ n → (get_or breaks i d).0 ≤ s
up_to breaks s n are within here i d le =
    let order = no_fall breaks are i n d le within in
    let same : (get_or breaks n d).0 ≡ (break_at breaks n).0 = ap (λ (p : ℕ × ℕ). p.0) (get_or_default breaks n d (0, 0) within) in
    omega (arith, order, same, here)

pub law_follows_lines : FollowsLines
law_follows_lines breaks s are = record {
  first = λ ahead. line_first breaks s (0, 0) are.some ahead;
  last = λ i end here.
      let within : i < length breaks = omega (arith, end) in
      line_last breaks s i (0, 0) (omega (arith, end)) (λ j d lt. up_to breaks s i are within here j d (omega (arith, end)));
  between = λ i more here ahead.
      let next : suc i ≡ i + 1 = omega arith in
      let within : i < length breaks = omega (arith, more) in
      let ahead_of : s < (break_at breaks (suc i)).0 = rw next ahead in
      ap pos (line_between breaks s i (0, 0) (omega (arith, more)) (λ j d le. up_to breaks s i are within here j d le) ahead_of)
      ∙ ap (λ n. pos (on_line (break_at breaks i) (break_at breaks n) s)) next
      ∙ on_slope (break_at breaks i) (break_at breaks (i + 1)) s here ahead;
}
