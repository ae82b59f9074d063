-- The two sums of an object's holders.
use Rattle.std.proofs.Common.{◌≡◌, ℕ, ◌+◌, ◌-◌, ◌<◌, ◌≤◌, List, [], ◌∷◌, length, get_or, set, replicate, refl, sym, ◌∙◌, arith}
use Rattle.std.specs.Prelude.{sum, All}
use Rattle.std.proofs.lemmas.List.{length-set, get_or-replicate}
use Rattle.std.proofs.lemmas.List.Elements.{All-cons, All-head, All-nil, All-tail}
use Rattle.std.proofs.lemmas.List.Sums.{sum_by-cons, sum_by-set}
use Rattle.std.proofs.lemmas.List.Sorted.{sum_by-IsPermutation, All-permutation}
use Rattle.vh_counted.specs.declared.numbers.Numbers.{Numbers}
use Rattle.vh_counted.specs.Steps.{total, at_interface, both, first_numbers, added, released, split_off, split_part, joined, IsWithin}
use Rattle.vh_counted.specs.Objects.{count, rooms, adds, releases, IsObject, AreSome, Keeps}
use Rattle.vh_counted.specs.Laws.{BeginsWithOne, AddCounts, ReleaseCounts, SplitKeeps, JoinKeeps, AnyHolderFirst, WholeHasAll}
use Rattle.vh_counted.proofs.References.{length_both}

-- the sums with one holder more
count_cons : (h : Numbers) (others : List Numbers) → count (h ∷ others) ≡ total h + count others
count_cons h others = sum_by-cons total h others

rooms_cons : (h : Numbers) (others : List Numbers) → rooms (h ∷ others) ≡ h.room + rooms others
rooms_cons h others = sum_by-cons (λ (n : Numbers). n.room) h others

adds_cons : (h : Numbers) (others : List Numbers) → adds (h ∷ others) ≡ h.adds + adds others
adds_cons h others = sum_by-cons (λ (n : Numbers). n.adds) h others

releases_cons : (h : Numbers) (others : List Numbers) → releases (h ∷ others) ≡ h.releases + releases others
releases_cons h others = sum_by-cons (λ (n : Numbers). n.releases) h others

-- the sum of references after one position changed
sum_set : (xs : List ℕ) (i x : ℕ) → i < length xs → sum (set xs i x) + get_or xs i 0 ≡ sum xs + x
sum_set xs i x lt = sum_by-set (λ n. n) xs i x 0 lt

sum_both : (xs ys : List ℕ) → length xs ≡ length ys → sum (both xs ys) ≡ sum xs + sum ys
sum_both [] [] e = refl
sum_both [] (y ∷ ys) e = absurd (omega arith)
sum_both (x ∷ xs) [] e = absurd (omega arith)
sum_both (x ∷ xs) (y ∷ ys) e =
    let rest = sum_both xs ys (omega arith) in
    omega (arith, rest, sum_by-cons (λ (n : ℕ). n) (x + y) (both xs ys), sum_by-cons (λ (n : ℕ). n) x xs, sum_by-cons (λ (n : ℕ). n) y ys)

-- a list of holders whose first is another
module _ (cap : ℕ) (h new : Numbers) (others : List Numbers) (is : IsObject cap (h ∷ others)) (size : length new.references ≡ 16) (room_is : new.room + new.adds ≡ h.room + h.adds) (sum_is : total new + new.releases + h.adds ≡ total h + h.releases + new.adds) where
  replaced : IsObject cap (new ∷ others)
  replaced = record {
    room = omega (arith, is.room, room_is, rooms_cons h others, rooms_cons new others, adds_cons h others, adds_cons new others);
    references = omega (arith, is.references, sum_is, count_cons h others, count_cons new others, adds_cons h others, adds_cons new others, releases_cons h others, releases_cons new others);
    positions = All-cons (λ (n : Numbers). length n.references ≡ 16) new others size (All-tail (λ (n : Numbers). length n.references ≡ 16) h others is.positions);
  }

positions_of : (cap : ℕ) (h : Numbers) (others : List Numbers) → IsObject cap (h ∷ others) → length h.references ≡ 16
positions_of cap h others is = All-head (λ (n : Numbers). length n.references ≡ 16) h others is.positions

pub law_begins_with_one : BeginsWithOne
law_begins_with_one cap = (
  record {
    room = omega (arith, rooms_cons (first_numbers cap) [], adds_cons (first_numbers cap) []);
    references = omega (arith, count_cons (first_numbers cap) [], adds_cons (first_numbers cap) [], releases_cons (first_numbers cap) []);
    positions = All-cons (λ (n : Numbers). length n.references ≡ 16) (first_numbers cap) [] refl (All-nil (λ (n : Numbers). length n.references ≡ 16));
  },
  refl,
)

pub law_add_counts : AddCounts
law_add_counts cap iface seen h others within room is =
    let size = positions_of cap h others is in
    let sum_is = sum_set h.references iface (at_interface h iface + 1) (omega arith) in (
      replaced cap h (added iface seen h) others is (length-set h.references iface (at_interface h iface + 1) ∙ size) (omega arith) (omega (arith, sum_is)),
      omega (arith, sum_is, count_cons h others, count_cons (added iface seen h) others),
    )

pub law_release_counts : ReleaseCounts
law_release_counts cap iface seen h others within held is =
    let size = positions_of cap h others is in
    let sum_is = sum_set h.references iface (at_interface h iface - 1) (omega arith) in (
      replaced cap h (released iface seen h) others is (length-set h.references iface (at_interface h iface - 1) ∙ size) refl (omega (arith, sum_is, held)),
      omega (arith, sum_is, held, count_cons h others, count_cons (released iface seen h) others),
    )

given_part : (iface n : ℕ) → iface < 16 → sum (set (replicate 16 0) iface n) ≡ n
given_part iface n within =
    let zeros : List ℕ = replicate 16 0 in
    let here : get_or zeros iface 0 ≡ 0 = get_or-replicate 16 iface 0 0 within in
    let size : length zeros ≡ 16 = refl in
    let change : sum (set zeros iface n) + get_or zeros iface 0 ≡ sum zeros + n = sum_set zeros iface n (omega arith) in
    let none : sum zeros ≡ 0 = refl in
    omega (arith, here, change, none)

pub law_split_keeps : SplitKeeps
law_split_keeps cap iface n room h others within held left is =
    let rest = split_off iface n room h in
    let part = split_part iface n room in
    let size = positions_of cap h others is in
    let kept = sum_set h.references iface (at_interface h iface - n) (omega arith) in
    let given : total part ≡ n = given_part iface n within in
    let positions : All (λ (x : Numbers). length x.references ≡ 16) (rest ∷ part ∷ others) =
    All-cons (λ (x : Numbers). length x.references ≡ 16) rest (part ∷ others) (length-set h.references iface (at_interface h iface - n) ∙ size)
    (All-cons (λ (x : Numbers). length x.references ≡ 16) part others (length-set (replicate 16 0) iface n) (All-tail (λ (x : Numbers). length x.references ≡ 16) h others is.positions)) in
    let counts : count (rest ∷ part ∷ others) ≡ count (h ∷ others) = omega (arith, kept, given, held, count_cons h others, count_cons rest (part ∷ others), count_cons part others) in (
      record {
        room = omega (arith, is.room, left, rooms_cons h others, rooms_cons rest (part ∷ others), rooms_cons part others, adds_cons h others, adds_cons rest (part ∷ others), adds_cons part others);
        references = omega (arith, is.references, counts, adds_cons h others, adds_cons rest (part ∷ others), adds_cons part others, releases_cons h others, releases_cons rest (part ∷ others), releases_cons part others);
        positions = positions;
      },
      counts,
    )

pub law_join_keeps : JoinKeeps
law_join_keeps cap h other others is =
    let size = positions_of cap h (other ∷ others) is in
    let behind = All-tail (λ (x : Numbers). length x.references ≡ 16) h (other ∷ others) is.positions in
    let too = All-head (λ (x : Numbers). length x.references ≡ 16) other others behind in
    let sum_is = sum_both h.references other.references (size ∙ sym too) in
    let new = joined h other in
    let counts : count (new ∷ others) ≡ count (h ∷ other ∷ others) = omega (arith, sum_is, count_cons new others, count_cons h (other ∷ others), count_cons other others) in (
      record {
        room = omega (arith, is.room, rooms_cons new others, rooms_cons h (other ∷ others), rooms_cons other others, adds_cons new others, adds_cons h (other ∷ others), adds_cons other others);
        references = omega (arith, is.references, counts, adds_cons new others, adds_cons h (other ∷ others), adds_cons other others, releases_cons new others, releases_cons h (other ∷ others), releases_cons other others);
        positions = All-cons (λ (x : Numbers). length x.references ≡ 16) new others (length_both h.references other.references ∙ size) (All-tail (λ (x : Numbers). length x.references ≡ 16) other others behind);
      },
      counts,
    )

pub law_any_holder_first : AnyHolderFirst
law_any_holder_first cap holders others order is =
    let counts = sum_by-IsPermutation total holders others order in
    let room_is = sum_by-IsPermutation (λ (n : Numbers). n.room) holders others order in
    let adds_is = sum_by-IsPermutation (λ (n : Numbers). n.adds) holders others order in
    let releases_is = sum_by-IsPermutation (λ (n : Numbers). n.releases) holders others order in (
      record {
        room = omega (arith, is.room, room_is, adds_is);
        references = omega (arith, is.references, counts, adds_is, releases_is);
        positions = All-permutation (λ (x : Numbers). length x.references ≡ 16) holders others order is.positions;
      },
      counts,
    )

pub law_whole_has_all : WholeHasAll
law_whole_has_all cap h others is whole =
    let room_is = is.room in
    let references_is = is.references in
    let own_room = whole.room in
    let own = whole.references in
    let none : rooms others + adds others ≡ 0 = omega (arith, room_is, own_room, rooms_cons h others, adds_cons h others, rooms_cons h [], adds_cons h []) in (
      omega (arith, none, references_is, own, count_cons h others, adds_cons h others, releases_cons h others, count_cons h [], adds_cons h [], releases_cons h []),
      omega (arith, none),
    )

-- the references of a whole holder
pub total_of_whole : (cap : ℕ) (h : Numbers) → IsObject cap (h ∷ []) → total h + h.releases ≡ 1 + h.adds
total_of_whole cap h is = omega (arith, is.references, count_cons h [], adds_cons h [], releases_cons h [])

-- the numbers of two holders of an object, joined, are those of a holder
pub within_joined : (cap : ℕ) (h other : Numbers) → cap ≤ 65535 → AreSome cap (h ∷ other ∷ []) → IsWithin (joined h other)
within_joined cap h other most some =
    let kept = law_join_keeps cap h other some.0 some.1 in
    let is = kept.0 in
    let new = joined h other in
    let room_is = is.room in
    let references_is = is.references in
    record {
      positions = positions_of cap new some.0 is;
      references = omega (arith, most, room_is, references_is, count_cons new some.0, rooms_cons new some.0, adds_cons new some.0, releases_cons new some.0);
      adds = omega (arith, most, room_is, rooms_cons new some.0, adds_cons new some.0);
      releases = omega (arith, most, room_is, references_is, count_cons new some.0, rooms_cons new some.0, adds_cons new some.0, releases_cons new some.0);
    }

-- what the calls keep
pub keeps_add : (cap iface seen : ℕ) (h : Numbers) → iface < 16 → 0 < h.room → Keeps cap (h ∷ []) (added iface seen h ∷ [])
keeps_add cap iface seen h within room = λ others is. (law_add_counts cap iface seen h others within room is).0

pub keeps_release : (cap iface seen : ℕ) (h : Numbers) → iface < 16 → 1 ≤ at_interface h iface → Keeps cap (h ∷ []) (released iface seen h ∷ [])
keeps_release cap iface seen h within held = λ others is. (law_release_counts cap iface seen h others within held is).0

pub keeps_split : (cap iface n room : ℕ) (h : Numbers) → iface < 16 → n ≤ at_interface h iface → room ≤ h.room → Keeps cap (h ∷ []) (split_off iface n room h ∷ split_part iface n room ∷ [])
keeps_split cap iface n room h within held left = λ others is. (law_split_keeps cap iface n room h others within held left is).0

pub keeps_join : (cap : ℕ) (h other : Numbers) → Keeps cap (h ∷ other ∷ []) (joined h other ∷ [])
keeps_join cap h other = λ others is. (law_join_keeps cap h other others is).0
