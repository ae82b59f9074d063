-- Two commands are equal exactly where they are the same.
use Rattle.std.proofs.Common.{◌≡◌, ◌∙◌, ℕ, ◌-◌, ◌≤◌, Bool, true, false, ◌&&◌, ◌==◌, List, drop, replicate, refl, sym, ap, subst}
use Rattle.std.specs.Bool.{Decides}
use Rattle.std.specs.Cmp.Lexicographic.{bytes_decides}
use Rattle.std.proofs.Props.{props}
use Rattle.std.proofs.lemmas.Bool.{false≢true, eqb-true, eq-eqb, and_parts, and_from}
use Rattle.vh_params.specs.declared.command.Command.{Command}
use Rattle.vh_params.specs.declared.command.Command.TheVariants.{Begin, Perform, End, Tell}
use Rattle.vh_params.specs.declared.label.Words.{Words}
use Rattle.vh_params.specs.contracts.command.CommandPartialEq.TheImpl as command
use Rattle.vh_params.specs.contracts.label.WordsPartialEq.TheImpl as words

abbrev made : (list : List ℕ) (len : ℕ) → len ≤ 4 → drop len list ≡ replicate (4 - len) 0 → Words
made list len within clear = record { list = list; len = len; within = within; clear = clear }

-- messages of the same numbers are one
words_same : (a b : Words) → a.list ≡ b.list → a.len ≡ b.len → a ≡ b
words_same a b list len =
    let within_prop : IsProp (b.len ≤ 4) = hlevel props in
    let clear_prop : IsProp (drop b.len b.list ≡ replicate (4 - b.len) 0) = hlevel props in
    let here : (w : b.len ≤ 4) (c : drop b.len b.list ≡ replicate (4 - b.len) 0) → made b.list b.len w c ≡ b = λ w c i. made b.list b.len (within_prop w b.within i) (clear_prop c b.clear i) in
    let at_len : (n : ℕ) → n ≡ b.len → (w : n ≤ 4) (c : drop n b.list ≡ replicate (4 - n) 0) → made b.list n w c ≡ b =
    λ n is. subst (λ m. (w : m ≤ 4) (c : drop m b.list ≡ replicate (4 - m) 0) → made b.list m w c ≡ b) (sym is) here in
    subst (λ (l : List ℕ). (w : a.len ≤ 4) (c : drop a.len l ≡ replicate (4 - a.len) 0) → made l a.len w c ≡ b) (sym list) (at_len a.len len) a.within a.clear

words_decides : (a b : Words) → Decides (words.eq-value.it a b) (a ≡ b)
words_decides a b =
    let lists = bytes_decides a.list b.list in (
      λ yes.
          let both = and_parts _ (a.len == b.len) yes in
          words_same a b (lists.0 both.0) (eqb-true a.len b.len both.1),
      λ is. and_from _ (a.len == b.len) (lists.1 (ap (λ (w : Words). w.list) is)) (eq-eqb a.len b.len (ap (λ (w : Words). w.len) is)),
    )

apart : {P : Type 0} → (P → ⊥) → Decides false P
apart never = (λ e. absurd (false≢true e), λ p. absurd (never p))

-- what a command names: its node, and its id or value
abbrev node_in : Command → ℕ
node_in (Begin node id) = node
node_in (Perform node id value) = node
node_in (End node id) = node
node_in (Tell node words) = node

abbrev id_in : Command → ℕ
id_in (Begin node id) = id
id_in (Perform node id value) = id
id_in (End node id) = id
id_in (Tell node words) = 0

abbrev value_in : Command → ℕ
value_in (Begin node id) = 0
value_in (Perform node id value) = value
value_in (End node id) = 0
value_in (Tell node words) = 0

two_decide : (make : ℕ → ℕ → Command) (a b c d : ℕ) → (make a b ≡ make c d → (a ≡ c) × (b ≡ d)) → Decides ((a == c) && (b == d)) (make a b ≡ make c d)
two_decide make a b c d parts = (
  λ yes.
      let both = and_parts (a == c) (b == d) yes in
      ap (λ n. make n b) (eqb-true a c both.0) ∙ ap (make c) (eqb-true b d both.1),
  λ is. let both = parts is in and_from (a == c) (b == d) (eq-eqb a c both.0) (eq-eqb b d both.1),
)

pub command_decides : (one other : Command) → Decides (command.eq-value.it one other) (one ≡ other)
command_decides (Begin a b) (Begin c d) = two_decide Begin a b c d (λ is. (ap node_in is, ap id_in is))
command_decides (Begin a b) (Perform c d v) = apart (λ is. cc)
command_decides (Begin a b) (End c d) = apart (λ is. cc)
command_decides (Begin a b) (Tell c w) = apart (λ is. cc)
command_decides (Perform a b v) (Begin c d) = apart (λ is. cc)
command_decides (Perform a b v) (Perform c d w) = (
  λ yes.
      let one = and_parts (a == c) _ yes in
      let two = and_parts (b == d) (v == w) one.1 in
      ap (λ n. Perform n b v) (eqb-true a c one.0) ∙ ap (λ n. Perform c n v) (eqb-true b d two.0) ∙ ap (Perform c d) (eqb-true v w two.1),
  λ is. and_from (a == c) _ (eq-eqb a c (ap node_in is)) (and_from (b == d) (v == w) (eq-eqb b d (ap id_in is)) (eq-eqb v w (ap value_in is))),
)
command_decides (Perform a b v) (End c d) = apart (λ is. cc)
command_decides (Perform a b v) (Tell c w) = apart (λ is. cc)
command_decides (End a b) (Begin c d) = apart (λ is. cc)
command_decides (End a b) (Perform c d v) = apart (λ is. cc)
command_decides (End a b) (End c d) = two_decide End a b c d (λ is. (ap node_in is, ap id_in is))
command_decides (End a b) (Tell c w) = apart (λ is. cc)
command_decides (Tell a u) (Begin c d) = apart (λ is. cc)
command_decides (Tell a u) (Perform c d v) = apart (λ is. cc)
command_decides (Tell a u) (End c d) = apart (λ is. cc)
command_decides (Tell a u) (Tell c w) =
    let same = words_decides u w in (
      λ yes.
          let both = and_parts (a == c) _ yes in
          ap (λ n. Tell n u) (eqb-true a c both.0) ∙ ap (Tell c) (same.0 both.1),
      λ is. and_from (a == c) _ (eq-eqb a c (ap node_in is)) (same.1 (words_of a c u w is)),
    )
  where
    words_of : (a c : ℕ) (u w : Words) → Tell a u ≡ Tell c w → u ≡ w
    words_of a c u w is = cc
