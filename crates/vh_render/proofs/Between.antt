-- The entries of a piece.
use Rattle.std.proofs.Common.{◌≡◌, ◌∙◌, ℕ, ◌+◌, ◌-◌, ◌<◌, ◌≤◌, List, ◌++◌, length, take, drop, get_or, Some, ◌⊎◌, inl, inr, ⊎_elim, sym, ap, subst, arith}
use Rattle.std.specs.Prelude.{All}
use Rattle.std.proofs.lemmas.Bool.{cases_lt}
use Rattle.std.proofs.lemmas.List.{get_or-take, get_or-drop, length-take-le, length-drop, length-append, take-append-drop}
use Rattle.std.proofs.lemmas.List.Elements.{filter_map-append}
use Rattle.std.proofs.Math.Seq.{take-add, take-length}
use Rattle.vh_params.specs.declared.command.Command.{Command}
use Rattle.vh_params.specs.declared.command.Command.TheVariants.{Begin, Perform, End, Tell}
use Rattle.vh_journal.specs.declared.entry.Entry.{Entry}
use Rattle.vh_meaning.specs.Scene.{Scene}
use Rattle.vh_meaning.specs.Rendering.{message_sample, stops}
use Rattle.vh_meaning.specs.Laws.{IsToNode}
use Rattle.vh_engine.specs.Kept.{IsFor, MayCarry}
use Rattle.vh_render.specs.Playing.{MayFollow, IsUpTo}

abbrev pub between : ℕ → ℕ → List Entry → List Entry
between place next entries = take (next - place) (drop place entries)

pub between-at : (place next i : ℕ) (entries : List Entry) (d : Entry) → i < next - place → get_or (between place next entries) i d ≡ get_or entries (place + i) d
between-at place next i entries d below = get_or-take (next - place) (drop place entries) i d below ∙ get_or-drop place entries i d

pub length-between : (place next : ℕ) (entries : List Entry) → place ≤ next → next ≤ length entries → length (between place next entries) ≡ next - place
length-between place next entries later most =
    let left = length-drop place entries in length-take-le (next - place) (drop place entries) (omega (arith, later, most, left))

-- those before a place, and those between it and a later one, are those before the later one
pub taken_more : (place next : ℕ) (entries : List Entry) → place ≤ next → take place entries ++ between place next entries ≡ take next entries
taken_more place next entries later =
    let e : place + (next - place) ≡ next = omega (arith, later) in
    sym (take-add place (next - place) entries) ∙ ap (λ n. take n entries) e

pub message_at : (sample t : ℕ) (command : Command) → message_sample sample command ≡ Some t → t ≡ sample
message_at sample t (Begin node id) is = absurd cc
message_at sample t (Perform node id value) is = absurd cc
message_at sample t (End node id) is = absurd cc
message_at sample t (Tell node words) is = cc

to_node : (scene : Scene) (command : Command) → IsFor scene command → IsToNode scene command
to_node scene command for = λ node words is. subst (IsFor scene) is for

stops_append : (xs ys : List Entry) → stops (xs ++ ys) ≡ stops xs ++ stops ys
stops_append xs ys = filter_map-append (λ entry. message_sample entry.sample entry.command) xs ys

-- no message stands within a piece, after its first sample
abbrev pub IsUncrossed : ℕ → ℕ → Entry → Type 0
IsUncrossed at past entry = (t : ℕ) → message_sample entry.sample entry.command ≡ Some t → (t ≤ at) ⊎ (past ≤ t)

-- how many messages there are between two places
pub few_stops : (place next : ℕ) (entries : List Entry) → place ≤ next
    → length (stops (take next entries)) ≡ length (stops (take place entries)) + length (stops (between place next entries))
few_stops place next entries later =
    ap (λ (l : List Entry). length (stops l)) (sym (taken_more place next entries later))
    ∙ ap length (stops_append (take place entries) (between place next entries))
    ∙ length-append (stops (take place entries)) (stops (between place next entries))

pub all_stops : (next : ℕ) (entries : List Entry) → length (stops (take next entries)) ≤ length (stops entries)
all_stops next entries =
    let whole : length (stops entries) ≡ length (stops (take next entries)) + length (stops (drop next entries)) =
    ap (λ (l : List Entry). length (stops l)) (sym (take-append-drop next entries)) ∙ ap length (stops_append (take next entries) (drop next entries)) ∙ length-append (stops (take next entries)) (stops (drop next entries)) in
    omega (arith, whole)

-- the engine may carry a piece's entries
pub may_carry : (scene : Scene) (samples room at past place next : ℕ) (entries : List Entry)
    → MayFollow scene samples (room + length (stops (take place entries))) entries
    → IsUpTo entries place at → IsUpTo entries next past → place ≤ next
    → All (IsUncrossed at past) entries
    → MayCarry scene at past room (between place next entries)
may_carry scene samples room at past place next entries follow before behind later uncrossed =
    let long = length-between place next entries later behind.most in
    let most = behind.most in
    let split = few_stops place next entries later in
    let whole = all_stops next entries in
    let few = follow.few in
    record {
      next = record {
        rising = λ i j d lt below.
            let ti = between-at place next i entries d (omega (arith, lt, below, long)) in
            let tj = between-at place next j entries d (omega (arith, below, long)) in
            let up = follow.rising (place + i) (place + j) d (omega (arith, lt)) (omega (arith, below, long, later, most)) in
            let ei = ap (λ entry. entry.sample) ti in
            let ej = ap (λ entry. entry.sample) tj in
            omega (arith, up, ei, ej);
        from = λ i d below.
            let here = ap (λ entry. entry.sample) (between-at place next i entries d (omega (arith, below, long))) in
            let least = before.after (place + i) d (omega arith) (omega (arith, below, long, later, most)) in
            omega (arith, here, least);
        messages = λ i d below t is.
            let spot = between-at place next i entries d (omega (arith, below, long)) in
            let e = get_or entries (place + i) d in
            let P : Entry → Type 0 = λ entry. message_sample entry.sample entry.command ≡ Some t in
            let told : message_sample e.sample e.command ≡ Some t = subst P spot is in
            let when : t ≡ e.sample = message_at e.sample t e.command told in
            let least = before.after (place + i) d (omega arith) (omega (arith, below, long, later, most)) in
            let under = behind.before (place + i) d (omega (arith, below, long)) in
            ⊎_elim
            (λ (le : t ≤ at). omega (arith, le, when, least))
            (λ (le : past ≤ t). absurd (omega (arith, le, when, under)))
            (uncrossed (place + i) d (omega (arith, below, long, later, most)) t told);
        nodes = λ i d below.
            let spot = between-at place next i entries d (omega (arith, below, long)) in
            let P : Entry → Type 0 = λ entry. IsToNode scene entry.command in
            let e = get_or entries (place + i) d in
            subst P (sym spot) (to_node scene e.command (follow.commands (place + i) d (omega (arith, below, long, later, most))));
      };
      within = λ i d below.
          let here = ap (λ entry. entry.sample) (between-at place next i entries d (omega (arith, below, long))) in
          let under = behind.before (place + i) d (omega (arith, below, long)) in
          omega (arith, here, under);
      commands = λ i d below.
          let spot = between-at place next i entries d (omega (arith, below, long)) in
          let P : Entry → Type 0 = λ entry. IsFor scene entry.command in
          subst P (sym spot) (follow.commands (place + i) d (omega (arith, below, long, later, most)));
      few = omega (arith, split, whole, few);
    }

-- and those at the length, which end the rendering
pub may_end : (scene : Scene) (samples room taken : ℕ) (entries : List Entry) → MayFollow scene samples (room + length (stops (take taken entries))) entries → IsUpTo entries taken samples
    → MayCarry scene samples (samples + 1) room (between taken (length entries) entries)
may_end scene samples room taken entries follow before =
    may_carry scene samples room samples (samples + 1) taken (length entries) entries follow before
    (record {
      most = omega arith;
      before = λ i d below. let within = follow.within i d below in omega (arith, within);
      after = λ i d from below. absurd (omega (arith, from, below));
    })
    before.most
    (λ i d below t is. ⊎_elim (λ (behind : samples < t). inr (omega (arith, behind))) (λ (from : t ≤ samples). inl from) (cases_lt samples t))

-- those taken and the others are all
pub taken_all : (taken : ℕ) (entries : List Entry) → taken ≤ length entries → take taken entries ++ between taken (length entries) entries ≡ entries
taken_all taken entries within = taken_more taken (length entries) entries within ∙ take-length entries
