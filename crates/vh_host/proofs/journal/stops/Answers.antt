use Rattle.std.proofs.Common.{◌≡◌, ◌∙◌, ℕ, ◌+◌, ◌++◌, [], ◌∷◌, Vec, Global, take, sym, ap, arith}
use Rattle.std.proofs.lemmas.List.{append-nil}
use Rattle.vh_meaning.specs.Rendering.{stops}
use Rattle.vh_host.proofs.Hearing.{stops_more, told_stop, quiet_stop}
use Rattle.vh_host.proofs.journal.stops.Goals as goal
use Rattle.vh_host.proofs.journal.stops.Goals.{in-Tell+in_ok-push, in_default}

pub loop-entry-preserved : goal.loop-entry-preserved
loop-entry-preserved c =
    let i = c.loop-entry.entry-index in
    let entry = c.entry-item.result in
    let h = c.args.entries.now in
    let before = stops (take i h) in
    let more : stops (take (i + 1) h) ≡ before ++ stops (entry ∷ []) = stops_more h i entry (omega (arith, c.loop-entry-test.true)) c.entry-item.is in
    elim c.match-entry.branch [
      | in-Tell+in_ok-push w ↦
          ap (λ (samples : Vec ℕ Global). samples.items) w.samples-is ∙ w.in_ok-push.ensures.items ∙ ap (λ xs. xs ++ entry.sample ∷ []) c.loop-entry.invariant
          ∙ ap (λ xs. before ++ xs) (sym (told_stop entry w.in-Tell.node w.in-Tell.words w.in-Tell.is)) ∙ sym more
      | in_default w ↦
          ap (λ (samples : Vec ℕ Global). samples.items) w.samples-is ∙ c.loop-entry.invariant ∙ sym (append-nil before)
          ∙ ap (λ xs. before ++ xs) (sym (quiet_stop entry w.in_default.not-Tell)) ∙ sym more
    ]
