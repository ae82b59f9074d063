-- What is seen at the end.
use Rattle.std.proofs.Common.{◌≡◌, ◌∙◌, ℕ, ◌+◌, ◌<◌, ◌≤◌, List, ◌++◌, sym, ap, subst, arith}
use Rattle.std.specs.Prelude.{All}
use Rattle.std.proofs.lemmas.List.Elements.{All-append, All-weaker}
use Rattle.vh_num.specs.Frames.{Frame}
use Rattle.vh_journal.specs.declared.entry.Entry.{Entry}
use Rattle.vh_meaning.specs.Scene.{Scene}
use Rattle.vh_meaning.specs.Rendering.{seen_at, of_all, last_values}
use Rattle.vh_meaning.specs.Stands.{Standing, StandsFor}
use Rattle.vh_meaning.specs.Steps.{values_in, applied}
use Rattle.vh_meaning.specs.Laws.{AreNext, StandsAfter}
use Rattle.vh_meaning.proofs.Blocks.{law_last_from_kept}
use Rattle.vh_engine.specs.Staged.{AreSame}
use Rattle.vh_engine.proofs.Carried.{flush_stands}

-- what is seen after the entries at the length, from what is then kept: over an equal scene, as an equal standing and at an equal sample
pub last_seen : (scene other : Scene) (kept one two : Standing) (at here : ℕ) (input : List Frame) (h entries : List Entry) → other ≡ scene → two ≡ one → here ≡ at → at ≡ scene.length
    → StandsFor scene kept at input h → AreNext scene at entries → All (λ entry. entry.sample < at + 1) entries → AreSame scene (applied scene at entries kept) one
    → of_all other (seen_at other two.states (values_in other two here)) ≡ last_values scene input (h ++ entries)
last_seen scene other kept one two at here input h entries same alike now end stands next within applies =
    let after = flush_stands scene kept one at input h entries stands next applies in
    let upto : All (λ entry. entry.sample ≤ scene.length) (h ++ entries) =
    All-append (λ (e : Entry). e.sample ≤ scene.length) h entries (All-weaker (λ (e : Entry). e.sample < at) (λ (e : Entry). e.sample ≤ scene.length) (λ e lt. omega (arith, lt, end)) h stands.before)
    (All-weaker (λ (e : Entry). e.sample < at + 1) (λ (e : Entry). e.sample ≤ scene.length) (λ e lt. omega (arith, lt, end)) entries within) in
    ap (λ (s : Scene). of_all s (seen_at s two.states (values_in s two here))) same
    ∙ ap (λ (x : Standing). of_all scene (seen_at scene x.states (values_in scene x here))) alike
    ∙ ap (λ (t : ℕ). of_all scene (seen_at scene one.states (values_in scene one t))) (now ∙ end)
    ∙ law_last_from_kept scene one input (h ++ entries) (subst (λ (t : ℕ). StandsAfter scene one t input (h ++ entries)) end after) upto
