-- How a rendering ends.
use Rattle.std.proofs.Common.{◌≡◌, ℕ, List, sum, Option, Some, None, Result, sym, subst}
use Rattle.vh_files.specs.declared.outside.Files as files
use Rattle.vh_files.specs.declared.outside.Say as say
use Rattle.vh_journal.specs.declared.entry.Entry.{Entry}
use Rattle.vh_session.specs.Content.{Content}
use Rattle.vh_meaning.specs.Scene.{Scene}
use Rattle.vh_answers.specs.declared.status.Status.{Status}
use Rattle.vh_engine.specs.declared.parts.Parts.{Parts}
use Rattle.vh_instance.specs.Band.{of_processors}
use Rattle.vh_answers.specs.Outside.{Store, Outside, outside, OnlyReads}
use Rattle.vh_answers.specs.Steps.{Steps, Gives, Ends, EndsUnsaid}
use Rattle.vh_answers.proofs.Stages.{after, since}
use Rattle.vh_host.specs.Words.{Render}
use Rattle.vh_host.specs.Input.{Heard}
use Rattle.vh_host.specs.Commands.{input_step, journal_step, entries_then, played_steps, heard_steps, made_steps}
use Rattle.vh_host.specs.Material.{AreGiven}
use Rattle.vh_host.specs.Named.{status_of}
use Rattle.vh_host.proofs.Outcomes.{left_so}

-- under the entries that were given
under_entries : (Line : Status → Type 0) (Counts : ℕ → Type 0) (o : Outside) (content : Content) (journal : Option (List ℕ)) (next : List Entry → Steps) (entries : List Entry) (answer : Status)
    → AreGiven o.old content journal entries → Ends Line Counts o (next entries) answer → Ends Line Counts o (entries_then content journal next) answer
under_entries Line Counts o content None next entries answer given ends = subst (λ (es : List Entry). Ends Line Counts o (next es) answer) given ends
under_entries Line Counts o content (Some name) next entries answer given ends = after Line Counts o (List Entry) (journal_step content.nodes content.length name) next entries answer given ends

-- what was played ends the rendering from its input on
made_ends : (Line : Status → Type 0) (Counts : ℕ → Type 0) (o : Outside) (scene : Scene) (modes : List ℕ) (asked : Render) (content : Content) (heard : Heard) (entries : List Entry) (answer : Status)
    → Gives o.old (input_step asked.input content.channels) heard → AreGiven o.old content asked.journal entries
    → Ends Line Counts o (played_steps scene modes asked content heard entries) answer → Ends Line Counts o (made_steps scene modes asked content) answer
made_ends Line Counts o scene modes asked content heard entries answer input given ends =
    after Line Counts o Heard (input_step asked.input content.channels) (heard_steps scene modes asked content) heard answer input
    (under_entries Line Counts o content asked.journal (played_steps scene modes asked content heard) entries answer given ends)

-- so where input and journal were read before
pub played_ends : (Counts : ℕ → Type 0) (first : Store) (o : Outside) (played scene : Scene) (shown modes : List ℕ) (asked : Render) (kept content : Content) (heard : Heard) (entries given : List Entry) (answer : Status)
    → OnlyReads first o.old → Gives first (input_step asked.input content.channels) heard → AreGiven first content asked.journal given
    → kept ≡ content → played ≡ scene → shown ≡ modes → entries ≡ given
    → EndsUnsaid Counts o (played_steps played shown asked kept heard entries) answer
    → EndsUnsaid Counts (record { old = first; new = o.new; said = o.said; said_now = o.said_now }) (made_steps scene modes asked content) answer
played_ends Counts first o played scene shown modes asked kept content heard entries given answer only input journal session_is scene_is modes_are entries_are ends =
    let line : Status → Type 0 = λ a. o.said_now.text ≡ o.said.text in
    let content_ends : EndsUnsaid Counts o (played_steps played shown asked content heard entries) answer = subst (λ (c : Content). EndsUnsaid Counts o (played_steps played shown asked c heard entries) answer) session_is ends in
    let shown_ends : EndsUnsaid Counts o (played_steps played modes asked content heard entries) answer = subst (λ (ms : List ℕ). EndsUnsaid Counts o (played_steps played ms asked content heard entries) answer) modes_are content_ends in
    let scene_ends : EndsUnsaid Counts o (played_steps scene modes asked content heard entries) answer = subst (λ (s : Scene). EndsUnsaid Counts o (played_steps s modes asked content heard entries) answer) scene_is shown_ends in
    let entries_ends : EndsUnsaid Counts o (played_steps scene modes asked content heard given) answer = subst (λ (es : List Entry). EndsUnsaid Counts o (played_steps scene modes asked content heard es) answer) entries_are scene_ends in
    made_ends line Counts (record { old = first; new = o.new; said = o.said; said_now = o.said_now }) scene modes asked content heard given answer input journal
    (since line Counts first o (played_steps scene modes asked content heard given) answer only entries_ends)

-- an ending, by other names of what was left
pub left_ends : {F Y P R : Type 0} (f : files.Ghosts F) (y : say.Ghosts Y) (calls : P → ℕ) (old before now : F) (said once then_ : Y) (steps : Steps) (left gave : Parts P × Result R Status)
    → now ≡ before → then_ ≡ once → left ≡ gave
    → EndsUnsaid (λ n. sum (of_processors calls gave.0.processors.items) ≡ n) (outside f y old before said once) steps (status_of gave.1)
    → EndsUnsaid (λ n. sum (of_processors calls left.0.processors.items) ≡ n) (outside f y old now said then_) steps (status_of left.1)
left_ends {F} {Y} {P} {R} f y calls old before now said once then_ steps left gave same also parts_are ends =
    left_so f y (λ (o : Outside). EndsUnsaid (λ n. sum (of_processors calls left.0.processors.items) ≡ n) o steps (status_of left.1)) old before now said once then_ same also
    (subst (λ (p : Parts P × Result R Status). EndsUnsaid (λ n. sum (of_processors calls p.0.processors.items) ≡ n) (outside f y old before said once) steps (status_of p.1)) (sym parts_are) ends)
