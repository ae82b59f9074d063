-- A live rendering that was done is what the headline says.
use Rattle.std.proofs.Common.{◌≡◌, ◌≢◌, ◌∙◌, ℕ, zero, suc, ◌+◌, ◌<◌, Bool, true, List, [], ◌∷◌, ◌++◌, length, get_or, Option, Some, ⊎_elim, refl, sym, ap, subst, append_assoc, arith}
use Rattle.std.specs.Prelude.{All}
use Rattle.std.proofs.lemmas.Bool.{true≢false}
use Rattle.std.proofs.lemmas.List.{append-nil}
use Rattle.std.proofs.lemmas.List.Elements.{All-nil, All-cons}
use Rattle.vh_files.specs.Store.{told, HasNow, SaysMore}
use Rattle.vh_params.specs.Nodes.{nodes_of}
use Rattle.vh_plugin.specs.Counts.{raised_by}
use Rattle.vh_preset.specs.Contents.{Contents}
use Rattle.vh_session.specs.Content.{Content}
use Rattle.vh_journal_text.specs.Items.{items_of}
use Rattle.vh_journal_text.specs.Reading as reading
use Rattle.vh_journal_text.specs.Text.{journal_text}
use Rattle.vh_legal_text.specs.Laws.{LegalReadsBack}
use Rattle.vh_answers.specs.declared.status.Status.{Status}
use Rattle.vh_answers.specs.declared.status.Status.TheVariants as status
use Rattle.vh_answers.specs.Outside.{Store, Outside, ChangesOnly}
use Rattle.vh_answers.specs.Refusals.{IsRefusal}
use Rattle.vh_answers.specs.Each.{each_then}
use Rattle.vh_answers.specs.Steps.{Step, Output, Steps, Gives, Passed, AllWhole, IsWhole, Answers, Done, Refused, Cut, Unsaid, NoMemory}
use Rattle.vh_reading.specs.Reading.{node_step}
use Rattle.vh_host.specs.Known.{Known, scene_under, modes_under, AreEnded}
use Rattle.vh_host.specs.Input.{Heard}
use Rattle.vh_host.specs.Commands.{accepted_steps}
use Rattle.vh_live_host.specs.Words.{Live, live_in, outputs_of}
use Rattle.vh_live_host.specs.Played.{Played, IsPlayed}
use Rattle.vh_live_host.specs.Commands.{samples, written, reported, calls_of, begun_steps, steps_in}
use Rattle.vh_live_host.specs.Headline.{AreApart, Counts, IsRendered, Headline}

-- an ending with Ok passed all steps
passed_all : (Calls : ℕ → Type 0) (o : Outside) (steps : Steps) (answer : Status) → answer ≡ status.Ok → Answers Calls o steps answer
    → Passed o.old steps (λ outputs report calls. AllWhole o.old o.new outputs × SaysMore o.said.text o.said_now.text report × Calls calls)
passed_all Calls o steps answer ok (Done e passed) = passed
passed_all Calls o steps answer ok (Refused refuses stopped same line) = absurd (subst IsRefusal ok refuses)
passed_all Calls o steps answer ok (Cut place e refuses passed rose line) = absurd (subst IsRefusal ok refuses)
passed_all Calls o steps answer ok (Unsaid e passed rose) = let no = sym ok ∙ e in cc
passed_all Calls o steps answer ok (NoMemory e same unsaid) = let no = sym ok ∙ e in cc

-- the steps of all nodes were passed, and gave values
abbrev Give : {X : Type 0} → Store → (ℕ → Step X) → ℕ → List X → Type 0
Give old step from xs = (k : ℕ) (d : _) → k < length xs → Gives old (step (from + k)) (get_or xs k d)

abbrev PassedBy : {X : Type 0} → Store → (ℕ → Step X) → ℕ → ℕ → List X → (List X → Steps) → (List Output → List ℕ → ℕ → Type 0) → Type 0
PassedBy {X} old step from left given next Holds = (xs : List X) × (length xs ≡ left) × Give old step from xs × Passed old (next (given ++ xs)) Holds

give_more : {X : Type 0} (old : Store) (step : ℕ → Step X) (from : ℕ) (x : X) (xs : List X) → Gives old (step from) x → Give old step (from + 1) xs → Give old step from (x ∷ xs)
give_more {X} old step from x xs here rest zero d lt = let z : from ≡ from + 0 = omega arith in subst (λ (n : ℕ). Gives old (step n) x) z here
give_more {X} old step from x xs here rest (suc k) d lt =
    let next : (from + 1) + k ≡ from + suc k = omega arith in
    subst (λ (n : ℕ). Gives old (step n) (get_or xs k d)) next (rest k d (omega (arith, lt)))

each_passed : {X : Type 0} (old : Store) (step : ℕ → Step X) (from left : ℕ) (given : List X) (next : List X → Steps) (Holds : List Output → List ℕ → ℕ → Type 0)
    → Passed old (each_then step from left given next) Holds → PassedBy old step from left given next Holds
each_passed {X} old step from zero given next Holds passed = ([], refl, (λ k d lt. absurd (omega (arith, lt))), subst (λ (list : List X). Passed old (next list) Holds) (sym (append-nil given)) passed)
each_passed {X} old step from (suc left) given next Holds (x, gives, rest) =
    let more = each_passed old step (from + 1) left (given ++ x ∷ []) next Holds rest in
    let xs : List X = more.0 in (
      x ∷ xs,
      ap suc more.1,
      give_more old step from x xs gives more.2,
      subst (λ (list : List X). Passed old (next list) Holds) (append_assoc given (x ∷ []) xs) more.3,
    )

-- a file that a complete store tells
told_now : (complete : Bool) (now : Option (List ℕ)) (text : List ℕ) → complete ≡ true → HasNow complete now text → now ≡ Some text
told_now complete now text whole has = ⊎_elim (λ is. is) (λ gone. absurd (true≢false (sym whole ∙ gone.0))) has

apart_two : (name one other : List ℕ) → one ≢ name → other ≢ name → All (λ n. n ≢ name) (one ∷ other ∷ [])
apart_two name one other first second = All-cons (λ n. n ≢ name) one (other ∷ []) first (All-cons (λ n. n ≢ name) other [] second (All-nil (λ n. n ≢ name)))

-- what was passed
abbrev Told : Outside → Counts → Counts → List Output → List ℕ → ℕ → Type 0
Told o old new outputs report calls = AllWhole o.old o.new outputs × SaysMore o.said.text o.said_now.text report × (new.work ≡ raised_by calls old.work)

rendered : LegalReadsBack → (known : Known) (live : Live) (o : Outside) (old new : Counts) (content : Content) (presets : List (Option Contents)) (heard : Heard) (played : Played)
    → AreApart live → o.old.complete ≡ true → IsPlayed live.block content played
    → Told o old new (samples (scene_under known content presets) live content heard played.journal ∷ written live content played.journal ∷ [])
    (reported (scene_under known content presets) (modes_under known content presets) live content heard played) (calls_of live content played.journal)
    → AreEnded old.made old.ended new.made new.ended → ChangesOnly (live.output ∷ live.journal ∷ []) o.old.held o.new.held
    → IsRendered (scene_under known content presets) (modes_under known content presets) live content heard played o old new
rendered law known live o old new content presets heard played apart complete is told ended others =
    let scene = scene_under known content presets in
    let items = items_of played.journal in
    let nodes : nodes_of played.session.nodes ≡ content.nodes = ap (λ (c : Content). c.nodes) is.session in
    let long : played.session.length ≡ content.length = ap (λ (c : Content). c.length) is.session in
    let out : IsWhole o.old o.new (samples scene live content heard played.journal) = told.0 0 (samples scene live content heard played.journal) (omega arith) in
    let kept : IsWhole o.old o.new (written live content played.journal) = told.0 1 (written live content played.journal) (omega arith) in
    record {
      session = is.session;
      journal = told_now o.old.complete _ _ complete (kept (apart_two live.journal live.input live.output (λ e. apart.journal (sym e)) (λ e. apart.both (sym e))));
      reads_back = ap (λ n. reading.journal_of content.nodes n (journal_text content.nodes items)) (sym long) ∙ ap (λ ns. reading.journal_of ns played.session.length (journal_text ns items)) (sym nodes) ∙ (law played.session played.journal is.legal).text;
      legal = is.legal;
      samples = told_now o.old.complete _ _ complete (out (apart_two live.output live.input live.journal (λ e. apart.output (sym e)) apart.both));
      controllers = told.1;
      ended = ended;
      cutting = told.2;
      others = others;
    }

pub headline : LegalReadsBack → (known : Known) (words : List (List ℕ)) (o : Outside) (old new : Counts) (answer : Status) → answer ≡ status.Ok
    → Answers (λ calls. new.work ≡ raised_by calls old.work) o (steps_in known words) answer
    → AreEnded old.made old.ended new.made new.ended → ChangesOnly (outputs_of (live_in words)) o.old.held o.new.held
    → (live : Live) × (live_in words ≡ Some live) × Headline known live o old new
headline law known words o old new answer ok ends ended others =
    let (live, asked, session) = passed_all (λ calls. new.work ≡ raised_by calls old.work) o (steps_in known words) answer ok ends in
    let (content, says, nodes) = session in
    let each = each_passed o.old (node_step content) 0 (length content.nodes) [] (accepted_steps known content (begun_steps known live content)) (Told o old new) nodes in
    let presets : List (Option Contents) = each.0 in
    let (accepted, are, heard_on) = each.3 in
    let (heard, hears, played_on) = heard_on in
    let (played, is, told) = played_on in (
      live,
      asked,
      (λ apart complete. (
        content,
        presets,
        heard,
        record {
          opened = record {
            session = says;
            given = record {
              each = each.1;
              gives = λ node d lt. let z : 0 + node ≡ node = omega arith in subst (λ (n : ℕ). Gives o.old (node_step content n) (get_or presets node d)) z (each.2 node d (omega (arith, lt, each.1)));
            };
            accepted = are;
          };
          input = hears;
        },
        played,
        rendered law known live o old new content presets heard played apart complete is told ended
            (subst (λ (of : Option Live). ChangesOnly (outputs_of of) o.old.held o.new.held) asked others),
      )),
    )
