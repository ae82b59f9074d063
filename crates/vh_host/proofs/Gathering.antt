-- What was read for a rendering, file by file.
use Rattle.std.proofs.Common.{◌≡◌, ◌∙◌, ℕ, ◌≤◌, ◌^◌, List, [], Option, Some, None, inl, inr, sym, ap, subst, arith}
use Rattle.std.proofs.lemmas.Bool.{and_parts, leb-true}
use Rattle.vh_files.specs.Store.{told}
use Rattle.vh_journal.specs.declared.entry.Entry.{Entry}
use Rattle.vh_session.specs.declared.session.Session.{Session}
use Rattle.vh_session.specs.Content.{Content}
use Rattle.vh_meaning.specs.Scene.{Scene}
use Rattle.vh_answers.specs.declared.status.Status.{Status}
use Rattle.vh_answers.specs.Outside.{Store, ReadAs, OnlyReads}
use Rattle.vh_answers.specs.Steps.{Gives, Halts, Halted}
use Rattle.vh_answers.proofs.Stages.{first_halted, later_halted, halted_since}
use Rattle.vh_host.specs.Words.{Render}
use Rattle.vh_host.specs.Input.{Heard}
use Rattle.vh_host.specs.Material.{AreGiven}
use Rattle.vh_host.specs.Commands.{input_step, journal_step, entries_then, played_steps, heard_steps, made_steps}

-- a session has at most 2^24 frames
pub few_frames : (session : Session) → session.length ≤ 2 ^ 24
few_frames session = let most = leb-true session.length 16777216 (and_parts _ _ session.keeps.frames).1 in omega (arith, most)

-- what a file gave behind readings it gave before them
read_since : (a b : Store) (name : List ℕ) (Holds : List ℕ → Type 0) → OnlyReads a b → ReadAs b name Holds → ReadAs a name Holds
read_since a b name Holds only (inl there) = inl (there.0, ap (λ held. told held name) (sym only.held) ∙ there.1, there.2)
read_since a b name Holds only (inr gone) = inr (sym only.complete ∙ gone.0, ap (λ held. told held name) (sym only.held) ∙ gone.1)

pub given_since : (a b : Store) (content : Content) (journal : Option (List ℕ)) (entries : List Entry) → OnlyReads a b → AreGiven b content journal entries → AreGiven a content journal entries
given_since a b content None entries only none = none
given_since a b content (Some name) entries only given = read_since a b name _ only given

-- the entries of a journal, or none
pub some_given : (s : Store) (content : Content) (journal : Option (List ℕ)) (name : List ℕ) (entries : List Entry) → journal ≡ Some name → Gives s (journal_step content.nodes content.length name) entries
    → AreGiven s content journal entries
some_given s content journal name entries is given = subst (λ (j : Option (List ℕ)). AreGiven s content j entries) (sym is) given

pub none_given : (s : Store) (content : Content) (journal : Option (List ℕ)) (entries : List Entry) → journal ≡ None → entries ≡ [] → AreGiven s content journal entries
none_given s content journal entries is none = subst (λ (j : Option (List ℕ)). AreGiven s content j entries) (sym is) none

-- a journal halts what is made of it
pub journal_halted : (old new : Store) (scene : Scene) (modes : List ℕ) (render : Render) (content : Content) (heard : Heard) (name : List ℕ) (answer : Status) → render.journal ≡ Some name
    → Halts old new (journal_step content.nodes content.length name) answer → Halted old new (heard_steps scene modes render content heard) answer
journal_halted old new scene modes render content heard name answer is halts =
    subst (λ (j : Option (List ℕ)). Halted old new (entries_then content j (played_steps scene modes render content heard)) answer) (sym is)
    (first_halted old new (List Entry) (journal_step content.nodes content.length name) (played_steps scene modes render content heard) answer halts)

-- an input halts what is made of it, or what follows from it does
pub input_halted : (old new : Store) (scene : Scene) (modes : List ℕ) (render : Render) (content : Content) (answer : Status)
    → Halts old new (input_step render.input content.channels) answer → Halted old new (made_steps scene modes render content) answer
input_halted old new scene modes render content answer halts = first_halted old new Heard (input_step render.input content.channels) (heard_steps scene modes render content) answer halts

pub heard_halted : (old mid new : Store) (scene : Scene) (modes : List ℕ) (render : Render) (content : Content) (heard : Heard) (answer : Status)
    → OnlyReads old mid → Gives old (input_step render.input content.channels) heard → Halted mid new (heard_steps scene modes render content heard) answer → Halted old new (made_steps scene modes render content) answer
heard_halted old mid new scene modes render content heard answer only given halted =
    later_halted old new Heard (input_step render.input content.channels) (heard_steps scene modes render content) heard answer given
    (halted_since old mid new (heard_steps scene modes render content heard) answer only halted)
