-- What a top call sees of the outside.
use Rattle.std.specs.Prelude.{◌≡◌, ◌≤◌, ℕ, Bool, false, List, Option, Some, None, ◌⊎◌, ◌≢◌, All}
use Rattle.vh_files.specs.Causes.{Rose}
use Rattle.vh_files.specs.Store.{Held, told, Lacks}
use Rattle.vh_files.specs.declared.outside.Files as files
use Rattle.vh_files.specs.declared.outside.Say as say

-- a store: whether it tells every file, the files that it tells, and its counts of faults
pub record Store : Type 0 where
  pub complete : Bool
  pub held : Held
  pub reads : ℕ
  pub writes : ℕ

-- what was said, where it is told, and the count of faults
pub record Said : Type 0 where
  pub text : Option (List ℕ)
  pub faults : ℕ

-- before a call and after it
pub record Outside : Type 0 where
  pub old : Store
  pub new : Store
  pub said : Said
  pub said_now : Said

abbrev pub store : {F : Type 0} → files.Ghosts F → F → Store
store g f = record { complete = g.complete f; held = g.held f; reads = g.read_faults f; writes = g.write_faults f }

abbrev pub voice : {Y : Type 0} → say.Ghosts Y → Y → Said
voice g y = record { text = g.said y; faults = g.faults y }

abbrev pub outside : {F Y : Type 0} → files.Ghosts F → say.Ghosts Y → F → F → Y → Y → Outside
outside f y files files_now says says_now = record { old = store f files; new = store f files_now; said = voice y says; said_now = voice y says_now }

-- a file that was read has bytes of which this holds, or the store doesn't tell the file
abbrev pub ReadAs : Store → List ℕ → (List ℕ → Type 0) → Type 0
ReadAs store name Holds = ((bytes : List ℕ) × (told store.held name ≡ Some bytes) × Holds bytes) ⊎ ((store.complete ≡ false) × (told store.held name ≡ None))

-- a file couldn't be read: it is missing, or a count of faults rose
abbrev pub Unread : Store → Store → List ℕ → Type 0
Unread old new name = Lacks old.complete old.held name ⊎ Rose old.reads new.reads

-- files were read, and nothing else was done to them
pub record OnlyReads (old new : Store) : Type 0 where
  pub held : new.held ≡ old.held
  pub complete : new.complete ≡ old.complete
  pub writes : new.writes ≡ old.writes
  pub later : old.reads ≤ new.reads

-- no file is changed
abbrev pub Untouched : Outside → Type 0
Untouched o = o.new.held ≡ o.old.held

-- this name is none of these
abbrev pub AreOther : List (List ℕ) → List ℕ → Type 0
AreOther names other = All (λ name. other ≢ name) names

-- only these names may have other bytes than before
abbrev pub ChangesOnly : List (List ℕ) → Held → Held → Type 0
ChangesOnly names old new = (other : List ℕ) → AreOther names other → told new other ≡ told old other

-- whether all files are told stays, and no count falls
pub record KeepsCounts (o : Outside) : Type 0 where
  pub complete : o.new.complete ≡ o.old.complete
  pub reads : o.old.reads ≤ o.new.reads
  pub writes : o.old.writes ≤ o.new.writes
  pub faults : o.said.faults ≤ o.said_now.faults
