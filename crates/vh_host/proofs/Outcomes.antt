-- What the parts of a command did to the outside, together.
use Rattle.std.proofs.Common.{◌≡◌, ◌∙◌, ℕ, ◌+◌, ◌*◌, ◌≤◌, ◌-◌, ◌^◌, min, List, [], ◌∷◌, sum, sym, ap, subst, arith}
use Rattle.vh_files.specs.Store.{Held, told, SameElsewhere}
use Rattle.vh_plugin.specs.Counts.{raised_by}
use Rattle.vh_instance.specs.Raised.{raised_times, raised_by_each, RaisedBySum}
use Rattle.vh_files.specs.declared.outside.Files as files
use Rattle.vh_files.specs.declared.outside.Say as say
use Rattle.vh_answers.specs.Outside.{Store, Said, Outside, outside, OnlyReads, ChangesOnly, KeepsCounts}
use Rattle.vh_host.specs.Known.{AreEnded}

-- a file alone is changed after a reading: so it is from before the reading on
pub elsewhere_since : (a b c : Store) (name : List ℕ) → OnlyReads a b → SameElsewhere name b.held c.held → SameElsewhere name a.held c.held
elsewhere_since a b c name only same = λ other apart. same other apart ∙ ap (λ held. told held other) only.held

-- no other names are changed
pub only_one : (old new : Held) (name : List ℕ) → SameElsewhere name old new → ChangesOnly (name ∷ []) old new
only_one old new name same = λ other are. same other (are 0 [] (omega arith))

-- no count falls while files are read and texts are said
pub read_counts : (a b : Store) (said said_now : Said) → OnlyReads a b → said.faults ≤ said_now.faults → KeepsCounts (record { old = a; new = b; said = said; said_now = said_now })
read_counts a b said said_now only later = record { complete = only.complete; reads = only.later; writes = let e = only.writes in omega (arith, e); faults = later }

-- and none has fallen since before a reading
pub counts_since : (a : Store) (o : Outside) → OnlyReads a o.old → KeepsCounts o → KeepsCounts (record { old = a; new = o.new; said = o.said; said_now = o.said_now })
counts_since a o only keeps = record {
  complete = keeps.complete ∙ only.complete;
  reads = let e = only.later in let f = keeps.reads in omega (arith, e, f);
  writes = let e = only.writes in let f = keeps.writes in omega (arith, e, f);
  faults = keeps.faults;
}

-- components and controllers, as many of the ones as of the others
pub band_ended : (made ended made_then ended_then made_now ended_now nodes components controllers : ℕ) → made_then ≡ raised_times (2 * nodes) made → ended_then ≡ ended
    → made_now ≡ made_then → ended_now ≡ raised_times (components + controllers) ended_then → components ≡ nodes → controllers ≡ nodes → AreEnded made ended made_now ended_now
band_ended made ended made_then ended_then made_now ended_now nodes components controllers made_is kept same ended_is halves others =
    let both : components + controllers ≡ 2 * nodes = omega (arith, halves, others) in
    (2 * nodes, same ∙ made_is, ended_is ∙ ap (λ n. raised_times n ended_then) both ∙ ap (raised_times (2 * nodes)) kept)

-- the calls of all components together
pub work_done : RaisedBySum → (calls : List ℕ) (count work work_then work_now : ℕ) → work ≤ 2 ^ 64 - 1 → work_then ≡ work → work_now ≡ raised_by_each calls work_then → sum calls ≡ count → work_now ≡ raised_by count work
work_done law calls count work work_then work_now most kept done counted =
    done ∙ ap (raised_by_each calls) kept ∙ (law calls 0 work most).0 ∙ ap (λ n. raised_by n work) counted

-- none was called
pub no_work : (calls work : ℕ) → work ≤ 2 ^ 64 - 1 → calls ≡ 0 → work ≡ raised_by calls work
no_work calls work most none = let e : min (2 ^ 64 - 1) (work + calls) ≡ work = omega (arith, most, none) in sym e

-- what holds of the outside, by other names of what was left
pub left_so : {F Y : Type 0} (f : files.Ghosts F) (y : say.Ghosts Y) (P : Outside → Type 0) (old before now : F) (said once then_ : Y) → now ≡ before → then_ ≡ once → P (outside f y old before said once) → P (outside f y old now said then_)
left_so f y P old before now said once then_ same also holds =
    subst (λ x. P (outside f y old x said then_)) (sym same) (subst (λ x. P (outside f y old before said x)) (sym also) holds)
