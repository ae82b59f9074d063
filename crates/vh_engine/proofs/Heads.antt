-- A block's entries: those at its first sample are applied, and the edits behind them are taken as the block goes on.
use Rattle.std.proofs.Common.{◌≡◌, ◌∙◌, ℕ, ◌<◌, ◌≤◌, List, [], ◌∷◌, ◌++◌, Option, Some, None, refl, sym, ap, arith}
use Rattle.std.specs.Prelude.{All, nat_le}
use Rattle.std.specs.List.{cons_option}
use Rattle.std.proofs.lemmas.List.{append-nil}
use Rattle.std.proofs.lemmas.List.Elements.{All-head, All-tail, filter-append, filter_map-append}
use Rattle.vh_params.specs.declared.command.Command.{Command}
use Rattle.vh_params.specs.declared.command.Command.TheVariants.{Begin, Perform, End, Tell}
use Rattle.vh_plugin.specs.Class.{Param, State}
use Rattle.vh_journal.specs.declared.entry.Entry.{Entry}
use Rattle.vh_meaning.specs.Scene.{Scene, params_at}
use Rattle.vh_meaning.specs.Edits.{up_to}
use Rattle.vh_meaning.specs.World.{told_by}
use Rattle.vh_meaning.specs.Rendering.{Answer, answers_by, message_sample, stops}
use Rattle.vh_meaning.specs.Stands.{Touch, Standing}
use Rattle.vh_meaning.specs.Steps.{touches_with, touches_through, values_now, values_in, applied_one, applied}
use Rattle.vh_meaning.specs.Block.{values_within}
use Rattle.vh_meaning.proofs.Later.{up_to_all}

-- an entry that is no message
abbrev pub IsEdit : Entry → Type 0
IsEdit entry = message_sample entry.sample entry.command ≡ None

pub touches_through_append : (scene : Scene) (head rest : List Entry) (node : ℕ) (params : List Param) (touches : List Touch)
    → touches_through scene (head ++ rest) node params touches ≡ touches_through scene rest node params (touches_through scene head node params touches)
touches_through_append scene [] rest node params touches = refl
touches_through_append scene (entry ∷ head) rest node params touches = touches_through_append scene head rest node params (touches_with scene entry node params touches)

pub applied_append : (scene : Scene) (s : ℕ) (head rest : List Entry) (standing : Standing) → applied scene s (head ++ rest) standing ≡ applied scene s rest (applied scene s head standing)
applied_append scene s [] rest standing = refl
applied_append scene s (entry ∷ head) rest standing = applied_append scene s head rest (applied_one scene s entry standing)

-- a parameter that entries are applied to is what they leave of it
pub touches_applied : (scene : Scene) (s : ℕ) (entries : List Entry) (standing : Standing) (node : ℕ)
    → (applied scene s entries standing).touches node ≡ touches_through scene entries node (params_at scene node) (standing.touches node)
touches_applied scene s [] standing node = refl
touches_applied scene s (entry ∷ entries) standing node = touches_applied scene s entries (applied_one scene s entry standing) node

edit_tells_none : (scene : Scene) (values : ℕ → List ℕ) (command : Command) (sample : ℕ) (states : ℕ → State) → message_sample sample command ≡ None → told_by scene values command states ≡ states
edit_tells_none scene values (Begin node id) sample states edit = refl
edit_tells_none scene values (Perform node id value) sample states edit = refl
edit_tells_none scene values (End node id) sample states edit = refl
edit_tells_none scene values (Tell node words) sample states edit = absurd cc

edit_asks_none : (scene : Scene) (states : ℕ → State) (values : ℕ → List ℕ) (sample s : ℕ) (command : Command) → message_sample sample command ≡ None → answers_by scene states values s command ≡ []
edit_asks_none scene states values sample s (Begin node id) edit = refl
edit_asks_none scene states values sample s (Perform node id value) edit = refl
edit_asks_none scene states values sample s (End node id) edit = refl
edit_asks_none scene states values sample s (Tell node words) edit = absurd cc

-- edits change no state
pub states_of_edits : (scene : Scene) (s : ℕ) (entries : List Entry) (standing : Standing) → All IsEdit entries → (applied scene s entries standing).states ≡ standing.states
states_of_edits scene s [] standing edits = refl
states_of_edits scene s (entry ∷ entries) standing edits =
    states_of_edits scene s entries (applied_one scene s entry standing) (All-tail IsEdit entry entries edits)
    ∙ edit_tells_none scene (values_in scene standing s) entry.command entry.sample standing.states (All-head IsEdit entry entries edits)

-- and are not answered
pub answers_of_edits : (scene : Scene) (s : ℕ) (entries : List Entry) (standing : Standing) → All IsEdit entries → (applied scene s entries standing).answers ≡ standing.answers
answers_of_edits scene s [] standing edits = refl
answers_of_edits scene s (entry ∷ entries) standing edits =
    answers_of_edits scene s entries (applied_one scene s entry standing) (All-tail IsEdit entry entries edits)
    ∙ ap (λ (l : List Answer). standing.answers ++ l) (edit_asks_none scene standing.states (values_in scene standing s) entry.sample s entry.command (All-head IsEdit entry entries edits))
    ∙ append-nil standing.answers

-- a piece stops at none of them
pub stops_of_edits : (entries : List Entry) → All IsEdit entries → stops entries ≡ []
stops_of_edits [] edits = refl
stops_of_edits (entry ∷ entries) edits =
    ap (λ (t : Option ℕ). cons_option t (stops entries)) (All-head IsEdit entry entries edits) ∙ stops_of_edits entries (All-tail IsEdit entry entries edits)

pub stops_of_head : (head rest : List Entry) → All IsEdit rest → stops (head ++ rest) ≡ stops head
stops_of_head head rest edits =
    filter_map-append (λ (entry : Entry). message_sample entry.sample entry.command) head rest
    ∙ ap (λ (l : List ℕ). stops head ++ l) (stops_of_edits rest edits)
    ∙ append-nil (stops head)

no_sample : (at sample : ℕ) (command : Command) → at < sample → ((t : ℕ) → message_sample sample command ≡ Some t → t ≡ at) → message_sample sample command ≡ None
no_sample at sample (Begin node id) behind only = refl
no_sample at sample (Perform node id value) behind only = refl
no_sample at sample (End node id) behind only = refl
no_sample at sample (Tell node words) behind only = let same = only sample refl in absurd (omega (arith, behind, same))

-- where messages stand at one sample alone, what lies behind it are edits
pub edits_behind : (at : ℕ) (entries : List Entry) → All (λ entry. at < entry.sample) entries → All (λ entry. (t : ℕ) → message_sample entry.sample entry.command ≡ Some t → t ≡ at) entries → All IsEdit entries
edits_behind at entries behind only k d lt = no_sample at _ _ (behind k d lt) (only k d lt)

-- the entries of a block up to one of its samples
pub up_to_behind_head : (s : ℕ) (head rest : List Entry) → All (λ entry. entry.sample ≤ s) head → up_to s (head ++ rest) ≡ head ++ up_to s rest
up_to_behind_head s head rest before = filter-append (λ (e : Entry). nat_le e.sample s) head rest ∙ ap (λ (l : List Entry). l ++ up_to s rest) (up_to_all s head before)

-- the values in a block, where the entries at its first sample are applied and the others lie ahead
pub values_behind_head : (scene : Scene) (standing : Standing) (at s : ℕ) (head rest : List Entry) (node : ℕ) → All (λ entry. entry.sample ≤ s) head
    → values_within scene standing (head ++ rest) s node ≡ values_within scene (applied scene at head standing) rest s node
values_behind_head scene standing at s head rest node before =
    let params = params_at scene node in
    ap (λ (l : List Entry). values_now scene node params (touches_through scene l node params (standing.touches node)) s) (up_to_behind_head s head rest before)
    ∙ ap (λ (l : List Touch). values_now scene node params l s)
    (touches_through_append scene head (up_to s rest) node params (standing.touches node)
    ∙ ap (touches_through scene (up_to s rest) node params) (sym (touches_applied scene at head standing node)))
