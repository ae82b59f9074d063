-- What a desk and the drain need for the next call.
use Rattle.std.proofs.Common.{ℕ, ◌<◌, ◌≤◌, List, length, arith}
use Rattle.std.specs.Prelude.{slice_index, slice_index_or}
use Rattle.vh_params.specs.declared.command.Word.{Word}
use Rattle.vh_params.specs.declared.command.Word.TheVariants.{Edit, Hold, Unhold, Wait}
use Rattle.vh_journal.specs.declared.entry.Entry.{Entry}
use Rattle.vh_inbox.specs.Values.{AtDesk, HasRoom, IsUpTo}

pub has_room : (desk : AtDesk) (word : Word) → length desk.list < slice_index desk.quotas desk.number → HasRoom desk word
has_room desk (Edit command) room = room
has_room desk (Hold node) room = tt
has_room desk (Unhold node) room = tt
has_room desk (Wait block) room = tt

-- what is up to a sample is up to a later one
pub up_to_later : (at later : ℕ) (entries : List Entry) → at ≤ later → IsUpTo at entries → IsUpTo later entries
up_to_later at later entries le up_to = record { never_fall = up_to.never_fall; most = λ i d lt. omega (arith, up_to.most i d lt) }
