use Rattle.std.proofs.Common.{◌≡◌, List, true, sym, ap, subst}
use Rattle.std.specs.List.{list_all}
use Rattle.circular_buffer.specs.Buffer.{Buffer}
use Rattle.vh_back.specs.declared.item.Item.{Item}
use Rattle.vh_back.specs.Items.{is_within}
use Rattle.vh_back.proofs.Puts.{all_put}
use Rattle.vh_back.proofs.sender.pass_on.Goals as goal

pub send-requires : goal.send-requires
send-requires c =
    subst (λ (items : List Item). list_all is_within items ≡ true) (sym (ap (λ (b : Buffer Item). b.items) c.keep.ensures))
    (all_put is_within c.args.item c.args.kept.now.items c.requires.within c.requires.this)
