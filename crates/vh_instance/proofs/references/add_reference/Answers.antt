use Rattle.std.proofs.Common.{[]}
use Rattle.vh_instance.proofs.Places.{queried, base_kept, room_less}
use Rattle.vh_instance.proofs.references.add_reference.Goals as goal

pub returns : goal.returns
returns g c =
    let table = c.args.table.now in
    let old = c.args.opener.now.numbers in
    let new = c.query_open.new.o.numbers in
    let found = queried c.args.object.now.object.cap _ c.args.interface c.iid.result old new c.query_open.result c.iid.ensures c.requires.listed c.requires.room c.query_open.ensures.step in
    record {
      found = found;
      base = base_kept _ c.args.interface old new found c.requires.base;
      room = room_less _ c.args.interface old new found c.requires.room;
      whole = c.query_open.ensures.kept [] c.requires.whole;
      object = c.query_open.ensures.object;
      value = c.query_open.ensures.value;
    }
