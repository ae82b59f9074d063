use Rattle.std.proofs.Common.{rules, ◌≡◌, ◌≤◌, ◌∷◌, length, Ok}
use Rattle.vh_params.specs.Nodes.{nodes_of}
use Rattle.vh_text.specs.Left.{left}
use Rattle.vh_text.specs.Lines.{lines_of}
use Rattle.vh_journal_text.specs.Reading.{journal_of}
use Rattle.vh_journal_text.specs.View.{so_far}
use Rattle.vh_journal_text.proofs.Accepted.{law_read_is_journal, entries_there}
use Rattle.vh_journal_text.proofs.Stepped.{first_short, rest_few, rest_all_short}
use Rattle.vh_journal_text.proofs.reader.read.Goals as goal

pub is_header-requires : goal.is_header-requires
is_header-requires c =
    let most : length c.args.bytes.now ≤ 1048576 = search rules in
    let is : lines_of c.args.bytes.now ≡ c.in-Some.first.now ∷ left c.next.new.self = search rules in
    first_short c.args.bytes.now c.in-Some.first.now (left c.next.new.self) most is

pub read_lines-requires-clause-count : goal.read_lines-requires-clause-count
read_lines-requires-clause-count c =
    let most : length c.args.bytes.now ≤ 1048576 = search rules in
    let is : lines_of c.args.bytes.now ≡ c.in-Some.first.now ∷ left c.next.new.self = search rules in
    rest_few c.args.bytes.now c.in-Some.first.now (left c.next.new.self) most is

pub read_lines-requires-clause-short : goal.read_lines-requires-clause-short
read_lines-requires-clause-short c =
    let most : length c.args.bytes.now ≤ 1048576 = search rules in
    let is : lines_of c.args.bytes.now ≡ c.in-Some.first.now ∷ left c.next.new.self = search rules in
    rest_all_short c.args.bytes.now c.in-Some.first.now (left c.next.new.self) most is

pub returns-clause-journal : goal.returns-clause-journal
returns-clause-journal c =
    let nodes = nodes_of c.args.nodes.now in
    let says : journal_of nodes c.args.length c.args.bytes.now ≡ Ok (so_far c.read_lines.new.standing) = search rules in
    law_read_is_journal nodes c.args.length c.args.bytes.now (so_far c.read_lines.new.standing) says

pub returns-clause-there : goal.returns-clause-there
returns-clause-there c =
    let nodes = nodes_of c.args.nodes.now in
    let says : journal_of nodes c.args.length c.args.bytes.now ≡ Ok (so_far c.read_lines.new.standing) = search rules in
    entries_there nodes c.args.length c.read_lines.new.standing.entries.items (law_read_is_journal nodes c.args.length c.args.bytes.now (so_far c.read_lines.new.standing) says)
