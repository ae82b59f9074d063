use Rattle.std.proofs.Common.{rules, ◌≡◌, ◌≤◌, ◌+◌, ◌∷◌, length}
use Rattle.vh_text.specs.Left.{left}
use Rattle.vh_text.specs.Lines.{lines_of}
use Rattle.vh_session.proofs.Lengths.{first_short, rest_few, rest_all_short}
use Rattle.vh_session.proofs.reader.read_draft.Goals as goal

pub is_header-requires : goal.is_header-requires
is_header-requires c =
    let most : length c.args.bytes.now ≤ 33554432 = search rules in
    let is : lines_of c.args.bytes.now ≡ c.in-Some.first.now ∷ left c.next.new.self = search rules in
    first_short c.args.bytes.now c.in-Some.first.now (left c.next.new.self) most is

pub read_lines-requires-clause-count : goal.read_lines-requires-clause-count
read_lines-requires-clause-count c =
    let most : length c.args.bytes.now ≤ 33554432 = search rules in
    let is : lines_of c.args.bytes.now ≡ c.in-Some.first.now ∷ left c.next.new.self = search rules in
    rest_few c.args.bytes.now c.in-Some.first.now (left c.next.new.self) most is

pub read_lines-requires-clause-short : goal.read_lines-requires-clause-short
read_lines-requires-clause-short c =
    let most : length c.args.bytes.now ≤ 33554432 = search rules in
    let is : lines_of c.args.bytes.now ≡ c.in-Some.first.now ∷ left c.next.new.self = search rules in
    rest_all_short c.args.bytes.now c.in-Some.first.now (left c.next.new.self) most is

pub overflow_add-last : goal.overflow_add-last
overflow_add-last c =
    let most : length c.args.bytes.now ≤ 33554432 = search rules in
    let is : lines_of c.args.bytes.now ≡ c.in-Some.first.now ∷ left c.next.new.self = search rules in
    let few = rest_few c.args.bytes.now c.in-Some.first.now (left c.next.new.self) most is in
    let last : c.in_ok-last.last ≡ 1 + length (left c.next.new.self) = search rules in
    search rules
