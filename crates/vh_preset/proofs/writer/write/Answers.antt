use Rattle.std.proofs.Common.{◌≤◌, ◌^◌, ◌++◌, length, map, ap, ◌∙◌, arith}
use Rattle.vh_preset.specs.Chunks.{chunks_of}
use Rattle.vh_preset.specs.Parts.{part_of, given_size, given_bytes}
use Rattle.vh_preset.specs.Text.{list_text}
use Rattle.vh_preset.proofs.Written.{whole_file, given_small, given_few}
use Rattle.vh_preset.proofs.writer.write.Goals as goal

pub size_of-size-requires : goal.size_of-size-requires
size_of-size-requires c = given_small c.deref.result.now c.in_ok-parts.parts.items (chunks_of c.args.chunks.now) c.deref.ensures.value c.in_ok-parts.ensures c.requires

pub overflow_add-size : goal.overflow_add-size
overflow_add-size c =
    let small : given_size c.deref.result.now ≤ 2 ^ 30 = given_small c.deref.result.now c.in_ok-parts.parts.items (chunks_of c.args.chunks.now) c.deref.ensures.value c.in_ok-parts.ensures c.requires in
    omega (arith, c.size_of-size.ensures)

pub overflow_add-size-2 : goal.overflow_add-size-2
overflow_add-size-2 c =
    let small : given_size c.deref.result.now ≤ 2 ^ 30 = given_small c.deref.result.now c.in_ok-parts.parts.items (chunks_of c.args.chunks.now) c.deref.ensures.value c.in_ok-parts.ensures c.requires in
    let few : length c.in_ok-parts.parts.items ≤ 4 = given_few c.in_ok-parts.parts.items (chunks_of c.args.chunks.now) c.in_ok-parts.ensures in
    omega (arith, c.size_of-size.ensures, c.len.ensures, c.in_ok-parts.parts.ok.0)

pub put_list-requires-clause-size : goal.put_list-requires-clause-size
put_list-requires-clause-size c = given_small c.deref-3.result.now c.in_ok-parts.parts.items (chunks_of c.args.chunks.now) c.deref-3.ensures.value c.in_ok-parts.ensures c.requires

pub returns : goal.returns
returns c =
    let parts = c.in_ok-parts.parts.items in
    let head = c.put_head.new.file.items in
    let bytes = c.put_chunks.new.file.items in
    whole_file c.args.class.now parts (chunks_of c.args.chunks.now) c.size_of-size.result c.in_ok-file.file.items head bytes c.put_list.new.file.items
    c.in_ok-parts.ensures (c.size_of-size.ensures ∙ ap given_size c.deref.ensures.value) c.in_ok-file.ensures.items c.in_ok-put_head.ensures
    (c.in_ok-put_chunks.ensures ∙ ap (λ ps. head ++ given_bytes ps) c.deref-2.ensures.value)
    (c.in_ok-put_list.ensures ∙ ap (λ ps. bytes ++ list_text (map part_of ps)) c.deref-3.ensures.value)
