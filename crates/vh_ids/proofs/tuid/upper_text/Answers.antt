use Rattle.std.proofs.Common.{rules, ◌≡◌, map, Result, Ok, Err, ap, ◌∙◌, arith}
use Rattle.std.specs.Result.{IsOk, OnOk}
use Rattle.std.specs.Char.{to_ascii_uppercase}
use Rattle.std.proofs.lemmas.Bool.{false≢true}
use Rattle.hex.specs.Hex.{IsBytes, decode_of, encode_lower}
use Rattle.hex.proofs.HexLemmas.{decode_of-encode_upper}
use Rattle.vh_ids.proofs.Digits.{raised_text}
use Rattle.vh_ids.proofs.tuid.upper_text.Goals as goal

on_ok : {T E : Type 0} (r : Result T E) (P : Type 0) → IsOk r → OnOk r P → P
on_ok (Ok x) P ok h = h
on_ok (Err e) P ok h = absurd (false≢true ok)

pub returns-clause-text : goal.returns-clause-text
returns-clause-text c =
    let wide = c.requires in
    let ok : IsOk c.encode_to_slice.result = c.encode_to_slice.ensures.fits.1 (search rules) in
    let written = on_ok c.encode_to_slice.result (c.encode_to_slice.new.output ≡ encode_lower c.args.bytes.now) ok c.encode_to_slice.ensures.written in
    c.make_ascii_uppercase.ensures.after ∙ ap (map to_ascii_uppercase) written ∙ raised_text c.args.bytes.now

pub returns-clause-reads_back : goal.returns-clause-reads_back
returns-clause-reads_back c =
    let are : IsBytes c.args.bytes.now = λ i. let f = c.type_inv.bytes i in omega arith in
    ap decode_of (returns-clause-text c) ∙ decode_of-encode_upper c.args.bytes.now are
