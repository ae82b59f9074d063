use Rattle.std.proofs.Common.{rules, ◌≡◌, ◌∙◌, map, Result, Ok, Err, ap}
use Rattle.std.specs.Result.{IsOk, OnOk}
use Rattle.std.specs.Char.{to_ascii_uppercase}
use Rattle.std.proofs.lemmas.Bool.{false≢true}
use Rattle.hex.specs.Hex.{encode_lower, encode_upper}
use Rattle.vh_ids.proofs.Digits.{raised_text}
use Rattle.vh_answers.proofs.listing.digits_of.Goals as goal

on_ok : {T E : Type 0} (r : Result T E) (P : Type 0) → IsOk r → OnOk r P → P
on_ok (Ok x) P ok h = h
on_ok (Err e) P ok h = absurd (false≢true ok)

pub returns : goal.returns
returns c =
    let ok : IsOk c.encode_to_slice.result = c.encode_to_slice.ensures.fits.1 (search rules) in
    let same = c.as_slice.ensures in
    let written = on_ok c.encode_to_slice.result (c.encode_to_slice.new.output ≡ encode_lower c.as_slice.result.now) ok c.encode_to_slice.ensures.written in
    c.make_ascii_uppercase.ensures.after ∙ ap (map to_ascii_uppercase) written ∙ raised_text c.as_slice.result.now ∙ ap encode_upper same
