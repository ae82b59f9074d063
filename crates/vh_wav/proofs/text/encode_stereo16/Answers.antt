use Rattle.std.proofs.Common.{◌≡◌, ℕ, ◌*◌, ◌≤◌, List, [], ◌∷◌, ◌++◌, length, get_or, take, ℤ, pos, ap, sym, subst, ◌∙◌, arith, rules}
use Rattle.std.specs.List.{flat_map, zip}
use Rattle.std.proofs.lemmas.Int.{to_z-of_z}
use Rattle.std.proofs.lemmas.List.{take_all}
use Rattle.std.proofs.lemmas.Slice.Zip.{length-zip, get_or-zip}
use mir.Val.{SFits}
use mir.Syntax.{w32}
use Rattle.vh_wav.specs.Text.{sample_bytes}
use Rattle.vh_wav.proofs.Grow.{grown}
use Rattle.vh_wav.proofs.text.encode_stereo16.Goals as goal

abbrev both : ℤ × ℤ → List ℕ
both p = sample_bytes 16 p.0 ++ sample_bytes 16 p.1

pub loop-i-preserved : goal.loop-i-preserved
loop-i-preserved c =
    let x = get_or c.args.left.now c.loop-i.i (pos 0) in
    let y = get_or c.args.right.now c.loop-i.i (pos 0) in
    let pairs = zip c.args.left.now c.args.right.now in
    let fits_x : SFits w32 x = search rules in
    let fits_y : SFits w32 y = search rules in
    let within : c.loop-i.i ≤ length c.args.right.now = omega arith in
    let pair : get_or pairs c.loop-i.i (pos 0, pos 0) ≡ (x, y) = get_or-zip c.args.left.now c.args.right.now c.loop-i.i (pos 0, pos 0) c.loop-i-test.true (omega arith) in
    let left : c.bytes16-l.result ≡ sample_bytes 16 x = c.bytes16-l.ensures ∙ ap (sample_bytes 16) (to_z-of_z w32 x fits_x) in
    let right : c.bytes16-r.result ≡ sample_bytes 16 y = c.bytes16-r.ensures ∙ ap (sample_bytes 16) (to_z-of_z w32 y fits_y) in
    let part : c.copy_from_slice.new.self ≡ both (get_or pairs c.loop-i.i (pos 0, pos 0)) =
    c.copy_from_slice.ensures.after
    ∙ ap (λ (l : List ℕ). get_or l 0 0 ∷ get_or l 1 0 ∷ get_or c.bytes16-r.result 0 0 ∷ get_or c.bytes16-r.result 1 0 ∷ []) left
    ∙ ap (λ (r : List ℕ). get_or (sample_bytes 16 x) 0 0 ∷ get_or (sample_bytes 16 x) 1 0 ∷ get_or r 0 0 ∷ get_or r 1 0 ∷ []) right
    ∙ sym (ap both pair) in
    let size : length c.copy_from_slice.new.self ≡ 4 = ap length part in
    let count = length-zip c.args.left.now c.args.right.now in
    grown both pairs c.loop-i.i 4 _ (pos 0, pos 0) c.loop-i.out c.copy_from_slice.new.self (omega (arith, count)) c.loop-i.invariant part size (omega (arith, count))

pub returns : goal.returns
returns c =
    let pairs = zip c.args.left.now c.args.right.now in
    let count = length-zip c.args.left.now c.args.right.now in
    let at : c.loop-i.i ≡ length c.args.left.now = omega arith in
    let P : ℕ → Type 0 = λ n. take (4 * n) c.loop-i.out ≡ flat_map both (take n pairs) in
    subst P at c.loop-i.invariant ∙ ap (flat_map both) (take_all (length c.args.left.now) pairs (omega (arith, count)))
