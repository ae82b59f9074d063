use Rattle.std.proofs.Common.{rules, ◌≡◌, ◌++◌, ◌∷◌, [], map, refl}
use Rattle.std.specs.Prelude.{codes}
use Rattle.std.specs.Fmt.{decimal}
use Rattle.vh_session.specs.Names.{content_of}
use Rattle.vh_session.specs.Text.{settings_words}
use Rattle.vh_text.specs.Written.{line_text, lines_text}
use Rattle.vh_text.proofs.Written.{one_line_more, last_line}
use Rattle.vh_session.proofs.print.write_settings.Goals as goal

pub returns : goal.returns
returns c =
    let old = c.args.text.now.bytes.items in
    let session = c.args.session.now in
    let all = old ++ lines_text (settings_words (content_of session)) in
    let l0 = codes "vsthost" ∷ codes "session" ∷ codes "1" ∷ [] in
    let l1 = codes "length" ∷ decimal session.length ∷ [] in
    let l2 = codes "channels" ∷ decimal session.channels ∷ [] in
    let l3 = codes "bits" ∷ decimal session.bits ∷ [] in
    let l4 = codes "pattern" ∷ map decimal session.pattern.items in
    let w0 : c.begin.new.self.bytes.items ≡ old ++ line_text l0 = search rules in
    let w1 : c.write_setting.new.text.bytes.items ≡ c.begin.new.self.bytes.items ++ line_text l1 = search rules in
    let w2 : c.write_setting-2.new.text.bytes.items ≡ c.write_setting.new.text.bytes.items ++ line_text l2 = search rules in
    let w3 : c.write_setting-3.new.text.bytes.items ≡ c.write_setting-2.new.text.bytes.items ++ line_text l3 = search rules in
    let w4 : c.write_pattern.new.text.bytes.items ≡ c.write_setting-3.new.text.bytes.items ++ line_text l4 = search rules in
    let s0 = one_line_more old c.begin.new.self.bytes.items l0 (l1 ∷ l2 ∷ l3 ∷ l4 ∷ []) all w0 refl in
    let s1 = one_line_more c.begin.new.self.bytes.items c.write_setting.new.text.bytes.items l1 (l2 ∷ l3 ∷ l4 ∷ []) all w1 s0 in
    let s2 = one_line_more c.write_setting.new.text.bytes.items c.write_setting-2.new.text.bytes.items l2 (l3 ∷ l4 ∷ []) all w2 s1 in
    let s3 = one_line_more c.write_setting-2.new.text.bytes.items c.write_setting-3.new.text.bytes.items l3 (l4 ∷ []) all w3 s2 in
    last_line c.write_setting-3.new.text.bytes.items c.write_pattern.new.text.bytes.items l4 all w4 s3
