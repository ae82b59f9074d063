use Rattle.std.proofs.Common.{rules, ◌++◌, ◌∷◌, [], refl, ap}
use Rattle.std.specs.Prelude.{codes}
use Rattle.vh_preset.specs.Seen.{contents_of}
use Rattle.vh_text.specs.Written.{line_text}
use Rattle.vh_answers.specs.Listing.{first_lines, chunks_text, listing_text}
use Rattle.vh_answers.proofs.Told.{not_begun, goes_on, breaks_off, ends_with, told_as}
use Rattle.vh_answers.proofs.listing.say_listing.Goals as goal

pub returns-in_err-say_first : goal.returns-in_err-say_first
unfolding listing_text
returns-in_err-say_first g c =
    breaks_off _ _ _ _ _ _ _ c.from_residual.result c.say_first.result _ (search rules) c.in_err-say_first.was (not_begun _ _ _ refl) refl c.say_first.ensures

pub returns-in_err-say_chunks : goal.returns-in_err-say_chunks
unfolding listing_text
returns-in_err-say_chunks g c =
    let preset = contents_of c.args.preset.now in
    let close = line_text (codes "close" ∷ []) in
    let chunks = chunks_text preset.entries ++ close in
    let said = told_as _ _ (chunks_text c.deref.result.now) (chunks_text preset.entries) c.say_chunks.result (ap chunks_text c.deref.ensures.value) c.say_chunks.ensures in
    let first_said = goes_on _ _ _ (listing_text preset) (listing_text preset) _ chunks c.say_first.result _ c.in_ok-say_first.was (not_begun _ _ _ refl) refl c.say_first.ensures in
    breaks_off _ _ _ _ _ _ close c.from_residual-in_err-say_chunks.result c.say_chunks.result _ (search rules) c.in_err-say_chunks.was first_said refl said

pub returns : goal.returns
unfolding listing_text
returns g c =
    let preset = contents_of c.args.preset.now in
    let close = line_text (codes "close" ∷ []) in
    let chunks = chunks_text preset.entries ++ close in
    let said = told_as _ _ (chunks_text c.deref.result.now) (chunks_text preset.entries) c.say_chunks.result (ap chunks_text c.deref.ensures.value) c.say_chunks.ensures in
    let first_said = goes_on _ _ _ (listing_text preset) (listing_text preset) _ chunks c.say_first.result _ c.in_ok-say_first.was (not_begun _ _ _ refl) refl c.say_first.ensures in
    let chunks_said = goes_on _ _ _ _ chunks _ close c.say_chunks.result _ c.in_ok-say_chunks.was first_said refl said in
    ends_with _ _ _ _ close c.say_close.result chunks_said c.say_close.ensures
