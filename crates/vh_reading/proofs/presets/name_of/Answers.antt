use Rattle.std.proofs.Common.{rules, Result, Ok, Err}
use Rattle.std.specs.Prelude.{MatchResult}
use Rattle.std.specs.Result.{IsOk}
use Rattle.vh_reading.proofs.Files.{is_text}
use Rattle.vh_reading.proofs.presets.name_of.Goals as goal

text_there : {S E : Type 0} (P : Type 0) (A : S → Type 0) (B : E → Type 0) (result : Result S E) → P → MatchResult result A (λ e. (P → ⊥) × B e) → IsOk result
text_there P A B (Ok text) p cases = search rules
text_there P A B (Err error) p cases = absurd (cases.0 p)

pub unwrap-requires : goal.unwrap-requires
unwrap-requires c = text_there _ _ _ c.from_utf8.result (is_text c.args.file.now c.requires) c.from_utf8.ensures.cases
