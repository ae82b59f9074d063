use Rattle.std.proofs.Common.{◌≡◌, ◌-◌, take, drop, map}
use Rattle.vh_text.specs.declared.token.Token.{Token}
use Rattle.vh_text.specs.Tokens.{texts}
use Rattle.vh_text.proofs.cut.slices.Given as goal

abbrev pub invariant-loop-token : goal.invariant-loop-token
invariant-loop-token l = texts l.words.items ≡ map (λ (token : Token). take (token.to - token.from) (drop token.from l.line)) (take l.token-index l.tokens)
