use Rattle.std.proofs.Common.{ℕ, List, Result, option_map, ap}
use Rattle.std.specs.Result.{result_ok}
use Rattle.hex.specs.declared.error.FromHexError.{FromHexError}
use Rattle.vh_ids.specs.declared.tuid.Tuid.{Tuid}
use Rattle.vh_ids.proofs.tuid.Tuid.write_upper.Goals as goal

pub returns-clause-reads_back : goal.returns-clause-reads_back
returns-clause-reads_back c =
    ap (λ (r : Result (List ℕ) FromHexError). option_map {U = Tuid} (λ bytes. record { 0 = bytes }) (result_ok r)) c.upper_text.ensures.reads_back
