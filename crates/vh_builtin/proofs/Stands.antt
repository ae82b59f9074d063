-- Classes without state.
use Rattle.std.proofs.Common.{◌≡◌, ℕ, zero, suc, List, [], Option, refl}
use Rattle.vh_num.specs.Frames.{Frame}
use Rattle.vh_plugin.specs.Runs.{run_state}
use Rattle.vh_builtin.specs.Gain.{gain}
use Rattle.vh_builtin.specs.Balance.{balance}

pub gain_stands : (channels : ℕ) (values : List ℕ) (main : ℕ → Frame) (aux : ℕ → Option Frame) (k : ℕ) → [] ≡ run_state gain channels [] values main aux k
gain_stands channels values main aux zero = refl
gain_stands channels values main aux (suc k) = gain_stands channels values main aux k

pub balance_stands : (channels : ℕ) (values : List ℕ) (main : ℕ → Frame) (aux : ℕ → Option Frame) (k : ℕ) → [] ≡ run_state balance channels [] values main aux k
balance_stands channels values main aux zero = refl
balance_stands channels values main aux (suc k) = balance_stands channels values main aux k
