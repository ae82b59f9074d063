-- What is said, and what of it.
use Rattle.std.specs.Prelude.{ℕ, List, Result, OnOk, OnErr}
use Rattle.vh_files.specs.Causes.{HasCause}
use Rattle.vh_files.specs.Store.{SaysMore, SaysInPart}
use Rattle.vh_answers.specs.declared.line.Line.{Line}
use Rattle.vh_answers.specs.Outside.{Said}

-- what was written of a line
abbrev pub written_in : Line → List ℕ
written_in line = line.bytes.items

-- a text was said, or a front part of it where a write failed
pub record IsTold {T E : Type 0} (result : Result T E) (said said_now : Said) (text : List ℕ) : Type 0 where
  pub whole : OnOk result (SaysMore said.text said_now.text text)
  pub part : OnErr result (SaysInPart said.text said_now.text text)
  pub cause : HasCause said.faults said_now.faults result
