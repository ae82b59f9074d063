use Rattle.std.proofs.Common.{◌≡◌, ◌≤◌, ◌<◌, ◌∙◌, ℕ, List, ◌++◌, length, take, drop, Result, Ok, Err, arith, rules, length-append, length-drop}
use Rattle.std.proofs.lemmas.List.{take-append-le}
use Rattle.std.specs.Result.{IfOk}
use Rattle.vh_files.specs.Store.{ReadsAt}
use Rattle.link_tests.proofs.pieces.PiecesFiles.read.Goals as goal

-- what was read into a front part of a buffer was read into the buffer
reads_part : {E : Type 0} (result : Result ℕ E) (bytes : List ℕ) (at : ℕ) (part rest : List ℕ) → (0 < length (part ++ rest) → 0 < length part)
    → IfOk result (λ n. n ≤ length part) → IfOk result (λ n. ReadsAt bytes at n part) → IfOk result (λ n. ReadsAt bytes at n (part ++ rest))
reads_part (Ok n) bytes at part rest some bound reads = record {
  bytes_are = take-append-le n part rest bound ∙ reads.bytes_are;
  within = reads.within;
  moves = λ more room. reads.moves more (some room);
}
reads_part (Err e) bytes at part rest some bound reads = tt

pub returns-clause-bytes : goal.returns-clause-bytes
returns-clause-bytes c = λ bytes has.
    let part = c.read.new.buf in
    let rest = drop c.min-most.result c.args.buf.now in
    let long = c.read.auto.buf in
    let least = c.min-most.ensures in
    let most = c.args.self.now.some in
    let sum = length-append part rest in
    let left = length-drop c.min-most.result c.args.buf.now in
    reads_part c.read.result bytes c.args.at part rest (λ room. omega arith) c.read.ensures.bound (c.read.ensures.bytes bytes has)
