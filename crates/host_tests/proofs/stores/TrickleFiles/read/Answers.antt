use Rattle.std.proofs.Common.{rules, ℕ, ◌<◌, ◌≤◌, length, List, ◌++◌, Result, Ok, Err, drop, ◌∙◌}
use Rattle.std.specs.Result.{IfOk}
use Rattle.std.proofs.lemmas.List.{take-append-le}
use Rattle.vh_files.specs.Store.{ReadsAt}
use Rattle.host_tests.proofs.stores.TrickleFiles.read.Goals as goal

if_ok_both : {T E : Type 0} (r : Result T E) (P Q R : T → Type 0) → ((x : T) → P x → Q x → R x) → IfOk r P → IfOk r Q → IfOk r R
if_ok_both (Ok x) P Q R f p q = f x p q
if_ok_both (Err x) P Q R f p q = q

-- what was read into a front of a buffer, which is empty only where the buffer is
longer : (bytes : List ℕ) (at n : ℕ) (front rest : List ℕ) → (0 < length (front ++ rest) → 0 < length front) → n ≤ length front → ReadsAt bytes at n front → ReadsAt bytes at n (front ++ rest)
longer bytes at n front rest some fits reads =
    record { bytes_are = take-append-le n front rest fits ∙ reads.bytes_are; within = reads.within; moves = λ before room. reads.moves before (some room) }

pub returns-clause-bytes : goal.returns-clause-bytes
returns-clause-bytes g c = λ bytes e.
    let some : 0 < length (c.read.new.buf ++ drop c.min-n.result c.args.buf.now) → 0 < length c.read.new.buf = search rules in
    if_ok_both c.read.result (λ n. n ≤ length c.read.new.buf) (λ n. ReadsAt bytes c.args.at n c.read.new.buf) (λ n. ReadsAt bytes c.args.at n (c.read.new.buf ++ drop c.min-n.result c.args.buf.now)) (λ n fits reads. longer bytes c.args.at n c.read.new.buf (drop c.min-n.result c.args.buf.now) some fits reads) c.read.ensures.bound (c.read.ensures.bytes bytes e)
