-- A block of a stream.
use Rattle.std.proofs.Common.{◌≡◌, ℕ, zero, suc, ◌+◌, ◌<◌, ◌≤◌, List, Option, ap, ◌∙◌, arith}
use Rattle.vh_num.specs.Frames.{Frame}
use Rattle.vh_plugin.specs.Class.{Class, State}
use Rattle.vh_plugin.specs.Blocks.{Block, state_in, output_in}
use Rattle.vh_plugin.specs.Streams.{Stream, IsBlockOf, state_over, output_over}

-- a function of a sample gives the same of the same
same_of : {R : Type 0} (f : ℕ → State → List ℕ → Frame → Option Frame → R) (c c' : ℕ) (s s' : State) (v v' : List ℕ) (m m' : Frame) (a a' : Option Frame)
    → c ≡ c' → s ≡ s' → v ≡ v' → m ≡ m' → a ≡ a' → f c s v m a ≡ f c' s' v' m' a'
same_of f c c' s s' v v' m m' a a' channels states values main aux =
    ap (λ x. f x s v m a) channels ∙ ap (λ (x : State). f c' x v m a) states ∙ ap (λ (x : List ℕ). f c' s' x m a) values ∙ ap (λ (x : Frame). f c' s' v' x a) main ∙ ap (λ (x : Option Frame). f c' s' v' m' x) aux

states_of : (class : Class) (start : State) (stream : Stream) (from : ℕ) (block : Block) → IsBlockOf class.params stream from block
    → (n : ℕ) → n ≤ block.size → state_in class (state_over class start stream from) block n ≡ state_over class start stream (from + n)
states_of class start stream from block is zero le = ap (λ n. state_over class start stream n) (let e : from ≡ from + 0 = omega arith in e)
states_of class start stream from block is (suc n) le =
    let lt : n < block.size = omega (arith, le) in
    same_of class.next _ _ _ _ _ _ _ _ _ _ is.channels (states_of class start stream from block is n (omega (arith, le))) (is.values n lt) (is.main n lt) (is.aux n lt)
    ∙ ap (λ k. state_over class start stream k) (let e : suc (from + n) ≡ from + suc n = omega arith in e)

pub goes_on : (class : Class) (start : State) (stream : Stream) (from : ℕ) (block : Block) → IsBlockOf class.params stream from block
    → ((place : ℕ) → place < block.size → output_in class (state_over class start stream from) block place ≡ output_over class start stream (from + place))
    × (state_in class (state_over class start stream from) block block.size ≡ state_over class start stream (from + block.size))
goes_on class start stream from block is = (
  (λ place lt. same_of class.output _ _ _ _ _ _ _ _ _ _ is.channels (states_of class start stream from block is place (omega (arith, lt))) (is.values place lt) (is.main place lt) (is.aux place lt)),
  states_of class start stream from block is block.size (omega arith),
)
