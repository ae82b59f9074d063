-- The size of blocks that words give.
use Rattle.std.proofs.Common.{◌≡◌, ℕ, Bool, true, false, cond, List, [], ◌∷◌, take, drop, Option, Some, None, refl, sym, subst}
use Rattle.std.specs.Prelude.{⊤, codes, nat_le}
use Rattle.std.specs.Option.{option_map}
use Rattle.std.specs.Str.{bytes_eq}
use Rattle.std.proofs.lemmas.Bool.{and_parts, leb-true}
use Rattle.vh_text.specs.Numbers.{number_of, is_within}
use Rattle.vh_host.specs.Words.{Command, Renders, Generates, if_size, block_in, behind_files, render_in, replay_in, check_in, show_in, save_in, gen_in, command_in}
use Rattle.vh_host.specs.Named.{IsSize, IsSized}

-- what holds of a value, where there is one
abbrev pub Of : {A : Type 0} → (A → Type 0) → Option A → Type 0
Of P None = ⊤
Of P (Some x) = P x

size_if : (n : ℕ) → Of (λ size. IsSize (Some size)) (if_size (Some n))
size_if n = elim (is_within 1 8192 n) as (λ b. is_within 1 8192 n ≡ b → Of (λ size. IsSize (Some size)) (cond b (Some n) None)) [
  | true ↦ λ is. let parts = and_parts (nat_le 1 n) (nat_le n 8192) is in (leb-true 1 n parts.0, leb-true n 8192 parts.1)
  | false ↦ λ isnt. tt
] refl

size_of : (given : Option ℕ) → Of (λ size. IsSize (Some size)) (if_size given)
size_of None = tt
size_of (Some n) = size_if n

size_in : (word : List ℕ) → Of (λ size. IsSize (Some size)) (block_in word)
size_in word = elim (bytes_eq (take 6 word) (codes "block=")) as (λ b. Of (λ size. IsSize (Some size)) (cond b (if_size (number_of (drop 6 word))) None)) [
  | true ↦ size_of (number_of (drop 6 word))
  | false ↦ tt
]

one_size : (block : Option ℕ) → Of (λ size. IsSize (Some size)) block → Of IsSize (option_map Some block)
one_size None is = tt
one_size (Some size) is = is

pub size_behind : (words : List (List ℕ)) → Of IsSize (behind_files words)
size_behind [] = tt
size_behind (word ∷ []) = one_size (block_in word) (size_in word)
size_behind (word ∷ more ∷ words) = tt

sized : (of : Option ℕ → Command) → ((block : Option ℕ) → IsSize block → IsSized (of block)) → (block : Option (Option ℕ)) → Of IsSize block → Of IsSized (option_map of block)
sized of onto None is = tt
sized of onto (Some block) is = onto block is

render_sized : (words : List (List ℕ)) → Of IsSized (render_in words)
render_sized [] = tt
render_sized (session ∷ []) = tt
render_sized (session ∷ input ∷ []) = tt
render_sized (session ∷ input ∷ output ∷ words) =
    sized (λ block. Renders (record { session = session; input = input; output = output; journal = None; block = block })) (λ block is. is) (behind_files words) (size_behind words)

replay_sized : (words : List (List ℕ)) → Of IsSized (replay_in words)
replay_sized [] = tt
replay_sized (session ∷ []) = tt
replay_sized (session ∷ input ∷ []) = tt
replay_sized (session ∷ input ∷ output ∷ []) = tt
replay_sized (session ∷ input ∷ output ∷ journal ∷ words) =
    sized (λ block. Renders (record { session = session; input = input; output = output; journal = Some journal; block = block })) (λ block is. is) (behind_files words) (size_behind words)

check_sized : (words : List (List ℕ)) → Of IsSized (check_in words)
check_sized [] = tt
check_sized (session ∷ []) = tt
check_sized (session ∷ more ∷ words) = tt

show_sized : (words : List (List ℕ)) → Of IsSized (show_in words)
show_sized [] = tt
show_sized (preset ∷ []) = tt
show_sized (preset ∷ more ∷ words) = tt

save_sized : (words : List (List ℕ)) → Of IsSized (save_in words)
save_sized [] = tt
save_sized (session ∷ []) = tt
save_sized (session ∷ node ∷ []) = tt
save_sized (session ∷ node ∷ output ∷ []) = tt
save_sized (session ∷ node ∷ output ∷ more ∷ words) = tt

gen_size : (number : Option ℕ) → Of IsSized (option_map Generates number)
gen_size None = tt
gen_size (Some number) = tt

gen_sized : (words : List (List ℕ)) → Of IsSized (gen_in words)
gen_sized [] = tt
gen_sized (number ∷ []) = gen_size (number_of number)
gen_sized (number ∷ more ∷ words) = tt

either : (b : Bool) (one other : Option Command) → Of IsSized one → Of IsSized other → Of IsSized (cond b one other)
either true one other is also = is
either false one other is also = also

all_sized : (words : List (List ℕ)) → Of IsSized (command_in words)
all_sized [] = tt
all_sized (word ∷ words) =
    either (bytes_eq word (codes "render")) _ _ (render_sized words)
    (either (bytes_eq word (codes "replay")) _ _ (replay_sized words)
    (either (bytes_eq word (codes "check")) _ _ (check_sized words)
    (either (bytes_eq word (codes "preset-show")) _ _ (show_sized words)
    (either (bytes_eq word (codes "preset-save")) _ _ (save_sized words)
    (either (bytes_eq word (codes "gen")) _ _ (gen_sized words) tt)))))

-- a command that words are has blocks of 1 to 8192 frames, where they give a size
pub is_sized : (words : List (List ℕ)) (command : Command) → Some command ≡ command_in words → IsSized command
is_sized words command is = subst (Of IsSized) (sym is) (all_sized words)
