-- How long the canonical text may be.
use Rattle.std.proofs.Common.{◌≡◌, ℕ, suc, ◌+◌, ◌*◌, ◌<◌, ◌≤◌, ◌^◌, true, List, [], ◌∷◌, map, length, get_or, refl, arith, Some, None}
use Rattle.std.specs.Prelude.{All}
use Rattle.std.specs.Fmt.{decimal}
use Rattle.std.specs.List.{filter_map, cons_option}
use Rattle.std.specs.Option.{option_map}
use Rattle.std.proofs.lemmas.Fmt.{length-decimal-le}
use Rattle.std.proofs.lemmas.List.{length-append}
use Rattle.std.proofs.lemmas.List.Elements.{All-tail}
use Rattle.vh_params.specs.Names.{is_name}
use Rattle.vh_params.specs.declared.param.ParamInfo.{ParamInfo}
use Rattle.vh_params.specs.Nodes.{Node}
use Rattle.vh_session.specs.Content.{first_of, value_in, firsts_from}
use Rattle.vh_text.specs.Written.{further_text, line_text, lines_text}
use Rattle.vh_session.specs.Keeps.{ArePresets}
use Rattle.vh_session.proofs.WordsOf.{name_rules}

-- the bytes of words, each with one more
abbrev pub size : List (List ℕ) → ℕ
size [] = 0
size (word ∷ words) = (length word + 1) + size words

further_size : (words : List (List ℕ)) → length (further_text words) ≡ 1 + size words
further_size [] = refl
further_size (word ∷ words) = let e = length-append word (further_text words) in let r = further_size words in omega (arith, e, r)

pub line_size : (word : List ℕ) (words : List (List ℕ)) → length (line_text (word ∷ words)) ≡ size (word ∷ words)
line_size word words = let e = length-append word (further_text words) in let r = further_size words in omega (arith, e, r)

-- lines that are made of a list, so many bytes each
pub mapped_size : {A : Type 0} (f : A → List (List ℕ)) (most : ℕ) (xs : List A) → ((k : ℕ) (d : A) → k < length xs → length (line_text (f (get_or xs k d))) ≤ most) → length (lines_text (map f xs)) ≤ length xs * most
mapped_size f most [] each = omega arith
mapped_size f most (x ∷ xs) each =
    let e = length-append (line_text (f x)) (lines_text (map f xs)) in
    let here = each 0 x (omega arith) in
    let rest = mapped_size f most xs (λ k d lt. each (suc k) d (omega (arith, lt))) in
    let product : suc (length xs) * most ≡ most + length xs * most = omega arith in
    omega (arith, e, here, rest, product)

-- the bytes of names and numbers

pub name_size : (text : List ℕ) → is_name text ≡ true → length text ≤ 32
name_size text is = (name_rules text is).few

pub number_size : (n : ℕ) → n < 2 ^ 32 → length (decimal n) ≤ 10
number_size n small = length-decimal-le 10 n (omega arith) (omega (arith, small)) (omega (arith, small))

-- a value or a sample, up to 2^24
pub value_size : (n : ℕ) → n ≤ 16777216 → length (decimal n) ≤ 8
value_size n most = length-decimal-le 8 n (omega arith) (omega (arith, most)) (omega (arith, most))

pub numbers_size : (ns : List ℕ) → All (λ n. n < 2 ^ 32) ns → size (map decimal ns) ≤ length ns * 11
numbers_size [] all = omega arith
numbers_size (n ∷ ns) all =
    let here = number_size n (all 0 n (omega arith)) in
    let rest = numbers_size ns (All-tail (λ n. n < 2 ^ 32) n ns all) in
    let product : suc (length ns) * 11 ≡ 11 + length ns * 11 = omega arith in
    omega (arith, here, rest, product)

-- how many presets and first values there are

pub few_presets : (count least : ℕ) (presets : List (ℕ × List ℕ)) → least ≤ count → ArePresets count least presets → least + length presets ≤ count
few_presets count least [] le are = omega (arith, le)
few_presets count least (preset ∷ presets) le are =
    let low = are.0 in
    let lt = are.1 in
    let rest = few_presets count (preset.0 + 1) presets (omega (arith, lt)) are.3 in
    omega (arith, low, rest)

few_of_node : (node : ℕ) (given : List (ℕ × ℕ)) (params : List ParamInfo) → length (filter_map (first_of node given) params) ≤ length params
few_of_node node given [] = omega arith
few_of_node node given (param ∷ params) =
    let rest = few_of_node node given params in
    elim (value_in given param.id) as (λ found. length (cons_option (option_map (λ value. (node, param.id, value)) found) (filter_map (first_of node given) params)) ≤ suc (length params)) [
      | None ↦ omega (arith, rest)
      | Some value ↦ omega (arith, rest)
    ]

pub few_firsts : (start : ℕ) (nodes : List Node) (firsts : List (List (ℕ × ℕ))) → All (λ node. length node.params ≤ 64) nodes → length (firsts_from start nodes firsts) ≤ length nodes * 64
few_firsts start [] firsts few = omega arith
few_firsts start (node ∷ nodes) [] few = omega arith
few_firsts start (node ∷ nodes) (given ∷ firsts) few =
    let here = few_of_node start given node.params in
    let most = few 0 node (omega arith) in
    let rest = few_firsts (start + 1) nodes firsts (All-tail (λ node. length node.params ≤ 64) node nodes few) in
    let long = length-append (filter_map (first_of start given) node.params) (firsts_from (start + 1) nodes firsts) in
    let product : suc (length nodes) * 64 ≡ 64 + length nodes * 64 = omega arith in
    omega (arith, here, most, rest, long, product)
