-- Lines that lead from what the lines before them come to to what they come to themselves.
use Rattle.std.proofs.Common.{◌≡◌, ◌∙◌, ℕ, ◌+◌, false, List, [], ◌∷◌, ◌++◌, map, length, ap, subst, arith, Ok}
use Rattle.std.specs.Prelude.{All}
use Rattle.std.proofs.lemmas.List.{append_assoc, length-append, map-append}
use Rattle.std.proofs.lemmas.List.Elements.{All-cons, All-append}
use Rattle.vh_params.specs.declared.class.ClassInfo.{ClassInfo}
use Rattle.vh_session.specs.Entry.{Entry, Draft, with_entry, lines_with}
use Rattle.vh_session.specs.Lines.{line_of_words}
use Rattle.vh_session.specs.Reading.{is_skipped, lines_from, after_line, with_line}
use Rattle.vh_text.specs.Chains.{given}
use Rattle.vh_text.specs.Tokens.{IsWord}
use Rattle.vh_text.proofs.Joined.{joined}
use Rattle.vh_session.proofs.LineSays.{line_says}

-- a draft whose nodes stand in these lines
abbrev pub with_lines : List ℕ → Draft → Draft
with_lines lines draft = record draft { lines = lines }

-- these lines lead from a draft to another, wherever they and the nodes' lines stand
abbrev pub Goes : List ClassInfo → List (List (List ℕ)) → Draft → Draft → Type 0
Goes known lines before after = All (All IsWord) lines × ((number : ℕ) (stand : List ℕ) → (stand_now : List ℕ) ×
    ((rest : List (List ℕ)) → lines_from known number (with_lines stand before) (map joined lines ++ rest) ≡ lines_from known (number + length lines) (with_lines stand_now after) rest))

pub goes_none : (known : List ClassInfo) (draft : Draft) → Goes known [] draft draft
goes_none known draft = (λ k d lt. absurd (omega (arith, lt)), λ number stand. (stand, λ rest. ap (λ n. lines_from known n (with_lines stand draft) rest) (let e : number ≡ number + 0 = omega arith in e)))

pub goes_on_to : (known : List ClassInfo) (xs ys : List (List (List ℕ))) (a b c : Draft) → Goes known xs a b → Goes known ys b c → Goes known (xs ++ ys) a c
goes_on_to known xs ys a b c first second = (
  All-append (All IsWord) xs ys first.0 second.0,
  λ number stand.
      let one = first.1 number stand in
      let two = second.1 (number + length xs) one.0 in
      let long = length-append xs ys in (
        two.0,
        λ rest.
            ap (λ ls. lines_from known number (with_lines stand a) ls) (ap (λ ls. ls ++ rest) (map-append joined xs ys) ∙ append_assoc (map joined xs) (map joined ys) rest)
            ∙ one.1 (map joined ys ++ rest)
            ∙ two.1 rest
            ∙ ap (λ n. lines_from known n (with_lines two.0 c) rest) (let e : (number + length xs) + length ys ≡ number + length (xs ++ ys) = omega (arith, long) in e),
      ),
)

-- a line that says this entry
pub goes_line : (known : List ClassInfo) (words : List (List ℕ)) (draft : Draft) (entry : Entry) → All IsWord words → is_skipped (joined words) ≡ false → ((stand : List ℕ) → line_of_words known (with_lines stand draft) words ≡ Ok entry) → Goes known (words ∷ []) draft (with_entry 0 entry draft)
goes_line known words draft entry all goes says = (
  All-cons (All IsWord) words [] all (λ k d lt. absurd (omega (arith, lt))),
  λ number stand. (
    lines_with number entry stand,
    λ rest.
        let said : after_line known number (with_lines stand draft) (joined words) ≡ Ok (with_entry number entry (with_lines stand draft)) =
        line_says known number (with_lines stand draft) words all goes ∙ ap (λ r. with_line number (with_lines stand draft) r) (says stand) in
        ap (λ r. given r (λ more. lines_from known (number + 1) more rest)) said,
  ),
)

pub goes_same : (known : List ClassInfo) (lines : List (List (List ℕ))) (before after other : Draft) → after ≡ other → Goes known lines before after → Goes known lines before other
goes_same known lines before after other same goes = subst (λ d. Goes known lines before d) same goes
