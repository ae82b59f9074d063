-- Scripts that are written are read.
use Rattle.std.proofs.Common.{◌≡◌, ◌∙◌, ℕ, suc, ◌+◌, ◌<◌, ◌≤◌, Bool, true, false, List, [], ◌∷◌, ◌++◌, map, length, refl, sym, ap, arith, Option, Ok}
use Rattle.std.specs.Prelude.{All, codes}
use Rattle.std.specs.Fmt.{decimal}
use Rattle.std.proofs.lemmas.List.{append_assoc, append-nil, length-append, length-map}
use Rattle.std.proofs.lemmas.List.Elements.{All-tail}
use Rattle.vh_params.specs.declared.class.ClassInfo.{ClassInfo}
use Rattle.vh_params.specs.Nodes.{Node}
use Rattle.vh_session.specs.Content.{Content}
use Rattle.vh_session.specs.Entry.{Draft, EditorLine, ScriptLine, ScriptWord, BeginWord, PerformWord, EndWord, TellWord, HoldWord, DropWord, WaitWord, with_entry}
use Rattle.vh_session.specs.Lines
use Rattle.vh_session.specs.Lines.{is_any, line_of_words}
use Rattle.vh_session.specs.Reading.{is_skipped}
use Rattle.vh_session.specs.Rules.{any_number, numbers_that, arity}
use Rattle.vh_text.specs.Chains.{given}
use Rattle.vh_session.specs.Text.{script_words, scripts_words, name_of}
use Rattle.vh_session.specs.Keeps.{EachBehind, IsNodeBehind, IsScriptWord, buses_of, word_count}
use Rattle.vh_text.specs.Tokens.{IsWord}
use Rattle.vh_session.proofs.Found.{node_found, is_small}
use Rattle.vh_session.proofs.Goes.{Goes, with_lines, goes_none, goes_on_to, goes_line, goes_same}
use Rattle.vh_text.proofs.Joined.{joined}
use Rattle.vh_session.proofs.LanesBack.{last_put}
use Rattle.vh_session.proofs.NodesBack.{state}
use Rattle.vh_session.proofs.Numerals.{any_reads}
use Rattle.vh_text.proofs.Numerals.{number_word}
use Rattle.vh_session.proofs.PresetsBack.{named_word}
use Rattle.vh_session.proofs.Says.{editor_says, script_says, counts, numbers_read}
use Rattle.vh_text.proofs.Gives.{then_}
use Rattle.vh_text.proofs.WordsOf.{code_word, no_words, one_more}

number_words : (ns : List ℕ) → All (λ n. is_any n ≡ true) ns → All IsWord (map decimal ns)
number_words [] all = no_words
number_words (n ∷ ns) all = one_more (decimal n) (map decimal ns) (number_word n (is_small n (all 0 n (omega arith)))) (number_words ns (All-tail (λ n. is_any n ≡ true) n ns all))

one_word : (text : List ℕ) → IsWord text → All IsWord (text ∷ [])
one_word text is = one_more text [] is no_words

word_words : (nodes : List Node) (word : ScriptWord) → EachBehind IsNodeBehind [] nodes → IsScriptWord (length nodes) word → All IsWord (script_words nodes word)
word_words nodes (BeginWord node id) named fits = one_more (codes "begin") (name_of nodes node ∷ decimal id ∷ []) (code_word (codes "begin") refl) (one_more (name_of nodes node) (decimal id ∷ []) (named_word nodes node named fits.0) (one_word (decimal id) (number_word id (is_small id fits.1))))
word_words nodes (PerformWord node id value) named fits = one_more (codes "perform") (name_of nodes node ∷ decimal id ∷ decimal value ∷ []) (code_word (codes "perform") refl) (one_more (name_of nodes node) (decimal id ∷ decimal value ∷ []) (named_word nodes node named fits.0) (one_more (decimal id) (decimal value ∷ []) (number_word id (is_small id fits.1)) (one_word (decimal value) (number_word value (is_small value fits.2)))))
word_words nodes (EndWord node id) named fits = one_more (codes "end") (name_of nodes node ∷ decimal id ∷ []) (code_word (codes "end") refl) (one_more (name_of nodes node) (decimal id ∷ []) (named_word nodes node named fits.0) (one_word (decimal id) (number_word id (is_small id fits.1))))
word_words nodes (TellWord node numbers) named fits = one_more (codes "tell") (name_of nodes node ∷ map decimal numbers) (code_word (codes "tell") refl) (one_more (name_of nodes node) (map decimal numbers) (named_word nodes node named fits.0) (number_words numbers fits.1.1))
word_words nodes (HoldWord node) named fits = one_more (codes "hold") (name_of nodes node ∷ []) (code_word (codes "hold") refl) (one_word (name_of nodes node) (named_word nodes node named fits))
word_words nodes (DropWord node) named fits = one_more (codes "drop") (name_of nodes node ∷ []) (code_word (codes "drop") refl) (one_word (name_of nodes node) (named_word nodes node named fits))
word_words nodes (WaitWord block) named fits = one_more (codes "wait") (decimal block ∷ []) (code_word (codes "wait") refl) (one_word (decimal block) (number_word block (is_small block fits)))

word_goes : (nodes : List Node) (word : ScriptWord) → is_skipped (joined (script_words nodes word)) ≡ false
word_goes nodes (BeginWord node id) = refl
word_goes nodes (PerformWord node id value) = refl
word_goes nodes (EndWord node id) = refl
word_goes nodes (TellWord node numbers) = refl
word_goes nodes (HoldWord node) = refl
word_goes nodes (DropWord node) = refl
word_goes nodes (WaitWord block) = refl

word_said : (known : List ClassInfo) (draft : Draft) (word : ScriptWord) → EachBehind IsNodeBehind [] draft.nodes → IsScriptWord (length draft.nodes) word → 0 < length draft.scripts → draft.script_count < 4096 → line_of_words known draft (script_words draft.nodes word) ≡ Ok (ScriptLine word)
word_said known draft (BeginWord node id) named fits some few =
    (then_ (λ node. given (any_number (decimal id)) (λ id. Lines.script_line draft (BeginWord node id))) node (node_found draft.nodes node named fits.0)
    ∙ then_ (λ id. Lines.script_line draft (BeginWord node id)) id (any_reads id (is_small id fits.1)) ∙ script_says draft (BeginWord node id) some few)
word_said known draft (PerformWord node id value) named fits some few =
    (then_ (λ node. given (any_number (decimal id)) (λ id. given (any_number (decimal value)) (λ value. Lines.script_line draft (PerformWord node id value)))) node (node_found draft.nodes node named fits.0)
    ∙ then_ (λ id. given (any_number (decimal value)) (λ value. Lines.script_line draft (PerformWord node id value))) id (any_reads id (is_small id fits.1))
    ∙ then_ (λ value. Lines.script_line draft (PerformWord node id value)) value (any_reads value (is_small value fits.2)) ∙ script_says draft (PerformWord node id value) some few)
word_said known draft (EndWord node id) named fits some few =
    (then_ (λ node. given (any_number (decimal id)) (λ id. Lines.script_line draft (EndWord node id))) node (node_found draft.nodes node named fits.0)
    ∙ then_ (λ id. Lines.script_line draft (EndWord node id)) id (any_reads id (is_small id fits.1)) ∙ script_says draft (EndWord node id) some few)
word_said known draft (TellWord node numbers) named fits some few =
    let texts = map decimal numbers in
    let name = name_of draft.nodes node in
    let long = length-map numbers decimal in
    let most = fits.1.0 in
    let tells : Lines.tell_line draft name texts ≡ Ok (ScriptLine (TellWord node numbers)) =
    then_ (λ node. given (numbers_that is_any texts) (λ numbers. Lines.script_line draft (TellWord node numbers))) node (node_found draft.nodes node named fits.0)
    ∙ then_ (λ numbers. Lines.script_line draft (TellWord node numbers)) numbers (numbers_read 0 4294967295 numbers (omega arith) fits.1.1) ∙ script_says draft (TellWord node numbers) some few in
    (then_ (λ fits. Lines.tell_line draft name texts) tt (counts 1 5 (suc (length texts)) (omega arith) (omega (arith, long, most))) ∙ tells)
word_said known draft (HoldWord node) named fits some few =
    (then_ (λ node. Lines.script_line draft (HoldWord node)) node (node_found draft.nodes node named fits) ∙ script_says draft (HoldWord node) some few)
word_said known draft (DropWord node) named fits some few =
    (then_ (λ node. Lines.script_line draft (DropWord node)) node (node_found draft.nodes node named fits) ∙ script_says draft (DropWord node) some few)
word_said known draft (WaitWord block) named fits some few =
    (then_ (λ block. Lines.script_line draft (WaitWord block)) block (any_reads block (is_small block fits)) ∙ script_says draft (WaitWord block) some few)

abbrev pub scripts_state : List ClassInfo → Content → List (Option (List ℕ)) → List (List (ℕ × ℕ)) → Bool → List (List ScriptWord) → ℕ → Draft
scripts_state known content presets firsts in_lane scripts count = state content content.nodes (buses_of known content.nodes) presets firsts content.wires content.lanes in_lane scripts count

module _ (known : List ClassInfo) (content : Content) (presets : List (Option (List ℕ))) (firsts : List (List (ℕ × ℕ))) (named : EachBehind IsNodeBehind [] content.nodes) where
  abbrev at : Bool → List (List ScriptWord) → ℕ → Draft
  at in_lane scripts count = scripts_state known content presets firsts in_lane scripts count

  words_go : (before : List (List ScriptWord)) (done words : List ScriptWord) (count : ℕ) → All (IsScriptWord (length content.nodes)) words → count + length words ≤ 4096
      → Goes known (map (script_words content.nodes) words) (at false (before ++ done ∷ []) count) (at false (before ++ (done ++ words) ∷ []) (count + length words))
  words_go before done [] count fits few = goes_same known [] (at false (before ++ done ∷ []) count) (at false (before ++ done ∷ []) count) (at false (before ++ (done ++ []) ∷ []) (count + 0))
      (ap (λ ws. at false (before ++ ws ∷ []) count) (sym (append-nil done)) ∙ ap (λ n. at false (before ++ (done ++ []) ∷ []) n) (let e : count ≡ count + 0 = omega arith in e)) (goes_none known (at false (before ++ done ∷ []) count))
  words_go before done (word ∷ words) count fits few =
      let scripts = before ++ done ∷ [] in
      let long = length-append before (done ∷ []) in
      let is = fits 0 word (omega arith) in
      let first = goes_same known (script_words content.nodes word ∷ []) (at false scripts count) (with_entry 0 (ScriptLine word) (at false scripts count)) (at false (before ++ (done ++ word ∷ []) ∷ []) (count + 1)) (ap (λ ss. at false ss (count + 1)) (last_put (λ script. script ++ word ∷ []) before done))
      (goes_line known (script_words content.nodes word) (at false scripts count) (ScriptLine word) (word_words content.nodes word named is) (word_goes content.nodes word) (λ stand. word_said known (with_lines stand (at false scripts count)) word named is (omega (arith, long)) (omega (arith, few)))) in
      let rest = words_go before (done ++ word ∷ []) words (count + 1) (All-tail (IsScriptWord (length content.nodes)) word words fits) (omega (arith, few)) in
      goes_same known (map (script_words content.nodes) (word ∷ words)) (at false scripts count) (at false (before ++ ((done ++ word ∷ []) ++ words) ∷ []) ((count + 1) + length words)) (at false (before ++ (done ++ (word ∷ words)) ∷ []) (count + suc (length words)))
      (ap (λ ws. at false (before ++ ws ∷ []) ((count + 1) + length words)) (append_assoc done (word ∷ []) words) ∙ ap (λ n. at false (before ++ (done ++ (word ∷ words)) ∷ []) n) (let e : (count + 1) + length words ≡ count + suc (length words) = omega arith in e))
      (goes_on_to known (script_words content.nodes word ∷ []) (map (script_words content.nodes) words) (at false scripts count) (at false (before ++ (done ++ word ∷ []) ∷ []) (count + 1)) (at false (before ++ ((done ++ word ∷ []) ++ words) ∷ []) ((count + 1) + length words)) first rest)

  pub scripts_go : (before scripts : List (List ScriptWord)) (editor count : ℕ) (in_lane : Bool) → editor ≡ length before → editor + length scripts ≤ 8 → count + word_count scripts ≤ 4096 → All (λ script. All (IsScriptWord (length content.nodes)) script) scripts
      → (in_now : Bool) × Goes known (scripts_words content.nodes editor scripts) (at in_lane before count) (at in_now (before ++ scripts) (count + word_count scripts))
  scripts_go before [] editor count in_lane next few short fits = (
    in_lane,
    goes_same known [] (at in_lane before count) (at in_lane before count) (at in_lane (before ++ []) (count + 0))
        (ap (λ ss. at in_lane ss count) (sym (append-nil before)) ∙ ap (λ n. at in_lane (before ++ []) n) (let e : count ≡ count + 0 = omega arith in e)) (goes_none known (at in_lane before count)),
  )
  scripts_go before (script ∷ scripts) editor count in_lane next few short fits =
      let line = codes "editor" ∷ decimal editor ∷ [] in
      let W : List ScriptWord → Type 0 = λ script. All (IsScriptWord (length content.nodes)) script in
      let words = one_more (codes "editor") (decimal editor ∷ []) (code_word (codes "editor") refl) (one_word (decimal editor) (number_word editor (omega (arith, few)))) in
      let first = goes_line known line (at in_lane before count) EditorLine words refl (λ stand. (editor_says (with_lines stand (at in_lane before count)) editor next (omega (arith, few)))) in
      let own = words_go before [] script count (fits 0 script (omega arith)) (omega (arith, short)) in
      let long = length-append before (script ∷ []) in
      let rest = scripts_go (before ++ script ∷ []) scripts (editor + 1) (count + length script) false (omega (arith, next, long)) (omega (arith, few)) (omega (arith, short)) (All-tail W script scripts fits) in
      let more = scripts_words content.nodes (editor + 1) scripts in (
        rest.0,
        goes_same known (scripts_words content.nodes editor (script ∷ scripts)) (at in_lane before count) (at rest.0 ((before ++ script ∷ []) ++ scripts) ((count + length script) + word_count scripts)) (at rest.0 (before ++ (script ∷ scripts)) (count + (length script + word_count scripts)))
            (ap (λ ss. at rest.0 ss ((count + length script) + word_count scripts)) (append_assoc before (script ∷ []) scripts) ∙ ap (λ n. at rest.0 (before ++ (script ∷ scripts)) n) (let e : (count + length script) + word_count scripts ≡ count + (length script + word_count scripts) = omega arith in e))
            (goes_on_to known (line ∷ []) (map (script_words content.nodes) script ++ more) (at in_lane before count) (at false (before ++ [] ∷ []) count) (at rest.0 ((before ++ script ∷ []) ++ scripts) ((count + length script) + word_count scripts)) first
            (goes_on_to known (map (script_words content.nodes) script) more (at false (before ++ [] ∷ []) count) (at false (before ++ script ∷ []) (count + length script)) (at rest.0 ((before ++ script ∷ []) ++ scripts) ((count + length script) + word_count scripts)) own rest.1)),
      )
