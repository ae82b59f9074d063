-- What became of the editors' words, counted over a legal journal.
use Rattle.std.proofs.Common.{◌≡◌, ◌∙◌, ℕ, ◌<◌, List, [], length, map, get_or, sym, ap, arith}
use Rattle.std.specs.List.{range_with_len}
use Rattle.std.proofs.lemmas.List.{get_or-map, length-map, same_lists}
use Rattle.std.proofs.lemmas.List.FromFn.{get_or-map-range_with_len, length-map-range_with_len, length-enumerate_from}
use Rattle.vh_params.specs.Nodes.{Node}
use Rattle.vh_params.specs.declared.command.Command.{Command}
use Rattle.vh_params.specs.declared.command.Word.{Word}
use Rattle.vh_journal.specs.declared.entry.Entry.{Entry}
use Rattle.vh_gesture.specs.Scripts.{edits}
use Rattle.vh_legal.specs.Legal.{by_editor, numbered, HasPlayed, script_at}
use Rattle.vh_editors.specs.Scripts.{refused_in, refused_by_each}
use Rattle.vh_answers.specs.declared.report.EditorCounts.{EditorCounts}
use Rattle.vh_live_host.specs.Played.{counts_of}

-- what is counted of an editor
abbrev pub counted : List Entry → List ℕ → ℕ → EditorCounts
counted entries refused editor = record { accepted = length (by_editor editor entries); refused = get_or refused editor 0 }

-- and of the first of them
abbrev pub counted_to : List Entry → List ℕ → ℕ → List EditorCounts
counted_to entries refused count = map (counted entries refused) (range_with_len 0 count)

one_editor : (nodes : List Node) (script : List Word) (editor : ℕ) (entries : List Entry) (refused : List ℕ) → HasPlayed nodes script editor entries → get_or refused editor 0 ≡ refused_in nodes script
    → counted entries refused editor ≡ counts_of nodes script
one_editor nodes script editor entries refused played refused_is =
    let of : ℕ → ℕ → EditorCounts = λ accepted refused. record { accepted = accepted; refused = refused } in
    let many : length (by_editor editor entries) ≡ length (edits nodes script) =
    sym (length-map (by_editor editor entries) numbered) ∙ ap (λ (l : List (ℕ × Command)). length l) played ∙ length-enumerate_from 0 (edits nodes script) in
    ap (λ n. of n (get_or refused editor 0)) many ∙ ap (λ n. of (length (edits nodes script)) n) refused_is

-- of all editors it is what became of their scripts
pub all_counted : (nodes : List Node) (scripts : List (List Word)) (entries : List Entry) (refused : List ℕ) → refused ≡ refused_by_each nodes scripts
    → ((editor : ℕ) → editor < length scripts → HasPlayed nodes (script_at scripts editor) editor entries) → counted_to entries refused (length refused) ≡ map (counts_of nodes) scripts
all_counted nodes scripts entries refused refused_are played =
    let many : length refused ≡ length scripts = ap length refused_are ∙ length-map scripts (refused_in nodes) in
    same_lists (counted_to entries refused (length refused)) (map (counts_of nodes) scripts)
    (length-map-range_with_len (counted entries refused) 0 (length refused) ∙ many ∙ sym (length-map scripts (counts_of nodes)))
    (λ k d lt.
    let long = length-map-range_with_len (counted entries refused) 0 (length refused) in
    let within : k < length refused = omega (arith, lt, long) in
    let there : k < length scripts = omega (arith, within, many) in
    get_or-map-range_with_len (counted entries refused) 0 (length refused) k k d within (omega arith)
    ∙ one_editor nodes (get_or scripts k []) k entries refused (played k there) (ap (λ l. get_or l k 0) refused_are ∙ get_or-map (refused_in nodes) scripts k [] 0 there)
    ∙ sym (get_or-map (counts_of nodes) scripts k [] d there))
