use Rattle.std.proofs.Common.{◌≡◌, ◌∙◌, ℕ, ◌*◌, ◌^◌, ◌≤◌, List, [], length, map, sym, ap, subst, arith}
use Rattle.std.specs.Prelude.{All}
use Rattle.std.proofs.lemmas.List.FromFn.{length-map-range_with_len}
use Rattle.vh_cut.specs.Cut.{pieces_of}
use Rattle.vh_params.specs.Nodes.{Node, nodes_of}
use Rattle.vh_journal_text.specs.Items.{items_of}
use Rattle.vh_journal_text.specs.Keeps.{AreThere}
use Rattle.vh_session.specs.Content.{Content}
use Rattle.vh_session.specs.Names.{content_of}
use Rattle.vh_meaning.specs.Rendering.{answers, last_values, out_at, rendering}
use Rattle.vh_wav.specs.InMemory.{interleaved}
use Rattle.vh_answers.specs.Outside.{outside}
use Rattle.vh_answers.specs.Report.{report_text, answer_of}
use Rattle.vh_instance.specs.Band.{of_openers}
use Rattle.vh_host.specs.Commands.{piece_count}
use Rattle.vh_host.specs.Named.{status_of}
use Rattle.vh_host.proofs.Replies.{replies_there}
use Rattle.vh_live_host.specs.Played.{Played, counts_in}
use Rattle.vh_live_host.specs.Commands.{calls_of}
use Rattle.vh_live_host.specs.Named.{live_of}
use Rattle.vh_live_host.proofs.Replied.{answers_there}
use Rattle.vh_live_host.proofs.Finished.{channels_are, bits_are, few_frames, all_within, few_counts, nodes_then, file_text, kept_text, same_pieces, said, same_ending}
use Rattle.vh_live_host.proofs.done.finish.Goals as goal

pub publish-requires-clause-wave : goal.publish-requires-clause-wave
publish-requires-clause-wave g c =
    let now = c.args.done.now.session.now in
    let are = c.requires.played.3 in
    let added = c.args.done.now.frames.now.added in
    let count : length added ≡ now.length = ap length are.frames_are ∙ length-map-range_with_len (out_at c.requires.played.1 c.requires.played.2 c.args.done.now.entries.now) 0 c.requires.played.1.length
    ∙ are.samples ∙ sym (ap (λ (content : Content). content.length) are.session_is) in
    record {
      channels = channels_are now;
      bits = bits_are now;
      rate = c.requires.rate;
      few = few_frames now;
      long = c.pushed.ensures.long ∙ ap (λ n. n * length added) (are.channels ∙ sym (ap (λ (content : Content). content.channels) are.session_is)) ∙ ap (λ n. now.channels * n) count;
      pattern = c.block_sizes.ensures.pattern;
    }

pub publish-requires-clause-values : goal.publish-requires-clause-values
publish-requires-clause-values g c =
    subst (λ (values : List ℕ). All (λ value. value ≤ 2 ^ 24) values) (sym c.in-Ok.ensures.values) (all_within g.C.Controller.values (λ x. (g.met.C.Controller.valued x).within) c.args.done.now.edits.now)

pub publish-requires-clause-replies : goal.publish-requires-clause-replies
publish-requires-clause-replies g c =
    let are = c.requires.played.3 in
    let entries = c.args.done.now.entries.now in
    let nodes = nodes_of c.args.done.now.session.now.nodes in
    let there : AreThere nodes entries = subst (λ (nodes : List Node). AreThere nodes entries) (sym (ap (λ (content : Content). content.nodes) are.session_is)) (c.legal_reads_back.ensures c.requires.played.0 entries are.legal).there in
    replies_there (length nodes) c.args.done.now.replies.now (answers c.requires.played.1 c.requires.played.2 entries) are.replies_are (answers_there c.requires.played.1 c.requires.played.2 nodes entries there)

pub publish-requires-clause-editors : goal.publish-requires-clause-editors
publish-requires-clause-editors g c =
    let played = c.requires.played in
    let few = few_counts played.0 c.args.done.now.entries.now c.in-Ok.results.editors.items (c.in-Ok.ensures.editors played.0 played.1 played.2 played.3) in
    omega (arith, few)

pub returns-clause-ends : goal.returns-clause-ends
returns-clause-ends g c = λ session scene heard content are same is.
    let done = c.args.done.now in
    let now = done.session.now in
    let live = c.args.live.now in
    let entries = done.entries.now in
    let calls = calls_of (live_of live) content entries in
    let results = c.in-Ok.results in
    let played : Played = record { session = session; journal = entries } in
    let last = last_values scene heard.frames entries in
    let given = answers scene heard.frames entries in
    let modes = of_openers g.C.Controller.mode done.edits.now in
    let counts = counts_in content.nodes played in
    let pieces = length (pieces_of now.length c.block_sizes.result.now []) in
    let channels : now.channels ≡ done.frames.now.channels = ap (λ (content : Content). content.channels) are.session_is ∙ sym are.channels in
    let frames : interleaved now.channels c.pushed.result.now ≡ rendering scene heard.frames entries = ap (λ n. interleaved n c.pushed.result.now) channels ∙ c.pushed.ensures.frames ∙ are.frames_are in
    same_ending (λ n. n ≡ calls) (outside g.F.Files g.Y.Say c.args.files.now c.publish.new.files c.args.say.now c.publish.new.say) live.input.now live.output.now live.journal.now _ _ _ _ _ _ calls (status_of c.publish.result)
    (file_text now session live.block content are.session_is is done.rate heard (interleaved now.channels c.pushed.result.now) (rendering scene heard.frames entries) same frames)
    (c.in-Ok.ensures.journal ∙ kept_text now session live.block content are.session_is is (items_of entries))
    (ap (λ (ms : List ℕ). report_text (content_of now) results.values.items ms pieces (map answer_of done.replies.now) results.editors.items) c.in-Ok.ensures.modes
    ∙ said now session live.block content are.session_is is results.values.items last modes pieces (piece_count live.block content entries) (map answer_of done.replies.now) given results.editors.items counts
    (c.in-Ok.ensures.values ∙ are.values_are)
    (same_pieces now session live.block content are.session_is is c.legal_is_cut_as_played.ensures entries are.legal c.block_sizes.result.now c.block_sizes.ensures.sizes)
    are.replies_are
    (c.in-Ok.ensures.editors session scene heard.frames are ∙ ap (λ nodes. counts_in nodes played) (nodes_then now session live.block content are.session_is is)))
    (c.publish.ensures.ends calls)
