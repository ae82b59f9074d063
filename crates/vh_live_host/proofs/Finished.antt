-- What was played is what the command writes and says.
use Rattle.std.proofs.Common.{◌≡◌, ◌≢◌, ◌∙◌, ℕ, ◌≤◌, ◌^◌, true, false, eqb, List, [], ◌∷◌, length, Option, ◌⊎◌, inl, inr, refl, sym, ap, subst, arith}
use Rattle.std.specs.Prelude.{All, nat_le, ◌||◌}
use Rattle.std.specs.List.{concat}
use Rattle.std.proofs.lemmas.Bool.{and_parts, eqb-true, eqb-false, leb-true}
use Rattle.std.proofs.lemmas.List.{length-map}
use Rattle.std.proofs.lemmas.List.Elements.{All-nil, All-append}
use Rattle.vh_counted.specs.declared.object.Opened.{Opened}
use Rattle.vh_counted.specs.Held.{value_of_opened}
use Rattle.vh_cut.specs.Cut.{pieces_of}
use Rattle.vh_num.specs.Frames.{Frame}
use Rattle.vh_params.specs.Nodes.{nodes_of}
use Rattle.vh_journal.specs.declared.entry.Entry.{Entry}
use Rattle.vh_journal_text.specs.Items.{Item}
use Rattle.vh_journal_text.specs.Text.{journal_text}
use Rattle.vh_session.specs.declared.session.Session.{Session}
use Rattle.vh_session.specs.Content.{Content}
use Rattle.vh_session.specs.Lines.{is_bits}
use Rattle.vh_session.specs.Names.{content_of}
use Rattle.vh_session.proofs.PartsNamed.{names_nodes}
use Rattle.vh_legal.specs.Legal.{IsLegalFor, scripts_of}
use Rattle.vh_legal.specs.Laws.{LegalIsCutAsPlayed}
use Rattle.vh_meaning.specs.Rendering.{Answer, stops}
use Rattle.vh_wav.specs.Text.{wav_text}
use Rattle.vh_answers.specs.declared.report.EditorCounts.{EditorCounts}
use Rattle.vh_answers.specs.declared.status.Status.{Status}
use Rattle.vh_answers.specs.Outside.{Outside}
use Rattle.vh_answers.specs.Report.{report_text}
use Rattle.vh_answers.specs.Steps.{Last, EndsUnsaid}
use Rattle.vh_instance.specs.Band.{of_openers}
use Rattle.vh_host.specs.Input.{Heard}
use Rattle.vh_host.specs.Commands.{piece_count}
use Rattle.vh_text.specs.Numbers.{is_within}
use Rattle.vh_editors.specs.Scripts.{refused_in, refused_by_each}
use Rattle.vh_live_host.specs.Played.{in_blocks, counts_of, counts_in}
use Rattle.vh_live_host.proofs.Published.{samples_of, journal_of}

-- ---- sessions
one_or_two : (n : ℕ) → is_within 1 2 n ≡ true → (n ≡ 1) ⊎ (n ≡ 2)
one_or_two n is =
    let parts = and_parts (nat_le 1 n) (nat_le n 2) is in
    let some : 1 ≤ n = leb-true 1 n parts.0 in
    let most : n ≤ 2 = leb-true n 2 parts.1 in
    elim (eqb n 1) as (λ b. eqb n 1 ≡ b → (n ≡ 1) ⊎ (n ≡ 2)) [
      | true ↦ λ one. inl (eqb-true n 1 one)
      | false ↦ λ other. let not : n ≢ 1 = eqb-false n 1 other in inr (omega (arith, some, most, not))
    ] refl

two_bits : (n : ℕ) → is_bits n ≡ true → (n ≡ 16) ⊎ (n ≡ 24)
two_bits n is = elim (eqb n 16) as (λ b. eqb n 16 ≡ b → b || eqb n 24 ≡ true → (n ≡ 16) ⊎ (n ≡ 24)) [
  | true ↦ λ one other. inl (eqb-true n 16 one)
  | false ↦ λ one other. inr (eqb-true n 24 other)
] refl is

-- one channel or two, 16 bits or 24, and no more frames than there may be
pub channels_are : (session : Session) → (session.channels ≡ 1) ⊎ (session.channels ≡ 2)
channels_are session = one_or_two session.channels session.keeps.channels

pub bits_are : (session : Session) → (session.bits ≡ 16) ⊎ (session.bits ≡ 24)
bits_are session = two_bits session.bits session.keeps.bits

pub few_frames : (session : Session) → session.length ≤ 2 ^ 24
few_frames session = leb-true session.length (2 ^ 24) (and_parts (nat_le 0 session.length) (nat_le session.length (2 ^ 24)) session.keeps.frames).1

-- ---- values
pub all_within : {C : Type 0} (values : C → List ℕ) → ((x : C) → All (λ value. value ≤ 2 ^ 24) (values x)) → (edits : List (Opened C)) → All (λ value. value ≤ 2 ^ 24) (concat (of_openers values edits))
all_within values within [] = All-nil (λ (value : ℕ). value ≤ 2 ^ 24)
all_within values within (edit ∷ edits) = All-append (λ (value : ℕ). value ≤ 2 ^ 24) (values (value_of_opened edit)) (concat (of_openers values edits)) (within (value_of_opened edit)) (all_within values within edits)

-- ---- texts
-- the report doesn't hang on the blocks
same_report : (block : Option ℕ) (content : Content) (values modes : List ℕ) (pieces : ℕ) (given : List Answer) (editors : List EditorCounts)
    → report_text (in_blocks block content) values modes pieces given editors ≡ report_text content values modes pieces given editors
unfolding report_text
same_report block content values modes pieces given editors = refl

-- the session that came back, the one that was played, and what was read of it
module _ (now session : Session) (block : Option ℕ) (content : Content) (kept : content_of now ≡ content_of session) (is : content_of session ≡ in_blocks block content) where
  both : content_of now ≡ in_blocks block content
  both = kept ∙ is

  pub nodes_now : nodes_of now.nodes ≡ content.nodes
  nodes_now = ap (λ (c : Content). c.nodes) both

  pub nodes_then : nodes_of session.nodes ≡ content.nodes
  nodes_then = ap (λ (c : Content). c.nodes) is

  pub file_text : (rate : ℕ) (heard : Heard) (frames rendered : List Frame) → heard.rate ≡ rate → frames ≡ rendered → wav_text now.channels rate now.bits frames ≡ wav_text content.channels heard.rate content.bits rendered
  file_text rate heard frames rendered same frames_are =
      ap (λ channels. wav_text channels rate now.bits frames) (ap (λ (c : Content). c.channels) both)
      ∙ ap (λ bits. wav_text content.channels rate bits frames) (ap (λ (c : Content). c.bits) both)
      ∙ ap (λ r. wav_text content.channels r content.bits frames) (sym same)
      ∙ ap (λ (fs : List Frame). wav_text content.channels heard.rate content.bits fs) frames_are

  pub kept_text : (items : List Item) → journal_text (nodes_of now.nodes) items ≡ journal_text content.nodes items
  kept_text items = ap (λ nodes. journal_text nodes items) nodes_now

  pub same_pieces : LegalIsCutAsPlayed → (entries : List Entry) → IsLegalFor session entries → (sizes : List ℕ) → sizes ≡ (content_of now).pattern → length (pieces_of now.length sizes []) ≡ piece_count block content entries
  same_pieces law entries legal sizes sizes_are =
      ap (λ (pattern : List ℕ). length (pieces_of now.length pattern [])) sizes_are
      ∙ ap (λ (c : Content). length (pieces_of c.length c.pattern [])) kept
      ∙ ap length (sym (law session entries legal))
      ∙ ap (λ (c : Content). length (pieces_of c.length c.pattern (stops entries))) is

  pub said : (values last modes : List ℕ) (pieces count : ℕ) (given answers : List Answer) (editors counts : List EditorCounts)
      → values ≡ last → pieces ≡ count → given ≡ answers → editors ≡ counts → report_text (content_of now) values modes pieces given editors ≡ report_text content last modes count answers counts
  said values last modes pieces count given answers editors counts values_are pieces_are answers_are editors_are =
      ap (λ (c : Content). report_text c values modes pieces given editors) both
      ∙ same_report block content values modes pieces given editors
      ∙ ap (λ (vs : List ℕ). report_text content vs modes pieces given editors) values_are
      ∙ ap (λ (n : ℕ). report_text content last modes n given editors) pieces_are
      ∙ ap (λ (as_ : List Answer). report_text content last modes count as_ editors) answers_are
      ∙ ap (λ (cs : List EditorCounts). report_text content last modes count answers cs) editors_are

-- an ending, by other names of what was written and said
pub same_ending : (Counts : ℕ → Type 0) (o : Outside) (input output journal samples other_samples text other_text report other_report : List ℕ) (calls : ℕ) (answer : Status)
    → samples ≡ other_samples → text ≡ other_text → report ≡ other_report
    → EndsUnsaid Counts o (Last (samples_of input output journal samples ∷ journal_of input output journal text ∷ []) report calls) answer
    → EndsUnsaid Counts o (Last (samples_of input output journal other_samples ∷ journal_of input output journal other_text ∷ []) other_report calls) answer
same_ending Counts o input output journal samples other_samples text other_text report other_report calls answer samples_are text_is report_is ends =
    subst (λ r. EndsUnsaid Counts o (Last (samples_of input output journal other_samples ∷ journal_of input output journal other_text ∷ []) r calls) answer) report_is
    (subst (λ t. EndsUnsaid Counts o (Last (samples_of input output journal other_samples ∷ journal_of input output journal t ∷ []) report calls) answer) text_is
    (subst (λ s. EndsUnsaid Counts o (Last (samples_of input output journal s ∷ journal_of input output journal text ∷ []) report calls) answer) samples_are ends))

-- ---- editors
pub few_scripts : (session : Session) → length (scripts_of session) ≤ 8
few_scripts session =
    let long : length (scripts_of session) ≡ length session.scripts.items = length-map session.scripts.items (λ script. script.items) in
    let few = (names_nodes session).few in
    omega (arith, long, few)

pub few_editors : (session : Session) (refused : List ℕ) → refused ≡ refused_by_each (nodes_of session.nodes) (scripts_of session) → length refused ≤ 8
few_editors session refused are =
    let long : length refused ≡ length (scripts_of session) = ap length are ∙ length-map (scripts_of session) (refused_in (nodes_of session.nodes)) in
    let few = few_scripts session in
    omega (arith, long, few)

pub few_counts : (session : Session) (journal : List Entry) (counts : List EditorCounts) → counts ≡ counts_in (nodes_of session.nodes) (record { session = session; journal = journal }) → length counts ≤ 8
few_counts session journal counts are =
    let long : length counts ≡ length (scripts_of session) = ap length are ∙ length-map (scripts_of session) (counts_of (nodes_of session.nodes)) in
    let few = few_scripts session in
    omega (arith, long, few)
