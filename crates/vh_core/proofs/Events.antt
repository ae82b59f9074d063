-- A machine over the events of a legal journal comes to it.
use Rattle.std.proofs.Common.{◌≡◌, ◌∙◌, inl, inr, ℕ, zero, suc, ◌+◌, ◌-◌, ◌*◌, ◌<◌, ◌≤◌, Bool, true, false, not, ◌&&◌, ◌==◌, cond, min, nat_lt, List, [], ◌∷◌, ◌++◌, length, map, filter, take, drop, refl, sym, ap, subst, arith}
use Rattle.std.specs.Prelude.{All, slice_index}
use Rattle.std.specs.List.{AllByRecursion, range_with_len, flat_map}
use Rattle.std.proofs.Math.Nat.{add-mul, mul-add, mul-le-mul_right}
use Rattle.std.proofs.Math.ListN.{drop_of_length-le}
use Rattle.std.proofs.lemmas.Bool.{eq-eqb, eqb-true}
use Rattle.std.proofs.lemmas.List.{append_assoc, append-nil, map-append, length-map, length-append, take_all}
use Rattle.std.proofs.lemmas.List.Sums.{length-filter, count_by-le-length}
use Rattle.std.proofs.lemmas.List.Elements.{filter-append, recursion_from_All}
use Rattle.std.proofs.lemmas.List.FromFn.{length-range_with_len, length-map-range_with_len}
use Rattle.vh_num.specs.Frames.{Frame}
use Rattle.vh_plugin.specs.Class.{State as Held}
use Rattle.vh_params.specs.declared.command.Command.{Command}
use Rattle.vh_params.specs.declared.command.Command.TheVariants.{Begin, Perform, End, Tell}
use Rattle.vh_params.specs.declared.command.Word.{Word}
use Rattle.vh_params.specs.declared.command.Word.TheVariants.{Edit}
use Rattle.vh_params.specs.Nodes.{Node}
use Rattle.vh_cut.specs.declared.piece.Piece.{Piece}
use Rattle.vh_cut.specs.Cut.{pieces_of}
use Rattle.vh_cut.specs.Laws.{PiecesLieEndToEnd}
use Rattle.vh_journal.specs.declared.entry.Entry.{Entry}
use Rattle.vh_session.specs.Keeps.{EachBehind}
use Rattle.vh_session.specs.Names.{content_of}
use Rattle.vh_session.proofs.Wired.{is_pattern}
use Rattle.vh_meaning.specs.Scene.{Scene}
use Rattle.vh_meaning.specs.Values.{values_at}
use Rattle.vh_meaning.specs.World.{world, after_messages}
use Rattle.vh_meaning.specs.Rendering.{Answer, answers_by, answer_to, answers_from, answers, out_at, rendering, seen_before, last_values}
use Rattle.vh_legal.specs.Blocks.{IsAtBlock, starts_of}
use Rattle.vh_legal.specs.Journals.{MayStandBehind}
use Rattle.vh_legal.specs.Laws.{LegalIsJournal}
use Rattle.vh_core.specs.declared.event.Event.{Event}
use Rattle.vh_core.specs.declared.event.Event.TheVariants.{Put, Audio, Back, Flush}
use Rattle.vh_core.specs.declared.sent.Sent.{Sent}
use Rattle.vh_core.specs.State.{Setting, scene_in, Return, Echo, Reply, State, seen, at_first, begun}
use Rattle.vh_core.specs.Accepting.{sent_by}
use Rattle.vh_core.specs.Steps.{entry_at, take_in, replies_at, render, settle, is_due, tell, always, is_at_end, next}
use Rattle.vh_core.specs.Runs.{MayRun}
use Rattle.vh_core.specs.Played.{puts_at, piece_events, most_returns, played}
use Rattle.vh_core.specs.Laws.{setting_of, Events}
use Rattle.vh_core.proofs.Accepted.{puts_of, sent_as, AreAccepted, waits_as, all_more}
use Rattle.vh_core.proofs.Lists.{most_long}
use Rattle.vh_core.proofs.Shown.{seen_each}
use Rattle.vh_core.proofs.Sound.{all_back, law_sound_after_events}
use Rattle.vh_core.proofs.Tiled.{AreTiles, tiles, ends_behind, among, IsPlaced, AreRising, rising, at_sample, behind, AllFrom, AllBefore, none_at, cut_at, filter_rises, filter_passes, placed_behind}

-- runs in a row

pub cut_run : (setting : Setting) (one other : List Event) (before after : State) → MayRun setting (one ++ other) before after → (between : State) × MayRun setting one before between × MayRun setting other between after
cut_run setting [] other before after run = (before, refl, run)
cut_run setting (event ∷ one) other before after run =
    let rest = cut_run setting one other run.0 after run.2 in
    (rest.0, (run.0, run.1, rest.1), rest.2)

-- what is on its way back grows by no more than this

few_answers_by : (scene : Scene) (states : ℕ → Held) (values : ℕ → List ℕ) (sample : ℕ) (command : Command) → length (answers_by scene states values sample command) ≤ 1
few_answers_by scene states values sample (Begin node id) = omega arith
few_answers_by scene states values sample (Perform node id value) = omega arith
few_answers_by scene states values sample (End node id) = omega arith
few_answers_by scene states values sample (Tell node words) = omega arith

few_answers : (scene : Scene) (input : List Frame) (h before entries : List Entry) → length (answers_from scene input h before entries) ≤ length entries
few_answers scene input h before [] = omega arith
few_answers scene input h before (entry ∷ later) =
    let states = after_messages scene entry.sample [] before (world scene input h entry.sample) in
    let one : length (answer_to scene input h before entry) ≤ 1 = few_answers_by scene states (values_at scene before entry.sample) entry.sample entry.command in
    let rest = few_answers scene input h (before ++ entry ∷ []) later in
    let long = length-append (answer_to scene input h before entry) (answers_from scene input h (before ++ entry ∷ []) later) in
    omega (arith, one, rest, long)

few_replies : (setting : Setting) (journal : List Entry) (sample : ℕ) → length (replies_at setting journal sample) ≤ length journal
few_replies setting journal sample =
    let all = answers (scene_in setting) setting.input journal in
    let test : Answer → Bool = λ answer. answer.sample == sample in
    let long = length-map (filter test all) Reply in
    let same = length-filter test all in
    let some = count_by-le-length test all in
    let few = few_answers (scene_in setting) setting.input journal [] journal in
    omega (arith, long, same, some, few)

few_told : (setting : Setting) (tells : ℕ → Bool) (old : List ℕ) (state : State) → length (tell setting tells old state).returns ≤ length state.returns + length (at_first setting)
few_told setting tells old state =
    let new = seen setting state in
    let places = range_with_len 0 (length new) in
    let test : ℕ → Bool = λ place. is_due old new state.flags place && tells place in
    let echo : ℕ → Return = λ place. Echo place (slice_index new place) in
    let long = length-append state.returns (map echo (filter test places)) in
    let mapped = length-map (filter test places) echo in
    let same = length-filter test places in
    let some = count_by-le-length test places in
    let all = length-range_with_len 0 (length new) in
    let each = seen_each setting state in
    omega (arith, long, mapped, same, some, all, each)

few_rendered : (setting : Setting) (count total : ℕ) (state : State) → length state.journal ≤ total → length (render setting count state).returns ≤ length state.returns + count * total
few_rendered setting count total state few =
    let more = min count ((scene_in setting).length - state.pos) in
    let samples = range_with_len state.pos more in
    let long = length-append state.returns (flat_map (replies_at setting state.journal) samples) in
    let each : (s : ℕ) → length (replies_at setting state.journal s) ≤ total = λ s. let one = few_replies setting state.journal s in omega (arith, one, few) in
    let most = most_long (replies_at setting state.journal) total each samples in
    let all = length-range_with_len state.pos more in
    let less : length samples ≤ count = omega (arith, all) in
    let times = mul-le-mul_right total less in
    omega (arith, long, most, times)

-- entry by entry

abbrev put_event : Entry → Event
put_event entry = Put entry.editor (Edit entry.command)

entries_back : (sample : ℕ) (entries : List Entry) → AllByRecursion (λ entry. entry.sample ≡ sample) entries → map (entry_at sample) (map sent_as entries) ≡ entries
entries_back sample [] all = refl
entries_back sample (entry ∷ entries) all =
    let here : entry_at sample (sent_as entry) ≡ entry = ap (λ s. entry_at s (sent_as entry)) (sym all.0) in
    ap (λ (e : Entry). e ∷ map (entry_at sample) (map sent_as entries)) here ∙ ap (λ (es : List Entry). entry ∷ es) (entries_back sample entries all.1)

all_append : (P : Entry → Type 0) (one other : List Entry) → AllByRecursion P one → AllByRecursion P other → AllByRecursion P (one ++ other)
all_append P [] other all rest = rest
all_append P (entry ∷ one) other all rest = (all.0, all_append P one other all.1 rest)

all_weaker : (P Q : Entry → Type 0) → ((entry : Entry) → P entry → Q entry) → (entries : List Entry) → AllByRecursion P entries → AllByRecursion Q entries
all_weaker P Q each [] all = tt
all_weaker P Q each (entry ∷ entries) all = (each entry all.0, all_weaker P Q each entries all.1)

all_at : (sample : ℕ) (entries : List Entry) → AllByRecursion (λ entry. entry.sample ≡ sample) entries → at_sample sample entries ≡ entries
all_at sample [] all = refl
all_at sample (entry ∷ entries) all =
    ap (λ t. cond t (entry ∷ at_sample sample entries) (at_sample sample entries)) (eq-eqb entry.sample sample all.0) ∙ ap (λ (es : List Entry). entry ∷ es) (all_at sample entries all.1)

all_zero : (entries : List Entry) → AllFrom 0 entries
all_zero [] = tt
all_zero (entry ∷ entries) = (omega arith, all_zero entries)

and_false : (t : Bool) → (t && false) ≡ false
and_false true = refl
and_false false = refl

module _ (setting : Setting) (entries : List Entry) where
  abbrev nodes : List Node
  nodes = setting.session.nodes

  abbrev samples : ℕ
  samples = setting.session.length

  abbrev Stands : List Entry → Entry → Type 0
  Stands = MayStandBehind nodes samples

  -- entries were taken, further ones wait, and this is the next sample
  record Has (before waiting : List Entry) (pos : ℕ) (state : State) : Type 0 where
    puts : state.puts ≡ puts_of (before ++ waiting)
    inbox : state.inbox ≡ map sent_as waiting
    journal : state.journal ≡ before
    at : state.pos ≡ pos
    going : state.flushed ≡ false

  put_one : (tells : ℕ → Bool) (before waiting : List Entry) (entry : Entry) (pos : ℕ) (state : State) → AreAccepted nodes (before ++ waiting) → Stands (before ++ waiting) entry
      → Has before waiting pos state → Has before (waiting ++ entry ∷ []) pos (next setting tells (put_event entry) state)
  put_one tells before waiting entry pos state all stands has = record {
    puts =
        ap (λ (ps : List (ℕ × Word)). ps ++ (entry.editor, Edit entry.command) ∷ []) has.puts
        ∙ sym (map-append (λ (e : Entry). (e.editor, Edit e.command)) (before ++ waiting) (entry ∷ []))
        ∙ ap puts_of (append_assoc before waiting (entry ∷ []));
    inbox =
        ap (λ (l : List Sent). l ++ sent_by nodes state.puts entry.editor (Edit entry.command)) has.inbox
        ∙ ap (λ (ps : List (ℕ × Word)). map sent_as waiting ++ sent_by nodes ps entry.editor (Edit entry.command)) has.puts
        ∙ ap (λ (l : List Sent). map sent_as waiting ++ l) (waits_as nodes samples (before ++ waiting) entry all stands)
        ∙ sym (map-append sent_as waiting (entry ∷ []));
    journal = has.journal;
    at = has.at;
    going = has.going;
  }

  record HasPut (before waiting later : List Entry) (pos : ℕ) (returns : List Return) (state : State) : Type 0 where
    has : Has before waiting pos state
    all : AreAccepted nodes (before ++ waiting)
    rest : EachBehind Stands (before ++ waiting) later
    same : state.returns ≡ returns

  puts_run : (before waiting these later : List Entry) (pos : ℕ) (state after : State) → AreAccepted nodes (before ++ waiting) → EachBehind Stands (before ++ waiting) (these ++ later)
      → Has before waiting pos state → MayRun setting (map put_event these) state after → HasPut before (waiting ++ these) later pos state.returns after
  puts_run before waiting [] later pos state after all each has run =
      let here : HasPut before waiting later pos state.returns state = record { has = has; all = all; rest = each; same = refl } in
      subst (λ (w : List Entry). HasPut before w later pos state.returns after) (sym (append-nil waiting)) (subst (HasPut before waiting later pos state.returns) (sym run) here)
  puts_run before waiting (entry ∷ these) later pos state after all each has run =
      let between = run.0 in
      let tells = run.1.0 in
      let is : between ≡ next setting tells (put_event entry) state = run.1.1 in
      let now : Has before (waiting ++ entry ∷ []) pos between = subst (Has before (waiting ++ entry ∷ []) pos) (sym is) (put_one tells before waiting entry pos state all each.0 has) in
      let more : AreAccepted nodes (before ++ (waiting ++ entry ∷ [])) = subst (AreAccepted nodes) (append_assoc before waiting (entry ∷ [])) (all_more nodes samples (before ++ waiting) entry all each.0) in
      let further : EachBehind Stands (before ++ (waiting ++ entry ∷ [])) (these ++ later) = subst (λ (bs : List Entry). EachBehind Stands bs (these ++ later)) (append_assoc before waiting (entry ∷ [])) each.1 in
      let rest = puts_run before (waiting ++ entry ∷ []) these later pos between after more further now run.2 in
      let same : between.returns ≡ state.returns = ap (λ (s : State). s.returns) is in
      subst (λ (w : List Entry). HasPut before w later pos state.returns after) (append_assoc waiting (entry ∷ []) these)
      (record { has = rest.has; all = rest.all; rest = rest.rest; same = rest.same ∙ same })

  -- what is taken stands as it was put
  journal_is : (before waiting : List Entry) (count pos : ℕ) (state : State) → AllByRecursion (λ entry. entry.sample ≡ pos) waiting → length waiting ≤ count → Has before waiting pos state
      → state.journal ++ map (entry_at state.pos) (take count state.inbox) ≡ before ++ waiting
  journal_is before waiting count pos state placed few has =
      let long = length-map waiting sent_as in
      ap (λ (l : List Entry). l ++ map (entry_at state.pos) (take count state.inbox)) has.journal
      ∙ ap (λ p. before ++ map (entry_at p) (take count state.inbox)) has.at
      ∙ ap (λ (l : List Sent). before ++ map (entry_at pos) (take count l)) has.inbox
      ∙ ap (λ (l : List Sent). before ++ map (entry_at pos) l) (take_all count (map sent_as waiting) (omega (arith, long, few)))
      ∙ ap (λ (l : List Entry). before ++ l) (entries_back pos waiting placed)

  inbox_is : (before waiting : List Entry) (count pos : ℕ) (state : State) → length waiting ≤ count → Has before waiting pos state → drop count state.inbox ≡ []
  inbox_is before waiting count pos state few has =
      let long = length-map waiting sent_as in
      ap (drop count) has.inbox ∙ drop_of_length-le (map sent_as waiting) (omega (arith, long, few))

  record HasRendered (before : List Entry) (pos most : ℕ) (state : State) : Type 0 where
    has : Has before [] pos state
    few : length state.returns ≤ most

  audio_one : (tells : ℕ → Bool) (before waiting : List Entry) (count frames total pos : ℕ) (state : State) → AllByRecursion (λ entry. entry.sample ≡ pos) waiting → length waiting ≤ count → pos + frames ≤ samples
      → length (before ++ waiting) ≤ total → Has before waiting pos state
      → HasRendered (before ++ waiting) (pos + frames) (length state.returns + (frames * total + length (at_first setting))) (next setting tells (Audio count frames) state)
  audio_one tells before waiting count frames total pos state placed few within small has =
      let old = seen setting state in
      let taken = take_in count state in
      let done = tell setting tells old (render setting frames taken) in
      let journal = journal_is before waiting count pos state placed few has in
      let at = has.at in
      let most = few_rendered setting frames total taken (subst (λ (l : List Entry). length l ≤ total) (sym journal) small) in
      let told = few_told setting tells old (render setting frames taken) in
      let here : HasRendered (before ++ waiting) (pos + frames) (length state.returns + (frames * total + length (at_first setting))) done = record {
        has = record {
          puts = has.puts ∙ ap puts_of (sym (append-nil (before ++ waiting)));
          inbox = inbox_is before waiting count pos state few has;
          journal = journal;
          at = omega (arith, at, within);
          going = has.going;
        };
        few = omega (arith, most, told);
      } in
      subst (λ t. HasRendered (before ++ waiting) (pos + frames) (length state.returns + (frames * total + length (at_first setting))) (cond t state done)) (sym has.going) here

  -- before a piece

  record At (before rest : List Entry) (pos : ℕ) (state : State) : Type 0 where
    whole : before ++ rest ≡ entries
    done : AllBefore pos before
    left : AllFrom pos rest
    rises : AreRising rest
    stand : EachBehind Stands before rest
    all : AreAccepted nodes before
    has : Has before [] pos state
    few : length state.returns ≤ pos * (length entries + length (at_first setting))

  -- what is put at the start of a piece
  put_there : (before rest : List Entry) (pos : ℕ) → before ++ rest ≡ entries → AllBefore pos before → puts_at pos entries ≡ map put_event (at_sample pos rest)
  put_there before rest pos whole done =
      ap (λ (es : List Entry). map put_event (at_sample pos es)) (sym whole)
      ∙ ap (map put_event) (filter-append (λ (e : Entry). e.sample == pos) before rest ∙ ap (λ (es : List Entry). es ++ at_sample pos rest) (none_at pos before done))

  these_run : (before rest these later : List Entry) (pos : ℕ) (state after : State) → At before rest pos state → rest ≡ these ++ later → MayRun setting (map put_event these) state after
      → HasPut before these later pos state.returns after
  these_run before rest these later pos state after at cut run =
      let same : before ++ [] ≡ before = append-nil before in
      puts_run before [] these later pos state after (subst (AreAccepted nodes) (sym same) at.all)
      (subst (λ (bs : List Entry). EachBehind Stands bs (these ++ later)) (sym same) (subst (EachBehind Stands before) cut at.stand)) at.has run

  piece_run : (before rest : List Entry) (piece : Piece) (pieces : List Piece) (pos : ℕ) (state after : State) → AreTiles samples pos (piece ∷ pieces) → AllByRecursion (IsPlaced samples (piece ∷ pieces)) rest
      → At before rest pos state → MayRun setting (piece_events entries piece) state after
      → At (before ++ at_sample pos rest) (behind pos rest) (pos + piece.length) after × AllByRecursion (IsPlaced samples pieces) (behind pos rest)
  piece_run before rest piece pieces pos state after tiled placed at run =
      let these = at_sample pos rest in
      let later = behind pos rest in
      let cut : rest ≡ these ++ later = cut_at pos rest at.rises at.left in
      let events : puts_at piece.start entries ≡ map put_event these = ap (λ s. puts_at s entries) tiled.0 ∙ put_there before rest pos at.whole at.done in
      let parts = cut_run setting (puts_at piece.start entries) (Audio (length entries) piece.length ∷ []) state after run in
      let between = parts.0 in
      let put = these_run before rest these later pos state between at cut (subst (λ (es : List Event). MayRun setting es state between) events parts.1) in
      let here : AllByRecursion (λ entry. entry.sample ≡ pos) these = filter_passes (λ entry. entry.sample ≡ pos) (λ entry. entry.sample == pos) (λ entry is. eqb-true entry.sample pos is) rest in
      let whole : (before ++ these) ++ later ≡ entries = append_assoc before these later ∙ ap (λ (es : List Entry). before ++ es) (sym cut) ∙ at.whole in
      let long : length ((before ++ these) ++ later) ≡ length entries = ap length whole in
      let one = length-append (before ++ these) later in
      let two = length-append before these in
      let some : 1 ≤ piece.length = tiled.1 in
      let end = ends_behind samples (pos + piece.length) pieces tiled.2 in
      let total = length entries in
      let params = length (at_first setting) in
      let played = audio_one parts.2.1.0 before these total piece.length total pos between here (omega (arith, long, one, two)) end (omega (arith, long, one)) put.has in
      let last : after ≡ next setting parts.2.1.0 (Audio total piece.length) between = parts.2.2 ∙ parts.2.1.1 in
      let rendered : HasRendered (before ++ these) (pos + piece.length) (length between.returns + (piece.length * total + params)) after = subst (HasRendered (before ++ these) (pos + piece.length) (length between.returns + (piece.length * total + params))) (sym last) played in
      let further = placed_behind samples pos piece pieces rest tiled placed in (
        record {
          whole = whole;
          done = all_append (λ entry. entry.sample < pos + piece.length) before these
              (all_weaker (λ entry. entry.sample < pos) (λ entry. entry.sample < pos + piece.length) (λ entry lt. omega (arith, lt)) before at.done)
              (all_weaker (λ entry. entry.sample ≡ pos) (λ entry. entry.sample < pos + piece.length) (λ entry is. omega (arith, is, some)) these here);
          left = further.1;
          rises = filter_rises (λ entry. nat_lt pos entry.sample) rest at.rises;
          stand = put.rest;
          all = put.all;
          has = rendered.has;
          few =
              let most = rendered.few in
              let same : length between.returns ≡ length state.returns = ap length put.same in
              let so_far = at.few in
              let sum = add-mul pos piece.length (total + params) in
              let parts_of = mul-add piece.length total params in
              let once : 1 * params ≤ piece.length * params = mul-le-mul_right params some in
              omega (arith, most, same, so_far, sum, parts_of, once);
        },
        further.0,
      )

  -- the last sample is rendered
  record AtEnd (more : List Event) (after : State) : Type 0 where
    before : List Entry
    rest : List Entry
    state : State
    at : At before rest samples state
    placed : AllByRecursion (IsPlaced samples []) rest
    run : MayRun setting more state after

  pieces_run : (pieces : List Piece) (before rest : List Entry) (pos : ℕ) (state after : State) (more : List Event) → AreTiles samples pos pieces → AllByRecursion (IsPlaced samples pieces) rest → At before rest pos state
      → MayRun setting (flat_map (piece_events entries) pieces ++ more) state after → AtEnd more after
  pieces_run [] before rest pos state after more tiled placed at run = record {
    before = before;
    rest = rest;
    state = state;
    at = subst (λ p. At before rest p state) tiled at;
    placed = placed;
    run = run;
  }
  pieces_run (piece ∷ pieces) before rest pos state after more tiled placed at run =
      let events = flat_map (piece_events entries) pieces ++ more in
      let parts = cut_run setting (piece_events entries piece) events state after (subst (λ (es : List Event). MayRun setting es state after) (append_assoc (piece_events entries piece) (flat_map (piece_events entries) pieces) more) run) in
      let next_ = piece_run before rest piece pieces pos state parts.0 tiled placed at parts.1 in
      pieces_run pieces (before ++ at_sample pos rest) (behind pos rest) (pos + piece.length) parts.0 after more tiled.2 next_.1 next_.0 parts.2

  -- and the machine flushed
  record IsOver (state : State) : Type 0 where
    journal : state.journal ≡ entries
    at : state.pos ≡ samples
    over : state.flushed ≡ true
    flags : All (λ flag. flag ≡ false) state.flags
    few : length state.returns ≤ most_returns setting entries

  unflagged : (old new : List ℕ) (flags : List Bool) (places : List ℕ) → All (λ flag. flag ≡ false) (map (λ place. is_due old new flags place && not (always place)) places)
  unflagged old new flags [] k d lt = absurd (omega (arith, lt))
  unflagged old new flags (place ∷ places) zero d lt = and_false (is_due old new flags place)
  unflagged old new flags (place ∷ places) (suc k) d lt = unflagged old new flags places k d (omega (arith, lt))

  flush_one : (tells : ℕ → Bool) (before rest : List Entry) (state : State) → before ++ rest ≡ entries → AllByRecursion (λ entry. entry.sample ≡ samples) rest → Has before rest samples state
      → length state.returns ≤ samples * (length entries + length (at_first setting)) → IsOver (next setting tells Flush state)
  flush_one tells before rest state whole placed has few =
      let old = seen setting state in
      let count = length state.inbox in
      let taken = take_in count state in
      let settled = settle setting taken in
      let done = tell setting always old settled in
      let total = length entries in
      let params = length (at_first setting) in
      let long : length state.inbox ≡ length rest = ap length has.inbox ∙ length-map rest sent_as in
      let journal : state.journal ++ map (entry_at state.pos) (take count state.inbox) ≡ entries = journal_is before rest count samples state placed (omega (arith, long)) has ∙ whole in
      let told = few_told setting always old settled in
      let replied = length-append state.returns (replies_at setting taken.journal taken.pos) in
      let some = few_replies setting taken.journal taken.pos in
      let all : length taken.journal ≡ total = ap length journal in
      let sum = add-mul samples 1 (total + params) in
      let here : IsOver done = record {
        journal = journal;
        at = has.at;
        over = refl;
        flags = unflagged old (seen setting settled) state.flags (range_with_len 0 (length (seen setting settled)));
        few = omega (arith, told, replied, some, all, sum, few);
      } in
      let ends : is_at_end setting state ≡ true = ap (λ t. not t && (state.pos == samples)) has.going ∙ eq-eqb state.pos samples has.at in
      subst (λ t. IsOver (cond t done state)) (sym ends) here

  placed_at_end : (rest : List Entry) → AllByRecursion (IsPlaced samples []) rest → AllByRecursion (λ entry. entry.sample ≡ samples) rest
  placed_at_end rest placed = all_weaker (IsPlaced samples []) (λ entry. entry.sample ≡ samples) (λ entry is. elim is [
    | inl last ↦ last
    | inr none ↦ absurd none
  ]) rest placed

  record HasCome (state : State) : Type 0 where
    journal : state.journal ≡ entries
    at : state.pos ≡ samples
    over : state.flushed ≡ true
    flags : All (λ flag. flag ≡ false) state.flags
    back : state.returns ≡ []

  end_run : (after : State) → AtEnd (puts_at samples entries ++ Flush ∷ Back (most_returns setting entries) ∷ []) after → HasCome after
  end_run after end =
      let placed = placed_at_end end.rest end.placed in
      let at = end.at in
      let cut : end.rest ≡ end.rest ++ [] = sym (append-nil end.rest) in
      let events : puts_at samples entries ≡ map put_event end.rest = put_there end.before end.rest samples at.whole at.done ∙ ap (map put_event) (all_at samples end.rest placed) in
      let parts = cut_run setting (puts_at samples entries) (Flush ∷ Back (most_returns setting entries) ∷ []) end.state after end.run in
      let put = these_run end.before end.rest end.rest [] samples end.state parts.0 at cut (subst (λ (es : List Event). MayRun setting es end.state parts.0) events parts.1) in
      let same : length parts.0.returns ≡ length end.state.returns = ap length put.same in
      let few = at.few in
      let flushed : IsOver parts.2.0 = subst IsOver (sym parts.2.1.1) (flush_one parts.2.1.0 end.before end.rest parts.0 at.whole placed put.has (omega (arith, same, few))) in
      let last : after ≡ next setting parts.2.2.1.0 (Back (most_returns setting entries)) parts.2.0 = parts.2.2.2 ∙ parts.2.2.1.1 in
      subst HasCome (sym last) (record {
        journal = flushed.journal;
        at = flushed.at;
        over = flushed.over;
        flags = flushed.flags;
        back = drop_of_length-le parts.2.0.returns flushed.few;
      })

  -- so it comes to the journal
  all_run : (after : State) → AreTiles samples 0 (pieces_of samples setting.session.pattern []) → AllByRecursion (IsPlaced samples (pieces_of samples setting.session.pattern [])) entries → AreRising entries
      → EachBehind Stands [] entries → MayRun setting (played setting entries) (begun setting) after → HasCome after
  all_run after tiled placed rises stand run =
      let start : At [] entries 0 (begun setting) = record {
        whole = refl;
        done = tt;
        left = all_zero entries;
        rises = rises;
        stand = stand;
        all = λ editor. refl;
        has = record { puts = refl; inbox = refl; journal = refl; at = refl; going = refl };
        few = omega arith;
      } in
      let pieces = pieces_of samples setting.session.pattern [] in
      let last : List Event = Flush ∷ Back (most_returns setting entries) ∷ [] in
      let more = puts_at samples entries ++ last in
      let whole : MayRun setting (flat_map (piece_events entries) pieces ++ more) (begun setting) after =
      subst (λ (es : List Event). MayRun setting es (begun setting) after) (append_assoc (flat_map (piece_events entries) pieces) (puts_at samples entries) last) run in
      end_run after (pieces_run (pieces_of samples setting.session.pattern []) [] entries 0 (begun setting) after more tiled placed start whole)

placed_in : (samples : ℕ) (pattern : List ℕ) (entry : Entry) → IsAtBlock samples pattern entry.sample → IsPlaced samples (pieces_of samples pattern []) entry
placed_in samples pattern entry is = elim is [
  | inl last ↦ inl last
  | inr starts ↦ inr (among (starts_of (pieces_of samples pattern [])) entry.sample starts)
]

pub law_events : LegalIsJournal → PiecesLieEndToEnd → Events
law_events journal_ lie session class_of codes firsts input entries after legal run =
    let setting = setting_of session class_of codes firsts input in
    let content = content_of session in
    let pieces = pieces_of session.length content.pattern [] in
    let come = all_run setting entries after (tiles session.length content.pattern [] 0 0 pieces (lie session.length content.pattern [] (is_pattern session)))
    (all_weaker (λ entry. IsAtBlock session.length content.pattern entry.sample) (IsPlaced session.length pieces) (placed_in session.length content.pattern) entries
    (recursion_from_All (λ (entry : Entry). IsAtBlock session.length content.pattern entry.sample) entries legal.blocks))
    (rising entries legal.rising) (journal_ session entries legal) run in
    let sound = law_sound_after_events setting (played setting entries) after run in
    let long = length-map-range_with_len (out_at (scene_in setting) input entries) 0 session.length in
    record {
      journal = come.journal;
      frames =
          sound.frames.frames
          ∙ ap (λ n. take n (rendering (scene_in setting) input after.journal)) come.at
          ∙ ap (λ (h : List Entry). take session.length (rendering (scene_in setting) input h)) come.journal
          ∙ take_all session.length (rendering (scene_in setting) input entries) (omega (arith, long));
      controllers =
          all_back setting after sound.values come.back come.flags
          ∙ ap (λ t. cond t (last_values (scene_in setting) input after.journal) (seen_before (scene_in setting) input after.journal after.pos)) come.over
          ∙ ap (last_values (scene_in setting) input) come.journal;
    }
