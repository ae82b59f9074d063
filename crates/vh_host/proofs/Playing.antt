-- How what was played ends.
use Rattle.std.proofs.Common.{◌≡◌, ◌∙◌, ℕ, ◌+◌, ◌*◌, ◌^◌, ◌<◌, ◌≤◌, List, [], ◌∷◌, length, map, replicate, sum, get_or, ◌⊎◌, inl, inr, refl, sym, ap, subst, arith}
use Rattle.std.specs.Prelude.{All, slice_index_or}
use Rattle.std.proofs.lemmas.List.Elements.{All-nil}
use Rattle.vh_files.specs.Causes.{Rose}
use Rattle.vh_files.specs.Store.{told, HasNow, SaysMore, SaysInPart}
use Rattle.vh_num.specs.Frames.{Frame}
use Rattle.vh_plugin.specs.Class.{Class}
use Rattle.vh_plugin.specs.Counts.{raised_by}
use Rattle.vh_wav.specs.Text.{wav_text}
use Rattle.vh_cut.specs.Cut.{pieces_of}
use Rattle.vh_journal.specs.declared.entry.Entry.{Entry}
use Rattle.vh_session.specs.Content.{Content}
use Rattle.vh_meaning.specs.Scene.{Scene}
use Rattle.vh_meaning.specs.World.{silence}
use Rattle.vh_meaning.specs.Rendering.{Answer, rendering, last_values, answers, stops}
use Rattle.vh_engine.specs.Kept.{Kept, scene_in, Stands}
use Rattle.vh_render.specs.declared.score.Score.{Score}
use Rattle.vh_render.specs.Playing.{IsScoreOf, IsPlaying, HasPart, file_text, piece_count}
use Rattle.vh_answers.specs.declared.status.Place.TheVariants.{Output as OutputPlace, Report}
use Rattle.vh_answers.specs.declared.status.Status.TheVariants as status
use Rattle.vh_answers.specs.Outside.{Store, Outside}
use Rattle.vh_answers.specs.Report.{report_text}
use Rattle.vh_answers.specs.Steps.{IsWhole, EndsUnsaid, Done, Cut, Unsaid}
use Rattle.vh_host.specs.Words.{Render}
use Rattle.vh_host.specs.Input.{Heard}
use Rattle.vh_host.specs.Scores.{IsScore}
use Rattle.vh_host.specs.Commands as commands
use Rattle.vh_host.proofs.Calls.{few_pieces, called_each}

-- of one element
one : {A : Type 0} (P : A → Type 0) (x : A) → P x → All P (x ∷ [])
one P x holds = λ k d lt. let z : k ≡ 0 = omega (arith, lt) in subst (λ j. P (get_or (x ∷ []) j d)) (sym z) holds

-- an engine stands for what is heard
pub plays : (class_of : ℕ → Class) (kept : Kept) (asked : Render) (heard : Heard) (output : List ℕ) (score : Score)
    → IsScore asked kept.session heard output score → ((input : List Frame) → Stands class_of kept input []) → IsPlaying class_of kept score.sound.now heard.frames []
plays class_of kept asked heard output score is stands = record {
  stands = stands heard.frames;
  sound_is = λ place lt. let z : 0 + place ≡ place = omega arith in
      is.sound.samples_are place lt ∙ ap (λ k. slice_index_or heard.frames k (silence kept.session.channels)) (sym z);
}

-- the file that is played is the one that the command writes
pub same_text : (class_of : ℕ → Class) (kept : Kept) (asked : Render) (heard : Heard) (output : List ℕ) (score : Score)
    → IsScore asked kept.session heard output score
    → file_text (scene_in class_of kept) heard.frames score ≡ wav_text kept.session.channels heard.rate kept.session.bits (rendering (scene_in class_of kept) heard.frames score.entries.now)
same_text class_of kept asked heard output score is =
    let frames : List Frame = rendering (scene_in class_of kept) heard.frames score.entries.now in
    ap (λ rate. wav_text kept.session.channels rate score.bits frames) is.sound.rate_is ∙ ap (λ bits. wav_text kept.session.channels heard.rate bits frames) is.bits

-- and it has the command's pieces
pub same_pieces : (kept : Kept) (asked : Render) (heard : Heard) (output : List ℕ) (score : Score)
    → IsScore asked kept.session heard output score → IsScoreOf kept score → piece_count score ≡ commands.piece_count asked.block kept.session score.entries.now
same_pieces kept asked heard output score is of_it =
    ap (λ n. length (pieces_of n score.pattern.now score.stops.now)) of_it.samples
    ∙ ap (λ (pattern : List ℕ). length (pieces_of kept.session.length pattern score.stops.now)) is.pattern
    ∙ ap (λ (at : List ℕ). length (pieces_of kept.session.length (commands.pattern_of asked.block kept.session) at)) of_it.stops_are

-- the output failed
pub cut_short : (Counts : ℕ → Type 0) (o : Outside) (scene : Scene) (modes : List ℕ) (asked : Render) (content : Content) (heard : Heard) (entries : List Entry) (output text : List ℕ)
    → output ≡ asked.output → text ≡ wav_text content.channels heard.rate content.bits (rendering scene heard.frames entries)
    → (o.new.held ≡ o.old.held) ⊎ HasPart o.old.complete (told o.new.held output) text → Rose o.old.writes o.new.writes → o.said_now.text ≡ o.said.text
    → EndsUnsaid Counts o (commands.played_steps scene modes asked content heard entries) (status.WriteFault OutputPlace)
cut_short Counts o scene modes asked content heard entries output text named e (inl same) rose unsaid =
    Cut OutputPlace refl tt (inl (refl, (λ apart. inl (ap (λ held. told held asked.output) same)), All-nil _)) rose unsaid
cut_short Counts o scene modes asked content heard entries output text named e (inr part) rose unsaid =
    let here : HasPart o.old.complete (told o.new.held asked.output) (wav_text content.channels heard.rate content.bits (rendering scene heard.frames entries)) =
    subst (λ t. HasPart o.old.complete (told o.new.held asked.output) t) e (subst (λ name. HasPart o.old.complete (told o.new.held name) text) named part) in
    Cut OutputPlace refl tt (inl (refl, (λ apart. inr here), All-nil _)) rose unsaid

-- the file is whole
whole : (old new : Store) (scene : Scene) (asked : Render) (content : Content) (heard : Heard) (entries : List Entry) (output text : List ℕ)
    → output ≡ asked.output → text ≡ wav_text content.channels heard.rate content.bits (rendering scene heard.frames entries)
    → HasNow old.complete (told new.held output) text → All (IsWhole old new) (commands.rendered scene asked content heard entries ∷ [])
whole old new scene asked content heard entries output text named e has =
    one (IsWhole old new) (commands.rendered scene asked content heard entries) (λ apart.
    subst (λ t. HasNow old.complete (told new.held asked.output) t) e (subst (λ name. HasNow old.complete (told new.held name) text) named has))

-- the report failed
pub unsaid : (Counts : ℕ → Type 0) (o : Outside) (scene : Scene) (modes : List ℕ) (asked : Render) (content : Content) (heard : Heard) (entries : List Entry) (output text report : List ℕ)
    → output ≡ asked.output → text ≡ wav_text content.channels heard.rate content.bits (rendering scene heard.frames entries)
    → HasNow o.old.complete (told o.new.held output) text → report ≡ commands.reported scene modes asked content heard entries
    → SaysInPart o.said.text o.said_now.text report → Rose o.said.faults o.said_now.faults
    → EndsUnsaid Counts o (commands.played_steps scene modes asked content heard entries) (status.WriteFault Report)
unsaid Counts o scene modes asked content heard entries output text report named e has says part rose =
    Unsaid refl (whole o.old o.new scene asked content heard entries output text named e has, subst (λ t. SaysInPart o.said.text o.said_now.text t) says part) rose

-- all was written and said
pub done : (Counts : ℕ → Type 0) (o : Outside) (scene : Scene) (modes : List ℕ) (asked : Render) (content : Content) (heard : Heard) (entries : List Entry) (output text report : List ℕ)
    → output ≡ asked.output → text ≡ wav_text content.channels heard.rate content.bits (rendering scene heard.frames entries)
    → HasNow o.old.complete (told o.new.held output) text → report ≡ commands.reported scene modes asked content heard entries
    → SaysMore o.said.text o.said_now.text report → Counts (commands.calls_of asked content entries)
    → EndsUnsaid Counts o (commands.played_steps scene modes asked content heard entries) status.Ok
done Counts o scene modes asked content heard entries output text report named e has says more counts =
    Done refl (whole o.old o.new scene asked content heard entries output text named e has, subst (λ t. SaysMore o.said.text o.said_now.text t) says more, counts)

-- the report that is said is the command's
pub same_report : (scene : Scene) (asked : Render) (content now : Content) (heard : Heard) (entries : List Entry) (values shown modes : List ℕ) (pieces : ℕ) (given : List Answer)
    → now ≡ content → values ≡ last_values scene heard.frames entries → shown ≡ modes → pieces ≡ commands.piece_count asked.block content entries
    → given ≡ answers scene heard.frames entries → report_text now values shown pieces given [] ≡ commands.reported scene modes asked content heard entries
same_report scene asked content now heard entries values shown modes pieces given now_is values_are modes_are count answers_are =
    ap (λ (c : Content). report_text c values shown pieces given []) now_is
    ∙ ap (λ (v : List ℕ). report_text content v shown pieces given []) values_are
    ∙ ap (λ (m : List ℕ). report_text content (last_values scene heard.frames entries) m pieces given []) modes_are
    ∙ ap (λ (n : ℕ). report_text content (last_values scene heard.frames entries) modes n given []) count
    ∙ ap (λ (a : List Answer). report_text content (last_values scene heard.frames entries) modes (commands.piece_count asked.block content entries) a []) answers_are

-- all processors were called once for each piece and once more
pub calls_are : (asked : Render) (content : Content) (entries : List Entry) (pieces n : ℕ) (old new : List ℕ)
    → n ≡ length content.nodes → old ≡ replicate n 0 → new ≡ map (raised_by (pieces + 1)) old → pieces ≡ commands.piece_count asked.block content entries → content.length < 2 ^ 32
    → sum new ≡ commands.calls_of asked content entries
calls_are asked content entries pieces n old new long old_is new_is count most =
    let few : commands.piece_count asked.block content entries ≤ content.length = few_pieces content.length (commands.pattern_of asked.block content) (stops entries) in
    ap sum new_is ∙ ap (λ (c : List ℕ). sum (map (raised_by (pieces + 1)) c)) old_is ∙ called_each (pieces + 1) n (omega (arith, few, count, most))
    ∙ ap (λ k. k * (pieces + 1)) long ∙ ap (λ k. length content.nodes * (k + 1)) count
