-- A file that grows piece by piece.
use Rattle.std.proofs.Common.{◌≡◌, ◌∙◌, ℕ, ◌+◌, ◌-◌, Bool, List, ◌++◌, map, Option, sym, ap, subst, arith}
use Rattle.std.specs.List.{range_with_len}
use Rattle.vh_cut.specs.declared.piece.Piece.{Piece}
use Rattle.vh_files.specs.Store.{Grows, GrowsInPart}
use Rattle.vh_num.specs.Frames.{Frame}
use Rattle.vh_plugin.specs.Class.{Class}
use Rattle.vh_wav.specs.Text.{frames_text}
use Rattle.vh_meaning.specs.Scene.{Scene}
use Rattle.vh_meaning.specs.Rendering.{rendering, out_at}
use Rattle.vh_engine.specs.Kept.{Kept, scene_in, IsSameEngine}
use Rattle.vh_engine.proofs.Rooms.{same_scene}
use Rattle.vh_render.specs.declared.room.Room.{Room}
use Rattle.vh_render.specs.declared.score.Score.{Score}
use Rattle.vh_render.specs.Playing.{HasRoom, IsScoreOf}
use Rattle.vh_render.proofs.Cuts.{IsPieceAt, start_in}
use Rattle.vh_render.proofs.Texts.{text_more, grows_more, grows_in_part}

-- the bytes of so many frames of a rendering, from a sample on
abbrev pub text_from : (ℕ → Class) → Kept → List Frame → Score → ℕ → ℕ → List ℕ
text_from class_of kept input score at n = frames_text score.bits (map (out_at (scene_in class_of kept) input score.entries.now) (range_with_len at n))

module _ (class_of : ℕ → Class) (old now : Kept) (input : List Frame) (score : Score) (i : ℕ) (piece : Piece) (complete still : Bool) (before mid after : Option (List ℕ))
    (same : IsSameEngine old now) (here : IsPieceAt score i piece) (whole : still ≡ complete) where
  piece_text : text_from class_of now input score piece.start piece.length ≡ text_from class_of old input score (start_in score i) piece.length
  piece_text =
      ap (λ (scene : Scene). frames_text score.bits (map (out_at scene input score.entries.now) (range_with_len piece.start piece.length))) (same_scene class_of old now same)
      ∙ ap (λ at. text_from class_of old input score at piece.length) here.start

  both : text_from class_of old input score 0 (start_in score i) ++ text_from class_of now input score piece.start piece.length ≡ text_from class_of old input score 0 (start_in score (i + 1))
  both =
      let end : start_in score i + piece.length ≡ start_in score (i + 1) = ap (λ at. at + piece.length) (sym here.start) ∙ sym here.more in
      ap (λ (l : List ℕ). text_from class_of old input score 0 (start_in score i) ++ l) piece_text
      ∙ text_more score.bits (out_at (scene_in class_of old) input score.entries.now) (start_in score i) piece.length (start_in score (i + 1)) end

  -- by a piece more
  pub piece_grows : Grows complete before mid (text_from class_of old input score 0 (start_in score i)) → Grows still mid after (text_from class_of now input score piece.start piece.length)
      → Grows complete before after (text_from class_of old input score 0 (start_in score (i + 1)))
  piece_grows grown more =
      let P : List ℕ → Type 0 = λ l. Grows complete before after l in
      subst P both (grows_more complete still before mid after (text_from class_of old input score 0 (start_in score i)) (text_from class_of now input score piece.start piece.length) whole grown more)

  -- or by a part of it
  pub piece_grows_in_part : IsScoreOf old score → Grows complete before mid (text_from class_of old input score 0 (start_in score i)) → GrowsInPart still mid after (text_from class_of now input score piece.start piece.length)
      → GrowsInPart complete before after (frames_text score.bits (rendering (scene_in class_of old) input score.entries.now))
  piece_grows_in_part of grown part =
      let past : ℕ = start_in score (i + 1) in
      let within = here.within in
      let more = here.more in
      let samples = of.samples in
      let end : past + (old.session.length - past) ≡ old.session.length = omega (arith, within, more, samples) in
      let all : (text_from class_of old input score 0 (start_in score i) ++ text_from class_of now input score piece.start piece.length) ++ text_from class_of old input score past (old.session.length - past)
      ≡ frames_text score.bits (rendering (scene_in class_of old) input score.entries.now) =
      ap (λ (l : List ℕ). l ++ text_from class_of old input score past (old.session.length - past)) both
      ∙ text_more score.bits (out_at (scene_in class_of old) input score.entries.now) past (old.session.length - past) old.session.length end in
      grows_in_part complete still before mid after (text_from class_of old input score 0 (start_in score i)) (text_from class_of now input score piece.start piece.length)
      (text_from class_of old input score past (old.session.length - past)) (frames_text score.bits (rendering (scene_in class_of old) input score.entries.now)) whole all grown part

-- room is room for an engine of the same session
pub room_same : (old new : Kept) (room : Room) → IsSameEngine old new → HasRoom old.session.channels old.max room → HasRoom new.session.channels new.max room
room_same old new room same has =
    let P : ℕ → Type 0 = λ c. HasRoom c new.max room in
    let Q : ℕ → Type 0 = λ m. HasRoom old.session.channels m room in
    subst P (ap (λ s. s.channels) (sym same.session)) (subst Q (sym same.max) has)

pub room_back : (old new : Kept) (room : Room) → IsSameEngine old new → HasRoom new.session.channels new.max room → HasRoom old.session.channels old.max room
room_back old new room same has =
    let P : ℕ → Type 0 = λ c. HasRoom c old.max room in
    let Q : ℕ → Type 0 = λ m. HasRoom new.session.channels m room in
    subst P (ap (λ s. s.channels) same.session) (subst Q same.max has)
