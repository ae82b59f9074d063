-- Lanes that are written are read.
use Rattle.std.proofs.Common.{◌≡◌, ◌∙◌, ℕ, ◌+◌, ◌-◌, ◌<◌, ◌≤◌, ◌^◌, Bool, true, List, [], ◌∷◌, ◌++◌, map, length, get_or, refl, sym, ap, subst, arith, Option, Ok}
use Rattle.std.specs.Prelude.{All, codes, nat_le}
use Rattle.std.specs.Fmt.{decimal}
use Rattle.std.proofs.lemmas.Bool.{and_from, le-leb}
use Rattle.std.proofs.lemmas.List.{append_assoc, append-nil, length-append, get_or_append_left, get_or-append_right}
use Rattle.std.proofs.lemmas.List.Elements.{All-tail}
use Rattle.vh_lane.specs.Values.{AreBreaks}
use Rattle.vh_params.specs.declared.class.ClassInfo.{ClassInfo}
use Rattle.vh_session.specs.Content.{Content}
use Rattle.vh_session.specs.Entry.{Draft, LaneText, LaneLine, PointLine, with_entry, with_last, with_break, no_lane, last_lane}
use Rattle.vh_session.specs.Lines.{one, line_of_words, lane_line, point_line}
use Rattle.vh_text.specs.Numbers.{is_within}
use Rattle.vh_session.specs.Text.{lane_with, lane_words, lanes_words, point_words, name_of}
use Rattle.vh_session.specs.Keeps.{EachBehind, IsNodeBehind, IsLaneBehind, is_automated, buses_of}
use Rattle.vh_text.specs.Tokens.{IsWord}
use Rattle.vh_session.proofs.Found.{node_found, automated_found, is_small}
use Rattle.vh_session.proofs.Goes.{Goes, with_lines, goes_none, goes_on_to, goes_line, goes_same}
use Rattle.vh_session.proofs.NodesBack.{state}
use Rattle.vh_text.proofs.Numerals.{number_word}
use Rattle.vh_session.proofs.PartsNamed.{node_there}
use Rattle.vh_session.proofs.PresetsBack.{named_word}
use Rattle.vh_session.proofs.Says.{lane_says, point_says, within_small}
use Rattle.vh_text.proofs.WordsOf.{code_word, no_words, one_more}

pub last_put : {A : Type 0} (f : A → A) (xs : List A) (x : A) → with_last f (xs ++ x ∷ []) ≡ xs ++ f x ∷ []
last_put f [] x = refl
last_put f (y ∷ []) x = refl
last_put f (y ∷ (z ∷ zs)) x = ap (λ ys. y ∷ ys) (last_put f (z ∷ zs) x)

last_is : (lanes : List LaneText) (lane : LaneText) → last_lane (lanes ++ lane ∷ []) ≡ lane
last_is lanes lane =
    let long = length-append lanes (lane ∷ []) in
    ap (λ n. get_or (lanes ++ lane ∷ []) n no_lane) (let e : length (lanes ++ lane ∷ []) - 1 ≡ length lanes = omega (arith, long) in e)
    ∙ get_or-append_right lanes (lane ∷ []) (length lanes) (length lanes) no_lane refl (omega arith)
    ∙ ap (λ n. get_or (lane ∷ []) n no_lane) (let z : length lanes - length lanes ≡ 0 = omega arith in z)

one_within : (v : ℕ) → v ≤ 2 ^ 24 → is_within 0 one v ≡ true
one_within v le = and_from (nat_le 0 v) (nat_le v one) (le-leb 0 v (omega arith)) (le-leb v one (omega (arith, le)))

abbrev lane_of : LaneText → List (ℕ × ℕ) → LaneText
lane_of lane breaks = record { node = lane.node; id = lane.id; grain = lane.grain; breaks = breaks }

abbrev pub lanes_state : List ClassInfo → Content → List (Option (List ℕ)) → List (List (ℕ × ℕ)) → List LaneText → Bool → Draft
lanes_state known content presets firsts lanes in_lane = state content content.nodes (buses_of known content.nodes) presets firsts content.wires lanes in_lane [] 0

module _ (known : List ClassInfo) (content : Content) (presets : List (Option (List ℕ))) (firsts : List (List (ℕ × ℕ))) where
  abbrev at : List LaneText → Bool → Draft
  at lanes in_lane = lanes_state known content presets firsts lanes in_lane

  points_go : (before : List LaneText) (lane : LaneText) (done points : List (ℕ × ℕ)) → 0 < length done → AreBreaks (done ++ points) → All (λ break. is_within 0 16777216 break.0 ≡ true) points
      → Goes known (map point_words points) (at (before ++ lane_of lane done ∷ []) true) (at (before ++ lane_of lane (done ++ points) ∷ []) true)
  points_go before lane done [] some are samples = goes_same known [] (at (before ++ lane_of lane done ∷ []) true) (at (before ++ lane_of lane done ∷ []) true) (at (before ++ lane_of lane (done ++ []) ∷ []) true) (ap (λ bs. at (before ++ lane_of lane bs ∷ []) true) (sym (append-nil done))) (goes_none known (at (before ++ lane_of lane done ∷ []) true))
  points_go before lane done (point ∷ points) some are samples =
      let all = done ++ (point ∷ points) in
      let n = length done in
      let long = length-append done (point ∷ points) in
      let here : get_or all n (0, 0) ≡ point = get_or-append_right done (point ∷ points) n n (0, 0) refl (omega arith) ∙ (let z : n - n ≡ 0 = omega arith in ap (λ m. get_or (point ∷ points) m (0, 0)) z) in
      let was : get_or all (n - 1) (0, 0) ≡ get_or done (n - 1) (0, 0) = get_or_append_left done (point ∷ points) (0, 0) (n - 1) (omega (arith, some)) in
      let rise = are.rise (n - 1) n (0, 0) (omega (arith, some)) (omega (arith, long)) in
      let rises : (get_or done (n - 1) (0, 0)).0 < point.0 = subst (λ (b : ℕ × ℕ). b.0 < point.0) was (subst (λ (b : ℕ × ℕ). (get_or all (n - 1) (0, 0)).0 < b.0) here rise) in
      let value : point.1 ≤ 2 ^ 24 = subst (λ (b : ℕ × ℕ). b.1 ≤ 2 ^ 24) here (are.within n (0, 0) (omega (arith, long))) in
      let most = are.most in
      let few : n < 4096 = omega (arith, long, most) in
      let sample = samples 0 point (omega arith) in
      let lanes = before ++ lane_of lane done ∷ [] in
      let same = last_is before (lane_of lane done) in
      let words = one_more (codes "point") (decimal point.0 ∷ decimal point.1 ∷ []) (code_word (codes "point") refl) (one_more (decimal point.0) (decimal point.1 ∷ []) (number_word point.0 (within_small 0 16777216 point.0 (omega arith) sample)) (one_more (decimal point.1) [] (number_word point.1 (omega (arith, value))) no_words)) in
      let says : (stand : List ℕ) → line_of_words known (with_lines stand (at lanes true)) (point_words point) ≡ Ok (PointLine point.0 point.1) = λ stand.
      (point_says (with_lines stand (at lanes true)) point.0 point.1 refl sample (one_within point.1 value) (subst (λ (l : LaneText). (get_or l.breaks (length l.breaks - 1) (0, 0)).0 < point.0) (sym same) rises) (subst (λ (l : LaneText). length l.breaks < 4096) (sym same) few)) in
      let first = goes_same known (point_words point ∷ []) (at lanes true) (with_entry 0 (PointLine point.0 point.1) (at lanes true)) (at (before ++ lane_of lane (done ++ point ∷ []) ∷ []) true) (ap (λ ls. at ls true) (last_put (with_break (point.0, point.1)) before (lane_of lane done))) (goes_line known (point_words point) (at lanes true) (PointLine point.0 point.1) words refl says) in
      let regroup = append_assoc done (point ∷ []) points in
      let more = length-append done (point ∷ []) in
      let rest = points_go before lane (done ++ point ∷ []) points (omega (arith, more)) (subst AreBreaks (sym regroup) are) (All-tail (λ break. is_within 0 16777216 break.0 ≡ true) point points samples) in
      goes_same known (map point_words (point ∷ points)) (at lanes true) (at (before ++ lane_of lane ((done ++ point ∷ []) ++ points) ∷ []) true) (at (before ++ lane_of lane all ∷ []) true) (ap (λ bs. at (before ++ lane_of lane bs ∷ []) true) regroup)
      (goes_on_to known (point_words point ∷ []) (map point_words points) (at lanes true) (at (before ++ lane_of lane (done ++ point ∷ []) ∷ []) true) (at (before ++ lane_of lane ((done ++ point ∷ []) ++ points) ∷ []) true) first rest)

  lane_go : (before : List LaneText) (lane : LaneText) (breaks : List (ℕ × ℕ)) (in_lane : Bool) → EachBehind IsNodeBehind [] content.nodes → IsLaneBehind content.nodes before (lane_of lane breaks) → length before < 256
      → Goes known (lane_with content.nodes lane breaks) (at before in_lane) (at (before ++ lane_of lane breaks ∷ []) true)
  lane_go before lane [] in_lane named stands few = absurd (let some = stands.breaks.some in omega (arith, some))
  lane_go before lane (break ∷ breaks) in_lane named stands few =
      let nodes = content.nodes in
      let node = lane.node in
      let lt = node_there is_automated nodes node lane.id refl stands.param in
      let param = automated_found nodes node lane.id stands.param stands.id in
      let sample = stands.samples 0 break (omega arith) in
      let value = stands.breaks.within 0 break (omega arith) in
      let name = name_of nodes node in
      let line = codes "lane" ∷ name ∷ decimal lane.id ∷ decimal lane.grain ∷ decimal break.0 ∷ decimal break.1 ∷ [] in
      let words : All IsWord line = one_more (codes "lane") (name ∷ decimal lane.id ∷ decimal lane.grain ∷ decimal break.0 ∷ decimal break.1 ∷ []) (code_word (codes "lane") refl) (one_more name (decimal lane.id ∷ decimal lane.grain ∷ decimal break.0 ∷ decimal break.1 ∷ []) (named_word nodes node named lt) (one_more (decimal lane.id) (decimal lane.grain ∷ decimal break.0 ∷ decimal break.1 ∷ []) (number_word lane.id (is_small lane.id stands.id)) (one_more (decimal lane.grain) (decimal break.0 ∷ decimal break.1 ∷ []) (number_word lane.grain (within_small 0 24 lane.grain (omega arith) stands.grain)) (one_more (decimal break.0) (decimal break.1 ∷ []) (number_word break.0 (within_small 0 16777216 break.0 (omega arith) sample)) (one_more (decimal break.1) [] (number_word break.1 (omega (arith, value))) no_words))))) in
      let says : (stand : List ℕ) → line_of_words known (with_lines stand (at before in_lane)) line ≡ Ok (LaneLine node lane.id lane.grain break.0 break.1) = λ stand.
      (lane_says (with_lines stand (at before in_lane)) name node lane.id lane.grain break.0 break.1 param.0 (node_found nodes node named lt) param.1 param.2 param.3 stands.grain sample (one_within break.1 value) stands.new few) in
      let first = goes_line known line (at before in_lane) (LaneLine node lane.id lane.grain break.0 break.1) words refl says in
      goes_on_to known (line ∷ []) (map point_words breaks) (at before in_lane) (at (before ++ lane_of lane (break ∷ []) ∷ []) true) (at (before ++ lane_of lane (break ∷ breaks) ∷ []) true) first (points_go before lane (break ∷ []) breaks (omega arith) stands.breaks (All-tail (λ break. is_within 0 16777216 break.0 ≡ true) break breaks stands.samples))

  pub lanes_go : (before lanes : List LaneText) (in_lane : Bool) → EachBehind IsNodeBehind [] content.nodes → EachBehind (IsLaneBehind content.nodes) before lanes → length before + length lanes ≤ 256
      → (in_now : Bool) × Goes known (lanes_words content.nodes lanes) (at before in_lane) (at (before ++ lanes) in_now)
  lanes_go before [] in_lane named each few = (in_lane, goes_same known [] (at before in_lane) (at before in_lane) (at (before ++ []) in_lane) (ap (λ ls. at ls in_lane) (sym (append-nil before))) (goes_none known (at before in_lane)))
  lanes_go before (lane ∷ lanes) in_lane named each few =
      let long = length-append before (lane ∷ []) in
      let first = lane_go before lane lane.breaks in_lane named each.0 (omega (arith, few)) in
      let rest = lanes_go (before ++ lane ∷ []) lanes true named each.1 (omega (arith, few, long)) in (
        rest.0,
        goes_same known (lanes_words content.nodes (lane ∷ lanes)) (at before in_lane) (at ((before ++ lane ∷ []) ++ lanes) rest.0) (at (before ++ (lane ∷ lanes)) rest.0) (ap (λ ls. at ls rest.0) (append_assoc before (lane ∷ []) lanes))
            (goes_on_to known (lane_words content.nodes lane) (lanes_words content.nodes lanes) (at before in_lane) (at (before ++ lane ∷ []) true) (at ((before ++ lane ∷ []) ++ lanes) rest.0) first rest.1),
      )
