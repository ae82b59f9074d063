-- Marks that are read one after the other, where what was read is written over.
use mir.Val.{to_z, of_z}
use Rattle.std.proofs.Common.{w32, true, false, refl, ◌≡◌, ◌≢◌, ℕ, ◌+◌, ◌/◌, ◌≤◌, nat_le, [], ◌∷◌, Bool, ℤ, pos, List, set, get_or, ap, sym, ◌∙◌, arith}
use Rattle.std.proofs.lemmas.List.{get_or-set_other}
use Rattle.vh_num.specs.Frames.{Frame}
use Rattle.vh_plugin.specs.Runs.{mono, stereo, aux_mono, aux_stereo}
use Rattle.vh_builtin.specs.Gate.{is_loud, key_of}
use Rattle.vh_builtin.specs.Frames.{loudest}
use Rattle.vh_builtin.specs.Marks.{mark_of, loud_at, AreMarked}

behind : (i k : ℕ) → i + 1 ≤ k → k ≢ i
behind i k le same = absurd (omega (arith, le, same))

pub marks_left : (loud : ℕ → Bool) (i end : ℕ) (marks : List ℤ) (y : ℤ) → AreMarked loud i end marks → AreMarked loud (i + 1) end (set marks i y)
marks_left loud i end marks y are place le lt = get_or-set_other marks i place y (pos 0) (behind i place le) ∙ are place (omega (arith, le)) lt

pub marks_alike : (loud other : ℕ → Bool) (i end : ℕ) (marks : List ℤ) → ((place : ℕ) → loud place ≡ other place) → AreMarked loud i end marks → AreMarked other i end marks
marks_alike loud other i end marks same are place le lt = are place le lt ∙ ap mark_of (same place)

-- which frames a gate hears as loud
abbrev pub mono_loud : ℕ → List ℤ → List ℤ → ℕ → Bool
mono_loud threshold main aux place = is_loud threshold (key_of (mono main place) (aux_mono aux place))

abbrev pub stereo_loud : ℕ → List ℤ → List ℤ → List ℤ → List ℤ → ℕ → Bool
stereo_loud threshold left right aux_left aux_right place = is_loud threshold (key_of (stereo left right place) (aux_stereo aux_left aux_right place))

one_loud : (threshold : ℕ) (x : ℤ) → is_loud threshold (x ∷ x ∷ []) ≡ is_loud threshold (x ∷ [])
one_loud threshold x = ap (λ n. nat_le (threshold / 2) n) (let e : loudest (x ∷ x ∷ []) ≡ loudest (x ∷ []) = omega arith in e)

pub marked_mono : (threshold : ℕ) (main aux key : List ℤ) (end : ℕ) (marks : List ℤ) → ((place : ℕ) → key_of (mono main place) (aux_mono aux place) ≡ mono key place)
    → AreMarked (loud_at threshold key key) 0 end marks → AreMarked (mono_loud threshold main aux) 0 end marks
marked_mono threshold main aux key end marks is are = marks_alike (loud_at threshold key key) (mono_loud threshold main aux) 0 end marks
    (λ place. one_loud threshold (get_or key place (pos 0)) ∙ ap (λ (k : Frame). is_loud threshold k) (sym (is place))) are

pub marked_stereo : (threshold : ℕ) (left right aux_left aux_right key key_right : List ℤ) (end : ℕ) (marks : List ℤ)
    → ((place : ℕ) → key_of (stereo left right place) (aux_stereo aux_left aux_right place) ≡ stereo key key_right place)
    → AreMarked (loud_at threshold key key_right) 0 end marks → AreMarked (stereo_loud threshold left right aux_left aux_right) 0 end marks
marked_stereo threshold left right aux_left aux_right key key_right end marks is are =
    marks_alike (loud_at threshold key key_right) (stereo_loud threshold left right aux_left aux_right) 0 end marks
    (λ place. ap (λ (k : Frame). is_loud threshold k) (sym (is place))) are

pub marks_fit : (loud : Bool) → to_z w32 (of_z w32 (mark_of loud)) ≡ mark_of loud
marks_fit true = refl
marks_fit false = refl
