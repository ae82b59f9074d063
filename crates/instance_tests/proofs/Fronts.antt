-- A list whose last element is replaced.
use Rattle.std.proofs.Common.{◌≡◌, ◌∙◌, List, [], ◌∷◌, ◌++◌, length, map, take, sym, ap}
use Rattle.std.specs.Prelude.{All}
use Rattle.std.proofs.lemmas.List.{map-append}
use Rattle.std.proofs.lemmas.List.Elements.{All-take, All-same, All-push}
use Rattle.std.proofs.Math.Seq.{take-append_seam}

pub replaced : {X Y : Type 0} (P : Y → Type 0) (f : X → Y) (all front : List X) (x y : X) → all ≡ front ++ x ∷ [] → All P (map f all) → P (f y) → All P (map f (front ++ y ∷ []))
replaced P f all front x y split holds here =
    let whole : take (length (map f front)) (map f all) ≡ map f front =
    ap (take (length (map f front))) (ap (map f) split ∙ map-append f front (x ∷ [])) ∙ take-append_seam (map f front) (f x ∷ []) in
    let first = All-same P (map f front) (take (length (map f front)) (map f all)) (sym whole) (All-take P (length (map f front)) (map f all) holds) in
    All-same P (map f (front ++ y ∷ [])) (map f front ++ f y ∷ []) (map-append f front (y ∷ [])) (All-push P (map f front) (f y) first here)
