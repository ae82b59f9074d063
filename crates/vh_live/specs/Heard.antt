-- What was written of a rendering.
use Rattle.std.specs.Prelude.{◌≡◌, List, ◌++◌}
use Rattle.vh_num.specs.Frames.{Frame}

-- a list begins with another
abbrev pub Starts : List Frame → List Frame → Type 0
Starts first whole = (rest : List Frame) × (first ++ rest ≡ whole)

-- what was written behind these frames, and then what failed to be, is a front part of a rendering
pub record IsFrontOf {F : Type 0} (wrote : F → List Frame → Type 0) (frames : F) (cut before rendering : List Frame) : Type 0 where
  pub pushed : List Frame
  pub written : wrote frames (before ++ pushed)
  pub front : Starts (pushed ++ cut) rendering
