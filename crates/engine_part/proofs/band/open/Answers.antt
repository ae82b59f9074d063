use Rattle.std.proofs.Common.{◌≡◌, ◌∙◌, ℕ, List, length, map, replicate, Option, None, ap}
use Rattle.std.specs.Option.{option_map}
use Rattle.vh_params.specs.Nodes.{nodes_of}
use Rattle.vh_preset.specs.declared.preset.Preset.{Preset}
use Rattle.vh_preset.specs.Contents.{Contents}
use Rattle.vh_preset.specs.Seen.{contents_of}
use Rattle.vh_instance.proofs.Plain.{plain_band}
use Rattle.engine_part.proofs.Banded.{are_parts}
use Rattle.engine_part.proofs.band.open.Goals as goal

pub returns-clause-parts : goal.returns-clause-parts
returns-clause-parts g c =
    let nothing : ℕ → List (Option Contents) = λ n. replicate n None in
    let none : map (option_map contents_of) c.deref.result.now ≡ nothing (length (nodes_of c.args.session.nodes)) =
    ap (λ (list : List (Option Preset)). map (option_map contents_of) list) c.deref.ensures.value ∙ c.in_ok-presets.ensures.none ∙ ap nothing c.len.ensures.count in
    are_parts _ _ _ _ _ c.args.session c.args.size c.in-Ok.band (plain_band _ _ _ _ _ c.args.session c.args.size c.in-Ok.band c.deref.result.now none c.in-Ok.ensures.band)
