use Rattle.std.proofs.Common.{refl}
use Rattle.plugin_example.proofs.WireSets.{tells_one}
use Rattle.plugin_example.proofs.parts.one_class.Goals as goal

pub returns : goal.returns
returns c =
    tells_one _ _ _ _ c.args.params.now c.args.name.now c.args.controller.0 c.args.aux c.in_ok-new.ensures.classes c.in_ok-push.ensures.items c.new-list.ensures.items (c.in-Ok.ensures.kept c.requires.rising) c.new-3.ensures refl refl
