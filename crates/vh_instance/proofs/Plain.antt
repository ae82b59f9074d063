-- Bands of sessions without presets.
use Rattle.std.proofs.Common.{◌≡◌, ℕ, List, length, map, replicate, Option, None, subst}
use Rattle.std.specs.Option.{option_map}
use Rattle.vh_params.specs.declared.class.ClassInfo.{ClassInfo}
use Rattle.vh_plugin.specs.Class.{Class}
use Rattle.vh_preset.specs.declared.preset.Preset.{Preset}
use Rattle.vh_preset.specs.Contents.{Contents}
use Rattle.vh_preset.specs.Seen.{contents_of}
use Rattle.vh_session.specs.declared.session.Session.{Session}
use Rattle.vh_session.specs.Names.{content_of}
use Rattle.vh_instance.specs.declared.band.Band.{Band}
use Rattle.vh_instance.specs.Plan.{plan_for, plain_plan}
use Rattle.vh_instance.specs.Band.{ProcessorMeaning, ControllerMeaning, IsBand}
use Rattle.vh_instance.specs.Laws.{BeginPlain}
use Rattle.vh_instance.proofs.Lawful.{law_without_presets, plain_plan_is}

module _ {P C : Type 0} (processing : ProcessorMeaning P) (controlling : ControllerMeaning C) (infos : List ClassInfo) (code : ℕ → ℕ) (class_of : ℕ → Class) (session : Session) (max : ℕ) (band : Band P C) where
  -- a band that was made without presets
  pub plain_band : (presets : List (Option Preset)) → map (option_map contents_of) presets ≡ replicate (length (content_of session).nodes) None
      → IsBand processing controlling (plan_for infos code class_of session presets max) band → IsBand processing controlling (plain_plan infos code class_of (content_of session) max) band
  plain_band presets none is =
      subst (λ (list : List (Option Contents)). IsBand processing controlling (record { content = content_of session; presets = list; infos = infos; code = code; class_of = class_of; max = max }) band) none is

  -- begins as the session alone says
  pub plain_begins : IsBand processing controlling (plain_plan infos code class_of (content_of session) max) band → BeginPlain (plain_plan infos code class_of (content_of session) max)
  plain_begins is = law_without_presets (plain_plan infos code class_of (content_of session) max) (plain_plan_is infos code class_of (content_of session) max) is.suited
