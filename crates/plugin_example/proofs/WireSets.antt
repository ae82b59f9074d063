-- The sets of the tests.
use Rattle.std.proofs.Common.{◌≡◌, ℕ, zero, suc, Bool, map, List, [], ◌∷◌, ◌++◌, ◌∙◌, refl, sym, subst, ap, arith}
use Rattle.vh_params.specs.declared.class.ClassInfo.{ClassInfo}
use Rattle.vh_params.specs.declared.param.ParamInfo.{ParamInfo}
use Rattle.vh_params.specs.Tables.{params_of}
use Rattle.vh_params.specs.Short.{label_text}
use Rattle.vh_plugin.specs.Class.{Class, Param, param_of}
use Rattle.plugin_example.specs.Wires.{IsOf, TellsOne}

pub tells_one : (infos items start : List ClassInfo) (info : ClassInfo) (given : List ParamInfo) (name controller : List ℕ) (aux : Bool) → infos ≡ items → items ≡ start ++ info ∷ [] → start ≡ []
    → params_of info.params ≡ given → label_text info.name ≡ name → info.aux ≡ aux → info.controller.0 ≡ controller → TellsOne name given aux controller infos
tells_one infos items start info given name controller aux told pushed empty params named is_aux is_controller =
    let one : infos ≡ info ∷ [] = told ∙ pushed ∙ ap (λ (list : List ClassInfo). list ++ info ∷ []) empty in
    subst (λ (list : List ClassInfo). TellsOne name given aux controller list) (sym one) (refl, λ d. (named, params, is_aux, is_controller))

-- so each class that is told of is the one of these parameters
pub is_of : (class : Class) (name controller : List ℕ) (aux : Bool) (params : List Param) (given : List ParamInfo) (infos : List ClassInfo) → TellsOne name given aux controller infos
    → class.params ≡ params → map param_of given ≡ params → class.aux ≡ aux → class.partner ≡ controller → IsOf class infos
is_of class name controller aux params given infos tells is_params are_params is_aux is_partner zero d within =
    let told = tells.1 d in
    record {
      params = is_params ∙ sym are_params ∙ sym (ap (λ (list : List ParamInfo). map param_of list) told.1);
      aux = is_aux ∙ sym told.2;
      partner = is_partner ∙ sym told.3;
    }
is_of class name controller aux params given infos tells is_params are_params is_aux is_partner (suc k) d within = absurd (let one = tells.0 in omega (arith, within, one))
