-- Classes mean what their tables tell.
use Rattle.std.proofs.Common.{◌≡◌, ℕ, zero, suc, List, [], ◌∷◌, map, refl, sym, ap, ◌∙◌}
use Rattle.vh_params.specs.declared.param.ParamInfo.{ParamInfo}
use Rattle.vh_plugin.specs.Class.{Param, param_of}
use Rattle.vh_builtin.specs.Rows.{Row, row_of, params_in}
use Rattle.vh_builtin.specs.Builtins.{builtin, class_rows}

params_mean : (infos : List ParamInfo) → map param_of infos ≡ params_in (map row_of infos)
params_mean [] = refl
params_mean (info ∷ infos) = ap (λ (params : List Param). param_of info ∷ params) (params_mean infos)

class_params : (k : ℕ) → (builtin k).params ≡ params_in (class_rows k)
class_params zero = refl
class_params (suc zero) = refl
class_params (suc (suc zero)) = refl
class_params (suc (suc (suc zero))) = refl
class_params (suc (suc (suc (suc zero)))) = refl
class_params (suc (suc (suc (suc (suc zero))))) = refl
class_params (suc (suc (suc (suc (suc (suc zero)))))) = refl
class_params (suc (suc (suc (suc (suc (suc (suc zero))))))) = refl
class_params (suc (suc (suc (suc (suc (suc (suc (suc k)))))))) = refl

pub class_means : (k : ℕ) (infos : List ParamInfo) → map row_of infos ≡ class_rows k → (builtin k).params ≡ map param_of infos
class_means k infos told = class_params k ∙ sym (ap (λ (rows : List Row). params_in rows) told) ∙ sym (params_mean infos)
