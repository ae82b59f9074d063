-- No built-in class has the name of the switch.
use Rattle.std.proofs.Common.{◌≡◌, ◌≢◌, ℕ, zero, suc, ◌<◌, List, length, get_or, sym, ap, ◌∙◌, arith}
use Rattle.vh_params.specs.declared.class.ClassInfo.{ClassInfo}
use Rattle.vh_params.specs.Short.{label_text}
use Rattle.vh_plugin.specs.Lists.{NamesApart}
use Rattle.vh_builtin.specs.Infos.{name_text, AreBuiltIn}
use Rattle.plugin_example.specs.Wires.{HasName}

other_length : (k : ℕ) → length (name_text k) ≢ 6
other_length zero e = omega (arith, e)
other_length (suc zero) e = omega (arith, e)
other_length (suc (suc zero)) e = omega (arith, e)
other_length (suc (suc (suc zero))) e = omega (arith, e)
other_length (suc (suc (suc (suc zero)))) e = omega (arith, e)
other_length (suc (suc (suc (suc (suc zero))))) e = omega (arith, e)
other_length (suc (suc (suc (suc (suc (suc zero)))))) e = omega (arith, e)
other_length (suc (suc (suc (suc (suc (suc (suc k))))))) e = omega (arith, e)

only_first : (others : List ClassInfo) (name : List ℕ) (j : ℕ) (d : ClassInfo) → HasName others name → j < length others → label_text (get_or others j d).name ≡ name
only_first others name zero d has lt = has.1 d
only_first others name (suc j) d has lt = absurd (omega (arith, has.0, lt))

pub names_apart : (infos others : List ClassInfo) (name : List ℕ) → AreBuiltIn infos → HasName others name → length name ≡ 6 → NamesApart infos others
names_apart infos others name are has six = λ i j d first second same.
    let within : i < 8 = omega (arith, first, are.eight) in
    let mine = (are.each i d within).name in
    other_length i (ap (λ (text : List ℕ). length text) (sym mine ∙ same ∙ only_first others name j d has second) ∙ six)
