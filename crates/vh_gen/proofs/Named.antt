-- The nodes of a number, under their names and classes.
use Rattle.std.proofs.Common.{◌≡◌, ◌≢◌, ◌∙◌, ℕ, zero, suc, ◌<◌, ◌≤◌, ◌==◌, nat_lt, Bool, true, false, cond, List, [], ◌∷◌, length, map, drop, get_or, Option, Some, None, refl, sym, ap, subst, arith}
use Rattle.std.specs.Prelude.{All, ◌^◌, ◌&&◌, ◌||◌, not, nat_le, slice_get, slice_index, codes}
use Rattle.std.specs.Fmt.{decimal}
use Rattle.std.specs.Str.{bytes_eq}
use Rattle.std.specs.List.{range_with_len, list_all}
use Rattle.std.proofs.lemmas.Bool.{and_parts, and_from, eq-eqb, lt-ltb, le-leb}
use Rattle.std.proofs.lemmas.Fmt.{decimal_injective, length-decimal-le}
use Rattle.std.proofs.lemmas.List.{get_or_default}
use Rattle.std.proofs.lemmas.List.FromFn.{length-map-range_with_len, get_or-map-range_with_len}
use Rattle.std.proofs.lemmas.Option.{slice_get-get_or}
use Rattle.vh_params.specs.declared.class.ClassInfo.{ClassInfo}
use Rattle.vh_params.specs.declared.param.ParamInfo.{ParamInfo}
use Rattle.vh_params.specs.Classes.{NamesDiffer}
use Rattle.vh_params.specs.Names.{is_name, is_name_byte, is_lower}
use Rattle.vh_params.specs.Nodes.{Node, no_node, node_at, node_of as made_of, LacksName, info_in}
use Rattle.vh_params.specs.declared.label.Label.{Label}
use Rattle.vh_params.specs.Params.{param_in}
use Rattle.vh_params.specs.Short.{label_text}
use Rattle.vh_params.specs.Tables.{params_of}
use Rattle.vh_builtin.specs.Builtins.{class_rows}
use Rattle.vh_builtin.specs.Infos.{IsBuiltIn, name_text}
use Rattle.vh_builtin.specs.Rows.{Row, row_of}
use Rattle.vh_session.specs.Keeps.{IsNodeBehind, AreNodes, HasClass}
use Rattle.vh_session.proofs.Named.{other_text, none_from, first_class}
use Rattle.vh_session.proofs.WordsOf.{name_word}
use Rattle.vh_text.specs.Numbers.{is_digit, value_of, is_number}
use Rattle.vh_text.proofs.Numerals.{number_reads}
use Rattle.vh_gen.specs.Gestures.{is_meter}
use Rattle.vh_gen.specs.Known.{BeginsBuiltIn}
use Rattle.vh_gen.specs.Nodes.{name_of, of_class, node_of, nodes_of}
use Rattle.vh_gen.proofs.Grown.{behind_range}

number_digits : (n : ℕ) → n < 2 ^ 32 → list_all is_digit (decimal n) ≡ true
number_digits n small =
    let reads = number_reads n small in
    elim (is_number (decimal n)) as (λ t. is_number (decimal n) ≡ t → cond t (Some (value_of (decimal n))) None ≡ Some n → list_all is_digit (decimal n) ≡ true) [
      | true ↦ λ is found.
          let both = and_parts (nat_le 1 (length (decimal n)) && nat_le (length (decimal n)) 10) (list_all is_digit (decimal n) && nat_lt (value_of (decimal n)) (2 ^ 32)) is in
          (and_parts (list_all is_digit (decimal n)) (nat_lt (value_of (decimal n)) (2 ^ 32)) both.1).0
      | false ↦ λ is found. absurd cc
    ] refl reads

either : (a b : Bool) → ((a || true) || b) ≡ true
either true b = refl
either false b = refl

digits_name : (ds : List ℕ) → list_all is_digit ds ≡ true → list_all is_name_byte ds ≡ true
digits_name [] all = refl
digits_name (d ∷ ds) all =
    let both = and_parts (is_digit d) (list_all is_digit ds) all in
    and_from (is_name_byte d) (list_all is_name_byte ds) (ap (λ t. (is_lower d || t) || (d == 95)) both.0 ∙ either (is_lower d) (d == 95)) (digits_name ds both.1)

other_first : (ds other : List ℕ) → get_or other 0 0 ≢ 110 → not (bytes_eq (110 ∷ ds) other) ≡ true
other_first ds other differ = ap not (other_text (110 ∷ ds) other (λ same. differ (sym (ap (λ l. get_or l 0 0) same))))

pub short_name : (node : ℕ) → node < 64 → length (name_of node) ≤ 32
short_name node lt =
    let few = length-decimal-le 10 node (omega arith) (omega (arith, lt)) (omega (arith, lt)) in
    omega (arith, few)

pub name_is : (node : ℕ) → node < 64 → is_name (name_of node) ≡ true
name_is node lt =
    let ds : List ℕ = decimal node in
    let text : List ℕ = name_of node in
    let short = short_name node lt in
    let some : nat_le 1 (length text) ≡ true = le-leb 1 (length text) (omega arith) in
    let few : nat_le (length text) 32 ≡ true = le-leb (length text) 32 short in
    let bytes : list_all is_name_byte text ≡ true = digits_name ds (number_digits node (omega (arith, lt))) in
    and_from ((nat_le 1 (length text) && nat_le (length text) 32) && (is_lower (slice_index text 0) && list_all is_name_byte text)) (not (bytes_eq text (codes "in")) && not (bytes_eq text (codes "out")))
    (and_from (nat_le 1 (length text) && nat_le (length text) 32) (is_lower (slice_index text 0) && list_all is_name_byte text) (and_from (nat_le 1 (length text)) (nat_le (length text) 32) some few) bytes)
    (and_from (not (bytes_eq text (codes "in"))) (not (bytes_eq text (codes "out"))) (other_first ds (codes "in") (λ same. omega (arith, same))) (other_first ds (codes "out") (λ same. omega (arith, same))))

names_apart : (i j : ℕ) → i < 64 → j < 64 → name_of i ≡ name_of j → i ≡ j
names_apart i j li lj same = decimal_injective i j (omega (arith, li)) (omega (arith, lj)) (ap (drop 1) same)

pub name_at : (known : List ClassInfo) (kinds : List ℕ) (node : ℕ) → (node_of known kinds node).name ≡ name_of node
name_at known kinds node = elim (slice_get known (slice_index kinds node)) as (λ o. (of_class (name_of node) o).name ≡ name_of node) [
  | None ↦ refl
  | Some class ↦ refl
]

-- none of the nodes before has the next one's name
pub lacks_name : (known : List ClassInfo) (kinds : List ℕ) (n : ℕ) → n < 64 → LacksName (map (node_of known kinds) (range_with_len 0 n)) (name_of n)
lacks_name known kinds n lt node below same =
    let long = length-map-range_with_len (node_of known kinds) 0 n in
    let here : node < n = omega (arith, below, long) in
    let at : node_at (map (node_of known kinds) (range_with_len 0 n)) node ≡ node_of known kinds node = get_or-map-range_with_len (node_of known kinds) 0 n node node no_node here (omega arith) in
    let name : (node_at (map (node_of known kinds) (range_with_len 0 n)) node).name ≡ name_of node = ap (λ (x : Node). x.name) at ∙ name_at known kinds node in
    let e = names_apart node n (omega (arith, here, lt)) lt (sym name ∙ same) in
    omega (arith, e, here)

kind_named : (k : ℕ) → is_name (name_text k) ≡ true
kind_named zero = refl
kind_named (suc zero) = refl
kind_named (suc (suc zero)) = refl
kind_named (suc (suc (suc zero))) = refl
kind_named (suc (suc (suc (suc zero)))) = refl
kind_named (suc (suc (suc (suc (suc zero))))) = refl
kind_named (suc (suc (suc (suc (suc (suc zero)))))) = refl
kind_named (suc (suc (suc (suc (suc (suc (suc k))))))) = refl

-- the class of a kind
pub record Classed (known : List ClassInfo) (kind : ℕ) : Type 0 where
  pub class : ClassInfo
  pub is : slice_get known kind ≡ Some class
  pub at : (d : ClassInfo) → get_or known kind d ≡ class
  pub built : IsBuiltIn kind class

pub classed : (known : List ClassInfo) (kind : ℕ) → BeginsBuiltIn known → kind < 8 → Classed known kind
classed [] kind begins lt = let eight = begins.eight in absurd (omega (arith, eight))
classed (c ∷ cs) kind begins lt =
    let eight = begins.eight in
    let within : kind < length (c ∷ cs) = omega (arith, eight, lt) in
    record {
      class = get_or (c ∷ cs) kind c;
      is = slice_get-get_or (c ∷ cs) kind c within;
      at = λ d. get_or_default (c ∷ cs) kind d c within;
      built = begins.each kind c lt;
    }

node_stands : (known : List ClassInfo) (kinds : List ℕ) → BeginsBuiltIn known → (n : ℕ) → n < 64 → slice_index kinds n < 8 → IsNodeBehind (map (node_of known kinds) (range_with_len 0 n)) (node_of known kinds n)
node_stands known kinds begins n lt kind =
    let before : List Node = map (node_of known kinds) (range_with_len 0 n) in
    let of = classed known (slice_index kinds n) begins kind in
    let P : Option ClassInfo → Type 0 = λ o. IsNodeBehind before (of_class (name_of n) o) in
    let stands : P (Some of.class) = record {
      named = name_is n lt;
      new = none_from before (name_of n) 0 (lacks_name known kinds n lt);
      class = name_word (label_text of.class.name) (ap is_name of.built.name ∙ kind_named (slice_index kinds n));
      rising = of.class.params.rising;
    } in
    subst P (sym of.is) stands

pub are_nodes : (known : List ClassInfo) (kinds : List ℕ) → BeginsBuiltIn known → length kinds ≤ 64 → All (λ kind. kind < 8) kinds → AreNodes (nodes_of known kinds)
are_nodes known kinds begins few each =
    let long = length-map-range_with_len (node_of known kinds) 0 (length kinds) in
    (omega (arith, few, long), behind_range IsNodeBehind [] (node_of known kinds) (length kinds) (λ n lt. node_stands known kinds begins n (omega (arith, lt, few)) (each n 0 lt)))

-- a node, by its place
pub node_is : (known : List ClassInfo) (kinds : List ℕ) (node : ℕ) (d : Node) → node < length kinds → get_or (nodes_of known kinds) node d ≡ node_of known kinds node
node_is known kinds node d lt = get_or-map-range_with_len (node_of known kinds) 0 (length kinds) node node d lt (omega arith)

-- each has its class
pub have_classes : (known : List ClassInfo) (kinds : List ℕ) → BeginsBuiltIn known → NamesDiffer known → All (λ kind. kind < 8) kinds → All (λ node. (class : ClassInfo) × HasClass known node class) (nodes_of known kinds)
have_classes known kinds begins differ each node d lt =
    let long = length-map-range_with_len (node_of known kinds) 0 (length kinds) in
    let here : node < length kinds = omega (arith, lt, long) in
    let kind : ℕ = slice_index kinds node in
    let below : kind < 8 = each node 0 here in
    let of = classed known kind begins below in
    let eight = begins.eight in
    let within : kind < length known = omega (arith, eight, below) in
    let named = first_class known (label_text of.class.name) kind of.class within (ap (λ (c : ClassInfo). label_text c.name) (of.at of.class))
    (λ before e l same. differ before kind e l within (same ∙ ap (λ (c : ClassInfo). label_text c.name) (sym (of.at e)))) in
    let P : Option ClassInfo → Type 0 = λ o. (class : ClassInfo) × HasClass known (of_class (name_of node) o) class in
    let has : P (Some of.class) = (of.class, (named ∙ ap (λ c. Some c) (of.at of.class), refl, refl)) in
    subst (λ n. (class : ClassInfo) × HasClass known n class) (sym (node_is known kinds node d here)) (subst P (sym of.is) has)

-- the first parameter of a class
head_row : (params : List ParamInfo) (row : Row) (rows : List Row) → map row_of params ≡ row ∷ rows → row.id ≡ 0 → (param : ParamInfo) × (param_in params 0 ≡ Some param) × (param.flags ≡ row.flags)
head_row [] row rows is id = let e = ap length is in absurd (omega (arith, e))
head_row (param ∷ params) row rows is id =
    let head : row_of param ≡ row = ap (λ l. get_or l 0 row) is in
    let test : (param.id == 0) ≡ true = eq-eqb param.id 0 (ap (λ (r : Row). r.id) head ∙ id) in
    (param, ap (λ b. cond b (Some param) (param_in params 0)) test, ap (λ (r : Row). r.flags) head)

first_param : (kind : ℕ) (params : List ParamInfo) → kind < 8 → map row_of params ≡ class_rows kind → (param : ParamInfo) × (param_in params 0 ≡ Some param) × (param.flags ≡ cond (is_meter kind) 2 1)
first_param zero params lt is = head_row params _ _ is refl
first_param (suc zero) params lt is = head_row params _ _ is refl
first_param (suc (suc zero)) params lt is = head_row params _ _ is refl
first_param (suc (suc (suc zero))) params lt is = head_row params _ _ is refl
first_param (suc (suc (suc (suc zero)))) params lt is = head_row params _ _ is refl
first_param (suc (suc (suc (suc (suc zero))))) params lt is = head_row params _ _ is refl
first_param (suc (suc (suc (suc (suc (suc zero)))))) params lt is = head_row params _ _ is refl
first_param (suc (suc (suc (suc (suc (suc (suc zero))))))) params lt is = head_row params _ _ is refl
first_param (suc (suc (suc (suc (suc (suc (suc (suc k)))))))) params lt is = absurd (omega (arith, lt))

-- a node's first parameter
pub first_info : (known : List ClassInfo) (kinds : List ℕ) → BeginsBuiltIn known → (node : ℕ) → node < length kinds → slice_index kinds node < 8
    → (param : ParamInfo) × (info_in (nodes_of known kinds) node 0 ≡ Some param) × (param.flags ≡ cond (is_meter (slice_index kinds node)) 2 1)
first_info known kinds begins node lt below =
    let nodes : List Node = nodes_of known kinds in
    let long = length-map-range_with_len (node_of known kinds) 0 (length kinds) in
    let of = classed known (slice_index kinds node) begins below in
    let first = first_param (slice_index kinds node) (params_of of.class.params) below of.built.rows in
    let there : nat_lt node (length nodes) ≡ true = lt-ltb node (length nodes) (omega (arith, lt, long)) in
    let params : (node_at nodes node).params ≡ params_of of.class.params = ap (λ (n : Node). n.params) (node_is known kinds node no_node lt) ∙ ap (λ o. (of_class (name_of node) o).params) of.is in
    (first.0, ap (λ b. cond b (param_in (node_at nodes node).params 0) None) there ∙ ap (λ ps. param_in ps 0) params ∙ first.1, first.2)

-- a node that is made of a name and a class is the node of its number
pub node_made : (known : List ClassInfo) (kinds : List ℕ) (node : ℕ) (label : Label) (class : ClassInfo) → label_text label ≡ name_of node → slice_index kinds node < length known
    → ((d : ClassInfo) → class ≡ get_or known (slice_index kinds node) d) → made_of label class ≡ node_of known kinds node
node_made known kinds node label class name within is =
    let found : slice_get known (slice_index kinds node) ≡ Some class = slice_get-get_or known (slice_index kinds node) class within ∙ ap (λ c. Some c) (sym (is class)) in
    ap (λ text. of_class text (Some class)) name ∙ ap (of_class (name_of node)) (sym found)
