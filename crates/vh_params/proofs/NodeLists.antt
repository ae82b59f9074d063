-- Nodes under their names.
use Rattle.std.proofs.Common.{◌≡◌, ◌≢◌, ℕ, suc, ◌+◌, ◌-◌, ◌<◌, ◌≤◌, Bool, true, false, cond, ◌&&◌, eqb, ltb, List, [], ◌∷◌, ◌++◌, length, get_or, take, drop, map, replicate, Some, None, refl, sym, ap, subst, ◌∙◌, inl, inr, ⊎_elim, arith}
use Rattle.std.specs.List.{position}
use Rattle.std.specs.Map.{keys_of}
use Rattle.std.specs.Cmp.Lexicographic.{pointwise}
use Rattle.std.proofs.lemmas.Bool.{false≢true, false_from_ne_true}
use Rattle.std.proofs.lemmas.Bool.Decides.{nat_tests}
use Rattle.std.proofs.lemmas.List.{take-append-drop, length-take-le, get_or-map, length-map, length_push, map_push, get_or-take, take_more}
use Rattle.std.proofs.lemmas.List.Sums.{fails_before_first}
use Rattle.std.proofs.lemmas.List.Elements.{All-push}
use Rattle.std.proofs.lemmas.Map.Keys.{apart_from_distinct}
use Rattle.std.specs.List.{IsDistinct}
use Rattle.std.specs.Prelude.{All, Result, Ok, Err, OnOk, OnErr, ◌⊎◌}
use Rattle.vh_params.specs.Names.{is_name}
use Rattle.std.proofs.lemmas.List.Quantifiers.{position-Some}
use Rattle.std.proofs.lemmas.Slice.Eq.{bytes_eq-Decides}
use Rattle.indexmap.specs.IndexMap.{insert_entry}
use Rattle.vh_params.specs.declared.label.Label.{Label}
use Rattle.vh_params.specs.declared.node.Node.{Node as Stored}
use Rattle.vh_params.specs.Short.{label_text}
use Rattle.vh_params.specs.Nodes.{Node, Entry, stored_node, no_node, node_at, LacksName, AreApart}

-- labels are the same where their texts are
abbrev pub same_label : Label → Label → Bool
same_label a b = pointwise eqb a.bytes b.bytes && eqb a.len b.len

and_both : (a b : Bool) → a ≡ true → b ≡ true → (a && b) ≡ true
and_both a b e f = rw (e, f) refl

and_parts : (a b : Bool) → (a && b) ≡ true → (a ≡ true) × (b ≡ true)
and_parts true b e = (refl, e)
and_parts false b e = absurd (false≢true e)

equal : (a b : ℕ) → eqb a b ≡ true → a ≡ b
equal a b e = grind (arith, nat_tests)

equal_test : (a b : ℕ) → a ≡ b → eqb a b ≡ true
equal_test a b e = grind (arith, nat_tests)

pub same_texts : (a b : Label) → same_label a b ≡ true → label_text a ≡ label_text b
same_texts a b e =
    let parts = and_parts _ _ e in
    let bytes : a.bytes ≡ b.bytes = (bytes_eq-Decides a.bytes b.bytes).0 parts.0 in
    let len : a.len ≡ b.len = equal _ _ parts.1 in
    ap (λ n. take n a.bytes) len ∙ ap (take b.len) bytes

pub same_from_texts : (a b : Label) → label_text a ≡ label_text b → same_label a b ≡ true
same_from_texts a b e =
    let size_a : length a.bytes ≡ 32 = a.size in
    let size_b : length b.bytes ≡ 32 = b.size in
    let within_a : a.len ≤ 32 = a.within in
    let within_b : b.len ≤ 32 = b.within in
    let long_a : length (take a.len a.bytes) ≡ a.len = length-take-le a.len a.bytes (omega arith) in
    let long_b : length (take b.len b.bytes) ≡ b.len = length-take-le b.len b.bytes (omega arith) in
    let len : a.len ≡ b.len = sym long_a ∙ ap length e ∙ long_b in
    let rest_a : drop a.len a.bytes ≡ replicate (32 - a.len) 0 = a.clear in
    let rest_b : drop b.len b.bytes ≡ replicate (32 - b.len) 0 = b.clear in
    let rest : drop a.len a.bytes ≡ drop b.len b.bytes = rest_a ∙ ap (λ n. replicate (32 - n) 0) len ∙ sym rest_b in
    let bytes : a.bytes ≡ b.bytes = sym (take-append-drop a.len a.bytes) ∙ ap (λ t. t ++ drop a.len a.bytes) e ∙ ap (λ t. take b.len b.bytes ++ t) rest ∙ take-append-drop b.len b.bytes in
    and_both _ _ ((bytes_eq-Decides a.bytes b.bytes).1 bytes) (equal_test _ _ len)

-- what is stored at a place
name_at : (entries : List Entry) (i : ℕ) (d : Entry) → i < length entries → (node_at (map stored_node entries) i).name ≡ label_text (get_or entries i d).0
name_at entries i d lt = ap (λ (n : Node). n.name) (get_or-map stored_node entries i d no_node lt)

key_at : (entries : List Entry) (i : ℕ) (d : Entry) → i < length entries → get_or (keys_of entries) i d.0 ≡ (get_or entries i d).0
key_at entries i d lt = get_or-map (λ (e : Entry). e.0) entries i d d.0 lt

some_entry : (entries : List Entry) (i : ℕ) → i < length entries → Entry
some_entry [] i lt = absurd (omega arith)
some_entry (e ∷ es) i lt = e

-- the entry that a name is found at
pub found_at : (entries : List Entry) (key : Label) (i : ℕ) → i < length entries → position (same_label key) (keys_of entries) ≡ Some i → (i < length (map stored_node entries)) × ((node_at (map stored_node entries) i).name ≡ label_text key)
found_at entries key i lt e =
    let d = some_entry entries i lt in
    let at = (position-Some (same_label key) (keys_of entries) i d.0 e).1 in (
      omega (arith, length-map entries stored_node),
      name_at entries i d lt ∙ sym (same_texts key (get_or entries i d).0 (sym (ap (same_label key) (key_at entries i d lt)) ∙ at)),
    )

some_none : (i : ℕ) → Some i ≢ None
some_none i e = cc

not_before : (t : Bool) (i : ℕ) → cond t (Some i) None ≡ None → t ≡ false
not_before true i e = absurd (some_none i e)
not_before false i e = refl

at_most : (a b : ℕ) → ltb a b ≡ false → b ≤ a
at_most a b e = grind (arith, nat_tests)

pub none_at : (entries : List Entry) (key : Label) → position (same_label key) (keys_of entries) ≡ None → LacksName (map stored_node entries) (label_text key)
none_at entries key e = λ i lt same.
    let within : i < length entries = omega (arith, length-map entries stored_node) in
    let d = some_entry entries i within in
    let behind = at_most _ _ (not_before _ _ e) in
    let size : length (keys_of entries) ≡ length entries = length-map entries (λ (x : Entry). x.0) in
    let fails = fails_before_first (same_label key) (keys_of entries) i d.0 (omega (arith, behind, size)) in
    let test : same_label key (get_or entries i d).0 ≡ true = same_from_texts key (get_or entries i d).0 (sym same ∙ name_at entries i d within) in
    absurd (false≢true (sym fails ∙ ap (same_label key) (key_at entries i d within) ∙ test))

-- no name is longer than 32 bytes
pub too_long : (entries : List Entry) (name : List ℕ) → 32 < length name → LacksName (map stored_node entries) name
too_long entries name long = λ i lt same.
    let within : i < length entries = omega (arith, length-map entries stored_node) in
    let d = some_entry entries i within in
    let label = (get_or entries i d).0 in
    let most : label.len ≤ 32 = label.within in
    let size : length label.bytes ≡ 32 = label.size in
    let short : length (label_text label) ≡ label.len = length-take-le label.len label.bytes (omega arith) in
    let same_size : length name ≡ length (label_text label) = ap length (sym same ∙ name_at entries i d within) in
    omega arith

-- a new name goes behind the others
insert_new : (entries : List Entry) (k : Label) (v : Stored) → ((i : ℕ) (d : Entry) → i < length entries → same_label k (get_or entries i d).0 ≡ false) → insert_entry same_label entries k v ≡ entries ++ (k, v) ∷ []
insert_new [] k v others = refl
insert_new (e ∷ es) k v others =
    let first : same_label k e.0 ≡ false = others 0 e (omega arith) in
    rw first (ap (λ rest. e ∷ rest) (insert_new es k v (λ i d lt. others (suc i) d (omega arith))))

pub added : (entries : List Entry) (k : Label) (v : Stored) → LacksName (map stored_node entries) (label_text k) → insert_entry same_label entries k v ≡ entries ++ (k, v) ∷ []
added entries k v lacks = insert_new entries k v (λ i d lt. false_from_ne_true _ (λ same.
    lacks i (omega (arith, length-map entries stored_node)) (name_at entries i d lt ∙ sym (same_texts k (get_or entries i d).0 same))))

-- what is stored after an insertion that may have failed
either : {T E : Type 0} (result : Result T E) (old new more : List Entry) → OnOk result (new ≡ more) → OnErr result (new ≡ old) → (new ≡ more) ⊎ (new ≡ old)
either (Ok x) old new more e f = inl e
either (Err x) old new more e f = inr f

module _ {T E : Type 0} (result : Result T E) (old new : List Entry) (k : Label) (v : Stored) (lacks : LacksName (map stored_node old) (label_text k)) (done : OnOk result (new ≡ insert_entry same_label old k v)) (same : OnErr result (new ≡ old)) where
  pub stays_within : length old < 64 → length new ≤ 64
  stays_within room = ⊎_elim
      (λ e. omega (arith, ap length (e ∙ added old k v lacks), length_push old (k, v)))
      (λ e. omega (arith, ap length e))
      (either result old new (insert_entry same_label old k v) done same)

  pub keeps_names : is_name (label_text k) ≡ true → All (λ entry. is_name (take entry.0.len entry.0.bytes) ≡ true) old → All (λ entry. is_name (take entry.0.len entry.0.bytes) ≡ true) new
  keeps_names here before = ⊎_elim
      (λ e. subst (All (λ (entry : Entry). is_name (take entry.0.len entry.0.bytes) ≡ true)) (sym (e ∙ added old k v lacks)) (All-push (λ (entry : Entry). is_name (take entry.0.len entry.0.bytes) ≡ true) old (k, v) before here))
      (λ e. subst (All (λ (entry : Entry). is_name (take entry.0.len entry.0.bytes) ≡ true)) (sym e) before)
      (either result old new (insert_entry same_label old k v) done same)

pub stored_more : (old new : List Entry) (k : Label) (v : Stored) → LacksName (map stored_node old) (label_text k) → new ≡ insert_entry same_label old k v → map stored_node new ≡ map stored_node old ++ stored_node (k, v) ∷ []
stored_more old new k v lacks e = ap (map stored_node) (e ∙ added old k v lacks) ∙ map_push stored_node old (k, v)

-- no node before one has its name
pub lacks_later : (entries : List Entry) (i : ℕ) (d : Entry) → i < length entries → IsDistinct same_label (keys_of entries) → LacksName (take i (map stored_node entries)) (label_text (get_or entries i d).0)
lacks_later entries i d lt distinct = λ j before same.
    let size : length (take i (map stored_node entries)) ≡ i = length-take-le i (map stored_node entries) (omega (arith, length-map entries stored_node)) in
    let earlier : j < i = omega arith in
    let within : j < length entries = omega arith in
    let keys : length (keys_of entries) ≡ length entries = length-map entries (λ (x : Entry). x.0) in
    let apart = apart_from_distinct same_label (keys_of entries) j i d.0 distinct earlier (omega (arith, keys)) in
    let name : (node_at (take i (map stored_node entries)) j).name ≡ label_text (get_or entries j d).0 = ap (λ (n : Node). n.name) (get_or-take i (map stored_node entries) j no_node earlier) ∙ name_at entries j d within in
    let equal_test = same_from_texts (get_or entries j d).0 (get_or entries i d).0 (sym name ∙ same) in
    absurd (false≢true (sym apart ∙ ap (λ (l : Label). same_label l (get_or (keys_of entries) i d.0)) (key_at entries j d within) ∙ ap (same_label (get_or entries j d).0) (key_at entries i d lt) ∙ equal_test))

-- the name and the node that are stored at a place
module _ (entries : List Entry) (i : ℕ) (name : Label) (node : Stored) (lt : i < length entries) (is : (d : Entry) → get_or entries i d ≡ (name, node)) where
  pub is_name_there : All (λ entry. is_name (take entry.0.len entry.0.bytes) ≡ true) entries → is_name (label_text name) ≡ true
  is_name_there names = ap (λ (e : Entry). is_name (take e.0.len e.0.bytes)) (sym (is (name, node))) ∙ names i (name, node) lt

  pub lacks_there : IsDistinct same_label (keys_of entries) → LacksName (take i (map stored_node entries)) (label_text name)
  lacks_there distinct = subst (λ (e : Entry). LacksName (take i (map stored_node entries)) (label_text e.0)) (is (name, node)) (lacks_later entries i (name, node) lt distinct)

  pub one_node_more : (copy next : List Node) (copied : Node) → copy ≡ take i (map stored_node entries) → copied ≡ stored_node (name, node) → next ≡ copy ++ copied ∷ [] → next ≡ take (i + 1) (map stored_node entries)
  one_node_more copy next copied before here e =
      e ∙ ap (λ ns. ns ++ copied ∷ []) before ∙ ap (λ (n : Node). take i (map stored_node entries) ++ n ∷ []) (here ∙ ap stored_node (sym (is (name, node))) ∙ sym (get_or-map stored_node entries i (name, node) no_node lt))
      ∙ sym (take_more (map stored_node entries) i no_node (omega (arith, length-map entries stored_node)))

-- no two nodes have one name
pub nodes_apart : (entries : List Entry) → IsDistinct same_label (keys_of entries) → AreApart (map stored_node entries)
nodes_apart entries distinct = λ i j before lt same.
    let within : j < length entries = omega (arith, length-map entries stored_node) in
    let d = some_entry entries j within in
    let size : length (take j (map stored_node entries)) ≡ j = length-take-le j (map stored_node entries) (omega arith) in
    lacks_later entries j d within distinct i (omega (arith, size))
    (ap (λ (n : Node). n.name) (get_or-take j (map stored_node entries) i no_node before) ∙ same ∙ name_at entries j d within)
