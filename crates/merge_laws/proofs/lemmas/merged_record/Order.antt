-- The sorted tables of the output are in the order of their keys.
use Rattle.std.proofs.Common.{◌≡◌, ◌<◌, ◌≤◌, ℕ, zero, suc, ◌+◌, ◌*◌, List, [], ◌∷◌, length, map, Bool, true, false, ◌⊎◌, inl, inr, Option, Some, None, refl, sym, ap, subst, ◌∙◌, arith, ltb-true}
use Rattle.std.specs.Prelude.{slice_get, nat_lt, if◌then◌else◌}
use Rattle.std.specs.List.{Contains, flat_map}
use Rattle.std.specs.Option.{option_and_then}
use Rattle.std.proofs.lemmas.Bool.{ltb-false}
use Rattle.il_base.specs.declared.table.TheConstants as table
use Rattle.il_base.specs.cli_format.Tokens.{coded_of}
use Rattle.il_base.specs.declared.cli_format.column.CodedIndex.TheVariants.{HasConstant, HasCustomAttribute, HasSemantics, TypeOrMethodDef}
use Rattle.rules.specs.file_layout.Bytes.{aligned}
use Rattle.il_base.specs.declared.world_model.types.InterfaceImplRow.{InterfaceImplRow}
use Rattle.il_base.specs.declared.world_model.types.NestedClassRow.{NestedClassRow}
use Rattle.il_base.specs.declared.world_model.types.ClassLayoutRow.{ClassLayoutRow}
use Rattle.il_base.specs.declared.world_model.types.GenericParamRow.{GenericParamRow}
use Rattle.il_base.specs.declared.world_model.types.GenericParamConstraintRow.{GenericParamConstraintRow}
use Rattle.il_base.specs.declared.world_model.members.MethodImplRow.{MethodImplRow}
use Rattle.il_base.specs.declared.world_model.members.MethodSemanticsRow.{MethodSemanticsRow}
use Rattle.il_base.specs.declared.world_model.extras.ConstantRow.{ConstantRow}
use Rattle.il_base.specs.declared.world_model.extras.CustomAttributeRow.{CustomAttributeRow}
use Rattle.il_base.specs.declared.world_model.extras.FieldRvaRow.{FieldRvaRow}
use Rattle.il_base.specs.declared.world_model.record.AsmRec.{AsmRec}
use Rattle.il_base.specs.world_model.Tokens.{table_of, row_of, index_in}
use Rattle.il_base.specs.declared.cli_format.column.Column.TheVariants.{Index}
use Rattle.il_base.specs.world_model.Records.{rows_in, Names, NeverFalls, NeverFallsByTwo, Rises, TablesAreSorted}
use Rattle.rules.specs.declared.link_rules.row_at.RowAt.{RowAt}
use Rattle.rules.specs.link_rules.Types.{at_row}
use Rattle.rules.specs.link_rules.Cycles.{listed}
use Rattle.rules.specs.type_rules.Rows.{rec_at, each_from}
use Rattle.rules.specs.merge_rules.Numbers.{Kept, inputs, kept_types}
use Rattle.rules.specs.merge_rules.Sorted.{by_key}
use Rattle.rules.specs.merge_rules.Refs.{Output}
use Rattle.rules.specs.merge_rules.Rows.{SortedRow, all_rows, place_token, param_key, sorted_impl, sorted_param, sorted_constraint, kept_interfaces, kept_generic_params, kept_constraints, output_rows, kept_row_token}
use Rattle.rules.specs.merge_rules.Attributes.{Attribute, attribute_in, kept_attributes}
use Rattle.rules.specs.merge_rules.Restricted.{each_at, each_sorted, new_constant, new_layout, new_field_rva, bytes_length, placed_bytes, nested_in, new_nested, new_impl, new_generic_param, new_constraint, new_semantics, new_method_impl, attribute_row}
use Rattle.merge_laws.specs.merged_record.Laws.{InputsAreRecords, NumbersFit, RowsFit}
use Rattle.merge_laws.proofs.lemmas.merged_record.Lists.{none_in, place_in, from_flat, from_map, from_listed, and_then_some, OfInput, an_input, from_each}
use Rattle.merge_laws.proofs.lemmas.merged_record.Sorting.{Ordered, pairs, flat, each, mapped, sorted_up, sorted_rises, inputs_rise}
use Rattle.merge_laws.proofs.lemmas.merged_record.Tokens.{NamedRow, of_index, one_table, one_place, index_row}
use Rattle.merge_laws.proofs.lemmas.merged_record.Rows.{one_of, from_one}
use Rattle.merge_laws.proofs.lemmas.merged_record.Sizes.{interface_is, param_is, constraint_is, left, types}
use Rattle.merge_laws.proofs.lemmas.merged_record.Named.{none_there, from_bytes}

-- ---- what is made of one row alone

pub one_mapped : {A B : Type 0} (S : B → B → Type 0) (f : A → B) (o : Option A) → Ordered S (map f (listed o))
one_mapped S f None = tt
one_mapped S f (Some x) = (λ y c. absurd (none_in y c), tt)

alone : {A : Type 0} (o : Option A) → Ordered (λ (x y : A). ⊥) (listed o)
alone None = tt
alone (Some x) = (λ y c. none_in y c, tt)

one_option : {A B : Type 0} (S : B → B → Type 0) (g : A → List B) (o : Option A) → ((x : A) → Ordered S (g x)) → Ordered S (flat_map g (listed o))
one_option {A} {B} S g o own = flat (λ (x y : A). ⊥) S g (listed o) (alone o) (λ x c. own x) (λ a b c d bad. absurd bad)

pub at_one : {R B : Type 0} (S : B → B → Type 0) (recs : List AsmRec) (rows : AsmRec → List R) (f : RowAt → AsmRec → R → B) (at : RowAt)
    → Ordered S (flat_map (λ (rec : AsmRec). map (f at rec) (listed (slice_get (rows rec) at.row))) (listed (rec_at recs at)))
at_one S recs rows f at = one_option S (λ (rec : AsmRec). map (f at rec) (listed (slice_get (rows rec) at.row))) (rec_at recs at) (λ rec. one_mapped S (f at rec) (slice_get (rows rec) at.row))

of_one : {R B : Type 0} (S : B → B → Type 0) (recs : List AsmRec) (rows : AsmRec → List R) (f : ℕ → ℕ → AsmRec → R → B) (x : SortedRow) → Ordered S (one_of recs rows f x)
of_one S recs rows f x =
    flat (λ (x y : RowAt). ⊥) S (λ (at : RowAt). flat_map (λ (rec : AsmRec). map (λ row. f x.owner at.asm rec row) (listed (slice_get (rows rec) at.row))) (listed (rec_at recs at))) (x.at ∷ [])
    (λ y c. none_in y c, tt) (λ at c. at_one S recs rows (λ at rec row. f x.owner at.asm rec row) at) (λ a b c d bad. absurd bad)

-- rows that are made of sorted ones
from_keys : {R B : Type 0} (S : B → B → Type 0) (recs : List AsmRec) (rows : AsmRec → List R) (f : ℕ → ℕ → AsmRec → R → B) (sorted : List SortedRow) → Ordered (λ (x y : SortedRow). x.key ≤ y.key) sorted
    → ((x y : SortedRow) → Contains sorted x → Contains sorted y → x.key ≤ y.key → (u v : B) → Contains (one_of recs rows f x) u → Contains (one_of recs rows f y) v → S u v) → Ordered S (each_sorted recs rows f sorted)
from_keys S recs rows f sorted up across = flat (λ (x y : SortedRow). x.key ≤ y.key) S (one_of recs rows f) sorted up (λ x c. of_one S recs rows f x) across

bytes_up : (before : ℕ) (rows : List FieldRvaRow) → Ordered (λ (a b : FieldRvaRow). a.field ≤ b.field) rows → Ordered (λ (a b : FieldRvaRow). a.field ≤ b.field) (placed_bytes before rows)
unfolding placed_bytes
bytes_up before [] up = tt
bytes_up before (row ∷ rows) up =
    (λ y c. let r = from_bytes (aligned 8 before + bytes_length row.bytes) rows y c in let le = up.0 r.0 r.1 in let same = r.2 in omega arith, bytes_up (aligned 8 before + bytes_length row.bytes) rows up.1)

-- ---- keys that rise from row to row

pub before : {X : Type 0} (rows : List X) (k : ℕ) (x : X) → slice_get rows (suc k) ≡ Some x → (y : X) × (slice_get rows k ≡ Some y)
before [] k x e = absurd (cc)
before (y ∷ rows) zero x e = (y, refl)
before (y ∷ rows) (suc k) x e = before rows k x e

climb_by : {X : Type 0} (key : X → ℕ) (rows : List X) (j k : ℕ) (row other y : X) (b : Bool) → nat_lt j k ≡ b → j < suc k → slice_get rows j ≡ Some row → slice_get rows k ≡ Some y → key y < key other
    → (j < k → key row < key y) → key row < key other
climb_by key rows j k row other y true g lt e h last next = let less = next (ltb-true j k g) in omega arith
climb_by {X} key rows j k row other y false g lt e h last next =
    let ge : k ≤ j = ltb-false j k g in
    let same : j ≡ k = omega arith in
    let at : slice_get rows k ≡ Some row = subst (λ (n : ℕ). slice_get rows n ≡ Some row) same e in
    let it : row ≡ y = cc in
    let equal : key row ≡ key y = ap key it in
    omega arith

climb : {X : Type 0} (key : X → ℕ) (rows : List X) → Rises key rows → (j k : ℕ) (row other : X) → j < k → slice_get rows j ≡ Some row → slice_get rows k ≡ Some other → key row < key other
climb key rows up j zero row other lt e f = absurd (omega arith)
climb key rows up j (suc k) row other lt e f =
    let p = before rows k other f in
    climb_by key rows j k row other p.0 (nat_lt j k) refl lt e p.1 (up k p.0 other p.1 f) (λ g. climb key rows up j k row p.0 g e p.1)

-- ---- generic parameters

by_both : (a b m n : ℕ) → m < 65536 → n < 65536 → a * 65536 + m ≤ b * 65536 + n → (a < b) ⊎ ((a ≡ b) × (m ≤ n))
by_both a b m n small less le = by_test (nat_lt a b) refl
  where
    by_test : (t : Bool) → nat_lt a b ≡ t → (a < b) ⊎ ((a ≡ b) × (m ≤ n))
    by_test true e = inl (ltb-true a b e)
    by_test false e = let ge : b ≤ a = ltb-false a b e in let same : a ≡ b = omega arith in inr (same, omega arith)

module _ (internal : Bool) (o : Output) (primary : AsmRec) (records : InputsAreRecords o.recs) (numbers : NumbersFit o.recs) (fit : RowsFit (left internal o primary)) where
  abbrev out : AsmRec
  out = left internal o primary

  interfaces_up : Ordered (λ (x y : SortedRow). x.key ≤ y.key) (kept_interfaces o.recs o.kept)
  unfolding kept_interfaces
  interfaces_up = sorted_up (λ (x : SortedRow). x.key) (all_rows (λ rec. rec.interface_impl) (sorted_impl o.recs o.kept) o.recs)

  params_up : Ordered (λ (x y : SortedRow). x.key ≤ y.key) (kept_generic_params o.recs o.kept)
  unfolding kept_generic_params
  params_up = sorted_up (λ (x : SortedRow). x.key) (all_rows (λ rec. rec.generic_param) (sorted_param o.recs o.kept) o.recs)

  constraints_up : Ordered (λ (x y : SortedRow). x.key ≤ y.key) (kept_constraints o.recs o.kept)
  unfolding kept_constraints
  constraints_up = sorted_up (λ (x : SortedRow). x.key) (all_rows (λ rec. rec.generic_param_constraint) (sorted_constraint o.recs o.kept) o.recs)

  attributes_up : Ordered (λ (x y : Attribute). coded_of HasCustomAttribute x.parent ≤ coded_of HasCustomAttribute y.parent) (kept_attributes o.recs o.kept)
  unfolding kept_attributes
  attributes_up = sorted_up (λ (x : Attribute). coded_of HasCustomAttribute x.parent) (all_rows (λ rec. rec.custom_attribute) (attribute_in o.recs o.kept) o.recs)

  interface_impls : NeverFalls (λ (row : InterfaceImplRow). row.class) out.interface_impl
  interface_impls =
      pairs (λ (u v : InterfaceImplRow). u.class ≤ v.class) out.interface_impl
      (from_keys (λ (u v : InterfaceImplRow). u.class ≤ v.class) o.recs (λ rec. rec.interface_impl) (new_impl o) (kept_interfaces o.recs o.kept) interfaces_up
      (λ x y c d le u v e f.
      let a : x.owner ≡ u.class = ap (λ (r : InterfaceImplRow). r.class) (from_one o.recs (λ rec. rec.interface_impl) (new_impl o) x u e).4 in
      let b : y.owner ≡ v.class = ap (λ (r : InterfaceImplRow). r.class) (from_one o.recs (λ rec. rec.interface_impl) (new_impl o) y v f).4 in
      let i = (interface_is o.recs o.kept x c).keyed in
      let j = (interface_is o.recs o.kept y d).keyed in
      omega arith))

  constraint_rows : NeverFalls (λ (row : GenericParamConstraintRow). row.owner) out.generic_param_constraint
  constraint_rows =
      pairs (λ (u v : GenericParamConstraintRow). u.owner ≤ v.owner) out.generic_param_constraint
      (from_keys (λ (u v : GenericParamConstraintRow). u.owner ≤ v.owner) o.recs (λ rec. rec.generic_param_constraint) (new_constraint o) (kept_constraints o.recs o.kept) constraints_up
      (λ x y c d le u v e f.
      let a : x.owner ≡ u.owner = ap (λ (r : GenericParamConstraintRow). r.owner) (from_one o.recs (λ rec. rec.generic_param_constraint) (new_constraint o) x u e).4 in
      let b : y.owner ≡ v.owner = ap (λ (r : GenericParamConstraintRow). r.owner) (from_one o.recs (λ rec. rec.generic_param_constraint) (new_constraint o) y v f).4 in
      let i = (constraint_is o.recs o.kept x c).keyed in
      let j = (constraint_is o.recs o.kept y d).keyed in
      omega arith))

  -- a row by its owner and its number, which has 16 bits
  record Param (x : SortedRow) (u : GenericParamRow) : Type 0 where
    owner : u.owner ≡ x.owner
    small : u.number < 65536
    keyed : x.key ≡ param_key u.number u.owner

  param_row : (x : SortedRow) (u : GenericParamRow) → Contains (kept_generic_params o.recs o.kept) x → Contains (one_of o.recs (λ rec. rec.generic_param) new_generic_param x) u → Param x u
  param_row x u c e =
      let i = param_is o.recs o.kept x c in
      let p = from_one o.recs (λ rec. rec.generic_param) new_generic_param x u e in
      let rec : i.rec ≡ p.0 = let g = i.input.there in let h = p.1 in cc in
      let row : i.row ≡ p.2 = let g : slice_get p.0.generic_param x.at.row ≡ Some i.row = subst (λ (r : AsmRec). slice_get r.generic_param x.at.row ≡ Some i.row) rec i.is in let h = p.3 in cc in
      let owner : x.owner ≡ u.owner = ap (λ (r : GenericParamRow). r.owner) p.4 in
      let number : p.2.number ≡ u.number = ap (λ (r : GenericParamRow). r.number) p.4 in
      let small : p.2.number < 65536 = numbers x.at.asm p.0 p.1 x.at.row p.2 p.3 in
      let same : i.row.number ≡ u.number = ap (λ (r : GenericParamRow). r.number) row ∙ number in
      record { owner = sym owner; small = omega arith; keyed = i.keyed ∙ (λ j. param_key (same j) (owner j)) }

  abbrev ByTwo : GenericParamRow → GenericParamRow → Type 0
  ByTwo u v = (coded_of TypeOrMethodDef u.owner < coded_of TypeOrMethodDef v.owner) ⊎ ((coded_of TypeOrMethodDef u.owner ≡ coded_of TypeOrMethodDef v.owner) × (u.number ≤ v.number))

  generic_rows : NeverFallsByTwo (λ (row : GenericParamRow). coded_of TypeOrMethodDef row.owner) (λ row. row.number) out.generic_param
  generic_rows =
      pairs ByTwo out.generic_param
      (from_keys ByTwo o.recs (λ rec. rec.generic_param) new_generic_param (kept_generic_params o.recs o.kept) params_up
      (λ x y c d le u v e f.
      let p = param_row x u c e in
      let q = param_row y v d f in
      let small = p.small in
      let less = q.small in
      let i = p.keyed in
      let j = q.keyed in
      by_both (coded_of TypeOrMethodDef u.owner) (coded_of TypeOrMethodDef v.owner) u.number v.number small less (omega arith)))

  -- ---- nested types, each once

  abbrev nested_key : NestedClassRow → ℕ
  nested_key row = row.nested_class

  abbrev Apart : NestedClassRow → NestedClassRow → Type 0
  Apart x y = nested_key x ≡ nested_key y → ⊥

  -- the place of the type that a row nests
  record Nests (a k : ℕ) (rec : AsmRec) (row : NestedClassRow) (y : NestedClassRow) : Type 0 where
    place : ℕ
    token : row_of row.nested_class ≡ suc place
    placed : place_token table.TYPE_DEF (kept_types o.recs o.kept) (at_row a place) ≡ Some (nested_key y)

  nests_by : (a t : ℕ) (token new : ℕ) → t ≡ table.TYPE_DEF → option_and_then (λ k. place_token t (output_rows o.recs o.kept t) (at_row a k)) (index_in t token) ≡ Some new
      → (place : ℕ) × (row_of token ≡ suc place) × (place_token table.TYPE_DEF (kept_types o.recs o.kept) (at_row a place) ≡ Some new)
  nests_by a t token new same e =
      let moved : option_and_then (λ k. place_token table.TYPE_DEF (kept_types o.recs o.kept) (at_row a k)) (index_in table.TYPE_DEF token) ≡ Some new =
      subst (λ (u : ℕ). option_and_then (λ k. place_token u (output_rows o.recs o.kept u) (at_row a k)) (index_in u token) ≡ Some new) same e in
      let k = and_then_some (λ k. place_token table.TYPE_DEF (kept_types o.recs o.kept) (at_row a k)) (index_in table.TYPE_DEF token) new moved in
      (k.0, (index_row table.TYPE_DEF token k.0 k.1).1, k.2)

  nests_token : (a token new : ℕ) (rec : AsmRec) → Names rec (Index table.TYPE_DEF) token → kept_row_token o.recs o.kept a token ≡ Some new
      → (place : ℕ) × (row_of token ≡ suc place) × (place_token table.TYPE_DEF (kept_types o.recs o.kept) (at_row a place) ≡ Some new)
  unfolding kept_row_token
  nests_token a token new rec is e = nests_by a (table_of token) token new (sym (one_table table.TYPE_DEF (table_of token) (of_index rec table.TYPE_DEF token is).table)) e

  nests : (a k : ℕ) (rec : AsmRec) (row y : NestedClassRow) → OfInput o.recs a rec → slice_get rec.nested_class k ≡ Some row → Contains (new_nested o a rec k row) y → Nests a k rec row y
  nests a k rec row y input there c =
      let n = from_flat (λ nested. map (nested_in nested) (listed (kept_row_token o.recs o.kept a row.enclosing_class))) (listed (kept_row_token o.recs o.kept a row.nested_class)) y c in
      let m = from_map (nested_in n.item) (listed (kept_row_token o.recs o.kept a row.enclosing_class)) y n.inside in
      let is = (records a rec input.within input.there).tokens.nested_classes k row there in
      let t = nests_token a row.nested_class n.item rec is.0 (from_listed (kept_row_token o.recs o.kept a row.nested_class) n.item n.there) in
      let same : n.item ≡ nested_key y = ap nested_key m.2 in
      record { place = t.0; token = t.1; placed = t.2 ∙ ap Some same }

  few : length (kept_types o.recs o.kept) < 16777216
  few = let n = types internal o primary in let f = fit table.TYPE_DEF in omega arith

  one_type : (a b j k : ℕ) (r s : AsmRec) (row other y z : NestedClassRow) → Nests a j r row y → Nests b k s other z → nested_key y ≡ nested_key z → (a ≡ b) × (row_of row.nested_class ≡ row_of other.nested_class)
  one_type a b j k r s row other y z n m e =
      let same = one_place table.TYPE_DEF (kept_types o.recs o.kept) (at_row a n.place) (at_row b m.place) (nested_key y) (omega arith) few n.placed (m.placed ∙ ap Some (sym e)) in
      (ap (λ (x : RowAt). x.asm) same, n.token ∙ ap (λ (x : RowAt). suc x.row) same ∙ sym m.token)

  same_token : (rec : AsmRec) (x y : ℕ) → Names rec (Index table.TYPE_DEF) x → Names rec (Index table.TYPE_DEF) y → row_of x ≡ row_of y → x ≡ y
  same_token rec x y p q e =
      let a = one_table table.TYPE_DEF (table_of x) (of_index rec table.TYPE_DEF x p).table in
      let b = one_table table.TYPE_DEF (table_of y) (of_index rec table.TYPE_DEF y q).table in
      omega arith

  -- a key rises from an earlier row to a later one
  rising : (rec : AsmRec) (a : ℕ) → OfInput o.recs a rec → (j k : ℕ) (row other : NestedClassRow) → j < k → slice_get rec.nested_class j ≡ Some row → slice_get rec.nested_class k ≡ Some other → nested_key row < nested_key other
  rising rec a input j k row other lt e f = climb nested_key rec.nested_class (records a rec input.within input.there).sorted.nested_classes j k row other lt e f

  nested_apart : Ordered Apart (all_rows (λ rec. rec.nested_class) (new_nested o) o.recs)
  nested_apart =
      flat (λ (x y : ℕ × AsmRec). x.0 < y.0) Apart (λ (x : ℕ × AsmRec). each_from (new_nested o x.0 x.1) 0 x.1.nested_class) (inputs o.recs) (inputs_rise o.recs)
      (λ x c.
      let input = an_input o.recs x c in
      each Apart (new_nested o x.0 x.1) 0 x.1.nested_class (λ k row e. alone x.0 (0 + k) x.1 row)
      (λ j k row other lt e f y z c d same.
      let jn : 0 + j ≡ j = omega arith in
      let kn : 0 + k ≡ k = omega arith in
      let n = nests x.0 j x.1 row y input e (subst (λ (m : ℕ). Contains (new_nested o x.0 x.1 m row) y) jn c) in
      let m = nests x.0 k x.1 other z input f (subst (λ (m : ℕ). Contains (new_nested o x.0 x.1 m other) z) kn d) in
      let one = (one_type x.0 x.0 j k x.1 x.1 row other y z n m same).1 in
      let is = records x.0 x.1 input.within input.there in
      let token = same_token x.1 row.nested_class other.nested_class (is.tokens.nested_classes j row e).0 (is.tokens.nested_classes k other f).0 one in
      let less = rising x.1 x.0 input j k row other lt e f in
      omega arith))
      (λ x w c d lt y z e f same.
      let p = from_each (new_nested o x.0 x.1) 0 x.1.nested_class y e in
      let q = from_each (new_nested o w.0 w.1) 0 w.1.nested_class z f in
      let jn : 0 + p.place ≡ p.place = omega arith in
      let kn : 0 + q.place ≡ q.place = omega arith in
      let n = nests x.0 p.place x.1 p.item y (an_input o.recs x c) p.there (subst (λ (m : ℕ). Contains (new_nested o x.0 x.1 m p.item) y) jn p.inside) in
      let m = nests w.0 q.place w.1 q.item z (an_input o.recs w d) q.there (subst (λ (m : ℕ). Contains (new_nested o w.0 w.1 m q.item) z) kn q.inside) in
      let one = (one_type x.0 w.0 p.place q.place x.1 w.1 p.item q.item y z n m same).0 in
      omega arith)
    where
      alone : (a k : ℕ) (rec : AsmRec) (row : NestedClassRow) → Ordered Apart (new_nested o a rec k row)
      alone a k rec row =
          one_option Apart (λ nested. map (nested_in nested) (listed (kept_row_token o.recs o.kept a row.enclosing_class))) (kept_row_token o.recs o.kept a row.nested_class)
          (λ nested. one_mapped Apart (nested_in nested) (kept_row_token o.recs o.kept a row.enclosing_class))

  pub sorted : TablesAreSorted out
  sorted = record {
    interface_impls = interface_impls;
    constants = pairs (λ (x y : ConstantRow). coded_of HasConstant x.parent ≤ coded_of HasConstant y.parent) out.constant (sorted_up (λ (x : ConstantRow). coded_of HasConstant x.parent) (all_rows (λ rec. rec.constant) (new_constant o) o.recs));
    custom_attributes =
        pairs (λ (x y : CustomAttributeRow). coded_of HasCustomAttribute x.parent ≤ coded_of HasCustomAttribute y.parent) out.custom_attribute
        (mapped (λ (x y : Attribute). coded_of HasCustomAttribute x.parent ≤ coded_of HasCustomAttribute y.parent) (λ (x y : CustomAttributeRow). coded_of HasCustomAttribute x.parent ≤ coded_of HasCustomAttribute y.parent)
        (attribute_row o) (kept_attributes o.recs o.kept) (λ a b c d le. le) attributes_up);
    field_marshals = λ k row next e f. absurd (none_there k row e);
    decl_securities = λ k row next e f. absurd (none_there k row e);
    class_layouts = pairs (λ (x y : ClassLayoutRow). x.parent ≤ y.parent) out.class_layout (sorted_up (λ (x : ClassLayoutRow). x.parent) (all_rows (λ rec. rec.class_layout) (new_layout o) o.recs));
    field_layouts = λ k row next e f. absurd (none_there k row e);
    method_semantics =
        pairs (λ (x y : MethodSemanticsRow). coded_of HasSemantics x.association ≤ coded_of HasSemantics y.association) out.method_semantics
        (sorted_up (λ (x : MethodSemanticsRow). coded_of HasSemantics x.association) (all_rows (λ rec. rec.method_semantics) (new_semantics o) o.recs));
    method_impls = pairs (λ (x y : MethodImplRow). x.class ≤ y.class) out.method_impl (sorted_up (λ (x : MethodImplRow). x.class) (all_rows (λ rec. rec.method_impl) (new_method_impl o) o.recs));
    impl_maps = λ k row next e f. absurd (none_there k row e);
    field_rvas = pairs (λ (x y : FieldRvaRow). x.field ≤ y.field) out.field_rva (bytes_up _ (by_key (λ (x : FieldRvaRow). x.field) (all_rows (λ rec. rec.field_rva) (new_field_rva o) o.recs)) (sorted_up (λ (x : FieldRvaRow). x.field) (all_rows (λ rec. rec.field_rva) (new_field_rva o) o.recs)));
    nested_classes = pairs (λ (x y : NestedClassRow). x.nested_class < y.nested_class) out.nested_class (sorted_rises nested_key (all_rows (λ rec. rec.nested_class) (new_nested o) o.recs) nested_apart);
    generic_params = generic_rows;
    generic_param_constraints = constraint_rows;
  }
