-- Fields by their ids have the cells that they have by their rows.
use Rattle.std.proofs.Common.{◌≡◌, ◌<◌, ℕ, zero, suc, ◌+◌, ◌-◌, Bool, true, false, nat_lt, List, [], ◌∷◌, ◌++◌, map, Option, Some, None, refl, ap, ◌∙◌, arith}
use Rattle.std.specs.Prelude.{slice_get, filter, not, if◌then◌else◌}
use Rattle.std.specs.List.{list_any, flat_map}
use Rattle.std.specs.Option.{option_and_then, option_map}
use Rattle.std.proofs.lemmas.Bool.{lt-ltb, le-ltb}
use Rattle.il_base.specs.declared.world_model.expr.TypeExpr.{TypeExpr}
use Rattle.il_base.specs.declared.world_model.members.FieldRow.{FieldRow}
use Rattle.il_base.specs.declared.world_model.record.AsmRec.{AsmRec}
use Rattle.il_base.specs.world_model.Worlds.{rows_before}
use Rattle.rules.specs.declared.link_rules.row_at.RowAt.{RowAt}
use Rattle.rules.specs.link_rules.Types.{at_row}
use Rattle.rules.specs.link_rules.Cycles.{listed, is_static_field}
use Rattle.rules.specs.link_rules.Members.{home_from, fields_in}
use Rattle.rules.specs.type_rules.Rows.{is_instance_field, fields_of_type}
use Rattle.base_laws.proofs.lemmas.type_laws.Places.{place_within}
use Rattle.il_base.specs.declared.cil_values.layout.Shape.{Shape}
use Rattle.rules.specs.step_rules.Closing.{closed_cell_by}
use Rattle.rules.specs.view_rules.Methods.{field_query, field_at, field_by, head_query}
use Rattle.rules.specs.view_rules.Layouts.{cell_type, field_number, own_field_type, layout_of, all_there, first_or_none, instance_fields}
use Rattle.cil_world.specs.world_layouts.Fields.{closed_type, numbered_cell, numbered_layout, numbered_cells}
use Rattle.cil_world.specs.world_layouts.Kinds.{numbers_at}

-- ---- the home of a field's id

home_at : (count : AsmRec → ℕ) (recs : List AsmRec) (i a k : ℕ) (rec : AsmRec) → slice_get recs a ≡ Some rec → k < count rec
    → home_from count i recs (rows_before count recs a + k) ≡ Some (at_row (i + a) k)
unfolding home_from rows_before
home_at count [] i a k rec e lt = cc
home_at count (r ∷ recs) i zero k rec e lt =
    let same : r ≡ rec = cc in
    let n : 0 + k ≡ k = omega arith in
    let z : i + 0 ≡ i = omega arith in
    let t : nat_lt k (count r) ≡ true = lt-ltb k (count r) (rw same lt) in
    rw (n, t, z) refl
home_at count (r ∷ recs) i (suc a) k rec e lt =
    let m = rows_before count recs a in
    let t : nat_lt (count r + m + k) (count r) ≡ false = le-ltb (count r + m + k) (count r) (omega arith) in
    let n : count r + m + k - count r ≡ m + k = omega arith in
    let z : i + suc a ≡ suc i + a = omega arith in
    rw (t, n, z) (home_at count recs (suc i) a k rec e lt)

module _ (recs : List AsmRec) (at : RowAt) where
  there_row : (rec : AsmRec) → slice_get recs at.asm ≡ Some rec → (o : Option FieldRow) → slice_get rec.field at.row ≡ o → list_any (λ (f : FieldRow). not (is_static_field f)) (listed o) ≡ true
      → home_from fields_in 0 recs (field_number recs at) ≡ Some at
  there_row rec here None e is = cc
  there_row rec here (Some f) e is =
      home_at fields_in recs 0 at.asm at.row rec here (place_within rec.field at.row f e) ∙ ap (λ (a : ℕ). Some (at_row a at.row)) (omega arith)

  there_rec : (o : Option AsmRec) → slice_get recs at.asm ≡ o → list_any (λ (f : FieldRow). not (is_static_field f)) (listed (option_and_then (λ (rec : AsmRec). slice_get rec.field at.row) o)) ≡ true
      → home_from fields_in 0 recs (field_number recs at) ≡ Some at
  there_rec None e is = cc
  there_rec (Some rec) e is = there_row rec e (slice_get rec.field at.row) refl is

  field_there : is_instance_field recs at ≡ true → field_query recs (field_number recs at) ≡ field_at recs at
  unfolding field_query
  field_there is = ap (option_and_then (field_at recs)) (there_rec (slice_get recs at.asm) refl is)

-- ---- its closed type

module _ (recs : List AsmRec) (args : List TypeExpr) (at : RowAt) where
  cell_row : (rec : AsmRec) (o : Option FieldRow)
      → option_and_then (closed_type recs args) (option_map (field_by recs at rec) o) ≡ option_and_then (λ (f : FieldRow). option_and_then (closed_cell_by (head_query recs) args []) (own_field_type recs at rec f)) o
  cell_row rec None = refl
  cell_row rec (Some f) = refl

  cell_rec : (o : Option AsmRec)
      → option_and_then (closed_type recs args) (option_and_then (λ (rec : AsmRec). option_map (field_by recs at rec) (slice_get rec.field at.row)) o)
      ≡ option_and_then (λ (rec : AsmRec). option_and_then (λ (f : FieldRow). option_and_then (closed_cell_by (head_query recs) args []) (own_field_type recs at rec f)) (slice_get rec.field at.row)) o
  cell_rec None = refl
  cell_rec (Some rec) = cell_row rec (slice_get rec.field at.row)

  pub cell_same : is_instance_field recs at ≡ true → numbered_cell recs args (field_number recs at) ≡ cell_type recs args at
  unfolding numbered_cell
  cell_same is = ap (option_and_then (closed_type recs args)) (field_there recs at is) ∙ cell_rec (slice_get recs at.asm)

  pub layout_same : (below : TypeExpr → Shape) → is_instance_field recs at ≡ true → numbered_layout recs below args (field_number recs at) ≡ layout_of recs below args at
  unfolding numbered_layout
  layout_same below is = ap (option_and_then _) (cell_same is)

-- ---- lists of them

module _ {A B C : Type 0} (p : A → Bool) (num : A → B) (g : B → C) (h : A → C) (same : (x : A) → p x ≡ true → g (num x) ≡ h x) where
  filtered_by : (x : A) (xs : List A) (b : Bool) → p x ≡ b → map g (map num (filter p xs)) ≡ map h (filter p xs)
      → map g (map num (if b then x ∷ filter p xs else filter p xs)) ≡ map h (if b then x ∷ filter p xs else filter p xs)
  filtered_by x xs true e more = λ i. same x e i ∷ more i
  filtered_by x xs false e more = more

  map_filtered : (xs : List A) → map g (map num (filter p xs)) ≡ map h (filter p xs)
  map_filtered [] = refl
  map_filtered (x ∷ xs) = filtered_by x xs (p x) refl (map_filtered xs)

-- what a look at the first of them gives
first_by : {A B C : Type 0} (num : A → B) (g : B → Option C) (h : A → Option C) (xs : List A) → map g (map num xs) ≡ map h xs
    → option_and_then g (first_or_none (map num xs)) ≡ option_and_then h (first_or_none xs)
first_by num g h [] e = refl
first_by num g h (x ∷ xs) e = cc

-- what lists of them give
flat_by : {A B C : Type 0} (num : A → B) (g : B → Option C) (h : A → Option C) (xs : List A) → map g (map num xs) ≡ map h xs
    → flat_map (λ n. listed (g n)) (map num xs) ≡ flat_map (λ x. listed (h x)) xs
flat_by num g h [] e = refl
flat_by num g h (x ∷ xs) e =
    let here : g (num x) ≡ h x = cc in
    let rest : map g (map num xs) ≡ map h xs = cc in
    λ i. listed (here i) ++ flat_by num g h xs rest i

module _ (recs : List AsmRec) (args : List TypeExpr) (at : RowAt) where
  pub first_same : option_and_then (numbered_cell recs args) (first_or_none (numbers_at recs at)) ≡ option_and_then (cell_type recs args) (first_or_none (instance_fields recs at))
  first_same =
      first_by (field_number recs) (numbered_cell recs args) (cell_type recs args) (instance_fields recs at)
      (map_filtered (is_instance_field recs) (field_number recs) (numbered_cell recs args) (cell_type recs args) (cell_same recs args) (fields_of_type recs at))

  module _ (below : TypeExpr → Shape) where
    layouts_same : map (numbered_layout recs below args) (numbers_at recs at) ≡ map (layout_of recs below args) (instance_fields recs at)
    layouts_same =
        map_filtered (is_instance_field recs) (field_number recs) (numbered_layout recs below args) (layout_of recs below args) (λ x. layout_same recs args x below) (fields_of_type recs at)

    pub cells_same : numbered_cells recs below args (numbers_at recs at) ≡ all_there (map (layout_of recs below args) (instance_fields recs at))
    unfolding numbered_cells
    cells_same = ap all_there layouts_same

    pub listed_same : flat_map (λ n. listed (numbered_layout recs below args n)) (numbers_at recs at) ≡ flat_map (λ f. listed (layout_of recs below args f)) (instance_fields recs at)
    listed_same = flat_by (field_number recs) (numbered_layout recs below args) (layout_of recs below args) (instance_fields recs at) layouts_same
