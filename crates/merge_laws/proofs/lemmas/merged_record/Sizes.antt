-- Each table of the output has as many rows as there are kept ones, or references.
use Rattle.std.proofs.Common.{◌≡◌, ◌<◌, ◌≤◌, ℕ, zero, suc, ◌+◌, List, [], ◌∷◌, length, map, Bool, true, false, ◌⊎◌, inl, inr, Option, Some, None, refl, sym, ap, subst, ◌∙◌, arith}
use Rattle.std.specs.Prelude.{slice_get, ◌==◌, ◌||◌, if◌then◌else◌}
use Rattle.std.specs.List.{Contains, flat_map}
use Rattle.std.proofs.lemmas.Bool.{eqb-true}
use Rattle.std.proofs.lemmas.List.{length-map}
use Rattle.il_base.specs.declared.ids.Item.{Item}
use Rattle.il_base.specs.declared.body.Body.{Body}
use Rattle.il_base.specs.declared.table.TheConstants as table
use Rattle.rules.specs.file_layout.Bodies.{behind, rvas_behind}
use Rattle.il_base.specs.declared.world_model.known.Known.{Known}
use Rattle.il_base.specs.declared.world_model.types.InterfaceImplRow.{InterfaceImplRow}
use Rattle.il_base.specs.declared.world_model.types.GenericParamRow.{GenericParamRow}
use Rattle.il_base.specs.declared.world_model.types.GenericParamConstraintRow.{GenericParamConstraintRow}
use Rattle.il_base.specs.declared.world_model.members.MethodDefRow.{MethodDefRow}
use Rattle.il_base.specs.declared.world_model.record.AsmRec.{AsmRec}
use Rattle.il_base.specs.world_model.Records.{table_sizes, rows_in}
use Rattle.il_base.specs.world_model.Worlds.{types_in}
use Rattle.rules.specs.declared.link_rules.row_at.RowAt.{RowAt}
use Rattle.rules.specs.link_rules.Types.{at_row}
use Rattle.rules.specs.link_rules.Members.{methods_in, fields_in}
use Rattle.rules.specs.mark_rules.Places.{type_item, method_item, field_item, prop_item, event_item, impl_item, props_in, events_in}
use Rattle.rules.specs.merge_rules.Numbers.{Kept, kept_rows, kept_types, kept_methods, kept_fields, kept_properties, kept_events}
use Rattle.rules.specs.merge_rules.Refs.{Output, method_spec_rows, method_specs, type_specs, type_spec_rows, assembly_refs}
use Rattle.rules.specs.merge_rules.Rows.{SortedRow, all_rows, places, class_token, owner_token, param_token, param_key, sorted_at, sorted_impl, sorted_param, sorted_constraint, kept_params, kept_interfaces, kept_generic_params, kept_constraints, output_rows}
use Rattle.rules.specs.merge_rules.Moved.{moved_type_row, moved_field_row, moved_method_row, moved_param_row, moved_property_row, moved_event_row}
use Rattle.rules.specs.merge_rules.Restricted.{with_rvas, put_rva, bodies_of, placed_methods, moved_methods, new_impl, new_generic_param, new_constraint, restricted_by}
use Rattle.merge_laws.proofs.lemmas.merged_record.Lists.{first_in, from_if, row_below, below_length, OfInput, from_all}
use Rattle.merge_laws.proofs.lemmas.merged_record.Sorting.{sorted_in}
use Rattle.merge_laws.proofs.lemmas.merged_record.Rows.{IsThere, places_length, sorted_length, from_sorted_at, IsKept, from_kept, from_kept_params}

-- ---- rows that are there

kept_there : {R : Type 0} (rows : AsmRec → List R) (item : RowAt → Item) (recs : List AsmRec) (kept : Kept) (at : RowAt) → Contains (kept_rows (λ rec. length (rows rec)) item recs kept) at → IsThere recs rows at
kept_there rows item recs kept at c =
    let k = from_kept (λ rec. length (rows rec)) item recs kept at c in
    let r = row_below (rows k.rec) at.row k.below in
    record { rec = k.rec; there = k.input.there; row = r.0; is = r.1 }

pub types_there : (recs : List AsmRec) (kept : Kept) (at : RowAt) → Contains (kept_types recs kept) at → IsThere recs (λ rec. rec.type_def) at
unfolding kept_types
types_there recs kept at c = kept_there (λ rec. rec.type_def) (type_item recs) recs kept at c

pub methods_there : (recs : List AsmRec) (kept : Kept) (at : RowAt) → Contains (kept_methods recs kept) at → IsThere recs (λ rec. rec.method_def) at
unfolding kept_methods
methods_there recs kept at c = kept_there (λ rec. rec.method_def) (method_item recs) recs kept at c

pub fields_there : (recs : List AsmRec) (kept : Kept) (at : RowAt) → Contains (kept_fields recs kept) at → IsThere recs (λ rec. rec.field) at
unfolding kept_fields
fields_there recs kept at c = kept_there (λ rec. rec.field) (field_item recs) recs kept at c

pub properties_there : (recs : List AsmRec) (kept : Kept) (at : RowAt) → Contains (kept_properties recs kept) at → IsThere recs (λ rec. rec.property) at
unfolding kept_properties
properties_there recs kept at c = kept_there (λ rec. rec.property) (prop_item recs) recs kept at c

pub events_there : (recs : List AsmRec) (kept : Kept) (at : RowAt) → Contains (kept_events recs kept) at → IsThere recs (λ rec. rec.event) at
unfolding kept_events
events_there recs kept at c = kept_there (λ rec. rec.event) (event_item recs) recs kept at c

pub params_there : (recs : List AsmRec) (kept : Kept) (m : RowAt) → Contains (kept_params recs kept) m → IsThere recs (λ rec. rec.param) m
params_there recs kept m c =
    let p = (from_kept_params recs kept m c).2 in
    let r = row_below p.rec.param m.row p.below in
    record { rec = p.rec; there = ap (slice_get recs) p.asm ∙ p.there; row = r.0; is = r.1 }

-- ---- sorted rows

-- a row with the new token of its owner
pub record IsSorted {R : Type 0} (recs : List AsmRec) (rows : AsmRec → List R) (owner : ℕ → R → Option ℕ) (key : R → ℕ → ℕ) (x : SortedRow) : Type 0 where
  pub rec : AsmRec
  pub input : OfInput recs x.at.asm rec
  pub row : R
  pub is : slice_get (rows rec) x.at.row ≡ Some row
  pub owned : owner x.at.asm row ≡ Some x.owner
  pub keyed : x.key ≡ key row x.owner

sorted_one : {R : Type 0} (recs : List AsmRec) (rows : AsmRec → List R) (owner : ℕ → R → Option ℕ) (key : R → ℕ → ℕ) (a k : ℕ) (rec : AsmRec) (row : R) (x : SortedRow) → OfInput recs a rec → slice_get (rows rec) k ≡ Some row
    → Contains (sorted_at a k (key row) (owner a row)) x → IsSorted recs rows owner key x
sorted_one recs rows owner key a k rec row x input is c =
    let s = from_sorted_at a k (key row) (owner a row) x c in
    let asm : x.at.asm ≡ a = ap (λ (y : RowAt). y.asm) s.2 in
    let place : x.at.row ≡ k = ap (λ (y : RowAt). y.row) s.2 in
    record {
      rec = rec;
      input = subst (λ (n : ℕ). OfInput recs n rec) (sym asm) input;
      row = row;
      is = ap (slice_get (rows rec)) place ∙ is;
      owned = ap (λ (n : ℕ). owner n row) asm ∙ s.1 ∙ ap Some (sym s.3);
      keyed = s.4 ∙ ap (key row) (sym s.3);
    }

module _ (recs : List AsmRec) (kept : Kept) where
  pub interface_is : (x : SortedRow) → Contains (kept_interfaces recs kept) x → IsSorted recs (λ rec. rec.interface_impl) (λ a row. class_token recs kept a row.class) (λ row token. token) x
  unfolding kept_interfaces
  interface_is x c =
      let all : List SortedRow = all_rows (λ rec. rec.interface_impl) (sorted_impl recs kept) recs in
      let r = from_all (λ rec. rec.interface_impl) (sorted_impl recs kept) recs x (sorted_in (λ (y : SortedRow). y.key) all x c) in
      let i = from_if (kept (impl_item recs (at_row r.asm r.place))) (sorted_at r.asm r.place (λ token. token) (class_token recs kept r.asm r.row.class)) x r.inside in
      sorted_one recs (λ rec. rec.interface_impl) (λ a (row : InterfaceImplRow). class_token recs kept a row.class) (λ row token. token) r.asm r.place r.rec r.row x r.input r.there i.1

  pub param_is : (x : SortedRow) → Contains (kept_generic_params recs kept) x → IsSorted recs (λ rec. rec.generic_param) (λ a row. owner_token recs kept a row.owner) (λ row token. param_key row.number token) x
  unfolding kept_generic_params
  param_is x c =
      let all : List SortedRow = all_rows (λ rec. rec.generic_param) (sorted_param recs kept) recs in
      let r = from_all (λ rec. rec.generic_param) (sorted_param recs kept) recs x (sorted_in (λ (y : SortedRow). y.key) all x c) in
      sorted_one recs (λ rec. rec.generic_param) (λ a (row : GenericParamRow). owner_token recs kept a row.owner) (λ (row : GenericParamRow) token. param_key row.number token) r.asm r.place r.rec r.row x r.input r.there r.inside

  pub constraint_is : (x : SortedRow) → Contains (kept_constraints recs kept) x → IsSorted recs (λ rec. rec.generic_param_constraint) (λ a row. param_token recs kept a row.owner) (λ row token. token) x
  unfolding kept_constraints
  constraint_is x c =
      let all : List SortedRow = all_rows (λ rec. rec.generic_param_constraint) (sorted_constraint recs kept) recs in
      let r = from_all (λ rec. rec.generic_param_constraint) (sorted_constraint recs kept) recs x (sorted_in (λ (y : SortedRow). y.key) all x c) in
      sorted_one recs (λ rec. rec.generic_param_constraint) (λ a (row : GenericParamConstraintRow). param_token recs kept a row.owner) (λ row token. token) r.asm r.place r.rec r.row x r.input r.there r.inside

sorted_there : {R : Type 0} (recs : List AsmRec) (rows : AsmRec → List R) (owner : ℕ → R → Option ℕ) (key : R → ℕ → ℕ) (x : SortedRow) → IsSorted recs rows owner key x → IsThere recs rows x.at
sorted_there recs rows owner key x s = record { rec = s.rec; there = s.input.there; row = s.row; is = s.is }

-- ---- methods with their addresses

rvas_length : (before : List ℕ) (bodies : List (Option (Known Body))) → length (rvas_behind before bodies) ≡ length bodies
unfolding rvas_behind
rvas_length before [] = refl
rvas_length before (b ∷ bs) = ap suc (rvas_length (behind before b) bs)

pub record OfPlaced (ms : List MethodDefRow) (k : ℕ) (m : MethodDefRow) : Type 0 where
  pub old : MethodDefRow
  pub there : slice_get ms k ≡ Some old
  pub first : m.param_list_first ≡ old.param_list_first
  pub end : m.param_list_end ≡ old.param_list_end

of_rvas : (rvas : List ℕ) (ms : List MethodDefRow) (k : ℕ) (m : MethodDefRow) → slice_get (with_rvas rvas ms) k ≡ Some m → OfPlaced ms k m
unfolding with_rvas
of_rvas [] ms k m e = absurd (cc)
of_rvas (r ∷ rvas) [] k m e = absurd (cc)
of_rvas (r ∷ rvas) (x ∷ ms) zero m e =
    let same : put_rva r x ≡ m = cc in
    record { old = x; there = refl; first = sym (ap (λ (y : MethodDefRow). y.param_list_first) same); end = sym (ap (λ (y : MethodDefRow). y.param_list_end) same) }
of_rvas (r ∷ rvas) (x ∷ ms) (suc k) m e = let o = of_rvas rvas ms k m e in record { old = o.old; there = o.there; first = o.first; end = o.end }

with_length : (rvas : List ℕ) (ms : List MethodDefRow) → length rvas ≡ length ms → length (with_rvas rvas ms) ≡ length ms
unfolding with_rvas
with_length [] [] e = refl
with_length [] (m ∷ ms) e = absurd (omega arith)
with_length (r ∷ rvas) [] e = refl
with_length (r ∷ rvas) (m ∷ ms) e = ap suc (with_length rvas ms (let n : suc (length rvas) ≡ suc (length ms) = e in omega arith))

pub of_placed : (ms : List MethodDefRow) (k : ℕ) (m : MethodDefRow) → slice_get (placed_methods ms) k ≡ Some m → OfPlaced ms k m
of_placed ms k m e = of_rvas (rvas_behind [] (bodies_of ms)) ms k m e

pub placed_length : (ms : List MethodDefRow) → length (placed_methods ms) ≡ length ms
placed_length ms = with_length (rvas_behind [] (bodies_of ms)) ms (rvas_length [] (bodies_of ms) ∙ length-map ms (λ (m : MethodDefRow). m.body))

-- ---- the tables

module _ (internal : Bool) (o : Output) (primary : AsmRec) where
  abbrev pub left : AsmRec
  left = restricted_by internal o (placed_methods (moved_methods o)) primary

  pub types : rows_in left table.TYPE_DEF ≡ length (kept_types o.recs o.kept)
  unfolding table_sizes
  types = places_length o.recs (λ rec. rec.type_def) (moved_type_row internal o) (kept_types o.recs o.kept) (types_there o.recs o.kept)

  pub fields : rows_in left table.FIELD ≡ length (kept_fields o.recs o.kept)
  unfolding table_sizes
  fields = places_length o.recs (λ rec. rec.field) (moved_field_row o) (kept_fields o.recs o.kept) (fields_there o.recs o.kept)

  pub methods : rows_in left table.METHOD_DEF ≡ length (kept_methods o.recs o.kept)
  unfolding table_sizes
  methods = placed_length (moved_methods o) ∙ places_length o.recs (λ rec. rec.method_def) (moved_method_row o) (kept_methods o.recs o.kept) (methods_there o.recs o.kept)

  pub params : rows_in left table.PARAM ≡ length (kept_params o.recs o.kept)
  unfolding table_sizes
  params = places_length o.recs (λ rec. rec.param) (λ at rec row. moved_param_row row) (kept_params o.recs o.kept) (params_there o.recs o.kept)

  pub properties : rows_in left table.PROPERTY ≡ length (kept_properties o.recs o.kept)
  unfolding table_sizes
  properties = places_length o.recs (λ rec. rec.property) (moved_property_row o) (kept_properties o.recs o.kept) (properties_there o.recs o.kept)

  pub events : rows_in left table.EVENT ≡ length (kept_events o.recs o.kept)
  unfolding table_sizes
  events = places_length o.recs (λ rec. rec.event) (moved_event_row o) (kept_events o.recs o.kept) (events_there o.recs o.kept)

  same_places : (xs : List SortedRow) → length xs ≡ length (places xs)
  same_places xs = sym (length-map xs (λ (x : SortedRow). x.at))

  pub interfaces : rows_in left table.INTERFACE_IMPL ≡ length (places (kept_interfaces o.recs o.kept))
  unfolding table_sizes
  interfaces =
      sorted_length o.recs (λ rec. rec.interface_impl) (new_impl o) (kept_interfaces o.recs o.kept)
      (λ x c. sorted_there o.recs (λ rec. rec.interface_impl) (λ a (row : InterfaceImplRow). class_token o.recs o.kept a row.class) (λ row token. token) x (interface_is o.recs o.kept x c)) ∙ same_places (kept_interfaces o.recs o.kept)

  pub generic_params : rows_in left table.GENERIC_PARAM ≡ length (places (kept_generic_params o.recs o.kept))
  unfolding table_sizes
  generic_params =
      sorted_length o.recs (λ rec. rec.generic_param) new_generic_param (kept_generic_params o.recs o.kept)
      (λ x c. sorted_there o.recs (λ rec. rec.generic_param) (λ a (row : GenericParamRow). owner_token o.recs o.kept a row.owner) (λ (row : GenericParamRow) token. param_key row.number token) x (param_is o.recs o.kept x c))
      ∙ same_places (kept_generic_params o.recs o.kept)

  pub constraints : rows_in left table.GENERIC_PARAM_CONSTRAINT ≡ length (places (kept_constraints o.recs o.kept))
  unfolding table_sizes
  constraints =
      sorted_length o.recs (λ rec. rec.generic_param_constraint) (new_constraint o) (kept_constraints o.recs o.kept)
      (λ x c. sorted_there o.recs (λ rec. rec.generic_param_constraint) (λ a (row : GenericParamConstraintRow). param_token o.recs o.kept a row.owner) (λ row token. token) x (constraint_is o.recs o.kept x c))
      ∙ same_places (kept_constraints o.recs o.kept)

  pub type_ref_rows_are : rows_in left table.TYPE_REF ≡ length left.type_ref
  unfolding table_sizes
  type_ref_rows_are = refl

  pub member_ref_rows_are : rows_in left table.MEMBER_REF ≡ length left.member_ref
  unfolding table_sizes
  member_ref_rows_are = refl

  module_rows_are : rows_in left table.MODULE ≡ rows_in primary table.MODULE
  unfolding table_sizes
  module_rows_are = refl

  assembly_rows_are : rows_in left table.ASSEMBLY ≡ rows_in primary table.ASSEMBLY
  unfolding table_sizes
  assembly_rows_are = length-map primary.assembly _

  pub type_spec_rows_are : rows_in left table.TYPE_SPEC ≡ length (type_specs o.recs o.mets)
  unfolding table_sizes type_spec_rows
  type_spec_rows_are = length-map (type_specs o.recs o.mets) _

  pub assembly_ref_rows_are : rows_in left table.ASSEMBLY_REF ≡ length (assembly_refs o.recs o.mets)
  unfolding table_sizes
  assembly_ref_rows_are = refl

  -- ---- all tables that have kept rows

  pick : (b : Bool) (xs ys : List RowAt) (n : ℕ) → (b ≡ true → length xs ≤ n) → (b ≡ false → length ys ≤ n) → length (if b then xs else ys) ≤ n
  pick true xs ys n this other = this refl
  pick false xs ys n this other = other refl

  at_table : (t u : ℕ) (xs : List RowAt) → rows_in left u ≡ length xs → (t == u) ≡ true → length xs ≤ rows_in left t
  at_table t u xs size e = let same : t ≡ u = eqb-true t u e in let long : rows_in left t ≡ length xs = ap (rows_in left) same ∙ size in omega arith

  either : (b c : Bool) → (b || c) ≡ true → (b ≡ true) ⊎ (c ≡ true)
  either true c e = inl refl
  either false c e = inr e

  -- the module and the assembly have a row where the first input has one
  pub sizes : (t : ℕ) → (t ≡ table.MODULE → 1 ≤ rows_in primary table.MODULE) → (t ≡ table.ASSEMBLY → 1 ≤ rows_in primary table.ASSEMBLY) → length (output_rows o.recs o.kept t) ≤ rows_in left t
  sizes t modules assemblies =
      pick (t == table.TYPE_DEF) (kept_types o.recs o.kept) _ (rows_in left t) (at_table t table.TYPE_DEF (kept_types o.recs o.kept) types)
      (λ e. pick (t == table.FIELD) (kept_fields o.recs o.kept) _ (rows_in left t) (at_table t table.FIELD (kept_fields o.recs o.kept) fields)
      (λ e. pick (t == table.METHOD_DEF) (kept_methods o.recs o.kept) _ (rows_in left t) (at_table t table.METHOD_DEF (kept_methods o.recs o.kept) methods)
      (λ e. pick (t == table.PARAM) (kept_params o.recs o.kept) _ (rows_in left t) (at_table t table.PARAM (kept_params o.recs o.kept) params)
      (λ e. pick (t == table.INTERFACE_IMPL) (places (kept_interfaces o.recs o.kept)) _ (rows_in left t) (at_table t table.INTERFACE_IMPL (places (kept_interfaces o.recs o.kept)) interfaces)
      (λ e. pick (t == table.EVENT) (kept_events o.recs o.kept) _ (rows_in left t) (at_table t table.EVENT (kept_events o.recs o.kept) events)
      (λ e. pick (t == table.PROPERTY) (kept_properties o.recs o.kept) _ (rows_in left t) (at_table t table.PROPERTY (kept_properties o.recs o.kept) properties)
      (λ e. pick (t == table.GENERIC_PARAM) (places (kept_generic_params o.recs o.kept)) _ (rows_in left t) (at_table t table.GENERIC_PARAM (places (kept_generic_params o.recs o.kept)) generic_params)
      (λ e. pick (t == table.GENERIC_PARAM_CONSTRAINT) (places (kept_constraints o.recs o.kept)) _ (rows_in left t) (at_table t table.GENERIC_PARAM_CONSTRAINT (places (kept_constraints o.recs o.kept)) constraints)
      (λ e. pick (t == table.ASSEMBLY || t == table.MODULE) (at_row 0 0 ∷ []) [] (rows_in left t) (λ h. one_row (either (t == table.ASSEMBLY) (t == table.MODULE) h)) (λ h. omega arith))))))))))
    where
      one_row : ((t == table.ASSEMBLY) ≡ true) ⊎ ((t == table.MODULE) ≡ true) → 1 ≤ rows_in left t
      one_row (inl h) =
          let same : t ≡ table.ASSEMBLY = eqb-true t table.ASSEMBLY h in
          let one = assemblies same in
          let long : rows_in left t ≡ rows_in primary table.ASSEMBLY = ap (rows_in left) same ∙ assembly_rows_are in
          omega arith
      one_row (inr h) =
          let same : t ≡ table.MODULE = eqb-true t table.MODULE h in
          let one = modules same in
          let long : rows_in left t ≡ rows_in primary table.MODULE = ap (rows_in left) same ∙ module_rows_are in
          omega arith
