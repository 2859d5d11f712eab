-- The tables of a record that can be laid out fit as cells.
use Rattle.std.proofs.Common.{◌≡◌, ℕ, zero, suc, ◌+◌, true, Bool, List, [], ◌∷◌, map, length, get_or, Some, refl, sym, ap, ◌∙◌, arith}
use Rattle.std.specs.Prelude.{slice_get, ◌&&◌}
use Rattle.std.proofs.lemmas.Bool.{and_parts}
use Rattle.std.proofs.lemmas.List.{length-map}
use Rattle.std.proofs.Math.ListN.{get_or-map}
use Rattle.il_base.specs.declared.cli_format.column.Column.{Column}
use Rattle.il_base.specs.cli_format.Columns.{columns_of, schema}
use Rattle.il_base.specs.declared.world_model.record.AsmRec.{AsmRec}
use Rattle.il_base.specs.world_model.Records.{table_sizes, rows_in}
use Rattle.rules.specs.declared.file_layout.cell.Cell.{Cell}
use Rattle.rules.specs.declared.record_layout.value.Value.{Value}
use Rattle.rules.specs.record_layout.Values.{ValueTables, row_cells, tables_cells}
use Rattle.rules.specs.record_layout.Rows.{module_values, type_ref_values, type_def_values, field_values, method_def_values, param_values, interface_impl_values, member_ref_values, constant_values, custom_attribute_values, field_marshal_values, decl_security_values, class_layout_values, field_layout_values, stand_alone_sig_values, event_map_values, event_values, property_map_values, property_values, method_semantics_values, method_impl_values, module_ref_values, type_spec_values, impl_map_values, field_rva_values, assembly_values, assembly_processor_values, assembly_os_values, assembly_ref_values, assembly_ref_processor_values, assembly_ref_os_values, file_values, exported_type_values, manifest_resource_values, nested_class_values, generic_param_values, method_spec_values, generic_param_constraint_values}
use Rattle.rules.specs.record_layout.Tables.{with_rvas, method_rvas, field_rvas, values_of, cells_of}
use Rattle.file_laws.proofs.lemmas.layout_laws.Within.{Within}
use Rattle.file_laws.proofs.lemmas.layout_laws.RowsJoined.{with_these}
use Rattle.file_laws.proofs.lemmas.layout_laws.RowsFit.{rows_fit}
use Rattle.file_laws.proofs.lemmas.layout_laws.Lists.{of_mapped}
use Rattle.file_laws.proofs.lemmas.layout_laws.Cells.{count}
use Rattle.file_laws.proofs.lemmas.layout_laws.Pools.{TableFits, Fitting}
use Rattle.file_laws.proofs.lemmas.layout_laws.Fits.{row_fits, row_rises, row_sorted}

-- ---- cells of a table

table_cells_from : (tables : ValueTables) (from t : ℕ) → get_or (tables_cells from tables) t [] ≡ map (row_cells (columns_of (from + t))) (get_or tables t [])
unfolding tables_cells
table_cells_from [] from t = refl
table_cells_from (rows ∷ more) from zero =
    let same : from + 0 ≡ from = omega arith in
    rw same refl
table_cells_from (rows ∷ more) from (suc t) =
    let same : from + suc t ≡ suc from + t = omega arith in
    rw same (table_cells_from more (suc from) t)

pub table_cells : (rec : AsmRec) (t : ℕ) → get_or (cells_of rec) t [] ≡ map (row_cells (columns_of t)) (get_or (values_of rec) t [])
unfolding cells_of
table_cells rec t =
    let same : 0 + t ≡ t = omega arith in
    table_cells_from (values_of rec) 0 t ∙ ap (λ (u : ℕ). map (row_cells (columns_of u)) (get_or (values_of rec) t [])) same

tables_long : (tables : ValueTables) (from : ℕ) → length (tables_cells from tables) ≡ length tables
unfolding tables_cells
tables_long [] from = refl
tables_long (rows ∷ more) from = ap suc (tables_long more (suc from))

values_long : (rec : AsmRec) → length (values_of rec) ≡ 45
unfolding values_of
values_long rec = refl

all_tables : (rec : AsmRec) → length (cells_of rec) ≡ 45
unfolding cells_of
all_tables rec = tables_long (values_of rec) 0 ∙ values_long rec

-- ---- rows with addresses

these_long : {A : Type 0} (values : ℕ → A → List Value) (rva : A → ℕ) (rows : List A) (rvas : List ℕ) → map rva rows ≡ rvas → length rows ≡ length (with_rvas values rvas rows)
these_long {A = A} values rva rows rvas e = sym (ap length (with_these values rva rows rvas e) ∙ length-map rows (λ (row : A). values (rva row) row))

-- ---- how many rows

row_counts : (rec : AsmRec) → map (λ m. m.rva) rec.method_def ≡ method_rvas rec → map (λ f. f.rva) rec.field_rva ≡ field_rvas rec → table_sizes rec ≡ map length (values_of rec)
unfolding table_sizes values_of
row_counts rec m f =
    let methods = these_long method_def_values (λ m. m.rva) rec.method_def (method_rvas rec) m in
    let fields = these_long field_rva_values (λ f. f.rva) rec.field_rva (field_rvas rec) f in
    λ i.
    sym (length-map rec.«module» module_values) i ∷ sym (length-map rec.type_ref type_ref_values) i ∷ sym (length-map rec.type_def type_def_values) i ∷ 0
    ∷ sym (length-map rec.field field_values) i ∷ 0 ∷ methods i ∷ 0
    ∷ sym (length-map rec.param param_values) i ∷ sym (length-map rec.interface_impl interface_impl_values) i ∷ sym (length-map rec.member_ref member_ref_values) i
    ∷ sym (length-map rec.constant constant_values) i ∷ sym (length-map rec.custom_attribute custom_attribute_values) i
    ∷ sym (length-map rec.field_marshal field_marshal_values) i ∷ sym (length-map rec.decl_security decl_security_values) i
    ∷ sym (length-map rec.class_layout class_layout_values) i ∷ sym (length-map rec.field_layout field_layout_values) i
    ∷ sym (length-map rec.stand_alone_sig stand_alone_sig_values) i ∷ sym (length-map rec.event_map event_map_values) i ∷ 0
    ∷ sym (length-map rec.event event_values) i ∷ sym (length-map rec.property_map property_map_values) i ∷ 0
    ∷ sym (length-map rec.property property_values) i ∷ sym (length-map rec.method_semantics method_semantics_values) i
    ∷ sym (length-map rec.method_impl method_impl_values) i ∷ sym (length-map rec.module_ref module_ref_values) i
    ∷ sym (length-map rec.type_spec type_spec_values) i ∷ sym (length-map rec.impl_map impl_map_values) i ∷ fields i ∷ 0 ∷ 0
    ∷ sym (length-map rec.assembly assembly_values) i ∷ sym (length-map rec.assembly_processor assembly_processor_values) i
    ∷ sym (length-map rec.assembly_os assembly_os_values) i ∷ sym (length-map rec.assembly_ref assembly_ref_values) i
    ∷ sym (length-map rec.assembly_ref_processor assembly_ref_processor_values) i ∷ sym (length-map rec.assembly_ref_os assembly_ref_os_values) i
    ∷ sym (length-map rec.file file_values) i ∷ sym (length-map rec.exported_type exported_type_values) i
    ∷ sym (length-map rec.manifest_resource manifest_resource_values) i ∷ sym (length-map rec.nested_class nested_class_values) i
    ∷ sym (length-map rec.generic_param generic_param_values) i ∷ sym (length-map rec.method_spec method_spec_values) i
    ∷ sym (length-map rec.generic_param_constraint generic_param_constraint_values) i ∷ []

-- ---- tables that II.22 doesn't have

is_none : {A : Type 0} → List A → Bool
is_none [] = true
is_none (x ∷ xs) = Bool.false

none_of_it : List Column → List (List Value) → Bool
none_of_it [] rows = is_none rows
none_of_it (c ∷ cs) rows = true

unlisted_empty : List (List Column) → ValueTables → Bool
unlisted_empty css [] = true
unlisted_empty [] (rows ∷ more) = Bool.false
unlisted_empty (cs ∷ css) (rows ∷ more) = none_of_it cs rows && unlisted_empty css more

no_rows : {A : Type 0} (xs : List A) → is_none xs ≡ true → xs ≡ []
unfolding is_none
no_rows [] e = refl
no_rows (x ∷ xs) e = absurd cc

empty_at : (css : List (List Column)) (tables : ValueTables) (t : ℕ) → unlisted_empty css tables ≡ true → get_or css t [] ≡ [] → get_or tables t [] ≡ []
unfolding unlisted_empty none_of_it
empty_at css [] t h e = refl
empty_at [] (rows ∷ more) t h e = absurd cc
empty_at ([] ∷ css) (rows ∷ more) zero h e = no_rows rows (and_parts (is_none rows) (unlisted_empty css more) h).0
empty_at ((c ∷ cs) ∷ css) (rows ∷ more) zero h e = absurd cc
empty_at (cs ∷ css) (rows ∷ more) (suc t) h e = empty_at css more t (and_parts (none_of_it cs rows) (unlisted_empty css more) h).1 e

all_unlisted : (rec : AsmRec) → unlisted_empty schema (values_of rec) ≡ true
unfolding unlisted_empty none_of_it is_none schema values_of
all_unlisted rec = refl

unlisted : (rec : AsmRec) (t : ℕ) → columns_of t ≡ [] → get_or (values_of rec) t [] ≡ []
unfolding columns_of
unlisted rec t e = empty_at schema (values_of rec) t (all_unlisted rec) e

-- ---- a record that can be laid out

module _ (rec : AsmRec) (h : Within rec) where
  pub count_values : (t : ℕ) → count (cells_of rec) t ≡ length (get_or (values_of rec) t [])
  count_values t = ap length (table_cells rec t) ∙ length-map (get_or (values_of rec) t []) (row_cells (columns_of t))

  pub same_count : (t : ℕ) → rows_in rec t ≡ count (cells_of rec) t
  same_count t = ap (λ (sizes : List ℕ). get_or sizes t 0) (row_counts rec h.can.body_rvas h.can.data_rvas) ∙ get_or-map length (values_of rec) t [] ∙ sym (count_values t)

  fits_at : (t r : ℕ) (row : List Cell) → slice_get (get_or (cells_of rec) t []) r ≡ Some row → (vs : List Value) × (slice_get (get_or (values_of rec) t []) r ≡ Some vs) × (row_cells (columns_of t) vs ≡ row)
  fits_at t r row e = of_mapped (row_cells (columns_of t)) (get_or (values_of rec) t []) r row (rw (← table_cells rec t) e)

  table_fits : (t : ℕ) → TableFits (cells_of rec) t (get_or (cells_of rec) t [])
  table_fits t = record {
    fits = λ r row e.
        let vs = fits_at t r row e in
        rw (← vs.2) (row_fits (cells_of rec) rec same_count (columns_of t) vs.0 ((rows_fit rec h t).fit r vs.0 vs.1));
    rise = λ r row next e f.
        let vs = fits_at t r row e in
        let ws = fits_at t (suc r) next f in
        rw (← vs.2, ← ws.2) (row_rises rec (columns_of t) vs.0 ws.0 ((rows_fit rec h t).fit r vs.0 vs.1) ((rows_fit rec h t).fit (suc r) ws.0 ws.1) ((rows_fit rec h t).rise r vs.0 ws.0 vs.1 ws.1));
    sorted = λ r row next e f.
        let vs = fits_at t r row e in
        let ws = fits_at t (suc r) next f in
        rw (← vs.2, ← ws.2) (row_sorted rec t vs.0 ws.0 ((rows_fit rec h t).fit r vs.0 vs.1) ((rows_fit rec h t).fit (suc r) ws.0 ws.1) ((rows_fit rec h t).sorted r vs.0 ws.0 vs.1 ws.1));
    known = λ e. table_cells rec t ∙ ap (map (row_cells (columns_of t))) (unlisted rec t e);
    few = omega (arith, same_count t, h.few t);
  }

  size_modules : rows_in rec 0x00 ≡ length rec.«module»
  unfolding table_sizes
  size_modules = refl

  size_types : rows_in rec 0x02 ≡ length rec.type_def
  unfolding table_sizes
  size_types = refl

  size_assemblies : rows_in rec 0x20 ≡ length rec.assembly
  unfolding table_sizes
  size_assemblies = refl

  pub fitting : Fitting (cells_of rec)
  fitting = record {
    all = table_fits;
    tables = all_tables rec;
    modules = sym (same_count 0x00) ∙ size_modules ∙ h.can.one_module;
    assemblies = sym (same_count 0x20) ∙ size_assemblies ∙ h.can.one_assembly;
    types = omega (arith, same_count 0x02, size_types, h.can.some_type);
  }
