-- What the rows of a record keep (II.22): each token names a row that is there, runs follow one another, and sorted tables
-- are sorted. Tables are named by their numbers; rows are counted from 1.
use Rattle.std.specs.Prelude.{◌≡◌, ◌⊎◌, ℕ, suc, ◌+◌, ◌<◌, ◌≤◌, Bool, true, nat_le, ◌==◌, ◌&&◌, ◌||◌, List, [], ◌∷◌, length, get_or, slice_get, Some, IsTrue}
use Rattle.std.specs.List.{list_any}
use Rattle.il_base.specs.declared.table.TheConstants.{TYPE_DEF, FIELD, METHOD_DEF, PARAM, EVENT, PROPERTY, MODULE_REF, ASSEMBLY_REF, GENERIC_PARAM}
use Rattle.il_base.specs.declared.cli_format.column.Column.{Column}
use Rattle.il_base.specs.declared.cli_format.column.Column.TheVariants.{Index, IndexOrNone, Coded, CodedOrNone}
use Rattle.il_base.specs.declared.cli_format.column.CodedIndex.TheVariants.{TypeDefOrRef, HasConstant, HasCustomAttribute, HasFieldMarshal, HasDeclSecurity, MemberRefParent, HasSemantics, MethodDefOrRef, MemberForwarded, Implementation, CustomAttributeType, ResolutionScope, TypeOrMethodDef}
use Rattle.il_base.specs.cli_format.Coded.{targets_of}
use Rattle.il_base.specs.cli_format.Tokens.{coded_of}
use Rattle.il_base.specs.world_model.Tokens.{table_of, row_of}
use Rattle.il_base.specs.declared.world_model.record.AsmRec.{AsmRec}

-- how many rows each table has, by the tables' numbers from 0
unfoldable pub table_sizes : AsmRec → List ℕ
table_sizes rec =
    length rec.«module» ∷ length rec.type_ref ∷ length rec.type_def ∷ 0 ∷ length rec.field ∷ 0 ∷ length rec.method_def ∷ 0
    ∷ length rec.param ∷ length rec.interface_impl ∷ length rec.member_ref ∷ length rec.constant ∷ length rec.custom_attribute
    ∷ length rec.field_marshal ∷ length rec.decl_security ∷ length rec.class_layout ∷ length rec.field_layout
    ∷ length rec.stand_alone_sig ∷ length rec.event_map ∷ 0 ∷ length rec.event ∷ length rec.property_map ∷ 0
    ∷ length rec.property ∷ length rec.method_semantics ∷ length rec.method_impl ∷ length rec.module_ref ∷ length rec.type_spec
    ∷ length rec.impl_map ∷ length rec.field_rva ∷ 0 ∷ 0 ∷ length rec.assembly ∷ length rec.assembly_processor
    ∷ length rec.assembly_os ∷ length rec.assembly_ref ∷ length rec.assembly_ref_processor ∷ length rec.assembly_ref_os
    ∷ length rec.file ∷ length rec.exported_type ∷ length rec.manifest_resource ∷ length rec.nested_class
    ∷ length rec.generic_param ∷ length rec.method_spec ∷ length rec.generic_param_constraint ∷ []

abbrev pub rows_in : AsmRec → ℕ → ℕ
rows_in rec t = get_or (table_sizes rec) t 0

-- ---- tokens

-- a token of one of these tables, whose row is there
unfoldable pub names_row : AsmRec → List ℕ → ℕ → Bool
names_row rec tables token =
    list_any (λ t. t == table_of token) tables && nat_le 1 (row_of token) && nat_le (row_of token) (rows_in rec (table_of token))

-- a token in a column names a row that is there (II.24.2.6); 0 names nothing, in a column that allows it
unfoldable pub names : AsmRec → Column → ℕ → Bool
names rec (Index t) token = names_row rec (t ∷ []) token
names rec (IndexOrNone t) token = (token == 0) || names_row rec (t ∷ []) token
names rec (Coded index) token = names_row rec (targets_of index) token
names rec (CodedOrNone index) token = (token == 0) || names_row rec (targets_of index) token
names rec _ token = true

abbrev pub Names : AsmRec → Column → ℕ → Type 0
Names rec column token = IsTrue (names rec column token)

-- each row of a table
abbrev pub Each : {A : Type 0} → (A → Type 0) → List A → Type 0
Each {A = A} P rows = (k : ℕ) (row : A) → slice_get rows k ≡ Some row → P row

-- Each token of a record names a row that is there, of a table that its column has.
pub record TokensName (rec : AsmRec) : Type 0 where
  pub type_refs : Each (λ row. Names rec (CodedOrNone ResolutionScope) row.resolution_scope) rec.type_ref
  pub type_defs : Each (λ row. Names rec (CodedOrNone TypeDefOrRef) row.extends) rec.type_def
  pub interface_impls : Each (λ row. Names rec (Index TYPE_DEF) row.class × Names rec (Coded TypeDefOrRef) row.interface) rec.interface_impl
  pub member_refs : Each (λ row. Names rec (Coded MemberRefParent) row.class) rec.member_ref
  pub constants : Each (λ row. Names rec (Coded HasConstant) row.parent) rec.constant
  pub custom_attributes : Each (λ row. Names rec (Coded HasCustomAttribute) row.parent × Names rec (Coded CustomAttributeType) row.ctor) rec.custom_attribute
  pub field_marshals : Each (λ row. Names rec (Coded HasFieldMarshal) row.parent) rec.field_marshal
  pub decl_securities : Each (λ row. Names rec (Coded HasDeclSecurity) row.parent) rec.decl_security
  pub class_layouts : Each (λ row. Names rec (Index TYPE_DEF) row.parent) rec.class_layout
  pub field_layouts : Each (λ row. Names rec (Index FIELD) row.field) rec.field_layout
  pub event_maps : Each (λ row. Names rec (Index TYPE_DEF) row.parent) rec.event_map
  pub events : Each (λ row. Names rec (Coded TypeDefOrRef) row.event_type) rec.event
  pub property_maps : Each (λ row. Names rec (Index TYPE_DEF) row.parent) rec.property_map
  pub method_semantics : Each (λ row. Names rec (Index METHOD_DEF) row.method × Names rec (Coded HasSemantics) row.association) rec.method_semantics
  pub method_impls : Each (λ row. Names rec (Index TYPE_DEF) row.class × Names rec (Coded MethodDefOrRef) row.body × Names rec (Coded MethodDefOrRef) row.declaration) rec.method_impl
  pub impl_maps : Each (λ row. Names rec (Coded MemberForwarded) row.member_forwarded × Names rec (IndexOrNone MODULE_REF) row.import_scope) rec.impl_map
  pub field_rvas : Each (λ row. Names rec (Index FIELD) row.field) rec.field_rva
  pub assembly_ref_processors : Each (λ row. Names rec (Index ASSEMBLY_REF) row.assembly_ref) rec.assembly_ref_processor
  pub assembly_ref_os : Each (λ row. Names rec (Index ASSEMBLY_REF) row.assembly_ref) rec.assembly_ref_os
  pub exported_types : Each (λ row. Names rec (CodedOrNone Implementation) row.implementation) rec.exported_type
  pub manifest_resources : Each (λ row. Names rec (CodedOrNone Implementation) row.implementation) rec.manifest_resource
  pub nested_classes : Each (λ row. Names rec (Index TYPE_DEF) row.nested_class × Names rec (Index TYPE_DEF) row.enclosing_class) rec.nested_class
  pub generic_params : Each (λ row. Names rec (Coded TypeOrMethodDef) row.owner) rec.generic_param
  pub method_specs : Each (λ row. Names rec (Coded MethodDefOrRef) row.method) rec.method_spec
  pub generic_param_constraints : Each (λ row. Names rec (Index GENERIC_PARAM) row.owner × Names rec (Coded TypeDefOrRef) row.constraint) rec.generic_param_constraint

-- ---- runs

-- each row with the next
abbrev pub EachPair : {A : Type 0} → (A → A → Type 0) → List A → Type 0
EachPair {A = A} P rows = (k : ℕ) (row next : A) → slice_get rows k ≡ Some row → slice_get rows (suc k) ≡ Some next → P row next

-- Runs in a table of so many rows: each ends where the next begins, the last after the table's last row. `first` is the
-- first row of a run, `end` the row after its last.
pub record AreRuns {A : Type 0} (count : ℕ) (first end : A → ℕ) (rows : List A) : Type 0 where
  pub begins : Each (λ row. 1 ≤ first row) rows
  pub never_falls : Each (λ row. first row ≤ end row) rows
  pub within : Each (λ row. end row ≤ count + 1) rows
  pub meets : EachPair (λ row next. end row ≡ first next) rows
  pub closes : (k : ℕ) (row : A) → slice_get rows k ≡ Some row → suc k ≡ length rows → end row ≡ count + 1

pub record RunsFollow (rec : AsmRec) : Type 0 where
  pub fields : AreRuns (rows_in rec FIELD) (λ row. row.field_list_first) (λ row. row.field_list_end) rec.type_def
  pub methods : AreRuns (rows_in rec METHOD_DEF) (λ row. row.method_list_first) (λ row. row.method_list_end) rec.type_def
  pub params : AreRuns (rows_in rec PARAM) (λ row. row.param_list_first) (λ row. row.param_list_end) rec.method_def
  pub events : AreRuns (rows_in rec EVENT) (λ row. row.event_list_first) (λ row. row.event_list_end) rec.event_map
  pub properties : AreRuns (rows_in rec PROPERTY) (λ row. row.property_list_first) (λ row. row.property_list_end) rec.property_map

-- ---- sorted tables

-- a key never falls from row to row, or rises
abbrev pub NeverFalls : {A : Type 0} → (A → ℕ) → List A → Type 0
NeverFalls key rows = EachPair (λ row next. key row ≤ key next) rows

abbrev pub Rises : {A : Type 0} → (A → ℕ) → List A → Type 0
Rises key rows = EachPair (λ row next. key row < key next) rows

-- a key never falls, and where it stays, a second key never falls
abbrev pub NeverFallsByTwo : {A : Type 0} → (A → ℕ) → (A → ℕ) → List A → Type 0
NeverFallsByTwo key second rows = EachPair (λ row next. (key row < key next) ⊎ ((key row ≡ key next) × (second row ≤ second next))) rows

-- The sorted tables (II.22) are in the order of their keys. Tokens of a coded index are compared by the index's numbers.
pub record TablesAreSorted (rec : AsmRec) : Type 0 where
  pub interface_impls : NeverFalls (λ row. row.class) rec.interface_impl
  pub constants : NeverFalls (λ row. coded_of HasConstant row.parent) rec.constant
  pub custom_attributes : NeverFalls (λ row. coded_of HasCustomAttribute row.parent) rec.custom_attribute
  pub field_marshals : NeverFalls (λ row. coded_of HasFieldMarshal row.parent) rec.field_marshal
  pub decl_securities : NeverFalls (λ row. coded_of HasDeclSecurity row.parent) rec.decl_security
  pub class_layouts : NeverFalls (λ row. row.parent) rec.class_layout
  pub field_layouts : NeverFalls (λ row. row.field) rec.field_layout
  pub method_semantics : NeverFalls (λ row. coded_of HasSemantics row.association) rec.method_semantics
  pub method_impls : NeverFalls (λ row. row.class) rec.method_impl
  pub impl_maps : NeverFalls (λ row. coded_of MemberForwarded row.member_forwarded) rec.impl_map
  pub field_rvas : NeverFalls (λ row. row.field) rec.field_rva
  pub nested_classes : Rises (λ row. row.nested_class) rec.nested_class
  pub generic_params : NeverFallsByTwo (λ row. coded_of TypeOrMethodDef row.owner) (λ row. row.number) rec.generic_param
  pub generic_param_constraints : NeverFalls (λ row. row.owner) rec.generic_param_constraint

-- ---- all of it

-- The record is one that a file can have.
pub record IsRecord (rec : AsmRec) : Type 0 where
  pub tokens : TokensName rec
  pub runs : RunsFollow rec
  pub sorted : TablesAreSorted rec
