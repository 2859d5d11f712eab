-- The kept rows of a world in another world with new numbers: they have the same names and flags, moved types, and of lists of rows
-- the kept ones. Nothing is required of rows that aren't kept.
use Rattle.std.specs.Prelude.{◌≡◌, ℕ, suc, List, [], length, map, Some, None, slice_get, nat_lt, Bool, IsTrue, ◌==◌, if◌then◌else◌}
use Rattle.std.specs.List.{list_any, flat_map, filter}
use Rattle.std.specs.Option.{option_map}
use Rattle.il_base.specs.declared.table.TheConstants.{TYPE_DEF}
use Rattle.il_base.specs.declared.core_table.names.CoreName.{CoreName}
use Rattle.il_base.specs.declared.core_table.types.TheConstants.{TYPES}
use Rattle.il_base.specs.declared.world_model.expr.TypeExpr.{TypeExpr}
use Rattle.il_base.specs.declared.world_model.expr.MethodUse.{MethodUse}
use Rattle.il_base.specs.declared.world_model.members.MethodDefRow.{MethodDefRow}
use Rattle.il_base.specs.declared.world_model.members.MethodImplRow.{MethodImplRow}
use Rattle.il_base.specs.declared.world_model.types.TypeDefRow.{TypeDefRow}
use Rattle.il_base.specs.declared.world_model.types.InterfaceImplRow.{InterfaceImplRow}
use Rattle.il_base.specs.declared.world_model.record.AsmRec.{AsmRec}
use Rattle.il_base.specs.world_model.Tokens.{token_of, index_in}
use Rattle.il_base.specs.world_model.Worlds.{known_map, prim_type}
use Rattle.rules.specs.declared.link_rules.row_at.RowAt.{RowAt}
use Rattle.rules.specs.declared.link_rules.member_type.MethodType.{MethodType}
use Rattle.rules.specs.link_rules.Types.{at_row}
use Rattle.rules.specs.link_rules.Members.{array_type, base_at, generic_method}
use Rattle.rules.specs.link_rules.Cycles.{listed, interface_of, interfaces_at, is_interface_at, is_core_row_at}
use Rattle.rules.specs.type_rules.Rows.{type_row_at, each_row, methods_of_type, fields_of_type, is_instance_field}
use Rattle.rules.specs.type_rules.Slots.{is_static, is_virtual, is_new_slot, is_public, method_row_at, type_of_method, type_of_row}
use Rattle.rules.specs.type_rules.Dispatch.{good_use}
use Rattle.rules.specs.type_rules.Texts.{name_at}
use Rattle.rules.specs.type_rules.Labels.{label_at, space_at, encloser_at}
use Rattle.rules.specs.view_rules.Methods as view
use Rattle.rules.specs.view_rules.Layouts.{is_core_type, fits_params}
use Rattle.rules.specs.view_rules.Members.{core_call}
use Rattle.rules.specs.view_rules.Answers.{core_type_id, core_method_id, core_name_at}
use Rattle.rules.specs.change_rules.Change.{Rho, Keep, Change}
use Rattle.rules.specs.change_rules.Moves.{move_type, move_expr, move_exprs, move_use}
use Rattle.rules.specs.change_rules.Answers.{move_method, move_field}
use Rattle.rules.specs.world_change_rules.Places.{Places, PlacesMove, type_number, keeps_type_row, keeps_method_row, keeps_field_row}

-- ---- signatures

abbrev pub move_method_type : Rho → MethodType → MethodType
move_method_type r m = record m { ret = move_expr r m.ret; params = move_exprs r m.params }

-- ---- interface rows of a type that are kept (II.22.23)

abbrev pub kept_interface_of : List AsmRec → (RowAt → Bool) → ℕ → AsmRec → ℕ → ℕ → InterfaceImplRow → List TypeExpr
kept_interface_of recs kept a rec token k row = if kept (at_row a k) then interface_of recs a rec token row else []

abbrev pub kept_interfaces_in : List AsmRec → (RowAt → Bool) → RowAt → AsmRec → List TypeExpr
kept_interfaces_in recs kept at rec = each_row (kept_interface_of recs kept at.asm rec (token_of TYPE_DEF (suc at.row))) rec.interface_impl

unfoldable pub kept_interfaces_at : List AsmRec → (RowAt → Bool) → RowAt → List TypeExpr
kept_interfaces_at recs kept at = flat_map (kept_interfaces_in recs kept at) (listed (slice_get recs at.asm))

-- ---- MethodImpl rows of a type whose both methods are there: declaration and body (II.22.27)

pub record Impl : Type 0 where
  pub declaration : MethodUse
  pub body : MethodUse

abbrev pub move_impl : Rho → Impl → Impl
move_impl r i = record { declaration = move_use r i.declaration; body = move_use r i.body }

abbrev pub impl_by : MethodUse → MethodUse → Impl
impl_by d b = record { declaration = d; body = b }

abbrev pub impls_by : List AsmRec → ℕ → AsmRec → ℕ → MethodImplRow → List Impl
impls_by recs a rec token row =
    if row.class == token
    then flat_map (λ d. map (impl_by d) (listed (good_use (generic_method recs a rec row.body)))) (listed (good_use (generic_method recs a rec row.declaration)))
    else []

abbrev pub impls_in : List AsmRec → RowAt → AsmRec → List Impl
impls_in recs at rec = flat_map (impls_by recs at.asm rec (token_of TYPE_DEF (suc at.row))) rec.method_impl

unfoldable pub impls_at : List AsmRec → RowAt → List Impl
impls_at recs at = flat_map (impls_in recs at) (listed (slice_get recs at.asm))

abbrev pub keeps_impl : Keep → Impl → Bool
keeps_impl k i = k.method i.body.method.0

-- ---- a method's row by what calls look at (II.23.1.10)

pub record SameMethod (m' m : MethodDefRow) : Type 0 where
  pub name : m'.name ≡ m.name
  pub virtual : is_virtual m' ≡ is_virtual m
  pub static : is_static m' ≡ is_static m
  pub new_slot : is_new_slot m' ≡ is_new_slot m
  pub public : is_public m' ≡ is_public m

-- ---- a type's row

-- whether a token is of a type that the table of the core library has; after those are names that only modifiers use (II.7.1.1)
abbrev pub is_table_type : ℕ → Bool
is_table_type token = list_any (λ n. nat_lt n (length TYPES)) (listed (index_in TYPE_DEF token))

pub record TypeMoves (k : Change) (kept : RowAt → Bool) (p : Places) (after before : List AsmRec) (at : RowAt) : Type 0 where
  pub interface : is_interface_at after (p.typ at) ≡ is_interface_at before at
  pub head : view.head_at after (p.typ at) ≡ view.head_at before at
  pub explicit : view.has_explicit_layout after (Some (p.typ at)) ≡ view.has_explicit_layout before (Some at)
  -- a type whose text can be printed keeps its names, and its encloser
  pub name : IsTrue (k.keep.shown (type_number before at)) → name_at after (p.typ at) ≡ name_at before at
  pub label : IsTrue (k.keep.shown (type_number before at)) → label_at after (p.typ at) ≡ label_at before at
  pub space : IsTrue (k.keep.shown (type_number before at)) → space_at after (p.typ at) ≡ space_at before at
  pub encloser : IsTrue (k.keep.shown (type_number before at)) → encloser_at after (p.typ at) ≡ option_map p.typ (encloser_at before at)
  pub base : base_at after (p.typ at) ≡ option_map (move_expr k.rho) (base_at before at)
  pub interfaces : interfaces_at after (p.typ at) ≡ map (move_expr k.rho) (kept_interfaces_at before kept at)
  pub methods : methods_of_type after (p.typ at) ≡ map p.method (filter (keeps_method_row k.keep before) (methods_of_type before at))
  pub fields : fields_of_type after (p.typ at) ≡ map p.field (filter (keeps_field_row k.keep before) (fields_of_type before at))
  pub impls : impls_at after (p.typ at) ≡ map (move_impl k.rho) (filter (keeps_impl k.keep) (impls_at before at))
  pub core_row : (token : ℕ) → IsTrue (is_table_type token) → is_core_row_at after token (p.typ at) ≡ is_core_row_at before token at
  pub core_name : core_name_at after (p.typ at) ≡ core_name_at before at
  -- of a row that is there
  pub params : (t : TypeDefRow) → type_row_at before at ≡ Some t → (args : List TypeExpr) → fits_params after (p.typ at) args ≡ fits_params before at args
  pub core_type : (name : CoreName) → is_core_type after name (p.typ at) ≡ is_core_type before name at

-- ---- a method's row

pub record MethodMoves (k : Change) (p : Places) (after before : List AsmRec) (at : RowAt) : Type 0 where
  pub there : (m : MethodDefRow) → method_row_at before at ≡ Some m → (m' : MethodDefRow) × (method_row_at after (p.method at) ≡ Some m') × SameMethod m' m
  pub absent : method_row_at before at ≡ None → method_row_at after (p.method at) ≡ None
  pub signature : type_of_row after (p.method at) ≡ option_map (known_map (move_method_type k.rho)) (type_of_row before at)
  pub owner : type_of_method after (p.method at) ≡ option_map p.typ (type_of_method before at)
  pub method : view.method_at after (p.method at) ≡ option_map (move_method k.rho) (view.method_at before at)

-- ---- a field's row

pub record FieldMoves (k : Change) (p : Places) (after before : List AsmRec) (at : RowAt) : Type 0 where
  pub field : view.field_at after (p.field at) ≡ option_map (move_field k.rho) (view.field_at before at)
  pub instance : is_instance_field after (p.field at) ≡ is_instance_field before at

-- ---- the core library

pub record CoreMoves (k : Change) (after before : List AsmRec) : Type 0 where
  pub calls : (m : ℕ) → IsTrue (k.keep.method m) → core_call after (k.rho.method m) ≡ core_call before m
  pub types : (n : CoreName) → core_type_id after n ≡ k.rho.typ (core_type_id before n)
  pub methods : (n : CoreName) → core_method_id after n ≡ k.rho.method (core_method_id before n)
  pub prims : (n : ℕ) → prim_type after n ≡ option_map (move_type k.rho) (prim_type before n)
  pub array : array_type after ≡ option_map (move_type k.rho) (array_type before)

-- ---- all rows

pub record RowsMove (k : Change) (kept : RowAt → Bool) (p : Places) (after before : List AsmRec) : Type 0 where
  pub places : PlacesMove k p after before
  pub types : (at : RowAt) → IsTrue (keeps_type_row k.keep before at) → TypeMoves k kept p after before at
  pub methods : (at : RowAt) → IsTrue (keeps_method_row k.keep before at) → MethodMoves k p after before at
  pub fields : (at : RowAt) → IsTrue (keeps_field_row k.keep before at) → FieldMoves k p after before at
  pub core : CoreMoves k after before
