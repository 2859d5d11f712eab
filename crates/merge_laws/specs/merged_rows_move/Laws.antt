-- What kept rows have in the world of a merge's output, and their bases, where references are read: each field of the records of
-- `rules/specs/world_change_rules/Rows` that is here stands there under the same name.
use Rattle.std.specs.Prelude.{◌≡◌, ℕ, List, map, Some, None, Bool, IsTrue}
use Rattle.std.specs.List.{filter}
use Rattle.std.specs.Option.{option_map}
use Rattle.il_base.specs.declared.core_table.names.CoreName.{CoreName}
use Rattle.il_base.specs.declared.world_model.expr.TypeExpr.{TypeExpr}
use Rattle.il_base.specs.declared.world_model.types.TypeDefRow.{TypeDefRow}
use Rattle.il_base.specs.declared.world_model.members.MethodDefRow.{MethodDefRow}
use Rattle.il_base.specs.world_model.Worlds.{known_map}
use Rattle.rules.specs.declared.link_rules.row_at.RowAt.{RowAt}
use Rattle.rules.specs.link_rules.Members.{base_at}
use Rattle.rules.specs.link_rules.Cycles.{interfaces_at, is_interface_at, is_core_row_at}
use Rattle.rules.specs.type_rules.Rows.{type_row_at, methods_of_type, fields_of_type, is_instance_field}
use Rattle.rules.specs.type_rules.Slots.{method_row_at, type_of_method, type_of_row}
use Rattle.rules.specs.type_rules.Texts.{name_at}
use Rattle.rules.specs.type_rules.Labels.{label_at, space_at, encloser_at}
use Rattle.rules.specs.view_rules.Methods as view
use Rattle.rules.specs.view_rules.Layouts.{is_core_type, fits_params}
use Rattle.rules.specs.view_rules.Answers.{core_name_at}
use Rattle.rules.specs.change_rules.Change.{Keep, Undone}
use Rattle.rules.specs.change_rules.Moves.{move_expr}
use Rattle.rules.specs.world_change_rules.Places.{type_number, keeps_type_row, keeps_method_row, keeps_field_row}
use Rattle.rules.specs.world_change_rules.Rows.{move_method_type, move_impl, impls_at, keeps_impl, kept_interfaces_at, is_table_type, SameMethod, TypeMoves, CoreMoves}
use Rattle.rules.specs.merged_world_rules.Merge.{Merge, IsMerge, before, after}
use Rattle.rules.specs.merged_world_rules.NewNumbers.{rho_of, back_of, change_of, places_of}
use Rattle.rules.specs.merged_world_rules.Kept.{HasFlags}
use Rattle.merge_laws.specs.merged_rows_move.Premises.{ReadsTokens, HasGoodBases, HasGoodInterfaces, ReadsImpls, ReadsSignatures, KeepsNames}

abbrev pub ForMerges : ((m : Merge) (k : Keep) → Type 0) → Type 0
ForMerges P = (m : Merge) (k : Keep) (kept : RowAt → Bool) → IsMerge m → HasFlags m k kept → P m k

abbrev pub MovesCore : Type 0
MovesCore = ForMerges (λ m k. (undone : Undone (back_of m) (rho_of m)) → CoreMoves (change_of m undone k) (after m) (before m))

-- of a type (II.22.37)
pub record MembersMove (m : Merge) (k : Keep) (at : RowAt) : Type 0 where
  pub methods : methods_of_type (after m) ((places_of m).typ at) ≡ map (places_of m).method (filter (keeps_method_row k (before m)) (methods_of_type (before m) at))
  pub fields : fields_of_type (after m) ((places_of m).typ at) ≡ map (places_of m).field (filter (keeps_field_row k (before m)) (fields_of_type (before m) at))

abbrev pub MovesMembers : Type 0
MovesMembers = ForMerges (λ m k. (at : RowAt) → IsTrue (keeps_type_row k (before m) at) → MembersMove m k at)

-- of rows
pub record TypeMarks (m : Merge) (at : RowAt) : Type 0 where
  pub head : view.head_at (after m) ((places_of m).typ at) ≡ view.head_at (before m) at
  pub params : (t : TypeDefRow) → type_row_at (before m) at ≡ Some t → (args : List TypeExpr) → fits_params (after m) ((places_of m).typ at) args ≡ fits_params (before m) at args
  pub interface : is_interface_at (after m) ((places_of m).typ at) ≡ is_interface_at (before m) at
  pub explicit : view.has_explicit_layout (after m) (Some ((places_of m).typ at)) ≡ view.has_explicit_layout (before m) (Some at)
  pub core_row : (token : ℕ) → IsTrue (is_table_type token) → is_core_row_at (after m) token ((places_of m).typ at) ≡ is_core_row_at (before m) token at
  pub core_name : core_name_at (after m) ((places_of m).typ at) ≡ core_name_at (before m) at
  pub core_type : (name : CoreName) → is_core_type (after m) name ((places_of m).typ at) ≡ is_core_type (before m) name at

pub record MethodMarks (m : Merge) (at : RowAt) : Type 0 where
  pub there : (r : MethodDefRow) → method_row_at (before m) at ≡ Some r → (r' : MethodDefRow) × (method_row_at (after m) ((places_of m).method at) ≡ Some r') × SameMethod r' r
  pub absent : method_row_at (before m) at ≡ None → method_row_at (after m) ((places_of m).method at) ≡ None
  pub owner : type_of_method (after m) ((places_of m).method at) ≡ option_map (places_of m).typ (type_of_method (before m) at)

pub record MarksMove (m : Merge) (k : Keep) : Type 0 where
  pub types : (at : RowAt) → IsTrue (keeps_type_row k (before m) at) → TypeMarks m at
  pub methods : (at : RowAt) → IsTrue (keeps_method_row k (before m) at) → MethodMarks m at
  pub instance : (at : RowAt) → IsTrue (keeps_field_row k (before m) at) → is_instance_field (after m) ((places_of m).field at) ≡ is_instance_field (before m) at

abbrev pub MovesMarks : Type 0
MovesMarks = ForMerges (λ m k. MarksMove m k)

-- where the output's references name what they stand for
abbrev pub MovesBases : Type 0
MovesBases =
    ForMerges (λ m k. ReadsTokens m → HasGoodBases m → (at : RowAt) → IsTrue (keeps_type_row k (before m) at)
    → base_at (after m) ((places_of m).typ at) ≡ option_map (move_expr (rho_of m)) (base_at (before m) at))

abbrev pub MovesInterfaces : Type 0
MovesInterfaces =
    (m : Merge) (k : Keep) (kept : RowAt → Bool) → IsMerge m → HasFlags m k kept → ReadsTokens m → HasGoodInterfaces m k → (at : RowAt) → IsTrue (keeps_type_row k (before m) at)
    → interfaces_at (after m) ((places_of m).typ at) ≡ map (move_expr (rho_of m)) (kept_interfaces_at (before m) kept at)

abbrev pub MovesImpls : Type 0
MovesImpls =
    ForMerges (λ m k. ReadsImpls m k → (at : RowAt) → IsTrue (keeps_type_row k (before m) at)
    → impls_at (after m) ((places_of m).typ at) ≡ map (move_impl (rho_of m)) (filter (keeps_impl k) (impls_at (before m) at)))

-- a type whose text can be printed keeps it, with its names and its encloser
pub record NamesMove (m : Merge) (at : RowAt) : Type 0 where
  pub name : name_at (after m) ((places_of m).typ at) ≡ name_at (before m) at
  pub label : label_at (after m) ((places_of m).typ at) ≡ label_at (before m) at
  pub space : space_at (after m) ((places_of m).typ at) ≡ space_at (before m) at
  pub encloser : encloser_at (after m) ((places_of m).typ at) ≡ option_map (places_of m).typ (encloser_at (before m) at)

abbrev pub MovesNames : Type 0
MovesNames =
    ForMerges (λ m k. KeepsNames m k → (at : RowAt) → IsTrue (keeps_type_row k (before m) at) → IsTrue (k.shown (type_number (before m) at)) → NamesMove m at)

-- a method's signature
abbrev pub MovesSignatures : Type 0
MovesSignatures =
    ForMerges (λ m k. ReadsSignatures m → (at : RowAt) → IsTrue (keeps_method_row k (before m) at)
    → type_of_row (after m) ((places_of m).method at) ≡ option_map (known_map (move_method_type (rho_of m))) (type_of_row (before m) at))

-- all of a type's row
pub record ReadsRows (m : Merge) (k : Keep) : Type 0 where
  pub tokens : ReadsTokens m
  pub bases : HasGoodBases m
  pub interfaces : HasGoodInterfaces m k
  pub impls : ReadsImpls m k
  pub names : KeepsNames m k

abbrev pub MovesTypes : Type 0
MovesTypes =
    (m : Merge) (k : Keep) (kept : RowAt → Bool) → IsMerge m → HasFlags m k kept → (undone : Undone (back_of m) (rho_of m)) → ReadsRows m k → (at : RowAt) → IsTrue (keeps_type_row k (before m) at)
    → TypeMoves (change_of m undone k) kept (places_of m) (after m) (before m) at
