-- Rows of types, methods and fields: which are kept, and the places of the kept ones in the other world.
use Rattle.std.specs.Prelude.{◌≡◌, ℕ, Bool, Some, IsTrue}
use Rattle.std.specs.Option.{option_map}
use Rattle.il_base.specs.declared.ids.TypeId.{TypeId}
use Rattle.il_base.specs.declared.world_model.types.TypeDefRow.{TypeDefRow}
use Rattle.il_base.specs.declared.world_model.members.FieldRow.{FieldRow}
use Rattle.il_base.specs.declared.world_model.members.MethodDefRow.{MethodDefRow}
use Rattle.il_base.specs.declared.world_model.record.AsmRec.{AsmRec}
use Rattle.std.specs.Prelude.{List}
use Rattle.il_base.specs.world_model.Worlds.{type_id}
use Rattle.rules.specs.declared.link_rules.row_at.RowAt.{RowAt}
use Rattle.rules.specs.link_rules.Members.{home_from, methods_in, fields_in, type_home}
use Rattle.rules.specs.type_rules.Rows.{type_row_at, field_row_at}
use Rattle.rules.specs.type_rules.Slots.{method_row_at}
use Rattle.rules.specs.type_rules.Dispatch.{method_id}
use Rattle.rules.specs.view_rules.Layouts.{field_number}
use Rattle.rules.specs.change_rules.Change.{Keep, Change}

-- the places of kept rows in the other world
pub record Places : Type 0 where
  pub typ : RowAt → RowAt
  pub method : RowAt → RowAt
  pub field : RowAt → RowAt

abbrev pub type_number : List AsmRec → RowAt → ℕ
type_number recs at = (type_id recs at.asm at.row).0

abbrev pub method_number : List AsmRec → RowAt → ℕ
method_number recs at = (method_id recs at).0

-- whether a row is kept
abbrev pub keeps_type_row : Keep → List AsmRec → RowAt → Bool
keeps_type_row k recs at = k.typ (type_number recs at)

abbrev pub keeps_method_row : Keep → List AsmRec → RowAt → Bool
keeps_method_row k recs at = k.method (method_number recs at)

abbrev pub keeps_field_row : Keep → List AsmRec → RowAt → Bool
keeps_field_row k recs at = k.field (field_number recs at)

abbrev pub type_numbered : ℕ → TypeId
type_numbered n = record { 0 = n }

-- The places and the numbers of kept rows go together: `after` has each kept item of `before` under its new number, at its place. A row
-- that isn't there has no number of its own.
pub record PlacesMove (k : Change) (p : Places) (after before : List AsmRec) : Type 0 where
  pub type_homes : (t : ℕ) → IsTrue (k.keep.typ t) → type_home after (type_numbered (k.rho.typ t)) ≡ option_map p.typ (type_home before (type_numbered t))
  pub method_homes : (m : ℕ) → IsTrue (k.keep.method m) → home_from methods_in 0 after (k.rho.method m) ≡ option_map p.method (home_from methods_in 0 before m)
  pub field_homes : (f : ℕ) → IsTrue (k.keep.field f) → home_from fields_in 0 after (k.rho.field f) ≡ option_map p.field (home_from fields_in 0 before f)
  pub types : (at : RowAt) (t : TypeDefRow) → type_row_at before at ≡ Some t → IsTrue (keeps_type_row k.keep before at) → type_number after (p.typ at) ≡ k.rho.typ (type_number before at)
  pub methods : (at : RowAt) (m : MethodDefRow) → method_row_at before at ≡ Some m → IsTrue (keeps_method_row k.keep before at) → method_number after (p.method at) ≡ k.rho.method (method_number before at)
  pub fields : (at : RowAt) (f : FieldRow) → field_row_at before at ≡ Some f → IsTrue (keeps_field_row k.keep before at) → field_number after (p.field at) ≡ k.rho.field (field_number before at)
