-- The rows that are kept with others, as the rules of marking require: the rows that kept rows name are kept. A type that is shown
-- is kept.
use Rattle.std.specs.Prelude.{◌≡◌, ℕ, List, Some, Bool, true, false, not, ◌||◌, IsTrue}
use Rattle.std.specs.List.{Contains, list_all}
use Rattle.il_base.specs.declared.ids.TypeId.{TypeId}
use Rattle.il_base.specs.declared.world_model.expr.TypeExpr.{TypeExpr}
use Rattle.il_base.specs.declared.world_model.types.TypeDefRow.{TypeDefRow}
use Rattle.il_base.specs.declared.world_model.members.MethodDefRow.{MethodDefRow}
use Rattle.il_base.specs.declared.world_model.record.AsmRec.{AsmRec}
use Rattle.il_base.specs.world_model.Worlds.{prim_type}
use Rattle.rules.specs.declared.link_rules.row_at.RowAt.{RowAt}
use Rattle.rules.specs.link_rules.Members.{array_type, base_at}
use Rattle.rules.specs.link_rules.Cycles.{is_value_type}
use Rattle.rules.specs.type_rules.Rows.{type_row_at, fields_of_type, is_instance_field}
use Rattle.rules.specs.type_rules.Labels.{encloser_at}
use Rattle.rules.specs.type_rules.Slots.{is_virtual, is_new_slot, method_row_at, type_of_method, inherited}
use Rattle.rules.specs.type_rules.Initializers.{initializer}
use Rattle.il_base.specs.declared.cil_values.definition.FieldDef.{FieldDef}
use Rattle.rules.specs.view_rules.Methods.{field_at}
use Rattle.rules.specs.change_rules.Change.{Keep}
use Rattle.rules.specs.change_rules.Keeps.{keeps_expr, keeps_field}
use Rattle.rules.specs.world_change_rules.Places.{type_number, keeps_type_row, keeps_method_row, keeps_field_row}
use Rattle.rules.specs.world_change_rules.Rows.{kept_interfaces_at}

pub record KeepsRows (k : Keep) (kept : RowAt → Bool) (recs : List AsmRec) : Type 0 where
  -- the core library
  pub prims : (n : ℕ) (t : TypeId) → prim_type recs n ≡ Some t → IsTrue (k.typ t.0)
  pub shown_prims : (n : ℕ) (t : TypeId) → prim_type recs n ≡ Some t → IsTrue (k.shown t.0)
  pub array : (t : TypeId) → array_type recs ≡ Some t → IsTrue (k.typ t.0)
  -- a kept type's base, and the interfaces of its kept rows
  pub bases : (at : RowAt) (e : TypeExpr) → IsTrue (keeps_type_row k recs at) → base_at recs at ≡ Some e → IsTrue (keeps_expr k e)
  pub interfaces : (at : RowAt) (e : TypeExpr) → IsTrue (keeps_type_row k recs at) → Contains (kept_interfaces_at recs kept at) e → IsTrue (keeps_expr k e)
  -- each instance field of a kept value type, and the type of a kept field
  pub laid : (at : RowAt) → IsTrue (keeps_type_row k recs at) → is_value_type recs at ≡ true
      → IsTrue (list_all (λ f. not (is_instance_field recs f) || keeps_field_row k recs f) (fields_of_type recs at))
  pub field_types : (at : RowAt) (d : FieldDef) → IsTrue (keeps_field_row k recs at) → field_at recs at ≡ Some d → IsTrue (keeps_field k d)
  -- a shown type is kept, and its encloser is shown, by its row
  pub shown : (t : ℕ) → IsTrue (k.shown t) → IsTrue (k.typ t)
  pub enclosers : (at e : RowAt) → IsTrue (k.shown (type_number recs at)) → encloser_at recs at ≡ Some e
      → IsTrue (k.shown (type_number recs e)) × ((t : TypeDefRow) × (type_row_at recs e ≡ Some t))
  -- a type whose initializer an access can begin is kept, with its initializer (II.10.5.3)
  pub begun : (t : ℕ) → IsTrue (k.begun t) → IsTrue (k.typ t)
  pub started : (at m : RowAt) → IsTrue (k.begun (type_number recs at)) → initializer recs at ≡ Some m → IsTrue (keeps_method_row k recs m)
  -- the nearest inherited method that a kept one overrides (II.10.3)
  pub overridden : (at b : RowAt) (m : MethodDefRow) → IsTrue (keeps_method_row k recs at) → method_row_at recs at ≡ Some m → is_virtual m ≡ true → is_new_slot m ≡ false
      → inherited recs at m ≡ Some b → IsTrue (keeps_method_row k recs b)
  -- a kept method's type
  pub owners : (at owner : RowAt) → IsTrue (keeps_method_row k recs at) → type_of_method recs at ≡ Some owner → IsTrue (keeps_type_row k recs owner)
