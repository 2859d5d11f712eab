-- A change of numbers whose flags are those of a merge.
use Rattle.std.specs.Prelude.{◌≡◌, ◌<◌, suc, length, Bool, Some, IsTrue, slice_get}
use Rattle.std.specs.Option.{is_some}
use Rattle.il_base.specs.declared.world_model.types.TypeDefRow.{TypeDefRow}
use Rattle.il_base.specs.declared.world_model.types.InterfaceImplRow.{InterfaceImplRow}
use Rattle.il_base.specs.declared.world_model.members.FieldRow.{FieldRow}
use Rattle.il_base.specs.declared.world_model.members.MethodDefRow.{MethodDefRow}
use Rattle.il_base.specs.declared.world_model.record.AsmRec.{AsmRec}
use Rattle.rules.specs.declared.link_rules.row_at.RowAt.{RowAt}
use Rattle.rules.specs.type_rules.Rows.{type_row_at, field_row_at}
use Rattle.rules.specs.type_rules.Slots.{method_row_at}
use Rattle.rules.specs.mark_rules.Places.{type_item, method_item, field_item, impl_item}
use Rattle.rules.specs.change_rules.Change.{Keep}
use Rattle.rules.specs.world_change_rules.Places.{keeps_type_row, keeps_method_row, keeps_field_row}
use Rattle.rules.specs.world_change_rules.Kept.{KeepsRows}
use Rattle.rules.specs.merged_world_rules.Merge.{Merge, before}
use Rattle.rules.specs.merged_world_rules.NewNumbers.{type_core}

-- The flags of rows that are there, and of interface rows, are those of their items; what rows of kept items name is kept. So is the core
-- library, and of names that only modifiers use those that the output has too.
pub record HasFlags (m : Merge) (k : Keep) (kept : RowAt → Bool) : Type 0 where
  pub types : (at : RowAt) (t : TypeDefRow) → suc at.asm < length (before m) → type_row_at (before m) at ≡ Some t → keeps_type_row k (before m) at ≡ m.kept (type_item (before m) at)
  pub methods : (at : RowAt) (r : MethodDefRow) → method_row_at (before m) at ≡ Some r → keeps_method_row k (before m) at ≡ m.kept (method_item (before m) at)
  pub fields : (at : RowAt) (f : FieldRow) → field_row_at (before m) at ≡ Some f → keeps_field_row k (before m) at ≡ m.kept (field_item (before m) at)
  pub interfaces : (at : RowAt) (rec : AsmRec) (row : InterfaceImplRow) → slice_get (before m) at.asm ≡ Some rec → slice_get rec.interface_impl at.row ≡ Some row
      → kept at ≡ m.kept (impl_item (before m) at)
  -- the core library
  pub core_types : (at : RowAt) (t : TypeDefRow) → suc at.asm ≡ length (before m) → type_row_at (before m) at ≡ Some t → keeps_type_row k (before m) at ≡ is_some ((type_core m).to at.row)
  pub core_methods : (at : RowAt) (r : MethodDefRow) → suc at.asm ≡ length (before m) → method_row_at (before m) at ≡ Some r → IsTrue (keeps_method_row k (before m) at)
  pub core_fields : (at : RowAt) (f : FieldRow) → suc at.asm ≡ length (before m) → field_row_at (before m) at ≡ Some f → IsTrue (keeps_field_row k (before m) at)
  pub keeps : KeepsRows k kept (before m)
