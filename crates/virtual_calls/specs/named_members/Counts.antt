-- Which members count: public ones of a type itself, public ones of instances of its bases.
use Rattle.std.specs.Prelude.{List, ◌==◌, ◌&&◌, ◌||◌, Bool, not}
use Rattle.il_base.specs.declared.field_flags.TheConstants.{PUBLIC, STATIC}
use Rattle.il_base.specs.Flags.{has_flag, access_of}
use Rattle.il_base.specs.declared.world_model.members.FieldRow.{FieldRow}
use Rattle.il_base.specs.declared.world_model.members.MethodDefRow.{MethodDefRow}
use Rattle.il_base.specs.declared.world_model.record.AsmRec.{AsmRec}
use Rattle.rules.specs.declared.link_rules.row_at.RowAt.{RowAt}
use Rattle.rules.specs.type_rules.Slots.{is_public, is_static}
use Rattle.rules.specs.type_rules.Searches.{field_test, method_test, accessor_test, is_constructor, is_public_accessor, is_instance_accessor}
use Rattle.virtual_calls.specs.declared.named_members.kinds.Kind.{Kind}
use Rattle.virtual_calls.specs.declared.named_members.kinds.Kind.TheVariants.{Field, Method, Property, Event}
use Rattle.virtual_calls.specs.declared.named_members.kinds.Mapped.{Mapped}
use Rattle.virtual_calls.specs.declared.named_members.kinds.Mapped.TheVariants as mapped
use Rattle.virtual_calls.specs.named_members.Accessors.{table_of}

abbrev pub passes_field : Bool → FieldRow → Bool
passes_field inherited f = access_of f.flags == PUBLIC && (not inherited || not (has_flag f.flags STATIC))

abbrev pub passes_method : Bool → MethodDefRow → Bool
passes_method inherited m = is_public m && not (is_constructor m) && (not inherited || not (is_static m))

abbrev pub mapped_counts : List AsmRec → Mapped → Bool → RowAt → Bool
mapped_counts recs m inherited at = accessor_test recs (table_of m) is_public_accessor at && (not inherited || accessor_test recs (table_of m) is_instance_accessor at)

abbrev pub counts : List AsmRec → Kind → Bool → RowAt → Bool
counts recs Field inherited at = field_test recs (passes_field inherited) at
counts recs Method inherited at = method_test recs (passes_method inherited) at
counts recs Property inherited at = mapped_counts recs mapped.Property inherited at
counts recs Event inherited at = mapped_counts recs mapped.Event inherited at
