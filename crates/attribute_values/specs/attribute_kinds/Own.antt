-- The kind of a type definition that isn't primitive.
use Rattle.std.specs.Prelude.{List, [], Option, Some, None, if◌then◌else◌}
use Rattle.il_base.specs.declared.world_model.record.AsmRec.{AsmRec}
use Rattle.attr_blobs.specs.declared.kind.ParamKind.{ParamKind}
use Rattle.attr_blobs.specs.declared.kind.ParamKind as kind
use Rattle.rules.specs.declared.link_rules.row_at.RowAt.{RowAt}
use Rattle.rules.specs.type_rules.Rows.{is_enum}
use Rattle.rules.specs.mark_rules.Attributes.{is_system_type_row, enum_size}

abbrev pub own_kind : List AsmRec → RowAt → Option ParamKind
own_kind recs at = if is_system_type_row recs at then Some kind.Typ else if is_enum recs at then Some (kind.Enum [] (enum_size recs at)) else None
