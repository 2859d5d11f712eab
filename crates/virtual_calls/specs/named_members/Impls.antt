-- MethodImpl rows (II.22.27) by which a method overrides another.
use Rattle.std.specs.Prelude.{ℕ, List, Bool, false, ◌&&◌, Option, slice_get}
use Rattle.std.specs.List.{list_any}
use Rattle.std.specs.Option.{option_and_then, option_map_or}
use Rattle.il_base.specs.declared.world_model.expr.TypeExpr.{TypeExpr}
use Rattle.il_base.specs.declared.world_model.expr.MethodUse.{MethodUse}
use Rattle.il_base.specs.declared.world_model.members.MethodImplRow.{MethodImplRow}
use Rattle.il_base.specs.declared.world_model.record.AsmRec.{AsmRec}
use Rattle.rules.specs.declared.link_rules.row_at.RowAt.{RowAt}
use Rattle.rules.specs.link_rules.Cycles.{listed, same_row}
use Rattle.rules.specs.type_rules.Slots.{method_home}
use Rattle.rules.specs.type_rules.Dispatch.{body_at}
use Rattle.rules.specs.type_rules.Searches.{declares, is_impl}
use Rattle.type_tables.specs.Uses.{use_in}

-- whether this is a body for a class, and this method
abbrev pub names_body : List AsmRec → TypeExpr → RowAt → MethodUse → Bool
names_body recs e body b = list_any (same_row body) (listed (option_and_then (body_at recs e) (method_home recs b.method)))

-- whether a row of an assembly has this body for a declaration with this slot
abbrev pub says_so : List AsmRec → TypeExpr → RowAt → Option RowAt → ℕ → MethodImplRow → Bool
says_so recs e body slot a row =
    list_any (names_body recs e body) (listed (use_in recs a row.body)) && list_any (declares recs slot) (listed (use_in recs a row.declaration))

abbrev pub says_so_at : List AsmRec → TypeExpr → RowAt → Option RowAt → ℕ → AsmRec → ℕ → Bool
says_so_at recs e body slot a rec k = option_map_or (says_so recs e body slot a) (slice_get rec.method_impl k) false

-- `has_impl` of the type in a row
abbrev pub has_impl_at : List AsmRec → TypeExpr → RowAt → Option RowAt → RowAt → Bool
has_impl_at recs e body slot at = list_any (λ (rec : AsmRec). list_any (is_impl recs e body slot at rec) rec.method_impl) (listed (slice_get recs at.asm))
