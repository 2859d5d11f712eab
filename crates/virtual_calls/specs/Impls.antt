-- MethodImpl rows by the type that they belong to.
use Rattle.std.specs.Prelude.{ℕ, List, Bool, Option, None, slice_get}
use Rattle.std.specs.List.{list_any}
use Rattle.std.specs.Option.{option_and_then, option_map_or}
use Rattle.il_base.specs.declared.world_model.expr.TypeExpr.{TypeExpr}
use Rattle.il_base.specs.declared.world_model.expr.MethodUse.{MethodUse}
use Rattle.il_base.specs.declared.world_model.members.MethodImplRow.{MethodImplRow}
use Rattle.il_base.specs.declared.world_model.record.AsmRec.{AsmRec}
use Rattle.rules.specs.declared.link_rules.row_at.RowAt.{RowAt}
use Rattle.rules.specs.link_rules.Cycles.{listed, same_row, home_of}
use Rattle.rules.specs.type_rules.Dispatch.{declares_slot, declares_in, impl_body, impl_in_row}
use Rattle.type_tables.specs.Uses.{use_in}
use Rattle.virtual_calls.specs.declared.impls.Declares.{Declares}
use Rattle.virtual_calls.specs.declared.impls.Declares.TheVariants.{Slot, In}

-- whether a declaration counts
abbrev pub declares_by : List AsmRec → Declares → MethodUse → Bool
declares_by recs (Slot slot) d = declares_slot recs slot d
declares_by recs (In slot instance targs) d = declares_in recs slot instance.now targs.now d

-- whether a type has this definition
abbrev pub stands_at : List AsmRec → Option RowAt → TypeExpr → Bool
stands_at recs owner e = list_any (λ (x : RowAt). list_any (same_row x) (listed owner)) (listed (home_of recs e))

-- the body of a row of an assembly, where its declaration counts
abbrev pub impl_by : List AsmRec → TypeExpr → (MethodUse → Bool) → ℕ → MethodImplRow → Option RowAt
impl_by recs e declares a row =
    option_and_then (λ (d : MethodUse). option_and_then (impl_body recs e declares d) (use_in recs a row.body)) (use_in recs a row.declaration)

abbrev pub impl_at : List AsmRec → TypeExpr → (MethodUse → Bool) → ℕ → AsmRec → ℕ → Option RowAt
impl_at recs e declares a rec k = option_map_or (impl_by recs e declares a) (slice_get rec.method_impl k) None

-- `impl_in` of the type in a row
abbrev pub impl_in_at : List AsmRec → TypeExpr → (MethodUse → Bool) → RowAt → Option RowAt
impl_in_at recs e declares at =
    option_and_then (λ (rec : AsmRec). option_and_then (impl_in_row recs e declares at rec) (slice_get rec.type_def at.row)) (slice_get recs at.asm)
