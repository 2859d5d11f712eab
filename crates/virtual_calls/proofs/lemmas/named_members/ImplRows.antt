-- MethodImpl rows of a type, by those of its class.
use Rattle.std.proofs.Common.{◌≡◌, suc, List, Bool, true, false, ◌&&◌, Option, Some, refl, sym, ap, ◌∙◌}
use Rattle.std.specs.Prelude.{◌==◌, ◌||◌, slice_get, if◌then◌else◌}
use Rattle.std.specs.List.{list_any}
use Rattle.std.specs.Option.{option_and_then}
use Rattle.il_base.specs.declared.world_model.expr.TypeExpr.{TypeExpr}
use Rattle.il_base.specs.declared.world_model.members.MethodImplRow.{MethodImplRow}
use Rattle.il_base.specs.declared.world_model.record.AsmRec.{AsmRec}
use Rattle.il_base.specs.world_model.Tokens.{token_of}
use Rattle.rules.specs.declared.link_rules.row_at.RowAt.{RowAt}
use Rattle.rules.specs.link_rules.Members.{generic_method}
use Rattle.rules.specs.link_rules.Cycles.{listed}
use Rattle.rules.specs.type_rules.Dispatch.{good_use}
use Rattle.rules.specs.type_rules.Searches.{declares, is_impl}
use Rattle.type_tables.specs.declared.tables.RowTables.{RowTables}
use Rattle.type_tables.specs.Groups.{rows_with}
use Rattle.type_tables.specs.Tables.{AreRowTables}
use Rattle.type_tables.proofs.Grouped.{any_grouped}
use Rattle.virtual_calls.specs.named_members.Impls.{names_body, says_so, says_so_at, has_impl_at}

one : (b : Bool) → (b || false) ≡ b
one true = refl
one false = refl

if_class : (b x y : Bool) → (b && x && y) ≡ (if b then x && y else false)
if_class true x y = refl
if_class false x y = refl

module _ (recs : List AsmRec) (e : TypeExpr) (body : RowAt) (slot : Option RowAt) (at : RowAt) (rec : AsmRec) (here : slice_get recs at.asm ≡ Some rec) where
  says_there : (row : MethodImplRow) → (list_any (names_body recs e body) (listed (good_use (generic_method recs at.asm rec row.body))) && list_any (declares recs slot) (listed (good_use (generic_method recs at.asm rec row.declaration))))
      ≡ says_so recs e body slot at.asm row
  says_there row =
      ap (λ (o : Option AsmRec). list_any (names_body recs e body) (listed (option_and_then (λ r. good_use (generic_method recs at.asm r row.body)) o)) && list_any (declares recs slot) (listed (option_and_then (λ r. good_use (generic_method recs at.asm r row.declaration)) o))) (sym here)

  by_class : (row : MethodImplRow) → is_impl recs e body slot at rec row ≡ (if row.class == token_of 0x02 (suc at.row) then says_so recs e body slot at.asm row else false)
  by_class row =
      if_class (row.class == token_of 0x02 (suc at.row)) (list_any (names_body recs e body) (listed (good_use (generic_method recs at.asm rec row.body)))) (list_any (declares recs slot) (listed (good_use (generic_method recs at.asm rec row.declaration))))
      ∙ ap (λ (b : Bool). if row.class == token_of 0x02 (suc at.row) then b else false) (says_there row)

  pub impls_found : (tables : RowTables) → AreRowTables rec tables → list_any (says_so_at recs e body slot at.asm rec) (rows_with tables.impls (token_of 0x02 (suc at.row))) ≡ has_impl_at recs e body slot at
  impls_found tables are =
      any_grouped (λ (r : MethodImplRow). r.class) (token_of 0x02 (suc at.row)) rec.method_impl tables.impls are.impls (says_so recs e body slot at.asm) (is_impl recs e body slot at rec) by_class
      ∙ sym (one (list_any (is_impl recs e body slot at rec) rec.method_impl))
      ∙ ap (λ (o : Option AsmRec). list_any (λ (r : AsmRec). list_any (is_impl recs e body slot at r) r.method_impl) (listed o)) (sym here)
