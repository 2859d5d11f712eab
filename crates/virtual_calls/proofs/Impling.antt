-- The MethodImpl rows of a type, by its group, are those among all rows of its assembly.
use Rattle.std.proofs.Common.{◌≡◌, ℕ, suc, List, [], ◌∷◌, Bool, Option, Some, None, refl, sym, ap, ◌∙◌}
use Rattle.std.specs.Prelude.{slice_get, ◌==◌, if◌then◌else◌}
use Rattle.std.specs.Option.{option_and_then}
use Rattle.il_base.specs.declared.world_model.expr.TypeExpr.{TypeExpr}
use Rattle.il_base.specs.declared.world_model.expr.MethodUse.{MethodUse}
use Rattle.il_base.specs.declared.world_model.types.TypeDefRow.{TypeDefRow}
use Rattle.il_base.specs.declared.world_model.members.MethodImplRow.{MethodImplRow}
use Rattle.il_base.specs.declared.world_model.record.AsmRec.{AsmRec}
use Rattle.il_base.specs.world_model.Tokens.{token_of}
use Rattle.rules.specs.declared.link_rules.row_at.RowAt.{RowAt}
use Rattle.rules.specs.link_rules.Types.{or_else}
use Rattle.rules.specs.link_rules.Members.{generic_method}
use Rattle.rules.specs.type_rules.Dispatch.{good_use, first_impl, impl_body, impl_of_row, impl_in_row}
use Rattle.type_tables.specs.declared.groups.Groups.{Groups}
use Rattle.type_tables.specs.Groups.{first_of, rows_with, AreGroups}
use Rattle.type_tables.specs.Tables.{impl_classes}
use Rattle.type_tables.proofs.Grouped.{first_grouped}
use Rattle.virtual_calls.specs.Impls.{impl_by, impl_at, impl_in_at}

first_same : (look : MethodImplRow → Option RowAt) (rows : List MethodImplRow) → first_of look rows ≡ first_impl look rows
first_same look [] = refl
first_same look (row ∷ rows) = ap (or_else (look row)) (first_same look rows)

module _ (recs : List AsmRec) (e : TypeExpr) (declares : MethodUse → Bool) (at : RowAt) (rec : AsmRec) (here : slice_get recs at.asm ≡ Some rec) where
  abbrev use_by : Option AsmRec → ℕ → Option MethodUse
  use_by o token = option_and_then (λ (r : AsmRec). good_use (generic_method recs at.asm r token)) o

  abbrev impl_given : Option AsmRec → MethodImplRow → Option RowAt
  impl_given o row = option_and_then (λ (d : MethodUse). option_and_then (impl_body recs e declares d) (use_by o row.body)) (use_by o row.declaration)

  by_class : (row : MethodImplRow) → impl_of_row recs e declares at rec row ≡ (if row.class == token_of 0x02 (suc at.row) then impl_by recs e declares at.asm row else None)
  by_class row = ap (λ (o : Option AsmRec). if row.class == token_of 0x02 (suc at.row) then impl_given o row else None) (sym here)

  rows_grouped : (t : TypeDefRow) (groups : Groups) → AreGroups (impl_classes rec) groups
      → first_of (impl_at recs e declares at.asm rec) (rows_with groups (token_of 0x02 (suc at.row))) ≡ impl_in_row recs e declares at rec t
  rows_grouped t groups are =
      first_grouped (λ (r : MethodImplRow). r.class) (token_of 0x02 (suc at.row)) rec.method_impl groups are (impl_by recs e declares at.asm) (impl_of_row recs e declares at rec) by_class
      ∙ first_same (impl_of_row recs e declares at rec) rec.method_impl

  in_type : (t : TypeDefRow) → slice_get rec.type_def at.row ≡ Some t → impl_in_at recs e declares at ≡ impl_in_row recs e declares at rec t
  in_type t f = rw (here, f) refl

  pub impls_found : (t : TypeDefRow) (groups : Groups) (token : ℕ) (rows : List ℕ) (body : Option RowAt) → slice_get rec.type_def at.row ≡ Some t → AreGroups (impl_classes rec) groups
      → token ≡ token_of 0x02 (suc at.row) → rows ≡ rows_with groups token → body ≡ first_of (impl_at recs e declares at.asm rec) rows → body ≡ impl_in_at recs e declares at
  impls_found t groups token rows body f are n r b =
      b ∙ ap (first_of (impl_at recs e declares at.asm rec)) (r ∙ ap (rows_with groups) n) ∙ rows_grouped t groups are ∙ sym (in_type t f)
