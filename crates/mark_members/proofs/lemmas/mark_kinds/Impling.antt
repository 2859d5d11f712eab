-- The interface rows of a type, by the rows of a group.
use Rattle.std.proofs.Common.{◌≡◌, ℕ, suc, List, [], ◌∷◌, Option, Some, None, refl, sym, ap, ◌∙◌}
use Rattle.std.specs.Prelude.{◌==◌, slice_get, if◌then◌else◌}
use Rattle.std.specs.List.{flat_map}
use Rattle.std.proofs.lemmas.List.{append-nil}
use Rattle.il_base.specs.declared.table.TheConstants.{TYPE_DEF}
use Rattle.il_base.specs.declared.world_model.types.InterfaceImplRow.{InterfaceImplRow}
use Rattle.il_base.specs.declared.world_model.record.AsmRec.{AsmRec}
use Rattle.il_base.specs.world_model.Tokens.{token_of}
use Rattle.rules.specs.declared.link_rules.row_at.RowAt.{RowAt}
use Rattle.rules.specs.link_rules.Types.{at_row}
use Rattle.rules.specs.link_rules.Cycles.{listed}
use Rattle.rules.specs.type_rules.Rows.{each_row}
use Rattle.type_tables.specs.declared.groups.Groups.{Groups}
use Rattle.type_tables.specs.Groups.{rows_with, AreGroups}
use Rattle.type_tables.specs.Tables.{interface_classes}
use Rattle.rules.specs.mark_rules.Members.{impls_of_type}
use Rattle.mark_parts.proofs.Grouped.{each_grouped}
use Rattle.mark_members.specs.mark_kinds.Kinds.{impl_at}

one_listed : {A B : Type 0} (f : A → List B) (o : Option A) (x : A) → o ≡ Some x → flat_map f (listed o) ≡ f x
one_listed f o x e = rw e (append-nil (f x))

module _ (recs : List AsmRec) (at : RowAt) where
  by_row : ℕ → InterfaceImplRow → List RowAt
  by_row k row = if row.class == token_of TYPE_DEF (suc at.row) then at_row at.asm k ∷ [] else []

  pub no_impls : slice_get recs at.asm ≡ None → impls_of_type recs at ≡ []
  no_impls e = rw e refl

  pub impls_grouped : (rec : AsmRec) → slice_get recs at.asm ≡ Some rec → (groups : Groups) → AreGroups (interface_classes rec) groups → (token : ℕ) → token ≡ token_of TYPE_DEF (suc at.row) → (ks : List ℕ)
      → ks ≡ rows_with groups token → flat_map (impl_at rec at.asm) ks ≡ impls_of_type recs at
  unfolding by_row
  impls_grouped rec here groups are token t ks r =
      let wanted : ℕ = token_of TYPE_DEF (suc at.row) in
      ap (flat_map (impl_at rec at.asm)) (r ∙ ap (rows_with groups) t)
      ∙ each_grouped (λ (r : InterfaceImplRow). r.class) wanted (λ k (row : InterfaceImplRow). at_row at.asm k ∷ []) by_row (λ k x. refl) rec.interface_impl groups are
      ∙ sym (one_listed (λ (rec : AsmRec). each_row by_row rec.interface_impl) (slice_get recs at.asm) rec here)
