-- The rows of a type, by the rows of a group.
use Rattle.std.proofs.Common.{◌≡◌, ℕ, suc, List, [], Bool, Option, Some, None, refl, sym, ap, ◌∙◌}
use Rattle.std.specs.Prelude.{slice_get}
use Rattle.std.specs.List.{flat_map}
use Rattle.std.specs.Option.{option_map_or}
use Rattle.std.proofs.lemmas.List.{append-nil}
use Rattle.il_base.specs.declared.ids.Item.{Item}
use Rattle.il_base.specs.declared.table.TheConstants.{TYPE_DEF}
use Rattle.il_base.specs.declared.world_model.types.InterfaceImplRow.{InterfaceImplRow}
use Rattle.il_base.specs.declared.world_model.members.MethodImplRow.{MethodImplRow}
use Rattle.il_base.specs.declared.world_model.record.AsmRec.{AsmRec}
use Rattle.il_base.specs.world_model.Tokens.{token_of}
use Rattle.rules.specs.declared.link_rules.row_at.RowAt.{RowAt}
use Rattle.rules.specs.link_rules.Cycles.{listed}
use Rattle.rules.specs.type_rules.Rows.{each_row}
use Rattle.type_tables.specs.declared.groups.Groups.{Groups}
use Rattle.type_tables.specs.Groups.{rows_with, AreGroups}
use Rattle.type_tables.specs.Tables.{interface_classes, impl_classes}
use Rattle.type_tables.proofs.Grouped.{flat_grouped}
use Rattle.mark_parts.proofs.Grouped.{each_grouped}
use Rattle.base_laws.specs.known_laws.Known.{declared_slot, slot_of_impl, declared_slots, row_of_class, own_rows, row_known, with_interfaces}
use Rattle.marking.specs.mark_known.Facts.{row_at, named_row}

one_listed : {A B : Type 0} (f : A → List B) (o : Option A) (x : A) → o ≡ Some x → flat_map f (listed o) ≡ f x
one_listed f o x e = rw e (append-nil (f x))

module _ (recs : List AsmRec) (c : RowAt) where
  pub no_declared : slice_get recs c.asm ≡ None → declared_slots recs c ≡ []
  unfolding declared_slots
  no_declared e = rw e refl

  pub no_rows : slice_get recs c.asm ≡ None → own_rows recs c ≡ []
  unfolding own_rows
  no_rows e = rw e refl

  pub no_interfaces : (known : Item → Bool) → slice_get recs c.asm ≡ None → with_interfaces recs known c ≡ []
  unfolding with_interfaces
  no_interfaces known e = rw e refl

  module _ (rec : AsmRec) (here : slice_get recs c.asm ≡ Some rec) (groups : Groups) where
    pub declared_grouped : AreGroups (impl_classes rec) groups → (token : ℕ) → token ≡ token_of TYPE_DEF (suc c.row) → (ks : List ℕ) → ks ≡ rows_with groups token
        → flat_map (λ k. option_map_or (declared_slot recs c.asm rec) (slice_get rec.method_impl k) []) ks ≡ declared_slots recs c
    unfolding declared_slots
    declared_grouped are token t ks e =
        let wanted : ℕ = token_of TYPE_DEF (suc c.row) in
        ap (flat_map (λ k. option_map_or (declared_slot recs c.asm rec) (slice_get rec.method_impl k) [])) (e ∙ ap (rows_with groups) t)
        ∙ flat_grouped (λ (r : MethodImplRow). r.class) wanted rec.method_impl groups are (declared_slot recs c.asm rec) (slot_of_impl recs c rec) (λ x. refl)
        ∙ sym (one_listed (λ (rec : AsmRec). flat_map (slot_of_impl recs c rec) rec.method_impl) (slice_get recs c.asm) rec here)

    module _ (are : AreGroups (interface_classes rec) groups) (token : ℕ) (t : token ≡ token_of TYPE_DEF (suc c.row)) (ks : List ℕ) (e : ks ≡ rows_with groups token) where
      pub rows_grouped : flat_map (λ k. option_map_or (row_at c.asm k) (slice_get rec.interface_impl k) []) ks ≡ own_rows recs c
      unfolding own_rows
      rows_grouped =
          let wanted : ℕ = token_of TYPE_DEF (suc c.row) in
          ap (flat_map (λ k. option_map_or (row_at c.asm k) (slice_get rec.interface_impl k) [])) (e ∙ ap (rows_with groups) t)
          ∙ each_grouped (λ (r : InterfaceImplRow). r.class) wanted (row_at c.asm) (row_of_class c) (λ k x. refl) rec.interface_impl groups are
          ∙ sym (one_listed (λ (rec : AsmRec). each_row (row_of_class c) rec.interface_impl) (slice_get recs c.asm) rec here)

      pub interfaces_grouped : (known : Item → Bool) (a : ℕ) → a ≡ c.asm
          → flat_map (λ k. option_map_or (named_row recs known a rec k) (slice_get rec.interface_impl k) []) ks ≡ with_interfaces recs known c
      unfolding with_interfaces
      interfaces_grouped known a place =
          let wanted : ℕ = token_of TYPE_DEF (suc c.row) in
          ap (λ (n : ℕ). flat_map (λ k. option_map_or (named_row recs known n rec k) (slice_get rec.interface_impl k) []) ks) place
          ∙ ap (flat_map (λ k. option_map_or (named_row recs known c.asm rec k) (slice_get rec.interface_impl k) [])) (e ∙ ap (rows_with groups) t)
          ∙ each_grouped (λ (r : InterfaceImplRow). r.class) wanted (named_row recs known c.asm rec) (row_known recs known c rec) (λ k x. refl) rec.interface_impl groups are
          ∙ sym (one_listed (λ (rec : AsmRec). each_row (row_known recs known c rec) rec.interface_impl) (slice_get recs c.asm) rec here)
