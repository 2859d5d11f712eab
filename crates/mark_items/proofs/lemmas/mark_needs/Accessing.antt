-- What a method is an accessor of, by the rows of a group.
use Rattle.std.proofs.Common.{◌≡◌, ℕ, suc, List, [], ◌∷◌, ◌++◌, Bool, true, false, Option, Some, None, refl, sym, ap, ◌∙◌}
use Rattle.std.specs.Prelude.{◌==◌, ◌&&◌, slice_get, if◌then◌else◌}
use Rattle.std.specs.List.{flat_map}
use Rattle.std.specs.Option.{option_map_or}
use Rattle.std.proofs.lemmas.List.{append-nil}
use Rattle.il_base.specs.declared.table.TheConstants.{METHOD_DEF}
use Rattle.il_base.specs.declared.world_model.members.MethodSemanticsRow.{MethodSemanticsRow}
use Rattle.il_base.specs.declared.world_model.record.AsmRec.{AsmRec}
use Rattle.il_base.specs.world_model.Tokens.{token_of}
use Rattle.rules.specs.declared.link_rules.row_at.RowAt.{RowAt}
use Rattle.rules.specs.link_rules.Cycles.{listed}
use Rattle.rules.specs.type_rules.Searches.{has_owner}
use Rattle.type_tables.specs.declared.groups.Groups.{Groups}
use Rattle.type_tables.specs.Groups.{rows_with, AreGroups}
use Rattle.type_tables.proofs.Grouped.{flat_grouped}
use Rattle.rules.specs.mark_rules.Facts.{Fact}
use Rattle.rules.specs.mark_rules.Properties.{accessed_by, accessed}
use Rattle.mark_parts.specs.mark_tables.Owners.{accessor_methods}
use Rattle.mark_items.specs.mark_needs.Accessors.{association_facts}

where_owned : (b h : Bool) (xs : List Fact) → h ≡ true → (if b && h then xs else []) ≡ (if b then xs else [])
where_owned true true xs e = refl
where_owned false true xs e = refl
where_owned b false xs e = absurd (cc)

not_owned : (b h : Bool) (xs : List Fact) → h ≡ false → (if b && h then xs else []) ≡ []
not_owned true false xs e = refl
not_owned false false xs e = refl
not_owned b true xs e = absurd (cc)

nothing : {A : Type 0} (f : A → List Fact) → ((x : A) → f x ≡ []) → (xs : List A) → flat_map f xs ≡ []
nothing f e [] = refl
nothing f e (x ∷ xs) = rw (e x) (nothing f e xs)

one_listed : {A : Type 0} (f : A → List Fact) (o : Option A) (x : A) → o ≡ Some x → flat_map f (listed o) ≡ f x
one_listed f o x e = rw e (append-nil (f x))

module _ (recs : List AsmRec) (at : RowAt) where
  by_rec : AsmRec → List Fact
  by_rec rec = flat_map (accessed_by recs at rec) rec.method_semantics

  pub none_there : slice_get recs at.asm ≡ None → accessed recs at ≡ []
  unfolding accessed
  none_there e = rw e refl

  module _ (rec : AsmRec) (here : slice_get recs at.asm ≡ Some rec) where
    pub none_owned : has_owner rec at.row ≡ false → accessed recs at ≡ []
    unfolding accessed by_rec
    none_owned e =
        one_listed by_rec (slice_get recs at.asm) rec here
        ∙ nothing (accessed_by recs at rec) (λ row. not_owned (row.method == token_of METHOD_DEF (suc at.row)) (has_owner rec at.row) (association_facts recs rec at.asm row) e) rec.method_semantics

    pub accessed_grouped : (groups : Groups) → AreGroups (accessor_methods rec) groups → has_owner rec at.row ≡ true → (token : ℕ) → token ≡ token_of METHOD_DEF (suc at.row) → (rows : List ℕ) → rows ≡ rows_with groups token
        → flat_map (λ k. option_map_or (association_facts recs rec at.asm) (slice_get rec.method_semantics k) []) rows ≡ accessed recs at
    unfolding accessed by_rec
    accessed_grouped groups are owned token t rows r =
        ap (flat_map (λ k. option_map_or (association_facts recs rec at.asm) (slice_get rec.method_semantics k) [])) (r ∙ ap (rows_with groups) t)
        ∙ flat_grouped (λ (r : MethodSemanticsRow). r.method) (token_of METHOD_DEF (suc at.row)) rec.method_semantics groups are (association_facts recs rec at.asm) (accessed_by recs at rec)
        (λ row. where_owned (row.method == token_of METHOD_DEF (suc at.row)) (has_owner rec at.row) (association_facts recs rec at.asm row) owned)
        ∙ sym (one_listed by_rec (slice_get recs at.asm) rec here)
