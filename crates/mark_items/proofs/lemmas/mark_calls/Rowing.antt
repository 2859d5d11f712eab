-- The interface rows of a type, by the rows of a group.
use Rattle.std.proofs.Common.{◌≡◌, ℕ, suc, List, [], ◌∷◌, ◌++◌, Bool, true, false, Option, Some, None, refl, sym, ap, ◌∙◌}
use Rattle.std.specs.Prelude.{◌==◌, slice_get, if◌then◌else◌}
use Rattle.std.specs.List.{flat_map}
use Rattle.std.specs.Option.{option_map_or}
use Rattle.std.proofs.lemmas.List.{append-nil}
use Rattle.std.proofs.lemmas.Grind.{flat_map-append}
use Rattle.il_base.specs.declared.table.TheConstants.{TYPE_DEF}
use Rattle.il_base.specs.declared.world_model.expr.TypeExpr.{TypeExpr}
use Rattle.il_base.specs.declared.world_model.types.InterfaceImplRow.{InterfaceImplRow}
use Rattle.il_base.specs.declared.world_model.record.AsmRec.{AsmRec}
use Rattle.il_base.specs.world_model.Tokens.{token_of}
use Rattle.rules.specs.declared.link_rules.row_at.RowAt.{RowAt}
use Rattle.rules.specs.link_rules.Signatures.{token_type}
use Rattle.rules.specs.link_rules.Members.{good_type}
use Rattle.rules.specs.link_rules.Cycles.{listed, home_of, only_interface, interface_of, interfaces_in, interfaces_at, interface_rows}
use Rattle.type_tables.specs.declared.groups.Groups.{Groups}
use Rattle.type_tables.specs.Groups.{rows_with, AreGroups}
use Rattle.type_tables.specs.Tables.{interface_classes}
use Rattle.type_tables.proofs.Grouped.{flat_grouped}
use Rattle.mark_items.specs.mark_calls.Implied.{definition_in}

one_listed : {A B : Type 0} (f : A → List B) (o : Option A) (x : A) → o ≡ Some x → flat_map f (listed o) ≡ f x
one_listed f o x e = rw e (append-nil (f x))

flat_flat : {A B C : Type 0} (g : B → List C) (f : A → List B) (xs : List A) → flat_map (λ x. flat_map g (f x)) xs ≡ flat_map g (flat_map f xs)
flat_flat g f [] = refl
flat_flat g f (x ∷ xs) = ap (λ (rest : _). flat_map g (f x) ++ rest) (flat_flat g f xs) ∙ sym (flat_map-append g (f x) (flat_map f xs))

flat_if : {B C : Type 0} (g : B → List C) (b : Bool) (xs : List B) → flat_map g (if b then xs else []) ≡ (if b then flat_map g xs else [])
flat_if g true xs = refl
flat_if g false xs = refl

module _ (recs : List AsmRec) (at : RowAt) where
  homes : TypeExpr → List RowAt
  homes e = listed (home_of recs e)

  pub no_interfaces : slice_get recs at.asm ≡ None → interface_rows recs at ≡ []
  unfolding interface_rows interfaces_at
  no_interfaces e = rw e refl

  module _ (rec : AsmRec) (here : slice_get recs at.asm ≡ Some rec) (groups : Groups) (are : AreGroups (interface_classes rec) groups) where
    by_rows : flat_map (λ k. option_map_or (definition_in recs at.asm rec) (slice_get rec.interface_impl k) []) (rows_with groups (token_of TYPE_DEF (suc at.row))) ≡ interface_rows recs at
    unfolding interface_rows interfaces_at homes
    by_rows =
        let wanted : ℕ = token_of TYPE_DEF (suc at.row) in
        flat_grouped (λ (r : InterfaceImplRow). r.class) wanted rec.interface_impl groups are (definition_in recs at.asm rec) (λ r. flat_map homes (interface_of recs at.asm rec wanted r))
        (λ r. flat_if homes (r.class == wanted) (only_interface recs (good_type (token_type recs at.asm rec r.interface))))
        ∙ flat_flat homes (interface_of recs at.asm rec wanted) rec.interface_impl
        ∙ ap (flat_map homes) (sym (one_listed (interfaces_in recs at) (slice_get recs at.asm) rec here))

    pub interfaces_grouped : (rs : List AsmRec) → rs ≡ recs → (a : ℕ) → a ≡ at.asm → (token : ℕ) → token ≡ token_of TYPE_DEF (suc at.row) → (ks : List ℕ) → ks ≡ rows_with groups token
        → flat_map (λ k. option_map_or (definition_in rs a rec) (slice_get rec.interface_impl k) []) ks ≡ interface_rows recs at
    interfaces_grouped rs same a place token t ks e =
        ap (λ (r : List AsmRec). flat_map (λ k. option_map_or (definition_in r a rec) (slice_get rec.interface_impl k) []) ks) same
        ∙ ap (λ (n : ℕ). flat_map (λ k. option_map_or (definition_in recs n rec) (slice_get rec.interface_impl k) []) ks) place
        ∙ ap (flat_map (λ k. option_map_or (definition_in recs at.asm rec) (slice_get rec.interface_impl k) [])) (e ∙ ap (rows_with groups) t) ∙ by_rows
