-- What the rows of a group refer to is what all rows of the table do that belong to the same.
use Rattle.std.proofs.Common.{◌≡◌, ℕ, suc, List, [], ◌∷◌, ◌++◌, Bool, true, false, Option, Some, None, refl, sym, ap, ◌∙◌}
use Rattle.std.specs.Prelude.{slice_get, ◌==◌, ◌&&◌, if◌then◌else◌}
use Rattle.std.specs.List.{list_any, flat_map, filter}
use Rattle.std.specs.Option.{option_map_or}
use Rattle.std.proofs.lemmas.List.{append-nil}
use Rattle.std.proofs.lemmas.List.Concat.{flat_map-cons}
use Rattle.il_base.specs.declared.table.TheConstants.{TYPE_DEF, GENERIC_PARAM}
use Rattle.il_base.specs.declared.world_model.types.InterfaceImplRow.{InterfaceImplRow}
use Rattle.il_base.specs.declared.world_model.types.GenericParamRow.{GenericParamRow}
use Rattle.il_base.specs.declared.world_model.types.GenericParamConstraintRow.{GenericParamConstraintRow}
use Rattle.il_base.specs.declared.world_model.members.MethodImplRow.{MethodImplRow}
use Rattle.il_base.specs.declared.world_model.record.AsmRec.{AsmRec}
use Rattle.il_base.specs.world_model.Tokens.{token_of}
use Rattle.rules.specs.declared.link_rules.row_at.RowAt.{RowAt}
use Rattle.rules.specs.link_rules.Types.{at_row}
use Rattle.rules.specs.link_rules.Cycles.{listed}
use Rattle.rules.specs.type_rules.Rows.{rec_at, each_row}
use Rattle.type_tables.specs.declared.groups.Groups.{Groups}
use Rattle.type_tables.specs.Groups.{rows_with, AreGroups}
use Rattle.type_tables.specs.Tables.{interface_classes, impl_classes}
use Rattle.type_tables.proofs.Grouped.{flat_grouped}
use Rattle.rules.specs.mark_rules.Places.{impl_item}
use Rattle.mark_parts.specs.mark_tables.Owners.{param_owners, constraint_owners}
use Rattle.mark_parts.proofs.Grouped.{each_grouped}
use Rattle.rules.specs.merge_rules.Numbers.{Kept}
use Rattle.rules.specs.merge_rules.Keys.{method_key}
use Rattle.rules.specs.merge_rules.Order.{Met, met_token, met_callee, met_constraint, met_param, met_interface, met_interfaces, is_kept_method, is_impl_of, met_impls}
use Rattle.restrict.specs.met_order.Owned.{met_bound, met_bounds, met_params, met_kept_interface, met_kept_impl}

-- ---- tests one after the other

both : {B : Type 0} (a b : Bool) (xs : List B) → (if a && b then xs else []) ≡ (if a then (if b then xs else []) else [])
both true b xs = refl
both false b xs = refl

filter_by : {A B : Type 0} (p : A → Bool) (f : A → List B) (x : A) (xs : List A) (b : Bool) (rest : List B) → p x ≡ b → flat_map f (filter p xs) ≡ rest → flat_map f (filter p (x ∷ xs)) ≡ (if b then f x else []) ++ rest
filter_by p f x xs true rest e r = rw e (flat_map-cons f x (filter p xs) ∙ ap (λ (l : List _). f x ++ l) r)
filter_by p f x xs false rest e r = rw e r

flat_filter : {A B : Type 0} (p : A → Bool) (f : A → List B) (xs : List A) → flat_map f (filter p xs) ≡ flat_map (λ x. if p x then f x else []) xs
flat_filter p f [] = refl
flat_filter p f (x ∷ xs) =
    filter_by p f x xs (p x) (flat_map (λ y. if p y then f y else []) xs) refl (flat_filter p f xs) ∙ sym (flat_map-cons (λ y. if p y then f y else []) x xs)

-- ---- constraints

module _ (recs : List AsmRec) (a : ℕ) (rec : AsmRec) (groups : Groups) where
  abbrev bound_at : ℕ → List Met
  bound_at k = option_map_or (met_bound recs a rec) (slice_get rec.generic_param_constraint k) []

  pub bounds_grouped : AreGroups (constraint_owners rec) groups → (k token : ℕ) → token ≡ token_of GENERIC_PARAM (suc k) → (rows : List ℕ) → rows ≡ rows_with groups token
      → flat_map bound_at rows ≡ flat_map (met_constraint recs a rec (token_of GENERIC_PARAM (suc k))) rec.generic_param_constraint
  bounds_grouped are k token t rows e =
      ap (flat_map bound_at) (e ∙ ap (rows_with groups) t)
      ∙ flat_grouped (λ (r : GenericParamConstraintRow). r.owner) (token_of GENERIC_PARAM (suc k)) rec.generic_param_constraint groups are (met_bound recs a rec)
      (met_constraint recs a rec (token_of GENERIC_PARAM (suc k))) (λ r. refl)

  abbrev param_at : ℕ → List Met
  param_at k = option_map_or (met_bounds recs a rec k) (slice_get rec.generic_param k) []

  pub params_grouped : AreGroups (param_owners rec) groups → (owner : ℕ) (rows : List ℕ) → rows ≡ rows_with groups owner → flat_map param_at rows ≡ met_params recs a rec owner
  params_grouped are owner rows e =
      ap (flat_map param_at) e
      ∙ each_grouped (λ (r : GenericParamRow). r.owner) owner (met_bounds recs a rec) (met_param recs a rec owner) (λ j r. refl) rec.generic_param groups are

-- ---- rows of a type

module _ (recs : List AsmRec) (kept : Kept) (at : RowAt) where
  pub no_interfaces : rec_at recs at ≡ None → met_interfaces recs kept at ≡ []
  no_interfaces e = rw e refl

  pub no_impls : rec_at recs at ≡ None → met_impls recs kept at ≡ []
  no_impls e = rw e refl

  module _ (rec : AsmRec) (here : rec_at recs at ≡ Some rec) (groups : Groups) (token : ℕ) (names : token ≡ token_of TYPE_DEF (suc at.row)) (rows : List ℕ) (grouped : rows ≡ rows_with groups token) where
    abbrev interface_at : ℕ → ℕ → List Met
    interface_at a k = option_map_or (met_kept_interface recs kept a rec k) (slice_get rec.interface_impl k) []

    pub interfaces_grouped : AreGroups (interface_classes rec) groups → (a : ℕ) → a ≡ at.asm → flat_map (interface_at a) rows ≡ met_interfaces recs kept at
    interfaces_grouped are a own =
        ap (flat_map (interface_at a)) (grouped ∙ ap (rows_with groups) names)
        ∙ ap (λ (n : ℕ). flat_map (interface_at n) (rows_with groups (token_of TYPE_DEF (suc at.row)))) own
        ∙ each_grouped (λ (r : InterfaceImplRow). r.class) (token_of TYPE_DEF (suc at.row)) (met_kept_interface recs kept at.asm rec) (met_interface recs kept at rec)
        (λ k r. both (r.class == token_of TYPE_DEF (suc at.row)) (kept (impl_item recs (at_row at.asm k))) (met_token recs at.asm rec r.interface))
        rec.interface_impl groups are
        ∙ sym (append-nil (each_row (met_interface recs kept at rec) rec.interface_impl))
        ∙ ap (λ (o : Option AsmRec). flat_map (λ (r : AsmRec). each_row (met_interface recs kept at r) r.interface_impl) (listed o)) (sym here)

    abbrev impl_at : ℕ → ℕ → List Met
    impl_at a k = option_map_or (met_kept_impl recs kept a rec) (slice_get rec.method_impl k) []

    abbrev both_of : AsmRec → MethodImplRow → List Met
    both_of r row = met_callee recs at.asm r row.body ++ met_callee recs at.asm r row.declaration

    pub impls_grouped : AreGroups (impl_classes rec) groups → (a : ℕ) → a ≡ at.asm → flat_map (impl_at a) rows ≡ met_impls recs kept at
    impls_grouped are a own =
        ap (flat_map (impl_at a)) (grouped ∙ ap (rows_with groups) names)
        ∙ ap (λ (n : ℕ). flat_map (impl_at n) (rows_with groups (token_of TYPE_DEF (suc at.row)))) own
        ∙ flat_grouped (λ (r : MethodImplRow). r.class) (token_of TYPE_DEF (suc at.row)) rec.method_impl groups are (met_kept_impl recs kept at.asm rec)
        (λ row. if is_impl_of recs kept at rec row then both_of rec row else [])
        (λ r. both (r.class == token_of TYPE_DEF (suc at.row)) (list_any (is_kept_method recs kept) (listed (method_key recs at.asm rec r.body))) (both_of rec r))
        ∙ sym (flat_filter (is_impl_of recs kept at rec) (both_of rec) rec.method_impl)
        ∙ sym (append-nil (flat_map (both_of rec) (filter (is_impl_of recs kept at rec) rec.method_impl)))
        ∙ ap (λ (o : Option AsmRec). flat_map (λ (r : AsmRec). flat_map (both_of r) (filter (is_impl_of recs kept at r) r.method_impl)) (listed o)) (sym here)
