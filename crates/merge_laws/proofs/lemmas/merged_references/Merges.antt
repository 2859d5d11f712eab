-- The laws, for a merge.
use Rattle.std.proofs.Common.{◌≡◌, ◌<◌, ◌+◌, ℕ, suc, List, [], ◌∷◌, ◌++◌, length, true, Option, Some, ◌⊎◌, inl, inr, refl, sym, ap, subst, ◌∙◌, arith}
use Rattle.std.specs.Prelude.{Contains}
use Rattle.std.proofs.lemmas.Bool.{cases_order}
use Rattle.il_base.specs.declared.ids.TypeId.{TypeId}
use Rattle.il_base.specs.declared.ids.Item.TheVariants as item
use Rattle.il_base.specs.declared.world_model.known.Known.TheVariants.{Good}
use Rattle.il_base.specs.declared.world_model.record.AsmRec.{AsmRec}
use Rattle.il_base.specs.world_model.Worlds.{rows_before, types_in, type_id}
use Rattle.il_base.specs.declared.core_table.types.TheConstants.{TYPE_COUNT}
use Rattle.il_base.specs.core_table.Record.{core_record}
use Rattle.rules.specs.declared.link_rules.row_at.RowAt.{RowAt}
use Rattle.rules.specs.declared.link_rules.core_type_name.CoreTypeName.{CoreTypeName}
use Rattle.rules.specs.link_rules.CoreNames.{missing_names, core_with}
use Rattle.rules.specs.link_rules.Linked.{assemblies}
use Rattle.rules.specs.link_rules.Signatures.{definition_expr, named_type}
use Rattle.rules.specs.link_rules.Members.{type_home}
use Rattle.rules.specs.link_rules.Cycles.{same_row}
use Rattle.base_laws.proofs.lemmas.type_laws.Places.{home_is, home_is_type, type_at, place_within}
use Rattle.rules.specs.mark_rules.Places.{type_item}
use Rattle.rules.specs.merge_rules.Numbers.{kept_types}
use Rattle.rules.specs.merge_rules.Order.{Met}
use Rattle.rules.specs.merge_rules.Refs.{types_of_met, type_refs, type_token}
use Rattle.rules.specs.merge_rules.Restricted.{output_of}
use Rattle.rules.specs.change_rules.Moves.{move_expr}
use Rattle.rules.specs.merged_world_rules.Merge.{Merge, IsMerge, before, after, output}
use Rattle.rules.specs.merged_world_rules.Numbering.{new_number}
use Rattle.rules.specs.merged_world_rules.NewNumbers.{type_core, rho_of}
use Rattle.merge_laws.specs.merged_references.Written.{HasReferenceRows, IsWritten, kept_type, core_type, KeepsMet}
use Rattle.merge_laws.proofs.lemmas.merged_references.Lists.{contained, contains, Placed}
use Rattle.merge_laws.proofs.lemmas.merged_references.Left.{is_left}
use Rattle.merge_laws.proofs.lemmas.merged_references.Kept.{kept_placed}
use Rattle.merge_laws.proofs.lemmas.merged_references.Joined.{Premises, input_named, core_named, core_met}

one_row : (x y : RowAt) (o : Option RowAt) → o ≡ Some x → o ≡ Some y → x ≡ y
one_row x y o e f = let g : Some x ≡ Some y = sym e ∙ f in cc

module _ (m : Merge) (is : IsMerge m) (rows : HasReferenceRows m) where
  abbrev pub names : List CoreTypeName
  names = missing_names (m.inputs ++ core_record ∷ [])

  abbrev pub those : List CoreTypeName
  those = missing_names (m.left ∷ core_record ∷ [])

  abbrev pub recs : List AsmRec
  recs = m.inputs ++ core_with core_record names ∷ []

  abbrev pub world : List AsmRec
  world = m.left ∷ core_with core_record those ∷ []

  pub after_is : after m ≡ world
  unfolding assemblies
  after_is = refl

  pub premises : Premises m.internal m.inputs names those m.kept (output m).mets m.left
  unfolding assemblies output_of
  premises = record {
    is = is_left m.internal (before m) m.kept m.left is.restricts;
    some = is.some;
    links = is.links;
    few = is.few;
    one = λ t h. rows.types t (contains (type_refs (before m) (output m).mets) t h);
  }

  pub number_is : (n : ℕ) → (rho_of m).typ n ≡ new_number types_in (type_core m) recs (kept_types recs m.kept) n
  unfolding assemblies
  number_is n = refl

  named_by : (t : TypeId) (at : RowAt) → IsWritten m t → type_home (before m) t ≡ Some at → (suc at.asm ≡ length (before m) → at.row < TYPE_COUNT)
      → named_type world 0 m.left (type_token (output m) t) ≡ Good (move_expr (rho_of m) (definition_expr (before m) at))
  unfolding assemblies output_of
  named_by t at (kept_type x k home lt new) e listed =
      let same : x ≡ at = one_row x at (type_home (before m) t) home e in
      subst (λ (y : RowAt). named_type world 0 m.left (type_token (output m) t) ≡ Good (move_expr (rho_of m) (definition_expr (before m) y))) same
      (input_named m.internal m.inputs names those m.kept (output m).mets m.left premises (rho_of m) number_is t x home lt k new)
  named_by t at (core_type x home last h) e listed =
      let same : x ≡ at = one_row x at (type_home (before m) t) home e in
      let end : suc at.asm ≡ length (before m) = subst (λ (y : RowAt). suc y.asm ≡ length (before m)) same last in
      core_named m.internal m.inputs names those m.kept (output m).mets m.left premises (rho_of m) number_is t at e end
      (contained (type_refs (before m) (output m).mets) t h) (listed end)

  pub types_named : (t : TypeId) (at : RowAt) → IsWritten m t → type_home (before m) t ≡ Some at → (suc at.asm ≡ length (before m) → at.row < TYPE_COUNT)
      → named_type (after m) 0 m.left (type_token (output m) t) ≡ Good (move_expr (rho_of m) (definition_expr (before m) at))
  types_named t at w e listed =
      subst (λ (ws : List AsmRec). named_type ws 0 m.left (type_token (output m) t) ≡ Good (move_expr (rho_of m) (definition_expr (before m) at))) (sym after_is) (named_by t at w e listed)

  -- ---- what is met

  own_id : (t : TypeId) (at : RowAt) → type_home (before m) t ≡ Some at → type_id (before m) at.asm at.row ≡ t
  own_id t at e =
      let s = home_is (before m) 0 t.0 at e in
      let asm : at.asm ≡ s.asm = omega (arith, s.numbered) in
      let id : rows_before types_in (before m) at.asm + at.row ≡ t.0 = ap (λ (a : ℕ). rows_before types_in (before m) a + at.row) asm ∙ sym s.id in
      ap (λ (n : ℕ). record { 0 = n }) id

  kept_place : (t : TypeId) (at : RowAt) → type_home (before m) t ≡ Some at → suc at.asm < length (before m) → m.kept (item.Typ t) ≡ true → Placed (same_row at) (kept_types (before m) m.kept)
  unfolding kept_types
  kept_place t at e lt k =
      let s = type_at (before m) at (home_is_type (before m) t at e) in
      kept_placed types_in (before m) (type_item (before m)) m.kept at s.rec s.there s.below lt (ap (λ (u : TypeId). m.kept (item.Typ u)) (own_id t at e) ∙ k)

  written_by : (x : Met) (t : TypeId) (at : RowAt) → Contains (output m).mets x → Contains (types_of_met (before m) x) t → type_home (before m) t ≡ Some at → KeepsMet m x
      → (suc at.asm ≡ length (before m)) ⊎ ((suc at.asm < length (before m)) ⊎ (length (before m) < suc at.asm)) → IsWritten m t
  unfolding assemblies output_of
  written_by x t at h g e keeps (inl last) =
      core_type at e last (contains (type_refs (before m) (output m).mets) t
      (core_met m.internal m.inputs names those m.kept (output m).mets m.left premises t at e x last (contained (output m).mets x h) (contained (types_of_met (before m) x) t g)))
  written_by x t at h g e keeps (inr (inl lt)) = let p = kept_place t at e lt (keeps t at g e lt) in kept_type at p.index e lt p.is
  written_by x t at h g e keeps (inr (inr gt)) =
      let s = type_at (before m) at (home_is_type (before m) t at e) in
      let lt = place_within (before m) at.asm s.rec s.there in
      absurd (omega (arith, lt, gt))

  pub met_written : (x : Met) (t : TypeId) (at : RowAt) → Contains (output m).mets x → Contains (types_of_met (before m) x) t → type_home (before m) t ≡ Some at → KeepsMet m x → IsWritten m t
  met_written x t at h g e keeps = written_by x t at h g e keeps (cases_order (suc at.asm) (length (before m)))
