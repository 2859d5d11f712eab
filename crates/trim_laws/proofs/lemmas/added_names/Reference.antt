-- The TypeRef row of a type of the core library in the output, and the token that names it.
use Rattle.std.proofs.Common.{◌≡◌, ◌<◌, ℕ, suc, List, length, Bool, true, Option, Some, refl, sym, ap, ◌∙◌, arith, eq-eqb}
use Rattle.std.specs.Prelude.{slice_get, position, nat_le, ◌==◌, ◌||◌, if◌then◌else◌}
use Rattle.std.specs.List.{list_any}
use Rattle.std.proofs.lemmas.Bool.{or_right}
use Rattle.il_base.specs.declared.ids.TypeId.{TypeId}
use Rattle.il_base.specs.declared.ids.Item.TheVariants as item
use Rattle.il_base.specs.declared.world_model.types.TypeRefRow.{TypeRefRow}
use Rattle.il_base.specs.declared.world_model.record.AsmRec.{AsmRec}
use Rattle.il_base.specs.world_model.Tokens.{index_in}
use Rattle.rules.specs.declared.link_rules.row_at.RowAt.{RowAt}
use Rattle.rules.specs.declared.link_rules.core_type_name.CoreTypeName.{CoreTypeName}
use Rattle.rules.specs.link_rules.Members.{type_home}
use Rattle.rules.specs.link_rules.Cycles.{listed}
use Rattle.base_laws.proofs.lemmas.type_laws.Within.{In, any_in}
use Rattle.rules.specs.mark_rules.Places.{row_of, is_core}
use Rattle.rules.specs.merge_rules.Absent as absent
use Rattle.rules.specs.merge_rules.Numbers.{Kept, kept_types}
use Rattle.rules.specs.merge_rules.Order.{Met}
use Rattle.rules.specs.merge_rules.Refs.{Output, row_token, kept_token, same_id, type_refs, found_ref, type_ref_row, type_ref_rows, type_token}
use Rattle.merge_laws.proofs.lemmas.merged_references.Lists.{Placed, placed, single_at, single_length}
use Rattle.merge_laws.proofs.lemmas.merged_references.Tokens.{token_index}
use Rattle.merge_laws.proofs.lemmas.merged_references.Named.{ids_decide, Writes, referred}
use Rattle.merge_laws.proofs.lemmas.merged_references.Rows as rows
use Rattle.merge_laws.proofs.lemmas.merged_references.Rows.{IsCoreType, own_row}

module _ (inputs : List AsmRec) (names those : List CoreTypeName) (kept : Kept) (mets : List Met) (left : AsmRec) where
  abbrev recs : List AsmRec
  recs = rows.recs inputs names

  abbrev o : Output
  o = record { recs = recs; kept = kept; mets = mets }

  module _ (w : Writes recs kept mets left) (t : TypeId) (at : RowAt) (c : IsCoreType inputs names t at) (h : In t (type_refs recs mets)) where
    pub place : Placed (same_id t) (type_refs recs mets)
    place = placed (same_id t) (type_refs recs mets) (any_in same_id ids_decide t (type_refs recs mets) h)

    token : type_token o t ≡ row_token 0x01 (Some place.index)
    unfolding type_token
    token =
        ap (λ (b : Bool). if b then row_token 0x01 (position (same_id t) (type_refs recs mets)) else kept_token 0x02 (kept_types recs kept) (type_home recs t)) (referred inputs names those kept mets left w t at c)
        ∙ ap (row_token 0x01) place.is

    low : suc place.index < 16777216
    unfolding type_ref_rows
    low =
        let lt = place.below in
        let same : length left.type_ref ≡ length (type_refs recs mets) = ap length w.refs ∙ single_length (type_ref_row o) (type_refs recs mets) w.one in
        let few = w.few_refs in
        omega (arith, lt, same, few)

    abbrev pub index : ℕ
    index = place.index

    pub token_is : index_in 0x01 (type_token o t) ≡ Some index
    token_is = ap (index_in 0x01) token ∙ token_index 0x01 place.index (omega arith) low

    pub row_there : slice_get left.type_ref index ≡ Some (found_ref o t c.row)
    unfolding type_ref_rows
    row_there =
        ap (λ (xs : List TypeRefRow). slice_get xs place.index) w.refs
        ∙ single_at (type_ref_row o) (type_refs recs mets) place.index t (found_ref o t c.row) w.one
        (place.there ∙ ap (λ (u : TypeId). Some u) (sym ((ids_decide t place.item).0 place.passes))) (own_row inputs names t at c kept mets)
