-- The parents of MemberRef rows, and so all columns that have to name a row.
use Rattle.std.proofs.Common.{◌≡◌, ◌<◌, ◌≤◌, ℕ, zero, suc, List, [], ◌∷◌, ◌++◌, length, Bool, true, false, Some, sym, subst, arith}
use Rattle.std.specs.Prelude.{slice_get}
use Rattle.std.specs.List.{Contains}
use Rattle.il_base.specs.declared.ids.TypeId.{TypeId}
use Rattle.il_base.specs.declared.ids.Item.TheVariants as item
use Rattle.il_base.specs.declared.world_model.members.MemberRefRow.{MemberRefRow}
use Rattle.il_base.specs.declared.world_model.record.AsmRec.{AsmRec}
use Rattle.il_base.specs.world_model.Records.{IsRecord}
use Rattle.il_base.specs.world_model.Worlds.{types_in}
use Rattle.il_base.specs.core_table.Record.{core_record}
use Rattle.rules.specs.declared.link_rules.row_at.RowAt.{RowAt}
use Rattle.rules.specs.link_rules.CoreNames.{missing_names, core_with}
use Rattle.rules.specs.link_rules.Linked.{assemblies}
use Rattle.rules.specs.link_rules.Members.{type_home}
use Rattle.base_laws.proofs.lemmas.known_laws.Lists.{to_flat, map_some}
use Rattle.run_laws.proofs.lemmas.marked_laws.Places.{last_is_core}
use Rattle.rules.specs.mark_rules.Places.{row_of, is_core}
use Rattle.rules.specs.merge_rules.Order.{Met}
use Rattle.rules.specs.merge_rules.Refs.{Output, types_of_met, specs_of_met, is_reference, member_ref_rows}
use Rattle.rules.specs.merge_rules.Restricted.{placed_methods, moved_methods, restricted_by, output_of, restricted}
use Rattle.merge_laws.specs.merged_record.Laws.{InputsAreRecords, ReferencesStand, RowsFit}
use Rattle.merge_laws.proofs.lemmas.merged_record.Lists.{place_in}
use Rattle.merge_laws.proofs.lemmas.merged_record.Sizes.{left}
use Rattle.merge_laws.proofs.lemmas.merged_owners.Every.{Every}
use Rattle.rules.specs.merged_world_rules.Merge.{Merge, IsMerge, before, output}
use Rattle.merge_laws.specs.merged_references.Laws.{MetWritten}
use Rattle.merge_laws.specs.merged_references.Written.{HasReferenceRows, IsWritten, kept_type, core_type}
use Rattle.merge_laws.specs.merged_tokens.Laws.{NamesFollow}
use Rattle.merge_laws.proofs.lemmas.merged_tokens.Once.{below_home}
use Rattle.merge_laws.specs.merged_standing.Laws.{ReferenceRowsStand}
use Rattle.merge_laws.proofs.lemmas.merged_standing.Mets.{mets_hold}
use Rattle.trim_laws.specs.marked_merge_rules.Reads.{KeepsAllMet}
use Rattle.trim_laws.specs.member_parents.Laws.{ParentsNamed, AllNamed}
use Rattle.trim_laws.proofs.lemmas.member_parents.Parents.{Keyed, all_keyed, of_met, member_met, class_is, row_from}
use Rattle.trim_laws.proofs.lemmas.member_parents.Stand.{HasNewRow, not_reference, key_stands}

-- ---- the inputs are records

front : {A : Type 0} (xs : List A) (x : A) (a : ℕ) (y : A) → suc a < length (xs ++ x ∷ []) → slice_get (xs ++ x ∷ []) a ≡ Some y → slice_get xs a ≡ Some y
front [] x a y lt e = absurd (omega (arith, lt))
front (z ∷ xs) x zero y lt e = e
front (z ∷ xs) x (suc a) y lt e = front xs x a y (omega (arith, lt)) e

records_in : (inputs : List AsmRec) → ((a : ℕ) (rec : AsmRec) → slice_get inputs a ≡ Some rec → IsRecord rec) → InputsAreRecords (assemblies inputs)
unfolding assemblies
records_in inputs h a rec lt e = h a rec (front inputs (core_with core_record (missing_names (inputs ++ core_record ∷ []))) a rec lt e)

-- ---- types that are met have new rows

module _ (m : Merge) (is : IsMerge m) (rows : HasReferenceRows m) (written : MetWritten) (keeps : KeepsAllMet m) where
  not_core : (t : TypeId) (at : RowAt) → type_home (before m) t ≡ Some at → suc at.asm ≡ length (before m) → is_core (before m) (item.Typ t) ≡ true
  unfolding row_of
  not_core t at home last = last_is_core (before m) (item.Typ t) at home last

  new_by : (t : TypeId) → is_core (before m) (item.Typ t) ≡ false → IsWritten m t → HasNewRow (output m) t
  unfolding output_of
  new_by t other (kept_type at k home within new) = record { at = at; home = home; row = k; new = new }
  new_by t other (core_type at home last c) = let core = not_core t at home last in absurd (cc)

  new_row_of : (y : Met) (t : TypeId) → Contains (output m).mets y → Contains (types_of_met (before m) y) t → is_reference (before m) t ≡ false → HasNewRow (output m) t
  new_row_of y t c d h =
      let p = not_reference (before m) t h in
      let home = below_home types_in (before m) 0 t.0 p.0 in
      new_by t p.1 (written m is rows y t home.0 c d home.1 (keeps y c))

-- ---- each row

module _ (internal : Bool) (o : Output) (primary : AsmRec) (refs : ReferencesStand o (left internal o primary)) (fit : RowsFit (left internal o primary)) where
  parent_stands : (all : Every (Keyed o.recs) o.mets) → ((y : Met) (t : TypeId) → Contains o.mets y → Contains (types_of_met o.recs y) t → is_reference o.recs t ≡ false → HasNewRow o t)
      → (row : MemberRefRow) → Contains (member_ref_rows o) row → 1 ≤ row.class
  parent_stands all new row c =
      let r = row_from o row c in
      let y = member_met o.recs o.mets r.member r.there in
      let p = of_met o.recs y.met (all.each y.met y.there) r.member y.inside in
      subst (λ (n : ℕ). 1 ≤ n) (sym (class_is o r.member row p.key r.inside p.is))
      (key_stands internal o primary refs fit p.key (λ t d. to_flat (types_of_met o.recs) o.mets t (record { item = y.met; there = y.there; inside = p.types t d }))
      (λ t d e. new y.met t y.there (p.types t d) e)
      (λ s d. to_flat (specs_of_met o.recs) o.mets s (record { item = y.met; there = y.there; inside = p.specs s d })))

left_parents : (m : Merge) (primary : AsmRec) → IsMerge m → ((y : Met) (t : TypeId) → Contains (output m).mets y → Contains (types_of_met (before m) y) t → is_reference (before m) t ≡ false → HasNewRow (output m) t)
    → ReferencesStand (output m) (left m.internal (output m) primary) → RowsFit (left m.internal (output m) primary)
    → (k : ℕ) (row : MemberRefRow) → slice_get (left m.internal (output m) primary).member_ref k ≡ Some row → 1 ≤ row.class
unfolding output_of
left_parents m primary is new refs fit k row e =
    let o : Output = output m in
    parent_stands m.internal o primary refs fit (mets_hold (before m) (Keyed (before m)) (all_keyed (before m)) (records_in m.inputs is.records) m.kept) new row (place_in (member_ref_rows o) k row e)

pub parents_named : MetWritten → ReferenceRowsStand → ParentsNamed
unfolding restricted
parents_named written stand m is keeps refs k row there =
    let o : Output = output m in
    let p = map_some (restricted_by m.internal o (placed_methods (moved_methods o))) (slice_get (before m) 0) m.left is.restricts in
    left_parents m p.0 is (new_row_of m is (stand m is) written keeps) (subst (ReferencesStand o) (sym p.2) refs) (subst RowsFit (sym p.2) is.few) k row
    (subst (λ (r : AsmRec). slice_get r.member_ref k ≡ Some row) (sym p.2) there)

pub all_named : ParentsNamed → NamesFollow → AllNamed
all_named parents follow m entry roots is keeps refs =
    follow m.internal (before m) entry roots m.kept m.left is.merge.restricts (records_in m.inputs is.merge.records) is.marked is.all is.good refs is.merge.few (parents m is.merge keeps refs)
