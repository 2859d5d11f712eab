-- The laws, of a merge.
use Rattle.std.proofs.Common.{◌≡◌, ◌<◌, ℕ, zero, suc, List, [], ◌∷◌, ◌++◌, length, Option, Some, refl, sym, ap, subst, ◌∙◌, arith}
use Rattle.std.specs.Prelude.{slice_get}
use Rattle.std.proofs.lemmas.List.{length-append}
use Rattle.descriptor_file.specs.declared.root.Root.{Root}
use Rattle.il_base.specs.declared.world_model.record.AsmRec.{AsmRec}
use Rattle.il_base.specs.world_model.Records.{IsRecord}
use Rattle.il_base.specs.core_table.Record.{core_record, record_with}
use Rattle.rules.specs.declared.link_rules.row_at.RowAt.{RowAt}
use Rattle.rules.specs.declared.link_rules.core_type_name.CoreTypeName.{CoreTypeName}
use Rattle.rules.specs.link_rules.CoreNames.{missing_names, core_with}
use Rattle.rules.specs.link_rules.Linked.{assemblies}
use Rattle.rules.specs.merge_rules.Numbers.{Kept}
use Rattle.rules.specs.merge_rules.Order.{met_by_types}
use Rattle.rules.specs.merge_rules.Attributes.{met_by_attributes}
use Rattle.rules.specs.merge_rules.Restricted.{output_of}
use Rattle.merge_laws.specs.merged_record.Laws.{InputsAreRecords}
use Rattle.merge_laws.proofs.lemmas.merged_owners.Every.{Every, all_join}
use Rattle.rules.specs.merged_world_rules.Merge.{Merge, before, output}
use Rattle.trim_laws.specs.marked_merge_rules.Merges.{IsMarkedMerge}
use Rattle.trim_laws.specs.marked_mets.Laws.{MetsOfTypesAreKept, MetsAreKept, MembersAreKept}
use Rattle.trim_laws.proofs.lemmas.marked_mets.Uses.{CoreIsBare, Fine}
use Rattle.trim_laws.proofs.lemmas.marked_mets.Joined.{by_types}
use Rattle.trim_laws.proofs.lemmas.marked_mets.Attributes.{CoreHasNoSpecs, by_attributes}

-- ---- the core library is the last assembly, and has no references

last_is : {A : Type 0} (xs : List A) (x : A) → slice_get (xs ++ x ∷ []) (length xs) ≡ Some x
last_is [] x = refl
last_is (y ∷ xs) x = last_is xs x

core_refs : (names : List CoreTypeName) → (core_with core_record names).type_ref ≡ []
unfolding core_with core_record record_with
core_refs names = refl

core_specs : (names : List CoreTypeName) → (core_with core_record names).type_spec ≡ []
unfolding core_with core_record record_with
core_specs names = refl

core_is : (inputs : List AsmRec) (core : AsmRec) (a : ℕ) (rec : AsmRec) → slice_get (inputs ++ core ∷ []) a ≡ Some rec → suc a ≡ length (inputs ++ core ∷ []) → rec ≡ core
core_is inputs core a rec e last =
    let n = length-append inputs (core ∷ []) in
    let at : a ≡ length inputs = omega (arith, n, last) in
    let same : Some rec ≡ Some core = sym (subst (λ (k : ℕ). slice_get (inputs ++ core ∷ []) k ≡ Some rec) at e) ∙ last_is inputs core in
    cc

bare_in : (inputs : List AsmRec) → CoreIsBare (assemblies inputs)
unfolding assemblies
bare_in inputs a rec e last =
    let names = missing_names (inputs ++ core_record ∷ []) in
    ap (λ (r : AsmRec). r.type_ref) (core_is inputs (core_with core_record names) a rec e last) ∙ core_refs names

specs_in : (inputs : List AsmRec) → CoreHasNoSpecs (assemblies inputs)
unfolding assemblies
specs_in inputs a rec e last =
    let names = missing_names (inputs ++ core_record ∷ []) in
    ap (λ (r : AsmRec). r.type_spec) (core_is inputs (core_with core_record names) a rec e last) ∙ core_specs names

front : {A : Type 0} (xs : List A) (x : A) (a : ℕ) (y : A) → suc a < length (xs ++ x ∷ []) → slice_get (xs ++ x ∷ []) a ≡ Some y → slice_get xs a ≡ Some y
front [] x a y lt e = absurd (omega (arith, lt))
front (z ∷ xs) x zero y lt e = e
front (z ∷ xs) x (suc a) y lt e = front xs x a y (omega (arith, lt)) e

records_in : (inputs : List AsmRec) → ((a : ℕ) (rec : AsmRec) → slice_get inputs a ≡ Some rec → IsRecord rec) → InputsAreRecords (assemblies inputs)
unfolding assemblies
records_in inputs h a rec lt e = h a rec (front inputs (core_with core_record (missing_names (inputs ++ core_record ∷ []))) a rec lt e)

-- ---- what kept types meet

types_fine : (m : Merge) (entry : Option RowAt) (roots : List Root) → IsMarkedMerge m entry roots → Every (Fine (before m) m.kept) (met_by_types (before m) m.kept)
types_fine m entry roots is = by_types (before m) m.kept (bare_in m.inputs) (records_in m.inputs is.merge.records) entry roots is.all is.marked is.good

pub of_types_kept : MetsOfTypesAreKept
of_types_kept m entry roots is x c =
    let f = (types_fine m entry roots is).each x c in
    (λ t at d home lt. f.types.each t d at home lt, λ i d. f.members.each i d)

-- ---- all that is met

joined : (recs : List AsmRec) (kept : Kept) → Every (Fine recs kept) (met_by_types recs kept) → Every (Fine recs kept) (met_by_attributes recs kept) → Every (Fine recs kept) (output_of recs kept).mets
unfolding output_of
joined recs kept types attributes = all_join (Fine recs kept) (met_by_types recs kept) (met_by_attributes recs kept) types attributes

mets_fine : (m : Merge) (entry : Option RowAt) (roots : List Root) → IsMarkedMerge m entry roots → Every (Fine (before m) m.kept) (output m).mets
mets_fine m entry roots is =
    joined (before m) m.kept (types_fine m entry roots is)
    (by_attributes (before m) m.kept (bare_in m.inputs) (specs_in m.inputs) (records_in m.inputs is.merge.records) entry roots is.all is.marked is.good)

pub mets_kept : MetsAreKept
mets_kept m entry roots is x c t at d home lt = ((mets_fine m entry roots is).each x c).types.each t d at home lt

pub members_kept : MembersAreKept
members_kept m entry roots is x i c d = ((mets_fine m entry roots is).each x c).members.each i d
