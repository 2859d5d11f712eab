-- What a trim of files leaves can be written.
use Rattle.std.proofs.Common.{◌≡◌, ◌≤◌, ◌<◌, ℕ, zero, suc, List, [], ◌∷◌, ◌++◌, length, Bool, true, Option, Some, None, inl, inr, ◌⊎◌, refl, sym, ap, subst, ◌∙◌, length-append, arith}
use Rattle.std.specs.Prelude.{slice_get, map}
use Rattle.std.specs.List.{Contains, flat_map}
use Rattle.il_base.specs.declared.ids.TypeId.{TypeId}
use Rattle.il_base.specs.declared.ids.Item.TheVariants as item
use Rattle.descriptor_file.specs.declared.root.Root.{Root}
use Rattle.il_base.specs.cli_format.Demand.{first_fault}
use Rattle.il_base.specs.cli_format.Image.{image_demands, metadata_of, metadata_place_of}
use Rattle.il_base.specs.cli_format.Metadata.{tables_demands}
use Rattle.il_base.proofs.lemmas.cli_format.Faults.{none_of_both}
use Rattle.il_base.proofs.lemmas.cli_format.Plain.{few_law}
use Rattle.il_base.specs.declared.world_model.record.AsmRec.{AsmRec}
use Rattle.il_base.specs.world_model.Records.{IsRecord}
use Rattle.rules.specs.record_format.Cells.{count_of}
use Rattle.rules.specs.record_format.Types.{generic_param_row}
use Rattle.rules.specs.record_format.Record.{as_demand, record_demands, record_at, HasRecord}
use Rattle.file_laws.proofs.lemmas.record_laws.Rows.{length_rows}
use Rattle.il_base.specs.core_table.Record.{core_record, record_with}
use Rattle.rules.specs.declared.link_rules.row_at.RowAt.{RowAt}
use Rattle.rules.specs.declared.link_rules.core_type_name.CoreTypeName.{CoreTypeName}
use Rattle.rules.specs.link_rules.CoreNames.{missing_names, core_with}
use Rattle.rules.specs.link_rules.Linked.{assemblies}
use Rattle.rules.specs.link_rules.Members.{type_home}
use Rattle.base_laws.proofs.lemmas.known_laws.Lists.{to_flat, from_flat, map_some}
use Rattle.rules.specs.file_layout.Runs.{runs_have_spelling}
use Rattle.rules.specs.record_layout.Limits.{long_table}
use Rattle.record_writer.specs.CanWrite.{CanWrite}
use Rattle.record_writer.specs.Written.{rows_by, rows_over}
use Rattle.rules.specs.merge_rules.Numbers.{Kept}
use Rattle.rules.specs.merge_rules.Order.{Met, met_by_types}
use Rattle.rules.specs.merge_rules.Refs.{Output, types_of_met}
use Rattle.rules.specs.merge_rules.Attributes.{met_by_attributes}
use Rattle.rules.specs.merge_rules.Restricted.{placed_methods, moved_methods, restricted_by, output_of, restricted}
use Rattle.merge_laws.specs.merged_record.Laws.{InputsAreRecords, RowsFit}
use Rattle.merge_laws.proofs.lemmas.merged_record.Sizes.{left}
use Rattle.merge_laws.specs.merged_owners.Laws.{OwnersStay}
use Rattle.merge_laws.proofs.lemmas.merged_owners.Every.{Every, all_join}
use Rattle.merge_laws.specs.merged_loads.Laws.{AreOfFiles}
use Rattle.merge_laws.proofs.lemmas.merged_loads.Limits.{rows_within}
use Rattle.merge_laws.specs.merged_standing.Laws.{TypesStand}
use Rattle.trim_laws.specs.merged_scopes.Laws.{MetNumbersThere}
use Rattle.trim_laws.specs.merged_scopes.Numbers.{numbers_of_met}
use Rattle.trim_laws.proofs.lemmas.marked_mets.Uses.{CoreIsBare, Fine}
use Rattle.trim_laws.proofs.lemmas.marked_mets.Joined.{by_types}
use Rattle.trim_laws.proofs.lemmas.marked_mets.Attributes.{CoreHasNoSpecs, by_attributes}
use Rattle.trim_laws.specs.spelled_parts.Laws.{FilesAreSpelled, CoreIsSpelled, LeftIsSpelled, AreSpelled, FewParams, SignaturesName}
use Rattle.trim_laws.specs.spelled_trims.Laws.{IsTrimOf, SignaturesAreOfTypes, TrimIsSpelled}
use Rattle.trim_laws.proofs.lemmas.spelled_trims.Numbers.{Typed, Numbered, met_numbered}
use Rattle.trim_laws.proofs.lemmas.spelled_trims.Tokens.{type_is}
use Rattle.trim_laws.proofs.lemmas.spelled_trims.Named.{all_named}

-- ---- the world of inputs

last_is : {A : Type 0} (xs : List A) (x : A) → slice_get (xs ++ x ∷ []) (length xs) ≡ Some x
last_is [] x = refl
last_is (y ∷ xs) x = last_is xs x

-- one of the inputs, or the core library
one_of_both : {A : Type 0} (xs : List A) (x : A) (a : ℕ) (y : A) → slice_get (xs ++ x ∷ []) a ≡ Some y → (slice_get xs a ≡ Some y) ⊎ (x ≡ y)
one_of_both [] x zero y e = inr cc
one_of_both [] x (suc a) y e = absurd (cc)
one_of_both (z ∷ xs) x zero y e = inl e
one_of_both (z ∷ xs) x (suc a) y e = one_of_both xs x a y e

front : {A : Type 0} (xs : List A) (x : A) (a : ℕ) (y : A) → suc a < length (xs ++ x ∷ []) → slice_get (xs ++ x ∷ []) a ≡ Some y → slice_get xs a ≡ Some y
front [] x a y lt e = absurd (omega (arith, lt))
front (z ∷ xs) x zero y lt e = e
front (z ∷ xs) x (suc a) y lt e = front xs x a y (omega (arith, lt)) e

core_is : (inputs : List AsmRec) (core : AsmRec) (a : ℕ) (rec : AsmRec) → slice_get (inputs ++ core ∷ []) a ≡ Some rec → suc a ≡ length (inputs ++ core ∷ []) → rec ≡ core
core_is inputs core a rec e last =
    let n = length-append inputs (core ∷ []) in
    let at : a ≡ length inputs = omega (arith, n, last) in
    let same : Some rec ≡ Some core = sym (subst (λ (k : ℕ). slice_get (inputs ++ core ∷ []) k ≡ Some rec) at e) ∙ last_is inputs core in
    cc

core_refs : (names : List CoreTypeName) → (core_with core_record names).type_ref ≡ []
unfolding core_with core_record record_with
core_refs names = refl

core_specs : (names : List CoreTypeName) → (core_with core_record names).type_spec ≡ []
unfolding core_with core_record record_with
core_specs names = refl

core_params : (names : List CoreTypeName) → (core_with core_record names).generic_param ≡ []
unfolding core_with core_record record_with
core_params names = refl

bare_in : (inputs : List AsmRec) → CoreIsBare (assemblies inputs)
unfolding assemblies
bare_in inputs a rec e last =
    let names = missing_names (inputs ++ core_record ∷ []) in
    ap (λ (r : AsmRec). r.type_ref) (core_is inputs (core_with core_record names) a rec e last) ∙ core_refs names

specs_in : (inputs : List AsmRec) → CoreHasNoSpecs (assemblies inputs)
unfolding assemblies
specs_in inputs a rec e last =
    let names = missing_names (inputs ++ core_record ∷ []) in
    ap (λ (r : AsmRec). r.type_spec) (core_is inputs (core_with core_record names) a rec e last) ∙ core_specs names

-- ---- records of files

met_tables : (bs : List ℕ) → first_fault (record_demands bs) ≡ None → first_fault (tables_demands (metadata_of bs) (metadata_place_of bs)) ≡ None
unfolding record_demands
met_tables bs meets = (none_of_both (map as_demand (image_demands bs)) (tables_demands (metadata_of bs) (metadata_place_of bs)) meets).1

few_rows : (bs : List ℕ) → first_fault (record_demands bs) ≡ None → count_of (metadata_of bs) 0x2a ≤ 1048576
unfolding count_of
few_rows bs meets = few_law (metadata_of bs) (metadata_place_of bs) 0x2a (met_tables bs meets) (omega arith)

rows_are : (bs : List ℕ) → length (record_at bs).generic_param ≡ count_of (metadata_of bs) 0x2a
unfolding record_at
rows_are bs = length_rows (generic_param_row (metadata_of bs)) (count_of (metadata_of bs) 0x2a)

few_in : (bs : List ℕ) → first_fault (record_demands bs) ≡ None → length (record_at bs).generic_param < 16777216
few_in bs meets = let few = few_rows bs meets in let size = rows_are bs in omega (arith, few, size)

few_params : (bs : List ℕ) (rec : AsmRec) → HasRecord bs rec → length rec.generic_param < 16777216
few_params bs rec has = subst (λ (r : AsmRec). length r.generic_param < 16777216) (sym has.is) (few_in bs has.meets)

module _ (inputs : List AsmRec) (files : AreOfFiles inputs) where
  all_few : FewParams (assemblies inputs)
  unfolding assemblies
  all_few a rec e =
      let names = missing_names (inputs ++ core_record ∷ []) in
      elim (one_of_both inputs (core_with core_record names) a rec e) [
        | inl f ↦ (let file = files a rec f in few_params file.file rec file.has)
        | inr same ↦ (let none : length rec.generic_param ≡ 0 = ap (λ (r : AsmRec). length r.generic_param) (sym same) ∙ ap length (core_params names) in omega (arith, none))
      ]

  all_spelled : FilesAreSpelled → CoreIsSpelled → AreSpelled (assemblies inputs)
  unfolding assemblies
  all_spelled of_files of_core a rec e =
      let names = missing_names (inputs ++ core_record ∷ []) in
      elim (one_of_both inputs (core_with core_record names) a rec e) [
        | inl f ↦ (let file = files a rec f in of_files file.file rec file.bytes file.has)
        | inr same ↦ subst CanWrite same (of_core names)
      ]

  all_records : ((bs : List ℕ) (rec : AsmRec) → HasRecord bs rec → IsRecord rec) → InputsAreRecords (assemblies inputs)
  unfolding assemblies
  all_records are a rec lt e =
      let names = missing_names (inputs ++ core_record ∷ []) in
      let file = files a rec (front inputs (core_with core_record names) a rec lt e) in
      are file.file rec file.has

-- ---- rows

no_long : (long : Option ℕ) (spelled : Bool) → rows_by long spelled ≡ None → long ≡ None
no_long None spelled e = refl
no_long (Some rows) spelled e = absurd (cc)

-- where no table has more rows than it may, tokens can name each row
rows_fit : (rec : AsmRec) → rows_over rec ≡ None → RowsFit rec
rows_fit rec h t = rows_within rec (no_long (long_table rec) (runs_have_spelling rec) h) t

-- ---- the laws

-- what the laws below say
pub record Laws : Type 0 where
  pub records : (bs : List ℕ) (rec : AsmRec) → HasRecord bs rec → IsRecord rec
  pub owners : OwnersStay
  pub types : TypesStand
  pub numbers : MetNumbersThere

module _ (laws : Laws) (internal : Bool) (inputs : List AsmRec) (entry : Option RowAt) (roots : List Root) (kept : Kept) (l : AsmRec) (t : IsTrimOf internal inputs entry roots kept l) where
  abbrev recs : List AsmRec
  recs = assemblies inputs

  abbrev o : Output
  o = output_of recs kept

  records : InputsAreRecords recs
  records = all_records inputs t.files laws.records

  fine : Every (Fine recs kept) o.mets
  unfolding output_of
  fine =
      all_join (Fine recs kept) (met_by_types recs kept) (met_by_attributes recs kept) (by_types recs kept (bare_in inputs) records entry roots t.all t.marked t.good)
      (by_attributes recs kept (bare_in inputs) (specs_in inputs) records entry roots t.all t.marked t.good)

  keeps : (u : TypeId) (at : RowAt) → Contains (flat_map (types_of_met recs) o.mets) u → type_home recs u ≡ Some at → suc at.asm < length recs → kept (item.Typ u) ≡ true
  keeps u at c home lt = let x = from_flat (types_of_met recs) o.mets u c in (fine.each x.item x.there).types.each u x.inside at home lt

  module _ (primary : AsmRec) (is : left internal o primary ≡ l) where
    typed : (u : TypeId) → Contains (flat_map (types_of_met recs) o.mets) u → Typed o u
    unfolding output_of
    typed u c =
        type_is internal o primary (ap (λ (r : AsmRec). length r.type_ref) is ∙ laws.types internal inputs kept l t.is records) (subst RowsFit (sym is) (rows_fit l t.few)) keeps u c

    numbered : (x : Met) → Contains o.mets x → Every (Numbered o) (numbers_of_met recs x)
    numbered x c =
        met_numbered o recs x (record { each = λ u d. typed u (to_flat (types_of_met recs) o.mets u (record { item = x; there = c; inside = d })) })
        (record { each = λ n d. laws.numbers inputs kept entry roots records t.marked t.good x n c d })

    named : SignaturesName (left internal o primary)
    named = all_named recs kept records (laws.owners recs entry roots kept records t.marked t.all) numbered internal primary

pub signatures_named : Laws → SignaturesAreOfTypes
unfolding restricted
signatures_named laws internal inputs entry roots kept l t =
    let o : Output = output_of (assemblies inputs) kept in
    let m = map_some (restricted_by internal o (placed_methods (moved_methods o))) (slice_get (assemblies inputs) 0) l t.is in
    subst SignaturesName m.2 (named laws internal inputs entry roots kept l t m.0 m.2)

pub trim_spelled : SignaturesAreOfTypes → FilesAreSpelled → CoreIsSpelled → LeftIsSpelled → TrimIsSpelled
trim_spelled names of_files of_core of_left internal inputs entry roots kept l t =
    of_left internal (assemblies inputs) kept l t.is (all_spelled inputs t.files of_files of_core) (all_few inputs t.files) (names internal inputs entry roots kept l t)
