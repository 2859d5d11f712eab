-- Each type that is referred to has one row, with the core library after the inputs.
use Rattle.std.proofs.Common.{◌≡◌, ◌<◌, ℕ, zero, suc, ◌-◌, List, [], ◌∷◌, ◌++◌, length, Some, None, refl, sym, ap, subst, ◌∙◌, arith}
use Rattle.std.specs.Prelude.{slice_get}
use Rattle.std.specs.List.{Contains}
use Rattle.std.proofs.lemmas.List.{length-append}
use Rattle.il_base.specs.declared.ids.TypeId.{TypeId}
use Rattle.il_base.specs.declared.table.TheConstants.{TYPE_DEF}
use Rattle.il_base.specs.declared.world_model.record.AsmRec.{AsmRec}
use Rattle.il_base.specs.world_model.Tokens.{index_in}
use Rattle.il_base.specs.world_model.Records.{IsRecord}
use Rattle.il_base.specs.world_model.Worlds.{type_id}
use Rattle.il_base.specs.core_table.Record.{core_record}
use Rattle.il_base.specs.declared.core_table.tokens.TheConstants.{ARRAY}
use Rattle.rules.specs.declared.link_rules.core_type_name.CoreTypeName.{CoreTypeName}
use Rattle.rules.specs.link_rules.CoreNames.{missing_names, core_with}
use Rattle.rules.specs.link_rules.Types.{at_row, encloser}
use Rattle.rules.specs.link_rules.Members.{array_type}
use Rattle.rules.specs.link_rules.Linked.{assemblies}
use Rattle.base_laws.proofs.lemmas.type_laws.CoreRows.{array_row}
use Rattle.base_laws.proofs.lemmas.type_laws.Places.{place_within}
use Rattle.base_laws.proofs.lemmas.known_laws.Lists.{map_some}
use Rattle.rules.specs.merge_rules.Numbers.{Kept}
use Rattle.rules.specs.merge_rules.Refs.{Output, types_of_met, type_refs, type_ref_row, MemberKey, member_ref_row}
use Rattle.rules.specs.merge_rules.Restricted.{moved_methods, placed_methods, restricted_by, output_of, restricted}
use Rattle.merge_laws.specs.merged_record.Laws.{InputsAreRecords}
use Rattle.merge_laws.proofs.lemmas.merged_links.Enclosers.{encloses, type_there}
use Rattle.merge_laws.proofs.lemmas.merged_references.Core.{top_level}
use Rattle.merge_laws.proofs.lemmas.merged_owners.Every.{Every}
use Rattle.rules.specs.merged_world_rules.Merge.{before, output}
use Rattle.merge_laws.specs.merged_standing.Laws.{TypesStand, ReferenceRowsStand}
use Rattle.merge_laws.proofs.lemmas.merged_standing.Members.{Stands, MemberStands, all_hold, refs_stand}
use Rattle.merge_laws.proofs.lemmas.merged_standing.Members as members
use Rattle.merge_laws.proofs.lemmas.merged_standing.Low.{IsLow, stands_low}
use Rattle.merge_laws.proofs.lemmas.merged_standing.Numbers.{IsThere}
use Rattle.merge_laws.proofs.lemmas.merged_standing.Mets.{mets_hold}
use Rattle.merge_laws.proofs.lemmas.merged_standing.Types as types
use Rattle.merge_laws.proofs.lemmas.merged_standing.Types.{all_there, refs_there, rows_length}
use Rattle.merge_laws.proofs.lemmas.merged_record.Tokens.{index_row}

last_is : {A : Type 0} (xs : List A) (x : A) → slice_get (xs ++ x ∷ []) (length xs) ≡ Some x
last_is [] x = refl
last_is (y ∷ xs) x = last_is xs x

-- of an input, or of the core library
either : {A : Type 0} (P : ℕ → A → Type 0) (xs : List A) (x : A) → ((a : ℕ) (y : A) → suc a < length (xs ++ x ∷ []) → slice_get (xs ++ x ∷ []) a ≡ Some y → P a y) → P (length xs) x
    → (a : ℕ) (y : A) → slice_get (xs ++ x ∷ []) a ≡ Some y → P a y
either P [] x inputs core zero y e = let same : x ≡ y = cc in subst (P 0) same core
either P [] x inputs core (suc a) y e = absurd (cc)
either P (z ∷ xs) x inputs core zero y e = let n = length-append xs (x ∷ []) in inputs 0 y (omega (arith, n)) e
either P (z ∷ xs) x inputs core (suc a) y e = either (λ n w. P (suc n) w) xs x (λ b w lt f. inputs (suc b) w (omega (arith, lt)) f) core a y e

encloser_there : (rec : AsmRec) → IsRecord rec → (k j : ℕ) → encloser rec k ≡ Some j → j < length rec.type_def
encloser_there rec is k j h =
    let r = encloses rec k j h in
    let t = type_there rec r.row.enclosing_class (is.tokens.nested_classes r.place r.row r.there).1 in
    let le = t.2 in
    let i = (index_row TYPE_DEF r.row.enclosing_class j r.enclosing).1 in
    omega arith

module _ (inputs : List AsmRec) (names : List CoreTypeName) where
  abbrev core : AsmRec
  core = core_with core_record names

  abbrev recs : List AsmRec
  recs = inputs ++ core ∷ []

  array_there : (t : TypeId) → array_type recs ≡ Some t → IsLow recs t
  array_there t e =
      let m = map_some (type_id recs (length recs - 1)) (index_in TYPE_DEF ARRAY) t e in
      let k : 21 ≡ m.0 = cc in
      let row = array_row names in
      let n = length-append inputs (core ∷ []) in
      let last : length inputs ≡ length recs - 1 = omega (arith, n) in
      let there : slice_get recs (length recs - 1) ≡ Some core = subst (λ (a : ℕ). slice_get recs a ≡ Some core) last (last_is inputs core) in
      let lt : 21 < length core.type_def = place_within core.type_def 21 row.row row.there in
      subst (IsLow recs) m.2 (stands_low recs (at_row (length recs - 1) m.0) (record { rec = core; there = there; below = subst (λ (j : ℕ). j < length core.type_def) k lt }))

  core_nests : (k j : ℕ) → encloser core k ≡ Some j → j < length core.type_def
  core_nests k j h = let none : None ≡ Some j = sym (top_level names k) ∙ h in absurd (cc)

  nests : InputsAreRecords recs → (a : ℕ) (rec : AsmRec) → slice_get recs a ≡ Some rec → (k j : ℕ) → encloser rec k ≡ Some j → j < length rec.type_def
  nests records =
      either (λ a (rec : AsmRec). (k j : ℕ) → encloser rec k ≡ Some j → j < length rec.type_def) inputs core (λ a rec lt e. encloser_there rec (records a rec lt e)) core_nests

  types_there : (kept : Kept) → InputsAreRecords recs → (t : TypeId) → Contains (type_refs recs (output_of recs kept).mets) t → IsThere recs t
  types_there kept records =
      refs_there recs (nests records) (output_of recs kept).mets (mets_hold recs (λ x. Every (IsThere recs) (types_of_met recs x)) (all_there recs array_there) records kept)

out_there : (all : List AsmRec) (kept : Kept) → ((t : TypeId) → Contains (type_refs all (output_of all kept).mets) t → IsThere all t)
    → (t : TypeId) → Contains (type_refs (output_of all kept).recs (output_of all kept).mets) t → IsThere (output_of all kept).recs t
unfolding output_of
out_there all kept h = h

all_there_in : (inputs : List AsmRec) (kept : Kept) → InputsAreRecords (assemblies inputs) → (t : TypeId) → Contains (type_refs (assemblies inputs) (output_of (assemblies inputs) kept).mets) t → IsThere (assemblies inputs) t
unfolding assemblies
all_there_in inputs kept records = types_there inputs (missing_names (inputs ++ core_record ∷ [])) kept records

pub types_stand : TypesStand
unfolding restricted
types_stand internal inputs kept left e records =
    let recs : List AsmRec = assemblies inputs in
    let o : Output = output_of recs kept in
    let m = map_some (restricted_by internal o (placed_methods (moved_methods o))) (slice_get recs 0) left e in
    ap (λ (r : AsmRec). length r.type_ref) (sym m.2) ∙ rows_length o (out_there recs kept (all_there_in inputs kept records))

-- ---- row by row

single : {A : Type 0} (xs : List A) → length xs ≡ 1 → (y : A) × (xs ≡ y ∷ [])
single [] e = absurd (omega (arith, e))
single (x ∷ []) e = (x, refl)
single (x ∷ y ∷ xs) e = absurd (omega (arith, e))

front : {A : Type 0} (xs : List A) (x : A) (a : ℕ) (y : A) → suc a < length (xs ++ x ∷ []) → slice_get (xs ++ x ∷ []) a ≡ Some y → slice_get xs a ≡ Some y
front [] x a y lt e = absurd (omega (arith, lt))
front (z ∷ xs) x zero y lt e = e
front (z ∷ xs) x (suc a) y lt e = front xs x a y (omega (arith, lt)) e

records_in : (inputs : List AsmRec) → ((a : ℕ) (rec : AsmRec) → slice_get inputs a ≡ Some rec → IsRecord rec) → InputsAreRecords (assemblies inputs)
unfolding assemblies
records_in inputs h a rec lt e = h a rec (front inputs (core_with core_record (missing_names (inputs ++ core_record ∷ []))) a rec lt e)

type_row_length : (all : List AsmRec) (kept : Kept) (t : TypeId) → IsThere all t → length (type_ref_row (output_of all kept) t) ≡ 1
unfolding output_of
type_row_length all kept t h = types.row_length (output_of all kept) t h

member_row_length : (all : List AsmRec) (kept : Kept) (x : MemberKey) → MemberStands all x → length (member_ref_row (output_of all kept) x) ≡ 1
unfolding output_of
member_row_length all kept x h = members.row_length all (output_of all kept) refl x h

pub reference_rows_stand : ReferenceRowsStand
reference_rows_stand m is =
    let all : List AsmRec = before m in
    let records : InputsAreRecords all = records_in m.inputs is.records in
    record {
      types = λ t c. single (type_ref_row (output m) t) (type_row_length all m.kept t (all_there_in m.inputs m.kept records t c));
      members = λ x c. single (member_ref_row (output m) x) (member_row_length all m.kept x (refs_stand all (output m).mets (mets_hold all (Stands all) (all_hold all) records m.kept) x c));
    }
