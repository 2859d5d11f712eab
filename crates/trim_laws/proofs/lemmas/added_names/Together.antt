-- The law, for a merge: a type of the core library that is met is in the output's world.
use Rattle.std.proofs.Common.{◌≡◌, ◌<◌, ◌≤◌, ◌+◌, ◌-◌, ℕ, zero, suc, List, [], ◌∷◌, ◌++◌, length, map, Bool, true, false, Option, Some, None, ◌⊎◌, inl, inr, refl, sym, ap, subst, ◌∙◌, arith, le-ltb}
use Rattle.std.specs.Prelude.{slice_get, nat_lt, Contains, if◌then◌else◌}
use Rattle.std.specs.Option.{option_map, option_and_then}
use Rattle.std.proofs.lemmas.Bool.{cases_lt}
use Rattle.il_base.specs.declared.ids.TypeId.{TypeId}
use Rattle.il_base.specs.declared.world_model.types.TypeDefRow.{TypeDefRow}
use Rattle.il_base.specs.declared.world_model.record.AsmRec.{AsmRec}
use Rattle.il_base.specs.world_model.Tokens.{index_in}
use Rattle.il_base.specs.declared.core_table.types.TheConstants.{TYPE_COUNT}
use Rattle.il_base.specs.core_table.Record.{core_record}
use Rattle.rules.specs.declared.link_rules.row_at.RowAt.{RowAt}
use Rattle.rules.specs.declared.link_rules.core_type_name.CoreTypeName.{CoreTypeName}
use Rattle.rules.specs.link_rules.Types.{type_in}
use Rattle.rules.specs.link_rules.CoreNames.{missing_names, added_row, core_with, all_modifiers}
use Rattle.rules.specs.link_rules.Members.{type_home}
use Rattle.rules.specs.link_rules.Linked.{assemblies}
use Rattle.base_laws.proofs.lemmas.type_laws.Within.{In}
use Rattle.rules.specs.merge_rules.Order.{Met}
use Rattle.rules.specs.merge_rules.Refs.{Output, types_of_met, type_refs, found_ref, type_token}
use Rattle.rules.specs.merge_rules.Restricted.{output_of}
use Rattle.merge_laws.specs.merged_record.Laws.{InputsAreRecords}
use Rattle.merge_laws.proofs.lemmas.merged_owners.Every.{Every}
use Rattle.rules.specs.merged_world_rules.Merge.{Merge, IsMerge, before, after, output, names_before, names_after}
use Rattle.rules.specs.merged_world_rules.NewNumbers.{place_of_name, core_rows, type_core}
use Rattle.merge_laws.specs.merged_references.Written.{HasReferenceRows}
use Rattle.merge_laws.proofs.lemmas.merged_references.Lists.{contained, contains}
use Rattle.merge_laws.proofs.lemmas.merged_references.Left.{IsLeft, is_left}
use Rattle.merge_laws.proofs.lemmas.merged_references.Core.{count}
use Rattle.merge_laws.proofs.lemmas.merged_references.Rows.{IsCoreType, is_core_type, row_refers}
use Rattle.merge_laws.proofs.lemmas.merged_references.Joined as joined
use Rattle.merge_laws.proofs.lemmas.merged_references.Joined.{Premises, writes, table_stays, core_met}
use Rattle.merge_laws.proofs.lemmas.merged_references.Merges as merges
use Rattle.merge_laws.proofs.lemmas.merged_references.Merges.{premises}
use Rattle.merge_laws.proofs.lemmas.merged_standing.Whole.{reference_rows_stand}
use Rattle.trim_laws.proofs.lemmas.added_names.Listed.{listed_low}
use Rattle.trim_laws.proofs.lemmas.added_names.Used.{IsUsed, is_known, is_modifier}
use Rattle.trim_laws.proofs.lemmas.added_names.Sources.{mets_hold}
use Rattle.trim_laws.proofs.lemmas.added_names.Core.{in_place}
use Rattle.trim_laws.proofs.lemmas.added_names.Writing.{FineMet, all_fine}
use Rattle.trim_laws.proofs.lemmas.added_names.Rows.{met_used}
use Rattle.trim_laws.proofs.lemmas.added_names.Reference.{index, token_is, row_there}
use Rattle.trim_laws.proofs.lemmas.added_names.Missing.{names_lack, name_added, name_placed}

-- ---- the row of a name

in_behind : {A : Type 0} (xs ys : List A) (n i : ℕ) → n ≡ length xs + i → slice_get (xs ++ ys) n ≡ slice_get ys i
in_behind [] ys n i e = ap (slice_get ys) (omega arith)
in_behind (x ∷ xs) ys zero i e = absurd (omega arith)
in_behind (x ∷ xs) ys (suc n) i e = in_behind xs ys n i (omega arith)

of_map : {A B : Type 0} (f : A → B) (xs : List A) (k : ℕ) (y : B) → slice_get (map f xs) k ≡ Some y → (x : A) × (slice_get xs k ≡ Some x) × (f x ≡ y)
of_map f [] k y e = absurd (cc)
of_map f (x ∷ xs) zero y e = (x, refl, cc)
of_map f (x ∷ xs) (suc k) y e = of_map f xs k y e

module _ (names those : List CoreTypeName) where
  abbrev own : ℕ
  own = length core_record.type_def

  rows_are : (core_with core_record names).type_def ≡ core_record.type_def ++ map (added_row core_record) names
  unfolding core_with
  rows_are = refl

  -- the name of a row after the table
  pub name_of : (r : ℕ) (row : TypeDefRow) → own ≤ r → slice_get (core_with core_record names).type_def r ≡ Some row → (x : CoreTypeName) × (slice_get names (r - own) ≡ Some x) × (added_row core_record x ≡ row)
  name_of r row le e =
      of_map (added_row core_record) names (r - own) row
      (sym (in_behind core_record.type_def (map (added_row core_record) names) r (r - own) (omega (arith, le))) ∙ ap (λ (ts : List TypeDefRow). slice_get ts r) (sym rows_are) ∙ e)

  -- it stays where the name is among the others
  pub name_stays : (r k : ℕ) (x : CoreTypeName) → own ≤ r → slice_get names (r - own) ≡ Some x → place_of_name those x ≡ Some k → (core_rows own names those).to r ≡ Some (own + k)
  name_stays r k x le e f =
      ap (λ (b : Bool). if b then Some r else option_map (λ j. own + j) (option_and_then (place_of_name those) (slice_get names (r - own)))) (le-ltb r own le)
      ∙ ap (λ (o : Option CoreTypeName). option_map (λ j. own + j) (option_and_then (place_of_name those) o)) e ∙ ap (option_map (λ j. own + j)) f

-- ---- records

front : {A : Type 0} (xs : List A) (x : A) (a : ℕ) (y : A) → suc a < length (xs ++ x ∷ []) → slice_get (xs ++ x ∷ []) a ≡ Some y → slice_get xs a ≡ Some y
front [] x a y lt e = absurd (omega (arith, lt))
front (z ∷ xs) x zero y lt e = e
front (z ∷ xs) x (suc a) y lt e = front xs x a y (omega (arith, lt)) e

module _ (m : Merge) (is : IsMerge m) where
  rows : HasReferenceRows m
  rows = reference_rows_stand m is

  abbrev names : List CoreTypeName
  names = names_before m

  abbrev those : List CoreTypeName
  those = names_after m

  abbrev recs : List AsmRec
  recs = m.inputs ++ core_with core_record names ∷ []

  abbrev mets : List Met
  mets = (output m).mets

  abbrev o : Output
  o = record { recs = assemblies m.inputs; kept = m.kept; mets = mets }

  pub records : InputsAreRecords (assemblies m.inputs)
  unfolding assemblies
  records a rec lt e = is.records a rec (front m.inputs (core_with core_record names) a rec lt e)

  left_is : IsLeft m.internal o m.left
  unfolding output_of
  left_is = is_left m.internal (before m) m.kept m.left is.restricts

  fine : Every (FineMet (before m) o m.left) mets
  unfolding output_of
  fine = mets_hold (before m) m.kept (FineMet (before m) o m.left) (all_fine m.inputs m.internal m.kept mets m.left left_is) records

  module _ (x : Met) (t : TypeId) (at : RowAt) (h : In x mets) (g : In t (types_of_met (before m) x)) (home : type_home (before m) t ≡ Some at) (last : suc at.asm ≡ length (before m)) where
    -- ---- a type of the table

    low_stays : at.row < TYPE_COUNT → (s : ℕ) × ((type_core m).to at.row ≡ Some s)
    low_stays lt = (at.row, table_stays names those at.row lt)

    -- ---- a name that only modifiers use

    core_type : IsCoreType m.inputs names t at
    unfolding assemblies
    core_type = is_core_type m.inputs names t at home last

    referred : In t (type_refs recs mets)
    unfolding assemblies
    referred = core_met m.internal m.inputs names those m.kept mets m.left (premises m is rows) t at home x last h g

    name_again : (y : CoreTypeName) → added_row core_record y ≡ core_type.row → In y names → In (type_token o t) (all_modifiers m.left) → In y those
    unfolding assemblies
    name_again y e i used =
        let w = writes m.internal m.inputs names those m.kept mets m.left (premises m is rows) in
        let k = index m.inputs names those m.kept mets m.left w t at core_type referred in
        let row = found_ref o t core_type.row in
        let lacks : type_in core_record None row.namespace row.name ≡ None =
        subst (λ (r : TypeDefRow). type_in core_record None r.namespace r.name ≡ None) e (names_lack m.inputs core_record y i) in
        let added =
        name_added m.left w.own row (row_refers m.inputs names t at core_type m.kept mets m.left w.assemblies w.few_assemblies referred) lacks (type_token o t) k
        (token_is m.inputs names those m.kept mets m.left w t at core_type referred) (row_there m.inputs names those m.kept mets m.left w t at core_type referred) used in
        subst (λ (r : TypeDefRow). In (record { namespace = r.namespace; name = r.name }) those) (sym e) added

    high_stays : TYPE_COUNT ≤ at.row → In (type_token o t) (all_modifiers m.left) → (s : ℕ) × ((type_core m).to at.row ≡ Some s)
    high_stays le used =
        let n = count names in
        let high : length core_record.type_def ≤ at.row = omega (arith, n, le) in
        let y = name_of names those at.row core_type.row high core_type.there in
        let again = name_again y.0 y.2 (in_place names (at.row - length core_record.type_def) y.0 y.1) used in
        let k = name_placed y.0 those again in
        (length core_record.type_def + k.0, name_stays names those at.row k.0 y.0 high y.1 k.1)

    stays_by : (at.row < TYPE_COUNT) ⊎ (TYPE_COUNT ≤ at.row) → IsUsed (before m) o t (all_modifiers m.left) → (s : ℕ) × ((type_core m).to at.row ≡ Some s)
    stays_by (inl lt) u = low_stays lt
    stays_by (inr le) (is_known l) = low_stays (listed_low (before m) t at home l last)
    stays_by (inr le) (is_modifier i) = high_stays le i

    pub core_stays : (s : ℕ) × ((type_core m).to at.row ≡ Some s)
    core_stays =
        stays_by (cases_lt at.row TYPE_COUNT) (met_used m.inputs m.internal m.kept mets m.left left_is t x h (fine.each x (contains mets x h)) g)
