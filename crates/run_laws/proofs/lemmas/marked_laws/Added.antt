-- Types that the core library's table has are no names that only modifiers use (II.7.1.1), and primitives are among them.
use Rattle.std.proofs.Common.{◌≡◌, ℕ, suc, ◌-◌, ◌<◌, Bool, true, false, List, [], ◌∷◌, ◌++◌, length, map, Option, Some, None, refl, sym, ap, subst, ◌∙◌, arith}
use Rattle.std.specs.Prelude.{position, nat_le, ◌==◌, ◌&&◌, ◌||◌}
use Rattle.std.specs.List.{list_any}
use Rattle.std.specs.Option.{option_map}
use Rattle.std.proofs.lemmas.Bool.{lt-leb}
use Rattle.il_base.specs.declared.ids.TypeId.{TypeId}
use Rattle.il_base.specs.declared.ids.Item.TheVariants as item
use Rattle.il_base.specs.declared.world_model.types.TypeDefRow.{TypeDefRow}
use Rattle.il_base.specs.declared.world_model.record.AsmRec.{AsmRec}
use Rattle.il_base.specs.world_model.Worlds.{type_id, core_types, is_code_of, prim_type}
use Rattle.il_base.specs.core_table.Record.{core_record, record_with, type_rows}
use Rattle.il_base.specs.declared.core_table.types.TheConstants.{TYPES}
use Rattle.rules.specs.declared.link_rules.row_at.RowAt.{RowAt}
use Rattle.rules.specs.declared.link_rules.core_type_name.CoreTypeName.{CoreTypeName}
use Rattle.rules.specs.link_rules.CoreNames.{core_with, missing_names, added_row}
use Rattle.rules.specs.link_rules.Types.{at_row}
use Rattle.rules.specs.link_rules.Members.{type_home}
use Rattle.rules.specs.link_rules.Cycles.{listed}
use Rattle.rules.specs.link_rules.Linked.{assemblies}
use Rattle.base_laws.proofs.lemmas.type_laws.Places.{place_has}
use Rattle.rules.specs.mark_rules.Facts.Fact.{marked}
use Rattle.run_laws.proofs.lemmas.query_laws.Prims.{prim_first}
use Rattle.run_laws.specs.marked_laws.Flags.{is_added_row, is_added}
use Rattle.run_laws.proofs.lemmas.marked_laws.Places.{type_home_of, last_row, position_below}

-- ---- rows of the table

none_left : (b : Bool) → ((b && false) || false) ≡ false
none_left true = refl
none_left false = refl

added_by : (recs : List AsmRec) (at : RowAt) (o : Option RowAt) → o ≡ Some at → nat_le (length TYPES) at.row ≡ false → list_any (is_added_row recs) (listed o) ≡ false
added_by recs at None e low = absurd (cc)
added_by recs at (Some x) e low =
    let same : x ≡ at = cc in
    ap (λ (y : RowAt). is_added_row recs y || false) same ∙ ap (λ (b : Bool). (suc at.asm == length recs && b) || false) low ∙ none_left (suc at.asm == length recs)

-- a type with a row of the table
pub not_added : (recs : List AsmRec) (k : ℕ) → k < length TYPES → k < length (core_types recs) → (t : TypeId) → type_id recs (length recs - 1) k ≡ t → is_added recs (marked (item.Typ t)) ≡ false
not_added recs k low lt t same =
    let row = place_has (core_types recs) k lt in
    let l = last_row recs k row.0 row.1 in
    subst (λ (x : TypeId). list_any (is_added_row recs) (listed (type_home recs x)) ≡ false) same
    (added_by recs (at_row (length recs - 1) k) (type_home recs (type_id recs (length recs - 1) k)) (type_home_of recs (at_row (length recs - 1) k) l.rec l.there l.row l.has) (lt-leb (length TYPES) k low))

-- ---- primitives are among them

table_count : length core_record.type_def ≡ length TYPES
unfolding core_record record_with type_rows
table_count = refl

prim_low : (added : List TypeDefRow) (n k : ℕ) → position (is_code_of n) (core_record.type_def ++ added) ≡ Some k → k < length TYPES
prim_low added n k e =
    let lt = position_below (is_code_of n) core_record.type_def k (sym (prim_first n added) ∙ e) in
    let count = table_count in
    omega (arith, lt, count)

-- ---- in the world of the inputs

types_behind : (xs : List AsmRec) (c : AsmRec) → core_types (xs ++ c ∷ []) ≡ c.type_def
unfolding core_types
types_behind [] c = refl
types_behind (x ∷ []) c = refl
types_behind (x ∷ y ∷ xs) c = types_behind (y ∷ xs) c

rows_are : (names : List CoreTypeName) → (core_with core_record names).type_def ≡ core_record.type_def ++ map (added_row core_record) names
unfolding core_with
rows_are names = refl

table_first : (inputs : List AsmRec) → core_types (assemblies inputs) ≡ core_record.type_def ++ map (added_row core_record) (missing_names (inputs ++ core_record ∷ []))
unfolding assemblies
table_first inputs =
    types_behind inputs (core_with core_record (missing_names (inputs ++ core_record ∷ []))) ∙ rows_are (missing_names (inputs ++ core_record ∷ []))

module _ (inputs : List AsmRec) (n : ℕ) (t : TypeId) where
  prim_by : (o : Option ℕ) → position (is_code_of n) (core_types (assemblies inputs)) ≡ o → option_map (λ (k : ℕ). type_id (assemblies inputs) (length (assemblies inputs) - 1) k) o ≡ Some t → is_added (assemblies inputs) (marked (item.Typ t)) ≡ false
  prim_by None e h = absurd (cc)
  prim_by (Some k) e h =
      let same : type_id (assemblies inputs) (length (assemblies inputs) - 1) k ≡ t = cc in
      let low = prim_low (map (added_row core_record) (missing_names (inputs ++ core_record ∷ []))) n k (ap (position (is_code_of n)) (sym (table_first inputs)) ∙ e) in
      not_added (assemblies inputs) k low (position_below (is_code_of n) (core_types (assemblies inputs)) k e) t same

  pub prim_not_added : prim_type (assemblies inputs) n ≡ Some t → is_added (assemblies inputs) (marked (item.Typ t)) ≡ false
  unfolding prim_type
  prim_not_added e = prim_by (position (is_code_of n) (core_types (assemblies inputs))) refl e
