-- The core library with the names that are added to it: each type of its table is the first of its name, and the first of its element
-- type, and none is nested.
use Rattle.std.proofs.Common.{◌≡◌, ◌<◌, ◌+◌, ℕ, zero, suc, List, [], ◌∷◌, ◌++◌, length, map, Bool, true, false, Option, Some, None, refl, sym, ap, ◌∙◌, ◌&&◌, arith, eqb-true}
use Rattle.std.specs.Prelude.{slice_get, ◌==◌}
use Rattle.std.proofs.lemmas.Bool.{and_parts}
use Rattle.il_base.specs.declared.world_model.types.TypeDefRow.{TypeDefRow}
use Rattle.il_base.specs.declared.world_model.record.AsmRec.{AsmRec}
use Rattle.il_base.specs.world_model.Tokens.{token_of}
use Rattle.il_base.specs.declared.core_table.types.TheConstants.{TYPE_COUNT}
use Rattle.il_base.specs.core_table.Names.{text_of}
use Rattle.il_base.specs.core_table.Record.{core_record, record_with, type_rows, type_row}
use Rattle.rules.specs.declared.link_rules.core_type_name.CoreTypeName.{CoreTypeName}
use Rattle.rules.specs.link_rules.Types.{encloser_in, encloser, type_in}
use Rattle.rules.specs.link_rules.CoreNames.{added_row, core_with}
use Rattle.base_laws.proofs.lemmas.type_laws.CoreRows.{place_front}

-- ---- the first of its name

abbrev is_at : ℕ → Option ℕ → Bool
is_at k None = false
is_at k (Some j) = j == k

abbrev finds_from : AsmRec → ℕ → List TypeDefRow → Bool
finds_from core k [] = true
finds_from core k (t ∷ ts) = is_at k (type_in core None t.namespace t.name) && finds_from core (suc k) ts

at_is : (k : ℕ) (o : Option ℕ) → is_at k o ≡ true → o ≡ Some k
at_is k None e = cc
at_is k (Some j) e = ap (λ (n : ℕ). Some n) (eqb-true j k e)

finds_at : (core : AsmRec) (k j n : ℕ) (ts : List TypeDefRow) (t : TypeDefRow) → finds_from core k ts ≡ true → slice_get ts j ≡ Some t → n ≡ k + j
    → type_in core None t.namespace t.name ≡ Some n
finds_at core k j n [] t e f g = cc
finds_at core k zero n (s ∷ ts) t e f g =
    let same : s ≡ t = cc in
    let at : type_in core None s.namespace s.name ≡ Some k = at_is k (type_in core None s.namespace s.name) (and_parts _ (finds_from core (suc k) ts) e).0 in
    let here : k ≡ n = omega (arith, g) in
    ap (λ (r : TypeDefRow). type_in core None r.namespace r.name) (sym same) ∙ at ∙ ap (λ (m : ℕ). Some m) here
finds_at core k (suc j) n (s ∷ ts) t e f g = finds_at core (suc k) j n ts t (and_parts (is_at k (type_in core None s.namespace s.name)) (finds_from core (suc k) ts) e).1 f (omega (arith, g))

module _ (names : List CoreTypeName) where
  abbrev core : AsmRec
  core = core_with core_record names

  finds_all : finds_from core 0 core_record.type_def ≡ true
  unfolding core_with core_record record_with type_rows type_row text_of type_in encloser
  finds_all = refl

  pub found_by_name : (k : ℕ) (t : TypeDefRow) → slice_get core_record.type_def k ≡ Some t → type_in core None t.namespace t.name ≡ Some k
  found_by_name k t e = finds_at core 0 k k core_record.type_def t finds_all e (omega arith)

  -- ---- rows

  rows_are : core.type_def ≡ core_record.type_def ++ map (added_row core_record) names
  unfolding core_with
  rows_are = refl

  pub count : length core_record.type_def ≡ TYPE_COUNT
  unfolding core_record record_with type_rows
  count = refl

  pub table_row : (k : ℕ) (t : TypeDefRow) → slice_get core_record.type_def k ≡ Some t → slice_get core.type_def k ≡ Some t
  table_row k t e = ap (λ (rows : List TypeDefRow). slice_get rows k) rows_are ∙ place_front core_record.type_def (map (added_row core_record) names) k t e

  none_nested : core.nested_class ≡ []
  unfolding core_with core_record record_with
  none_nested = refl

  pub top_level : (k : ℕ) → encloser core k ≡ None
  unfolding encloser
  top_level k = ap (encloser_in (token_of 0x02 (suc k))) none_nested

  -- a row of the table
  pub record TableRow (k : ℕ) : Type 0 where
    pub row : TypeDefRow
    pub there : slice_get core_record.type_def k ≡ Some row
    pub here : slice_get core.type_def k ≡ Some row

  row_at : (xs : List TypeDefRow) (k : ℕ) → k < length xs → (t : TypeDefRow) × (slice_get xs k ≡ Some t)
  row_at [] k lt = absurd (omega arith)
  row_at (x ∷ xs) zero lt = (x, refl)
  row_at (x ∷ xs) (suc k) lt = row_at xs k (omega arith)

  pub in_table : (k : ℕ) → k < TYPE_COUNT → TableRow k
  in_table k lt =
      let r = row_at core_record.type_def k (omega (arith, lt, count)) in
      record { row = r.0; there = r.1; here = table_row k r.0 r.1 }
