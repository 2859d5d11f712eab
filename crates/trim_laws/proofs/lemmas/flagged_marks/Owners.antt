-- A method's type isn't one of the names that only modifiers use (II.7.1.1): these have no methods.
use Rattle.std.proofs.Common.{◌≡◌, ◌<◌, ◌≤◌, ℕ, zero, suc, ◌+◌, Bool, true, false, List, [], ◌∷◌, ◌++◌, length, map, Option, Some, None, nat_le, nat_lt, refl, sym, ap, subst, ◌∙◌, ◌&&◌, arith}
use Rattle.std.specs.Prelude.{slice_get, if◌then◌else◌}
use Rattle.std.proofs.lemmas.Bool.{leb-true, le-ltb}
use Rattle.std.specs.List.{position_from}
use Rattle.std.specs.Option.{option_map, option_and_then}
use Rattle.il_base.specs.declared.world_model.types.TypeDefRow.{TypeDefRow}
use Rattle.il_base.specs.declared.world_model.record.AsmRec.{AsmRec}
use Rattle.il_base.specs.core_table.Record.{core_record, record_with, type_rows}
use Rattle.il_base.specs.declared.core_table.types.TheConstants.{TYPES}
use Rattle.rules.specs.declared.link_rules.row_at.RowAt.{RowAt}
use Rattle.rules.specs.declared.link_rules.core_type_name.CoreTypeName.{CoreTypeName}
use Rattle.rules.specs.link_rules.Types.{at_row}
use Rattle.rules.specs.link_rules.CoreNames.{core_with, added_row, missing_names}
use Rattle.rules.specs.link_rules.Members.{owns_method}
use Rattle.rules.specs.link_rules.Linked.{assemblies}
use Rattle.rules.specs.type_rules.Slots.{type_of_method, owner_from}

-- an added type's run is empty
none_owned : (b : Bool) (first row : ℕ) → nat_le first row ≡ b → (b && nat_lt row first) ≡ false
none_owned false first row e = refl
none_owned true first row e = le-ltb row first (leb-true first row e)

added_owns : (row : ℕ) (names : List CoreTypeName) (k s : ℕ) → position_from (owns_method row) s (map (added_row core_record) names) ≡ Some k → ⊥
added_owns row [] k s e = absurd (cc)
added_owns row (x ∷ names) k s e =
    let none : owns_method row (added_row core_record x) ≡ false = none_owned (nat_le (length core_record.method_def + 1) row) (length core_record.method_def + 1) row refl in
    added_owns row names k (s + 1) (subst (λ (b : Bool). (if b then Some s else position_from (owns_method row) (s + 1) (map (added_row core_record) names)) ≡ Some k) none e)

-- a row that is found before these is one of the table
first_by : (s k n : ℕ) (later : Option ℕ) (b : Bool) → (later ≡ Some k → k < s + 1 + n) → (if b then Some s else later) ≡ Some k → k < s + suc n
first_by s k n later true next h = let same : s ≡ k = cc in omega (arith, same)
first_by s k n later false next h = let lt = next h in omega (arith, lt)

first_found : (row : ℕ) (names : List CoreTypeName) (ts : List TypeDefRow) (k s : ℕ) → position_from (owns_method row) s (ts ++ map (added_row core_record) names) ≡ Some k → k < s + length ts
first_found row names [] k s e = absurd (added_owns row names k s e)
first_found row names (t ∷ ts) k s e =
    first_by s k (length ts) (position_from (owns_method row) (s + 1) (ts ++ map (added_row core_record) names)) (owns_method row t) (first_found row names ts k (s + 1)) e

table_count : length core_record.type_def ≡ length TYPES
unfolding core_record record_with type_rows
table_count = refl

rows_are : (names : List CoreTypeName) → (core_with core_record names).type_def ≡ core_record.type_def ++ map (added_row core_record) names
unfolding core_with
rows_are names = refl

low : (names : List CoreTypeName) (row k : ℕ) → position_from (owns_method row) 0 (core_with core_record names).type_def ≡ Some k → k < length TYPES
low names row k e =
    let lt = first_found row names core_record.type_def k 0 (subst (λ (ts : List TypeDefRow). position_from (owns_method row) 0 ts ≡ Some k) (rows_are names) e) in
    let count = table_count in
    omega (arith, lt, count)

-- ---- in the world

last_is : (xs : List AsmRec) (y : AsmRec) (a : ℕ) (rec : AsmRec) → slice_get (xs ++ y ∷ []) a ≡ Some rec → suc a ≡ length (xs ++ y ∷ []) → rec ≡ y
last_is [] y zero rec e n = cc
last_is [] y (suc a) rec e n = absurd (cc)
last_is (x ∷ []) y zero rec e n = absurd (omega arith)
last_is (x ∷ z ∷ xs) y zero rec e n = absurd (omega arith)
last_is (x ∷ xs) y (suc a) rec e n = last_is xs y a rec e (omega (arith, n))

core_is : (inputs : List AsmRec) (a : ℕ) (rec : AsmRec) → slice_get (assemblies inputs) a ≡ Some rec → suc a ≡ length (assemblies inputs) → rec ≡ core_with core_record (missing_names (inputs ++ core_record ∷ []))
unfolding assemblies
core_is inputs a rec e n = last_is inputs (core_with core_record (missing_names (inputs ++ core_record ∷ []))) a rec e n

record Owned (recs : List AsmRec) (at owner : RowAt) : Type 0 where
  rec : AsmRec
  there : slice_get recs at.asm ≡ Some rec
  asm : owner.asm ≡ at.asm
  found : position_from (owns_method (suc at.row)) 0 rec.type_def ≡ Some owner.row

owned_by : (recs : List AsmRec) (at owner : RowAt) (o : Option AsmRec) → slice_get recs at.asm ≡ o → option_and_then (λ (rec : AsmRec). option_map (at_row at.asm) (owner_from owns_method at.row rec.type_def)) o ≡ Some owner → Owned recs at owner
owned_by recs at owner None e h = absurd (cc)
owned_by recs at owner (Some rec) e h = by_place (position_from (owns_method (suc at.row)) 0 rec.type_def) refl h
  where
    by_place : (p : Option ℕ) → position_from (owns_method (suc at.row)) 0 rec.type_def ≡ p → option_map (at_row at.asm) p ≡ Some owner → Owned recs at owner
    by_place None f g = absurd (cc)
    by_place (Some k) f g =
        let same : at_row at.asm k ≡ owner = cc in
        let asm : at.asm ≡ owner.asm = ap (λ (r : RowAt). r.asm) same in
        let row : k ≡ owner.row = ap (λ (r : RowAt). r.row) same in
        record { rec = rec; there = e; asm = sym asm; found = f ∙ ap Some row }

-- a method's type is of the table, where it is the core library's
pub owner_low : (inputs : List AsmRec) (at owner : RowAt) → type_of_method (assemblies inputs) at ≡ Some owner → suc owner.asm ≡ length (assemblies inputs) → owner.row < length TYPES
owner_low inputs at owner e n =
    let o = owned_by (assemblies inputs) at owner (slice_get (assemblies inputs) at.asm) refl e in
    let core = core_is inputs at.asm o.rec o.there (ap suc (sym o.asm) ∙ n) in
    low (missing_names (inputs ++ core_record ∷ [])) (suc at.row) owner.row (subst (λ (r : AsmRec). position_from (owns_method (suc at.row)) 0 r.type_def ≡ Some owner.row) core o.found)
