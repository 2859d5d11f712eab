-- The first row that reads the same is among those of its name.
use Rattle.std.proofs.Common.{◌≡◌, ℕ, zero, suc, ◌+◌, List, [], ◌∷◌, length, Bool, true, false, cond, Option, Some, None, refl, sym, ◌∙◌}
use Rattle.std.specs.Prelude.{◌&&◌, if◌then◌else◌}
use Rattle.std.specs.List.{position_from}
use Rattle.std.specs.Cmp.{first_so}
use Rattle.std.proofs.lemmas.Slice.Eq.{bytes_eq-Decides}
use Rattle.std.proofs.lemmas.Iterator.Adapters.{position_from-zero}
use Rattle.il_base.specs.declared.world_model.types.TypeRefRow.{TypeRefRow}
use Rattle.il_base.specs.declared.world_model.record.AsmRec.{AsmRec}
use Rattle.il_base.specs.world_model.Core.{same_name}
use Rattle.rules.specs.declared.link_rules.row_at.RowAt.{RowAt}
use Rattle.rules.specs.merge_rules.Absent.{reference_rows, reference_at, same_scope, rows_same, reads_same, first_same}
use Rattle.token_keys.specs.declared.absent_types.named.Placed.{Placed}
use Rattle.token_keys.specs.absent_types.Named.{is_named, has_name, placed_from, first_placed}

-- ---- a test that only rows of a name pass

one_more : (test : RowAt → Bool) (here named : Bool) (k : ℕ) (at : RowAt) (rest : List Placed) (found : Option ℕ) → test at ≡ here → (here ≡ true → named ≡ true) → first_placed test rest ≡ found
    → first_placed test (if named then record { place = k; at = at } ∷ rest else rest) ≡ cond here (Some k) found
one_more test true true k at rest found e only f = rw e refl
one_more test false true k at rest found e only f = rw e f
one_more test false false k at rest found e only f = f
one_more test true false k at rest found e only f = let no : false ≡ true = only refl in cc

first_among : (test named : RowAt → Bool) → ((at : RowAt) → test at ≡ true → named at ≡ true) → (k : ℕ) (rows : List RowAt) → first_placed test (placed_from named k rows) ≡ position_from test k rows
first_among test named only k [] = refl
first_among test named only k (at ∷ rows) =
    one_more test (test at) (named at) k at (placed_from named (k + 1) rows) (position_from test (k + 1) rows) refl (only at) (first_among test named only (k + 1) rows)

-- ---- rows that read the same have one name

named_so : (name : List ℕ) (row : TypeRefRow) (rest : Bool) → row.name ≡ name → (o : Option TypeRefRow) → o ≡ Some row → is_named name o ≡ true
named_so name row rest e o f = rw (f, e) ((bytes_eq-Decides name name).1 refl)

rows_named : (recs : List AsmRec) (reads : RowAt → RowAt → Bool) (x y : RowAt) (row : TypeRefRow) (other : Option TypeRefRow) → rows_same recs reads x y (Some row) other ≡ true → is_named row.name other ≡ true
rows_named recs reads x y row None h = h
rows_named recs reads x y row (Some other) h =
    let a : Bool = same_name row.name other.name in
    let b : Bool = same_name row.namespace other.namespace in
    let c : Bool = same_scope recs reads x y row other in
    let e : row.name ≡ other.name = (bytes_eq-Decides row.name other.name).0 (first_so a b (first_so (a && b) c h)) in
    (bytes_eq-Decides other.name row.name).1 (sym e)

reads_named : (recs : List AsmRec) (n : ℕ) (x y : RowAt) (row : TypeRefRow) → reference_at recs x ≡ Some row → reads_same recs n x y ≡ true → has_name recs row.name y ≡ true
unfolding reads_same
reads_named recs zero x y row there h = let no : false ≡ true = h in cc
reads_named recs (suc n) x y row there h = rows_named recs (reads_same recs n) x y row (reference_at recs y) (rw there at h)

no_first : (test : RowAt → Bool) → ((y : RowAt) → test y ≡ false) → (k : ℕ) (rows : List RowAt) → position_from test k rows ≡ None
no_first test never k [] = refl
no_first test never k (y ∷ rows) = rw (never y) (no_first test never (k + 1) rows)

reads_none : (recs : List AsmRec) (n : ℕ) (x y : RowAt) → reference_at recs x ≡ None → reads_same recs n x y ≡ false
unfolding reads_same
reads_none recs zero x y there = refl
reads_none recs (suc n) x y there = rw there refl

-- ---- the first that reads the same

pub first_named : (recs : List AsmRec) (x : RowAt) (row : TypeRefRow) → reference_at recs x ≡ Some row
    → first_placed (reads_same recs (length (reference_rows recs)) x) (placed_from (has_name recs row.name) 0 (reference_rows recs)) ≡ first_same recs x
first_named recs x row there =
    let n : ℕ = length (reference_rows recs) in
    first_among (reads_same recs n x) (has_name recs row.name) (λ y h. reads_named recs n x y row there h) 0 (reference_rows recs)
    ∙ sym (position_from-zero (reads_same recs n x) (reference_rows recs))

pub none_first : (recs : List AsmRec) (x : RowAt) → reference_at recs x ≡ None → first_same recs x ≡ None
none_first recs x there =
    let n : ℕ = length (reference_rows recs) in
    position_from-zero (reads_same recs n x) (reference_rows recs) ∙ no_first (reads_same recs n x) (λ y. reads_none recs n x y there) 0 (reference_rows recs)
