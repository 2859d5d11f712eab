-- What cells have in their columns, so that they can be laid out, and name items that are there.
use Rattle.std.proofs.Common.{◌≡◌, ℕ, zero, suc, ◌+◌, ◌-◌, ◌*◌, ◌/◌, ◌%◌, ◌^◌, ◌<◌, ◌≤◌, true, false, Bool, cond, leb, List, [], ◌∷◌, length, get_or, Some, None, ◌⊎◌, refl, ap, ◌∙◌, arith}
use Rattle.std.specs.Prelude.{slice_get, nat_lt, nat_le, not, ◌||◌, IsTrue}
use Rattle.il_base.specs.cli_format.Metadata.{is_run, in_order}
use Rattle.il_base.specs.cli_format.Columns.{sort_key_of}
use Rattle.std.proofs.lemmas.Bool.{and_parts, and_from, le-leb, ltb-true}
use Rattle.std.proofs.lemmas.Option.{same_Some, none-some}
use Rattle.std.proofs.Math.Nat.{mul-le-mul_right}
use Rattle.std.proofs.lemmas.Nat.{mod-mul-add, div-mul-add, mul-le}
use Rattle.il_base.specs.declared.cli_format.column.Column.{Column}
use Rattle.il_base.specs.declared.cli_format.column.Column.TheVariants.{U8, U16, U32, Text, Blob, Guid, Index, IndexOrNone, Run, Coded, CodedOrNone}
use Rattle.il_base.specs.declared.cli_format.column.CodedIndex.{CodedIndex}
use Rattle.il_base.specs.declared.cli_format.column.CodedIndex.TheVariants.{TypeDefOrRef, HasConstant, HasCustomAttribute, HasFieldMarshal, HasDeclSecurity, MemberRefParent, HasSemantics, MethodDefOrRef, MemberForwarded, Implementation, CustomAttributeType, ResolutionScope, TypeOrMethodDef}
use Rattle.il_base.specs.cli_format.Coded.{targets_of, tag_bits_of, first_tag_of}
use Rattle.il_base.specs.cli_format.Tables.{target_of, rows_of, names_row, names_coded}
use Rattle.rules.specs.declared.file_layout.cell.Cell.{Cell}
use Rattle.rules.specs.declared.file_layout.cell.Cell.TheVariants as cell
use Rattle.rules.specs.file_layout.Cells.{CellTables}
use Rattle.rules.specs.file_layout.TableStream as laid
use Rattle.rules.specs.file_layout.TableStream.{Tables, rows_in, fewer}
use Rattle.file_laws.specs.written_tables.Written.{IsText}
use Rattle.file_laws.specs.layout_laws.Columns.{IsGuid}
use Rattle.file_laws.proofs.lemmas.layout_laws.ColumnFits.{IsRunStart}

-- how many rows a table has
abbrev pub count : CellTables → ℕ → ℕ
count cells t = length (get_or cells t [])

-- a row of a table that a tag names, above the tag
pub record IsCoded (cells : CellTables) (index : CodedIndex) (n : ℕ) : Type 0 where
  pub tag : ℕ
  pub table : ℕ
  pub row : ℕ
  pub target : target_of index tag ≡ Some table
  pub low : tag < 2 ^ tag_bits_of index
  pub there : row < count cells table
  pub value : n ≡ suc row * 2 ^ tag_bits_of index + tag

-- what a column can have
abbrev pub FitsCell : CellTables → Column → Cell → Type 0
FitsCell cells U8 (cell.Number n) = n < 2 ^ 8
FitsCell cells U16 (cell.Number n) = n < 2 ^ 16
FitsCell cells U32 (cell.Number n) = n < 2 ^ 32
FitsCell cells Text (cell.Text t) = IsText t
FitsCell cells Blob (cell.Blob b) = Unit {0}
FitsCell cells Guid (cell.Guid g) = IsGuid g
FitsCell cells (Index t) (cell.Number n) = (1 ≤ n) × (n ≤ count cells t)
FitsCell cells (IndexOrNone t) (cell.Number n) = n ≤ count cells t
FitsCell cells (Run t) (cell.Number n) = IsRunStart (count cells t) n
FitsCell cells (Coded index) (cell.Number n) = IsCoded cells index n
FitsCell cells (CodedOrNone index) (cell.Number n) = (n ≡ 0) ⊎ IsCoded cells index n
FitsCell cells column cell = ⊥

abbrev pub FitsCells : CellTables → List Column → List Cell → Type 0
FitsCells cells [] [] = Unit {0}
FitsCells cells [] (x ∷ xs) = ⊥
FitsCells cells (c ∷ cs) [] = ⊥
FitsCells cells (c ∷ cs) (x ∷ xs) = FitsCell cells c x × FitsCells cells cs xs

-- the number of a cell that isn't one of an item
abbrev pub plain : Cell → ℕ
plain (cell.Number n) = n
plain _ = 0

abbrev pub CellsRise : List Column → List Cell → List Cell → Type 0
CellsRise (c ∷ cs) (x ∷ xs) (y ∷ ys) = IsTrue (not (is_run c) || nat_le (plain x) (plain y)) × CellsRise cs xs ys
CellsRise _ _ _ = Unit {0}

abbrev pub CellsSorted : ℕ → List Cell → List Cell → Type 0
CellsSorted t row next = IsTrue (in_order (sort_key_of t) (λ c. plain (get_or row c (cell.Number 0))) (λ c. plain (get_or next c (cell.Number 0))))

pub cells_rise : (cs : List Column) (xs ys : List Cell) → CellsRise cs xs ys → (k : ℕ) (x y : Cell) → k < length cs → slice_get xs k ≡ Some x → slice_get ys k ≡ Some y
    → (not (is_run (get_or cs k U8)) || nat_le (plain x) (plain y)) ≡ true
cells_rise [] xs ys h k x y lt e f = absurd (omega (arith, lt))
cells_rise (c ∷ cs) [] ys h k x y lt e f = absurd (none-some x e)
cells_rise (c ∷ cs) (z ∷ zs) [] h k x y lt e f = absurd (none-some y f)
cells_rise (c ∷ cs) (z ∷ zs) (w ∷ ws) h zero x y lt e f =
    let left : z ≡ x = same_Some z x e in
    let right : w ≡ y = same_Some w y f in
    rw (← left, ← right) h.0
cells_rise (c ∷ cs) (z ∷ zs) (w ∷ ws) h (suc k) x y lt e f = cells_rise cs zs ws h.1 k x y (omega (arith, lt)) e f

pub cell_fits : (cells : CellTables) (cs : List Column) (xs : List Cell) → FitsCells cells cs xs → (k : ℕ) (x : Cell) → slice_get xs k ≡ Some x → FitsCell cells (get_or cs k U8) x
cell_fits cells [] [] h k x e = absurd (none-some x e)
cell_fits cells [] (y ∷ ys) h k x e = absurd h
cell_fits cells (c ∷ cs) [] h k x e = absurd h
cell_fits cells (c ∷ cs) (y ∷ ys) h zero x e = let same : y ≡ x = same_Some y x e in rw (← same) h.0
cell_fits cells (c ∷ cs) (y ∷ ys) h (suc k) x e = cell_fits cells cs ys h.1 k x e

pub as_long : (cells : CellTables) (cs : List Column) (xs : List Cell) → FitsCells cells cs xs → length xs ≡ length cs
as_long cells [] [] h = refl
as_long cells [] (y ∷ ys) h = absurd h
as_long cells (c ∷ cs) [] h = absurd h
as_long cells (c ∷ cs) (y ∷ ys) h = ap suc (as_long cells cs ys h.1)

-- ---- coded indices

-- the tags of an index have at most five bits
pub scale : (index : CodedIndex) → (2 ^ (16 - tag_bits_of index) * 2 ^ tag_bits_of index ≡ 65536) × (2 ^ tag_bits_of index ≤ 32)
scale TypeDefOrRef = (refl, omega arith)
scale HasConstant = (refl, omega arith)
scale HasCustomAttribute = (refl, omega arith)
scale HasFieldMarshal = (refl, omega arith)
scale HasDeclSecurity = (refl, omega arith)
scale MemberRefParent = (refl, omega arith)
scale HasSemantics = (refl, omega arith)
scale MethodDefOrRef = (refl, omega arith)
scale MemberForwarded = (refl, omega arith)
scale Implementation = (refl, omega arith)
scale CustomAttributeType = (refl, omega arith)
scale ResolutionScope = (refl, omega arith)
scale TypeOrMethodDef = (refl, omega arith)

-- a table that a tag names is one of the targets
target_listed : (index : CodedIndex) (tag table : ℕ) → target_of index tag ≡ Some table → (k : ℕ) × (slice_get (targets_of index) k ≡ Some table)
unfolding target_of
target_listed index tag table e = (tag - first_tag_of index, by_test (nat_le (first_tag_of index) tag) e)
  where
    by_test : (b : Bool) → cond b (slice_get (targets_of index) (tag - first_tag_of index)) None ≡ Some table → slice_get (targets_of index) (tag - first_tag_of index) ≡ Some table
    by_test true h = h
    by_test false h = absurd (none-some table h)

one_fewer : (tables : Tables) (limit : ℕ) (ts : List ℕ) (k t : ℕ) → fewer tables limit ts ≡ true → slice_get ts k ≡ Some t → rows_in tables t < limit
unfolding fewer
one_fewer tables limit [] k t h e = absurd (none-some t e)
one_fewer tables limit (u ∷ us) zero t h e =
    let same : u ≡ t = same_Some u t e in
    rw (← same) (ltb-true (rows_in tables u) limit (and_parts (nat_lt (rows_in tables u) limit) (fewer tables limit us) h).0)
one_fewer tables limit (u ∷ us) (suc k) t h e = one_fewer tables limit us k t (and_parts (nat_lt (rows_in tables u) limit) (fewer tables limit us) h).1 e

coded_below : (row tag p l : ℕ) → tag < p → suc row < l → suc row * p + tag < l * p
coded_below row tag p l low less = let up : suc (suc row) * p ≤ l * p = mul-le-mul_right p less in omega (arith, up, low)

pub coded_fits : (cells : CellTables) (tables : Tables) (index : CodedIndex) (n : ℕ) → ((t : ℕ) → rows_in tables t ≡ count cells t) → ((t : ℕ) → count cells t ≤ 2 ^ 20) → IsCoded cells index n → n < 256 ^ laid.coded_width tables index
coded_fits cells tables index n same few h = by_test (fewer tables (2 ^ (16 - tag_bits_of index)) (targets_of index)) refl
  where
    listed : (k : ℕ) × (slice_get (targets_of index) k ≡ Some h.table)
    listed = target_listed index h.tag h.table h.target

    by_test : (b : Bool) → fewer tables (2 ^ (16 - tag_bits_of index)) (targets_of index) ≡ b → n < 256 ^ cond b 2 4
    by_test true e =
        let less = one_fewer tables (2 ^ (16 - tag_bits_of index)) (targets_of index) listed.0 h.table e listed.1 in
        let up = coded_below h.row h.tag (2 ^ tag_bits_of index) (2 ^ (16 - tag_bits_of index)) h.low (omega (arith, less, h.there, same h.table)) in
        omega (arith, up, (scale index).0, h.value)
    by_test false e =
        let up : suc h.row * 2 ^ tag_bits_of index ≤ 2 ^ 20 * 32 = mul-le (suc h.row) (2 ^ tag_bits_of index) (2 ^ 20) 32 (omega (arith, h.there, few h.table)) (scale index).1 in
        omega (arith, up, (scale index).1, h.low, h.value)

pub coded_names : (cells : CellTables) (ts : List ℕ) (index : CodedIndex) (n : ℕ) → ((t : ℕ) → rows_of ts t ≡ count cells t) → IsCoded cells index n → names_coded ts index n ≡ true
unfolding names_coded names_row
coded_names cells ts index n same h =
    let rest : n % 2 ^ tag_bits_of index ≡ h.tag = ap (λ (k : ℕ). k % 2 ^ tag_bits_of index) h.value ∙ mod-mul-add (suc h.row) (2 ^ tag_bits_of index) h.tag h.low in
    let over : n / 2 ^ tag_bits_of index ≡ suc h.row = ap (λ (k : ℕ). k / 2 ^ tag_bits_of index) h.value ∙ div-mul-add (suc h.row) (2 ^ tag_bits_of index) h.tag h.low in
    let above : leb 1 (suc h.row) ≡ true = le-leb 1 (suc h.row) (omega arith) in
    let within : leb (suc h.row) (rows_of ts h.table) ≡ true = le-leb (suc h.row) (rows_of ts h.table) (omega (arith, h.there, same h.table)) in
    rw (rest, over, h.target) (and_from _ _ above within)
