-- In tables whose demands hold, the rows that cells name have 24 bits.
use Rattle.std.proofs.Common.{◌≡◌, ℕ, ◌+◌, ◌-◌, ◌/◌, ◌%◌, ◌^◌, ◌<◌, ◌≤◌, Bool, true, false, List, [], ◌++◌, length, Option, Some, None, ◌⊎◌, inl, inr, refl, arith}
use Rattle.std.specs.Prelude.{not, ◌||◌, ◌&&◌, ◌==◌, nat_le, nat_lt, unwrap_or}
use Rattle.std.specs.Option.{option_map}
use Rattle.std.proofs.lemmas.Bool.{leb-true, cases_lt, le-ltb, ltb-true, eqb-true}
use Rattle.std.proofs.lemmas.List.{get_or_past}
use Rattle.il_base.specs.declared.cli_format.column.Column.{Column}
use Rattle.il_base.specs.declared.cli_format.column.Column.TheVariants.{U8, U16, U32, Text, Blob, Guid, Index, IndexOrNone, Run, Coded, CodedOrNone}
use Rattle.il_base.specs.declared.cli_format.column.CodedIndex.{CodedIndex}
use Rattle.il_base.specs.cli_format.Demand.{first_fault, each_below}
use Rattle.il_base.specs.cli_format.Columns.{columns_of, schema}
use Rattle.il_base.specs.cli_format.Coded.{tag_bits_of}
use Rattle.il_base.specs.cli_format.Tables.{rows_of, is_present, cell_number, column_of, names_row, names_coded, target_of}
use Rattle.il_base.specs.cli_format.Metadata.{tables_demands, form_demands, root_demands, streams_demands, head_demands, rows_demands, heap_demands, limit_demands, known_demands, single_demands, tables_stream, tables_base, names_item, bad_at, most_rows}
use Rattle.il_base.specs.declared.reason.TheConstants.{UNKNOWN_TABLE}
use Rattle.il_base.proofs.lemmas.cli_format.Faults.{none_of_both, one_held, held_below}
use Rattle.il_base.proofs.lemmas.cli_format.Plain.{form_held, few_law, cells_law}
use Rattle.rules.specs.record_format.Cells.{number_in, count_of}
use Rattle.world_reader.specs.cell_reader.Cells.{HasRow, HasColumn, FitsToken}

-- ---- no table has too many rows

known_held : (bs : List ℕ) (base t : ℕ) → first_fault (tables_demands bs base) ≡ None → t < 64 → (not (is_present (tables_stream bs) t) || nat_lt 0 (length (columns_of t))) ≡ true
unfolding form_demands rows_demands known_demands
known_held bs base t p ht =
    let ts : List ℕ = tables_stream bs in
    let start : ℕ = tables_base bs base in
    let one = none_of_both (root_demands bs base ++ streams_demands bs base ++ head_demands ts start ++ rows_demands ts start) (heap_demands bs base) (form_held bs base p) in
    let two = none_of_both (root_demands bs base ++ streams_demands bs base ++ head_demands ts start) (rows_demands ts start) one.0 in
    let three = none_of_both (each_below (known_demands ts start) 64 ++ each_below (limit_demands ts) 45) (single_demands ts start) two.1 in
    let four = none_of_both (each_below (known_demands ts start) 64) (each_below (limit_demands ts) 45) three.0 in
    let five = held_below (known_demands ts start) t 64 ht four.0 in
    one_held _ (bad_at (start + 8) UNKNOWN_TABLE) five

columns_past : (t : ℕ) → 45 ≤ t → columns_of t ≡ []
unfolding columns_of schema
columns_past t le = get_or_past schema t [] le

absent : (b : Bool) → (not b || false) ≡ true → b ≡ false
absent true p = absurd cc
absent false p = refl

rows_absent : (ts : List ℕ) (t : ℕ) → is_present ts t ≡ false → rows_of ts t ≡ 0
unfolding rows_of
rows_absent ts t p = rw p refl

rows_beyond : (ts : List ℕ) (t : ℕ) → 64 ≤ t → rows_of ts t ≡ 0
unfolding is_present
rows_beyond ts t le = rows_absent ts t (rw (le-ltb t 64 le) refl)

rows_unknown : (bs : List ℕ) (base t : ℕ) → first_fault (tables_demands bs base) ≡ None → 45 ≤ t → t < 64 → rows_of (tables_stream bs) t ≡ 0
rows_unknown bs base t p le lt =
    let held = known_held bs base t p lt in
    let none : columns_of t ≡ [] = columns_past t le in
    rows_absent (tables_stream bs) t (absent (is_present (tables_stream bs) t) (rw none at held))

pub rows_few : (bs : List ℕ) (base t : ℕ) → first_fault (tables_demands bs base) ≡ None → rows_of (tables_stream bs) t ≤ most_rows
rows_few bs base t p =
    elim (cases_lt t 45) [
      | inl below ↦ few_law bs base t p below
      | inr above ↦ elim (cases_lt t 64) [
        | inl few ↦ (let e = rows_unknown bs base t p above few in rw e (omega arith))
        | inr past ↦ (let e = rows_beyond (tables_stream bs) t past in rw e (omega arith))
      ]
    ]

-- ---- what a cell names

second : (a b : Bool) → (a && b) ≡ true → b ≡ true
second true b p = p
second false b p = absurd cc

either : (a b : Bool) → (a || b) ≡ true → (a ≡ true) ⊎ (b ≡ true)
either true b p = inl refl
either false b p = inr p

named_few : (ts : List ℕ) (t n : ℕ) → names_row ts t n ≡ true → n ≤ rows_of ts t
unfolding names_row
named_few ts t n p = leb-true n (rows_of ts t) (second (nat_le 1 n) (nat_le n (rows_of ts t)) p)

coded_by : (ts : List ℕ) (row : ℕ) (target : Option ℕ) → unwrap_or (option_map (λ t. names_row ts t row) target) false ≡ true → (t : ℕ) × (names_row ts t row ≡ true)
coded_by ts row None p = absurd cc
coded_by ts row (Some t) p = (t, p)

coded_few : (bs : List ℕ) (base : ℕ) (index : CodedIndex) (n : ℕ) → first_fault (tables_demands bs base) ≡ None → names_coded (tables_stream bs) index n ≡ true → n / 2 ^ tag_bits_of index < 16777216
unfolding names_coded
coded_few bs base index n p q =
    let named = coded_by (tables_stream bs) (n / 2 ^ tag_bits_of index) (target_of index (n % 2 ^ tag_bits_of index)) q in
    let le = named_few (tables_stream bs) named.0 (n / 2 ^ tag_bits_of index) named.1 in
    let few = rows_few bs base named.0 p in
    omega (arith, le, few)

row_few : (bs : List ℕ) (base t n : ℕ) → first_fault (tables_demands bs base) ≡ None → names_row (tables_stream bs) t n ≡ true → n < 16777216
row_few bs base t n p q =
    let le = named_few (tables_stream bs) t n q in
    let few = rows_few bs base t p in
    omega (arith, le, few)

no_row : (index : CodedIndex) → 0 / 2 ^ tag_bits_of index < 16777216
no_row index = omega arith

item_fits : (bs : List ℕ) (base : ℕ) (column : Column) (n : ℕ) → first_fault (tables_demands bs base) ≡ None → names_item bs column n ≡ true → FitsToken column n
unfolding names_item
item_fits bs base U8 n p q = tt
item_fits bs base U16 n p q = tt
item_fits bs base U32 n p q = tt
item_fits bs base Text n p q = tt
item_fits bs base Blob n p q = tt
item_fits bs base Guid n p q = tt
item_fits bs base (Run t) n p q = tt
item_fits bs base (Index t) n p q = row_few bs base t n p q
item_fits bs base (IndexOrNone t) n p q = elim (either (n == 0) (names_row (tables_stream bs) t n) q) [
  | inl none ↦ (let e : n ≡ 0 = eqb-true n 0 none in omega arith)
  | inr named ↦ row_few bs base t n p named
]
item_fits bs base (Coded index) n p q = coded_few bs base index n p q
item_fits bs base (CodedOrNone index) n p q = elim (either (n == 0) (names_coded (tables_stream bs) index n) q) [
  | inl none ↦ (let e : n ≡ 0 = eqb-true n 0 none in rw e (no_row index))
  | inr named ↦ coded_few bs base index n p named
]

pub cell_fits : (m : List ℕ) (base t c r : ℕ) → first_fault (tables_demands m base) ≡ None → HasRow m t r → HasColumn t c → FitsToken (column_of t c) (number_in m t c r)
unfolding number_in count_of
cell_fits m base t c r p row column =
    let below : r - 1 < rows_of (tables_stream m) t = omega (arith, row.first, row.last) in
    let e : r - 1 + 1 ≡ r = omega (arith, row.first) in
    let named = cells_law m base t (r - 1) c p row.table below (ltb-true c (length (columns_of t)) column) in
    item_fits m base (column_of t c) (cell_number (tables_stream m) t r c) p (rw e at named)
