-- The demands on the head and the counts.
use Rattle.std.proofs.Common.{◌≡◌, ℕ, zero, suc, ◌≤◌, true, false, not, ltb, leb, eqb, List, [], ◌∷◌, ◌++◌, length, None, refl, ap, ◌∙◌, arith}
use Rattle.std.specs.Prelude.{get_or, ◌||◌, nat_lt}
use Rattle.std.proofs.lemmas.Bool.{le-leb, lt-ltb, eq-eqb, and_from}
use Rattle.il_base.specs.declared.cli_format.column.Column.{Column}
use Rattle.il_base.specs.cli_format.Columns.{columns_of}
use Rattle.il_base.specs.cli_format.Demand.{Demand, first_fault, each_below, number}
use Rattle.il_base.specs.cli_format.Tables.{heap_sizes, is_present, count_place, rows_of, table_place}
use Rattle.il_base.specs.cli_format.Metadata.{head_demands, known_demands, limit_demands, single_demands, rows_demands, most_rows}
use Rattle.il_base.proofs.lemmas.cli_format.Faults.{none_then, one_holds, none_below}
use Rattle.rules.specs.file_layout.TableStream.{Row, Tables, is_empty, tables_stream}
use Rattle.file_laws.specs.written_tables.Written.{CanTables}
use Rattle.file_laws.proofs.lemmas.written_tables.Places.{stands_within}
use Rattle.file_laws.proofs.lemmas.written_tables.Counts.{head, rows_bytes, all_stand, head_stands, version_read, sizes_read, present, rows_read, length_head, count_place_is}
use Rattle.file_laws.proofs.lemmas.written_tables.Rows.{tables_end}

none_each : {E : Type 0} (f : ℕ → List (Demand E)) → ((i : ℕ) → first_fault (f i) ≡ None) → (n : ℕ) → first_fault (each_below f n) ≡ None
unfolding each_below
none_each f h zero = none_below f
none_each f h (suc n) = none_then (each_below f n) (f n) (none_each f h n) (h n)

module _ (sizes : ℕ) (tables : Tables) (h : CanTables sizes tables) where
  abbrev ts : List ℕ
  ts = tables_stream sizes tables

  pub head_holds : (base : ℕ) → first_fault (head_demands ts base) ≡ None
  unfolding head_demands
  head_holds base =
      let long : length (head sizes tables h) ≤ length ts = omega (arith, stands_within ts (head sizes tables h) 0 (head_stands sizes tables h)) in
      let whole : length (head sizes tables h ++ rows_bytes sizes tables h) ≤ length ts =
      omega (arith, stands_within ts (head sizes tables h ++ rows_bytes sizes tables h) 0 (all_stand sizes tables h)) in
      let counted : 24 ≤ count_place ts 64 = omega (arith, count_place_is sizes tables h 64) in
      let first : leb 24 (length ts) ≡ true = le-leb 24 (length ts) (omega (arith, long, counted, length_head sizes tables h)) in
      let version : eqb (number 2 ts 4) 2 ≡ true = eq-eqb _ _ (version_read sizes tables h) in
      let known : ltb (heap_sizes ts) 8 ≡ true = lt-ltb _ _ (omega (arith, sizes_read sizes tables h, h.known_sizes)) in
      let counts : leb (count_place ts 64) (length ts) ≡ true = le-leb _ _ (omega (arith, long, length_head sizes tables h)) in
      let rows : leb (table_place ts 45) (length ts) ≡ true = le-leb _ _ (omega (arith, whole, tables_end sizes tables h)) in
      none_then _ _ (none_then _ _ (none_then _ _ (none_then _ _ (one_holds _ _ first) (one_holds _ _ version)) (one_holds _ _ known)) (one_holds _ _ counts)) (one_holds _ _ rows)

  -- ---- a table that is present has columns

  has_columns : (t : ℕ) (r : Row) (rs : List Row) (cs : List Column) → columns_of t ≡ cs → get_or tables t [] ≡ r ∷ rs → nat_lt 0 (length cs) ≡ true
  has_columns t r rs [] e f = absurd (let none = h.known t e in cc)
  has_columns t r rs (c ∷ cs) e f = lt-ltb 0 (length (c ∷ cs)) (omega arith)

  known_in : (t : ℕ) (rows : List Row) → get_or tables t [] ≡ rows → (not (is_present ts t) || nat_lt 0 (length (columns_of t))) ≡ true
  known_in t [] e =
      let gone : is_present ts t ≡ false = present sizes tables h t ∙ ap (λ (rows : List Row). not (is_empty rows)) e in
      rw gone refl
  known_in t (r ∷ rs) e =
      let here : is_present ts t ≡ true = present sizes tables h t ∙ ap (λ (rows : List Row). not (is_empty rows)) e in
      rw (here, has_columns t r rs (columns_of t) refl e) refl

  known_holds : (base t : ℕ) → first_fault (known_demands ts base t) ≡ None
  unfolding known_demands
  known_holds base t = one_holds _ _ (known_in t (get_or tables t []) refl)

  limit_holds : (t : ℕ) → first_fault (limit_demands ts t) ≡ None
  unfolding limit_demands
  limit_holds t = one_holds _ _ (le-leb (rows_of ts t) most_rows (omega (arith, rows_read sizes tables h t, h.few t)))

  single_holds : (base : ℕ) → first_fault (single_demands ts base) ≡ None
  unfolding single_demands
  single_holds base =
      let modules : eqb (rows_of ts 0) 1 ≡ true = eq-eqb _ _ (rows_read sizes tables h 0 ∙ h.modules) in
      let assemblies : eqb (rows_of ts 32) 1 ≡ true = eq-eqb _ _ (rows_read sizes tables h 32 ∙ h.assemblies) in
      let types : leb 1 (rows_of ts 2) ≡ true = le-leb _ _ (omega (arith, rows_read sizes tables h 2, h.types)) in
      one_holds _ _ (and_from _ _ (and_from _ _ modules assemblies) types)

  pub rows_hold : (base : ℕ) → first_fault (rows_demands ts base) ≡ None
  unfolding rows_demands
  rows_hold base = none_then _ _ (none_then _ _ (none_each (known_demands ts base) (known_holds base) 64) (none_each (limit_demands ts) limit_holds 45)) (single_holds base)
