-- What the demands say, one by one.
use Rattle.std.proofs.Common.{◌≡◌, ℕ, ◌+◌, ◌-◌, ◌<◌, ◌≤◌, Bool, true, false, cond, List, [], ◌∷◌, ◌++◌, length, Option, Some, None, ◌⊎◌, inl, inr, refl, ap, arith}
use Rattle.std.specs.Prelude.{not, ◌||◌, nat_le, ◌↔◌}
use Rattle.std.specs.List.{AllByRecursion}
use Rattle.std.proofs.lemmas.Bool.{leb-true}
use Rattle.il_base.specs.declared.reason.TheConstants.{LIST_ORDER, SORT_ORDER}
use Rattle.il_base.specs.declared.cli_format.error.TablesError.TheVariants.{Rows}
use Rattle.il_base.specs.cli_format.Demand.{Demand, first_fault, each_below}
use Rattle.il_base.specs.cli_format.Columns.{columns_of, sort_key_of}
use Rattle.il_base.specs.cli_format.Tables.{rows_of, cell_number, column_of, row_place}
use Rattle.il_base.specs.cli_format.Metadata.{tables_demands, form_demands, content_demands, root_demands, streams_demands, head_demands, rows_demands, heap_demands, table_demands, row_demands, cell_demands, table_run_demands, row_run_demands, run_demands, table_sort_demands, sort_demands, limit_demands, known_demands, single_demands, tables_stream, tables_base, names_item, why_not, cell_offset, is_run, in_order, bad_at, most_rows}
use Rattle.il_base.proofs.lemmas.cli_format.Faults.{none_of_both, one_held, held_below}

-- ---- faults

split_step : {E : Type 0} (b : Bool) (f : Option E) (e : E) → cond b f (Some e) ≡ None → (b ≡ true) × (f ≡ None)
split_step true f e p = (refl, p)
split_step false f e p = absurd cc

join_step : {E : Type 0} (b : Bool) (f : Option E) (e : E) → b ≡ true → f ≡ None → cond b f (Some e) ≡ None
join_step true f e p q = q
join_step false f e p q = absurd cc

each_holds : {E : Type 0} (ds : List (Demand E)) → first_fault ds ≡ None → AllByRecursion (λ d. d.holds ≡ true) ds
unfolding first_fault
each_holds [] p = tt
each_holds (d ∷ ds) p = let s = split_step d.holds (first_fault ds) d.refusal p in (s.0, each_holds ds s.1)

all_hold : {E : Type 0} (ds : List (Demand E)) → AllByRecursion (λ d. d.holds ≡ true) ds → first_fault ds ≡ None
unfolding first_fault
all_hold [] p = refl
all_hold (d ∷ ds) p = join_step d.holds (first_fault ds) d.refusal p.0 (all_hold ds p.1)

pub no_fault_law : {E : Type 0} (ds : List (Demand E)) → (first_fault ds ≡ None) ↔ AllByRecursion (λ d. d.holds ≡ true) ds
no_fault_law ds = (each_holds ds, all_hold ds)

abbrev pub First : {E : Type 0} → List (Demand E) → E → Type 0
First {E = E} ds e = (before : List (Demand E)) × (d : Demand E) × (after : List (Demand E)) × (ds ≡ before ++ d ∷ after) × (first_fault before ≡ None) × (d.holds ≡ false) × (d.refusal ≡ e)

none_in_nil : {E : Type 0} → first_fault {E = E} [] ≡ None
unfolding first_fault
none_in_nil = refl

none_in_cons : {E : Type 0} (d : Demand E) (ds : List (Demand E)) → d.holds ≡ true → first_fault ds ≡ None → first_fault (d ∷ ds) ≡ None
unfolding first_fault
none_in_cons d ds p q = join_step d.holds (first_fault ds) d.refusal p q

no_fault_in_nil : {E : Type 0} (e : E) → first_fault [] ≡ Some e → ⊥
unfolding first_fault
no_fault_in_nil e p = absurd cc

fault_cases : {E : Type 0} (b : Bool) (f : Option E) (r e : E) → cond b f (Some r) ≡ Some e → ((b ≡ true) × (f ≡ Some e)) ⊎ ((b ≡ false) × (r ≡ e))
fault_cases true f r e p = inl (refl, p)
fault_cases false f r e p = inr (refl, cc)

fault_of_cons : {E : Type 0} (d : Demand E) (ds : List (Demand E)) (e : E) → first_fault (d ∷ ds) ≡ Some e → ((d.holds ≡ true) × (first_fault ds ≡ Some e)) ⊎ ((d.holds ≡ false) × (d.refusal ≡ e))
unfolding first_fault
fault_of_cons d ds e p = fault_cases d.holds (first_fault ds) d.refusal e p

pub first_law : {E : Type 0} (ds : List (Demand E)) (e : E) → first_fault ds ≡ Some e → First ds e
first_law [] e p = absurd (no_fault_in_nil e p)
first_law (d ∷ ds) e p =
    elim (fault_of_cons d ds e p) [
      | inl q ↦ (let more = first_law ds e q.1 in (d ∷ more.0, more.1, more.2, ap (λ xs. d ∷ xs) more.3, none_in_cons d more.0 q.0 more.4, more.5, more.6))
      | inr q ↦ ([], d, ds, refl, none_in_nil, q.0, q.1)
    ]

-- ---- tables

pub form_held : (bs : List ℕ) (base : ℕ) → first_fault (tables_demands bs base) ≡ None → first_fault (form_demands bs base) ≡ None
unfolding tables_demands
form_held bs base p = (none_of_both (form_demands bs base) (content_demands bs base) p).0

pub content_held : (bs : List ℕ) (base : ℕ) → first_fault (tables_demands bs base) ≡ None → first_fault (content_demands bs base) ≡ None
unfolding tables_demands
content_held bs base p = (none_of_both (form_demands bs base) (content_demands bs base) p).1

pub cells_law : (bs : List ℕ) (base t r c : ℕ) → first_fault (tables_demands bs base) ≡ None → t < 45 → r < rows_of (tables_stream bs) t → c < length (columns_of t)
    → names_item bs (column_of t c) (cell_number (tables_stream bs) t (r + 1) c) ≡ true
unfolding content_demands table_demands row_demands cell_demands
cells_law bs base t r c p ht hr hc =
    let rest = none_of_both (each_below (table_demands bs base) 45 ++ each_below (table_run_demands bs base) 45) (each_below (table_sort_demands bs base) 45) (content_held bs base p) in
    let cells = none_of_both (each_below (table_demands bs base) 45) (each_below (table_run_demands bs base) 45) rest.0 in
    let table = held_below (table_demands bs base) t 45 ht cells.0 in
    let row = held_below (row_demands bs base t) r (rows_of (tables_stream bs) t) hr table in
    let cell = held_below (cell_demands bs base t r) c (length (columns_of t)) hc row in
    one_held (names_item bs (column_of t c) (cell_number (tables_stream bs) t (r + 1) c)) (bad_at (cell_offset bs base t (r + 1) c) (why_not (column_of t c))) cell

run_step : (b c : Bool) → (not b || c) ≡ true → b ≡ true → c ≡ true
run_step true c p q = p
run_step false c p q = absurd cc

pub runs_law : (bs : List ℕ) (base t r c : ℕ) → first_fault (tables_demands bs base) ≡ None → t < 45 → r + 1 < rows_of (tables_stream bs) t → c < length (columns_of t) → is_run (column_of t c) ≡ true
    → cell_number (tables_stream bs) t (r + 1) c ≤ cell_number (tables_stream bs) t (r + 2) c
unfolding content_demands table_run_demands row_run_demands run_demands
runs_law bs base t r c p ht hr hc is =
    let rest = none_of_both (each_below (table_demands bs base) 45 ++ each_below (table_run_demands bs base) 45) (each_below (table_sort_demands bs base) 45) (content_held bs base p) in
    let runs = none_of_both (each_below (table_demands bs base) 45) (each_below (table_run_demands bs base) 45) rest.0 in
    let table = held_below (table_run_demands bs base) t 45 ht runs.1 in
    let row = held_below (row_run_demands bs base t) r (rows_of (tables_stream bs) t - 1) (omega arith) table in
    let cell = held_below (run_demands bs base t r) c (length (columns_of t)) hc row in
    let held = one_held (not (is_run (column_of t c)) || nat_le (cell_number (tables_stream bs) t (r + 1) c) (cell_number (tables_stream bs) t (r + 2) c)) (bad_at (cell_offset bs base t (r + 2) c) LIST_ORDER) cell in
    leb-true _ _ (run_step (is_run (column_of t c)) (nat_le (cell_number (tables_stream bs) t (r + 1) c) (cell_number (tables_stream bs) t (r + 2) c)) held is)

pub sorted_law : (bs : List ℕ) (base t r : ℕ) → first_fault (tables_demands bs base) ≡ None → t < 45 → r + 1 < rows_of (tables_stream bs) t
    → in_order (sort_key_of t) (cell_number (tables_stream bs) t (r + 1)) (cell_number (tables_stream bs) t (r + 2)) ≡ true
unfolding content_demands table_sort_demands sort_demands
sorted_law bs base t r p ht hr =
    let rest = none_of_both (each_below (table_demands bs base) 45 ++ each_below (table_run_demands bs base) 45) (each_below (table_sort_demands bs base) 45) (content_held bs base p) in
    let table = held_below (table_sort_demands bs base) t 45 ht rest.1 in
    let pair = held_below (sort_demands bs base t) r (rows_of (tables_stream bs) t - 1) (omega arith) table in
    one_held (in_order (sort_key_of t) (cell_number (tables_stream bs) t (r + 1)) (cell_number (tables_stream bs) t (r + 2))) (bad_at (tables_base bs base + row_place (tables_stream bs) t (r + 2)) SORT_ORDER) pair

pub few_law : (bs : List ℕ) (base t : ℕ) → first_fault (tables_demands bs base) ≡ None → t < 45 → rows_of (tables_stream bs) t ≤ most_rows
unfolding form_demands rows_demands limit_demands
few_law bs base t p ht =
    let ts : List ℕ = tables_stream bs in
    let start : ℕ = tables_base bs base in
    let one = none_of_both (root_demands bs base ++ streams_demands bs base ++ head_demands ts start ++ rows_demands ts start) (heap_demands bs base) (form_held bs base p) in
    let two = none_of_both (root_demands bs base ++ streams_demands bs base ++ head_demands ts start) (rows_demands ts start) one.0 in
    let three = none_of_both (each_below (known_demands ts start) 64 ++ each_below (limit_demands ts) 45) (single_demands ts start) two.1 in
    let four = none_of_both (each_below (known_demands ts start) 64) (each_below (limit_demands ts) 45) three.0 in
    let five = held_below (limit_demands ts) t 45 ht four.1 in
    leb-true _ _ (one_held (nat_le (rows_of ts t) most_rows) (Rows (rows_of ts t)) five)
