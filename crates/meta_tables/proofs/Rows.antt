-- Row counts, widths and places.
use Rattle.std.proofs.Common.{◌≡◌, ℕ, zero, suc, ◌+◌, ◌-◌, ◌*◌, ◌/◌, ◌^◌, ◌<◌, ◌≤◌, Bool, true, false, cond, List, [], ◌∷◌, length, take, drop, get_or, refl, ap, arith, set, below_more, get_or-set_other, get_or-set_same, mul-le-mul_left, mul-le-mul_right, ◌≢◌}
use Rattle.std.specs.Prelude.{◌&&◌, ◌==◌, nat_lt, bit_and}
use Rattle.std.proofs.lemmas.Bool.{le-ltb, lt-ltb}
use Rattle.std.proofs.lemmas.List.{get_or_past}
use Rattle.il_base.specs.declared.cli_format.column.Column.TheVariants.{U8, U16, U32, Text, Blob, Guid, Index, IndexOrNone, Run, Coded, CodedOrNone}
use Rattle.il_base.specs.declared.cli_format.column.Column.{Column}
use Rattle.il_base.specs.cli_format.Columns.{columns_of, schema}
use Rattle.il_base.specs.cli_format.Demand.{number}
use Rattle.il_base.specs.cli_format.Tables.{is_present, valid_of, present_before, count_place, rows_of, fewer, width, widths, heap_width, index_width, coded_width, row_width, table_place, column_of}
use Rattle.meta_tables.specs.Held.{AreRows, ArePlaces}
use Rattle.meta_tables.proofs.Lists.{drop_step, drop_end}

-- ---- row counts

pub present_is : (ts : List ℕ) (t : ℕ) → is_present ts t ≡ (nat_lt t 64 && (bit_and (number 8 ts 8 / 2 ^ t) 1 == 1))
unfolding is_present valid_of
present_is ts t = refl

pub rows_is : (ts : List ℕ) (t : ℕ) → rows_of ts t ≡ cond (is_present ts t) (number 4 ts (count_place ts t)) 0
unfolding rows_of
rows_is ts t = refl

pub count_first : (ts : List ℕ) → count_place ts 0 ≡ 24
unfolding count_place present_before
count_first ts = refl

four_times : (b : Bool) (n : ℕ) → 24 + 4 * (n + cond b 1 0) ≡ 24 + 4 * n + cond b 4 0
four_times true n = omega arith
four_times false n = omega arith

pub count_more : (ts : List ℕ) (t : ℕ) → count_place ts (t + 1) ≡ count_place ts t + cond (is_present ts t) 4 0
unfolding count_place present_before
count_more ts t = let e : t + 1 ≡ suc t = omega arith in rw e (four_times (is_present ts t) (present_before ts t))

pub filled : (f : ℕ → ℕ) (xs : List ℕ) (i n : ℕ) → i < length xs → ((k : ℕ) → k < i → get_or xs k 0 ≡ f k) → n ≡ f i → (k : ℕ) → k < i + 1 → get_or (set xs i n) k 0 ≡ f k
filled f xs i n lt before is =
    below_more _ _
    (λ k h. let ne : k ≢ i = omega arith in rw get_or-set_other (before k h))
    (rw get_or-set_same is)

pub rows_more : (ts rows : List ℕ) (t n : ℕ) → t < length rows → AreRows ts rows t → n ≡ rows_of ts t → AreRows ts (set rows t n) (t + 1)
rows_more ts rows t n lt before is = filled (rows_of ts) rows t n lt before is

pub ruleset counting = (present_is, rows_is, count_first, count_more)

pub none_past : (ts : List ℕ) (t : ℕ) → 64 ≤ t → rows_of ts t ≡ 0
unfolding rows_of is_present
none_past ts t le = rw (le-ltb t 64 le) refl

-- ---- widths

pub fewer_go_on : (ts : List ℕ) (limit : ℕ) (xs : List ℕ) (i d : ℕ) → i < length xs → rows_of ts (get_or xs i d) < limit → fewer ts limit (drop (i + 1) xs) ≡ fewer ts limit (drop i xs)
unfolding fewer
fewer_go_on ts limit xs i d lt p = rw (drop_step xs i d lt, lt-ltb (rows_of ts (get_or xs i d)) limit p) refl

pub fewer_stop : (ts : List ℕ) (limit : ℕ) (xs : List ℕ) (i d : ℕ) → i < length xs → limit ≤ rows_of ts (get_or xs i d) → fewer ts limit (drop i xs) ≡ false
unfolding fewer
fewer_stop ts limit xs i d lt p = rw (drop_step xs i d lt, le-ltb (rows_of ts (get_or xs i d)) limit p) refl

pub fewer_end : (ts : List ℕ) (limit : ℕ) (xs : List ℕ) (i : ℕ) → length xs ≤ i → fewer ts limit (drop i xs) ≡ true
unfolding fewer
fewer_end ts limit xs i le = rw (drop_end xs i le) refl

pub ruleset comparing = (fewer_go_on, fewer_stop, fewer_end)

pub widths_go_on : (ts : List ℕ) (xs : List Column) (i : ℕ) (d : Column) → i < length xs → widths ts (drop i xs) ≡ width ts (get_or xs i d) + widths ts (drop (i + 1) xs)
unfolding widths
widths_go_on ts xs i d lt = rw (drop_step xs i d lt) refl

pub widths_end : (ts : List ℕ) (xs : List Column) (i : ℕ) → length xs ≤ i → widths ts (drop i xs) ≡ 0
unfolding widths
widths_end ts xs i le = rw (drop_end xs i le) refl

pub ruleset adding = (widths_go_on, widths_end)

-- ---- places

pub place_first : (ts : List ℕ) → table_place ts 0 ≡ count_place ts 64
unfolding table_place
place_first ts = refl

pub place_more : (ts : List ℕ) (t : ℕ) → table_place ts (t + 1) ≡ table_place ts t + rows_of ts t * row_width ts t
unfolding table_place
place_more ts t = let e : t + 1 ≡ suc t = omega arith in rw e refl

pub places_more : (ts places : List ℕ) (t n : ℕ) → t + 1 < length places → ArePlaces ts places (t + 1) → n ≡ table_place ts (t + 1) → ArePlaces ts (set places (t + 1) n) (t + 1 + 1)
places_more ts places t n lt before is = filled (table_place ts) places (t + 1) n lt before is

pub places_one : (ts places : List ℕ) (n : ℕ) → 0 < length places → n ≡ count_place ts 64 → ArePlaces ts (set places 0 n) 1
places_one ts places n lt is = λ k h. (let z : k ≡ 0 = omega arith in rw (z, get_or-set_same, place_first ts) is)

pub ruleset placing = (place_first, place_more)

-- a product of two bounded numbers
pub small_product : (a b : ℕ) → a < 2 ^ 32 → b ≤ 36 → a * b ≤ 2 ^ 38
small_product a b p q = grind (arith, mul-le-mul_left)

-- ---- what lies in the stream

pub same_at : {A : Type 0} (xs : List A) (i : ℕ) (d e : A) → i < length xs → get_or xs i d ≡ get_or xs i e
same_at [] i d e lt = absurd (omega arith)
same_at (x ∷ xs) zero d e lt = refl
same_at (x ∷ xs) (suc i) d e lt = same_at xs i d e (omega arith)

grows_by : (ts : List ℕ) (t d : ℕ) → table_place ts t ≤ table_place ts (d + t)
unfolding table_place
grows_by ts t zero = let e : 0 + t ≡ t = omega arith in rw e (omega arith)
grows_by ts t (suc d) =
    let e : suc d + t ≡ suc (d + t) = omega arith in
    let before = grows_by ts t d in
    rw e (omega (arith, before))

pub grows : (ts : List ℕ) (t u : ℕ) → t ≤ u → table_place ts t ≤ table_place ts u
grows ts t u le = let e : u ≡ (u - t) + t = omega arith in let p = grows_by ts t (u - t) in rw e p

pub row_ends : (ts : List ℕ) (t r : ℕ) → t < 45 → 1 ≤ r → r ≤ rows_of ts t → table_place ts t + (r - 1) * row_width ts t + row_width ts t ≤ table_place ts 45
row_ends ts t r lt one le =
    let next = grows ts (t + 1) 45 (omega arith) in
    let more = place_more ts t in
    let k : r ≡ (r - 1) + 1 = omega arith in
    let whole : ((r - 1) + 1) * row_width ts t ≤ rows_of ts t * row_width ts t = rw (← k) (mul-le-mul_right (row_width ts t) le) in
    grind (arith, next, more, whole)

pub pick_past : (t c : ℕ) → length (columns_of t) ≤ c → column_of t c ≡ U8
unfolding column_of
pick_past t c le = get_or_past (columns_of t) c U8 le

pub ruleset picking = (same_at, pick_past)

pub ruleset row_reach = (row_ends)

widths_take : (ts : List ℕ) (cs : List Column) (c : ℕ) (d : Column) → c < length cs → widths ts (take c cs) + width ts (get_or cs c d) ≤ widths ts cs
unfolding widths
widths_take ts [] c d lt = absurd (omega arith)
widths_take ts (x ∷ xs) zero d lt = omega arith
widths_take ts (x ∷ xs) (suc c) d lt = let before = widths_take ts xs c d (omega arith) in omega (arith, before)

two_or_four : (b : Bool) → 1 ≤ cond b 2 4
two_or_four true = omega arith
two_or_four false = omega arith

pub width_some : (ts : List ℕ) (c : Column) → 1 ≤ width ts c
unfolding width heap_width index_width coded_width
width_some ts U8 = omega arith
width_some ts U16 = omega arith
width_some ts U32 = omega arith
width_some ts Text = two_or_four _
width_some ts Guid = two_or_four _
width_some ts Blob = two_or_four _
width_some ts (Index t) = two_or_four _
width_some ts (IndexOrNone t) = two_or_four _
width_some ts (Run t) = two_or_four _
width_some ts (Coded index) = two_or_four _
width_some ts (CodedOrNone index) = two_or_four _

pub cell_ends : (ts : List ℕ) (t c : ℕ) → c < length (columns_of t) → widths ts (take c (columns_of t)) < row_width ts t
unfolding row_width
cell_ends ts t c lt =
    let before = widths_take ts (columns_of t) c U8 lt in
    let some = width_some ts (get_or (columns_of t) c U8) in
    omega (arith, before, some)

pub ruleset cell_reach = (cell_ends)

pub none_known : (t : ℕ) → 45 ≤ t → length (columns_of t) ≡ 0
unfolding columns_of schema
none_known t le = ap length (get_or_past schema t [] le)
