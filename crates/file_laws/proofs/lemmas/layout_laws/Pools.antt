-- The items that cells name stand in the heaps.
use Rattle.std.proofs.Common.{◌≡◌, ℕ, zero, suc, ◌+◌, ◌-◌, ◌/◌, ◌^◌, ◌<◌, ◌≤◌, true, false, Bool, cond, List, [], ◌∷◌, length, get_or, Some, None, ◌⊎◌, inl, inr, refl, arith, length-append, ltb-true}
use Rattle.std.specs.Prelude.{slice_get, nat_lt, unwrap_or}
use Rattle.std.specs.List.{flat_map}
use Rattle.std.proofs.lemmas.Option.{same_Some, none-some, get_or_from_slice_get}
use Rattle.il_base.specs.blob_grammar.Numbers.{shortest}
use Rattle.il_base.specs.declared.cli_format.column.Column.{Column}
use Rattle.il_base.specs.declared.cli_format.column.Column.TheVariants.{U8, U16, U32, Text, Blob, Guid, Index, IndexOrNone, Run, Coded, CodedOrNone}
use Rattle.il_base.specs.cli_format.Columns.{columns_of}
use Rattle.il_base.specs.cli_format.Heaps.{string_of, blob_of, guid_of}
use Rattle.rules.specs.file_layout.Bytes.{zeros, aligned}
use Rattle.rules.specs.file_layout.Heaps.{strings_heap, string_place, blobs_heap, blob_place, blob_item, guids_heap, guid_number, heap_bits}
use Rattle.rules.specs.declared.file_layout.cell.Cell.{Cell}
use Rattle.rules.specs.declared.file_layout.cell.Cell.TheVariants as cell
use Rattle.rules.specs.file_layout.Cells.{CellTables, Pools, texts_of_cell, blobs_of_cell, guids_of_cell, in_all, pools_of}
use Rattle.rules.specs.file_layout.Laid.{sizes_of}
use Rattle.rules.specs.file_layout.TableStream.{heap_width}
use Rattle.file_laws.specs.written_tables.Written.{IsText, IsIn, StringsReadBack, BlobsReadBack, GuidsReadBack, Once}
use Rattle.file_laws.specs.layout_laws.Columns.{IsGuid}
use Rattle.file_laws.proofs.lemmas.layout_laws.Lists.{in_flat, of_flat, inner, item_within}
use Rattle.file_laws.proofs.lemmas.layout_laws.Lower.{Lower}
use Rattle.file_laws.proofs.lemmas.layout_laws.Cells.{count, FitsCell, FitsCells, CellsRise, CellsSorted, cell_fits}

-- a table whose rows can be laid out, as a record's tables have them
pub record TableFits (cells : CellTables) (t : ℕ) (rows : List (List Cell)) : Type 0 where
  pub fits : (r : ℕ) (row : List Cell) → slice_get rows r ≡ Some row → FitsCells cells (columns_of t) row
  pub rise : (r : ℕ) (row next : List Cell) → slice_get rows r ≡ Some row → slice_get rows (suc r) ≡ Some next → CellsRise (columns_of t) row next
  pub sorted : (r : ℕ) (row next : List Cell) → slice_get rows r ≡ Some row → slice_get rows (suc r) ≡ Some next → CellsSorted t row next
  pub known : columns_of t ≡ [] → rows ≡ []
  pub few : length rows ≤ 2 ^ 20

pub record Fitting (cells : CellTables) : Type 0 where
  pub all : (t : ℕ) → TableFits cells t (get_or cells t [])
  pub tables : length cells ≡ 45
  pub modules : count cells 0x00 ≡ 1
  pub assemblies : count cells 0x20 ≡ 1
  pub types : 1 ≤ count cells 0x02

pub record Small (pools : Pools) : Type 0 where
  pub strings : length (strings_heap pools.texts) ≤ 2 ^ 28
  pub blobs : length (blobs_heap pools.blobs) ≤ 2 ^ 28
  pub guids : length (guids_heap pools.guids) ≤ 2 ^ 28

-- ---- which items are in the pools

abbrev pub Pooled : Pools → Cell → Type 0
Pooled pools (cell.Number n) = Unit {0}
Pooled pools (cell.Text t) = (t ≡ []) ⊎ IsIn pools.texts t
Pooled pools (cell.Blob b) = (b ≡ []) ⊎ IsIn pools.blobs b
Pooled pools (cell.Guid g) = (g ≡ []) ⊎ IsIn pools.guids g

in_cells : (items : Cell → List (List ℕ)) (cells : CellTables) (t r c : ℕ) (row : List Cell) (x : Cell) (y : List ℕ)
    → slice_get (get_or cells t []) r ≡ Some row → slice_get row c ≡ Some x → IsIn (items x) y → IsIn (in_all items cells) y
in_cells items cells t r c row x y e f h =
    in_flat (λ rows. flat_map (λ row. flat_map items row) rows) cells t (get_or cells t []) y (inner cells t r row e)
    (in_flat (λ row. flat_map items row) (get_or cells t []) r row y e (in_flat items row c x y f h))

pub pooled : ((xs : List (List ℕ)) → Once xs) → (cells : CellTables) (t r c : ℕ) (row : List Cell) (x : Cell)
    → slice_get (get_or cells t []) r ≡ Some row → slice_get row c ≡ Some x → Pooled (pools_of cells) x
unfolding pools_of
pooled once cells t r c row (cell.Number n) e f = tt
pooled once cells t r c row (cell.Text []) e f = inl refl
pooled once cells t r c row (cell.Text (b ∷ bs)) e f = inr ((once (in_all texts_of_cell cells)).all (b ∷ bs) (in_cells texts_of_cell cells t r c row (cell.Text (b ∷ bs)) (b ∷ bs) e f (0, refl)))
pooled once cells t r c row (cell.Blob []) e f = inl refl
pooled once cells t r c row (cell.Blob (b ∷ bs)) e f = inr ((once (in_all blobs_of_cell cells)).all (b ∷ bs) (in_cells blobs_of_cell cells t r c row (cell.Blob (b ∷ bs)) (b ∷ bs) e f (0, refl)))
pooled once cells t r c row (cell.Guid []) e f = inl refl
pooled once cells t r c row (cell.Guid (b ∷ bs)) e f = inr ((once (in_all guids_of_cell cells)).all (b ∷ bs) (in_cells guids_of_cell cells t r c row (cell.Guid (b ∷ bs)) (b ∷ bs) e f (0, refl)))

-- ---- GUIDs have 16 bytes

guid_fits : (cells : CellTables) (column : Column) (g : List ℕ) → FitsCell cells column (cell.Guid g) → IsGuid g
guid_fits cells U8 g h = absurd h
guid_fits cells U16 g h = absurd h
guid_fits cells U32 g h = absurd h
guid_fits cells Text g h = absurd h
guid_fits cells Blob g h = absurd h
guid_fits cells Guid g h = h
guid_fits cells (Index t) g h = absurd h
guid_fits cells (IndexOrNone t) g h = absurd h
guid_fits cells (Run t) g h = absurd h
guid_fits cells (Coded index) g h = absurd h
guid_fits cells (CodedOrNone index) g h = absurd h

sixteen : (g : List ℕ) → IsGuid g → (b : ℕ) (bs : List ℕ) → b ∷ bs ≡ g → length g ≡ 16
sixteen g (inl e) b bs f = absurd cc
sixteen g (inr e) b bs f = e

of_cell : (cells : CellTables) (column : Column) (x : Cell) (g : List ℕ) → FitsCell cells column x → IsIn (guids_of_cell x) g → length g ≡ 16
of_cell cells column (cell.Number n) g h m = absurd (none-some g m.1)
of_cell cells column (cell.Text t) g h m = absurd (none-some g m.1)
of_cell cells column (cell.Blob b) g h m = absurd (none-some g m.1)
of_cell cells column (cell.Guid []) g h m = absurd (none-some g m.1)
of_cell cells column (cell.Guid (b ∷ bs)) g h m = at m.0 m.1
  where
    at : (k : ℕ) → slice_get ((b ∷ bs) ∷ []) k ≡ Some g → length g ≡ 16
    at zero e = let same : b ∷ bs ≡ g = same_Some (b ∷ bs) g e in rw (← same) (sixteen (b ∷ bs) (guid_fits cells column (b ∷ bs) h) b bs refl)
    at (suc k) e = absurd (none-some g e)

guids_long : ((xs : List (List ℕ)) → Once xs) → (cells : CellTables) → Fitting cells → (k : ℕ) (g : List ℕ) → slice_get (pools_of cells).guids k ≡ Some g → length g ≡ 16
unfolding pools_of
guids_long once cells fit k g e =
    let listed = (once (in_all guids_of_cell cells)).only g (k, e) in
    let table = of_flat (λ rows. flat_map (λ row. flat_map guids_of_cell row) rows) cells g listed in
    let row = of_flat (λ row. flat_map guids_of_cell row) table.1 g table.3 in
    let cell = of_flat guids_of_cell row.1 g row.3 in
    let here : get_or cells table.0 [] ≡ table.1 = get_or_from_slice_get cells table.0 table.1 [] table.2 in
    let stands : slice_get (get_or cells table.0 []) row.0 ≡ Some row.1 = rw here row.2 in
    of_cell cells (get_or (columns_of table.0) cell.0 U8) cell.1 g (cell_fits cells (columns_of table.0) row.1 ((fit.all table.0).fits row.0 row.1 stands) cell.0 cell.1 cell.2) cell.3

-- ---- widths of columns of heaps

strings_width : (x y z : Bool) → heap_width (cond x 0 1 + cond y 0 2 + cond z 0 4) 1 ≡ cond x 2 4
strings_width true true true = refl
strings_width true true false = refl
strings_width true false true = refl
strings_width true false false = refl
strings_width false true true = refl
strings_width false true false = refl
strings_width false false true = refl
strings_width false false false = refl

guids_width : (x y z : Bool) → heap_width (cond x 0 1 + cond y 0 2 + cond z 0 4) 2 ≡ cond y 2 4
guids_width true true true = refl
guids_width true true false = refl
guids_width true false true = refl
guids_width true false false = refl
guids_width false true true = refl
guids_width false true false = refl
guids_width false false true = refl
guids_width false false false = refl

blobs_width : (x y z : Bool) → heap_width (cond x 0 1 + cond y 0 2 + cond z 0 4) 4 ≡ cond z 2 4
blobs_width true true true = refl
blobs_width true true false = refl
blobs_width true false true = refl
blobs_width true false false = refl
blobs_width false true true = refl
blobs_width false true false = refl
blobs_width false false true = refl
blobs_width false false false = refl

few_sizes : (x y z : Bool) → cond x 0 1 + cond y 0 2 + cond z 0 4 < 8
few_sizes true true true = omega arith
few_sizes true true false = omega arith
few_sizes true false true = omega arith
few_sizes true false false = omega arith
few_sizes false true true = omega arith
few_sizes false true false = omega arith
few_sizes false false true = omega arith
few_sizes false false false = omega arith

pub known_sizes : (pools : Pools) → sizes_of pools < 8
unfolding heap_bits
known_sizes pools = few_sizes (nat_lt (length (strings_heap pools.texts)) 0x10000) (nat_lt (length (guids_heap pools.guids)) 0x10000) (nat_lt (length (blobs_heap pools.blobs)) 0x10000)

low : (place len : ℕ) → place ≤ len → len ≤ 2 ^ 28 → place < 256 ^ cond (nat_lt len 0x10000) 2 4
low place len within small = by_test (nat_lt len 0x10000) refl
  where
    by_test : (b : Bool) → nat_lt len 0x10000 ≡ b → place < 256 ^ cond b 2 4
    by_test true e = let less = ltb-true len 0x10000 e in omega arith
    by_test false e = omega arith

strings_low : (pools : Pools) (place : ℕ) → Small pools → place ≤ length (strings_heap pools.texts) → place < 256 ^ heap_width (sizes_of pools) 1
unfolding heap_bits
strings_low pools place small within =
    rw (strings_width (nat_lt (length (strings_heap pools.texts)) 0x10000) (nat_lt (length (guids_heap pools.guids)) 0x10000) (nat_lt (length (blobs_heap pools.blobs)) 0x10000))
    (low place (length (strings_heap pools.texts)) within small.strings)

guids_low : (pools : Pools) (place : ℕ) → Small pools → place ≤ length (guids_heap pools.guids) → place < 256 ^ heap_width (sizes_of pools) 2
unfolding heap_bits
guids_low pools place small within =
    rw (guids_width (nat_lt (length (strings_heap pools.texts)) 0x10000) (nat_lt (length (guids_heap pools.guids)) 0x10000) (nat_lt (length (blobs_heap pools.blobs)) 0x10000))
    (low place (length (guids_heap pools.guids)) within small.guids)

blobs_low : (pools : Pools) (place : ℕ) → Small pools → place ≤ length (blobs_heap pools.blobs) → place < 256 ^ heap_width (sizes_of pools) 4
unfolding heap_bits
blobs_low pools place small within =
    rw (blobs_width (nat_lt (length (strings_heap pools.texts)) 0x10000) (nat_lt (length (guids_heap pools.guids)) 0x10000) (nat_lt (length (blobs_heap pools.blobs)) 0x10000))
    (low place (length (blobs_heap pools.blobs)) within small.blobs)

-- ---- what the heaps give

pub record Heaped (pools : Pools) : Type 0 where
  pub text_is : (t : List ℕ) → Pooled pools (cell.Text t) → IsText t → string_of (strings_heap pools.texts) (string_place pools.texts t) ≡ Some t
  pub blob_is : (b : List ℕ) → Pooled pools (cell.Blob b) → blob_of (blobs_heap pools.blobs) (blob_place pools.blobs b) ≡ Some b
  pub guid_is : (g : List ℕ) → Pooled pools (cell.Guid g) → unwrap_or (guid_of (guids_heap pools.guids) (guid_number pools.guids g)) [] ≡ g
  pub guid_there : (g : List ℕ) → Pooled pools (cell.Guid g) → guid_number pools.guids g ≤ length (guids_heap pools.guids) / 16
  pub text_low : (t : List ℕ) → Pooled pools (cell.Text t) → string_place pools.texts t < 256 ^ heap_width (sizes_of pools) 1
  pub blob_low : (b : List ℕ) → Pooled pools (cell.Blob b) → blob_place pools.blobs b < 256 ^ heap_width (sizes_of pools) 4
  pub guid_low : (g : List ℕ) → Pooled pools (cell.Guid g) → guid_number pools.guids g < 256 ^ heap_width (sizes_of pools) 2

first_string : (texts : List (List ℕ)) → string_place texts [] ≡ 0
unfolding string_place
first_string texts = refl

first_blob : (blobs : List (List ℕ)) → blob_place blobs [] ≡ 0
unfolding blob_place
first_blob blobs = refl

no_guid : (guids : List (List ℕ)) → guid_number guids [] ≡ 0
unfolding guid_number
no_guid guids = refl

none_zero : (h : List ℕ) → guid_of h 0 ≡ None
unfolding guid_of
none_zero h = refl

-- a blob isn't longer than its heap
blob_short : (blobs : List (List ℕ)) (b : List ℕ) → IsIn blobs b → length b ≤ length (blobs_heap blobs)
unfolding blobs_heap
blob_short blobs b h =
    omega (arith, item_within blob_item blobs b h, length-append (shortest (length b)) b, length-append (flat_map blob_item blobs) (zeros (aligned 4 (length (0 ∷ flat_map blob_item blobs)) - length (0 ∷ flat_map blob_item blobs))))

module _ (pools : Pools) (small : Small pools) (strings : StringsReadBack pools.texts) (blobs : BlobsReadBack pools.blobs) (guids : GuidsReadBack pools.guids) where
  text_here : (t : List ℕ) → Pooled pools (cell.Text t) → IsText t → string_of (strings_heap pools.texts) (string_place pools.texts t) ≡ Some t
  text_here t (inl e) h = rw e strings.empty
  text_here t (inr m) h = strings.each t m h

  blob_here : (b : List ℕ) → Pooled pools (cell.Blob b) → blob_of (blobs_heap pools.blobs) (blob_place pools.blobs b) ≡ Some b
  blob_here b (inl e) = rw e blobs.empty
  blob_here b (inr m) = blobs.each b m (omega (arith, blob_short pools.blobs b m, small.blobs))

  guid_here : (g : List ℕ) → Pooled pools (cell.Guid g) → unwrap_or (guid_of (guids_heap pools.guids) (guid_number pools.guids g)) [] ≡ g
  guid_here g (inl e) = rw (e, no_guid pools.guids, none_zero (guids_heap pools.guids)) refl
  guid_here g (inr m) = rw (guids.each g m) refl

  number_there : (g : List ℕ) → Pooled pools (cell.Guid g) → guid_number pools.guids g ≤ length (guids_heap pools.guids) / 16
  number_there g (inl e) = rw (e, no_guid pools.guids) (omega arith)
  number_there g (inr m) = omega (arith, guids.within g m, guids.size)

  text_within : (t : List ℕ) → Pooled pools (cell.Text t) → string_place pools.texts t ≤ length (strings_heap pools.texts)
  text_within t (inl e) = rw (e, first_string pools.texts) (omega arith)
  text_within t (inr m) = omega (arith, strings.within t m)

  blob_within : (b : List ℕ) → Pooled pools (cell.Blob b) → blob_place pools.blobs b ≤ length (blobs_heap pools.blobs)
  blob_within b (inl e) = rw (e, first_blob pools.blobs) (omega arith)
  blob_within b (inr m) = omega (arith, blobs.within b m)

  pub heaped : Heaped pools
  heaped = record {
    text_is = text_here;
    blob_is = blob_here;
    guid_is = guid_here;
    guid_there = number_there;
    text_low = λ t h. strings_low pools (string_place pools.texts t) small (text_within t h);
    blob_low = λ b h. blobs_low pools (blob_place pools.blobs b) small (blob_within b h);
    guid_low = λ g h. guids_low pools (guid_number pools.guids g) small (omega (arith, number_there g h));
  }

pub heaps_hold : Lower → (cells : CellTables) → Fitting cells → Small (pools_of cells) → Heaped (pools_of cells)
heaps_hold lower cells fit small =
    heaped (pools_of cells) small (lower.strings (pools_of cells).texts) (lower.blobs (pools_of cells).blobs)
    (lower.guids (pools_of cells).guids (guids_long lower.once cells fit))
