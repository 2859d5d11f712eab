-- Each item of a world has its place among the homes, and there are no others.
use Rattle.std.proofs.Common.{◌≡◌, ◌≤◌, ℕ, zero, suc, ◌+◌, ◌-◌, Bool, true, false, nat_lt, List, [], ◌∷◌, ◌++◌, length, map, Option, Some, None, refl, sym, ap, subst, ◌∙◌, arith, rules}
use Rattle.std.specs.Prelude.{slice_get, ◌<◌, if◌then◌else◌}
use Rattle.std.specs.List.{list_any, range_with_len}
use Rattle.std.proofs.lemmas.Bool.{le-ltb}
use Rattle.std.proofs.lemmas.List.{length-append}
use Rattle.il_base.specs.declared.ids.Item.{Item}
use Rattle.il_base.specs.declared.ids.Item.TheVariants as item
use Rattle.il_base.specs.declared.world_model.record.AsmRec.{AsmRec}
use Rattle.il_base.specs.declared.world_model.world.Home.{Home}
use Rattle.il_base.specs.world_model.Worlds.{rows_before, types_in}
use Rattle.rules.specs.declared.link_rules.row_at.RowAt.{RowAt}
use Rattle.rules.specs.link_rules.Types.{at_row}
use Rattle.rules.specs.link_rules.Cycles.{listed}
use Rattle.rules.specs.link_rules.Members.{home_from, methods_in, fields_in}
use Rattle.rules.specs.link_rules.Linked.{assemblies, home, homes_from, homes_of, homes, world_in}
use Rattle.base_laws.proofs.lemmas.link_laws.Lists.{get_front, get_range, length_range}
use Rattle.rules.specs.mark_rules.Places.{props_in, events_in, impls_in, row_of}
use Rattle.base_laws.specs.world_laws.Tokens.{InWorlds}
use Rattle.base_laws.specs.world_laws.Homes.{rows_of, before_types, before_methods, before_fields, before_props, before_events, before_impls, home_at, TellsHomes, place_of, table_for, TellsItems}
use Rattle.base_laws.proofs.lemmas.world_laws.Found.{get_after}

-- ---- what is found stays found

module _ {A : Type 0} where
  -- in a list that goes on
  in_front : (xs ys : List A) (k : ℕ) (y : A) → slice_get xs k ≡ Some y → slice_get (xs ++ ys) k ≡ Some y
  in_front [] ys k y e = cc
  in_front (x ∷ xs) ys zero y e = e
  in_front (x ∷ xs) ys (suc k) y e = in_front xs ys k y e

  -- after so many
  in_back : (xs ys : List A) (n k : ℕ) (y : A) → length xs ≡ n → slice_get ys k ≡ Some y → slice_get (xs ++ ys) (n + k) ≡ Some y
  in_back xs ys n k y long e = get_after xs ys n k long ∙ e

-- ---- one kind

module _ (count : AsmRec → ℕ) (item_of : ℕ → Item) (table : ℕ) where
  long_kind : (recs : List AsmRec) (a before : ℕ) → length (homes_from count item_of table a before recs) ≡ rows_of count recs
  unfolding rows_before
  long_kind [] a before = refl
  long_kind (rec ∷ recs) a before =
      length-append (map (home item_of a table before) (range_with_len 0 (count rec))) (homes_from count item_of table (suc a) (before + count rec) recs)
      ∙ rw (length_range (home item_of a table before) (count rec) 0, long_kind recs (suc a) (before + count rec)) refl

  kind_by : (rec : AsmRec) (recs : List AsmRec) (a before n : ℕ) (at : RowAt) (b : Bool) → nat_lt n (count rec) ≡ b
      → (home_from count (suc a) recs (n - count rec) ≡ Some at
      → slice_get (homes_from count item_of table (suc a) (before + count rec) recs) (n - count rec) ≡ Some (home_at (item_of (before + count rec + (n - count rec))) table at))
      → (if b then Some (at_row a n) else home_from count (suc a) recs (n - count rec)) ≡ Some at
      → slice_get (homes_from count item_of table a before (rec ∷ recs)) n ≡ Some (home_at (item_of (before + n)) table at)
  kind_by rec recs a before n at true is more e =
      let lt : n < count rec = search rules in
      let same : at_row a n ≡ at = cc in
      let long = length_range (home item_of a table before) (count rec) 0 in
      get_front (map (home item_of a table before) (range_with_len 0 (count rec))) (homes_from count item_of table (suc a) (before + count rec) recs) n (omega arith)
      ∙ get_range (home item_of a table before) (count rec) 0 n n (omega arith) lt ∙ ap (λ (r : RowAt). Some (home_at (item_of (before + n)) table r)) same
  kind_by rec recs a before n at false is more e =
      let ge : count rec ≤ n = search rules in
      let place : n ≡ count rec + (n - count rec) = omega arith in
      let number : before + count rec + (n - count rec) ≡ before + n = omega arith in
      ap (slice_get (homes_from count item_of table a before (rec ∷ recs))) place
      ∙ get_after (map (home item_of a table before) (range_with_len 0 (count rec))) (homes_from count item_of table (suc a) (before + count rec) recs) (count rec) (n - count rec)
      (length_range (home item_of a table before) (count rec) 0)
      ∙ more e ∙ ap (λ (i : ℕ). Some (home_at (item_of i) table at)) number

  kind_told : (recs : List AsmRec) (a before n : ℕ) (at : RowAt) → home_from count a recs n ≡ Some at
      → slice_get (homes_from count item_of table a before recs) n ≡ Some (home_at (item_of (before + n)) table at)
  unfolding home_from
  kind_told [] a before n at e = cc
  kind_told (rec ∷ recs) a before n at e =
      kind_by rec recs a before n at (nat_lt n (count rec)) refl (kind_told recs (suc a) (before + count rec) (n - count rec) at) e

  pub of_kind : (recs : List AsmRec) (n : ℕ) (at : RowAt) → home_from count 0 recs n ≡ Some at → slice_get (homes_of count item_of table recs) n ≡ Some (home_at (item_of n) table at)
  of_kind recs n at e = kind_told recs 0 0 n at e ∙ ap (λ (i : ℕ). Some (home_at (item_of i) table at)) (omega arith)

-- an assembly is one item
one_each : (recs : List AsmRec) → rows_of (λ rec. 1) recs ≡ length recs
unfolding rows_before
one_each [] = refl
one_each (rec ∷ recs) = let more = one_each recs in omega arith

-- ---- all kinds

module _ (recs : List AsmRec) where
  abbrev pub asms : List Home
  asms = homes_of (λ rec. 1) (λ n. item.Asm (record { 0 = n })) 0x20 recs

  abbrev pub types : List Home
  types = homes_of types_in (λ n. item.Typ (record { 0 = n })) 0x02 recs

  abbrev pub methods : List Home
  methods = homes_of methods_in (λ n. item.Method (record { 0 = n })) 0x06 recs

  abbrev pub fields : List Home
  fields = homes_of fields_in (λ n. item.Field (record { 0 = n })) 0x04 recs

  abbrev pub props : List Home
  props = homes_of props_in (λ n. item.Prop (record { 0 = n })) 0x17 recs

  abbrev pub events : List Home
  events = homes_of events_in (λ n. item.Event (record { 0 = n })) 0x14 recs

  abbrev pub impls : List Home
  impls = homes_of impls_in (λ n. item.Impl (record { 0 = n })) 0x09 recs

  -- one kind more
  joined : (xs : List Home) (n : ℕ) (count : AsmRec → ℕ) (item_of : ℕ → Item) (table : ℕ) → length xs ≡ n → length (xs ++ homes_of count item_of table recs) ≡ n + rows_of count recs
  joined xs n count item_of table long =
      length-append xs (homes_of count item_of table recs) ∙ rw (long, long_kind count item_of table recs 0 0) refl

  pub long_asms : length asms ≡ before_types recs
  long_asms = long_kind (λ rec. 1) (λ n. item.Asm (record { 0 = n })) 0x20 recs 0 0 ∙ one_each recs

  pub long_types : length (asms ++ types) ≡ before_methods recs
  long_types = joined asms (before_types recs) types_in (λ n. item.Typ (record { 0 = n })) 0x02 long_asms

  pub long_methods : length (asms ++ types ++ methods) ≡ before_fields recs
  long_methods = joined (asms ++ types) (before_methods recs) methods_in (λ n. item.Method (record { 0 = n })) 0x06 long_types

  pub long_fields : length (asms ++ types ++ methods ++ fields) ≡ before_props recs
  long_fields = joined (asms ++ types ++ methods) (before_fields recs) fields_in (λ n. item.Field (record { 0 = n })) 0x04 long_methods

  pub long_props : length (asms ++ types ++ methods ++ fields ++ props) ≡ before_events recs
  long_props = joined (asms ++ types ++ methods ++ fields) (before_props recs) props_in (λ n. item.Prop (record { 0 = n })) 0x17 long_fields

  pub long_events : length (asms ++ types ++ methods ++ fields ++ props ++ events) ≡ before_impls recs
  long_events = joined (asms ++ types ++ methods ++ fields ++ props) (before_events recs) events_in (λ n. item.Event (record { 0 = n })) 0x14 long_props

  pub told : TellsHomes (world_in recs)
  unfolding world_in homes
  told = record {
    assemblies = λ n at e.
        in_front (asms ++ types ++ methods ++ fields ++ props ++ events) impls (0 + n) _
        (in_front (asms ++ types ++ methods ++ fields ++ props) events (0 + n) _
        (in_front (asms ++ types ++ methods ++ fields) props (0 + n) _
        (in_front (asms ++ types ++ methods) fields (0 + n) _
        (in_front (asms ++ types) methods (0 + n) _
        (in_front asms types (0 + n) _ (ap (slice_get asms) (omega arith) ∙ of_kind (λ rec. 1) (λ n. item.Asm (record { 0 = n })) 0x20 recs n at e))))));
    types = λ n at e.
        in_front (asms ++ types ++ methods ++ fields ++ props ++ events) impls (before_types recs + n) _
        (in_front (asms ++ types ++ methods ++ fields ++ props) events (before_types recs + n) _
        (in_front (asms ++ types ++ methods ++ fields) props (before_types recs + n) _
        (in_front (asms ++ types ++ methods) fields (before_types recs + n) _
        (in_front (asms ++ types) methods (before_types recs + n) _
        (in_back asms types (before_types recs) n _ long_asms (of_kind types_in (λ n. item.Typ (record { 0 = n })) 0x02 recs n at e))))));
    methods = λ n at e.
        in_front (asms ++ types ++ methods ++ fields ++ props ++ events) impls (before_methods recs + n) _
        (in_front (asms ++ types ++ methods ++ fields ++ props) events (before_methods recs + n) _
        (in_front (asms ++ types ++ methods ++ fields) props (before_methods recs + n) _
        (in_front (asms ++ types ++ methods) fields (before_methods recs + n) _
        (in_back (asms ++ types) methods (before_methods recs) n _ long_types (of_kind methods_in (λ n. item.Method (record { 0 = n })) 0x06 recs n at e)))));
    fields = λ n at e.
        in_front (asms ++ types ++ methods ++ fields ++ props ++ events) impls (before_fields recs + n) _
        (in_front (asms ++ types ++ methods ++ fields ++ props) events (before_fields recs + n) _
        (in_front (asms ++ types ++ methods ++ fields) props (before_fields recs + n) _
        (in_back (asms ++ types ++ methods) fields (before_fields recs) n _ long_methods (of_kind fields_in (λ n. item.Field (record { 0 = n })) 0x04 recs n at e))));
    properties = λ n at e.
        in_front (asms ++ types ++ methods ++ fields ++ props ++ events) impls (before_props recs + n) _
        (in_front (asms ++ types ++ methods ++ fields ++ props) events (before_props recs + n) _
        (in_back (asms ++ types ++ methods ++ fields) props (before_props recs) n _ long_fields (of_kind props_in (λ n. item.Prop (record { 0 = n })) 0x17 recs n at e)));
    events = λ n at e.
        in_front (asms ++ types ++ methods ++ fields ++ props ++ events) impls (before_events recs + n) _
        (in_back (asms ++ types ++ methods ++ fields ++ props) events (before_events recs) n _ long_props (of_kind events_in (λ n. item.Event (record { 0 = n })) 0x14 recs n at e));
    interfaces = λ n at e.
        in_back (asms ++ types ++ methods ++ fields ++ props ++ events) impls (before_impls recs) n _ long_events (of_kind impls_in (λ n. item.Impl (record { 0 = n })) 0x09 recs n at e);
    count = joined (asms ++ types ++ methods ++ fields ++ props ++ events) (before_impls recs) impls_in (λ n. item.Impl (record { 0 = n })) 0x09 long_events;
  }

pub all_homes : InWorlds TellsHomes
all_homes w is = subst TellsHomes (sym is.linked) (told (assemblies is.inputs))

-- ---- by items

-- an assembly that is there
asm_from : (recs : List AsmRec) (i a : ℕ) (rec : AsmRec) → slice_get recs a ≡ Some rec → home_from (λ r. 1) i recs a ≡ Some (at_row (i + a) 0)
unfolding home_from
asm_from [] i a rec e = cc
asm_from (r ∷ recs) i zero rec e = ap (λ (n : ℕ). Some (at_row n 0)) (omega arith)
asm_from (r ∷ recs) i (suc a) rec e =
    let past : nat_lt (suc a) 1 ≡ false = le-ltb (suc a) 1 (omega arith) in
    let one : suc a - 1 ≡ a = omega arith in
    let number : suc i + a ≡ i + suc a = omega arith in
    rw (past, one) (asm_from recs (suc i) a rec e ∙ ap (λ (n : ℕ). Some (at_row n 0)) number)

asm_by : (recs : List AsmRec) (a : ℕ) (at : RowAt) (o : Option AsmRec) → slice_get recs a ≡ o
    → (if list_any (λ (rec : AsmRec). true) (listed o) then Some (at_row a 0) else None) ≡ Some at → home_from (λ r. 1) 0 recs a ≡ Some at
asm_by recs a at None e h = cc
asm_by recs a at (Some rec) e h = asm_from recs 0 a rec e ∙ ap (λ (n : ℕ). Some (at_row n 0)) (omega arith) ∙ h

by_item : (recs : List AsmRec) (i : Item) (at : RowAt) → row_of recs i ≡ Some at → slice_get (world_in recs).homes (place_of recs i) ≡ Some (home_at i (table_for i) at)
unfolding row_of place_of table_for world_in
by_item recs (item.Asm a) at e = ap (slice_get (world_in recs).homes) (omega arith) ∙ (told recs).assemblies a.0 at (asm_by recs a.0 at (slice_get recs a.0) refl e)
by_item recs (item.Typ t) at e = (told recs).types t.0 at e
by_item recs (item.Method m) at e = (told recs).methods m.0 at e
by_item recs (item.Field f) at e = (told recs).fields f.0 at e
by_item recs (item.Prop p) at e = (told recs).properties p.0 at e
by_item recs (item.Event v) at e = (told recs).events v.0 at e
by_item recs (item.Impl i) at e = (told recs).interfaces i.0 at e

by_items : (recs : List AsmRec) → TellsItems (world_in recs)
unfolding world_in
by_items recs i at e = by_item recs i at e

pub all_items : InWorlds TellsItems
all_items w is = subst TellsItems (sym is.linked) (by_items (assemblies is.inputs))
