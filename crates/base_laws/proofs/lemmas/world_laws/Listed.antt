-- Each home that a world lists is that of an item, at the item's place.
use Rattle.std.proofs.Common.{◌≡◌, ◌<◌, ◌≤◌, ◌⊎◌, inl, inr, ℕ, zero, suc, ◌+◌, ◌-◌, Bool, true, false, nat_lt, List, [], ◌∷◌, ◌++◌, length, map, Some, refl, sym, ap, subst, ◌∙◌, arith, rules}
use Rattle.std.specs.Prelude.{slice_get}
use Rattle.std.specs.List.{range_with_len}
use Rattle.std.proofs.lemmas.Bool.{le-ltb}
use Rattle.il_base.specs.declared.ids.Item.{Item}
use Rattle.il_base.specs.declared.ids.Item.TheVariants as item
use Rattle.il_base.specs.declared.table.TheConstants.{TYPE_DEF, FIELD, METHOD_DEF, INTERFACE_IMPL, EVENT, PROPERTY, ASSEMBLY}
use Rattle.il_base.specs.declared.world_model.record.AsmRec.{AsmRec}
use Rattle.il_base.specs.declared.world_model.world.Home.{Home}
use Rattle.il_base.specs.world_model.Worlds.{types_in}
use Rattle.rules.specs.declared.link_rules.row_at.RowAt.{RowAt}
use Rattle.rules.specs.link_rules.Types.{at_row}
use Rattle.rules.specs.link_rules.Members.{home_from, methods_in, fields_in}
use Rattle.rules.specs.link_rules.Linked.{assemblies, home, homes_from, homes_of, homes, world_in}
use Rattle.base_laws.proofs.lemmas.link_laws.Lists.{get_front, get_range, length_range}
use Rattle.rules.specs.mark_rules.Places.{props_in, events_in, impls_in, asm_row, row_of}
use Rattle.base_laws.specs.world_laws.Tokens.{InWorlds}
use Rattle.base_laws.specs.world_laws.Homes.{before_types, before_methods, before_fields, before_props, before_events, before_impls, home_at, place_of, table_for, IsHome, ListsItems}
use Rattle.base_laws.proofs.lemmas.world_laws.Found.{get_after}
use Rattle.base_laws.proofs.lemmas.world_laws.Homes.{asms, types, methods, fields, props, events, impls, long_asms, long_types, long_methods, long_fields, long_props, long_events}

-- ---- places in joined lists

-- a place in the first of two lists, or in the second after the first
in_either : {A : Type 0} (xs ys : List A) (p : ℕ) (y : A) → slice_get (xs ++ ys) p ≡ Some y → (slice_get xs p ≡ Some y) ⊎ ((k : ℕ) × (length xs + k ≡ p) × (slice_get ys k ≡ Some y))
in_either [] ys p y e = inr (p, omega arith, e)
in_either (x ∷ xs) ys zero y e = inl e
in_either (x ∷ xs) ys (suc p) y e = further (in_either xs ys p y e)
  where
    further : (slice_get xs p ≡ Some y) ⊎ ((k : ℕ) × (length xs + k ≡ p) × (slice_get ys k ≡ Some y))
        → (slice_get (x ∷ xs) (suc p) ≡ Some y) ⊎ ((k : ℕ) × (length (x ∷ xs) + k ≡ suc p) × (slice_get ys k ≡ Some y))
    further (inl f) = inl f
    further (inr r) = let at = r.1 in inr (r.0, omega arith, r.2)

same_some : {A : Type 0} (x y : A) → Some x ≡ Some y → x ≡ y
same_some x y e = cc

-- ---- one kind

module _ (count : AsmRec → ℕ) (item_of : ℕ → Item) (table : ℕ) where
  -- a home that a kind lists at a number, where the assemblies before have so many rows
  record OfKind (recs : List AsmRec) (a before n : ℕ) (h : Home) : Type 0 where
    at : RowAt
    there : home_from count a recs n ≡ Some at
    is : h ≡ home_at (item_of (before + n)) table at

  kind_by : (rec : AsmRec) (recs : List AsmRec) (a before n : ℕ) (h : Home) (b : Bool) → nat_lt n (count rec) ≡ b
      → (slice_get (homes_from count item_of table (suc a) (before + count rec) recs) (n - count rec) ≡ Some h → OfKind recs (suc a) (before + count rec) (n - count rec) h)
      → slice_get (homes_from count item_of table a before (rec ∷ recs)) n ≡ Some h → OfKind (rec ∷ recs) a before n h
  unfolding home_from
  kind_by rec recs a before n h true is more e =
      let lt : n < count rec = search rules in
      let long = length_range (home item_of a table before) (count rec) 0 in
      let found : slice_get (homes_from count item_of table a before (rec ∷ recs)) n ≡ Some (home item_of a table before n) =
      get_front (map (home item_of a table before) (range_with_len 0 (count rec))) (homes_from count item_of table (suc a) (before + count rec) recs) n (omega arith)
      ∙ get_range (home item_of a table before) (count rec) 0 n n (omega arith) lt in
      record { at = at_row a n; there = rw is refl; is = same_some h (home item_of a table before n) (sym e ∙ found) }
  kind_by rec recs a before n h false is more e =
      let ge : count rec ≤ n = search rules in
      let place : n ≡ count rec + (n - count rec) = omega arith in
      let number : before + count rec + (n - count rec) ≡ before + n = omega arith in
      let rest : slice_get (homes_from count item_of table (suc a) (before + count rec) recs) (n - count rec) ≡ Some h =
      sym (get_after (map (home item_of a table before) (range_with_len 0 (count rec))) (homes_from count item_of table (suc a) (before + count rec) recs) (count rec) (n - count rec)
      (length_range (home item_of a table before) (count rec) 0)) ∙ ap (slice_get (homes_from count item_of table a before (rec ∷ recs))) (sym place) ∙ e in
      let m = more rest in
      record { at = m.at; there = rw is m.there; is = m.is ∙ ap (λ (i : ℕ). home_at (item_of i) table m.at) number }

  of_kind : (recs : List AsmRec) (a before n : ℕ) (h : Home) → slice_get (homes_from count item_of table a before recs) n ≡ Some h → OfKind recs a before n h
  of_kind [] a before n h e = cc
  of_kind (rec ∷ recs) a before n h e = kind_by rec recs a before n h (nat_lt n (count rec)) refl (of_kind recs (suc a) (before + count rec) (n - count rec) h) e

  -- of a kind whose items have their rows by their numbers, after so many other homes
  of_rows : (recs : List AsmRec) (start n : ℕ) (h : Home) → ((at : RowAt) → home_from count 0 recs n ≡ Some at → IsHome recs (start + n) (home_at (item_of n) table at))
      → OfKind recs 0 0 n h → IsHome recs (start + n) h
  of_rows recs start n h one k =
      let number : 0 + n ≡ n = omega arith in
      subst (IsHome recs (start + n)) (sym (k.is ∙ ap (λ (i : ℕ). home_at (item_of i) table k.at) number)) (one k.at k.there)

  -- the homes of one kind after those of others
  one_more : (recs : List AsmRec) (xs : List Home) (start : ℕ) → length xs ≡ start → ((p : ℕ) (h : Home) → slice_get xs p ≡ Some h → IsHome recs p h)
      → ((n : ℕ) (at : RowAt) → home_from count 0 recs n ≡ Some at → IsHome recs (start + n) (home_at (item_of n) table at))
      → (p : ℕ) (h : Home) → slice_get (xs ++ homes_of count item_of table recs) p ≡ Some h → IsHome recs p h
  one_more recs xs start long before one p h e = by_side (in_either xs (homes_of count item_of table recs) p h e)
    where
      by_side : (slice_get xs p ≡ Some h) ⊎ ((k : ℕ) × (length xs + k ≡ p) × (slice_get (homes_of count item_of table recs) k ≡ Some h)) → IsHome recs p h
      by_side (inl f) = before p h f
      by_side (inr r) =
          let place : start + r.0 ≡ p = (let q = r.1 in omega arith) in
          subst (λ (q : ℕ). IsHome recs q h) place (of_rows recs start r.0 h (one r.0) (of_kind recs 0 0 r.0 h r.2))

-- ---- assemblies

record IsThere (recs : List AsmRec) (i a : ℕ) (at : RowAt) : Type 0 where
  rec : AsmRec
  there : slice_get recs a ≡ Some rec
  is : at_row (i + a) 0 ≡ at

asm_from : (recs : List AsmRec) (i a : ℕ) (at : RowAt) → home_from (λ r. 1) i recs a ≡ Some at → IsThere recs i a at
unfolding home_from
asm_from [] i a at e = cc
asm_from (r ∷ recs) i zero at e = record { rec = r; there = refl; is = ap (λ (n : ℕ). at_row n 0) (omega arith) ∙ same_some (at_row i 0) at e }
asm_from (r ∷ recs) i (suc a) at e =
    let past : nat_lt (suc a) 1 ≡ false = le-ltb (suc a) 1 (omega arith) in
    let one : suc a - 1 ≡ a = omega arith in
    let rest : home_from (λ r. 1) (suc i) recs a ≡ Some at = ap (home_from (λ r. 1) (suc i) recs) (sym one) ∙ sym (rw past refl) ∙ e in
    let m = asm_from recs (suc i) a at rest in
    record { rec = m.rec; there = m.there; is = ap (λ (n : ℕ). at_row n 0) (omega arith) ∙ m.is }

asm_is : (recs : List AsmRec) (a : ℕ) (at : RowAt) → home_from (λ r. 1) 0 recs a ≡ Some at → asm_row recs a ≡ Some at
asm_is recs a at e =
    let m = asm_from recs 0 a at e in
    rw m.there (ap (λ (n : ℕ). Some (at_row n 0)) (omega arith) ∙ ap (λ (r : RowAt). Some r) m.is)

-- ---- all kinds

module _ (recs : List AsmRec) where
  of_asms : (p : ℕ) (h : Home) → slice_get (asms recs) p ≡ Some h → IsHome recs p h
  unfolding row_of place_of table_for
  of_asms p h e =
      one_more (λ rec. 1) (λ n. item.Asm (record { 0 = n })) ASSEMBLY recs [] 0 refl (λ q g f. cc)
      (λ n at there. record { at = at; row = asm_is recs n at there; is = refl; placed = omega arith }) p h e

  of_types : (p : ℕ) (h : Home) → slice_get (asms recs ++ types recs) p ≡ Some h → IsHome recs p h
  unfolding row_of place_of table_for
  of_types =
      one_more types_in (λ n. item.Typ (record { 0 = n })) TYPE_DEF recs (asms recs) (before_types recs) (long_asms recs) of_asms
      (λ n at there. record { at = at; row = there; is = refl; placed = refl })

  of_methods : (p : ℕ) (h : Home) → slice_get (asms recs ++ types recs ++ methods recs) p ≡ Some h → IsHome recs p h
  unfolding row_of place_of table_for
  of_methods =
      one_more methods_in (λ n. item.Method (record { 0 = n })) METHOD_DEF recs (asms recs ++ types recs) (before_methods recs) (long_types recs) of_types
      (λ n at there. record { at = at; row = there; is = refl; placed = refl })

  of_fields : (p : ℕ) (h : Home) → slice_get (asms recs ++ types recs ++ methods recs ++ fields recs) p ≡ Some h → IsHome recs p h
  unfolding row_of place_of table_for
  of_fields =
      one_more fields_in (λ n. item.Field (record { 0 = n })) FIELD recs (asms recs ++ types recs ++ methods recs) (before_fields recs) (long_methods recs) of_methods
      (λ n at there. record { at = at; row = there; is = refl; placed = refl })

  of_props : (p : ℕ) (h : Home) → slice_get (asms recs ++ types recs ++ methods recs ++ fields recs ++ props recs) p ≡ Some h → IsHome recs p h
  unfolding row_of place_of table_for
  of_props =
      one_more props_in (λ n. item.Prop (record { 0 = n })) PROPERTY recs (asms recs ++ types recs ++ methods recs ++ fields recs) (before_props recs) (long_fields recs) of_fields
      (λ n at there. record { at = at; row = there; is = refl; placed = refl })

  of_events : (p : ℕ) (h : Home) → slice_get (asms recs ++ types recs ++ methods recs ++ fields recs ++ props recs ++ events recs) p ≡ Some h → IsHome recs p h
  unfolding row_of place_of table_for
  of_events =
      one_more events_in (λ n. item.Event (record { 0 = n })) EVENT recs (asms recs ++ types recs ++ methods recs ++ fields recs ++ props recs) (before_events recs) (long_props recs) of_props
      (λ n at there. record { at = at; row = there; is = refl; placed = refl })

  of_all : (p : ℕ) (h : Home) → slice_get (asms recs ++ types recs ++ methods recs ++ fields recs ++ props recs ++ events recs ++ impls recs) p ≡ Some h → IsHome recs p h
  unfolding row_of place_of table_for
  of_all =
      one_more impls_in (λ n. item.Impl (record { 0 = n })) INTERFACE_IMPL recs (asms recs ++ types recs ++ methods recs ++ fields recs ++ props recs ++ events recs) (before_impls recs) (long_events recs)
      of_events (λ n at there. record { at = at; row = there; is = refl; placed = refl })

  all_in : ListsItems (world_in recs)
  unfolding world_in homes
  all_in p h e = of_all p h e

pub all_listed : InWorlds ListsItems
all_listed w is = subst ListsItems (sym is.linked) (all_in (assemblies is.inputs))
