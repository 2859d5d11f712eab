-- The flaws that are listed are those of what is marked.
use Rattle.std.proofs.Common.{◌≡◌, ℕ, ◌+◌, List, ◌++◌, Bool, true, false, inl, inr, Option, Some, None, refl, ap}
use Rattle.std.specs.Prelude.{slice_get, ◌&&◌, not}
use Rattle.std.specs.List.{Contains, flat_map}
use Rattle.std.specs.Option.{is_some}
use Rattle.std.proofs.lemmas.Bool.{and_parts}
use Rattle.std.proofs.lemmas.Option.{slice_get_within, get_or_from_slice_get}
use Rattle.std.proofs.lemmas.List.Elements.{Contains-append_left, Contains-append_right, Contains-append_cases}
use Rattle.il_base.specs.declared.ids.Item.{Item}
use Rattle.il_base.specs.declared.world_model.record.AsmRec.{AsmRec}
use Rattle.il_base.specs.declared.world_model.world.Home.{Home}
use Rattle.il_base.specs.declared.world_model.world.World.{World}
use Rattle.base_laws.specs.world_laws.Homes.{place_of, table_for, home_at, TellsItems}
use Rattle.rules.specs.declared.link_rules.row_at.RowAt.{RowAt}
use Rattle.rules.specs.link_rules.Cycles.{listed}
use Rattle.rules.specs.type_rules.Rows.{rec_at, each_row}
use Rattle.descriptor_file.specs.declared.root.Root.{Root}
use Rattle.rules.specs.mark_rules.Facts.{Fact}
use Rattle.rules.specs.mark_rules.Facts.Fact.{marked}
use Rattle.rules.specs.mark_rules.Places.{row_of, is_core}
use Rattle.rules.specs.mark_rules.Marking.{Marks}
use Rattle.rules.specs.mark_rules.BadItems.{Flaw, part_flaws, own_flaws, attribute_flaws, flaws_of, ImplRow, impl_rows_by, impl_rows, entry_flaws, IsFlaw, IsFirstFlaw}
use Rattle.rules.specs.mark_rules.BadItems.IsFlaw.{of_item, of_row, of_entry}
use Rattle.base_laws.proofs.lemmas.known_laws.Lists.{from_flat, to_flat, from_option, from_if, to_if, from_each, to_each}
use Rattle.base_laws.specs.flaw_laws.Listed.{item_flaws, row_flaws, impl_flaws_by, impl_flaws_in, impl_flaws, home_flaws, all_flaws, first_from, Tells}
use Rattle.base_laws.specs.flaw_laws.There.{RowsThere}
use Rattle.base_laws.proofs.lemmas.flaw_laws.First.{IsLeast, first_least}

is_not : (b : Bool) → not b ≡ true → b ≡ false
is_not true h = absurd (cc)
is_not false h = refl

not_is : (b : Bool) → b ≡ false → not b ≡ true
not_is true h = absurd (cc)
not_is false h = refl

both : (b c : Bool) → b ≡ true → c ≡ true → (b && c) ≡ true
both true c h k = k
both false c h k = absurd (cc)

contained : {A : Type 0} (xs : List A) (n : ℕ) (x : A) → slice_get xs n ≡ Some x → Contains xs x
contained xs n x e = (n, slice_get_within xs n x e, get_or_from_slice_get xs n x x e)

-- an item with a flaw is a row
flawed_row : (recs : List AsmRec) (i : Item) (f : Flaw) → Contains (flaws_of recs i) f → (at : RowAt) × (row_of recs i ≡ Some at)
unfolding flaws_of
flawed_row recs i f c =
    let r = from_option (λ (at : RowAt). flat_map (λ (rec : AsmRec). part_flaws recs i at ++ own_flaws recs i at rec ++ attribute_flaws recs i at rec) (listed (rec_at recs at))) (row_of recs i) f c in
    (r.0, r.1)

module _ (w : World) (items : TellsItems w) (there : RowsThere w.recs) (entry : Option RowAt) (roots : List Root) (have : Item → Bool) (tells : Tells w.recs entry roots have) where
  abbrev holds : Fact → Type 0
  holds f = Marks w.recs entry roots f

  -- ---- items

  item_from : (f : Flaw) → Contains (home_flaws w have) f → IsFlaw w.recs entry holds f
  item_from f c =
      let r = from_flat (λ (h : Home). item_flaws w.recs have h.item) w.homes f c in
      let i = r.item.item in
      let t = from_if (have i && not (is_core w.recs i)) (flaws_of w.recs i) f r.inside in
      let p = and_parts (have i) (not (is_core w.recs i)) t.0 in
      let at = flawed_row w.recs i f t.1 in
      of_item i f ((tells i (ap is_some at.1)).0 p.0) (is_not (is_core w.recs i) p.1) t.1

  item_to : (i : Item) (f : Flaw) → holds (marked i) → is_core w.recs i ≡ false → Contains (flaws_of w.recs i) f → Contains (home_flaws w have) f
  item_to i f h core c =
      let at = flawed_row w.recs i f c in
      let home : Home = home_at i (table_for i) at.0 in
      to_flat (λ (h : Home). item_flaws w.recs have h.item) w.homes f (record {
        item = home;
        there = contained w.homes (place_of w.recs i) home (items i at.0 at.1);
        inside =
            to_if (have i && not (is_core w.recs i)) (flaws_of w.recs i) f
            (both (have i) (not (is_core w.recs i)) ((tells i (ap is_some at.1)).1 h) (not_is (is_core w.recs i) core)) c;
      })

  -- ---- rows of MethodImpl

  abbrev rows_in : ℕ → AsmRec → List ImplRow
  rows_in a rec = each_row (impl_rows_by w.recs a rec) rec.method_impl

  row_from : (f : Flaw) → Contains (impl_flaws w.recs have) f → IsFlaw w.recs entry holds f
  unfolding impl_rows
  row_from f c =
      let a = from_each (impl_flaws_in w.recs have) 0 w.recs f c in
      let k = from_each (impl_flaws_by w.recs have (0 + a.place) a.item) 0 a.item.method_impl f a.inside in
      let r = from_flat (row_flaws have) (impl_rows_by w.recs (0 + a.place) a.item (0 + k.place) k.item) f k.inside in
      let inner : Contains (rows_in (0 + a.place) a.item) r.item =
      to_each (impl_rows_by w.recs (0 + a.place) a.item) 0 a.item.method_impl r.item (record { place = k.place; item = k.item; there = k.there; inside = r.there })
      in
      let row : Contains (impl_rows w.recs) r.item = to_each rows_in 0 w.recs r.item (record { place = a.place; item = a.item; there = a.there; inside = inner }) in
      let t = from_if (have r.item.class && have r.item.body) r.item.flaws f r.inside in
      let p = and_parts (have r.item.class) (have r.item.body) t.0 in
      let q = there r.item row in
      of_row r.item f row ((tells r.item.class q.0).0 p.0) ((tells r.item.body q.1).0 p.1) t.1

  row_to : (r : ImplRow) (f : Flaw) → Contains (impl_rows w.recs) r → holds (marked r.class) → holds (marked r.body) → Contains r.flaws f → Contains (impl_flaws w.recs have) f
  unfolding impl_rows
  row_to r f c h b t =
      let q = there r c in
      let a = from_each rows_in 0 w.recs r c in
      let k = from_each (impl_rows_by w.recs (0 + a.place) a.item) 0 a.item.method_impl r a.inside in
      let own : Contains (row_flaws have r) f =
      to_if (have r.class && have r.body) r.flaws f (both (have r.class) (have r.body) ((tells r.class q.0).1 h) ((tells r.body q.1).1 b)) t
      in
      let inner : Contains (impl_flaws_by w.recs have (0 + a.place) a.item (0 + k.place) k.item) f =
      to_flat (row_flaws have) (impl_rows_by w.recs (0 + a.place) a.item (0 + k.place) k.item) f (record { item = r; there = k.inside; inside = own })
      in
      let outer : Contains (impl_flaws_in w.recs have (0 + a.place) a.item) f =
      to_each (impl_flaws_by w.recs have (0 + a.place) a.item) 0 a.item.method_impl f (record { place = k.place; item = k.item; there = k.there; inside = inner })
      in
      to_each (impl_flaws_in w.recs have) 0 w.recs f (record { place = a.place; item = a.item; there = a.there; inside = outer })

  -- ---- all

  abbrev all : List Flaw
  all = all_flaws w entry have

  from : (f : Flaw) → Contains all f → IsFlaw w.recs entry holds f
  from f c =
      elim (Contains-append_cases (home_flaws w have ++ impl_flaws w.recs have) (entry_flaws w.recs entry) f c) [
        | inl l ↦ elim (Contains-append_cases (home_flaws w have) (impl_flaws w.recs have) f l) [ inl i ↦ item_from f i | inr r ↦ row_from f r ]
        | inr e ↦ of_entry f e
      ]

  items_in : (f : Flaw) → Contains (home_flaws w have) f → Contains all f
  items_in f c = Contains-append_left (home_flaws w have ++ impl_flaws w.recs have) (entry_flaws w.recs entry) f (Contains-append_left (home_flaws w have) (impl_flaws w.recs have) f c)

  rows_are_in : (f : Flaw) → Contains (impl_flaws w.recs have) f → Contains all f
  rows_are_in f c = Contains-append_left (home_flaws w have ++ impl_flaws w.recs have) (entry_flaws w.recs entry) f (Contains-append_right (home_flaws w have) (impl_flaws w.recs have) f c)

  to : (f : Flaw) → IsFlaw w.recs entry holds f → Contains all f
  to f (of_item i g h core c) = items_in g (item_to i g h core c)
  to f (of_row r g row h b c) = rows_are_in g (row_to r g row h b c)
  to f (of_entry g c) = Contains-append_right (home_flaws w have ++ impl_flaws w.recs have) (entry_flaws w.recs entry) g c

  is_first : (best : Option Flaw) → IsLeast all best → IsFirstFlaw w.recs entry holds best
  is_first None none = λ f h. none f (to f h)
  is_first (Some f) least = (from f least.0, λ g h. least.1 g (to g h))

  pub found : IsFirstFlaw w.recs entry holds (first_from None all)
  found = is_first (first_from None all) (first_least all)
