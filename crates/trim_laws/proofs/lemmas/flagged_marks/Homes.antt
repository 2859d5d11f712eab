-- Rows of items and types of methods are in the world.
use Rattle.std.proofs.Common.{◌≡◌, ◌<◌, ◌≤◌, ℕ, zero, suc, ◌+◌, ◌-◌, Bool, true, false, List, [], ◌∷◌, length, Option, Some, None, nat_lt, refl, sym, ap, subst, ◌∙◌, arith}
use Rattle.std.specs.Prelude.{slice_get, if◌then◌else◌}
use Rattle.std.specs.List.{list_any, position_from}
use Rattle.std.specs.Option.{option_map, option_and_then}
use Rattle.il_base.specs.declared.ids.Item.{Item}
use Rattle.il_base.specs.declared.ids.Item.TheVariants as item
use Rattle.il_base.specs.declared.world_model.types.TypeDefRow.{TypeDefRow}
use Rattle.il_base.specs.declared.world_model.record.AsmRec.{AsmRec}
use Rattle.il_base.specs.world_model.Worlds.{type_id, types_in}
use Rattle.rules.specs.declared.link_rules.row_at.RowAt.{RowAt}
use Rattle.rules.specs.link_rules.Types.{at_row}
use Rattle.rules.specs.link_rules.Members.{home_from, type_home, methods_in, fields_in, owns_method}
use Rattle.rules.specs.link_rules.Cycles.{listed}
use Rattle.rules.specs.type_rules.Slots.{type_of_method, owner_from}
use Rattle.rules.specs.mark_rules.Places.{row_of, asm_row, props_in, events_in, impls_in}
use Rattle.run_laws.proofs.lemmas.marked_laws.Places.{type_home_of}

-- ---- of an item

below_by : (a n k : ℕ) (later : Option RowAt) (at : RowAt) (b : Bool) → (later ≡ Some at → at.asm < suc a + k) → (if b then Some (at_row a n) else later) ≡ Some at → at.asm < a + suc k
below_by a n k later at true next h = let same : a ≡ at.asm = cc in omega (arith, same)
below_by a n k later at false next h = let lt = next h in omega (arith, lt)

below_from : (count : AsmRec → ℕ) (a : ℕ) (recs : List AsmRec) (n : ℕ) (at : RowAt) → home_from count a recs n ≡ Some at → at.asm < a + length recs
unfolding home_from
below_from count a [] n at e = absurd (cc)
below_from count a (rec ∷ recs) n at e =
    below_by a n (length recs) (home_from count (suc a) recs (n - count rec)) at (nat_lt n (count rec)) (below_from count (suc a) recs (n - count rec) at) e

below_home : (count : AsmRec → ℕ) (recs : List AsmRec) (n : ℕ) (at : RowAt) → home_from count 0 recs n ≡ Some at → at.asm < length recs
below_home count recs n at e = let lt = below_from count 0 recs n at e in omega (arith, lt)

got_below : (recs : List AsmRec) (a : ℕ) (rec : AsmRec) → slice_get recs a ≡ Some rec → a < length recs
got_below [] a rec e = absurd (cc)
got_below (x ∷ recs) zero rec e = omega arith
got_below (x ∷ recs) (suc a) rec e = let lt = got_below recs a rec e in omega (arith, lt)

asm_below : (recs : List AsmRec) (a : ℕ) (at : RowAt) (o : Option AsmRec) → slice_get recs a ≡ o → (if list_any (λ (rec : AsmRec). true) (listed o) then Some (at_row a 0) else None) ≡ Some at → at.asm < length recs
asm_below recs a at None e h = absurd (cc)
asm_below recs a at (Some rec) e h = let same : a ≡ at.asm = cc in let lt = got_below recs a rec e in omega (arith, same, lt)

pub row_below_end : (recs : List AsmRec) (i : Item) (at : RowAt) → row_of recs i ≡ Some at → at.asm < length recs
unfolding row_of
row_below_end recs (item.Asm a) at e = asm_below recs a.0 at (slice_get recs a.0) refl e
row_below_end recs (item.Typ t) at e = below_home types_in recs t.0 at e
row_below_end recs (item.Method x) at e = below_home methods_in recs x.0 at e
row_below_end recs (item.Field x) at e = below_home fields_in recs x.0 at e
row_below_end recs (item.Prop x) at e = below_home props_in recs x.0 at e
row_below_end recs (item.Event x) at e = below_home events_in recs x.0 at e
row_below_end recs (item.Impl x) at e = below_home impls_in recs x.0 at e

-- ---- of a method's type

-- a row of these, of which the first has the number s
record Row (s : ℕ) (ts : List TypeDefRow) (k : ℕ) : Type 0 where
  low : s ≤ k
  row : TypeDefRow
  there : slice_get ts (k - s) ≡ Some row

found_by : (s k : ℕ) (t : TypeDefRow) (ts : List TypeDefRow) (later : Option ℕ) (b : Bool) → (later ≡ Some k → Row (s + 1) ts k) → (if b then Some s else later) ≡ Some k → Row s (t ∷ ts) k
found_by s k t ts later true next h =
    let same : s ≡ k = cc in
    let none : k - s ≡ 0 = omega (arith, same) in
    record { low = omega (arith, same); row = t; there = ap (slice_get (t ∷ ts)) none }
found_by s k t ts later false next h =
    let f = next h in
    let low = f.low in
    let after : k - s ≡ suc (k - (s + 1)) = omega (arith, low) in
    record { low = omega (arith, low); row = f.row; there = ap (slice_get (t ∷ ts)) after ∙ f.there }

found_below : (p : TypeDefRow → Bool) (s : ℕ) (ts : List TypeDefRow) (k : ℕ) → position_from p s ts ≡ Some k → Row s ts k
found_below p s [] k e = absurd (cc)
found_below p s (t ∷ ts) k e = found_by s k t ts (position_from p (s + 1) ts) (p t) (found_below p (s + 1) ts k) e

owner_in : (recs : List AsmRec) (at owner : RowAt) (o : Option AsmRec) → slice_get recs at.asm ≡ o → option_and_then (λ (rec : AsmRec). option_map (at_row at.asm) (owner_from owns_method at.row rec.type_def)) o ≡ Some owner
    → type_home recs (type_id recs owner.asm owner.row) ≡ Some owner
owner_in recs at owner None e h = absurd (cc)
owner_in recs at owner (Some rec) e h = by_place (position_from (owns_method (suc at.row)) 0 rec.type_def) refl h
  where
    by_place : (p : Option ℕ) → position_from (owns_method (suc at.row)) 0 rec.type_def ≡ p → option_map (at_row at.asm) p ≡ Some owner → type_home recs (type_id recs owner.asm owner.row) ≡ Some owner
    by_place None f g = absurd (cc)
    by_place (Some k) f g =
        let same : at_row at.asm k ≡ owner = cc in
        let found = found_below (owns_method (suc at.row)) 0 rec.type_def k f in
        let none : k - 0 ≡ k = omega arith in
        subst (λ (x : RowAt). type_home recs (type_id recs x.asm x.row) ≡ Some x) same
        (type_home_of recs (at_row at.asm k) rec e found.row (ap (slice_get rec.type_def) (sym none) ∙ found.there))

pub owner_home : (recs : List AsmRec) (at owner : RowAt) → type_of_method recs at ≡ Some owner → type_home recs (type_id recs owner.asm owner.row) ≡ Some owner
owner_home recs at owner e = owner_in recs at owner (slice_get recs at.asm) refl e
