-- Facts have numbers of their own, by the homes of a world.
use Rattle.std.proofs.Common.{◌≡◌, ◌<◌, ◌≤◌, ℕ, zero, suc, ◌+◌, ◌-◌, List, [], ◌∷◌, length, Bool, true, false, nat_lt, Option, Some, None, refl, sym, ap, subst, ◌∙◌, arith}
use Rattle.std.specs.Prelude.{slice_get, IsTrue, if◌then◌else◌}
use Rattle.std.specs.Option.{is_some}
use Rattle.std.proofs.lemmas.Bool.{lt-ltb, le-ltb, ltb-true, ltb-false}
use Rattle.il_base.specs.declared.ids.TypeId.{TypeId}
use Rattle.il_base.specs.declared.ids.Item.{Item}
use Rattle.il_base.specs.declared.world_model.record.AsmRec.{AsmRec}
use Rattle.il_base.specs.declared.world_model.world.Home.{Home}
use Rattle.il_base.specs.declared.world_model.world.World.{World}
use Rattle.rules.specs.declared.link_rules.row_at.RowAt.{RowAt}
use Rattle.rules.specs.mark_rules.Facts.{Fact}
use Rattle.rules.specs.mark_rules.Facts.Fact.{marked, instantiated, reflected, shown}
use Rattle.rules.specs.mark_rules.Places.{row_of}
use Rattle.base_laws.specs.world_laws.Tokens.{InWorlds}
use Rattle.base_laws.specs.world_laws.Homes.{TellsHomes, TellsItems, ListsItems, IsHome, home_at, table_for, item_count, place_of}
use Rattle.mark_numbers.specs.Numbers.{type_total, before_shown, before_reflected, universe, number_of, is_there, of_home, fact_numbered, FactsFound, NumbersFound}

below_length : {A : Type 0} (xs : List A) (i : ℕ) (x : A) → slice_get xs i ≡ Some x → i < length xs
below_length [] i x e = absurd (cc)
below_length (y ∷ xs) zero x e = omega arith
below_length (y ∷ xs) (suc i) x e = let h = below_length xs i x e in omega (arith, h)

row_there : (o : Option RowAt) → is_some o ≡ true → (at : RowAt) × (o ≡ Some at)
row_there None h = absurd (cc)
row_there (Some at) h = (at, refl)

module _ (w : World) (kinds : TellsHomes w) (items : TellsItems w) (listed : ListsItems w) where
  -- ---- from facts to numbers

  place_below : (i : Item) (at : RowAt) → row_of w.recs i ≡ Some at → place_of w.recs i < item_count w.recs
  place_below i at e =
      let b = below_length w.homes (place_of w.recs i) (home_at i (table_for i) at) (items i at e) in
      omega (arith, b, kinds.count)

  marked_found : (i : Item) (at : RowAt) → row_of w.recs i ≡ Some at → fact_numbered w (place_of w.recs i) ≡ Some (marked i)
  unfolding fact_numbered
  marked_found i at e = rw (lt-ltb (place_of w.recs i) (item_count w.recs) (place_below i at e), items i at e) refl

  instantiated_found : (t : TypeId) → t.0 < type_total w.recs → fact_numbered w (item_count w.recs + t.0) ≡ Some (instantiated t)
  unfolding fact_numbered
  instantiated_found t lt =
      let back : item_count w.recs + t.0 - item_count w.recs ≡ t.0 = omega arith in
      rw (le-ltb (item_count w.recs + t.0) (item_count w.recs) (omega arith), lt-ltb (item_count w.recs + t.0) (before_shown w.recs) (omega arith))
      (ap (λ (n : ℕ). Some (instantiated (record { 0 = n }))) back)

  shown_found : (t : TypeId) → t.0 < type_total w.recs → fact_numbered w (before_shown w.recs + t.0) ≡ Some (shown t)
  unfolding fact_numbered
  shown_found t lt =
      let back : before_shown w.recs + t.0 - before_shown w.recs ≡ t.0 = omega arith in
      rw (
        le-ltb (before_shown w.recs + t.0) (item_count w.recs) (omega arith),
        le-ltb (before_shown w.recs + t.0) (before_shown w.recs) (omega arith),
        lt-ltb (before_shown w.recs + t.0) (before_reflected w.recs) (omega arith),
      )
      (ap (λ (n : ℕ). Some (shown (record { 0 = n }))) back)

  reflected_found : (i : Item) (at : RowAt) → row_of w.recs i ≡ Some at → fact_numbered w (before_reflected w.recs + place_of w.recs i) ≡ Some (reflected i)
  unfolding fact_numbered
  reflected_found i at e =
      let n : ℕ = before_reflected w.recs + place_of w.recs i in
      let back : n - before_reflected w.recs ≡ place_of w.recs i = omega arith in
      rw (le-ltb n (item_count w.recs) (omega arith), le-ltb n (before_shown w.recs) (omega arith), le-ltb n (before_reflected w.recs) (omega arith))
      (ap (λ (k : ℕ). of_home reflected (slice_get w.homes k)) back ∙ ap (of_home reflected) (items i at e))

  pub facts_found : (f : Fact) → IsTrue (is_there w.recs f) → (fact_numbered w (number_of w.recs f) ≡ Some f) × (number_of w.recs f < universe w.recs)
  unfolding number_of is_there
  facts_found (marked i) h =
      let r = row_there (row_of w.recs i) h in
      let b = place_below i r.0 r.1 in
      (marked_found i r.0 r.1, omega (arith, b))
  facts_found (instantiated t) h = let lt : t.0 < type_total w.recs = ltb-true t.0 (type_total w.recs) h in (instantiated_found t lt, omega (arith, lt))
  facts_found (shown t) h = let lt : t.0 < type_total w.recs = ltb-true t.0 (type_total w.recs) h in (shown_found t lt, omega (arith, lt))
  facts_found (reflected i) h =
      let r = row_there (row_of w.recs i) h in
      let b = place_below i r.0 r.1 in
      (reflected_found i r.0 r.1, omega (arith, b))

  -- ---- from numbers to facts

  abbrev Told : ℕ → Fact → Type 0
  Told n f = (number_of w.recs f ≡ n) × IsTrue (is_there w.recs f)

  marked_told : (n : ℕ) (f : Fact) (o : Option Home) → slice_get w.homes n ≡ o → of_home marked o ≡ Some f → Told n f
  unfolding number_of is_there
  marked_told n f None e h = absurd (cc)
  marked_told n f (Some x) e h =
      let is = listed n x e in
      let same : marked x.item ≡ f = cc in
      subst (Told n) same (is.placed, ap is_some is.row)

  reflected_told : (n place : ℕ) (f : Fact) (o : Option Home) → before_reflected w.recs + place ≡ n → slice_get w.homes place ≡ o → of_home reflected o ≡ Some f → Told n f
  unfolding number_of is_there
  reflected_told n place f None p e h = absurd (cc)
  reflected_told n place f (Some x) p e h =
      let is = listed place x e in
      let same : reflected x.item ≡ f = cc in
      subst (Told n) same (ap (λ (k : ℕ). before_reflected w.recs + k) is.placed ∙ p, ap is_some is.row)

  by_tests : (n : ℕ) (f : Fact) (b c d : Bool) → nat_lt n (item_count w.recs) ≡ b → nat_lt n (before_shown w.recs) ≡ c → nat_lt n (before_reflected w.recs) ≡ d
      → (if b then of_home marked (slice_get w.homes n)
      else if c then Some (instantiated (record { 0 = n - item_count w.recs }))
      else if d then Some (shown (record { 0 = n - before_shown w.recs }))
      else of_home reflected (slice_get w.homes (n - before_reflected w.recs))) ≡ Some f → Told n f
  unfolding number_of is_there
  by_tests n f true c d lb lc ld h = marked_told n f (slice_get w.homes n) refl h
  by_tests n f false true d lb lc ld h =
      let ge : item_count w.recs ≤ n = ltb-false n (item_count w.recs) lb in
      let lt : n < before_shown w.recs = ltb-true n (before_shown w.recs) lc in
      let same : instantiated (record { 0 = n - item_count w.recs }) ≡ f = cc in
      subst (Told n) same (omega (arith, ge), lt-ltb (n - item_count w.recs) (type_total w.recs) (omega (arith, ge, lt)))
  by_tests n f false false true lb lc ld h =
      let ge : before_shown w.recs ≤ n = ltb-false n (before_shown w.recs) lc in
      let lt : n < before_reflected w.recs = ltb-true n (before_reflected w.recs) ld in
      let same : shown (record { 0 = n - before_shown w.recs }) ≡ f = cc in
      subst (Told n) same (omega (arith, ge), lt-ltb (n - before_shown w.recs) (type_total w.recs) (omega (arith, ge, lt)))
  by_tests n f false false false lb lc ld h =
      let ge : before_reflected w.recs ≤ n = ltb-false n (before_reflected w.recs) ld in
      reflected_told n (n - before_reflected w.recs) f (slice_get w.homes (n - before_reflected w.recs)) (omega (arith, ge)) refl h

  pub numbers_found : (n : ℕ) (f : Fact) → fact_numbered w n ≡ Some f → Told n f
  unfolding fact_numbered
  numbers_found n f h = by_tests n f (nat_lt n (item_count w.recs)) (nat_lt n (before_shown w.recs)) (nat_lt n (before_reflected w.recs)) refl refl refl h

pub all_facts : InWorlds TellsHomes → InWorlds TellsItems → InWorlds ListsItems → FactsFound
all_facts kinds items listed w is = facts_found w (kinds w is) (items w is) (listed w is)

pub all_numbers : InWorlds TellsHomes → InWorlds TellsItems → InWorlds ListsItems → NumbersFound
all_numbers kinds items listed w is = numbers_found w (kinds w is) (items w is) (listed w is)
