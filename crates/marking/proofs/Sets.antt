-- The least set of numbers is the marked set.
use Rattle.std.proofs.Common.{◌≡◌, ℕ, ◌<◌, List, [], ◌∷◌, Bool, true, false, ◌⊎◌, inl, inr, Option, Some, None, refl, sym, subst, get_or}
use Rattle.std.specs.Prelude.{slice_get, IsTrue, ◌↔◌, ◌||◌}
use Rattle.std.specs.List.{All, Contains, list_any}
use Rattle.std.specs.Option.{is_some}
use Rattle.std.proofs.lemmas.Option.{slice_get_within, get_or_from_slice_get}
use Rattle.std.proofs.lemmas.List.{get_or_default}
use Rattle.std.proofs.lemmas.List.Elements.{Contains-append_left, Contains-append_right, Contains-append_cases}
use Rattle.il_base.specs.declared.bits.Bits.{Bits}
use Rattle.il_base.specs.declared.ids.Item.{Item}
use Rattle.il_base.specs.declared.world_model.world.Home.{Home}
use Rattle.il_base.specs.declared.world_model.world.World.{World}
use Rattle.base_laws.specs.world_laws.Homes.{place_of, table_for, home_at, TellsItems}
use Rattle.rules.specs.declared.link_rules.row_at.RowAt.{RowAt}
use Rattle.rules.specs.link_rules.Linked.{IsWorld}
use Rattle.descriptor_file.specs.declared.root.Root.{Root}
use Rattle.closure.specs.Facts.{facts_in, Derived, root, brought}
use Rattle.closure.specs.queued_closure.Brings.{brings_by}
use Rattle.rules.specs.mark_rules.Facts.{Fact}
use Rattle.rules.specs.mark_rules.Facts.Fact.{marked, instantiated, reflected, shown}
use Rattle.rules.specs.mark_rules.Places.{row_of, is_core}
use Rattle.rules.specs.mark_rules.Roots.{start_facts}
use Rattle.rules.specs.mark_rules.Marking.{same_fact, is_core_fact, given}
use Rattle.mark_numbers.specs.Numbers.{universe, number_of, is_there, FactsFound}
use Rattle.mark_numbers.specs.mark_laws.Brings.{IsStart, MarksFound}
use Rattle.base_laws.proofs.lemmas.known_laws.Lists.{from_flat, to_flat, from_if, to_if, one_is, first_in, from_any, to_any}
use Rattle.marking.specs.marking_rules.Lists.{alone_list, joined_list}
use Rattle.marking.specs.marking_rules.Laws.{ListsBring}
use Rattle.marking.proofs.lemmas.marking_rules.Bringing.{number_from, number_to}
use Rattle.marking.specs.Starting.{core_fact, core_facts, first_facts, start_list}
use Rattle.marking.specs.Marks.{IsMarkedSet}
use Rattle.marking.proofs.Same.{fact_is, fact_same}

-- ---- the facts of the start

or_cases : (b c : Bool) → (b || c) ≡ true → (b ≡ true) ⊎ (c ≡ true)
or_cases true c h = inl refl
or_cases false c h = inr h

or_left : (b c : Bool) → b ≡ true → (b || c) ≡ true
or_left true c h = refl
or_left false c h = absurd (cc)

or_right : (b c : Bool) → c ≡ true → (b || c) ≡ true
or_right true c h = refl
or_right false c h = h

contained : {A : Type 0} (xs : List A) (n : ℕ) (x : A) → slice_get xs n ≡ Some x → Contains xs x
contained xs n x e = (n, slice_get_within xs n x e, get_or_from_slice_get xs n x x e)

some_of : {A : Type 0} (o : Option A) → is_some o ≡ true → (x : A) × (o ≡ Some x)
some_of None e = absurd (cc)
some_of (Some x) e = (x, refl)

module _ (w : World) (entry : Option RowAt) (roots : List Root) where
  core_from : (f : Fact) → Contains (core_facts w) f → is_core_fact w.recs f ≡ true
  core_from f h =
      let r = from_flat (λ (x : Home). core_fact w.recs x.item) w.homes f h in
      let c = from_if (is_core w.recs r.item.item) (marked r.item.item ∷ []) f r.inside in
      let same : marked r.item.item ≡ f = one_is (marked r.item.item) f c.1 in
      subst (λ (x : Fact). is_core_fact w.recs x ≡ true) same c.0

  given_from : (f : Fact) → Contains (first_facts w entry roots) f → given w.recs entry roots f ≡ true
  unfolding given
  given_from f h =
      elim (Contains-append_cases (core_facts w) (start_facts w.recs entry roots) f h) [
        | inl c ↦ or_left (is_core_fact w.recs f) (list_any (same_fact f) (start_facts w.recs entry roots)) (core_from f c)
        | inr s ↦ or_right (is_core_fact w.recs f) (list_any (same_fact f) (start_facts w.recs entry roots)) (to_any (same_fact f) (start_facts w.recs entry roots) f s (fact_same f))
      ]

  module _ (items : TellsItems w) where
    item_in : (i : Item) → IsTrue (is_there w.recs (marked i)) → is_core w.recs i ≡ true → Contains (core_facts w) (marked i)
    unfolding is_there
    item_in i there core =
        let at = some_of (row_of w.recs i) there in
        let h : Home = home_at i (table_for i) at.0 in
        to_flat (λ (x : Home). core_fact w.recs x.item) w.homes (marked i) (record {
          item = h;
          there = contained w.homes (place_of w.recs i) h (items i at.0 at.1);
          inside = to_if (is_core w.recs i) (marked i ∷ []) (marked i) core (first_in (marked i) []);
        })

    core_to : (f : Fact) → IsTrue (is_there w.recs f) → is_core_fact w.recs f ≡ true → Contains (core_facts w) f
    core_to (marked i) there e = item_in i there e
    core_to (instantiated t) there e = absurd (cc)
    core_to (reflected i) there e = absurd (cc)
    core_to (shown t) there e = absurd (cc)

    given_to : (f : Fact) → IsTrue (is_there w.recs f) → given w.recs entry roots f ≡ true → Contains (first_facts w entry roots) f
    unfolding given
    given_to f there e =
        elim (or_cases (is_core_fact w.recs f) (list_any (same_fact f) (start_facts w.recs entry roots)) e) [
          | inl c ↦ Contains-append_left (core_facts w) (start_facts w.recs entry roots) f (core_to f there c)
          | inr s ↦
              let r = from_any (same_fact f) (start_facts w.recs entry roots) s in
              let same : r.0 ≡ f = sym (fact_is f r.0 r.2) in
              Contains-append_right (core_facts w) (start_facts w.recs entry roots) f (subst (Contains (start_facts w.recs entry roots)) same r.1)
        ]

    start_from : (n : ℕ) → Contains (start_list w entry roots) n → IsStart w entry roots n
    start_from n h = let r = number_from w.recs (first_facts w entry roots) n h in record { fact = r.0; there = r.2; number = r.3; holds = given_from r.0 r.1 }

    start_to : (n : ℕ) → IsStart w entry roots n → Contains (start_list w entry roots) n
    start_to n s = number_to w.recs (first_facts w entry roots) s.fact n (given_to s.fact s.there s.holds) s.there s.number

  -- ---- each is below the bound

  pub starts_below : FactsFound → IsWorld w → (ns : List ℕ) → ns ≡ start_list w entry roots → All (λ (n : ℕ). n < universe w.recs) ns
  starts_below facts is ns e = λ k d inside.
      let n : ℕ = get_or ns k d in
      let there : Contains ns n = (k, inside, get_or_default ns k n d inside) in
      let r = number_from w.recs (first_facts w entry roots) n (subst (λ (xs : List ℕ). Contains xs n) e there) in
      subst (λ (m : ℕ). m < universe w.recs) r.3 (facts w is r.0 r.2).1

-- ---- what follows

pub map_derived : {b c : (ℕ → Bool) → ℕ → ℕ → Type 0} {r s : ℕ → Type 0} → ((n : ℕ) → r n → s n) → ((have : ℕ → Bool) (n m : ℕ) → b have n m → c have n m) → (n : ℕ) → Derived b r n → Derived c s n
map_derived roots more _ (root h) = root (roots _ h)
map_derived roots more _ (brought have known f h) = brought have (λ m k. map_derived roots more m (known m k)) (map_derived roots more _ f) (more have _ _ h)

module _ (w : World) (is : IsWorld w) (entry : Option RowAt) (roots : List Root) (items : TellsItems w) (bring : ListsBring) (found : MarksFound) where
  abbrev pub Alone : ℕ → ℕ → Type 0
  Alone n c = Contains (alone_list w roots n) c

  abbrev pub Joined : (ℕ → Bool) → ℕ → ℕ → Type 0
  Joined have n c = Contains (joined_list w have n) c

  pub set_is : (starts : List ℕ) → starts ≡ start_list w entry roots → (set : Bits) → ((n : ℕ) → IsTrue (facts_in set n) ↔ Derived (brings_by Alone Joined) (Contains starts) n)
      → IsMarkedSet w.recs entry roots set
  set_is starts e set exact f there = (
    λ h.
        (found w is entry roots f there).1
        (map_derived (λ n s. start_from w entry roots items n (subst (λ (xs : List ℕ). Contains xs n) e s)) (λ have n c b. (bring w roots have n c).0 b) (number_of w.recs f) ((exact (number_of w.recs f)).0 h)),
    λ m.
        (exact (number_of w.recs f)).1
        (map_derived (λ n s. subst (λ (xs : List ℕ). Contains xs n) (sym e) (start_to w entry roots items n s)) (λ have n c b. (bring w roots have n c).1 b) (number_of w.recs f) ((found w is entry roots f there).0 m)),
  )
