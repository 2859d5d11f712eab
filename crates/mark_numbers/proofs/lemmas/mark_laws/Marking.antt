-- The marked set is the least set of numbers that follows from those of the facts that are given.
use Rattle.std.proofs.Common.{◌≡◌, ◌<◌, ℕ, List, Bool, true, false, nat_eq, ◌⊎◌, inl, inr, Option, Some, refl, sym, ap, subst, ◌∙◌, arith}
use Rattle.std.specs.Prelude.{IsTrue, ◌||◌, ◌↔◌}
use Rattle.std.specs.List.{Contains}
use Rattle.std.proofs.lemmas.Bool.{eqb-true, eq-eqb}
use Rattle.il_base.specs.declared.world_model.record.AsmRec.{AsmRec}
use Rattle.il_base.specs.declared.world_model.world.World.{World}
use Rattle.rules.specs.declared.link_rules.row_at.RowAt.{RowAt}
use Rattle.rules.specs.link_rules.Linked.{IsWorld}
use Rattle.descriptor_file.specs.declared.root.Root.{Root}
use Rattle.closure.specs.Facts as closure
use Rattle.closure.specs.Facts.{IsWithin}
use Rattle.rules.specs.mark_rules.Facts as rules
use Rattle.rules.specs.mark_rules.Facts.{Fact}
use Rattle.rules.specs.mark_rules.Marking.{marking, Marks}
use Rattle.mark_numbers.specs.Numbers.{universe, number_of, is_there, fact_numbered, FactsFound, NumbersFound}
use Rattle.mark_numbers.specs.mark_laws.Brings.{Known, Gives, Brings, IsStart, StaysBelow, IsMonotone, MarksFound}
use Rattle.mark_numbers.specs.mark_laws.Brings.Gives.{alone, with_one, with_two}
use Rattle.mark_numbers.proofs.lemmas.mark_laws.There.{one_there, two_there, three_there}

-- ---- the laws of rules

pub stays_below : FactsFound → StaysBelow
stays_below facts w is roots have n c b = subst (λ (k : ℕ). k < universe w.recs) b.number (facts w is b.given b.there).1

more_known : (recs : List AsmRec) (few many : ℕ → Bool) (f : Fact) → IsWithin few many → Known recs few f → Known recs many f
more_known recs few many f within k = record { there = k.there; known = within (number_of recs f) k.known }

more_given : (recs : List AsmRec) (roots : List Root) (few many : ℕ → Bool) (a f : Fact) → IsWithin few many → Gives recs roots few a f → Gives recs roots many a f
more_given recs roots few many a _ within (alone f c) = alone f c
more_given recs roots few many a _ within (with_one b f k c) = with_one b f (more_known recs few many b within k) c
more_given recs roots few many a _ within (with_two b d f k l c) = with_two b d f (more_known recs few many b within k) (more_known recs few many d within l) c

pub is_monotone : IsMonotone
is_monotone w roots few many n c within b = record {
  fact = b.fact;
  numbered = b.numbered;
  given = b.given;
  there = b.there;
  number = b.number;
  gives = more_given w.recs roots few many b.fact b.given within b.gives;
}

-- ---- both directions

or_cases : (b c : Bool) → (b || c) ≡ true → (b ≡ true) ⊎ (c ≡ true)
or_cases true c h = inl refl
or_cases false c h = inr h

or_left : (b c : Bool) → b ≡ true → (b || c) ≡ true
or_left true c h = refl
or_left false c h = absurd (cc)

or_right : (b c : Bool) → c ≡ true → (b || c) ≡ true
or_right true c h = refl
or_right false c h = h

module _ (w : World) (is : IsWorld w) (entry : Option RowAt) (roots : List Root) (facts : FactsFound) (numbers : NumbersFound) where
  abbrev Follows : ℕ → Type 0
  Follows n = closure.Derived (Brings w roots) (IsStart w entry roots) n

  abbrev number : Fact → ℕ
  number f = number_of w.recs f

  abbrev There : Fact → Type 0
  There f = IsTrue (is_there w.recs f)

  brought_by : (have : ℕ → Bool) (a f : Fact) → There a → There f → ((n : ℕ) → IsTrue (have n) → Follows n) → Follows (number a) → Gives w.recs roots have a f → Follows (number f)
  brought_by have a f ta tf known da g =
      closure.brought have known da (record { fact = a; numbered = (facts w is a ta).0; given = f; there = tf; number = refl; gives = g })

  forth : (f : Fact) → rules.Derived (marking w.recs entry roots) f → There f → Follows (number f)
  unfolding marking
  forth _ (rules.start f h) t = closure.root (record { fact = f; there = t; number = refl; holds = h })
  forth _ (rules.by_one a f da c) t =
      let ta : There a = one_there w.recs roots a f c in
      brought_by (λ n. false) a f ta t (λ n h. absurd (cc)) (forth a da ta) (alone f c)
  forth _ (rules.by_two a b f da db c) t =
      let r = two_there w.recs a b f c in
      let have : ℕ → Bool = λ n. nat_eq n (number b) in
      let fb : Follows (number b) = forth b db r.1 in
      brought_by have a f r.0 t (λ n h. subst Follows (sym (eqb-true n (number b) h)) fb) (forth a da r.0) (with_one b f (record { there = r.1; known = eq-eqb (number b) (number b) refl }) c)
  forth _ (rules.by_three a b d f da db dd c) t =
      let r = three_there w.recs a b d f c in
      let have : ℕ → Bool = λ n. nat_eq n (number b) || nat_eq n (number d) in
      let fb : Follows (number b) = forth b db r.1 in
      let fd : Follows (number d) = forth d dd r.2 in
      brought_by have a f r.0 t
      (λ n h. elim (or_cases (nat_eq n (number b)) (nat_eq n (number d)) h) [ inl e ↦ subst Follows (sym (eqb-true n (number b) e)) fb | inr e ↦ subst Follows (sym (eqb-true n (number d) e)) fd ])
      (forth a da r.0)
      (with_two b d f (record { there = r.1; known = or_left (nat_eq (number b) (number b)) (nat_eq (number b) (number d)) (eq-eqb (number b) (number b) refl) })
      (record { there = r.2; known = or_right (nat_eq (number d) (number b)) (nat_eq (number d) (number d)) (eq-eqb (number d) (number d) refl) }) c)

  same_fact : (f g : Fact) → There f → There g → number f ≡ number g → f ≡ g
  same_fact f g tf tg e =
      let x : fact_numbered w (number f) ≡ Some f = (facts w is f tf).0 in
      let y : fact_numbered w (number g) ≡ Some g = (facts w is g tg).0 in
      let z : Some f ≡ Some g = sym x ∙ ap (fact_numbered w) e ∙ y in
      cc

  from_gives : (have : ℕ → Bool) (a f : Fact) → Marks w.recs entry roots a → ((b : Fact) → Known w.recs have b → Marks w.recs entry roots b) → Gives w.recs roots have a f → Marks w.recs entry roots f
  unfolding marking
  from_gives have a _ da known (alone f c) = rules.by_one a f da c
  from_gives have a _ da known (with_one b f k c) = rules.by_two a b f da (known b k) c
  from_gives have a _ da known (with_two b d f k l c) = rules.by_three a b d f da (known b k) (known d l) c

  back : (n : ℕ) → Follows n → (f : Fact) → There f → number f ≡ n → Marks w.recs entry roots f
  unfolding marking
  back n (closure.root s) f t e = subst (Marks w.recs entry roots) (same_fact s.fact f s.there t (s.number ∙ sym e)) (rules.start s.fact s.holds)
  back n (closure.brought have known d b) f t e =
      let r = numbers w is _ b.fact b.numbered in
      let da : Marks w.recs entry roots b.fact = back _ d b.fact r.1 r.0 in
      let all : (x : Fact) → Known w.recs have x → Marks w.recs entry roots x = λ x k. back (number x) (known (number x) k.known) x k.there refl in
      subst (Marks w.recs entry roots) (same_fact b.given f b.there t (b.number ∙ sym e)) (from_gives have b.fact b.given da all b.gives)

pub marks_found : FactsFound → NumbersFound → MarksFound
marks_found facts numbers w is entry roots f t =
    (λ m. forth w is entry roots facts numbers f m t, λ d. back w is entry roots facts numbers (number_of w.recs f) d f t refl)
