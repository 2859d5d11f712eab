-- Facts that are the same by test are one.
use Rattle.std.proofs.Common.{◌≡◌, ℕ, true, refl, ap}
use Rattle.std.proofs.lemmas.Bool.{eqb-true, eq-eqb}
use Rattle.il_base.specs.declared.ids.Item.{Item}
use Rattle.il_base.specs.declared.ids.Item.TheVariants as item
use Rattle.rules.specs.mark_rules.Facts.{Fact}
use Rattle.rules.specs.mark_rules.Facts.Fact.{marked, instantiated, reflected, shown}
use Rattle.rules.specs.mark_rules.Marking.{same_item, same_fact}

pub item_is : (i j : Item) → same_item i j ≡ true → i ≡ j
item_is (item.Asm a) (item.Asm b) e = ap (λ (n : ℕ). item.Asm (record { 0 = n })) (eqb-true a.0 b.0 e)
item_is (item.Asm a) (item.Typ b) e = absurd (cc)
item_is (item.Asm a) (item.Method b) e = absurd (cc)
item_is (item.Asm a) (item.Field b) e = absurd (cc)
item_is (item.Asm a) (item.Prop b) e = absurd (cc)
item_is (item.Asm a) (item.Event b) e = absurd (cc)
item_is (item.Asm a) (item.Impl b) e = absurd (cc)
item_is (item.Typ a) (item.Asm b) e = absurd (cc)
item_is (item.Typ a) (item.Typ b) e = ap (λ (n : ℕ). item.Typ (record { 0 = n })) (eqb-true a.0 b.0 e)
item_is (item.Typ a) (item.Method b) e = absurd (cc)
item_is (item.Typ a) (item.Field b) e = absurd (cc)
item_is (item.Typ a) (item.Prop b) e = absurd (cc)
item_is (item.Typ a) (item.Event b) e = absurd (cc)
item_is (item.Typ a) (item.Impl b) e = absurd (cc)
item_is (item.Method a) (item.Asm b) e = absurd (cc)
item_is (item.Method a) (item.Typ b) e = absurd (cc)
item_is (item.Method a) (item.Method b) e = ap (λ (n : ℕ). item.Method (record { 0 = n })) (eqb-true a.0 b.0 e)
item_is (item.Method a) (item.Field b) e = absurd (cc)
item_is (item.Method a) (item.Prop b) e = absurd (cc)
item_is (item.Method a) (item.Event b) e = absurd (cc)
item_is (item.Method a) (item.Impl b) e = absurd (cc)
item_is (item.Field a) (item.Asm b) e = absurd (cc)
item_is (item.Field a) (item.Typ b) e = absurd (cc)
item_is (item.Field a) (item.Method b) e = absurd (cc)
item_is (item.Field a) (item.Field b) e = ap (λ (n : ℕ). item.Field (record { 0 = n })) (eqb-true a.0 b.0 e)
item_is (item.Field a) (item.Prop b) e = absurd (cc)
item_is (item.Field a) (item.Event b) e = absurd (cc)
item_is (item.Field a) (item.Impl b) e = absurd (cc)
item_is (item.Prop a) (item.Asm b) e = absurd (cc)
item_is (item.Prop a) (item.Typ b) e = absurd (cc)
item_is (item.Prop a) (item.Method b) e = absurd (cc)
item_is (item.Prop a) (item.Field b) e = absurd (cc)
item_is (item.Prop a) (item.Prop b) e = ap (λ (n : ℕ). item.Prop (record { 0 = n })) (eqb-true a.0 b.0 e)
item_is (item.Prop a) (item.Event b) e = absurd (cc)
item_is (item.Prop a) (item.Impl b) e = absurd (cc)
item_is (item.Event a) (item.Asm b) e = absurd (cc)
item_is (item.Event a) (item.Typ b) e = absurd (cc)
item_is (item.Event a) (item.Method b) e = absurd (cc)
item_is (item.Event a) (item.Field b) e = absurd (cc)
item_is (item.Event a) (item.Prop b) e = absurd (cc)
item_is (item.Event a) (item.Event b) e = ap (λ (n : ℕ). item.Event (record { 0 = n })) (eqb-true a.0 b.0 e)
item_is (item.Event a) (item.Impl b) e = absurd (cc)
item_is (item.Impl a) (item.Asm b) e = absurd (cc)
item_is (item.Impl a) (item.Typ b) e = absurd (cc)
item_is (item.Impl a) (item.Method b) e = absurd (cc)
item_is (item.Impl a) (item.Field b) e = absurd (cc)
item_is (item.Impl a) (item.Prop b) e = absurd (cc)
item_is (item.Impl a) (item.Event b) e = absurd (cc)
item_is (item.Impl a) (item.Impl b) e = ap (λ (n : ℕ). item.Impl (record { 0 = n })) (eqb-true a.0 b.0 e)

pub item_same : (i : Item) → same_item i i ≡ true
item_same (item.Asm a) = eq-eqb a.0 a.0 refl
item_same (item.Typ a) = eq-eqb a.0 a.0 refl
item_same (item.Method a) = eq-eqb a.0 a.0 refl
item_same (item.Field a) = eq-eqb a.0 a.0 refl
item_same (item.Prop a) = eq-eqb a.0 a.0 refl
item_same (item.Event a) = eq-eqb a.0 a.0 refl
item_same (item.Impl a) = eq-eqb a.0 a.0 refl

pub fact_is : (f g : Fact) → same_fact f g ≡ true → f ≡ g
fact_is (marked i) (marked j) e = ap marked (item_is i j e)
fact_is (marked x) (instantiated y) e = absurd (cc)
fact_is (marked x) (reflected y) e = absurd (cc)
fact_is (marked x) (shown y) e = absurd (cc)
fact_is (instantiated x) (marked y) e = absurd (cc)
fact_is (instantiated t) (instantiated u) e = ap (λ (n : ℕ). instantiated (record { 0 = n })) (eqb-true t.0 u.0 e)
fact_is (instantiated x) (reflected y) e = absurd (cc)
fact_is (instantiated x) (shown y) e = absurd (cc)
fact_is (reflected x) (marked y) e = absurd (cc)
fact_is (reflected x) (instantiated y) e = absurd (cc)
fact_is (reflected i) (reflected j) e = ap reflected (item_is i j e)
fact_is (reflected x) (shown y) e = absurd (cc)
fact_is (shown x) (marked y) e = absurd (cc)
fact_is (shown x) (instantiated y) e = absurd (cc)
fact_is (shown x) (reflected y) e = absurd (cc)
fact_is (shown t) (shown u) e = ap (λ (n : ℕ). shown (record { 0 = n })) (eqb-true t.0 u.0 e)

pub fact_same : (f : Fact) → same_fact f f ≡ true
fact_same (marked i) = item_same i
fact_same (instantiated t) = eq-eqb t.0 t.0 refl
fact_same (reflected i) = item_same i
fact_same (shown t) = eq-eqb t.0 t.0 refl
