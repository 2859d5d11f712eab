-- The lists of what the fact with a number brings.
use Rattle.std.proofs.Common.{◌≡◌, ℕ, List, [], ◌∷◌, Bool, true, false, ◌⊎◌, inl, inr, Option, Some, None, refl, sym, ap, subst, ◌∙◌}
use Rattle.std.specs.Prelude.{IsTrue, ◌↔◌, if◌then◌else◌}
use Rattle.std.specs.List.{Contains, flat_map}
use Rattle.il_base.specs.declared.ids.Item.{Item}
use Rattle.il_base.specs.declared.world_model.record.AsmRec.{AsmRec}
use Rattle.il_base.specs.declared.world_model.world.World.{World}
use Rattle.descriptor_file.specs.declared.root.Root.{Root}
use Rattle.rules.specs.link_rules.Cycles.{listed}
use Rattle.closure.specs.Facts.{IsWithin}
use Rattle.rules.specs.mark_rules.Facts.{Fact}
use Rattle.rules.specs.mark_rules.Facts.Fact.{marked}
use Rattle.rules.specs.mark_rules.Marking.{one, two, three}
use Rattle.mark_numbers.specs.Numbers.{number_of, is_there, number_there, fact_numbered}
use Rattle.mark_numbers.specs.mark_laws.Brings.{Known, Gives, Brings}
use Rattle.mark_numbers.specs.mark_laws.Brings.Gives.{alone, with_one, with_two}
use Rattle.base_laws.specs.known_laws.Known.{fact_with}
use Rattle.base_laws.specs.known_laws.Laws as joined
use Rattle.base_laws.specs.known_laws.Laws.{GivesWith, TriesEnough}
use Rattle.base_laws.proofs.lemmas.known_laws.Lists.{In, from_flat, to_flat, from_option, to_option, from_listed, to_listed, from_any, to_any}
use Rattle.marking.specs.mark_known.Facts.{known_in}
use Rattle.marking.specs.marking_rules.Lists.{number_list, numbers_in, alone_by, joined_by, alone_list, joined_list}
use Rattle.marking.specs.marking_rules.Laws.{ListsBring, JoinedMore}
use Rattle.marking.proofs.lemmas.marking_rules.Seconds.{two_marked, three_marked}

-- ---- numbers of facts that are there

there_by : (b : Bool) (n c : ℕ) → (if b then Some n else None) ≡ Some c → (b ≡ true) × (n ≡ c)
there_by true n c e = (refl, cc)
there_by false n c e = absurd (cc)

there_to : (b : Bool) (n c : ℕ) → b ≡ true → n ≡ c → (if b then Some n else None) ≡ Some c
there_to true n c e f = ap Some f
there_to false n c e f = absurd (cc)

module _ (recs : List AsmRec) where
  pub numbered : (f : Fact) (c : ℕ) → number_there recs f ≡ Some c → IsTrue (is_there recs f) × (number_of recs f ≡ c)
  numbered f c e = there_by (is_there recs f) (number_of recs f) c e

  pub number_from : (fs : List Fact) (c : ℕ) → Contains (numbers_in recs fs) c → (f : Fact) × Contains fs f × IsTrue (is_there recs f) × (number_of recs f ≡ c)
  number_from fs c h =
      let r = from_flat (number_list recs) fs c h in
      let n = numbered r.item c (from_listed (number_there recs r.item) c r.inside) in
      (r.item, r.there, n.0, n.1)

  pub number_to : (fs : List Fact) (f : Fact) (c : ℕ) → Contains fs f → IsTrue (is_there recs f) → number_of recs f ≡ c → Contains (numbers_in recs fs) c
  number_to fs f c inside t e =
      to_flat (number_list recs) fs c (record { item = f; there = inside; inside = to_listed (number_there recs f) c (there_to (is_there recs f) (number_of recs f) c t e) })

  -- ---- known items

  module _ (have : ℕ → Bool) where
    known_from : (i : Item) → known_in recs have i ≡ true → Known recs have (marked i)
    known_from i e =
        let r = from_any have (listed (number_there recs (marked i))) e in
        let n = numbered (marked i) r.0 (from_listed (number_there recs (marked i)) r.0 r.1) in
        record { there = n.0; known = subst (λ (k : ℕ). IsTrue (have k)) (sym n.1) r.2 }

    known_to : (i : Item) → Known recs have (marked i) → known_in recs have i ≡ true
    known_to i k =
        to_any have (listed (number_there recs (marked i))) (number_of recs (marked i))
        (to_listed (number_there recs (marked i)) (number_of recs (marked i)) (there_to (is_there recs (marked i)) (number_of recs (marked i)) (number_of recs (marked i)) k.there refl)) k.known

    gives_from : (roots : List Root) (a f : Fact) → GivesWith recs (known_in recs have) a f → Gives recs roots have a f
    gives_from roots a _ (joined.GivesWith.with_one i f k c) = with_one (marked i) f (known_from i k) c
    gives_from roots a _ (joined.GivesWith.with_two i j f k l c) = with_two (marked i) (marked j) f (known_from i k) (known_from j l) c

    gives_to : TriesEnough → (roots : List Root) (a f : Fact) → Gives recs roots have a f → Contains (one recs roots a) f ⊎ Contains (fact_with recs (known_in recs have) a) f
    gives_to tries roots a _ (alone f c) = inl c
    gives_to tries roots a _ (with_one b f k c) =
        let m = two_marked recs a b f c in
        let known : known_in recs have m.0 ≡ true = known_to m.0 (subst (Known recs have) m.1 k) in
        inr ((tries recs (known_in recs have) a f).1 (joined.GivesWith.with_one m.0 f known (subst (λ (x : Fact). Contains (two recs a x) f) m.1 c)))
    gives_to tries roots a _ (with_two b d f k l c) =
        let m = three_marked recs a b d f c in
        let p = m.0 in
        let q = m.1 in
        let first : known_in recs have p.0 ≡ true = known_to p.0 (subst (Known recs have) p.1 k) in
        let second : known_in recs have q.0 ≡ true = known_to q.0 (subst (Known recs have) q.1 l) in
        inr ((tries recs (known_in recs have) a f).1
        (joined.GivesWith.with_two p.0 q.0 f first second (subst (λ (x : Fact). Contains (three recs a (marked p.0) x) f) q.1 (subst (λ (x : Fact). Contains (three recs a x d) f) p.1 c))))

-- ---- both lists

module _ (w : World) (n c : ℕ) where
  record Made (gives : Fact → List Fact) : Type 0 where
    fact : Fact
    is_numbered : fact_numbered w n ≡ Some fact
    given : Fact
    gives_it : Contains (gives fact) given
    there : IsTrue (is_there w.recs given)
    number : number_of w.recs given ≡ c

  made_from : (gives : Fact → List Fact) → Contains (flat_map (λ a. numbers_in w.recs (gives a)) (listed (fact_numbered w n))) c → Made gives
  made_from gives h =
      let a = from_option (λ a. numbers_in w.recs (gives a)) (fact_numbered w n) c h in
      let f = number_from w.recs (gives a.0) c a.2 in
      record { fact = a.0; is_numbered = a.1; given = f.0; gives_it = f.1; there = f.2; number = f.3 }

  made_to : (gives : Fact → List Fact) → Made gives → Contains (flat_map (λ a. numbers_in w.recs (gives a)) (listed (fact_numbered w n))) c
  made_to gives m = to_option (λ a. numbers_in w.recs (gives a)) (fact_numbered w n) m.fact c m.is_numbered (number_to w.recs (gives m.fact) m.given c m.gives_it m.there m.number)

module _ (tries : TriesEnough) where
  bring_from : (w : World) (roots : List Root) (have : ℕ → Bool) (n c : ℕ) → Contains (alone_list w roots n) c ⊎ Contains (joined_list w have n) c → Brings w roots have n c
  bring_from w roots have n c (inl h) =
      let m = made_from w n c (one w.recs roots) h in
      record { fact = m.fact; numbered = m.is_numbered; given = m.given; there = m.there; number = m.number; gives = alone m.given m.gives_it }
  bring_from w roots have n c (inr h) =
      let known : Item → Bool = known_in w.recs have in
      let m = made_from w n c (fact_with w.recs known) h in
      record {
        fact = m.fact;
        numbered = m.is_numbered;
        given = m.given;
        there = m.there;
        number = m.number;
        gives = gives_from w.recs have roots m.fact m.given ((tries w.recs known m.fact m.given).0 m.gives_it);
      }

  bring_to : (w : World) (roots : List Root) (have : ℕ → Bool) (n c : ℕ) → Brings w roots have n c → Contains (alone_list w roots n) c ⊎ Contains (joined_list w have n) c
  bring_to w roots have n c b =
      elim (gives_to w.recs have tries roots b.fact b.given b.gives) [
        | inl h ↦ inl (made_to w n c (one w.recs roots) (record { fact = b.fact; is_numbered = b.numbered; given = b.given; gives_it = h; there = b.there; number = b.number }))
        | inr h ↦ inr (made_to w n c (fact_with w.recs (known_in w.recs have)) (record { fact = b.fact; is_numbered = b.numbered; given = b.given; gives_it = h; there = b.there; number = b.number }))
      ]

  pub lists_bring : ListsBring
  lists_bring w roots have n c = (bring_from w roots have n c, bring_to w roots have n c)

  -- ---- more known facts

  known_more : (recs : List AsmRec) (few many : ℕ → Bool) → IsWithin few many → (i : Item) → known_in recs few i ≡ true → known_in recs many i ≡ true
  known_more recs few many within i e =
      let k = known_from recs few i e in known_to recs many i (record { there = k.there; known = within (number_of recs (marked i)) k.known })

  with_more : (recs : List AsmRec) (few many : ℕ → Bool) (a f : Fact) → IsWithin few many → GivesWith recs (known_in recs few) a f → GivesWith recs (known_in recs many) a f
  with_more recs few many a _ within (joined.GivesWith.with_one i f k c) = joined.GivesWith.with_one i f (known_more recs few many within i k) c
  with_more recs few many a _ within (joined.GivesWith.with_two i j f k l c) = joined.GivesWith.with_two i j f (known_more recs few many within i k) (known_more recs few many within j l) c

  pub joined_more : JoinedMore
  joined_more w few many n c within h =
      let m = made_from w n c (fact_with w.recs (known_in w.recs few)) h in
      let g = (tries w.recs (known_in w.recs few) m.fact m.given).0 m.gives_it in
      made_to w n c (fact_with w.recs (known_in w.recs many)) (record {
        fact = m.fact;
        is_numbered = m.is_numbered;
        given = m.given;
        gives_it = (tries w.recs (known_in w.recs many) m.fact m.given).1 (with_more w.recs few many m.fact m.given within g);
        there = m.there;
        number = m.number;
      })
