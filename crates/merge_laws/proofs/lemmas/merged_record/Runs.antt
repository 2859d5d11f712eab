-- Runs of kept members: where each kept member is in the run of an item, and the items' runs follow one another in the inputs, the
-- runs of what is kept follow one another.
use Rattle.std.proofs.Common.{◌≡◌, ◌<◌, ◌≤◌, ℕ, zero, suc, ◌+◌, ◌-◌, List, [], ◌∷◌, length, map, Bool, true, false, ◌⊎◌, inl, inr, Option, Some, None, refl, sym, ap, subst, ◌∙◌, arith}
use Rattle.std.specs.Prelude.{slice_get, nat_le, nat_lt, ◌==◌, ◌&&◌, ◌||◌, if◌then◌else◌}
use Rattle.std.specs.List.{Contains, filter}
use Rattle.std.proofs.lemmas.Bool.{and_parts, and_from, lt-ltb, eq-eqb, ltb-true, ltb-false, eqb-true}
use Rattle.std.proofs.lemmas.Bool.Decides.{nat_tests}
use Rattle.il_base.specs.world_model.Records.{AreRuns}
use Rattle.rules.specs.declared.link_rules.row_at.RowAt.{RowAt}
use Rattle.rules.specs.merge_rules.Rows.{is_before, run_at}
use Rattle.merge_laws.proofs.lemmas.merged_record.Lists.{none_in, first_in, later_in, head_or, place_in}
use Rattle.merge_laws.proofs.lemmas.merged_record.Sorting.{Ordered, later}

-- ---- how many pass a test

filter_by : {A : Type 0} (b c : Bool) (x : A) (xs ys : List A) → b ≡ c → xs ≡ ys → (if b then x ∷ xs else xs) ≡ (if c then x ∷ ys else ys)
filter_by b c x xs ys e f = λ i. if e i then x ∷ f i else f i

filter_same : {A : Type 0} (p q : A → Bool) (xs : List A) → ((x : A) → Contains xs x → p x ≡ q x) → filter p xs ≡ filter q xs
filter_same p q [] same = refl
filter_same p q (x ∷ xs) same = filter_by (p x) (q x) x (filter p xs) (filter q xs) (same x (first_in x xs)) (filter_same p q xs (λ y c. same y (later_in x xs y c)))

count_by : {A : Type 0} (b c : Bool) (x : A) (xs ys : List A) → (b ≡ true → c ≡ true) → length xs ≤ length ys → length (if b then x ∷ xs else xs) ≤ length (if c then x ∷ ys else ys)
count_by true true x xs ys h le = omega arith
count_by true false x xs ys h le = absurd (let e = h refl in cc)
count_by false true x xs ys h le = omega arith
count_by false false x xs ys h le = le

count_grows : {A : Type 0} (p q : A → Bool) (xs : List A) → ((x : A) → p x ≡ true → q x ≡ true) → length (filter p xs) ≤ length (filter q xs)
count_grows p q [] more = omega arith
count_grows p q (x ∷ xs) more = count_by (p x) (q x) x (filter p xs) (filter q xs) (more x) (count_grows p q xs more)

some_by : {A : Type 0} (b : Bool) (x : A) (xs : List A) (n : ℕ) → length xs ≤ n → length (if b then x ∷ xs else xs) ≤ suc n
some_by true x xs n le = omega arith
some_by false x xs n le = omega arith

count_within : {A : Type 0} (p : A → Bool) (xs : List A) → length (filter p xs) ≤ length xs
count_within p [] = omega arith
count_within p (x ∷ xs) = some_by (p x) x (filter p xs) (length xs) (count_within p xs)

all_by : {A : Type 0} (b : Bool) (x : A) (xs : List A) (n : ℕ) → b ≡ true → length xs ≡ n → length (if b then x ∷ xs else xs) ≡ suc n
all_by true x xs n e f = ap suc f
all_by false x xs n e f = absurd (cc)

count_all : {A : Type 0} (p : A → Bool) (xs : List A) → ((x : A) → Contains xs x → p x ≡ true) → length (filter p xs) ≡ length xs
count_all p [] pass = refl
count_all p (x ∷ xs) pass = all_by (p x) x (filter p xs) (length xs) (pass x (first_in x xs)) (count_all p xs (λ y c. pass y (later_in x xs y c)))

-- ---- which members are before a place

or_left : (b c : Bool) → b ≡ true → (b || c) ≡ true
or_left true c e = refl
or_left false c e = absurd (cc)

or_right : (b c : Bool) → c ≡ true → (b || c) ≡ true
or_right true c e = refl
or_right false c e = e

neither : (b c : Bool) → b ≡ false → c ≡ false → (b || c) ≡ false
neither b c e f = rw (e, f) refl

not_first : (b c : Bool) → b ≡ false → (b && c) ≡ false
not_first b c e = rw e refl

not_second : (b c : Bool) → c ≡ false → (b && c) ≡ false
not_second true c e = e
not_second false c e = refl

before : (a k : ℕ) (m : RowAt) → (m.asm < a) ⊎ ((m.asm ≡ a) × (m.row < k)) → is_before a k m ≡ true
before a k m (inl lt) = or_left (nat_lt m.asm a) (m.asm == a && nat_lt m.row k) (lt-ltb m.asm a lt)
before a k m (inr (e, lt)) = or_right (nat_lt m.asm a) (m.asm == a && nat_lt m.row k) (and_from (m.asm == a) (nat_lt m.row k) (eq-eqb m.asm a e) (lt-ltb m.row k lt))

not_lt : (m n : ℕ) → n ≤ m → nat_lt m n ≡ false
not_lt m n le = grind (arith, nat_tests)

not_eq : (m n : ℕ) → n < m → (m == n) ≡ false
not_eq m n lt = grind (arith, nat_tests)

behind : (a k : ℕ) (m : RowAt) → (a < m.asm) ⊎ ((m.asm ≡ a) × (k ≤ m.row)) → is_before a k m ≡ false
behind a k m (inl lt) = neither (nat_lt m.asm a) (m.asm == a && nat_lt m.row k) (not_lt m.asm a (omega arith)) (not_first (m.asm == a) (nat_lt m.row k) (not_eq m.asm a lt))
behind a k m (inr (e, le)) = neither (nat_lt m.asm a) (m.asm == a && nat_lt m.row k) (not_lt m.asm a (omega arith)) (not_second (m.asm == a) (nat_lt m.row k) (not_lt m.row k le))

grows_by : (j k a : ℕ) (m : RowAt) (b : Bool) → j ≤ k → nat_lt m.asm a ≡ b → (b || (m.asm == a && nat_lt m.row j)) ≡ true → (b || (m.asm == a && nat_lt m.row k)) ≡ true
grows_by j k a m true le e h = refl
grows_by j k a m false le e h =
    let p = and_parts (m.asm == a) (nat_lt m.row j) h in
    let lt : m.row < j = ltb-true m.row j p.1 in
    and_from (m.asm == a) (nat_lt m.row k) p.0 (lt-ltb m.row k (omega arith))

grows : (a j k : ℕ) (m : RowAt) → j ≤ k → is_before a j m ≡ true → is_before a k m ≡ true
grows a j k m le h = grows_by j k a m (nat_lt m.asm a) le refl h

-- ---- items with their runs

module _ {I : Type 0} (asm first end : I → ℕ) where
  -- the run of one is before that of another
  abbrev pub Follows : I → I → Type 0
  Follows x y = (asm x < asm y) ⊎ ((asm x ≡ asm y) × (end x ≤ first y))

  pub record IsRight (x : I) : Type 0 where
    pub begins : 1 ≤ first x
    pub rises : first x ≤ end x

  -- the item in whose run a member is
  pub record OwnerIn (items : List I) (m : RowAt) : Type 0 where
    pub place : ℕ
    pub item : I
    pub there : slice_get items place ≡ Some item
    pub here : asm item ≡ m.asm
    pub begins : first item ≤ suc m.row
    pub ends : suc m.row < end item

  module _ (members : List RowAt) (items : List I) (up : Ordered Follows items) (right : (x : I) → Contains items x → IsRight x) (owned : (m : RowAt) → Contains members m → OwnerIn items m) where
    abbrev Where : ℕ → ℕ → Type 0
    Where j k = (j ≤ k) ⊎ (k < j)

    which : (j k : ℕ) → Where j k
    which j k = by_test (nat_lt k j) refl
      where
        by_test : (b : Bool) → nat_lt k j ≡ b → Where j k
        by_test true e = inr (ltb-true k j e)
        by_test false e = inl (ltb-false k j e)

    same_or : (j k : ℕ) → j ≤ k → (j ≡ k) ⊎ (j < k)
    same_or j k le = by_test (nat_lt j k) refl
      where
        by_test : (b : Bool) → nat_lt j k ≡ b → (j ≡ k) ⊎ (j < k)
        by_test true e = inr (ltb-true j k e)
        by_test false e = let ge : k ≤ j = ltb-false j k e in inl (omega arith)

    the_same : (j k : ℕ) (x y : I) → j ≡ k → slice_get items j ≡ Some x → slice_get items k ≡ Some y → x ≡ y
    the_same j k x y n e f = let g : slice_get items k ≡ Some x = subst (λ (i : ℕ). slice_get items i ≡ Some x) n e in cc

    -- a member of this item or of one before it is before the end of the item
    before_end : (k : ℕ) (x : I) → slice_get items k ≡ Some x → (m : RowAt) (o : OwnerIn items m) → o.place ≤ k → is_before (asm x) (end x - 1) m ≡ true
    before_end k x e m o le =
        let a = o.here in
        let lt = o.ends in
        elim (same_or o.place k le) [
          | inl n ↦ let same = the_same o.place k o.item x n o.there e in let b : asm o.item ≡ asm x = ap asm same in let c : end o.item ≡ end x = ap end same in before (asm x) (end x - 1) m (inr (omega arith, omega arith))
          | inr n ↦
              let r = right x (place_in items k x e) in
              let p = r.begins in
              let q = r.rises in
              elim (later Follows items up o.place k o.item x n o.there e) [
                | inl s ↦ before (asm x) (end x - 1) m (inl (omega arith))
                | inr s ↦ let b = s.0 in let c = s.1 in before (asm x) (end x - 1) m (inr (omega arith, omega arith))
              ]
        ]

    -- and before the begin of the next
    before_next : (k : ℕ) (y : I) → slice_get items k ≡ Some y → (m : RowAt) (o : OwnerIn items m) → o.place < k → is_before (asm y) (first y - 1) m ≡ true
    before_next k y e m o lt =
        let a = o.here in
        let n = o.ends in
        elim (later Follows items up o.place k o.item y lt o.there e) [
          | inl s ↦ before (asm y) (first y - 1) m (inl (omega arith))
          | inr s ↦ let b = s.0 in let c = s.1 in before (asm y) (first y - 1) m (inr (omega arith, omega arith))
        ]

    -- one of this item or of a later one isn't before its begin
    behind_begin : (k : ℕ) (y : I) → slice_get items k ≡ Some y → (m : RowAt) (o : OwnerIn items m) → k ≤ o.place → is_before (asm y) (first y - 1) m ≡ false
    behind_begin k y e m o le =
        let a = o.here in
        let n = o.begins in
        elim (same_or k o.place le) [
          | inl s ↦ let same = the_same k o.place y o.item s e o.there in let b : asm y ≡ asm o.item = ap asm same in let c : first y ≡ first o.item = ap first same in behind (asm y) (first y - 1) m (inr (omega arith, omega arith))
          | inr s ↦
              let r = right y (place_in items k y e) in
              let p = r.rises in
              elim (later Follows items up k o.place y o.item s e o.there) [
                | inl t ↦ behind (asm y) (first y - 1) m (inl (omega arith))
                | inr t ↦ let b = t.0 in let c = t.1 in behind (asm y) (first y - 1) m (inr (omega arith, omega arith))
              ]
        ]

    -- one of a later item isn't before this one's end
    behind_end : (k : ℕ) (x : I) → slice_get items k ≡ Some x → (m : RowAt) (o : OwnerIn items m) → k < o.place → is_before (asm x) (end x - 1) m ≡ false
    behind_end k x e m o lt =
        let a = o.here in
        let n = o.begins in
        elim (later Follows items up k o.place x o.item lt e o.there) [
          | inl t ↦ behind (asm x) (end x - 1) m (inl (omega arith))
          | inr t ↦ let b = t.0 in let c = t.1 in behind (asm x) (end x - 1) m (inr (omega arith, omega arith))
        ]

    agree : (k : ℕ) (x y : I) → slice_get items k ≡ Some x → slice_get items (suc k) ≡ Some y → (m : RowAt) → Contains members m → is_before (asm x) (end x - 1) m ≡ is_before (asm y) (first y - 1) m
    agree k x y e f m c =
        let o = owned m c in
        elim (which o.place k) [
          | inl le ↦ before_end k x e m o le ∙ sym (before_next (suc k) y f m o (omega arith))
          | inr lt ↦ behind_end k x e m o lt ∙ sym (behind_begin (suc k) y f m o (omega arith))
        ]

    last_place : (k : ℕ) (m : RowAt) (o : OwnerIn items m) → suc k ≡ length items → o.place ≤ k
    last_place k m o e = let lt = below items o.place o.item o.there in omega arith
      where
        below : (xs : List I) (j : ℕ) (z : I) → slice_get xs j ≡ Some z → j < length xs
        below [] j z g = absurd (cc)
        below (w ∷ xs) zero z g = omega arith
        below (w ∷ xs) (suc j) z g = let lt = below xs j z g in omega arith

    pub runs : AreRuns (length members) (λ (x : I). run_at members (asm x) (first x)) (λ (x : I). run_at members (asm x) (end x)) items
    unfolding run_at
    runs = record {
      begins = λ k x e. omega arith;
      never_falls = λ k x e.
          let r = right x (place_in items k x e) in
          let le = r.rises in
          let more = count_grows (is_before (asm x) (first x - 1)) (is_before (asm x) (end x - 1)) members (λ m h. grows (asm x) (first x - 1) (end x - 1) m (omega arith) h) in
          omega arith;
      within = λ k x e. let le = count_within (is_before (asm x) (end x - 1)) members in omega arith;
      meets = λ k x y e f. ap (λ (rows : List RowAt). suc (length rows)) (filter_same (is_before (asm x) (end x - 1)) (is_before (asm y) (first y - 1)) members (agree k x y e f));
      closes = λ k x e last.
          let all = count_all (is_before (asm x) (end x - 1)) members (λ m c. let o = owned m c in before_end k x e m o (last_place k m o last)) in
          omega arith;
    }

-- ---- rows that are made of items

pub record OfMapped {A B : Type 0} (f : A → B) (xs : List A) (k : ℕ) (y : B) : Type 0 where
  pub item : A
  pub there : slice_get xs k ≡ Some item
  pub is : f item ≡ y

pub of_mapped : {A B : Type 0} (f : A → B) (xs : List A) (k : ℕ) (y : B) → slice_get (map f xs) k ≡ Some y → OfMapped f xs k y
of_mapped f [] k y e = absurd (cc)
of_mapped f (x ∷ xs) zero y e = let same : f x ≡ y = cc in record { item = x; there = refl; is = same }
of_mapped f (x ∷ xs) (suc k) y e = let m = of_mapped f xs k y e in record { item = m.item; there = m.there; is = m.is }

mapped_length : {A B : Type 0} (f : A → B) (xs : List A) → length (map f xs) ≡ length xs
mapped_length f [] = refl
mapped_length f (x ∷ xs) = ap suc (mapped_length f xs)

pub runs_mapped : {A B : Type 0} (count : ℕ) (first end : A → ℕ) (top last : B → ℕ) (f : A → B) (xs : List A) → ((x : A) → top (f x) ≡ first x) → ((x : A) → last (f x) ≡ end x) → AreRuns count first end xs
    → AreRuns count top last (map f xs)
runs_mapped count first end top last f xs tops lasts r = record {
  begins = λ k y e. let m = of_mapped f xs k y e in let a = r.begins k m.item m.there in let b = tops m.item in let c = ap top m.is in omega arith;
  never_falls = λ k y e. let m = of_mapped f xs k y e in let a = r.never_falls k m.item m.there in let b = tops m.item in let c = ap top m.is in let d = lasts m.item in let g = ap last m.is in omega arith;
  within = λ k y e. let m = of_mapped f xs k y e in let a = r.within k m.item m.there in let d = lasts m.item in let g = ap last m.is in omega arith;
  meets = λ k y z e h.
      let m = of_mapped f xs k y e in
      let n = of_mapped f xs (suc k) z h in
      sym (ap last m.is) ∙ lasts m.item ∙ r.meets k m.item n.item m.there n.there ∙ sym (tops n.item) ∙ ap top n.is;
  closes = λ k y e h. let m = of_mapped f xs k y e in sym (ap last m.is) ∙ lasts m.item ∙ r.closes k m.item m.there (h ∙ mapped_length f xs);
}
