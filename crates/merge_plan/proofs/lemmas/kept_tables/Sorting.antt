-- A stable sort by a key puts each row before the first one that has a greater key.
use Rattle.std.proofs.Common.{◌≡◌, ℕ, zero, suc, ◌+◌, ◌<◌, ◌≤◌, Bool, true, false, cond, List, [], ◌∷◌, ◌++◌, length, map, get_or, refl, sym, ap, subst, ◌∙◌, arith, append_assoc}
use Rattle.std.specs.Prelude.{nat_lt, nat_eq, not, ◌&&◌}
use Rattle.std.specs.Ordering.{nat_cmp, is_lt}
use Rattle.std.specs.List.{filter}
use Rattle.std.specs.List.Sorted.{IsNonDecreasingBy, IsStableByKey, ties}
use Rattle.std.proofs.lemmas.List.{append-nil}
use Rattle.std.proofs.lemmas.Bool.{eqb-true, eq-eqb}
use Rattle.std.proofs.lemmas.Bool.Decides.{nat_tests}
use Rattle.std.proofs.Common.{ltb-true}
use Rattle.std.proofs.lemmas.Bool.{ltb-false}
use Rattle.rules.specs.merge_rules.Sorted.{put, put_all, by_key}

same_key : (a b : ℕ) → (not (is_lt (nat_cmp a b)) && not (is_lt (nat_cmp b a))) ≡ nat_eq a b
same_key a b = grind (arith, nat_tests)

module _ {X : Type 0} (key : X → ℕ) where
  -- ---- lists whose keys don't fall

  abbrev Least : ℕ → List X → Type 0
  Least n [] = Unit {0}
  Least n (x ∷ xs) = (n ≤ key x) × Least n xs

  abbrev Rising : List X → Type 0
  Rising [] = Unit {0}
  Rising (x ∷ xs) = Least (key x) xs × Rising xs

  lower : (m n : ℕ) (xs : List X) → m ≤ n → Least n xs → Least m xs
  lower m n [] le least = tt
  lower m n (x ∷ xs) le least = (omega (arith, least.0), lower m n xs le least.1)

  put_least : (m : ℕ) (x : X) (ys : List X) → m ≤ key x → Least m ys → Least m (put key x ys)
  put_least m x [] le least = (le, tt)
  put_least m x (y ∷ ys) le least =
      elim (nat_lt (key x) (key y)) as (λ b. Least m (cond b (x ∷ y ∷ ys) (y ∷ put key x ys))) [ true ↦ (le, least) | false ↦ (least.0, put_least m x ys le least.1) ]

  put_case : (b : Bool) (x y : X) (ys : List X) → nat_lt (key x) (key y) ≡ b → Rising (y ∷ ys) → Rising (put key x ys) → Rising (cond b (x ∷ y ∷ ys) (y ∷ put key x ys))
  put_case true x y ys e up rest =
      let below : key x < key y = ltb-true (key x) (key y) e in
      let le : key x ≤ key y = omega arith in ((le, lower (key x) (key y) ys le up.0), up)
  put_case false x y ys e up rest =
      let le : key y ≤ key x = ltb-false (key x) (key y) e in
      (put_least (key y) x ys le up.0, rest)

  put_rising : (x : X) (ys : List X) → Rising ys → Rising (put key x ys)
  put_rising x [] up = (tt, tt)
  put_rising x (y ∷ ys) up = put_case (nat_lt (key x) (key y)) x y ys refl up (put_rising x ys up.1)

  all_rising : (sorted xs : List X) → Rising sorted → Rising (put_all key sorted xs)
  unfolding put_all
  all_rising sorted [] up = up
  all_rising sorted (x ∷ xs) up = all_rising (put key x sorted) xs (put_rising x sorted up)

  -- ---- those of one key

  abbrev Of : ℕ → List X → List X
  Of n xs = filter (λ x. nat_eq n (key x)) xs

  none_of : (n m : ℕ) (xs : List X) → n < m → Least m xs → Of n xs ≡ []
  none_of n m [] lt least = refl
  none_of n m (x ∷ xs) lt least =
      let other : nat_eq n (key x) ≡ false = let below : n < key x = omega (arith, least.0) in grind (arith, nat_tests) in
      rw other (none_of n m xs lt least.1)

  front_of : (b : Bool) (n : ℕ) (x : X) (ys : List X) → nat_eq n (key x) ≡ b → (nat_eq n (key x) ≡ true → Of n ys ≡ []) → cond b (x ∷ Of n ys) (Of n ys) ≡ Of n ys ++ cond b (x ∷ []) []
  front_of true n x ys e none = rw (none e) refl
  front_of false n x ys e none = sym (append-nil (Of n ys))

  more_of : (b : Bool) (y : X) (xs ys zs : List X) → xs ≡ ys ++ zs → cond b (y ∷ xs) xs ≡ cond b (y ∷ ys) ys ++ zs
  more_of true y xs ys zs e = ap (λ (l : List X). y ∷ l) e
  more_of false y xs ys zs e = e

  put_of_case : (b : Bool) (n : ℕ) (x y : X) (ys : List X) → nat_lt (key x) (key y) ≡ b → Least (key y) ys → Of n (put key x ys) ≡ Of n ys ++ Of n (x ∷ [])
      → Of n (cond b (x ∷ y ∷ ys) (y ∷ put key x ys)) ≡ Of n (y ∷ ys) ++ Of n (x ∷ [])
  put_of_case true n x y ys e least rest =
      let below : key x < key y = ltb-true (key x) (key y) e in
      front_of (nat_eq n (key x)) n x (y ∷ ys) refl
      (λ same. let at : n ≡ key x = eqb-true n (key x) same in
      let lt : n < key y = omega arith in
      none_of n (key y) (y ∷ ys) lt (omega arith, least))
  put_of_case false n x y ys e least rest = more_of (nat_eq n (key y)) y (Of n (put key x ys)) (Of n ys) (Of n (x ∷ [])) rest

  put_of : (n : ℕ) (x : X) (ys : List X) → Rising ys → Of n (put key x ys) ≡ Of n ys ++ Of n (x ∷ [])
  put_of n x [] up = refl
  put_of n x (y ∷ ys) up = put_of_case (nat_lt (key x) (key y)) n x y ys refl up.0 (put_of n x ys up.1)

  one_of : (b : Bool) (x : X) (xs : List X) → cond b (x ∷ []) [] ++ xs ≡ cond b (x ∷ xs) xs
  one_of true x xs = refl
  one_of false x xs = refl

  all_of : (n : ℕ) (sorted xs : List X) → Rising sorted → Of n (put_all key sorted xs) ≡ Of n sorted ++ Of n xs
  unfolding put_all
  all_of n sorted [] up = sym (append-nil (Of n sorted))
  all_of n sorted (x ∷ xs) up =
      all_of n (put key x sorted) xs (put_rising x sorted up)
      ∙ ap (λ (l : List X). l ++ Of n xs) (put_of n x sorted up)
      ∙ append_assoc (Of n sorted) (Of n (x ∷ [])) (Of n xs)
      ∙ ap (λ (l : List X). Of n sorted ++ l) (one_of (nat_eq n (key x)) x (Of n xs))

  -- ---- two lists in order with the same rows of each key

  own : (x : X) → nat_eq (key x) (key x) ≡ true
  own x = eq-eqb (key x) (key x) refl

  there_case : (b : Bool) (n m : ℕ) (x : X) (xs : List X) (r : X) (rest : List X) → nat_eq n (key x) ≡ b → (Of n xs ≡ r ∷ rest → m ≤ n) → cond b (x ∷ Of n xs) (Of n xs) ≡ r ∷ rest → m ≤ key x → m ≤ n
  there_case true n m x xs r rest same later f le = let at : n ≡ key x = eqb-true n (key x) same in omega arith
  there_case false n m x xs r rest other later f le = later f

  there : (n m : ℕ) (xs : List X) (r : X) (rest : List X) → Of n xs ≡ r ∷ rest → Least m xs → m ≤ n
  there n m [] r rest e least = cc
  there n m (x ∷ xs) r rest e least = there_case (nat_eq n (key x)) n m x xs r rest refl (λ f. there n m xs r rest f least.1) e least.0

  head_of : (x : X) (xs : List X) → Of (key x) (x ∷ xs) ≡ x ∷ Of (key x) xs
  head_of x xs = rw (own x) refl

  abbrev Same : List X → List X → Type 0
  Same ys zs = (w : X) → Of (key w) ys ≡ Of (key w) zs

  tails : (b : Bool) (y : X) (us vs : List X) → cond b (y ∷ us) us ≡ cond b (y ∷ vs) vs → us ≡ vs
  tails true y us vs e = cc
  tails false y us vs e = e

  heads : (y z : X) (ys zs : List X) → Rising (y ∷ ys) → Rising (z ∷ zs) → Same (y ∷ ys) (z ∷ zs) → y ≡ z
  heads y z ys zs up upz same =
      let le : key y ≤ key z = there (key z) (key y) (y ∷ ys) z (Of (key z) zs) (same z ∙ head_of z zs) (omega arith, up.0) in
      let ge : key z ≤ key y = there (key y) (key z) (z ∷ zs) y (Of (key y) ys) (sym (same y) ∙ head_of y ys) (omega arith, upz.0) in
      let at : key y ≡ key z = omega arith in
      let whole : y ∷ Of (key y) ys ≡ z ∷ Of (key z) zs =
      sym (head_of y ys) ∙ same y ∙ ap (λ (n : ℕ). Of n (z ∷ zs)) at ∙ head_of z zs in
      cc

  pub alike : (ys zs : List X) → Rising ys → Rising zs → Same ys zs → ys ≡ zs
  alike [] [] up upz same = refl
  alike [] (z ∷ zs) up upz same = let e : [] ≡ z ∷ Of (key z) zs = same z ∙ head_of z zs in cc
  alike (y ∷ ys) [] up upz same = let e : [] ≡ y ∷ Of (key y) ys = sym (same y) ∙ head_of y ys in cc
  alike (y ∷ ys) (z ∷ zs) up upz same =
      let first : y ≡ z = heads y z ys zs up upz same in
      let rest : ys ≡ zs = alike ys zs up.1 upz.1 (λ w. tails (nat_eq (key w) (key y)) y (Of (key w) ys) (Of (key w) zs) (same w ∙ ap (λ (x : X). Of (key w) (x ∷ zs)) (sym first))) in
      λ i. first i ∷ rest i

  -- ---- from the clauses of a sort

  least_from : (m : ℕ) (xs : List X) → ((k : ℕ) (d : X) → k < length xs → m ≤ key (get_or xs k d)) → Least m xs
  least_from m [] h = tt
  least_from m (x ∷ xs) h = (h 0 x (omega arith), least_from m xs (λ k d lt. h (suc k) d (omega arith)))

  rising_from : (xs : List X) → IsNonDecreasingBy key xs → Rising xs
  rising_from [] up = tt
  rising_from (x ∷ xs) up =
      (least_from (key x) xs (λ k d lt. up 0 (suc k) d (omega arith) (omega arith)), rising_from xs (λ i j d le lt. up (suc i) (suc j) d (omega arith) (omega arith)))

  pub sorted_is : (xs ys : List X) → IsNonDecreasingBy key ys → IsStableByKey key nat_cmp xs ys → ys ≡ by_key key xs
  sorted_is xs ys up stable =
      alike ys (by_key key xs) (rising_from ys up) (all_rising [] xs tt)
      (λ w. (λ i. filter (λ x. sym (same_key (key w) (key x)) i) ys) ∙ stable w ∙ (λ i. filter (λ x. same_key (key w) (key x) i) xs) ∙ sym (all_of (key w) [] xs tt))

-- ---- what is made of each row

module _ {X Y : Type 0} (f : X → Y) (key : X → ℕ) (other : Y → ℕ) (same : (x : X) → other (f x) ≡ key x) where
  map_cond : (b : Bool) (xs ys : List X) → map f (cond b xs ys) ≡ cond b (map f xs) (map f ys)
  map_cond true xs ys = refl
  map_cond false xs ys = refl

  map_put : (x : X) (ys : List X) → map f (put key x ys) ≡ put other (f x) (map f ys)
  map_put x [] = refl
  map_put x (y ∷ ys) =
      map_cond (nat_lt (key x) (key y)) (x ∷ y ∷ ys) (y ∷ put key x ys)
      ∙ (λ i. cond (nat_lt (sym (same x) i) (sym (same y) i)) (f x ∷ f y ∷ map f ys) (f y ∷ map_put x ys i))

  map_all : (sorted xs : List X) → map f (put_all key sorted xs) ≡ put_all other (map f sorted) (map f xs)
  unfolding put_all
  map_all sorted [] = refl
  map_all sorted (x ∷ xs) = map_all (put key x sorted) xs ∙ ap (λ (l : List Y). put_all other l (map f xs)) (map_put x sorted)

  pub map_by_key : (xs : List X) → map f (by_key key xs) ≡ by_key other (map f xs)
  map_by_key xs = map_all [] xs
