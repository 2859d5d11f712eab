-- The rows of several groups, sorted and each once, are the rows whose key is one of several.
use Rattle.std.proofs.Common.{◌≡◌, ℕ, suc, ◌+◌, ◌<◌, ◌≤◌, List, [], ◌∷◌, Bool, true, false, refl, sym, ap, ◌∙◌, arith, subst, true≢false}
use Rattle.std.specs.Prelude.{nat_eq, ◌||◌, if◌then◌else◌}
use Rattle.std.specs.List.{list_any, flat_map, dedup}
use Rattle.std.specs.List.Sorted.{IsPermutation, IsSorted, IsStrictlyIncreasing}
use Rattle.std.specs.Ordering.{nat_cmp}
use Rattle.std.specs.Cmp.{nat_eq_equiv, unsigned_Decides}
use Rattle.std.proofs.lemmas.List.Folds.{list_any-append}
use Rattle.std.proofs.lemmas.List.Sorted.{list_any-IsPermutation}
use Rattle.std.proofs.lemmas.List.Kept.{Contains-dedup_nat, Contains-from_dedup}
use Rattle.std.proofs.lemmas.Map.Keys.{IsStrictlyIncreasing-dedup}
use Rattle.std.proofs.lemmas.Map.Views.{list_any-from_Contains, Contains-from_any}
use Rattle.type_tables.specs.member_search.Names.{places}
use Rattle.type_tables.specs.Groups.{is_key}
use Rattle.attribute_values.specs.attribute_rows.Parents.{is_one_of}

abbrev member : ℕ → List ℕ → Bool
member k xs = list_any (nat_eq k) xs

-- ---- lists that rise

-- each is above the one before it, and the first is at least `m`
Above : ℕ → List ℕ → Type 0
Above m [] = Unit {0}
Above m (x ∷ xs) = (m ≤ x) × Above (suc x) xs

weaker : (m n : ℕ) (xs : List ℕ) → m ≤ n → Above n xs → Above m xs
unfolding Above
weaker m n [] h a = tt
weaker m n (x ∷ xs) h a = let l : n ≤ x = a.0 in (omega arith, a.1)

by_test : (test : ℕ → Bool) (i : ℕ) (keys : List ℕ) (b : Bool) → Above (i + 1) (places test (i + 1) keys) → Above i (if b then i ∷ places test (i + 1) keys else places test (i + 1) keys)
unfolding Above
by_test test i keys true h = let n : i + 1 ≡ suc i = omega arith in (omega arith, subst (λ (m : ℕ). Above m (places test (i + 1) keys)) n h)
by_test test i keys false h = weaker i (i + 1) (places test (i + 1) keys) (omega arith) h

places_rise : (test : ℕ → Bool) (i : ℕ) (keys : List ℕ) → Above i (places test i keys)
unfolding Above
places_rise test i [] = tt
places_rise test i (k ∷ keys) = by_test test i keys (test k) (places_rise test (i + 1) keys)

rises_from : (m x : ℕ) (xs : List ℕ) → m ≤ x → IsStrictlyIncreasing (x ∷ xs) → Above m (x ∷ xs)
unfolding Above
rises_from m x [] l h = (l, tt)
rises_from m x (y ∷ ys) l h = (l, rises_from (suc x) y ys (let n : x < y = h 0 (omega arith) in omega arith) (λ k b. let n : suc k + 1 ≡ suc (k + 1) = omega arith in rw n at (h (suc k) (omega arith))))

rises : (xs : List ℕ) → IsStrictlyIncreasing xs → Above 0 xs
unfolding Above
rises [] h = tt
rises (x ∷ xs) h = rises_from 0 x xs (omega arith) h

-- ---- their members

apart : (k x : ℕ) → k < x → nat_eq k x ≡ false
apart k x h = grind arith

not_below : (m k : ℕ) (xs : List ℕ) → k < m → Above m xs → member k xs ≡ false
unfolding Above
not_below m k [] h a = refl
not_below m k (x ∷ xs) h a = let l : m ≤ x = a.0 in let b : k < x = omega arith in rw (apart k x b) (not_below (suc x) k xs (omega arith) a.1)

first_is : (x : ℕ) (xs : List ℕ) → member x (x ∷ xs) ≡ true
first_is x xs = rw (nat_eq_equiv.refl x) refl

same_first : (m n x y : ℕ) (xs ys : List ℕ) → Above m (x ∷ xs) → Above n (y ∷ ys) → ((k : ℕ) → member k (x ∷ xs) ≡ member k (y ∷ ys)) → x < y → ⊥
unfolding Above
same_first m n x y xs ys a b h l = true≢false (sym (first_is x xs) ∙ h x ∙ rw (apart x y l) (not_below (suc y) x ys (omega arith) b.1))

drops : (x : ℕ) (xs ys : List ℕ) → Above (suc x) xs → Above (suc x) ys → ((k : ℕ) → member k (x ∷ xs) ≡ member k (x ∷ ys)) → (k : ℕ) → member k xs ≡ member k ys
drops x xs ys a b h k = by (nat_eq k x) refl
  where
    by : (e : Bool) → nat_eq k x ≡ e → member k xs ≡ member k ys
    by true e =
        let i : k ≡ x = (unsigned_Decides k x).0 e in
        not_below (suc x) k xs (omega arith) a ∙ sym (not_below (suc x) k ys (omega arith) b)
    by false e = rw e at (h k)

same_rising : (m n : ℕ) (xs ys : List ℕ) → Above m xs → Above n ys → ((k : ℕ) → member k xs ≡ member k ys) → xs ≡ ys
unfolding Above
same_rising m n [] [] a b h = refl
same_rising m n [] (y ∷ ys) a b h = absurd (true≢false (sym (h y ∙ first_is y ys)))
same_rising m n (x ∷ xs) [] a b h = absurd (true≢false (sym (first_is x xs) ∙ h x))
same_rising m n (x ∷ xs) (y ∷ ys) a b h =
    let one : x < y → ⊥ = same_first m n x y xs ys a b h in
    let two : y < x → ⊥ = same_first n m y x ys xs b a (λ k. sym (h k)) in
    let e : x ≡ y = omega (arith, one, two) in
    let b' : Above (suc x) ys = subst (λ (z : ℕ). Above (suc z) ys) (sym e) b.1 in
    let h' : (k : ℕ) → member k (x ∷ xs) ≡ member k (x ∷ ys) = λ k. subst (λ (z : ℕ). member k (x ∷ xs) ≡ member k (z ∷ ys)) (sym e) (h k) in
    ap (λ (z : ℕ). z ∷ xs) e ∙ ap (λ (zs : List ℕ). y ∷ zs) (same_rising (suc x) (suc x) xs ys a.1 b' (drops x xs ys a.1 b' h'))

-- ---- groups put together

either : (p q e mp mq m : Bool) → m ≡ (mp || mq) → (if p || q then e || m else m) ≡ ((if p then e || mp else mp) || (if q then e || mq else mq))
either true true true mp mq m h = refl
either true true false mp mq m h = h
either true false true mp mq m h = refl
either true false false mp mq m h = h
either false true true true mq m h = refl
either false true true false mq m h = refl
either false true false mp mq m h = h
either false false e mp mq m h = h

member_if : (k i : ℕ) (b : Bool) (xs : List ℕ) → member k (if b then i ∷ xs else xs) ≡ (if b then nat_eq k i || member k xs else member k xs)
member_if k i true xs = refl
member_if k i false xs = refl

joins : (k : ℕ) (p q : ℕ → Bool) (i : ℕ) (keys : List ℕ) → member k (places (λ x. p x || q x) i keys) ≡ (member k (places p i keys) || member k (places q i keys))
joins k p q i [] = refl
joins k p q i (x ∷ keys) =
    let P = places p (i + 1) keys in
    let Q = places q (i + 1) keys in
    let B = places (λ (z : ℕ). p z || q z) (i + 1) keys in
    member_if k i (p x || q x) B
    ∙ either (p x) (q x) (nat_eq k i) (member k P) (member k Q) (member k B) (joins k p q (i + 1) keys)
    ∙ sym (ap (λ (b : Bool). b || member k (if q x then i ∷ Q else Q)) (member_if k i (p x) P) ∙ ap (λ (b : Bool). (if p x then nat_eq k i || member k P else member k P) || b) (member_if k i (q x) Q))

none : (k i : ℕ) (keys : List ℕ) → false ≡ member k (places (λ x. false) i keys)
none k i [] = refl
none k i (x ∷ keys) = none k (i + 1) keys

module _ (keys : List ℕ) where
  of_all : (k : ℕ) (tokens : List ℕ) → member k (flat_map (λ t. places (is_key t) 0 keys) tokens) ≡ member k (places (is_one_of tokens) 0 keys)
  of_all k [] = none k 0 keys
  of_all k (t ∷ ts) =
      list_any-append (nat_eq k) (places (is_key t) 0 keys) (flat_map (λ t. places (is_key t) 0 keys) ts)
      ∙ ap (λ (b : Bool). member k (places (is_key t) 0 keys) || b) (of_all k ts)
      ∙ sym (joins k (is_key t) (is_one_of ts) 0 keys)

  alike : (a b : Bool) → (a ≡ true → b ≡ true) → (b ≡ true → a ≡ true) → a ≡ b
  alike true b h g = sym (h refl)
  alike false true h g = g refl
  alike false false h g = refl

  once : (k : ℕ) (xs : List ℕ) → member k (dedup nat_eq xs) ≡ member k xs
  once k xs =
      alike (member k (dedup nat_eq xs)) (member k xs)
      (λ h. list_any-from_Contains nat_eq_equiv k xs (Contains-from_dedup nat_eq xs k (Contains-from_any (λ x y. (unsigned_Decides x y).0) k (dedup nat_eq xs) h)))
      (λ h. list_any-from_Contains nat_eq_equiv k (dedup nat_eq xs) (Contains-dedup_nat xs k (Contains-from_any (λ x y. (unsigned_Decides x y).0) k xs h)))

  pub sorted_once : (tokens sorted : List ℕ) → IsPermutation (flat_map (λ t. places (is_key t) 0 keys) tokens) sorted → IsSorted nat_cmp sorted → dedup nat_eq sorted ≡ places (is_one_of tokens) 0 keys
  sorted_once tokens sorted moved s =
      same_rising 0 0 (dedup nat_eq sorted) (places (is_one_of tokens) 0 keys) (rises (dedup nat_eq sorted) (IsStrictlyIncreasing-dedup sorted s)) (places_rise (is_one_of tokens) 0 keys)
      (λ k. once k sorted ∙ sym (list_any-IsPermutation (nat_eq k) (flat_map (λ t. places (is_key t) 0 keys) tokens) sorted moved) ∙ of_all k tokens)
