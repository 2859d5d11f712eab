-- How many rows are before another, by their numbers in order.
use Rattle.std.proofs.Common.{◌≡◌, ℕ, zero, suc, ◌+◌, ◌*◌, ◌<◌, ◌≤◌, ◌^◌, Bool, true, false, cond, List, [], ◌∷◌, length, map, get_or, take, ◌++◌, refl, sym, ap, subst, ◌∙◌, arith}
use Rattle.std.specs.Prelude.{nat_lt, ◌==◌, ◌&&◌, ◌||◌}
use Rattle.std.specs.List.{All, filter}
use Rattle.std.specs.List.Sorted.{IsPermutation}
use Rattle.std.proofs.lemmas.List.Elements.{All-tail, All-push}
use Rattle.std.proofs.lemmas.List.Sums.{length-filter}
use Rattle.std.proofs.lemmas.List.Sorted.{sum_by-IsPermutation}
use Rattle.std.proofs.lemmas.Bool.Decides.{nat_tests}
use Rattle.rules.specs.declared.link_rules.row_at.RowAt.{RowAt}
use Rattle.rules.specs.merge_rules.Rows.{is_before}
use Rattle.std.proofs.lemmas.List.{take_more, map-append}
use Rattle.merge_plan.specs.Ranks.{order_of, Fits, AreOrders}

-- ---- numbers that pass a test up to a place alone

pub passing : {X : Type 0} (p : X → Bool) (xs : List X) (r : ℕ) → r ≤ length xs → ((k : ℕ) (d : X) → k < r → p (get_or xs k d) ≡ true)
    → ((k : ℕ) (d : X) → r ≤ k → k < length xs → p (get_or xs k d) ≡ false) → length (filter p xs) ≡ r
passing p [] zero h low high = refl
passing p [] (suc r) h low high = absurd (omega arith)
passing p (x ∷ xs) zero h low high =
    let here : p x ≡ false = high 0 x (omega arith) (omega arith) in
    rw here (passing p xs zero (omega arith) (λ k d b. absurd (omega arith)) (λ k d b l. high (suc k) d (omega arith) (omega arith)))
passing p (x ∷ xs) (suc r) h low high =
    let here : p x ≡ true = low 0 x (omega arith) in
    rw here (ap suc (passing p xs r (omega arith) (λ k d b. low (suc k) d (omega arith)) (λ k d b l. high (suc k) d (omega arith) (omega arith))))

-- ---- rows by their numbers

before_is : (x r a k : ℕ) → r < 2 ^ 32 → k < 2 ^ 32 → (nat_lt x a || x == a && nat_lt r k) ≡ nat_lt (x * 4294967296 + r) (a * 4294967296 + k)
before_is x r a k f g = grind (arith, nat_tests)

one_more : {X Y : Type 0} (b c : Bool) (x : X) (xs : List X) (y : Y) (ys : List Y) → b ≡ c → length xs ≡ length ys → length (cond b (x ∷ xs) xs) ≡ length (cond c (y ∷ ys) ys)
one_more true true x xs y ys e h = ap suc h
one_more false false x xs y ys e h = h
one_more true false x xs y ys e h = cc
one_more false true x xs y ys e h = cc

by_number : (a k : ℕ) → k < 2 ^ 32 → (rows : List RowAt) → All Fits rows → length (filter (is_before a k) rows) ≡ length (filter (λ n. nat_lt n (a * 4294967296 + k)) (map order_of rows))
by_number a k g [] all = refl
by_number a k g (x ∷ xs) all =
    one_more (is_before a k x) (nat_lt (order_of x) (a * 4294967296 + k)) x (filter (is_before a k) xs) (order_of x) (filter (λ n. nat_lt n (a * 4294967296 + k)) (map order_of xs))
    (before_is x.asm x.row a k (all 0 x (omega arith)) g) (by_number a k g xs (All-tail Fits x xs all))

reordered : {X : Type 0} (p : X → Bool) (xs ys : List X) → IsPermutation xs ys → length (filter p ys) ≡ length (filter p xs)
reordered p xs ys same = length-filter p ys ∙ sum_by-IsPermutation (λ x. cond (p x) 1 0) xs ys same ∙ sym (length-filter p xs)

pub counted : (a k : ℕ) → k < 2 ^ 32 → (rows : List RowAt) (ranks : List ℕ) → All Fits rows → IsPermutation (map order_of rows) ranks
    → length (filter (λ n. nat_lt n (a * 4294967296 + k)) ranks) ≡ length (filter (is_before a k) rows)
counted a k g rows ranks all same = reordered (λ n. nat_lt n (a * 4294967296 + k)) (map order_of rows) ranks same ∙ sym (by_number a k g rows all)

-- ---- one row more

pub orders_more : (rows : List RowAt) (i : ℕ) (d : RowAt) (orders new : List ℕ) (n : ℕ) → i < length rows → n ≡ order_of (get_or rows i d) → Fits (get_or rows i d) → new ≡ orders ++ n ∷ []
    → AreOrders (take i rows) orders → AreOrders (take (i + 1) rows) new
orders_more rows i d orders new n below order fits more old =
    let front : take (i + 1) rows ≡ take i rows ++ get_or rows i d ∷ [] = take_more rows i d below in
    record {
      are = more ∙ (λ j. old.are j ++ order j ∷ []) ∙ sym (map-append order_of (take i rows) (get_or rows i d ∷ [])) ∙ ap (map order_of) (sym front);
      fit = subst (All Fits) (sym front) (All-push Fits (take i rows) (get_or rows i d) old.fit fits);
    }
