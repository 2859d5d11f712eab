-- Lists whose items move, look-ups in them, and tests that all items pass.
use Rattle.std.proofs.Common.{◌≡◌, ℕ, zero, suc, List, [], ◌∷◌, ◌++◌, map, take, drop, Bool, true, false, Option, Some, refl, sym, ap, ◌∙◌}
use Rattle.std.specs.Prelude.{find, slice_get, set, cond, IsTrue}
use Rattle.std.specs.List.{list_all}
use Rattle.std.specs.Option.{option_map}
use Rattle.std.specs.Cmp.{first_so, second_so}
use Rattle.std.proofs.lemmas.Bool.{and_from}

-- ---- what is found

found_first : {A B : Type 0} (f : A → B) (x : A) (found : Bool) (rest : Option A) (moved : Option B) → moved ≡ option_map f rest
    → cond found (Some (f x)) moved ≡ option_map f (cond found (Some x) rest)
found_first f x true rest moved e = refl
found_first f x false rest moved e = e

-- a test that says of moved items what another says of the items
pub find_moved : {A B : Type 0} (f : A → B) (p : A → Bool) (q : B → Bool) → ((x : A) → q (f x) ≡ p x) → (xs : List A)
    → find q (map f xs) ≡ option_map f (find p xs)
find_moved f p q h [] = refl
find_moved f p q h (x ∷ xs) = ap (λ b. cond b (Some (f x)) (find q (map f xs))) (h x) ∙ found_first f x (p x) (find p xs) (find q (map f xs)) (find_moved f p q h xs)

-- a change of each item that the move takes along
pub change_moved : {A B : Type 0} (f : A → B) (g : A → A) (h : B → B) → ((x : A) → h (f x) ≡ f (g x)) → (xs : List A) → map h (map f xs) ≡ map f (map g xs)
change_moved f g h e [] = refl
change_moved f g h e (x ∷ xs) = λ i. e x i ∷ change_moved f g h e xs i

-- ---- what all items pass

module _ {A : Type 0} (p : A → Bool) where
  pub all_first : (x : A) (xs : List A) → IsTrue (list_all p (x ∷ xs)) → IsTrue (p x)
  all_first x xs h = first_so (p x) (list_all p xs) h

  pub all_rest : (x : A) (xs : List A) → IsTrue (list_all p (x ∷ xs)) → IsTrue (list_all p xs)
  all_rest x xs h = second_so (p x) (list_all p xs) h

  pub all_push : (x : A) (xs : List A) → IsTrue (p x) → IsTrue (list_all p xs) → IsTrue (list_all p (x ∷ xs))
  all_push x xs a b = and_from (p x) (list_all p xs) a b

  pub all_joined : (xs ys : List A) → IsTrue (list_all p xs) → IsTrue (list_all p ys) → IsTrue (list_all p (xs ++ ys))
  all_joined [] ys a b = b
  all_joined (x ∷ xs) ys a b = all_push x (xs ++ ys) (all_first x xs a) (all_joined xs ys (all_rest x xs a) b)

  pub all_at : (xs : List A) (n : ℕ) (x : A) → IsTrue (list_all p xs) → slice_get xs n ≡ Some x → IsTrue (p x)
  all_at [] n x a e = cc
  all_at (y ∷ xs) zero x a e = let f : y ≡ x = cc in ap p (sym f) ∙ all_first y xs a
  all_at (y ∷ xs) (suc n) x a e = all_at xs n x (all_rest y xs a) e

  pub all_set : (xs : List A) (n : ℕ) (x : A) → IsTrue (list_all p xs) → IsTrue (p x) → IsTrue (list_all p (set xs n x))
  all_set [] n x a b = refl
  all_set (y ∷ xs) zero x a b = all_push x xs b (all_rest y xs a)
  all_set (y ∷ xs) (suc n) x a b = all_push y (set xs n x) (all_first y xs a) (all_set xs n x (all_rest y xs a) b)

  pub all_drop : (n : ℕ) (xs : List A) → IsTrue (list_all p xs) → IsTrue (list_all p (drop n xs))
  all_drop zero xs a = a
  all_drop (suc n) [] a = refl
  all_drop (suc n) (x ∷ xs) a = all_drop n xs (all_rest x xs a)

  pub all_take : (n : ℕ) (xs : List A) → IsTrue (list_all p xs) → IsTrue (list_all p (take n xs))
  all_take zero xs a = refl
  all_take (suc n) [] a = refl
  all_take (suc n) (x ∷ xs) a = all_push x (take n xs) (all_first x xs a) (all_take n xs (all_rest x xs a))
