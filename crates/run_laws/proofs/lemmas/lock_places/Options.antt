-- What is known of parts where something is made of all of them.
use Rattle.std.proofs.Common.{◌≡◌, Bool, true, false, List, [], ◌∷◌, map, Option, Some, None, refl, subst, ◌∙◌}
use Rattle.std.specs.Prelude.{IsTrue, if◌then◌else◌}
use Rattle.std.specs.List.{list_all}
use Rattle.std.specs.Option.{option_map, option_and_then}
use Rattle.std.specs.Cmp.{first_so, second_so}
use Rattle.std.proofs.lemmas.Bool.{and_from}
use Rattle.rules.specs.step_rules.Closing.{front, all_of}

-- a look-up after another that gives something
pub record Through {A B : Type 0} (f : A → Option B) (o : Option A) (y : B) : Type 0 where
  pub x : A
  pub there : o ≡ Some x
  pub is : f x ≡ Some y

pub through_is : {A B : Type 0} (f : A → Option B) (o : Option A) (y : B) → option_and_then f o ≡ Some y → Through f o y
through_is f None y e = cc
through_is f (Some x) y e = record { x = x; there = refl; is = e }

pub record Made {A B : Type 0} (f : A → B) (o : Option A) (y : B) : Type 0 where
  pub x : A
  pub there : o ≡ Some x
  pub is : f x ≡ y

pub made_is : {A B : Type 0} (f : A → B) (o : Option A) (y : B) → option_map f o ≡ Some y → Made f o y
made_is f None y e = cc
made_is f (Some x) y e = record { x = x; there = refl; is = cc }

pub if_is : {A : Type 0} (b : Bool) (o : Option A) (y : A) → (if b then o else None) ≡ Some y → o ≡ Some y
if_is true o y e = e
if_is false o y e = cc

pub some_is : {A : Type 0} (P : A → Type 0) (x y : A) → Some x ≡ Some y → P x → P y
some_is P x y e h = let is : x ≡ y = cc in subst P is h

-- ---- all of some

front_moved : {B D : Type 0} (m : B → D) (o : Option B) (os : Option (List B)) → front (option_map m o) (option_map (map m) os) ≡ option_map (map m) (front o os)
front_moved m None None = refl
front_moved m None (Some xs) = refl
front_moved m (Some x) None = refl
front_moved m (Some x) (Some xs) = refl

pub front_moved_by : {B D : Type 0} (m : B → D) (o : Option B) (os : Option (List B)) (n : Option D) (ns : Option (List D)) → n ≡ option_map m o → ns ≡ option_map (map m) os → front n ns ≡ option_map (map m) (front o os)
front_moved_by m o os n ns e f = (λ i. front (e i) (f i)) ∙ front_moved m o os

pub all_of_moved : {A B C D : Type 0} (m : A → C) (n : B → D) (f : A → Option B) (g : C → Option D) (p : A → Bool) → ((x : A) → IsTrue (p x) → g (m x) ≡ option_map n (f x)) → (xs : List A) → IsTrue (list_all p xs)
    → all_of g (map m xs) ≡ option_map (map n) (all_of f xs)
all_of_moved m n f g p h [] k = refl
all_of_moved m n f g p h (x ∷ xs) k =
    front_moved_by n (f x) (all_of f xs) (g (m x)) (all_of g (map m xs)) (h x (first_so (p x) (list_all p xs) k)) (all_of_moved m n f g p h xs (second_so (p x) (list_all p xs) k))

pub front_kept : {B : Type 0} (q : B → Bool) (o : Option B) (os : Option (List B)) (ys : List B) → front o os ≡ Some ys → ((y : B) → o ≡ Some y → IsTrue (q y)) → ((zs : List B) → os ≡ Some zs → IsTrue (list_all q zs))
    → IsTrue (list_all q ys)
front_kept q None os ys e f g = cc
front_kept q (Some x) None ys e f g = cc
front_kept q (Some x) (Some xs) ys e f g = some_is (λ zs. IsTrue (list_all q zs)) (x ∷ xs) ys e (and_from (q x) (list_all q xs) (f x refl) (g xs refl))

pub all_of_kept : {A B : Type 0} (f : A → Option B) (p : A → Bool) (q : B → Bool) → ((x : A) (y : B) → IsTrue (p x) → f x ≡ Some y → IsTrue (q y)) → (xs : List A) (ys : List B) → IsTrue (list_all p xs) → all_of f xs ≡ Some ys → IsTrue (list_all q ys)
all_of_kept f p q h [] ys k e = some_is (λ zs. IsTrue (list_all q zs)) [] ys e refl
all_of_kept f p q h (x ∷ xs) ys k e =
    front_kept q (f x) (all_of f xs) ys e (λ y is. h x y (first_so (p x) (list_all p xs) k) is) (λ zs is. all_of_kept f p q h xs zs (second_so (p x) (list_all p xs) k) is)

-- ---- one of two

pub either : {A : Type 0} (P : A → Type 0) (b : Bool) (x y : A) → P x → P y → P (if b then x else y)
either P true x y p q = p
either P false x y p q = q
