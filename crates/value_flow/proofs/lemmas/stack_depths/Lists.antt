-- What a list contains, and what is there in its image.
use Rattle.std.proofs.Common.{◌≡◌, ℕ, zero, suc, List, [], ◌∷◌, map, arith, refl}
use Rattle.std.specs.Prelude.{Some, slice_get}
use Rattle.std.specs.List.{Contains}

pub tail_contains : {A : Type 0} (x : A) (xs : List A) (y : A) → Contains xs y → Contains (x ∷ xs) y
tail_contains x xs y (k, inside, e) = (suc k, omega arith, e)

pub mapped : {A B : Type 0} (f : A → B) (xs : List A) (n : ℕ) (x : A) → slice_get xs n ≡ Some x → Contains (map f xs) (f x)
mapped f [] n x e = cc
mapped f (y ∷ xs) zero x e = (0, omega arith, cc)
mapped f (y ∷ xs) (suc n) x e = tail_contains (f y) (map f xs) (f x) (mapped f xs n x e)

-- an item of a list that a function takes to this
pub record Source {A B : Type 0} (f : A → B) (xs : List A) (y : B) : Type 0 where
  pub place : ℕ
  pub item : A
  pub there : slice_get xs place ≡ Some item
  pub taken : f item ≡ y

next_source : {A B : Type 0} (f : A → B) (x : A) (xs : List A) (y : B) → Source f xs y → Source f (x ∷ xs) y
next_source f x xs y s = record { place = suc s.place; item = s.item; there = s.there; taken = s.taken }

pub unmapped : {A B : Type 0} (f : A → B) (xs : List A) (y : B) → Contains (map f xs) y → Source f xs y
unmapped f [] y (k, inside, e) = absurd (omega arith)
unmapped f (x ∷ xs) y (zero, inside, e) = record { place = 0; item = x; there = refl; taken = e }
unmapped f (x ∷ xs) y (suc k, inside, e) = next_source f x xs y (unmapped f xs y (k, omega arith, e))
