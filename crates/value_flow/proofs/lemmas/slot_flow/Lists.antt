-- What lists contain that are made of lists.
use Rattle.std.proofs.Common.{◌≡◌, ℕ, zero, suc, cond, drop, get_or, drop-cons, add-one, ◌+◌, ◌<◌, List, [], ◌∷◌, ◌++◌, map, length, arith, refl, sym, ap, ◌∙◌, subst, ◌⊎◌, inl, inr, Bool, true, false}
use Rattle.std.specs.Prelude.{Some, slice_get}
use Rattle.std.specs.List.{Contains, filter, flat_map}
use Rattle.std.proofs.lemmas.Option.{slice_get-get_or, slice_get_within, get_or_from_slice_get}
use Rattle.std.proofs.lemmas.List.Elements.{Contains-append_left, Contains-append_right, Contains-append_cases}
use Rattle.rules.specs.flow_rules.Carrying.{only_if}
use Rattle.value_flow.specs.slot_flow.Facts.{numbered}

pub tail_contains : {A : Type 0} (x : A) (xs : List A) (y : A) → Contains xs y → Contains (x ∷ xs) y
tail_contains x xs y (k, inside, e) = (suc k, omega arith, e)

-- an item at a place

pub record Placed {A : Type 0} (xs : List A) (x : A) : Type 0 where
  pub place : ℕ
  pub there : slice_get xs place ≡ Some x

pub placed : {A : Type 0} (xs : List A) (x : A) → Contains xs x → Placed xs x
placed {A} xs x (k, inside, e) = record { place = k; there = slice_get-get_or xs k x inside ∙ ap (λ (y : A). Some y) e }

pub contained : {A : Type 0} (xs : List A) (n : ℕ) (x : A) → slice_get xs n ≡ Some x → Contains xs x
contained xs n x e = (n, slice_get_within xs n x e, get_or_from_slice_get xs n x x e)

-- at most one item

pub from_only : {A : Type 0} (b : Bool) (x y : A) → Contains (only_if b x) y → (b ≡ true) × (x ≡ y)
from_only true x y (zero, inside, e) = (refl, e)
from_only true x y (suc k, inside, e) = absurd (omega arith)
from_only false x y (k, inside, e) = absurd (omega arith)

pub to_only : {A : Type 0} (b : Bool) (x y : A) → b ≡ true → x ≡ y → Contains (only_if b x) y
to_only true x y e g = (0, omega arith, g)
to_only false x y e g = absurd (cc)

-- joined lists

pub record Among {A B : Type 0} (g : A → List B) (xs : List A) (y : B) : Type 0 where
  pub place : ℕ
  pub item : A
  pub there : slice_get xs place ≡ Some item
  pub inside : Contains (g item) y

next_among : {A B : Type 0} (g : A → List B) (x : A) (xs : List A) (y : B) → Among g xs y → Among g (x ∷ xs) y
next_among g x xs y a = record { place = suc a.place; item = a.item; there = a.there; inside = a.inside }

joined_among : {A B : Type 0} (g : A → List B) (x : A) (xs : List A) (y : B) → (Contains (flat_map g xs) y → Among g xs y) → Contains (g x) y ⊎ Contains (flat_map g xs) y
    → Among g (x ∷ xs) y
joined_among g x xs y next (inl h) = record { place = 0; item = x; there = refl; inside = h }
joined_among g x xs y next (inr h) = next_among g x xs y (next h)

pub from_flat : {A B : Type 0} (g : A → List B) (xs : List A) (y : B) → Contains (flat_map g xs) y → Among g xs y
from_flat g [] y (k, inside, e) = absurd (omega arith)
from_flat g (x ∷ xs) y t = joined_among g x xs y (from_flat g xs y) (Contains-append_cases (g x) (flat_map g xs) y t)

pub to_flat : {A B : Type 0} (g : A → List B) (xs : List A) (n : ℕ) (x : A) (y : B) → slice_get xs n ≡ Some x → Contains (g x) y → Contains (flat_map g xs) y
to_flat g [] n x y e t = absurd (cc)
to_flat {A} {B} g (z ∷ xs) zero x y e t =
    let same : z ≡ x = cc in Contains-append_left (g z) (flat_map g xs) y (subst (λ (w : A). Contains (g w) y) (sym same) t)
to_flat g (z ∷ xs) (suc n) x y e t = Contains-append_right (g z) (flat_map g xs) y (to_flat g xs n x y e t)

-- joined lists that know their places

pub record AmongNumbered {A B : Type 0} (say : ℕ → A → List B) (k : ℕ) (xs : List A) (y : B) : Type 0 where
  pub place : ℕ
  pub item : A
  pub there : slice_get xs place ≡ Some item
  pub inside : Contains (say (k + place) item) y

next_numbered : {A B : Type 0} (say : ℕ → A → List B) (k : ℕ) (x : A) (xs : List A) (y : B) → AmongNumbered say (k + 1) xs y → AmongNumbered say k (x ∷ xs) y
next_numbered {A} {B} say k x xs y a =
    let e : k + 1 + a.place ≡ k + suc a.place = omega arith in
    record { place = suc a.place; item = a.item; there = a.there; inside = subst (λ (n : ℕ). Contains (say n a.item) y) e a.inside }

joined_numbered : {A B : Type 0} (say : ℕ → A → List B) (k : ℕ) (x : A) (xs : List A) (y : B) → (Contains (numbered say (k + 1) xs) y → AmongNumbered say (k + 1) xs y)
    → Contains (say k x) y ⊎ Contains (numbered say (k + 1) xs) y → AmongNumbered say k (x ∷ xs) y
joined_numbered {A} {B} say k x xs y next (inl h) =
    let e : k ≡ k + 0 = omega arith in record { place = 0; item = x; there = refl; inside = subst (λ (n : ℕ). Contains (say n x) y) e h }
joined_numbered say k x xs y next (inr h) = next_numbered say k x xs y (next h)

pub from_numbered : {A B : Type 0} (say : ℕ → A → List B) (k : ℕ) (xs : List A) (y : B) → Contains (numbered say k xs) y → AmongNumbered say k xs y
from_numbered say k [] y (n, inside, e) = absurd (omega arith)
from_numbered say k (x ∷ xs) y t = joined_numbered say k x xs y (from_numbered say (k + 1) xs y) (Contains-append_cases (say k x) (numbered say (k + 1) xs) y t)

pub to_numbered : {A B : Type 0} (say : ℕ → A → List B) (k : ℕ) (xs : List A) (n : ℕ) (x : A) (y : B) → slice_get xs n ≡ Some x → Contains (say (k + n) x) y
    → Contains (numbered say k xs) y
to_numbered say k [] n x y e t = absurd (cc)
to_numbered {A} {B} say k (z ∷ xs) zero x y e t =
    let same : z ≡ x = cc in
    let f : k + 0 ≡ k = omega arith in
    Contains-append_left (say k z) (numbered say (k + 1) xs) y (subst (λ (w : A). Contains (say k w) y) (sym same) (subst (λ (n : ℕ). Contains (say n x) y) f t))
to_numbered {A} {B} say k (z ∷ xs) (suc n) x y e t =
    let f : k + suc n ≡ k + 1 + n = omega arith in
    Contains-append_right (say k z) (numbered say (k + 1) xs) y (to_numbered say (k + 1) xs n x y e (subst (λ (m : ℕ). Contains (say m x) y) f t))

-- images and parts

pub from_map : {A B : Type 0} (f : A → B) (xs : List A) (y : B) → Contains (map f xs) y → (x : A) × Contains xs x × (f x ≡ y)
from_map f [] y (k, inside, e) = absurd (omega arith)
from_map f (x ∷ xs) y (zero, inside, e) = (x, (0, omega arith, refl), e)
from_map {A} {B} f (x ∷ xs) y (suc k, inside, e) =
    let r : (z : A) × Contains xs z × (f z ≡ y) = from_map f xs y (k, omega arith, e) in (r.0, tail_contains x xs r.0 r.1, r.2)

filtered_by : {A : Type 0} (p : A → Bool) (x : A) (xs : List A) (y : A) (b : Bool) → (Contains (filter p xs) y → Contains xs y)
    → Contains (cond b (x ∷ filter p xs) (filter p xs)) y → Contains (x ∷ xs) y
filtered_by p x xs y true next (zero, inside, e) = (0, omega arith, e)
filtered_by p x xs y true next (suc k, inside, e) = tail_contains x xs y (next (k, omega arith, e))
filtered_by p x xs y false next t = tail_contains x xs y (next t)

pub from_filter : {A : Type 0} (p : A → Bool) (xs : List A) (y : A) → Contains (filter p xs) y → Contains xs y
from_filter p [] y t = t
from_filter p (x ∷ xs) y t = filtered_by p x xs y (p x) (from_filter p xs y) t

-- one item more, as in a loop

pub numbered_step : {A B : Type 0} (say : ℕ → A → List B) (xs : List A) (i : ℕ) (d : A) → i < length xs
    → numbered say i (drop i xs) ≡ say i (get_or xs i d) ++ numbered say (i + 1) (drop (i + 1) xs)
numbered_step say xs i d h =
    ap (numbered say i) (drop-cons xs i d h) ∙ ap (λ (n : ℕ). say i (get_or xs i d) ++ numbered say (i + 1) (drop n xs)) (sym (add-one i))
