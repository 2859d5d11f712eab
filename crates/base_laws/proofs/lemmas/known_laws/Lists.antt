-- What lists contain that are made of lists and options.
use Rattle.std.proofs.Common.{◌≡◌, ℕ, zero, suc, ◌+◌, List, [], ◌∷◌, ◌++◌, map, Bool, true, false, ◌⊎◌, inl, inr, Option, Some, None, refl, sym, ap, subst, ◌∙◌, arith}
use Rattle.std.specs.Prelude.{slice_get, ◌||◌, if◌then◌else◌}
use Rattle.std.specs.List.{Contains, flat_map, list_any}
use Rattle.std.specs.Option.{option_map, option_and_then}
use Rattle.std.proofs.lemmas.List.Elements.{Contains-append_left, Contains-append_right, Contains-append_cases}
use Rattle.rules.specs.link_rules.Cycles.{listed}
use Rattle.rules.specs.type_rules.Rows.{each_from}

pub none_in : {A : Type 0} (x : A) → Contains [] x → ⊥
none_in x (k, inside, e) = omega arith

pub first_in : {A : Type 0} (x : A) (xs : List A) → Contains (x ∷ xs) x
first_in x xs = (0, omega arith, refl)

pub later_in : {A : Type 0} (x : A) (xs : List A) (y : A) → Contains xs y → Contains (x ∷ xs) y
later_in x xs y (k, inside, e) = (suc k, omega arith, e)

pub one_is : {A : Type 0} (x y : A) → Contains (x ∷ []) y → x ≡ y
one_is x y (zero, inside, e) = e
one_is x y (suc k, inside, e) = absurd (omega arith)

pub head_or : {A : Type 0} (x : A) (xs : List A) (y : A) → Contains (x ∷ xs) y → (x ≡ y) ⊎ Contains xs y
head_or x xs y (zero, inside, e) = inl e
head_or x xs y (suc k, inside, e) = inr (k, omega arith, e)

-- ---- joined lists

pub record In {A B : Type 0} (g : A → List B) (xs : List A) (y : B) : Type 0 where
  pub item : A
  pub there : Contains xs item
  pub inside : Contains (g item) y

pub to_flat : {A B : Type 0} (g : A → List B) (xs : List A) (y : B) → In g xs y → Contains (flat_map g xs) y
to_flat g [] y i = absurd (none_in i.item i.there)
to_flat {A} {B} g (x ∷ xs) y i =
    elim (head_or x xs i.item i.there) [
      | inl e ↦ Contains-append_left (g x) (flat_map g xs) y (subst (λ (z : A). Contains (g z) y) (sym e) i.inside)
      | inr t ↦ Contains-append_right (g x) (flat_map g xs) y (to_flat g xs y (record { item = i.item; there = t; inside = i.inside }))
    ]

pub from_flat : {A B : Type 0} (g : A → List B) (xs : List A) (y : B) → Contains (flat_map g xs) y → In g xs y
from_flat g [] y c = absurd (none_in y c)
from_flat g (x ∷ xs) y c =
    elim (Contains-append_cases (g x) (flat_map g xs) y c) [
      | inl t ↦ record { item = x; there = first_in x xs; inside = t }
      | inr t ↦ let r = from_flat g xs y t in record { item = r.item; there = later_in x xs r.item r.there; inside = r.inside }
    ]

pub from_map : {A B : Type 0} (f : A → B) (xs : List A) (y : B) → Contains (map f xs) y → (x : A) × Contains xs x × (f x ≡ y)
from_map f [] y c = absurd (none_in y c)
from_map f (x ∷ xs) y c =
    elim (head_or (f x) (map f xs) y c) [
      | inl e ↦ (x, first_in x xs, e)
      | inr t ↦ let r = from_map f xs y t in (r.0, later_in x xs r.0 r.1, r.2)
    ]

pub to_map : {A B : Type 0} (f : A → B) (xs : List A) (x : A) → Contains xs x → Contains (map f xs) (f x)
to_map f [] x c = absurd (none_in x c)
to_map {A} {B} f (y ∷ xs) x c =
    elim (head_or y xs x c) [
      | inl e ↦ subst (λ (z : A). Contains (f y ∷ map f xs) (f z)) e (first_in (f y) (map f xs))
      | inr t ↦ later_in (f y) (map f xs) (f x) (to_map f xs x t)
    ]

-- ---- options and tests

pub from_listed : {A : Type 0} (o : Option A) (x : A) → Contains (listed o) x → o ≡ Some x
from_listed None x c = absurd (none_in x c)
from_listed (Some y) x c = ap Some (one_is y x c)

pub to_listed : {A : Type 0} (o : Option A) (x : A) → o ≡ Some x → Contains (listed o) x
to_listed {A} o x e = subst (λ (p : Option A). Contains (listed p) x) (sym e) (first_in x [])

pub from_option : {A B : Type 0} (g : A → List B) (o : Option A) (y : B) → Contains (flat_map g (listed o)) y → (x : A) × (o ≡ Some x) × Contains (g x) y
from_option g o y c = let r = from_flat g (listed o) y c in (r.item, from_listed o r.item r.there, r.inside)

pub to_option : {A B : Type 0} (g : A → List B) (o : Option A) (x : A) (y : B) → o ≡ Some x → Contains (g x) y → Contains (flat_map g (listed o)) y
to_option g o x y e c = to_flat g (listed o) y (record { item = x; there = to_listed o x e; inside = c })

pub from_if : {A : Type 0} (b : Bool) (xs : List A) (y : A) → Contains (if b then xs else []) y → (b ≡ true) × Contains xs y
from_if true xs y c = (refl, c)
from_if false xs y c = absurd (none_in y c)

pub to_if : {A : Type 0} (b : Bool) (xs : List A) (y : A) → b ≡ true → Contains xs y → Contains (if b then xs else []) y
to_if true xs y e c = c
to_if false xs y e c = absurd (cc)

any_by : {A : Type 0} (p : A → Bool) (x : A) (xs : List A) → (list_any p xs ≡ true → (y : A) × Contains xs y × (p y ≡ true)) → (b : Bool) → p x ≡ b → (b || list_any p xs) ≡ true
    → (y : A) × Contains (x ∷ xs) y × (p y ≡ true)
any_by p x xs next true s f = (x, first_in x xs, s)
any_by p x xs next false s f = let r = next f in (r.0, later_in x xs r.0 r.1, r.2)

pub from_any : {A : Type 0} (p : A → Bool) (xs : List A) → list_any p xs ≡ true → (x : A) × Contains xs x × (p x ≡ true)
from_any p [] e = absurd (cc)
from_any p (x ∷ xs) e = any_by p x xs (from_any p xs) (p x) refl e

or_true : (b c : Bool) → c ≡ true → (b || c) ≡ true
or_true true c h = refl
or_true false c h = h

pub to_any : {A : Type 0} (p : A → Bool) (xs : List A) (x : A) → Contains xs x → p x ≡ true → list_any p xs ≡ true
to_any p [] x c e = absurd (none_in x c)
to_any {A} p (y ∷ xs) x c e =
    elim (head_or y xs x c) [
      | inl s ↦ let h : p y ≡ true = ap p s ∙ e in rw h refl
      | inr t ↦ or_true (p y) (list_any p xs) (to_any p xs x t e)
    ]

pub and_then_some : {A B : Type 0} (f : A → Option B) (o : Option A) (y : B) → option_and_then f o ≡ Some y → (x : A) × (o ≡ Some x) × (f x ≡ Some y)
and_then_some f None y e = absurd (cc)
and_then_some f (Some x) y e = (x, refl, e)

pub map_some : {A B : Type 0} (f : A → B) (o : Option A) (y : B) → option_map f o ≡ Some y → (x : A) × (o ≡ Some x) × (f x ≡ y)
map_some f None y e = absurd (cc)
map_some f (Some x) y e = (x, refl, cc)

-- ---- rows with their numbers

pub record Numbered {A B : Type 0} (f : ℕ → A → List B) (i : ℕ) (xs : List A) (y : B) : Type 0 where
  pub place : ℕ
  pub item : A
  pub there : slice_get xs place ≡ Some item
  pub inside : Contains (f (i + place) item) y

pub from_each : {A B : Type 0} (f : ℕ → A → List B) (i : ℕ) (xs : List A) (y : B) → Contains (each_from f i xs) y → Numbered f i xs y
from_each f i [] y c = absurd (none_in y c)
from_each {A} {B} f i (x ∷ xs) y c =
    elim (Contains-append_cases (f i x) (each_from f (suc i) xs) y c) [
      | inl t ↦ let n : i ≡ i + 0 = omega arith in record { place = 0; item = x; there = refl; inside = subst (λ (k : ℕ). Contains (f k x) y) n t }
      | inr t ↦
          let r = from_each f (suc i) xs y t in
          let n : suc i + r.place ≡ i + suc r.place = omega arith in
          record { place = suc r.place; item = r.item; there = r.there; inside = subst (λ (k : ℕ). Contains (f k r.item) y) n r.inside }
    ]

each_at : {A B : Type 0} (f : ℕ → A → List B) (i : ℕ) (x : A) (xs : List A) (y : B) (item : A) → (Numbered f (suc i) xs y → Contains (each_from f (suc i) xs) y) → (k : ℕ)
    → slice_get (x ∷ xs) k ≡ Some item → Contains (f (i + k) item) y → Contains (f i x ++ each_from f (suc i) xs) y
each_at {A} {B} f i x xs y item next zero e t =
    let same : item ≡ x = cc in
    let z : i + 0 ≡ i = omega arith in
    Contains-append_left (f i x) (each_from f (suc i) xs) y (subst (λ (z : A). Contains (f i z) y) same (subst (λ (k : ℕ). Contains (f k item) y) z t))
each_at {A} {B} f i x xs y item next (suc k) e t =
    let z : i + suc k ≡ suc i + k = omega arith in
    Contains-append_right (f i x) (each_from f (suc i) xs) y (next (record { place = k; item = item; there = e; inside = subst (λ (k : ℕ). Contains (f k item) y) z t }))

none_there : {A : Type 0} (k : ℕ) (x : A) → slice_get [] k ≡ Some x → ⊥
none_there k x e = cc

pub to_each : {A B : Type 0} (f : ℕ → A → List B) (i : ℕ) (xs : List A) (y : B) → Numbered f i xs y → Contains (each_from f i xs) y
to_each f i [] y n = absurd (none_there n.place n.item n.there)
to_each f i (x ∷ xs) y n = each_at f i x xs y n.item (to_each f (suc i) xs y) n.place n.there n.inside
