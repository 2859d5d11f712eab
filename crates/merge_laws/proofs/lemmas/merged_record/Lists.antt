-- What lists contain that are made of lists, of options and of the rows of all inputs.
use Rattle.std.proofs.Common.{◌≡◌, ◌<◌, ◌≤◌, ℕ, zero, suc, ◌+◌, List, [], ◌∷◌, ◌++◌, length, map, Bool, true, false, ◌⊎◌, inl, inr, Option, Some, None, refl, sym, ap, subst, ◌∙◌, arith}
use Rattle.std.specs.Prelude.{slice_get, if◌then◌else◌}
use Rattle.std.specs.List.{Contains, flat_map, filter}
use Rattle.std.specs.Option.{option_map, option_and_then}
use Rattle.std.proofs.lemmas.List.{length-append}
use Rattle.std.proofs.lemmas.List.Elements.{Contains-append_left, Contains-append_right, Contains-append_cases}
use Rattle.il_base.specs.declared.world_model.record.AsmRec.{AsmRec}
use Rattle.rules.specs.link_rules.Cycles.{listed}
use Rattle.rules.specs.type_rules.Rows.{each_from}
use Rattle.rules.specs.merge_rules.Numbers.{inputs_from, inputs}
use Rattle.rules.specs.merge_rules.Rows.{all_rows}

pub none_in : {A : Type 0} (x : A) → Contains [] x → ⊥
none_in x (k, inside, e) = omega arith

pub first_in : {A : Type 0} (x : A) (xs : List A) → Contains (x ∷ xs) x
first_in x xs = (0, omega arith, refl)

pub later_in : {A : Type 0} (x : A) (xs : List A) (y : A) → Contains xs y → Contains (x ∷ xs) y
later_in x xs y (k, inside, e) = (suc k, omega arith, e)

pub one_is : {A : Type 0} (x y : A) → Contains (x ∷ []) y → x ≡ y
one_is x y (zero, inside, e) = e
one_is x y (suc k, inside, e) = absurd (omega arith)

pub head_or : {A : Type 0} (x : A) (xs : List A) (y : A) → Contains (x ∷ xs) y → (x ≡ y) ⊎ Contains xs y
head_or x xs y (zero, inside, e) = inl e
head_or x xs y (suc k, inside, e) = inr (k, omega arith, e)

pub place_in : {A : Type 0} (xs : List A) (k : ℕ) (x : A) → slice_get xs k ≡ Some x → Contains xs x
place_in [] k x e = absurd (cc)
place_in {A} (y ∷ xs) zero x e = let same : y ≡ x = cc in subst (λ (z : A). Contains (y ∷ xs) z) same (first_in y xs)
place_in (y ∷ xs) (suc k) x e = later_in y xs x (place_in xs k x e)

pub below_length : {A : Type 0} (xs : List A) (k : ℕ) (x : A) → slice_get xs k ≡ Some x → k < length xs
below_length [] k x e = absurd (cc)
below_length (y ∷ xs) zero x e = omega arith
below_length (y ∷ xs) (suc k) x e = let lt = below_length xs k x e in omega arith

pub row_below : {A : Type 0} (xs : List A) (k : ℕ) → k < length xs → (x : A) × (slice_get xs k ≡ Some x)
row_below [] k lt = absurd (omega arith)
row_below (y ∷ xs) zero lt = (y, refl)
row_below (y ∷ xs) (suc k) lt = row_below xs k (omega arith)

-- ---- joined lists

pub record In {A B : Type 0} (g : A → List B) (xs : List A) (y : B) : Type 0 where
  pub item : A
  pub there : Contains xs item
  pub inside : Contains (g item) y

pub to_flat : {A B : Type 0} (g : A → List B) (xs : List A) (y : B) → In g xs y → Contains (flat_map g xs) y
to_flat g [] y i = absurd (none_in i.item i.there)
to_flat {A} {B} g (x ∷ xs) y i =
    elim (head_or x xs i.item i.there) [
      | inl e ↦ Contains-append_left (g x) (flat_map g xs) y (subst (λ (z : A). Contains (g z) y) (sym e) i.inside)
      | inr t ↦ Contains-append_right (g x) (flat_map g xs) y (to_flat g xs y (record { item = i.item; there = t; inside = i.inside }))
    ]

pub from_flat : {A B : Type 0} (g : A → List B) (xs : List A) (y : B) → Contains (flat_map g xs) y → In g xs y
from_flat g [] y c = absurd (none_in y c)
from_flat g (x ∷ xs) y c =
    elim (Contains-append_cases (g x) (flat_map g xs) y c) [
      | inl t ↦ record { item = x; there = first_in x xs; inside = t }
      | inr t ↦ let r = from_flat g xs y t in record { item = r.item; there = later_in x xs r.item r.there; inside = r.inside }
    ]

pub from_map : {A B : Type 0} (f : A → B) (xs : List A) (y : B) → Contains (map f xs) y → (x : A) × Contains xs x × (f x ≡ y)
from_map f [] y c = absurd (none_in y c)
from_map f (x ∷ xs) y c =
    elim (head_or (f x) (map f xs) y c) [
      | inl e ↦ (x, first_in x xs, e)
      | inr t ↦ let r = from_map f xs y t in (r.0, later_in x xs r.0 r.1, r.2)
    ]

-- each item gives one
pub flat_length : {A B : Type 0} (g : A → List B) (xs : List A) → ((x : A) → Contains xs x → length (g x) ≡ 1) → length (flat_map g xs) ≡ length xs
flat_length g [] one = refl
flat_length g (x ∷ xs) one =
    let more = flat_length g xs (λ y c. one y (later_in x xs y c)) in
    let here = one x (first_in x xs) in
    let both = length-append (g x) (flat_map g xs) in
    omega arith

-- ---- options and tests

pub from_listed : {A : Type 0} (o : Option A) (x : A) → Contains (listed o) x → o ≡ Some x
from_listed None x c = absurd (none_in x c)
from_listed (Some y) x c = ap Some (one_is y x c)

pub to_listed : {A : Type 0} (o : Option A) (x : A) → o ≡ Some x → Contains (listed o) x
to_listed {A} o x e = subst (λ (p : Option A). Contains (listed p) x) (sym e) (first_in x [])

pub from_option : {A B : Type 0} (g : A → List B) (o : Option A) (y : B) → Contains (flat_map g (listed o)) y → (x : A) × (o ≡ Some x) × Contains (g x) y
from_option g o y c = let r = from_flat g (listed o) y c in (r.item, from_listed o r.item r.there, r.inside)

pub from_if : {A : Type 0} (b : Bool) (xs : List A) (y : A) → Contains (if b then xs else []) y → (b ≡ true) × Contains xs y
from_if true xs y c = (refl, c)
from_if false xs y c = absurd (none_in y c)

pub and_then_some : {A B : Type 0} (f : A → Option B) (o : Option A) (y : B) → option_and_then f o ≡ Some y → (x : A) × (o ≡ Some x) × (f x ≡ Some y)
and_then_some f None y e = absurd (cc)
and_then_some f (Some x) y e = (x, refl, e)

pub map_some : {A B : Type 0} (f : A → B) (o : Option A) (y : B) → option_map f o ≡ Some y → (x : A) × (o ≡ Some x) × (f x ≡ y)
map_some f None y e = absurd (cc)
map_some f (Some x) y e = (x, refl, cc)

filter_by : {A : Type 0} (b : Bool) (p : A → Bool) (y : A) (ys : List A) (x : A) → p y ≡ b → (Contains ys x → Contains (y ∷ ys) x) → Contains (if b then y ∷ filter p ys else filter p ys) x
    → (Contains (filter p ys) x → Contains ys x × (p x ≡ true)) → Contains (y ∷ ys) x × (p x ≡ true)
filter_by true p y ys x e step c next =
    elim (head_or y (filter p ys) x c) [
      | inl same ↦ subst (λ z. Contains (y ∷ ys) z × (p z ≡ true)) same (first_in y ys, e)
      | inr t ↦ let r = next t in (step r.0, r.1)
    ]
filter_by false p y ys x e step c next = let r = next c in (step r.0, r.1)

pub from_filter : {A : Type 0} (p : A → Bool) (xs : List A) (x : A) → Contains (filter p xs) x → Contains xs x × (p x ≡ true)
from_filter p [] x c = absurd (none_in x c)
from_filter p (y ∷ ys) x c = filter_by (p y) p y ys x refl (later_in y ys x) c (from_filter p ys x)

-- ---- rows with their numbers

pub record Numbered {A B : Type 0} (f : ℕ → A → List B) (i : ℕ) (xs : List A) (y : B) : Type 0 where
  pub place : ℕ
  pub item : A
  pub there : slice_get xs place ≡ Some item
  pub inside : Contains (f (i + place) item) y

pub from_each : {A B : Type 0} (f : ℕ → A → List B) (i : ℕ) (xs : List A) (y : B) → Contains (each_from f i xs) y → Numbered f i xs y
from_each f i [] y c = absurd (none_in y c)
from_each {A} {B} f i (x ∷ xs) y c =
    elim (Contains-append_cases (f i x) (each_from f (suc i) xs) y c) [
      | inl t ↦ let n : i ≡ i + 0 = omega arith in record { place = 0; item = x; there = refl; inside = subst (λ (k : ℕ). Contains (f k x) y) n t }
      | inr t ↦
          let r = from_each f (suc i) xs y t in
          let n : suc i + r.place ≡ i + suc r.place = omega arith in
          record { place = suc r.place; item = r.item; there = r.there; inside = subst (λ (k : ℕ). Contains (f k r.item) y) n r.inside }
    ]

-- ---- inputs

pub record IsInput (a : ℕ) (recs : List AsmRec) (x : ℕ × AsmRec) : Type 0 where
  pub place : ℕ
  pub number : a + place ≡ x.0
  pub there : slice_get recs place ≡ Some x.1
  pub within : suc place < length recs

pub from_inputs : (a : ℕ) (recs : List AsmRec) (x : ℕ × AsmRec) → Contains (inputs_from a recs) x → IsInput a recs x
from_inputs a [] x c = absurd (none_in x c)
from_inputs a (rec ∷ []) x c = absurd (none_in x c)
from_inputs a (rec ∷ next ∷ recs) x c =
    elim (head_or (a, rec) (inputs_from (suc a) (next ∷ recs)) x c) [
      | inl e ↦
          let n : a ≡ x.0 = ap (λ (y : ℕ × AsmRec). y.0) e in
          let r : rec ≡ x.1 = ap (λ (y : ℕ × AsmRec). y.1) e in
          record { place = 0; number = omega arith; there = ap Some r; within = omega arith }
      | inr t ↦ let r = from_inputs (suc a) (next ∷ recs) x t in let n = r.number in let w = r.within in record { place = suc r.place; number = omega arith; there = r.there; within = omega arith }
    ]

pub record OfInput (recs : List AsmRec) (a : ℕ) (rec : AsmRec) : Type 0 where
  pub there : slice_get recs a ≡ Some rec
  pub within : suc a < length recs

pub an_input : (recs : List AsmRec) (x : ℕ × AsmRec) → Contains (inputs recs) x → OfInput recs x.0 x.1
an_input recs x c =
    let i = from_inputs 0 recs x c in
    let n : i.place ≡ x.0 = let m = i.number in omega arith in
    let w = i.within in
    record { there = subst (λ (k : ℕ). slice_get recs k ≡ Some x.1) n i.there; within = omega arith }

-- what a row of an input gives
pub record OfRow {R B : Type 0} (rows : AsmRec → List R) (f : ℕ → AsmRec → ℕ → R → List B) (recs : List AsmRec) (y : B) : Type 0 where
  pub asm : ℕ
  pub rec : AsmRec
  pub input : OfInput recs asm rec
  pub place : ℕ
  pub row : R
  pub there : slice_get (rows rec) place ≡ Some row
  pub inside : Contains (f asm rec place row) y

pub from_all : {R B : Type 0} (rows : AsmRec → List R) (f : ℕ → AsmRec → ℕ → R → List B) (recs : List AsmRec) (y : B) → Contains (all_rows rows f recs) y → OfRow rows f recs y
from_all {R} {B} rows f recs y c =
    let r = from_flat (λ (x : ℕ × AsmRec). each_from (f x.0 x.1) 0 (rows x.1)) (inputs recs) y c in
    let k = from_each (f r.item.0 r.item.1) 0 (rows r.item.1) y r.inside in
    let n : 0 + k.place ≡ k.place = omega arith in
    record { asm = r.item.0; rec = r.item.1; input = an_input recs r.item r.there; place = k.place; row = k.item; there = k.there; inside = subst (λ (j : ℕ). Contains (f r.item.0 r.item.1 j k.item) y) n k.inside }
