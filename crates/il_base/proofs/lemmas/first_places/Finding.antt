-- A look-up by the first place of a key is a search for it.
use Rattle.std.proofs.Common.{◌≡◌, ℕ, suc, ◌+◌, ◌-◌, ◌≤◌, Bool, true, false, cond, eqb, List, [], ◌∷◌, map, Option, Some, None, refl, sym, ap, ◌∙◌, arith, inl, inr, eq-eqb}
use Rattle.std.specs.Prelude.{slice_get, find}
use Rattle.std.specs.List.{position_from}
use Rattle.std.proofs.lemmas.Bool.{cases_eq, ne_eqb}

eqb_comm : (a b : ℕ) → eqb a b ≡ eqb b a
eqb_comm a b = elim (cases_eq a b) [
  | inl e ↦ eq-eqb a b e ∙ sym (eq-eqb b a (sym e))
  | inr ne ↦ ne_eqb a b ne ∙ sym (ne_eqb b a (λ e. ne (sym e)))
]

-- the item at a place that was counted from i
abbrev pub item_from : {A : Type 0} → ℕ → List A → Option ℕ → Option A
item_from i xs None = None
item_from i xs (Some j) = slice_get xs (j - i)

le_at : (b : Bool) (i j : ℕ) (p : Option ℕ) → ((k : ℕ) → p ≡ Some k → i + 1 ≤ k) → cond b (Some i) p ≡ Some j → i ≤ j
le_at true i j p later e = let same : i ≡ j = cc in omega arith
le_at false i j p later e = let le : i + 1 ≤ j = later j e in omega arith

position_le : (t : ℕ → Bool) (i : ℕ) (xs : List ℕ) (j : ℕ) → position_from t i xs ≡ Some j → i ≤ j
position_le t i [] j e = absurd cc
position_le t i (x ∷ xs) j e = le_at (t x) i j (position_from t (i + 1) xs) (position_le t (i + 1) xs) e

shifted : {A : Type 0} (i : ℕ) (x : A) (xs : List A) (p : Option ℕ) → ((j : ℕ) → p ≡ Some j → i + 1 ≤ j) → item_from i (x ∷ xs) p ≡ item_from (i + 1) xs p
shifted i x xs None h = refl
shifted i x xs (Some j) h = let le : i + 1 ≤ j = h j refl in let k : j - i ≡ suc (j - (i + 1)) = omega arith in rw k refl

head_or_later : {A : Type 0} (b : Bool) (i : ℕ) (x : A) (xs : List A) (p : Option ℕ) → ((j : ℕ) → p ≡ Some j → i + 1 ≤ j) → (later : Option A) → later ≡ item_from (i + 1) xs p
    → cond b (Some x) later ≡ item_from i (x ∷ xs) (cond b (Some i) p)
head_or_later true i x xs p h later e = let none : i - i ≡ 0 = omega arith in rw none refl
head_or_later false i x xs p h later e = e ∙ sym (shifted i x xs p h)

-- the first item of a key
pub find_from : {A : Type 0} (key : A → ℕ) (q i : ℕ) (xs : List A) → find (λ x. eqb (key x) q) xs ≡ item_from i xs (position_from (eqb q) i (map key xs))
find_from key q i [] = refl
find_from key q i (x ∷ xs) =
    rw (eqb_comm (key x) q) (head_or_later (eqb q (key x)) i x xs (position_from (eqb q) (i + 1) (map key xs)) (position_le (eqb q) (i + 1) (map key xs)) (find (λ y. eqb (key y) q) xs) (find_from key q (i + 1) xs))

abbrev pub item_at : {A : Type 0} → List A → Option ℕ → Option A
item_at xs None = None
item_at xs (Some j) = slice_get xs j

from_start : {A : Type 0} (xs : List A) (p : Option ℕ) → item_from 0 xs p ≡ item_at xs p
from_start xs None = refl
from_start xs (Some j) = let same : j - 0 ≡ j = omega arith in rw same refl

pub find_first : {A : Type 0} (key : A → ℕ) (q : ℕ) (xs : List A) → find (λ x. eqb (key x) q) xs ≡ item_at xs (position_from (eqb q) 0 (map key xs))
find_first key q xs = find_from key q 0 xs ∙ from_start xs (position_from (eqb q) 0 (map key xs))

pub missing : {A : Type 0} (key : A → ℕ) (q : ℕ) (xs : List A) (p : Option ℕ) → p ≡ position_from (eqb q) 0 (map key xs) → None ≡ p → None ≡ find (λ x. eqb (key x) q) xs
missing key q xs p first none = ap (λ (o : Option ℕ). item_at xs o) (none ∙ first) ∙ sym (find_first key q xs)

pub present : {A : Type 0} (key : A → ℕ) (q j : ℕ) (xs : List A) (p : Option ℕ) (found : Option A) → p ≡ position_from (eqb q) 0 (map key xs) → Some j ≡ p → found ≡ slice_get xs j
    → found ≡ find (λ x. eqb (key x) q) xs
present key q j xs p found first some e = e ∙ ap (λ (o : Option ℕ). item_at xs o) (some ∙ first) ∙ sym (find_first key q xs)
