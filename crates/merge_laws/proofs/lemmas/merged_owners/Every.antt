-- What is so of each element of lists that are made of other lists.
use Rattle.std.proofs.Common.{◌≡◌, ℕ, ◌+◌, List, [], ◌∷◌, ◌++◌, map, Bool, true, false, Option, Some, None, inl, inr, refl, subst, arith}
use Rattle.std.specs.Prelude.{slice_get, if◌then◌else◌}
use Rattle.std.specs.List.{Contains, flat_map, filter, list_any}
use Rattle.std.proofs.lemmas.List.Elements.{Contains-append_cases}
use Rattle.rules.specs.link_rules.Cycles.{listed}
use Rattle.rules.specs.type_rules.Rows.{each_row}
use Rattle.base_laws.proofs.lemmas.known_laws.Lists.{none_in, one_is, head_or, from_flat, from_map, from_listed, from_option, from_each}
use Rattle.merge_laws.proofs.lemmas.merged_record.Lists.{from_filter}

pub record Every {A : Type 0} (P : A → Type 0) (xs : List A) : Type 0 where
  pub each : (x : A) → Contains xs x → P x

module _ {A : Type 0} (P : A → Type 0) where
  pub all_none : Every P []
  all_none = record { each = λ x c. absurd (none_in x c) }

  pub all_more : (x : A) (xs : List A) → P x → Every P xs → Every P (x ∷ xs)
  all_more x xs h t = record { each = λ y c. elim (head_or x xs y c) [ inl e ↦ subst P e h | inr d ↦ t.each y d ] }

  pub all_one : (x : A) → P x → Every P (x ∷ [])
  all_one x h = record { each = λ y c. subst P (one_is x y c) h }

  pub all_join : (xs ys : List A) → Every P xs → Every P ys → Every P (xs ++ ys)
  all_join xs ys a b = record { each = λ y c. elim (Contains-append_cases xs ys y c) [ inl d ↦ a.each y d | inr d ↦ b.each y d ] }

  pub all_listed : (o : Option A) → ((x : A) → o ≡ Some x → P x) → Every P (listed o)
  all_listed o h = record { each = λ y c. h y (from_listed o y c) }

  pub all_if : (b : Bool) (xs : List A) → (b ≡ true → Every P xs) → Every P (if b then xs else [])
  all_if true xs h = h refl
  all_if false xs h = all_none

  pub all_either : (b : Bool) (xs ys : List A) → Every P xs → Every P ys → Every P (if b then xs else ys)
  all_either true xs ys h g = h
  all_either false xs ys h g = g

  pub all_filter : (test : A → Bool) (xs : List A) → Every P xs → Every P (filter test xs)
  all_filter test xs h = record { each = λ y c. let f = from_filter test xs y c in h.each y f.0 }

  -- what passes the test
  pub all_passing : (test : A → Bool) (xs : List A) → ((x : A) → test x ≡ true → P x) → Every P (filter test xs)
  all_passing test xs h = record { each = λ y c. let f = from_filter test xs y c in h y f.1 }

  module _ {B : Type 0} where
    pub all_flat : (g : B → List A) (xs : List B) → ((x : B) → Contains xs x → Every P (g x)) → Every P (flat_map g xs)
    all_flat g xs h = record { each = λ y c. let r = from_flat g xs y c in (h r.item r.there).each y r.inside }

    pub all_option : (g : B → List A) (o : Option B) → ((x : B) → o ≡ Some x → Every P (g x)) → Every P (flat_map g (listed o))
    all_option g o h = record { each = λ y c. let r = from_option g o y c in (h r.0 r.1).each y r.2 }

    pub all_map : (g : B → A) (xs : List B) → ((x : B) → Contains xs x → P (g x)) → Every P (map g xs)
    all_map g xs h = record { each = λ y c. let m = from_map g xs y c in subst P m.2 (h m.0 m.1) }

    pub all_each : (g : ℕ → B → List A) (xs : List B) → ((k : ℕ) (x : B) → slice_get xs k ≡ Some x → Every P (g k x)) → Every P (each_row g xs)
    all_each g xs h = record {
      each = λ y c.
          let r = from_each g 0 xs y c in
          let z : 0 + r.place ≡ r.place = omega arith in
          (h r.place r.item r.there).each y (subst (λ (k : ℕ). Contains (g k r.item) y) z r.inside);
    }

-- of two lists' elements
pub every_map : {A B : Type 0} (P : A → Type 0) (Q : B → Type 0) (g : A → B) (xs : List A) → ((x : A) → P x → Q (g x)) → Every P xs → Every Q (map g xs)
every_map P Q g xs h e = all_map Q g xs (λ x c. h x (e.each x c))

pub some_of : {A : Type 0} (test : A → Bool) (o : Option A) → list_any test (listed o) ≡ true → (x : A) × (o ≡ Some x) × (test x ≡ true)
some_of test None h = absurd (cc)
some_of test (Some x) h = (x, refl, only (test x) h)
  where
    only : (b : Bool) → list_any (λ (c : Bool). c) (b ∷ []) ≡ true → b ≡ true
    only true e = refl
    only false e = absurd (cc)
