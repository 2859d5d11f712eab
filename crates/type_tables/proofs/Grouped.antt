-- What the rows of a group give is what all rows give, where those of other groups give nothing.
use Rattle.std.proofs.Common.{◌≡◌, ℕ, suc, ◌+◌, List, [], ◌∷◌, ◌++◌, map, Bool, true, false, Option, Some, None, refl, sym, ap, ◌∙◌, arith, zero-add, add-zero}
use Rattle.std.specs.Prelude.{slice_get, ◌==◌, ◌||◌, if◌then◌else◌}
use Rattle.std.specs.List.{list_any, flat_map}
use Rattle.std.specs.Option.{option_map_or}
use Rattle.std.proofs.lemmas.List.Concat.{flat_map-cons}
use Rattle.rules.specs.link_rules.Types.{or_else}
use Rattle.type_tables.specs.member_search.Names.{places}
use Rattle.type_tables.specs.declared.groups.Groups.{Groups}
use Rattle.type_tables.specs.Groups.{is_key, first_of, rows_with, AreGroups}

-- ---- one row more, which is in the group or isn't

flat_next : {B : Type 0} (at : ℕ → List B) (b : Bool) (i : ℕ) (ks : List ℕ) (here now rest : List B) → at i ≡ here → now ≡ (if b then here else []) → flat_map at ks ≡ rest
    → flat_map at (if b then i ∷ ks else ks) ≡ now ++ rest
flat_next at true i ks here now rest h e r = flat_map-cons at i ks ∙ rw (h, e, r) refl
flat_next at false i ks here now rest h e r = rw e r

any_next : (at : ℕ → Bool) (b : Bool) (i : ℕ) (ks : List ℕ) (here now rest : Bool) → at i ≡ here → now ≡ (if b then here else false) → list_any at ks ≡ rest
    → list_any at (if b then i ∷ ks else ks) ≡ (now || rest)
any_next at true i ks here now rest h e r = rw (h, e, r) refl
any_next at false i ks here now rest h e r = rw e r

first_next : {B : Type 0} (at : ℕ → Option B) (b : Bool) (i : ℕ) (ks : List ℕ) (here now rest : Option B) → at i ≡ here → now ≡ (if b then here else None) → first_of at ks ≡ rest
    → first_of at (if b then i ∷ ks else ks) ≡ or_else now rest
first_next at true i ks here now rest h e r = rw (h, e, r) refl
first_next at false i ks here now rest h e r = rw e r

module _ {A : Type 0} (key : A → ℕ) (wanted : ℕ) where
  -- ---- rows from a place on

  abbrev At : {B : Type 0} → (A → B) → (ℕ → B) → ℕ → List A → Type 0
  At g at i xs = (k : ℕ) (x : A) → slice_get xs k ≡ Some x → at (i + k) ≡ g x

  here_at : {B : Type 0} (g : A → B) (at : ℕ → B) (i : ℕ) (x : A) (xs : List A) → At g at i (x ∷ xs) → at i ≡ g x
  here_at g at i x xs h = rw add-zero at (h 0 x refl)

  later_at : {B : Type 0} (g : A → B) (at : ℕ → B) (i : ℕ) (x : A) (xs : List A) → At g at i (x ∷ xs) → At g at (i + 1) xs
  later_at g at i x xs h k y e = let n : i + 1 + k ≡ i + suc k = omega arith in rw n (h (suc k) y e)

  -- only rows of the group give something, and each what `g` gives
  abbrev pub GivesBy : {B : Type 0} → B → (A → B) → (A → B) → Type 0
  GivesBy none g f = (x : A) → f x ≡ (if key x == wanted then g x else none)

  flat_from : {B : Type 0} (g f : A → List B) (at : ℕ → List B) → GivesBy [] g f → (xs : List A) (i : ℕ) → At g at i xs
      → flat_map at (places (is_key wanted) i (map key xs)) ≡ flat_map f xs
  flat_from g f at by [] i h = refl
  flat_from g f at by (x ∷ xs) i h =
      flat_next at (key x == wanted) i (places (is_key wanted) (i + 1) (map key xs)) (g x) (f x) (flat_map f xs) (here_at g at i x xs h) (by x)
      (flat_from g f at by xs (i + 1) (later_at g at i x xs h))
      ∙ sym (flat_map-cons f x xs)

  any_from : (g f : A → Bool) (at : ℕ → Bool) → GivesBy false g f → (xs : List A) (i : ℕ) → At g at i xs
      → list_any at (places (is_key wanted) i (map key xs)) ≡ list_any f xs
  any_from g f at by [] i h = refl
  any_from g f at by (x ∷ xs) i h =
      any_next at (key x == wanted) i (places (is_key wanted) (i + 1) (map key xs)) (g x) (f x) (list_any f xs) (here_at g at i x xs h) (by x)
      (any_from g f at by xs (i + 1) (later_at g at i x xs h))

  first_from : {B : Type 0} (g f : A → Option B) (at : ℕ → Option B) → GivesBy None g f → (xs : List A) (i : ℕ) → At g at i xs
      → first_of at (places (is_key wanted) i (map key xs)) ≡ first_of f xs
  first_from g f at by [] i h = refl
  first_from g f at by (x ∷ xs) i h =
      first_next at (key x == wanted) i (places (is_key wanted) (i + 1) (map key xs)) (g x) (f x) (first_of f xs) (here_at g at i x xs h) (by x)
      (first_from g f at by xs (i + 1) (later_at g at i x xs h))

  -- ---- all rows of a table

  get_at : {B : Type 0} (none : B) (g : A → B) (xs : List A) → At g (λ k. option_map_or g (slice_get xs k) none) 0 xs
  get_at none g xs k x e = rw (zero-add, e) refl

  module _ (rows : List A) (groups : Groups) (are : AreGroups (map key rows) groups) where
    -- what the rows of the group list, one after the other, is what all list
    pub flat_grouped : {B : Type 0} (g f : A → List B) → GivesBy [] g f → flat_map (λ k. option_map_or g (slice_get rows k) []) (rows_with groups wanted) ≡ flat_map f rows
    flat_grouped g f by =
        ap (flat_map (λ k. option_map_or g (slice_get rows k) [])) (are wanted)
        ∙ flat_from g f (λ k. option_map_or g (slice_get rows k) []) by rows 0 (get_at [] g rows)

    -- whether one of the group passes is whether one of all does
    pub any_grouped : (g f : A → Bool) → GivesBy false g f → list_any (λ k. option_map_or g (slice_get rows k) false) (rows_with groups wanted) ≡ list_any f rows
    any_grouped g f by =
        ap (list_any (λ k. option_map_or g (slice_get rows k) false)) (are wanted)
        ∙ any_from g f (λ k. option_map_or g (slice_get rows k) false) by rows 0 (get_at false g rows)

    -- what the first of the group that has something gives is what the first of all gives
    pub first_grouped : {B : Type 0} (g f : A → Option B) → GivesBy None g f → first_of (λ k. option_map_or g (slice_get rows k) None) (rows_with groups wanted) ≡ first_of f rows
    first_grouped g f by =
        ap (first_of (λ k. option_map_or g (slice_get rows k) None)) (are wanted)
        ∙ first_from g f (λ k. option_map_or g (slice_get rows k) None) by rows 0 (get_at None g rows)
