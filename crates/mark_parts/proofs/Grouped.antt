-- What the rows of a group give, each with its number, is what all rows give, where those of other groups give nothing.
use Rattle.std.proofs.Common.{◌≡◌, ℕ, suc, ◌+◌, List, [], ◌∷◌, ◌++◌, map, Bool, true, false, Some, refl, sym, ap, ◌∙◌, arith, zero-add, add-zero}
use Rattle.std.specs.Prelude.{slice_get, ◌==◌, if◌then◌else◌}
use Rattle.std.specs.List.{flat_map}
use Rattle.std.specs.Option.{option_map_or}
use Rattle.std.proofs.lemmas.List.Concat.{flat_map-cons}
use Rattle.rules.specs.type_rules.Rows.{each_from, each_row}
use Rattle.type_tables.specs.member_search.Names.{places}
use Rattle.type_tables.specs.declared.groups.Groups.{Groups}
use Rattle.type_tables.specs.Groups.{is_key, rows_with, AreGroups}

next : {B : Type 0} (at : ℕ → List B) (b : Bool) (i : ℕ) (ks : List ℕ) (here now rest : List B) → at i ≡ here → now ≡ (if b then here else []) → flat_map at ks ≡ rest
    → flat_map at (if b then i ∷ ks else ks) ≡ now ++ rest
next at true i ks here now rest h e r = flat_map-cons at i ks ∙ rw (h, e, r) refl
next at false i ks here now rest h e r = rw e r

module _ {A B : Type 0} (key : A → ℕ) (wanted : ℕ) (g f : ℕ → A → List B) (by : (k : ℕ) (x : A) → f k x ≡ (if key x == wanted then g k x else [])) where
  abbrev At : (ℕ → List B) → ℕ → List A → Type 0
  At at i xs = (k : ℕ) (x : A) → slice_get xs k ≡ Some x → at (i + k) ≡ g (i + k) x

  here_at : (at : ℕ → List B) (i : ℕ) (x : A) (xs : List A) → At at i (x ∷ xs) → at i ≡ g i x
  here_at at i x xs h = rw add-zero at (h 0 x refl)

  later_at : (at : ℕ → List B) (i : ℕ) (x : A) (xs : List A) → At at i (x ∷ xs) → At at (i + 1) xs
  later_at at i x xs h k y e = let n : i + 1 + k ≡ i + suc k = omega arith in rw n (h (suc k) y e)

  from : (at : ℕ → List B) (xs : List A) (i : ℕ) → At at i xs → flat_map at (places (is_key wanted) i (map key xs)) ≡ each_from f i xs
  from at [] i h = refl
  from at (x ∷ xs) i h =
      let n : i + 1 ≡ suc i = omega arith in
      next at (key x == wanted) i (places (is_key wanted) (i + 1) (map key xs)) (g i x) (f i x) (each_from f (suc i) xs) (here_at at i x xs h) (by i x)
      (from at xs (i + 1) (later_at at i x xs h) ∙ ap (λ (k : ℕ). each_from f k xs) n)

  get_at : (xs : List A) → At (λ k. option_map_or (g k) (slice_get xs k) []) 0 xs
  get_at xs k x e = rw (zero-add, e) refl

  pub each_grouped : (rows : List A) (groups : Groups) → AreGroups (map key rows) groups
      → flat_map (λ k. option_map_or (g k) (slice_get rows k) []) (rows_with groups wanted) ≡ each_row f rows
  each_grouped rows groups are =
      ap (flat_map (λ k. option_map_or (g k) (slice_get rows k) [])) (are wanted) ∙ from (λ k. option_map_or (g k) (slice_get rows k) []) rows 0 (get_at rows)
