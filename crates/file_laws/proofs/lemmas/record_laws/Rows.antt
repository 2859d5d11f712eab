-- The rows of a table, made by their numbers.
use Rattle.std.proofs.Common.{◌≡◌, ℕ, zero, suc, ◌<◌, List, [], ◌∷◌, ◌++◌, length, Some, ◌⊎◌, inl, inr, refl, ap, subst, ◌∙◌, arith, length-append}
use Rattle.std.specs.Prelude.{slice_get}
use Rattle.std.proofs.lemmas.Option.{none-some, same_Some}
use Rattle.il_base.specs.world_model.Records.{Each, EachPair}
use Rattle.rules.specs.record_format.Cells.{first_rows}

pub length_rows : {A : Type 0} (row : ℕ → A) (n : ℕ) → length (first_rows row n) ≡ n
unfolding first_rows
length_rows row zero = refl
length_rows row (suc n) = omega (arith, length-append (first_rows row n) (row (suc n) ∷ []), length_rows row n)

at_end : {A : Type 0} (xs : List A) (y x : A) (k : ℕ) → slice_get (xs ++ y ∷ []) k ≡ Some x → (slice_get xs k ≡ Some x) ⊎ ((k ≡ length xs) × (y ≡ x))
at_end [] y x zero e = inr (refl, same_Some y x e)
at_end [] y x (suc k) e = absurd (none-some x e)
at_end (z ∷ zs) y x zero e = inl e
at_end (z ∷ zs) y x (suc k) e = elim (at_end zs y x k e) [ inl f ↦ inl f | inr f ↦ inr (omega (arith, f.0), f.1) ]

pub row_at : {A : Type 0} (row : ℕ → A) (n k : ℕ) (x : A) → slice_get (first_rows row n) k ≡ Some x → (k < n) × (row (suc k) ≡ x)
unfolding first_rows
row_at row zero k x e = absurd (none-some x e)
row_at row (suc n) k x e = elim (at_end (first_rows row n) (row (suc n)) x k e) [
  | inl f ↦ (let rest = row_at row n k x f in (omega (arith, rest.0), rest.1))
  | inr f ↦ (let same : k ≡ n = f.0 ∙ length_rows row n in (omega arith, ap (λ (i : ℕ). row (suc i)) same ∙ f.1))
]

-- what holds of each row that is made
pub each_row : {A : Type 0} (P : A → Type 0) (row : ℕ → A) (n : ℕ) → ((k : ℕ) → k < n → P (row (suc k))) → Each P (first_rows row n)
each_row P row n h k x e = subst P (row_at row n k x e).1 (h k (row_at row n k x e).0)

-- what holds of each row and the next
pub each_pair : {A : Type 0} (P : A → A → Type 0) (row : ℕ → A) (n : ℕ) → ((k : ℕ) → suc k < n → P (row (suc k)) (row (suc (suc k)))) → EachPair P (first_rows row n)
each_pair P row n h k x y e f =
    let last = row_at row n (suc k) y f in
    subst (λ z. P x z) last.1 (subst (λ z. P z (row (suc (suc k)))) (row_at row n k x e).1 (h k last.0))
