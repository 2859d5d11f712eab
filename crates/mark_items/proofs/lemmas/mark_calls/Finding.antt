-- Steps of loops over rows with their numbers.
use Rattle.std.proofs.Common.{◌≡◌, ℕ, zero, suc, ◌+◌, ◌<◌, ◌≤◌, List, [], ◌∷◌, ◌++◌, length, drop, get_or, Some, sym, ap, ◌∙◌, arith, append_assoc, drop-cons}
use Rattle.std.specs.Prelude.{slice_get}
use Rattle.std.proofs.lemmas.List.{append-nil, drop_all}
use Rattle.rules.specs.type_rules.Rows.{each_from}

pub here_at : {A : Type 0} (xs : List A) (i : ℕ) (x : A) → i < length xs → x ≡ get_or xs i x → slice_get xs i ≡ Some x
here_at [] i x lt is = absurd (omega arith)
here_at (y ∷ xs) zero x lt is = ap Some (sym is)
here_at (y ∷ xs) (suc i) x lt is = here_at xs i x (omega arith) is

module _ {A B : Type 0} (f : ℕ → A → List B) (xs : List A) (i : ℕ) where
  pub each_next : (x : A) (out : List B) → i < length xs → x ≡ get_or xs i x → (out ++ f i x) ++ each_from f (i + 1) (drop (i + 1) xs) ≡ out ++ each_from f i (drop i xs)
  each_next x out lt is =
      let n : i + 1 ≡ suc i = omega arith in
      let d : drop i xs ≡ x ∷ drop (suc i) xs = drop-cons xs i x lt ∙ ap (λ (y : A). y ∷ drop (suc i) xs) (sym is) in
      append_assoc out (f i x) (each_from f (i + 1) (drop (i + 1) xs)) ∙ ap (λ (k : ℕ). out ++ (f i x ++ each_from f k (drop k xs))) n
      ∙ ap (λ (ys : List A). out ++ each_from f i ys) (sym d)

  pub each_end : (out : List B) → length xs ≤ i → out ++ each_from f i (drop i xs) ≡ out
  each_end out le = ap (λ (ys : List A). out ++ each_from f i ys) (drop_all i xs le) ∙ append-nil out
