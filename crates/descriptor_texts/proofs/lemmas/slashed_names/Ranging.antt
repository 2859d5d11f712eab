-- What is made of each number of a range.
use Rattle.std.proofs.Common.{◌≡◌, ℕ, zero, suc, ◌+◌, ◌-◌, ◌<◌, ◌≤◌, List, [], ◌∷◌, ◌++◌, map, sym, ap, ◌∙◌, arith, append_assoc, add-zero}
use Rattle.std.specs.Prelude.{slice_get, unwrap_or}
use Rattle.std.specs.List.{range_with_len}
use Rattle.std.proofs.lemmas.List.{append-nil}

pub range_next : {A : Type 0} (f : ℕ → A) (made : List A) (k end : ℕ) → k < end
    → (made ++ f k ∷ []) ++ map f (range_with_len (k + 1) (end - (k + 1))) ≡ made ++ map f (range_with_len k (end - k))
range_next f made k end below =
    let n : end - k ≡ suc (end - (k + 1)) = omega arith in
    append_assoc made (f k ∷ []) (map f (range_with_len (k + 1) (end - (k + 1)))) ∙ ap (λ (m : ℕ). made ++ map f (range_with_len k m)) (sym n)

pub range_end : {A : Type 0} (f : ℕ → A) (made : List A) (k end : ℕ) → end ≤ k → made ++ map f (range_with_len k (end - k)) ≡ made
range_end f made k end done =
    let n : end - k ≡ 0 = omega arith in
    ap (λ (m : ℕ). made ++ map f (range_with_len k m)) n ∙ append-nil made

-- a place in it, where nothing is made of the numbers after it
pub range_get : {A : Type 0} (f : ℕ → List A) (n s : ℕ) → ((j : ℕ) → s + n ≤ j → f j ≡ []) → (k : ℕ) → unwrap_or (slice_get (map f (range_with_len s n)) k) [] ≡ f (s + k)
range_get f zero s none k = sym (none (s + k) (omega arith))
range_get f (suc n) s none zero = ap f (sym (add-zero s))
range_get f (suc n) s none (suc k) =
    let e : s + 1 + k ≡ s + suc k = omega arith in
    range_get f n (s + 1) (λ j h. none j (omega arith)) k ∙ ap f e
