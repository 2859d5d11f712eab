-- Bytes decoded one after the other.
use Rattle.std.proofs.Common.{◌≡◌, ℕ, zero, suc, ◌+◌, ◌-◌, ◌<◌, ◌≤◌, List, [], ◌∷◌, ◌++◌, length, drop, get_or, refl, sym, ap, ◌∙◌, add-one, arith}
use Rattle.std.proofs.Math.Seq.{drop-cons}
use Rattle.std.proofs.lemmas.List.{append_assoc, append-nil, drop_all}
use Rattle.rules.specs.step_rules.Input.{decoded_after, char_at, units_before, more_bytes}

front : (bytes : List ℕ) (at : ℕ) → at < length bytes → drop at bytes ≡ get_or bytes at 0 ∷ drop (at + 1) bytes
front bytes at h = rw add-one (drop-cons bytes at 0 h)

by_count : (inside b : ℕ) (bs : List ℕ) → 0 < inside → decoded_after (inside - 1) bs ≡ decoded_after inside (b ∷ bs)
unfolding decoded_after
by_count zero b bs h = absurd (omega arith)
by_count (suc n) b bs h = let e : suc n - 1 ≡ n = omega arith in ap (λ k. decoded_after k bs) e

-- a byte of a character before
pub inside_character : (inside at : ℕ) (bytes : List ℕ) → at < length bytes → 0 < inside → decoded_after (inside - 1) (drop (at + 1) bytes) ≡ decoded_after inside (drop at bytes)
inside_character inside at bytes h some = by_count inside (get_or bytes at 0) (drop (at + 1) bytes) some ∙ sym (ap (decoded_after inside) (front bytes at h))

-- the first byte of a character, or one outside
pub next_character : (at : ℕ) (bytes : List ℕ) → at < length bytes → decoded_after 0 (drop at bytes) ≡ units_before (char_at (get_or bytes at 0) (drop (at + 1) bytes)) ++ decoded_after (more_bytes (char_at (get_or bytes at 0) (drop (at + 1) bytes))) (drop (at + 1) bytes)
unfolding decoded_after
next_character at bytes h = ap (decoded_after 0) (front bytes at h)

by_empty : (n : ℕ) → decoded_after n [] ≡ []
unfolding decoded_after
by_empty n = refl

pub no_character : (n at : ℕ) (bytes : List ℕ) → length bytes ≤ at → decoded_after n (drop at bytes) ≡ []
no_character n at bytes h = ap (decoded_after n) (drop_all at bytes h) ∙ by_empty n

-- ---- the units so far

module _ (units : List ℕ) (inside at : ℕ) (bytes w : List ℕ) (so_far : units ++ decoded_after inside (drop at bytes) ≡ w) where
  pub units_next : (made : List ℕ) (left : ℕ) → at < length bytes → inside ≡ 0 → made ≡ units ++ units_before (char_at (get_or bytes at 0) (drop (at + 1) bytes)) → left ≡ more_bytes (char_at (get_or bytes at 0) (drop (at + 1) bytes)) → made ++ decoded_after left (drop (at + 1) bytes) ≡ w
  units_next made left h none made_is left_is =
      ap (λ xs. xs ++ decoded_after left (drop (at + 1) bytes)) made_is
      ∙ ap (λ n. (units ++ units_before (char_at (get_or bytes at 0) (drop (at + 1) bytes))) ++ decoded_after n (drop (at + 1) bytes)) left_is
      ∙ append_assoc units (units_before (char_at (get_or bytes at 0) (drop (at + 1) bytes))) (decoded_after (more_bytes (char_at (get_or bytes at 0) (drop (at + 1) bytes))) (drop (at + 1) bytes))
      ∙ ap (λ xs. units ++ xs) (sym (next_character at bytes h))
      ∙ ap (λ n. units ++ decoded_after n (drop at bytes)) (sym none)
      ∙ so_far

  pub units_end : length bytes ≤ at → units ≡ w
  units_end h = sym (append-nil units) ∙ ap (λ xs. units ++ xs) (sym (no_character inside at bytes h)) ∙ so_far
