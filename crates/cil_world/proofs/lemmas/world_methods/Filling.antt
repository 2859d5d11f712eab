-- A table that is made row by row.
use Rattle.std.proofs.Common.{◌≡◌, ℕ, ◌+◌, List, [], ◌∷◌, ◌++◌, sym, ap, ◌∙◌, arith, append_assoc}
use Rattle.std.proofs.lemmas.List.FromFn.{map-range_with_len_more}
use Rattle.rules.specs.declared.link_rules.row_at.RowAt.{RowAt}
use Rattle.rules.specs.link_rules.Types.{at_row}
use Rattle.cil_world.specs.world_methods.Rows.{rows_of}

-- one row more of an assembly
pub row_more : {A : Type 0} (f : RowAt → A) (a k asm row : ℕ) (start rows new : List A) (one : A) → rows ≡ start ++ rows_of f a k → asm ≡ a → row ≡ k → one ≡ f (at_row asm row)
    → new ≡ rows ++ one ∷ [] → new ≡ start ++ rows_of f a (k + 1)
row_more f a k asm row start rows new one before here there is more =
    let made : one ≡ f (at_row a k) = is ∙ ap (λ (x : ℕ). f (at_row x row)) here ∙ ap (λ (y : ℕ). f (at_row a y)) there in
    more
    ∙ ap (λ (xs : List _). xs ++ one ∷ []) before
    ∙ append_assoc start (rows_of f a k) (one ∷ [])
    ∙ ap (λ (x : _). start ++ (rows_of f a k ++ x ∷ [])) made
    ∙ ap (λ (xs : List _). start ++ xs) (sym (map-range_with_len_more (λ (i : ℕ). f (at_row a i)) 0 k k (omega arith)))
