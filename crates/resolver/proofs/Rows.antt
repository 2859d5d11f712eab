-- The homes of rows, added one by one.
use Rattle.std.proofs.Common.{◌≡◌, ℕ, ◌+◌, List, [], ◌∷◌, ◌++◌, map, sym, ap, ◌∙◌, append_assoc, arith}
use Rattle.std.specs.List.{range_with_len}
use Rattle.std.proofs.lemmas.List.FromFn.{map-range_with_len_more}
use Rattle.il_base.specs.declared.world_model.world.Home.{Home}

pub one_more : (f : ℕ → Home) (start now next : List Home) (i : ℕ) (h : Home) → h ≡ f i → next ≡ now ++ h ∷ []
    → now ≡ start ++ map f (range_with_len 0 i) → next ≡ start ++ map f (range_with_len 0 (i + 1))
one_more f start now next i h is step so_far =
    step ∙ rw (is, so_far) (append_assoc start (map f (range_with_len 0 i)) (f i ∷ []) ∙ ap (λ (xs : List Home). start ++ xs) (sym (map-range_with_len_more f 0 i i (omega arith))))
