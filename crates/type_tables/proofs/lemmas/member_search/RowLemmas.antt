-- Rows of a table counted over assemblies.
use Rattle.std.proofs.Common.{◌≡◌, ℕ, zero, suc, ◌+◌, ◌-◌, ◌<◌, ◌≤◌, List, [], ◌∷◌, length, drop, get_or, refl, arith, add-one}
use Rattle.std.proofs.lemmas.List.{drop_all}
use Rattle.std.proofs.Math.Seq.{drop-cons}
use Rattle.il_base.specs.declared.world_model.record.AsmRec.{AsmRec}
use Rattle.il_base.specs.world_model.Worlds.{rows_before}

module _ (count : AsmRec → ℕ) where
  rows_next : (x : AsmRec) (xs : List AsmRec) (n m : ℕ) → n ≡ suc m → rows_before count (x ∷ xs) n ≡ count x + rows_before count xs m
  unfolding rows_before
  rows_next x xs n m e = rw e refl

  rows_of_none : (n : ℕ) → rows_before count [] n ≡ 0
  unfolding rows_before
  rows_of_none zero = refl
  rows_of_none (suc n) = refl

  pub rows_step : (xs : List AsmRec) (i a : ℕ) (x : AsmRec) → i < length xs → i < a → x ≡ get_or xs i x
      → rows_before count (drop i xs) (a - i) ≡ count x + rows_before count (drop (i + 1) xs) (a - (i + 1))
  rows_step xs i a x h l e =
      let n : a - i ≡ suc (a - (i + 1)) = omega arith in
      rw (drop-cons xs i x h, ← e, ← add-one i) (rows_next x (drop (i + 1) xs) (a - i) (a - (i + 1)) n)

  pub rows_left : (xs : List AsmRec) (i n : ℕ) → length xs ≤ i → rows_before count (drop i xs) n ≡ 0
  rows_left xs i n past = rw (drop_all i xs past) (rows_of_none n)
