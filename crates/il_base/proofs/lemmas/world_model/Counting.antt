-- How many rows the assemblies before one have, and the last assembly.
use Rattle.std.proofs.Common.{◌≡◌, ℕ, zero, suc, ◌+◌, ◌-◌, ◌≤◌, min, List, [], ◌∷◌, length, get_or, take, sum_by, refl, ap, subst, ◌∙◌, arith}
use Rattle.std.proofs.lemmas.List.Sums.{sum_by-cons}
use Rattle.il_base.specs.declared.world_model.record.AsmRec.{AsmRec}
use Rattle.il_base.specs.world_model.Worlds.{rows_before, core_types}

pub before_is : (f : AsmRec → ℕ) (recs : List AsmRec) (a : ℕ) → sum_by f (take a recs) ≡ rows_before f recs a
unfolding rows_before
before_is f recs zero = refl
before_is f [] (suc a) = refl
before_is f (rec ∷ recs) (suc a) = sum_by-cons f rec (take a recs) ∙ ap (λ (n : ℕ). f rec + n) (before_is f recs a)

take_cut : (recs : List AsmRec) (a : ℕ) → take (min a (length recs)) recs ≡ take a recs
take_cut recs zero = let e : min 0 (length recs) ≡ 0 = omega arith in rw e refl
take_cut [] (suc a) = let e : min (suc a) 0 ≡ 0 = omega arith in rw e refl
take_cut (rec ∷ recs) (suc a) =
    let e : min (suc a) (suc (length recs)) ≡ suc (min a (length recs)) = omega arith in rw e (ap (λ (l : List AsmRec). rec ∷ l) (take_cut recs a))

pub before_cut : (f : AsmRec → ℕ) (recs : List AsmRec) (a : ℕ) → sum_by f (take (min a (length recs)) recs) ≡ rows_before f recs a
before_cut f recs a = ap (sum_by f) (take_cut recs a) ∙ before_is f recs a

pub core_last : (recs : List AsmRec) (rec : AsmRec) → 1 ≤ length recs → rec ≡ get_or recs (length recs - 1) rec → rec.type_def ≡ core_types recs
unfolding core_types
core_last [] rec h e = absurd (omega (arith, h))
core_last (only ∷ []) rec h e = ap (λ (r : AsmRec). r.type_def) e
core_last (first ∷ next ∷ recs) rec h e =
    let n : suc (suc (length recs)) - 1 ≡ suc (suc (length recs) - 1) = omega arith in
    let below : 1 ≤ suc (length recs) = omega arith in
    core_last (next ∷ recs) rec below (subst (λ (k : ℕ). rec ≡ get_or (first ∷ next ∷ recs) k rec) n e)
