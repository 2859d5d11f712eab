-- What is kept, with what is kept of the next type.
use Rattle.std.proofs.Common.{◌≡◌, ℕ, zero, suc, ◌+◌, List, [], ◌∷◌, ◌++◌, length, Option, Some, refl, sym, ap, subst, ◌∙◌, arith}
use Rattle.std.specs.Prelude.{slice_get}
use Rattle.il_base.specs.declared.world_model.record.AsmRec.{AsmRec}
use Rattle.il_base.specs.declared.cil_values.layout.Layout.{Layout}
use Rattle.cil_world.specs.Kept.{AreKept, IsKept}

abbrev Each : (ℕ → Option (List Layout) → Type 0) → List (Option (List Layout)) → Type 0
Each P kept = (n : ℕ) (one : Option (List Layout)) → slice_get kept n ≡ Some one → P n one

each_more : (P : ℕ → Option (List Layout) → Type 0) (kept : List (Option (List Layout))) (x : Option (List Layout)) → Each P kept → P (length kept) x → Each P (kept ++ x ∷ [])
each_more P [] x each last zero one e = let same : x ≡ one = cc in subst (λ (o : Option (List Layout)). P zero o) same last
each_more P [] x each last (suc n) one e = absurd cc
each_more P (y ∷ ys) x each last zero one e = each zero one e
each_more P (y ∷ ys) x each last (suc n) one e = each_more (λ k o. P (suc k) o) ys x (λ k o. each (suc k) o) last n one e

kept_more : (recs : List AsmRec) (kept : List (Option (List Layout))) (x : Option (List Layout)) → AreKept recs kept → IsKept recs (length kept) x → AreKept recs (kept ++ x ∷ [])
kept_more recs kept x are is = each_more (IsKept recs) kept x are is

length_push : {A : Type 0} (xs : List A) (x : A) → length (xs ++ x ∷ []) ≡ length xs + 1
length_push [] x = refl
length_push (y ∷ ys) x = let e : length (ys ++ x ∷ []) ≡ length ys + 1 = length_push ys x in omega arith

pub kept_next : (recs : List AsmRec) (kept pushed : List (Option (List Layout))) (n : ℕ) (x : Option (List Layout)) → AreKept recs kept × (length kept ≡ n) → IsKept recs n x → pushed ≡ kept ++ x ∷ []
    → AreKept recs pushed × (length pushed ≡ n + 1)
kept_next recs kept pushed n x held is e =
    let more : AreKept recs (kept ++ x ∷ []) = kept_more recs kept x held.0 (subst (λ (k : ℕ). IsKept recs k x) (sym held.1) is) in
    let long : length (kept ++ x ∷ []) ≡ n + 1 = length_push kept x ∙ ap (λ (k : ℕ). k + 1) held.1 in
    (subst (λ (l : List (Option (List Layout))). AreKept recs l) (sym e) more, ap (λ (l : List (Option (List Layout))). length l) e ∙ long)
