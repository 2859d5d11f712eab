-- The numbers of bodies of each assembly, place by place.
use Rattle.std.proofs.Common.{◌≡◌, ℕ, zero, suc, ◌+◌, ◌<◌, List, [], ◌∷◌, length, get_or, Some, refl, sym, ap, ◌∙◌, arith}
use Rattle.std.specs.Prelude.{slice_get}
use Rattle.il_base.specs.declared.world_model.record.AsmRec.{AsmRec}
use Rattle.mark_parts.specs.mark_tables.Impls.{body_numbers, numbers_from}

pub as_long : (recs : List AsmRec) (a : ℕ) (rest : List AsmRec) → length (numbers_from recs a rest) ≡ length rest
as_long recs a [] = refl
as_long recs a (rec ∷ rest) = ap suc (as_long recs (suc a) rest)

pub numbers_at : (recs : List AsmRec) (a : ℕ) (rest : List AsmRec) (i : ℕ) (rec : AsmRec) → slice_get rest i ≡ Some rec → slice_get (numbers_from recs a rest) i ≡ Some (body_numbers recs (a + i) rec)
numbers_at recs a [] i rec e = cc
numbers_at recs a (x ∷ rest) zero rec e =
    let same : x ≡ rec = cc in
    let n : a ≡ a + 0 = omega arith in
    ap (λ (r : AsmRec). Some (body_numbers recs a r)) same ∙ ap (λ (k : ℕ). Some (body_numbers recs k rec)) n
numbers_at recs a (x ∷ rest) (suc i) rec e =
    let n : suc a + i ≡ a + suc i = omega arith in
    numbers_at recs (suc a) rest i rec e ∙ ap (λ (k : ℕ). Some (body_numbers recs k rec)) n

pub gotten : {A : Type 0} (xs : List A) (i : ℕ) (x : A) → slice_get xs i ≡ Some x → x ≡ get_or xs i x
gotten [] i x e = cc
gotten (y ∷ xs) zero x e = let same : y ≡ x = cc in sym same
gotten (y ∷ xs) (suc i) x e = gotten xs i x e

pub here_at : {A : Type 0} (xs : List A) (i : ℕ) (x : A) → i < length xs → x ≡ get_or xs i x → slice_get xs i ≡ Some x
here_at [] i x lt is = absurd (omega arith)
here_at (y ∷ xs) zero x lt is = ap Some (sym is)
here_at (y ∷ xs) (suc i) x lt is = here_at xs i x (omega arith) is
