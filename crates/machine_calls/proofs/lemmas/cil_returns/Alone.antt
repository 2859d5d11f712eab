-- A stack with one value.
use Rattle.std.proofs.Common.{◌≡◌, suc, List, [], ◌∷◌, length, reverse, get_or, sym, ap, ◌∙◌, arith}
use Rattle.std.proofs.lemmas.List.{length-reverse}
use Rattle.il_base.specs.declared.cil_values.value.Value.{Value}

pub alone : (xs : List Value) (v : Value) → length (reverse xs) ≡ 1 → v ≡ get_or (reverse xs) 0 v → xs ≡ v ∷ []
alone [] v h e = absurd cc
alone (x ∷ []) v h e = ap (λ y. y ∷ []) (sym e)
alone (x ∷ y ∷ zs) v h e = let k : suc (suc (length zs)) ≡ 1 = sym (length-reverse (x ∷ y ∷ zs)) ∙ h in absurd (omega (arith, k))
