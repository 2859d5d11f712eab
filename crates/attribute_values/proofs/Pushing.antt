-- What holds of each place of a list holds of one with one element more.
use Rattle.std.proofs.Common.{◌≡◌, ℕ, zero, suc, List, [], ◌∷◌, ◌++◌, length, sym, ap, subst, ◌∙◌}
use Rattle.std.specs.Prelude.{Some, slice_get}
use Rattle.il_base.specs.declared.world_model.record.AsmRec.{AsmRec}
use Rattle.attr_blobs.specs.declared.value.EnumSize.{EnumSize}
use Rattle.attribute_values.specs.Tables.{AreEnums}

pub pushed : {A : Type 0} (P : ℕ → A → Type 0) (xs : List A) (y : A) → ((a : ℕ) (x : A) → slice_get xs a ≡ Some x → P a x) → P (length xs) y
    → (a : ℕ) (x : A) → slice_get (xs ++ y ∷ []) a ≡ Some x → P a x
pushed P [] y h p zero x e = let i : y ≡ x = cc in subst (λ z. P zero z) i p
pushed P [] y h p (suc a) x e = absurd cc
pushed P (z ∷ zs) y h p zero x e = h zero x e
pushed P (z ∷ zs) y h p (suc a) x e = pushed (λ b. P (suc b)) zs y (λ b w k. h (suc b) w k) p a x e

nothing : {A : Type 0} (a : ℕ) (x : A) → slice_get [] a ≡ Some x → ⊥
nothing a x h = cc

-- an empty list has right enums
pub none_are : (recs : List AsmRec) (lists : List (List EnumSize)) → lists ≡ [] → AreEnums recs lists
none_are recs lists e = λ a enums h. absurd (nothing a enums (sym (ap (λ (xs : List (List EnumSize)). slice_get xs a) e) ∙ h))
