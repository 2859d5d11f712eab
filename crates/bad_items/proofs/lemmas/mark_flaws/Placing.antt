-- What is found by, place by place.
use Rattle.std.proofs.Common.{◌≡◌, ℕ, zero, suc, ◌<◌, List, [], ◌∷◌, ◌++◌, length, get_or, sym, ap, subst, ◌∙◌, arith}
use Rattle.std.specs.Prelude.{Some, slice_get}
use Rattle.il_base.specs.declared.world_model.record.AsmRec.{AsmRec}
use Rattle.bad_items.specs.declared.mark_flaws.tables.FlawRows.{FlawRows}
use Rattle.bad_items.specs.mark_flaws.Tables.{AreFlawRows, AreAt, AreEach}

pub here_at : {A : Type 0} (xs : List A) (i : ℕ) (x : A) → i < length xs → x ≡ get_or xs i x → slice_get xs i ≡ Some x
here_at [] i x lt is = absurd (omega arith)
here_at (y ∷ xs) zero x lt is = ap Some (sym is)
here_at (y ∷ xs) (suc i) x lt is = here_at xs i x (omega arith) is

-- of the assembly in its place
pub placed : (all recs : List AsmRec) → all ≡ recs → (a asm : ℕ) → asm ≡ a → (rec : AsmRec) → slice_get all a ≡ Some rec → (r : FlawRows) → AreFlawRows recs asm rec r → AreAt all a r
placed all recs e a asm n rec here r are other there =
    let same : rec ≡ other = cc in
    subst (λ (xs : List AsmRec). AreFlawRows xs a other r) (sym e) (subst (λ (k : ℕ). AreFlawRows recs k other r) n (subst (λ (x : AsmRec). AreFlawRows recs asm x r) same are))

-- what holds of each place of a list holds of one with one element more
pub pushed : {A : Type 0} (P : ℕ → A → Type 0) (xs : List A) (y : A) → ((a : ℕ) (x : A) → slice_get xs a ≡ Some x → P a x) → P (length xs) y
    → (a : ℕ) (x : A) → slice_get (xs ++ y ∷ []) a ≡ Some x → P a x
pushed P [] y h p zero x e = let i : y ≡ x = cc in subst (λ z. P zero z) i p
pushed P [] y h p (suc a) x e = absurd cc
pushed P (z ∷ zs) y h p zero x e = h zero x e
pushed P (z ∷ zs) y h p (suc a) x e = pushed (λ b. P (suc b)) zs y (λ b w k. h (suc b) w k) p a x e

nothing : {A : Type 0} (a : ℕ) (x : A) → slice_get [] a ≡ Some x → ⊥
nothing a x h = cc

pub none_are : (recs : List AsmRec) (rows : List FlawRows) → rows ≡ [] → AreEach recs rows
none_are recs rows e = λ a r h. absurd (nothing a r (sym (ap (λ (xs : List FlawRows). slice_get xs a) e) ∙ h))
