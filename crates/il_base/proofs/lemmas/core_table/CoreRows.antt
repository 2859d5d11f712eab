-- The place of a method in the last of some assemblies, as a walk over them finds it.
use Rattle.std.proofs.Common.{◌≡◌, ℕ, suc, ◌+◌, ◌-◌, ◌<◌, ◌≤◌, List, [], ◌∷◌, length, drop, get_or, Option, Some, None, Bool, true, false, nat_lt, if◌then◌else◌, refl, sym, ap, subst, ◌∙◌, add-one, drop-cons, arith}
use Rattle.std.proofs.lemmas.List.{drop_all, length-drop}
use Rattle.std.proofs.lemmas.Bool.Decides.{nat_tests}
use Rattle.il_base.specs.declared.world_model.record.AsmRec.{AsmRec}
use Rattle.il_base.specs.core_table.Kinds.{core_row}

-- the assemblies from a place on
pub here : (recs : List AsmRec) (i : ℕ) (rec : AsmRec) → i < length recs → rec ≡ get_or recs i rec → drop i recs ≡ rec ∷ drop (i + 1) recs
here recs i rec lt is = rw add-one (drop-cons recs i rec lt ∙ ap (λ (y : AsmRec). y ∷ drop (suc i) recs) (sym is))

pub at_last : (recs : List AsmRec) (i left : ℕ) (rec : AsmRec) (total : Option ℕ) → i < length recs → rec ≡ get_or recs i rec → i + 1 ≡ length recs
    → core_row (drop i recs) left ≡ total → Some left ≡ total
unfolding core_row
at_last recs i left rec total lt is e h =
    let le : length recs ≤ i + 1 = omega arith in
    let one : drop i recs ≡ rec ∷ [] = here recs i rec lt is ∙ ap (λ (ys : List AsmRec). rec ∷ ys) (drop_all (i + 1) recs le) in
    subst (λ (xs : List AsmRec). core_row xs left ≡ total) one h

-- one assembly with others after it
of_more : (rec : AsmRec) (rest : List AsmRec) (left : ℕ) → 0 < length rest
    → core_row (rec ∷ rest) left ≡ (if nat_lt left (length rec.method_def) then None else core_row rest (left - length rec.method_def))
unfolding core_row
of_more rec [] left h = absurd (let no : ⊥ = omega (arith, h) in no)
of_more rec (next ∷ rest) left h = refl

pub at_more : (recs : List AsmRec) (i left : ℕ) (rec : AsmRec) (total : Option ℕ) → i < length recs → rec ≡ get_or recs i rec → i + 1 < length recs
    → core_row (drop i recs) left ≡ total → (if nat_lt left (length rec.method_def) then None else core_row (drop (i + 1) recs) (left - length rec.method_def)) ≡ total
at_more recs i left rec total lt is more h =
    let left_over : 0 < length (drop (i + 1) recs) = rw (length-drop (i + 1) recs) (omega arith) in
    sym (of_more rec (drop (i + 1) recs) left left_over) ∙ ap (λ (xs : List AsmRec). core_row xs left) (sym (here recs i rec lt is)) ∙ h

pub at_end : (recs : List AsmRec) (i left : ℕ) (total : Option ℕ) → length recs ≤ i → core_row (drop i recs) left ≡ total → None ≡ total
unfolding core_row
at_end recs i left total le h = subst (λ (xs : List AsmRec). core_row xs left ≡ total) (drop_all i recs le) h

pub at_less : (recs : List AsmRec) (i left : ℕ) (rec : AsmRec) (total : Option ℕ) → i < length recs → rec ≡ get_or recs i rec → i + 1 < length recs
    → left < length rec.method_def → core_row (drop i recs) left ≡ total → None ≡ total
at_less recs i left rec total lt is more small h =
    let t : nat_lt left (length rec.method_def) ≡ true = grind (arith, nat_tests) in
    subst (λ (b : Bool). (if b then None else core_row (drop (i + 1) recs) (left - length rec.method_def)) ≡ total) t (at_more recs i left rec total lt is more h)

pub at_next : (recs : List AsmRec) (i left : ℕ) (rec : AsmRec) (total : Option ℕ) → i < length recs → rec ≡ get_or recs i rec → i + 1 < length recs
    → length rec.method_def ≤ left → core_row (drop i recs) left ≡ total → core_row (drop (i + 1) recs) (left - length rec.method_def) ≡ total
at_next recs i left rec total lt is more big h =
    let t : nat_lt left (length rec.method_def) ≡ false = grind (arith, nat_tests) in
    subst (λ (b : Bool). (if b then None else core_row (drop (i + 1) recs) (left - length rec.method_def)) ≡ total) t (at_more recs i left rec total lt is more h)
