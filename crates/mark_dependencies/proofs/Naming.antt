-- Names with `#ctor`, and short ones.
use Rattle.std.proofs.Common.{◌≡◌, ℕ, suc, ◌<◌, ◌≤◌, ◌-◌, get_or, List, [], ◌∷◌, length, take, drop, Bool, true, false, refl, sym, ap, ◌∙◌, arith}
use Rattle.std.specs.Prelude.{codes, ◌||◌, if◌then◌else◌}
use Rattle.std.proofs.lemmas.List.{take_all}
use Rattle.il_base.specs.world_model.Core.{same_name}
use Rattle.rules.specs.mark_rules.Dependencies.{plain}
use Rattle.mark_dependencies.specs.Names.{first_letter}

pub short : (name : List ℕ) → length name < 6 → name ≡ take 6 name
short name b = sym (take_all 6 name (omega arith))

by_letter : (b : Bool) (c : ℕ) (cs : List ℕ) → (if b then 0x2e else c) ∷ cs ≡ (if b then 0x2e ∷ cs else c ∷ cs)
by_letter true c cs = refl
by_letter false c cs = refl

pub letter_put : (c : ℕ) (cs : List ℕ) → first_letter (c ∷ cs) c ∷ cs ≡ plain (c ∷ cs)
letter_put c cs = by_letter (same_name (c ∷ cs) (codes "#ctor") || same_name (take 6 (c ∷ cs)) (codes "#ctor(")) c cs

pub plain_cut : (name text : List ℕ) (d : ℕ) → 1 ≤ length name → text ≡ first_letter name (get_or name 0 d) ∷ take (length name - 1) (drop 1 name) → text ≡ plain name
plain_cut [] text d h p = absurd (omega arith)
plain_cut (c ∷ cs) text d h p =
    p ∙ ap (λ (ys : List ℕ). first_letter (c ∷ cs) c ∷ ys) (take_all (suc (length cs) - 1) cs (omega arith)) ∙ letter_put c cs

pub plain_none : (name : List ℕ) → length name < 1 → [] ≡ plain name
plain_none [] h = refl
plain_none (c ∷ cs) h = absurd (omega arith)
