-- The full name System.Type: no full stop is in either of its parts, so it is had with this namespace alone, or without one.
use Rattle.std.proofs.Common.{◌≡◌, ℕ, List, [], ◌∷◌, ◌++◌, Bool, true, false, true≢false, refl, sym, ap, ◌∙◌, append_assoc}
use Rattle.std.specs.Prelude.{codes, nat_eq, ◌&&◌, ◌||◌, ◌==◌}
use Rattle.std.specs.Cmp.{nat_eq_equiv}
use Rattle.std.specs.List.{list_any}
use Rattle.il_base.specs.world_model.Core.{same_name}
use Rattle.rules.specs.type_rules.Texts.{full_name_of}

-- a full stop
abbrev dot : ℕ
dot = 46

abbrev has_dot : List ℕ → Bool
has_dot xs = list_any (λ c. c == dot) xs

and_assoc : (a b c : Bool) → (a && (b && c)) ≡ (a && b && c)
and_assoc true b c = refl
and_assoc false b c = refl

and_false : (a : Bool) → (a && false) ≡ false
and_false true = refl
and_false false = refl

or_false : (a : Bool) → (a || false) ≡ a
or_false true = refl
or_false false = refl

first_false : (a b : Bool) → (a || b) ≡ false → a ≡ false
first_false true b e = e
first_false false b e = refl

rest_false : (a b : Bool) → (a || b) ≡ false → b ≡ false
rest_false true b e = absurd (true≢false e)
rest_false false b e = e

no_dot : (z : ℕ) (zs : List ℕ) → has_dot (z ∷ zs) ≡ false → nat_eq dot z ≡ false
no_dot z zs h = nat_eq_equiv.symm dot z ∙ first_false (nat_eq z dot) (has_dot zs) h

-- a list with a full stop is no list without one
none_same : (xs ys zs : List ℕ) → has_dot zs ≡ false → same_name (xs ++ dot ∷ ys) zs ≡ false
none_same [] ys [] h = refl
none_same [] ys (z ∷ zs) h = ap (λ (b : Bool). b && same_name ys zs) (no_dot z zs h)
none_same (x ∷ xs) ys [] h = refl
none_same (x ∷ xs) ys (z ∷ zs) h = ap (λ (b : Bool). nat_eq x z && b) (none_same xs ys zs (rest_false (nat_eq z dot) (has_dot zs) h)) ∙ and_false (nat_eq x z)

same_parts : (ns name p q : List ℕ) → has_dot p ≡ false → has_dot q ≡ false → same_name (ns ++ dot ∷ name) (p ++ dot ∷ q) ≡ (same_name ns p && same_name name q)
same_parts [] name [] q hp hq = refl
same_parts [] name (d ∷ p) q hp hq = ap (λ (b : Bool). b && same_name name (p ++ dot ∷ q)) (no_dot d p hp)
same_parts (c ∷ ns) name [] q hp hq = ap (λ (b : Bool). nat_eq c dot && b) (none_same ns name q hq) ∙ and_false (nat_eq c dot)
same_parts (c ∷ ns) name (d ∷ p) q hp hq =
    ap (λ (b : Bool). nat_eq c d && b) (same_parts ns name p q (rest_false (nat_eq d dot) (has_dot p) hp) hq) ∙ and_assoc (nat_eq c d) (same_name ns p) (same_name name q)

pub by_parts : (ns name : List ℕ) → same_name (full_name_of ns name) (codes "System.Type")
    ≡ ((same_name ns [] && same_name name (codes "System.Type")) || (same_name ns (codes "System") && same_name name (codes "Type")))
by_parts [] name = sym (or_false (same_name name (codes "System.Type")))
by_parts (c ∷ cs) name =
    ap (λ (xs : List ℕ). same_name xs (codes "System.Type")) (append_assoc (c ∷ cs) (dot ∷ []) name)
    ∙ same_parts (c ∷ cs) name (codes "System") (codes "Type") refl refl
