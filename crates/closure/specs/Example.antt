-- Rules for the tests, over six facts: 0 brings 1, 1 and 3 together bring 4, 4 brings 2, and 2 brings 5.
use Rattle.std.specs.Prelude.{◌≡◌, ℕ, ◌<◌, Bool, true, false, ◌==◌, List, [], ◌∷◌, if◌then◌else◌}
use Rattle.std.specs.List.{Contains}
use Rattle.std.proofs.Common.{zero, suc, refl, subst, arith}
use Rattle.closure.specs.Facts.{IsWithin}

-- what `fact` brings where `three` says that 3 is known
abbrev pub given : Bool → ℕ → List ℕ
given three fact =
    if fact == 0 then 1 ∷ []
    else if fact == 1 then (if three then 4 ∷ [] else [])
    else if fact == 4 then 2 ∷ []
    else if fact == 2 then 5 ∷ []
    else []

abbrev pub brings_by : (ℕ → Bool) → ℕ → ℕ → Type 0
brings_by have fact c = Contains (given (have 3) fact) c

one_below : (x c : ℕ) → x < 6 → Contains (x ∷ []) c → c < 6
one_below x c h (zero, inside, e) = subst (λ (n : ℕ). n < 6) e h
one_below x c h (suc k, inside, e) = absurd (omega arith)

none_below : (c : ℕ) → Contains [] c → c < 6
none_below c (k, inside, e) = absurd (omega arith)

given_below : (three : Bool) (b0 b1 b4 b2 : Bool) (c : ℕ)
    → Contains (if b0 then 1 ∷ [] else if b1 then (if three then 4 ∷ [] else []) else if b4 then 2 ∷ [] else if b2 then 5 ∷ [] else []) c → c < 6
given_below three true b1 b4 b2 c = one_below 1 c (omega arith)
given_below true false true b4 b2 c = one_below 4 c (omega arith)
given_below false false true b4 b2 c = none_below c
given_below three false false true b2 c = one_below 2 c (omega arith)
given_below three false false false true c = one_below 5 c (omega arith)
given_below three false false false false c = none_below c

pub stays_below : (have : ℕ → Bool) (fact c : ℕ) → fact < 6 → brings_by have fact c → c < 6
stays_below have fact c below = given_below (have 3) (fact == 0) (fact == 1) (fact == 4) (fact == 2) c

more_given : (few many b0 b1 b4 b2 : Bool) (c : ℕ) → (few ≡ true → many ≡ true)
    → Contains (if b0 then 1 ∷ [] else if b1 then (if few then 4 ∷ [] else []) else if b4 then 2 ∷ [] else if b2 then 5 ∷ [] else []) c
    → Contains (if b0 then 1 ∷ [] else if b1 then (if many then 4 ∷ [] else []) else if b4 then 2 ∷ [] else if b2 then 5 ∷ [] else []) c
more_given few many true b1 b4 b2 c more t = t
more_given true true false true b4 b2 c more t = t
more_given true false false true b4 b2 c more t = let e : false ≡ true = more refl in cc
more_given false true false true b4 b2 c more (k, inside, e) = absurd (omega arith)
more_given false false false true b4 b2 c more t = t
more_given few many false false b4 b2 c more t = t

pub is_monotone : (few many : ℕ → Bool) (fact c : ℕ) → fact < 6 → IsWithin few many → brings_by few fact c → brings_by many fact c
is_monotone few many fact c below within = more_given (few 3) (many 3) (fact == 0) (fact == 1) (fact == 4) (fact == 2) c (within 3)
