-- Places of clauses, from the last clause to the first.
use Rattle.std.proofs.Common.{◌≡◌, ℕ, suc, ◌-◌, ◌<◌, ◌≤◌, Bool, true, false, List, [], ◌∷◌, length, drop, get_or, refl, ap, ◌∙◌, arith}
use Rattle.std.proofs.Math.Seq.{drop-cons, drop-length}
use Rattle.il_base.specs.declared.cil_values.resolved.Clause.{Clause}
use Rattle.rules.specs.step_rules.Raising.{places_of, add_if}

pub places_past : (test : Clause → Bool) (cs : List Clause) → places_of test (length cs) (drop (length cs) cs) ≡ []
unfolding places_of
places_past test cs = ap (places_of test (length cs)) (drop-length cs)

places_at : (test : Clause → Bool) (cs : List Clause) (m n : ℕ) (c : Clause) → n ≡ suc m → m < length cs → c ≡ get_or cs m c → places_of test m (drop m cs) ≡ add_if (test c) m (places_of test n (drop n cs))
unfolding places_of
places_at test cs m n c e h is = ap (places_of test m) (drop-cons cs m c h) ∙ rw (← is, e) refl

pub places_in : (test : Clause → Bool) (cs : List Clause) (n : ℕ) (c : Clause) → 0 < n → n ≤ length cs → c ≡ get_or cs (n - 1) c → test c ≡ true → places_of test (n - 1) (drop (n - 1) cs) ≡ (n - 1) ∷ places_of test n (drop n cs)
places_in test cs n c pos le is so =
    let e : n ≡ suc (n - 1) = omega arith in
    let h : n - 1 < length cs = omega arith in
    places_at test cs (n - 1) n c e h is ∙ ap (λ b. add_if b (n - 1) (places_of test n (drop n cs))) so

pub places_out : (test : Clause → Bool) (cs : List Clause) (n : ℕ) (c : Clause) → 0 < n → n ≤ length cs → c ≡ get_or cs (n - 1) c → test c ≡ false → places_of test (n - 1) (drop (n - 1) cs) ≡ places_of test n (drop n cs)
places_out test cs n c pos le is out =
    let e : n ≡ suc (n - 1) = omega arith in
    let h : n - 1 < length cs = omega arith in
    places_at test cs (n - 1) n c e h is ∙ ap (λ b. add_if b (n - 1) (places_of test n (drop n cs))) out
