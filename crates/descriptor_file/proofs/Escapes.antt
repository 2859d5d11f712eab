-- The text that escaped bytes stand for, as a loop takes them from the front.
use Rattle.std.proofs.Common.{◌≡◌, ◌≢◌, ℕ, zero, suc, ◌<◌, true, false, List, [], ◌∷◌, ◌++◌, length, drop, get_or, Option, Some, None, refl, sym, ap, subst, ◌∙◌, arith, append_assoc, append-nil}
use Rattle.std.specs.Prelude.{◌==◌}
use Rattle.std.specs.Option.{option_map}
use Rattle.std.proofs.lemmas.Bool.{ne_eqb, eq-eqb}
use Rattle.descriptor_file.specs.Values.{entity, unescaped}

skipped : (k : ℕ) (bs : List ℕ) → unescaped k bs ≡ unescaped 0 (drop k bs)
unfolding unescaped
skipped zero bs = refl
skipped (suc k) [] = refl
skipped (suc k) (b ∷ bs) = skipped k bs

pub at_end : unescaped 0 [] ≡ Some []
unfolding unescaped
at_end = refl

pub refused : (rest : List ℕ) → 0 < length rest → get_or rest 0 0 ≡ 60 → unescaped 0 rest ≡ None
unfolding unescaped
refused [] h e = absurd (omega arith)
refused (b ∷ bs) h e = rw (eq-eqb b 60 e) refl

pub plain : (rest : List ℕ) → 0 < length rest → get_or rest 0 0 ≢ 60 → get_or rest 0 0 ≢ 38
    → unescaped 0 rest ≡ option_map (λ text. get_or rest 0 0 ∷ text) (unescaped 0 (drop 1 rest))
unfolding unescaped
plain [] h e f = absurd (omega arith)
plain (b ∷ bs) h e f = rw (ne_eqb b 60 e, ne_eqb b 38 f) refl

pub with_entity : (rest : List ℕ) (x : ℕ × ℕ) → 0 < length rest → get_or rest 0 0 ≡ 38 → entity (drop 1 rest) ≡ Some x
    → unescaped 0 rest ≡ option_map (λ text. x.0 ∷ text) (unescaped 0 (drop x.1 (drop 1 rest)))
unfolding unescaped
with_entity [] x h e f = absurd (omega arith)
with_entity (b ∷ bs) x h e f =
    subst (λ (n : ℕ). unescaped 0 (n ∷ bs) ≡ option_map (λ text. x.0 ∷ text) (unescaped 0 (drop x.1 bs))) (sym e) (rw f (ap (λ (o : Option (List ℕ)). option_map (λ text. x.0 ∷ text) o) (skipped x.1 bs)))

pub no_entity : (rest : List ℕ) → 0 < length rest → get_or rest 0 0 ≡ 38 → entity (drop 1 rest) ≡ None → unescaped 0 rest ≡ None
unfolding unescaped
no_entity [] h e f = absurd (omega arith)
no_entity (b ∷ bs) h e f = subst (λ (n : ℕ). unescaped 0 (n ∷ bs) ≡ None) (sym e) (rw f refl)

pub joined : (acc : List ℕ) (x : ℕ) (o : Option (List ℕ)) → option_map (λ more. acc ++ more) (option_map (λ text. x ∷ text) o) ≡ option_map (λ more. (acc ++ x ∷ []) ++ more) o
joined acc x None = refl
joined acc x (Some text) = ap (λ (t : List ℕ). Some t) (sym (append_assoc acc (x ∷ []) text))

-- ---- the loop: `acc` was read so far, and `rest` is left

nothing_more : (acc : List ℕ) (o r : Option (List ℕ)) → o ≡ None → option_map (λ more. acc ++ more) o ≡ r → None ≡ r
nothing_more acc o r e inv = subst (λ (x : Option (List ℕ)). option_map (λ more. acc ++ more) x ≡ r) e inv

module _ (acc rest raw : List ℕ) (some : 0 < length rest) (inv : option_map (λ more. acc ++ more) (unescaped 0 rest) ≡ unescaped 0 raw) where
  pub stops_at_tag : get_or rest 0 0 ≡ 60 → None ≡ unescaped 0 raw
  stops_at_tag e = nothing_more acc (unescaped 0 rest) (unescaped 0 raw) (refused rest some e) inv

  pub stops_at_entity : get_or rest 0 0 ≡ 38 → None ≡ entity (drop 1 rest) → None ≡ unescaped 0 raw
  stops_at_entity e f = nothing_more acc (unescaped 0 rest) (unescaped 0 raw) (no_entity rest some e (sym f)) inv

  pub goes_on : get_or rest 0 0 ≢ 60 → get_or rest 0 0 ≢ 38
      → option_map (λ more. (acc ++ get_or rest 0 0 ∷ []) ++ more) (unescaped 0 (drop 1 rest)) ≡ unescaped 0 raw
  goes_on e f =
      sym (joined acc (get_or rest 0 0) (unescaped 0 (drop 1 rest))) ∙ sym (ap (λ (o : Option (List ℕ)). option_map (λ more. acc ++ more) o) (plain rest some e f)) ∙ inv

  pub goes_past : (x : ℕ × ℕ) → get_or rest 0 0 ≡ 38 → Some x ≡ entity (drop 1 rest)
      → option_map (λ more. (acc ++ x.0 ∷ []) ++ more) (unescaped 0 (drop x.1 (drop 1 rest))) ≡ unescaped 0 raw
  goes_past x e f =
      sym (joined acc x.0 (unescaped 0 (drop x.1 (drop 1 rest)))) ∙ sym (ap (λ (o : Option (List ℕ)). option_map (λ more. acc ++ more) o) (with_entity rest x some e (sym f))) ∙ inv

pub all_read : (acc rest raw : List ℕ) → rest ≡ [] → option_map (λ more. acc ++ more) (unescaped 0 rest) ≡ unescaped 0 raw → Some acc ≡ unescaped 0 raw
all_read acc rest raw e inv =
    let f : option_map (λ more. acc ++ more) (unescaped 0 []) ≡ unescaped 0 raw = subst (λ (xs : List ℕ). option_map (λ more. acc ++ more) (unescaped 0 xs) ≡ unescaped 0 raw) e inv in
    let g : Some (acc ++ []) ≡ unescaped 0 raw = subst (λ (o : Option (List ℕ)). option_map (λ more. acc ++ more) o ≡ unescaped 0 raw) at_end f in
    rw append-nil at g

pub some_left : (rest : List ℕ) → false ≡ (length rest == 0) → 0 < length rest
some_left [] e = cc
some_left (b ∷ bs) e = omega arith

pub none_left : (rest : List ℕ) → true ≡ (length rest == 0) → rest ≡ []
none_left [] e = refl
none_left (b ∷ bs) e = let f : (length (b ∷ bs) == 0) ≡ false = ne_eqb (length (b ∷ bs)) 0 (λ h. omega arith) in cc
