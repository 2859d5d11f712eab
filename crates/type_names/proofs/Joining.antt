-- Texts with commas between, one more at a time.
use Rattle.std.proofs.Common.{◌≡◌, ℕ, zero, suc, ◌+◌, ◌<◌, ◌≤◌, List, [], ◌∷◌, ◌++◌, codes, length, map, drop, get_or, refl, sym, ap, ◌∙◌, append_assoc, add-one, drop-cons, arith}
use Rattle.std.proofs.lemmas.List.{append-nil}
use Rattle.std.proofs.Math.ListN.{drop_of_length-le}
use Rattle.rules.specs.type_rules.Texts.{joined}
use Rattle.type_names.specs.Commas.{separator}

-- those that are left after a number of others
abbrev pub joined_behind : ℕ → List (List ℕ) → List ℕ
joined_behind i [] = []
joined_behind i (x ∷ xs) = separator i ++ x ++ joined_behind (suc i) xs

behind_one : (x : List ℕ) (xs : List (List ℕ)) (n : ℕ) → joined (x ∷ xs) ≡ x ++ joined_behind (suc n) xs
behind_one x [] n = sym (append-nil x)
behind_one x (y ∷ ys) n = ap (λ (t : List ℕ). (x ++ codes ",") ++ t) (behind_one y ys (suc n)) ∙ simp append_assoc

pub joined_all : (xs : List (List ℕ)) → joined xs ≡ joined_behind 0 xs
joined_all [] = refl
joined_all (x ∷ xs) = behind_one x xs 0

pub no_comma : (i : ℕ) (out : List ℕ) → i ≤ 0 → out ≡ out ++ separator i
no_comma zero out h = sym (append-nil out)
no_comma (suc i) out h = absurd (omega arith)

pub comma : (i : ℕ) → 0 < i → 44 ∷ [] ≡ separator i
comma zero h = absurd (omega arith)
comma (suc i) h = refl

pub one_more : {A : Type 0} (f : A → List ℕ) (xs : List A) (i : ℕ) (x : A) (out parted put full : List ℕ) →
    i < length xs → x ≡ get_or xs i x → parted ≡ out ++ separator i → put ≡ parted ++ f x →
    out ++ joined_behind i (map f (drop i xs)) ≡ full → put ++ joined_behind (i + 1) (map f (drop (i + 1) xs)) ≡ full
one_more f xs i x out parted put full l e s p h =
    rw (p, s, add-one) (simp append_assoc (simp append_assoc at (rw (drop-cons xs i x, ← e) at h)))

pub all_joined : {A : Type 0} (f : A → List ℕ) (xs : List A) (i : ℕ) (out first : List ℕ) → length xs ≤ i →
    out ++ joined_behind i (map f (drop i xs)) ≡ first ++ joined_behind 0 (map f xs) → out ≡ first ++ joined (map f xs)
all_joined f xs i out first l h = rw (joined_all (map f xs)) (sym (append-nil out) ∙ (rw (drop_of_length-le xs l) at h))
