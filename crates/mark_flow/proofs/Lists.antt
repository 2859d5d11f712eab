-- Lists at the end of others.
use Rattle.std.proofs.Common.{◌≡◌, List, [], ◌∷◌, ◌++◌, Bool, sym, append_assoc}
use Rattle.std.specs.List.{filter}
use Rattle.std.proofs.lemmas.List.{append-nil}
use Rattle.std.proofs.lemmas.List.Elements.{filter-append}

pub none_more : {A : Type 0} (out : List A) → out ++ [] ≡ out
none_more out = append-nil out

pub first_then : {A : Type 0} (out xs : List A) (x : A) → (out ++ x ∷ []) ++ xs ≡ out ++ x ∷ xs
first_then out xs x = append_assoc out (x ∷ []) xs

pub three_put : {A : Type 0} (out xs ys zs : List A) → ((out ++ xs) ++ ys) ++ zs ≡ out ++ ((xs ++ ys) ++ zs)
three_put out xs ys zs = simp append_assoc

pub four_put : {A : Type 0} (out ws xs ys zs : List A) → (((out ++ ws) ++ xs) ++ ys) ++ zs ≡ out ++ (((ws ++ xs) ++ ys) ++ zs)
four_put out ws xs ys zs = simp append_assoc

pub filter_both : {A : Type 0} (p : A → Bool) (xs ys : List A) → filter p xs ++ filter p ys ≡ filter p (xs ++ ys)
filter_both p xs ys = sym (filter-append p xs ys)
