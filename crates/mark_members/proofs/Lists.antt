-- Lists at the end of others.
use Rattle.std.proofs.Common.{◌≡◌, List, [], ◌∷◌, ◌++◌, map, sym, ap, ◌∙◌, append_assoc}
use Rattle.std.proofs.lemmas.List.{map-append}

pub two_put : {A : Type 0} (out xs ys : List A) → (out ++ xs) ++ ys ≡ out ++ (xs ++ ys)
two_put out xs ys = append_assoc out xs ys

pub first_then : {A : Type 0} (out xs : List A) (x : A) → (out ++ x ∷ []) ++ xs ≡ out ++ x ∷ xs
first_then out xs x = append_assoc out (x ∷ []) xs

pub first_and_two : {A : Type 0} (out xs ys : List A) (x : A) → ((out ++ x ∷ []) ++ xs) ++ ys ≡ out ++ (x ∷ xs ++ ys)
first_and_two out xs ys x = simp append_assoc

pub three_put : {A : Type 0} (out xs ys zs : List A) → ((out ++ xs) ++ ys) ++ zs ≡ out ++ ((xs ++ ys) ++ zs)
three_put out xs ys zs = simp append_assoc

pub methods_put : {A B : Type 0} (f : A → B) (out ys : List B) (cs ms : List A) → ((out ++ map f cs) ++ map f ms) ++ ys ≡ out ++ (map f (cs ++ ms) ++ ys)
methods_put f out ys cs ms = append_assoc (out ++ map f cs) (map f ms) ys ∙ append_assoc out (map f cs) (map f ms ++ ys) ∙ ap (λ (xs : List _). out ++ xs) (sym (append_assoc (map f cs) (map f ms) ys) ∙ ap (λ (xs : List _). xs ++ ys) (sym (map-append f cs ms)))

pub members_put : {A : Type 0} (out a b c d e g : List A) → ((out ++ (a ++ b)) ++ (c ++ d)) ++ (e ++ g) ≡ out ++ (((((a ++ b) ++ c) ++ d) ++ e) ++ g)
members_put out a b c d e g = simp append_assoc
