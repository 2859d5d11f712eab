-- Lists at the end of others.
use Rattle.std.proofs.Common.{◌≡◌, List, [], ◌++◌, append_assoc, ap, sym, ◌∙◌}
use Rattle.std.proofs.lemmas.List.{append-nil}

pub two_put : {A : Type 0} (out xs ys : List A) → (out ++ xs) ++ ys ≡ out ++ (xs ++ ys)
two_put out xs ys = append_assoc out xs ys

pub three_put : {A : Type 0} (out xs ys zs : List A) → ((out ++ xs) ++ ys) ++ zs ≡ out ++ ((xs ++ ys) ++ zs)
three_put out xs ys zs = ap (λ (l : List _). l ++ zs) (append_assoc out xs ys) ∙ append_assoc out (xs ++ ys) zs

pub none_more : {A : Type 0} (out : List A) → out ++ [] ≡ out
none_more out = append-nil out

-- three parts of three
pub nine_put : {A : Type 0} (out a b c d e f g h i : List A)
    → ((out ++ ((a ++ b) ++ c)) ++ ((d ++ e) ++ f)) ++ ((g ++ h) ++ i) ≡ out ++ ((((((((a ++ b) ++ c) ++ d) ++ e) ++ f) ++ g) ++ h) ++ i)
nine_put out a b c d e f g h i =
    three_put out ((a ++ b) ++ c) ((d ++ e) ++ f) ((g ++ h) ++ i)
    ∙ ap (λ (l : List _). out ++ (l ++ ((g ++ h) ++ i))) (sym (three_put ((a ++ b) ++ c) d e f))
    ∙ ap (λ (l : List _). out ++ l) (sym (three_put (((((a ++ b) ++ c) ++ d) ++ e) ++ f) g h i))
