-- Lists at the end of others.
use Rattle.std.proofs.Common.{◌≡◌, List, [], ◌++◌, sym, ap, ◌∙◌, append_assoc}
use Rattle.std.proofs.lemmas.List.{append-nil}

pub none_more : {A : Type 0} (out : List A) → out ++ [] ≡ out
none_more out = append-nil out

pub two_put : {A : Type 0} (out xs ys : List A) → (out ++ xs) ++ ys ≡ out ++ (xs ++ ys)
two_put out xs ys = append_assoc out xs ys

pub three_put : {A : Type 0} (out xs ys zs : List A) → ((out ++ xs) ++ ys) ++ zs ≡ out ++ ((xs ++ ys) ++ zs)
three_put out xs ys zs = ap (λ (ws : _). ws ++ zs) (append_assoc out xs ys) ∙ append_assoc out (xs ++ ys) zs

regrouped : {A : Type 0} (rs xs ys zs : List A) → rs ++ ((xs ++ ys) ++ zs) ≡ ((rs ++ xs) ++ ys) ++ zs
regrouped rs xs ys zs = sym (append_assoc rs (xs ++ ys) zs) ∙ ap (λ (ws : _). ws ++ zs) (sym (append_assoc rs xs ys))

-- what stands first, three in the middle, and what stands last
pub all_put : {A : Type 0} (out rs xs ys zs last : List A) → ((out ++ rs) ++ ((xs ++ ys) ++ zs)) ++ last ≡ out ++ ((((rs ++ xs) ++ ys) ++ zs) ++ last)
all_put out rs xs ys zs last =
    ap (λ (ws : _). ws ++ last) (append_assoc out rs ((xs ++ ys) ++ zs) ∙ ap (λ (ws : _). out ++ ws) (regrouped rs xs ys zs)) ∙ append_assoc out (((rs ++ xs) ++ ys) ++ zs) last
