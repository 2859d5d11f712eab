-- The laws of readers, at the readers of attribute values.
use Rattle.std.proofs.Common.{◌≡◌, ℕ, List, Result, Ok, Err, refl, sym, ap, ◌∙◌}
use Rattle.il_base.specs.blob_grammar.Reading as reading
use Rattle.il_base.specs.blob_grammar.Reading.{Fault}
use Rattle.il_base.proofs.lemmas.blob_grammar.Law.{Law, Inhabited, Then, both, then_law, made_law, same_law, err_is}
use Rattle.attr_blobs.specs.Texts.{Read, Reader, ◌>>=◌}

-- a fault with nothing told of it
abbrev pub told : {A : Type 0} → Read A → Result A Fault
told (Ok x) = Ok x
told (Err left) = Err (left, 5)

abbrev pub tell : {A : Type 0} → Reader A → reading.Reader A
tell r = λ bs. told (r bs)

pub told_bind : {A B : Type 0} (m : Read A) (f : A → Read B) → told (m >>= f) ≡ reading.◌>>=◌ (told m) (λ x. told (f x))
told_bind (Ok x) f = refl
told_bind (Err left) f = refl

told_made : {A B : Type 0} (m : Read (A × List ℕ)) (f : A → B) → told {A = B × List ℕ} (m >>= λ x. Ok (f x.0, x.1)) ≡ reading.◌>>=◌ (told m) (λ x. Ok (f x.0, x.1))
told_made (Ok x) f = refl
told_made (Err left) f = refl

pub told_ok : {A : Type 0} (m : Read A) (x : A) → told m ≡ Ok x → m ≡ Ok x
told_ok (Ok y) x e = cc
told_ok (Err left) x e = absurd cc

pub told_err : {A : Type 0} (m : Read A) (left what : ℕ) → told m ≡ Err (left, what) → (m ≡ Err left) × (what ≡ 5)
told_err (Ok y) left what e = absurd cc
told_err {A = A} (Err l) left what e =
    let same : (l, 5) ≡ (left, what) = err_is {A = A} (l, 5) (left, what) e in
    (ap (λ (p : ℕ × ℕ). Err p.0) same, sym (ap (λ (p : ℕ × ℕ). p.1) same))

-- one reader after another
pub then_told : {A B : Type 0} (r : Reader A) (R : A → List ℕ → Type 0) (q : A → Reader B) (Q : A → B → List ℕ → Type 0)
    → Law (tell r) R → ((x : A) → Law (tell (q x)) (Q x)) → ((x : A) → Inhabited (Q x)) → Law (tell (λ bs. r bs >>= λ x. q x.0 x.1)) (Then R Q)
then_told r R q Q law laws some =
    same_law (tell (λ bs. r bs >>= λ x. q x.0 x.1)) (both (tell r) R (λ x. tell (q x)) Q) (Then R Q)
    (λ bs. told_bind (r bs) (λ x. q x.0 x.1)) (then_law (tell r) R (λ x. tell (q x)) Q law laws some)

-- a value made of what was read
pub made_told : {A B : Type 0} (r : Reader A) (R : A → List ℕ → Type 0) (f : A → B) (S : B → List ℕ → Type 0) → ((x : A) (bs : List ℕ) → R x bs → S (f x) bs)
    → Law (tell r) R → Law (tell (λ bs. r bs >>= λ x. Ok (f x.0, x.1))) S
made_told r R f S to law =
    same_law (tell (λ bs. r bs >>= λ x. Ok (f x.0, x.1))) (λ bs. reading.◌>>=◌ (told (r bs)) (λ x. Ok (f x.0, x.1))) S
    (λ bs. told_made (r bs) f) (made_law (tell r) R f S to law)

abbrev done : {A : Type 0} → A → Read A
done x = Ok x

pub pair_is : {A : Type 0} (x y : A) → done x ≡ done y → x ≡ y
pair_is x y e = cc

pub bind_is : {A B : Type 0} (r : Read A) (f : A → Read B) (x : A) (z : Read B) → r ≡ Ok x → f x ≡ z → (r >>= f) ≡ z
bind_is (Ok y) f x z e h = ap f (pair_is y x e) ∙ h
bind_is (Err d) f x z e h = absurd cc

pub bind_ok : {A B : Type 0} (r : Read A) (f : A → Read B) (y : B) → (r >>= f) ≡ Ok y → (x : A) × (r ≡ Ok x) × (f x ≡ Ok y)
bind_ok (Ok x) f y e = (x, refl, e)
bind_ok (Err d) f y e = absurd cc
