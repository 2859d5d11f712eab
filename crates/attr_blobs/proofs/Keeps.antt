-- A reader keeps to a grammar, and where what it reads has values, also what it refuses.
use Rattle.std.proofs.Common.{◌≡◌, ℕ, List, ◌++◌, Ok, refl, sym, ap, subst, ◌∙◌, append_assoc}
use Rattle.il_base.proofs.lemmas.blob_grammar.Law.{IsBytes, IsBytes-behind, Law, Inhabited, Then, Alone, both, then_law_where, alone_law, same_law, wider}
use Rattle.attr_blobs.specs.Texts.{Reader, ◌>>=◌, bad}
use Rattle.attr_blobs.proofs.Told.{told, tell, told_bind, made_told, pair_is, bind_ok}

-- A value was read from the front: it is spelled so.
pub record Found {A : Type 0} (R : A → List ℕ → Type 0) (bs : List ℕ) (x : A) (rest : List ℕ) : Type 0 where
  pub front : List ℕ
  pub parts : bs ≡ front ++ rest
  pub spelled : R x front

pub record Keeps {A : Type 0} (P : Type 0) (r : Reader A) (R : A → List ℕ → Type 0) : Type 0 where
  pub found : (bs : List ℕ) (x : A) (rest : List ℕ) → IsBytes bs → r bs ≡ Ok (x, rest) → Found R bs x rest
  pub law : P → Law (tell r) R

-- a reader that keeps to its grammar in any case
pub always : {A : Type 0} {P : Type 0} {r : Reader A} {R : A → List ℕ → Type 0} → Law (tell r) R → Keeps P r R
always law = record {
  found = λ bs x rest fits e. let t = law.takes bs x rest fits (ap told e) in record { front = t.front; parts = t.parts; spelled = t.spelled };
  law = λ p. law;
}

-- a reader that gives nothing, of what has no values
pub never_keeps : {A : Type 0} {P : Type 0} {r : Reader A} {R : A → List ℕ → Type 0} → (P → ⊥) → ((bs : List ℕ) → r bs ≡ bad bs) → Keeps P r R
never_keeps none is_bad = record {
  found = λ bs x rest fits e. absurd (let h = is_bad bs in cc);
  law = λ p. absurd (none p);
}

pub less_keeps : {A : Type 0} {P Q : Type 0} {r : Reader A} {R : A → List ℕ → Type 0} → (Q → P) → Keeps P r R → Keeps Q r R
less_keeps to k = record { found = k.found; law = λ q. k.law (to q) }

-- a grammar that has more
pub wider_keeps : {A : Type 0} {P : Type 0} {r : Reader A} {R S : A → List ℕ → Type 0} → ((x : A) (bs : List ℕ) → R x bs → S x bs) → Keeps P r R → Keeps P r S
wider_keeps to k = record {
  found = λ bs x rest fits e. let f = k.found bs x rest fits e in record { front = f.front; parts = f.parts; spelled = to x f.front f.spelled };
  law = λ p. wider to (k.law p);
}

-- the same reader, written otherwise
pub same_keeps : {A : Type 0} {P : Type 0} (r q : Reader A) (R : A → List ℕ → Type 0) → ((bs : List ℕ) → r bs ≡ q bs) → Keeps P q R → Keeps P r R
same_keeps r q R same k = record {
  found = λ bs x rest fits e. k.found bs x rest fits (sym (same bs) ∙ e);
  law = λ p. same_law (tell r) (tell q) R (λ bs. ap told (same bs)) (k.law p);
}

-- a value made of what was read
pub made_keeps : {A B : Type 0} {P : Type 0} (r : Reader A) (R : A → List ℕ → Type 0) (f : A → B) (S : B → List ℕ → Type 0) → ((x : A) (bs : List ℕ) → R x bs → S (f x) bs)
    → Keeps P r R → Keeps P (λ bs. r bs >>= λ x. Ok (f x.0, x.1)) S
made_keeps {B = B} r R f S to k = record {
  found = λ bs y rest fits e.
      let a = bind_ok (r bs) (λ x. Ok (f x.0, x.1)) (y, rest) e in
      let t = k.found bs a.0.0 a.0.1 fits a.1 in
      let same : (f a.0.0, a.0.1) ≡ (y, rest) = pair_is (f a.0.0, a.0.1) (y, rest) a.2 in
      subst (λ (v : B × List ℕ). Found S bs v.0 v.1) same (record { front = t.front; parts = t.parts; spelled = to a.0.0 t.front t.spelled });
  law = λ p. made_told r R f S to (k.law p);
}

-- one reader after another
pub then_keeps : {A B : Type 0} {P : Type 0} (r : Reader A) (R : A → List ℕ → Type 0) (q : A → Reader B) (Q : A → B → List ℕ → Type 0) (V : A → Type 0)
    → Keeps P r R → ((x : A) → Keeps (V x) (q x) (Q x)) → (P → (x : A) (front : List ℕ) → R x front → V x) → (P → (x : A) (front : List ℕ) → R x front → Inhabited (Q x))
    → Keeps P (λ bs. r bs >>= λ x. q x.0 x.1) (Then R Q)
then_keeps r R q Q V k ks values some = record {
  found = λ bs y rest fits e.
      let a = bind_ok (r bs) (λ x. q x.0 x.1) (y, rest) e in
      let t = k.found bs a.0.0 a.0.1 fits a.1 in
      let u = (ks a.0.0).found a.0.1 y rest (IsBytes-behind t.front a.0.1 (subst IsBytes t.parts fits)) a.2 in
      record {
        front = t.front ++ u.front;
        parts = t.parts ∙ ap (λ (s : List ℕ). t.front ++ s) u.parts ∙ sym (append_assoc t.front u.front rest);
        spelled = record { first = a.0.0; front = t.front; back = u.front; parts = refl; head = t.spelled; tail = u.spelled };
      };
  law = λ p.
      same_law (tell (λ bs. r bs >>= λ x. q x.0 x.1)) (both (tell r) R (λ x. tell (q x)) Q) (Then R Q)
      (λ bs. told_bind (r bs) (λ x. q x.0 x.1))
      (then_law_where (tell r) R (λ x. tell (q x)) Q (k.law p) (λ x front h. (ks x).law (values p x front h)) (some p));
}

-- nothing is read
pub alone_keeps : {A : Type 0} {P : Type 0} (made : A) → Keeps P (λ bs. Ok (made, bs)) (Alone made)
alone_keeps made = always (alone_law made)
