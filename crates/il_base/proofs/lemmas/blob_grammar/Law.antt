-- What it means that a reader keeps to a grammar, and that readers put together keep to what their grammars make.
use Rattle.std.proofs.Common.{◌≡◌, ℕ, suc, ◌<◌, ◌⊎◌, inl, inr, List, [], ◌∷◌, ◌++◌, length, get_or, Result, Ok, Err, refl, sym, ap, subst, ◌∙◌, append_assoc}
use Rattle.std.proofs.lemmas.List.{append-nil}
use Rattle.il_base.specs.blob_grammar.Laws.{IsKind}
use Rattle.il_base.specs.blob_grammar.Reading.{Fault, Reader, ◌>>=◌}

abbrev pub IsBytes : List ℕ → Type 0
IsBytes bytes = (i : ℕ) → get_or bytes i 0 < 256

pub IsBytes-tail : (b : ℕ) (bytes : List ℕ) → IsBytes (b ∷ bytes) → IsBytes bytes
IsBytes-tail b bytes h i = h (suc i)

pub IsBytes-behind : (front rest : List ℕ) → IsBytes (front ++ rest) → IsBytes rest
IsBytes-behind [] rest h = h
IsBytes-behind (b ∷ front) rest h = IsBytes-behind front rest (IsBytes-tail b (front ++ rest) h)

-- A value was read from the front: it is spelled so, and whatever follows leaves it the same.
pub record Takes {A : Type 0} (r : Reader A) (R : A → List ℕ → Type 0) (bs : List ℕ) (x : A) (rest : List ℕ) : Type 0 where
  pub front : List ℕ
  pub parts : bs ≡ front ++ rest
  pub spelled : R x front
  pub again : (other : List ℕ) → r (front ++ other) ≡ Ok (x, other)

-- Whatever follows the bad byte, reading stops there.
abbrev pub Stops : {A : Type 0} → Reader A → ℕ → List ℕ → List ℕ → Type 0
Stops r what good [] = Unit {0}
Stops r what good (b ∷ _) = (more : List ℕ) → r (good ++ b ∷ more) ≡ Err (suc (length more), what)

-- A refusal: some value's spelling begins with the good bytes, and reading stops at the first bad one.
pub record Refuses {A : Type 0} (r : Reader A) (R : A → List ℕ → Type 0) (bs : List ℕ) (left what : ℕ) : Type 0 where
  pub good : List ℕ
  pub bad : List ℕ
  pub parts : bs ≡ good ++ bad
  pub left_is : length bad ≡ left
  pub value : A
  pub more : List ℕ
  pub begun : R value (good ++ more)
  pub stops : Stops r what good bad
  pub kind : IsKind what bad

pub record Law {A : Type 0} (r : Reader A) (R : A → List ℕ → Type 0) : Type 0 where
  pub takes : (bs : List ℕ) (x : A) (rest : List ℕ) → IsBytes bs → r bs ≡ Ok (x, rest) → Takes r R bs x rest
  pub refuses : (bs : List ℕ) (left what : ℕ) → IsBytes bs → r bs ≡ Err (left, what) → Refuses r R bs left what

-- some value has a spelling
pub record Inhabited {A : Type 0} (R : A → List ℕ → Type 0) : Type 0 where
  pub value : A
  pub bytes : List ℕ
  pub spelled : R value bytes

abbrev done : {A : Type 0} → A → Result A Fault
done x = Ok x

abbrev pub failed : {A : Type 0} → Fault → Result A Fault
failed d = Err d

pub ok_is : {A : Type 0} (x y : A) → done x ≡ done y → x ≡ y
ok_is x y e = cc

pub err_is : {A : Type 0} (c d : Fault) → failed {A = A} c ≡ failed d → c ≡ d
err_is c d e = cc

pub bind_ok : {A B : Type 0} (r : Result A Fault) (f : A → Result B Fault) (y : B) → (r >>= f) ≡ Ok y → (x : A) × (r ≡ Ok x) × (f x ≡ Ok y)
bind_ok (Ok x) f y e = (x, refl, e)
bind_ok (Err d) f y e = absurd cc

pub bind_err : {A B : Type 0} (r : Result A Fault) (f : A → Result B Fault) (d : Fault) → (r >>= f) ≡ Err d → (r ≡ Err d) ⊎ ((x : A) × (r ≡ Ok x) × (f x ≡ Err d))
bind_err (Ok x) f d e = inr (x, refl, e)
bind_err (Err c) f d e = inl cc

pub bind_is : {A B : Type 0} (r : Result A Fault) (f : A → Result B Fault) (x : A) (z : Result B Fault) → r ≡ Ok x → f x ≡ z → (r >>= f) ≡ z
bind_is (Ok y) f x z e h = ap f (ok_is y x e) ∙ h
bind_is (Err d) f x z e h = absurd cc

pub bind_stops : {A B : Type 0} (r : Result A Fault) (f : A → Result B Fault) (d : Fault) → r ≡ Err d → (r >>= f) ≡ Err d
bind_stops (Ok y) f d e = absurd cc
bind_stops (Err c) f d e = cc

-- ---- one reader after another

pub record Then {A B : Type 0} (R : A → List ℕ → Type 0) (Q : A → B → List ℕ → Type 0) (y : B) (bs : List ℕ) : Type 0 where
  pub first : A
  pub front : List ℕ
  pub back : List ℕ
  pub parts : bs ≡ front ++ back
  pub head : R first front
  pub tail : Q first y back

module _ {A B : Type 0} (r : Reader A) (R : A → List ℕ → Type 0) (q : A → Reader B) (Q : A → B → List ℕ → Type 0) where
  abbrev pub both : Reader B
  both bs = r bs >>= λ x. q x.0 x.1

  then_takes : Law r R → ((x : A) (front : List ℕ) → R x front → Law (q x) (Q x)) → (bs : List ℕ) (y : B) (rest : List ℕ) → IsBytes bs → both bs ≡ Ok (y, rest) → Takes both (Then R Q) bs y rest
  then_takes law laws bs y rest fits e =
      let a = bind_ok (r bs) (λ x. q x.0 x.1) (y, rest) e in
      let t = law.takes bs a.0.0 a.0.1 fits a.1 in
      let u = (laws a.0.0 t.front t.spelled).takes a.0.1 y rest (IsBytes-behind t.front a.0.1 (subst IsBytes t.parts fits)) a.2 in
      record {
        front = t.front ++ u.front;
        parts = t.parts ∙ ap (λ (s : List ℕ). t.front ++ s) u.parts ∙ sym (append_assoc t.front u.front rest);
        spelled = record { first = a.0.0; front = t.front; back = u.front; parts = refl; head = t.spelled; tail = u.spelled };
        again = λ other. bind_is (r ((t.front ++ u.front) ++ other)) (λ x. q x.0 x.1) (a.0.0, u.front ++ other) (Ok (y, other))
            (ap r (append_assoc t.front u.front other) ∙ t.again (u.front ++ other)) (u.again other);
      }

  stops_before : (what : ℕ) (good bad : List ℕ) → Stops r what good bad → Stops both what good bad
  stops_before what good [] h = tt
  stops_before what good (b ∷ bad) h = λ more. bind_stops (r (good ++ b ∷ more)) (λ x. q x.0 x.1) (suc (length more), what) (h more)

  stops_behind : (x : A) (front : List ℕ) → ((other : List ℕ) → r (front ++ other) ≡ Ok (x, other)) → (what : ℕ) (good bad : List ℕ) → Stops (q x) what good bad → Stops both what (front ++ good) bad
  stops_behind x front again what good [] h = tt
  stops_behind x front again what good (b ∷ bad) h = λ more. bind_is (r ((front ++ good) ++ b ∷ more)) (λ x. q x.0 x.1) (x, good ++ b ∷ more) (Err (suc (length more), what))
      (ap r (append_assoc front good (b ∷ more)) ∙ again (good ++ b ∷ more)) (h more)

  then_refuses : Law r R → ((x : A) (front : List ℕ) → R x front → Law (q x) (Q x)) → ((x : A) (front : List ℕ) → R x front → Inhabited (Q x)) → (bs : List ℕ) (left what : ℕ) → IsBytes bs → both bs ≡ Err (left, what) → Refuses both (Then R Q) bs left what
  then_refuses law laws some bs left what fits e =
      elim (bind_err (r bs) (λ x. q x.0 x.1) (left, what) e) [
        | inl here ↦
            let v = law.refuses bs left what fits here in
            let s = some v.value (v.good ++ v.more) v.begun in
            record {
              good = v.good;
              bad = v.bad;
              parts = v.parts;
              left_is = v.left_is;
              kind = v.kind;
              value = s.value;
              more = v.more ++ s.bytes;
              begun = record { first = v.value; front = v.good ++ v.more; back = s.bytes; parts = sym (append_assoc v.good v.more s.bytes); head = v.begun; tail = s.spelled };
              stops = stops_before what v.good v.bad v.stops;
            }
        | inr (x, was, there) ↦
            let t = law.takes bs x.0 x.1 fits was in
            let v = (laws x.0 t.front t.spelled).refuses x.1 left what (IsBytes-behind t.front x.1 (subst IsBytes t.parts fits)) there in
            record {
              good = t.front ++ v.good;
              bad = v.bad;
              parts = t.parts ∙ ap (λ (s : List ℕ). t.front ++ s) v.parts ∙ sym (append_assoc t.front v.good v.bad);
              left_is = v.left_is;
              kind = v.kind;
              value = v.value;
              more = v.more;
              begun = record { first = x.0; front = t.front; back = v.good ++ v.more; parts = append_assoc t.front v.good v.more; head = t.spelled; tail = v.begun };
              stops = stops_behind x.0 t.front t.again what v.good v.bad v.stops;
            }
      ]

  -- what follows is looked at only after a value that has a spelling
  pub then_law_where : Law r R → ((x : A) (front : List ℕ) → R x front → Law (q x) (Q x)) → ((x : A) (front : List ℕ) → R x front → Inhabited (Q x)) → Law both (Then R Q)
  then_law_where law laws some = record { takes = then_takes law laws; refuses = then_refuses law laws some }

  pub then_law : Law r R → ((x : A) → Law (q x) (Q x)) → ((x : A) → Inhabited (Q x)) → Law both (Then R Q)
  then_law law laws some = then_law_where law (λ x front h. laws x) (λ x front h. some x)

-- a value without bytes
pub record Alone {A : Type 0} (made y : A) (bs : List ℕ) : Type 0 where
  pub value : y ≡ made
  pub bytes : bs ≡ []

abbrev pub alone : {A : Type 0} → A → Reader A
alone made bs = Ok (made, bs)

pub alone_law : {A : Type 0} (made : A) → Law (alone made) (Alone made)
alone_law made = record {
  takes = λ bs x rest fits e. let p = ok_is (made, bs) (x, rest) e in
      record {
        front = [];
        parts = ap (λ (p : _ × List ℕ). p.1) p;
        spelled = record { value = sym (ap (λ (p : _ × List ℕ). p.0) p); bytes = refl };
        again = λ other. ap (λ v. Ok (v, other)) (ap (λ (p : _ × List ℕ). p.0) p);
      };
  refuses = λ bs left what fits e. absurd cc;
}

pub alone_some : {A : Type 0} (made : A) → Inhabited (Alone made)
alone_some made = record { value = made; bytes = []; spelled = record { value = refl; bytes = refl } }

pub then_some : {A B : Type 0} (R : A → List ℕ → Type 0) (Q : A → B → List ℕ → Type 0) → Inhabited R → ((x : A) → Inhabited (Q x)) → Inhabited (Then R Q)
then_some R Q a b =
    let c = b a.value in
    record { value = c.value; bytes = a.bytes ++ c.bytes; spelled = record { first = a.value; front = a.bytes; back = c.bytes; parts = refl; head = a.spelled; tail = c.spelled } }

-- a grammar that has more
pub wider : {A : Type 0} {r : Reader A} {R S : A → List ℕ → Type 0} → ((x : A) (bs : List ℕ) → R x bs → S x bs) → Law r R → Law r S
wider to law = record {
  takes = λ bs x rest fits e. let t = law.takes bs x rest fits e in
      record { front = t.front; parts = t.parts; spelled = to x t.front t.spelled; again = t.again };
  refuses = λ bs left what fits e. let v = law.refuses bs left what fits e in
      record { good = v.good; bad = v.bad; parts = v.parts; left_is = v.left_is; kind = v.kind; value = v.value; more = v.more; begun = to v.value (v.good ++ v.more) v.begun; stops = v.stops };
}

-- a value made of what was read
pub made_law : {A B : Type 0} (r : Reader A) (R : A → List ℕ → Type 0) (f : A → B) (S : B → List ℕ → Type 0) → ((x : A) (bs : List ℕ) → R x bs → S (f x) bs)
    → Law r R → Law (λ bs. r bs >>= λ x. Ok (f x.0, x.1)) S
made_law {B = B} r R f S to law =
    let whole : (y : B) (bs : List ℕ) → Then R (λ x. Alone (f x)) y bs → S y bs = λ (y : B) (bs : List ℕ) p.
    let same : bs ≡ p.front = p.parts ∙ ap (λ (b : List ℕ). p.front ++ b) p.tail.bytes ∙ append-nil p.front in
    rw (p.tail.value, same) (to p.first p.front p.head) in
    wider whole (then_law r R (λ x. alone (f x)) (λ x. Alone (f x)) law (λ x. alone_law (f x)) (λ x. alone_some (f x)))

-- the same reader, written otherwise
stops_same : {A : Type 0} (r q : Reader A) → ((bs : List ℕ) → r bs ≡ q bs) → (what : ℕ) (good bad : List ℕ) → Stops q what good bad → Stops r what good bad
stops_same r q same what good [] h = tt
stops_same r q same what good (b ∷ bad) h = λ more. same (good ++ b ∷ more) ∙ h more

pub same_law : {A : Type 0} (r q : Reader A) (R : A → List ℕ → Type 0) → ((bs : List ℕ) → r bs ≡ q bs) → Law q R → Law r R
same_law r q R same law = record {
  takes = λ bs x rest fits e. let t = law.takes bs x rest fits (sym (same bs) ∙ e) in
      record { front = t.front; parts = t.parts; spelled = t.spelled; again = λ other. same (t.front ++ other) ∙ t.again other };
  refuses = λ bs left what fits e. let v = law.refuses bs left what fits (sym (same bs) ∙ e) in
      record { good = v.good; bad = v.bad; parts = v.parts; left_is = v.left_is; kind = v.kind; value = v.value; more = v.more; begun = v.begun; stops = stops_same r q same what v.good v.bad v.stops };
}

-- ---- by the first byte

-- what a reader does after a first byte: it keeps to the grammar, or the byte is bad
pub data Behind {A : Type 0} (b : ℕ) (r : Reader A) (R : A → List ℕ → Type 0) : Type 0 where
  reads : Law r R → Behind b r R
  never : (what : ℕ) → IsKind what (b ∷ []) → ((bs : List ℕ) → r bs ≡ Err (suc (length bs), what)) → Behind b r R

module _ {A : Type 0} (r : Reader A) (R : A → List ℕ → Type 0) (some : Inhabited R) where
  abbrev pub AnyBehind : ℕ → Type 0
  AnyBehind b = Behind b (λ bs. r (b ∷ bs)) (λ x bs. R x (b ∷ bs))

  takes_behind : (b : ℕ) → AnyBehind b → (bs : List ℕ) (x : A) (rest : List ℕ) → IsBytes bs → r (b ∷ bs) ≡ Ok (x, rest) → Takes r R (b ∷ bs) x rest
  takes_behind b (reads law) bs x rest fits e =
      let t = law.takes bs x rest fits e in
      record { front = b ∷ t.front; parts = ap (λ (s : List ℕ). b ∷ s) t.parts; spelled = t.spelled; again = t.again }
  takes_behind b (never what k h) bs x rest fits e = absurd (let i = h bs in cc)

  stops_at : (b what : ℕ) (good bad : List ℕ) → Stops (λ bs. r (b ∷ bs)) what good bad → Stops r what (b ∷ good) bad
  stops_at b what good [] h = tt
  stops_at b what good (c ∷ bad) h = h

  refuses_behind : (b : ℕ) → AnyBehind b → (bs : List ℕ) (left what : ℕ) → IsBytes bs → r (b ∷ bs) ≡ Err (left, what) → Refuses r R (b ∷ bs) left what
  refuses_behind b (reads law) bs left what fits e =
      let v = law.refuses bs left what fits e in
      record {
        good = b ∷ v.good;
        bad = v.bad;
        parts = ap (λ (s : List ℕ). b ∷ s) v.parts;
        left_is = v.left_is;
        kind = v.kind;
        value = v.value;
        more = v.more;
        begun = v.begun;
        stops = stops_at b what v.good v.bad v.stops;
      }
  refuses_behind b (never was k h) bs left what fits e =
      let same : (suc (length bs), was) ≡ (left, what) = err_is {A = A × List ℕ} _ _ (sym (h bs) ∙ e) in
      record {
        good = [];
        bad = b ∷ bs;
        parts = refl;
        left_is = ap (λ (p : ℕ × ℕ). p.0) same;
        kind = subst (λ (w : ℕ). IsKind w (b ∷ bs)) (ap (λ (p : ℕ × ℕ). p.1) same) k;
        value = some.value;
        more = some.bytes;
        begun = some.spelled;
        stops = λ more. h more ∙ ap (λ (w : ℕ). Err (suc (length more), w)) (ap (λ (p : ℕ × ℕ). p.1) same);
      }

  takes_any : r [] ≡ Err (0, 5) → ((b : ℕ) → AnyBehind b) → (bs : List ℕ) (x : A) (rest : List ℕ) → IsBytes bs → r bs ≡ Ok (x, rest) → Takes r R bs x rest
  takes_any none each [] x rest fits e = absurd cc
  takes_any none each (b ∷ bs) x rest fits e = takes_behind b (each b) bs x rest (IsBytes-tail b bs fits) e

  refuses_any : r [] ≡ Err (0, 5) → ((b : ℕ) → AnyBehind b) → (bs : List ℕ) (left what : ℕ) → IsBytes bs → r bs ≡ Err (left, what) → Refuses r R bs left what
  refuses_any none each [] left what fits e =
      let same : (0, 5) ≡ (left, what) = err_is {A = A × List ℕ} _ _ (sym none ∙ e) in
      record {
        good = [];
        bad = [];
        parts = refl;
        left_is = ap (λ (p : ℕ × ℕ). p.0) same;
        kind = inl (sym (ap (λ (p : ℕ × ℕ). p.1) same));
        value = some.value;
        more = some.bytes;
        begun = some.spelled;
        stops = tt;
      }
  refuses_any none each (b ∷ bs) left what fits e = refuses_behind b (each b) bs left what (IsBytes-tail b bs fits) e

  pub any_law : r [] ≡ Err (0, 5) → ((b : ℕ) → AnyBehind b) → Law r R
  any_law none each = record { takes = takes_any none each; refuses = refuses_any none each }
