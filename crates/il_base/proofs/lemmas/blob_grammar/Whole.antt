-- A blob that is read to its end.
use Rattle.std.proofs.Common.{◌≡◌, ℕ, suc, ◌+◌, ◌-◌, inl, inr, List, [], ◌∷◌, ◌++◌, length, take, drop, Result, Ok, Err, refl, sym, ap, subst, ◌∙◌, arith, length-append}
use Rattle.std.proofs.lemmas.List.{append-nil, take_at, drop_at}
use Rattle.il_base.specs.blob_grammar.Laws.{AreBytes, IsFirstBad, IsKind, Reads, Writes}
use Rattle.il_base.specs.blob_grammar.Reading.{Fault, Reader, ◌>>=◌, ended, placed, whole}
use Rattle.il_base.proofs.lemmas.blob_grammar.Law.{Law, Takes, Stops, bind_ok, bind_err, bind_is, bind_stops, failed, err_is}

same_front : (good : List ℕ) (b : ℕ) (bad other : List ℕ) → take (suc (length good)) other ≡ take (suc (length good)) (good ++ b ∷ bad) → other ≡ good ++ b ∷ drop (suc (length good)) other
same_front [] b bad [] e = absurd cc
same_front [] b bad (c ∷ other) e = let h : c ≡ b = cc in ap (λ (n : ℕ). n ∷ other) h
same_front (g ∷ good) b bad [] e = absurd cc
same_front (g ∷ good) b bad (c ∷ other) e =
    let h : c ≡ g = cc in
    let t : take (suc (length good)) other ≡ take (suc (length good)) (good ++ b ∷ bad) = cc in
    let i = same_front good b bad other t in
    ap (λ (n : ℕ). n ∷ other) h ∙ ap (λ (l : List ℕ). g ∷ l) i

same_whole : (good other : List ℕ) → take (suc (length good)) other ≡ take (suc (length good)) (good ++ []) → other ≡ good
same_whole [] [] e = refl
same_whole [] (c ∷ other) e = absurd cc
same_whole (g ∷ good) [] e = absurd cc
same_whole (g ∷ good) (c ∷ other) e =
    let h : c ≡ g = cc in
    let t : take (suc (length good)) other ≡ take (suc (length good)) (good ++ []) = cc in
    let i = same_whole good other t in
    ap (λ (n : ℕ). n ∷ other) h ∙ ap (λ (l : List ℕ). g ∷ l) i

placed_ok : {A : Type 0} (size : ℕ) (m : Result A Fault) (x : A) → placed size m ≡ Ok x → m ≡ Ok x
placed_ok size (Ok y) x e = e
placed_ok size (Err f) x e = absurd cc

placed_is : {A : Type 0} (size : ℕ) (m : Result A Fault) (x : A) → m ≡ Ok x → placed size m ≡ Ok x
placed_is size (Ok y) x e = e
placed_is size (Err f) x e = absurd cc

placed_stops : {A : Type 0} (size : ℕ) (m : Result A Fault) (f : Fault) (x : A) → m ≡ Err f → placed size m ≡ Ok x → ⊥
placed_stops size (Ok y) f x e h = cc
placed_stops size (Err g) f x e h = cc

placed_err : {A : Type 0} (size : ℕ) (m : Result A Fault) (at what : ℕ) → placed size m ≡ Err (at, what) → (left : ℕ) × (m ≡ Err (left, what)) × (at ≡ size - left)
placed_err size (Ok y) at what e = absurd cc
placed_err {A = A} size (Err f) at what e =
    let same : (size - f.0, f.1) ≡ (at, what) = err_is {A = A} (size - f.0, f.1) (at, what) e in
    (f.0, ap (λ (w : ℕ). Err (f.0, w)) (ap (λ (p : ℕ × ℕ). p.1) same), sym (ap (λ (p : ℕ × ℕ). p.0) same))

left_is : {A : Type 0} (size left what : ℕ) → failed {A = A} (size, 5) ≡ failed (left, what) → left ≡ size
left_is {A = A} size left what e = ap (λ (p : ℕ × ℕ). p.0) (err_is {A = A} (left, what) (size, 5) (sym e))

ended_ok : {A : Type 0} (y : A × List ℕ) (x : A) → ended y ≡ Ok x → (y.0 ≡ x) × (y.1 ≡ [])
ended_ok (y, []) x e = (cc, refl)
ended_ok (y, b ∷ bs) x e = absurd cc

ended_err : {A : Type 0} (y : A × List ℕ) (left what : ℕ) → ended y ≡ Err (left, what) → what ≡ 5
ended_err (x, []) left what e = absurd cc
ended_err {A = A} (x, b ∷ bs) left what e = ap (λ (p : ℕ × ℕ). p.1) (err_is {A = A} (left, what) (suc (length bs), 5) (sym e))

module _ {A : Type 0} (r : Reader A) (R : A → List ℕ → Type 0) (law : Law r R) (again : (x : A) (bs : List ℕ) → R x bs → (rest : List ℕ) → r (bs ++ rest) ≡ Ok (x, rest)) where
  abbrev reads : List ℕ → Result A (ℕ × ℕ)
  reads bs = whole (length bs) (r bs)

  only : (bs : List ℕ) (x : A) → R x bs → reads bs ≡ Ok x
  only bs x h = placed_is (length bs) (r bs >>= λ y. ended y) x (bind_is (r bs) (λ y. ended y) (x, []) (Ok x) (ap r (sym (append-nil bs)) ∙ again x bs h []) refl)

  found : (bs : List ℕ) (x : A) → AreBytes bs → reads bs ≡ Ok x → R x bs
  found bs x fits e =
      let a = bind_ok (r bs) (λ y. ended y) x (placed_ok (length bs) (r bs >>= λ y. ended y) x e) in
      let d = ended_ok a.0 x a.2 in
      let t = law.takes bs a.0.0 a.0.1 fits a.1 in
      let same : t.front ≡ bs = sym (append-nil t.front) ∙ ap (λ (l : List ℕ). t.front ++ l) (sym d.1) ∙ sym t.parts in
      subst (λ (y : A). R y bs) d.0 (subst (λ (l : List ℕ). R a.0.0 l) same t.spelled)

  -- no reading goes on past a place
  Halts : List ℕ → List ℕ → Type 0
  Halts good [] = (x : A) → reads (good ++ []) ≡ Ok x → ⊥
  Halts good (b ∷ _) = (x : A) (more : List ℕ) → reads (good ++ b ∷ more) ≡ Ok x → ⊥

  never_at : (good bad : List ℕ) → Halts good bad → (x : A) (other : List ℕ) → R x other → take (suc (length good)) other ≡ take (suc (length good)) (good ++ bad) → ⊥
  unfolding Halts
  never_at good [] h x other spelled e = h x (ap reads (append-nil good ∙ sym (same_whole good other e)) ∙ only other x spelled)
  never_at good (b ∷ bad) h x other spelled e = h x (drop (suc (length good)) other) (ap reads (sym (same_front good b bad other e)) ∙ only other x spelled)

  first_bad : (bs good bad : List ℕ) (at : ℕ) → bs ≡ good ++ bad → at ≡ length good → (value : A) (more : List ℕ) → R value (good ++ more) → Halts good bad → IsFirstBad R bs at
  first_bad bs good bad at parts place value more begun halts =
      let front : take at (good ++ bad) ≡ good = take_at good bad at (sym place) in
      rw (parts) (record {
        within = omega (arith, length-append good bad, place);
        begun = (value, more, rw front begun);
        never = λ x other spelled e. never_at good bad halts x other spelled (subst (λ (n : ℕ). take (suc n) other ≡ take (suc n) (good ++ bad)) place e);
      })

  halts_inside : (what : ℕ) (good bad : List ℕ) → Stops r what good bad → (left : ℕ) → r (good ++ bad) ≡ Err (left, what) → Halts good bad
  unfolding Halts
  halts_inside what good [] h left e = λ x k. placed_stops (length (good ++ [])) (r (good ++ []) >>= λ y. ended y) (left, what) x (bind_stops (r (good ++ [])) (λ y. ended y) (left, what) e) k
  halts_inside what good (b ∷ bad) h left e = λ x more k.
      placed_stops (length (good ++ b ∷ more)) (r (good ++ b ∷ more) >>= λ y. ended y) (suc (length more), what) x (bind_stops (r (good ++ b ∷ more)) (λ y. ended y) (suc (length more), what) (h more)) k

  halts_behind : (value : A) (front : List ℕ) (b : ℕ) (bad : List ℕ) → ((other : List ℕ) → r (front ++ other) ≡ Ok (value, other)) → Halts front (b ∷ bad)
  unfolding Halts
  halts_behind value front b bad h = λ x more k.
      placed_stops (length (front ++ b ∷ more)) (r (front ++ b ∷ more) >>= λ y. ended y) (suc (length more), 5) x
      (bind_is (r (front ++ b ∷ more)) (λ y. ended y) (value, b ∷ more) (Err (suc (length more), 5)) (h (b ∷ more)) refl) k

  left_over : (bs : List ℕ) (value : A) (rest : List ℕ) (left what : ℕ) → Takes r R bs value rest → ended (value, rest) ≡ Err (left, what) → (at : ℕ) → at ≡ length bs - left → IsFirstBad R bs at
  left_over bs value [] left what t e at place = absurd cc
  left_over bs value (b ∷ rest) left what t e at place =
      let size : left ≡ suc (length rest) = left_is {A = A} (suc (length rest)) left what e in
      let sum : length bs ≡ length t.front + suc (length rest) = ap length t.parts ∙ length-append t.front (b ∷ rest) in
      first_bad bs t.front (b ∷ rest) at t.parts (omega arith) value [] (subst (λ (l : List ℕ). R value l) (sym (append-nil t.front)) t.spelled) (halts_behind value t.front b rest t.again)

  refused : (bs : List ℕ) (at what : ℕ) → AreBytes bs → reads bs ≡ Err (at, what) → IsFirstBad R bs at
  refused bs at what fits e =
      let p = placed_err (length bs) (r bs >>= λ y. ended y) at what e in
      elim (bind_err (r bs) (λ y. ended y) (p.0, what) p.1) [
        | inl here ↦
            let v = law.refuses bs p.0 what fits here in
            let sum : length bs ≡ length v.good + length v.bad = ap length v.parts ∙ length-append v.good v.bad in
            let size = v.left_is in
            let place = p.2 in
            first_bad bs v.good v.bad at v.parts (omega arith) v.value v.more v.begun (halts_inside what v.good v.bad v.stops p.0 (ap r (sym v.parts) ∙ here))
        | inr (y, was, there) ↦ left_over bs y.0 y.1 p.0 what (law.takes bs y.0 y.1 fits was) there at p.2
      ]

  kind : (bs : List ℕ) (at what : ℕ) → AreBytes bs → reads bs ≡ Err (at, what) → IsKind what (drop at bs)
  kind bs at what fits e =
      let p = placed_err (length bs) (r bs >>= λ y. ended y) at what e in
      elim (bind_err (r bs) (λ y. ended y) (p.0, what) p.1) [
        | inl here ↦
            let v = law.refuses bs p.0 what fits here in
            let sum : length bs ≡ length v.good + length v.bad = ap length v.parts ∙ length-append v.good v.bad in
            let size = v.left_is in
            let place : at ≡ length v.good = omega (arith, p.2) in
            let back : drop at (v.good ++ v.bad) ≡ v.bad = drop_at v.good v.bad at (sym place) in
            rw (v.parts, back) v.kind
        | inr (y, was, there) ↦ inl (ended_err y p.0 what there)
      ]

  pub reads_law : Reads R reads
  reads_law = record { found = found; only = only; refused = refused; kind = kind }

  pub writes_law : (write : A → List ℕ) → ((x : A) (bs : List ℕ) → R x bs → R x (write x)) → Writes R reads write
  writes_law write spelled = record { spelled = λ x h. spelled x h.0 h.1; again = λ x h. only (write x) x (spelled x h.0 h.1) }
