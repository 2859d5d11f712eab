-- A sort by a key leaves those of one key in their order.
use Rattle.std.proofs.Common.{◌≡◌, ◌<◌, ◌≤◌, ℕ, Bool, true, false, cond, nat_eq, nat_lt, List, [], ◌∷◌, ◌++◌, refl, sym, ap, ◌∙◌, arith}
use Rattle.std.specs.Prelude.{if◌then◌else◌}
use Rattle.std.specs.List.{filter}
use Rattle.std.proofs.lemmas.Bool.{ltb-true, ltb-false, ne_eqb, eqb-true}
use Rattle.std.proofs.lemmas.List.{append-nil, append_assoc}
use Rattle.rules.specs.merge_rules.Sorted.{put, put_all, by_key}

module _ {A : Type 0} (key : A → ℕ) where
  -- each key at least this, and each at least those before it
  abbrev Least : ℕ → List A → Type 0
  Least n [] = Unit {0}
  Least n (x ∷ xs) = (n ≤ key x) × Least n xs

  abbrev Up : List A → Type 0
  Up [] = Unit {0}
  Up (x ∷ xs) = Least (key x) xs × Up xs

  weaker : (n m : ℕ) (xs : List A) → n ≤ m → Least m xs → Least n xs
  weaker n m [] le h = tt
  weaker n m (x ∷ xs) le h = let first = h.0 in (omega (arith, first, le), weaker n m xs le h.1)

  least_by : (n : ℕ) (x y : A) (ys : List A) (b : Bool) → n ≤ key x → Least n (y ∷ ys) → Least n (put key x ys) → Least n (if b then x ∷ y ∷ ys else y ∷ put key x ys)
  least_by n x y ys true le h more = (le, h)
  least_by n x y ys false le h more = (h.0, more)

  put_least : (n : ℕ) (x : A) (ys : List A) → n ≤ key x → Least n ys → Least n (put key x ys)
  put_least n x [] le h = (le, tt)
  put_least n x (y ∷ ys) le h = least_by n x y ys (nat_lt (key x) (key y)) le h (put_least n x ys le h.1)

  up_by : (x y : A) (ys : List A) (b : Bool) → nat_lt (key x) (key y) ≡ b → Up (y ∷ ys) → Up (put key x ys) → Up (if b then x ∷ y ∷ ys else y ∷ put key x ys)
  up_by x y ys true e up more =
      let lt = ltb-true (key x) (key y) e in
      ((omega (arith, lt), weaker (key x) (key y) ys (omega (arith, lt)) up.0), up)
  up_by x y ys false e up more = let le = ltb-false (key x) (key y) e in (put_least (key y) x ys le up.0, more)

  put_up : (x : A) (ys : List A) → Up ys → Up (put key x ys)
  put_up x [] up = (tt, tt)
  put_up x (y ∷ ys) up = up_by x y ys (nat_lt (key x) (key y)) refl up (put_up x ys up.1)

  module _ (token : ℕ) where
    abbrev pub has_key : A → Bool
    has_key x = nat_eq (key x) token

    none_above : (n : ℕ) (xs : List A) → token < n → Least n xs → filter has_key xs ≡ []
    none_above n [] lt h = refl
    none_above n (x ∷ xs) lt h =
        let first = h.0 in
        ap (λ (b : Bool). cond b (x ∷ filter has_key xs) (filter has_key xs)) (ne_eqb (key x) token (λ e. absurd (omega (arith, e, first, lt)))) ∙ none_above n xs lt h.1

    before_by : (x y : A) (ys : List A) (b : Bool) → nat_eq (key x) token ≡ b → key x < key y → Least (key y) ys
        → cond b (x ∷ filter has_key (y ∷ ys)) (filter has_key (y ∷ ys)) ≡ filter has_key (y ∷ ys) ++ cond b (x ∷ []) []
    before_by x y ys true e lt h =
        let same = eqb-true (key x) token e in
        let none = none_above (key y) (y ∷ ys) (omega (arith, lt, same)) (omega arith, h) in
        (λ i. x ∷ none i) ∙ sym (ap (λ (zs : List A). zs ++ x ∷ []) none)
    before_by x y ys false e lt h = sym (append-nil (filter has_key (y ∷ ys)))

    behind_by : (y : A) (ys new zs : List A) (b : Bool) → new ≡ filter has_key ys ++ zs → cond b (y ∷ new) new ≡ cond b (y ∷ filter has_key ys) (filter has_key ys) ++ zs
    behind_by y ys new zs true e = ap (λ (xs : List A). y ∷ xs) e
    behind_by y ys new zs false e = e

    put_by : (x y : A) (ys : List A) (b : Bool) → nat_lt (key x) (key y) ≡ b → Up (y ∷ ys) → filter has_key (put key x ys) ≡ filter has_key ys ++ filter has_key (x ∷ [])
        → filter has_key (if b then x ∷ y ∷ ys else y ∷ put key x ys) ≡ filter has_key (y ∷ ys) ++ filter has_key (x ∷ [])
    put_by x y ys true e up more = before_by x y ys (nat_eq (key x) token) refl (ltb-true (key x) (key y) e) up.0
    put_by x y ys false e up more = behind_by y ys (filter has_key (put key x ys)) (filter has_key (x ∷ [])) (nat_eq (key y) token) more

    put_keeps : (x : A) (ys : List A) → Up ys → filter has_key (put key x ys) ≡ filter has_key ys ++ filter has_key (x ∷ [])
    put_keeps x [] up = refl
    put_keeps x (y ∷ ys) up = put_by x y ys (nat_lt (key x) (key y)) refl up (put_keeps x ys up.1)

    first_by : (x : A) (xs : List A) (b : Bool) → cond b (x ∷ []) [] ++ filter has_key xs ≡ cond b (x ∷ filter has_key xs) (filter has_key xs)
    first_by x xs true = refl
    first_by x xs false = refl

    all_kept : (sorted xs : List A) → Up sorted → filter has_key (put_all key sorted xs) ≡ filter has_key sorted ++ filter has_key xs
    unfolding put_all
    all_kept sorted [] up = sym (append-nil (filter has_key sorted))
    all_kept sorted (x ∷ xs) up =
        all_kept (put key x sorted) xs (put_up x sorted up)
        ∙ ap (λ (zs : List A). zs ++ filter has_key xs) (put_keeps x sorted up)
        ∙ append_assoc (filter has_key sorted) (filter has_key (x ∷ [])) (filter has_key xs)
        ∙ ap (λ (zs : List A). filter has_key sorted ++ zs) (first_by x xs (nat_eq (key x) token))

    pub sort_keeps : (xs : List A) → filter has_key (by_key key xs) ≡ filter has_key xs
    sort_keeps xs = all_kept [] xs tt
