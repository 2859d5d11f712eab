-- A number that is read is spelled by the bytes it was read from.
use Rattle.std.proofs.Common.{◌≡◌, ℕ, zero, suc, ◌+◌, ◌/◌, ◌%◌, ◌^◌, ◌<◌, ◌≤◌, Bool, true, false, cond, leb, List, [], ◌∷◌, ◌++◌, length, get_or, take, drop, Option, Some, None, Result, Ok, Err, inl, inr, refl, sym, ap, ap₂, subst, ◌∙◌, lit<, arith}
use Rattle.std.proofs.lemmas.Bool.{cases_lt, leb-true}
use Rattle.std.proofs.lemmas.List.{length-take, length-drop, get_or-drop, get_or-take, get_or_past}
use Rattle.std.proofs.lemmas.Nat.{le_bytes_8}
use Rattle.std.specs.Prelude.{option_map, option_and_then, ◌⊎◌}
use Rattle.std.specs.Int.{w64, from_le_bytes}
use Rattle.byteorder.specs.Numbers.{little_from-lt}
use Rattle.byteorder.specs.Endian.{little_bytes, little_number}
use Rattle.il_base.specs.Bytes.{number_at}
use Rattle.il_base.specs.declared.body_grammar.body.Fault.{Fault}
use Rattle.il_base.specs.body_grammar.Faults.{◌>>=◌, need}

abbrev pub IsBytes : List ℕ → Type 0
IsBytes bs = (i : ℕ) → get_or bs i 0 < 256

abbrev no_bytes : List ℕ
no_bytes = []

pub bytes-drop : (n : ℕ) (bs : List ℕ) → IsBytes bs → IsBytes (drop n bs)
bytes-drop n bs h i = rw get_or-drop (h (n + i))

pub bytes-take : (n : ℕ) (bs : List ℕ) → IsBytes bs → IsBytes (take n bs)
bytes-take n bs h i =
    elim (cases_lt i n) [
      | inl lt ↦ rw (get_or-take n bs i 0 lt) (h i)
      | inr le ↦ rw (get_or_past (take n bs) i 0 (omega (arith, length-take n bs))) (omega arith)
    ]

number_of_8 : (xs : List ℕ) → little_number 8 xs ≡ from_le_bytes w64 (take 8 xs)
number_of_8 xs =
    omega (
      arith,
      get_or-take 8 xs 0 0 (lit< tt),
      get_or-take 8 xs 1 0 (lit< tt),
      get_or-take 8 xs 2 0 (lit< tt),
      get_or-take 8 xs 3 0 (lit< tt),
      get_or-take 8 xs 4 0 (lit< tt),
      get_or-take 8 xs 5 0 (lit< tt),
      get_or-take 8 xs 6 0 (lit< tt),
      get_or-take 8 xs 7 0 (lit< tt),
    )

-- ---- the value of what didn't fail

pub bind_ok : {A B : Type 0} (r : Result A Fault) (f : A → Result B Fault) (y : B) → (r >>= f) ≡ Ok y → (x : A) × (r ≡ Ok x) × (f x ≡ Ok y)
bind_ok (Ok x) f y e = (x, refl, e)
bind_ok (Err d) f y e = absurd cc

pub need_ok : {A : Type 0} (o : Option A) (f : Fault) (x : A) → need o f ≡ Ok x → o ≡ Some x
need_ok None f x e = absurd cc
need_ok (Some y) f x e = cc

pub map_some : {A B : Type 0} (f : A → B) (o : Option A) (y : B) → option_map f o ≡ Some y → (x : A) × (o ≡ Some x) × (f x ≡ y)
map_some f None y e = absurd cc
map_some f (Some x) y e = (x, refl, cc)

pub then_some : {A B : Type 0} (f : A → Option B) (o : Option A) (y : B) → option_and_then f o ≡ Some y → (x : A) × (o ≡ Some x) × (f x ≡ Some y)
then_some f None y e = absurd cc
then_some f (Some x) y e = (x, refl, e)

pub none_if : {A : Type 0} (b : Bool) (x y : A) → cond b None (Some x) ≡ Some y → (b ≡ false) × (x ≡ y)
none_if true x y e = absurd cc
none_if false x y e = (refl, cc)

abbrev found : {A : Type 0} → A → Option A
found x = Some x

pub some_is : {A : Type 0} (x y : A) → found x ≡ found y → x ≡ y
some_is x y e = cc

abbrev read : {A : Type 0} → A → Result A Fault
read x = Ok x

pub ok_is : {A : Type 0} (x y : A) → read x ≡ read y → x ≡ y
ok_is x y e = cc

-- a test that held, and one that didn't
pub if_ok : {A : Type 0} (b : Bool) (r : Result A Fault) (f : Fault) (y : A) → cond b r (Err f) ≡ Ok y → (b ≡ true) × (r ≡ Ok y)
if_ok true r f y e = (refl, e)
if_ok false r f y e = absurd cc

pub if_not : {A : Type 0} (b : Bool) (r : Result A Fault) (f : Fault) (y : A) → cond b (Err f) r ≡ Ok y → (b ≡ false) × (r ≡ Ok y)
if_not true r f y e = absurd cc
if_not false r f y e = (refl, e)

pub either_ok : {A : Type 0} (b : Bool) (r s : Result A Fault) (y : A) → cond b r s ≡ Ok y → ((b ≡ true) × (r ≡ Ok y)) ⊎ ((b ≡ false) × (s ≡ Ok y))
either_ok true r s y e = inl (refl, e)
either_ok false r s y e = inr (refl, e)

-- ---- numbers

nothing : (n : ℕ) → take n no_bytes ≡ []
nothing zero = refl
nothing (suc n) = refl

-- the front of a list, in two parts
pub take-add : (a b : ℕ) (bs : List ℕ) → take (a + b) bs ≡ take a bs ++ take b (drop a bs)
take-add zero b bs = ap (λ (n : ℕ). take n bs) (omega arith)
take-add (suc a) b [] = nothing (suc a + b) ∙ sym (nothing b)
take-add (suc a) b (x ∷ bs) =
    let n : suc a + b ≡ suc (a + b) = omega arith in
    ap (λ (n : ℕ). take n (x ∷ bs)) n ∙ ap (λ (l : List ℕ). x ∷ l) (take-add a b bs)

spelled_1 : (xs : List ℕ) → 1 ≤ length xs → IsBytes xs → take 1 xs ≡ little_bytes 1 (little_number 1 xs)
spelled_1 [] long fits = absurd (omega arith)
spelled_1 (a ∷ xs) long fits =
    let n : ℕ = little_number 1 (a ∷ xs) in
    let f0 : a < 256 = fits 0 in
    let e0 : a ≡ n % 256 = omega arith in
    ap (λ (x : ℕ). x ∷ []) e0

spelled_2 : (xs : List ℕ) → 2 ≤ length xs → IsBytes xs → take 2 xs ≡ little_bytes 2 (little_number 2 xs)
spelled_2 [] long fits = absurd (omega arith)
spelled_2 (a ∷ []) long fits = absurd (omega arith)
spelled_2 (a ∷ b ∷ xs) long fits =
    let n : ℕ = little_number 2 (a ∷ b ∷ xs) in
    let f0 : a < 256 = fits 0 in
    let f1 : b < 256 = fits 1 in
    let e0 : a ≡ n % 256 = omega arith in
    let e1 : b ≡ n / 256 % 256 = omega arith in
    ap₂ (λ (x y : ℕ). x ∷ y ∷ []) e0 e1

pub spelled_4 : (xs : List ℕ) → 4 ≤ length xs → IsBytes xs → take 4 xs ≡ little_bytes 4 (little_number 4 xs)
spelled_4 [] long fits = absurd (omega arith)
spelled_4 (a ∷ []) long fits = absurd (omega arith)
spelled_4 (a ∷ b ∷ []) long fits = absurd (omega arith)
spelled_4 (a ∷ b ∷ c ∷ []) long fits = absurd (omega arith)
spelled_4 (a ∷ b ∷ c ∷ d ∷ xs) long fits =
    let n : ℕ = little_number 4 (a ∷ b ∷ c ∷ d ∷ xs) in
    let f0 : a < 256 = fits 0 in
    let f1 : b < 256 = fits 1 in
    let f2 : c < 256 = fits 2 in
    let f3 : d < 256 = fits 3 in
    let e0 : a ≡ n % 256 = omega arith in
    let e1 : b ≡ n / 256 % 256 = omega arith in
    let e2 : c ≡ n / 65536 % 256 = omega arith in
    let e3 : d ≡ n / 16777216 % 256 = omega arith in
    ap₂ (λ (x y : ℕ). x ∷ y ∷ c ∷ d ∷ []) e0 e1 ∙ ap₂ (λ (x y : ℕ). n % 256 ∷ n / 256 % 256 ∷ x ∷ y ∷ []) e2 e3

spelled_8 : (xs : List ℕ) → 8 ≤ length xs → IsBytes xs → take 8 xs ≡ little_bytes 8 (little_number 8 xs)
spelled_8 xs long fits =
    let len : length (take 8 xs) ≡ 8 = omega (arith, length-take 8 xs) in
    sym (le_bytes_8 (take 8 xs) (little_number 8 xs) len (bytes-take 8 xs fits) (number_of_8 xs))

-- what a field is
pub record IsField (k at : ℕ) (bs : List ℕ) (n : ℕ) : Type 0 where
  pub within : at + k ≤ length bs
  pub fits : n < 256 ^ k
  pub spelled : take k (drop at bs) ≡ little_bytes k n

some_if : {A : Type 0} (b : Bool) (x y : A) → cond b (Some x) None ≡ Some y → (b ≡ true) × (x ≡ y)
some_if true x y e = (refl, cc)
some_if false x y e = absurd cc

field_is : (k : ℕ) → ((xs : List ℕ) → k ≤ length xs → IsBytes xs → take k xs ≡ little_bytes k (little_number k xs))
    → (n at : ℕ) (bs : List ℕ) → IsBytes bs → number_at k bs at ≡ Some n → IsField k at bs n
unfolding number_at
field_is k spelled n at bs fits e =
    let p = some_if (leb (at + k) (length bs)) (little_number k (drop at bs)) n e in
    let long : at + k ≤ length bs = leb-true (at + k) (length bs) p.0 in
    let rest = bytes-drop at bs fits in
    subst (λ (m : ℕ). IsField k at bs m) p.1 (record {
      within = long;
      fits = little_from-lt 0 k (drop at bs) rest;
      spelled = spelled (drop at bs) (omega (arith, length-drop at bs)) rest;
    })

pub is_1 : (n at : ℕ) (bs : List ℕ) → IsBytes bs → number_at 1 bs at ≡ Some n → IsField 1 at bs n
is_1 = field_is 1 spelled_1

pub is_2 : (n at : ℕ) (bs : List ℕ) → IsBytes bs → number_at 2 bs at ≡ Some n → IsField 2 at bs n
is_2 = field_is 2 spelled_2

pub is_4 : (n at : ℕ) (bs : List ℕ) → IsBytes bs → number_at 4 bs at ≡ Some n → IsField 4 at bs n
is_4 = field_is 4 spelled_4

pub is_8 : (n at : ℕ) (bs : List ℕ) → IsBytes bs → number_at 8 bs at ≡ Some n → IsField 8 at bs n
is_8 = field_is 8 spelled_8
