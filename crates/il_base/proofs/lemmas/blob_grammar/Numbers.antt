-- Reading a number keeps to the forms of numbers.
use Rattle.std.proofs.Common.{◌≡◌, ℕ, suc, ◌+◌, ◌-◌, ◌*◌, ◌/◌, ◌%◌, ◌<◌, ◌≤◌, inl, inr, List, [], ◌∷◌, ◌++◌, length, take, drop, Option, Some, Ok, Err, refl, sym, ap, subst, ◌∙◌, arith}
use Rattle.std.proofs.lemmas.Bool.{cases_lt, lt-ltb, le-ltb}
use Rattle.std.proofs.lemmas.List.{append-nil, take_at}
use Rattle.byteorder.specs.Endian.{big_number}
use Rattle.il_base.specs.Bytes.{compressed_at}
use Rattle.il_base.specs.blob_grammar.Numbers.{IsNumber, one, two, four, shortest}
use Rattle.il_base.specs.blob_grammar.Reading.{Reader, number_at}
use Rattle.il_base.proofs.lemmas.blob_grammar.Law.{IsBytes, IsBytes-tail, Takes, Refuses, Law, Inhabited, ok_is, err_is}

-- what stands in front: a number in one of its forms, a part of one, or nothing that begins a number
pub data Front : List ℕ → Type 0 where
  nothing : Front []
  short : (b : ℕ) (bs : List ℕ) → b < 128 → Front (b ∷ bs)
  middle : (h c : ℕ) (bs : List ℕ) → h < 64 → Front ((128 + h) ∷ c ∷ bs)
  middle_cut : (h : ℕ) → h < 64 → Front ((128 + h) ∷ [])
  long : (h c d e : ℕ) (bs : List ℕ) → h < 32 → Front ((192 + h) ∷ c ∷ d ∷ e ∷ bs)
  long_cut : (h : ℕ) (bs : List ℕ) → h < 32 → length bs < 3 → Front ((192 + h) ∷ bs)
  other : (b : ℕ) (bs : List ℕ) → 224 ≤ b → Front (b ∷ bs)

front_middle : (h : ℕ) (bs : List ℕ) → h < 64 → Front ((128 + h) ∷ bs)
front_middle h [] lt = middle_cut h lt
front_middle h (c ∷ bs) lt = middle h c bs lt

front_long : (h : ℕ) (bs : List ℕ) → h < 32 → Front ((192 + h) ∷ bs)
front_long h [] lt = long_cut h [] lt (omega arith)
front_long h (c ∷ []) lt = long_cut h (c ∷ []) lt (omega arith)
front_long h (c ∷ d ∷ []) lt = long_cut h (c ∷ d ∷ []) lt (omega arith)
front_long h (c ∷ d ∷ e ∷ bs) lt = long h c d e bs lt

front_high : (b : ℕ) (bs : List ℕ) → 128 ≤ b → Front (b ∷ bs)
front_high b bs le =
    elim (cases_lt b 192) [
      | inl lt ↦ let same : 128 + (b - 128) ≡ b = omega arith in subst (λ (n : ℕ). Front (n ∷ bs)) same (front_middle (b - 128) bs (omega arith))
      | inr ge ↦ elim (cases_lt b 224) [
        | inl lt ↦ let same : 192 + (b - 192) ≡ b = omega arith in subst (λ (n : ℕ). Front (n ∷ bs)) same (front_long (b - 192) bs (omega arith))
        | inr gt ↦ other b bs gt
      ]
    ]

pub front_of : (bs : List ℕ) → Front bs
front_of [] = nothing
front_of (b ∷ bs) = elim (cases_lt b 128) [ inl lt ↦ short b bs lt | inr le ↦ front_high b bs le ]

-- ---- what reading gives at each

pub at_nothing : number_at [] ≡ Err (0, 5)
unfolding number_at compressed_at
at_nothing = refl

pub at_short : (b : ℕ) (bs : List ℕ) → b < 128 → number_at (b ∷ bs) ≡ Ok (b, bs)
unfolding number_at compressed_at
at_short b bs lt = rw (lt-ltb b 128 lt) refl

pub at_middle : (h c : ℕ) (bs : List ℕ) → h < 64 → number_at ((128 + h) ∷ c ∷ bs) ≡ Ok (h * 256 + c, bs)
unfolding number_at compressed_at
at_middle h c bs lt =
    let value : big_number 2 ((128 + h) ∷ c ∷ bs) - 32768 ≡ h * 256 + c = omega arith in
    rw (le-ltb (128 + h) 128 (omega arith), lt-ltb (128 + h) 192 (omega arith), le-ltb (suc (length bs)) 1 (omega arith), value) refl

pub at_middle_cut : (h : ℕ) → h < 64 → number_at ((128 + h) ∷ []) ≡ Err (0, 5)
unfolding number_at compressed_at
at_middle_cut h lt = rw (le-ltb (128 + h) 128 (omega arith), lt-ltb (128 + h) 192 (omega arith), lt-ltb (128 + h) 224 (omega arith)) refl

pub at_long : (h c d e : ℕ) (bs : List ℕ) → h < 32 → number_at ((192 + h) ∷ c ∷ d ∷ e ∷ bs) ≡ Ok (h * 16777216 + c * 65536 + d * 256 + e, bs)
unfolding number_at compressed_at
at_long h c d e bs lt =
    let value : big_number 4 ((192 + h) ∷ c ∷ d ∷ e ∷ bs) - 3221225472 ≡ h * 16777216 + c * 65536 + d * 256 + e = omega arith in
    rw (le-ltb (192 + h) 128 (omega arith), le-ltb (192 + h) 192 (omega arith), lt-ltb (192 + h) 224 (omega arith), le-ltb (suc (suc (suc (length bs)))) 3 (omega arith), value) refl

pub at_long_cut : (h : ℕ) (bs : List ℕ) → h < 32 → length bs < 3 → number_at ((192 + h) ∷ bs) ≡ Err (0, 5)
unfolding number_at compressed_at
at_long_cut h bs lt few = rw (le-ltb (192 + h) 128 (omega arith), le-ltb (192 + h) 192 (omega arith), lt-ltb (192 + h) 224 (omega arith), lt-ltb (length bs) 3 few, lt-ltb (192 + h) 224 (omega arith)) refl

pub at_other : (b : ℕ) (bs : List ℕ) → 224 ≤ b → number_at (b ∷ bs) ≡ Err (suc (length bs), 5)
unfolding number_at compressed_at
at_other b bs le = rw (le-ltb b 128 (omega arith), le-ltb b 192 (omega arith), le-ltb b 224 le, le-ltb b 224 le) refl

-- ---- the law

taken : (bs : List ℕ) (m n : ℕ) (others rest : List ℕ) → number_at bs ≡ Ok (m, others) → number_at bs ≡ Ok (n, rest) → Takes number_at IsNumber bs m others → Takes number_at IsNumber bs n rest
taken bs m n others rest h e t = subst (λ (p : ℕ × List ℕ). Takes number_at IsNumber bs p.0 p.1) (ok_is (m, others) (n, rest) (sym h ∙ e)) t

takes_at : {bs : List ℕ} → Front bs → (n : ℕ) (rest : List ℕ) → IsBytes bs → number_at bs ≡ Ok (n, rest) → Takes number_at IsNumber bs n rest
takes_at nothing n rest fits e = absurd (let h = at_nothing in cc)
takes_at (short b bs lt) n rest fits e =
    taken (b ∷ bs) b n bs rest (at_short b bs lt) e (record { front = b ∷ []; parts = refl; spelled = one b lt; again = λ other. at_short b other lt })
takes_at (middle h c bs lt) n rest fits e =
    taken ((128 + h) ∷ c ∷ bs) (h * 256 + c) n bs rest (at_middle h c bs lt) e
    (record { front = (128 + h) ∷ c ∷ []; parts = refl; spelled = two h c lt (fits 1); again = λ other. at_middle h c other lt })
takes_at (middle_cut h lt) n rest fits e = absurd (let k = at_middle_cut h lt in cc)
takes_at (long h c d x bs lt) n rest fits e =
    taken ((192 + h) ∷ c ∷ d ∷ x ∷ bs) (h * 16777216 + c * 65536 + d * 256 + x) n bs rest (at_long h c d x bs lt) e
    (record { front = (192 + h) ∷ c ∷ d ∷ x ∷ []; parts = refl; spelled = four h c d x lt (fits 1) (fits 2) (fits 3); again = λ other. at_long h c d x other lt })
takes_at (long_cut h bs lt few) n rest fits e = absurd (let k = at_long_cut h bs lt few in cc)
takes_at (other b bs le) n rest fits e = absurd (let k = at_other b bs le in cc)

pub refused : {A : Type 0} (r : Reader A) (R : A → List ℕ → Type 0) (bs : List ℕ) (size why left what : ℕ) → r bs ≡ Err (size, why) → r bs ≡ Err (left, what) → Refuses r R bs size why → Refuses r R bs left what
refused {A = A} r R bs size why left what h e t = subst (λ (p : ℕ × ℕ). Refuses r R bs p.0 p.1) (err_is {A = A × List ℕ} (size, why) (left, what) (sym h ∙ e)) t

-- zeros after the beginning of a long form
pub record Filled (h : ℕ) (bs : List ℕ) : Type 0 where
  pub value : ℕ
  pub more : List ℕ
  pub spelled : IsNumber value ((192 + h) ∷ (bs ++ more))
  pub no_tag : value % 4 ≡ 0
  pub small : value < (h + 1) * 16777216

pub filled : (h : ℕ) (bs : List ℕ) → h < 32 → IsBytes bs → length bs < 3 → Filled h bs
filled h [] lt fits few = record { value = h * 16777216 + 0 * 65536 + 0 * 256 + 0; more = 0 ∷ 0 ∷ 0 ∷ []; spelled = four h 0 0 0 lt (omega arith) (omega arith) (omega arith); no_tag = omega arith; small = omega arith }
filled h (c ∷ []) lt fits few =
    let f = fits 0 in
    record { value = h * 16777216 + c * 65536 + 0 * 256 + 0; more = 0 ∷ 0 ∷ []; spelled = four h c 0 0 lt f (omega arith) (omega arith); no_tag = omega arith; small = omega arith }
filled h (c ∷ d ∷ []) lt fits few =
    let f = fits 0 in
    let g = fits 1 in
    record { value = h * 16777216 + c * 65536 + d * 256 + 0; more = 0 ∷ []; spelled = four h c d 0 lt f g (omega arith); no_tag = omega arith; small = omega arith }
filled h (c ∷ d ∷ e ∷ bs) lt fits few = absurd (omega arith)

pub zero_number : IsNumber 0 (0 ∷ [])
zero_number = one 0 (omega arith)

pub number_some : Inhabited IsNumber
number_some = record { value = 0; bytes = 0 ∷ []; spelled = zero_number }

refuses_at : {bs : List ℕ} → Front bs → (left what : ℕ) → IsBytes bs → number_at bs ≡ Err (left, what) → Refuses number_at IsNumber bs left what
refuses_at nothing left what fits e =
    refused number_at IsNumber [] 0 5 left what at_nothing e
    (record { good = []; bad = []; parts = refl; left_is = refl; kind = inl refl; value = 0; more = 0 ∷ []; begun = zero_number; stops = tt })
refuses_at (short b bs lt) left what fits e = absurd (let k = at_short b bs lt in cc)
refuses_at (middle h c bs lt) left what fits e = absurd (let k = at_middle h c bs lt in cc)
refuses_at (middle_cut h lt) left what fits e =
    refused number_at IsNumber ((128 + h) ∷ []) 0 5 left what (at_middle_cut h lt) e
    (record { good = (128 + h) ∷ []; bad = []; parts = refl; left_is = refl; kind = inl refl; value = h * 256 + 0; more = 0 ∷ []; begun = two h 0 lt (omega arith); stops = tt })
refuses_at (long h c d x bs lt) left what fits e = absurd (let k = at_long h c d x bs lt in cc)
refuses_at (long_cut h bs lt few) left what fits e =
    let f = filled h bs lt (IsBytes-tail (192 + h) bs fits) few in
    refused number_at IsNumber ((192 + h) ∷ bs) 0 5 left what (at_long_cut h bs lt few) e
    (record { good = (192 + h) ∷ bs; bad = []; parts = sym (append-nil ((192 + h) ∷ bs)); left_is = refl; kind = inl refl; value = f.value; more = f.more; begun = f.spelled; stops = tt })
refuses_at (other b bs le) left what fits e =
    refused number_at IsNumber (b ∷ bs) (suc (length bs)) 5 left what (at_other b bs le) e
    (record { good = []; bad = b ∷ bs; parts = refl; left_is = refl; kind = inl refl; value = 0; more = 0 ∷ []; begun = zero_number; stops = λ more. at_other b more le })

pub number_law : Law number_at IsNumber
number_law = record { takes = λ bs n rest fits e. takes_at (front_of bs) n rest fits e; refuses = λ bs left what fits e. refuses_at (front_of bs) left what fits e }

-- what is spelled so is read
pub number_again : (n : ℕ) (bs : List ℕ) → IsNumber n bs → (rest : List ℕ) → number_at (bs ++ rest) ≡ Ok (n, rest)
number_again _ _ (one b lt) rest = at_short b rest lt
number_again _ _ (two h c lt _) rest = at_middle h c rest lt
number_again _ _ (four h c d e lt _ _ _) rest = at_long h c d e rest lt

-- the shortest spelling
pub is_shortest : (n : ℕ) → n < 536870912 → IsNumber n (shortest n)
unfolding shortest
is_shortest n lt =
    elim (cases_lt n 128) [
      | inl small ↦ rw (lt-ltb n 128 small) (one n small)
      | inr le ↦ elim (cases_lt n 16384) [
        | inl small ↦
            let same : n / 256 * 256 + n % 256 ≡ n = omega arith in
            rw (le-ltb n 128 le, lt-ltb n 16384 small) (subst (λ (m : ℕ). IsNumber m ((128 + n / 256) ∷ n % 256 ∷ [])) same (two (n / 256) (n % 256) (omega arith) (omega arith)))
        | inr wide ↦
            let same : n / 16777216 * 16777216 + n / 65536 % 256 * 65536 + n / 256 % 256 * 256 + n % 256 ≡ n = omega arith in
            rw (le-ltb n 128 le, le-ltb n 16384 wide)
            (subst (λ (m : ℕ). IsNumber m ((192 + n / 16777216) ∷ (n / 65536 % 256) ∷ (n / 256 % 256) ∷ (n % 256) ∷ [])) same
            (four (n / 16777216) (n / 65536 % 256) (n / 256 % 256) (n % 256) (omega arith) (omega arith) (omega arith) (omega arith)))
      ]
    ]

pub number_small : (n : ℕ) (bs : List ℕ) → IsNumber n bs → n < 536870912
number_small _ _ (one b lt) = omega arith
number_small _ _ (two h c lt k) = omega arith
number_small _ _ (four h c d e lt k l m) = omega arith

-- ---- the same of the number alone and its size

sized_short : (b : ℕ) (bs : List ℕ) → b < 128 → compressed_at (b ∷ bs) ≡ Some (b, 1)
unfolding compressed_at
sized_short b bs lt = rw (lt-ltb b 128 lt) refl

sized_middle : (h c : ℕ) (bs : List ℕ) → h < 64 → compressed_at ((128 + h) ∷ c ∷ bs) ≡ Some (h * 256 + c, 2)
unfolding compressed_at
sized_middle h c bs lt =
    let value : big_number 2 ((128 + h) ∷ c ∷ bs) - 32768 ≡ h * 256 + c = omega arith in
    rw (le-ltb (128 + h) 128 (omega arith), lt-ltb (128 + h) 192 (omega arith), le-ltb (suc (length bs)) 1 (omega arith), value) refl

sized_long : (h c d e : ℕ) (bs : List ℕ) → h < 32 → compressed_at ((192 + h) ∷ c ∷ d ∷ e ∷ bs) ≡ Some (h * 16777216 + c * 65536 + d * 256 + e, 4)
unfolding compressed_at
sized_long h c d e bs lt =
    let value : big_number 4 ((192 + h) ∷ c ∷ d ∷ e ∷ bs) - 3221225472 ≡ h * 16777216 + c * 65536 + d * 256 + e = omega arith in
    rw (le-ltb (192 + h) 128 (omega arith), le-ltb (192 + h) 192 (omega arith), lt-ltb (192 + h) 224 (omega arith), le-ltb (suc (suc (suc (length bs)))) 3 (omega arith), value) refl

pub compressed_again : (n : ℕ) (bs : List ℕ) → IsNumber n bs → (rest : List ℕ) → compressed_at (bs ++ rest) ≡ Some (n, length bs)
compressed_again _ _ (one b lt) rest = sized_short b rest lt
compressed_again _ _ (two h c lt _) rest = sized_middle h c rest lt
compressed_again _ _ (four h c d e lt _ _ _) rest = sized_long h c d e rest lt

abbrev just : ℕ × ℕ → Option (ℕ × ℕ)
just x = Some x

some_is : (x y : ℕ × ℕ) → just x ≡ just y → x ≡ y
some_is x y e = cc

-- a number that was read, from where its size is
sized : (bs front rest : List ℕ) (m n size : ℕ) → bs ≡ front ++ rest → IsNumber m front → compressed_at bs ≡ Some (n, size) → IsNumber n (take size bs)
sized bs front rest m n size parts h e =
    let same : (m, length front) ≡ (n, size) = some_is (m, length front) (n, size) (sym (compressed_again m front h rest) ∙ ap compressed_at (sym parts) ∙ e) in
    subst (λ (p : ℕ × ℕ). IsNumber p.0 (take p.1 bs)) same (rw parts (rw (take_at front rest (length front) refl) h))

no_number : (bs : List ℕ) (left : ℕ) (n size : ℕ) → number_at bs ≡ Err (left, 5) → compressed_at bs ≡ Some (n, size) → ⊥
unfolding number_at
no_number bs left n size e h = let k : number_at bs ≡ Ok (n, drop size bs) = rw h refl in cc

found_at : {bs : List ℕ} → Front bs → (n size : ℕ) → IsBytes bs → compressed_at bs ≡ Some (n, size) → IsNumber n (take size bs)
found_at nothing n size fits e = absurd (no_number [] 0 n size at_nothing e)
found_at (short b bs lt) n size fits e = sized (b ∷ bs) (b ∷ []) bs b n size refl (one b lt) e
found_at (middle h c bs lt) n size fits e = sized ((128 + h) ∷ c ∷ bs) ((128 + h) ∷ c ∷ []) bs (h * 256 + c) n size refl (two h c lt (fits 1)) e
found_at (middle_cut h lt) n size fits e = absurd (no_number ((128 + h) ∷ []) 0 n size (at_middle_cut h lt) e)
found_at (long h c d x bs lt) n size fits e =
    sized ((192 + h) ∷ c ∷ d ∷ x ∷ bs) ((192 + h) ∷ c ∷ d ∷ x ∷ []) bs (h * 16777216 + c * 65536 + d * 256 + x) n size refl (four h c d x lt (fits 1) (fits 2) (fits 3)) e
found_at (long_cut h bs lt few) n size fits e = absurd (no_number ((192 + h) ∷ bs) 0 n size (at_long_cut h bs lt few) e)
found_at (other b bs le) n size fits e = absurd (no_number (b ∷ bs) (suc (length bs)) n size (at_other b bs le) e)

pub compressed_found : (bs : List ℕ) (n size : ℕ) → IsBytes bs → compressed_at bs ≡ Some (n, size) → IsNumber n (take size bs)
compressed_found bs n size fits e = found_at (front_of bs) n size fits e

at_most_four : (n : ℕ) → length (shortest n) ≤ 4
unfolding shortest
at_most_four n =
    elim (cases_lt n 128) [
      | inl small ↦ rw (lt-ltb n 128 small) (omega arith)
      | inr le ↦ elim (cases_lt n 16384) [
        | inl small ↦ rw (le-ltb n 128 le, lt-ltb n 16384 small) (omega arith)
        | inr wide ↦ rw (le-ltb n 128 le, le-ltb n 16384 wide) (omega arith)
      ]
    ]

pub shortest_least : (n : ℕ) (bs : List ℕ) → IsNumber n bs → length (shortest n) ≤ length bs
unfolding shortest
shortest_least _ _ (one b lt) = rw (lt-ltb b 128 lt) (omega arith)
shortest_least _ _ (two h c lt k) =
    elim (cases_lt (h * 256 + c) 128) [
      | inl small ↦ rw (lt-ltb (h * 256 + c) 128 small) (omega arith)
      | inr le ↦ rw (le-ltb (h * 256 + c) 128 le, lt-ltb (h * 256 + c) 16384 (omega arith)) (omega arith)
    ]
shortest_least _ _ (four h c d e lt k l m) = at_most_four (h * 16777216 + c * 65536 + d * 256 + e)
