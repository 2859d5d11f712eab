-- Texts in UTF-8.
use Rattle.std.proofs.Common.{◌≡◌, ℕ, zero, suc, ◌+◌, ◌-◌, ◌<◌, ◌≤◌, Bool, true, false, cond, List, [], ◌∷◌, ◌++◌, length, take, drop, get_or, Some, None, refl, sym, ap, subst, ◌∙◌, arith, inl, inr}
use Rattle.std.specs.Prelude.{not, ◌==◌, ◌&&◌, nat_lt, is_some, eqb}
use Rattle.std.specs.Option.{option_and_then}
use Rattle.std.specs.List.{position_or_len}
use Rattle.std.specs.Str.{IsUtf8, is_utf8, IsCharBoundary}
use Rattle.std.proofs.Math.Seq.{take-add}
use Rattle.std.proofs.lemmas.List.{drop-take, get_or-take, get_or-drop, length-drop, length-take}
use Rattle.std.proofs.lemmas.List.Sums.{prefix_len-le-length}
use Rattle.std.proofs.lemmas.Bool.{cases_lt, lt-ltb, le-ltb, ne_eqb, eq-eqb}
use Rattle.std.proofs.lemmas.Str.{IsUtf8-append, IsUtf8-take, IsUtf8-drop, IsUtf8-nil, IsCharBoundary-start}
use Rattle.il_base.specs.cli_format.Heaps.{text_at, good_text, string_of}
use Rattle.meta_tables.specs.Held.{AreTails, IsLead}
use Rattle.meta_tables.proofs.Lists.{drop_end}
use Rattle.std.proofs.lemmas.Bool.{false_from_ne_true}
use Rattle.std.proofs.lemmas.Str.{IsUtf8-from_is_utf8, is_utf8-from_IsUtf8}

pub text_good : (bs : List ℕ) → IsUtf8 bs → is_utf8 bs ≡ true
text_good bs h = is_utf8-from_IsUtf8 bs h

pub text_bad : (bs : List ℕ) → (IsUtf8 bs → ⊥) → is_utf8 bs ≡ false
text_bad bs h = false_from_ne_true (is_utf8 bs) (λ t. h (IsUtf8-from_is_utf8 bs t))

pub ruleset utf8 = (text_good, text_bad)

-- ---- where a text ends

-- the place of the first zero, or the length
abbrev end_of : List ℕ → ℕ
end_of bs = position_or_len (λ b. b == 0) bs

end_step : (b : ℕ) (bs : List ℕ) → (b ≡ 0 → ⊥) → end_of (b ∷ bs) ≡ 1 + end_of bs
end_step b bs h = rw (ne_eqb b 0 h) refl

end_shift : (bs : List ℕ) (n : ℕ) → n ≤ length bs → ((k : ℕ) → k < n → get_or bs k 0 ≡ 0 → ⊥) → end_of bs ≡ n + end_of (drop n bs)
end_shift [] zero le h = refl
end_shift [] (suc n) le h = absurd (omega arith)
end_shift (b ∷ bs) zero le h = omega arith
end_shift (b ∷ bs) (suc n) le h =
    let more = end_shift bs n (omega arith) (λ k lt. h (suc k) (omega arith)) in
    let one = end_step b bs (h 0 (omega arith)) in
    omega (arith, more, one)

some_of_cond : (u : Bool) (t : List ℕ) → is_some (cond u (Some t) None) ≡ u
some_of_cond true t = refl
some_of_cond false t = refl

some_if : (b : Bool) (n : ℕ) (bs : List ℕ) → is_some (option_and_then (λ k. good_text (take k bs)) (cond b (Some n) None)) ≡ (b && is_utf8 (take n bs))
unfolding good_text
some_if true n bs = some_of_cond (is_utf8 (take n bs)) (take n bs)
some_if false n bs = refl

text_is : (bs : List ℕ) → is_some (text_at bs) ≡ (nat_lt (end_of bs) (length bs) && is_utf8 (take (end_of bs) bs))
unfolding text_at
text_is bs = some_if (nat_lt (end_of bs) (length bs)) (end_of bs) bs

and_false : (b : Bool) → (b && false) ≡ false
and_false true = refl
and_false false = refl

-- ---- a zero, and a byte with which no character begins

begins_zero : (bs : List ℕ) → 0 < length bs → get_or bs 0 0 ≡ 0 → is_some (text_at bs) ≡ true
begins_zero [] lt z = absurd (omega arith)
begins_zero (b ∷ bs) lt z =
    let e : eqb b 0 ≡ true = eq-eqb b 0 z in
    let n : end_of (b ∷ bs) ≡ 0 = rw e refl in
    text_is (b ∷ bs) ∙ rw (n, lt-ltb 0 (length (b ∷ bs)) lt, is_utf8-from_IsUtf8 [] IsUtf8-nil) refl

begins_tail : (bs : List ℕ) → 0 < length bs → 128 ≤ get_or bs 0 0 → get_or bs 0 0 < 192 → is_some (text_at bs) ≡ false
begins_tail bs lt low high =
    let one = end_shift bs 1 (omega arith) (λ k below z. (let k0 : k ≡ 0 = omega arith in let z0 : get_or bs 0 0 ≡ 0 = subst (λ (j : ℕ). get_or bs j 0 ≡ 0) k0 z in omega (arith, z0, low))) in
    let ends = prefix_len-le-length (λ x. not (x == 0)) bs in
    let front = get_or-take (end_of bs) bs 0 0 (omega (arith, one)) in
    let size = length-take (end_of bs) bs in
    let bad : is_utf8 (take (end_of bs) bs) ≡ false = text_bad (take (end_of bs) bs)
    (λ u. (let starts = (IsCharBoundary-start (take (end_of bs) bs) u).1 (omega (arith, one, size, ends)) in omega (arith, starts (omega (arith, front, low)), front, high))) in
    text_is bs ∙ rw (bad, and_false (nat_lt (end_of bs) (length bs))) refl

-- ---- characters in front of a text

parts : (a r : List ℕ) → is_utf8 (a ++ r) ≡ true → (IsUtf8 (a ++ r) → IsUtf8 a) → (IsUtf8 (a ++ r) → IsUtf8 r) → (is_utf8 a ≡ true) × (is_utf8 r ≡ true)
parts a r t f g = (text_good a (f (IsUtf8-from_is_utf8 (a ++ r) t)), text_good r (g (IsUtf8-from_is_utf8 (a ++ r) t)))

joined_utf8 : (x y z : Bool) → (x ≡ true → (y ≡ true) × (z ≡ true)) → (y ≡ true → z ≡ true → x ≡ true) → x ≡ (y && z)
joined_utf8 true y z f g = let p = f refl in rw (p.0, p.1) refl
joined_utf8 false true true f g = g refl refl
joined_utf8 false true false f g = refl
joined_utf8 false false z f g = refl

take_less : (n m : ℕ) (bs : List ℕ) → take n (take (n + m) bs) ≡ take n bs
take_less zero m bs = refl
take_less (suc n) m [] = let e : suc n + m ≡ suc (n + m) = omega arith in rw e refl
take_less (suc n) m (b ∷ bs) = let e : suc n + m ≡ suc (n + m) = omega arith in rw e (ap (λ xs. b ∷ xs) (take_less n m bs))

-- a text that is cut where no character goes on
cut : (bs : List ℕ) (n m : ℕ) → n + m ≤ length bs → (128 ≤ get_or bs n 0 → 192 ≤ get_or bs n 0)
    → is_utf8 (take (n + m) bs) ≡ (is_utf8 (take n bs) && is_utf8 (take m (drop n bs)))
cut bs n m le lead =
    let t = take-add n m bs in
    let size = length-take (n + m) bs in
    let boundary : IsCharBoundary (take (n + m) bs) n =
    (omega (arith, size), (λ lt high. (let same = get_or-take (n + m) bs n 0 (omega (arith, size, lt)) in omega (arith, lead (omega (arith, same, high)), same)))) in
    let first : IsUtf8 (take (n + m) bs) → IsUtf8 (take n bs) = λ u. subst IsUtf8 (take_less n m bs) (IsUtf8-take (take (n + m) bs) n u boundary) in
    let second : IsUtf8 (take (n + m) bs) → IsUtf8 (take m (drop n bs)) = λ u. subst IsUtf8 (drop-take n m bs) (IsUtf8-drop (take (n + m) bs) n u boundary) in
    joined_utf8 (is_utf8 (take (n + m) bs)) (is_utf8 (take n bs)) (is_utf8 (take m (drop n bs)))
    (λ x. (text_good (take n bs) (first (IsUtf8-from_is_utf8 (take (n + m) bs) x)), text_good (take m (drop n bs)) (second (IsUtf8-from_is_utf8 (take (n + m) bs) x))))
    (λ y z. rw t (text_good (take n bs ++ take m (drop n bs)) (IsUtf8-append (take n bs) (take m (drop n bs)) (IsUtf8-from_is_utf8 (take n bs) y) (IsUtf8-from_is_utf8 (take m (drop n bs)) z))))

begins_lead : (bs : List ℕ) (n : ℕ) → n < length bs → ((k : ℕ) → k < n → get_or bs k 0 ≡ 0 → ⊥) → (128 ≤ get_or bs n 0 → 192 ≤ get_or bs n 0)
    → is_some (text_at bs) ≡ (is_utf8 (take n bs) && is_some (text_at (drop n bs)))
begins_lead bs n lt nonzero lead =
    let m : ℕ = end_of (drop n bs) in
    let e : end_of bs ≡ n + m = end_shift bs n (omega arith) nonzero in
    let len = length-drop n bs in
    elim (cases_lt m (length (drop n bs))) [
      | inl below ↦
          (let whole : n + m < length bs = omega (arith, len, below) in
          let left : is_some (text_at bs) ≡ is_utf8 (take (n + m) bs) = text_is bs ∙ rw (e, lt-ltb (n + m) (length bs) whole) refl in
          let right : is_some (text_at (drop n bs)) ≡ is_utf8 (take m (drop n bs)) = text_is (drop n bs) ∙ rw (lt-ltb m (length (drop n bs)) below) refl in
          left ∙ cut bs n m (omega arith) lead ∙ ap (λ (x : Bool). is_utf8 (take n bs) && x) (sym right))
      | inr above ↦
          (let whole : length bs ≤ n + m = omega (arith, len, above) in
          let left : is_some (text_at bs) ≡ false = text_is bs ∙ rw (e, le-ltb (n + m) (length bs) whole) refl in
          let right : is_some (text_at (drop n bs)) ≡ false = text_is (drop n bs) ∙ rw (le-ltb m (length (drop n bs)) above) refl in
          left ∙ sym (and_false (is_utf8 (take n bs))) ∙ ap (λ (x : Bool). is_utf8 (take n bs) && x) (sym right))
    ]

begins_open : (bs : List ℕ) → ((k : ℕ) → k < length bs → get_or bs k 0 ≡ 0 → ⊥) → is_some (text_at bs) ≡ false
begins_open bs nonzero =
    let e = end_shift bs (length bs) (omega arith) nonzero in
    text_is bs ∙ rw (le-ltb (end_of bs) (length bs) (omega (arith, e))) refl

-- ---- the same at a place of a heap

nonzero_from : (h : List ℕ) (at n : ℕ) → (get_or h at 0 ≡ 0 → ⊥) → AreTails h (at + 1) n → (k : ℕ) → at + k < n → get_or (drop at h) k 0 ≡ 0 → ⊥
nonzero_from h at n here tails zero lt z = here (let e : at + 0 ≡ at = omega arith in subst (λ (j : ℕ). get_or h j 0 ≡ 0) e (sym (get_or-drop at h 0 0) ∙ z))
nonzero_from h at n here tails (suc k) lt z =
    let tail = tails (at + suc k) (omega arith) lt in
    omega (arith, tail.0, sym (get_or-drop at h (suc k) 0) ∙ z)

pub text_zero : (h : List ℕ) (at : ℕ) → at < length h → get_or h at 0 ≡ 0 → is_some (text_at (drop at h)) ≡ true
text_zero h at lt z =
    let e : at + 0 ≡ at = omega arith in
    begins_zero (drop at h) (omega (arith, length-drop at h)) (get_or-drop at h 0 0 ∙ rw e z)

pub text_tail : (h : List ℕ) (at : ℕ) → at < length h → 128 ≤ get_or h at 0 → get_or h at 0 < 192 → is_some (text_at (drop at h)) ≡ false
text_tail h at lt low high =
    let e : at + 0 ≡ at = omega arith in
    let same : get_or (drop at h) 0 0 ≡ get_or h at 0 = get_or-drop at h 0 0 ∙ rw e refl in
    begins_tail (drop at h) (omega (arith, length-drop at h)) (omega (arith, same)) (omega (arith, same))

pub text_open : (h : List ℕ) (at : ℕ) → at < length h → (get_or h at 0 ≡ 0 → ⊥) → AreTails h (at + 1) (length h) → is_some (text_at (drop at h)) ≡ false
text_open h at lt here tails =
    let len = length-drop at h in
    begins_open (drop at h) (λ k below. nonzero_from h at (length h) here tails k (omega (arith, len, below)))

drop_twice : (h : List ℕ) (m n : ℕ) → drop n (drop m h) ≡ drop (m + n) h
drop_twice h zero n = let e : 0 + n ≡ n = omega arith in rw e refl
drop_twice [] (suc m) n = drop_end [] n (omega arith) ∙ sym (drop_end [] (suc m + n) (omega arith))
drop_twice (b ∷ h) (suc m) n = let e : suc m + n ≡ suc (m + n) = omega arith in rw e (drop_twice h m n)

pub text_lead : (h : List ℕ) (at next : ℕ) → at < next → next < length h → (get_or h at 0 ≡ 0 → ⊥) → AreTails h (at + 1) next → IsLead h next
    → is_some (text_at (drop at h)) ≡ (is_utf8 (take (next - at) (drop at h)) && is_some (text_at (drop next h)))
text_lead h at next lt within here tails lead =
    let len = length-drop at h in
    let e : at + (next - at) ≡ next = omega arith in
    let same : get_or (drop at h) (next - at) 0 ≡ get_or h next 0 = get_or-drop at h (next - at) 0 ∙ rw e refl in
    let rest : drop (next - at) (drop at h) ≡ drop next h = drop_twice h at (next - at) ∙ rw e refl in
    begins_lead (drop at h) (next - at) (omega (arith, len)) (λ k below. nonzero_from h at next here tails k (omega (arith, below))) (λ high. (let low = lead within (omega (arith, same, high)) in omega (arith, same, low)))
    ∙ ap (λ (x : List ℕ). is_utf8 (take (next - at) (drop at h)) && is_some (text_at x)) rest

pub ruleset beginning = (text_zero, text_tail, text_open, text_lead)

-- ---- asking for a text

and_false_length : (h : List ℕ) (at : ℕ) → at < length h → ((at == 0) && (length h == 0)) ≡ false
and_false_length h at lt = rw (ne_eqb (length h) 0 (λ z. omega (arith, z))) (and_false (at == 0))

pub ask_inside : (h : List ℕ) (at : ℕ) → at < length h → is_some (string_of h at) ≡ is_some (text_at (drop at h))
unfolding string_of
ask_inside h at lt = rw (and_false_length h at lt) refl

pub ask_empty : (h : List ℕ) (at : ℕ) → length h ≤ at → at ≡ 0 → is_some (string_of h at) ≡ true
unfolding string_of
ask_empty h at le z = let len : length h ≡ 0 = omega arith in rw (eq-eqb at 0 z, eq-eqb (length h) 0 len) refl

pub ask_past : (h : List ℕ) (at : ℕ) → length h ≤ at → (at ≡ 0 → ⊥) → is_some (string_of h at) ≡ false
unfolding string_of
ask_past h at le ne = rw (ne_eqb at 0 ne, drop_end h at le) (text_is [])

pub ruleset asking = (ask_inside, ask_empty, ask_past)

pub goes_on : (x y z g : Bool) → z ≡ (x && y) → x ≡ true → g ≡ y → g ≡ z
goes_on true y z g p q r = r ∙ sym p
goes_on false y z g p q r = absurd cc

pub breaks_off : (x y z : Bool) → z ≡ (x && y) → x ≡ false → x ≡ z
breaks_off true y z p q = absurd cc
breaks_off false y z p q = sym p
