-- Bytes that are taken by streams, and streams that overlap none of them.
use Rattle.std.proofs.Common.{◌≡◌, ℕ, zero, suc, ◌+◌, ◌-◌, ◌<◌, ◌≤◌, Bool, true, false, List, [], ◌∷◌, ◌++◌, length, take, drop, get_or, replicate, refl, sym, ap, ◌∙◌, arith, ◌⊎◌, inl, inr}
use Rattle.std.specs.Prelude.{not, ◌&&◌, ◌||◌, nat_le, nat_lt}
use Rattle.std.proofs.lemmas.Bool.{cases_lt, leb-true, ltb-true}
use Rattle.std.proofs.lemmas.Bool.Decides.{nat_tests}
use Rattle.std.proofs.lemmas.List.{get_or-take, get_or-drop, length-take, length-drop}
use Rattle.il_base.specs.declared.cli_format.stream.Stream.{Stream}
use Rattle.il_base.specs.cli_format.Streams.{agrees, apart, repeats, name_number}
use Rattle.meta_tables.specs.Held.{clear, covers, covered, free_of, fresh, AreTaken}
use Rattle.meta_tables.proofs.Lists.{drop_step, drop_end}

-- ---- a list of flags

second : (a b : Bool) → b ≡ false → (a && b) ≡ false
second true b p = p
second false b p = refl

pub clear_go_on : (fs : List Bool) (i : ℕ) → i < length fs → get_or fs i false ≡ false → clear (drop (i + 1) fs) ≡ clear (drop i fs)
unfolding clear
clear_go_on fs i lt f = rw (drop_step fs i false lt, f) refl

pub clear_stop : (fs : List Bool) (i : ℕ) → i < length fs → get_or fs i false ≡ true → clear (drop i fs) ≡ false
unfolding clear
clear_stop fs i lt f = rw (drop_step fs i false lt, f) refl

pub clear_end : (fs : List Bool) (i : ℕ) → length fs ≤ i → clear (drop i fs) ≡ true
unfolding clear
clear_end fs i le = rw (drop_end fs i le) refl

pub ruleset clearing = (clear_go_on, clear_stop, clear_end)

clear_if : (fs : List Bool) → ((k : ℕ) → k < length fs → get_or fs k false ≡ false) → clear fs ≡ true
unfolding clear
clear_if [] h = refl
clear_if (f ∷ fs) h = let here : f ≡ false = h 0 (omega arith) in rw here (clear_if fs (λ k lt. h (suc k) (omega arith)))

not_clear : (fs : List Bool) (k : ℕ) → k < length fs → get_or fs k false ≡ true → clear fs ≡ false
unfolding clear
not_clear [] k lt p = absurd (omega arith)
not_clear (f ∷ fs) zero lt p = let here : f ≡ true = p in rw here refl
not_clear (f ∷ fs) (suc k) lt p = second (not f) (clear fs) (not_clear fs k (omega arith) p)

-- ---- overlaps

or_swap : (a b c : Bool) → (a || (b || c)) ≡ (b || (a || c))
or_swap true true c = refl
or_swap true false c = refl
or_swap false b c = refl

pub covered_more : (ts : List Stream) (s : Stream) (k : ℕ) → covered (ts ++ s ∷ []) k ≡ (covers s k || covered ts k)
unfolding covered
covered_more [] s k = refl
covered_more (t ∷ ts) s k = ap (λ (b : Bool). covers t k || b) (covered_more ts s k) ∙ or_swap (covers t k) (covers s k) (covered ts k)

shuffle : (a n f r : Bool) → ((a && n) && (f && r)) ≡ ((a && f) && (n && r))
shuffle true true f r = refl
shuffle true false true r = refl
shuffle true false false r = refl
shuffle false n f r = refl

pub agrees_split : (s : Stream) (ts : List Stream) → agrees s ts ≡ (free_of s ts && fresh s ts)
unfolding agrees free_of fresh
agrees_split s [] = refl
agrees_split s (t ∷ ts) = ap (λ (b : Bool). apart t s && not (repeats t s) && b) (agrees_split s ts) ∙ shuffle (apart t s) (not (repeats t s)) (free_of s ts) (fresh s ts)

apart_then : (s t : Stream) (k : ℕ) → apart t s ≡ true → covers s k ≡ true → covers t k ≡ false
unfolding apart covers
apart_then s t k p q = grind (arith, nat_tests, p, q)

both_true : (a b : Bool) → (a && b) ≡ true → (a ≡ true) × (b ≡ true)
both_true true b p = (refl, p)
both_true false b p = absurd cc

pub free_then : (s : Stream) (ts : List Stream) → free_of s ts ≡ true → (k : ℕ) → covers s k ≡ true → covered ts k ≡ false
unfolding free_of covered
free_then s [] p k q = refl
free_then s (t ∷ ts) p k q =
    let b = both_true (apart t s) (free_of s ts) p in
    rw (apart_then s t k b.0 q) (free_then s ts b.1 k q)

-- a byte of both, where two streams overlap
meets : (s t : Stream) → apart t s ≡ false → (k : ℕ) × (covers s k ≡ true) × (covers t k ≡ true)
unfolding apart covers
meets s t p =
    elim (cases_lt s.offset t.offset) [
      | inl lt ↦ (t.offset, grind (arith, nat_tests, p), grind (arith, nat_tests, p))
      | inr le ↦ (s.offset, grind (arith, nat_tests, p), grind (arith, nat_tests, p))
    ]

true_or : (a b : Bool) → a ≡ true → (a || b) ≡ true
true_or true b p = refl
true_or false b p = absurd cc

or_true : (a b : Bool) → b ≡ true → (a || b) ≡ true
or_true true b p = refl
or_true false b p = p

free_cases : (a b : Bool) → (a && b) ≡ false → (a ≡ false) ⊎ (b ≡ false)
free_cases true b p = inr p
free_cases false b p = inl refl

pub not_free : (s : Stream) (ts : List Stream) → free_of s ts ≡ false → (k : ℕ) × (covers s k ≡ true) × (covered ts k ≡ true)
unfolding free_of covered
not_free s [] p = absurd cc
not_free s (t ∷ ts) p =
    elim (free_cases (apart t s) (free_of s ts) p) [
      | inl here ↦ (let m = meets s t here in (m.0, m.1, true_or (covers t m.0) (covered ts m.0) m.2))
      | inr later ↦ (let m = not_free s ts later in (m.0, m.1, or_true (covers t m.0) (covered ts m.0) m.2))
    ]

covers_at : (s : Stream) (k : ℕ) → k < s.size → covers s (s.offset + k) ≡ true
unfolding covers
covers_at s k lt = grind (arith, nat_tests)

covers_bounds : (s : Stream) (k : ℕ) → covers s k ≡ true → (s.offset ≤ k) × (k < s.offset + s.size)
unfolding covers
covers_bounds s k p = let b = both_true (nat_le s.offset k) (nat_lt k (s.offset + s.size)) p in (leb-true _ _ b.0, ltb-true _ _ b.1)

part_at : (flags : List Bool) (at n k : ℕ) → k < n → get_or (take n (drop at flags)) k false ≡ get_or flags (at + k) false
part_at flags at n k lt = get_or-take n (drop at flags) k false lt ∙ get_or-drop at flags k false

part_length : (flags : List Bool) (at n : ℕ) → at + n ≤ length flags → length (take n (drop at flags)) ≡ n
part_length flags at n le = omega (arith, length-take n (drop at flags), length-drop at flags)

by_value : (b : Bool) (x : Bool) → (b ≡ true → x ≡ true) → (b ≡ false → x ≡ false) → x ≡ b
by_value true x f g = f refl
by_value false x f g = g refl

pub clear_is_free : (s : Stream) (ts : List Stream) (flags : List Bool) → AreTaken ts flags → s.offset + s.size ≤ length flags
    → clear (take s.size (drop s.offset flags)) ≡ free_of s ts
clear_is_free s ts flags taken le =
    let len = part_length flags s.offset s.size le in
    by_value (free_of s ts) (clear (take s.size (drop s.offset flags)))
    (λ free. clear_if (take s.size (drop s.offset flags)) (λ k lt.
    (let inside : k < s.size = omega (arith, len, lt) in
    part_at flags s.offset s.size k inside ∙ taken (s.offset + k) (omega arith) ∙ free_then s ts free (s.offset + k) (covers_at s k inside))))
    (λ full.
    (let m = not_free s ts full in
    let bounds = covers_bounds s m.0 m.1 in
    let inside : m.0 - s.offset < s.size = omega arith in
    let e : s.offset + (m.0 - s.offset) ≡ m.0 = omega arith in
    let flag : get_or (take s.size (drop s.offset flags)) (m.0 - s.offset) false ≡ true = part_at flags s.offset s.size (m.0 - s.offset) inside ∙ rw e (taken m.0 (omega arith) ∙ m.2) in
    not_clear (take s.size (drop s.offset flags)) (m.0 - s.offset) (omega (arith, len)) flag))

pub ruleset agreeing = (agrees_split, clear_is_free)

-- ---- names

pub fresh_go_on : (s : Stream) (ts : List Stream) (i : ℕ) (d : Stream) → i < length ts → repeats (get_or ts i d) s ≡ false → fresh s (drop (i + 1) ts) ≡ fresh s (drop i ts)
unfolding fresh
fresh_go_on s ts i d lt p = rw (drop_step ts i d lt, p) refl

pub fresh_stop : (s : Stream) (ts : List Stream) (i : ℕ) (d : Stream) → i < length ts → repeats (get_or ts i d) s ≡ true → fresh s (drop i ts) ≡ false
unfolding fresh
fresh_stop s ts i d lt p = rw (drop_step ts i d lt, p) refl

pub fresh_end : (s : Stream) (ts : List Stream) (i : ℕ) → length ts ≤ i → fresh s (drop i ts) ≡ true
unfolding fresh
fresh_end s ts i le = rw (drop_end ts i le) refl

other_never : (s t : Stream) → 5 ≤ name_number s.name → repeats t s ≡ false
unfolding repeats
other_never s t le = grind (arith, nat_tests)

pub fresh_other : (s : Stream) (ts : List Stream) → 5 ≤ name_number s.name → fresh s ts ≡ true
unfolding fresh
fresh_other s [] le = refl
fresh_other s (t ∷ ts) le = rw (other_never s t le) (fresh_other s ts le)

pub ruleset freshness = (fresh_go_on, fresh_stop, fresh_end, fresh_other)

-- ---- one stream more

no_flag : (n k : ℕ) → get_or (replicate n false) k false ≡ false
no_flag zero k = refl
no_flag (suc n) zero = refl
no_flag (suc n) (suc k) = no_flag n k

pub none_taken : (n : ℕ) → AreTaken [] (replicate n false)
unfolding covered
none_taken n = λ k lt. no_flag n k

covered_here : (a b o n c : Bool) → c ≡ (a || b) → o ≡ b → (a ≡ true → n ≡ true) → (a ≡ false → n ≡ o) → n ≡ c
covered_here true b o n c e p f g = f refl ∙ sym e
covered_here false b o n c e p f g = g refl ∙ p ∙ sym e

pub taken_more : (ts : List Stream) (s : Stream) (old new : List Bool) → length new ≡ length old → AreTaken ts old
    → ((k : ℕ) → k < length new → covers s k ≡ true → get_or new k false ≡ true)
    → ((k : ℕ) → k < length new → covers s k ≡ false → get_or new k false ≡ get_or old k false)
    → AreTaken (ts ++ s ∷ []) new
taken_more ts s old new len taken inside outside = λ k lt.
    covered_here (covers s k) (covered ts k) (get_or old k false) (get_or new k false) (covered (ts ++ s ∷ []) k) (covered_more ts s k) (taken k (omega arith)) (inside k lt) (outside k lt)

pub covers_inside : (s : Stream) (k : ℕ) → covers s k ≡ true → (s.offset ≤ k) × (k < s.offset + s.size)
covers_inside s k p = covers_bounds s k p

pub covers_outside : (s : Stream) (k : ℕ) → covers s k ≡ false → s.offset ≤ k → s.offset + s.size ≤ k
unfolding covers
covers_outside s k p le = grind (arith, nat_tests, p)

pub ruleset taking = (covers_inside, covers_outside)
