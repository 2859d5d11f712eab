-- The characters that the units of characters spell are these characters.
use Rattle.std.proofs.Common.{◌≡◌, ℕ, ◌+◌, ◌-◌, ◌/◌, ◌%◌, ◌<◌, ◌≤◌, List, [], ◌∷◌, ◌++◌, map, Bool, true, false, true≢false, refl, sym, ap, ◌∙◌, arith, ◌⊎◌, inl, inr}
use Rattle.std.specs.Prelude.{Option, Some, ◌&&◌}
use Rattle.std.specs.List.{flat_map}
use Rattle.std.specs.Str.{IsUtf8, chars}
use Rattle.std.specs.Char.Escape.{encode_utf16}
use Rattle.std.specs.Char.Utf16.{utf16_chars, is_high_surrogate, is_low_surrogate, surrogate_pair_char, lone_unit_char}
use Rattle.std.proofs.lemmas.Bool.Decides.{nat_tests}
use Rattle.std.proofs.lemmas.Str.{scalars-chars}
use Rattle.std.proofs.lemmas.Bool.{lt-ltb, le-ltb, ltb-true, ltb-false}
use Rattle.std.proofs.Math.Dec.{ltb}
use Rattle.std.proofs.Math.Utf8.{scalar, scalars, scalar_cases}

first_true : (a b : Bool) → (a && b) ≡ true → a ≡ true
first_true true b e = refl
first_true false b e = e

rest_true : (a b : Bool) → (a && b) ≡ true → b ≡ true
rest_true true b e = e
rest_true false b e = absurd (true≢false (sym e))

-- ---- one unit

not_high : (c : ℕ) → (c < 55296) ⊎ (57344 ≤ c) → is_high_surrogate c ≡ false
not_high c h = grind (arith, nat_tests)

lone_is : (c : ℕ) → (c < 55296) ⊎ (57344 ≤ c) → lone_unit_char c ≡ Some c
lone_is c h = grind (arith, nat_tests)

one_unit : (c : ℕ) (us : List ℕ) → (c < 55296) ⊎ (57344 ≤ c) → utf16_chars (c ∷ us) ≡ Some c ∷ utf16_chars us
unfolding utf16_chars
one_unit c [] h = rw (lone_is c h) refl
one_unit c (u ∷ us) h = rw (not_high c h, lone_is c h) refl

-- ---- two units

pair_is : (c : ℕ) → 65536 ≤ c → surrogate_pair_char (55296 + (c - 65536) / 1024) (56320 + (c - 65536) % 1024) ≡ c
pair_is c h = omega arith

high_is : (c : ℕ) → 65536 ≤ c → c < 1114112 → is_high_surrogate (55296 + (c - 65536) / 1024) ≡ true
high_is c h l = grind (arith, nat_tests)

low_is : (c : ℕ) → is_low_surrogate (56320 + (c - 65536) % 1024) ≡ true
low_is c = grind (arith, nat_tests)

two_units : (c : ℕ) (us : List ℕ) → 65536 ≤ c → c < 1114112 → utf16_chars ((55296 + (c - 65536) / 1024) ∷ (56320 + (c - 65536) % 1024) ∷ us) ≡ Some c ∷ utf16_chars us
unfolding utf16_chars
two_units c us h l = rw (high_is c h l, low_is c, pair_is c h) refl

-- ---- all

split_by : (c n : ℕ) (b : Bool) → ltb c n ≡ b → (c < n) ⊎ (n ≤ c)
split_by c n true e = inl (ltb-true c n e)
split_by c n false e = inr (ltb-false c n e)

split : (c n : ℕ) → (c < n) ⊎ (n ≤ c)
split c n = split_by c n (ltb c n) refl

small_back : (c : ℕ) (us : List ℕ) → c < 65536 → (c < 55296) ⊎ (57344 ≤ c) → utf16_chars (encode_utf16 c ++ us) ≡ Some c ∷ utf16_chars us
small_back c us l h = rw (lt-ltb c 65536 l) (one_unit c us h)

large_back : (c : ℕ) (us : List ℕ) → 65536 ≤ c → c < 1114112 → utf16_chars (encode_utf16 c ++ us) ≡ Some c ∷ utf16_chars us
large_back c us h l = rw (le-ltb c 65536 h) (two_units c us h l)

back_by : (c : ℕ) (us : List ℕ) → (c < 55296) ⊎ ((57344 ≤ c) × (c < 1114112)) → (c < 65536) ⊎ (65536 ≤ c) → utf16_chars (encode_utf16 c ++ us) ≡ Some c ∷ utf16_chars us
back_by c us (inl h) s = small_back c us (omega arith) (inl h)
back_by c us (inr h) (inl s) = small_back c us s (inr h.0)
back_by c us (inr h) (inr s) = large_back c us s h.1

char_back : (c : ℕ) (us : List ℕ) → scalar c ≡ true → utf16_chars (encode_utf16 c ++ us) ≡ Some c ∷ utf16_chars us
char_back c us e = back_by c us (scalar_cases c e) (split c 65536)

pub letters_back : (cs : List ℕ) → scalars cs ≡ true → utf16_chars (flat_map encode_utf16 cs) ≡ map (λ c. Some c) cs
unfolding utf16_chars
letters_back [] e = refl
letters_back (c ∷ cs) e = char_back c (flat_map encode_utf16 cs) (first_true (scalar c) (scalars cs) e) ∙ ap (λ (xs : List (Option ℕ)). Some c ∷ xs) (letters_back cs (rest_true (scalar c) (scalars cs) e))

pub text_back : (bytes : List ℕ) → IsUtf8 bytes → utf16_chars (flat_map encode_utf16 (chars bytes)) ≡ map (λ c. Some c) (chars bytes)
text_back bytes h = letters_back (chars bytes) (scalars-chars bytes h)
