-- Units of UTF-16, one character more at a time.
use Rattle.std.proofs.Common.{◌≡◌, ℕ, ◌+◌, ◌-◌, ◌/◌, ◌%◌, ◌<◌, ◌≤◌, ◌⊎◌, List, [], ◌∷◌, ◌++◌, map, Some, refl, sym, ap, ◌∙◌, append_assoc, arith, get_or, inl, inr}
use Rattle.std.specs.Char.Utf16.{utf16_chars, lone_unit_char, surrogate_pair_char}
use Rattle.std.proofs.lemmas.Str.{utf16_chars_lone, utf16_chars_pair}
use Rattle.std.proofs.lemmas.Bool.{lt-leb, le-leb, le-ltb}
use Rattle.std.proofs.lemmas.List.{map-append}
use Rattle.descriptor_texts.specs.name_texts.Spelling.{Spell}

-- a code that is no surrogate
abbrev pub Scalar : ℕ → Type 0
Scalar c = (c < 0xD800) ⊎ ((0xE000 ≤ c) × (c < 0x11_0000))

-- units that spell a character, whatever comes after them
abbrev pub SpellsOne : List ℕ → ℕ → Type 0
SpellsOne us c = (rest : List ℕ) → utf16_chars (us ++ rest) ≡ Some c ∷ utf16_chars rest

pub one_more : (units us cs : List ℕ) (c : ℕ) → SpellsOne us c → Spell units cs → Spell (units ++ us) (cs ++ c ∷ [])
one_more units us cs c one s rest =
    ap utf16_chars (append_assoc units us rest) ∙ s (us ++ rest) ∙ ap (λ ys. map (λ c. Some c) cs ++ ys) (one rest)
    ∙ sym (append_assoc (map (λ c. Some c) cs) (Some c ∷ []) (utf16_chars rest)) ∙ ap (λ xs. xs ++ utf16_chars rest) (sym (map-append (λ c. Some c) cs (c ∷ [])))

lone_is : (c : ℕ) → Scalar c → c < 0x1_0000 → lone_unit_char c ≡ Some c
lone_is c (inl low) below = rw (lt-leb 0xD800 c low) refl
lone_is c (inr high) below = rw (le-leb 0xD800 c (omega arith), le-ltb c 0xE000 (omega arith)) refl

apart : (c v : ℕ) → Scalar c → c < 0x1_0000 → (0xD800 ≤ c) × (c < 0xDC00) × (0xDC00 ≤ v) × (v < 0xE000) → ⊥
apart c v (inl low) below p = omega arith
apart c v (inr high) below p = omega arith

pub short_one : (c : ℕ) → Scalar c → c < 0x1_0000 → SpellsOne (c ∷ []) c
short_one c is below rest = utf16_chars_lone c rest (apart c (get_or rest 0 0) is below) ∙ ap (λ x. x ∷ utf16_chars rest) (lone_is c is below)

pair_is : (c o : ℕ) → o ≡ c - 0x1_0000 → 0x1_0000 ≤ c → surrogate_pair_char (0xD800 + o / 0x400) (0xDC00 + o % 0x400) ≡ c
pair_is c o e from = omega arith

pub long_one : (c o : ℕ) → Scalar c → 0x1_0000 ≤ c → o ≡ c - 0x1_0000 → SpellsOne ((0xD800 + o / 0x400) ∷ (0xDC00 + o % 0x400) ∷ []) c
long_one c o (inl low) from e rest = absurd (omega arith)
long_one c o (inr high) from e rest =
    utf16_chars_pair (0xD800 + o / 0x400) (0xDC00 + o % 0x400) rest (omega arith, omega arith, omega arith, omega arith)
    ∙ ap (λ x. Some x ∷ utf16_chars rest) (pair_is c o e from)
