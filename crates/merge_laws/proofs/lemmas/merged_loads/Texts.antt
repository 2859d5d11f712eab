-- Names that are written are UTF-8 without a zero.
use Rattle.std.proofs.Common.{◌≡◌, ℕ, zero, suc, ◌^◌, ◌<◌, true, not, List, [], ◌∷◌, ◌++◌, Option, Some, None, refl, sym, subst, arith}
use Rattle.std.specs.Prelude.{nat_lt, ◌==◌}
use Rattle.std.specs.List.{flat_map, list_all, AllByRecursion}
use Rattle.std.specs.Str.{IsAscii}
use Rattle.std.specs.Str.Parse.{AllDigits}
use Rattle.std.specs.Fmt.{decimal}
use Rattle.std.proofs.lemmas.Bool.{eqb-false, ltb-true, not-true, and_parts}
use Rattle.std.proofs.lemmas.Fmt.{IsAscii-decimal, decimal_is_IsNumeral}
use Rattle.std.proofs.lemmas.List.{get_or_past, append-nil}
use Rattle.std.proofs.lemmas.Str.{is_utf8-from_IsUtf8, IsUtf8-from_is_utf8, IsUtf8-from_ascii, IsUtf8-append, IsUtf8-nil}
use Rattle.std.proofs.lemmas.Str.Parse.{digit_from_value}
use Rattle.rules.specs.link_rules.Cycles.{listed}
use Rattle.file_laws.specs.written_tables.Written.{IsText}

no_zeros : (text : List ℕ) → list_all (λ b. not (b == 0)) text ≡ true → AllByRecursion (λ b. b ≡ 0 → ⊥) text
no_zeros [] e = tt
no_zeros (b ∷ bs) e = let p = and_parts (not (b == 0)) (list_all (λ c. not (c == 0)) bs) e in (eqb-false b 0 (not-true (b == 0) p.0), no_zeros bs p.1)

ascii : (text : List ℕ) → list_all (λ b. nat_lt b 128) text ≡ true → IsAscii text
ascii [] e i = subst (λ (n : ℕ). n < 128) (sym (get_or_past {X = ℕ} [] i 0 (omega arith))) (omega arith)
ascii (b ∷ bs) e zero = ltb-true b 128 (and_parts (nat_lt b 128) (list_all (λ c. nat_lt c 128) bs) e).0
ascii (b ∷ bs) e (suc i) = ascii bs (and_parts (nat_lt b 128) (list_all (λ c. nat_lt c 128) bs) e).1 i

pub is_text : (text : List ℕ) → list_all (λ b. nat_lt b 128) text ≡ true → list_all (λ b. not (b == 0)) text ≡ true → IsText text
is_text text e f = record { utf8 = is_utf8-from_IsUtf8 text (IsUtf8-from_ascii text (ascii text e)); no_zero = no_zeros text f }

pub empty_text : IsText []
empty_text = record { utf8 = is_utf8-from_IsUtf8 [] IsUtf8-nil; no_zero = tt }

-- ---- joined texts

no_zeros_joined : (a b : List ℕ) → AllByRecursion (λ c. c ≡ 0 → ⊥) a → AllByRecursion (λ c. c ≡ 0 → ⊥) b → AllByRecursion (λ c. c ≡ 0 → ⊥) (a ++ b)
no_zeros_joined [] b g h = h
no_zeros_joined (c ∷ cs) b g h = (g.0, no_zeros_joined cs b g.1 h)

pub joined_text : (a b : List ℕ) → IsText a → IsText b → IsText (a ++ b)
joined_text a b s t =
    record { utf8 = is_utf8-from_IsUtf8 (a ++ b) (IsUtf8-append a b (IsUtf8-from_is_utf8 a s.utf8) (IsUtf8-from_is_utf8 b t.utf8)); no_zero = no_zeros_joined a b s.no_zero t.no_zero }

-- the text of the one item, where there is one
pub option_text : {A : Type 0} (f : A → List ℕ) (o : Option A) → ((x : A) → o ≡ Some x → IsText (f x)) → IsText (flat_map f (listed o))
option_text f None h = empty_text
option_text f (Some x) h = subst IsText (sym (append-nil (f x))) (h x refl)

-- ---- numbers

no_digit_zero : (ds : List ℕ) → AllDigits 10 ds → AllByRecursion (λ b. b ≡ 0 → ⊥) ds
no_digit_zero [] d = tt
no_digit_zero (c ∷ cs) d = ((λ e. omega (arith, e, digit_from_value c d.0)), no_digit_zero cs d.1)

pub decimal_text : (n : ℕ) → n < 2 ^ 64 → IsText (decimal n)
decimal_text n h =
    record { utf8 = is_utf8-from_IsUtf8 (decimal n) (IsUtf8-from_ascii (decimal n) (IsAscii-decimal n h)); no_zero = no_digit_zero (decimal n) (decimal_is_IsNumeral n h).0.1 }
