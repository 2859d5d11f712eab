-- Texts in UTF-8.
use Rattle.std.proofs.Common.{◌≡◌, ℕ, List, true, false}
use Rattle.std.specs.Str.{IsUtf8, is_utf8}
use Rattle.std.proofs.lemmas.Bool.{false_from_ne_true}
use Rattle.std.proofs.lemmas.Str.{IsUtf8-from_is_utf8, is_utf8-from_IsUtf8}

pub text_good : (bs : List ℕ) → IsUtf8 bs → is_utf8 bs ≡ true
text_good bs h = is_utf8-from_IsUtf8 bs h

pub text_bad : (bs : List ℕ) → (IsUtf8 bs → ⊥) → is_utf8 bs ≡ false
text_bad bs h = false_from_ne_true (is_utf8 bs) (λ t. h (IsUtf8-from_is_utf8 bs t))

pub ruleset utf8 = (text_good, text_bad)
