-- Compressed unsigned numbers (II.23.2): 1, 2 or 4 bytes, the highest first, by the lead bits 0, 10 or 110.
use Rattle.std.specs.Prelude.{ℕ, ◌+◌, ◌*◌, ◌/◌, ◌%◌, ◌<◌, nat_lt, List, [], ◌∷◌, if◌then◌else◌}

-- Which bytes spell which number. A longer form than the number needs spells it too.
pub data IsNumber : ℕ → List ℕ → Type 0 where
  one : (b : ℕ) → b < 128 → IsNumber b (b ∷ [])
  two : (h c : ℕ) → h < 64 → c < 256 → IsNumber (h * 256 + c) ((128 + h) ∷ c ∷ [])
  four : (h c d e : ℕ) → h < 32 → c < 256 → d < 256 → e < 256 → IsNumber (h * 16777216 + c * 65536 + d * 256 + e) ((192 + h) ∷ c ∷ d ∷ e ∷ [])

-- the shortest spelling of a number below 2 ^ 29
unfoldable pub shortest : ℕ → List ℕ
shortest n =
    if nat_lt n 128 then n ∷ []
    else if nat_lt n 16384 then (128 + n / 256) ∷ (n % 256) ∷ []
    else (192 + n / 16777216) ∷ (n / 65536 % 256) ∷ (n / 256 % 256) ∷ (n % 256) ∷ []
