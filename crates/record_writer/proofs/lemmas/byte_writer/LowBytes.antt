-- The lowest bytes of a number.
use Rattle.std.proofs.Common.{◌≡◌, ℕ, zero, suc, ◌≤◌, List, ◌∷◌, take, refl, ap, arith}
use Rattle.std.specs.Int.{byte_at, bytes_low_first}
use Rattle.byteorder.specs.Endian.{little_bytes}

take_from : (i m k n : ℕ) → m ≤ k → take m (bytes_low_first i k n) ≡ bytes_low_first i m n
take_from i zero k n le = refl
take_from i (suc m) zero n le = absurd (omega arith)
take_from i (suc m) (suc k) n le = let le' : m ≤ k = omega arith in ap (λ (bs : List ℕ). byte_at i n ∷ bs) (take_from (suc i) m k n le')

pub take_low : (m n : ℕ) → m ≤ 8 → take m (little_bytes 8 n) ≡ little_bytes m n
take_low m n le = take_from 0 m 8 n le
