-- Numbers below the universe fit.
use Rattle.std.proofs.Common.{ℕ, ◌+◌, ◌*◌, ◌<◌, ◌≤◌, arith}
use Rattle.std.proofs.lemmas.Nat.{mul-add-lt, mul-le}

grows : (c m : ℕ) → 0 < c → m ≤ c * m
grows c m h = let a : 1 * m ≤ c * m = mul-le 1 m c m h (omega arith) in omega arith

module _ (places slots count at slot source : ℕ) (a : at < places) (b : slot < slots) (c : source < count) (fits : count * (slots * places) < 4294967296) where
  pub place_fits : at * slots + slot < 4294967296
  place_fits =
      let x : at * slots + slot < slots * places = mul-add-lt at slots slot places a b in
      let y : slots * places ≤ count * (slots * places) = grows count (slots * places) (omega arith) in omega arith

  pub number_fits : (at * slots + slot) * count + source < 4294967296
  number_fits =
      let x : (at * slots + slot) * count + source < count * (slots * places) = mul-add-lt (at * slots + slot) count source (slots * places) (mul-add-lt at slots slot places a b) c in omega arith
