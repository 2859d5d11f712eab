-- Items after their lengths, as they are put: a length of 2^29 or more, which has no spelling, takes four bytes.
use Rattle.std.specs.Prelude.{ℕ, ◌+◌, ◌*◌, ◌/◌, ◌%◌, nat_lt, List, [], ◌∷◌, ◌++◌, length, if◌then◌else◌}
use Rattle.std.specs.List.{flat_map}
use Rattle.rules.specs.file_layout.Bytes.{padded}
use Rattle.rules.specs.file_layout.Heaps.{units_bytes, last_byte}

unfoldable pub length_bytes : ℕ → List ℕ
length_bytes n =
    if nat_lt n 128 then n ∷ []
    else if nat_lt n 16384 then (128 + n / 256) ∷ (n % 256) ∷ []
    else ((192 + n / 16777216) % 256) ∷ (n / 65536 % 256) ∷ (n / 256 % 256) ∷ (n % 256) ∷ []

unfoldable pub blob_put : List ℕ → List ℕ
blob_put blob = length_bytes (length blob) ++ blob

unfoldable pub blobs_put : List (List ℕ) → List ℕ
blobs_put blobs = padded 4 (0 ∷ flat_map blob_put blobs)

unfoldable pub user_put : List ℕ → List ℕ
user_put units = length_bytes (2 * length units + 1) ++ units_bytes units ++ last_byte units ∷ []

unfoldable pub users_put : List (List ℕ) → List ℕ
users_put texts = padded 4 (0 ∷ flat_map user_put texts)
