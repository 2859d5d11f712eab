-- The items of heaps (II.24.2.3 to II.24.2.5). `h` are the bytes of a heap, and items are named by their places in it.
use Rattle.std.specs.Prelude.{ℕ, ◌-◌, ◌*◌, ◌/◌, ◌==◌, ◌&&◌, nat_le, List, [], length, take, drop, Option, Some, None, position, if◌then◌else◌}
use Rattle.std.specs.Option.{option_and_then}
use Rattle.std.specs.Str.{is_utf8}
use Rattle.il_base.specs.Bytes.{bytes_at, compressed_at}

-- the text, where it is UTF-8
unfoldable pub good_text : List ℕ → Option (List ℕ)
good_text text = if is_utf8 text then Some text else None

-- the text at the front, up to the first zero, where it is UTF-8
unfoldable pub text_at : List ℕ → Option (List ℕ)
text_at bs = option_and_then (λ n. good_text (take n bs)) (position (λ b. b == 0) bs)

-- the text at a place of `#Strings`. Place 0 of an empty heap is the empty text.
unfoldable pub string_of : List ℕ → ℕ → Option (List ℕ)
string_of h at = if (at == 0) && (length h == 0) then Some [] else text_at (drop at h)

-- the bytes at the front after their length, a compressed number
unfoldable pub counted_at : List ℕ → Option (List ℕ)
counted_at bs = option_and_then (λ n. bytes_at bs n.1 n.0) (compressed_at bs)

-- the item at a place of `#US`
unfoldable pub user_string_of : List ℕ → ℕ → Option (List ℕ)
user_string_of h at = counted_at (drop at h)

-- the blob at a place of `#Blob`. Place 0 of an empty heap is the empty blob.
unfoldable pub blob_of : List ℕ → ℕ → Option (List ℕ)
blob_of h at = if (at == 0) && (length h == 0) then Some [] else counted_at (drop at h)

-- the GUID with a number, from 1
unfoldable pub guid_of : List ℕ → ℕ → Option (List ℕ)
guid_of h n = if nat_le 1 n && nat_le n (length h / 16) then Some (take 16 (drop (16 * (n - 1)) h)) else None
