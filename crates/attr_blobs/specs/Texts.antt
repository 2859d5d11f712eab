-- Reading a blob from left to right, with the first byte that no value allows: numbers and texts (II.23.2, II.23.3).
use Rattle.std.specs.Prelude.{ℕ, zero, suc, ◌-◌, nat_lt, nat_le, ◌==◌, ◌&&◌, Bool, List, [], ◌∷◌, length, take, drop, Option, Some, None, Result, Ok, Err, if◌then◌else◌}
use Rattle.il_base.specs.Bytes.{compressed_at, number_at}
use Rattle.attr_blobs.specs.declared.text.Expect.{Expect}
use Rattle.attr_blobs.specs.declared.text.Width.{Width}
use Rattle.attr_blobs.specs.declared.text.Width.TheVariants.{One, Two, Four, Eight}

-- What reading gives, or how many bytes are left from the first that no value allows, itself among them: 0 where the
-- bytes end too early.
abbrev pub Read : Type 0 → Type 0
Read A = Result A ℕ

-- A reader gives a value and the bytes after it.
abbrev pub Reader : Type 0 → Type 0
Reader A = List ℕ → Read (A × List ℕ)

infixl 10 ◌>>=◌
abbrev pub ◌>>=◌ : {A B : Type 0} → Read A → (A → Read B) → Read B
(Ok x) >>= f = f x
(Err e) >>= f = Err e

-- the bytes end too early
abbrev pub cut : {A : Type 0} → Read A
cut = Err 0

-- The first of these bytes is bad. Where there is none, they end too early.
abbrev pub bad : {A : Type 0} → List ℕ → Read A
bad bs = Err (length bs)

abbrev pub bytes_of : Width → ℕ
bytes_of One = 1
bytes_of Two = 2
bytes_of Four = 4
bytes_of Eight = 8

-- a number of so many bytes, the lowest first
abbrev pub sized_by : ℕ → List ℕ → Option ℕ → Read (ℕ × List ℕ)
sized_by size bs None = cut
sized_by size bs (Some n) = Ok (n, drop size bs)

unfoldable pub sized_at : ℕ → Reader ℕ
sized_at size bs = sized_by size bs (number_at size bs 0)

-- A compressed number (II.23.2). None begins with a byte of 224 or more.
abbrev pub length_by : List ℕ → Option (ℕ × ℕ) → Read (ℕ × List ℕ)
length_by bs (Some x) = Ok (x.0, drop x.1 bs)
length_by [] None = cut
length_by (b ∷ bs) None = if nat_lt b 224 then cut else bad (b ∷ bs)

unfoldable pub length_at : Reader ℕ
length_at bs = length_by bs (compressed_at bs)

-- UTF-8, byte by byte: how many more bytes the character has, and between which bounds the next one is.
abbrev pub expect : ℕ → ℕ → ℕ → Expect
expect more low high = record { more = more; low = low; high = high }

abbrev pub between : ℕ → ℕ → ℕ → Bool
between low high b = nat_le low b && nat_le b high

-- after a character's first byte
abbrev pub behind_first : ℕ → Option Expect
behind_first b =
    if nat_lt b 128 then Some (expect 0 128 191)
    else if between 194 223 b then Some (expect 1 128 191)
    else if b == 224 then Some (expect 2 160 191)
    else if b == 237 then Some (expect 2 128 159)
    else if between 225 239 b then Some (expect 2 128 191)
    else if b == 240 then Some (expect 3 144 191)
    else if between 241 243 b then Some (expect 3 128 191)
    else if b == 244 then Some (expect 3 128 143)
    else None

-- A character's bytes lie within the text.
abbrev pub within_text : ℕ → Option Expect → Option Expect
within_text left None = None
within_text left (Some e) = if nat_le e.more left then Some e else None

-- after one more byte, where the text has so many bytes left after it
abbrev pub expected : Expect → ℕ → ℕ → Option Expect
expected e left b =
    if e.more == 0 then within_text left (behind_first b)
    else if between e.low e.high b then Some (expect (e.more - 1) 128 191)
    else None

-- goes on with what is expected, or finds the first of these bytes bad
abbrev pub go_on : {A : Type 0} → List ℕ → (Expect → Read A) → Option Expect → Read A
go_on bs f None = bad bs
go_on bs f (Some e) = f e

-- the bytes after a text of so many bytes
unfoldable pub behind_text : ℕ → Expect → List ℕ → Read (List ℕ)
behind_text zero e bs = Ok bs
behind_text (suc n) e [] = cut
behind_text (suc n) e (b ∷ bs) = go_on (b ∷ bs) (λ next. behind_text n next bs) (expected e n b)

-- a text: its length in bytes, and its bytes in UTF-8
unfoldable pub text_at : Reader (List ℕ)
text_at bs = do
  n ← length_at bs
  rest ← behind_text n.0 (expect 0 128 191) n.1
  Ok (take n.0 n.1, rest)

abbrev pub some_text : List ℕ × List ℕ → Read (Option (List ℕ) × List ℕ)
some_text t = Ok (Some t.0, t.1)

-- a text, or ff for null
unfoldable pub text_or_null_at : Reader (Option (List ℕ))
text_or_null_at [] = cut
text_or_null_at (b ∷ bs) = if b == 255 then Ok (None, bs) else (text_at (b ∷ bs) >>= some_text)
