-- Reading numbers of a size keeps to their spellings.
use Rattle.std.proofs.Common.{◌≡◌, ℕ, zero, suc, ◌+◌, ◌-◌, ◌*◌, ◌/◌, ◌%◌, ◌^◌, ◌<◌, ◌≤◌, inl, inr, List, [], ◌∷◌, ◌++◌, length, take, drop, Ok, Err, refl, sym, ap, subst, ◌∙◌, arith, length-append}
use Rattle.std.proofs.Math.Nat.{div-one, div-div-eq-div-mul, pow-suc}
use Rattle.std.proofs.Math.Seq.{drop-append_seam}
use Rattle.std.proofs.lemmas.Bool.{cases_lt, le-leb, lt-leb}
use Rattle.std.proofs.lemmas.List.{append-nil, take-append-drop, length-take}
use Rattle.std.specs.Int.{byte_at, bytes_low_first}
use Rattle.byteorder.specs.Endian.{little_number, little_bytes, little_from}
use Rattle.byteorder.specs.Numbers.{little_number-reads_back, length-bytes_low_first, little_from-lt, little_from-cons, little_from-take}
use Rattle.il_base.specs.Bytes.{number_at}
use Rattle.il_base.proofs.lemmas.blob_grammar.Law.{IsBytes, IsBytes-tail, Law, Takes, Refuses}
use Rattle.attr_blobs.specs.Texts.{sized_at}
use Rattle.attr_blobs.proofs.Told.{tell, told, told_ok, told_err, pair_is}

-- a number of so many bytes, the lowest first
pub record IsSized (size n : ℕ) (bs : List ℕ) : Type 0 where
  pub small : n < 256 ^ size
  pub bytes : bs ≡ little_bytes size n

IsBytes-append : (xs ys : List ℕ) → IsBytes xs → IsBytes ys → IsBytes (xs ++ ys)
IsBytes-append [] ys h k i = k i
IsBytes-append (x ∷ xs) ys h k zero = h zero
IsBytes-append (x ∷ xs) ys h k (suc i) = IsBytes-append xs ys (IsBytes-tail x xs h) k i

-- a byte of a number, by its place
byte_is : (j x : ℕ) → byte_at j x ≡ x / 256 ^ j % 256
byte_is zero x = ap (λ (y : ℕ). y % 256) (sym (div-one x))
byte_is (suc j) x = refl

-- the bytes of the number that they are
bytes_back : (size j x : ℕ) (bs : List ℕ) → length bs ≡ size → IsBytes bs → x / 256 ^ j ≡ little_from 0 size bs → bs ≡ bytes_low_first j size x
bytes_back zero j x [] l fits e = refl
bytes_back zero j x (b ∷ bs) l fits e = absurd (omega arith)
bytes_back (suc size) j x [] l fits e = absurd (omega arith)
bytes_back (suc size) j x (b ∷ bs) l fits e =
    let low : b < 256 = fits zero in
    let m : x / 256 ^ j ≡ b + 256 * little_from 0 size bs = e ∙ ap (λ (v : ℕ). b + 256 * v) (little_from-cons 0 size b bs) in
    let shift : x / 256 ^ suc j ≡ x / 256 ^ j / 256 = ap (λ (p : ℕ). x / p) (pow-suc 256 j) ∙ sym (div-div-eq-div-mul x (256 ^ j) 256) in
    let rest : x / 256 ^ suc j ≡ little_from 0 size bs = shift ∙ ap (λ (v : ℕ). v / 256) m ∙ omega arith in
    let first : b ≡ byte_at j x = sym (byte_is j x ∙ ap (λ (v : ℕ). v % 256) m ∙ omega arith) in
    ap (λ (v : ℕ). v ∷ bs) first ∙ ap (λ (v : List ℕ). byte_at j x ∷ v) (bytes_back size (suc j) x bs (omega arith) (IsBytes-tail b bs fits) rest)

sized_whole : (size : ℕ) (bs : List ℕ) → length bs ≡ size → IsBytes bs → IsSized size (little_number size bs) bs
sized_whole size bs l fits = record { small = little_from-lt 0 size bs fits; bytes = bytes_back size 0 (little_number size bs) bs l fits (div-one (little_number size bs)) }

sized_ok : (size : ℕ) (bs : List ℕ) → size ≤ length bs → sized_at size bs ≡ Ok (little_number size bs, drop size bs)
unfolding sized_at number_at
sized_ok size bs h = let k : size + 0 ≤ length bs = omega arith in let l : 0 + size ≤ length bs = omega arith in rw (le-leb (0 + size) (length bs) l) refl

sized_cut : (size : ℕ) (bs : List ℕ) → length bs < size → sized_at size bs ≡ Err 0
unfolding sized_at number_at
sized_cut size bs h = let l : length bs < 0 + size = omega arith in rw (lt-leb (0 + size) (length bs) l) refl

drop_exact : (n : ℕ) (xs ys : List ℕ) → length xs ≡ n → drop n (xs ++ ys) ≡ ys
drop_exact n xs ys e = subst (λ (m : ℕ). drop m (xs ++ ys) ≡ ys) e (drop-append_seam xs ys)

pub sized_back : (size n : ℕ) (tail : List ℕ) → n < 256 ^ size → sized_at size (little_bytes size n ++ tail) ≡ Ok (n, tail)
sized_back size n tail h =
    let l : length (little_bytes size n) ≡ size = length-bytes_low_first 0 size n in
    let k : size ≤ length (little_bytes size n ++ tail) = omega (arith, length-append (little_bytes size n) tail, l) in
    let v : little_number size (little_bytes size n ++ tail) ≡ n = little_number-reads_back size n tail h in
    let d : drop size (little_bytes size n ++ tail) ≡ tail = drop_exact size (little_bytes size n) tail l in
    sized_ok size (little_bytes size n ++ tail) k ∙ ap (λ (m : ℕ). Ok (m, drop size (little_bytes size n ++ tail))) v ∙ ap (λ (t : List ℕ). Ok (n, t)) d

IsBytes-take : (n : ℕ) (bs : List ℕ) → IsBytes bs → IsBytes (take n bs)
IsBytes-take zero bs h i = omega arith
IsBytes-take (suc n) [] h i = omega arith
IsBytes-take (suc n) (b ∷ bs) h zero = h zero
IsBytes-take (suc n) (b ∷ bs) h (suc i) = IsBytes-take n bs (IsBytes-tail b bs h) i

sized_takes : (size : ℕ) (bs : List ℕ) (n : ℕ) (rest : List ℕ) → IsBytes bs → sized_at size bs ≡ Ok (n, rest) → Takes (tell (sized_at size)) (IsSized size) bs n rest
sized_takes size bs n rest fits e =
    elim (cases_lt (length bs) size) [
      | inl lt ↦ absurd (let k = sized_cut size bs lt in cc)
      | inr le ↦
          let q : (little_number size bs, drop size bs) ≡ (n, rest) = pair_is (little_number size bs, drop size bs) (n, rest) (sym (sized_ok size bs le) ∙ e) in
          let front : List ℕ = take size bs in
          let l : length front ≡ size = omega (arith, length-take size bs) in
          let v : little_number size front ≡ little_number size bs = little_from-take 0 size size bs (omega arith) in
          let s : IsSized size (little_number size bs) front = subst (λ (m : ℕ). IsSized size m front) v (sized_whole size front l (IsBytes-take size bs fits)) in
          subst (λ (p : ℕ × List ℕ). Takes (tell (sized_at size)) (IsSized size) bs p.0 p.1) q
          (record {
            front = front;
            parts = sym (take-append-drop size bs);
            spelled = s;
            again = λ other. ap told (ap (λ (f : List ℕ). sized_at size (f ++ other)) s.bytes ∙ sized_back size (little_number size bs) other s.small);
          })
    ]

-- so many zeros
record Zeros (n : ℕ) : Type 0 where
  bytes : List ℕ
  long : length bytes ≡ n
  fits : IsBytes bytes

zero_fits : IsBytes (0 ∷ [])
zero_fits zero = omega arith
zero_fits (suc i) = omega arith

zeros : (n : ℕ) → Zeros n
zeros zero = record { bytes = []; long = refl; fits = λ i. omega arith }
zeros (suc n) = let z = zeros n in record { bytes = 0 ∷ z.bytes; long = ap suc z.long; fits = IsBytes-append (0 ∷ []) z.bytes zero_fits z.fits }

sized_refuses : (size : ℕ) (bs : List ℕ) (left what : ℕ) → IsBytes bs → told (sized_at size bs) ≡ Err (left, what) → Refuses (tell (sized_at size)) (IsSized size) bs left what
sized_refuses size bs left what fits e =
    let f = told_err (sized_at size bs) left what e in
    elim (cases_lt (length bs) size) [
      | inr le ↦ absurd (let k = sized_ok size bs le in let h = f.0 in cc)
      | inl lt ↦
          let z = zeros (size - length bs) in
          let l : length (bs ++ z.bytes) ≡ size = omega (arith, length-append bs z.bytes, z.long) in
          let cut_off = sized_cut size bs lt in
          let none : 0 ≡ left = let h = f.0 in cc in
          record {
            good = bs;
            bad = [];
            parts = sym (append-nil bs);
            left_is = none;
            value = little_number size (bs ++ z.bytes);
            more = z.bytes;
            begun = sized_whole size (bs ++ z.bytes) l (IsBytes-append bs z.bytes fits z.fits);
            stops = tt;
            kind = inl f.1;
          }
    ]

pub sized_law : (size : ℕ) → Law (tell (sized_at size)) (IsSized size)
sized_law size = record {
  takes = λ bs n rest fits e. sized_takes size bs n rest fits (told_ok (sized_at size bs) (n, rest) e);
  refuses = λ bs left what fits e. sized_refuses size bs left what fits e;
}
