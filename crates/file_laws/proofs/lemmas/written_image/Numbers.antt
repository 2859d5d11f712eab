-- Numbers and parts of bytes that are joined.
use Rattle.std.proofs.Common.{◌≡◌, ℕ, ◌+◌, ◌-◌, ◌^◌, ◌<◌, ◌≤◌, List, [], ◌++◌, length, take, drop, refl, sym, ap, ◌∙◌, append_assoc, arith, length-append, length-drop}
use Rattle.std.proofs.lemmas.Bool.{le-leb}
use Rattle.std.proofs.lemmas.List.{drop-append-le}
use Rattle.std.proofs.Math.Seq.{drop-append_seam, drop-append-add, take-append_seam, take-append-add}
use Rattle.byteorder.specs.Endian.{little_number, little_bytes}
use Rattle.byteorder.specs.Numbers.{little_from-append, little_number-reads_back, length-bytes_low_first}
use Rattle.il_base.specs.Bytes.{number_at}
use Rattle.il_base.specs.cli_format.Demand.{number}

-- the number of bytes that are there
pub number_there : (n : ℕ) (bs : List ℕ) (at : ℕ) → at + n ≤ length bs → number n bs at ≡ little_number n (drop at bs)
unfolding number number_at
number_there n bs at h = rw (le-leb (at + n) (length bs) h) refl

-- a number that lies in the first of two parts
pub number_front : (n : ℕ) (xs ys : List ℕ) (at : ℕ) → at + n ≤ length xs → number n (xs ++ ys) at ≡ number n xs at
number_front n xs ys at h =
    let whole : at + n ≤ length (xs ++ ys) = omega (arith, length-append xs ys) in
    let room : n ≤ length (drop at xs) = omega (arith, length-drop at xs) in
    number_there n (xs ++ ys) at whole
    ∙ ap (little_number n) (drop-append-le at xs ys (omega arith))
    ∙ little_from-append n (drop at xs) ys room
    ∙ sym (number_there n xs at h)

-- a number that lies in the second of two parts
pub number_back : (n : ℕ) (xs ys : List ℕ) (at k : ℕ) → at ≡ length xs + k → k + n ≤ length ys → number n (xs ++ ys) at ≡ number n ys k
number_back n xs ys at k e h =
    let whole : length xs + k + n ≤ length (xs ++ ys) = omega (arith, length-append xs ys) in
    rw e (number_there n (xs ++ ys) (length xs + k) whole ∙ ap (little_number n) (drop-append-add xs ys k) ∙ sym (number_there n ys k h))

-- a number that lies in the middle of three parts
pub number_middle : (n : ℕ) (xs ys zs : List ℕ) (at k : ℕ) → at ≡ length xs + k → k + n ≤ length ys → number n ((xs ++ ys) ++ zs) at ≡ number n ys k
number_middle n xs ys zs at k e h =
    number_front n (xs ++ ys) zs at (omega (arith, length-append xs ys)) ∙ number_back n xs ys at k e h

-- a number reads back as what its bytes were made of
pub number_made : (n x : ℕ) → x < 256 ^ n → number n (little_bytes n x) 0 ≡ x
number_made n x h =
    number_there n (little_bytes n x) 0 (omega (arith, length-bytes_low_first 0 n x))
    ∙ sym (little_from-append n (little_bytes n x) [] (omega (arith, length-bytes_low_first 0 n x)))
    ∙ little_number-reads_back n x [] h

-- a number that was put between two parts
pub number_between : (n x : ℕ) (xs zs : List ℕ) (at : ℕ) → at ≡ length xs → x < 256 ^ n → number n ((xs ++ little_bytes n x) ++ zs) at ≡ x
number_between n x xs zs at e h =
    number_middle n xs (little_bytes n x) zs at 0 (omega arith) (omega (arith, length-bytes_low_first 0 n x)) ∙ number_made n x h

-- the middle of three parts
pub part_between : (xs ys zs : List ℕ) (at : ℕ) → at ≡ length xs → take (length ys) (drop at ((xs ++ ys) ++ zs)) ≡ ys
part_between xs ys zs at e =
    rw (e, append_assoc, drop-append_seam xs (ys ++ zs)) (take-append_seam ys zs)

-- the bytes from a place in the middle of three parts on: the middle, and others after it
pub tail_between : (xs ys zs : List ℕ) (at k : ℕ) → at ≡ length xs → length ys ≤ k → (rest : List ℕ) × (take k (drop at ((xs ++ ys) ++ zs)) ≡ ys ++ rest)
tail_between xs ys zs at k e h =
    let count : k ≡ length ys + (k - length ys) = omega arith in
    (take (k - length ys) zs, rw (e, append_assoc, drop-append_seam xs (ys ++ zs)) (ap (λ (n : ℕ). take n (ys ++ zs)) count ∙ take-append-add ys zs (k - length ys)))
