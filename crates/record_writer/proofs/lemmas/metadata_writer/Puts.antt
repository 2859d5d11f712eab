-- Heaps as they are put: as long as they are laid out, and the same bytes where they aren't too long.
use Rattle.std.proofs.Common.{◌≡◌, ℕ, suc, ◌+◌, ◌-◌, ◌*◌, ◌/◌, ◌%◌, ◌^◌, ◌<◌, ◌≤◌, Bool, true, false, cond, nat_lt, List, [], ◌∷◌, ◌++◌, length, replicate, refl, sym, ap, ◌∙◌, arith, length-append}
use Rattle.std.specs.List.{flat_map}
use Rattle.il_base.specs.blob_grammar.Numbers.{shortest}
use Rattle.rules.specs.file_layout.Bytes.{aligned, padded}
use Rattle.rules.specs.file_layout.Heaps.{blob_item, user_item, blobs_heap, users_heap, units_bytes, last_byte}
use Rattle.record_writer.specs.metadata_writer.Lengths.{length_bytes, blob_put, user_put, blobs_put, users_put}

lengths_same : (a b : Bool) (n : ℕ) (x1 : List ℕ) (x2 : List ℕ) (y z : List ℕ) → length y ≡ length z → length (cond a x1 (cond b x2 y)) ≡ length (cond a x1 (cond b x2 z))
lengths_same true b n x1 x2 y z e = refl
lengths_same false true n x1 x2 y z e = refl
lengths_same false false n x1 x2 y z e = e

length_bytes-length : (n : ℕ) → length (length_bytes n) ≡ length (shortest n)
unfolding length_bytes shortest
length_bytes-length n = lengths_same (nat_lt n 128) (nat_lt n 16384) n _ _ _ _ refl

length_bytes-is : (n : ℕ) → n < 2 ^ 29 → length_bytes n ≡ shortest n
unfolding length_bytes shortest
length_bytes-is n lt =
    let low : (192 + n / 16777216) % 256 ≡ 192 + n / 16777216 = omega arith in
    ap (λ (h : ℕ). cond (nat_lt n 128) (n ∷ []) (cond (nat_lt n 16384) ((128 + n / 256) ∷ (n % 256) ∷ []) (h ∷ (n / 65536 % 256) ∷ (n / 256 % 256) ∷ (n % 256) ∷ []))) low

pub blob_put-length : (b : List ℕ) → length (blob_put b) ≡ length (blob_item b)
unfolding blob_put
blob_put-length b = length-append (length_bytes (length b)) b ∙ ap (λ (n : ℕ). n + length b) (length_bytes-length (length b)) ∙ sym (length-append (shortest (length b)) b)

blob_put-is : (b : List ℕ) → length (blob_item b) < 2 ^ 29 → blob_put b ≡ blob_item b
unfolding blob_put
blob_put-is b lt =
    let short : length b < 2 ^ 29 = omega (arith, length-append (shortest (length b)) b) in
    ap (λ (bs : List ℕ). bs ++ b) (length_bytes-is (length b) short)

units-length : (units : List ℕ) → length (units_bytes units) ≡ 2 * length units
units-length [] = refl
units-length (u ∷ us) = omega (arith, units-length us)

pub user_put-length : (units : List ℕ) → length (user_put units) ≡ length (user_item units)
unfolding user_put user_item
user_put-length units =
    simp length-append (ap (λ (n : ℕ). n + length (units_bytes units) + 1) (length_bytes-length (2 * length units + 1)))

user_put-is : (units : List ℕ) → length (user_item units) < 2 ^ 29 → user_put units ≡ user_item units
unfolding user_put user_item
user_put-is units lt =
    let whole : length (shortest (2 * length units + 1) ++ units_bytes units ++ last_byte units ∷ []) ≡ length (shortest (2 * length units + 1)) + length (units_bytes units) + 1 = simp length-append in
    let short : 2 * length units + 1 < 2 ^ 29 = omega (arith, units-length units, whole, lt) in
    ap (λ (bs : List ℕ). bs ++ units_bytes units ++ last_byte units ∷ []) (length_bytes-is (2 * length units + 1) short)

module _ (f g : List ℕ → List ℕ) (same : (x : List ℕ) → length (f x) ≡ length (g x)) (is : (x : List ℕ) → length (g x) < 2 ^ 29 → f x ≡ g x) where
  items-length : (xs : List (List ℕ)) → length (flat_map f xs) ≡ length (flat_map g xs)
  items-length [] = refl
  items-length (x ∷ xs) = omega (arith, length-append (f x) (flat_map f xs), length-append (g x) (flat_map g xs), same x, items-length xs)

  items-are : (xs : List (List ℕ)) → length (flat_map g xs) < 2 ^ 29 → flat_map f xs ≡ flat_map g xs
  items-are [] lt = refl
  items-are (x ∷ xs) lt =
      let here : length (g x) < 2 ^ 29 = omega (arith, length-append (g x) (flat_map g xs)) in
      let more : length (flat_map g xs) < 2 ^ 29 = omega (arith, length-append (g x) (flat_map g xs)) in
      λ i. is x here i ++ items-are xs more i

padded-length : (xs ys : List ℕ) → length xs ≡ length ys → length (padded 4 xs) ≡ length (padded 4 ys)
padded-length xs ys e =
    length-append xs (replicate (aligned 4 (length xs) - length xs) 0)
    ∙ (λ i. e i + length {A = ℕ} (replicate (aligned 4 (e i) - e i) 0))
    ∙ sym (length-append ys (replicate (aligned 4 (length ys) - length ys) 0))

padded-longer : (xs : List ℕ) → length xs ≤ length (padded 4 xs)
padded-longer xs = omega (arith, length-append xs (replicate (aligned 4 (length xs) - length xs) 0))

pub blobs_put-length : (bs : List (List ℕ)) → length (blobs_put bs) ≡ length (blobs_heap bs)
unfolding blobs_put blobs_heap
blobs_put-length bs =
    padded-length (0 ∷ flat_map blob_put bs) (0 ∷ flat_map blob_item bs) (ap suc (items-length blob_put blob_item blob_put-length blob_put-is bs))

pub blobs_put-is : (bs : List (List ℕ)) → length (blobs_heap bs) < 2 ^ 29 → blobs_put bs ≡ blobs_heap bs
unfolding blobs_put blobs_heap
blobs_put-is bs lt =
    let short : length (flat_map blob_item bs) < 2 ^ 29 = omega (arith, padded-longer (0 ∷ flat_map blob_item bs)) in
    ap (λ (xs : List ℕ). padded 4 (0 ∷ xs)) (items-are blob_put blob_item blob_put-length blob_put-is bs short)

pub users_put-length : (us : List (List ℕ)) → length (users_put us) ≡ length (users_heap us)
unfolding users_put users_heap
users_put-length us =
    padded-length (0 ∷ flat_map user_put us) (0 ∷ flat_map user_item us) (ap suc (items-length user_put user_item user_put-length user_put-is us))

pub users_put-is : (us : List (List ℕ)) → length (users_heap us) < 2 ^ 29 → users_put us ≡ users_heap us
unfolding users_put users_heap
users_put-is us lt =
    let short : length (flat_map user_item us) < 2 ^ 29 = omega (arith, padded-longer (0 ∷ flat_map user_item us)) in
    ap (λ (xs : List ℕ). padded 4 (0 ∷ xs)) (items-are user_put user_item user_put-length user_put-is us short)
