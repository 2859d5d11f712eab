-- Where bytes stand among others, and the numbers that they are read as.
use Rattle.std.proofs.Common.{◌≡◌, ℕ, zero, suc, ◌+◌, ◌*◌, ◌^◌, ◌<◌, ◌≤◌, true, leb, List, [], ◌∷◌, ◌++◌, length, take, drop, Some, refl, sym, ap, ◌∙◌, arith, append_assoc}
use Rattle.std.specs.Prelude.{slice_get}
use Rattle.std.specs.List.{flat_map}
use Rattle.std.proofs.lemmas.Bool.{le-leb}
use Rattle.std.proofs.lemmas.List.{length-append, drop_at, append-nil}
use Rattle.std.proofs.lemmas.Option.{same_Some, none-some}
use Rattle.byteorder.specs.Endian.{little_bytes, little_number}
use Rattle.byteorder.specs.Numbers.{little_number-reads_back, length-bytes_low_first}
use Rattle.il_base.specs.Bytes.{number_at}
use Rattle.il_base.specs.cli_format.Demand.{number}

-- some bytes stand at a place of others
pub record Stands (xs : List ℕ) (at : ℕ) (ys : List ℕ) : Type 0 where
  pub before : List ℕ
  pub after : List ℕ
  pub parts : xs ≡ before ++ (ys ++ after)
  pub place : length before ≡ at

pub stands_first : (xs ys : List ℕ) → Stands (xs ++ ys) 0 xs
stands_first xs ys = record { before = []; after = ys; parts = refl; place = refl }

pub stands_second : (xs ys : List ℕ) → Stands (xs ++ ys) (length xs) ys
stands_second xs ys = record { before = xs; after = []; parts = ap (λ (zs : List ℕ). xs ++ zs) (sym (append-nil ys)); place = refl }

regroup : (a b c d e : List ℕ) → a ++ ((b ++ (c ++ d)) ++ e) ≡ (a ++ b) ++ (c ++ (d ++ e))
regroup a b c d e = simp append_assoc

-- what stands in a part stands in the whole
pub stands_in : (xs ys zs : List ℕ) (m n : ℕ) → Stands xs m ys → Stands ys n zs → Stands xs (m + n) zs
stands_in xs ys zs m n p q =
    let long : length (p.before ++ q.before) ≡ m + n = omega (arith, length-append p.before q.before, p.place, q.place) in
    record {
      before = p.before ++ q.before;
      after = q.after ++ p.after;
      parts = p.parts ∙ ap (λ (b : List ℕ). p.before ++ (b ++ p.after)) q.parts ∙ regroup p.before q.before zs q.after p.after;
      place = long;
    }

-- the same place, written otherwise
pub stands_at : (xs ys : List ℕ) (m n : ℕ) → m ≡ n → Stands xs m ys → Stands xs n ys
stands_at xs ys m n e p = record { before = p.before; after = p.after; parts = p.parts; place = p.place ∙ e }

pub stands_within : (xs ys : List ℕ) (at : ℕ) → Stands xs at ys → at + length ys ≤ length xs
stands_within xs ys at p =
    let whole : length xs ≡ length (p.before ++ (ys ++ p.after)) = ap length p.parts in
    omega (arith, whole, length-append p.before (ys ++ p.after), length-append ys p.after, p.place)

pub stands_dropped : (xs ys : List ℕ) (at : ℕ) → (p : Stands xs at ys) → drop at xs ≡ ys ++ p.after
stands_dropped xs ys at p = ap (drop at) p.parts ∙ drop_at p.before (ys ++ p.after) at p.place

-- a number is read where its bytes stand
pub number_stands : (k n at : ℕ) (xs : List ℕ) → n < 256 ^ k → Stands xs at (little_bytes k n) → number k xs at ≡ n
unfolding number number_at
number_stands k n at xs lt p =
    let long : leb (at + k) (length xs) ≡ true = le-leb (at + k) (length xs) (omega (arith, stands_within xs (little_bytes k n) at p, length-bytes_low_first 0 k n)) in
    rw (long, stands_dropped xs (little_bytes k n) at p, little_number-reads_back k n p.after lt) refl

pub byte_stands : (b at : ℕ) (xs : List ℕ) → Stands xs at (b ∷ []) → number 1 xs at ≡ b
unfolding number number_at
byte_stands b at xs p =
    let long : leb (at + 1) (length xs) ≡ true = le-leb (at + 1) (length xs) (stands_within xs (b ∷ []) at p) in
    let value : little_number 1 (b ∷ p.after) ≡ b = omega arith in
    rw (long, stands_dropped xs (b ∷ []) at p, value) refl

-- ---- items one after another

-- the item with a number stands after those before it
pub item_stands : {X : Type 0} (f : X → List ℕ) (xs : List X) (k : ℕ) (x : X) → slice_get xs k ≡ Some x
    → Stands (flat_map f xs) (length (flat_map f (take k xs))) (f x)
item_stands f [] k x e = absurd (none-some x e)
item_stands {X = X} f (y ∷ ys) zero x e = let same : y ≡ x = same_Some y x e in rw (← same) (stands_first (f y) (flat_map f ys))
item_stands f (y ∷ ys) (suc k) x e =
    stands_at (f y ++ flat_map f ys) (f x) (length (f y) + length (flat_map f (take k ys))) (length (f y ++ flat_map f (take k ys)))
    (sym (length-append (f y) (flat_map f (take k ys))))
    (stands_in (f y ++ flat_map f ys) (flat_map f ys) (f x) (length (f y)) (length (flat_map f (take k ys))) (stands_second (f y) (flat_map f ys)) (item_stands f ys k x e))

-- items of one length
pub length_items : {X : Type 0} (f : X → List ℕ) (w : ℕ) (xs : List X) → ((k : ℕ) (x : X) → slice_get xs k ≡ Some x → length (f x) ≡ w) → length (flat_map f xs) ≡ length xs * w
length_items f w [] h = omega arith
length_items f w (y ∷ ys) h =
    let first : length (f y) ≡ w = h 0 y refl in
    let rest : length (flat_map f ys) ≡ length ys * w = length_items f w ys (λ k x e. h (suc k) x e) in
    omega (arith, length-append (f y) (flat_map f ys), first, rest)

pub length_items_before : {X : Type 0} (f : X → List ℕ) (w : ℕ) (xs : List X) → ((k : ℕ) (x : X) → slice_get xs k ≡ Some x → length (f x) ≡ w)
    → (n : ℕ) → n ≤ length xs → length (flat_map f (take n xs)) ≡ n * w
length_items_before f w xs h zero le = omega arith
length_items_before f w [] h (suc n) le = absurd (omega arith)
length_items_before f w (y ∷ ys) h (suc n) le =
    let first : length (f y) ≡ w = h 0 y refl in
    let rest : length (flat_map f (take n ys)) ≡ n * w = length_items_before f w ys (λ k x e. h (suc k) x e) n (omega arith) in
    omega (arith, length-append (f y) (flat_map f (take n ys)), first, rest)
