-- Look-ups in lists that are joined or numbered.
use Rattle.std.proofs.Common.{◌≡◌, ◌<◌, ℕ, zero, suc, ◌+◌, List, [], ◌∷◌, ◌++◌, length, map, Some, refl, ap, arith}
use Rattle.std.specs.Prelude.{slice_get}
use Rattle.std.specs.List.{range_with_len}
use Rattle.std.specs.Option.{option_map}
use Rattle.rules.specs.link_rules.Faults.{numbered}

pub get_front : {A : Type 0} (xs ys : List A) (k : ℕ) → k < length xs → slice_get (xs ++ ys) k ≡ slice_get xs k
get_front [] ys k h = absurd (omega arith)
get_front (x ∷ xs) ys zero h = refl
get_front (x ∷ xs) ys (suc k) h = get_front xs ys k (omega arith)

pub get_behind : {A : Type 0} (xs ys : List A) (k : ℕ) → slice_get (xs ++ ys) (length xs + k) ≡ slice_get ys k
get_behind [] ys k = ap (slice_get ys) (omega arith)
get_behind (x ∷ xs) ys k = let e : length (x ∷ xs) + k ≡ suc (length xs + k) = omega arith in rw e (get_behind xs ys k)

pub get_range : {A : Type 0} (f : ℕ → A) (n a k j : ℕ) → a + k ≡ j → k < n → slice_get (map f (range_with_len a n)) k ≡ Some (f j)
get_range f zero a k j at h = absurd (omega arith)
get_range f (suc n) a zero j at h = ap (λ (i : ℕ). Some (f i)) (omega arith)
get_range f (suc n) a (suc k) j at h = get_range f n (a + 1) k j (omega arith) (omega arith)

pub length_range : {A : Type 0} (f : ℕ → A) (n a : ℕ) → length (map f (range_with_len a n)) ≡ n
length_range f zero a = refl
length_range f (suc n) a = ap suc (length_range f n (a + 1))

pub get_numbered : {A B : Type 0} (f : ℕ → A → B) (xs : List A) (i k j : ℕ) → i + k ≡ j → slice_get (numbered f i xs) k ≡ option_map (f j) (slice_get xs k)
get_numbered f [] i k j at = refl
get_numbered f (x ∷ xs) i zero j at = ap (λ (n : ℕ). Some (f n x)) (omega arith)
get_numbered f (x ∷ xs) i (suc k) j at = get_numbered f xs (suc i) k j (omega arith)

pub length_numbered : {A B : Type 0} (f : ℕ → A → B) (xs : List A) (i : ℕ) → length (numbered f i xs) ≡ length xs
length_numbered f [] i = refl
length_numbered f (x ∷ xs) i = ap suc (length_numbered f xs (suc i))
