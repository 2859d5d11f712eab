-- How long a text is in `#US`.
use Rattle.std.proofs.Common.{◌≡◌, ℕ, suc, ◌+◌, ◌*◌, Bool, true, false, List, [], ◌∷◌, ◌++◌, length, refl, ap, ◌∙◌, arith, length-append}
use Rattle.std.specs.Prelude.{nat_lt, if◌then◌else◌}
use Rattle.std.specs.List.{flat_map}
use Rattle.std.proofs.lemmas.List.Concat.{flat_map-cons}
use Rattle.il_base.specs.blob_grammar.Numbers.{shortest}
use Rattle.rules.specs.file_layout.Bytes.{half}
use Rattle.rules.specs.file_layout.Heaps.{user_item, units_bytes, last_byte}

-- how many bytes a compressed number takes
abbrev pub prefix_size : ℕ → ℕ
prefix_size n = if nat_lt n 128 then 1 else if nat_lt n 16384 then 2 else 4

length_shortest : (n : ℕ) → length (shortest n) ≡ prefix_size n
unfolding shortest
length_shortest n = by_case (nat_lt n 128) (nat_lt n 16384) refl refl
  where
    by_case : (a b : Bool) → nat_lt n 128 ≡ a → nat_lt n 16384 ≡ b → length (shortest n) ≡ prefix_size n
    by_case true b e f = rw e refl
    by_case false true e f = rw (e, f) refl
    by_case false false e f = rw (e, f) refl

length_units : (units : List ℕ) → length (units_bytes units) ≡ 2 * length units
length_units [] = refl
length_units (u ∷ us) = ap length (flat_map-cons half u us) ∙ length-append (half u) (flat_map half us) ∙ next (length (flat_map half us)) (length us) (length_units us)
  where
    next : (n k : ℕ) → n ≡ 2 * k → 2 + n ≡ 2 * suc k
    next n k e = omega (arith, e)

pub item_length : (units : List ℕ) → length (user_item units) ≡ prefix_size (2 * length units + 1) + (2 * length units + 1)
unfolding user_item
item_length units =
    length-append (shortest (2 * length units + 1) ++ units_bytes units) (last_byte units ∷ [])
    ∙ ap (λ (n : ℕ). n + 1) (length-append (shortest (2 * length units + 1)) (units_bytes units))
    ∙ sum (length (shortest (2 * length units + 1))) (prefix_size (2 * length units + 1)) (length (units_bytes units)) (2 * length units) (length_shortest (2 * length units + 1)) (length_units units)
  where
    sum : (a b n k : ℕ) → a ≡ b → n ≡ k → (a + n) + 1 ≡ b + (k + 1)
    sum a b n k e f = omega (arith, e, f)
