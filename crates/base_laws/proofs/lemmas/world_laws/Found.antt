-- What a look-up among links finds: in joined lists, and of the rows of a table.
use Rattle.std.proofs.Common.{◌≡◌, ◌<◌, ◌≤◌, ℕ, ◌+◌, Bool, true, false, nat_lt, List, ◌++◌, length, Option, Some, None, refl, sym, ◌∙◌, arith, rules}
use Rattle.std.specs.Prelude.{slice_get, if◌then◌else◌}
use Rattle.std.specs.Option.{option_map, option_and_then}
use Rattle.std.proofs.lemmas.List.{length-append}
use Rattle.std.proofs.lemmas.Option.{slice_get_past}
use Rattle.il_base.specs.world_model.Worlds.{row_below, behind}
use Rattle.base_laws.proofs.lemmas.link_laws.Lists.{get_front, get_behind}

-- ---- places in joined lists

module _ {A : Type 0} where
  -- a place in what is joined after so many
  pub get_after : (xs ys : List A) (n k : ℕ) → length xs ≡ n → slice_get (xs ++ ys) (n + k) ≡ slice_get ys k
  get_after xs ys n k e = rw (sym e) (get_behind xs ys k)

  pub first_of_three : (xs ys zs : List A) (k : ℕ) → k < length xs → slice_get (xs ++ ys ++ zs) k ≡ slice_get xs k
  first_of_three xs ys zs k lt =
      let long = length-append xs ys in
      get_front (xs ++ ys) zs k (omega arith) ∙ get_front xs ys k lt

  pub second_of_three : (xs ys zs : List A) (n k : ℕ) → length xs ≡ n → k < length ys → slice_get (xs ++ ys ++ zs) (n + k) ≡ slice_get ys k
  second_of_three xs ys zs n k e lt =
      let long = length-append xs ys in
      get_front (xs ++ ys) zs (n + k) (omega arith) ∙ get_after xs ys n k e

  pub third_of_three : (xs ys zs : List A) (n m k : ℕ) → length xs ≡ n → length ys ≡ m → slice_get (xs ++ ys ++ zs) (n + m + k) ≡ slice_get zs k
  third_of_three xs ys zs n m k e f =
      let long = length-append xs ys in
      get_after (xs ++ ys) zs (n + m) k (omega arith)

  pub length_of_three : (xs ys zs : List A) → length (xs ++ ys ++ zs) ≡ length xs + (length ys + length zs)
  length_of_three xs ys zs =
      let long = length-append xs ys in
      let all = length-append (xs ++ ys) zs in
      omega arith

-- ---- what links tell of the rows of a table

module _ {L V : Type 0} (links : List L) (to : L → V) (before : ℕ) where
  -- what the link at a place of an assembly's tells, where so many links are before those of the assembly
  abbrev pub told : Option ℕ → Option V
  told at = option_map to (option_and_then (slice_get links) (behind before at))

  module _ (n : ℕ) (f : ℕ → V) where
    front_by : ((k : ℕ) → k < n → option_map to (slice_get links (before + k)) ≡ Some (f k)) → (k : ℕ) (b : Bool) → nat_lt k n ≡ b
        → told (if b then Some k else None) ≡ option_map f (if b then Some k else None)
    front_by h k true is = h k (search rules)
    front_by h k false is = refl

    -- rows that are numbered, whose links come first
    pub told_front : ((k : ℕ) → k < n → option_map to (slice_get links (before + k)) ≡ Some (f k)) → (i : Option ℕ)
        → told (row_below n i) ≡ option_map f (row_below n i)
    told_front h None = refl
    told_front h (Some k) = front_by h k (nat_lt k n) refl

    after_by : (c : ℕ) → ((k : ℕ) → k < n → option_map to (slice_get links (before + (c + k))) ≡ Some (f k)) → (k : ℕ) (b : Bool) → nat_lt k n ≡ b
        → told (behind c (if b then Some k else None)) ≡ option_map f (if b then Some k else None)
    after_by c h k true is = h k (search rules)
    after_by c h k false is = refl

    -- rows that are numbered, whose links come after so many
    pub told_after : (c : ℕ) → ((k : ℕ) → k < n → option_map to (slice_get links (before + (c + k))) ≡ Some (f k)) → (i : Option ℕ)
        → told (behind c (row_below n i)) ≡ option_map f (row_below n i)
    told_after c h None = refl
    told_after c h (Some k) = after_by c h k (nat_lt k n) refl

  module _ {R : Type 0} (rows : List R) (f : R → V) (c : ℕ) where
    rows_by : ((k : ℕ) → k < length rows → option_map to (slice_get links (before + (c + k))) ≡ option_map f (slice_get rows k)) → (k : ℕ) (b : Bool) → nat_lt k (length rows) ≡ b
        → told (behind c (if b then Some k else None)) ≡ option_map f (slice_get rows k)
    rows_by h k true is = h k (search rules)
    rows_by h k false is =
        let ge : length rows ≤ k = search rules in
        let e : slice_get rows k ≡ None = slice_get_past rows k ge in
        rw e refl

    -- rows with what they hold, whose links come after so many
    pub told_rows : ((k : ℕ) → k < length rows → option_map to (slice_get links (before + (c + k))) ≡ option_map f (slice_get rows k)) → (i : Option ℕ)
        → told (behind c (row_below (length rows) i)) ≡ option_map f (option_and_then (slice_get rows) i)
    told_rows h None = refl
    told_rows h (Some k) = rows_by h k (nat_lt k (length rows)) refl

  -- ---- by the token's table

  pub by_two : (p q : Option ℕ) (x y : Option V) (one : Bool) → told p ≡ x → told q ≡ y → told (if one then p else q) ≡ (if one then x else y)
  by_two p q x y true e f = e
  by_two p q x y false e f = f

  pub by_three : (p q r : Option ℕ) (x y z : Option V) (one two : Bool) → told p ≡ x → told q ≡ y → told r ≡ z
      → told (if one then p else if two then q else r) ≡ (if one then x else if two then y else z)
  by_three p q r x y z true two e f g = e
  by_three p q r x y z false true e f g = f
  by_three p q r x y z false false e f g = g
