-- Kept rows of inputs: each stands in its table, and has one row in the output.
use Rattle.std.proofs.Common.{◌≡◌, ◌<◌, ◌+◌, ℕ, zero, suc, List, [], ◌∷◌, ◌++◌, length, map, Bool, true, false, Option, Some, inl, inr, sym, ap, subst, ◌∙◌, arith}
use Rattle.std.specs.Prelude.{slice_get, if◌then◌else◌}
use Rattle.std.specs.List.{flat_map, filter, range_with_len}
use Rattle.il_base.specs.declared.ids.Item.{Item}
use Rattle.il_base.specs.declared.world_model.record.AsmRec.{AsmRec}
use Rattle.rules.specs.declared.link_rules.row_at.RowAt.{RowAt}
use Rattle.rules.specs.link_rules.Types.{at_row}
use Rattle.rules.specs.link_rules.Cycles.{listed, same_row}
use Rattle.rules.specs.type_rules.Rows.{rec_at}
use Rattle.base_laws.proofs.lemmas.type_laws.Within.{In, in_flat, flat_in, in_map, in_filter, any_in}
use Rattle.base_laws.proofs.lemmas.type_laws.Places.{rows_decide, place_has}
use Rattle.rules.specs.merge_rules.Numbers.{Kept, inputs_from, inputs, rows_of_kind, kept_rows}
use Rattle.rules.specs.merge_rules.Restricted.{each_at}
use Rattle.merge_laws.proofs.lemmas.merged_references.Lists.{Placed, placed, single_at, single_length}

-- ---- inputs with their numbers

pub record IsInput (recs : List AsmRec) (i : ℕ) (x : ℕ × AsmRec) : Type 0 where
  pub asm : ℕ
  pub numbered : x.0 ≡ i + asm
  pub there : slice_get recs asm ≡ Some x.1
  pub before : suc asm < length recs

pub input_is : (i : ℕ) (recs : List AsmRec) (x : ℕ × AsmRec) → In x (inputs_from i recs) → IsInput recs i x
input_is i [] x h = absurd h
input_is i (rec ∷ []) x h = absurd h
input_is i (rec ∷ next ∷ recs) x (inl e) = record { asm = 0; numbered = ap (λ (y : ℕ × AsmRec). y.0) e ∙ omega arith; there = ap (λ (y : ℕ × AsmRec). Some y.1) (sym e); before = omega arith }
input_is i (rec ∷ next ∷ recs) x (inr h) =
    let n : IsInput (next ∷ recs) (suc i) x = input_is (suc i) (next ∷ recs) x h in
    record { asm = suc n.asm; numbered = omega (arith, n.numbered); there = n.there; before = omega (arith, n.before) }

pub input_in : (i a : ℕ) (recs : List AsmRec) (rec : AsmRec) → slice_get recs a ≡ Some rec → suc a < length recs → In (i + a, rec) (inputs_from i recs)
input_in i a [] rec e lt = cc
input_in i a (r ∷ []) rec e lt = absurd (omega arith)
input_in i zero (r ∷ next ∷ recs) rec e lt =
    let same : r ≡ rec = cc in
    let n : i + 0 ≡ i = omega arith in
    inl (λ j. (n j, sym same j))
input_in i (suc a) (r ∷ next ∷ recs) rec e lt =
    let n : suc i + a ≡ i + suc a = omega arith in
    inr (subst (λ (b : ℕ). In (b, rec) (inputs_from (suc i) (next ∷ recs))) n (input_in (suc i) a (next ∷ recs) rec e (omega arith)))

in_range : (k s n : ℕ) → In k (range_with_len s n) → k < s + n
in_range k s zero h = absurd h
in_range k s (suc n) (inl e) = omega (arith, e)
in_range k s (suc n) (inr h) = let lt : k < s + 1 + n = in_range k (s + 1) n h in omega arith

range_in : (k s n : ℕ) → k < n → In (s + k) (range_with_len s n)
range_in k s zero lt = absurd (omega arith)
range_in zero s (suc n) lt = inl (omega arith)
range_in (suc k) s (suc n) lt =
    let e : s + 1 + k ≡ s + suc k = omega arith in
    inr (subst (λ (m : ℕ). In m (range_with_len (s + 1) n)) e (range_in k (s + 1) n (omega arith)))

pub behind_if : {A : Type 0} (x y : A) (ys : List A) (b : Bool) → In x ys → In x (if b then y ∷ ys else ys)
behind_if x y ys true h = inr h
behind_if x y ys false h = h

-- ---- rows of a kind

pub record IsRow (count : AsmRec → ℕ) (recs : List AsmRec) (at : RowAt) : Type 0 where
  pub rec : AsmRec
  pub there : slice_get recs at.asm ≡ Some rec
  pub below : at.row < count rec
  pub before : suc at.asm < length recs

module _ (count : AsmRec → ℕ) (recs : List AsmRec) where
  pub row_is : (at : RowAt) → In at (rows_of_kind count recs) → IsRow count recs at
  row_is at h =
      let m = in_flat (λ (x : ℕ × AsmRec). map (at_row x.0) (range_with_len 0 (count x.1))) at (inputs recs) h in
      let i : IsInput recs 0 m.0 = input_is 0 recs m.0 m.1 in
      let n = in_map (at_row m.0.0) at (range_with_len 0 (count m.0.1)) m.2 in
      let asm : at.asm ≡ i.asm = ap (λ (r : RowAt). r.asm) n.2 ∙ omega (arith, i.numbered) in
      let row : at.row ≡ n.0 = ap (λ (r : RowAt). r.row) n.2 in
      let lt : n.0 < 0 + count m.0.1 = in_range n.0 0 (count m.0.1) n.1 in
      record { rec = m.0.1; there = ap (slice_get recs) asm ∙ i.there; below = omega (arith, row, lt); before = omega (arith, asm, i.before) }

  map_in : {A B : Type 0} (f : A → B) (x : A) (xs : List A) → In x xs → In (f x) (map f xs)
  map_in f x [] h = absurd h
  map_in f x (y ∷ xs) (inl e) = inl (ap f e)
  map_in f x (y ∷ xs) (inr h) = inr (map_in f x xs h)

  pub row_in : (at : RowAt) (rec : AsmRec) → slice_get recs at.asm ≡ Some rec → at.row < count rec → suc at.asm < length recs → In at (rows_of_kind count recs)
  row_in at rec e lt before =
      let n : 0 + at.asm ≡ at.asm = omega arith in
      let m : 0 + at.row ≡ at.row = omega arith in
      flat_in (λ (x : ℕ × AsmRec). map (at_row x.0) (range_with_len 0 (count x.1))) at (at.asm, rec) (inputs recs)
      (subst (λ (a : ℕ). In (a, rec) (inputs recs)) n (input_in 0 at.asm recs rec e before))
      (map_in (at_row at.asm) at.row (range_with_len 0 (count rec)) (subst (λ (k : ℕ). In k (range_with_len 0 (count rec))) m (range_in at.row 0 (count rec) lt)))

  module _ (item : RowAt → Item) (kept : Kept) where
    pub filter_in : {A : Type 0} (p : A → Bool) (x : A) (xs : List A) → p x ≡ true → In x xs → In x (filter p xs)
    filter_in p x [] t h = absurd h
    filter_in p x (y ∷ xs) t (inl e) = subst (λ (b : Bool). In x (if b then y ∷ filter p xs else filter p xs)) (sym t ∙ ap p e) (inl e)
    filter_in p x (y ∷ xs) t (inr h) = behind_if x y (filter p xs) (p y) (filter_in p x xs t h)

    pub kept_is : (at : RowAt) → In at (kept_rows count item recs kept) → IsRow count recs at
    kept_is at h = row_is at (in_filter at (λ x. kept (item x)) (rows_of_kind count recs) h).1

    -- a kept row of an input has a new row
    pub kept_placed : (at : RowAt) (rec : AsmRec) → slice_get recs at.asm ≡ Some rec → at.row < count rec → suc at.asm < length recs → kept (item at) ≡ true
        → Placed (same_row at) (kept_rows count item recs kept)
    kept_placed at rec e lt before t =
        placed (same_row at) (kept_rows count item recs kept)
        (any_in same_row rows_decide at (kept_rows count item recs kept) (filter_in (λ x. kept (item x)) at (rows_of_kind count recs) t (row_in at rec e lt before)))

-- ---- the rows of the output

module _ {R B : Type 0} (recs : List AsmRec) (rows : AsmRec → List R) (f : RowAt → AsmRec → R → B) where
  abbrev made : RowAt → List B
  made at = flat_map (λ (rec : AsmRec). map (f at rec) (listed (slice_get (rows rec) at.row))) (listed (rec_at recs at))

  made_is : (at : RowAt) (rec : AsmRec) (x : R) → slice_get recs at.asm ≡ Some rec → slice_get (rows rec) at.row ≡ Some x → made at ≡ f at rec x ∷ []
  made_is at rec x e g =
      ap (λ (o : Option AsmRec). flat_map (λ (rec : AsmRec). map (f at rec) (listed (slice_get (rows rec) at.row))) (listed o)) e
      ∙ ap (λ (o : Option R). map (f at rec) (listed o) ++ []) g

  module _ (places : List RowAt) (stand : (at : RowAt) → In at places → IsRow (λ rec. length (rows rec)) recs at) where
    each_one : (at : RowAt) → In at places → (w : B) × (made at ≡ w ∷ [])
    each_one at h =
        let s = stand at h in
        let x = place_has (rows s.rec) at.row s.below in
        (f at s.rec x.0, made_is at s.rec x.0 s.there x.1)

    pub each_length : length (each_at recs rows f places) ≡ length places
    each_length = single_length made places each_one

    pub each_row_at : (k : ℕ) (at : RowAt) (rec : AsmRec) (x : R) → slice_get places k ≡ Some at → slice_get recs at.asm ≡ Some rec → slice_get (rows rec) at.row ≡ Some x
        → slice_get (each_at recs rows f places) k ≡ Some (f at rec x)
    each_row_at k at rec x p e g = single_at made places k at (f at rec x) each_one p (made_is at rec x e g)
