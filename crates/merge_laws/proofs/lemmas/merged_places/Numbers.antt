-- New numbers of the rows of one kind, and the way back.
use Rattle.std.proofs.Common.{◌≡◌, ◌<◌, ◌≤◌, ℕ, zero, suc, ◌+◌, ◌-◌, Bool, true, false, cond, nat_lt, List, [], ◌∷◌, length, Option, Some, None, refl, sym, ap, ◌∙◌, arith}
use Rattle.std.specs.Prelude.{if◌then◌else◌, slice_get, nat_le, ◌&&◌, unwrap_or}
use Rattle.std.specs.Option.{option_map, option_and_then}
use Rattle.std.specs.List.{position_from}
use Rattle.std.proofs.lemmas.Bool.{lt-ltb, le-ltb, le-leb, leb-true, and_parts, and_from, and_right}
use Rattle.std.proofs.lemmas.Iterator.Adapters.{position_from-zero}
use Rattle.il_base.specs.declared.ids.Item.{Item}
use Rattle.il_base.specs.declared.world_model.record.AsmRec.{AsmRec}
use Rattle.rules.specs.declared.link_rules.row_at.RowAt.{RowAt}
use Rattle.rules.specs.link_rules.Cycles.{same_row}
use Rattle.rules.specs.link_rules.Members.{home_from}
use Rattle.rules.specs.merge_rules.Numbers.{Kept, new_row}
use Rattle.rules.specs.merged_world_rules.Numbering.{in_inputs, in_all, number_at, CoreRows, IsFit, core_to, other_number, new_number, other_back, old_number}
use Rattle.merge_laws.proofs.lemmas.merged_places.Ranks.{rank, rank_kept, rank_rises}
use Rattle.merge_laws.proofs.lemmas.merged_places.Rows.{rows_one, place_past, IsThere, home_number, home_below, there_home, none_past, input_below, core_number}
use Rattle.merge_laws.proofs.lemmas.merged_places.Kept.{keeps, those, how_many, new_row_is, new_row_core}

-- ---- numbers that aren't of kept rows

module _ (c : CoreRows) (fits : IsFit c) where
  past_back : (kept below n : ℕ) → other_back c kept below (kept + c.count + n) ≡ n
  past_back kept below n =
      let t : nat_lt (kept + c.count + n) (kept + c.count) ≡ false = le-ltb (kept + c.count + n) (kept + c.count) (omega arith) in
      let back : kept + c.count + n - (kept + c.count) ≡ n = omega arith in
      ap (λ (b : Bool). if b then c.back (kept + c.count + n - kept) + below else kept + c.count + n - (kept + c.count)) t ∙ back

  core_back : (kept below n : ℕ) (o : Option ℕ) → c.to (n - below) ≡ o → below ≤ n → other_back c kept below (unwrap_or (option_map (λ (r : ℕ). kept + r) o) (kept + c.count + n)) ≡ n
  core_back kept below n None e ge = past_back kept below n
  core_back kept below n (Some s) e ge =
      let lt = fits.low (n - below) s e in
      let t : nat_lt (kept + s) (kept + c.count) ≡ true = lt-ltb (kept + s) (kept + c.count) (omega (arith, lt)) in
      let row : kept + s - kept ≡ s = omega arith in
      let whole : n - below + below ≡ n = omega (arith, ge) in
      ap (λ (b : Bool). if b then c.back (kept + s - kept) + below else kept + s - (kept + c.count)) t
      ∙ ap (λ (k : ℕ). c.back k + below) row ∙ ap (λ (k : ℕ). k + below) (fits.led_back (n - below) s e) ∙ whole

  other_by : (kept below all n : ℕ) (b : Bool) → (nat_le below n && nat_lt n all) ≡ b
      → other_back c kept below (unwrap_or (option_map (λ (r : ℕ). kept + r) (if b then c.to (n - below) else None)) (kept + c.count + n)) ≡ n
  other_by kept below all n true e = core_back kept below n (c.to (n - below)) refl (leb-true below n (and_parts (nat_le below n) (nat_lt n all) e).0)
  other_by kept below all n false e = past_back kept below n

  other_undone : (kept below all n : ℕ) → other_back c kept below (other_number c kept below all n) ≡ n
  other_undone kept below all n = other_by kept below all n (nat_le below n && nat_lt n all) refl

module _ (c : CoreRows) where
  past_by : (kept n : ℕ) (o : Option ℕ) → kept ≤ unwrap_or (option_map (λ (r : ℕ). kept + r) o) (kept + c.count + n)
  past_by kept n None = omega arith
  past_by kept n (Some r) = omega arith

  other_past : (kept below all n : ℕ) → kept ≤ other_number c kept below all n
  other_past kept below all n = past_by kept n (core_to c below all n)

  -- of the core library, and past all rows
  other_core : (kept below all n s : ℕ) → below ≤ n → n < all → c.to (n - below) ≡ Some s → other_number c kept below all n ≡ kept + s
  other_core kept below all n s ge lt e =
      ap (λ (b : Bool). unwrap_or (option_map (λ (r : ℕ). kept + r) (if b then c.to (n - below) else None)) (kept + c.count + n))
      (and_from (nat_le below n) (nat_lt n all) (le-leb below n ge) (lt-ltb n all lt))
      ∙ ap (λ (o : Option ℕ). unwrap_or (option_map (λ (r : ℕ). kept + r) o) (kept + c.count + n)) e

  other_none : (kept below all n : ℕ) → all ≤ n → other_number c kept below all n ≡ kept + c.count + n
  other_none kept below all n ge =
      ap (λ (b : Bool). unwrap_or (option_map (λ (r : ℕ). kept + r) (if b then c.to (n - below) else None)) (kept + c.count + n))
      (and_right (nat_le below n) (nat_lt n all) (le-ltb n all ge))

-- ---- what is found is at its place

low_by : (e k : ℕ) (rest : Option ℕ) (b : Bool) → (rest ≡ Some k → e + 1 ≤ k) → cond b (Some e) rest ≡ Some k → e ≤ k
low_by e k rest true more h = let same : e ≡ k = cc in omega (arith, same)
low_by e k rest false more h = let le = more h in omega (arith, le)

low : (t : RowAt → Bool) (e k : ℕ) (zs : List RowAt) → position_from t e zs ≡ Some k → e ≤ k
low t e k [] h = absurd (cc)
low t e k (z ∷ zs) h = low_by e k (position_from t (e + 1) zs) (t z) (low t (e + 1) k zs) h

found_case : (at x : RowAt) (xs : List RowAt) (d j : ℕ) (b : Bool) → same_row at x ≡ b
    → ((i : ℕ) → position_from (same_row at) (d + 1) xs ≡ Some (d + 1 + i) → slice_get xs i ≡ Some at)
    → cond b (Some d) (position_from (same_row at) (d + 1) xs) ≡ Some (d + j) → slice_get (x ∷ xs) j ≡ Some at
found_case at x xs d j true t more h =
    let same : d ≡ d + j = cc in
    let none : j ≡ 0 = omega (arith, same) in
    ap (slice_get (x ∷ xs)) none ∙ ap Some (sym (rows_one at x t))
found_case at x xs d zero false t more h = let le = low (same_row at) (d + 1) (d + 0) xs h in absurd (omega (arith, le))
found_case at x xs d (suc i) false t more h = let z : d + suc i ≡ d + 1 + i = omega arith in more i (h ∙ ap Some z)

found_by : (at : RowAt) (xs : List RowAt) (d j : ℕ) → position_from (same_row at) d xs ≡ Some (d + j) → slice_get xs j ≡ Some at
found_by at [] d j e = absurd (cc)
found_by at (x ∷ xs) d j e = found_case at x xs d j (same_row at x) refl (λ i h. found_by at xs (d + 1) i h) e

pub new_row_at : (rows : List RowAt) (at : RowAt) (j : ℕ) → new_row rows at ≡ Some j → slice_get rows j ≡ Some at
new_row_at rows at j e = let z : j ≡ 0 + j = omega arith in found_by at rows 0 j (sym (position_from-zero (same_row at) rows) ∙ e ∙ ap Some z)

-- ---- each number is led back, whatever rows are kept

module _ (count : AsmRec → ℕ) (c : CoreRows) (fits : IsFit c) (recs : List AsmRec) (rows : List RowAt) where
  abbrev others : ℕ → ℕ
  others n = other_number c (length rows) (in_inputs count recs) (in_all count recs) n

  back_found : (j n : ℕ) (at : RowAt) → slice_get rows j ≡ Some at → number_at count recs at ≡ n → old_number count c recs rows j ≡ n
  unfolding old_number
  back_found j n at e is =
      ap (λ (o : Option RowAt). unwrap_or (option_map (number_at count recs) o) (other_back c (length rows) (in_inputs count recs) j)) e ∙ is

  back_other : (m : ℕ) → length rows ≤ m → old_number count c recs rows m ≡ other_back c (length rows) (in_inputs count recs) m
  unfolding old_number
  back_other m past = ap (λ (o : Option RowAt). unwrap_or (option_map (number_at count recs) o) (other_back c (length rows) (in_inputs count recs) m)) (place_past rows m past)

  others_back : (n : ℕ) → old_number count c recs rows (others n) ≡ n
  others_back n =
      back_other (others n) (other_past c (length rows) (in_inputs count recs) (in_all count recs) n)
      ∙ other_undone c fits (length rows) (in_inputs count recs) (in_all count recs) n

  row_back : (n : ℕ) (at : RowAt) → number_at count recs at ≡ n → (o : Option ℕ) → new_row rows at ≡ o → old_number count c recs rows (unwrap_or o (others n)) ≡ n
  row_back n at is None e = others_back n
  row_back n at is (Some j) e = back_found j n at (new_row_at rows at j e) is

  home_back : (n : ℕ) (o : Option RowAt) → home_from count 0 recs n ≡ o → old_number count c recs rows (unwrap_or (option_and_then (new_row rows) o) (others n)) ≡ n
  home_back n None e = others_back n
  home_back n (Some at) e = row_back n at (home_number count recs n at e) (new_row rows at) refl

  pub led_back : (n : ℕ) → old_number count c recs rows (new_number count c recs rows n) ≡ n
  unfolding new_number
  led_back n = home_back n (home_from count 0 recs n) refl

-- ---- what the new numbers of kept rows are

module _ (count : AsmRec → ℕ) (c : CoreRows) (recs : List AsmRec) (number_item : ℕ → Item) (kept : Kept) where
  abbrev pub new_of : ℕ → ℕ
  new_of n = new_number count c recs (those count recs number_item kept) n

  by_row : (n : ℕ) (at : RowAt) (o : Option ℕ) → home_from count 0 recs n ≡ Some at → new_row (those count recs number_item kept) at ≡ o
      → new_of n ≡ unwrap_or o (other_number c (length (those count recs number_item kept)) (in_inputs count recs) (in_all count recs) n)
  unfolding new_number
  by_row n at o e is =
      ap (λ (h : Option RowAt). unwrap_or (option_and_then (new_row (those count recs number_item kept)) h) (other_number c (length (those count recs number_item kept)) (in_inputs count recs) (in_all count recs) n)) e
      ∙ ap (λ (x : Option ℕ). unwrap_or x (other_number c (length (those count recs number_item kept)) (in_inputs count recs) (in_all count recs) n)) is

  -- of a kept row of an input: how many kept ones are before it
  pub new_kept : (at : RowAt) → IsThere count recs at → suc at.asm < length recs → kept (number_item (number_at count recs at)) ≡ true
      → new_of (number_at count recs at) ≡ rank (keeps count recs number_item kept) (number_at count recs at)
  new_kept at is lt k =
      by_row (number_at count recs at) at (Some (rank (keeps count recs number_item kept) (number_at count recs at))) (there_home count recs at is)
      (new_row_is count recs number_item kept at is (input_below count recs at is lt) k)

  pub new_kept_row : (at : RowAt) (j : ℕ) → IsThere count recs at → new_row (those count recs number_item kept) at ≡ Some j → new_of (number_at count recs at) ≡ j
  new_kept_row at j is e = by_row (number_at count recs at) at (Some j) (there_home count recs at is) e

  -- of a row of the core library: in its new place after the kept rows
  pub new_core : (at : RowAt) (s : ℕ) → IsThere count recs at → suc at.asm ≡ length recs → c.to at.row ≡ Some s
      → new_of (number_at count recs at) ≡ length (those count recs number_item kept) + s
  new_core at s is last goes =
      let lt = home_below count recs (number_at count recs at) at (there_home count recs at is) in
      let number = core_number count recs at last in
      let row : number_at count recs at - in_inputs count recs ≡ at.row = omega (arith, number) in
      by_row (number_at count recs at) at None (there_home count recs at is) (new_row_core count recs number_item kept at last)
      ∙ other_core c (length (those count recs number_item kept)) (in_inputs count recs) (in_all count recs) (number_at count recs at) s (omega (arith, number)) lt (ap c.to row ∙ goes)

  -- of no row: after every row
  pub new_none : (n : ℕ) → home_from count 0 recs n ≡ None → new_of n ≡ length (those count recs number_item kept) + c.count + n
  unfolding new_number
  new_none n e =
      ap (λ (h : Option RowAt). unwrap_or (option_and_then (new_row (those count recs number_item kept)) h) (other_number c (length (those count recs number_item kept)) (in_inputs count recs) (in_all count recs) n)) e
      ∙ other_none c (length (those count recs number_item kept)) (in_inputs count recs) (in_all count recs) n (none_past count recs n e)

module _ (count : AsmRec → ℕ) (recs : List AsmRec) (number_item : ℕ → Item) (kept : Kept) where
  -- a kept row's rank is below how many are kept
  pub rank_below : (n : ℕ) → n < in_inputs count recs → kept (number_item n) ≡ true → rank (keeps count recs number_item kept) n < length (those count recs number_item kept)
  rank_below n lt k =
      let one = rank_kept (keeps count recs number_item kept) n k in
      let up = rank_rises (keeps count recs number_item kept) (suc n) (in_inputs count recs) lt in
      let all = how_many count recs number_item kept in
      omega (arith, one, up, all)
