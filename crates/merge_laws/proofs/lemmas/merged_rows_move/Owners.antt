-- The type that has a kept method is the one that it had: runs of methods stay apart.
use Rattle.std.proofs.Common.{◌≡◌, ◌<◌, ◌≤◌, ℕ, zero, suc, ◌+◌, ◌-◌, Bool, true, false, cond, nat_le, nat_lt, List, [], ◌∷◌, length, map, Option, Some, None, ◌⊎◌, inl, inr, refl, sym, ap, subst, ◌∙◌, arith}
use Rattle.std.specs.Prelude.{slice_get, ◌&&◌}
use Rattle.std.specs.List.{filter, position_from, range_with_len}
use Rattle.std.specs.Option.{option_map, option_and_then}
use Rattle.std.proofs.lemmas.List.{length-append}
use Rattle.std.proofs.lemmas.Bool.{lt-ltb, le-ltb, le-leb, lt-leb, cases_lt, cases_eq, and_left, and_right}
use Rattle.il_base.specs.declared.world_model.types.TypeDefRow.{TypeDefRow}
use Rattle.il_base.specs.declared.world_model.record.AsmRec.{AsmRec}
use Rattle.il_base.specs.world_model.Worlds.{rows_before, types_in}
use Rattle.il_base.specs.core_table.Record.{core_record}
use Rattle.rules.specs.declared.link_rules.row_at.RowAt.{RowAt}
use Rattle.rules.specs.link_rules.CoreNames.{added_row}
use Rattle.rules.specs.link_rules.Types.{at_row}
use Rattle.rules.specs.link_rules.Members.{methods_in, owns_method}
use Rattle.rules.specs.type_rules.Slots.{type_of_method}
use Rattle.rules.specs.merge_rules.Moved.{moved_type_row}
use Rattle.rules.specs.merge_rules.Restricted.{output_of}
use Rattle.rules.specs.merge_rules.Numbers.{kept_methods}
use Rattle.rules.specs.merged_world_rules.Merge.{Merge, before, after, names_before, names_after, output, IsMerge}
use Rattle.rules.specs.merged_world_rules.Numbering.{in_inputs, number_at}
use Rattle.merge_laws.proofs.lemmas.merged_places.Ranks.{rank, rank_from, rank_step, rank_none, rank_is, rank_kept, rank_rises}
use Rattle.merge_laws.proofs.lemmas.merged_places.Rows.{IsThere, place_within, place_has, place_past, same_some, number_before, stretch_before}
use Rattle.merge_laws.proofs.lemmas.merged_places.Kept.{keeps, kept_numbers, kept_at, run_is}
use Rattle.merge_laws.proofs.lemmas.merged_places.Worlds.{core_of, left_core, after_is, after_left, after_core, core_rec, core_at, before_types, left_types, before_methods}
use Rattle.merge_laws.proofs.lemmas.merged_places.CoreRows.{same_is, own_goes}
use Rattle.merge_laws.proofs.lemmas.merged_places.Situations.{place, place_there, situation, Input, Core, Gone}
use Rattle.merge_laws.proofs.lemmas.merged_places.Moving.{Stays, place_kept, place_core}
use Rattle.merge_laws.proofs.lemmas.merged_places.Tables.{number_type, number_method, type_rows, types_counted, type_kind, method_kind, type_left}
use Rattle.merge_laws.proofs.lemmas.merged_rows_move.CoreRuns.{owned_by, past_end, core_past}
use Rattle.merge_laws.proofs.lemmas.merged_rows_move.Members.{record_of, method_size}

-- ---- the first that passes

pub record First {A : Type 0} (t : A → Bool) (xs : List A) (k : ℕ) : Type 0 where
  pub item : A
  pub there : slice_get xs k ≡ Some item
  pub passes : t item ≡ true
  pub earlier : (j : ℕ) (x : A) → j < k → slice_get xs j ≡ Some x → t x ≡ false

module _ {A : Type 0} (t : A → Bool) where
  first_by : (x : A) (xs : List A) (d k : ℕ) (b : Bool) → t x ≡ b → ((i : ℕ) → position_from t (d + 1) xs ≡ Some (d + 1 + i) → First t xs i) → ((i : ℕ) → position_from t (d + 1) xs ≡ Some i → d + 1 ≤ i)
      → cond b (Some d) (position_from t (d + 1) xs) ≡ Some (d + k) → First t (x ∷ xs) k
  first_by x xs d zero true e more low h = record { item = x; there = refl; passes = e; earlier = λ j y lt f. absurd (omega (arith, lt)) }
  first_by x xs d (suc k) true e more low h = let same : d ≡ d + suc k = cc in absurd (omega (arith, same))
  first_by x xs d zero false e more low h = let le = low (d + 0) h in absurd (omega (arith, le))
  first_by x xs d (suc k) false e more low h =
      let z : d + suc k ≡ d + 1 + k = omega arith in
      let f = more k (h ∙ ap Some z) in
      record { item = f.item; there = f.there; passes = f.passes; earlier = later f }
    where
      later : First t xs k → (j : ℕ) (y : A) → j < suc k → slice_get (x ∷ xs) j ≡ Some y → t y ≡ false
      later f zero y lt g = let same : x ≡ y = cc in subst (λ (z : A). t z ≡ false) same e
      later f (suc j) y lt g = f.earlier j y (omega (arith, lt)) g

  low_by : (e k : ℕ) (rest : Option ℕ) (b : Bool) → (rest ≡ Some k → e + 1 ≤ k) → cond b (Some e) rest ≡ Some k → e ≤ k
  low_by e k rest true more h = let same : e ≡ k = cc in omega (arith, same)
  low_by e k rest false more h = let le = more h in omega (arith, le)

  low : (xs : List A) (e k : ℕ) → position_from t e xs ≡ Some k → e ≤ k
  low [] e k h = absurd (cc)
  low (x ∷ xs) e k h = low_by e k (position_from t (e + 1) xs) (t x) (low xs (e + 1) k) h

  first_from : (xs : List A) (d k : ℕ) → position_from t d xs ≡ Some (d + k) → First t xs k
  first_from [] d k h = absurd (cc)
  first_from (x ∷ xs) d k h = first_by x xs d k (t x) refl (λ i g. first_from xs (d + 1) i g) (λ i g. low xs (d + 1) i g) h

  pub first_is : (xs : List A) (k : ℕ) → position_from t 0 xs ≡ Some k → First t xs k
  first_is xs k h = let z : k ≡ 0 + k = omega arith in first_from xs 0 k (h ∙ ap Some z)

  none_by : (x : A) (rest : Option ℕ) (d : ℕ) (b : Bool) → t x ≡ b → cond b (Some d) rest ≡ None → (t x ≡ false) × (rest ≡ None)
  none_by x rest d true e h = absurd (cc)
  none_by x rest d false e h = (e, h)

  none_from : (xs : List A) (d j : ℕ) (y : A) → position_from t d xs ≡ None → slice_get xs j ≡ Some y → t y ≡ false
  none_from [] d j y h g = absurd (cc)
  none_from (x ∷ xs) d zero y h g =
      let same : x ≡ y = cc in subst (λ (z : A). t z ≡ false) same (none_by x (position_from t (d + 1) xs) d (t x) refl h).0
  none_from (x ∷ xs) d (suc j) y h g = none_from xs (d + 1) j y (none_by x (position_from t (d + 1) xs) d (t x) refl h).1 g

  pub none_passes : (xs : List A) (j : ℕ) (y : A) → position_from t 0 xs ≡ None → slice_get xs j ≡ Some y → t y ≡ false
  none_passes xs j y h g = none_from xs 0 j y h g

  -- and back
  pub no_place : (xs : List A) (d : ℕ) → ((j : ℕ) (y : A) → slice_get xs j ≡ Some y → t y ≡ false) → position_from t d xs ≡ None
  no_place [] d h = refl
  no_place (x ∷ xs) d h = ap (λ (b : Bool). cond b (Some d) (position_from t (d + 1) xs)) (h 0 x refl) ∙ no_place xs (d + 1) (λ j y g. h (suc j) y g)

  pub at_place : (xs : List A) (d k : ℕ) (x : A) → slice_get xs k ≡ Some x → t x ≡ true → ((j : ℕ) (y : A) → j < k → slice_get xs j ≡ Some y → t y ≡ false) → position_from t d xs ≡ Some (d + k)
  at_place [] d k x g e h = absurd (cc)
  at_place (z ∷ xs) d zero x g e h =
      let same : z ≡ x = cc in
      let zero_more : d ≡ d + 0 = omega arith in
      ap (λ (b : Bool). cond b (Some d) (position_from t (d + 1) xs)) (ap t same ∙ e) ∙ ap Some zero_more
  at_place (z ∷ xs) d (suc k) x g e h =
      let one_more : d + 1 + k ≡ d + suc k = omega arith in
      ap (λ (b : Bool). cond b (Some d) (position_from t (d + 1) xs)) (h 0 z (omega arith) refl)
      ∙ at_place xs (d + 1) k x g e (λ j y lt f. h (suc j) y (omega (arith, lt)) f) ∙ ap Some one_more

-- ---- numbers that pass a test, by their places

module _ (p : ℕ → Bool) where
  pub record Ranked (s i n : ℕ) : Type 0 where
    pub from : s ≤ n
    pub passes : p n ≡ true
    pub rank_is_place : rank_from p s (n - s) ≡ i

  ranked_by : (s len i n : ℕ) (b : Bool) → p s ≡ b → ((c : ℕ) → slice_get (filter p (range_with_len (s + 1) len)) c ≡ Some n → Ranked (s + 1) c n)
      → slice_get (cond b (s ∷ filter p (range_with_len (s + 1) len)) (filter p (range_with_len (s + 1) len))) i ≡ Some n → Ranked s i n
  ranked_by s len zero n true e more h =
      let same : s ≡ n = cc in
      let place : rank_from p s (n - s) ≡ 0 = ap (rank_from p s) (omega (arith, same)) ∙ rank_none p s in
      record { from = omega (arith, same); passes = subst (λ (k : ℕ). p k ≡ true) same e; rank_is_place = place }
  ranked_by s len (suc i) n true e more h =
      let r = more i h in
      let from = r.from in
      let step : rank_from p s (n - s) ≡ 1 + rank_from p (s + 1) (n - (s + 1)) =
      ap (rank_from p s) (omega (arith, from)) ∙ rank_step p s (n - (s + 1)) ∙ ap (λ (b : Bool). cond b 1 0 + rank_from p (s + 1) (n - (s + 1))) e in
      let place = r.rank_is_place in
      record { from = omega (arith, from); passes = r.passes; rank_is_place = omega (arith, step, place) }
  ranked_by s len i n false e more h =
      let r = more i h in
      let from = r.from in
      let step : rank_from p s (n - s) ≡ 0 + rank_from p (s + 1) (n - (s + 1)) =
      ap (rank_from p s) (omega (arith, from)) ∙ rank_step p s (n - (s + 1)) ∙ ap (λ (b : Bool). cond b 1 0 + rank_from p (s + 1) (n - (s + 1))) e in
      let place = r.rank_is_place in
      record { from = omega (arith, from); passes = r.passes; rank_is_place = omega (arith, step, place) }

  ranked_from : (s len i n : ℕ) → slice_get (filter p (range_with_len s len)) i ≡ Some n → Ranked s i n
  ranked_from s zero i n h = absurd (cc)
  ranked_from s (suc len) i n h = ranked_by s len i n (p s) refl (λ c g. ranked_from (s + 1) len c n g) h

  pub place_is_rank : (all i n : ℕ) → slice_get (filter p (range_with_len 0 all)) i ≡ Some n → rank p n ≡ i
  place_is_rank all i n h =
      let r = ranked_from 0 all i n h in
      let place = r.rank_is_place in
      let z : rank_from p 0 (n - 0) ≡ rank_from p 0 n = ap (rank_from p 0) (omega arith) in
      let same = rank_is p n in
      omega (arith, place, z, same)

  -- ranks tell numbers apart where one passes
  pub rank_le : (x n : ℕ) → p n ≡ true → nat_le (rank p x) (rank p n) ≡ nat_le x n
  rank_le x n h = elim (cases_lt n x) [
    | inl lt ↦
        let up = rank_rises p (suc n) x lt in
        let one = rank_kept p n h in
        lt-leb (rank p x) (rank p n) (omega (arith, up, one)) ∙ sym (lt-leb x n lt)
    | inr ge ↦
        let up = rank_rises p x n ge in
        le-leb (rank p x) (rank p n) up ∙ sym (le-leb x n ge)
  ]

  pub rank_lt : (n y : ℕ) → p n ≡ true → nat_lt (rank p n) (rank p y) ≡ nat_lt n y
  rank_lt n y h = elim (cases_lt n y) [
    | inl lt ↦
        let up = rank_rises p (suc n) y lt in
        let one = rank_kept p n h in
        lt-ltb (rank p n) (rank p y) (omega (arith, up, one)) ∙ sym (lt-ltb n y lt)
    | inr ge ↦
        let up = rank_rises p y n ge in
        le-ltb (rank p n) (rank p y) up ∙ sym (le-ltb n y ge)
  ]

-- ---- in a merge

and_same : (a b c d : Bool) → a ≡ c → b ≡ d → (a && b) ≡ (c && d)
and_same a b c d e f = λ i. e i && f i

module _ (m : Merge) (is : IsMerge m) where
  abbrev methods : ℕ → Bool
  methods = keeps methods_in (before m) number_method m.kept

  abbrev types : ℕ → Bool
  types = keeps types_in (before m) number_type m.kept

  abbrev start : ℕ → ℕ
  start a = rows_before methods_in (before m) a

  -- a kept row of a type is in order
  record TypeRow (x : RowAt) : Type 0 where
    rec : AsmRec
    row : TypeDefRow
    here : slice_get (before m) x.asm ≡ Some rec
    is_row : slice_get rec.type_def x.row ≡ Some row
    earlier : suc x.asm < length (before m)
    some : 1 ≤ row.method_list_first
    rises : row.method_list_first ≤ row.method_list_end
    within : row.method_list_end ≤ suc (length rec.method_def)

  type_row : (x : RowAt) → IsThere types_in (before m) x → suc x.asm < length (before m) → TypeRow x
  type_row x h lt =
      let row = place_has h.rec.type_def x.row h.below in
      let whole = record_of m is x.asm h.rec h.here lt in
      let size = method_size m is h.rec in
      let le = whole.runs.methods.within x.row row.0 row.1 in
      record {
        rec = h.rec;
        row = row.0;
        here = h.here;
        is_row = row.1;
        earlier = lt;
        some = whole.runs.methods.begins x.row row.0 row.1;
        rises = whole.runs.methods.never_falls x.row row.0 row.1;
        within = omega (arith, le, size);
      }

  -- the row of a type in what is left
  abbrev new_row_of : (x : RowAt) → TypeRow x → TypeDefRow
  new_row_of x t = moved_type_row m.internal (output m) x t.rec t.row

  begins : (x : RowAt) (t : TypeRow x) → (new_row_of x t).method_list_first ≡ suc (rank methods (start x.asm + (t.row.method_list_first - 1)))
  unfolding output_of kept_methods
  begins x t =
      let rises = t.rises in
      let within = t.within in
      run_is methods_in (before m) number_method m.kept x.asm t.row.method_list_first t.rec t.here t.earlier (omega (arith, rises, within))

  ends : (x : RowAt) (t : TypeRow x) → (new_row_of x t).method_list_end ≡ suc (rank methods (start x.asm + (t.row.method_list_end - 1)))
  unfolding output_of kept_methods
  ends x t =
      let within = t.within in
      run_is methods_in (before m) number_method m.kept x.asm t.row.method_list_end t.rec t.here t.earlier (omega (arith, within))

  suc_le : (x y : ℕ) → nat_le (suc x) (suc y) ≡ nat_le x y
  suc_le x y = elim (cases_lt y x) [
    | inl lt ↦ lt-leb (suc x) (suc y) (omega (arith, lt)) ∙ sym (lt-leb x y lt)
    | inr ge ↦ le-leb (suc x) (suc y) (omega (arith, ge)) ∙ sym (le-leb x y ge)
  ]

  suc_lt : (x y : ℕ) → nat_lt (suc x) (suc y) ≡ nat_lt x y
  suc_lt x y = elim (cases_lt x y) [
    | inl lt ↦ lt-ltb (suc x) (suc y) (omega (arith, lt)) ∙ sym (lt-ltb x y lt)
    | inr ge ↦ le-ltb (suc x) (suc y) (omega (arith, ge)) ∙ sym (le-ltb x y ge)
  ]

  -- a kept method by its number
  owns_by_number : (x : RowAt) (t : TypeRow x) (n : ℕ) → methods n ≡ true
      → owns_method (suc (rank methods n)) (new_row_of x t) ≡ (nat_le (start x.asm + (t.row.method_list_first - 1)) n && nat_lt n (start x.asm + (t.row.method_list_end - 1)))
  owns_by_number x t n k =
      (λ i. nat_le (begins x t i) (suc (rank methods n)) && nat_lt (suc (rank methods n)) (ends x t i))
      ∙ and_same _ _ _ _ (suc_le (rank methods (start x.asm + (t.row.method_list_first - 1))) (rank methods n) ∙ rank_le methods (start x.asm + (t.row.method_list_first - 1)) n k)
      (suc_lt (rank methods n) (rank methods (start x.asm + (t.row.method_list_end - 1))) ∙ rank_lt methods n (start x.asm + (t.row.method_list_end - 1)) k)

  -- each row of what is left is that of a kept type
  record LeftRow (i : ℕ) (t : TypeDefRow) : Type 0 where
    of : RowAt
    of_row : TypeRow of
    rank_is : rank types (number_at types_in (before m) of) ≡ i
    is_moved : t ≡ new_row_of of of_row

  left_row : (i : ℕ) (t : TypeDefRow) → slice_get m.left.type_def i ≡ Some t → LeftRow i t
  left_row i t e =
      let counted = types_counted m is in
      let lt = place_within m.left.type_def i t e in
      let x = place_has (type_rows m is) i (omega (arith, lt, counted)) in
      let kept_row = kept_at types_in (before m) number_type m.kept i x.0 x.1 in
      let r = type_row x.0 kept_row.0.0 kept_row.0.1 in
      let j : ℕ = number_at types_in (before m) x.0 in
      let numbered : slice_get (map (number_at types_in (before m)) (type_rows m is)) i ≡ Some j = mapped (number_at types_in (before m)) (type_rows m is) i x.0 x.1 in
      let place = place_is_rank types (in_inputs types_in (before m)) i j (ap (λ (ns : List ℕ). slice_get ns i) (sym (kept_numbers types_in (before m) number_type m.kept)) ∙ numbered) in
      let found = type_left m is x.0 r.rec r.row kept_row.0.0 kept_row.0.1 kept_row.1 r.here r.is_row in
      record { of = x.0; of_row = r; rank_is = place; is_moved = same_some t (new_row_of x.0 r) (sym e ∙ ap (slice_get m.left.type_def) (sym place) ∙ found) }
    where
      mapped : (f : RowAt → ℕ) (xs : List RowAt) (i : ℕ) (x : RowAt) → slice_get xs i ≡ Some x → slice_get (map f xs) i ≡ Some (f x)
      mapped f [] i x e = absurd (cc)
      mapped f (y ∷ xs) zero x e = let same : y ≡ x = cc in ap (λ (z : RowAt). Some (f z)) same
      mapped f (y ∷ xs) (suc i) x e = mapped f xs i x e

  -- a type owns a method of its own assembly that is in its run, and no other
  module _ (at : RowAt) (there : IsThere methods_in (before m) at) (k : methods (number_at methods_in (before m) at) ≡ true) where
    abbrev n : ℕ
    n = number_at methods_in (before m) at

    shifted_le : (s f : ℕ) → 1 ≤ f → nat_le (s + (f - 1)) (s + at.row) ≡ nat_le f (suc at.row)
    shifted_le s f some = elim (cases_lt (suc at.row) f) [
      | inl lt ↦ lt-leb (s + (f - 1)) (s + at.row) (omega (arith, lt)) ∙ sym (lt-leb f (suc at.row) lt)
      | inr ge ↦ le-leb (s + (f - 1)) (s + at.row) (omega (arith, ge, some)) ∙ sym (le-leb f (suc at.row) ge)
    ]

    shifted_lt : (s e : ℕ) → 1 ≤ e → nat_lt (s + at.row) (s + (e - 1)) ≡ nat_lt (suc at.row) e
    shifted_lt s e some = elim (cases_lt (suc at.row) e) [
      | inl lt ↦ lt-ltb (s + at.row) (s + (e - 1)) (omega (arith, lt)) ∙ sym (lt-ltb (suc at.row) e lt)
      | inr ge ↦ le-ltb (s + at.row) (s + (e - 1)) (omega (arith, ge, some)) ∙ sym (le-ltb (suc at.row) e ge)
    ]

    owns_same : (x : RowAt) (t : TypeRow x) → x.asm ≡ at.asm → owns_method (suc (rank methods n)) (new_row_of x t) ≡ owns_method (suc at.row) t.row
    owns_same x t same =
        let s : start x.asm ≡ start at.asm = ap start same in
        let some = t.some in
        let rises = t.rises in
        owns_by_number x t n k
        ∙ (λ i. nat_le (s i + (t.row.method_list_first - 1)) n && nat_lt n (s i + (t.row.method_list_end - 1)))
        ∙ and_same _ _ _ _ (shifted_le (start at.asm) t.row.method_list_first some) (shifted_lt (start at.asm) t.row.method_list_end (omega (arith, some, rises)))

    owns_other : (x : RowAt) (t : TypeRow x) → (x.asm ≡ at.asm → ⊥) → owns_method (suc (rank methods n)) (new_row_of x t) ≡ false
    owns_other x t apart = elim (cases_lt x.asm at.asm) [ inl lt ↦ before_it lt | inr ge ↦ behind_it ge ]
      where
        before_it : x.asm < at.asm → owns_method (suc (rank methods n)) (new_row_of x t) ≡ false
        before_it lt =
            let within = t.within in
            let low = stretch_before methods_in (before m) x.asm at.asm (t.row.method_list_end - 1) t.rec t.here (omega (arith, within)) lt in
            owns_by_number x t n k
            ∙ and_right (nat_le (start x.asm + (t.row.method_list_first - 1)) n) (nat_lt n (start x.asm + (t.row.method_list_end - 1))) (le-ltb n (start x.asm + (t.row.method_list_end - 1)) (omega (arith, low)))

        behind_it : at.asm ≤ x.asm → owns_method (suc (rank methods n)) (new_row_of x t) ≡ false
        behind_it ge =
            let lt : at.asm < x.asm = elim (cases_lt at.asm x.asm) [ inl lt ↦ lt | inr le ↦ absurd (apart (omega (arith, le, ge))) ] in
            let high = number_before methods_in (before m) at x.asm there lt in
            owns_by_number x t n k
            ∙ and_left (nat_le (start x.asm + (t.row.method_list_first - 1)) n) (nat_lt n (start x.asm + (t.row.method_list_end - 1))) (lt-leb (start x.asm + (t.row.method_list_first - 1)) n (omega (arith, high)))

    -- ---- the first type of what is left that owns it

    -- what another type of the assembly doesn't own
    none_owns : (lt : suc at.asm < length (before m)) → position_from (owns_method (suc at.row)) 0 there.rec.type_def ≡ None → position_from (owns_method (suc (rank methods n))) 0 m.left.type_def ≡ None
    none_owns lt e = no_place (owns_method (suc (rank methods n))) m.left.type_def 0 (λ i t g. by_case (left_row i t g))
      where
        by_case : {i : ℕ} {t : TypeDefRow} → LeftRow i t → owns_method (suc (rank methods n)) t ≡ false
        by_case l = ap (owns_method (suc (rank methods n))) l.is_moved ∙ by_asm l (cases_eq l.of.asm at.asm)
          where
            by_asm : {i : ℕ} {t : TypeDefRow} (l : LeftRow i t) → (l.of.asm ≡ at.asm) ⊎ (l.of.asm ≡ at.asm → ⊥) → owns_method (suc (rank methods n)) (new_row_of l.of l.of_row) ≡ false
            by_asm l (inr apart) = owns_other l.of l.of_row apart
            by_asm l (inl same) =
                let one : l.of_row.rec ≡ there.rec = same_some l.of_row.rec there.rec (sym l.of_row.here ∙ ap (slice_get (before m)) same ∙ there.here) in
                owns_same l.of l.of_row same
                ∙ none_passes (owns_method (suc at.row)) there.rec.type_def l.of.row l.of_row.row e (ap (λ (r : AsmRec). slice_get r.type_def l.of.row) (sym one) ∙ l.of_row.is_row)

    some_owns : (lt : suc at.asm < length (before m)) (q : ℕ) → position_from (owns_method (suc at.row)) 0 there.rec.type_def ≡ Some q
        → m.kept (number_type (number_at types_in (before m) (at_row at.asm q))) ≡ true
        → position_from (owns_method (suc (rank methods n))) 0 m.left.type_def ≡ Some (rank types (number_at types_in (before m) (at_row at.asm q)))
    some_owns lt q e kept_owner =
        let f = first_is (owns_method (suc at.row)) there.rec.type_def q e in
        let x : RowAt = at_row at.asm q in
        let h : IsThere types_in (before m) (at_row at.asm q) = record { rec = there.rec; here = there.here; below = place_within there.rec.type_def q f.item f.there } in
        let r = type_row (at_row at.asm q) h lt in
        let found = type_left m is (at_row at.asm q) r.rec r.row h lt kept_owner r.here r.is_row in
        let one : r.rec ≡ there.rec = same_some r.rec there.rec (sym r.here ∙ there.here) in
        let row_is : r.row ≡ f.item = same_some r.row f.item (sym r.is_row ∙ ap (λ (y : AsmRec). slice_get y.type_def q) one ∙ f.there) in
        let zero_more : 0 + rank types (number_at types_in (before m) (at_row at.asm q)) ≡ rank types (number_at types_in (before m) (at_row at.asm q)) = omega arith in
        at_place (owns_method (suc (rank methods n))) m.left.type_def 0 (rank types (number_at types_in (before m) (at_row at.asm q))) (new_row_of (at_row at.asm q) r) found
        (owns_same (at_row at.asm q) r refl ∙ ap (owns_method (suc at.row)) row_is ∙ f.passes)
        (λ i t less g. earlier_none lt q f i t less (left_row i t g)) ∙ ap Some zero_more
      where
        earlier_none : (lt : suc at.asm < length (before m)) (q : ℕ) (f : First (owns_method (suc at.row)) there.rec.type_def q) (i : ℕ) (t : TypeDefRow)
            → i < rank types (number_at types_in (before m) (at_row at.asm q)) → LeftRow i t → owns_method (suc (rank methods n)) t ≡ false
        earlier_none lt q f i t less l = ap (owns_method (suc (rank methods n))) l.is_moved ∙ by_asm (cases_eq l.of.asm at.asm)
          where
            lower : number_at types_in (before m) l.of < number_at types_in (before m) (at_row at.asm q)
            lower = elim (cases_lt (number_at types_in (before m) l.of) (number_at types_in (before m) (at_row at.asm q))) [
              | inl low ↦ low
              | inr high ↦
                  let up = rank_rises types (number_at types_in (before m) (at_row at.asm q)) (number_at types_in (before m) l.of) high in
                  let place = l.rank_is in
                  absurd (omega (arith, up, place, less))
            ]

            by_asm : (l.of.asm ≡ at.asm) ⊎ (l.of.asm ≡ at.asm → ⊥) → owns_method (suc (rank methods n)) (new_row_of l.of l.of_row) ≡ false
            by_asm (inr apart) = owns_other l.of l.of_row apart
            by_asm (inl same) =
                let one : l.of_row.rec ≡ there.rec = same_some l.of_row.rec there.rec (sym l.of_row.here ∙ ap (slice_get (before m)) same ∙ there.here) in
                let s : rows_before types_in (before m) l.of.asm ≡ rows_before types_in (before m) at.asm = ap (rows_before types_in (before m)) same in
                let low = lower in
                owns_same l.of l.of_row same
                ∙ f.earlier l.of.row l.of_row.row (omega (arith, low, s)) (ap (λ (r : AsmRec). slice_get r.type_def l.of.row) (sym one) ∙ l.of_row.is_row)

  -- ---- the owner

  abbrev type_place : RowAt → RowAt
  type_place at = place m types_in number_type (type_kind m is) at

  abbrev method_place : RowAt → RowAt
  method_place at = place m methods_in number_method (method_kind m is) at

  owner_at : (recs : List AsmRec) (at : RowAt) (rec : AsmRec) → slice_get recs at.asm ≡ Some rec → type_of_method recs at ≡ option_map (at_row at.asm) (position_from (owns_method (suc at.row)) 0 rec.type_def)
  owner_at recs at rec e = ap (option_and_then (λ (rec : AsmRec). option_map (at_row at.asm) (position_from (owns_method (suc at.row)) 0 rec.type_def))) e

  input_none : (at : RowAt) (rec : AsmRec) → slice_get (before m) at.asm ≡ Some rec → suc at.asm < length (before m) → methods_in rec ≤ at.row → position_from (owns_method (suc at.row)) 0 rec.type_def ≡ None
  input_none at rec e lt past = no_place (owns_method (suc at.row)) rec.type_def 0 (λ j t g. ends_early j t g)
    where
      ends_early : (j : ℕ) (t : TypeDefRow) → slice_get rec.type_def j ≡ Some t → owns_method (suc at.row) t ≡ false
      ends_early j t g =
          let whole = record_of m is at.asm rec e lt in
          let within = whole.runs.methods.within j t g in
          let size = method_size m is rec in
          past_end at.row t (omega (arith, within, size, past))

  -- the owner of a row in the output
  module _ (at : RowAt) (stays : IsThere methods_in (before m) at → Stays m methods_in number_method (method_kind m is) at)
      (owner_stays : (x : RowAt) → type_of_method (before m) at ≡ Some x → IsThere types_in (before m) x → Stays m types_in number_type (type_kind m is) x) where
    by_place : (h : Input m methods_in number_method (method_kind m is) at) (o : Option ℕ) → position_from (owns_method (suc at.row)) 0 h.there.rec.type_def ≡ o
        → option_map (at_row 0) (position_from (owns_method (suc (rank methods (number_at methods_in (before m) at)))) 0 m.left.type_def) ≡ option_map type_place (option_map (at_row at.asm) o)
    by_place h None e = ap (option_map (at_row 0)) (none_owns at h.there h.keeps_it h.earlier e)
    by_place h (Some q) e =
        let f = first_is (owns_method (suc at.row)) h.there.rec.type_def q e in
        let x : IsThere types_in (before m) (at_row at.asm q) = record { rec = h.there.rec; here = h.there.here; below = place_within h.there.rec.type_def q f.item f.there } in
        let owner : type_of_method (before m) at ≡ Some (at_row at.asm q) = owner_at (before m) at h.there.rec h.there.here ∙ ap (option_map (at_row at.asm)) e in
        let kept_owner = (owner_stays (at_row at.asm q) owner x).0 h.earlier in
        ap (option_map (at_row 0)) (some_owns at h.there h.keeps_it h.earlier q e kept_owner)
        ∙ ap Some (sym (place_there m types_in number_type (type_kind m is) (at_row at.asm q) x ∙ place_kept m types_in number_type (type_kind m is) (at_row at.asm q) x h.earlier kept_owner))

    input_owner : Input m methods_in number_method (method_kind m is) at → type_of_method (after m) (method_place at) ≡ option_map type_place (type_of_method (before m) at)
    input_owner h =
        ap (type_of_method (after m)) h.moved
        ∙ owner_at (after m) (at_row 0 (rank methods (number_at methods_in (before m) at))) m.left (after_left m)
        ∙ by_place h (position_from (owns_method (suc at.row)) 0 h.there.rec.type_def) refl
        ∙ ap (option_map type_place) (sym (owner_at (before m) at h.there.rec h.there.here))

    core_by : suc at.asm ≡ length (before m) → (t : TypeDefRow → Bool) (o : Option ℕ) → position_from t 0 core_record.type_def ≡ o → option_map (at_row 1) o ≡ option_map type_place (option_map (at_row at.asm) o)
    core_by last t None e = refl
    core_by last t (Some q) e =
        let f = first_is t core_record.type_def q e in
        let lt : q < length core_record.type_def = place_within core_record.type_def q f.item f.there in
        let long = ap length (before_types m) ∙ length-append core_record.type_def (map (added_row core_record) (names_before m)) in
        let x : IsThere types_in (before m) (at_row at.asm q) = record { rec = core_of m; here = core_at m at last; below = omega (arith, lt, long) } in
        ap Some (sym (place_there m types_in number_type (type_kind m is) (at_row at.asm q) x
        ∙ place_core m types_in number_type (type_kind m is) (at_row at.asm q) q x last (own_goes (length core_record.type_def) (names_before m) (names_after m) q lt)))

    core_owner : Core m methods_in number_method (method_kind m is) at → type_of_method (after m) (method_place at) ≡ option_map type_place (type_of_method (before m) at)
    core_owner h =
        let same : at.row ≡ h.row = (same_is (length core_record.method_def) at.row h.row h.goes).1 in
        ap (type_of_method (after m)) h.moved ∙ ap (λ (r : ℕ). type_of_method (after m) (at_row 1 r)) (sym same)
        ∙ owner_at (after m) (at_row 1 at.row) (left_core m) (after_core m)
        ∙ ap (option_map (at_row 1)) (owned_by at.row (names_after m) (left_core m).type_def (left_types m))
        ∙ core_by h.last (owns_method (suc at.row)) (position_from (owns_method (suc at.row)) 0 core_record.type_def) refl
        ∙ ap (option_map type_place) (ap (option_map (at_row at.asm)) (sym (owned_by at.row (names_before m) (core_of m).type_def (before_types m)))
        ∙ sym (owner_at (before m) at (core_of m) (core_at m at h.last)))

    -- a row that isn't there has no owner
    no_owner : (rec : AsmRec) → slice_get (before m) at.asm ≡ Some rec → methods_in rec ≤ at.row → (suc at.asm < length (before m)) ⊎ (length (before m) ≤ suc at.asm) → position_from (owns_method (suc at.row)) 0 rec.type_def ≡ None
    no_owner rec e past (inl lt) = input_none at rec e lt past
    no_owner rec e past (inr ge) =
        let asm = place_within (before m) at.asm rec e in
        let same : rec ≡ core_of m = core_rec m at rec e (omega (arith, ge, asm)) in
        let few : length (core_of m).method_def ≤ at.row = subst (λ (r : AsmRec). methods_in r ≤ at.row) same past in
        let count = ap length (before_methods m) in
        ap (λ (r : AsmRec). position_from (owns_method (suc at.row)) 0 r.type_def) same
        ∙ owned_by at.row (names_before m) (core_of m).type_def (before_types m) ∙ core_past at.row (omega (arith, few, count))

    before_none : (o : Option AsmRec) → slice_get (before m) at.asm ≡ o → Gone m methods_in number_method (method_kind m is) at → type_of_method (before m) at ≡ None
    before_none None e h = ap (option_and_then (λ (rec : AsmRec). option_map (at_row at.asm) (position_from (owns_method (suc at.row)) 0 rec.type_def))) e
    before_none (Some rec) e h =
        owner_at (before m) at rec e ∙ ap (option_map (at_row at.asm)) (no_owner rec e (h.none_before rec e) (cases_lt (suc at.asm) (length (before m))))

    after_none : (x : RowAt) → x.asm ≡ 2 → type_of_method (after m) x ≡ None
    after_none x past =
        let two : length (after m) ≡ 2 = ap length (after_is m) in
        ap (option_and_then (λ (rec : AsmRec). option_map (at_row x.asm) (position_from (owns_method (suc x.row)) 0 rec.type_def))) (place_past (after m) x.asm (omega (arith, past, two)))

    gone_owner : Gone m methods_in number_method (method_kind m is) at → type_of_method (after m) (method_place at) ≡ option_map type_place (type_of_method (before m) at)
    gone_owner h =
        after_none (method_place at) h.past
        ∙ sym (ap (option_map type_place) (before_none (slice_get (before m) at.asm) refl h))

    pub owner_moved : type_of_method (after m) (method_place at) ≡ option_map type_place (type_of_method (before m) at)
    owner_moved = elim (situation m methods_in number_method (method_kind m is) at stays) [
      | inl h ↦ input_owner h
      | inr other ↦ elim other [ inl h ↦ core_owner h | inr h ↦ gone_owner h ]
    ]
