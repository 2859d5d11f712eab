-- The rows of one kind in both worlds of a merge: new numbers, places, and that rows stay apart.
use Rattle.std.proofs.Common.{◌≡◌, ◌<◌, ◌≤◌, ℕ, suc, ◌+◌, Bool, true, false, List, [], ◌∷◌, length, Option, Some, None, ◌⊎◌, inl, inr, refl, sym, ap, subst, ◌∙◌, arith}
use Rattle.std.specs.Prelude.{unwrap_or}
use Rattle.std.specs.Option.{option_map}
use Rattle.std.proofs.lemmas.Bool.{cases_eq, cases_lt}
use Rattle.il_base.specs.declared.ids.Item.{Item}
use Rattle.il_base.specs.declared.world_model.record.AsmRec.{AsmRec}
use Rattle.il_base.specs.world_model.Worlds.{rows_before}
use Rattle.rules.specs.declared.link_rules.row_at.RowAt.{RowAt}
use Rattle.rules.specs.link_rules.Types.{at_row}
use Rattle.rules.specs.link_rules.Cycles.{same_row}
use Rattle.rules.specs.link_rules.Members.{home_from}
use Rattle.rules.specs.merged_world_rules.Merge.{Merge, before, after}
use Rattle.rules.specs.merged_world_rules.Numbering.{in_all, number_at, CoreRows, IsFit, old_number, place_numbered}
use Rattle.merge_laws.proofs.lemmas.merged_places.Ranks.{rank}
use Rattle.merge_laws.proofs.lemmas.merged_places.Rows.{row_itself, rows_one, place_within, IsThere, there_home, home_there, home_number, has_home, no_home, one_by_number, place_number, input_below}
use Rattle.merge_laws.proofs.lemmas.merged_places.Kept.{keeps, those}
use Rattle.merge_laws.proofs.lemmas.merged_places.Numbers.{led_back, new_of, new_kept, new_core, new_none, rank_below}
use Rattle.merge_laws.proofs.lemmas.merged_places.Worlds.{left_core, after_is, after_left, after_core}

-- a kind of rows, with how it goes on in what is left and in the core library
pub record Kind (m : Merge) (count : AsmRec → ℕ) (number_item : ℕ → Item) : Type 0 where
  pub core : CoreRows
  pub counted : count m.left ≡ length (those count (before m) number_item m.kept)
  pub fits : IsFit core
  pub whole : core.count ≡ count (left_core m)

module _ (m : Merge) (count : AsmRec → ℕ) (number_item : ℕ → Item) (kind : Kind m count number_item) where
  abbrev new : ℕ → ℕ
  new n = new_of count kind.core (before m) number_item m.kept n

  abbrev old : RowAt → ℕ
  old at = number_at count (before m) at

  -- where a row stands in the output's world
  abbrev pub place_of : RowAt → RowAt
  place_of at = place_numbered count (after m) (new (old at))

  -- kept, if of an input, and one that the output's world has too, if of the core library
  abbrev pub Stays : RowAt → Type 0
  Stays at = (suc at.asm < length (before m) → m.kept (number_item (old at)) ≡ true) × (suc at.asm ≡ length (before m) → (s : ℕ) × (kind.core.to at.row ≡ Some s))

  -- ---- how many rows there are

  two : (l c : AsmRec) → rows_before count (l ∷ c ∷ []) 2 ≡ count l + count c
  unfolding rows_before
  two l c = omega arith

  one : (l c : AsmRec) → rows_before count (l ∷ c ∷ []) 1 ≡ count l
  unfolding rows_before
  one l c = omega arith

  none : (recs : List AsmRec) → rows_before count recs 0 ≡ 0
  unfolding rows_before
  none recs = refl

  pub after_all : in_all count (after m) ≡ length (those count (before m) number_item m.kept) + count (left_core m)
  after_all = ap (in_all count) (after_is m) ∙ two m.left (left_core m) ∙ ap (λ (k : ℕ). k + count (left_core m)) kind.counted

  -- ---- new numbers are those of rows of the output's world exactly where there was a row

  below_by : (at : RowAt) → IsThere count (before m) at → Stays at → (suc at.asm < length (before m)) ⊎ (length (before m) ≤ suc at.asm) → new (old at) < in_all count (after m)
  below_by at h stays (inl lt) =
      let k = stays.0 lt in
      let low = rank_below count (before m) number_item m.kept (old at) (input_below count (before m) at h lt) k in
      let e = new_kept count kind.core (before m) number_item m.kept at h lt k in
      let all = after_all in
      omega (arith, low, e, all)
  below_by at h stays (inr ge) =
      let asm = place_within (before m) at.asm h.rec h.here in
      let last : suc at.asm ≡ length (before m) = omega (arith, asm, ge) in
      let goes = stays.1 last in
      let low = kind.fits.low at.row goes.0 goes.1 in
      let e = new_core count kind.core (before m) number_item m.kept at goes.0 h last goes.1 in
      let all = after_all in
      let whole = kind.whole in
      omega (arith, low, e, all, whole)

  new_below : (at : RowAt) → IsThere count (before m) at → Stays at → new (old at) < in_all count (after m)
  new_below at h stays = below_by at h stays (cases_lt (suc at.asm) (length (before m)))

  new_past : (n : ℕ) → home_from count 0 (before m) n ≡ None → in_all count (after m) ≤ new n
  new_past n e =
      let number = new_none count kind.core (before m) number_item m.kept n e in
      let all = after_all in
      let whole = kind.whole in
      omega (arith, number, all, whole)

  -- ---- places

  home_by : (n : ℕ) (o : Option RowAt) → home_from count 0 (before m) n ≡ o → ((at : RowAt) → o ≡ Some at → Stays at)
      → home_from count 0 (after m) (new n) ≡ option_map place_of o
  home_by n None e stays = no_home count (after m) (new n) (new_past n e)
  home_by n (Some at) e stays =
      let number = home_number count (before m) n at e in
      let h = home_there count (before m) n at e in
      let low : new n < in_all count (after m) = subst (λ (k : ℕ). new k < in_all count (after m)) number (new_below at h (stays at refl)) in
      let x = has_home count (after m) (new n) low in
      let y : place_of at ≡ x.0 =
      ap (λ (k : ℕ). place_numbered count (after m) (new k)) number ∙ ap (λ (o : Option RowAt). unwrap_or o (at_row 0 (new n))) x.1 in
      x.1 ∙ ap Some (sym y)

  pub homes_move : (n : ℕ) → ((at : RowAt) → home_from count 0 (before m) n ≡ Some at → Stays at)
      → home_from count 0 (after m) (new n) ≡ option_map place_of (home_from count 0 (before m) n)
  homes_move n stays = home_by n (home_from count 0 (before m) n) refl stays

  pub numbers_move : (at : RowAt) → number_at count (after m) (place_of at) ≡ new (old at)
  numbers_move at = place_number count (after m) (new (old at))

  -- ---- two rows stay two

  pub rows_apart : (a b : RowAt) → IsThere count (before m) a → IsThere count (before m) b → same_row (place_of a) (place_of b) ≡ same_row a b
  rows_apart a b p q = by_case (cases_eq (old a) (old b))
    where
      not_same : (x y : RowAt) (c : Bool) → same_row x y ≡ c → (x ≡ y → ⊥) → c ≡ false
      not_same x y true e differ = absurd (differ (rows_one x y e))
      not_same x y false e differ = refl

      numbers_one : place_of a ≡ place_of b → old a ≡ old b
      numbers_one e =
          let back = led_back count kind.core kind.fits (before m) (those count (before m) number_item m.kept) in
          sym (back (old a)) ∙ ap (old_number count kind.core (before m) (those count (before m) number_item m.kept)) (sym (numbers_move a) ∙ ap (number_at count (after m)) e ∙ numbers_move b) ∙ back (old b)

      by_case : (old a ≡ old b) ⊎ (old a ≡ old b → ⊥) → same_row (place_of a) (place_of b) ≡ same_row a b
      by_case (inl e) =
          let same : a ≡ b = one_by_number count (before m) a b p q e in
          ap (λ (x : RowAt). same_row (place_of a) (place_of x)) (sym same) ∙ row_itself (place_of a) ∙ sym (ap (λ (x : RowAt). same_row a x) (sym same) ∙ row_itself a)
      by_case (inr differ) =
          not_same (place_of a) (place_of b) (same_row (place_of a) (place_of b)) refl (λ e. differ (numbers_one e))
          ∙ sym (not_same a b (same_row a b) refl (λ e. differ (ap old e)))

  -- ---- where they stand

  left_there : (j : ℕ) → j < count m.left → home_from count 0 (after m) j ≡ Some (at_row 0 j)
  left_there j lt =
      let number : number_at count (after m) (at_row 0 j) ≡ j = ap (λ (k : ℕ). k + j) (none (after m)) ∙ omega arith in
      ap (home_from count 0 (after m)) (sym number) ∙ there_home count (after m) (at_row 0 j) (record { rec = m.left; here = after_left m; below = lt })

  pub place_kept : (at : RowAt) → IsThere count (before m) at → suc at.asm < length (before m) → m.kept (number_item (old at)) ≡ true
      → place_of at ≡ at_row 0 (rank (keeps count (before m) number_item m.kept) (old at))
  place_kept at h lt k =
      let low = rank_below count (before m) number_item m.kept (old at) (input_below count (before m) at h lt) k in
      let e = new_kept count kind.core (before m) number_item m.kept at h lt k in
      let r : ℕ = rank (keeps count (before m) number_item m.kept) (old at) in
      let counted = kind.counted in
      ap (place_numbered count (after m)) e
      ∙ ap (λ (o : Option RowAt). unwrap_or o (at_row 0 r)) (left_there r (omega (arith, low, counted)))

  pub place_core : (at : RowAt) (s : ℕ) → IsThere count (before m) at → suc at.asm ≡ length (before m) → kind.core.to at.row ≡ Some s → place_of at ≡ at_row 1 s
  place_core at s h last goes =
      let e = new_core count kind.core (before m) number_item m.kept at s h last goes in
      let low = kind.fits.low at.row s goes in
      let whole = kind.whole in
      let counted = kind.counted in
      let first : rows_before count (after m) 1 ≡ count m.left = ap (λ (recs : List AsmRec). rows_before count recs 1) (after_is m) ∙ one m.left (left_core m) in
      let number : number_at count (after m) (at_row 1 s) ≡ new (old at) = omega (arith, first, counted, e) in
      let found = there_home count (after m) (at_row 1 s) (record { rec = left_core m; here = after_core m; below = omega (arith, low, whole) }) in
      let here_at : home_from count 0 (after m) (new (old at)) ≡ Some (at_row 1 s) = ap (home_from count 0 (after m)) (sym number) ∙ found in
      ap (λ (o : Option RowAt). unwrap_or o (at_row 0 (new (old at)))) here_at
