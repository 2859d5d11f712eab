-- Types that wait, one more or one less.
use Rattle.std.proofs.Common.{◌≡◌, ℕ, suc, ◌+◌, ◌<◌, List, [], ◌∷◌, ◌++◌, length, Option, Some, None, refl, sym, ap, ◌∙◌, append_assoc, arith}
use Rattle.std.specs.Prelude.{slice_get}
use Rattle.std.specs.List.{flat_map, sum_by}
use Rattle.std.proofs.lemmas.List.{append-nil}
use Rattle.std.proofs.lemmas.List.Concat.{flat_map-cons}
use Rattle.std.proofs.lemmas.List.Sums.{sum_by-cons}
use Rattle.il_base.specs.declared.ids.Item.{Item}
use Rattle.il_base.specs.declared.world_model.record.AsmRec.{AsmRec}
use Rattle.rules.specs.declared.link_rules.row_at.RowAt.{RowAt}
use Rattle.rules.specs.link_rules.Cycles.{listed}
use Rattle.rules.specs.mark_rules.Members.{nested_in, whole_type, whole_within, whole_nested}
use Rattle.mark_members.specs.declared.levels.Level.{Level}
use Rattle.mark_members.specs.Levels.{level, pushed, left_items, size_within, total}

-- ---- putting types at the end

pub pushed_last : (n : ℕ) (ats : List RowAt) (at : RowAt) → pushed n (ats ++ at ∷ []) ≡ level n at ∷ pushed n ats
unfolding pushed
pushed_last n [] at = refl
pushed_last n (a ∷ ats) at = ap (λ (ls : List Level). ls ++ level n a ∷ []) (pushed_last n ats at)

pub push_next : (n : ℕ) (old put full : List Level) (left new : List RowAt) (at : RowAt) → left ≡ new ++ at ∷ [] → put ≡ old ++ level n at ∷ [] → old ++ pushed n left ≡ full → put ++ pushed n new ≡ full
push_next n old put full left new at l p h =
    ap (λ (ls : List Level). ls ++ pushed n new) p ∙ append_assoc old (level n at ∷ []) (pushed n new)
    ∙ ap (λ (ls : List Level). old ++ ls) (sym (pushed_last n new at) ∙ ap (pushed n) (sym l)) ∙ h

pub push_end : (n : ℕ) (put full : List Level) (left : List RowAt) → left ≡ [] → put ++ pushed n left ≡ full → put ≡ full
unfolding pushed
push_end n put full left l h = sym (ap (λ (ats : List RowAt). put ++ pushed n ats) l ∙ append-nil put) ∙ h

module _ (recs : List AsmRec) where
  -- ---- what those that wait hold

  left_append : (xs ys : List Level) → left_items recs (xs ++ ys) ≡ left_items recs ys ++ left_items recs xs
  unfolding left_items
  left_append [] ys = sym (append-nil (left_items recs ys))
  left_append (x ∷ xs) ys =
      ap (λ (is : List Item). is ++ whole_within recs x.levels x.at) (left_append xs ys) ∙ append_assoc (left_items recs ys) (left_items recs xs) (whole_within recs x.levels x.at)

  left_one : (l : Level) → left_items recs (l ∷ []) ≡ whole_within recs l.levels l.at
  unfolding left_items
  left_one l = refl

  left_pushed : (n : ℕ) (ats : List RowAt) → left_items recs (pushed n ats) ≡ flat_map (whole_within recs n) ats
  unfolding left_items pushed
  left_pushed n [] = refl
  left_pushed n (at ∷ ats) =
      left_append (pushed n ats) (level n at ∷ []) ∙ ap (λ (is : List Item). whole_within recs n at ++ is) (left_pushed n ats) ∙ sym (flat_map-cons (whole_within recs n) at ats)

  total_append : (xs ys : List Level) → total recs (xs ++ ys) ≡ total recs xs + total recs ys
  unfolding total
  total_append [] ys = omega arith
  total_append (x ∷ xs) ys = let e = total_append xs ys in omega arith

  total_one : (l : Level) → total recs (l ∷ []) ≡ size_within recs l.levels l.at
  unfolding total
  total_one l = omega arith

  total_pushed : (n : ℕ) (ats : List RowAt) → total recs (pushed n ats) ≡ sum_by (size_within recs n) ats
  unfolding total pushed
  total_pushed n [] = refl
  total_pushed n (at ∷ ats) =
      let a = total_append (pushed n ats) (level n at ∷ []) in
      let b = total_one (level n at) in
      let e = total_pushed n ats in
      let s = sum_by-cons (size_within recs n) at ats in
      omega arith

  -- ---- a level

  within_suc : (n : ℕ) (at : RowAt) → whole_within recs (suc n) at ≡ whole_type recs at ++ flat_map (whole_within recs n) (nested_in recs at)
  unfolding whole_within
  within_suc n at = refl

  within_zero : (at : RowAt) → whole_within recs 0 at ≡ []
  unfolding whole_within
  within_zero at = refl

  size_suc : (n : ℕ) (at : RowAt) → size_within recs (suc n) at ≡ suc (sum_by (size_within recs n) (nested_in recs at))
  unfolding size_within
  size_suc n at = refl

  size_zero : (at : RowAt) → size_within recs 0 at ≡ 1
  unfolding size_within
  size_zero at = refl

  pub no_level : (n : ℕ) (at : RowAt) (items : List Item) (waiting : List Level) → n ≡ 0 → items ++ left_items recs waiting ≡ items ++ (whole_within recs n at ++ left_items recs waiting)
  no_level n at items waiting z = ap (λ (is : List Item). items ++ (is ++ left_items recs waiting)) (sym (ap (λ (m : ℕ). whole_within recs m at) z ∙ within_zero at))

  pub no_level_total : (n : ℕ) (at : RowAt) (waiting : List Level) → n ≡ 0 → total recs waiting + 1 ≡ total recs waiting + size_within recs n at
  no_level_total n at waiting z = ap (λ (m : ℕ). total recs waiting + m) (sym (ap (λ (m : ℕ). size_within recs m at) z ∙ size_zero at))

  pub one_level : (n m : ℕ) (at : RowAt) (rows : List RowAt) (items put : List Item) (waiting new : List Level) → n ≡ suc m → rows ≡ nested_in recs at → put ≡ items ++ whole_type recs at → new ≡ waiting ++ pushed m rows
      → put ++ left_items recs new ≡ items ++ (whole_within recs n at ++ left_items recs waiting)
  one_level n m at rows items put waiting new e r p w =
      let inner : left_items recs new ≡ flat_map (whole_within recs m) (nested_in recs at) ++ left_items recs waiting =
      ap (left_items recs) w ∙ left_append waiting (pushed m rows) ∙ ap (λ (is : List Item). is ++ left_items recs waiting) (left_pushed m rows ∙ ap (flat_map (whole_within recs m)) r) in
      let whole : whole_within recs n at ≡ whole_type recs at ++ flat_map (whole_within recs m) (nested_in recs at) = ap (λ (k : ℕ). whole_within recs k at) e ∙ within_suc m at in
      rw (p, inner, whole) (simp append_assoc)

  pub one_level_total : (n m : ℕ) (at : RowAt) (rows : List RowAt) (waiting new : List Level) → n ≡ suc m → rows ≡ nested_in recs at → new ≡ waiting ++ pushed m rows
      → total recs new + 1 ≡ total recs waiting + size_within recs n at
  one_level_total n m at rows waiting new e r w =
      let t : total recs new ≡ total recs waiting + sum_by (size_within recs m) (nested_in recs at) = ap (total recs) w ∙ total_append waiting (pushed m rows) ∙ ap (λ (k : ℕ). total recs waiting + k) (total_pushed m rows ∙ ap (sum_by (size_within recs m)) r) in
      let s : size_within recs n at ≡ suc (sum_by (size_within recs m) (nested_in recs at)) = ap (λ (k : ℕ). size_within recs k at) e ∙ size_suc m at in
      omega arith

  -- ---- all levels

  pub level_next : (old put full : List Item) (left new after : List Level) (l : Level) → left ≡ new ++ l ∷ []
      → put ++ left_items recs after ≡ old ++ (whole_within recs l.levels l.at ++ left_items recs new) → old ++ left_items recs left ≡ full → put ++ left_items recs after ≡ full
  level_next old put full left new after l e p h =
      p ∙ ap (λ (is : List Item). old ++ is) (sym (ap (left_items recs) e ∙ left_append new (l ∷ []) ∙ ap (λ (is : List Item). is ++ left_items recs new) (left_one l))) ∙ h

  pub level_end : (put full : List Item) (left : List Level) → left ≡ [] → put ++ left_items recs left ≡ full → put ≡ full
  unfolding left_items
  level_end put full left l h = sym (ap (λ (ls : List Level). put ++ left_items recs ls) l ∙ append-nil put) ∙ h

  pub level_smaller : (left new after : List Level) (l : Level) → left ≡ new ++ l ∷ [] → total recs after + 1 ≡ total recs new + size_within recs l.levels l.at → total recs after < total recs left
  level_smaller left new after l e t =
      let a : total recs left ≡ total recs new + size_within recs l.levels l.at = ap (total recs) e ∙ total_append new (l ∷ []) ∙ ap (λ (k : ℕ). total recs new + k) (total_one l) in
      omega arith

  pub from_one : (at : RowAt) (rec : AsmRec) (n : ℕ) (ls : List Level) → slice_get recs at.asm ≡ Some rec → n ≡ 1 + length rec.type_def → ls ≡ [] ++ level n at ∷ [] → left_items recs ls ≡ whole_nested recs at
  from_one at rec n ls here e l =
      let s : n ≡ suc (length rec.type_def) = omega arith in
      ap (left_items recs) l ∙ left_one (level n at) ∙ ap (λ (k : ℕ). whole_within recs k at) s
      ∙ sym (append-nil (whole_within recs (suc (length rec.type_def)) at))
      ∙ ap (λ (o : Option AsmRec). flat_map (λ (rec : AsmRec). whole_within recs (suc (length rec.type_def)) at) (listed o)) (sym here)

  pub none_whole : (at : RowAt) → slice_get recs at.asm ≡ None → whole_nested recs at ≡ []
  none_whole at here = ap (λ (o : Option AsmRec). flat_map (λ (rec : AsmRec). whole_within recs (suc (length rec.type_def)) at) (listed o)) here
