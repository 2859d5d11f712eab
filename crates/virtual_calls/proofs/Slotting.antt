-- From a method to the inherited one until one is a slot of its own, and the table of slots.
use Rattle.std.proofs.Common.{◌≡◌, ℕ, zero, suc, ◌+◌, ◌-◌, ◌<◌, ◌≤◌, List, [], ◌∷◌, ◌++◌, length, true, false, Option, Some, None, refl, sym, ap, ◌∙◌, arith, add-zero}
use Rattle.std.specs.Prelude.{slice_get}
use Rattle.std.specs.List.{range_with_len}
use Rattle.std.specs.Option.{option_map, option_and_then}
use Rattle.std.proofs.lemmas.Option.{slice_get-map}
use Rattle.std.proofs.lemmas.List.FromFn.{map-range_with_len_more}
use Rattle.il_base.specs.declared.world_model.members.MethodDefRow.{MethodDefRow}
use Rattle.il_base.specs.declared.world_model.expr.TypeExpr.{TypeExpr}
use Rattle.il_base.specs.declared.world_model.record.AsmRec.{AsmRec}
use Rattle.rules.specs.declared.link_rules.row_at.RowAt.{RowAt}
use Rattle.rules.specs.link_rules.Types.{at_row}
use Rattle.rules.specs.link_rules.Members.{base_at, bases_from, type_count, methods_in}
use Rattle.rules.specs.type_rules.Slots.{is_virtual, is_new_slot, method_row_at, nearest, bases_above, inherited, slot_within, slot_of}
use Rattle.virtual_calls.specs.Slots.{slots_in, slots_from, slot_in_rows}

-- ---- the bases of a definition

pub above_none : (recs : List AsmRec) (look : TypeExpr → Option RowAt) (owner : RowAt) → base_at recs owner ≡ None → None ≡ nearest look (bases_above recs owner)
unfolding nearest
above_none recs look owner e = sym (ap (λ (o : Option TypeExpr). nearest look (elim o [ None ↦ [] | Some b ↦ bases_from recs (type_count recs) b ])) e)

-- ---- one method

module _ (recs : List AsmRec) where
  missing : (n : ℕ) (at : RowAt) → method_row_at recs at ≡ None → slot_within recs (suc n) at ≡ None
  unfolding slot_within
  missing n at e = rw e refl

  other : (n : ℕ) (at : RowAt) (m : MethodDefRow) → method_row_at recs at ≡ Some m → is_virtual m ≡ false → slot_within recs (suc n) at ≡ None
  unfolding slot_within
  other n at m e v = rw (e, v) refl

  new : (n : ℕ) (at : RowAt) (m : MethodDefRow) → method_row_at recs at ≡ Some m → is_virtual m ≡ true → is_new_slot m ≡ true → slot_within recs (suc n) at ≡ Some at
  unfolding slot_within
  new n at m e v s = rw (e, v, s) refl

  own : (n : ℕ) (at : RowAt) (m : MethodDefRow) → method_row_at recs at ≡ Some m → is_virtual m ≡ true → is_new_slot m ≡ false → inherited recs at m ≡ None
      → slot_within recs (suc n) at ≡ Some at
  unfolding slot_within
  own n at m e v s h = rw (e, v, s, h) refl

  above : (n : ℕ) (at : RowAt) (m : MethodDefRow) (b : RowAt) → method_row_at recs at ≡ Some m → is_virtual m ≡ true → is_new_slot m ≡ false → inherited recs at m ≡ Some b
      → slot_within recs (suc n) at ≡ slot_within recs n b
  unfolding slot_within
  above n at m b e v s h = rw (e, v, s, h) refl

  none : (at : RowAt) → slot_within recs 0 at ≡ None
  unfolding slot_within
  none at = refl

  whole : (n : ℕ) (at : RowAt) → n ≡ suc (type_count recs) → slot_within recs n at ≡ slot_of recs at
  unfolding slot_of
  whole n at e = ap (λ (k : ℕ). slot_within recs k at) e

  -- ---- the exits and the step of a loop over n methods, at the place i and a method, which began at a method

  module _ (n i : ℕ) (at start : RowAt) (kept : slot_within recs (n - i) at ≡ slot_within recs n start) where
    more : i < n → n - i ≡ suc (n - (i + 1))
    more h = omega arith

    opened : i < n → slot_within recs (suc (n - (i + 1))) at ≡ slot_within recs n start
    opened h = ap (λ (k : ℕ). slot_within recs k at) (sym (more h)) ∙ kept

    pub slot_next : (m : MethodDefRow) (b : RowAt) → i < n → method_row_at recs at ≡ Some m → is_virtual m ≡ true → is_new_slot m ≡ false → inherited recs at m ≡ Some b
        → slot_within recs (n - (i + 1)) b ≡ slot_within recs n start
    slot_next m b h e v s o = sym (above (n - (i + 1)) at m b e v s o) ∙ opened h

    module _ (count : n ≡ suc (type_count recs)) where
      pub slot_missing : i < n → method_row_at recs at ≡ None → None ≡ slot_of recs start
      slot_missing h e = sym (missing (n - (i + 1)) at e) ∙ opened h ∙ whole n start count

      pub slot_other : (m : MethodDefRow) → i < n → method_row_at recs at ≡ Some m → is_virtual m ≡ false → None ≡ slot_of recs start
      slot_other m h e v = sym (other (n - (i + 1)) at m e v) ∙ opened h ∙ whole n start count

      pub slot_new : (m : MethodDefRow) → i < n → method_row_at recs at ≡ Some m → is_virtual m ≡ true → is_new_slot m ≡ true → Some at ≡ slot_of recs start
      slot_new m h e v s = sym (new (n - (i + 1)) at m e v s) ∙ opened h ∙ whole n start count

      pub slot_own : (m : MethodDefRow) → i < n → method_row_at recs at ≡ Some m → is_virtual m ≡ true → is_new_slot m ≡ false → inherited recs at m ≡ None → Some at ≡ slot_of recs start
      slot_own m h e v s o = sym (own (n - (i + 1)) at m e v s o) ∙ opened h ∙ whole n start count

      pub slot_none : n ≤ i → None ≡ slot_of recs start
      slot_none h = let z : 0 ≡ n - i = omega arith in sym (none at) ∙ ap (λ (k : ℕ). slot_within recs k at) z ∙ kept ∙ whole n start count

-- ---- the table

pub slots_more : (recs : List AsmRec) (a k row : ℕ) (slots made : List (Option RowAt)) (slot : Option RowAt) → slots ≡ slots_in recs a k → row ≡ k → slot ≡ slot_of recs (at_row a row)
    → made ≡ slots ++ slot ∷ [] → made ≡ slots_in recs a (k + 1)
slots_more recs a k row slots made slot e r s m =
    let n : 0 + k ≡ k = omega arith in
    let last : slot ≡ slot_of recs (at_row a k) = s ∙ ap (λ (j : ℕ). slot_of recs (at_row a j)) r in
    m ∙ ap (λ (xs : List (Option RowAt)). xs ++ slot ∷ []) e ∙ ap (λ (x : Option RowAt). slots_in recs a k ++ x ∷ []) last
    ∙ sym (map-range_with_len_more (λ (j : ℕ). slot_of recs (at_row a j)) 0 k k n)

place : {A : Type 0} (xs : List A) (a k : ℕ) → slice_get (range_with_len a (length xs)) k ≡ option_map (λ (x : A). a + k) (slice_get xs k)
place [] a k = refl
place (x ∷ xs) a zero = rw add-zero refl
place (x ∷ xs) a (suc k) = let e : a + suc k ≡ a + 1 + k = omega arith in rw e (place xs (a + 1) k)

rows_of : (all recs : List AsmRec) (a i : ℕ) → slice_get (slots_from all a recs) i ≡ option_map (λ (rec : AsmRec). slots_in all (a + i) (methods_in rec)) (slice_get recs i)
rows_of all [] a i = refl
rows_of all (rec ∷ recs) a zero = rw add-zero refl
rows_of all (rec ∷ recs) a (suc i) = let e : a + suc i ≡ a + 1 + i = omega arith in rw e (rows_of all recs (a + 1) i)

abbrev slot_in : Option (Option RowAt) → Option RowAt
slot_in o = option_and_then (λ (slot : Option RowAt). slot) o

not_there : (recs : List AsmRec) (at : RowAt) → method_row_at recs at ≡ None → None ≡ slot_of recs at
not_there recs at e = sym (missing recs (type_count recs) at e) ∙ whole recs (suc (type_count recs)) at refl

module _ (recs : List AsmRec) (at : RowAt) where
  in_row : (rec : AsmRec) → slice_get recs at.asm ≡ Some rec → (o : Option MethodDefRow) → slice_get rec.method_def at.row ≡ o
      → slot_in (option_map (λ (k : ℕ). slot_of recs (at_row at.asm k)) (option_map (λ (m : MethodDefRow). 0 + at.row) o)) ≡ slot_of recs at
  in_row rec r None e = not_there recs at (rw (r, e) refl)
  in_row rec r (Some m) e = let n : 0 + at.row ≡ at.row = omega arith in ap (λ (k : ℕ). slot_of recs (at_row at.asm k)) n

  in_rec : (o : Option AsmRec) → slice_get recs at.asm ≡ o
      → option_and_then (λ (slots : List (Option RowAt)). slot_in (slice_get slots at.row)) (option_map (λ (rec : AsmRec). slots_in recs (0 + at.asm) (methods_in rec)) o) ≡ slot_of recs at
  in_rec None e = not_there recs at (rw e refl)
  in_rec (Some rec) e =
      let n : 0 + at.asm ≡ at.asm = omega arith in
      rw n
      (ap slot_in (slice_get-map (λ (k : ℕ). slot_of recs (at_row at.asm k)) (range_with_len 0 (methods_in rec)) at.row
      ∙ ap (option_map (λ (k : ℕ). slot_of recs (at_row at.asm k))) (place rec.method_def 0 at.row))
      ∙ in_row rec e (slice_get rec.method_def at.row) refl)

pub are_slots : (recs : List AsmRec) (rows : List (List (Option RowAt))) → rows ≡ slots_from recs 0 recs → (at : RowAt) → slot_in_rows rows at ≡ slot_of recs at
are_slots recs rows e at =
    ap (λ (made : List (List (Option RowAt))). slot_in_rows made at) e
    ∙ ap (option_and_then (λ (slots : List (Option RowAt)). slot_in (slice_get slots at.row))) (rows_of recs recs 0 at.asm)
    ∙ in_rec recs at (slice_get recs at.asm) refl
