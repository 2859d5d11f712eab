-- Types by their ids: where each stands.
use Rattle.std.proofs.Common.{◌≡◌, ℕ, zero, suc, ◌+◌, ◌-◌, ◌<◌, ◌≤◌, Bool, true, false, nat_lt, List, [], ◌∷◌, length, take, sum_by, Some, None, refl, sym, ap, subst, ◌∙◌, arith}
use Rattle.std.specs.Prelude.{if◌then◌else◌, slice_get}
use Rattle.std.proofs.lemmas.List.{take_all}
use Rattle.std.proofs.lemmas.Bool.{lt-ltb, le-ltb, ltb-true, ltb-false}
use Rattle.il_base.specs.declared.world_model.record.AsmRec.{AsmRec}
use Rattle.il_base.specs.world_model.Worlds.{rows_before, types_in}
use Rattle.il_base.proofs.lemmas.world_model.Counting.{before_is}
use Rattle.rules.specs.declared.link_rules.row_at.RowAt.{RowAt}
use Rattle.rules.specs.link_rules.Types.{at_row}
use Rattle.rules.specs.link_rules.Members.{home_from, type_count}

pub all_counted : (all : List AsmRec) (n : ℕ) → length all ≤ n → sum_by types_in (take n all) ≡ type_count all
unfolding type_count
all_counted all n le =
    ap (sum_by types_in) (take_all n all le ∙ sym (take_all (length all) all (omega arith))) ∙ before_is types_in all (length all)

-- ---- from a row to its id and back

-- a type of these assemblies, of which the first has the number i
pub record Stands (recs : List AsmRec) (i n : ℕ) (at : RowAt) : Type 0 where
  pub asm : ℕ
  pub rec : AsmRec
  pub numbered : at.asm ≡ i + asm
  pub there : slice_get recs asm ≡ Some rec
  pub below : at.row < length rec.type_def
  pub id : n ≡ rows_before types_in recs asm + at.row

pub home_at : (recs : List AsmRec) (i a k : ℕ) (rec : AsmRec) → slice_get recs a ≡ Some rec → k < length rec.type_def
    → home_from types_in i recs (rows_before types_in recs a + k) ≡ Some (at_row (i + a) k)
unfolding home_from rows_before
home_at [] i a k rec e lt = cc
home_at (r ∷ recs) i zero k rec e lt =
    let same : r ≡ rec = cc in
    let n : 0 + k ≡ k = omega arith in
    let z : i + 0 ≡ i = omega arith in
    let t : nat_lt k (length r.type_def) ≡ true = lt-ltb k (length r.type_def) (rw same lt) in
    rw (n, t, z) refl
home_at (r ∷ recs) i (suc a) k rec e lt =
    let m = rows_before types_in recs a in
    let t : nat_lt (length r.type_def + m + k) (length r.type_def) ≡ false = le-ltb (length r.type_def + m + k) (length r.type_def) (omega arith) in
    let n : length r.type_def + m + k - length r.type_def ≡ m + k = omega arith in
    let z : i + suc a ≡ suc i + a = omega arith in
    rw (t, n, z) (home_at recs (suc i) a k rec e lt)

stands_by : (rec : AsmRec) (recs : List AsmRec) (i n : ℕ) (at : RowAt) (b : Bool) → nat_lt n (length rec.type_def) ≡ b
    → (home_from types_in (suc i) recs (n - length rec.type_def) ≡ Some at → Stands recs (suc i) (n - length rec.type_def) at)
    → (if b then Some (at_row i n) else home_from types_in (suc i) recs (n - length rec.type_def)) ≡ Some at → Stands (rec ∷ recs) i n at
unfolding rows_before
stands_by rec recs i n at true e h f =
    let same : at_row i n ≡ at = cc in
    let lt = ltb-true n (length rec.type_def) e in
    subst (λ (x : RowAt). Stands (rec ∷ recs) i n x) same (record { asm = 0; rec = rec; numbered = omega arith; there = refl; below = lt; id = omega arith })
stands_by rec recs i n at false e h f =
    let s = h f in
    let le = ltb-false n (length rec.type_def) e in
    record { asm = suc s.asm; rec = s.rec; numbered = omega (arith, s.numbered); there = s.there; below = s.below; id = omega (arith, s.id) }

pub home_is : (recs : List AsmRec) (i n : ℕ) (at : RowAt) → home_from types_in i recs n ≡ Some at → Stands recs i n at
unfolding home_from
home_is [] i n at e = cc
home_is (rec ∷ recs) i n at e = stands_by rec recs i n at (nat_lt n (length rec.type_def)) refl (home_is recs (suc i) (n - length rec.type_def) at) e

-- ---- how many there are

pub below_next : (recs : List AsmRec) (a b k : ℕ) (rec : AsmRec) → slice_get recs a ≡ Some rec → k < length rec.type_def → a < b → rows_before types_in recs a + k < rows_before types_in recs b
unfolding rows_before
below_next [] a b k rec e lt le = cc
below_next (r ∷ recs) a zero k rec e lt le = absurd (omega arith)
below_next (r ∷ recs) zero (suc b) k rec e lt le = let same : r ≡ rec = cc in let l : k < length r.type_def = rw same lt in omega arith
below_next (r ∷ recs) (suc a) (suc b) k rec e lt le = let l = below_next recs a b k rec e lt (omega arith) in omega arith

pub is_within : (recs : List AsmRec) (a : ℕ) (rec : AsmRec) → slice_get recs a ≡ Some rec → a < length recs
is_within [] a rec e = cc
is_within (r ∷ recs) zero rec e = omega arith
is_within (r ∷ recs) (suc a) rec e = let l = is_within recs a rec e in omega arith

pub below_count : (recs : List AsmRec) (a k : ℕ) (rec : AsmRec) → slice_get recs a ≡ Some rec → k < length rec.type_def → rows_before types_in recs a + k < rows_before types_in recs (length recs)
below_count recs a k rec e lt = below_next recs a (length recs) k rec e lt (is_within recs a rec e)

past_by : (rec : AsmRec) (recs : List AsmRec) (i n : ℕ) → length rec.type_def ≤ n → home_from types_in (suc i) recs (n - length rec.type_def) ≡ None
    → (if nat_lt n (length rec.type_def) then Some (at_row i n) else home_from types_in (suc i) recs (n - length rec.type_def)) ≡ None
past_by rec recs i n le e = rw (le-ltb n (length rec.type_def) le) e

pub past_count : (recs : List AsmRec) (i n : ℕ) → rows_before types_in recs (length recs) ≤ n → home_from types_in i recs n ≡ None
unfolding home_from rows_before
past_count [] i n le = refl
past_count (rec ∷ recs) i n le = past_by rec recs i n (omega arith) (past_count recs (suc i) (n - length rec.type_def) (omega arith))

none_by : (rec : AsmRec) (recs : List AsmRec) (i n : ℕ) (b : Bool) → nat_lt n (length rec.type_def) ≡ b
    → (home_from types_in (suc i) recs (n - length rec.type_def) ≡ None → rows_before types_in recs (length recs) ≤ n - length rec.type_def)
    → (if b then Some (at_row i n) else home_from types_in (suc i) recs (n - length rec.type_def)) ≡ None → length rec.type_def + rows_before types_in recs (length recs) ≤ n
none_by rec recs i n true e h f = cc
none_by rec recs i n false e h f = let l = h f in let m = ltb-false n (length rec.type_def) e in omega arith

pub none_past : (recs : List AsmRec) (i n : ℕ) → home_from types_in i recs n ≡ None → rows_before types_in recs (length recs) ≤ n
unfolding home_from rows_before
none_past [] i n e = omega arith
none_past (rec ∷ recs) i n e = none_by rec recs i n (nat_lt n (length rec.type_def)) refl (none_past recs (suc i) (n - length rec.type_def)) e
