-- Definitions of types by their ids: where each stands.
use Rattle.std.proofs.Common.{◌≡◌, ℕ, zero, suc, ◌+◌, ◌-◌, ◌<◌, Bool, true, false, nat_eq, nat_lt, List, [], ◌∷◌, length, Some, refl, sym, ap, subst, ◌∙◌, arith}
use Rattle.std.specs.Prelude.{if◌then◌else◌, slice_get}
use Rattle.std.specs.Bool.{Decides}
use Rattle.std.proofs.lemmas.Bool.{lt-ltb, le-ltb, ltb-true, ltb-false, and_parts, and_from, eqb-true, eq-eqb}
use Rattle.il_base.specs.declared.ids.TypeId.{TypeId}
use Rattle.il_base.specs.declared.world_model.record.AsmRec.{AsmRec}
use Rattle.il_base.specs.world_model.Worlds.{rows_before, types_in}
use Rattle.rules.specs.declared.link_rules.row_at.RowAt.{RowAt}
use Rattle.rules.specs.link_rules.Types.{at_row}
use Rattle.rules.specs.link_rules.Cycles.{same_row}
use Rattle.rules.specs.link_rules.Members.{home_from, type_home, type_count}

pub rows_decide : (x y : RowAt) → Decides (same_row x y) (x ≡ y)
rows_decide x y = (
  λ h.
      let p = and_parts (nat_eq x.asm y.asm) (nat_eq x.row y.row) h in
      λ i. at_row (eqb-true x.asm y.asm p.0 i) (eqb-true x.row y.row p.1 i),
  λ h. and_from (nat_eq x.asm y.asm) (nat_eq x.row y.row) (eq-eqb x.asm y.asm (ap (λ (r : RowAt). r.asm) h)) (eq-eqb x.row y.row (ap (λ (r : RowAt). r.row) h)),
)

pub home_at : (recs : List AsmRec) (i a k : ℕ) (rec : AsmRec) → slice_get recs a ≡ Some rec → k < length rec.type_def
    → home_from types_in i recs (rows_before types_in recs a + k) ≡ Some (at_row (i + a) k)
unfolding home_from rows_before
home_at [] i a k rec e lt = cc
home_at (r ∷ recs) i zero k rec e lt =
    let same : r ≡ rec = cc in
    let n : 0 + k ≡ k = omega arith in
    let z : i + 0 ≡ i = omega arith in
    let t : nat_lt k (length r.type_def) ≡ true = lt-ltb k (length r.type_def) (rw same lt) in
    rw (n, t, z) refl
home_at (r ∷ recs) i (suc a) k rec e lt =
    let m = rows_before types_in recs a in
    let t : nat_lt (length r.type_def + m + k) (length r.type_def) ≡ false = le-ltb (length r.type_def + m + k) (length r.type_def) (omega arith) in
    let n : length r.type_def + m + k - length r.type_def ≡ m + k = omega arith in
    let z : i + suc a ≡ suc i + a = omega arith in
    rw (t, n, z) (home_at recs (suc i) a k rec e lt)

-- a type of these assemblies, of which the first has the number i
pub record Stands (recs : List AsmRec) (i n : ℕ) (at : RowAt) : Type 0 where
  pub asm : ℕ
  pub rec : AsmRec
  pub numbered : at.asm ≡ i + asm
  pub there : slice_get recs asm ≡ Some rec
  pub below : at.row < length rec.type_def
  pub id : n ≡ rows_before types_in recs asm + at.row

stands_by : (rec : AsmRec) (recs : List AsmRec) (i n : ℕ) (at : RowAt) (b : Bool) → nat_lt n (length rec.type_def) ≡ b
    → (home_from types_in (suc i) recs (n - length rec.type_def) ≡ Some at → Stands recs (suc i) (n - length rec.type_def) at)
    → (if b then Some (at_row i n) else home_from types_in (suc i) recs (n - length rec.type_def)) ≡ Some at → Stands (rec ∷ recs) i n at
unfolding rows_before
stands_by rec recs i n at true e h f =
    let same : at_row i n ≡ at = cc in
    let lt = ltb-true n (length rec.type_def) e in
    subst (λ (x : RowAt). Stands (rec ∷ recs) i n x) same (record { asm = 0; rec = rec; numbered = omega arith; there = refl; below = lt; id = omega arith })
stands_by rec recs i n at false e h f =
    let s = h f in
    let le = ltb-false n (length rec.type_def) e in
    record { asm = suc s.asm; rec = s.rec; numbered = omega (arith, s.numbered); there = s.there; below = s.below; id = omega (arith, s.id) }

pub home_is : (recs : List AsmRec) (i n : ℕ) (at : RowAt) → home_from types_in i recs n ≡ Some at → Stands recs i n at
unfolding home_from
home_is [] i n at e = cc
home_is (rec ∷ recs) i n at e = stands_by rec recs i n at (nat_lt n (length rec.type_def)) refl (home_is recs (suc i) (n - length rec.type_def) at) e

below_next : (recs : List AsmRec) (a b k : ℕ) (rec : AsmRec) → slice_get recs a ≡ Some rec → k < length rec.type_def → a < b → rows_before types_in recs a + k < rows_before types_in recs b
unfolding rows_before
below_next [] a b k rec e lt le = cc
below_next (r ∷ recs) a zero k rec e lt le = absurd (omega arith)
below_next (r ∷ recs) zero (suc b) k rec e lt le = let same : r ≡ rec = cc in let l : k < length r.type_def = rw same lt in omega arith
below_next (r ∷ recs) (suc a) (suc b) k rec e lt le = let l = below_next recs a b k rec e lt (omega arith) in omega arith

pub place_within : {A : Type 0} (xs : List A) (k : ℕ) (x : A) → slice_get xs k ≡ Some x → k < length xs
place_within [] k x e = cc
place_within (y ∷ xs) zero x e = omega arith
place_within (y ∷ xs) (suc k) x e = let lt = place_within xs k x e in omega arith

pub place_has : {A : Type 0} (xs : List A) (k : ℕ) → k < length xs → (x : A) × (slice_get xs k ≡ Some x)
place_has [] k lt = absurd (omega arith)
place_has (x ∷ xs) zero lt = (x, refl)
place_has (x ∷ xs) (suc k) lt = place_has xs k (omega arith)

module _ (all : List AsmRec) where
  pub id_of : RowAt → ℕ
  id_of at = rows_before types_in all at.asm + at.row

  -- a row that stands for a type
  abbrev pub IsType : RowAt → Type 0
  IsType at = home_from types_in 0 all (rows_before types_in all at.asm + at.row) ≡ Some at

  stands_is : (n : ℕ) (at : RowAt) → Stands all 0 n at → rows_before types_in all at.asm + at.row ≡ n
  stands_is n at s =
      let e : at.asm ≡ s.asm = omega (arith, s.numbered) in
      ap (λ (a : ℕ). rows_before types_in all a + at.row) e ∙ sym s.id

  pub home_is_type : (t : TypeId) (at : RowAt) → type_home all t ≡ Some at → IsType at
  home_is_type t at e = ap (home_from types_in 0 all) (stands_is t.0 at (home_is all 0 t.0 at e)) ∙ e

  -- a type with its assembly
  pub record TypeAt (at : RowAt) : Type 0 where
    pub rec : AsmRec
    pub there : slice_get all at.asm ≡ Some rec
    pub below : at.row < length rec.type_def

  pub type_at : (at : RowAt) → IsType at → TypeAt at
  type_at at t =
      let s = home_is all 0 (rows_before types_in all at.asm + at.row) at t in
      let e : s.asm ≡ at.asm = omega (arith, s.numbered) in
      record { rec = s.rec; there = subst (λ (a : ℕ). slice_get all a ≡ Some s.rec) e s.there; below = s.below }

  pub id_below : (at : RowAt) → IsType at → id_of at < type_count all
  unfolding type_count id_of
  id_below at t =
      let s = type_at at t in
      below_next all at.asm (length all) at.row s.rec s.there s.below (place_within all at.asm s.rec s.there)

  pub one_by_id : (x y : RowAt) → IsType x → IsType y → id_of x ≡ id_of y → x ≡ y
  unfolding id_of
  one_by_id x y p q e = let f : Some x ≡ Some y = sym p ∙ ap (home_from types_in 0 all) e ∙ q in cc
