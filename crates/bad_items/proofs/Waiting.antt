-- The first assembly that the search finds is the first with a marked method that names such a member.
use Rattle.std.proofs.Common.{◌≡◌, ℕ, zero, suc, ◌+◌, ◌-◌, ◌<◌, List, [], ◌∷◌, length, Bool, true, false, nat_lt, Option, Some, None, refl, ap, subst, arith}
use Rattle.std.specs.Prelude.{slice_get}
use Rattle.std.specs.List.{list_any, flat_map}
use Rattle.std.specs.Option.{is_some}
use Rattle.std.proofs.lemmas.Bool.{lt-ltb, le-ltb, and_parts, and_from}
use Rattle.std.proofs.lemmas.List.{append-nil}
use Rattle.std.proofs.lemmas.Option.{slice_get_within}
use Rattle.descriptor_file.specs.declared.root.Root.{Root}
use Rattle.il_base.specs.declared.world_model.record.AsmRec.{AsmRec}
use Rattle.il_base.specs.world_model.Worlds.{rows_before}
use Rattle.rules.specs.declared.link_rules.row_at.RowAt.{RowAt}
use Rattle.rules.specs.link_rules.Types.{at_row}
use Rattle.rules.specs.link_rules.Members.{home_from, methods_in}
use Rattle.rules.specs.link_rules.Cycles.{listed}
use Rattle.rules.specs.mark_rules.Facts.{Fact}
use Rattle.rules.specs.mark_rules.Places.{row_of, marks_method}
use Rattle.rules.specs.mark_rules.Naming.{Part}
use Rattle.rules.specs.mark_rules.Calls.{row_parts, parts_of_method}
use Rattle.rules.specs.mark_rules.Marking.{Marks}
use Rattle.rules.specs.mark_rules.NotYet.{is_operand, has_operand, IsNotYet, IsFirstNotYet}
use Rattle.mark_numbers.specs.Numbers.{is_there}
use Rattle.marking.specs.declared.marked.Marked.{Marked}
use Rattle.marking.specs.Holding.{holds, IsMarked}
use Rattle.bad_items.specs.Searches.{found_from, is_waiting, first_row, first_assembly}
use Rattle.bad_items.proofs.Searching.{first_is, none_is}

-- ---- a method with an operand is there

some_of : {A : Type 0} (test : Part → Bool) (f : A → List Part) (o : Option A) → list_any test (flat_map f (listed o)) ≡ true → (x : A) × (o ≡ Some x) × (list_any test (f x) ≡ true)
some_of test f None e = absurd (cc)
some_of test f (Some x) e = (x, refl, subst (λ (ps : List Part). list_any test ps ≡ true) (append-nil (f x)) e)

record IsIn (recs : List AsmRec) (at : RowAt) : Type 0 where
  rec : AsmRec
  there : slice_get recs at.asm ≡ Some rec
  within : at.row < length rec.method_def

is_in : (recs : List AsmRec) (at : RowAt) → has_operand recs at ≡ true → IsIn recs at
unfolding has_operand parts_of_method
is_in recs at e =
    let r = some_of (is_operand recs) (λ (rec : AsmRec). flat_map (row_parts recs at rec) (listed (slice_get rec.method_def at.row))) (slice_get recs at.asm) e in
    let m = some_of (is_operand recs) (row_parts recs at r.0) (slice_get r.0.method_def at.row) r.2 in
    record { rec = r.0; there = r.1; within = slice_get_within r.0.method_def at.row m.0 m.1 }

home_at : (recs : List AsmRec) (i a k : ℕ) (rec : AsmRec) → slice_get recs a ≡ Some rec → k < length rec.method_def → home_from methods_in i recs (rows_before methods_in recs a + k) ≡ Some (at_row (i + a) k)
unfolding home_from rows_before
home_at [] i a k rec e lt = absurd (cc)
home_at (r ∷ recs) i zero k rec e lt =
    let same : r ≡ rec = cc in
    let n : 0 + k ≡ k = omega arith in
    let z : i + 0 ≡ i = omega arith in
    let t : nat_lt k (length r.method_def) ≡ true = lt-ltb k (length r.method_def) (rw same lt) in
    rw (n, t, z) refl
home_at (r ∷ recs) i (suc a) k rec e lt =
    let c = length r.method_def in
    let m = rows_before methods_in recs a in
    let t : nat_lt (c + m + k) c ≡ false = le-ltb (c + m + k) c (omega arith) in
    let n : c + m + k - c ≡ m + k = omega arith in
    let z : i + suc a ≡ suc i + a = omega arith in
    rw (t, n, z) (home_at recs (suc i) a k rec e lt)

has_fact : (recs : List AsmRec) (at : RowAt) → IsIn recs at → is_there recs (marks_method recs at) ≡ true
unfolding is_there row_of
has_fact recs at h = ap is_some (home_at recs 0 at.asm at.row h.rec h.there h.within)

-- ---- the test

module _ (recs : List AsmRec) (entry : Option RowAt) (roots : List Root) (m : Marked) (marks : IsMarked recs entry roots m) where
  abbrev Needs : Fact → Type 0
  Needs = Marks recs entry roots

  is_not_yet : (asm row : ℕ) → is_waiting recs m (at_row asm row) ≡ true → IsNotYet recs Needs asm
  is_not_yet asm row e =
      let p = and_parts (holds m (marks_method recs (at_row asm row))) (has_operand recs (at_row asm row)) e in
      record { row = row; is_marked = (marks (marks_method recs (at_row asm row)) (has_fact recs (at_row asm row) (is_in recs (at_row asm row) p.1))).0 p.0; has = p.1 }

  waits : (asm : ℕ) (h : IsNotYet recs Needs asm) → is_waiting recs m (at_row asm h.row) ≡ true
  waits asm h =
      let there = has_fact recs (at_row asm h.row) (is_in recs (at_row asm h.row) h.has) in
      and_from (holds m (marks_method recs (at_row asm h.row))) (has_operand recs (at_row asm h.row)) ((marks (marks_method recs (at_row asm h.row)) there).1 h.is_marked) h.has

  -- ---- the rows of an assembly

  abbrev tests : ℕ → ℕ → Bool
  tests asm k = is_waiting recs m (at_row asm k)

  abbrev in_asm : ℕ → Bool
  in_asm asm = is_some (first_row recs m asm)

  -- of a record
  abbrev row_of_rec : ℕ → Option AsmRec → Option ℕ
  row_of_rec asm None = None
  row_of_rec asm (Some rec) = found_from (tests asm) (length rec.method_def) 0

  from_found : (asm : ℕ) (rec : AsmRec) (o : Option ℕ) → found_from (tests asm) (length rec.method_def) 0 ≡ o → is_some o ≡ true → IsNotYet recs Needs asm
  from_found asm rec None is t = absurd (cc)
  from_found asm rec (Some row) is t = is_not_yet asm row (first_is (tests asm) (length rec.method_def) 0 row is).holds

  from_rec : (asm : ℕ) (o : Option AsmRec) → is_some (row_of_rec asm o) ≡ true → IsNotYet recs Needs asm
  from_rec asm None t = absurd (cc)
  from_rec asm (Some rec) t = from_found asm rec (found_from (tests asm) (length rec.method_def) 0) refl t

  to_found : (asm : ℕ) (h : IsNotYet recs Needs asm) (rec : AsmRec) → h.row < length rec.method_def → (o : Option ℕ) → found_from (tests asm) (length rec.method_def) 0 ≡ o → is_some o ≡ true
  to_found asm h rec within None none = absurd (none_is (tests asm) (length rec.method_def) 0 none h.row (omega arith) (omega (arith, within)) (waits asm h))
  to_found asm h rec within (Some row) is = refl

  to_rec : (asm : ℕ) (h : IsNotYet recs Needs asm) (rec : AsmRec) → h.row < length rec.method_def → (o : Option AsmRec) → o ≡ Some rec → is_some (row_of_rec asm o) ≡ true
  to_rec asm h rec within None e = absurd (cc)
  to_rec asm h rec within (Some other) e =
      let same : rec ≡ other = cc in
      to_found asm h other (subst (λ (r : AsmRec). h.row < length r.method_def) same within) (found_from (tests asm) (length other.method_def) 0) refl

  from_asm : (asm : ℕ) → in_asm asm ≡ true → IsNotYet recs Needs asm
  from_asm asm e = from_rec asm (slice_get recs asm) e

  to_asm : (asm : ℕ) → IsNotYet recs Needs asm → in_asm asm ≡ true
  to_asm asm h = let i = is_in recs (at_row asm h.row) h.has in to_rec asm h i.rec i.within (slice_get recs asm) i.there

  -- ---- the first assembly

  below : (asm : ℕ) → IsNotYet recs Needs asm → asm < length recs
  below asm h = let i = is_in recs (at_row asm h.row) h.has in slice_get_within recs asm i.rec i.there

  first_by : (o : Option ℕ) → first_assembly recs m ≡ o → IsFirstNotYet recs Needs o
  first_by None none = λ asm h. none_is in_asm (length recs) 0 none asm (omega arith) (let lt = below asm h in omega (arith, lt)) (to_asm asm h)
  first_by (Some asm) is =
      let f = first_is in_asm (length recs) 0 asm is in
      (from_asm asm f.holds, λ other h. f.least other (omega arith) (to_asm other h))

  pub first : IsFirstNotYet recs Needs (first_assembly recs m)
  first = first_by (first_assembly recs m) refl
