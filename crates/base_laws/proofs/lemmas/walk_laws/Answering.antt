-- What a class slot is answered by.
use Rattle.std.proofs.Common.{◌≡◌, ℕ, zero, suc, ◌+◌, ◌-◌, ◌<◌, ◌≤◌, Bool, true, false, nat_le, nat_lt, List, [], ◌∷◌, length, take, drop, Option, Some, None, inl, inr, refl, sym, ap, ◌∙◌, arith}
use Rattle.std.specs.Prelude.{slice_get, if◌then◌else◌}
use Rattle.std.specs.List.{range_with_len}
use Rattle.std.specs.Option.{option_map}
use Rattle.std.proofs.lemmas.Bool.{and_from, lt-ltb, le-leb}
use Rattle.il_base.specs.declared.world_model.expr.TypeExpr.{TypeExpr}
use Rattle.il_base.specs.declared.world_model.types.TypeDefRow.{TypeDefRow}
use Rattle.il_base.specs.declared.world_model.record.AsmRec.{AsmRec}
use Rattle.rules.specs.declared.link_rules.row_at.RowAt.{RowAt}
use Rattle.rules.specs.link_rules.Types.{at_row, or_else}
use Rattle.rules.specs.link_rules.Members.{run_of, with_bases, owns_method}
use Rattle.rules.specs.link_rules.Cycles.{home_of}
use Rattle.rules.specs.link_rules.Linked.{assemblies}
use Rattle.rules.specs.type_rules.Slots.{type_of_method, slot_of, is_slot, has_slot}
use Rattle.rules.specs.type_rules.Dispatch.{declares_slot, impl_in, place_that, find_row_in_run, slot_in_run, slot_in, class_method_in, class_dispatch}
use Rattle.base_laws.specs.walk_laws.Walks.{InRuns, Answers, DispatchAnswers, OwnsAnswers}
use Rattle.base_laws.proofs.lemmas.type_laws.Within.{In}
use Rattle.base_laws.proofs.lemmas.type_laws.Places.{rows_decide}
use Rattle.base_laws.proofs.lemmas.walk_laws.Finds.{contains, nearest_is, defined}
use Rattle.base_laws.proofs.lemmas.walk_laws.MethodRuns.{AreApart, all_apart}
use Rattle.base_laws.proofs.lemmas.walk_laws.Overrides.{owner_by}

place_by : (test : ℕ → Bool) (j k : ℕ) (ks : List ℕ) (b : Bool) → test j ≡ b → (place_that test ks ≡ Some k → test k ≡ true) → (if b then Some j else place_that test ks) ≡ Some k → test k ≡ true
place_by test j k ks true p more e = let f : j ≡ k = cc in ap test (sym f) ∙ p
place_by test j k ks false p more e = more e

place_passes : (test : ℕ → Bool) (ks : List ℕ) (k : ℕ) → place_that test ks ≡ Some k → test k ≡ true
place_passes test [] k e = cc
place_passes test (j ∷ ks) k e = place_by test j k ks (test j) refl (place_passes test ks k) e

module _ (recs : List AsmRec) (slot : RowAt) where
  its_slot : (o : Option RowAt) → is_slot o slot ≡ true → o ≡ Some slot
  its_slot None e = cc
  its_slot (Some s) e = ap (λ (x : RowAt). Some x) ((rows_decide s slot).0 e)

  in_the_run : (a : ℕ) (m : RowAt) (ks : List ℕ) (o : Option ℕ) → place_that (λ k. has_slot recs slot (at_row a k)) ks ≡ o → option_map (at_row a) o ≡ Some m → slot_of recs m ≡ Some slot
  in_the_run a m ks None e f = cc
  in_the_run a m ks (Some k) e f =
      let same : at_row a k ≡ m = cc in
      ap (slot_of recs) (sym same) ∙ its_slot (slot_of recs (at_row a k)) (place_passes (λ j. has_slot recs slot (at_row a j)) ks k e)

  with_slot : (e : TypeExpr) (m : RowAt) → slot_in recs slot e ≡ Some m → slot_of recs m ≡ Some slot
  unfolding slot_in
  with_slot e m h =
      let d = defined recs (slot_in_run recs slot) e m h in
      in_the_run d.home.asm m (range_with_len (d.row.method_list_first - 1) (length (run_of d.row.method_list_first d.row.method_list_end d.rec.method_def))) _ refl d.found

  either : (t e : TypeExpr) (m : RowAt) (o : Option RowAt) → In e (with_bases recs t) → impl_in recs (declares_slot recs slot) e ≡ o → or_else o (slot_in recs slot e) ≡ Some m → Answers recs t slot m
  either t e m None i f h = record { of = e; is_base = contains (with_bases recs t) e i; answers = inl (h, with_slot e m h) }
  either t e m (Some x) i f h = record { of = e; is_base = contains (with_bases recs t) e i; answers = inr (f ∙ h) }

  pub answered : (t : TypeExpr) (m : RowAt) → class_dispatch recs t slot ≡ Some m → Answers recs t slot m
  unfolding class_dispatch
  answered t m h =
      let n = nearest_is (class_method_in recs slot) (with_bases recs t) m h in
      either t n.0 m (impl_in recs (declares_slot recs slot) n.0) n.1 refl n.2

pub all_answered : DispatchAnswers
all_answered recs t slot m h = answered recs slot t m h

-- ---- the type that has the method

range_by : (test : ℕ → Bool) (start n k : ℕ) (b : Bool) → (if b then Some start else place_that test (range_with_len (start + 1) n)) ≡ Some k
    → (place_that test (range_with_len (start + 1) n) ≡ Some k → (start + 1 ≤ k) × (k < start + 1 + n)) → (start ≤ k) × (k < start + suc n)
range_by test start n k true e more = let f : start ≡ k = cc in (omega arith, omega arith)
range_by test start n k false e more = let m = more e in let low = m.0 in let high = m.1 in (omega arith, omega arith)

range_place : (test : ℕ → Bool) (start n k : ℕ) → place_that test (range_with_len start n) ≡ Some k → (start ≤ k) × (k < start + n)
range_place test start zero k e = cc
range_place test start (suc n) k e = range_by test start n k (test start) e (range_place test (start + 1) n k)

take_short : {A : Type 0} (n : ℕ) (xs : List A) → length (take n xs) ≤ n
take_short zero xs = omega arith
take_short (suc n) [] = omega arith
take_short (suc n) (x ∷ xs) = let le = take_short n xs in omega arith

module _ (recs : List AsmRec) (right : AreApart recs) where
  owned_by : (home : RowAt) (rec : AsmRec) (t : TypeDefRow) (slot m : RowAt) (o : Option ℕ) → slice_get recs home.asm ≡ Some rec → slice_get rec.type_def home.row ≡ Some t
      → find_row_in_run (λ k. has_slot recs slot (at_row home.asm k)) t.method_list_first t.method_list_end rec.method_def ≡ o → option_map (at_row home.asm) o ≡ Some m
      → type_of_method recs m ≡ Some home
  owned_by home rec t slot m None there at e f = cc
  owned_by home rec t slot m (Some k) there at e f =
      let same : at_row home.asm k ≡ m = cc in
      let p = range_place (λ j. has_slot recs slot (at_row home.asm j)) (t.method_list_first - 1) (length (run_of t.method_list_first t.method_list_end rec.method_def)) k e in
      let from = right.begin home.asm home.row rec t there at in
      let short = take_short (t.method_list_end - t.method_list_first) (drop (t.method_list_first - 1) rec.method_def) in
      let low = p.0 in
      let high = p.1 in
      let owns : owns_method (suc k) t ≡ true =
      and_from (nat_le t.method_list_first (suc k)) (nat_lt (suc k) t.method_list_end) (le-leb t.method_list_first (suc k) (omega arith)) (lt-ltb (suc k) t.method_list_end (omega arith)) in
      ap (type_of_method recs) (sym same) ∙ owner_by recs right home k rec t there at owns

  owned : (e : TypeExpr) (slot m : RowAt) → slot_in recs slot e ≡ Some m → type_of_method recs m ≡ home_of recs e
  unfolding slot_in
  owned e slot m h =
      let d = defined recs (slot_in_run recs slot) e m h in
      owned_by d.home d.rec d.row slot m _ d.there d.at refl d.found ∙ sym d.is

pub all_owned : InRuns OwnsAnswers
all_owned inputs sound runs = owned (assemblies inputs) (all_apart inputs runs)
