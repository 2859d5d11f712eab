-- A flag by its number, and which numbers of a kind have a row.
use Rattle.std.proofs.Common.{◌≡◌, ◌<◌, ◌≤◌, ℕ, zero, suc, ◌+◌, ◌-◌, List, [], ◌∷◌, ◌++◌, length, map, Bool, true, false, nat_lt, Option, Some, None, refl, sym, ap, ◌∙◌, arith, append_assoc}
use Rattle.std.specs.Prelude.{slice_get, unwrap_or, if◌then◌else◌}
use Rattle.std.specs.List.{range_with_len, list_any}
use Rattle.std.specs.Option.{is_some}
use Rattle.std.proofs.lemmas.Bool.{lt-ltb, le-ltb, ltb-true, ltb-false}
use Rattle.std.proofs.lemmas.List.{append-nil}
use Rattle.il_base.specs.declared.world_model.record.AsmRec.{AsmRec}
use Rattle.il_base.specs.world_model.Worlds.{rows_before}
use Rattle.rules.specs.link_rules.Types.{at_row}
use Rattle.rules.specs.link_rules.Members.{home_from}
use Rattle.rules.specs.link_rules.Cycles.{listed}
use Rattle.rules.specs.mark_rules.Places.{asm_row}
use Rattle.base_laws.specs.world_laws.Homes.{rows_of}

-- ---- flags

pub flag_below : (test : ℕ → Bool) (count a n j : ℕ) → a + n ≡ j → n < count → unwrap_or (slice_get (map test (range_with_len a count)) n) false ≡ test j
flag_below test zero a n j at lt = absurd (omega arith)
flag_below test (suc count) a zero j at lt = ap test (omega arith)
flag_below test (suc count) a (suc n) j at lt = flag_below test count (a + 1) n j (omega arith) (omega arith)

pub flag_past : (test : ℕ → Bool) (count a n : ℕ) → count ≤ n → unwrap_or (slice_get (map test (range_with_len a count)) n) false ≡ false
flag_past test zero a n le = refl
flag_past test (suc count) a zero le = absurd (omega arith)
flag_past test (suc count) a (suc n) le = flag_past test count (a + 1) n (omega arith)

-- ---- rows of a kind

module _ (count : AsmRec → ℕ) where
  there_by : (rec : AsmRec) (recs : List AsmRec) (a n : ℕ) (b : Bool) → nat_lt n (count rec) ≡ b
      → is_some (home_from count (suc a) recs (n - count rec)) ≡ nat_lt (n - count rec) (rows_of count recs)
      → is_some (if b then Some (at_row a n) else home_from count (suc a) recs (n - count rec)) ≡ nat_lt n (count rec + rows_of count recs)
  there_by rec recs a n true is more =
      let lt : n < count rec = ltb-true n (count rec) is in
      sym (lt-ltb n (count rec + rows_of count recs) (omega (arith, lt)))
  there_by rec recs a n false is more =
      let ge : count rec ≤ n = ltb-false n (count rec) is in
      more ∙ same (nat_lt (n - count rec) (rows_of count recs)) refl ge
    where
      same : (c : Bool) → nat_lt (n - count rec) (rows_of count recs) ≡ c → count rec ≤ n → c ≡ nat_lt n (count rec + rows_of count recs)
      same true e ge =
          let lt : n - count rec < rows_of count recs = ltb-true (n - count rec) (rows_of count recs) e in
          sym (lt-ltb n (count rec + rows_of count recs) (omega (arith, lt, ge)))
      same false e ge =
          let le : rows_of count recs ≤ n - count rec = ltb-false (n - count rec) (rows_of count recs) e in
          sym (le-ltb n (count rec + rows_of count recs) (omega (arith, le, ge)))

  pub there_from : (recs : List AsmRec) (a n : ℕ) → is_some (home_from count a recs n) ≡ nat_lt n (rows_of count recs)
  unfolding home_from rows_before
  there_from [] a n = sym (le-ltb n 0 (omega arith))
  there_from (rec ∷ recs) a n = there_by rec recs a n (nat_lt n (count rec)) refl (there_from recs (suc a) (n - count rec))

-- ---- assemblies

asm_by : (recs : List AsmRec) (a : ℕ) (o : Option AsmRec) → slice_get recs a ≡ o → is_some (if list_any (λ (rec : AsmRec). true) (listed o) then Some (at_row a 0) else None) ≡ is_some o
asm_by recs a None e = refl
asm_by recs a (Some rec) e = refl

get_below : (recs : List AsmRec) (a : ℕ) → is_some (slice_get recs a) ≡ nat_lt a (length recs)
get_below [] a = sym (le-ltb a 0 (omega arith))
get_below (rec ∷ recs) zero = sym (lt-ltb 0 (suc (length recs)) (omega arith))
get_below (rec ∷ recs) (suc a) = get_below recs a ∙ next (nat_lt a (length recs)) refl
  where
    next : (c : Bool) → nat_lt a (length recs) ≡ c → c ≡ nat_lt (suc a) (suc (length recs))
    next true e = let lt : a < length recs = ltb-true a (length recs) e in sym (lt-ltb (suc a) (suc (length recs)) (omega (arith, lt)))
    next false e = let le : length recs ≤ a = ltb-false a (length recs) e in sym (le-ltb (suc a) (suc (length recs)) (omega (arith, le)))

pub there_asm : (recs : List AsmRec) (a : ℕ) → is_some (asm_row recs a) ≡ nat_lt a (length recs)
there_asm recs a = asm_by recs a (slice_get recs a) refl ∙ get_below recs a

-- ---- a loop that makes a flag for each number

pub range_next : (test : ℕ → Bool) (made : List Bool) (k end : ℕ) → k < end
    → (made ++ test k ∷ []) ++ map test (range_with_len (k + 1) (end - (k + 1))) ≡ made ++ map test (range_with_len k (end - k))
range_next test made k end below =
    let n : end - k ≡ suc (end - (k + 1)) = omega arith in
    append_assoc made (test k ∷ []) (map test (range_with_len (k + 1) (end - (k + 1)))) ∙ ap (λ (m : ℕ). made ++ map test (range_with_len k m)) (sym n)

pub range_end : (test : ℕ → Bool) (made : List Bool) (k end : ℕ) → end ≤ k → made ++ map test (range_with_len k (end - k)) ≡ made
range_end test made k end done =
    let n : end - k ≡ 0 = omega arith in
    ap (λ (m : ℕ). made ++ map test (range_with_len k m)) n ∙ append-nil made
