-- What the MethodImpl rows whose body has a number give is what all rows give.
use Rattle.std.proofs.Common.{◌≡◌, ◌≤◌, ℕ, zero, suc, ◌+◌, ◌-◌, ◌<◌, List, [], ◌∷◌, ◌++◌, length, Bool, true, false, Option, Some, None, nat_eq, nat_lt, refl, sym, ap, ◌∙◌, subst, arith, eq-eqb}
use Rattle.std.specs.Prelude.{slice_get, ◌==◌, ◌&&◌, if◌then◌else◌}
use Rattle.std.specs.List.{list_any, flat_map}
use Rattle.std.specs.Option.{option_map_or, option_and_then}
use Rattle.std.proofs.lemmas.Bool.{ltb-false}
use Rattle.il_base.specs.declared.world_model.expr.MethodUse.{MethodUse}
use Rattle.il_base.specs.declared.world_model.members.MethodImplRow.{MethodImplRow}
use Rattle.il_base.specs.declared.world_model.record.AsmRec.{AsmRec}
use Rattle.il_base.specs.world_model.Worlds.{rows_before}
use Rattle.rules.specs.declared.link_rules.row_at.RowAt.{RowAt}
use Rattle.rules.specs.link_rules.Types.{at_row}
use Rattle.rules.specs.link_rules.Members.{home_from, methods_in, generic_method}
use Rattle.rules.specs.link_rules.Cycles.{listed, same_row}
use Rattle.rules.specs.type_rules.Slots.{method_home}
use Rattle.rules.specs.type_rules.Dispatch.{good_use, method_id}
use Rattle.base_laws.proofs.lemmas.type_laws.Places.{rows_decide}
use Rattle.type_tables.specs.declared.groups.Groups.{Groups}
use Rattle.type_tables.specs.Groups.{rows_with, AreGroups}
use Rattle.type_tables.specs.Uses.{use_in}
use Rattle.type_tables.proofs.Grouped.{flat_grouped}
use Rattle.rules.specs.mark_rules.Facts.{Fact}
use Rattle.rules.specs.mark_rules.Calls.{has_body, declared_by, declared_in}
use Rattle.mark_items.specs.mark_calls.Declared.{body_facts}
use Rattle.mark_parts.specs.mark_tables.Impls.{number_of, body_numbers}

-- ---- the number of a row

module _ (count : AsmRec → ℕ) where
  -- a row's assembly is one of these, of which the first has the number a, and so many rows are before it
  record Numbered (a : ℕ) (recs : List AsmRec) (n : ℕ) (at : RowAt) : Type 0 where
    here : a ≤ at.asm
    number : rows_before count recs (at.asm - a) + at.row ≡ n

  none_before : (recs : List AsmRec) (k : ℕ) → k ≡ 0 → rows_before count recs k ≡ 0
  unfolding rows_before
  none_before recs k e = ap (rows_before count recs) e

  one_more : (rec : AsmRec) (recs : List AsmRec) (k j : ℕ) → k ≡ suc j → rows_before count (rec ∷ recs) k ≡ count rec + rows_before count recs j
  unfolding rows_before
  one_more rec recs k j e = ap (rows_before count (rec ∷ recs)) e

  by_test : (rec : AsmRec) (recs : List AsmRec) (a n : ℕ) (at : RowAt) (b : Bool) → nat_lt n (count rec) ≡ b
      → (home_from count (suc a) recs (n - count rec) ≡ Some at → Numbered (suc a) recs (n - count rec) at)
      → (if b then Some (at_row a n) else home_from count (suc a) recs (n - count rec)) ≡ Some at → Numbered a (rec ∷ recs) n at
  by_test rec recs a n at true t more h =
      let asm : a ≡ at.asm = cc in
      let row : n ≡ at.row = cc in
      let none = none_before (rec ∷ recs) (at.asm - a) (omega (arith, asm)) in
      record { here = omega (arith, asm); number = omega (arith, none, row) }
  by_test rec recs a n at false t more h =
      let ge : count rec ≤ n = ltb-false n (count rec) t in
      let is = more h in
      let next = one_more rec recs (at.asm - a) (at.asm - suc a) (omega (arith, is.here)) in
      record { here = omega (arith, is.here); number = omega (arith, ge, next, is.number) }

  numbered : (recs : List AsmRec) (a n : ℕ) (at : RowAt) → home_from count a recs n ≡ Some at → Numbered a recs n at
  unfolding home_from
  numbered [] a n at e = absurd (cc)
  numbered (rec ∷ recs) a n at e = by_test rec recs a n at (nat_lt n (count rec)) refl (numbered recs (suc a) (n - count rec) at) e

has_number : (recs : List AsmRec) (n : ℕ) (at : RowAt) → home_from methods_in 0 recs n ≡ Some at → rows_before methods_in recs at.asm + at.row ≡ n
has_number recs n at e =
    let none : at.asm - 0 ≡ at.asm = omega arith in
    subst (λ (m : ℕ). rows_before methods_in recs m + at.row ≡ n) none (numbered methods_in recs 0 n at e).number

-- ---- a body with another number is another method

module _ (recs : List AsmRec) (at : RowAt) where
  other_row : (n : ℕ) → (n == (method_id recs at).0) ≡ false → (x : RowAt) → home_from methods_in 0 recs n ≡ Some x → (b : Bool) → same_row at x ≡ b → b ≡ false
  other_row n other x home true same =
      let e : at ≡ x = (rows_decide at x).0 same in
      let is : (method_id recs at).0 ≡ n = subst (λ (y : RowAt). rows_before methods_in recs y.asm + y.row ≡ n) (sym e) (has_number recs n x home) in
      let met : (n == (method_id recs at).0) ≡ true = eq-eqb n (method_id recs at).0 (sym is) in
      absurd (cc)
  other_row n other x home false same = refl

  by_home : (n : ℕ) → (n == (method_id recs at).0) ≡ false → (home : Option RowAt) → home_from methods_in 0 recs n ≡ home → list_any (same_row at) (listed home) ≡ false
  by_home n other None e = refl
  by_home n other (Some x) e = rw (other_row n other x e (same_row at x) refl) refl

  not_body : (u : MethodUse) → (u.method.0 == (method_id recs at).0) ≡ false → has_body recs at u ≡ false
  not_body u other = by_home u.method.0 other (method_home recs u.method) refl

  module _ (a : ℕ) (rec : AsmRec) where
    by_use : (facts : MethodUse → List Fact) (u : Option MethodUse) (b : Bool) → (number_of u == (method_id recs at).0) ≡ b
        → flat_map (λ body. if has_body recs at body then facts body else []) (listed u) ≡ (if b then flat_map (λ body. if has_body recs at body then facts body else []) (listed u) else [])
    by_use facts u true e = refl
    by_use facts None false e = refl
    by_use facts (Some u) false e = rw (not_body u e) refl

    -- the rows of the group
    pub declared_grouped : slice_get recs a ≡ Some rec → (groups : Groups) → AreGroups (body_numbers recs a rec) groups → (id : ℕ) → id ≡ (method_id recs at).0 → (ks : List ℕ) → ks ≡ rows_with groups id
        → flat_map (λ k. option_map_or (declared_by recs at a rec) (slice_get rec.method_impl k) []) ks ≡ declared_in recs at a rec
    declared_grouped here groups are id number ks e =
        ap (flat_map (λ k. option_map_or (declared_by recs at a rec) (slice_get rec.method_impl k) [])) (e ∙ ap (rows_with groups) number)
        ∙ flat_grouped (λ (r : MethodImplRow). number_of (use_in recs a r.body)) (method_id recs at).0 rec.method_impl groups are (declared_by recs at a rec) (declared_by recs at a rec)
        (λ r. let used : use_in recs a r.body ≡ good_use (generic_method recs a rec r.body) = ap (option_and_then (λ (x : AsmRec). good_use (generic_method recs a x r.body))) here in
        by_use (body_facts recs a rec r) (good_use (generic_method recs a rec r.body)) (number_of (use_in recs a r.body) == (method_id recs at).0)
        (ap (λ (u : Option MethodUse). number_of u == (method_id recs at).0) (sym used)))
