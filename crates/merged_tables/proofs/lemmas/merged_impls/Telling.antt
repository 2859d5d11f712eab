-- MethodImpl rows with the output's tokens are those of the definition.
use Rattle.std.proofs.Common.{◌≡◌, ℕ, suc, ◌+◌, arith, Bool, true, false, List, [], ◌∷◌, ◌++◌, map, Option, Some, None, refl, sym, ap, ◌∙◌}
use Rattle.std.proofs.lemmas.List.{append-nil}
use Rattle.std.specs.Prelude.{slice_get, ◌||◌, ◌==◌, if◌then◌else◌}
use Rattle.std.specs.List.{list_any, flat_map}
use Rattle.std.specs.Option.{option_map}
use Rattle.il_base.specs.declared.table.TheConstants.{TYPE_DEF, METHOD_DEF}
use Rattle.il_base.specs.declared.world_model.expr.MethodUse.{MethodUse}
use Rattle.il_base.specs.declared.world_model.members.MethodImplRow.{MethodImplRow}
use Rattle.il_base.specs.declared.world_model.record.AsmRec.{AsmRec}
use Rattle.il_base.specs.world_model.Tokens.{table_of}
use Rattle.rules.specs.link_rules.Cycles.{listed}
use Rattle.rules.specs.type_rules.Rows.{each_from}
use Rattle.rules.specs.mark_rules.Naming.{method_named}
use Rattle.rules.specs.merge_rules.Numbers.{Kept, inputs_from}
use Rattle.rules.specs.merge_rules.Sorted.{by_key}
use Rattle.rules.specs.merge_rules.Keys.{own_method, found_method, is_plain_owner, good, method_key, method_key_of}
use Rattle.rules.specs.merge_rules.Order.{is_kept_method}
use Rattle.rules.specs.merge_rules.Refs.{Output}
use Rattle.rules.specs.merge_rules.Restricted.{new_method_impl, method_impls}
use Rattle.merge_plan.specs.declared.moved_parts.tokens.NewTokens.{NewTokens}
use Rattle.merge_plan.specs.moved_parts.Laws.{AreNewTokens}
use Rattle.merged_tables.specs.merged_members.Laws.{HasTokens, HaveTokens}
use Rattle.merge_plan.specs.declared.kept_tables.tables.KeptTables.{KeptTables}
use Rattle.merge_plan.specs.kept_tables.Kept.{AreKept}
use Rattle.merge_plan.specs.kept_tables.Places.{token_in}
use Rattle.merged_tables.specs.merged_impls.Impls.{is_kept_use, has_kept_use, impl_of, impls_in, method_impls_by}

-- where the number of a row doesn't matter
each_is : {A B : Type 0} (f : A → List B) (g : ℕ → A → List B) → ((k : ℕ) (x : A) → f x ≡ g k x) → (k : ℕ) (xs : List A) → flat_map f xs ≡ each_from g k xs
each_is f g same k [] = refl
each_is f g same k (x ∷ xs) = λ i. same k x i ++ each_is f g same (suc k) xs i

-- ---- bodies

-- whichever key names it, a method is what is kept
module _ (recs : List AsmRec) (kept : Kept) (own : Bool) where
  by_case : (u : MethodUse) (b : Bool) → is_kept_use recs kept u ≡ is_kept_method recs kept (if b then own_method u.method else found_method u.method u.owner)
  by_case u true = refl
  by_case u false = refl

  use_case : (u : MethodUse) → is_kept_use recs kept u ≡ is_kept_method recs kept (method_key_of recs own u)
  use_case u = by_case u (own || is_plain_owner recs u.owner)

  uses_same : (o : Option MethodUse) → has_kept_use recs kept o ≡ list_any (is_kept_method recs kept) (listed (option_map (method_key_of recs own) o))
  uses_same None = refl
  uses_same (Some u) = ap (λ (b : Bool). b || false) (use_case u)

body_same : (recs : List AsmRec) (kept : Kept) (a : ℕ) (rec : AsmRec) (token : ℕ)
    → has_kept_use recs kept (good (method_named recs a rec token)) ≡ list_any (is_kept_method recs kept) (listed (method_key recs a rec token))
unfolding method_key
body_same recs kept a rec token = uses_same recs kept (table_of token == METHOD_DEF) (good (method_named recs a rec token))

module _ (o : Output) (tokens : List NewTokens) (k : KeptTables) (have : HaveTokens o tokens) (are : AreKept o.recs o.kept k) where
  one_same : (a : ℕ) (rec : AsmRec) (t : NewTokens) → AreNewTokens o a rec t → (j : ℕ) (row : MethodImplRow) → impl_of o.recs o.kept k t o.recs a rec row ≡ new_method_impl o a rec j row
  one_same a rec t new j row = λ i.
      if body_same o.recs o.kept a rec row.body i
      then map (λ class. record { class = class; body = new.callees row.body i; declaration = new.callees row.declaration i }) (listed (token_in TYPE_DEF (are.items.types i) a row.class))
      else []

  with_tokens : (a : ℕ) (rec : AsmRec) → HasTokens o tokens a rec → impls_in o.recs o.kept k tokens a rec ≡ each_from (new_method_impl o a rec) 0 rec.method_impl
  with_tokens a rec has =
      ap (λ (t : Option NewTokens). flat_map (λ (t : NewTokens). flat_map (impl_of o.recs o.kept k t o.recs a rec) rec.method_impl) (listed t)) has.there
      ∙ append-nil (flat_map (impl_of o.recs o.kept k has.new o.recs a rec) rec.method_impl)
      ∙ each_is (impl_of o.recs o.kept k has.new o.recs a rec) (new_method_impl o a rec) (one_same a rec has.new has.are) 0 rec.method_impl

  -- assembly by assembly
  all_same : (n : ℕ) (rest : List AsmRec) → ((j : ℕ) → slice_get rest j ≡ slice_get o.recs (n + j))
      → flat_map (λ (x : ℕ × AsmRec). impls_in o.recs o.kept k tokens x.0 x.1) (inputs_from n rest) ≡ flat_map (λ (x : ℕ × AsmRec). each_from (new_method_impl o x.0 x.1) 0 x.1.method_impl) (inputs_from n rest)
  all_same n [] same = refl
  all_same n (rec ∷ []) same = refl
  all_same n (rec ∷ next ∷ rest) same = λ i.
      with_tokens n rec (have n rec (let z : n ≡ n + 0 = omega arith in ap (slice_get o.recs) z ∙ sym (same 0))) i
      ++ all_same (suc n) (next ∷ rest) (λ j. let z : n + suc j ≡ suc n + j = omega arith in same (suc j) ∙ ap (slice_get o.recs) z) i

  pub all_tell : method_impls_by o.recs o.kept k tokens ≡ method_impls o
  unfolding method_impls_by
  all_tell = ap (by_key (λ (row : MethodImplRow). row.class)) (all_same 0 o.recs (λ j. let z : j ≡ 0 + j = omega arith in ap (slice_get o.recs) z))
