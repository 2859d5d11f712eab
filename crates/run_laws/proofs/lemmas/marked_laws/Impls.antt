-- The declaration of a MethodImpl row whose body is marked is marked (II.22.27).
use Rattle.std.proofs.Common.{◌≡◌, ℕ, zero, suc, ◌+◌, arith, Bool, true, false, List, [], ◌∷◌, ◌++◌, map, Option, Some, inl, inr, refl, sym, ap, subst, ◌∙◌}
use Rattle.std.specs.Prelude.{IsTrue, slice_get, ◌==◌, Contains, if◌then◌else◌}
use Rattle.std.specs.List.{list_any, flat_map}
use Rattle.std.proofs.lemmas.Bool.{or_left}
use Rattle.il_base.specs.declared.ids.Item.TheVariants as item
use Rattle.il_base.specs.declared.table.TheConstants.{TYPE_DEF}
use Rattle.il_base.specs.declared.world_model.known.Known.{Known}
use Rattle.il_base.specs.declared.world_model.known.Known.TheVariants.{Good, Bad}
use Rattle.il_base.specs.declared.world_model.expr.MethodUse.{MethodUse}
use Rattle.il_base.specs.declared.world_model.members.MethodImplRow.{MethodImplRow}
use Rattle.il_base.specs.declared.world_model.record.AsmRec.{AsmRec}
use Rattle.il_base.specs.world_model.Tokens.{token_of}
use Rattle.rules.specs.declared.link_rules.row_at.RowAt.{RowAt}
use Rattle.rules.specs.link_rules.Members.{generic_method}
use Rattle.rules.specs.link_rules.Cycles.{listed, same_row}
use Rattle.rules.specs.link_rules.Linked.{assemblies}
use Rattle.rules.specs.type_rules.Slots.{method_row_at, method_home}
use Rattle.rules.specs.type_rules.Dispatch.{good_use}
use Rattle.rules.specs.type_rules.Rows.{each_row}
use Rattle.base_laws.proofs.lemmas.type_laws.Within.{In, in_front, in_behind, in_listed, listed_in, in_map, in_flat, flat_in}
use Rattle.base_laws.proofs.lemmas.type_laws.Places.{rows_decide}
use Rattle.descriptor_file.specs.declared.root.Root.{Root}
use Rattle.rules.specs.mark_rules.Facts.{Fact}
use Rattle.rules.specs.mark_rules.Facts.Fact.{marked}
use Rattle.rules.specs.mark_rules.Places.{row_of}
use Rattle.rules.specs.mark_rules.Naming.{of_expr, of_exprs, of_method_use}
use Rattle.rules.specs.mark_rules.Calls.{has_body, overridden, declared_by, declared_in, overrides_of}
use Rattle.rules.specs.change_rules.Change.{Keep}
use Rattle.rules.specs.world_change_rules.Rows.{Impl, impl_by, impls_by, impls_in, impls_at, keeps_impl}
use Rattle.run_laws.specs.dispatch_laws.Kept.{KeepsImpls}
use Rattle.run_laws.specs.marked_laws.Flags.{HasMarks, keep_of}
use Rattle.run_laws.specs.marked_laws.Laws.{MarkedImpls}
use Rattle.run_laws.proofs.lemmas.marked_laws.Closing.{row_gives}
use Rattle.run_laws.proofs.lemmas.marked_laws.Flags.{method_has, method_is}
use Rattle.run_laws.proofs.lemmas.marked_laws.Rows.{overrides_in}
use Rattle.run_laws.proofs.lemmas.marked_laws.Interfaces.{each_in}
use Rattle.run_laws.proofs.lemmas.marked_laws.Uses.{generic_there}

contained : (xs : List Impl) (i : Impl) → Contains xs i → In i xs
contained [] i c = absurd (let lt = c.1 in omega arith)
contained (x ∷ xs) i (zero, lt, is) = inl (sym is)
contained (x ∷ xs) i (suc n, lt, is) = inr (contained xs i (n, omega arith, is))

used : (k : Known MethodUse) (u : MethodUse) → good_use k ≡ Some u → k ≡ Good u
used (Good x) u h = let same : x ≡ u = cc in ap Good same
used (Bad why) u h = cc

module _ (recs : List AsmRec) (entry : Option RowAt) (roots : List Root) (has : Fact → Bool) (m : HasMarks recs entry roots has) where
  abbrev k : Keep
  k = keep_of recs has

  -- a row of which the two methods are these
  record Names (a : ℕ) (rec : AsmRec) (row : MethodImplRow) (i : Impl) : Type 0 where
    declares : good_use (generic_method recs a rec row.declaration) ≡ Some i.declaration
    has_method : good_use (generic_method recs a rec row.body) ≡ Some i.body

  names_by : (a : ℕ) (rec : AsmRec) (token : ℕ) (row : MethodImplRow) (i : Impl) (b : Bool)
      → In i (if b then flat_map (λ d. map (impl_by d) (listed (good_use (generic_method recs a rec row.body)))) (listed (good_use (generic_method recs a rec row.declaration))) else []) → Names a rec row i
  names_by a rec token row i true h =
      let d = in_flat (λ d. map (impl_by d) (listed (good_use (generic_method recs a rec row.body)))) i (listed (good_use (generic_method recs a rec row.declaration))) h in
      let b = in_map (impl_by d.0) i (listed (good_use (generic_method recs a rec row.body))) d.2 in
      subst (Names a rec row) (sym b.2) (record { declares = in_listed d.0 (good_use (generic_method recs a rec row.declaration)) d.1; has_method = in_listed b.0 (good_use (generic_method recs a rec row.body)) b.1 })
  names_by a rec token row i false h = absurd h

  -- its declaration is among what the body overrides
  in_declared : (a : ℕ) (rec : AsmRec) (row : MethodImplRow) (i : Impl) (at : RowAt) (f : Fact) → Names a rec row i → method_home recs i.body.method ≡ Some at → In f (of_method_use i.declaration) → In f (declared_by recs at a rec row)
  in_declared a rec row i at f names home h =
      let is_body : has_body recs at i.body ≡ true =
      ap (λ (o : Option RowAt). list_any (same_row at) (listed o)) home ∙ or_left (same_row at at) false ((rows_decide at at).1 refl) in
      flat_in (λ (body : MethodUse). if has_body recs at body then of_method_use body ++ flat_map of_method_use (listed (good_use (generic_method recs a rec row.declaration))) else []) f i.body
      (listed (good_use (generic_method recs a rec row.body))) (listed_in i.body (good_use (generic_method recs a rec row.body)) names.has_method)
      (subst (λ (b : Bool). In f (if b then of_method_use i.body ++ flat_map of_method_use (listed (good_use (generic_method recs a rec row.declaration))) else [])) (sym is_body)
      (in_behind f (of_method_use i.body) (flat_map of_method_use (listed (good_use (generic_method recs a rec row.declaration))))
      (flat_in of_method_use f i.declaration (listed (good_use (generic_method recs a rec row.declaration))) (listed_in i.declaration (good_use (generic_method recs a rec row.declaration)) names.declares) h)))

  in_overrides : (a : ℕ) (rec : AsmRec) (row : MethodImplRow) (at : RowAt) (f : Fact) → slice_get recs a ≡ Some rec → In row rec.method_impl → In f (declared_by recs at a rec row) → In f (overrides_of recs at)
  unfolding overrides_of
  in_overrides a rec row at f s i h =
      let z : a ≡ 0 + a = omega arith in
      in_behind f (flat_map (overridden recs at) (listed (method_row_at recs at))) (each_row (declared_in recs at) recs)
      (each_in (declared_in recs at) 0 a recs rec f s (subst (λ (j : ℕ). In f (declared_in recs at j rec)) z (flat_in (declared_by recs at a rec) f row rec.method_impl i h)))

  declared_use : (u : MethodUse) → In (marked (item.Method u.method)) (of_method_use u)
  declared_use u = in_front (marked (item.Method u.method)) (marked (item.Method u.method) ∷ of_expr u.owner) (of_exprs u.args) (inl refl)

  row_of_home : (n : _) (at : RowAt) → method_home recs n ≡ Some at → row_of recs (item.Method n) ≡ Some at
  unfolding row_of
  row_of_home n at e = e

  impl_kept : (a : ℕ) (rec : AsmRec) (row : MethodImplRow) (i : Impl) → slice_get recs a ≡ Some rec → In row rec.method_impl → Names a rec row i → IsTrue (keeps_impl k i) → IsTrue (k.method i.declaration.method.0)
  impl_kept a rec row i s within names h =
      let there = generic_there recs a rec row.body i.body s (used (generic_method recs a rec row.body) i.body names.has_method) in
      let f : Fact = marked (item.Method i.declaration.method) in
      method_is recs has i.declaration.method
      (row_gives recs entry roots has m (item.Method i.body.method) there.at f (method_has recs has i.body.method h) (row_of_home i.body.method there.at there.home)
      (overrides_in recs entry roots has m there.at f (in_overrides a rec row there.at f s within (in_declared a rec row i there.at f names there.home (declared_use i.declaration)))) refl)

  in_rec : (at : RowAt) (rec : AsmRec) (i : Impl) → slice_get recs at.asm ≡ Some rec → In i (impls_in recs at rec) → IsTrue (keeps_impl k i) → IsTrue (k.method i.declaration.method.0)
  in_rec at rec i s within h =
      let r = in_flat (impls_by recs at.asm rec (token_of TYPE_DEF (suc at.row))) i rec.method_impl within in
      impl_kept at.asm rec r.0 i s r.1 (names_by at.asm rec (token_of TYPE_DEF (suc at.row)) r.0 i (r.0.class == token_of TYPE_DEF (suc at.row)) r.2) h

  in_all : (at : RowAt) (i : Impl) → In i (impls_at recs at) → IsTrue (keeps_impl k i) → IsTrue (k.method i.declaration.method.0)
  unfolding impls_at
  in_all at i within h =
      let r = in_flat (impls_in recs at) i (listed (slice_get recs at.asm)) within in
      in_rec at r.0 i (in_listed r.0 (slice_get recs at.asm) r.1) r.2 h

  pub impls_kept : KeepsImpls k recs
  impls_kept = record { declared = λ at i h c g. in_all at i (contained (impls_at recs at) i c) g }

pub all_impls_kept : MarkedImpls
all_impls_kept inputs entry roots has sound m = impls_kept (assemblies inputs) entry roots has m
