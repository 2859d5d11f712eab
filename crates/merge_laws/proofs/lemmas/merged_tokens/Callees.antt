-- Methods that are met have tokens in what is left.
use Rattle.std.proofs.Common.{◌≡◌, ◌<◌, ◌≤◌, ℕ, List, [], Bool, true, false, Option, Some, refl, sym, ap, subst, ◌∙◌, arith}
use Rattle.std.specs.Prelude.{◌==◌, ◌&&◌, if◌then◌else◌}
use Rattle.std.specs.List.{Contains, flat_map}
use Rattle.std.proofs.lemmas.Bool.{eq-eqb}
use Rattle.std.proofs.lemmas.Slice.Eq.{bytes_eq-Decides}
use Rattle.il_base.specs.declared.ids.MethodId.{MethodId}
use Rattle.il_base.specs.declared.ids.Item.TheVariants as item
use Rattle.il_base.specs.declared.table.TheConstants as table
use Rattle.il_base.specs.declared.world_model.record.AsmRec.{AsmRec}
use Rattle.il_base.specs.world_model.Tokens.{table_of}
use Rattle.il_base.proofs.lemmas.world_model.SameExpr as exprs
use Rattle.rules.specs.declared.link_rules.row_at.RowAt.{RowAt}
use Rattle.rules.specs.link_rules.Members.{methods_in}
use Rattle.rules.specs.link_rules.Cycles.{same_row}
use Rattle.base_laws.proofs.lemmas.type_laws.Places.{rows_decide}
use Rattle.base_laws.proofs.lemmas.known_laws.Lists.{first_in, to_flat}
use Rattle.rules.specs.mark_rules.Places.{method_item}
use Rattle.rules.specs.merge_rules.Numbers.{kept_methods}
use Rattle.rules.specs.merge_rules.Keys.{TypeKey, named, spec, MethodKey, own_method, found_method, absent_method, same_type, method_key, instance_key}
use Rattle.rules.specs.merge_rules.Order.{Met}
use Rattle.rules.specs.merge_rules.Refs.{Output, MemberKey, a_method, a_field, an_absent, same_member, member_of_method, members_of_met, member_refs, method_at, member_token, kept_token, method_token, instance_token}
use Rattle.rules.specs.merge_rules.Moved.{token_or_none, moved_callee}
use Rattle.token_keys.proofs.lemmas.key_codes.SameSig.{same_self, method_sig_decides}
use Rattle.merge_laws.specs.merged_record.Laws.{ReferencesStand, RowsFit}
use Rattle.merge_laws.proofs.lemmas.merged_record.Lists.{OfInput}
use Rattle.merge_laws.proofs.lemmas.merged_record.Sizes.{left, methods, member_ref_rows_are}
use Rattle.merge_laws.proofs.lemmas.merged_record.Owned.{to_kept}
use Rattle.merge_laws.proofs.lemmas.merged_owners.Homes.{position_some, own_home}
use Rattle.merge_laws.proofs.lemmas.merged_tokens.Once.{any_once, any_position}
use Rattle.merge_laws.proofs.lemmas.merged_tokens.OwnMethods.{OwnThere}
use Rattle.merge_laws.proofs.lemmas.merged_tokens.Stand.{token_there}

type_self : (x : TypeKey) → same_type x x ≡ true
type_self (named t) = eq-eqb t.0 t.0 refl
type_self (spec s) = same_self s

member_self : (x : MemberKey) → same_member x x ≡ true
member_self (a_method m e) = λ i. eq-eqb m.0 m.0 refl i && exprs.same_self e i
member_self (a_field m e) = λ i. eq-eqb m.0 m.0 refl i && exprs.same_self e i
member_self (an_absent p x s) = λ i. (type_self p i && (bytes_eq-Decides x x).1 refl i) && (method_sig_decides s s).1 refl i

module _ (internal : Bool) (o : Output) (primary : AsmRec) (refs : ReferencesStand o (left internal o primary)) (fit : RowsFit (left internal o primary)) where
  member_stands : (x : MemberKey) → Contains (flat_map members_of_met o.mets) x → 1 ≤ member_token o x
  unfolding member_refs
  member_stands x c =
      let n = member_ref_rows_are internal o primary in
      let m = refs.members in
      token_there internal o primary refs fit table.MEMBER_REF (same_member x) (member_refs o.mets)
      (any_position (same_member x) (member_refs o.mets) (any_once same_member (flat_map members_of_met o.mets) x (member_self x) c)) (omega arith) (omega arith)

  in_methods : (at : RowAt) (rec : AsmRec) → OfInput o.recs at.asm rec → at.row < methods_in rec → o.kept (method_item o.recs at) ≡ true → Contains (kept_methods o.recs o.kept) at
  unfolding kept_methods
  in_methods at rec input lt h = to_kept methods_in (method_item o.recs) o.recs o.kept at rec input lt h

  own_stands : (m : MethodId) → OwnThere o.recs m → o.kept (item.Method m) ≡ true → 1 ≤ kept_token table.METHOD_DEF (kept_methods o.recs o.kept) (method_at o.recs m)
  own_stands m t h =
      let home : method_at o.recs m ≡ Some t.at = ap (method_at o.recs) t.is ∙ own_home methods_in o.recs t.at t.rec t.there t.below in
      let c = in_methods t.at t.rec (record { there = t.there; within = t.within }) t.below (ap (λ (n : MethodId). o.kept (item.Method n)) (sym t.is) ∙ h) in
      let n = methods internal o primary in
      subst (λ (x : Option RowAt). 1 ≤ kept_token table.METHOD_DEF (kept_methods o.recs o.kept) x) (sym home)
      (token_there internal o primary refs fit table.METHOD_DEF (same_row t.at) (kept_methods o.recs o.kept) (position_some (same_row t.at) (kept_methods o.recs o.kept) t.at c ((rows_decide t.at t.at).1 refl)) (omega arith) (omega arith))

  -- ---- a method that is met, itself or with arguments

  pub method_stands : (k : MethodKey) (x : Met) → Contains o.mets x → members_of_met x ≡ member_of_method k → ((m : MethodId) → k ≡ own_method m → OwnThere o.recs m × (o.kept (item.Method m) ≡ true)) → 1 ≤ method_token o k
  unfolding method_token
  method_stands (own_method m) x c same own = let h = own m refl in own_stands m h.0 h.1
  method_stands (found_method m e) x c same own =
      member_stands (a_method m e) (to_flat members_of_met o.mets (a_method m e) (record { item = x; there = c; inside = subst (λ (ys : List MemberKey). Contains ys (a_method m e)) (sym same) (first_in (a_method m e) []) }))
  method_stands (absent_method p name s) x c same own =
      member_stands (an_absent p name s)
      (to_flat members_of_met o.mets (an_absent p name s) (record { item = x; there = c; inside = subst (λ (ys : List MemberKey). Contains ys (an_absent p name s)) (sym same) (first_in (an_absent p name s) []) }))

  pub callee_is : (a : ℕ) (rec : AsmRec) (token : ℕ) (k : MethodKey) → (table_of token == table.METHOD_SPEC) ≡ false → method_key o.recs a rec token ≡ Some k → moved_callee o a rec token ≡ method_token o k
  unfolding moved_callee
  callee_is a rec token k s e =
      ap (λ (b : Bool). if b then token_or_none (instance_token o) (instance_key o.recs a rec token) else token_or_none (method_token o) (method_key o.recs a rec token)) s
      ∙ ap (token_or_none (method_token o)) e
