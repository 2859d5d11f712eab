-- What an interface slot is answered with moves with the slot, where a type chooses the same interface instance (II.12.2).
use Rattle.std.proofs.Common.{◌≡◌, ℕ, suc, Bool, ◌&&◌, List, [], ◌∷◌, map, Option, Some, None, refl, sym, ap, subst, ◌∙◌}
use Rattle.std.specs.Prelude.{IsTrue}
use Rattle.std.specs.List.{list_all}
use Rattle.std.specs.Option.{option_map, option_and_then}
use Rattle.std.specs.Cmp.{first_so, second_so}
use Rattle.il_base.specs.declared.world_model.known.Known.{Known}
use Rattle.il_base.specs.declared.world_model.known.Known.TheVariants.{Good, Bad}
use Rattle.il_base.specs.declared.world_model.expr.TypeExpr.{TypeExpr}
use Rattle.il_base.specs.declared.world_model.expr.MethodUse.{MethodUse}
use Rattle.il_base.specs.declared.world_model.members.MethodDefRow.{MethodDefRow}
use Rattle.il_base.specs.declared.world_model.record.AsmRec.{AsmRec}
use Rattle.il_base.specs.world_model.Exprs.{same_expr, subst as put_in}
use Rattle.il_base.specs.world_model.Worlds.{known_map}
use Rattle.rules.specs.declared.link_rules.row_at.RowAt.{RowAt}
use Rattle.rules.specs.declared.link_rules.member_type.MethodType.{MethodType}
use Rattle.rules.specs.link_rules.Types.{or_else}
use Rattle.rules.specs.link_rules.Signatures.{subst_method}
use Rattle.rules.specs.link_rules.Members.{args_of, open_parent, with_bases, type_count}
use Rattle.rules.specs.type_rules.Slots.{method_row_at, type_of_row, nearest, slot_of}
use Rattle.rules.specs.type_rules.Dispatch.{Choice, chosen, choice_in, declares_slot, declares_in, impl_in, is_public_virtual, public_match_in, interface_method_in, good_signature, from_choice, interface_method_by, interface_method, class_dispatch, interface_dispatch}
use Rattle.base_laws.specs.walk_laws.Walks.{BasesWhole, SlotsWhole}
use Rattle.rules.specs.change_rules.Change.{Rho, Change}
use Rattle.rules.specs.change_rules.Moves.{move_expr, move_exprs, move_use}
use Rattle.rules.specs.change_rules.Keeps.{keeps_expr}
use Rattle.base_laws.proofs.lemmas.change_laws.Subst.{subst_moves}
use Rattle.base_laws.proofs.lemmas.change_laws.Same.{same_exprs_moved}
use Rattle.rules.specs.world_change_rules.Places.{Places, keeps_method_row}
use Rattle.rules.specs.world_change_rules.Rows.{RowsMove, move_method_type}
use Rattle.rules.specs.world_change_rules.Kept.{KeepsRows}
use Rattle.run_laws.proofs.lemmas.query_laws.Homes.{args_moved}
use Rattle.run_laws.proofs.lemmas.query_laws.Wholes.{with_bases_kept, with_bases_moved}
use Rattle.run_laws.proofs.lemmas.query_laws.Slots.{match_moved, slot_moved}
use Rattle.run_laws.specs.dispatch_laws.Kept.{Apart, KeepsImpls, move_choice}
use Rattle.run_laws.proofs.lemmas.dispatch_laws.There.{slot_good}
use Rattle.run_laws.proofs.lemmas.dispatch_laws.Standing.{slot_within_is}
use Rattle.run_laws.proofs.lemmas.dispatch_laws.Impls.{impl_in_moved, open_moved, open_kept}
use Rattle.run_laws.proofs.lemmas.dispatch_laws.Classes.{or_moved, declares_moved, class_moved}

-- ---- signatures with the arguments of an instance put in

module _ (rho : Rho) where
  puts_moved : (targs es : List TypeExpr) → map (put_in (move_exprs rho targs) []) (move_exprs rho es) ≡ move_exprs rho (map (put_in targs []) es)
  puts_moved targs [] = refl
  puts_moved targs (e ∷ es) = λ i. sym (subst_moves rho targs [] e) i ∷ puts_moved targs es i

  put_moved : (targs : List TypeExpr) (m : MethodType) → subst_method (move_exprs rho targs) (move_method_type rho m) ≡ move_method_type rho (subst_method targs m)
  unfolding subst_method
  put_moved targs m = λ i. record m { ret = sym (subst_moves rho targs [] m.ret) i; params = puts_moved targs m.params i }

  wanted_moved : (targs : List TypeExpr) (o : Option (Known MethodType))
      → option_map (subst_method (move_exprs rho targs)) (good_signature (option_map (known_map (move_method_type rho)) o)) ≡ option_map (move_method_type rho) (option_map (subst_method targs) (good_signature o))
  wanted_moved targs None = refl
  wanted_moved targs (Some (Bad why)) = refl
  wanted_moved targs (Some (Good m)) = ap Some (put_moved targs m)

-- ---- the type that chooses is one of those that are looked at

choice_of : (recs : List AsmRec) (wanted e : TypeExpr) (c : Choice) (o : Option TypeExpr) → option_map (λ i. record { of = e; instance = i }) o ≡ Some c → e ≡ c.of
choice_of recs wanted e c None h = absurd (cc)
choice_of recs wanted e c (Some i) h = cc

pub choice_kept : (Keeps : TypeExpr → Bool) (recs : List AsmRec) (wanted : TypeExpr) (es : List TypeExpr) → IsTrue (list_all Keeps es) → (c : Choice) → nearest (choice_in recs wanted) es ≡ Some c → IsTrue (Keeps c.of)
unfolding nearest
choice_kept Keeps recs wanted [] h c e = absurd (cc)
choice_kept Keeps recs wanted (x ∷ es) h c e = by_here (λ f. choice_kept Keeps recs wanted es (second_so (Keeps x) (list_all Keeps es) h) c f) (choice_in recs wanted x) refl e
  where
    by_here : (nearest (choice_in recs wanted) es ≡ Some c → IsTrue (Keeps c.of)) → (o : Option Choice) → choice_in recs wanted x ≡ o → or_else o (nearest (choice_in recs wanted) es) ≡ Some c → IsTrue (Keeps c.of)
    by_here again None is f = again f
    by_here again (Some d) is f =
        subst (λ (y : TypeExpr). IsTrue (Keeps y)) (choice_of recs wanted x c (chosen recs wanted x) (is ∙ f)) (first_so (Keeps x) (list_all Keeps es) h)

-- ---- kept slots

module _ (k : Change) (kept : RowAt → Bool) (p : Places) (after before : List AsmRec) (r : RowsMove k kept p after before) (keeps : KeepsRows k.keep kept before)
    (apart : Apart k.keep p before) (impls : KeepsImpls k.keep before) (later : BasesWhole after) (earlier : BasesWhole before) (whole_after : SlotsWhole after) (whole_before : SlotsWhole before)
    (slot : RowAt) (kept_slot : IsTrue (keeps_method_row k.keep before slot)) (m : MethodDefRow) (there : method_row_at before slot ≡ Some m) where
  abbrev KeepsMethod : RowAt → Type 0
  KeepsMethod at = IsTrue (keeps_method_row k.keep before at)

  -- ---- a declaration in an instance

  declares_in_moved : (instance e : TypeExpr) (d : MethodUse) → IsTrue (k.keep.method d.method.0)
      → declares_in after (p.method slot) (move_expr k.rho instance) (args_of (move_expr k.rho e)) (move_use k.rho d) ≡ declares_in before slot instance (args_of e) d
  declares_in_moved instance e d h =
      ap (λ (targs : List TypeExpr). declares_slot after (p.method slot) (move_use k.rho d) && same_expr (put_in targs [] (move_expr k.rho d.owner)) (move_expr k.rho instance)) (args_moved k e)
      ∙ (λ i. declares_moved k kept p after before r keeps apart impls later earlier whole_after whole_before slot kept_slot m there d h i
      && same_expr (sym (subst_moves k.rho (args_of e) [] d.owner) i) (move_expr k.rho instance))
      ∙ ap (λ (b : Bool). declares_slot before slot d && b) (same_exprs_moved k.back k.rho k.undone (put_in (args_of e) [] d.owner) instance)

  -- ---- one type

  module _ (instance : TypeExpr) (name : List ℕ) (wanted : Option MethodType) where
    match_by : (e : TypeExpr) → IsTrue (keeps_expr k.keep e) → (o : Option MethodType) → ((f : RowAt) → public_match_in before name o e ≡ Some f → KeepsMethod f)
        → public_match_in after name (option_map (move_method_type k.rho) o) (move_expr k.rho e) ≡ option_map p.method (public_match_in before name o e)
    match_by e h None g = refl
    match_by e h (Some w) g = match_moved k kept p after before r keeps is_public_virtual (λ m' m s. (λ i. s.public i && s.virtual i)) name w e h g

    in_moved : (e : TypeExpr) → IsTrue (keeps_expr k.keep e) → ((f : RowAt) → interface_method_in before slot instance name wanted e ≡ Some f → KeepsMethod f)
        → interface_method_in after (p.method slot) (move_expr k.rho instance) name (option_map (move_method_type k.rho) wanted) (move_expr k.rho e)
        ≡ option_map p.method (interface_method_in before slot instance name wanted e)
    in_moved e h g =
        or_moved k kept p after before r keeps apart impls later earlier whole_after whole_before slot kept_slot m there
        (impl_in before (declares_in before slot instance (args_of e)) e) (public_match_in before name wanted e)
        (impl_in after (declares_in after (p.method slot) (move_expr k.rho instance) (args_of (move_expr k.rho e))) (move_expr k.rho e))
        (public_match_in after name (option_map (move_method_type k.rho) wanted) (move_expr k.rho e))
        (impl_in_moved k kept p after before r keeps apart later earlier e h (declares_in after (p.method slot) (move_expr k.rho instance) (args_of (move_expr k.rho e))) (declares_in before slot instance (args_of e))
        (λ d u. declares_in_moved instance e d u) impls (λ f is. g f (ap (λ o. or_else o (public_match_in before name wanted e)) is)))
        (λ none. match_by e h wanted (λ f is. g f (ap (λ o. or_else o (public_match_in before name wanted e)) none ∙ is)))

    pub nearest_in_moved : (es : List TypeExpr) → IsTrue (list_all (keeps_expr k.keep) es) → ((f : RowAt) → nearest (interface_method_in before slot instance name wanted) es ≡ Some f → KeepsMethod f)
        → nearest (interface_method_in after (p.method slot) (move_expr k.rho instance) name (option_map (move_method_type k.rho) wanted)) (move_exprs k.rho es)
        ≡ option_map p.method (nearest (interface_method_in before slot instance name wanted) es)
    unfolding nearest
    nearest_in_moved [] h g = refl
    nearest_in_moved (e ∷ es) h g =
        or_moved k kept p after before r keeps apart impls later earlier whole_after whole_before slot kept_slot m there
        (interface_method_in before slot instance name wanted e) (nearest (interface_method_in before slot instance name wanted) es)
        (interface_method_in after (p.method slot) (move_expr k.rho instance) name (option_map (move_method_type k.rho) wanted) (move_expr k.rho e))
        (nearest (interface_method_in after (p.method slot) (move_expr k.rho instance) name (option_map (move_method_type k.rho) wanted)) (move_exprs k.rho es))
        (in_moved e (first_so (keeps_expr k.keep e) (list_all (keeps_expr k.keep) es) h) (λ f is. g f (ap (λ o. or_else o (nearest (interface_method_in before slot instance name wanted) es)) is)))
        (λ none. nearest_in_moved es (second_so (keeps_expr k.keep e) (list_all (keeps_expr k.keep) es) h) (λ f is. g f (ap (λ o. or_else o (nearest (interface_method_in before slot instance name wanted) es)) none ∙ is)))

  -- ---- from the type that chooses

  from_moved : (c : Choice) → IsTrue (keeps_expr k.keep c.of) → (m' : MethodDefRow) → m'.name ≡ m.name → ((f : RowAt) → from_choice before slot m (type_of_row before slot) c ≡ Some f → KeepsMethod f)
      → from_choice after (p.method slot) m' (type_of_row after (p.method slot)) (move_choice k.rho c) ≡ option_map p.method (from_choice before slot m (type_of_row before slot) c)
  from_moved c h m' name g =
      (λ i. nearest (interface_method_in after (p.method slot) (move_expr k.rho c.instance) (name i) (option_map (subst_method (args_moved k c.instance i)) (good_signature ((r.methods slot kept_slot).signature i))))
      (with_bases after (open_moved k kept p after before r keeps c.of i)))
      ∙ (λ i. nearest (interface_method_in after (p.method slot) (move_expr k.rho c.instance) m.name (wanted_moved k.rho (args_of c.instance) (type_of_row before slot) i))
      (with_bases_moved k kept p after before r keeps later earlier (open_parent before c.of) (open_kept k kept p after before r keeps c.of h) i))
      ∙ nearest_in_moved c.instance m.name (option_map (subst_method (args_of c.instance)) (good_signature (type_of_row before slot))) (with_bases before (open_parent before c.of))
      (with_bases_kept k kept p after before r keeps (open_parent before c.of) (open_kept k kept p after before r keeps c.of h)) g

  module _ (t instance : TypeExpr) (kept_type : IsTrue (keeps_expr k.keep t))
      (chooses : nearest (choice_in after (move_expr k.rho instance)) (with_bases after (move_expr k.rho t)) ≡ option_map (move_choice k.rho) (nearest (choice_in before instance) (with_bases before t))) where
    choice_by : (m' : MethodDefRow) → m'.name ≡ m.name → (o : Option Choice) → ((c : Choice) → o ≡ Some c → IsTrue (keeps_expr k.keep c.of))
        → ((f : RowAt) → option_and_then (from_choice before slot m (type_of_row before slot)) o ≡ Some f → KeepsMethod f)
        → option_and_then (from_choice after (p.method slot) m' (type_of_row after (p.method slot))) (option_map (move_choice k.rho) o)
        ≡ option_map p.method (option_and_then (from_choice before slot m (type_of_row before slot)) o)
    choice_by m' name None h g = refl
    choice_by m' name (Some c) h g = from_moved c (h c refl) m' name g

    pub method_moved : ((f : RowAt) → interface_method before t instance slot ≡ Some f → KeepsMethod f)
        → interface_method after (move_expr k.rho t) (move_expr k.rho instance) (p.method slot) ≡ option_map p.method (interface_method before t instance slot)
    unfolding interface_method
    method_moved g =
        let row = (r.methods slot kept_slot).there m there in
        ap (option_and_then (interface_method_by after (move_expr k.rho t) (move_expr k.rho instance) (p.method slot))) row.1
        ∙ ap (option_and_then (from_choice after (p.method slot) row.0 (type_of_row after (p.method slot)))) chooses
        ∙ choice_by row.0 row.2.name (nearest (choice_in before instance) (with_bases before t))
        (λ c is. choice_kept (keeps_expr k.keep) before instance (with_bases before t) (with_bases_kept k kept p after before r keeps t kept_type) c is)
        (λ f is. g f (ap (option_and_then (interface_method_by before t instance slot)) there ∙ is))
        ∙ sym (ap (λ o. option_map p.method (option_and_then (interface_method_by before t instance slot) o)) there)

    -- ---- the method is dispatched as a class slot

    slot_by : (o : Option RowAt) → ((s : RowAt) → o ≡ Some s → KeepsMethod s × ((x : MethodDefRow) × (method_row_at before s ≡ Some x)))
        → ((f : RowAt) → option_and_then (class_dispatch before t) o ≡ Some f → KeepsMethod f)
        → option_and_then (class_dispatch after (move_expr k.rho t)) (option_map p.method o) ≡ option_map p.method (option_and_then (class_dispatch before t) o)
    slot_by None h g = refl
    slot_by (Some s) h g =
        let good = h s refl in
        class_moved k kept p after before r keeps apart impls later earlier whole_after whole_before s good.0 good.1.0 good.1.1 t kept_type g

    found_by : (o : Option RowAt) → ((f : RowAt) → o ≡ Some f → KeepsMethod f)
        → ((f : RowAt) → option_and_then (class_dispatch before t) (option_and_then (slot_of before) o) ≡ Some f → KeepsMethod f)
        → option_and_then (class_dispatch after (move_expr k.rho t)) (option_and_then (slot_of after) (option_map p.method o))
        ≡ option_map p.method (option_and_then (class_dispatch before t) (option_and_then (slot_of before) o))
    found_by None h g = refl
    found_by (Some f) h g =
        ap (option_and_then (class_dispatch after (move_expr k.rho t))) (slot_moved k kept p after before r keeps later earlier whole_after whole_before f (h f refl))
        ∙ slot_by (slot_of before f)
        (λ s is. let good = slot_good k.keep kept before keeps (suc (type_count before)) f s (h f refl) (slot_within_is before f s is) in (good.stays, good.there)) g

    pub interface_moved : ((f : RowAt) → interface_method before t instance slot ≡ Some f → KeepsMethod f) → ((f : RowAt) → interface_dispatch before t instance slot ≡ Some f → KeepsMethod f)
        → interface_dispatch after (move_expr k.rho t) (move_expr k.rho instance) (p.method slot) ≡ option_map p.method (interface_dispatch before t instance slot)
    unfolding interface_dispatch
    interface_moved h g =
        ap (λ o. option_and_then (class_dispatch after (move_expr k.rho t)) (option_and_then (slot_of after) o)) (method_moved h)
        ∙ found_by (interface_method before t instance slot) h g
