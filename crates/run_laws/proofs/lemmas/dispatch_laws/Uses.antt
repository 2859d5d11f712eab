-- The method that a virtual call runs, and the type in which it is found, move (II.12.2).
use Rattle.std.proofs.Common.{◌≡◌, ℕ, suc, Bool, true, false, List, [], ◌∷◌, Option, Some, None, refl, ap, ◌∙◌}
use Rattle.std.specs.Prelude.{IsTrue, ◌||◌, if◌then◌else◌}
use Rattle.std.specs.List.{list_any, list_all}
use Rattle.std.specs.Option.{option_map, option_and_then}
use Rattle.std.specs.Cmp.{first_so, second_so}
use Rattle.il_base.specs.declared.ids.MethodId.{MethodId}
use Rattle.il_base.specs.declared.world_model.expr.TypeExpr.{TypeExpr}
use Rattle.il_base.specs.declared.world_model.members.MethodDefRow.{MethodDefRow}
use Rattle.il_base.specs.declared.world_model.record.AsmRec.{AsmRec}
use Rattle.rules.specs.declared.link_rules.row_at.RowAt.{RowAt}
use Rattle.rules.specs.link_rules.Members.{home_from, methods_in, with_bases, type_count}
use Rattle.rules.specs.link_rules.Cycles.{listed, same_row, home_of, is_interface_at}
use Rattle.rules.specs.type_rules.Slots.{method_row_at, type_of_method, slot_of}
use Rattle.rules.specs.type_rules.Dispatch.{in_interface, class_dispatch, interface_dispatch, dispatch_slot, method_id, dispatch}
use Rattle.base_laws.specs.walk_laws.Walks.{BasesWhole, SlotsWhole}
use Rattle.rules.specs.view_rules.Answers.{owner_among, found_owner, with_owner, answers_query}
use Rattle.rules.specs.change_rules.Change.{Change}
use Rattle.rules.specs.change_rules.Moves.{move_method_id, move_expr, move_exprs, move_use}
use Rattle.rules.specs.change_rules.Keeps.{keeps_expr}
use Rattle.rules.specs.world_change_rules.Places.{Places, keeps_type_row, keeps_method_row}
use Rattle.rules.specs.world_change_rules.Rows.{RowsMove}
use Rattle.rules.specs.world_change_rules.Kept.{KeepsRows}
use Rattle.run_laws.proofs.lemmas.query_laws.Lookups.{method_row_kept}
use Rattle.run_laws.proofs.lemmas.query_laws.Homes.{home_moved, home_kept}
use Rattle.run_laws.proofs.lemmas.query_laws.Wholes.{with_bases_kept, with_bases_moved}
use Rattle.run_laws.proofs.lemmas.query_laws.Slots.{slot_moved}
use Rattle.run_laws.specs.dispatch_laws.Kept.{Apart, KeepsImpls, KeepsRuns, slot_numbered}
use Rattle.run_laws.proofs.lemmas.dispatch_laws.There.{IsTypeThere, IsMethodThere, home_there, owner_there, slot_good}
use Rattle.run_laws.proofs.lemmas.dispatch_laws.Dispatched.{dispatched_there}
use Rattle.run_laws.proofs.lemmas.dispatch_laws.Standing.{slot_within_is}
use Rattle.run_laws.proofs.lemmas.dispatch_laws.Classes.{class_moved}
use Rattle.run_laws.proofs.lemmas.dispatch_laws.Interfaces.{interface_moved}

module _ (k : Change) (kept : RowAt → Bool) (p : Places) (after before : List AsmRec) (r : RowsMove k kept p after before) (keeps : KeepsRows k.keep kept before)
    (apart : Apart k.keep p before) (impls : KeepsImpls k.keep before) (later : BasesWhole after) (earlier : BasesWhole before) (whole_after : SlotsWhole after) (whole_before : SlotsWhole before) where
  abbrev KeepsMethod : RowAt → Type 0
  KeepsMethod at = IsTrue (keeps_method_row k.keep before at)

  -- ---- the type in which a method is found

  same_by : (x : RowAt) → IsTrue (keeps_type_row k.keep before x) → IsTypeThere before x → (o : Option RowAt) → ((y : RowAt) → o ≡ Some y → IsTrue (keeps_type_row k.keep before y) × IsTypeThere before y)
      → list_any (same_row (p.typ x)) (listed (option_map p.typ o)) ≡ list_any (same_row x) (listed o)
  same_by x h tx None g = refl
  same_by x h tx (Some y) g = let y_there = g y refl in ap (λ (b : Bool). b || false) (apart.types x y tx.0 y_there.1.0 h y_there.0 tx.1 y_there.1.1)

  has_moved : (x : RowAt) → IsTrue (keeps_type_row k.keep before x) → IsTypeThere before x → (e : TypeExpr) → IsTrue (keeps_expr k.keep e)
      → list_any (same_row (p.typ x)) (listed (home_of after (move_expr k.rho e))) ≡ list_any (same_row x) (listed (home_of before e))
  has_moved x h tx e g =
      ap (λ (o : Option RowAt). list_any (same_row (p.typ x)) (listed o)) (home_moved k kept p after before r keeps e g)
      ∙ same_by x h tx (home_of before e) (λ y is. (home_kept k kept p after before r keeps e y g is, home_there before e y is))

  among_step : (e : TypeExpr) (later_one earlier_one : Option TypeExpr) → later_one ≡ option_map (move_expr k.rho) earlier_one → (b : Bool)
      → (if b then Some (move_expr k.rho e) else later_one) ≡ option_map (move_expr k.rho) (if b then Some e else earlier_one)
  among_step e later_one earlier_one again true = refl
  among_step e later_one earlier_one again false = again

  among_moved : (x : RowAt) → IsTrue (keeps_type_row k.keep before x) → IsTypeThere before x → (es : List TypeExpr) → IsTrue (list_all (keeps_expr k.keep) es)
      → owner_among after (p.typ x) (move_exprs k.rho es) ≡ option_map (move_expr k.rho) (owner_among before x es)
  among_moved x h tx [] g = refl
  among_moved x h tx (e ∷ es) g =
      ap (λ (b : Bool). if b then Some (move_expr k.rho e) else owner_among after (p.typ x) (move_exprs k.rho es)) (has_moved x h tx e (first_so (keeps_expr k.keep e) (list_all (keeps_expr k.keep) es) g))
      ∙ among_step e (owner_among after (p.typ x) (move_exprs k.rho es)) (owner_among before x es) (among_moved x h tx es (second_so (keeps_expr k.keep e) (list_all (keeps_expr k.keep) es) g))
      (list_any (same_row x) (listed (home_of before e)))

  module _ (e : TypeExpr) (kept_type : IsTrue (keeps_expr k.keep e)) where
    owner_by : (o : Option RowAt) → ((x : RowAt) → o ≡ Some x → IsTrue (keeps_type_row k.keep before x) × IsTypeThere before x)
        → option_and_then (λ owner. owner_among after owner (with_bases after (move_expr k.rho e))) (option_map p.typ o)
        ≡ option_map (move_expr k.rho) (option_and_then (λ owner. owner_among before owner (with_bases before e)) o)
    owner_by None h = refl
    owner_by (Some x) h =
        let x_there = h x refl in
        ap (owner_among after (p.typ x)) (with_bases_moved k kept p after before r keeps later earlier e kept_type)
        ∙ among_moved x x_there.0 x_there.1 (with_bases before e) (with_bases_kept k kept p after before r keeps e kept_type)

    home_by : (o : Option RowAt) → ((at : RowAt) → o ≡ Some at → KeepsMethod at)
        → option_and_then (λ owner. owner_among after owner (with_bases after (move_expr k.rho e))) (option_and_then (type_of_method after) (option_map p.method o))
        ≡ option_map (move_expr k.rho) (option_and_then (λ owner. owner_among before owner (with_bases before e)) (option_and_then (type_of_method before) o))
    home_by None h = refl
    home_by (Some at) h =
        ap (option_and_then (λ owner. owner_among after owner (with_bases after (move_expr k.rho e)))) ((r.methods at (h at refl)).owner)
        ∙ owner_by (type_of_method before at) (λ x is. (keeps.owners at x (h at refl) is, owner_there before at x is))

    use_by : (n : MethodId) (o : Option TypeExpr)
        → option_map (λ owner. record { method = move_method_id k.rho n; owner = owner; args = [] }) (option_map (move_expr k.rho) o)
        ≡ option_map (move_use k.rho) (option_map (λ owner. record { method = n; owner = owner; args = [] }) o)
    use_by n None = refl
    use_by n (Some x) = refl

    with_owner_moved : (n : MethodId) → IsTrue (k.keep.method n.0) → with_owner after (move_expr k.rho e) (move_method_id k.rho n) ≡ option_map (move_use k.rho) (with_owner before e n)
    with_owner_moved n h =
        ap (λ (o : Option RowAt). option_map (λ owner. record { method = move_method_id k.rho n; owner = owner; args = [] })
        (option_and_then (λ owner. owner_among after owner (with_bases after (move_expr k.rho e))) (option_and_then (type_of_method after) o))) (r.places.method_homes n.0 h)
        ∙ ap (option_map (λ owner. record { method = move_method_id k.rho n; owner = owner; args = [] }))
        (home_by (home_from methods_in 0 before n.0) (λ at is. method_row_kept k kept p after before r n.0 at h is))
        ∙ use_by n (found_owner before e n)

    -- ---- the method that is found

    interface_by : (o : Option RowAt) → ((x : RowAt) → o ≡ Some x → IsTrue (keeps_type_row k.keep before x)) → list_any (is_interface_at after) (listed (option_map p.typ o)) ≡ list_any (is_interface_at before) (listed o)
    interface_by None h = refl
    interface_by (Some x) h = ap (λ (b : Bool). b || false) ((r.types x (h x refl)).interface)

    in_moved : (s : RowAt) → KeepsMethod s → in_interface after (p.method s) ≡ in_interface before s
    in_moved s h =
        ap (λ (o : Option RowAt). list_any (is_interface_at after) (listed o)) ((r.methods s h).owner) ∙ interface_by (type_of_method before s) (λ x is. keeps.owners s x h is)

    module _ (owner : TypeExpr) (m : ℕ) (kept_method : IsTrue (k.keep.method m)) (runs : KeepsRuns k after before e owner m) where
      test_by : (s : RowAt) → slot_numbered before m ≡ Some s → KeepsMethod s → (x : MethodDefRow) → method_row_at before s ≡ Some x → (b : Bool) → in_interface before s ≡ b
          → ((f : RowAt) → (if b then interface_dispatch before e owner s else class_dispatch before e s) ≡ Some f → KeepsMethod f)
          → (if b then interface_dispatch after (move_expr k.rho e) (move_expr k.rho owner) (p.method s) else class_dispatch after (move_expr k.rho e) (p.method s))
          ≡ option_map p.method (if b then interface_dispatch before e owner s else class_dispatch before e s)
      test_by s is h x row true t g =
          interface_moved k kept p after before r keeps apart impls later earlier whole_after whole_before s h x row e owner kept_type (runs.chooses s is t) (λ f found. runs.finds s f is t found) g
      test_by s is h x row false t g = class_moved k kept p after before r keeps apart impls later earlier whole_after whole_before s h x row e kept_type g

      slot_by : (o : Option RowAt) → slot_numbered before m ≡ o → ((s : RowAt) → o ≡ Some s → KeepsMethod s × IsMethodThere before s)
          → ((f : RowAt) → option_and_then (dispatch_slot before e owner) o ≡ Some f → KeepsMethod f)
          → option_and_then (dispatch_slot after (move_expr k.rho e) (move_expr k.rho owner)) (option_map p.method o) ≡ option_map p.method (option_and_then (dispatch_slot before e owner) o)
      slot_by None is h g = refl
      slot_by (Some s) is h g =
          let good = h s refl in
          ap (λ (b : Bool). if b then interface_dispatch after (move_expr k.rho e) (move_expr k.rho owner) (p.method s) else class_dispatch after (move_expr k.rho e) (p.method s)) (in_moved s good.0)
          ∙ test_by s is good.0 good.1.0 good.1.1 (in_interface before s) refl g

      numbered_by : (o : Option RowAt) → ((at : RowAt) → o ≡ Some at → KeepsMethod at) → option_and_then (slot_of after) (option_map p.method o) ≡ option_map p.method (option_and_then (slot_of before) o)
      numbered_by None h = refl
      numbered_by (Some at) h = slot_moved k kept p after before r keeps later earlier whole_after whole_before at (h at refl)

      home_kept_method : (at : RowAt) → home_from methods_in 0 before m ≡ Some at → KeepsMethod at
      home_kept_method at is = method_row_kept k kept p after before r m at kept_method is

      slot_numbered_moved : slot_numbered after (k.rho.method m) ≡ option_map p.method (slot_numbered before m)
      slot_numbered_moved = ap (option_and_then (slot_of after)) (r.places.method_homes m kept_method) ∙ numbered_by (home_from methods_in 0 before m) home_kept_method

      good_by : (o : Option RowAt) → ((at : RowAt) → o ≡ Some at → KeepsMethod at) → (s : RowAt) → option_and_then (slot_of before) o ≡ Some s → KeepsMethod s × IsMethodThere before s
      good_by None h s is = absurd (cc)
      good_by (Some at) h s is = let good = slot_good k.keep kept before keeps (suc (type_count before)) at s (h at refl) (slot_within_is before at s is) in (good.stays, good.there)

      found_moved : option_and_then (dispatch_slot after (move_expr k.rho e) (move_expr k.rho owner)) (slot_numbered after (k.rho.method m))
          ≡ option_map p.method (option_and_then (dispatch_slot before e owner) (slot_numbered before m))
      found_moved =
          ap (option_and_then (dispatch_slot after (move_expr k.rho e) (move_expr k.rho owner))) slot_numbered_moved
          ∙ slot_by (slot_numbered before m) refl (λ s is. good_by (home_from methods_in 0 before m) home_kept_method s is) runs.runs

      answer_by : (o : Option RowAt) → ((f : RowAt) → o ≡ Some f → KeepsMethod f) → ((f : RowAt) → o ≡ Some f → IsMethodThere before f)
          → option_and_then (with_owner after (move_expr k.rho e)) (option_map (method_id after) (option_map p.method o))
          ≡ option_map (move_use k.rho) (option_and_then (with_owner before e) (option_map (method_id before) o))
      answer_by None h g = refl
      answer_by (Some f) h g =
          let there = g f refl in
          ap (λ (n : ℕ). with_owner after (move_expr k.rho e) (record { 0 = n })) (r.places.methods f there.0 there.1 (h f refl)) ∙ with_owner_moved (method_id before f) (h f refl)

      pub answers_moved : answers_query after (move_expr k.rho e) (move_expr k.rho owner) (k.rho.method m) ≡ option_map (move_use k.rho) (answers_query before e owner m)
      unfolding answers_query dispatch
      answers_moved =
          ap (λ (o : Option RowAt). option_and_then (with_owner after (move_expr k.rho e)) (option_map (method_id after) o)) found_moved
          ∙ answer_by (option_and_then (dispatch_slot before e owner) (slot_numbered before m)) runs.runs (λ f is. dispatched_there before e owner (slot_numbered before m) f is)
