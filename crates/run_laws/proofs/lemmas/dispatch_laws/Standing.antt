-- Whether a method has a slot, and whether types have a method, is the same of kept rows in both worlds.
use Rattle.std.proofs.Common.{◌≡◌, suc, Bool, false, List, [], ◌∷◌, Option, Some, None, refl, ap, ◌∙◌}
use Rattle.std.specs.Prelude.{IsTrue, ◌||◌}
use Rattle.std.specs.List.{list_any, list_all}
use Rattle.std.specs.Option.{option_map}
use Rattle.std.specs.Cmp.{first_so, second_so}
use Rattle.il_base.specs.declared.world_model.expr.TypeExpr.{TypeExpr}
use Rattle.il_base.specs.declared.world_model.members.MethodDefRow.{MethodDefRow}
use Rattle.il_base.specs.declared.world_model.record.AsmRec.{AsmRec}
use Rattle.rules.specs.declared.link_rules.row_at.RowAt.{RowAt}
use Rattle.rules.specs.link_rules.Members.{type_count}
use Rattle.rules.specs.link_rules.Cycles.{listed, same_row, home_of}
use Rattle.rules.specs.type_rules.Slots.{method_row_at, type_of_method, slot_of, slot_within, is_slot, has_slot}
use Rattle.rules.specs.type_rules.Dispatch.{have_method}
use Rattle.base_laws.specs.walk_laws.Walks.{BasesWhole, SlotsWhole}
use Rattle.rules.specs.change_rules.Change.{Change}
use Rattle.rules.specs.change_rules.Moves.{move_expr, move_exprs}
use Rattle.rules.specs.change_rules.Keeps.{keeps_expr}
use Rattle.rules.specs.world_change_rules.Places.{Places, keeps_type_row, keeps_method_row}
use Rattle.rules.specs.world_change_rules.Rows.{RowsMove}
use Rattle.rules.specs.world_change_rules.Kept.{KeepsRows}
use Rattle.run_laws.proofs.lemmas.query_laws.Homes.{home_moved, home_kept}
use Rattle.run_laws.proofs.lemmas.query_laws.Slots.{slot_moved}
use Rattle.run_laws.specs.dispatch_laws.Kept.{Apart}
use Rattle.run_laws.proofs.lemmas.dispatch_laws.There.{home_there, owner_there, slot_good}

pub slot_within_is : (recs : List AsmRec) (at s : RowAt) → slot_of recs at ≡ Some s → slot_within recs (suc (type_count recs)) at ≡ Some s
unfolding slot_of
slot_within_is recs at s e = e

module _ (k : Change) (kept : RowAt → Bool) (p : Places) (after before : List AsmRec) (r : RowsMove k kept p after before) (keeps : KeepsRows k.keep kept before) (apart : Apart k.keep p before) where
  abbrev pub KeepsMethod : RowAt → Type 0
  KeepsMethod at = IsTrue (keeps_method_row k.keep before at)

  -- ---- slots

  module _ (later : BasesWhole after) (earlier : BasesWhole before) (whole_after : SlotsWhole after) (whole_before : SlotsWhole before) (slot : RowAt) (kept_slot : KeepsMethod slot)
      (m : MethodDefRow) (there : method_row_at before slot ≡ Some m) where
    slot_by : (at : RowAt) → KeepsMethod at → (o : Option RowAt) → slot_of before at ≡ o → is_slot (option_map p.method o) (p.method slot) ≡ is_slot o slot
    slot_by at h None e = refl
    slot_by at h (Some s) e =
        let good = slot_good k.keep kept before keeps (suc (type_count before)) at s h (slot_within_is before at s e) in
        apart.methods s slot good.there.0 m good.stays kept_slot good.there.1 there

    pub has_slot_moved : (at : RowAt) → KeepsMethod at → has_slot after (p.method slot) (p.method at) ≡ has_slot before slot at
    has_slot_moved at h =
        ap (λ (o : Option RowAt). is_slot o (p.method slot)) (slot_moved k kept p after before r keeps later earlier whole_after whole_before at h)
        ∙ slot_by at h (slot_of before at) refl

  -- ---- a method among the members of types

  same_by : (x : RowAt) (o : Option RowAt) → IsTrue (keeps_type_row k.keep before x) → ((y : RowAt) → o ≡ Some y → same_row (p.typ x) (p.typ y) ≡ same_row x y)
      → list_any (same_row (p.typ x)) (listed (option_map p.typ o)) ≡ list_any (same_row x) (listed o)
  same_by x None h g = refl
  same_by x (Some y) h g = ap (λ (b : Bool). b || false) (g y refl)

  owner_same : (x at : RowAt) → IsTrue (keeps_type_row k.keep before x) → ((y : RowAt) → type_of_method before at ≡ Some y → same_row (p.typ x) (p.typ y) ≡ same_row x y) → KeepsMethod at
      → list_any (same_row (p.typ x)) (listed (type_of_method after (p.method at))) ≡ list_any (same_row x) (listed (type_of_method before at))
  owner_same x at h g m =
      ap (λ (o : Option RowAt). list_any (same_row (p.typ x)) (listed o)) ((r.methods at m).owner) ∙ same_by x (type_of_method before at) h g

  type_has : (at : RowAt) → KeepsMethod at → (o : Option RowAt)
      → ((x : RowAt) → o ≡ Some x → list_any (same_row (p.typ x)) (listed (type_of_method after (p.method at))) ≡ list_any (same_row x) (listed (type_of_method before at)))
      → list_any (λ x. list_any (same_row x) (listed (type_of_method after (p.method at)))) (listed (option_map p.typ o)) ≡ list_any (λ x. list_any (same_row x) (listed (type_of_method before at))) (listed o)
  type_has at m None g = refl
  type_has at m (Some x) g = ap (λ (b : Bool). b || false) (g x refl)

  home_has : (at : RowAt) → KeepsMethod at → (e : TypeExpr) → IsTrue (keeps_expr k.keep e)
      → list_any (λ x. list_any (same_row x) (listed (type_of_method after (p.method at)))) (listed (home_of after (move_expr k.rho e)))
      ≡ list_any (λ x. list_any (same_row x) (listed (type_of_method before at))) (listed (home_of before e))
  home_has at m e h =
      ap (λ (o : Option RowAt). list_any (λ x. list_any (same_row x) (listed (type_of_method after (p.method at)))) (listed o)) (home_moved k kept p after before r keeps e h)
      ∙ type_has at m (home_of before e)
      (λ x is. owner_same x at (home_kept k kept p after before r keeps e x h is)
      (λ y own.
      let tx = home_there before e x is in
      let ty = owner_there before at y own in
      apart.types x y tx.0 ty.0 (home_kept k kept p after before r keeps e x h is) (keeps.owners at y m own) tx.1 ty.1) m)

  pub have_moved : (at : RowAt) → KeepsMethod at → (es : List TypeExpr) → IsTrue (list_all (keeps_expr k.keep) es)
      → have_method after (move_exprs k.rho es) (p.method at) ≡ have_method before es at
  have_moved at m [] h = refl
  have_moved at m (e ∷ es) h =
      λ i. home_has at m e (first_so (keeps_expr k.keep e) (list_all (keeps_expr k.keep) es) h) i || have_moved at m es (second_so (keeps_expr k.keep e) (list_all (keeps_expr k.keep) es) h) i
