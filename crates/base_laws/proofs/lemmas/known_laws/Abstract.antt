-- An abstract method asks only types that try it.
use Rattle.std.proofs.Common.{◌≡◌, List, [], ◌∷◌, Bool, true, false, Some, sym, subst}
use Rattle.std.specs.Prelude.{if◌then◌else◌}
use Rattle.std.specs.List.{Contains, list_any}
use Rattle.std.proofs.lemmas.Bool.{and_parts}
use Rattle.il_base.specs.declared.world_model.record.AsmRec.{AsmRec}
use Rattle.rules.specs.declared.link_rules.row_at.RowAt.{RowAt}
use Rattle.rules.specs.link_rules.Cycles.{listed}
use Rattle.rules.specs.type_rules.Slots.{slot_of, method_row_at, type_of_method}
use Rattle.rules.specs.type_rules.Rows.{type_row_at}
use Rattle.rules.specs.mark_rules.Facts.{Fact}
use Rattle.rules.specs.mark_rules.Calls.{is_own_slot, is_base_of, class_runs, is_concrete, is_abstract_method, answers_abstract, is_below_owner, asked_slot, class_fills}
use Rattle.base_laws.proofs.lemmas.known_laws.Lists.{one_is, from_flat, from_listed, from_if, from_any}
use Rattle.base_laws.proofs.lemmas.known_laws.Slots.{Tried, own_tried, runs_tried}
use Rattle.base_laws.proofs.lemmas.known_laws.Interfaces.{method_in_run, base_in}

module _ (recs : List AsmRec) (t b : RowAt) where
  -- a method of a base, which overrides the slot that it asks for
  above_tried : (s : RowAt) → answers_abstract recs t b ≡ true → is_below_owner recs t b ≡ true → slot_of recs b ≡ Some s → Tried recs t b
  above_tried s abstract above slot =
      let p = and_parts (list_any is_concrete (listed (type_row_at recs t))) (list_any is_abstract_method (listed (method_row_at recs b))) abstract in
      let m = from_any is_abstract_method (listed (method_row_at recs b)) p.1 in
      let o = from_any (λ owner. is_base_of recs owner t) (listed (type_of_method recs b)) above in
      let inside : Contains _ b = method_in_run recs b o.0 m.0 (from_listed (type_of_method recs b) o.0 o.1) (from_listed (method_row_at recs b) m.0 m.1) in
      record { of = o.0; above = base_in recs t o.0 o.2; own = own_tried recs o.0 b s inside slot }

  pub fills_tried : (f : Fact) → Contains (class_fills recs t b) f → Tried recs t b
  unfolding class_fills asked_slot
  fills_tried f h =
      let r = from_if (answers_abstract recs t b) _ f h in
      let s = from_flat (class_runs recs t) (asked_slot recs t b) f r.1 in
      by_own (is_own_slot recs b) s.item r.0 s.there s.inside
    where
      by_own : (own : Bool) (s : RowAt) → answers_abstract recs t b ≡ true → Contains (if own then b ∷ [] else if is_below_owner recs t b then listed (slot_of recs b) else []) s → Contains (class_runs recs t s) f
          → Tried recs t b
      by_own true s abstract there inside = runs_tried recs t b f (subst (λ (x : RowAt). Contains (class_runs recs t x) f) (sym (one_is b s there)) inside)
      by_own false s abstract there inside =
          let above = from_if (is_below_owner recs t b) (listed (slot_of recs b)) s there in
          above_tried s abstract above.0 (from_listed (slot_of recs b) s above.1)
