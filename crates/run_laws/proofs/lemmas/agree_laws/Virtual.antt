-- What a virtual call runs is a virtual method that is there (II.10.3, II.12.2).
use Rattle.std.proofs.Common.{◌≡◌, Bool, true, false, List, Option, Some, None, inl, inr, refl, sym, ◌∙◌}
use Rattle.std.specs.Prelude.{not, if◌then◌else◌}
use Rattle.std.specs.Option.{option_and_then}
use Rattle.std.specs.Cmp.{first_so}
use Rattle.il_base.specs.declared.world_model.expr.TypeExpr.{TypeExpr}
use Rattle.il_base.specs.declared.world_model.members.MethodDefRow.{MethodDefRow}
use Rattle.il_base.specs.declared.world_model.record.AsmRec.{AsmRec}
use Rattle.rules.specs.declared.link_rules.row_at.RowAt.{RowAt}
use Rattle.rules.specs.link_rules.Members.{type_count, with_bases, open_parent}
use Rattle.rules.specs.link_rules.Cycles.{home_of}
use Rattle.rules.specs.type_rules.Slots.{is_static, is_virtual, is_new_slot, method_row_at, inherited, slot_by, slot_of_row, slot_within, slot_of, is_slot, has_slot}
use Rattle.rules.specs.type_rules.Dispatch.{have_method, is_instance_virtual, impl_in, slot_in, declares_slot, class_method_in, class_dispatch, interface_method, interface_dispatch, in_interface, dispatch_slot}
use Rattle.base_laws.proofs.lemmas.walk_laws.Finds.{nearest_is}
use Rattle.run_laws.proofs.lemmas.dispatch_laws.Classes.{slot_is}
use Rattle.run_laws.proofs.lemmas.marked_call_laws.Found.{or_is, first_home, impl_body}

module _ (recs : List AsmRec) where
  pub record IsVirtual (m : RowAt) : Type 0 where
    pub row : MethodDefRow
    pub there : method_row_at recs m ≡ Some row
    pub virtual : is_virtual row ≡ true

  instance_virtual : (m : RowAt) (o : Option MethodDefRow) → method_row_at recs m ≡ o → is_instance_virtual o ≡ true → IsVirtual m
  instance_virtual m None e h = absurd (let f : false ≡ true = h in cc)
  instance_virtual m (Some d) e h = record { row = d; there = e; virtual = first_so (is_virtual d) (not (is_static d)) h }

  -- ---- a method with a slot

  flag_virtual : (above : RowAt → Option RowAt) (m s : RowAt) (d : MethodDefRow) (v : Bool) → is_virtual d ≡ v
      → (if not v then None else if is_new_slot d then Some m else slot_by above m (inherited recs m d)) ≡ Some s → is_virtual d ≡ true
  flag_virtual above m s d true e h = e
  flag_virtual above m s d false e h = absurd (cc)

  row_virtual : (above : RowAt → Option RowAt) (m s : RowAt) (o : Option MethodDefRow) → method_row_at recs m ≡ o → option_and_then (slot_of_row recs above m) o ≡ Some s → IsVirtual m
  row_virtual above m s None e h = absurd (cc)
  row_virtual above m s (Some d) e h = record { row = d; there = e; virtual = flag_virtual above m s d (is_virtual d) refl h }

  slot_virtual : (m s : RowAt) → slot_of recs m ≡ Some s → IsVirtual m
  unfolding slot_of slot_within
  slot_virtual m s h = row_virtual (slot_within recs (type_count recs)) m s (method_row_at recs m) refl h

  slotted_virtual : (slot m : RowAt) (o : Option RowAt) → slot_of recs m ≡ o → is_slot o slot ≡ true → IsVirtual m
  slotted_virtual slot m None e h = absurd (let f : false ≡ true = h in cc)
  slotted_virtual slot m (Some s) e h = slot_virtual m s e

  -- ---- what a search finds

  impl_virtual : (slot m : RowAt) (e : TypeExpr) → impl_in recs (declares_slot recs slot) e ≡ Some m → IsVirtual m
  impl_virtual slot m e h =
      instance_virtual m (method_row_at recs m) refl
      (first_so (is_instance_virtual (method_row_at recs m)) (have_method recs (with_bases recs (open_parent recs e)) m) (impl_body recs e (declares_slot recs slot) m h))

  in_virtual : (slot m : RowAt) (e : TypeExpr) → slot_in recs slot e ≡ Some m → IsVirtual m
  in_virtual slot m e h = let f = first_home recs (has_slot recs slot) m (home_of recs e) (sym (slot_is recs slot e) ∙ h) in slotted_virtual slot m (slot_of recs m) refl f.3

  class_in_virtual : (slot m : RowAt) (e : TypeExpr) → class_method_in recs slot e ≡ Some m → IsVirtual m
  class_in_virtual slot m e h = elim (or_is (impl_in recs (declares_slot recs slot) e) (slot_in recs slot e) m h) [ inl i ↦ impl_virtual slot m e i | inr i ↦ in_virtual slot m e i ]

  class_virtual : (slot m : RowAt) (e : TypeExpr) → class_dispatch recs e slot ≡ Some m → IsVirtual m
  unfolding class_dispatch
  class_virtual slot m e h = let n = nearest_is (class_method_in recs slot) (with_bases recs e) m h in class_in_virtual slot m n.0 n.2

  then_virtual : (e : TypeExpr) (m : RowAt) (o : Option RowAt) → option_and_then (class_dispatch recs e) o ≡ Some m → IsVirtual m
  then_virtual e m None h = absurd (cc)
  then_virtual e m (Some slot) h = class_virtual slot m e h

  interface_virtual : (slot m : RowAt) (e instance : TypeExpr) → interface_dispatch recs e instance slot ≡ Some m → IsVirtual m
  unfolding interface_dispatch
  interface_virtual slot m e instance h = then_virtual e m (option_and_then (slot_of recs) (interface_method recs e instance slot)) h

  by_slot : (e instance : TypeExpr) (slot m : RowAt) (b : Bool) → (if b then interface_dispatch recs e instance slot else class_dispatch recs e slot) ≡ Some m → IsVirtual m
  by_slot e instance slot m true h = interface_virtual slot m e instance h
  by_slot e instance slot m false h = class_virtual slot m e h

  pub runs_virtual : (e instance : TypeExpr) (m : RowAt) (o : Option RowAt) → option_and_then (dispatch_slot recs e instance) o ≡ Some m → IsVirtual m
  runs_virtual e instance m None h = absurd (cc)
  runs_virtual e instance m (Some slot) h = by_slot e instance slot m (in_interface recs slot) h
