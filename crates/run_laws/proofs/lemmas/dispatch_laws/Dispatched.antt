-- What a virtual call finds is a row.
use Rattle.std.proofs.Common.{◌≡◌, ℕ, suc, ◌-◌, Bool, true, false, List, [], ◌∷◌, length, Option, Some, None, refl, subst}
use Rattle.std.specs.Prelude.{◌&&◌, ◌==◌, if◌then◌else◌}
use Rattle.std.specs.List.{range_with_len}
use Rattle.std.specs.Option.{option_map, option_and_then}
use Rattle.il_base.specs.declared.table.TheConstants.{TYPE_DEF}
use Rattle.il_base.specs.declared.world_model.expr.TypeExpr.{TypeExpr}
use Rattle.il_base.specs.declared.world_model.expr.MethodUse.{MethodUse}
use Rattle.il_base.specs.declared.world_model.members.MethodDefRow.{MethodDefRow}
use Rattle.il_base.specs.declared.world_model.members.MethodImplRow.{MethodImplRow}
use Rattle.il_base.specs.declared.world_model.record.AsmRec.{AsmRec}
use Rattle.il_base.specs.world_model.Tokens.{token_of}
use Rattle.rules.specs.declared.link_rules.row_at.RowAt.{RowAt}
use Rattle.rules.specs.link_rules.Types.{at_row, or_else}
use Rattle.rules.specs.link_rules.Members.{with_bases, open_parent, run_of, type_count, generic_method}
use Rattle.rules.specs.type_rules.Slots.{method_row_at, method_home, slot_within, slot_of, slot_of_row, is_slot, has_slot}
use Rattle.rules.specs.type_rules.Dispatch.{good_use, have_method, is_instance_virtual, is_body, body_at, impl_body, impl_of_row, first_impl, impl_in_row, impl_in, declares_slot, place_that, slot_in_run, slot_in, class_method_in, class_dispatch, in_interface, interface_method, interface_dispatch, dispatch_slot}
use Rattle.base_laws.proofs.lemmas.walk_laws.Finds.{nearest_is, defined}
use Rattle.run_laws.proofs.lemmas.dispatch_laws.There.{IsMethodThere}

some_of : {A : Type 0} (x y : A) → Some x ≡ Some y → x ≡ y
some_of x y e = cc

module _ (recs : List AsmRec) where
  -- ---- a method with a slot

  row_by : (f : RowAt) (o : Option MethodDefRow) → method_row_at recs f ≡ o → (look : MethodDefRow → Option RowAt) (s : RowAt) → option_and_then look o ≡ Some s → IsMethodThere recs f
  row_by f None e look s h = absurd (cc)
  row_by f (Some m) e look s h = (m, e)

  slot_there : (f s : RowAt) → slot_of recs f ≡ Some s → IsMethodThere recs f
  unfolding slot_of slot_within
  slot_there f s h = row_by f (method_row_at recs f) refl (slot_of_row recs (slot_within recs (type_count recs)) f) s h

  has_by : (f slot : RowAt) (o : Option RowAt) → slot_of recs f ≡ o → is_slot o slot ≡ true → IsMethodThere recs f
  has_by f slot None e h = absurd (cc)
  has_by f slot (Some s) e h = slot_there f s e

  place_by : (a k : ℕ) (slot f : RowAt) (rest : Option ℕ) (b : Bool) → has_slot recs slot (at_row a k) ≡ b → (option_map (at_row a) rest ≡ Some f → IsMethodThere recs f)
      → option_map (at_row a) (if b then Some k else rest) ≡ Some f → IsMethodThere recs f
  place_by a k slot f rest true t more h = subst (IsMethodThere recs) (some_of (at_row a k) f h) (has_by (at_row a k) slot (slot_of recs (at_row a k)) refl t)
  place_by a k slot f rest false t more h = more h

  placed_by : (a : ℕ) (slot f : RowAt) (ks : List ℕ) → option_map (at_row a) (place_that (λ k. has_slot recs slot (at_row a k)) ks) ≡ Some f → IsMethodThere recs f
  placed_by a slot f [] h = absurd (cc)
  placed_by a slot f (k ∷ ks) h =
      place_by a k slot f (place_that (λ k. has_slot recs slot (at_row a k)) ks) (has_slot recs slot (at_row a k)) refl (placed_by a slot f ks) h

  in_slot_there : (slot : RowAt) (e : TypeExpr) (f : RowAt) → slot_in recs slot e ≡ Some f → IsMethodThere recs f
  unfolding slot_in
  in_slot_there slot e f h =
      let d = defined recs (slot_in_run recs slot) e f h in
      placed_by d.home.asm slot f (range_with_len (d.row.method_list_first - 1) (length (run_of d.row.method_list_first d.row.method_list_end d.rec.method_def))) d.found

  -- ---- a body of a MethodImpl row

  virtual_by : (at : RowAt) (o : Option MethodDefRow) (b : Bool) → method_row_at recs at ≡ o → (is_instance_virtual o && b) ≡ true → IsMethodThere recs at
  virtual_by at None b e h = absurd (cc)
  virtual_by at (Some m) b e h = (m, e)

  body_by : (t : TypeExpr) (at f : RowAt) (b : Bool) → is_body recs t at ≡ b → (if b then Some at else None) ≡ Some f → IsMethodThere recs f
  body_by t at f true e h = subst (IsMethodThere recs) (some_of at f h) (virtual_by at (method_row_at recs at) (have_method recs (with_bases recs (open_parent recs t)) at) refl e)
  body_by t at f false e h = absurd (cc)

  body_there : (t : TypeExpr) (o : Option RowAt) (f : RowAt) → option_and_then (body_at recs t) o ≡ Some f → IsMethodThere recs f
  body_there t None f h = absurd (cc)
  body_there t (Some at) f h = body_by t at f (is_body recs t at) refl h

  impl_by : (t : TypeExpr) (body : MethodUse) (f : RowAt) (b : Bool) → (if b then option_and_then (body_at recs t) (method_home recs body.method) else None) ≡ Some f → IsMethodThere recs f
  impl_by t body f true h = body_there t (method_home recs body.method) f h
  impl_by t body f false h = absurd (cc)

  uses_by : (t : TypeExpr) (declares : MethodUse → Bool) (f : RowAt) (d b : Option MethodUse) → option_and_then (λ (x : MethodUse). option_and_then (impl_body recs t declares x) b) d ≡ Some f → IsMethodThere recs f
  uses_by t declares f None b h = absurd (cc)
  uses_by t declares f (Some x) None h = absurd (cc)
  uses_by t declares f (Some x) (Some y) h = impl_by t y f (declares x) h

  row_there : (t : TypeExpr) (declares : MethodUse → Bool) (at : RowAt) (rec : AsmRec) (row : MethodImplRow) (f : RowAt) (b : Bool)
      → (if b then option_and_then (λ (x : MethodUse). option_and_then (impl_body recs t declares x) (good_use (generic_method recs at.asm rec row.body))) (good_use (generic_method recs at.asm rec row.declaration)) else None) ≡ Some f
      → IsMethodThere recs f
  row_there t declares at rec row f true h = uses_by t declares f (good_use (generic_method recs at.asm rec row.declaration)) (good_use (generic_method recs at.asm rec row.body)) h
  row_there t declares at rec row f false h = absurd (cc)

  either_there : (f : RowAt) (first rest : Option RowAt) → (first ≡ Some f → IsMethodThere recs f) → (rest ≡ Some f → IsMethodThere recs f) → or_else first rest ≡ Some f → IsMethodThere recs f
  either_there f None rest here more h = more h
  either_there f (Some x) rest here more h = here h

  first_there : (t : TypeExpr) (declares : MethodUse → Bool) (at : RowAt) (rec : AsmRec) (rows : List MethodImplRow) (f : RowAt) → first_impl (impl_of_row recs t declares at rec) rows ≡ Some f → IsMethodThere recs f
  first_there t declares at rec [] f h = absurd (cc)
  first_there t declares at rec (row ∷ rows) f h =
      either_there f (impl_of_row recs t declares at rec row) (first_impl (impl_of_row recs t declares at rec) rows)
      (λ e. row_there t declares at rec row f (row.class == token_of TYPE_DEF (suc at.row)) e) (first_there t declares at rec rows f) h

  in_impl_there : (declares : MethodUse → Bool) (t : TypeExpr) (f : RowAt) → impl_in recs declares t ≡ Some f → IsMethodThere recs f
  unfolding impl_in
  in_impl_there declares t f h =
      let d = defined recs (impl_in_row recs t declares) t f h in
      first_there t declares d.home d.rec d.rec.method_impl f d.found

  -- ---- a virtual call

  class_there : (e : TypeExpr) (slot f : RowAt) → class_dispatch recs e slot ≡ Some f → IsMethodThere recs f
  unfolding class_dispatch
  class_there e slot f h =
      let n = nearest_is (class_method_in recs slot) (with_bases recs e) f h in
      either_there f (impl_in recs (declares_slot recs slot) n.0) (slot_in recs slot n.0) (in_impl_there (declares_slot recs slot) n.0 f) (in_slot_there slot n.0 f) n.2

  any_there : (e : TypeExpr) (o : Option RowAt) (f : RowAt) → option_and_then (class_dispatch recs e) o ≡ Some f → IsMethodThere recs f
  any_there e None f h = absurd (cc)
  any_there e (Some s) f h = class_there e s f h

  interface_there : (e owner : TypeExpr) (slot f : RowAt) → interface_dispatch recs e owner slot ≡ Some f → IsMethodThere recs f
  unfolding interface_dispatch
  interface_there e owner slot f h = any_there e (option_and_then (slot_of recs) (interface_method recs e owner slot)) f h

  test_there : (e owner : TypeExpr) (slot f : RowAt) (b : Bool) → (if b then interface_dispatch recs e owner slot else class_dispatch recs e slot) ≡ Some f → IsMethodThere recs f
  test_there e owner slot f true h = interface_there e owner slot f h
  test_there e owner slot f false h = class_there e slot f h

  pub dispatched_there : (e owner : TypeExpr) (o : Option RowAt) (f : RowAt) → option_and_then (dispatch_slot recs e owner) o ≡ Some f → IsMethodThere recs f
  dispatched_there e owner None f h = absurd (cc)
  dispatched_there e owner (Some slot) f h = test_there e owner slot f (in_interface recs slot) h
