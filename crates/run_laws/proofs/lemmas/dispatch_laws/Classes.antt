-- What a class slot is answered with moves with the slot (II.10.3, II.12.2).
use Rattle.std.proofs.Common.{◌≡◌, ℕ, Bool, true, false, List, [], ◌∷◌, map, Option, Some, None, refl, sym, ap, subst, ◌∙◌}
use Rattle.std.specs.Prelude.{IsTrue, slice_get, ◌||◌, if◌then◌else◌}
use Rattle.std.specs.List.{flat_map, list_any, list_all}
use Rattle.std.specs.Option.{option_map, option_and_then}
use Rattle.std.specs.Cmp.{first_so, second_so}
use Rattle.std.proofs.lemmas.List.{append-nil}
use Rattle.il_base.specs.declared.world_model.expr.TypeExpr.{TypeExpr}
use Rattle.il_base.specs.declared.world_model.expr.MethodUse.{MethodUse}
use Rattle.il_base.specs.declared.world_model.types.TypeDefRow.{TypeDefRow}
use Rattle.il_base.specs.declared.world_model.members.MethodDefRow.{MethodDefRow}
use Rattle.il_base.specs.declared.world_model.record.AsmRec.{AsmRec}
use Rattle.rules.specs.declared.link_rules.row_at.RowAt.{RowAt}
use Rattle.rules.specs.link_rules.Types.{at_row, or_else}
use Rattle.rules.specs.link_rules.Members.{methods_in, with_bases}
use Rattle.rules.specs.link_rules.Cycles.{listed, home_of}
use Rattle.rules.specs.type_rules.Rows.{methods_of_type, run_places}
use Rattle.rules.specs.type_rules.Slots.{method_row_at, method_home, nearest, has_slot}
use Rattle.rules.specs.type_rules.Dispatch.{declares_slot, place_that, slot_in_run, slot_in, impl_in, class_method_in, class_dispatch}
use Rattle.base_laws.specs.walk_laws.Walks.{BasesWhole, SlotsWhole}
use Rattle.rules.specs.change_rules.Change.{Change}
use Rattle.rules.specs.change_rules.Moves.{move_expr, move_exprs, move_use}
use Rattle.rules.specs.change_rules.Keeps.{keeps_expr}
use Rattle.rules.specs.world_change_rules.Places.{Places, keeps_type_row, keeps_method_row}
use Rattle.rules.specs.world_change_rules.Rows.{RowsMove}
use Rattle.rules.specs.world_change_rules.Kept.{KeepsRows}
use Rattle.run_laws.specs.query_laws.Laws.{first_at}
use Rattle.run_laws.proofs.lemmas.query_laws.Ids.{has_number}
use Rattle.run_laws.proofs.lemmas.query_laws.Homes.{home_moved, home_kept}
use Rattle.run_laws.proofs.lemmas.query_laws.Wholes.{with_bases_kept, with_bases_moved}
use Rattle.run_laws.proofs.lemmas.query_laws.Runs.{first_moved}
use Rattle.run_laws.specs.dispatch_laws.Kept.{Apart, KeepsImpls}
use Rattle.run_laws.proofs.lemmas.dispatch_laws.Standing.{has_slot_moved}
use Rattle.run_laws.proofs.lemmas.dispatch_laws.Impls.{impl_in_moved}

-- ---- the first method of a type with a slot is the first of its methods

module _ (recs : List AsmRec) (slot : RowAt) where
  place_step : (a : ℕ) (T : RowAt → Bool) (n : ℕ) (ns : List ℕ) (b : Bool) → option_map (at_row a) (place_that (λ j. T (at_row a j)) ns) ≡ first_at T (map (at_row a) ns)
      → option_map (at_row a) (if b then Some n else place_that (λ j. T (at_row a j)) ns) ≡ (if b then Some (at_row a n) else first_at T (map (at_row a) ns))
  place_step a T n ns true again = refl
  place_step a T n ns false again = again

  places_are : (a : ℕ) (T : RowAt → Bool) (ns : List ℕ) → option_map (at_row a) (place_that (λ j. T (at_row a j)) ns) ≡ first_at T (map (at_row a) ns)
  places_are a T [] = refl
  places_are a T (n ∷ ns) = place_step a T n ns (T (at_row a n)) (places_are a T ns)

  row_by : (at : RowAt) (rec : AsmRec) (o : Option TypeDefRow)
      → option_and_then (slot_in_run recs slot at rec) o
      ≡ first_at (has_slot recs slot) (flat_map (λ (t : TypeDefRow). map (at_row at.asm) (run_places t.method_list_first t.method_list_end rec.method_def)) (listed o))
  row_by at rec None = refl
  row_by at rec (Some t) =
      places_are at.asm (has_slot recs slot) (run_places t.method_list_first t.method_list_end rec.method_def)
      ∙ ap (first_at (has_slot recs slot)) (sym (append-nil (map (at_row at.asm) (run_places t.method_list_first t.method_list_end rec.method_def))))

  rec_by : (at : RowAt) (o : Option AsmRec)
      → option_and_then (λ (rec : AsmRec). option_and_then (slot_in_run recs slot at rec) (slice_get rec.type_def at.row)) o
      ≡ first_at (has_slot recs slot)
      (flat_map (λ (rec : AsmRec). flat_map (λ (t : TypeDefRow). map (at_row at.asm) (run_places t.method_list_first t.method_list_end rec.method_def)) (listed (slice_get rec.type_def at.row))) (listed o))
  rec_by at None = refl
  rec_by at (Some rec) =
      row_by at rec (slice_get rec.type_def at.row)
      ∙ ap (first_at (has_slot recs slot))
      (sym (append-nil (flat_map (λ (t : TypeDefRow). map (at_row at.asm) (run_places t.method_list_first t.method_list_end rec.method_def)) (listed (slice_get rec.type_def at.row)))))

  home_by : (o : Option RowAt)
      → option_and_then (λ (at : RowAt). option_and_then (λ (rec : AsmRec). option_and_then (slot_in_run recs slot at rec) (slice_get rec.type_def at.row)) (slice_get recs at.asm)) o
      ≡ option_and_then (λ (at : RowAt). first_at (has_slot recs slot) (methods_of_type recs at)) o
  unfolding methods_of_type
  home_by None = refl
  home_by (Some at) = rec_by at (slice_get recs at.asm)

  pub slot_is : (e : TypeExpr) → slot_in recs slot e ≡ option_and_then (λ (at : RowAt). first_at (has_slot recs slot) (methods_of_type recs at)) (home_of recs e)
  unfolding slot_in
  slot_is e = home_by (home_of recs e)

-- ---- kept slots

module _ (k : Change) (kept : RowAt → Bool) (p : Places) (after before : List AsmRec) (r : RowsMove k kept p after before) (keeps : KeepsRows k.keep kept before)
    (apart : Apart k.keep p before) (impls : KeepsImpls k.keep before) (later : BasesWhole after) (earlier : BasesWhole before) (whole_after : SlotsWhole after) (whole_before : SlotsWhole before)
    (slot : RowAt) (kept_slot : IsTrue (keeps_method_row k.keep before slot)) (m : MethodDefRow) (there : method_row_at before slot ≡ Some m) where
  abbrev KeepsMethod : RowAt → Type 0
  KeepsMethod at = IsTrue (keeps_method_row k.keep before at)

  abbrev Alike : RowAt → Type 0
  Alike at = has_slot after (p.method slot) (p.method at) ≡ has_slot before slot at

  alike : (at : RowAt) → KeepsMethod at → Alike at
  alike at h = has_slot_moved k kept p after before r keeps apart later earlier whole_after whole_before slot kept_slot m there at h

  slot_at : (o : Option RowAt) → ((at : RowAt) → o ≡ Some at → IsTrue (keeps_type_row k.keep before at))
      → ((f : RowAt) → option_and_then (λ (at : RowAt). first_at (has_slot before slot) (methods_of_type before at)) o ≡ Some f → KeepsMethod f)
      → option_and_then (λ (at : RowAt). first_at (has_slot after (p.method slot)) (methods_of_type after at)) (option_map p.typ o)
      ≡ option_map p.method (option_and_then (λ (at : RowAt). first_at (has_slot before slot) (methods_of_type before at)) o)
  slot_at None h g = refl
  slot_at (Some at) h g =
      ap (first_at (has_slot after (p.method slot))) ((r.types at (h at refl)).methods)
      ∙ first_moved p.method (keeps_method_row k.keep before) (has_slot before slot) (has_slot after (p.method slot)) (λ x u. alike x u) (methods_of_type before at) g

  slot_in_moved : (e : TypeExpr) → IsTrue (keeps_expr k.keep e) → ((f : RowAt) → slot_in before slot e ≡ Some f → KeepsMethod f)
      → slot_in after (p.method slot) (move_expr k.rho e) ≡ option_map p.method (slot_in before slot e)
  slot_in_moved e h g =
      slot_is after (p.method slot) (move_expr k.rho e)
      ∙ ap (option_and_then (λ (at : RowAt). first_at (has_slot after (p.method slot)) (methods_of_type after at))) (home_moved k kept p after before r keeps e h)
      ∙ slot_at (home_of before e) (λ at is. home_kept k kept p after before r keeps e at h is) (λ f is. g f (slot_is before slot e ∙ is))
      ∙ sym (ap (option_map p.method) (slot_is before slot e))

  -- ---- declarations

  pub declares_by : (o : Option RowAt) → ((at : RowAt) → o ≡ Some at → KeepsMethod at)
      → list_any (has_slot after (p.method slot)) (listed (option_map p.method o)) ≡ list_any (has_slot before slot) (listed o)
  declares_by None h = refl
  declares_by (Some at) h = ap (λ (b : Bool). b || false) (alike at (h at refl))

  pub declares_moved : (d : MethodUse) → IsTrue (k.keep.method d.method.0) → declares_slot after (p.method slot) (move_use k.rho d) ≡ declares_slot before slot d
  declares_moved d h =
      ap (λ (o : Option RowAt). list_any (has_slot after (p.method slot)) (listed o)) (r.places.method_homes d.method.0 h)
      ∙ declares_by (method_home before d.method) (λ at e. subst (λ (n : ℕ). IsTrue (k.keep.method n)) (sym (has_number methods_in before d.method.0 at e)) h)

  -- ---- one type, and a type with its bases

  pub or_moved : (x y x' y' : Option RowAt) → x' ≡ option_map p.method x → (x ≡ None → y' ≡ option_map p.method y) → or_else x' y' ≡ option_map p.method (or_else x y)
  or_moved None y x' y' e h = ap (λ o. or_else o y') e ∙ h refl
  or_moved (Some a) y x' y' e h = ap (λ o. or_else o y') e

  class_method_moved : (e : TypeExpr) → IsTrue (keeps_expr k.keep e) → ((f : RowAt) → class_method_in before slot e ≡ Some f → KeepsMethod f)
      → class_method_in after (p.method slot) (move_expr k.rho e) ≡ option_map p.method (class_method_in before slot e)
  class_method_moved e h g =
      or_moved (impl_in before (declares_slot before slot) e) (slot_in before slot e) (impl_in after (declares_slot after (p.method slot)) (move_expr k.rho e)) (slot_in after (p.method slot) (move_expr k.rho e))
      (impl_in_moved k kept p after before r keeps apart later earlier e h (declares_slot after (p.method slot)) (declares_slot before slot) declares_moved impls
      (λ f is. g f (ap (λ o. or_else o (slot_in before slot e)) is)))
      (λ none. slot_in_moved e h (λ f is. g f (ap (λ o. or_else o (slot_in before slot e)) none ∙ is)))

  nearest_moved : (es : List TypeExpr) → IsTrue (list_all (keeps_expr k.keep) es) → ((f : RowAt) → nearest (class_method_in before slot) es ≡ Some f → KeepsMethod f)
      → nearest (class_method_in after (p.method slot)) (move_exprs k.rho es) ≡ option_map p.method (nearest (class_method_in before slot) es)
  unfolding nearest
  nearest_moved [] h g = refl
  nearest_moved (e ∷ es) h g =
      or_moved (class_method_in before slot e) (nearest (class_method_in before slot) es) (class_method_in after (p.method slot) (move_expr k.rho e)) (nearest (class_method_in after (p.method slot)) (move_exprs k.rho es))
      (class_method_moved e (first_so (keeps_expr k.keep e) (list_all (keeps_expr k.keep) es) h) (λ f is. g f (ap (λ o. or_else o (nearest (class_method_in before slot) es)) is)))
      (λ none. nearest_moved es (second_so (keeps_expr k.keep e) (list_all (keeps_expr k.keep) es) h) (λ f is. g f (ap (λ o. or_else o (nearest (class_method_in before slot) es)) none ∙ is)))

  pub class_moved : (e : TypeExpr) → IsTrue (keeps_expr k.keep e) → ((f : RowAt) → class_dispatch before e slot ≡ Some f → KeepsMethod f)
      → class_dispatch after (move_expr k.rho e) (p.method slot) ≡ option_map p.method (class_dispatch before e slot)
  unfolding class_dispatch
  class_moved e h g =
      ap (nearest (class_method_in after (p.method slot))) (with_bases_moved k kept p after before r keeps later earlier e h)
      ∙ nearest_moved (with_bases before e) (with_bases_kept k kept p after before r keeps e h) g
