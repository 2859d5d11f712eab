-- What answers name is kept: cells of kept types, and what a virtual call runs with its owner.
use Rattle.std.proofs.Common.{◌≡◌, ℕ, Bool, true, false, ◌&&◌, List, [], ◌∷◌, ◌++◌, Option, Some, None, ◌⊎◌, inl, inr, refl, sym, ap, subst, ◌∙◌}
use Rattle.std.specs.Prelude.{IsTrue, reverse, if◌then◌else◌}
use Rattle.std.specs.List.{list_all, list_any, flat_map}
use Rattle.std.specs.Option.{option_map, option_and_then}
use Rattle.std.specs.Cmp.{first_so, second_so}
use Rattle.std.proofs.lemmas.Bool.{and_from}
use Rattle.std.proofs.lemmas.List.{reverse-append}
use Rattle.il_base.specs.declared.element.TheConstants as element
use Rattle.il_base.specs.declared.ids.MethodId.{MethodId}
use Rattle.il_base.specs.declared.core_table.names.CoreName.TheVariants as core
use Rattle.il_base.specs.declared.world_model.expr.TypeExpr.{TypeExpr}
use Rattle.il_base.specs.declared.world_model.expr.TypeExpr.TheVariants as expr
use Rattle.il_base.specs.declared.world_model.expr.MethodUse.{MethodUse}
use Rattle.il_base.specs.declared.world_model.record.AsmRec.{AsmRec}
use Rattle.rules.specs.declared.link_rules.row_at.RowAt.{RowAt}
use Rattle.rules.specs.link_rules.Members.{args_of, with_bases, home_from, fields_in}
use Rattle.rules.specs.link_rules.Cycles.{listed, same_row, home_of}
use Rattle.rules.specs.type_rules.Slots.{method_home, type_of_method}
use Rattle.rules.specs.type_rules.Dispatch.{dispatch_slot, method_id, dispatch}
use Rattle.base_laws.proofs.lemmas.type_laws.Within.{In, in_parts, in_flat, in_listed}
use Rattle.il_base.specs.declared.cil_values.layout.Layout.{Layout}
use Rattle.il_base.specs.declared.cil_values.layout.Cell.TheVariants.{Field as of_field, Message as message, Inner as inner}
use Rattle.il_base.specs.declared.cil_values.value.Value.{Value}
use Rattle.il_base.specs.declared.cil_values.value.Value.TheVariants as value
use Rattle.il_base.specs.declared.cil_values.definition.FieldDef.{FieldDef}
use Rattle.rules.specs.step_rules.Stores.{zero_shape}
use Rattle.rules.specs.view_rules.Layouts as view
use Rattle.rules.specs.view_rules.Methods.{field_at, field_query}
use Rattle.rules.specs.view_rules.Answers.{core_type_id, owner_among, found_owner, with_owner, answers_query}
use Rattle.rules.specs.change_rules.Change.{Change}
use Rattle.rules.specs.change_rules.Keeping.{keep}
use Rattle.rules.specs.change_rules.States.{keeps_place, mask}
use Rattle.rules.specs.change_rules.Keeps.{Names, keeps_expr, keeps_value, keeps_layout, can_call, keeps_use, keeps_field}
use Rattle.base_laws.proofs.lemmas.change_laws.Subst.{names_prim, names_def}
use Rattle.base_laws.proofs.lemmas.change_laws.Values.{keeps_null}
use Rattle.rules.specs.world_change_rules.Places.{Places, method_number, keeps_field_row}
use Rattle.rules.specs.world_change_rules.Rows.{RowsMove}
use Rattle.rules.specs.world_change_rules.Kept.{KeepsRows}
use Rattle.run_laws.proofs.lemmas.query_laws.Homes.{args_shown}
use Rattle.run_laws.proofs.lemmas.query_laws.Lookups.{field_row_kept}
use Rattle.run_laws.proofs.lemmas.query_laws.Wholes.{with_bases_kept}
use Rattle.run_laws.proofs.lemmas.query_laws.Covered.{layout_kept, shape_kept}
use Rattle.run_laws.specs.dispatch_laws.Kept.{slot_numbered}

-- ---- lists

in_reversed_by : {A : Type 0} (y x : A) (xs : List A) → (In y (reverse xs) → In y xs) → In y (reverse xs) ⊎ In y (x ∷ []) → In y (x ∷ xs)
in_reversed_by y x xs more (inl i) = inr (more i)
in_reversed_by y x xs more (inr (inl e)) = inl e
in_reversed_by y x xs more (inr (inr i)) = absurd i

in_reversed : {A : Type 0} (y : A) (xs : List A) → In y (reverse xs) → In y xs
in_reversed y [] i = i
in_reversed y (x ∷ xs) i =
    in_reversed_by y x xs (in_reversed y xs) (in_parts y (reverse xs) (x ∷ []) (subst (λ zs. In y zs) (reverse-append (x ∷ []) xs) i))

all_in : {A : Type 0} (p : A → Bool) (y : A) (xs : List A) → IsTrue (list_all p xs) → In y xs → IsTrue (p y)
all_in p y [] h i = absurd i
all_in p y (x ∷ xs) h (inl e) = ap p e ∙ first_so (p x) (list_all p xs) h
all_in p y (x ∷ xs) h (inr i) = all_in p y xs (second_so (p x) (list_all p xs) h) i

module _ (k : Change) (kept : RowAt → Bool) (p : Places) (after before : List AsmRec) (r : RowsMove k kept p after before) (keeps : KeepsRows k.keep kept before)
    (exception : IsTrue (k.keep.typ (core_type_id before core.Exception))) where
  -- ---- cells

  stay_by : (l : Layout) (ls : List Layout) (b : Bool) → keeps_place k.keep l ≡ b → (IsTrue (keeps_place k.keep l) → IsTrue (keeps_layout k.keep l)) → IsTrue (list_all (keeps_layout k.keep) (keep (mask k.keep ls) ls))
      → IsTrue (list_all (keeps_layout k.keep) (keep (b ∷ mask k.keep ls) (l ∷ ls)))
  unfolding keep
  stay_by l ls true is h more = and_from (keeps_layout k.keep l) (list_all (keeps_layout k.keep) (keep (mask k.keep ls) ls)) (h is) more
  stay_by l ls false is h more = more

  stay_all : (ls : List Layout) → ((l : Layout) → In l ls → IsTrue (keeps_place k.keep l) → IsTrue (keeps_layout k.keep l)) → IsTrue (list_all (keeps_layout k.keep) (keep (mask k.keep ls) ls))
  unfolding keep
  stay_all [] h = refl
  stay_all (l ∷ ls) h = stay_by l ls (keeps_place k.keep l) refl (h l (inl refl)) (stay_all ls (λ m i. h m (inr i)))

  -- a cell of a field stays where the field is kept
  laid_place : (f : RowAt) (l : Layout) (o : Option TypeExpr) → option_and_then (view.layout_by before (view.shape_query before) f) o ≡ Some l → keeps_place k.keep l ≡ keeps_field_row k.keep before f
  laid_place f l None e = absurd (cc)
  laid_place f l (Some c) e = by_zero (zero_shape c (view.shape_query before c)) e
    where
      by_zero : (o : Option Value) → option_map (λ v. record { cell = of_field (view.field_number before f); typ = c; zero = v }) o ≡ Some l → keeps_place k.keep l ≡ keeps_field_row k.keep before f
      by_zero None u = absurd (cc)
      by_zero (Some v) u = let same : record { cell = of_field (view.field_number before f); typ = c; zero = v } ≡ l = cc in sym (ap (keeps_place k.keep) same)

  own_kept : (e : TypeExpr) (l : Layout) → IsTrue (keeps_expr k.keep e) → In l (view.own_cells before e) → IsTrue (keeps_place k.keep l) → IsTrue (keeps_layout k.keep l)
  own_kept e l h i place =
      let at = in_flat (λ at. flat_map (λ f. listed (view.layout_of before (view.shape_query before) (args_of e) f)) (view.instance_fields before at)) l (listed (home_of before e)) i in
      let f = in_flat (λ f. listed (view.layout_of before (view.shape_query before) (args_of e) f)) l (view.instance_fields before at.0) at.2 in
      let is = in_listed l (view.layout_of before (view.shape_query before) (args_of e) f.0) f.2 in
      layout_kept k kept p after before r keeps (view.shape_query before) (λ d g. shape_kept k kept p after before r keeps d g) (args_of e) (args_shown k.keep e h) f.0 l
      (sym (laid_place f.0 l (view.cell_type before (args_of e) f.0) is) ∙ place) is

  prim_kept : IsTrue (keeps_expr k.keep (expr.Prim element.STRING))
  prim_kept = ap (λ (n : Names). n.kept) (names_prim k.keep element.STRING)

  exception_kept : IsTrue (keeps_expr k.keep (view.core_expr before core.Exception))
  exception_kept = ap (λ (n : Names). n.kept) (names_def k.keep (record { 0 = core_type_id before core.Exception })) ∙ exception

  null_cell : (l : Layout) → IsTrue (keeps_place k.keep l) → IsTrue (keeps_expr k.keep l.typ) → value.Null ≡ l.zero → IsTrue (keeps_layout k.keep l)
  null_cell l h g e =
      and_from (keeps_place k.keep l && keeps_expr k.keep l.typ) (keeps_value k.keep l.zero) (and_from (keeps_place k.keep l) (keeps_expr k.keep l.typ) h g) (ap (keeps_value k.keep) (sym e) ∙ keeps_null k.keep)

  exception_cells_kept : (l : Layout) → In l (view.exception_cells before) → IsTrue (keeps_layout k.keep l)
  exception_cells_kept l (inl e) = subst (λ (x : Layout). IsTrue (keeps_layout k.keep x)) (sym e) (null_cell (record { cell = message; typ = expr.Prim element.STRING; zero = value.Null }) refl prim_kept refl)
  exception_cells_kept l (inr (inl e)) = subst (λ (x : Layout). IsTrue (keeps_layout k.keep x)) (sym e) (null_cell (record { cell = inner; typ = view.core_expr before core.Exception; zero = value.Null }) refl exception_kept refl)
  exception_cells_kept l (inr (inr i)) = absurd i

  exceptions_if : (b : Bool) (l : Layout) → In l (if b then view.exception_cells before else []) → IsTrue (keeps_layout k.keep l)
  exceptions_if true l i = exception_cells_kept l i
  exceptions_if false l i = absurd i

  cell_by : (e : TypeExpr) (b : Bool) (l : Layout) → IsTrue (keeps_expr k.keep e)
      → In l (if b then view.exception_cells before else []) ⊎ In l (flat_map (view.own_cells before) (reverse (with_bases before e))) → IsTrue (keeps_place k.keep l) → IsTrue (keeps_layout k.keep l)
  cell_by e b l h (inl i) place = exceptions_if b l i
  cell_by e b l h (inr i) place =
      let m = in_flat (view.own_cells before) l (reverse (with_bases before e)) i in
      own_kept m.0 l (all_in (keeps_expr k.keep) m.0 (with_bases before e) (with_bases_kept k kept p after before r keeps e h) (in_reversed m.0 (with_bases before e) m.1)) m.2 place

  pub cells_kept : (e : TypeExpr) → IsTrue (keeps_expr k.keep e) → IsTrue (list_all (keeps_layout k.keep) (keep (mask k.keep (view.cells_query before e)) (view.cells_query before e)))
  unfolding view.cells_query
  cells_kept e h =
      let b : Bool = list_any (view.is_exception before) (with_bases before e) in
      let own : List Layout = flat_map (view.own_cells before) (reverse (with_bases before e)) in
      stay_all ((if b then view.exception_cells before else []) ++ own) (λ l i. cell_by e b l h (in_parts l (if b then view.exception_cells before else []) own i))

  -- ---- fields

  field_by : (o : Option RowAt) (d : FieldDef) → ((at : RowAt) → o ≡ Some at → IsTrue (keeps_field_row k.keep before at)) → option_and_then (field_at before) o ≡ Some d → IsTrue (keeps_field k.keep d)
  field_by None d h e = absurd (cc)
  field_by (Some at) d h e = keeps.field_types at d (h at refl) e

  pub fields_kept : (f : ℕ) (d : FieldDef) → IsTrue (k.keep.field f) → field_query before f ≡ Some d → IsTrue (keeps_field k.keep d)
  unfolding field_query
  fields_kept f d h e = field_by (home_from fields_in 0 before f) d (λ at is. field_row_kept k kept p after before r f at h is) e

  -- ---- what a virtual call runs

  among_by : (x : RowAt) (e o : TypeExpr) (later : Option TypeExpr) (b : Bool) → IsTrue (keeps_expr k.keep e) → (later ≡ Some o → IsTrue (keeps_expr k.keep o)) → (if b then Some e else later) ≡ Some o
      → IsTrue (keeps_expr k.keep o)
  among_by x e o later true h more is = let same : e ≡ o = cc in ap (keeps_expr k.keep) (sym same) ∙ h
  among_by x e o later false h more is = more is

  among_kept : (x : RowAt) (es : List TypeExpr) (o : TypeExpr) → IsTrue (list_all (keeps_expr k.keep) es) → owner_among before x es ≡ Some o → IsTrue (keeps_expr k.keep o)
  among_kept x [] o h is = absurd (cc)
  among_kept x (e ∷ es) o h is =
      among_by x e o (owner_among before x es) (list_any (same_row x) (listed (home_of before e))) (first_so (keeps_expr k.keep e) (list_all (keeps_expr k.keep) es) h)
      (λ it. among_kept x es o (second_so (keeps_expr k.keep e) (list_all (keeps_expr k.keep) es) h) it) is

  found_by : (e o : TypeExpr) → IsTrue (keeps_expr k.keep e) → (x : Option RowAt) → option_and_then (λ owner. owner_among before owner (with_bases before e)) x ≡ Some o → IsTrue (keeps_expr k.keep o)
  found_by e o h None is = absurd (cc)
  found_by e o h (Some x) is = among_kept x (with_bases before e) o (with_bases_kept k kept p after before r keeps e h) is

  use_by : (n : MethodId) (u : MethodUse) (o : Option TypeExpr) → ((x : TypeExpr) → o ≡ Some x → IsTrue (keeps_expr k.keep x)) → IsTrue (can_call k.keep n.0)
      → option_map (λ owner. record { method = n; owner = owner; args = [] }) o ≡ Some u → IsTrue (keeps_use k.keep u)
  use_by n u None h g is = absurd (cc)
  use_by n u (Some x) h g is =
      let made : MethodUse = record { method = n; owner = x; args = [] } in
      let same : made ≡ u = cc in
      subst (λ (v : MethodUse). IsTrue (keeps_use k.keep v)) same (and_from (can_call k.keep n.0 && keeps_expr k.keep x) true (and_from (can_call k.keep n.0) (keeps_expr k.keep x) g (h x refl)) refl)

  answer_by : (e : TypeExpr) (u : MethodUse) → IsTrue (keeps_expr k.keep e) → (o : Option RowAt) → ((f : RowAt) → o ≡ Some f → IsTrue (can_call k.keep (method_number before f)))
      → option_and_then (with_owner before e) (option_map (method_id before) o) ≡ Some u → IsTrue (keeps_use k.keep u)
  answer_by e u h None g is = absurd (cc)
  answer_by e u h (Some f) g is =
      use_by (method_id before f) u (found_owner before e (method_id before f)) (λ x it. found_by e x h (option_and_then (type_of_method before) (method_home before (method_id before f))) it) (g f refl) is

  pub answers_kept : (e owner : TypeExpr) (m : ℕ) (u : MethodUse) → IsTrue (keeps_expr k.keep e)
      → ((f : RowAt) → option_and_then (dispatch_slot before e owner) (slot_numbered before m) ≡ Some f → IsTrue (can_call k.keep (method_number before f)))
      → answers_query before e owner m ≡ Some u → IsTrue (keeps_use k.keep u)
  unfolding answers_query dispatch
  answers_kept e owner m u h g is = answer_by e u h (option_and_then (dispatch_slot before e owner) (slot_numbered before m)) g is
