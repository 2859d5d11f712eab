-- What shapes and cells of kept types name is kept, and value types that are kept are made.
use Rattle.std.proofs.Common.{◌≡◌, ℕ, zero, suc, Bool, true, false, ◌&&◌, List, [], ◌∷◌, map, Option, Some, None, refl, subst, ◌∙◌}
use Rattle.std.specs.Prelude.{IsTrue, if◌then◌else◌, not, ◌==◌, ◌||◌}
use Rattle.std.specs.List.{list_all}
use Rattle.std.specs.Option.{option_map, option_and_then}
use Rattle.std.specs.Cmp.{first_so, second_so}
use Rattle.std.proofs.lemmas.Bool.{and_from}
use Rattle.il_base.specs.declared.element.TheConstants as element
use Rattle.il_base.specs.declared.core_table.names.CoreName.TheVariants as core
use Rattle.il_base.specs.declared.world_model.expr.TypeExpr.{TypeExpr, out-TypeExpr}
use Rattle.il_base.specs.declared.world_model.expr.TypeExpr.TheFolds.{map-TypeExpr}
use Rattle.il_base.specs.declared.world_model.expr.TypeExpr.TheOpen.{TypeExpr-F}
use Rattle.il_base.specs.declared.world_model.record.AsmRec.{AsmRec}
use Rattle.rules.specs.declared.link_rules.row_at.RowAt.{RowAt}
use Rattle.rules.specs.link_rules.Members.{type_home}
use Rattle.rules.specs.link_rules.Cycles.{is_value_type}
use Rattle.rules.specs.type_rules.Rows.{is_enum}
use Rattle.il_base.specs.declared.cil_values.layout.Layout.{Layout}
use Rattle.il_base.specs.declared.cil_values.layout.Shape.{Shape}
use Rattle.il_base.specs.declared.cil_values.layout.Shape.TheVariants.{Reference as reference, Pointer as pointer, Integer as integer, TypeHandle as type_handle, FieldHandle as field_handle, Structure as structure, NoValue as no_value}
use Rattle.il_base.specs.declared.cil_values.layout.Cell.TheVariants.{Field as of_field}
use Rattle.il_base.specs.declared.cil_values.value.Value.{Value}
use Rattle.il_base.specs.declared.cil_values.value.Value.TheVariants as value
use Rattle.rules.specs.step_rules.Closing.{plain}
use Rattle.rules.specs.step_rules.Stores.{zero_shape, zeros_of}
use Rattle.rules.specs.view_rules.Layouts as view
use Rattle.rules.specs.change_rules.Change.{Keep, Change}
use Rattle.rules.specs.change_rules.Keeps.{Names, both, names_layer, names_of, keeps_expr, shows_expr, keeps_value, keeps_values, keeps_layout, keeps_shape}
use Rattle.base_laws.proofs.lemmas.change_laws.Values.{keeps_null, keeps_struct}
use Rattle.run_laws.proofs.lemmas.lock_words.Types.{plain_stays}
use Rattle.run_laws.proofs.lemmas.lock_words.Fits.{number_kept}
use Rattle.rules.specs.world_change_rules.Places.{Places, type_numbered, keeps_type_row, keeps_field_row}
use Rattle.rules.specs.world_change_rules.Rows.{RowsMove}
use Rattle.rules.specs.world_change_rules.Kept.{KeepsRows}
use Rattle.run_laws.proofs.lemmas.query_laws.Homes.{names_out, args_in_shown}
use Rattle.run_laws.proofs.lemmas.query_laws.Lookups.{type_row_kept}
use Rattle.run_laws.proofs.lemmas.query_laws.Shapes.{cell_kept, fields_kept}

module _ (k : Keep) where
  cells_zeros : (ls : List Layout) → IsTrue (list_all (keeps_layout k) ls) → IsTrue (keeps_values k (zeros_of ls))
  cells_zeros [] h = refl
  cells_zeros (l ∷ ls) h =
      let here : IsTrue (keeps_layout k l) = first_so (keeps_layout k l) (list_all (keeps_layout k) ls) h in
      and_from (keeps_value k l.zero) (keeps_values k (zeros_of ls)) (second_so _ (keeps_value k l.zero) here) (cells_zeros ls (second_so (keeps_layout k l) (list_all (keeps_layout k) ls) h))

  struct_kept : (e : TypeExpr) (vs : List Value) → IsTrue (keeps_expr k e) → IsTrue (keeps_values k vs) → IsTrue (keeps_value k (value.Struct e vs))
  struct_kept e vs h g = keeps_struct k e vs ∙ and_from (keeps_expr k e) (keeps_values k vs) h g

  some_is : (v w : Value) → Some v ≡ Some w → IsTrue (keeps_value k v) → IsTrue (keeps_value k w)
  some_is v w e h = let same : v ≡ w = cc in subst (λ (x : Value). IsTrue (keeps_value k x)) same h

  zero_kept : (e : TypeExpr) (s : Shape) (v : Value) → IsTrue (keeps_expr k e) → IsTrue (keeps_shape k s) → zero_shape e s ≡ Some v → IsTrue (keeps_value k v)
  zero_kept e reference v h g is = some_is value.Null v is (keeps_null k)
  zero_kept e pointer v h g is = some_is value.Null v is (keeps_null k)
  zero_kept e (integer code) v h g is = some_is _ v is (number_kept k code _)
  zero_kept e type_handle v h g is = some_is (value.Struct e []) v is (struct_kept e [] h refl)
  zero_kept e field_handle v h g is = some_is (value.Struct e []) v is (struct_kept e [] h refl)
  zero_kept e (structure cells) v h g is = some_is (value.Struct e (zeros_of cells)) v is (struct_kept e (zeros_of cells) h (cells_zeros cells g))
  zero_kept e no_value v h g is = absurd (cc)

  prim_kept : (a b : Bool) (n : ℕ) → IsTrue (keeps_shape k (if a then no_value else if b then reference else integer n))
  prim_kept true b n = refl
  prim_kept false true n = refl
  prim_kept false false n = refl

  number_shape_kept : (s t : Shape) → view.number_shape s ≡ Some t → IsTrue (keeps_shape k t)
  number_shape_kept reference t e = absurd (cc)
  number_shape_kept pointer t e = absurd (cc)
  number_shape_kept (integer n) t e = let same : integer n ≡ t = cc in subst (λ (x : Shape). IsTrue (keeps_shape k x)) same refl
  number_shape_kept type_handle t e = absurd (cc)
  number_shape_kept field_handle t e = absurd (cc)
  number_shape_kept (structure cells) t e = absurd (cc)
  number_shape_kept no_value t e = absurd (cc)

  number_in_kept : (x : TypeExpr-F TypeExpr) (t : Shape) → view.number_in x ≡ Some t → IsTrue (keeps_shape k t)
  number_in_kept (TypeExpr-F.Prim n) t e = number_shape_kept (view.prim_shape n) t e
  number_in_kept (TypeExpr-F.Def i) t e = absurd (cc)
  number_in_kept (TypeExpr-F.Inst i args) t e = absurd (cc)
  number_in_kept (TypeExpr-F.Array x) t e = absurd (cc)
  number_in_kept (TypeExpr-F.ByRef x) t e = absurd (cc)
  number_in_kept (TypeExpr-F.Var n) t e = absurd (cc)
  number_in_kept (TypeExpr-F.MVar n) t e = absurd (cc)
  number_in_kept (TypeExpr-F.Mod required by x) t e = absurd (cc)

module _ (k : Change) (kept : RowAt → Bool) (p : Places) (after before : List AsmRec) (r : RowsMove k kept p after before) (keeps : KeepsRows k.keep kept before) where
  module _ (earlier : TypeExpr → Shape) (alike : (e : TypeExpr) → IsTrue (keeps_expr k.keep e) → IsTrue (keeps_shape k.keep (earlier e)))
      (args : List TypeExpr) (ts : IsTrue (list_all (shows_expr k.keep) args)) where
    pub layout_kept : (f : RowAt) (l : Layout) → IsTrue (keeps_field_row k.keep before f) → view.layout_of before earlier args f ≡ Some l → IsTrue (keeps_layout k.keep l)
    layout_kept f l h is = by_cell (view.cell_type before args f) refl is
      where
        by_zero : (e : TypeExpr) → IsTrue (keeps_expr k.keep e) → (o : Option Value) → zero_shape e (earlier e) ≡ o
            → option_map (λ v. record { cell = of_field (view.field_number before f); typ = e; zero = v }) o ≡ Some l → IsTrue (keeps_layout k.keep l)
        by_zero e g None t u = absurd (cc)
        by_zero e g (Some v) t u =
            let same : record { cell = of_field (view.field_number before f); typ = e; zero = v } ≡ l = cc in
            let zero_is : IsTrue (keeps_value k.keep v) = zero_kept k.keep e (earlier e) v g (alike e g) t in
            subst (λ (x : Layout). IsTrue (keeps_layout k.keep x)) same
            (and_from (keeps_field_row k.keep before f && keeps_expr k.keep e) (keeps_value k.keep v) (and_from (keeps_field_row k.keep before f) (keeps_expr k.keep e) h g) zero_is)

        by_cell : (o : Option TypeExpr) → view.cell_type before args f ≡ o → option_and_then (view.layout_by before earlier f) o ≡ Some l → IsTrue (keeps_layout k.keep l)
        by_cell None t u = absurd (cc)
        by_cell (Some e) t u = by_zero e (cell_kept k kept p after before r keeps args ts f e h t) (zero_shape e (earlier e)) refl u

    all_kept : (fs : List RowAt) (ls : List Layout) → IsTrue (list_all (keeps_field_row k.keep before) fs) → view.all_there (map (view.layout_of before earlier args) fs) ≡ Some ls
        → IsTrue (list_all (keeps_layout k.keep) ls)
    all_kept [] ls h is = let same : [] ≡ ls = cc in subst (λ (xs : List Layout). IsTrue (list_all (keeps_layout k.keep) xs)) same refl
    all_kept (f ∷ fs) ls h is =
        by_first (λ ms it. all_kept fs ms (second_so (keeps_field_row k.keep before f) (list_all (keeps_field_row k.keep before) fs) h) it) (view.layout_of before earlier args f) refl is
      where
        by_rest : (l : Layout) → IsTrue (keeps_layout k.keep l) → ((ms : List Layout) → view.all_there (map (view.layout_of before earlier args) fs) ≡ Some ms → IsTrue (list_all (keeps_layout k.keep) ms))
            → (o : Option (List Layout)) → view.all_there (map (view.layout_of before earlier args) fs) ≡ o → option_map (λ ms. l ∷ ms) o ≡ Some ls → IsTrue (list_all (keeps_layout k.keep) ls)
        by_rest l g again None t u = absurd (cc)
        by_rest l g again (Some ms) t u =
            let same : l ∷ ms ≡ ls = cc in
            subst (λ (xs : List Layout). IsTrue (list_all (keeps_layout k.keep) xs)) same (and_from (keeps_layout k.keep l) (list_all (keeps_layout k.keep) ms) g (again ms t))

        by_first : ((ms : List Layout) → view.all_there (map (view.layout_of before earlier args) fs) ≡ Some ms → IsTrue (list_all (keeps_layout k.keep) ms))
            → (o : Option Layout) → view.layout_of before earlier args f ≡ o → view.all_there (o ∷ map (view.layout_of before earlier args) fs) ≡ Some ls → IsTrue (list_all (keeps_layout k.keep) ls)
        by_first again None t u = absurd (cc)
        by_first again (Some l) t u =
            by_rest l (layout_kept f l (first_so (keeps_field_row k.keep before f) (list_all (keeps_field_row k.keep before) fs) h) t) again (view.all_there (map (view.layout_of before earlier args) fs)) refl u

    struct_shape_kept : (fs : List RowAt) → IsTrue (list_all (keeps_field_row k.keep before) fs) → (o : Option (List Layout)) → view.all_there (map (view.layout_of before earlier args) fs) ≡ o
        → IsTrue (keeps_shape k.keep (view.struct_shape o))
    struct_shape_kept fs h None is = refl
    struct_shape_kept fs h (Some ls) is = all_kept fs ls h is

    value_by : (a b : Bool) (s : Shape) → IsTrue (keeps_shape k.keep s) → IsTrue (keeps_shape k.keep (if a then type_handle else if b then field_handle else s))
    value_by true b s h = refl
    value_by false true s h = refl
    value_by false false s h = h

    value_kept : (at : RowAt) → IsTrue (keeps_type_row k.keep before at) → is_value_type before at ≡ true → IsTrue (keeps_shape k.keep (view.value_shape before earlier args at))
    value_kept at h is =
        value_by (view.is_core_type before core.RuntimeTypeHandle at) (view.is_core_type before core.RuntimeFieldHandle at) _
        (struct_shape_kept (view.instance_fields before at) (fields_kept k kept p after before r keeps at h is) (view.all_there (map (view.layout_of before earlier args) (view.instance_fields before at))) refl)

    enum_kept : (o : Option TypeExpr) (t : Shape) → option_and_then (λ e. view.number_in (out-TypeExpr e)) o ≡ Some t → IsTrue (keeps_shape k.keep t)
    enum_kept None t e = absurd (cc)
    enum_kept (Some c) t e = number_in_kept k.keep (out-TypeExpr c) t e

    or_kept : (o : Option Shape) (s : Shape) → ((t : Shape) → o ≡ Some t → IsTrue (keeps_shape k.keep t)) → IsTrue (keeps_shape k.keep s) → IsTrue (keeps_shape k.keep (view.or_shape o s))
    or_kept None s h g = g
    or_kept (Some t) s h g = h t refl

    if_kept : (b : Bool) (o : Option Shape) (t : Shape) → ((u : Shape) → o ≡ Some u → IsTrue (keeps_shape k.keep u)) → (if b then o else None) ≡ Some t → IsTrue (keeps_shape k.keep t)
    if_kept true o t h e = h t e
    if_kept false o t h e = absurd (cc)

    row_by : (a b : Bool) (at : RowAt) → IsTrue (keeps_type_row k.keep before at) → is_value_type before at ≡ b
        → IsTrue (keeps_shape k.keep (if not b then reference else if not a then no_value else view.or_shape (if is_enum before at then view.enum_shape before args at else None) (view.value_shape before earlier args at)))
    row_by a false at h is = refl
    row_by false true at h is = refl
    row_by true true at h is =
        or_kept (if is_enum before at then view.enum_shape before args at else None) (view.value_shape before earlier args at)
        (λ t e. if_kept (is_enum before at) (view.enum_shape before args at) t (λ u f. enum_kept (option_and_then (view.cell_type before args) (view.first_or_none (view.instance_fields before at))) u f) e)
        (value_kept at h is)

    home_kept_by : (o : Option RowAt) → ((at : RowAt) → o ≡ Some at → IsTrue (keeps_type_row k.keep before at)) → IsTrue (keeps_shape k.keep (view.home_shape before earlier args o))
    home_kept_by None h = refl
    home_kept_by (Some at) h = row_by (view.fits_params before at args) (is_value_type before at) at (h at refl) refl

    home_shape_kept : (t : ℕ) → IsTrue (k.keep.typ t) → IsTrue (keeps_shape k.keep (view.home_shape before earlier args (type_home before (type_numbered t))))
    home_shape_kept t h = home_kept_by (type_home before (type_numbered t)) (λ at is. type_row_kept k kept p after before r t at h is)

  module _ (earlier : TypeExpr → Shape) (alike : (e : TypeExpr) → IsTrue (keeps_expr k.keep e) → IsTrue (keeps_shape k.keep (earlier e))) where
    in_kept : (x : TypeExpr-F TypeExpr) → IsTrue (names_layer k.keep (map-TypeExpr TypeExpr Names (names_of k.keep) x)).kept → IsTrue (keeps_shape k.keep (view.shape_in before earlier x))
    in_kept (TypeExpr-F.Prim n) h = prim_kept k.keep (n == element.VOID) (n == element.STRING || n == element.OBJECT) n
    in_kept (TypeExpr-F.Def t) h = home_shape_kept earlier alike [] refl t.0 h
    in_kept (TypeExpr-F.Inst t args) h =
        home_shape_kept earlier alike args (args_in_shown k.keep (TypeExpr-F.Inst t args) h) t.0 (first_so (k.keep.typ t.0) (list_all both (map (names_of k.keep) args)) h)
    in_kept (TypeExpr-F.Array x) h = refl
    in_kept (TypeExpr-F.ByRef x) h = refl
    in_kept (TypeExpr-F.Var n) h = refl
    in_kept (TypeExpr-F.MVar n) h = refl
    in_kept (TypeExpr-F.Mod required by x) h = refl

    shape_in_kept : (e : TypeExpr) → IsTrue (keeps_expr k.keep e) → IsTrue (keeps_shape k.keep (view.shape_in before earlier (out-TypeExpr (plain e))))
    shape_in_kept e h = in_kept (out-TypeExpr (plain e)) (subst (λ (n : Names). IsTrue n.kept) (names_out k.keep (plain e)) ((plain_stays k.keep e).kept h))

  without_kept : (s : Shape) → IsTrue (keeps_shape k.keep s) → IsTrue (keeps_shape k.keep (view.without_struct s))
  without_kept reference h = refl
  without_kept pointer h = refl
  without_kept (integer n) h = refl
  without_kept type_handle h = refl
  without_kept field_handle h = refl
  without_kept (structure cells) h = refl
  without_kept no_value h = refl

  within_kept : (n : ℕ) (e : TypeExpr) → IsTrue (keeps_expr k.keep e) → IsTrue (keeps_shape k.keep (view.shape_within before n e))
  unfolding view.shape_within
  within_kept zero e h = without_kept (view.shape_in before (λ d. no_value) (out-TypeExpr (plain e))) (shape_in_kept (λ d. no_value) (λ d g. refl) e h)
  within_kept (suc n) e h = shape_in_kept (view.shape_within before n) (λ d g. within_kept n d g) e h

  pub shape_kept : (e : TypeExpr) → IsTrue (keeps_expr k.keep e) → IsTrue (keeps_shape k.keep (view.shape_query before e))
  unfolding view.shape_query
  shape_kept e h = within_kept view.most_nested e h
