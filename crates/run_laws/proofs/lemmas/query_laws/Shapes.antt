-- The shape of a kept type moves with it (I.12.1, II.13).
use Rattle.std.proofs.Common.{◌≡◌, ℕ, zero, suc, Bool, true, false, List, [], ◌∷◌, map, Option, Some, None, refl, sym, ap, subst, ◌∙◌}
use Rattle.std.specs.Prelude.{IsTrue, slice_get, if◌then◌else◌, not, ◌==◌, ◌||◌}
use Rattle.std.specs.List.{list_all, list_any, filter}
use Rattle.std.specs.Option.{option_map, option_and_then}
use Rattle.std.specs.Cmp.{first_so, second_so}
use Rattle.std.proofs.lemmas.List.{length-map}
use Rattle.il_base.specs.declared.element.TheConstants as element
use Rattle.il_base.specs.declared.core_table.names.CoreName.TheVariants as core
use Rattle.il_base.specs.declared.core_table.tokens.TheConstants.{ENUM}
use Rattle.il_base.specs.declared.world_model.known.Known.{Known}
use Rattle.il_base.specs.declared.world_model.known.Known.TheVariants.{Good, Bad}
use Rattle.il_base.specs.declared.world_model.expr.TypeExpr.{TypeExpr, out-TypeExpr}
use Rattle.il_base.specs.declared.world_model.expr.TypeExpr.TheFolds.{map-TypeExpr}
use Rattle.il_base.specs.declared.world_model.expr.TypeExpr.TheOpen.{TypeExpr-F}
use Rattle.il_base.specs.declared.world_model.types.TypeDefRow.{TypeDefRow}
use Rattle.il_base.specs.declared.world_model.members.FieldRow.{FieldRow}
use Rattle.il_base.specs.declared.world_model.record.AsmRec.{AsmRec}
use Rattle.il_base.specs.world_model.Worlds.{known_map}
use Rattle.rules.specs.declared.link_rules.row_at.RowAt.{RowAt}
use Rattle.rules.specs.link_rules.Members.{type_home, param_count}
use Rattle.rules.specs.link_rules.Cycles.{listed, is_value_type}
use Rattle.rules.specs.type_rules.Rows.{rec_at, type_row_at, field_row_at, fields_of_type, is_instance_field, is_enum}
use Rattle.il_base.specs.declared.cil_values.definition.FieldDef.{FieldDef}
use Rattle.il_base.specs.declared.cil_values.layout.Layout.{Layout}
use Rattle.il_base.specs.declared.cil_values.layout.Cell.TheVariants.{Field as of_field}
use Rattle.il_base.specs.declared.cil_values.layout.Shape.{Shape}
use Rattle.il_base.specs.declared.cil_values.layout.Shape.TheVariants.{Reference as reference, Pointer as pointer, Integer as integer, TypeHandle as type_handle, FieldHandle as field_handle, Structure as structure, NoValue as no_value}
use Rattle.il_base.specs.declared.cil_values.value.Value.TheVariants as value
use Rattle.il_base.specs.declared.cil_values.value.Value.{Value}
use Rattle.rules.specs.step_rules.Closing.{plain, closed_cell_by}
use Rattle.rules.specs.step_rules.Stores.{zero_shape, zeros_of}
use Rattle.rules.specs.view_rules.Methods.{head_query, field_at, field_by}
use Rattle.rules.specs.view_rules.Layouts as view
use Rattle.rules.specs.change_rules.Change.{Rho, Change}
use Rattle.rules.specs.change_rules.Moves.{move_expr, move_exprs, move_value, move_values}
use Rattle.rules.specs.change_rules.Answers.{move_field, move_layout, move_shape}
use Rattle.rules.specs.change_rules.Keeps.{Names, both, names_layer, names_of, keeps_expr, shows_expr, if_good, keeps_field}
use Rattle.base_laws.proofs.lemmas.change_laws.Exprs.{moved_in, out_moved}
use Rattle.base_laws.proofs.lemmas.change_laws.Values.{move_null, move_struct}
use Rattle.run_laws.proofs.lemmas.lock_words.Types.{plain_moved, plain_stays}
use Rattle.run_laws.proofs.lemmas.lock_words.Fits.{number_moved}
use Rattle.rules.specs.world_change_rules.Places.{Places, type_numbered, keeps_type_row, keeps_field_row}
use Rattle.rules.specs.world_change_rules.Rows.{RowsMove}
use Rattle.rules.specs.world_change_rules.Kept.{KeepsRows}
use Rattle.run_laws.proofs.lemmas.query_laws.Ids.{home_row}
use Rattle.run_laws.proofs.lemmas.query_laws.Homes.{names_out, args_in_shown}
use Rattle.run_laws.proofs.lemmas.query_laws.Wholes.{extends_moved, value_type_moved}
use Rattle.run_laws.proofs.lemmas.query_laws.Lookups.{head_moved, type_row_kept}
use Rattle.run_laws.proofs.lemmas.query_laws.Standings.{closed_cell_moved, closed_cell_kept}

-- ---- lists of rows

pub filter_step : {A : Type 0} (p : A → Bool) (x : A) (xs : List A) (b : Bool) → p x ≡ b → filter p (x ∷ xs) ≡ (if b then x ∷ filter p xs else filter p xs)
filter_step p x xs true e = rw e refl
filter_step p x xs false e = rw e refl

implied : (a b : Bool) → IsTrue (not a || b) → a ≡ true → IsTrue b
implied true b h e = h
implied false b h e = absurd (cc)

-- those that pass a test, among the moved ones that are kept, where all that pass are kept
those_moved : {A : Type 0} (f : A → A) (kept test later : A → Bool) → ((x : A) → IsTrue (kept x) → later (f x) ≡ test x)
    → (xs : List A) → IsTrue (list_all (λ x. not (test x) || kept x) xs) → filter later (map f (filter kept xs)) ≡ map f (filter test xs)
those_moved f kept test later same [] all = refl
those_moved f kept test later same (x ∷ xs) all =
    by_kept (those_moved f kept test later same xs (second_so (not (test x) || kept x) (list_all (λ y. not (test y) || kept y) xs) all)) (kept x) (test x) refl refl
  where
    by_kept : filter later (map f (filter kept xs)) ≡ map f (filter test xs) → (a b : Bool) → kept x ≡ a → test x ≡ b
        → filter later (map f (filter kept (x ∷ xs))) ≡ map f (filter test (x ∷ xs))
    by_kept again true true e t =
        ap (λ ys. filter later (map f ys)) (filter_step kept x xs true e) ∙ filter_step later (f x) (map f (filter kept xs)) true (same x e ∙ t)
        ∙ ap (λ ys. f x ∷ ys) again ∙ sym (ap (map f) (filter_step test x xs true t))
    by_kept again true false e t =
        ap (λ ys. filter later (map f ys)) (filter_step kept x xs true e) ∙ filter_step later (f x) (map f (filter kept xs)) false (same x e ∙ t)
        ∙ again ∙ sym (ap (map f) (filter_step test x xs false t))
    by_kept again false true e t =
        let is : IsTrue (kept x) = implied (test x) (kept x) (first_so (not (test x) || kept x) (list_all (λ y. not (test y) || kept y) xs) all) t in absurd (cc)
    by_kept again false false e t = ap (λ ys. filter later (map f ys)) (filter_step kept x xs false e) ∙ again ∙ sym (ap (map f) (filter_step test x xs false t))

-- ---- numbers and zeros

prim_by : (r : Rho) (a b : Bool) (n : ℕ) → move_shape r (if a then no_value else if b then reference else integer n) ≡ (if a then no_value else if b then reference else integer n)
prim_by r true b n = refl
prim_by r false true n = refl
prim_by r false false n = refl

prim_moved : (r : Rho) (n : ℕ) → move_shape r (view.prim_shape n) ≡ view.prim_shape n
prim_moved r n = prim_by r (n == element.VOID) (n == element.STRING || n == element.OBJECT) n

number_by : (r : Rho) (a b : Bool) (n : ℕ) → option_map (move_shape r) (view.number_shape (if a then no_value else if b then reference else integer n)) ≡ view.number_shape (if a then no_value else if b then reference else integer n)
number_by r true b n = refl
number_by r false true n = refl
number_by r false false n = refl

number_moved_in : (r : Rho) (x : TypeExpr-F TypeExpr) → view.number_in (moved_in r x) ≡ option_map (move_shape r) (view.number_in x)
number_moved_in r (TypeExpr-F.Prim n) = sym (number_by r (n == element.VOID) (n == element.STRING || n == element.OBJECT) n)
number_moved_in r (TypeExpr-F.Def t) = refl
number_moved_in r (TypeExpr-F.Inst t args) = refl
number_moved_in r (TypeExpr-F.Array x) = refl
number_moved_in r (TypeExpr-F.ByRef x) = refl
number_moved_in r (TypeExpr-F.Var n) = refl
number_moved_in r (TypeExpr-F.MVar n) = refl
number_moved_in r (TypeExpr-F.Mod required by x) = refl

zeros_moved : (r : Rho) (cells : List Layout) → zeros_of (map (move_layout r) cells) ≡ move_values r (zeros_of cells)
zeros_moved r [] = refl
zeros_moved r (c ∷ cs) = ap (λ (vs : List Value). move_value r c.zero ∷ vs) (zeros_moved r cs)

zero_moved : (r : Rho) (e : TypeExpr) (s : Shape) → zero_shape (move_expr r e) (move_shape r s) ≡ option_map (move_value r) (zero_shape e s)
zero_moved r e reference = ap (λ (v : Value). Some v) (sym (move_null r))
zero_moved r e pointer = ap (λ (v : Value). Some v) (sym (move_null r))
zero_moved r e (integer code) = ap (λ (v : Value). Some v) (sym (number_moved r code _))
zero_moved r e type_handle = ap (λ (v : Value). Some v) (sym (move_struct r e []))
zero_moved r e field_handle = ap (λ (v : Value). Some v) (sym (move_struct r e []))
zero_moved r e (structure cells) = ap (λ (v : Value). Some v) (ap (value.Struct (move_expr r e)) (zeros_moved r cells) ∙ sym (move_struct r e (zeros_of cells)))
zero_moved r e no_value = refl

good_moved : (r : Rho) (x : Known TypeExpr) → view.good_type (known_map (move_expr r) x) ≡ option_map (move_expr r) (view.good_type x)
good_moved r (Good e) = refl
good_moved r (Bad why) = refl

-- ---- a field of a closed type

-- by the field's definition
cell_by_row : (recs : List AsmRec) (args : List TypeExpr) (at : RowAt) → view.cell_type recs args at
    ≡ option_and_then (closed_cell_by (head_query recs) args []) (option_and_then (λ (d : FieldDef). view.good_type d.typ) (field_at recs at))
cell_by_row recs args at = by_rec (rec_at recs at)
  where
    by_field : (rec : AsmRec) (o : Option FieldRow)
        → option_and_then (λ (f : FieldRow). option_and_then (closed_cell_by (head_query recs) args []) (view.own_field_type recs at rec f)) o
        ≡ option_and_then (closed_cell_by (head_query recs) args []) (option_and_then (λ (d : FieldDef). view.good_type d.typ) (option_map (field_by recs at rec) o))
    by_field rec None = refl
    by_field rec (Some f) = refl

    by_rec : (o : Option AsmRec)
        → option_and_then (λ (rec : AsmRec). option_and_then (λ (f : FieldRow). option_and_then (closed_cell_by (head_query recs) args []) (view.own_field_type recs at rec f)) (slice_get rec.field at.row)) o
        ≡ option_and_then (closed_cell_by (head_query recs) args []) (option_and_then (λ (d : FieldDef). view.good_type d.typ) (option_and_then (λ (rec : AsmRec). option_map (field_by recs at rec) (slice_get rec.field at.row)) o))
    by_rec None = refl
    by_rec (Some rec) = by_field rec (slice_get rec.field at.row)

module _ (k : Change) (kept : RowAt → Bool) (p : Places) (after before : List AsmRec) (r : RowsMove k kept p after before) (keeps : KeepsRows k.keep kept before) where
  abbrev Heads : (t : ℕ) → IsTrue (k.keep.typ t) → head_query after (k.rho.typ t) ≡ head_query before t
  Heads t h = head_moved k kept p after before r t h

  module _ (args : List TypeExpr) (ts : IsTrue (list_all (shows_expr k.keep) args)) where
    closed_by : (o : Option TypeExpr) → ((e : TypeExpr) → o ≡ Some e → IsTrue (keeps_expr k.keep e))
        → option_and_then (closed_cell_by (head_query after) (move_exprs k.rho args) []) (option_map (move_expr k.rho) o)
        ≡ option_map (move_expr k.rho) (option_and_then (closed_cell_by (head_query before) args []) o)
    closed_by None h = refl
    closed_by (Some e) h = closed_cell_moved k (head_query after) (head_query before) Heads args ts e (h e refl)

    good_by : (o : Option FieldDef) → option_and_then (λ (d : FieldDef). view.good_type d.typ) (option_map (move_field k.rho) o) ≡ option_map (move_expr k.rho) (option_and_then (λ (d : FieldDef). view.good_type d.typ) o)
    good_by None = refl
    good_by (Some d) = good_moved k.rho d.typ

    good_kept : (o : Option FieldDef) (e : TypeExpr) → ((d : FieldDef) → o ≡ Some d → IsTrue (keeps_field k.keep d)) → option_and_then (λ (d : FieldDef). view.good_type d.typ) o ≡ Some e → IsTrue (keeps_expr k.keep e)
    good_kept None e h is = absurd (cc)
    good_kept (Some d) e h is = by_known d.typ refl is
      where
        by_known : (x : Known TypeExpr) → d.typ ≡ x → view.good_type x ≡ Some e → IsTrue (keeps_expr k.keep e)
        by_known (Good c) t u =
            let same : c ≡ e = cc in
            subst (λ (y : TypeExpr). IsTrue (keeps_expr k.keep y)) same (subst (λ (y : Known TypeExpr). IsTrue (if_good (keeps_expr k.keep) y)) t (h d refl))
        by_known (Bad why) t u = absurd (cc)

    cell_moved : (f : RowAt) → IsTrue (keeps_field_row k.keep before f) → view.cell_type after (move_exprs k.rho args) (p.field f) ≡ option_map (move_expr k.rho) (view.cell_type before args f)
    cell_moved f h =
        cell_by_row after (move_exprs k.rho args) (p.field f)
        ∙ ap (λ o. option_and_then (closed_cell_by (head_query after) (move_exprs k.rho args) []) (option_and_then (λ (d : FieldDef). view.good_type d.typ) o)) ((r.fields f h).field)
        ∙ ap (option_and_then (closed_cell_by (head_query after) (move_exprs k.rho args) [])) (good_by (field_at before f))
        ∙ closed_by (option_and_then (λ (d : FieldDef). view.good_type d.typ) (field_at before f)) (λ e is. good_kept (field_at before f) e (λ d it. keeps.field_types f d h it) is)
        ∙ ap (option_map (move_expr k.rho)) (sym (cell_by_row before args f))

    pub cell_kept : (f : RowAt) (e : TypeExpr) → IsTrue (keeps_field_row k.keep before f) → view.cell_type before args f ≡ Some e → IsTrue (keeps_expr k.keep e)
    cell_kept f e h is = by_good (option_and_then (λ (d : FieldDef). view.good_type d.typ) (field_at before f)) refl (sym (cell_by_row before args f) ∙ is)
      where
        by_good : (o : Option TypeExpr) → option_and_then (λ (d : FieldDef). view.good_type d.typ) (field_at before f) ≡ o → option_and_then (closed_cell_by (head_query before) args []) o ≡ Some e → IsTrue (keeps_expr k.keep e)
        by_good None t u = absurd (cc)
        by_good (Some c) t u = closed_cell_kept k (head_query after) (head_query before) Heads args ts c e (good_kept (field_at before f) c (λ d it. keeps.field_types f d h it) t) u

  -- ---- the fields of a kept value type

  fields_moved : (at : RowAt) → IsTrue (keeps_type_row k.keep before at) → is_value_type before at ≡ true
      → view.instance_fields after (p.typ at) ≡ map p.field (view.instance_fields before at)
  fields_moved at h is =
      ap (filter (is_instance_field after)) ((r.types at h).fields)
      ∙ those_moved p.field (keeps_field_row k.keep before) (is_instance_field before) (is_instance_field after) (λ f g. (r.fields f g).instance) (fields_of_type before at) (keeps.laid at h is)

  passes : (fs : List RowAt) → IsTrue (list_all (λ f. not (is_instance_field before f) || keeps_field_row k.keep before f) fs)
      → IsTrue (list_all (keeps_field_row k.keep before) (filter (is_instance_field before) fs))
  passes [] h = refl
  passes (f ∷ fs) h =
      by_test (passes fs (second_so (not (is_instance_field before f) || keeps_field_row k.keep before f) (list_all (λ f. not (is_instance_field before f) || keeps_field_row k.keep before f) fs) h)) (is_instance_field before f) refl
    where
      by_test : IsTrue (list_all (keeps_field_row k.keep before) (filter (is_instance_field before) fs)) → (b : Bool) → is_instance_field before f ≡ b
          → IsTrue (list_all (keeps_field_row k.keep before) (filter (is_instance_field before) (f ∷ fs)))
      by_test again true t =
          let here : IsTrue (keeps_field_row k.keep before f) =
          implied (is_instance_field before f) (keeps_field_row k.keep before f) (first_so (not (is_instance_field before f) || keeps_field_row k.keep before f) (list_all (λ f. not (is_instance_field before f) || keeps_field_row k.keep before f) fs) h) t in
          subst (λ (xs : List RowAt). IsTrue (list_all (keeps_field_row k.keep before) xs)) (sym (filter_step (is_instance_field before) f fs true t)) (rw here again)
      by_test again false t = subst (λ (xs : List RowAt). IsTrue (list_all (keeps_field_row k.keep before) xs)) (sym (filter_step (is_instance_field before) f fs false t)) again

  pub fields_kept : (at : RowAt) → IsTrue (keeps_type_row k.keep before at) → is_value_type before at ≡ true → IsTrue (list_all (keeps_field_row k.keep before) (view.instance_fields before at))
  fields_kept at h is = passes (fields_of_type before at) (keeps.laid at h is)

  -- ---- cells, where the shapes of their types move

  module _ (later earlier : TypeExpr → Shape) (alike : (e : TypeExpr) → IsTrue (keeps_expr k.keep e) → later (move_expr k.rho e) ≡ move_shape k.rho (earlier e))
      (args : List TypeExpr) (ts : IsTrue (list_all (shows_expr k.keep) args)) where
    -- a field with a type is a row
    typed_by : (f : RowAt) (e : TypeExpr) (o : Option AsmRec) → rec_at before f ≡ o
        → option_and_then (λ (rec : AsmRec). option_and_then (λ (d : FieldRow). option_and_then (closed_cell_by (head_query before) args []) (view.own_field_type before f rec d)) (slice_get rec.field f.row)) o ≡ Some e
        → (d : FieldRow) × (field_row_at before f ≡ Some d)
    typed_by f e None s is = absurd (cc)
    typed_by f e (Some rec) s is = by_row (slice_get rec.field f.row) refl is
      where
        by_row : (o : Option FieldRow) → slice_get rec.field f.row ≡ o
            → option_and_then (λ (d : FieldRow). option_and_then (closed_cell_by (head_query before) args []) (view.own_field_type before f rec d)) o ≡ Some e → (d : FieldRow) × (field_row_at before f ≡ Some d)
        by_row None g is = absurd (cc)
        by_row (Some d) g is = (d, ap (option_and_then (λ (x : AsmRec). slice_get x.field f.row)) s ∙ g)

    typed_there : (f : RowAt) (e : TypeExpr) → view.cell_type before args f ≡ Some e → (d : FieldRow) × (field_row_at before f ≡ Some d)
    typed_there f e is = typed_by f e (rec_at before f) refl is

    laid_by : (f : RowAt) → IsTrue (keeps_field_row k.keep before f) → (e : TypeExpr) → IsTrue (keeps_expr k.keep e) → (d : FieldRow) × (field_row_at before f ≡ Some d)
        → view.layout_by after later (p.field f) (move_expr k.rho e) ≡ option_map (move_layout k.rho) (view.layout_by before earlier f e)
    laid_by f h e g is =
        ap (λ (s : Shape). option_map (made after (p.field f) (move_expr k.rho e)) (zero_shape (move_expr k.rho e) s)) (alike e g)
        ∙ ap (option_map (made after (p.field f) (move_expr k.rho e))) (zero_moved k.rho e (earlier e)) ∙ by_zero (zero_shape e (earlier e))
      where
        made : List AsmRec → RowAt → TypeExpr → Value → Layout
        made recs at e v = record { cell = of_field (view.field_number recs at); typ = e; zero = v }

        by_zero : (o : Option Value) → option_map (made after (p.field f) (move_expr k.rho e)) (option_map (move_value k.rho) o) ≡ option_map (move_layout k.rho) (option_map (made before f e) o)
        by_zero None = refl
        by_zero (Some v) = ap (λ (n : ℕ). Some (record { cell = of_field n; typ = move_expr k.rho e; zero = move_value k.rho v })) (r.places.fields f is.0 is.1 h)

    layout_of_by : (f : RowAt) → IsTrue (keeps_field_row k.keep before f) → (o : Option TypeExpr) → view.cell_type before args f ≡ o → ((e : TypeExpr) → o ≡ Some e → IsTrue (keeps_expr k.keep e))
        → option_and_then (view.layout_by after later (p.field f)) (option_map (move_expr k.rho) o) ≡ option_map (move_layout k.rho) (option_and_then (view.layout_by before earlier f) o)
    layout_of_by f h None is g = refl
    layout_of_by f h (Some e) is g = laid_by f h e (g e refl) (typed_there f e is)

    pub layout_moved : (f : RowAt) → IsTrue (keeps_field_row k.keep before f)
        → view.layout_of after later (move_exprs k.rho args) (p.field f) ≡ option_map (move_layout k.rho) (view.layout_of before earlier args f)
    layout_moved f h =
        ap (option_and_then (view.layout_by after later (p.field f))) (cell_moved args ts f h)
        ∙ layout_of_by f h (view.cell_type before args f) refl (λ e is. cell_kept args ts f e h is)

    layouts_moved : (fs : List RowAt) → IsTrue (list_all (keeps_field_row k.keep before) fs)
        → map (view.layout_of after later (move_exprs k.rho args)) (map p.field fs) ≡ map (option_map (move_layout k.rho)) (map (view.layout_of before earlier args) fs)
    layouts_moved [] h = refl
    layouts_moved (f ∷ fs) h =
        λ i. layout_moved f (first_so (keeps_field_row k.keep before f) (list_all (keeps_field_row k.keep before) fs) h) i
        ∷ layouts_moved fs (second_so (keeps_field_row k.keep before f) (list_all (keeps_field_row k.keep before) fs) h) i

    all_moved : (os : List (Option Layout)) → view.all_there (map (option_map (move_layout k.rho)) os) ≡ option_map (map (move_layout k.rho)) (view.all_there os)
    all_moved [] = refl
    all_moved (None ∷ os) = refl
    all_moved (Some l ∷ os) = ap (option_map (λ ls. move_layout k.rho l ∷ ls)) (all_moved os) ∙ by_rest (view.all_there os)
      where
        by_rest : (o : Option (List Layout)) → option_map (λ ls. move_layout k.rho l ∷ ls) (option_map (map (move_layout k.rho)) o) ≡ option_map (map (move_layout k.rho)) (option_map (λ ls. l ∷ ls) o)
        by_rest None = refl
        by_rest (Some ls) = refl

    struct_moved : (o : Option (List Layout)) → view.struct_shape (option_map (map (move_layout k.rho)) o) ≡ move_shape k.rho (view.struct_shape o)
    struct_moved None = refl
    struct_moved (Some ls) = refl

    -- ---- a kept definition

    handle_by : (a b : Bool) (s t : Shape) → s ≡ move_shape k.rho t
        → (if a then type_handle else if b then field_handle else s) ≡ move_shape k.rho (if a then type_handle else if b then field_handle else t)
    handle_by true b s t e = refl
    handle_by false true s t e = refl
    handle_by false false s t e = e

    value_moved : (at : RowAt) → IsTrue (keeps_type_row k.keep before at) → is_value_type before at ≡ true
        → view.value_shape after later (move_exprs k.rho args) (p.typ at) ≡ move_shape k.rho (view.value_shape before earlier args at)
    value_moved at h is =
        let cells : view.struct_shape (view.all_there (map (view.layout_of after later (move_exprs k.rho args)) (view.instance_fields after (p.typ at))))
        ≡ move_shape k.rho (view.struct_shape (view.all_there (map (view.layout_of before earlier args) (view.instance_fields before at)))) =
        ap (λ fs. view.struct_shape (view.all_there (map (view.layout_of after later (move_exprs k.rho args)) fs))) (fields_moved at h is)
        ∙ ap (λ os. view.struct_shape (view.all_there os)) (layouts_moved (view.instance_fields before at) (fields_kept at h is))
        ∙ ap view.struct_shape (all_moved (map (view.layout_of before earlier args) (view.instance_fields before at)))
        ∙ struct_moved (view.all_there (map (view.layout_of before earlier args) (view.instance_fields before at))) in
        (λ i. if (r.types at h).core_type core.RuntimeTypeHandle i then type_handle else if (r.types at h).core_type core.RuntimeFieldHandle i then field_handle
        else view.struct_shape (view.all_there (map (view.layout_of after later (move_exprs k.rho args)) (view.instance_fields after (p.typ at)))))
        ∙ handle_by (view.is_core_type before core.RuntimeTypeHandle at) (view.is_core_type before core.RuntimeFieldHandle at) _ _ cells

    first_by : (fs : List RowAt) → IsTrue (list_all (keeps_field_row k.keep before) fs)
        → option_and_then (λ e. view.number_in (out-TypeExpr e)) (option_and_then (view.cell_type after (move_exprs k.rho args)) (view.first_or_none (map p.field fs)))
        ≡ option_map (move_shape k.rho) (option_and_then (λ e. view.number_in (out-TypeExpr e)) (option_and_then (view.cell_type before args) (view.first_or_none fs)))
    first_by [] h = refl
    first_by (f ∷ fs) h =
        ap (option_and_then (λ e. view.number_in (out-TypeExpr e))) (cell_moved args ts f (first_so (keeps_field_row k.keep before f) (list_all (keeps_field_row k.keep before) fs) h))
        ∙ by_cell (view.cell_type before args f)
      where
        by_cell : (o : Option TypeExpr) → option_and_then (λ e. view.number_in (out-TypeExpr e)) (option_map (move_expr k.rho) o) ≡ option_map (move_shape k.rho) (option_and_then (λ e. view.number_in (out-TypeExpr e)) o)
        by_cell None = refl
        by_cell (Some e) = ap view.number_in (out_moved k.rho e) ∙ number_moved_in k.rho (out-TypeExpr e)

    enum_moved : (at : RowAt) → IsTrue (keeps_type_row k.keep before at) → is_value_type before at ≡ true
        → view.enum_shape after (move_exprs k.rho args) (p.typ at) ≡ option_map (move_shape k.rho) (view.enum_shape before args at)
    enum_moved at h is =
        ap (λ fs. option_and_then (λ e. view.number_in (out-TypeExpr e)) (option_and_then (view.cell_type after (move_exprs k.rho args)) (view.first_or_none fs))) (fields_moved at h is)
        ∙ first_by (view.instance_fields before at) (fields_kept at h is)

    or_moved : (o : Option Shape) (s t : Shape) → s ≡ move_shape k.rho t → view.or_shape (option_map (move_shape k.rho) o) s ≡ move_shape k.rho (view.or_shape o t)
    or_moved None s t e = e
    or_moved (Some x) s t e = refl

    enum_by : (b : Bool) (o q : Option Shape) → o ≡ option_map (move_shape k.rho) q → (if b then o else None) ≡ option_map (move_shape k.rho) (if b then q else None)
    enum_by true o q e = e
    enum_by false o q e = refl

    value_row : (at : RowAt) → IsTrue (keeps_type_row k.keep before at) → is_value_type before at ≡ true
        → view.or_shape (if is_enum after (p.typ at) then view.enum_shape after (move_exprs k.rho args) (p.typ at) else None) (view.value_shape after later (move_exprs k.rho args) (p.typ at))
        ≡ move_shape k.rho (view.or_shape (if is_enum before at then view.enum_shape before args at else None) (view.value_shape before earlier args at))
    value_row at h is =
        ap (λ (b : Bool). view.or_shape (if b then view.enum_shape after (move_exprs k.rho args) (p.typ at) else None) (view.value_shape after later (move_exprs k.rho args) (p.typ at)))
        (extends_moved k kept p after before r keeps ENUM refl at h)
        ∙ ap (λ o. view.or_shape o (view.value_shape after later (move_exprs k.rho args) (p.typ at))) (enum_by (is_enum before at) _ _ (enum_moved at h is))
        ∙ or_moved (if is_enum before at then view.enum_shape before args at else None) _ _ (value_moved at h is)

    row_by : (a b : Bool) (at : RowAt) → IsTrue (keeps_type_row k.keep before at) → is_value_type before at ≡ b
        → (if not b then reference else if not a then no_value else view.or_shape (if is_enum after (p.typ at) then view.enum_shape after (move_exprs k.rho args) (p.typ at) else None) (view.value_shape after later (move_exprs k.rho args) (p.typ at)))
        ≡ move_shape k.rho (if not b then reference else if not a then no_value else view.or_shape (if is_enum before at then view.enum_shape before args at else None) (view.value_shape before earlier args at))
    row_by a false at h is = refl
    row_by false true at h is = refl
    row_by true true at h is = value_row at h is

    fits_moved : (at : RowAt) → IsTrue (keeps_type_row k.keep before at) → (t : TypeDefRow) → type_row_at before at ≡ Some t → view.fits_params after (p.typ at) (move_exprs k.rho args) ≡ view.fits_params before at args
    fits_moved at h t is = (r.types at h).params t is (move_exprs k.rho args) ∙ ap (λ (n : ℕ). list_any (λ (rec : AsmRec). param_count rec at.row == n) (listed (rec_at before at))) (length-map args (move_expr k.rho))

    row_moved : (at : RowAt) → IsTrue (keeps_type_row k.keep before at) → (t : TypeDefRow) → type_row_at before at ≡ Some t
        → view.row_shape after later (move_exprs k.rho args) (p.typ at) ≡ move_shape k.rho (view.row_shape before earlier args at)
    row_moved at h t is =
        (λ i. if not (value_type_moved k kept p after before r keeps at h i) then reference else if not (fits_moved at h t is i) then no_value
        else view.or_shape (if is_enum after (p.typ at) then view.enum_shape after (move_exprs k.rho args) (p.typ at) else None) (view.value_shape after later (move_exprs k.rho args) (p.typ at)))
        ∙ row_by (view.fits_params before at args) (is_value_type before at) at h refl

    home_by : (o : Option RowAt) → ((at : RowAt) → o ≡ Some at → IsTrue (keeps_type_row k.keep before at)) → ((at : RowAt) → o ≡ Some at → (t : TypeDefRow) × (type_row_at before at ≡ Some t))
        → view.home_shape after later (move_exprs k.rho args) (option_map p.typ o) ≡ move_shape k.rho (view.home_shape before earlier args o)
    home_by None h there = refl
    home_by (Some at) h there = let row = there at refl in row_moved at (h at refl) row.0 row.1

    pub home_shape_moved : (t : ℕ) → IsTrue (k.keep.typ t)
        → view.home_shape after later (move_exprs k.rho args) (type_home after (type_numbered (k.rho.typ t))) ≡ move_shape k.rho (view.home_shape before earlier args (type_home before (type_numbered t)))
    home_shape_moved t h =
        ap (view.home_shape after later (move_exprs k.rho args)) (r.places.type_homes t h)
        ∙ home_by (type_home before (type_numbered t)) (λ at is. type_row_kept k kept p after before r t at h is) (λ at is. home_row before t at is)

  -- ---- a type

  module _ (later earlier : TypeExpr → Shape) (alike : (e : TypeExpr) → IsTrue (keeps_expr k.keep e) → later (move_expr k.rho e) ≡ move_shape k.rho (earlier e)) where
    in_moved : (x : TypeExpr-F TypeExpr) → IsTrue (names_layer k.keep (map-TypeExpr TypeExpr Names (names_of k.keep) x)).kept
        → view.shape_in after later (moved_in k.rho x) ≡ move_shape k.rho (view.shape_in before earlier x)
    in_moved (TypeExpr-F.Prim n) h = sym (prim_moved k.rho n)
    in_moved (TypeExpr-F.Def t) h = home_shape_moved later earlier alike [] refl t.0 h
    in_moved (TypeExpr-F.Inst t args) h =
        home_shape_moved later earlier alike args (args_in_shown k.keep (TypeExpr-F.Inst t args) h) t.0 (first_so (k.keep.typ t.0) (list_all both (map (names_of k.keep) args)) h)
    in_moved (TypeExpr-F.Array x) h = refl
    in_moved (TypeExpr-F.ByRef x) h = refl
    in_moved (TypeExpr-F.Var n) h = refl
    in_moved (TypeExpr-F.MVar n) h = refl
    in_moved (TypeExpr-F.Mod required by x) h = refl

    shape_in_moved : (e : TypeExpr) → IsTrue (keeps_expr k.keep e)
        → view.shape_in after later (out-TypeExpr (plain (move_expr k.rho e))) ≡ move_shape k.rho (view.shape_in before earlier (out-TypeExpr (plain e)))
    shape_in_moved e h =
        let stays : IsTrue (keeps_expr k.keep (plain e)) = (plain_stays k.keep e).kept h in
        ap (λ (x : TypeExpr). view.shape_in after later (out-TypeExpr x)) (plain_moved k.rho e)
        ∙ ap (view.shape_in after later) (out_moved k.rho (plain e))
        ∙ in_moved (out-TypeExpr (plain e)) (subst (λ (n : Names). IsTrue n.kept) (names_out k.keep (plain e)) stays)

  without_moved : (s : Shape) → view.without_struct (move_shape k.rho s) ≡ move_shape k.rho (view.without_struct s)
  without_moved reference = refl
  without_moved pointer = refl
  without_moved (integer n) = refl
  without_moved type_handle = refl
  without_moved field_handle = refl
  without_moved (structure cells) = refl
  without_moved no_value = refl

  within_moved : (n : ℕ) (e : TypeExpr) → IsTrue (keeps_expr k.keep e) → view.shape_within after n (move_expr k.rho e) ≡ move_shape k.rho (view.shape_within before n e)
  unfolding view.shape_within
  within_moved zero e h =
      ap view.without_struct (shape_in_moved (λ d. no_value) (λ d. no_value) (λ d g. refl) e h) ∙ without_moved (view.shape_in before (λ d. no_value) (out-TypeExpr (plain e)))
  within_moved (suc n) e h = shape_in_moved (view.shape_within after n) (view.shape_within before n) (λ d g. within_moved n d g) e h

  pub shape_moved : (e : TypeExpr) → IsTrue (keeps_expr k.keep e) → view.shape_query after (move_expr k.rho e) ≡ move_shape k.rho (view.shape_query before e)
  unfolding view.shape_query
  shape_moved e h = within_moved view.most_nested e h
