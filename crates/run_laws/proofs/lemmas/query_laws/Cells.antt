-- The cells of an instance of a kept class move with it, without those of fields that aren't kept.
use Rattle.std.proofs.Common.{◌≡◌, ℕ, Bool, true, false, List, [], ◌∷◌, ◌++◌, map, Option, Some, None, refl, sym, ap, subst, ◌∙◌}
use Rattle.std.specs.Prelude.{IsTrue, reverse, if◌then◌else◌, ◌||◌}
use Rattle.std.specs.List.{list_all, list_any, filter, flat_map}
use Rattle.std.specs.Option.{option_map, option_and_then}
use Rattle.std.specs.Cmp.{first_so, second_so}
use Rattle.std.proofs.lemmas.Bool.{and_from}
use Rattle.std.proofs.lemmas.List.{reverse-append, append-nil}
use Rattle.il_base.specs.declared.element.TheConstants as element
use Rattle.il_base.specs.declared.core_table.names.CoreName.TheVariants as core
use Rattle.il_base.specs.declared.world_model.expr.TypeExpr.{TypeExpr}
use Rattle.il_base.specs.declared.world_model.expr.TypeExpr.TheVariants as expr
use Rattle.il_base.specs.declared.world_model.record.AsmRec.{AsmRec}
use Rattle.rules.specs.declared.link_rules.row_at.RowAt.{RowAt}
use Rattle.rules.specs.link_rules.Members.{args_of, with_bases}
use Rattle.rules.specs.link_rules.Cycles.{listed, home_of}
use Rattle.rules.specs.type_rules.Rows.{fields_of_type, is_instance_field}
use Rattle.base_laws.specs.walk_laws.Walks.{BasesWhole}
use Rattle.il_base.specs.declared.cil_values.layout.Layout.{Layout}
use Rattle.il_base.specs.declared.cil_values.layout.Cell.TheVariants.{Field as of_field, Message as message, Inner as inner}
use Rattle.il_base.specs.declared.cil_values.value.Value.{Value}
use Rattle.rules.specs.step_rules.Stores.{zero_shape}
use Rattle.rules.specs.view_rules.Layouts as view
use Rattle.rules.specs.change_rules.Change.{Change}
use Rattle.rules.specs.change_rules.Moves.{move_expr, move_exprs}
use Rattle.rules.specs.change_rules.Answers.{move_layout}
use Rattle.rules.specs.change_rules.States.{keeps_place, mask}
use Rattle.rules.specs.change_rules.Keeping.{keep}
use Rattle.rules.specs.change_rules.Keeps.{keeps_expr}
use Rattle.base_laws.proofs.lemmas.change_laws.Exprs.{move_prim, move_def}
use Rattle.base_laws.proofs.lemmas.change_laws.Values.{move_null}
use Rattle.rules.specs.world_change_rules.Places.{Places, keeps_type_row, keeps_field_row}
use Rattle.rules.specs.world_change_rules.Rows.{RowsMove}
use Rattle.rules.specs.world_change_rules.Kept.{KeepsRows}
use Rattle.run_laws.proofs.lemmas.query_laws.Homes.{args_shown, args_moved, home_moved, home_kept}
use Rattle.run_laws.proofs.lemmas.query_laws.Wholes.{with_bases_kept, with_bases_moved}
use Rattle.run_laws.proofs.lemmas.query_laws.Shapes.{filter_step, layout_moved, shape_moved}

-- ---- lists

flat_joined : {A B : Type 0} (f : A → List B) (x : A) (xs : List A) → flat_map f (x ∷ xs) ≡ f x ++ flat_map f xs
flat_joined f x xs = refl

reverse_next : {A : Type 0} (x : A) (xs : List A) → reverse (x ∷ xs) ≡ reverse xs ++ x ∷ []
reverse_next x xs = reverse-append (x ∷ []) xs

all_behind : {A : Type 0} (p : A → Bool) (xs : List A) (x : A) → IsTrue (list_all p xs) → IsTrue (p x) → IsTrue (list_all p (xs ++ x ∷ []))
all_behind p [] x h g = and_from (p x) true g refl
all_behind p (y ∷ ys) x h g = and_from (p y) (list_all p (ys ++ x ∷ [])) (first_so (p y) (list_all p ys) h) (all_behind p ys x (second_so (p y) (list_all p ys) h) g)

all_reversed : {A : Type 0} (p : A → Bool) (xs : List A) → IsTrue (list_all p xs) → IsTrue (list_all p (reverse xs))
all_reversed p [] h = refl
all_reversed p (x ∷ xs) h =
    subst (λ ys. IsTrue (list_all p ys)) (sym (reverse_next x xs)) (all_behind p (reverse xs) x (all_reversed p xs (second_so (p x) (list_all p xs) h)) (first_so (p x) (list_all p xs) h))

map_joined : {A B : Type 0} (f : A → B) (xs ys : List A) → map f (xs ++ ys) ≡ map f xs ++ map f ys
map_joined f [] ys = refl
map_joined f (x ∷ xs) ys = ap (λ zs. f x ∷ zs) (map_joined f xs ys)

reverse_moved : {A B : Type 0} (f : A → B) (xs : List A) → reverse (map f xs) ≡ map f (reverse xs)
reverse_moved f [] = refl
reverse_moved f (x ∷ xs) =
    reverse_next (f x) (map f xs) ∙ ap (λ ys. ys ++ f x ∷ []) (reverse_moved f xs) ∙ sym (map_joined f (reverse xs) (x ∷ [])) ∙ ap (map f) (sym (reverse_next x xs))

-- the kept ones that pass a test, moved
kept_moved : {A : Type 0} (f : A → A) (kept test later : A → Bool) → ((x : A) → IsTrue (kept x) → later (f x) ≡ test x)
    → (xs : List A) → filter later (map f (filter kept xs)) ≡ map f (filter kept (filter test xs))
kept_moved f kept test later same [] = refl
kept_moved f kept test later same (x ∷ xs) = by_kept (kept_moved f kept test later same xs) (kept x) (test x) refl refl
  where
    by_kept : filter later (map f (filter kept xs)) ≡ map f (filter kept (filter test xs)) → (a b : Bool) → kept x ≡ a → test x ≡ b
        → filter later (map f (filter kept (x ∷ xs))) ≡ map f (filter kept (filter test (x ∷ xs)))
    by_kept again true true e t =
        ap (λ ys. filter later (map f ys)) (filter_step kept x xs true e) ∙ filter_step later (f x) (map f (filter kept xs)) true (same x e ∙ t)
        ∙ ap (λ ys. f x ∷ ys) again ∙ sym (ap (λ ys. map f (filter kept ys)) (filter_step test x xs true t) ∙ ap (map f) (filter_step kept x (filter test xs) true e))
    by_kept again true false e t =
        ap (λ ys. filter later (map f ys)) (filter_step kept x xs true e) ∙ filter_step later (f x) (map f (filter kept xs)) false (same x e ∙ t)
        ∙ again ∙ sym (ap (λ ys. map f (filter kept ys)) (filter_step test x xs false t))
    by_kept again false true e t =
        ap (λ ys. filter later (map f ys)) (filter_step kept x xs false e) ∙ again
        ∙ sym (ap (λ ys. map f (filter kept ys)) (filter_step test x xs true t) ∙ ap (map f) (filter_step kept x (filter test xs) false e))
    by_kept again false false e t =
        ap (λ ys. filter later (map f ys)) (filter_step kept x xs false e) ∙ again ∙ sym (ap (λ ys. map f (filter kept ys)) (filter_step test x xs false t))

module _ (k : Change) (kept : RowAt → Bool) (p : Places) (after before : List AsmRec) (r : RowsMove k kept p after before) (keeps : KeepsRows k.keep kept before) where
  -- the cells that stay
  abbrev Stay : List Layout → List Layout
  Stay ls = keep (mask k.keep ls) ls

  stay_joined : (ls ms : List Layout) → Stay (ls ++ ms) ≡ Stay ls ++ Stay ms
  unfolding keep
  stay_joined [] ms = refl
  stay_joined (l ∷ ls) ms = by_flag (keeps_place k.keep l) (stay_joined ls ms)
    where
      by_flag : (b : Bool) → Stay (ls ++ ms) ≡ Stay ls ++ Stay ms → keep (b ∷ mask k.keep (ls ++ ms)) (l ∷ (ls ++ ms)) ≡ keep (b ∷ mask k.keep ls) (l ∷ ls) ++ Stay ms
      by_flag true e = ap (λ xs. l ∷ xs) e
      by_flag false e = e

  -- ---- a field

  abbrev Laid : TypeExpr → RowAt → Option Layout
  Laid e f = view.layout_of before (view.shape_query before) (args_of e) f

  place_of_laid : (f : RowAt) (o : Option TypeExpr) (l : Layout) → option_and_then (view.layout_by before (view.shape_query before) f) o ≡ Some l → keeps_place k.keep l ≡ keeps_field_row k.keep before f
  place_of_laid f None l e = absurd (cc)
  place_of_laid f (Some c) l e = by_zero (zero_shape c (view.shape_query before c)) e
    where
      by_zero : (o : Option Value) → option_map (λ v. record { cell = of_field (view.field_number before f); typ = c; zero = v }) o ≡ Some l → keeps_place k.keep l ≡ keeps_field_row k.keep before f
      by_zero None u = absurd (cc)
      by_zero (Some v) u = let same : record { cell = of_field (view.field_number before f); typ = c; zero = v } ≡ l = cc in sym (ap (keeps_place k.keep) same)

  abbrev stays_if : Bool → Option Layout → List Layout
  stays_if true o = listed o
  stays_if false o = []

  one_stays : (e : TypeExpr) (f : RowAt) (b : Bool) → keeps_field_row k.keep before f ≡ b → (o : Option Layout) → Laid e f ≡ o → Stay (listed o) ≡ stays_if b o
  unfolding keep
  one_stays e f true h None is = refl
  one_stays e f false h None is = refl
  one_stays e f b h (Some l) is = by_place b (place_of_laid f (view.cell_type before (args_of e) f) l is ∙ h)
    where
      by_place : (c : Bool) → keeps_place k.keep l ≡ c → Stay (l ∷ []) ≡ stays_if c (Some l)
      by_place true u = rw u refl
      by_place false u = rw u refl

  -- ---- the fields of a class

  own_by : (e : TypeExpr) → IsTrue (keeps_expr k.keep e) → (fs : List RowAt)
      → flat_map (λ f. listed (view.layout_of after (view.shape_query after) (args_of (move_expr k.rho e)) f)) (map p.field (filter (keeps_field_row k.keep before) fs))
      ≡ map (move_layout k.rho) (Stay (flat_map (λ f. listed (Laid e f)) fs))
  unfolding keep
  own_by e h [] = refl
  own_by e h (f ∷ fs) = by_kept (own_by e h fs) (keeps_field_row k.keep before f) refl
    where
      After : RowAt → List Layout
      After g = listed (view.layout_of after (view.shape_query after) (args_of (move_expr k.rho e)) g)

      rest : List Layout
      rest = flat_map (λ g. listed (Laid e g)) fs

      listed_moved : (o : Option Layout) → listed (option_map (move_layout k.rho) o) ≡ map (move_layout k.rho) (listed o)
      listed_moved None = refl
      listed_moved (Some l) = refl

      by_kept : flat_map After (map p.field (filter (keeps_field_row k.keep before) fs)) ≡ map (move_layout k.rho) (Stay rest) → (b : Bool) → keeps_field_row k.keep before f ≡ b
          → flat_map After (map p.field (filter (keeps_field_row k.keep before) (f ∷ fs))) ≡ map (move_layout k.rho) (Stay (listed (Laid e f) ++ rest))
      by_kept again true t =
          ap (λ gs. flat_map After (map p.field gs)) (filter_step (keeps_field_row k.keep before) f fs true t)
          ∙ ap (λ xs. xs ++ flat_map After (map p.field (filter (keeps_field_row k.keep before) fs)))
          (ap (λ (args : List TypeExpr). listed (view.layout_of after (view.shape_query after) args (p.field f))) (args_moved k e)
          ∙ ap listed (layout_moved k kept p after before r keeps (view.shape_query after) (view.shape_query before) (λ d g. shape_moved k kept p after before r keeps d g) (args_of e) (args_shown k.keep e h) f t)
          ∙ listed_moved (Laid e f))
          ∙ ap (λ xs. map (move_layout k.rho) (listed (Laid e f)) ++ xs) again
          ∙ sym (ap (map (move_layout k.rho)) (stay_joined (listed (Laid e f)) rest ∙ ap (λ xs. xs ++ Stay rest) (one_stays e f true t (Laid e f) refl)) ∙ map_joined (move_layout k.rho) (listed (Laid e f)) (Stay rest))
      by_kept again false t =
          ap (λ gs. flat_map After (map p.field gs)) (filter_step (keeps_field_row k.keep before) f fs false t) ∙ again
          ∙ sym (ap (map (move_layout k.rho)) (stay_joined (listed (Laid e f)) rest ∙ ap (λ xs. xs ++ Stay rest) (one_stays e f false t (Laid e f) refl)))

  home_cells : (e : TypeExpr) → IsTrue (keeps_expr k.keep e) → (o : Option RowAt) → ((at : RowAt) → o ≡ Some at → IsTrue (keeps_type_row k.keep before at))
      → flat_map (λ at. flat_map (λ f. listed (view.layout_of after (view.shape_query after) (args_of (move_expr k.rho e)) f)) (view.instance_fields after at)) (listed (option_map p.typ o))
      ≡ map (move_layout k.rho) (Stay (flat_map (λ at. flat_map (λ f. listed (Laid e f)) (view.instance_fields before at)) (listed o)))
  unfolding keep
  home_cells e h None g = refl
  home_cells e h (Some at) g =
      let After : RowAt → List Layout = λ f. listed (view.layout_of after (view.shape_query after) (args_of (move_expr k.rho e)) f) in
      append-nil (flat_map After (view.instance_fields after (p.typ at)))
      ∙ ap (flat_map After) (ap (filter (is_instance_field after)) ((r.types at (g at refl)).fields)
      ∙ kept_moved p.field (keeps_field_row k.keep before) (is_instance_field before) (is_instance_field after) (λ f u. (r.fields f u).instance) (fields_of_type before at))
      ∙ own_by e h (view.instance_fields before at)
      ∙ ap (λ xs. map (move_layout k.rho) (Stay xs)) (sym (append-nil (flat_map (λ f. listed (Laid e f)) (view.instance_fields before at))))

  own_moved : (e : TypeExpr) → IsTrue (keeps_expr k.keep e) → view.own_cells after (move_expr k.rho e) ≡ map (move_layout k.rho) (Stay (view.own_cells before e))
  own_moved e h =
      ap (λ (o : Option RowAt). flat_map (λ at. flat_map (λ f. listed (view.layout_of after (view.shape_query after) (args_of (move_expr k.rho e)) f)) (view.instance_fields after at)) (listed o)) (home_moved k kept p after before r keeps e h)
      ∙ home_cells e h (home_of before e) (λ at is. home_kept k kept p after before r keeps e at h is)

  all_moved : (es : List TypeExpr) → IsTrue (list_all (keeps_expr k.keep) es)
      → flat_map (view.own_cells after) (move_exprs k.rho es) ≡ map (move_layout k.rho) (Stay (flat_map (view.own_cells before) es))
  unfolding keep
  all_moved [] h = refl
  all_moved (e ∷ es) h =
      (λ i. own_moved e (first_so (keeps_expr k.keep e) (list_all (keeps_expr k.keep) es) h) i ++ all_moved es (second_so (keeps_expr k.keep e) (list_all (keeps_expr k.keep) es) h) i)
      ∙ sym (ap (map (move_layout k.rho)) (stay_joined (view.own_cells before e) (flat_map (view.own_cells before) es))
      ∙ map_joined (move_layout k.rho) (Stay (view.own_cells before e)) (Stay (flat_map (view.own_cells before) es)))

  -- ---- exceptions

  exception_by : (o : Option RowAt) → ((at : RowAt) → o ≡ Some at → IsTrue (keeps_type_row k.keep before at))
      → list_any (view.is_core_type after core.Exception) (listed (option_map p.typ o)) ≡ list_any (view.is_core_type before core.Exception) (listed o)
  exception_by None h = refl
  exception_by (Some at) h = ap (λ (b : Bool). b || false) ((r.types at (h at refl)).core_type core.Exception)

  exceptions_moved : (es : List TypeExpr) → IsTrue (list_all (keeps_expr k.keep) es) → list_any (view.is_exception after) (move_exprs k.rho es) ≡ list_any (view.is_exception before) es
  exceptions_moved [] h = refl
  exceptions_moved (e ∷ es) h =
      let g : IsTrue (keeps_expr k.keep e) = first_so (keeps_expr k.keep e) (list_all (keeps_expr k.keep) es) h in
      let here : view.is_exception after (move_expr k.rho e) ≡ view.is_exception before e =
      ap (λ (o : Option RowAt). list_any (view.is_core_type after core.Exception) (listed o)) (home_moved k kept p after before r keeps e g)
      ∙ exception_by (home_of before e) (λ at is. home_kept k kept p after before r keeps e at g is) in
      λ i. here i || exceptions_moved es (second_so (keeps_expr k.keep e) (list_all (keeps_expr k.keep) es) h) i

  core_expr_moved : view.core_expr after core.Exception ≡ move_expr k.rho (view.core_expr before core.Exception)
  core_expr_moved = ap (λ (n : ℕ). expr.Def (record { 0 = n })) (r.core.types core.Exception) ∙ sym (move_def k.rho (record { 0 = _ }))

  exception_cells_moved : view.exception_cells after ≡ map (move_layout k.rho) (Stay (view.exception_cells before))
  unfolding keep
  exception_cells_moved =
      λ i. record { cell = message; typ = sym (move_prim k.rho element.STRING) i; zero = sym (move_null k.rho) i }
      ∷ record { cell = inner; typ = core_expr_moved i; zero = sym (move_null k.rho) i } ∷ []

  exception_if : (b : Bool) → (if b then view.exception_cells after else []) ≡ map (move_layout k.rho) (Stay (if b then view.exception_cells before else []))
  unfolding keep
  exception_if true = exception_cells_moved
  exception_if false = refl

  module _ (later : BasesWhole after) (earlier : BasesWhole before) where
    pub cells_moved : (e : TypeExpr) → IsTrue (keeps_expr k.keep e)
        → view.cells_query after (move_expr k.rho e) ≡ map (move_layout k.rho) (Stay (view.cells_query before e))
    unfolding view.cells_query
    cells_moved e h =
        let bases : List TypeExpr = with_bases before e in
        let all : IsTrue (list_all (keeps_expr k.keep) bases) = with_bases_kept k kept p after before r keeps e h in
        ap (λ (bs : List TypeExpr). (if list_any (view.is_exception after) bs then view.exception_cells after else []) ++ flat_map (view.own_cells after) (reverse bs))
        (with_bases_moved k kept p after before r keeps later earlier e h)
        ∙ (λ i. (if exceptions_moved bases all i then view.exception_cells after else []) ++ flat_map (view.own_cells after) (reverse_moved (move_expr k.rho) bases i))
        ∙ (λ i. exception_if (list_any (view.is_exception before) bases) i ++ all_moved (reverse bases) (all_reversed (keeps_expr k.keep) bases all) i)
        ∙ sym (ap (map (move_layout k.rho)) (stay_joined (if list_any (view.is_exception before) bases then view.exception_cells before else []) (flat_map (view.own_cells before) (reverse bases)))
        ∙ map_joined (move_layout k.rho) (Stay (if list_any (view.is_exception before) bases then view.exception_cells before else [])) (Stay (flat_map (view.own_cells before) (reverse bases))))
