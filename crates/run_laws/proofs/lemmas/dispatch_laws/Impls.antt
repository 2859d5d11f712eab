-- MethodImpl rows: those whose body is kept name the same methods in both worlds (II.22.27).
use Rattle.std.proofs.Common.{◌≡◌, ℕ, suc, Bool, true, false, ◌&&◌, List, [], ◌∷◌, ◌++◌, length, map, Option, Some, None, refl, sym, ap, subst, ◌∙◌, arith}
use Rattle.std.specs.Prelude.{IsTrue, slice_get, not, ◌==◌, if◌then◌else◌}
use Rattle.std.specs.List.{Contains, filter, flat_map, list_all, range_with_len}
use Rattle.std.specs.Option.{option_map, option_and_then}
use Rattle.std.specs.Cmp.{first_so}
use Rattle.std.proofs.lemmas.List.{append-nil}
use Rattle.il_base.specs.declared.ids.TypeId.{TypeId}
use Rattle.il_base.specs.declared.table.TheConstants.{TYPE_DEF}
use Rattle.il_base.specs.declared.world_model.expr.TypeExpr.{TypeExpr, out-TypeExpr, roll-out-TypeExpr}
use Rattle.il_base.specs.declared.world_model.expr.TypeExpr.TheFolds.{map-TypeExpr}
use Rattle.il_base.specs.declared.world_model.expr.TypeExpr.TheOpen.{TypeExpr-F}
use Rattle.il_base.specs.declared.world_model.expr.TypeExpr.TheVariants as expr
use Rattle.il_base.specs.declared.world_model.expr.MethodUse.{MethodUse}
use Rattle.il_base.specs.declared.world_model.types.TypeDefRow.{TypeDefRow}
use Rattle.il_base.specs.declared.world_model.members.MethodDefRow.{MethodDefRow}
use Rattle.il_base.specs.declared.world_model.members.MethodImplRow.{MethodImplRow}
use Rattle.il_base.specs.declared.world_model.record.AsmRec.{AsmRec}
use Rattle.il_base.specs.world_model.Tokens.{token_of}
use Rattle.rules.specs.declared.link_rules.row_at.RowAt.{RowAt}
use Rattle.rules.specs.link_rules.Types.{or_else}
use Rattle.rules.specs.link_rules.Members.{array_type, own_args, open_in, open_parent, with_bases, methods_in, home_from, generic_method}
use Rattle.rules.specs.link_rules.Cycles.{listed, home_of}
use Rattle.rules.specs.type_rules.Slots.{method_row_at, method_home}
use Rattle.rules.specs.type_rules.Dispatch.{good_use, have_method, is_instance_virtual, is_body, body_at, impl_body, impl_of_row, first_impl, impl_in_row, impl_in}
use Rattle.base_laws.specs.walk_laws.Walks.{BasesWhole}
use Rattle.rules.specs.change_rules.Change.{Rho, Keep, Change}
use Rattle.rules.specs.change_rules.Moves.{move_type, move_expr, move_exprs, move_use}
use Rattle.rules.specs.change_rules.Keeps.{Names, both, names_layer, names_of, keeps_expr}
use Rattle.base_laws.proofs.lemmas.change_laws.Exprs.{moved_in, out_moved, move_def, move_inst, move_var}
use Rattle.base_laws.proofs.lemmas.change_laws.Subst.{names_def, names_inst, names_rolled}
use Rattle.rules.specs.world_change_rules.Places.{Places, keeps_type_row, keeps_method_row}
use Rattle.rules.specs.world_change_rules.Rows.{RowsMove, Impl, move_impl, impl_by, impls_by, impls_in, impls_at, keeps_impl}
use Rattle.rules.specs.world_change_rules.Kept.{KeepsRows}
use Rattle.run_laws.proofs.lemmas.query_laws.Ids.{has_number}
use Rattle.run_laws.proofs.lemmas.query_laws.Homes.{home_moved, home_kept}
use Rattle.run_laws.proofs.lemmas.query_laws.Wholes.{with_bases_kept, with_bases_moved}
use Rattle.run_laws.proofs.lemmas.query_laws.Shapes.{filter_step}
use Rattle.run_laws.specs.dispatch_laws.Kept.{Apart, KeepsImpls}
use Rattle.run_laws.proofs.lemmas.dispatch_laws.There.{IsTypeThere, home_there}
use Rattle.run_laws.proofs.lemmas.dispatch_laws.Standing.{have_moved}

-- ---- the first of a list that gives something

abbrev pub first_some : (Impl → Option RowAt) → List Impl → Option RowAt
first_some look [] = None
first_some look (x ∷ xs) = or_else (look x) (first_some look xs)

-- ---- a type's rows

module _ (recs : List AsmRec) (e : TypeExpr) (declares : MethodUse → Bool) where
  abbrev pub of_impl : Impl → Option RowAt
  of_impl i = impl_body recs e declares i.declaration i.body

  rows_are : (at : RowAt) (rec : AsmRec) (rows : List MethodImplRow)
      → first_impl (impl_of_row recs e declares at rec) rows ≡ first_some of_impl (flat_map (impls_by recs at.asm rec (token_of TYPE_DEF (suc at.row))) rows)
  rows_are at rec [] = refl
  rows_are at rec (row ∷ rows) =
      by_row (row.class == token_of TYPE_DEF (suc at.row)) (good_use (generic_method recs at.asm rec row.declaration)) (good_use (generic_method recs at.asm rec row.body)) (rows_are at rec rows)
    where
      rest : List Impl
      rest = flat_map (impls_by recs at.asm rec (token_of TYPE_DEF (suc at.row))) rows

      by_row : (b : Bool) (d o : Option MethodUse) → first_impl (impl_of_row recs e declares at rec) rows ≡ first_some of_impl rest
          → or_else (if b then option_and_then (λ (x : MethodUse). option_and_then (impl_body recs e declares x) o) d else None) (first_impl (impl_of_row recs e declares at rec) rows)
          ≡ first_some of_impl ((if b then flat_map (λ x. map (impl_by x) (listed o)) (listed d) else []) ++ rest)
      by_row false d o again = again
      by_row true None o again = again
      by_row true (Some x) None again = again
      by_row true (Some x) (Some y) again = ap (or_else (impl_body recs e declares x y)) again

  rec_by : (at : RowAt) (row : TypeDefRow) (o : Option AsmRec) → option_and_then (λ (rec : AsmRec). slice_get rec.type_def at.row) o ≡ Some row
      → option_and_then (λ (rec : AsmRec). option_and_then (impl_in_row recs e declares at rec) (slice_get rec.type_def at.row)) o ≡ first_some of_impl (flat_map (impls_in recs at) (listed o))
  rec_by at row None t = absurd (cc)
  rec_by at row (Some rec) t =
      ap (option_and_then (impl_in_row recs e declares at rec)) t ∙ rows_are at rec rec.method_impl ∙ ap (first_some of_impl) (sym (append-nil (impls_in recs at rec)))

  home_by : (o : Option RowAt) → ((at : RowAt) → o ≡ Some at → IsTypeThere recs at)
      → option_and_then (λ (at : RowAt). option_and_then (λ (rec : AsmRec). option_and_then (impl_in_row recs e declares at rec) (slice_get rec.type_def at.row)) (slice_get recs at.asm)) o
      ≡ option_and_then (λ (at : RowAt). first_some of_impl (impls_at recs at)) o
  unfolding impls_at
  home_by None h = refl
  home_by (Some at) h = let there = h at refl in rec_by at there.0 (slice_get recs at.asm) there.1

  pub impl_is : impl_in recs declares e ≡ option_and_then (λ (at : RowAt). first_some of_impl (impls_at recs at)) (home_of recs e)
  unfolding impl_in
  impl_is = home_by (home_of recs e) (λ at is. home_there recs e at is)

-- ---- what is found among the moved rows that are kept

module _ (f : RowAt → RowAt) (stays : Impl → Bool) (move : Impl → Impl) (earlier later : Impl → Option RowAt) (Keeps : RowAt → Type 0)
    (found : (x : Impl) (m : RowAt) → earlier x ≡ Some m → Keeps m → IsTrue (stays x)) where
  one_more : (x y : Impl) (xs : List Impl) → Contains xs y → Contains (x ∷ xs) y
  one_more x y xs m = let lt = m.1 in (suc m.0, omega arith, m.2)

  pub some_moved : (xs : List Impl) → ((x : Impl) → Contains xs x → IsTrue (stays x) → later (move x) ≡ option_map f (earlier x)) → ((m : RowAt) → first_some earlier xs ≡ Some m → Keeps m)
      → first_some later (map move (filter stays xs)) ≡ option_map f (first_some earlier xs)
  some_moved [] same h = refl
  some_moved (x ∷ xs) same h = by_test (stays x) refl (earlier x) refl (λ none. some_moved xs (λ y c g. same y (one_more x y xs c) g) (λ m e. h m (ap (λ o. or_else o (first_some earlier xs)) none ∙ e)))
    where
      here : IsTrue (stays x) → later (move x) ≡ option_map f (earlier x)
      here g = same x (0, omega arith, refl) g

      by_test : (b : Bool) → stays x ≡ b → (o : Option RowAt) → earlier x ≡ o → (earlier x ≡ None → first_some later (map move (filter stays xs)) ≡ option_map f (first_some earlier xs))
          → first_some later (map move (filter stays (x ∷ xs))) ≡ option_map f (first_some earlier (x ∷ xs))
      by_test true t None e again =
          ap (λ ys. first_some later (map move ys)) (filter_step stays x xs true t)
          ∙ ap (λ o. or_else o (first_some later (map move (filter stays xs)))) (here t ∙ ap (option_map f) e) ∙ again e
          ∙ sym (ap (λ o. option_map f (or_else o (first_some earlier xs))) e)
      by_test true t (Some m) e again =
          ap (λ ys. first_some later (map move ys)) (filter_step stays x xs true t)
          ∙ ap (λ o. or_else o (first_some later (map move (filter stays xs)))) (here t ∙ ap (option_map f) e)
          ∙ sym (ap (λ o. option_map f (or_else o (first_some earlier xs))) e)
      by_test false t None e again =
          ap (λ ys. first_some later (map move ys)) (filter_step stays x xs false t) ∙ again e ∙ sym (ap (λ o. option_map f (or_else o (first_some earlier xs))) e)
      by_test false t (Some m) e again =
          let is : IsTrue (stays x) = found x m e (h m (ap (λ o. or_else o (first_some earlier xs)) e)) in absurd (cc)

-- ---- a type with its own parameters in place of its arguments

own_moved_from : (r : Rho) (is : List ℕ) → move_exprs r (map (λ k. expr.Var k) is) ≡ map (λ k. expr.Var k) is
own_moved_from r [] = refl
own_moved_from r (n ∷ is) = λ i. move_var r n i ∷ own_moved_from r is i

length_moved : (r : Rho) (es : List TypeExpr) → length (move_exprs r es) ≡ length es
length_moved r [] = refl
length_moved r (e ∷ es) = ap suc (length_moved r es)

own_kept_from : (k : Keep) (is : List ℕ) → IsTrue (list_all both (map (names_of k) (map (λ n. expr.Var n) is)))
own_kept_from k [] = refl
own_kept_from k (n ∷ is) =
    let var : names_of k (expr.Var n) ≡ record { kept = true; shown = true } = ap (names_of k) (sym (expr.rolls-Var n)) ∙ names_rolled k (TypeExpr-F.Var n) in
    subst (λ (x : Names). IsTrue (both x && list_all both (map (names_of k) (map (λ n. expr.Var n) is)))) (sym var) (own_kept_from k is)

and_so : (a b : Bool) → IsTrue a → IsTrue b → IsTrue (a && b)
and_so true b h g = g
and_so false b h g = absurd (cc)

module _ (k : Change) (kept : RowAt → Bool) (p : Places) (after before : List AsmRec) (r : RowsMove k kept p after before) (keeps : KeepsRows k.keep kept before) where
  array_by : (e : TypeExpr) (o : Option TypeId)
      → elim (option_map (move_type k.rho) o) [ Some t ↦ expr.Def t | None ↦ move_expr k.rho e ] ≡ move_expr k.rho (elim o [ Some t ↦ expr.Def t | None ↦ e ])
  array_by e None = refl
  array_by e (Some t) = sym (move_def k.rho t)

  open_in_moved : (e : TypeExpr) (x : TypeExpr-F TypeExpr) → open_in after (move_expr k.rho e) (moved_in k.rho x) ≡ move_expr k.rho (open_in before e x)
  open_in_moved e (TypeExpr-F.Prim n) = refl
  open_in_moved e (TypeExpr-F.Def t) = refl
  open_in_moved e (TypeExpr-F.Inst t args) =
      ap (λ (n : ℕ). expr.Inst (move_type k.rho t) (own_args n)) (length_moved k.rho args)
      ∙ ap (expr.Inst (move_type k.rho t)) (sym (own_moved_from k.rho (range_with_len 0 (length args)))) ∙ sym (move_inst k.rho t (own_args (length args)))
  open_in_moved e (TypeExpr-F.Array x) = ap (λ (o : Option TypeId). elim o [ Some t ↦ expr.Def t | None ↦ move_expr k.rho e ]) r.core.array ∙ array_by e (array_type before)
  open_in_moved e (TypeExpr-F.ByRef x) = refl
  open_in_moved e (TypeExpr-F.Var n) = refl
  open_in_moved e (TypeExpr-F.MVar n) = refl
  open_in_moved e (TypeExpr-F.Mod required by x) = refl

  pub open_moved : (e : TypeExpr) → open_parent after (move_expr k.rho e) ≡ move_expr k.rho (open_parent before e)
  unfolding open_parent
  open_moved e = ap (open_in after (move_expr k.rho e)) (out_moved k.rho e) ∙ open_in_moved e (out-TypeExpr e)

  array_kept : (e : TypeExpr) → IsTrue (keeps_expr k.keep e) → (o : Option TypeId) → ((t : TypeId) → o ≡ Some t → IsTrue (k.keep.typ t.0)) → IsTrue (keeps_expr k.keep (elim o [ Some t ↦ expr.Def t | None ↦ e ]))
  array_kept e h None g = h
  array_kept e h (Some t) g = subst (λ (n : Names). IsTrue n.kept) (sym (names_def k.keep t)) (g t refl)

  open_in_kept : (e : TypeExpr) → IsTrue (keeps_expr k.keep e) → (x : TypeExpr-F TypeExpr) → IsTrue (names_layer k.keep (map-TypeExpr TypeExpr Names (names_of k.keep) x)).kept → IsTrue (keeps_expr k.keep (open_in before e x))
  open_in_kept e h (TypeExpr-F.Prim n) g = h
  open_in_kept e h (TypeExpr-F.Def t) g = h
  open_in_kept e h (TypeExpr-F.Inst t args) g =
      subst (λ (n : Names). IsTrue n.kept) (sym (names_inst k.keep t (own_args (length args))))
      (and_so (k.keep.typ t.0) (list_all both (map (names_of k.keep) (own_args (length args)))) (first_so (k.keep.typ t.0) (list_all both (map (names_of k.keep) args)) g) (own_kept_from k.keep (range_with_len 0 (length args))))
  open_in_kept e h (TypeExpr-F.Array x) g = array_kept e h (array_type before) (λ t is. keeps.array t is)
  open_in_kept e h (TypeExpr-F.ByRef x) g = h
  open_in_kept e h (TypeExpr-F.Var n) g = h
  open_in_kept e h (TypeExpr-F.MVar n) g = h
  open_in_kept e h (TypeExpr-F.Mod required by x) g = h

  pub open_kept : (e : TypeExpr) → IsTrue (keeps_expr k.keep e) → IsTrue (keeps_expr k.keep (open_parent before e))
  unfolding open_parent
  open_kept e h =
      open_in_kept e h (out-TypeExpr e) (subst (λ (n : Names). IsTrue n.kept) (ap (names_of k.keep) (sym (roll-out-TypeExpr e)) ∙ names_rolled k.keep (out-TypeExpr e)) h)

  -- ---- a kept method as a body

  module _ (apart : Apart k.keep p before) (later : BasesWhole after) (earlier : BasesWhole before) where
    abbrev KeepsMethod : RowAt → Type 0
    KeepsMethod at = IsTrue (keeps_method_row k.keep before at)

    virtual_moved : (at : RowAt) → KeepsMethod at → is_instance_virtual (method_row_at after (p.method at)) ≡ is_instance_virtual (method_row_at before at)
    virtual_moved at h = by_row (method_row_at before at) refl
      where
        by_row : (o : Option MethodDefRow) → method_row_at before at ≡ o → is_instance_virtual (method_row_at after (p.method at)) ≡ is_instance_virtual (method_row_at before at)
        by_row None e = ap is_instance_virtual ((r.methods at h).absent e ∙ sym e)
        by_row (Some m) e =
            let there = (r.methods at h).there m e in
            ap is_instance_virtual there.1 ∙ (λ i. there.2.virtual i && not (there.2.static i)) ∙ sym (ap is_instance_virtual e)

    body_moved : (e : TypeExpr) → IsTrue (keeps_expr k.keep e) → (at : RowAt) → KeepsMethod at → is_body after (move_expr k.rho e) (p.method at) ≡ is_body before e at
    body_moved e h at m =
        (λ i. virtual_moved at m i && have_method after (with_bases after (open_moved e i)) (p.method at))
        ∙ ap (λ (es : List TypeExpr). is_instance_virtual (method_row_at before at) && have_method after es (p.method at))
        (with_bases_moved k kept p after before r keeps later earlier (open_parent before e) (open_kept e h))
        ∙ ap (λ (b : Bool). is_instance_virtual (method_row_at before at) && b)
        (have_moved k kept p after before r keeps apart at m (with_bases before (open_parent before e)) (with_bases_kept k kept p after before r keeps (open_parent before e) (open_kept e h)))

    at_by : (at : RowAt) (b : Bool) → (if b then Some (p.method at) else None) ≡ option_map p.method (if b then Some at else None)
    at_by at true = refl
    at_by at false = refl

    body_at_moved : (e : TypeExpr) → IsTrue (keeps_expr k.keep e) → (at : RowAt) → KeepsMethod at → body_at after (move_expr k.rho e) (p.method at) ≡ option_map p.method (body_at before e at)
    body_at_moved e h at m = ap (λ (b : Bool). if b then Some (p.method at) else None) (body_moved e h at m) ∙ at_by at (is_body before e at)

    -- ---- a row whose body is kept

    body_by : (e : TypeExpr) → IsTrue (keeps_expr k.keep e) → (o : Option RowAt) → ((at : RowAt) → o ≡ Some at → KeepsMethod at)
        → option_and_then (body_at after (move_expr k.rho e)) (option_map p.method o) ≡ option_map p.method (option_and_then (body_at before e) o)
    body_by e h None g = refl
    body_by e h (Some at) g = body_at_moved e h at (g at refl)

    method_kept : (m : ℕ) (at : RowAt) → IsTrue (k.keep.method m) → home_from methods_in 0 before m ≡ Some at → KeepsMethod at
    method_kept m at h e = subst (λ (n : ℕ). IsTrue (k.keep.method n)) (sym (has_number methods_in before m at e)) h

    declared_by : (b : Bool) (x : Option RowAt) → (if b then option_map p.method x else None) ≡ option_map p.method (if b then x else None)
    declared_by true x = refl
    declared_by false x = refl

    module _ (e : TypeExpr) (kept_type : IsTrue (keeps_expr k.keep e)) (tests_after tests_before : MethodUse → Bool)
        (same : (d : MethodUse) → IsTrue (k.keep.method d.method.0) → tests_after (move_use k.rho d) ≡ tests_before d) where
      pub impl_moved : (i : Impl) → IsTrue (keeps_impl k.keep i) → IsTrue (k.keep.method i.declaration.method.0)
          → of_impl after (move_expr k.rho e) tests_after (move_impl k.rho i) ≡ option_map p.method (of_impl before e tests_before i)
      impl_moved i h g =
          ap (λ (b : Bool). if b then option_and_then (body_at after (move_expr k.rho e)) (method_home after (move_use k.rho i.body).method) else None) (same i.declaration g)
          ∙ ap (λ (x : Option RowAt). if tests_before i.declaration then x else None)
          (ap (option_and_then (body_at after (move_expr k.rho e))) (r.places.method_homes i.body.method.0 h)
          ∙ body_by e kept_type (method_home before i.body.method) (λ at is. method_kept i.body.method.0 at h is))
          ∙ declared_by (tests_before i.declaration) (option_and_then (body_at before e) (method_home before i.body.method))

      -- the body that is found is the row's
      is_found : (at m : RowAt) (b : Bool) → (if b then Some at else None) ≡ Some m → at ≡ m
      is_found at m true e = cc
      is_found at m false e = absurd (cc)

      found_home : (o : Option RowAt) (m : RowAt) → option_and_then (body_at before e) o ≡ Some m → o ≡ Some m
      found_home None m f = absurd (cc)
      found_home (Some at) m f = ap Some (is_found at m (is_body before e at) f)

      found_body : (i : Impl) (m : RowAt) (b : Bool) → (if b then option_and_then (body_at before e) (method_home before i.body.method) else None) ≡ Some m → KeepsMethod m → IsTrue (keeps_impl k.keep i)
      found_body i m true f h =
          subst (λ (n : ℕ). IsTrue (k.keep.method n)) (has_number methods_in before i.body.method.0 m (found_home (method_home before i.body.method) m f)) h
      found_body i m false f h = absurd (cc)

      some_at : KeepsImpls k.keep before → (o : Option RowAt) → ((at : RowAt) → o ≡ Some at → IsTrue (keeps_type_row k.keep before at))
          → ((m : RowAt) → option_and_then (λ (at : RowAt). first_some (of_impl before e tests_before) (impls_at before at)) o ≡ Some m → KeepsMethod m)
          → option_and_then (λ (at : RowAt). first_some (of_impl after (move_expr k.rho e) tests_after) (impls_at after at)) (option_map p.typ o)
          ≡ option_map p.method (option_and_then (λ (at : RowAt). first_some (of_impl before e tests_before) (impls_at before at)) o)
      some_at impls None h g = refl
      some_at impls (Some at) h g =
          ap (first_some (of_impl after (move_expr k.rho e) tests_after)) ((r.types at (h at refl)).impls)
          ∙ some_moved p.method (keeps_impl k.keep) (move_impl k.rho) (of_impl before e tests_before) (of_impl after (move_expr k.rho e) tests_after) KeepsMethod
          (λ i m f u. found_body i m (tests_before i.declaration) f u) (impls_at before at) (λ i c u. impl_moved i u (impls.declared at i (h at refl) c u)) g

      pub impl_in_moved : KeepsImpls k.keep before → ((m : RowAt) → impl_in before tests_before e ≡ Some m → KeepsMethod m)
          → impl_in after tests_after (move_expr k.rho e) ≡ option_map p.method (impl_in before tests_before e)
      impl_in_moved impls g =
          impl_is after (move_expr k.rho e) tests_after
          ∙ ap (option_and_then (λ (at : RowAt). first_some (of_impl after (move_expr k.rho e) tests_after) (impls_at after at))) (home_moved k kept p after before r keeps e kept_type)
          ∙ some_at impls (home_of before e) (λ at is. home_kept k kept p after before r keeps e at kept_type is) (λ m is. g m (impl_is before e tests_before ∙ is))
          ∙ sym (ap (option_map p.method) (impl_is before e tests_before))
