-- MethodImpl rows of kept classes are read in the output as they were, moved, where their body is kept.
use Rattle.std.proofs.Common.{◌≡◌, ◌<◌, ℕ, zero, suc, ◌%◌, Bool, true, false, cond, List, [], ◌∷◌, ◌++◌, length, map, Option, Some, None, ◌⊎◌, inl, inr, refl, sym, ap, subst, ◌∙◌, ◌||◌, arith}
use Rattle.std.specs.Prelude.{slice_get, ◌==◌, if◌then◌else◌}
use Rattle.std.specs.List.{list_any, flat_map, filter}
use Rattle.std.specs.Option.{option_map, option_and_then}
use Rattle.std.proofs.lemmas.Bool.{and_from, eq-eqb, eqb-true}
use Rattle.il_base.specs.declared.ids.MethodId.{MethodId}
use Rattle.il_base.specs.declared.ids.Item.{Item}
use Rattle.il_base.specs.declared.ids.Item.TheVariants as item
use Rattle.il_base.specs.declared.table.TheConstants.{TYPE_DEF, METHOD_DEF, MEMBER_REF, METHOD_SPEC}
use Rattle.il_base.specs.declared.cli_format.column.CodedIndex.TheVariants.{MethodDefOrRef}
use Rattle.il_base.specs.declared.world_model.known.Known.{Known}
use Rattle.il_base.specs.declared.world_model.known.Known.TheVariants.{Good, Bad}
use Rattle.il_base.specs.declared.world_model.known.BadKind.{BadKind}
use Rattle.il_base.specs.declared.world_model.expr.MethodUse.{MethodUse}
use Rattle.il_base.specs.declared.world_model.members.MethodImplRow.{MethodImplRow}
use Rattle.il_base.specs.declared.world_model.record.AsmRec.{AsmRec}
use Rattle.il_base.specs.world_model.Tokens.{token_of, table_of, index_from, row_index, index_in}
use Rattle.il_base.specs.world_model.Worlds.{types_in}
use Rattle.rules.specs.declared.link_rules.row_at.RowAt.{RowAt}
use Rattle.rules.specs.link_rules.Types.{at_row}
use Rattle.rules.specs.link_rules.Members.{methods_in, generic_method}
use Rattle.rules.specs.link_rules.Cycles.{listed}
use Rattle.rules.specs.type_rules.Rows.{rec_at}
use Rattle.rules.specs.type_rules.Slots.{method_row_at}
use Rattle.rules.specs.type_rules.Dispatch.{good_use}
use Rattle.rules.specs.mark_rules.Naming.{method_named}
use Rattle.rules.specs.mark_rules.Places.{is_core, type_item}
use Rattle.rules.specs.merge_rules.Numbers.{kept_types}
use Rattle.rules.specs.merge_rules.Keys.{MethodKey, own_method, found_method, is_plain_owner, good, method_key_of, method_key, instance_key}
use Rattle.rules.specs.merge_rules.Order.{Met, met_callee, is_kept_method, is_impl_of, met_impls, met_in_type, met_by_types}
use Rattle.rules.specs.merge_rules.Attributes.{met_by_attributes}
use Rattle.rules.specs.merge_rules.Refs.{method_token, instance_token}
use Rattle.rules.specs.merge_rules.Moved.{token_or_none, moved_callee}
use Rattle.rules.specs.merge_rules.Restricted.{impl_row, has_kept_body, output_of}
use Rattle.rules.specs.change_rules.Change.{Keep}
use Rattle.rules.specs.change_rules.Moves.{move_use}
use Rattle.base_laws.proofs.lemmas.type_laws.Within.{In, in_front, in_behind, flat_in, listed_in}
use Rattle.rules.specs.world_change_rules.Rows.{Impl, move_impl, impl_by, keeps_impl}
use Rattle.rules.specs.merged_world_rules.Merge.{Merge, IsMerge, before, after, output}
use Rattle.rules.specs.merged_world_rules.Numbering.{number_at}
use Rattle.rules.specs.merged_world_rules.NewNumbers.{rho_of}
use Rattle.merge_laws.proofs.lemmas.merged_places.Rows.{IsThere, place_has}
use Rattle.merge_laws.proofs.lemmas.merged_places.Tables.{number_type, those_at}
use Rattle.merge_laws.proofs.lemmas.merged_record.Tokens.{of_coded}
use Rattle.merge_laws.proofs.lemmas.merged_references.Lists.{contains, contained}
use Rattle.merge_laws.specs.merged_rows_move.Premises.{uses_of, ReadsImpl}
use Rattle.merge_laws.proofs.lemmas.merged_rows_move.Members.{record_of}
use Rattle.merge_laws.proofs.lemmas.merged_rows_move.Nesting.{NamesRow, names_row_is}
use Rattle.trim_laws.specs.marked_merge_rules.Reads.{AreMet}
use Rattle.trim_laws.specs.merged_uses.Laws.{Reads}
use Rattle.trim_laws.proofs.lemmas.merged_uses.Uses.{ByToken, own_row, reference, by_token}
use Rattle.trim_laws.proofs.lemmas.merged_uses.Callees.{keeps_method, searched}
use Rattle.trim_laws.proofs.lemmas.merged_uses.Named.{stands}
use Rattle.trim_laws.proofs.lemmas.merged_uses.Tokens.{none_bad, generic_good, plain_named, key_is, plain_reads}

-- ---- lists

no_spec : (t : ℕ) → list_any (λ u. u == t) (METHOD_DEF ∷ MEMBER_REF ∷ []) ≡ true → (t == METHOD_SPEC) ≡ false
no_spec t h = by_test (t == METHOD_SPEC) refl
  where
    by_test : (b : Bool) → (t == METHOD_SPEC) ≡ b → b ≡ false
    by_test true e =
        let same = eqb-true t METHOD_SPEC e in
        let bad : true ≡ false = sym h ∙ ap (λ (n : ℕ). list_any (λ u. u == n) (METHOD_DEF ∷ MEMBER_REF ∷ [])) same in
        absurd (cc)
    by_test false e = refl

pub at_in : {A : Type 0} (xs : List A) (i : ℕ) (x : A) → slice_get xs i ≡ Some x → In x xs
at_in [] i x e = absurd (cc)
at_in (y ∷ xs) zero x e = let same : y ≡ x = cc in inl (sym same)
at_in (y ∷ xs) (suc i) x e = inr (at_in xs i x e)

filtered : {A : Type 0} (p : A → Bool) (x y : A) (xs : List A) (b : Bool) → p y ≡ b → p x ≡ true → (In x xs → In x (filter p xs)) → (x ≡ y) ⊎ In x xs → In x (cond b (y ∷ filter p xs) (filter p xs))
filtered p x y xs true e h more (inl same) = inl same
filtered p x y xs true e h more (inr i) = inr (more i)
filtered p x y xs false e h more (inl same) = let bad : true ≡ false = sym h ∙ ap p same ∙ e in absurd (cc)
filtered p x y xs false e h more (inr i) = more i

to_filter : {A : Type 0} (p : A → Bool) (x : A) (xs : List A) → p x ≡ true → In x xs → In x (filter p xs)
to_filter p x [] h i = absurd i
to_filter p x (y ∷ xs) h i = filtered p x y xs (p y) refl h (to_filter p x xs h) i

or_none : (b : Bool) → (b || false) ≡ b
or_none true = refl
or_none false = refl

suc_of : (n j : ℕ) → index_from n ≡ Some j → n ≡ suc j
suc_of zero j e = absurd (cc)
suc_of (suc i) j e = let same : i ≡ j = cc in ap suc same

-- ---- pairs of a declaration and a body

abbrev pairs : Option MethodUse → Option MethodUse → List Impl
pairs od ob = flat_map (λ d. map (impl_by d) (listed ob)) (listed od)

module _ (m : Merge) (k : Keep) where
  abbrev mv : MethodUse → MethodUse
  mv = move_use (rho_of m)

  pairs_kept : (od ob : Option MethodUse) → ((b : MethodUse) → ob ≡ Some b → k.method b.method.0 ≡ true) → pairs (option_map mv od) (option_map mv ob) ≡ map (move_impl (rho_of m)) (filter (keeps_impl k) (pairs od ob))
  pairs_kept None ob h = refl
  pairs_kept (Some d) None h = refl
  pairs_kept (Some d) (Some b) h = sym (ap (λ (c : Bool). map (move_impl (rho_of m)) (cond c (impl_by d b ∷ []) [])) (h b refl))

  pairs_gone : (od ob : Option MethodUse) → ((b : MethodUse) → ob ≡ Some b → k.method b.method.0 ≡ false) → filter (keeps_impl k) (pairs od ob) ≡ []
  pairs_gone None ob h = refl
  pairs_gone (Some d) None h = refl
  pairs_gone (Some d) (Some b) h = ap (λ (c : Bool). cond c (impl_by d b ∷ []) []) (h b refl)

-- whether a key's method is kept
key_kept : (recs : List AsmRec) (q : Item → Bool) (c : Bool) (u : MethodUse) → is_kept_method recs q (method_key_of recs c u) ≡ (q (item.Method u.method) || is_core recs (item.Method u.method))
key_kept recs q c u = by_test (c || is_plain_owner recs u.owner)
  where
    by_test : (b : Bool) → is_kept_method recs q (if b then own_method u.method else found_method u.method u.owner) ≡ (q (item.Method u.method) || is_core recs (item.Method u.method))
    by_test true = refl
    by_test false = refl

good_is : (x : Known MethodUse) (u : MethodUse) → good_use x ≡ Some u → x ≡ Good u
good_is (Good v) u e = let same : v ≡ u = cc in ap Good same
good_is (Bad why) u e = absurd (cc)

module _ (m : Merge) (k : Keep) (kept : RowAt → Bool) (r : Reads m k kept) (a : ℕ) (rec : AsmRec) (there : slice_get (before m) a ≡ Some rec) (input : suc a < length (before m)) where
  abbrev is : IsMerge m
  is = r.merge

  -- ---- a method that is named is there

  pub record StandsAt (u : MethodUse) : Type 0 where
    pub at : RowAt
    pub asm_rec : AsmRec
    pub is_there : slice_get (before m) at.asm ≡ Some asm_rec
    pub below : at.row < methods_in asm_rec
    pub same : record { 0 = number_at methods_in (before m) at } ≡ u.method

  token_stands : (token : ℕ) (u : MethodUse) → ByToken (before m) a rec token u → StandsAt u
  token_stands token u (own_row e b) =
      record { at = at_row a b.at; asm_rec = rec; is_there = there; below = b.below; same = ap (λ (v : MethodUse). v.method) b.used.same }
  token_stands token u (reference e b) =
      let s = searched m k kept r a rec there input u b in
      let w = stands m k kept r a rec there input b.found.at s.row s.row_there in
      record { at = b.found.at; asm_rec = w.asm_rec; is_there = w.is_there; below = w.below; same = ap (λ (v : MethodUse). v.method) b.used.same }

  flag_by : (u : MethodUse) (s : StandsAt u) (b : Bool) → (m.kept (item.Method u.method) || is_core (before m) (item.Method u.method)) ≡ b → k.method u.method.0 ≡ b
  flag_by u s true h =
      ap (λ (x : MethodId). k.method x.0) (sym s.same)
      ∙ keeps_method m k kept r s.at s.asm_rec s.is_there s.below (ap (λ (x : MethodId). m.kept (item.Method x) || is_core (before m) (item.Method x)) s.same ∙ h)
  flag_by u s false h =
      let row = place_has s.asm_rec.method_def s.at.row s.below in
      let e : method_row_at (before m) s.at ≡ Some row.0 = ap (option_and_then (λ (x : AsmRec). slice_get x.method_def s.at.row)) s.is_there ∙ row.1 in
      ap (λ (x : MethodId). k.method x.0) (sym s.same) ∙ r.flags.methods s.at row.0 e ∙ ap (λ (x : MethodId). m.kept (item.Method x)) s.same
      ∙ first_false (m.kept (item.Method u.method)) (is_core (before m) (item.Method u.method)) h
    where
      first_false : (x y : Bool) → (x || y) ≡ false → x ≡ false
      first_false true y h = h
      first_false false y h = refl

  flag_is : (token : ℕ) (u : MethodUse) → generic_method (before m) a rec token ≡ Good u → (b : Bool) → (list_any (is_kept_method (before m) m.kept) (listed (method_key (before m) a rec token))) ≡ b → k.method u.method.0 ≡ b
  flag_is token u h b e =
      let f = key_is (before m) a rec token u (generic_good (before m) a rec token u h) in
      let g : (m.kept (item.Method u.method) || is_core (before m) (item.Method u.method)) ≡ b =
      sym (key_kept (before m) m.kept (table_of token == METHOD_DEF) u) ∙ sym (or_none (is_kept_method (before m) m.kept (method_key_of (before m) (table_of token == METHOD_DEF) u)))
      ∙ ap (λ (o : Option MethodKey). list_any (is_kept_method (before m) m.kept) (listed o)) (sym f) ∙ e in
      flag_by u (token_stands token u (by_token (before m) a rec token u h)) b g

  -- ---- a token of a row

  none_callee : (token : ℕ) → (table_of token == METHOD_SPEC) ≡ false → method_key (before m) a rec token ≡ None → moved_callee (output m) a rec token ≡ 0
  unfolding moved_callee output_of
  none_callee token e f =
      ap (λ (b : Bool). if b then token_or_none (instance_token (output m)) (instance_key (before m) a rec token) else token_or_none (method_token (output m)) (method_key (before m) a rec token)) e
      ∙ ap (token_or_none (method_token (output m))) f

  none_key : (token : ℕ) (why : BadKind) → method_named (before m) a rec token ≡ Bad why → method_key (before m) a rec token ≡ None
  unfolding method_key
  none_key token why h = ap (λ (x : Known MethodUse). option_map (method_key_of (before m) (table_of token == METHOD_DEF)) (good x)) h

  token_by : (token : ℕ) → (table_of token == METHOD_SPEC) ≡ false → AreMet m (met_callee (before m) a rec token) → (x : Known MethodUse) → generic_method (before m) a rec token ≡ x
      → good_use (generic_method (after m) 0 m.left (moved_callee (output m) a rec token)) ≡ option_map (move_use (rho_of m)) (good_use x)
  token_by token e met (Good u) h = ap good_use (plain_reads m k kept r a rec there input token u e met h)
  token_by token e met (Bad why) h =
      ap (λ (n : ℕ). good_use (generic_method (after m) 0 m.left n)) (none_callee token e (none_key token why (plain_named (before m) a rec token e ∙ h)))
      ∙ ap good_use (none_bad (after m) 0 m.left)

  token_moves : (token : ℕ) → (table_of token == METHOD_SPEC) ≡ false → AreMet m (met_callee (before m) a rec token)
      → good_use (generic_method (after m) 0 m.left (moved_callee (output m) a rec token)) ≡ option_map (move_use (rho_of m)) (good_use (generic_method (before m) a rec token))
  token_moves token e met = token_by token e met (generic_method (before m) a rec token) refl

  -- ---- a row

  module _ (i j : ℕ) (row : MethodImplRow) (at_i : slice_get rec.method_impl i ≡ Some row) (class : index_in TYPE_DEF row.class ≡ Some j) (stays : m.kept (type_item (before m) (at_row a j)) ≡ true) where
    abbrev here : RowAt
    here = at_row a j

    names : NamesRow rec row.class
    names = names_row_is rec row.class ((record_of m is a rec there input).tokens.method_impls i row at_i).0

    body_plain : (table_of row.body == METHOD_SPEC) ≡ false
    body_plain = no_spec (table_of row.body) (of_coded rec MethodDefOrRef row.body ((record_of m is a rec there input).tokens.method_impls i row at_i).1).table

    declaration_plain : (table_of row.declaration == METHOD_SPEC) ≡ false
    declaration_plain = no_spec (table_of row.declaration) (of_coded rec MethodDefOrRef row.declaration ((record_of m is a rec there input).tokens.method_impls i row at_i).2).table

    class_row : row_index row.class ≡ Some j
    class_row = sym (ap (λ (b : Bool). if b then row_index row.class else None) (eq-eqb (table_of row.class) TYPE_DEF names.table)) ∙ class

    class_is : row.class ≡ token_of TYPE_DEF (suc j)
    class_is =
        let t = names.table in
        let s : row.class % 16777216 ≡ suc j = suc_of (row.class % 16777216) j class_row in
        omega (arith, t, s)

    class_there : IsThere types_in (before m) here
    class_there =
        let f : Some names.place ≡ Some j = sym names.index ∙ class_row in
        let same : names.place ≡ j = cc in
        let lt = names.low in
        record { rec = rec; here = there; below = subst (λ (n : ℕ). n < types_in rec) same lt }

    type_in : In here (kept_types (before m) m.kept)
    unfolding kept_types
    type_in = at_in _ _ here (those_at types_in (before m) number_type m.kept here class_there input stays)

    module _ (body : has_kept_body (output m) a rec row ≡ true) where
      passes : is_impl_of (before m) m.kept here rec row ≡ true
      unfolding output_of
      passes =
          and_from (row.class == token_of TYPE_DEF (suc j)) (list_any (is_kept_method (before m) m.kept) (listed (method_key (before m) a rec row.body)))
          (eq-eqb row.class (token_of TYPE_DEF (suc j)) class_is) body

      in_impls : (x : Met) → In x (met_callee (before m) a rec row.body ++ met_callee (before m) a rec row.declaration) → In x (met_impls (before m) m.kept here)
      in_impls x h =
          flat_in (λ (c : AsmRec). flat_map (λ (y : MethodImplRow). met_callee (before m) a c y.body ++ met_callee (before m) a c y.declaration) (filter (is_impl_of (before m) m.kept here c) c.method_impl)) x rec (listed (rec_at (before m) here))
          (listed_in rec (rec_at (before m) here) there)
          (flat_in (λ (y : MethodImplRow). met_callee (before m) a rec y.body ++ met_callee (before m) a rec y.declaration) x row (filter (is_impl_of (before m) m.kept here rec) rec.method_impl)
          (to_filter (is_impl_of (before m) m.kept here rec) row rec.method_impl passes (at_in rec.method_impl i row at_i)) h)

      in_mets : (x : Met) → In x (met_callee (before m) a rec row.body ++ met_callee (before m) a rec row.declaration) → In x (output m).mets
      unfolding output_of met_by_types
      in_mets x h =
          in_front x (met_by_types (before m) m.kept) (met_by_attributes (before m) m.kept)
          (flat_in (met_in_type (before m) m.kept) x here (kept_types (before m) m.kept) type_in (in_behind x _ (met_impls (before m) m.kept here) (in_impls x h)))

      body_met : AreMet m (met_callee (before m) a rec row.body)
      body_met x c = contains (output m).mets x (in_mets x (in_front x (met_callee (before m) a rec row.body) (met_callee (before m) a rec row.declaration) (contained (met_callee (before m) a rec row.body) x c)))

      declaration_met : AreMet m (met_callee (before m) a rec row.declaration)
      declaration_met x c = contains (output m).mets x (in_mets x (in_behind x (met_callee (before m) a rec row.body) (met_callee (before m) a rec row.declaration) (contained (met_callee (before m) a rec row.declaration) x c)))

      row_kept : (n : ℕ) → uses_of (after m) 0 m.left (impl_row (output m) a rec row n) ≡ map (move_impl (rho_of m)) (filter (keeps_impl k) (uses_of (before m) a rec row))
      unfolding output_of
      row_kept n =
          (λ q. pairs (token_moves row.declaration declaration_plain declaration_met q) (token_moves row.body body_plain body_met q))
          ∙ pairs_kept m k (good_use (generic_method (before m) a rec row.declaration)) (good_use (generic_method (before m) a rec row.body))
          (λ b e. flag_is row.body b (good_is (generic_method (before m) a rec row.body) b e) true body)

    row_gone : has_kept_body (output m) a rec row ≡ false → filter (keeps_impl k) (uses_of (before m) a rec row) ≡ []
    unfolding output_of
    row_gone body =
        pairs_gone m k (good_use (generic_method (before m) a rec row.declaration)) (good_use (generic_method (before m) a rec row.body))
        (λ b e. flag_is row.body b (good_is (generic_method (before m) a rec row.body) b e) false body)

    pub impl_reads : ReadsImpl m k a rec row
    impl_reads = record { kept = λ body n. row_kept body n; gone = row_gone }
