-- What attributes meet: types of the world, and references that name nothing and may stay.
use Rattle.std.proofs.Common.{◌≡◌, ◌<◌, ℕ, zero, suc, List, [], ◌∷◌, ◌++◌, length, map, Bool, true, false, Option, Some, None, refl, sym, ap, subst, ◌∙◌, arith, eqb-true}
use Rattle.std.specs.Prelude.{slice_get, ◌==◌, if◌then◌else◌}
use Rattle.std.specs.List.{Contains, flat_map, list_any, list_all}
use Rattle.std.specs.Option.{option_map, option_and_then}
use Rattle.std.proofs.lemmas.Bool.{and_parts}
use Rattle.std.proofs.lemmas.List.Elements.{Contains-append_left, Contains-append_right}
use Rattle.il_base.specs.declared.ids.TypeId.{TypeId}
use Rattle.il_base.specs.declared.sig.Sig.{Sig, fold-roll-Sig, ind-Sig, roll-Sig}
use Rattle.il_base.specs.declared.sig.Sig.TheFolds.{map-Sig}
use Rattle.il_base.specs.declared.sig.Sig.TheOpen.{Sig-F}
use Rattle.il_base.specs.declared.sig.Sig.TheVariants as sig
use Rattle.il_base.specs.declared.sig.MethodSig.{MethodSig}
use Rattle.il_base.specs.declared.table.TheConstants as table
use Rattle.il_base.specs.declared.cli_format.column.CodedIndex.TheVariants.{HasCustomAttribute, CustomAttributeType}
use Rattle.il_base.specs.cli_format.Tokens.{coded_of}
use Rattle.il_base.specs.declared.world_model.known.Known.{Known}
use Rattle.il_base.specs.declared.world_model.known.Known.TheVariants.{Good, Bad}
use Rattle.il_base.specs.declared.world_model.expr.TypeExpr.{TypeExpr}
use Rattle.il_base.specs.declared.world_model.types.TypeSpecRow.{TypeSpecRow}
use Rattle.il_base.specs.declared.world_model.members.MemberRefRow.{MemberRefRow}
use Rattle.il_base.specs.declared.world_model.record.AsmRec.{AsmRec}
use Rattle.il_base.specs.world_model.Tokens.{table_of, row_index, index_in}
use Rattle.il_base.specs.world_model.Worlds.{row_below, types_in}
use Rattle.rules.specs.declared.link_rules.row_at.RowAt.{RowAt}
use Rattle.rules.specs.link_rules.Types.{at_row, or_else, ref_definition, definition_at, added_by}
use Rattle.rules.specs.link_rules.Signatures.{definition_expr, known_expr, named_type}
use Rattle.rules.specs.link_rules.Members.{array_type}
use Rattle.rules.specs.link_rules.Cycles.{listed}
use Rattle.base_laws.proofs.lemmas.known_laws.Lists.{from_listed, and_then_some, map_some}
use Rattle.rules.specs.mark_rules.Attributes.{ref_sig}
use Rattle.rules.specs.merge_rules.Absent.{absent_type}
use Rattle.rules.specs.merge_rules.Numbers.{Kept}
use Rattle.rules.specs.merge_rules.Keys.{TypeKey, named, spec, numbered_key, spec_key, type_key, MethodKey, absent_method, good, number_of, number_or, absent_number, found_or, class_number, modifier_number, world_layer, world_sig, world_sigs, world_method_sig, method_key}
use Rattle.rules.specs.merge_rules.Order.{met_method}
use Rattle.rules.specs.merge_rules.Refs.{numbers_layer, numbers_in}
use Rattle.trim_laws.specs.merged_scopes.Numbers.{numbers_of_sigs, numbers_of_key, numbers_of_method_sig, numbers_of_method, numbers_of_met}
use Rattle.rules.specs.merge_rules.Rows.{all_rows, kept_row_token}
use Rattle.rules.specs.merge_rules.Attributes.{may_refer, may_name, may_have, good_sigs, may_be_parent, may_take, is_copied, is_in_input, absent_constructor, copied_constructor, constructor_key, Attribute, attribute_with, attribute_in, kept_attributes, met_by_attributes}
use Rattle.merge_laws.specs.merged_record.Laws.{InputsAreRecords}
use Rattle.merge_laws.proofs.lemmas.merged_record.Lists.{from_all}
use Rattle.merge_laws.proofs.lemmas.merged_record.Sorting.{sorted_in}
use Rattle.merge_laws.proofs.lemmas.merged_record.Tokens.{of_coded}
use Rattle.merge_laws.proofs.lemmas.merged_owners.Every.{Every, all_none, all_one, all_more, all_join, all_flat, all_map, some_of}
use Rattle.merge_laws.proofs.lemmas.merged_tokens.Bodies.{no_spec}
use Rattle.merge_laws.proofs.lemmas.merged_standing.Low.{bound, IsLow, added_low}
use Rattle.trim_laws.proofs.lemmas.merged_scopes.Numbers.{of_layer, numbers_are, named_number, name_again, low_so}
use Rattle.trim_laws.proofs.lemmas.merged_scopes.Members.{method_reads}

module _ (recs : List AsmRec) (P : ℕ → Type 0) (there_so : (t : TypeId) → t.0 < bound recs → P (suc t.0)) (array : (t : TypeId) → array_type recs ≡ Some t → IsLow recs t) where
  abbrev All : List ℕ → Type 0
  All ns = Every P ns

  -- ---- signatures of which each token is so

  module _ (a : ℕ) (rec : AsmRec) (Token : ℕ → Type 0) (class : (token : ℕ) → Token token → P (class_number recs a rec token)) (modifier : (token : ℕ) → Token token → P (modifier_number recs a rec token)) where
    abbrev world : Sig → Sig
    world = world_sig recs a rec

    abbrev Moves : Sig → Type 0
    Moves s = Every Token (numbers_in s) → Every P (numbers_in (world s))

    abbrev Part : Type 0
    Part = (s : Sig) × Moves s

    first_of : (x : ℕ) (xs : List ℕ) → Every Token (x ∷ xs) → Token x
    first_of x xs h = h.each x (0, omega arith, refl)

    rest_of : (x : ℕ) (xs : List ℕ) → Every Token (x ∷ xs) → Every Token xs
    rest_of x xs h = record { each = λ y c. h.each y (suc c.0, let lt = c.1 in omega (arith, lt), c.2) }

    left_of : (xs ys : List ℕ) → Every Token (xs ++ ys) → Every Token xs
    left_of xs ys h = record { each = λ y c. h.each y (Contains-append_left xs ys y c) }

    right_of : (xs ys : List ℕ) → Every Token (xs ++ ys) → Every Token ys
    right_of xs ys h = record { each = λ y c. h.each y (Contains-append_right xs ys y c) }

    args_move : (xs : List Part) → Every Token (flat_map (λ ns. ns) (map numbers_in (map (λ x. x.0) xs))) → Every P (flat_map (λ ns. ns) (map numbers_in (map world (map (λ x. x.0) xs))))
    args_move [] h = all_none P
    args_move (x ∷ xs) h =
        let ns : List ℕ = numbers_in x.0 in
        let more : List ℕ = flat_map (λ ms. ms) (map numbers_in (map (λ y. y.0) xs)) in
        all_join P (numbers_in (world x.0)) (flat_map (λ ms. ms) (map numbers_in (map world (map (λ y. y.0) xs)))) (x.1 (left_of ns more h)) (args_move xs (right_of ns more h))

    abbrev layer : (x : Sig-F Sig) (s : Sig) → roll-Sig x ≡ s → Every P (numbers_layer (map-Sig Sig (List ℕ) numbers_in x)) → Every P (numbers_in s)
    layer = of_layer recs P there_so

    layer_move : (y : Sig-F Part) → Every Token (numbers_layer (map-Sig Sig (List ℕ) numbers_in (map-Sig Part Sig (λ x. x.0) y))) → Every P (numbers_in (world_layer recs a rec (map-Sig Sig Sig world (map-Sig Part Sig (λ x. x.0) y))))
    layer_move (Sig-F.Prim n) h = layer (Sig-F.Prim n) (sig.Prim n) (sig.rolls-Prim n) (all_none P)
    layer_move (Sig-F.Named v token) h =
        let k : ℕ = class_number recs a rec token in layer (Sig-F.Named v k) (sig.Named v k) (sig.rolls-Named v k) (all_one P k (class token (first_of token [] h)))
    layer_move (Sig-F.Array x) h = layer (Sig-F.Array (world x.0)) (sig.Array (world x.0)) (sig.rolls-Array (world x.0)) (x.1 h)
    layer_move (Sig-F.ByRef x) h = layer (Sig-F.ByRef (world x.0)) (sig.ByRef (world x.0)) (sig.rolls-ByRef (world x.0)) (x.1 h)
    layer_move (Sig-F.Inst v token xs) h =
        let k : ℕ = class_number recs a rec token in
        let ss : List Sig = map world (map (λ x. x.0) xs) in
        let more : List ℕ = flat_map (λ ns. ns) (map numbers_in (map (λ x. x.0) xs)) in
        layer (Sig-F.Inst v k ss) (sig.Inst v k ss) (sig.rolls-Inst v k ss) (all_more P k (flat_map (λ ns. ns) (map numbers_in ss)) (class token (first_of token more h)) (args_move xs (rest_of token more h)))
    layer_move (Sig-F.Var n) h = layer (Sig-F.Var n) (sig.Var n) (sig.rolls-Var n) (all_none P)
    layer_move (Sig-F.MVar n) h = layer (Sig-F.MVar n) (sig.MVar n) (sig.rolls-MVar n) (all_none P)
    layer_move (Sig-F.Mod required token x) h =
        let k : ℕ = modifier_number recs a rec token in
        layer (Sig-F.Mod required k (world x.0)) (sig.Mod required k (world x.0)) (sig.rolls-Mod required k (world x.0))
        (all_more P k (numbers_in (world x.0)) (modifier token (first_of token (numbers_in x.0) h)) (x.1 (rest_of token (numbers_in x.0) h)))
    layer_move (Sig-F.Pinned x) h = layer (Sig-F.Pinned (world x.0)) (sig.Pinned (world x.0)) (sig.rolls-Pinned (world x.0)) (x.1 h)

    rolled : (y : Sig-F Part) → Moves (roll-Sig (map-Sig Part Sig (λ x. x.0) y))
    unfolding world_sig
    rolled y h =
        let x : Sig-F Sig = map-Sig Part Sig (λ x. x.0) y in
        subst (λ (s : Sig). Every P (numbers_in s)) (sym (fold-roll-Sig Sig (world_layer recs a rec) x))
        (layer_move y (subst (Every Token) (numbers_are recs P there_so x (roll-Sig x) refl) h))

    sig_moves : (s : Sig) → Every Token (numbers_in s) → All (numbers_in (world s))
    sig_moves s h = ind-Sig Moves (λ x y is. subst (λ z. Moves (roll-Sig z)) is (rolled y)) s h

  -- ---- an attribute that is copied

  every_passes : (test : ℕ → Bool) (xs : List ℕ) → list_all test xs ≡ true → Every (λ x. test x ≡ true) xs
  every_passes test [] h = all_none (λ x. test x ≡ true)
  every_passes test (x ∷ xs) h = let p = and_parts (test x) (list_all test xs) h in all_more (λ y. test y ≡ true) x xs p.0 (every_passes test xs p.1)

  every_sig : (test : Sig → Bool) (xs : List Sig) → list_all test xs ≡ true → Every (λ x. test x ≡ true) xs
  every_sig test [] h = all_none (λ x. test x ≡ true)
  every_sig test (x ∷ xs) h = let p = and_parts (test x) (list_all test xs) h in all_more (λ y. test y ≡ true) x xs p.0 (every_sig test xs p.1)

  module _ (a : ℕ) (rec : AsmRec) (there : slice_get recs a ≡ Some rec) (refers : (k : ℕ) → may_refer recs a rec (length rec.type_ref) k ≡ true → ref_definition recs a rec k ≡ None → P (number_or (absent_type recs (at_row a k)) 0)) where
    abbrev May : ℕ → Type 0
    May token = may_name recs a rec token ≡ true

    -- ---- tokens

    ref_table : (token k : ℕ) → index_in table.TYPE_REF token ≡ Some k → (table_of token == table.TYPE_REF) ≡ true
    ref_table token k e = by_test (table_of token == table.TYPE_REF) e
      where
        by_test : (b : Bool) → (if b then row_index token else None) ≡ Some k → b ≡ true
        by_test true f = refl
        by_test false f = absurd (cc)

    ref_other : (token k t : ℕ) → index_in table.TYPE_REF token ≡ Some k → (table.TYPE_REF == t) ≡ false → (table_of token == t) ≡ false
    ref_other token k t e other = ap (λ (n : ℕ). n == t) (eqb-true (table_of token) table.TYPE_REF (ref_table token k e)) ∙ other

    -- a TypeRef token names what its row does
    ref_names : (token k : ℕ) → index_in table.TYPE_REF token ≡ Some k → definition_at recs a rec token ≡ ref_definition recs a rec k
    unfolding definition_at
    ref_names token k e =
        ap (λ (b : Bool). if b then option_map (at_row a) (row_below (types_in rec) (index_in table.TYPE_DEF token)) else option_and_then (ref_definition recs a rec) (index_in table.TYPE_REF token))
        (ref_other token k table.TYPE_DEF e refl)
        ∙ ap (option_and_then (ref_definition recs a rec)) e

    class_by : (token k : ℕ) (o : Option RowAt) → index_in table.TYPE_REF token ≡ Some k → may_refer recs a rec (length rec.type_ref) k ≡ true → ref_definition recs a rec k ≡ o → P (class_number recs a rec token)
    unfolding class_number named_type
    class_by token k (Some at) e h f =
        let is : known_expr recs (definition_at recs a rec token) ≡ Good (definition_expr recs at) = ap (known_expr recs) (ref_names token k e ∙ f) in
        named_class token k (definition_expr recs at) e is
      where
        named_class : (token k : ℕ) (e : TypeExpr) → index_in table.TYPE_REF token ≡ Some k → known_expr recs (definition_at recs a rec token) ≡ Good e → P (found_or (number_of recs (known_expr recs (definition_at recs a rec token))) (absent_number recs a token))
        named_class token k e f h =
            let other = ref_other token k table.TYPE_SPEC f refl in
            named_number recs P there_so a rec there token e (name_again recs P there_so a rec there token e other h) h
    class_by token k None e h f =
        let none : known_expr recs (definition_at recs a rec token) ≡ known_expr recs None = ap (known_expr recs) (ref_names token k e ∙ f) in
        let zero_first : number_of recs (known_expr recs (definition_at recs a rec token)) ≡ 0 = ap (number_of recs) none in
        let here : absent_number recs a token ≡ number_or (absent_type recs (at_row a k)) 0 = ap (λ (o : Option ℕ). number_or (option_and_then (λ j. absent_type recs (at_row a j)) o) 0) e in
        let all : found_or (number_of recs (known_expr recs (definition_at recs a rec token))) (absent_number recs a token) ≡ number_or (absent_type recs (at_row a k)) 0 = (λ i. found_or (zero_first i) (here i)) in
        subst P (sym all) (refers k h f)

    class_may : (token : ℕ) → May token → P (class_number recs a rec token)
    class_may token h =
        let k = some_of (may_refer recs a rec (length rec.type_ref)) (index_in table.TYPE_REF token) h in
        class_by token k.0 (ref_definition recs a rec k.0) k.1 k.2 refl

    modifier_may : (token : ℕ) → May token → P (modifier_number recs a rec token)
    modifier_may token h = by_added (added_by recs a rec token) refl
      where
        by_added : (o : Option TypeId) → added_by recs a rec token ≡ o → P (number_or o (class_number recs a rec token))
        by_added None e = class_may token h
        by_added (Some u) e = low_so recs P there_so u (added_low recs a rec there token u e)

    sig_may : (s : Sig) → may_have recs a rec s ≡ true → All (numbers_in (world_sig recs a rec s))
    sig_may s h = sig_moves a rec May class_may modifier_may s (every_passes (may_name recs a rec) (numbers_in s) h)

    sigs_may : (ss : List Sig) → list_all (may_have recs a rec) ss ≡ true → All (numbers_of_sigs (world_sigs recs a rec ss))
    sigs_may [] h = all_none P
    sigs_may (s ∷ ss) h =
        let p = and_parts (may_have recs a rec s) (list_all (may_have recs a rec) ss) h in
        all_join P (numbers_in (world_sig recs a rec s)) (numbers_of_sigs (world_sigs recs a rec ss)) (sig_may s p.0) (sigs_may ss p.1)

    -- ---- its parent

    numbered_may : (n : ℕ) (k : TypeKey) → P n → numbered_key n ≡ Some k → All (numbers_of_key k)
    numbered_may zero k h g = absurd (cc)
    numbered_may (suc t) k h g =
        let same : named (record { 0 = t }) ≡ k = cc in
        subst (λ (x : TypeKey). All (numbers_of_key x)) same (all_one P (suc t) h)

    spec_may : (o : Option TypeSpecRow) (k : TypeKey) → list_any (may_have recs a rec) (good_sigs o) ≡ true → spec_key recs a rec o ≡ Some k → All (numbers_of_key k)
    spec_may None k h g = absurd (cc)
    spec_may (Some row) k h g = by_sig row.signature h g
      where
        good_key : Known Sig → Option TypeKey
        good_key (Good s) = Some (spec (world_sig recs a rec s))
        good_key (Bad why) = None

        only : (b : Bool) → list_any (λ (c : Bool). c) (b ∷ []) ≡ true → b ≡ true
        only true e = refl
        only false e = absurd (cc)

        by_sig : (s : Known Sig) → list_any (may_have recs a rec) (listed (good s) ++ []) ≡ true → good_key s ≡ Some k → All (numbers_of_key k)
        by_sig (Good s) h g =
            let same : spec (world_sig recs a rec s) ≡ k = cc in
            subst (λ (x : TypeKey). All (numbers_of_key x)) same (sig_may s (only (may_have recs a rec s) h))
        by_sig (Bad why) h g = absurd (cc)

    parent_by : (token : ℕ) (k : TypeKey) (b : Bool)
        → (if b then list_any (may_have recs a rec) (good_sigs (option_and_then (slice_get rec.type_spec) (index_in table.TYPE_SPEC token))) else may_name recs a rec token) ≡ true
        → (if b then spec_key recs a rec (option_and_then (slice_get rec.type_spec) (index_in table.TYPE_SPEC token)) else numbered_key (class_number recs a rec token)) ≡ Some k → All (numbers_of_key k)
    parent_by token k true h g = spec_may (option_and_then (slice_get rec.type_spec) (index_in table.TYPE_SPEC token)) k h g
    parent_by token k false h g = numbered_may (class_number recs a rec token) k (class_may token h) g

    parent_may : (token : ℕ) (k : TypeKey) → may_be_parent recs a rec token ≡ true → type_key recs a rec token ≡ Some k → All (numbers_of_key k)
    unfolding type_key
    parent_may token k h g = parent_by token k (table_of token == table.TYPE_SPEC) h g

    -- ---- constructors

    copied_or : (row : MemberRefRow) (token : ℕ) (m : MethodKey) (o : Option MethodKey) → method_key recs a rec token ≡ o → (table_of token == table.METHOD_SPEC) ≡ false → is_copied recs a rec row ≡ true
        → or_else o (absent_constructor recs a rec row) ≡ Some m → All (numbers_of_method recs m)
    copied_or row token m (Some k) e s c h = let same : k ≡ m = cc in subst (λ (x : MethodKey). All (numbers_of_method recs x)) same (method_reads recs P there_so a rec there array token k s e)
    copied_or row token m None e s c h =
        let both = and_parts (may_be_parent recs a rec row.class) (list_any (may_take recs a rec) (listed (good (ref_sig row)))) c in
        let p = and_then_some (λ p. option_map (λ s. absent_method p row.name (world_method_sig recs a rec s)) (good (ref_sig row))) (type_key recs a rec row.class) m h in
        let q = map_some (λ s. absent_method p.0 row.name (world_method_sig recs a rec s)) (good (ref_sig row)) m p.2 in
        let t = some_of (may_take recs a rec) (good (ref_sig row)) both.1 in
        let same : t.0 ≡ q.0 = (let f = t.1 in let g = q.1 in cc) in
        let takes : list_all (may_have recs a rec) (q.0.ret ∷ q.0.params) ≡ true = subst (λ (x : MethodSig). may_take recs a rec x ≡ true) same t.2 in
        subst (λ (x : MethodKey). All (numbers_of_method recs x)) q.2
        (all_join P (numbers_of_key p.0) (numbers_of_method_sig (world_method_sig recs a rec q.0)) (parent_may row.class p.0 both.0 p.1) (sigs_may (q.0.ret ∷ q.0.params) takes))

    copied_by : (row : MemberRefRow) (token : ℕ) (m : MethodKey) (b : Bool) → is_copied recs a rec row ≡ b → (table_of token == table.METHOD_SPEC) ≡ false
        → (if b then or_else (method_key recs a rec token) (absent_constructor recs a rec row) else None) ≡ Some m → All (numbers_of_method recs m)
    copied_by row token m true c s h = copied_or row token m (method_key recs a rec token) refl s c h
    copied_by row token m false c s h = absurd (cc)

    constructor_by : (token : ℕ) (m : MethodKey) (b : Bool) → (table_of token == table.METHOD_SPEC) ≡ false
        → (if b then method_key recs a rec token else option_and_then (copied_constructor recs a rec token) (option_and_then (slice_get rec.member_ref) (index_in table.MEMBER_REF token))) ≡ Some m → All (numbers_of_method recs m)
    constructor_by token m true s h = method_reads recs P there_so a rec there array token m s h
    constructor_by token m false s h =
        let r = and_then_some (copied_constructor recs a rec token) (option_and_then (slice_get rec.member_ref) (index_in table.MEMBER_REF token)) m h in
        copied_by r.0 token m (is_copied recs a rec r.0) refl s r.2

    pub constructor_fine : (token : ℕ) (m : MethodKey) → (table_of token == table.METHOD_SPEC) ≡ false → constructor_key recs a rec token ≡ Some m → All (numbers_of_method recs m)
    unfolding constructor_key
    constructor_fine token m s h = constructor_by token m (is_in_input recs a rec token) s h

  -- ---- all attributes

  module _ (records : InputsAreRecords recs) (refers : (a : ℕ) (rec : AsmRec) → slice_get recs a ≡ Some rec → suc a < length recs → (k : ℕ) → may_refer recs a rec (length rec.type_ref) k ≡ true → ref_definition recs a rec k ≡ None
      → P (number_or (absent_type recs (at_row a k)) 0)) (kept : Kept) where
    attribute_fine : (x : Attribute) → Contains (kept_attributes recs kept) x → All (numbers_of_method recs x.ctor)
    unfolding kept_attributes
    attribute_fine x c =
        let r = from_all (λ rec. rec.custom_attribute) (attribute_in recs kept) recs x (sorted_in (λ (y : Attribute). coded_of HasCustomAttribute y.parent) (all_rows (λ rec. rec.custom_attribute) (attribute_in recs kept) recs) x c) in
        let is = (records r.asm r.rec r.input.within r.input.there).tokens.custom_attributes r.place r.row r.there in
        let s = no_spec (table_of r.row.ctor) (of_coded r.rec CustomAttributeType r.row.ctor is.1).table in
        let Q : Attribute → Type 0 = λ y. All (numbers_of_method recs y.ctor) in
        (all_flat Q (λ parent. map (attribute_with r.row.value parent) (listed (constructor_key recs r.asm r.rec r.row.ctor))) (listed (kept_row_token recs kept r.asm r.row.parent))
        (λ parent d.
        all_map Q (attribute_with r.row.value parent) (listed (constructor_key recs r.asm r.rec r.row.ctor))
        (λ m e. constructor_fine r.asm r.rec r.input.there (refers r.asm r.rec r.input.there r.input.within) r.row.ctor m s (from_listed (constructor_key recs r.asm r.rec r.row.ctor) m e)))).each x r.inside

    pub attributes_met_fine : Every (λ x. Every P (numbers_of_met recs x)) (met_by_attributes recs kept)
    unfolding met_by_attributes
    attributes_met_fine = all_map (λ x. Every P (numbers_of_met recs x)) (λ (x : Attribute). met_method x.ctor) (kept_attributes recs kept) attribute_fine
