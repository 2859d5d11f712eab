-- The interfaces of a kept type are those of its rows that are kept, in their order (II.22.23).
use Rattle.std.proofs.Common.{◌≡◌, ◌<◌, ◌≤◌, ℕ, zero, suc, ◌+◌, ◌%◌, Bool, true, false, cond, nat_eq, List, [], ◌∷◌, ◌++◌, length, map, Option, Some, None, ◌⊎◌, inl, inr, refl, sym, ap, subst, ◌∙◌, arith}
use Rattle.std.specs.Prelude.{IsTrue, slice_get, ◌==◌, ◌&&◌, ◌||◌, if◌then◌else◌}
use Rattle.std.specs.List.{Contains, list_any, flat_map, filter}
use Rattle.std.specs.Option.{option_map, option_and_then}
use Rattle.std.proofs.lemmas.Bool.{eqb-true, eq-eqb, cases_lt, and_from}
use Rattle.std.proofs.lemmas.List.{append-nil, map-append}
use Rattle.std.proofs.lemmas.Grind.{flat_map-append}
use Rattle.std.proofs.lemmas.List.Elements.{filter-append, Contains-append_left, Contains-append_right}
use Rattle.il_base.specs.declared.table.TheConstants.{TYPE_DEF}
use Rattle.il_base.specs.declared.world_model.known.Known.{Known}
use Rattle.il_base.specs.declared.world_model.known.Known.TheVariants.{Good, Bad}
use Rattle.il_base.specs.declared.world_model.known.BadKind.TheVariants.{Unresolved}
use Rattle.il_base.specs.declared.world_model.expr.TypeExpr.{TypeExpr}
use Rattle.il_base.specs.declared.world_model.types.InterfaceImplRow.{InterfaceImplRow}
use Rattle.il_base.specs.declared.world_model.record.AsmRec.{AsmRec}
use Rattle.il_base.specs.world_model.Tokens.{token_of, table_of, row_index, index_in}
use Rattle.il_base.specs.world_model.Worlds.{types_in}
use Rattle.il_base.specs.core_table.Record.{core_record, record_with}
use Rattle.rules.specs.declared.link_rules.row_at.RowAt.{RowAt}
use Rattle.rules.specs.link_rules.CoreNames.{core_with}
use Rattle.rules.specs.link_rules.Types.{at_row}
use Rattle.rules.specs.link_rules.Signatures.{token_type}
use Rattle.rules.specs.link_rules.Members.{good_type}
use Rattle.rules.specs.link_rules.Cycles.{listed, home_of, is_interface_at, is_interface, only_interface, interface_of, interfaces_in, interfaces_at}
use Rattle.rules.specs.type_rules.Rows.{rec_at, each_from}
use Rattle.rules.specs.mark_rules.Places.{impl_item}
use Rattle.rules.specs.merge_rules.Numbers.{Kept, inputs_from, inputs, kept_types}
use Rattle.rules.specs.merge_rules.Keys.{TypeKey, type_key}
use Rattle.rules.specs.merge_rules.Order.{Met, met_type, met_types, met_interface, met_interfaces, met_in_type, met_by_types}
use Rattle.rules.specs.merge_rules.Attributes.{met_by_attributes}
use Rattle.rules.specs.merge_rules.Rows.{all_rows, place_token, SortedRow, sorted_at, class_token, sorted_impl, kept_interfaces}
use Rattle.rules.specs.merge_rules.Moved.{moved_type}
use Rattle.rules.specs.merge_rules.Restricted.{each_at, each_sorted, new_impl, output_of}
use Rattle.rules.specs.change_rules.Change.{Keep}
use Rattle.rules.specs.change_rules.Moves.{move_expr}
use Rattle.rules.specs.change_rules.Keeps.{keeps_expr}
use Rattle.rules.specs.world_change_rules.Places.{keeps_type_row}
use Rattle.rules.specs.world_change_rules.Rows.{kept_interface_of, kept_interfaces_in, kept_interfaces_at}
use Rattle.run_laws.proofs.lemmas.query_laws.Homes.{home_goes, home_stays}
use Rattle.rules.specs.merged_world_rules.Merge.{Merge, before, after, output, IsMerge}
use Rattle.rules.specs.merged_world_rules.Numbering.{number_at}
use Rattle.rules.specs.merged_world_rules.NewNumbers.{rho_of, change_of, places_of}
use Rattle.rules.specs.merged_world_rules.Kept.{HasFlags}
use Rattle.merge_laws.proofs.lemmas.merged_places.Ranks.{rank}
use Rattle.merge_laws.proofs.lemmas.merged_places.Rows.{place_within, place_past}
use Rattle.merge_laws.proofs.lemmas.merged_places.Kept.{keeps}
use Rattle.merge_laws.proofs.lemmas.merged_places.Worlds.{core_of, left_core, after_is, after_left, after_core, core_at, left_is}
use Rattle.merge_laws.proofs.lemmas.merged_places.Tables.{number_type, type_rows as kept_type_rows, type_kind, those_at}
use Rattle.merge_laws.proofs.lemmas.merged_places.Situations.{place, situation, Input, Core, Gone}
use Rattle.merge_laws.proofs.lemmas.merged_places.Whole.{undone_of, places_move, type_stays}
use Rattle.merge_laws.specs.merged_rows_move.Premises.{IsMet, ReadsTokens, HasGoodInterfaces}
use Rattle.merge_laws.proofs.lemmas.merged_rows_move.Members.{record_of}
use Rattle.merge_laws.proofs.lemmas.merged_rows_move.RowsOf.{interface_moved}
use Rattle.merge_laws.proofs.lemmas.merged_rows_move.Core.{core_moves}
use Rattle.merge_laws.proofs.lemmas.merged_rows_move.Bases.{none_read, in_flat}
use Rattle.merge_laws.proofs.lemmas.merged_rows_move.Stable.{has_key, sort_keeps}
use Rattle.merge_laws.proofs.lemmas.merged_rows_move.Params.{All, all_append, all_in, has, class_by, class_other}
use Rattle.merge_laws.proofs.lemmas.merged_rows_move.Nesting.{filter_flat, only_one, NamesRow, names_row_is, other_token}

-- ---- lists

flat_flat : {A B C : Type 0} (f : A → List B) (g : B → List C) (xs : List A) → flat_map g (flat_map f xs) ≡ flat_map (λ (x : A). flat_map g (f x)) xs
flat_flat f g [] = refl
flat_flat f g (x ∷ xs) = flat_map-append g (f x) (flat_map f xs) ∙ ap (λ (ys : _). flat_map g (f x) ++ ys) (flat_flat f g xs)

pub skip_by : {A B : Type 0} (J : A → List B) (x : A) (xs : List A) (b : Bool) → (b ≡ false → J x ≡ []) → J x ++ flat_map J xs ≡ flat_map J (cond b (x ∷ xs) xs)
skip_by J x xs true none = refl
skip_by J x xs false none = ap (λ (ys : _). ys ++ flat_map J xs) (none refl)

in_each : {A B : Type 0} (f : ℕ → A → List B) (k : ℕ) (xs : List A) (i : ℕ) (x : A) (y : B) → slice_get xs i ≡ Some x → Contains (f (k + i) x) y → Contains (each_from f k xs) y
in_each f k [] i x y e h = absurd (cc)
in_each f k (z ∷ xs) zero x y e h =
    let same : x ≡ z = cc in
    let n : k + 0 ≡ k = omega arith in
    Contains-append_left (f k z) (each_from f (suc k) xs) y (subst (λ (w : _). Contains (f k w) y) same (subst (λ (j : ℕ). Contains (f j x) y) n h))
in_each f k (z ∷ xs) (suc i) x y e h =
    let n : k + suc i ≡ suc k + i = omega arith in
    Contains-append_right (f k z) (each_from f (suc k) xs) y (in_each f (suc k) xs i x y e (subst (λ (j : ℕ). Contains (f j x) y) n h))

-- ---- sorted rows have the key of their class

abbrev Owned : SortedRow → Type 0
Owned x = x.key ≡ x.owner

module _ (recs : List AsmRec) (kept : Kept) where
  owned_option : (a k : ℕ) (o : Option ℕ) → All Owned (sorted_at a k (λ token. token) o)
  owned_option a k None = tt
  owned_option a k (Some n) = (refl, tt)

  owned_row : (a k : ℕ) (o : Option ℕ) (b : Bool) → All Owned (if b then sorted_at a k (λ token. token) o else [])
  owned_row a k o true = owned_option a k o
  owned_row a k o false = tt

  owned_rows : (a : ℕ) (rec : AsmRec) (k : ℕ) (rows : List InterfaceImplRow) → All Owned (each_from (sorted_impl recs kept a rec) k rows)
  owned_rows a rec k [] = tt
  owned_rows a rec k (row ∷ rows) =
      all_append Owned (sorted_impl recs kept a rec k row) (each_from (sorted_impl recs kept a rec) (suc k) rows)
      (owned_row a k (class_token recs kept a row.class) (kept (impl_item recs (at_row a k)))) (owned_rows a rec (suc k) rows)

  owned_inputs : (a : ℕ) (rest : List AsmRec) → All Owned (flat_map (λ (x : ℕ × AsmRec). each_from (sorted_impl recs kept x.0 x.1) 0 x.1.interface_impl) (inputs_from a rest))
  owned_inputs a [] = tt
  owned_inputs a (rec ∷ []) = tt
  owned_inputs a (rec ∷ next ∷ rest) =
      all_append Owned (each_from (sorted_impl recs kept a rec) 0 rec.interface_impl)
      (flat_map (λ (x : ℕ × AsmRec). each_from (sorted_impl recs kept x.0 x.1) 0 x.1.interface_impl) (inputs_from (suc a) (next ∷ rest)))
      (owned_rows a rec 0 rec.interface_impl) (owned_inputs (suc a) (next ∷ rest))

  all_owned : All Owned (kept_interfaces recs kept)
  unfolding kept_interfaces
  all_owned = all_in Owned (λ (x : SortedRow). x.key) [] (all_rows (λ rec. rec.interface_impl) (sorted_impl recs kept) recs) tt (owned_inputs 0 recs)

-- ---- in a merge

module _ (m : Merge) (is : IsMerge m) (k : Keep) (kept : RowAt → Bool) (flags : HasFlags m k kept) (reads : ReadsTokens m) (good : HasGoodInterfaces m k) where
  abbrev typ : RowAt → RowAt
  typ at = place m types_in number_type (type_kind m is) at

  abbrev new : RowAt → ℕ
  new at = rank (keeps types_in (before m) number_type m.kept) (number_at types_in (before m) at)

  -- ---- interfaces stay interfaces

  home_goes_here : (e : TypeExpr) → IsTrue (keeps_expr k e) → home_of (after m) (move_expr (rho_of m) e) ≡ option_map (places_of m).typ (home_of (before m) e)
  home_goes_here e h =
      home_goes (change_of m (undone_of m) k) kept (places_of m) (after m) (before m) (places_move m (undone_of m) k kept is flags) (core_moves m is k kept flags (undone_of m)) flags.keeps e h

  face_by : (o : Option RowAt) → ((x : RowAt) → o ≡ Some x → IsTrue (keeps_type_row k (before m) x)) → list_any (is_interface_at (after m)) (listed (option_map (places_of m).typ o)) ≡ list_any (is_interface_at (before m)) (listed o)
  unfolding kept_types
  face_by None h = refl
  face_by (Some x) h = ap (λ (b : Bool). b || false) (interface_moved m is x (λ g. type_stays m is k kept flags x (h x refl) g))

  face_moved : (e : TypeExpr) → IsTrue (keeps_expr k e) → is_interface (after m) (move_expr (rho_of m) e) ≡ is_interface (before m) e
  unfolding is_interface
  face_moved e h =
      ap (λ (o : Option RowAt). list_any (is_interface_at (after m)) (listed o)) (home_goes_here e h)
      ∙ face_by (home_of (before m) e)
      (λ x f. home_stays (change_of m (undone_of m) k) kept (places_of m) (after m) (before m) (places_move m (undone_of m) k kept is flags) (core_moves m is k kept flags (undone_of m)) flags.keeps e x h f)

  only_by : (e : TypeExpr) (b : Bool) → (if b then move_expr (rho_of m) e ∷ [] else []) ≡ map (move_expr (rho_of m)) (if b then e ∷ [] else [])
  only_by e true = refl
  only_by e false = refl

  only_moved : (e : TypeExpr) → IsTrue (keeps_expr k e) → only_interface (after m) (Some (move_expr (rho_of m) e)) ≡ map (move_expr (rho_of m)) (only_interface (before m) (Some e))
  only_moved e h = ap (λ (b : Bool). if b then move_expr (rho_of m) e ∷ [] else []) (face_moved e h) ∙ only_by e (is_interface (before m) e)

  left_impls : m.left.interface_impl ≡ each_sorted (before m) (λ rec. rec.interface_impl) (new_impl (output m)) (kept_interfaces (before m) m.kept)
  unfolding output_of
  left_impls = ap (λ (rec : AsmRec). rec.interface_impl) (left_is m is).is

  -- the rows of an input name types
  impl_named : (a : ℕ) (rec : AsmRec) → slice_get (before m) a ≡ Some rec → suc a < length (before m) → (i : ℕ) (row : InterfaceImplRow) → slice_get rec.interface_impl i ≡ Some row → NamesRow rec row.class
  impl_named a rec e lt i row f = names_row_is rec row.class ((record_of m is a rec e lt).tokens.interface_impls i row f).0

  module _ (at : RowAt) (h : Input m types_in number_type (type_kind m is) at) where
    abbrev token : ℕ
    token = token_of TYPE_DEF (suc (rank (keeps types_in (before m) number_type m.kept) (number_at types_in (before m) at)))

    abbrev own : ℕ
    own = token_of TYPE_DEF (suc at.row)

    abbrev seen : InterfaceImplRow → List TypeExpr
    seen row = interface_of (after m) 0 m.left token row

    -- what a sorted row gives
    abbrev by_option : (x : SortedRow) → Option AsmRec → List InterfaceImplRow
    by_option x o = flat_map (λ (rec : AsmRec). map (new_impl (output m) x.owner x.at.asm rec) (listed (slice_get rec.interface_impl x.at.row))) (listed o)

    abbrev given : SortedRow → List TypeExpr
    given x = flat_map seen (each_at (before m) (λ rec. rec.interface_impl) (λ at rec row. new_impl (output m) x.owner at.asm rec row) (x.at ∷ []))

    -- one row alone
    given_row : (x : SortedRow) (rec : AsmRec) (row : InterfaceImplRow) → slice_get (before m) x.at.asm ≡ Some rec → slice_get rec.interface_impl x.at.row ≡ Some row
        → given x ≡ (if x.owner == token then only_interface (after m) (good_type (token_type (after m) 0 m.left (moved_type (output m) x.at.asm rec row.interface))) else [])
    given_row x rec row e f =
        ap (λ (o : Option AsmRec). flat_map seen (by_option x o ++ [])) e
        ∙ ap (λ (o : Option InterfaceImplRow). flat_map seen ((map (new_impl (output m) x.owner x.at.asm rec) (listed o) ++ []) ++ [])) f
        ∙ append-nil (seen (new_impl (output m) x.owner x.at.asm rec row))

    other_row : (x : SortedRow) (rec : AsmRec) (o : Option InterfaceImplRow) → (x.owner == token) ≡ false → flat_map seen ((map (new_impl (output m) x.owner x.at.asm rec) (listed o) ++ []) ++ []) ≡ []
    other_row x rec None e = refl
    other_row x rec (Some row) e =
        ap (λ (b : Bool). (if b then only_interface (after m) (good_type (token_type (after m) 0 m.left (moved_type (output m) x.at.asm rec row.interface))) else []) ++ []) e

    other_by : (x : SortedRow) (o : Option AsmRec) → (x.owner == token) ≡ false → flat_map seen (by_option x o ++ []) ≡ []
    other_by x None e = refl
    other_by x (Some rec) e = other_row x rec (slice_get rec.interface_impl x.at.row) e

    none_given : (x : SortedRow) → Owned x → has_key (λ (x : SortedRow). x.key) token x ≡ false → given x ≡ []
    none_given x same e = other_by x (rec_at (before m) x.at) (ap (λ (n : ℕ). nat_eq n token) (sym same) ∙ e)

    kept_only : (xs : List SortedRow) → All Owned xs → flat_map given xs ≡ flat_map given (filter (has_key (λ (x : SortedRow). x.key) token) xs)
    kept_only [] hs = refl
    kept_only (x ∷ xs) hs =
        ap (λ (ys : List TypeExpr). given x ++ ys) (kept_only xs hs.1)
        ∙ skip_by given x (filter (has_key (λ (x : SortedRow). x.key) token) xs) (has_key (λ (x : SortedRow). x.key) token x) (none_given x hs.0)

    -- ---- row by row

    -- the interface of a kept row is met
    impl_met : (i : ℕ) (row : InterfaceImplRow) → slice_get h.there.rec.interface_impl i ≡ Some row → (row.class == own) ≡ true → m.kept (impl_item (before m) (at_row at.asm i)) ≡ true → (row.interface == 0) ≡ false
        → IsMet m at.asm h.there.rec row.interface
    unfolding output_of met_by_types kept_types
    impl_met i row f mine stays some key is_key =
        Contains-append_left (met_by_types (before m) m.kept) (met_by_attributes (before m) m.kept) (met_type key)
        (in_flat (met_in_type (before m) m.kept) (kept_type_rows m is) (new at) at (met_type key) (those_at types_in (before m) number_type m.kept at h.there h.earlier h.keeps_it)
        (second_of_nine _ _ _ _ _ _ _ _ _ (met_type key) faces))
      where
        second_of_nine : (a b c d e f g i j : List Met) (x : Met) → Contains b x → Contains (a ++ b ++ c ++ d ++ e ++ f ++ g ++ i ++ j) x
        second_of_nine a b c d e f g i j x h =
            Contains-append_left (a ++ b ++ c ++ d ++ e ++ f ++ g ++ i) j x (Contains-append_left (a ++ b ++ c ++ d ++ e ++ f ++ g) i x (Contains-append_left (a ++ b ++ c ++ d ++ e ++ f) g x
            (Contains-append_left (a ++ b ++ c ++ d ++ e) f x (Contains-append_left (a ++ b ++ c ++ d) e x (Contains-append_left (a ++ b ++ c) d x
            (Contains-append_left (a ++ b) c x (Contains-append_right a b x h)))))))

        in_met : (b c : Bool) → b ≡ true → c ≡ false → Contains (if b then (if c then [] else met_types (type_key (before m) at.asm h.there.rec row.interface)) else []) (met_type key)
        in_met true false e g = subst (λ (o : Option TypeKey). Contains (met_types o) (met_type key)) (sym is_key) (0, omega arith, refl)
        in_met true true e g = absurd (cc)
        in_met false c e g = absurd (cc)

        zero_more : (n : ℕ) → n ≡ 0 + n
        zero_more n = omega arith

        faces : Contains (met_interfaces (before m) m.kept at) (met_type key)
        faces =
            in_flat (λ (rec : AsmRec). each_from (met_interface (before m) m.kept at rec) 0 rec.interface_impl) (listed (rec_at (before m) at)) 0 h.there.rec (met_type key)
            (ap (λ (o : Option AsmRec). slice_get (listed o) 0) h.there.here)
            (in_each (met_interface (before m) m.kept at h.there.rec) 0 h.there.rec.interface_impl i row (met_type key) f
            (subst (λ (n : ℕ). Contains (met_interface (before m) m.kept at h.there.rec n row) (met_type key)) (zero_more i)
            (in_met (row.class == own && m.kept (impl_item (before m) (at_row at.asm i))) (row.interface == 0) (and_from (row.class == own) (m.kept (impl_item (before m) (at_row at.asm i))) mine stays) some)))

    face_row : (i : ℕ) (row : InterfaceImplRow) → slice_get h.there.rec.interface_impl i ≡ Some row → (row.class == own) ≡ true → m.kept (impl_item (before m) (at_row at.asm i)) ≡ true
        → only_interface (after m) (good_type (token_type (after m) 0 m.left (moved_type (output m) at.asm h.there.rec row.interface)))
        ≡ map (move_expr (rho_of m)) (only_interface (before m) (good_type (token_type (before m) at.asm h.there.rec row.interface)))
    face_row i row f mine stays =
        let g = good at.asm i at.row h.there.rec row h.there.here f h.earlier mine h.keeps_it stays in
        ap (λ (t : Known TypeExpr). only_interface (after m) (good_type t)) (reads at.asm h.there.rec row.interface g.typ h.there.here h.earlier (impl_met i row f mine stays (some_interface g.typ g.reads (row.interface == 0) refl)) g.reads)
        ∙ only_moved g.typ g.stays ∙ sym (ap (λ (t : Known TypeExpr). map (move_expr (rho_of m)) (only_interface (before m) (good_type t))) g.reads)
      where
        some_interface : (e : TypeExpr) → token_type (before m) at.asm h.there.rec row.interface ≡ Good e → (b : Bool) → (row.interface == 0) ≡ b → b ≡ false
        some_interface e r true z =
            let bad : Bad Unresolved ≡ Good e = sym (none_read (before m) at.asm h.there.rec) ∙ ap (token_type (before m) at.asm h.there.rec) (sym (eqb-true row.interface 0 z)) ∙ r in absurd (cc)
        some_interface e r false z = refl

    one_by : (i : ℕ) (row : InterfaceImplRow) → slice_get h.there.rec.interface_impl i ≡ Some row → m.kept (impl_item (before m) (at_row at.asm i)) ≡ true → (o : Option ℕ) → has token o ≡ (row.class == own)
        → flat_map given (filter (has_key (λ (x : SortedRow). x.key) token) (sorted_at at.asm i (λ t. t) o)) ≡ map (move_expr (rho_of m)) (interface_of (before m) at.asm h.there.rec own row)
    one_by i row f stays None e =
        sym (ap (λ (b : Bool). map (move_expr (rho_of m)) (if b then only_interface (before m) (good_type (token_type (before m) at.asm h.there.rec row.interface)) else [])) (sym e))
    one_by i row f stays (Some t) e = by_test (nat_eq t token) refl
      where
        by_test : (b : Bool) → nat_eq t token ≡ b
            → flat_map given (cond b (record { at = at_row at.asm i; owner = t; key = t } ∷ []) []) ≡ map (move_expr (rho_of m)) (interface_of (before m) at.asm h.there.rec own row)
        by_test true same =
            let mine : (row.class == own) ≡ true = sym e ∙ same in
            append-nil (given (record { at = at_row at.asm i; owner = t; key = t }))
            ∙ given_row (record { at = at_row at.asm i; owner = t; key = t }) h.there.rec row h.there.here f
            ∙ ap (λ (b : Bool). if b then only_interface (after m) (good_type (token_type (after m) 0 m.left (moved_type (output m) at.asm h.there.rec row.interface))) else []) same
            ∙ face_row i row f mine stays
            ∙ sym (ap (λ (b : Bool). map (move_expr (rho_of m)) (if b then only_interface (before m) (good_type (token_type (before m) at.asm h.there.rec row.interface)) else [])) mine)
        by_test false same =
            sym (ap (λ (b : Bool). map (move_expr (rho_of m)) (if b then only_interface (before m) (good_type (token_type (before m) at.asm h.there.rec row.interface)) else [])) (sym e ∙ same))

    row_by : (i : ℕ) (row : InterfaceImplRow) → slice_get h.there.rec.interface_impl i ≡ Some row → (b : Bool) → m.kept (impl_item (before m) (at_row at.asm i)) ≡ b
        → flat_map given (filter (has_key (λ (x : SortedRow). x.key) token) (if b then sorted_at at.asm i (λ t. t) (class_token (before m) m.kept at.asm row.class) else []))
        ≡ map (move_expr (rho_of m)) (if b then interface_of (before m) at.asm h.there.rec own row else [])
    unfolding kept_types
    row_by i row f true stays =
        let named = impl_named at.asm h.there.rec h.there.here h.earlier i row f in
        one_by i row f stays (class_token (before m) m.kept at.asm row.class)
        (ap (λ (o : Option ℕ). has token (option_and_then (λ (j : ℕ). place_token TYPE_DEF (kept_type_rows m is) (at_row at.asm j)) o)) (index_own row.class named)
        ∙ class_by m is at h at.asm row.class (row.class % 16777216) refl named.table refl)
      where
        index_own : (w : ℕ) (n : NamesRow h.there.rec w) → index_in TYPE_DEF w ≡ row_index w
        index_own w n = ap (λ (b : Bool). if b then row_index w else None) (eq-eqb (table_of w) TYPE_DEF n.table)
    row_by i row f false stays = refl

    flag_is : (i : ℕ) (row : InterfaceImplRow) → slice_get h.there.rec.interface_impl i ≡ Some row → kept (at_row at.asm i) ≡ m.kept (impl_item (before m) (at_row at.asm i))
    flag_is i row f = flags.interfaces (at_row at.asm i) h.there.rec row h.there.here f

    rows_same : (i : ℕ) (rows : List InterfaceImplRow) → ((d : ℕ) (row : InterfaceImplRow) → slice_get rows d ≡ Some row → slice_get h.there.rec.interface_impl (i + d) ≡ Some row)
        → flat_map given (filter (has_key (λ (x : SortedRow). x.key) token) (each_from (sorted_impl (before m) m.kept at.asm h.there.rec) i rows))
        ≡ map (move_expr (rho_of m)) (each_from (kept_interface_of (before m) kept at.asm h.there.rec own) i rows)
    rows_same i [] look = refl
    rows_same i (row ∷ rows) look =
        let z : i ≡ i + 0 = omega arith in
        let f : slice_get h.there.rec.interface_impl i ≡ Some row = ap (slice_get h.there.rec.interface_impl) z ∙ look 0 row refl in
        let more = rows_same (suc i) rows (λ d r e. let y : suc i + d ≡ i + suc d = omega arith in ap (slice_get h.there.rec.interface_impl) y ∙ look (suc d) r e) in
        let here = row_by i row f (m.kept (impl_item (before m) (at_row at.asm i))) refl in
        ap (flat_map given) (filter-append (has_key (λ (x : SortedRow). x.key) token) (sorted_impl (before m) m.kept at.asm h.there.rec i row) (each_from (sorted_impl (before m) m.kept at.asm h.there.rec) (suc i) rows))
        ∙ flat_map-append given (filter (has_key (λ (x : SortedRow). x.key) token) (sorted_impl (before m) m.kept at.asm h.there.rec i row))
        (filter (has_key (λ (x : SortedRow). x.key) token) (each_from (sorted_impl (before m) m.kept at.asm h.there.rec) (suc i) rows))
        ∙ (λ j. here j ++ more j)
        ∙ ap (λ (b : Bool). map (move_expr (rho_of m)) (if b then interface_of (before m) at.asm h.there.rec own row else [])
        ++ map (move_expr (rho_of m)) (each_from (kept_interface_of (before m) kept at.asm h.there.rec own) (suc i) rows)) (sym (flag_is i row f))
        ∙ sym (map-append (move_expr (rho_of m)) (kept_interface_of (before m) kept at.asm h.there.rec own i row) (each_from (kept_interface_of (before m) kept at.asm h.there.rec own) (suc i) rows))

    -- rows of other inputs have other tokens
    other_option : (a i : ℕ) (o : Option ℕ) → has token o ≡ false → filter (has_key (λ (x : SortedRow). x.key) token) (sorted_at a i (λ t. t) o) ≡ []
    other_option a i None e = refl
    other_option a i (Some t) e = ap (λ (b : Bool). cond b (record { at = at_row a i; owner = t; key = t } ∷ []) []) e

    other_case : (a i : ℕ) (o : Option ℕ) (b : Bool) → has token o ≡ false → filter (has_key (λ (x : SortedRow). x.key) token) (if b then sorted_at a i (λ t. t) o else []) ≡ []
    other_case a i o true e = other_option a i o e
    other_case a i o false e = refl

    others_none : (a : ℕ) → (a ≡ at.asm → ⊥) → (rec : AsmRec) (i : ℕ) (rows : List InterfaceImplRow) → filter (has_key (λ (x : SortedRow). x.key) token) (each_from (sorted_impl (before m) m.kept a rec) i rows) ≡ []
    unfolding kept_types
    others_none a apart rec i [] = refl
    others_none a apart rec i (row ∷ rows) =
        let here = other_case a i (class_token (before m) m.kept a row.class) (m.kept (impl_item (before m) (at_row a i))) (class_other m is at h a (index_in TYPE_DEF row.class) apart) in
        let more = others_none a apart rec (suc i) rows in
        filter-append (has_key (λ (x : SortedRow). x.key) token) (sorted_impl (before m) m.kept a rec i row) (each_from (sorted_impl (before m) m.kept a rec) (suc i) rows)
        ∙ (λ j. here j ++ more j)

    sorted_rows : filter (has_key (λ (x : SortedRow). x.key) token) (kept_interfaces (before m) m.kept)
        ≡ filter (has_key (λ (x : SortedRow). x.key) token) (each_from (sorted_impl (before m) m.kept at.asm h.there.rec) 0 h.there.rec.interface_impl)
    unfolding kept_interfaces
    sorted_rows =
        sort_keeps (λ (x : SortedRow). x.key) token (all_rows (λ rec. rec.interface_impl) (sorted_impl (before m) m.kept) (before m))
        ∙ filter_flat (has_key (λ (x : SortedRow). x.key) token) (λ (x : ℕ × AsmRec). each_from (sorted_impl (before m) m.kept x.0 x.1) 0 x.1.interface_impl) (inputs (before m))
        ∙ only_one (λ a rec. filter (has_key (λ (x : SortedRow). x.key) token) (each_from (sorted_impl (before m) m.kept a rec) 0 rec.interface_impl)) (before m) 0 at.asm h.there.rec h.there.here h.earlier
        (λ i r e lt apart. others_none (0 + i) (λ f. apart (zero_less i f)) r 0 r.interface_impl)
        ∙ ap (λ (a : ℕ). filter (has_key (λ (x : SortedRow). x.key) token) (each_from (sorted_impl (before m) m.kept a h.there.rec) 0 h.there.rec.interface_impl)) (sym (zero_more at.asm))
      where
        zero_more : (n : ℕ) → n ≡ 0 + n
        zero_more n = omega arith

        zero_less : (i : ℕ) → 0 + i ≡ at.asm → i ≡ at.asm
        zero_less i f = omega (arith, f)

    input_interfaces : interfaces_at (after m) (typ at) ≡ map (move_expr (rho_of m)) (kept_interfaces_at (before m) kept at)
    unfolding interfaces_at kept_interfaces_at
    input_interfaces =
        ap (interfaces_at (after m)) h.moved
        ∙ ap (λ (o : Option AsmRec). flat_map (interfaces_in (after m) (at_row 0 (new at))) (listed o)) (after_left m)
        ∙ append-nil (interfaces_in (after m) (at_row 0 (new at)) m.left)
        ∙ ap (flat_map seen) left_impls
        ∙ flat_flat (λ (x : SortedRow). each_at (before m) (λ rec. rec.interface_impl) (λ at rec row. new_impl (output m) x.owner at.asm rec row) (x.at ∷ [])) seen (kept_interfaces (before m) m.kept)
        ∙ kept_only (kept_interfaces (before m) m.kept) (all_owned (before m) m.kept)
        ∙ ap (flat_map given) sorted_rows
        ∙ rows_same 0 h.there.rec.interface_impl (λ d row e. let z : 0 + d ≡ d = omega arith in ap (slice_get h.there.rec.interface_impl) z ∙ e)
        ∙ sym (ap (map (move_expr (rho_of m))) (ap (λ (o : Option AsmRec). flat_map (kept_interfaces_in (before m) kept at) (listed o)) h.there.here ∙ append-nil (kept_interfaces_in (before m) kept at h.there.rec)))

  -- ---- where there are no rows

  core_faces : (core_of m).interface_impl ≡ []
  unfolding core_of core_with core_record record_with
  core_faces = refl

  left_faces : (left_core m).interface_impl ≡ []
  unfolding left_core core_with core_record record_with
  left_faces = refl

  none_at : (recs : List AsmRec) (at : RowAt) (rec : AsmRec) → slice_get recs at.asm ≡ Some rec → rec.interface_impl ≡ [] → interfaces_at recs at ≡ []
  unfolding interfaces_at
  none_at recs at rec e none =
      ap (λ (o : Option AsmRec). flat_map (interfaces_in recs at) (listed o)) e ∙ append-nil (interfaces_in recs at rec)
      ∙ ap (flat_map (interface_of recs at.asm rec (token_of TYPE_DEF (suc at.row)))) none

  none_kept_at : (at : RowAt) (rec : AsmRec) → slice_get (before m) at.asm ≡ Some rec → each_from (kept_interface_of (before m) kept at.asm rec (token_of TYPE_DEF (suc at.row))) 0 rec.interface_impl ≡ [] → kept_interfaces_at (before m) kept at ≡ []
  unfolding kept_interfaces_at
  none_kept_at at rec e none =
      ap (λ (o : Option AsmRec). flat_map (kept_interfaces_in (before m) kept at) (listed o)) e ∙ append-nil (kept_interfaces_in (before m) kept at rec) ∙ none

  core_kept : (at : RowAt) → suc at.asm ≡ length (before m) → kept_interfaces_at (before m) kept at ≡ []
  core_kept at last =
      none_kept_at at (core_of m) (core_at m at last)
      (ap (each_from (kept_interface_of (before m) kept at.asm (core_of m) (token_of TYPE_DEF (suc at.row))) 0) core_faces)

  core_interfaces : (at : RowAt) → Core m types_in number_type (type_kind m is) at → interfaces_at (after m) (typ at) ≡ map (move_expr (rho_of m)) (kept_interfaces_at (before m) kept at)
  core_interfaces at h =
      ap (interfaces_at (after m)) h.moved ∙ none_at (after m) (at_row 1 h.row) (left_core m) (after_core m) left_faces
      ∙ sym (ap (map (move_expr (rho_of m))) (core_kept at h.last))

  unnamed_by : (at : RowAt) (rec : AsmRec) (row : InterfaceImplRow) (b : Bool) → (row.class == token_of TYPE_DEF (suc at.row)) ≡ false
      → (if b then interface_of (before m) at.asm rec (token_of TYPE_DEF (suc at.row)) row else []) ≡ []
  unnamed_by at rec row true e = ap (λ (b : Bool). if b then only_interface (before m) (good_type (token_type (before m) at.asm rec row.interface)) else []) e
  unnamed_by at rec row false e = refl

  unnamed : (at : RowAt) (rec : AsmRec) → types_in rec ≤ at.row → (i : ℕ) (rows : List InterfaceImplRow) → ((d : ℕ) (row : InterfaceImplRow) → slice_get rows d ≡ Some row → NamesRow rec row.class)
      → each_from (kept_interface_of (before m) kept at.asm rec (token_of TYPE_DEF (suc at.row))) i rows ≡ []
  unnamed at rec past i [] named = refl
  unnamed at rec past i (row ∷ rows) named =
      let here = unnamed_by at rec row (kept (at_row at.asm i)) (other_token rec row.class (named 0 row refl) at.row past) in
      let more = unnamed at rec past (suc i) rows (λ d r e. named (suc d) r e) in
      λ j. here j ++ more j

  gone_kept_by : (at : RowAt) (rec : AsmRec) → slice_get (before m) at.asm ≡ Some rec → types_in rec ≤ at.row → (suc at.asm < length (before m)) ⊎ (length (before m) ≤ suc at.asm) → kept_interfaces_at (before m) kept at ≡ []
  gone_kept_by at rec e past (inl lt) = none_kept_at at rec e (unnamed at rec past 0 rec.interface_impl (λ d row f. impl_named at.asm rec e lt d row f))
  gone_kept_by at rec e past (inr ge) = let asm = place_within (before m) at.asm rec e in core_kept at (omega (arith, ge, asm))

  gone_kept : (at : RowAt) → Gone m types_in number_type (type_kind m is) at → (o : Option AsmRec) → slice_get (before m) at.asm ≡ o → kept_interfaces_at (before m) kept at ≡ []
  unfolding kept_interfaces_at
  gone_kept at h None e = ap (λ (o : Option AsmRec). flat_map (kept_interfaces_in (before m) kept at) (listed o)) e
  gone_kept at h (Some rec) e = gone_kept_by at rec e (h.none_before rec e) (cases_lt (suc at.asm) (length (before m)))

  gone_interfaces : (at : RowAt) → Gone m types_in number_type (type_kind m is) at → interfaces_at (after m) (typ at) ≡ map (move_expr (rho_of m)) (kept_interfaces_at (before m) kept at)
  unfolding interfaces_at
  gone_interfaces at h =
      let two : length (after m) ≡ 2 = ap length (after_is m) in
      let asm = h.past in
      ap (λ (o : Option AsmRec). flat_map (interfaces_in (after m) (typ at)) (listed o)) (place_past (after m) (typ at).asm (omega (arith, asm, two)))
      ∙ sym (ap (map (move_expr (rho_of m))) (gone_kept at h (slice_get (before m) at.asm) refl))

  pub interfaces_moved : (at : RowAt) → IsTrue (keeps_type_row k (before m) at) → interfaces_at (after m) (typ at) ≡ map (move_expr (rho_of m)) (kept_interfaces_at (before m) kept at)
  interfaces_moved at keeps_it = elim (situation m types_in number_type (type_kind m is) at (λ h. type_stays m is k kept flags at keeps_it h)) [
    | inl h ↦ input_interfaces at h
    | inr other ↦ elim other [ inl h ↦ core_interfaces at h | inr h ↦ gone_interfaces at h ]
  ]
