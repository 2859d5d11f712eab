-- The MethodImpl rows of a kept type are those whose body is kept, in their order (II.22.27).
use Rattle.std.proofs.Common.{◌≡◌, ◌<◌, ◌≤◌, ℕ, suc, ◌+◌, ◌%◌, Bool, true, false, cond, nat_eq, List, [], ◌∷◌, ◌++◌, length, map, Option, Some, None, ◌⊎◌, inl, inr, refl, sym, ap, ◌∙◌, arith}
use Rattle.std.specs.Prelude.{slice_get, ◌==◌, if◌then◌else◌}
use Rattle.std.specs.List.{flat_map, filter}
use Rattle.std.specs.Option.{option_and_then}
use Rattle.std.proofs.lemmas.Bool.{eq-eqb, eqb-true, cases_lt}
use Rattle.std.proofs.lemmas.List.{append-nil, map-append}
use Rattle.std.proofs.lemmas.Grind.{flat_map-append}
use Rattle.std.proofs.lemmas.List.Elements.{filter-append}
use Rattle.il_base.specs.declared.table.TheConstants.{TYPE_DEF}
use Rattle.il_base.specs.declared.world_model.members.MethodImplRow.{MethodImplRow}
use Rattle.il_base.specs.declared.world_model.record.AsmRec.{AsmRec}
use Rattle.il_base.specs.world_model.Records.{rows_in, table_sizes}
use Rattle.il_base.specs.world_model.Tokens.{token_of, table_of, index_from, row_index, index_in}
use Rattle.il_base.specs.world_model.Worlds.{types_in}
use Rattle.il_base.specs.core_table.Record.{core_record, record_with}
use Rattle.rules.specs.declared.link_rules.row_at.RowAt.{RowAt}
use Rattle.rules.specs.link_rules.CoreNames.{core_with}
use Rattle.rules.specs.link_rules.Types.{at_row}
use Rattle.rules.specs.link_rules.Cycles.{listed}
use Rattle.rules.specs.type_rules.Rows.{each_from}
use Rattle.rules.specs.merge_rules.Numbers.{inputs, kept_types}
use Rattle.rules.specs.merge_rules.Rows.{all_rows, place_token, class_token}
use Rattle.rules.specs.merge_rules.Restricted.{impl_row, has_kept_body, new_method_impl, method_impls, output_of}
use Rattle.rules.specs.change_rules.Change.{Keep}
use Rattle.rules.specs.world_change_rules.Rows.{Impl, move_impl, impls_by, impls_in, impls_at, keeps_impl}
use Rattle.rules.specs.merged_world_rules.Merge.{Merge, before, after, output, IsMerge}
use Rattle.rules.specs.merged_world_rules.Numbering.{number_at}
use Rattle.rules.specs.merged_world_rules.NewNumbers.{rho_of}
use Rattle.merge_laws.proofs.lemmas.merged_places.Ranks.{rank}
use Rattle.merge_laws.proofs.lemmas.merged_places.Rows.{place_within, place_past}
use Rattle.merge_laws.proofs.lemmas.merged_places.Kept.{keeps}
use Rattle.merge_laws.proofs.lemmas.merged_places.Worlds.{core_of, left_core, after_is, after_left, after_core, core_at, before_input, left_is}
use Rattle.merge_laws.proofs.lemmas.merged_places.Tables.{number_type, type_rows as kept_type_rows, type_kind}
use Rattle.merge_laws.proofs.lemmas.merged_places.Situations.{place, situation, Input, Core, Gone}
use Rattle.merge_laws.specs.merged_rows_move.Premises.{uses_of, ReadsImpls}
use Rattle.merge_laws.proofs.lemmas.merged_rows_move.Members.{record_of}
use Rattle.merge_laws.proofs.lemmas.merged_rows_move.RowsOf.{TypeStays}
use Rattle.merge_laws.proofs.lemmas.merged_rows_move.Stable.{has_key, sort_keeps}
use Rattle.merge_laws.proofs.lemmas.merged_rows_move.Params.{has, class_by, class_other}
use Rattle.merge_laws.proofs.lemmas.merged_rows_move.Nesting.{filter_flat, only_one, NamesRow, names_row_is, other_token}
use Rattle.merge_laws.proofs.lemmas.merged_rows_move.Interfaces.{skip_by}

abbrev class_of : MethodImplRow → ℕ
class_of row = row.class

module _ (m : Merge) (is : IsMerge m) (k : Keep) (reads : ReadsImpls m k) where
  abbrev typ : RowAt → RowAt
  typ at = place m types_in number_type (type_kind m is) at

  abbrev new : RowAt → ℕ
  new at = rank (keeps types_in (before m) number_type m.kept) (number_at types_in (before m) at)

  left_rows : m.left.method_impl ≡ method_impls (output m)
  left_rows = ap (λ (rec : AsmRec). rec.method_impl) (left_is m is).is

  -- the rows of an input name types
  impl_named : (a : ℕ) (rec : AsmRec) → slice_get (before m) a ≡ Some rec → suc a < length (before m) → (i : ℕ) (row : MethodImplRow) → slice_get rec.method_impl i ≡ Some row → NamesRow rec row.class
  impl_named a rec e lt i row f = names_row_is rec row.class ((record_of m is a rec e lt).tokens.method_impls i row f).0

  module _ (at : RowAt) (h : Input m types_in number_type (type_kind m is) at) where
    abbrev token : ℕ
    token = token_of TYPE_DEF (suc (rank (keeps types_in (before m) number_type m.kept) (number_at types_in (before m) at)))

    abbrev own : ℕ
    own = token_of TYPE_DEF (suc at.row)

    abbrev seen : MethodImplRow → List Impl
    seen row = impls_by (after m) 0 m.left token row

    abbrev moved : List Impl → List Impl
    moved xs = map (move_impl (rho_of m)) (filter (keeps_impl k) xs)

    none_seen : (row : MethodImplRow) → has_key class_of token row ≡ false → seen row ≡ []
    none_seen row e = ap (λ (b : Bool). if b then uses_of (after m) 0 m.left row else []) e

    seen_only : (rows : List MethodImplRow) → flat_map seen rows ≡ flat_map seen (filter (has_key class_of token) rows)
    seen_only [] = refl
    seen_only (row ∷ rows) =
        ap (λ (xs : List Impl). seen row ++ xs) (seen_only rows) ∙ skip_by seen row (filter (has_key class_of token) rows) (has_key class_of token row) (none_seen row)

    -- ---- row by row

    type_size : (rec : AsmRec) → rows_in rec TYPE_DEF ≡ length rec.type_def
    unfolding table_sizes
    type_size rec = refl

    -- its class is this type
    own_index : (i : ℕ) (row : MethodImplRow) → slice_get h.there.rec.method_impl i ≡ Some row → (row.class == own) ≡ true → index_in TYPE_DEF row.class ≡ Some at.row
    own_index i row f e =
        let named = impl_named at.asm h.there.rec h.there.here h.earlier i row f in
        let same = eqb-true row.class own e in
        let lt = h.there.below in
        let few = is.few_inputs at.asm h.there.rec (sym (before_input m at.asm h.earlier) ∙ h.there.here) TYPE_DEF in
        let size = type_size h.there.rec in
        let r : row.class % 16777216 ≡ suc at.row = omega (arith, same, lt, few, size) in
        ap (λ (b : Bool). if b then row_index row.class else None) (eq-eqb (table_of row.class) TYPE_DEF named.table) ∙ ap index_from r

    moved_append : (xs ys : List Impl) → moved (xs ++ ys) ≡ moved xs ++ moved ys
    moved_append xs ys = ap (map (move_impl (rho_of m))) (filter-append (keeps_impl k) xs ys) ∙ map-append (move_impl (rho_of m)) (filter (keeps_impl k) xs) (filter (keeps_impl k) ys)

    own_by : (row : MethodImplRow) (b : Bool) → (row.class == own) ≡ b → impls_by (before m) at.asm h.there.rec own row ≡ (if b then uses_of (before m) at.asm h.there.rec row else [])
    own_by row b e = ap (λ (c : Bool). if c then uses_of (before m) at.asm h.there.rec row else []) e

    gone_by : (i : ℕ) (row : MethodImplRow) → slice_get h.there.rec.method_impl i ≡ Some row → has_kept_body (output m) at.asm h.there.rec row ≡ false → (b : Bool) → (row.class == own) ≡ b
        → [] ≡ moved (impls_by (before m) at.asm h.there.rec own row)
    gone_by i row f stays true e =
        sym (ap moved (own_by row true e) ∙ ap (map (move_impl (rho_of m))) ((reads at.asm i at.row h.there.rec row h.there.here f h.earlier (own_index i row f e) h.keeps_it).gone stays))
    gone_by i row f stays false e = sym (ap moved (own_by row false e))

    kept_by : (i : ℕ) (row : MethodImplRow) → slice_get h.there.rec.method_impl i ≡ Some row → has_kept_body (output m) at.asm h.there.rec row ≡ true → (o : Option ℕ) → has token o ≡ (row.class == own)
        → flat_map seen (filter (has_key class_of token) (map (impl_row (output m) at.asm h.there.rec row) (listed o))) ≡ moved (impls_by (before m) at.asm h.there.rec own row)
    kept_by i row f stays None e = sym (ap moved (own_by row false (sym e)))
    kept_by i row f stays (Some t) e = by_test (nat_eq t token) refl
      where
        by_test : (b : Bool) → nat_eq t token ≡ b
            → flat_map seen (cond b (impl_row (output m) at.asm h.there.rec row t ∷ []) []) ≡ moved (impls_by (before m) at.asm h.there.rec own row)
        by_test true same =
            append-nil (seen (impl_row (output m) at.asm h.there.rec row t))
            ∙ ap (λ (b : Bool). if b then uses_of (after m) 0 m.left (impl_row (output m) at.asm h.there.rec row t) else []) same
            ∙ (reads at.asm i at.row h.there.rec row h.there.here f h.earlier (own_index i row f (sym e ∙ same)) h.keeps_it).kept stays t ∙ sym (ap moved (own_by row true (sym e ∙ same)))
        by_test false same = sym (ap moved (own_by row false (sym e ∙ same)))

    row_by : (i : ℕ) (row : MethodImplRow) → slice_get h.there.rec.method_impl i ≡ Some row → (b : Bool) → has_kept_body (output m) at.asm h.there.rec row ≡ b → has token (class_token (before m) m.kept at.asm row.class) ≡ (row.class == own)
        → flat_map seen (filter (has_key class_of token) (if b then map (impl_row (output m) at.asm h.there.rec row) (listed (class_token (before m) m.kept at.asm row.class)) else []))
        ≡ moved (impls_by (before m) at.asm h.there.rec own row)
    row_by i row f true stays e = kept_by i row f stays (class_token (before m) m.kept at.asm row.class) e
    row_by i row f false stays e = gone_by i row f stays (row.class == own) refl

    token_is : (i : ℕ) (row : MethodImplRow) → slice_get h.there.rec.method_impl i ≡ Some row → has token (class_token (before m) m.kept at.asm row.class) ≡ (row.class == own)
    unfolding kept_types
    token_is i row f =
        let named = impl_named at.asm h.there.rec h.there.here h.earlier i row f in
        ap (λ (o : Option ℕ). has token (option_and_then (λ (j : ℕ). place_token TYPE_DEF (kept_type_rows m is) (at_row at.asm j)) o))
        (ap (λ (b : Bool). if b then row_index row.class else None) (eq-eqb (table_of row.class) TYPE_DEF named.table))
        ∙ class_by m is at h at.asm row.class (row.class % 16777216) refl named.table refl

    rows_same : (i : ℕ) (rows : List MethodImplRow) → ((d : ℕ) (row : MethodImplRow) → slice_get rows d ≡ Some row → slice_get h.there.rec.method_impl (i + d) ≡ Some row)
        → flat_map seen (filter (has_key class_of token) (each_from (new_method_impl (output m) at.asm h.there.rec) i rows)) ≡ moved (flat_map (impls_by (before m) at.asm h.there.rec own) rows)
    unfolding output_of
    rows_same i [] look = refl
    rows_same i (row ∷ rows) look =
        let z : i ≡ i + 0 = omega arith in
        let f : slice_get h.there.rec.method_impl i ≡ Some row = ap (slice_get h.there.rec.method_impl) z ∙ look 0 row refl in
        let more = rows_same (suc i) rows (λ d r e. let y : suc i + d ≡ i + suc d = omega arith in ap (slice_get h.there.rec.method_impl) y ∙ look (suc d) r e) in
        let here = row_by i row f (has_kept_body (output m) at.asm h.there.rec row) refl (token_is i row f) in
        ap (flat_map seen) (filter-append (has_key class_of token) (new_method_impl (output m) at.asm h.there.rec i row) (each_from (new_method_impl (output m) at.asm h.there.rec) (suc i) rows))
        ∙ flat_map-append seen (filter (has_key class_of token) (new_method_impl (output m) at.asm h.there.rec i row)) (filter (has_key class_of token) (each_from (new_method_impl (output m) at.asm h.there.rec) (suc i) rows))
        ∙ (λ j. here j ++ more j)
        ∙ sym (moved_append (impls_by (before m) at.asm h.there.rec own row) (flat_map (impls_by (before m) at.asm h.there.rec own) rows))

    -- rows of other inputs have other tokens
    other_option : (a : ℕ) (rec : AsmRec) (row : MethodImplRow) (o : Option ℕ) → has token o ≡ false → filter (has_key class_of token) (map (impl_row (output m) a rec row) (listed o)) ≡ []
    other_option a rec row None e = refl
    other_option a rec row (Some t) e = ap (λ (b : Bool). cond b (impl_row (output m) a rec row t ∷ []) []) e

    other_case : (a : ℕ) (rec : AsmRec) (row : MethodImplRow) (o : Option ℕ) (b : Bool) → has token o ≡ false → filter (has_key class_of token) (if b then map (impl_row (output m) a rec row) (listed o) else []) ≡ []
    other_case a rec row o true e = other_option a rec row o e
    other_case a rec row o false e = refl

    others_none : (a : ℕ) → (a ≡ at.asm → ⊥) → (rec : AsmRec) (i : ℕ) (rows : List MethodImplRow) → filter (has_key class_of token) (each_from (new_method_impl (output m) a rec) i rows) ≡ []
    unfolding kept_types output_of
    others_none a apart rec i [] = refl
    others_none a apart rec i (row ∷ rows) =
        let here = other_case a rec row (class_token (before m) m.kept a row.class) (has_kept_body (output m) a rec row) (class_other m is at h a (index_in TYPE_DEF row.class) apart) in
        let more = others_none a apart rec (suc i) rows in
        filter-append (has_key class_of token) (new_method_impl (output m) a rec i row) (each_from (new_method_impl (output m) a rec) (suc i) rows) ∙ (λ j. here j ++ more j)

    sorted_rows : filter (has_key class_of token) (method_impls (output m)) ≡ filter (has_key class_of token) (each_from (new_method_impl (output m) at.asm h.there.rec) 0 h.there.rec.method_impl)
    unfolding output_of
    sorted_rows =
        sort_keeps class_of token (all_rows (λ rec. rec.method_impl) (new_method_impl (output m)) (before m))
        ∙ filter_flat (has_key class_of token) (λ (x : ℕ × AsmRec). each_from (new_method_impl (output m) x.0 x.1) 0 x.1.method_impl) (inputs (before m))
        ∙ only_one (λ a rec. filter (has_key class_of token) (each_from (new_method_impl (output m) a rec) 0 rec.method_impl)) (before m) 0 at.asm h.there.rec h.there.here h.earlier
        (λ i r e lt apart. others_none (0 + i) (λ f. apart (zero_less i f)) r 0 r.method_impl)
        ∙ ap (λ (a : ℕ). filter (has_key class_of token) (each_from (new_method_impl (output m) a h.there.rec) 0 h.there.rec.method_impl)) (sym (zero_more at.asm))
      where
        zero_more : (n : ℕ) → n ≡ 0 + n
        zero_more n = omega arith

        zero_less : (i : ℕ) → 0 + i ≡ at.asm → i ≡ at.asm
        zero_less i f = omega (arith, f)

    input_impls : impls_at (after m) (typ at) ≡ moved (impls_at (before m) at)
    unfolding impls_at
    input_impls =
        ap (impls_at (after m)) h.moved
        ∙ ap (λ (o : Option AsmRec). flat_map (impls_in (after m) (at_row 0 (new at))) (listed o)) (after_left m)
        ∙ append-nil (impls_in (after m) (at_row 0 (new at)) m.left)
        ∙ ap (flat_map seen) left_rows ∙ seen_only (method_impls (output m)) ∙ ap (flat_map seen) sorted_rows
        ∙ rows_same 0 h.there.rec.method_impl (λ d row e. let z : 0 + d ≡ d = omega arith in ap (slice_get h.there.rec.method_impl) z ∙ e)
        ∙ sym (ap moved (ap (λ (o : Option AsmRec). flat_map (impls_in (before m) at) (listed o)) h.there.here ∙ append-nil (impls_in (before m) at h.there.rec)))

  -- ---- where there are no rows

  core_rows : (core_of m).method_impl ≡ []
  unfolding core_of core_with core_record record_with
  core_rows = refl

  left_core_rows : (left_core m).method_impl ≡ []
  unfolding left_core core_with core_record record_with
  left_core_rows = refl

  abbrev moved_impls : List Impl → List Impl
  moved_impls xs = map (move_impl (rho_of m)) (filter (keeps_impl k) xs)

  none_at : (recs : List AsmRec) (at : RowAt) (rec : AsmRec) → slice_get recs at.asm ≡ Some rec → flat_map (impls_by recs at.asm rec (token_of TYPE_DEF (suc at.row))) rec.method_impl ≡ [] → impls_at recs at ≡ []
  unfolding impls_at
  none_at recs at rec e none = ap (λ (o : Option AsmRec). flat_map (impls_in recs at) (listed o)) e ∙ append-nil (impls_in recs at rec) ∙ none

  core_none : (at : RowAt) → suc at.asm ≡ length (before m) → impls_at (before m) at ≡ []
  core_none at last = none_at (before m) at (core_of m) (core_at m at last) (ap (flat_map (impls_by (before m) at.asm (core_of m) (token_of TYPE_DEF (suc at.row)))) core_rows)

  core_impls : (at : RowAt) → Core m types_in number_type (type_kind m is) at → impls_at (after m) (typ at) ≡ moved_impls (impls_at (before m) at)
  core_impls at h =
      ap (impls_at (after m)) h.moved
      ∙ none_at (after m) (at_row 1 h.row) (left_core m) (after_core m) (ap (flat_map (impls_by (after m) 1 (left_core m) (token_of TYPE_DEF (suc h.row)))) left_core_rows)
      ∙ sym (ap moved_impls (core_none at h.last))

  unnamed : (at : RowAt) (rec : AsmRec) → types_in rec ≤ at.row → (rows : List MethodImplRow) → ((d : ℕ) (row : MethodImplRow) → slice_get rows d ≡ Some row → NamesRow rec row.class)
      → flat_map (impls_by (before m) at.asm rec (token_of TYPE_DEF (suc at.row))) rows ≡ []
  unnamed at rec past [] named = refl
  unnamed at rec past (row ∷ rows) named =
      let here = ap (λ (b : Bool). if b then uses_of (before m) at.asm rec row else []) (other_token rec row.class (named 0 row refl) at.row past) in
      let more = unnamed at rec past rows (λ d r e. named (suc d) r e) in
      λ j. here j ++ more j

  gone_some : (at : RowAt) (rec : AsmRec) → slice_get (before m) at.asm ≡ Some rec → types_in rec ≤ at.row → (suc at.asm < length (before m)) ⊎ (length (before m) ≤ suc at.asm) → impls_at (before m) at ≡ []
  gone_some at rec e past (inl lt) = none_at (before m) at rec e (unnamed at rec past rec.method_impl (λ d row f. impl_named at.asm rec e lt d row f))
  gone_some at rec e past (inr ge) = let asm = place_within (before m) at.asm rec e in core_none at (omega (arith, ge, asm))

  gone_none : (at : RowAt) → Gone m types_in number_type (type_kind m is) at → (o : Option AsmRec) → slice_get (before m) at.asm ≡ o → impls_at (before m) at ≡ []
  unfolding impls_at
  gone_none at h None e = ap (λ (o : Option AsmRec). flat_map (impls_in (before m) at) (listed o)) e
  gone_none at h (Some rec) e = gone_some at rec e (h.none_before rec e) (cases_lt (suc at.asm) (length (before m)))

  gone_impls : (at : RowAt) → Gone m types_in number_type (type_kind m is) at → impls_at (after m) (typ at) ≡ moved_impls (impls_at (before m) at)
  unfolding impls_at
  gone_impls at h =
      let two : length (after m) ≡ 2 = ap length (after_is m) in
      let asm = h.past in
      ap (λ (o : Option AsmRec). flat_map (impls_in (after m) (typ at)) (listed o)) (place_past (after m) (typ at).asm (omega (arith, asm, two)))
      ∙ sym (ap moved_impls (gone_none at h (slice_get (before m) at.asm) refl))

  pub impls_moved : (at : RowAt) → TypeStays m is at → impls_at (after m) (typ at) ≡ moved_impls (impls_at (before m) at)
  impls_moved at there = elim (situation m types_in number_type (type_kind m is) at there) [
    | inl h ↦ input_impls at h
    | inr other ↦ elim other [ inl h ↦ core_impls at h | inr h ↦ gone_impls at h ]
  ]
