-- The first bytes of a kept field are those that it had (II.22.18).
use Rattle.std.proofs.Common.{◌≡◌, ◌<◌, ◌≤◌, ℕ, zero, suc, ◌+◌, ◌%◌, Bool, true, false, cond, nat_eq, List, [], ◌∷◌, ◌++◌, length, map, Option, Some, None, ◌⊎◌, inl, inr, refl, sym, ap, ◌∙◌, arith}
use Rattle.std.specs.Prelude.{slice_get, nat_le, ◌==◌, ◌&&◌, ◌||◌, if◌then◌else◌}
use Rattle.std.specs.List.{list_any, flat_map, filter}
use Rattle.std.specs.Option.{option_map, option_and_then}
use Rattle.std.proofs.lemmas.Bool.{eqb-true, eq-eqb, ne_eqb, cases_eq, and_parts}
use Rattle.std.proofs.lemmas.List.{append_assoc}
use Rattle.il_base.specs.declared.table.TheConstants.{FIELD}
use Rattle.il_base.specs.declared.cli_format.column.Column.TheVariants.{Index}
use Rattle.il_base.specs.declared.world_model.known.Known.{Known}
use Rattle.il_base.specs.declared.world_model.extras.FieldRvaRow.{FieldRvaRow}
use Rattle.il_base.specs.declared.world_model.record.AsmRec.{AsmRec}
use Rattle.il_base.specs.world_model.Records.{Names, names, names_row, rows_in, table_sizes}
use Rattle.il_base.specs.world_model.Tokens.{token_of, table_of, row_of, index_from, row_index, index_in}
use Rattle.rules.specs.declared.link_rules.row_at.RowAt.{RowAt}
use Rattle.rules.specs.link_rules.Types.{at_row}
use Rattle.rules.specs.link_rules.Members.{fields_in}
use Rattle.rules.specs.link_rules.Cycles.{listed, same_row}
use Rattle.rules.specs.type_rules.Rows.{each_from}
use Rattle.rules.specs.view_rules.Methods.{bytes_by}
use Rattle.rules.specs.merge_rules.Numbers.{inputs, kept_fields, new_row}
use Rattle.rules.specs.merge_rules.Rows.{all_rows, token_32, place_token, output_rows, kept_row_token}
use Rattle.rules.specs.merge_rules.Sorted.{by_key}
use Rattle.rules.specs.merge_rules.Restricted.{bytes_length, placed_bytes, new_field_rva, output_of, bodies_of, placed_methods, moved_methods}
use Rattle.rules.specs.file_layout.Bytes.{aligned}
use Rattle.rules.specs.file_layout.Bodies.{code_behind}
use Rattle.rules.specs.merged_world_rules.Merge.{Merge, before, output, IsMerge}
use Rattle.rules.specs.merged_world_rules.Numbering.{number_at}
use Rattle.merge_laws.proofs.lemmas.merged_places.Ranks.{rank}
use Rattle.merge_laws.proofs.lemmas.merged_places.Rows.{IsThere, same_some, row_itself, rows_one, place_within, input_below}
use Rattle.merge_laws.proofs.lemmas.merged_places.Kept.{keeps, new_row_is}
use Rattle.merge_laws.proofs.lemmas.merged_places.Numbers.{new_row_at, rank_below}
use Rattle.merge_laws.proofs.lemmas.merged_places.Worlds.{left_is, before_input}
use Rattle.merge_laws.proofs.lemmas.merged_places.Tables.{number_field, field_rows, fields_counted, field_kind}
use Rattle.merge_laws.proofs.lemmas.merged_places.Situations.{Input}
use Rattle.merge_laws.proofs.lemmas.merged_rows_move.Members.{record_of}
use Rattle.merge_laws.proofs.lemmas.merged_rows_move.Nesting.{only_one}
use Rattle.merge_laws.proofs.lemmas.merged_rows_move.Params.{has, token_low}
use Rattle.merge_laws.proofs.lemmas.merged_rows_move.Stable.{has_key, sort_keeps}

-- ---- lists

abbrev bytes_of : FieldRvaRow → Known (List ℕ)
bytes_of row = row.bytes

abbrev field_of : FieldRvaRow → ℕ
field_of row = row.field

flat_append : {A B : Type 0} (f : A → List B) (xs ys : List A) → flat_map f (xs ++ ys) ≡ flat_map f xs ++ flat_map f ys
flat_append f [] ys = refl
flat_append f (x ∷ xs) ys = ap (λ zs. f x ++ zs) (flat_append f xs ys) ∙ sym (append_assoc (f x) (flat_map f xs) (flat_map f ys))

flat_flat : {A B C : Type 0} (f : B → List C) (g : A → List B) (xs : List A) → flat_map f (flat_map g xs) ≡ flat_map (λ x. flat_map f (g x)) xs
flat_flat f g [] = refl
flat_flat f g (x ∷ xs) = flat_append f (g x) (flat_map g xs) ∙ ap (λ zs. flat_map f (g x) ++ zs) (flat_flat f g xs)

filtered_by : (token : ℕ) (row : FieldRvaRow) (rest : List FieldRvaRow) (b : Bool) → (if b then row.bytes ∷ [] else []) ++ map bytes_of rest ≡ map bytes_of (cond b (row ∷ rest) rest)
filtered_by token row rest true = refl
filtered_by token row rest false = refl

filtered : (token : ℕ) (rows : List FieldRvaRow) → flat_map (bytes_by token) rows ≡ map bytes_of (filter (has_key field_of token) rows)
filtered token [] = refl
filtered token (row ∷ rows) =
    ap (λ zs. bytes_by token row ++ zs) (filtered token rows) ∙ filtered_by token row (filter (has_key field_of token) rows) (nat_eq row.field token)

-- addresses say nothing of bytes
placed_same : (token before : ℕ) (rows : List FieldRvaRow) → flat_map (bytes_by token) (placed_bytes before rows) ≡ flat_map (bytes_by token) rows
unfolding placed_bytes
placed_same token before [] = refl
placed_same token before (row ∷ rows) = ap (λ zs. bytes_by token row ++ zs) (placed_same token (aligned 8 before + bytes_length row.bytes) rows)

-- nor does the order of other rows
sorted_same : (token : ℕ) (rows : List FieldRvaRow) → flat_map (bytes_by token) (by_key field_of rows) ≡ flat_map (bytes_by token) rows
sorted_same token rows = filtered token (by_key field_of rows) ∙ ap (map bytes_of) (sort_keeps field_of token rows) ∙ sym (filtered token rows)

made_row : (token : ℕ) (row : FieldRvaRow) (o : Option ℕ) → flat_map (bytes_by token) (map (λ field. record row { field = field }) (listed o)) ≡ (if has token o then row.bytes ∷ [] else [])
made_row token row None = refl
made_row token row (Some t) = by_test (t == token)
  where
    by_test : (b : Bool) → (if b then row.bytes ∷ [] else []) ++ [] ≡ (if b then row.bytes ∷ [] else [])
    by_test true = refl
    by_test false = refl

-- ---- Field tokens

or_none : (b : Bool) → (b || false) ≡ b
or_none true = refl
or_none false = refl

field_table : (rec : AsmRec) (w : ℕ) → Names rec (Index FIELD) w → table_of w ≡ FIELD
unfolding names names_row
field_table rec w h =
    let p = and_parts (list_any (λ t. t == table_of w) (FIELD ∷ []) && nat_le 1 (row_of w)) (nat_le (row_of w) (rows_in rec (table_of w))) h in
    let q = and_parts (list_any (λ t. t == table_of w) (FIELD ∷ [])) (nat_le 1 (row_of w)) p.0 in
    sym (eqb-true FIELD (table_of w) (sym (or_none (FIELD == table_of w)) ∙ q.0))

low_token : (i : ℕ) → i < 16777215 → token_32 FIELD i ≡ token_of FIELD (suc i)
low_token i lt = omega (arith, lt)

pub field_size : (rec : AsmRec) → rows_in rec FIELD ≡ length rec.field
unfolding table_sizes
field_size rec = refl

module _ (m : Merge) (is : IsMerge m) (at : RowAt) (h : Input m fields_in number_field (field_kind m is) at) where
  abbrev new : ℕ
  new = rank (keeps fields_in (before m) number_field m.kept) (number_at fields_in (before m) at)

  abbrev token : ℕ
  token = token_of FIELD (suc (rank (keeps fields_in (before m) number_field m.kept) (number_at fields_in (before m) at)))

  abbrev own : ℕ
  own = token_of FIELD (suc at.row)

  few_fields : length (field_rows m is) < 16777216
  few_fields = let few = is.few FIELD in let size = field_size m.left in let counted = fields_counted m is in omega (arith, few, size, counted)

  few_own : at.row < 16777215
  few_own =
      let lt = h.there.below in
      let few = is.few_inputs at.asm h.there.rec (sym (before_input m at.asm h.earlier) ∙ h.there.here) FIELD in
      let size = field_size h.there.rec in
      omega (arith, lt, few, size)

  own_row : new_row (field_rows m is) at ≡ Some new
  own_row = new_row_is fields_in (before m) number_field m.kept at h.there (input_below fields_in (before m) at h.there h.earlier) h.keeps_it

  new_low : new < length (field_rows m is)
  new_low = rank_below fields_in (before m) number_field m.kept (number_at fields_in (before m) at) (input_below fields_in (before m) at h.there h.earlier) h.keeps_it

  not_same : (x : RowAt) (b : Bool) → same_row x at ≡ b → (x ≡ at → ⊥) → b ≡ false
  not_same x true e differ = absurd (differ (rows_one x at e))
  not_same x false e differ = refl

  placed_by : (x : RowAt) (o : Option ℕ) → new_row (field_rows m is) x ≡ o → has token (option_map (token_32 FIELD) o) ≡ same_row x at
  placed_by x None e =
      sym (not_same x (same_row x at) refl (λ same. let bad : None ≡ Some new = sym e ∙ ap (new_row (field_rows m is)) same ∙ own_row in absurd (cc)))
  placed_by x (Some i) e = by_case (cases_eq i new)
    where
      stands : slice_get (field_rows m is) i ≡ Some x
      stands = new_row_at (field_rows m is) x i e

      low : i < 16777215
      low = let lt = place_within (field_rows m is) i x stands in let few = few_fields in omega (arith, lt, few)

      by_case : (i ≡ new) ⊎ (i ≡ new → ⊥) → (token_32 FIELD i == token) ≡ same_row x at
      by_case (inl same) =
          let here = new_row_at (field_rows m is) at new own_row in
          let one : x ≡ at = same_some x at (sym stands ∙ ap (slice_get (field_rows m is)) same ∙ here) in
          let is_token = low_token i low in
          eq-eqb (token_32 FIELD i) token (omega (arith, is_token, same)) ∙ sym (ap (same_row x) (sym one) ∙ row_itself x)
      by_case (inr differ) =
          let is_token = low_token i low in
          ne_eqb (token_32 FIELD i) token (λ e. absurd (differ (omega (arith, e, is_token))))
          ∙ sym (not_same x (same_row x at) refl (λ same. let two : Some i ≡ Some new = sym e ∙ ap (new_row (field_rows m is)) same ∙ own_row in absurd (differ (same_some i new two))))

  placed : (x : RowAt) → has token (place_token FIELD (field_rows m is) x) ≡ same_row x at
  placed x = placed_by x (new_row (field_rows m is) x) refl

  own_by : (b w r : ℕ) → w % 16777216 ≡ r → table_of w ≡ FIELD → b ≡ at.asm
      → has token (option_and_then (λ k. place_token FIELD (field_rows m is) (at_row b k)) (index_from r)) ≡ (w == token_of FIELD (suc at.row))
  own_by b w zero e t same = sym (ne_eqb w (token_of FIELD (suc at.row)) (λ f. let few = few_own in absurd (omega (arith, e, f, few))))
  own_by b w (suc k) e t same = placed (at_row b k) ∙ by_case (cases_eq k at.row)
    where
      by_case : (k ≡ at.row) ⊎ (k ≡ at.row → ⊥) → same_row (at_row b k) at ≡ (w == token_of FIELD (suc at.row))
      by_case (inl one) =
          (λ i. same_row (at_row (same i) (one i)) at) ∙ row_itself at ∙ sym (eq-eqb w (token_of FIELD (suc at.row)) (omega (arith, e, t, one)))
      by_case (inr differ) =
          not_same (at_row b k) (same_row (at_row b k) at) refl (λ f. differ (ap (λ (x : RowAt). x.row) f))
          ∙ sym (ne_eqb w (token_of FIELD (suc at.row)) (λ f. let few = few_own in absurd (differ (omega (arith, e, t, f, few)))))

  other_by : (b : ℕ) (o : Option ℕ) → (b ≡ at.asm → ⊥) → has token (option_and_then (λ k. place_token FIELD (field_rows m is) (at_row b k)) o) ≡ false
  other_by b None apart = refl
  other_by b (Some k) apart = placed (at_row b k) ∙ not_same (at_row b k) (same_row (at_row b k) at) refl (λ f. apart (ap (λ (x : RowAt). x.asm) f))

  abbrev kept_token : ℕ → ℕ → Option ℕ
  kept_token b w = kept_row_token (before m) m.kept b w

  token_is : (b w : ℕ) → table_of w ≡ FIELD → kept_token b w ≡ option_and_then (λ (k : ℕ). place_token FIELD (field_rows m is) (at_row b k)) (row_index w)
  unfolding kept_row_token kept_fields
  token_is b w t =
      ap (λ (n : ℕ). option_and_then (λ (k : ℕ). place_token n (output_rows (before m) m.kept n) (at_row b k)) (index_in n w)) t
      ∙ ap (λ (c : Bool). option_and_then (λ (k : ℕ). place_token FIELD (field_rows m is) (at_row b k)) (if c then row_index w else None)) (eq-eqb (table_of w) FIELD t)

  -- ---- rows

  named : (a : ℕ) (rec : AsmRec) → slice_get (before m) a ≡ Some rec → suc a < length (before m) → (k : ℕ) (row : FieldRvaRow) → slice_get rec.field_rva k ≡ Some row → table_of row.field ≡ FIELD
  named a rec e lt k row f = field_table rec row.field ((record_of m is a rec e lt).tokens.field_rvas k row f)

  abbrev rows_for : ℕ → FieldRvaRow → List (Known (List ℕ))
  rows_for a row = if has token (kept_token a row.field) then row.bytes ∷ [] else []

  each_gives : (a : ℕ) (rec : AsmRec) (k : ℕ) (rows : List FieldRvaRow) → flat_map (bytes_by token) (each_from (new_field_rva (output m) a rec) k rows) ≡ flat_map (rows_for a) rows
  unfolding output_of
  each_gives a rec k [] = refl
  each_gives a rec k (row ∷ rows) =
      flat_append (bytes_by token) (new_field_rva (output m) a rec k row) (each_from (new_field_rva (output m) a rec) (suc k) rows)
      ∙ (λ i. made_row token row (kept_token a row.field) i ++ each_gives a rec (suc k) rows i)

  others_give : (a : ℕ) → (a ≡ at.asm → ⊥) → (rows : List FieldRvaRow) → ((k : ℕ) (row : FieldRvaRow) → slice_get rows k ≡ Some row → table_of row.field ≡ FIELD) → flat_map (rows_for a) rows ≡ []
  others_give a apart [] tables = refl
  others_give a apart (row ∷ rows) tables =
      let no : has token (kept_token a row.field) ≡ false = ap (has token) (token_is a row.field (tables 0 row refl)) ∙ other_by a (row_index row.field) apart in
      let more = others_give a apart rows (λ k r e. tables (suc k) r e) in
      λ i. (if no i then row.bytes ∷ [] else []) ++ more i

  own_give : (rows : List FieldRvaRow) → ((k : ℕ) (row : FieldRvaRow) → slice_get rows k ≡ Some row → table_of row.field ≡ FIELD) → flat_map (rows_for at.asm) rows ≡ flat_map (bytes_by own) rows
  own_give [] tables = refl
  own_give (row ∷ rows) tables =
      let yes : has token (kept_token at.asm row.field) ≡ nat_eq row.field own =
      ap (has token) (token_is at.asm row.field (tables 0 row refl)) ∙ own_by at.asm row.field (row.field % 16777216) refl (tables 0 row refl) refl in
      let more = own_give rows (λ k r e. tables (suc k) r e) in
      λ i. (if yes i then row.bytes ∷ [] else []) ++ more i

  abbrev code_length : ℕ
  code_length = length (code_behind [] (bodies_of (placed_methods (moved_methods (output m)))))

  left_rows : m.left.field_rva ≡ placed_bytes code_length (by_key field_of (all_rows (λ rec. rec.field_rva) (new_field_rva (output m)) (before m)))
  unfolding output_of
  left_rows = ap (λ (rec : AsmRec). rec.field_rva) (left_is m is).is

  pub bytes_move : flat_map (bytes_by token) m.left.field_rva ≡ flat_map (bytes_by own) h.there.rec.field_rva
  unfolding output_of
  bytes_move =
      ap (flat_map (bytes_by token)) left_rows
      ∙ placed_same token code_length (by_key field_of (all_rows (λ rec. rec.field_rva) (new_field_rva (output m)) (before m)))
      ∙ sorted_same token (all_rows (λ rec. rec.field_rva) (new_field_rva (output m)) (before m))
      ∙ flat_flat (bytes_by token) (λ (x : ℕ × AsmRec). each_from (new_field_rva (output m) x.0 x.1) 0 x.1.field_rva) (inputs (before m))
      ∙ only_one (λ a rec. flat_map (bytes_by token) (each_from (new_field_rva (output m) a rec) 0 rec.field_rva)) (before m) 0 at.asm h.there.rec h.there.here h.earlier
      (λ k r e lt apart. each_gives (0 + k) r 0 r.field_rva ∙ others_give (0 + k) (λ f. apart (zero_less k f)) r.field_rva (λ i row g. named k r e lt i row g))
      ∙ each_gives (0 + at.asm) h.there.rec 0 h.there.rec.field_rva
      ∙ ap (λ (a : ℕ). flat_map (rows_for a) h.there.rec.field_rva) (sym (zero_more at.asm))
      ∙ own_give h.there.rec.field_rva (λ i row g. named at.asm h.there.rec h.there.here h.earlier i row g)
    where
      zero_more : (n : ℕ) → n ≡ 0 + n
      zero_more n = omega arith

      zero_less : (k : ℕ) → 0 + k ≡ at.asm → k ≡ at.asm
      zero_less k f = omega (arith, f)
