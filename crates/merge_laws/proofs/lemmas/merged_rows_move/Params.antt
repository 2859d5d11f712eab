-- A kept type has as many generic parameters in the output as it had (II.22.20).
use Rattle.std.proofs.Common.{◌≡◌, ◌<◌, ◌≤◌, ℕ, zero, suc, ◌+◌, ◌%◌, Bool, true, false, cond, nat_lt, List, [], ◌∷◌, ◌++◌, length, Option, Some, None, ◌⊎◌, inl, inr, refl, sym, ap, ◌∙◌, arith}
use Rattle.std.specs.Prelude.{slice_get, ◌==◌, if◌then◌else◌}
use Rattle.std.specs.List.{flat_map, filter}
use Rattle.std.specs.Option.{option_map, option_and_then}
use Rattle.std.proofs.lemmas.Bool.{eqb-true, eq-eqb, ne_eqb, cases_eq}
use Rattle.std.proofs.lemmas.List.Sums.{length-filter}
use Rattle.il_base.specs.declared.table.TheConstants.{TYPE_DEF, METHOD_DEF}
use Rattle.il_base.specs.declared.world_model.types.GenericParamRow.{GenericParamRow}
use Rattle.il_base.specs.declared.world_model.record.AsmRec.{AsmRec}
use Rattle.il_base.specs.world_model.Records.{rows_in, table_sizes}
use Rattle.il_base.specs.world_model.Tokens.{token_of, table_of, index_from, row_index, index_in}
use Rattle.il_base.specs.world_model.Worlds.{types_in}
use Rattle.rules.specs.declared.link_rules.row_at.RowAt.{RowAt}
use Rattle.rules.specs.link_rules.Types.{at_row}
use Rattle.rules.specs.link_rules.Members.{param_count, is_param_of}
use Rattle.rules.specs.link_rules.Cycles.{same_row}
use Rattle.rules.specs.type_rules.Rows.{each_from, each_row}
use Rattle.rules.specs.merge_rules.Numbers.{Kept, inputs_from, kept_types, kept_methods, new_row}
use Rattle.rules.specs.merge_rules.Sorted.{put, put_all, by_key}
use Rattle.rules.specs.merge_rules.Rows.{all_rows, token_32, place_token, SortedRow, sorted_at, owner_token, param_key, sorted_param, kept_generic_params}
use Rattle.rules.specs.merge_rules.Restricted.{each_sorted, new_generic_param, output_of}
use Rattle.rules.specs.merged_world_rules.Merge.{Merge, before, IsMerge}
use Rattle.rules.specs.merged_world_rules.Numbering.{number_at}
use Rattle.merge_laws.proofs.lemmas.merged_places.Ranks.{rank}
use Rattle.merge_laws.proofs.lemmas.merged_places.Rows.{IsThere, place_within, place_has, same_some}
use Rattle.merge_laws.proofs.lemmas.merged_places.Kept.{keeps}
use Rattle.merge_laws.proofs.lemmas.merged_places.Rows.{row_itself, rows_one, input_below}
use Rattle.merge_laws.proofs.lemmas.merged_places.Kept.{new_row_is}
use Rattle.merge_laws.proofs.lemmas.merged_places.Numbers.{new_row_at, rank_below}
use Rattle.merge_laws.proofs.lemmas.merged_places.Worlds.{left_is, made, before_input}
use Rattle.merge_laws.proofs.lemmas.merged_places.Tables.{number_type, type_rows, method_rows, types_counted, methods_counted, type_kind}
use Rattle.merge_laws.proofs.lemmas.merged_places.Situations.{Input}

-- ---- how many pass

pub how_many : {A : Type 0} → (A → Bool) → List A → ℕ
how_many p xs = length (filter p xs)

module _ {A : Type 0} (p : A → Bool) where
  one_by : (b : Bool) (x : A) (xs : List A) → length (cond b (x ∷ xs) xs) ≡ cond b 1 0 + length xs
  one_by true x xs = omega arith
  one_by false x xs = omega arith

  many_cons : (x : A) (xs : List A) → how_many p (x ∷ xs) ≡ cond (p x) 1 0 + how_many p xs
  unfolding how_many
  many_cons x xs = one_by (p x) x (filter p xs)

  many_none : how_many p [] ≡ 0
  unfolding how_many
  many_none = refl

  many_append : (xs ys : List A) → how_many p (xs ++ ys) ≡ how_many p xs + how_many p ys
  many_append [] ys = let none = many_none in omega (arith, none)
  many_append (x ∷ xs) ys =
      let more = many_append xs ys in
      let one = many_cons x (xs ++ ys) in
      let two = many_cons x xs in
      omega (arith, more, one, two)

  -- sorting changes no count
  put_by : (key : A → ℕ) (x y : A) (ys : List A) (b : Bool) → how_many p (put key x ys) ≡ cond (p x) 1 0 + how_many p ys
      → how_many p (if b then x ∷ y ∷ ys else y ∷ put key x ys) ≡ cond (p x) 1 0 + how_many p (y ∷ ys)
  put_by key x y ys true more = many_cons x (y ∷ ys)
  put_by key x y ys false more =
      let one = many_cons y (put key x ys) in
      let two = many_cons y ys in
      omega (arith, one, two, more)

  many_put : (key : A → ℕ) (x : A) (xs : List A) → how_many p (put key x xs) ≡ cond (p x) 1 0 + how_many p xs
  many_put key x [] = many_cons x []
  many_put key x (y ∷ ys) = put_by key x y ys (nat_lt (key x) (key y)) (many_put key x ys)

  many_all : (key : A → ℕ) (sorted xs : List A) → how_many p (put_all key sorted xs) ≡ how_many p sorted + how_many p xs
  unfolding put_all
  many_all key sorted [] = let none = many_none in omega (arith, none)
  many_all key sorted (x ∷ xs) =
      let more = many_all key (put key x sorted) xs in
      let one = many_put key x sorted in
      let two = many_cons x xs in
      omega (arith, more, one, two)

  pub many_sorted : (key : A → ℕ) (xs : List A) → how_many p (by_key key xs) ≡ how_many p xs
  many_sorted key xs = let all = many_all key [] xs in let none = many_none in omega (arith, all, none)

-- tests that say the same
pub many_same : {A : Type 0} (p q : A → Bool) (xs : List A) → ((x : A) → p x ≡ q x) → how_many p xs ≡ how_many q xs
many_same p q [] same = many_none p ∙ sym (many_none q)
many_same p q (x ∷ xs) same = many_cons p x xs ∙ (λ i. cond (same x i) 1 0 + many_same p q xs same i) ∙ sym (many_cons q x xs)

many_zero : {A : Type 0} (p : A → Bool) (xs : List A) → ((x : A) → p x ≡ false) → how_many p xs ≡ 0
many_zero p [] none = many_none p
many_zero p (x ∷ xs) none =
    let more = many_zero p xs none in
    many_cons p x xs ∙ ap (λ (b : Bool). cond b 1 0 + how_many p xs) (none x) ∙ omega (arith, more)

-- ---- rows of one input among those of all

module _ {A : Type 0} (p : A → Bool) (F : ℕ → AsmRec → List A) where
  abbrev rows_of : ℕ × AsmRec → List A
  rows_of x = F x.0 x.1

  none_later : (rest : List AsmRec) (a a0 : ℕ) → a0 < a → ((b : ℕ) (rec : AsmRec) → (b ≡ a0 → ⊥) → how_many p (F b rec) ≡ 0) → how_many p (flat_map rows_of (inputs_from a rest)) ≡ 0
  none_later [] a a0 lt none = many_none p
  none_later (rec ∷ []) a a0 lt none = many_none p
  none_later (rec ∷ next ∷ rest) a a0 lt none =
      let here = none a rec (λ e. absurd (omega (arith, e, lt))) in
      let more = none_later (next ∷ rest) (suc a) a0 (omega (arith, lt)) none in
      let split = many_append p (F a rec) (flat_map rows_of (inputs_from (suc a) (next ∷ rest))) in
      omega (arith, here, more, split)

  one_of : (rest : List AsmRec) (a d : ℕ) (rec : AsmRec) → slice_get rest d ≡ Some rec → suc d < length rest → ((b : ℕ) (rec : AsmRec) → (b ≡ a + d → ⊥) → how_many p (F b rec) ≡ 0)
      → how_many p (flat_map rows_of (inputs_from a rest)) ≡ how_many p (F (a + d) rec)
  one_of [] a d rec e lt none = absurd (omega (arith, lt))
  one_of (x ∷ []) a d rec e lt none = absurd (omega (arith, lt))
  one_of (x ∷ next ∷ rest) a zero rec e lt none =
      let same : x ≡ rec = cc in
      let z : a ≡ a + 0 = omega arith in
      let more = none_later (next ∷ rest) (suc a) (a + 0) (omega arith) none in
      let split = many_append p (F a x) (flat_map rows_of (inputs_from (suc a) (next ∷ rest))) in
      let here : how_many p (F a x) ≡ how_many p (F (a + 0) rec) = λ i. how_many p (F (z i) (same i)) in
      omega (arith, more, split, here)
  one_of (x ∷ next ∷ rest) a (suc d) rec e lt none =
      let z : suc a + d ≡ a + suc d = omega arith in
      let here = none a x (λ f. absurd (omega (arith, f))) in
      let more = one_of (next ∷ rest) (suc a) d rec e (omega (arith, lt)) (λ b r apart. none b r (λ f. apart (f ∙ sym z))) in
      let split = many_append p (F a x) (flat_map rows_of (inputs_from (suc a) (next ∷ rest))) in
      let place : how_many p (F (suc a + d) rec) ≡ how_many p (F (a + suc d) rec) = ap (λ (k : ℕ). how_many p (F k rec)) z in
      omega (arith, here, more, split, place)

-- ---- owners

abbrev pub has : ℕ → Option ℕ → Bool
has token None = false
has token (Some n) = n == token

abbrev is_owned_by : ℕ → SortedRow → Bool
is_owned_by token x = x.owner == token

sorted_many : (token a k : ℕ) (key : ℕ → ℕ) (o : Option ℕ) → how_many (is_owned_by token) (sorted_at a k key o) ≡ cond (has token o) 1 0
sorted_many token a k key None = many_none (is_owned_by token)
sorted_many token a k key (Some n) =
    let none = many_none (is_owned_by token) in
    many_cons (is_owned_by token) (record { at = at_row a k; owner = n; key = key n }) [] ∙ last (cond (n == token) 1 0) (how_many (is_owned_by token) []) none
  where
    last : (x y : ℕ) → y ≡ 0 → x + y ≡ x
    last x y e = omega (arith, e)

each_many : (recs : List AsmRec) (kept : Kept) (a : ℕ) (rec : AsmRec) (token k : ℕ) (rows : List GenericParamRow)
    → how_many (is_owned_by token) (each_from (sorted_param recs kept a rec) k rows) ≡ how_many (λ (row : GenericParamRow). has token (owner_token recs kept a row.owner)) rows
each_many recs kept a rec token k [] = many_none (is_owned_by token) ∙ sym (many_none (λ (row : GenericParamRow). has token (owner_token recs kept a row.owner)))
each_many recs kept a rec token k (row ∷ rows) =
    let one = sorted_many token a k (param_key row.number) (owner_token recs kept a row.owner) in
    let more = each_many recs kept a rec token (suc k) rows in
    let split = many_append (is_owned_by token) (sorted_param recs kept a rec k row) (each_from (sorted_param recs kept a rec) (suc k) rows) in
    let two = many_cons (λ (row : GenericParamRow). has token (owner_token recs kept a row.owner)) row rows in
    omega (arith, one, more, split, two)

-- ---- which tokens of owners become that of a kept type

pub token_low : (i : ℕ) → i < 16777215 → token_32 TYPE_DEF i ≡ 33554432 + suc i
token_low i lt = omega (arith, lt)

token_high : (i : ℕ) → i < 16777215 → token_32 METHOD_DEF i ≡ 100663296 + suc i
token_high i lt = omega (arith, lt)

module _ (m : Merge) (is : IsMerge m) (at : RowAt) (h : Input m types_in number_type (type_kind m is) at) where
  abbrev new : ℕ
  new = rank (keeps types_in (before m) number_type m.kept) (number_at types_in (before m) at)

  abbrev token : ℕ
  token = token_of TYPE_DEF (suc (rank (keeps types_in (before m) number_type m.kept) (number_at types_in (before m) at)))

  type_size : (rec : AsmRec) → rows_in rec TYPE_DEF ≡ length rec.type_def
  unfolding table_sizes
  type_size rec = refl

  method_rows_size : (rec : AsmRec) → rows_in rec METHOD_DEF ≡ length rec.method_def
  unfolding table_sizes
  method_rows_size rec = refl

  few_types : length (type_rows m is) < 16777216
  few_types = let few = is.few TYPE_DEF in let size = type_size m.left in let counted = types_counted m is in omega (arith, few, size, counted)

  few_methods : length (method_rows m is) < 16777216
  few_methods = let few = is.few METHOD_DEF in let size = method_rows_size m.left in let counted = methods_counted m is in omega (arith, few, size, counted)

  few_own : at.row < 16777215
  few_own =
      let lt = h.there.below in
      let few = is.few_inputs at.asm h.there.rec (sym (before_input m at.asm h.earlier) ∙ h.there.here) TYPE_DEF in
      let size = type_size h.there.rec in
      omega (arith, lt, few, size)

  own_row : new_row (type_rows m is) at ≡ Some new
  own_row = new_row_is types_in (before m) number_type m.kept at h.there (input_below types_in (before m) at h.there h.earlier) h.keeps_it

  new_low : new < length (type_rows m is)
  new_low = rank_below types_in (before m) number_type m.kept (number_at types_in (before m) at) (input_below types_in (before m) at h.there h.earlier) h.keeps_it

  pub few_new : new < 16777215
  few_new = let low = new_low in let few = few_types in omega (arith, low, few)

  not_same : (x : RowAt) (b : Bool) → same_row x at ≡ b → (x ≡ at → ⊥) → b ≡ false
  not_same x true e differ = absurd (differ (rows_one x at e))
  not_same x false e differ = refl

  placed_by : (x : RowAt) (o : Option ℕ) → new_row (type_rows m is) x ≡ o → has token (option_map (token_32 TYPE_DEF) o) ≡ same_row x at
  placed_by x None e =
      sym (not_same x (same_row x at) refl (λ same. let bad : None ≡ Some new = sym e ∙ ap (new_row (type_rows m is)) same ∙ own_row in absurd (cc)))
  placed_by x (Some i) e = by_case (cases_eq i new)
    where
      stands : slice_get (type_rows m is) i ≡ Some x
      stands = new_row_at (type_rows m is) x i e

      low : i < 16777215
      low = let lt = place_within (type_rows m is) i x stands in let few = few_types in omega (arith, lt, few)

      by_case : (i ≡ new) ⊎ (i ≡ new → ⊥) → (token_32 TYPE_DEF i == token) ≡ same_row x at
      by_case (inl same) =
          let here = new_row_at (type_rows m is) at new own_row in
          let one : x ≡ at = same_some x at (sym stands ∙ ap (slice_get (type_rows m is)) same ∙ here) in
          let is_token = token_low i low in
          eq-eqb (token_32 TYPE_DEF i) token (omega (arith, is_token, same)) ∙ sym (ap (same_row x) (sym one) ∙ row_itself x)
      by_case (inr differ) =
          let is_token = token_low i low in
          ne_eqb (token_32 TYPE_DEF i) token (λ e. absurd (differ (omega (arith, e, is_token))))
          ∙ sym (not_same x (same_row x at) refl (λ same. let two : Some i ≡ Some new = sym e ∙ ap (new_row (type_rows m is)) same ∙ own_row in absurd (differ (same_some i new two))))

  placed : (x : RowAt) → has token (place_token TYPE_DEF (type_rows m is) x) ≡ same_row x at
  placed x = placed_by x (new_row (type_rows m is) x) refl

  -- by the token of an owner
  pub class_by : (b w r : ℕ) → w % 16777216 ≡ r → table_of w ≡ TYPE_DEF → b ≡ at.asm
      → has token (option_and_then (λ k. place_token TYPE_DEF (type_rows m is) (at_row b k)) (index_from r)) ≡ (w == token_of TYPE_DEF (suc at.row))
  class_by b w zero e t same = sym (ne_eqb w (token_of TYPE_DEF (suc at.row)) (λ f. let few = few_own in absurd (omega (arith, e, f, few))))
  class_by b w (suc k) e t same =
      placed (at_row b k) ∙ by_case (cases_eq k at.row)
    where
      by_case : (k ≡ at.row) ⊎ (k ≡ at.row → ⊥) → same_row (at_row b k) at ≡ (w == token_of TYPE_DEF (suc at.row))
      by_case (inl one) =
          (λ i. same_row (at_row (same i) (one i)) at) ∙ row_itself at ∙ sym (eq-eqb w (token_of TYPE_DEF (suc at.row)) (omega (arith, e, t, one)))
      by_case (inr differ) =
          not_same (at_row b k) (same_row (at_row b k) at) refl (λ f. differ (ap (λ (x : RowAt). x.row) f))
          ∙ sym (ne_eqb w (token_of TYPE_DEF (suc at.row)) (λ f. let few = few_own in absurd (differ (omega (arith, e, t, f, few)))))

  pub class_other : (b : ℕ) (o : Option ℕ) → (b ≡ at.asm → ⊥) → has token (option_and_then (λ k. place_token TYPE_DEF (type_rows m is) (at_row b k)) o) ≡ false
  class_other b None apart = refl
  class_other b (Some k) apart = placed (at_row b k) ∙ not_same (at_row b k) (same_row (at_row b k) at) refl (λ f. apart (ap (λ (x : RowAt). x.asm) f))

  -- methods have other tokens
  method_by : (x : RowAt) (o : Option ℕ) → new_row (method_rows m is) x ≡ o → has token (option_map (token_32 METHOD_DEF) o) ≡ false
  method_by x None e = refl
  method_by x (Some i) e =
      let lt = place_within (method_rows m is) i x (new_row_at (method_rows m is) x i e) in
      let few = few_methods in
      let is_token = token_high i (omega (arith, lt, few)) in
      let low = new_low in
      let few_new = few_types in
      ne_eqb (token_32 METHOD_DEF i) token (λ f. absurd (omega (arith, f, is_token, low, few_new)))

  method_none : (b : ℕ) (o : Option ℕ) → has token (option_and_then (λ k. place_token METHOD_DEF (method_rows m is) (at_row b k)) o) ≡ false
  method_none b None = refl
  method_none b (Some k) = method_by (at_row b k) (new_row (method_rows m is) (at_row b k)) refl

  abbrev owner : ℕ → ℕ → Bool → Option ℕ
  owner b w c = if c then option_and_then (λ k. place_token TYPE_DEF (type_rows m is) (at_row b k)) (index_in TYPE_DEF w)
      else option_and_then (λ k. place_token METHOD_DEF (method_rows m is) (at_row b k)) (index_in METHOD_DEF w)

  owner_is : (b w : ℕ) → owner_token (before m) m.kept b w ≡ owner b w (table_of w == TYPE_DEF)
  unfolding kept_types kept_methods
  owner_is b w = refl

  own_by : (b w : ℕ) (c : Bool) → (table_of w == TYPE_DEF) ≡ c → b ≡ at.asm → has token (owner b w c) ≡ (w == token_of TYPE_DEF (suc at.row))
  own_by b w true e same =
      let t = eqb-true (table_of w) TYPE_DEF e in
      ap (λ (c : Bool). has token (option_and_then (λ k. place_token TYPE_DEF (type_rows m is) (at_row b k)) (if c then row_index w else None))) e
      ∙ class_by b w (w % 16777216) refl t same
  own_by b w false e same =
      method_none b (index_in METHOD_DEF w)
      ∙ sym (ne_eqb w (token_of TYPE_DEF (suc at.row)) (λ f. let few = few_own in let bad : (table_of w == TYPE_DEF) ≡ true = eq-eqb (table_of w) TYPE_DEF (omega (arith, f, few)) in let worse : true ≡ false = sym bad ∙ e in absurd (cc)))

  other_by : (b w : ℕ) (c : Bool) → (b ≡ at.asm → ⊥) → has token (owner b w c) ≡ false
  other_by b w true apart = class_other b (index_in TYPE_DEF w) apart
  other_by b w false apart = method_none b (index_in METHOD_DEF w)

  own_tokens : (row : GenericParamRow) → has token (owner_token (before m) m.kept at.asm row.owner) ≡ is_param_of (token_of TYPE_DEF (suc at.row)) row
  own_tokens row = ap (has token) (owner_is at.asm row.owner) ∙ own_by at.asm row.owner (table_of row.owner == TYPE_DEF) refl refl

  other_tokens : (b : ℕ) (row : GenericParamRow) → (b ≡ at.asm → ⊥) → has token (owner_token (before m) m.kept b row.owner) ≡ false
  other_tokens b row apart = ap (has token) (owner_is b row.owner) ∙ other_by b row.owner (table_of row.owner == TYPE_DEF) apart

  -- ---- how many of all sorted rows

  sorted_count : how_many (is_owned_by token) (kept_generic_params (before m) m.kept) ≡ how_many (is_param_of (token_of TYPE_DEF (suc at.row))) h.there.rec.generic_param
  unfolding kept_generic_params
  sorted_count =
      many_sorted (is_owned_by token) (λ (x : SortedRow). x.key) (all_rows (λ rec. rec.generic_param) (sorted_param (before m) m.kept) (before m))
      ∙ one_of (is_owned_by token) (λ b rec. each_row (sorted_param (before m) m.kept b rec) rec.generic_param) (before m) 0 at.asm h.there.rec h.there.here h.earlier
      (λ b rec apart. each_many (before m) m.kept b rec token 0 rec.generic_param
      ∙ many_zero (λ (row : GenericParamRow). has token (owner_token (before m) m.kept b row.owner)) rec.generic_param (λ row. other_tokens b row (λ e. apart (e ∙ zero_more at.asm))))
      ∙ ap (λ (b : ℕ). how_many (is_owned_by token) (each_row (sorted_param (before m) m.kept b h.there.rec) h.there.rec.generic_param)) (sym (zero_more at.asm))
      ∙ each_many (before m) m.kept at.asm h.there.rec token 0 h.there.rec.generic_param
      ∙ many_same (λ (row : GenericParamRow). has token (owner_token (before m) m.kept at.asm row.owner)) (is_param_of (token_of TYPE_DEF (suc at.row))) h.there.rec.generic_param own_tokens
    where
      zero_more : (n : ℕ) → n ≡ 0 + n
      zero_more n = omega arith

-- ---- the rows of what is left

abbrev pub All : {A : Type 0} → (A → Type 0) → List A → Type 0
All P [] = Unit {0}
All P (x ∷ xs) = P x × All P xs

module _ {A : Type 0} (P : A → Type 0) where
  pub all_append : (xs ys : List A) → All P xs → All P ys → All P (xs ++ ys)
  all_append [] ys hs gs = gs
  all_append (x ∷ xs) ys hs gs = (hs.0, all_append xs ys hs.1 gs)

  put_if : (key : A → ℕ) (x y : A) (ys : List A) (b : Bool) → P x → P y → All P ys → All P (put key x ys) → All P (if b then x ∷ y ∷ ys else y ∷ put key x ys)
  put_if key x y ys true h g gs more = (h, (g, gs))
  put_if key x y ys false h g gs more = (g, more)

  all_put : (key : A → ℕ) (x : A) (xs : List A) → P x → All P xs → All P (put key x xs)
  all_put key x [] h hs = (h, hs)
  all_put key x (y ∷ ys) h hs = put_if key x y ys (nat_lt (key x) (key y)) h hs.0 hs.1 (all_put key x ys h hs.1)

  pub all_in : (key : A → ℕ) (sorted xs : List A) → All P sorted → All P xs → All P (put_all key sorted xs)
  unfolding put_all
  all_in key sorted [] gs hs = gs
  all_in key sorted (x ∷ xs) gs hs = all_in key (put key x sorted) xs (all_put key x sorted hs.0 gs) hs.1

module _ (recs : List AsmRec) (kept : Kept) where
  abbrev Stands : SortedRow → Type 0
  Stands x = IsThere (λ rec. length rec.generic_param) recs x.at

  option_stands : (a k : ℕ) (key : ℕ → ℕ) (o : Option ℕ) → IsThere (λ rec. length rec.generic_param) recs (at_row a k) → All Stands (sorted_at a k key o)
  option_stands a k key None h = tt
  option_stands a k key (Some n) h = (h, tt)

  each_stand : (a : ℕ) (rec : AsmRec) → slice_get recs a ≡ Some rec → (k : ℕ) (rows : List GenericParamRow) → k + length rows ≤ length rec.generic_param → All Stands (each_from (sorted_param recs kept a rec) k rows)
  each_stand a rec e k [] le = tt
  each_stand a rec e k (row ∷ rows) le =
      all_append Stands (sorted_param recs kept a rec k row) (each_from (sorted_param recs kept a rec) (suc k) rows)
      (option_stands a k (param_key row.number) (owner_token recs kept a row.owner) (record { rec = rec; here = e; below = omega (arith, le) }))
      (each_stand a rec e (suc k) rows (omega (arith, le)))

  inputs_stand : (rest : List AsmRec) (a : ℕ) → ((k : ℕ) → slice_get rest k ≡ slice_get recs (a + k))
      → All Stands (flat_map (λ (x : ℕ × AsmRec). each_row (sorted_param recs kept x.0 x.1) x.1.generic_param) (inputs_from a rest))
  inputs_stand [] a same = tt
  inputs_stand (rec ∷ []) a same = tt
  inputs_stand (rec ∷ next ∷ rest) a same =
      let z : a ≡ a + 0 = omega arith in
      all_append Stands (each_row (sorted_param recs kept a rec) rec.generic_param) (flat_map (λ (x : ℕ × AsmRec). each_row (sorted_param recs kept x.0 x.1) x.1.generic_param) (inputs_from (suc a) (next ∷ rest)))
      (each_stand a rec (ap (slice_get recs) z ∙ sym (same 0)) 0 rec.generic_param (omega arith))
      (inputs_stand (next ∷ rest) (suc a) (λ k. let y : a + suc k ≡ suc a + k = omega arith in same (suc k) ∙ ap (slice_get recs) y))

  params_stand : All Stands (kept_generic_params recs kept)
  unfolding kept_generic_params
  params_stand =
      all_in Stands (λ (x : SortedRow). x.key) [] (all_rows (λ rec. rec.generic_param) (sorted_param recs kept) recs) tt
      (inputs_stand recs 0 (λ k. let z : k ≡ 0 + k = omega arith in ap (slice_get recs) z))

  each_count : (token : ℕ) (xs : List SortedRow) → All Stands xs → how_many (is_param_of token) (each_sorted recs (λ rec. rec.generic_param) new_generic_param xs) ≡ how_many (is_owned_by token) xs
  each_count token [] hs = many_none (is_param_of token) ∙ sym (many_none (is_owned_by token))
  each_count token (x ∷ xs) hs =
      let h = hs.0 in
      let row = place_has h.rec.generic_param x.at.row h.below in
      let one = made recs (λ rec. rec.generic_param) (λ (at : RowAt) (rec : AsmRec) (row : GenericParamRow). new_generic_param x.owner at.asm rec row) x.at h.rec row.0 h.here row.1 in
      let more = each_count token xs hs.1 in
      let rest : List GenericParamRow = each_sorted recs (λ rec. rec.generic_param) new_generic_param xs in
      ap (λ (rows : List GenericParamRow). how_many (is_param_of token) ((rows ++ []) ++ each_sorted recs (λ rec. rec.generic_param) new_generic_param xs)) one
      ∙ many_cons (is_param_of token) (new_generic_param x.owner x.at.asm h.rec row.0) (each_sorted recs (λ rec. rec.generic_param) new_generic_param xs)
      ∙ ap (λ (k : ℕ). cond (x.owner == token) 1 0 + k) more ∙ sym (many_cons (is_owned_by token) x xs)

module _ (m : Merge) (is : IsMerge m) (at : RowAt) (h : Input m types_in number_type (type_kind m is) at) where
  left_rows : m.left.generic_param ≡ each_sorted (before m) (λ rec. rec.generic_param) new_generic_param (kept_generic_params (before m) m.kept)
  unfolding output_of
  left_rows = ap (λ (rec : AsmRec). rec.generic_param) (left_is m is).is

  pub params_move : param_count m.left (rank (keeps types_in (before m) number_type m.kept) (number_at types_in (before m) at)) ≡ param_count h.there.rec at.row
  unfolding param_count how_many
  params_move =
      sym (length-filter (is_param_of (token_of TYPE_DEF (suc (rank (keeps types_in (before m) number_type m.kept) (number_at types_in (before m) at))))) m.left.generic_param)
      ∙ ap (how_many (is_param_of (token_of TYPE_DEF (suc (rank (keeps types_in (before m) number_type m.kept) (number_at types_in (before m) at)))))) left_rows
      ∙ each_count (before m) m.kept (token_of TYPE_DEF (suc (rank (keeps types_in (before m) number_type m.kept) (number_at types_in (before m) at)))) (kept_generic_params (before m) m.kept) (params_stand (before m) m.kept)
      ∙ sorted_count m is at h
      ∙ length-filter (is_param_of (token_of TYPE_DEF (suc at.row))) h.there.rec.generic_param
