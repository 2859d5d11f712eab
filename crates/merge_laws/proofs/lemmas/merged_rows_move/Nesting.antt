-- The type that encloses a kept type is the one that did, under its new number (II.22.32).
use Rattle.std.proofs.Common.{◌≡◌, ◌<◌, ◌≤◌, ℕ, zero, suc, ◌+◌, ◌%◌, Bool, true, false, cond, nat_eq, List, [], ◌∷◌, ◌++◌, length, map, Option, Some, None, refl, sym, ap, subst, ◌∙◌, arith}
use Rattle.std.specs.Prelude.{slice_get, nat_le, ◌==◌, ◌&&◌, ◌||◌, if◌then◌else◌}
use Rattle.std.specs.List.{list_any, flat_map, filter}
use Rattle.std.specs.Option.{option_map, option_and_then}
use Rattle.std.proofs.lemmas.Bool.{eqb-true, eq-eqb, ne_eqb, leb-true, and_parts}
use Rattle.std.proofs.lemmas.List.{append-nil}
use Rattle.std.proofs.lemmas.List.Elements.{filter-append}
use Rattle.il_base.specs.declared.table.TheConstants.{TYPE_DEF}
use Rattle.il_base.specs.declared.cli_format.column.Column.TheVariants.{Index}
use Rattle.il_base.specs.declared.world_model.types.NestedClassRow.{NestedClassRow}
use Rattle.il_base.specs.declared.world_model.record.AsmRec.{AsmRec}
use Rattle.il_base.specs.world_model.Records.{IsRecord, Names, names, names_row, rows_in, table_sizes}
use Rattle.il_base.specs.world_model.Tokens.{token_of, table_of, row_of, index_from, row_index, index_in}
use Rattle.il_base.specs.world_model.Worlds.{types_in}
use Rattle.rules.specs.declared.link_rules.row_at.RowAt.{RowAt}
use Rattle.rules.specs.link_rules.Types.{at_row, encloser_in, encloser}
use Rattle.rules.specs.link_rules.Cycles.{listed}
use Rattle.rules.specs.type_rules.Rows.{each_from}
use Rattle.rules.specs.merge_rules.Numbers.{inputs_from, inputs, kept_types}
use Rattle.rules.specs.merge_rules.Rows.{all_rows, token_32, place_token, output_rows, kept_row_token}
use Rattle.rules.specs.merge_rules.Restricted.{nested_in, new_nested, nested_classes, output_of}
use Rattle.rules.specs.merged_world_rules.Merge.{Merge, before, output, IsMerge}
use Rattle.rules.specs.merged_world_rules.Numbering.{number_at}
use Rattle.merge_laws.proofs.lemmas.merged_places.Ranks.{rank}
use Rattle.merge_laws.proofs.lemmas.merged_places.Rows.{IsThere, same_some, input_below}
use Rattle.merge_laws.proofs.lemmas.merged_places.Kept.{keeps, new_row_is}
use Rattle.merge_laws.proofs.lemmas.merged_places.Worlds.{left_is}
use Rattle.merge_laws.proofs.lemmas.merged_places.Tables.{number_type, type_rows, type_kind}
use Rattle.merge_laws.proofs.lemmas.merged_places.Moving.{place_kept}
use Rattle.merge_laws.proofs.lemmas.merged_places.Situations.{place_there, Input}
use Rattle.merge_laws.proofs.lemmas.merged_rows_move.Members.{record_of}
use Rattle.merge_laws.proofs.lemmas.merged_rows_move.Stable.{has_key, sort_keeps}
use Rattle.merge_laws.proofs.lemmas.merged_rows_move.Params.{has, token_low, class_by, class_other, few_new}

-- ---- lists

abbrev head : {A : Type 0} → List A → Option A
head [] = None
head (x ∷ xs) = Some x

module _ {A B : Type 0} (p : B → Bool) (f : A → List B) where
  pub filter_flat : (xs : List A) → filter p (flat_map f xs) ≡ flat_map (λ (x : A). filter p (f x)) xs
  filter_flat [] = refl
  filter_flat (x ∷ xs) = filter-append p (f x) (flat_map f xs) ∙ ap (λ (ys : List B). filter p (f x) ++ ys) (filter_flat xs)

-- where a row that passes stands
record Stands {A : Type 0} (xs : List A) (x : A) : Type 0 where
  place : ℕ
  there : slice_get xs place ≡ Some x

module _ {A : Type 0} (p : A → Bool) where
  stands_by : (x y : A) (xs rest : List A) (b : Bool) → (filter p xs ≡ y ∷ rest → Stands xs y) → cond b (x ∷ filter p xs) (filter p xs) ≡ y ∷ rest → Stands (x ∷ xs) y
  stands_by x y xs rest true more e = let same : x ≡ y = cc in record { place = 0; there = ap Some same }
  stands_by x y xs rest false more e = let s = more e in record { place = suc s.place; there = s.there }

  first_stands : (xs rest : List A) (y : A) → filter p xs ≡ y ∷ rest → Stands xs y
  first_stands [] rest y e = absurd (cc)
  first_stands (x ∷ xs) rest y e = stands_by x y xs rest (p x) (first_stands xs rest y) e

  passes_by : (x y : A) (xs rest : List A) (b : Bool) → p x ≡ b → (filter p xs ≡ y ∷ rest → p y ≡ true) → cond b (x ∷ filter p xs) (filter p xs) ≡ y ∷ rest → p y ≡ true
  passes_by x y xs rest true t more e = let same : x ≡ y = cc in ap p (sym same) ∙ t
  passes_by x y xs rest false t more e = more e

  first_passes : (xs rest : List A) (y : A) → filter p xs ≡ y ∷ rest → p y ≡ true
  first_passes [] rest y e = absurd (cc)
  first_passes (x ∷ xs) rest y e = passes_by x y xs rest (p x) refl (first_passes xs rest y) e

-- what one input gives of all
module _ {B : Type 0} (F : ℕ → AsmRec → List B) where
  abbrev given : ℕ × AsmRec → List B
  given x = F x.0 x.1

  nothing : (rest : List AsmRec) (a : ℕ) → ((k : ℕ) (r : AsmRec) → slice_get rest k ≡ Some r → suc k < length rest → F (a + k) r ≡ []) → flat_map given (inputs_from a rest) ≡ []
  nothing [] a none = refl
  nothing (rec ∷ []) a none = refl
  nothing (rec ∷ next ∷ rest) a none =
      let z : a ≡ a + 0 = omega arith in
      let here : F a rec ≡ [] = ap (λ (n : ℕ). F n rec) z ∙ none 0 rec refl (omega arith) in
      let more = nothing (next ∷ rest) (suc a) (λ k r e lt. let y : suc a + k ≡ a + suc k = omega arith in ap (λ (n : ℕ). F n r) y ∙ none (suc k) r e (omega (arith, lt))) in
      λ i. here i ++ more i

  pub only_one : (rest : List AsmRec) (a d : ℕ) (rec : AsmRec) → slice_get rest d ≡ Some rec → suc d < length rest
      → ((k : ℕ) (r : AsmRec) → slice_get rest k ≡ Some r → suc k < length rest → (k ≡ d → ⊥) → F (a + k) r ≡ []) → flat_map given (inputs_from a rest) ≡ F (a + d) rec
  only_one [] a d rec e lt none = absurd (omega (arith, lt))
  only_one (x ∷ []) a d rec e lt none = absurd (omega (arith, lt))
  only_one (x ∷ next ∷ rest) a zero rec e lt none =
      let same : x ≡ rec = cc in
      let z : a ≡ a + 0 = omega arith in
      let here : F a x ≡ F (a + 0) rec = λ i. F (z i) (same i) in
      let more = nothing (next ∷ rest) (suc a)
      (λ k r f l. let y : suc a + k ≡ a + suc k = omega arith in ap (λ (n : ℕ). F n r) y ∙ none (suc k) r f (omega (arith, l)) (λ g. absurd (omega (arith, g)))) in
      (λ i. here i ++ more i) ∙ append-nil (F (a + 0) rec)
  only_one (x ∷ next ∷ rest) a (suc d) rec e lt none =
      let z : a ≡ a + 0 = omega arith in
      let y : suc a + d ≡ a + suc d = omega arith in
      let here : F a x ≡ [] = ap (λ (n : ℕ). F n x) z ∙ none 0 x refl (omega arith) (λ g. absurd (omega (arith, g))) in
      let more = only_one (next ∷ rest) (suc a) d rec e (omega (arith, lt))
      (λ k r f l apart. let w : suc a + k ≡ a + suc k = omega arith in ap (λ (n : ℕ). F n r) w ∙ none (suc k) r f (omega (arith, l)) (λ g. apart (omega (arith, g)))) in
      (λ i. here i ++ more i) ∙ ap (λ (n : ℕ). F n rec) y

-- ---- tokens of a record's rows

type_size : (rec : AsmRec) → rows_in rec TYPE_DEF ≡ length rec.type_def
unfolding table_sizes
type_size rec = refl

-- a TypeDef token of a row that is there
pub record NamesRow (rec : AsmRec) (w : ℕ) : Type 0 where
  pub table : table_of w ≡ TYPE_DEF
  pub place : ℕ
  pub index : row_index w ≡ Some place
  pub low : place < length rec.type_def

or_none : (b : Bool) → (b || false) ≡ b
or_none true = refl
or_none false = refl

row_by : (rec : AsmRec) (w r : ℕ) → row_of w ≡ r → table_of w ≡ TYPE_DEF → 1 ≤ r → r ≤ length rec.type_def → NamesRow rec w
row_by rec w zero e t some le = absurd (omega (arith, some))
row_by rec w (suc k) e t some le = record { table = t; place = k; index = ap index_from e; low = omega (arith, le) }

pub names_row_is : (rec : AsmRec) (w : ℕ) → Names rec (Index TYPE_DEF) w → NamesRow rec w
unfolding names names_row
names_row_is rec w h =
    let p = and_parts (list_any (λ t. t == table_of w) (TYPE_DEF ∷ []) && nat_le 1 (row_of w)) (nat_le (row_of w) (rows_in rec (table_of w))) h in
    let q = and_parts (list_any (λ t. t == table_of w) (TYPE_DEF ∷ [])) (nat_le 1 (row_of w)) p.0 in
    let t : table_of w ≡ TYPE_DEF = sym (eqb-true TYPE_DEF (table_of w) (sym (or_none (TYPE_DEF == table_of w)) ∙ q.0)) in
    let le = leb-true (row_of w) (rows_in rec (table_of w)) p.1 in
    let size : rows_in rec (table_of w) ≡ length rec.type_def = ap (rows_in rec) t ∙ type_size rec in
    row_by rec w (row_of w) refl t (leb-true 1 (row_of w) q.1) (omega (arith, le, size))

pub index_is : (rec : AsmRec) (w : ℕ) (n : NamesRow rec w) → index_in TYPE_DEF w ≡ Some n.place
index_is rec w n = ap (λ (b : Bool). if b then row_index w else None) (eq-eqb (table_of w) TYPE_DEF n.table) ∙ n.index

index_low : (n : ℕ) → n < 16777215 → index_in TYPE_DEF (33554432 + suc n) ≡ Some n
index_low n lt =
    let t : table_of (33554432 + suc n) ≡ TYPE_DEF = omega (arith, lt) in
    let r : row_of (33554432 + suc n) ≡ suc n = omega (arith, lt) in
    ap (λ (b : Bool). if b then row_index (33554432 + suc n) else None) (eq-eqb (table_of (33554432 + suc n)) TYPE_DEF t) ∙ ap index_from r

-- ---- the first row with a token

abbrev nested : NestedClassRow → ℕ
nested row = row.nested_class

abbrev around : NestedClassRow → Option ℕ
around row = index_in TYPE_DEF row.enclosing_class

encloser_by : (token : ℕ) (row : NestedClassRow) (rest : Option ℕ) (rows : List NestedClassRow) (b : Bool) → rest ≡ option_and_then around (head (filter (has_key nested token) rows))
    → (if b then index_in TYPE_DEF row.enclosing_class else rest) ≡ option_and_then around (head (cond b (row ∷ filter (has_key nested token) rows) (filter (has_key nested token) rows)))
encloser_by token row rest rows true e = refl
encloser_by token row rest rows false e = e

encloser_in_is : (token : ℕ) (rows : List NestedClassRow) → encloser_in token rows ≡ option_and_then around (head (filter (has_key nested token) rows))
encloser_in_is token [] = refl
encloser_in_is token (row ∷ rows) = encloser_by token row (encloser_in token rows) rows (nat_eq row.nested_class token) (encloser_in_is token rows)

encloser_is : (rec : AsmRec) (k : ℕ) → encloser rec k ≡ option_and_then around (head (filter (has_key nested (token_of TYPE_DEF (suc k))) rec.nested_class))
unfolding encloser
encloser_is rec k = encloser_in_is (token_of TYPE_DEF (suc k)) rec.nested_class

place_by : (w place r : ℕ) → row_of w ≡ r → index_from r ≡ Some place → row_of w ≡ suc place
place_by w place zero e f = absurd (cc)
place_by w place (suc k) e f = let same : k ≡ place = cc in e ∙ ap suc same

row_is : (rec : AsmRec) (w : ℕ) (n : NamesRow rec w) → row_of w ≡ suc n.place
row_is rec w n = place_by w n.place (row_of w) refl n.index

-- it isn't that of a type that isn't there
pub other_token : (rec : AsmRec) (w : ℕ) → NamesRow rec w → (k : ℕ) → length rec.type_def ≤ k → nat_eq w (token_of TYPE_DEF (suc k)) ≡ false
other_token rec w n k past =
    let r = row_is rec w n in
    let t = n.table in
    let low = n.low in
    ne_eqb w (token_of TYPE_DEF (suc k)) (λ e. absurd (omega (arith, e, r, t, low, past)))

-- a type that isn't there has none
none_by_rows : (rec : AsmRec) (k : ℕ) → length rec.type_def ≤ k → ((i : ℕ) (row : NestedClassRow) → slice_get rec.nested_class i ≡ Some row → NamesRow rec row.nested_class) → (rows : List NestedClassRow)
    → filter (has_key nested (token_of TYPE_DEF (suc k))) rec.nested_class ≡ rows → option_and_then around (head rows) ≡ None
none_by_rows rec k past named [] e = refl
none_by_rows rec k past named (row ∷ rest) e =
    let s = first_stands (has_key nested (token_of TYPE_DEF (suc k))) rec.nested_class rest row e in
    let n = named s.place row s.there in
    let same = first_passes (has_key nested (token_of TYPE_DEF (suc k))) rec.nested_class rest row e in
    let w = eqb-true row.nested_class (token_of TYPE_DEF (suc k)) same in
    let r = row_is rec row.nested_class n in
    let t = n.table in
    let low = n.low in
    absurd (omega (arith, w, r, t, low, past))

pub no_encloser : (rec : AsmRec) (k : ℕ) → IsRecord rec → length rec.type_def ≤ k → encloser rec k ≡ None
no_encloser rec k is past =
    encloser_is rec k
    ∙ none_by_rows rec k past (λ i row e. names_row_is rec row.nested_class (is.tokens.nested_classes i row e).0) (filter (has_key nested (token_of TYPE_DEF (suc k))) rec.nested_class) refl

-- ---- rows of the output

module _ (token : ℕ) where
  made_by : (t e : ℕ) (b : Bool) → nat_eq t token ≡ b → cond b (nested_in t e ∷ []) [] ≡ (if b then nested_in token e ∷ [] else [])
  made_by t e true same = ap (λ (n : ℕ). nested_in n e ∷ []) (eqb-true t token same)
  made_by t e false same = refl

  none_by : (b : Bool) (xs : List NestedClassRow) → xs ≡ [] → xs ≡ (if b then [] else [])
  none_by true xs e = e
  none_by false xs e = e

  made_row : (o q : Option ℕ) → filter (has_key nested token) (flat_map (λ (t : ℕ). map (nested_in t) (listed q)) (listed o)) ≡ (if has token o then map (nested_in token) (listed q) else [])
  made_row None q = refl
  made_row (Some t) None = none_by (t == token) [] refl
  made_row (Some t) (Some e) = made_by t e (nat_eq t token) refl

module _ (m : Merge) (is : IsMerge m) where
  abbrev kept_token : ℕ → ℕ → Option ℕ
  kept_token b w = kept_row_token (before m) m.kept b w

  token_is : (b w : ℕ) → table_of w ≡ TYPE_DEF → kept_token b w ≡ option_and_then (λ (k : ℕ). place_token TYPE_DEF (type_rows m is) (at_row b k)) (row_index w)
  unfolding kept_row_token kept_types
  token_is b w t =
      ap (λ (n : ℕ). option_and_then (λ (k : ℕ). place_token n (output_rows (before m) m.kept n) (at_row b k)) (index_in n w)) t
      ∙ ap (λ (c : Bool). option_and_then (λ (k : ℕ). place_token TYPE_DEF (type_rows m is) (at_row b k)) (if c then row_index w else None)) (eq-eqb (table_of w) TYPE_DEF t)

  left_nested : m.left.nested_class ≡ nested_classes (output m)
  left_nested = ap (λ (rec : AsmRec). rec.nested_class) (left_is m is).is

  -- the rows of an input name types
  nested_named : (a : ℕ) (rec : AsmRec) → slice_get (before m) a ≡ Some rec → suc a < length (before m) → (k : ℕ) (row : NestedClassRow) → slice_get rec.nested_class k ≡ Some row
      → NamesRow rec row.nested_class × NamesRow rec row.enclosing_class
  nested_named a rec e lt k row f =
      let both = (record_of m is a rec e lt).tokens.nested_classes k row f in (names_row_is rec row.nested_class both.0, names_row_is rec row.enclosing_class both.1)

  module _ (at : RowAt) (h : Input m types_in number_type (type_kind m is) at) where
    abbrev token : ℕ
    token = token_of TYPE_DEF (suc (rank (keeps types_in (before m) number_type m.kept) (number_at types_in (before m) at)))

    abbrev own : ℕ
    own = token_of TYPE_DEF (suc at.row)

    -- what a row gives
    abbrev rows_for : ℕ → NestedClassRow → List NestedClassRow
    rows_for a row = if has token (kept_token a row.nested_class) then map (nested_in token) (listed (kept_token a row.enclosing_class)) else []

    abbrev mine : NestedClassRow → List NestedClassRow
    mine row = map (nested_in token) (listed (kept_token at.asm row.enclosing_class))

    each_row_gives : (a : ℕ) (rec : AsmRec) (k : ℕ) (rows : List NestedClassRow) → filter (has_key nested token) (each_from (new_nested (output m) a rec) k rows) ≡ flat_map (rows_for a) rows
    unfolding output_of
    each_row_gives a rec k [] = refl
    each_row_gives a rec k (row ∷ rows) =
        filter-append (has_key nested token) (new_nested (output m) a rec k row) (each_from (new_nested (output m) a rec) (suc k) rows)
        ∙ (λ i. made_row token (kept_token a row.nested_class) (kept_token a row.enclosing_class) i ++ each_row_gives a rec (suc k) rows i)

    others_give : (a : ℕ) → (a ≡ at.asm → ⊥) → (rows : List NestedClassRow) → ((k : ℕ) (row : NestedClassRow) → slice_get rows k ≡ Some row → table_of row.nested_class ≡ TYPE_DEF) → flat_map (rows_for a) rows ≡ []
    others_give a apart [] tables = refl
    others_give a apart (row ∷ rows) tables =
        let w : ℕ = row.nested_class in
        let no : has token (kept_token a row.nested_class) ≡ false = ap (has token) (token_is a row.nested_class (tables 0 row refl)) ∙ class_other m is at h a (row_index row.nested_class) apart in
        let more = others_give a apart rows (λ k r e. tables (suc k) r e) in
        λ i. (if no i then map (nested_in token) (listed (kept_token a row.enclosing_class)) else []) ++ more i

    own_by : (row : NestedClassRow) (rows : List NestedClassRow) (b : Bool) → (if b then mine row else []) ++ flat_map mine (filter (has_key nested own) rows) ≡ flat_map mine (cond b (row ∷ filter (has_key nested own) rows) (filter (has_key nested own) rows))
    own_by row rows true = refl
    own_by row rows false = refl

    own_give : (rows : List NestedClassRow) → ((k : ℕ) (row : NestedClassRow) → slice_get rows k ≡ Some row → table_of row.nested_class ≡ TYPE_DEF) → flat_map (rows_for at.asm) rows ≡ flat_map mine (filter (has_key nested own) rows)
    own_give [] tables = refl
    own_give (row ∷ rows) tables =
        let yes : has token (kept_token at.asm row.nested_class) ≡ nat_eq row.nested_class own =
        ap (has token) (token_is at.asm row.nested_class (tables 0 row refl)) ∙ class_by m is at h at.asm row.nested_class (row.nested_class % 16777216) refl (tables 0 row refl) refl in
        let more = own_give rows (λ k r e. tables (suc k) r e) in
        (λ i. (if yes i then mine row else []) ++ more i) ∙ own_by row rows (nat_eq row.nested_class own)

    -- the rows of the output with the type's token
    left_rows : filter (has_key nested token) m.left.nested_class ≡ flat_map mine (filter (has_key nested own) h.there.rec.nested_class)
    unfolding output_of
    left_rows =
        ap (filter (has_key nested token)) left_nested
        ∙ sort_keeps nested token (all_rows (λ rec. rec.nested_class) (new_nested (output m)) (before m))
        ∙ filter_flat (has_key nested token) (λ (x : ℕ × AsmRec). each_from (new_nested (output m) x.0 x.1) 0 x.1.nested_class) (inputs (before m))
        ∙ only_one (λ a rec. filter (has_key nested token) (each_from (new_nested (output m) a rec) 0 rec.nested_class)) (before m) 0 at.asm h.there.rec h.there.here h.earlier
        (λ k r e lt apart. each_row_gives (0 + k) r 0 r.nested_class
        ∙ others_give (0 + k) (λ f. apart (zero_less k f)) r.nested_class (λ i row g. (nested_named k r e lt i row g).0.table))
        ∙ each_row_gives (0 + at.asm) h.there.rec 0 h.there.rec.nested_class
        ∙ ap (λ (a : ℕ). flat_map (rows_for a) h.there.rec.nested_class) (sym (zero_more at.asm))
        ∙ own_give h.there.rec.nested_class (λ i row g. (nested_named at.asm h.there.rec h.there.here h.earlier i row g).0.table)
      where
        zero_more : (n : ℕ) → n ≡ 0 + n
        zero_more n = omega arith

        zero_less : (k : ℕ) → 0 + k ≡ at.asm → k ≡ at.asm
        zero_less k f = omega (arith, f)

    -- ---- the encloser

    module _ (kept_around : (j : ℕ) → encloser h.there.rec at.row ≡ Some j → m.kept (number_type (number_at types_in (before m) (at_row at.asm j))) ≡ true) where
      abbrev new_around : ℕ → ℕ
      new_around j = rank (keeps types_in (before m) number_type m.kept) (number_at types_in (before m) (at_row at.asm j))

      new_token : (w : ℕ) (n : NamesRow h.there.rec w) → encloser h.there.rec at.row ≡ Some n.place → kept_token at.asm w ≡ Some (token_32 TYPE_DEF (new_around n.place))
      new_token w n e =
          let there : IsThere types_in (before m) (at_row at.asm n.place) = record { rec = h.there.rec; here = h.there.here; below = n.low } in
          token_is at.asm w n.table ∙ ap (option_and_then (λ (k : ℕ). place_token TYPE_DEF (type_rows m is) (at_row at.asm k))) n.index
          ∙ ap (option_map (token_32 TYPE_DEF))
          (new_row_is types_in (before m) number_type m.kept (at_row at.asm n.place) there (input_below types_in (before m) (at_row at.asm n.place) there h.earlier) (kept_around n.place e))

      around_input : (w : ℕ) (n : NamesRow h.there.rec w) → encloser h.there.rec at.row ≡ Some n.place → Input m types_in number_type (type_kind m is) (at_row at.asm n.place)
      around_input w n e =
          let there : IsThere types_in (before m) (at_row at.asm n.place) = record { rec = h.there.rec; here = h.there.here; below = n.low } in
          record {
            there = there;
            earlier = h.earlier;
            keeps_it = kept_around n.place e;
            moved = place_there m types_in number_type (type_kind m is) (at_row at.asm n.place) there
                ∙ place_kept m types_in number_type (type_kind m is) (at_row at.asm n.place) there h.earlier (kept_around n.place e);
          }

      first_by : (rows : List NestedClassRow) → filter (has_key nested own) h.there.rec.nested_class ≡ rows → option_and_then around (head (flat_map mine rows)) ≡ option_map new_around (option_and_then around (head rows))
      first_by [] e = refl
      first_by (row ∷ rest) e =
          let s = first_stands (has_key nested own) h.there.rec.nested_class rest row e in
          let n = (nested_named at.asm h.there.rec h.there.here h.earlier s.place row s.there).1 in
          let here : encloser h.there.rec at.row ≡ Some n.place =
          encloser_is h.there.rec at.row ∙ ap (λ (rows : List NestedClassRow). option_and_then around (head rows)) e ∙ index_is h.there.rec row.enclosing_class n in
          let few = few_new m is (at_row at.asm n.place) (around_input row.enclosing_class n here) in
          ap (λ (o : Option ℕ). option_and_then around (head (map (nested_in token) (listed o) ++ flat_map mine rest))) (new_token row.enclosing_class n here)
          ∙ ap (index_in TYPE_DEF) (token_low (new_around n.place) few) ∙ index_low (new_around n.place) few ∙ sym (ap (option_map new_around) (index_is h.there.rec row.enclosing_class n))

      pub encloser_moved : encloser m.left (rank (keeps types_in (before m) number_type m.kept) (number_at types_in (before m) at)) ≡ option_map new_around (encloser h.there.rec at.row)
      encloser_moved =
          encloser_is m.left (rank (keeps types_in (before m) number_type m.kept) (number_at types_in (before m) at))
          ∙ ap (λ (rows : List NestedClassRow). option_and_then around (head rows)) left_rows
          ∙ first_by (filter (has_key nested own) h.there.rec.nested_class) refl ∙ sym (ap (option_map new_around) (encloser_is h.there.rec at.row))

      -- each encloser is a row
      pub encloser_input : (j : ℕ) → encloser h.there.rec at.row ≡ Some j → Input m types_in number_type (type_kind m is) (at_row at.asm j)
      encloser_input j e = by_rows (filter (has_key nested own) h.there.rec.nested_class) refl (sym (encloser_is h.there.rec at.row) ∙ e)
        where
          by_rows : (rows : List NestedClassRow) → filter (has_key nested own) h.there.rec.nested_class ≡ rows → option_and_then around (head rows) ≡ Some j → Input m types_in number_type (type_kind m is) (at_row at.asm j)
          by_rows [] f g = absurd (cc)
          by_rows (row ∷ rest) f g =
              let s = first_stands (has_key nested own) h.there.rec.nested_class rest row f in
              let n = (nested_named at.asm h.there.rec h.there.here h.earlier s.place row s.there).1 in
              let same : n.place ≡ j = same_some n.place j (sym (index_is h.there.rec row.enclosing_class n) ∙ g) in
              subst (λ (i : ℕ). Input m types_in number_type (type_kind m is) (at_row at.asm i)) same (around_input row.enclosing_class n (e ∙ ap Some (sym same)))
