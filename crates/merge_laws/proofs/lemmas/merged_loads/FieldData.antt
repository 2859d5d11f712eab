-- The bytes of what is left of fields are as many as their types have: a field's type is a primitive or a kept type, whose layout goes
-- with it.
use Rattle.std.proofs.Common.{◌≡◌, ◌<◌, ◌≤◌, ℕ, zero, suc, ◌+◌, List, [], ◌∷◌, ◌++◌, length, map, Bool, true, false, cond, find, not, Option, Some, None, refl, sym, ap, subst, ◌∙◌, arith, eq-eqb, eqb-true}
use Rattle.std.specs.Prelude.{slice_get, position, nat_lt, nat_le, ◌==◌, ◌||◌, if◌then◌else◌}
use Rattle.std.specs.List.{Contains, flat_map, list_any, position_or_len}
use Rattle.std.specs.Option.{option_map, option_and_then}
use Rattle.std.proofs.lemmas.Bool.{lt-ltb, leb-true, ne_eqb, eqb-false}
use Rattle.il_base.specs.declared.ids.TypeId.{TypeId}
use Rattle.il_base.specs.declared.ids.Item.TheVariants as item
use Rattle.il_base.specs.declared.sig.Sig.{Sig, fold-Sig, fold-roll-Sig}
use Rattle.il_base.specs.declared.sig.Sig.TheOpen.{Sig-F}
use Rattle.il_base.specs.declared.sig.Sig.TheVariants as sig
use Rattle.il_base.specs.declared.table.TheConstants as table
use Rattle.il_base.specs.declared.cli_format.column.Column.TheVariants.{Index}
use Rattle.il_base.specs.declared.world_model.known.Known.{Known}
use Rattle.il_base.specs.declared.world_model.known.Known.TheVariants.{Good}
use Rattle.il_base.specs.declared.world_model.expr.TypeExpr.{TypeExpr}
use Rattle.il_base.specs.declared.world_model.expr.TypeExpr as expr
use Rattle.il_base.specs.declared.world_model.types.ClassLayoutRow.{ClassLayoutRow}
use Rattle.il_base.specs.declared.world_model.record.AsmRec.{AsmRec}
use Rattle.il_base.specs.world_model.Tokens.{table_of, row_of, row_index, index_from, index_in}
use Rattle.il_base.specs.world_model.Records.{table_sizes, rows_in, Names, IsRecord}
use Rattle.il_base.specs.world_model.Worlds.{rows_before, types_in, type_id, row_below, core_types, prim_of}
use Rattle.rules.specs.record_format.Parts.{primitive_size, class_size, layout_size, size_of_type}
use Rattle.rules.specs.declared.link_rules.row_at.RowAt.{RowAt}
use Rattle.rules.specs.link_rules.Types.{at_row, definition_at, ref_definition}
use Rattle.rules.specs.link_rules.Cycles.{listed, same_row}
use Rattle.rules.specs.link_rules.Members.{type_home}
use Rattle.rules.specs.link_rules.Signatures.{definition_expr, known_expr, named_type}
use Rattle.rules.specs.type_rules.Rows.{rec_at, each_from}
use Rattle.base_laws.proofs.lemmas.type_laws.Places.{home_at}
use Rattle.rules.specs.mark_rules.Places.{row_of as item_row, is_core}
use Rattle.rules.specs.merge_rules.Absent.{type_count}
use Rattle.rules.specs.merge_rules.Numbers.{inputs_from, inputs, kept_types, new_row}
use Rattle.rules.specs.merge_rules.Keys.{number_of, found_or, absent_number, class_number, world_layer, world_sig}
use Rattle.rules.specs.merge_rules.Refs.{Output, same_id, is_reference, type_refs, row_token, kept_token, type_token, number_token, new_sig_layer, new_sig}
use Rattle.rules.specs.merge_rules.Rows.{all_rows, place_token, output_rows, kept_row_token}
use Rattle.rules.specs.merge_rules.Restricted.{each_at, new_layout, class_layouts}
use Rattle.merge_laws.proofs.lemmas.merged_record.Lists.{first_in, later_in, OfInput}
use Rattle.merge_laws.proofs.lemmas.merged_record.Tokens.{one_place, one_table, of_index, index_row}
use Rattle.merge_laws.proofs.lemmas.merged_record.Rows.{IsThere}
use Rattle.merge_laws.proofs.lemmas.merged_loads.Lists.{Every, to_place}
use Rattle.merge_laws.proofs.lemmas.merged_loads.NewNames.{found}
use Rattle.merge_laws.proofs.lemmas.merged_loads.FirstFound.{found_join, flat_found, sorted_first}

-- ---- the first row of a place

first_below : {A : Type 0} (p : A → Bool) (xs : List A) → list_any p xs ≡ true → position_or_len p xs < length xs
first_below p [] e = absurd (cc)
first_below p (x ∷ xs) e = by_test (p x) e (first_below p xs)
  where
    by_test : (b : Bool) → (b || list_any p xs) ≡ true → (list_any p xs ≡ true → position_or_len p xs < length xs) → cond (not b) (1 + position_or_len p xs) 0 < suc (length xs)
    by_test true h next = omega arith
    by_test false h next = let lt = next h in omega arith

-- what is in a list has a place
pub has_place : {A : Type 0} (p : A → Bool) (xs : List A) → list_any p xs ≡ true → (k : ℕ) × (position p xs ≡ Some k)
has_place p xs e = let lt = lt-ltb (position_or_len p xs) (length xs) (first_below p xs e) in (position_or_len p xs, rw lt refl)

pub same_self : (at : RowAt) → same_row at at ≡ true
same_self at = let a = eq-eqb at.asm at.asm refl in let r = eq-eqb at.row at.row refl in rw (a, r) refl

-- ---- one row for each place

at_one : {R B : Type 0} (recs : List AsmRec) (rows : AsmRec → List R) (f : RowAt → AsmRec → R → B) (at : RowAt) (rec : AsmRec) (row : R) → slice_get recs at.asm ≡ Some rec → slice_get (rows rec) at.row ≡ Some row
    → flat_map (λ (r : AsmRec). map (f at r) (listed (slice_get (rows r) at.row))) (listed (rec_at recs at)) ≡ f at rec row ∷ []
at_one {R} {B} recs rows f at rec row e g =
    ap (λ (o : Option AsmRec). flat_map (λ (r : AsmRec). map (f at r) (listed (slice_get (rows r) at.row))) (listed o)) e
    ∙ ap (λ (o : Option R). map (f at rec) (listed o) ++ []) g

pub row_placed : {R B : Type 0} (recs : List AsmRec) (rows : AsmRec → List R) (f : RowAt → AsmRec → R → B) (places : List RowAt) → ((at : RowAt) → Contains places at → IsThere recs rows at) → (k : ℕ) (at : RowAt) (rec : AsmRec) (row : R)
    → slice_get places k ≡ Some at → slice_get recs at.asm ≡ Some rec → slice_get (rows rec) at.row ≡ Some row → slice_get (each_at recs rows f places) k ≡ Some (f at rec row)
row_placed recs rows f [] there k at rec row e g h = absurd (cc)
row_placed {R} {B} recs rows f (x ∷ places) there zero at rec row e g h =
    let same : x ≡ at = cc in
    let one : flat_map (λ (r : AsmRec). map (f x r) (listed (slice_get (rows r) x.row))) (listed (rec_at recs x)) ≡ f at rec row ∷ [] =
    ap (λ (y : RowAt). flat_map (λ (r : AsmRec). map (f y r) (listed (slice_get (rows r) y.row))) (listed (rec_at recs y))) same ∙ at_one recs rows f at rec row g h in
    ap (λ (ys : List B). slice_get (ys ++ each_at recs rows f places) 0) one
row_placed {R} {B} recs rows f (x ∷ places) there (suc k) at rec row e g h =
    let t = there x (first_in x places) in
    ap (λ (ys : List B). slice_get (ys ++ each_at recs rows f places) (suc k)) (at_one recs rows f x t.rec t.row t.there t.is)
    ∙ row_placed recs rows f places (λ y c. there y (later_in x places y c)) k at rec row e g h

-- ---- signatures of a primitive and of a class

fold_prim : (A : Type 0) (f : Sig-F A → A) (n : ℕ) → fold-Sig A f (sig.Prim n) ≡ f (Sig-F.Prim n)
fold_prim A f n = ap (fold-Sig A f) (sym (sig.rolls-Prim n)) ∙ fold-roll-Sig A f (Sig-F.Prim n)

pub fold_named : (A : Type 0) (f : Sig-F A → A) (value : Bool) (n : ℕ) → fold-Sig A f (sig.Named value n) ≡ f (Sig-F.Named value n)
fold_named A f value n = ap (fold-Sig A f) (sym (sig.rolls-Named value n)) ∙ fold-roll-Sig A f (Sig-F.Named value n)

module _ (o : Output) (a : ℕ) (rec : AsmRec) where
  pub prim_moved : (n : ℕ) → new_sig o (world_sig o.recs a rec (sig.Prim n)) ≡ sig.Prim n
  unfolding new_sig world_sig
  prim_moved n = ap (fold-Sig Sig (new_sig_layer o)) (fold_prim Sig (world_layer o.recs a rec) n) ∙ fold_prim Sig (new_sig_layer o) n

  pub named_moved : (value : Bool) (token : ℕ) → new_sig o (world_sig o.recs a rec (sig.Named value token)) ≡ sig.Named value (number_token o (class_number o.recs a rec token))
  unfolding new_sig world_sig
  named_moved value token = ap (fold-Sig Sig (new_sig_layer o)) (fold_named Sig (world_layer o.recs a rec) value token) ∙ fold_named Sig (new_sig_layer o) value (class_number o.recs a rec token)

-- ---- the token of a type of an input

def_number : (recs : List AsmRec) (t : TypeId) → number_of recs (Good (expr.Def t)) ≡ suc t.0
unfolding expr.out-TypeExpr denote.Hole.Carrier.out
def_number recs t = refl

below_next : (recs : List AsmRec) (a b k : ℕ) (rec : AsmRec) → slice_get recs a ≡ Some rec → k < length rec.type_def → a < b → rows_before types_in recs a + k < rows_before types_in recs b
unfolding rows_before
below_next [] a b k rec e lt le = absurd (cc)
below_next (r ∷ recs) a zero k rec e lt le = absurd (omega arith)
below_next (r ∷ recs) zero (suc b) k rec e lt le = let same : r ≡ rec = cc in let l : k < length r.type_def = rw same lt in omega arith
below_next (r ∷ recs) (suc a) (suc b) k rec e lt le = let l = below_next recs a b k rec e lt (omega arith) in omega arith

module _ (recs : List AsmRec) (a j : ℕ) (rec : AsmRec) (input : OfInput recs a rec) (below : j < length rec.type_def) where
  pub own_home : type_home recs (type_id recs a j) ≡ Some (at_row a j)
  own_home = let z : 0 + a ≡ a = omega arith in home_at recs 0 a j rec input.there below ∙ ap (λ (n : ℕ). Some (at_row n j)) z

  not_last : (suc a == length recs) ≡ false
  not_last = let w = input.within in ne_eqb (suc a) (length recs) (λ e. omega (arith, e))

  pub own_expr : definition_expr recs (at_row a j) ≡ expr.Def (type_id recs a j)
  unfolding definition_expr
  own_expr =
      ap (λ (b : Bool). elim (if b then option_and_then prim_of (slice_get (core_types recs) j) else None) as (λ x. TypeExpr) [ Some n ↦ expr.Prim n | None ↦ expr.Def (type_id recs a j) ]) not_last

  pub own_named : (token : ℕ) → index_in table.TYPE_DEF token ≡ Some j → named_type recs a rec token ≡ Good (definition_expr recs (at_row a j))
  unfolding named_type definition_at
  own_named token e =
      let t = (index_row table.TYPE_DEF token j e).0 in
      let b : (table_of token == table.TYPE_DEF) ≡ true = eq-eqb (table_of token) table.TYPE_DEF t in
      let lt : nat_lt j (length rec.type_def) ≡ true = lt-ltb j (length rec.type_def) below in
      ap (λ (c : Bool). known_expr recs (if c then option_map (at_row a) (row_below (types_in rec) (index_in table.TYPE_DEF token)) else option_and_then (ref_definition recs a rec) (index_in table.TYPE_REF token))) b
      ∙ ap (λ (x : Option ℕ). known_expr recs (option_map (at_row a) (row_below (types_in rec) x))) e
      ∙ ap (λ (c : Bool). known_expr recs (option_map (at_row a) (if c then Some j else None))) lt

  own_number : (token : ℕ) → index_in table.TYPE_DEF token ≡ Some j → class_number recs a rec token ≡ suc (rows_before types_in recs a + j)
  unfolding class_number
  own_number token e =
      ap (λ (k : Known TypeExpr). found_or (number_of recs k) (absent_number recs a token)) (own_named token e ∙ ap (λ (x : TypeExpr). Good x) own_expr)
      ∙ ap (λ (n : ℕ). found_or n (absent_number recs a token)) (def_number recs (type_id recs a j))

  not_core : is_core recs (item.Typ (type_id recs a j)) ≡ false
  unfolding is_core item_row
  not_core = ap (λ (x : Option RowAt). list_any (λ (at : RowAt). suc at.asm == length recs) (listed x)) own_home ∙ ap (λ (b : Bool). b || false) not_last

  not_absent : nat_le (type_count recs) (rows_before types_in recs a + j) ≡ false
  not_absent =
      let w = input.within in
      let lt = below_next recs a (length recs) j rec input.there below (omega arith) in
      by_test (nat_le (type_count recs) (rows_before types_in recs a + j)) refl lt
    where
      by_test : (b : Bool) → nat_le (type_count recs) (rows_before types_in recs a + j) ≡ b → rows_before types_in recs a + j < type_count recs → b ≡ false
      by_test true e lt = let le = leb-true (type_count recs) (rows_before types_in recs a + j) e in absurd (omega arith)
      by_test false e lt = refl

module _ (o : Output) (a j : ℕ) (rec : AsmRec) (input : OfInput o.recs a rec) (below : j < length rec.type_def) where
  own_token : type_token o (type_id o.recs a j) ≡ row_token table.TYPE_DEF (new_row (kept_types o.recs o.kept) (at_row a j))
  unfolding type_token
  own_token =
      let none : is_reference o.recs (type_id o.recs a j) ≡ false =
      ap (λ (b : Bool). b || is_core o.recs (item.Typ (type_id o.recs a j))) (not_absent o.recs a j rec input below) ∙ not_core o.recs a j rec input below in
      ap (λ (b : Bool). if b then row_token table.TYPE_REF (position (same_id (type_id o.recs a j)) (type_refs o.recs o.mets)) else kept_token table.TYPE_DEF (kept_types o.recs o.kept) (type_home o.recs (type_id o.recs a j))) none
      ∙ ap (kept_token table.TYPE_DEF (kept_types o.recs o.kept)) (own_home o.recs a j rec input below)

  -- a class of the input by its token
  pub class_moved : (token : ℕ) → index_in table.TYPE_DEF token ≡ Some j → number_token o (class_number o.recs a rec token) ≡ row_token table.TYPE_DEF (new_row (kept_types o.recs o.kept) (at_row a j))
  class_moved token e = ap (number_token o) (own_number o.recs a j rec input below token e) ∙ own_token

  -- and as an owner of rows
  row_moved : (token : ℕ) → index_in table.TYPE_DEF token ≡ Some j → kept_row_token o.recs o.kept a token ≡ place_token table.TYPE_DEF (kept_types o.recs o.kept) (at_row a j)
  unfolding kept_row_token
  row_moved token e =
      let t = (index_row table.TYPE_DEF token j e).0 in
      ap (λ (n : ℕ). option_and_then (λ k. place_token n (output_rows o.recs o.kept n) (at_row a k)) (index_in n token)) t
      ∙ ap (option_and_then (λ k. place_token table.TYPE_DEF (kept_types o.recs o.kept) (at_row a k))) e

-- ---- layouts

abbrev set_parent : ℕ → ClassLayoutRow → ClassLayoutRow
set_parent parent row = record row { parent = parent }

same_class_size : (parent : ℕ) (x : Option ClassLayoutRow) → class_size (option_map (set_parent parent) x) ≡ class_size x
same_class_size parent None = refl
same_class_size parent (Some row) = refl

-- a row is that of a token, and has the new token, or neither
data Fits (o : Output) (a token new : ℕ) (row : ClassLayoutRow) : Type 0 where
  is_it : row.parent ≡ token → kept_row_token o.recs o.kept a row.parent ≡ Some new → Fits o a token new row
  is_other : (row.parent == token) ≡ false → ((t : ℕ) → kept_row_token o.recs o.kept a row.parent ≡ Some t → (t == new) ≡ false) → Fits o a token new row

module _ (o : Output) (new : ℕ) where
  abbrev has_new : ClassLayoutRow → Bool
  has_new row = row.parent == new

  one_none : (row : ClassLayoutRow) (x : Option ℕ) → ((t : ℕ) → x ≡ Some t → (t == new) ≡ false) → find has_new (map (λ parent. record row { parent = parent }) (listed x)) ≡ None
  one_none row None h = refl
  one_none row (Some t) h = let e = h t refl in rw e refl

  one_some : (row : ClassLayoutRow) (x : Option ℕ) → x ≡ Some new → find has_new (map (λ parent. record row { parent = parent }) (listed x)) ≡ Some (set_parent new row)
  one_some row None e = absurd (cc)
  one_some row (Some t) e = let same : t ≡ new = cc in let h : (t == new) ≡ true = eq-eqb t new same in rw h (ap (λ (p : ℕ). Some (set_parent p row)) same)

  module _ (a : ℕ) (rec : AsmRec) (token : ℕ) where
    abbrev has_old : ClassLayoutRow → Bool
    has_old row = row.parent == token

    row_by : (i : ℕ) (row : ClassLayoutRow) (rows : List ClassLayoutRow) → Fits o a token new row → find has_new (each_from (new_layout o a rec) (suc i) rows) ≡ option_map (set_parent new) (find has_old rows)
        → find has_new (new_layout o a rec i row ++ each_from (new_layout o a rec) (suc i) rows) ≡ option_map (set_parent new) (find has_old (row ∷ rows))
    row_by i row rows (is_it e f) next =
        let here = one_some row (kept_row_token o.recs o.kept a row.parent) f in
        let old : has_old row ≡ true = eq-eqb row.parent token e in
        found_join has_new (new_layout o a rec i row) (each_from (new_layout o a rec) (suc i) rows) ∙ rw (here, old) refl
    row_by i row rows (is_other e f) next =
        let here = one_none row (kept_row_token o.recs o.kept a row.parent) f in
        found_join has_new (new_layout o a rec i row) (each_from (new_layout o a rec) (suc i) rows) ∙ rw (here, e) next

    rows_first : (i : ℕ) (rows : List ClassLayoutRow) → Every (Fits o a token new) rows → find has_new (each_from (new_layout o a rec) i rows) ≡ option_map (set_parent new) (find has_old rows)
    rows_first i [] h = refl
    rows_first i (row ∷ rows) h = row_by i row rows (h row (first_in row rows)) (rows_first (suc i) rows (λ r c. h r (later_in row rows r c)))

-- ---- inputs by their numbers

place_of_input : (i a : ℕ) (recs : List AsmRec) (rec : AsmRec) → slice_get recs a ≡ Some rec → suc a < length recs → slice_get (inputs_from i recs) a ≡ Some (i + a, rec)
place_of_input i a [] rec e lt = absurd (cc)
place_of_input i a (r ∷ []) rec e lt = absurd (omega arith)
place_of_input i zero (r ∷ next ∷ recs) rec e lt =
    let same : r ≡ rec = cc in
    let n : i ≡ i + 0 = omega arith in
    λ k. Some (n k, same k)
place_of_input i (suc a) (r ∷ next ∷ recs) rec e lt =
    let n : suc i + a ≡ i + suc a = omega arith in
    place_of_input (suc i) a (next ∷ recs) rec e (omega arith) ∙ ap (λ (m : ℕ). Some (m, rec)) n

input_at : (i j : ℕ) (recs : List AsmRec) (x : ℕ × AsmRec) → slice_get (inputs_from i recs) j ≡ Some x → (x.0 ≡ i + j) × (slice_get recs j ≡ Some x.1) × (suc j < length recs)
input_at i j [] x e = absurd (cc)
input_at i j (r ∷ []) x e = absurd (cc)
input_at i zero (r ∷ next ∷ recs) x e =
    let same : (i, r) ≡ x = cc in
    let n : i ≡ x.0 = ap (λ (y : ℕ × AsmRec). y.0) same in
    (omega arith, ap (λ (y : ℕ × AsmRec). Some y.1) same, omega arith)
input_at i (suc j) (r ∷ next ∷ recs) x e = let h = input_at (suc i) j (next ∷ recs) x e in let n = h.0 in let w = h.2 in (omega arith, h.1, omega arith)

-- ---- the layout of a kept type

-- a token of an own row
pub row_named : (rec : AsmRec) (t token : ℕ) → Names rec (Index t) token → (j : ℕ) × (index_in t token ≡ Some j) × (j < rows_in rec t)
row_named rec t token h =
    let n = of_index rec t token h in
    let same : t ≡ table_of token = one_table t (table_of token) n.table in
    let w : row_of token ≤ rows_in rec t = subst (λ (u : ℕ). row_of token ≤ rows_in rec u) (sym same) n.within in
    by_row (row_of token) refl (eq-eqb (table_of token) t (sym same)) n.begins w
  where
    by_row : (r : ℕ) → row_of token ≡ r → (table_of token == t) ≡ true → 1 ≤ r → r ≤ rows_in rec t → (j : ℕ) × (index_in t token ≡ Some j) × (j < rows_in rec t)
    by_row zero e b ge le = absurd (omega arith)
    by_row (suc j) e b ge le = (j, ap (λ (c : Bool). if c then row_index token else None) b ∙ ap index_from e, omega arith)

pub defined : (rec : AsmRec) (token : ℕ) → Names rec (Index table.TYPE_DEF) token → (j : ℕ) × (index_in table.TYPE_DEF token ≡ Some j) × (j < length rec.type_def)
unfolding table_sizes
defined rec token h = row_named rec table.TYPE_DEF token h

module _ (o : Output) (few : length (kept_types o.recs o.kept) < 16777216) (records : (a : ℕ) (rec : AsmRec) → OfInput o.recs a rec → IsRecord rec) where
  abbrev type_place : RowAt → Option ℕ
  type_place at = place_token table.TYPE_DEF (kept_types o.recs o.kept) at

  module _ (a : ℕ) (rec : AsmRec) (input : OfInput o.recs a rec) (token j new : ℕ) (named : index_in table.TYPE_DEF token ≡ Some j) (below : j < length rec.type_def) (is : type_place (at_row a j) ≡ Some new) where
    -- rows of one input
    not_new : (b k : ℕ) (r : AsmRec) → OfInput o.recs b r → (row : ClassLayoutRow) → Contains r.class_layout row → (i : ℕ) → index_in table.TYPE_DEF row.parent ≡ Some i → i < length r.type_def → ((at_row b i ≡ at_row a j) → ⊥)
        → (t : ℕ) → kept_row_token o.recs o.kept b row.parent ≡ Some t → (t == new) ≡ false
    not_new b k r other row c i e lt ne t f = by_test (t == new) refl
      where
        by_test : (x : Bool) → (t == new) ≡ x → x ≡ false
        by_test true h =
            let same : t ≡ new = eqb-true t new h in
            let place : type_place (at_row b i) ≡ Some new = sym (row_moved o b i r other lt row.parent e) ∙ f ∙ ap (λ (n : ℕ). Some n) same in
            absurd (ne (one_place table.TYPE_DEF (kept_types o.recs o.kept) (at_row b i) (at_row a j) new (omega arith) few place is))
        by_test false h = refl

    layout_row : (r : AsmRec) (b : ℕ) → OfInput o.recs b r → (row : ClassLayoutRow) → Contains r.class_layout row → (i : ℕ) × (index_in table.TYPE_DEF row.parent ≡ Some i) × (i < length r.type_def)
    layout_row r b other row c = let p = to_place r.class_layout row c in defined r row.parent ((records b r other).tokens.class_layouts p.0 row p.1)

    -- tokens of one row are one
    one_token : (parent i : ℕ) → index_in table.TYPE_DEF parent ≡ Some i → i ≡ j → parent ≡ token
    one_token parent i e same =
        let p = index_row table.TYPE_DEF parent i e in
        let q = index_row table.TYPE_DEF token j named in
        let x = p.0 in
        let y = q.0 in
        let z = p.1 in
        let w = q.1 in
        omega arith

    own_rows : Every (Fits o a token new) rec.class_layout
    own_rows row c =
        let l = layout_row rec a input row c in
        by_test (row.parent == token) refl l.0 l.1 l.2
      where
        by_test : (b : Bool) → (row.parent == token) ≡ b → (i : ℕ) → index_in table.TYPE_DEF row.parent ≡ Some i → i < length rec.type_def → Fits o a token new row
        by_test true e i f lt =
            let same : row.parent ≡ token = eqb-true row.parent token e in
            is_it same (ap (kept_row_token o.recs o.kept a) same ∙ row_moved o a j rec input below token named ∙ is)
        by_test false e i f lt =
            is_other e (not_new a i rec input row c i f lt (λ h. eqb-false row.parent token e (one_token row.parent i f (ap (λ (x : RowAt). x.row) h))))

    -- rows of another input
    other_rows : (b : ℕ) (r : AsmRec) → OfInput o.recs b r → (b ≡ a → ⊥) → (i : ℕ) (rows : List ClassLayoutRow) → ((row : ClassLayoutRow) → Contains rows row → Contains r.class_layout row)
        → find (λ (row : ClassLayoutRow). row.parent == new) (each_from (new_layout o b r) i rows) ≡ None
    other_rows b r other ne i [] h = refl
    other_rows b r other ne i (row ∷ rows) h =
        let c = h row (first_in row rows) in
        let l = layout_row r b other row c in
        let here = one_none o new row (kept_row_token o.recs o.kept b row.parent) (not_new b i r other row c l.0 l.1 l.2 (λ e. ne (ap (λ (x : RowAt). x.asm) e))) in
        let rest = other_rows b r other ne (suc i) rows (λ x d. h x (later_in row rows x d)) in
        found_join (λ (x : ClassLayoutRow). x.parent == new) (new_layout o b r i row) (each_from (new_layout o b r) (suc i) rows) ∙ rw (here, rest) refl

    pub layout_stays : layout_size (class_layouts o) new ≡ layout_size rec.class_layout token
    layout_stays =
        let part : ℕ × AsmRec → List ClassLayoutRow = λ x. each_from (new_layout o x.0 x.1) 0 x.1.class_layout in
        let zero_is : 0 + a ≡ a = omega arith in
        let at : slice_get (inputs o.recs) a ≡ Some (a, rec) = place_of_input 0 a o.recs rec input.there input.within ∙ ap (λ (n : ℕ). Some (n, rec)) zero_is in
        let whole : find (λ (x : ClassLayoutRow). x.parent == new) (all_rows (λ r. r.class_layout) (new_layout o) o.recs) ≡ find (λ (x : ClassLayoutRow). x.parent == new) (part (a, rec)) =
        flat_found (λ (x : ClassLayoutRow). x.parent == new) part (inputs o.recs) a (a, rec) at
        (λ k y e ne.
        let i = input_at 0 k o.recs y e in
        let n = i.0 in
        let number : y.0 ≡ k = omega arith in
        other_rows y.0 y.1 (record { there = ap (slice_get o.recs) number ∙ i.1; within = (let w = i.2 in omega arith) }) (λ same. ne (sym number ∙ same)) 0 y.1.class_layout (λ row c. c)) in
        ap class_size
        (sorted_first (λ (x : ClassLayoutRow). x.parent) new (all_rows (λ r. r.class_layout) (new_layout o) o.recs) ∙ whole ∙ rows_first o new a rec token 0 rec.class_layout own_rows)
        ∙ same_class_size new (find (λ (row : ClassLayoutRow). row.parent == token) rec.class_layout)

-- ---- the size of a field's type

-- a primitive, or a class with a layout
pub data Sized (layouts : List ClassLayoutRow) (s : Sig) (n : ℕ) : Type 0 where
  by_prim : (k : ℕ) → s ≡ sig.Prim k → primitive_size k ≡ Some n → Sized layouts s n
  by_class : (value : Bool) (token : ℕ) → s ≡ sig.Named value token → layout_size layouts token ≡ Some n → Sized layouts s n

pub type_sized : (layouts : List ClassLayoutRow) (s : Sig) (n : ℕ) → size_of_type layouts s ≡ Some n → Sized layouts s n
type_sized layouts (sig.Prim k) n e = by_prim k refl e
type_sized layouts (sig.Named value token) n e = by_class value token refl e
type_sized layouts s n e = absurd (cc)

passes_by : (token : ℕ) (x row : ClassLayoutRow) (rest : Option ClassLayoutRow) (b : Bool) → (x.parent == token) ≡ b → (if b then Some x else rest) ≡ Some row → (rest ≡ Some row → (row.parent == token) ≡ true) → (row.parent == token) ≡ true
passes_by token x row rest true g h next = let same : x ≡ row = cc in subst (λ (y : ClassLayoutRow). (y.parent == token) ≡ true) same g
passes_by token x row rest false g h next = next h

passes : (token : ℕ) (xs : List ClassLayoutRow) (row : ClassLayoutRow) → find (λ (x : ClassLayoutRow). x.parent == token) xs ≡ Some row → (row.parent == token) ≡ true
passes token [] row f = absurd (cc)
passes token (x ∷ xs) row f = passes_by token x row (find (λ (y : ClassLayoutRow). y.parent == token) xs) (x.parent == token) refl f (passes token xs row)

pub layout_named : (layouts : List ClassLayoutRow) (token n : ℕ) → layout_size layouts token ≡ Some n → (row : ClassLayoutRow) × Contains layouts row × (row.parent ≡ token)
layout_named layouts token n e = by_found (find (λ (row : ClassLayoutRow). row.parent == token) layouts) refl e
  where
    by_found : (x : Option ClassLayoutRow) → find (λ (row : ClassLayoutRow). row.parent == token) layouts ≡ x → class_size x ≡ Some n → (row : ClassLayoutRow) × Contains layouts row × (row.parent ≡ token)
    by_found None f g = absurd (cc)
    by_found (Some row) f g = (row, found (λ (x : ClassLayoutRow). x.parent == token) layouts row f, eqb-true row.parent token (passes token layouts row f))
