-- Tokens that are made of a row's place name the row, where the table has so many rows.
use Rattle.std.proofs.Common.{◌≡◌, ◌<◌, ◌≤◌, ℕ, zero, suc, ◌+◌, ◌*◌, ◌/◌, ◌%◌, List, [], ◌∷◌, length, Bool, true, false, cond, ◌⊎◌, inl, inr, Option, Some, None, refl, sym, ap, subst, ◌∙◌, arith, ltb-true}
use Rattle.std.specs.Prelude.{slice_get, position, nat_le, nat_lt, nat_eq, not, ◌&&◌, ◌||◌, ◌==◌, IsTrue, if◌then◌else◌}
use Rattle.std.specs.List.{Contains, list_any, position_or_len}
use Rattle.std.specs.Option.{option_map, option_and_then}
use Rattle.std.proofs.lemmas.Bool.{and_parts, and_from, leb-true, le-leb, eqb-true, eq-eqb, lt-ltb}
use Rattle.il_base.specs.declared.cli_format.column.Column.{Column}
use Rattle.il_base.specs.declared.cli_format.column.Column.TheVariants.{Index, IndexOrNone, Coded, CodedOrNone}
use Rattle.il_base.specs.declared.cli_format.column.CodedIndex.{CodedIndex}
use Rattle.il_base.specs.cli_format.Coded.{targets_of}
use Rattle.il_base.specs.declared.world_model.record.AsmRec.{AsmRec}
use Rattle.il_base.specs.world_model.Tokens.{token_of, table_of, row_of, index_from, index_in}
use Rattle.il_base.specs.world_model.Records.{rows_in, names_row, names, Names}
use Rattle.rules.specs.declared.link_rules.row_at.RowAt.{RowAt}
use Rattle.rules.specs.link_rules.Types.{at_row}
use Rattle.rules.specs.link_rules.Cycles.{same_row}
use Rattle.rules.specs.merge_rules.Numbers.{new_row}
use Rattle.rules.specs.merge_rules.Refs.{row_token, kept_token}
use Rattle.rules.specs.merge_rules.Rows.{token_32, place_token}
use Rattle.merge_laws.proofs.lemmas.merged_record.Lists.{map_some, and_then_some}

-- ---- places

pub record At {A : Type 0} (p : A → Bool) (xs : List A) (k : ℕ) : Type 0 where
  pub item : A
  pub there : slice_get xs k ≡ Some item
  pub passes : p item ≡ true
  pub within : k < length xs

prefix_by : {A : Type 0} (p : A → Bool) (x : A) (xs : List A) (b : Bool) → p x ≡ b → (nat_lt (position_or_len p xs) (length xs) ≡ true → At p xs (position_or_len p xs))
    → nat_lt (cond (not b) (1 + position_or_len p xs) 0) (length (x ∷ xs)) ≡ true → At p (x ∷ xs) (cond (not b) (1 + position_or_len p xs) 0)
prefix_by p x xs true e more h = record { item = x; there = refl; passes = e; within = omega arith }
prefix_by p x xs false e more h =
    let lt : 1 + position_or_len p xs < suc (length xs) = ltb-true (1 + position_or_len p xs) (length (x ∷ xs)) h in
    let m = more (lt-ltb (position_or_len p xs) (length xs) (omega (arith, lt))) in
    let n : 1 + position_or_len p xs ≡ suc (position_or_len p xs) = omega arith in
    record { item = m.item; there = ap (slice_get (x ∷ xs)) n ∙ m.there; passes = m.passes; within = lt }

first_is : {A : Type 0} (p : A → Bool) (xs : List A) → nat_lt (position_or_len p xs) (length xs) ≡ true → At p xs (position_or_len p xs)
first_is p [] h = absurd (cc)
first_is p (x ∷ xs) h = prefix_by p x xs (p x) refl (first_is p xs) h

position_by : {A : Type 0} (p : A → Bool) (xs : List A) (k : ℕ) (b : Bool) → nat_lt (position_or_len p xs) (length xs) ≡ b → (if b then Some (position_or_len p xs) else None) ≡ Some k → At p xs k
position_by p xs k true lt e = let same : position_or_len p xs ≡ k = cc in subst (At p xs) same (first_is p xs lt)
position_by p xs k false lt e = absurd (cc)

pub position_is : {A : Type 0} (p : A → Bool) (xs : List A) (k : ℕ) → position p xs ≡ Some k → At p xs k
position_is p xs k e = position_by p xs k (nat_lt (position_or_len p xs) (length xs)) refl e

pub row_is : (x y : RowAt) → same_row x y ≡ true → x ≡ y
row_is x y h =
    let p = and_parts (nat_eq x.asm y.asm) (nat_eq x.row y.row) h in
    let a = eqb-true x.asm y.asm p.0 in
    let r = eqb-true x.row y.row p.1 in
    λ i. record { asm = a i; row = r i }

-- rows of one number are one row
pub one_row : (rows : List RowAt) (x y : RowAt) (n : ℕ) → new_row rows x ≡ Some n → new_row rows y ≡ Some n → x ≡ y
one_row rows x y n e f =
    let p = position_is (same_row x) rows n e in
    let q = position_is (same_row y) rows n f in
    let same : p.item ≡ q.item = let a = p.there in let b = q.there in cc in
    row_is x p.item p.passes ∙ same ∙ sym (row_is y q.item q.passes)

-- ---- tokens

table_here : (table k : ℕ) → table < 256 → suc k < 16777216 → table_of (token_of table (suc k) % 4294967296) ≡ table
table_here table k h g = omega arith

row_here : (table k : ℕ) → table < 256 → suc k < 16777216 → row_of (token_of table (suc k) % 4294967296) ≡ suc k
row_here table k h g = omega arith

-- a token of a table whose row is there
pub record Stands (left : AsmRec) (table token : ℕ) : Type 0 where
  pub is : table_of token ≡ table
  pub begins : 1 ≤ row_of token
  pub within : row_of token ≤ rows_in left table

pub stands : (left : AsmRec) (table k : ℕ) → table < 256 → suc k < 16777216 → suc k ≤ rows_in left table → Stands left table (token_32 table k)
stands left table k low small le =
    let r = row_here table k low small in
    record { is = table_here table k low small; begins = omega (arith, r); within = omega (arith, r) }

pub named : (left : AsmRec) (tables : List ℕ) (table token : ℕ) → Stands left table token → list_any (λ t. t == table) tables ≡ true → names_row left tables token ≡ true
unfolding names_row
named left tables table token s h =
    let e = sym s.is in
    and_from (list_any (λ t. t == table_of token) tables && nat_le 1 (row_of token)) (nat_le (row_of token) (rows_in left (table_of token)))
    (and_from (list_any (λ t. t == table_of token) tables) (nat_le 1 (row_of token)) (subst (λ (n : ℕ). list_any (λ t. t == n) tables ≡ true) e h) (le-leb 1 (row_of token) s.begins))
    (subst (λ (n : ℕ). nat_le (row_of token) (rows_in left n) ≡ true) e (le-leb (row_of token) (rows_in left table) s.within))

-- what a token that names a row has
pub record NamedRow (rec : AsmRec) (tables : List ℕ) (token : ℕ) : Type 0 where
  pub table : list_any (λ t. t == table_of token) tables ≡ true
  pub begins : 1 ≤ row_of token
  pub within : row_of token ≤ rows_in rec (table_of token)

pub of_named : (rec : AsmRec) (tables : List ℕ) (token : ℕ) → names_row rec tables token ≡ true → NamedRow rec tables token
unfolding names_row
of_named rec tables token h =
    let p = and_parts (list_any (λ t. t == table_of token) tables && nat_le 1 (row_of token)) (nat_le (row_of token) (rows_in rec (table_of token))) h in
    let q = and_parts (list_any (λ t. t == table_of token) tables) (nat_le 1 (row_of token)) p.0 in
    record { table = q.0; begins = leb-true 1 (row_of token) q.1; within = leb-true (row_of token) (rows_in rec (table_of token)) p.1 }

-- ---- columns

or_true : (b c : Bool) → c ≡ true → (b || c) ≡ true
or_true true c e = refl
or_true false c e = e

or_false : (b : Bool) → (b || false) ≡ true → b ≡ true
or_false true e = refl
or_false false e = e

pub one_table : (t table : ℕ) → list_any (λ u. u == table) (t ∷ []) ≡ true → t ≡ table
one_table t table h = eqb-true t table (or_false (t == table) h)

only : (t : ℕ) → list_any (λ u. u == t) (t ∷ []) ≡ true
only t = let e : (t == t) ≡ true = eq-eqb t t refl in rw e refl

pub index_names : (left : AsmRec) (t token : ℕ) → Stands left t token → Names left (Index t) token
unfolding names
index_names left t token s = named left (t ∷ []) t token s (only t)

pub coded_names : (left : AsmRec) (index : CodedIndex) (t token : ℕ) → Stands left t token → list_any (λ u. u == t) (targets_of index) ≡ true → Names left (Coded index) token
unfolding names
coded_names left index t token s h = named left (targets_of index) t token s h

pub or_coded : (left : AsmRec) (index : CodedIndex) (token : ℕ) → (1 ≤ token → Names left (Coded index) token) → Names left (CodedOrNone index) token
unfolding names
or_coded left index zero h = refl
or_coded left index (suc n) h = or_true (suc n == 0) (names_row left (targets_of index) (suc n)) (h (omega arith))

pub of_index : (rec : AsmRec) (t token : ℕ) → Names rec (Index t) token → NamedRow rec (t ∷ []) token
unfolding names
of_index rec t token h = of_named rec (t ∷ []) token h

pub of_coded : (rec : AsmRec) (index : CodedIndex) (token : ℕ) → Names rec (Coded index) token → NamedRow rec (targets_of index) token
unfolding names
of_coded rec index token h = of_named rec (targets_of index) token h

-- ---- kept rows and references

pub placed : (left : AsmRec) (table : ℕ) (rows : List RowAt) (at : RowAt) (token : ℕ) → table < 256 → length rows ≤ rows_in left table → rows_in left table < 16777216 → place_token table rows at ≡ Some token
    → Stands left table token
placed left table rows at token low le small e =
    let m = map_some (token_32 table) (new_row rows at) token e in
    let p = position_is (same_row at) rows m.0 m.1 in
    let lt = p.within in
    subst (Stands left table) m.2 (stands left table m.0 low (omega arith) (omega arith))

-- rows of one token are one row
pub one_place : (table : ℕ) (rows : List RowAt) (x y : RowAt) (token : ℕ) → table < 256 → length rows < 16777216 → place_token table rows x ≡ Some token → place_token table rows y ≡ Some token → x ≡ y
one_place table rows x y token low small e f =
    let m = map_some (token_32 table) (new_row rows x) token e in
    let n = map_some (token_32 table) (new_row rows y) token f in
    let p = position_is (same_row x) rows m.0 m.1 in
    let q = position_is (same_row y) rows n.0 n.1 in
    let i = p.within in
    let j = q.within in
    let a = row_here table m.0 low (omega arith) in
    let b = row_here table n.0 low (omega arith) in
    let same : token_32 table m.0 ≡ token_32 table n.0 = m.2 ∙ sym n.2 in
    let one : suc m.0 ≡ suc n.0 = sym a ∙ ap row_of same ∙ b in
    let number : m.0 ≡ n.0 = omega arith in
    one_row rows x y m.0 m.1 (n.1 ∙ ap Some (sym number))

ref_by : {A : Type 0} (left : AsmRec) (table : ℕ) (p : A → Bool) (xs : List A) (o : Option ℕ) → position p xs ≡ o → table < 256 → length xs ≤ rows_in left table → rows_in left table < 16777216 → 1 ≤ row_token table o
    → Stands left table (row_token table o)
ref_by left table p xs None e low le small ge = absurd (omega arith)
ref_by left table p xs (Some k) e low le small ge = let at = position_is p xs k e in let lt = at.within in stands left table k low (omega arith) (omega arith)

pub ref_stands : {A : Type 0} (left : AsmRec) (table : ℕ) (p : A → Bool) (xs : List A) → table < 256 → length xs ≤ rows_in left table → rows_in left table < 16777216 → 1 ≤ row_token table (position p xs)
    → Stands left table (row_token table (position p xs))
ref_stands left table p xs low le small ge = ref_by left table p xs (position p xs) refl low le small ge

kept_by : (left : AsmRec) (table : ℕ) (rows : List RowAt) (at : Option RowAt) (o : Option ℕ) → option_and_then (new_row rows) at ≡ o → table < 256 → length rows ≤ rows_in left table → rows_in left table < 16777216
    → 1 ≤ row_token table o → Stands left table (row_token table o)
kept_by left table rows at None e low le small ge = absurd (omega arith)
kept_by left table rows at (Some k) e low le small ge =
    let m = and_then_some (new_row rows) at k e in
    let p = position_is (same_row m.0) rows k m.2 in
    let lt = p.within in
    stands left table k low (omega arith) (omega arith)

pub kept_stands : (left : AsmRec) (table : ℕ) (rows : List RowAt) (at : Option RowAt) → table < 256 → length rows ≤ rows_in left table → rows_in left table < 16777216 → 1 ≤ kept_token table rows at
    → Stands left table (kept_token table rows at)
kept_stands left table rows at low le small ge = kept_by left table rows at (option_and_then (new_row rows) at) refl low le small ge

-- the place that a token of a table has
pub index_row : (table token k : ℕ) → index_in table token ≡ Some k → (table_of token ≡ table) × (row_of token ≡ suc k)
index_row table token k e = by_test (table_of token == table) refl e
  where
    row_by : (n : ℕ) → index_from n ≡ Some k → n ≡ suc k
    row_by zero h = absurd (cc)
    row_by (suc j) h = cc

    by_test : (b : Bool) → (table_of token == table) ≡ b → (if b then index_from (row_of token) else None) ≡ Some k → (table_of token ≡ table) × (row_of token ≡ suc k)
    by_test true t h = (eqb-true (table_of token) table t, row_by (row_of token) h)
    by_test false t h = absurd (cc)
