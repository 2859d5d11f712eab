-- The rows of types in the core library, with the names that are added to it: each base stands at a lower level.
use Rattle.std.proofs.Common.{◌≡◌, ℕ, zero, suc, ◌+◌, ◌<◌, Bool, true, false, List, [], ◌∷◌, ◌++◌, length, map, Option, Some, None, nat_lt, nat_eq, refl, sym, ap, subst, ◌∙◌, arith}
use Rattle.std.specs.Prelude.{slice_get, position, ◌==◌, ◌&&◌, ◌||◌}
use Rattle.std.specs.List.{position_or_len, list_all}
use Rattle.std.proofs.lemmas.Bool.{lt-ltb, ltb-true, and_parts, eqb-true}
use Rattle.std.proofs.lemmas.List.{length-append}
use Rattle.std.proofs.lemmas.List.Folds.{list_all-append}
use Rattle.il_base.specs.declared.world_model.types.TypeDefRow.{TypeDefRow}
use Rattle.il_base.specs.declared.world_model.record.AsmRec.{AsmRec}
use Rattle.il_base.specs.world_model.Tokens.{table_of, index_in}
use Rattle.il_base.specs.world_model.Worlds.{prim_of, prims, is_code_of}
use Rattle.il_base.specs.declared.core_table.tokens.TheConstants.{OBJECT, VALUE_TYPE, EXCEPTION, MEMBER_INFO, METHOD_BASE, SYSTEM_EXCEPTION, APPLICATION_EXCEPTION, MEMBER_ACCESS_EXCEPTION, MISSING_MEMBER_EXCEPTION, ARGUMENT_EXCEPTION, ARITHMETIC_EXCEPTION}
use Rattle.il_base.specs.core_table.Names.{text_of}
use Rattle.il_base.specs.core_table.Record.{core_record, record_with, type_rows, type_row}
use Rattle.rules.specs.declared.link_rules.core_type_name.CoreTypeName.{CoreTypeName}
use Rattle.rules.specs.link_rules.Members.{is_interface_row}
use Rattle.rules.specs.link_rules.CoreNames.{added_row, core_with}

-- a base at a lower level
abbrev bases : List ℕ
bases = 0 ∷ OBJECT ∷ VALUE_TYPE ∷ EXCEPTION ∷ MEMBER_INFO ∷ METHOD_BASE ∷ SYSTEM_EXCEPTION ∷ APPLICATION_EXCEPTION ∷ ARGUMENT_EXCEPTION
    ∷ ARITHMETIC_EXCEPTION ∷ MEMBER_ACCESS_EXCEPTION ∷ MISSING_MEMBER_EXCEPTION ∷ []

unfoldable pub level : ℕ → ℕ
level token = position_or_len (nat_eq token) bases

abbrev is_no_prim : Option ℕ → Bool
is_no_prim None = true
is_no_prim (Some n) = false

abbrev is_lower : ℕ → Option TypeDefRow → Bool
is_lower token None = false
is_lower token (Some base) = nat_lt (level base.extends) (level token) && is_no_prim (prim_of base)

abbrev base_row : List TypeDefRow → Option ℕ → Option TypeDefRow
base_row rows None = None
base_row rows (Some j) = slice_get rows j

abbrev is_right : List TypeDefRow → ℕ → Bool
is_right rows token = token == 0 || token == OBJECT || table_of token == 0x02 && is_lower token (base_row rows (index_in 0x02 token))

abbrev is_right_row : List TypeDefRow → TypeDefRow → Bool
is_right_row rows row = is_right rows row.extends

all_right : list_all (is_right_row core_record.type_def) core_record.type_def ≡ true
unfolding core_record record_with type_rows type_row text_of level prim_of prims
all_right = refl

-- ---- rows by their places

pub place_front : {A : Type 0} (xs ys : List A) (k : ℕ) (x : A) → slice_get xs k ≡ Some x → slice_get (xs ++ ys) k ≡ Some x
place_front [] ys k x e = cc
place_front (y ∷ xs) ys zero x e = e
place_front (y ∷ xs) ys (suc k) x e = place_front xs ys k x e

all_at : {A : Type 0} (p : A → Bool) (xs : List A) (k : ℕ) (x : A) → list_all p xs ≡ true → slice_get xs k ≡ Some x → p x ≡ true
all_at p [] k x h e = cc
all_at p (y ∷ xs) zero x h e = let same : y ≡ x = cc in ap p (sym same) ∙ (and_parts (p y) (list_all p xs) h).0
all_at p (y ∷ xs) (suc k) x h e = all_at p xs k x (and_parts (p y) (list_all p xs) h).1 e

-- the base that a token of a row names
pub record BaseAt (rows : List TypeDefRow) (token : ℕ) : Type 0 where
  pub table : table_of token ≡ 0x02
  pub index : ℕ
  pub is_index : index_in 0x02 token ≡ Some index
  pub row : TypeDefRow
  pub there : slice_get rows index ≡ Some row
  pub first : (n : ℕ) → prim_of row ≡ Some n → position (is_code_of n) rows ≡ Some index
  pub lower : level row.extends < level token

module _ (names : List CoreTypeName) where
  abbrev core : AsmRec
  core = core_with core_record names

  abbrev added : List TypeDefRow
  added = map (added_row core_record) names

  rows_are : core.type_def ≡ core_record.type_def ++ added
  unfolding core_with
  rows_are = refl

  pub no_interfaces : core.interface_impl ≡ []
  unfolding core_with core_record record_with
  no_interfaces = refl

  added_right : (xs : List CoreTypeName) → list_all (is_right_row core_record.type_def) (map (added_row core_record) xs) ≡ true
  added_right [] = refl
  added_right (x ∷ xs) = added_right xs

  rows_right : list_all (is_right_row core_record.type_def) core.type_def ≡ true
  rows_right =
      ap (list_all (is_right_row core_record.type_def)) rows_are ∙ list_all-append (is_right_row core_record.type_def) core_record.type_def added
      ∙ (λ i. all_right i && added_right names i)

  -- ---- System.Object

  count : length core_record.type_def ≡ 59
  unfolding core_record record_with type_rows
  count = refl

  long_types : length core.type_def ≡ 59 + length added
  long_types = ap length rows_are ∙ length-append core_record.type_def added ∙ omega (arith, count)

  first_prim : position_or_len (is_code_of 0x1c) core.type_def ≡ 1
  unfolding core_with core_record record_with type_rows type_row text_of prim_of prims
  first_prim = refl

  first_at : (p : TypeDefRow → Bool) (rows : List TypeDefRow) (more : ℕ) → position_or_len p rows ≡ 1 → length rows ≡ 59 + more → position p rows ≡ Some 1
  first_at p rows more e f =
      let g : nat_lt 1 (length rows) ≡ true = lt-ltb 1 (length rows) (omega (arith, f)) in
      rw (e, g) refl

  pub record Object : Type 0 where
    pub row : TypeDefRow
    pub there : slice_get core.type_def 1 ≡ Some row
    pub prim : prim_of row ≡ Some 0x1c
    pub base : row.extends ≡ 0
    pub class : is_interface_row row ≡ false

  pub object_row : Object
  unfolding core_with core_record record_with type_rows type_row text_of prim_of prims
  object_row = record { row = _; there = refl; prim = refl; base = refl; class = refl }

  -- System.Array
  pub record ArrayRow : Type 0 where
    pub row : TypeDefRow
    pub there : slice_get core.type_def 21 ≡ Some row
    pub class : is_interface_row row ≡ false

  pub array_row : ArrayRow
  unfolding core_with core_record record_with type_rows type_row text_of
  array_row = record { row = _; there = refl; class = refl }

  lowest : level 0 < level OBJECT
  unfolding level
  lowest = omega arith

  some_same : (n m : ℕ) (o : Option ℕ) → o ≡ Some n → o ≡ Some m → n ≡ m
  some_same n m o e f = let g : Some n ≡ Some m = sym e ∙ f in cc

  pub object_first : (n : ℕ) → prim_of object_row.row ≡ Some n → position (is_code_of n) core.type_def ≡ Some 1
  object_first n e =
      let f : 0x1c ≡ n = some_same 0x1c n (prim_of object_row.row) object_row.prim e in
      subst (λ (m : ℕ). position (is_code_of m) core.type_def ≡ Some 1) f (first_at (is_code_of 0x1c) core.type_def (length added) first_prim long_types)

  object_base : BaseAt core.type_def OBJECT
  object_base = record {
    table = refl;
    index = 1;
    is_index = refl;
    row = object_row.row;
    there = object_row.there;
    first = object_first;
    lower = subst (λ (n : ℕ). level n < level OBJECT) (sym object_row.base) lowest;
  }

  -- ---- any base

  none_prim : (n : ℕ) (o : Option ℕ) → is_no_prim o ≡ true → o ≡ Some n → ⊥
  none_prim n None e f = cc
  none_prim n (Some m) e f = cc

  lower_base : (token j : ℕ) (o : Option TypeDefRow) → table_of token ≡ 0x02 → index_in 0x02 token ≡ Some j → slice_get core_record.type_def j ≡ o → is_lower token o ≡ true → BaseAt core.type_def token
  lower_base token j None t i e h = cc
  lower_base token j (Some row) t i e h =
      let p = and_parts (nat_lt (level row.extends) (level token)) (is_no_prim (prim_of row)) h in
      record {
        table = t;
        index = j;
        is_index = i;
        row = row;
        there = ap (λ (rows : List TypeDefRow). slice_get rows j) rows_are ∙ place_front core_record.type_def added j row e;
        first = λ n f. absurd (none_prim n (prim_of row) p.1 f);
        lower = ltb-true (level row.extends) (level token) p.0;
      }

  index_base : (token : ℕ) (o : Option ℕ) → table_of token ≡ 0x02 → index_in 0x02 token ≡ o → is_lower token (base_row core_record.type_def o) ≡ true → BaseAt core.type_def token
  index_base token None t i h = cc
  index_base token (Some j) t i h = lower_base token j (slice_get core_record.type_def j) t i refl h

  token_base : (token : ℕ) (zero_ object : Bool) → (token == 0) ≡ zero_ → (token == OBJECT) ≡ object → zero_ ≡ false
      → (zero_ || object || table_of token == 0x02 && is_lower token (base_row core_record.type_def (index_in 0x02 token))) ≡ true → BaseAt core.type_def token
  token_base token true object e f z h = cc
  token_base token false true e f z h = subst (BaseAt core.type_def) (sym (eqb-true token OBJECT f)) object_base
  token_base token false false e f z h =
      let p = and_parts (table_of token == 0x02) (is_lower token (base_row core_record.type_def (index_in 0x02 token))) h in
      index_base token (index_in 0x02 token) (eqb-true (table_of token) 0x02 p.0) refl p.1

  pub base_at_row : (k : ℕ) (row : TypeDefRow) → slice_get core.type_def k ≡ Some row → (row.extends == 0) ≡ false → BaseAt core.type_def row.extends
  base_at_row k row e z =
      token_base row.extends (row.extends == 0) (row.extends == OBJECT) refl refl z (all_at (is_right_row core_record.type_def) core.type_def k row rows_right e)
