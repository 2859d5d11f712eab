-- Tokens and the numbers of coded indices (II.24.2.6).
use Rattle.std.proofs.Common.{◌≡◌, ℕ, zero, suc, ◌+◌, ◌-◌, ◌*◌, ◌/◌, ◌%◌, ◌^◌, ◌<◌, ◌≤◌, Bool, true, false, cond, eqb, List, [], ◌∷◌, Option, Some, None, refl, sym, ap, ap₂, subst, ◌∙◌, arith}
use Rattle.std.specs.Prelude.{slice_get, unwrap_or, position, option_map, ◌==◌, ◌&&◌, nat_le}
use Rattle.std.proofs.lemmas.Bool.{eqb-true, ne_eqb, and_parts, leb-true}
use Rattle.std.proofs.lemmas.Option.{none-some, same_Some}
use Rattle.std.proofs.Math.Nat.{zero-div, div-add-mod, mul_comm}
use Rattle.il_base.specs.declared.cli_format.column.CodedIndex.{CodedIndex}
use Rattle.il_base.specs.declared.cli_format.column.CodedIndex.TheVariants.{TypeDefOrRef, HasConstant, HasCustomAttribute, HasFieldMarshal, HasDeclSecurity, MemberRefParent, HasSemantics, MethodDefOrRef, MemberForwarded, Implementation, CustomAttributeType, ResolutionScope, TypeOrMethodDef}
use Rattle.il_base.specs.cli_format.Coded.{targets_of, tag_bits_of, first_tag_of}
use Rattle.il_base.specs.cli_format.Tokens.{tag_of, coded_of}
use Rattle.il_base.specs.cli_format.Tables.{rows_of, target_of, names_row, names_coded}
use Rattle.il_base.specs.world_model.Tokens.{token_of}
use Rattle.rules.specs.record_format.Cells.{index_token, coded_token}

-- ---- tags

-- each table of a list is the first of its number there
back_from : List ℕ → ℕ → List ℕ → Bool
back_from whole k [] = true
back_from whole k (t ∷ ts) = (unwrap_or (position (λ u. u == t) whole) 0 == k) && back_from whole (k + 1) ts

at_back : (whole : List ℕ) (k : ℕ) (ts : List ℕ) (j t : ℕ) → back_from whole k ts ≡ true → slice_get ts j ≡ Some t → unwrap_or (position (λ u. u == t) whole) 0 ≡ k + j
unfolding back_from
at_back whole k [] j t h e = absurd (none-some t e)
at_back whole k (u ∷ us) zero t h e =
    let same : u ≡ t = same_Some u t e in
    let here = eqb-true _ _ (and_parts (unwrap_or (position (λ v. v == u) whole) 0 == k) (back_from whole (k + 1) us) h).0 in
    let first : unwrap_or (position (λ v. v == t) whole) 0 ≡ k = subst (λ s. unwrap_or (position (λ v. v == s) whole) 0 ≡ k) same here in
    omega (arith, first)
at_back whole k (u ∷ us) (suc j) t h e =
    let rest = at_back whole (k + 1) us j t (and_parts (unwrap_or (position (λ v. v == u) whole) 0 == k) (back_from whole (k + 1) us) h).1 e in
    omega (arith, rest)

are_apart : (index : CodedIndex) → back_from (targets_of index) 0 (targets_of index) ≡ true
unfolding back_from
are_apart TypeDefOrRef = refl
are_apart HasConstant = refl
are_apart HasCustomAttribute = refl
are_apart HasFieldMarshal = refl
are_apart HasDeclSecurity = refl
are_apart MemberRefParent = refl
are_apart HasSemantics = refl
are_apart MethodDefOrRef = refl
are_apart MemberForwarded = refl
are_apart Implementation = refl
are_apart CustomAttributeType = refl
are_apart ResolutionScope = refl
are_apart TypeOrMethodDef = refl

by_test : (b : Bool) (o : Option ℕ) (t : ℕ) → cond b o None ≡ Some t → (b ≡ true) × (o ≡ Some t)
by_test true o t h = (refl, h)
by_test false o t h = absurd (none-some t h)

-- the table that a tag names: where it is among the targets, and that the tag is its own
record Target (index : CodedIndex) (tag table : ℕ) : Type 0 where
  pub place : ℕ
  pub there : slice_get (targets_of index) place ≡ Some table
  pub own : tag_of index table ≡ tag

target_is : (index : CodedIndex) (tag table : ℕ) → target_of index tag ≡ Some table → Target index tag table
unfolding target_of
target_is index tag table e =
    let parts = by_test (nat_le (first_tag_of index) tag) (slice_get (targets_of index) (tag - first_tag_of index)) table e in
    let low = leb-true (first_tag_of index) tag parts.0 in
    let back = at_back (targets_of index) 0 (targets_of index) (tag - first_tag_of index) table (are_apart index) parts.1 in
    record { place = tag - first_tag_of index; there = parts.1; own = omega (arith, back, low) }

-- ---- tokens

pub row_in : (t n : ℕ) → n < 16777216 → token_of t n % 16777216 ≡ n
row_in t n less = omega (arith, less)

pub table_in : (t n : ℕ) → n < 16777216 → token_of t n / 16777216 ≡ t
table_in t n less = omega (arith, less)

pub not_zero : (n : ℕ) → 1 ≤ n → eqb n 0 ≡ false
not_zero n h = ne_eqb n 0 (λ e. omega arith)

pub index_is : (t n : ℕ) → 1 ≤ n → index_token t n ≡ token_of t n
unfolding index_token
index_is t n h = rw (not_zero n h) refl

-- a coded index that names a row: the table, and the row in it
pub record Coded (ts : List ℕ) (index : CodedIndex) (n : ℕ) : Type 0 where
  pub table : ℕ
  pub place : ℕ
  pub listed : slice_get (targets_of index) place ≡ Some table
  pub row : ℕ
  pub low : 1 ≤ row
  pub high : row ≤ rows_of ts table
  pub token : coded_token index n ≡ token_of table row
  pub value : n ≡ row * 2 ^ tag_bits_of index + tag_of index table

found : (ts : List ℕ) (row : ℕ) (o : Option ℕ) → unwrap_or (option_map (λ t. names_row ts t row) o) false ≡ true → (t : ℕ) × (o ≡ Some t) × (names_row ts t row ≡ true)
found ts row None h = absurd cc
found ts row (Some t) h = (t, refl, h)

least : (n p : ℕ) → 1 ≤ n / p → 1 ≤ n
least zero p h = let none = zero-div p in absurd (omega (arith, none, h))
least (suc n) p h = omega arith

token_by_target : (o : Option ℕ) (t row : ℕ) → o ≡ Some t → token_of (unwrap_or o 0) row ≡ token_of t row
token_by_target o t row e = ap (λ (q : Option ℕ). token_of (unwrap_or q 0) row) e

token_unless : (zero_test : Bool) (token : ℕ) → zero_test ≡ false → cond zero_test 0 token ≡ token
token_unless true token e = absurd cc
token_unless false token e = refl

pub coded_is : (ts : List ℕ) (index : CodedIndex) (n : ℕ) → names_coded ts index n ≡ true → Coded ts index n
unfolding names_coded names_row coded_token
coded_is ts index n h =
    let p : ℕ = 2 ^ tag_bits_of index in
    let t = found ts (n / p) (target_of index (n % p)) h in
    let parts = and_parts (nat_le 1 (n / p)) (nat_le (n / p) (rows_of ts t.0)) t.2 in
    let low = leb-true 1 (n / p) parts.0 in
    let target = target_is index (n % p) t.0 t.1 in
    let more : 1 ≤ n = least n p low in
    let zero_not : eqb n 0 ≡ false = not_zero n more in
    record {
      table = t.0;
      place = target.place;
      listed = target.there;
      row = n / p;
      low = low;
      high = leb-true (n / p) (rows_of ts t.0) parts.1;
      token = token_unless (n == 0) (token_of (unwrap_or (target_of index (n % p)) 0) (n / p)) zero_not ∙ token_by_target (target_of index (n % p)) t.0 (n / p) t.1;
      value = sym (div-add-mod n p) ∙ ap₂ (λ (i k : ℕ). i + k) (mul_comm p (n / p)) (sym target.own);
    }

-- the number of a token that names a row is the coded index again
pub number_back : (ts : List ℕ) (index : CodedIndex) (n : ℕ) → (c : Coded ts index n) → rows_of ts c.table ≤ 1048576 → coded_of index (coded_token index n) ≡ n
unfolding coded_of
number_back ts index n c few =
    let token : ℕ = token_of c.table c.row in
    let low = c.low in
    let high = c.high in
    let some : eqb token 0 ≡ false = not_zero token (omega arith) in
    let row : token % 16777216 ≡ c.row = row_in c.table c.row (omega arith) in
    let table : token / 16777216 ≡ c.table = table_in c.table c.row (omega arith) in
    ap (coded_of index) c.token
    ∙ token_unless (token == 0) (token % 16777216 * 2 ^ tag_bits_of index + tag_of index (token / 16777216)) some
    ∙ ap₂ (λ (r t : ℕ). r * 2 ^ tag_bits_of index + tag_of index t) row table
    ∙ sym c.value
