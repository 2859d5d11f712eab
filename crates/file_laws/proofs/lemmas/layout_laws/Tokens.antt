-- Tokens as numbers of columns, and back (II.24.2.6).
use Rattle.std.proofs.Common.{◌≡◌, ℕ, zero, suc, ◌+◌, ◌-◌, ◌*◌, ◌/◌, ◌%◌, ◌^◌, ◌<◌, ◌≤◌, ◌⊎◌, inl, inr, Bool, true, false, cond, eqb, List, [], ◌∷◌, length, Some, refl, sym, ap, subst, ◌∙◌, arith, eqb-true}
use Rattle.std.specs.Prelude.{slice_get, unwrap_or, position, ◌==◌, ◌&&◌, ◌||◌, nat_le}
use Rattle.std.specs.List.{list_any}
use Rattle.std.proofs.lemmas.Bool.{and_parts, leb-true, le-leb, ne_eqb}
use Rattle.std.proofs.lemmas.Nat.{mod-mul-add, div-mul-add}
use Rattle.std.proofs.lemmas.Option.{none-some, same_Some, slice_get_within}
use Rattle.il_base.specs.declared.cli_format.column.Column.{Column}
use Rattle.il_base.specs.declared.cli_format.column.Column.TheVariants.{Index, IndexOrNone, Coded, CodedOrNone}
use Rattle.il_base.specs.declared.cli_format.column.CodedIndex.{CodedIndex}
use Rattle.il_base.specs.declared.cli_format.column.CodedIndex.TheVariants.{TypeDefOrRef, HasConstant, HasCustomAttribute, HasFieldMarshal, HasDeclSecurity, MemberRefParent, HasSemantics, MethodDefOrRef, MemberForwarded, Implementation, CustomAttributeType, ResolutionScope, TypeOrMethodDef}
use Rattle.il_base.specs.cli_format.Coded.{targets_of, tag_bits_of, first_tag_of}
use Rattle.il_base.specs.cli_format.Tables.{target_of}
use Rattle.il_base.specs.cli_format.Tokens.{coded_of, tag_of}
use Rattle.il_base.specs.declared.world_model.record.AsmRec.{AsmRec}
use Rattle.il_base.specs.world_model.Tokens.{table_of}
use Rattle.il_base.specs.world_model.Records.{rows_in, names_row, names, Names}
use Rattle.rules.specs.file_layout.Cells.{CellTables}
use Rattle.rules.specs.record_format.Cells.{index_token, coded_token, token_by}
use Rattle.rules.specs.record_layout.Values.{token_number}
use Rattle.file_laws.proofs.lemmas.layout_laws.Cells.{count, IsCoded}

-- ---- the row that a token names

any_place : (ts : List ℕ) (x : ℕ) → list_any (λ t. t == x) ts ≡ true → (k : ℕ) × (slice_get ts k ≡ Some x)
any_place [] x h = absurd cc
any_place (t ∷ ts) x h = by_test (t == x) (any_place ts x) refl h
  where
    by_test : (b : Bool) → (list_any (λ u. u == x) ts ≡ true → (k : ℕ) × (slice_get ts k ≡ Some x)) → (t == x) ≡ b → (b || list_any (λ u. u == x) ts) ≡ true → (k : ℕ) × (slice_get (t ∷ ts) k ≡ Some x)
    by_test true more e h = (0, ap Some (eqb-true t x e))
    by_test false more e h = let rest = more h in (suc rest.0, rest.1)

pub record RowNamed (rec : AsmRec) (tables : List ℕ) (token : ℕ) : Type 0 where
  pub place : ℕ
  pub listed : slice_get tables place ≡ Some (token / 16777216)
  pub low : 1 ≤ token % 16777216
  pub high : token % 16777216 ≤ rows_in rec (token / 16777216)

pub row_named : (rec : AsmRec) (tables : List ℕ) (token : ℕ) → names_row rec tables token ≡ true → RowNamed rec tables token
unfolding names_row
row_named rec tables token h =
    let both = and_parts (list_any (λ t. t == table_of token) tables && nat_le 1 (token % 16777216)) (nat_le (token % 16777216) (rows_in rec (table_of token))) h in
    let first = and_parts (list_any (λ t. t == table_of token) tables) (nat_le 1 (token % 16777216)) both.0 in
    let found = any_place tables (table_of token) first.0 in
    record { place = found.0; listed = found.1; low = leb-true 1 (token % 16777216) first.1; high = leb-true (token % 16777216) (rows_in rec (table_of token)) both.1 }

-- a token of one table
pub in_table : (rec : AsmRec) (t token : ℕ) → RowNamed rec (t ∷ []) token → token / 16777216 ≡ t
in_table rec t token n = by_place n.place n.listed
  where
    by_place : (k : ℕ) → slice_get (t ∷ []) k ≡ Some (token / 16777216) → token / 16777216 ≡ t
    by_place zero e = sym (same_Some t (token / 16777216) e)
    by_place (suc k) e = absurd (none-some (token / 16777216) e)

not_zero : (n : ℕ) → 1 ≤ n → eqb n 0 ≡ false
not_zero n h = ne_eqb n 0 (λ e. omega (arith, e, h))

-- ---- tags

-- each table of a list is the first of its number there
back_from : List ℕ → ℕ → List ℕ → Bool
back_from whole k [] = true
back_from whole k (t ∷ ts) = (unwrap_or (position (λ u. u == t) whole) 0 == k) && back_from whole (k + 1) ts

at_back : (whole : List ℕ) (k : ℕ) (ts : List ℕ) (j t : ℕ) → back_from whole k ts ≡ true → slice_get ts j ≡ Some t → unwrap_or (position (λ u. u == t) whole) 0 ≡ k + j
unfolding back_from
at_back whole k [] j t h e = absurd (none-some t e)
at_back whole k (u ∷ us) zero t h e =
    let same : u ≡ t = same_Some u t e in
    let here = eqb-true _ _ (and_parts (unwrap_or (position (λ v. v == u) whole) 0 == k) (back_from whole (k + 1) us) h).0 in
    let first : unwrap_or (position (λ v. v == t) whole) 0 ≡ k = subst (λ s. unwrap_or (position (λ v. v == s) whole) 0 ≡ k) same here in
    omega (arith, first)
at_back whole k (u ∷ us) (suc j) t h e =
    let rest = at_back whole (k + 1) us j t (and_parts (unwrap_or (position (λ v. v == u) whole) 0 == k) (back_from whole (k + 1) us) h).1 e in
    omega (arith, rest)

are_apart : (index : CodedIndex) → back_from (targets_of index) 0 (targets_of index) ≡ true
unfolding back_from
are_apart TypeDefOrRef = refl
are_apart HasConstant = refl
are_apart HasCustomAttribute = refl
are_apart HasFieldMarshal = refl
are_apart HasDeclSecurity = refl
are_apart MemberRefParent = refl
are_apart HasSemantics = refl
are_apart MethodDefOrRef = refl
are_apart MemberForwarded = refl
are_apart Implementation = refl
are_apart CustomAttributeType = refl
are_apart ResolutionScope = refl
are_apart TypeOrMethodDef = refl

-- all tags fit their bits
tags_fit : (index : CodedIndex) → first_tag_of index + length (targets_of index) ≤ 2 ^ tag_bits_of index
tags_fit TypeDefOrRef = omega arith
tags_fit HasConstant = omega arith
tags_fit HasCustomAttribute = omega arith
tags_fit HasFieldMarshal = omega arith
tags_fit HasDeclSecurity = omega arith
tags_fit MemberRefParent = omega arith
tags_fit HasSemantics = omega arith
tags_fit MethodDefOrRef = omega arith
tags_fit MemberForwarded = omega arith
tags_fit Implementation = omega arith
tags_fit CustomAttributeType = omega arith
tags_fit ResolutionScope = omega arith
tags_fit TypeOrMethodDef = omega arith

-- the table at a place among the targets has the tag of that place
target_at : (index : CodedIndex) (place table : ℕ) → slice_get (targets_of index) place ≡ Some table → target_of index (first_tag_of index + place) ≡ Some table
unfolding target_of
target_at index place table e =
    let low : nat_le (first_tag_of index) (first_tag_of index + place) ≡ true = le-leb (first_tag_of index) (first_tag_of index + place) (omega arith) in
    let back : first_tag_of index + place - first_tag_of index ≡ place = omega arith in
    rw (low, back) e

-- ---- a coded index

pub record CodedRow (rec : AsmRec) (index : CodedIndex) (token : ℕ) : Type 0 where
  pub tag : ℕ
  pub row : ℕ
  pub target : target_of index tag ≡ Some (token / 16777216)
  pub low : tag < 2 ^ tag_bits_of index
  pub row_is : suc row ≡ token % 16777216
  pub there : row < rows_in rec (token / 16777216)
  pub value : coded_of index token ≡ suc row * 2 ^ tag_bits_of index + tag

coded_value : (index : CodedIndex) (token row tag : ℕ) → 1 ≤ token → suc row ≡ token % 16777216 → tag_of index (token / 16777216) ≡ tag → coded_of index token ≡ suc row * 2 ^ tag_bits_of index + tag
unfolding coded_of
coded_value index token row tag some is tagged =
    let zero_not : eqb token 0 ≡ false = not_zero token some in
    rw (zero_not, ← is, tagged) refl

pub coded_row : (rec : AsmRec) (index : CodedIndex) (token : ℕ) → names_row rec (targets_of index) token ≡ true → CodedRow rec index token
coded_row rec index token h =
    let n = row_named rec (targets_of index) token h in
    let back = at_back (targets_of index) 0 (targets_of index) n.place (token / 16777216) (are_apart index) n.listed in
    let within = slice_get_within (targets_of index) n.place (token / 16777216) n.listed in
    let low = n.low in
    let high = n.high in
    let row_is : suc (token % 16777216 - 1) ≡ token % 16777216 = omega (arith, low) in
    let tagged : tag_of index (token / 16777216) ≡ first_tag_of index + n.place = ap (λ (k : ℕ). first_tag_of index + k) (back ∙ omega arith) in
    record {
      tag = first_tag_of index + n.place;
      row = token % 16777216 - 1;
      target = target_at index n.place (token / 16777216) n.listed;
      low = omega (arith, tags_fit index, within);
      row_is = row_is;
      there = omega (arith, low, high);
      value = coded_value index token (token % 16777216 - 1) (first_tag_of index + n.place) (omega (arith, low)) row_is tagged;
    }

-- it names its row
pub coded_named : (cells : CellTables) (rec : AsmRec) (index : CodedIndex) (token : ℕ) → ((t : ℕ) → rows_in rec t ≡ count cells t) → names_row rec (targets_of index) token ≡ true
    → IsCoded cells index (coded_of index token)
coded_named cells rec index token same h =
    let c = coded_row rec index token h in
    record { tag = c.tag; table = token / 16777216; row = c.row; target = c.target; low = c.low; there = omega (arith, c.there, same (token / 16777216)); value = c.value }

-- and is the token again
token_unless : (zero_test : Bool) (token : ℕ) → zero_test ≡ false → cond zero_test 0 token ≡ token
token_unless true token e = absurd cc
token_unless false token e = refl

whole_again : (token : ℕ) → token / 16777216 * 16777216 + token % 16777216 ≡ token
whole_again token = omega arith

number_again : (rec : AsmRec) (index : CodedIndex) (token : ℕ) (c : CodedRow rec index token) → coded_token index (suc c.row * 2 ^ tag_bits_of index + c.tag) ≡ token
unfolding coded_token
number_again rec index token c =
    let some : eqb (suc c.row * 2 ^ tag_bits_of index + c.tag) 0 ≡ false = not_zero (suc c.row * 2 ^ tag_bits_of index + c.tag) (more c.row (2 ^ tag_bits_of index) c.tag c.low) in
    let rest : (suc c.row * 2 ^ tag_bits_of index + c.tag) % 2 ^ tag_bits_of index ≡ c.tag = mod-mul-add (suc c.row) (2 ^ tag_bits_of index) c.tag c.low in
    let over : (suc c.row * 2 ^ tag_bits_of index + c.tag) / 2 ^ tag_bits_of index ≡ suc c.row = div-mul-add (suc c.row) (2 ^ tag_bits_of index) c.tag c.low in
    rw (some, rest, over, c.target, c.row_is) (whole_again token)
  where
    more : (row p tag : ℕ) → tag < p → 1 ≤ suc row * p + tag
    more row p tag lt = omega (arith, lt)

pub coded_again : (rec : AsmRec) (index : CodedIndex) (token : ℕ) → names_row rec (targets_of index) token ≡ true → coded_token index (coded_of index token) ≡ token
coded_again rec index token h =
    let c = coded_row rec index token h in
    ap (coded_token index) c.value ∙ number_again rec index token c

none_again : (index : CodedIndex) → coded_token index (coded_of index 0) ≡ 0
unfolding coded_of coded_token
none_again index = refl

pub none_coded : (index : CodedIndex) → coded_of index 0 ≡ 0
unfolding coded_of
none_coded index = refl

-- ---- an index of one table

pub index_again : (rec : AsmRec) (t token : ℕ) → names_row rec (t ∷ []) token ≡ true → index_token t (token % 16777216) ≡ token
unfolding index_token
index_again rec t token h =
    let n = row_named rec (t ∷ []) token h in
    let same = in_table rec t token n in
    let some : eqb (token % 16777216) 0 ≡ false = not_zero (token % 16777216) n.low in
    rw (some, ← same) (whole_again token)

no_index : (t : ℕ) → index_token t 0 ≡ 0
unfolding index_token
no_index t = refl

-- ---- any column

or_cases : (a b : Bool) → (a || b) ≡ true → (a ≡ true) ⊎ (b ≡ true)
or_cases true b h = inl refl
or_cases false b h = inr h

-- a column of tokens
abbrev pub HoldsToken : Column → Type 0
HoldsToken (Index t) = Unit {0}
HoldsToken (IndexOrNone t) = Unit {0}
HoldsToken (Coded index) = Unit {0}
HoldsToken (CodedOrNone index) = Unit {0}
HoldsToken c = ⊥

-- none, or a row that is there
pub none_or : (token : ℕ) (b : Bool) → (token == 0 || b) ≡ true → (token ≡ 0) ⊎ (b ≡ true)
none_or token b h = elim (or_cases (token == 0) b h) [ inl e ↦ inl (eqb-true token 0 e) | inr f ↦ inr f ]

pub token_again : (rec : AsmRec) (c : Column) (token : ℕ) → HoldsToken c → Names rec c token → token_by c (token_number c token) ≡ token
unfolding names
token_again rec (Index t) token is h = index_again rec t token h
token_again rec (IndexOrNone t) token is h = elim (none_or token (names_row rec (t ∷ []) token) h) [
  | inl e ↦ rw e (no_index t)
  | inr f ↦ index_again rec t token f
]
token_again rec (Coded index) token is h = coded_again rec index token h
token_again rec (CodedOrNone index) token is h = elim (none_or token (names_row rec (targets_of index) token) h) [
  | inl e ↦ rw e (none_again index)
  | inr f ↦ coded_again rec index token f
]
token_again rec c token is h = absurd is
