-- Chains of enclosers in a record: none is longer than there are types, where no type encloses itself.
use Rattle.std.proofs.Common.{◌≡◌, ◌<◌, ◌≤◌, ℕ, zero, suc, nat_eq, List, [], ◌∷◌, length, Bool, true, false, Some, refl, sym, ap, ◌∙◌, arith}
use Rattle.std.specs.Prelude.{slice_get, ◌==◌, if◌then◌else◌}
use Rattle.std.proofs.lemmas.Bool.{eqb-true, eq-eqb, true≢false}
use Rattle.std.proofs.lemmas.Bool.Decides.{Decides-eqb}
use Rattle.il_base.specs.declared.table.TheConstants.{TYPE_DEF}
use Rattle.il_base.specs.declared.cli_format.column.Column.TheVariants.{Index}
use Rattle.il_base.specs.declared.world_model.types.NestedClassRow.{NestedClassRow}
use Rattle.il_base.specs.declared.world_model.record.AsmRec.{AsmRec}
use Rattle.il_base.specs.world_model.Tokens.{token_of, table_of, row_of, index_from, index_in}
use Rattle.il_base.specs.world_model.Records.{table_sizes, rows_in, Names, Rises, IsRecord}
use Rattle.rules.specs.link_rules.Types.{encloser_in, encloser}
use Rattle.rules.specs.link_rules.Cycles.{is_on_cycle, around}
use Rattle.rules.specs.link_rules.Faults.{is_cyclic_around}
use Rattle.base_laws.proofs.lemmas.type_laws.Within.{in_listed}
use Rattle.base_laws.proofs.lemmas.type_laws.Reaching.{Leads, Walks, cyclic}
use Rattle.base_laws.proofs.lemmas.type_laws.Bounded.{no_walk}
use Rattle.merge_laws.proofs.lemmas.merged_record.Tokens.{of_index, one_table, index_row}

-- the row that nests a type
pub record Encloses (k j : ℕ) (rows : List NestedClassRow) : Type 0 where
  pub place : ℕ
  pub row : NestedClassRow
  pub there : slice_get rows place ≡ Some row
  pub nested : row.nested_class ≡ token_of TYPE_DEF (suc k)
  pub enclosing : index_in TYPE_DEF row.enclosing_class ≡ Some j

encloses_by : (k j : ℕ) (row : NestedClassRow) (rows : List NestedClassRow) (b : Bool) → (row.nested_class == token_of TYPE_DEF (suc k)) ≡ b → (encloser_in (token_of TYPE_DEF (suc k)) rows ≡ Some j → Encloses k j rows)
    → (if b then index_in TYPE_DEF row.enclosing_class else encloser_in (token_of TYPE_DEF (suc k)) rows) ≡ Some j → Encloses k j (row ∷ rows)
encloses_by k j row rows true e more h = record { place = 0; row = row; there = refl; nested = eqb-true row.nested_class (token_of TYPE_DEF (suc k)) e; enclosing = h }
encloses_by k j row rows false e more h = let m = more h in record { place = suc m.place; row = m.row; there = m.there; nested = m.nested; enclosing = m.enclosing }

encloses_in : (k j : ℕ) (rows : List NestedClassRow) → encloser_in (token_of TYPE_DEF (suc k)) rows ≡ Some j → Encloses k j rows
encloses_in k j [] h = absurd (cc)
encloses_in k j (row ∷ rows) h = encloses_by k j row rows (row.nested_class == token_of TYPE_DEF (suc k)) refl (encloses_in k j rows) h

pub encloses : (rec : AsmRec) (k j : ℕ) → encloser rec k ≡ Some j → Encloses k j rec.nested_class
unfolding encloser
encloses rec k j h = encloses_in k j rec.nested_class h

-- ---- the first row that nests a type, where each is nested once

abbrev key : NestedClassRow → ℕ
key row = row.nested_class

-- no later row has the key of the first
higher : (row : NestedClassRow) (rows : List NestedClassRow) → Rises key (row ∷ rows) → (q : ℕ) (r : NestedClassRow) → slice_get rows q ≡ Some r → key row < key r
higher row [] up q r e = absurd (cc)
higher row (s ∷ rows) up zero r e = up 0 row r refl e
higher row (s ∷ rows) up (suc q) r e =
    let one : key row < key s = up 0 row s refl refl in
    let rest = higher s rows (λ k x y a b. up (suc k) x y a b) q r e in
    omega arith

first_by : (token q j : ℕ) (row r : NestedClassRow) (rows : List NestedClassRow) (b : Bool) → (row.nested_class == token) ≡ b → key row < key r → key r ≡ token → encloser_in token rows ≡ Some j
    → (if b then index_in TYPE_DEF row.enclosing_class else encloser_in token rows) ≡ Some j
first_by token q j row r rows true e lt same h = let equal : key row ≡ token = eqb-true row.nested_class token e in absurd (omega arith)
first_by token q j row r rows false e lt same h = h

first_in : (token j : ℕ) (rows : List NestedClassRow) → Rises key rows → (q : ℕ) (r : NestedClassRow) → slice_get rows q ≡ Some r → key r ≡ token → index_in TYPE_DEF r.enclosing_class ≡ Some j → encloser_in token rows ≡ Some j
first_in token j [] up q r e same h = absurd (cc)
first_in token j (row ∷ rows) up zero r e same h =
    let it : row ≡ r = cc in
    let equal : key row ≡ token = ap key it ∙ same in
    let t : (row.nested_class == token) ≡ true = eq-eqb row.nested_class token equal in
    let i : index_in TYPE_DEF row.enclosing_class ≡ Some j = ap (λ (x : NestedClassRow). index_in TYPE_DEF x.enclosing_class) it ∙ h in
    rw t i
first_in token j (row ∷ rows) up (suc q) r e same h =
    first_by token q j row r rows (row.nested_class == token) refl (higher row rows up q r e) same (first_in token j rows (λ k x y a b. up (suc k) x y a b) q r e same h)

pub encloser_is : (rec : AsmRec) (k j q : ℕ) (r : NestedClassRow) → Rises key rec.nested_class → slice_get rec.nested_class q ≡ Some r → r.nested_class ≡ token_of TYPE_DEF (suc k) → index_in TYPE_DEF r.enclosing_class ≡ Some j
    → encloser rec k ≡ Some j
unfolding encloser
encloser_is rec k j q r up e same h = first_in (token_of TYPE_DEF (suc k)) j rec.nested_class up q r e same h

-- ---- tokens of TypeDef

from_row : (n : ℕ) (k : ℕ) → n ≡ suc k → index_from n ≡ Some k
from_row n k e = ap index_from e

pub index_is : (token k : ℕ) → table_of token ≡ TYPE_DEF → row_of token ≡ suc k → index_in TYPE_DEF token ≡ Some k
index_is token k e f = let g : (table_of token == TYPE_DEF) ≡ true = eq-eqb (table_of token) TYPE_DEF e in rw (g, from_row (row_of token) k f) refl

pub token_is : (token k : ℕ) → table_of token ≡ TYPE_DEF → row_of token ≡ suc k → token ≡ token_of TYPE_DEF (suc k)
token_is token k e f = omega arith

type_rows : (rec : AsmRec) (t : ℕ) → t ≡ TYPE_DEF → rows_in rec t ≡ length rec.type_def
unfolding table_sizes
type_rows rec t e = rw e refl

-- a token of TypeDef whose row is there
pub type_there : (rec : AsmRec) (token : ℕ) → Names rec (Index TYPE_DEF) token → (table_of token ≡ TYPE_DEF) × (1 ≤ row_of token) × (row_of token ≤ length rec.type_def)
type_there rec token n =
    let r = of_index rec TYPE_DEF token n in
    let t = sym (one_table TYPE_DEF (table_of token) r.table) in
    let w = r.within in
    let l = type_rows rec (table_of token) t in
    (t, r.begins, omega arith)

-- ---- chains in one record

module _ (rec : AsmRec) (is : IsRecord rec) (none : (place : ℕ) (row : NestedClassRow) → slice_get rec.nested_class place ≡ Some row → is_cyclic_around rec (index_in TYPE_DEF row.nested_class) ≡ false) where
  not_on_cycle : (k j : ℕ) → encloser rec k ≡ Some j → is_on_cycle nat_eq (around rec) (length rec.type_def) k ≡ false
  not_on_cycle k j h =
      let r = encloses rec k j h in
      let t = type_there rec r.row.nested_class (is.tokens.nested_classes r.place r.row r.there).0 in
      let a = t.0 in
      let b = t.1 in
      let n = r.nested in
      let row : row_of r.row.nested_class ≡ suc k = omega arith in
      let i : index_in TYPE_DEF r.row.nested_class ≡ Some k = index_is r.row.nested_class k a row in
      ap (is_cyclic_around rec) (sym i) ∙ none r.place r.row r.there

  pub encloser_there : (k j : ℕ) → encloser rec k ≡ Some j → j < length rec.type_def
  encloser_there k j h =
      let r = encloses rec k j h in
      let t = type_there rec r.row.enclosing_class (is.tokens.nested_classes r.place r.row r.there).1 in
      let le = t.2 in
      let i = (index_row TYPE_DEF r.row.enclosing_class j r.enclosing).1 in
      omega arith

  never : (n k : ℕ) → k < length rec.type_def → n ≤ length rec.type_def → Leads (around rec) (suc n) k k → ⊥
  never n k lt le l = true≢false (sym (cyclic nat_eq Decides-eqb (around rec) (length rec.type_def) n k le l) ∙ not_on_cycle k l.0 (in_listed l.0 (encloser rec k) l.1))

  pub no_long_walk : (k : ℕ) → k < length rec.type_def → Walks (around rec) (length rec.type_def) k → ⊥
  no_long_walk k lt w =
      no_walk (around rec) (λ (i : ℕ). i < length rec.type_def) (λ i. i) (length rec.type_def) (λ x y p h. encloser_there x y (in_listed y (encloser rec x) h)) (λ x p. p) (λ x y p q e. e) (λ n x p le l. never n x p le l) k lt w
