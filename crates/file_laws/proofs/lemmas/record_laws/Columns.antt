-- What a file's demands say of the cells of each column: tokens name rows, runs follow one another, keys never fall.
use Rattle.std.proofs.Common.{◌≡◌, ℕ, zero, suc, ◌+◌, ◌<◌, ◌≤◌, ◌⊎◌, inl, inr, Bool, true, false, eqb, List, [], ◌∷◌, length, Some, None, refl, sym, ap, subst, ◌∙◌, arith}
use Rattle.std.specs.Prelude.{slice_get, ◌==◌, ◌&&◌, ◌||◌, nat_le, nat_lt}
use Rattle.std.specs.List.{list_any, list_all, AllByRecursion}
use Rattle.std.proofs.lemmas.Bool.{cases_lt, eqb-true, eq-eqb, ne_eqb, and_parts, leb-true, ltb-true, le-leb}
use Rattle.std.proofs.lemmas.Option.{none-some, same_Some}
use Rattle.il_base.specs.declared.cli_format.column.Column.{Column}
use Rattle.il_base.specs.declared.cli_format.column.Column.TheVariants.{Index, IndexOrNone, Run, Coded, CodedOrNone}
use Rattle.il_base.specs.declared.cli_format.column.CodedIndex.{CodedIndex}
use Rattle.il_base.specs.declared.cli_format.column.CodedIndex.TheVariants.{TypeDefOrRef, HasConstant, HasCustomAttribute, HasFieldMarshal, HasDeclSecurity, MemberRefParent, HasSemantics, MethodDefOrRef, MemberForwarded, Implementation, CustomAttributeType, ResolutionScope, TypeOrMethodDef}
use Rattle.il_base.specs.declared.cli_format.key.SortKey.{SortKey}
use Rattle.il_base.specs.declared.cli_format.key.SortKey.TheVariants.{ByOne, Strictly, ByTwo}
use Rattle.il_base.specs.cli_format.Demand.{first_fault}
use Rattle.il_base.specs.cli_format.Coded.{targets_of}
use Rattle.il_base.specs.cli_format.Tokens.{coded_of}
use Rattle.il_base.specs.cli_format.Columns.{columns_of, sort_key_of}
use Rattle.il_base.specs.cli_format.Tables.{rows_of, cell_number, column_of, names_row, names_coded}
use Rattle.il_base.specs.cli_format.Metadata.{tables_demands, tables_stream, names_item, in_order, is_run}
use Rattle.il_base.proofs.lemmas.cli_format.Plain.{cells_law, runs_law, sorted_law, few_law}
use Rattle.il_base.specs.declared.world_model.record.AsmRec.{AsmRec}
use Rattle.il_base.specs.world_model.Tokens.{token_of, table_of}
use Rattle.il_base.specs.world_model.Records as records
use Rattle.il_base.specs.world_model.Records.{rows_in, names, Names, Each, EachPair, AreRuns, NeverFalls, Rises, NeverFallsByTwo}
use Rattle.rules.specs.record_format.Cells.{number_in, token_in, token_by, index_token, coded_token, count_of, run_end, all_rows}
use Rattle.file_laws.proofs.lemmas.record_laws.Rows.{length_rows, row_at, each_row, each_pair}
use Rattle.file_laws.proofs.lemmas.record_laws.Coded as coded
use Rattle.file_laws.proofs.lemmas.record_laws.Coded.{row_in, table_in, index_is, coded_is, number_back}

-- ---- lists

all_at : (P : ℕ → Type 0) (xs : List ℕ) (k x : ℕ) → AllByRecursion P xs → slice_get xs k ≡ Some x → P x
all_at P [] k x h e = absurd (none-some x e)
all_at P (y ∷ ys) zero x h e = subst P (same_Some y x e) h.0
all_at P (y ∷ ys) (suc k) x h e = all_at P ys k x h.1 e

or_right : (a b : Bool) → b ≡ true → (a || b) ≡ true
or_right true b h = refl
or_right false b h = h

or_cases : (a b : Bool) → (a || b) ≡ true → (a ≡ true) ⊎ (b ≡ true)
or_cases true b h = inl refl
or_cases false b h = inr h

and_both : (a b : Bool) → a ≡ true → b ≡ true → (a && b) ≡ true
and_both true b p q = q
and_both false b p q = absurd cc

any_at : (xs : List ℕ) (k x : ℕ) → slice_get xs k ≡ Some x → list_any (λ t. t == x) xs ≡ true
any_at [] k x e = absurd (none-some x e)
any_at (y ∷ ys) zero x e =
    let same : y ≡ x = same_Some y x e in
    rw (same, eq-eqb x x refl) refl
any_at (y ∷ ys) (suc k) x e = or_right (y == x) (list_any (λ t. t == x) ys) (any_at ys k x e)

-- ---- tokens

token_named : (rec : AsmRec) (tables : List ℕ) (k t n count : ℕ) → slice_get tables k ≡ Some t → rows_in rec t ≡ count → count ≤ 1048576 → 1 ≤ n → n ≤ count → records.names_row rec tables (token_of t n) ≡ true
unfolding records.names_row
token_named rec tables k t n count listed size few low high =
    let table : table_of (token_of t n) ≡ t = table_in t n (omega arith) in
    let row = row_in t n (omega arith) in
    rw (table, row) (and_both _ _ (and_both _ _ (any_at tables k t listed) (le-leb 1 n low)) (le-leb n (rows_in rec t) (omega (arith, size, high))))

-- the tables that a coded index names are tables of II.22
are_below : (index : CodedIndex) → list_all (λ t. nat_lt t 45) (targets_of index) ≡ true
are_below TypeDefOrRef = refl
are_below HasConstant = refl
are_below HasCustomAttribute = refl
are_below HasFieldMarshal = refl
are_below HasDeclSecurity = refl
are_below MemberRefParent = refl
are_below HasSemantics = refl
are_below MethodDefOrRef = refl
are_below MemberForwarded = refl
are_below Implementation = refl
are_below CustomAttributeType = refl
are_below ResolutionScope = refl
are_below TypeOrMethodDef = refl

below_at : (ts : List ℕ) (k t : ℕ) → list_all (λ u. nat_lt u 45) ts ≡ true → slice_get ts k ≡ Some t → t < 45
below_at [] k t h e = absurd (none-some t e)
below_at (u ∷ us) zero t h e = subst (λ v. v < 45) (same_Some u t e) (ltb-true u 45 (and_parts (nat_lt u 45) (list_all (λ v. nat_lt v 45) us) h).0)
below_at (u ∷ us) (suc k) t h e = below_at us k t (and_parts (nat_lt u 45) (list_all (λ v. nat_lt v 45) us) h).1 e

-- a column of a table of II.22
pub record Place (t c : ℕ) (column : Column) : Type 0 where
  pub is : column_of t c ≡ column
  pub table : t < 45
  pub there : c < length (columns_of t)

pub place : {t c : ℕ} {column : Column} → column_of t c ≡ column → (nat_lt t 45 && nat_lt c (length (columns_of t))) ≡ true → Place t c column
place {t = t} {c = c} is there =
    let parts = and_parts (nat_lt t 45) (nat_lt c (length (columns_of t))) there in
    record { is = is; table = ltb-true t 45 parts.0; there = ltb-true c (length (columns_of t)) parts.1 }

-- a file that meets its demands
module _ (bs : List ℕ) (base : ℕ) (rec : AsmRec) (met : first_fault (tables_demands bs base) ≡ None) where
  abbrev ts : List ℕ
  ts = tables_stream bs

  few : (t : ℕ) → t < 45 → rows_of ts t ≤ 1048576
  few t h = few_law bs base t met h

  coded_few : (index : CodedIndex) (n : ℕ) (c : coded.Coded ts index n) → rows_of ts c.table ≤ 1048576
  coded_few index n c = few c.table (below_at (targets_of index) c.place c.table (are_below index) c.listed)

  index_named : (t n : ℕ) → t < 45 → rows_in rec t ≡ count_of bs t → names_row ts t n ≡ true → records.names_row rec (t ∷ []) (index_token t n) ≡ true
  unfolding names_row count_of
  index_named t n h size e =
      let parts = and_parts (nat_le 1 n) (nat_le n (rows_of ts t)) e in
      let low = leb-true 1 n parts.0 in
      rw (index_is t n low) (token_named rec (t ∷ []) 0 t n (rows_of ts t) refl size (few t h) low (leb-true n (rows_of ts t) parts.1))

  coded_named : (index : CodedIndex) (n : ℕ) → AllByRecursion (λ t. rows_in rec t ≡ count_of bs t) (targets_of index) → names_coded ts index n ≡ true → records.names_row rec (targets_of index) (coded_token index n) ≡ true
  unfolding count_of
  coded_named index n sizes e =
      let c = coded_is ts index n e in
      let size = all_at (λ t. rows_in rec t ≡ count_of bs t) (targets_of index) c.place c.table sizes c.listed in
      rw (c.token) (token_named rec (targets_of index) c.place c.table c.row (rows_of ts c.table) c.listed size (coded_few index n c) c.low c.high)

  zero_named : (n token : ℕ) (named : Bool) → (n ≡ 0 → token ≡ 0) → eqb n 0 ≡ true → (eqb token 0 || named) ≡ true
  zero_named n token named h e = let none : token ≡ 0 = h (eqb-true n 0 e) in rw none refl

  coded_nothing : (index : CodedIndex) (n : ℕ) → n ≡ 0 → coded_token index n ≡ 0
  unfolding coded_token
  coded_nothing index n e = rw e refl

  index_nothing : (t n : ℕ) → n ≡ 0 → index_token t n ≡ 0
  unfolding index_token
  index_nothing t n e = rw e refl

  -- the tables of an index column are tables of II.22
  abbrev pub Within : Column → Type 0
  Within (Index t) = t < 45
  Within (IndexOrNone t) = t < 45
  Within _ = Unit {0}

  -- the record has as many rows as the file in the tables of a column
  abbrev pub Sized : Column → Type 0
  Sized (Index t) = rows_in rec t ≡ count_of bs t
  Sized (IndexOrNone t) = rows_in rec t ≡ count_of bs t
  Sized (Coded index) = AllByRecursion (λ t. rows_in rec t ≡ count_of bs t) (targets_of index)
  Sized (CodedOrNone index) = AllByRecursion (λ t. rows_in rec t ≡ count_of bs t) (targets_of index)
  Sized _ = Unit {0}

  column_named : (column : Column) (n : ℕ) → Within column → Sized column → names_item bs column n ≡ true → names rec column (token_by column n) ≡ true
  unfolding names_item names
  column_named (Index t) n h size e = index_named t n h size e
  column_named (IndexOrNone t) n h size e = elim (or_cases (n == 0) (names_row ts t n) e) [
    | inl none ↦ zero_named n (index_token t n) (records.names_row rec (t ∷ []) (index_token t n)) (index_nothing t n) none
    | inr some ↦ or_right (index_token t n == 0) (records.names_row rec (t ∷ []) (index_token t n)) (index_named t n h size some)
  ]
  column_named (Coded index) n h size e = coded_named index n size e
  column_named (CodedOrNone index) n h size e = elim (or_cases (n == 0) (names_coded ts index n) e) [
    | inl none ↦ zero_named n (coded_token index n) (records.names_row rec (targets_of index) (coded_token index n)) (coded_nothing index n) none
    | inr some ↦ or_right (coded_token index n == 0) (records.names_row rec (targets_of index) (coded_token index n)) (coded_named index n size some)
  ]
  column_named _ n h size e = refl

  -- ---- cells of a table

  cell_item : (t c : ℕ) (column : Column) → Place t c column → (k : ℕ) → k < count_of bs t → names_item bs column (number_in bs t c (suc k)) ≡ true
  unfolding count_of number_in
  cell_item t c column place k h =
      let next : k + 1 ≡ suc k = omega arith in
      let item = cells_law bs base t k c met place.table h place.there in
      subst (λ q. names_item bs q (cell_number ts t (suc k) c) ≡ true) place.is (subst (λ r. names_item bs (column_of t c) (cell_number ts t r c) ≡ true) next item)

  token_is : (t c : ℕ) (column : Column) → Place t c column → (r : ℕ) → token_in bs t c r ≡ token_by column (number_in bs t c r)
  unfolding token_in
  token_is t c column place r = ap (λ q. token_by q (number_in bs t c r)) place.is

  pub each_named : {A : Type 0} (t c : ℕ) (column : Column) (row : ℕ → A) (token : A → ℕ) → Place t c column → Within column → Sized column → ((r : ℕ) → token (row r) ≡ token_in bs t c r) → Each (λ x. Names rec column (token x)) (all_rows bs t row)
  each_named t c column row token place h size same =
      each_row (λ x. Names rec column (token x)) row (count_of bs t) (λ k less.
      subst (λ n. Names rec column n) (sym (same (suc k) ∙ token_is t c column place (suc k))) (column_named column (number_in bs t c (suc k)) h size (cell_item t c column place k less)))

  -- ---- runs

  run_cell : (t c target : ℕ) → Place t c (Run target) → (k : ℕ) → k < count_of bs t → (1 ≤ number_in bs t c (suc k)) × (number_in bs t c (suc k) ≤ count_of bs target + 1)
  unfolding names_item count_of
  run_cell t c target place k less =
      let parts = and_parts (nat_le 1 (number_in bs t c (suc k))) (nat_le (number_in bs t c (suc k)) (rows_of ts target + 1)) (cell_item t c (Run target) place k less) in
      (leb-true _ _ parts.0, leb-true _ _ parts.1)

  run_rises : (t c target : ℕ) → Place t c (Run target) → (k : ℕ) → suc k < count_of bs t → number_in bs t c (suc k) ≤ number_in bs t c (suc (suc k))
  unfolding count_of number_in
  run_rises t c target place k less =
      let run : is_run (column_of t c) ≡ true = ap is_run place.is in
      let one : k + 1 ≡ suc k = omega arith in
      let two : k + 2 ≡ suc (suc k) = omega arith in
      let held = runs_law bs base t k c met place.table (omega arith) place.there run in
      subst (λ r. cell_number ts t (suc k) c ≤ cell_number ts t r c) two (subst (λ r. cell_number ts t r c ≤ cell_number ts t (k + 2) c) one held)

  ends_last : (t c target r : ℕ) → r ≡ count_of bs t → run_end bs t c target r ≡ count_of bs target + 1
  unfolding run_end
  ends_last t c target r e = rw (eq-eqb r (count_of bs t) e) refl

  ends_next : (t c target r : ℕ) → (r ≡ count_of bs t → ⊥) → run_end bs t c target r ≡ number_in bs t c (suc r)
  unfolding run_end
  ends_next t c target r e = let next : r + 1 ≡ suc r = omega arith in rw (ne_eqb r (count_of bs t) e, next) refl

  run_end_is : (t c target : ℕ) → Place t c (Run target) → (k : ℕ) → k < count_of bs t → (number_in bs t c (suc k) ≤ run_end bs t c target (suc k)) × (run_end bs t c target (suc k) ≤ count_of bs target + 1)
  run_end_is t c target place k less =
      elim (cases_lt (suc k) (count_of bs t)) [
        | inl more ↦ (let end = ends_next t c target (suc k) (λ e. omega arith) in
            (omega (arith, end, run_rises t c target place k more), omega (arith, end, (run_cell t c target place (suc k) more).1)))
        | inr last ↦ (let end = ends_last t c target (suc k) (omega arith) in
            (omega (arith, end, (run_cell t c target place k less).1), omega (arith, end)))
      ]

  pub each_run : {A : Type 0} (t c target : ℕ) (row : ℕ → A) (first end : A → ℕ) → Place t c (Run target) → rows_in rec target ≡ count_of bs target → ((r : ℕ) → first (row r) ≡ number_in bs t c r) → ((r : ℕ) → end (row r) ≡ run_end bs t c target r) → AreRuns (rows_in rec target) first end (all_rows bs t row)
  each_run t c target row first end place size firsts ends = record {
    begins = each_row (λ x. 1 ≤ first x) row (count_of bs t) (λ k less. omega (arith, firsts (suc k), (run_cell t c target place k less).0));
    never_falls = each_row (λ x. first x ≤ end x) row (count_of bs t) (λ k less. omega (arith, firsts (suc k), ends (suc k), (run_end_is t c target place k less).0));
    within = each_row (λ x. end x ≤ rows_in rec target + 1) row (count_of bs t) (λ k less. omega (arith, ends (suc k), size, (run_end_is t c target place k less).1));
    meets = each_pair (λ x next. end x ≡ first next) row (count_of bs t) (λ k less. omega (arith, ends (suc k), firsts (suc (suc k)), ends_next t c target (suc k) (λ e. omega arith)));
    closes = λ k x e last.
        let at = row_at row (count_of bs t) k x e in
        let length = length_rows row (count_of bs t) in
        let here = ap end at.1 in
        omega (arith, here, ends (suc k), ends_last t c target (suc k) (omega (arith, last, length)), size);
  }

  -- ---- keys

  pair_sorted : (t k : ℕ) → t < 45 → suc k < count_of bs t → in_order (sort_key_of t) (λ c. number_in bs t c (suc k)) (λ c. number_in bs t c (suc (suc k))) ≡ true
  unfolding count_of number_in
  pair_sorted t k table less =
      let one : k + 1 ≡ suc k = omega arith in
      let two : k + 2 ≡ suc (suc k) = omega arith in
      let held = sorted_law bs base t k met table (omega arith) in
      subst (λ r. in_order (sort_key_of t) (cell_number ts t (suc k)) (cell_number ts t r) ≡ true) two (subst (λ r. in_order (sort_key_of t) (cell_number ts t r) (cell_number ts t (k + 2)) ≡ true) one held)

  ordered : (t : ℕ) (key : SortKey) → t < 45 → sort_key_of t ≡ key → (k : ℕ) → suc k < count_of bs t → in_order key (λ d. number_in bs t d (suc k)) (λ d. number_in bs t d (suc (suc k))) ≡ true
  ordered t key table is k less = subst (λ s. in_order s (λ d. number_in bs t d (suc k)) (λ d. number_in bs t d (suc (suc k))) ≡ true) is (pair_sorted t k table less)

  one_key : (t c : ℕ) → t < 45 → sort_key_of t ≡ ByOne c → (k : ℕ) → suc k < count_of bs t → number_in bs t c (suc k) ≤ number_in bs t c (suc (suc k))
  unfolding in_order
  one_key t c table is k less = leb-true _ _ (ordered t (ByOne c) table is k less)

  strict_key : (t c : ℕ) → t < 45 → sort_key_of t ≡ Strictly c → (k : ℕ) → suc k < count_of bs t → number_in bs t c (suc k) < number_in bs t c (suc (suc k))
  unfolding in_order
  strict_key t c table is k less = ltb-true _ _ (ordered t (Strictly c) table is k less)

  two_keys : (t c d : ℕ) → t < 45 → sort_key_of t ≡ ByTwo c d → (k : ℕ) → suc k < count_of bs t
      → (number_in bs t c (suc k) < number_in bs t c (suc (suc k))) ⊎ ((number_in bs t c (suc k) ≡ number_in bs t c (suc (suc k))) × (number_in bs t d (suc k) ≤ number_in bs t d (suc (suc k))))
  unfolding in_order
  two_keys t c d table is k less =
      let above : ℕ → ℕ = λ e. number_in bs t e (suc k) in
      let below : ℕ → ℕ = λ e. number_in bs t e (suc (suc k)) in
      elim (or_cases (nat_lt (above c) (below c)) ((above c == below c) && nat_le (above d) (below d)) (ordered t (ByTwo c d) table is k less)) [
        | inl lower ↦ inl (ltb-true _ _ lower)
        | inr same ↦ (let parts = and_parts (above c == below c) (nat_le (above d) (below d)) same in inr (eqb-true _ _ parts.0, leb-true _ _ parts.1))
      ]

  -- a token of an index grows with its number
  index_cell : {A : Type 0} (t c target : ℕ) (row : ℕ → A) (token : A → ℕ) → Place t c (Index target) → ((r : ℕ) → token (row r) ≡ token_in bs t c r) → (k : ℕ) → k < count_of bs t
      → token (row (suc k)) ≡ token_of target (number_in bs t c (suc k))
  unfolding names_item names_row
  index_cell t c target row token place same k less =
      let parts = and_parts (nat_le 1 (number_in bs t c (suc k))) (nat_le (number_in bs t c (suc k)) (rows_of ts target)) (cell_item t c (Index target) place k less) in
      same (suc k) ∙ token_is t c (Index target) place (suc k) ∙ index_is target (number_in bs t c (suc k)) (leb-true _ _ parts.0)

  -- the number of a token of a coded index is that of its cell
  coded_cell : {A : Type 0} (t c : ℕ) (index : CodedIndex) (row : ℕ → A) (token : A → ℕ) → Place t c (Coded index) → ((r : ℕ) → token (row r) ≡ token_in bs t c r) → (k : ℕ) → k < count_of bs t
      → coded_of index (token (row (suc k))) ≡ number_in bs t c (suc k)
  unfolding names_item
  coded_cell t c index row token place same k less =
      let c' = coded_is ts index (number_in bs t c (suc k)) (cell_item t c (Coded index) place k less) in
      ap (coded_of index) (same (suc k) ∙ token_is t c (Coded index) place (suc k)) ∙ number_back ts index (number_in bs t c (suc k)) c' (coded_few index (number_in bs t c (suc k)) c')

  pub falls_by_index : {A : Type 0} (t c target : ℕ) (row : ℕ → A) (token : A → ℕ) → Place t c (Index target) → sort_key_of t ≡ ByOne c → ((r : ℕ) → token (row r) ≡ token_in bs t c r) → NeverFalls token (all_rows bs t row)
  falls_by_index t c target row token place key same = each_pair (λ x next. token x ≤ token next) row (count_of bs t) (λ k less.
      omega (arith, index_cell t c target row token place same k (omega arith), index_cell t c target row token place same (suc k) less, one_key t c place.table key k less))

  pub rises_by_index : {A : Type 0} (t c target : ℕ) (row : ℕ → A) (token : A → ℕ) → Place t c (Index target) → sort_key_of t ≡ Strictly c → ((r : ℕ) → token (row r) ≡ token_in bs t c r) → Rises token (all_rows bs t row)
  rises_by_index t c target row token place key same = each_pair (λ x next. token x < token next) row (count_of bs t) (λ k less.
      omega (arith, index_cell t c target row token place same k (omega arith), index_cell t c target row token place same (suc k) less, strict_key t c place.table key k less))

  pub falls_by_coded : {A : Type 0} (t c : ℕ) (index : CodedIndex) (row : ℕ → A) (token : A → ℕ) → Place t c (Coded index) → sort_key_of t ≡ ByOne c → ((r : ℕ) → token (row r) ≡ token_in bs t c r) → NeverFalls (λ x. coded_of index (token x)) (all_rows bs t row)
  falls_by_coded t c index row token place key same = each_pair (λ x next. coded_of index (token x) ≤ coded_of index (token next)) row (count_of bs t) (λ k less.
      omega (arith, coded_cell t c index row token place same k (omega arith), coded_cell t c index row token place same (suc k) less, one_key t c place.table key k less))

  pub falls_by_two : {A : Type 0} (t c d : ℕ) (index : CodedIndex) (row : ℕ → A) (token second : A → ℕ) → Place t c (Coded index) → sort_key_of t ≡ ByTwo c d → ((r : ℕ) → token (row r) ≡ token_in bs t c r) → ((r : ℕ) → second (row r) ≡ number_in bs t d r)
      → NeverFallsByTwo (λ x. coded_of index (token x)) second (all_rows bs t row)
  falls_by_two t c d index row token second place key same seconds =
      each_pair (λ x next. (coded_of index (token x) < coded_of index (token next)) ⊎ ((coded_of index (token x) ≡ coded_of index (token next)) × (second x ≤ second next))) row (count_of bs t) (λ k less.
      let a = coded_cell t c index row token place same k (omega arith) in
      let b = coded_cell t c index row token place same (suc k) less in
      elim (two_keys t c d place.table key k less) [
        | inl lower ↦ inl (omega (arith, a, b, lower))
        | inr stays ↦ inr (a ∙ stays.0 ∙ sym b, omega (arith, seconds (suc k), seconds (suc (suc k)), stays.1))
      ])
