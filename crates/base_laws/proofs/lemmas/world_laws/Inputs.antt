-- Inputs that are records keep what walks ask for.
use Rattle.std.proofs.Common.{◌≡◌, ◌<◌, ◌≤◌, ℕ, zero, suc, ◌%◌, ◌==◌, Bool, true, false, nat_le, List, [], ◌∷◌, ◌++◌, length, Some, ◌⊎◌, inl, inr, refl, sym, subst, arith}
use Rattle.std.specs.Prelude.{slice_get, ◌&&◌, ◌||◌}
use Rattle.std.specs.List.{list_any}
use Rattle.std.proofs.lemmas.Bool.{and_parts, leb-true, eqb-true}
use Rattle.il_base.specs.declared.table.TheConstants.{TYPE_DEF}
use Rattle.il_base.specs.declared.cli_format.column.Column.TheVariants.{Index}
use Rattle.il_base.specs.declared.world_model.types.NestedClassRow.{NestedClassRow}
use Rattle.il_base.specs.declared.world_model.record.AsmRec.{AsmRec}
use Rattle.il_base.specs.world_model.Tokens.{table_of, index_from}
use Rattle.il_base.specs.world_model.Records.{table_sizes, rows_in, names_row, names, Names, IsRecord}
use Rattle.il_base.specs.core_table.Record.{core_record, record_with}
use Rattle.rules.specs.declared.link_rules.core_type_name.CoreTypeName.{CoreTypeName}
use Rattle.rules.specs.link_rules.CoreNames.{missing_names, core_with}
use Rattle.rules.specs.link_rules.Linked.{assemblies}
use Rattle.base_laws.specs.walk_laws.Walks.{AreMethodRuns, NamesType, NestsTypes, SlotsWhole, SlotsFound, OwnsAnswers}
use Rattle.base_laws.proofs.lemmas.walk_laws.MethodRuns.{core_right, either}
use Rattle.base_laws.proofs.lemmas.walk_laws.Overrides.{all_whole, all_found}
use Rattle.base_laws.proofs.lemmas.walk_laws.Answering.{all_owned}
use Rattle.base_laws.proofs.lemmas.walk_laws.Enclosing as enclosing
use Rattle.base_laws.specs.world_laws.Inputs.{AreRecords, EachAssembly, InRecords, NamesWithin}

-- ---- a record

runs_of : (rec : AsmRec) → IsRecord rec → AreMethodRuns rec
runs_of rec is = record { begins = is.runs.methods.begins; never_falls = is.runs.methods.never_falls; meets = is.runs.methods.meets }

-- a token of TypeDef by its table and row
row_there : (n row : ℕ) → 1 ≤ row → row ≤ n → (k : ℕ) × (index_from row ≡ Some k) × (k < n)
row_there n zero ge le = absurd (omega arith)
row_there n (suc k) ge le = (k, refl, omega arith)

by_row : (rec : AsmRec) (token : ℕ) → (TYPE_DEF == table_of token) ≡ true → 1 ≤ token % 16777216 → token % 16777216 ≤ length rec.type_def → NamesType rec token
by_row rec token e ge le =
    let same : table_of token ≡ 2 = sym (eqb-true 2 (table_of token) e) in
    let right : (table_of token == 2) ≡ true = rw same refl in
    let there = row_there (length rec.type_def) (token % 16777216) ge le in
    (there.0, rw right there.1, there.2)

one_table : (x : ℕ) → list_any (λ t. t == x) (TYPE_DEF ∷ []) ≡ true → (TYPE_DEF == x) ≡ true
one_table x h = by_case (TYPE_DEF == x) h
  where
    by_case : (b : Bool) → (b || false) ≡ true → b ≡ true
    by_case true e = refl
    by_case false e = e

types_there : (rec : AsmRec) (t : ℕ) → t ≡ 2 → rows_in rec t ≡ length rec.type_def
unfolding table_sizes
types_there rec t e = rw e refl

names_type : (rec : AsmRec) (token : ℕ) → Names rec (Index TYPE_DEF) token → NamesType rec token
unfolding names names_row
names_type rec token h =
    let p = and_parts (list_any (λ t. t == table_of token) (TYPE_DEF ∷ []) && nat_le 1 (token % 16777216)) (nat_le (token % 16777216) (rows_in rec (table_of token))) h in
    let q = and_parts (list_any (λ t. t == table_of token) (TYPE_DEF ∷ [])) (nat_le 1 (token % 16777216)) p.0 in
    let one = one_table (table_of token) q.0 in
    let long = types_there rec (table_of token) (sym (eqb-true 2 (table_of token) one)) in
    let ge = leb-true 1 (token % 16777216) q.1 in
    let le = leb-true (token % 16777216) (rows_in rec (table_of token)) p.1 in
    by_row rec token one ge (rw (sym long) le)

nests : (rec : AsmRec) → IsRecord rec → NestsTypes rec
nests rec is k row there =
    let both = is.tokens.nested_classes k row there in
    (names_type rec row.nested_class both.0, names_type rec row.enclosing_class both.1)

-- ---- the core library

none_there : (place : ℕ) (row : NestedClassRow) → slice_get [] place ≡ Some row → ⊥
none_there zero row e = cc
none_there (suc place) row e = cc

core_nests : (names : List CoreTypeName) → NestsTypes (core_with core_record names)
unfolding core_with core_record record_with
core_nests names k row there = absurd (none_there k row there)

-- ---- the assemblies of a world

module _ (P : AsmRec → Type 0) (of_record : (rec : AsmRec) → IsRecord rec → P rec) (of_core : (names : List CoreTypeName) → P (core_with core_record names)) where
  each_by : (inputs : List AsmRec) → AreRecords inputs → (a : ℕ) (rec : AsmRec)
      → (slice_get inputs a ≡ Some rec) ⊎ (core_with core_record (missing_names (inputs ++ core_record ∷ [])) ≡ rec) → P rec
  each_by inputs are a rec (inl e) = of_record rec (are a rec e)
  each_by inputs are a rec (inr e) = subst P e (of_core (missing_names (inputs ++ core_record ∷ [])))

  each : EachAssembly P
  unfolding assemblies
  each inputs are a rec e = each_by inputs are a rec (either inputs (core_with core_record (missing_names (inputs ++ core_record ∷ []))) a rec e)

pub runs_kept : EachAssembly AreMethodRuns
runs_kept = each AreMethodRuns runs_of core_right

pub nesting_kept : EachAssembly NestsTypes
nesting_kept = each NestsTypes nests core_nests

-- ---- the walks

pub slots_whole : InRecords SlotsWhole
slots_whole inputs sound are = all_whole inputs sound (λ a rec e. runs_of rec (are a rec e))

pub slots_found : InRecords SlotsFound
slots_found inputs sound are = all_found inputs sound (λ a rec e. runs_of rec (are a rec e))

pub answers_owned : InRecords OwnsAnswers
answers_owned inputs sound are = all_owned inputs sound (λ a rec e. runs_of rec (are a rec e))

pub names_within : InRecords NamesWithin
names_within inputs sound are a n k rec there lt le = enclosing.all_whole inputs sound a n k rec there (nesting_kept inputs are a rec there) lt le
