-- What the rows of MethodImpl name is there, in the world of inputs that are records.
use Rattle.std.proofs.Common.{◌≡◌, ◌<◌, ◌≤◌, ℕ, zero, suc, ◌+◌, ◌%◌, ◌==◌, Bool, true, false, nat_le, List, [], ◌∷◌, ◌++◌, length, Some, ◌⊎◌, inl, inr, refl, sym, ap, subst, arith}
use Rattle.std.specs.Prelude.{slice_get, ◌&&◌, ◌||◌, map}
use Rattle.std.specs.List.{Contains, list_any}
use Rattle.std.specs.Option.{is_some}
use Rattle.std.proofs.lemmas.Bool.{and_parts, leb-true, eqb-true}
use Rattle.il_base.specs.declared.ids.Item.TheVariants as item
use Rattle.il_base.specs.declared.table.TheConstants.{TYPE_DEF}
use Rattle.il_base.specs.declared.cli_format.column.Column.TheVariants.{Index}
use Rattle.il_base.specs.declared.world_model.known.Known.{Known}
use Rattle.il_base.specs.declared.world_model.known.Known.TheVariants.{Good, Bad}
use Rattle.il_base.specs.declared.world_model.expr.MethodUse.{MethodUse}
use Rattle.il_base.specs.declared.world_model.members.MethodImplRow.{MethodImplRow}
use Rattle.il_base.specs.declared.world_model.record.AsmRec.{AsmRec}
use Rattle.il_base.specs.world_model.Tokens.{table_of, index_from, index_in}
use Rattle.il_base.specs.world_model.Records.{table_sizes, rows_in, names_row, names, Names, IsRecord}
use Rattle.il_base.specs.core_table.Record.{core_record, record_with}
use Rattle.rules.specs.declared.link_rules.core_type_name.CoreTypeName.{CoreTypeName}
use Rattle.rules.specs.link_rules.CoreNames.{missing_names, core_with}
use Rattle.rules.specs.link_rules.Linked.{assemblies}
use Rattle.rules.specs.link_rules.Types.{at_row}
use Rattle.rules.specs.link_rules.Members.{generic_method}
use Rattle.rules.specs.link_rules.Cycles.{listed}
use Rattle.base_laws.proofs.lemmas.type_laws.Places.{home_at}
use Rattle.rules.specs.type_rules.Rows.{each_row}
use Rattle.rules.specs.mark_rules.Places.{type_item, row_of}
use Rattle.rules.specs.mark_rules.BadItems.{ImplRow, declaration_flaw, impl_rows_by, impl_rows}
use Rattle.base_laws.specs.walk_laws.Walks.{NamesType}
use Rattle.base_laws.proofs.lemmas.walk_laws.MethodRuns.{either}
use Rattle.base_laws.specs.world_laws.Inputs.{AreRecords, InRecords}
use Rattle.base_laws.proofs.lemmas.known_laws.Lists.{none_in, from_flat, from_map, from_listed, from_each, one_is}
use Rattle.base_laws.specs.flaw_laws.There.{RowsThere}
use Rattle.base_laws.proofs.lemmas.flaw_laws.Methods.{method_there}

-- ---- a record: the classes of its rows of MethodImpl

-- in an assembly each such row names a type that is there
abbrev ClassesThere : AsmRec → Type 0
ClassesThere rec = (k : ℕ) (row : MethodImplRow) → slice_get rec.method_impl k ≡ Some row → NamesType rec row.class

-- a token of TypeDef by its table and row
row_there : (n row : ℕ) → 1 ≤ row → row ≤ n → (k : ℕ) × (index_from row ≡ Some k) × (k < n)
row_there n zero ge le = absurd (omega arith)
row_there n (suc k) ge le = (k, refl, omega arith)

by_row : (rec : AsmRec) (token : ℕ) → (TYPE_DEF == table_of token) ≡ true → 1 ≤ token % 16777216 → token % 16777216 ≤ length rec.type_def → NamesType rec token
by_row rec token e ge le =
    let same : table_of token ≡ 2 = sym (eqb-true 2 (table_of token) e) in
    let right : (table_of token == 2) ≡ true = rw same refl in
    let there = row_there (length rec.type_def) (token % 16777216) ge le in
    (there.0, rw right there.1, there.2)

one_table : (x : ℕ) → list_any (λ t. t == x) (TYPE_DEF ∷ []) ≡ true → (TYPE_DEF == x) ≡ true
one_table x h = by_case (TYPE_DEF == x) h
  where
    by_case : (b : Bool) → (b || false) ≡ true → b ≡ true
    by_case true e = refl
    by_case false e = e

types_there : (rec : AsmRec) (t : ℕ) → t ≡ 2 → rows_in rec t ≡ length rec.type_def
unfolding table_sizes
types_there rec t e = rw e refl

names_type : (rec : AsmRec) (token : ℕ) → Names rec (Index TYPE_DEF) token → NamesType rec token
unfolding names names_row
names_type rec token h =
    let p = and_parts (list_any (λ t. t == table_of token) (TYPE_DEF ∷ []) && nat_le 1 (token % 16777216)) (nat_le (token % 16777216) (rows_in rec (table_of token))) h in
    let q = and_parts (list_any (λ t. t == table_of token) (TYPE_DEF ∷ [])) (nat_le 1 (token % 16777216)) p.0 in
    let one = one_table (table_of token) q.0 in
    let long = types_there rec (table_of token) (sym (eqb-true 2 (table_of token) one)) in
    let ge = leb-true 1 (token % 16777216) q.1 in
    let le = leb-true (token % 16777216) (rows_in rec (table_of token)) p.1 in
    by_row rec token one ge (rw (sym long) le)

of_record : (rec : AsmRec) → IsRecord rec → ClassesThere rec
of_record rec is k row there = let all = is.tokens.method_impls k row there in names_type rec row.class all.0

-- ---- the core library has no such rows

none_there : (place : ℕ) (row : MethodImplRow) → slice_get [] place ≡ Some row → ⊥
none_there zero row e = cc
none_there (suc place) row e = cc

of_core : (names : List CoreTypeName) → ClassesThere (core_with core_record names)
unfolding core_with core_record record_with
of_core names k row there = absurd (none_there k row there)

each_by : (inputs : List AsmRec) → AreRecords inputs → (a : ℕ) (rec : AsmRec)
    → (slice_get inputs a ≡ Some rec) ⊎ (core_with core_record (missing_names (inputs ++ core_record ∷ [])) ≡ rec) → ClassesThere rec
each_by inputs are a rec (inl e) = of_record rec (are a rec e)
each_by inputs are a rec (inr e) = subst ClassesThere e (of_core (missing_names (inputs ++ core_record ∷ [])))

each : (inputs : List AsmRec) → AreRecords inputs → (a : ℕ) (rec : AsmRec) → slice_get (assemblies inputs) a ≡ Some rec → ClassesThere rec
unfolding assemblies
each inputs are a rec e = each_by inputs are a rec (either inputs (core_with core_record (missing_names (inputs ++ core_record ∷ []))) a rec e)

-- ---- a row

abbrev good_body : Known MethodUse → List MethodUse
good_body (Good u) = u ∷ []
good_body (Bad why) = []

is_good : (x : Known MethodUse) (u : MethodUse) → Contains (good_body x) u → x ≡ Good u
is_good (Good v) u c = ap Good (one_is v u c)
is_good (Bad why) u c = absurd (none_in u c)

module _ (recs : List AsmRec) where
  abbrev row_by : ℕ → AsmRec → ℕ → MethodImplRow → ℕ → MethodUse → ImplRow
  row_by a rec k row c u = record { class = type_item recs (at_row a c); body = item.Method u.method; flaws = declaration_flaw (at_row a k) k (generic_method recs a rec row.declaration) }

  abbrev Both : ImplRow → Type 0
  Both r = (is_some (row_of recs r.class) ≡ true) × (is_some (row_of recs r.body) ≡ true)

  class_there : (a c : ℕ) (rec : AsmRec) → slice_get recs a ≡ Some rec → c < length rec.type_def → is_some (row_of recs (type_item recs (at_row a c))) ≡ true
  unfolding row_of
  class_there a c rec here lt = ap is_some (home_at recs 0 a c rec here lt)

  named_below : (rec : AsmRec) (token c : ℕ) → NamesType rec token → index_in TYPE_DEF token ≡ Some c → c < length rec.type_def
  named_below rec token c named e = let same : named.0 ≡ c = cc in subst (λ (n : ℕ). n < length rec.type_def) same named.2

  by_impl : (a k : ℕ) (rec : AsmRec) (row : MethodImplRow) → slice_get recs a ≡ Some rec → NamesType rec row.class → (r : ImplRow) → Contains (impl_rows_by recs a rec k row) r → Both r
  by_impl a k rec row here named r c =
      let t = from_flat (λ c. map (row_by a rec k row c) (good_body (generic_method recs a rec row.body))) (listed (index_in TYPE_DEF row.class)) r c in
      let m = from_map (row_by a rec k row t.item) (good_body (generic_method recs a rec row.body)) r t.inside in
      let good = is_good (generic_method recs a rec row.body) m.0 m.1 in
      let lt = named_below rec row.class t.item named (from_listed (index_in TYPE_DEF row.class) t.item t.there) in
      subst Both m.2 (class_there a t.item rec here lt, method_there recs a rec here row.body m.0 good)

  by_all : ((a : ℕ) (rec : AsmRec) → slice_get recs a ≡ Some rec → ClassesThere rec) → RowsThere recs
  unfolding impl_rows
  by_all classes r c =
      let a = from_each (λ a (rec : AsmRec). each_row (impl_rows_by recs a rec) rec.method_impl) 0 recs r c in
      let z : 0 + a.place ≡ a.place = omega arith in
      let here : slice_get recs (0 + a.place) ≡ Some a.item = rw z a.there in
      let k = from_each (impl_rows_by recs (0 + a.place) a.item) 0 a.item.method_impl r a.inside in
      by_impl (0 + a.place) (0 + k.place) a.item k.item here (classes (0 + a.place) a.item here k.place k.item k.there) r k.inside

pub rows_there : InRecords RowsThere
rows_there inputs sound are = by_all (assemblies inputs) (each inputs are)
