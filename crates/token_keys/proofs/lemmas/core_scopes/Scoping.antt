-- The first reference to a type is the one that the definition finds.
use Rattle.std.proofs.Common.{◌≡◌, ℕ, suc, ◌+◌, Bool, true, false, List, [], ◌∷◌, ◌++◌, length, map, take, Option, Some, None, refl, sym, ap, ◌∙◌, arith, zero-add}
use Rattle.std.specs.Prelude.{slice_get, unwrap_or, ◌-◌, ◌==◌, ◌&&◌, ◌||◌, if◌then◌else◌}
use Rattle.std.specs.List.{list_any, flat_map}
use Rattle.std.specs.Option.{option_and_then}
use Rattle.std.proofs.lemmas.Bool.{eqb-true}
use Rattle.std.proofs.lemmas.Grind.{flat_map-append}
use Rattle.il_base.specs.declared.ids.TypeId.{TypeId}
use Rattle.il_base.specs.declared.table.TheConstants.{ASSEMBLY_REF, TYPE_REF}
use Rattle.il_base.specs.declared.world_model.assemblies.AssemblyRefRow.{AssemblyRefRow}
use Rattle.il_base.specs.declared.world_model.types.TypeRefRow.{TypeRefRow}
use Rattle.il_base.specs.declared.world_model.record.AsmRec.{AsmRec}
use Rattle.il_base.specs.world_model.Tokens.{table_of, row_index, index_in}
use Rattle.il_base.specs.world_model.Core.{is_core_scope}
use Rattle.rules.specs.declared.link_rules.row_at.RowAt.{RowAt}
use Rattle.rules.specs.link_rules.Types.{ref_type, ref_at, type_of_scope, assembly_at, assembly_named, top_type}
use Rattle.rules.specs.link_rules.Members.{type_home}
use Rattle.rules.specs.link_rules.Cycles.{listed, same_row}
use Rattle.rules.specs.type_rules.Rows.{each_from, each_row}
use Rattle.rules.specs.merge_rules.Absent.{bare}
use Rattle.rules.specs.merge_rules.Numbers.{inputs}
use Rattle.rules.specs.merge_rules.Refs.{system_runtime, first_or, scope_of}
use Rattle.rules.specs.merge_rules.Numbers.{inputs_from}
use Rattle.token_keys.specs.core_scopes.CoreRefs.{CoreRef, core_ref, scope_row, named_from, core_refs_of, core_refs_in, all_core_refs}
use Rattle.token_keys.specs.core_scopes.Firsts.{scope_at}

abbrev all_from : {B : Type 0} → (ℕ → AsmRec → List B) → ℕ → List AsmRec → List B
all_from f a [] = []
all_from f a (rec ∷ recs) = f a rec ++ all_from f (a + 1) recs

from_a : {B : Type 0} (f : ℕ → AsmRec → List B) (a : ℕ) (recs : List AsmRec) → all_from f a (take (length recs - 1) recs) ≡ flat_map (λ (x : ℕ × AsmRec). f x.0 x.1) (inputs_from a recs)
from_a f a [] = refl
from_a f a (rec ∷ []) = refl
from_a {B} f a (rec ∷ next ∷ recs) =
    let e : length (rec ∷ next ∷ recs) - 1 ≡ suc (length (next ∷ recs) - 1) = omega arith in
    let one : a + 1 ≡ suc a = omega arith in
    rw (e, one) (ap (λ (rows : List B). f a rec ++ rows) (from_a f (suc a) (next ∷ recs)))

all_are : {B : Type 0} (f : ℕ → AsmRec → List B) (recs : List AsmRec) → all_from f 0 (take (length recs - 1) recs) ≡ flat_map (λ (x : ℕ × AsmRec). f x.0 x.1) (inputs recs)
all_are f recs = from_a f 0 recs

-- ---- a row with an assembly as its scope

of_case : (table token j : ℕ) (b : Bool) → (table_of token == table) ≡ b → (if b then row_index token else None) ≡ Some j → table_of token ≡ table
of_case table token j true e h = eqb-true (table_of token) table e
of_case table token j false e h = cc

of_table : (table token j : ℕ) → index_in table token ≡ Some j → table_of token ≡ table
of_table table token j e = of_case table token j (table_of token == table) refl e

no_type : (token : ℕ) → table_of token ≡ ASSEMBLY_REF → index_in TYPE_REF token ≡ None
no_type token e = rw e refl

not_empty : {A : Type 0} (xs : List A) (k : ℕ) (x : A) → slice_get xs k ≡ Some x → (n : ℕ) × (length xs ≡ suc n)
not_empty [] k x e = cc
not_empty (y ∷ ys) k x e = (length ys, refl)

module _ (recs : List AsmRec) (a : ℕ) (rec : AsmRec) (k : ℕ) (row : TypeRefRow) (stands : slice_get rec.type_ref k ≡ Some row) where
  ref_of : (n : ℕ) → index_in TYPE_REF row.resolution_scope ≡ None → ref_type recs a rec (suc n) k ≡ type_of_scope recs a rec row
  unfolding ref_type
  ref_of n none = rw (stands, none) refl

  by_index : (by : AssemblyRefRow) (o : Option ℕ) → index_in ASSEMBLY_REF row.resolution_scope ≡ o → option_and_then (slice_get rec.assembly_ref) o ≡ Some by → ref_at recs a rec k ≡ named_from recs row by
  by_index by None e there = cc
  by_index by (Some j) e there =
      let table : table_of row.resolution_scope ≡ ASSEMBLY_REF = of_table ASSEMBLY_REF row.resolution_scope j e in
      let some = not_empty rec.type_ref k row stands in
      ap (λ (n : ℕ). ref_type recs a rec n k) some.1
      ∙ ref_of some.0 (no_type row.resolution_scope table)
      ∙ (λ i. if table i == 0 then top_type recs (length recs) row.namespace row.name a else option_and_then (top_type recs (length recs) row.namespace row.name) (option_and_then (assembly_at recs rec) (e i)))
      ∙ ap (λ (r : Option AssemblyRefRow). option_and_then (top_type recs (length recs) row.namespace row.name) (option_and_then (λ (r : AssemblyRefRow). assembly_named recs r.name) r)) there

  named_is : (by : AssemblyRefRow) → scope_row rec row.resolution_scope ≡ Some by → ref_at recs a rec k ≡ named_from recs row by
  named_is by there = by_index by (index_in ASSEMBLY_REF row.resolution_scope) refl there

-- ---- the references to one type

abbrev pub those : RowAt → List CoreRef → List AssemblyRefRow
those home refs = flat_map (λ (r : CoreRef). if same_row r.typ home then r.by ∷ [] else []) refs

nothing : (b : Bool) → let none : List AssemblyRefRow = [] in (if b then none else none) ≡ none
nothing true = refl
nothing false = refl

-- what a row gives where its scope is the core library, by what it names
abbrev given : Option RowAt → Bool → Option RowAt → Option AssemblyRefRow → List AssemblyRefRow
given home core named by = if core && list_any (λ (at : RowAt). list_any (same_row at) (listed home)) (listed named) then listed by else []

given_one : (b : Bool) (by : AssemblyRefRow) → (if (b || false) || false then by ∷ [] else []) ≡ (if b then by ∷ [] else []) ++ []
given_one true by = refl
given_one false by = refl

given_at : (home : RowAt) (by : AssemblyRefRow) (named : Option RowAt) → given (Some home) true named (Some by) ≡ those home (map (core_ref by) (listed named) ++ [])
given_at home by None = refl
given_at home by (Some at) = given_one (same_row at home) by

given_is : (home : RowAt) (core : Bool) (named : Option RowAt) (by : Option AssemblyRefRow) (from : AssemblyRefRow → Option RowAt)
    → ((b : AssemblyRefRow) → by ≡ Some b → named ≡ from b)
    → given (Some home) core named by ≡ those home (if core then flat_map (λ b. map (core_ref b) (listed (from b))) (listed by) else [])
given_is home false named by from is = refl
given_is home true named None from is = nothing (list_any (λ (at : RowAt). list_any (same_row at) (home ∷ [])) (listed named))
given_is home true named (Some b) from is = ap (λ (x : Option RowAt). given (Some home) true x (Some b)) (is b refl) ∙ given_at home b (from b)

given_none : (core : Bool) (named : Option RowAt) (by : Option AssemblyRefRow) → given None core named by ≡ []
given_none false named by = refl
given_none true None by = refl
given_none true (Some at) by = refl

-- what is found has no hash
bare_case : (b : Bool) (by : AssemblyRefRow) (rest : Option AssemblyRefRow) (x : AssemblyRefRow) → (rest ≡ Some x → bare x ≡ x) → (if b then Some (bare by) else rest) ≡ Some x → bare x ≡ x
bare_case true by rest x h e = let f : bare by ≡ x = cc in ap bare (sym f) ∙ f
bare_case false by rest x h e = h e

pub bare_at : (refs : List CoreRef) (at : RowAt) (x : AssemblyRefRow) → scope_at refs at ≡ Some x → bare x ≡ x
bare_at [] at x e = cc
bare_at (r ∷ refs) at x e = bare_case (same_row r.typ at) r.by (scope_at refs at) x (bare_at refs at x) e

module _ (recs : List AsmRec) (t : TypeId) where
  abbrev Given : Option RowAt → ℕ → AsmRec → ℕ → TypeRefRow → List AssemblyRefRow
  Given home a rec k row = given home (is_core_scope rec row.resolution_scope) (ref_at recs a rec k) (scope_row rec row.resolution_scope)

  abbrev Rows : AsmRec → ℕ → List TypeRefRow → Type 0
  Rows rec k rows = (j : ℕ) (r : TypeRefRow) → slice_get rows j ≡ Some r → slice_get rec.type_ref (k + j) ≡ Some r

  later : (rec : AsmRec) (k : ℕ) (row : TypeRefRow) (rows : List TypeRefRow) → Rows rec k (row ∷ rows) → Rows rec (suc k) rows
  later rec k row rows stand j r e = let n : suc k + j ≡ k + suc j = omega arith in rw n (stand (suc j) r e)

  here : (rec : AsmRec) (k : ℕ) (row : TypeRefRow) (rows : List TypeRefRow) → Rows rec k (row ∷ rows) → slice_get rec.type_ref k ≡ Some row
  here rec k row rows stand = let n : k ≡ k + 0 = omega arith in ap (slice_get rec.type_ref) n ∙ stand 0 row refl

  from : (home : RowAt) (a : ℕ) (rec : AsmRec) (k : ℕ) (rows : List TypeRefRow) → Rows rec k rows → each_from (Given (Some home) a rec) k rows ≡ those home (flat_map (core_refs_of recs rec) rows)
  from home a rec k [] stand = refl
  from home a rec k (row ∷ rows) stand =
      (λ i.
      given_is home (is_core_scope rec row.resolution_scope) (ref_at recs a rec k) (scope_row rec row.resolution_scope) (named_from recs row) (named_is recs a rec k row (here rec k row rows stand)) i
      ++ from home a rec (suc k) rows (later rec k row rows stand) i)
      ∙ sym (flat_map-append (λ (r : CoreRef). if same_row r.typ home then r.by ∷ [] else []) (core_refs_of recs rec row) (flat_map (core_refs_of recs rec) rows))

  in_one : (home : RowAt) (a : ℕ) (rec : AsmRec) → each_row (Given (Some home) a rec) rec.type_ref ≡ those home (core_refs_in recs rec)
  in_one home a rec = from home a rec 0 rec.type_ref (λ j r e. ap (slice_get rec.type_ref) (zero-add j) ∙ e)

  in_all : (home : RowAt) (a : ℕ) (all : List AsmRec) → all_from (λ a rec. each_row (Given (Some home) a rec) rec.type_ref) a all ≡ those home (flat_map (core_refs_in recs) all)
  in_all home a [] = refl
  in_all home a (rec ∷ all) =
      (λ i. in_one home a rec i ++ in_all home (a + 1) all i)
      ∙ sym (flat_map-append (λ (r : CoreRef). if same_row r.typ home then r.by ∷ [] else []) (core_refs_in recs rec) (flat_map (core_refs_in recs) all))

  none_from : (a : ℕ) (rec : AsmRec) (k : ℕ) (rows : List TypeRefRow) → each_from (Given None a rec) k rows ≡ []
  none_from a rec k [] = refl
  none_from a rec k (row ∷ rows) =
      λ i. given_none (is_core_scope rec row.resolution_scope) (ref_at recs a rec k) (scope_row rec row.resolution_scope) i ++ none_from a rec (suc k) rows i

  none_in : (a : ℕ) (all : List AsmRec) → all_from (λ a rec. each_row (Given None a rec) rec.type_ref) a all ≡ []
  none_in a [] = refl
  none_in a (rec ∷ all) = λ i. none_from a rec 0 rec.type_ref i ++ none_in (a + 1) all i

  -- ---- the first

  first_case : (b : Bool) (by : AssemblyRefRow) (xs : List AssemblyRefRow) (rest : Option AssemblyRefRow) → bare (first_or xs system_runtime) ≡ unwrap_or rest system_runtime
      → bare (first_or ((if b then by ∷ [] else []) ++ xs) system_runtime) ≡ unwrap_or (if b then Some (bare by) else rest) system_runtime
  first_case true by xs rest e = refl
  first_case false by xs rest e = e

  first_is : (home : RowAt) (refs : List CoreRef) → bare (first_or (those home refs) system_runtime) ≡ unwrap_or (scope_at refs home) system_runtime
  first_is home [] = refl
  first_is home (r ∷ refs) = first_case (same_row r.typ home) r.by (those home refs) (scope_at refs home) (first_is home refs)

  abbrev All : Option RowAt → List AssemblyRefRow
  All home = flat_map (λ (x : ℕ × AsmRec). each_row (Given home x.0 x.1) x.1.type_ref) (inputs recs)

  opened : scope_of recs t ≡ bare (first_or (All (type_home recs t)) system_runtime)
  unfolding scope_of
  opened = refl

  pub scope_is : (home : RowAt) → type_home recs t ≡ Some home → scope_of recs t ≡ unwrap_or (scope_at (all_core_refs recs) home) system_runtime
  scope_is home e =
      opened ∙ ap (λ (h : Option RowAt). bare (first_or (All h) system_runtime)) e
      ∙ ap (λ (xs : List AssemblyRefRow). bare (first_or xs system_runtime)) (sym (all_are (λ a rec. each_row (Given (Some home) a rec) rec.type_ref) recs) ∙ in_all home 0 (take (length recs - 1) recs))
      ∙ first_is home (all_core_refs recs)

  pub scope_none : type_home recs t ≡ None → scope_of recs t ≡ system_runtime
  scope_none e =
      opened ∙ ap (λ (h : Option RowAt). bare (first_or (All h) system_runtime)) e
      ∙ ap (λ (xs : List AssemblyRefRow). bare (first_or xs system_runtime)) (sym (all_are (λ a rec. each_row (Given None a rec) rec.type_ref) recs) ∙ none_in 0 (take (length recs - 1) recs))

  pub scope_found : (home : RowAt) → type_home recs t ≡ Some home → (row : AssemblyRefRow) → scope_at (all_core_refs recs) home ≡ Some row → scope_of recs t ≡ row
  scope_found home e row f = scope_is home e ∙ ap (λ (o : Option AssemblyRefRow). unwrap_or o system_runtime) f

  pub scope_missing : (home : RowAt) → type_home recs t ≡ Some home → scope_at (all_core_refs recs) home ≡ None → scope_of recs t ≡ system_runtime
  scope_missing home e f = scope_is home e ∙ ap (λ (o : Option AssemblyRefRow). unwrap_or o system_runtime) f
