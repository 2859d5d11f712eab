-- In the world of one record and the core library, where the record has none of the core library's names, these names find the core
-- library, and a reference by one of them finds the first type of its name there.
use Rattle.std.proofs.Common.{◌≡◌, ℕ, suc, List, [], ◌∷◌, length, Bool, true, false, true≢false, Option, Some, None, refl, sym, ap, ◌∙◌}
use Rattle.std.specs.Prelude.{slice_get, position, ◌==◌, if◌then◌else◌}
use Rattle.std.specs.Option.{option_and_then}
use Rattle.il_base.specs.declared.world_model.types.TypeRefRow.{TypeRefRow}
use Rattle.il_base.specs.declared.world_model.assemblies.AssemblyRow.{AssemblyRow}
use Rattle.il_base.specs.declared.world_model.assemblies.AssemblyRefRow.{AssemblyRefRow}
use Rattle.il_base.specs.declared.world_model.record.AsmRec.{AsmRec}
use Rattle.il_base.specs.world_model.Tokens.{table_of, index_in, row_index}
use Rattle.il_base.specs.world_model.Core.{same_name, is_core_name}
use Rattle.rules.specs.declared.link_rules.row_at.RowAt.{RowAt}
use Rattle.rules.specs.link_rules.Types.{or_else, at_row, has_name, is_called, assembly_named, assembly_at, type_in, top_type, ref_type_by, ref_type, ref_at}
use Rattle.rules.specs.link_rules.Faults.{name_in, own_name}
use Rattle.merge_laws.proofs.lemmas.merged_references.Scopes.{names_decide}

module _ (name : List ℕ) (core_name : is_core_name name ≡ true) where
  other_by : (a : AssemblyRow) (b : Bool) → same_name a.name name ≡ b → is_core_name a.name ≡ false → b ≡ false
  other_by a false e f = refl
  other_by a true e f = absurd (true≢false (sym core_name ∙ ap is_core_name (sym ((names_decide a.name name).0 e)) ∙ f))

  pub own_differs : (rows : List AssemblyRow) → is_core_name (name_in rows) ≡ false → has_name name rows ≡ false
  own_differs [] e = refl
  own_differs (a ∷ rows) e = other_by a (same_name a.name name) refl e

  second_named : (p : AsmRec → Bool) (left core : AsmRec) (b : Bool) → p left ≡ false → p core ≡ b → or_else (position p (left ∷ core ∷ [])) (Some 1) ≡ Some 1
  second_named p left core true e f = rw (e, f) refl
  second_named p left core false e f = rw (e, f) refl

  pub core_named : (left core : AsmRec) → is_core_name (own_name left) ≡ false → assembly_named (left ∷ core ∷ []) name ≡ Some 1
  unfolding assembly_named
  core_named left core e =
      ap (λ b. or_else (position (is_called name) (left ∷ core ∷ [])) (if b then Some 1 else None)) core_name
      ∙ second_named (is_called name) left core (is_called name core) (own_differs left.assembly e) refl

-- a row whose scope is an AssemblyRef row with one of these names
pub record RefersToCore (left : AsmRec) (row : TypeRefRow) : Type 0 where
  pub table : table_of row.resolution_scope ≡ 0x23
  pub index : ℕ
  pub is_index : index_in 0x23 row.resolution_scope ≡ Some index
  pub assembly : AssemblyRefRow
  pub there : slice_get left.assembly_ref index ≡ Some assembly
  pub is_core : is_core_name assembly.name ≡ true

module _ (left core : AsmRec) (own : is_core_name (own_name left) ≡ false) where
  abbrev world : List AsmRec
  world = left ∷ core ∷ []

  top_found : (namespace name : List ℕ) (k : ℕ) → type_in core None namespace name ≡ Some k → top_type world 2 namespace name 1 ≡ Some (at_row 1 k)
  unfolding top_type
  top_found namespace name k e = rw e refl

  scope_is_core : (row : TypeRefRow) → RefersToCore left row → option_and_then (assembly_at world left) (index_in 0x23 row.resolution_scope) ≡ Some 1
  scope_is_core row s =
      ap (option_and_then (assembly_at world left)) s.is_index
      ∙ ap (option_and_then (λ (r : AssemblyRefRow). assembly_named world r.name)) s.there ∙ core_named s.assembly.name s.is_core left core own

  row_found : (row : TypeRefRow) → RefersToCore left row → (k : ℕ) → type_in core None row.namespace row.name ≡ Some k → (outer : ℕ → Option RowAt)
      → ref_type_by world 0 left row outer (index_in 0x01 row.resolution_scope) ≡ Some (at_row 1 k)
  row_found row s k e outer =
      ap (λ t. ref_type_by world 0 left row outer (if t == 0x01 then row_index row.resolution_scope else None)) s.table
      ∙ ap (λ t. if t == 0x00 then top_type world 2 row.namespace row.name 0
      else option_and_then (top_type world 2 row.namespace row.name) (option_and_then (assembly_at world left) (index_in 0x23 row.resolution_scope))) s.table
      ∙ ap (option_and_then (top_type world 2 row.namespace row.name)) (scope_is_core row s) ∙ top_found row.namespace row.name k e

  found_in : (n j k : ℕ) (row : TypeRefRow) → slice_get left.type_ref j ≡ Some row → RefersToCore left row → type_in core None row.namespace row.name ≡ Some k
      → ref_type world 0 left (suc n) j ≡ Some (at_row 1 k)
  unfolding ref_type
  found_in n j k row e s f =
      ap (option_and_then (λ (r : TypeRefRow). ref_type_by world 0 left r (ref_type world 0 left n) (index_in 0x01 r.resolution_scope))) e ∙ row_found row s k f (ref_type world 0 left n)

  some_length : {A : Type 0} (xs : List A) (k : ℕ) (x : A) → slice_get xs k ≡ Some x → (n : ℕ) × (length xs ≡ suc n)
  some_length [] k x e = cc
  some_length (y ∷ xs) k x e = (length xs, refl)

  pub ref_found : (j k : ℕ) (row : TypeRefRow) → slice_get left.type_ref j ≡ Some row → RefersToCore left row → type_in core None row.namespace row.name ≡ Some k
      → ref_at world 0 left j ≡ Some (at_row 1 k)
  ref_found j k row e s f =
      let n : (n : ℕ) × (length left.type_ref ≡ suc n) = some_length left.type_ref j row e in
      ap (λ m. ref_type world 0 left m j) n.1 ∙ found_in n.0 j k row e s f
