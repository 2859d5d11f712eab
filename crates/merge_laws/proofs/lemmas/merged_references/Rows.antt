-- The TypeRef row of a type of the core library: its name, and a scope that names the core library.
use Rattle.std.proofs.Common.{◌≡◌, ◌<◌, ◌+◌, ◌-◌, ℕ, zero, suc, List, [], ◌∷◌, ◌++◌, length, map, Bool, Option, Some, None, inl, refl, sym, ap, subst, ◌∙◌, arith}
use Rattle.std.specs.Prelude.{slice_get, if◌then◌else◌}
use Rattle.std.specs.List.{flat_map}
use Rattle.std.specs.Option.{option_map, option_and_then}
use Rattle.std.proofs.lemmas.Bool.{lt-leb}
use Rattle.std.proofs.lemmas.List.{length-append}
use Rattle.il_base.specs.declared.ids.TypeId.{TypeId}
use Rattle.il_base.specs.declared.world_model.types.TypeDefRow.{TypeDefRow}
use Rattle.il_base.specs.declared.world_model.types.TypeRefRow.{TypeRefRow}
use Rattle.il_base.specs.declared.world_model.assemblies.AssemblyRefRow.{AssemblyRefRow}
use Rattle.il_base.specs.declared.world_model.record.AsmRec.{AsmRec}
use Rattle.il_base.specs.world_model.Tokens.{table_of, index_in}
use Rattle.il_base.specs.world_model.Core.{is_core_name}
use Rattle.il_base.specs.world_model.Worlds.{type_id, rows_before, types_in}
use Rattle.il_base.specs.core_table.Record.{core_record}
use Rattle.rules.specs.declared.link_rules.row_at.RowAt.{RowAt}
use Rattle.rules.specs.declared.link_rules.core_type_name.CoreTypeName.{CoreTypeName}
use Rattle.rules.specs.link_rules.CoreNames.{core_with}
use Rattle.rules.specs.link_rules.Types.{encloser}
use Rattle.rules.specs.link_rules.Members.{type_home}
use Rattle.rules.specs.link_rules.Cycles.{listed}
use Rattle.rules.specs.type_rules.Rows.{rec_at, type_row_at}
use Rattle.base_laws.proofs.lemmas.type_laws.Within.{In, flat_in}
use Rattle.base_laws.proofs.lemmas.type_laws.Places.{home_is, home_is_type, type_at, place_has}
use Rattle.rules.specs.merge_rules.Absent.{same_assembly}
use Rattle.rules.specs.merge_rules.Absent as absent
use Rattle.rules.specs.merge_rules.Numbers.{Kept}
use Rattle.rules.specs.merge_rules.Order.{Met}
use Rattle.rules.specs.merge_rules.Refs.{Output, row_token, enclosing_type, scope_type_by, scope_type, scope_of, assemblies_of, assembly_refs, type_refs, first_or, own_scope, assembly_token, scope_token, found_ref, absent_ref, type_ref_row, type_token}
use Rattle.merge_laws.proofs.lemmas.merged_references.Lists.{Placed, has_place}
use Rattle.merge_laws.proofs.lemmas.merged_references.Tokens.{token_table, token_index}
use Rattle.merge_laws.proofs.lemmas.merged_references.Core.{top_level}
use Rattle.merge_laws.proofs.lemmas.merged_references.Scopes.{assembly_itself, assembly_name, scope_named}
use Rattle.merge_laws.proofs.lemmas.merged_references.Names.{RefersToCore}

last_is : {A : Type 0} (xs : List A) (x : A) → slice_get (xs ++ x ∷ []) (length xs) ≡ Some x
last_is [] x = refl
last_is (y ∷ xs) x = last_is xs x

pub under : (all : List AsmRec) (a k : ℕ) (rec : AsmRec) → slice_get all a ≡ Some rec → k < length rec.type_def → rows_before types_in all a + k < rows_before types_in all (length all)
unfolding rows_before
under [] a k rec e lt = cc
under (r ∷ all) zero k rec e lt = let same : r ≡ rec = cc in let l : k < length r.type_def = rw same lt in omega arith
under (r ∷ all) (suc a) k rec e lt = let l = under all a k rec e lt in omega arith

module _ (inputs : List AsmRec) (names : List CoreTypeName) where
  abbrev pub core : AsmRec
  core = core_with core_record names

  abbrev pub recs : List AsmRec
  recs = inputs ++ core ∷ []

  pub long : length recs ≡ suc (length inputs)
  long = length-append inputs (core ∷ []) ∙ omega arith

  -- a type of the core library
  pub record IsCoreType (t : TypeId) (at : RowAt) : Type 0 where
    pub home : type_home recs t ≡ Some at
    pub last : suc at.asm ≡ length recs
    pub row : TypeDefRow
    pub there : slice_get core.type_def at.row ≡ Some row

  some_same : (x y : AsmRec) (o : Option AsmRec) → o ≡ Some x → o ≡ Some y → x ≡ y
  some_same x y o e f = let g : Some x ≡ Some y = sym e ∙ f in cc

  core_at : (at : RowAt) → suc at.asm ≡ length recs → slice_get recs at.asm ≡ Some core
  core_at at e =
      let same : length inputs ≡ at.asm = omega (arith, e, long) in
      subst (λ (a : ℕ). slice_get recs a ≡ Some core) same (last_is inputs core)

  pub is_core_type : (t : TypeId) (at : RowAt) → type_home recs t ≡ Some at → suc at.asm ≡ length recs → IsCoreType t at
  is_core_type t at e f =
      let s = type_at recs at (home_is_type recs t at e) in
      let same : s.rec ≡ core = some_same s.rec core (slice_get recs at.asm) s.there (core_at at f) in
      let below : at.row < length core.type_def = subst (λ (r : AsmRec). at.row < length r.type_def) same s.below in
      let r = place_has core.type_def at.row below in
      record { home = e; last = f; row = r.0; there = r.1 }

  -- a type that is there has a place before those that aren't
  pub rows_up_to : (all : List AsmRec) (t : TypeId) (at : RowAt) → type_home all t ≡ Some at → t.0 < absent.type_count all
  rows_up_to all t at e =
      let s = home_is all 0 t.0 at e in
      let below : rows_before types_in all s.asm + at.row < rows_before types_in all (length all) = under all s.asm at.row s.rec s.there s.below in
      omega (arith, below, s.id)

  pub there_is : (t : TypeId) (at : RowAt) → type_home recs t ≡ Some at → absent.absent_row recs t ≡ None
  unfolding absent.absent_row
  there_is t at e = ap (λ (b : Bool). if b then slice_get (absent.reference_rows recs) (t.0 - absent.type_count recs) else None) (lt-leb (absent.type_count recs) t.0 (rows_up_to recs t at e))

  module _ (t : TypeId) (at : RowAt) (c : IsCoreType t at) where
    here : rec_at recs at ≡ Some core
    here = core_at at c.last

    no_scope : scope_type recs t ≡ None
    unfolding scope_type
    no_scope =
        ap (scope_type_by recs t) (there_is t at c.home) ∙ ap (option_and_then (enclosing_type recs)) c.home
        ∙ ap (option_and_then (λ (rec : AsmRec). option_map (type_id recs at.asm) (encloser rec at.row))) here ∙ ap (option_map (type_id recs at.asm)) (top_level names at.row)

    pub own_assembly : assemblies_of recs t ≡ scope_of recs t ∷ []
    own_assembly =
        ap (λ (o : Option RowAt). elim o [ Some at ↦ map absent.bare (listed (absent.assembly_scope recs at)) | None ↦ elim (scope_type recs t) [ Some around ↦ [] | None ↦ scope_of recs t ∷ [] ] ])
        (there_is t at c.home)
        ∙ ap (λ (o : Option TypeId). elim o as (λ o. List AssemblyRefRow) [ Some around ↦ [] | None ↦ scope_of recs t ∷ [] ]) no_scope

    row_here : option_and_then (type_row_at recs) (type_home recs t) ≡ Some c.row
    row_here = ap (option_and_then (type_row_at recs)) c.home ∙ ap (option_and_then (λ (rec : AsmRec). slice_get rec.type_def at.row)) here ∙ c.there

    module _ (kept : Kept) (mets : List Met) where
      abbrev o : Output
      o = record { recs = recs; kept = kept; mets = mets }

      pub own_row : type_ref_row o t ≡ found_ref o t c.row ∷ []
      own_row =
          ap (λ (a : Option RowAt). elim a as (λ a. List TypeRefRow) [ Some at ↦ map (absent_ref o t) (listed (absent.reference_at recs at)) | None ↦ map (found_ref o t) (listed (option_and_then (type_row_at recs) (type_home recs t))) ]) (there_is t at c.home)
          ∙ ap (λ (x : Option TypeDefRow). map (found_ref o t) (listed x)) row_here

      own_token : scope_token o t ≡ assembly_token o (scope_of recs t)
      own_token =
          ap (λ (a : Option TypeId). elim a as (λ a. ℕ) [ Some around ↦ type_token o around | None ↦ first_or (map (assembly_token o) (assemblies_of recs t)) (own_scope recs t) ]) no_scope
          ∙ ap (λ (xs : List AssemblyRefRow). first_or (map (assembly_token o) xs) (own_scope recs t)) own_assembly

      scope_met : In t (type_refs recs mets) → Placed (same_assembly (scope_of recs t)) (assembly_refs recs mets)
      unfolding assembly_refs
      scope_met h =
          has_place same_assembly (flat_map (assemblies_of recs) (type_refs recs mets)) (scope_of recs t) (assembly_itself (scope_of recs t))
          (flat_in (assemblies_of recs) (scope_of recs t) t (type_refs recs mets) h (subst (λ (xs : List AssemblyRefRow). In (scope_of recs t) xs) (sym own_assembly) (inl refl)))

      pub row_refers : (left : AsmRec) → left.assembly_ref ≡ assembly_refs recs mets → length left.assembly_ref < 16777216 → In t (type_refs recs mets) → RefersToCore left (found_ref o t c.row)
      row_refers left is few h =
          let p = scope_met h in
          let token : scope_token o t ≡ row_token 0x23 (Some p.index) = own_token ∙ ap (row_token 0x23) p.is in
          let same : length left.assembly_ref ≡ length (assembly_refs recs mets) = ap length is in
          let low : suc p.index < 16777216 = let lt = p.below in omega (arith, lt, same, few) in
          record {
            table = ap table_of token ∙ token_table 0x23 p.index (omega arith) low;
            index = p.index;
            is_index = ap (index_in 0x23) token ∙ token_index 0x23 p.index (omega arith) low;
            assembly = p.item;
            there = ap (λ (rows : List AssemblyRefRow). slice_get rows p.index) is ∙ p.there;
            is_core = ap is_core_name (sym (assembly_name (scope_of recs t) p.item p.passes)) ∙ scope_named recs t;
          }
