-- Each token of the output names a row that is there.
use Rattle.std.proofs.Common.{◌≡◌, ◌<◌, ◌≤◌, ℕ, zero, suc, ◌+◌, List, [], ◌∷◌, length, map, Bool, true, false, ◌⊎◌, inl, inr, Option, Some, None, refl, sym, ap, subst, ◌∙◌, arith, ltb-true}
use Rattle.std.specs.Prelude.{slice_get, position, get_or, nat_lt, ◌==◌, if◌then◌else◌}
use Rattle.std.specs.List.{Contains, flat_map, list_any}
use Rattle.std.specs.Option.{option_and_then}
use Rattle.std.proofs.lemmas.List.{get_or_past, length-map}
use Rattle.std.proofs.lemmas.Bool.{eqb-true, ltb-false}
use Rattle.il_base.specs.declared.ids.TypeId.{TypeId}
use Rattle.il_base.specs.declared.sig.MethodSig.{MethodSig}
use Rattle.il_base.specs.declared.table.TheConstants as table
use Rattle.il_base.specs.cli_format.Tokens.{coded_of}
use Rattle.il_base.specs.cli_format.Coded.{targets_of}
use Rattle.il_base.specs.declared.cli_format.column.Column.TheVariants.{Index, Coded, CodedOrNone}
use Rattle.il_base.specs.declared.cli_format.column.CodedIndex.{CodedIndex}
use Rattle.il_base.specs.declared.cli_format.column.CodedIndex.TheVariants.{TypeDefOrRef, HasConstant, HasCustomAttribute, MemberRefParent, HasSemantics, MethodDefOrRef, CustomAttributeType, ResolutionScope, TypeOrMethodDef}
use Rattle.il_base.specs.declared.world_model.types.TypeRefRow.{TypeRefRow}
use Rattle.il_base.specs.declared.world_model.types.TypeDefRow.{TypeDefRow}
use Rattle.il_base.specs.declared.world_model.types.InterfaceImplRow.{InterfaceImplRow}
use Rattle.il_base.specs.declared.world_model.types.NestedClassRow.{NestedClassRow}
use Rattle.il_base.specs.declared.world_model.types.ClassLayoutRow.{ClassLayoutRow}
use Rattle.il_base.specs.declared.world_model.types.GenericParamRow.{GenericParamRow}
use Rattle.il_base.specs.declared.world_model.types.GenericParamConstraintRow.{GenericParamConstraintRow}
use Rattle.il_base.specs.declared.world_model.members.MemberRefRow.{MemberRefRow}
use Rattle.il_base.specs.declared.world_model.members.MethodSpecRow.{MethodSpecRow}
use Rattle.il_base.specs.declared.world_model.members.MethodImplRow.{MethodImplRow}
use Rattle.il_base.specs.declared.world_model.members.MethodSemanticsRow.{MethodSemanticsRow}
use Rattle.il_base.specs.declared.world_model.members.EventRow.{EventRow}
use Rattle.il_base.specs.declared.world_model.members.EventMapRow.{EventMapRow}
use Rattle.il_base.specs.declared.world_model.members.PropertyMapRow.{PropertyMapRow}
use Rattle.il_base.specs.declared.world_model.extras.ConstantRow.{ConstantRow}
use Rattle.il_base.specs.declared.world_model.extras.CustomAttributeRow.{CustomAttributeRow}
use Rattle.il_base.specs.declared.world_model.extras.FieldRvaRow.{FieldRvaRow}
use Rattle.il_base.specs.declared.world_model.record.AsmRec.{AsmRec}
use Rattle.il_base.specs.declared.world_model.expr.TypeExpr.{TypeExpr}
use Rattle.il_base.specs.world_model.Tokens.{table_of, row_of, index_in}
use Rattle.il_base.specs.world_model.Records.{Each, table_sizes, rows_in, names_row, names, Names, TokensName, IsRecord}
use Rattle.rules.specs.declared.link_rules.row_at.RowAt.{RowAt}
use Rattle.rules.specs.link_rules.Types.{at_row}
use Rattle.rules.specs.link_rules.Members.{type_home}
use Rattle.rules.specs.link_rules.Cycles.{listed, same_row}
use Rattle.rules.specs.type_rules.Rows.{run_places, type_row_at}
use Rattle.rules.specs.mark_rules.Places.{prop_item, event_item}
use Rattle.rules.specs.merge_rules.Absent.{same_assembly, reference_at, absent_row}
use Rattle.rules.specs.merge_rules.Numbers.{Kept, kept_types, kept_methods, kept_events, new_row}
use Rattle.rules.specs.merge_rules.Sorted.{by_key}
use Rattle.rules.specs.file_layout.Bytes.{aligned}
use Rattle.rules.specs.merge_rules.Keys.{TypeKey, named, spec, MethodKey, own_method, found_method, absent_method, InstanceKey, same_sig, type_key, method_key, expr_key}
use Rattle.rules.specs.merge_rules.Refs.{Output, MemberKey, a_method, a_field, an_absent, same_member, same_id, is_reference, first_or, row_token, kept_token, type_token, key_token, member_token, method_token, method_at, parent_token, scope_type, scope_token, assemblies_of, assembly_token, own_scope, type_refs, type_specs, member_refs, method_specs, assembly_refs, type_ref_row, type_ref_rows, absent_ref, found_ref, member_ref_row, member_ref_rows, method_spec_rows, own_method_sig, own_field_sig, method_name, field_name, field_at, new_sig, new_method_sig}
use Rattle.rules.specs.merge_rules.Rows.{SortedRow, all_rows, places, place_token, token_32, class_token, method_def_token, owner_token, param_token, kept_generic_params, kept_interfaces, kept_constraints, output_rows, kept_row_token}
use Rattle.rules.specs.merge_rules.Attributes.{Attribute, attribute_with, attribute_in, kept_attributes, constructor_key}
use Rattle.rules.specs.merge_rules.Moved.{token_or_none, moved_type, moved_callee, moved_type_row, moved_event_row}
use Rattle.rules.specs.merge_rules.Restricted.{each_at, each_sorted, new_constant, constants, new_layout, class_layouts, new_field_rva, field_rvas, bytes_length, placed_bytes, nested_in, new_nested, nested_classes, new_impl, new_generic_param, new_constraint, semantics_of, new_semantics, method_semantics, impl_row, has_kept_body, new_method_impl, method_impls, attribute_row, keeps_some, property_map_row, new_property_map, event_map_row, new_event_map}
use Rattle.merge_laws.specs.merged_record.Laws.{InputsAreRecords, ReferencesStand, NamesAll, RowsFit}
use Rattle.merge_laws.proofs.lemmas.merged_record.Lists.{none_in, first_in, later_in, head_or, one_is, place_in, from_flat, from_map, from_listed, from_option, from_if, and_then_some, map_some, OfInput, from_all}
use Rattle.merge_laws.proofs.lemmas.merged_record.Sorting.{sorted_in}
use Rattle.merge_laws.proofs.lemmas.merged_record.Tokens.{At, position_is, row_is, Stands, named as row_named, NamedRow, one_table, index_names, coded_names, or_coded, of_index, of_coded, placed, ref_stands, kept_stands}
use Rattle.merge_laws.proofs.lemmas.merged_record.Rows.{from_places, from_sorted}
use Rattle.merge_laws.proofs.lemmas.merged_record.Sizes.{interface_is, param_is, constraint_is, left, types, methods, generic_params, type_ref_rows_are, member_ref_rows_are, type_spec_rows_are, assembly_ref_rows_are, sizes}

pub none_there : {A : Type 0} (k : ℕ) (x : A) → slice_get [] k ≡ Some x → ⊥
none_there k x e = cc

-- a table that has rows is one of those of II.22
table_count : (rec : AsmRec) → length (table_sizes rec) ≡ 45
unfolding table_sizes
table_count rec = refl

low : (rec : AsmRec) (t : ℕ) → 1 ≤ rows_in rec t → t < 256
low rec t some = by_test (nat_lt t 256) refl
  where
    by_test : (b : Bool) → nat_lt t 256 ≡ b → t < 256
    by_test true e = ltb-true t 256 e
    by_test false e =
        let ge : 256 ≤ t = ltb-false t 256 e in
        let n = table_count rec in
        let none = get_or_past (table_sizes rec) t 0 (omega arith) in
        absurd (omega arith)

-- bytes of fields keep their fields
pub from_bytes : (before : ℕ) (rows : List FieldRvaRow) (y : FieldRvaRow) → Contains (placed_bytes before rows) y → (x : FieldRvaRow) × Contains rows x × (x.field ≡ y.field)
unfolding placed_bytes
from_bytes before [] y c = absurd (none_in y c)
from_bytes before (row ∷ rows) y c =
    elim (head_or _ (placed_bytes (aligned 8 before + bytes_length row.bytes) rows) y c) [
      | inl e ↦ (row, first_in row rows, ap (λ (x : FieldRvaRow). x.field) e)
      | inr t ↦ let r = from_bytes (aligned 8 before + bytes_length row.bytes) rows y t in (r.0, later_in row rows r.0 r.1, r.2)
    ]

module _ (internal : Bool) (o : Output) (primary : AsmRec) (start : slice_get o.recs 0 ≡ Some primary) (records : InputsAreRecords o.recs) (fit : RowsFit (left internal o primary)) where
  abbrev out : AsmRec
  out = left internal o primary

  input_is : (a : ℕ) (rec : AsmRec) → OfInput o.recs a rec → IsRecord rec
  input_is a rec i = records a rec i.within i.there

  -- ---- what the token of an input's row becomes

  first_alone : (a k t n : ℕ) (rows : List RowAt) → rows ≡ at_row 0 0 ∷ [] → new_row rows (at_row a k) ≡ Some n → a ≡ 0
  first_alone a k t n rows one e =
      let p = position_is (same_row (at_row a k)) rows n e in
      let there : Contains (at_row 0 0 ∷ []) p.item = subst (λ (xs : List RowAt). Contains xs p.item) one (place_in rows n p.item p.there) in
      let same : at_row 0 0 ≡ p.item = one_is (at_row 0 0) p.item there in
      ap (λ (x : RowAt). x.asm) (row_is (at_row a k) p.item p.passes) ∙ sym (ap (λ (x : RowAt). x.asm) same)

  in_first : (a : ℕ) (rec : AsmRec) (t u k new : ℕ) → slice_get o.recs a ≡ Some rec → 1 ≤ rows_in rec t → t ≡ u → output_rows o.recs o.kept u ≡ at_row 0 0 ∷ []
      → place_token t (output_rows o.recs o.kept t) (at_row a k) ≡ Some new → 1 ≤ rows_in primary u
  in_first a rec t u k new there some same one e =
      let m = map_some (token_32 t) (new_row (output_rows o.recs o.kept t) (at_row a k)) new e in
      let none : a ≡ 0 = first_alone a k t m.0 (output_rows o.recs o.kept t) (ap (output_rows o.recs o.kept) same ∙ one) m.1 in
      let here : slice_get o.recs 0 ≡ Some rec = subst (λ (n : ℕ). slice_get o.recs n ≡ Some rec) none there in
      let it : rec ≡ primary = cc in
      let long : rows_in rec t ≡ rows_in primary u = (λ i. rows_in (it i) (same i)) in
      omega arith

  pub kept_named : (a : ℕ) (rec : AsmRec) (tables : List ℕ) (token new : ℕ) → slice_get o.recs a ≡ Some rec → NamedRow rec tables token → kept_row_token o.recs o.kept a token ≡ Some new → Stands out (table_of token) new
  unfolding kept_row_token
  kept_named a rec tables token new there is e =
      let t : ℕ = table_of token in
      let k = and_then_some (λ k. place_token t (output_rows o.recs o.kept t) (at_row a k)) (index_in t token) new e in
      let begins = is.begins in
      let within = is.within in
      let some : 1 ≤ rows_in rec t = omega arith in
      placed out t (output_rows o.recs o.kept t) (at_row a k.0) new (low rec t some)
      (sizes internal o primary t (λ same. in_first a rec t table.MODULE k.0 new there some same refl k.2) (λ same. in_first a rec t table.ASSEMBLY k.0 new there some same refl k.2))
      (fit t) k.2

  kept_coded : (index : CodedIndex) (a : ℕ) (rec : AsmRec) (token new : ℕ) → slice_get o.recs a ≡ Some rec → Names rec (Coded index) token → kept_row_token o.recs o.kept a token ≡ Some new → Names out (Coded index) new
  kept_coded index a rec token new there names e =
      let n = of_coded rec index token names in
      coded_names out index (table_of token) new (kept_named a rec (targets_of index) token new there n e) n.table

  kept_index : (t a : ℕ) (rec : AsmRec) (token new : ℕ) → slice_get o.recs a ≡ Some rec → Names rec (Index t) token → kept_row_token o.recs o.kept a token ≡ Some new → Names out (Index t) new
  kept_index t a rec token new there names e =
      let n = of_index rec t token names in
      let s = kept_named a rec (t ∷ []) token new there n e in
      index_names out t new (subst (λ (u : ℕ). Stands out u new) (sym (one_table t (table_of token) n.table)) s)

  class_named : (a token new : ℕ) → class_token o.recs o.kept a token ≡ Some new → Stands out table.TYPE_DEF new
  class_named a token new e =
      let k = and_then_some (λ k. place_token table.TYPE_DEF (kept_types o.recs o.kept) (at_row a k)) (index_in table.TYPE_DEF token) new e in
      let n = types internal o primary in
      placed out table.TYPE_DEF (kept_types o.recs o.kept) (at_row a k.0) new (omega arith) (omega arith) (fit table.TYPE_DEF) k.2

  method_named : (a token new : ℕ) → method_def_token o.recs o.kept a token ≡ Some new → Stands out table.METHOD_DEF new
  method_named a token new e =
      let k = and_then_some (λ k. place_token table.METHOD_DEF (kept_methods o.recs o.kept) (at_row a k)) (index_in table.METHOD_DEF token) new e in
      let n = methods internal o primary in
      placed out table.METHOD_DEF (kept_methods o.recs o.kept) (at_row a k.0) new (omega arith) (omega arith) (fit table.METHOD_DEF) k.2

  owner_by : (b : Bool) (a token new : ℕ) → (if b then class_token o.recs o.kept a token else method_def_token o.recs o.kept a token) ≡ Some new → Names out (Coded TypeOrMethodDef) new
  owner_by true a token new e = coded_names out TypeOrMethodDef table.TYPE_DEF new (class_named a token new e) refl
  owner_by false a token new e = coded_names out TypeOrMethodDef table.METHOD_DEF new (method_named a token new e) refl

  owner_named : (a token new : ℕ) → owner_token o.recs o.kept a token ≡ Some new → Names out (Coded TypeOrMethodDef) new
  owner_named a token new e = owner_by (table_of token == table.TYPE_DEF) a token new e

  param_named : (a token new : ℕ) → param_token o.recs o.kept a token ≡ Some new → Names out (Index table.GENERIC_PARAM) new
  param_named a token new e =
      let k = and_then_some (λ k. place_token table.GENERIC_PARAM (places (kept_generic_params o.recs o.kept)) (at_row a k)) (index_in table.GENERIC_PARAM token) new e in
      let n = generic_params internal o primary in
      index_names out table.GENERIC_PARAM new (placed out table.GENERIC_PARAM (places (kept_generic_params o.recs o.kept)) (at_row a k.0) new (omega arith) (omega arith) (fit table.GENERIC_PARAM) k.2)

  -- ---- tokens of references

  module _ (refs : ReferencesStand o out) where
    ref_type_stands : (t : TypeId) → 1 ≤ row_token table.TYPE_REF (position (same_id t) (type_refs o.recs o.mets)) → Stands out table.TYPE_REF (row_token table.TYPE_REF (position (same_id t) (type_refs o.recs o.mets)))
    ref_type_stands t ge =
        let n = type_ref_rows_are internal o primary in
        let m = refs.types in
        ref_stands out table.TYPE_REF (same_id t) (type_refs o.recs o.mets) (omega arith) (omega arith) (fit table.TYPE_REF) ge

    module _ (tables : List ℕ) (defs : list_any (λ t. t == table.TYPE_DEF) tables ≡ true) (others : list_any (λ t. t == table.TYPE_REF) tables ≡ true) where
      type_by : (t : TypeId) (b : Bool) → 1 ≤ (if b then row_token table.TYPE_REF (position (same_id t) (type_refs o.recs o.mets)) else kept_token table.TYPE_DEF (kept_types o.recs o.kept) (type_home o.recs t))
          → names_row out tables (if b then row_token table.TYPE_REF (position (same_id t) (type_refs o.recs o.mets)) else kept_token table.TYPE_DEF (kept_types o.recs o.kept) (type_home o.recs t)) ≡ true
      type_by t true ge = row_named out tables table.TYPE_REF (row_token table.TYPE_REF (position (same_id t) (type_refs o.recs o.mets))) (ref_type_stands t ge) others
      type_by t false ge =
          let n = types internal o primary in
          row_named out tables table.TYPE_DEF (kept_token table.TYPE_DEF (kept_types o.recs o.kept) (type_home o.recs t))
          (kept_stands out table.TYPE_DEF (kept_types o.recs o.kept) (type_home o.recs t) (omega arith) (omega arith) (fit table.TYPE_DEF) ge) defs

      type_named : (t : TypeId) → 1 ≤ type_token o t → names_row out tables (type_token o t) ≡ true
      unfolding type_token
      type_named t ge = type_by t (is_reference o.recs t) ge

      module _ (specs : list_any (λ t. t == table.TYPE_SPEC) tables ≡ true) where
        key_named : (k : TypeKey) → 1 ≤ key_token o k → names_row out tables (key_token o k) ≡ true
        unfolding key_token
        key_named (named t) ge = type_named t ge
        key_named (spec s) ge =
            let n = type_spec_rows_are internal o primary in
            row_named out tables table.TYPE_SPEC (row_token table.TYPE_SPEC (position (same_sig s) (type_specs o.recs o.mets)))
            (ref_stands out table.TYPE_SPEC (same_sig s) (type_specs o.recs o.mets) (omega arith) (omega arith) (fit table.TYPE_SPEC) ge) specs

        or_none : (k : Option TypeKey) → 1 ≤ token_or_none (key_token o) k → names_row out tables (token_or_none (key_token o) k) ≡ true
        or_none None ge = absurd (omega arith)
        or_none (Some k) ge = key_named k ge

    moved_named : (a : ℕ) (rec : AsmRec) (token : ℕ) → 1 ≤ moved_type o a rec token → Names out (Coded TypeDefOrRef) (moved_type o a rec token)
    unfolding moved_type names
    moved_named a rec token ge = or_none (targets_of TypeDefOrRef) refl refl refl (type_key o.recs a rec token) ge

    member_named : (tables : List ℕ) (m : MemberKey) → list_any (λ t. t == table.MEMBER_REF) tables ≡ true → 1 ≤ member_token o m → names_row out tables (member_token o m) ≡ true
    member_named tables m has ge =
        let n = member_ref_rows_are internal o primary in
        let l = refs.members in
        row_named out tables table.MEMBER_REF (member_token o m) (ref_stands out table.MEMBER_REF (same_member m) (member_refs o.mets) (omega arith) (omega arith) (fit table.MEMBER_REF) ge) has

    module _ (tables : List ℕ) (defs : list_any (λ t. t == table.METHOD_DEF) tables ≡ true) (others : list_any (λ t. t == table.MEMBER_REF) tables ≡ true) where
      callee_named : (m : MethodKey) → 1 ≤ method_token o m → names_row out tables (method_token o m) ≡ true
      unfolding method_token
      callee_named (own_method m) ge =
          let n = methods internal o primary in
          row_named out tables table.METHOD_DEF (kept_token table.METHOD_DEF (kept_methods o.recs o.kept) (method_at o.recs m))
          (kept_stands out table.METHOD_DEF (kept_methods o.recs o.kept) (method_at o.recs m) (omega arith) (omega arith) (fit table.METHOD_DEF) ge) defs
      callee_named (found_method m e) ge = member_named tables (a_method m e) others ge
      callee_named (absent_method p name s) ge = member_named tables (an_absent p name s) others ge

      callee_or_none : (m : Option MethodKey) → 1 ≤ token_or_none (method_token o) m → names_row out tables (token_or_none (method_token o) m) ≡ true
      callee_or_none None ge = absurd (omega arith)
      callee_or_none (Some m) ge = callee_named m ge

    callee_by : (a : ℕ) (rec : AsmRec) (token other : ℕ) (b : Bool) → b ≡ false → 1 ≤ (if b then other else token_or_none (method_token o) (method_key o.recs a rec token))
        → names_row out (targets_of MethodDefOrRef) (if b then other else token_or_none (method_token o) (method_key o.recs a rec token)) ≡ true
    callee_by a rec token other true e ge = absurd (cc)
    callee_by a rec token other false e ge = callee_or_none (targets_of MethodDefOrRef) refl refl (method_key o.recs a rec token) ge

    no_spec : (t : ℕ) → list_any (λ u. u == t) (targets_of MethodDefOrRef) ≡ true → (t == table.METHOD_SPEC) ≡ false
    no_spec t h = by_test (t == table.METHOD_SPEC) refl
      where
        by_test : (b : Bool) → (t == table.METHOD_SPEC) ≡ b → (t == table.METHOD_SPEC) ≡ false
        by_test true e = let same : t ≡ table.METHOD_SPEC = eqb-true t table.METHOD_SPEC e in let bad : list_any (λ u. u == table.METHOD_SPEC) (targets_of MethodDefOrRef) ≡ true = subst (λ (n : ℕ). list_any (λ u. u == n) (targets_of MethodDefOrRef) ≡ true) same h in absurd (cc)
        by_test false e = e

    moved_callee_named : (a : ℕ) (rec : AsmRec) (token : ℕ) → Names rec (Coded MethodDefOrRef) token → 1 ≤ moved_callee o a rec token → Names out (Coded MethodDefOrRef) (moved_callee o a rec token)
    unfolding moved_callee names
    moved_callee_named a rec token is ge = callee_by a rec token _ (table_of token == table.METHOD_SPEC) (no_spec (table_of token) (of_coded rec MethodDefOrRef token is).table) ge

    -- ---- TypeRef rows

    scope_by : (t : TypeId) → Contains (type_refs o.recs o.mets) t → (x : Option TypeId) → scope_type o.recs t ≡ x → (xs : List _) → assemblies_of o.recs t ≡ xs
        → Names out (CodedOrNone ResolutionScope) (elim x [ Some around ↦ type_token o around | None ↦ first_or (map (assembly_token o) xs) (own_scope o.recs t) ])
    unfolding type_token
    scope_by t c None e [] f = refs.own t c e f
    scope_by t c None e (x ∷ xs) f =
        or_coded out ResolutionScope (assembly_token o x)
        (λ ge.
        let n = assembly_ref_rows_are internal o primary in
        coded_names out ResolutionScope table.ASSEMBLY_REF (assembly_token o x)
        (ref_stands out table.ASSEMBLY_REF (same_assembly x) (assembly_refs o.recs o.mets) (omega arith) (omega arith) (fit table.ASSEMBLY_REF) ge) refl)
    scope_by t c (Some u) e xs f = around_by (is_reference o.recs u) refl (refs.around t u c e)
      where
        around_by : (b : Bool) → is_reference o.recs u ≡ b → b ≡ true → Names out (CodedOrNone ResolutionScope) (type_token o u)
        around_by true g h =
            let n : (if is_reference o.recs u then row_token table.TYPE_REF (position (same_id u) (type_refs o.recs o.mets)) else kept_token table.TYPE_DEF (kept_types o.recs o.kept) (type_home o.recs u)) ≡ row_token table.TYPE_REF (position (same_id u) (type_refs o.recs o.mets)) = rw g refl in
            subst (λ (x : ℕ). Names out (CodedOrNone ResolutionScope) x) (sym n)
            (or_coded out ResolutionScope (row_token table.TYPE_REF (position (same_id u) (type_refs o.recs o.mets))) (λ ge. coded_names out ResolutionScope table.TYPE_REF (row_token table.TYPE_REF (position (same_id u) (type_refs o.recs o.mets))) (ref_type_stands u ge) refl))
        around_by false g h = absurd (cc)

    scope_named : (t : TypeId) → Contains (type_refs o.recs o.mets) t → Names out (CodedOrNone ResolutionScope) (scope_token o t)
    scope_named t c = scope_by t c (scope_type o.recs t) refl (assemblies_of o.recs t) refl

    ref_row_by : (t : TypeId) (x : Option RowAt) (row : TypeRefRow)
        → Contains (elim x [ Some at ↦ map (absent_ref o t) (listed (reference_at o.recs at)) | None ↦ map (found_ref o t) (listed (option_and_then (type_row_at o.recs) (type_home o.recs t))) ]) row
        → scope_token o t ≡ row.resolution_scope
    ref_row_by t (Some at) row c = let m = from_map (absent_ref o t) (listed (reference_at o.recs at)) row c in ap (λ (r : TypeRefRow). r.resolution_scope) m.2
    ref_row_by t None row c = let m = from_map (found_ref o t) (listed (option_and_then (type_row_at o.recs) (type_home o.recs t))) row c in ap (λ (r : TypeRefRow). r.resolution_scope) m.2

    ref_rows : (row : TypeRefRow) → Contains (type_ref_rows o) row → Names out (CodedOrNone ResolutionScope) row.resolution_scope
    unfolding type_ref_rows
    ref_rows row c =
        let p = from_flat (type_ref_row o) (type_refs o.recs o.mets) row c in
        subst (λ (n : ℕ). Names out (CodedOrNone ResolutionScope) n) (ref_row_by p.item (absent_row o.recs p.item) row p.inside) (scope_named p.item p.there)

    -- ---- MemberRef rows

    abbrev HasParent : MemberRefRow → Type 0
    HasParent row = 1 ≤ row.class → Names out (Coded MemberRefParent) row.class

    key_parent : (k : TypeKey) → 1 ≤ key_token o k → Names out (Coded MemberRefParent) (key_token o k)
    unfolding names
    key_parent k ge = key_named (targets_of MemberRefParent) refl refl refl k ge

    parent_by : (x : Option TypeKey) → 1 ≤ first_or (map (key_token o) (listed x)) 0 → Names out (Coded MemberRefParent) (first_or (map (key_token o) (listed x)) 0)
    parent_by None ge = absurd (omega arith)
    parent_by (Some k) ge = key_parent k ge

    parent_named : (e : TypeExpr) → 1 ≤ parent_token o e → Names out (Coded MemberRefParent) (parent_token o e)
    parent_named e ge = parent_by (expr_key o.recs e) ge

    member_row : (m : MemberKey) (row : MemberRefRow) → Contains (member_ref_row o m) row → HasParent row
    member_row (a_method m e) row c =
        let at = from_flat (λ at. map (λ s. record { class = parent_token o e; name = method_name o.recs at; signature = _ }) (own_method_sig o.recs at)) (listed (method_at o.recs m)) row c in
        let s = from_map _ (own_method_sig o.recs at.item) row at.inside in
        subst HasParent s.2 (parent_named e)
    member_row (a_field f e) row c =
        let at = from_flat _ (listed (field_at o.recs f)) row c in
        let s = from_map _ (own_field_sig o.recs at.item) row at.inside in
        subst HasParent s.2 (parent_named e)
    member_row (an_absent p name s) row c = subst HasParent (one_is _ row c) (key_parent p)

    member_rows : (row : MemberRefRow) → Contains (member_ref_rows o) row → HasParent row
    unfolding member_ref_rows
    member_rows row c = let p = from_flat (member_ref_row o) (member_refs o.mets) row c in member_row p.item row p.inside

    method_spec_named : (row : MethodSpecRow) → Contains (method_spec_rows o) row → 1 ≤ row.method → Names out (Coded MethodDefOrRef) row.method
    unfolding method_spec_rows names
    method_spec_named row c =
        let m = from_map _ (method_specs o.mets) row c in
        subst (λ (r : MethodSpecRow). 1 ≤ r.method → names_row out (targets_of MethodDefOrRef) r.method ≡ true) m.2 (callee_named (targets_of MethodDefOrRef) refl refl m.0.method)

    -- ---- all columns

    module _ (all : NamesAll out) where
      type_defs : Each (λ row. Names out (CodedOrNone TypeDefOrRef) row.extends) out.type_def
      type_defs k row e =
          let p = from_places o.recs (λ rec. rec.type_def) (moved_type_row internal o) (kept_types o.recs o.kept) row (place_in out.type_def k row e) in
          subst (λ (r : TypeDefRow). Names out (CodedOrNone TypeDefOrRef) r.extends) p.made
          (or_coded out TypeDefOrRef (moved_type o p.at.asm p.rec p.row.extends) (moved_named p.at.asm p.rec p.row.extends))

      interface_impls : Each (λ row. Names out (Index table.TYPE_DEF) row.class × Names out (Coded TypeDefOrRef) row.interface) out.interface_impl
      interface_impls k row e =
          let s = from_sorted o.recs (λ rec. rec.interface_impl) (new_impl o) (kept_interfaces o.recs o.kept) row (place_in out.interface_impl k row e) in
          let i = interface_is o.recs o.kept s.item s.listed in (
            subst (λ (r : InterfaceImplRow). Names out (Index table.TYPE_DEF) r.class) s.made (index_names out table.TYPE_DEF s.item.owner (class_named s.item.at.asm i.row.class s.item.owner i.owned)),
            subst (λ (r : InterfaceImplRow). 1 ≤ r.interface → Names out (Coded TypeDefOrRef) r.interface) s.made (moved_named s.item.at.asm s.rec s.row.interface) (all.interfaces k row e),
          )

      constant_rows : Each (λ row. Names out (Coded HasConstant) row.parent) out.constant
      constant_rows k row e =
          let r = from_all (λ rec. rec.constant) (new_constant o) o.recs row (sorted_in (λ (x : ConstantRow). coded_of HasConstant x.parent) (all_rows (λ rec. rec.constant) (new_constant o) o.recs) row (place_in out.constant k row e)) in
          let m = from_map _ (listed (kept_row_token o.recs o.kept r.asm r.row.parent)) row r.inside in
          subst (λ (x : ConstantRow). Names out (Coded HasConstant) x.parent) m.2
          (kept_coded HasConstant r.asm r.rec r.row.parent m.0 r.input.there ((input_is r.asm r.rec r.input).tokens.constants r.place r.row r.there) (from_listed (kept_row_token o.recs o.kept r.asm r.row.parent) m.0 m.1))

      layouts : Each (λ row. Names out (Index table.TYPE_DEF) row.parent) out.class_layout
      layouts k row e =
          let r = from_all (λ rec. rec.class_layout) (new_layout o) o.recs row (sorted_in (λ (x : ClassLayoutRow). x.parent) (all_rows (λ rec. rec.class_layout) (new_layout o) o.recs) row (place_in out.class_layout k row e)) in
          let m = from_map _ (listed (kept_row_token o.recs o.kept r.asm r.row.parent)) row r.inside in
          subst (λ (x : ClassLayoutRow). Names out (Index table.TYPE_DEF) x.parent) m.2
          (kept_index table.TYPE_DEF r.asm r.rec r.row.parent m.0 r.input.there ((input_is r.asm r.rec r.input).tokens.class_layouts r.place r.row r.there) (from_listed (kept_row_token o.recs o.kept r.asm r.row.parent) m.0 m.1))

      field_row : (x : FieldRvaRow) → Contains (all_rows (λ rec. rec.field_rva) (new_field_rva o) o.recs) x → Names out (Index table.FIELD) x.field
      field_row x c =
          let r = from_all (λ rec. rec.field_rva) (new_field_rva o) o.recs x c in
          let m = from_map _ (listed (kept_row_token o.recs o.kept r.asm r.row.field)) x r.inside in
          subst (λ (y : FieldRvaRow). Names out (Index table.FIELD) y.field) m.2
          (kept_index table.FIELD r.asm r.rec r.row.field m.0 r.input.there ((input_is r.asm r.rec r.input).tokens.field_rvas r.place r.row r.there) (from_listed (kept_row_token o.recs o.kept r.asm r.row.field) m.0 m.1))

      field_rows : Each (λ row. Names out (Index table.FIELD) row.field) out.field_rva
      field_rows k row e =
          let b = from_bytes _ (by_key (λ (x : FieldRvaRow). x.field) (all_rows (λ rec. rec.field_rva) (new_field_rva o) o.recs)) row (place_in out.field_rva k row e) in
          subst (λ (n : ℕ). Names out (Index table.FIELD) n) b.2 (field_row b.0 (sorted_in (λ (x : FieldRvaRow). x.field) (all_rows (λ rec. rec.field_rva) (new_field_rva o) o.recs) b.0 b.1))

      nested_rows : Each (λ row. Names out (Index table.TYPE_DEF) row.nested_class × Names out (Index table.TYPE_DEF) row.enclosing_class) out.nested_class
      nested_rows k row e =
          let r = from_all (λ rec. rec.nested_class) (new_nested o) o.recs row (sorted_in (λ (x : NestedClassRow). x.nested_class) (all_rows (λ rec. rec.nested_class) (new_nested o) o.recs) row (place_in out.nested_class k row e)) in
          let n = from_flat (λ nested. map (nested_in nested) (listed (kept_row_token o.recs o.kept r.asm r.row.enclosing_class))) (listed (kept_row_token o.recs o.kept r.asm r.row.nested_class)) row r.inside in
          let m = from_map (nested_in n.item) (listed (kept_row_token o.recs o.kept r.asm r.row.enclosing_class)) row n.inside in
          let is = (input_is r.asm r.rec r.input).tokens.nested_classes r.place r.row r.there in
          subst (λ (x : NestedClassRow). Names out (Index table.TYPE_DEF) x.nested_class × Names out (Index table.TYPE_DEF) x.enclosing_class) m.2 (
            kept_index table.TYPE_DEF r.asm r.rec r.row.nested_class n.item r.input.there is.0 (from_listed (kept_row_token o.recs o.kept r.asm r.row.nested_class) n.item n.there),
            kept_index table.TYPE_DEF r.asm r.rec r.row.enclosing_class m.0 r.input.there is.1 (from_listed (kept_row_token o.recs o.kept r.asm r.row.enclosing_class) m.0 m.1),
          )

      generic_rows : Each (λ row. Names out (Coded TypeOrMethodDef) row.owner) out.generic_param
      generic_rows k row e =
          let s = from_sorted o.recs (λ rec. rec.generic_param) new_generic_param (kept_generic_params o.recs o.kept) row (place_in out.generic_param k row e) in
          let i = param_is o.recs o.kept s.item s.listed in
          subst (λ (r : GenericParamRow). Names out (Coded TypeOrMethodDef) r.owner) s.made (owner_named s.item.at.asm i.row.owner s.item.owner i.owned)

      constraint_rows : Each (λ row. Names out (Index table.GENERIC_PARAM) row.owner × Names out (Coded TypeDefOrRef) row.constraint) out.generic_param_constraint
      constraint_rows k row e =
          let s = from_sorted o.recs (λ rec. rec.generic_param_constraint) (new_constraint o) (kept_constraints o.recs o.kept) row (place_in out.generic_param_constraint k row e) in
          let i = constraint_is o.recs o.kept s.item s.listed in (
            subst (λ (r : GenericParamConstraintRow). Names out (Index table.GENERIC_PARAM) r.owner) s.made (param_named s.item.at.asm i.row.owner s.item.owner i.owned),
            subst (λ (r : GenericParamConstraintRow). 1 ≤ r.constraint → Names out (Coded TypeDefOrRef) r.constraint) s.made (moved_named s.item.at.asm s.rec s.row.constraint) (all.constraints k row e),
          )

      attribute_parent : (x : Attribute) → Contains (kept_attributes o.recs o.kept) x → Names out (Coded HasCustomAttribute) x.parent
      unfolding kept_attributes
      attribute_parent x c =
          let r = from_all (λ rec. rec.custom_attribute) (attribute_in o.recs o.kept) o.recs x (sorted_in (λ (y : Attribute). coded_of HasCustomAttribute y.parent) (all_rows (λ rec. rec.custom_attribute) (attribute_in o.recs o.kept) o.recs) x c) in
          let n = from_flat (λ parent. map (attribute_with r.row.value parent) (listed (constructor_key o.recs r.asm r.rec r.row.ctor))) (listed (kept_row_token o.recs o.kept r.asm r.row.parent)) x r.inside in
          let m = from_map (attribute_with r.row.value n.item) (listed (constructor_key o.recs r.asm r.rec r.row.ctor)) x n.inside in
          let is = (input_is r.asm r.rec r.input).tokens.custom_attributes r.place r.row r.there in
          subst (λ (y : Attribute). Names out (Coded HasCustomAttribute) y.parent) m.2
          (kept_coded HasCustomAttribute r.asm r.rec r.row.parent n.item r.input.there is.0 (from_listed (kept_row_token o.recs o.kept r.asm r.row.parent) n.item n.there))

      constructor_named : (m : MethodKey) → 1 ≤ method_token o m → Names out (Coded CustomAttributeType) (method_token o m)
      unfolding names
      constructor_named m ge = callee_named (targets_of CustomAttributeType) refl refl m ge

      attributes : Each (λ row. Names out (Coded HasCustomAttribute) row.parent × Names out (Coded CustomAttributeType) row.ctor) out.custom_attribute
      attributes k row e =
          let m = from_map (attribute_row o) (kept_attributes o.recs o.kept) row (place_in out.custom_attribute k row e) in (
            subst (λ (r : CustomAttributeRow). Names out (Coded HasCustomAttribute) r.parent) m.2 (attribute_parent m.0 m.1),
            subst (λ (r : CustomAttributeRow). 1 ≤ r.ctor → Names out (Coded CustomAttributeType) r.ctor) m.2 (constructor_named m.0.ctor) (all.constructors k row e),
          )

      event_maps : Each (λ row. Names out (Index table.TYPE_DEF) row.parent) out.event_map
      event_maps k row e =
          let r = from_all (λ rec. rec.event_map) (new_event_map o) o.recs row (place_in out.event_map k row e) in
          let i = from_if (keeps_some o (event_item o.recs) r.asm (run_places r.row.event_list_first r.row.event_list_end r.rec.event)) (map (event_map_row o r.asm r.row) (listed (class_token o.recs o.kept r.asm r.row.parent))) row r.inside in
          let m = from_map (event_map_row o r.asm r.row) (listed (class_token o.recs o.kept r.asm r.row.parent)) row i.1 in
          subst (λ (x : EventMapRow). Names out (Index table.TYPE_DEF) x.parent) m.2
          (index_names out table.TYPE_DEF m.0 (class_named r.asm r.row.parent m.0 (from_listed (class_token o.recs o.kept r.asm r.row.parent) m.0 m.1)))

      property_maps : Each (λ row. Names out (Index table.TYPE_DEF) row.parent) out.property_map
      property_maps k row e =
          let r = from_all (λ rec. rec.property_map) (new_property_map o) o.recs row (place_in out.property_map k row e) in
          let i = from_if (keeps_some o (prop_item o.recs) r.asm (run_places r.row.property_list_first r.row.property_list_end r.rec.property)) (map (property_map_row o r.asm r.row) (listed (class_token o.recs o.kept r.asm r.row.parent))) row r.inside in
          let m = from_map (property_map_row o r.asm r.row) (listed (class_token o.recs o.kept r.asm r.row.parent)) row i.1 in
          subst (λ (x : PropertyMapRow). Names out (Index table.TYPE_DEF) x.parent) m.2
          (index_names out table.TYPE_DEF m.0 (class_named r.asm r.row.parent m.0 (from_listed (class_token o.recs o.kept r.asm r.row.parent) m.0 m.1)))

      events : Each (λ row. Names out (Coded TypeDefOrRef) row.event_type) out.event
      events k row e =
          let p = from_places o.recs (λ rec. rec.event) (moved_event_row o) (kept_events o.recs o.kept) row (place_in out.event k row e) in
          subst (λ (r : EventRow). 1 ≤ r.event_type → Names out (Coded TypeDefOrRef) r.event_type) p.made (moved_named p.at.asm p.rec p.row.event_type) (all.events k row e)

      semantics : Each (λ row. Names out (Index table.METHOD_DEF) row.method × Names out (Coded HasSemantics) row.association) out.method_semantics
      semantics k row e =
          let r = from_all (λ rec. rec.method_semantics) (new_semantics o) o.recs row (sorted_in (λ (x : MethodSemanticsRow). coded_of HasSemantics x.association) (all_rows (λ rec. rec.method_semantics) (new_semantics o) o.recs) row (place_in out.method_semantics k row e)) in
          let n = from_flat (λ method. map (semantics_of r.row.semantics method) (listed (kept_row_token o.recs o.kept r.asm r.row.association))) (listed (kept_row_token o.recs o.kept r.asm r.row.method)) row r.inside in
          let m = from_map (semantics_of r.row.semantics n.item) (listed (kept_row_token o.recs o.kept r.asm r.row.association)) row n.inside in
          let is = (input_is r.asm r.rec r.input).tokens.method_semantics r.place r.row r.there in
          subst (λ (x : MethodSemanticsRow). Names out (Index table.METHOD_DEF) x.method × Names out (Coded HasSemantics) x.association) m.2 (
            kept_index table.METHOD_DEF r.asm r.rec r.row.method n.item r.input.there is.0 (from_listed (kept_row_token o.recs o.kept r.asm r.row.method) n.item n.there),
            kept_coded HasSemantics r.asm r.rec r.row.association m.0 r.input.there is.1 (from_listed (kept_row_token o.recs o.kept r.asm r.row.association) m.0 m.1),
          )

      impls : Each (λ row. Names out (Index table.TYPE_DEF) row.class × Names out (Coded MethodDefOrRef) row.body × Names out (Coded MethodDefOrRef) row.declaration) out.method_impl
      impls k row e =
          let r = from_all (λ rec. rec.method_impl) (new_method_impl o) o.recs row (sorted_in (λ (x : MethodImplRow). x.class) (all_rows (λ rec. rec.method_impl) (new_method_impl o) o.recs) row (place_in out.method_impl k row e)) in
          let i = from_if (has_kept_body o r.asm r.rec r.row) (map (impl_row o r.asm r.rec r.row) (listed (class_token o.recs o.kept r.asm r.row.class))) row r.inside in
          let m = from_map (impl_row o r.asm r.rec r.row) (listed (class_token o.recs o.kept r.asm r.row.class)) row i.1 in
          let is = (input_is r.asm r.rec r.input).tokens.method_impls r.place r.row r.there in (
            subst (λ (x : MethodImplRow). Names out (Index table.TYPE_DEF) x.class) m.2
                (index_names out table.TYPE_DEF m.0 (class_named r.asm r.row.class m.0 (from_listed (class_token o.recs o.kept r.asm r.row.class) m.0 m.1))),
            subst (λ (x : MethodImplRow). 1 ≤ x.body → Names out (Coded MethodDefOrRef) x.body) m.2 (moved_callee_named r.asm r.rec r.row.body is.1) (all.bodies k row e),
            subst (λ (x : MethodImplRow). 1 ≤ x.declaration → Names out (Coded MethodDefOrRef) x.declaration) m.2 (moved_callee_named r.asm r.rec r.row.declaration is.2) (all.declarations k row e),
          )

      pub tokens : TokensName out
      tokens = record {
        type_refs = λ k row e. ref_rows row (place_in out.type_ref k row e);
        type_defs = type_defs;
        interface_impls = interface_impls;
        member_refs = λ k row e. member_rows row (place_in out.member_ref k row e) (all.parents k row e);
        constants = constant_rows;
        custom_attributes = attributes;
        field_marshals = λ k row e. absurd (none_there k row e);
        decl_securities = λ k row e. absurd (none_there k row e);
        class_layouts = layouts;
        field_layouts = λ k row e. absurd (none_there k row e);
        event_maps = event_maps;
        events = events;
        property_maps = property_maps;
        method_semantics = semantics;
        method_impls = impls;
        impl_maps = λ k row e. absurd (none_there k row e);
        field_rvas = field_rows;
        assembly_ref_processors = λ k row e. absurd (none_there k row e);
        assembly_ref_os = λ k row e. absurd (none_there k row e);
        exported_types = λ k row e. absurd (none_there k row e);
        manifest_resources = λ k row e. absurd (none_there k row e);
        nested_classes = nested_rows;
        generic_params = generic_rows;
        method_specs = λ k row e. method_spec_named row (place_in out.method_spec k row e) (all.methods k row e);
        generic_param_constraints = constraint_rows;
      }
