-- The members without a row that the output refers to have names of files' records.
use Rattle.std.proofs.Common.{◌≡◌, ℕ, suc, List, [], ◌∷◌, ◌++◌, map, Bool, true, false, Option, Some, None, subst}
use Rattle.std.specs.Prelude.{slice_get, ◌==◌, ◌||◌, if◌then◌else◌}
use Rattle.std.specs.List.{Contains, flat_map, filter}
use Rattle.std.specs.Option.{option_map, option_and_then}
use Rattle.il_base.specs.declared.table.TheConstants.{TYPE_DEF, METHOD_DEF, MEMBER_REF, METHOD_SPEC, STAND_ALONE_SIG, GENERIC_PARAM}
use Rattle.il_base.specs.declared.sig.Sig.{Sig}
use Rattle.il_base.specs.declared.sig.MethodSig.{MethodSig}
use Rattle.il_base.specs.declared.body.Form.{Form}
use Rattle.il_base.specs.declared.body.Form.TheVariants as form
use Rattle.il_base.specs.declared.body.Operand.{Operand}
use Rattle.il_base.specs.declared.body.Operand.TheVariants as operand
use Rattle.il_base.specs.declared.body.Instr.{Instr}
use Rattle.il_base.specs.declared.body.Handler.{Handler}
use Rattle.il_base.specs.declared.body.Body.{Body}
use Rattle.il_base.specs.declared.cli_format.column.CodedIndex.TheVariants.{HasCustomAttribute}
use Rattle.il_base.specs.cli_format.Tokens.{coded_of}
use Rattle.il_base.specs.declared.world_model.known.Known.{Known}
use Rattle.il_base.specs.declared.world_model.expr.MethodUse.{MethodUse}
use Rattle.il_base.specs.declared.world_model.types.TypeDefRow.{TypeDefRow}
use Rattle.il_base.specs.declared.world_model.types.InterfaceImplRow.{InterfaceImplRow}
use Rattle.il_base.specs.declared.world_model.types.GenericParamRow.{GenericParamRow}
use Rattle.il_base.specs.declared.world_model.types.GenericParamConstraintRow.{GenericParamConstraintRow}
use Rattle.il_base.specs.declared.world_model.members.FieldRow.{FieldRow}
use Rattle.il_base.specs.declared.world_model.members.MethodDefRow.{MethodDefRow}
use Rattle.il_base.specs.declared.world_model.members.MemberRefRow.{MemberRefRow}
use Rattle.il_base.specs.declared.world_model.members.MethodSpecRow.{MethodSpecRow}
use Rattle.il_base.specs.declared.world_model.members.MethodImplRow.{MethodImplRow}
use Rattle.il_base.specs.declared.world_model.members.PropertyRow.{PropertyRow}
use Rattle.il_base.specs.declared.world_model.members.EventRow.{EventRow}
use Rattle.il_base.specs.declared.world_model.record.AsmRec.{AsmRec}
use Rattle.il_base.specs.world_model.Tokens.{token_of, table_of, index_in}
use Rattle.rules.specs.declared.link_rules.row_at.RowAt.{RowAt}
use Rattle.rules.specs.link_rules.Types.{or_else}
use Rattle.rules.specs.link_rules.Cycles.{listed}
use Rattle.rules.specs.type_rules.Rows.{rec_at, each_row, methods_of_type}
use Rattle.rules.specs.mark_rules.Attributes.{ref_sig}
use Rattle.rules.specs.mark_rules.Bodies.{body_of, is_field_token, is_method_token, is_catch}
use Rattle.rules.specs.mark_rules.Naming.{method_named}
use Rattle.rules.specs.mark_rules.Places.{method_item}
use Rattle.rules.specs.merge_rules.Numbers.{Kept, kept_types}
use Rattle.rules.specs.merge_rules.Keys.{TypeKey, MethodKey, own_method, found_method, absent_method, FieldKey, own_field, found_field, InstanceKey, good, world_sig, world_sigs, world_method_sig, is_plain_owner, method_key_of, method_key, field_key, instance_by, instance_key, type_key}
use Rattle.rules.specs.merge_rules.Order.{Met, met_type, met_sig, met_method, met_field, met_instance, met_locals, met_types, met_token, met_good_sig, met_method_sig, met_callee, met_field_token, met_any, met_by_form, met_operand, met_locals_row, met_locals_token, met_body, met_method_row, met_field_row, met_property_row, met_event_row, met_constraint, met_param, met_constraints, is_impl_of, met_impls, met_extends, met_interface, met_interfaces, those, met_in_type, met_by_types}
use Rattle.rules.specs.merge_rules.Attributes.{Attribute, is_copied, absent_constructor, copied_constructor, is_in_input, constructor_key, attribute_with, attribute_in, kept_attributes, met_by_attributes}
use Rattle.rules.specs.merge_rules.Rows.{all_rows, kept_row_token}
use Rattle.rules.specs.merge_rules.Restricted.{output_of}
use Rattle.rules.specs.merge_rules.Refs.{MemberKey, a_method, a_field, an_absent, same_member, member_of_method, member_of_field, members_of_met, member_refs}
use Rattle.file_laws.specs.written_tables.Written.{IsText}
use Rattle.merge_laws.proofs.lemmas.merged_record.Lists.{place_in, and_then_some, map_some, from_all}
use Rattle.merge_laws.proofs.lemmas.merged_record.Sorting.{sorted_in}
use Rattle.merge_laws.proofs.lemmas.merged_loads.Lists.{Every, every_none, every_one, every_join, every_flat, every_map, every_if, every_listed, every_each, every_once}
use Rattle.merge_laws.proofs.lemmas.merged_loads.Names.{Named}

-- one that names nothing has a name that is a text
abbrev pub KeyNamed : MethodKey → Type 0
KeyNamed (own_method m) = Unit {0}
KeyNamed (found_method m e) = Unit {0}
KeyNamed (absent_method p name s) = IsText name

abbrev pub MetNamed : Met → Type 0
MetNamed (met_type k) = Unit {0}
MetNamed (met_sig s) = Unit {0}
MetNamed (met_method m) = KeyNamed m
MetNamed (met_field f) = Unit {0}
MetNamed (met_instance i) = KeyNamed i.method
MetNamed (met_locals ss) = Unit {0}

-- ---- keys of tokens

of_use : (recs : List AsmRec) (own : Bool) (u : MethodUse) (b : Bool) → KeyNamed (if b then own_method u.method else found_method u.method u.owner)
of_use recs own u true = tt
of_use recs own u false = tt

of_uses : (recs : List AsmRec) (own : Bool) (o : Option MethodUse) (k : MethodKey) → option_map (method_key_of recs own) o ≡ Some k → KeyNamed k
of_uses recs own o k e =
    let m = map_some (method_key_of recs own) o k e in
    subst KeyNamed m.2 (of_use recs own m.0 (own || is_plain_owner recs m.0.owner))

method_named_key : (recs : List AsmRec) (a : ℕ) (rec : AsmRec) (token : ℕ) (k : MethodKey) → method_key recs a rec token ≡ Some k → KeyNamed k
unfolding method_key
method_named_key recs a rec token k e = of_uses recs (table_of token == METHOD_DEF) (good (method_named recs a rec token)) k e

of_instance : (recs : List AsmRec) (a : ℕ) (rec : AsmRec) (row : MethodSpecRow) (i : InstanceKey) → instance_by recs a rec row ≡ Some i → KeyNamed i.method
of_instance recs a rec row i e =
    let m = and_then_some (λ m. option_map (λ (args : List Sig). record { method = m; args = world_sigs recs a rec args }) (good row.instantiation)) (method_key recs a rec row.method) i e in
    let s = map_some (λ (args : List Sig). record { method = m.0; args = world_sigs recs a rec args }) (good row.instantiation) i m.2 in
    subst (λ (x : InstanceKey). KeyNamed x.method) s.2 (method_named_key recs a rec row.method m.0 m.1)

instance_named : (recs : List AsmRec) (a : ℕ) (rec : AsmRec) (token : ℕ) (i : InstanceKey) → instance_key recs a rec token ≡ Some i → KeyNamed i.method
unfolding instance_key
instance_named recs a rec token i e =
    let r = and_then_some (instance_by recs a rec) (option_and_then (slice_get rec.method_spec) (index_in METHOD_SPEC token)) i e in of_instance recs a rec r.0 i r.2

-- ---- what types and members meet

module _ (recs : List AsmRec) where
  types_met : (k : Option TypeKey) → Every MetNamed (met_types k)
  types_met k = every_map MetNamed met_type (listed k) (λ x c. tt)

  token_met : (a : ℕ) (rec : AsmRec) (token : ℕ) → Every MetNamed (met_token recs a rec token)
  token_met a rec token = every_if MetNamed (token == 0) [] (met_types (type_key recs a rec token)) (every_none MetNamed) (types_met (type_key recs a rec token))

  sig_met : (a : ℕ) (rec : AsmRec) (s : Known Sig) → Every MetNamed (met_good_sig recs a rec s)
  sig_met a rec s = every_map MetNamed (λ x. met_sig (world_sig recs a rec x)) (listed (good s)) (λ x c. tt)

  method_sig_met : (a : ℕ) (rec : AsmRec) (s : Known MethodSig) → Every MetNamed (met_method_sig recs a rec s)
  method_sig_met a rec s =
      every_flat MetNamed (λ (m : MethodSig). map met_sig (world_sigs recs a rec (m.ret ∷ m.params))) (listed (good s)) (λ m c. every_map MetNamed met_sig (world_sigs recs a rec (m.ret ∷ m.params)) (λ x d. tt))

  callee_met : (a : ℕ) (rec : AsmRec) (token : ℕ) → Every MetNamed (met_callee recs a rec token)
  callee_met a rec token =
      every_if MetNamed (table_of token == METHOD_SPEC) (map met_instance (listed (instance_key recs a rec token))) (map met_method (listed (method_key recs a rec token)))
      (every_map MetNamed met_instance (listed (instance_key recs a rec token)) (every_listed (λ (i : InstanceKey). KeyNamed i.method) (instance_key recs a rec token) (instance_named recs a rec token)))
      (every_map MetNamed met_method (listed (method_key recs a rec token)) (every_listed KeyNamed (method_key recs a rec token) (method_named_key recs a rec token)))

  field_token_met : (a : ℕ) (rec : AsmRec) (token : ℕ) → Every MetNamed (met_field_token recs a rec token)
  field_token_met a rec token = every_map MetNamed met_field (listed (field_key recs a rec token)) (λ x c. tt)

  any_met : (a : ℕ) (rec : AsmRec) (token : ℕ) → Every MetNamed (met_any recs a rec token)
  any_met a rec token =
      every_if MetNamed (is_field_token rec token) (met_field_token recs a rec token) (if is_method_token token then met_callee recs a rec token else met_token recs a rec token) (field_token_met a rec token)
      (every_if MetNamed (is_method_token token) (met_callee recs a rec token) (met_token recs a rec token) (callee_met a rec token) (token_met a rec token))

  by_form_met : (a : ℕ) (rec : AsmRec) (f : Form) (token : ℕ) → Every MetNamed (met_by_form recs a rec f token)
  by_form_met a rec form.Call token = callee_met a rec token
  by_form_met a rec form.NewObj token = callee_met a rec token
  by_form_met a rec form.Field token = field_token_met a rec token
  by_form_met a rec form.LdStr token = every_none MetNamed
  by_form_met a rec form.LdToken token = any_met a rec token
  by_form_met a rec _ token = token_met a rec token

  operand_met : (a : ℕ) (rec : AsmRec) (f : Form) (x : Operand) → Every MetNamed (met_operand recs a rec f x)
  operand_met a rec f (operand.Token token) = by_form_met a rec f token
  operand_met a rec f _ = every_none MetNamed

  locals_met : (a : ℕ) (rec : AsmRec) (token : ℕ) → Every MetNamed (met_locals_token recs a rec token)
  locals_met a rec token =
      every_flat MetNamed (met_locals_row recs a rec) (listed (option_and_then (slice_get rec.stand_alone_sig) (index_in STAND_ALONE_SIG token)))
      (λ row c. every_map MetNamed (λ ss. met_locals (world_sigs recs a rec ss)) (listed (good row.signature)) (λ ss d. tt))

  body_met : (a : ℕ) (rec : AsmRec) (b : Body) → Every MetNamed (met_body recs a rec b)
  body_met a rec b =
      every_join MetNamed (met_locals_token recs a rec b.locals ++ flat_map (λ (i : Instr). met_operand recs a rec i.form i.operand) b.code) (flat_map (λ (h : Handler). if is_catch h then met_token recs a rec h.token else []) b.handlers)
      (every_join MetNamed (met_locals_token recs a rec b.locals) (flat_map (λ (i : Instr). met_operand recs a rec i.form i.operand) b.code) (locals_met a rec b.locals)
      (every_flat MetNamed (λ (i : Instr). met_operand recs a rec i.form i.operand) b.code (λ i c. operand_met a rec i.form i.operand)))
      (every_flat MetNamed (λ (h : Handler). if is_catch h then met_token recs a rec h.token else []) b.handlers
      (λ h c. every_if MetNamed (is_catch h) (met_token recs a rec h.token) [] (token_met a rec h.token) (every_none MetNamed)))

  method_row_met : (at : RowAt) → Every MetNamed (met_method_row recs at)
  method_row_met at =
      every_flat MetNamed (λ (rec : AsmRec). flat_map (λ (m : MethodDefRow). met_method_sig recs at.asm rec m.signature ++ flat_map (met_body recs at.asm rec) (body_of m)) (listed (slice_get rec.method_def at.row))) (listed (rec_at recs at))
      (λ rec c. every_flat MetNamed (λ (m : MethodDefRow). met_method_sig recs at.asm rec m.signature ++ flat_map (met_body recs at.asm rec) (body_of m)) (listed (slice_get rec.method_def at.row))
      (λ m d. every_join MetNamed (met_method_sig recs at.asm rec m.signature) (flat_map (met_body recs at.asm rec) (body_of m)) (method_sig_met at.asm rec m.signature)
      (every_flat MetNamed (met_body recs at.asm rec) (body_of m) (λ b e. body_met at.asm rec b))))

  field_row_met : (at : RowAt) → Every MetNamed (met_field_row recs at)
  field_row_met at =
      every_flat MetNamed (λ (rec : AsmRec). flat_map (λ (f : FieldRow). met_good_sig recs at.asm rec f.signature) (listed (slice_get rec.field at.row))) (listed (rec_at recs at))
      (λ rec c. every_flat MetNamed (λ (f : FieldRow). met_good_sig recs at.asm rec f.signature) (listed (slice_get rec.field at.row)) (λ f d. sig_met at.asm rec f.signature))

  property_row_met : (at : RowAt) → Every MetNamed (met_property_row recs at)
  property_row_met at =
      every_flat MetNamed (λ (rec : AsmRec). flat_map (λ (p : PropertyRow). met_method_sig recs at.asm rec p.signature) (listed (slice_get rec.property at.row))) (listed (rec_at recs at))
      (λ rec c. every_flat MetNamed (λ (p : PropertyRow). met_method_sig recs at.asm rec p.signature) (listed (slice_get rec.property at.row)) (λ p d. method_sig_met at.asm rec p.signature))

  event_row_met : (at : RowAt) → Every MetNamed (met_event_row recs at)
  event_row_met at =
      every_flat MetNamed (λ (rec : AsmRec). flat_map (λ (e : EventRow). met_token recs at.asm rec e.event_type) (listed (slice_get rec.event at.row))) (listed (rec_at recs at))
      (λ rec c. every_flat MetNamed (λ (e : EventRow). met_token recs at.asm rec e.event_type) (listed (slice_get rec.event at.row)) (λ e d. token_met at.asm rec e.event_type))

  constraint_met : (a : ℕ) (rec : AsmRec) (token : ℕ) (row : GenericParamConstraintRow) → Every MetNamed (met_constraint recs a rec token row)
  constraint_met a rec token row = every_if MetNamed (row.owner == token) (met_token recs a rec row.constraint) [] (token_met a rec row.constraint) (every_none MetNamed)

  param_met : (a : ℕ) (rec : AsmRec) (owner k : ℕ) (row : GenericParamRow) → Every MetNamed (met_param recs a rec owner k row)
  param_met a rec owner k row =
      every_if MetNamed (row.owner == owner) (flat_map (met_constraint recs a rec (token_of GENERIC_PARAM (suc k))) rec.generic_param_constraint) []
      (every_flat MetNamed (met_constraint recs a rec (token_of GENERIC_PARAM (suc k))) rec.generic_param_constraint (λ r c. constraint_met a rec (token_of GENERIC_PARAM (suc k)) r)) (every_none MetNamed)

  constraints_met : (at : RowAt) (owner : ℕ) → Every MetNamed (met_constraints recs at owner)
  constraints_met at owner =
      every_flat MetNamed (λ (rec : AsmRec). each_row (met_param recs at.asm rec owner) rec.generic_param) (listed (rec_at recs at))
      (λ rec c. every_each MetNamed (met_param recs at.asm rec owner) 0 rec.generic_param (λ k row d. param_met at.asm rec owner k row))

  extends_met : (at : RowAt) → Every MetNamed (met_extends recs at)
  extends_met at =
      every_flat MetNamed (λ (rec : AsmRec). flat_map (λ (t : TypeDefRow). met_token recs at.asm rec t.extends) (listed (slice_get rec.type_def at.row))) (listed (rec_at recs at))
      (λ rec c. every_flat MetNamed (λ (t : TypeDefRow). met_token recs at.asm rec t.extends) (listed (slice_get rec.type_def at.row)) (λ t d. token_met at.asm rec t.extends))

  module _ (kept : Kept) where
    impls_met : (at : RowAt) → Every MetNamed (met_impls recs kept at)
    impls_met at =
        every_flat MetNamed (λ (rec : AsmRec). flat_map (λ (row : MethodImplRow). met_callee recs at.asm rec row.body ++ met_callee recs at.asm rec row.declaration) (filter (is_impl_of recs kept at rec) rec.method_impl)) (listed (rec_at recs at))
        (λ rec c. every_flat MetNamed (λ (row : MethodImplRow). met_callee recs at.asm rec row.body ++ met_callee recs at.asm rec row.declaration) (filter (is_impl_of recs kept at rec) rec.method_impl)
        (λ row d. every_join MetNamed (met_callee recs at.asm rec row.body) (met_callee recs at.asm rec row.declaration) (callee_met at.asm rec row.body) (callee_met at.asm rec row.declaration)))

    interface_met : (at : RowAt) (rec : AsmRec) (k : ℕ) (row : InterfaceImplRow) → Every MetNamed (met_interface recs kept at rec k row)
    interface_met at rec k row = every_if MetNamed _ (met_token recs at.asm rec row.interface) [] (token_met at.asm rec row.interface) (every_none MetNamed)

    interfaces_met : (at : RowAt) → Every MetNamed (met_interfaces recs kept at)
    interfaces_met at =
        every_flat MetNamed (λ (rec : AsmRec). each_row (met_interface recs kept at rec) rec.interface_impl) (listed (rec_at recs at))
        (λ rec c. every_each MetNamed (met_interface recs kept at rec) 0 rec.interface_impl (λ k row d. interface_met at rec k row))

    type_met : (at : RowAt) → Every MetNamed (met_in_type recs kept at)
    type_met at =
        let methods : List RowAt = those recs kept (method_item recs) (methods_of_type recs at) in
        every_join MetNamed _ _
        (every_join MetNamed _ _
        (every_join MetNamed _ _
        (every_join MetNamed _ _
        (every_join MetNamed _ _
        (every_join MetNamed _ _
        (every_join MetNamed _ _
        (every_join MetNamed _ _ (extends_met at) (interfaces_met at))
        (every_flat MetNamed (met_field_row recs) _ (λ f c. field_row_met f)))
        (every_flat MetNamed (met_method_row recs) methods (λ m c. method_row_met m)))
        (constraints_met at (token_of TYPE_DEF (suc at.row))))
        (every_flat MetNamed (λ m. met_constraints recs m (token_of METHOD_DEF (suc m.row))) methods (λ m c. constraints_met m (token_of METHOD_DEF (suc m.row)))))
        (every_flat MetNamed (met_property_row recs) _ (λ p c. property_row_met p)))
        (every_flat MetNamed (met_event_row recs) _ (λ e c. event_row_met e)))
        (impls_met at)

    by_types : Every MetNamed (met_by_types recs kept)
    unfolding met_by_types
    by_types = every_flat MetNamed (met_in_type recs kept) (kept_types recs kept) (λ at c. type_met at)

  -- ---- what attributes meet

  module _ (named : Every Named recs) where
    absent_named : (a : ℕ) (rec : AsmRec) (row : MemberRefRow) (k : MethodKey) → IsText row.name → absent_constructor recs a rec row ≡ Some k → KeyNamed k
    absent_named a rec row k text e =
        let p = and_then_some (λ p. option_map (λ s. absent_method p row.name (world_method_sig recs a rec s)) (good (ref_sig row))) (type_key recs a rec row.class) k e in
        let s = map_some (λ s. absent_method p.0 row.name (world_method_sig recs a rec s)) (good (ref_sig row)) k p.2 in
        subst KeyNamed s.2 text

    or_named : (o p : Option MethodKey) (k : MethodKey) → or_else o p ≡ Some k → ((x : MethodKey) → o ≡ Some x → KeyNamed x) → ((x : MethodKey) → p ≡ Some x → KeyNamed x) → KeyNamed k
    or_named None p k e g h = h k e
    or_named (Some x) p k e g h = g k e

    if_named : (b : Bool) (o : Option MethodKey) (k : MethodKey) → (if b then o else None) ≡ Some k → ((x : MethodKey) → o ≡ Some x → KeyNamed x) → KeyNamed k
    if_named true o k e h = h k e
    if_named false o k e h = absurd (cc)

    copied_named : (a : ℕ) (rec : AsmRec) (token : ℕ) (row : MemberRefRow) (k : MethodKey) → IsText row.name → copied_constructor recs a rec token row ≡ Some k → KeyNamed k
    copied_named a rec token row k text e =
        if_named (is_copied recs a rec row) (or_else (method_key recs a rec token) (absent_constructor recs a rec row)) k e
        (λ x f. or_named (method_key recs a rec token) (absent_constructor recs a rec row) x f (method_named_key recs a rec token) (λ y g. absent_named a rec row y text g))

    either_named : (b : Bool) (o p : Option MethodKey) (k : MethodKey) → (if b then o else p) ≡ Some k → ((x : MethodKey) → o ≡ Some x → KeyNamed x) → ((x : MethodKey) → p ≡ Some x → KeyNamed x) → KeyNamed k
    either_named true o p k e g h = g k e
    either_named false o p k e g h = h k e

    constructor_named : (a : ℕ) (rec : AsmRec) (token : ℕ) (k : MethodKey) → Named rec → constructor_key recs a rec token ≡ Some k → KeyNamed k
    unfolding constructor_key
    constructor_named a rec token k own e =
        let other : Option MemberRefRow = option_and_then (slice_get rec.member_ref) (index_in MEMBER_REF token) in
        either_named (is_in_input recs a rec token) (method_key recs a rec token) (option_and_then (copied_constructor recs a rec token) other) k e (method_named_key recs a rec token)
        (λ x f.
        let r = and_then_some (copied_constructor recs a rec token) other x f in
        let p = and_then_some (slice_get rec.member_ref) (index_in MEMBER_REF token) r.0 r.1 in
        copied_named a rec token r.0 x (own.members r.0 (place_in rec.member_ref p.0 r.0 p.2)) r.2)

    attribute_named : (kept : Kept) (x : Attribute) → Contains (kept_attributes recs kept) x → KeyNamed x.ctor
    unfolding kept_attributes
    attribute_named kept x c =
        let r = from_all (λ rec. rec.custom_attribute) (attribute_in recs kept) recs x (sorted_in (λ (y : Attribute). coded_of HasCustomAttribute y.parent) (all_rows (λ rec. rec.custom_attribute) (attribute_in recs kept) recs) x c) in
        let own : Named r.rec = named r.rec (place_in recs r.asm r.rec r.input.there) in
        every_flat (λ (y : Attribute). KeyNamed y.ctor) (λ parent. map (attribute_with r.row.value parent) (listed (constructor_key recs r.asm r.rec r.row.ctor))) (listed (kept_row_token recs kept r.asm r.row.parent))
        (λ parent d. every_map (λ (y : Attribute). KeyNamed y.ctor) (attribute_with r.row.value parent) (listed (constructor_key recs r.asm r.rec r.row.ctor))
        (every_listed KeyNamed (constructor_key recs r.asm r.rec r.row.ctor) (λ k e. constructor_named r.asm r.rec r.row.ctor k own e))) x r.inside

    by_attributes : (kept : Kept) → Every MetNamed (met_by_attributes recs kept)
    unfolding met_by_attributes
    by_attributes kept = every_map MetNamed (λ (x : Attribute). met_method x.ctor) (kept_attributes recs kept) (attribute_named kept)

    pub all_named : (kept : Kept) → Every MetNamed (output_of recs kept).mets
    unfolding output_of
    all_named kept = every_join MetNamed (met_by_types recs kept) (met_by_attributes recs kept) (by_types kept) (by_attributes kept)

-- ---- MemberRef rows

abbrev pub MemberNamed : MemberKey → Type 0
MemberNamed (a_method m e) = Unit {0}
MemberNamed (a_field f e) = Unit {0}
MemberNamed (an_absent p name s) = IsText name

of_method : (m : MethodKey) → KeyNamed m → Every MemberNamed (member_of_method m)
of_method (own_method m) h = every_none MemberNamed
of_method (found_method m e) h = every_one MemberNamed (a_method m e) tt
of_method (absent_method p name s) h = every_one MemberNamed (an_absent p name s) h

of_field : (f : FieldKey) → Every MemberNamed (member_of_field f)
of_field (own_field f) = every_none MemberNamed
of_field (found_field f e) = every_one MemberNamed (a_field f e) tt

of_met : (m : Met) → MetNamed m → Every MemberNamed (members_of_met m)
of_met (met_type k) h = every_none MemberNamed
of_met (met_sig s) h = every_none MemberNamed
of_met (met_method m) h = of_method m h
of_met (met_field f) h = of_field f
of_met (met_instance i) h = of_method i.method h
of_met (met_locals ss) h = every_none MemberNamed

pub members_named : (mets : List Met) → Every MetNamed mets → Every MemberNamed (member_refs mets)
unfolding member_refs
members_named mets h = every_once MemberNamed same_member [] (flat_map members_of_met mets) (every_none MemberNamed) (every_flat MemberNamed members_of_met mets (λ m c. of_met m (h m c)))
