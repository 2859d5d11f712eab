-- What the output refers to has its shape: tokens of kept rows and of attributes lead to rows of records that have spellings, and owners
-- have at most 64 levels.
use Rattle.std.proofs.Common.{◌≡◌, ℕ, zero, suc, List, [], ◌∷◌, ◌++◌, map, Bool, true, false, Option, Some, None, refl, ap, subst}
use Rattle.std.specs.Prelude.{slice_get, ◌==◌, ◌||◌, if◌then◌else◌}
use Rattle.std.specs.List.{Contains, flat_map, filter}
use Rattle.std.specs.Option.{option_map, option_and_then}
use Rattle.il_base.specs.declared.sig.Sig.{Sig}
use Rattle.il_base.specs.declared.sig.MethodSig.{MethodSig}
use Rattle.il_base.specs.declared.body.Body.{Body}
use Rattle.il_base.specs.declared.body.Form.{Form}
use Rattle.il_base.specs.declared.body.Form.TheVariants as form
use Rattle.il_base.specs.declared.body.Operand.{Operand}
use Rattle.il_base.specs.declared.body.Operand.TheVariants as operand
use Rattle.il_base.specs.declared.body.Instr.{Instr}
use Rattle.il_base.specs.declared.body.Handler.{Handler}
use Rattle.il_base.specs.declared.table.TheConstants as table
use Rattle.il_base.specs.blob_grammar.Signatures.{levels}
use Rattle.il_base.specs.declared.world_model.known.Known.{Known}
use Rattle.il_base.specs.declared.world_model.known.Known.TheVariants.{Good, Bad}
use Rattle.il_base.specs.declared.world_model.known.BadKind.TheVariants.{Unresolved}
use Rattle.il_base.specs.declared.world_model.expr.MemberSig.{MemberSig}
use Rattle.il_base.specs.declared.world_model.expr.MemberSig.TheVariants as member
use Rattle.il_base.specs.declared.world_model.expr.MethodUse.{MethodUse}
use Rattle.il_base.specs.declared.world_model.expr.FieldUse.{FieldUse}
use Rattle.il_base.specs.declared.world_model.types.TypeDefRow.{TypeDefRow}
use Rattle.il_base.specs.declared.world_model.types.TypeSpecRow.{TypeSpecRow}
use Rattle.il_base.specs.declared.world_model.types.InterfaceImplRow.{InterfaceImplRow}
use Rattle.il_base.specs.declared.world_model.types.GenericParamRow.{GenericParamRow}
use Rattle.il_base.specs.declared.world_model.types.GenericParamConstraintRow.{GenericParamConstraintRow}
use Rattle.il_base.specs.declared.world_model.members.FieldRow.{FieldRow}
use Rattle.il_base.specs.declared.world_model.members.MethodDefRow.{MethodDefRow}
use Rattle.il_base.specs.declared.world_model.members.MemberRefRow.{MemberRefRow}
use Rattle.il_base.specs.declared.world_model.members.MethodImplRow.{MethodImplRow}
use Rattle.il_base.specs.declared.world_model.members.MethodSpecRow.{MethodSpecRow}
use Rattle.il_base.specs.declared.world_model.members.PropertyRow.{PropertyRow}
use Rattle.il_base.specs.declared.world_model.members.EventRow.{EventRow}
use Rattle.il_base.specs.declared.world_model.members.StandAloneSigRow.{StandAloneSigRow}
use Rattle.il_base.specs.declared.world_model.record.AsmRec.{AsmRec}
use Rattle.il_base.specs.world_model.Tokens.{token_of, table_of, index_in}
use Rattle.il_base.specs.world_model.Worlds.{known_then}
use Rattle.il_base.specs.declared.cli_format.column.CodedIndex.TheVariants.{HasCustomAttribute}
use Rattle.il_base.specs.cli_format.Tokens.{coded_of}
use Rattle.rules.specs.declared.link_rules.row_at.RowAt.{RowAt}
use Rattle.rules.specs.link_rules.Types.{or_else}
use Rattle.rules.specs.link_rules.Cycles.{listed}
use Rattle.rules.specs.type_rules.Rows.{rec_at, each_row, methods_of_type, fields_of_type}
use Rattle.rules.specs.mark_rules.Attributes.{ref_sig}
use Rattle.rules.specs.mark_rules.Bodies.{body_of, is_field_token, is_method_token, is_catch}
use Rattle.rules.specs.mark_rules.Members.{properties_of_type, events_of_type}
use Rattle.rules.specs.mark_rules.Naming.{method_named, field_named}
use Rattle.rules.specs.mark_rules.Places.{method_item, field_item, prop_item, event_item}
use Rattle.rules.specs.merge_rules.Numbers.{Kept, kept_types}
use Rattle.rules.specs.merge_rules.Keys.{TypeKey, named, spec, numbered_key, spec_key, type_key, class_number, MethodKey, own_method, found_method, absent_method, FieldKey, own_field, found_field, InstanceKey, is_plain_owner, method_key_of, field_key_of, good, method_key, field_key, instance_by, instance_key, world_sig, world_sigs, world_method_sig}
use Rattle.rules.specs.merge_rules.Order.{Met, met_type, met_sig, met_method, met_field, met_instance, met_locals, met_types, met_token, met_good_sig, met_method_sig, met_callee, met_field_token, met_any, met_by_form, met_operand, met_locals_row, met_locals_token, met_body, met_method_row, met_field_row, met_property_row, met_event_row, met_constraint, met_param, met_constraints, is_impl_of, met_impls, met_extends, met_interface, met_interfaces, those, met_in_type, met_by_types}
use Rattle.rules.specs.merge_rules.Rows.{all_rows, kept_row_token}
use Rattle.rules.specs.merge_rules.Attributes.{is_copied, is_in_input, absent_constructor, copied_constructor, constructor_key, Attribute, attribute_with, attribute_in, kept_attributes, met_by_attributes}
use Rattle.rules.specs.merge_rules.Restricted.{output_of}
use Rattle.merge_laws.proofs.lemmas.merged_record.Lists.{and_then_some, map_some, from_all}
use Rattle.merge_laws.proofs.lemmas.merged_record.Sorting.{sorted_in}
use Rattle.trim_laws.specs.spelled_parts.Laws.{FewParams}
use Rattle.trim_laws.proofs.lemmas.spelled_parts.Lists.{Every, all_none, all_join, all_either, all_flat, all_option, all_map, all_listed, all_each}
use Rattle.trim_laws.proofs.lemmas.spelled_parts.Shapes.{Shape, RowShape, MethodShape}
use Rattle.trim_laws.proofs.lemmas.spelled_parts.Retokened.{world_shape, world_row_shape, world_method_shape}
use Rattle.trim_laws.proofs.lemmas.spelled_parts.Recs.{IfGood, MemberShape, HasShapes}
use Rattle.trim_laws.proofs.lemmas.spelled_parts.Owners.{IsOwner, method_owner, field_owner}

-- ---- shapes of what is met

abbrev pub KeyShape : TypeKey → Type 0
KeyShape (named t) = Unit {0}
KeyShape (spec s) = Shape levels s

abbrev pub MethodKeyShape : MethodKey → Type 0
MethodKeyShape (own_method m) = Unit {0}
MethodKeyShape (found_method m e) = IsOwner e
MethodKeyShape (absent_method p name s) = KeyShape p × MethodShape s

abbrev pub FieldKeyShape : FieldKey → Type 0
FieldKeyShape (own_field f) = Unit {0}
FieldKeyShape (found_field f e) = IsOwner e

abbrev pub InstanceShape : InstanceKey → Type 0
InstanceShape i = MethodKeyShape i.method × RowShape i.args

abbrev pub MetShape : Met → Type 0
MetShape (met_type k) = KeyShape k
MetShape (met_sig s) = Unit {0}
MetShape (met_method k) = MethodKeyShape k
MetShape (met_field k) = FieldKeyShape k
MetShape (met_instance i) = InstanceShape i
MetShape (met_locals ss) = RowShape ss

abbrev pub HaveShapes : List AsmRec → Type 0
HaveShapes recs = (a : ℕ) (rec : AsmRec) → slice_get recs a ≡ Some rec → HasShapes rec

good_is : {A : Type 0} (x : Known A) (y : A) → good x ≡ Some y → x ≡ Good y
good_is (Good z) y e = let same : z ≡ y = cc in ap Good same
good_is (Bad why) y e = absurd (cc)

if_good : {A : Type 0} (P : A → Type 0) (k : Known A) (x : A) → IfGood P k → k ≡ Good x → P x
if_good P (Good y) x h e = let same : y ≡ x = cc in subst P same h
if_good P (Bad why) x h e = absurd (cc)

module _ (recs : List AsmRec) (shapes : HaveShapes recs) (few : FewParams recs) where
  abbrev All : List Met → Type 0
  All ms = Every MetShape ms

  specs_shape : (a : ℕ) (rec : AsmRec) (k : ℕ) (row : TypeSpecRow) (s : Sig) → slice_get recs a ≡ Some rec → slice_get rec.type_spec k ≡ Some row → row.signature ≡ Good s → Shape levels s
  specs_shape a rec k row s there is e = if_good (Shape levels) row.signature s ((shapes a rec there).types k row is) e

  module _ (a : ℕ) (rec : AsmRec) (there : slice_get recs a ≡ Some rec) where
    own : HasShapes rec
    own = shapes a rec there

    -- ---- types

    abbrev good_key : Known Sig → Option TypeKey
    good_key (Good s) = Some (spec (world_sig recs a rec s))
    good_key (Bad why) = None

    good_shape : (s : Known Sig) (k : TypeKey) → IfGood (Shape levels) s → good_key s ≡ Some k → KeyShape k
    good_shape (Good s) k h e = let same : spec (world_sig recs a rec s) ≡ k = cc in subst KeyShape same (world_shape recs a rec levels s h)
    good_shape (Bad why) k h e = absurd (cc)

    spec_shape : (o : Option TypeSpecRow) (k : TypeKey) → ((row : TypeSpecRow) → o ≡ Some row → IfGood (Shape levels) row.signature) → spec_key recs a rec o ≡ Some k → KeyShape k
    spec_shape None k h e = absurd (cc)
    spec_shape (Some row) k h e = good_shape row.signature k (h row refl) e

    numbered_shape : (n : ℕ) (k : TypeKey) → numbered_key n ≡ Some k → KeyShape k
    numbered_shape zero k e = absurd (cc)
    numbered_shape (suc t) k e = let same : named (record { 0 = t }) ≡ k = cc in subst KeyShape same tt

    spec_row : (token : ℕ) (row : TypeSpecRow) → option_and_then (slice_get rec.type_spec) (index_in table.TYPE_SPEC token) ≡ Some row → IfGood (Shape levels) row.signature
    spec_row token row e = let m = and_then_some (slice_get rec.type_spec) (index_in table.TYPE_SPEC token) row e in own.types m.0 row m.2

    key_by : (token : ℕ) (k : TypeKey) (b : Bool)
        → (if b then spec_key recs a rec (option_and_then (slice_get rec.type_spec) (index_in table.TYPE_SPEC token)) else numbered_key (class_number recs a rec token)) ≡ Some k → KeyShape k
    key_by token k true e = spec_shape (option_and_then (slice_get rec.type_spec) (index_in table.TYPE_SPEC token)) k (spec_row token) e
    key_by token k false e = numbered_shape (class_number recs a rec token) k e

    key_shape : (token : ℕ) (k : TypeKey) → type_key recs a rec token ≡ Some k → KeyShape k
    unfolding type_key
    key_shape token k e = key_by token k (table_of token == table.TYPE_SPEC) e

    types_shape : (token : ℕ) → All (met_types (type_key recs a rec token))
    types_shape token = all_listed MetShape met_type (type_key recs a rec token) (key_shape token)

    token_shape : (token : ℕ) → All (met_token recs a rec token)
    token_shape token = all_either MetShape (token == 0) [] (met_types (type_key recs a rec token)) (all_none MetShape) (types_shape token)

    -- ---- members

    method_if : (b : Bool) (u : MethodUse) → IsOwner u.owner → MethodKeyShape (if b then own_method u.method else found_method u.method u.owner)
    method_if true u h = tt
    method_if false u h = h

    method_shape : (token : ℕ) (m : MethodKey) → method_key recs a rec token ≡ Some m → MethodKeyShape m
    unfolding method_key
    method_shape token m e =
        let k = map_some (method_key_of recs (table_of token == table.METHOD_DEF)) (good (method_named recs a rec token)) m e in
        subst MethodKeyShape k.2
        (method_if (table_of token == table.METHOD_DEF || is_plain_owner recs k.0.owner) k.0 (method_owner recs specs_shape few a rec there token k.0 (good_is (method_named recs a rec token) k.0 k.1)))

    field_if : (b : Bool) (u : FieldUse) → IsOwner u.owner → FieldKeyShape (if b then own_field u.field else found_field u.field u.owner)
    field_if true u h = tt
    field_if false u h = h

    field_shape : (token : ℕ) (f : FieldKey) → field_key recs a rec token ≡ Some f → FieldKeyShape f
    unfolding field_key
    field_shape token f e =
        let k = map_some (field_key_of recs (table_of token == table.FIELD)) (good (field_named recs a rec token)) f e in
        subst FieldKeyShape k.2
        (field_if (table_of token == table.FIELD || is_plain_owner recs k.0.owner) k.0 (field_owner recs specs_shape few a rec there token k.0 (good_is (field_named recs a rec token) k.0 k.1)))

    instance_row : (k : ℕ) (row : MethodSpecRow) (i : InstanceKey) → slice_get rec.method_spec k ≡ Some row → instance_by recs a rec row ≡ Some i → InstanceShape i
    instance_row k row i is e =
        let m = and_then_some (λ m. option_map (λ (args : List Sig). record { method = m; args = world_sigs recs a rec args }) (good row.instantiation)) (method_key recs a rec row.method) i e in
        let n = map_some (λ (args : List Sig). record { method = m.0; args = world_sigs recs a rec args }) (good row.instantiation) i m.2 in
        subst InstanceShape n.2
        (method_shape row.method m.0 m.1, world_row_shape recs a rec n.0 (if_good RowShape row.instantiation n.0 (own.instances k row is) (good_is row.instantiation n.0 n.1)))

    instance_shape : (token : ℕ) (i : InstanceKey) → instance_key recs a rec token ≡ Some i → InstanceShape i
    unfolding instance_key
    instance_shape token i e =
        let r = and_then_some (instance_by recs a rec) (option_and_then (slice_get rec.method_spec) (index_in table.METHOD_SPEC token)) i e in
        let k = and_then_some (slice_get rec.method_spec) (index_in table.METHOD_SPEC token) r.0 r.1 in
        instance_row k.0 r.0 i k.2 r.2

    callee_shape : (token : ℕ) → All (met_callee recs a rec token)
    callee_shape token =
        all_either MetShape (table_of token == table.METHOD_SPEC) (map met_instance (listed (instance_key recs a rec token))) (map met_method (listed (method_key recs a rec token)))
        (all_listed MetShape met_instance (instance_key recs a rec token) (instance_shape token)) (all_listed MetShape met_method (method_key recs a rec token) (method_shape token))

    field_token_shape : (token : ℕ) → All (met_field_token recs a rec token)
    field_token_shape token = all_listed MetShape met_field (field_key recs a rec token) (field_shape token)

    -- ---- signatures

    sig_shape : (s : Known Sig) → All (met_good_sig recs a rec s)
    sig_shape s = all_map MetShape (λ x. met_sig (world_sig recs a rec x)) (listed (good s)) (λ x c. tt)

    method_sig_shape : (s : Known MethodSig) → All (met_method_sig recs a rec s)
    method_sig_shape s =
        all_flat MetShape (λ (m : MethodSig). map met_sig (world_sigs recs a rec (m.ret ∷ m.params))) (listed (good s))
        (λ m c. all_map MetShape met_sig (world_sigs recs a rec (m.ret ∷ m.params)) (λ x d. tt))

    -- ---- bodies

    any_shape : (token : ℕ) → All (met_any recs a rec token)
    any_shape token =
        all_either MetShape (is_field_token rec token) (met_field_token recs a rec token) _ (field_token_shape token)
        (all_either MetShape (is_method_token token) (met_callee recs a rec token) (met_token recs a rec token) (callee_shape token) (token_shape token))

    form_shape : (f : Form) (token : ℕ) → All (met_by_form recs a rec f token)
    form_shape form.Call token = callee_shape token
    form_shape form.NewObj token = callee_shape token
    form_shape form.Field token = field_token_shape token
    form_shape form.LdStr token = all_none MetShape
    form_shape form.LdToken token = any_shape token
    form_shape _ token = token_shape token

    operand_shape : (f : Form) (x : Operand) → All (met_operand recs a rec f x)
    operand_shape f (operand.Token token) = form_shape f token
    operand_shape f _ = all_none MetShape

    locals_shape : (row : StandAloneSigRow) → IfGood RowShape row.signature → All (met_locals_row recs a rec row)
    locals_shape row h =
        all_listed MetShape (λ ss. met_locals (world_sigs recs a rec ss)) (good row.signature)
        (λ ss e. world_row_shape recs a rec ss (if_good RowShape row.signature ss h (good_is row.signature ss e)))

    locals_token_shape : (token : ℕ) → All (met_locals_token recs a rec token)
    locals_token_shape token =
        all_option MetShape (met_locals_row recs a rec) (option_and_then (slice_get rec.stand_alone_sig) (index_in table.STAND_ALONE_SIG token))
        (λ row e. let m = and_then_some (slice_get rec.stand_alone_sig) (index_in table.STAND_ALONE_SIG token) row e in locals_shape row (own.locals m.0 row m.2))

    body_shape : (b : Body) → All (met_body recs a rec b)
    body_shape b =
        let code : List Met = flat_map (λ (i : Instr). met_operand recs a rec i.form i.operand) b.code in
        let handlers : List Met = flat_map (λ (h : Handler). if is_catch h then met_token recs a rec h.token else []) b.handlers in
        let locals : List Met = met_locals_token recs a rec b.locals in
        all_join MetShape (locals ++ code) handlers
        (all_join MetShape locals code (locals_token_shape b.locals) (all_flat MetShape (λ (i : Instr). met_operand recs a rec i.form i.operand) b.code (λ i c. operand_shape i.form i.operand)))
        (all_flat MetShape (λ (h : Handler). if is_catch h then met_token recs a rec h.token else []) b.handlers
        (λ h c. all_either MetShape (is_catch h) (met_token recs a rec h.token) [] (token_shape h.token) (all_none MetShape)))

    -- ---- attributes

    abbrev method_part : MemberSig → Known MethodSig
    method_part (member.Method s) = Good s
    method_part (member.Field s) = Bad Unresolved

    ref_by : (k : Known MemberSig) (s : MethodSig) → IfGood MemberShape k → good (known_then method_part k) ≡ Some s → MethodShape s
    ref_by (Good (member.Method x)) s h e = let same : x ≡ s = cc in subst MethodShape same h
    ref_by (Good (member.Field x)) s h e = absurd (cc)
    ref_by (Bad why) s h e = absurd (cc)

    absent_shape : (row : MemberRefRow) (m : MethodKey) → IfGood MemberShape row.signature → absent_constructor recs a rec row ≡ Some m → MethodKeyShape m
    absent_shape row m h e =
        let p = and_then_some (λ p. option_map (λ s. absent_method p row.name (world_method_sig recs a rec s)) (good (ref_sig row))) (type_key recs a rec row.class) m e in
        let q = map_some (λ s. absent_method p.0 row.name (world_method_sig recs a rec s)) (good (ref_sig row)) m p.2 in
        subst MethodKeyShape q.2 (key_shape row.class p.0 p.1, world_method_shape recs a rec q.0 (ref_by row.signature q.0 h q.1))

    or_shape : (row : MemberRefRow) (m : MethodKey) (token : ℕ) (o : Option MethodKey) → method_key recs a rec token ≡ o → IfGood MemberShape row.signature → or_else o (absent_constructor recs a rec row) ≡ Some m → MethodKeyShape m
    or_shape row m token (Some k) f h e = let same : k ≡ m = cc in subst MethodKeyShape same (method_shape token k f)
    or_shape row m token None f h e = absent_shape row m h e

    copied_by : (row : MemberRefRow) (m : MethodKey) (token : ℕ) (b : Bool) → IfGood MemberShape row.signature
        → (if b then or_else (method_key recs a rec token) (absent_constructor recs a rec row) else None) ≡ Some m → MethodKeyShape m
    copied_by row m token true h e = or_shape row m token (method_key recs a rec token) refl h e
    copied_by row m token false h e = absurd (cc)

    constructor_by : (token : ℕ) (m : MethodKey) (b : Bool)
        → (if b then method_key recs a rec token else option_and_then (copied_constructor recs a rec token) (option_and_then (slice_get rec.member_ref) (index_in table.MEMBER_REF token))) ≡ Some m → MethodKeyShape m
    constructor_by token m true e = method_shape token m e
    constructor_by token m false e =
        let r = and_then_some (copied_constructor recs a rec token) (option_and_then (slice_get rec.member_ref) (index_in table.MEMBER_REF token)) m e in
        let k = and_then_some (slice_get rec.member_ref) (index_in table.MEMBER_REF token) r.0 r.1 in
        copied_by r.0 m token (is_copied recs a rec r.0) (own.members k.0 r.0 k.2) r.2

    constructor_shape : (token : ℕ) (m : MethodKey) → constructor_key recs a rec token ≡ Some m → MethodKeyShape m
    unfolding constructor_key
    constructor_shape token m e = constructor_by token m (is_in_input recs a rec token) e

  -- ---- rows of members

  method_row : (at : RowAt) → All (met_method_row recs at)
  method_row at =
      all_option MetShape (λ (rec : AsmRec). flat_map (λ (m : MethodDefRow). met_method_sig recs at.asm rec m.signature ++ flat_map (met_body recs at.asm rec) (body_of m)) (listed (slice_get rec.method_def at.row))) (rec_at recs at)
      (λ rec there.
      all_option MetShape (λ (m : MethodDefRow). met_method_sig recs at.asm rec m.signature ++ flat_map (met_body recs at.asm rec) (body_of m)) (slice_get rec.method_def at.row)
      (λ m is.
      all_join MetShape (met_method_sig recs at.asm rec m.signature) (flat_map (met_body recs at.asm rec) (body_of m)) (method_sig_shape at.asm rec there m.signature)
      (all_flat MetShape (met_body recs at.asm rec) (body_of m) (λ b c. body_shape at.asm rec there b))))

  field_row : (at : RowAt) → All (met_field_row recs at)
  field_row at =
      all_option MetShape (λ (rec : AsmRec). flat_map (λ (f : FieldRow). met_good_sig recs at.asm rec f.signature) (listed (slice_get rec.field at.row))) (rec_at recs at)
      (λ rec there. all_option MetShape (λ (f : FieldRow). met_good_sig recs at.asm rec f.signature) (slice_get rec.field at.row) (λ f is. sig_shape at.asm rec there f.signature))

  property_row : (at : RowAt) → All (met_property_row recs at)
  property_row at =
      all_option MetShape (λ (rec : AsmRec). flat_map (λ (p : PropertyRow). met_method_sig recs at.asm rec p.signature) (listed (slice_get rec.property at.row))) (rec_at recs at)
      (λ rec there. all_option MetShape (λ (p : PropertyRow). met_method_sig recs at.asm rec p.signature) (slice_get rec.property at.row) (λ p is. method_sig_shape at.asm rec there p.signature))

  event_row : (at : RowAt) → All (met_event_row recs at)
  event_row at =
      all_option MetShape (λ (rec : AsmRec). flat_map (λ (x : EventRow). met_token recs at.asm rec x.event_type) (listed (slice_get rec.event at.row))) (rec_at recs at)
      (λ rec there. all_option MetShape (λ (x : EventRow). met_token recs at.asm rec x.event_type) (slice_get rec.event at.row) (λ x is. token_shape at.asm rec there x.event_type))

  -- ---- rows of types

  constraints : (at : RowAt) (owner : ℕ) → All (met_constraints recs at owner)
  constraints at owner =
      all_option MetShape (λ (rec : AsmRec). each_row (met_param recs at.asm rec owner) rec.generic_param) (rec_at recs at)
      (λ rec there.
      all_each MetShape (met_param recs at.asm rec owner) rec.generic_param
      (λ k (row : GenericParamRow) is.
      all_either MetShape (row.owner == owner) (flat_map (met_constraint recs at.asm rec (token_of table.GENERIC_PARAM (suc k))) rec.generic_param_constraint) []
      (all_flat MetShape (met_constraint recs at.asm rec (token_of table.GENERIC_PARAM (suc k))) rec.generic_param_constraint
      (λ (c : GenericParamConstraintRow) d.
      all_either MetShape (c.owner == token_of table.GENERIC_PARAM (suc k)) (met_token recs at.asm rec c.constraint) [] (token_shape at.asm rec there c.constraint) (all_none MetShape)))
      (all_none MetShape)))

  extends : (at : RowAt) → All (met_extends recs at)
  extends at =
      all_option MetShape (λ (rec : AsmRec). flat_map (λ (t : TypeDefRow). met_token recs at.asm rec t.extends) (listed (slice_get rec.type_def at.row))) (rec_at recs at)
      (λ rec there. all_option MetShape (λ (t : TypeDefRow). met_token recs at.asm rec t.extends) (slice_get rec.type_def at.row) (λ t is. token_shape at.asm rec there t.extends))

  module _ (kept : Kept) where
    interfaces : (at : RowAt) → All (met_interfaces recs kept at)
    interfaces at =
        all_option MetShape (λ (rec : AsmRec). each_row (met_interface recs kept at rec) rec.interface_impl) (rec_at recs at)
        (λ rec there.
        all_each MetShape (met_interface recs kept at rec) rec.interface_impl
        (λ k (row : InterfaceImplRow) is. all_either MetShape _ (met_token recs at.asm rec row.interface) [] (token_shape at.asm rec there row.interface) (all_none MetShape)))

    impls : (at : RowAt) → All (met_impls recs kept at)
    impls at =
        all_option MetShape (λ (rec : AsmRec). flat_map (λ (row : MethodImplRow). met_callee recs at.asm rec row.body ++ met_callee recs at.asm rec row.declaration) (filter (is_impl_of recs kept at rec) rec.method_impl)) (rec_at recs at)
        (λ rec there.
        all_flat MetShape (λ (row : MethodImplRow). met_callee recs at.asm rec row.body ++ met_callee recs at.asm rec row.declaration) (filter (is_impl_of recs kept at rec) rec.method_impl)
        (λ row c. all_join MetShape (met_callee recs at.asm rec row.body) (met_callee recs at.asm rec row.declaration) (callee_shape at.asm rec there row.body) (callee_shape at.asm rec there row.declaration)))

    type_rows : (at : RowAt) → All (met_in_type recs kept at)
    type_rows at =
        let methods : List RowAt = those recs kept (method_item recs) (methods_of_type recs at) in
        let fields : List RowAt = those recs kept (field_item recs) (fields_of_type recs at) in
        let properties : List RowAt = those recs kept (prop_item recs) (properties_of_type recs at) in
        let events : List RowAt = those recs kept (event_item recs) (events_of_type recs at) in
        let base : List Met = met_extends recs at in
        let faces : List Met = met_interfaces recs kept at in
        let in_fields : List Met = flat_map (met_field_row recs) fields in
        let in_methods : List Met = flat_map (met_method_row recs) methods in
        let own_params : List Met = met_constraints recs at (token_of table.TYPE_DEF (suc at.row)) in
        let of_methods : List Met = flat_map (λ m. met_constraints recs m (token_of table.METHOD_DEF (suc m.row))) methods in
        let in_properties : List Met = flat_map (met_property_row recs) properties in
        let in_events : List Met = flat_map (met_event_row recs) events in
        let two = all_join MetShape base faces (extends at) (interfaces at) in
        let three = all_join MetShape (base ++ faces) in_fields two (all_flat MetShape (met_field_row recs) fields (λ f c. field_row f)) in
        let four = all_join MetShape (base ++ faces ++ in_fields) in_methods three (all_flat MetShape (met_method_row recs) methods (λ m c. method_row m)) in
        let five = all_join MetShape (base ++ faces ++ in_fields ++ in_methods) own_params four (constraints at (token_of table.TYPE_DEF (suc at.row))) in
        let six = all_join MetShape (base ++ faces ++ in_fields ++ in_methods ++ own_params) of_methods five
        (all_flat MetShape (λ m. met_constraints recs m (token_of table.METHOD_DEF (suc m.row))) methods (λ m c. constraints m (token_of table.METHOD_DEF (suc m.row)))) in
        let seven = all_join MetShape (base ++ faces ++ in_fields ++ in_methods ++ own_params ++ of_methods) in_properties six (all_flat MetShape (met_property_row recs) properties (λ p c. property_row p)) in
        let eight = all_join MetShape (base ++ faces ++ in_fields ++ in_methods ++ own_params ++ of_methods ++ in_properties) in_events seven (all_flat MetShape (met_event_row recs) events (λ e c. event_row e)) in
        all_join MetShape (base ++ faces ++ in_fields ++ in_methods ++ own_params ++ of_methods ++ in_properties ++ in_events) (met_impls recs kept at) eight (impls at)

    by_types : All (met_by_types recs kept)
    unfolding met_by_types
    by_types = all_flat MetShape (met_in_type recs kept) (kept_types recs kept) (λ at c. type_rows at)

    attribute : (x : Attribute) → Contains (kept_attributes recs kept) x → MethodKeyShape x.ctor
    unfolding kept_attributes
    attribute x c =
        let r = from_all (λ rec. rec.custom_attribute) (attribute_in recs kept) recs x (sorted_in (λ (y : Attribute). coded_of HasCustomAttribute y.parent) (all_rows (λ rec. rec.custom_attribute) (attribute_in recs kept) recs) x c) in
        let Q : Attribute → Type 0 = λ y. MethodKeyShape y.ctor in
        (all_flat Q (λ parent. map (attribute_with r.row.value parent) (listed (constructor_key recs r.asm r.rec r.row.ctor))) (listed (kept_row_token recs kept r.asm r.row.parent))
        (λ parent d. all_listed Q (attribute_with r.row.value parent) (constructor_key recs r.asm r.rec r.row.ctor) (constructor_shape r.asm r.rec r.input.there r.row.ctor))).each x r.inside

    by_attributes : All (met_by_attributes recs kept)
    unfolding met_by_attributes
    by_attributes = all_map MetShape (λ (x : Attribute). met_method x.ctor) (kept_attributes recs kept) attribute

    pub mets_shape : All (output_of recs kept).mets
    unfolding output_of
    mets_shape = all_join MetShape (met_by_types recs kept) (met_by_attributes recs kept) by_types by_attributes
