-- What is so of each thing that kept rows and attributes of inputs meet, by where it is met.
use Rattle.std.proofs.Common.{◌≡◌, ◌<◌, ℕ, suc, List, [], ◌∷◌, ◌++◌, length, map, Bool, true, false, Option, Some, None, refl, ap, subst, arith}
use Rattle.std.specs.Prelude.{slice_get, ◌==◌, ◌&&◌, if◌then◌else◌}
use Rattle.std.specs.List.{Contains, flat_map, filter, list_any, range_with_len}
use Rattle.std.specs.Option.{option_and_then, option_map}
use Rattle.std.proofs.lemmas.Bool.{eqb-true}
use Rattle.il_base.specs.declared.ids.Item.{Item}
use Rattle.il_base.specs.declared.sig.Sig.{Sig}
use Rattle.il_base.specs.declared.sig.MethodSig.{MethodSig}
use Rattle.il_base.specs.declared.body.Form.{Form}
use Rattle.il_base.specs.declared.body.Form.TheVariants as form
use Rattle.il_base.specs.declared.body.Operand.{Operand}
use Rattle.il_base.specs.declared.body.Operand.TheVariants as operand
use Rattle.il_base.specs.declared.body.Instr.{Instr}
use Rattle.il_base.specs.declared.body.Handler.{Handler}
use Rattle.il_base.specs.declared.body.Body.{Body}
use Rattle.il_base.specs.declared.table.TheConstants as table
use Rattle.il_base.specs.declared.cli_format.column.CodedIndex.TheVariants.{HasCustomAttribute, MethodDefOrRef, CustomAttributeType}
use Rattle.il_base.specs.cli_format.Tokens.{coded_of}
use Rattle.il_base.specs.declared.world_model.known.Known.{Known}
use Rattle.il_base.specs.declared.world_model.known.Known.TheVariants.{Good, Bad}
use Rattle.il_base.specs.declared.world_model.types.TypeDefRow.{TypeDefRow}
use Rattle.il_base.specs.declared.world_model.types.InterfaceImplRow.{InterfaceImplRow}
use Rattle.il_base.specs.declared.world_model.types.GenericParamRow.{GenericParamRow}
use Rattle.il_base.specs.declared.world_model.types.GenericParamConstraintRow.{GenericParamConstraintRow}
use Rattle.il_base.specs.declared.world_model.members.FieldRow.{FieldRow}
use Rattle.il_base.specs.declared.world_model.members.MethodDefRow.{MethodDefRow}
use Rattle.il_base.specs.declared.world_model.members.MethodImplRow.{MethodImplRow}
use Rattle.il_base.specs.declared.world_model.members.MethodSpecRow.{MethodSpecRow}
use Rattle.il_base.specs.declared.world_model.members.MemberRefRow.{MemberRefRow}
use Rattle.il_base.specs.declared.world_model.members.PropertyRow.{PropertyRow}
use Rattle.il_base.specs.declared.world_model.members.EventRow.{EventRow}
use Rattle.il_base.specs.declared.world_model.record.AsmRec.{AsmRec}
use Rattle.il_base.specs.world_model.Tokens.{token_of, table_of, index_in}
use Rattle.il_base.specs.world_model.Records.{IsRecord}
use Rattle.rules.specs.declared.link_rules.row_at.RowAt.{RowAt}
use Rattle.rules.specs.link_rules.Types.{at_row, or_else}
use Rattle.rules.specs.link_rules.Cycles.{listed}
use Rattle.rules.specs.type_rules.Rows.{rec_at, each_row, run_places, methods_of_type, fields_of_type}
use Rattle.base_laws.proofs.lemmas.known_laws.Lists.{and_then_some, map_some}
use Rattle.rules.specs.mark_rules.Places.{method_item, field_item, prop_item, event_item, impl_item}
use Rattle.rules.specs.mark_rules.Attributes.{ref_sig}
use Rattle.rules.specs.mark_rules.Bodies.{body_of, is_field_token, is_method_token, is_catch}
use Rattle.rules.specs.mark_rules.Members.{property_places_by, properties_of_type, event_places_by, events_of_type}
use Rattle.il_base.specs.world_model.Worlds.{types_in}
use Rattle.rules.specs.merge_rules.Numbers.{Kept, inputs, rows_of_kind, kept_types}
use Rattle.rules.specs.mark_rules.Places.{type_item}
use Rattle.rules.specs.merge_rules.Keys.{TypeKey, MethodKey, FieldKey, absent_method, InstanceKey, good, world_sig, world_sigs, world_method_sig, type_key, method_key, field_key, instance_by, instance_key}
use Rattle.rules.specs.merge_rules.Order.{Met, met_type, met_sig, met_method, met_field, met_instance, met_locals, met_types, met_token, met_good_sig, met_method_sig, met_callee, met_field_token, met_any, met_by_form, met_operand, met_locals_row, met_locals_token, met_body, met_method_row, met_field_row, met_property_row, met_event_row, met_constraint, met_param, met_constraints, is_impl_of, met_impls, met_extends, met_interface, met_interfaces, those, met_in_type, met_by_types}
use Rattle.rules.specs.merge_rules.Attributes.{is_copied, is_in_input, absent_constructor, copied_constructor, constructor_key, Attribute, attribute_with, attribute_in, kept_attributes, met_by_attributes}
use Rattle.rules.specs.merge_rules.Rows.{all_rows, kept_row_token}
use Rattle.rules.specs.merge_rules.Restricted.{output_of}
use Rattle.merge_laws.specs.merged_record.Laws.{InputsAreRecords}
use Rattle.merge_laws.proofs.lemmas.merged_record.Lists.{from_filter, from_inputs, from_all}
use Rattle.merge_laws.proofs.lemmas.merged_record.Sorting.{sorted_in}
use Rattle.merge_laws.proofs.lemmas.merged_record.Tokens.{of_coded}
use Rattle.merge_laws.proofs.lemmas.merged_owners.Every.{Every, all_none, all_join, all_listed, all_if, all_either, all_filter, all_flat, all_option, all_map, all_each}

-- a token of MethodDef or MemberRef is none of MethodSpec
no_spec : (t : ℕ) → list_any (λ u. u == t) (table.METHOD_DEF ∷ table.MEMBER_REF ∷ []) ≡ true → (t == table.METHOD_SPEC) ≡ false
no_spec t h = by_test (t == table.METHOD_SPEC) refl
  where
    by_test : (b : Bool) → (t == table.METHOD_SPEC) ≡ b → (t == table.METHOD_SPEC) ≡ false
    by_test true e =
        let same : t ≡ table.METHOD_SPEC = eqb-true t table.METHOD_SPEC e in
        let bad : list_any (λ u. u == table.METHOD_SPEC) (table.METHOD_DEF ∷ table.MEMBER_REF ∷ []) ≡ true = subst (λ (n : ℕ). list_any (λ u. u == n) (table.METHOD_DEF ∷ table.MEMBER_REF ∷ []) ≡ true) same h in
        absurd (cc)
    by_test false e = e

-- an input with its number
pub record Source (recs : List AsmRec) (a : ℕ) (rec : AsmRec) : Type 0 where
  pub there : slice_get recs a ≡ Some rec
  pub input : suc a < length recs

-- what is so of each thing that kept rows and attributes of inputs meet
pub record Holds (recs : List AsmRec) (kept : Kept) (P : Met → Type 0) : Type 0 where
  pub types : (a : ℕ) (rec : AsmRec) (token : ℕ) (k : TypeKey) → Source recs a rec → type_key recs a rec token ≡ Some k → P (met_type k)
  -- signatures of kept fields, methods and properties
  pub field_sigs : (at : RowAt) (rec : AsmRec) (f : FieldRow) (s : Sig) → Source recs at.asm rec → slice_get rec.field at.row ≡ Some f → kept (field_item recs at) ≡ true → f.signature ≡ Good s
      → P (met_sig (world_sig recs at.asm rec s))
  pub method_sigs : (at : RowAt) (rec : AsmRec) (m : MethodDefRow) (g : MethodSig) (s : Sig) → Source recs at.asm rec → slice_get rec.method_def at.row ≡ Some m → kept (method_item recs at) ≡ true → m.signature ≡ Good g
      → Contains (g.ret ∷ g.params) s → P (met_sig (world_sig recs at.asm rec s))
  pub property_sigs : (at : RowAt) (rec : AsmRec) (p : PropertyRow) (g : MethodSig) (s : Sig) → Source recs at.asm rec → slice_get rec.property at.row ≡ Some p → kept (prop_item recs at) ≡ true → p.signature ≡ Good g
      → Contains (g.ret ∷ g.params) s → P (met_sig (world_sig recs at.asm rec s))
  pub locals : (a : ℕ) (rec : AsmRec) (ss : List Sig) → Source recs a rec → P (met_locals (world_sigs recs a rec ss))
  pub methods : (a : ℕ) (rec : AsmRec) (token : ℕ) (m : MethodKey) → Source recs a rec → (table_of token == table.METHOD_SPEC) ≡ false → method_key recs a rec token ≡ Some m → P (met_method m)
  pub fields : (a : ℕ) (rec : AsmRec) (token : ℕ) (f : FieldKey) → Source recs a rec → field_key recs a rec token ≡ Some f → P (met_field f)
  pub instances : (a : ℕ) (rec : AsmRec) (token : ℕ) (m : MethodKey) (args : List Sig) → Source recs a rec → (table_of token == table.METHOD_SPEC) ≡ false → method_key recs a rec token ≡ Some m
      → P (met_instance (record { method = m; args = world_sigs recs a rec args }))
  pub absents : (a : ℕ) (rec : AsmRec) (token : ℕ) (p : TypeKey) (name : List ℕ) (s : MethodSig) → Source recs a rec → type_key recs a rec token ≡ Some p → P (met_method (absent_method p name (world_method_sig recs a rec s)))

module _ (recs : List AsmRec) (kept : Kept) (P : Met → Type 0) (holds : Holds recs kept P) where
  abbrev All : List Met → Type 0
  All ms = Every P ms

  -- ---- types and signatures

  token_all : (a : ℕ) (rec : AsmRec) (token : ℕ) → Source recs a rec → All (met_token recs a rec token)
  token_all a rec token there =
      all_either P (token == 0) [] (met_types (type_key recs a rec token)) (all_none P)
      (all_map P met_type (listed (type_key recs a rec token)) (λ k c. (all_listed (λ (x : TypeKey). P (met_type x)) (type_key recs a rec token) (λ x e. holds.types a rec token x there e)).each k c))

  good_is : {A : Type 0} (x : Known A) (y : A) → good x ≡ Some y → x ≡ Good y
  good_is (Good z) y e = let same : z ≡ y = cc in ap Good same
  good_is (Bad why) y e = absurd (cc)

  good_sig_all : (a : ℕ) (rec : AsmRec) (s : Known Sig) → ((x : Sig) → s ≡ Good x → P (met_sig (world_sig recs a rec x))) → All (met_good_sig recs a rec s)
  good_sig_all a rec s h =
      all_map P (λ x. met_sig (world_sig recs a rec x)) (listed (good s))
      (λ k c. h k (good_is s k ((all_listed (λ (x : Sig). good s ≡ Some x) (good s) (λ x e. e)).each k c)))

  method_sig_all : (a : ℕ) (rec : AsmRec) (s : Known MethodSig) → ((g : MethodSig) (x : Sig) → s ≡ Good g → Contains (g.ret ∷ g.params) x → P (met_sig (world_sig recs a rec x))) → All (met_method_sig recs a rec s)
  method_sig_all a rec s h =
      all_flat P (λ (m : MethodSig). map met_sig (world_sigs recs a rec (m.ret ∷ m.params))) (listed (good s))
      (λ m c.
      all_map P met_sig (world_sigs recs a rec (m.ret ∷ m.params))
      (λ k d. (all_map (λ (x : Sig). P (met_sig x)) (world_sig recs a rec) (m.ret ∷ m.params) (λ x e. h m x (good_is s m ((all_listed (λ (y : MethodSig). good s ≡ Some y) (good s) (λ y f. f)).each m c)) e)).each k d))

  locals_all : (a : ℕ) (rec : AsmRec) (token : ℕ) → Source recs a rec → All (met_locals_token recs a rec token)
  locals_all a rec token there =
      all_option P (met_locals_row recs a rec) (option_and_then (slice_get rec.stand_alone_sig) (index_in table.STAND_ALONE_SIG token))
      (λ row e. all_map P (λ ss. met_locals (world_sigs recs a rec ss)) (listed (good row.signature)) (λ k c. holds.locals a rec k there))

  -- ---- members

  module _ (a : ℕ) (rec : AsmRec) (there : Source recs a rec) (is : IsRecord rec) where
    instance_row : (row : MethodSpecRow) (i : InstanceKey) → (table_of row.method == table.METHOD_SPEC) ≡ false → instance_by recs a rec row ≡ Some i → P (met_instance i)
    instance_row row i s h =
        let m = and_then_some (λ m. option_map (λ (args : List Sig). record { method = m; args = world_sigs recs a rec args }) (good row.instantiation)) (method_key recs a rec row.method) i h in
        let g = map_some (λ (args : List Sig). record { method = m.0; args = world_sigs recs a rec args }) (good row.instantiation) i m.2 in
        subst (λ (j : InstanceKey). P (met_instance j)) g.2 (holds.instances a rec row.method m.0 g.0 there s m.1)

    instance_all : (token : ℕ) (i : InstanceKey) → instance_key recs a rec token ≡ Some i → P (met_instance i)
    unfolding instance_key
    instance_all token i h =
        let r = and_then_some (instance_by recs a rec) (option_and_then (slice_get rec.method_spec) (index_in table.METHOD_SPEC token)) i h in
        let k = and_then_some (slice_get rec.method_spec) (index_in table.METHOD_SPEC token) r.0 r.1 in
        instance_row r.0 i (no_spec (table_of r.0.method) (of_coded rec MethodDefOrRef r.0.method (is.tokens.method_specs k.0 r.0 k.2)).table) r.2

    callee_by : (token : ℕ) (b : Bool) → (table_of token == table.METHOD_SPEC) ≡ b → All (if b then map met_instance (listed (instance_key recs a rec token)) else map met_method (listed (method_key recs a rec token)))
    callee_by token true e =
        all_map P met_instance (listed (instance_key recs a rec token))
        (λ i c. (all_listed (λ (j : InstanceKey). P (met_instance j)) (instance_key recs a rec token) (instance_all token)).each i c)
    callee_by token false e =
        all_map P met_method (listed (method_key recs a rec token))
        (λ k c. (all_listed (λ (m : MethodKey). P (met_method m)) (method_key recs a rec token) (λ m h. holds.methods a rec token m there e h)).each k c)

    callee_all : (token : ℕ) → All (met_callee recs a rec token)
    callee_all token = callee_by token (table_of token == table.METHOD_SPEC) refl

    field_all : (token : ℕ) → All (met_field_token recs a rec token)
    field_all token =
        all_map P met_field (listed (field_key recs a rec token))
        (λ k c. (all_listed (λ (f : FieldKey). P (met_field f)) (field_key recs a rec token) (λ f h. holds.fields a rec token f there h)).each k c)

    any_all : (token : ℕ) → All (met_any recs a rec token)
    any_all token =
        all_either P (is_field_token rec token) (met_field_token recs a rec token) (if is_method_token token then met_callee recs a rec token else met_token recs a rec token)
        (field_all token)
        (all_either P (is_method_token token) (met_callee recs a rec token) (met_token recs a rec token) (callee_all token) (token_all a rec token there))

    -- ---- bodies

    form_all : (f : Form) (token : ℕ) → All (met_by_form recs a rec f token)
    form_all form.Call token = callee_all token
    form_all form.NewObj token = callee_all token
    form_all form.Field token = field_all token
    form_all form.LdStr token = all_none P
    form_all form.LdToken token = any_all token
    form_all _ token = token_all a rec token there

    operand_all : (f : Form) (o : Operand) → All (met_operand recs a rec f o)
    operand_all f (operand.Token token) = form_all f token
    operand_all f _ = all_none P

    body_all : (b : Body) → All (met_body recs a rec b)
    body_all b =
        let code : List Met = flat_map (λ (i : Instr). met_operand recs a rec i.form i.operand) b.code in
        let handlers : List Met = flat_map (λ (h : Handler). if is_catch h then met_token recs a rec h.token else []) b.handlers in
        let locals : List Met = met_locals_token recs a rec b.locals in
        all_join P (locals ++ code) handlers
        (all_join P locals code (locals_all a rec b.locals there)
        (all_flat P (λ (i : Instr). met_operand recs a rec i.form i.operand) b.code (λ i c. operand_all i.form i.operand)))
        (all_flat P (λ (h : Handler). if is_catch h then met_token recs a rec h.token else []) b.handlers
        (λ h c. all_if P (is_catch h) (met_token recs a rec h.token) (λ e. token_all a rec h.token there)))

  -- ---- rows of an input

  abbrev Input : RowAt → Type 0
  Input at = suc at.asm < length recs

  source : (at : RowAt) (rec : AsmRec) → Input at → rec_at recs at ≡ Some rec → Source recs at.asm rec
  source at rec input e = record { there = e; input = input }

  module _ (records : InputsAreRecords recs) where
    method_row_all : (at : RowAt) → Input at → kept (method_item recs at) ≡ true → All (met_method_row recs at)
    method_row_all at input k =
        all_option P (λ (rec : AsmRec). flat_map (λ (m : MethodDefRow). met_method_sig recs at.asm rec m.signature ++ flat_map (met_body recs at.asm rec) (body_of m)) (listed (slice_get rec.method_def at.row))) (rec_at recs at)
        (λ rec there.
        all_option P (λ (m : MethodDefRow). met_method_sig recs at.asm rec m.signature ++ flat_map (met_body recs at.asm rec) (body_of m)) (slice_get rec.method_def at.row)
        (λ m e.
        all_join P (met_method_sig recs at.asm rec m.signature) (flat_map (met_body recs at.asm rec) (body_of m))
        (method_sig_all at.asm rec m.signature (λ g x f c. holds.method_sigs at rec m g x (source at rec input there) e k f c))
        (all_flat P (met_body recs at.asm rec) (body_of m) (λ b c. body_all at.asm rec (source at rec input there) (records at.asm rec input there) b))))

    field_row_all : (at : RowAt) → Input at → kept (field_item recs at) ≡ true → All (met_field_row recs at)
    field_row_all at input k =
        all_option P (λ (rec : AsmRec). flat_map (λ (f : FieldRow). met_good_sig recs at.asm rec f.signature) (listed (slice_get rec.field at.row))) (rec_at recs at)
        (λ rec there.
        all_option P (λ (f : FieldRow). met_good_sig recs at.asm rec f.signature) (slice_get rec.field at.row)
        (λ f e. good_sig_all at.asm rec f.signature (λ x g. holds.field_sigs at rec f x (source at rec input there) e k g)))

    property_row_all : (at : RowAt) → Input at → kept (prop_item recs at) ≡ true → All (met_property_row recs at)
    property_row_all at input k =
        all_option P (λ (rec : AsmRec). flat_map (λ (p : PropertyRow). met_method_sig recs at.asm rec p.signature) (listed (slice_get rec.property at.row))) (rec_at recs at)
        (λ rec there.
        all_option P (λ (p : PropertyRow). met_method_sig recs at.asm rec p.signature) (slice_get rec.property at.row)
        (λ p e. method_sig_all at.asm rec p.signature (λ g x f c. holds.property_sigs at rec p g x (source at rec input there) e k f c)))

    event_row_all : (at : RowAt) → Input at → All (met_event_row recs at)
    event_row_all at input =
        all_option P (λ (rec : AsmRec). flat_map (λ (x : EventRow). met_token recs at.asm rec x.event_type) (listed (slice_get rec.event at.row))) (rec_at recs at)
        (λ rec there. all_option P (λ (x : EventRow). met_token recs at.asm rec x.event_type) (slice_get rec.event at.row) (λ x e. token_all at.asm rec x.event_type (source at rec input there)))

    param_all : (a : ℕ) (rec : AsmRec) (owner k : ℕ) (row : GenericParamRow) → Source recs a rec → All (met_param recs a rec owner k row)
    param_all a rec owner k row there =
        all_if P (row.owner == owner) (flat_map (met_constraint recs a rec (token_of table.GENERIC_PARAM (suc k))) rec.generic_param_constraint)
        (λ e.
        all_flat P (met_constraint recs a rec (token_of table.GENERIC_PARAM (suc k))) rec.generic_param_constraint
        (λ (c : GenericParamConstraintRow) d. all_if P (c.owner == token_of table.GENERIC_PARAM (suc k)) (met_token recs a rec c.constraint) (λ f. token_all a rec c.constraint there)))

    constraints_all : (at : RowAt) (owner : ℕ) → Input at → All (met_constraints recs at owner)
    constraints_all at owner input =
        all_option P (λ (rec : AsmRec). each_row (met_param recs at.asm rec owner) rec.generic_param) (rec_at recs at)
        (λ rec there. all_each P (met_param recs at.asm rec owner) rec.generic_param (λ k row e. param_all at.asm rec owner k row (source at rec input there)))

    impls_all : (at : RowAt) → Input at → All (met_impls recs kept at)
    impls_all at input =
        all_option P (λ (rec : AsmRec). flat_map (λ (row : MethodImplRow). met_callee recs at.asm rec row.body ++ met_callee recs at.asm rec row.declaration) (filter (is_impl_of recs kept at rec) rec.method_impl)) (rec_at recs at)
        (λ rec there.
        all_flat P (λ (row : MethodImplRow). met_callee recs at.asm rec row.body ++ met_callee recs at.asm rec row.declaration) (filter (is_impl_of recs kept at rec) rec.method_impl)
        (λ row c.
        all_join P (met_callee recs at.asm rec row.body) (met_callee recs at.asm rec row.declaration)
        (callee_all at.asm rec (source at rec input there) (records at.asm rec input there) row.body) (callee_all at.asm rec (source at rec input there) (records at.asm rec input there) row.declaration)))

    extends_all : (at : RowAt) → Input at → All (met_extends recs at)
    extends_all at input =
        all_option P (λ (rec : AsmRec). flat_map (λ (t : TypeDefRow). met_token recs at.asm rec t.extends) (listed (slice_get rec.type_def at.row))) (rec_at recs at)
        (λ rec there. all_option P (λ (t : TypeDefRow). met_token recs at.asm rec t.extends) (slice_get rec.type_def at.row) (λ t e. token_all at.asm rec t.extends (source at rec input there)))

    interfaces_all : (at : RowAt) → Input at → All (met_interfaces recs kept at)
    interfaces_all at input =
        all_option P (λ (rec : AsmRec). each_row (met_interface recs kept at rec) rec.interface_impl) (rec_at recs at)
        (λ rec there.
        all_each P (met_interface recs kept at rec) rec.interface_impl
        (λ k (row : InterfaceImplRow) e. all_if P (row.class == token_of table.TYPE_DEF (suc at.row) && kept (impl_item recs (at_row at.asm k))) (met_token recs at.asm rec row.interface) (λ f. token_all at.asm rec row.interface (source at rec input there))))

    methods_input : (at : RowAt) → Input at → Every Input (methods_of_type recs at)
    unfolding methods_of_type
    methods_input at input =
        all_option Input (λ (rec : AsmRec). flat_map (λ (t : TypeDefRow). map (at_row at.asm) (run_places t.method_list_first t.method_list_end rec.method_def)) (listed (slice_get rec.type_def at.row))) (rec_at recs at)
        (λ rec there.
        all_option Input (λ (t : TypeDefRow). map (at_row at.asm) (run_places t.method_list_first t.method_list_end rec.method_def)) (slice_get rec.type_def at.row)
        (λ t row. all_map Input (at_row at.asm) (run_places t.method_list_first t.method_list_end rec.method_def) (λ k c. input)))

    fields_input : (at : RowAt) → Input at → Every Input (fields_of_type recs at)
    unfolding fields_of_type
    fields_input at input =
        all_option Input (λ (rec : AsmRec). flat_map (λ (t : TypeDefRow). map (at_row at.asm) (run_places t.field_list_first t.field_list_end rec.field)) (listed (slice_get rec.type_def at.row))) (rec_at recs at)
        (λ rec there.
        all_option Input (λ (t : TypeDefRow). map (at_row at.asm) (run_places t.field_list_first t.field_list_end rec.field)) (slice_get rec.type_def at.row)
        (λ t row. all_map Input (at_row at.asm) (run_places t.field_list_first t.field_list_end rec.field) (λ k c. input)))

    properties_input : (at : RowAt) → Input at → Every Input (properties_of_type recs at)
    unfolding properties_of_type
    properties_input at input =
        all_option Input (λ (rec : AsmRec). map (at_row at.asm) (flat_map (property_places_by rec (token_of table.TYPE_DEF (suc at.row))) rec.property_map)) (rec_at recs at)
        (λ rec there. all_map Input (at_row at.asm) (flat_map (property_places_by rec (token_of table.TYPE_DEF (suc at.row))) rec.property_map) (λ k c. input))

    events_input : (at : RowAt) → Input at → Every Input (events_of_type recs at)
    unfolding events_of_type
    events_input at input =
        all_option Input (λ (rec : AsmRec). map (at_row at.asm) (flat_map (event_places_by rec (token_of table.TYPE_DEF (suc at.row))) rec.event_map)) (rec_at recs at)
        (λ rec there. all_map Input (at_row at.asm) (flat_map (event_places_by rec (token_of table.TYPE_DEF (suc at.row))) rec.event_map) (λ k c. input))

    -- a kept row of an input
    record IsKept (item : RowAt → Item) (at : RowAt) : Type 0 where
      input : Input at
      keeps : kept (item at) ≡ true

    those_kept : (item : RowAt → Item) (rows : List RowAt) → Every Input rows → Every (IsKept item) (those recs kept item rows)
    those_kept item rows h = record { each = λ at c. let f = from_filter (λ x. kept (item x)) rows at c in record { input = h.each at f.0; keeps = f.1 } }

    type_all : (at : RowAt) → Input at → All (met_in_type recs kept at)
    type_all at input =
        let methods : List RowAt = those recs kept (method_item recs) (methods_of_type recs at) in
        let fields : List RowAt = those recs kept (field_item recs) (fields_of_type recs at) in
        let properties : List RowAt = those recs kept (prop_item recs) (properties_of_type recs at) in
        let events : List RowAt = those recs kept (event_item recs) (events_of_type recs at) in
        let kept_methods = those_kept (method_item recs) (methods_of_type recs at) (methods_input at input) in
        let kept_fields = those_kept (field_item recs) (fields_of_type recs at) (fields_input at input) in
        let kept_properties = those_kept (prop_item recs) (properties_of_type recs at) (properties_input at input) in
        let kept_events = those_kept (event_item recs) (events_of_type recs at) (events_input at input) in
        let extends : List Met = met_extends recs at in
        let interfaces : List Met = met_interfaces recs kept at in
        let in_fields : List Met = flat_map (met_field_row recs) fields in
        let in_methods : List Met = flat_map (met_method_row recs) methods in
        let own : List Met = met_constraints recs at (token_of table.TYPE_DEF (suc at.row)) in
        let of_methods : List Met = flat_map (λ m. met_constraints recs m (token_of table.METHOD_DEF (suc m.row))) methods in
        let in_properties : List Met = flat_map (met_property_row recs) properties in
        let in_events : List Met = flat_map (met_event_row recs) events in
        let impls : List Met = met_impls recs kept at in
        let two = all_join P extends interfaces (extends_all at input) (interfaces_all at input) in
        let three = all_join P (extends ++ interfaces) in_fields two (all_flat P (met_field_row recs) fields (λ f c. field_row_all f (kept_fields.each f c).input (kept_fields.each f c).keeps)) in
        let four = all_join P (extends ++ interfaces ++ in_fields) in_methods three (all_flat P (met_method_row recs) methods (λ m c. method_row_all m (kept_methods.each m c).input (kept_methods.each m c).keeps)) in
        let five = all_join P (extends ++ interfaces ++ in_fields ++ in_methods) own four (constraints_all at (token_of table.TYPE_DEF (suc at.row)) input) in
        let six =
        all_join P (extends ++ interfaces ++ in_fields ++ in_methods ++ own) of_methods five
        (all_flat P (λ m. met_constraints recs m (token_of table.METHOD_DEF (suc m.row))) methods (λ m c. constraints_all m (token_of table.METHOD_DEF (suc m.row)) (kept_methods.each m c).input)) in
        let seven =
        all_join P (extends ++ interfaces ++ in_fields ++ in_methods ++ own ++ of_methods) in_properties six
        (all_flat P (met_property_row recs) properties (λ p c. property_row_all p (kept_properties.each p c).input (kept_properties.each p c).keeps)) in
        let eight =
        all_join P (extends ++ interfaces ++ in_fields ++ in_methods ++ own ++ of_methods ++ in_properties) in_events seven
        (all_flat P (met_event_row recs) events (λ e c. event_row_all e (kept_events.each e c).input)) in
        all_join P (extends ++ interfaces ++ in_fields ++ in_methods ++ own ++ of_methods ++ in_properties ++ in_events) impls eight (impls_all at input)

    types_input : Every Input (kept_types recs kept)
    unfolding kept_types
    types_input =
        all_filter Input (λ at. kept (type_item recs at)) (rows_of_kind types_in recs)
        (all_flat Input (λ (x : ℕ × AsmRec). map (at_row x.0) (range_with_len 0 (types_in x.1))) (inputs recs)
        (λ x c.
        let i = from_inputs 0 recs x c in
        let n = i.number in
        let w = i.within in
        let lt : suc x.0 < length recs = omega arith in
        all_map Input (at_row x.0) (range_with_len 0 (types_in x.1)) (λ k d. lt)))

    by_types : All (met_by_types recs kept)
    unfolding met_by_types
    by_types = all_flat P (met_in_type recs kept) (kept_types recs kept) (λ at c. type_all at (types_input.each at c))

    -- ---- constructors of attributes

    copied_or : (a : ℕ) (rec : AsmRec) (row : MemberRefRow) (token : ℕ) (m : MethodKey) (o : Option MethodKey) → Source recs a rec → method_key recs a rec token ≡ o → (table_of token == table.METHOD_SPEC) ≡ false
        → or_else o (absent_constructor recs a rec row) ≡ Some m → P (met_method m)
    copied_or a rec row token m (Some k) there e s h = let same : k ≡ m = cc in subst (λ (x : MethodKey). P (met_method x)) same (holds.methods a rec token k there s e)
    copied_or a rec row token m None there e s h =
        let p = and_then_some (λ p. option_map (λ s. absent_method p row.name (world_method_sig recs a rec s)) (good (ref_sig row))) (type_key recs a rec row.class) m h in
        let q = map_some (λ s. absent_method p.0 row.name (world_method_sig recs a rec s)) (good (ref_sig row)) m p.2 in
        subst (λ (x : MethodKey). P (met_method x)) q.2 (holds.absents a rec row.class p.0 row.name q.0 there p.1)

    copied_by : (a : ℕ) (rec : AsmRec) (row : MemberRefRow) (token : ℕ) (m : MethodKey) (b : Bool) → Source recs a rec → (table_of token == table.METHOD_SPEC) ≡ false
        → (if b then or_else (method_key recs a rec token) (absent_constructor recs a rec row) else None) ≡ Some m → P (met_method m)
    copied_by a rec row token m true there s h = copied_or a rec row token m (method_key recs a rec token) there refl s h
    copied_by a rec row token m false there s h = absurd (cc)

    constructor_by : (a : ℕ) (rec : AsmRec) (token : ℕ) (m : MethodKey) (b : Bool) → Source recs a rec → (table_of token == table.METHOD_SPEC) ≡ false
        → (if b then method_key recs a rec token else option_and_then (copied_constructor recs a rec token) (option_and_then (slice_get rec.member_ref) (index_in table.MEMBER_REF token))) ≡ Some m → P (met_method m)
    constructor_by a rec token m true there s h = holds.methods a rec token m there s h
    constructor_by a rec token m false there s h =
        let r = and_then_some (copied_constructor recs a rec token) (option_and_then (slice_get rec.member_ref) (index_in table.MEMBER_REF token)) m h in
        copied_by a rec r.0 token m (is_copied recs a rec r.0) there s r.2

    constructor_stands : (a : ℕ) (rec : AsmRec) (token : ℕ) (m : MethodKey) → Source recs a rec → (table_of token == table.METHOD_SPEC) ≡ false → constructor_key recs a rec token ≡ Some m → P (met_method m)
    unfolding constructor_key
    constructor_stands a rec token m there s h = constructor_by a rec token m (is_in_input recs a rec token) there s h

    attribute_stands : (x : Attribute) → Contains (kept_attributes recs kept) x → P (met_method x.ctor)
    unfolding kept_attributes
    attribute_stands x c =
        let r = from_all (λ rec. rec.custom_attribute) (attribute_in recs kept) recs x (sorted_in (λ (y : Attribute). coded_of HasCustomAttribute y.parent) (all_rows (λ rec. rec.custom_attribute) (attribute_in recs kept) recs) x c) in
        let is : IsRecord r.rec = records r.asm r.rec r.input.within r.input.there in
        let s = no_spec (table_of r.row.ctor) (of_coded r.rec CustomAttributeType r.row.ctor (is.tokens.custom_attributes r.place r.row r.there).1).table in
        (all_flat (λ (y : Attribute). P (met_method y.ctor)) (λ parent. map (attribute_with r.row.value parent) (listed (constructor_key recs r.asm r.rec r.row.ctor))) (listed (kept_row_token recs kept r.asm r.row.parent))
        (λ parent d.
        all_map (λ (y : Attribute). P (met_method y.ctor)) (attribute_with r.row.value parent) (listed (constructor_key recs r.asm r.rec r.row.ctor))
        (λ m e. (all_listed (λ (y : MethodKey). P (met_method y)) (constructor_key recs r.asm r.rec r.row.ctor) (λ k f. constructor_stands r.asm r.rec r.row.ctor k (record { there = r.input.there; input = r.input.within }) s f)).each m e))).each x r.inside

    by_attributes : All (met_by_attributes recs kept)
    unfolding met_by_attributes
    by_attributes = all_map P (λ (x : Attribute). met_method x.ctor) (kept_attributes recs kept) attribute_stands

    pub mets_hold : Every P (output_of recs kept).mets
    unfolding output_of
    mets_hold = all_join P (met_by_types recs kept) (met_by_attributes recs kept) by_types by_attributes
