-- The references of the output in the order in which they are first met: the types in order, of each its base, interfaces, fields,
-- methods, constraints, properties, events and MethodImpl rows. The cells of a reference row are met before the row.
use Rattle.std.specs.Prelude.{ℕ, suc, List, [], ◌∷◌, ◌++◌, map, Option, slice_get, ◌==◌, ◌&&◌, ◌||◌, Bool, false, if◌then◌else◌}
use Rattle.std.specs.List.{list_any, flat_map, filter}
use Rattle.std.specs.Option.{option_and_then}
use Rattle.il_base.specs.declared.ids.Item.{Item}
use Rattle.il_base.specs.declared.ids.Item.TheVariants as item
use Rattle.il_base.specs.declared.sig.Sig.{Sig}
use Rattle.il_base.specs.declared.sig.MethodSig.{MethodSig}
use Rattle.il_base.specs.declared.body.Form.{Form}
use Rattle.il_base.specs.declared.body.Form.TheVariants as form
use Rattle.il_base.specs.declared.body.Operand.{Operand}
use Rattle.il_base.specs.declared.body.Operand.TheVariants as operand
use Rattle.il_base.specs.declared.body.Instr.{Instr}
use Rattle.il_base.specs.declared.body.Handler.{Handler}
use Rattle.il_base.specs.declared.body.Body.{Body}
use Rattle.il_base.specs.declared.table.TheConstants.{TYPE_DEF, METHOD_DEF, METHOD_SPEC, STAND_ALONE_SIG, GENERIC_PARAM}
use Rattle.il_base.specs.declared.world_model.known.Known.{Known}
use Rattle.il_base.specs.declared.world_model.types.TypeDefRow.{TypeDefRow}
use Rattle.il_base.specs.declared.world_model.types.InterfaceImplRow.{InterfaceImplRow}
use Rattle.il_base.specs.declared.world_model.types.GenericParamRow.{GenericParamRow}
use Rattle.il_base.specs.declared.world_model.types.GenericParamConstraintRow.{GenericParamConstraintRow}
use Rattle.il_base.specs.declared.world_model.members.FieldRow.{FieldRow}
use Rattle.il_base.specs.declared.world_model.members.MethodDefRow.{MethodDefRow}
use Rattle.il_base.specs.declared.world_model.members.MethodImplRow.{MethodImplRow}
use Rattle.il_base.specs.declared.world_model.members.PropertyRow.{PropertyRow}
use Rattle.il_base.specs.declared.world_model.members.EventRow.{EventRow}
use Rattle.il_base.specs.declared.world_model.members.StandAloneSigRow.{StandAloneSigRow}
use Rattle.il_base.specs.declared.world_model.record.AsmRec.{AsmRec}
use Rattle.il_base.specs.world_model.Tokens.{token_of, table_of, index_in}
use Rattle.rules.specs.declared.link_rules.row_at.RowAt.{RowAt}
use Rattle.rules.specs.link_rules.Types.{at_row}
use Rattle.rules.specs.link_rules.Cycles.{listed}
use Rattle.rules.specs.type_rules.Rows.{rec_at, each_row, methods_of_type, fields_of_type}
use Rattle.rules.specs.mark_rules.Places.{is_core, method_item, field_item, prop_item, event_item, impl_item}
use Rattle.rules.specs.mark_rules.Bodies.{body_of, is_field_token, is_method_token, is_catch}
use Rattle.rules.specs.mark_rules.Members.{properties_of_type, events_of_type}
use Rattle.rules.specs.merge_rules.Numbers.{Kept, kept_types}
use Rattle.rules.specs.merge_rules.Keys.{TypeKey, MethodKey, own_method, found_method, absent_method, FieldKey, InstanceKey, good, world_sig, world_sigs, type_key, method_key, field_key, instance_key}

-- ---- a reference that kept items make: a type, a signature, a member, a method with arguments, or locals

pub data Met : Type 0 where
  -- a type by a token, or in a signature
  met_type : TypeKey → Met
  met_sig : Sig → Met
  met_method : MethodKey → Met
  met_field : FieldKey → Met
  met_instance : InstanceKey → Met
  met_locals : List Sig → Met

abbrev pub met_types : Option TypeKey → List Met
met_types k = map met_type (listed k)

abbrev pub met_token : List AsmRec → ℕ → AsmRec → ℕ → List Met
met_token recs a rec token = if token == 0 then [] else met_types (type_key recs a rec token)

-- a signature of an assembly
abbrev pub met_good_sig : List AsmRec → ℕ → AsmRec → Known Sig → List Met
met_good_sig recs a rec s = map (λ x. met_sig (world_sig recs a rec x)) (listed (good s))

abbrev pub met_method_sig : List AsmRec → ℕ → AsmRec → Known MethodSig → List Met
met_method_sig recs a rec s = flat_map (λ (m : MethodSig). map met_sig (world_sigs recs a rec (m.ret ∷ m.params))) (listed (good s))

-- the reference of a MethodDef, MemberRef or MethodSpec token
abbrev pub met_callee : List AsmRec → ℕ → AsmRec → ℕ → List Met
met_callee recs a rec token =
    if table_of token == METHOD_SPEC then map met_instance (listed (instance_key recs a rec token)) else map met_method (listed (method_key recs a rec token))

abbrev pub met_field_token : List AsmRec → ℕ → AsmRec → ℕ → List Met
met_field_token recs a rec token = map met_field (listed (field_key recs a rec token))

-- ---- bodies: locals, operands, catch types

abbrev pub met_any : List AsmRec → ℕ → AsmRec → ℕ → List Met
met_any recs a rec token =
    if is_field_token rec token then met_field_token recs a rec token
    else if is_method_token token then met_callee recs a rec token
    else met_token recs a rec token

abbrev pub met_by_form : List AsmRec → ℕ → AsmRec → Form → ℕ → List Met
met_by_form recs a rec form.Call token = met_callee recs a rec token
met_by_form recs a rec form.NewObj token = met_callee recs a rec token
met_by_form recs a rec form.Field token = met_field_token recs a rec token
met_by_form recs a rec form.LdStr token = []
met_by_form recs a rec form.LdToken token = met_any recs a rec token
met_by_form recs a rec _ token = met_token recs a rec token

abbrev pub met_operand : List AsmRec → ℕ → AsmRec → Form → Operand → List Met
met_operand recs a rec f (operand.Token token) = met_by_form recs a rec f token
met_operand recs a rec f _ = []

abbrev pub met_locals_row : List AsmRec → ℕ → AsmRec → StandAloneSigRow → List Met
met_locals_row recs a rec row = map (λ ss. met_locals (world_sigs recs a rec ss)) (listed (good row.signature))

abbrev pub met_locals_token : List AsmRec → ℕ → AsmRec → ℕ → List Met
met_locals_token recs a rec token = flat_map (met_locals_row recs a rec) (listed (option_and_then (slice_get rec.stand_alone_sig) (index_in STAND_ALONE_SIG token)))

abbrev pub met_body : List AsmRec → ℕ → AsmRec → Body → List Met
met_body recs a rec b =
    met_locals_token recs a rec b.locals ++ flat_map (λ (i : Instr). met_operand recs a rec i.form i.operand) b.code
    ++ flat_map (λ (h : Handler). if is_catch h then met_token recs a rec h.token else []) b.handlers

-- ---- members

abbrev pub met_method_row : List AsmRec → RowAt → List Met
met_method_row recs at =
    flat_map (λ (rec : AsmRec). flat_map (λ (m : MethodDefRow). met_method_sig recs at.asm rec m.signature ++ flat_map (met_body recs at.asm rec) (body_of m)) (listed (slice_get rec.method_def at.row))) (listed (rec_at recs at))

abbrev pub met_field_row : List AsmRec → RowAt → List Met
met_field_row recs at =
    flat_map (λ (rec : AsmRec). flat_map (λ (f : FieldRow). met_good_sig recs at.asm rec f.signature) (listed (slice_get rec.field at.row))) (listed (rec_at recs at))

abbrev pub met_property_row : List AsmRec → RowAt → List Met
met_property_row recs at =
    flat_map (λ (rec : AsmRec). flat_map (λ (p : PropertyRow). met_method_sig recs at.asm rec p.signature) (listed (slice_get rec.property at.row))) (listed (rec_at recs at))

abbrev pub met_event_row : List AsmRec → RowAt → List Met
met_event_row recs at =
    flat_map (λ (rec : AsmRec). flat_map (λ (e : EventRow). met_token recs at.asm rec e.event_type) (listed (slice_get rec.event at.row))) (listed (rec_at recs at))

-- ---- constraints of generic parameters, by Number: of the type, then of each kept method

abbrev pub met_constraint : List AsmRec → ℕ → AsmRec → ℕ → GenericParamConstraintRow → List Met
met_constraint recs a rec token row = if row.owner == token then met_token recs a rec row.constraint else []

abbrev pub met_param : List AsmRec → ℕ → AsmRec → ℕ → ℕ → GenericParamRow → List Met
met_param recs a rec owner k row =
    if row.owner == owner then flat_map (met_constraint recs a rec (token_of GENERIC_PARAM (suc k))) rec.generic_param_constraint else []

abbrev pub met_constraints : List AsmRec → RowAt → ℕ → List Met
met_constraints recs at owner = flat_map (λ (rec : AsmRec). each_row (met_param recs at.asm rec owner) rec.generic_param) (listed (rec_at recs at))

-- ---- MethodImpl rows that are written: class and body are kept, or the body is the core library's

abbrev pub is_kept_method : List AsmRec → Kept → MethodKey → Bool
is_kept_method recs kept (own_method m) = kept (item.Method m) || is_core recs (item.Method m)
is_kept_method recs kept (found_method m e) = kept (item.Method m) || is_core recs (item.Method m)
is_kept_method recs kept (absent_method p name s) = false

abbrev pub is_impl_of : List AsmRec → Kept → RowAt → AsmRec → MethodImplRow → Bool
is_impl_of recs kept at rec row =
    row.class == token_of TYPE_DEF (suc at.row) && list_any (is_kept_method recs kept) (listed (method_key recs at.asm rec row.body))

abbrev pub met_impls : List AsmRec → Kept → RowAt → List Met
met_impls recs kept at =
    flat_map (λ (rec : AsmRec). flat_map (λ (row : MethodImplRow). met_callee recs at.asm rec row.body ++ met_callee recs at.asm rec row.declaration) (filter (is_impl_of recs kept at rec) rec.method_impl)) (listed (rec_at recs at))

-- ---- types

abbrev pub met_extends : List AsmRec → RowAt → List Met
met_extends recs at = flat_map (λ (rec : AsmRec). flat_map (λ (t : TypeDefRow). met_token recs at.asm rec t.extends) (listed (slice_get rec.type_def at.row))) (listed (rec_at recs at))

abbrev pub met_interface : List AsmRec → Kept → RowAt → AsmRec → ℕ → InterfaceImplRow → List Met
met_interface recs kept at rec k row =
    if row.class == token_of TYPE_DEF (suc at.row) && kept (impl_item recs (at_row at.asm k)) then met_token recs at.asm rec row.interface else []

abbrev pub met_interfaces : List AsmRec → Kept → RowAt → List Met
met_interfaces recs kept at = flat_map (λ (rec : AsmRec). each_row (met_interface recs kept at rec) rec.interface_impl) (listed (rec_at recs at))

abbrev pub those : List AsmRec → Kept → (RowAt → Item) → List RowAt → List RowAt
those recs kept item rows = filter (λ at. kept (item at)) rows

abbrev pub met_in_type : List AsmRec → Kept → RowAt → List Met
met_in_type recs kept at =
    let methods : List RowAt = those recs kept (method_item recs) (methods_of_type recs at) in
    met_extends recs at
    ++ met_interfaces recs kept at
    ++ flat_map (met_field_row recs) (those recs kept (field_item recs) (fields_of_type recs at))
    ++ flat_map (met_method_row recs) methods
    ++ met_constraints recs at (token_of TYPE_DEF (suc at.row))
    ++ flat_map (λ m. met_constraints recs m (token_of METHOD_DEF (suc m.row))) methods
    ++ flat_map (met_property_row recs) (those recs kept (prop_item recs) (properties_of_type recs at))
    ++ flat_map (met_event_row recs) (those recs kept (event_item recs) (events_of_type recs at))
    ++ met_impls recs kept at

-- the references of the kept types and their members, in order; those of attributes come after them
unfoldable pub met_by_types : List AsmRec → Kept → List Met
met_by_types recs kept = flat_map (met_in_type recs kept) (kept_types recs kept)
