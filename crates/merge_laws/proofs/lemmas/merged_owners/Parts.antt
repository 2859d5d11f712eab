-- What the parts of items mark belongs to something.
use Rattle.std.proofs.Common.{◌≡◌, ℕ, suc, List, [], ◌∷◌, ◌++◌, Bool, true, false, Option, Some, None, refl}
use Rattle.std.specs.Prelude.{slice_get, if◌then◌else◌, ◌==◌, ◌&&◌}
use Rattle.std.specs.List.{flat_map, list_any}
use Rattle.std.specs.Option.{option_and_then}
use Rattle.il_base.specs.declared.ids.Item.TheVariants as item
use Rattle.il_base.specs.declared.sig.Sig.{Sig}
use Rattle.il_base.specs.declared.sig.MethodSig.{MethodSig}
use Rattle.il_base.specs.declared.body.Form.{Form}
use Rattle.il_base.specs.declared.body.Form.TheVariants as form
use Rattle.il_base.specs.declared.body.Operand.{Operand}
use Rattle.il_base.specs.declared.body.Operand.TheVariants as operand
use Rattle.il_base.specs.declared.body.Body.{Body}
use Rattle.il_base.specs.declared.table.TheConstants as table
use Rattle.il_base.specs.declared.world_model.known.Known.{Known}
use Rattle.il_base.specs.declared.world_model.known.Known.TheVariants.{Good, Bad}
use Rattle.il_base.specs.declared.world_model.known.BadKind.{BadKind}
use Rattle.il_base.specs.declared.world_model.known.BadKind.TheVariants.{Unresolved}
use Rattle.il_base.specs.declared.world_model.expr.TypeExpr.{TypeExpr}
use Rattle.il_base.specs.declared.world_model.expr.MethodUse.{MethodUse}
use Rattle.il_base.specs.declared.world_model.expr.FieldUse.{FieldUse}
use Rattle.il_base.specs.declared.world_model.types.TypeDefRow.{TypeDefRow}
use Rattle.il_base.specs.declared.world_model.types.InterfaceImplRow.{InterfaceImplRow}
use Rattle.il_base.specs.declared.world_model.members.FieldRow.{FieldRow}
use Rattle.il_base.specs.declared.world_model.members.MethodDefRow.{MethodDefRow}
use Rattle.il_base.specs.declared.world_model.members.PropertyRow.{PropertyRow}
use Rattle.il_base.specs.declared.world_model.members.EventRow.{EventRow}
use Rattle.il_base.specs.declared.world_model.members.StandAloneSigRow.{StandAloneSigRow}
use Rattle.il_base.specs.declared.world_model.record.AsmRec.{AsmRec}
use Rattle.il_base.specs.world_model.Tokens.{token_of, index_in}
use Rattle.il_base.specs.world_model.Worlds.{known_map, known_then, sig_expr}
use Rattle.rules.specs.declared.link_rules.row_at.RowAt.{RowAt}
use Rattle.rules.specs.link_rules.Signatures.{names_at, token_type, method_type}
use Rattle.rules.specs.link_rules.Members.{arguments_of}
use Rattle.rules.specs.link_rules.Cycles.{listed}
use Rattle.rules.specs.type_rules.Rows.{each_row, rec_at}
use Rattle.rules.specs.mark_rules.Naming.{Part, of_named, of_known, of_parts, good_part, bad_part, type_parts, parts_of, sig_parts, sigs_parts, method_type_parts, method_sig_parts, type_token_part, method_token_part, field_token_part, method_named, field_named}
use Rattle.rules.specs.mark_rules.Naming.Named.{type, method, field}
use Rattle.rules.specs.mark_rules.Types.{constraint_of, constraints_of_param, constraints_of, extends_of, parts_of_type, parts_of_field, parts_of_impl}
use Rattle.rules.specs.mark_rules.Calls.{row_parts, parts_of_method}
use Rattle.rules.specs.mark_rules.Bodies.{is_field_token, is_method_token, any_token_part, is_text_of, text_parts, token_parts, operand_parts, instruction_parts, locals_row_parts, locals_parts, is_catch, handler_parts, is_read, are_locals_read, operands_of, code_parts, body_parts, body_of}
use Rattle.rules.specs.mark_rules.Properties.{parts_of_property, parts_of_event}
use Rattle.merge_laws.specs.merged_record.Laws.{InputsAreRecords}
use Rattle.merge_laws.proofs.lemmas.merged_owners.Every.{Every, all_none, all_one, all_join, all_if, all_either, all_flat, all_option, all_map, all_each}
use Rattle.merge_laws.proofs.lemmas.merged_owners.Runs.{OfItem, OfFact, Fine}
use Rattle.merge_laws.proofs.lemmas.merged_owners.Uses.{expr_fine, method_use_fine, field_use_fine, method_named_fine, field_named_fine}

module _ (recs : List AsmRec) (records : InputsAreRecords recs) where
  -- ---- parts

  abbrev PartFine : Part → Type 0
  PartFine p = Fine recs (of_known of_named p.named)

  abbrev Parts : List Part → Type 0
  Parts ps = Every PartFine ps

  pub parts_fine : (ps : List Part) → Parts ps → Fine recs (of_parts ps)
  parts_fine ps h = all_flat (OfFact recs) (λ (p : Part). of_known of_named p.named) ps (λ p c. h.each p c)

  type_part : (x : Known TypeExpr) → Fine recs (of_known of_named (known_map type x))
  type_part (Good e) = expr_fine recs e
  type_part (Bad why) = all_none (OfFact recs)

  method_part : (x : Known MethodUse) → ((u : MethodUse) → x ≡ Good u → OfItem recs (item.Method u.method)) → Fine recs (of_known of_named (known_map method x))
  method_part (Good u) h = method_use_fine recs u (h u refl)
  method_part (Bad why) h = all_none (OfFact recs)

  field_part : (x : Known FieldUse) → ((u : FieldUse) → x ≡ Good u → OfItem recs (item.Field u.field)) → Fine recs (of_known of_named (known_map field x))
  field_part (Good u) h = field_use_fine recs u (h u refl)
  field_part (Bad why) h = all_none (OfFact recs)

  typed : (place : ℕ) (es : List TypeExpr) → Parts (type_parts place es)
  typed place es = all_map PartFine (λ e. good_part place (type e)) es (λ e c. expr_fine recs e)

  bad_one : (place : ℕ) (why : BadKind) → Parts (bad_part place why ∷ [])
  bad_one place why = all_one PartFine (bad_part place why) (all_none (OfFact recs))

  known_parts : {A : Type 0} (place : ℕ) (f : A → List Part) (x : Known A) → ((y : A) → Parts (f y)) → Parts (parts_of place f x)
  known_parts place f (Good y) h = h y
  known_parts place f (Bad why) h = bad_one place why

  part_if : (b : Bool) (p q : Part) → PartFine p → PartFine q → PartFine (if b then p else q)
  part_if true p q h g = h
  part_if false p q h g = g

  module _ (a : ℕ) (rec : AsmRec) where
    sig_fine : (place : ℕ) (s : Known Sig) → Parts (sig_parts recs a rec place s)
    sig_fine place s = known_parts place (λ e. type_parts place (e ∷ [])) (known_then (sig_expr (names_at recs a rec)) s) (λ e. typed place (e ∷ []))

    sigs_fine : (place : ℕ) (s : Known (List Sig)) → Parts (sigs_parts recs a rec place s)
    sigs_fine place s = known_parts place (type_parts place) (known_then (arguments_of (names_at recs a rec)) s) (λ es. typed place es)

    method_sig_fine : (place : ℕ) (s : Known MethodSig) → Parts (method_sig_parts recs a rec place s)
    method_sig_fine place s = known_parts place (method_type_parts place) (known_then (method_type (names_at recs a rec)) s) (λ m. typed place (m.ret ∷ m.params))

    token_fine : (place offset token : ℕ) → PartFine (type_token_part recs a rec place offset token)
    token_fine place offset token = type_part (token_type recs a rec token)

    one_type : (place offset token : ℕ) → Parts (type_token_part recs a rec place offset token ∷ [])
    one_type place offset token = all_one PartFine (type_token_part recs a rec place offset token) (token_fine place offset token)

    constraints_fine : (owner : ℕ) → Parts (constraints_of recs a rec owner)
    unfolding constraints_of
    constraints_fine owner =
        all_each PartFine (constraints_of_param recs a rec owner) rec.generic_param
        (λ k row e.
        all_if PartFine (row.owner == owner) (each_row (constraint_of recs a rec (token_of table.GENERIC_PARAM (suc k))) rec.generic_param_constraint)
        (λ h.
        all_each PartFine (constraint_of recs a rec (token_of table.GENERIC_PARAM (suc k))) rec.generic_param_constraint
        (λ j r f.
        all_if PartFine (r.owner == token_of table.GENERIC_PARAM (suc k)) (type_token_part recs a rec (token_of table.GENERIC_PARAM_CONSTRAINT (suc j)) 0 r.constraint ∷ [])
        (λ g. one_type (token_of table.GENERIC_PARAM_CONSTRAINT (suc j)) 0 r.constraint))))

  -- ---- bodies

  module _ (a : ℕ) (rec : AsmRec) (there : slice_get recs a ≡ Some rec) where
    method_part_fine : (place offset token : ℕ) → PartFine (method_token_part recs a rec place offset token)
    method_part_fine place offset token = method_part (method_named recs a rec token) (λ u e. method_named_fine recs records a rec there token u e)

    field_part_fine : (place offset token : ℕ) → PartFine (field_token_part recs a rec place offset token)
    field_part_fine place offset token = field_part (field_named recs a rec token) (λ u e. field_named_fine recs records a rec there token u e)

    any_part_fine : (place offset token : ℕ) → PartFine (any_token_part recs a rec place offset token)
    any_part_fine place offset token =
        part_if (is_field_token rec token) (field_token_part recs a rec place offset token)
        (if is_method_token token then method_token_part recs a rec place offset token else type_token_part recs a rec place offset token) (field_part_fine place offset token)
        (part_if (is_method_token token) (method_token_part recs a rec place offset token) (type_token_part recs a rec place offset token) (method_part_fine place offset token) (token_fine a rec place offset token))

    text_fine : (place offset token : ℕ) → Parts (text_parts rec place offset token)
    text_fine place offset token =
        all_either PartFine (list_any (is_text_of token) rec.user) [] (record { token = place; at = offset; named = Bad Unresolved } ∷ []) (all_none PartFine)
        (all_one PartFine (record { token = place; at = offset; named = Bad Unresolved }) (all_none (OfFact recs)))

    form_fine : (place offset : ℕ) (f : Form) (token : ℕ) → Parts (token_parts recs a rec place offset f token)
    form_fine place offset form.Nop token = one_type a rec place offset token
    form_fine place offset form.LdArg token = one_type a rec place offset token
    form_fine place offset form.LdArgA token = one_type a rec place offset token
    form_fine place offset form.StArg token = one_type a rec place offset token
    form_fine place offset form.LdLoc token = one_type a rec place offset token
    form_fine place offset form.LdLocA token = one_type a rec place offset token
    form_fine place offset form.StLoc token = one_type a rec place offset token
    form_fine place offset form.LdNull token = one_type a rec place offset token
    form_fine place offset form.LdI4 token = one_type a rec place offset token
    form_fine place offset form.LdI8 token = one_type a rec place offset token
    form_fine place offset form.LdStr token = text_fine place offset token
    form_fine place offset form.Dup token = one_type a rec place offset token
    form_fine place offset form.Pop token = one_type a rec place offset token
    form_fine place offset form.Br token = one_type a rec place offset token
    form_fine place offset form.BrIf token = one_type a rec place offset token
    form_fine place offset form.Switch token = one_type a rec place offset token
    form_fine place offset form.Leave token = one_type a rec place offset token
    form_fine place offset form.EndFinally token = one_type a rec place offset token
    form_fine place offset form.Binary token = one_type a rec place offset token
    form_fine place offset form.Unary token = one_type a rec place offset token
    form_fine place offset form.Convert token = one_type a rec place offset token
    form_fine place offset form.Call token = all_one PartFine (method_token_part recs a rec place offset token) (method_part_fine place offset token)
    form_fine place offset form.Ret token = one_type a rec place offset token
    form_fine place offset form.NewObj token = all_one PartFine (method_token_part recs a rec place offset token) (method_part_fine place offset token)
    form_fine place offset form.Throw token = one_type a rec place offset token
    form_fine place offset form.Cast token = one_type a rec place offset token
    form_fine place offset form.Box token = one_type a rec place offset token
    form_fine place offset form.Unbox token = one_type a rec place offset token
    form_fine place offset form.Field token = all_one PartFine (field_token_part recs a rec place offset token) (field_part_fine place offset token)
    form_fine place offset form.NewArr token = one_type a rec place offset token
    form_fine place offset form.Elem token = one_type a rec place offset token
    form_fine place offset form.Indirect token = one_type a rec place offset token
    form_fine place offset form.LdToken token = all_one PartFine (any_token_part recs a rec place offset token) (any_part_fine place offset token)
    form_fine place offset form.Prefix token = one_type a rec place offset token

    operand_fine : (place offset : ℕ) (f : Form) (o : Operand) → Parts (operand_parts recs a rec place offset f o)
    operand_fine place offset f operand.None = all_none PartFine
    operand_fine place offset f (operand.Number n) = all_none PartFine
    operand_fine place offset f (operand.Slot n) = all_none PartFine
    operand_fine place offset f (operand.Token token) = form_fine place offset f token
    operand_fine place offset f (operand.Target n) = all_none PartFine
    operand_fine place offset f (operand.Targets ns) = all_none PartFine

    locals_row_fine : (place : ℕ) (o : Option StandAloneSigRow) → Parts (locals_row_parts recs a rec place o)
    locals_row_fine place None = bad_one place Unresolved
    locals_row_fine place (Some row) = sigs_fine a rec place row.signature

    locals_fine : (place token : ℕ) → Parts (locals_parts recs a rec place token)
    locals_fine place token =
        all_either PartFine (token == 0) [] (locals_row_parts recs a rec place (option_and_then (slice_get rec.stand_alone_sig) (index_in table.STAND_ALONE_SIG token))) (all_none PartFine)
        (locals_row_fine place (option_and_then (slice_get rec.stand_alone_sig) (index_in table.STAND_ALONE_SIG token)))

    code_fine : (place : ℕ) (read : Bool) (b : Body) → Parts (code_parts recs a rec place read b)
    code_fine place read b =
        all_join PartFine (locals_parts recs a rec place b.locals) (operands_of recs a rec place read b) (locals_fine place b.locals)
        (all_if PartFine (read && are_locals_read rec b.locals) (flat_map (instruction_parts recs a rec place) b.code)
        (λ h. all_flat PartFine (instruction_parts recs a rec place) b.code (λ i c. operand_fine place i.at i.form i.operand)))

    body_fine : (place : ℕ) (read : Bool) (b : Body) → Parts (body_parts recs a rec place read b)
    body_fine place read b =
        all_join PartFine (code_parts recs a rec place read b) (flat_map (handler_parts recs a rec place) b.handlers) (code_fine place read b)
        (all_flat PartFine (handler_parts recs a rec place) b.handlers
        (λ h c. all_if PartFine (is_catch h) (type_token_part recs a rec place 0 h.token ∷ []) (λ e. one_type a rec place 0 h.token)))

  -- ---- the parts of items

  module _ (at : RowAt) where
    pub type_parts_fine : Parts (parts_of_type recs at)
    unfolding parts_of_type
    type_parts_fine =
        all_option PartFine (λ (rec : AsmRec). extends_of recs at rec ++ constraints_of recs at.asm rec (token_of table.TYPE_DEF (suc at.row))) (rec_at recs at)
        (λ rec there.
        all_join PartFine (extends_of recs at rec) (constraints_of recs at.asm rec (token_of table.TYPE_DEF (suc at.row)))
        (all_option PartFine (λ (t : TypeDefRow). if t.extends == 0 then [] else type_token_part recs at.asm rec (token_of table.TYPE_DEF (suc at.row)) 0 t.extends ∷ []) (slice_get rec.type_def at.row)
        (λ t e. all_either PartFine (t.extends == 0) [] (type_token_part recs at.asm rec (token_of table.TYPE_DEF (suc at.row)) 0 t.extends ∷ []) (all_none PartFine) (one_type at.asm rec (token_of table.TYPE_DEF (suc at.row)) 0 t.extends)))
        (constraints_fine at.asm rec (token_of table.TYPE_DEF (suc at.row))))

    pub field_parts_fine : Parts (parts_of_field recs at)
    unfolding parts_of_field
    field_parts_fine =
        all_option PartFine (λ (rec : AsmRec). flat_map (λ (f : FieldRow). sig_parts recs at.asm rec (token_of table.FIELD (suc at.row)) f.signature) (listed (slice_get rec.field at.row))) (rec_at recs at)
        (λ rec there.
        all_option PartFine (λ (f : FieldRow). sig_parts recs at.asm rec (token_of table.FIELD (suc at.row)) f.signature) (slice_get rec.field at.row) (λ f e. sig_fine at.asm rec (token_of table.FIELD (suc at.row)) f.signature))

    pub impl_parts_fine : Parts (parts_of_impl recs at)
    unfolding parts_of_impl
    impl_parts_fine =
        all_option PartFine (λ (rec : AsmRec). flat_map (λ (row : InterfaceImplRow). type_token_part recs at.asm rec (token_of table.INTERFACE_IMPL (suc at.row)) 0 row.interface ∷ []) (listed (slice_get rec.interface_impl at.row))) (rec_at recs at)
        (λ rec there.
        all_option PartFine (λ (row : InterfaceImplRow). type_token_part recs at.asm rec (token_of table.INTERFACE_IMPL (suc at.row)) 0 row.interface ∷ []) (slice_get rec.interface_impl at.row)
        (λ row e. one_type at.asm rec (token_of table.INTERFACE_IMPL (suc at.row)) 0 row.interface))

    pub property_parts_fine : Parts (parts_of_property recs at)
    unfolding parts_of_property
    property_parts_fine =
        all_option PartFine (λ (rec : AsmRec). flat_map (λ (p : PropertyRow). method_sig_parts recs at.asm rec (token_of table.PROPERTY (suc at.row)) p.signature) (listed (slice_get rec.property at.row))) (rec_at recs at)
        (λ rec there.
        all_option PartFine (λ (p : PropertyRow). method_sig_parts recs at.asm rec (token_of table.PROPERTY (suc at.row)) p.signature) (slice_get rec.property at.row)
        (λ p e. method_sig_fine at.asm rec (token_of table.PROPERTY (suc at.row)) p.signature))

    pub event_parts_fine : Parts (parts_of_event recs at)
    unfolding parts_of_event
    event_parts_fine =
        all_option PartFine (λ (rec : AsmRec). flat_map (λ (e : EventRow). type_token_part recs at.asm rec (token_of table.EVENT (suc at.row)) 0 e.event_type ∷ []) (listed (slice_get rec.event at.row))) (rec_at recs at)
        (λ rec there.
        all_option PartFine (λ (e : EventRow). type_token_part recs at.asm rec (token_of table.EVENT (suc at.row)) 0 e.event_type ∷ []) (slice_get rec.event at.row)
        (λ x e. one_type at.asm rec (token_of table.EVENT (suc at.row)) 0 x.event_type))

    pub method_parts_fine : Parts (parts_of_method recs at)
    unfolding parts_of_method
    method_parts_fine =
        all_option PartFine (λ (rec : AsmRec). flat_map (row_parts recs at rec) (listed (slice_get rec.method_def at.row))) (rec_at recs at)
        (λ rec there. all_option PartFine (row_parts recs at rec) (slice_get rec.method_def at.row) (λ m e. of_row rec there m))
      where
        of_row : (rec : AsmRec) → slice_get recs at.asm ≡ Some rec → (m : MethodDefRow) → Parts (row_parts recs at rec m)
        of_row rec there m =
            let place : ℕ = token_of table.METHOD_DEF (suc at.row) in
            all_join PartFine (method_sig_parts recs at.asm rec place m.signature ++ constraints_of recs at.asm rec place) (flat_map (body_parts recs at.asm rec place (is_read m.signature)) (body_of m))
            (all_join PartFine (method_sig_parts recs at.asm rec place m.signature) (constraints_of recs at.asm rec place) (method_sig_fine at.asm rec place m.signature) (constraints_fine at.asm rec place))
            (all_flat PartFine (body_parts recs at.asm rec place (is_read m.signature)) (body_of m) (λ b c. body_fine at.asm rec there place (is_read m.signature) b))
