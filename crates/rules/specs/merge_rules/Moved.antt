-- Signatures, bodies and rows of kept items with the output's tokens. A token that names nothing becomes 0; a bad part stays as it is.
use Rattle.std.specs.Prelude.{ℕ, ◌+◌, ◌-◌, ◌*◌, ◌%◌, List, [], map, find, bit_and, Option, slice_get, nat_lt, ◌==◌, ◌&&◌, Bool, if◌then◌else◌}
use Rattle.std.specs.List.{flat_map}
use Rattle.std.specs.Option.{option_map, option_and_then}
use Rattle.il_base.specs.declared.table.TheConstants as table
use Rattle.il_base.specs.declared.type_flags.TheConstants as type_flag
use Rattle.il_base.specs.declared.field_flags.TheConstants as field_flag
use Rattle.il_base.specs.declared.method_flags.TheConstants as method_flag
use Rattle.il_base.specs.declared.param_flags.TheConstants as param_flag
use Rattle.il_base.specs.declared.sig.Sig.{Sig}
use Rattle.il_base.specs.declared.sig.MethodSig.{MethodSig}
use Rattle.il_base.specs.declared.body.Form.{Form}
use Rattle.il_base.specs.declared.body.Form.TheVariants as form
use Rattle.il_base.specs.declared.body.Operand.{Operand}
use Rattle.il_base.specs.declared.body.Operand.TheVariants as operand
use Rattle.il_base.specs.declared.body.Instr.{Instr}
use Rattle.il_base.specs.declared.body.Handler.{Handler}
use Rattle.il_base.specs.declared.body.Body.{Body}
use Rattle.il_base.specs.declared.world_model.known.Known.{Known}
use Rattle.il_base.specs.declared.world_model.types.TypeDefRow.{TypeDefRow}
use Rattle.il_base.specs.declared.world_model.members.FieldRow.{FieldRow}
use Rattle.il_base.specs.declared.world_model.members.MethodDefRow.{MethodDefRow}
use Rattle.il_base.specs.declared.world_model.members.ParamRow.{ParamRow}
use Rattle.il_base.specs.declared.world_model.members.PropertyRow.{PropertyRow}
use Rattle.il_base.specs.declared.world_model.members.EventRow.{EventRow}
use Rattle.il_base.specs.declared.world_model.members.StandAloneSigRow.{StandAloneSigRow}
use Rattle.il_base.specs.declared.world_model.record.UserText.{UserText}
use Rattle.il_base.specs.declared.world_model.record.AsmRec.{AsmRec}
use Rattle.il_base.specs.world_model.Tokens.{table_of, index_in}
use Rattle.il_base.specs.world_model.Worlds.{known_map}
use Rattle.rules.specs.file_layout.Interning.{each_once}
use Rattle.rules.specs.file_layout.Heaps.{user_place}
use Rattle.rules.specs.declared.link_rules.row_at.RowAt.{RowAt}
use Rattle.rules.specs.link_rules.Cycles.{listed, same_row}
use Rattle.rules.specs.type_rules.Rows.{rec_at}
use Rattle.rules.specs.mark_rules.Bodies.{body_of, is_field_token, is_method_token, is_catch, is_text_of}
use Rattle.rules.specs.merge_rules.Numbers.{kept_types, kept_methods, kept_fields}
use Rattle.rules.specs.merge_rules.Names.{NewName, new_names, is_top_level}
use Rattle.rules.specs.merge_rules.Keys.{good, world_sig, world_sigs, world_method_sig, type_key, method_key, field_key, instance_key}
use Rattle.rules.specs.merge_rules.Refs.{Output, first_or, key_token, method_token, field_token, instance_token, locals_token, new_sig, new_method_sig}
use Rattle.rules.specs.merge_rules.Rows.{run_at, kept_params}

-- ---- signatures

abbrev pub moved_sig : Output → ℕ → AsmRec → Known Sig → Known Sig
moved_sig o a rec s = known_map (λ x. new_sig o (world_sig o.recs a rec x)) s

abbrev pub moved_method_sig : Output → ℕ → AsmRec → Known MethodSig → Known MethodSig
moved_method_sig o a rec s = known_map (λ x. new_method_sig o (world_method_sig o.recs a rec x)) s

-- ---- tokens

abbrev pub token_or_none : {A : Type 0} → (A → ℕ) → Option A → ℕ
token_or_none token key = first_or (map token (listed key)) 0

unfoldable pub moved_type : Output → ℕ → AsmRec → ℕ → ℕ
moved_type o a rec token = token_or_none (key_token o) (type_key o.recs a rec token)

unfoldable pub moved_callee : Output → ℕ → AsmRec → ℕ → ℕ
moved_callee o a rec token =
    if table_of token == table.METHOD_SPEC then token_or_none (instance_token o) (instance_key o.recs a rec token)
    else token_or_none (method_token o) (method_key o.recs a rec token)

unfoldable pub moved_field : Output → ℕ → AsmRec → ℕ → ℕ
moved_field o a rec token = token_or_none (field_token o) (field_key o.recs a rec token)

-- the operand of `ldtoken` (III.4.17)
abbrev pub moved_any : Output → ℕ → AsmRec → ℕ → ℕ
moved_any o a rec token =
    if is_field_token rec token then moved_field o a rec token
    else if is_method_token token then moved_callee o a rec token
    else moved_type o a rec token

-- ---- texts of `ldstr` (III.4.16), each once, in the order of bodies

abbrev pub texts_named : AsmRec → ℕ → List (List ℕ)
texts_named rec token = map (λ (t : UserText). t.text) (listed (find (is_text_of token) rec.user))

abbrev pub texts_by : AsmRec → Form → Operand → List (List ℕ)
texts_by rec form.LdStr (operand.Token token) = texts_named rec token
texts_by rec _ _ = []

abbrev pub texts_of_body : AsmRec → Body → List (List ℕ)
texts_of_body rec b = flat_map (λ (i : Instr). texts_by rec i.form i.operand) b.code

abbrev pub texts_of_method : List AsmRec → RowAt → List (List ℕ)
texts_of_method recs at =
    flat_map (λ (rec : AsmRec). flat_map (λ (m : MethodDefRow). flat_map (texts_of_body rec) (body_of m)) (listed (slice_get rec.method_def at.row))) (listed (rec_at recs at))

unfoldable pub kept_texts : Output → List (List ℕ)
kept_texts o = each_once (flat_map (texts_of_method o.recs) (kept_methods o.recs o.kept))

-- the token of a text, by its offset in `#US`
abbrev pub text_token : Output → List ℕ → ℕ
text_token o units = (table.USER_STRING * 16777216 + user_place (kept_texts o) units) % 4294967296

abbrev pub moved_text : Output → AsmRec → ℕ → ℕ
moved_text o rec token = first_or (map (text_token o) (texts_named rec token)) 0

-- ---- bodies (II.25.4): opcodes, offsets and the form of the header stay

abbrev pub moved_by_form : Output → ℕ → AsmRec → Form → ℕ → ℕ
moved_by_form o a rec form.Call token = moved_callee o a rec token
moved_by_form o a rec form.NewObj token = moved_callee o a rec token
moved_by_form o a rec form.Field token = moved_field o a rec token
moved_by_form o a rec form.LdStr token = moved_text o rec token
moved_by_form o a rec form.LdToken token = moved_any o a rec token
moved_by_form o a rec _ token = moved_type o a rec token

abbrev pub moved_operand : Output → ℕ → AsmRec → Form → Operand → Operand
moved_operand o a rec f (operand.Token token) = operand.Token (moved_by_form o a rec f token)
moved_operand o a rec f x = x

abbrev pub moved_instr : Output → ℕ → AsmRec → Instr → Instr
moved_instr o a rec i = record i { operand = moved_operand o a rec i.form i.operand }

-- a handler with its new type token; only a catch clause names a type, in any other clause the cell stays
abbrev pub moved_handler : Output → ℕ → AsmRec → Handler → Handler
moved_handler o a rec h = if is_catch h then record h { token = moved_type o a rec h.token } else h

abbrev pub locals_row_token : Output → ℕ → AsmRec → StandAloneSigRow → ℕ
locals_row_token o a rec row = token_or_none (λ ss. locals_token o (world_sigs o.recs a rec ss)) (good row.signature)

unfoldable pub moved_locals : Output → ℕ → AsmRec → ℕ → ℕ
moved_locals o a rec token = token_or_none (locals_row_token o a rec) (option_and_then (slice_get rec.stand_alone_sig) (index_in table.STAND_ALONE_SIG token))

unfoldable pub moved_body : Output → ℕ → AsmRec → Body → Body
moved_body o a rec b =
    record b { locals = moved_locals o a rec b.locals; code = map (moved_instr o a rec) b.code; handlers = map (moved_handler o a rec) b.handlers }

-- ---- flags

-- flags with some bits cleared: visibility, or a flag like HasSecurity, whose table isn't written
abbrev pub without : ℕ → ℕ → ℕ
without flag flags = flags - bit_and flags flag

-- ---- rows of kept items

-- The visibility of a type in the output: `--internalize` makes a public type not public, where it isn't nested and not of the
-- first input (II.23.1.15).
abbrev pub moved_visibility : Bool → Output → RowAt → ℕ → ℕ
moved_visibility internalize o at flags =
    if internalize && nat_lt 0 at.asm && is_top_level o.recs at && bit_and flags type_flag.VISIBILITY_MASK == type_flag.PUBLIC
    then without type_flag.VISIBILITY_MASK flags else flags

abbrev pub is_renamed : RowAt → NewName → Bool
is_renamed at n = same_row at n.typ

abbrev pub written_name : Output → RowAt → List ℕ → List ℕ
written_name o at name = first_or (map (λ (n : NewName). n.name) (listed (find (is_renamed at) (new_names o.recs (kept_types o.recs o.kept))))) name

abbrev pub moved_type_row : Bool → Output → RowAt → AsmRec → TypeDefRow → TypeDefRow
moved_type_row internalize o at rec t = record t {
  flags = moved_visibility internalize o at (without type_flag.HAS_SECURITY t.flags);
  name = written_name o at t.name;
  extends = moved_type o at.asm rec t.extends;
  field_list_first = run_at (kept_fields o.recs o.kept) at.asm t.field_list_first;
  field_list_end = run_at (kept_fields o.recs o.kept) at.asm t.field_list_end;
  method_list_first = run_at (kept_methods o.recs o.kept) at.asm t.method_list_first;
  method_list_end = run_at (kept_methods o.recs o.kept) at.asm t.method_list_end;
}

abbrev pub moved_field_row : Output → RowAt → AsmRec → FieldRow → FieldRow
moved_field_row o at rec f = record f { flags = without field_flag.HAS_FIELD_MARSHAL f.flags; signature = moved_sig o at.asm rec f.signature }

-- the row of a kept method; the layout of the file gives it the RVA of its body
abbrev pub moved_method_row : Output → RowAt → AsmRec → MethodDefRow → MethodDefRow
moved_method_row o at rec m = record m {
  rva = 0;
  flags = without method_flag.HAS_SECURITY m.flags;
  signature = moved_method_sig o at.asm rec m.signature;
  param_list_first = run_at (kept_params o.recs o.kept) at.asm m.param_list_first;
  param_list_end = run_at (kept_params o.recs o.kept) at.asm m.param_list_end;
  body = option_map (known_map (moved_body o at.asm rec)) m.body;
  bad_at = 0;
}

abbrev pub moved_param_row : ParamRow → ParamRow
moved_param_row p = record p { flags = without param_flag.HAS_FIELD_MARSHAL p.flags }

abbrev pub moved_property_row : Output → RowAt → AsmRec → PropertyRow → PropertyRow
moved_property_row o at rec p = record p { signature = moved_method_sig o at.asm rec p.signature }

abbrev pub moved_event_row : Output → RowAt → AsmRec → EventRow → EventRow
moved_event_row o at rec e = record e { event_type = moved_type o at.asm rec e.event_type }
