-- What a method's body names (II.25.4, III.1.9): the operands of all its instructions, reached or not, its locals, and the types
-- that its handlers catch.
use Rattle.std.specs.Prelude.{ℕ, List, [], ◌∷◌, ◌++◌, Option, Some, None, slice_get, ◌==◌, ◌&&◌, ◌||◌, Bool, true, false, if◌then◌else◌}
use Rattle.std.specs.List.{list_any, flat_map}
use Rattle.std.specs.Option.{option_and_then}
use Rattle.il_base.specs.declared.body.Form.{Form}
use Rattle.il_base.specs.declared.body.Form.TheVariants as form
use Rattle.il_base.specs.declared.body.Operand.{Operand}
use Rattle.il_base.specs.declared.body.Operand.TheVariants as operand
use Rattle.il_base.specs.declared.body.Instr.{Instr}
use Rattle.il_base.specs.declared.body.Handler.{Handler}
use Rattle.il_base.specs.declared.body.Body.{Body}
use Rattle.il_base.specs.declared.table.TheConstants.{FIELD, METHOD_DEF, MEMBER_REF, METHOD_SPEC, STAND_ALONE_SIG}
use Rattle.il_base.specs.declared.world_model.known.Known.{Known}
use Rattle.il_base.specs.declared.world_model.known.Known.TheVariants.{Good, Bad}
use Rattle.il_base.specs.declared.world_model.known.BadKind.TheVariants.{Unresolved}
use Rattle.il_base.specs.declared.world_model.members.StandAloneSigRow.{StandAloneSigRow}
use Rattle.il_base.specs.declared.world_model.members.MemberRefRow.{MemberRefRow}
use Rattle.il_base.specs.declared.world_model.members.MethodDefRow.{MethodDefRow}
use Rattle.il_base.specs.declared.world_model.record.UserText.{UserText}
use Rattle.il_base.specs.declared.world_model.record.AsmRec.{AsmRec}
use Rattle.il_base.specs.world_model.Tokens.{table_of, index_in}
use Rattle.rules.specs.link_rules.Members.{is_field_sig}
use Rattle.rules.specs.link_rules.Cycles.{listed}
use Rattle.rules.specs.mark_rules.Naming.{Part, bad_part, sigs_parts, type_token_part, method_token_part, field_token_part}

-- ---- operands

abbrev pub is_field_row : Option MemberRefRow → Bool
is_field_row None = false
is_field_row (Some row) = is_field_sig row.signature

-- whether a token names a field and not a method
abbrev pub is_field_token : AsmRec → ℕ → Bool
is_field_token rec token =
    table_of token == FIELD || (table_of token == MEMBER_REF && is_field_row (option_and_then (slice_get rec.member_ref) (index_in MEMBER_REF token)))

abbrev pub is_method_token : ℕ → Bool
is_method_token token = table_of token == METHOD_DEF || table_of token == MEMBER_REF || table_of token == METHOD_SPEC

-- the operand of `ldtoken` (III.4.17): a type, a field or a method
abbrev pub any_token_part : List AsmRec → ℕ → AsmRec → ℕ → ℕ → ℕ → Part
any_token_part recs a rec place offset token =
    if is_field_token rec token then field_token_part recs a rec place offset token
    else if is_method_token token then method_token_part recs a rec place offset token
    else type_token_part recs a rec place offset token

abbrev pub is_text_of : ℕ → UserText → Bool
is_text_of token t = t.token == token

-- `ldstr` of a text that isn't there is unresolved (III.4.16); one that is names nothing
abbrev pub text_parts : AsmRec → ℕ → ℕ → ℕ → List Part
text_parts rec place offset token = if list_any (is_text_of token) rec.user then [] else record { token = place; at = offset; named = Bad Unresolved } ∷ []

-- what the token of an instruction names, by the instruction's form
abbrev pub token_parts : List AsmRec → ℕ → AsmRec → ℕ → ℕ → Form → ℕ → List Part
token_parts recs a rec place offset form.Call token = method_token_part recs a rec place offset token ∷ []
token_parts recs a rec place offset form.NewObj token = method_token_part recs a rec place offset token ∷ []
token_parts recs a rec place offset form.Field token = field_token_part recs a rec place offset token ∷ []
token_parts recs a rec place offset form.LdToken token = any_token_part recs a rec place offset token ∷ []
token_parts recs a rec place offset form.LdStr token = text_parts rec place offset token
token_parts recs a rec place offset _ token = type_token_part recs a rec place offset token ∷ []

abbrev pub operand_parts : List AsmRec → ℕ → AsmRec → ℕ → ℕ → Form → Operand → List Part
operand_parts recs a rec place offset f (operand.Token token) = token_parts recs a rec place offset f token
operand_parts recs a rec place offset f _ = []

abbrev pub instruction_parts : List AsmRec → ℕ → AsmRec → ℕ → Instr → List Part
instruction_parts recs a rec place i = operand_parts recs a rec place i.at i.form i.operand

-- ---- locals and handlers

abbrev pub locals_row_parts : List AsmRec → ℕ → AsmRec → ℕ → Option StandAloneSigRow → List Part
locals_row_parts recs a rec place None = bad_part place Unresolved ∷ []
locals_row_parts recs a rec place (Some row) = sigs_parts recs a rec place row.signature

-- the types of a body's locals (II.23.2.6); a token of 0 is none
abbrev pub locals_parts : List AsmRec → ℕ → AsmRec → ℕ → ℕ → List Part
locals_parts recs a rec place token =
    if token == 0 then [] else locals_row_parts recs a rec place (option_and_then (slice_get rec.stand_alone_sig) (index_in STAND_ALONE_SIG token))

-- a catch clause names a type (II.25.4.6)
abbrev pub is_catch : Handler → Bool
is_catch h = h.kind == 0

abbrev pub handler_parts : List AsmRec → ℕ → AsmRec → ℕ → Handler → List Part
handler_parts recs a rec place h = if is_catch h then type_token_part recs a rec place 0 h.token ∷ [] else []

-- ---- bodies

abbrev pub is_read : {A : Type 0} → Known A → Bool
is_read (Good x) = true
is_read (Bad why) = false

-- whether a locals token is 0 or names a signature that has a reading
abbrev pub are_locals_read : AsmRec → ℕ → Bool
are_locals_read rec token =
    token == 0 || list_any (λ (row : StandAloneSigRow). is_read row.signature) (listed (option_and_then (slice_get rec.stand_alone_sig) (index_in STAND_ALONE_SIG token)))

-- The operands of a body. There are none where the method's signature or the locals have no reading.
abbrev pub operands_of : List AsmRec → ℕ → AsmRec → ℕ → Bool → Body → List Part
operands_of recs a rec place read b = if read && are_locals_read rec b.locals then flat_map (instruction_parts recs a rec place) b.code else []

-- What a body names but the types that it catches. `read` says whether the method's signature has a reading.
abbrev pub code_parts : List AsmRec → ℕ → AsmRec → ℕ → Bool → Body → List Part
code_parts recs a rec place read b = locals_parts recs a rec place b.locals ++ operands_of recs a rec place read b

abbrev pub body_parts : List AsmRec → ℕ → AsmRec → ℕ → Bool → Body → List Part
body_parts recs a rec place read b = code_parts recs a rec place read b ++ flat_map (handler_parts recs a rec place) b.handlers

-- the body of a method; none where it has no reading
abbrev pub body_of : MethodDefRow → List Body
body_of m = flat_map good_body (listed m.body)
  where
    good_body : Known Body → List Body
    good_body (Good b) = b ∷ []
    good_body (Bad why) = []
