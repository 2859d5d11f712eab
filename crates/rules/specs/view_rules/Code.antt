-- A method's body with its references resolved (II.25.4, III.1.2).
use Rattle.std.specs.Prelude.{ℕ, ◌+◌, ◌%◌, List, [], length, map, Option, Some, None, slice_get, find, ◌==◌, Bool, if◌then◌else◌}
use Rattle.std.specs.Option.{option_and_then}
use Rattle.il_base.specs.declared.body.Form.{Form}
use Rattle.il_base.specs.declared.body.Form.TheVariants as form
use Rattle.il_base.specs.declared.body.Operand.{Operand}
use Rattle.il_base.specs.declared.body.Operand.TheVariants as operand
use Rattle.il_base.specs.declared.body.Instr.{Instr}
use Rattle.il_base.specs.declared.body.Handler.{Handler}
use Rattle.il_base.specs.declared.body.Body.{Body}
use Rattle.il_base.specs.declared.table.TheConstants.{STAND_ALONE_SIG}
use Rattle.il_base.specs.declared.world_model.known.Known.{Known}
use Rattle.il_base.specs.declared.world_model.known.Known.TheVariants.{Good, Bad}
use Rattle.il_base.specs.declared.world_model.known.BadKind.TheVariants.{Unresolved}
use Rattle.il_base.specs.declared.world_model.expr.TypeExpr.{TypeExpr}
use Rattle.il_base.specs.declared.world_model.members.StandAloneSigRow.{StandAloneSigRow}
use Rattle.il_base.specs.declared.world_model.record.UserText.{UserText}
use Rattle.il_base.specs.declared.world_model.record.AsmRec.{AsmRec}
use Rattle.il_base.specs.world_model.Tokens.{index_in}
use Rattle.il_base.specs.world_model.Worlds.{known_then}
use Rattle.il_base.specs.body_grammar.BodySpelling.{instr_bytes}
use Rattle.rules.specs.link_rules.Signatures.{names_at, token_type}
use Rattle.rules.specs.link_rules.Members.{arguments_of}
use Rattle.rules.specs.mark_rules.Naming.{method_named, field_named}
use Rattle.rules.specs.mark_rules.Bodies.{is_field_token, is_method_token, is_catch}
use Rattle.il_base.specs.declared.cil_values.resolved.Use.{Use}
use Rattle.il_base.specs.declared.cil_values.resolved.Instruction.{Instruction}
use Rattle.il_base.specs.declared.cil_values.resolved.ClauseKind.{ClauseKind as Kind}
use Rattle.il_base.specs.declared.cil_values.resolved.Clause.{Clause}
use Rattle.il_base.specs.declared.cil_values.resolved.Code.{Code}
use Rattle.il_base.specs.declared.cil_values.resolved.Use.TheVariants as use_of
use Rattle.il_base.specs.declared.cil_values.resolved.ClauseKind.TheVariants.{Catch as catches, Finally as finally, Fault as fault}

-- ---- operands

abbrev pub is_token : ℕ → UserText → Bool
is_token token t = t.token == token

abbrev pub text_by : Option UserText → Known (List ℕ)
text_by None = Bad Unresolved
text_by (Some t) = Good t.text

-- the text that `ldstr` names (III.4.16)
abbrev pub text_named : AsmRec → ℕ → Known (List ℕ)
text_named rec token = text_by (find (is_token token) rec.user)

abbrev pub handle_use : List AsmRec → ℕ → AsmRec → ℕ → Use
handle_use recs a rec token =
    if is_field_token rec token then use_of.Field (field_named recs a rec token)
    else if is_method_token token then use_of.Method (method_named recs a rec token)
    else use_of.Typ (token_type recs a rec token)

abbrev pub token_use : List AsmRec → ℕ → AsmRec → Form → ℕ → Use
token_use recs a rec form.Call token = use_of.Method (method_named recs a rec token)
token_use recs a rec form.NewObj token = use_of.Method (method_named recs a rec token)
token_use recs a rec form.Field token = use_of.Field (field_named recs a rec token)
token_use recs a rec form.LdStr token = use_of.Text (text_named rec token)
token_use recs a rec form.LdToken token = handle_use recs a rec token
token_use recs a rec _ token = use_of.Typ (token_type recs a rec token)

abbrev pub use_by : List AsmRec → ℕ → AsmRec → Form → Operand → Use
use_by recs a rec f operand.None = use_of.Nothing
use_by recs a rec f (operand.Number n) = use_of.Number n
use_by recs a rec f (operand.Slot n) = use_of.Slot n
use_by recs a rec f (operand.Token token) = token_use recs a rec f token
use_by recs a rec f (operand.Target at) = use_of.Target at
use_by recs a rec f (operand.Targets ts) = use_of.Targets ts

-- an instruction with its operand resolved; IL offsets have 32 bits
unfoldable pub instruction_of : List AsmRec → ℕ → AsmRec → Instr → Instruction
instruction_of recs a rec i = record { at = i.at; next = (i.at + length (instr_bytes i)) % 4294967296; form = i.form; opcode = i.opcode; operand = use_by recs a rec i.form i.operand }

-- ---- clauses (II.25.4.6)

abbrev pub kind_by : ℕ → Kind
kind_by n = if n == 0 then catches else if n == 2 then finally else fault

-- the type of a catch clause; another clause has none
abbrev pub caught_by : List AsmRec → ℕ → AsmRec → Handler → Known TypeExpr
caught_by recs a rec h = if is_catch h then token_type recs a rec h.token else Bad Unresolved

unfoldable pub clause_of : List AsmRec → ℕ → AsmRec → Handler → Clause
clause_of recs a rec h = record {
  kind = kind_by h.kind;
  try_at = h.try_at;
  try_end = h.try_at + h.try_len;
  at = h.at;
  end = h.at + h.len;
  caught = caught_by recs a rec h;
}

-- ---- locals (II.23.2.6)

abbrev pub locals_row : List AsmRec → ℕ → AsmRec → Option StandAloneSigRow → Known (List TypeExpr)
locals_row recs a rec None = Bad Unresolved
locals_row recs a rec (Some row) = known_then (arguments_of (names_at recs a rec)) row.signature

-- the types of a body's locals; with a token of 0 there are none
abbrev pub locals_of : List AsmRec → ℕ → AsmRec → ℕ → Known (List TypeExpr)
locals_of recs a rec token =
    if token == 0 then Good [] else locals_row recs a rec (option_and_then (slice_get rec.stand_alone_sig) (index_in STAND_ALONE_SIG token))

-- ---- bodies

unfoldable pub code_of : List AsmRec → ℕ → AsmRec → Body → Code
code_of recs a rec b = record {
  locals = locals_of recs a rec b.locals;
  code = map (instruction_of recs a rec) b.code;
  clauses = map (clause_of recs a rec) b.handlers;
}
