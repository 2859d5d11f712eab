-- Signatures, bodies and rows with new tokens.
use Rattle.std.specs.Prelude.{ℕ, nat_eq, map, unwrap_or, if◌then◌else◌}
use Rattle.std.specs.Option.{option_map}
use Rattle.std.specs.HashMap.{get}
use Rattle.il_base.specs.declared.field_flags.TheConstants as field_flag
use Rattle.il_base.specs.declared.method_flags.TheConstants as method_flag
use Rattle.il_base.specs.declared.sig.Sig.{Sig, fold-Sig}
use Rattle.il_base.specs.declared.sig.Sig.TheOpen.{Sig-F}
use Rattle.il_base.specs.declared.sig.Sig as sig
use Rattle.il_base.specs.declared.sig.MethodSig.{MethodSig}
use Rattle.il_base.specs.declared.body.Form.{Form}
use Rattle.il_base.specs.declared.body.Form.TheVariants as form
use Rattle.il_base.specs.declared.body.Operand.{Operand}
use Rattle.il_base.specs.declared.body.Operand.TheVariants as operand
use Rattle.il_base.specs.declared.body.Instr.{Instr}
use Rattle.il_base.specs.declared.body.Handler.{Handler}
use Rattle.il_base.specs.declared.body.Body.{Body}
use Rattle.il_base.specs.declared.world_model.members.FieldRow.{FieldRow}
use Rattle.il_base.specs.declared.world_model.members.MethodDefRow.{MethodDefRow}
use Rattle.il_base.specs.declared.world_model.members.PropertyRow.{PropertyRow}
use Rattle.il_base.specs.declared.world_model.members.EventRow.{EventRow}
use Rattle.il_base.specs.declared.world_model.record.AsmRec.{AsmRec}
use Rattle.il_base.specs.world_model.Worlds.{known_map}
use Rattle.rules.specs.mark_rules.Bodies.{is_field_token, is_method_token, is_catch}
use Rattle.rules.specs.merge_rules.Moved.{without}
use Rattle.merge_plan.specs.declared.moved_parts.tokens.TokenMap.{TokenMap}
use Rattle.merge_plan.specs.declared.moved_parts.tokens.NewTokens.{NewTokens}

-- ---- tokens

-- the new token of a token; 0 where it has none
abbrev pub new_token : TokenMap → ℕ → ℕ
new_token m token = unwrap_or (get nat_eq m.tokens token) 0

abbrev pub any_by : NewTokens → AsmRec → ℕ → ℕ
any_by t rec token =
    if is_field_token rec token then new_token t.fields token
    else if is_method_token token then new_token t.callees token
    else new_token t.types token

abbrev pub form_by : NewTokens → AsmRec → Form → ℕ → ℕ
form_by t rec form.Call token = new_token t.callees token
form_by t rec form.NewObj token = new_token t.callees token
form_by t rec form.Field token = new_token t.fields token
form_by t rec form.LdStr token = new_token t.texts token
form_by t rec form.LdToken token = any_by t rec token
form_by t rec _ token = new_token t.types token

-- ---- signatures

abbrev pub sig_layer : NewTokens → Sig-F Sig → Sig
sig_layer t (Sig-F.Prim n) = sig.Prim n
sig_layer t (Sig-F.Named value token) = sig.Named value (new_token t.classes token)
sig_layer t (Sig-F.Array x) = sig.Array x
sig_layer t (Sig-F.ByRef x) = sig.ByRef x
sig_layer t (Sig-F.Inst value token args) = sig.Inst value (new_token t.classes token) args
sig_layer t (Sig-F.Var n) = sig.Var n
sig_layer t (Sig-F.MVar n) = sig.MVar n
sig_layer t (Sig-F.Mod required token x) = sig.Mod required (new_token t.modifiers token) x
sig_layer t (Sig-F.Pinned x) = sig.Pinned x

unfoldable pub sig_by : NewTokens → Sig → Sig
sig_by t = fold-Sig Sig (sig_layer t)

abbrev pub method_sig_by : NewTokens → MethodSig → MethodSig
method_sig_by t s = record s { ret = sig_by t s.ret; params = map (sig_by t) s.params }

-- ---- bodies

abbrev pub operand_by : NewTokens → AsmRec → Form → Operand → Operand
operand_by t rec f (operand.Token token) = operand.Token (form_by t rec f token)
operand_by t rec f x = x

unfoldable pub instr_by : NewTokens → AsmRec → Instr → Instr
instr_by t rec i = record i { operand = operand_by t rec i.form i.operand }

abbrev pub handler_by : NewTokens → Handler → Handler
handler_by t h = if is_catch h then record h { token = new_token t.types h.token } else h

unfoldable pub body_by : NewTokens → AsmRec → Body → Body
body_by t rec b = record b { locals = new_token t.locals b.locals; code = map (instr_by t rec) b.code; handlers = map (handler_by t) b.handlers }

-- ---- rows

abbrev pub field_by : NewTokens → FieldRow → FieldRow
field_by t f = record f { flags = without field_flag.HAS_FIELD_MARSHAL f.flags; signature = known_map (sig_by t) f.signature }

-- a method's row with new tokens and the run of its parameters; the layout of the file gives it the RVA of its body
abbrev pub method_by : NewTokens → AsmRec → ℕ → ℕ → MethodDefRow → MethodDefRow
method_by t rec first end m = record m {
  rva = 0;
  flags = without method_flag.HAS_SECURITY m.flags;
  signature = known_map (method_sig_by t) m.signature;
  param_list_first = first;
  param_list_end = end;
  body = option_map (known_map (body_by t rec)) m.body;
  bad_at = 0;
}

abbrev pub property_by : NewTokens → PropertyRow → PropertyRow
property_by t p = record p { signature = known_map (method_sig_by t) p.signature }

abbrev pub event_by : NewTokens → EventRow → EventRow
event_by t e = record e { event_type = new_token t.types e.event_type }
