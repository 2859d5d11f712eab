-- What an instruction takes from the evaluation stack and puts there (III.3, III.4).
use Rattle.std.specs.Prelude.{ℕ, ◌+◌, List, Option, Some, None, ◌==◌, ◌&&◌, ◌||◌, nat_le, Bool, true, false, if◌then◌else◌}
use Rattle.std.specs.Option.{is_some, option_and_then, option_map}
use Rattle.std.specs.List.{list_any}
use Rattle.il_base.specs.declared.body.Form.{Form}
use Rattle.il_base.specs.declared.body.Form.TheVariants as form
use Rattle.il_base.specs.declared.body.Operand.{Operand}
use Rattle.il_base.specs.declared.body.Operand.TheVariants as operand
use Rattle.il_base.specs.declared.body.Instr.{Instr}
use Rattle.il_base.specs.declared.opcode.TheConstants as op
use Rattle.il_base.specs.declared.world_model.known.Known.{Known}
use Rattle.il_base.specs.declared.world_model.known.Known.TheVariants.{Good, Bad}
use Rattle.il_base.specs.declared.world_model.record.AsmRec.{AsmRec}
use Rattle.rules.specs.link_rules.Signatures.{token_type}
use Rattle.rules.specs.mark_rules.Naming.{method_named, field_named}
use Rattle.rules.specs.mark_rules.Bodies.{is_field_token, is_method_token, is_text_of}
use Rattle.rules.specs.declared.flow_rules.called.Called.{Called}
use Rattle.rules.specs.flow_rules.Methods.{called_in}

-- ---- what an operand names

abbrev pub good_one : {A : Type 0} → Known A → Option A
good_one (Good x) = Some x
good_one (Bad why) = None

-- the signature of the method that a token names; None where it names none, or the signature has no reading
abbrev pub called_token : List AsmRec → ℕ → AsmRec → ℕ → Option Called
called_token recs a rec token = option_and_then (called_in recs) (good_one (method_named recs a rec token))

abbrev pub called_operand : List AsmRec → ℕ → AsmRec → Operand → Option Called
called_operand recs a rec (operand.Token token) = called_token recs a rec token
called_operand recs a rec _ = None

-- ---- operands that name something

-- what `ldtoken` takes (III.4.17): a field, a method whose signature has a reading, or a type
abbrev pub is_good_handle : List AsmRec → ℕ → AsmRec → ℕ → Bool
is_good_handle recs a rec token =
    if is_field_token rec token then is_some (good_one (field_named recs a rec token))
    else if is_method_token token then is_some (called_token recs a rec token)
    else is_some (good_one (token_type recs a rec token))

-- whether the token of an instruction names what its form takes
abbrev pub is_good_token : List AsmRec → ℕ → AsmRec → Form → ℕ → Bool
is_good_token recs a rec form.Call token = is_some (good_one (method_named recs a rec token))
is_good_token recs a rec form.NewObj token = is_some (good_one (method_named recs a rec token))
is_good_token recs a rec form.Field token = is_some (good_one (field_named recs a rec token))
is_good_token recs a rec form.LdStr token = list_any (is_text_of token) rec.user
is_good_token recs a rec form.LdToken token = is_good_handle recs a rec token
is_good_token recs a rec _ token = is_some (good_one (token_type recs a rec token))

abbrev pub is_good_operand : List AsmRec → ℕ → AsmRec → Form → Operand → Bool
is_good_operand recs a rec f (operand.Token token) = is_good_token recs a rec f token
is_good_operand recs a rec f _ = true

-- ---- counts: values taken, and values put there after that

abbrev pub one_if : Bool → ℕ
one_if true = 1
one_if false = 0

abbrev pub call_counts : Called → ℕ × ℕ
call_counts c = (one_if c.this + c.params, one_if c.returns)

-- `newobj` makes `this` (III.4.21)
abbrev pub creation_counts : Called → ℕ × ℕ
creation_counts c = (c.params, 1)

abbrev pub is_truth_test : ℕ → Bool
is_truth_test n = n == op.BRTRUE || n == op.BRTRUE_S || n == op.BRFALSE || n == op.BRFALSE_S

abbrev pub field_counts : ℕ → ℕ × ℕ
field_counts n =
    if n == op.LDFLD then (1, 1)
    else if n == op.LDFLDA then (1, 1)
    else if n == op.STFLD then (2, 0)
    else if n == op.STSFLD then (1, 0)
    else (0, 1)

abbrev pub is_element_store : ℕ → Bool
is_element_store n = nat_le op.STELEM_I n && nat_le n op.STELEM_REF || n == op.STELEM

abbrev pub element_counts : ℕ → ℕ × ℕ
element_counts n = if n == op.LDLEN then (1, 1) else if is_element_store n then (3, 0) else (2, 1)

abbrev pub is_indirect_store : ℕ → Bool
is_indirect_store n = nat_le op.STIND_REF n && nat_le n op.STIND_I8 || n == op.STIND_I || n == op.STOBJ || n == op.CPOBJ

abbrev pub indirect_counts : ℕ → ℕ × ℕ
indirect_counts n = if n == op.INITOBJ then (1, 0) else if is_indirect_store n then (2, 0) else (1, 1)

-- of the forms that name no method; `ret` takes what the method returns
unfoldable pub plain_counts : Bool → Form → ℕ → ℕ × ℕ
plain_counts returns form.Nop n = (0, 0)
plain_counts returns form.LdArg n = (0, 1)
plain_counts returns form.LdArgA n = (0, 1)
plain_counts returns form.StArg n = (1, 0)
plain_counts returns form.LdLoc n = (0, 1)
plain_counts returns form.LdLocA n = (0, 1)
plain_counts returns form.StLoc n = (1, 0)
plain_counts returns form.LdNull n = (0, 1)
plain_counts returns form.LdI4 n = (0, 1)
plain_counts returns form.LdI8 n = (0, 1)
plain_counts returns form.LdStr n = (0, 1)
plain_counts returns form.Dup n = (1, 2)
plain_counts returns form.Pop n = (1, 0)
plain_counts returns form.Br n = (0, 0)
plain_counts returns form.BrIf n = if is_truth_test n then (1, 0) else (2, 0)
plain_counts returns form.Switch n = (1, 0)
plain_counts returns form.Leave n = (0, 0)
plain_counts returns form.EndFinally n = (0, 0)
plain_counts returns form.Binary n = (2, 1)
plain_counts returns form.Unary n = (1, 1)
plain_counts returns form.Convert n = (1, 1)
plain_counts returns form.Call n = (0, 0)
plain_counts returns form.Ret n = (one_if returns, 0)
plain_counts returns form.NewObj n = (0, 0)
plain_counts returns form.Throw n = if n == op.THROW then (1, 0) else (0, 0)
plain_counts returns form.Cast n = (1, 1)
plain_counts returns form.Box n = (1, 1)
plain_counts returns form.Unbox n = (1, 1)
plain_counts returns form.Field n = field_counts n
plain_counts returns form.NewArr n = (1, 1)
plain_counts returns form.Elem n = element_counts n
plain_counts returns form.Indirect n = indirect_counts n
plain_counts returns form.LdToken n = (0, 1)
plain_counts returns form.Prefix n = (0, 0)

abbrev pub counts_by : List AsmRec → ℕ → AsmRec → Bool → Form → ℕ → Operand → Option (ℕ × ℕ)
counts_by recs a rec returns form.Call n o = option_map call_counts (called_operand recs a rec o)
counts_by recs a rec returns form.NewObj n o = option_map creation_counts (called_operand recs a rec o)
counts_by recs a rec returns f n o = Some (plain_counts returns f n)

-- None for an instruction whose operand names nothing, or a method whose signature has no reading
unfoldable pub counts_of : List AsmRec → ℕ → AsmRec → Bool → Instr → Option (ℕ × ℕ)
counts_of recs a rec returns i =
    if is_good_operand recs a rec i.form i.operand then counts_by recs a rec returns i.form i.opcode i.operand else None
