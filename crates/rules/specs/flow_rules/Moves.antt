-- What each instruction does with sources (III.3, III.4), and the sources of a method's body.
use Rattle.std.specs.Prelude.{ℕ, zero, suc, ◌+◌, List, [], ◌∷◌, ◌++◌, map, replicate, codes, Option, Some, None, ◌==◌, ◌&&◌, ◌||◌, nat_lt, Bool, true, false, if◌then◌else◌}
use Rattle.std.specs.List.{flat_map}
use Rattle.std.specs.Option.{option_and_then}
use Rattle.il_base.specs.declared.ids.TypeId.{TypeId}
use Rattle.il_base.specs.declared.ids.MethodId.{MethodId}
use Rattle.il_base.specs.declared.body.Form.{Form}
use Rattle.il_base.specs.declared.body.Form.TheVariants as form
use Rattle.il_base.specs.declared.body.Operand.{Operand}
use Rattle.il_base.specs.declared.body.Operand.TheVariants as operand
use Rattle.il_base.specs.declared.body.Instr.{Instr}
use Rattle.il_base.specs.declared.opcode.TheConstants as op
use Rattle.il_base.specs.declared.world_model.expr.TypeExpr.{TypeExpr}
use Rattle.il_base.specs.declared.world_model.expr.MethodUse.{MethodUse}
use Rattle.il_base.specs.declared.world_model.expr.FieldUse.{FieldUse}
use Rattle.il_base.specs.declared.world_model.record.UserText.{UserText}
use Rattle.il_base.specs.declared.world_model.record.AsmRec.{AsmRec}
use Rattle.rules.specs.link_rules.Signatures.{token_type}
use Rattle.rules.specs.link_rules.Cycles.{listed, add_all}
use Rattle.rules.specs.mark_rules.Naming.{method_named, field_named}
use Rattle.rules.specs.mark_rules.Bodies.{is_field_token, is_method_token}
use Rattle.rules.specs.declared.flow_rules.moves.Turning.TheVariants as turning
use Rattle.rules.specs.declared.flow_rules.moves.Move.{Move}
use Rattle.rules.specs.declared.flow_rules.moves.Move.TheVariants as move
use Rattle.rules.specs.flow_rules.Carrying.{Flow}
use Rattle.rules.specs.declared.flow_rules.source.Source.{Source}
use Rattle.rules.specs.declared.flow_rules.source.Source.TheVariants as source
use Rattle.rules.specs.declared.flow_rules.called.Called.{Called}
use Rattle.rules.specs.flow_rules.Methods.{Setting, called_in}
use Rattle.rules.specs.flow_rules.Counts.{good_one, one_if, plain_counts}
use Rattle.rules.specs.flow_rules.Exits.{exits_of}
use Rattle.rules.specs.flow_rules.Sources.{same_source, text_at, type_of_text, handle_of, is_type_member, turn}

-- ---- arguments and locals

abbrev pub args_in : Setting → ℕ
args_in s = one_if s.own.this + s.own.params

abbrev pub fixed_in : Setting → ℕ
fixed_in s = args_in s + s.locals

-- the slot of an argument, and of a local; None for one that the method doesn't have
abbrev pub arg_slot : Setting → Operand → Option ℕ
arg_slot s (operand.Slot n) = if nat_lt n (args_in s) then Some n else None
arg_slot s _ = None

abbrev pub local_slot : Setting → Operand → Option ℕ
local_slot s (operand.Slot n) = if nat_lt n s.locals then Some (args_in s + n) else None
local_slot s _ = None

abbrev pub opaque : Move Source
opaque = move.Make source.Opaque

abbrev pub load : Option ℕ → Move Source
load None = opaque
load (Some n) = move.Load n

abbrev pub store : Option ℕ → Move Source
store None = move.Nothing
store (Some n) = move.Store n

-- ---- what an operand names

abbrev pub token_in : Operand → Option ℕ
token_in (operand.Token token) = Some token
token_in _ = None

abbrev pub text_move : Option UserText → Move Source
text_move None = opaque
text_move (Some t) = move.Make (source.KnownText t.text)

abbrev pub type_move : List AsmRec → Option TypeId → Option TypeExpr → Move Source
type_move recs owner None = opaque
type_move recs owner (Some e) = move.Make (handle_of recs owner e)

-- a field or a method isn't a type
abbrev pub handle_move : List AsmRec → ℕ → AsmRec → Option TypeId → ℕ → Move Source
handle_move recs a rec owner token =
    if is_field_token rec token then opaque
    else if is_method_token token then opaque
    else type_move recs owner (good_one (token_type recs a rec token))

abbrev pub is_field_load : ℕ → Bool
is_field_load n = n == op.LDFLD || n == op.LDSFLD

abbrev pub is_field_store : ℕ → Bool
is_field_store n = n == op.STFLD || n == op.STSFLD

abbrev pub field_move : ℕ → Option FieldUse → Move Source
field_move n None = opaque
field_move n (Some u) = if is_field_load n then move.Make (source.Field u.field) else if is_field_store n then move.Nothing else opaque

-- ---- calls

abbrev pub returned : MethodId → Option Called → Move Source
returned m None = move.Nothing
returned m (Some c) = if c.returns then move.Make (source.Return m) else move.Nothing

abbrev pub call_move : List AsmRec → ℕ → MethodUse → Move Source
call_move recs n u =
    if n == op.CALL && is_type_member recs u.method (codes "GetTypeFromHandle") then move.Turn turning.FromHandle
    else if n == op.CALL && is_type_member recs u.method (codes "GetType") then move.Turn turning.FromText
    else returned u.method (called_in recs u)

abbrev pub used_move : List AsmRec → ℕ → Option MethodUse → Move Source
used_move recs n None = move.Nothing
used_move recs n (Some u) = call_move recs n u

-- ---- all forms

abbrev pub if_any : ℕ → Move Source
if_any pushes = if nat_lt 0 pushes then opaque else move.Nothing

abbrev pub named_use : List AsmRec → Setting → Operand → Option MethodUse
named_use recs s o = option_and_then (λ token. good_one (method_named recs s.asm s.rec token)) (token_in o)

abbrev pub named_field : List AsmRec → Setting → Operand → Option FieldUse
named_field recs s o = option_and_then (λ token. good_one (field_named recs s.asm s.rec token)) (token_in o)

abbrev pub token_move : (ℕ → Move Source) → Option ℕ → Move Source
token_move f None = opaque
token_move f (Some token) = f token

-- what an instruction does in a method of the type `owner`
unfoldable pub move_by : List AsmRec → Setting → Option TypeId → Form → ℕ → Operand → Move Source
move_by recs s owner form.LdArg n o = load (arg_slot s o)
move_by recs s owner form.StArg n o = store (arg_slot s o)
move_by recs s owner form.LdLoc n o = load (local_slot s o)
move_by recs s owner form.StLoc n o = store (local_slot s o)
move_by recs s owner form.LdNull n o = move.Make source.Null
move_by recs s owner form.LdStr n o = text_move (option_and_then (text_at s.rec) (token_in o))
move_by recs s owner form.Dup n o = move.Twice
move_by recs s owner form.Cast n o = move.Back
move_by recs s owner form.Call n o = used_move recs n (named_use recs s o)
move_by recs s owner form.NewObj n o = opaque
move_by recs s owner form.Field n o = field_move n (named_field recs s o)
move_by recs s owner form.LdToken n o = token_move (handle_move recs s.asm s.rec owner) (token_in o)
move_by recs s owner f n o = if_any (plain_counts s.own.returns f n).1

abbrev pub move_of : List AsmRec → Setting → Option TypeId → Instr → Move Source
move_of recs s owner i = move_by recs s owner i.form i.opcode i.operand

abbrev pub moves_of : List AsmRec → Setting → Option TypeId → List (Move Source)
moves_of recs s owner = map (move_of recs s owner) s.body.code

-- the slots whose address is taken
abbrev pub taken_by : Setting → Form → Operand → List ℕ
taken_by s form.LdArgA o = listed (arg_slot s o)
taken_by s form.LdLocA o = listed (local_slot s o)
taken_by s _ o = []

abbrev pub taken_of : Setting → List ℕ
taken_of s = flat_map (λ (i : Instr). taken_by s i.form i.operand) s.body.code

-- ---- at the start

abbrev pub parameters_from : ℕ → ℕ → List Source
parameters_from k zero = []
parameters_from k (suc n) = source.Parameter k ∷ parameters_from (k + 1) n

abbrev pub parameters : ℕ → List Source
parameters n = parameters_from 0 n

abbrev pub this_source : Bool → List Source
this_source true = source.Opaque ∷ []
this_source false = []

-- `this`, the parameters, and null in each local
abbrev pub begins_of : Setting → List Source
begins_of s = this_source s.own.this ++ parameters s.own.params ++ replicate s.locals source.Null

-- ---- the sources of a body

-- a handle with the type that it is of, a text with the type that it names
abbrev pub with_known : List AsmRec → ℕ → Source → List Source
with_known recs from (source.KnownHandle t) = source.KnownHandle t ∷ source.KnownType t ∷ []
with_known recs from (source.KnownText text) = source.KnownText text ∷ map (λ t. source.KnownType t) (listed (type_of_text recs from text))
with_known recs from s = s ∷ []

abbrev pub sources_made : List AsmRec → ℕ → Move Source → List Source
sources_made recs from (move.Make s) = with_known recs from s
sources_made recs from _ = []

abbrev pub return_of : Option MethodUse → List Source
return_of None = []
return_of (Some u) = source.Return u.method ∷ []

-- the return of each call, whether it returns a value or not
abbrev pub sources_called : List AsmRec → Setting → Form → Operand → List Source
sources_called recs s form.Call o = return_of (named_use recs s o)
sources_called recs s _ o = []

abbrev pub sources_by : List AsmRec → Setting → Option TypeId → Instr → List Source
sources_by recs s owner i = sources_made recs s.asm (move_of recs s owner i) ++ sources_called recs s i.form i.operand

abbrev pub all_sources : List AsmRec → Setting → Option TypeId → List Source
all_sources recs s owner = source.Null ∷ source.Opaque ∷ parameters s.own.params ++ flat_map (sources_by recs s owner) s.body.code

-- each once, in the order in which they are met first
unfoldable pub sources_of : List AsmRec → Setting → Option TypeId → List Source
sources_of recs s owner = add_all same_source [] (all_sources recs s owner)

-- ---- the flow

abbrev pub flow_of : List AsmRec → Setting → Option TypeId → List (Option ℕ) → Flow Source
flow_of recs s owner depths = record {
  begins = begins_of s;
  depths = depths;
  exits = exits_of recs s;
  moves = moves_of recs s owner;
  taken = taken_of s;
  unknown = source.Opaque;
  turn = turn recs s.asm;
}
