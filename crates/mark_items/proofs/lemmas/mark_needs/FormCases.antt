-- What an instruction makes and shows goes by its form alone.
use Rattle.std.specs.Prelude.{ℤ}
use Rattle.std.proofs.Common.{◌≡◌, ℕ, List, [], refl}
use Rattle.il_base.specs.declared.body.Form.{Form}
use Rattle.il_base.specs.declared.body.Form.TheVariants as form
use Rattle.il_base.specs.declared.body.Operand.TheVariants as operand
use Rattle.il_base.specs.declared.world_model.record.AsmRec.{AsmRec}
use Rattle.rules.specs.mark_rules.Calls.{makes_by}
use Rattle.rules.specs.mark_rules.Shown.{shown_by}
use Rattle.mark_items.specs.mark_needs.Forms.{shows_of, made_as, shown_as}

pub made_by_forms : (recs : List AsmRec) (a : ℕ) (rec : AsmRec) (token : ℕ) (f : Form) → made_as recs a rec (shows_of f) token ≡ makes_by recs a rec f (operand.Token token)
unfolding shows_of made_as
made_by_forms recs a rec token form.Nop = refl
made_by_forms recs a rec token form.LdArg = refl
made_by_forms recs a rec token form.LdArgA = refl
made_by_forms recs a rec token form.StArg = refl
made_by_forms recs a rec token form.LdLoc = refl
made_by_forms recs a rec token form.LdLocA = refl
made_by_forms recs a rec token form.StLoc = refl
made_by_forms recs a rec token form.LdNull = refl
made_by_forms recs a rec token form.LdI4 = refl
made_by_forms recs a rec token form.LdI8 = refl
made_by_forms recs a rec token form.LdStr = refl
made_by_forms recs a rec token form.Dup = refl
made_by_forms recs a rec token form.Pop = refl
made_by_forms recs a rec token form.Br = refl
made_by_forms recs a rec token form.BrIf = refl
made_by_forms recs a rec token form.Switch = refl
made_by_forms recs a rec token form.Leave = refl
made_by_forms recs a rec token form.EndFinally = refl
made_by_forms recs a rec token form.Binary = refl
made_by_forms recs a rec token form.Unary = refl
made_by_forms recs a rec token form.Convert = refl
made_by_forms recs a rec token form.Call = refl
made_by_forms recs a rec token form.Ret = refl
made_by_forms recs a rec token form.NewObj = refl
made_by_forms recs a rec token form.Throw = refl
made_by_forms recs a rec token form.Cast = refl
made_by_forms recs a rec token form.Box = refl
made_by_forms recs a rec token form.Unbox = refl
made_by_forms recs a rec token form.Field = refl
made_by_forms recs a rec token form.NewArr = refl
made_by_forms recs a rec token form.Elem = refl
made_by_forms recs a rec token form.Indirect = refl
made_by_forms recs a rec token form.LdToken = refl
made_by_forms recs a rec token form.Prefix = refl

pub shown_by_forms : (recs : List AsmRec) (a : ℕ) (rec : AsmRec) (opcode token : ℕ) (f : Form) → shown_as recs a rec opcode (shows_of f) token ≡ shown_by recs a rec opcode f token
unfolding shows_of shown_as
shown_by_forms recs a rec opcode token form.Nop = refl
shown_by_forms recs a rec opcode token form.LdArg = refl
shown_by_forms recs a rec opcode token form.LdArgA = refl
shown_by_forms recs a rec opcode token form.StArg = refl
shown_by_forms recs a rec opcode token form.LdLoc = refl
shown_by_forms recs a rec opcode token form.LdLocA = refl
shown_by_forms recs a rec opcode token form.StLoc = refl
shown_by_forms recs a rec opcode token form.LdNull = refl
shown_by_forms recs a rec opcode token form.LdI4 = refl
shown_by_forms recs a rec opcode token form.LdI8 = refl
shown_by_forms recs a rec opcode token form.LdStr = refl
shown_by_forms recs a rec opcode token form.Dup = refl
shown_by_forms recs a rec opcode token form.Pop = refl
shown_by_forms recs a rec opcode token form.Br = refl
shown_by_forms recs a rec opcode token form.BrIf = refl
shown_by_forms recs a rec opcode token form.Switch = refl
shown_by_forms recs a rec opcode token form.Leave = refl
shown_by_forms recs a rec opcode token form.EndFinally = refl
shown_by_forms recs a rec opcode token form.Binary = refl
shown_by_forms recs a rec opcode token form.Unary = refl
shown_by_forms recs a rec opcode token form.Convert = refl
shown_by_forms recs a rec opcode token form.Call = refl
shown_by_forms recs a rec opcode token form.Ret = refl
shown_by_forms recs a rec opcode token form.NewObj = refl
shown_by_forms recs a rec opcode token form.Throw = refl
shown_by_forms recs a rec opcode token form.Cast = refl
shown_by_forms recs a rec opcode token form.Box = refl
shown_by_forms recs a rec opcode token form.Unbox = refl
shown_by_forms recs a rec opcode token form.Field = refl
shown_by_forms recs a rec opcode token form.NewArr = refl
shown_by_forms recs a rec opcode token form.Elem = refl
shown_by_forms recs a rec opcode token form.Indirect = refl
shown_by_forms recs a rec opcode token form.LdToken = refl
shown_by_forms recs a rec opcode token form.Prefix = refl

-- an instruction without a token makes nothing

pub none_makes : (recs : List AsmRec) (a : ℕ) (rec : AsmRec) (f : Form) → makes_by recs a rec f operand.None ≡ []
none_makes recs a rec form.Nop = refl
none_makes recs a rec form.LdArg = refl
none_makes recs a rec form.LdArgA = refl
none_makes recs a rec form.StArg = refl
none_makes recs a rec form.LdLoc = refl
none_makes recs a rec form.LdLocA = refl
none_makes recs a rec form.StLoc = refl
none_makes recs a rec form.LdNull = refl
none_makes recs a rec form.LdI4 = refl
none_makes recs a rec form.LdI8 = refl
none_makes recs a rec form.LdStr = refl
none_makes recs a rec form.Dup = refl
none_makes recs a rec form.Pop = refl
none_makes recs a rec form.Br = refl
none_makes recs a rec form.BrIf = refl
none_makes recs a rec form.Switch = refl
none_makes recs a rec form.Leave = refl
none_makes recs a rec form.EndFinally = refl
none_makes recs a rec form.Binary = refl
none_makes recs a rec form.Unary = refl
none_makes recs a rec form.Convert = refl
none_makes recs a rec form.Call = refl
none_makes recs a rec form.Ret = refl
none_makes recs a rec form.NewObj = refl
none_makes recs a rec form.Throw = refl
none_makes recs a rec form.Cast = refl
none_makes recs a rec form.Box = refl
none_makes recs a rec form.Unbox = refl
none_makes recs a rec form.Field = refl
none_makes recs a rec form.NewArr = refl
none_makes recs a rec form.Elem = refl
none_makes recs a rec form.Indirect = refl
none_makes recs a rec form.LdToken = refl
none_makes recs a rec form.Prefix = refl

pub number_makes : (recs : List AsmRec) (a : ℕ) (rec : AsmRec) (n : ℤ) (f : Form) → makes_by recs a rec f (operand.Number n) ≡ []
number_makes recs a rec n form.Nop = refl
number_makes recs a rec n form.LdArg = refl
number_makes recs a rec n form.LdArgA = refl
number_makes recs a rec n form.StArg = refl
number_makes recs a rec n form.LdLoc = refl
number_makes recs a rec n form.LdLocA = refl
number_makes recs a rec n form.StLoc = refl
number_makes recs a rec n form.LdNull = refl
number_makes recs a rec n form.LdI4 = refl
number_makes recs a rec n form.LdI8 = refl
number_makes recs a rec n form.LdStr = refl
number_makes recs a rec n form.Dup = refl
number_makes recs a rec n form.Pop = refl
number_makes recs a rec n form.Br = refl
number_makes recs a rec n form.BrIf = refl
number_makes recs a rec n form.Switch = refl
number_makes recs a rec n form.Leave = refl
number_makes recs a rec n form.EndFinally = refl
number_makes recs a rec n form.Binary = refl
number_makes recs a rec n form.Unary = refl
number_makes recs a rec n form.Convert = refl
number_makes recs a rec n form.Call = refl
number_makes recs a rec n form.Ret = refl
number_makes recs a rec n form.NewObj = refl
number_makes recs a rec n form.Throw = refl
number_makes recs a rec n form.Cast = refl
number_makes recs a rec n form.Box = refl
number_makes recs a rec n form.Unbox = refl
number_makes recs a rec n form.Field = refl
number_makes recs a rec n form.NewArr = refl
number_makes recs a rec n form.Elem = refl
number_makes recs a rec n form.Indirect = refl
number_makes recs a rec n form.LdToken = refl
number_makes recs a rec n form.Prefix = refl

pub slot_makes : (recs : List AsmRec) (a : ℕ) (rec : AsmRec) (n : ℕ) (f : Form) → makes_by recs a rec f (operand.Slot n) ≡ []
slot_makes recs a rec n form.Nop = refl
slot_makes recs a rec n form.LdArg = refl
slot_makes recs a rec n form.LdArgA = refl
slot_makes recs a rec n form.StArg = refl
slot_makes recs a rec n form.LdLoc = refl
slot_makes recs a rec n form.LdLocA = refl
slot_makes recs a rec n form.StLoc = refl
slot_makes recs a rec n form.LdNull = refl
slot_makes recs a rec n form.LdI4 = refl
slot_makes recs a rec n form.LdI8 = refl
slot_makes recs a rec n form.LdStr = refl
slot_makes recs a rec n form.Dup = refl
slot_makes recs a rec n form.Pop = refl
slot_makes recs a rec n form.Br = refl
slot_makes recs a rec n form.BrIf = refl
slot_makes recs a rec n form.Switch = refl
slot_makes recs a rec n form.Leave = refl
slot_makes recs a rec n form.EndFinally = refl
slot_makes recs a rec n form.Binary = refl
slot_makes recs a rec n form.Unary = refl
slot_makes recs a rec n form.Convert = refl
slot_makes recs a rec n form.Call = refl
slot_makes recs a rec n form.Ret = refl
slot_makes recs a rec n form.NewObj = refl
slot_makes recs a rec n form.Throw = refl
slot_makes recs a rec n form.Cast = refl
slot_makes recs a rec n form.Box = refl
slot_makes recs a rec n form.Unbox = refl
slot_makes recs a rec n form.Field = refl
slot_makes recs a rec n form.NewArr = refl
slot_makes recs a rec n form.Elem = refl
slot_makes recs a rec n form.Indirect = refl
slot_makes recs a rec n form.LdToken = refl
slot_makes recs a rec n form.Prefix = refl

pub target_makes : (recs : List AsmRec) (a : ℕ) (rec : AsmRec) (n : ℕ) (f : Form) → makes_by recs a rec f (operand.Target n) ≡ []
target_makes recs a rec n form.Nop = refl
target_makes recs a rec n form.LdArg = refl
target_makes recs a rec n form.LdArgA = refl
target_makes recs a rec n form.StArg = refl
target_makes recs a rec n form.LdLoc = refl
target_makes recs a rec n form.LdLocA = refl
target_makes recs a rec n form.StLoc = refl
target_makes recs a rec n form.LdNull = refl
target_makes recs a rec n form.LdI4 = refl
target_makes recs a rec n form.LdI8 = refl
target_makes recs a rec n form.LdStr = refl
target_makes recs a rec n form.Dup = refl
target_makes recs a rec n form.Pop = refl
target_makes recs a rec n form.Br = refl
target_makes recs a rec n form.BrIf = refl
target_makes recs a rec n form.Switch = refl
target_makes recs a rec n form.Leave = refl
target_makes recs a rec n form.EndFinally = refl
target_makes recs a rec n form.Binary = refl
target_makes recs a rec n form.Unary = refl
target_makes recs a rec n form.Convert = refl
target_makes recs a rec n form.Call = refl
target_makes recs a rec n form.Ret = refl
target_makes recs a rec n form.NewObj = refl
target_makes recs a rec n form.Throw = refl
target_makes recs a rec n form.Cast = refl
target_makes recs a rec n form.Box = refl
target_makes recs a rec n form.Unbox = refl
target_makes recs a rec n form.Field = refl
target_makes recs a rec n form.NewArr = refl
target_makes recs a rec n form.Elem = refl
target_makes recs a rec n form.Indirect = refl
target_makes recs a rec n form.LdToken = refl
target_makes recs a rec n form.Prefix = refl

pub targets_makes : (recs : List AsmRec) (a : ℕ) (rec : AsmRec) (ns : List ℕ) (f : Form) → makes_by recs a rec f (operand.Targets ns) ≡ []
targets_makes recs a rec ns form.Nop = refl
targets_makes recs a rec ns form.LdArg = refl
targets_makes recs a rec ns form.LdArgA = refl
targets_makes recs a rec ns form.StArg = refl
targets_makes recs a rec ns form.LdLoc = refl
targets_makes recs a rec ns form.LdLocA = refl
targets_makes recs a rec ns form.StLoc = refl
targets_makes recs a rec ns form.LdNull = refl
targets_makes recs a rec ns form.LdI4 = refl
targets_makes recs a rec ns form.LdI8 = refl
targets_makes recs a rec ns form.LdStr = refl
targets_makes recs a rec ns form.Dup = refl
targets_makes recs a rec ns form.Pop = refl
targets_makes recs a rec ns form.Br = refl
targets_makes recs a rec ns form.BrIf = refl
targets_makes recs a rec ns form.Switch = refl
targets_makes recs a rec ns form.Leave = refl
targets_makes recs a rec ns form.EndFinally = refl
targets_makes recs a rec ns form.Binary = refl
targets_makes recs a rec ns form.Unary = refl
targets_makes recs a rec ns form.Convert = refl
targets_makes recs a rec ns form.Call = refl
targets_makes recs a rec ns form.Ret = refl
targets_makes recs a rec ns form.NewObj = refl
targets_makes recs a rec ns form.Throw = refl
targets_makes recs a rec ns form.Cast = refl
targets_makes recs a rec ns form.Box = refl
targets_makes recs a rec ns form.Unbox = refl
targets_makes recs a rec ns form.Field = refl
targets_makes recs a rec ns form.NewArr = refl
targets_makes recs a rec ns form.Elem = refl
targets_makes recs a rec ns form.Indirect = refl
targets_makes recs a rec ns form.LdToken = refl
targets_makes recs a rec ns form.Prefix = refl

-- what other operands than tokens make
pub ruleset tokenless = (none_makes, number_makes, slot_makes, target_makes, targets_makes)
