-- A step of the machine: the instruction at the top frame's offset (III.1.3). An offset where none begins is stuck.
use Rattle.il_base.specs.declared.body.Form.TheVariants as form
use Rattle.rules.specs.step_rules.Queries.{Queries}
use Rattle.il_base.specs.declared.cil_values.state.State.{State}
use Rattle.rules.specs.step_rules.Next.{Next}
use Rattle.rules.specs.step_rules.Words.{Form, given, here_of, instruction_at}
use Rattle.il_base.specs.declared.body as body
use Rattle.rules.specs.step_rules.Slots.{nop, load_arg, address_arg, store_arg, load_local, address_local, store_local, load_null, load_int32, load_int64, duplicate, pop}
use Rattle.rules.specs.step_rules.Texts.{load_string}
use Rattle.rules.specs.step_rules.Branches.{branch, branch_if, switch}
use Rattle.rules.specs.step_rules.Throws.{throw_form, leave, end_finally}
use Rattle.rules.specs.step_rules.Numbers.{binary, unary, convert}
use Rattle.rules.specs.step_rules.Calls.{call, new_object, prefix}
use Rattle.rules.specs.step_rules.Returns.{return}
use Rattle.rules.specs.step_rules.Types.{cast, box, unbox, load_token}
use Rattle.rules.specs.step_rules.Fields.{field_form}
use Rattle.rules.specs.step_rules.Arrays.{new_array_form, element_form}
use Rattle.rules.specs.step_rules.Indirect.{indirect}

-- what an instruction of a form does
unfoldable pub effect : body.Form.Form → Form
effect form.Nop = nop
effect form.LdArg = load_arg
effect form.LdArgA = address_arg
effect form.StArg = store_arg
effect form.LdLoc = load_local
effect form.LdLocA = address_local
effect form.StLoc = store_local
effect form.LdNull = load_null
effect form.LdI4 = load_int32
effect form.LdI8 = load_int64
effect form.LdStr = load_string
effect form.Dup = duplicate
effect form.Pop = pop
effect form.Br = branch
effect form.BrIf = branch_if
effect form.Switch = switch
effect form.Leave = leave
effect form.EndFinally = end_finally
effect form.Binary = binary
effect form.Unary = unary
effect form.Convert = convert
effect form.Call = call
effect form.Ret = return
effect form.NewObj = new_object
effect form.Throw = throw_form
effect form.Cast = cast
effect form.Box = box
effect form.Unbox = unbox
effect form.Field = field_form
effect form.NewArr = new_array_form
effect form.Elem = element_form
effect form.Indirect = indirect
effect form.LdToken = load_token
effect form.Prefix = prefix

unfoldable pub execute : Form
execute q here i s = effect i.form q here i s

unfoldable pub step : Queries → State → Next
step q s = given (here_of q s.top) s (λ here. given (instruction_at here.code s.top.at) s (λ i. execute q here i s))
