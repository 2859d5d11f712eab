-- A tiny world for examples: a program's first method is the code of an example, and beside it stand a method that adds two
-- numbers, a class with a field, one below it, a struct, and some members of the core library.
use Rattle.std.specs.Prelude.{◌≡◌, ℕ, ◌+◌, ◌==◌, nat_eq, ℤ, pos, List, [], ◌∷◌, codes, slice_get, Bool, true, false, ◌&&◌, ◌||◌, Option, Some, None, if◌then◌else◌}
use Rattle.il_base.specs.declared.body.Form.{Form}
use Rattle.il_base.specs.declared.body.Form.TheVariants as form
use Rattle.il_base.specs.declared.element.TheConstants as element
use Rattle.il_base.specs.declared.method_flags.TheConstants.{STATIC}
use Rattle.il_base.specs.declared.opcode.TheConstants as opcode
use Rattle.il_base.specs.declared.world_model.known.Known.{Known}
use Rattle.il_base.specs.declared.world_model.known.Known.TheVariants.{Good}
use Rattle.il_base.specs.declared.world_model.expr.TypeExpr.{TypeExpr, out-TypeExpr}
use Rattle.il_base.specs.declared.world_model.expr.TypeExpr.TheOpen.{TypeExpr-F}
use Rattle.il_base.specs.declared.world_model.expr.TypeExpr as expr
use Rattle.il_base.specs.declared.world_model.expr.MethodUse.{MethodUse}
use Rattle.il_base.specs.world_model.Exprs.{same_expr}
use Rattle.il_base.specs.declared.core_table.names.CoreName.{CoreName}
use Rattle.il_base.specs.declared.core_table.names.CoreName.TheVariants as name
use Rattle.il_base.specs.declared.cil_values.value.Value.TheVariants as value
use Rattle.il_base.specs.declared.cil_values.end.End.{End}
use Rattle.il_base.specs.declared.cil_values.resolved.Use.TheVariants as used
use Rattle.il_base.specs.declared.cil_values.resolved.Instruction.{Instruction}
use Rattle.il_base.specs.declared.cil_values.resolved.Use.{Use}
use Rattle.il_base.specs.declared.cil_values.resolved.Code.{Code}
use Rattle.il_base.specs.declared.cil_values.definition.Method.{Method}
use Rattle.il_base.specs.declared.cil_values.layout.Layout.{Layout}
use Rattle.il_base.specs.declared.cil_values.layout.Shape.{Shape}
use Rattle.il_base.specs.declared.cil_values.layout.Shape.TheVariants.{Reference as reference, Integer as integer, Structure as structure, NoValue as no_value}
use Rattle.il_base.specs.declared.cil_values.layout.Cell.TheVariants.{Field as of_field, Message as message, Inner as inner}
use Rattle.il_base.specs.declared.cil_values.definition.First.TheVariants.{Blank as blank}
use Rattle.il_base.specs.declared.cil_values.sought.Sought.TheVariants.{Missing as missing}
use Rattle.rules.specs.step_rules.Queries.{Queries}
use Rattle.il_base.specs.declared.cil_values.core_call.CoreCall.{CoreCall}
use Rattle.il_base.specs.declared.cil_values.core_call.CoreCall.TheVariants.{Idle as idle, Prints as prints, Create as create}
use Rattle.il_base.specs.declared.cil_values.core_call.Printed.TheVariants.{OfString as of_string}
use Rattle.il_base.specs.declared.cil_values.value.Value.{Value}
use Rattle.il_base.specs.declared.cil_values.object.Obj.{Obj}
use Rattle.il_base.specs.declared.cil_values.state.State.{State}
use Rattle.il_base.specs.declared.cil_values.frame.Frame.{Frame}
use Rattle.il_base.specs.declared.cil_values.frame.Running.{Running}
use Rattle.il_base.specs.declared.cil_values.frame.Prefix.TheVariants.{None as none}
use Rattle.rules.specs.step_rules.Next.{Next}
use Rattle.il_base.specs.declared.cil_values.frame.Waits.TheVariants as waits
use Rattle.rules.specs.step_rules.Step.{step}
use Rattle.rules.specs.step_rules.Run.{run_from}

-- ---- types: 0 Program, 1 S (a struct), 2 C, 3 D : C, and exceptions by their names

abbrev pub int32 : TypeExpr
int32 = expr.Prim element.I4

abbrev pub def : ℕ → TypeExpr
def t = expr.Def (record { 0 = t })

abbrev pub known_in : CoreName → ℕ
known_in name.Exception = 10
known_in name.DivideByZeroException = 11
known_in name.OverflowException = 12
known_in name.NullReferenceException = 13
known_in name.InvalidCastException = 14
known_in name.ArrayTypeMismatchException = 15
known_in name.IndexOutOfRangeException = 16
known_in name.TypeInitializationException = 17
known_in name.Type = 18
known_in name.MissingMethodException = 19
known_in _ = 20

abbrev pub kin_in : ℕ → CoreName
kin_in t =
    if t == 11 then name.DivideByZeroException else if t == 12 then name.OverflowException
    else if t == 13 then name.NullReferenceException else if t == 14 then name.InvalidCastException
    else if t == 15 then name.ArrayTypeMismatchException else if t == 16 then name.IndexOutOfRangeException
    else if t == 17 then name.TypeInitializationException else if t == 19 then name.MissingMethodException else name.Exception

abbrev pub number_of : TypeExpr-F TypeExpr → Option ℕ
number_of (TypeExpr-F.Def t) = Some t.0
number_of _ = None

abbrev pub shape_in : TypeExpr-F TypeExpr → Shape
shape_in (TypeExpr-F.Prim n) = if n == element.OBJECT || n == element.STRING then reference else integer n
shape_in (TypeExpr-F.Def t) = if t.0 == 1 then structure (record { cell = of_field 0; typ = int32; zero = value.I4 (pos 0) } ∷ []) else reference
shape_in (TypeExpr-F.Array x) = reference
shape_in _ = no_value

abbrev pub cells_in : Option ℕ → List Layout
cells_in None = []
cells_in (Some t) =
    if t == 2 || t == 3 then record { cell = of_field 1; typ = int32; zero = value.I4 (pos 0) } ∷ []
    else if nat_eq t 0 || t == 1 then []
    else record { cell = message; typ = expr.Prim element.STRING; zero = value.Null } ∷ record { cell = inner; typ = def 10; zero = value.Null } ∷ []

abbrev pub below_in : Option ℕ → Option ℕ → Bool
below_in (Some a) (Some b) = nat_eq a b || (a == 3 && b == 2) || (b == 10 && (a == 11 || a == 12 || a == 13 || a == 14 || a == 15 || a == 16 || a == 17))
below_in _ _ = false

abbrev pub is_below : TypeExpr → TypeExpr → Bool
is_below a b = same_expr a b || same_expr b (expr.Prim element.OBJECT) || below_in (number_of (out-TypeExpr a)) (number_of (out-TypeExpr b))

-- ---- methods: 0 the example, 1 adds, 2 the constructor of C, 3 Console.WriteLine(string), 4 Activator.CreateInstance(Type)

abbrev pub static_method : List TypeExpr → TypeExpr → Option (Known Code) → Method
static_method params ret body =
    record { flags = STATIC; owner = 0; constructor = false; signature = Good (record { this = false; own = 0; params = params; ret = ret }); body = body }

abbrev pub ins : ℕ → Form → ℕ → Use → Instruction
ins at f code use_of = record { at = at; next = at + 1; form = f; opcode = code; operand = use_of }

abbrev pub adds : Code
adds = record { locals = Good []; code = ins 0 form.LdArg opcode.LDARG_0 (used.Slot 0) ∷ ins 1 form.LdArg opcode.LDARG_1 (used.Slot 1) ∷ ins 2 form.Binary opcode.ADD used.Nothing ∷ ins 3 form.Ret opcode.RET used.Nothing ∷ []; clauses = [] }

abbrev pub constructor_of_c : Method
constructor_of_c = record { flags = 0; owner = 2; constructor = true; signature = Good (record { this = true; own = 0; params = []; ret = expr.Prim element.VOID }); body = None }

abbrev pub methods : Code → List Method
methods code = static_method [] int32 (Some (Good code)) ∷ static_method (int32 ∷ int32 ∷ []) int32 (Some (Good adds)) ∷ constructor_of_c ∷ static_method (expr.Prim element.STRING ∷ []) (expr.Prim element.VOID) None
    ∷ static_method (def 18 ∷ []) (expr.Prim element.OBJECT) None ∷ []

abbrev pub core_in : ℕ → Option CoreCall
core_in m = if m == 2 then Some idle else if m == 3 then Some (prints true of_string) else if m == 4 then Some create else None

abbrev pub maker_in : Option ℕ → Option ℕ
maker_in None = None
maker_in (Some t) = if t == 2 then Some 2 else None

abbrev pub world : Code → Queries
world code = record {
  core = core_in;
  known = known_in;
  method = λ m. slice_get (methods code) m;
  field = λ f. Some (record { flags = 0; typ = Good int32; first = blank });
  head = λ t. Some (record { flags = 0; params = 0 });
  label = λ e. [];
  space = λ e. [];
  encloser = λ t. None;
  find = λ m text. missing;
  members = λ kind name e. [];
  title = λ i. [];
  property = λ p. None;
  shape = λ e. shape_in (out-TypeExpr e);
  cells = λ e. cells_in (number_of (out-TypeExpr e));
  starts = λ t. None;
  maker = λ e. maker_in (number_of (out-TypeExpr e));
  below = is_below;
  answers = λ t o m. None;
  text = λ e. codes "T";
  kin = λ e. elim (number_of (out-TypeExpr e)) [ None ↦ None | Some t ↦ Some (kin_in t) ];
  to_string = 100;
  equals = 101;
}

-- ---- programs

abbrev pub plain_code : List Instruction → Code
plain_code is = record { locals = Good (int32 ∷ []); code = is; clauses = [] }

abbrev pub int : ℕ → ℤ → Instruction
int at n = ins at form.LdI4 opcode.LDC_I4 (used.Number n)

abbrev pub binary : ℕ → ℕ → Instruction
binary at code = ins at form.Binary code used.Nothing

abbrev pub ret : ℕ → Instruction
ret at = ins at form.Ret opcode.RET used.Nothing

abbrev pub at_first : ℕ → MethodUse
at_first m = record { method = record { 0 = m }; owner = def 0; args = [] }

abbrev pub make_c : ℕ → Instruction
make_c at = ins at form.NewObj opcode.NEWOBJ (used.Method (Good (record { method = record { 0 = 2 }; owner = def 2; args = [] })))

abbrev pub field_of_c : Use
field_of_c = used.Field (Good (record { field = record { 0 = 1 }; owner = def 2 }))

-- an example prints these bytes and ends so within 30 steps
abbrev pub Runs : Code → List ℕ → End → Type 0
Runs code output end = run_from (world code) 0 [] 30 ≡ record { output = output; end = Some end }

-- ---- single steps of the example's method

abbrev pub frame_at : ℕ → List Value → List Value → List Running → Frame
frame_at at locals stack running =
    record { number = 0; method = at_first 0; args = []; locals = locals; stack = stack; at = at; prefix = none; running = running; waits = waits.Nothing }

abbrev pub state_at : List Obj → Frame → State
state_at heap f = record { heap = heap; statics = []; inits = []; texts = []; types = []; top = f; below = []; entered = 1; input = [] }

abbrev pub Steps : Code → State → Next → Type 0
Steps code s next = step (world code) s ≡ next
