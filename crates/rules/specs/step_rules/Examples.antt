-- Examples of programs and of steps, each with its result.
use Rattle.std.specs.Prelude.{ℕ, ℤ, pos, negsuc, List, [], ◌∷◌, ◌++◌, codes}
use Rattle.il_base.specs.declared.body.Form.TheVariants as form
use Rattle.il_base.specs.declared.opcode.TheConstants as opcode
use Rattle.il_base.specs.declared.world_model.known.Known.TheVariants.{Good, Bad}
use Rattle.il_base.specs.declared.world_model.known.BadKind.TheVariants.{Unresolved}
use Rattle.il_base.specs.declared.cil_values.end.End.TheVariants.{Ended, Threw, Stopped, Stuck}
use Rattle.il_base.specs.declared.cil_values.resolved.Use.TheVariants as used
use Rattle.il_base.specs.declared.cil_values.resolved.Code.{Code}
use Rattle.il_base.specs.declared.cil_values.resolved.Clause.{Clause}
use Rattle.il_base.specs.declared.cil_values.resolved.Instruction.{Instruction}
use Rattle.il_base.specs.declared.cil_values.resolved.ClauseKind.TheVariants.{Catch as catches, Finally as finally}
use Rattle.il_base.specs.declared.cil_values.value.Value.TheVariants as value
use Rattle.il_base.specs.declared.cil_values.object.Obj.{Obj}
use Rattle.il_base.specs.declared.cil_values.object.Obj.TheVariants as object
use Rattle.il_base.specs.declared.cil_values.path.Path.{Path}
use Rattle.il_base.specs.declared.cil_values.path.Root.TheVariants as root
use Rattle.il_base.specs.declared.cil_values.frame.Reason.TheVariants.{Caught as caught, Leaving as leaving}
use Rattle.rules.specs.step_rules.Next.{went, over}
use Rattle.rules.specs.step_rules.Sample.{Runs, Steps, plain_code, ins, int, binary, ret, at_first, make_c, field_of_c, int32, def, frame_at, state_at}

-- 2 + 3
abbrev pub Adds : Type 0
Adds = Runs (plain_code (int 0 (pos 2) ∷ int 1 (pos 3) ∷ binary 2 opcode.ADD ∷ ret 3 ∷ [])) [] (Ended (pos 5))

-- 1 / 0
abbrev pub DividesByZero : Type 0
DividesByZero = Runs (plain_code (int 0 (pos 1) ∷ int 1 (pos 0) ∷ binary 2 opcode.DIV ∷ ret 3 ∷ [])) [] (Threw (codes "T") (codes "Attempted to divide by zero."))

abbrev pub overflow : List ℕ
overflow = codes "Arithmetic operation resulted in an overflow."

-- 256 as an unsigned byte
abbrev pub Converts : Type 0
Converts = Runs (plain_code (int 0 (pos 256) ∷ ins 1 form.Convert opcode.CONV_OVF_U1 used.Nothing ∷ ret 2 ∷ [])) [] (Threw (codes "T") overflow)

-- -8 >> 1
abbrev pub Shifts : Type 0
Shifts = Runs (plain_code (int 0 (negsuc 7) ∷ int 1 (pos 1) ∷ binary 2 opcode.SHR ∷ ret 3 ∷ [])) [] (Ended (negsuc 3))

-- the least int32 by -1
abbrev pub DividesLeast : Type 0
DividesLeast = Runs (plain_code (int 0 (negsuc 2147483647) ∷ int 1 (negsuc 0) ∷ binary 2 opcode.DIV ∷ ret 3 ∷ [])) [] (Threw (codes "T") overflow)

-- a call of a method that adds
abbrev pub Calls : Type 0
Calls = Runs (plain_code (int 0 (pos 4) ∷ int 1 (pos 5) ∷ ins 2 form.Call opcode.CALL (used.Method (Good (at_first 1))) ∷ ret 3 ∷ [])) [] (Ended (pos 9))

-- a box and its value; a box of a number isn't one of an object's type
abbrev pub Boxes : Type 0
Boxes = Runs (plain_code (int 0 (pos 5) ∷ ins 1 form.Box opcode.BOX (used.Typ (Good int32)) ∷ ins 2 form.Unbox opcode.UNBOX_ANY (used.Typ (Good int32)) ∷ ret 3 ∷ []))
    [] (Ended (pos 5))

abbrev pub Casts : Type 0
Casts = Runs (plain_code (int 0 (pos 5) ∷ ins 1 form.Box opcode.BOX (used.Typ (Good int32)) ∷ ins 2 form.Cast opcode.ISINST (used.Typ (Good (def 2)))
    ∷ ins 3 form.LdNull opcode.LDNULL used.Nothing ∷ binary 4 opcode.CEQ ∷ ret 5 ∷ [])) [] (Ended (pos 1))

-- ---- operands and the stack

abbrev pub BadOperand : Type 0
BadOperand = Runs (plain_code (int 0 (pos 1) ∷ ins 1 form.Call opcode.CALL (used.Method (Bad Unresolved)) ∷ ret 2 ∷ [])) [] (Stopped (record { 0 = 0 }) 1)

abbrev pub EmptyStack : Type 0
EmptyStack = Runs (plain_code (ins 0 form.Pop opcode.POP used.Nothing ∷ ret 1 ∷ [])) [] (Stuck (record { 0 = 0 }) 0)

-- ---- single steps

abbrev pub one_ins : Instruction → Code
one_ins i = plain_code (i ∷ [])

-- `blt` (III.3.12)
abbrev pub Branches : Type 0
Branches = Steps (one_ins (ins 6 form.BrIf opcode.BLT (used.Target 0))) (state_at [] (frame_at 6 [] (value.I4 (pos 2) ∷ value.I4 (pos 1) ∷ []) []))
    (went (state_at [] (frame_at 0 [] [] [])) [])

abbrev pub hi : Obj
hi = object.Str (codes "hi")

-- Console.WriteLine(string)
abbrev pub Prints : Type 0
Prints = Steps (one_ins (ins 1 form.Call opcode.CALL (used.Method (Good (at_first 3))))) (state_at (hi ∷ []) (frame_at 1 [] (value.Object 0 ∷ []) []))
    (went (state_at (hi ∷ []) (frame_at 2 [] [] [])) (codes "hi" ++ 10 ∷ []))

-- a C with a number in its field
abbrev pub instance_of_c : ℤ → Obj
instance_of_c n = object.Instance (def 2) (value.I4 n ∷ [])

abbrev pub Makes : Type 0
Makes = Steps (one_ins (make_c 0)) (state_at [] (frame_at 0 [] [] [])) (went (state_at (instance_of_c (pos 0) ∷ []) (frame_at 1 [] (value.Object 0 ∷ []) [])) [])

-- Activator.CreateInstance(Type): of C by its constructor; of int32, which has none; of D, which has none
abbrev pub creates : ℕ → Instruction
creates at = ins at form.Call opcode.CALL (used.Method (Good (at_first 4)))

abbrev pub Creates : Type 0
Creates = Steps (one_ins (creates 0)) (state_at (object.TypeOf (def 2) ∷ []) (frame_at 0 [] (value.Object 0 ∷ []) []))
    (went (state_at (object.TypeOf (def 2) ∷ instance_of_c (pos 0) ∷ []) (frame_at 1 [] (value.Object 1 ∷ []) [])) [])

abbrev pub CreatesZero : Type 0
CreatesZero = Steps (one_ins (creates 0)) (state_at (object.TypeOf int32 ∷ []) (frame_at 0 [] (value.Object 0 ∷ []) []))
    (went (state_at (object.TypeOf int32 ∷ object.Boxed int32 (value.I4 (pos 0)) ∷ []) (frame_at 1 [] (value.Object 1 ∷ []) [])) [])

abbrev pub CreatesNothing : Type 0
CreatesNothing = Steps (one_ins (creates 0)) (state_at (object.TypeOf (def 3) ∷ []) (frame_at 0 [] (value.Object 0 ∷ []) []))
    (over (Threw (codes "T") (codes "No parameterless constructor defined.")))

abbrev pub StoresField : Type 0
StoresField = Steps (one_ins (ins 3 form.Field opcode.STFLD field_of_c)) (state_at (instance_of_c (pos 0) ∷ []) (frame_at 3 [] (value.I4 (pos 9) ∷ value.Object 0 ∷ []) []))
    (went (state_at (instance_of_c (pos 9) ∷ []) (frame_at 4 [] [] [])) [])

abbrev pub LoadsField : Type 0
LoadsField = Steps (one_ins (ins 3 form.Field opcode.LDFLD field_of_c)) (state_at (instance_of_c (pos 9) ∷ []) (frame_at 3 [] (value.Object 0 ∷ []) []))
    (went (state_at (instance_of_c (pos 9) ∷ []) (frame_at 4 [] (value.I4 (pos 9) ∷ []) [])) [])

-- a field of null, with nobody who catches
abbrev pub FieldOfNull : Type 0
FieldOfNull = Steps (one_ins (ins 3 form.Field opcode.LDFLD field_of_c)) (state_at [] (frame_at 3 [] (value.Null ∷ []) []))
    (over (Threw (codes "T") (codes "Object reference not set to an instance of an object.")))

abbrev pub local_0 : Path
local_0 = record { root = root.Local 0 0; steps = []; of = int32 }

-- `ldloca` (III.3.44) and `ldind.i4` (III.3.42)
abbrev pub Addresses : Type 0
Addresses = Steps (one_ins (ins 2 form.LdLocA opcode.LDLOCA_S (used.Slot 0))) (state_at [] (frame_at 2 (value.I4 (pos 3) ∷ []) [] []))
    (went (state_at [] (frame_at 3 (value.I4 (pos 3) ∷ []) (value.Pointer local_0 ∷ []) [])) [])

abbrev pub Points : Type 0
Points = Steps (one_ins (ins 3 form.Indirect opcode.LDIND_I4 used.Nothing)) (state_at [] (frame_at 3 (value.I4 (pos 3) ∷ []) (value.Pointer local_0 ∷ []) []))
    (went (state_at [] (frame_at 4 (value.I4 (pos 3) ∷ []) (value.I4 (pos 3) ∷ []) [])) [])

-- `newarr` and `stelem.i4` of an array of int32
abbrev pub numbers : ℤ → Obj
numbers n = object.Array int32 (value.I4 (pos 0) ∷ value.I4 n ∷ [])

abbrev pub NewArrays : Type 0
NewArrays = Steps (one_ins (ins 1 form.NewArr opcode.NEWARR (used.Typ (Good int32)))) (state_at [] (frame_at 1 [] (value.I4 (pos 2) ∷ []) []))
    (went (state_at (numbers (pos 0) ∷ []) (frame_at 2 [] (value.Object 0 ∷ []) [])) [])

abbrev pub StoresElement : Type 0
StoresElement = Steps (one_ins (ins 5 form.Elem opcode.STELEM_I4 used.Nothing))
    (state_at (numbers (pos 0) ∷ []) (frame_at 5 [] (value.I4 (pos 8) ∷ value.I4 (pos 1) ∷ value.Object 0 ∷ []) []))
    (went (state_at (numbers (pos 8) ∷ []) (frame_at 6 [] [] [])) [])

-- an array of D takes no C
abbrev pub Mismatches : Type 0
Mismatches = Steps (one_ins (ins 4 form.Elem opcode.STELEM_REF used.Nothing))
    (state_at (object.Array (def 3) (value.Null ∷ []) ∷ instance_of_c (pos 0) ∷ []) (frame_at 4 [] (value.Object 1 ∷ value.I4 (pos 0) ∷ value.Object 0 ∷ []) []))
    (over (Threw (codes "T") (codes "Attempted to access an element as a type incompatible with the array.")))

-- ---- exceptions

abbrev pub with_clause : Clause → List Instruction → Code
with_clause c is = record { locals = Good (int32 ∷ []); code = is; clauses = c ∷ [] }

abbrev pub by_zero : Obj
by_zero = object.Instance (def 11) (value.Null ∷ value.Null ∷ [])

-- a division by zero in a try block goes to its handler
abbrev pub Catches : Type 0
Catches = Steps (with_clause (record { kind = catches; try_at = 0; try_end = 5; at = 5; end = 7; caught = Good (def 10) }) (binary 2 opcode.DIV ∷ []))
    (state_at [] (frame_at 2 [] (value.I4 (pos 0) ∷ value.I4 (pos 1) ∷ []) []))
    (went (state_at (by_zero ∷ []) (frame_at 5 [] (value.Object 0 ∷ []) (record { clause = 0; reason = caught 0 } ∷ []))) [])

-- a finally handler from 1 to 4 of a block from 0 to 1
abbrev pub ends_with : Clause
ends_with = record { kind = finally; try_at = 0; try_end = 1; at = 1; end = 4; caught = Bad Unresolved }

abbrev pub Leaves : Type 0
Leaves = Steps (with_clause ends_with (ins 0 form.Leave opcode.LEAVE (used.Target 4) ∷ [])) (state_at [] (frame_at 0 [] (value.Null ∷ []) []))
    (went (state_at [] (frame_at 1 [] [] (record { clause = 0; reason = leaving [] 4 } ∷ []))) [])

abbrev pub EndsFinally : Type 0
EndsFinally = Steps (with_clause ends_with (ins 3 form.EndFinally opcode.ENDFINALLY used.Nothing ∷ []))
    (state_at [] (frame_at 3 [] [] (record { clause = 0; reason = leaving [] 4 } ∷ []))) (went (state_at [] (frame_at 4 [] [] [])) [])

-- the fall out of a try block from 0 to 1, whose handler is elsewhere
abbrev pub ends_later : Clause
ends_later = record { kind = finally; try_at = 0; try_end = 1; at = 2; end = 3; caught = Bad Unresolved }

abbrev pub FallsOut : Type 0
FallsOut = Steps (with_clause ends_later (int 0 (pos 1) ∷ [])) (state_at [] (frame_at 0 [] [] [])) (over (Stuck (record { 0 = 0 }) 0))
