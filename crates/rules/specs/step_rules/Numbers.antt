-- Arithmetic, bits, shifts, comparisons and conversions (III.1.5, III.3). Integers are two's complement of 32
-- or 64 bits; a native integer has 64.
use Rattle.std.specs.Prelude.{ℕ, ◌+◌, ◌-◌, ◌*◌, ◌/◌, ◌%◌, ◌^◌, ◌==◌, nat_le, ℤ, pos, negsuc, ◌+ℤ◌, ◌-ℤ◌, ◌*ℤ◌, int_div, int_rem, List, ◌∷◌, Bool, true, false, ◌&&◌, ◌||◌, not, Option, Some, None, if◌then◌else◌}
use Rattle.std.specs.Ordering.{int_eq}
use Rattle.std.specs.Int.{Width, w32, w64, cast_signed, cast_unsigned, int_wrapping_add, int_wrapping_sub, int_wrapping_mul, int_wrapping_neg, int_bit_and, int_bit_or, int_bit_xor, int_bit_not, int_shl, int_shr}
use Rattle.il_base.specs.declared.opcode.TheConstants as opcode
use Rattle.il_base.specs.declared.element.TheConstants as element
use Rattle.il_base.specs.declared.core_table.names.CoreName.{CoreName}
use Rattle.il_base.specs.declared.core_table.names.CoreName.TheVariants.{DivideByZeroException, OverflowException}
use Rattle.il_base.specs.declared.cil_values.value.Value.{Value}
use Rattle.il_base.specs.declared.cil_values.value.Value.TheVariants as value
use Rattle.il_base.specs.declared.cil_values.resolved.Instruction.{Instruction}
use Rattle.rules.specs.step_rules.Queries.{Queries}
use Rattle.il_base.specs.declared.cil_values.state.State.{State}
use Rattle.rules.specs.step_rules.Next.{Next}
use Rattle.rules.specs.step_rules.Words.{Form, Here, given, popped, goes, truth_value}
use Rattle.rules.specs.step_rules.Integers.{bits, fits_signed, fits_unsigned, width_of, number}
use Rattle.rules.specs.step_rules.Comparisons.{Test, equal, less, less_unsigned, greater, greater_unsigned, Numbers, numbers, test}
use Rattle.rules.specs.step_rules.Raising.{raise}

-- the result of an operation on numbers
pub data Answer : Type 0 where
  is : ℤ → Answer
  raises : CoreName → Answer

abbrev pub is_if : Bool → ℤ → Answer
is_if b n = if b then is n else raises OverflowException

-- ---- arithmetic

-- an exact result, where it is a signed or an unsigned number of the width
abbrev pub exactly : Width → ℤ → Answer
exactly w n = is_if (fits_signed w n) n

abbrev pub exactly_unsigned : Width → ℕ → Answer
exactly_unsigned w n = is_if (fits_unsigned w n) (cast_signed w n)

-- `sub.ovf.un`: not below 0
abbrev pub minus_unsigned : Width → ℕ → ℕ → Answer
minus_unsigned w a b = is_if (nat_le b a) (cast_signed w (a - b))

abbrev pub is_zero : ℤ → Bool
is_zero n = int_eq n (pos 0)

abbrev pub unless_zero : ℤ → Answer → Answer
unless_zero b answer = if is_zero b then raises DivideByZeroException else answer

-- `div` (III.3.31) rounds to 0; the least number by -1 doesn't fit
abbrev pub divided : Width → ℤ → ℤ → Answer
divided w a b = unless_zero b (exactly w (int_div a b))

-- `rem` (III.3.55) has the sign of the first, and overflows as `div` does
abbrev pub remainder : Width → ℤ → ℤ → Answer
remainder w a b = unless_zero b (is_if (fits_signed w (int_div a b)) (int_rem a b))

abbrev pub divided_unsigned : Width → ℤ → ℤ → Answer
divided_unsigned w a b = unless_zero b (is (cast_signed w (cast_unsigned w a / cast_unsigned w b)))

abbrev pub remainder_unsigned : Width → ℤ → ℤ → Answer
remainder_unsigned w a b = unless_zero b (is (cast_signed w (cast_unsigned w a % cast_unsigned w b)))

-- two numbers of one kind (III.3.1 to III.3.3, III.3.31, III.3.32, III.3.48, III.3.49, III.3.53, III.3.55, III.3.56, III.3.64,
-- III.3.65, III.3.67)
unfoldable pub arithmetic : ℕ → Width → ℤ → ℤ → Option Answer
arithmetic code w a b =
    if code == opcode.ADD then Some (is (int_wrapping_add w a b))
    else if code == opcode.SUB then Some (is (int_wrapping_sub w a b))
    else if code == opcode.MUL then Some (is (int_wrapping_mul w a b))
    else if code == opcode.DIV then Some (divided w a b)
    else if code == opcode.DIV_UN then Some (divided_unsigned w a b)
    else if code == opcode.REM then Some (remainder w a b)
    else if code == opcode.REM_UN then Some (remainder_unsigned w a b)
    else if code == opcode.AND then Some (is (int_bit_and w a b))
    else if code == opcode.OR then Some (is (int_bit_or w a b))
    else if code == opcode.XOR then Some (is (int_bit_xor w a b))
    else if code == opcode.ADD_OVF then Some (exactly w (a +ℤ b))
    else if code == opcode.ADD_OVF_UN then Some (exactly_unsigned w (cast_unsigned w a + cast_unsigned w b))
    else if code == opcode.SUB_OVF then Some (exactly w (a -ℤ b))
    else if code == opcode.SUB_OVF_UN then Some (minus_unsigned w (cast_unsigned w a) (cast_unsigned w b))
    else if code == opcode.MUL_OVF then Some (exactly w (a *ℤ b))
    else if code == opcode.MUL_OVF_UN then Some (exactly_unsigned w (cast_unsigned w a * cast_unsigned w b))
    else None

-- an answer on the stack
abbrev pub answered : Queries → Here → Instruction → List Value → State → (ℤ → Value) → Answer → Next
answered q here i stack s back (is n) = goes here i (back n ∷ stack) s
answered q here i stack s back (raises name) = raise q name s

abbrev pub arithmetic_of : Queries → Here → Instruction → List Value → State → Numbers → Next
arithmetic_of q here i stack s n = given (arithmetic i.opcode n.width n.left n.right) s (answered q here i stack s n.back)

-- ---- shifts (III.3.58, III.3.59, III.3.60): the count is an int32 or a native integer, modulo the width

abbrev pub is_shift : ℕ → Bool
is_shift code = code == opcode.SHL || code == opcode.SHR || code == opcode.SHR_UN

unfoldable pub shift_count : Value → Option ℕ
shift_count (value.I4 n) = Some (cast_unsigned w32 n)
shift_count (value.Native n) = Some (cast_unsigned w64 n)
shift_count _ = None

unfoldable pub shifted : ℕ → Width → ℤ → ℕ → ℤ
shifted code w n count =
    let k = count % bits w in
    if code == opcode.SHL then int_shl w n k
    else if code == opcode.SHR then int_shr n k
    else cast_signed w (cast_unsigned w n / 2 ^ k)

unfoldable pub shift : ℕ → Value → ℕ → Option Value
shift code (value.I4 n) count = Some (value.I4 (shifted code w32 n count))
shift code (value.I8 n) count = Some (value.I8 (shifted code w64 n count))
shift code (value.Native n) count = Some (value.Native (shifted code w64 n count))
shift code _ count = None

abbrev pub shift_values : Here → Instruction → List Value → State → Value → Value → Next
shift_values here i stack s a b =
    given (shift_count b) s (λ count. given (shift i.opcode a count) s (λ v. goes here i (v ∷ stack) s))

-- ---- two operands

-- `ceq`, `cgt`, `cgt.un`, `clt`, `clt.un` (III.3.21 to III.3.23, III.3.25, III.3.26)
unfoldable pub comparison : ℕ → Option Test
comparison code =
    if code == opcode.CEQ then Some equal
    else if code == opcode.CGT then Some greater
    else if code == opcode.CGT_UN then Some greater_unsigned
    else if code == opcode.CLT then Some less
    else if code == opcode.CLT_UN then Some less_unsigned
    else None

abbrev pub compare_values : Here → Instruction → List Value → State → Value → Value → Test → Next
compare_values here i stack s a b t = given (test t a b) s (λ v. goes here i (truth_value v ∷ stack) s)

abbrev pub compute_values : Queries → Here → Instruction → List Value → State → Value → Value → Option Test → Next
compute_values q here i stack s a b (Some t) = compare_values here i stack s a b t
compute_values q here i stack s a b None =
    if is_shift i.opcode then shift_values here i stack s a b else given (numbers a b) s (arithmetic_of q here i stack s)

-- an instruction on two operands: the lower operand a and the upper one b
unfoldable pub binary : Form
binary q here i s =
    popped s.top.stack s (λ b below. popped below s (λ a stack. compute_values q here i stack s a b (comparison i.opcode)))

-- ---- one operand

-- `neg` wraps (III.3.50), `not` (III.3.52)
abbrev pub negated : ℕ → Width → ℤ → ℤ
negated code w n = if code == opcode.NEG then int_wrapping_neg w n else int_bit_not w n

unfoldable pub unary_of : ℕ → Value → Option Value
unary_of code (value.I4 n) = Some (value.I4 (negated code w32 n))
unary_of code (value.I8 n) = Some (value.I8 (negated code w64 n))
unary_of code (value.Native n) = Some (value.Native (negated code w64 n))
unary_of code _ = None

unfoldable pub unary : Form
unary q here i s = popped s.top.stack s (λ v stack. given (unary_of i.opcode v) s (λ w. goes here i (w ∷ stack) s))

-- ---- conversions (III.3.27 to III.3.29)

-- a conversion: its integer type, whether the operand counts as unsigned, and whether a number that doesn't fit raises
pub record Conversion : Type 0 where
  pub to : ℕ
  pub unsigned : Bool
  pub checked : Bool

abbrev pub cutting : ℕ → Bool → Option Conversion
cutting to unsigned = Some (record { to = to; unsigned = unsigned; checked = false })

abbrev pub checking : ℕ → Bool → Option Conversion
checking to unsigned = Some (record { to = to; unsigned = unsigned; checked = true })

-- `conv.u8` and `conv.u` extend an int32 by zeros, the other ones that extend by its sign
unfoldable pub conversion : ℕ → Option Conversion
conversion code =
    if code == opcode.CONV_I1 then cutting element.I1 false
    else if code == opcode.CONV_I2 then cutting element.I2 false
    else if code == opcode.CONV_I4 then cutting element.I4 false
    else if code == opcode.CONV_I8 then cutting element.I8 false
    else if code == opcode.CONV_I then cutting element.I false
    else if code == opcode.CONV_U1 then cutting element.U1 false
    else if code == opcode.CONV_U2 then cutting element.U2 false
    else if code == opcode.CONV_U4 then cutting element.U4 false
    else if code == opcode.CONV_U8 then cutting element.U8 true
    else if code == opcode.CONV_U then cutting element.U true
    else if code == opcode.CONV_OVF_I1 then checking element.I1 false
    else if code == opcode.CONV_OVF_I2 then checking element.I2 false
    else if code == opcode.CONV_OVF_I4 then checking element.I4 false
    else if code == opcode.CONV_OVF_I8 then checking element.I8 false
    else if code == opcode.CONV_OVF_I then checking element.I false
    else if code == opcode.CONV_OVF_U1 then checking element.U1 false
    else if code == opcode.CONV_OVF_U2 then checking element.U2 false
    else if code == opcode.CONV_OVF_U4 then checking element.U4 false
    else if code == opcode.CONV_OVF_U8 then checking element.U8 false
    else if code == opcode.CONV_OVF_U then checking element.U false
    else if code == opcode.CONV_OVF_I1_UN then checking element.I1 true
    else if code == opcode.CONV_OVF_I2_UN then checking element.I2 true
    else if code == opcode.CONV_OVF_I4_UN then checking element.I4 true
    else if code == opcode.CONV_OVF_I8_UN then checking element.I8 true
    else if code == opcode.CONV_OVF_I_UN then checking element.I true
    else if code == opcode.CONV_OVF_U1_UN then checking element.U1 true
    else if code == opcode.CONV_OVF_U2_UN then checking element.U2 true
    else if code == opcode.CONV_OVF_U4_UN then checking element.U4 true
    else if code == opcode.CONV_OVF_U8_UN then checking element.U8 true
    else if code == opcode.CONV_OVF_U_UN then checking element.U true
    else None

abbrev pub read_as : Bool → Width → ℤ → ℤ
read_as unsigned w n = if unsigned then pos (cast_unsigned w n) else n

-- the number that is converted
unfoldable pub operand_of : Bool → Value → Option ℤ
operand_of unsigned (value.I4 n) = Some (read_as unsigned w32 n)
operand_of unsigned (value.I8 n) = Some (read_as unsigned w64 n)
operand_of unsigned (value.Native n) = Some (read_as unsigned w64 n)
operand_of unsigned _ = None

abbrev pub is_unsigned_type : ℕ → Bool
is_unsigned_type code = code == element.U1 || code == element.U2 || code == element.U4 || code == element.U8 || code == element.U

abbrev pub fits_below : ℕ → ℤ → Bool
fits_below limit (pos n) = not (nat_le limit n)
fits_below limit (negsuc n) = false

abbrev pub fits_around : ℕ → ℤ → Bool
fits_around limit (pos n) = not (nat_le limit n)
fits_around limit (negsuc n) = not (nat_le limit n)

-- whether an integer type has a number
unfoldable pub has_number : ℕ → ℤ → Bool
has_number to n =
    if is_unsigned_type to then fits_below (2 ^ (8 * width_of to)) n else fits_around (2 ^ (8 * width_of to - 1)) n

unfoldable pub converted : Conversion → ℤ → Answer
converted c n = if c.checked && not (has_number c.to n) then raises OverflowException else is n

abbrev pub convert_by : Queries → Here → Instruction → List Value → State → Value → Conversion → Next
convert_by q here i stack s v c =
    given (operand_of c.unsigned v) s (λ n. answered q here i stack s (number c.to) (converted c n))

unfoldable pub convert : Form
convert q here i s = popped s.top.stack s (λ v stack. given (conversion i.opcode) s (convert_by q here i stack s v))
