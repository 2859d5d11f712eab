-- Conversions as the code has them.
use Rattle.std.specs.Prelude.{ℕ, ◌-◌, ◌*◌, ◌^◌, ◌==◌, ℤ, pos, Bool, true, false, Option, Some, None, if◌then◌else◌}
use Rattle.il_base.specs.declared.opcode.TheConstants as opcode
use Rattle.il_base.specs.declared.element.TheConstants as element
use Rattle.machine_numbers.specs.declared.cil_conversions.conversion.Conversion.{Conversion}
use Rattle.machine_numbers.specs.declared.cil_conversions.wide.Wide.{Wide}
use Rattle.machine_numbers.specs.declared.cil_conversions.wide.Wide.TheVariants as wide
use Rattle.machine_numbers.specs.declared.cil_conversions.wide.Size.{Size}
use Rattle.machine_numbers.specs.declared.cil_conversions.wide.Size.TheVariants as size
use Rattle.rules.specs.step_rules.Numbers as rules
use Rattle.rules.specs.step_rules.Numbers.{checking, fits_below, fits_around}

abbrev pub conversion_by : Conversion → rules.Conversion
conversion_by c = record { to = c.to; unsigned = c.unsigned; checked = c.checked }

-- the conversions that raise where a number doesn't fit: of signed operands, and of unsigned ones
abbrev pub checking_unsigned : ℕ → Option rules.Conversion
checking_unsigned code =
    if code == opcode.CONV_OVF_I1_UN then checking element.I1 true
    else if code == opcode.CONV_OVF_I2_UN then checking element.I2 true
    else if code == opcode.CONV_OVF_I4_UN then checking element.I4 true
    else if code == opcode.CONV_OVF_I8_UN then checking element.I8 true
    else if code == opcode.CONV_OVF_I_UN then checking element.I true
    else if code == opcode.CONV_OVF_U1_UN then checking element.U1 true
    else if code == opcode.CONV_OVF_U2_UN then checking element.U2 true
    else if code == opcode.CONV_OVF_U4_UN then checking element.U4 true
    else if code == opcode.CONV_OVF_U8_UN then checking element.U8 true
    else if code == opcode.CONV_OVF_U_UN then checking element.U true
    else None

abbrev pub checking_signed : ℕ → Option rules.Conversion
checking_signed code =
    if code == opcode.CONV_OVF_I1 then checking element.I1 false
    else if code == opcode.CONV_OVF_I2 then checking element.I2 false
    else if code == opcode.CONV_OVF_I4 then checking element.I4 false
    else if code == opcode.CONV_OVF_I8 then checking element.I8 false
    else if code == opcode.CONV_OVF_I then checking element.I false
    else if code == opcode.CONV_OVF_U1 then checking element.U1 false
    else if code == opcode.CONV_OVF_U2 then checking element.U2 false
    else if code == opcode.CONV_OVF_U4 then checking element.U4 false
    else if code == opcode.CONV_OVF_U8 then checking element.U8 false
    else if code == opcode.CONV_OVF_U then checking element.U false
    else checking_unsigned code

-- the number that an operand is
abbrev pub number_by : Wide → ℤ
number_by (wide.Signed n) = n
number_by (wide.Unsigned n) = pos n

-- how many bytes a type has
abbrev pub bytes : Size → ℕ
bytes size.One = 1
bytes size.Two = 2
bytes size.Four = 4
bytes size.Eight = 8

-- whether a type of some bytes has a number
abbrev pub has_in : Bool → ℕ → ℤ → Bool
has_in true width n = fits_below (2 ^ (8 * width)) n
has_in false width n = fits_around (2 ^ (8 * width - 1)) n
