-- The opcodes that have a reading (III.3, III.4): a table in seven parts. An opcode whose first byte is fe has that
-- byte above its second.
use Rattle.std.specs.Prelude.{ℕ, Bool, false, nat_le, ◌&&◌, ◌||◌, ◌==◌, List, [], ◌∷◌, Option, Some, None, if◌then◌else◌}
use Rattle.il_base.specs.declared.body.Form.{Form}
use Rattle.il_base.specs.declared.body.Form.TheVariants.{Nop, LdArg, LdArgA, StArg, LdLoc, LdLocA, StLoc, LdNull, LdI4, LdI8, LdStr, Dup, Pop, Br, BrIf, Switch, Leave, EndFinally, Binary, Unary, Convert, Call, Ret, NewObj, Throw, Cast, Box, Unbox, Field, NewArr, Elem, Indirect, LdToken, Prefix}
use Rattle.il_base.specs.declared.body_grammar.body.Row.{Row}
use Rattle.il_base.specs.declared.body_grammar.body.Inline.{Inline}
use Rattle.il_base.specs.declared.body_grammar.body.Inline.TheVariants.{InlineNone, FixedSlot, FixedNumber, ShortInlineVar, InlineVar, ShortInlineI, InlineI, InlineI8, InlineTok, ShortInlineBrTarget, InlineBrTarget, InlineSwitch}

-- the opcodes from the first to the last
abbrev pub run : ℕ → ℕ → Form → Inline → Row
run first last form inline = record { from = first; to = last; form = form; inline = inline }

abbrev pub one : ℕ → Form → Inline → Row
one op form inline = run op op form inline

-- arguments and locals
unfoldable pub variables : List Row
variables =
    run 0x02 0x05 LdArg (FixedSlot 0x02) ∷ one 0x0e LdArg ShortInlineVar ∷ one 0xfe09 LdArg InlineVar
    ∷ one 0x0f LdArgA ShortInlineVar ∷ one 0xfe0a LdArgA InlineVar
    ∷ one 0x10 StArg ShortInlineVar ∷ one 0xfe0b StArg InlineVar
    ∷ run 0x06 0x09 LdLoc (FixedSlot 0x06) ∷ one 0x11 LdLoc ShortInlineVar ∷ one 0xfe0c LdLoc InlineVar
    ∷ one 0x12 LdLocA ShortInlineVar ∷ one 0xfe0d LdLocA InlineVar
    ∷ run 0x0a 0x0d StLoc (FixedSlot 0x0a) ∷ one 0x13 StLoc ShortInlineVar ∷ one 0xfe0e StLoc InlineVar ∷ []

-- constants, and what only moves the stack
unfoldable pub constants : List Row
constants =
    one 0x00 Nop InlineNone ∷ one 0x14 LdNull InlineNone
    ∷ run 0x15 0x1e LdI4 (FixedNumber 0x16) ∷ one 0x1f LdI4 ShortInlineI ∷ one 0x20 LdI4 InlineI ∷ one 0x21 LdI8 InlineI8
    ∷ one 0x72 LdStr InlineTok ∷ one 0xd0 LdToken InlineTok
    ∷ one 0x25 Dup InlineNone ∷ one 0x26 Pop InlineNone ∷ []

-- branches
unfoldable pub branches : List Row
branches =
    one 0x2b Br ShortInlineBrTarget ∷ one 0x38 Br InlineBrTarget
    ∷ run 0x2c 0x37 BrIf ShortInlineBrTarget ∷ run 0x39 0x44 BrIf InlineBrTarget
    ∷ one 0x45 Switch InlineSwitch
    ∷ one 0xdd Leave InlineBrTarget ∷ one 0xde Leave ShortInlineBrTarget ∷ one 0xdc EndFinally InlineNone ∷ []

-- arithmetic
unfoldable pub arithmetic : List Row
arithmetic =
    run 0x58 0x64 Binary InlineNone ∷ run 0xd6 0xdb Binary InlineNone ∷ run 0xfe01 0xfe05 Binary InlineNone
    ∷ run 0x65 0x66 Unary InlineNone
    ∷ run 0x67 0x6a Convert InlineNone ∷ run 0x6d 0x6e Convert InlineNone ∷ run 0x82 0x8b Convert InlineNone
    ∷ run 0xb3 0xba Convert InlineNone ∷ run 0xd1 0xd5 Convert InlineNone ∷ one 0xe0 Convert InlineNone ∷ []

-- calls, exceptions, objects, and the prefixes volatile., constrained. and readonly.
unfoldable pub objects : List Row
objects =
    one 0x28 Call InlineTok ∷ one 0x6f Call InlineTok ∷ one 0x2a Ret InlineNone ∷ one 0x73 NewObj InlineTok
    ∷ one 0x7a Throw InlineNone ∷ one 0xfe1a Throw InlineNone
    ∷ run 0x74 0x75 Cast InlineTok ∷ one 0x8c Box InlineTok ∷ one 0x79 Unbox InlineTok ∷ one 0xa5 Unbox InlineTok
    ∷ run 0x7b 0x80 Field InlineTok
    ∷ one 0xfe13 Prefix InlineNone ∷ one 0xfe16 Prefix InlineTok ∷ one 0xfe1e Prefix InlineNone ∷ []

-- arrays
unfoldable pub arrays : List Row
arrays =
    one 0x8d NewArr InlineTok ∷ one 0x8e Elem InlineNone ∷ one 0x8f Elem InlineTok
    ∷ run 0x90 0x97 Elem InlineNone ∷ run 0x9a 0x9f Elem InlineNone ∷ one 0xa2 Elem InlineNone
    ∷ run 0xa3 0xa4 Elem InlineTok ∷ []

-- loads and stores through managed pointers
unfoldable pub indirect : List Row
indirect =
    run 0x46 0x4d Indirect InlineNone ∷ run 0x50 0x55 Indirect InlineNone
    ∷ run 0x70 0x71 Indirect InlineTok ∷ one 0x81 Indirect InlineTok
    ∷ one 0xdf Indirect InlineNone ∷ one 0xfe15 Indirect InlineTok ∷ []

-- the form and the inline argument of an opcode
abbrev pub kind_in : List Row → ℕ → Option (Form × Inline)
kind_in [] op = None
kind_in (r ∷ rs) op = if nat_le r.from op && nat_le op r.to then Some (r.form, r.inline) else kind_in rs op

abbrev pub or_else : Option (Form × Inline) → Option (Form × Inline) → Option (Form × Inline)
or_else None other = other
or_else (Some x) other = Some x

unfoldable pub kind_of : ℕ → Option (Form × Inline)
kind_of op =
    or_else (kind_in variables op) (or_else (kind_in constants op) (or_else (kind_in branches op)
    (or_else (kind_in arithmetic op) (or_else (kind_in objects op) (or_else (kind_in arrays op) (kind_in indirect op))))))

abbrev pub is_in : ℕ → List ℕ → Bool
is_in op [] = false
is_in op (x ∷ xs) = op == x || is_in op xs

-- the opcodes of floating-point numbers, which have no reading
unfoldable pub is_float : ℕ → Bool
is_float op = is_in op (0x22 ∷ 0x23 ∷ 0x4e ∷ 0x4f ∷ 0x56 ∷ 0x57 ∷ 0x6b ∷ 0x6c ∷ 0x76 ∷ 0x98 ∷ 0x99 ∷ 0xa0 ∷ 0xa1 ∷ 0xc3 ∷ [])
