-- How bytes spell a method body (II.25.4): the grammar by the value. A body has one spelling but for bytes that aren't
-- looked at, and for a small handler section without clauses, which may stand or not.
use Rattle.std.specs.Prelude.{◌≡◌, ℕ, ◌+◌, ◌-◌, ◌*◌, ◌/◌, ◌%◌, ◌^◌, ◌<◌, ◌≤◌, Bool, true, false, not, ◌||◌, ◌==◌, nat_le, nat_lt, List, [], ◌∷◌, ◌++◌, length, replicate, Option, Some, None, ℤ, pos, ◌-ℤ◌, IsTrue, FitsSigned, if◌then◌else◌}
use Rattle.std.specs.Int.{w8, w32, w64, cast_unsigned}
use Rattle.std.specs.List.{flat_map, AllByRecursion}
use Rattle.byteorder.specs.Endian.{little_bytes}
use Rattle.il_base.specs.declared.body.Body.{Body}
use Rattle.il_base.specs.declared.body.Form.{Form}
use Rattle.il_base.specs.declared.body.Handler.{Handler}
use Rattle.il_base.specs.declared.body.Instr.{Instr}
use Rattle.il_base.specs.declared.body.Operand.{Operand}
use Rattle.il_base.specs.declared.body.Operand.TheVariants as operand
use Rattle.il_base.specs.declared.body_grammar.body.Inline.{Inline}
use Rattle.il_base.specs.declared.body_grammar.body.Inline.TheVariants.{InlineNone, FixedSlot, FixedNumber, ShortInlineVar, InlineVar, ShortInlineI, InlineI, InlineI8, InlineTok, ShortInlineBrTarget, InlineBrTarget, InlineSwitch}
use Rattle.il_base.specs.body_grammar.Opcodes.{kind_of}
use Rattle.il_base.specs.body_grammar.HandlerRules.{is_start, offender}
use Rattle.il_base.specs.body_grammar.Bodies.{aligned}

-- the distance of a target from the end of an instruction, modulo 2^32
abbrev pub distance : ℕ → ℕ → ℕ
distance end target = (target + (4294967296 - end % 4294967296)) % 4294967296

-- a signed number's bits
abbrev pub bits : ℤ → ℕ
bits z = cast_unsigned w64 z

-- the distances of a switch's targets
abbrev pub distances : ℕ → List ℕ → List ℕ
distances end [] = []
distances end (t ∷ ts) = little_bytes 4 (distance end t) ++ distances end ts

-- the bytes of an operand after an opcode that ends at an IL offset
unfoldable pub operand_bytes : Inline → ℕ → Operand → List ℕ
operand_bytes ShortInlineVar next (operand.Slot n) = n % 256 ∷ []
operand_bytes InlineVar next (operand.Slot n) = little_bytes 2 (n % 65536)
operand_bytes ShortInlineI next (operand.Number z) = bits z % 256 ∷ []
operand_bytes InlineI next (operand.Number z) = little_bytes 4 (bits z % 4294967296)
operand_bytes InlineI8 next (operand.Number z) = little_bytes 8 (bits z)
operand_bytes InlineTok next (operand.Token t) = little_bytes 4 t
operand_bytes ShortInlineBrTarget next (operand.Target t) = distance (next + 1) t % 256 ∷ []
operand_bytes InlineBrTarget next (operand.Target t) = little_bytes 4 (distance (next + 4) t)
operand_bytes InlineSwitch next (operand.Targets ts) =
    little_bytes 4 (length ts % 4294967296) ++ distances (next + (4 + 4 * length ts)) ts
operand_bytes _ next _ = []

abbrev pub inline_in : Option (Form × Inline) → Inline
inline_in None = InlineNone
inline_in (Some kind) = kind.1

-- an opcode has one byte, or two of which the first is fe
abbrev pub opcode_size : ℕ → ℕ
opcode_size op = if nat_lt op 256 then 1 else 2

unfoldable pub opcode_bytes : ℕ → List ℕ
opcode_bytes op = if nat_lt op 256 then op ∷ [] else 254 ∷ op % 256 ∷ []

unfoldable pub instr_bytes : Instr → List ℕ
instr_bytes i = opcode_bytes i.opcode ++ operand_bytes (inline_in (kind_of i.opcode)) (i.at + opcode_size i.opcode) i.operand

abbrev pub code_bytes : List Instr → List ℕ
code_bytes is = flat_map instr_bytes is

-- a range in a clause of 12 bytes
abbrev pub small_range : ℕ → ℕ → List ℕ
small_range at len = little_bytes 2 (at % 65536) ++ len % 256 ∷ []

-- a clause of 12 bytes, and one of 24
abbrev pub small_clause_bytes : Handler → List ℕ
small_clause_bytes h = h.kind ∷ 0 ∷ [] ++ small_range h.try_at h.try_len ++ small_range h.at h.len ++ little_bytes 4 h.token

abbrev pub fat_clause_bytes : Handler → List ℕ
fat_clause_bytes h =
    h.kind ∷ 0 ∷ 0 ∷ 0 ∷ [] ++ little_bytes 4 h.try_at ++ little_bytes 4 h.try_len ++ little_bytes 4 h.at ++ little_bytes 4 h.len ++ little_bytes 4 h.token

abbrev pub clause_bytes : Bool → Handler → List ℕ
clause_bytes fat h = if fat then fat_clause_bytes h else small_clause_bytes h

abbrev pub clauses_bytes : Bool → List Handler → List ℕ
clauses_bytes fat hs = flat_map (clause_bytes fat) hs

-- the head of a section with so many clauses; two bytes of a small one aren't looked at
unfoldable pub section_head : Bool → ℕ → List ℕ → List ℕ
section_head false n reserved = 0x01 ∷ (4 + 12 * n) % 256 ∷ reserved
section_head true n reserved = 0x41 ∷ (4 + 24 * n) % 256 ∷ (4 + 24 * n) / 256 % 256 ∷ (4 + 24 * n) / 65536 % 256 ∷ []

-- the low byte of a fat header's flags
abbrev pub flags_byte : Bool → Bool → ℕ
flags_byte sects init = 3 + (if sects then 8 else 0) + (if init then 16 else 0)

-- a header, by whether a section stands after the code, and the size of the code
unfoldable pub header_bytes : Body → Bool → ℕ → List ℕ
header_bytes b sects size =
    if b.tiny then (2 + 4 * size) % 256 ∷ []
    else flags_byte sects b.init ∷ 0x30 ∷ [] ++ little_bytes 2 b.max_stack ++ little_bytes 4 (size % 4294967296) ++ little_bytes 4 b.locals

-- the zeros up to the next multiple of 4
abbrev pub padding : ℕ → List ℕ
padding n = replicate (aligned n - n) 0

-- What a spelling has that the body doesn't say: whether a section stands, the bytes between the code and the section,
-- and the two bytes of a small section's head.
pub record Filler : Type 0 where
  pub sects : Bool
  pub pad : List ℕ
  pub reserved : List ℕ

-- a handler section after the bytes that stand between it and the code
abbrev pub section_bytes : List ℕ → List ℕ → Body → List ℕ
section_bytes pad reserved b = pad ++ section_head b.fat_handlers (length b.handlers) reserved ++ clauses_bytes b.fat_handlers b.handlers

-- a body whose code has these bytes
abbrev pub body_of : Filler → Body → List ℕ → List ℕ
body_of f b code = header_bytes b f.sects (length code) ++ code ++ (if f.sects then section_bytes f.pad f.reserved b else [])

-- the spelling of a body
abbrev pub body_spelling : Filler → Body → List ℕ
body_spelling f b = body_of f b (code_bytes b.code)

-- a section stands where there are clauses, and where it is a fat one
abbrev pub has_section : Body → Bool
has_section b = b.fat_handlers || not (length b.handlers == 0)

-- what is written, by the size of the code: no section that needn't stand, and zeros
abbrev pub writing : Body → ℕ → Filler
writing b size = record { sects = has_section b; pad = padding (12 + size); reserved = 0 ∷ 0 ∷ [] }

abbrev pub body_bytes : Body → List ℕ
body_bytes b = body_spelling (writing b (length (code_bytes b.code))) b

-- what may stand in a spelling beside the body: no section after a tiny header, one where the body needs it, and as
-- many bytes before it as lead to the next multiple of 4
pub record IsFiller (f : Filler) (b : Body) : Type 0 where
  pub tiny : b.tiny ≡ true → f.sects ≡ false
  pub needed : has_section b ≡ true → f.sects ≡ true
  pub pad : length f.pad ≡ aligned (12 + length (code_bytes b.code)) - (12 + length (code_bytes b.code))
  pub reserved : length f.reserved ≡ 2

-- ---- what has a spelling

-- the operands that an opcode, which ends at an IL offset, can have
unfoldable pub IsOperand : Inline → ℕ → ℕ → Operand → Type 0
IsOperand InlineNone op next o = o ≡ operand.None
IsOperand (FixedSlot first) op next o = o ≡ operand.Slot (op - first)
IsOperand (FixedNumber first) op next o = o ≡ operand.Number (pos op -ℤ pos first)
IsOperand ShortInlineVar op next (operand.Slot n) = n < 2 ^ 8
IsOperand InlineVar op next (operand.Slot n) = n < 2 ^ 16
IsOperand ShortInlineI op next (operand.Number z) = FitsSigned w8 z
IsOperand InlineI op next (operand.Number z) = FitsSigned w32 z
IsOperand InlineI8 op next (operand.Number z) = FitsSigned w64 z
IsOperand InlineTok op next (operand.Token t) = t < 2 ^ 32
-- a distance of a signed byte: below 128, or at least -128
IsOperand ShortInlineBrTarget op next (operand.Target t) = (t < 2 ^ 32) × IsTrue (nat_lt (distance (next + 1) t) 128 || nat_le 4294967168 (distance (next + 1) t))
IsOperand InlineBrTarget op next (operand.Target t) = t < 2 ^ 32
IsOperand InlineSwitch op next (operand.Targets ts) = (length ts < 2 ^ 32) × AllByRecursion (λ t. t < 2 ^ 32) ts
IsOperand _ op next _ = ⊥

-- an instruction of the table
pub record IsInstr (i : Instr) : Type 0 where
  pub opcode : i.opcode < 2 ^ 16
  pub kind : kind_of i.opcode ≡ Some (i.form, inline_in (kind_of i.opcode))
  pub operand : IsOperand (inline_in (kind_of i.opcode)) i.opcode (i.at + opcode_size i.opcode) i.operand

-- instructions one after another from an IL offset on
abbrev pub IsCode : ℕ → List Instr → Type 0
IsCode at [] = Unit {0}
IsCode at (i ∷ is) = (i.at ≡ at) × IsInstr i × IsCode (at + length (instr_bytes i)) is

-- a clause that a small section or a fat one can have
pub record IsClause (fat : Bool) (h : Handler) : Type 0 where
  pub kind : IsTrue (h.kind == 0 || h.kind == 2 || h.kind == 4)
  pub try_at : h.try_at < (if fat then 2 ^ 32 else 2 ^ 16)
  pub try_len : h.try_len < (if fat then 2 ^ 32 else 2 ^ 8)
  pub at : h.at < (if fat then 2 ^ 32 else 2 ^ 16)
  pub len : h.len < (if fat then 2 ^ 32 else 2 ^ 8)
  pub token : h.token < 2 ^ 32

-- a tiny header says nothing but the size of the code
pub record IsTiny (b : Body) : Type 0 where
  pub size : length (code_bytes b.code) < 64
  pub init : b.init ≡ false
  pub max_stack : b.max_stack ≡ 8
  pub locals : b.locals ≡ 0
  pub fat_handlers : b.fat_handlers ≡ false
  pub handlers : b.handlers ≡ []

pub record IsFat (b : Body) : Type 0 where
  pub size : length (code_bytes b.code) < 2 ^ 32
  pub max_stack : b.max_stack < 2 ^ 16
  pub locals : b.locals < 2 ^ 32
  pub count : length b.handlers ≤ (if b.fat_handlers then 699050 else 20)
  pub handlers : AllByRecursion (IsClause b.fat_handlers) b.handlers

-- a body that has a spelling
pub record HasSpelling (b : Body) : Type 0 where
  pub code : IsCode 0 b.code
  pub tiny : b.tiny ≡ true → IsTiny b
  pub fat : b.tiny ≡ false → IsFat b
  pub nesting : offender (is_start b.code (length (code_bytes b.code))) (length (code_bytes b.code)) b.handlers ≡ None

-- the targets of a switch are fewer than 2^32
abbrev pub targets_fit : Operand → Type 0
targets_fit (operand.Targets ts) = length ts < 2 ^ 32
targets_fit _ = Unit {0}

-- the grammar: which bytes spell which body
abbrev pub IsSpelledBy : List ℕ → Body → Type 0
IsSpelledBy text b = HasSpelling b × (f : Filler) × IsFiller f b × (text ≡ body_spelling f b)
