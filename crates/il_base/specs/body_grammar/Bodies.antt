-- Method bodies (II.25.4): the body at the front of the bytes, or the first fault. Places count bytes from its start.
use Rattle.std.specs.Prelude.{ℕ, zero, suc, ◌+◌, ◌*◌, ◌/◌, ◌%◌, Bool, true, false, ◌==◌, ◌||◌, nat_lt, List, [], ◌∷◌, ◌++◌, length, take, drop, Option, Some, None, Result, Ok, Err, if◌then◌else◌}
use Rattle.il_base.specs.Bytes.{number_at}
use Rattle.il_base.specs.declared.body.Body.{Body}
use Rattle.il_base.specs.declared.body.Handler.{Handler}
use Rattle.il_base.specs.declared.body.Instr.{Instr}
use Rattle.il_base.specs.declared.outside.TheConstants.{FILTER, BODY}
use Rattle.il_base.specs.declared.body_grammar.body.Fault.{Fault}
use Rattle.il_base.specs.declared.body_grammar.body.Header.{Header}
use Rattle.il_base.specs.body_grammar.Faults.{◌>>=◌, fault, need}
use Rattle.il_base.specs.body_grammar.Instructions.{code_at}
use Rattle.il_base.specs.body_grammar.HandlerRules.{is_start, offender}

-- a number, whose bytes are there; else the bytes are cut short
abbrev pub field_at : ℕ → List ℕ → ℕ → Result ℕ Fault
field_at n bs at = need (number_at n bs at) (fault (length bs) BODY)

-- InitLocals and MoreSects by the low byte of a fat header's flags, whose low two bits are 3
unfoldable pub flags_of : ℕ → Option (Bool × Bool)
flags_of n =
    if n == 0x03 then Some (false, false)
    else if n == 0x0b then Some (false, true)
    else if n == 0x13 then Some (true, false)
    else if n == 0x1b then Some (true, true)
    else None

-- a header of twelve bytes; the high byte of the flags has the header's size in words in its upper four bits
unfoldable pub fat_at : ℕ → List ℕ → Result Header Fault
fat_at first bs =
    need (flags_of first) (fault 0 BODY) >>= λ flags.
    field_at 1 bs 1 >>= λ high.
    if high == 0x30 then (
    field_at 2 bs 2 >>= λ stack.
    field_at 4 bs 4 >>= λ size.
    field_at 4 bs 8 >>= λ locals.
    Ok (record { tiny = false; init = flags.0; sects = flags.1; max_stack = stack; size = size; locals = locals }))
    else Err (fault 1 BODY)

-- a header: one byte, whose low two bits are 2 and which has the size above them, or twelve
unfoldable pub header_at : List ℕ → Result Header Fault
header_at bs =
    field_at 1 bs 0 >>= λ first.
    if first % 4 == 2 then Ok (record { tiny = true; init = false; sects = false; max_stack = 8; size = first / 4; locals = 0 })
    else fat_at first bs

abbrev pub header_size : Bool → ℕ
header_size tiny = if tiny then 1 else 12

-- the next multiple of 4
abbrev pub aligned : ℕ → ℕ
aligned n = (n + 3) / 4 * 4

abbrev pub clause_size : Bool → ℕ
clause_size fat = if fat then 24 else 12

-- the number of small clauses, by the section's size in one byte; two bytes after it aren't looked at
unfoldable pub small_section_at : ℕ → List ℕ → Result ℕ Fault
small_section_at at bs =
    field_at 1 bs (at + 1) >>= λ size.
    if size % 12 == 4 then (field_at 2 bs (at + 2) >>= λ reserved. Ok (size / 12))
    else Err (fault (at + 1) BODY)

-- The number of fat clauses, by the section's size in three bytes. No size has a first byte that is not 4 more than a
-- multiple of 8; the last byte is the first that none allows where the whole is not 4 more than a multiple of 24.
unfoldable pub fat_section_at : ℕ → List ℕ → Result ℕ Fault
fat_section_at at bs =
    field_at 1 bs (at + 1) >>= λ low.
    if low % 8 == 4 then (
    field_at 2 bs (at + 1) >>= λ front.
    field_at 1 bs (at + 3) >>= λ high.
    if (front + 65536 * high) % 24 == 4 then Ok ((front + 65536 * high) / 24) else Err (fault (at + 3) BODY))
    else Err (fault (at + 1) BODY)

-- whether the section at a place is fat, and how many clauses it has. A section with another after it has no reading.
unfoldable pub section_at : ℕ → List ℕ → Result (Bool × ℕ) Fault
section_at at bs =
    field_at 1 bs at >>= λ kind.
    if kind == 0x01 then (small_section_at at bs >>= λ n. Ok (false, n))
    else if kind == 0x41 then (fat_section_at at bs >>= λ n. Ok (true, n))
    else Err (fault at BODY)

-- a byte that is zero
unfoldable pub zero_at : ℕ → List ℕ → Result ℕ Fault
zero_at at bs = field_at 1 bs at >>= λ b. if b == 0 then Ok 0 else Err (fault at BODY)

-- the kind in the low byte of a clause's flags: 0 catch, 2 finally, 4 fault; 1 is a filter
unfoldable pub clause_kind_at : ℕ → List ℕ → Result ℕ Fault
clause_kind_at at bs =
    field_at 1 bs at >>= λ kind.
    if kind == 1 then Err (fault at FILTER)
    else if kind == 0 || kind == 2 || kind == 4 then Ok kind
    else Err (fault at BODY)

-- a clause of 12 bytes (II.25.4.6)
unfoldable pub small_clause_at : ℕ → List ℕ → Result Handler Fault
small_clause_at at bs =
    clause_kind_at at bs >>= λ kind.
    zero_at (at + 1) bs >>= λ high.
    field_at 2 bs (at + 2) >>= λ try_at.
    field_at 1 bs (at + 4) >>= λ try_len.
    field_at 2 bs (at + 5) >>= λ start.
    field_at 1 bs (at + 7) >>= λ len.
    field_at 4 bs (at + 8) >>= λ token.
    Ok (record { kind = kind; try_at = try_at; try_len = try_len; at = start; len = len; token = token })

-- a clause of 24 bytes
unfoldable pub fat_clause_at : ℕ → List ℕ → Result Handler Fault
fat_clause_at at bs =
    clause_kind_at at bs >>= λ kind.
    zero_at (at + 1) bs >>= λ second.
    zero_at (at + 2) bs >>= λ third.
    zero_at (at + 3) bs >>= λ fourth.
    field_at 4 bs (at + 4) >>= λ try_at.
    field_at 4 bs (at + 8) >>= λ try_len.
    field_at 4 bs (at + 12) >>= λ start.
    field_at 4 bs (at + 16) >>= λ len.
    field_at 4 bs (at + 20) >>= λ token.
    Ok (record { kind = kind; try_at = try_at; try_len = try_len; at = start; len = len; token = token })

abbrev pub clause_at : Bool → ℕ → List ℕ → Result Handler Fault
clause_at fat at bs = if fat then fat_clause_at at bs else small_clause_at at bs

-- after a clause that was read come the others; a fault ends the list with the clauses before it
abbrev pub clauses_then : List Handler → Result Handler Fault → (Handler → List Handler × Option Fault) → List Handler × Option Fault
clauses_then before (Ok h) next = next h
clauses_then before (Err f) next = (before, Some f)

-- so many clauses from a place on, after those before, up to the first fault
unfoldable pub clauses_after : ℕ → Bool → ℕ → List ℕ → List Handler → List Handler × Option Fault
clauses_after zero fat at bs before = (before, None)
clauses_after (suc n) fat at bs before =
    clauses_then before (clause_at fat at bs) (λ h. clauses_after n fat (at + clause_size fat) bs (before ++ h ∷ []))

abbrev pub unless : List Handler → Option Fault → Result (List Handler) Fault
unless hs None = Ok hs
unless hs (Some f) = Err f

-- The clauses that were read, the first of which stands at a place, where all meet the rules. The first clause that doesn't is the
-- fault, before any fault in the bytes after them.
abbrev pub accepted : ℕ → ℕ → Option ℕ → List Handler × Option Fault → Result (List Handler) Fault
accepted at step None read = unless read.0 read.1
accepted at step (Some i) read = Err (fault (at + i * step) BODY)

-- the handler section at a place: whether it is fat, its clauses, and where it ends
unfoldable pub handlers_at : List Instr → ℕ → ℕ → List ℕ → Result (Bool × List Handler × ℕ) Fault
handlers_at code size at bs =
    section_at at bs >>= λ s.
    let read = clauses_after s.1 s.0 (at + 4) bs [] in
    accepted (at + 4) (clause_size s.0) (offender (is_start code size) size read.0) read >>= λ hs.
    Ok (s.0, hs, at + 4 + s.1 * clause_size s.0)

abbrev pub made : Header → List Instr → Bool → List Handler → Body
made h code fat hs = record {
  tiny = h.tiny;
  init = h.init;
  max_stack = h.max_stack;
  locals = h.locals;
  code = code;
  fat_handlers = fat;
  handlers = hs;
}

-- the body of a header and a code that ends at a place, with its handler section if it has one, and where it ends
abbrev pub with_handlers : Header → List Instr → ℕ → List ℕ → Result (Body × ℕ) Fault
with_handlers h code end bs =
    if h.sects then (handlers_at code h.size (aligned end) bs >>= λ s. Ok (made h code s.0 s.1, s.2))
    else Ok (made h code false [], end)

-- the body at the front of the bytes, and how many bytes it takes
unfoldable pub body_at : List ℕ → Result (Body × ℕ) Fault
body_at bs =
    header_at bs >>= λ h.
    let from = header_size h.tiny in
    code_at from (take h.size (drop from bs)) >>= λ code.
    if nat_lt (length bs) (from + h.size) then Err (fault (length bs) BODY)
    else with_handlers h code (from + h.size) bs
