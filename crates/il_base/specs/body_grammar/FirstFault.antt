-- Where bytes that spell no body go wrong: what the place of a fault of `body_at` says. Places count bytes from the start.
use Rattle.std.specs.Prelude.{◌≡◌, ℕ, suc, ◌+◌, ◌<◌, ◌≤◌, true, List, ◌++◌, length, take, drop, slice_get, Some, Ok, Err}
use Rattle.il_base.specs.declared.body.Body.{Body}
use Rattle.il_base.specs.declared.body.Instr.{Instr}
use Rattle.il_base.specs.declared.body_grammar.body.Fault.{Fault}
use Rattle.il_base.specs.declared.body_grammar.body.Header.{Header}
use Rattle.il_base.specs.body_grammar.Bodies.{header_at, header_size}
use Rattle.il_base.specs.body_grammar.BodySpelling.{instr_bytes, IsSpelledBy}

-- the bytes before a place begin the spelling of some body
abbrev pub Begins : List ℕ → ℕ → Type 0
Begins bs at = (b : Body) × (more : List ℕ) × IsSpelledBy (take at bs ++ more) b

-- The first byte that no body allows, or the end of bytes that end too early: the bytes before it begin the spelling of some
-- body, and these bytes with it begin none.
pub record IsFirstBad (bs : List ℕ) (at : ℕ) : Type 0 where
  pub within : at ≤ length bs
  pub begun : Begins bs at
  pub never : (b : Body) (text : List ℕ) → IsSpelledBy text b → take (suc at) text ≡ take (suc at) bs → ⊥

-- an instruction of a body, and its place in a spelling
abbrev pub HasInstr : Body → ℕ → Instr → Type 0
HasInstr b at i = (k : ℕ) × (slice_get b.code k ≡ Some i) × (header_size b.tiny + i.at ≡ at)

-- The first instruction that no body has there: the bytes before it begin the spelling of some body, and each body whose
-- spelling begins with them has an instruction at that place, whose bytes are not those that are there.
pub record IsFirstBadInstr (bs : List ℕ) (at : ℕ) : Type 0 where
  pub within : at ≤ length bs
  pub begun : Begins bs at
  pub other : (b : Body) (text : List ℕ) → IsSpelledBy text b → take at text ≡ take at bs
      → (i : Instr) × HasInstr b at i × (take (length (instr_bytes i)) (drop at bs) ≡ instr_bytes i → ⊥)

-- What a fault says of its place: in the header the first byte that no body allows, in the code the first instruction that no
-- body has there; in the handler section, that the header and the code are those of some body.
pub data IsFirstFault (bs : List ℕ) (f : Fault) : Type 0 where
  in_header : header_at bs ≡ Err f → IsFirstBad bs f.at → IsFirstFault bs f
  in_code : (h : Header) → header_at bs ≡ Ok h → header_size h.tiny ≤ f.at → f.at < header_size h.tiny + h.size
      → IsFirstBadInstr bs f.at → IsFirstFault bs f
  in_section : (h : Header) → header_at bs ≡ Ok h → h.sects ≡ true → header_size h.tiny + h.size ≤ f.at
      → Begins bs (header_size h.tiny + h.size) → IsFirstFault bs f
