-- A header, and a code that is not longer than it says, are those of some body.
use Rattle.std.proofs.Common.{◌≡◌, ℕ, zero, suc, ◌+◌, ◌-◌, ◌≤◌, true, false, cond, List, [], ◌∷◌, ◌++◌, length, replicate, Ok, refl, sym, ap, ap₂, subst, ◌∙◌, append_assoc, arith, length-append}
use Rattle.std.proofs.lemmas.List.{length-replicate, append_cancel_left}
use Rattle.std.proofs.lemmas.List.Concat.{flat_map-append}
use Rattle.il_base.specs.declared.body.Body.{Body}
use Rattle.il_base.specs.declared.body.Form.TheVariants.{Nop}
use Rattle.il_base.specs.declared.body.Instr.{Instr}
use Rattle.il_base.specs.declared.body.Operand.TheVariants as operand
use Rattle.il_base.specs.declared.body_grammar.body.Header.{Header}
use Rattle.il_base.specs.body_grammar.HandlerRules.{is_start}
use Rattle.il_base.specs.body_grammar.Opcodes.{variables, constants, branches, arithmetic, objects, arrays, indirect, kind_of}
use Rattle.il_base.specs.body_grammar.Instructions.{instr_at}
use Rattle.il_base.specs.body_grammar.Bodies.{header_at, aligned, made}
use Rattle.il_base.specs.body_grammar.BodySpelling.{operand_bytes, opcode_bytes, instr_bytes, code_bytes, header_bytes, section_bytes, Filler, IsFiller, IsOperand, IsInstr, IsCode, HasSpelling, IsSpelledBy}
use Rattle.il_base.proofs.lemmas.body_grammar.ReadNumbers.{ok_is}
use Rattle.il_base.proofs.lemmas.body_grammar.ReadBodies.{header_text, IsTinyHeader, IsFatHeader, header_same, no_handlers_offend}
use Rattle.il_base.proofs.lemmas.body_grammar.WrittenCode.{instr_again, one_byte_or_more}
use Rattle.il_base.proofs.lemmas.body_grammar.WrittenBodies.{tiny_again, fat_again, by_header}

-- ---- code

abbrev nop : ℕ → Instr
nop at = record { at = at; form = Nop; opcode = 0; operand = operand.None }

-- so many instructions of one byte, from an IL offset on
abbrev pub nops : ℕ → ℕ → List Instr
nops zero at = []
nops (suc n) at = nop at ∷ nops n (at + 1)

nop_bytes : (at : ℕ) → instr_bytes (nop at) ≡ 0 ∷ []
unfolding instr_bytes opcode_bytes operand_bytes kind_of variables constants branches arithmetic objects arrays indirect
nop_bytes at = refl

nop_is : (at : ℕ) → IsInstr (nop at)
unfolding IsOperand kind_of variables constants branches arithmetic objects arrays indirect
nop_is at = record { opcode = omega arith; kind = refl; operand = refl }

pub nops_are : (n at : ℕ) → IsCode at (nops n at)
nops_are zero at = tt
nops_are (suc n) at = (refl, nop_is at, subst (λ (m : ℕ). IsCode (at + m) (nops n (at + 1))) (sym (ap length (nop_bytes at))) (nops_are n (at + 1)))

pub length-nops : (n at : ℕ) → length (code_bytes (nops n at)) ≡ n
length-nops zero at = refl
length-nops (suc n) at = omega (arith, length-append (instr_bytes (nop at)) (code_bytes (nops n (at + 1))), ap length (nop_bytes at), length-nops n (at + 1))

pub code_joined : (a b : List Instr) (at : ℕ) → IsCode at a → IsCode (at + length (code_bytes a)) b → IsCode at (a ++ b)
code_joined [] b at h k = let same : at + 0 ≡ at = omega arith in subst (λ (m : ℕ). IsCode m b) same k
code_joined (i ∷ a) b at h k =
    let same : at + length (instr_bytes i ++ code_bytes a) ≡ at + length (instr_bytes i) + length (code_bytes a) = omega (arith, length-append (instr_bytes i) (code_bytes a)) in
    (h.0, h.1, code_joined a b (at + length (instr_bytes i)) h.2 (subst (λ (m : ℕ). IsCode m b) same k))

-- a code whose bytes begin with those of another begins with it
pub record Continues (at : ℕ) (a c : List Instr) (rest : List ℕ) : Type 0 where
  pub more : List Instr
  pub all : c ≡ a ++ more
  pub is : IsCode (at + length (code_bytes a)) more
  pub bytes : code_bytes more ≡ rest

first_same : (i j : Instr) (at : ℕ) (x y : List ℕ) → i.at ≡ at → j.at ≡ at → IsInstr i → IsInstr j → instr_bytes i ++ x ≡ instr_bytes j ++ y → i ≡ j
first_same i j at x y ei ej hi hj e =
    let read : instr_at at 0 (instr_bytes i ++ x) ≡ Ok (i, length (instr_bytes i)) = ap (λ (n : ℕ). instr_at n 0 (instr_bytes i ++ x)) (sym ei) ∙ instr_again i 0 x hi in
    let again : instr_at at 0 (instr_bytes j ++ y) ≡ Ok (j, length (instr_bytes j)) = ap (λ (n : ℕ). instr_at n 0 (instr_bytes j ++ y)) (sym ej) ∙ instr_again j 0 y hj in
    ap (λ (p : Instr × ℕ). p.0) (ok_is (i, length (instr_bytes i)) (j, length (instr_bytes j)) (sym read ∙ ap (instr_at at 0) e ∙ again))

pub continues : (a c : List Instr) (at : ℕ) (rest : List ℕ) → IsCode at a → IsCode at c → code_bytes c ≡ code_bytes a ++ rest → Continues at a c rest
continues [] c at rest h k e =
    let same : at ≡ at + 0 = omega arith in
    record { more = c; all = refl; is = subst (λ (m : ℕ). IsCode m c) same k; bytes = e }
continues (i ∷ a) [] at rest h k e =
    absurd (omega (arith, ap length e, length-append (instr_bytes i ++ code_bytes a) rest, length-append (instr_bytes i) (code_bytes a), one_byte_or_more i))
continues (i ∷ a) (j ∷ c) at rest h k e =
    let whole : instr_bytes j ++ code_bytes c ≡ instr_bytes i ++ (code_bytes a ++ rest) = e ∙ append_assoc (instr_bytes i) (code_bytes a) rest in
    let same : j ≡ i = first_same j i at (code_bytes c) (code_bytes a ++ rest) k.0 h.0 k.1 h.1 whole in
    let behind : code_bytes c ≡ code_bytes a ++ rest = append_cancel_left (instr_bytes i) (code_bytes c) (code_bytes a ++ rest) (ap (λ (x : Instr). instr_bytes x ++ code_bytes c) (sym same) ∙ whole) in
    let is : IsCode (at + length (instr_bytes i)) c = subst (λ (x : Instr). IsCode (at + length (instr_bytes x)) c) same k.2 in
    let r = continues a c (at + length (instr_bytes i)) rest h.2 is behind in
    let place : at + length (instr_bytes i) + length (code_bytes a) ≡ at + length (instr_bytes i ++ code_bytes a) = omega (arith, length-append (instr_bytes i) (code_bytes a)) in
    record {
      more = r.more;
      all = ap₂ (λ (x : Instr) (l : List Instr). x ∷ l) same r.all;
      is = subst (λ (m : ℕ). IsCode m r.more) place r.is;
      bytes = r.bytes;
    }

-- ---- headers

-- the numbers of a header have their widths
pub record IsHeader (h : Header) : Type 0 where
  pub tiny : h.tiny ≡ true → IsTinyHeader h
  pub fat : h.tiny ≡ false → IsFatHeader h

-- a header is read whatever is after it
pub header_read : (h : Header) (rest : List ℕ) → IsHeader h → header_at (header_text h ++ rest) ≡ Ok h
header_read h rest is =
    by_header {P = header_at (header_text h ++ rest) ≡ Ok (record { tiny = h.tiny; init = h.init; sects = h.sects; max_stack = h.max_stack; size = h.size; locals = h.locals })} h.tiny
    (λ t. let k = is.tiny t in rw (t, k.init, k.max_stack, k.locals, k.sects) (tiny_again h.size rest k.size))
    (λ t. let k = is.fat t in rw t (fat_again h.sects h.init h.max_stack h.size h.locals rest k.max_stack k.size k.locals))

-- ---- bodies

-- a body whose spelling begins with a header and a code
pub record Completed (h : Header) (code : List Instr) : Type 0 where
  pub body : Body
  pub more : List ℕ
  pub spelled : IsSpelledBy (header_text h ++ (code_bytes code ++ more)) body

pub completes : (h : Header) (code : List Instr) → IsHeader h → IsCode 0 code → length (code_bytes code) ≤ h.size → Completed h code
completes h code is are enough =
    let d : ℕ = length (code_bytes code) in
    let rest : List Instr = nops (h.size - d) d in
    let all : List Instr = code ++ rest in
    let bytes : code_bytes all ≡ code_bytes code ++ code_bytes rest = flat_map-append instr_bytes code rest in
    let size : length (code_bytes all) ≡ h.size = omega (arith, ap length bytes, length-append (code_bytes code) (code_bytes rest), length-nops (h.size - d) d) in
    let n : ℕ = 12 + length (code_bytes all) in
    let b : Body = made h all false [] in
    let f : Filler = record { sects = h.sects; pad = replicate (aligned n - n) 0; reserved = 0 ∷ 0 ∷ [] } in
    let tail : List ℕ = cond h.sects (section_bytes f.pad f.reserved b) [] in
    let from : d ≡ 0 + d = omega arith in
    let has : HasSpelling b = record {
      code = code_joined code rest 0 are (subst (λ (m : ℕ). IsCode m rest) from (nops_are (h.size - d) d));
      tiny = λ t. let k = is.tiny t in record { size = omega (arith, size, k.size); init = k.init; max_stack = k.max_stack; locals = k.locals; fat_handlers = refl; handlers = refl };
      fat = λ t. let k = is.fat t in record { size = omega (arith, size, k.size); max_stack = k.max_stack; locals = k.locals; count = omega arith; handlers = tt };
      nesting = no_handlers_offend (is_start all (length (code_bytes all))) (length (code_bytes all));
    } in
    let fills : IsFiller f b = record { tiny = λ t. (is.tiny t).sects; needed = λ no. absurd cc; pad = length-replicate (aligned n - n) 0; reserved = refl } in
    let text : header_text h ++ (code_bytes code ++ (code_bytes rest ++ tail)) ≡ (header_bytes b h.sects (length (code_bytes all)) ++ code_bytes all) ++ tail =
    ap (λ (x : List ℕ). header_text h ++ x) (sym (append_assoc (code_bytes code) (code_bytes rest) tail) ∙ ap (λ (x : List ℕ). x ++ tail) (sym bytes))
    ∙ sym (append_assoc (header_text h) (code_bytes all) tail)
    ∙ ap (λ (x : List ℕ). (x ++ code_bytes all) ++ tail) (header_same h all false [] size) in
    record { body = b; more = code_bytes rest ++ tail; spelled = (has, f, fills, text) }
