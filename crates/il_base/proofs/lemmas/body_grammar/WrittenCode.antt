-- Instructions that were written are read again.
use Rattle.std.proofs.Common.{◌≡◌, ℕ, zero, suc, ◌+◌, ◌%◌, ◌<◌, ◌≤◌, true, false, ltb, eqb, List, [], ◌∷◌, ◌++◌, length, drop, Some, Result, Ok, inl, inr, refl, sym, ap, ◌∙◌, append_assoc, arith}
use Rattle.std.proofs.lemmas.Bool.{cases_lt, lt-ltb, le-ltb, ne_eqb}
use Rattle.std.proofs.lemmas.List.{length-append, drop_at, append-nil}
use Rattle.il_base.specs.Bytes.{number_at}
use Rattle.il_base.specs.declared.body.Form.{Form}
use Rattle.il_base.specs.declared.body.Instr.{Instr}
use Rattle.il_base.specs.declared.body.Operand.{Operand}
use Rattle.il_base.specs.declared.body_grammar.body.Fault.{Fault}
use Rattle.il_base.specs.declared.body_grammar.body.Inline.{Inline}
use Rattle.il_base.specs.body_grammar.Faults.{◌>>=◌}
use Rattle.il_base.specs.body_grammar.Opcodes.{kind_of}
use Rattle.il_base.specs.body_grammar.Instructions.{opcode_at, kind_at, operand_at, instr_at, code_after}
use Rattle.il_base.specs.body_grammar.BodySpelling.{inline_in, opcode_size, opcode_bytes, operand_bytes, instr_bytes, code_bytes, IsInstr, IsCode}
use Rattle.il_base.proofs.lemmas.body_grammar.WrittenNumbers.{byte_front, number_shift}
use Rattle.il_base.proofs.lemmas.body_grammar.WrittenOperands.{operand_again}
use Rattle.il_base.proofs.lemmas.body_grammar.TableBounds.{IsPlaced, opcode_placed}

-- an opcode of the table, and how many bytes it has
opcode_again : (op place : ℕ) (rest : List ℕ) → IsPlaced op → opcode_at place (opcode_bytes op ++ rest) ≡ Ok (op, opcode_size op)
unfolding opcode_at opcode_bytes
opcode_again op place rest (inl small) =
    let one : ltb op 256 ≡ true = lt-ltb op 256 (omega arith) in
    let not_fe : eqb op 254 ≡ false = ne_eqb op 254 (λ e. omega arith) in
    rw one (rw (byte_front op rest) (rw not_fe refl))
opcode_again op place rest (inr both) =
    let two : ltb op 256 ≡ false = le-ltb op 256 (omega arith) in
    let second : number_at 1 (254 ∷ op % 256 ∷ rest) 1 ≡ Some (op % 256) = number_shift 1 1 0 (254 ∷ []) (op % 256 ∷ rest) refl ∙ byte_front (op % 256) rest in
    let same : 65024 + op % 256 ≡ op = omega arith in
    rw two (rw (byte_front 254 (op % 256 ∷ rest)) (rw second (ap (λ (n : ℕ). Ok (n, 2)) same)))

length-opcode : (op : ℕ) → length (opcode_bytes op) ≡ opcode_size op
unfolding opcode_bytes
length-opcode op =
    elim (cases_lt op 256) [
      | inl lt ↦ rw (lt-ltb op 256 lt) refl
      | inr le ↦ rw (le-ltb op 256 le) refl
    ]

instr_from : (at place : ℕ) (bs : List ℕ) (op size : ℕ) (form : Form) (kind : Inline) (o : Operand) (n : ℕ)
    → opcode_at place bs ≡ Ok (op, size) → kind_of op ≡ Some (form, kind) → operand_at kind op (at + size) (drop size bs) ≡ Some (o, n)
    → instr_at at place bs ≡ Ok (record { at = at; form = form; opcode = op; operand = o }, size + n)
unfolding instr_at kind_at
instr_from at place bs op size form kind o n e1 e2 e3 = rw (e1, e2, e3) refl

pub instr_again : (i : Instr) (place : ℕ) (rest : List ℕ) → IsInstr i → instr_at i.at place (instr_bytes i ++ rest) ≡ Ok (i, length (instr_bytes i))
unfolding instr_bytes
instr_again i place rest h =
    let kind : Inline = inline_in (kind_of i.opcode) in
    let next : ℕ = i.at + opcode_size i.opcode in
    let operand : List ℕ = operand_bytes kind next i.operand in
    let bs : List ℕ = opcode_bytes i.opcode ++ (operand ++ rest) in
    let regrouped : (opcode_bytes i.opcode ++ operand) ++ rest ≡ bs = append_assoc (opcode_bytes i.opcode) operand rest in
    let behind : drop (opcode_size i.opcode) bs ≡ operand ++ rest =
    drop_at (opcode_bytes i.opcode) (operand ++ rest) (opcode_size i.opcode) (length-opcode i.opcode) in
    let size : opcode_size i.opcode + length operand ≡ length (opcode_bytes i.opcode ++ operand) =
    omega (arith, length-append (opcode_bytes i.opcode) operand, length-opcode i.opcode) in
    ap (instr_at i.at place) regrouped
    ∙ instr_from i.at place bs i.opcode (opcode_size i.opcode) i.form kind i.operand (length operand)
    (opcode_again i.opcode place (operand ++ rest) (opcode_placed i.opcode (i.form, kind) h.kind)) h.kind
    (ap (operand_at kind i.opcode next) behind ∙ operand_again kind i.opcode next i.operand rest h.operand)
    ∙ ap (λ (n : ℕ). Ok (i, n)) size

pub one_byte_or_more : (i : Instr) → 0 < length (instr_bytes i)
unfolding instr_bytes
one_byte_or_more i =
    let size : 0 < opcode_size i.opcode = elim (cases_lt i.opcode 256) [ inl lt ↦ rw (lt-ltb i.opcode 256 lt) (omega arith) | inr le ↦ rw (le-ltb i.opcode 256 le) (omega arith) ] in
    omega (arith, length-append (opcode_bytes i.opcode) (operand_bytes (inline_in (kind_of i.opcode)) (i.at + opcode_size i.opcode) i.operand), length-opcode i.opcode)

pub code_step : (n base at : ℕ) (before : List Instr) (bs : List ℕ) → 0 < length bs
    → code_after (suc n) base at before bs ≡ (instr_at at (base + at) bs >>= λ i. code_after n base (at + i.1) (before ++ i.0 ∷ []) (drop i.1 bs))
unfolding code_after
code_step n base at before [] h = absurd (omega arith)
code_step n base at before (b ∷ bs) h = refl

pub no_more : (bound base at : ℕ) (before : List Instr) → code_after bound base at before [] ≡ Ok before
unfolding code_after
no_more zero base at before = refl
no_more (suc n) base at before = refl

pub code_again : (is : List Instr) (bound base at : ℕ) (before : List Instr) → IsCode at is → length (code_bytes is) ≤ bound
    → code_after bound base at before (code_bytes is) ≡ Ok (before ++ is)
code_again [] bound base at before h enough = no_more bound base at before ∙ ap (λ (is : List Instr). Ok is) (sym (append-nil before))
code_again (i ∷ is) zero base at before h enough =
    absurd (omega (arith, one_byte_or_more i, length-append (instr_bytes i) (code_bytes is)))
code_again (i ∷ is) (suc n) base at before h enough =
    let size : ℕ = length (instr_bytes i) in
    let bs : List ℕ = instr_bytes i ++ code_bytes is in
    let long : 0 < length bs = omega (arith, one_byte_or_more i, length-append (instr_bytes i) (code_bytes is)) in
    let read : instr_at at (base + at) bs ≡ Ok (i, size) =
    ap (λ (x : ℕ). instr_at x (base + at) bs) (sym h.0) ∙ instr_again i (base + at) (code_bytes is) h.1 in
    code_step n base at before bs long
    ∙ ap (λ (r : Result (Instr × ℕ) Fault). r >>= λ i. code_after n base (at + i.1) (before ++ i.0 ∷ []) (drop i.1 bs)) read
    ∙ ap (λ (x : List ℕ). code_after n base (at + size) (before ++ i ∷ []) x) (drop_at (instr_bytes i) (code_bytes is) size refl)
    ∙ code_again is n base (at + size) (before ++ i ∷ []) h.2 (omega (arith, one_byte_or_more i, length-append (instr_bytes i) (code_bytes is)))
    ∙ ap (λ (x : List Instr). Ok x) (append_assoc before (i ∷ []) is)
