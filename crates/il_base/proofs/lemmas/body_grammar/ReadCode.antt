-- Instructions that are read are spelled by the bytes they were read from.
use Rattle.std.proofs.Common.{◌≡◌, ℕ, zero, suc, ◌+◌, ◌%◌, ◌<◌, ◌≤◌, Bool, true, false, cond, ltb, eqb, List, [], ◌∷◌, ◌++◌, length, take, drop, Some, Ok, inl, inr, refl, sym, ap, ap₂, subst, ◌∙◌, append_assoc, arith}
use Rattle.std.proofs.lemmas.Bool.{lt-ltb, le-ltb, eqb-true}
use Rattle.std.proofs.lemmas.List.{length-drop, length-take, append-nil, take-append-drop}
use Rattle.il_base.specs.Bytes.{number_at}
use Rattle.il_base.specs.declared.body.Form.{Form}
use Rattle.il_base.specs.declared.body.Instr.{Instr}
use Rattle.il_base.specs.declared.body.Operand.{Operand}
use Rattle.il_base.specs.declared.outside.TheConstants.{BODY, FLOAT, INSTRUCTION}
use Rattle.il_base.specs.declared.body_grammar.body.Inline.{Inline}
use Rattle.il_base.specs.body_grammar.Faults.{◌>>=◌, need, fault}
use Rattle.il_base.specs.body_grammar.Opcodes.{kind_of, is_float}
use Rattle.il_base.specs.body_grammar.Instructions.{opcode_at, kind_at, operand_at, instr_at, code_after}
use Rattle.il_base.specs.body_grammar.BodySpelling.{inline_in, opcode_size, opcode_bytes, operand_bytes, instr_bytes, code_bytes, IsOperand, IsInstr, IsCode}
use Rattle.il_base.proofs.lemmas.body_grammar.WrittenCode.{one_byte_or_more, code_step, no_more}
use Rattle.il_base.proofs.lemmas.body_grammar.ReadNumbers.{IsBytes, bytes-drop, bind_ok, need_ok, either_ok, ok_is, take-add, is_1}
use Rattle.il_base.proofs.lemmas.body_grammar.ReadOperands.{operand_takes}

record TakesOpcode (bs : List ℕ) (x : ℕ × ℕ) : Type 0 where
  fits : x.0 < 65536
  size : x.1 ≡ opcode_size x.0
  spelled : take x.1 bs ≡ opcode_bytes x.0
  within : x.1 ≤ length bs

opcode_takes : (place : ℕ) (bs : List ℕ) (x : ℕ × ℕ) → IsBytes bs → opcode_at place bs ≡ Ok x → TakesOpcode bs x
unfolding opcode_at opcode_bytes
opcode_takes place bs x fits e =
    let p = bind_ok (need (number_at 1 bs 0) (fault place BODY))
    (λ first. cond (eqb first 254) (need (number_at 1 bs 1) (fault place BODY) >>= λ second. Ok (65024 + second, 2)) (Ok (first, 1))) x e in
    let f = is_1 p.0 0 bs fits (need_ok (number_at 1 bs 0) (fault place BODY) p.0 p.1) in
    let low : p.0 % 256 ≡ p.0 = omega (arith, f.fits) in
    elim (either_ok (eqb p.0 254) (need (number_at 1 bs 1) (fault place BODY) >>= λ second. Ok (65024 + second, 2)) (Ok (p.0, 1)) x p.2) [
      | inl two ↦
          let fe : p.0 ≡ 254 = eqb-true p.0 254 two.0 in
          let q = bind_ok (need (number_at 1 bs 1) (fault place BODY)) (λ second. Ok (65024 + second, 2)) x two.1 in
          let g = is_1 q.0 1 bs fits (need_ok (number_at 1 bs 1) (fault place BODY) q.0 q.1) in
          let high : ltb (65024 + q.0) 256 ≡ false = le-ltb (65024 + q.0) 256 (omega arith) in
          let same : q.0 % 256 ≡ (65024 + q.0) % 256 = omega (arith, g.fits) in
          subst (TakesOpcode bs) (ok_is (65024 + q.0, 2) x q.2) (record {
            fits = omega (arith, g.fits);
            size = ap (λ (b : Bool). cond b 1 2) (sym high);
            spelled = take-add 1 1 bs ∙ ap₂ (λ (a b : List ℕ). a ++ b) (f.spelled ∙ ap (λ (n : ℕ). n ∷ []) (low ∙ fe)) (g.spelled ∙ ap (λ (n : ℕ). n ∷ []) same)
                ∙ ap (λ (b : Bool). cond b ((65024 + q.0) ∷ []) (254 ∷ (65024 + q.0) % 256 ∷ [])) (sym high);
            within = omega (arith, g.within);
          })
      | inr one ↦
          let small : ltb p.0 256 ≡ true = lt-ltb p.0 256 f.fits in
          subst (TakesOpcode bs) (ok_is (p.0, 1) x one.1) (record {
            fits = omega (arith, f.fits);
            size = ap (λ (b : Bool). cond b 1 2) (sym small);
            spelled = f.spelled ∙ ap (λ (n : ℕ). n ∷ []) low ∙ ap (λ (b : Bool). cond b (p.0 ∷ []) (254 ∷ p.0 % 256 ∷ [])) (sym small);
            within = omega (arith, f.within);
          })
    ]

-- an instruction and the bytes that it takes
pub record TakesInstr (from : ℕ) (bs : List ℕ) (x : Instr × ℕ) : Type 0 where
  pub at : x.0.at ≡ from
  pub is : IsInstr x.0
  pub spelled : take x.1 bs ≡ instr_bytes x.0
  pub within : x.1 ≤ length bs

pub instr_takes : (at place : ℕ) (bs : List ℕ) (x : Instr × ℕ) → IsBytes bs → instr_at at place bs ≡ Ok x → TakesInstr at bs x
unfolding instr_at kind_at instr_bytes
instr_takes at place bs x fits e =
    let p = bind_ok (opcode_at place bs) (λ op. kind_at place op.0 >>= λ kind. need (operand_at kind.1 op.0 (at + op.1) (drop op.1 bs)) (fault place BODY) >>= λ o.
    Ok (record { at = at; form = kind.0; opcode = op.0; operand = o.0 }, op.1 + o.1)) x e in
    let op : ℕ = p.0.0 in
    let size : ℕ = p.0.1 in
    let q = bind_ok (kind_at place op) (λ kind. need (operand_at kind.1 op (at + size) (drop size bs)) (fault place BODY) >>= λ o.
    Ok (record { at = at; form = kind.0; opcode = op; operand = o.0 }, size + o.1)) x p.2 in
    let kind : Form × Inline = q.0 in
    let r = bind_ok (need (operand_at kind.1 op (at + size) (drop size bs)) (fault place BODY)) (λ o. Ok (record { at = at; form = kind.0; opcode = op; operand = o.0 }, size + o.1)) x q.2 in
    let o : Operand × ℕ = r.0 in
    let opcode = opcode_takes place bs p.0 fits p.1 in
    let known : kind_of op ≡ Some kind = need_ok (kind_of op) (fault place (cond (is_float op) FLOAT INSTRUCTION)) kind q.1 in
    let inner : inline_in (kind_of op) ≡ kind.1 = ap inline_in known in
    let takes = operand_takes kind.1 op (at + size) (drop size bs) o (bytes-drop size bs fits)
    (need_ok (operand_at kind.1 op (at + size) (drop size bs)) (fault place BODY) o r.1) in
    let fit : IsOperand (inline_in (kind_of op)) op (at + opcode_size op) o.0 =
    subst (λ (n : ℕ). IsOperand (inline_in (kind_of op)) op (at + n) o.0) opcode.size
    (subst (λ (k : Inline). IsOperand k op (at + size) o.0) (sym inner) takes.is) in
    let text : take (size + o.1) bs ≡ opcode_bytes op ++ operand_bytes (inline_in (kind_of op)) (at + opcode_size op) o.0 =
    take-add size o.1 bs ∙ ap₂ (λ (a b : List ℕ). a ++ b) opcode.spelled
    (takes.spelled ∙ ap₂ (λ (k : Inline) (n : ℕ). operand_bytes k (at + n) o.0) (sym inner) opcode.size) in
    subst (TakesInstr at bs) (ok_is (record { at = at; form = kind.0; opcode = op; operand = o.0 }, size + o.1) x r.2) (record {
      at = refl;
      is = record { opcode = opcode.fits; kind = known ∙ ap (λ (k : Inline). Some (kind.0, k)) (sym inner); operand = fit };
      spelled = text;
      within = omega (arith, takes.within, opcode.within, length-drop size bs);
    })

-- instructions and the bytes that they take, after those before
pub record TakesCode (from : ℕ) (bs : List ℕ) (before total : List Instr) : Type 0 where
  pub code : List Instr
  pub out : total ≡ before ++ code
  pub is : IsCode from code
  pub spelled : code_bytes code ≡ bs

pub code_takes : (bound base at : ℕ) (before : List Instr) (bs : List ℕ) (out : List Instr) → IsBytes bs → length bs ≤ bound
    → code_after bound base at before bs ≡ Ok out → TakesCode at bs before out
code_takes bound base at before [] out fits enough e =
    record { code = []; out = sym (ok_is before out (sym (no_more bound base at before) ∙ e)) ∙ sym (append-nil before); is = tt; spelled = refl }
code_takes zero base at before (b ∷ bs) out fits enough e = absurd (omega arith)
code_takes (suc n) base at before (b ∷ bs) out fits enough e =
    let all : List ℕ = b ∷ bs in
    let long : 0 < length all = omega arith in
    let p = bind_ok (instr_at at (base + at) all) (λ i. code_after n base (at + i.1) (before ++ i.0 ∷ []) (drop i.1 all)) out
    (sym (code_step n base at before all long) ∙ e) in
    let i : Instr = p.0.0 in
    let size : ℕ = p.0.1 in
    let takes = instr_takes at (base + at) all p.0 fits p.1 in
    let len : length (instr_bytes i) ≡ size = omega (arith, ap length (sym takes.spelled), length-take size all, takes.within) in
    let rest = code_takes n base (at + size) (before ++ i ∷ []) (drop size all) out (bytes-drop size all fits) (omega (arith, length-drop size all, one_byte_or_more i)) p.2 in
    record {
      code = i ∷ rest.code;
      out = rest.out ∙ append_assoc before (i ∷ []) rest.code;
      is = (takes.at, takes.is, subst (λ (m : ℕ). IsCode (at + m) rest.code) (sym len) rest.is);
      spelled = ap₂ (λ (x y : List ℕ). x ++ y) (sym takes.spelled) rest.spelled ∙ take-append-drop size all;
    }
